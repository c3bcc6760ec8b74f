-- Lines of the lister, evaluated.
use mathlib.Core.Path.{◌≡◌, refl, sym}
use mathlib.Core.List.{[], ◌∷◌}
use native.Mathlib.Omega.{arith}
use Rattle.machine.specs.Answers.{StepSaid}
use Rattle.listing.specs.Text.{codes, numeral, numeral_by, answer_text, step_words, step_text, refused_words, refusal_text, heading_words, heading_text}
use Rattle.listing.proofs.NumeralLaws.{spelled}

-- the codes themselves, once
a_job : step_text 4 (StepSaid.job 5 3) ≡ 52 ∷ 32 ∷ 106 ∷ 111 ∷ 98 ∷ 32 ∷ 53 ∷ 10 ∷ []
unfolding step_words answer_text numeral numeral_by
a_job = refl

-- the largest job number, by its ten digits: its turns are too many to evaluate
largest_job : numeral 4294967295 ≡ codes "4294967295"
largest_job = sym (spelled 4294967295 10 (codes "4294967295") (omega arith, omega arith, λ _. omega arith) refl)

a_heading : heading_text 5 2 21 ≡ codes "vertices 5 jobs 2 steps 21\n"
unfolding heading_words numeral numeral_by
a_heading = refl

an_edge : step_text 0 (StepSaid.edge 1024 409) ≡ codes "0 edge 1024 409\n"
unfolding step_words answer_text numeral numeral_by
an_edge = refl

a_yield : step_text 0 StepSaid.yield ≡ codes "0 yield\n"
unfolding step_words answer_text numeral numeral_by
a_yield = refl

a_refusal : refusal_text 5 2 ≡ codes "refused 5 2\n"
unfolding refused_words numeral numeral_by
a_refusal = refl
