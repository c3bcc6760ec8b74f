-- No line of the lister is longer than 64 bytes, its end included, whatever numbers below 2 ^ 32 a step answers.
use Prim.Native.Nat.{ℕ, ◌^◌, ◌≤◌, ◌<◌}
use Rattle.std.specs.Prelude.{⊤}
use native.Mathlib.Omega.{arith}
use lib.ListN.{length, length-append}
use Rattle.machine.specs.Answers.{StepSaid}
use Rattle.listing.specs.Text.{answer_text, step_words, step_text, refused_words, refusal_text, heading_words, heading_text}
use Rattle.listing.proofs.NumeralLaws.{numeral_short, numeral_longer}
use mathlib.Core.Path.{◌≡◌, ap}
use Rattle.std.specs.Prelude.{Result, Ok, Err, IsErrAnd}
use Rattle.graph.specs.declared.Tally.{Tally}
use Rattle.refusal.specs.declared.Reason.{Reason}
use Rattle.refusal.specs.declared.Refusal.{Refusal}
use Rattle.refusal.specs.Reasons.{number}
use Rattle.listing.specs.declared.text.Heading.{Heading}
use Rattle.program.specs.Trees.{Counts}
use Rattle.program.specs.declared.Edition.{Edition}
use Rattle.program.specs.declared.Edition.TheVariants.{First, Second}
use Rattle.program.specs.Encodings.{vertex_formula, step_formula, fork_vertices, fork_steps}
use Rattle.listing.specs.Lines.{first_text}

-- every number of an answer is below 2 ^ 32
abbrev pub Small : StepSaid → Type 0
Small StepSaid.start = ⊤
Small (StepSaid.new v) = v < 2 ^ 32
Small (StepSaid.edge a b) = (a < 2 ^ 32) × (b < 2 ^ 32)
Small (StepSaid.release v) = v < 2 ^ 32
Small (StepSaid.transfer v) = v < 2 ^ 32
Small (StepSaid.job n o) = n < 2 ^ 32
Small StepSaid.stop = ⊤
Small StepSaid.yield = ⊤
Small (StepSaid.refused n p) = (n < 2 ^ 32) × (p < 2 ^ 32)

refused_short : (n p : ℕ) → n < 2 ^ 32 → p < 2 ^ 32 → length (refused_words n p) ≤ 29
unfolding refused_words
refused_short n p small few = simp length-append (omega (arith, numeral_short n small, numeral_short p few))

answer_short : (a : StepSaid) → Small a → length (answer_text a) ≤ 29
unfolding answer_text
answer_short StepSaid.start small = omega arith
answer_short (StepSaid.new v) small = simp length-append (omega (arith, numeral_short v small))
answer_short (StepSaid.edge a b) small = simp length-append (omega (arith, numeral_short a small.0, numeral_short b small.1))
answer_short (StepSaid.release v) small = simp length-append (omega (arith, numeral_short v small))
answer_short (StepSaid.transfer v) small = simp length-append (omega (arith, numeral_short v small))
answer_short (StepSaid.job n o) small = simp length-append (omega (arith, numeral_short n small))
answer_short StepSaid.stop small = omega arith
answer_short StepSaid.yield small = omega arith
answer_short (StepSaid.refused n p) small = refused_short n p small.0 small.1

pub step_short : (v : ℕ) (a : StepSaid) → v < 2 ^ 32 → Small a → length (step_text v a) ≤ 64
unfolding step_words
step_short v a few small = simp length-append (omega (arith, numeral_short v few, answer_short a small))

pub refusal_short : (n p : ℕ) → n < 2 ^ 32 → p < 2 ^ 32 → length (refusal_text n p) ≤ 64
refusal_short n p small few = simp length-append (omega (arith, refused_short n p small few))

pub heading_short : (v w n : ℕ) → v < 10 ^ 12 → w < 2 ^ 32 → n < 10 ^ 12 → length (heading_text v w n) ≤ 64
unfolding heading_words
heading_short v w n vertices jobs steps = simp length-append (omega (arith, numeral_longer v vertices, numeral_short w jobs, numeral_longer n steps))

number_small : (r : Reason) → number r < 2 ^ 32
number_small r = grind arith

-- a first line that is a refusal
pub refusal_line_short :
    (line : Result (Heading × Tally) Refusal) (r : Refusal) → IsErrAnd line (λ (e : Refusal). e ≡ r) → r.place < 2 ^ 32
    → length (first_text line) ≤ 64
refusal_line_short (Ok x) r h few = absurd h
refusal_line_short (Err e) r h few = refusal_short (number e.reason) e.place (number_small e.reason) (rw (ap (λ (x : Refusal). x.place) h) few)

-- formulas of counts that fit their words
vertices_short :
    (ed : Edition) (c : Counts) → c.a < 65536 → c.f < 65536 → c.k < 65536 → c.u < 65536 → c.x < 65536 → vertex_formula ed c < 10 ^ 12
unfolding fork_vertices
vertices_short First c a f k u x = omega arith
vertices_short Second c a f k u x = omega arith

steps_short :
    (ed : Edition) (c : Counts) → c.w < 65536 → c.a < 65536 → c.f < 65536 → c.k < 65536 → c.u < 65536 → c.x < 65536
    → step_formula ed c < 10 ^ 12
unfolding fork_steps
steps_short First c w a f k u x = omega arith
steps_short Second c w a f k u x = omega arith

-- a heading of such counts, whichever edition each number goes by
pub counted_short :
    (ed ed' : Edition) (c : Counts) (v n : ℕ) → v ≡ vertex_formula ed c → n ≡ step_formula ed' c → c.w < 65536 → c.a < 65536 → c.f < 65536
    → c.k < 65536 → c.u < 65536 → c.x < 65536 → length (heading_text v c.w n) ≤ 64
counted_short ed ed' c v n made steps w a f k u x =
    heading_short v c.w n (omega (arith, made, vertices_short ed c a f k u x)) (omega (arith, w)) (omega (arith, steps, steps_short ed' c w a f k u x))
