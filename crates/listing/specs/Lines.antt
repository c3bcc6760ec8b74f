-- The lister's lines in an edition, one call after the other. "The lister .. runs the lowest vertex first and prints a heading, then per step the stepping
-- vertex, the word, its vertices or job number." "A refused program prints `refused`, number and place on one line."
use Rattle.std.specs.Prelude.{ℕ, ◌≡◌, true, List, [], Result, Ok, Err, Option, Some, None}
use Rattle.refusal.specs.declared.Refusal.{Refusal}
use Rattle.refusal.specs.Reasons.{number}
use Rattle.graph.specs.declared.Tally.{Tally}
use Rattle.graph.specs.Tables.{Lent, lent}
use Rattle.program.specs.Trees.{Body, counts}
use Rattle.program.specs.declared.Edition.{Edition}
use Rattle.program.specs.Encodings.{vertex_formula, step_formula}
use Rattle.program.specs.Reader.{program, reading}
use Rattle.machine.specs.Answers.{is_loaded, loading_refused}
use Rattle.machine.specs.Loading.{load}
use Rattle.machine.specs.Stepping.{step}
use Rattle.machine.specs.Running.{choose, choice}
use Rattle.engine.specs.Answers.{said}
use Rattle.listing.specs.declared.text.Heading.{Heading}
use Rattle.listing.specs.declared.text.Step.{Step}
use Rattle.listing.specs.Text.{heading_text, step_text, refusal_text}

-- the text of a first line
abbrev pub first_text : Result (Heading × Tally) Refusal → List ℕ
first_text (Ok (h, tally)) = heading_text h.vertices h.jobs h.steps
first_text (Err r) = refusal_text (number r.reason) r.place

-- the text of a next line, or none
abbrev pub next_text : Option (Step × Tally) → List ℕ
next_text None = []
next_text (Some (s, tally)) = step_text s.vertex (said s.answer)

-- tables on which nothing was done yet
abbrev pub unused : List ℕ → List ℕ → Lent
unused vertices edges = record { vertices = vertices; edges = edges; made = 0; held = 0; steps = 0 }

-- the tables are as they were
abbrev pub Kept : Lent → List ℕ → List ℕ → Type 0
Kept s vertices edges = (vertices ≡ s.vertices) × (edges ≡ s.edges)

-- Loading these bytes onto s: the text of the line is the heading where that is accepted, and the refusal where it is refused.
abbrev pub FirstLine : Edition → List ℕ → Lent → Result (Heading × Tally) Refusal → List ℕ → List ℕ → List ℕ → Type 0
FirstLine ed bytes s (Ok (h, tally)) text vertices edges =
    (is_loaded (load ed bytes s).answer ≡ true) × (lent vertices edges tally ≡ (load ed bytes s).after)
    × ((t : Body) × (reading ed bytes ≡ program t)
    × (text ≡ heading_text (vertex_formula ed (counts t)) (counts t).w (step_formula ed (counts t))))
FirstLine ed bytes s (Err r) text vertices edges =
    ((number : ℕ) × (place : ℕ) × ((load ed bytes s).answer ≡ loading_refused number place) × (text ≡ refusal_text number place))
    × Kept s vertices edges

-- A step of the lowest vertex that can step, as a look chooses it; the listing ends, without a line, where it chooses none or is refused.
abbrev pub NextLine : Edition → List ℕ → Lent → Option (Step × Tally) → List ℕ → List ℕ → List ℕ → Type 0
NextLine ed bytes s (Some (line, tally)) text vertices edges =
    (v : ℕ) × (choice ed bytes s ≡ choose v) × (lent vertices edges tally ≡ (step ed bytes s v).after)
    × (text ≡ step_text v (step ed bytes s v).answer)
NextLine ed bytes s None text vertices edges =
    ((v : ℕ) → choice ed bytes s ≡ choose v → ⊥) × (text ≡ []) × Kept s vertices edges
