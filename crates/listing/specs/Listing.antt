-- The listing of a program: all of its lines, one behind the other, and nothing else.
use Rattle.std.specs.Prelude.{ℕ, ◌≡◌, List, [], ◌++◌, Option, replicate}
use Rattle.std.specs.Io.KnownBytes.{Appends}
use Rattle.graph.specs.Tables.{Lent}
use Rattle.program.specs.Trees.{Body, counts}
use Rattle.program.specs.declared.Edition.{Edition}
use Rattle.program.specs.Encodings.{vertex_formula, step_formula}
use Rattle.program.specs.Reader.{program, reading}
use Rattle.machine.specs.Answers.{loaded, loading_refused}
use Rattle.machine.specs.Loading.{load}
use Rattle.machine.specs.Stepping.{step}
use Rattle.machine.specs.Running.{choose, choice}
use Rattle.listing.specs.Lines.{unused}
use Rattle.listing.specs.Text.{heading_text, step_text, refusal_text}

-- the lines of the steps from s on: each is of the lowest vertex that can step, and the last of them leaves none that can
pub data StepLines (ed : Edition) (bytes : List ℕ) : Lent → List ℕ → Type 0 where
  no_step : {s : Lent} → ((v : ℕ) → choice ed bytes s ≡ choose v → ⊥) → StepLines ed bytes s []
  a_step :
      {s : Lent} {rest : List ℕ} (v : ℕ) → choice ed bytes s ≡ choose v → StepLines ed bytes (step ed bytes s v).after rest
      → StepLines ed bytes s (step_text v (step ed bytes s v).answer ++ rest)

-- the lines of a program that is loaded onto s: the refusal, or the heading and those of its steps
pub data Lines (ed : Edition) (bytes : List ℕ) (s : Lent) : List ℕ → Type 0 where
  refused : {number place : ℕ} → (load ed bytes s).answer ≡ loading_refused number place → Lines ed bytes s (refusal_text number place)
  listed :
      {t : Body} {rest : List ℕ} → (load ed bytes s).answer ≡ loaded → reading ed bytes ≡ program t
      → StepLines ed bytes (load ed bytes s).after rest
      → Lines ed bytes s (heading_text (vertex_formula ed (counts t)) (counts t).w (step_formula ed (counts t)) ++ rest)

-- tables with all the rows that a program can need, and nothing in them
abbrev pub all_rows : Lent
all_rows = unused (replicate 9216 0) (replicate 2048 0)

-- What is written behind what a sink holds, where that is known, is the listing of these bytes.
abbrev pub Lists : Edition → List ℕ → Option (List ℕ) → Option (List ℕ) → Type 0
Lists ed bytes old new = (text : List ℕ) × Lines ed bytes all_rows text × Appends old new text
