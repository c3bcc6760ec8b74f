-- Which line a call gives, by the returns of the code: a refusal, a heading, a step's line, or none.
use Prim.Native.Nat.{ℕ, ◌+◌, ◌<◌}
use mathlib.Core.Path.{◌≡◌, refl, sym, ap, ◌∙◌}
use mathlib.Core.Bool.{Bool, true, false, cond}
use mathlib.Core.List.{List}
use Rattle.std.specs.Prelude.{Result, Ok, Err, IsErrAnd, ⊤}
use Rattle.std.proofs.Math.Option.{Option, none, some}
use Rattle.refusal.specs.Refusals.{unsound_tables}
use Rattle.graph.specs.declared.Tally.{Tally}
use Rattle.graph.specs.Tables.{Lent, lent}
use Rattle.graph.proofs.LowestLaws.{found_holds}
use Rattle.program.specs.Trees.{Counts, counts}
use Rattle.program.specs.declared.Edition.{Edition}
use Rattle.program.specs.Encodings.{vertex_formula, step_formula}
use Rattle.program.specs.Reader.{reading}
use Rattle.program.specs.Answers.{loads, told}
use Rattle.program.specs.Answers as of_program
use Rattle.machine.specs.Answers.{loading_refused, is_loaded}
use Rattle.machine.specs.Stepping.{step_limit, steppable, step}
use Rattle.machine.specs.Running.{can_step, lowest, chosen, choice, Choice, choose, no_choice, choice_refused}
use Rattle.machine.specs.Demand2.{unread}
use Rattle.machine.specs.Traces.{Loaded}
use Rattle.machine.proofs.GhostMachine.GhostLaws.{clash}
use Rattle.machine.proofs.LoadLaws.{load_refused, load_keeps}
use Rattle.machine.proofs.StepDemand2.{can_ready, step_counts}
use Rattle.engine.specs.Answers.{loading_said}
use Rattle.engine.proofs.LoadedLaws.{unread_is, read_is}
use Rattle.listing.specs.declared.text.Heading.{Heading}
use Rattle.refusal.specs.declared.Refusal.{Refusal}
use Rattle.refusal.specs.Reasons.{number}
use Rattle.listing.specs.Text.{heading_text}
use Rattle.listing.specs.Lines.{first_text, FirstLine}

-- THE FIRST LINE
-- the program is not read
pub unread_line :
    (ed : Edition) (bytes : List ℕ) (s : Lent) (line : Result (Heading × Tally) Refusal) (r : Refusal) → IsErrAnd line (λ (e : Refusal). e ≡ r)
    → of_program.ProgramSaid.refused (number r.reason) r.place ≡ told (reading ed bytes)
    → FirstLine ed bytes s line (first_text line) s.vertices s.edges
unread_line ed bytes s (Ok x) r h is = absurd h
unread_line ed bytes s (Err e) r h is =
    let why = ap (λ (x : Refusal). of_program.ProgramSaid.refused (number x.reason) x.place) h ∙ is in
    ((number e.reason, e.place, (load_refused ed bytes s (number e.reason) e.place).1 (unread (unread_is (reading ed bytes) why)), refl), (refl, refl))

-- it is, and loading it is refused
pub refused_line :
    (ed : Edition) (bytes : List ℕ) (s : Lent) (line : Result (Heading × Tally) Refusal) (r : Refusal) {a : Result ⊤ Refusal} {v e : List ℕ}
    (tally : Tally) → IsErrAnd line (λ (e : Refusal). e ≡ r) → Loaded ed bytes s (loading_said a) (lent v e tally) → a ≡ Err r
    → FirstLine ed bytes s line (first_text line) v e
refused_line ed bytes s (Ok x) r tally h made is = absurd h
refused_line ed bytes s (Err x) r {a = a} tally h made is =
    let says = sym made.says ∙ ap loading_said is ∙ ap (λ (y : Refusal). loading_refused (number y.reason) y.place) (sym h) in
    let kept = made.leaves ∙ load_keeps ed bytes s (ap is_loaded says) in
    ((number x.reason, x.place, says, refl), (ap (λ (x : Lent). x.vertices) kept, ap (λ (x : Lent). x.edges) kept))

-- it is loaded
pub heading_line :
    (ed : Edition) (bytes : List ℕ) (s : Lent) (line : Heading) {a : Result ⊤ Refusal} {v e : List ℕ} (tally : Tally) (c : Counts) (done : ⊤)
    → loads c ≡ told (reading ed bytes) → Loaded ed bytes s (loading_said a) (lent v e tally) → a ≡ Ok done
    → line.vertices ≡ vertex_formula ed c → line.jobs ≡ c.w → line.steps ≡ step_formula ed c
    → FirstLine ed bytes s (Ok (line, tally)) (first_text (Ok (line, tally))) v e
heading_line ed bytes s line tally c done is h taken vertices jobs steps =
    let found = read_is ed bytes (reading ed bytes) refl is in
    let same = ap (λ (x : Counts). heading_text (vertex_formula ed x) x.w (step_formula ed x)) found.counted in
    let text : heading_text line.vertices line.jobs line.steps ≡ heading_text (vertex_formula ed (counts found.tree)) (counts found.tree).w (step_formula ed (counts found.tree)) =
    rw (vertices, jobs, steps) same in
    (ap is_loaded (sym h.says ∙ ap loading_said taken), h.leaves, (found.tree, found.is_read, text))

-- THE NEXT LINE
-- the vertex that a look chooses
vertex_of : Choice → ℕ
vertex_of (choose v) = v
vertex_of no_choice = 0
vertex_of (choice_refused n p) = 0

chosen_is : (o : Option ℕ) (v : ℕ) → chosen o ≡ choose v → o ≡ some v
unfolding chosen vertex_of
chosen_is (some u) v is = ap (λ (c : Choice). some (vertex_of c)) is
chosen_is none v is = clash cc

chosen_if :
    (ed : Edition) (bytes : List ℕ) (s : Lent) (v : ℕ) (b : Bool)
    → cond b (chosen (lowest ed bytes s)) (choice_refused unsound_tables 0) ≡ choose v → can_step ed bytes s v ≡ true
unfolding lowest
chosen_if ed bytes s v true is = found_holds (can_step ed bytes s) s.made v (chosen_is (lowest ed bytes s) v is)
chosen_if ed bytes s v false is = clash cc

-- it can step, and its step is counted
pub chosen_counts :
    (ed : Edition) (bytes : List ℕ) (s : Lent) (v : ℕ) → choice ed bytes s ≡ choose v
    → (s.steps < step_limit) × ((step ed bytes s v).after.steps ≡ s.steps + 1)
unfolding choice
chosen_counts ed bytes s v is =
    let can = chosen_if ed bytes s v (steppable s) is in
    ((can_ready ed bytes s v can).1, step_counts ed bytes s v can)
