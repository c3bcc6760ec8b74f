-- How lent tables and the ghost machine belong together. The rows show what each vertex is at (`Shows`), and the held edges are the
-- machine's (`Follows`). A step is refused for a reason that the state shows, or it is a move, which its answer tells (`Followed`).
use Prim.Native.Nat.{ℕ, ◌+◌, ◌-◌, ◌<◌, ◌≤◌}
use mathlib.Core.Path.{◌≡◌}
use mathlib.Core.Bool.{true, false}
use mathlib.Core.List.{List, [], ◌∷◌}
use mathlib.Core.Option.{some}
use lib.ListN.{length, drop, get_or}
use Rattle.graph.specs.Tables.{Lent, NEW, RELEASED, EXECUTING, FINISHED, status}
use Rattle.refusal.specs.Refusals.{no_such_vertex, edge_leads_in, vertex_is_new, vertex_is_finished}
use Rattle.graph.specs.Sound.{sound}
use Rattle.graph.specs.Paths.{holds}
use Rattle.graph.specs.Answers.{Outcome}
use Rattle.program.specs.declared.Edition.{Edition}
use Rattle.program.specs.Located.{Code, job_at, code_at}
use Rattle.program.specs.Located as code
use Rattle.program.proofs.OpenLaws.{Opens}
use Rattle.machine.specs.Answers.{StepSaid, refuse}
use Rattle.machine.specs.Stepping as words
use Rattle.machine.proofs.GhostMachine.Ghost.{Do, Control, draft, fresh, ready, busy, joining, over, Setting, State, kids, goes, kind_of}
use Rattle.machine.proofs.GhostMachine.Ghost.{commands_of, vertex_at, forced_by, opens_behind, joins, Event, a_start, a_new, an_edge, a_release}
use Rattle.machine.proofs.GhostMachine.Ghost.{a_transfer, a_job, a_stop, a_yield, Move}
use Rattle.machine.proofs.GhostMachine.Invariant.{is_new, bodies}
use Rattle.machine.proofs.Counting.Weights.{links}

-- what stays as it is while these bytes run in an edition
abbrev pub setting_of : Edition → List ℕ → Setting
setting_of ed bytes = record { edition = ed; last_byte = length bytes - 1 }

-- A vertex row, but for the number of edges into the vertex: status, place, scope, phase, the vertices that the item at hand made, and the
-- latest open future.
pub data Words : Type 0 where
  row : (status place scope phase a b c l : ℕ) → Words

unfoldable pub words_of : Lent → ℕ → Words
words_of s v =
    row (status s.vertices v) (words.place s v) (words.scope s v) (words.phase s v) (words.made s v 0) (words.made s v 1)
    (words.made s v 2)
    (words.latest s v)

-- its status
abbrev pub status_in : Words → ℕ
status_in (row st pl sc ph a b c l) = st

-- the word that names the nearest of these open futures: its first vertex; "0 is none"
abbrev pub first_opened : List (ℕ × Code) → ℕ
first_opened fs = vertex_at fs 0

-- A row shows a control, of a vertex v with the scope σ and these open futures, in a program p.
pub data Shows (p : Code) (Γ : Setting) (v : ℕ) (w : Words) (σ : ℕ) (fs : List (ℕ × Code)) : Control → Type 0 where
  shows_draft : {c : Code} → w ≡ row NEW (code.start_of c) σ 0 0 0 0 (first_opened fs) → Shows p Γ v w σ fs (draft c)
  shows_fresh : {c : Code} → w ≡ row NEW (code.start_of c) σ 0 0 0 0 (first_opened fs) → Shows p Γ v w σ fs (fresh c)
  shows_ready : {c : Code} → w ≡ row RELEASED (code.start_of c) σ 0 0 0 0 (first_opened fs) → Shows p Γ v w σ fs (ready c)
  shows_busy :
      {c : Code} {ms : List ℕ}
      → w ≡ row EXECUTING (code.start_of c) σ (length ms) (get_or ms 0 0) (get_or ms 1 0) (get_or ms 2 0) (first_opened fs)
      → Shows p Γ v w σ fs (busy c ms)
  -- its item is at k's head, and has come to phase φ; gs are the futures that are open before the item, whose last command opens one more if
  -- it is a future
  shows_joining :
      {c : Code} {d : Do} {ds : List Do} (k : Code) (φ : ℕ) (ms : List ℕ) (gs : List (ℕ × Code))
      → w ≡ row EXECUTING (code.start_of k) σ φ (get_or ms 0 0) (get_or ms 1 0) (get_or ms 2 0) (first_opened gs)
      → code_at p (code.start_of k) ≡ some k → goes Γ k ≡ c → length (kids Γ k) ≤ φ
      → joins v σ (forced_by gs k) ms (drop φ (commands_of Γ.edition (kind_of k))) ≡ d ∷ ds → opens_behind gs ms k ≡ fs
      → Opens (bodies gs) k
      → Shows p Γ v w σ fs (joining c d ds)
  shows_over : (pl sc ph a b c : ℕ) → w ≡ row FINISHED pl sc ph a b c (first_opened fs) → Shows p Γ v w σ fs over

pub record Follows (p : Code) (Γ : Setting) (s : Lent) (S : State) : Type 0 where
  pub setting_is : S.setting ≡ Γ
  pub made_is : s.made ≡ S.count
  pub edges_are : (a b : ℕ) → holds s.edges s.held a b ≡ S.edge a b
  pub rows_are : (v : ℕ) → v < S.count → Shows p Γ v (words_of s v) (S.scope v) (S.opens v) (S.control v)
  pub sound_is : sound s ≡ true

-- why a step of v is refused: "20 no such vertex; 21 released but an edge leads in; 22 new; 23 finished"
pub data Refuses (S : State) (v : ℕ) : ℕ → Type 0 where
  absent : S.count ≤ v → Refuses S v no_such_vertex
  blocked : {c : Code} → S.control v ≡ ready c → (u : ℕ) → S.edge u v ≡ true → Refuses S v edge_leads_in
  still_new : is_new (S.control v) ≡ true → Refuses S v vertex_is_new
  already_over : v < S.count → S.control v ≡ over → Refuses S v vertex_is_finished

-- what a move is answered with; an edge that is said was not there
pub data Answers (S : State) (v : ℕ) : Event → StepSaid → Type 0 where
  says_start : Answers S v a_start StepSaid.start
  says_new : Answers S v a_new (StepSaid.new S.count)
  says_edge : (a b : ℕ) → S.edge a b ≡ false → Answers S v an_edge (StepSaid.edge a b)
  says_release : (m : ℕ) → Answers S v a_release (StepSaid.release m)
  says_transfer : (h : ℕ) → Answers S v a_transfer (StepSaid.transfer h)
  says_job : {o n : ℕ} {r : Code} → S.control v ≡ busy (job_at o n r) [] → Answers S v (a_job o) (StepSaid.job n o)
  says_stop : Answers S v a_stop StepSaid.stop
  says_yield : Answers S v a_yield StepSaid.yield

-- what a move does to the tally's other numbers, and to the tables' lengths
pub record Tallied (e : Event) (s s' : Lent) : Type 0 where
  pub steps_are : s'.steps ≡ s.steps + 1
  pub held_le : s'.held ≤ s.held + links e
  pub vertex_length : length s'.vertices ≡ length s.vertices
  pub edge_length : length s'.edges ≡ length s.edges

-- A step of v: refused for one of these reasons, or a move.
pub data Followed (p : Code) (Γ : Setting) (s : Lent) (S : State) (v : ℕ) (o : Outcome StepSaid) : Type 0 where
  refused : (n : ℕ) → Refuses S v n → o ≡ refuse s n 0 → Followed p Γ s S v o
  moved :
      (e : Event) (S' : State) → Move S v e S' → Follows p Γ o.after S' → Answers S v e o.answer → Tallied e s o.after
      → Followed p Γ s S v o
