-- "the number of edges into it, kept true by every command from loading or opening on" (note 6), from loading on: the words that start reads are
-- true in whatever steps, lists of calls, runs among them, and traces reach, refused ones included. So start, and a step of a released vertex,
-- answer there "as the full search would". From an opening on, by single commands, this is proved in InCounts of `graph`.
--
--     reached_true    in whatever is reached from an accepted loading
--     calls_true      after every list of calls from there
--     trace_true      after every trace of an engine
--     reached_start   so start is there what the full search is
--     reached_step    and a step of a released vertex is refused by 21 exactly where an edge leads in
use Prim.Native.Nat.{ℕ, ◌<◌}
use mathlib.Core.Path.{◌≡◌, refl, ◌∙◌}
use mathlib.Core.Bool.{Bool, true, false, not, cond}
use mathlib.Core.List.{List}
use Rattle.graph.specs.Tables.{Lent, RELEASED, status}
use Rattle.graph.specs.Paths.{leads_into}
use Rattle.graph.specs.Commands.{start}
use Rattle.graph.specs.InCounts.{CountsTrue, full_search}
use Rattle.graph.proofs.SoundLaws.{sound_tally}
use Rattle.graph.proofs.InCounts.{count_clear, start_searches}
use Rattle.program.specs.declared.Edition.{Edition}
use Rattle.refusal.specs.Refusals.{edge_leads_in}
use Rattle.machine.specs.Answers.{StepSaid, is_loaded}
use Rattle.machine.specs.Loading.{load}
use Rattle.machine.specs.Stepping.{step}
use Rattle.machine.specs.Reached.{Reached, begun, Call, leaves_of}
use Rattle.machine.specs.Traces.{Trace}
use Rattle.machine.proofs.TablesFollow.Tracked.{room_steps, rows_lent, tracked}
use Rattle.machine.proofs.StepDemand2.{released_step}
use Rattle.machine.proofs.Demand3.{reached_program}
use Rattle.machine.proofs.Calls.{calls_reached}
use Rattle.machine.proofs.Traces.{trace_reached}

-- The words are true in whatever is reached,
pub reached_true :
    {ed : Edition} {bytes : List ℕ} {s₀ : Lent} {answers : List StepSaid} {s : Lent} → Reached ed bytes s₀ answers s → CountsTrue s
reached_true {ed} {bytes} q =
    let (t, r) = reached_program ed bytes q in
    (tracked ed bytes t r q).counts_true

-- by every list of calls,
pub calls_true :
    (ed : Edition) (bytes : List ℕ) (s₀ : Lent) → is_loaded (load ed bytes s₀).answer ≡ true → (cs : List Call)
    → CountsTrue (leaves_of ed bytes (load ed bytes s₀).after cs)
calls_true ed bytes s₀ h cs = reached_true (calls_reached ed bytes s₀ cs (load ed bytes s₀).after (begun h))

-- and in every trace.
pub trace_true :
    {ed : Edition} {bytes : List ℕ} {s₀ : Lent} {cs : List Call} {answers : List StepSaid} {s : Lent} → Trace ed bytes s₀ cs answers s
    → CountsTrue s
trace_true tr = reached_true (trace_reached tr)

-- So start answers there, and leaves, what the full search would.
pub reached_start :
    {ed : Edition} {bytes : List ℕ} {s₀ : Lent} {answers : List StepSaid} {s : Lent} → Reached ed bytes s₀ answers s → (v : ℕ)
    → start s v ≡ full_search s v
reached_start {ed} {bytes} {s = s} q v =
    let (t, r) = reached_program ed bytes q in
    start_searches s v (tracked ed bytes t r q).follows.sound_is (reached_true q v)

-- A step of a released vertex starts it there, and is refused by 21 exactly where an edge leads in.
pub reached_step :
    {ed : Edition} {bytes : List ℕ} {s₀ : Lent} {answers : List StepSaid} {s : Lent} → Reached ed bytes s₀ answers s → (v : ℕ) → v < s.made
    → status s.vertices v ≡ RELEASED
    → (step ed bytes s v).answer ≡ cond (leads_into s.edges s.held v) (StepSaid.refused edge_leads_in 0) StepSaid.start
reached_step {ed} {bytes} {s₀} {s = s} q v made released =
    let (t, r) = reached_program ed bytes q in
    let T = tracked ed bytes t r q in
    released_step ed bytes s v (sound_tally s T.follows.sound_is) (room_steps ed bytes t s₀ r (rows_lent ed bytes t r q) T v) made
    released
    ∙ rw (count_clear s v (reached_true q v made)) (other_way (leads_into s.edges s.held v) _ _)
  where
    other_way : (b : Bool) (x y : StepSaid) → cond (not b) x y ≡ cond b y x
    other_way true x y = refl
    other_way false x y = refl
