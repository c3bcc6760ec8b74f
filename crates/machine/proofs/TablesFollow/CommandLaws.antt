-- The single commands that steps do: when each is taken, by what holds of the state that the tables follow, and what a step by a command
-- that is taken says and leaves. No path closes because edges lead to higher ranks. The edge of a force whose future is finished adds nothing.
use Prim.Native.Nat.{ℕ, ◌<◌, ◌≤◌}
use mathlib.Core.Path.{◌≡◌, refl, sym, ◌∙◌, ap, subst}
use mathlib.Core.Bool.{true, false}
use mathlib.Core.Logic.{◌⊎◌, inl, inr, ⊎_elim}
use mathlib.Core.List.{List}
use native.Mathlib.Omega.{arith}
use lib.Dec.{ltb}
use borrow.Author.Tests.{ltb-true, ltb-false, eqb-true}
use Rattle.graph.specs.Tables.{Lent, NEW, RELEASED, EXECUTING, FINISHED, edge_rows, status, in_count, source}
use Rattle.graph.specs.Sound.{sound}
use Rattle.graph.specs.Demand2.{AddsNothing}
use Rattle.graph.specs.Paths.{holds, leads_into, reaches}
use Rattle.graph.specs.declared.Command.{Command}
use Rattle.graph.specs.declared.Command.TheVariants.{NewEdge, Release, Transfer, Start}
use Rattle.graph.proofs.TestLaws.{true-false, decide, not_so, any_found}
use Rattle.graph.proofs.PathLaws.{holds_at, reaches_path}
use Rattle.graph.proofs.SoundLaws.{sound_tally}
use Rattle.graph.proofs.EdgeLaws.{none_out_of}
use Rattle.graph.proofs.CycleLaws.{target_reaches_lem}
use Rattle.graph.proofs.TakenLaws as of_taken
use Rattle.graph.proofs.TakenLaws.{leaves, says-accepted, taken_is, after_is, Runs, Adds, Target, Taken, taken}
use Rattle.graph.proofs.Demand2.{stays_sound}
use Rattle.program.specs.Located.{Code}
use Rattle.machine.specs.Answers.{StepSaid, one_step, said_as}
use Rattle.machine.specs.Stepping.{Own, command_due, with_own, do_due}
use Rattle.machine.proofs.GhostMachine.Ghost.{Do, link, hand, free, Control, draft, fresh, ready, busy, joining, over, Setting, State, live}
use Rattle.machine.proofs.GhostMachine.Invariant.{In, here, tasks, tasks_of, yields, Forces, Shape, Ranks}
use Rattle.machine.proofs.GhostMachine.Acyclic.{path_rises}
use Rattle.machine.proofs.GhostMachine.Ways.{at_link}
use Rattle.machine.proofs.GhostMachine.ScopesAsleep.{asleep, ScopesAsleep}
use Rattle.machine.proofs.TablesFollow.Follows.{Follows}
use Rattle.machine.proofs.TablesFollow.FollowLaws.{status_of, follows_status}

-- what a step by a command that is taken says
abbrev pub says : Command → Lent → StepSaid
says c s = said_as (of_taken.says c s)

-- and all that it comes to
pub called :
    (c : Command) (s : Lent) (v : ℕ) (w : Own) → Taken c s
    → do_due s v (command_due c w) ≡ record { answer = says c s; after = one_step (with_own (leaves c s) v w) }
called c s v w h = rw (taken_is c s ((taken c s).1 h), says-accepted c s)

-- it leaves sound tables
pub leaves-sound : (c : Command) (s : Lent) → sound s ≡ true → Taken c s → sound (leaves c s) ≡ true
leaves-sound c s known h = subst (λ (z : Lent). sound z ≡ true) (after_is c s ((taken c s).1 h)) (stays_sound c s known)

-- an edge that leads in
pub into_from : (e : List ℕ) (n v : ℕ) → leads_into e n v ≡ true → (u : ℕ) × (holds e n u v ≡ true)
unfolding leads_into
into_from e n v h =
    let (i, lt, q) = any_found _ n h in
    (source e i, subst (λ (z : ℕ). holds e n (source e i) z ≡ true) (eqb-true _ _ q) (holds_at e n i lt))

-- a vertex with an unfinished status is made
made_of : (S : State) → Shape S → (v n : ℕ) → status_of (S.control v) ≡ n → n < FINISHED → v < S.count
unfolding status_of
made_of S shape v n q lt =
    ⊎_elim (λ h. ltb-true v S.count h)
    (λ h. let z : status_of (S.control v) ≡ FINISHED = ap status_of (shape.beyond v (ltb-false v S.count h)) in absurd (omega arith))
    (decide (ltb v S.count))

-- a vertex that is asleep is new or released
asleep_status : (x : Control) → asleep x ≡ true → (status_of x ≡ NEW) ⊎ (status_of x ≡ RELEASED)
unfolding asleep status_of
asleep_status (draft c) h = inl refl
asleep_status (fresh c) h = inl refl
asleep_status (ready c) h = inr refl
asleep_status (busy c ms) h = true-false h refl
asleep_status (joining c d ds) h = true-false h refl
asleep_status over h = true-false h refl

-- a fresh vertex is new, and not finished
fresh_status : {x : Control} {c : Code} → x ≡ fresh c → status_of x ≡ NEW
unfolding status_of
fresh_status q = ap status_of q

fresh-live : {x : Control} {c : Code} → x ≡ fresh c → live x ≡ true
unfolding live
fresh-live q = ap live q

-- the status tells who is finished
live_status : (x : Control) → live x ≡ true → status_of x < FINISHED
unfolding live status_of
live_status (draft c) h = omega arith
live_status (fresh c) h = omega arith
live_status (ready c) h = omega arith
live_status (busy c ms) h = omega arith
live_status (joining c d ds) h = omega arith
live_status over h = true-false h refl

over_status : (x : Control) → live x ≡ false → status_of x ≡ FINISHED
unfolding live status_of
over_status (draft c) h = true-false refl h
over_status (fresh c) h = true-false refl h
over_status (ready c) h = true-false refl h
over_status (busy c ms) h = true-false refl h
over_status (joining c d ds) h = true-false refl h
over_status over h = refl

-- the command at the head of what is left to do
pub first_task : (S : State) (v : ℕ) {c : Code} {d : Do} {ds : List Do} → S.control v ≡ joining c d ds → In d (tasks_of S v)
unfolding tasks
first_task S v q = rw q here

module _ {p : Code} {Γ : Setting} {s : Lent} {S : State} (shape : Shape S) (F : Follows p Γ s S) where
  -- a vertex's row, by what the vertex is at
  pub stands : (v n : ℕ) → status_of (S.control v) ≡ n → n < FINISHED → (v < s.made) × (status s.vertices v ≡ n)
  stands v n q lt =
      let made = made_of S shape v n q lt in
      (subst (λ (k : ℕ). v < k) (sym F.made_is) made, follows_status s S v F made ∙ q)

  -- one that executes may give commands
  pub runs : (v : ℕ) → status_of (S.control v) ≡ EXECUTING → Runs s v
  runs v q =
      let (made, executing) = stands v EXECUTING q (omega arith) in
      record { known = F.sound_is; is_made = made; executing = executing }

  -- start
  pub takes_start : (v : ℕ) → status_of (S.control v) ≡ RELEASED → in_count s.vertices v ≡ 0 → Taken (Start v) s
  takes_start v q none =
      let (made, released) = stands v RELEASED q (omega arith) in
      (sound_tally s F.sound_is, made, released, none)

  -- release
  new_of : (v m : ℕ) → In (free m) (tasks_of S v) → status_of (S.control m) ≡ NEW
  new_of v m i = fresh_status ((shape.todo_fits v).frees m i).0.1

  pub takes_release : (v m : ℕ) → status_of (S.control v) ≡ EXECUTING → In (free m) (tasks_of S v) → Taken (Release v m) s
  takes_release v m q i =
      let (made, new) = stands m NEW (new_of v m i) (omega arith) in
      (runs v q, made, new)

  -- paths lead to higher ranks, so none leads to a lower one
  no_way : Ranks S → (a b : ℕ) → S.rank b ≤ S.fin a → reaches s.edges s.held a b ≡ false
  no_way ranks a b le =
      not_so (reaches s.edges s.held a b)
      (λ h. absurd (omega (arith, le, (path_rises shape ranks F.edges_are (reaches_path s.edges s.held a b h)).0)))

  -- the source of an edge that is still to be made
  source_made : (v a b : ℕ) → In (link a b) (tasks_of S v) → a < S.count
  source_made v a b i =
      ⊎_elim
      (λ f. made_of S shape a NEW (new_of v a f) (omega arith))
      (λ f. f.there)
      ((shape.todo_fits v).link_from a b i)

  -- its target is new, the scope of v, or v itself
  target_made : ScopesAsleep S → (v a b : ℕ) → Runs s v → In (link a b) (tasks_of S v) → (b < s.made) × Target s v b
  target_made sleep v a b r i = go ((shape.todo_fits v).link_to a b i)
    where
      sleeping : {b : ℕ} → (status_of (S.control b) ≡ NEW) ⊎ (status_of (S.control b) ≡ RELEASED) → (b < s.made) × Target s v b
      sleeping {b} (inl z) = let (made, new) = stands b NEW z (omega arith) in (made, inl (inl new))
      sleeping {b} (inr z) = let (made, released) = stands b RELEASED z (omega arith) in (made, inl (inr released))

      go :
          In (free b) (tasks_of S v) ⊎ ((b ≡ S.scope v) ⊎ ((b ≡ v) × (yields (tasks_of S v) ≡ true)))
          → (b < s.made) × Target s v b
      go (inl f) = sleeping (inl (new_of v b f))
      go (inr (inl e)) =
          sleeping
          (asleep_status (S.control b)
          (ap (λ (z : ℕ). asleep (S.control z)) e ∙ sleep v (at_link a (subst (λ (z : ℕ). In (link a z) (tasks_of S v)) e i))))
      go (inr (inr (e, y))) = (subst (λ (z : ℕ). z < s.made) (sym e) r.is_made, inr e)

  -- newEdge from a vertex that is not finished appends its edge: no step names one that is held
  pub takes_edge :
      Ranks S → ScopesAsleep S → (v a b : ℕ) → status_of (S.control v) ≡ EXECUTING → In (link a b) (tasks_of S v) → live (S.control a) ≡ true
      → s.held < edge_rows s.edges → Taken (NewEdge v a b) s × Adds s a b
  takes_edge ranks sleep v a b q i unfinished room =
      let made_a = source_made v a b i in
      let status_a = follows_status s S a F made_a in
      let le_a = ranks.rank_le a made_a in
      let up = ranks.link_rank v a b i in
      let (made_b, target_b) = target_made sleep v a b (runs v q) i in
      let adds : Adds s a b =
      record {
        not_finished = λ z. omega (arith, z, status_a, live_status (S.control a) unfinished);
        not_held = F.edges_are a b ∙ (shape.todo_fits v).link_new a b i;
        not_same = λ z. apart z up le_a;
        no_path = no_way ranks b a (omega (arith, up, le_a, ranks.rank_le b (subst (λ (k : ℕ). b < k) F.made_is made_b)));
        row_free = room;
      } in (
        (
          runs v q,
          record {
            source_made = subst (λ (k : ℕ). a < k) (sym F.made_is) made_a;
            target_made = made_b;
            waits = target_b;
            adds = inr adds;
          },
        ),
        adds,
      )
    where
      apart : {a b : ℕ} → a ≡ b → S.fin a < S.rank b → S.rank a ≤ S.fin a → ⊥
      apart {a} z up le = let up' : S.fin a < S.rank a = subst (λ (k : ℕ). S.fin a < S.rank k) (sym z) up in omega arith

  -- one from a finished vertex, the first of a future, is accepted and adds nothing
  pub takes_nothing :
      (v a b : ℕ) → status_of (S.control v) ≡ EXECUTING → In (link a b) (tasks_of S v) → live (S.control a) ≡ false
      → Taken (NewEdge v a b) s × AddsNothing s a b
  takes_nothing v a b q i finished =
      let made_a = source_made v a b i in
      let nothing : AddsNothing s a b = inl (follows_status s S a F made_a ∙ over_status (S.control a) finished) in
      let (made_b, new_b) = stands b NEW (target_new ((shape.todo_fits v).link_from a b i)) (omega arith) in (
        (
          runs v q,
          record {
            source_made = subst (λ (k : ℕ). a < k) (sym F.made_is) made_a;
            target_made = made_b;
            waits = inl (inl new_b);
            adds = inl nothing;
          },
        ),
        nothing,
      )
    where
      target_new : In (free a) (tasks_of S v) ⊎ Forces S a b (tasks_of S v) → status_of (S.control b) ≡ NEW
      target_new (inl f) = true-false (fresh-live ((shape.todo_fits v).frees a f).0.1) finished
      target_new (inr f) = new_of v b f.frees_it

  -- transfer
  pub takes_transfer : Ranks S → (v h : ℕ) → status_of (S.control v) ≡ EXECUTING → In (hand h) (tasks_of S v) → Taken (Transfer v h) s
  takes_transfer ranks v h q i =
      let tasks = shape.todo_fits v in
      let new_h = new_of v h (tasks.hand_to h i) in
      let (made_h, status_h) = stands h NEW new_h (omega arith) in
      let le_h = ranks.rank_le h (made_of S shape h NEW new_h (omega arith)) in (
        runs v q,
        record {
          is_made = made_h;
          is_new = status_h;
          no_edge_out = (none_out_of s.edges s.held h).1 (λ b. F.edges_are h b ∙ tasks.hand_new h b i);
          no_path = target_reaches_lem s.edges s.held v h ∙ no_way ranks v h (omega (arith, le_h, ranks.hand_rank v h i));
        },
      )
