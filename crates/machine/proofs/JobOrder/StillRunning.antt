-- The machine without its running jobs. The step that answers a job changes only where its vertex stands, and no other vertex looks there; a busy
-- vertex is not stepped. So in a state that was reached while some jobs are running, the others' steps could have been taken first: `before` is a
-- state in which each vertex of a running job still stands at this job, and which is otherwise the same. A further step of another vertex is one
-- there, too (`likewise`).
use Prim.Native.Nat.{ℕ}
use mathlib.Core.Path.{◌≡◌, refl, sym, ◌∙◌, ap, subst}
use mathlib.Core.Bool.{Bool, true, false, cond}
use mathlib.Core.Logic.{⊎_elim}
use mathlib.Core.List.{List, [], ◌∷◌, ◌++◌}
use native.Mathlib.Omega.{arith}
use lib.Dec.{eqb}
use borrow.Author.Tests.{eqb-true, eqb-false}
use Rattle.program.specs.Located.{Code, job_at}
use Rattle.machine.specs.HandedOut.{Job, without}
use Rattle.machine.proofs.GhostMachine.Ghost.{Do, link, hand, free, yield, Control, busy, State, put, woken, freed, among, live}
use Rattle.machine.proofs.GhostMachine.Ghost.{with_control, with_edges, linked, done, resumed, stirred, Event, event_of, Move, begins, performs}
use Rattle.machine.proofs.GhostMachine.Ghost.{stops, makes, splits, acts}
use Rattle.machine.proofs.GhostMachine.Invariant.{In, here, later, Shape}
use Rattle.machine.proofs.GhostMachine.GhostLaws.{clash, in_cases, in_none, in_left, in_either}
use Rattle.machine.proofs.HandedOut.{HasJob}

-- What vertex v is at in that state, x, and what it is at, y: the same, or it stands at its running job, which it is past.
pub data Lag (running : List Job) (v : ℕ) (x y : Control) : Type 0 where
  level : (HasJob v running → ⊥) → x ≡ y → Lag running v x y
  at_its_job :
      (j : Job) (r : Code) → In j running → j.vertex ≡ v → x ≡ busy (job_at j.offset j.number r) [] → y ≡ busy r [] → Lag running v x y

abbrev pub Lags : List Job → (ℕ → Control) → (ℕ → Control) → Type 0
Lags running f g = (v : ℕ) → Lag running v (f v) (g v)

-- a vertex without a running job is at the same in both
pub is_level : {running : List Job} {v : ℕ} {x y : Control} → (HasJob v running → ⊥) → Lag running v x y → x ≡ y
is_level none (level k e) = e
is_level none (at_its_job j r i e a b) = absurd (none (j, i, e))

-- A move of v in that state, and what it is in the other: the same but for running jobs.
pub record Likewise (running : List Job) (S : State) (v : ℕ) (e : Event) (S' : State) : Type 0 where
  pub before : State
  pub control : ℕ → Control
  pub moves : Move S v e before
  pub is_else : S' ≡ with_control before control
  pub lags : Lags running before.control control

module _ {running : List Job} where
  -- in both a vertex comes to the same
  put_lags :
      {f g : ℕ → Control} (v : ℕ) {x y : Control} → Lags running f g → Lag running v x y → Lags running (put f v x) (put g v y)
  put_lags {f} {g} v {x} {y} h l w = go (eqb w v) refl
    where
      go : (b : Bool) → eqb w v ≡ b → Lag running w (cond b x (f w)) (cond b y (g w))
      go true e = subst (λ (u : ℕ). Lag running u x y) (sym (eqb-true w v e)) l
      go false e = h w

  -- a vertex that stands at a job, or is past it, is woken or freed by none
  woken_lag : {v : ℕ} {x y : Control} → Lag running v x y → Lag running v (woken x) (woken y)
  unfolding woken
  woken_lag (level k e) = level k (ap woken e)
  woken_lag (at_its_job j r i e a b) = at_its_job j r i e (ap woken a) (ap woken b)

  freed_lag : {v : ℕ} {x y : Control} → Lag running v x y → Lag running v (freed x) (freed y)
  unfolding freed
  freed_lag (level k e) = level k (ap freed e)
  freed_lag (at_its_job j r i e a b) = at_its_job j r i e (ap freed a) (ap freed b)

  -- and is as live
  live_same : {v : ℕ} {x y : Control} → Lag running v x y → live y ≡ live x
  unfolding live
  live_same (level k e) = ap live (sym e)
  live_same (at_its_job j r i e a b) = ap live b ∙ sym (ap live a)

  stirred_lags : {f g : ℕ → Control} (ms : List ℕ) → Lags running f g → Lags running (stirred f ms) (stirred g ms)
  stirred_lags {f} {g} ms h w = go (among w ms)
    where
      go : (b : Bool) → Lag running w (cond b (woken (f w)) (f w)) (cond b (woken (g w)) (g w))
      go true = woken_lag (h w)
      go false = h w

  -- no vertex that is still to be made has a running job
  none_unmade : {S : State} {g : ℕ → Control} → Shape S → Lags running S.control g → HasJob S.count running → ⊥
  none_unmade {S} {g} shape h (j, i, e) = go (h S.count)
    where
      go : Lag running S.count (S.control S.count) (g S.count) → ⊥
      go (level none q) = none (j, i, e)
      go (at_its_job k r l q a b) = let z = shape.beyond S.count (omega arith) in clash cc

  module _ (S : State) (g : ℕ → Control) (v : ℕ) (h : Lags running S.control g) (none : HasJob v running → ⊥) where
    same_at : {x : Control} → g v ≡ x → S.control v ≡ x
    same_at e = is_level none (h v) ∙ e

    -- v's control changes
    at_v : {f f' : ℕ → Control} (x : Control) → Lags running f f' → Lags running (put f v x) (put f' v x)
    at_v x l = put_lags v l (level none refl)

    acts_likewise :
        (d : Do) {c : Code} {ds : List Do} → g v ≡ Control.joining c d ds
        → Likewise running S v (event_of d)
        (with_control (done (with_control S g) v d) (put (done (with_control S g) v d).control v (resumed c d ds)))
    unfolding done event_of
    acts_likewise (link a b) {c} {ds} at =
        record {
          before = _;
          control = put g v (resumed c (link a b) ds);
          moves = acts (same_at at);
          is_else =
              ap
              (λ (x : Bool). with_control (with_edges S (λ p q. cond x (linked S.edge a b p q) (S.edge p q))) (put g v (resumed c (link a b) ds)))
              (live_same (h a));
          lags = at_v _ h;
        }
    acts_likewise (hand m) at = record { before = _; control = _; moves = acts (same_at at); is_else = refl; lags = at_v _ h }
    acts_likewise (free m) at =
        record { before = _; control = _; moves = acts (same_at at); is_else = refl; lags = at_v _ (put_lags m h (freed_lag (h m))) }
    acts_likewise yield at = record { before = _; control = _; moves = acts (same_at at); is_else = refl; lags = at_v _ h }

    -- A move of a vertex without a running job.
    pub likewise : {e : Event} {S' : State} → Shape S → Move (with_control S g) v e S' → Likewise running S v e S'
    likewise shape (begins at into) =
        record { before = _; control = _; moves = begins (same_at at) into; is_else = refl; lags = at_v _ h }
    likewise shape (performs at) = record { before = _; control = _; moves = performs (same_at at); is_else = refl; lags = at_v _ h }
    likewise shape (stops at) = record { before = _; control = _; moves = stops (same_at at); is_else = refl; lags = at_v _ h }
    likewise shape (makes at more) =
        record {
          before = _;
          control = _;
          moves = makes (same_at at) more;
          is_else = refl;
          lags = at_v _ (put_lags S.count h (level (none_unmade shape h) refl));
        }
    likewise shape (splits {ms = ms} at last) =
        record {
          before = _;
          control = _;
          moves = splits (same_at at) last;
          is_else = refl;
          lags = at_v _ (put_lags S.count (stirred_lags ms h) (level (none_unmade shape h) refl));
        }
    likewise shape (acts {d = d} at) = acts_likewise d at

-- WHICH JOBS ARE RUNNING

-- with other vertices' jobs besides
pub more_lag : {running : List Job} {v : ℕ} {x y : Control} (js : List Job) → (HasJob v js → ⊥) → Lag running v x y → Lag (running ++ js) v x y
more_lag {running} js other (level none e) =
    level (λ (j, i, q). ⊎_elim (λ k. none (j, k, q)) (λ k. other (j, k, q)) (in_either running i)) e
more_lag js other (at_its_job j r i e a b) = at_its_job j r (in_left js i) e a b

-- the jobs of other vertices are what is left without those of v
pub in_without : {j : Job} (v : ℕ) (js : List Job) → In j js → (j.vertex ≡ v → ⊥) → In j (without v js)
unfolding without
in_without v [] i other = in_none i
in_without {j} v (k ∷ js) i other = go (eqb k.vertex v) refl (λ l. in_without v js l other)
  where
    go : (b : Bool) → eqb k.vertex v ≡ b → (In j js → In j (without v js)) → In j (cond b (without v js) (k ∷ without v js))
    go true e rest = in_cases i (λ q. absurd (other (ap (λ (x : Job). x.vertex) q ∙ eqb-true k.vertex v e))) rest
    go false e rest = in_cases i (λ q. subst (λ (x : Job). In j (x ∷ without v js)) q here) (λ l. later (rest l))

pub without_in : {j : Job} (v : ℕ) (js : List Job) → In j (without v js) → In j js × (j.vertex ≡ v → ⊥)
unfolding without
without_in v [] i = in_none i
without_in {j} v (k ∷ js) i = go (eqb k.vertex v) refl i (λ l. without_in v js l)
  where
    go :
        (b : Bool) → eqb k.vertex v ≡ b → In j (cond b (without v js) (k ∷ without v js))
        → (In j (without v js) → In j js × (j.vertex ≡ v → ⊥)) → In j (k ∷ js) × (j.vertex ≡ v → ⊥)
    go true e l rest = let (m, other) = rest l in (later m, other)
    go false e l rest =
        in_cases l
        (λ q. (subst (λ (x : Job). In j (x ∷ js)) q here, λ z. eqb-false k.vertex v e (ap (λ (x : Job). x.vertex) (sym q) ∙ z)))
        (λ m. let (n, other) = rest m in (later n, other))

pub fewer_lag : {running : List Job} {w : ℕ} {x y : Control} (v : ℕ) → (w ≡ v → ⊥) → Lag running w x y → Lag (without v running) w x y
fewer_lag {running} v other (level none e) = level (λ (j, i, q). none (j, (without_in v running i).0, q)) e
fewer_lag {running} v other (at_its_job j r i e a b) = at_its_job j r (in_without v running i (λ q. other (sym e ∙ q))) e a b

-- and v has none there
pub without_none : (v : ℕ) (running : List Job) → HasJob v (without v running) → ⊥
without_none v running (j, i, e) = (without_in v running i).1 e
