-- Some vertex can move on as long as one is not over: one that executes can; a new one was made by one that executes; and from a released
-- one the edges are followed back, to lower and lower ranks, up to one that executes, to a new one, or to a released one that nothing leads to.
use Prim.Native.Nat.{ℕ, zero, suc, ◌<◌, ◌≤◌}
use mathlib.Core.Path.{◌≡◌, refl, ◌∙◌, ap}
use mathlib.Core.Bool.{Bool, true, false}
use mathlib.Core.Logic.{◌⊎◌, inl, inr, ⊎_elim}
use mathlib.Core.List.{List}
use native.Mathlib.Nat.{eq-or-lt_of_le, le_of_suc-le-suc}
use native.Mathlib.Omega.{arith}
use Rattle.graph.proofs.TestLaws.{not_so, true-false}
use Rattle.program.specs.Located.{Code}
use Rattle.machine.proofs.GhostMachine.Ghost.{Do, Control, draft, fresh, ready, busy, joining, over, State}
use Rattle.machine.proofs.GhostMachine.Invariant.{In, Shape, Ranks, tasks, tasks_of, is_new}
use Rattle.machine.proofs.GhostMachine.GhostLaws.{in_none, draft_new, fresh_new}
use Rattle.machine.proofs.GhostMachine.Ended.{Ended}

-- v can move on
pub data Free (S : State) (v : ℕ) : Type 0 where
  at_code : {c : Code} {ms : List ℕ} → S.control v ≡ busy c ms → Free S v
  at_work : {c : Code} {d : Do} {ds : List Do} → S.control v ≡ joining c d ds → Free S v
  unblocked : {c : Code} → S.control v ≡ ready c → ((u : ℕ) → S.edge u v ≡ false) → Free S v

-- a number of which a test holds, or none below n
pub seek : (f : ℕ → Bool) (n : ℕ) → ((u : ℕ) × (f u ≡ true)) ⊎ ((u : ℕ) → u < n → f u ≡ false)
seek f zero = inr (λ u lt. absurd (let z : ◌<◌ u 0 = lt in omega arith))
seek f (suc n) = go (f n) refl (seek f n)
  where
    go :
        (b : Bool) → f n ≡ b → ((u : ℕ) × (f u ≡ true)) ⊎ ((u : ℕ) → u < n → f u ≡ false)
        → ((u : ℕ) × (f u ≡ true)) ⊎ ((u : ℕ) → u < suc n → f u ≡ false)
    go b e (inl found) = inl found
    go true e (inr none) = inl (n, e)
    go false e (inr none) = inr (λ u lt. ⊎_elim (λ p. ap f p ∙ e) (λ l. none u l) (eq-or-lt_of_le (le_of_suc-le-suc lt)))

-- back from v along held edges, up to a vertex that can move on, or to a new one whose maker can
pub data Back (S : State) : ℕ → Type 0 where
  itself : {v : ℕ} → Free S v → Back S v
  at_maker : {v : ℕ} → is_new (S.control v) ≡ true → Free S (S.maker v) → Back S v
  along : {u v : ℕ} → S.edge u v ≡ true → Back S u → Back S v

-- whoever has something left to do executes
pub busy_with : {S : State} (t : ℕ) {d : Do} → In d (tasks_of S t) → Free S t
unfolding tasks
busy_with {S} t {d} i = go (S.control t) refl i
  where
    go : (x : Control) → S.control t ≡ x → In d (tasks x) → Free S t
    go (draft c) e j = in_none j
    go (fresh c) e j = in_none j
    go (ready c) e j = in_none j
    go (busy c ms) e j = in_none j
    go (joining c d' ds) e j = at_work e
    go over e j = in_none j

-- from one vertex, where it is known from those of a rank below n
one_back :
    {S : State} → Shape S → Ranks S → Ended S → (n v : ℕ) → S.rank v ≤ n
    → ((u : ℕ) → S.rank u < n → (S.control u ≡ over → ⊥) → Back S u) → (x : Control) → S.control v ≡ x → (x ≡ over → ⊥) → Back S v
one_back shape ranks ended n v le again (draft c) e live =
    let (c', ms, at, i) = shape.drafts v c e in
    at_maker (draft_new e) (at_code at)
one_back {S} shape ranks ended n v le again (fresh c) e live =
    at_maker (fresh_new e) (busy_with (S.maker v) (shape.freshes v c e))
one_back {S} shape ranks ended n v le again (ready c) e live = go (seek (λ u. S.edge u v) S.count)
  where
    lower : (u : ℕ) → S.edge u v ≡ true → S.rank u < n
    lower u p =
        let a : S.rank u ≤ S.fin u = ranks.rank_le u (shape.within u v p).0 in
        let b : S.fin u < S.rank v = ranks.edge_rank u v p in
        omega arith

    go : ((u : ℕ) × (S.edge u v ≡ true)) ⊎ ((u : ℕ) → u < S.count → S.edge u v ≡ false) → Back S v
    go (inl (u, p)) = along p (again u (lower u p) (λ o. true-false p (ended u v o)))
    go (inr none) = itself (unblocked e (λ u. not_so (S.edge u v) (λ p. true-false p (none u (shape.within u v p).0))))
one_back shape ranks ended n v le again (busy c ms) e live = itself (at_code e)
one_back shape ranks ended n v le again (joining c d ds) e live = itself (at_work e)
one_back shape ranks ended n v le again over e live = absurd (live refl)

-- from a vertex of a rank below n
back : {S : State} → Shape S → Ranks S → Ended S → (n v : ℕ) → S.rank v < n → (S.control v ≡ over → ⊥) → Back S v
back {S} shape ranks ended zero v lt live = absurd (let z : S.rank v < 0 = lt in omega arith)
back {S} shape ranks ended (suc n) v lt live =
    one_back shape ranks ended n v (le_of_suc-le-suc lt) (λ u l o. back shape ranks ended n u l o) (S.control v) refl live

-- From each vertex that is not over one can go back so.
pub goes_back : {S : State} → Shape S → Ranks S → Ended S → (v : ℕ) → (S.control v ≡ over → ⊥) → Back S v
goes_back {S} shape ranks ended v live = back shape ranks ended (suc (S.rank v)) v (omega arith) live

back_free : {S : State} {v : ℕ} → Back S v → (w : ℕ) × Free S w
back_free (itself {v} f) = (v, f)
back_free {S} (at_maker {v} n f) = (S.maker v, f)
back_free (along e b) = back_free b

-- Where some vertex is not over, one can move on.
pub can_go_on : {S : State} → Shape S → Ranks S → Ended S → (v : ℕ) → (S.control v ≡ over → ⊥) → (w : ℕ) × Free S w
can_go_on shape ranks ended v live = back_free (goes_back shape ranks ended v live)
