-- Who may step after a command, and could not before.
use Prim.Native.Nat.{ℕ, ◌+◌, ◌<◌, ◌≤◌}
use mathlib.Core.Path.{◌≡◌, sym, ◌∙◌}
use mathlib.Core.Logic.{inl, inr, ⊎_elim}
use mathlib.Core.Bool.{true, false}
use mathlib.Core.List.{List}
use native.Mathlib.Omega.{arith}
use lib.Dec.{ltb}
use borrow.Author.Tests.{eq-eqb, eqb-true, ne_eqb, ltb-false}
use Rattle.graph.specs.Tables.{NEW, EXECUTING, RELEASED, FINISHED, largest_word, status_word, in_count_word, vertex_rows}
use Rattle.graph.specs.Tables.{status, in_count, set_status, source, target}
use Rattle.graph.specs.Paths.{holds}
use Rattle.graph.specs.Commands.{new_row, one_more, more_into, lowered}
use Rattle.graph.proofs.TestLaws.{true-false, decide, equal?, both_right, both-false_left, either_left, either_cases, either-false}
use Rattle.graph.proofs.TableLaws.{status_same, status_other, word_other, new_row-status, new_row_other, more_status, more_same, more_other}
use Rattle.graph.proofs.TableLaws.{lowered_out, lowered-status}
use Rattle.graph.proofs.PathLaws.{held_row}
use Rattle.graph.proofs.EdgeLaws.{row_holds}
use Rattle.index.specs.Underway.{may_step, Widens}

-- it is told by the status and the in-count
same_step : (v w : List ℕ) (u : ℕ) → status w u ≡ status v u → in_count w u ≡ in_count v u → may_step w u ≡ true → may_step v u ≡ true
unfolding may_step
same_step v w u p q h = rw (p, q) at h

-- one that executes may, and one that is new or finished may not
steps : (v : List ℕ) (u : ℕ) → status v u ≡ EXECUTING → may_step v u ≡ true
unfolding may_step
steps v u p = either_left _ (eq-eqb _ _ p)

waits : (v : List ℕ) (u : ℕ) → (status v u ≡ EXECUTING → ⊥) → (status v u ≡ RELEASED → ⊥) → may_step v u ≡ false
unfolding may_step
waits v u p q = either-false (ne_eqb _ _ p) (both-false_left _ (ne_eqb _ _ q))

-- an in-count that rose is not 0
rises : (n : ℕ) → one_more n ≡ 0 → ⊥
unfolding one_more
rises n h =
    ⊎_elim
    (λ p. let q : n + 1 ≡ 0 = rw p at h in omega arith)
    (λ p. let q : n ≡ 0 = rw p at h in omega (arith, ltb-false n largest_word p))
    (decide (ltb n largest_word))

-- nothing changed
pub widens_same : (v : List ℕ) (made lowest highest : ℕ) → Widens v made v made lowest highest
widens_same v made lowest highest u lt h = inl (lt, h)

-- newTd
pub widens_new :
    (v : List ℕ) (made place scope future lowest highest : ℕ) → made < vertex_rows v
    → Widens v made (new_row v made place scope future) (made + 1) lowest highest
widens_new v made place scope future lowest highest room u lt h =
    let w : List ℕ = new_row v made place scope future in
    ⊎_elim
    (λ q.
    let new : status w u ≡ NEW = rw q (new_row-status v made place scope future room) in
    true-false h (waits w u (λ z. omega arith) (λ z. omega arith)))
    (λ ne. inl (
      omega arith,
      same_step v w u (new_row_other v made place scope future u status_word (omega arith) ne)
          (new_row_other v made place scope future u in_count_word (omega arith) ne)
          h,
    ))
    (equal? u made)

-- a status set at t: release, yield, and the first part of stop
set_elsewhere : (v : List ℕ) (t x u : ℕ) → (u ≡ t → ⊥) → may_step (set_status v t x) u ≡ true → may_step v u ≡ true
set_elsewhere v t x u ne h =
    same_step v (set_status v t x) u (status_other v t x u ne)
    (word_other v t status_word x u in_count_word (omega arith) (omega arith) (omega arith))
    h

-- release
pub widens_release : (v : List ℕ) (made t x : ℕ) → Widens v made (set_status v t x) made t t
widens_release v made t x u lt h = ⊎_elim (λ q. inr (omega arith)) (λ ne. inl (lt, set_elsewhere v t x u ne h)) (equal? u t)

-- yield, whose caller could step
pub widens_yield :
    (v : List ℕ) (made t x lowest highest : ℕ) → status v t ≡ EXECUTING → Widens v made (set_status v t x) made lowest highest
widens_yield v made t x lowest highest p u lt h =
    ⊎_elim
    (λ q. inl (lt, steps v u (rw q p)))
    (λ ne. inl (lt, set_elsewhere v t x u ne h))
    (equal? u t)

-- newEdge
more_steps : (v : List ℕ) (t : ℕ) → t < vertex_rows v → may_step (more_into v t) t ≡ true → may_step v t ≡ true
unfolding may_step
more_steps v t room h =
    ⊎_elim
    (λ p. either_left _ (rw more_status at p))
    (λ p. absurd (rises (in_count v t) (sym (more_same v t (omega arith)) ∙ eqb-true _ _ (both_right _ _ p))))
    (either_cases _ _ h)

pub widens_edge :
    (v : List ℕ) (made t lowest highest : ℕ) → t < vertex_rows v → Widens v made (more_into v t) made lowest highest
widens_edge v made t lowest highest room u lt h =
    ⊎_elim
    (λ q. inl (lt, rw q (more_steps v t room (rw q at h))))
    (λ ne. inl (lt, same_step v (more_into v t) u (more_status v t u) (more_other v t u ne) h))
    (equal? u t)

-- stop, which lowers the in-counts of the targets of its rows alone
module _ (v x : List ℕ) (made used t lowest highest : ℕ) (room : t < vertex_rows v) where
  lowered_elsewhere :
      (u : ℕ) → (u ≡ t → ⊥) → holds x used t u ≡ false → may_step (lowered t x (set_status v t FINISHED) used) u ≡ true → may_step v u ≡ true
  lowered_elsewhere u ne none h =
      set_elsewhere v t FINISHED u ne
      (same_step (set_status v t FINISHED) (lowered t x (set_status v t FINISHED) used) u
      (lowered-status t x (set_status v t FINISHED) used u)
      (lowered_out t x (set_status v t FINISHED) used _
      (λ q. true-false (row_holds x used t u q.0 q.1 q.2 (let r = q.3 in omega arith)) none))
      h)

  finished : status (lowered t x (set_status v t FINISHED) used) t ≡ FINISHED
  finished = lowered-status t x (set_status v t FINISHED) used t ∙ status_same v t FINISHED room

  pub widens_stop :
      ((i : ℕ) → i < used → source x i ≡ t → (lowest ≤ target x i) × (target x i ≤ highest))
      → Widens v made (lowered t x (set_status v t FINISHED) used) made lowest highest
  widens_stop bounds u lt h =
      ⊎_elim
      (λ q. true-false (rw q at h) (waits _ t (λ z. let f = finished in omega arith) (λ z. let f = finished in omega arith)))
      (λ ne.
      ⊎_elim
      (λ p.
      let (i, li, s, g) = held_row x used t u p in
      let b = bounds i li s in
      inr (rw g at b))
      (λ p. inl (lt, lowered_elsewhere u ne p h))
      (decide (holds x used t u)))
      (equal? u t)
