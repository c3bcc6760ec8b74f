-- Each path through the item's reader is a law of ItemPaths.
use Rattle.std.proofs.Common.{rules, ℕ, List, ◌≡◌, ◌≤◌, ◌+◌, ◌-◌, ◌==◌, false, sym, refl, arith, length, get_or}
use mathlib.Core.Path.{◌∙◌, ap}
use mathlib.Core.Logic.{inl, inr}
use borrow.Author.Tests.{eqb-true, eqb-false}
use Rattle.program.specs.declared.Reader.{Reader}
use Rattle.program.specs.Internal.Progress.{Ready, plus, one_of}
use Rattle.program.specs.Answers.{item_counts}
use Rattle.program.proofs.ProgressLaws.{passed_on}
use Rattle.program.proofs.BodyLoop.{along_end, along_out, along_stopped, along_more}
use Rattle.program.proofs.ItemPaths.{path_out, path_unknown, of_no_kind, opened_falls, path_numbered}
use Rattle.program.proofs.ItemPaths.{path_stopped, path_one, Opened, first_held, first_few, second_at, second_open, second_ready}
use Rattle.program.proofs.ItemPaths.{path_second_stopped, second_few, path_two}
use Rattle.program.proofs.Reader.+body_item.Goals as goal
use Rattle.program.proofs.Reader.+body_item.Goals.{body-then-bytes-from-eq-FUTURE, body-else-bytes-from-eq-FUTURE, item-then-first-eq-FORK+in_ok-behind-in-2-2, item-else-first-eq-FORK}

-- the reader behind an item's first byte
opens : (level opened : ℕ) (xs : List ℕ) (r o : Reader) → false ≡ (length xs == 0) → Ready r xs × (opened ≤ r.place)
    → (o.place ≡ r.place + 1) × (o.seen ≡ r.seen) → Opened level opened xs r o
opens level opened xs r o full ready moved = record { some = eqb-false (length xs) 0 (sym full); ready = ready.0; few = ready.1; moved = moved }

pub body-returns-then-bytes-from-eq-END : goal.body-returns-then-bytes-from-eq-END
body-returns-then-bytes-from-eq-END t c =
    along_end _ _ _ _ _ _ _ _ c.loop-from.invariant c.loop-from-test.true c.if-bytes-from-eq-END.true c.moved.ensures

pub body-returns-in-Err : goal.body-returns-in-Err
body-returns-in-Err t c =
    (along_stopped _ _ _ _ _ _ _ c.in-Err.refusal c.loop-from.invariant c.loop-from-test.true c.if-bytes-from-eq-END.false
    c.in-Err.is c.item.ensures)

pub body-overflow_sub-from : goal.body-overflow_sub-from
body-overflow_sub-from t c =
    let on =
    along_more _ _ _ _ _ _ _ _ _ c.loop-from.invariant c.loop-from-test.true c.if-bytes-from-eq-END.false c.in-Ok.is
    c.item.ensures
    (elim c.if-bytes-from-eq-FUTURE.branch [
      | body-then-bytes-from-eq-FUTURE w ↦ inl (w.if-bytes-from-eq-FUTURE.true, w.here-is)
      | body-else-bytes-from-eq-FUTURE w ↦ inr (w.if-bytes-from-eq-FUTURE.false, w.here-is)
    ]) in
    omega (arith, on.1)

pub body-loop-from-smaller : goal.body-loop-from-smaller
body-loop-from-smaller t c =
    let on =
    along_more _ _ _ _ _ _ _ _ _ c.loop-from.invariant c.loop-from-test.true c.if-bytes-from-eq-END.false c.in-Ok.is
    c.item.ensures
    (elim c.if-bytes-from-eq-FUTURE.branch [
      | body-then-bytes-from-eq-FUTURE w ↦ inl (w.if-bytes-from-eq-FUTURE.true, w.here-is)
      | body-else-bytes-from-eq-FUTURE w ↦ inr (w.if-bytes-from-eq-FUTURE.false, w.here-is)
    ]) in
    omega (arith, on.1)

pub body-loop-from-preserved : goal.body-loop-from-preserved
body-loop-from-preserved t c =
    (along_more _ _ _ _ _ _ _ _ _ c.loop-from.invariant c.loop-from-test.true c.if-bytes-from-eq-END.false c.in-Ok.is
    c.item.ensures
    (elim c.if-bytes-from-eq-FUTURE.branch [
      | body-then-bytes-from-eq-FUTURE w ↦ inl (w.if-bytes-from-eq-FUTURE.true, w.here-is)
      | body-else-bytes-from-eq-FUTURE w ↦ inr (w.if-bytes-from-eq-FUTURE.false, w.here-is)
    ])).0

pub body-returns : goal.body-returns
body-returns t c = rw c.refused.ensures (along_out _ _ _ _ _ _ _ c.loop-from.invariant c.loop-from-test.false)

pub item-returns-then-is_empty : goal.item-returns-then-is_empty
item-returns-then-is_empty t c =
    rw c.refused.ensures
    (path_out c.args.inside.level c.args.inside.opened c.args.bytes.now c.args.self.place (item_counts c.args.self.seen)
    (eqb-true _ 0 (sym c.if-is_empty.ensures)))

pub item-returns-in-1 : goal.item-returns-in-1
item-returns-in-1 t c =
    let at = opens c.args.inside.level _ _ _ _ c.if-is_empty.ensures c.requires c.moved.ensures in
    path_numbered at (search rules) c.numbered.ensures

pub item-returns-in_default : goal.item-returns-in_default
item-returns-in_default t c =
    let behind_first : Reader = record { place = c.args.self.place + 1; seen = c.args.self.seen } in
    let at = opens c.args.inside.level _ _ _ behind_first c.if-is_empty.ensures c.requires (refl, refl) in
    rw c.refused-in_default.ensures
    (path_unknown at
    (of_no_kind _ (search rules) (search rules) (search rules) (search rules) (search rules) (search rules)))

pub item-returns-in_err-behind-in-2 : goal.item-returns-in_err-behind-in-2
item-returns-in_err-behind-in-2 t c =
    let at = opens c.args.inside.level _ _ _ _ c.if-is_empty.ensures c.requires c.moved-behind_first.ensures in
    rw (passed_on _ _ c.from_residual.ensures)
    (path_stopped at c.in_err-behind-in-2.field-0.0 (search rules) (search rules) (omega arith) c.in_err-behind-in-2.was c.body.ensures)

pub item-counting-requires : goal.item-counting-requires
item-counting-requires t c =
    let at = opens c.args.inside.level _ _ _ _ c.if-is_empty.ensures c.requires c.moved-behind_first.ensures in
    let first = first_held at c.in_ok-behind-in-2.behind c.in_ok-behind-in-2.was c.body.ensures in
    elim c.if-first-eq-FORK.branch [
      | item-then-first-eq-FORK+in_ok-behind-in-2-2 w ↦ rw w.behind-is (second_few at first w.in_ok-behind-in-2-2.was w.body-then-first-eq-FORK.ensures)
      | item-else-first-eq-FORK w ↦ rw w.behind-is (first_few at first)
    ]

pub item-overflow_sub-from : goal.item-overflow_sub-from
item-overflow_sub-from t c =
    let at = opens c.args.inside.level _ _ _ _ c.if-is_empty.ensures c.requires c.moved-behind_first.ensures in
    let first = first_held at c.in_ok-behind-in-2.behind c.in_ok-behind-in-2.was c.body.ensures in
    omega (arith, (second_at at first).0)

pub item-slice_bounds-body-count-then-first-eq-FORK : goal.item-slice_bounds-body-count-then-first-eq-FORK
item-slice_bounds-body-count-then-first-eq-FORK t c =
    let at = opens c.args.inside.level _ _ _ _ c.if-is_empty.ensures c.requires c.moved-behind_first.ensures in
    let first = first_held at c.in_ok-behind-in-2.behind c.in_ok-behind-in-2.was c.body.ensures in
    (second_at at first).1

pub item-slice_bounds-body-start-then-first-eq-FORK : goal.item-slice_bounds-body-start-then-first-eq-FORK
item-slice_bounds-body-start-then-first-eq-FORK t c =
    let at = opens c.args.inside.level _ _ _ _ c.if-is_empty.ensures c.requires c.moved-behind_first.ensures in
    let first = first_held at c.in_ok-behind-in-2.behind c.in_ok-behind-in-2.was c.body.ensures in
    (second_at at first).1

pub item-body-requires-then-first-eq-FORK : goal.item-body-requires-then-first-eq-FORK
item-body-requires-then-first-eq-FORK t c =
    let at = opens c.args.inside.level _ _ _ _ c.if-is_empty.ensures c.requires c.moved-behind_first.ensures in
    let first = first_held at c.in_ok-behind-in-2.behind c.in_ok-behind-in-2.was c.body.ensures in (
      opened_falls c.args.bytes.now (c.in_ok-behind-in-2.behind.place - c.args.self.place) _ (omega (arith, (second_at at first).0))
          at.some c.decreases,
      (second_ready at first, second_open at first),
    )

pub item-returns-in_err-behind-in-2-2 : goal.item-returns-in_err-behind-in-2-2
item-returns-in_err-behind-in-2-2 t c =
    let at = opens c.args.inside.level _ _ _ _ c.if-is_empty.ensures c.requires c.moved-behind_first.ensures in
    let first = first_held at c.in_ok-behind-in-2.behind c.in_ok-behind-in-2.was c.body.ensures in
    rw (passed_on _ _ c.from_residual-in_err-behind-in-2-2.ensures)
    (path_second_stopped at c.in_err-behind-in-2-2.field-0.0 first c.if-first-eq-FORK.true (omega arith) c.in_err-behind-in-2-2.was
    c.body-then-first-eq-FORK.ensures)

pub item-returns-after-first-eq-FORK : goal.item-returns-after-first-eq-FORK
item-returns-after-first-eq-FORK t c =
    let at = opens c.args.inside.level _ _ _ _ c.if-is_empty.ensures c.requires c.moved-behind_first.ensures in
    let first = first_held at c.in_ok-behind-in-2.behind c.in_ok-behind-in-2.was c.body.ensures in
    elim c.if-first-eq-FORK.branch [
      | item-then-first-eq-FORK+in_ok-behind-in-2-2 w ↦
          path_two at first w.if-first-eq-FORK.true (omega arith) w.in_ok-behind-in-2-2.was w.body-then-first-eq-FORK.ensures (
            c.counting.ensures.0 ∙ ap (λ (b : Reader). b.place) w.behind-is,
            c.counting.ensures.1 ∙ ap (λ (b : Reader). plus (item_counts b.seen) (one_of (get_or c.args.bytes.now 0 0))) w.behind-is
                ∙ ap (λ (k : ℕ). plus (item_counts w.in_ok-behind-in-2-2.behind.seen) (one_of k)) w.if-first-eq-FORK.true,
          )
      | item-else-first-eq-FORK w ↦
          path_one at (search rules) (search rules) w.if-first-eq-FORK.false (omega arith) c.in_ok-behind-in-2.was c.body.ensures (
            c.counting.ensures.0 ∙ ap (λ (b : Reader). b.place) w.behind-is,
            c.counting.ensures.1 ∙ ap (λ (b : Reader). plus (item_counts b.seen) (one_of (get_or c.args.bytes.now 0 0))) w.behind-is,
          )
    ]
