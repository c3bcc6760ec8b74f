use mathlib.Core.Path.{refl, sym, ◌∙◌}
use mathlib.Core.Logic.{inr}
use native.Mathlib.Omega.{arith}
use Rattle.graph.proofs.TestLaws.{true-false}
use Rattle.looks.proofs.OwnDue.{rows_there}
use Rattle.walks.proofs.WalkLaws.{row_left, row_none, walking_begins, walking_renewed, walking_further, walked_to, attempt_none, attempt_took}
use Rattle.walks.proofs.walk.walk_on.Goals as goal

pub loop-walked-init : goal.loop-walked-init
loop-walked-init c =
    let pre = c.requires in
    (refl, refl, (refl, refl, refl), (refl, refl, refl, refl, refl), walking_begins _ _ _ _ _ _ _ _ _ _ _ _ _ pre.0 pre.1 pre.2 pre.3 refl, refl)

-- the list is full
pub returns-then-is_full : goal.returns-then-is_full
returns-then-is_full c =
    let inv = c.loop-walked.invariant in
    let none = row_none _ c.loop-walked.desk.jobs.now c.loop-walked.desk.jobs.now _ refl c.is_full.ensures c.if-is_full.true in
    let walked = walked_to _ _ _ _ _ _ _ _ _ _ _ _ _ _ _ _ _ _ _ _ inv.4 (refl, refl, refl, refl, inv.5) (λ q. true-false q refl)
    (λ q. inr (sym inv.3.0 ∙ none.0, none.1)) c.loop-walked.shut inv.4.told.0 inv.4.barred in
    (walked.0, walked.1, walked.2, walked.3, walked.4, inv.2, inv.3)

-- no vertex that is not busy can step
pub returns-in-None : goal.returns-in-None
returns-in-None c =
    let inv = c.loop-walked.invariant in
    let renewed = c.renew-course.ensures in
    let here = walking_renewed _ _ _ _ _ _ _ _ _ _ _ _ _ _ _ _ _ _ _ _ _ _ _ inv.4 (renewed.4.0 ∙ inv.2.0) renewed.0 renewed.2 renewed.3 in
    let attempted = rw (renewed.4.0 ∙ inv.2.0) at c.take_next.ensures.0 in
    let (low, same_v, same_x, long, barred) = attempt_none _ _ _ _ _ _ _ _ _ _ _ attempted c.in-None.is in
    let walked = walked_to _ _ _ _ _ _ _ _ _ _ _ _ _ _ _ _ _ _ _ _ here (refl, refl, refl, refl, refl) (λ q. low _ (sym here.rows) here.barred) (λ q. true-false refl q) c.take_next.new.shut long
    (barred _ (sym here.rows) here.barred) in
    rw (same_v, same_x)
    (walked.0, walked.1, walked.2, walked.3, walked.4, (c.take_next.ensures.1.0 ∙ renewed.4.0 ∙ inv.2.0, renewed.4.1 ∙ inv.2.1, c.take_next.ensures.1.2 ∙ renewed.4.2 ∙ inv.2.2), inv.3)

pub hand_out-handed-requires : goal.hand_out-handed-requires
hand_out-handed-requires c =
    let inv = c.loop-walked.invariant in
    let renewed = c.renew-course.ensures in
    let here = walking_renewed _ _ _ _ _ _ _ _ _ _ _ _ _ _ _ _ _ _ _ _ _ _ _ inv.4 (renewed.4.0 ∙ inv.2.0) renewed.0 renewed.2 renewed.3 in
    let attempted = rw (renewed.4.0 ∙ inv.2.0) at c.take_next.ensures.0 in
    let took = attempt_took _ _ _ _ _ _ _ _ _ _ _ attempted c.in-Some.is in
    λ yes. (
      omega (arith, took.below_made, rows_there here.ready, here.long (sym inv.3.0 ∙ yes)),
      row_left _ c.loop-walked.desk.jobs.now c.loop-walked.desk.jobs.now _ refl c.is_full.ensures c.if-is_full.false yes,
      omega (arith, here.few, c.loop-walked-test.true, c.ranges),
    )

pub loop-walked-preserved : goal.loop-walked-preserved
loop-walked-preserved c =
    let inv = c.loop-walked.invariant in
    let renewed = c.renew-course.ensures in
    let here = walking_renewed _ _ _ _ _ _ _ _ _ _ _ _ _ _ _ _ _ _ _ _ _ _ _ inv.4 (renewed.4.0 ∙ inv.2.0) renewed.0 renewed.2 renewed.3 in
    let attempted = rw (renewed.4.0 ∙ inv.2.0) at c.take_next.ensures.0 in
    let size = c.take_next.ensures.1 in
    let took = attempt_took _ _ _ _ _ _ _ _ _ _ _ attempted c.in-Some.is in
    let out = rw inv.3.0 at c.hand_out-handed.ensures.0 in
    let same = c.hand_out-handed.ensures.1 in (
      c.renew-course.auto.edges ∙ inv.0,
      c.take_next.auto.shut ∙ inv.1,
      (size.0 ∙ renewed.4.0 ∙ inv.2.0, size.1 ∙ renewed.4.1 ∙ inv.2.1, size.2 ∙ renewed.4.2 ∙ inv.2.2),
      (same.0 ∙ inv.3.0, same.1 ∙ inv.3.1, same.2 ∙ inv.3.2, same.3 ∙ inv.3.3, same.4 ∙ inv.3.4),
      walking_further _ _ _ _ _ _ _ _ _ _ _ _ _ _ _ _ _ _ _ _ _ _ _ _ _ _ _ _ here c.loop-walked-test.true
          (λ yes. row_left _ c.loop-walked.desk.jobs.now c.loop-walked.desk.jobs.now _ refl c.is_full.ensures c.if-is_full.false (inv.3.0 ∙ yes)) took out
          size.1 same.1,
      refl,
    )
