-- By the first byte: an end byte, a job or a force, an async, a finish, a future or a fork. The ends tell where the bodies end.
use Rattle.std.proofs.Common.{rules, ◌+◌, arith, refl, sym, ap, ◌∙◌}
use Rattle.program.proofs.SkipLaws.{skip_none}
use Rattle.program.proofs.ItemLaws.{shows_end, shows_numbered, shows_async, shows_finish, shows_future, shows_fork, handed}
use Rattle.program.proofs.EndedLaws.{ended_begins, first_ended, fork_ended, fork_past}
use Rattle.program.proofs.Reader.item_ended.Goals as goal

pub bounds-bytes-0 : goal.bounds-bytes-0
bounds-bytes-0 c = (skip_none _ (ended_begins _ _ _ c.requires.0)).0

pub moved-requires : goal.moved-requires
moved-requires c = omega (arith, skip_none _ (ended_begins _ _ _ c.requires.0))

pub returns-in-0 : goal.returns-in-0
returns-in-0 c = (shows_end _ _ c.in-0.is, handed _ c.moved.ensures.0 c.moved.ensures.1)

pub returns-in-1 : goal.returns-in-1
returns-in-1 c = (shows_numbered _ _ _ (search rules) c.numbered_here.ensures.0, c.numbered_here.ensures.1)

pub bounds-ends-body : goal.bounds-ends-body
bounds-ends-body c =
    let begun = skip_none _ (ended_begins _ _ _ c.requires.0) in
    let first = first_ended _ _ _ c.requires.0 (grind (arith, begun)) (search rules) in
    omega (arith, first.starts)

pub returns-in-2 : goal.returns-in-2
returns-in-2 c =
    let begun = skip_none _ (ended_begins _ _ _ c.requires.0) in
    let first = first_ended _ _ _ c.requires.0 (grind (arith, begun)) (search rules) in (
      shows_async _ _ _ c.in-2.is first.sized (c.placed-past.ensures.0 ∙ first.is (omega (arith, first.starts))),
      handed _ refl c.placed-past.ensures.1,
    )

pub returns-in-3 : goal.returns-in-3
returns-in-3 c =
    let begun = skip_none _ (ended_begins _ _ _ c.requires.0) in
    let first = first_ended _ _ _ c.requires.0 (grind (arith, begun)) (search rules) in (
      shows_finish _ _ _ c.in-3.is first.sized (c.placed-past.ensures.0 ∙ first.is (omega (arith, first.starts))),
      handed _ refl c.placed-past.ensures.1,
    )

pub returns-in-5 : goal.returns-in-5
returns-in-5 c =
    let begun = skip_none _ (ended_begins _ _ _ c.requires.0) in
    let first = first_ended _ _ _ c.requires.0 (grind (arith, begun)) (search rules) in (
      shows_future _ _ _ c.in-5.is first.sized (c.placed-past.ensures.0 ∙ first.is (omega (arith, first.starts))),
      handed _ refl c.placed-past.ensures.1,
    )

-- no other byte is left than a fork's
pub bounds-ends-behind : goal.bounds-ends-behind
bounds-ends-behind c =
    let begun = skip_none _ (ended_begins _ _ _ c.requires.0) in
    let both = fork_ended _ _ _ c.requires.0 (grind (arith, begun)) in
    omega (arith, both.left.is (omega (arith, both.left.starts)), both.right.starts)

pub returns-in_default-first : goal.returns-in_default-first
returns-in_default-first c =
    let begun = skip_none _ (ended_begins _ _ _ c.requires.0) in
    let both = fork_ended _ _ _ c.requires.0 (grind (arith, begun)) in
    let right = c.placed-past.ensures.0 in (
      shows_fork _ _ _ _ (grind (arith, begun)) both.left.sized both.right.sized
          (right ∙ both.left.is (omega (arith, both.left.starts)))
          (c.placed.ensures.0 ∙ fork_past _ _ _ both (omega arith) ∙ ap (λ k. k + both.right.t) (sym right)),
      handed _ refl c.placed.ensures.1,
    )
