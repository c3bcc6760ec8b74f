-- By the first byte: an end byte, a job or a force, an async, a finish, a future or a fork. The reader is moved by the bytes of what stands there.
use Rattle.std.proofs.Common.{rules, ◌≡◌, arith, refl, ◌∙◌, get_or}
use Rattle.program.specs.Bytes.{fork_byte}
use Rattle.program.proofs.SkipLaws.{skip_none, skip_fork, first_holds, second_holds, first_within}
use Rattle.program.proofs.ItemLaws.{shows_end, shows_numbered, shows_async, shows_finish, shows_future, shows_fork, handed}
use Rattle.program.proofs.EndedLaws.{ended_begins, first_ended, fork_ended, first_size, second_size}
use Rattle.program.proofs.Reader.item_here.Goals as goal

pub bounds-bytes-0 : goal.bounds-bytes-0
bounds-bytes-0 c = (skip_none _ (ended_begins _ _ _ c.requires.0)).0

pub moved-requires : goal.moved-requires
moved-requires c = omega (arith, skip_none _ (ended_begins _ _ _ c.requires.0))

pub returns-in-0 : goal.returns-in-0
returns-in-0 c = (shows_end _ _ c.in-0.is, handed _ c.moved.ensures.0 c.moved.ensures.1)

pub returns-in-1 : goal.returns-in-1
returns-in-1 c = (shows_numbered _ _ _ (search rules) c.numbered_here.ensures.0, c.numbered_here.ensures.1)

-- what tells their sizes
pub size_there-behind-requires : goal.size_there-behind-requires
size_there-behind-requires c =
    let begun = skip_none _ (ended_begins _ _ _ c.requires.0) in (
      first_holds _ 0 begun (grind (arith, begun)) (search rules),
      first_size _ _ _ (first_ended _ _ _ c.requires.0 (grind (arith, begun)) (search rules)),
    )

-- the first body ends within the bytes
pub overflow_add-behind : goal.overflow_add-behind
overflow_add-behind c =
    let begun = skip_none _ (ended_begins _ _ _ c.requires.0) in
    omega (arith, first_within _ 0 _ begun (grind (arith, begun)) (search rules) c.size_there-behind.ensures)

pub overflow_cast-behind : goal.overflow_cast-behind
overflow_cast-behind c =
    let begun = skip_none _ (ended_begins _ _ _ c.requires.0) in
    omega (arith, first_within _ 0 _ begun (grind (arith, begun)) (search rules) c.size_there-behind.ensures)

pub moved-past-requires : goal.moved-past-requires
moved-past-requires c =
    let begun = skip_none _ (ended_begins _ _ _ c.requires.0) in
    omega (arith, first_within _ 0 _ begun (grind (arith, begun)) (search rules) c.size_there-behind.ensures)

pub returns-in-2 : goal.returns-in-2
returns-in-2 c = (
  shows_async _ _ _ c.in-2.is c.size_there-behind.ensures c.moved-past.ensures.0,
  handed _ refl c.moved-past.ensures.1,
)

pub returns-in-3 : goal.returns-in-3
returns-in-3 c = (
  shows_finish _ _ _ c.in-3.is c.size_there-behind.ensures c.moved-past.ensures.0,
  handed _ refl c.moved-past.ensures.1,
)

pub returns-in-5 : goal.returns-in-5
returns-in-5 c = (
  shows_future _ _ _ c.in-5.is c.size_there-behind.ensures c.moved-past.ensures.0,
  handed _ refl c.moved-past.ensures.1,
)

pub slice_bounds-size_there-count-in_default-first : goal.slice_bounds-size_there-count-in_default-first
slice_bounds-size_there-count-in_default-first c =
    let begun = skip_none _ (ended_begins _ _ _ c.requires.0) in
    omega (arith, first_within _ 0 _ begun (grind (arith, begun)) (search rules) c.size_there-behind.ensures)

pub slice_bounds-size_there-start-in_default-first : goal.slice_bounds-size_there-start-in_default-first
slice_bounds-size_there-start-in_default-first c =
    let begun = skip_none _ (ended_begins _ _ _ c.requires.0) in
    omega (arith, first_within _ 0 _ begun (grind (arith, begun)) (search rules) c.size_there-behind.ensures)

pub size_there-requires : goal.size_there-requires
size_there-requires c =
    let begun = skip_none _ (ended_begins _ _ _ c.requires.0) in
    let forked : get_or c.args.bytes.now 0 0 ≡ fork_byte = grind (arith, begun) in (
      second_holds _ 0 _ begun forked c.size_there-behind.ensures,
      rw c.moved-past.ensures.0
          (second_size _ _ _ _ (fork_ended _ _ _ c.requires.0 forked) c.size_there-behind.ensures),
    )

-- so does a fork's second
pub overflow_cast-size_there : goal.overflow_cast-size_there
overflow_cast-size_there c =
    let begun = skip_none _ (ended_begins _ _ _ c.requires.0) in
    let forked : get_or c.args.bytes.now 0 0 ≡ fork_byte = grind (arith, begun) in
    omega (arith, (skip_fork _ 0 _ _ begun forked c.size_there-behind.ensures c.size_there.ensures).0)

pub moved-requires-in_default-first : goal.moved-requires-in_default-first
moved-requires-in_default-first c =
    let begun = skip_none _ (ended_begins _ _ _ c.requires.0) in
    let forked : get_or c.args.bytes.now 0 0 ≡ fork_byte = grind (arith, begun) in
    omega (arith, (skip_fork _ 0 _ _ begun forked c.size_there-behind.ensures c.size_there.ensures).0, c.moved-past.ensures.0)

pub returns-in_default-first : goal.returns-in_default-first
returns-in_default-first c =
    let begun = skip_none _ (ended_begins _ _ _ c.requires.0) in
    let forked : get_or c.args.bytes.now 0 0 ≡ fork_byte = grind (arith, begun) in (
      shows_fork _ _ _ _ forked c.size_there-behind.ensures c.size_there.ensures c.moved-past.ensures.0 c.moved-in_default-first.ensures.0,
      handed _ refl (c.moved-in_default-first.ensures.1 ∙ c.moved-past.ensures.1),
    )
