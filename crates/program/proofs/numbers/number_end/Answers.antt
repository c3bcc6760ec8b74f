-- What `position` finds is the number's last byte.
use Rattle.std.proofs.Common.{rules, tests}
use Rattle.std.proofs.lemmas.Iterator.{YieldsList-from_slice}
use Rattle.std.proofs.lemmas.Iterator.Search.{position_from_yields_List}
use Rattle.program.proofs.NumberEnds.{is_last, end_by_position}
use Rattle.program.proofs.numbers.number_end.Goals as goal

pub returns-in-Some : goal.returns-in-Some
returns-in-Some c =
    let found = position_from_yields_List is_last _ _ c.position.result c.position.ensures.ran (YieldsList-from_slice _ c.iter.ensures.rest)
    (λ x b q k. search (rules, tests)) in
    let told = end_by_position c.args.bytes.now _ found in
    (rw c.in-Some.is at told)

pub returns-in-None : goal.returns-in-None
returns-in-None c =
    let found = position_from_yields_List is_last _ _ c.position.result c.position.ensures.ran (YieldsList-from_slice _ c.iter.ensures.rest)
    (λ x b q k. search (rules, tests)) in
    let told = end_by_position c.args.bytes.now _ found in
    (rw c.in-None.is at told)
