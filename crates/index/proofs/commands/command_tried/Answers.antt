-- `command_tried` meets its contract: each case is its command, and a start is not given.
use mathlib.Core.Path.{refl, sym, ◌∙◌, ap}
use Rattle.graph.specs.Internal.Checks.{is_start}
use Rattle.graph.proofs.TestLaws.{true-false}
use Rattle.index.specs.Underway.{caller_of}
use Rattle.index.proofs.CommandLaws.{caller_case}
use Rattle.index.proofs.commands.command_tried.Goals as goal

pub new_td-requires : goal.new_td-requires
unfolding caller_of
new_td-requires c =
    let pre = c.requires in
    (pre.0, caller_case pre.0 c.in-NewTd.is pre.1)

pub new_edge-requires : goal.new_edge-requires
unfolding caller_of
new_edge-requires c =
    let pre = c.requires in
    (pre.0, caller_case pre.0 c.in-NewEdge.is pre.1, pre.2)

pub release-requires : goal.release-requires
unfolding caller_of
release-requires c =
    let pre = c.requires in
    (pre.0, caller_case pre.0 c.in-Release.is pre.1)

pub transfer-requires : goal.transfer-requires
unfolding caller_of
transfer-requires c =
    let pre = c.requires in
    (pre.0, caller_case pre.0 c.in-Transfer.is pre.1)

pub stop-requires : goal.stop-requires
unfolding caller_of
stop-requires c =
    let pre = c.requires in
    (pre.0, caller_case pre.0 c.in-Stop.is pre.1)

pub yield_caller-requires : goal.yield_caller-requires
unfolding caller_of
yield_caller-requires c =
    let pre = c.requires in
    (pre.0, caller_case pre.0 c.in-Yield.is pre.1)

pub returns-in-Start : goal.returns-in-Start
unfolding is_start
returns-in-Start c = true-false refl (sym (ap is_start c.in-Start.is) ∙ c.requires.3)
