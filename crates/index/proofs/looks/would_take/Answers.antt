-- `would_take` meets its contract: each case is told by what its command looks at, and a start is not given.
use mathlib.Core.Path.{refl, sym, ◌∙◌, ap}
use mathlib.Core.Logic.{⊎_elim}
use Rattle.graph.specs.declared.Command.TheVariants.{Transfer}
use Rattle.graph.specs.Internal.Checks.{is_start}
use Rattle.graph.specs.Commands.{transfer_refusal}
use Rattle.graph.proofs.TestLaws.{true-false}
use Rattle.index.specs.Underway.{caller_of}
use Rattle.index.proofs.CommandLaws.{due_told, made_rows, caller_case}
use Rattle.index.proofs.LookLaws.{foretold_case, number_foretells, vertex_foretold, release_foretold, stop_foretold, yield_foretold}
use Rattle.index.proofs.looks.would_take.Goals as goal

pub takes_edge-requires : goal.takes_edge-requires
unfolding caller_of
takes_edge-requires c =
    let pre = c.requires in
    (pre.0, caller_case pre.0 c.in-NewEdge.is pre.1)

pub has_status-requires : goal.has_status-requires
has_status-requires c = made_rows c.requires.0

pub transfer_refusal-requires : goal.transfer_refusal-requires
unfolding caller_of
transfer_refusal-requires c =
    let pre = c.requires in
    record {
      indexed = (pre.0.indexed, pre.0.live);
      executes = (caller_case pre.0 c.in-Transfer.is pre.1, made_rows pre.0);
    }

pub returns-in-NewTd : goal.returns-in-NewTd
unfolding caller_of
returns-in-NewTd c =
    let pre = c.requires in
    let is = c.in-NewTd.is in
    foretold_case pre.0 is (vertex_foretold pre.0 _ (caller_case pre.0 is pre.1) _ _ c.row_left.ensures)

pub returns-in-Release : goal.returns-in-Release
unfolding caller_of
returns-in-Release c =
    let pre = c.requires in
    let is = c.in-Release.is in
    foretold_case pre.0 is (release_foretold pre.0 _ (caller_case pre.0 is pre.1) _ c.has_status.ensures)

pub returns-in-Transfer : goal.returns-in-Transfer
unfolding transfer_refusal
returns-in-Transfer c =
    let ready = c.requires.0 in
    foretold_case ready c.in-Transfer.is
    (rw (c.is_ok.ensures.value, due_told c.transfer_refusal.result)
    (number_foretells ready (Transfer _ _) (λ e rows. c.transfer_refusal.ensures e (ready.sound e rows))))

pub returns-in-Start : goal.returns-in-Start
unfolding is_start
returns-in-Start c = true-false refl (sym (ap is_start c.in-Start.is) ∙ c.requires.2)

pub returns-in-Stop : goal.returns-in-Stop
unfolding caller_of
returns-in-Stop c =
    let pre = c.requires in
    ⊎_elim
    (λ w. foretold_case pre.0 w.1 (stop_foretold pre.0 _ (caller_case pre.0 w.1 pre.1)))
    (λ w. foretold_case pre.0 w.1 (yield_foretold pre.0 _ (caller_case pre.0 w.1 pre.1)))
    c.in-Stop.is
