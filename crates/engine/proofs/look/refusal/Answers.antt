-- Each case is its command: accepted exactly where no refusal is due.
use mathlib.Core.Path.{refl}
use mathlib.Core.Logic.{⊎_elim}
use Rattle.graph.specs.Commands.{command, new_td, new_edge, release, transfer, start, stop, yield}
use Rattle.engine.proofs.LowestLaws.{told, told_case}
use Rattle.engine.proofs.look.refusal.Goals as goal

pub returns-in-NewTd : goal.returns-in-NewTd
unfolding command new_td
returns-in-NewTd c = told_case _ c.in-NewTd.is (told _ c.new_td_refusal.result _ _ refl c.new_td_refusal.ensures)

pub returns-in-NewEdge : goal.returns-in-NewEdge
unfolding command new_edge
returns-in-NewEdge c = told_case _ c.in-NewEdge.is (told _ c.new_edge_refusal.result _ _ refl c.new_edge_refusal.ensures)

pub returns-in-Release : goal.returns-in-Release
unfolding command release
returns-in-Release c = told_case _ c.in-Release.is (told _ c.release_refusal.result _ _ refl c.release_refusal.ensures)

pub returns-in-Transfer : goal.returns-in-Transfer
unfolding command transfer
returns-in-Transfer c = told_case _ c.in-Transfer.is (told _ c.transfer_refusal.result _ _ refl c.transfer_refusal.ensures)

pub returns-in-Start : goal.returns-in-Start
unfolding command start
returns-in-Start c = told_case _ c.in-Start.is (told _ c.start_refusal.result _ _ refl c.start_refusal.ensures)

pub returns-in-Stop : goal.returns-in-Stop
unfolding command stop yield
returns-in-Stop c =
    ⊎_elim (λ is. told_case _ is (told _ c.stop_or_yield_refusal.result _ _ refl c.stop_or_yield_refusal.ensures.stop))
    (λ is. told_case _ is (told _ c.stop_or_yield_refusal.result _ _ refl c.stop_or_yield_refusal.ensures.yields)) c.in-Stop.is
