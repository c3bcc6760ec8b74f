-- `transfer_refusal` meets its contract: the tests are the definition's, in the same order, where the definition asks the caller's targets.
use mathlib.Core.Path.{refl, ◌∙◌}
use native.Mathlib.Omega.{arith}
use borrow.Author.Tests.{eq-eqb, ne_eqb}
use Rattle.graph.specs.Commands.{transfer_refusal}
use Rattle.graph.proofs.TestLaws.{not_of_true, not_of_false}
use Rattle.graph.proofs.CycleLaws.{target_reaches_lem}
use Rattle.graph.proofs.CallLaws.{pass, halt}
use Rattle.index.proofs.CommandLaws.{own_refusal, first_not_made, out_found, path_found}
use Rattle.index.proofs.commands.transfer_refusal.Goals as goal

pub returns-then-tally-vertex : goal.returns-then-tally-vertex
unfolding transfer_refusal
returns-then-tally-vertex c = λ e known. first_not_made _ _ _ _ _ known c.if-tally-vertex.true

pub returns-then-vertices-vertex-ne-NEW : goal.returns-then-vertices-vertex-ne-NEW
unfolding transfer_refusal
returns-then-vertices-vertex-ne-NEW c =
    λ e known.
    let is_made = c.if-tally-vertex.false in
    own_refusal _ _ _ _ known c.requires.executes.0 is_made is_made (halt _ _ (ne_eqb _ _ c.if-vertices-vertex-ne-NEW.true))

pub returns-then-leads_out : goal.returns-then-leads_out
unfolding transfer_refusal
returns-then-leads_out c =
    λ e known.
    let is_made = c.if-tally-vertex.false in
    own_refusal _ _ _ _ known c.requires.executes.0 is_made is_made
    (pass _ (eq-eqb _ _ c.if-vertices-vertex-ne-NEW.false)
    (halt _ _ (not_of_true (out_found _ _ _ e c.requires.indexed.1 _ (omega arith) c.leads_out.ensures c.if-leads_out.true))))

pub returns-then-reaches : goal.returns-then-reaches
unfolding transfer_refusal
returns-then-reaches c =
    λ e known.
    let is_made = c.if-tally-vertex.false in
    own_refusal _ _ _ _ known c.requires.executes.0 is_made is_made
    (pass _ (eq-eqb _ _ c.if-vertices-vertex-ne-NEW.false)
    (pass _ (not_of_false (out_found _ _ _ e c.requires.indexed.1 _ (omega arith) c.leads_out.ensures c.if-leads_out.false))
    (halt _ _
    (not_of_true
    (target_reaches_lem _ _ _ _
    ∙ path_found _ _ _ e c.requires.indexed.1 _ (omega arith) c.requires.indexed.0 _ c.reaches.ensures c.if-reaches.true)))))

pub returns : goal.returns
unfolding transfer_refusal
returns c =
    λ e known.
    let is_made = c.if-tally-vertex.false in
    own_refusal _ _ _ _ known c.requires.executes.0 is_made is_made
    (pass _ (eq-eqb _ _ c.if-vertices-vertex-ne-NEW.false)
    (pass _ (not_of_false (out_found _ _ _ e c.requires.indexed.1 _ (omega arith) c.leads_out.ensures c.if-leads_out.false))
    (pass _
    (not_of_false
    (target_reaches_lem _ _ _ _
    ∙ path_found _ _ _ e c.requires.indexed.1 _ (omega arith) c.requires.indexed.0 _ c.reaches.ensures c.if-reaches.false))
    refl)))
