-- On a graph without a cycle: a command that is taken leaves none, and where its printed rule has a step and a row that it needs is
-- free, it is taken.
use Prim.Native.Nat.{ℕ, ◌<◌}
use mathlib.Core.Path.{◌≡◌, sym, ◌∙◌, ap, subst}
use mathlib.Core.Logic.{inl, inr, ⊎_elim}
use mathlib.Core.Bool.{true, false}
use native.Mathlib.Omega.{arith}
use Rattle.graph.specs.declared.Command.{Command}
use Rattle.graph.specs.declared.Command.TheVariants.{NewTd, NewEdge, Release, Transfer, Start, Stop, Yield}
use Rattle.graph.specs.Tables.{Lent, NEW, RELEASED, EXECUTING, FINISHED, status}
use Rattle.graph.specs.Sound.{sound}
use Rattle.graph.specs.Paths.{Leads, CycleFree, holds, leads_into, reaches}
use Rattle.graph.specs.Rules.{Graph, X, NEWEDGE, TRANSFER, Printed}
use Rattle.graph.specs.Commands.{with_vertex, adds_nothing, stopped}
use Rattle.graph.specs.InCounts.{ReadsTrue}
use Rattle.graph.specs.Demand2.{graph, RowFree}
use Rattle.graph.proofs.TestLaws.{not_so, true-false, decide}
use Rattle.graph.proofs.PathLaws.{Stays, path_reaches, reaches_path}
use Rattle.graph.proofs.EdgeLaws.{none_into, none_out_of, into_counted, Is, OneMore, Moved, without_is}
use Rattle.graph.proofs.SoundLaws.{sound_tally, sound_fits}
use Rattle.graph.proofs.TakenLaws.{leaves, Runs, Adds, TakenNewEdge, TakenTransfer, Taken, adds_nothing_lem, adds_one}
use Rattle.graph.proofs.RuleLaws.{added_is, transferred_is}
use Rattle.graph.proofs.GraphLaws.{shown-some, domain_shown, shown_live}
use Rattle.graph.proofs.EffectLaws.{inside, leaves_all, leaves_edge, with_edge_is, with_moved_is}
use Rattle.graph.proofs.CycleLaws.{fewer_free, one_more_free, one_more_cycle, moved_free, moved_cycle, target_reaches_lem}

-- a path that the test does not find is none
not_found : (s : Lent) (a b : ℕ) → reaches s.edges s.held a b ≡ false → Leads (graph s).edge a b → ⊥
not_found s a b h p = true-false (path_reaches s.edges s.held a b p) h

none_found : (s : Lent) (a b : ℕ) → (Leads (graph s).edge a b → ⊥) → reaches s.edges s.held a b ≡ false
none_found s a b h = not_so (reaches s.edges s.held a b) (λ q. h (reaches_path s.edges s.held a b q))

pub leaves_acyclic : (c : Command) (s : Lent) → Taken c s → CycleFree (graph s).edge → CycleFree (graph (leaves c s)).edge
unfolding with_vertex stopped
leaves_acyclic (NewTd t place scope) s h free = free
leaves_acyclic (NewEdge t t1 t2) s h free =
    ⊎_elim
    (λ p. subst (λ (z : Lent). CycleFree (graph z).edge) (sym (leaves_all s t t1 t2 p)) free)
    (λ p.
    subst (λ (z : Lent). CycleFree (graph z).edge) (sym (leaves_edge s t t1 t2 p))
    (one_more_free (with_edge_is s t1 t2 p.row_free) free (⊎_elim (λ q. p.not_same (sym q)) (not_found s t2 t1 p.no_path))))
    h.1.adds
leaves_acyclic (Release t t') s h free = free
leaves_acyclic (Transfer t t') s h free =
    moved_free (with_moved_is s t t' (sound_fits s h.0.known))
    (λ b q. true-false q ((none_out_of s.edges s.held t').0 h.1.no_edge_out b))
    free
    (not_found s t t' (sym (target_reaches_lem s.edges s.held t t') ∙ h.1.no_path))
leaves_acyclic (Start t) s h free = free
leaves_acyclic (Stop t) s h free = fewer_free (λ a b q. ((without_is t s.edges s.held a b).0 q).0) free
leaves_acyclic (Yield t) s h free = free

shown_runs : (s : Lent) (t : ℕ) → sound s ≡ true → (graph s).status t ≡ X → Runs s t
shown_runs s t known h =
    let (made, runs) = shown-some s.vertices s.made t EXECUTING h in
    record { known = known; is_made = made; executing = runs }

new_edge_taken :
    (s : Lent) (t t1 t2 : ℕ) (G' : Graph) → sound s ≡ true → NEWEDGE CycleFree (graph s) t t1 t2 G' → RowFree (NewEdge t t1 t2) s
    → TakenNewEdge s t t1 t2
new_edge_taken s t t1 t2 G' known r row =
    record {
      source_made = made;
      target_made = domain_shown s.vertices s.made t2 r.target_in;
      waits =
          ⊎_elim
          (λ p.
          inl
          (⊎_elim
          (λ q. inl (shown-some s.vertices s.made t2 NEW q).1)
          (λ q. inr (shown-some s.vertices s.made t2 RELEASED q).1)
          p))
          inr
          r.target_waits;
      adds = ⊎_elim (λ p. inl ((adds_nothing_lem s t1 t2).0 p)) (λ p. inr (adding p ((adds_one s t1 t2).0 p))) (decide (adds_nothing s t1 t2));
    }
  where
    made : t1 < s.made
    made = domain_shown s.vertices s.made t1 r.source_in

    no_way : (status s.vertices t1 ≡ FINISHED → ⊥) → Stays (graph s).edge t2 t1 → ⊥
    no_way ne =
        one_more_cycle
        (subst
        (λ (G : Graph). Is G.edge (OneMore (graph s).edge t1 t2))
        (sym r.after)
        (added_is (graph s) t1 t2 (shown_live s.vertices s.made t1 made ne)))
        r.cycle_free

    adding :
        adds_nothing s t1 t2 ≡ false → (status s.vertices t1 ≡ FINISHED → ⊥) × (holds s.edges s.held t1 t2 ≡ false)
        → Adds s t1 t2
    adding one h =
        record {
          not_finished = h.0;
          not_held = h.1;
          not_same = λ q. no_way h.0 (inl (sym q));
          no_path = none_found s t2 t1 (λ p. no_way h.0 (inr p));
          row_free = ⊎_elim (λ q. true-false ((adds_nothing_lem s t1 t2).1 q) one) (λ q. q) row;
        }

transfer_taken : (s : Lent) (t t' : ℕ) (G' : Graph) → sound s ≡ true → TRANSFER CycleFree (graph s) t t' G' → TakenTransfer s t t'
transfer_taken s t t' G' known r =
    let (made, new) = shown-some s.vertices s.made t' NEW r.is_new in
    record {
      is_made = made;
      is_new = new;
      no_edge_out = (none_out_of s.edges s.held t').1 r.no_edge_out;
      no_path =
          target_reaches_lem s.edges s.held t t'
          ∙ none_found s t t' (moved_cycle moves (λ q. two_statuses q new) r.cycle_free);
    }
  where
    moves : Is G'.edge (Moved (graph s).edge t t')
    moves =
        subst (λ (G : Graph). Is G.edge (Moved (graph s).edge t t')) (sym r.after)
        (transferred_is (graph s) t t' (inside s t (sound_fits s known)))

    two_statuses : t ≡ t' → status s.vertices t' ≡ NEW → ⊥
    two_statuses q new =
        let runs = ap (λ (x : ℕ). status s.vertices x) (sym q) ∙ (shown-some s.vertices s.made t EXECUTING r.caller).1 in
        omega arith

pub rule_taken : (c : Command) (s : Lent) (G' : Graph) → sound s ≡ true → ReadsTrue c s → Printed c (graph s) G' → RowFree c s → Taken c s
rule_taken (NewTd t place scope) s G' known reads r row = (shown_runs s t known r.1.caller, row)
rule_taken (NewEdge t t1 t2) s G' known reads r row = (shown_runs s t known r.caller, new_edge_taken s t t1 t2 G' known r row)
rule_taken (Release t t') s G' known reads r row =
    let (made, new) = shown-some s.vertices s.made t' NEW r.is_new in
    (shown_runs s t known r.caller, made, new)
rule_taken (Transfer t t') s G' known reads r row = (shown_runs s t known r.caller, transfer_taken s t t' G' known r)
rule_taken (Start t) s G' known reads r row =
    let (made, released) = shown-some s.vertices s.made t RELEASED r.is_released in
    let none : leads_into s.edges s.held t ≡ false = (none_into s.edges s.held t).1 r.no_edge_in in
    (sound_tally s known, made, released, reads ∙ (into_counted s.edges s.held t).1 none)
rule_taken (Stop t) s G' known reads r row = shown_runs s t known r.caller
rule_taken (Yield t) s G' known reads r row = shown_runs s t known r.caller
