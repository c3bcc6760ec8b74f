-- What a command that is taken does to the graph that the tables hold: its rule.
use Prim.Native.Nat.{ℕ, ◌<◌}
use mathlib.Core.Path.{◌≡◌, refl, sym, ◌∙◌, ap}
use mathlib.Core.Logic.{◌⊎◌, inl, inr, ⊎_elim}
use mathlib.Core.Bool.{Bool, true, cond}
use native.Mathlib.Omega.{arith}
use Rattle.graph.specs.declared.Command.{Command}
use Rattle.graph.specs.declared.Command.TheVariants.{NewTd, NewEdge, Release, Transfer, Start, Stop, Yield}
use Rattle.graph.specs.Tables.{Lent, NEW, RELEASED, EXECUTING, FINISHED, edge_rows, set_status}
use Rattle.graph.specs.Rules.{X, NEWTD, RELEASE, START, STOP, NEWEDGE, TRANSFER, YIELD, Rule, is_finished, added, ◌∪◌}
use Rattle.graph.specs.Commands.{with_status, with_vertex, with_edge, with_moved, stopped}
use Rattle.graph.specs.InCounts.{CountTrue, ReadsTrue}
use Rattle.graph.specs.Demand2.{graph, AddsNothing}
use Rattle.graph.proofs.EdgeLaws.{Is, OneMore, Moved, held_decides, none_into, none_out_of, into_counted, is_same, appended_is, moved_is}
use Rattle.graph.proofs.EdgeLaws.{without_is}
use Rattle.graph.proofs.SoundLaws.{Fits, sound_fits}
use Rattle.graph.proofs.TakenLaws.{leaves, Runs, Adds, TakenNewEdge, Taken, adds_nothing_lem, adds_one, taken_rows}
use Rattle.graph.proofs.RuleLaws.{same_graph, Inside, added_none, added_is, minus_is, transferred_is}
use Rattle.graph.proofs.GraphLaws.{shown_as, shown_not, shown_domain, shown_over, shown_live, shown_more, shown-lowered, shown_set, shown_new}

-- the caller's status in the graph
runs_shown : (s : Lent) (t : ℕ) → Runs s t → (graph s).status t ≡ X
runs_shown s t r = shown_as s.vertices s.made t EXECUTING r.is_made r.executing

-- held edges lead into the graph
pub inside : (s : Lent) (t : ℕ) → Fits s → Inside (graph s) t
inside s t f b h = shown_domain s.vertices s.made b (f.ends_are_made t b h).1

new_td_rule : (s : Lent) (t place scope : ℕ) → Taken (NewTd t place scope) s → NEWTD (graph s) t s.made (graph (with_vertex s t place scope))
unfolding with_vertex
new_td_rule s t place scope h =
    record {
      caller = runs_shown s t h.0;
      fresh = shown_not s.vertices s.made s.made (omega arith);
      after = same_graph (shown_new s.vertices s.made place scope _ h.1) (λ a b. refl);
    }

release_rule : (s : Lent) (t t' : ℕ) → Taken (Release t t') s → RELEASE (graph s) t t' (graph (with_status s t' RELEASED))
release_rule s t t' h =
    record {
      caller = runs_shown s t h.0;
      is_new = shown_as s.vertices s.made t' NEW h.1 h.2;
      after = same_graph (shown_set s.vertices s.made t' RELEASED h.1 (sound_fits s h.0.known).vertices_fit) (λ a b. refl);
    }

-- a word that is true and 0 says that no edge leads in
start_rule : (s : Lent) (t : ℕ) → CountTrue s t → Taken (Start t) s → START (graph s) t (graph (with_status s t EXECUTING))
start_rule s t counted h =
    record {
      is_released = shown_as s.vertices s.made t RELEASED h.1 h.2;
      no_edge_in = (none_into s.edges s.held t).0 ((into_counted s.edges s.held t).0 (sym counted ∙ h.3));
      after = same_graph (shown_set s.vertices s.made t EXECUTING h.1 (taken_rows (Start t) s h).0) (λ a b. refl);
    }

stop_rule : (s : Lent) (t : ℕ) → Taken (Stop t) s → STOP (graph s) t (graph (stopped s t))
unfolding stopped
stop_rule s t h =
    let f = sound_fits s h.known in
    record {
      caller = runs_shown s t h;
      after =
          same_graph
          (λ x.
          shown-lowered (set_status s.vertices t FINISHED) s.made t s.edges s.held x
          ∙ shown_set s.vertices s.made t FINISHED h.is_made f.vertices_fit x)
          (is_same (without_is t s.edges s.held) (minus_is (graph s) t (inside s t f)));
    }

yield_rule : (s : Lent) (t : ℕ) → Taken (Yield t) s → YIELD (graph s) t (graph (with_status s t RELEASED))
yield_rule s t h =
    record {
      caller = runs_shown s t h;
      after = same_graph (shown_set s.vertices s.made t RELEASED h.is_made (sound_fits s h.known).vertices_fit) (λ a b. refl);
    }

-- newEdge leaves everything, or appends its edge
pub leaves_all : (s : Lent) (t t1 t2 : ℕ) → AddsNothing s t1 t2 → leaves (NewEdge t t1 t2) s ≡ s
leaves_all s t t1 t2 p = ap (λ (b : Bool). cond b s (with_edge s t1 t2)) ((adds_nothing_lem s t1 t2).1 p)

pub leaves_edge : (s : Lent) (t t1 t2 : ℕ) → Adds s t1 t2 → leaves (NewEdge t t1 t2) s ≡ with_edge s t1 t2
leaves_edge s t t1 t2 p = ap (λ (b : Bool). cond b s (with_edge s t1 t2)) ((adds_one s t1 t2).1 (p.not_finished, p.not_held))

pub with_edge_is : (s : Lent) (t1 t2 : ℕ) → s.held < edge_rows s.edges → Is (graph (with_edge s t1 t2)).edge (OneMore (graph s).edge t1 t2)
unfolding with_edge
with_edge_is s t1 t2 lt = appended_is s.edges s.held t1 t2 lt

pub with_moved_is : (s : Lent) (t t' : ℕ) → Fits s → Is (graph (with_moved s t t')).edge (Moved (graph s).edge t t')
unfolding with_moved
with_moved_is s t t' f = moved_is s.edges s.held t t' f.edges_fit

-- the edges that newEdge leaves are the rule's
new_edge_after :
    (s : Lent) (t t1 t2 : ℕ) → TakenNewEdge s t t1 t2
    → graph (leaves (NewEdge t t1 t2) s) ≡ record { status = (graph s).status; edge = (graph s).edge ∪ added (graph s) t1 t2 }
unfolding with_edge
new_edge_after s t t1 t2 h =
    ⊎_elim
    (λ p. ap graph (leaves_all s t t1 t2 p) ∙ same_graph (λ x. refl) (λ a b. sym (added_none (graph s) t1 t2 (nothing p) a b)))
    (λ p.
    ap graph (leaves_edge s t t1 t2 p)
    ∙ same_graph (shown_more s.vertices s.made t2)
    (is_same (with_edge_is s t1 t2 p.row_free) (added_is (graph s) t1 t2 (shown_live s.vertices s.made t1 h.source_made p.not_finished))))
    h.adds
  where
    nothing : AddsNothing s t1 t2 → (is_finished ((graph s).status t1) ≡ true) ⊎ ((graph s).edge t1 t2 ≡ true)
    nothing =
        ⊎_elim
        (λ p. inl (shown_over s.vertices s.made t1 h.source_made p))
        (λ p. inr ((held_decides s t1 t2).1 p))

module _ (Free : (ℕ → ℕ → Bool) → Type 0) where
  new_edge_rule :
      (s : Lent) (t t1 t2 : ℕ) → Taken (NewEdge t t1 t2) s → Free (graph (leaves (NewEdge t t1 t2) s)).edge
      → NEWEDGE Free (graph s) t t1 t2 (graph (leaves (NewEdge t t1 t2) s))
  new_edge_rule s t t1 t2 h free =
      record {
        caller = runs_shown s t h.0;
        source_in = shown_domain s.vertices s.made t1 h.1.source_made;
        target_in = shown_domain s.vertices s.made t2 h.1.target_made;
        target_waits =
            ⊎_elim
            (λ p.
            inl
            (⊎_elim
            (λ q. inl (shown_as s.vertices s.made t2 NEW h.1.target_made q))
            (λ q. inr (shown_as s.vertices s.made t2 RELEASED h.1.target_made q))
            p))
            inr
            h.1.waits;
        after = new_edge_after s t t1 t2 h.1;
        cycle_free = free;
      }

  transfer_rule :
      (s : Lent) (t t' : ℕ) → Taken (Transfer t t') s → Free (graph (with_moved s t t')).edge → TRANSFER Free (graph s) t t' (graph (with_moved s t t'))
  unfolding with_moved
  transfer_rule s t t' h free =
      let f = sound_fits s h.0.known in
      record {
        caller = runs_shown s t h.0;
        is_new = shown_as s.vertices s.made t' NEW h.1.is_made h.1.is_new;
        no_edge_out = (none_out_of s.edges s.held t').0 h.1.no_edge_out;
        after = same_graph (λ x. refl) (is_same (with_moved_is s t t' f) (transferred_is (graph s) t t' (inside s t f)));
        cycle_free = free;
      }

  -- the rule of a command that is taken, with "cycle-free" left open
  pub rule_of : (c : Command) (s : Lent) → ReadsTrue c s → Taken c s → Free (graph (leaves c s)).edge → Rule Free c (graph s) (graph (leaves c s))
  rule_of (NewTd t place scope) s reads h free = (s.made, new_td_rule s t place scope h)
  rule_of (NewEdge t t1 t2) s reads h free = new_edge_rule s t t1 t2 h free
  rule_of (Release t t') s reads h free = release_rule s t t' h
  rule_of (Transfer t t') s reads h free = transfer_rule s t t' h free
  rule_of (Start t) s reads h free = start_rule s t reads h
  rule_of (Stop t) s reads h free = stop_rule s t h
  rule_of (Yield t) s reads h free = yield_rule s t h
