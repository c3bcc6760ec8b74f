-- What each command that is taken keeps: sound tables, and that no edge is held twice.
use Prim.Native.Nat.{ℕ, ◌+◌, ◌<◌, ◌≤◌}
use mathlib.Core.Path.{sym, subst}
use mathlib.Core.Logic.{⊎_elim}
use mathlib.Core.List.{List}
use native.Mathlib.Omega.{arith}
use lib.ListN.{length-set}
use Rattle.graph.specs.declared.Command.{Command}
use Rattle.graph.specs.declared.Command.TheVariants.{NewTd, NewEdge, Release, Transfer, Start, Stop, Yield}
use Rattle.graph.specs.Tables.{Lent, RELEASED, EXECUTING, FINISHED, status_word, vertex_rows, edge_rows, status, set_status}
use Rattle.graph.specs.Commands.{with_status, with_vertex, with_edge, with_moved, stopped, new_row}
use Rattle.graph.specs.Demand2.{NoneTwice}
use Rattle.graph.proofs.TestLaws.{equal?, true-false}
use Rattle.graph.proofs.TableLaws.{status_same, status_other, length-new_row, new_row-status, new_row_other, length-appended, length_more}
use Rattle.graph.proofs.TableLaws.{more_status, length_moved, kept_rows_le, length_without, length-lowered, lowered-status}
use Rattle.graph.proofs.EdgeLaws.{none_out_of, appended_is, moved_is, without_is, appended_once, moved_once, without_once}
use Rattle.graph.proofs.SoundLaws.{Known, Fits, sound_fits}
use Rattle.graph.proofs.TakenLaws.{leaves, Taken}
use Rattle.graph.proofs.EffectLaws.{leaves_all, leaves_edge}

-- statuses stay known where a known one is set
set_known :
    (v : List ℕ) (n k x : ℕ) → k < n → n ≤ vertex_rows v → Known x → ((j : ℕ) → j < n → Known (status v j)) → (j : ℕ) → j < n
    → Known (status (set_status v k x) j)
set_known v n k x lt le p q j lj =
    ⊎_elim
    (λ z. rw (z, status_same v k x (omega arith)) p)
    (λ ne. rw (status_other v k x j ne) (q j lj))
    (equal? j k)

new_known :
    (v : List ℕ) (n place scope future : ℕ) → n < vertex_rows v → ((j : ℕ) → j < n → Known (status v j)) → (j : ℕ) → j < n + 1
    → Known (status (new_row v n place scope future) j)
new_known v n place scope future lt q j lj =
    ⊎_elim
    (λ z. rw z (omega (arith, new_row-status v n place scope future lt)))
    (λ ne. rw (new_row_other v n place scope future j status_word (omega arith) ne) (q j (omega arith)))
    (equal? j n)

with_status_fits : (s : Lent) (k x : ℕ) → k < s.made → Known x → Fits s → Fits (with_status s k x)
with_status_fits s k x lt known f =
    record {
      vertices_fit = rw length-set f.vertices_fit;
      edges_fit = f.edges_fit;
      statuses_are_known = set_known s.vertices s.made k x lt f.vertices_fit known f.statuses_are_known;
      ends_are_made = f.ends_are_made;
    }

with_vertex_fits : (s : Lent) (t place scope : ℕ) → s.made < vertex_rows s.vertices → Fits s → Fits (with_vertex s t place scope)
unfolding with_vertex
with_vertex_fits s t place scope lt f =
    record {
      vertices_fit = rw length-new_row (omega arith);
      edges_fit = f.edges_fit;
      statuses_are_known = new_known s.vertices s.made place scope _ lt f.statuses_are_known;
      ends_are_made = λ a b h. let made = f.ends_are_made a b h in omega arith;
    }

with_edge_fits : (s : Lent) (t1 t2 : ℕ) → t1 < s.made → t2 < s.made → s.held < edge_rows s.edges → Fits s → Fits (with_edge s t1 t2)
unfolding with_edge
with_edge_fits s t1 t2 l1 l2 lt f =
    record {
      vertices_fit = rw length_more f.vertices_fit;
      edges_fit = rw length-appended (omega arith);
      statuses_are_known = λ k lk. rw more_status (f.statuses_are_known k lk);
      ends_are_made =
          λ a b h.
          ⊎_elim
          (λ p. f.ends_are_made a b p)
          (λ p. omega (arith, p.0, p.1))
          ((appended_is s.edges s.held t1 t2 lt a b).0 h);
    }

with_moved_fits : (s : Lent) (t t' : ℕ) → t' < s.made → Fits s → Fits (with_moved s t t')
unfolding with_moved
with_moved_fits s t t' lt f =
    record {
      vertices_fit = f.vertices_fit;
      edges_fit = rw length_moved f.edges_fit;
      statuses_are_known = f.statuses_are_known;
      ends_are_made =
          λ a b h.
          ⊎_elim
          (λ p. f.ends_are_made a b p.0)
          (λ p. let made = f.ends_are_made t b p.1 in omega (arith, p.0))
          ((moved_is s.edges s.held t t' f.edges_fit a b).0 h);
    }

stopped_fits : (s : Lent) (t : ℕ) → t < s.made → Fits s → Fits (stopped s t)
unfolding stopped
stopped_fits s t lt f =
    record {
      vertices_fit = rw (length-lowered, length-set) f.vertices_fit;
      edges_fit = rw (length_without t s.edges s.held f.edges_fit) (omega (arith, kept_rows_le t s.edges s.held, f.edges_fit));
      statuses_are_known =
          λ k lk. rw lowered-status (set_known s.vertices s.made t FINISHED lt f.vertices_fit (omega arith) f.statuses_are_known k lk);
      ends_are_made = λ a b h. f.ends_are_made a b ((without_is t s.edges s.held a b).0 h).0;
    }

-- sound tables stay sound
pub leaves_fits : (c : Command) (s : Lent) → Fits s → Taken c s → Fits (leaves c s)
leaves_fits (NewTd t place scope) s f h = with_vertex_fits s t place scope h.1 f
leaves_fits (NewEdge t t1 t2) s f h =
    ⊎_elim
    (λ p. rw (leaves_all s t t1 t2 p) f)
    (λ p. rw (leaves_edge s t t1 t2 p) (with_edge_fits s t1 t2 h.1.source_made h.1.target_made p.row_free f))
    h.1.adds
leaves_fits (Release t t') s f h = with_status_fits s t' RELEASED h.1 (omega arith) f
leaves_fits (Transfer t t') s f h = with_moved_fits s t t' h.1.is_made f
leaves_fits (Start t) s f h = with_status_fits s t EXECUTING h.1 (omega arith) f
leaves_fits (Stop t) s f h = stopped_fits s t h.is_made f
leaves_fits (Yield t) s f h = with_status_fits s t RELEASED h.is_made (omega arith) f

-- no edge comes to be held twice
pub leaves_once : (c : Command) (s : Lent) → Taken c s → NoneTwice s.edges s.held → NoneTwice (leaves c s).edges (leaves c s).held
unfolding with_vertex with_edge with_moved stopped
leaves_once (NewTd t place scope) s h none = none
leaves_once (NewEdge t t1 t2) s h none =
    ⊎_elim
    (λ p. subst (λ (z : Lent). NoneTwice z.edges z.held) (sym (leaves_all s t t1 t2 p)) none)
    (λ p.
    subst (λ (z : Lent). NoneTwice z.edges z.held) (sym (leaves_edge s t t1 t2 p))
    (appended_once s.edges s.held t1 t2 p.row_free (λ q. true-false q p.not_held) none))
    h.1.adds
leaves_once (Release t t') s h none = none
leaves_once (Transfer t t') s h none =
    moved_once s.edges s.held t t' (sound_fits s h.0.known).edges_fit
    (λ b q. true-false q ((none_out_of s.edges s.held t').0 h.1.no_edge_out b))
    none
leaves_once (Start t) s h none = none
leaves_once (Stop t) s h none = without_once t s.edges s.held none
leaves_once (Yield t) s h none = none
