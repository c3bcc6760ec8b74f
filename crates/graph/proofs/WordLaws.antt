-- No other word: outside the words that a command may change, both tables and the count of steps are what they were.
use Prim.Native.Nat.{ℕ, ◌+◌, ◌*◌, ◌/◌, ◌<◌, ◌≤◌}
use mathlib.Core.Path.{◌≡◌, refl, ◌∙◌}
use mathlib.Core.Bool.{Bool, true, false, cond}
use mathlib.Core.List.{List}
use native.Mathlib.Omega.{arith}
use mathlib.Core.Logic.{inl, inr, ⊎_elim}
use lib.ListN.{get_or, length-set}
use lib.Seq.{get_or-set_other}
use lib.Dec.{ltb}
use borrow.Author.Tests.{ltb-true, ltb-false}
use Rattle.graph.specs.declared.Command.{Command}
use Rattle.graph.specs.declared.Command.TheVariants.{NewTd, NewEdge, Release, Transfer, Start, Stop, Yield}
use Rattle.graph.specs.Tables.{Lent, RELEASED, EXECUTING, FINISHED, vertex_words, edge_words, status_word, source_word, edge_rows, source, set_status}
use Rattle.graph.specs.Commands.{adds_nothing, with_vertex, with_edge, with_moved, moved, stopped}
use Rattle.graph.specs.Demand2.{VertexWordOf, EdgeWordOf, SameBut, NewRowOf}
use Rattle.graph.proofs.TestLaws.{true-false, decide, equal?}
use Rattle.graph.proofs.TableLaws.{length-new_row, new_row_out, new_row-status, new_row_place, new_row_scope, new_row_future, new_row_zero}
use Rattle.graph.proofs.TableLaws.{length-appended, appended_out, length_moved, moved_out, moved_rest, length_without, without_later}
use Rattle.graph.proofs.TableLaws.{length_more, more_out, length-lowered, lowered_out}
use Rattle.graph.proofs.TakenLaws.{leaves, Taken, adds_nothing_lem}

pub same_all : (P : ℕ → Type 0) (l : List ℕ) → SameBut P l l
same_all P l = (refl, λ i f. refl)

same_but_status : (v : List ℕ) (k x : ℕ) → SameBut (λ i. i ≡ vertex_words * k + status_word) v (set_status v k x)
same_but_status v k x = (length-set v (vertex_words * k + status_word) x, λ i f. get_or-set_other v (vertex_words * k + status_word) i x 0 f)

-- a word that is not the source of a held edge out of t: it may stand in a held row all the same
moved_else :
    (t t' : ℕ) (e : List ℕ) (n i : ℕ) → n ≤ edge_rows e → ((j : ℕ) × (j < n) × (source e j ≡ t) × (i ≡ edge_words * j + source_word) → ⊥)
    → get_or (moved t t' e n) i 0 ≡ get_or e i 0
moved_else t t' e n i le f =
    ⊎_elim
    (λ q.
    ⊎_elim
    (λ b. let lt : i / edge_words < n = ltb-true (i / edge_words) n b in
    rw q (moved_rest t t' e n (i / edge_words) le lt (λ p. f (i / edge_words, lt, p, q))))
    (λ b. let ge : n ≤ i / edge_words = ltb-false (i / edge_words) n b in
    moved_out t t' e n i (λ r. let p = r.2 in omega arith))
    (decide (ltb (i / edge_words) n)))
    (λ q. moved_out t t' e n i (λ r. q (let p = r.2 in omega arith)))
    (equal? i (edge_words * (i / edge_words) + source_word))

pub vertex_words_of : (c : Command) (s : Lent) → SameBut (VertexWordOf c s) s.vertices (leaves c s).vertices
unfolding with_vertex with_edge with_moved stopped
vertex_words_of (NewTd t place scope) s = (length-new_row s.vertices s.made place scope _, new_row_out s.vertices s.made place scope _)
vertex_words_of (NewEdge t t1 t2) s = go (adds_nothing s t1 t2) refl
  where
    go : (b : Bool) → adds_nothing s t1 t2 ≡ b → SameBut (VertexWordOf (NewEdge t t1 t2) s) s.vertices (cond b s (with_edge s t1 t2)).vertices
    go true q = same_all (VertexWordOf (NewEdge t t1 t2) s) s.vertices
    go false q = (
      length_more s.vertices t2,
      λ i f. more_out s.vertices t2 i (λ r. f (λ n. true-false ((adds_nothing_lem s t1 t2).1 n) q, r)),
    )
vertex_words_of (Release t t') s = same_but_status s.vertices t' RELEASED
vertex_words_of (Transfer t t') s = same_all (λ i. ⊥) s.vertices
vertex_words_of (Start t) s = same_but_status s.vertices t EXECUTING
vertex_words_of (Stop t) s =
    let (len, words) = same_but_status s.vertices t FINISHED in (
      length-lowered t s.edges _ s.held ∙ len,
      λ i f. lowered_out t s.edges _ s.held i (λ q. f (inr q)) ∙ words i (λ q. f (inl q)),
    )
vertex_words_of (Yield t) s = same_but_status s.vertices t RELEASED

pub edge_words_of : (c : Command) (s : Lent) → s.held ≤ edge_rows s.edges → SameBut (EdgeWordOf c s) s.edges (leaves c s).edges
unfolding with_vertex with_edge with_moved stopped
edge_words_of (NewTd t place scope) s le = same_all (λ i. ⊥) s.edges
edge_words_of (NewEdge t t1 t2) s le = go (adds_nothing s t1 t2) refl
  where
    go : (b : Bool) → adds_nothing s t1 t2 ≡ b → SameBut (EdgeWordOf (NewEdge t t1 t2) s) s.edges (cond b s (with_edge s t1 t2)).edges
    go true q = same_all (EdgeWordOf (NewEdge t t1 t2) s) s.edges
    go false q = (
      length-appended s.edges s.held t1 t2,
      λ i f. appended_out s.edges s.held t1 t2 i (λ r. f (λ n. true-false ((adds_nothing_lem s t1 t2).1 n) q, r.0, r.1)),
    )
edge_words_of (Release t t') s le = same_all (λ i. ⊥) s.edges
edge_words_of (Transfer t t') s le = (length_moved t t' s.edges s.held, λ i f. moved_else t t' s.edges s.held i le f)
edge_words_of (Start t) s le = same_all (λ i. ⊥) s.edges
edge_words_of (Stop t) s le =
    (length_without t s.edges s.held le, λ i f. without_later t s.edges s.held i (not_below f))
  where
    not_below : {i k : ℕ} → (i < k → ⊥) → k ≤ i
    not_below f = omega arith
edge_words_of (Yield t) s le = same_all (λ i. ⊥) s.edges

pub new_row_of : (c : Command) (s : Lent) → Taken c s → NewRowOf c s (leaves c s)
unfolding with_vertex
new_row_of (NewTd t place scope) s h =
    record {
      is_new = new_row-status s.vertices s.made place scope _ h.1;
      has_place = new_row_place s.vertices s.made place scope _ h.1;
      has_scope = new_row_scope s.vertices s.made place scope _ h.1;
      has_future = new_row_future s.vertices s.made place scope _ h.1;
      others_zero = new_row_zero s.vertices s.made place scope _;
    }
new_row_of (NewEdge t t1 t2) s h = tt
new_row_of (Release t t') s h = tt
new_row_of (Transfer t t') s h = tt
new_row_of (Start t) s h = tt
new_row_of (Stop t) s h = tt
new_row_of (Yield t) s h = tt

pub steps_kept_of : (c : Command) (s : Lent) → (leaves c s).steps ≡ s.steps
unfolding with_vertex with_edge with_moved stopped
steps_kept_of (NewTd t place scope) s = refl
steps_kept_of (NewEdge t t1 t2) s = go (adds_nothing s t1 t2)
  where
    go : (b : Bool) → (cond b s (with_edge s t1 t2)).steps ≡ s.steps
    go true = refl
    go false = refl
steps_kept_of (Release t t') s = refl
steps_kept_of (Transfer t t') s = refl
steps_kept_of (Start t) s = refl
steps_kept_of (Stop t) s = refl
steps_kept_of (Yield t) s = refl
