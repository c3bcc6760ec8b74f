-- A vertex's own words, stored and read: what storing them adds to the tables, and that it adds nothing where they stand there already. A
-- command leaves them alone.
use Prim.Native.Nat.{ℕ, ◌+◌, ◌*◌, ◌<◌, ◌≤◌}
use mathlib.Core.Path.{◌≡◌, refl, sym, ◌∙◌, ap}
use mathlib.Core.Bool.{Bool, true, false, cond}
use mathlib.Core.Logic.{inl, inr, ⊎_elim}
use mathlib.Core.List.{List}
use mathlib.Core.Option.{none, some}
use native.Mathlib.Omega.{arith}
use lib.Dec.{ltb}
use lib.ListN.{length, get_or, length-set}
use lib.Seq.{get_or-set_other, set-get_or}
use Rattle.graph.specs.Tables.{Lent, vertex_words, status_word, place_word, phase_word, made_word, future_word, in_count_word, vertex_rows, vertex_word, status}
use Rattle.graph.specs.Paths.{holds}
use Rattle.graph.specs.Commands.{adds_nothing, with_vertex, with_edge, with_moved, stopped}
use Rattle.graph.specs.Demand2.{graph, VertexWordOf}
use Rattle.graph.specs.declared.Command as single
use Rattle.graph.specs.declared.Command.TheVariants.{NewTd, NewEdge, Release, Transfer, Start, Stop, Yield}
use Rattle.graph.proofs.TakenLaws.{leaves}
use Rattle.graph.proofs.WordLaws.{vertex_words_of}
use Rattle.machine.specs.Answers.{one_step}
use Rattle.machine.specs.Stepping.{Own, own, own_of, stored, with_own}
use Rattle.machine.specs.Demand2.{OwnWord, Adds}
use Rattle.machine.proofs.TablesFollow.Follows.{words_of}
use Rattle.machine.proofs.TablesFollow.RowLaws.{own_in, own_is, rowed_own}

-- the table is as long as it was
pub length-stored : (t : List ℕ) (v : ℕ) (w : Own) → length (stored t v w) ≡ length t
unfolding stored
length-stored t v (own p φ a b c l) = simp length-set

-- its other words are what they were
stored_else : (t : List ℕ) (v : ℕ) (w : Own) (i : ℕ) → (OwnWord v i → ⊥) → get_or (stored t v w) i 0 ≡ get_or t i 0
unfolding stored
stored_else t v (own p φ a b c l) i not_own =
    let n1 : i ≡ vertex_words * v + place_word → ⊥ = λ q. not_own (inl q) in
    let n2 : i ≡ vertex_words * v + phase_word → ⊥ = λ q. not_own (inr (inl q)) in
    let n3 : i ≡ vertex_words * v + made_word → ⊥ = λ q. not_own (inr (inr (omega arith))) in
    let n4 : i ≡ vertex_words * v + (made_word + 1) → ⊥ = λ q. not_own (inr (inr (omega arith))) in
    let n5 : i ≡ vertex_words * v + (made_word + 2) → ⊥ = λ q. not_own (inr (inr (omega arith))) in
    let n6 : i ≡ vertex_words * v + future_word → ⊥ = λ q. not_own (inr (inr (omega arith))) in
    simp get_or-set_other

-- no vertex's status is one of the own words of a vertex, and no number of edges into one
pub status_not_own : (v k : ℕ) → OwnWord v (vertex_words * k + status_word) → ⊥
status_not_own v k = ⊎_elim (λ q. omega arith) (⊎_elim (λ q. omega arith) (λ (lo, hi). omega arith))

pub count_not_own : (v k : ℕ) → OwnWord v (vertex_words * k + in_count_word) → ⊥
count_not_own v k = ⊎_elim (λ q. omega arith) (⊎_elim (λ q. omega arith) (λ (lo, hi). omega arith))

-- so the graph is the same
stored_graph : (s : Lent) (v : ℕ) (w : Own) → graph (with_own s v w) ≡ graph s
stored_graph s v w = λ i. record { status = λ x. cond (ltb x s.made) (some (statuses x i)) none; edge = holds s.edges s.held }
  where
    statuses : (x : ℕ) → status (stored s.vertices v w) x ≡ status s.vertices x
    statuses x = stored_else s.vertices v w (vertex_words * x + status_word) (status_not_own v x)

-- the words stored are those that stand there then
own_stored : (s : Lent) (v : ℕ) (w : Own) → v < vertex_rows s.vertices → own_of (with_own s v w) v ≡ w
unfolding words_of
own_stored s v (own p φ a b c l) lt = own_is (with_own s v (own p φ a b c l)) v ∙ ap own_in (rowed_own s v (own p φ a b c l) lt).here

-- What a step adds.
pub own_adds : (s : Lent) (v : ℕ) (w : Own) → v < vertex_rows s.vertices → Adds v w s (one_step (with_own s v w))
unfolding own_of
own_adds s v w lt =
    record {
      same_graph = stored_graph s v w;
      own_words = own_stored s v w lt;
      same_vertex_words = (length-stored s.vertices v w, stored_else s.vertices v w);
      same_edges = refl;
      same_made = refl;
      same_held = refl;
      one_step = refl;
    }

-- storing the words that stand there changes nothing
own_stays : (s : Lent) (v : ℕ) → with_own s v (own_of s v) ≡ s
unfolding stored own_of
own_stays s v = simp set-get_or

-- a command leaves the own words of a made vertex
not_changed : (c : single.Command) (s : Lent) (v w : ℕ) → v < s.made → 0 < w → w < in_count_word → VertexWordOf c s (vertex_words * v + w) → ⊥
not_changed (NewTd t place scope) s v w lt gt lw q = omega (arith, q.0)
not_changed (NewEdge t t1 t2) s v w lt gt lw q = omega (arith, q.1)
not_changed (Release t t') s v w lt gt lw q = omega arith
not_changed (Transfer t t') s v w lt gt lw q = q
not_changed (Start t) s v w lt gt lw q = omega arith
not_changed (Stop t) s v w lt gt lw q = ⊎_elim (λ z. omega arith) (λ z. let y = z.3 in omega arith) q
not_changed (Yield t) s v w lt gt lw q = omega arith

-- so it leaves them as they were
pub leaves_own : (c : single.Command) (s : Lent) (v : ℕ) → v < s.made → own_of (leaves c s) v ≡ own_of s v
unfolding own_of
leaves_own c s v lt =
    λ i.
    own (at place_word (omega arith) (omega arith) i) (at phase_word (omega arith) (omega arith) i) (at made_word (omega arith) (omega arith) i)
    (at (made_word + 1) (omega arith) (omega arith) i)
    (at (made_word + 2) (omega arith) (omega arith) i)
    (at future_word (omega arith) (omega arith) i)
  where
    at : (w : ℕ) → 0 < w → w < in_count_word → vertex_word (leaves c s).vertices v w ≡ vertex_word s.vertices v w
    at w gt lw = (vertex_words_of c s).1 (vertex_words * v + w) (not_changed c s v w lt gt lw)

-- and so does a start or a stop, with what its step stores besides
pub leaves_stored : (c : single.Command) (s : Lent) (v : ℕ) → v < s.made → with_own (leaves c s) v (own_of s v) ≡ leaves c s
leaves_stored c s v lt =
    ap (with_own (leaves c s) v) (sym (leaves_own c s v lt)) ∙ own_stays (leaves c s) v

-- a command leaves as many vertices made, or one more
pub leaves_made : (c : single.Command) (s : Lent) → s.made ≤ (leaves c s).made
unfolding with_vertex with_edge with_moved stopped
leaves_made (NewTd t place scope) s = omega arith
leaves_made (NewEdge t t1 t2) s = go (adds_nothing s t1 t2)
  where
    go : (b : Bool) → s.made ≤ (cond b s (with_edge s t1 t2)).made
    go true = omega arith
    go false = omega arith
leaves_made (Release t t') s = omega arith
leaves_made (Transfer t t') s = omega arith
leaves_made (Start t) s = omega arith
leaves_made (Stop t) s = omega arith
leaves_made (Yield t) s = omega arith

-- the words of another vertex are not its own
else_not_own : (v u w : ℕ) → (v ≡ u → ⊥) → w < vertex_words → OwnWord u (vertex_words * v + w) → ⊥
else_not_own v u w other lw = ⊎_elim (λ q. other (omega arith)) (⊎_elim (λ q. other (omega arith)) (λ (lo, hi). other (omega arith)))

-- so what a step of u adds leaves the own words of every other vertex
pub adds_own : (v u : ℕ) (x : Own) (left after : Lent) → (v ≡ u → ⊥) → Adds u x left after → own_of after v ≡ own_of left v
unfolding own_of
adds_own v u x left after other a =
    λ i.
    own (at place_word (omega arith) i) (at phase_word (omega arith) i) (at made_word (omega arith) i) (at (made_word + 1) (omega arith) i)
    (at (made_word + 2) (omega arith) i)
    (at future_word (omega arith) i)
  where
    at : (w : ℕ) → w < vertex_words → vertex_word after.vertices v w ≡ vertex_word left.vertices v w
    at w lw = a.same_vertex_words.1 (vertex_words * v + w) (else_not_own v u w other lw)
