-- What a vertex's row is after an update of the tables. `Rowed s s' v f`: s' is s, but that f is done to the row of v. Such are a status
-- that is set, and own words that are stored. Proofs above this file see no word numbers.
use Prim.Native.Nat.{ℕ, ◌+◌, ◌*◌, ◌<◌}
use mathlib.Core.Path.{◌≡◌, refl, ◌∙◌, ap, subst}
use mathlib.Core.Bool.{cond}
use mathlib.Core.Logic.{⊎_elim}
use mathlib.Core.List.{List}
use native.Mathlib.Omega.{arith}
use lib.Dec.{eqb}
use lib.ListN.{length, get_or, set, length-set}
use lib.Seq.{get_or-set_same, get_or-set_other}
use borrow.Author.Tests.{eq-eqb, ne_eqb}
use Rattle.graph.specs.Tables.{Lent, NEW, RELEASED, FINISHED, vertex_words, status_word, place_word, phase_word, made_word, future_word, in_count_word}
use Rattle.graph.specs.Tables.{vertex_rows, vertex_word, set_status, set_vertex_word}
use Rattle.graph.specs.Commands.{with_status, with_vertex, with_edge, with_moved, stopped}
use Rattle.graph.proofs.TestLaws.{equal?}
use Rattle.graph.proofs.TableLaws.{vertex_in, vertex_apart, new_row_other, new_row-status, new_row_place, new_row_scope, new_row_future, new_row_zero}
use Rattle.graph.proofs.TableLaws.{more_word, lowered_word}
use Rattle.program.specs.Encodings.{Command, Spot, Row}
use Rattle.machine.specs.Stepping.{latest, Own, own, own_of, moved_on, stored, with_own}
use Rattle.machine.proofs.GhostMachine.Ghost.{Do, link, hand, free, yield}
use Rattle.machine.proofs.TablesFollow.Follows.{Words, row, words_of}

-- word number w of a row set to x
abbrev pub set_at : ℕ → ℕ → Words → Words
set_at w x (row st pl sc ph a b c l) =
    row (cond (eqb w 0) x st) (cond (eqb w 1) x pl) (cond (eqb w 2) x sc) (cond (eqb w 3) x ph) (cond (eqb w 4) x a) (cond (eqb w 5) x b)
    (cond (eqb w 6) x c)
    (cond (eqb w 7) x l)

-- a word of a row after one was set
word_set :
    (l : List ℕ) (v w i x : ℕ) → vertex_words * v + w < length l
    → get_or (set l (vertex_words * v + w) x) (vertex_words * v + i) 0 ≡ cond (eqb w i) x (get_or l (vertex_words * v + i) 0)
word_set l v w i x lt =
    ⊎_elim
    (λ q.
    subst (λ (j : ℕ). get_or (set l (vertex_words * v + w) x) (vertex_words * v + j) 0 ≡ cond (eqb w j) x (get_or l (vertex_words * v + j) 0)) q
    (rw (eq-eqb w w refl) (get_or-set_same l (vertex_words * v + w) x 0 lt)))
    (λ ne. rw (ne_eqb w i ne) (get_or-set_other l (vertex_words * v + w) (vertex_words * v + i) x 0 (λ q. ne (omega arith))))
    (equal? w i)

-- the words of another row
word_else :
    (l : List ℕ) (v u w i x : ℕ) → w < vertex_words → i < vertex_words → (u ≡ v → ⊥)
    → get_or (set l (vertex_words * v + w) x) (vertex_words * u + i) 0 ≡ get_or l (vertex_words * u + i) 0
word_else l v u w i x lw li ne =
    get_or-set_other l (vertex_words * v + w) (vertex_words * u + i) x 0 (vertex_apart u v i w li lw ne)

-- rows of the same words are the same
pub same_row :
    {st st' pl pl' sc sc' ph ph' a a' b b' c c' l l' : ℕ} → st ≡ st' → pl ≡ pl' → sc ≡ sc' → ph ≡ ph' → a ≡ a' → b ≡ b' → c ≡ c' → l ≡ l'
    → row st pl sc ph a b c l ≡ row st' pl' sc' ph' a' b' c' l'
same_row p0 p1 p2 p3 p4 p5 p6 p7 = λ i. row (p0 i) (p1 i) (p2 i) (p3 i) (p4 i) (p5 i) (p6 i) (p7 i)

-- the row of a vertex in a table; the number of edges into the vertex is the word behind these
abbrev pub row_in : List ℕ → ℕ → Words
row_in l k =
    row (vertex_word l k 0) (vertex_word l k 1) (vertex_word l k 2) (vertex_word l k 3) (vertex_word l k 4) (vertex_word l k 5) (vertex_word l k 6)
    (vertex_word l k 7)

pub same_words :
    (l l' : List ℕ) (k : ℕ) → ((w : ℕ) → w < in_count_word → vertex_word l' k w ≡ vertex_word l k w) → row_in l' k ≡ row_in l k
same_words l l' k at =
    same_row (at 0 (omega arith)) (at 1 (omega arith)) (at 2 (omega arith)) (at 3 (omega arith)) (at 4 (omega arith))
    (at 5 (omega arith)) (at 6 (omega arith)) (at 7 (omega arith))

-- s' is s, but that f is done to the row of v
pub record Rowed (s s' : Lent) (v : ℕ) (f : Words → Words) : Type 0 where
  pub edges_same : s'.edges ≡ s.edges
  pub made_same : s'.made ≡ s.made
  pub held_same : s'.held ≡ s.held
  pub steps_same : s'.steps ≡ s.steps
  pub length_same : length s'.vertices ≡ length s.vertices
  pub others : (u : ℕ) → (u ≡ v → ⊥) → words_of s' u ≡ words_of s u
  pub here : words_of s' v ≡ f (words_of s v)

-- one word set
abbrev with_word : Lent → ℕ → ℕ → ℕ → Lent
with_word s v w x =
    record { vertices = set_vertex_word s.vertices v w x; edges = s.edges; made = s.made; held = s.held; steps = s.steps }

rowed_word : (s : Lent) (v w x : ℕ) → w < vertex_words → v < vertex_rows s.vertices → Rowed s (with_word s v w x) v (set_at w x)
unfolding words_of
rowed_word s v w x lw lt =
    record {
      edges_same = refl;
      made_same = refl;
      held_same = refl;
      steps_same = refl;
      length_same = length-set s.vertices (vertex_words * v + w) x;
      others =
          λ u ne. same_words s.vertices (with_word s v w x).vertices u (λ i li. word_else s.vertices v u w i x lw (omega arith) ne);
      here = same_row (at 0) (at 1) (at 2) (at 3) (at 4) (at 5) (at 6) (at 7);
    }
  where
    at : (i : ℕ) → vertex_word (with_word s v w x).vertices v i ≡ cond (eqb w i) x (vertex_word s.vertices v i)
    at i = word_set s.vertices v w i x (vertex_in s.vertices v w lt lw)

-- no update
pub rowed_none : (s : Lent) (v : ℕ) → Rowed s s v (λ w. w)
rowed_none s v =
    record {
      edges_same = refl;
      made_same = refl;
      held_same = refl;
      steps_same = refl;
      length_same = refl;
      others = λ u ne. refl;
      here = refl;
    }

-- one update after another
pub rowed_then :
    {s s' s'' : Lent} {v : ℕ} {f g : Words → Words} → Rowed s s' v f → Rowed s' s'' v g → Rowed s s'' v (λ w. g (f w))
rowed_then {g = g} p q =
    record {
      edges_same = q.edges_same ∙ p.edges_same;
      made_same = q.made_same ∙ p.made_same;
      held_same = q.held_same ∙ p.held_same;
      steps_same = q.steps_same ∙ p.steps_same;
      length_same = q.length_same ∙ p.length_same;
      others = λ u ne. q.others u ne ∙ p.others u ne;
      here = q.here ∙ ap g p.here;
    }

-- a vertex's row is in the table still
rowed_fits : {s s' : Lent} {v : ℕ} {f : Words → Words} → Rowed s s' v f → v < vertex_rows s.vertices → v < vertex_rows s'.vertices
rowed_fits p lt = rw p.length_same lt

-- and one word more
rowed_more :
    {s s' : Lent} {v : ℕ} {f : Words → Words} (w x : ℕ) → w < vertex_words → v < vertex_rows s.vertices → Rowed s s' v f
    → Rowed s (with_word s' v w x) v (λ y. set_at w x (f y))
rowed_more {s' = s'} {v = v} w x lw lt p = rowed_then p (rowed_word s' v w x lw (rowed_fits p lt))

-- a status that is set
pub rowed_status : (s : Lent) (v x : ℕ) → v < vertex_rows s.vertices → Rowed s (with_status s v x) v (set_at 0 x)
rowed_status s v x lt = rowed_word s v status_word x (omega arith) lt

-- the own words of a row
abbrev pub own_in : Words → Own
own_in (row st pl sc ph a b c l) = own pl ph a b c l

pub own_is : (s : Lent) (v : ℕ) → own_of s v ≡ own_in (words_of s v)
unfolding own_of words_of
own_is s v = refl

-- a row with other ones
abbrev pub put_own : Own → Words → Words
put_own (own p φ a b c l) w =
    set_at future_word l (set_at (made_word + 2) c (set_at (made_word + 1) b (set_at made_word a (set_at phase_word φ (set_at place_word p w)))))

-- own words that are stored
pub rowed_own : (s : Lent) (v : ℕ) (w : Own) → v < vertex_rows s.vertices → Rowed s (with_own s v w) v (put_own w)
unfolding stored
rowed_own s v (own p φ a b c l) lt =
    rowed_more future_word l (omega arith) lt
    (rowed_more (made_word + 2) c (omega arith) lt
    (rowed_more (made_word + 1) b (omega arith) lt
    (rowed_more made_word a (omega arith) lt
    (rowed_more phase_word φ (omega arith) lt
    (rowed_word s v place_word p (omega arith) lt)))))

-- the row after an item's command c, which was at phase φ and made x if it made a vertex
abbrev pub advancing : Row → (Spot → ℕ) → Command → ℕ → ℕ → Words → Words
advancing r spot c φ x w = put_own (moved_on r spot c φ x (own_in w)) w

-- what a command that joins vertices does to the row of its own vertex, before the own words are stored
abbrev pub turned : Do → Words → Words
turned (link a b) w = w
turned (hand h) w = w
turned (free m) w = w
turned yield w = set_at status_word RELEASED w

-- the row that newTd of t makes, and the others; the latest open future is copied
pub new_row :
    (s : Lent) (t place scope : ℕ) → s.made < vertex_rows s.vertices
    → words_of (with_vertex s t place scope) s.made ≡ row NEW place scope 0 0 0 0 (latest s t)
unfolding words_of with_vertex
new_row s t place scope lt =
    same_row (new_row-status s.vertices s.made place scope future lt) (new_row_place s.vertices s.made place scope future lt)
    (new_row_scope s.vertices s.made place scope future lt)
    (zero_word phase_word (omega arith) (omega arith) (omega arith))
    (zero_word made_word (omega arith) (omega arith) (omega arith))
    (zero_word (made_word + 1) (omega arith) (omega arith) (omega arith))
    (zero_word (made_word + 2) (omega arith) (omega arith) (omega arith))
    (new_row_future s.vertices s.made place scope future lt)
  where
    future : ℕ
    future = latest s t

    zero_word : (w : ℕ) → w < vertex_words → 2 < w → w < future_word → vertex_word (with_vertex s t place scope).vertices s.made w ≡ 0
    zero_word w lw gt lf =
        new_row_zero s.vertices s.made place scope future w lw (omega arith) (omega arith) (omega arith) (omega arith)

pub new_others : (s : Lent) (t place scope u : ℕ) → (u ≡ s.made → ⊥) → words_of (with_vertex s t place scope) u ≡ words_of s u
unfolding words_of with_vertex
new_others s t place scope u ne =
    same_words s.vertices (with_vertex s t place scope).vertices u
    (λ w lw. new_row_other s.vertices s.made place scope (latest s t) u w (omega arith) ne)

-- newEdge, transfer and stop leave the rows but for a status and the numbers of edges
pub edge_row : (s : Lent) (a b u : ℕ) → words_of (with_edge s a b) u ≡ words_of s u
unfolding words_of with_edge
edge_row s a b u = same_words s.vertices (with_edge s a b).vertices u (λ w lw. more_word s.vertices b u w (omega arith) (omega arith))

pub moved_row_lem : (s : Lent) (v h u : ℕ) → words_of (with_moved s v h) u ≡ words_of s u
unfolding words_of with_moved
moved_row_lem s v h u = refl

pub stopped_row : (s : Lent) (v u : ℕ) → words_of (stopped s v) u ≡ words_of (with_status s v FINISHED) u
unfolding words_of stopped
stopped_row s v u = same_words (with_status s v FINISHED).vertices (stopped s v).vertices u
    (λ w lw. lowered_word v s.edges (set_status s.vertices v FINISHED) s.held u w (omega arith) (omega arith))
