-- Tables of leaps: what is filled in, turn by turn, and that many hops by leaps come to what a force follows.
use Prim.Native.Nat.{ℕ, zero, suc, ◌+◌, ◌*◌, ◌/◌, ◌%◌, ◌<◌, ◌≤◌}
use mathlib.Core.Path.{◌≡◌, refl, sym, ◌∙◌, ap, subst}
use mathlib.Core.Bool.{Bool, true, false, cond}
use mathlib.Core.Logic.{⊎_elim}
use mathlib.Core.List.{List}
use native.Mathlib.Numerals.{add-one}
use native.Mathlib.Omega.{arith}
use lib.Dec.{ltb}
use lib.ListN.{length, get_or, set}
use lib.Seq.{get_or-set_same, get_or-set_other}
use borrow.Author.Tests.{lt-ltb, le-ltb, ltb-true, ltb-false}
use Rattle.std.specs.Prelude as of_code
use Rattle.std.specs.Prelude.{Some, None, unwrap_or}
use mathlib.Core.Option.{Option, none, some}
use Rattle.graph.specs.Tests.{both}
use Rattle.machine.specs.Stepping.{or_zero}
use Rattle.graph.specs.Tables.{usable_limit, future_word, vertex_word}
use Rattle.graph.proofs.TestLaws.{decide, below_suc}
use Rattle.machine.proofs.TablesFollow.FutureLaws.{future_named}
use Rattle.engine.proofs.FollowLaws.{open_beyond, open_zero, none_further, some_further, word_lost, unless_zero, word_tells, named_same, named_tells}
use Rattle.engine.specs.Answers.{vertex_of}
use Rattle.engine.specs.Internal.Underway.{outwards, named_future, FollowsTo}
use Rattle.engine.specs.Internal.Leaping.{hop, hops, HopsAt, Leaps, Within, LeadsTo, LeapsTo, SameBelow, EightTold}

-- HOPS
-- one from vertex 0, from one whose word names no made vertex, and from others
pub hop_none : (t : List ℕ) (made v : ℕ) → v ≡ 0 → ◌≡◌ {A = ℕ} 0 (hop t made v)
unfolding hop
hop_none t made v h = rw h refl

pub hop_beyond : (t : List ℕ) (made v : ℕ) → (v ≡ 0 → ⊥) → made ≤ vertex_word t v future_word → ◌≡◌ {A = ℕ} 0 (hop t made v)
unfolding hop
hop_beyond t made zero some_vertex le = absurd (some_vertex refl)
hop_beyond t made (suc v) some_vertex le = rw (le-ltb (vertex_word t (suc v) future_word) made le) refl

pub hop_named : (t : List ℕ) (made v : ℕ) → (v ≡ 0 → ⊥) → vertex_word t v future_word < made → vertex_word t v future_word ≡ hop t made v
unfolding hop
hop_named t made zero some_vertex lt = absurd (some_vertex refl)
hop_named t made (suc v) some_vertex lt = rw (lt-ltb (vertex_word t (suc v) future_word) made lt) refl

-- as the code reads it
word_or : (made w : ℕ) (b : Bool) → ltb w made ≡ b → or_zero (named_future made w) ≡ cond b w 0
unfolding named_future or_zero both
word_or made zero true h = refl
word_or made zero false h = refl
word_or made (suc w) true h = rw (lt-ltb 0 (suc w) (omega arith)) (rw h refl)
word_or made (suc w) false h = rw (lt-ltb 0 (suc w) (omega arith)) (rw h refl)

unwrapped : (o : of_code.Option ℕ) → unwrap_or o 0 ≡ or_zero (vertex_of o)
unfolding or_zero
unwrapped (Some v) = refl
unwrapped None = refl

pub hop_read :
    (t : List ℕ) (made v : ℕ) (o : of_code.Option ℕ) {r : ℕ} → (v ≡ 0 → ⊥) → vertex_of o ≡ named_future made (vertex_word t v future_word)
    → r ≡ unwrap_or o 0 → r ≡ hop t made v
unfolding hop
hop_read t made zero o some_vertex named is = absurd (some_vertex refl)
hop_read t made (suc v) o some_vertex named is = is ∙ unwrapped o ∙ ap or_zero named ∙ word_or made (vertex_word t (suc v) future_word) _ refl

-- a hop leads to a made vertex
hop_below : (t : List ℕ) (made v : ℕ) → v < made → hop t made v < made
unfolding hop
hop_below t made zero lt = lt
hop_below t made (suc v) lt = go (ltb (vertex_word t (suc v) future_word) made) refl
  where
    go : (b : Bool) → ltb (vertex_word t (suc v) future_word) made ≡ b → cond b (vertex_word t (suc v) future_word) 0 < made
    go true h = ltb-true _ _ h
    go false h = omega arith

hops_below : (t : List ℕ) (made n v : ℕ) → v < made → hops t made n v < made
unfolding hops
hops_below t made zero v lt = lt
hops_below t made (suc n) v lt = hops_below t made n (hop t made v) (hop_below t made v lt)

-- so many, and then so many more
hops_then : (t : List ℕ) (made m n v : ℕ) → hops t made n (hops t made m v) ≡ hops t made (m + n) v
unfolding hops
hops_then t made zero n v = let none : n ≡ 0 + n = omega arith in ap (λ (k : ℕ). hops t made k v) none
hops_then t made (suc m) n v =
    let more : suc (m + n) ≡ suc m + n = omega arith in hops_then t made m n (hop t made v) ∙ ap (λ (k : ℕ). hops t made k v) more

-- nowhere from none
hops_none : (t : List ℕ) (made n : ℕ) → hops t made n 0 ≡ 0
unfolding hops hop
hops_none t made zero = refl
hops_none t made (suc n) = hops_none t made n

-- nor from a word that names no made vertex
none_follows : (t : List ℕ) (made word n : ℕ) → made ≤ word → FollowsTo t made word n none
none_follows t made word n le s e m = none_further s word n (open_beyond s word (omega arith))

zero_none : unless_zero 0 ≡ none
unfolding unless_zero
zero_none = refl

none_follows_zero : (t : List ℕ) (made word n : ℕ) → made ≤ word → FollowsTo t made word n (unless_zero 0)
none_follows_zero t made word n le s e m = zero_none ∙ none_follows t made word n le s e m

zero_follows : (t : List ℕ) (made n : ℕ) → FollowsTo t made 0 n none
zero_follows t made n s e m = none_further s 0 n (open_zero s 0 refl)

-- hops from the vertex that a word names are what a force follows: on from there, by the word of that vertex
word_follows :
    (t : List ℕ) (made n v : ℕ) → ((word : ℕ) → word < made → FollowsTo t made word n (unless_zero (hops t made n word))) → (v ≡ 0 → ⊥)
    → FollowsTo t made (vertex_word t v future_word) n (unless_zero (hops t made n (hop t made v)))
word_follows t made n v known some_vertex = ⊎_elim inside beyond (decide (ltb x made))
  where
    x : ℕ
    x = vertex_word t v future_word

    inside : ltb x made ≡ true → FollowsTo t made x n (unless_zero (hops t made n (hop t made v)))
    inside h =
        let lt : x < made = ltb-true x made h in
        subst (λ (y : ℕ). FollowsTo t made x n (unless_zero (hops t made n y))) (hop_named t made v some_vertex lt) (known x lt)

    beyond : ltb x made ≡ false → FollowsTo t made x n (unless_zero (hops t made n (hop t made v)))
    beyond h =
        let le : made ≤ x = ltb-false x made h in
        subst (λ (y : ℕ). FollowsTo t made x n (unless_zero y)) (sym (ap (hops t made n) (sym (hop_beyond t made v some_vertex le)) ∙ hops_none t made n))
        (none_follows_zero t made x n le)

hops_follow : (t : List ℕ) (made word n : ℕ) → word < made → FollowsTo t made word n (unless_zero (hops t made n word))
unfolding hops
hops_follow t made word zero lt s e m = word_tells s word (omega arith)
hops_follow t made zero (suc n) lt s e m = ap unless_zero (hops_none t made (suc n)) ∙ zero_none ∙ zero_follows t made (suc n) s e m
hops_follow t made (suc w) (suc n) lt s e m =
    word_follows t made n (suc w) (λ word below. hops_follow t made word n below) (λ q. absurd (omega arith)) s e m
    ∙ ap (λ (u : List ℕ). outwards s (vertex_word u (suc w) future_word) n) (sym e)
    ∙ sym (some_further s (suc w) n (future_named s (suc w) (omega arith) (omega arith)))

-- TURNS OF A TABLE
one_turn_more : (n h : ℕ) → n * h + h ≡ (n + 1) * h
one_turn_more n h = omega arith

-- no turn yet, and one more
pub leads_start : (made : ℕ) (l : List ℕ) (at v : ℕ) → LeadsTo made l at v 0 v
unfolding hops
leads_start made l at v t h told = let none : 0 ≡ 0 * h = omega arith in ap (λ (k : ℕ). hops t made k v) none

pub leads_more :
    (made : ℕ) (l : List ℕ) (at v n x : ℕ) → x < made → LeadsTo made l at v n x → LeadsTo made l at v (n + 1) (get_or l (at + x) 0)
leads_more made l at v n x lt so_far t h told =
    told x lt
    ∙ ap (hops t made h) (so_far t h told)
    ∙ hops_then t made (n * h) h v
    ∙ ap (λ (k : ℕ). hops t made k v) (one_turn_more n h)

-- at the end of the loop
pub leads_all : (made : ℕ) (l : List ℕ) (at v n i x : ℕ) → i ≤ n → n ≤ i → LeadsTo made l at v i x → LeadsTo made l at v n x
leads_all made l at v n i x le ge so_far = let end : i ≡ n = omega arith in subst (λ (k : ℕ). LeadsTo made l at v k x) end so_far

-- where a list tells hops, it has made vertices
pub told_within : (t : List ℕ) (made : ℕ) (l : List ℕ) (at n : ℕ) → at + made ≤ length l → HopsAt t made l at n made → Within made l at
told_within t made l at n room told = (room, λ v lt. subst (λ (x : ℕ). x < made) (sym (told v lt)) (hops_below t made n v lt))

pub leaps_within :
    (t : List ℕ) (made : ℕ) (l : List ℕ) → Leaps t made l → Within made l 0 × Within made l usable_limit × Within made l (2 * usable_limit)
leaps_within t made l told = (
  told_within t made l 0 1 (omega arith) told.ones,
  told_within t made l usable_limit 8 (omega arith) told.eights,
  told_within t made l (2 * usable_limit) 64 (omega arith) told.sixty_fours,
)

-- leaps of sixty-four, then of eight, then hops
pub leapt_none : (made : ℕ) (l : List ℕ) (word n : ℕ) → none ≡ named_future made word → LeapsTo made l word n none
leapt_none made l word n lost t told = word_lost t made word n lost

parts : (n : ℕ) → n / 64 * 64 + n / 8 % 8 * 8 + n % 8 * 1 ≡ n
parts n = omega arith

pub leapt_all :
    (made : ℕ) (l : List ℕ) (word n v far near r : ℕ) {o : Option ℕ} → some v ≡ named_future made word → v < made
    → LeadsTo made l (2 * usable_limit) v (n / 64) far → LeadsTo made l usable_limit far (n / 8 % 8) near → r < made
    → LeadsTo made l 0 near (n % 8) r → o ≡ named_future made r → LeapsTo made l word n o
leapt_all made l word n v far near r names lt by_64 by_8 below by_1 is t told =
    subst (λ (x : Option ℕ). FollowsTo t made word n x)
    (sym
    (is ∙ named_tells made r below
    ∙ ap unless_zero
    (by_1 t 1 told.ones
    ∙ ap (hops t made (n % 8 * 1))
    (by_8 t 8 told.eights
    ∙ ap (hops t made (n / 8 % 8 * 8)) (by_64 t 64 told.sixty_fours)
    ∙ hops_then t made (n / 64 * 64) (n / 8 % 8 * 8) v)
    ∙ hops_then t made (n / 64 * 64 + n / 8 % 8 * 8) (n % 8 * 1) v
    ∙ ap (λ (k : ℕ). hops t made k v) (parts n))))
    (rw (named_same made word v names) (hops_follow t made v n lt))

-- FILLING
-- one vertex more is told
hops_more :
    (t : List ℕ) (made : ℕ) (l : List ℕ) (at n k x : ℕ) → at + k < length l → HopsAt t made l at n k → x ≡ hops t made n k
    → HopsAt t made (set l (at + k) x) at n (k + 1)
hops_more t made l at n k x room told is =
    rw (add-one k)
    (λ v lt.
    ⊎_elim
    (λ e. subst (λ (u : ℕ). get_or (set l (at + k) x) (at + u) 0 ≡ hops t made n u) (sym e) (get_or-set_same l (at + k) x 0 room ∙ is))
    (λ below. get_or-set_other l (at + k) (at + v) x 0 (λ q. absurd (omega arith)) ∙ told v below)
    (below_suc lt))

one_hop : (t : List ℕ) (made v : ℕ) → hop t made v ≡ hops t made 1 v
unfolding hops
one_hop t made v = refl

-- in the first table,
pub first_more :
    (t : List ℕ) (made : ℕ) (l : List ℕ) (k x : ℕ) → k < length l → HopsAt t made l 0 1 k → x ≡ hop t made k
    → HopsAt t made (set l k x) 0 1 (k + 1)
first_more t made l k x room told is =
    let here : 0 + k ≡ k = omega arith in
    subst (λ (j : ℕ). HopsAt t made (set l j x) 0 1 (k + 1)) here (hops_more t made l 0 1 k x (omega arith) told (is ∙ one_hop t made k))

-- and in the one behind a table, which stays
pub eight_more :
    (made at : ℕ) (l l' : List ℕ) (k x : ℕ) → made ≤ usable_limit → at + usable_limit + k < length l' → SameBelow (at + usable_limit) l l'
    → EightTold made at l l' k → LeadsTo made l' at k 8 x → EightTold made at l (set l' (at + usable_limit + k) x) (k + 1)
eight_more made at l l' k x few room same so_far leads t h told =
    hops_more t made l' (at + usable_limit) (8 * h) k x room (so_far t h told) (leads t h (λ v lt. same (at + v) (omega arith) ∙ told v lt))

pub same_more : (n : ℕ) (l l' : List ℕ) (i x : ℕ) → n ≤ i → SameBelow n l l' → SameBelow n l (set l' i x)
same_more n l l' i x le same u lt = get_or-set_other l' i u x 0 (λ q. absurd (omega arith)) ∙ same u lt

pub same_within :
    (made at : ℕ) (l l' : List ℕ) → made ≤ usable_limit → length l' ≡ length l → SameBelow (at + usable_limit) l l' → Within made l at
    → Within made l' at
same_within made at l l' few long same (room, inside) =
    (omega arith, λ v lt. subst (λ (x : ℕ). x < made) (sym (same (at + v) (omega arith))) (inside v lt))

-- the three tables, one filled after the other
pub leaps_filled :
    (t : List ℕ) (made : ℕ) (l l' l'' : List ℕ) → made ≤ usable_limit → length l'' ≡ 3 * usable_limit → HopsAt t made l 0 1 made
    → SameBelow usable_limit l l' → EightTold made 0 l l' made → SameBelow (2 * usable_limit) l' l'' → EightTold made usable_limit l' l'' made
    → Leaps t made l''
leaps_filled t made l l' l'' few long ones same eights same' sixty_fours = record {
  few = few;
  long = long;
  ones = λ v lt. same' (0 + v) (omega arith) ∙ same (0 + v) (omega arith) ∙ ones v lt;
  eights = λ v lt. same' (usable_limit + v) (omega arith) ∙ eights t 1 ones v lt;
  sixty_fours = sixty_fours t 8 (eights t 1 ones);
}
