-- The words that a force follows, one turn of the loop after the other.
use Prim.Native.Nat.{ℕ, zero, suc, ◌+◌, ◌-◌, ◌<◌, ◌≤◌}
use mathlib.Core.Path.{◌≡◌, refl, sym, ◌∙◌, ap}
use mathlib.Core.Bool.{Bool, true, false, cond}
use mathlib.Core.List.{List}
use mathlib.Core.Option.{Option, none, some}
use native.Mathlib.Omega.{arith}
use lib.Dec.{ltb}
use borrow.Author.Tests.{le-ltb, lt-ltb}
use Rattle.graph.specs.Tables.{Lent, future_word, vertex_word}
use Rattle.graph.specs.Tests.{both}
use Rattle.graph.proofs.TestLaws.{both-false_left, both-false_right}
use Rattle.machine.specs.Stepping.{latest, open_future, further}
use Rattle.machine.proofs.TablesFollow.FutureLaws.{future_named}
use Rattle.engine.specs.Internal.Underway.{outwards, named_future, FollowsTo}

-- a word that names no future
none_named : (s : Lent) (x : ℕ) → both (ltb 0 x) (ltb x s.made) ≡ false → open_future s x ≡ none
unfolding open_future
none_named s x h = ap (λ (q : Bool). cond q (some x) none) h

pub open_zero : (s : Lent) (x : ℕ) → x ≡ 0 → open_future s x ≡ none
open_zero s x h = none_named s x (both-false_left _ (le-ltb 0 x (omega arith)))

pub open_beyond : (s : Lent) (x : ℕ) → s.made ≤ x → open_future s x ≡ none
open_beyond s x le = none_named s x (both-false_right _ (le-ltb x s.made le))

-- nothing is further out than none
pub none_further : (s : Lent) (x k : ℕ) → open_future s x ≡ none → none ≡ outwards s x k
unfolding outwards further
none_further s x zero h = sym h
none_further s x (suc k) h = ap (λ (o : Option ℕ). further o (λ t. outwards s (latest s t) k)) (sym h)

pub some_further : (s : Lent) (x k : ℕ) → open_future s x ≡ some x → outwards s x (suc k) ≡ outwards s (latest s x) k
unfolding outwards further
some_further s x k h = ap (λ (o : Option ℕ). further o (λ t. outwards s (latest s t) k)) h

-- the word of a vertex, as the code reads it
named_open : (s : Lent) (made x : ℕ) → s.made ≡ made → named_future made x ≡ open_future s x
unfolding named_future open_future
named_open s made x e = ap (λ (m : ℕ). cond (both (ltb 0 x) (ltb x m)) (some x) none) (sym e)

pub word_lost :
    (t : List ℕ) (made word n : ℕ) → none ≡ named_future made word → FollowsTo t made word n none
word_lost t made word n h s e m = none_further s word n (sym (h ∙ named_open s made word m))

-- so many futures further out than a vertex
unfoldable pub beyond : Lent → ℕ → ℕ → Option ℕ
beyond s x zero = some x
beyond s x (suc k) = outwards s (latest s x) k

pub beyond_word : (s : Lent) (word x k : ℕ) → open_future s word ≡ some x → outwards s word k ≡ beyond s x k
unfolding outwards further beyond
beyond_word s word x zero h = h
beyond_word s word x (suc k) h = ap (λ (o : Option ℕ). further o (λ t. outwards s (latest s t) k)) h

-- after i of n hops from a word the loop is at x: what is left of them leads from x to where all lead from the word
abbrev pub Hopped : List ℕ → ℕ → ℕ → ℕ → ℕ → ℕ → Type 0
Hopped t made word n x i = (k : ℕ) → k + i ≡ n → (s : Lent) → s.vertices ≡ t → s.made ≡ made → beyond s x k ≡ outwards s word n

pub hopped_none : (t : List ℕ) (made word n x : ℕ) → some x ≡ named_future made word → Hopped t made word n x 0
hopped_none t made word n x h k q s e m =
    sym (beyond_word s word x k (sym (h ∙ named_open s made word m))) ∙ ap (outwards s word) (omega arith)

next_word : (s : Lent) (t : List ℕ) (made x k : ℕ) → s.vertices ≡ t → beyond s x (suc k) ≡ outwards s (vertex_word t x future_word) k
unfolding beyond
next_word s t made x k e = ap (λ (u : List ℕ). outwards s (vertex_word u x future_word) k) e

pub hopped_more :
    (t : List ℕ) (made word n x i y : ℕ) → Hopped t made word n x i → some y ≡ named_future made (vertex_word t x future_word)
    → Hopped t made word n y (i + 1)
hopped_more t made word n x i y h is k q s e m =
    sym (beyond_word s (vertex_word t x future_word) y k (sym (is ∙ named_open s made (vertex_word t x future_word) m)))
    ∙ sym (next_word s t made x k e)
    ∙ h (suc k) (omega arith) s e m

-- a word that names none ends it
pub hopped_lost :
    (t : List ℕ) (made word n x i : ℕ) → Hopped t made word n x i → i < n → none ≡ named_future made (vertex_word t x future_word)
    → FollowsTo t made word n none
hopped_lost t made word n x i h lt is s e m =
    word_lost t made (vertex_word t x future_word) (n - suc i) is s e m
    ∙ sym (next_word s t made x (n - suc i) e)
    ∙ h (suc (n - suc i)) (omega arith) s e m

-- at the end of the loop
pub hopped_all : (t : List ℕ) (made word n x i : ℕ) → Hopped t made word n x i → i ≤ n → n ≤ i → FollowsTo t made word n (some x)
unfolding beyond
hopped_all t made word n x i h le ge s e m = h 0 (omega arith) s e m

-- A word as a table of leaps has it: 0 is none.
unfoldable pub unless_zero : ℕ → Option ℕ
unless_zero zero = none
unless_zero (suc t) = some (suc t)

pub word_tells : (s : Lent) (x : ℕ) → x < s.made → unless_zero x ≡ outwards s x 0
unfolding unless_zero outwards
word_tells s zero lt = sym (open_zero s zero refl)
word_tells s (suc x) lt = sym (future_named s (suc x) (omega arith) lt)

-- the vertex that a word names has the word's number
pub named_same : (made word v : ℕ) → some v ≡ named_future made word → word ≡ v
unfolding named_future
named_same made word v h = go (both (ltb 0 word) (ltb word made)) h
  where
    go : (b : Bool) → some v ≡ cond b (some word) none → word ≡ v
    go true q = cc
    go false q = cc

pub named_tells : (made x : ℕ) → x < made → named_future made x ≡ unless_zero x
unfolding named_future unless_zero both
named_tells made zero lt = refl
named_tells made (suc x) lt = rw (lt-ltb 0 (suc x) (omega arith)) (rw (lt-ltb (suc x) made lt) refl)
