-- What an accessor gives after an update of a table.
use Prim.Native.Nat.{ℕ, zero, suc, ◌+◌, ◌-◌, ◌≤◌}
use mathlib.Core.Path.{◌≡◌, refl, sym, ◌∙◌, ap}
use mathlib.Core.List.{List, ◌∷◌, ◌++◌, append_assoc}
use native.Mathlib.Omega.{arith}
use native.Mathlib.Numerals.{add-one}
use lib.ListN.{length, get_or, take, drop, set, replicate, length-append, length-replicate, take-append-drop}
use Rattle.std.proofs.lemmas.List.{drop-drop, length-drop}
use lib.Seq.{drop-cons, set_at, length-take-le}
use borrow.Rule.Slice.PartMut.{put_mid}
use Rattle.graph.specs.Tables.{clear}
use Rattle.graph.proofs.TestLaws.{at_end}

pub clear_none : (l : List ℕ) (from : ℕ) → l ≡ clear l from 0
unfolding clear
clear_none l from = refl

pub clear_more : (l : List ℕ) {t : List ℕ} (from n : ℕ) → t ≡ clear l from n → set t (from + n) 0 ≡ clear l from (n + 1)
unfolding clear
clear_more l from n h = rw (add-one, h)

pub clear_all : (l : List ℕ) {t : List ℕ} (from n i : ℕ) → i ≤ n → n ≤ i → t ≡ clear l from i → t ≡ clear l from n
clear_all l {t} from n i p q h = at_end (λ k. t ≡ clear l from k) p q h

zeros_more : (n : ℕ) (ys : List ℕ) → replicate n 0 ++ (0 ∷ ys) ≡ replicate (suc n) 0 ++ ys
zeros_more zero ys = refl
zeros_more (suc n) ys = ap (λ (r : List ℕ). 0 ∷ r) (zeros_more n ys)

-- the cleared words in their place
pub clear_is : (l : List ℕ) (from n : ℕ) → from + n ≤ length l → clear l from n ≡ take from l ++ (replicate n 0 ++ drop (from + n) l)
unfolding clear
clear_is l from zero h =
    sym (take-append-drop from l) ∙ ap (λ (x : ℕ). take from l ++ drop x l) (let z : from ≡ from + 0 = omega arith in z)
clear_is l from (suc n) h =
    ap (λ (x : List ℕ). set x (from + n) 0)
    (clear_is l from n (omega arith)
    ∙ ap (λ (x : List ℕ). take from l ++ (replicate n 0 ++ x)) (drop-cons l (from + n) 0 (omega arith))
    ∙ sym (append_assoc (take from l) (replicate n 0) (get_or l (from + n) 0 ∷ drop (suc (from + n)) l)))
    ∙ set_at (take from l ++ replicate n 0) (get_or l (from + n) 0) (drop (suc (from + n)) l) 0 (from + n)
    (length-append (take from l) (replicate n 0) ∙ (let t = length-take-le from l (omega arith) in omega (arith, t, length-replicate n (zero))))
    ∙ append_assoc (take from l) (replicate n 0) (0 ∷ drop (suc (from + n)) l)
    ∙ ap (λ (x : List ℕ). take from l ++ x) (zeros_more n (drop (suc (from + n)) l))
    ∙ ap (λ (x : ℕ). take from l ++ (replicate (suc n) 0 ++ drop x l)) (let z : suc (from + n) ≡ from + suc n = omega arith in z)

-- a part that is filled with zeros is cleared
pub filled :
    (l part : List ℕ) (from n : ℕ) → from + n ≤ length l → part ≡ replicate (length (take (from + n - from) (drop from l))) 0
    → put_mid from (from + n - from) l part ≡ clear l from n
filled l part from n h p =
    let few : from + n - from ≡ n = omega arith in
    let long : length (take n (drop from l)) ≡ n = length-take-le n (drop from l) (omega (arith, length-drop from l)) in
    let rest : drop n (drop from l) ≡ drop (from + n) l = drop-drop n from l in
    rw (p, few, long, rest) (sym (clear_is l from n h))
