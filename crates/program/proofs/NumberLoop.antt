-- Reading a number group by group: what the loop has done after each byte.
use Prim.Native.Nat.{ℕ, suc, ◌+◌, ◌-◌, ◌*◌, ◌^◌, ◌<◌, ◌≤◌}
use mathlib.Core.Path.{◌≡◌, refl, sym, ◌∙◌, ap, subst}
use mathlib.Core.Bool.{Bool, true, false, cond}
use mathlib.Core.List.{List, [], ◌∷◌}
use native.Mathlib.Nat.{lt_of_le_of_lt, mul-le-mul_left, pow-le-pow_right, pow-suc, add_assoc, mul-add, mul_assoc}
use native.Mathlib.Numerals.{add-one}
use native.Mathlib.Omega.{arith}
use mir.Syntax.{w64}
use mir.Val.{Fits}
use lib.Dec.{eqb, ltb, leb, lit<}
use lib.ListN.{length, get_or, drop, length-drop, drop_of_length-le}
use lib.Seq.{drop-cons}
use borrow.Author.Tests.{ne_eqb}
use Rattle.program.specs.Limits.{number_bytes, job_limit}
use Rattle.program.specs.Trees.{Counts}
use Rattle.program.specs.Bytes.{top_bit}
use Rattle.refusal.specs.Refusals.{number_malformed, bytes_run_out, job_too_large}
use Rattle.program.specs.Reader.{Read, took, refused, and_then, take_if, groups, number}
use Rattle.program.specs.Internal.Progress.{NumberProgress, value, number_progress, number_ended}
use Rattle.program.proofs.NumberLaws.{groups_last, groups_more}

-- what is read behind groups of this value, where the next has this weight
unfoldable pub shifted : ℕ → ℕ → Read ℕ → Read ℕ
shifted v w (took x rest) = took (v + w * x) rest
shifted v w (refused n left) = refused n left

-- after i bytes: their value, the weight of the next, and what the whole comes to
pub record After (start : List ℕ) (i v w : ℕ) : Type 0 where
  pub bounded : i ≤ number_bytes
  pub there : i ≤ length start
  pub weighs : w ≡ top_bit ^ i
  pub below : v < w
  pub comes : groups start true number_bytes start ≡ shifted v w (groups start (eqb i 0) (number_bytes - i) (drop i start))

-- nothing was read before
shifted_none : (r : Read ℕ) → r ≡ shifted 0 1 r
unfolding shifted
shifted_none (took x rest) = ap (λ (n : ℕ). took n rest) (omega arith)
shifted_none (refused n left) = refl

-- one more group was read before
shifted_twice : (v w u : ℕ) (r : Read ℕ) → shifted v w (shifted u top_bit r) ≡ shifted (v + w * u) (w * top_bit) r
unfolding shifted
shifted_twice v w u (took x rest) = ap (λ (n : ℕ). took n rest)
    (ap (λ (n : ℕ). v + n) (mul-add w u (top_bit * x)) ∙ sym (add_assoc v (w * u) (w * (top_bit * x)))
    ∙ ap (λ (n : ℕ). v + w * u + n) (sym (mul_assoc w top_bit x)))
shifted_twice v w u (refused n left) = refl

-- a group before others, from the others
group_more : (start : List ℕ) (only : Bool) (room b : ℕ) (left : List ℕ) → top_bit ≤ b → b < 2 * top_bit
    → groups start only (suc room) (b ∷ left) ≡ shifted (b - top_bit) top_bit (groups start false room left)
unfolding and_then shifted
group_more start only room b left le lt = groups_more start only room b left le lt ∙ go (groups start false room left)
  where
    go : (r : Read ℕ) → and_then r (λ high rest. took ((b - top_bit) + top_bit * high) rest) ≡ shifted (b - top_bit) top_bit r
    go (took x rest) = refl
    go (refused n rest) = refl

-- no bytes are left
group_none : (start : List ℕ) (only : Bool) (room : ℕ) → groups start only (suc room) [] ≡ refused bytes_run_out []
unfolding groups
group_none start only room = refl

-- no room is left
group_over : (start : List ℕ) (only : Bool) (left : List ℕ) → groups start only 0 left ≡ refused number_malformed start
unfolding groups
group_over start only left = refl

-- there is room for one more
room_more : (i : ℕ) → i < number_bytes → number_bytes - i ≡ suc (number_bytes - (i + 1))
room_more i lt = omega arith

-- before the first byte
pub after_none : (start : List ℕ) → After start 0 0 1
after_none start = record { bounded = omega arith; there = omega arith; weighs = refl; below = omega arith; comes = shifted_none _ }

-- one byte more, with its top bit set
pub after_more : (start : List ℕ) (i v w : ℕ) → After start i v w → i < number_bytes → i < length start → get_or start i 0 < 2 * top_bit
    → top_bit ≤ get_or start i 0
    → After start (i + 1) (v + w * (get_or start i 0 - top_bit)) (w * top_bit)
after_more start i v w h room lt byte le =
    record {
      bounded = omega arith;
      there = omega arith;
      weighs = ap (λ (n : ℕ). n * top_bit) h.weighs ∙ sym (pow-suc top_bit i) ∙ ap (λ (n : ℕ). top_bit ^ n) (sym (add-one i));
      below = below_more (get_or start i 0) h.below byte;
      comes =
          h.comes
          ∙ ap (shifted v w) (split room lt le byte)
          ∙ shifted_twice v w (get_or start i 0 - top_bit) (groups start false (number_bytes - (i + 1)) (drop (i + 1) start))
          ∙ ap (λ (o : Bool). shifted (v + w * (get_or start i 0 - top_bit)) (w * top_bit)
          (groups start o (number_bytes - (i + 1)) (drop (i + 1) start)))
          (sym (ne_eqb (i + 1) 0 (omega arith)));
    }
  where
    below_more : (x : ℕ) → v < w → x < 2 * top_bit → v + w * (x - top_bit) < w * top_bit
    below_more x p q = let r : w * (x - top_bit) ≤ w * 127 = mul-le-mul_left w (omega arith) in omega arith

    split : i < number_bytes → i < length start → top_bit ≤ get_or start i 0 → get_or start i 0 < 2 * top_bit
        → groups start (eqb i 0) (number_bytes - i) (drop i start)
        ≡ shifted (get_or start i 0 - top_bit) top_bit (groups start false (number_bytes - (i + 1)) (drop (i + 1) start))
    split p q r s =
        ap (λ (n : ℕ). groups start (eqb i 0) n (drop i start)) (room_more i p)
        ∙ ap (groups start (eqb i 0) (suc (number_bytes - (i + 1))))
        (drop-cons start i 0 q ∙ ap (λ (k : ℕ). get_or start i 0 ∷ drop k start) (sym (add-one i)))
        ∙ group_more start (eqb i 0) (number_bytes - (i + 1)) (get_or start i 0) (drop (i + 1) start) r s

-- the weight of a group is far below what 64 bits hold
weight_small : (start : List ℕ) (i v w : ℕ) → After start i v w → (w < 2 ^ 56) × (v < w)
weight_small start i v w h = (
  lt_of_le_of_lt (subst (λ (n : ℕ). n ≤ top_bit ^ number_bytes) (sym h.weighs) (pow-le-pow_right (omega arith) h.bounded))
      (lit< tt),
  h.below,
)

-- what is computed of one more group fits: its product with the weight,
pub product_fits : (start : List ℕ) (i v w x : ℕ) → After start i v w → x < 2 * top_bit → Fits w64 (w * x)
product_fits start i v w x h byte =
    let small = weight_small start i v w h in
    let p : w * x ≤ w * 255 = mul-le-mul_left w (omega arith) in
    record { fits = omega arith }

-- the value with it,
pub sum_fits : (start : List ℕ) (i v w x : ℕ) → After start i v w → x < 2 * top_bit → Fits w64 (v + w * x)
sum_fits start i v w x h byte =
    let small = weight_small start i v w h in
    let p : w * x ≤ w * 255 = mul-le-mul_left w (omega arith) in
    record { fits = omega arith }

-- and the next weight
pub weight_fits : (start : List ℕ) (i v w : ℕ) → After start i v w → Fits w64 (w * top_bit)
weight_fits start i v w h = let small = weight_small start i v w h in record { fits = omega arith }

-- a number from its groups
abbrev limited : List ℕ → Read ℕ → Read ℕ
limited start r = and_then r (λ n rest. take_if (leb n job_limit) job_too_large start (took n rest))

-- the number, where this is what the groups left come to
number_by : (start : List ℕ) (i v w : ℕ) (r : Read ℕ) → After start i v w → groups start (eqb i 0) (number_bytes - i) (drop i start) ≡ r
    → number start ≡ limited start (shifted v w r)
unfolding number
number_by start i v w r h p = ap (limited start) (h.comes ∙ ap (shifted v w) p)

-- they are refused
refused_by : (place : ℕ) (seen : Counts) (start : List ℕ) (v w n p : ℕ) (left : List ℕ) → p ≡ place + length start - length left
    → NumberProgress.stopped n p ≡ number_progress (place + length start) seen (limited start (shifted v w (refused n left)))
unfolding number_progress and_then shifted
refused_by place seen start v w n p left q = ap (NumberProgress.stopped n) q

-- the bytes run out
pub run_out : (place : ℕ) (seen : Counts) (start : List ℕ) (i v w : ℕ) → After start i v w → i < number_bytes → length start ≤ i
    → NumberProgress.stopped bytes_run_out (place + i) ≡ number_progress (place + length start) seen (number start)
run_out place seen start i v w h room ge =
    refused_by place seen start v w bytes_run_out (place + i) [] (omega (arith, h.there))
    ∙ ap (number_progress (place + length start) seen) (sym (number_by start i v w (refused bytes_run_out []) h
    (ap (λ (n : ℕ). groups start (eqb i 0) n (drop i start)) (room_more i room)
    ∙ ap (groups start (eqb i 0) (suc (number_bytes - (i + 1)))) (drop_of_length-le start ge)
    ∙ group_none start (eqb i 0) (number_bytes - (i + 1)))))

-- the number is longer than it may be
pub over : (place : ℕ) (seen : Counts) (start : List ℕ) (i v w : ℕ) → After start i v w → number_bytes ≤ i
    → NumberProgress.stopped number_malformed place ≡ number_progress (place + length start) seen (number start)
over place seen start i v w h full =
    refused_by place seen start v w number_malformed place start (omega arith)
    ∙ ap (number_progress (place + length start) seen) (sym (number_by start i v w (refused number_malformed start) h
    (ap (λ (n : ℕ). groups start (eqb i 0) n (drop i start)) none_left ∙ group_over start (eqb i 0) (drop i start))))
  where
    none_left : number_bytes - i ≡ 0
    none_left = omega arith

-- the test against the limit
limit_test : (l : Bool) (seen : Counts) (len place past n : ℕ) (start left : List ℕ) → place ≡ len - length start → past ≡ len - length left
    → cond l (value n past seen) (NumberProgress.stopped job_too_large place)
    ≡ number_progress len seen (take_if l job_too_large start (took n left))
unfolding number_progress take_if
limit_test true seen len place past n start left p q = ap (λ (m : ℕ). value n m seen) q
limit_test false seen len place past n start left p q = ap (NumberProgress.stopped job_too_large) p

-- the test of the shortest form, and then that
form_test : (t : Bool) (seen : Counts) (len place past v w x : ℕ) (start left : List ℕ)
    → place ≡ len - length start → past ≡ len - length left
    → cond t (cond (leb (v + w * x) job_limit) (value (v + w * x) past seen) (NumberProgress.stopped job_too_large place))
    (NumberProgress.stopped number_malformed place)
    ≡ number_progress len seen (limited start (shifted v w (take_if t number_malformed start (took x left))))
unfolding number_progress and_then shifted take_if
form_test true seen len place past v w x start left p q = limit_test (leb (v + w * x) job_limit) seen len place past
    (v + w * x) start left p q
form_test false seen len place past v w x start left p q = ap (NumberProgress.stopped number_malformed) p

-- its last byte is found
pub found : (place : ℕ) (seen : Counts) (start : List ℕ) (i v w : ℕ) → After start i v w → i < number_bytes → i < length start
    → get_or start i 0 < top_bit
    → number_ended place seen (v + w * get_or start i 0) (get_or start i 0) i ≡ number_progress (place + length start) seen (number start)
unfolding number_ended
found place seen start i v w h room lt last =
    form_test (cond (eqb i 0) true (ltb 0 (get_or start i 0))) seen (place + length start) place (place + (i + 1)) v w
    (get_or start i 0) start (drop (suc i) start)
    (omega arith) (omega (arith, length-drop (suc i) start))
    ∙ ap (number_progress (place + length start) seen) (sym (number_by start i v w _ h
    (ap (λ (n : ℕ). groups start (eqb i 0) n (drop i start)) (room_more i room)
    ∙ ap (groups start (eqb i 0) (suc (number_bytes - (i + 1)))) (drop-cons start i 0 lt)
    ∙ groups_last start (eqb i 0) (number_bytes - (i + 1)) (get_or start i 0) (drop (suc i) start) last)))
