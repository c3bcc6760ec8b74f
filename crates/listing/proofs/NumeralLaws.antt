-- A numeral is what `{}` shows of a number, told by its digits too, and how long it can be.
use Prim.Native.Nat.{ℕ, zero, suc, ◌+◌, ◌-◌, ◌*◌, ◌/◌, ◌%◌, ◌^◌, ◌≤◌, ◌<◌}
use mathlib.Core.Path.{◌≡◌, refl, sym, ap, subst, ◌∙◌}
use mathlib.Core.Bool.{cond}
use mathlib.Core.List.{List, [], ◌∷◌, ◌++◌, append_assoc}
use native.Mathlib.Nat.{pow-zero, pow-succ', one-le-pow}
use native.Mathlib.Numerals.{sub-one}
use native.Mathlib.Omega.{arith}
use lib.Dec.{ltb}
use lib.ListN.{length}
use borrow.Author.Tests.{lt-ltb, le-ltb}
use Rattle.std.specs.Fmt.{decimal}
use Rattle.std.proofs.lemmas.Fmt.{AppendsLastDigit, decimal_from_appends, length-decimal-le, length-decimal-le_succ}
use Rattle.listing.specs.Text.{digit, numeral, numeral_by}

-- a numeral of one digit, and one of more
one_digit : (turns n : ℕ) → n < 10 → numeral_by (suc turns) n ≡ digit n ∷ []
unfolding numeral_by
one_digit turns n lt = rw (lt-ltb n 10 lt) refl

more_digits : (turns n : ℕ) → 10 ≤ n → numeral_by (suc turns) n ≡ numeral_by turns (n / 10) ++ (digit (n % 10) ∷ [])
unfolding numeral_by
more_digits turns n le = rw (le-ltb n 10 le) refl

-- the code of a digit below 16
abbrev pub hex_digit_ascii : ℕ → ℕ
hex_digit_ascii d = cond (ltb d 10) (48 + d) (87 + d)

-- the last k digits of n in base b, the most significant first
abbrev pub last_digits : ℕ → ℕ → ℕ → List ℕ
last_digits b zero n = []
last_digits b (suc k) n = last_digits b k (n / b) ++ (hex_digit_ascii (n % b) ∷ [])

-- n takes k digits in base b, when padded to `width` digits
abbrev pub IsDigitCount : ℕ → ℕ → ℕ → ℕ → Type 0
IsDigitCount b width n k = (width ≤ k) × (n < b ^ k) × (width < k → b ^ (k - 1) ≤ n)

glyph_is : (d : ℕ) → d < 10 → hex_digit_ascii d ≡ digit d
glyph_is d lt = rw (lt-ltb d 10 lt) refl

appends : AppendsLastDigit numeral_by
appends = record { one = one_digit; more = more_digits }

-- what `{}` shows of a number is its numeral
pub numeral_is : (n : ℕ) → n < 2 ^ 64 → decimal n ≡ numeral n
unfolding numeral
numeral_is n lt =
    let long : length (decimal n) ≤ suc n = let h = length-decimal-le_succ n lt in omega (arith, h) in
    sym (decimal_from_appends numeral_by appends (suc n) n lt long)

-- a power of ten is above its exponent
ten_more : (k : ℕ) → 10 ^ suc k ≡ 10 * 10 ^ k
ten_more k = pow-succ' 10 k

few : (k : ℕ) → k < 10 ^ k
few zero = omega (arith, pow-zero 10)
few (suc k) = omega (arith, few k, ten_more k)

-- the last digits of a number, so many of them, where the first of them is not 0
written : (k turns n : ℕ) → n < 10 ^ suc k → (0 < k → 10 ^ k ≤ n) → k ≤ turns → last_digits 10 (suc k) n ≡ numeral_by (suc turns) n
written zero turns n below above le =
    let lt : n < 10 = omega (arith, ten_more 0, pow-zero 10) in
    let last : n % 10 ≡ n = omega arith in
    ap (λ (d : ℕ). hex_digit_ascii d ∷ []) last ∙ ap (λ (x : ℕ). x ∷ []) (glyph_is n lt) ∙ sym (one_digit turns n lt)
written (suc k) zero n below above le = absurd (omega arith)
written (suc k) (suc turns) n below above le =
    let from : 10 ^ suc k ≤ n = above (omega arith) in
    let ten : 10 ≤ n = omega (arith, ten_more k, one-le-pow k 10 (omega arith)) in
    let below' : n / 10 < 10 ^ suc k = omega (arith, ten_more (suc k)) in
    let above' : 0 < k → 10 ^ k ≤ n / 10 = λ _. omega (arith, ten_more k) in
    let rest : last_digits 10 (suc k) (n / 10) ≡ numeral_by (suc turns) (n / 10) = written k turns (n / 10) below' above' (omega arith) in
    ap (λ (l : List ℕ). l ++ (hex_digit_ascii (n % 10) ∷ [])) rest
    ∙ ap (λ (x : ℕ). numeral_by (suc turns) (n / 10) ++ (x ∷ [])) (glyph_is (n % 10) (omega arith))
    ∙ sym (more_digits (suc turns) n ten)

-- the fewest digits that hold n are its numeral
digits_are : (n r : ℕ) → IsDigitCount 10 1 n r → last_digits 10 r n ≡ numeral n
unfolding numeral
digits_are n zero h = absurd (omega arith)
digits_are n (suc zero) h = written 0 n n h.1 (λ none. absurd (omega arith)) (omega arith)
digits_are n (suc (suc k)) h =
    let first : 10 ^ suc k ≤ n = rw (sub-one (suc (suc k))) at (h.2 (omega arith)) in
    written (suc k) n n h.1 (λ _. first) (omega (arith, few (suc k)))

-- so a numeral is told by its digits, however large it is
pub spelled : (n r : ℕ) (l : List ℕ) → IsDigitCount 10 1 n r → l ≡ last_digits 10 r n → l ≡ numeral n
spelled n r l few e = e ∙ digits_are n r few

-- a number below a power of ten has no more digits
shorter : (k n : ℕ) → 0 < k → n < 10 ^ k → n < 2 ^ 64 → length (numeral n) ≤ k
shorter k n some few lt = subst (λ (l : List ℕ). length l ≤ k) (numeral_is n lt) (length-decimal-le k n some few lt)

-- a u32 has ten digits at most
pub numeral_short : (n : ℕ) → n < 2 ^ 32 → length (numeral n) ≤ 10
numeral_short n lt = shorter 10 n (omega arith) (omega arith) (omega arith)

-- a number below 10 ^ 12 has twelve at most
pub numeral_longer : (n : ℕ) → n < 10 ^ 12 → length (numeral n) ≤ 12
numeral_longer n lt = shorter 12 n (omega arith) lt (omega arith)

-- the pieces of a format, grouped as the definitions group them
pub grouped : (a b c : List ℕ) → a ++ b ++ c ≡ a ++ (b ++ c)
grouped a b c = append_assoc a b c
