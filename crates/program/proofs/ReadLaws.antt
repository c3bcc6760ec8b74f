-- What is read from bytes, in general: which bytes a value that was taken came from, and that a refusal's place is in the bytes.
use Prim.Native.Nat.{ℕ, ◌≤◌}
use mathlib.Core.Path.{◌≡◌, refl, ap}
use mathlib.Core.Bool.{Bool, true, false}
use mathlib.Core.List.{List, [], ◌++◌}
use native.Mathlib.Nat.{le_refl}
use native.Mathlib.Omega.{arith}
use lib.ListN.{length, length-append}
use Rattle.program.specs.Reader.{Read, took, refused, and_then, take_if}

-- What reading these bytes came to. A value that was taken fits, its own bytes stood first, and the rest of the bytes is left. Where
-- a refusal stands, no more bytes are left than there were.
pub data Outcome {A : Type 0} (bytes_of : A → List ℕ) (Fit : A → Type 0) (xs : List ℕ) : Read A → Type 0 where
  was_took : {a : A} {rest : List ℕ} → xs ≡ bytes_of a ++ rest → Fit a → Outcome bytes_of Fit xs (took a rest)
  was_refused : {n : ℕ} {left : List ℕ} → length left ≤ length xs → Outcome bytes_of Fit xs (refused n left)

-- a value that was taken: its bytes stand first,
pub took_bytes : {A : Type 0} {bytes_of : A → List ℕ} {Fit : A → Type 0} {xs : List ℕ} {a : A} {rest : List ℕ}
    → Outcome bytes_of Fit xs (took a rest) → xs ≡ bytes_of a ++ rest
took_bytes (was_took e f) = e

-- and it fits
pub took_fits : {A : Type 0} {bytes_of : A → List ℕ} {Fit : A → Type 0} {xs : List ℕ} {a : A} {rest : List ℕ}
    → Outcome bytes_of Fit xs (took a rest) → Fit a
took_fits (was_took e f) = f

-- what stands behind some bytes is no longer than all
pub behind_shorter : (front xs rest : List ℕ) → xs ≡ front ++ rest → length rest ≤ length xs
behind_shorter front xs rest e =
    let h : length xs ≡ length (front ++ rest) = ap length e in
    omega (arith, length-append front rest)

-- a refusal where reading started, and one where no bytes are left
pub refused_here : {A : Type 0} {bytes_of : A → List ℕ} {Fit : A → Type 0} (n : ℕ) (xs : List ℕ) → Outcome bytes_of Fit xs (refused n xs)
refused_here n xs = was_refused (le_refl (length xs))

pub refused_end : {A : Type 0} {bytes_of : A → List ℕ} {Fit : A → Type 0} (n : ℕ) (xs : List ℕ) → Outcome bytes_of Fit xs (refused n [])
refused_end n xs = was_refused {left = []} (omega arith)

-- reading goes on behind some bytes
pub go_on : {A B : Type 0} {bytes_a : A → List ℕ} {FitA : A → Type 0} {bytes_b : B → List ℕ} {FitB : B → Type 0} {xs rest : List ℕ}
    (front : List ℕ)
    → xs ≡ front ++ rest → (o : Read A) (next : A → List ℕ → Read B) → Outcome bytes_a FitA rest o
    → ((a : A) (rest' : List ℕ) → rest ≡ bytes_a a ++ rest' → FitA a → Outcome bytes_b FitB xs (next a rest'))
    → Outcome bytes_b FitB xs (and_then o next)
unfolding and_then
go_on {xs} {rest} front e (took a rest') next (was_took p f) g = g a rest' p f
go_on {xs} {rest} front e (refused n left) next (was_refused l) g =
    let h = behind_shorter front xs rest e in
    let k : length left ≤ length xs = omega arith in
    was_refused k

-- a test, with a refusal further on
pub guarded_at : {A : Type 0} {bytes_of : A → List ℕ} {Fit : A → Type 0} (t : Bool) (n : ℕ) (xs place : List ℕ) (next : Read A)
    → length place ≤ length xs → (t ≡ true → Outcome bytes_of Fit xs next) → Outcome bytes_of Fit xs (take_if t n place next)
unfolding take_if
guarded_at true n xs place next l g = g refl
guarded_at false n xs place next l g = was_refused l

-- with one where reading started
pub guarded : {A : Type 0} {bytes_of : A → List ℕ} {Fit : A → Type 0} (t : Bool) (n : ℕ) (xs : List ℕ) (next : Read A)
    → (t ≡ true → Outcome bytes_of Fit xs next) → Outcome bytes_of Fit xs (take_if t n xs next)
guarded t n xs next g = guarded_at t n xs xs next (le_refl (length xs)) g

-- what was left behind a value is no longer than the bytes
pub took_shorter : {A : Type 0} {bytes_of : A → List ℕ} {Fit : A → Type 0} {xs : List ℕ} {a : A} {rest : List ℕ}
    → Outcome bytes_of Fit xs (took a rest) → length rest ≤ length xs
took_shorter {bytes_of = bytes_of} {xs = xs} {a = a} {rest = rest} (was_took e f) = behind_shorter (bytes_of a) xs rest e

-- two ways to go on that are alike behind what was read
pub and_then_same : {A B : Type 0} (o : Read A) (f g : A → List ℕ → Read B)
    → ((a : A) (rest : List ℕ) → o ≡ took a rest → f a rest ≡ g a rest) → and_then o f ≡ and_then o g
unfolding and_then
and_then_same (took a rest) f g h = h a rest refl
and_then_same (refused n left) f g h = refl
