-- What starts and what stands at a place of a whole program: one law for each path through `starts_at`, and what follows where an item
-- or an end byte starts and where none does.
use Prim.Native.Nat.{ℕ, ◌+◌, ◌<◌, ◌≤◌}
use mathlib.Core.Path.{◌≡◌, refl, sym, ap, ◌∙◌}
use mathlib.Core.Bool.{Bool, true, false, not, true≢false}
use mathlib.Core.List.{List, [], ◌++◌}
use mathlib.Core.Option.{Option, none, some, none-ne-some}
use native.Mathlib.Omega.{arith}
use lib.Dec.{ltb}
use lib.ListN.{length, drop}
use borrow.Author.Tests.{ltb-true, ltb-false}
use Rattle.program.specs.declared.Edition.{Edition}
use Rattle.program.specs.Limits.{program_bytes}
use Rattle.program.specs.Trees.{Body}
use Rattle.program.specs.Bytes.{encode, size}
use Rattle.program.specs.Reader.{Reading, program, refusal, reading}
use Rattle.refusal.specs.Refusals.{nothing_starts}
use Rattle.program.specs.Answers.{Stands}
use Rattle.program.specs.Located.{Code, locate, located, code_at, head, found, stands_in, item_at, is_some, starts_in, starts_at}
use Rattle.program.specs.Claims.{Fits, Loadable, Encoding, encoding}
use Rattle.program.specs.Internal.Progress.{Shows, is_read, in_number}
use Rattle.program.proofs.Exactness.{reading_sound}
use Rattle.program.proofs.LocatedLaws.{head-locate, item_stands}
use Rattle.program.proofs.StartLaws.{Placed, placed, code_bytes, starts, starts_within}
use Rattle.program.proofs.SkipLaws.{part, part_is, part_length}

-- a program is read from bytes: they are those of its tree
pub data Loads (ed : Edition) (bytes : List ℕ) : Type 0 where
  loaded : (b : Body) → reading ed bytes ≡ program b → bytes ≡ encode b → length bytes ≡ size b → Loadable ed b → Loads ed bytes

pub loads_read : (ed : Edition) (bytes : List ℕ) → is_read (reading ed bytes) ≡ true → Loads ed bytes
unfolding is_read size
loads_read ed bytes is = go (reading ed bytes) refl is
  where
    go : (r : Reading) → reading ed bytes ≡ r → is_read r ≡ true → Loads ed bytes
    go (program b) e is = let (same, fits) = reading_sound ed bytes b e in loaded b e same (ap length same) fits
    go (refusal n p) e is = absurd (true≢false (sym is))

-- what `in_number` and `fill_ends` ask: the bytes are an encoding, and not too many
pub loads_encoding : (ed : Edition) (bytes : List ℕ) → is_read (reading ed bytes) ≡ true → Encoding bytes × (length bytes ≤ program_bytes)
loads_encoding ed bytes is = go (loads_read ed bytes is)
  where
    go : Loads ed bytes → Encoding bytes × (length bytes ≤ program_bytes)
    go (loaded b e same long fits) = (encoding b fits.fits fits.forced same, omega (arith, fits.bytes))

-- in a program that is read, something starts where the search finds code
starts_read : (ed : Edition) (bytes : List ℕ) (b : Body) (p : ℕ) → reading ed bytes ≡ program b
    → starts_at ed bytes p ≡ is_some (code_at (located b) p)
unfolding starts_at starts_in
starts_read ed bytes b p e = ap (λ r. starts_in r p) e

-- the program is refused
pub starts_refused : (ed : Edition) (bytes : List ℕ) (p : ℕ) → is_read (reading ed bytes) ≡ false → false ≡ starts_at ed bytes p
unfolding is_read starts_at starts_in
starts_refused ed bytes p is = go (reading ed bytes) is
  where
    go : (r : Reading) → is_read r ≡ false → false ≡ starts_in r p
    go (program b) is = absurd (true≢false is)
    go (refusal n p) is = refl

-- the place is not in the program
pub starts_outside :
    (ed : Edition) (bytes : List ℕ) (p : ℕ) → is_read (reading ed bytes) ≡ true → length bytes ≤ p → false ≡ starts_at ed bytes p
unfolding is_some
starts_outside ed bytes p is le = go (loads_read ed bytes is)
  where
    go : Loads ed bytes → false ≡ starts_at ed bytes p
    go (loaded b e same long fits) = sym (starts_read ed bytes b p e ∙ ap is_some (starts_within b p (omega arith)))

-- it is in the program
pub starts_inside :
    (ed : Edition) (bytes : List ℕ) (p : ℕ) → is_read (reading ed bytes) ≡ true → p < length bytes
    → not (in_number bytes p) ≡ starts_at ed bytes p
starts_inside ed bytes p is lt = go (loads_read ed bytes is)
  where
    go : Loads ed bytes → not (in_number bytes p) ≡ starts_at ed bytes p
    go (loaded b e same long fits) =
        ap (λ l. not (in_number l p)) same ∙ starts b p fits.fits.numbers (omega arith) ∙ sym (starts_read ed bytes b p e)

-- an item or an end byte starts there: the bytes from there on begin with a body, and what that begins with stands there
data Starts (ed : Edition) (bytes : List ℕ) (p : ℕ) : Type 0 where
  starting :
      (b : Body) (rest : List ℕ) → Fits b → drop p bytes ≡ encode b ++ rest → head (locate [] p b) ≡ item_at ed bytes p
      → length bytes ≤ program_bytes → p < length bytes → Starts ed bytes p

-- what the definition's test tells
pub code_some : (x : Option Code) → is_some x ≡ true → (c : Code) × (x ≡ some c)
unfolding is_some
code_some none h = absurd (true≢false (sym h))
code_some (some c) h = (c, refl)

code_none : (x : Option Code) → is_some x ≡ false → x ≡ none
unfolding is_some
code_none none h = refl
code_none (some c) h = absurd (true≢false h)

-- code starts only before the end of the bytes
code_within : (b : Body) (p : ℕ) {d : Code} → code_at (located b) p ≡ some d → p < size b
code_within b p {d} at = go (ltb p (size b)) refl
  where
    go : (t : Bool) → ltb p (size b) ≡ t → p < size b
    go true e = ltb-true p (size b) e
    go false e = absurd (none-ne-some _ (sym (starts_within b p (ltb-false p (size b) e)) ∙ at))

starts_code :
    (ed : Edition) (bytes : List ℕ) (p : ℕ) (b : Body) (d : Code) → reading ed bytes ≡ program b → code_at (located b) p ≡ some d
    → Starts ed bytes p
unfolding size
starts_code ed bytes p b d e at = go (reading_sound ed bytes b e) (code_bytes b p d at)
  where
    go : (bytes ≡ encode b) × Loadable ed b → Placed b p d → Starts ed bytes p
    go (same, fits) (placed opened b' rest is tail flat low) =
        let long : length bytes ≡ length (encode b) = ap length same in
        starting b' rest
        (record { numbers = omega (arith, fits.fits.numbers); levels = omega (arith, fits.fits.levels) })
        (ap (λ l. drop p l) same ∙ tail)
        (sym (item_stands ed bytes b p e at ∙ ap head is ∙ head-locate opened [] p b'))
        (omega (arith, fits.bytes))
        (omega (arith, code_within b p at))

starts_there : (ed : Edition) (bytes : List ℕ) (p : ℕ) → starts_at ed bytes p ≡ true → Starts ed bytes p
unfolding starts_at starts_in
starts_there ed bytes p is = go (reading ed bytes) refl is
  where
    go : (r : Reading) → reading ed bytes ≡ r → starts_in r p ≡ true → Starts ed bytes p
    go (program b) e is = let (d, at) = code_some (code_at (located b) p) is in starts_code ed bytes p b d e at
    go (refusal n q) e is = absurd (true≢false (sym is))

-- the program has bytes, not too many, and the place is one of them
pub starts_length :
    (ed : Edition) (bytes : List ℕ) (p : ℕ) → starts_at ed bytes p ≡ true
    → (1 ≤ length bytes) × (length bytes ≤ program_bytes) × (p < length bytes)
starts_length ed bytes p is = go (starts_there ed bytes p is)
  where
    go : Starts ed bytes p → (1 ≤ length bytes) × (length bytes ≤ program_bytes) × (p < length bytes)
    go (starting b rest fits tail stands few lt) = (omega arith, few, lt)

-- so nothing starts behind the last byte that a program may have
pub starts_beyond : (ed : Edition) (bytes : List ℕ) (p : ℕ) → program_bytes ≤ p → starts_at ed bytes p ≡ false
starts_beyond ed bytes p le = go (starts_at ed bytes p) refl
  where
    go : (t : Bool) → starts_at ed bytes p ≡ t → starts_at ed bytes p ≡ false
    go true e = absurd (omega (arith, starts_length ed bytes p e))
    go false e = e

-- the bytes from there on end where a program's may
pub starting_room : (ed : Edition) (bytes : List ℕ) (p : ℕ) → starts_at ed bytes p ≡ true → p + length (part p bytes) ≤ program_bytes
starting_room ed bytes p is = omega (arith, part_length p bytes, starts_length ed bytes p is)

-- what an item reader tells there stands there
pub starting_shown :
    (ed : Edition) (bytes : List ℕ) (p : ℕ) (s : Stands) → starts_at ed bytes p ≡ true → Shows (part p bytes) p s → s ≡ item_at ed bytes p
starting_shown ed bytes p s is shown = go (starts_there ed bytes p is)
  where
    go : Starts ed bytes p → s ≡ item_at ed bytes p
    go (starting b rest fits tail stands few lt) = shown b rest fits (part_is p bytes ∙ tail) ∙ stands

-- where nothing starts, that is refused
pub not_starting : (ed : Edition) (bytes : List ℕ) (p : ℕ) → starts_at ed bytes p ≡ false → item_at ed bytes p ≡ Stands.refused nothing_starts 0
unfolding starts_at starts_in item_at stands_in found
not_starting ed bytes p is = go (reading ed bytes) is
  where
    go : (r : Reading) → starts_in r p ≡ false → stands_in r p ≡ Stands.refused nothing_starts 0
    go (program b) is = ap found (code_none (code_at (located b) p) is)
    go (refusal n q) is = refl
