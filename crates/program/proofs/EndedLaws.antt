-- What stands at a place, where ends tell it: the item reader that goes by them, and the places of a whole program.
use Prim.Native.Nat.{ℕ, suc, ◌+◌, ◌<◌, ◌≤◌}
use mathlib.Core.Path.{◌≡◌, refl, sym, ap, subst, ◌∙◌}
use mathlib.Core.Bool.{Bool, true, false, true≢false}
use mathlib.Core.List.{List, ◌++◌}
use mathlib.Core.Option.{some}
use native.Mathlib.Omega.{arith}
use lib.Dec.{eqb}
use lib.ListN.{length, get_or, drop, length-drop}
use borrow.Author.Tests.{eqb-true, eqb-false}
use Rattle.program.specs.declared.Edition.{Edition}
use Rattle.program.specs.Trees.{Body, async, finish, fork, future}
use Rattle.program.specs.Bytes.{async_byte, fork_byte, force_byte, encode, size}
use Rattle.program.specs.Reader.{Reading, program, refusal, reading}
use Rattle.program.specs.Located.{Code, locate, located, start_of, code_at, starts_in, starts_at, end_of, end_in, end_at, MarksEnds}
use Rattle.program.specs.Claims.{Fits, Loadable}
use Rattle.program.specs.Internal.Progress.{BeginsWithBody, begins, Sized, EndsIn, BeginsEnded, begins_ended, EndTold}
use Rattle.program.proofs.Exactness.{reading_sound, begins_unique}
use Rattle.program.proofs.LocatedLaws.{Inner, async_body, finish_body, fork_left, fork_right, future_body, part_code, inside, itself}
use Rattle.program.proofs.LocatedLaws.{place_locate, last-locate, laid_locate, laid_located, code_place, code_laid, code_range, code_same}
use Rattle.program.proofs.StartLaws.{Placed, placed, code_bytes}
use Rattle.program.proofs.SkipLaws.{part, part_is, size_within, HasOneBody, on_one, on_fork, past_body}
use Rattle.program.proofs.PlaceLaws.{code_some}

-- so they begin with a body's
pub ended_begins : (xs : List ℕ) (p : ℕ) (ends : List ℕ) → BeginsEnded xs p ends → BeginsWithBody xs
ended_begins xs p ends (begins_ended opened b fits rest e told) = begins b fits rest e

-- bytes begin with one body at most, so they tell its size
sized_by : (xs : List ℕ) (c : Body) (rest : List ℕ) → Fits c → xs ≡ encode c ++ rest → Sized xs (size c)
sized_by xs c rest fits e d rest' fits' e' = ap size (begins_unique c d rest rest' fits fits' (sym e ∙ e'))

-- the end of a body right inside, where it starts
inside_told :
    (ends : List ℕ) (opened : List Code) (p o : ℕ) (b c : Body) → EndsIn ends (locate opened p b)
    → Inner (locate opened p b) (locate opened o c) → o < length ends → get_or ends o 0 ≡ o + size c
inside_told ends opened p o b c told i lt =
    let d = locate opened o c in
    ap (λ (k : ℕ). get_or ends k 0) (sym (place_locate opened o c))
    ∙ told (start_of d) d (omega (arith, place_locate opened o c)) (part_code (inside i itself) (laid_locate opened p b))
    ∙ last-locate opened o c

-- so many bytes has the first body of the item that the bytes begin with, and no other number; the end that is told, if one is, is its end, and
-- it stands in the bytes
pub record FirstEnded (xs : List ℕ) (p : ℕ) (ends : List ℕ) : Type 0 where
  pub s : ℕ
  pub sized : Sized (part 1 xs) s
  pub only : (r : ℕ) → Sized (part 1 xs) r → s ≡ r
  pub is : p + 1 < length ends → get_or ends (p + 1) 0 ≡ p + (1 + s)
  pub starts : 1 < length xs
  pub within : 1 + s ≤ length xs

first_told :
    (xs : List ℕ) (p : ℕ) (ends : List ℕ) (opened : List Code) (b c : Body) (rest : List ℕ) → Fits c → drop 1 xs ≡ encode c ++ rest
    → EndsIn ends (locate opened p b) → Inner (locate opened p b) (locate opened (suc p) c) → FirstEnded xs p ends
first_told xs p ends opened b c rest fits tail told i =
    record {
      s = size c;
      sized = sized_by (part 1 xs) c rest fits (part_is 1 xs ∙ tail);
      only = λ r sized. sym (sized c rest fits (part_is 1 xs ∙ tail));
      is = λ lt. ap (λ (k : ℕ). get_or ends k 0) (omega arith) ∙ inside_told ends opened p (suc p) b c told i (omega arith) ∙ omega arith;
      starts = omega (arith, size_within (drop 1 xs) c rest tail, length-drop 1 xs);
      within = omega (arith, size_within (drop 1 xs) c rest tail, length-drop 1 xs);
    }

-- so many has a fork's second body
pub record SecondEnded (xs : List ℕ) (p : ℕ) (ends : List ℕ) (s : ℕ) : Type 0 where
  pub t : ℕ
  pub sized : Sized (part (1 + s) xs) t
  pub is : p + (1 + s) < length ends → get_or ends (p + (1 + s)) 0 ≡ p + (1 + s) + t
  pub starts : 1 + s < length xs
  pub within : 1 + s + t ≤ length xs

second_told :
    (xs : List ℕ) (p : ℕ) (ends : List ℕ) (opened : List Code) (c d r : Body) (rest : List ℕ) → Fits d
    → drop (1 + size c) xs ≡ encode d ++ rest → EndsIn ends (locate opened p (fork c d r)) → SecondEnded xs p ends (size c)
unfolding locate
second_told xs p ends opened c d r rest fits tail told =
    record {
      t = size d;
      sized = sized_by (part (1 + size c) xs) d rest fits (part_is (1 + size c) xs ∙ tail);
      is =
          λ lt.
          ap (λ (k : ℕ). get_or ends k 0) (omega arith)
          ∙ inside_told ends opened p (suc (p + size c)) (fork c d r) d told fork_right (omega arith)
          ∙ omega arith;
      starts = omega (arith, size_within (drop (1 + size c) xs) d rest tail, length-drop (1 + size c) xs);
      within = omega (arith, size_within (drop (1 + size c) xs) d rest tail, length-drop (1 + size c) xs);
    }

-- a fork's bodies
pub record BothEnded (xs : List ℕ) (p : ℕ) (ends : List ℕ) : Type 0 where
  pub left : FirstEnded xs p ends
  pub right : SecondEnded xs p ends left.s

pub fork_ended : (xs : List ℕ) (p : ℕ) (ends : List ℕ) → BeginsEnded xs p ends → get_or xs 0 0 ≡ fork_byte → BothEnded xs p ends
unfolding locate first_told
fork_ended xs p ends (begins_ended opened b fits rest e told) is =
    on_fork (λ b. EndsIn ends (locate opened p b) → BothEnded xs p ends) xs b rest fits e is
    (λ c d r fc fd fr tail told.
    record {
      left = first_told xs p ends opened (fork c d r) c (encode d ++ (encode r ++ rest)) fc tail told fork_left;
      right =
          second_told xs p ends opened c d r (encode r ++ rest) fd
          (past_body xs 1 (size c) c (encode d ++ (encode r ++ rest)) tail refl) told;
    })
    told

-- so its own end is told where the first body's end is told to be
pub fork_past :
    (xs : List ℕ) (p : ℕ) (ends : List ℕ) (both : BothEnded xs p ends) → p + length xs ≤ length ends
    → get_or ends (get_or ends (p + 1) 0) 0 ≡ get_or ends (p + 1) 0 + both.right.t
fork_past xs p ends both room =
    let left : get_or ends (p + 1) 0 ≡ p + (1 + both.left.s) = both.left.is (omega (arith, both.left.starts)) in
    ap (λ (k : ℕ). get_or ends k 0) left ∙ both.right.is (omega (arith, both.right.starts)) ∙ ap (λ (k : ℕ). k + both.right.t) (sym left)

-- what `size_there` asks
size_told : (xs ends : List ℕ) (p s : ℕ) → Sized xs s → (p < length ends → get_or ends p 0 ≡ p + s) → EndTold xs p ends
size_told xs ends p s sized is lt = (omega (arith, is lt), subst (λ (k : ℕ). Sized xs k) (omega (arith, is lt)) sized)

pub first_size : (xs : List ℕ) (p : ℕ) (ends : List ℕ) → FirstEnded xs p ends → EndTold (part 1 xs) (p + 1) ends
first_size xs p ends first = size_told (part 1 xs) ends (p + 1) first.s first.sized (λ lt. omega (arith, first.is lt))

pub second_size :
    (xs : List ℕ) (p : ℕ) (ends : List ℕ) (r : ℕ) → BothEnded xs p ends → Sized (part 1 xs) r → EndTold (part (1 + r) xs) (p + (1 + r)) ends
second_size xs p ends r both sized =
    let right = both.right in
    subst (λ (k : ℕ). EndTold (part (1 + k) xs) (p + (1 + k)) ends) (both.left.only r sized)
    (size_told (part (1 + both.left.s) xs) ends (p + (1 + both.left.s)) right.t right.sized right.is)

-- the body of an async, a finish or a future
one_ended : (xs : List ℕ) (p : ℕ) (ends : List ℕ) → BeginsEnded xs p ends → HasOneBody (get_or xs 0 0) → FirstEnded xs p ends
unfolding locate
one_ended xs p ends (begins_ended opened b fits rest e told) one =
    on_one (λ b. EndsIn ends (locate opened p b) → FirstEnded xs p ends) xs b rest fits e one
    (λ c r is fc fr tail told. first_told xs p ends opened (async c r) c (encode r ++ rest) fc tail told async_body)
    (λ c r is fc fr tail told. first_told xs p ends opened (finish c r) c (encode r ++ rest) fc tail told finish_body)
    (λ c r is fc fr tail told. first_told xs p ends opened (future c r) c (encode r ++ rest) fc tail told future_body)
    told

-- the first body of any item that has one
pub first_ended :
    (xs : List ℕ) (p : ℕ) (ends : List ℕ) → BeginsEnded xs p ends → async_byte ≤ get_or xs 0 0 → (get_or xs 0 0 ≡ force_byte → ⊥)
    → FirstEnded xs p ends
first_ended xs p ends held ge other = go (eqb (get_or xs 0 0) fork_byte) refl
  where
    go : (t : Bool) → eqb (get_or xs 0 0) fork_byte ≡ t → FirstEnded xs p ends
    go true e = (fork_ended xs p ends held (eqb-true (get_or xs 0 0) fork_byte e)).left
    go false e = one_ended xs p ends held (ge, eqb-false (get_or xs 0 0) fork_byte e, other)

-- in a program that is read they are the ends in its tree, so those of what starts at a place
ends_tree :
    (ed : Edition) (bytes ends : List ℕ) (p : ℕ) (b : Body) (d : Code) → MarksEnds ed bytes ends → reading ed bytes ≡ program b
    → code_at (located b) p ≡ some d → EndsIn ends d
unfolding end_at end_in end_of
ends_tree ed bytes ends p b d marks e at q c lt there =
    let start : start_of d ≡ p = code_place (located b) p at in
    let (s, i, l) = code_range d q (code_laid (located b) p (laid_located b) at) there in
    marks q lt
    ∙ ap (λ r. end_in r q) e
    ∙ ap end_of (code_same (located b) p q (laid_located b) at (omega (arith, s)) (omega (arith, i, l)) ∙ there)

-- what `item_ended` and `item_here` ask
pub starting_ended :
    (ed : Edition) (bytes ends : List ℕ) (p : ℕ) → MarksEnds ed bytes ends → starts_at ed bytes p ≡ true
    → BeginsEnded (part p bytes) p ends
unfolding starts_at starts_in size located
starting_ended ed bytes ends p marks is = go (reading ed bytes) refl is
  where
    there : (b : Body) (d : Code) → reading ed bytes ≡ program b → code_at (located b) p ≡ some d → (bytes ≡ encode b) × Loadable ed b
        → Placed b p d → BeginsEnded (part p bytes) p ends
    there b d e at (same, fits) (placed opened b' rest is tail deep large) =
        begins_ended opened b'
        (record { numbers = omega (arith, fits.fits.numbers); levels = omega (arith, fits.fits.levels) })
        rest (part_is p bytes ∙ ap (λ l. drop p l) same ∙ tail)
        (subst (λ m. EndsIn ends m) is (ends_tree ed bytes ends p b d marks e at))

    go : (r : Reading) → reading ed bytes ≡ r → starts_in r p ≡ true → BeginsEnded (part p bytes) p ends
    go (program b) e is =
        let (d, at) = code_some (code_at (located b) p) is in
        there b d e at (reading_sound ed bytes b e) (code_bytes b p d at)
    go (refusal n q) e is = absurd (true≢false (sym is))
