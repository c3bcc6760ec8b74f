-- A tree laid out from an offset on, and what stands at a place.
use Rattle.std.specs.Prelude.{ℕ, zero, suc, ◌+◌, ◌<◌, ◌≡◌, Bool, true, false, List, [], ◌∷◌, eqb, length, get_or}
use Rattle.std.proofs.Math.Option.{Option, none, some}
use Rattle.program.specs.declared.Edition.{Edition}
use Rattle.program.specs.Trees.{Body, end, job, async, finish, fork, future, force}
use Rattle.program.specs.Bytes.{number_size, size}
use Rattle.program.specs.Reader.{Reading, program, refusal, reading}
use Rattle.refusal.specs.Refusals.{nothing_starts}
use Rattle.program.specs.Answers.{Stands}

-- A body with the byte offset of each of its items and of its end byte. It is also the code that a vertex has left: what stands
-- from its place to the end byte of the body that the place is in. A force has its number and, for the order of jobs, the body of the future
-- that it names, with the offsets that this body has in the program.
pub data Code : Type 0 where
  end_byte_at : ℕ → Code
  job_at : ℕ → ℕ → Code → Code
  async_at : ℕ → Code → Code → Code
  finish_at : ℕ → Code → Code → Code
  fork_at : ℕ → Code → Code → Code → Code
  future_at : ℕ → Code → Code → Code
  force_at : ℕ → ℕ → Code → Code → Code

-- "0 for the nearest future open there": the body of open future number n, the nearest first. Where there is none this is an empty body at o;
-- a program that is read has no such force.
unfoldable pub open_at : List Code → ℕ → ℕ → Code
open_at [] n o = end_byte_at o
open_at (b ∷ opened) zero o = b
open_at (b ∷ opened) (suc n) o = open_at opened n o

-- a tree from an offset on, where these are the bodies of the open futures
unfoldable pub locate : List Code → ℕ → Body → Code
locate opened o end = end_byte_at o
locate opened o (job n r) = job_at o n (locate opened (suc (o + number_size n)) r)
locate opened o (async b r) = async_at o (locate opened (suc o) b) (locate opened (suc (o + size b)) r)
locate opened o (finish b r) = finish_at o (locate opened (suc o) b) (locate opened (suc (o + size b)) r)
locate opened o (fork b c r) =
    fork_at o (locate opened (suc o) b) (locate opened (suc (o + size b)) c) (locate opened (suc (o + size b + size c)) r)
locate opened o (future b r) =
    future_at o (locate opened (suc o) b) (locate (locate opened (suc o) b ∷ opened) (suc (o + size b)) r)
locate opened o (force n r) = force_at o n (open_at opened n o) (locate opened (suc (o + number_size n)) r)

-- a program, from its first byte on
unfoldable pub located : Body → Code
located b = locate [] 0 b

-- where code starts
unfoldable pub start_of : Code → ℕ
start_of (end_byte_at o) = o
start_of (job_at o n r) = o
start_of (async_at o b r) = o
start_of (finish_at o b r) = o
start_of (fork_at o b c r) = o
start_of (future_at o b r) = o
start_of (force_at o n b r) = o

-- the offset of its end byte
unfoldable pub last : Code → ℕ
last (end_byte_at o) = o
last (job_at o n r) = last r
last (async_at o b r) = last r
last (finish_at o b r) = last r
last (fork_at o b c r) = last r
last (future_at o b r) = last r
last (force_at o n b r) = last r

unfoldable pub here : Bool → Code → Option Code → Option Code
here true c others = some c
here false c others = others

unfoldable pub or_else : Option Code → Option Code → Option Code
or_else none other = other
or_else (some c) other = some c

-- the code that starts at a place, if an item or an end byte starts there
unfoldable pub code_at : Code → ℕ → Option Code
code_at (end_byte_at o) p = here (eqb p o) (end_byte_at o) none
code_at (job_at o n r) p = here (eqb p o) (job_at o n r) (code_at r p)
code_at (async_at o b r) p = here (eqb p o) (async_at o b r) (or_else (code_at b p) (code_at r p))
code_at (finish_at o b r) p = here (eqb p o) (finish_at o b r) (or_else (code_at b p) (code_at r p))
code_at (fork_at o b c r) p = here (eqb p o) (fork_at o b c r) (or_else (code_at b p) (or_else (code_at c p) (code_at r p)))
code_at (future_at o b r) p = here (eqb p o) (future_at o b r) (or_else (code_at b p) (code_at r p))
code_at (force_at o n b r) p = here (eqb p o) (force_at o n b r) (code_at r p)

-- what stands where code starts
unfoldable pub head : Code → Stands
head (end_byte_at o) = Stands.end
head (job_at o n r) = Stands.job n (start_of r)
head (async_at o b r) = Stands.async (start_of b) (start_of r)
head (finish_at o b r) = Stands.finish (start_of b) (start_of r)
head (fork_at o b c r) = Stands.fork (start_of b) (start_of c) (start_of r)
head (future_at o b r) = Stands.future (start_of b) (start_of r)
head (force_at o n b r) = Stands.force n (start_of r)

unfoldable pub found : Option Code → Stands
found none = Stands.refused nothing_starts 0
found (some c) = head c

unfoldable pub stands_in : Reading → ℕ → Stands
stands_in (program b) p = found (code_at (located b) p)
stands_in (refusal n q) p = Stands.refused nothing_starts 0

-- What stands at a place, where the whole program is read from its first byte on. "13 .. bytes that loading refuses by 1 to 8, a place where no
-- item or end byte starts"; "13 counts 43 as it does 1 to 8" (note 5)
unfoldable pub item_at : Edition → List ℕ → ℕ → Stands
item_at ed bytes p = stands_in (reading ed bytes) p

-- an item or an end byte starts at a place
unfoldable pub is_some : Option Code → Bool
is_some none = false
is_some (some c) = true

unfoldable pub starts_in : Reading → ℕ → Bool
starts_in (program b) p = is_some (code_at (located b) p)
starts_in (refusal n q) p = false

unfoldable pub starts_at : Edition → List ℕ → ℕ → Bool
starts_at ed bytes p = starts_in (reading ed bytes) p

-- the place past the end byte of the body that code stands in
unfoldable pub end_of : Option Code → ℕ
end_of none = 0
end_of (some c) = suc (last c)

unfoldable pub end_in : Reading → ℕ → ℕ
end_in (program b) p = end_of (code_at (located b) p)
end_in (refusal n q) p = 0

-- where the body ends that a place is in: past its end byte; 0 where the program is refused, and where no item or end byte starts
unfoldable pub end_at : Edition → List ℕ → ℕ → ℕ
end_at ed bytes p = end_in (reading ed bytes) p

-- ends that tell it of each of their places
abbrev pub MarksEnds : Edition → List ℕ → List ℕ → Type 0
MarksEnds ed bytes ends = (p : ℕ) → p < length ends → get_or ends p 0 ≡ end_at ed bytes p
