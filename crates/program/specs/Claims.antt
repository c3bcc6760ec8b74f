-- The words in which the reader's theorems are stated. The theorems are in proofs/Exactness.antt and proofs/Refusals.antt.
use Rattle.std.specs.Prelude.{ℕ, suc, ◌+◌, ◌*◌, ◌^◌, ◌<◌, ◌≤◌, ◌≡◌, List, [], ◌∷◌, ◌++◌, ◌⊎◌, length, get_or}
use Rattle.program.specs.declared.Edition.{Edition}
use Rattle.program.specs.Limits.{number_bytes, job_limit, level_limit, program_bytes, vertex_limit}
use Rattle.program.specs.Trees.{Body, end, Item, with_first, depth, largest, open_behind, HasFutures}
use Rattle.program.specs.Bytes.{end_byte, job_byte, async_byte, fork_byte, future_byte, force_byte, top_bit, encode_number, encode, size}
use Rattle.program.specs.Encodings.{vertices_made}
use Rattle.refusal.specs.Refusals.{number_malformed, byte_unknown, level_too_deep, job_too_large, no_such_future}

-- a tree within the limits on numbers and levels
pub record Fits (b : Body) : Type 0 where
  pub numbers : largest b ≤ job_limit
  pub levels : depth b ≤ level_limit

-- a tree within all limits, in which every force has its future; only that on vertices goes by the edition
pub record Loadable (ed : Edition) (b : Body) : Type 0 where
  pub fits : Fits b
  pub forced : HasFutures 0 b
  pub bytes : size b ≤ program_bytes
  pub made : vertices_made ed b ≤ vertex_limit

-- the bytes of a tree within the limits on numbers and levels, in which every force has its future
pub data Encoding (xs : List ℕ) : Type 0 where
  encoding : (b : Body) → Fits b → HasFutures 0 b → xs ≡ encode b → Encoding xs

-- a proper prefix, of this length, is an encoding
pub data Overlong (xs : List ℕ) (p : ℕ) : Type 0 where
  overlong : (whole : List ℕ) (x : ℕ) (more : List ℕ) → Encoding whole → xs ≡ whole ++ (x ∷ more) → p ≡ length whole → Overlong xs p

-- the encoding of a tree that makes too many vertices
pub data Crowded (ed : Edition) (xs : List ℕ) : Type 0 where
  crowded : (b : Body) → Fits b → HasFutures 0 b → xs ≡ encode b → vertex_limit < vertices_made ed b → Crowded ed xs

-- 2, 3, 4 and 7, and 43 "by place among 2 to 7": the refusals that bytes are blamed for
abbrev pub ByPlace : ℕ → Type 0
ByPlace n =
    (n ≡ number_malformed) ⊎ (n ≡ byte_unknown) ⊎ (n ≡ level_too_deep) ⊎ (n ≡ job_too_large) ⊎ (n ≡ no_such_future)

-- a tree within the limits on numbers and levels, in which every force has its future, as a body at this level where so many futures are open
abbrev pub FitsFrom : ℕ → ℕ → Body → Type 0
FitsFrom level opened b = (largest b ≤ job_limit) × (depth b + level ≤ suc level_limit) × HasFutures opened b

-- Bytes that lead from where a body at one level starts, with so many futures open, to where an item, or the end byte, of a body at the level
-- `to` starts, with `there` open. "A body inside a body counts one level deeper, to 32." "A future is open after its item".
pub data LeadsTo (to there : ℕ) : ℕ → ℕ → List ℕ → Type 0 where
  here : LeadsTo to there to there []
  -- a whole item, and on from behind it: its bytes are those of the body that has no other item, without the end byte
  past :
      {level opened : ℕ} {more : List ℕ} (i : Item) (bytes : List ℕ) → FitsFrom level opened (with_first i end)
      → encode (with_first i end) ≡ bytes ++ (end_byte ∷ []) → LeadsTo to there level (open_behind i opened) more
      → LeadsTo to there level opened (bytes ++ more)
  -- an item's first byte, and on in its first body
  into :
      {level opened : ℕ} {more : List ℕ} (x : ℕ) → async_byte ≤ x → x ≤ future_byte → level < level_limit → LeadsTo to there (suc level) opened more
      → LeadsTo to there level opened (x ∷ more)
  -- a fork's first byte and its first body, and on in its second
  second :
      {level opened : ℕ} {more : List ℕ} (b : Body) → FitsFrom (suc level) opened b → level < level_limit
      → LeadsTo to there (suc level) opened more → LeadsTo to there level opened (fork_byte ∷ (encode b ++ more))

-- bytes that all have their top bit set
abbrev pub TopBits : List ℕ → Type 0
TopBits xs = (i : ℕ) → i < length xs → (top_bit ≤ get_or xs i 0) × (get_or xs i 0 < 2 * top_bit)

-- Bytes that end inside a force's number, where what stands before the force leads to it and can be completed to an encoding. No number might
-- complete the force itself, as where no future is open. But which future it forces is known at the number's last byte only: 43 comes "after
-- 7, which holds for that number too" (note 5), and after 2 and 5 likewise.
pub data CutForce (xs : List ℕ) : Type 0 where
  cut_force :
      (level opened : ℕ) (before groups more : List ℕ) → LeadsTo level opened 1 0 before → Encoding (before ++ more)
      → length groups < number_bytes → TopBits groups → xs ≡ before ++ (force_byte ∷ groups) → CutForce xs

-- bytes that some further ones, or none, complete to an encoding, or that end inside a force's number
pub data Extends (xs : List ℕ) : Type 0 where
  extended : (more : List ℕ) → Encoding (xs ++ more) → Extends xs
  extended_force : CutForce xs → Extends xs

-- a proper prefix of an encoding: at least one byte is wanting; or bytes that end inside a force's number
pub data Unfinished (xs : List ℕ) : Type 0 where
  unfinished : (x : ℕ) (more : List ℕ) → Encoding (xs ++ (x ∷ more)) → Unfinished xs
  unfinished_force : CutForce xs → Unfinished xs

-- The bytes of a number that a refusal is due for: 2 "longer than five bytes or not shortest" and 7 "above 4,294,967,295".
pub data BadNumber : ℕ → List ℕ → Type 0 where
  too_long : (number : List ℕ) → length number ≡ number_bytes → TopBits number → BadNumber number_malformed number
  not_shortest : (b : ℕ) (groups : List ℕ) → TopBits (b ∷ groups) → BadNumber number_malformed (b ∷ (groups ++ (0 ∷ [])))
  too_large : (n : ℕ) → job_limit < n → n < top_bit ^ number_bytes → BadNumber job_too_large (encode_number n)

-- "1 job, then its number"; "byte 6 is a force with a number"
abbrev pub HasNumber : ℕ → Type 0
HasNumber x = (x ≡ job_byte) ⊎ (x ≡ force_byte)

-- What offends where an item of a body at this level starts, with so many futures open: a refusal's number, the item's bytes before its place,
-- and the bytes that it is due for.
pub data Offends (level opened : ℕ) : ℕ → List ℕ → List ℕ → Type 0 where
  -- "Refusal 3 begins above 6"
  unknown : (x : ℕ) → force_byte < x → Offends level opened byte_unknown [] (x ∷ [])
  -- "4 a body at level 33 (place: its opener)"
  opener : (x : ℕ) → async_byte ≤ x → x ≤ future_byte → level ≡ level_limit → Offends level opened level_too_deep [] (x ∷ [])
  -- a job's number, or a force's
  misnumbered : {n : ℕ} {number : List ℕ} (x : ℕ) → HasNumber x → BadNumber n number → Offends level opened n (x ∷ []) number
  -- what is above 255 is no byte
  no_byte :
      (first : ℕ) (groups : List ℕ) (x : ℕ) → HasNumber first → length groups < number_bytes → TopBits groups → 2 * top_bit ≤ x
      → Offends level opened byte_unknown (first ∷ groups) (x ∷ [])
  -- "43 a force with no such future open, at its number's first byte, .. after 7"
  unopened : (n : ℕ) → opened ≤ n → n ≤ job_limit → Offends level opened no_such_future (force_byte ∷ []) (encode_number n)

-- 2, 3, 4, 7 or 43 at p: `before` leads to an item that has bytes that offend, at p. What stands before p can be completed, or ends inside a
-- force's number; what stands up to the end of the offending bytes cannot, and does not.
pub data Blamed (xs : List ℕ) (n p : ℕ) : Type 0 where
  blamed :
      (level opened : ℕ) (before first bad rest : List ℕ) → LeadsTo level opened 1 0 before → Offends level opened n first bad
      → xs ≡ (before ++ first) ++ (bad ++ rest) → p ≡ length (before ++ first) → Extends (before ++ first)
      → (Extends ((before ++ first) ++ bad) → ⊥) → Blamed xs n p
