-- The reader: the tree that a program's bytes stand for, or the first refusal with its place.
use Rattle.std.specs.Prelude.{ℕ, zero, suc, ◌+◌, ◌-◌, ◌*◌, Bool, true, false, cond, List, [], ◌∷◌, eqb, ltb, leb, length}
use Rattle.std.proofs.Math.Option.{Option, none, some}
use Rattle.program.specs.declared.Edition.{Edition}
use Rattle.program.specs.Limits.{number_bytes, job_limit, level_limit, program_bytes, vertex_limit}
use Rattle.program.specs.Trees.{Kind, jobs, asyncs, finishes, forks, futures, forces, Body, end, Item, a_job, an_async, a_finish, a_fork}
use Rattle.program.specs.Trees.{a_future, a_force, with_first, open_behind}
use Rattle.program.specs.Bytes.{end_byte, top_bit}
use Rattle.program.specs.Encodings.{vertices_made}
use Rattle.refusal.specs.Refusals.{byte_unknown, level_too_deep, length_outside, bytes_run_out}
use Rattle.refusal.specs.Refusals.{number_malformed, too_many_vertices, bytes_after_end, job_too_large, no_such_future}

-- What is read from bytes: a value, and the bytes behind it, or a refusal, and the bytes from its place on.
pub data Read (A : Type 0) : Type 0 where
  took : A → List ℕ → Read A
  refused : ℕ → List ℕ → Read A

-- go on behind what was read; the first refusal stands
unfoldable pub and_then : {A B : Type 0} → Read A → (A → List ℕ → Read B) → Read B
and_then (took x rest) next = next x rest
and_then (refused n place) next = refused n place

-- refuse at a place unless a test holds
unfoldable pub take_if : {A : Type 0} → Bool → ℕ → List ℕ → Read A → Read A
take_if true n place next = next
take_if false n place next = refused n place

-- A number's groups, from the bytes that are left of it; so many bytes it may still have, and `only` tells whether these are all
-- its bytes. "5 bytes run out, in a number before the last byte that it may have"; refusal 2 "longer than five bytes or
-- not shortest": its last group is 0, and it is not its only one. A byte is below 256; what is above that in a list is no byte.
unfoldable pub groups : List ℕ → Bool → ℕ → List ℕ → Read ℕ
groups start only zero left = refused number_malformed start
groups start only (suc room) [] = refused bytes_run_out []
groups start only (suc room) (b ∷ left) =
    cond (ltb b top_bit)
    (take_if (cond only true (ltb 0 b)) number_malformed start (took b left))
    (take_if (ltb b (2 * top_bit)) byte_unknown (b ∷ left)
    (and_then (groups start false room left) (λ high rest. took ((b - top_bit) + top_bit * high) rest)))

-- "in a number 5, 2, 7"
unfoldable pub number : List ℕ → Read ℕ
number start =
    and_then (groups start true number_bytes start)
    (λ n rest. take_if (leb n job_limit) job_too_large start (took n rest))

-- "Items, by first byte: 1 job, .. 2 async, .. 3 finish, .. 4 fork"; "Byte 5 is a future .. byte 6 is a force"
unfoldable pub kind_of : ℕ → Option Kind
kind_of zero = none
kind_of (suc zero) = some jobs
kind_of (suc (suc zero)) = some asyncs
kind_of (suc (suc (suc zero))) = some finishes
kind_of (suc (suc (suc (suc zero)))) = some forks
kind_of (suc (suc (suc (suc (suc zero))))) = some futures
kind_of (suc (suc (suc (suc (suc (suc zero)))))) = some forces
kind_of (suc (suc (suc (suc (suc (suc (suc n))))))) = none

-- "4 a body at level 33 (place: its opener)": what an item holds is read only where its bodies are not too deep
unfoldable pub deeper : ℕ → List ℕ → Read Item → Read Item
deeper level opener held = take_if (ltb level level_limit) level_too_deep opener held

-- "1 job, then its number"
unfoldable pub job_of : List ℕ → Read Item
job_of left = and_then (number left) (λ n rest. took (a_job n) rest)

-- "43 a force with no such future open, at its number's first byte, .. after 7, which holds for that number too"; so many futures are open
unfoldable pub force_of : ℕ → List ℕ → Read Item
force_of opened left = and_then (number left) (λ n rest. take_if (ltb n opened) no_such_future left (took (a_force n) rest))

-- What stands behind an item's first byte, in a body at this level, where so many futures are open; `read_body` reads a body at a level, with
-- so many open at its start.
unfoldable pub item_of : (ℕ → ℕ → List ℕ → Read Body) → ℕ → ℕ → List ℕ → Option Kind → List ℕ → Read Item
item_of read_body level opened place none left = refused byte_unknown place
item_of read_body level opened place (some jobs) left = job_of left
item_of read_body level opened place (some asyncs) left =
    deeper level place (and_then (read_body (suc level) opened left) (λ b rest. took (an_async b) rest))
item_of read_body level opened place (some finishes) left =
    deeper level place (and_then (read_body (suc level) opened left) (λ b rest. took (a_finish b) rest))
item_of read_body level opened place (some forks) left =
    deeper level place
    (and_then (read_body (suc level) opened left)
    (λ b rest. and_then (read_body (suc level) opened rest) (λ c rest'. took (a_fork b c) rest')))
item_of read_body level opened place (some futures) left =
    deeper level place (and_then (read_body (suc level) opened left) (λ b rest. took (a_future b) rest))
item_of read_body level opened place (some forces) left = force_of opened left

-- an item, from its first byte on
unfoldable pub item : (ℕ → ℕ → List ℕ → Read Body) → ℕ → ℕ → List ℕ → Read Item
item read_body level opened [] = refused bytes_run_out []
item read_body level opened (x ∷ left) = item_of read_body level opened (x ∷ left) (kind_of x) left

-- A body at a level, with so many futures open at its start, from its first byte on: items up to the end byte. There are at most n bytes left.
unfoldable pub body_of : ℕ → ℕ → ℕ → List ℕ → Read Body
body_of zero level opened left = refused bytes_run_out []
body_of (suc n) level opened [] = refused bytes_run_out []
body_of (suc n) level opened (x ∷ left) =
    cond (eqb x end_byte) (took end left)
    (and_then (item (body_of n) level opened (x ∷ left))
    (λ first rest. and_then (body_of n level (open_behind first opened) rest) (λ others rest'. took (with_first first others) rest')))

unfoldable pub body : ℕ → ℕ → List ℕ → Read Body
body level opened left = body_of (length left) level opened left

-- what reading a whole program comes to: its tree, or the refusal's number and place
pub data Reading : Type 0 where
  program : Body → Reading
  refusal : ℕ → ℕ → Reading

-- "8 V above 1,024"; "V .. counted by the edition" (note 10)
unfoldable pub counted : Edition → Body → Reading
counted ed b = cond (leb (vertices_made ed b) vertex_limit) (program b) (refusal too_many_vertices 0)

-- "6 bytes after the end". The place of what is left is the length less what is left.
unfoldable pub whole : Edition → ℕ → Read Body → Reading
whole ed len (took b []) = counted ed b
whole ed len (took b (x ∷ left)) = refusal bytes_after_end (len - length (x ∷ left))
whole ed len (refused n left) = refusal n (len - length left)

-- "Load: 1; the first of 2 to 7 by place, ..; 8"; 43 is "by place among 2 to 7"
unfoldable pub reading : Edition → List ℕ → Reading
reading ed bytes =
    cond (eqb (length bytes) 0) (refusal length_outside 0)
    (cond (leb (length bytes) program_bytes) (whole ed (length bytes) (body 1 0 bytes)) (refusal length_outside 0))
