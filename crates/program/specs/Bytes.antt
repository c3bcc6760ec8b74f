-- "Program bytes": the bytes of a number and of a program.
use Rattle.std.specs.Prelude.{ℕ, zero, suc, ◌+◌, ◌/◌, ◌%◌, cond, List, [], ◌∷◌, ◌++◌, ltb, length}
use Rattle.program.specs.Limits.{number_bytes}
use Rattle.program.specs.Trees.{Body, end, job, async, finish, fork, future, force}

-- "A body ends with the byte 0. Items, by first byte: 1 job, .. 2 async, .. 3 finish, .. 4 fork"
abbrev pub end_byte : ℕ
end_byte = 0

abbrev pub job_byte : ℕ
job_byte = 1

abbrev pub async_byte : ℕ
async_byte = 2

abbrev pub finish_byte : ℕ
finish_byte = 3

abbrev pub fork_byte : ℕ
fork_byte = 4

-- "Byte 5 is a future with one body; byte 6 is a force with a number" (note 5)
abbrev pub future_byte : ℕ
future_byte = 5

abbrev pub force_byte : ℕ
force_byte = 6

-- "groups of seven bits", and the weight of "the top bit"
abbrev pub top_bit : ℕ
top_bit = 128

-- "in groups of seven bits, lowest group first, the top bit set on every byte but its last, .. shortest form": a number, where there is
-- room for so many bytes
unfoldable pub group_bytes : ℕ → ℕ → List ℕ
group_bytes zero n = []
group_bytes (suc room) n = cond (ltb n top_bit) (n ∷ []) ((top_bit + n % top_bit) ∷ group_bytes room (n / top_bit))

-- "one to five bytes"
unfoldable pub encode_number : ℕ → List ℕ
encode_number n = group_bytes number_bytes n

unfoldable pub encode : Body → List ℕ
encode end = end_byte ∷ []
encode (job n r) = job_byte ∷ (encode_number n ++ encode r)
encode (async b r) = async_byte ∷ (encode b ++ encode r)
encode (finish b r) = finish_byte ∷ (encode b ++ encode r)
encode (fork b c r) = fork_byte ∷ (encode b ++ (encode c ++ encode r))
encode (future b r) = future_byte ∷ (encode b ++ encode r)
encode (force n r) = force_byte ∷ (encode_number n ++ encode r)

unfoldable pub number_size : ℕ → ℕ
number_size n = length (encode_number n)

-- the number of bytes of a body
unfoldable pub size : Body → ℕ
size b = length (encode b)
