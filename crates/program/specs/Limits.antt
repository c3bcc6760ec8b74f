-- The limits on programs, each named once (docs/ENGINE.md, "Limits"). The first two are note 1's: "A number may now take one to five bytes and reach
-- 4,294,967,295."
use Rattle.std.specs.Prelude.{ℕ}

-- "one to five bytes"
abbrev pub number_bytes : ℕ
number_bytes = 5

-- "reach 4,294,967,295"
abbrev pub job_limit : ℕ
job_limit = 4294967295

-- "one level deeper, to 32"
abbrev pub level_limit : ℕ
level_limit = 32

-- "A program has 1 to 4,096 bytes."
abbrev pub program_bytes : ℕ
program_bytes = 4096

-- "at most 1,024"
abbrev pub vertex_limit : ℕ
vertex_limit = 1024
