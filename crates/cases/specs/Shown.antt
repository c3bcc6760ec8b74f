-- How the cases show a program's bytes, a refusal, and what a call left.
use Rattle.std.specs.Prelude.{ℕ, ◌+◌, ◌/◌, ◌%◌, List, [], ◌∷◌, ◌++◌, if◌then◌else◌, nat_lt, codes, decimal}
use Rattle.std.specs.List.{flat_map}
use Rattle.refusal.specs.declared.Refusal.{Refusal}
use Rattle.refusal.specs.Reasons.{number}
use Rattle.graph.specs.declared.Tally.{Tally}
use Rattle.cases.specs.Sums.{table_sum}

-- a hex digit
abbrev pub hex_digit : ℕ → ℕ
hex_digit d = if nat_lt d 10 then 48 + d else 87 + d

-- a space, and a byte in two hex digits
abbrev pub byte_text : ℕ → List ℕ
byte_text b = codes " " ++ (hex_digit (b / 16) ∷ hex_digit (b % 16) ∷ [])

-- a program's bytes
abbrev pub bytes_text : List ℕ → List ℕ
bytes_text bytes = flat_map byte_text bytes

-- a refusal's number and place
abbrev pub refused_text : Refusal → List ℕ
refused_text r = codes "refused " ++ decimal (number r.reason) ++ codes " " ++ decimal r.place

-- the tally, and a sum over each table
abbrev pub left_text : Tally → List ℕ → List ℕ → List ℕ
left_text t vertices edges =
    codes " | " ++ decimal t.made ++ codes " " ++ decimal t.held ++ codes " " ++ decimal t.steps
    ++ codes " | " ++ decimal (table_sum vertices) ++ codes " " ++ decimal (table_sum edges)
