-- The lister's text, as bytes: "a heading, then per step the stepping vertex, the word, its vertices or job number". "A refused program prints
-- `refused`, number and place on one line."
use Rattle.std.specs.Prelude.{ℕ, zero, suc, ◌+◌, ◌/◌, ◌%◌, cond, List, [], ◌∷◌, ◌++◌, ltb}
use Prim.Native.Char.{code}
use Prim.Native.String.{String, [] as []ᵗ, ◌∷◌ as ◌∷ᵗ◌}
use Rattle.machine.specs.Answers.{StepSaid}

-- the codes of a text's characters
abbrev pub codes : String → List ℕ
codes []ᵗ = []
codes (c ∷ᵗ s) = code c ∷ codes s

-- the code of a digit
abbrev pub digit : ℕ → ℕ
digit d = 48 + d

-- A number's decimal digits, with no zero in front; n + 1 turns are enough for n.
unfoldable pub numeral_by : ℕ → ℕ → List ℕ
numeral_by zero n = []
numeral_by (suc turns) n = cond (ltb n 10) (digit n ∷ []) (numeral_by turns (n / 10) ++ (digit (n % 10) ∷ []))

unfoldable pub numeral : ℕ → List ℕ
numeral n = numeral_by (suc n) n

-- a refusal, of a step or of a program
unfoldable pub refused_words : ℕ → ℕ → List ℕ
refused_words n p = codes "refused " ++ numeral n ++ codes " " ++ numeral p

-- "An accepted step says one of seven things: start, new v, edge a b, release v, transfer v, job (number, offset), stop." "An accepted step may
-- then also say yield." (note 10) Of a job only the number is listed. The last is no accepted step's.
unfoldable pub answer_text : StepSaid → List ℕ
answer_text StepSaid.start = codes "start"
answer_text (StepSaid.new v) = codes "new " ++ numeral v
answer_text (StepSaid.edge a b) = codes "edge " ++ numeral a ++ codes " " ++ numeral b
answer_text (StepSaid.release v) = codes "release " ++ numeral v
answer_text (StepSaid.transfer v) = codes "transfer " ++ numeral v
answer_text (StepSaid.job n o) = codes "job " ++ numeral n
answer_text StepSaid.stop = codes "stop"
answer_text StepSaid.yield = codes "yield"
answer_text (StepSaid.refused n p) = refused_words n p

-- a step of the vertex v, and its line
unfoldable pub step_words : ℕ → StepSaid → List ℕ
step_words v a = numeral v ++ codes " " ++ answer_text a

abbrev pub step_text : ℕ → StepSaid → List ℕ
step_text v a = step_words v a ++ codes "\n"

-- the line of a refused program
abbrev pub refusal_text : ℕ → ℕ → List ℕ
refusal_text n p = refused_words n p ++ codes "\n"

-- the heading: vertices and steps in all, and jobs
unfoldable pub heading_words : ℕ → ℕ → ℕ → List ℕ
heading_words v w n = codes "vertices " ++ numeral v ++ codes " jobs " ++ numeral w ++ codes " steps " ++ numeral n

abbrev pub heading_text : ℕ → ℕ → ℕ → List ℕ
heading_text v w n = heading_words v w n ++ codes "\n"
