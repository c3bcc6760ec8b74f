-- The theorems of reading, each as the statement that a function of src/laws.rt promises. docs/PROVED.md says what they come to.
use Rattle.std.specs.Prelude.{◌≡◌, ℕ, ◌<◌, ◌≤◌, ◌⊎◌, ◌↔◌, List, length}
use Rattle.refusal.specs.Refusals.{length_outside, bytes_run_out, bytes_after_end, too_many_vertices}
use Rattle.program.specs.declared.Edition.{Edition}
use Rattle.program.specs.Limits.{program_bytes}
use Rattle.program.specs.Trees.{Body, counts}
use Rattle.program.specs.Bytes.{encode}
use Rattle.program.specs.Encodings.{vertices_made, edge_rows_needed, steps_taken, vertex_formula, edge_row_formula, step_formula}
use Rattle.program.specs.Reader.{program, refusal, reading}
use Rattle.program.specs.Claims.{Fits, Loadable, Unfinished, Overlong, Crowded, ByPlace, Blamed}

-- bytes are accepted exactly if they are the encoding of a tree within all limits
abbrev pub ReadingExact : Type 0
ReadingExact =
    (ed : Edition) (bytes : List ℕ)
    → ((b : Body) × (reading ed bytes ≡ program b)) ↔ ((b : Body) × Loadable ed b × (bytes ≡ encode b))

-- what is accepted is the encoding of the tree that is answered, and that is within all limits
abbrev pub ReadingSound : Type 0
ReadingSound =
    (ed : Edition) (bytes : List ℕ) (b : Body)
    → reading ed bytes ≡ program b
    → (bytes ≡ encode b) × Loadable ed b

-- no two trees have the same encoding
abbrev pub EncodeUnique : Type 0
EncodeUnique =
    (b c : Body)
    → Fits b
    → Fits c
    → encode b ≡ encode c
    → b ≡ c

-- 1: exactly where a program has no bytes, or more than the limit
abbrev pub OutsideExactly : Type 0
OutsideExactly =
    (ed : Edition) (bytes : List ℕ) (p : ℕ)
    → (reading ed bytes ≡ refusal length_outside p) ↔ (((length bytes ≡ 0) ⊎ (program_bytes < length bytes)) × (p ≡ 0))

-- 5: exactly where the program is a proper prefix of an encoding or ends inside a force's number, and at its end
abbrev pub RunOutExactly : Type 0
RunOutExactly =
    (ed : Edition) (bytes : List ℕ) (p : ℕ)
    → 0 < length bytes
    → length bytes ≤ program_bytes
    → (reading ed bytes ≡ refusal bytes_run_out p) ↔ (Unfinished bytes × (p ≡ length bytes))

-- 6: exactly where a proper prefix of the program is an encoding, and at the end of that
abbrev pub AfterEndExactly : Type 0
AfterEndExactly =
    (ed : Edition) (bytes : List ℕ) (p : ℕ)
    → 0 < length bytes
    → length bytes ≤ program_bytes
    → (reading ed bytes ≡ refusal bytes_after_end p) ↔ Overlong bytes p

-- 2, 3, 4, 7 and 43 at p: exactly where the bytes before p lead to an item that offends there as the number says
abbrev pub BlameExactly : Type 0
BlameExactly =
    (ed : Edition) (bytes : List ℕ) (n p : ℕ)
    → 0 < length bytes
    → length bytes ≤ program_bytes
    → ByPlace n
    → (reading ed bytes ≡ refusal n p) ↔ Blamed bytes n p

-- bytes are blamed once at most
abbrev pub BlameUnique : Type 0
BlameUnique =
    (bytes : List ℕ) (n p n' p' : ℕ)
    → 0 < length bytes
    → length bytes ≤ program_bytes
    → Blamed bytes n p
    → Blamed bytes n' p'
    → (n ≡ n') × (p ≡ p')

-- 8: exactly where the program is the encoding of a tree that makes too many vertices
abbrev pub CrowdedExactly : Type 0
CrowdedExactly =
    (ed : Edition) (bytes : List ℕ) (p : ℕ)
    → 0 < length bytes
    → length bytes ≤ program_bytes
    → (reading ed bytes ≡ refusal too_many_vertices p) ↔ (Crowded ed bytes × (p ≡ 0))

-- vertices
abbrev pub VerticesFormula : Type 0
VerticesFormula =
    (ed : Edition) (b : Body)
    → vertices_made ed b ≡ vertex_formula ed (counts b)

-- edge rows
abbrev pub EdgeRowsFormula : Type 0
EdgeRowsFormula =
    (ed : Edition) (b : Body)
    → edge_rows_needed ed b ≡ edge_row_formula (counts b)

-- steps
abbrev pub StepsFormula : Type 0
StepsFormula =
    (ed : Edition) (b : Body)
    → steps_taken ed b ≡ step_formula ed (counts b)
