-- What reading a whole program comes to: one law for each path through `read` and `at_end`.
use Prim.Native.Nat.{ℕ, ◌+◌, ◌-◌, ◌<◌, ◌≤◌}
use mathlib.Core.Path.{◌≡◌, refl, sym, ap, ap₂, ◌∙◌, subst}
use mathlib.Core.Bool.{Bool, true, false, cond}
use mathlib.Core.List.{List, [], ◌∷◌}
use native.Mathlib.Nat.{zero-add, sub-zero}
use native.Mathlib.Omega.{arith}
use lib.Dec.{leb}
use lib.ListN.{length}
use borrow.Author.Tests.{lt-ltb, le-ltb, le-leb, lt-leb}
use Rattle.program.specs.declared.Edition.{Edition}
use Rattle.program.specs.declared.Reader.{Reader}
use Rattle.program.specs.Limits.{program_bytes, vertex_limit}
use Rattle.program.specs.Trees.{Body, Counts, counts}
use Rattle.program.specs.Encodings.{vertex_formula}
use Rattle.refusal.specs.Refusals.{bytes_after_end, length_outside, too_many_vertices}
use Rattle.program.specs.Reader.{Read, took, refused, body, program, refusal, counted, whole, reading}
use Rattle.program.specs.Answers.{ProgramSaid, loads, told, item_counts, reader_at}
use Rattle.program.specs.Internal.Progress.{plus, Progress, past, stopped, progress, finished, Ready}
use Rattle.program.proofs.Formulas.{vertices_formula}
use Rattle.program.proofs.ReadingLaws.{Within, Outside, reading_outside, reading_within}

-- bytes are left behind the main body's end
pub bytes_left :
    (ed : Edition) (len place : ℕ) (c : Counts) → place < len → ProgramSaid.refused bytes_after_end place ≡ finished ed len place c
unfolding finished
bytes_left ed len place c lt = rw (lt-ltb place len lt) refl

-- none are, and there are too many vertices
pub vertices_over :
    (ed : Edition) (len place : ℕ) (c : Counts) → len ≤ place → vertex_limit < vertex_formula ed c
    → ProgramSaid.refused too_many_vertices 0 ≡ finished ed len place c
unfolding finished
vertices_over ed len place c le over = rw (le-ltb place len le, lt-leb (vertex_formula ed c) vertex_limit over) refl

-- none are, and there are not
pub all_read : (ed : Edition) (len place : ℕ) (c : Counts) → len ≤ place → vertex_formula ed c ≤ vertex_limit → loads c ≡ finished ed len place c
unfolding finished
all_read ed len place c le few = rw (le-ltb place len le, le-leb (vertex_formula ed c) vertex_limit few) refl

-- there are no bytes, or too many
pub read_outside : (ed : Edition) (xs : List ℕ) → Outside xs → ProgramSaid.refused length_outside 0 ≡ told (reading ed xs)
unfolding told
read_outside ed xs out = sym (ap told (reading_outside ed xs out))

-- what was counted before the first item
abbrev none_seen : Counts
none_seen = record { w = 0; a = 0; f = 0; k = 0; u = 0; x = 0 }

plus_none : (c : Counts) → plus none_seen c ≡ c
unfolding plus
plus_none c = rw (zero-add c.w, zero-add c.a, zero-add c.f, zero-add c.k, zero-add c.u, zero-add c.x) refl

-- the main body ends with the program
counted_said : (ed : Edition) (len : ℕ) (b : Body) → finished ed len len (counts b) ≡ told (counted ed b)
unfolding finished counted told
counted_said ed len b = rw (le-ltb len len (omega arith), vertices_formula ed b) (go (leb (vertex_formula ed (counts b)) vertex_limit))
  where
    go : (t : Bool) → cond t (loads (counts b)) (ProgramSaid.refused too_many_vertices 0) ≡ told (cond t (program b) (refusal too_many_vertices 0))
    go true = refl
    go false = refl

-- a reader behind the main body, or its refusal
abbrev pub concluded : Edition → ℕ → Progress → ProgramSaid
concluded ed len (past p c) = finished ed len p c
concluded ed len (stopped n p) = ProgramSaid.refused n p

body_said : (ed : Edition) (len : ℕ) (r : Read Body) → 0 < len → concluded ed len (progress counts len none_seen r) ≡ told (whole ed len r)
unfolding progress whole told
body_said ed len (took b []) some =
    ap₂ (λ (o : ℕ) (d : Counts). finished ed len o d) (sub-zero len) (plus_none (counts b)) ∙ counted_said ed len b
body_said ed len (took b (x ∷ left)) some = sym (bytes_left ed len (len - length (x ∷ left)) (plus none_seen (counts b)) (omega arith))
body_said ed len (refused n left) some = refl

-- a reader at the first byte is ready
pub start_ready : (r : Reader) (xs : List ℕ) → r ≡ reader_at 0 → length xs ≤ program_bytes → Ready r xs
start_ready r xs is few =
    subst (λ (r : Reader). Ready r xs) (sym is)
    (record {
      within = omega arith;
      jobs = omega arith;
      asyncs = omega arith;
      finishes = omega arith;
      forks = omega arith;
      futures = omega arith;
      forces = omega arith;
    })

-- the program comes to what its main body does
pub main_said :
    (ed : Edition) (r : Reader) (xs : List ℕ) (g : Progress) → r ≡ reader_at 0 → Within xs
    → g ≡ progress counts (r.place + length xs) (item_counts r.seen) (body 1 0 xs) → concluded ed (length xs) g ≡ told (reading ed xs)
main_said ed r xs g start within is =
    ap (concluded ed (length xs))
    (is
    ∙ ap (λ (r : Reader). progress counts (r.place + length xs) (item_counts r.seen) (body 1 0 xs)) start
    ∙ ap (λ (m : ℕ). progress counts m none_seen (body 1 0 xs)) (zero-add (length xs)))
    ∙ body_said ed (length xs) (body 1 0 xs) within.0
    ∙ ap told (sym (reading_within ed xs within))
