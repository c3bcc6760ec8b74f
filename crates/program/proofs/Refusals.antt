-- The refusals of a program's writer say what docs/ENGINE.md says of them. A refusal names bytes that run out exactly if the program is a
-- proper prefix of an encoding or ends inside a force's number, bytes after the end exactly if a proper prefix of it is one, and 2, 3, 4, 7
-- and 43 blame, exactly, the first bytes with which it can no longer be completed and does not end inside a force's number.
use Prim.Native.Nat.{ℕ, ◌<◌, ◌≤◌}
use mathlib.Core.Path.{◌≡◌, refl, sym, ap, ◌∙◌}
use mathlib.Core.List.{List}
use mathlib.Core.Logic.{◌⊎◌, ◌↔◌}
use native.Mathlib.Nat.{sub-zero}
use lib.ListN.{length}
use Rattle.program.specs.declared.Edition.{Edition}
use Rattle.program.specs.declared.Edition.TheVariants.{First}
use Rattle.program.specs.Limits.{program_bytes}
use Rattle.refusal.specs.Refusals.{length_outside, bytes_run_out, bytes_after_end, too_many_vertices}
use Rattle.program.specs.Reader.{refusal, whole, reading}
use Rattle.program.specs.Claims.{Unfinished, Overlong, Crowded, ByPlace, Blamed}
use Rattle.program.proofs.ReadingLaws.{reading_comes, reading_outside, reading_within}
use Rattle.program.proofs.RefusalLaws.{out_comes, prefix_out, after_comes, overlong_after, blamed_comes, blamed_reads, outside_comes}
use Rattle.program.proofs.RefusalLaws.{crowded_comes, crowded_reads}

-- "1": exactly where a program has no bytes, or more than the limit; it has no place.
pub outside_exactly : (ed : Edition) (bytes : List ℕ) (p : ℕ)
    → (reading ed bytes ≡ refusal length_outside p) ↔ (((length bytes ≡ 0) ⊎ (program_bytes < length bytes)) × (p ≡ 0))
outside_exactly ed bytes p = (
  λ e. outside_comes ed bytes length_outside p refl (rw e at (reading_comes ed bytes)),
  λ (o, q). reading_outside ed bytes o ∙ ap (refusal length_outside) (sym q),
)

-- "5 bytes run out": exactly where the program is a proper prefix of an encoding or ends inside a force's number, and at its end.
pub run_out : (ed : Edition) (bytes : List ℕ) (p : ℕ) → 0 < length bytes → length bytes ≤ program_bytes
    → (reading ed bytes ≡ refusal bytes_run_out p) ↔ (Unfinished bytes × (p ≡ length bytes))
unfolding whole
run_out ed bytes p l m = (
  λ e. out_comes ed bytes bytes_run_out p refl (rw e at (reading_comes ed bytes)),
  λ (u, q). reading_within ed bytes (l, m) ∙ rw (prefix_out bytes u) (ap (refusal bytes_run_out) (sub-zero (length bytes) ∙ sym q)),
)

-- "6 bytes after the end": exactly where a proper prefix of the program is an encoding, and at the end of that.
pub after_end : (ed : Edition) (bytes : List ℕ) (p : ℕ) → 0 < length bytes → length bytes ≤ program_bytes
    → (reading ed bytes ≡ refusal bytes_after_end p) ↔ Overlong bytes p
after_end ed bytes p l m = (
  λ e. after_comes ed bytes bytes_after_end p refl (rw e at (reading_comes ed bytes)),
  λ o. overlong_after ed bytes p (l, m) o,
)

-- 2, 3, 4, 7 and 43 at p: exactly where the bytes before p lead to an item that offends at p as the number says. They can be completed to an
-- encoding, or end inside a force's number, and together with the bytes that offend they cannot, and do not.
pub blame : (ed : Edition) (bytes : List ℕ) (n p : ℕ) → 0 < length bytes → length bytes ≤ program_bytes → ByPlace n
    → (reading ed bytes ≡ refusal n p) ↔ Blamed bytes n p
blame ed bytes n p l m h = (
  λ e. blamed_comes ed bytes n p h (rw e at (reading_comes ed bytes)),
  λ b. blamed_reads ed bytes n p (l, m) b,
)

-- So bytes, which are the same in either edition, are blamed once at most.
pub blame_unique : (bytes : List ℕ) (n p n' p' : ℕ) → 0 < length bytes → length bytes ≤ program_bytes → Blamed bytes n p
    → Blamed bytes n' p' → (n ≡ n') × (p ≡ p')
blame_unique bytes n p n' p' l m b c =
    let e : refusal n p ≡ refusal n' p' = sym (blamed_reads First bytes n p (l, m) b) ∙ blamed_reads First bytes n' p' (l, m) c in
    (cc, cc)

-- "8 V above 1,024": exactly where the program is the encoding of a tree that makes too many vertices; it has no place.
pub crowded_exactly : (ed : Edition) (bytes : List ℕ) (p : ℕ) → 0 < length bytes → length bytes ≤ program_bytes
    → (reading ed bytes ≡ refusal too_many_vertices p) ↔ (Crowded ed bytes × (p ≡ 0))
crowded_exactly ed bytes p l m = (
  λ e. crowded_comes ed bytes too_many_vertices p refl (rw e at (reading_comes ed bytes)),
  λ (c, q). crowded_reads ed bytes (l, m) c ∙ ap (refusal too_many_vertices) (sym q),
)
