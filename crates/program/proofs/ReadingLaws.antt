-- Reading a whole program, by what its main body comes to.
use Prim.Native.Nat.{ℕ, ◌-◌, ◌<◌, ◌≤◌}
use mathlib.Core.Path.{◌≡◌, refl, sym, ap, ◌∙◌}
use mathlib.Core.Bool.{Bool, true, false, cond}
use mathlib.Core.List.{List, [], ◌∷◌, ◌++◌, append-nil}
use mathlib.Core.Logic.{◌⊎◌, inl, inr}
use native.Mathlib.Omega.{arith}
use lib.Dec.{eqb, leb}
use lib.ListN.{length}
use borrow.Author.Tests.{eqb-true, eqb-false, ne_eqb, eq-eqb, leb-true, leb-false, le-leb, lt-leb}
use Rattle.program.specs.declared.Edition.{Edition}
use Rattle.program.specs.Limits.{program_bytes, vertex_limit}
use Rattle.program.specs.Trees.{Body, end, job, async, finish, fork, future, force, HasFutures}
use Rattle.program.specs.Bytes.{encode, size}
use Rattle.program.specs.Encodings.{vertices_made}
use Rattle.refusal.specs.Refusals.{length_outside, bytes_after_end, too_many_vertices}
use Rattle.program.specs.Reader.{Read, took, refused, body, Reading, program, refusal, counted, whole, reading}
use Rattle.program.specs.Claims.{Fits, Loadable}
use Rattle.program.proofs.Soundness.{body_sound, body_fits}
use Rattle.program.proofs.Completeness.{body_complete}

-- a program's length
abbrev pub Within : List ℕ → Type 0
Within bytes = (0 < length bytes) × (length bytes ≤ program_bytes)

abbrev pub Outside : List ℕ → Type 0
Outside bytes = (length bytes ≡ 0) ⊎ (program_bytes < length bytes)

-- What reading a whole program comes to, and why.
pub data Comes (ed : Edition) (bytes : List ℕ) : Reading → Type 0 where
  outside : Outside bytes → Comes ed bytes (refusal length_outside 0)
  stopped : (n : ℕ) (left : List ℕ) → Within bytes → body 1 0 bytes ≡ refused n left → Comes ed bytes (refusal n (length bytes - length left))
  overran :
      (b : Body) (x : ℕ) (left : List ℕ) → Within bytes → body 1 0 bytes ≡ took b (x ∷ left)
      → Comes ed bytes (refusal bytes_after_end (length bytes - length (x ∷ left)))
  crowds :
      (b : Body) → Within bytes → body 1 0 bytes ≡ took b [] → vertex_limit < vertices_made ed b
      → Comes ed bytes (refusal too_many_vertices 0)
  loaded : (b : Body) → Within bytes → body 1 0 bytes ≡ took b [] → vertices_made ed b ≤ vertex_limit → Comes ed bytes (program b)

-- a length outside is refused
pub reading_outside : (ed : Edition) (bytes : List ℕ) → Outside bytes → reading ed bytes ≡ refusal length_outside 0
unfolding reading
reading_outside ed bytes (inl e) = rw (eq-eqb (length bytes) 0 e) refl
reading_outside ed bytes (inr l) =
    let ne : length bytes ≡ 0 → ⊥ = omega arith in
    rw (ne_eqb (length bytes) 0 ne, lt-leb (length bytes) program_bytes l) refl

-- within, it is up to the main body
pub reading_within : (ed : Edition) (bytes : List ℕ) → Within bytes → reading ed bytes ≡ whole ed (length bytes) (body 1 0 bytes)
unfolding reading
reading_within ed bytes (p, q) =
    let ne : length bytes ≡ 0 → ⊥ = omega arith in
    rw (ne_eqb (length bytes) 0 ne, le-leb (length bytes) program_bytes q) refl

counted_comes : (ed : Edition) (bytes : List ℕ) → Within bytes → (b : Body) → body 1 0 bytes ≡ took b [] → Comes ed bytes (counted ed b)
unfolding counted
counted_comes ed bytes w b e = go (leb (vertices_made ed b) vertex_limit) refl
  where
    go : (t : Bool) → leb (vertices_made ed b) vertex_limit ≡ t → Comes ed bytes (cond t (program b) (refusal too_many_vertices 0))
    go true h = loaded b w e (leb-true (vertices_made ed b) vertex_limit h)
    go false h = crowds b w e (leb-false (vertices_made ed b) vertex_limit h)

main_comes : (ed : Edition) (bytes : List ℕ) → Within bytes → (o : Read Body) → body 1 0 bytes ≡ o → Comes ed bytes (whole ed (length bytes) o)
unfolding whole
main_comes ed bytes w (took b []) e = counted_comes ed bytes w b e
main_comes ed bytes w (took b (x ∷ left)) e = overran b x left w e
main_comes ed bytes w (refused n left) e = stopped n left w e

pub reading_comes : (ed : Edition) (bytes : List ℕ) → Comes ed bytes (reading ed bytes)
reading_comes ed bytes = first (eqb (length bytes) 0) refl
  where
    second : 0 < length bytes → (t : Bool) → leb (length bytes) program_bytes ≡ t → Comes ed bytes (reading ed bytes)
    second p true h =
        let w : Within bytes = (p, leb-true (length bytes) program_bytes h) in
        rw (reading_within ed bytes w) (main_comes ed bytes w (body 1 0 bytes) refl)
    second p false h =
        let o : Outside bytes = inr (leb-false (length bytes) program_bytes h) in
        rw (reading_outside ed bytes o) (outside o)

    first : (t : Bool) → eqb (length bytes) 0 ≡ t → Comes ed bytes (reading ed bytes)
    first true h =
        let o : Outside bytes = inl (eqb-true (length bytes) 0 h) in
        rw (reading_outside ed bytes o) (outside o)
    first false h =
        let ne = eqb-false (length bytes) 0 h in
        second (omega arith) (leb (length bytes) program_bytes) refl

-- the end of a main body that takes all bytes
pub counted_loads : (ed : Edition) (b : Body) → vertices_made ed b ≤ vertex_limit → counted ed b ≡ program b
unfolding counted
counted_loads ed b h = rw (le-leb (vertices_made ed b) vertex_limit h) refl

pub counted_crowded : (ed : Edition) (b : Body) → vertex_limit < vertices_made ed b → counted ed b ≡ refusal too_many_vertices 0
unfolding counted
counted_crowded ed b h = rw (lt-leb (vertices_made ed b) vertex_limit h) refl

-- a tree that fits, in which every force has its future, is read back from its bytes, whatever stands behind them
pub main_complete : (b : Body) (rest : List ℕ) → Fits b → HasFutures 0 b → body 1 0 (encode b ++ rest) ≡ took b rest
main_complete b rest f forced = let l = f.levels in body_complete 1 0 b rest f.numbers (omega arith) forced

-- and what is read from the start of bytes is such a tree, and stands there
pub main_sound : (bytes : List ℕ) (b : Body) (rest : List ℕ) → body 1 0 bytes ≡ took b rest
    → (bytes ≡ encode b ++ rest) × Fits b × HasFutures 0 b
main_sound bytes b rest e =
    let (p, q, f) = body_fits 1 0 bytes b rest e (omega arith) in
    (body_sound 1 0 bytes b rest e, record { numbers = p; levels = omega arith }, f)

-- an encoding has a byte at least
pub encode_positive : (b : Body) → 0 < length (encode b)
unfolding encode
encode_positive end = omega arith
encode_positive (job n r) = omega arith
encode_positive (async b r) = omega arith
encode_positive (finish b r) = omega arith
encode_positive (fork b c r) = omega arith
encode_positive (future b r) = omega arith
encode_positive (force n r) = omega arith

-- the same of bytes that the main body takes all,
pub all_sound : (bytes : List ℕ) (b : Body) → body 1 0 bytes ≡ took b [] → (bytes ≡ encode b) × Fits b × HasFutures 0 b
all_sound bytes b e = let (p, q, f) = main_sound bytes b [] e in (p ∙ append-nil (encode b), q, f)

-- and of all bytes of such a tree
pub all_complete : (b : Body) → Fits b → HasFutures 0 b → body 1 0 (encode b) ≡ took b []
all_complete b f forced = ap (body 1 0) (sym (append-nil (encode b))) ∙ main_complete b [] f forced

-- what is accepted
pub loaded_sound : (ed : Edition) (bytes : List ℕ) (b : Body) → Comes ed bytes (program b) → (bytes ≡ encode b) × Loadable ed b
unfolding size
loaded_sound ed bytes b (loaded _ w e v) =
    let (p, q, f) = all_sound bytes b e in
    let l : length bytes ≤ program_bytes = w.1 in
    (p, record { fits = q; forced = f; bytes = (rw p at l); made = v })
