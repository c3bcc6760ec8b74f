-- The reader is exact: it accepts the encodings of the trees within all limits, each as its own tree, and nothing else.
use Prim.Native.Nat.{ℕ, suc}
use mathlib.Core.Path.{◌≡◌, sym, ap, ◌∙◌}
use mathlib.Core.List.{List, [], ◌++◌}
use mathlib.Core.Logic.{◌↔◌}
use native.Mathlib.Omega.{arith}
use Rattle.program.specs.declared.Edition.{Edition}
use Rattle.program.specs.Limits.{job_limit}
use Rattle.program.specs.Trees.{Body}
use Rattle.program.specs.Bytes.{encode, size}
use Rattle.program.specs.Reader.{took, body, program, whole, reading}
use Rattle.program.specs.Claims.{Fits, Loadable}
use Rattle.program.proofs.Completeness.{body_complete, all_open}
use Rattle.program.proofs.ReadingLaws.{reading_comes, reading_within, counted_loads, encode_positive, all_complete, loaded_sound}

-- What is accepted is the encoding of the tree that is answered, and that is within all limits.
pub reading_sound : (ed : Edition) (bytes : List ℕ) (b : Body) → reading ed bytes ≡ program b → (bytes ≡ encode b) × Loadable ed b
reading_sound ed bytes b e = loaded_sound ed bytes b (rw e at (reading_comes ed bytes))

-- The encoding of a tree within all limits is accepted, as that tree.
pub reading_complete : (ed : Edition) (b : Body) → Loadable ed b → reading ed (encode b) ≡ program b
unfolding size whole
reading_complete ed b h =
    reading_within ed (encode b) (encode_positive b, h.bytes) ∙ rw (all_complete b h.fits h.forced) (counted_loads ed b h.made)

-- Bytes are accepted exactly if they are the encoding of a tree within all limits.
pub reading_exact :
    (ed : Edition) (bytes : List ℕ) → ((b : Body) × (reading ed bytes ≡ program b)) ↔ ((b : Body) × Loadable ed b × (bytes ≡ encode b))
reading_exact ed bytes = (
  λ (b, e). let (p, q) = reading_sound ed bytes b e in (b, q, p),
  λ (b, h, e). (b, ap (reading ed) e ∙ reading_complete ed b h),
)

-- No bytes begin with the encodings of two trees,
pub begins_unique :
    (b c : Body) (rest rest' : List ℕ) → Fits b → Fits c → encode b ++ rest ≡ encode c ++ rest' → b ≡ c
begins_unique b c rest rest' p q e =
    let h : took b rest ≡ took c rest' = sym (back b rest p) ∙ ap (body 1 (suc job_limit)) e ∙ back c rest' q in
    cc
  where
    -- where every force has its future
    back : (b : Body) (rest : List ℕ) → Fits b → body 1 (suc job_limit) (encode b ++ rest) ≡ took b rest
    back b rest f =
        let l = f.levels in
        body_complete 1 (suc job_limit) b rest f.numbers (omega arith) (all_open (suc job_limit) b f.numbers (omega arith))

-- and no two trees have the same encoding.
pub encode_unique : (b c : Body) → Fits b → Fits c → encode b ≡ encode c → b ≡ c
encode_unique b c p q e = begins_unique b c [] [] p q (ap (λ xs. xs ++ []) e)
