-- Edges, and paths of one or more of them.
use Rattle.std.specs.Prelude.{ℕ, zero, suc, ◌≡◌, Bool, true, false, List, eqb}
use Rattle.graph.specs.Tests.{both, either, any, how_many}
use Rattle.graph.specs.Tables.{source, target}

-- A path of one or more edges of the set E.
pub data Leads (E : ℕ → ℕ → Bool) : ℕ → ℕ → Type 0 where
  one : {a b : ℕ} → E a b ≡ true → Leads E a b
  more : {a b c : ℕ} → E a b ≡ true → Leads E b c → Leads E a c

-- "Never cyclic": no path closes.
abbrev pub CycleFree : (ℕ → ℕ → Bool) → Type 0
CycleFree E = (x : ℕ) → Leads E x x → ⊥

-- the first n rows of e hold the edge from a to b
unfoldable pub holds : List ℕ → ℕ → ℕ → ℕ → Bool
holds e n a b = any (λ i. both (eqb (source e i) a) (eqb (target e i) b)) n

-- an edge of the first n rows leads into t
unfoldable pub leads_into : List ℕ → ℕ → ℕ → Bool
leads_into e n t = any (λ i. eqb (target e i) t) n

-- so many edges of the first n rows lead into t
unfoldable pub edges_into : List ℕ → ℕ → ℕ → ℕ
edges_into e n t = how_many (λ i. eqb (target e i) t) n

-- an edge of the first n rows leads out of t
unfoldable pub leads_out_of : List ℕ → ℕ → ℕ → Bool
leads_out_of e n t = any (λ i. eqb (source e i) t) n

-- A path of held edges leads from a to b: `reaches_decides` in proofs/PathLaws.antt shows that this is so exactly if there is
-- a path, `Leads`, on any tables.
-- Over n + 1 edges a path does without the last of them, or it gets to that one's source and on from its target.
unfoldable pub reaches : List ℕ → ℕ → ℕ → ℕ → Bool
reaches e zero a b = false
reaches e (suc n) a b =
    either (reaches e n a b)
    (both (either (eqb a (source e n)) (reaches e n a (source e n)))
    (either (eqb (target e n) b) (reaches e n (target e n) b)))
