-- What the private functions of the walk promise one another. This serves the proof of the code, and nobody has to believe it.
--
-- The search has marked vertices with their distances to the vertex `to`. One pass over the held edges finds for each vertex the lowest
-- of the vertices to which an edge leads from it and which are one edge nearer; the chain is written by going from each vertex to that one.
use Rattle.std.specs.Prelude.{ℕ, zero, suc, ◌≤◌, ◌<◌, ◌≡◌, Bool, true, cond, List, [], ◌∷◌, length, get_or, replicate, eqb, ltb}
use Rattle.graph.specs.Tests.{both}
use Rattle.graph.specs.Paths.{holds}
use Rattle.graph.specs.Internal.Search.{search_limit}

-- by the marks m, x is one edge nearer to `to` than a is
unfoldable pub is_nearer : List ℕ → ℕ → ℕ → ℕ → Bool
is_nearer m to a x = cond (eqb x to) (eqb (get_or m a 0) 1) (both (ltb 0 (get_or m x 0)) (eqb (get_or m a 0) (suc (get_or m x 0))))

-- an array in which no vertex is found yet
abbrev pub none_nearer : List ℕ
none_nearer = replicate search_limit search_limit

-- `near` has for each vertex the lowest vertex one edge nearer to which one of the first n rows leads, and the search limit where there
-- is none
pub record Nearest (e : List ℕ) (n to : ℕ) (m near : List ℕ) : Type 0 where
  pub long : length near ≡ search_limit
  pub found : (a : ℕ) → get_or near a 0 < search_limit → a < search_limit → (holds e n a (get_or near a 0) ≡ true) × (is_nearer m to a (get_or near a 0) ≡ true)
  pub lowest : (a x : ℕ) → holds e n a x ≡ true → is_nearer m to a x ≡ true → get_or near a 0 ≤ x

-- the vertices from a on, k times on to the nearer one
unfoldable pub walk : List ℕ → ℕ → ℕ → List ℕ
walk near zero a = a ∷ []
walk near (suc k) a = a ∷ walk near k (get_or near a 0)

-- each of them but the last is a vertex of a search
unfoldable pub Walkable : List ℕ → ℕ → ℕ → Type 0
Walkable near zero a = Unit {0}
Walkable near (suc k) a = (a < search_limit) × Walkable near k (get_or near a 0)
