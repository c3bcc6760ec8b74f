-- "write into a lent list the shortest chain of held edges that leads from target back to source, vertex by vertex"
use Rattle.std.specs.Prelude.{ℕ, zero, suc, ◌≡◌, Bool, true, List, [], ◌∷◌, eqb}
use Rattle.std.proofs.Math.Option.{Option, none, some, Option-elim}
use Rattle.graph.specs.Tests.{both, any, lowest_below}
use Rattle.graph.specs.Tables.{Lent}
use Rattle.graph.specs.Paths.{holds}

-- A chain from a to b: each of its vertices leads to the next by an edge of the set E. "A vertex alone is the chain from itself to
-- itself."
pub data Chain (E : ℕ → ℕ → Bool) : ℕ → ℕ → List ℕ → Type 0 where
  alone : {a : ℕ} → Chain E a a (a ∷ [])
  link : {a b c : ℕ} {l : List ℕ} → E a b ≡ true → Chain E b c l → Chain E a c (a ∷ l)

-- "held edges"
abbrev pub held_edge : Lent → ℕ → ℕ → Bool
held_edge s = holds s.edges s.held

-- d held edges lead from a to b, one behind the other
unfoldable pub leads_in : Lent → ℕ → ℕ → ℕ → Bool
leads_in s zero a b = eqb a b
leads_in s (suc d) a b = any (λ x. both (held_edge s a x) (leads_in s d x b)) s.made

-- "No shorter chain exists": the fewest edges that lead from a to b. They are fewer than the vertices, since the shortest chain has none
-- twice.
unfoldable pub distance : Lent → ℕ → ℕ → Option ℕ
distance s a b = lowest_below (λ d. leads_in s d a b) s.made

-- "of equal ones it is the first in vertex numbers": the lowest vertex to which an edge leads from a, and from which d edges lead to b
unfoldable pub next_vertex : Lent → ℕ → ℕ → ℕ → Option ℕ
next_vertex s d a b = lowest_below (λ x. both (held_edge s a x) (leads_in s d x b)) s.made

-- of the chains of d edges from a to b the first
unfoldable pub first_chain : Lent → ℕ → ℕ → ℕ → List ℕ
first_chain s zero a b = a ∷ []
first_chain s (suc d) a b = a ∷ Option-elim (next_vertex s d a b) [] (λ x. first_chain s d x b)

-- the first of as many edges as the distance says, if it says a number
unfoldable pub of_length : Option ℕ → Lent → ℕ → ℕ → Option (List ℕ)
of_length none s a b = none
of_length (some d) s a b = some (first_chain s d a b)

-- the shortest chain from a to b, and of these the first, if there is a chain
unfoldable pub shortest_chain : Lent → ℕ → ℕ → Option (List ℕ)
shortest_chain s a b = of_length (distance s a b) s a b
