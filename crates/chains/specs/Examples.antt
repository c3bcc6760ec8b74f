-- Calls and what they come to, each on six made vertices and the edges that it lists, in the order of their rows. They are evaluated in
-- proofs/Examples.antt.
use Rattle.std.specs.Prelude.{ℕ, zero, suc, ◌-◌, List, [], ◌∷◌, ◌++◌, length, replicate}
use Rattle.refusal.specs.Refusals.{unsound_tables, no_such_vertex, no_chain, list_too_short}
use Rattle.graph.specs.Tables.{Lent, RELEASED, vertex_words}
use Rattle.chains.specs.Showing.{ChainSaid, vertices, chain_refused, ChainOutcome, show_chain}

-- the rows of edges, of so many released vertices, and both
abbrev pub edges_of : List (ℕ × ℕ) → List ℕ
edges_of [] = []
edges_of (e ∷ es) = e.0 ∷ e.1 ∷ edges_of es

abbrev pub released : ℕ → List ℕ
released zero = []
released (suc n) = RELEASED ∷ (replicate (vertex_words - 1) 0 ++ released n)

abbrev pub tables : List (ℕ × ℕ) → Lent
tables edges = record { vertices = released 6; edges = edges_of edges; made = 6; held = length edges; steps = 0 }

-- a call: the edges, the source, the target and the list; what it says, and the list afterwards
pub data Call : Type 0 where
  call : List (ℕ × ℕ) → ℕ → ℕ → List ℕ → ChainSaid → List ℕ → Call

abbrev pub comes_to : Call → ChainOutcome
comes_to (call edges source target list says left) = show_chain (tables edges) source target list

abbrev pub expected : Call → ChainOutcome
expected (call edges source target list says left) = record { answer = says; list = left }

-- two chains from 0 to 5, as long: 0 1 4 5 and 0 2 3 5
abbrev pub two_ways : List (ℕ × ℕ)
two_ways = (2, 3) ∷ (0, 2) ∷ (3, 5) ∷ (4, 5) ∷ (0, 1) ∷ (1, 4) ∷ []

-- two that differ at the last vertex but one: 0 3 2 5 and 0 3 1 5
abbrev pub late_ways : List (ℕ × ℕ)
late_ways = (0, 3) ∷ (3, 2) ∷ (2, 5) ∷ (3, 1) ∷ (1, 5) ∷ []

-- the shorter has the higher numbers: 0 4 5, and 0 1 2 5
abbrev pub higher : List (ℕ × ℕ)
higher = (0, 1) ∷ (1, 2) ∷ (2, 5) ∷ (0, 4) ∷ (4, 5) ∷ []

-- edges of cyclic tables: 3 to itself, and 1 to 2 and back
abbrev pub cycles : List (ℕ × ℕ)
cycles = (3, 3) ∷ (1, 2) ∷ (2, 1) ∷ []

abbrev pub calls : List Call
calls =
    call two_ways 5 0 (9 ∷ 9 ∷ 9 ∷ 9 ∷ []) (vertices 4) (0 ∷ 1 ∷ 4 ∷ 5 ∷ [])
    ∷ call late_ways 5 0 (9 ∷ 9 ∷ 9 ∷ 9 ∷ 8 ∷ 7 ∷ []) (vertices 4) (0 ∷ 3 ∷ 1 ∷ 5 ∷ 8 ∷ 7 ∷ [])
    ∷ call higher 5 0 (9 ∷ 9 ∷ 9 ∷ 9 ∷ []) (vertices 3) (0 ∷ 4 ∷ 5 ∷ 9 ∷ [])
    ∷ call higher 5 0 (9 ∷ 9 ∷ []) (chain_refused list_too_short 0) (9 ∷ 9 ∷ [])
    ∷ call higher 0 5 (9 ∷ 9 ∷ []) (chain_refused no_chain 0) (9 ∷ 9 ∷ [])
    ∷ call cycles 3 3 (9 ∷ 9 ∷ []) (vertices 1) (3 ∷ 9 ∷ [])
    ∷ call cycles 1 1 [] (chain_refused list_too_short 0) []
    ∷ call cycles 2 1 (9 ∷ 9 ∷ []) (vertices 2) (1 ∷ 2 ∷ [])
    ∷ call cycles 3 1 [] (chain_refused no_chain 0) []
    ∷ call cycles 6 0 [] (chain_refused no_such_vertex 0) []
    ∷ call cycles 0 6 [] (chain_refused no_such_vertex 0) []
    ∷ call ((0, 6) ∷ []) 6 0 [] (chain_refused unsound_tables 0) []
    ∷ []
