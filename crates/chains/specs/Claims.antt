-- The words in which the theorems of the crate are stated (proofs/Theorems.antt).
use Rattle.std.specs.Prelude.{ℕ, ◌<◌, ◌≤◌, ◌≡◌, ◌⊎◌, Bool, List, [], ◌∷◌, length}
use Rattle.refusal.specs.Refusals.{unsound_tables, no_such_vertex, no_chain, list_too_short}
use Rattle.graph.specs.Tables.{Lent}
use Rattle.graph.specs.Demand2.{Reasons, no_more, refused_where, Unsound}
use Rattle.chains.specs.Chains.{Chain, held_edge}

-- Of two lists of one length the first does not stand after the second "in vertex numbers": they are compared word by word, from the
-- first on.
pub data NotAfter : List ℕ → List ℕ → Type 0 where
  both_end : NotAfter [] []
  lower : {x y : ℕ} {l l' : List ℕ} → x < y → NotAfter (x ∷ l) (y ∷ l')
  same : {x : ℕ} {l l' : List ℕ} → NotAfter l l' → NotAfter (x ∷ l) (x ∷ l')

-- "No shorter chain exists, and of equal ones it is the first in vertex numbers."
pub record FirstShortest (E : ℕ → ℕ → Bool) (a b : ℕ) (l : List ℕ) : Type 0 where
  pub is_chain : Chain E a b l
  pub none_shorter : (l' : List ℕ) → Chain E a b l' → length l ≤ length l'
  pub none_before : (l' : List ℕ) → Chain E a b l' → length l' ≡ length l → NotAfter l l'

-- no chain of held edges leads from a to b
abbrev pub NoChain : Lent → ℕ → ℕ → Type 0
NoChain s a b = (l : List ℕ) → Chain (held_edge s) a b l → ⊥

-- each has more vertices than there are words
abbrev pub AllLonger : Lent → ℕ → ℕ → ℕ → Type 0
AllLonger s a b words = (l : List ℕ) → Chain (held_edge s) a b l → words < length l

-- "Turned away: 41 no chain, after 12 and 20; 42 list too short, after 41."
abbrev pub chain_reasons : Lent → ℕ → ℕ → ℕ → Reasons
chain_reasons s t1 t2 words =
    refused_where (Unsound s) unsound_tables
    (refused_where ((s.made ≤ t1) ⊎ (s.made ≤ t2)) no_such_vertex
    (refused_where (NoChain s t2 t1) no_chain
    (refused_where (AllLonger s t2 t1 words) list_too_short no_more)))
