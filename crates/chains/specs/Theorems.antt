-- The theorems of chains, each as the statement that a function of src/laws.rt promises. docs/PROVED.md says what they come to.
use Rattle.std.specs.Prelude.{map, ◌≡◌, true, ℕ, ◌<◌, ◌≤◌, ◌↔◌, Bool, List, ◌++◌, length, drop}
use Rattle.std.proofs.Math.Option.{none, some}
use Rattle.refusal.specs.Refusals.{closes_cycle, no_chain}
use Rattle.graph.specs.declared.Command.TheVariants.{NewEdge, Transfer}
use Rattle.graph.specs.Tables.{Lent}
use Rattle.graph.specs.Answers.{CommandSaid}
use Rattle.graph.specs.Sound.{sound}
use Rattle.graph.specs.Commands.{command}
use Rattle.graph.specs.Demand2.{RefusalDue, NoneDue, NoneBefore, reasons}
use Rattle.chains.specs.Chains.{held_edge, shortest_chain}
use Rattle.chains.specs.Showing.{vertices, chain_refused, show_chain}
use Rattle.chains.specs.Examples.{calls, comes_to, expected}
use Rattle.chains.specs.Claims.{FirstShortest, NoChain, chain_reasons}

-- the chain of the definition: none is shorter, and of those as long none is before it
abbrev pub ShortestChain : Type 0
ShortestChain =
    (s : Lent) (a b : ℕ) (l : List ℕ)
    → sound s ≡ true
    → shortest_chain s a b ≡ some l
    → FirstShortest (held_edge s) a b l

-- there is none exactly where no chain of held edges leads there
abbrev pub NoneExactly : Type 0
NoneExactly =
    (s : Lent) (a b : ℕ)
    → sound s ≡ true
    → a < s.made
    → (shortest_chain s a b ≡ none) ↔ NoChain s a b

-- no other chain is the first of the shortest
abbrev pub OnlyOne : Type 0
OnlyOne =
    (E : ℕ
    → ℕ
    → Bool) (a b : ℕ) (l l' : List ℕ)
    → FirstShortest E a b l
    → FirstShortest E a b l'
    → l ≡ l'

-- the call is refused with n at p: p is 0, and n is the number of the first reason that holds
abbrev pub ChainRefusedExactly : Type 0
ChainRefusedExactly =
    (s : Lent) (t1 t2 : ℕ) (list : List ℕ) (n p : ℕ)
    → ((show_chain s t1 t2 list).answer ≡ chain_refused n p) ↔ ((p ≡ 0) × RefusalDue n (chain_reasons s t1 t2 (length list)))

-- the call answers with a number of vertices: no refusal is due
abbrev pub ChainAcceptedExactly : Type 0
ChainAcceptedExactly =
    (s : Lent) (t1 t2 : ℕ) (list : List ℕ)
    → ((n : ℕ) × ((show_chain s t1 t2 list).answer ≡ vertices n)) ↔ NoneDue (chain_reasons s t1 t2 (length list))

-- then it has written the first of the shortest chains, and says how many vertices that has; words past it stay
abbrev pub ChainShown : Type 0
ChainShown =
    (s : Lent) (t1 t2 : ℕ) (list : List ℕ) (n : ℕ)
    → (show_chain s t1 t2 list).answer ≡ vertices n
    → (l : List ℕ) × FirstShortest (held_edge s) t2 t1 l × (n ≡ length l) × (length l ≤ length list) × ((show_chain s t1 t2 list).list ≡ l ++ drop (length l) list)

-- a refused call leaves the list as it was
abbrev pub RefusedKeepsList : Type 0
RefusedKeepsList =
    (s : Lent) (t1 t2 : ℕ) (list : List ℕ) (n p : ℕ)
    → (show_chain s t1 t2 list).answer ≡ chain_refused n p
    → (show_chain s t1 t2 list).list ≡ list

-- newEdge closes a cycle exactly if there is a chain from its target back to its source
abbrev pub NewEdgeShown : Type 0
NewEdgeShown =
    (s : Lent) (t t1 t2 : ℕ)
    → NoneBefore closes_cycle (reasons (NewEdge t t1 t2) s)
    → ((command (NewEdge t t1 t2) s).answer ≡ CommandSaid.refused closes_cycle 0) ↔ ((l : List ℕ) × (shortest_chain s t2 t1 ≡ some l))

-- so it is not turned away for that exactly where the call says that there is no chain
abbrev pub NewEdgePasses : Type 0
NewEdgePasses =
    (s : Lent) (t t1 t2 : ℕ)
    → NoneBefore closes_cycle (reasons (NewEdge t t1 t2) s)
    → (list : List ℕ)
    → ((command (NewEdge t t1 t2) s).answer ≡ CommandSaid.refused closes_cycle 0
    → ⊥) ↔ ((show_chain s t1 t2 list).answer ≡ chain_refused no_chain 0)

-- transfer closes a cycle exactly if there is a chain from t to t'
abbrev pub TransferShown : Type 0
TransferShown =
    (s : Lent) (t t' : ℕ)
    → NoneBefore closes_cycle (reasons (Transfer t t') s)
    → ((command (Transfer t t') s).answer ≡ CommandSaid.refused closes_cycle 0) ↔ ((l : List ℕ) × (shortest_chain s t t' ≡ some l))

-- so it is not turned away for that exactly where the call, asked from t' as the source and t as the target, says that there is no chain
abbrev pub TransferPasses : Type 0
TransferPasses =
    (s : Lent) (t t' : ℕ)
    → NoneBefore closes_cycle (reasons (Transfer t t') s)
    → (list : List ℕ)
    → ((command (Transfer t t') s).answer ≡ CommandSaid.refused closes_cycle 0
    → ⊥) ↔ ((show_chain s t' t list).answer ≡ chain_refused no_chain 0)

-- the calls of the table come to what it says
abbrev pub ExamplesComeTrue : Type 0
ExamplesComeTrue = map comes_to calls ≡ map expected calls
