-- The theorems of single commands, each as the statement that a function of src/laws.rt promises. docs/PROVED.md says what they come to.
use Rattle.std.specs.Prelude.{◌≡◌, true, false, ℕ, ◌<◌, ◌⊎◌, ◌↔◌, List}
use Rattle.refusal.specs.Refusals.{too_few_vertex_rows, edge_leads_in, closes_cycle}
use Rattle.graph.specs.declared.Command.{Command}
use Rattle.graph.specs.declared.Command.TheVariants.{NewEdge, Transfer, Start}
use Rattle.graph.specs.Tests.{both}
use Rattle.graph.specs.Tables.{Lent, NEW, RELEASED, EXECUTING, vertex_rows}
use Rattle.graph.specs.Answers.{CommandSaid, accepted, opening_refused}
use Rattle.graph.specs.Sound.{sound}
use Rattle.graph.specs.Paths.{Leads, CycleFree, holds, reaches}
use Rattle.graph.specs.Commands.{opening, command, start, target_reaches}
use Rattle.graph.specs.Rules.{Graph, Printed, Unguarded, out_of, resourced, ◌∖◌}
use Rattle.graph.specs.InCounts.{CountTrue, CountsTrue, ReadsTrue, Commanded, full_search}
use Rattle.graph.specs.Demand2.{graph, HasStatus, EdgeHeld, EdgeInto, SameBut, UsableOnly, VertexWordOf, EdgeWordOf, Effect, RowFree, NoneTwice, RefusalDue, NoneBefore, NewEdgeCycle, TransferCycle, reasons}

-- an opening is refused exactly where there is no usable vertex row
abbrev pub OpeningRefusedExactly : Type 0
OpeningRefusedExactly =
    (s : Lent) (n p : ℕ)
    → ((opening s).answer ≡ opening_refused n p) ↔ ((n ≡ too_few_vertex_rows) × (p ≡ 0) × (vertex_rows s.vertices ≡ 0))

-- and changes nothing then
abbrev pub RefusedOpeningKeeps : Type 0
RefusedOpeningKeeps =
    (s : Lent) (n p : ℕ)
    → (opening s).answer ≡ opening_refused n p
    → (opening s).after ≡ s

-- no word past the usable rows changes
abbrev pub OpeningUsableOnly : Type 0
OpeningUsableOnly =
    (s : Lent)
    → UsableOnly s (opening s).after

-- an accepted command changes vertices, statuses and edges by its rule, and no other word; of start, where the word that it reads is true
abbrev pub CommandEffect : Type 0
CommandEffect =
    (c : Command) (s : Lent)
    → ReadsTrue c s
    → accepted (command c s).answer ≡ true
    → Effect c s (command c s).after

-- on a graph without a cycle a command is accepted exactly where its rule has a step and any row that it needs is free
abbrev pub CommandAcceptance : Type 0
CommandAcceptance =
    (c : Command) (s : Lent)
    → sound s ≡ true
    → ReadsTrue c s
    → CycleFree (graph s).edge
    → (accepted (command c s).answer ≡ true) ↔ (((G' : Graph) × Printed c (graph s) G') × RowFree c s)

-- there the accepted command's step is the rule's
abbrev pub CommandByTheRule : Type 0
CommandByTheRule =
    (c : Command) (s : Lent)
    → ReadsTrue c s
    → CycleFree (graph s).edge
    → accepted (command c s).answer ≡ true
    → Printed c (graph s) (graph (command c s).after)

-- of the plain union in a transfer's rule the two sets are disjoint, also without the premise "E' cycle-free"
abbrev pub TransferDisjoint : Type 0
TransferDisjoint =
    (G : Graph) (t t' : ℕ) (G' : Graph)
    → Unguarded (Transfer t t') G G'
    → (a b : ℕ)
    → both ((G.edge ∖ out_of G t) a b) (resourced G t t' a b) ≡ false

-- whatever the word that start reads holds, and refused or not, a command changes the words of its rows alone and not the steps
abbrev pub CommandWordsStay : Type 0
CommandWordsStay =
    (c : Command) (s : Lent)
    → SameBut (VertexWordOf c s) s.vertices (command c s).after.vertices × SameBut (EdgeWordOf c s) s.edges (command c s).after.edges × ((command c s).after.steps ≡ s.steps)

-- each refusal is given exactly where its reason holds and none before it does, at no place
abbrev pub CommandRefusedExactly : Type 0
CommandRefusedExactly =
    (c : Command) (s : Lent) (n p : ℕ)
    → ((command c s).answer ≡ CommandSaid.refused n p) ↔ ((p ≡ 0) × RefusalDue n (reasons c s))

-- a refused command changes nothing
abbrev pub RefusedCommandKeeps : Type 0
RefusedCommandKeeps =
    (c : Command) (s : Lent)
    → accepted (command c s).answer ≡ false
    → (command c s).after ≡ s

-- its refusal has no place
abbrev pub CommandPlace : Type 0
CommandPlace =
    (c : Command) (s : Lent) (n p : ℕ)
    → (command c s).answer ≡ CommandSaid.refused n p
    → p ≡ 0

-- 34 is not used
abbrev pub CommandNever34 : Type 0
CommandNever34 =
    (c : Command) (s : Lent) (p : ℕ)
    → (command c s).answer ≡ CommandSaid.refused 34 p
    → ⊥

-- 35 of a newEdge: where a path leads back, and nothing before it is due
abbrev pub NewEdgeCycleExactly : Type 0
NewEdgeCycleExactly =
    (s : Lent) (t t1 t2 : ℕ)
    → ((command (NewEdge t t1 t2) s).answer ≡ CommandSaid.refused closes_cycle 0) ↔ (NoneBefore closes_cycle (reasons (NewEdge t t1 t2) s) × NewEdgeCycle s t1 t2)

-- 35 of a transfer, likewise
abbrev pub TransferCycleExactly : Type 0
TransferCycleExactly =
    (s : Lent) (t t' : ℕ)
    → ((command (Transfer t t') s).answer ≡ CommandSaid.refused closes_cycle 0) ↔ (NoneBefore closes_cycle (reasons (Transfer t t') s) × TransferCycle s t t')

-- 21: where an edge is held into the vertex and nothing before it is due, if the word that start reads is true
abbrev pub StartEdgeInExactly : Type 0
StartEdgeInExactly =
    (s : Lent) (t : ℕ)
    → CountTrue s t
    → ((command (Start t) s).answer ≡ CommandSaid.refused edge_leads_in 0) ↔ (NoneBefore edge_leads_in (reasons (Start t) s) × EdgeInto s t)

-- no command closes a cycle
abbrev pub StaysAcyclic : Type 0
StaysAcyclic =
    (c : Command) (s : Lent)
    → CycleFree (graph s).edge
    → CycleFree (graph (command c s).after).edge

-- no command makes an edge be held twice
abbrev pub NoneHeldTwice : Type 0
NoneHeldTwice =
    (c : Command) (s : Lent)
    → NoneTwice s.edges s.held
    → NoneTwice (command c s).after.edges (command c s).after.held

-- sound tables stay sound
abbrev pub StaysSound : Type 0
StaysSound =
    (c : Command) (s : Lent)
    → sound s ≡ true
    → sound (command c s).after ≡ true

-- an edge that is held already is taken and changes nothing: on a full table, on tables with a cycle, where the edge leads from a vertex to
-- itself, and where it leads into the caller
abbrev pub HeldAlready : Type 0
HeldAlready =
    (s : Lent) (t t1 t2 : ℕ)
    → sound s ≡ true
    → t < s.made
    → HasStatus s t EXECUTING
    → (HasStatus s t2 NEW ⊎ HasStatus s t2 RELEASED) ⊎ (t2 ≡ t)
    → EdgeHeld s t1 t2
    → command (NewEdge t t1 t2) s ≡ record { answer = CommandSaid.edge t1 t2; after = s }

-- after an opening and any commands each in-count is true
abbrev pub CommandedCountsTrue : Type 0
CommandedCountsTrue =
    (s₀ s : Lent)
    → Commanded s₀ s
    → CountsTrue s

-- on any tables: true in-counts stay true
abbrev pub StaysTrue : Type 0
StaysTrue =
    (c : Command) (s : Lent)
    → CountsTrue s
    → CountsTrue (command c s).after

-- so a start answers and leaves there what the full search would
abbrev pub CommandedStart : Type 0
CommandedStart =
    (s₀ s : Lent)
    → Commanded s₀ s
    → (t : ℕ)
    → start s t ≡ full_search s t

-- `reaches` tells whether a path of held edges leads from one vertex to another
abbrev pub ReachesDecides : Type 0
ReachesDecides =
    (e : List ℕ) (n a b : ℕ)
    → (reaches e n a b ≡ true) ↔ Leads (holds e n) a b

-- "some target of t is t' or reaches t'" is: t reaches t'
abbrev pub TransferTest : Type 0
TransferTest =
    (e : List ℕ) (n t t' : ℕ)
    → target_reaches e n t t' ≡ reaches e n t t'
