-- The words in which demand 2 is stated of a single command: the graph that tables hold, the words that a command may change, the
-- row that it needs, and the reasons for its refusals. The theorems are in proofs/Demand2.antt and proofs/Reasons.antt.
use Rattle.std.specs.Prelude.{ℕ, ◌+◌, ◌*◌, ◌<◌, ◌≤◌, ◌≡◌, ◌⊎◌, cond, List, length, get_or, ltb}
use Rattle.std.proofs.Math.Option.{none, some}
use Rattle.graph.specs.declared.Command.{Command}
use Rattle.graph.specs.declared.Command.TheVariants.{NewTd, NewEdge, Release, Transfer, Start, Stop, Yield}
use Rattle.graph.specs.Tables.{Lent, NEW, EXECUTING, FINISHED, vertex_words, edge_words, status_word, place_word, scope_word, future_word}
use Rattle.graph.specs.Tables.{in_count_word, source_word, vertex_rows, edge_rows, vertex_word, status, in_count, source, target}
use Rattle.refusal.specs.Refusals.{unsound_tables, no_such_vertex, edge_leads_in, vertex_is_new, vertex_is_finished, vertex_is_executing}
use Rattle.refusal.specs.Refusals.{caller_not_executing, no_vertex_row}
use Rattle.refusal.specs.Refusals.{no_edge_row, target_not_waiting, closes_cycle, release_not_new, transfer_not_new, transfer_has_edge_out}
use Rattle.graph.specs.Paths.{Leads, holds}
use Rattle.graph.specs.Rules.{Graph, Unguarded}

-- the graph that is lent: the made vertices with their statuses, and the set of the held edges
abbrev pub graph : Lent → Graph
graph s =
    record {
      status = λ x. cond (ltb x s.made) (some (status s.vertices x)) none;
      edge = holds s.edges s.held;
    }

abbrev pub HasStatus : Lent → ℕ → ℕ → Type 0
HasStatus s t x = status s.vertices t ≡ x

-- an edge is held: out of a, into b, from a to b
abbrev pub EdgeOutOf : Lent → ℕ → Type 0
EdgeOutOf s a = (i : ℕ) × (i < s.held) × (source s.edges i ≡ a)

abbrev pub EdgeInto : Lent → ℕ → Type 0
EdgeInto s b = (i : ℕ) × (i < s.held) × (target s.edges i ≡ b)

abbrev pub EdgeHeld : Lent → ℕ → ℕ → Type 0
EdgeHeld s a b = (i : ℕ) × (i < s.held) × ((source s.edges i ≡ a) × (target s.edges i ≡ b))

-- newEdge adds nothing: "A finished t1 adds nothing"; "An edge held already .. changes nothing" (note 3)
abbrev pub AddsNothing : Lent → ℕ → ℕ → Type 0
AddsNothing s t1 t2 = HasStatus s t1 FINISHED ⊎ EdgeHeld s t1 t2

-- "any row it needs is free"; an edge that adds nothing needs none
abbrev pub RowFree : Command → Lent → Type 0
RowFree (NewTd t place scope) s = s.made < vertex_rows s.vertices
RowFree (NewEdge t t1 t2) s = AddsNothing s t1 t2 ⊎ (s.held < edge_rows s.edges)
RowFree (Release t t') s = Unit {0}
RowFree (Transfer t t') s = Unit {0}
RowFree (Start t) s = Unit {0}
RowFree (Stop t) s = Unit {0}
RowFree (Yield t) s = Unit {0}

-- "A command changes no other word of a row." The words of the vertex table that a command may change: the row of the vertex
-- that it makes, the status of the one that it turns, and the number of edges into a vertex that gets or loses one (note 6).
abbrev pub VertexWordOf : Command → Lent → ℕ → Type 0
VertexWordOf (NewTd t place scope) s i = (vertex_words * s.made ≤ i) × (i < vertex_words * s.made + vertex_words)
VertexWordOf (NewEdge t t1 t2) s i = (AddsNothing s t1 t2 → ⊥) × (i ≡ vertex_words * t2 + in_count_word)
VertexWordOf (Release t t') s i = i ≡ vertex_words * t' + status_word
VertexWordOf (Transfer t t') s i = ⊥
VertexWordOf (Start t) s i = i ≡ vertex_words * t + status_word
VertexWordOf (Stop t) s i =
    (i ≡ vertex_words * t + status_word)
    ⊎ ((j : ℕ) × (j < s.held) × (source s.edges j ≡ t) × (i ≡ vertex_words * target s.edges j + in_count_word))
VertexWordOf (Yield t) s i = i ≡ vertex_words * t + status_word

-- The words of the edge table that a command may change: the row of the edge that it adds, if it adds one, the sources that it moves,
-- the rows held before a stop.
abbrev pub EdgeWordOf : Command → Lent → ℕ → Type 0
EdgeWordOf (NewTd t place scope) s i = ⊥
EdgeWordOf (NewEdge t t1 t2) s i =
    (AddsNothing s t1 t2 → ⊥) × (edge_words * s.held ≤ i) × (i < edge_words * s.held + edge_words)
EdgeWordOf (Release t t') s i = ⊥
EdgeWordOf (Transfer t t') s i = (j : ℕ) × (j < s.held) × (source s.edges j ≡ t) × (i ≡ edge_words * j + source_word)
EdgeWordOf (Start t) s i = ⊥
EdgeWordOf (Stop t) s i = i < edge_words * s.held
EdgeWordOf (Yield t) s i = ⊥

-- l' is l but for the words of P
abbrev pub SameBut : (ℕ → Type 0) → List ℕ → List ℕ → Type 0
SameBut P l l' = (length l' ≡ length l) × ((i : ℕ) → (P i → ⊥) → get_or l' i 0 ≡ get_or l i 0)

-- the row of the vertex that newTd makes: "new, with the place and scope handed in and its other words 0", but for "the latest open future,
-- copied from the maker" (note 5)
pub record MadeRow (v : List ℕ) (k place scope future : ℕ) : Type 0 where
  pub is_new : status v k ≡ NEW
  pub has_place : vertex_word v k place_word ≡ place
  pub has_scope : vertex_word v k scope_word ≡ scope
  pub has_future : vertex_word v k future_word ≡ future
  pub others_zero :
      (w : ℕ) → w < vertex_words → (w ≡ status_word → ⊥) → (w ≡ place_word → ⊥) → (w ≡ scope_word → ⊥) → (w ≡ future_word → ⊥) → vertex_word v k w ≡ 0

abbrev pub NewRowOf : Command → Lent → Lent → Type 0
NewRowOf (NewTd t place scope) s s' = MadeRow s'.vertices s.made place scope (vertex_word s.vertices t future_word)
NewRowOf (NewEdge t t1 t2) s s' = Unit {0}
NewRowOf (Release t t') s s' = Unit {0}
NewRowOf (Transfer t t') s s' = Unit {0}
NewRowOf (Start t) s s' = Unit {0}
NewRowOf (Stop t) s s' = Unit {0}
NewRowOf (Yield t) s s' = Unit {0}

-- no edge is held twice: no two rows are the same
abbrev pub NoneTwice : List ℕ → ℕ → Type 0
NoneTwice e n = (i j : ℕ) → i < j → j < n → source e i ≡ source e j → target e i ≡ target e j → ⊥

-- Demand 2, effect: "Each command changes vertices, statuses and edges exactly by its published dag-calculus rule", and no other
-- word; "single commands change the tally's first two numbers only".
pub record Effect (c : Command) (s s' : Lent) : Type 0 where
  pub rule : Unguarded c (graph s) (graph s')
  pub same_vertex_words : SameBut (VertexWordOf c s) s.vertices s'.vertices
  pub same_edge_words : SameBut (EdgeWordOf c s) s.edges s'.edges
  pub new_row : NewRowOf c s s'
  pub steps_kept : s'.steps ≡ s.steps

-- "Only full rows among the first 1,024 of each table are used; other words are never touched": past them both tables hold what they held,
-- and they keep their lengths.
pub record UsableOnly (s s' : Lent) : Type 0 where
  pub same_vertex_words : SameBut (λ i. i < vertex_words * vertex_rows s.vertices) s.vertices s'.vertices
  pub same_edge_words : SameBut (λ i. i < edge_words * edge_rows s.edges) s.edges s'.edges

-- REFUSALS
-- Reasons in their order: refused with a number where something holds, or accepted where something holds; else by what follows, and
-- behind the last one accepted.
pub data Reasons : Type 1 where
  no_more : Reasons
  refused_where : Type 0 → ℕ → Reasons → Reasons
  accepted_where : Type 0 → Reasons → Reasons

-- the refusal n is due: its reason holds, and nothing before it does
abbrev pub RefusalDue : ℕ → Reasons → Type 0
RefusalDue n no_more = ⊥
RefusalDue n (refused_where P m rest) = (P × (n ≡ m)) ⊎ ((P → ⊥) × RefusalDue n rest)
RefusalDue n (accepted_where P rest) = (P → ⊥) × RefusalDue n rest

-- no refusal is due
abbrev pub NoneDue : Reasons → Type 0
NoneDue no_more = Unit {0}
NoneDue (refused_where P m rest) = (P → ⊥) × NoneDue rest
NoneDue (accepted_where P rest) = P ⊎ NoneDue rest

-- nothing before the reason of n holds
abbrev pub NoneBefore : ℕ → Reasons → Type 0
NoneBefore n no_more = ⊥
NoneBefore n (refused_where P m rest) = (n ≡ m) ⊎ ((P → ⊥) × NoneBefore n rest)
NoneBefore n (accepted_where P rest) = (P → ⊥) × NoneBefore n rest

-- "12 tally over the used rows, a made vertex's status outside 1 to 4, or a held edge's end not a made vertex"
abbrev pub TallyOver : Lent → Type 0
TallyOver s = (vertex_rows s.vertices < s.made) ⊎ (edge_rows s.edges < s.held)

abbrev pub OutsideAt : Lent → ℕ → Type 0
OutsideAt s x = (status s.vertices x < NEW) ⊎ (FINISHED < status s.vertices x)

abbrev pub StatusOutside : Lent → Type 0
StatusOutside s = (x : ℕ) × (x < s.made) × OutsideAt s x

abbrev pub EndNotMade : Lent → Type 0
EndNotMade s = (i : ℕ) × (i < s.held) × ((s.made ≤ source s.edges i) ⊎ (s.made ≤ target s.edges i))

abbrev pub Unsound : Lent → Type 0
Unsound s = TallyOver s ⊎ StatusOutside s ⊎ EndNotMade s

-- what 12 looks at before 20: "For start .. 12 then looks at the tally and that vertex's row only" (note 6), and at the row behind 20
abbrev pub UnsoundFor : Command → Lent → Type 0
UnsoundFor (NewTd t place scope) s = Unsound s
UnsoundFor (NewEdge t t1 t2) s = Unsound s
UnsoundFor (Release t t') s = Unsound s
UnsoundFor (Transfer t t') s = Unsound s
UnsoundFor (Start t) s = TallyOver s
UnsoundFor (Stop t) s = Unsound s
UnsoundFor (Yield t) s = Unsound s

-- "20 no such vertex", of the caller and every vertex named
abbrev pub NoSuchVertex : Lent → Command → Type 0
NoSuchVertex s (NewTd t place scope) = s.made ≤ t
NoSuchVertex s (NewEdge t t1 t2) = (s.made ≤ t) ⊎ (s.made ≤ t1) ⊎ (s.made ≤ t2)
NoSuchVertex s (Release t t') = (s.made ≤ t) ⊎ (s.made ≤ t')
NoSuchVertex s (Transfer t t') = (s.made ≤ t) ⊎ (s.made ≤ t')
NoSuchVertex s (Start t) = s.made ≤ t
NoSuchVertex s (Stop t) = s.made ≤ t
NoSuchVertex s (Yield t) = s.made ≤ t

-- a path of held edges leads from a to b
abbrev pub Reaches : Lent → ℕ → ℕ → Type 0
Reaches s a b = Leads (holds s.edges s.held) a b

-- "Cycle for newEdge: t1 is t2 or t2 reaches t1. For transfer: some target of t is t' or reaches t'."
abbrev pub NewEdgeCycle : Lent → ℕ → ℕ → Type 0
NewEdgeCycle s t1 t2 = (t1 ≡ t2) ⊎ Reaches s t2 t1

abbrev pub TransferCycle : Lent → ℕ → ℕ → Type 0
TransferCycle s t t' =
    (i : ℕ) × (i < s.held) × ((source s.edges i ≡ t) × ((target s.edges i ≡ t') ⊎ Reaches s (target s.edges i) t'))

-- "newTd 30, 31; newEdge 30, 33, (finished source accepted), .. 35, 32; release 30, 36; transfer 30, 37, 38, 35; start 22, 39, 23, 21;
-- stop 30"; "An edge held already is now accepted and changes nothing, tested before 35." (note 3); "on altered tables 21 follows the word"
-- (note 6); "33 spares the caller; yield meets 12, 20 and 30 only" (note 10)
abbrev pub own_reasons : Command → Lent → Reasons
own_reasons (NewTd t place scope) s =
    refused_where (HasStatus s t EXECUTING → ⊥) caller_not_executing
    (refused_where (vertex_rows s.vertices ≤ s.made) no_vertex_row no_more)
own_reasons (NewEdge t t1 t2) s =
    refused_where (HasStatus s t EXECUTING → ⊥) caller_not_executing
    (refused_where ((t2 ≡ t → ⊥) × (HasStatus s t2 EXECUTING ⊎ HasStatus s t2 FINISHED)) target_not_waiting
    (accepted_where (AddsNothing s t1 t2)
    (refused_where (NewEdgeCycle s t1 t2) closes_cycle
    (refused_where (edge_rows s.edges ≤ s.held) no_edge_row no_more))))
own_reasons (Release t t') s =
    refused_where (HasStatus s t EXECUTING → ⊥) caller_not_executing
    (refused_where (HasStatus s t' NEW → ⊥) release_not_new no_more)
own_reasons (Transfer t t') s =
    refused_where (HasStatus s t EXECUTING → ⊥) caller_not_executing
    (refused_where (HasStatus s t' NEW → ⊥) transfer_not_new
    (refused_where (EdgeOutOf s t') transfer_has_edge_out
    (refused_where (TransferCycle s t t') closes_cycle no_more)))
own_reasons (Start t) s =
    refused_where (OutsideAt s t) unsound_tables
    (refused_where (HasStatus s t NEW) vertex_is_new
    (refused_where (HasStatus s t EXECUTING) vertex_is_executing
    (refused_where (HasStatus s t FINISHED) vertex_is_finished
    (refused_where (in_count s.vertices t ≡ 0 → ⊥) edge_leads_in no_more))))
own_reasons (Stop t) s = refused_where (HasStatus s t EXECUTING → ⊥) caller_not_executing no_more
own_reasons (Yield t) s = refused_where (HasStatus s t EXECUTING → ⊥) caller_not_executing no_more

-- "Commands: 12, 20, then" its own
abbrev pub reasons : Command → Lent → Reasons
reasons c s = refused_where (UnsoundFor c s) unsound_tables (refused_where (NoSuchVertex s c) no_such_vertex (own_reasons c s))
