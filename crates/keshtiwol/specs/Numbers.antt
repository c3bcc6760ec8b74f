-- Which numbers stand for which answer, command and edition where hosts are told, what a call's reply tells, and the library's version. The
-- declarations in include/keshtiwol.h have the same numbers.
use Rattle.std.specs.Prelude as of_code
use Rattle.std.specs.Prelude.{ℕ, ◌≡◌, cond, List, eqb, Some, None}
use Rattle.std.proofs.Math.Option.{Option, none, some}
use Rattle.graph.specs.declared.Command.{Command}
use Rattle.graph.specs.declared.Command.TheVariants.{NewTd, NewEdge, Release, Transfer, Start, Stop, Yield}
use Rattle.graph.specs.Tables.{Lent}
use Rattle.graph.specs.Answers as of_graph
use Rattle.graph.specs.Commands.{command}
use Rattle.graph.specs.Answers.{Outcome}
use Rattle.program.specs.declared.Edition.{Edition}
use Rattle.program.specs.declared.Edition.TheVariants.{First, Second}
use Rattle.refusal.specs.Refusals.{no_such_edition, no_such_command}
use Rattle.machine.specs.Answers.{StepSaid, said_as, refuse, LoadingSaid, loaded, loading_refused, refuse_loading}
use Rattle.machine.specs.Loading.{load}
use Rattle.machine.specs.Stepping.{step}
use Rattle.machine.specs.Running.{Ending, done, stuck, spent, refused, RunOutcome, ended, run, Choice, choose, no_choice, choice_refused, choice}
use Rattle.machine.specs.Dispatching as of_dispatch
use Rattle.machine.specs.Dispatching.{desk, marks_of, list_of, handed_of, dispatch}
use Rattle.chains.specs.Showing.{ChainSaid, vertices, chain_refused, ChainOutcome}
use Rattle.keshtiwol.specs.declared.Reply.{Reply}
use Rattle.keshtiwol.specs.declared.RunReply.{RunReply}
use Rattle.keshtiwol.specs.declared.DispatchReply.{DispatchReply}
use Rattle.keshtiwol.specs.declared.replies.Said.{Said}
use Rattle.keshtiwol.specs.declared.replies.Said.TheVariants as said

-- ANSWERS
-- what was said, and two values
pub data Numbers : Type 0 where
  numbers : ℕ → ℕ → ℕ → Numbers

abbrev pub reply_numbers : Reply → Numbers
reply_numbers r = numbers r.said r.first r.second

-- the number of what a reply says
abbrev pub said_number : Said → ℕ
said_number said.Refused = 0
said_number said.Ready = 1
said_number said.Start = 2
said_number said.New = 3
said_number said.Edge = 4
said_number said.Release = 5
said_number said.Transfer = 6
said_number said.Job = 7
said_number said.Stop = 8
said_number said.Nothing = 9
said_number said.Vertex = 10
said_number said.Done = 11
said_number said.Stuck = 12
said_number said.Spent = 13
said_number said.Chain = 14
said_number said.Yield = 15
said_number said.Waiting = 16
said_number said.Full = 17

-- what the opening said
unfoldable pub opening_numbers : of_graph.OpeningSaid → Numbers
opening_numbers (of_graph.opening_refused n p) = numbers 0 n p
opening_numbers of_graph.opened = numbers 1 0 0

-- what loading said
unfoldable pub loading_numbers : LoadingSaid → Numbers
loading_numbers (loading_refused n p) = numbers 0 n p
loading_numbers loaded = numbers 1 0 0

-- what a step or a command said
unfoldable pub said_numbers : StepSaid → Numbers
said_numbers (StepSaid.refused n p) = numbers 0 n p
said_numbers StepSaid.start = numbers 2 0 0
said_numbers (StepSaid.new v) = numbers 3 v 0
said_numbers (StepSaid.edge a b) = numbers 4 a b
said_numbers (StepSaid.release v) = numbers 5 v 0
said_numbers (StepSaid.transfer v) = numbers 6 v 0
said_numbers (StepSaid.job n o) = numbers 7 n o
said_numbers StepSaid.stop = numbers 8 0 0
said_numbers StepSaid.yield = numbers 15 0 0

-- a run's last step
unfoldable pub last_numbers : Option StepSaid → Numbers
last_numbers none = numbers 9 0 0
last_numbers (some a) = said_numbers a

-- how it ended
unfoldable pub ending_numbers : Ending → Numbers
ending_numbers (refused n p) = numbers 0 n p
ending_numbers done = numbers 11 0 0
ending_numbers stuck = numbers 12 0 0
ending_numbers spent = numbers 13 0 0

-- how a dispatch ended
unfoldable pub dispatch_numbers : of_dispatch.Ending → Numbers
dispatch_numbers (of_dispatch.refused n p) = numbers 0 n p
dispatch_numbers of_dispatch.done = numbers 11 0 0
dispatch_numbers of_dispatch.stuck = numbers 12 0 0
dispatch_numbers of_dispatch.spent = numbers 13 0 0
dispatch_numbers of_dispatch.waiting = numbers 16 0 0
dispatch_numbers of_dispatch.full = numbers 17 0 0

-- the lowest vertex that can step
unfoldable pub choice_numbers : Choice → Numbers
choice_numbers (choice_refused n p) = numbers 0 n p
choice_numbers no_choice = numbers 9 0 0
choice_numbers (choose v) = numbers 10 v 0

-- a chain of held edges
unfoldable pub chain_numbers : ChainSaid → Numbers
chain_numbers (chain_refused n p) = numbers 0 n p
chain_numbers (vertices n) = numbers 14 n 0

-- COMMANDS
unfoldable pub command_of : ℕ → ℕ → ℕ → ℕ → Option Command
command_of k t a b =
    cond (eqb k 1) (some (NewTd t a b))
    (cond (eqb k 2) (some (NewEdge t a b))
    (cond (eqb k 3) (some (Release t a))
    (cond (eqb k 4) (some (Transfer t a))
    (cond (eqb k 5) (some (Start t))
    (cond (eqb k 6) (some (Stop t))
    (cond (eqb k 7) (some (Yield t))
    none))))))

-- what is asked for, if it is known
abbrev pub asked_of : {A : Type 0} → of_code.Option A → Option A
asked_of (Some a) = some a
asked_of None = none

-- this crate's own refusal
unfoldable pub if_known : Option Command → Lent → Outcome of_graph.CommandSaid
if_known (some c) s = command c s
if_known none s = record { answer = of_graph.refused no_such_command 0; after = s }

abbrev pub by_numbers : ℕ → ℕ → ℕ → ℕ → Lent → Outcome of_graph.CommandSaid
by_numbers k t a b s = if_known (command_of k t a b) s

-- EDITIONS
unfoldable pub edition_of : ℕ → Option Edition
edition_of k = cond (eqb k 1) (some First) (cond (eqb k 2) (some Second) none)

-- A call of an edition. A number that no edition has is this crate's own refusal, before any other.
unfoldable pub in_edition : {A : Type 0} → Option Edition → A → (Edition → A) → A
in_edition none refusal call = refusal
in_edition (some ed) refusal call = call ed

abbrev pub load_in : Option Edition → List ℕ → Lent → Outcome LoadingSaid
load_in o bytes s = in_edition o (refuse_loading s no_such_edition 0) (λ ed. load ed bytes s)

abbrev pub step_in : Option Edition → List ℕ → Lent → ℕ → Outcome StepSaid
step_in o bytes s v = in_edition o (refuse s no_such_edition 0) (λ ed. step ed bytes s v)

abbrev pub run_in : Option Edition → List ℕ → Lent → ℕ → RunOutcome
run_in o bytes s budget = in_edition o (ended (refused no_such_edition 0) none 0 s) (λ ed. run ed bytes s budget)

abbrev pub dispatch_in : Option Edition → List ℕ → Lent → (budget : ℕ) → (marks list : List ℕ) → of_dispatch.Outcome
dispatch_in o bytes s budget marks list =
    in_edition o (of_dispatch.ended (of_dispatch.refused no_such_edition 0) 0 s (desk marks list 0)) (λ ed. dispatch ed bytes s marks list budget)

abbrev pub choice_in : Option Edition → List ℕ → Lent → Choice
choice_in o bytes s = in_edition o (choice_refused no_such_edition 0) (λ ed. choice ed bytes s)

-- CALLS
-- the reply tells what the definition answers, and what is lent afterwards is what it leaves
abbrev pub OpenReplied : Outcome of_graph.OpeningSaid → Reply → Lent → Type 0
OpenReplied o r after = (reply_numbers r ≡ opening_numbers o.answer) × (after ≡ o.after)

abbrev pub Commanded : Outcome of_graph.CommandSaid → Reply → Lent → Type 0
Commanded o r after = (reply_numbers r ≡ said_numbers (said_as o.answer)) × (after ≡ o.after)

abbrev pub LoadReplied : Outcome LoadingSaid → Reply → Lent → Type 0
LoadReplied o r after = (reply_numbers r ≡ loading_numbers o.answer) × (after ≡ o.after)

abbrev pub Replied : Outcome StepSaid → Reply → Lent → Type 0
Replied o r after = (reply_numbers r ≡ said_numbers o.answer) × (after ≡ o.after)

abbrev pub RunReplied : RunOutcome → RunReply → Lent → Type 0
RunReplied o r after =
    (reply_numbers r.ending ≡ ending_numbers o.ending) × (reply_numbers r.last ≡ last_numbers o.last) × (r.taken ≡ o.taken)
    × (after ≡ o.after)

-- the marks and the list afterwards are what the definition leaves too
abbrev pub DispatchReplied : of_dispatch.Outcome → DispatchReply → Lent → (marks list : List ℕ) → Type 0
DispatchReplied o r after marks list =
    (reply_numbers r.ending ≡ dispatch_numbers o.ending) × (r.taken ≡ o.taken) × (r.handed ≡ handed_of o.handed_out) × (after ≡ o.after)
    × (marks ≡ marks_of o.handed_out) × (list ≡ list_of o.handed_out)

-- program, tables and tally are only read
abbrev pub LowestReplied : Choice → Reply → Type 0
LowestReplied c r = reply_numbers r ≡ choice_numbers c

-- the list afterwards is what the definition leaves; tables and tally are only read
abbrev pub ChainReplied : ChainOutcome → Reply → List ℕ → Type 0
ChainReplied o r list = (reply_numbers r ≡ chain_numbers o.answer) × (list ≡ o.list)

-- VERSION
-- 4.2.1: 10,000 times the first number, 100 times the second, and the third
unfoldable pub version : ℕ
version = 40201
