-- What a call answers, and the outcome of a call: its answer and what is lent afterwards.
use Rattle.std.specs.Prelude.{ℕ, zero, suc, Bool, true, false, List, Result, Ok, Err, ⊤}
use Rattle.refusal.specs.declared.Reason.{Reason}
use Rattle.refusal.specs.declared.Refusal.{Refusal}
use Rattle.refusal.specs.Reasons.{number}
use Rattle.graph.specs.declared.Answer.{Answer}
use Rattle.graph.specs.declared.Answer.TheVariants.{Start, New, Edge, Release, Transfer, Stop, Yield, Refused}
use Rattle.graph.specs.declared.Done.{Done}
use Rattle.graph.specs.declared.OpenDone.{OpenDone}
use Rattle.graph.specs.declared.Tally.{Tally}
use Rattle.graph.specs.Tables.{Lent, lent}

-- What a command says. A refusal has its number and its place.
pub data CommandSaid : Type 0 where
  start : CommandSaid
  new : ℕ → CommandSaid
  edge : ℕ → ℕ → CommandSaid
  release : ℕ → CommandSaid
  transfer : ℕ → CommandSaid
  stop : CommandSaid
  yield : CommandSaid
  refused : ℕ → ℕ → CommandSaid

-- "Where an answer is an enum, a definition gives this paper's number and values for each of its cases"
abbrev pub said : Answer → CommandSaid
said Start = CommandSaid.start
said (New v) = CommandSaid.new v
said (Edge a b) = CommandSaid.edge a b
said (Release v) = CommandSaid.release v
said (Transfer v) = CommandSaid.transfer v
said Stop = CommandSaid.stop
said Yield = CommandSaid.yield
said (Refused r) = CommandSaid.refused (number r.reason) r.place

abbrev pub accepted : CommandSaid → Bool
accepted start = true
accepted (new v) = true
accepted (edge a b) = true
accepted (release v) = true
accepted (transfer v) = true
accepted stop = true
accepted yield = true
accepted (refused n p) = false

-- what a call says, and what is lent afterwards
pub record Outcome (Says : Type 0) : Type 0 where
  pub answer : Says
  pub after : Lent

-- the outcome that the code gives: its answer, and the tables and the tally at exit
abbrev pub answered : Answer → List ℕ → List ℕ → Tally → Outcome CommandSaid
answered a v e t = record { answer = said a; after = lent v e t }

-- the same of a core, which returns the tally with its answer
abbrev pub outcome : Done → List ℕ → List ℕ → Outcome CommandSaid
outcome r v e = answered r.answer v e r.tally

-- the outcome of a command that gives its reason where it is refused, at no place in the program
abbrev pub tried : Result Done Reason → Tally → List ℕ → List ℕ → Outcome CommandSaid
tried (Ok r) t v e = outcome r v e
tried (Err n) t v e = record { answer = CommandSaid.refused (number n) 0; after = lent v e t }

-- What the opening says, and its outcome: the same, for an answer of its own.
pub data OpeningSaid : Type 0 where
  opened : OpeningSaid
  opening_refused : ℕ → ℕ → OpeningSaid

abbrev pub opening_said : Result ⊤ Refusal → OpeningSaid
opening_said (Ok u) = opened
opening_said (Err r) = opening_refused (number r.reason) r.place

abbrev pub answered_opening : Result ⊤ Refusal → List ℕ → List ℕ → Tally → Outcome OpeningSaid
answered_opening a v e t = record { answer = opening_said a; after = lent v e t }

abbrev pub opening_outcome : OpenDone → List ℕ → List ℕ → Outcome OpeningSaid
opening_outcome r v e = answered_opening r.answer v e r.tally

-- The first refusal of a chain of tests, 0 where none is due: n where the test fails, else what the later tests give.
unfoldable pub unless : Bool → ℕ → ℕ → ℕ
unless true n rest = rest
unless false n rest = n

-- "A refusal gives its number and place, and every lent table and the tally hold what they held." With no refusal due
-- the call says `answer` and leaves `after`. The refusals of commands have the place 0.
unfoldable pub decided : Lent → ℕ → CommandSaid → Lent → Outcome CommandSaid
decided s zero answer after = record { answer = answer; after = after }
decided s (suc n) answer after = record { answer = refused (suc n) 0; after = s }
