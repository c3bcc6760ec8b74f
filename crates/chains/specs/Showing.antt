-- The call: "For a source and a target, write into a lent list the shortest chain .. and answer how many vertices it has."
use Rattle.std.specs.Prelude.{ℕ, Bool, true, false, List, ◌++◌, length, drop, leb, Result, Ok, Err}
use Rattle.std.proofs.Math.Option.{Option, none, some}
use Rattle.refusal.specs.declared.Reason.{Reason}
use Rattle.refusal.specs.declared.Refusal.{Refusal}
use Rattle.refusal.specs.Reasons.{number}
use Rattle.refusal.specs.Refusals.{unsound_tables, no_such_vertex, no_chain, list_too_short}
use Rattle.graph.specs.Tests.{both}
use Rattle.graph.specs.Tables.{Lent}
use Rattle.graph.specs.Sound.{sound}
use Rattle.graph.specs.Commands.{is_made}
use Rattle.chains.specs.Chains.{shortest_chain}

-- what the call says: how many vertices the chain has, or a refusal with its number and its place
pub data ChainSaid : Type 0 where
  vertices : ℕ → ChainSaid
  chain_refused : ℕ → ℕ → ChainSaid

-- "Where an answer is an enum, a definition gives this paper's number and values for each of its cases"
abbrev pub chain_said : Result ℕ Refusal → ChainSaid
chain_said (Ok n) = vertices n
chain_said (Err r) = chain_refused (number r.reason) r.place

-- what it says, and the list afterwards; the tables and the tally are only read
pub record ChainOutcome : Type 0 where
  pub answer : ChainSaid
  pub list : List ℕ

-- the outcome that the code gives: its answer, and the list at exit
abbrev pub answered : Result ℕ Refusal → List ℕ → ChainOutcome
answered a l = record { answer = chain_said a; list = l }

-- "a refusal, here or later, changes nothing that is lent"; these have the place 0
abbrev pub refused_with : ℕ → List ℕ → ChainOutcome
refused_with n list = record { answer = chain_refused n 0; list = list }

-- the same of a call that gives its reason where it is refused, at no place in the program
abbrev pub tried : Result ℕ Reason → List ℕ → ChainOutcome
tried (Ok n) list = record { answer = vertices n; list = list }
tried (Err r) list = refused_with (number r) list

-- "Turned away": the refusal n where the test fails, else what follows
unfoldable pub turned_away_unless : Bool → ℕ → List ℕ → ChainOutcome → ChainOutcome
turned_away_unless true n list o = o
turned_away_unless false n list o = refused_with n list

-- "41 no chain .. 42 list too short, after 41. .. Words past the chain are untouched": of the chain, if there is one
unfoldable pub shown : Option (List ℕ) → List ℕ → ChainOutcome
shown none list = refused_with no_chain list
shown (some l) list =
    turned_away_unless (leb (length l) (length list)) list_too_short list
    (record { answer = vertices (length l); list = l ++ drop (length l) list })

-- ".. after 12 and 20", which is for either vertex. The chain leads from the target t2 back to the source t1.
unfoldable pub show_chain : Lent → ℕ → ℕ → List ℕ → ChainOutcome
show_chain s t1 t2 list =
    turned_away_unless (sound s) unsound_tables list
    (turned_away_unless (both (is_made s t1) (is_made s t2)) no_such_vertex list
    (shown (shortest_chain s t2 t1) list))
