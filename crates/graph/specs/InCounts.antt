-- The word that start reads: "a ninth word, the number of edges into it, kept true by every command from loading or opening on" (note 6).
-- Here is when it is true, and the full search that it stands for; that every command keeps it true, and that start then answers as the full
-- search would, is proved in proofs/InCounts.antt.
use Rattle.std.specs.Prelude.{ℕ, ◌<◌, ◌≡◌, not}
use Rattle.graph.specs.declared.Command.{Command}
use Rattle.graph.specs.declared.Command.TheVariants.{NewTd, NewEdge, Release, Transfer, Start, Stop, Yield}
use Rattle.graph.specs.Tables.{Lent, NEW, EXECUTING, FINISHED, in_count}
use Rattle.refusal.specs.Refusals.{unsound_tables, no_such_vertex, edge_leads_in, vertex_is_new, vertex_is_finished, vertex_is_executing}
use Rattle.graph.specs.Answers.{CommandSaid, Outcome, opened, unless, decided}
use Rattle.graph.specs.Sound.{sound}
use Rattle.graph.specs.Paths.{leads_into, edges_into}
use Rattle.graph.specs.Commands.{is_made, has_status, with_status, opening, command}

-- the word of t is the number of held edges into it
abbrev pub CountTrue : Lent → ℕ → Type 0
CountTrue s t = in_count s.vertices t ≡ edges_into s.edges s.held t

-- and so is that of every made vertex
abbrev pub CountsTrue : Lent → Type 0
CountsTrue s = (t : ℕ) → t < s.made → CountTrue s t

-- the word that a command reads is true: start alone reads one
abbrev pub ReadsTrue : Command → Lent → Type 0
ReadsTrue (NewTd t place scope) s = Unit {0}
ReadsTrue (NewEdge t t1 t2) s = Unit {0}
ReadsTrue (Release t t') s = Unit {0}
ReadsTrue (Transfer t t') s = Unit {0}
ReadsTrue (Start t) s = CountTrue s t
ReadsTrue (Stop t) s = Unit {0}
ReadsTrue (Yield t) s = Unit {0}

-- "from .. opening on": this is lent after an opening onto s₀ and any single commands, refused ones included
pub data Commanded (s₀ : Lent) : Lent → Type 0 where
  opened_first : (opening s₀).answer ≡ opened → Commanded s₀ (opening s₀).after
  then_command : {s : Lent} → Commanded s₀ s → (c : Command) → Commanded s₀ (command c s).after

-- "the full search": a start for which 12 looks at every row and 21 at every held edge
unfoldable pub full_search : Lent → ℕ → Outcome CommandSaid
full_search s t =
    decided s
    (unless (sound s) unsound_tables
    (unless (is_made s t) no_such_vertex
    (unless (not (has_status s t NEW)) vertex_is_new
    (unless (not (has_status s t EXECUTING)) vertex_is_executing
    (unless (not (has_status s t FINISHED)) vertex_is_finished
    (unless (not (leads_into s.edges s.held t)) edge_leads_in 0))))))
    CommandSaid.start
    (with_status s t EXECUTING)
