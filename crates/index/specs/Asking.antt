-- What can be told of a command before it is given: whether it is accepted, and what it hinges on.
use Rattle.std.specs.Prelude.{ℕ, ◌<◌, ◌≤◌, ◌≡◌, Bool, true, false, ◌⊎◌, List, Option, Some, None}
use Rattle.graph.specs.declared.Command.{Command}
use Rattle.graph.specs.Tables.{usable_limit, edge_rows}
use Rattle.graph.specs.Paths.{holds, reaches}
use Rattle.graph.specs.Answers.{accepted}
use Rattle.graph.specs.Commands.{command}
use Rattle.index.specs.declared.Course.{Course}
use Rattle.index.specs.declared.Pair.{Pair}
use Rattle.index.specs.Underway.{state_of}

-- whether the command is accepted, for every edge table that has so many usable rows
abbrev pub Foretells : List ℕ → List ℕ → Course → ℕ → Command → Bool → Type 0
Foretells v x k limit given r = (e : List ℕ) → edge_rows e ≡ limit → r ≡ accepted (command given (state_of v x k e)).answer

-- a path leads from `start` to `goal`, one of no edges where they are one vertex
abbrev pub Joined : List ℕ → ℕ → ℕ → ℕ → Type 0
Joined x used start goal = (start ≡ goal) ⊎ (reaches x used start goal ≡ true)

-- what a command hinges on
abbrev pub Asks : List ℕ → List ℕ → Course → ℕ → Command → Option Pair → Type 0
Asks v x k limit given None = Unit {0}
Asks v x k limit given (Some p) =
    (p.start < usable_limit)
    × (p.goal < usable_limit)
    × (holds x k.used p.goal p.start ≡ false → (Joined x k.used p.start p.goal ⊎ ((p.appends ≡ true) × (limit ≤ k.tally.held)))
    → (e : List ℕ) → edge_rows e ≡ limit → accepted (command given (state_of v x k e)).answer ≡ false)
