-- Looks: who is open, who is shut and cannot step, and what a step hinges on.
use Rattle.std.specs.Prelude.{ℕ, zero, suc, ◌+◌, ◌<◌, ◌≤◌, ◌≡◌, Bool, true, false, not, cond, ◌⊎◌, List, length, get_or, set}
use Rattle.std.proofs.Math.Option.{Option, none, some}
use Rattle.graph.specs.declared.Command.{Command}
use Rattle.graph.specs.Tests.{both}
use Rattle.graph.specs.Tables.{Lent, usable_limit, edge_rows}
use Rattle.graph.specs.Paths.{holds}
use Rattle.index.specs.Underway.{state_of, Ready, may_step}
use Rattle.index.specs.declared.Course.{Course}
use Rattle.program.specs.declared.Edition.{Edition}
use Rattle.program.specs.Limits.{program_bytes}
use Rattle.program.specs.Located.{MarksEnds}
use Rattle.machine.specs.Stepping.{step_limit}
use Rattle.machine.specs.Running.{can_step}
use Rattle.machine.specs.Dispatching.{is_busy, lowest_free}
use Rattle.looks.specs.declared.Hinge.{Hinge}
use Rattle.looks.specs.declared.Kind.{Kind}
use Rattle.looks.specs.declared.Kind.TheVariants as of_kind
use Rattle.index.specs.Asking.{Joined, Foretells}
use Rattle.reachability.specs.declared.pairs.Telling.{Telling}
use Rattle.reachability.specs.declared.pairs.Telling.TheVariants as told
use Rattle.reachability.specs.Pairs.{pair_limit}

-- WHO IS OPEN
-- a vertex may step, as far as its own row tells, and is not busy
abbrev pub is_free : List ℕ → List ℕ → ℕ → Bool
is_free v marks u = both (may_step v u) (not (is_busy marks u))

-- an open vertex is free, and not shut; the table of the shut has a word for each vertex, as that of the busy
abbrev pub is_open : List ℕ → List ℕ → List ℕ → ℕ → Bool
is_open v marks shut u = both (is_free v marks u) (not (is_busy shut u))

-- r is the first open vertex from a number on, or `made` where there is none
abbrev pub FirstOpen : List ℕ → List ℕ → List ℕ → ℕ → ℕ → ℕ → Type 0
FirstOpen v marks shut made from r =
    (r ≤ made) × (r < made → (from ≤ r) × (is_open v marks shut r ≡ true)) × ((u : ℕ) → from ≤ u → u < r → is_open v marks shut u ≡ false)

-- WHO CAN STEP
-- a vertex can, or cannot, whatever edge table the index stands for
abbrev pub StepsAs : Bool → Edition → List ℕ → List ℕ → List ℕ → Course → ℕ → ℕ → Type 0
StepsAs can ed bytes v x k limit u = (e : List ℕ) → edge_rows e ≡ limit → can_step ed bytes (state_of v x k e) u ≡ can

abbrev pub CanOn : Edition → List ℕ → List ℕ → List ℕ → Course → ℕ → ℕ → Type 0
CanOn = StepsAs true

abbrev pub CannotOn : Edition → List ℕ → List ℕ → List ℕ → Course → ℕ → ℕ → Type 0
CannotOn = StepsAs false

-- shut' has whom shut has, and besides only such as cannot step
pub record Shuts (ed : Edition) (bytes v x : List ℕ) (k : Course) (limit : ℕ) (shut shut' : List ℕ) : Type 0 where
  pub long : length shut' ≡ length shut
  pub still : (u : ℕ) → is_busy shut u ≡ true → is_busy shut' u ≡ true
  pub besides : (u : ℕ) → is_busy shut' u ≡ true → (is_busy shut u ≡ true) ⊎ CannotOn ed bytes v x k limit u

-- who is shut cannot step
abbrev pub Barred : Edition → List ℕ → Lent → List ℕ → Type 0
Barred ed bytes s shut = (u : ℕ) → is_busy shut u ≡ true → can_step ed bytes s u ≡ false

-- a look found one
unfoldable pub found : Option ℕ → Bool
found none = false
found (some u) = true

-- It is told whether some vertex that is not busy can step, where none can who is shut; so none can who is shut behind the look.
pub record Looks (ed : Edition) (bytes v x marks : List ℕ) (k : Course) (limit : ℕ) (shut : List ℕ) (r : Bool) (shut' : List ℕ) : Type 0 where
  pub tells : (e : List ℕ) → edge_rows e ≡ limit → Barred ed bytes (state_of v x k e) shut → r ≡ found (lowest_free ed bytes (state_of v x k e) marks)
  pub barred : (e : List ℕ) → edge_rows e ≡ limit → Barred ed bytes (state_of v x k e) shut → Barred ed bytes (state_of v x k e) shut'
  pub long : length shut' ≡ length shut

-- what a look asks for: the ends of the program's bodies, an index that is ready, steps that are left, and a word for each usable vertex
abbrev pub Lookable : Edition → List ℕ → List ℕ → List ℕ → List ℕ → Course → ℕ → List ℕ → Type 0
Lookable ed bytes ends v x k limit shut =
    MarksEnds ed bytes ends × (length ends ≡ program_bytes) × Ready v x k limit × (k.tally.steps < step_limit) × (length shut ≡ usable_limit)

-- WHAT A STEP HINGES ON
-- What h tells is enough for a refusal: none hinges on anything else. Where no row leads from `goal` to `start`, a path from `start` to `goal` is, and of
-- what needs a row that none is left.
pub record Hinges (refusal : Type 0) (x : List ℕ) (k : Course) (limit : ℕ) (h : Hinge) : Type 0 where
  pub start_usable : h.start < usable_limit
  pub goal_usable : h.goal < usable_limit
  pub barred : h.kind ≡ of_kind.Barred → refusal
  pub joined :
      (h.kind ≡ of_kind.Nothing → ⊥) → holds x k.used h.goal h.start ≡ false
      → Joined x k.used h.start h.goal ⊎ ((h.kind ≡ of_kind.PathOrRow) × (limit ≤ k.tally.held))
      → refusal

-- of a command, and of a vertex's step
abbrev pub HingedBy : List ℕ → List ℕ → Course → ℕ → Command → Hinge → Type 0
HingedBy v x k limit given h = Hinges (Foretells v x k limit given false) x k limit h

abbrev pub HingesOn : Edition → List ℕ → List ℕ → List ℕ → Course → ℕ → ℕ → Hinge → Type 0
HingesOn ed bytes v x k limit u h = Hinges (CannotOn ed bytes v x k limit u) x k limit h

-- the hinge that three lists tell of
abbrev pub hinge_at : List ℕ → List ℕ → List Kind → ℕ → Hinge
hinge_at starts goals kinds i = record { start = get_or starts i 0; goal = get_or goals i 0; kind = get_or kinds i of_kind.Nothing }

-- the first n of so many vertices from `base` on were asked
pub record Asking (ed : Edition) (bytes v x : List ℕ) (k : Course) (limit base : ℕ) (starts goals : List ℕ) (kinds : List Kind) (n : ℕ) : Type 0 where
  pub starts_long : length starts ≡ pair_limit
  pub goals_long : length goals ≡ pair_limit
  pub kinds_long : length kinds ≡ pair_limit
  pub hinges : (i : ℕ) → i < n → HingesOn ed bytes v x k limit (base + i) (hinge_at starts goals kinds i)

-- what is told of a pair means that a step of this kind is refused; `full` where no edge row is left
unfoldable pub is_refused : Bool → Telling → Kind → Bool
is_refused full t of_kind.Nothing = false
is_refused full t of_kind.Barred = true
is_refused full told.Joined of_kind.Path = true
is_refused full told.NotHeld of_kind.Path = false
is_refused full told.Nothing of_kind.Path = false
is_refused full told.Joined of_kind.PathOrRow = true
is_refused full told.NotHeld of_kind.PathOrRow = full
is_refused full told.Nothing of_kind.PathOrRow = false

-- the table of the shut, where the first n of the vertices from `base` on are shut if that is told of them
unfoldable pub shut_told : Bool → List Telling → List Kind → ℕ → List ℕ → ℕ → List ℕ
shut_told full tells kinds base shut zero = shut
shut_told full tells kinds base shut (suc n) =
    cond (is_refused full (get_or tells n told.Nothing) (get_or kinds n of_kind.Nothing)) (set (shut_told full tells kinds base shut n) (base + n) 1)
    (shut_told full tells kinds base shut n)
