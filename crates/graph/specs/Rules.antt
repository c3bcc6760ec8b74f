-- The rules "Operational Semantics (1)" and "(2)" as the slides print them, and NEWEDGE and YIELD as the article does (note 10; docs/ENGINE.md,
-- "Where the rules come from"), of vertices with statuses and a set of edges. A vertex's program, the memory σ and rule STEP are the host's and left out; so is the caller's own entry where a
-- rule leaves its status X.
use Rattle.std.specs.Prelude.{ℕ, ◌≡◌, ◌⊎◌, Bool, true, false, not, cond, eqb}
use Rattle.std.proofs.Math.Option.{Option, none, some}
use Rattle.graph.specs.declared.Command.{Command}
use Rattle.graph.specs.declared.Command.TheVariants.{NewTd, NewEdge, Release, Transfer, Start, Stop, Yield}
use Rattle.graph.specs.Tests.{both, either}
use Rattle.graph.specs.Tables.{NEW, RELEASED, EXECUTING, FINISHED}
use Rattle.graph.specs.Paths.{CycleFree}

infixl 30 ◌∪◌
infixl 40 ◌∖◌
-- (V, E): V gives a vertex's status, and nothing outside dom(V); E is a set of pairs.
pub record Graph : Type 0 where
  pub status : ℕ → Option ℕ
  pub edge : ℕ → ℕ → Bool

abbrev pub N : Option ℕ
N = some NEW

abbrev pub R : Option ℕ
R = some RELEASED

abbrev pub X : Option ℕ
X = some EXECUTING

abbrev pub F : Option ℕ
F = some FINISHED

abbrev pub is_some : Option ℕ → Bool
is_some none = false
is_some (some s) = true

abbrev pub is_finished : Option ℕ → Bool
is_finished none = false
is_finished (some s) = eqb s FINISHED

-- V[t ↦ s]
abbrev pub put : (ℕ → Option ℕ) → ℕ → Option ℕ → ℕ → Option ℕ
put status t s x = cond (eqb x t) s (status x)

-- x ∈ dom(V)
abbrev pub in_domain : Graph → ℕ → Bool
in_domain G x = is_some (G.status x)

-- {(t, t'') | t'' ∈ dom(V)}
abbrev pub out_of : Graph → ℕ → ℕ → ℕ → Bool
out_of G t a b = both (eqb a t) (in_domain G b)

-- {(t', t'') | (t, t'') ∈ E}
abbrev pub resourced : Graph → ℕ → ℕ → ℕ → ℕ → Bool
resourced G t t' a b = both (eqb a t') (G.edge t b)

-- if status(V(t1)) = F then ∅ else {(t1, t2)}
abbrev pub added : Graph → ℕ → ℕ → ℕ → ℕ → Bool
added G t1 t2 a b = cond (is_finished (G.status t1)) false (both (eqb a t1) (eqb b t2))

abbrev pub ◌∖◌ : (ℕ → ℕ → Bool) → (ℕ → ℕ → Bool) → ℕ → ℕ → Bool
◌∖◌ E D a b = both (E a b) (not (D a b))

-- The slides' ⊎, a plain union: "In the calculus the edges are a set" (note 3).
abbrev pub ◌∪◌ : (ℕ → ℕ → Bool) → (ℕ → ℕ → Bool) → ℕ → ℕ → Bool
◌∪◌ E D a b = either (E a b) (D a b)

pub record NEWTD (G : Graph) (t t' : ℕ) (G' : Graph) : Type 0 where
  pub caller : G.status t ≡ X
  pub fresh : G.status t' ≡ none
  pub after : G' ≡ record { status = put G.status t' N; edge = G.edge }

pub record RELEASE (G : Graph) (t t' : ℕ) (G' : Graph) : Type 0 where
  pub caller : G.status t ≡ X
  pub is_new : G.status t' ≡ N
  pub after : G' ≡ record { status = put G.status t' R; edge = G.edge }

pub record START (G : Graph) (t : ℕ) (G' : Graph) : Type 0 where
  pub is_released : G.status t ≡ R
  pub no_edge_in : (t' : ℕ) → G.edge t' t ≡ false
  pub after : G' ≡ record { status = put G.status t X; edge = G.edge }

pub record STOP (G : Graph) (t : ℕ) (G' : Graph) : Type 0 where
  pub caller : G.status t ≡ X
  pub after : G' ≡ record { status = put G.status t F; edge = G.edge ∖ out_of G t }

-- In the two rules that have the premise "E' cycle-free", `Free` stands for "cycle-free".
pub record NEWEDGE (Free : (ℕ → ℕ → Bool) → Type 0) (G : Graph) (t t1 t2 : ℕ) (G' : Graph) : Type 0 where
  pub caller : G.status t ≡ X
  pub source_in : in_domain G t1 ≡ true
  pub target_in : in_domain G t2 ≡ true
  -- status(V(t2)) ∈ {N, R} ∨ t2 = t
  pub target_waits : ((G.status t2 ≡ N) ⊎ (G.status t2 ≡ R)) ⊎ (t2 ≡ t)
  pub after : G' ≡ record { status = G.status; edge = G.edge ∪ added G t1 t2 }
  pub cycle_free : Free G'.edge

pub record TRANSFER (Free : (ℕ → ℕ → Bool) → Type 0) (G : Graph) (t t' : ℕ) (G' : Graph) : Type 0 where
  pub caller : G.status t ≡ X
  pub is_new : G.status t' ≡ N
  pub no_edge_out : (t'' : ℕ) → G.edge t' t'' ≡ false
  pub after : G' ≡ record { status = G.status; edge = (G.edge ∖ out_of G t) ∪ resourced G t t' }
  pub cycle_free : Free G'.edge

pub record YIELD (G : Graph) (t : ℕ) (G' : Graph) : Type 0 where
  pub caller : G.status t ≡ X
  pub after : G' ≡ record { status = put G.status t R; edge = G.edge }

-- The rule of each command. t' of NEWTD is any fresh vertex.
abbrev pub Rule : ((ℕ → ℕ → Bool) → Type 0) → Command → Graph → Graph → Type 0
Rule Free (NewTd t place scope) G G' = (t' : ℕ) × NEWTD G t t' G'
Rule Free (NewEdge t t1 t2) G G' = NEWEDGE Free G t t1 t2 G'
Rule Free (Release t t') G G' = RELEASE G t t' G'
Rule Free (Transfer t t') G G' = TRANSFER Free G t t' G'
Rule Free (Start t) G G' = START G t G'
Rule Free (Stop t) G G' = STOP G t G'
Rule Free (Yield t) G G' = YIELD G t G'

-- the rule as it is printed
abbrev pub Printed : Command → Graph → Graph → Type 0
Printed = Rule CycleFree

-- the rule without its premise "E' cycle-free", which tables that were lent with a cycle can break before the command
abbrev pub Unguarded : Command → Graph → Graph → Type 0
Unguarded = Rule (λ E. Unit {0})
