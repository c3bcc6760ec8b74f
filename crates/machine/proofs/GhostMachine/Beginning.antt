-- The ghost machine as loading begins it: two vertices, both ready, and an edge from the first to the second. What is seen of this state is
-- told by cases: `beginning_control` of what each vertex is at, `beginning_code` of its code, `beginning_edge` of the edges.
use Prim.Native.Nat.{ℕ, suc}
use mathlib.Core.Path.{◌≡◌, refl}
use mathlib.Core.Bool.{true, false}
use mathlib.Core.List.{[]}
use mathlib.Core.Option.{some, some-injective, none-ne-some}
use Rattle.graph.proofs.TestLaws.{true-false}
use Rattle.program.specs.Located.{Code, end_byte_at}
use Rattle.machine.proofs.GhostMachine.Ghost.{Control, ready, over, Setting, State, put, linked}
use Rattle.machine.proofs.GhostMachine.Invariant.{tasks, tasks_of, code_of}
use Rattle.machine.proofs.GhostMachine.GhostLaws.{put_cases}
use Rattle.machine.proofs.GhostMachine.RoadLaws.{linked_cases}

-- Vertex 0 has the whole program p; vertex 1 has its last byte, ranks behind all code, and is the scope of both.
unfoldable pub beginning : Code → Setting → State
beginning p Γ =
    record {
      count = 2;
      control = put (put (λ u. over) 1 (ready (end_byte_at Γ.last_byte))) 0 (ready p);
      scope = λ u. 1;
      edge = linked (λ a b. false) 0 1;
      maker = λ u. 0;
      rank = put (λ u. suc Γ.last_byte) 0 0;
      fin = put (λ u. suc Γ.last_byte) 0 Γ.last_byte;
      opens = λ u. [];
      setting = Γ;
    }

-- its two vertices are ready, and there are no others
pub beginning_control :
    (p : Code) (Γ : Setting) (P : Control → Type 0) (u : ℕ) → (u ≡ 0 → P (ready p)) → (u ≡ 1 → P (ready (end_byte_at Γ.last_byte)))
    → ((u ≡ 0 → ⊥) → (u ≡ 1 → ⊥) → P over) → P ((beginning p Γ).control u)
unfolding beginning
beginning_control p Γ P u first second other =
    put_cases P (put (λ u. over) 1 (ready (end_byte_at Γ.last_byte))) 0 (ready p) u first
    (λ n. put_cases P (λ u. over) 1 (ready (end_byte_at Γ.last_byte)) u second (other n))

-- nothing is left to do of an item
pub beginning_tasks : (p : Code) (Γ : Setting) (u : ℕ) → tasks_of (beginning p Γ) u ≡ []
unfolding tasks
beginning_tasks p Γ u = beginning_control p Γ (λ x. tasks x ≡ []) u (λ e. refl) (λ e. refl) (λ n n'. refl)

-- the code is the program's, at vertex 0, or the last byte, at vertex 1
pub beginning_code :
    {P : Type 0} (p : Code) (Γ : Setting) (u : ℕ) {c : Code} → code_of ((beginning p Γ).control u) ≡ some c → (u ≡ 0 → p ≡ c → P)
    → (u ≡ 1 → end_byte_at Γ.last_byte ≡ c → P) → P
unfolding code_of
beginning_code {P} p Γ u {c} h f g =
    beginning_control p Γ (λ x. code_of x ≡ some c → P) u
    (λ e h. f e (some-injective p c h))
    (λ e h. g e (some-injective (end_byte_at Γ.last_byte) c h))
    (λ n n' h. absurd (none-ne-some c h))
    h

-- the one edge
pub beginning_edge : (p : Code) (Γ : Setting) (a b : ℕ) → (beginning p Γ).edge a b ≡ true → (a ≡ 0) × (b ≡ 1)
unfolding beginning
beginning_edge p Γ a b e = linked_cases (λ a b. false) 0 1 a b e (λ z. true-false z refl) (λ q r. (q, r))
