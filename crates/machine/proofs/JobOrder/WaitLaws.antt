-- What a vertex holds, and what it waits for. A vertex that holds an item has a way to its scope, so an edge leads to whoever waits for a
-- job, and a vertex that executes waits for none. Hence `in_order`: a job that is answered has nothing ahead of it that is still to be
-- answered.
use Prim.Native.Nat.{ℕ}
use mathlib.Core.Path.{◌≡◌, refl, sym, ◌∙◌, ap, subst}
use mathlib.Core.Bool.{true, false}
use mathlib.Core.Logic.{inl, ⊎_elim}
use mathlib.Core.List.{List, []}
use mathlib.Core.Option.{some, some-injective, none-ne-some}
use native.Mathlib.Omega.{arith}
use Rattle.program.specs.Located.{Code, end_byte_at, job_at, start_of}
use Rattle.program.proofs.LocatedLaws.{Laid, code_laid}
use Rattle.machine.proofs.GhostMachine.Ghost.{Do, Control, draft, fresh, ready, busy, joining, over, State, onward, resumed}
use Rattle.machine.proofs.GhostMachine.Invariant.{code_of, is_item, waits, is_draft, Settled, Way, Roads, Coded}
use Rattle.machine.proofs.GhostMachine.GhostLaws.{onward_cases, resumed_cases}
use Rattle.machine.proofs.GhostMachine.RoadLaws.{busy-waits}
use Rattle.machine.proofs.GhostMachine.Ways.{way_last, nothing_to}
use Rattle.machine.proofs.JobOrder.Order.{Job, Pre, holds, Held, Waits, for_way, for_scope, for_scopes_way, Orders}
use Rattle.machine.proofs.JobOrder.OrderLaws.{ina_item, job_before, pre_not_first}

-- an end byte is no job
pub end_job : (o p : ℕ) → Job (end_byte_at o) p → ⊥
unfolding Job
end_job o p h = h

-- what a vertex holds is its code, and it is no draft
pub holds_code : (x : Control) {c : Code} → holds x ≡ some c → (code_of x ≡ some c) × (is_draft x ≡ false)
unfolding holds code_of is_draft
holds_code (draft c) h = absurd (none-ne-some _ h)
holds_code (fresh c) h = (h, refl)
holds_code (ready c) h = (h, refl)
holds_code (busy c ms) h = (h, refl)
holds_code (joining c d ds) h = (h, refl)
holds_code over h = absurd (none-ne-some _ h)

-- a vertex that is over holds nothing
pub over-holds : {x : Control} {c : Code} → x ≡ over → holds x ≡ some c → ⊥
unfolding holds
over-holds {c = c} e h = none-ne-some c (sym (ap holds e) ∙ h)

-- it holds one code
pub holds_one : (x : Control) {c d : Code} → holds x ≡ some c → holds x ≡ some d → c ≡ d
holds_one x {c} {d} h k = some-injective c d (sym h ∙ k)

-- a vertex holds the code that it goes to
pub holds-onward : (c : Code) (ds : List Do) → holds (onward c ds) ≡ some c
unfolding holds
holds-onward c = onward_cases (λ x. holds x ≡ some c) c refl (λ d ds. refl)

pub holds-resumed : (c : Code) (d : Do) (ds : List Do) → holds (resumed c d ds) ≡ some c
unfolding holds
holds-resumed c = resumed_cases (λ x. holds x ≡ some c) c refl (λ d ds. refl) refl

-- a vertex that holds an item has a way to its scope
pub held_way :
    {S : State} {u : ℕ} {c : Code} → Roads S → holds (S.control u) ≡ some c → is_item c ≡ true → Way (Settled S) u (S.scope u)
held_way {S} {u} {c} rs h i = let (k, d) = holds_code (S.control u) h in rs.way u c (k, i) d

-- so an edge leads to its scope
pub scope_led :
    {S : State} (u : ℕ) {c : Code} → Roads S → holds (S.control u) ≡ some c → is_item c ≡ true → (x : ℕ) × Settled S x (S.scope u)
scope_led u rs h i = let (x, s, from) = way_last (held_way rs h i) in (x, s)

-- and one leads to whoever waits for a job
pub waits_led : {S : State} {v p : ℕ} → Roads S → Waits S v p → (x : ℕ) × Settled S x v
waits_led rs (for_way u c h w i) = let (x, s, from) = way_last w in (x, s)
waits_led {S} {p = p} rs (for_scope u c h e j) =
    subst (λ (z : ℕ). (x : ℕ) × Settled S x z) e (scope_led u rs h (ina_item c p j))
waits_led rs (for_scopes_way u c h w j) = let (x, s, from) = way_last w in (x, s)

-- a vertex that executes waits for nothing
pub waits_none : {S : State} {v p : ℕ} → Roads S → waits (S.control v) ≡ false → Waits S v p → ⊥
waits_none rs e w = let (x, s) = waits_led rs w in nothing_to rs e x s

-- the code that a vertex holds is laid
pub held_laid : (m : Code) (S : State) (u : ℕ) {c : Code} → Laid m → Coded m S → holds (S.control u) ≡ some c → Laid c
held_laid m S u {c} lm cd h = code_laid m (start_of c) lm (cd u c (holds_code (S.control u) h).0)

-- a job is not written behind itself
pub job_behind : (o n : ℕ) (r : Code) → Laid (job_at o n r) → Job r o → ⊥
job_behind o n r l h = absurd (omega (arith, job_before o n r o l h))

-- and nothing is ahead of it from it on
job_first : (o n p : ℕ) (r : Code) → Laid (job_at o n r) → Pre (job_at o n r) p o → ⊥
unfolding start_of
job_first o n p r l h = pre_not_first (job_at o n r) p l h

-- it is a job of the code from it on
pub job_own : (o n : ℕ) (r : Code) → Job (job_at o n r) o
unfolding Job
job_own o n r = inl refl

-- a vertex that executes holds its code
pub busy-holds : {x : Control} {c : Code} {ms : List ℕ} → x ≡ busy c ms → holds x ≡ some c
unfolding holds
busy-holds e = ap holds e

-- A job that is answered now has nothing ahead of it that is still to be answered.
pub in_order :
    {m : Code} {S : State} → Roads S → Laid m → Coded m S → Orders m S → (v o n : ℕ) (r : Code) → S.control v ≡ busy (job_at o n r) []
    → (u p : ℕ) → Held S u p → Pre m p o → ⊥
in_order {m} {S} rs lm cd os v o n r q u p h a =
    let c = job_at o n r in
    let at = busy-holds q in
    ⊎_elim (waits_none rs (busy-waits q)) (job_first o n p r (held_laid m S v lm cd at))
    (os.only v o c at (job_own o n r) u p h a)
