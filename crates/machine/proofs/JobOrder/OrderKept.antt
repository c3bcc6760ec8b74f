-- The order of jobs: it holds after loading, and every move keeps it. With `in_order` of WaitLaws this is the order of the answers.
--
--     orders_beginning   Orders p (beginning p Γ)
--     orders_kept        Orders p S → Move S v e S' → Orders p S', where p is laid and S has its invariants
use Prim.Native.Nat.{ℕ}
use mathlib.Core.Path.{◌≡◌, refl, sym, ◌∙◌, subst}
use mathlib.Core.Logic.{inr, ⊎_elim}
use mathlib.Core.List.{[], ◌∷◌, ◌++◌}
use mathlib.Core.Option.{some}
use native.Mathlib.Omega.{arith}
use Rattle.program.specs.Located.{Code}
use Rattle.program.proofs.LocatedLaws.{Laid}
use Rattle.machine.proofs.GhostMachine.Ghost.{link, hand, free, yield, Setting, State, done, Event, Move, begins, performs, stops, makes, splits, acts}
use Rattle.machine.proofs.GhostMachine.Invariant.{Shape, Ranks, Roads, Opened, Coded}
use Rattle.machine.proofs.GhostMachine.GhostLaws.{clash, in_none, splits_at}
use Rattle.machine.proofs.GhostMachine.SettledLaws.{acts_did, link_back, link_on, hand_back, hand_on, plain_back, plain_on}
use Rattle.machine.proofs.GhostMachine.RoadsKept.{roads_kept}
use Rattle.machine.proofs.GhostMachine.Beginning.{beginning, beginning_code}
use Rattle.machine.proofs.GhostMachine.BeginningRoads.{roads_beginning, beginning_settled}
use Rattle.machine.proofs.JobOrder.Order.{Job, Pre, holds, Held, Orders}
use Rattle.machine.proofs.JobOrder.WaitLaws.{end_job, waits_led, holds_code}
use Rattle.machine.proofs.JobOrder.OrderMoves.{begins_orders, performs_orders, stops_orders, makes_orders, acts_orders}
use Rattle.machine.proofs.JobOrder.OrderSplit.{splits_orders}

-- after loading vertex 0 alone holds jobs, those of the program
holder : (p : Code) (Γ : Setting) (u q : ℕ) {c : Code} → holds ((beginning p Γ).control u) ≡ some c → Job c q → (u ≡ 0) × (p ≡ c)
holder p Γ u q h j =
    beginning_code p Γ u (holds_code ((beginning p Γ).control u) h).0
    (λ e e'. (e, e'))
    (λ e e'. absurd (end_job Γ.last_byte q (subst (λ (z : Code). Job z q) (sym e') j)))

-- and nothing leads to it; no future is open
pub orders_beginning : (p : Code) (Γ : Setting) → Orders p (beginning p Γ)
unfolding beginning
orders_beginning p Γ =
    record {
      alone = λ u v q h k. first h ∙ sym (first k);
      only = λ v q c h j u x k a. inr (subst (λ (z : Code). Pre z x q) (holder p Γ v q h j).1 a);
      each =
          λ v q c h j u x k a.
          let (e, e') = holder p Γ v q h j in
          ⊎_elim
          (λ w.
          let (y, s) = waits_led (roads_beginning p Γ) w in
          absurd (omega (arith, e, (beginning_settled p Γ s).1)))
          (λ f. subst (λ (z : Code). Pre z x q) (sym e') f)
          a;
      awaits = λ v t b l i u q k a. in_none i;
      awaited = λ v t b l i u q k w. in_none i;
    }
  where
    first : {u q : ℕ} → Held (beginning p Γ) u q → u ≡ 0
    first {u} {q} (Held.held c h j) = (holder p Γ u q h j).0

-- every move keeps the order
pub orders_kept :
    {p : Code} {v : ℕ} {S S' : State} {e : Event} → Laid p → Shape S → Opened S → Ranks S → Roads S → Coded p S → Orders p S → Move S v e S'
    → Orders p S'
unfolding done
orders_kept lp sh op rk rs cd os (begins q f) = begins_orders os q
orders_kept lp sh op rk rs cd os (performs q) = performs_orders lp cd os q
orders_kept lp sh op rk rs cd os (stops q) = stops_orders rs os q
orders_kept {S = S} lp sh op rk rs cd os (makes {ms = ms} {k = k} q w) = makes_orders k (ms ++ (S.count ∷ [])) sh os q
orders_kept {p} {S = S} lp sh op rk rs cd os (splits {c = c} {ms = ms} q w) =
    splits_orders p lp cd sh op rk rs (roads_kept sh op rs (splits q w)) os q (splits_at S.setting c ms w)
orders_kept lp sh op rk rs cd os (acts {d = link a b} q) =
    let D = acts_did sh q in
    acts_orders os q (λ u. refl) (λ u. refl) (λ x y. link_back sh D (λ x y. refl)) (λ x y. link_on sh D (λ x y. refl))
    (λ t b w l i. (w, l, i))
orders_kept lp sh op rk rs cd os (acts {d = hand h} q) =
    let D = acts_did sh q in
    acts_orders os q (λ u. refl) (λ u. refl) (λ x y. hand_back sh D (λ x y. refl)) (λ x y. hand_on sh D (λ x y. refl))
    (λ t b w l i. (w, l, i))
orders_kept lp sh op rk rs cd os (acts {d = free m} q) =
    let D = acts_did sh q in
    acts_orders os q (λ u. refl) (λ u. refl) (λ x y. plain_back (λ h p. clash cc) D (λ x y. refl))
    (λ x y. plain_on (λ h p. clash cc) (λ a b p. clash cc) D (λ x y. refl)) (λ t b w l i. (w, l, i))
orders_kept lp sh op rk rs cd os (acts {d = yield} q) =
    let D = acts_did sh q in
    acts_orders os q (λ u. refl) (λ u. refl) (λ x y. plain_back (λ h p. clash cc) D (λ x y. refl))
    (λ x y. plain_on (λ h p. clash cc) (λ a b p. clash cc) D (λ x y. refl)) (λ t b w l i. (w, l, i))
