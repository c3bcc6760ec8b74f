-- A look at a command before it is given. Whether it would be accepted is told by what is known if no refusal is due, and what it hinges on by
-- what is known besides if it is accepted.
use Rattle.std.specs.Prelude.{Option, Some}
use Prim.Native.Nat.{ℕ, ◌<◌}
use mathlib.Core.Path.{◌≡◌, refl, sym, ◌∙◌, ap, subst}
use mathlib.Core.Bool.{Bool, true, false}
use mathlib.Core.Logic.{⊎_elim, ◌↔◌}
use mathlib.Core.List.{List}
use native.Mathlib.Omega.{arith}
use lib.Dec.{eqb, ltb}
use borrow.Author.Tests.{lt-ltb, ltb-true, eq-eqb, ne_eqb, eqb-true}
use Rattle.refusal.specs.declared.Reason.{Reason}
use Rattle.refusal.specs.Reasons.{number}
use Rattle.refusal.proofs.ReasonLaws.{number_positive}
use Rattle.graph.specs.declared.Command.{Command}
use Rattle.graph.specs.declared.Command.TheVariants.{NewTd, NewEdge, Release, Transfer, Stop, Yield}
use Rattle.graph.specs.Tests.{both}
use Rattle.graph.specs.Tables.{lent, NEW, FINISHED, usable_limit, vertex_rows, edge_rows, status}
use Rattle.graph.specs.Sound.{sound}
use Rattle.graph.specs.Answers.{accepted}
use Rattle.graph.specs.Commands.{ends_refusal, adds_nothing, new_edge_refusal, command}
use Rattle.graph.proofs.TestLaws.{true-false, same, not_so, both_true, both_left, both_right}
use Rattle.graph.proofs.EdgeLaws.{held_decides}
use Rattle.graph.proofs.CycleLaws.{target_reaches_lem}
use Rattle.graph.proofs.TakenLaws.{refusal, Taken, taken, not_refused, is_accepted}
use Rattle.graph.proofs.CallLaws.{settle, answered, ends_due, ends_free}
use Rattle.index.specs.declared.Course.{Course}
use Rattle.index.specs.declared.Pair.{Pair}
use Rattle.index.specs.Underway.{state_of, Ready, Executes, caller_of}
use Rattle.index.specs.Asking.{Foretells, Asks}
use Rattle.index.proofs.CommandLaws.{held_found, path_found, rows_there, made_rows, runs}
use Rattle.index.proofs.EdgeCommands.{ends_there}

-- a command by its case: its caller, and what it hinges on
module _ (v : List ℕ) (k : Course) {given c : Command} (is : given ≡ c) where
  pub executes_case : Executes v k (caller_of given) → Executes v k (caller_of c)
  executes_case h = subst (λ (d : Command). Executes v k (caller_of d)) is h

  pub asked_case :
      (r : Option Pair) → ((x : List ℕ) (limit : ℕ) → Ready v x k limit → Asks v x k limit c r)
      → (x : List ℕ) (limit : ℕ) → Ready v x k limit → Asks v x k limit given r
  asked_case r h x limit ready = subst (λ (d : Command). Asks v x k limit d r) (sym is) (h x limit ready)

module _ {v x : List ℕ} {k : Course} {limit : ℕ} (ready : Ready v x k limit) where
  -- and whether it is accepted
  pub foretold_case : {given c : Command} {b : Bool} → given ≡ c → Foretells v x k limit c b → Foretells v x k limit given b
  foretold_case {b = b} is h = subst (λ (d : Command). Foretells v x k limit d b) (sym is) h

  -- it is accepted exactly where it is taken
  foretold :
      (c : Command) {b : Bool} → ((e : List ℕ) → edge_rows e ≡ limit → (b ≡ true) ↔ Taken c (state_of v x k e)) → Foretells v x k limit c b
  foretold c {b} d =
      λ e rows.
      let s = state_of v x k e in
      same b (accepted (command c s).answer)
      (λ h. is_accepted c s ((taken c s).1 ((d e rows).0 h)))
      (λ h. (d e rows).1 ((taken c s).0 (not_refused c s h)))

  -- so exactly where the number due is 0
  pub number_foretells :
      (c : Command) {n : ℕ} → ((e : List ℕ) → edge_rows e ≡ limit → n ≡ refusal c (state_of v x k e)) → Foretells v x k limit c (eqb n 0)
  number_foretells c {n} due =
      foretold c
      (λ e rows. (
        λ h. (taken c _).0 (sym (due e rows) ∙ eqb-true n 0 h),
        λ h. eq-eqb n 0 (due e rows ∙ (taken c _).1 h),
      ))

  module _ (t : ℕ) (executes : Executes v k t) where
    pub vertex_foretold :
        (place scope : ℕ) {b : Bool} → b ≡ ltb k.tally.made (vertex_rows v) → Foretells v x k limit (NewTd t place scope) b
    vertex_foretold place scope p =
        foretold (NewTd t place scope)
        (λ e rows. (λ h. (runs ready t executes e rows, ltb-true _ _ (sym p ∙ h)), λ h. p ∙ lt-ltb _ _ h.1))

    pub release_foretold :
        (u : ℕ) {b : Bool} → b ≡ both (ltb u k.tally.made) (eqb (status v u) NEW) → Foretells v x k limit (Release t u) b
    release_foretold u p =
        foretold (Release t u)
        (λ e rows. (
          λ h.
              let q = sym p ∙ h in
              (runs ready t executes e rows, ltb-true _ _ (both_left _ _ q), eqb-true _ _ (both_right _ _ q)),
          λ h. p ∙ both_true (lt-ltb _ _ h.1) (eq-eqb _ _ h.2),
        ))

    pub stop_foretold : Foretells v x k limit (Stop t) true
    stop_foretold = foretold (Stop t) (λ e rows. (λ h. runs ready t executes e rows, λ h. refl))

    pub yield_foretold : Foretells v x k limit (Yield t) true
    yield_foretold = foretold (Yield t) (λ e rows. (λ h. runs ready t executes e rows, λ h. refl))

  -- newEdge: its ends are refused, or it adds nothing
  module _ (t a b : ℕ) {m : ℕ} (first : (e : List ℕ) → sound (lent v e k.tally) ≡ true → m ≡ ends_refusal (lent v e k.tally) t a b 0) where
    pub ends_foretold : (r : Reason) → m ≡ number r → Foretells v x k limit (NewEdge t a b) false
    unfolding new_edge_refusal
    ends_foretold r is =
        λ e rows.
        sym (ne_eqb (number r) 0 (λ z. let p = number_positive r in omega arith))
        ∙ number_foretells (NewEdge t a b) (λ e' rows'. ends_due _ _ _ _ r _ (sym is ∙ first _ (ready.sound e' rows'))) e rows

    pub nothing_foretold :
        m ≡ 0 → {y : Bool} → ((e : List ℕ) → y ≡ adds_nothing (state_of v x k e) a b) → y ≡ true → Foretells v x k limit (NewEdge t a b) true
    unfolding new_edge_refusal
    nothing_foretold free looked none =
        number_foretells (NewEdge t a b)
        (λ e rows. ends_free _ _ _ _ (sym free ∙ first _ (ready.sound e rows)) (settle 0 _ (answered (looked e) none)))

    -- or it hinges on a path back, and on a row
    pub edge_asks :
        m ≡ 0 → both (ltb a k.tally.made) (eqb (status v a) FINISHED) ≡ false → Asks v x k limit (NewEdge t a b) (Some (record { start = b; goal = a; appends = true }))
    edge_asks free unfinished =
        let (source_made, target_made) = ends_there ready t a b first free in
        let from : a < usable_limit = omega (arith, made_rows ready) in
        let to : b < usable_limit = omega (arith, made_rows ready) in (
          to,
          from,
          λ unheld why e rows.
              not_so _
              (λ h.
              ⊎_elim
              (⊎_elim
              (λ over. true-false (both_true (lt-ltb _ _ source_made) (eq-eqb _ _ over)) unfinished)
              (λ held.
              true-false ((held_decides (state_of v x k e) a b).1 held)
              (held_found x k.used k.peak e ready.live a from b refl unheld)))
              (λ adds.
              ⊎_elim
              (⊎_elim
              (λ one. adds.not_same (sym one))
              (λ path. true-false (path_found x k.used k.peak e ready.live b to ready.indexed a refl path) adds.no_path))
              (λ full.
              omega
              (arith, rows_there x k.used k.peak e ready.live ready.below_peak ready.within rows, full.1, adds.row_free))
              why)
              ((taken (NewEdge t a b) (state_of v x k e)).0 (not_refused (NewEdge t a b) _ h)).1.adds),
        )

  -- transfer to a new vertex hinges on a path to it
  pub transfer_asks :
      (t u : ℕ) → Executes v k t → both (ltb u k.tally.made) (eqb (status v u) NEW) ≡ true
      → Asks v x k limit (Transfer t u) (Some (record { start = t; goal = u; appends = false }))
  transfer_asks t u executes new =
      let is_made : u < k.tally.made = ltb-true _ _ (both_left _ _ new) in
      let is_new : status v u ≡ NEW = eqb-true _ _ (both_right _ _ new) in
      let from : t < usable_limit = omega (arith, made_rows ready, executes.0) in (
        from,
        omega (arith, made_rows ready),
        λ unheld why e rows.
            not_so _
            (λ h.
            ⊎_elim
            (⊎_elim
            (λ one. omega (arith, ap (λ (w : ℕ). status v w) one, executes.1, is_new))
            (λ path.
            true-false (path_found x k.used k.peak e ready.live t from ready.indexed u refl path)
            (sym (target_reaches_lem _ _ t u) ∙ ((taken (Transfer t u) (state_of v x k e)).0 (not_refused (Transfer t u) _ h)).1.no_path)))
            (λ full. true-false refl (sym full.0))
            why),
      )
