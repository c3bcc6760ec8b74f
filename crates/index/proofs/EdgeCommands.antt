-- The commands that change edges, on an index: newEdge, transfer and stop.
use Prim.Native.Nat.{ℕ, suc, ◌+◌, ◌-◌, ◌<◌, ◌≤◌, max}
use mathlib.Core.Path.{◌≡◌, refl, sym, ◌∙◌, ap}
use mathlib.Core.Bool.{Bool, true, false}
use mathlib.Core.Logic.{◌⊎◌, inl, inr, ⊎_elim}
use mathlib.Core.List.{List}
use native.Mathlib.Omega.{arith}
use lib.Dec.{eqb}
use Rattle.graph.specs.declared.Command.TheVariants.{NewEdge, Transfer, Stop}
use Rattle.graph.specs.declared.Answer.TheVariants as answers
use Rattle.graph.specs.Tests.{how_many}
use Rattle.graph.specs.Tables.{lent, FINISHED, usable_limit, edge_rows, status, set_status, source, target}
use Rattle.graph.specs.Sound.{edges_made, sound}
use Rattle.graph.specs.Paths.{leads_out_of}
use Rattle.graph.specs.Commands.{ends_refusal, adds_nothing, append_refusal, new_edge_refusal, transfer_refusal}
use Rattle.graph.specs.Commands.{appended, more_into, with_edge, moved, with_moved, kept_rows, without_edges_of, lowered, stopped}
use Rattle.graph.specs.Demand2.{AddsNothing}
use Rattle.graph.proofs.TestLaws.{equal?, both_right}
use Rattle.graph.proofs.TakenLaws.{Adds, Taken, taken_ends, adds_nothing_lem, adds_one, taken_append, taken}
use Rattle.graph.proofs.EffectLaws.{leaves_all, leaves_edge}
use Rattle.graph.proofs.CallLaws.{pass_over, answered, ends_free}
use Rattle.index.specs.declared.Course.{Course}
use Rattle.index.specs.Layout.{nowhere, row_limit, Indexed, SameRows}
use Rattle.index.specs.Table.{live_rows, table_of}
use Rattle.index.specs.Underway.{state_of, Ready, Executes, Changes}
use Rattle.index.proofs.StandsFor.{lowered-table_of, ends_made_lem}
use Rattle.index.proofs.Updates.{table_of-appended, table_of-moved, table_of_dropped}
use Rattle.index.proofs.Widening.{widens_same, widens_edge, widens_stop}
use Rattle.index.proofs.CommandLaws.{out_found, rows_there, blank, blank_rows, made_rows, runs, taken_changes}

-- the course with a row more used and an edge more held
abbrev pub one_more_edge : Course → Course
one_more_edge k =
    record {
      tally = record { made = k.tally.made; held = k.tally.held + 1; steps = k.tally.steps };
      used = k.used + 1;
      peak = max k.peak (k.tally.held + 1);
    }

-- the course with n edges less held
abbrev pub fewer_edges : Course → ℕ → Course
fewer_edges k n =
    record {
      tally = record { made = k.tally.made; held = k.tally.held - n; steps = k.tally.steps };
      used = k.used;
      peak = k.peak;
    }

-- what an index with a row more stands for
grows :
    (x x' : List ℕ) (used peak held limit : ℕ) (e : List ℕ) (a b : ℕ) → Indexed x used → held ≡ live_rows x used → held ≤ peak → held < limit
    → used < row_limit → a < usable_limit → SameRows (used + 1) x' (appended x used a b) → edge_rows e ≡ limit
    → (table_of x' (used + 1) (max peak (held + 1)) e ≡ appended (table_of x used peak e) held a b) × (held + 1 ≡ live_rows x' (used + 1))
grows x x' used peak held limit e a b indexed live below room left usable rows there =
    let next : used + 1 ≡ suc used = omega arith in
    let top = max peak (held + 1) in
    let peaks : ((top ≡ peak) × (suc (live_rows x used) ≤ peak)) ⊎ ((top ≡ suc (live_rows x used)) × (peak ≡ live_rows x used)) =
    ⊎_elim (λ q. inr (omega arith, omega arith)) (λ ne. inl (omega arith, omega arith)) (equal? peak held) in
    let (table, more) =
    table_of-appended x x' used peak top e a b usable (omega arith) peaks (omega (arith, indexed.long)) (rw next at rows) in
    (rw next (table ∙ ap (λ (n : ℕ). appended (table_of x used peak e) n a b) (sym live)), rw next (omega arith))

module _ {v x : List ℕ} {k : Course} {limit : ℕ} (ready : Ready v x k limit) where
  -- transfer, to a vertex that is not the caller and has no edge out
  module _ (t t' : ℕ) {m : ℕ} (due : (e : List ℕ) → sound (state_of v x k e) ≡ true → m ≡ transfer_refusal (state_of v x k e) t t') (free : m ≡ 0) where
    transfer_taken : (e : List ℕ) → edge_rows e ≡ limit → Taken (Transfer t t') (state_of v x k e)
    transfer_taken e rows = (taken (Transfer t t') (state_of v x k e)).0 (sym (due e (ready.sound e rows)) ∙ free)

    pub transfer_ends : (t < usable_limit) × (t' < usable_limit) × (t ≡ t' → ⊥) × (leads_out_of x k.used t' ≡ false)
    transfer_ends =
        let (caller, vertex) = transfer_taken (blank ready) (blank_rows ready) in
        let usable : t' < usable_limit = omega (arith, made_rows ready, vertex.is_made) in (
          omega (arith, made_rows ready, caller.is_made),
          usable,
          λ z. omega (arith, ap (λ (u : ℕ). status v u) z, caller.executing, vertex.is_new),
          sym (out_found x k.used k.peak (blank ready) ready.live t' usable refl refl) ∙ vertex.no_edge_out,
        )

    moves :
        (x' : List ℕ) → SameRows k.used x' (moved t t' x k.used) → (e : List ℕ)
        → (table_of x' k.used k.peak e ≡ moved t t' (table_of x k.used k.peak e) (live_rows x k.used))
        × (live_rows x' k.used ≡ live_rows x k.used)
    moves x' rows e =
        table_of-moved x x' k.used k.peak e t t' transfer_ends.0 transfer_ends.1
        (omega (arith, ready.indexed.long, ready.indexed.few)) rows

    transfer_leaves :
        (x' : List ℕ) → SameRows k.used x' (moved t t' x k.used) → (e : List ℕ) → state_of v x' k e ≡ with_moved (state_of v x k e) t t'
    unfolding with_moved
    transfer_leaves x' rows e =
        let (table, live) = moves x' rows e in rw (table, ready.live)

    pub transfer_changes :
        (x' : List ℕ) (lowest highest : ℕ) → Indexed x' k.used → SameRows k.used x' (moved t t' x k.used)
        → Changes (Transfer t t') v x k limit (record { answer = answers.Transfer t'; course = k; lowest = lowest; highest = highest }) v x'
    transfer_changes x' lowest highest indexed rows =
        taken_changes ready (Transfer t t') _ v x' transfer_taken
        (λ e r. refl)
        (λ e r. transfer_leaves x' rows e)
        indexed
        (ready.live ∙ sym (moves x' rows (blank ready)).1)
        (ready.below_peak, ready.within)
        (widens_same v k.tally.made lowest highest)

  -- newEdge, whose ends are made
  module _ (t a b : ℕ) {m : ℕ} (first : (e : List ℕ) → sound (lent v e k.tally) ≡ true → m ≡ ends_refusal (lent v e k.tally) t a b 0)
      (free : m ≡ 0) where
    ends_taken : (e : List ℕ) → edge_rows e ≡ limit → ends_refusal (state_of v x k e) t a b 0 ≡ 0
    ends_taken e rows = sym (first (table_of x k.used k.peak e) (ready.sound e rows)) ∙ free

    pub ends_there : (a < k.tally.made) × (b < k.tally.made)
    ends_there = let taken = (taken_ends (state_of v x k (blank ready)) t a b 0).0 (ends_taken (blank ready) (blank_rows ready)) in (taken.1, taken.2)

    edge_taken :
        (e : List ℕ) → edge_rows e ≡ limit → AddsNothing (state_of v x k e) a b ⊎ Adds (state_of v x k e) a b
        → Taken (NewEdge t a b) (state_of v x k e)
    edge_taken e rows adds =
        let (caller, source_made, target_made, waits, none) = (taken_ends (state_of v x k e) t a b 0).0 (ends_taken e rows) in
        (caller, record { source_made = source_made; target_made = target_made; waits = waits; adds = adds })

    module _ {y : Bool} (looked : (e : List ℕ) → y ≡ adds_nothing (state_of v x k e) a b) where
      nothing : y ≡ true → (e : List ℕ) → AddsNothing (state_of v x k e) a b
      nothing none e = (adds_nothing_lem (state_of v x k e) a b).0 (answered (looked e) none)

      -- it adds nothing
      pub edge_nothing :
          (lowest highest : ℕ) → y ≡ true
          → Changes (NewEdge t a b) v x k limit (record { answer = answers.Edge a b; course = k; lowest = lowest; highest = highest }) v x
      edge_nothing lowest highest none =
          taken_changes ready (NewEdge t a b) _ v x
          (λ e rows. edge_taken e rows (inl (nothing none e)))
          (λ e rows. refl)
          (λ e rows. sym (leaves_all (state_of v x k e) t a b (nothing none e)))
          ready.indexed
          ready.live
          (ready.below_peak, ready.within)
          (widens_same v k.tally.made lowest highest)

      module _ (some : y ≡ false) {n : ℕ}
          (last : (e : List ℕ) → edge_rows e ≡ limit → n ≡ append_refusal (table_of x k.used k.peak e) k.tally.held a b) where
        -- it is refused behind that
        pub edge_due : (e : List ℕ) → edge_rows e ≡ limit → n ≡ new_edge_refusal (state_of v x k e) t a b
        unfolding new_edge_refusal
        edge_due e rows =
            ends_free (state_of v x k e) t a b (sym (ends_taken e rows)) (pass_over 0 (answered (looked e) some) (last e rows))

        -- or a row is free for it
        module _ (none : n ≡ 0) where
          edge_adds : (e : List ℕ) → edge_rows e ≡ limit → Adds (state_of v x k e) a b
          edge_adds e rows =
              let (not_finished, not_held) = (adds_one (state_of v x k e) a b).0 (answered (looked e) some) in
              let (not_same, no_path, row_free) = (taken_append _ _ a b).0 (sym (last e rows) ∙ none) in
              record { not_finished = not_finished; not_held = not_held; not_same = not_same; no_path = no_path; row_free = row_free }

          pub edge_room : k.tally.held < limit
          edge_room =
              let free = (edge_adds (blank ready) (blank_rows ready)).row_free in
              rw (← rows_there x k.used k.peak (blank ready) ready.live ready.below_peak ready.within (blank_rows ready)) at free

          edge_grows :
              (x' : List ℕ) → k.used < row_limit → SameRows (k.used + 1) x' (appended x k.used a b) → (e : List ℕ) → edge_rows e ≡ limit
              → (state_of (more_into v b) x' (one_more_edge k) e ≡ with_edge (state_of v x k e) a b)
              × (k.tally.held + 1 ≡ live_rows x' (k.used + 1))
          unfolding with_edge
          edge_grows x' left rows e there =
              let (table, more) =
              grows x x' k.used k.peak k.tally.held limit e a b ready.indexed ready.live ready.below_peak edge_room left
              (omega (arith, made_rows ready, ends_there)) rows there in
              (rw table, more)

          pub edge_changes :
              (x' : List ℕ) (lowest highest : ℕ) → k.used < row_limit → Indexed x' (k.used + 1)
              → SameRows (k.used + 1) x' (appended x k.used a b)
              → Changes (NewEdge t a b) v x k limit
              (record { answer = answers.Edge a b; course = one_more_edge k; lowest = lowest; highest = highest }) (more_into v b) x'
          edge_changes x' lowest highest left indexed rows =
              taken_changes ready (NewEdge t a b) _ (more_into v b) x'
              (λ e there. edge_taken e there (inr (edge_adds e there)))
              (λ e there. refl)
              (λ e there. (edge_grows x' left rows e there).0 ∙ sym (leaves_edge (state_of v x k e) t a b (edge_adds e there)))
              indexed
              (edge_grows x' left rows (blank ready) (blank_rows ready)).1
              (omega arith, omega (arith, ready.within, edge_room))
              (widens_edge v k.tally.made b lowest highest (omega (arith, made_rows ready, ends_there)))

  -- stop, whose rows are dropped
  module _ (t : ℕ) (executes : Executes v k t) where
    pub caller_usable : t < usable_limit
    caller_usable = omega (arith, made_rows ready, executes.0)

    edges_made_lem : edges_made (table_of x k.used k.peak (blank ready)) k.tally.made (live_rows x k.used) ≡ true
    unfolding sound
    edges_made_lem = rw (← ready.live) (both_right _ _ (both_right _ _ (ready.sound (blank ready) (blank_rows ready))))

    pub targets_made : (i : ℕ) → i < k.used → source x i ≡ t → target x i < k.tally.made
    targets_made i lt q =
        (ends_made_lem x k.used k.peak (blank ready) k.tally.made edges_made_lem i lt (λ z. omega (arith, caller_usable))).1

    drops :
        (x' : List ℕ) → SameRows k.used x' (moved t nowhere x k.used) → (e : List ℕ)
        → (table_of x' k.used k.peak e ≡ without_edges_of t (table_of x k.used k.peak e) k.tally.held)
        × (live_rows x' k.used ≡ kept_rows t (table_of x k.used k.peak e) k.tally.held)
        × (k.tally.held ≡ live_rows x' k.used + how_many (λ i. eqb (source x i) t) k.used)
    drops x' rows e =
        rw ready.live
        (table_of_dropped x x' k.used k.peak e t caller_usable (omega (arith, ready.live, ready.below_peak))
        (omega (arith, ready.indexed.long, ready.indexed.few)) rows)

    module _ {n : ℕ} (count : n ≡ how_many (λ i. eqb (source x i) t) k.used) where
      pub drops_held : n ≤ k.tally.held
      drops_held = omega (arith, (drops (moved t nowhere x k.used) (λ i lt. (refl, refl)) (blank ready)).2)

      module _ (x' : List ℕ) (rows : SameRows k.used x' (moved t nowhere x k.used)) where
        stop_leaves :
            (e : List ℕ)
            → state_of (lowered t x (set_status v t FINISHED) k.used) x' (fewer_edges k n) e ≡ stopped (state_of v x k e) t
        unfolding stopped
        stop_leaves e =
            let (table, few, all) = drops x' rows e in
            let left : k.tally.held - n ≡ kept_rows t (table_of x k.used k.peak e) k.tally.held = omega arith in
            let less :
            lowered t (table_of x k.used k.peak e) (set_status v t FINISHED) k.tally.held ≡ lowered t x (set_status v t FINISHED) k.used =
            rw ready.live (lowered-table_of x k.used k.peak e t caller_usable (set_status v t FINISHED)) in
            rw (table, left, less)

        pub stop_changes :
            (w v' : List ℕ) (lowest highest : ℕ) → w ≡ set_status v t FINISHED → v' ≡ lowered t x w k.used → Indexed x' k.used
            → ((i : ℕ) → i < k.used → source x i ≡ t → (lowest ≤ target x i) × (target x i ≤ highest))
            → Changes (Stop t) v x k limit (record { answer = answers.Stop; course = fewer_edges k n; lowest = lowest; highest = highest }) v' x'
        stop_changes w v' lowest highest p q indexed bounds =
            rw (q, p)
            (taken_changes ready (Stop t) _ _ x'
            (runs ready t executes)
            (λ e there. refl)
            (λ e there. stop_leaves e)
            indexed
            (omega (arith, (drops x' rows (blank ready)).2))
            (omega (arith, ready.below_peak), ready.within)
            (widens_stop v x k.tally.made k.used t lowest highest (omega (arith, made_rows ready, executes.0)) bounds))
