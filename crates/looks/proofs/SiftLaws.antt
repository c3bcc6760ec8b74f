-- Shutting many vertices at once.
--
--     first_rows                   the rows in their order
--     asking_none, asking_more     the vertices from a number on are asked one after the other
--     asking_usable                the ends of their pairs
--     refused_cases                what is told of a pair means that a step is refused
--     shut_told_lem, shut_not          a turn of shutting
--     told_shuts, shuts_told       who is shut so cannot step
use Prim.Native.Nat.{ℕ, zero, suc, ◌+◌, ◌<◌, ◌≤◌}
use mathlib.Core.Path.{◌≡◌, refl, sym, ◌∙◌, subst}
use mathlib.Core.Bool.{Bool, true, false, cond}
use mathlib.Core.Logic.{◌⊎◌, inl, inr, ⊎_elim}
use mathlib.Core.List.{List}
use native.Mathlib.Numerals.{add-one}
use native.Mathlib.Omega.{arith}
use lib.ListN.{length, get_or, set, take, length-set, length-take}
use lib.Seq.{get_or-set_same, get_or-set_other, get_or-take}
use Rattle.graph.proofs.TestLaws.{true-false, below_suc}
use Rattle.index.specs.declared.Course.{Course}
use Rattle.machine.proofs.GhostMachine.GhostLaws.{clash}
use Rattle.program.specs.declared.Edition.{Edition}
use Rattle.reachability.specs.declared.pairs.Telling.{Telling}
use Rattle.reachability.specs.declared.pairs.Telling.TheVariants as told
use Rattle.reachability.specs.Pairs.{Told, Usable, RowsOf, pair_limit}
use Rattle.looks.specs.declared.Hinge.{Hinge}
use Rattle.looks.specs.declared.Kind.{Kind}
use Rattle.looks.specs.declared.Kind.TheVariants.{Nothing, Path, PathOrRow, Barred}
use Rattle.looks.specs.Looking.{CannotOn, Shuts, HingesOn, hinge_at, Asking, is_refused, shut_told}
use Rattle.looks.proofs.OpenLaws.{shuts_same, shuts_one, shuts_both}

-- the first n words of a list of rows
pub first_rows :
    (used n : ℕ) (rows : List ℕ) → n ≤ length rows → ((k : ℕ) → k < n → get_or rows k 0 < used) → RowsOf used (take n rows)
first_rows used n rows le below k lt =
    let within : k < n = omega (arith, length-take n rows) in
    subst (λ (y : ℕ). y < used) (sym (get_or-take n rows k 0 within)) (below k within)

-- ASKING
module _ (ed : Edition) (bytes v x : List ℕ) (k : Course) (limit base : ℕ) where
  pub asking_none :
      {starts goals : List ℕ} {kinds : List Kind} → length starts ≡ pair_limit → length goals ≡ pair_limit → length kinds ≡ pair_limit
      → Asking ed bytes v x k limit base starts goals kinds 0
  asking_none a b c = record { starts_long = a; goals_long = b; kinds_long = c; hinges = λ i lt. absurd (omega arith) }

  -- one more
  pub asking_more :
      (starts goals : List ℕ) (kinds : List Kind) (n : ℕ) (h : Hinge) → Asking ed bytes v x k limit base starts goals kinds n → n < pair_limit
      → HingesOn ed bytes v x k limit (base + n) h
      → Asking ed bytes v x k limit base (set starts n h.start) (set goals n h.goal) (set kinds n h.kind) (n + 1)
  asking_more starts goals kinds n h asked lt hinge =
      record {
        starts_long = length-set starts n h.start ∙ asked.starts_long;
        goals_long = length-set goals n h.goal ∙ asked.goals_long;
        kinds_long = length-set kinds n h.kind ∙ asked.kinds_long;
        hinges = rw (add-one n) (λ i below. ⊎_elim (here i) (λ l. before i l) (below_suc below));
      }
    where
      here :
          (i : ℕ) → i ≡ n
          → HingesOn ed bytes v x k limit (base + i) (hinge_at (set starts n h.start) (set goals n h.goal) (set kinds n h.kind) i)
      here i same =
          rw (
            same,
            get_or-set_same starts n h.start 0 (omega (arith, asked.starts_long)),
            get_or-set_same goals n h.goal 0 (omega (arith, asked.goals_long)),
            get_or-set_same kinds n h.kind Nothing (omega (arith, asked.kinds_long)),
          )
          hinge

      before :
          (i : ℕ) → i < n
          → HingesOn ed bytes v x k limit (base + i) (hinge_at (set starts n h.start) (set goals n h.goal) (set kinds n h.kind) i)
      before i l =
          let other : i ≡ n → ⊥ = λ e. absurd (omega arith) in
          rw (
            get_or-set_other starts n i h.start 0 other,
            get_or-set_other goals n i h.goal 0 other,
            get_or-set_other kinds n i h.kind Nothing other,
          )
          (asked.hinges i l)

  -- the ends of the pairs are usable vertices
  pub asking_usable :
      (starts goals : List ℕ) (kinds : List Kind) → Asking ed bytes v x k limit base starts goals kinds pair_limit → Usable starts × Usable goals
  asking_usable starts goals kinds asked = (
    λ i lt. (asked.hinges i (omega (arith, asked.starts_long))).start_usable,
    λ i lt. (asked.hinges i (omega (arith, asked.goals_long))).goal_usable,
  )

-- SHUTTING
-- what is told of a pair means that a step is refused: it is in any case, a path leads back, or a row is wanted and there is none
pub refused_cases :
    (full : Bool) (t : Telling) (kind : Kind) → is_refused full t kind ≡ true
    → (kind ≡ Barred) ⊎ ((kind ≡ Nothing → ⊥) × ((t ≡ told.Joined) ⊎ ((t ≡ told.NotHeld) × (kind ≡ PathOrRow) × (full ≡ true))))
unfolding is_refused
refused_cases full t Nothing h = true-false h refl
refused_cases full t Barred h = inl refl
refused_cases full told.Joined Path h = inr ((λ e. clash cc), inl refl)
refused_cases full told.NotHeld Path h = true-false h refl
refused_cases full told.Nothing Path h = true-false h refl
refused_cases full told.Joined PathOrRow h = inr ((λ e. clash cc), inl refl)
refused_cases full told.NotHeld PathOrRow h = inr ((λ e. clash cc), inr (refl, refl, h))
refused_cases full told.Nothing PathOrRow h = true-false h refl

-- nobody yet
pub shut_none : (full : Bool) (tells : List Telling) (kinds : List Kind) (base : ℕ) (shut : List ℕ) → shut ≡ shut_told full tells kinds base shut 0
unfolding shut_told
shut_none full tells kinds base shut = refl

-- a turn
pub shut_told_lem :
    (full : Bool) (tells : List Telling) (kinds : List Kind) (base : ℕ) (shut₀ : List ℕ) {shut : List ℕ} (n : ℕ) {b : Bool} → shut ≡ shut_told full tells kinds base shut₀ n
    → b ≡ is_refused full (get_or tells n told.Nothing) (get_or kinds n Nothing) → b ≡ true → set shut (base + n) 1 ≡ shut_told full tells kinds base shut₀ (n + 1)
unfolding shut_told
shut_told_lem full tells kinds base shut₀ n h is refuses = rw (add-one n, sym is ∙ refuses, h) refl

pub shut_not :
    (full : Bool) (tells : List Telling) (kinds : List Kind) (base : ℕ) (shut₀ : List ℕ) {shut : List ℕ} (n : ℕ) {b : Bool} → shut ≡ shut_told full tells kinds base shut₀ n
    → b ≡ is_refused full (get_or tells n told.Nothing) (get_or kinds n Nothing) → b ≡ false → shut ≡ shut_told full tells kinds base shut₀ (n + 1)
unfolding shut_told
shut_not full tells kinds base shut₀ n h is spares = rw (add-one n, sym is ∙ spares) h

-- who is shut so cannot step
module _ (ed : Edition) (bytes v x : List ℕ) (k : Course) (limit base : ℕ) (starts goals : List ℕ) (kinds : List Kind) (tells : List Telling) (full : Bool)
    (asked : Asking ed bytes v x k limit base starts goals kinds pair_limit) (so : Told x k.used starts goals tells)
    (no_row : full ≡ true → limit ≤ k.tally.held) where
  cannot : (i : ℕ) → i < pair_limit → is_refused full (get_or tells i told.Nothing) (get_or kinds i Nothing) ≡ true → CannotOn ed bytes v x k limit (base + i)
  cannot i lt h =
      let hinge = asked.hinges i lt in
      let within : i < length starts = omega (arith, asked.starts_long) in
      ⊎_elim (λ b. hinge.barred b)
      (λ cases.
      let something : get_or tells i told.Nothing ≡ told.Nothing → ⊥ =
      λ none. ⊎_elim (λ (j : get_or tells i told.Nothing ≡ told.Joined). clash cc) (λ r. let here = r.0 in clash cc) cases.1
      in
      hinge.joined cases.0 (so.free i within something)
      (⊎_elim (λ j. inl (so.joins i within j)) (λ r. inr (r.1, no_row r.2)) cases.1))
      (refused_cases full (get_or tells i told.Nothing) (get_or kinds i Nothing) h)

  one_told :
      (shut : List ℕ) (n : ℕ) → n < pair_limit → base + pair_limit ≤ length shut
      → Shuts ed bytes v x k limit shut (shut_told full tells kinds base shut n) → (b : Bool) → is_refused full (get_or tells n told.Nothing) (get_or kinds n Nothing) ≡ b
      → Shuts ed bytes v x k limit shut (cond b (set (shut_told full tells kinds base shut n) (base + n) 1) (shut_told full tells kinds base shut n))
  one_told shut n lt room before true h =
      shuts_both ed bytes v x k limit before
      (shuts_one ed bytes v x k limit (shut_told full tells kinds base shut n) (base + n) (omega (arith, before.long)) (cannot n lt h))
  one_told shut n lt room before false h = before

  pub told_shuts :
      (shut : List ℕ) (n : ℕ) → n ≤ pair_limit → base + pair_limit ≤ length shut
      → Shuts ed bytes v x k limit shut (shut_told full tells kinds base shut n)
  unfolding shut_told
  told_shuts shut zero le room = shuts_same ed bytes v x k limit shut
  told_shuts shut (suc n) le room = one_told shut n (omega arith) room (told_shuts shut n (omega arith) room) _ refl

  -- the same, as the code tells it
  pub shuts_told :
      (shut : List ℕ) {shut' : List ℕ} → base + pair_limit ≤ length shut → shut' ≡ shut_told full tells kinds base shut pair_limit
      → Shuts ed bytes v x k limit shut shut'
  shuts_told shut room is = subst (Shuts ed bytes v x k limit shut) (sym is) (told_shuts shut pair_limit (omega arith) room)
