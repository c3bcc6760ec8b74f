-- Following the rows into the vertex to be reached, from the last to the first. Where each has a source other than `from` that nothing leads
-- into, no path leads there from `from` (`none_leads`). And the index as the path search of `graph` reads it (`next_rows`, `next_linked`).
use Prim.Native.Nat.{ℕ, suc, ◌+◌, ◌-◌, ◌≤◌, ◌<◌}
use mathlib.Core.Path.{◌≡◌, refl, sym, ◌∙◌, ap, subst}
use mathlib.Core.Bool.{true, false}
use mathlib.Core.Logic.{◌⊎◌, inl, inr, ⊎_elim}
use mathlib.Core.List.{List}
use native.Mathlib.Omega.{arith}
use lib.ListN.{length, get_or, take, drop, length-drop}
use lib.Seq.{get_or-take, get_or-drop, length-take-le}
use borrow.Author.Tests.{lt-ltb}
use Rattle.graph.specs.Tables.{target_word, source, target}
use Rattle.graph.specs.Sound.{ends_made, edges_made}
use Rattle.graph.specs.Paths.{Leads, one, more, holds, reaches}
use Rattle.graph.specs.Internal.Search.{search_limit, last_into, Rows, Linked}
use Rattle.graph.proofs.TestLaws.{true-false, below_suc, both_true, every_all}
use Rattle.graph.proofs.PathLaws.{Stays, go_on, holds_at, held_row, reaches_is}
use Rattle.graph.proofs.RowLinks.{last_row, below_last, last_below}
use Rattle.index.specs.Layout.{nowhere, last_in_base, before_in_base, before_in, Indexed}

-- the last edge of a path
last_edge :
    (e : List ℕ) (n : ℕ) {a b : ℕ} → Leads (holds e n) a b → (i : ℕ) × (i < n) × (target e i ≡ b) × Stays (holds e n) a (source e i)
last_edge e n (one {a = a} {b = b} h) = let (i, lt, from, into) = held_row e n a b h in (i, lt, into, inl (sym from))
last_edge e n (more h p) = let (i, lt, into, before) = last_edge e n p in (i, lt, into, inr (go_on h before))

module _ (x : List ℕ) (n from to : ℕ) where
  -- v is not `from`, and none of the first n rows leads into it
  abbrev Idle : ℕ → Type 0
  Idle v = (v ≡ from → ⊥) × (last_into x v n ≡ 0)

  -- Of the rows into `to` those up to the one with the number `left`, counted from 1, are still to be followed; the others have idle sources.
  pub record Followed (left : ℕ) : Type 0 where
    pub row : (i : ℕ) → left ≡ suc i → (i < n) × (target x i ≡ to)
    pub idle : (i : ℕ) → i < n → target x i ≡ to → (i < left) ⊎ Idle (source x i)

  -- no row is followed yet
  pub none_followed : {left : ℕ} → left ≡ last_into x to n → Followed left
  none_followed h =
      record {
        row = λ i p. last_row target_word x to n i (sym h ∙ p);
        idle = λ i lt into. inl (omega (arith, below_last target_word x to n i lt into));
      }

  -- row i is followed, and its source is idle
  pub row_followed :
      {left : ℕ} → Followed left → (i : ℕ) → left ≡ suc i → Idle (source x i) → {left' : ℕ} → left' ≡ last_into x (target x i) i → Followed left'
  row_followed f i p none {left'} h =
      let (held, into) = f.row i p in
      let h' : left' ≡ last_into x to i = h ∙ ap (λ (v : ℕ). last_into x v i) into in
      record {
        row = λ j q. let (lt, r) = last_row target_word x to i j (sym h' ∙ q) in (omega arith, r);
        idle =
            λ j lt r.
            ⊎_elim
            (λ below.
            ⊎_elim
            (λ same. inr (subst (λ (k : ℕ). Idle (source x k)) (sym same) none))
            (λ less. inl (omega (arith, below_last target_word x to i j less r)))
            (below_suc (subst (λ (k : ℕ). j < k) p below)))
            (λ q. inr q)
            (f.idle j lt r);
      }

  -- what stands in the row at hand, and that the one before it is below it
  pub at_hand : Indexed x n → {left : ℕ} → Followed left → (i : ℕ) → left ≡ suc i → (i < n) × (source x i ≤ nowhere) × (before_in x i ≤ i)
  at_hand h f i p =
      let (lt, into) = f.row i p in
      (lt, h.sources i lt, omega (arith, h.in_links i lt, last_below target_word x (target x i) i))

  -- a row out of `from` is a path
  pub row_leads : {left : ℕ} → Followed left → (i : ℕ) → left ≡ suc i → source x i ≡ from → true ≡ reaches x n from to
  row_leads f i p out =
      let (lt, into) = f.row i p in
      reaches_is x n from to true (λ h. one (rw (← out, ← into) (holds_at x n i lt))) (λ path. refl)

  -- where each row into `to` has a source other than `from` that nothing leads into, no path leads from `from` to `to`
  pub none_leads : Followed 0 → false ≡ reaches x n from to
  none_leads f = reaches_is x n from to false (λ h. true-false h refl) (λ path. absurd (never path))
    where
      into_idle : (v : ℕ) → Idle v → Stays (holds x n) from v → ⊥
      into_idle v none (inl same) = none.0 (sym same)
      into_idle v none (inr path) =
          let (i, lt, into, before) = last_edge x n path in
          omega (arith, below_last target_word x v n i lt into)

      never : Leads (holds x n) from to → ⊥
      never path =
          let (i, lt, into, before) = last_edge x n path in
          ⊎_elim (λ below. absurd (omega arith)) (λ none. into_idle (source x i) none before) (f.idle i lt into)

-- The path search of `graph` is lent the index for its rows, and two parts of it: the last rows in, and for each used row the one before it.
module _ {x : List ℕ} {used : ℕ} (h : Indexed x used) where
  part_at : (from n i : ℕ) → i < n → get_or (take n (drop from x)) i 0 ≡ get_or x (from + i) 0
  part_at from n i lt = get_or-take n (drop from x) i 0 lt ∙ get_or-drop from x i 0

  part_long : (from n : ℕ) → from + n ≤ length x → length (take n (drop from x)) ≡ n
  part_long from n le = length-take-le n (drop from x) (omega (arith, length-drop from x))

  rows : Rows x used
  unfolding edges_made ends_made
  rows =
      record {
        full = omega (arith, h.long, h.few);
        few = h.few;
        ends =
            every_all _ used
            (λ i lt.
            both_true
            (lt-ltb (source x i) search_limit (omega (arith, h.sources i lt)))
            (lt-ltb (target x i) search_limit (omega (arith, h.targets i lt))));
      }

  linked : Linked x used (take search_limit (drop last_in_base x)) (take used (drop before_in_base x))
  linked =
      record {
        long = part_long last_in_base search_limit (omega (arith, h.long));
        starts = λ v lt. part_at last_in_base search_limit v lt ∙ h.ins v (omega arith);
        links = λ i lt. part_at before_in_base used i lt ∙ h.in_links i lt;
      }

  -- the second part, as it is cut
  abbrev next : List ℕ
  next = take (before_in_base + used - before_in_base) (drop before_in_base x)

  all_used : before_in_base + used - before_in_base ≡ used
  all_used = omega arith

  pub next_long : length next ≡ used
  next_long = rw all_used (part_long before_in_base used (omega (arith, h.long, h.few)))

  pub next_rows : Rows x (length next)
  next_rows = rw next_long rows

  pub next_linked : Linked x (length next) (take search_limit (drop last_in_base x)) next
  next_linked = rw next_long (rw all_used linked)
