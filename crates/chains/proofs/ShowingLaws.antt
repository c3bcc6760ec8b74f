-- What the call comes to: a refusal that is due, and the list as it was, or the first of the shortest chains, written into a list that has
-- room for it.
use Prim.Native.Nat.{ℕ, ◌<◌, ◌≤◌}
use mathlib.Core.Path.{◌≡◌, refl, subst}
use mathlib.Core.Bool.{Bool, true, false}
use mathlib.Core.Logic.{inl, inr, ◌↔◌}
use mathlib.Core.List.{List, ◌++◌}
use mathlib.Core.Option.{Option, none, some}
use native.Mathlib.Omega.{arith}
use lib.ListN.{length, drop}
use lib.Dec.{leb}
use borrow.Author.Tests.{ltb-true, leb-true}
use Rattle.refusal.specs.Refusals.{no_chain, list_too_short}
use Rattle.graph.specs.Tables.{Lent}
use Rattle.graph.specs.Sound.{sound}
use Rattle.graph.specs.Demand2.{Reasons, no_more, refused_where, RefusalDue, NoneDue}
use Rattle.graph.proofs.TestLaws.{true-false, both_right}
use Rattle.graph.proofs.Reasons.{due_once, due_none, full_decides, over_decides, both_fails, unsound_decides}
use Rattle.chains.specs.Chains.{held_edge, shortest_chain}
use Rattle.chains.specs.Showing.{ChainOutcome, vertices, chain_refused, refused_with, turned_away_unless, shown, show_chain}
use Rattle.chains.specs.Claims.{FirstShortest, NoChain, AllLonger, chain_reasons}
use Rattle.chains.proofs.ChainLaws.{some_first, none_chain}

-- With the reasons R: what is written is a list of which P holds.
pub data Ends (R : Reasons) (P : List ℕ → Type 0) (list : List ℕ) : ChainOutcome → Type 0 where
  turned_away : {n : ℕ} → RefusalDue n R → Ends R P list (refused_with n list)
  written : {l : List ℕ} → NoneDue R → P l → Ends R P list (record { answer = vertices (length l); list = l ++ drop (length l) list })

module _ {P : List ℕ → Type 0} {list : List ℕ} where
  -- a reason that does not hold
  passes : {Q : Type 0} {R : Reasons} {n : ℕ} {o : ChainOutcome} → (Q → ⊥) → Ends R P list o → Ends (refused_where Q n R) P list o
  passes f (turned_away due) = turned_away (inr (f, due))
  passes f (written clear p) = written (f, clear) p

  -- each link: its test fails exactly where the reason holds
  refuses :
      {b : Bool} {Q : Type 0} {R : Reasons} {n : ℕ} {o : ChainOutcome} → (b ≡ false) ↔ Q → (b ≡ true → Ends R P list o)
      → Ends (refused_where Q n R) P list (turned_away_unless b n list o)
  unfolding turned_away_unless
  refuses {b = true} d h = passes (λ q. true-false refl (d.1 q)) (h refl)
  refuses {b = false} d h = turned_away (inl (d.0 refl, refl))

  -- what an end tells of the answer and of the list
  module _ {R : Reasons} where
    pub ends_refused :
        {o : ChainOutcome} → Ends R P list o → (n p : ℕ) → (o.answer ≡ chain_refused n p) ↔ ((p ≡ 0) × RefusalDue n R)
    ends_refused (turned_away {n = m} due) n p = (
      λ q. let e : m ≡ n = cc in let z : p ≡ 0 = cc in (z, subst (λ (k : ℕ). RefusalDue k R) e due),
      λ h. let e : m ≡ n = due_once R m n due h.1 in let z : p ≡ 0 = h.0 in cc,
    )
    ends_refused (written clear x) n p = (λ q. true-false refl cc, λ h. absurd (due_none R n clear h.1))

    pub ends_accepted : {o : ChainOutcome} → Ends R P list o → ((n : ℕ) × (o.answer ≡ vertices n)) ↔ NoneDue R
    ends_accepted (turned_away {n = m} due) = (λ h. let q = h.1 in true-false refl cc, λ clear. absurd (due_none R m clear due))
    ends_accepted (written {l = l} clear x) = (λ h. clear, λ h. (length l, refl))

    pub ends_kept : {o : ChainOutcome} → Ends R P list o → (n p : ℕ) → o.answer ≡ chain_refused n p → o.list ≡ list
    ends_kept (turned_away due) n p q = refl
    ends_kept (written clear x) n p q = true-false refl cc

    pub ends_written :
        {o : ChainOutcome} → Ends R P list o → (n : ℕ) → o.answer ≡ vertices n
        → (l : List ℕ) × P l × (n ≡ length l) × (o.list ≡ l ++ drop (length l) list)
    ends_written (turned_away due) n q = true-false refl cc
    ends_written (written {l = l} clear x) n q = let e : n ≡ length l = cc in (l, x, e, refl)

module _ (s : Lent) (t1 t2 : ℕ) (list : List ℕ) where
  -- the chain that is written
  abbrev pub Written : List ℕ → Type 0
  Written l = FirstShortest (held_edge s) t2 t1 l × (length l ≤ length list)

  longer_decides : {l : List ℕ} → FirstShortest (held_edge s) t2 t1 l → (leb (length l) (length list) ≡ false) ↔ AllLonger s t2 t1 (length list)
  longer_decides {l} f = (
    λ h l' c. let over = (over_decides (length l) (length list)).0 h in let least = f.none_shorter l' c in omega arith,
    λ all. (over_decides _ _).1 (all l f.is_chain),
  )

  shown_ends :
      sound s ≡ true → t2 < s.made → (o : Option (List ℕ)) → shortest_chain s t2 t1 ≡ o
      → Ends (refused_where (NoChain s t2 t1) no_chain (refused_where (AllLonger s t2 t1 (length list)) list_too_short no_more)) Written list
      (shown o list)
  unfolding shown
  shown_ends known made none q = turned_away (inl ((none_chain s known t2 t1 made).0 q, refl))
  shown_ends known made (some l) q =
      let f = some_first s known t2 t1 l q in
      passes (λ never. never l f.is_chain) (refuses (longer_decides f) (λ fits. written tt (f, leb-true _ _ fits)))

  pub show_ends : Ends (chain_reasons s t1 t2 (length list)) Written list (show_chain s t1 t2 list)
  unfolding show_chain
  show_ends =
      refuses (unsound_decides s) (λ known.
      refuses (both_fails (full_decides t1 _) (full_decides t2 _)) (λ made.
      shown_ends known (ltb-true t2 _ (both_right _ _ made)) (shortest_chain s t2 t1) refl))
