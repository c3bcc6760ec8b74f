-- The theorems of the crate `chains`, in the words of specs/Claims.antt and of graph's specs/Demand2.antt:
--
--     shortest_chain_lem          the chain of the definition: a chain of held edges, none is shorter, and of those as long none is before it
--     none_exactly            there is none exactly where no chain of held edges leads there
--     only_one                no other chain is the first of the shortest
--     chain_refused_exactly   the call is refused with n at p: p is 0, and n is the first reason's number that holds
--     chain_accepted_exactly  the call answers with a number of vertices: no refusal is due
--     chain_shown             then it has written the first of the shortest chains, and says how many vertices that has; words past it stay
--     refused_keeps_list      a refused call leaves the list as it was
--     new_edge_shown           newEdge closes a cycle (35) exactly if there is a chain from its target back to its source
--     new_edge_passes          so it is not turned away for that exactly where the call says that there is no chain (41)
--     transfer_shown          transfer closes a cycle (35) exactly if there is a chain from t to t'
--     transfer_passes         so it is not turned away for that exactly where the call, asked from t' as the source and t as the target,
--                             says that there is no chain (41)
use Prim.Native.Nat.{ℕ, ◌<◌, ◌≤◌}
use mathlib.Core.Path.{◌≡◌, refl, sym, ◌∙◌, ap}
use mathlib.Core.Bool.{Bool, true}
use mathlib.Core.Logic.{◌⊎◌, inl, inr, ⊎_elim, ◌↔◌}
use mathlib.Core.List.{List, ◌++◌}
use mathlib.Core.Option.{none, some}
use native.Mathlib.Omega.{arith}
use lib.ListN.{length, drop}
use lib.Dec.{ltb}
use borrow.Author.Tests.{ltb-true}
use Rattle.refusal.specs.Refusals.{closes_cycle, unsound_tables, no_such_vertex, no_chain, list_too_short}
use Rattle.graph.specs.declared.Command.TheVariants.{NewEdge, Transfer}
use Rattle.graph.specs.Tables.{Lent, NEW, EXECUTING, status}
use Rattle.graph.specs.Answers.{CommandSaid}
use Rattle.graph.specs.Sound.{sound}
use Rattle.graph.specs.Paths.{Leads}
use Rattle.graph.specs.Commands.{command}
use Rattle.graph.specs.Demand2.{no_more, refused_where, Unsound, RefusalDue, NoneDue, NoneBefore, TransferCycle, reasons}
use Rattle.graph.proofs.TestLaws.{decide}
use Rattle.graph.proofs.PathLaws.{reaches_decides}
use Rattle.graph.proofs.CycleLaws.{target_reaches_lem}
use Rattle.graph.proofs.Reasons.{unsound_decides, full_decides, Only, here, behind, due_only, new_edge_cycle, transfer_cycle, transfer_decides}
use Rattle.chains.specs.Chains.{held_edge, shortest_chain}
use Rattle.chains.specs.Showing.{vertices, chain_refused, show_chain}
use Rattle.chains.specs.Claims.{FirstShortest, NoChain, AllLonger, chain_reasons}
use Rattle.chains.proofs.ChainLaws as ChainLaws
use Rattle.chains.proofs.ChainLaws.{chain_some, some_path}
use Rattle.chains.proofs.ShowingLaws.{show_ends, ends_refused, ends_accepted, ends_kept, ends_written}

-- "No shorter chain exists, and of equal ones it is the first in vertex numbers."
pub shortest_chain_lem : (s : Lent) (a b : ℕ) (l : List ℕ) → sound s ≡ true → shortest_chain s a b ≡ some l → FirstShortest (held_edge s) a b l
shortest_chain_lem s a b l known = ChainLaws.some_first s known a b l

pub none_exactly : (s : Lent) (a b : ℕ) → sound s ≡ true → a < s.made → (shortest_chain s a b ≡ none) ↔ NoChain s a b
none_exactly s a b known = ChainLaws.none_chain s known a b

pub only_one : {E : ℕ → ℕ → Bool} {a b : ℕ} {l l' : List ℕ} → FirstShortest E a b l → FirstShortest E a b l' → l ≡ l'
only_one = ChainLaws.only_one

-- "Turned away: 41 no chain, after 12 and 20; 42 list too short, after 41."
module _ (s : Lent) (t1 t2 : ℕ) (list : List ℕ) where
  pub chain_refused_exactly :
      (n p : ℕ) → ((show_chain s t1 t2 list).answer ≡ chain_refused n p) ↔ ((p ≡ 0) × RefusalDue n (chain_reasons s t1 t2 (length list)))
  chain_refused_exactly = ends_refused (show_ends s t1 t2 list)

  pub chain_accepted_exactly :
      ((n : ℕ) × ((show_chain s t1 t2 list).answer ≡ vertices n)) ↔ NoneDue (chain_reasons s t1 t2 (length list))
  chain_accepted_exactly = ends_accepted (show_ends s t1 t2 list)

  -- "write into a lent list the shortest chain .. and answer how many vertices it has. Words past the chain are untouched"
  pub chain_shown :
      (n : ℕ) → (show_chain s t1 t2 list).answer ≡ vertices n
      → (l : List ℕ) × FirstShortest (held_edge s) t2 t1 l × (n ≡ length l) × (length l ≤ length list)
      × ((show_chain s t1 t2 list).list ≡ l ++ drop (length l) list)
  chain_shown n q =
      let (l, w, len, left) = ends_written (show_ends s t1 t2 list) n q in (l, w.0, len, w.1, left)

  pub refused_keeps_list : (n p : ℕ) → (show_chain s t1 t2 list).answer ≡ chain_refused n p → (show_chain s t1 t2 list).list ≡ list
  refused_keeps_list = ends_kept (show_ends s t1 t2 list)

-- Refusal 35. Where nothing before it holds, the tables are sound and the vertices are made.
sound_of : (s : Lent) → (Unsound s → ⊥) → sound s ≡ true
sound_of s f = ⊎_elim (λ h. h) (λ h. absurd (f ((unsound_decides s).0 h))) (decide (sound s))

made_of : (s : Lent) (t : ℕ) → (s.made ≤ t → ⊥) → t < s.made
made_of s t f = ⊎_elim (λ h. ltb-true t _ h) (λ h. absurd (f ((full_decides t _).0 h))) (decide (ltb t s.made))

passed : {n m : ℕ} {X : Type 0} → (n ≡ m → ⊥) → (n ≡ m) ⊎ X → X
passed f = ⊎_elim (λ e. absurd (f e)) (λ x. x)

-- 41 is the only reason with its number
no_chain_only : (s : Lent) (t1 t2 words : ℕ) → Only no_chain (NoChain s t2 t1) (chain_reasons s t1 t2 words)
no_chain_only s t1 t2 words =
    let last : RefusalDue no_chain (refused_where (AllLonger s t2 t1 words) list_too_short no_more) → ⊥ =
    ⊎_elim (λ q. let z = q.1 in omega arith) (λ q. q.1) in
    behind {m = unsound_tables} (omega arith) (behind {m = no_such_vertex} (omega arith) (here last))

-- What is refused exactly if there is a chain is not refused exactly if the call says that there is none.
passes_exactly :
    (s : Lent) (t1 t2 : ℕ) {Refused : Type 0} → Refused ↔ ((l : List ℕ) × (shortest_chain s t2 t1 ≡ some l))
    → (Unsound s → ⊥) → ((s.made ≤ t1) ⊎ (s.made ≤ t2) → ⊥)
    → (list : List ℕ) → (Refused → ⊥) ↔ ((show_chain s t1 t2 list).answer ≡ chain_refused no_chain 0)
passes_exactly s t1 t2 d known made list =
    let due = due_only (no_chain_only s t1 t2 (length list)) in
    let refused = chain_refused_exactly s t1 t2 list no_chain 0 in (
      λ f. refused.1 (
        refl,
        due.1 (
          inr (known, inr (made, inl refl)),
          λ l c.
              f (d.1 (chain_some s (sound_of s known) (made_of s t2 (λ h. made (inr h))) c)),
        ),
      ),
      λ q r. let (l, p) = d.0 r in (due.0 (refused.0 q).1).1 l (shortest_chain_lem s t2 t1 l (sound_of s known) p).is_chain,
    )

module _ (s : Lent) (t t1 t2 : ℕ) (clear : NoneBefore closes_cycle (reasons (NewEdge t t1 t2) s)) where
  pub new_edge_shown :
      ((command (NewEdge t t1 t2) s).answer ≡ CommandSaid.refused closes_cycle 0) ↔ ((l : List ℕ) × (shortest_chain s t2 t1 ≡ some l))
  new_edge_shown =
      let (known, rest) = passed (omega arith) clear in
      let (made, _) = passed (omega arith) rest in
      let chain = some_path s (sound_of s known) t2 t1 (made_of s t2 (λ h. made (inr (inr h)))) in
      let cycle = new_edge_cycle s t t1 t2 in (
        λ h. chain.1 (⊎_elim (λ e. inl (sym e)) inr (cycle.0 h).1),
        λ h. cycle.1 (clear, ⊎_elim (λ e. inl (sym e)) inr (chain.0 h)),
      )

  pub new_edge_passes :
      (list : List ℕ)
      → ((command (NewEdge t t1 t2) s).answer ≡ CommandSaid.refused closes_cycle 0 → ⊥)
      ↔ ((show_chain s t1 t2 list).answer ≡ chain_refused no_chain 0)
  new_edge_passes =
      let (known, rest) = passed (omega arith) clear in
      let (made, _) = passed (omega arith) rest in
      passes_exactly s t1 t2 new_edge_shown known (λ h. made (inr h))

transfer_path : (s : Lent) (t t' : ℕ) → TransferCycle s t t' ↔ Leads (held_edge s) t t'
transfer_path s t t' =
    let one = target_reaches_lem s.edges s.held t t' in
    let path = reaches_decides s.edges s.held t t' in
    (λ h. path.0 (sym one ∙ (transfer_decides s t t').1 h), λ p. (transfer_decides s t t').0 (one ∙ path.1 p))

module _ (s : Lent) (t t' : ℕ) (clear : NoneBefore closes_cycle (reasons (Transfer t t') s)) where
  -- t is executing and t' is new
  not_itself : t ≡ t' → ⊥
  not_itself e =
      let (known, rest) = passed (omega arith) clear in
      let (made, rest) = passed (omega arith) rest in
      let (executes, rest) = passed (omega arith) rest in
      let (new, _) = passed (omega arith) rest in
      executes (λ p. new (λ q. let z : ◌≡◌ {A = ℕ} EXECUTING NEW = sym p ∙ ap (status s.vertices) e ∙ q in omega arith))

  pub transfer_shown :
      ((command (Transfer t t') s).answer ≡ CommandSaid.refused closes_cycle 0) ↔ ((l : List ℕ) × (shortest_chain s t t' ≡ some l))
  transfer_shown =
      let (known, rest) = passed (omega arith) clear in
      let (made, _) = passed (omega arith) rest in
      let chain = some_path s (sound_of s known) t t' (made_of s t (λ h. made (inl h))) in
      let cycle = transfer_cycle s t t' in
      let path = transfer_path s t t' in (
        λ h. chain.1 (inr (path.0 (cycle.0 h).1)),
        λ h. cycle.1 (clear, path.1 (⊎_elim (λ e. absurd (not_itself e)) (λ p. p) (chain.0 h))),
      )

  pub transfer_passes :
      (list : List ℕ)
      → ((command (Transfer t t') s).answer ≡ CommandSaid.refused closes_cycle 0 → ⊥)
      ↔ ((show_chain s t' t list).answer ≡ chain_refused no_chain 0)
  transfer_passes =
      let (known, rest) = passed (omega arith) clear in
      let (made, _) = passed (omega arith) rest in
      passes_exactly s t' t transfer_shown known (λ h. made (⊎_elim inr inl h))
