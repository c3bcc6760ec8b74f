-- Every refusal of a command is given exactly where its reason holds and none before it does: `reasons` of specs/Demand2.antt, in document
-- 01's order and in words of numbers, rows and paths, against the chains of tests of specs/Commands.antt.
--
--     command_refused    refused with n at p: p is 0, and n is the first reason's number that holds
--     refused_place      so the place of every refusal is 0
--     never_34           and 34 is none of these numbers
--     command-accepted   accepted: no refusal is due
--     new_edge_cycle      35 of newEdge: nothing before it holds, and t1 is t2 or a path leads from t2 to t1
--     transfer_cycle     35 of transfer: nothing before it holds, and some target of t is t' or a path leads from it to t'
--     start_edge_in      21 of start, where its word is true: nothing before it holds, and an edge leads into t
use Prim.Native.Nat.{ℕ, suc, ◌<◌, ◌≤◌}
use mathlib.Core.Path.{◌≡◌, refl, sym, ◌∙◌, subst}
use mathlib.Core.Logic.{◌⊎◌, inl, inr, ⊎_elim, ◌↔◌}
use mathlib.Core.Bool.{Bool, true, false, not, cond}
use native.Mathlib.Omega.{arith}
use lib.Dec.{eqb, ltb, leb}
use borrow.Author.Tests.{ltb-true, ltb-false, le-ltb, leb-false, lt-leb, eqb-true, eqb-false, eq-eqb, ne_eqb, not-false}
use Rattle.graph.specs.declared.Command.{Command}
use Rattle.graph.specs.declared.Command.TheVariants.{NewTd, NewEdge, Release, Transfer, Start, Stop, Yield}
use Rattle.graph.specs.Tests.{both, either, any, every}
use Rattle.graph.specs.Tables.{Lent, NEW, RELEASED, EXECUTING, FINISHED, status, in_count}
use Rattle.refusal.specs.Refusals.{edge_leads_in, closes_cycle, unsound_tables, no_such_vertex, caller_not_executing}
use Rattle.graph.specs.Answers.{CommandSaid, accepted, unless}
use Rattle.graph.specs.Sound.{tally_fits, status_known, statuses_known, ends_made, edges_made, sound}
use Rattle.graph.specs.Paths.{leads_into, leads_out_of, reaches}
use Rattle.graph.specs.Commands.{is_made, target_reaches, caller_refusal, new_td_refusal, ends_refusal, append_refusal, new_edge_refusal}
use Rattle.graph.specs.Commands.{release_refusal, transfer_refusal, start_refusal, stop_refusal, yield_refusal, command}
use Rattle.graph.specs.InCounts.{CountTrue}
use Rattle.graph.specs.Demand2.{Reasons, no_more, refused_where, accepted_where, RefusalDue, NoneDue, NoneBefore, reasons}
use Rattle.graph.specs.Demand2.{TallyOver, OutsideAt, Unsound, HasStatus, EdgeOutOf, EdgeInto, NewEdgeCycle, TransferCycle}
use Rattle.graph.proofs.TestLaws.{true-false, decide, equal?, not_of_true, both_true, both_left, both_right, either_left, either_right}
use Rattle.graph.proofs.TestLaws.{either_cases, either-false, either-false_left, either-false_right}
use Rattle.graph.proofs.TestLaws.{any_found, any_at, every_found, every_stop}
use Rattle.graph.proofs.PathLaws.{reaches_decides}
use Rattle.graph.proofs.EdgeLaws.{into_counted}
use Rattle.graph.proofs.SoundLaws.{Known, sound_fits}
use Rattle.graph.proofs.TakenLaws.{refusal, not_refused, is_accepted, answer_refused, adds_nothing_lem}

-- A chain gives the number that is due, and 0 where none is.
data Tells (R : Reasons) (r : ℕ) : Type 0 where
  none : r ≡ 0 → NoneDue R → Tells R r
  some : (r ≡ 0 → ⊥) → RefusalDue r R → Tells R r

-- a reason that does not hold
passes : {P : Type 0} {R : Reasons} {n r : ℕ} → (P → ⊥) → Tells R r → Tells (refused_where P n R) r
passes f (none z q) = none z (f, q)
passes f (some z q) = some z (inr (f, q))

goes_on : {P : Type 0} {R : Reasons} {r : ℕ} → (P → ⊥) → Tells R r → Tells (accepted_where P R) r
goes_on f (none z q) = none z (inr q)
goes_on f (some z q) = some z (f, q)

-- The one law, for each link of a chain: its test fails exactly where the reason holds, and the rest is looked at where it passes.
refuses :
    {b : Bool} {P : Type 0} {R : Reasons} {n rest : ℕ} → (b ≡ false) ↔ P → (b ≡ true → Tells R rest)
    → Tells (refused_where P (suc n) R) (unless b (suc n) rest)
unfolding unless
refuses {b = true} d h = passes (λ p. true-false refl (d.1 p)) (h refl)
refuses {b = false} d h = some (λ z. omega arith) (inl (d.0 refl, refl))

accepts :
    {b : Bool} {P : Type 0} {R : Reasons} {rest : ℕ} → (b ≡ true) ↔ P → (b ≡ false → Tells R rest)
    → Tells (accepted_where P R) (cond b 0 rest)
accepts {b = true} d h = none refl (inl (d.0 refl))
accepts {b = false} d h = goes_on (λ p. true-false (d.1 p) refl) (h refl)

ends : Tells no_more 0
ends = none refl tt

-- One number at most is due, and none where nothing is.
pub due_once : (R : Reasons) (m n : ℕ) → RefusalDue m R → RefusalDue n R → m ≡ n
due_once no_more m n p q = absurd p
due_once (refused_where P k R) m n (inl p) (inl q) = p.1 ∙ sym q.1
due_once (refused_where P k R) m n (inl p) (inr q) = absurd (q.0 p.0)
due_once (refused_where P k R) m n (inr p) (inl q) = absurd (p.0 q.0)
due_once (refused_where P k R) m n (inr p) (inr q) = due_once R m n p.1 q.1
due_once (accepted_where P R) m n p q = due_once R m n p.1 q.1

pub due_none : (R : Reasons) (n : ℕ) → NoneDue R → RefusalDue n R → ⊥
due_none no_more n p q = q
due_none (refused_where P k R) n p (inl q) = p.0 q.0
due_none (refused_where P k R) n p (inr q) = due_none R n p.1 q.1
due_none (accepted_where P R) n (inl p) q = q.0 p
due_none (accepted_where P R) n (inr p) q = due_none R n p q.1

-- What each test decides.
negated : {b : Bool} {P : Type 0} → (b ≡ true) ↔ P → (not b ≡ false) ↔ P
negated d = (λ h. d.0 (not-false _ h), λ p. not_of_true (d.1 p))

eq_decides : (a b : ℕ) → (eqb a b ≡ true) ↔ (a ≡ b)
eq_decides a b = (eqb-true a b, eq-eqb a b)

ne_decides : (a b : ℕ) → (eqb a b ≡ false) ↔ (a ≡ b → ⊥)
ne_decides a b = (eqb-false a b, ne_eqb a b)

pub full_decides : (a b : ℕ) → (ltb a b ≡ false) ↔ (b ≤ a)
full_decides a b = (ltb-false a b, le-ltb a b)

either_decides : {a b : Bool} {P Q : Type 0} → (a ≡ true) ↔ P → (b ≡ true) ↔ Q → (either a b ≡ true) ↔ (P ⊎ Q)
either_decides {a} {b} p q = (
  λ h. ⊎_elim (λ x. inl (p.0 x)) (λ y. inr (q.0 y)) (either_cases a b h),
  ⊎_elim (λ x. either_left b (p.1 x)) (λ y. either_right a (q.1 y)),
)

both_decides : {a b : Bool} {P Q : Type 0} → (a ≡ true) ↔ P → (b ≡ true) ↔ Q → (both a b ≡ true) ↔ (P × Q)
both_decides {a} {b} p q = (λ h. (p.0 (both_left a b h), q.0 (both_right a b h)), λ h. both_true (p.1 h.0) (q.1 h.1))

-- not both: one of them fails
pub both_fails : {a b : Bool} {P Q : Type 0} → (a ≡ false) ↔ P → (b ≡ false) ↔ Q → (both a b ≡ false) ↔ (P ⊎ Q)
unfolding both
both_fails {a = true} p q = (λ h. inr (q.0 h), ⊎_elim (λ x. true-false refl (p.1 x)) q.1)
both_fails {a = false} p q = (λ h. inl (p.0 refl), λ x. refl)

-- neither: each of them fails
either_fails : {a b : Bool} {P Q : Type 0} → (a ≡ false) ↔ P → (b ≡ false) ↔ Q → (either a b ≡ false) ↔ (P × Q)
either_fails {a} {b} p q = (
  λ h. (p.0 (either-false_left a b h), q.0 (either-false_right a b h)),
  λ h. either-false (p.1 h.0) (q.1 h.1),
)

-- two tests of one reason
both_same : {a b : Bool} {P : Type 0} → (a ≡ false) ↔ P → (b ≡ false) ↔ P → (both a b ≡ false) ↔ P
both_same p q = (λ h. ⊎_elim (λ x. x) (λ x. x) ((both_fails p q).0 h), λ x. (both_fails p q).1 (inl x))

any_decides :
    {p : ℕ → Bool} {P : ℕ → Type 0} (n : ℕ) → ((i : ℕ) → (p i ≡ true) ↔ P i) → (any p n ≡ true) ↔ ((i : ℕ) × (i < n) × P i)
any_decides {p} n d = (
  λ h. let (i, lt, q) = any_found p n h in (i, lt, (d i).0 q),
  λ h. any_at p n h.0 h.1 ((d h.0).1 h.2),
)

every_fails :
    {p : ℕ → Bool} {P : ℕ → Type 0} (n : ℕ) → ((i : ℕ) → (p i ≡ false) ↔ P i) → (every p n ≡ false) ↔ ((i : ℕ) × (i < n) × P i)
every_fails {p} n d = (
  λ h. let (i, lt, q) = every_found p n h in (i, lt, (d i).0 q),
  λ h. every_stop p n h.0 h.1 ((d h.0).1 h.2),
)

pub over_decides : (a b : ℕ) → (leb a b ≡ false) ↔ (b < a)
over_decides a b = (leb-false a b, lt-leb a b)

tally_decides : (s : Lent) → (tally_fits s.vertices s.edges s.made s.held ≡ false) ↔ TallyOver s
unfolding tally_fits
tally_decides s = both_fails (over_decides _ _) (over_decides _ _)

outside_decides : (s : Lent) (x : ℕ) → (status_known s.vertices x ≡ false) ↔ OutsideAt s x
unfolding status_known
outside_decides s x = both_fails (over_decides NEW _) (over_decides _ FINISHED)

pub unsound_decides : (s : Lent) → (sound s ≡ false) ↔ Unsound s
unfolding sound statuses_known ends_made edges_made
unsound_decides s =
    both_fails (tally_decides s)
    (both_fails
    (every_fails s.made (outside_decides s))
    (every_fails s.held (λ i. both_fails (full_decides _ _) (full_decides _ _))))

-- a known status that is neither new nor released is executing or finished
not_waiting :
    (x : ℕ) → Known x → (either (eqb x NEW) (eqb x RELEASED) ≡ false) ↔ ((x ≡ EXECUTING) ⊎ (x ≡ FINISHED))
not_waiting x known = (
  λ h.
      let new = eqb-false x NEW (either-false_left _ _ h) in
      let released = eqb-false x RELEASED (either-false_right _ _ h) in
      ⊎_elim inl (λ ne. inr (omega (arith, new, released))) (equal? x EXECUTING),
  ⊎_elim
      (λ q. either-false (ne_eqb x NEW (omega arith)) (ne_eqb x RELEASED (omega arith)))
      (λ q. either-false (ne_eqb x NEW (omega arith)) (ne_eqb x RELEASED (omega arith))),
)

-- edges and paths
module _ (s : Lent) where
  out_decides : (a : ℕ) → (leads_out_of s.edges s.held a ≡ true) ↔ EdgeOutOf s a
  unfolding leads_out_of
  out_decides a = any_decides s.held (λ i. eq_decides _ a)

  into_decides : (b : ℕ) → (leads_into s.edges s.held b ≡ true) ↔ EdgeInto s b
  unfolding leads_into
  into_decides b = any_decides s.held (λ i. eq_decides _ b)

  new_edge_decides : (t1 t2 : ℕ) → (either (eqb t1 t2) (reaches s.edges s.held t2 t1) ≡ true) ↔ NewEdgeCycle s t1 t2
  new_edge_decides t1 t2 = either_decides (eq_decides t1 t2) (reaches_decides s.edges s.held t2 t1)

  pub transfer_decides : (t t' : ℕ) → (target_reaches s.edges s.held t t' ≡ true) ↔ TransferCycle s t t'
  unfolding target_reaches
  transfer_decides t t' =
      any_decides s.held (λ i. both_decides (eq_decides _ t) (either_decides (eq_decides _ t') (reaches_decides s.edges s.held _ t')))

-- a caller's chain begins with 12, 20 and 30
caller_tells :
    (s : Lent) (t a b : ℕ) {own : ℕ} {Missing : Type 0} {R : Reasons}
    → (both (is_made s t) (both (is_made s a) (is_made s b)) ≡ false) ↔ Missing
    → (Known (status s.vertices b) → Tells R own)
    → Tells
    (refused_where (Unsound s) unsound_tables
    (refused_where Missing no_such_vertex (refused_where (HasStatus s t EXECUTING → ⊥) caller_not_executing R)))
    (caller_refusal s t a b own)
unfolding caller_refusal
caller_tells s t a b d own =
    refuses (unsound_decides s) (λ known.
    refuses d (λ made.
    refuses (ne_decides _ EXECUTING) (λ runs.
    own ((sound_fits s known).statuses_are_known b (ltb-true b _ (both_right _ _ (both_right _ _ made)))))))

-- The chain of each command, link by link: each test decides its reason.
refusal_tells : (c : Command) (s : Lent) → Tells (reasons c s) (refusal c s)
unfolding new_td_refusal ends_refusal append_refusal new_edge_refusal release_refusal transfer_refusal start_refusal stop_refusal yield_refusal
refusal_tells (NewTd t place scope) s =
    let made = full_decides t s.made in
    caller_tells s t t t (both_same made (both_same made made)) (λ known.
    refuses (full_decides _ _) (λ free.
    ends))
refusal_tells (NewEdge t t1 t2) s =
    caller_tells s t t1 t2 (both_fails (full_decides t _) (both_fails (full_decides t1 _) (full_decides t2 _))) (λ known.
    refuses (either_fails (ne_decides t2 t) (not_waiting _ known)) (λ waits.
    accepts (adds_nothing_lem s t1 t2) (λ adds.
    refuses (negated (new_edge_decides s t1 t2)) (λ no_path.
    refuses (full_decides _ _) (λ free.
    ends)))))
refusal_tells (Release t t') s =
    let made = full_decides t' s.made in
    caller_tells s t t' t' (both_fails (full_decides t _) (both_same made made)) (λ known.
    refuses (ne_decides _ NEW) (λ new.
    ends))
refusal_tells (Transfer t t') s =
    let made = full_decides t' s.made in
    caller_tells s t t' t' (both_fails (full_decides t _) (both_same made made)) (λ known.
    refuses (ne_decides _ NEW) (λ new.
    refuses (negated (out_decides s t')) (λ none_out.
    refuses (negated (transfer_decides s t t')) (λ no_path.
    ends))))
refusal_tells (Start t) s =
    refuses (tally_decides s) (λ fits.
    refuses (full_decides t _) (λ made.
    refuses (outside_decides s t) (λ known.
    refuses (negated (eq_decides _ NEW)) (λ not_new.
    refuses (negated (eq_decides _ EXECUTING)) (λ not_executing.
    refuses (negated (eq_decides _ FINISHED)) (λ not_finished.
    refuses (ne_decides _ 0) (λ none_in.
    ends)))))))
refusal_tells (Stop t) s =
    let made = full_decides t s.made in
    caller_tells s t t t (both_same made (both_same made made)) (λ known. ends)
refusal_tells (Yield t) s =
    let made = full_decides t s.made in
    caller_tells s t t t (both_same made (both_same made made)) (λ known. ends)

-- A command is refused with n at p exactly where p is 0 and n is due: its reason holds, and nothing before it does.
pub command_refused :
    (c : Command) (s : Lent) (n p : ℕ) → ((command c s).answer ≡ CommandSaid.refused n p) ↔ ((p ≡ 0) × RefusalDue n (reasons c s))
command_refused c s n p = (λ h. there (refusal_tells c s) (said.0 h), λ h. said.1 (back (refusal_tells c s) h))
  where
    said : ((command c s).answer ≡ CommandSaid.refused n p) ↔ ((refusal c s ≡ 0 → ⊥) × (refusal c s ≡ n) × (p ≡ 0))
    said = answer_refused c s n p

    there :
        Tells (reasons c s) (refusal c s) → (refusal c s ≡ 0 → ⊥) × (refusal c s ≡ n) × (p ≡ 0)
        → (p ≡ 0) × RefusalDue n (reasons c s)
    there (none z q) h = absurd (h.0 z)
    there (some z q) h = (h.2, subst (λ (r : ℕ). RefusalDue r (reasons c s)) h.1 q)

    back :
        Tells (reasons c s) (refusal c s) → (p ≡ 0) × RefusalDue n (reasons c s)
        → (refusal c s ≡ 0 → ⊥) × (refusal c s ≡ n) × (p ≡ 0)
    back (none z q) h = absurd (due_none (reasons c s) n q h.1)
    back (some z q) h = (z, due_once (reasons c s) (refusal c s) n q h.1, h.0)

-- "The place is an offset for 2 to 7, else 0": of every refusal of a command it is 0.
pub refused_place : (c : Command) (s : Lent) (n p : ℕ) → (command c s).answer ≡ CommandSaid.refused n p → p ≡ 0
refused_place c s n p h = ((command_refused c s n p).0 h).0

-- no reason of R has the number n
Without : ℕ → Reasons → Type 0
Without n no_more = Unit {0}
Without n (refused_where P m R) = (n ≡ m → ⊥) × Without n R
Without n (accepted_where P R) = Without n R

never_due : (n : ℕ) (R : Reasons) → Without n R → RefusalDue n R → ⊥
unfolding Without
never_due n no_more w h = h
never_due n (refused_where P m R) w (inl h) = w.0 h.1
never_due n (refused_where P m R) w (inr h) = never_due n R w.1 h.1
never_due n (accepted_where P R) w h = never_due n R w h.1

-- "Refusal 34 is never given" (note 3).
pub never_34 : (c : Command) (s : Lent) (p : ℕ) → (command c s).answer ≡ CommandSaid.refused 34 p → ⊥
unfolding Without
never_34 c s p h = never_due 34 (reasons c s) (without c) ((command_refused c s 34 p).0 h).1
  where
    without : (d : Command) → Without 34 (reasons d s)
    without (NewTd t place scope) = (omega arith, (omega arith, (omega arith, (omega arith, tt))))
    without (NewEdge t t1 t2) = (omega arith, (omega arith, (omega arith, (omega arith, (omega arith, (omega arith, tt))))))
    without (Release t t') = (omega arith, (omega arith, (omega arith, (omega arith, tt))))
    without (Transfer t t') = (omega arith, (omega arith, (omega arith, (omega arith, (omega arith, (omega arith, tt))))))
    without (Start t) = (omega arith, (omega arith, (omega arith, (omega arith, (omega arith, (omega arith, (omega arith, tt)))))))
    without (Stop t) = (omega arith, (omega arith, (omega arith, tt)))
    without (Yield t) = (omega arith, (omega arith, (omega arith, tt)))

-- A command is accepted exactly where no refusal is due.
pub command-accepted : (c : Command) (s : Lent) → (accepted (command c s).answer ≡ true) ↔ NoneDue (reasons c s)
command-accepted c s = (λ h. there (refusal_tells c s) (not_refused c s h), λ h. is_accepted c s (back (refusal_tells c s) h))
  where
    there : Tells (reasons c s) (refusal c s) → refusal c s ≡ 0 → NoneDue (reasons c s)
    there (none z q) h = q
    there (some z q) h = absurd (z h)

    back : Tells (reasons c s) (refusal c s) → NoneDue (reasons c s) → refusal c s ≡ 0
    back (none z q) h = z
    back (some z q) h = absurd (due_none (reasons c s) (refusal c s) h q)

-- Q is the reason with the number n, and the only one.
pub data Only (n : ℕ) (Q : Type 0) : Reasons → Type 1 where
  here : {R : Reasons} → (RefusalDue n R → ⊥) → Only n Q (refused_where Q n R)
  behind : {P : Type 0} {m : ℕ} {R : Reasons} → (n ≡ m → ⊥) → Only n Q R → Only n Q (refused_where P m R)
  past : {P : Type 0} {R : Reasons} → Only n Q R → Only n Q (accepted_where P R)

-- So n is due exactly where Q holds and nothing before it does.
pub due_only : {n : ℕ} {Q : Type 0} {R : Reasons} → Only n Q R → RefusalDue n R ↔ (NoneBefore n R × Q)
due_only (here f) = (⊎_elim (λ h. (inl refl, h.0)) (λ h. absurd (f h.1)), λ h. inl (h.1, refl))
due_only (behind f o) =
    let d = due_only o in (
      ⊎_elim (λ h. absurd (f h.1)) (λ h. let (b, q) = d.0 h.1 in (inr (h.0, b), q)),
      λ h. ⊎_elim (λ e. absurd (f e)) (λ b. inr (b.0, d.1 (b.1, h.1))) h.0,
    )
due_only (past o) =
    let d = due_only o in
    (λ h. let (b, q) = d.0 h.1 in ((h.0, b), q), λ h. (h.0.0, d.1 (h.0.1, h.1)))

refused_only :
    (c : Command) (s : Lent) (n : ℕ) {Q : Type 0} → Only n Q (reasons c s)
    → ((command c s).answer ≡ CommandSaid.refused n 0) ↔ (NoneBefore n (reasons c s) × Q)
refused_only c s n o =
    let d = due_only o in
    (λ h. d.0 ((command_refused c s n 0).0 h).1, λ h. (command_refused c s n 0).1 (refl, d.1 h))

-- "Cycle for newEdge: t1 is t2 or t2 reaches t1."
pub new_edge_cycle :
    (s : Lent) (t t1 t2 : ℕ)
    → ((command (NewEdge t t1 t2) s).answer ≡ CommandSaid.refused closes_cycle 0)
    ↔ (NoneBefore closes_cycle (reasons (NewEdge t t1 t2) s) × NewEdgeCycle s t1 t2)
new_edge_cycle s t t1 t2 =
    refused_only (NewEdge t t1 t2) s closes_cycle
    (behind (omega arith)
    (behind (omega arith)
    (behind (omega arith)
    (behind (omega arith)
    (past
    (here (⊎_elim (λ q. let z = q.1 in omega arith) (λ q. q.1))))))))

-- "For transfer: some target of t is t' or reaches t'."
pub transfer_cycle :
    (s : Lent) (t t' : ℕ)
    → ((command (Transfer t t') s).answer ≡ CommandSaid.refused closes_cycle 0)
    ↔ (NoneBefore closes_cycle (reasons (Transfer t t') s) × TransferCycle s t t')
transfer_cycle s t t' =
    refused_only (Transfer t t') s closes_cycle
    (behind (omega arith) (behind (omega arith) (behind (omega arith) (behind (omega arith) (behind (omega arith) (here (λ q. q)))))))

-- where the word is true, it is 0 exactly if no edge leads in
counted_decides : (s : Lent) (t : ℕ) → CountTrue s t → (in_count s.vertices t ≡ 0 → ⊥) ↔ EdgeInto s t
counted_decides s t counted = (
  λ h.
      ⊎_elim
      (into_decides s t).0
      (λ q. absurd (h (counted ∙ (into_counted s.edges s.held t).1 q)))
      (decide (leads_into s.edges s.held t)),
  λ h z. true-false ((into_decides s t).1 h) ((into_counted s.edges s.held t).0 (sym counted ∙ z)),
)

-- "Start reads that word and answers as the full search would" (note 6).
pub start_edge_in :
    (s : Lent) (t : ℕ) → CountTrue s t
    → ((command (Start t) s).answer ≡ CommandSaid.refused edge_leads_in 0)
    ↔ (NoneBefore edge_leads_in (reasons (Start t) s) × EdgeInto s t)
start_edge_in s t counted =
    let into = counted_decides s t counted in
    (λ h. let (before, q) = by_word.0 h in (before, into.0 q), λ h. by_word.1 (h.0, into.1 h.1))
  where
    by_word :
        ((command (Start t) s).answer ≡ CommandSaid.refused edge_leads_in 0)
        ↔ (NoneBefore edge_leads_in (reasons (Start t) s) × (in_count s.vertices t ≡ 0 → ⊥))
    by_word =
        refused_only (Start t) s edge_leads_in
        (behind (omega arith)
        (behind (omega arith) (behind (omega arith) (behind (omega arith) (behind (omega arith) (behind (omega arith) (here (λ q. q))))))))
