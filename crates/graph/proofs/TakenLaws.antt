-- When a command is taken. Each of the seven is decided by its chain of refusals, and the chain gives 0 exactly if the facts of
-- `Taken` hold, which say what the tests find in words of numbers and paths.
use Prim.Native.Nat.{ℕ, ◌<◌, ◌≤◌}
use mathlib.Core.Path.{◌≡◌, refl, ◌∙◌, ap}
use mathlib.Core.Logic.{◌⊎◌, inl, inr, ⊎_elim, ◌↔◌}
use mathlib.Core.Bool.{Bool, true, false, cond}
use mathlib.Core.List.{List}
use native.Mathlib.Omega.{arith}
use lib.Dec.{eqb}
use borrow.Author.Tests.{lt-ltb, ltb-true, le-leb, leb-true, eq-eqb, ne_eqb, eqb-true, eqb-false, not-true}
use Rattle.graph.specs.declared.Command.{Command}
use Rattle.graph.specs.declared.Command.TheVariants.{NewTd, NewEdge, Release, Transfer, Start, Stop, Yield}
use Rattle.graph.specs.Tables.{Lent, NEW, RELEASED, EXECUTING, FINISHED, vertex_rows, edge_rows, status, in_count}
use Rattle.refusal.specs.Refusals.{unsound_tables}
use Rattle.graph.specs.Answers.{CommandSaid, accepted, decided}
use Rattle.graph.specs.Sound.{tally_fits, status_known, sound}
use Rattle.graph.specs.Paths.{holds, leads_out_of, reaches}
use Rattle.graph.specs.Commands.{with_status, with_vertex, with_edge, with_moved, stopped, caller_refusal, new_td_refusal, ends_refusal}
use Rattle.graph.specs.Commands.{adds_nothing, append_refusal, new_edge_refusal, release_refusal, transfer_refusal, start_refusal, stop_refusal}
use Rattle.graph.specs.Commands.{yield_refusal, target_reaches, new_td, new_edge, release, transfer, start, stop, yield, command}
use Rattle.graph.specs.Demand2.{AddsNothing, RowFree}
use Rattle.graph.specs.Internal.Checks.{is_start}
use Rattle.graph.proofs.TestLaws.{true-false, both_true, both_left, both_right, either_cases, either_left, either_right, either-false}
use Rattle.graph.proofs.TestLaws.{either-false_left, either-false_right, not_of_false}
use Rattle.graph.proofs.EdgeLaws.{held_decides}
use Rattle.graph.proofs.SoundLaws.{Known, sound_fits}
use Rattle.graph.proofs.SoundChecks.{fits_rows}
use Rattle.graph.proofs.RefusalLaws.{unless_stop, unless_none, unless_all, decided_taken, decided_is, decided_keeps, decided_refused, decided_either}

-- a command in its three parts: the refusal due, what it says and what it leaves if none is due
abbrev pub refusal : Command → Lent → ℕ
refusal (NewTd t place scope) s = new_td_refusal s t
refusal (NewEdge t t1 t2) s = new_edge_refusal s t t1 t2
refusal (Release t t') s = release_refusal s t t'
refusal (Transfer t t') s = transfer_refusal s t t'
refusal (Start t) s = start_refusal s t
refusal (Stop t) s = stop_refusal s t
refusal (Yield t) s = yield_refusal s t

abbrev pub says : Command → Lent → CommandSaid
says (NewTd t place scope) s = CommandSaid.new s.made
says (NewEdge t t1 t2) s = CommandSaid.edge t1 t2
says (Release t t') s = CommandSaid.release t'
says (Transfer t t') s = CommandSaid.transfer t'
says (Start t) s = CommandSaid.start
says (Stop t) s = CommandSaid.stop
says (Yield t) s = CommandSaid.yield

abbrev pub leaves : Command → Lent → Lent
leaves (NewTd t place scope) s = with_vertex s t place scope
leaves (NewEdge t t1 t2) s = cond (adds_nothing s t1 t2) s (with_edge s t1 t2)
leaves (Release t t') s = with_status s t' RELEASED
leaves (Transfer t t') s = with_moved s t t'
leaves (Start t) s = with_status s t EXECUTING
leaves (Stop t) s = stopped s t
leaves (Yield t) s = with_status s t RELEASED

command_is : (c : Command) (s : Lent) → command c s ≡ decided s (refusal c s) (says c s) (leaves c s)
unfolding command new_td new_edge release transfer start stop yield
command_is (NewTd t place scope) s = refl
command_is (NewEdge t t1 t2) s = refl
command_is (Release t t') s = refl
command_is (Transfer t t') s = refl
command_is (Start t) s = refl
command_is (Stop t) s = refl
command_is (Yield t) s = refl

pub says-accepted : (c : Command) (s : Lent) → accepted (says c s) ≡ true
says-accepted (NewTd t place scope) s = refl
says-accepted (NewEdge t t1 t2) s = refl
says-accepted (Release t t') s = refl
says-accepted (Transfer t t') s = refl
says-accepted (Start t) s = refl
says-accepted (Stop t) s = refl
says-accepted (Yield t) s = refl

-- a command is accepted exactly if no refusal is due, and then leaves what it is to leave
pub not_refused : (c : Command) (s : Lent) → accepted (command c s).answer ≡ true → refusal c s ≡ 0
not_refused c s h = decided_taken s (refusal c s) (says c s) (leaves c s) (rw (command_is c s) at h)

pub taken_is : (c : Command) (s : Lent) → refusal c s ≡ 0 → command c s ≡ record { answer = says c s; after = leaves c s }
taken_is c s h = command_is c s ∙ decided_is s (refusal c s) (says c s) (leaves c s) h

pub is_accepted : (c : Command) (s : Lent) → refusal c s ≡ 0 → accepted (command c s).answer ≡ true
is_accepted c s h = rw (taken_is c s h) (says-accepted c s)

pub after_is : (c : Command) (s : Lent) → refusal c s ≡ 0 → (command c s).after ≡ leaves c s
after_is c s h = rw (taken_is c s h)

pub after_refused : (c : Command) (s : Lent) → accepted (command c s).answer ≡ false → (command c s).after ≡ s
after_refused c s h = rw (command_is c s) (decided_keeps s (refusal c s) (says c s) (leaves c s) (says-accepted c s) (rw (command_is c s) at h))

-- it is refused with the number that is due, at 0
pub answer_refused :
    (c : Command) (s : Lent) (n p : ℕ)
    → ((command c s).answer ≡ CommandSaid.refused n p) ↔ ((refusal c s ≡ 0 → ⊥) × (refusal c s ≡ n) × (p ≡ 0))
answer_refused c s n p = rw (command_is c s) (decided_refused s (refusal c s) (says c s) (leaves c s) n p (says-accepted c s))

-- what holds before, and of what an accepted command leaves, holds afterwards
pub after_either : (P : Lent → Type 0) (c : Command) (s : Lent) → P s → (refusal c s ≡ 0 → P (leaves c s)) → P (command c s).after
after_either P c s p q = rw (command_is c s) (decided_either P s (refusal c s) (says c s) (leaves c s) p q)

-- unsound tables refuse every command but start first of all
unsound_refusal : (c : Command) (s : Lent) → is_start c ≡ false → sound s ≡ false → refusal c s ≡ unsound_tables
unfolding caller_refusal new_td_refusal ends_refusal new_edge_refusal release_refusal transfer_refusal stop_refusal yield_refusal is_start
unsound_refusal (NewTd t place scope) s other h = unless_stop _ _ h
unsound_refusal (NewEdge t t1 t2) s other h = unless_stop _ _ h
unsound_refusal (Release t t') s other h = unless_stop _ _ h
unsound_refusal (Transfer t t') s other h = unless_stop _ _ h
unsound_refusal (Start t) s other h = true-false refl other
unsound_refusal (Stop t) s other h = unless_stop _ _ h
unsound_refusal (Yield t) s other h = unless_stop _ _ h

pub unsound :
    (c : Command) (s : Lent) → is_start c ≡ false → sound s ≡ false
    → command c s ≡ record { answer = CommandSaid.refused unsound_tables 0; after = s }
unfolding decided
unsound c s other h = command_is c s ∙ ap (λ (n : ℕ). decided s n (says c s) (leaves c s)) (unsound_refusal c s other h)

-- the caller is a made vertex that is executing
pub record Runs (s : Lent) (t : ℕ) : Type 0 where
  pub known : sound s ≡ true
  pub is_made : t < s.made
  pub executing : status s.vertices t ≡ EXECUTING

-- newEdge appends its edge
pub record Adds (s : Lent) (t1 t2 : ℕ) : Type 0 where
  pub not_finished : status s.vertices t1 ≡ FINISHED → ⊥
  pub not_held : holds s.edges s.held t1 t2 ≡ false
  pub not_same : t1 ≡ t2 → ⊥
  pub no_path : reaches s.edges s.held t2 t1 ≡ false
  pub row_free : s.held < edge_rows s.edges

-- a vertex that an edge of the caller t may lead into: one that is new or released, or t
abbrev pub Target : Lent → ℕ → ℕ → Type 0
Target s t t2 = ((status s.vertices t2 ≡ NEW) ⊎ (status s.vertices t2 ≡ RELEASED)) ⊎ (t2 ≡ t)

pub record TakenNewEdge (s : Lent) (t t1 t2 : ℕ) : Type 0 where
  pub source_made : t1 < s.made
  pub target_made : t2 < s.made
  pub waits : Target s t t2
  pub adds : AddsNothing s t1 t2 ⊎ Adds s t1 t2

pub record TakenTransfer (s : Lent) (t t' : ℕ) : Type 0 where
  pub is_made : t' < s.made
  pub is_new : status s.vertices t' ≡ NEW
  pub no_edge_out : leads_out_of s.edges s.held t' ≡ false
  pub no_path : target_reaches s.edges s.held t t' ≡ false

-- start looks at the tally and at the row of t
abbrev pub TakenStart : Lent → ℕ → Type 0
TakenStart s t =
    (tally_fits s.vertices s.edges s.made s.held ≡ true)
    × (t < s.made)
    × (status s.vertices t ≡ RELEASED)
    × (in_count s.vertices t ≡ 0)

abbrev pub Taken : Command → Lent → Type 0
Taken (NewTd t place scope) s = Runs s t × (s.made < vertex_rows s.vertices)
Taken (NewEdge t t1 t2) s = Runs s t × TakenNewEdge s t t1 t2
Taken (Release t t') s = Runs s t × (t' < s.made) × (status s.vertices t' ≡ NEW)
Taken (Transfer t t') s = Runs s t × TakenTransfer s t t'
Taken (Start t) s = TakenStart s t
Taken (Stop t) s = Runs s t
Taken (Yield t) s = Runs s t

-- each chain, taken apart into its tests and put together again; first the refusals that begin the chain of a caller
pub taken_caller : (s : Lent) (t a b own : ℕ) → (caller_refusal s t a b own ≡ 0) ↔ (Runs s t × (a < s.made) × (b < s.made) × (own ≡ 0))
unfolding caller_refusal
taken_caller s t a b own = (
  λ h.
      let (known, h1) = unless_none _ _ _ h in
      let (made, h2) = unless_none _ _ _ h1 in
      let (runs, h3) = unless_none _ _ _ h2 in (
        record { known = known; is_made = ltb-true _ _ (both_left _ _ made); executing = eqb-true _ _ runs },
        ltb-true _ _ (both_left _ _ (both_right _ _ made)),
        ltb-true _ _ (both_right _ _ (both_right _ _ made)),
        h3,
      ),
  λ h.
      unless_all _ h.0.known
      (unless_all _ (both_true (lt-ltb _ _ h.0.is_made) (both_true (lt-ltb _ _ h.1) (lt-ltb _ _ h.2)))
      (unless_all _ (eq-eqb _ _ h.0.executing) h.3)),
)

taken_new_td : (s : Lent) (t : ℕ) → (new_td_refusal s t ≡ 0) ↔ (Runs s t × (s.made < vertex_rows s.vertices))
unfolding new_td_refusal
taken_new_td s t = (
  λ h.
      let (runs, is_made, again, own) = (taken_caller s t t t _).0 h in
      (runs, ltb-true _ _ (unless_none _ _ _ own).0),
  λ h. (taken_caller s t t t _).1 (h.0, h.0.is_made, h.0.is_made, unless_all _ (lt-ltb _ _ h.1) refl),
)

-- the three parts of newEdge's chain
pub taken_ends :
    (s : Lent) (t t1 t2 own : ℕ)
    → (ends_refusal s t t1 t2 own ≡ 0)
    ↔ (Runs s t × (t1 < s.made) × (t2 < s.made) × Target s t t2 × (own ≡ 0))
unfolding ends_refusal
taken_ends s t t1 t2 own = (
  λ h.
      let (runs, source_made, target_made, rest) = (taken_caller s t t1 t2 _).0 h in
      let (waits, last) = unless_none _ _ _ rest in
      let target : Target s t t2 =
      ⊎_elim (λ p. inr (eqb-true _ _ p))
      (λ p. inl (⊎_elim (λ q. inl (eqb-true _ _ q)) (λ q. inr (eqb-true _ _ q)) (either_cases _ _ p)))
      (either_cases _ _ waits) in
      (runs, source_made, target_made, target, last),
  λ h.
      let waits =
      ⊎_elim (λ p. either_right _ (⊎_elim (λ q. either_left _ (eq-eqb _ _ q)) (λ q. either_right _ (eq-eqb _ _ q)) p))
      (λ p. either_left _ (eq-eqb _ _ p))
      h.3 in
      (taken_caller s t t1 t2 _).1 (h.0, h.1, h.2, unless_all _ waits h.4),
)

pub adds_nothing_lem : (s : Lent) (t1 t2 : ℕ) → (adds_nothing s t1 t2 ≡ true) ↔ AddsNothing s t1 t2
unfolding adds_nothing
adds_nothing_lem s t1 t2 = (
  λ h.
      ⊎_elim
      (λ p. inl (eqb-true _ _ p))
      (λ p. inr ((held_decides s t1 t2).0 p))
      (either_cases _ _ h),
  ⊎_elim
      (λ p. either_left _ (eq-eqb _ _ p))
      (λ p. either_right _ ((held_decides s t1 t2).1 p)),
)

pub adds_one :
    (s : Lent) (t1 t2 : ℕ) → (adds_nothing s t1 t2 ≡ false) ↔ ((status s.vertices t1 ≡ FINISHED → ⊥) × (holds s.edges s.held t1 t2 ≡ false))
unfolding adds_nothing
adds_one s t1 t2 = (
  λ h. (eqb-false _ _ (either-false_left _ _ h), either-false_right _ _ h),
  λ h. either-false (ne_eqb _ _ h.0) h.1,
)

pub taken_append :
    (e : List ℕ) (n t1 t2 : ℕ) → (append_refusal e n t1 t2 ≡ 0) ↔ ((t1 ≡ t2 → ⊥) × (reaches e n t2 t1 ≡ false) × (n < edge_rows e))
unfolding append_refusal
taken_append e n t1 t2 = (
  λ h.
      let (cycle, rest) = unless_none _ _ _ h in
      let (free, last) = unless_none _ _ _ rest in
      (eqb-false _ _ (either-false_left _ _ (not-true _ cycle)), either-false_right _ _ (not-true _ cycle), ltb-true _ _ free),
  λ h. unless_all _ (not_of_false (either-false (ne_eqb _ _ h.0) h.1)) (unless_all _ (lt-ltb _ _ h.2) refl),
)

cond_cases : (b : Bool) (m : ℕ) → cond b 0 m ≡ 0 → (b ≡ true) ⊎ ((b ≡ false) × (m ≡ 0))
cond_cases true m h = inl refl
cond_cases false m h = inr (refl, h)

cond_left : {b : Bool} (m : ℕ) → b ≡ true → cond b 0 m ≡ 0
cond_left m p = rw p

cond_right : (b : Bool) {m : ℕ} → m ≡ 0 → cond b 0 m ≡ 0
cond_right true p = refl
cond_right false p = p

taken_new_edge : (s : Lent) (t t1 t2 : ℕ) → (new_edge_refusal s t t1 t2 ≡ 0) ↔ (Runs s t × TakenNewEdge s t t1 t2)
unfolding new_edge_refusal
taken_new_edge s t t1 t2 = (
  λ h.
      let (runs, source_made, target_made, waits, own) = (taken_ends s t t1 t2 _).0 h in
      let adds : AddsNothing s t1 t2 ⊎ Adds s t1 t2 =
      ⊎_elim (λ p. inl ((adds_nothing_lem s t1 t2).0 p))
      (λ p.
      let (not_finished, not_held) = (adds_one s t1 t2).0 p.0 in
      let (not_same, no_path, row_free) = (taken_append _ _ _ _).0 p.1 in
      inr (record { not_finished = not_finished; not_held = not_held; not_same = not_same; no_path = no_path; row_free = row_free }))
      (cond_cases _ _ own) in
      (runs, record { source_made = source_made; target_made = target_made; waits = waits; adds = adds }),
  λ h.
      let own : cond (adds_nothing s t1 t2) 0 (append_refusal s.edges s.held t1 t2) ≡ 0 =
      ⊎_elim (λ p. cond_left _ ((adds_nothing_lem s t1 t2).1 p))
      (λ p. cond_right (adds_nothing s t1 t2) ((taken_append _ _ _ _).1 (p.not_same, p.no_path, p.row_free)))
      h.1.adds in
      (taken_ends s t t1 t2 _).1 (h.0, h.1.source_made, h.1.target_made, h.1.waits, own),
)

taken_release : (s : Lent) (t t' : ℕ) → (release_refusal s t t' ≡ 0) ↔ (Runs s t × (t' < s.made) × (status s.vertices t' ≡ NEW))
unfolding release_refusal
taken_release s t t' = (
  λ h.
      let (runs, is_made, again, own) = (taken_caller s t t' t' _).0 h in
      (runs, is_made, eqb-true _ _ (unless_none _ _ _ own).0),
  λ h. (taken_caller s t t' t' _).1 (h.0, h.1, h.1, unless_all _ (eq-eqb _ _ h.2) refl),
)

taken_transfer : (s : Lent) (t t' : ℕ) → (transfer_refusal s t t' ≡ 0) ↔ (Runs s t × TakenTransfer s t t')
unfolding transfer_refusal
taken_transfer s t t' = (
  λ h.
      let (runs, is_made, again, own) = (taken_caller s t t' t' _).0 h in
      let (new, h4) = unless_none _ _ _ own in
      let (out, h5) = unless_none _ _ _ h4 in
      let (path, h6) = unless_none _ _ _ h5 in
      (runs, record { is_made = is_made; is_new = eqb-true _ _ new; no_edge_out = not-true _ out; no_path = not-true _ path }),
  λ h.
      (taken_caller s t t' t' _).1 (
        h.0,
        h.1.is_made,
        h.1.is_made,
        unless_all _ (eq-eqb _ _ h.1.is_new)
            (unless_all _ (not_of_false h.1.no_edge_out) (unless_all _ (not_of_false h.1.no_path) refl)),
      ),
)

-- a known status that is none of the three others
only_released : (x : ℕ) → Known x → eqb x NEW ≡ false → eqb x EXECUTING ≡ false → eqb x FINISHED ≡ false → x ≡ RELEASED
only_released x known new runs over = omega (arith, eqb-false x NEW new, eqb-false x EXECUTING runs, eqb-false x FINISHED over)

known_status : (v : List ℕ) (k : ℕ) → (status_known v k ≡ true) ↔ Known (status v k)
unfolding status_known
known_status v k = (
  λ h. (leb-true _ _ (both_left _ _ h), leb-true _ _ (both_right _ _ h)),
  λ h. both_true (le-leb _ _ h.0) (le-leb _ _ h.1),
)

taken_start : (s : Lent) (t : ℕ) → (start_refusal s t ≡ 0) ↔ TakenStart s t
unfolding start_refusal
taken_start s t = (
  λ h.
      let (fits, h1) = unless_none _ _ _ h in
      let (made, h2) = unless_none _ _ _ h1 in
      let (known, h3) = unless_none _ _ _ h2 in
      let (new, h4) = unless_none _ _ _ h3 in
      let (runs, h5) = unless_none _ _ _ h4 in
      let (over, h6) = unless_none _ _ _ h5 in
      let (none, h7) = unless_none _ _ _ h6 in (
        fits,
        ltb-true _ _ made,
        only_released _ ((known_status s.vertices t).0 known) (not-true _ new) (not-true _ runs) (not-true _ over),
        eqb-true _ _ none,
      ),
  λ h.
      unless_all _ h.0
      (unless_all _ (lt-ltb _ _ h.1)
      (unless_all _ ((known_status s.vertices t).1 (omega (arith, h.2)))
      (unless_all _ (not_of_false (ne_eqb (status s.vertices t) NEW (omega (arith, h.2))))
      (unless_all _ (not_of_false (ne_eqb (status s.vertices t) EXECUTING (omega (arith, h.2))))
      (unless_all _ (not_of_false (ne_eqb (status s.vertices t) FINISHED (omega (arith, h.2)))) (unless_all _ (eq-eqb _ _ h.3) refl)))))),
)

-- a command that names its caller alone, and has no refusal of its own
taken_alone : (s : Lent) (t : ℕ) → (caller_refusal s t t t 0 ≡ 0) ↔ Runs s t
taken_alone s t = (λ h. ((taken_caller s t t t 0).0 h).0, λ h. (taken_caller s t t t 0).1 (h, h.is_made, h.is_made, refl))

taken_stop : (s : Lent) (t : ℕ) → (stop_refusal s t ≡ 0) ↔ Runs s t
unfolding stop_refusal
taken_stop s t = taken_alone s t

taken_yield : (s : Lent) (t : ℕ) → (yield_refusal s t ≡ 0) ↔ Runs s t
unfolding yield_refusal
taken_yield s t = taken_alone s t

pub taken : (c : Command) (s : Lent) → (refusal c s ≡ 0) ↔ Taken c s
taken (NewTd t place scope) s = taken_new_td s t
taken (NewEdge t t1 t2) s = taken_new_edge s t t1 t2
taken (Release t t') s = taken_release s t t'
taken (Transfer t t') s = taken_transfer s t t'
taken (Start t) s = taken_start s t
taken (Stop t) s = taken_stop s t
taken (Yield t) s = taken_yield s t

-- the row that a command needs was free
pub row_free_of : (c : Command) (s : Lent) → Taken c s → RowFree c s
row_free_of (NewTd t place scope) s h = h.1
row_free_of (NewEdge t t1 t2) s h = ⊎_elim inl (λ p. inr p.row_free) h.1.adds
row_free_of (Release t t') s h = tt
row_free_of (Transfer t t') s h = tt
row_free_of (Start t) s h = tt
row_free_of (Stop t) s h = tt
row_free_of (Yield t) s h = tt

-- the tally of tables that take a command fits the rows
runs_rows : (s : Lent) (t : ℕ) → Runs s t → (s.made ≤ vertex_rows s.vertices) × (s.held ≤ edge_rows s.edges)
runs_rows s t r = let f = sound_fits s r.known in (f.vertices_fit, f.edges_fit)

pub taken_rows : (c : Command) (s : Lent) → Taken c s → (s.made ≤ vertex_rows s.vertices) × (s.held ≤ edge_rows s.edges)
taken_rows (NewTd t place scope) s h = runs_rows s t h.0
taken_rows (NewEdge t t1 t2) s h = runs_rows s t h.0
taken_rows (Release t t') s h = runs_rows s t h.0
taken_rows (Transfer t t') s h = runs_rows s t h.0
taken_rows (Start t) s h = fits_rows _ _ _ _ h.0
taken_rows (Stop t) s h = runs_rows s t h
taken_rows (Yield t) s h = runs_rows s t h
