-- A command on an index: the refusals of a caller that executes, what is known where a run is under way, and the two ways in which a command ends.
use Rattle.std.specs.Prelude.{Result, Ok, Err, IsErrAnd, is_ok, is_err}
use Prim.Native.Nat.{ℕ, ◌*◌, ◌<◌, ◌≤◌}
use mathlib.Core.Path.{◌≡◌, refl, sym, ◌∙◌, ap, subst}
use mathlib.Core.Bool.{Bool, true, false}
use mathlib.Core.List.{List}
use native.Mathlib.Omega.{arith}
use lib.ListN.{replicate, length-replicate}
use lib.Dec.{eqb}
use borrow.Author.Tests.{lt-ltb, le-ltb, eq-eqb, ne_eqb}
use Rattle.graph.specs.declared.Command.{Command}
use Rattle.graph.specs.Tables.{Lent, EXECUTING, usable_limit, edge_words, vertex_rows, edge_rows, status}
use Rattle.graph.specs.Sound.{sound}
use Rattle.graph.specs.Paths.{holds, leads_out_of, reaches}
use Rattle.graph.specs.Answers.{CommandSaid, said, accepted, Outcome}
use Rattle.graph.specs.Commands.{caller_refusal, command}
use Rattle.refusal.specs.declared.Reason.{Reason}
use Rattle.refusal.specs.Refusals.{no_such_vertex}
use Rattle.refusal.specs.Reasons.{number, due_number}
use Rattle.refusal.proofs.ReasonLaws.{number_positive}
use Rattle.graph.proofs.TestLaws.{true-false, both_true, both-false_left, both-false_right}
use Rattle.graph.proofs.SoundLaws.{sound_fits, fits_sound}
use Rattle.graph.proofs.TakenLaws.{refusal, says, says-accepted, leaves, Runs, Taken, taken, taken_is, answer_refused, after_refused}
use Rattle.graph.proofs.KeepLaws.{leaves_fits}
use Rattle.graph.proofs.CallLaws.{pass, halt, answered}
use Rattle.index.specs.declared.Course.{Course}
use Rattle.index.specs.declared.Changed.{Changed}
use Rattle.index.specs.Layout.{nowhere, Indexed}
use Rattle.index.specs.Table.{live_rows, table_of}
use Rattle.index.specs.Underway.{state_of, tried, Ready, Executes, Widens, Changes, caller_of}
use Rattle.index.proofs.StandsFor.{edge_rows-table_of, holds-table_of, out_table_of, reaches-table_of}
use Rattle.index.proofs.Widening.{widens_same}

-- a refusal is due exactly where its number is not 0
pub due_told : {A : Type 0} (r : Result A Reason) → is_ok r ≡ eqb (due_number r) 0
due_told (Ok x) = refl
due_told (Err e) = sym (ne_eqb (number e) 0 (λ z. let p = number_positive e in omega arith))

pub is_due : {A : Type 0} (r : Result A Reason) → is_err r ≡ true → (e : Reason) × (due_number r ≡ number e)
is_due (Ok x) h = true-false h refl
is_due (Err e) h = (e, refl)

pub none_due : {A : Type 0} (r : Result A Reason) → is_err r ≡ false → due_number r ≡ 0
none_due (Ok x) h = refl
none_due (Err e) h = true-false refl h

-- a command that is refused with the number that is due
refused_is :
    (c : Command) (s : Lent) {n : ℕ} → n ≡ refusal c s → (n ≡ 0 → ⊥)
    → ◌≡◌ {A = Outcome CommandSaid} (record { answer = CommandSaid.refused n 0; after = s }) (command c s)
refused_is c s {n} p q =
    let a : (command c s).answer ≡ CommandSaid.refused n 0 = (answer_refused c s n 0).1 (λ z. q (p ∙ z), sym p, refl) in
    let b : (command c s).after ≡ s = after_refused c s (ap accepted a) in
    λ i. record { answer = sym a i; after = sym b i }

-- the refusals that begin the chain of a caller that executes: a vertex named may not be made, else the command's own follow
pub own_refusal :
    (s : Lent) (t a b : ℕ) {m own : ℕ} → sound s ≡ true → (t < s.made) × (status s.vertices t ≡ EXECUTING) → a < s.made → b < s.made
    → m ≡ own → m ≡ caller_refusal s t a b own
unfolding caller_refusal
own_refusal s t a b known runs la lb h =
    pass _ known (pass _ (both_true (lt-ltb _ _ runs.0) (both_true (lt-ltb _ _ la) (lt-ltb _ _ lb))) (pass _ (eq-eqb _ _ runs.1) h))

pub first_not_made : (s : Lent) (t a b own : ℕ) → sound s ≡ true → s.made ≤ a → no_such_vertex ≡ caller_refusal s t a b own
unfolding caller_refusal
first_not_made s t a b own known out = pass _ known (halt _ _ (both-false_right _ (both-false_left _ (le-ltb a s.made out))))

pub second_not_made : (s : Lent) (t a b own : ℕ) → sound s ≡ true → s.made ≤ b → no_such_vertex ≡ caller_refusal s t a b own
unfolding caller_refusal
second_not_made s t a b own known out = pass _ known (halt _ _ (both-false_right _ (both-false_right _ (le-ltb b s.made out))))

-- what the code finds of the index holds of the edge table that it stands for
module _ (x : List ℕ) (used peak : ℕ) (e : List ℕ) {held : ℕ} (live : held ≡ live_rows x used) (a : ℕ) (usable : a < usable_limit) {r y : Bool} where
  pub held_found : (b : ℕ) → r ≡ holds x used a b → r ≡ y → holds (table_of x used peak e) held a b ≡ y
  held_found b p q = rw live (holds-table_of x used peak e a b usable) ∙ answered p q

  pub out_found : r ≡ leads_out_of x used a → r ≡ y → leads_out_of (table_of x used peak e) held a ≡ y
  out_found p q = rw live (out_table_of x used peak e a usable) ∙ answered p q

  pub path_found : Indexed x used → (b : ℕ) → r ≡ reaches x used a b → r ≡ y → reaches (table_of x used peak e) held a b ≡ y
  path_found indexed b p q = rw live (reaches-table_of x used peak e indexed.targets a b usable) ∙ answered p q

-- that one has as many rows as were lent
pub rows_there :
    (x : List ℕ) (used peak : ℕ) (e : List ℕ) {held limit : ℕ} → held ≡ live_rows x used → held ≤ peak → peak ≤ limit → edge_rows e ≡ limit
    → limit ≡ edge_rows (table_of x used peak e)
rows_there x used peak e live below within rows = sym (edge_rows-table_of x used peak e (omega arith) (omega arith) ∙ rows)

module _ {v x : List ℕ} {k : Course} {limit : ℕ} (ready : Ready v x k limit) where
  -- a table with so many rows
  pub blank : List ℕ
  blank = replicate (edge_words * limit) 0

  pub blank_rows : edge_rows blank ≡ limit
  unfolding blank
  blank_rows = let few = ready.few in simp length-replicate (omega arith)

  -- the made vertices have usable rows
  pub made_rows : k.tally.made ≤ vertex_rows v
  made_rows = (sound_fits (state_of v x k blank) (ready.sound blank blank_rows)).vertices_fit

  -- the caller, for every edge table
  pub runs : (t : ℕ) → Executes v k t → (e : List ℕ) → edge_rows e ≡ limit → Runs (state_of v x k e) t
  runs t h e rows = record { known = ready.sound e rows; is_made = h.0; executing = h.1 }

  -- a refused command, behind the callee's `?`
  pub refused_changes :
      (c : Command) (res : Result Changed Reason) (r : Reason) → IsErrAnd res (λ (e : Reason). e ≡ r)
      → ((e : List ℕ) → edge_rows e ≡ limit → number r ≡ refusal c (state_of v x k e)) → Changes c v x k limit (tried res k) v x
  refused_changes c (Ok d) r h due = absurd h
  refused_changes c (Err n) r h due =
      record {
        does = λ e rows. refused_is c (state_of v x k e) (ap number h ∙ due e rows) (λ z. let q = number_positive n in omega arith);
        ready = ready;
        widens = widens_same v k.tally.made nowhere 0;
        turned = λ no. (refl, refl);
      }

  -- a command that is taken
  module _ (c : Command) (r : Changed) (v' x' : List ℕ) (take : (e : List ℕ) → edge_rows e ≡ limit → Taken c (state_of v x k e)) where
    pub taken_changes :
        ((e : List ℕ) → edge_rows e ≡ limit → said r.answer ≡ says c (state_of v x k e))
        → ((e : List ℕ) → edge_rows e ≡ limit → state_of v' x' r.course e ≡ leaves c (state_of v x k e))
        → Indexed x' r.course.used
        → r.course.tally.held ≡ live_rows x' r.course.used
        → (r.course.tally.held ≤ r.course.peak) × (r.course.peak ≤ limit)
        → Widens v k.tally.made v' r.course.tally.made r.lowest r.highest
        → Changes c v x k limit r v' x'
    taken_changes answers left indexed live peaks widens =
        record {
          does =
              λ e rows.
              (λ i. record { answer = answers e rows i; after = left e rows i }) ∙ sym (taken_is c (state_of v x k e) ((taken c _).1 (take e rows)));
          ready =
              record {
                indexed = indexed;
                live = live;
                below_peak = peaks.0;
                within = peaks.1;
                few = ready.few;
                sound =
                    λ e rows.
                    rw (left e rows)
                    (fits_sound _ (leaves_fits c (state_of v x k e) (sound_fits _ (ready.sound e rows)) (take e rows)));
              };
          widens = widens;
          turned = λ no. true-false (ap accepted (answers blank blank_rows) ∙ says-accepted c (state_of v x k blank)) no;
        }

-- a command by its case
pub command_case :
    {given c : Command} {v x v' x' : List ℕ} {k : Course} {limit : ℕ} {r : Changed} → given ≡ c → Changes c v x k limit r v' x'
    → Changes given v x k limit r v' x'
command_case {v = v} {x} {v'} {x'} {k} {limit} {r} p h = subst (λ (c : Command). Changes c v x k limit r v' x') (sym p) h

-- and its caller
pub caller_case :
    {given c : Command} {v x : List ℕ} {k : Course} {limit : ℕ} → Ready v x k limit → given ≡ c → Executes v k (caller_of given)
    → Executes v k (caller_of c)
caller_case {v = v} {k = k} ready p h = subst (λ (c : Command). Executes v k (caller_of c)) p h
