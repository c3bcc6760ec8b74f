-- The call's outcome, path by path: what each return of the code says and leaves is what the definition says and leaves.
use Prim.Native.Nat.{ℕ, ◌<◌, ◌≤◌}
use mathlib.Core.Path.{◌≡◌, refl, ◌∙◌, ap}
use mathlib.Core.Bool.{Bool, true, false}
use mathlib.Core.List.{List, ◌++◌}
use mathlib.Core.Option.{Option, none, some}
use lib.ListN.{length, drop}
use borrow.Author.Tests.{le-leb, lt-leb, lt-ltb, le-ltb}
use Rattle.std.specs.Prelude.{Result, Ok, Err, IsErrAnd}
use Rattle.refusal.specs.declared.Reason.{Reason}
use Rattle.refusal.specs.declared.Refusal.{Refusal}
use Rattle.refusal.specs.Reasons.{number, at_no_place}
use Rattle.refusal.specs.Refusals.{unsound_tables, no_such_vertex, no_chain, list_too_short}
use Rattle.graph.specs.Tests.{both}
use Rattle.graph.specs.Tables.{Lent}
use Rattle.graph.specs.Sound.{sound}
use Rattle.graph.specs.Commands.{is_made}
use Rattle.graph.proofs.TestLaws.{both_true, both-false_left, both-false_right}
use Rattle.chains.specs.Chains.{shortest_chain}
use Rattle.chains.specs.Showing.{vertices, ChainOutcome, answered, refused_with, turned_away_unless, shown, show_chain}

-- a refusal leaves the list
refused_by : (n : ℕ) (list : List ℕ) (o : ChainOutcome) {b : Bool} → b ≡ false → refused_with n list ≡ turned_away_unless b n list o
unfolding turned_away_unless
refused_by n list o p = rw p refl

passed_by : (n : ℕ) (list : List ℕ) (o : ChainOutcome) {b : Bool} → b ≡ true → o ≡ turned_away_unless b n list o
unfolding turned_away_unless
passed_by n list o p = rw p refl

-- 41, 42, and the chain written
pub shown-none : (list : List ℕ) {o : Option (List ℕ)} → o ≡ none → refused_with no_chain list ≡ shown o list
unfolding shown
shown-none list p = rw p refl

pub shown_short : (list l : List ℕ) {o : Option (List ℕ)} → o ≡ some l → length list < length l → refused_with list_too_short list ≡ shown o list
unfolding shown
shown_short list l p lt = rw p (refused_by list_too_short list _ (lt-leb (length l) (length list) lt))

pub shown_written :
    (n : ℕ) (list list' l : List ℕ) {o : Option (List ℕ)} → o ≡ some l → n ≡ length l → length l ≤ length list → list' ≡ l ++ drop n list
    → record { answer = vertices n; list = list' } ≡ shown o list
unfolding shown
shown_written n list list' l p q le h =
    rw p
    (ap (λ (x : List ℕ). record { answer = vertices n; list = x }) h
    ∙ ap (λ (k : ℕ). record { answer = vertices k; list = l ++ drop k list }) q
    ∙ passed_by list_too_short list _ (le-leb (length l) (length list) le))

-- 12 and 20 come before
module _ (s : Lent) (t1 t2 : ℕ) (list : List ℕ) where
  pub shown_unsound : sound s ≡ false → refused_with unsound_tables list ≡ show_chain s t1 t2 list
  unfolding show_chain
  shown_unsound p = refused_by unsound_tables list _ p

  module _ (known : sound s ≡ true) where
    past_sound :
        (o : ChainOutcome)
        → o ≡ turned_away_unless (both (is_made s t1) (is_made s t2)) no_such_vertex list (shown (shortest_chain s t2 t1) list)
        → o ≡ show_chain s t1 t2 list
    unfolding show_chain
    past_sound o h = h ∙ passed_by unsound_tables list _ known

    pub shown_no_source : s.made ≤ t1 → refused_with no_such_vertex list ≡ show_chain s t1 t2 list
    shown_no_source le = past_sound _ (refused_by no_such_vertex list _ (both-false_left _ (le-ltb t1 s.made le)))

    pub shown_no_target : s.made ≤ t2 → refused_with no_such_vertex list ≡ show_chain s t1 t2 list
    shown_no_target le = past_sound _ (refused_by no_such_vertex list _ (both-false_right _ (le-ltb t2 s.made le)))

    pub shown_of_made : (o : ChainOutcome) → t1 < s.made → t2 < s.made → o ≡ shown (shortest_chain s t2 t1) list → o ≡ show_chain s t1 t2 list
    shown_of_made o lt1 lt2 h =
        past_sound o (h ∙ passed_by no_such_vertex list _ (both_true (lt-ltb t1 s.made lt1) (lt-ltb t2 s.made lt2)))

-- the reason as a refusal, behind `?`
pub handed_on :
    (res : Result ℕ Refusal) (r : Reason) (list : List ℕ) {o : ChainOutcome} → IsErrAnd res (at_no_place r) → refused_with (number r) list ≡ o
    → answered res list ≡ o
handed_on (Ok n) r list h p = absurd h
handed_on (Err x) r list h p = ap (λ (y : Refusal). answered (Err y) list) h ∙ p
