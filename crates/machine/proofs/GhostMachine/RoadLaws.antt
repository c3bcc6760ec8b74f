-- More laws of the parts that states and moves are made of: what is seen of a control, and of what it becomes, edges with one more, handed
-- on, or dropped, and the vertex that a force names.
use Prim.Native.Nat.{ℕ, ◌<◌}
use mathlib.Core.Path.{◌≡◌, refl, sym, ◌∙◌, ap}
use mathlib.Core.Bool.{Bool, true, false, not, cond}
use mathlib.Core.Logic.{⊎_elim}
use mathlib.Core.List.{List, []}
use mathlib.Core.Option.{some}
use borrow.Author.Tests.{eq-eqb, ne_eqb, eqb-true, eqb-false, not-true}
use Rattle.graph.proofs.TestLaws.{not_of_false, both_true, both_left, both_right, either_left, either_right, either_cases}
use Rattle.program.specs.Located.{Code, force_at}
use Rattle.machine.proofs.GhostMachine.Ghost.{Do, link, hand, free, yield, Control, draft, fresh, ready, busy, joining, over, State, onward, resumed, freed}
use Rattle.machine.proofs.GhostMachine.Ghost.{done, linked, handed, dropped, live, forced_by}
use Rattle.machine.proofs.GhostMachine.Invariant.{tasks, code_of, is_item, waits, is_draft, sits, Shape, Opened}
use Rattle.machine.proofs.GhostMachine.GhostLaws.{clash, below, put_keeps, freed_keeps, onward_cases, resumed_cases, forced_open}

-- what is seen of controls
pub fresh_idle : {x : Control} {c : Code} → x ≡ fresh c → tasks x ≡ []
unfolding tasks
fresh_idle e = ap tasks e

pub over_idle : {x : Control} → x ≡ over → tasks x ≡ []
unfolding tasks
over_idle e = ap tasks e

pub busy_code : {x : Control} {c : Code} {ms : List ℕ} → x ≡ busy c ms → code_of x ≡ some c
unfolding code_of
busy_code e = ap code_of e

pub busy-waits : {x : Control} {c : Code} {ms : List ℕ} → x ≡ busy c ms → waits x ≡ false
unfolding waits
busy-waits e = ap waits e

pub draft-waits : {x : Control} {c : Code} → x ≡ draft c → waits x ≡ true
unfolding waits
draft-waits e = ap waits e

pub over-waits : {x : Control} → x ≡ over → waits x ≡ false
unfolding waits
over-waits e = ap waits e

pub busy_draft : {x : Control} {c : Code} {ms : List ℕ} → x ≡ busy c ms → is_draft x ≡ false
unfolding is_draft
busy_draft e = ap is_draft e

-- a draft does not sit, nor does a vertex that has an item under way or something left to do
pub draft-sits : {x : Control} {c : Code} → x ≡ draft c → sits x ≡ false
unfolding sits
draft-sits e = ap sits e

pub busy-sits : {x : Control} {c : Code} {ms : List ℕ} → x ≡ busy c ms → is_item c ≡ true → sits x ≡ false
unfolding sits
busy-sits e i = ap sits e ∙ ap not i

pub joining-sits : {x : Control} {c : Code} {d : Do} {ds : List Do} → x ≡ joining c d ds → sits x ≡ false
unfolding sits
joining-sits e = ap sits e

-- a vertex that waits is not finished
pub waits-live : (x : Control) → waits x ≡ true → live x ≡ true
unfolding waits live
waits-live (draft c) h = refl
waits-live (fresh c) h = refl
waits-live (ready c) h = refl
waits-live (busy c ms) h = refl
waits-live (joining c d ds) h = refl
waits-live over h = h

-- a vertex that sits has nothing left to do
pub sits_idle : (x : Control) → sits x ≡ true → tasks x ≡ []
unfolding sits tasks
sits_idle (draft c) h = refl
sits_idle (fresh c) h = refl
sits_idle (ready c) h = refl
sits_idle (busy c ms) h = refl
sits_idle (joining c d ds) h = clash (sym h)
sits_idle over h = refl

-- an edge that is still to be made may lead from it: it is fresh, or it sits and is not finished
unfoldable pub is_source : Control → Bool
is_source (draft c) = false
is_source (fresh c) = true
is_source (ready c) = not (is_item c)
is_source (busy c ms) = not (is_item c)
is_source (joining c d ds) = false
is_source over = false

pub busy_source : {x : Control} {c : Code} {ms : List ℕ} → x ≡ busy c ms → is_item c ≡ true → is_source x ≡ false
unfolding is_source
busy_source e i = ap is_source e ∙ ap not i

pub fresh_source : {x : Control} {c : Code} → x ≡ fresh c → is_source x ≡ true
unfolding is_source
fresh_source e = ap is_source e

pub sits_source : (x : Control) → sits x ≡ true → live x ≡ true → is_source x ≡ true
unfolding sits live is_source
sits_source (draft c) h l = h
sits_source (fresh c) h l = refl
sits_source (ready c) h l = h
sits_source (busy c ms) h l = h
sits_source (joining c d ds) h l = h
sits_source over h l = l

-- a vertex that executes has been made
pub busy_below : {S : State} {c : Code} {ms : List ℕ} → Shape S → (v : ℕ) → S.control v ≡ busy c ms → v < S.count
busy_below sh v q = below sh v (λ o. let z = sym q ∙ o in clash cc)

-- an edge besides those that were there: it is old, or it is that one
pub linked_cases :
    {P : Type 0} (e : ℕ → ℕ → Bool) (a b x y : ℕ) → linked e a b x y ≡ true → (e x y ≡ true → P) → (x ≡ a → y ≡ b → P) → P
linked_cases e a b x y h f g =
    ⊎_elim f (λ q. g (eqb-true x a (both_left _ _ q)) (eqb-true y b (both_right _ _ q))) (either_cases _ _ h)

pub linked_old : (e : ℕ → ℕ → Bool) (a b x y : ℕ) → e x y ≡ true → linked e a b x y ≡ true
linked_old e a b x y h = either_left _ h

pub linked_new : (e : ℕ → ℕ → Bool) (a b : ℕ) → linked e a b a b ≡ true
linked_new e a b = either_right (e a b) (both_true (eq-eqb a a refl) (eq-eqb b b refl))

-- the same where an edge from a finished vertex adds nothing; t tells that its source is not finished
abbrev pub linked_if : Bool → (ℕ → ℕ → Bool) → ℕ → ℕ → ℕ → ℕ → Bool
linked_if t e a b x y = cond t (linked e a b x y) (e x y)

pub linked_if_cases :
    {P : Type 0} (t : Bool) (e : ℕ → ℕ → Bool) (a b x y : ℕ) → linked_if t e a b x y ≡ true → (e x y ≡ true → P)
    → (t ≡ true → x ≡ a → y ≡ b → P) → P
linked_if_cases true e a b x y h f g = linked_cases e a b x y h f (g refl)
linked_if_cases false e a b x y h f g = f h

pub linked_if_old : (t : Bool) (e : ℕ → ℕ → Bool) (a b x y : ℕ) → e x y ≡ true → linked_if t e a b x y ≡ true
linked_if_old true e a b x y h = linked_old e a b x y h
linked_if_old false e a b x y h = h

pub linked_if_new : (t : Bool) (e : ℕ → ℕ → Bool) (a b : ℕ) → t ≡ true → linked_if t e a b a b ≡ true
linked_if_new true e a b h = linked_new e a b
linked_if_new false e a b h = clash (sym h)

-- edges out of v given to h: an edge is out of another vertex and old, or it is one of h, and was one of v
pub handed_cases :
    {P : Type 0} (e : ℕ → ℕ → Bool) (v h x y : ℕ) → handed e v h x y ≡ true → (e x y ≡ true → (x ≡ v → ⊥) → P)
    → (x ≡ h → e v y ≡ true → P) → P
handed_cases e v h x y q f g =
    ⊎_elim
    (λ q. f (both_left _ _ q) (eqb-false x v (not-true _ (both_right _ _ q))))
    (λ q. g (eqb-true x h (both_left _ _ q)) (both_right _ _ q))
    (either_cases _ _ q)

pub handed_old : (e : ℕ → ℕ → Bool) (v h x y : ℕ) → e x y ≡ true → (x ≡ v → ⊥) → handed e v h x y ≡ true
handed_old e v h x y q n = either_left _ (both_true q (not_of_false (ne_eqb x v n)))

pub handed_new : (e : ℕ → ℕ → Bool) (v h y : ℕ) → e v y ≡ true → handed e v h h y ≡ true
handed_new e v h y q = either_right _ (both_true (eq-eqb h h refl) q)

-- edges but for those out of v
pub dropped_edge : (e : ℕ → ℕ → Bool) (v x y : ℕ) → dropped e v x y ≡ true → e x y ≡ true
dropped_edge e v x y q = both_left _ _ q

pub dropped_old : (e : ℕ → ℕ → Bool) (v x y : ℕ) → e x y ≡ true → (x ≡ v → ⊥) → dropped e v x y ≡ true
dropped_old e v x y q n = both_true q (not_of_false (ne_eqb x v n))

-- what is seen of a vertex behind a split
pub code_onward : (c : Code) (ds : List Do) → code_of (onward c ds) ≡ some c
unfolding code_of
code_onward c = onward_cases (λ x. code_of x ≡ some c) c refl (λ d ds. refl)

pub draft_onward : (c : Code) (ds : List Do) → is_draft (onward c ds) ≡ false
unfolding is_draft
draft_onward c = onward_cases (λ x. is_draft x ≡ false) c refl (λ d ds. refl)

pub live-onward : (c : Code) (ds : List Do) → live (onward c ds) ≡ true
unfolding live
live-onward c = onward_cases (λ x. live x ≡ true) c refl (λ d ds. refl)

-- and of one that has done a command
pub code_resumed : (c : Code) (d : Do) (ds : List Do) → code_of (resumed c d ds) ≡ some c
unfolding code_of
code_resumed c = resumed_cases (λ x. code_of x ≡ some c) c refl (λ d ds. refl) refl

pub draft_resumed : (c : Code) (d : Do) (ds : List Do) → is_draft (resumed c d ds) ≡ false
unfolding is_draft
draft_resumed c = resumed_cases (λ x. is_draft x ≡ false) c refl (λ d ds. refl) refl

pub live-resumed : (c : Code) (d : Do) (ds : List Do) → live (resumed c d ds) ≡ true
unfolding live
live-resumed c = resumed_cases (λ x. live x ≡ true) c refl (λ d ds. refl) refl

-- a joining command leaves what is seen of controls, where a fresh and a released vertex are seen alike
pub done_keeps :
    {B : Type 0} (g : Control → B) → ((c : Code) → g (ready c) ≡ g (fresh c)) → (S : State) (v : ℕ) (d : Do) (u : ℕ)
    → g ((done S v d).control u) ≡ g (S.control u)
unfolding done
done_keeps g e S v (link a b) u = refl
done_keeps g e S v (hand k) u = refl
done_keeps g e S v yield u = refl
done_keeps g e S v (free m) u = put_keeps g S.control m (freed (S.control m)) (freed_keeps g e (S.control m)) u

-- the vertex that a force names has been made
pub forced_below :
    {o i v : ℕ} {b r : Code} {S : State} → Shape S → Opened S → S.control v ≡ busy (force_at o i b r) []
    → forced_by (S.opens v) (force_at o i b r) < S.count
forced_below {v = v} {b = b} {S = S} sh op q = (op.there v _ b (busy_below sh v q) (forced_open op q)).1
