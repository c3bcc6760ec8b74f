-- A vertex that is over has no edge out: a stop drops them, edges are handed to new vertices only, and a command that links a finished vertex
-- adds none.
use Prim.Native.Nat.{ℕ}
use mathlib.Core.Path.{◌≡◌, refl, sym, ◌∙◌, ap, subst}
use mathlib.Core.Bool.{Bool, true, false, cond}
use mathlib.Core.Logic.{◌⊎◌, inl, inr, ⊎_elim}
use mathlib.Core.List.{List, [], ◌∷◌, ◌++◌}
use borrow.Author.Tests.{eq-eqb, ne_eqb}
use Rattle.graph.specs.Tests.{both, either}
use Rattle.graph.proofs.TestLaws.{equal?, not_so, true-false}
use Rattle.program.specs.Located.{Code}
use Rattle.machine.proofs.GhostMachine.Ghost.{Do, link, hand, free, yield, Control, draft, fresh, ready, busy, joining, over, Setting, State, put, onward, resumed}
use Rattle.machine.proofs.GhostMachine.Ghost.{woken, freed, among, dropped, handed, live, done, Event, Move, begins, performs, stops, makes}
use Rattle.machine.proofs.GhostMachine.Ghost.{splits, acts, stirred}
use Rattle.machine.proofs.GhostMachine.Invariant.{here, Shape, tasks}
use Rattle.machine.proofs.GhostMachine.GhostLaws.{put_same, put_other, put_cases, clash, woken_cases, freed_cases, onward_cases, resumed_cases}
use Rattle.machine.proofs.GhostMachine.RoadLaws.{linked_if}
use Rattle.machine.proofs.GhostMachine.Beginning.{beginning, beginning_edge}

abbrev pub Ended : State → Type 0
Ended S = (a b : ℕ) → S.control a ≡ over → S.edge a b ≡ false

-- waking, releasing and going on end nothing
woken-over : (x : Control) → woken x ≡ over → x ≡ over
woken-over = woken_cases (λ x y. y ≡ over → x ≡ over) (λ x h. h) (λ c h. clash cc)

freed-over : (x : Control) → freed x ≡ over → x ≡ over
freed-over = freed_cases (λ x y. y ≡ over → x ≡ over) (λ x h. h) (λ c h. clash cc)

onward-over : (c : Code) (ds : List Do) → onward c ds ≡ over → ⊥
onward-over c = onward_cases (λ x. x ≡ over → ⊥) c (λ h. clash cc) (λ d ds h. clash cc)

resumed-over : (c : Code) (d : Do) (ds : List Do) → resumed c d ds ≡ over → ⊥
resumed-over c = resumed_cases (λ x. x ≡ over → ⊥) c (λ h. clash cc) (λ d ds h. clash cc) (λ h. clash cc)

-- what is over, where v is given something else, is another vertex and was over
still_over : (f : ℕ → Control) (v : ℕ) (x : Control) (a : ℕ) → (x ≡ over → ⊥) → put f v x a ≡ over → (a ≡ v → ⊥) × (f a ≡ over)
still_over f v x a not_over h =
    ⊎_elim
    (λ e. absurd (not_over (sym (put_same f v x) ∙ subst (λ (w : ℕ). put f v x w ≡ over) e h)))
    (λ ne. (ne, sym (put_other f v x a ne) ∙ h))
    (equal? a v)

-- no edge leads out of a vertex that is none of those that got one
dropped_none : (e : ℕ → ℕ → Bool) (v a b : ℕ) → (a ≡ v) ⊎ (e a b ≡ false) → dropped e v a b ≡ false
unfolding both
dropped_none e v a b (inl p) = rw (eq-eqb a v p) (none (e a b))
  where
    none : (x : Bool) → both x false ≡ false
    none true = refl
    none false = refl
dropped_none e v a b (inr p) = rw p refl

linked_none : (t : Bool) (e : ℕ → ℕ → Bool) (x y a b : ℕ) → e a b ≡ false → (t ≡ true → a ≡ x → ⊥) → linked_if t e x y a b ≡ false
unfolding both either
linked_none true e x y a b p ne = rw (p, ne_eqb a x (ne refl)) refl
linked_none false e x y a b p ne = p

handed_none : (e : ℕ → ℕ → Bool) (v h a b : ℕ) → e a b ≡ false → (a ≡ h → ⊥) → handed e v h a b ≡ false
unfolding both either
handed_none e v h a b p ne = rw (p, ne_eqb a h ne) refl

-- a joining command ends nothing, and gives no edge to a vertex that is over
done_ended :
    {S : State} {v : ℕ} (c : Code) (d : Do) (ds : List Do) → Shape S → Ended S → S.control v ≡ joining c d ds → (a b : ℕ) → (a ≡ v → ⊥)
    → (done S v d).control a ≡ over → (done S v d).edge a b ≡ false
unfolding done tasks live
done_ended {S} {v} c (link x y) ds shape ended at a b ne h =
    linked_none (live (S.control x)) S.edge x y a b (ended a b h) (λ l e. true-false l (ap live (ap S.control (sym e) ∙ h)))
done_ended {S} {v} c (hand x) ds shape ended at a b ne h =
    handed_none S.edge v x a b (ended a b h) (λ e. new ((shape.todo_fits v).frees x ((shape.todo_fits v).hand_to x (rw at here))) e)
  where
    new : ((k : Code) × (S.control x ≡ fresh k)) × (S.maker x ≡ v) → a ≡ x → ⊥
    new ((k, f), m) e = let g : S.control a ≡ fresh k = ap S.control e ∙ f in clash cc
done_ended {S} {v} c (free m) ds shape ended at a b ne h =
    ended a b
    (put_cases (λ x. x ≡ over → S.control a ≡ over) S.control m (freed (S.control m)) a
    (λ e p. ap S.control e ∙ freed-over (S.control m) p)
    (λ n p. p)
    h)
done_ended c yield ds shape ended at a b ne h = ended a b h

pub ended_kept : {v : ℕ} {S S' : State} {e : Event} → Shape S → Ended S → Move S v e S' → Ended S'
ended_kept {v} {S} shape ended (begins {c} at none) a b h = ended a b (still_over S.control v (busy c []) a (λ p. clash cc) h).1
ended_kept {v} {S} shape ended (performs {r} at) a b h = ended a b (still_over S.control v (busy r []) a (λ p. clash cc) h).1
ended_kept {v} {S} shape ended (stops at) a b h =
    dropped_none S.edge v a b
    (⊎_elim (λ e. inl e) (λ ne. inr (ended a b (sym (put_other S.control v over a ne) ∙ h))) (equal? a v))
ended_kept {v} {S} shape ended (makes {c} {ms} {k} at more) a b h =
    let p = still_over (put S.control S.count (draft k.code)) v (busy c (ms ++ (S.count ∷ []))) a (λ p. clash cc) h in
    ended a b (still_over S.control S.count (draft k.code) a (λ p. clash cc) p.1).1
ended_kept {v} {S} shape ended (splits {c} {ms} {k} at last) a b h =
    let p = still_over (put (stirred S.control ms) S.count (fresh k.code)) v _ a (onward-over _ _) h in
    let q = still_over (stirred S.control ms) S.count (fresh k.code) a (λ p. clash cc) p.1 in
    ended a b (was (among a ms) q.1)
  where
    was : (t : Bool) → cond t (woken (S.control a)) (S.control a) ≡ over → S.control a ≡ over
    was true p = woken-over (S.control a) p
    was false p = p
ended_kept {v} {S} shape ended (acts {c} {d} {ds} at) a b h =
    let p = still_over (done S v d).control v (resumed c d ds) a (resumed-over c d ds) h in
    done_ended c d ds shape ended at a b p.0 p.1

-- After loading the edge is vertex 0's, which is not over.
pub ended_beginning : (p : Code) (Γ : Setting) → Ended (beginning p Γ)
unfolding beginning
ended_beginning p Γ a b h =
    not_so ((beginning p Γ).edge a b)
    (λ e. let z : ready p ≡ over = ap (beginning p Γ).control (sym (beginning_edge p Γ a b e).0) ∙ h in clash cc)
