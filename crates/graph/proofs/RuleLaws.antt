-- The sets of edges that the rules of the slides write down, told by their members; and two graphs that agree are the same.
use Prim.Native.Nat.{ℕ}
use mathlib.Core.Path.{◌≡◌, sym, ◌∙◌, ap, ap₂, subst}
use mathlib.Core.Logic.{◌⊎◌, inl, inr, ⊎_elim}
use mathlib.Core.Bool.{Bool, true, false, cond}
use mathlib.Core.Option.{Option}
use lib.Dec.{eqb}
use borrow.Author.Tests.{eq-eqb, ne_eqb, eqb-true, not-true}
use Rattle.graph.specs.Tests.{both, either}
use Rattle.graph.specs.Rules.{Graph, in_domain, is_finished, out_of, resourced, added, ◌∖◌, ◌∪◌}
use Rattle.graph.proofs.TestLaws.{true-false, same, decide, not_so, both_true, both_left, both_right, both-false_left}
use Rattle.graph.proofs.TestLaws.{either_cases, either_left, either_right, either_none, not_of_false}
use Rattle.graph.proofs.EdgeLaws.{Is, OneMore, NotFrom, Moved}

pub same_graph :
    {σ τ : ℕ → Option ℕ} {E F : ℕ → ℕ → Bool} → ((x : ℕ) → σ x ≡ τ x) → ((a b : ℕ) → E a b ≡ F a b)
    → ◌≡◌ {A = Graph} (record { status = σ; edge = E }) (record { status = τ; edge = F })
same_graph p q = λ i. record { status = λ x. p x i; edge = λ a b. q a b i }

-- edges out of t lead into dom(V)
abbrev pub Inside : Graph → ℕ → Type 0
Inside G t = (b : ℕ) → G.edge t b ≡ true → in_domain G b ≡ true

-- E ⊎ (if status(V(t1)) = F then ∅ else {(t1, t2)})
pub added_nothing : (G : Graph) (t1 t2 : ℕ) → is_finished (G.status t1) ≡ true → (a b : ℕ) → added G t1 t2 a b ≡ false
added_nothing G t1 t2 p a b = ap (λ (x : Bool). cond x false (both (eqb a t1) (eqb b t2))) p

pub added_edge : (G : Graph) (t1 t2 : ℕ) → is_finished (G.status t1) ≡ false → (a b : ℕ) → added G t1 t2 a b ≡ both (eqb a t1) (eqb b t2)
added_edge G t1 t2 p a b = ap (λ (x : Bool). cond x false (both (eqb a t1) (eqb b t2))) p

added_only : (G : Graph) (t1 t2 a b : ℕ) → added G t1 t2 a b ≡ true → (a ≡ t1) × (b ≡ t2)
added_only G t1 t2 a b h =
    ⊎_elim
    (λ p. true-false h (added_nothing G t1 t2 p a b))
    (λ p.
    let q = sym (added_edge G t1 t2 p a b) ∙ h in
    (eqb-true a t1 (both_left _ _ q), eqb-true b t2 (both_right _ _ q)))
    (decide (is_finished (G.status t1)))

-- nothing is added by a finished source, nor where the edge is there
pub added_none :
    (G : Graph) (t1 t2 : ℕ) → (is_finished (G.status t1) ≡ true) ⊎ (G.edge t1 t2 ≡ true) → (a b : ℕ)
    → (G.edge ∪ added G t1 t2) a b ≡ G.edge a b
added_none G t1 t2 (inl p) a b =
    ap (λ (x : Bool). either (G.edge a b) x) (added_nothing G t1 t2 p a b) ∙ either_none (G.edge a b)
added_none G t1 t2 (inr p) a b =
    same _ (G.edge a b)
    (λ h.
    ⊎_elim
    (λ q. q)
    (λ q. let (r, z) = added_only G t1 t2 a b q in ap₂ G.edge r z ∙ p)
    (either_cases _ _ h))
    (either_left _)

pub added_is : (G : Graph) (t1 t2 : ℕ) → is_finished (G.status t1) ≡ false → Is (G.edge ∪ added G t1 t2) (OneMore G.edge t1 t2)
added_is G t1 t2 p a b = (
  λ h. ⊎_elim (λ r. inl r) (λ r. inr (added_only G t1 t2 a b r)) (either_cases _ _ h),
  ⊎_elim
      (λ r. either_left _ r)
      (λ r. either_right _ (added_edge G t1 t2 p a b ∙ both_true (eq-eqb a t1 r.0) (eq-eqb b t2 r.1))),
)

-- E \ {(t, t'') | t'' ∈ dom(V)}
pub minus_is : (G : Graph) (t : ℕ) → Inside G t → Is (G.edge ∖ out_of G t) (NotFrom G.edge t)
minus_is G t inside a b = (
  λ h. (
    both_left _ _ h,
    λ q. true-false (both_true (eq-eqb a t q) (inside b (subst (λ (x : ℕ). G.edge x b ≡ true) q (both_left _ _ h)))) (not-true _ (both_right _ _ h)),
  ),
  λ h. both_true h.0 (not_of_false (both-false_left _ (ne_eqb a t h.1))),
)

-- .. ⊎ {(t', t'') | (t, t'') ∈ E}
pub transferred_is : (G : Graph) (t t' : ℕ) → Inside G t → Is ((G.edge ∖ out_of G t) ∪ resourced G t t') (Moved G.edge t t')
transferred_is G t t' inside a b = (
  λ h.
      ⊎_elim
      (λ q. inl ((minus_is G t inside a b).0 q))
      (λ q. inr (eqb-true a t' (both_left _ _ q), both_right _ _ q))
      (either_cases _ _ h),
  λ h.
      ⊎_elim
      (λ q. either_left _ ((minus_is G t inside a b).1 q))
      (λ q. either_right _ (both_true (eq-eqb a t' q.0) q.1))
      h,
)

-- its two sets are disjoint where t' has no edge out
pub transferred_disjoint :
    (G : Graph) (t t' : ℕ) → ((b : ℕ) → G.edge t' b ≡ false) → (a b : ℕ) → both ((G.edge ∖ out_of G t) a b) (resourced G t t' a b) ≡ false
transferred_disjoint G t t' none a b =
    not_so _
    (λ h.
    let q = eqb-true a t' (both_left _ _ (both_right _ _ h)) in
    true-false (both_left _ _ (both_left _ _ h)) (ap (λ (x : ℕ). G.edge x b) q ∙ none b))
