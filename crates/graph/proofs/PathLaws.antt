-- Paths, on any set of edges, cyclic ones too. The one idea: with one more edge s → t in the set, a path from a to b does without
-- it, or it gets from a to s and from t to b without it. That gives the test `reaches` its theorem, and tells when an added edge
-- closes a cycle.
use Prim.Native.Nat.{ℕ, zero, suc, ◌<◌}
use mathlib.Core.Path.{◌≡◌, refl, sym, subst}
use mathlib.Core.Bool.{Bool, true, false}
use mathlib.Core.Logic.{◌⊎◌, inl, inr, ⊎_elim, ◌↔◌}
use mathlib.Core.List.{List}
use native.Mathlib.Omega.{arith}
use lib.Dec.{eqb}
use borrow.Author.Tests.{eq-eqb, eqb-true}
use Rattle.graph.specs.Tests.{either, any}
use Rattle.graph.specs.Tables.{source, target}
use Rattle.graph.specs.Paths.{Leads, one, more, holds, reaches}
use Rattle.graph.specs.Internal.Search.{Hops, here, hop}
use Rattle.graph.proofs.TestLaws.{true-false, not_so, both_true, both_left, both_right, either_left, either_right, either_cases, any_found, any_at, same}

pub join : {E : ℕ → ℕ → Bool} {a b c : ℕ} → Leads E a b → Leads E b c → Leads E a c
join (one e) q = more e q
join (more e p) q = more e (join p q)

-- a path of E is one of F, where F has each edge of E
pub wider : {E F : ℕ → ℕ → Bool} → ((a b : ℕ) → E a b ≡ true → F a b ≡ true) → {a b : ℕ} → Leads E a b → Leads F a b
wider h (one {a = a} {b = b} e) = one (h a b e)
wider h (more {a = a} {b = b} e p) = more (h a b e) (wider h p)

-- no edge, or a path
abbrev pub Stays : (ℕ → ℕ → Bool) → ℕ → ℕ → Type 0
Stays E a b = (a ≡ b) ⊎ Leads E a b

pub go_on : {E : ℕ → ℕ → Bool} {a b c : ℕ} → E a b ≡ true → Stays E b c → Leads E a c
go_on {E} {a} e (inl q) = one (subst (λ (x : ℕ). E a x ≡ true) q e)
go_on e (inr p) = more e p

pub arrive : {E : ℕ → ℕ → Bool} {a b c : ℕ} → Stays E a b → Leads E b c → Leads E a c
arrive {E} {c = c} (inl q) p = subst (λ (x : ℕ). Leads E x c) (sym q) p
arrive (inr q) p = join q p

-- a path and the number of its edges
pub leads_hops : {E : ℕ → ℕ → Bool} {a b : ℕ} → Leads E a b → (k : ℕ) × Hops E (suc k) a b
leads_hops (one e) = (0, hop e here)
leads_hops (more e p) = let (k, q) = leads_hops p in (suc k, hop e q)

hop_leads : {E : ℕ → ℕ → Bool} {k a b c : ℕ} → E a b ≡ true → Hops E k b c → Leads E a c
hop_leads e here = one e
hop_leads e (hop f p) = more e (hop_leads f p)

pub hops_leads : {E : ℕ → ℕ → Bool} {k a b : ℕ} → 0 < k → Hops E k a b → Leads E a b
hops_leads lt here = absurd (omega arith)
hops_leads lt (hop e p) = hop_leads e p

-- F has the edges of E and the one from s to t besides
pub cut :
    {E F : ℕ → ℕ → Bool} {s t : ℕ} → ((a b : ℕ) → F a b ≡ true → (E a b ≡ true) ⊎ ((a ≡ s) × (b ≡ t))) → {a b : ℕ} → Leads F a b
    → Leads E a b ⊎ (Stays E a s × Stays E t b)
cut h (one {a = a} {b = b} e) = ⊎_elim (λ q. inl (one q)) (λ q. inr (inl q.0, inl (sym q.1))) (h a b e)
cut {E} {t = t} h (more {a = a} {b = b} {c = c} e p) =
    ⊎_elim
    (λ q. ⊎_elim (λ r. inl (more q r)) (λ r. inr (inr (go_on q r.0), r.1)) (cut h p))
    (λ q. ⊎_elim (λ r. inr (inl q.0, inr (subst (λ (x : ℕ). Leads E x c) q.1 r))) (λ r. inr (inl q.0, r.1)) (cut h p))
    (h a b e)

-- a row that is held, and a held edge's row
pub holds_at : (e : List ℕ) (n i : ℕ) → i < n → holds e n (source e i) (target e i) ≡ true
unfolding holds
holds_at e n i lt = any_at _ n i lt (both_true (eq-eqb (source e i) (source e i) refl) (eq-eqb (target e i) (target e i) refl))

pub held_row : (e : List ℕ) (n a b : ℕ) → holds e n a b ≡ true → (i : ℕ) × (i < n) × (source e i ≡ a) × (target e i ≡ b)
unfolding holds
held_row e n a b h =
    let (i, lt, q) = any_found _ n h in
    (i, lt, eqb-true _ _ (both_left _ _ q), eqb-true _ _ (both_right _ _ q))

pub holds_less : (e : List ℕ) (n a b : ℕ) → holds e (suc n) a b ≡ true → (holds e n a b ≡ true) ⊎ ((a ≡ source e n) × (b ≡ target e n))
unfolding holds any
holds_less e n a b h =
    ⊎_elim
    (λ q. inr (sym (eqb-true _ _ (both_left _ _ q)), sym (eqb-true _ _ (both_right _ _ q))))
    (λ q. inl q)
    (either_cases _ _ h)

pub holds_more : (e : List ℕ) (n a b : ℕ) → holds e n a b ≡ true → holds e (suc n) a b ≡ true
unfolding holds any
holds_more e n a b h = either_right _ h

stays_test : (e : List ℕ) (n a b : ℕ) → (Leads (holds e n) a b → reaches e n a b ≡ true) → Stays (holds e n) a b → either (eqb a b) (reaches e n a b) ≡ true
stays_test e n a b h (inl q) = either_left _ (eq-eqb a b q)
stays_test e n a b h (inr p) = either_right _ (h p)

-- the test finds each path
pub path_reaches : (e : List ℕ) (n a b : ℕ) → Leads (holds e n) a b → reaches e n a b ≡ true
unfolding reaches
path_reaches e zero a b p = absurd (none p)
  where
    empty : (x y : ℕ) → holds e 0 x y ≡ true → ⊥
    empty x y h = let (i, lt, q, r) = held_row e 0 x y h in omega arith

    none : {x y : ℕ} → Leads (holds e 0) x y → ⊥
    none (one {a = x} {b = y} h) = empty x y h
    none (more {a = x} {b = y} h q) = empty x y h
path_reaches e (suc n) a b p =
    ⊎_elim
    (λ q. either_left _ (path_reaches e n a b q))
    (λ q.
    either_right _
    (both_true
    (stays_test e n a (source e n) (path_reaches e n a (source e n)) q.0)
    (stays_test e n (target e n) b (path_reaches e n (target e n) b) q.1)))
    (cut (holds_less e n) p)

-- and finds nothing else
pub reaches_path : (e : List ℕ) (n a b : ℕ) → reaches e n a b ≡ true → Leads (holds e n) a b
unfolding reaches
reaches_path e zero a b h = true-false h refl
reaches_path e (suc n) a b h =
    ⊎_elim
    (λ q. wider (holds_more e n) (reaches_path e n a b q))
    (λ q.
    arrive (to a (source e n) (reaches_path e n a (source e n)) (both_left _ _ q))
    (go_on (holds_at e (suc n) n (omega arith)) (to (target e n) b (reaches_path e n (target e n) b) (both_right _ _ q))))
    (either_cases _ _ h)
  where
    to : (x y : ℕ) → (reaches e n x y ≡ true → Leads (holds e n) x y) → either (eqb x y) (reaches e n x y) ≡ true → Stays (holds e (suc n)) x y
    to x y f r = ⊎_elim (λ q. inl (eqb-true x y q)) (λ q. inr (wider (holds_more e n) (f q))) (either_cases _ _ r)

-- `reaches` decides paths of held edges, on any tables
pub reaches_decides : (e : List ℕ) (n a b : ℕ) → (reaches e n a b ≡ true) ↔ Leads (holds e n) a b
reaches_decides e n a b = (reaches_path e n a b, path_reaches e n a b)

-- a test that decides paths too is the same test
pub reaches_is :
    (e : List ℕ) (n a b : ℕ) (found : Bool) → (found ≡ true → Leads (holds e n) a b) → (Leads (holds e n) a b → found ≡ true) → found ≡ reaches e n a b
reaches_is e n a b found f g = same found (reaches e n a b) (λ h. path_reaches e n a b (f h)) (λ h. g (reaches_path e n a b h))

-- a path begins with a held edge out of its first vertex
pub first_row : (e : List ℕ) (n a b : ℕ) → Leads (holds e n) a b → (i : ℕ) × (i < n) × (source e i ≡ a)
first_row e n a b (one h) = let (i, lt, q, r) = held_row e n _ _ h in (i, lt, q)
first_row e n a b (more h p) = let (i, lt, q, r) = held_row e n _ _ h in (i, lt, q)

-- and ends with one into its last
pub last_row : (e : List ℕ) (n a b : ℕ) → Leads (holds e n) a b → (i : ℕ) × (i < n) × (target e i ≡ b)
last_row e n a b (one h) = let (i, lt, q, r) = held_row e n _ _ h in (i, lt, r)
last_row e n a b (more {b = x} h p) = last_row e n x b p

-- so there is none where no held edge leads out of the one vertex, or into the other
pub no_edge_out : (e : List ℕ) (n a b : ℕ) → any (λ i. eqb (source e i) a) n ≡ false → reaches e n a b ≡ false
no_edge_out e n a b none =
    not_so _ (λ h. let (i, lt, q) = first_row e n a b (reaches_path e n a b h) in true-false (any_at _ n i lt (eq-eqb _ _ q)) none)

pub no_edge_in : (e : List ℕ) (n a b : ℕ) → any (λ i. eqb (target e i) b) n ≡ false → reaches e n a b ≡ false
no_edge_in e n a b none =
    not_so _ (λ h. let (i, lt, q) = last_row e n a b (reaches_path e n a b h) in true-false (any_at _ n i lt (eq-eqb _ _ q)) none)
