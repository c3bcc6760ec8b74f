-- Paths of exactly k edges (`Hops`): the tests of specs/Chains.antt decide them, and their vertices are a chain of k + 1.
use Prim.Native.Nat.{ℕ, zero, suc, ◌<◌}
use mathlib.Core.Path.{◌≡◌, refl, ap, subst}
use mathlib.Core.Bool.{Bool, true}
use mathlib.Core.Logic.{inl, inr}
use mathlib.Core.List.{List, [], ◌∷◌}
use mathlib.Core.Option.{Option, none, some}
use native.Mathlib.Omega.{arith}
use lib.ListN.{length}
use borrow.Author.Tests.{eqb-true, eq-eqb}
use Rattle.graph.specs.Tests.{lowest_below}
use Rattle.graph.specs.Tables.{Lent}
use Rattle.graph.specs.Sound.{sound}
use Rattle.graph.specs.Internal.Search.{Hops, here, hop}
use Rattle.graph.proofs.TestLaws.{true-false, not_so, both_true, both_left, both_right, any_found, any_at}
use Rattle.graph.proofs.PathLaws.{Stays, leads_hops, hops_leads}
use Rattle.graph.proofs.SoundLaws.{sound_fits}
use Rattle.chains.specs.Chains.{Chain, alone, link, held_edge, leads_in, distance, next_vertex}
use Rattle.graph.proofs.LowestLaws.{found_is, none_is, found_holds, found_lowest, none_holds}
use Rattle.chains.proofs.ShortPaths.{NoneShorter, short_path}

-- to no vertex lower than x an edge leads from a, and from it d edges to b
abbrev pub NoneLower : (ℕ → ℕ → Bool) → ℕ → ℕ → ℕ → ℕ → Type 0
NoneLower E d a b x = (y : ℕ) → y < x → E a y ≡ true → Hops E d y b → ⊥

-- on sound tables, whose held edges have made vertices as their ends
module _ (s : Lent) (known : sound s ≡ true) where
  target_made : (a b : ℕ) → held_edge s a b ≡ true → b < s.made
  target_made a b e = ((sound_fits s known).ends_are_made a b e).1

  leads_hops_in : (d a b : ℕ) → leads_in s d a b ≡ true → Hops (held_edge s) d a b
  unfolding leads_in
  leads_hops_in zero a b q = subst (λ (x : ℕ). Hops (held_edge s) 0 a x) (eqb-true a b q) here
  leads_hops_in (suc d) a b q =
      let (x, lt, r) = any_found _ _ q in hop (both_left _ _ r) (leads_hops_in d x b (both_right _ _ r))

  hops_leads_in : {d a b : ℕ} → Hops (held_edge s) d a b → leads_in s d a b ≡ true
  unfolding leads_in
  hops_leads_in (here {a = a}) = eq-eqb a a refl
  hops_leads_in (hop {a = a} {b = b} e h) = any_at _ s.made b (target_made a b e) (both_true e (hops_leads_in h))

  -- the distance is the number of edges of a shortest path
  pub distance_is : (d a b : ℕ) → a < s.made → Hops (held_edge s) d a b → NoneShorter (held_edge s) d a b → distance s a b ≡ some d
  unfolding distance
  distance_is d a b lt h least =
      found_is _ _ d (short_path s.made target_made lt h least) (hops_leads_in h)
      (λ k l. not_so _ (λ q. least k l (leads_hops_in k a b q)))

  pub distance_least : (d a b : ℕ) → distance s a b ≡ some d → Hops (held_edge s) d a b × NoneShorter (held_edge s) d a b
  unfolding distance
  distance_least d a b q = (
    leads_hops_in d a b (found_holds _ _ d q),
    λ k l h. true-false (hops_leads_in h) (found_lowest _ _ d q k l),
  )

  pub distance_none : (a b : ℕ) → ((k : ℕ) → Hops (held_edge s) k a b → ⊥) → distance s a b ≡ none
  unfolding distance
  distance_none a b never = none_is _ _ (λ k l. not_so _ (λ q. never k (leads_hops_in k a b q)))

  -- there is a shortest path where there is one at all, of k edges
  pub distance_some : (k a b : ℕ) → a < s.made → Hops (held_edge s) k a b → (d : ℕ) × (distance s a b ≡ some d)
  distance_some k a b lt h = go (lowest_below (λ d. leads_in s d a b) (suc k)) refl
    where
      go : (o : Option ℕ) → lowest_below (λ d. leads_in s d a b) (suc k) ≡ o → (d : ℕ) × (distance s a b ≡ some d)
      go none q = true-false (hops_leads_in h) (none_holds _ _ q k (omega arith))
      go (some d) q = (
        d,
        distance_is d a b lt (leads_hops_in d a b (found_holds _ _ d q)) (λ j l g. true-false (hops_leads_in g) (found_lowest _ _ d q j l)),
      )

  -- the next vertex is the lowest of those from which d edges lead on
  pub next_is : (d a b x : ℕ) → held_edge s a x ≡ true → Hops (held_edge s) d x b → NoneLower (held_edge s) d a b x → next_vertex s d a b ≡ some x
  unfolding next_vertex
  next_is d a b x e h least =
      found_is _ _ x (target_made a x e) (both_true e (hops_leads_in h))
      (λ y l. not_so _ (λ q. least y l (both_left _ _ q) (leads_hops_in d y b (both_right _ _ q))))

  pub next_lowest :
      (d a b x : ℕ) → next_vertex s d a b ≡ some x → (held_edge s a x ≡ true) × Hops (held_edge s) d x b × NoneLower (held_edge s) d a b x
  unfolding next_vertex
  next_lowest d a b x q =
      let r = found_holds _ _ x q in (
        both_left _ _ r,
        leads_hops_in d x b (both_right _ _ r),
        λ y l e h. true-false (both_true e (hops_leads_in h)) (found_lowest _ _ x q y l),
      )

  pub next_none : {d a b : ℕ} → next_vertex s d a b ≡ none → Hops (held_edge s) (suc d) a b → ⊥
  unfolding next_vertex
  next_none q (hop {a = a} {b = x} e h) = true-false (both_true e (hops_leads_in h)) (none_holds _ _ q x (target_made a x e))

-- on any set of edges
module _ {E : ℕ → ℕ → Bool} where
  pub none_same : {a b : ℕ} → Hops E 0 a b → a ≡ b
  none_same here = refl

  pub first_hop : {k a b : ℕ} → Hops E (suc k) a b → (x : ℕ) × (E a x ≡ true) × Hops E k x b
  first_hop (hop {b = x} e h) = (x, e, h)

  pub chain_hops : {a b : ℕ} {l : List ℕ} → Chain E a b l → (k : ℕ) × (length l ≡ suc k) × Hops E k a b
  chain_hops alone = (0, refl, here)
  chain_hops (link e c) = let (k, q, h) = chain_hops c in (suc k, ap suc q, hop e h)

  pub chain_of : {d a b : ℕ} {l : List ℕ} → Chain E a b l → length l ≡ suc d → Hops E d a b
  chain_of {a = a} {b = b} c q =
      let (k, r, h) = chain_hops c in subst (λ (j : ℕ). Hops E j a b) (omega arith) h

  pub hops_chain : {k a b : ℕ} → Hops E k a b → (l : List ℕ) × (length l ≡ suc k) × Chain E a b l
  hops_chain (here {a = a}) = (a ∷ [], refl, alone)
  hops_chain (hop {a = a} e h) = let (l, q, c) = hops_chain h in (a ∷ l, ap suc q, link e c)

  pub hops_stays : {k a b : ℕ} → Hops E k a b → Stays E a b
  hops_stays here = inl refl
  hops_stays (hop e h) = inr (hops_leads (omega arith) (hop e h))

  pub stays_hops : {a b : ℕ} → Stays E a b → (k : ℕ) × Hops E k a b
  stays_hops {a} {b} (inl q) = (0, subst (λ (x : ℕ). Hops E 0 a x) q here)
  stays_hops (inr p) = let (k, h) = leads_hops p in (suc k, h)
