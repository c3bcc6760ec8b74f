-- The chain that Chains writes down is the first of the shortest, on sound tables; there is one wherever there is a chain, and no other.
use Prim.Native.Nat.{ℕ, zero, suc, ◌<◌}
use mathlib.Core.Path.{◌≡◌, refl, sym, ◌∙◌, ap, subst}
use mathlib.Core.Bool.{Bool, true}
use mathlib.Core.Logic.{⊎_elim, ◌↔◌}
use mathlib.Core.List.{List, [], ◌∷◌}
use mathlib.Core.Option.{Option, none, some, Option-elim}
use native.Mathlib.Omega.{arith}
use lib.ListN.{length, get_or, drop}
use Rattle.graph.specs.Tables.{Lent}
use Rattle.graph.specs.Sound.{sound}
use Rattle.graph.specs.Internal.Search.{Hops, here}
use Rattle.graph.proofs.TestLaws.{true-false}
use Rattle.graph.proofs.PathLaws.{Stays}
use Rattle.chains.specs.Chains.{Chain, alone, link, held_edge, distance, next_vertex, first_chain, of_length, shortest_chain}
use Rattle.chains.specs.Claims.{NotAfter, both_end, lower, same, FirstShortest, NoChain}
use Rattle.chains.proofs.ShortPaths.{at_least}
use Rattle.graph.proofs.LowestLaws.{order?}
use Rattle.chains.proofs.HopLaws.{NoneLower, distance_least, distance_some, next_lowest, next_none, chain_hops, chain_of, hops_stays, stays_hops}

-- ORDER
-- the first word of a list
abbrev first_word : List ℕ → ℕ
first_word l = get_or l 0 0

-- of two lists neither of which stands after the other, each is the other
same_place_at : {l l' m m' : List ℕ} → NotAfter l l' → NotAfter m m' → m ≡ l' → m' ≡ l → l ≡ l'
same_place_at both_end q e f = sym f ∙ ends q e
  where
    ends : {m m' : List ℕ} → NotAfter m m' → m ≡ [] → m' ≡ []
    ends both_end e = refl
    ends (lower p) e = absurd cc
    ends (same p) e = absurd cc
same_place_at (lower p) both_end e f = absurd cc
same_place_at (lower p) (lower q) e f = absurd (omega (arith, ap first_word e, ap first_word f))
same_place_at (lower p) (same q) e f = absurd (omega (arith, ap first_word e, ap first_word f))
same_place_at (same p) both_end e f = absurd cc
same_place_at (same p) (lower q) e f = absurd (omega (arith, ap first_word e, ap first_word f))
same_place_at (same {x = x} p) (same q) e f = ap (λ (r : List ℕ). x ∷ r) (same_place_at p q (ap (drop 1) e) (ap (drop 1) f))

pub same_place : {l l' : List ℕ} → NotAfter l l' → NotAfter l' l → l ≡ l'
same_place p q = same_place_at p q refl refl

-- a chain begins with its first vertex, so of two chains the one with the lower first vertex comes first
by_first : {E : ℕ → ℕ → Bool} {a b c d : ℕ} {l l' : List ℕ} → a < c → Chain E a b l → Chain E c d l' → NotAfter l l'
by_first lt alone alone = lower lt
by_first lt alone (link f q) = lower lt
by_first lt (link e p) alone = lower lt
by_first lt (link e p) (link f q) = lower lt

-- the first of the shortest is one
pub only_one : {E : ℕ → ℕ → Bool} {a b : ℕ} {l l' : List ℕ} → FirstShortest E a b l → FirstShortest E a b l' → l ≡ l'
only_one {l = l} {l' = l'} f g =
    let p = f.none_shorter l' g.is_chain in
    let q = g.none_shorter l f.is_chain in
    same_place (f.none_before l' g.is_chain (omega arith)) (g.none_before l f.is_chain (omega arith))

-- OF A GIVEN NUMBER OF EDGES
-- a chain of d edges, and none of d edges stands before it
abbrev First : (ℕ → ℕ → Bool) → ℕ → ℕ → ℕ → List ℕ → Type 0
First E d a b l = Chain E a b l × (length l ≡ suc d) × ((l' : List ℕ) → Chain E a b l' → length l' ≡ suc d → NotAfter l l')

module _ {E : ℕ → ℕ → Bool} where
  alone_before : {a b : ℕ} {l : List ℕ} → Chain E a b l → length l ≡ 1 → NotAfter (a ∷ []) l
  alone_before alone q = same both_end
  alone_before (link e c) q = let (k, r, h) = chain_hops c in absurd (omega arith)

  alone_first : {a b : ℕ} → Hops E 0 a b → First E 0 a b (a ∷ [])
  alone_first here = (alone, refl, λ l c q. alone_before c q)

  -- one edge more, to the lowest x from which d edges lead on, and from there the first chain
  module _ {d x b : ℕ} {l : List ℕ} (f : First E d x b l) where
    link_before : {a : ℕ} {l' : List ℕ} → NoneLower E d a b x → Chain E a b l' → length l' ≡ suc (suc d) → NotAfter (a ∷ l) l'
    link_before lowest alone q = absurd (omega arith)
    link_before lowest (link {b = y} {l = l'} e c) q =
        let len : length l' ≡ suc d = omega arith in
        ⊎_elim
        (λ lt. same (by_first lt f.0 c))
        (⊎_elim
        (λ eq. same (f.2 l' (subst (λ (z : ℕ). Chain E z b l') (sym eq) c) len))
        (λ lt. absurd (lowest y lt e (chain_of c len))))
        (order? x y)

    link_first : (a : ℕ) → E a x ≡ true → NoneLower E d a b x → First E (suc d) a b (a ∷ l)
    link_first a e lowest = (link e f.0, ap suc f.1, λ l' c q. link_before lowest c q)

-- on sound tables
module _ (s : Lent) (known : sound s ≡ true) where
  next_first :
      (d a b : ℕ) → ((x : ℕ) → Hops (held_edge s) d x b → First (held_edge s) d x b (first_chain s d x b)) → Hops (held_edge s) (suc d) a b
      → (o : Option ℕ) → next_vertex s d a b ≡ o → First (held_edge s) (suc d) a b (a ∷ Option-elim o [] (λ x. first_chain s d x b))
  unfolding Option-elim
  next_first d a b first h none q = absurd (next_none s known q h)
  next_first d a b first h (some x) q =
      let (e, g, lowest) = next_lowest s known d a b x q in link_first (first x g) a e lowest

  pub first_chain_lem : (d a b : ℕ) → Hops (held_edge s) d a b → First (held_edge s) d a b (first_chain s d a b)
  unfolding first_chain
  first_chain_lem zero a b h = alone_first h
  first_chain_lem (suc d) a b h = next_first d a b (λ x. first_chain_lem d x b) h (next_vertex s d a b) refl

  -- SHORTEST
  distance_first : (d a b : ℕ) → distance s a b ≡ some d → FirstShortest (held_edge s) a b (first_chain s d a b)
  distance_first d a b q =
      let (h, least) = distance_least s known d a b q in
      let (c, len, before) = first_chain_lem d a b h in
      record {
        is_chain = c;
        none_shorter = λ l' c'. let (k, r, g) = chain_hops c' in let le = at_least least g in omega arith;
        none_before = λ l' c' r. before l' c' (r ∙ len);
      }

  of_first : (o : Option ℕ) (a b : ℕ) (l : List ℕ) → distance s a b ≡ o → of_length o s a b ≡ some l → FirstShortest (held_edge s) a b l
  unfolding of_length
  of_first none a b l r q = true-false refl cc
  of_first (some d) a b l r q =
      let e : first_chain s d a b ≡ l = cc in subst (FirstShortest (held_edge s) a b) e (distance_first d a b r)

  -- the chain that is written is the first of the shortest
  pub some_first : (a b : ℕ) (l : List ℕ) → shortest_chain s a b ≡ some l → FirstShortest (held_edge s) a b l
  unfolding shortest_chain
  some_first a b l q = of_first (distance s a b) a b l refl q

  -- and one is written where there is a path
  pub path_some : {k a b : ℕ} → a < s.made → Hops (held_edge s) k a b → (l : List ℕ) × (shortest_chain s a b ≡ some l)
  unfolding shortest_chain of_length
  path_some {k} {a} {b} lt h = let (d, q) = distance_some s known k a b lt h in (first_chain s d a b, rw q refl)

  pub chain_some : {a b : ℕ} {l : List ℕ} → a < s.made → Chain (held_edge s) a b l → (l' : List ℕ) × (shortest_chain s a b ≡ some l')
  chain_some lt c = let (k, r, h) = chain_hops c in path_some lt h

  pub none_chain : (a b : ℕ) → a < s.made → (shortest_chain s a b ≡ none) ↔ NoChain s a b
  none_chain a b lt = (
    λ q l c. let (l', p) = chain_some lt c in true-false refl cc,
    λ never. go (shortest_chain s a b) refl never,
  )
    where
      go : (o : Option (List ℕ)) → shortest_chain s a b ≡ o → NoChain s a b → o ≡ none
      go none q never = refl
      go (some l) q never = absurd (never l (some_first a b l q).is_chain)

  -- a chain is a path, or a vertex alone
  pub some_path : (a b : ℕ) → a < s.made → ((l : List ℕ) × (shortest_chain s a b ≡ some l)) ↔ Stays (held_edge s) a b
  some_path a b lt = (
    λ h. let (k, r, g) = chain_hops (some_first a b h.0 h.1).is_chain in hops_stays g,
    λ h. let (k, g) = stays_hops h in path_some lt g,
  )
