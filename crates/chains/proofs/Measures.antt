-- What the search has measured is what the definitions ask for: the distance, and from each vertex of the walk the next one.
use Prim.Native.Nat.{ℕ, zero, suc, ◌<◌, ◌≤◌}
use mathlib.Core.Path.{◌≡◌, refl, sym, ◌∙◌, ap, subst}
use mathlib.Core.Bool.{true, false}
use mathlib.Core.Logic.{⊎_elim}
use mathlib.Core.List.{List, [], ◌∷◌}
use mathlib.Core.Option.{Option, none, some, Option-elim}
use native.Mathlib.Omega.{arith}
use lib.ListN.{length, get_or}
use borrow.Author.Tests.{eq-eqb, eqb-true, lt-ltb, ltb-true}
use Rattle.graph.specs.Tables.{Lent, usable_limit}
use Rattle.graph.specs.Sound.{sound}
use Rattle.graph.specs.Paths.{reaches}
use Rattle.graph.specs.Internal.Search.{search_limit, Hops, here, hop, Measured}
use Rattle.graph.proofs.TestLaws.{true-false, equal?, both_true, both_left, both_right}
use Rattle.graph.proofs.PathLaws.{hops_leads, path_reaches}
use Rattle.graph.proofs.SoundLaws.{sound_fits}
use Rattle.chains.specs.Chains.{held_edge, distance, next_vertex, first_chain, of_length, shortest_chain}
use Rattle.chains.specs.Internal.Walk.{is_nearer, Nearest, walk, Walkable}
use Rattle.chains.proofs.ShortPaths.{NoneShorter, short_path}
use Rattle.chains.proofs.HopLaws.{none_same, first_hop, distance_is, distance_none, next_is}
use Rattle.chains.proofs.ChainLaws.{first_chain_lem}
use Rattle.chains.proofs.NearestLaws.{at_goal, elsewhere}

of_distance : (s : Lent) (a b : ℕ) {o : Option ℕ} → distance s a b ≡ o → shortest_chain s a b ≡ of_length o s a b
unfolding shortest_chain
of_distance s a b h = ap (λ (x : Option ℕ). of_length x s a b) h

on_from :
    (s : Lent) (k v b : ℕ) {x : ℕ} → next_vertex s k v b ≡ some x
    → Option-elim (next_vertex s k v b) [] (λ y. first_chain s k y b) ≡ first_chain s k x b
unfolding Option-elim
on_from s k v b p = ap (λ (o : Option ℕ). Option-elim o [] (λ y. first_chain s k y b)) p

-- a vertex alone is the chain to itself
pub alone_found : (s : Lent) (a b : ℕ) → sound s ≡ true → a < s.made → b ≡ a → shortest_chain s a b ≡ some (a ∷ [])
unfolding of_length first_chain
alone_found s a b known made same =
    of_distance s a b
    (distance_is s known 0 a b made (subst (λ (x : ℕ). Hops (held_edge s) 0 a x) (sym same) here) (λ k lt h. absurd (omega arith)))

-- where no path leads from a to another vertex b, there is no chain
pub none_found : (s : Lent) (a b : ℕ) → sound s ≡ true → (b ≡ a → ⊥) → reaches s.edges s.held a b ≡ false → shortest_chain s a b ≡ none
unfolding of_length
none_found s a b known apart no_path = of_distance s a b (distance_none s known a b never)
  where
    never : (k : ℕ) → Hops (held_edge s) k a b → ⊥
    never zero h = apart (sym (none_same h))
    never (suc k) h = true-false (path_reaches s.edges s.held a b (hops_leads (omega arith) h)) no_path

-- The search got from b back to another vertex a, on sound tables, and left the marks m.
pub record GotBack (s : Lent) (a b : ℕ) (m : List ℕ) : Type 0 where
  pub known : sound s ≡ true
  pub made : a < s.made
  pub apart : b ≡ a → ⊥
  pub measured : Measured s.edges s.held a b true m

module _ {s : Lent} {a b : ℕ} {m : List ℕ} (g : GotBack s a b m) where
  abbrev measured : Measured s.edges s.held a b true m
  measured = g.measured

  abbrev known : sound s ≡ true
  known = g.known

  a_marked : 0 < get_or m a 0
  a_marked = measured.marked refl

  abbrev mark : ℕ → ℕ
  mark x = get_or m x 0

  -- the shortest chain has as many edges as the mark of a says
  pub chain_long : length (first_chain s (mark a) a b) ≡ suc (mark a)
  chain_long = (first_chain_lem s known (mark a) a b (measured.leads a a_marked)).1

  none_shorter : NoneShorter (held_edge s) (mark a) a b
  none_shorter zero lt h = g.apart (sym (none_same h))
  none_shorter (suc k) lt h = let le = measured.least a k a_marked h in omega arith

  pub chain_found : shortest_chain s a b ≡ some (first_chain s (mark a) a b)
  unfolding of_length
  chain_found =
      of_distance s a b (distance_is s known (mark a) a b g.made (measured.leads a a_marked) none_shorter)

  -- which are fewer than the usable vertices
  pub mark_usable : mark a < usable_limit
  mark_usable =
      let fits = sound_fits s known in
      let few = short_path s.made (λ x y e. (fits.ends_are_made x y e).1) g.made (measured.leads a a_marked) none_shorter in
      omega (arith, fits.vertices_fit)

  -- x, to which an edge leads from v, is one edge nearer exactly if as many edges lead from it to b
  module _ (k v : ℕ) (far : mark v ≡ suc k) (near_enough : suc k ≤ mark a) where
    nearer_hops : (x : ℕ) → is_nearer m b v x ≡ true → Hops (held_edge s) k x b
    nearer_hops x h =
        ⊎_elim
        (λ p.
        let one : mark v ≡ 1 = eqb-true (mark v) 1 (at_goal m b v x p ∙ h) in
        subst (λ (j : ℕ). Hops (held_edge s) j x b) (omega arith) (subst (λ (y : ℕ). Hops (held_edge s) 0 x y) p (here {a = x})))
        (λ ne.
        let tests = sym (elsewhere m b v x ne) ∙ h in
        let marked = ltb-true 0 (mark x) (both_left _ _ tests) in
        let more = eqb-true (mark v) (suc (mark x)) (both_right _ _ tests) in
        subst (λ (j : ℕ). Hops (held_edge s) j x b) (omega arith) (measured.leads x marked))
        (equal? x b)

    -- on the way a marked vertex: not b, and with the mark that its distance has
    between : (x : ℕ) → held_edge s v x ≡ true → (j : ℕ) → k ≡ suc j → Hops (held_edge s) k x b → (x ≡ b → ⊥) × (mark x ≡ k)
    between x edge j more h =
        let h' : Hops (held_edge s) (suc j) x b = subst (λ (i : ℕ). Hops (held_edge s) i x b) more h in
        let marked = measured.nearer refl x j h' (omega arith) in
        let below = measured.least x j marked h' in
        let v_marked : 0 < mark v = omega arith in
        let longest : Hops (held_edge s) (suc (mark x)) v b = hop edge (measured.leads x marked) in
        let above = measured.least v (mark x) v_marked longest in (
          λ p.
              let direct : Hops (held_edge s) 1 v b = hop (subst (λ (y : ℕ). held_edge s v y ≡ true) p edge) here in
              let one = measured.least v 0 v_marked direct in
              omega arith,
          omega arith,
        )

    hops_nearer : (x : ℕ) → held_edge s v x ≡ true → Hops (held_edge s) k x b → is_nearer m b v x ≡ true
    hops_nearer x edge h = go k refl
      where
        go : (i : ℕ) → k ≡ i → is_nearer m b v x ≡ true
        go zero p =
            let same : x ≡ b = none_same (subst (λ (i : ℕ). Hops (held_edge s) i x b) p h) in
            sym (at_goal m b v x same) ∙ eq-eqb (mark v) 1 (omega arith)
        go (suc j) p =
            let (other, at) = between x edge j p h in
            elsewhere m b v x other ∙ both_true (lt-ltb 0 (mark x) (omega arith)) (eq-eqb (mark v) (suc (mark x)) (omega arith))

    -- so the lowest of them is the next vertex of the chain
    module _ (near : List ℕ) (nearest : Nearest s.edges s.held b m near) where
      v_marked : 0 < mark v
      v_marked = omega arith

      below : (x : ℕ) × (get_or near v 0 ≤ x) × ((v < search_limit) × (x < search_limit))
      below =
          let path : Hops (held_edge s) (suc k) v b = subst (λ (i : ℕ). Hops (held_edge s) i v b) far (measured.leads v v_marked) in
          let (x, edge, rest) = first_hop path in
          let fits = sound_fits s known in
          let ends = fits.ends_are_made v x edge in
          (x, nearest.lowest v x edge (hops_nearer x edge rest), (omega (arith, fits.vertices_fit), omega (arith, fits.vertices_fit)))

      pub usable : v < search_limit
      usable = below.2.0

      chosen : (held_edge s v (get_or near v 0) ≡ true) × (is_nearer m b v (get_or near v 0) ≡ true)
      chosen = let (x, le, lts) = below in nearest.found v (omega (arith, lts.1)) lts.0

      pub next_near : next_vertex s k v b ≡ some (get_or near v 0)
      next_near =
          next_is s known k v b (get_or near v 0) chosen.0 (nearer_hops _ chosen.1)
          (λ y lt edge h. let le = nearest.lowest v y edge (hops_nearer y edge h) in omega arith)

      pub next_mark : (j : ℕ) → k ≡ suc j → mark (get_or near v 0) ≡ k
      next_mark j p = (between (get_or near v 0) chosen.0 j p (nearer_hops _ chosen.1)).1

  -- the walk is the chain
  module _ (near : List ℕ) (nearest : Nearest s.edges s.held b m near) where
    -- k edges are left from v on, and v is marked so where there is one
    Left : ℕ → ℕ → Type 0
    Left zero v = Unit {0}
    Left (suc k) v = (mark v ≡ suc k) × (suc k ≤ mark a)

    left_next : (k v : ℕ) → mark v ≡ suc k → suc k ≤ mark a → Left k (get_or near v 0)
    unfolding Left
    left_next zero v far le = tt
    left_next (suc j) v far le = (next_mark (suc j) v far le near nearest j refl, omega arith)

    walk_chain : (k v : ℕ) → Left k v → (walk near k v ≡ first_chain s k v b) × Walkable near k v
    unfolding Left walk Walkable first_chain
    walk_chain zero v h = (refl, tt)
    walk_chain (suc k) v h =
        let (same, way) = walk_chain k (get_or near v 0) (left_next k v h.0 h.1) in
        let next = next_near k v h.0 h.1 near nearest in (
          ap (λ (l : List ℕ). v ∷ l) (same ∙ sym (on_from s k v b next)),
          (usable k v h.0 h.1 near nearest, way),
        )

    left_all : Left (mark a) a
    unfolding Left
    left_all = go (mark a) refl
      where
        go : (k : ℕ) → mark a ≡ k → Left k a
        go zero p = tt
        go (suc k) p = (p, omega arith)

    pub walk_is : walk near (mark a) a ≡ first_chain s (mark a) a b
    walk_is = (walk_chain (mark a) a left_all).0

    pub walkable : Walkable near (mark a) a
    walkable = (walk_chain (mark a) a left_all).1
