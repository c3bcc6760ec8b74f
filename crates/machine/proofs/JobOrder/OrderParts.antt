-- The order of jobs where a vertex gives its code away in parts. A vertex v that executes holds the code c, an item and the rest r.
-- Afterwards one vertex h, the rest's, holds r, with v's scope and leading where v led; it may be v itself. The kids hold the item's
-- bodies. Each kid leads to t and has the scope s. Each of t and s is h or v's scope; or they are one new vertex that leads nowhere, the
-- first one of a future. Nothing leads to a kid, and only kids lead to h, and the first vertex of the future that the item forces.
--
-- What others wait for of v they wait for of its parts (`Pieces` says that nothing of c is lost), and the other way round. What h waits for
-- is what c has ahead of its rest. A kid waits for nothing, as v did. So the order is kept (`parts_orders`), for every kind of item alike.
use Prim.Native.Nat.{ℕ, ◌<◌}
use mathlib.Core.Path.{◌≡◌, refl, sym, ◌∙◌, ap, subst}
use mathlib.Core.Bool.{true, false}
use mathlib.Core.Logic.{◌⊎◌, inl, inr, ⊎_elim}
use mathlib.Core.Option.{some}
use Rattle.graph.proofs.TestLaws.{equal?}
use Rattle.program.specs.Located.{Code}
use Rattle.machine.proofs.GhostMachine.Ghost.{State}
use Rattle.machine.proofs.GhostMachine.Invariant.{In, waits, is_item, Settled, Way, one, more, Roads}
use Rattle.machine.proofs.GhostMachine.Ways.{way_join, way_past, nothing_to}
use Rattle.machine.proofs.JobOrder.Order.{Job, InA, InS, Pre, holds, Held, held, Waits, for_way, for_scope, for_scopes_way, Orders}
use Rattle.machine.proofs.JobOrder.OrderLaws.{ins_ina, pre_job, job_item, ina_item, ins_item}
use Rattle.machine.proofs.JobOrder.WaitLaws.{holds_one, held_way, scope_led, waits_led, waits_none}
use Rattle.machine.proofs.JobOrder.OrderMoves.{Carried, Share, by_way, by_scope, by_scopes_way, waits_share, share_item, carried_waits}

-- what holds of the code of some kid
pub data Some (Kid : ℕ → Code → Type 0) (P : Code → Type 0) : Type 0 where
  of : (x : ℕ) (b : Code) → Kid x b → P b → Some Kid P

-- what y waits for of a kid with the code b, which leads to t and has the scope s
pub data Awaited (y t s : ℕ) (b : Code) (p : ℕ) : Type 0 where
  led : t ≡ y → InS b p → Awaited y t s b p
  scoped : s ≡ y → InA b p → Awaited y t s b p

-- the code c in parts: the rest r, and the kids' codes, of which A is ahead of r; so is G, what is forced. T: the kids are in c's scope
pub record Pieces (c r : Code) (Kid : ℕ → Code → Type 0) (A : Code → ℕ → Type 0) (T : Type 0) (G : ℕ → Type 0) : Type 0 where
  pub job_rest : (p : ℕ) → Job r p → Job c p
  pub job_kid : (x p : ℕ) (b : Code) → Kid x b → Job b p → Job c p
  pub alls : (p : ℕ) → InA c p → InA r p ⊎ (G p ⊎ (T × Some Kid (λ b. InA b p)))
  pub all_rest : (p : ℕ) → InA r p → InA c p
  pub all_kid : (x p : ℕ) (b : Code) → T → Kid x b → InA b p → InA c p
  pub sums : (p : ℕ) → InS c p → InS r p ⊎ (G p ⊎ Some Kid (λ b. A b p))
  pub sum_rest : (p : ℕ) → InS r p → InS c p
  pub sum_forced : (p : ℕ) → G p → InS c p
  pub sum_kid : (x p : ℕ) (b : Code) → Kid x b → A b p → InS c p
  pub pres : (p q : ℕ) → Pre c p q → ((G p ⊎ Some Kid (λ b. A b p)) × Job r q) ⊎ (Pre r p q ⊎ Some Kid (λ b. Pre b p q))
  pub pre_forced : (p q : ℕ) → G p → Job r q → Pre c p q
  pub pre_first : (x p q : ℕ) (b : Code) → Kid x b → A b p → Job r q → Pre c p q
  pub pre_rest : (p q : ℕ) → Pre r p q → Pre c p q
  pub pre_kid : (x p q : ℕ) (b : Code) → Kid x b → Pre b p q → Pre c p q
  pub apart : (x p : ℕ) (b : Code) → Kid x b → Job b p → Job r p → ⊥
  pub alike : (x y p : ℕ) (b d : Code) → Kid x b → Kid y d → Job b p → Job d p → (x ≡ y) × (b ≡ d)

-- who holds code k afterwards: one that held it before, the rest's vertex, or a kid
pub data Origin (S S' : State) (v h : ℕ) (r : Code) (Kid : ℕ → Code → Type 0) (u : ℕ) (k : Code) : Type 0 where
  stood : (u ≡ v → ⊥) → holds (S.control u) ≡ some k → S'.scope u ≡ S.scope u → Origin S S' v h r Kid u k
  the_rest : u ≡ h → k ≡ r → Origin S S' v h r Kid u k
  a_kid : Kid u k → Origin S S' v h r Kid u k

-- a settled edge afterwards: it was there, it is one of v's that h has now, it is a kid's, or it leads to h from a vertex that is forced
pub data Edge (S : State) (v h : ℕ) (Kid : ℕ → Code → Type 0) (F : ℕ → Type 0) (t x y : ℕ) : Type 0 where
  stays : Settled S x y → Edge S v h Kid F t x y
  handed : x ≡ h → Settled S v y → Edge S v h Kid F t x y
  made : (b : Code) → Kid x b → y ≡ t → Edge S v h Kid F t x y
  forced : F x → y ≡ h → Edge S v h Kid F t x y

pub record Edges (S S' : State) (v h : ℕ) (Kid : ℕ → Code → Type 0) (F : ℕ → Type 0) (t : ℕ) : Type 0 where
  pub on : (x y : ℕ) → (x ≡ v → ⊥) → Settled S x y → Settled S' x y
  pub rest_on : (y : ℕ) → Settled S v y → Settled S' h y
  pub kid_on : (x : ℕ) (b : Code) → Kid x b → Settled S' x t
  pub back : (x y : ℕ) → Settled S' x y → Edge S v h Kid F t x y
  -- nothing led to h or to a kid, and nothing led from there, if h is not v
  pub rest_to : (x : ℕ) → Settled S x h → ⊥
  pub rest_from : (y : ℕ) → Settled S h y → Settled S v y
  pub kid_to : (x y : ℕ) (b : Code) → Kid x b → Settled S y x → ⊥
  pub kid_from : (x y : ℕ) (b : Code) → Kid x b → Settled S x y → ⊥
  pub kid_rest : (b : Code) → Kid h b → ⊥
  pub kid_end : (b : Code) → Kid t b → ⊥

-- a vertex that is h or v's scope
abbrev pub Tied : State → ℕ → ℕ → ℕ → Type 0
Tied S v h s = (s ≡ h) ⊎ (s ≡ S.scope v)

-- t is the scope s, and a vertex that held nothing, that nothing led to, and that leads nowhere
pub record Sunk (S S' : State) (t s : ℕ) : Type 0 where
  pub same : t ≡ s
  pub to : (x : ℕ) → Settled S x t → ⊥
  pub from : (y : ℕ) → Settled S' t y → ⊥
  pub unheld : (k : Code) → holds (S.control t) ≡ some k → ⊥

-- the vertices F are forced: they have no item, v does not lead there, and of the jobs that are still to be answered they wait for G; one
-- that waits for such a job leads to h
pub record Forced (S S' : State) (v h : ℕ) (Kid : ℕ → Code → Type 0) (F G : ℕ → Type 0) (t : ℕ) : Type 0 where
  pub empty : (x : ℕ) (k : Code) → F x → holds (S.control x) ≡ some k → is_item k ≡ true → ⊥
  pub off : (x : ℕ) → F x → Way (Settled S) v x → ⊥
  pub not_rest : (x : ℕ) → F x → x ≡ h → ⊥
  pub not_end : (x : ℕ) → F x → t ≡ x → ⊥
  pub not_kid : (x : ℕ) (b : Code) → F x → Kid x b → ⊥
  pub waits_for : (u p : ℕ) → Held S u p → G p → (x : ℕ) × F x × Waits S x p × Settled S' x h
  pub waited : (u p x : ℕ) → Held S u p → F x → Waits S x p → G p

pub record Parts (S S' : State) (v : ℕ) (c : Code) (h : ℕ) (r : Code) (Kid : ℕ → Code → Type 0) (F G : ℕ → Type 0) (t s : ℕ) : Type 0 where
  pub self : holds (S.control v) ≡ some c
  pub item : is_item c ≡ true
  pub executes : waits (S.control v) ≡ false
  pub rest : holds (S'.control h) ≡ some r
  pub rest_scope : S'.scope h ≡ S.scope v
  pub rest_held : (k : Code) → (h ≡ v → ⊥) → holds (S.control h) ≡ some k → ⊥
  pub kid : (x : ℕ) (b : Code) → Kid x b → holds (S'.control x) ≡ some b
  pub kid_scope : (x : ℕ) (b : Code) → Kid x b → S'.scope x ≡ s
  pub kid_held : (x : ℕ) (b k : Code) → Kid x b → holds (S.control x) ≡ some k → ⊥
  pub ends : (Tied S v h t × Tied S v h s) ⊎ Sunk S S' t s
  pub on : (u : ℕ) (k : Code) → (u ≡ v → ⊥) → holds (S.control u) ≡ some k → (holds (S'.control u) ≡ some k) × (S'.scope u ≡ S.scope u)
  pub origin : (u : ℕ) (k : Code) → holds (S'.control u) ≡ some k → is_item k ≡ true → Origin S S' v h r Kid u k
  pub edges : Edges S S' v h Kid F t
  pub forces : Forced S S' v h Kid F G t

-- A future (f, b) that is open afterwards was open, and its first vertex f is neither h nor a sunk one; or f is the sunk vertex, and b what
-- the kid has.
pub data Open (S S' : State) (h : ℕ) (Kid : ℕ → Code → Type 0) (t s f : ℕ) (b : Code) : Type 0 where
  was_open : (x : ℕ) → x < S.count → In (f, b) (S.opens x) → (f ≡ h → ⊥) → (Sunk S S' t s → t ≡ f → ⊥) → Open S S' h Kid t s f b
  opens_now :
      Sunk S S' t s → t ≡ f → (f ≡ h → ⊥) → (x : ℕ) → Kid x b → ((y : ℕ) (d : Code) → Kid y d → d ≡ b) → Open S S' h Kid t s f b

-- whoever u's scope is or leads to waits for all that u holds, but for futures
waits_scope :
    {S : State} (u w p : ℕ) (c : Code) → holds (S.control u) ≡ some c → (S.scope u ≡ w) ⊎ Way (Settled S) (S.scope u) w → InA c p
    → Waits S w p
waits_scope u w p c h e j = ⊎_elim (λ e. for_scope u c h e j) (λ w. for_scopes_way u c h w j) e

-- the same with a scope that is known
waits_known :
    {S : State} (u w p σ : ℕ) (c : Code) → holds (S.control u) ≡ some c → S.scope u ≡ σ → (σ ≡ w) ⊎ Way (Settled S) σ w → InA c p
    → Waits S w p
waits_known {S} u w p σ c h e r j = waits_scope u w p c h (subst (λ (z : ℕ). (z ≡ w) ⊎ Way (Settled S) z w) (sym e) r) j

-- a way from a vertex, from the same vertex
way_from : {R : ℕ → ℕ → Type 0} {a b w : ℕ} → a ≡ b → Way R b w → Way R a w
way_from {R} {w = w} e x = subst (λ (z : ℕ). Way R z w) (sym e) x

-- a way that ends where another starts, or there
way_reach : {R : ℕ → ℕ → Type 0} {a σ w : ℕ} → Way R a σ → (σ ≡ w) ⊎ Way R σ w → Way R a w
way_reach {R} {a} x r = ⊎_elim (λ e. subst (λ (z : ℕ). Way R a z) e x) (way_join x) r

-- the last edge of a way, and the way up to it
way_end : {R : ℕ → ℕ → Type 0} {a b : ℕ} → Way R a b → (x : ℕ) × R x b × ((a ≡ x) ⊎ Way R a x)
way_end {a = a} (one r) = (a, r, inl refl)
way_end {R} {a = a} (more r w) = let (x, s, from) = way_end w in (x, s, inr (way_reach (one r) from))

-- something leads to where a way ends
way_led_to : {R : ℕ → ℕ → Type 0} {a b : ℕ} → Way R a b → (x : ℕ) × R x b
way_led_to w = let (x, s, from) = way_end w in (x, s)

-- what x waits for is waited for where x leads
waits_through : {S : State} {x w p : ℕ} → Waits S x p → Way (Settled S) x w → Waits S w p
waits_through (for_way u c h y i) way = for_way u c h (way_join y way) i
waits_through (for_scope u c h e j) way = for_scopes_way u c h (way_from e way) j
waits_through (for_scopes_way u c h y j) way = for_scopes_way u c h (way_join y way) j

-- u is neither h nor a kid
abbrev Plain : ℕ → (ℕ → Code → Type 0) → ℕ → Type 0
Plain h Kid u = (u ≡ h → ⊥) × ((b : Code) → Kid u b → ⊥)

-- a way afterwards from a plain vertex u to w was there, or it passes a forced vertex, and v led to w
data Before (S : State) (v : ℕ) (F : ℕ → Type 0) (u w : ℕ) : Type 0 where
  as_was : Way (Settled S) u w → Before S v F u w
  through : (x : ℕ) → F x → (u ≡ x) ⊎ Way (Settled S) u x → Way (Settled S) v w → Before S v F u w

-- the same with one edge in front
before_more : {S : State} {v : ℕ} {F : ℕ → Type 0} {u y w : ℕ} → Settled S u y → Before S v F y w → Before S v F u w
before_more e (as_was z) = as_was (more e z)
before_more e (through x f reach z) = through x f (inr (way_reach (one e) reach)) z

module _
    {S S' : State} {v h t s : ℕ} {c r : Code} {Kid : ℕ → Code → Type 0} {F G : ℕ → Type 0} (rs : Roads S) (rs' : Roads S')
    (D : Parts S S' v c h r Kid F G t s) (E : Pieces c r Kid (Awaited h t s) (Tied S v h s) G) where
  -- Ways from other vertices stay, and h has those of v.
  way_on : (u w : ℕ) → (u ≡ v → ⊥) → Way (Settled S) u w → Way (Settled S') u w
  way_on u w n = way_past v D.edges.on (nothing_to rs D.executes) n

  way_rest : (w : ℕ) → Way (Settled S) v w → Way (Settled S') h w
  way_rest w (one e) = one (D.edges.rest_on w e)
  way_rest w (more {b = y} e x) =
      more (D.edges.rest_on y e)
      (way_on y w (λ q. nothing_to rs D.executes v (subst (λ (z : ℕ). Settled S v z) q e)) x)

  -- v has a way to its scope, and so has h
  own_way : Way (Settled S) v (S.scope v)
  own_way = held_way rs D.self D.item

  -- Back: what something led to is plain, and so is what held code
  led_plain : (x u : ℕ) → Settled S x u → Plain h Kid u
  led_plain x u e = ((λ q. D.edges.rest_to x (subst (λ (z : ℕ). Settled S x z) q e)), (λ b k. D.edges.kid_to u x b k e))

  old_rest : (u : ℕ) (k : Code) → (u ≡ v → ⊥) → holds (S.control u) ≡ some k → u ≡ h → ⊥
  old_rest u k n e q = D.rest_held k (λ q'. n (q ∙ q')) (ap (λ (z : ℕ). holds (S.control z)) (sym q) ∙ e)

  old_plain : (u : ℕ) (k : Code) → (u ≡ v → ⊥) → holds (S.control u) ≡ some k → Plain h Kid u
  old_plain u k n e = (old_rest u k n e, (λ b i. D.kid_held u b k i e))

  scope_plain : (u : ℕ) (k : Code) → holds (S.control u) ≡ some k → is_item k ≡ true → Plain h Kid (S.scope u)
  scope_plain u k e i = let (x, l) = scope_led u rs e i in led_plain x (S.scope u) l

  -- v led where h leads
  edge_rest : (y : ℕ) → Edge S v h Kid F t h y → Settled S v y
  edge_rest y (stays e) = D.edges.rest_from y e
  edge_rest y (handed q e) = e
  edge_rest y (made b k q) = absurd (D.edges.kid_rest b k)
  edge_rest y (forced f q) = absurd (D.forces.not_rest h f refl)

  -- so a way to another vertex than h, from h, was one from v, and from a plain vertex it was there, or passes a forced one
  way_back : (u w : ℕ) → (w ≡ h → ⊥) → Way (Settled S') u w → (u ≡ h → Way (Settled S) v w) × (Plain h Kid u → Before S v F u w)
  way_back u w n (one e) =
      ((λ q. one (edge_rest w (D.edges.back h w (subst (λ (z : ℕ). Settled S' z w) q e)))), (λ a. plain a (D.edges.back u w e)))
    where
      plain : Plain h Kid u → Edge S v h Kid F t u w → Before S v F u w
      plain a (stays e) = as_was (one e)
      plain a (handed q e) = absurd (a.0 q)
      plain a (made b k q) = absurd (a.1 b k)
      plain a (forced f q) = absurd (n q)
  way_back u w n (more {b = y} e x) =
      let (from_h, from_plain) = way_back y w n x in (
        (λ q. rest (from_plain) (D.edges.back h y (subst (λ (z : ℕ). Settled S' z y) q e))),
        (λ a. plain from_h from_plain a (D.edges.back u y e)),
      )
    where
      behind : Settled S v y → Before S v F y w → Way (Settled S) v w
      behind e (as_was z) = more e z
      behind e (through x f reach z) = z

      rest : (Plain h Kid y → Before S v F y w) → Edge S v h Kid F t h y → Way (Settled S) v w
      rest ih e = let e' = edge_rest y e in behind e' (ih (led_plain v y e'))

      plain :
          (y ≡ h → Way (Settled S) v w) → (Plain h Kid y → Before S v F y w) → Plain h Kid u → Edge S v h Kid F t u y
          → Before S v F u w
      plain ih ih' a (stays e) = before_more e (ih' (led_plain u y e))
      plain ih ih' a (handed q e) = absurd (a.0 q)
      plain ih ih' a (made b k q) = absurd (a.1 b k)
      plain ih ih' a (forced f q) = through u f (inl refl) (ih q)

  rest_way : (w : ℕ) → (w ≡ h → ⊥) → Way (Settled S') h w → Way (Settled S) v w
  rest_way w n x = (way_back h w n x).0 refl

  -- a kid leads to t, and on from there
  edge_kid : (x y : ℕ) (b : Code) → Kid x b → Edge S v h Kid F t x y → t ≡ y
  edge_kid x y b k (stays e) = absurd (D.edges.kid_from x y b k e)
  edge_kid x y b k (handed q e) = absurd (D.edges.kid_rest b (subst (λ (z : ℕ). Kid z b) q k))
  edge_kid x y b k (made b' k' q) = sym q
  edge_kid x y b k (forced f q) = absurd (D.forces.not_kid x b f k)

  kid_way : (x w : ℕ) (b : Code) → Kid x b → Way (Settled S') x w → (t ≡ w) ⊎ Way (Settled S') t w
  kid_way x w b k (one e) = inl (edge_kid x w b k (D.edges.back x w e))
  kid_way x w b k (more {b = y} e z) = inr (way_from (edge_kid x y b k (D.edges.back x y e)) z)

  -- nothing leads to a kid
  kid_new : (x y : ℕ) (b : Code) → Kid x b → Settled S' y x → ⊥
  kid_new x y b k e = go (D.edges.back y x e)
    where
      go : Edge S v h Kid F t y x → ⊥
      go (stays e) = D.edges.kid_to x y b k e
      go (handed q e) = D.edges.kid_to x v b k e
      go (made b' k' q) = D.edges.kid_end b (subst (λ (z : ℕ). Kid z b) q k)
      go (forced f q) = D.edges.kid_rest b (subst (λ (z : ℕ). Kid z b) q k)

  -- the scope of a vertex that holds an item is not v
  scope_off : (u : ℕ) (k : Code) → holds (S.control u) ≡ some k → is_item k ≡ true → S.scope u ≡ v → ⊥
  scope_off u k e i q = let (x, l) = scope_led u rs e i in nothing_to rs D.executes x (subst (λ (z : ℕ). Settled S x z) q l)

  -- what was held by another vertex is carried over
  carry_on : (u p : ℕ) (k : Code) → (u ≡ v → ⊥) → holds (S.control u) ≡ some k → is_item k ≡ true → Carried S S' u k p
  carry_on u p k n e i =
      let (e', q) = D.on u k n e in
      record {
        code = k;
        is_held = e';
        scope_is = q;
        jobs = λ j. j;
        alls = λ j. j;
        sums = λ j. j;
        way = λ w. way_on u w n;
        scope_way = λ w. way_on (S.scope u) w (scope_off u k e i);
      }

  -- A forced vertex waits for what is forced as before: v, which does not lead there, has no part in it. So h waits for it,
  forced_rest : (u p : ℕ) → Held S u p → G p → Waits S' h p
  forced_rest u p k g =
      let (x, f, w, l) = D.forces.waits_for u p k g in
      waits_through
      (waits_share w
      (λ a d e share.
      ⊎_elim
      (λ q. absurd (D.forces.off x f (leads x d (subst (λ (z : ℕ). Share S z d x p) q share))))
      (λ n. carried_waits (carry_on a p d n e (share_item share)) share)
      (equal? a v)))
      (one l)
    where
      leads : (x : ℕ) (d : Code) → Share S v d x p → Way (Settled S) v x
      leads x d (by_way w i) = w
      leads x d (by_scope e j) = way_reach own_way (inl e)
      leads x d (by_scopes_way w j) = way_reach own_way (inr w)

  -- and whoever h leads to
  forced_way : (u w p : ℕ) → Held S u p → G p → Way (Settled S') h w → Waits S' w p
  forced_way u w p k g way = waits_through (forced_rest u p k g) way

  -- what is waited for of v is waited for of its parts: by its scope,
  scope_on : (u w p : ℕ) → Held S u p → (S.scope v ≡ w) ⊎ Way (Settled S') (S.scope v) w → InA c p → Waits S' w p
  scope_on u w p held_p reach j =
      ⊎_elim
      (λ j. waits_known h w p (S.scope v) r D.rest D.rest_scope reach j)
      (⊎_elim (λ g. forced_way u w p held_p g way) (λ (tied, k). kid_part tied k))
      (E.alls p j)
    where
      way : Way (Settled S') h w
      way = way_reach (way_rest (S.scope v) own_way) reach

      kid_part : Tied S v h s → Some Kid (λ b. InA b p) → Waits S' w p
      kid_part tied (of x b k j) =
          ⊎_elim
          (λ e. waits_known x w p h b (D.kid x b k) (D.kid_scope x b k ∙ e) (inr way) j)
          (λ e. waits_known x w p (S.scope v) b (D.kid x b k) (D.kid_scope x b k ∙ e) reach j)
          tied

  -- by its own way,
  way_part : (u w p : ℕ) → Held S u p → Way (Settled S') h w → InS c p → Waits S' w p
  way_part u w p held_p way i =
      ⊎_elim (λ i. for_way h r D.rest way i) (⊎_elim (λ g. forced_way u w p held_p g way) kid_part) (E.sums p i)
    where
      kid_part : Some Kid (λ b. Awaited h t s b p) → Waits S' w p
      kid_part (of x b k (led e i)) = for_way x b (D.kid x b k) (more (D.edges.kid_on x b k) (way_from e way)) i
      kid_part (of x b k (scoped e j)) = waits_known x w p h b (D.kid x b k) (D.kid_scope x b k ∙ e) (inr way) j

  own_on : (u w p : ℕ) → Held S u p → Share S v c w p → Waits S' w p
  own_on u w p k (by_way x i) = way_part u w p k (way_rest w x) i
  own_on u w p k (by_scope e j) = scope_on u w p k (inl e) j
  own_on u w p k (by_scopes_way x j) =
      scope_on u w p k (inr (way_on (S.scope v) w (scope_off v c D.self D.item) x)) j

  -- so all that was waited for still is
  waits_on : (x w p : ℕ) → Held S x p → Waits S w p → Waits S' w p
  waits_on x w p held_p waited =
      waits_share waited
      (λ u k e a.
      ⊎_elim
      (λ q.
      let at : holds (S.control v) ≡ some k = ap (λ (z : ℕ). holds (S.control z)) (sym q) ∙ e in
      let same : k ≡ c = holds_one (S.control v) at D.self in
      own_on x w p held_p (subst (λ (z : ℕ). Share S z c w p) q (subst (λ (z : Code). Share S u z w p) same a)))
      (λ n. carried_waits (carry_on u p k n e (share_item a)) a)
      (equal? u v))

  -- Back: whoever waits for the parts waited for v, but for the rest's vertex. What a forced vertex waited for, v held before it led to w,
  forced_back : (u w p x : ℕ) → Held S u p → F x → Waits S x p → Way (Settled S) v w → Waits S w p
  forced_back u w p x k f waited way = for_way v c D.self way (E.sum_forced p (D.forces.waited u p x k f waited))

  -- by v's scope,
  scope_back :
      (u w p σ : ℕ) → Held S u p → (w ≡ h → ⊥) → σ ≡ S.scope v → (σ ≡ w) ⊎ Way (Settled S') σ w → InA c p → Waits S w p
  scope_back u w p σ k n e reach j =
      ⊎_elim
      (λ q. waits_known v w p σ c D.self (sym e) (inl q) j)
      (λ y. go ((way_back σ w n y).1 (subst (λ (z : ℕ). Plain h Kid z) (sym e) (scope_plain v c D.self D.item))))
      reach
    where
      go : Before S v F σ w → Waits S w p
      go (as_was z) = waits_known v w p σ c D.self (sym e) (inr z) j
      go (through x f reach z) = forced_back u w p x k f (waits_known v x p σ c D.self (sym e) reach j) z

  -- of the rest,
  rest_back : (u w p : ℕ) → Held S u p → (w ≡ h → ⊥) → Share S' h r w p → Waits S w p
  rest_back u w p k n (by_way x i) = for_way v c D.self (rest_way w n x) (E.sum_rest p i)
  rest_back u w p k n (by_scope e j) = scope_back u w p (S'.scope h) k n D.rest_scope (inl e) (E.all_rest p j)
  rest_back u w p k n (by_scopes_way x j) = scope_back u w p (S'.scope h) k n D.rest_scope (inr x) (E.all_rest p j)

  -- of another vertex,
  old_back :
      (x u w p : ℕ) (k : Code) → Held S x p → (w ≡ h → ⊥) → (u ≡ v → ⊥) → holds (S.control u) ≡ some k → S'.scope u ≡ S.scope u
      → Share S' u k w p → Waits S w p
  old_back x u w p k held_p n nv e q (by_way y i) = go ((way_back u w n y).1 (old_plain u k nv e))
    where
      go : Before S v F u w → Waits S w p
      go (as_was z) = for_way u k e z i
      go (through y f reach z) =
          ⊎_elim
          (λ at. absurd (D.forces.empty y k f (ap (λ (a : ℕ). holds (S.control a)) (sym at) ∙ e) (ins_item k p i)))
          (λ way. forced_back x w p y held_p f (for_way u k e way i) z)
          reach
  old_back x u w p k held_p n nv e q (by_scope e' j) = for_scope u k e (sym q ∙ e') j
  old_back x u w p k held_p n nv e q (by_scopes_way y j) =
      go ((way_back (S.scope u) w n (way_from (sym q) y)).1 (scope_plain u k e (ina_item k p j)))
    where
      go : Before S v F (S.scope u) w → Waits S w p
      go (as_was z) = for_scopes_way u k e z j
      go (through y f reach z) = forced_back x w p y held_p f (waits_scope u y p k e reach j) z

  -- of a kid,
  kid_back :
      (u w p x : ℕ) (b : Code) → Held S u p → (w ≡ h → ⊥) → (Sunk S S' t s → t ≡ w → ⊥) → Kid x b → Share S' x b w p → Waits S w p
  kid_back u w p x b held_p n off k share = ⊎_elim (λ (at, in_scope). tied at in_scope share) (λ end. absurd (sunk end share)) D.ends
    where
      tied : Tied S v h t → Tied S v h s → Share S' x b w p → Waits S w p
      tied at in_scope (by_way y i) =
          let all = E.all_kid x p b in_scope k (ins_ina b p i) in
          ⊎_elim
          (λ e. ⊎_elim (λ e'. absurd (n (sym e ∙ e'))) (λ e'. scope_back u w p t held_p n e' (inl e) all) at)
          (λ y.
          ⊎_elim
          (λ e'. for_way v c D.self (rest_way w n (way_from (sym e') y)) (E.sum_kid x p b k (led e' i)))
          (λ e'. scope_back u w p t held_p n e' (inr y) all)
          at)
          (kid_way x w b k y)
      tied at in_scope (by_scope e j) =
          let q = D.kid_scope x b k in
          ⊎_elim
          (λ e'. absurd (n (sym e ∙ q ∙ e')))
          (λ e'. scope_back u w p (S'.scope x) held_p n (q ∙ e') (inl e) (E.all_kid x p b in_scope k j))
          in_scope
      tied at in_scope (by_scopes_way y j) =
          let q = D.kid_scope x b k in
          ⊎_elim
          (λ e'. for_way v c D.self (rest_way w n (way_from (sym (q ∙ e')) y)) (E.sum_kid x p b k (scoped e' j)))
          (λ e'. scope_back u w p (S'.scope x) held_p n (q ∙ e') (inr y) (E.all_kid x p b in_scope k j))
          in_scope

      stuck : Sunk S S' t s → Way (Settled S') t w → ⊥
      stuck end (one e) = end.from w e
      stuck end (more {b = y} e z) = end.from y e

      sunk : Sunk S S' t s → Share S' x b w p → ⊥
      sunk end (by_way y i) = ⊎_elim (off end) (stuck end) (kid_way x w b k y)
      sunk end (by_scope e j) = off end (end.same ∙ sym (D.kid_scope x b k) ∙ e)
      sunk end (by_scopes_way y j) = stuck end (way_from (end.same ∙ sym (D.kid_scope x b k)) y)

  -- so nothing else is waited for
  waits_back : (x w p : ℕ) → Held S x p → (w ≡ h → ⊥) → (Sunk S S' t s → t ≡ w → ⊥) → Waits S' w p → Waits S w p
  waits_back x w p held_p n off waited = waits_share waited (λ u k e a. go u k a (D.origin u k e (share_item a)))
    where
      go : (u : ℕ) (k : Code) → Share S' u k w p → Origin S S' v h r Kid u k → Waits S w p
      go u k a (stood nv e q) = old_back x u w p k held_p n nv e q a
      go u k a (the_rest q e) =
          rest_back x w p held_p n (subst (λ (z : ℕ). Share S' z r w p) q (subst (λ (z : Code). Share S' u z w p) e a))
      go u k a (a_kid i) = kid_back x w p u k held_p n off i a

  -- The rest's vertex waits for what the kids have ahead of it,
  kids_ahead : (p : ℕ) → Some Kid (λ b. Awaited h t s b p) → Waits S' h p
  kids_ahead p (of x b k (led e i)) =
      for_way x b (D.kid x b k) (one (subst (λ (z : ℕ). Settled S' x z) e (D.edges.kid_on x b k))) i
  kids_ahead p (of x b k (scoped e j)) = for_scope x b (D.kid x b k) (D.kid_scope x b k ∙ e) j

  -- and for nothing else but for what is forced: whoever has it for a scope is a kid, and the last on a way to it is a kid or is forced. The
  -- same of any vertex y that nothing led to.
  new_waits :
      (x y p : ℕ) → Held S x p → ((a : ℕ) → Settled S a y → ⊥) → Waits S' y p → ((y ≡ h) × G p) ⊎ Some Kid (λ b. Awaited y t s b p)
  new_waits x y p held_p bare waited = waits_share waited go
    where
      Told : Type 0
      Told = ((y ≡ h) × G p) ⊎ Some Kid (λ b. Awaited y t s b p)

      scope_new : (u : ℕ) (k : Code) → holds (S.control u) ≡ some k → is_item k ≡ true → S.scope u ≡ y → ⊥
      scope_new u k e i q = let (x, l) = scope_led u rs e i in bare x (subst (λ (z : ℕ). Settled S x z) q l)

      from : (u : ℕ) (k : Code) → S'.scope u ≡ y → InA k p → Origin S S' v h r Kid u k → Told
      from u k q j (stood nv e e') = absurd (scope_new u k e (ina_item k p j) (sym e' ∙ q))
      from u k q j (the_rest q' e) = absurd (scope_new v c D.self D.item (sym D.rest_scope ∙ ap S'.scope (sym q') ∙ q))
      from u k q j (a_kid i) = inr (of u k i (scoped (sym (D.kid_scope u k i) ∙ q) j))

      -- what a forced vertex waits for
      forces : (a : ℕ) → F a → y ≡ h → Waits S' a p → Told
      forces a f q w =
          inl (
            q,
            D.forces.waited x p a held_p f
                (waits_back x a p held_p (D.forces.not_rest a f) (λ end e. absurd (D.forces.not_end a f e)) w),
          )

      -- the last edge of a way to y, from u by its own or by its scope's
      by_edge : (u : ℕ) (k : Code) (a : ℕ) → holds (S'.control u) ≡ some k → InS k p → (u ≡ a) ⊎ Way (Settled S') u a → Edge S v h Kid F t a y → Told
      by_edge u k a e i reach (stays l) = absurd (bare a l)
      by_edge u k a e i reach (handed q l) = absurd (bare v l)
      by_edge u k a e i reach (made b n q) =
          ⊎_elim
          (λ at.
          let same : b ≡ k = holds_one (S'.control u) (ap (λ (z : ℕ). holds (S'.control z)) at ∙ D.kid a b n) e in
          inr (of a b n (led (sym q) (subst (λ (z : Code). InS z p) (sym same) i))))
          (λ way. let (z, l) = way_led_to way in absurd (kid_new a z b n l))
          reach
      by_edge u k a e i reach (forced f q) =
          ⊎_elim
          (λ at. absurd (held_empty (D.origin u k e (ins_item k p i)) at))
          (λ way. forces a f q (for_way u k e way i))
          reach
        where
          held_empty : Origin S S' v h r Kid u k → u ≡ a → ⊥
          held_empty (stood nv e' q') at =
              D.forces.empty a k f (ap (λ (z : ℕ). holds (S.control z)) (sym at) ∙ e') (ins_item k p i)
          held_empty (the_rest q' e') at = D.forces.not_rest a f (sym at ∙ q')
          held_empty (a_kid n) at = D.forces.not_kid a k f (subst (λ (z : ℕ). Kid z k) at n)

      scope_edge :
          (u : ℕ) (k : Code) (a : ℕ) → holds (S'.control u) ≡ some k → InA k p → (S'.scope u ≡ a) ⊎ Way (Settled S') (S'.scope u) a
          → Edge S v h Kid F t a y → Told
      scope_edge u k a e j reach (stays l) = absurd (bare a l)
      scope_edge u k a e j reach (handed q l) = absurd (bare v l)
      scope_edge u k a e j reach (made b n q) =
          ⊎_elim
          (λ at.
          let (z, l) = scope_led u rs' e (ina_item k p j) in
          absurd (kid_new a z b n (subst (λ (w : ℕ). Settled S' z w) at l)))
          (λ way. let (z, l) = way_led_to way in absurd (kid_new a z b n l))
          reach
      scope_edge u k a e j reach (forced f q) = forces a f q (waits_scope u a p k e reach j)

      go : (u : ℕ) (k : Code) → holds (S'.control u) ≡ some k → Share S' u k y p → Told
      go u k e (by_way w i) = let (a, l, reach) = way_end w in by_edge u k a e i reach (D.edges.back a y l)
      go u k e (by_scope q j) = from u k q j (D.origin u k e (ina_item k p j))
      go u k e (by_scopes_way w j) = let (a, l, reach) = way_end w in scope_edge u k a e j reach (D.edges.back a y l)

  -- a job that is held was held, by the same vertex or by v
  held_back : {u p : ℕ} → Held S' u p → (x : ℕ) × Held S x p
  held_back {u} {p} (held k e j) = go (D.origin u k e (job_item k p j))
    where
      go : Origin S S' v h r Kid u k → (x : ℕ) × Held S x p
      go (stood nv e q) = (u, held k e j)
      go (the_rest q e) = (v, held c D.self (E.job_rest p (subst (λ (z : Code). Job z p) e j)))
      go (a_kid i) = (v, held c D.self (E.job_kid u p k i j))

  -- no job is held by two
  parts_alone : {m : Code} → Orders m S → (u w p : ℕ) → Held S' u p → Held S' w p → u ≡ w
  parts_alone os u w p (held k e j) (held d e' j') = go (D.origin u k e (job_item k p j)) (D.origin w d e' (job_item d p j'))
    where
      mine : Job c p → Held S v p
      mine j = held c D.self j

      go : Origin S S' v h r Kid u k → Origin S S' v h r Kid w d → u ≡ w
      go (stood nv e q) (stood nv' e' q') = os.alone u w p (held k e j) (held d e' j')
      go (stood nv e q) (the_rest q' i') =
          absurd (nv (os.alone u v p (held k e j) (mine (E.job_rest p (subst (λ (z : Code). Job z p) i' j')))))
      go (stood nv e q) (a_kid i') = absurd (nv (os.alone u v p (held k e j) (mine (E.job_kid w p d i' j'))))
      go (the_rest q i) (stood nv' e' q') =
          absurd (nv' (os.alone w v p (held d e' j') (mine (E.job_rest p (subst (λ (z : Code). Job z p) i j)))))
      go (the_rest q i) (the_rest q' i') = q ∙ sym q'
      go (the_rest q i) (a_kid i') = absurd (E.apart w p d i' j' (subst (λ (z : Code). Job z p) i j))
      go (a_kid i) (stood nv' e' q') = absurd (nv' (os.alone w v p (held d e' j') (mine (E.job_kid u p k i j))))
      go (a_kid i) (the_rest q' i') = absurd (E.apart u p k i j (subst (λ (z : Code). Job z p) i' j'))
      go (a_kid i) (a_kid i') = (E.alike u w p k d i i' j j').0

  -- the first vertex of an open future waits for what a finish around its body would
  open_awaits :
      {m : Code} → Orders m S → (f u p : ℕ) (b : Code) → Open S S' h Kid t s f b → Held S' u p → InA b p → Waits S' f p
  open_awaits os f u p b (was_open x l i n off) k a =
      let (y, k') = held_back k in waits_on y f p k' (os.awaits x f b l i y p k' a)
  open_awaits os f u p b (opens_now end q n x kid only) k a =
      for_scope x b (D.kid x b kid) (D.kid_scope x b kid ∙ sym end.same ∙ q) a

  open_awaited :
      {m : Code} → Orders m S → (f u p : ℕ) (b : Code) → Open S S' h Kid t s f b → Held S' u p → Waits S' f p → InA b p
  open_awaited os f u p b (was_open x l i n off) k w =
      let (y, k') = held_back k in os.awaited x f b l i y p k' (waits_back y f p k' n off w)
  open_awaited os f u p b (opens_now end q n x kid only) k w =
      let (y, k') = held_back k in
      ⊎_elim (λ (e, g). absurd (n e)) of_kid
      (new_waits y f p k' (λ a l. end.to a (subst (λ (z : ℕ). Settled S a z) (sym q) l)) w)
    where
      all : {d : Code} → Awaited f t s d p → InA d p
      all {d} (led e i) = ins_ina d p i
      all (scoped e j) = j

      of_kid : Some Kid (λ d. Awaited f t s d p) → InA b p
      of_kid (of y d kid' a) = subst (λ (z : Code). InA z p) (only y d kid') (all a)

  -- The order is kept.
  pub parts_orders :
      {m : Code} → Orders m S → ((w f : ℕ) (b : Code) → w < S'.count → In (f, b) (S'.opens w) → Open S S' h Kid t s f b) → Orders m S'
  parts_orders {m} os opened =
      record {
        alone = parts_alone os;
        only =
            λ w q k e j u p i a.
            let (x, i') = held_back i in
            only_at w q k j x p i' a (D.origin w k e (job_item k q j));
        each =
            λ w q k e j u p i a.
            let (x, i') = held_back i in
            each_at w q k j x p i' a (D.origin w k e (job_item k q j));
        awaits = λ w f b l i u p k a. open_awaits os f u p b (opened w f b l i) k a;
        awaited = λ w f b l i u p k a. open_awaited os f u p b (opened w f b l i) k a;
      }
    where
      only_at :
          (w q : ℕ) (k : Code) → Job k q → (x p : ℕ) → Held S x p → Pre m p q → Origin S S' v h r Kid w k → Waits S' w p ⊎ Pre k p q
      only_at w q k j x p i a (stood nv e σ) = ⊎_elim (λ y. inl (waits_on x w p i y)) inr (os.only w q k e j x p i a)
      only_at w q k j x p i a (the_rest e e') =
          subst (λ (z : ℕ). Waits S' z p ⊎ Pre k p q) (sym e)
          (subst (λ (z : Code). Waits S' h p ⊎ Pre z p q) (sym e')
          (⊎_elim
          (λ y. absurd (waits_none rs D.executes y))
          (λ f.
          ⊎_elim
          (λ y. inl (⊎_elim (forced_rest x p i) (kids_ahead p) y.0))
          (⊎_elim inr other)
          (E.pres p q f))
          (os.only v q c D.self (E.job_rest q here) x p i a)))
        where
          here : Job r q
          here = subst (λ (z : Code). Job z q) e' j

          other : Some Kid (λ b. Pre b p q) → Waits S' h p ⊎ Pre r p q
          other (of y b n f) = absurd (E.apart y q b n (pre_job b p q f) here)
      only_at w q k j x p i a (a_kid n) =
          ⊎_elim
          (λ y. absurd (waits_none rs D.executes y))
          (λ f.
          ⊎_elim
          (λ y. absurd (E.apart w q k n j y.1))
          (⊎_elim (λ f. absurd (E.apart w q k n j (pre_job r p q f))) same)
          (E.pres p q f))
          (os.only v q c D.self (E.job_kid w q k n j) x p i a)
        where
          same : Some Kid (λ b. Pre b p q) → Waits S' w p ⊎ Pre k p q
          same (of y b n' f) =
              let e : b ≡ k = (E.alike y w q b k n' n (pre_job b p q f) j).1 in inr (subst (λ (z : Code). Pre z p q) e f)

      each_at :
          (w q : ℕ) (k : Code) → Job k q → (x p : ℕ) → Held S x p → Waits S' w p ⊎ Pre k p q → Origin S S' v h r Kid w k → Pre m p q
      each_at w q k j x p i a (stood nv e σ) =
          os.each w q k e j x p i (⊎_elim (λ y. inl (waits_back x w p i (old_rest w k nv e) off y)) inr a)
        where
          off : Sunk S S' t s → t ≡ w → ⊥
          off end at = end.unheld k (ap (λ (z : ℕ). holds (S.control z)) at ∙ e)
      each_at w q k j x p i a (the_rest e e') =
          os.each v q c D.self (E.job_rest q here) x p i
          (inr
          (⊎_elim
          (λ y.
          ⊎_elim (λ (_, g). E.pre_forced p q g here) first
          (new_waits x h p i D.edges.rest_to (subst (λ (z : ℕ). Waits S' z p) e y)))
          (λ f. E.pre_rest p q (subst (λ (z : Code). Pre z p q) e' f))
          a))
        where
          here : Job r q
          here = subst (λ (z : Code). Job z q) e' j

          first : Some Kid (λ b. Awaited h t s b p) → Pre c p q
          first (of y b n f) = E.pre_first y p q b n f here
      each_at w q k j x p i a (a_kid n) =
          os.each v q c D.self (E.job_kid w q k n j) x p i
          (inr
          (⊎_elim
          (λ y. let (z, l) = waits_led rs' y in absurd (kid_new w z k n l))
          (λ f. E.pre_kid w p q k n f)
          a))
