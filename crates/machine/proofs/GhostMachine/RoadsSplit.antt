-- The split of an item. Nothing settled leads to the vertex that splits it, so the ways of others stay. The vertices that are made lead
-- to their scope: by the way of the vertex that made them, whose edges they get; by an edge to the one that gets them; or by an edge to
-- the scope itself. The first vertex of a future has no item, and need not lead anywhere. Behind a fork of the second edition the vertex that
-- splits it waits for those that it made.
use Prim.Native.Nat.{ℕ, ◌<◌}
use mathlib.Core.Path.{◌≡◌, refl, sym, ◌∙◌, ap, subst}
use mathlib.Core.Bool.{true, false}
use mathlib.Core.Logic.{⊎_elim}
use mathlib.Core.List.{List, [], ◌∷◌}
use mathlib.Core.Option.{some, some-injective}
use native.Mathlib.Omega.{arith}
use borrow.Author.Tests.{ne_eqb}
use Rattle.graph.proofs.TestLaws.{equal?, true-false, either-false}
use Rattle.program.specs.declared.Edition.TheVariants.{First}
use Rattle.program.specs.Encodings.{own_scope, made_1}
use Rattle.program.specs.Located.{Code, end_byte_at, async_at, finish_at, fork_at, future_at, force_at}
use Rattle.machine.proofs.GhostMachine.Ghost.{Do, link, hand, free, yield, draft, fresh, busy, over, State, Kid, kid, awaiting, kids, fork_goes, goes, resolved}
use Rattle.machine.proofs.GhostMachine.Ghost.{among, live}
use Rattle.machine.proofs.GhostMachine.Invariant.{In, here, later, tasks, tasks_of, code_of, is_item, yields, waits, is_new, Settled, held, Way, one, more}
use Rattle.machine.proofs.GhostMachine.Invariant.{Draft, Drafts, Shape, Roads, Opened}
use Rattle.machine.proofs.GhostMachine.GhostLaws.{clash, apart, draft_new, busy_old, over_old, Splits, async_1, finish_2, fork_3, fork_yields, future_2}
use Rattle.machine.proofs.GhostMachine.GhostLaws.{force_1, in_empty}
use Rattle.machine.proofs.GhostMachine.RoadLaws.{busy_code, busy-waits, busy_source, draft-waits, over-waits, busy_draft, busy_below}
use Rattle.machine.proofs.GhostMachine.RoadLaws.{waits-live, forced_below}
use Rattle.machine.proofs.GhostMachine.SettledLaws.{plan_cases, split_cases, split_old, split_given, split_own, split_new, own_held}
use Rattle.machine.proofs.GhostMachine.SplitLaws.{item_split, Split, split_of}
use Rattle.machine.proofs.GhostMachine.GhostLaws.{todo_async, todo_finish, todo_fork, todo_fork_yields, todo_future, todo_force}
use Rattle.machine.proofs.GhostMachine.SplitLaws.{async_links, async_hands, finish_links, fork_links, future_links, future_hands, force_links}
use Rattle.machine.proofs.GhostMachine.SplitLaws.{force_frees, fork_yields_links, fork_yields_hands}
use Rattle.machine.proofs.GhostMachine.Ways.{way_map, way_past, way_last, Bound, at_item, at_link, bound_way, bound_same, nothing_to}
use Rattle.machine.proofs.GhostMachine.Ways.{nothing_to_draft}

-- a way to the scope
to_scope : {S : State} {u w : ℕ} → S.scope u ≡ w → Way (Settled S) u w → Way (Settled S) u (S.scope u)
to_scope {S} {u} e w = subst (λ (z : ℕ). Way (Settled S) u z) (sym e) w

-- a way from the vertex that u is
way_of : {S : State} {u w : ℕ} → u ≡ w → Way (Settled S) w (S.scope w) → Way (Settled S) u (S.scope u)
way_of {S} e w = subst (λ (z : ℕ). Way (Settled S) z (S.scope z)) (sym e) w

-- a vertex at an end byte is not bound, if no edge to its scope is planned
end_unbound :
    {S : State} {u o : ℕ} → code_of (S.control u) ≡ some (end_byte_at o) → ((a : ℕ) → In (link a (S.scope u)) (tasks_of S u) → ⊥)
    → Bound S u → ⊥
unfolding is_item
end_unbound {o = o} e n (at_item c h d) =
    true-false h.1 (ap is_item (some-injective c (end_byte_at o) (sym h.0 ∙ e)))
end_unbound e n (at_link a i) = n a i

-- a vertex that is to be released is fresh
released_fresh : {S : State} {m : ℕ} → Shape S → (t : ℕ) → ((c : Code) → S.control m ≡ fresh c → ⊥) → In (free m) (tasks_of S t) → ⊥
released_fresh {m = m} sh t n i = let (c, q) = ((sh.todo_fits t).frees m i).0 in n c q

-- the item of code c that v has is split
module _ {S S' : State} {v : ℕ} {c : Code} {ms : List ℕ} {T : List Do} {σ : ℕ} where
  -- nothing leads to v, and its settled edges are its edges
  past_v : Roads S → Split S S' v c ms T σ → (x : ℕ) → Settled S x v → ⊥
  past_v rs D = nothing_to rs (busy-waits D.self)

  own_edge : Shape S → Split S S' v c ms T σ → is_item c ≡ true → (y : ℕ) → Settled S v y → S.edge v y ≡ true
  own_edge sh D it y = own_held sh (busy_source D.self it)

  edge_own : Split S S' v c ms T σ → (y : ℕ) → S.edge v y ≡ true → Settled S v y
  edge_own D y e = held e (λ h i. in_empty D.plans.idle i)

  -- v is no new vertex
  v_old : Shape S → Split S S' v c ms T σ → v ≡ S.count → ⊥
  v_old sh D e = let z = sym D.self ∙ ap S.control e ∙ sh.beyond S.count (omega arith) in clash cc

  -- the new vertex, and one that was made before, is not finished
  new_live : Split S S' v c ms T σ → live (S'.control S.count) ≡ true
  new_live D = waits-live (S'.control S.count) D.new_waits

  made_live : {m : ℕ} {k : Code} → Split S S' v c ms T σ → S.control m ≡ draft k → live (S'.control m) ≡ true
  made_live {m} D q = waits-live (S'.control m) (D.waiting m (draft-waits q))

  -- a way from another vertex stays
  old_way : {u w : ℕ} → Roads S → Split S S' v c ms T σ → (u ≡ v → ⊥) → Way (Settled S) u w → Way (Settled S') u w
  old_way rs D n = way_past v (λ x y. split_old D.plans) (past_v rs D) n

  -- v's way is that of the vertex that gets its edges
  handed_way :
      {h w : ℕ} → Shape S → Roads S → Split S S' v c ms T σ → is_item c ≡ true → In (hand h) T → Way (Settled S) v w
      → Way (Settled S') h w
  handed_way sh rs D it i (one r) = one (split_given D.plans i (own_edge sh D it _ r))
  handed_way sh rs D it i (more r w) =
      more (split_given D.plans i (own_edge sh D it _ r))
      (old_way rs D (λ e. past_v rs D v (subst (λ (z : ℕ). Settled S v z) e r)) w)

  -- if none gets them, v has it still
  own_way :
      {w : ℕ} → Shape S → Split S S' v c ms T σ → is_item c ≡ true → ((h : ℕ) → In (hand h) T → ⊥) → Way (Settled S) v w
      → Way (Settled S') v w
  own_way sh D it n =
      way_map
      (λ x y s.
      ⊎_elim
      (λ e.
      let new = split_own D.plans n (own_edge sh D it y (subst (λ (z : ℕ). Settled S z y) e s)) in
      subst (λ (z : ℕ). Settled S' z y) (sym e) new)
      (λ ne. split_old D.plans ne s)
      (equal? x v))

  -- v has a way to its scope
  v_way : Roads S → Split S S' v c ms T σ → is_item c ≡ true → Way (Settled S) v (S.scope v)
  v_way rs D h = rs.way v c (busy_code D.self, h) (busy_draft D.self)

  -- a vertex that is neither v nor of its item
  other_way :
      {u : ℕ} → Roads S → Split S S' v c ms T σ → (u ≡ v → ⊥) → (u ≡ S.count → ⊥) → among u ms ≡ false → Bound S' u
      → Way (Settled S') u (S'.scope u)
  other_way {u} rs D nv nc na b =
      let same = D.same_scope u nc in to_scope same (old_way rs D nv (bound_way rs (bound_same (D.same u nv nc na) same b)))

  -- v goes to an end byte, and plans no edge to its scope
  v_unbound :
      {o : ℕ} → Shape S → Split S S' v c ms T σ → goes S.setting c ≡ end_byte_at o → ((a : ℕ) → In (link a (S.scope v)) T → ⊥) → Bound S' v → ⊥
  v_unbound {o} sh D e n =
      end_unbound (D.self_code ∙ ap (λ (k : Code). some k) e)
      (λ a i.
      let j = subst (λ l. In (link a (S'.scope v)) l) D.plans.plan i in
      n a (subst (λ (z : ℕ). In (link a z) T) (D.same_scope v (v_old sh D)) j))

  -- The sources of the planned edges that the item releases are such that nothing leads to them; the targets wait, and are no such sources.
  split_roads :
      Shape S → Roads S → Split S S' v c ms T σ → ((a b x : ℕ) → In (link a b) T → In (free a) T → Settled S x a → ⊥)
      → ((a b x : ℕ) → In (link a b) T → In (free a) T → In (link x a) T → ⊥)
      → ((a b : ℕ) → In (link a b) T → waits (S'.control b) ≡ true)
      → ((a b t y : ℕ) → In (link a b) T → In (link b y) (tasks_of S t) → In (free b) (tasks_of S t) → ⊥)
      → ((u : ℕ) → Bound S' u → Way (Settled S') u (S'.scope u)) → Roads S'
  split_roads sh rs D source apart target clear ways =
      record {
        into =
            λ a b s.
            split_cases D.plans s (λ s. D.waiting b (rs.into a b s)) (λ i e. D.waiting b (rs.into v b (edge_own D b e)))
            (target a b);
        way = λ u k h d. ways u (at_item k h d);
        plan = λ u a i. ways u (at_link a i);
        bare =
            λ t a b x i f s.
            plan_cases D.plans t i
            (λ e j.
            let m = subst (λ l. In (free a) l) (ap (tasks_of S') e ∙ D.plans.plan) f in
            split_cases D.plans s (source a b x j m) (λ k e. source a b v j m (edge_own D a e)) (λ k. apart a b x j m k))
            (λ n j.
            let m = subst (λ l. In (free a) l) (D.plans.others t n) f in
            split_cases D.plans s (rs.bare t a b x j m) (λ k e. rs.bare t a b v j m (edge_own D a e))
            (λ k. clear x a t b k j m));
      }

-- a number that is none of a list's
among_one : (u m : ℕ) → (u ≡ m → ⊥) → among u (m ∷ []) ≡ false
unfolding among
among_one u m n = either-false (ne_eqb u m n) refl

among_two : (u m m' : ℕ) → (u ≡ m → ⊥) → (u ≡ m' → ⊥) → among u (m ∷ m' ∷ []) ≡ false
unfolding among
among_two u m m' n n' = either-false (ne_eqb u m n) (either-false (ne_eqb u m' n') refl)

-- an async: the new vertex leads to the scope
async_roads :
    {o v : ℕ} {b r : Code} {S S' : State} → Shape S → Roads S
    → Split S S' v (async_at o b r) [] (link S.count (S.scope v) ∷ free S.count ∷ []) (S.scope v) → Roads S'
unfolding is_item among
async_roads {v = v} {S = S} {S' = S'} sh rs D =
    let (x, s, from) = way_last way in
    split_roads sh rs D
    (λ a b y i f t. nothing_to rs (over-waits new) y (subst (λ (z : ℕ). Settled S y z) (async_links i).0 t))
    (λ a b y i f j. let at : S.count ≡ S.scope v = sym (async_links i).0 ∙ (async_links j).1 in absurd (omega (arith, scope_below)))
    (λ a b i. D.waiting b (ap (λ (z : ℕ). waits (S.control z)) (async_links i).1 ∙ rs.into x (S.scope v) s))
    (λ a b t y i j f. rs.bare t b y x j f (subst (λ (z : ℕ). Settled S x z) (sym (async_links i).1) s))
    (λ u bound.
    ⊎_elim
    (λ e. way_of e (to_scope (D.same_scope v (v_old sh D)) (own_way sh D refl (λ h. async_hands) way)))
    (λ nv.
    ⊎_elim
    (λ e. way_of e (to_scope D.new_scope (one (split_new D.plans here (new_live D)))))
    (λ nc. other_way rs D nv nc refl bound)
    (equal? u S.count))
    (equal? u v))
  where
    new : S.control S.count ≡ over
    new = sh.beyond S.count (omega arith)

    scope_below : S.scope v < S.count
    scope_below = sh.scope_within v (busy_below sh v D.self)

    way : Way (Settled S) v (S.scope v)
    way = v_way rs D refl

-- a finish: the vertex for the rest gets v's way, and the new one, for the body, leads to it
finish_roads :
    {o v m : ℕ} {b r : Code} {S S' : State} → Shape S → Roads S
    → Split S S' v (finish_at o b r) (m ∷ []) (link S.count m ∷ hand m ∷ free m ∷ free S.count ∷ []) m → Roads S'
unfolding is_item goes Drafts kids resolved
finish_roads {v = v} {m = m} {r = r} {S = S} {S' = S'} sh rs D =
    split_roads sh rs D
    (λ a b y i f t. nothing_to rs (over-waits new) y (subst (λ (z : ℕ). Settled S y z) (finish_links i).0 t))
    (λ a b y i f j. old (sym (finish_links j).1 ∙ (finish_links i).0))
    (λ a b i. D.waiting b (ap (λ (z : ℕ). waits (S.control z)) (finish_links i).1 ∙ draft-waits drafted))
    (λ a b t y i j. released_fresh sh t (λ k f. let z = sym drafted ∙ ap S.control (sym (finish_links i).1) ∙ f in clash cc))
    (λ u bound.
    ⊎_elim
    (λ e. absurd (v_unbound sh D refl (λ a i. scope_apart (finish_links i).1) (subst (λ (z : ℕ). Bound S' z) e bound)))
    (λ nv.
    ⊎_elim
    (λ e. way_of e (to_scope D.new_scope (one (split_new D.plans here (new_live D)))))
    (λ nc.
    ⊎_elim
    (λ e. way_of e (to_scope (D.same_scope m old ∙ made.scope_is) (handed_way sh rs D refl (later here) (v_way rs D refl))))
    (λ ne. other_way rs D nv nc (among_one u m ne) bound)
    (equal? u m))
    (equal? u S.count))
    (equal? u v))
  where
    new : S.control S.count ≡ over
    new = sh.beyond S.count (omega arith)

    made : Draft S v (m ∷ []) m (kid r own_scope)
    made = (sh.under_way v _ _ D.self).0.0

    drafted : S.control m ≡ draft r
    drafted = made.is_draft

    old : m ≡ S.count → ⊥
    old = apart is_new S.control (draft_new drafted) (over_old new)

    scope_apart : S.scope v ≡ m → ⊥
    scope_apart e =
        apart is_new S.control (draft_new drafted) (sh.scope_old v (busy_below sh v D.self) (busy_old D.self)) (sym e)

-- a fork: the new vertex, for the rest, gets v's way, and those for the branches lead to it
fork_roads :
    {o v m m' : ℕ} {b c r : Code} {S S' : State} → S.setting.edition ≡ First → Shape S → Roads S
    → Split S S' v (fork_at o b c r) (m ∷ m' ∷ [])
    (link m S.count ∷ link m' S.count ∷ hand S.count ∷ free S.count ∷ free m ∷ free m' ∷ []) (S.scope v)
    → Roads S'
unfolding is_item goes fork_goes Drafts kids resolved
fork_roads {v = v} {m = m} {m' = m'} {b = b} {c = c} {r = r} {S = S} {S' = S'} ed sh rs D =
    split_roads sh rs D
    (λ a b y i f t.
    ⊎_elim
    (λ e. nothing_to_draft sh left.is_draft y (subst (λ (z : ℕ). Settled S y z) e t))
    (λ e. nothing_to_draft sh right.is_draft y (subst (λ (z : ℕ). Settled S y z) e t))
    (fork_links i).0)
    (λ a b y i f j.
    ⊎_elim (λ e. old left.is_draft (sym e ∙ (fork_links j).1)) (λ e. old right.is_draft (sym e ∙ (fork_links j).1)) (fork_links i).0)
    (λ a b i. ap (λ (z : ℕ). waits (S'.control z)) (fork_links i).1 ∙ D.new_waits)
    (λ a b t y i j. released_fresh sh t (λ k f. let z = sym new ∙ ap S.control (sym (fork_links i).1) ∙ f in clash cc))
    (λ u bound.
    ⊎_elim
    (λ e.
    absurd
    (v_unbound sh D (ap (λ ed. fork_goes ed S.setting.last_byte r) ed) (λ a i. scope_old (fork_links i).1)
    (subst (λ (z : ℕ). Bound S' z) e bound)))
    (λ nv.
    ⊎_elim
    (λ e. way_of e (to_scope D.new_scope new_way))
    (λ nc.
    ⊎_elim
    (λ e.
    way_of e
    (to_scope (D.same_scope m (old left.is_draft) ∙ left.scope_is)
    (more (split_new D.plans here (made_live D left.is_draft)) new_way)))
    (λ ne.
    ⊎_elim
    (λ e.
    way_of e
    (to_scope (D.same_scope m' (old right.is_draft) ∙ right.scope_is)
    (more (split_new D.plans (later here) (made_live D right.is_draft)) new_way)))
    (λ ne'. other_way rs D nv nc (among_two u m m' ne ne') bound)
    (equal? u m'))
    (equal? u m))
    (equal? u S.count))
    (equal? u v))
  where
    new : S.control S.count ≡ over
    new = sh.beyond S.count (omega arith)

    left : Draft S v (m ∷ m' ∷ []) m (kid b own_scope)
    left = (sh.under_way v _ _ D.self).0.0

    right : Draft S v (m ∷ m' ∷ []) m' (kid c own_scope)
    right = (sh.under_way v _ _ D.self).0.1.0

    old : {k : Code} {x : ℕ} → S.control x ≡ draft k → x ≡ S.count → ⊥
    old q = apart is_new S.control (draft_new q) (over_old new)

    scope_old : S.scope v ≡ S.count → ⊥
    scope_old e = absurd (omega (arith, sh.scope_within v (busy_below sh v D.self)))

    new_way : Way (Settled S') S.count (S.scope v)
    new_way = handed_way sh rs D refl (later (later here)) (v_way rs D refl)

-- a fork of the second edition: v keeps its way, and the vertices for the branches lead to it
fork_yields_roads :
    {o v m : ℕ} {b c r : Code} {S S' : State} → Shape S → Roads S
    → Split S S' v (fork_at o b c r) (m ∷ []) (link m v ∷ link S.count v ∷ free m ∷ free S.count ∷ yield ∷ []) (S.scope v)
    → Roads S'
unfolding is_item Drafts kids resolved yields
fork_yields_roads {v = v} {m = m} {b = b} {S = S} {S' = S'} sh rs D =
    split_roads sh rs D
    (λ a b y i f t.
    ⊎_elim
    (λ e. nothing_to_draft sh left.is_draft y (subst (λ (z : ℕ). Settled S y z) e t))
    (λ e. nothing_to rs (over-waits new) y (subst (λ (z : ℕ). Settled S y z) e t))
    (fork_yields_links i).0)
    (λ a b y i f j.
    ⊎_elim (λ e. not_v (sym e ∙ (fork_yields_links j).1)) (λ e. v_old sh D (sym (fork_yields_links j).1 ∙ e)) (fork_yields_links i).0)
    (λ a b i. ap (λ (z : ℕ). waits (S'.control z)) (fork_yields_links i).1 ∙ D.self_waits)
    (λ a b t y i j.
    released_fresh sh t (λ k f. let z = sym D.self ∙ ap S.control (sym (fork_yields_links i).1) ∙ f in clash cc))
    (λ u bound.
    ⊎_elim
    (λ e. way_of e (to_scope (D.same_scope v (v_old sh D)) way))
    (λ nv.
    ⊎_elim
    (λ e. way_of e (to_scope D.new_scope (more (split_new D.plans (later here) (new_live D)) way)))
    (λ nc.
    ⊎_elim
    (λ e.
    way_of e
    (to_scope (D.same_scope m old ∙ left.scope_is) (more (split_new D.plans here (made_live D left.is_draft)) way)))
    (λ ne. other_way rs D nv nc (among_one u m ne) bound)
    (equal? u m))
    (equal? u S.count))
    (equal? u v))
  where
    new : S.control S.count ≡ over
    new = sh.beyond S.count (omega arith)

    left : Draft S v (m ∷ []) m (kid b own_scope)
    left = (sh.under_way v _ _ D.self).0.0

    old : m ≡ S.count → ⊥
    old = apart is_new S.control (draft_new left.is_draft) (over_old new)

    not_v : m ≡ v → ⊥
    not_v = apart is_new S.control (draft_new left.is_draft) (busy_old D.self)

    way : Way (Settled S') v (S.scope v)
    way = own_way sh D refl (λ h. fork_yields_hands) (v_way rs D refl)

-- a future: v keeps its way, and the new vertex, for the body, leads to its scope, which has no item
future_roads :
    {o v m : ℕ} {b r : Code} {S S' : State} → Shape S → Roads S
    → Split S S' v (future_at o b r) (m ∷ []) (link S.count m ∷ free m ∷ free S.count ∷ []) m → Roads S'
unfolding is_item goes Drafts kids resolved code_of tasks
future_roads {v = v} {m = m} {r = r} {S = S} {S' = S'} sh rs D =
    split_roads sh rs D
    (λ a b y i f t. nothing_to rs (over-waits new) y (subst (λ (z : ℕ). Settled S y z) (future_links i).0 t))
    (λ a b y i f j. old (sym (future_links j).1 ∙ (future_links i).0))
    (λ a b i. D.waiting b (ap (λ (z : ℕ). waits (S.control z)) (future_links i).1 ∙ draft-waits drafted))
    (λ a b t y i j. released_fresh sh t (λ k f. let z = sym drafted ∙ ap S.control (sym (future_links i).1) ∙ f in clash cc))
    (λ u bound.
    ⊎_elim
    (λ e. way_of e (to_scope (D.same_scope v (v_old sh D)) (own_way sh D refl (λ h. future_hands) (v_way rs D refl))))
    (λ nv.
    ⊎_elim
    (λ e. way_of e (to_scope D.new_scope (one (split_new D.plans here (new_live D)))))
    (λ nc.
    ⊎_elim
    (λ e. absurd (waiting nv e (subst (λ (z : ℕ). Bound S' z) e bound)))
    (λ ne. other_way rs D nv nc (among_one u m ne) bound)
    (equal? u m))
    (equal? u S.count))
    (equal? u v))
  where
    new : S.control S.count ≡ over
    new = sh.beyond S.count (omega arith)

    made : Draft S v (m ∷ []) m (awaiting S.setting.last_byte r)
    made = (sh.under_way v _ _ D.self).0.0

    drafted : S.control m ≡ draft (end_byte_at S.setting.last_byte)
    drafted = made.is_draft

    old : m ≡ S.count → ⊥
    old = apart is_new S.control (draft_new drafted) (over_old new)

    -- the first vertex is at the last byte
    waiting : {u : ℕ} → (u ≡ v → ⊥) → u ≡ m → Bound S' m → ⊥
    waiting nv e =
        let nm : m ≡ v → ⊥ = λ q. nv (e ∙ q) in
        end_unbound (D.same_code m nm old ∙ ap code_of drafted)
        (λ a i. in_empty (D.plans.others m nm ∙ ap tasks drafted) i)

-- a force: the new vertex, for the rest, gets v's way, and the forced one, which the item does not release, leads to it
force_roads :
    {o i v t : ℕ} {b r : Code} {S S' : State} → Shape S → Roads S → t < S.count
    → Split S S' v (force_at o i b r) [] (link t S.count ∷ hand S.count ∷ free S.count ∷ []) (S.scope v) → Roads S'
unfolding is_item goes among
force_roads {v = v} {t = t} {S = S} {S' = S'} sh rs lt D =
    split_roads sh rs D
    (λ a b y i f x. absurd (outside i f))
    (λ a b y i f j. outside i f)
    (λ a b i. ap (λ (z : ℕ). waits (S'.control z)) (force_links i).1 ∙ D.new_waits)
    (λ a b w y i j. released_fresh sh w (λ k f. let z = sym new ∙ ap S.control (sym (force_links i).1) ∙ f in clash cc))
    (λ u bound.
    ⊎_elim
    (λ e. absurd (v_unbound sh D refl (λ a i. scope_old (force_links i).1) (subst (λ (z : ℕ). Bound S' z) e bound)))
    (λ nv.
    ⊎_elim
    (λ e. way_of e (to_scope D.new_scope (handed_way sh rs D refl (later here) (v_way rs D refl))))
    (λ nc. other_way rs D nv nc refl bound)
    (equal? u S.count))
    (equal? u v))
  where
    new : S.control S.count ≡ over
    new = sh.beyond S.count (omega arith)

    outside :
        {a b : ℕ} → In (link a b) (link t S.count ∷ hand S.count ∷ free S.count ∷ [])
        → In (free a) (link t S.count ∷ hand S.count ∷ free S.count ∷ []) → ⊥
    outside i f = let at : t ≡ S.count = sym (force_links i).0 ∙ force_frees f in absurd (omega (arith, lt))

    scope_old : S.scope v ≡ S.count → ⊥
    scope_old e = absurd (omega (arith, sh.scope_within v (busy_below sh v D.self)))

-- the split of an item leaves the roads
pub splits_kept :
    {S : State} {v : ℕ} {c : Code} {ms : List ℕ} {k : Kid} → Shape S → Opened S → Roads S → S.control v ≡ busy c ms
    → Splits S.setting.edition c ms k → Roads (item_split S v c ms k)
unfolding resolved
splits_kept {S} {v} sh op rs q (async_1 {o = o} {b = b} {r = r}) =
    async_roads sh rs (split_of (kid b own_scope) _ sh q (todo_async _ o b r v (S.scope v) _ S.count))
splits_kept {S} {v} sh op rs q (finish_2 {o = o} {m = m} {b = b} {r = r}) =
    finish_roads sh rs (split_of (kid b made_1) _ sh q (todo_finish _ o b r v (S.scope v) _ m S.count))
splits_kept {S} {v} sh op rs q (fork_3 {o = o} {m = m} {m' = m'} {b = b} {c = c} {r = r} e) =
    fork_roads e sh rs (split_of (kid r own_scope) _ sh q (todo_fork e o b c r v (S.scope v) _ m m' S.count))
splits_kept {S} {v} sh op rs q (fork_yields {o = o} {m = m} {b = b} {c = c} {r = r} e) =
    fork_yields_roads sh rs (split_of (kid c own_scope) _ sh q (todo_fork_yields e o b c r v (S.scope v) _ m S.count))
splits_kept {S} {v} sh op rs q (future_2 {o = o} {m = m} {b = b} {r = r}) =
    future_roads sh rs (split_of (kid b made_1) _ sh q (todo_future _ o b r v (S.scope v) _ m S.count))
splits_kept {S} {v} sh op rs q (force_1 {o = o} {n = n} {b = b} {r = r}) =
    force_roads sh rs (forced_below sh op q)
    (split_of (kid r own_scope) _ sh q (todo_force _ o n b r v (S.scope v) _ S.count))
