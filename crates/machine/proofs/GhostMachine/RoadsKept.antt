-- Settled edges lead to waiting vertices, and from each vertex that has an item to its scope; every move leaves it so.
--
-- A link, a hand-over, a release, a yield and a make that does not split leave the settled edges, the codes and the scopes as they are. A start
-- needs that nothing settled leads to a released vertex that no held edge leads to (`blocked`). Nothing settled leads to a vertex that
-- executes, so the ways of others do not pass it when it stops or splits its item. At a split the vertices that are made get the way of
-- the vertex that made them: the one that its edges are handed to has it with another source, and those that lead to this one lead on. Of a
-- future's vertices one leads to the other, its scope, which has no item.
use Prim.Native.Nat.{ℕ}
use mathlib.Core.Path.{◌≡◌, refl, sym, ◌∙◌, ap, subst}
use mathlib.Core.Bool.{true, false}
use mathlib.Core.Logic.{⊎_elim}
use mathlib.Core.List.{List, [], ◌∷◌, ◌++◌}
use native.Mathlib.Omega.{arith}
use Rattle.graph.proofs.TestLaws.{equal?, true-false}
use Rattle.program.specs.Located.{Code, end_byte_at, job_at}
use Rattle.machine.proofs.GhostMachine.Ghost.{Do, link, hand, free, yield, Control, draft, fresh, ready, busy, joining, over, State, put, resumed}
use Rattle.machine.proofs.GhostMachine.Ghost.{done, with_control, with_edges, grown, dropped, live, Event, Move, begins, performs, stops, makes}
use Rattle.machine.proofs.GhostMachine.Ghost.{splits, acts}
use Rattle.machine.proofs.GhostMachine.Invariant.{In, tasks, tasks_of, code_of, is_item, waits, is_draft, Settled, Way, Shape, Roads, Opened}
use Rattle.machine.proofs.GhostMachine.GhostLaws.{clash, put_same, put_other, put_cases, splits_at, in_empty, put_keeps, puts_keep, waits-resumed}
use Rattle.machine.proofs.GhostMachine.RoadLaws.{code_resumed, draft_resumed}
use Rattle.machine.proofs.GhostMachine.SettledLaws.{Did, task_stood, settled_same, link_back, link_on, hand_back, hand_on, plain_back, plain_on}
use Rattle.machine.proofs.GhostMachine.SettledLaws.{acts_did, acts_keeps, stop_back, stop_on, source_below}
use Rattle.machine.proofs.GhostMachine.Ways.{way_map, way_past, blocked, Bound, at_item, at_link, bound_way, bound_back, bound_same}
use Rattle.machine.proofs.GhostMachine.Ways.{nothing_to}
use Rattle.machine.proofs.GhostMachine.RoadsSplit.{splits_kept}

-- the same settled edges or fewer, to waiting vertices, with a way from each vertex that is bound
carried :
    {S S' : State} → Roads S → ((x y : ℕ) → Settled S' x y → Settled S x y)
    → ((x y : ℕ) → Settled S x y → waits (S'.control y) ≡ true)
    → ((t : ℕ) (d : Do) → In d (tasks_of S' t) → In d (tasks_of S t))
    → ((u : ℕ) → Bound S' u → Way (Settled S') u (S'.scope u)) → Roads S'
carried rs back to less ways =
    record {
      into = λ a b s. to a b (back a b s);
      way = λ v c h d. ways v (at_item c h d);
      plan = λ t a i. ways t (at_link a i);
      bare = λ t a b x i f s. rs.bare t a b x (less t (link a b) i) (less t (free a) f) (back x a s);
    }

-- the same settled edges, and a vertex that is bound was bound, with the same scope
kept :
    {S S' : State} → Roads S → ((x y : ℕ) → Settled S' x y → Settled S x y) → ((x y : ℕ) → Settled S x y → Settled S' x y)
    → ((x y : ℕ) → Settled S x y → waits (S'.control y) ≡ true)
    → ((t : ℕ) (d : Do) → In d (tasks_of S' t) → In d (tasks_of S t))
    → ((u : ℕ) → Bound S' u → Bound S u × (S'.scope u ≡ S.scope u)) → Roads S'
kept {S} {S'} rs back on to less bounds =
    carried rs back to less
    (λ u b. let (b', e) = bounds u b in subst (λ (z : ℕ). Way (Settled S') u z) (sym e) (way_map on (bound_way rs b')))

-- a link, a hand-over, a release, a yield: v is bound as before
acts_kept :
    {S S' : State} {v : ℕ} {c : Code} {d : Do} {ds : List Do} → Roads S → S.control v ≡ joining c d ds
    → Did S S' v d ds → ((u : ℕ) → S'.control u ≡ put (done S v d).control v (resumed c d ds) u) → ((u : ℕ) → S'.scope u ≡ S.scope u)
    → ((x y : ℕ) → Settled S' x y → Settled S x y) → ((x y : ℕ) → Settled S x y → Settled S' x y) → Roads S'
unfolding code_of waits is_draft
acts_kept {S} {S'} {v} {c} {d} {ds} rs q D f p back on =
    kept rs back on (λ x y s. seen waits (λ c. refl) (waits-resumed c d ds) y ∙ rs.into x y s) (λ t d. task_stood D t)
    (λ u b. (bound_back (λ k h i. at_item k (sym (code u) ∙ h.0, h.1) (sym (drafts u) ∙ i)) (p u) (λ a b. task_stood D u) b, p u))
  where
    seen :
        {B : Type 0} (g : Control → B) → ((c : Code) → g (ready c) ≡ g (fresh c)) → g (resumed c d ds) ≡ g (joining c d ds) → (u : ℕ)
        → g (S'.control u) ≡ g (S.control u)
    seen g h e u = ap g (f u) ∙ acts_keeps S v g h e q u

    code : (u : ℕ) → code_of (S'.control u) ≡ code_of (S.control u)
    code = seen code_of (λ c. refl) (code_resumed c d ds)

    drafts : (u : ℕ) → is_draft (S'.control u) ≡ is_draft (S.control u)
    drafts = seen is_draft (λ c. refl) (draft_resumed c d ds)

-- a start: nothing settled led to v
begins_kept :
    {S : State} {v : ℕ} {c : Code} → Shape S → Roads S → S.control v ≡ ready c → ((u : ℕ) → S.edge u v ≡ false)
    → Roads (with_control S (put S.control v (busy c [])))
unfolding tasks code_of waits is_draft live
begins_kept {S} {v} {c} sh rs q f =
    kept rs (λ x y. settled_same (λ a b. refl) (λ t. sym (task t)) (λ t a b i. sym (lives a)))
    (λ x y. settled_same (λ a b. refl) task (λ t a b i. lives a))
    (λ x y s.
    let n : y ≡ v → ⊥ = λ e. blocked sh rs v c q f x (subst (λ (z : ℕ). Settled S x z) e s) in
    ap waits (put_other S.control v (busy c []) y n) ∙ rs.into x y s)
    (λ t d. subst (λ l. In d l) (task t))
    (λ u b. (
      bound_back (λ k h i. at_item k (sym (code u) ∙ h.0, h.1) (sym (drafts u) ∙ i)) refl
          (λ a b. subst (λ l. In (link a b) l) (task u)) b,
      refl,
    ))
  where
    task : (u : ℕ) → tasks (put S.control v (busy c []) u) ≡ tasks (S.control u)
    task = put_keeps tasks S.control v (busy c []) (sym (ap tasks q))

    lives : (u : ℕ) → live (put S.control v (busy c []) u) ≡ live (S.control u)
    lives = put_keeps live S.control v (busy c []) (sym (ap live q))

    code : (u : ℕ) → code_of (put S.control v (busy c []) u) ≡ code_of (S.control u)
    code = put_keeps code_of S.control v (busy c []) (sym (ap code_of q))

    drafts : (u : ℕ) → is_draft (put S.control v (busy c []) u) ≡ is_draft (S.control u)
    drafts = put_keeps is_draft S.control v (busy c []) (sym (ap is_draft q))

-- a job: v had an item
performs_kept :
    {S : State} {v o n : ℕ} {r : Code} → Roads S → S.control v ≡ busy (job_at o n r) []
    → Roads (with_control S (put S.control v (busy r [])))
unfolding tasks code_of waits is_draft is_item live
performs_kept {S} {v} {o} {n} {r} rs q =
    kept rs (λ x y. settled_same (λ a b. refl) (λ t. sym (task t)) (λ t a b i. sym (lives a)))
    (λ x y. settled_same (λ a b. refl) task (λ t a b i. lives a))
    (λ x y s. put_keeps waits S.control v (busy r []) (sym (ap waits q)) y ∙ rs.into x y s)
    (λ t d. subst (λ l. In d l) (task t))
    (λ u b. (
      ⊎_elim
          (λ e. subst (λ (z : ℕ). Bound S z) (sym e) (at_item (job_at o n r) (ap code_of q, refl) (ap is_draft q)))
          (λ ne. bound_same (put_other S.control v (busy r []) u ne) refl b)
          (equal? u v),
      refl,
    ))
  where
    task : (u : ℕ) → tasks (put S.control v (busy r []) u) ≡ tasks (S.control u)
    task = put_keeps tasks S.control v (busy r []) (sym (ap tasks q))

    lives : (u : ℕ) → live (put S.control v (busy r []) u) ≡ live (S.control u)
    lives = put_keeps live S.control v (busy r []) (sym (ap live q))

-- a finished vertex, and one made in an item that is not split, are not bound
over_unbound : {S : State} {u : ℕ} → S.control u ≡ over → Bound S u → ⊥
unfolding code_of tasks
over_unbound e (at_item c h d) = clash cc
over_unbound e (at_link a i) = in_empty (ap tasks e) i

draft_unbound : {S : State} {u : ℕ} {k : Code} → S.control u ≡ draft k → Bound S u → ⊥
unfolding is_draft tasks
draft_unbound e (at_item c h d) = true-false (ap is_draft e) d
draft_unbound e (at_link a i) = in_empty (ap tasks e) i

-- a stop: the ways of others do not pass v
stops_kept :
    {S : State} {v o : ℕ} → Roads S → S.control v ≡ busy (end_byte_at o) []
    → Roads (with_edges (with_control S (put S.control v over)) (dropped S.edge v))
unfolding tasks waits live
stops_kept {S} {v} {o} rs q =
    carried rs (λ x y. stop_back v (λ a b. refl) task was)
    (λ x y s. put_keeps waits S.control v over (sym (ap waits q)) y ∙ rs.into x y s)
    (λ t d. subst (λ l. In d l) (task t))
    (λ u b.
    let ne : u ≡ v → ⊥ = λ e. over_unbound (ap (put S.control v over) e ∙ put_same S.control v over) b in
    way_past v (λ x y. stop_on v (λ a b. refl) task stays (ap tasks q)) (nothing_to rs (ap waits q)) ne
    (bound_way rs (bound_same (put_other S.control v over u ne) refl b)))
  where
    task : (u : ℕ) → tasks (put S.control v over u) ≡ tasks (S.control u)
    task = put_keeps tasks S.control v over (sym (ap tasks q))

    stays : (u : ℕ) → (u ≡ v → ⊥) → live (put S.control v over u) ≡ live (S.control u)
    stays u ne = ap live (put_other S.control v over u ne)

    was : (u : ℕ) → live (put S.control v over u) ≡ true → live (S.control u) ≡ true
    was u = put_cases (λ x. live x ≡ true → live (S.control u) ≡ true) S.control v over u (λ e l. clash (sym l)) (λ ne l. l)

-- one more vertex at n, and v comes to x: what is seen of the others, and of v if x shows it as before
made_keeps :
    {A B : Type 0} (g : A → B) (f : ℕ → A) (n v : ℕ) (y x : A) → (v ≡ n → ⊥) → g x ≡ g (f v) → (u : ℕ) → (u ≡ n → ⊥)
    → g (put (put f n y) v x u) ≡ g (f u)
made_keeps g f n v y x nv e u nu =
    put_keeps g (put f n y) v x (e ∙ sym (ap g (put_other f n y v nv))) u ∙ ap g (put_other f n y u nu)

-- a make that does not split
makes_kept :
    {S : State} {v : ℕ} {c : Code} {ms : List ℕ} (k : Code) (ms' : List ℕ) (σ ρ φ : ℕ) → Shape S → Roads S → S.control v ≡ busy c ms
    → Roads (with_control (grown S v (draft k) σ ρ φ) (put (put S.control S.count (draft k)) v (busy c ms')))
unfolding tasks code_of waits is_draft live
makes_kept {S} {v} {c} {ms} k ms' σ ρ φ sh rs q =
    kept rs
    (λ x y. settled_same (λ a b. refl) (λ t. sym (task t)) (λ t a b i. sym (lives t a b (subst (λ l. In (link a b) l) (task t) i))))
    (λ x y. settled_same (λ a b. refl) task lives)
    (λ x y s. seen waits (sym (ap waits q)) y (λ e. true-false (rs.into x y s) (ap (λ (z : ℕ). waits (S.control z)) e ∙ ap waits new))
    ∙ rs.into x y s)
    (λ t d. subst (λ l. In d l) (task t))
    (λ u b.
    let ne : u ≡ S.count → ⊥ = λ e. draft_unbound (ap (put (put S.control S.count (draft k)) v (busy c ms')) e ∙ drafted) b in
    let code = seen code_of (sym (ap code_of q)) u ne in
    let drafts = seen is_draft (sym (ap is_draft q)) u ne in
    let same = put_other S.scope S.count σ u ne in (
      bound_back (λ k h i. at_item k (sym code ∙ h.0, h.1) (sym drafts ∙ i)) same (λ a b. subst (λ l. In (link a b) l) (task u)) b,
      same,
    ))
  where
    new : S.control S.count ≡ over
    new = sh.beyond S.count (omega arith)

    apart : v ≡ S.count → ⊥
    apart e = clash (let z = sym q ∙ ap S.control e ∙ new in cc)

    seen :
        {B : Type 0} (g : Control → B) → g (busy c ms') ≡ g (S.control v) → (u : ℕ) → (u ≡ S.count → ⊥)
        → g (put (put S.control S.count (draft k)) v (busy c ms') u) ≡ g (S.control u)
    seen g = made_keeps g S.control S.count v (draft k) (busy c ms') apart

    task : (u : ℕ) → tasks (put (put S.control S.count (draft k)) v (busy c ms') u) ≡ tasks (S.control u)
    task = puts_keep tasks S.control S.count v (draft k) (busy c ms') (sym (ap tasks new)) (sym (ap tasks q))

    lives : (t a b : ℕ) → In (link a b) (tasks_of S t) → live (put (put S.control S.count (draft k)) v (busy c ms') a) ≡ live (S.control a)
    lives t a b i = let lt = source_below t sh i in seen live (sym (ap live q)) a (λ e. absurd (omega (arith, lt)))

    drafted : put (put S.control S.count (draft k)) v (busy c ms') S.count ≡ draft k
    drafted =
        put_other (put S.control S.count (draft k)) v (busy c ms') S.count (λ e. apart (sym e))
        ∙ put_same S.control S.count (draft k)

-- every move leaves the roads
pub roads_kept : {v : ℕ} {S S' : State} {e : Event} → Shape S → Opened S → Roads S → Move S v e S' → Roads S'
unfolding done
roads_kept sh op rs (begins q f) = begins_kept sh rs q f
roads_kept sh op rs (performs q) = performs_kept rs q
roads_kept sh op rs (stops q) = stops_kept rs q
roads_kept {S = S} sh op rs (makes {ms = ms} {k = k} q w) = makes_kept k.code (ms ++ (S.count ∷ [])) _ _ _ sh rs q
roads_kept {S = S} sh op rs (splits {c = c} {ms = ms} q w) = splits_kept sh op rs q (splits_at S.setting c ms w)
roads_kept sh op rs (acts {d = link a b} q) =
    let D = acts_did sh q in
    acts_kept rs q D (λ u. refl) (λ u. refl) (λ x y. link_back sh D (λ x y. refl)) (λ x y. link_on sh D (λ x y. refl))
roads_kept sh op rs (acts {d = hand h} q) =
    let D = acts_did sh q in
    acts_kept rs q D (λ u. refl) (λ u. refl) (λ x y. hand_back sh D (λ x y. refl)) (λ x y. hand_on sh D (λ x y. refl))
roads_kept sh op rs (acts {d = free m} q) =
    let D = acts_did sh q in
    acts_kept rs q D (λ u. refl) (λ u. refl) (λ x y. plain_back (λ h p. clash cc) D (λ x y. refl))
    (λ x y. plain_on (λ h p. clash cc) (λ a b p. clash cc) D (λ x y. refl))
roads_kept sh op rs (acts {d = yield} q) =
    let D = acts_did sh q in
    acts_kept rs q D (λ u. refl) (λ u. refl) (λ x y. plain_back (λ h p. clash cc) D (λ x y. refl))
    (λ x y. plain_on (λ h p. clash cc) (λ a b p. clash cc) D (λ x y. refl))
