-- The order of jobs under the moves that split nothing. Each vertex that holds an item afterwards held it before, in code of which at most
-- the first job was answered, with the same scope and the same ways (`Carried`); and a job that is still to be answered is not the one that
-- is answered now. So each vertex waits for what it waited for, and so does the first vertex of a future.
use Prim.Native.Nat.{ℕ, ◌<◌}
use mathlib.Core.Path.{◌≡◌, refl, sym, ◌∙◌, ap, subst}
use mathlib.Core.Bool.{true}
use mathlib.Core.Logic.{inl, inr, ⊎_elim}
use mathlib.Core.List.{List, []}
use mathlib.Core.Option.{some, none-ne-some}
use native.Mathlib.Omega.{arith}
use Rattle.graph.proofs.TestLaws.{equal?, true-false}
use Rattle.program.specs.Located.{Code, end_byte_at, job_at}
use Rattle.program.proofs.LocatedLaws.{Laid}
use Rattle.machine.proofs.GhostMachine.Ghost.{Do, link, Control, draft, ready, busy, joining, over, State, Kid, put, resumed, done, with_control}
use Rattle.machine.proofs.GhostMachine.Ghost.{with_edges, one_more, dropped, live}
use Rattle.machine.proofs.GhostMachine.Invariant.{In, tasks, is_item, Settled, Way, Shape, Roads, Coded}
use Rattle.machine.proofs.GhostMachine.GhostLaws.{put_same, put_other, put_cases, put_keeps, puts_keep}
use Rattle.machine.proofs.GhostMachine.RoadLaws.{busy-waits, busy_below}
use Rattle.machine.proofs.GhostMachine.SettledLaws.{acts_keeps, settled_same, stop_back, stop_on, source_below}
use Rattle.machine.proofs.GhostMachine.Ways.{way_map, way_past, nothing_to}
use Rattle.machine.proofs.JobOrder.Order.{Job, InA, InS, Pre, holds, Held, held, Waits, for_way, for_scope, for_scopes_way, Orders}
use Rattle.machine.proofs.JobOrder.OrderLaws.{job_item, ina_item, ins_item}
use Rattle.machine.proofs.JobOrder.WaitLaws.{job_behind, job_own, holds_one, holds-resumed, held_laid, scope_led}
use Rattle.machine.proofs.JobOrder.WaitLaws.{busy-holds}

-- u, which holds c in S, holds as much of it in S' as concerns the job at p, and leads where it led
pub record Carried (S S' : State) (u : ℕ) (c : Code) (p : ℕ) : Type 0 where
  pub code : Code
  pub is_held : holds (S'.control u) ≡ some code
  pub scope_is : S'.scope u ≡ S.scope u
  pub jobs : Job c p → Job code p
  pub alls : InA c p → InA code p
  pub sums : InS c p → InS code p
  pub way : (w : ℕ) → Way (Settled S) u w → Way (Settled S') u w
  pub scope_way : (w : ℕ) → Way (Settled S) (S.scope u) w → Way (Settled S') (S.scope u) w

-- what v waits for of u, which holds c
pub data Share (S : State) (u : ℕ) (c : Code) (v p : ℕ) : Type 0 where
  by_way : Way (Settled S) u v → InS c p → Share S u c v p
  by_scope : S.scope u ≡ v → InA c p → Share S u c v p
  by_scopes_way : Way (Settled S) (S.scope u) v → InA c p → Share S u c v p

-- v waits for the shares of all
pub waits_share :
    {P : Type 0} {S : State} {v p : ℕ} → Waits S v p → ((u : ℕ) (c : Code) → holds (S.control u) ≡ some c → Share S u c v p → P) → P
waits_share (for_way u c h w i) f = f u c h (by_way w i)
waits_share (for_scope u c h e j) f = f u c h (by_scope e j)
waits_share (for_scopes_way u c h w j) f = f u c h (by_scopes_way w j)

-- a share is of code with an item
pub share_item : {S : State} {u : ℕ} {c : Code} {v p : ℕ} → Share S u c v p → is_item c ≡ true
share_item {c = c} {p = p} (by_way w i) = ins_item c p i
share_item {c = c} {p = p} (by_scope e j) = ina_item c p j
share_item {c = c} {p = p} (by_scopes_way w j) = ina_item c p j

-- what is carried over is waited for
pub carried_waits : {S S' : State} {u : ℕ} {c : Code} {v p : ℕ} → Carried S S' u c p → Share S u c v p → Waits S' v p
carried_waits {u = u} {v = v} C (by_way w i) = for_way u C.code C.is_held (C.way v w) (C.sums i)
carried_waits {u = u} C (by_scope e j) = for_scope u C.code C.is_held (C.scope_is ∙ e) (C.alls j)
carried_waits {S} {S'} {u = u} {v = v} C (by_scopes_way w j) =
    let there = C.scope_way v w in
    for_scopes_way u C.code C.is_held (subst (λ (z : ℕ). Way (Settled S') z v) (sym C.scope_is) there) (C.alls j)

-- a future that is open somewhere in S' is open somewhere in S
abbrev pub StaysOpen : State → State → ℕ → Code → Type 0
StaysOpen S S' t b = (w : ℕ) → w < S'.count → In (t, b) (S'.opens w) → (x : ℕ) × (x < S.count) × In (t, b) (S.opens x)

-- Code is carried over and back, and what stands before the jobs that are left is as before: the order is kept.
orders_carried :
    {m : Code} {S S' : State} → Orders m S
    → ((u p : ℕ) (c : Code) → holds (S.control u) ≡ some c → is_item c ≡ true → (x : ℕ) → Held S' x p → Carried S S' u c p)
    → ((u p : ℕ) (c : Code) → holds (S'.control u) ≡ some c → is_item c ≡ true → Carried S' S u c p)
    → ((u p q : ℕ) (c d : Code) → holds (S.control u) ≡ some c → holds (S'.control u) ≡ some d → Job d q → (x : ℕ) → Held S' x p
    → Pre c p q → Pre d p q)
    → ((u p q : ℕ) (c d : Code) → holds (S.control u) ≡ some c → holds (S'.control u) ≡ some d → Pre d p q → Pre c p q)
    → ((t : ℕ) (b : Code) → StaysOpen S S' t b) → Orders m S'
orders_carried {m} {S} {S'} os on back pre pre_back opened =
    record {
      alone = λ u v p h k. os.alone u v p (earlier h) (earlier k);
      only =
          λ v q c h j u p k a.
          let C = back v q c h (job_item c q j) in
          ⊎_elim
          (λ w. inl (waits_on k w))
          (λ f. inr (pre v p q C.code c C.is_held h j u k f))
          (os.only v q C.code C.is_held (C.jobs j) u p (earlier k) a);
      each =
          λ v q c h j u p k a.
          let C = back v q c h (job_item c q j) in
          os.each v q C.code C.is_held (C.jobs j) u p (earlier k)
          (⊎_elim
          (λ w. inl (waits_back w))
          (λ f. inr (pre_back v p q C.code c C.is_held h f))
          a);
      awaits = λ v t b l i u p k a. let (x, l', i') = opened t b v l i in waits_on k (os.awaits x t b l' i' u p (earlier k) a);
      awaited = λ v t b l i u p k w. let (x, l', i') = opened t b v l i in os.awaited x t b l' i' u p (earlier k) (waits_back w);
    }
  where
    earlier : {u p : ℕ} → Held S' u p → Held S u p
    earlier {u} {p} (held c h j) = let C = back u p c h (job_item c p j) in held C.code C.is_held (C.jobs j)

    waits_on : {x v p : ℕ} → Held S' x p → Waits S v p → Waits S' v p
    waits_on {x} {p = p} k w = waits_share w (λ u c h s. carried_waits (on u p c h (share_item s) x k) s)

    waits_back : {v p : ℕ} → Waits S' v p → Waits S v p
    waits_back {p = p} w = waits_share w (λ u c h s. carried_waits (back u p c h (share_item s)) s)

-- a vertex carried over as it is
carried_as :
    {S S' : State} {u : ℕ} {c : Code} (p : ℕ) → holds (S'.control u) ≡ some c → S'.scope u ≡ S.scope u
    → ((w : ℕ) → Way (Settled S) u w → Way (Settled S') u w) → ((w : ℕ) → Way (Settled S) (S.scope u) w → Way (Settled S') (S.scope u) w)
    → Carried S S' u c p
carried_as {c = c} p h e f g =
    record { code = c; is_held = h; scope_is = e; jobs = λ j. j; alls = λ i. i; sums = λ i. i; way = f; scope_way = g }

-- the same is held, with the same settled edges and the same scopes
pub orders_same :
    {m : Code} {S S' : State} → Orders m S → ((u : ℕ) → holds (S'.control u) ≡ holds (S.control u))
    → ((x y : ℕ) → Settled S' x y → Settled S x y) → ((x y : ℕ) → Settled S x y → Settled S' x y)
    → ((u : ℕ) (c : Code) → holds (S.control u) ≡ some c → S'.scope u ≡ S.scope u) → ((t : ℕ) (b : Code) → StaysOpen S S' t b)
    → Orders m S'
orders_same {m} {S} {S'} os e back on σ opened =
    orders_carried os
    (λ u p c h i x k. carried_as p (e u ∙ h) (σ u c h) (λ w. way_map on) (λ w. way_map on))
    (λ u p c h i. carried_as p (sym (e u) ∙ h) (sym (σ u c (sym (e u) ∙ h))) (λ w. way_map back) (λ w. way_map back))
    (λ u p q c d h k j x i f. subst (λ (z : Code). Pre z p q) (same u h k) f)
    (λ u p q c d h k f. subst (λ (z : Code). Pre z p q) (sym (same u h k)) f)
    opened
  where
    same : (u : ℕ) {c d : Code} → holds (S.control u) ≡ some c → holds (S'.control u) ≡ some d → c ≡ d
    same u h k = holds_one (S.control u) h (sym (e u) ∙ k)

-- a start
pub begins_orders :
    {m : Code} {S : State} {v : ℕ} {c : Code} → Orders m S → S.control v ≡ ready c
    → Orders m (with_control S (put S.control v (busy c [])))
unfolding holds tasks live
begins_orders {S = S} {v = v} {c = c} os q =
    orders_same os (kept holds (sym (ap holds q)))
    (λ x y. settled_same (λ a b. refl) (λ t. sym (task t)) (λ t a b i. sym (lives a)))
    (λ x y. settled_same (λ a b. refl) task (λ t a b i. lives a))
    (λ u c h. refl)
    (λ t b w l i. (w, l, i))
  where
    kept : {B : Type 0} (g : Control → B) → g (busy c []) ≡ g (S.control v) → (u : ℕ) → g (put S.control v (busy c []) u) ≡ g (S.control u)
    kept g = put_keeps g S.control v (busy c [])

    task : (u : ℕ) → tasks (put S.control v (busy c []) u) ≡ tasks (S.control u)
    task = kept tasks (sym (ap tasks q))

    lives : (u : ℕ) → live (put S.control v (busy c []) u) ≡ live (S.control u)
    lives = kept live (sym (ap live q))

-- a link, a hand-over, a release, a yield
pub acts_orders :
    {m : Code} {S S' : State} {v : ℕ} {c : Code} {d : Do} {ds : List Do} → Orders m S → S.control v ≡ joining c d ds
    → ((u : ℕ) → S'.control u ≡ put (done S v d).control v (resumed c d ds) u) → ((u : ℕ) → S'.scope u ≡ S.scope u)
    → ((x y : ℕ) → Settled S' x y → Settled S x y) → ((x y : ℕ) → Settled S x y → Settled S' x y)
    → ((t : ℕ) (b : Code) → StaysOpen S S' t b) → Orders m S'
unfolding holds
acts_orders {S = S} {v = v} {c = c} {d = d} {ds = ds} os q f σ back on opened =
    orders_same os (λ u. ap holds (f u) ∙ acts_keeps S v holds (λ c. refl) (holds-resumed c d ds) q u) back on (λ u c h. σ u) opened

-- a make that does not split: what is open at the new vertex is open at its maker
pub makes_orders :
    {m : Code} {S : State} {v : ℕ} {c : Code} {ms : List ℕ} (k : Kid) (ms' : List ℕ) → Shape S → Orders m S → S.control v ≡ busy c ms
    → Orders m (one_more S v ms (busy c ms') k)
unfolding holds tasks live
makes_orders {S = S} {v = v} {c = c} {ms = ms} k ms' sh os q =
    orders_same os
    (kept holds (sym (ap holds new)) (sym (ap holds q)))
    (λ x y. settled_same (λ a b. refl) (λ t. sym (task t)) (λ t a b i. sym (lives t a b (in_tasks (task t) i))))
    (λ x y. settled_same (λ a b. refl) task lives)
    (λ u c h.
    put_other S.scope n _ u
    (λ e. absurd (none-ne-some c (sym (ap holds new) ∙ ap (λ (z : ℕ). holds (S.control z)) (sym e) ∙ h))))
    opened
  where
    n : ℕ
    n = S.count

    x : Control
    x = draft k.code

    new : S.control n ≡ over
    new = sh.beyond n (omega arith)

    kept :
        {B : Type 0} (g : Control → B) → g x ≡ g (S.control n) → g (busy c ms') ≡ g (S.control v) → (u : ℕ)
        → g (put (put S.control n x) v (busy c ms') u) ≡ g (S.control u)
    kept g = puts_keep g S.control n v x (busy c ms')

    task : (u : ℕ) → tasks (put (put S.control n x) v (busy c ms') u) ≡ tasks (S.control u)
    task = kept tasks (sym (ap tasks new)) (sym (ap tasks q))

    in_tasks : {d : Do} {l l' : List Do} → l ≡ l' → In d l → In d l'
    in_tasks {d} e i = subst (λ l. In d l) e i

    lives : (t a b : ℕ) → In (link a b) (tasks (S.control t)) → live (put (put S.control n x) v (busy c ms') a) ≡ live (S.control a)
    lives t a b i =
        let lt = source_below t sh i in
        put_keeps live (put S.control n x) v (busy c ms')
        (sym (ap live (put_other S.control n x v (λ e. let lt = busy_below sh v q in absurd (omega arith)) ∙ q))) a
        ∙ ap live (put_other S.control n x a (λ e. absurd (omega arith)))

    opened : (t : ℕ) (b : Code) → StaysOpen S (one_more S v ms (busy c ms') k) t b
    opened t b w l i =
        ⊎_elim
        (λ e. (v, busy_below sh v q, subst (λ fs. In (t, b) fs) (ap (put S.opens n (S.opens v)) e ∙ put_same S.opens n (S.opens v)) i))
        (λ ne. (w, omega arith, subst (λ fs. In (t, b) fs) (put_other S.opens n (S.opens v) w ne) i))
        (equal? w n)

-- Code with its first job answered: the jobs that are left, and what stands before them.
rest_job : (o n p : ℕ) (r : Code) → (p ≡ o → ⊥) → Job (job_at o n r) p → Job r p
unfolding Job
rest_job o n p r ne = ⊎_elim (λ e. absurd (ne e)) (λ h. h)

job_rest : (o n p : ℕ) (r : Code) → Job r p → Job (job_at o n r) p
unfolding Job
job_rest o n p r h = inr h

rest_ina : (o n p : ℕ) (r : Code) → (p ≡ o → ⊥) → InA (job_at o n r) p → InA r p
unfolding InA
rest_ina o n p r ne = ⊎_elim (λ e. absurd (ne e)) (λ h. h)

ina_rest : (o n p : ℕ) (r : Code) → InA r p → InA (job_at o n r) p
unfolding InA
ina_rest o n p r h = inr h

rest_ins : (o n p : ℕ) (r : Code) → (p ≡ o → ⊥) → InS (job_at o n r) p → InS r p
unfolding InS
rest_ins o n p r ne = ⊎_elim (λ e. absurd (ne e)) (λ h. h)

ins_rest : (o n p : ℕ) (r : Code) → InS r p → InS (job_at o n r) p
unfolding InS
ins_rest o n p r h = inr h

rest_pre : (o n p q : ℕ) (r : Code) → (p ≡ o → ⊥) → Pre (job_at o n r) p q → Pre r p q
unfolding Pre
rest_pre o n p q r ne = ⊎_elim (λ h. absurd (ne h.0)) (λ h. h)

pre_rest : (o n p q : ℕ) (r : Code) → Pre r p q → Pre (job_at o n r) p q
unfolding Pre
pre_rest o n p q r h = inr h

-- a job: v alone held it, and has it no more
pub performs_orders :
    {m : Code} {S : State} {v o n : ℕ} {r : Code} → Laid m → Coded m S → Orders m S → S.control v ≡ busy (job_at o n r) []
    → Orders m (with_control S (put S.control v (busy r [])))
unfolding holds tasks live
performs_orders {m} {S} {v} {o} {n} {r} lm cd os q =
    orders_carried os
    (λ u p c h i x k. carry u p c h (gone x p k))
    (λ u p c h i. back u p c h)
    (λ u p q c d h h' j x k f.
    ⊎_elim
    (λ e.
    let f' = subst (λ (z : Code). Pre z p q) (at_v u c e h) f in
    subst (λ (z : Code). Pre z p q) (sym (now_v u d e h')) (rest_pre o n p q r (gone x p k) f'))
    (λ ne. subst (λ (z : Code). Pre z p q) (same u c d ne h h') f)
    (equal? u v))
    (λ u p q c d h h' f.
    ⊎_elim
    (λ e.
    let f' = subst (λ (z : Code). Pre z p q) (now_v u d e h') f in
    subst (λ (z : Code). Pre z p q) (sym (at_v u c e h)) (pre_rest o n p q r f'))
    (λ ne. subst (λ (z : Code). Pre z p q) (sym (same u c d ne h h')) f)
    (equal? u v))
    (λ t b w l i. (w, l, i))
  where
    S' : State
    S' = with_control S (put S.control v (busy r []))

    task : (u : ℕ) → tasks (put S.control v (busy r []) u) ≡ tasks (S.control u)
    task = put_keeps tasks S.control v (busy r []) (sym (ap tasks q))

    lives : (u : ℕ) → live (put S.control v (busy r []) u) ≡ live (S.control u)
    lives = put_keeps live S.control v (busy r []) (sym (ap live q))

    on : (x y : ℕ) → Settled S x y → Settled S' x y
    on x y = settled_same (λ a b. refl) task (λ t a b i. lives a)

    off : (x y : ℕ) → Settled S' x y → Settled S x y
    off x y = settled_same (λ a b. refl) (λ t. sym (task t)) (λ t a b i. sym (lives a))

    -- what v holds before and afterwards, and the others
    at_v : (u : ℕ) (c : Code) → u ≡ v → holds (S.control u) ≡ some c → c ≡ job_at o n r
    at_v u c e h = holds_one (S.control u) h (ap (λ (z : ℕ). holds (S.control z)) e ∙ busy-holds q)

    now : holds (put S.control v (busy r []) v) ≡ some r
    now = ap holds (put_same S.control v (busy r []))

    now_v : (u : ℕ) (d : Code) → u ≡ v → holds (S'.control u) ≡ some d → d ≡ r
    now_v u d e h = holds_one (S'.control u) h (ap (λ (z : ℕ). holds (S'.control z)) e ∙ now)

    other : (u : ℕ) → (u ≡ v → ⊥) → holds (S'.control u) ≡ holds (S.control u)
    other u ne = ap holds (put_other S.control v (busy r []) u ne)

    same : (u : ℕ) (c d : Code) → (u ≡ v → ⊥) → holds (S.control u) ≡ some c → holds (S'.control u) ≡ some d → c ≡ d
    same u c d ne h h' = holds_one (S.control u) h (sym (other u ne) ∙ h')

    back : (u p : ℕ) (c : Code) → holds (S'.control u) ≡ some c → Carried S' S u c p
    back u p c h =
        ⊎_elim
        (λ e.
        let d : c ≡ r = now_v u c e h in
        record {
          code = job_at o n r;
          is_held = ap (λ (z : ℕ). holds (S.control z)) e ∙ busy-holds q;
          scope_is = refl;
          jobs = λ j. job_rest o n p r (subst (λ (z : Code). Job z p) d j);
          alls = λ i. ina_rest o n p r (subst (λ (z : Code). InA z p) d i);
          sums = λ i. ins_rest o n p r (subst (λ (z : Code). InS z p) d i);
          way = λ w. way_map off;
          scope_way = λ w. way_map off;
        })
        (λ ne. carried_as p (sym (other u ne) ∙ h) refl (λ w. way_map off) (λ w. way_map off))
        (equal? u v)

    gone : (x p : ℕ) → Held S' x p → p ≡ o → ⊥
    gone x p (held c h j) e =
        let C = back x p c h in
        let own = held (job_at o n r) (busy-holds q) (subst (λ (z : ℕ). Job (job_at o n r) z) (sym e) (job_own o n r)) in
        let at : x ≡ v = os.alone x v p (held C.code C.is_held (C.jobs j)) own in
        job_behind o n r (held_laid m S v lm cd (busy-holds q))
        (subst (λ (z : ℕ). Job r z) e (subst (λ (z : Code). Job z p) (now_v x c at h) j))

    carry : (u p : ℕ) (c : Code) → holds (S.control u) ≡ some c → (p ≡ o → ⊥) → Carried S S' u c p
    carry u p c h ne =
        ⊎_elim
        (λ e.
        let d : c ≡ job_at o n r = at_v u c e h in
        record {
          code = r;
          is_held = ap (λ (z : ℕ). holds (S'.control z)) e ∙ now;
          scope_is = refl;
          jobs = λ j. rest_job o n p r ne (subst (λ (z : Code). Job z p) d j);
          alls = λ i. rest_ina o n p r ne (subst (λ (z : Code). InA z p) d i);
          sums = λ i. rest_ins o n p r ne (subst (λ (z : Code). InS z p) d i);
          way = λ w. way_map on;
          scope_way = λ w. way_map on;
        })
        (λ nv. carried_as p (other u nv ∙ h) refl (λ w. way_map on) (λ w. way_map on))
        (equal? u v)

-- a stop: v holds nothing, and no way passes it
pub stops_orders :
    {m : Code} {S : State} {v o : ℕ} → Roads S → Orders m S → S.control v ≡ busy (end_byte_at o) []
    → Orders m (with_edges (with_control S (put S.control v over)) (dropped S.edge v))
unfolding holds tasks is_item live
stops_orders {m} {S} {v} {o} rs os q =
    orders_carried os
    (λ u p c h i x k.
    let ne = busy_end u c h i in
    carried_as p (other u ne ∙ h) refl (λ w. past u w ne)
    (λ w. past (S.scope u) w (λ e. let (x, s) = scope_led u rs h i in empty x (subst (λ (z : ℕ). Settled S x z) e s))))
    (λ u p c h i. carried_as p (sym (other u (left u c h)) ∙ h) refl (λ w. way_map off) (λ w. way_map off))
    (λ u p q c d h h' j x k f. subst (λ (z : Code). Pre z p q) (same u h h') f)
    (λ u p q c d h h' f. subst (λ (z : Code). Pre z p q) (sym (same u h h')) f)
    (λ t b w l i. (w, l, i))
  where
    S' : State
    S' = with_edges (with_control S (put S.control v over)) (dropped S.edge v)

    task : (u : ℕ) → tasks (put S.control v over u) ≡ tasks (S.control u)
    task = put_keeps tasks S.control v over (sym (ap tasks q))

    -- no other vertex finishes
    lives : (u : ℕ) → (u ≡ v → ⊥) → live (put S.control v over u) ≡ live (S.control u)
    lives u ne = ap live (put_other S.control v over u ne)

    lived : (u : ℕ) → live (put S.control v over u) ≡ true → live (S.control u) ≡ true
    lived u = put_cases (λ x. live x ≡ true → live (S.control u) ≡ true) S.control v over u
        (λ e h. ap (λ (z : ℕ). live (S.control z)) e ∙ ap live q)
        (λ ne h. h)

    off : (x y : ℕ) → Settled S' x y → Settled S x y
    off x y = stop_back v (λ a b. refl) task lived

    empty : (x : ℕ) → Settled S x v → ⊥
    empty = nothing_to rs (busy-waits q)

    past : (u w : ℕ) → (u ≡ v → ⊥) → Way (Settled S) u w → Way (Settled S') u w
    past u w ne = way_past v (λ x y. stop_on v (λ a b. refl) task lives (ap tasks q)) empty ne

    other : (u : ℕ) → (u ≡ v → ⊥) → holds (S'.control u) ≡ holds (S.control u)
    other u ne = ap holds (put_other S.control v over u ne)

    busy_end : (u : ℕ) (c : Code) → holds (S.control u) ≡ some c → is_item c ≡ true → u ≡ v → ⊥
    busy_end u c h i e =
        let d : c ≡ end_byte_at o = holds_one (S.control u) h (ap (λ (z : ℕ). holds (S.control z)) e ∙ busy-holds q) in
        true-false i (ap is_item d)

    left : (u : ℕ) (c : Code) → holds (S'.control u) ≡ some c → u ≡ v → ⊥
    left u c h e =
        none-ne-some c (sym (ap (λ (z : ℕ). holds (S'.control z)) e ∙ ap holds (put_same S.control v over)) ∙ h)

    same : (u : ℕ) {c d : Code} → holds (S.control u) ≡ some c → holds (S'.control u) ≡ some d → c ≡ d
    same u {d = d} h h' = holds_one (S.control u) h (sym (other u (left u d h')) ∙ h')
