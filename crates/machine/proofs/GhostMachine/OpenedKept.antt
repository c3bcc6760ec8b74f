-- The futures that are open at each vertex are those of its place, and a move leaves it so. What is open at a vertex afterwards is one of
-- two things (`Opener`): what was open at a vertex whose code is this vertex's code now, or holds it; or the vertex has done a future,
-- which is then the nearest. A move shows this of each vertex, and that the first vertices of open futures stay as they are (`Openers`).
use Prim.Native.Nat.{ℕ, ◌<◌, ◌≤◌}
use mathlib.Core.Path.{◌≡◌, refl, sym, ◌∙◌, ap, subst}
use mathlib.Core.Bool.{Bool, true, false, cond}
use mathlib.Core.Logic.{⊎_elim}
use mathlib.Core.List.{List, [], ◌∷◌, ◌++◌}
use mathlib.Core.Option.{Option, some, some-injective, none-ne-some}
use native.Mathlib.Nat.{lt_of_not-le}
use native.Mathlib.Omega.{arith}
use Rattle.graph.proofs.TestLaws.{equal?}
use Rattle.program.specs.declared.Edition.{Edition}
use Rattle.program.specs.Encodings.{own_scope, made_1}
use Rattle.program.specs.Located.{Code, end_byte_at, job_at, fork_at, future_at, start_of, last}
use Rattle.program.proofs.LocatedLaws.{Laid, code_laid}
use Rattle.program.proofs.OpenLaws.{Opens}
use Rattle.machine.proofs.GhostMachine.Ghost.{Do, link, hand, free, yield, Control, draft, fresh, ready, busy, joining, over, Setting, State, Kid, kid, put}
use Rattle.machine.proofs.GhostMachine.Ghost.{fork_goes, goes, rest_of, awaiting, kids, onward, resumed, woken, freed, among, opens_behind, with_control, with_edges}
use Rattle.machine.proofs.GhostMachine.Ghost.{with_opens, with_ranks, grown, dropped, done, stirred, split, one_more, scope_for, todo_of}
use Rattle.machine.proofs.GhostMachine.Ghost.{resolved, behind_split, Event, Move, begins, performs, stops, makes, splits}
use Rattle.machine.proofs.GhostMachine.Ghost.{acts}
use Rattle.machine.proofs.GhostMachine.Invariant.{In, here, later, tasks, tasks_of, code_of, is_item, is_new, sits, Draft, Drafts, Shape}
use Rattle.machine.proofs.GhostMachine.Invariant.{HasItem, Ordered, bodies, Opened, Coded}
use Rattle.machine.proofs.GhostMachine.GhostLaws.{put_same, put_other, put_below, put_cases, clash, apart, draft_new, busy_old, freed_cases}
use Rattle.machine.proofs.GhostMachine.GhostLaws.{woken_cases, in_cases, in_none, parts_are, tasks-onward, tasks-resumed, resumed_cases, EachHand, each_hand, new_below}
use Rattle.machine.proofs.GhostMachine.GhostLaws.{Makes, finish_1, fork_1, fork_2, future_1, Splits, async_1, finish_2, fork_3, fork_yields, future_2}
use Rattle.machine.proofs.GhostMachine.GhostLaws.{force_1, makes_at, splits_at, coded_below, todo_future}
use Rattle.machine.proofs.GhostMachine.RoadLaws.{code_onward, code_resumed, done_keeps, busy_below, busy_code, busy-sits}
use Rattle.machine.proofs.GhostMachine.SplitLaws.{stirred_keeps}
use Rattle.machine.proofs.GhostMachine.ShapeStep.{onward_old}
use Rattle.machine.proofs.GhostMachine.ShapeMakes.{makes_item, splits_item, woken_in, hands_stand, with_own, with_kid, with_other}
use Rattle.machine.proofs.GhostMachine.Beginning.{beginning, beginning_control, beginning_code}

-- From the code c of a vertex to code d: what is open at c is open at d, and d stands there or behind, if it begins with an item.
record Onto (c d : Code) : Type 0 where
  opens : (env : List Code) → Opens env c → Opens env d
  item : is_item d ≡ true → is_item c ≡ true
  behind : is_item d ≡ true → start_of c ≤ start_of d

-- there is code here that leads to d
abbrev Led : Option Code → Code → Type 0
Led x d = (c : Code) × (x ≡ some c) × Onto c d

-- u has done a future, whose first vertex is m and whose body is b; u had the code c and goes on with r
record Opening (S S' : State) (u m : ℕ) (b c r : Code) : Type 0 where
  before : u < S.count
  opens_are : S'.opens u ≡ (m, b) ∷ S.opens u
  not_root : 0 < m
  there : m < S.count
  sitting : sits (S'.control m) ≡ true
  unhanded : (t : ℕ) → In (hand m) (tasks_of S' t) → ⊥
  next_out : S'.opens m ≡ S.opens u
  was : HasItem S u c
  goes_on : code_of (S'.control u) ≡ some r
  scoped : (env : List Code) → Opens env c → Opens (b ∷ env) r
  fin_before : S'.fin m ≤ start_of r
  behind : start_of c ≤ start_of r

-- What is open at u in S'.
data Opener (S S' : State) (u : ℕ) : Type 0 where
  -- what was open at w
  like :
      (w : ℕ) → (u < S'.count → w < S.count) → S'.opens u ≡ S.opens w
      → ((d : Code) → code_of (S'.control u) ≡ some d → Led (code_of (S.control w)) d) → Opener S S' u
  -- a future more
  opening : (m : ℕ) (b c r : Code) → Opening S S' u m b c r → Opener S S' u

-- A move from S to S'.
record Openers (S S' : State) : Type 0 where
  counts : S.count ≤ S'.count
  old : is_new (S'.control 0) ≡ false
  fin_same : (t : ℕ) → t < S.count → S'.fin t ≡ S.fin t
  -- what sits does so afterwards, what is open there is as before, and no edges are handed on to it that were not to be
  sitting : (t : ℕ) → t < S.count → sits (S.control t) ≡ true → sits (S'.control t) ≡ true
  opens_same : (t : ℕ) → t < S.count → sits (S.control t) ≡ true → S'.opens t ≡ S.opens t
  unhanded :
      (t : ℕ) → t < S.count → sits (S.control t) ≡ true → ((u : ℕ) → In (hand t) (tasks_of S u) → ⊥) → (u : ℕ)
      → In (hand t) (tasks_of S' u) → ⊥
  each : (u : ℕ) → Opener S S' u

-- such a move leaves at each vertex the futures that are open at its place
opened_step : {S S' : State} → Shape S → Opened S → Openers S S' → Opened S'
unfolding bodies
opened_step {S} {S'} sh op st =
    record {
      root = st.old;
      there = λ v t b lt i. there v t b lt i (st.each v);
      unhanded = λ v t u b lt i. unhanded v t u b lt i (st.each v);
      next_out = λ v t b fs lt e. next_out v t b fs lt e (st.each v);
      scoped = λ v c h. scoped v c h (st.each v);
      before = λ v t b c i h. before v t b c i h (st.each v);
    }
  where
    there :
        (v t : ℕ) (b : Code) → v < S'.count → In (t, b) (S'.opens v) → Opener S S' v
        → (0 < t) × (t < S'.count) × (sits (S'.control t) ≡ true)
    there v t b lt i (like w lt' e led) =
        let (z, l, h) = op.there w t b (lt' lt) (subst (λ fs. In (t, b) fs) e i) in
        (z, omega (arith, l, st.counts), st.sitting t l h)
    there v t b lt i (opening m b' c r o) =
        in_cases (subst (λ fs. In (t, b) fs) o.opens_are i)
        (λ e.
        subst (λ w. (0 < w) × (w < S'.count) × (sits (S'.control w) ≡ true)) (sym (ap (λ f. f.0) e))
        (o.not_root, omega (arith, o.there, st.counts), o.sitting))
        (λ j. let (z, l, h) = op.there v t b o.before j in (z, omega (arith, l, st.counts), st.sitting t l h))

    unhanded : (v t u : ℕ) (b : Code) → v < S'.count → In (t, b) (S'.opens v) → Opener S S' v → In (hand t) (tasks_of S' u) → ⊥
    unhanded v t u b lt i (like w lt' e led) =
        let j = subst (λ fs. In (t, b) fs) e i in
        let (z, l, h) = op.there w t b (lt' lt) j in
        st.unhanded t l h (λ x. op.unhanded w t x b (lt' lt) j) u
    unhanded v t u b lt i (opening m b' c r o) =
        in_cases (subst (λ fs. In (t, b) fs) o.opens_are i)
        (λ e. subst (λ w. In (hand w) (tasks_of S' u) → ⊥) (sym (ap (λ f. f.0) e)) (o.unhanded u))
        (λ j.
        let (z, l, h) = op.there v t b o.before j in st.unhanded t l h (λ x. op.unhanded v t x b o.before j) u)

    next_out :
        (v t : ℕ) (b : Code) (fs : List (ℕ × Code)) → v < S'.count → S'.opens v ≡ (t, b) ∷ fs → Opener S S' v → S'.opens t ≡ fs
    next_out v t b fs lt q (like w lt' e led) =
        let at : S.opens w ≡ (t, b) ∷ fs = sym e ∙ q in
        let (z, l, h) = op.there w t b (lt' lt) (subst (λ fs. In (t, b) fs) (sym at) here) in
        st.opens_same t l h ∙ op.next_out w t b fs (lt' lt) at
    next_out v t b fs lt q (opening m b' c r o) =
        let (e, e') = parts_are (sym o.opens_are ∙ q) in
        ap S'.opens (sym (ap (λ f. f.0) e)) ∙ o.next_out ∙ e'

    scoped : (v : ℕ) (c : Code) → code_of (S'.control v) ≡ some c → Opener S S' v → Opens (bodies (S'.opens v)) c
    scoped v d h (like w lt e led) =
        let (c, q, onto) = led d h in
        subst (λ fs. Opens (bodies fs) d) (sym e) (onto.opens (bodies (S.opens w)) (op.scoped w c q))
    scoped v d h (opening m b c r o) =
        subst (λ fs. Opens (bodies fs) d) (sym o.opens_are)
        (subst (λ (x : Code). Opens (b ∷ bodies (S.opens v)) x) (some-injective r d (sym o.goes_on ∙ h))
        (o.scoped (bodies (S.opens v)) (op.scoped v c o.was.0)))

    before : (v t : ℕ) (b c : Code) → In (t, b) (S'.opens v) → HasItem S' v c → Opener S S' v → S'.fin t ≤ start_of c
    before v t b d i h (like w lt e led) =
        let j = subst (λ fs. In (t, b) fs) e i in
        let (c, q, onto) = led d h.0 in
        let l = (op.there w t b (coded_below sh w q) j).1 in
        let le = op.before w t b c j (q, onto.item h.1) in
        omega (arith, st.fin_same t l, le, onto.behind h.1)
    before v t b d i h (opening m b' c r o) =
        subst (λ (x : Code). S'.fin t ≤ start_of x) (some-injective r d (sym o.goes_on ∙ h.0))
        (in_cases (subst (λ fs. In (t, b) fs) o.opens_are i)
        (λ e. subst (λ w. S'.fin w ≤ start_of r) (sym (ap (λ f. f.0) e)) o.fin_before)
        (λ j.
        let l = (op.there v t b o.before j).1 in
        let le = op.before v t b c j o.was in
        omega (arith, st.fin_same t l, le, o.behind)))

-- code leads to itself, to an end byte, and to code that the same futures are open at, there or behind
onto_same : (c : Code) → Onto c c
onto_same c = record { opens = λ env h. h; item = λ h. h; behind = λ h. omega arith }

onto_end : (c : Code) (o : ℕ) → Onto c (end_byte_at o)
unfolding Opens is_item
onto_end c o = record { opens = λ env h. tt; item = λ h. clash (sym h); behind = λ h. clash (sym h) }

onto : {c d : Code} → is_item c ≡ true → start_of c ≤ start_of d → ((env : List Code) → Opens env c → Opens env d) → Onto c d
onto i le f = record { opens = f; item = λ h. i; behind = λ h. le }

-- to code that is there already, and to this code
led_same : {x y : Option Code} → y ≡ x → (d : Code) → y ≡ some d → Led x d
led_same e d h = (d, sym e ∙ h, onto_same d)

led_to : {x y : Option Code} {c k : Code} → x ≡ some c → y ≡ some k → Onto c k → (d : Code) → y ≡ some d → Led x d
led_to {c = c} {k} h e o d q = (c, h, subst (λ (x : Code). Onto c x) (some-injective k d (sym e ∙ q)) o)

-- No vertex is made: v comes to y, and the others to what g says, where these are seen as before.
opened_turn :
    {S : State} (v : ℕ) (g : ℕ → Control) (y : Control) (e : ℕ → ℕ → Bool) → Shape S → Opened S
    → ((u : ℕ) → is_new (S.control u) ≡ false → is_new (g u) ≡ false) → ((u : ℕ) → sits (g u) ≡ sits (S.control u))
    → ((u : ℕ) → tasks (g u) ≡ tasks_of S u) → ((u : ℕ) → code_of (g u) ≡ code_of (S.control u)) → is_new y ≡ false
    → (sits (S.control v) ≡ true → sits y ≡ true) → ((h : ℕ) → In (hand h) (tasks y) → In (hand h) (tasks_of S v))
    → ((d : Code) → code_of y ≡ some d → Led (code_of (S.control v)) d) → Opened (with_edges (with_control S (put g v y)) e)
opened_turn {S} v g y e sh op olds sit left codes old sat hands led =
    opened_step sh op
    (record {
      counts = omega arith;
      old = put_cases (λ x. is_new x ≡ false) g v y 0 (λ q. old) (λ n. olds 0 op.root);
      fin_same = λ t l. refl;
      sitting =
          λ t l h.
          put_cases (λ x. sits x ≡ true) g v y t (λ q. sat (ap (λ w. sits (S.control w)) (sym q) ∙ h)) (λ n. sit t ∙ h);
      opens_same = λ t l h. refl;
      unhanded =
          λ t l h none u.
          put_cases (λ x. In (hand t) (tasks x) → ⊥) g v y u
          (λ q i. none v (hands t i))
          (λ n i. none u (subst (λ ds. In (hand t) ds) (left u) i));
      each =
          λ u.
          like u (λ l. l) refl
          (put_cases (λ x. (d : Code) → code_of x ≡ some d → Led (code_of (S.control u)) d) g v y u
          (λ q. subst (λ w. (d : Code) → code_of y ≡ some d → Led (code_of (S.control w)) d) (sym q) led)
          (λ n. led_same (codes u)));
    })

-- v alone moves
opened_put :
    {S : State} (v : ℕ) (y : Control) (e : ℕ → ℕ → Bool) → Shape S → Opened S → is_new y ≡ false
    → (sits (S.control v) ≡ true → sits y ≡ true) → ((h : ℕ) → In (hand h) (tasks y) → In (hand h) (tasks_of S v))
    → ((d : Code) → code_of y ≡ some d → Led (code_of (S.control v)) d) → Opened (with_edges (with_control S (put S.control v y)) e)
opened_put {S} v y e sh op = opened_turn v S.control y e sh op (λ u h. h) (λ u. refl) (λ u. refl) (λ u. refl)

-- a start
opened_begins :
    {S : State} {v : ℕ} {c : Code} → Shape S → Opened S → S.control v ≡ ready c
    → Opened (with_control S (put S.control v (busy c [])))
unfolding is_new sits tasks code_of
opened_begins {S} {v} {c} sh op h =
    opened_put v (busy c []) S.edge sh op refl (λ z. cc z) (λ m i. in_none i) (led_same (sym (ap code_of h)))

-- a job
opened_performs :
    {S : State} {v o n : ℕ} {r : Code} → Laid (job_at o n r) → Shape S → Opened S → S.control v ≡ busy (job_at o n r) []
    → Opened (with_control S (put S.control v (busy r [])))
unfolding is_new sits is_item tasks code_of Laid Opens start_of
opened_performs {S} {v} {o} {n} {r} l sh op h =
    opened_put v (busy r []) S.edge sh op refl (λ z. clash (cc z)) (λ m i. in_none i)
    (led_to {k = r} (ap code_of h) refl (onto refl (omega (arith, l.0.starts)) (λ env q. q)))

-- a stop
opened_stops :
    {S : State} (v : ℕ) (e : ℕ → ℕ → Bool) → Shape S → Opened S
    → Opened (with_edges (with_control S (put S.control v over)) e)
unfolding is_new sits tasks code_of
opened_stops v e sh op =
    opened_put v over e sh op refl (λ z. refl) (λ m i. in_none i) (λ d h. absurd (none-ne-some d h))

-- what is not new is not new behind a joining command
done_old : (S : State) (v : ℕ) (d : Do) (u : ℕ) → is_new (S.control u) ≡ false → is_new ((done S v d).control u) ≡ false
unfolding done is_new
done_old S v (link a b) u o = o
done_old S v (hand h) u o = o
done_old S v yield u o = o
done_old S v (free m) u o =
    put_cases (λ x. is_new x ≡ false) S.control m (freed (S.control m)) u
    (λ e.
    freed_cases (λ x y. is_new x ≡ false → is_new y ≡ false) (λ x h. h) (λ c h. refl) (S.control m)
    (ap (λ w. is_new (S.control w)) (sym e) ∙ o))
    (λ n. o)

-- what is left to do of an item is done: controls and edges
opened_done :
    {S : State} (v : ℕ) {c : Code} (d : Do) {ds : List Do} (e : ℕ → ℕ → Bool) → Shape S → Opened S → S.control v ≡ joining c d ds
    → Opened (with_edges (with_control S (put (done S v d).control v (resumed c d ds))) e)
unfolding sits tasks code_of is_new
opened_done {S} v {c} d {ds} e sh op h =
    opened_turn v (done S v d).control (resumed c d ds) e sh op
    (done_old S v d)
    (done_keeps sits (λ c. refl) S v d)
    (done_keeps tasks (λ c. refl) S v d)
    (done_keeps code_of (λ c. refl) S v d)
    (resumed_cases (λ x. is_new x ≡ false) c refl (λ d ds. refl) refl d ds)
    (λ z. clash (cc z))
    (λ m i. subst (λ x. In (hand m) (tasks x)) (sym h) (later (subst (λ es. In (hand m) es) (tasks-resumed c d ds (subst (λ x. Ordered (tasks x)) h (sh.todo_fits v).ordered)) i)))
    (led_same (code_resumed c d ds ∙ sym (ap code_of h)))

-- and the rest is as it was
opened_acts :
    {S : State} (v : ℕ) {c : Code} (d : Do) {ds : List Do} → Shape S → Opened S → S.control v ≡ joining c d ds
    → Opened (with_control (done S v d) (put (done S v d).control v (resumed c d ds)))
unfolding done
opened_acts {S} v (link a b) sh op h = opened_done v (link a b) (done S v (link a b)).edge sh op h
opened_acts {S} v (hand m) sh op h = opened_done v (hand m) (done S v (hand m)).edge sh op h
opened_acts {S} v (free m) sh op h = opened_done v (free m) S.edge sh op h
opened_acts {S} v yield sh op h = opened_done v yield S.edge sh op h

-- One vertex more, at n, made by v, whose item c is under way: v comes to x, the new one to y, the others to what g says, where these are
-- seen as before; opened tells what is open.
module _
    {S : State} (v : ℕ) (g : ℕ → Control) (y x : Control) (σ low high : ℕ) (opened : ℕ → List (ℕ × Code)) (ranks : ℕ → ℕ) {c : Code}
    {ms : List ℕ}
    (sh : Shape S) (op : Opened S) (under_way : S.control v ≡ busy c ms) (item : is_item c ≡ true)
    (olds : (u : ℕ) → is_new (S.control u) ≡ false → is_new (g u) ≡ false)
    (sit : (u : ℕ) → sits (S.control u) ≡ true → sits (g u) ≡ true) (left : (u : ℕ) → tasks (g u) ≡ tasks_of S u)
    (codes : (u : ℕ) → code_of (g u) ≡ code_of (S.control u)) (old : is_new x ≡ false) (idle : tasks y ≡ [])
    (led : (d : Code) → code_of y ≡ some d → Led (code_of (S.control v)) d)
    (same : (u : ℕ) → (u ≡ v → ⊥) → (u ≡ S.count → ⊥) → opened u ≡ S.opens u) (at_kid : opened S.count ≡ S.opens v)
    (hands : (h : ℕ) → In (hand h) (tasks x) → h < S.count → sits (S.control h) ≡ true → ⊥)
  where
    abbrev more_state : State
    more_state = with_ranks (with_opens (with_control (grown S v y σ low high) (put (put g S.count y) v x)) opened) ranks

    there : v < S.count
    there = busy_below sh v under_way

    -- what holds of v, of the new one and of the others, holds of all
    with_cases :
        (P : Control → Type 0) (u : ℕ) → (u ≡ v → P x) → (u ≡ S.count → P y) → ((u ≡ v → ⊥) → (u ≡ S.count → ⊥) → P (g u))
        → P (more_state.control u)
    with_cases P u at kid other =
        put_cases P (put g S.count y) v x u at (λ n. put_cases P g S.count y u kid (other n))

    -- what sits is not v
    not_v : {t : ℕ} → sits (S.control t) ≡ true → t ≡ v → ⊥
    not_v h = apart sits S.control h (busy-sits under_way item)

    -- the move keeps what is open if it does so at v
    opened_more : Opener S more_state v → Opened more_state
    opened_more own =
        opened_step sh op
        (record {
          counts = omega arith;
          old = with_cases (λ z. is_new z ≡ false) 0 (λ e. old) (λ e. absurd (omega (arith, there))) (λ n n'. olds 0 op.root);
          fin_same = put_below S.fin S.count high;
          sitting =
              λ t l h.
              with_cases (λ z. sits z ≡ true) t (λ e. absurd (not_v h e)) (λ e. absurd (omega arith)) (λ n n'. sit t h);
          opens_same = λ t l h. same t (not_v h) (λ e. absurd (omega arith));
          unhanded =
              λ t l h none u.
              with_cases (λ z. In (hand t) (tasks z) → ⊥) u
              (λ e i. hands t i l h)
              (λ e i. in_none (subst (λ ds. In (hand t) ds) idle i))
              (λ n n' i. none u (subst (λ ds. In (hand t) ds) (left u) i));
          each =
              λ u.
              ⊎_elim
              (λ e. subst (λ w. Opener S more_state w) (sym e) own)
              (λ n. ⊎_elim (λ e. subst (λ w. Opener S more_state w) (sym e) new) (λ n'. others u n n') (equal? u S.count))
              (equal? u v);
        })
      where
        new : Opener S more_state S.count
        new =
            like v (λ l. there) at_kid
            (subst (λ z. (d : Code) → code_of z ≡ some d → Led (code_of (S.control v)) d) (sym (with_kid S v g y x there)) led)

        others : (u : ℕ) → (u ≡ v → ⊥) → (u ≡ S.count → ⊥) → Opener S more_state u
        others u n n' =
            like u (λ l. omega arith) (same u n n') (led_same (ap code_of (with_other S v g y x u n n') ∙ codes u))

-- code that is right inside an item: what the item makes
makes_onto : {Γ : Setting} {c : Code} {ms : List ℕ} {k : Kid} → Laid c → Makes Γ c ms k → Onto c k.code
unfolding Laid Opens start_of is_item
makes_onto l finish_1 = onto refl (omega (arith, l.0.starts, l.0.body, l.0.ends)) (λ env h. h.1)
makes_onto l fork_1 = onto refl (omega (arith, l.0.starts)) (λ env h. h.0)
makes_onto l (fork_2 _) = onto refl (omega (arith, l.0.starts, l.0.left, l.0.between)) (λ env h. h.1.0)
makes_onto {Γ} {c} l future_1 = onto_end c Γ.last_byte

splits_onto : {ed : Edition} {c : Code} {ms : List ℕ} {k : Kid} → Laid c → Splits ed c ms k → Onto c k.code
unfolding Laid Opens start_of is_item
splits_onto l async_1 = onto refl (omega (arith, l.0.starts)) (λ env h. h.0)
splits_onto l finish_2 = onto refl (omega (arith, l.0.starts)) (λ env h. h.0)
splits_onto l (fork_3 _) =
    onto refl (omega (arith, l.0.starts, l.0.left, l.0.between, l.0.right, l.0.ends)) (λ env h. h.1.1)
splits_onto l (fork_yields _) = onto refl (omega (arith, l.0.starts, l.0.left, l.0.between)) (λ env h. h.1.0)
splits_onto l future_2 = onto refl (omega (arith, l.0.starts)) (λ env h. h.0)
splits_onto l force_1 = onto refl (omega (arith, l.0.starts)) (λ env h. h.1)

-- a vertex is made that is not its item's last one
opened_makes :
    {S : State} {v : ℕ} {c : Code} {ms : List ℕ} {k : Kid} → Laid c → Shape S → Opened S → S.control v ≡ busy c ms
    → Makes S.setting c ms k → Opened (one_more S v ms (busy c (ms ++ (S.count ∷ []))) k)
unfolding is_new tasks code_of
opened_makes {S} {v} {c} {ms} {k} l sh op h mk =
    opened_more v S.control (draft k.code) x (scope_for S v ms k) k.low k.high (put S.opens S.count (S.opens v))
    (put S.rank S.count k.low) sh op h (makes_item mk) (λ u o. o) (λ u z. z) (λ u. refl) (λ u. refl) refl refl
    (led_to {k = k.code} (busy_code h) refl (makes_onto l mk))
    (λ u n n'. put_other S.opens S.count (S.opens v) u n')
    (put_same S.opens S.count (S.opens v))
    (λ u i. in_none i)
    (like v (λ l. there) (put_below S.opens S.count (S.opens v) v there)
    (led_same (ap code_of (with_own S v S.control (draft k.code) x) ∙ sym (busy_code h))))
  where
    x : Control
    x = busy c (ms ++ (S.count ∷ []))

    there : v < S.count
    there = busy_below sh v h

-- what is seen of vertices of which some are drafts no more
stirred_cases :
    (P : Control → Control → Type 0) → ((x : Control) → P x x) → ((c : Code) → P (draft c) (fresh c)) → (f : ℕ → Control) (ms : List ℕ)
    (u : ℕ) → P (f u) (stirred f ms u)
stirred_cases P same wakes f ms u = go (among u ms)
  where
    go : (b : Bool) → P (f u) (cond b (woken (f u)) (f u))
    go true = woken_cases P same wakes (f u)
    go false = same (f u)

stirred_old : (f : ℕ → Control) (ms : List ℕ) (u : ℕ) → is_new (f u) ≡ false → is_new (stirred f ms u) ≡ false
unfolding is_new
stirred_old = stirred_cases (λ x y. is_new x ≡ false → is_new y ≡ false) (λ x h. h) (λ c h. h)

stirred-sits : (f : ℕ → Control) (ms : List ℕ) (u : ℕ) → sits (f u) ≡ true → sits (stirred f ms u) ≡ true
unfolding sits
stirred-sits = stirred_cases (λ x y. sits x ≡ true → sits y ≡ true) (λ x h. h) (λ c h. clash (sym h))

-- an item's last vertex is made, where what is open at v then is given
opened_split :
    {S : State} {v : ℕ} {c : Code} {ms : List ℕ} {k : Kid} (fs : List (ℕ × Code)) (ρ : ℕ) → Laid c → Shape S → Opened S
    → S.control v ≡ busy c ms → Splits S.setting.edition c ms k
    → Opener S (split S v ms (behind_split S v (ms ++ (S.count ∷ [])) c) fs ρ k) v
    → Opened (split S v ms (behind_split S v (ms ++ (S.count ∷ [])) c) fs ρ k)
unfolding tasks code_of
opened_split {S} {v} {c} {ms} {k} fs ρ l sh op h sp own =
    opened_more v (stirred S.control ms) (fresh k.code) (onward (goes S.setting c) ds) (scope_for S v ms k) k.low k.high
    (put before v fs) (put (put S.rank S.count k.low) v ρ) sh op h (splits_item sp)
    (stirred_old S.control ms)
    (stirred-sits S.control ms)
    (stirred_keeps tasks (λ c. refl) S.control ms)
    (stirred_keeps code_of (λ c. refl) S.control ms)
    (onward_old (goes S.setting c) ds) refl
    (led_to {k = k.code} (busy_code h) refl (splits_onto l sp))
    (λ u n n'. put_other before v fs u n ∙ put_other S.opens S.count (S.opens v) u n')
    (put_other before v fs S.count (λ e. absurd (omega (arith, busy_below sh v h))) ∙ put_same S.opens S.count (S.opens v))
    (λ u i. hands_stand sh h sp u (subst (λ es. In (hand u) es) (tasks-onward (goes S.setting c) ds) i))
    own
  where
    ds : List Do
    ds = todo_of S v (ms ++ (S.count ∷ [])) c

    before : ℕ → List (ℕ × Code)
    before = put S.opens S.count (S.opens v)

-- what is open at v behind an item that is no future
split_like :
    {S : State} {v : ℕ} {c : Code} {ms : List ℕ} (k : Kid) (fs : List (ℕ × Code)) (ρ : ℕ) (ds : List Do) → Shape S
    → S.control v ≡ busy c ms → fs ≡ S.opens v → Onto c (goes S.setting c)
    → Opener S (split S v ms (onward (goes S.setting c) ds) fs ρ k) v
split_like {S} {v} {c} {ms} k fs ρ ds sh h e o =
    like v (λ l. busy_below sh v h) (put_same (put S.opens S.count (S.opens v)) v fs ∙ e)
    (led_to {k = goes S.setting c} (busy_code h)
    (ap code_of (with_own S v (stirred S.control ms) (fresh k.code) (onward (goes S.setting c) ds))
    ∙ code_onward (goes S.setting c) ds)
    o)

-- and behind a future, whose first vertex is m
split_opening :
    {S : State} {v o m : ℕ} {b r : Code} (ρ : ℕ) → Laid (future_at o b r) → Shape S → Opened S → S.control v ≡ busy (future_at o b r) (m ∷ [])
    → Opening S
    (split S v (m ∷ []) (behind_split S v (m ∷ S.count ∷ []) (future_at o b r)) ((m, b) ∷ S.opens v) ρ (kid b made_1)) v m b
    (future_at o b r) r
unfolding Laid Drafts kids goes is_item start_of sits Opens resolved EachHand tasks
split_opening {S} {v} {o} {m} {b} {r} ρ l sh op h =
    record {
      before = there;
      opens_are = put_same (put S.opens S.count (S.opens v)) v fs;
      not_root =
          lt_of_not-le (λ le. apart is_new S.control (draft_new d.is_draft) op.root (let z : m ≡ 0 = omega arith in z));
      there = lm;
      sitting = ap sits (with_other S v g (fresh b) x m not_v not_new ∙ woken_in S here d.is_draft);
      unhanded =
          λ t.
          put_cases (λ y. In (hand m) (tasks y) → ⊥) (put g S.count (fresh b)) v x t
          (λ e i.
          each_hand (λ w. ⊥) (link S.count m ∷ free m ∷ free S.count ∷ []) tt
          (subst (λ es. In (hand m) es) (tasks-onward r _ ∙ todo_future _ o b r v (S.scope v) _ m S.count) i))
          (λ n.
          put_cases (λ y. In (hand m) (tasks y) → ⊥) g S.count (fresh b) t
          (λ e i. in_none i)
          (λ n' i. handed t (subst (λ es. In (hand m) es) (stirred_keeps tasks (λ c. refl) S.control (m ∷ []) t) i)));
      next_out =
          put_other (put S.opens S.count (S.opens v)) v fs m not_v
          ∙ put_other S.opens S.count (S.opens v) m not_new
          ∙ d.opens_are;
      was = (busy_code h, refl);
      goes_on = ap code_of (with_own S v g (fresh b) x) ∙ code_onward r _;
      scoped = λ env q. q.1;
      fin_before = omega (arith, put_below S.fin S.count (last b) m lm, d.fin_is);
      behind = omega (arith, l.0.starts, l.0.body, l.0.ends);
    }
  where
    fs : List (ℕ × Code)
    fs = (m, b) ∷ S.opens v

    x : Control
    x = behind_split S v (m ∷ S.count ∷ []) (future_at o b r)

    S' : State
    S' = split S v (m ∷ []) x fs ρ (kid b made_1)

    g : ℕ → Control
    g = stirred S.control (m ∷ [])

    there : v < S.count
    there = busy_below sh v h

    d : Draft S v (m ∷ []) m (awaiting S.setting.last_byte r)
    d = (sh.under_way v _ _ h).0.0

    lm : m < S.count
    lm = new_below sh m (draft_new d.is_draft)

    not_v : m ≡ v → ⊥
    not_v = apart is_new S.control (draft_new d.is_draft) (busy_old h)

    not_new : m ≡ S.count → ⊥
    not_new e = absurd (omega (arith, lm))

    handed : (t : ℕ) → In (hand m) (tasks_of S t) → ⊥
    handed t i = let f = ((sh.todo_fits t).frees m ((sh.todo_fits t).hand_to m i)).0.1 in clash (cc d.is_draft)

-- an item's last vertex is made
opened_splits :
    {S : State} {v : ℕ} {c : Code} {ms : List ℕ} {k : Kid} (ρ : ℕ) → Laid c → Shape S → Opened S → S.control v ≡ busy c ms
    → Splits S.setting.edition c ms k
    → Opened
    (split S v ms (behind_split S v (ms ++ (S.count ∷ [])) c) (opens_behind (S.opens v) (ms ++ (S.count ∷ [])) c) ρ k)
unfolding Laid Opens start_of is_item goes fork_goes opens_behind
opened_splits ρ l sh op h (async_1 {b = b}) =
    opened_split _ ρ l sh op h async_1
    (split_like (kid b own_scope) _ ρ _ sh h refl (onto refl (omega (arith, l.0.starts, l.0.body, l.0.ends)) (λ env q. q.1)))
opened_splits ρ l sh op h (finish_2 {b = b}) =
    opened_split _ ρ l sh op h finish_2 (split_like (kid b made_1) _ ρ _ sh h refl (onto_end _ _))
opened_splits {S} ρ l sh op h (fork_3 {o = o} {b = b} {c = c} {r = r} e) =
    opened_split _ ρ l sh op h (fork_3 e)
    (split_like (kid r own_scope) _ ρ _ sh h refl
    (subst (λ ed. Onto (fork_at o b c r) (fork_goes ed S.setting.last_byte r)) (sym e) (onto_end _ _)))
opened_splits {S} ρ l sh op h (fork_yields {o = o} {b = b} {c = c} {r = r} e) =
    opened_split _ ρ l sh op h (fork_yields e)
    (split_like (kid c own_scope) _ ρ _ sh h refl
    (subst (λ ed. Onto (fork_at o b c r) (fork_goes ed S.setting.last_byte r)) (sym e)
    (onto refl (omega (arith, l.0.starts, l.0.left, l.0.between, l.0.right, l.0.ends)) (λ env q. q.1.1))))
opened_splits ρ l sh op h (future_2 {m = m} {b = b} {r = r}) =
    opened_split _ ρ l sh op h future_2 (opening m b _ r (split_opening ρ l sh op h))
opened_splits ρ l sh op h (force_1 {r = r}) =
    opened_split _ ρ l sh op h force_1 (split_like (kid r own_scope) _ ρ _ sh h refl (onto_end _ _))

-- Every move leaves at each vertex the futures that are open at its place.
pub opened_kept :
    {v : ℕ} {S S' : State} {e : Event} (p : Code) → Laid p → Shape S → Coded p S → Opened S → Move S v e S' → Opened S'
opened_kept p l sh co op (begins h none) = opened_begins sh op h
opened_kept {v} p l sh co op (performs h) = opened_performs (code_laid p _ l (co v _ (busy_code h))) sh op h
opened_kept {v} {S} p l sh co op (stops h) = opened_stops v (dropped S.edge v) sh op
opened_kept {v} {S} p l sh co op (makes {c = c} {ms = ms} h d) =
    opened_makes (code_laid p _ l (co v _ (busy_code h))) sh op h (makes_at S.setting c ms d)
opened_kept {v} {S} p l sh co op (splits {c = c} {ms = ms} h d) =
    opened_splits (start_of (rest_of c)) (code_laid p _ l (co v _ (busy_code h))) sh op h (splits_at S.setting c ms d)
opened_kept {v} p l sh co op (acts {d = d} h) = opened_acts v d sh op h

-- None is open at the beginning.
pub opened_beginning : (p : Code) (Γ : Setting) → Opens [] p → Opened (beginning p Γ)
unfolding beginning is_new bodies Opens
opened_beginning p Γ h =
    record {
      root = beginning_control p Γ (λ x. is_new x ≡ false) 0 (λ e. refl) (λ e. refl) (λ n n'. refl);
      there = λ v t b lt i. in_none i;
      unhanded = λ v t u b lt i. in_none i;
      next_out = λ v t b fs lt e. clash cc;
      scoped =
          λ v c q.
          beginning_code p Γ v q
          (λ e e'. subst (λ (c : Code). Opens [] c) e' h)
          (λ e e'. subst (λ (c : Code). Opens [] c) e' tt);
      before = λ v t b c i. in_none i;
    }
