-- What a move of v must show for the shape to be kept. `Turn` says what can become of a vertex in a move: v itself moves, others stay as
-- they are, but for new ones that v made, which can be split off or released, and one that v makes now. So what other vertices have under
-- way and left to do is as it was (`Step`), and what the move has to show is about v alone. An edge that is still to be made may come from the
-- first vertex of an open future: it sits, and goes on sitting, and no edges are handed on to it. Edges stay as they are here: a move that
-- changes them too does so behind its step (`shape_edges`).
use Prim.Native.Nat.{ℕ, ◌<◌, ◌≤◌}
use mathlib.Core.Path.{◌≡◌, refl, sym, ◌∙◌, ap, subst}
use mathlib.Core.Bool.{Bool, true, false}
use mathlib.Core.Logic.{◌⊎◌, inl, inr, ⊎_elim}
use mathlib.Core.List.{List, [], ◌∷◌}
use native.Mathlib.Omega.{arith}
use Rattle.graph.proofs.TestLaws.{equal?, true-false, not_so}
use Rattle.program.specs.Located.{Code}
use Rattle.machine.proofs.GhostMachine.Ghost.{Do, link, hand, free, Control, draft, fresh, ready, busy, joining, over, State, Kid, kids}
use Rattle.machine.proofs.GhostMachine.Ghost.{resolved, onward, with_edges}
use Rattle.machine.proofs.GhostMachine.Invariant.{In, Precedes, Once, tasks, tasks_of, is_new, is_draft, sits, Draft, Drafts}
use Rattle.machine.proofs.GhostMachine.Invariant.{Ordered, Forces, Fits, Tasks, Shape}
use Rattle.machine.proofs.GhostMachine.GhostLaws.{clash, draft_new, fresh_new, ready_old, busy_old, onward_cases, below, new_below, doer_below}
use Rattle.machine.proofs.GhostMachine.GhostLaws.{apart, doer_old, one_freer, in_none}

-- the vertices that an item under way has made so far
unfoldable pub made_of : Control → List ℕ
made_of (draft c) = []
made_of (fresh c) = []
made_of (ready c) = []
made_of (busy c ms) = ms
made_of (joining c d ds) = []
made_of over = []

-- an item under way has made what its vertex says
pub made_busy : {x : Control} {c : Code} {ms : List ℕ} → x ≡ busy c ms → made_of x ≡ ms
unfolding made_of
made_busy h = cc

-- an item under way with no vertices has none to keep
pub none_made :
    (S : State) (v : ℕ) (c : Code) {ms : List ℕ} → ms ≡ [] → Drafts S v ms ms (kids S.setting c) × Once ms
unfolding Drafts Once
none_made S v c e = subst (λ ms. Drafts S v ms ms (kids S.setting c) × Once ms) (sym e) (tt, tt)

-- nothing left to do
pub fits_none : (S : State) (t : ℕ) → Fits S t []
unfolding Ordered Once
fits_none S t =
    record {
      ordered = tt;
      once = tt;
      frees = λ m i. in_none i;
      free_scope = λ m i. in_none i;
      link_from = λ a b i. in_none i;
      link_to = λ a b i. in_none i;
      link_new = λ a b i. in_none i;
      hand_to = λ h i. in_none i;
      hand_new = λ h x i. in_none i;
      hand_apart = λ h b i j. in_none i;
      hand_one = λ h h' i j. in_none i;
    }

-- behind a command, a vertex is executing
pub onward_old : (c : Code) (ds : List Do) → is_new (onward c ds) ≡ false
unfolding is_new
onward_old c = onward_cases (λ x. is_new x ≡ false) c refl (λ d ds. refl)

-- and has made no vertices for another item
pub onward_made : (c : Code) (ds : List Do) → made_of (onward c ds) ≡ []
unfolding made_of
onward_made c = onward_cases (λ x. made_of x ≡ []) c refl (λ d ds. refl)

-- What becomes of u in a move of v.
pub data Turn (S S' : State) (v u : ℕ) : Type 0 where
  itself : u ≡ v → Turn S S' v u
  stays : (u ≡ v → ⊥) → (u < S'.count → u < S.count) → S'.control u ≡ S.control u → Turn S S' v u
  -- a vertex that v made is a draft no more
  wakes : (k : Code) → S.maker u ≡ v → S.control u ≡ draft k → S'.control u ≡ fresh k → Turn S S' v u
  -- a vertex that v made is released
  rises :
      (k : Code) → S.maker u ≡ v → S.control u ≡ fresh k → S'.control u ≡ ready k
      → is_new (S.control (S.scope u)) ≡ false → Turn S S' v u
  -- a vertex is made
  born :
      u ≡ S.count → S.count < S'.count → is_new (S'.control u) ≡ true → S'.maker u ≡ v → S'.scope u < S'.count → Turn S S' v u

-- A move of v that leaves the edges as they are.
pub record Step (S S' : State) (v : ℕ) : Type 0 where
  pub there : v < S.count
  pub starts : is_new (S.control v) ≡ false
  pub ends : is_new (S'.control v) ≡ false
  pub counts : S.count ≤ S'.count
  pub turn : (u : ℕ) → Turn S S' v u
  pub edge_same : (a b : ℕ) → S'.edge a b ≡ S.edge a b
  pub scope_same : (u : ℕ) → u < S.count → S'.scope u ≡ S.scope u
  pub maker_same : (u : ℕ) → u < S.count → S'.maker u ≡ S.maker u
  pub rank_same : (u : ℕ) → u < S.count → (u ≡ v → ⊥) → S'.rank u ≡ S.rank u
  pub fin_same : (u : ℕ) → u < S.count → S'.fin u ≡ S.fin u
  pub opens_same : (u : ℕ) → u < S.count → (u ≡ v → ⊥) → S'.opens u ≡ S.opens u
  pub setting_same : S'.setting ≡ S.setting
  -- v sits as before, and hands edges on to vertices that do not
  pub own_sits : sits (S.control v) ≡ true → sits (S'.control v) ≡ true
  pub own_hands :
      (h : ℕ) → In (hand h) (tasks_of S' v) → In (hand h) (tasks_of S v) ⊎ (h < S.count → sits (S.control h) ≡ true → ⊥)
  -- the shape of v's own item
  pub own_item : (c : Code) (ms : List ℕ) → S'.control v ≡ busy c ms → Drafts S' v ms ms (kids S'.setting c) × Once ms
  pub own_drafts :
      (m : ℕ) (k : Code) → S'.control m ≡ draft k → S'.maker m ≡ v
      → (c : Code) × (ms : List ℕ) × (S'.control v ≡ busy c ms) × In m ms
  pub own_freshes : (m : ℕ) (k : Code) → S'.control m ≡ fresh k → S'.maker m ≡ v → In (free m) (tasks_of S' v)
  pub own_tasks : Tasks S' v

-- a new vertex has nothing to do
new_idle : (x : Control) → is_new x ≡ true → tasks x ≡ []
unfolding is_new tasks
new_idle (draft c) h = refl
new_idle (fresh c) h = refl
new_idle (ready c) h = clash (sym h)
new_idle (busy c ms) h = clash (sym h)
new_idle (joining c d ds) h = clash (sym h)
new_idle over h = clash (sym h)

-- what is not new becomes new in no move
old_kept :
    {S S' : State} {v : ℕ} → Step S S' v → (u : ℕ) → u < S.count → is_new (S.control u) ≡ false
    → is_new (S'.control u) ≡ false
old_kept {S} {S'} {v} st u lt h = go (st.turn u)
  where
    go : Turn S S' v u → is_new (S'.control u) ≡ false
    go (itself e) = ap (λ w. is_new (S'.control w)) e ∙ st.ends
    go (stays n b e) = ap is_new e ∙ h
    go (wakes k by d f) = true-false (draft_new d) h
    go (rises k by f r o) = ready_old r
    go (born e c n by s) = absurd (omega arith)

-- other vertices have the same left to do
tasks_kept : {S S' : State} {v : ℕ} → Shape S → Step S S' v → (t : ℕ) → (t ≡ v → ⊥) → tasks_of S' t ≡ tasks_of S t
unfolding tasks
tasks_kept {S} {S'} {v} sh st t ne = go (st.turn t)
  where
    go : Turn S S' v t → tasks_of S' t ≡ tasks_of S t
    go (itself e) = absurd (ne e)
    go (stays n b e) = ap tasks e
    go (wakes k by d f) = cc
    go (rises k by f r o) = cc
    go (born e c n by s) = new_idle (S'.control t) n ∙ sym (ap tasks (sh.beyond t (omega arith)))

-- what sits goes on sitting
sits_kept :
    {S S' : State} {v : ℕ} → Step S S' v → (u : ℕ) → u < S.count → sits (S.control u) ≡ true → sits (S'.control u) ≡ true
unfolding sits
sits_kept {S} {S'} {v} st u lt h = go (st.turn u)
  where
    go : Turn S S' v u → sits (S'.control u) ≡ true
    go (itself e) =
        ap (λ w. sits (S'.control w)) e ∙ st.own_sits (ap (λ w. sits (S.control w)) (sym e) ∙ h)
    go (stays n b e) = ap sits e ∙ h
    go (wakes k by d f) = clash (cc h)
    go (rises k by f r o) = cc h
    go (born e c n by s) = absurd (omega arith)

-- and to what sits, no edges are handed on that were not to be
hands_kept :
    {S S' : State} {v : ℕ} → Shape S → Step S S' v → (u : ℕ) → u < S.count → sits (S.control u) ≡ true
    → ((t : ℕ) → In (hand u) (tasks_of S t) → ⊥) → (t : ℕ) → In (hand u) (tasks_of S' t) → ⊥
hands_kept {S} {S'} {v} sh st u lt h none t i =
    ⊎_elim
    (λ e.
    ⊎_elim
    (λ j. none v j)
    (λ new. new lt h)
    (st.own_hands u (subst (λ w. In (hand u) (tasks_of S' w)) e i)))
    (λ ne. none t (subst (λ ds. In (hand u) ds) (tasks_kept sh st t ne) i))
    (equal? t v)

-- and the same item under way
busy_kept :
    {S S' : State} {v : ℕ} {c : Code} {ms : List ℕ} → Shape S → Step S S' v → (t : ℕ) → (t ≡ v → ⊥) → S.control t ≡ busy c ms
    → S'.control t ≡ busy c ms
busy_kept {S} {S'} {v} {c} {ms} sh st t ne h = go (st.turn t)
  where
    go : Turn S S' v t → S'.control t ≡ busy c ms
    go (itself e) = absurd (ne e)
    go (stays n b e) = e ∙ h
    go (wakes k by d f) = clash cc
    go (rises k by f r o) = clash cc
    go (born e c n by s) = clash (cc (sh.beyond t (omega arith)))

-- no more and no less
busy_was :
    {S S' : State} {v : ℕ} {c : Code} {ms : List ℕ} → Step S S' v → (t : ℕ) → (t ≡ v → ⊥) → S'.control t ≡ busy c ms
    → S.control t ≡ busy c ms
busy_was {S} {S'} {v} {c} {ms} st t ne h = go (st.turn t)
  where
    go : Turn S S' v t → S.control t ≡ busy c ms
    go (itself e) = absurd (ne e)
    go (stays n b e) = sym e ∙ h
    go (wakes k by d f) = clash cc
    go (rises k by f r o) = clash cc
    go (born e c n by s) = true-false n (busy_old h)

-- what other vertices made new stays as it is
fresh_kept :
    {S S' : State} {v : ℕ} {k : Code} → Shape S → Step S S' v → (m : ℕ) → (S.maker m ≡ v → ⊥) → S.control m ≡ fresh k
    → S'.control m ≡ fresh k
fresh_kept {S} {S'} {v} {k} sh st m ne h = go (st.turn m)
  where
    go : Turn S S' v m → S'.control m ≡ fresh k
    go (itself e) = absurd (apart is_new S.control (fresh_new h) st.starts e)
    go (stays n b e) = e ∙ h
    go (wakes k by d f) = clash cc
    go (rises k by f r o) = absurd (ne by)
    go (born e c n by s) = clash (cc (sh.beyond m (omega arith)))

-- the same of drafts
draft_kept :
    {S S' : State} {v : ℕ} {k : Code} → Shape S → Step S S' v → (m : ℕ) → (S.maker m ≡ v → ⊥) → S.control m ≡ draft k
    → S'.control m ≡ draft k
draft_kept {S} {S'} {v} {k} sh st m ne h = go (st.turn m)
  where
    go : Turn S S' v m → S'.control m ≡ draft k
    go (itself e) = absurd (apart is_new S.control (draft_new h) st.starts e)
    go (stays n b e) = e ∙ h
    go (wakes k by d f) = absurd (ne by)
    go (rises k by f r o) = clash cc
    go (born e c n by s) = clash (cc (sh.beyond m (omega arith)))

-- What is left to do can still be done where the vertices that it names are as they were.
pub record Same (S S' : State) (t : ℕ) (ds : List Do) : Type 0 where
  pub fresh : (m : ℕ) {c : Code} → In (free m) ds → S.control m ≡ fresh c → S'.control m ≡ fresh c
  pub maker : (m : ℕ) → In (free m) ds → S'.maker m ≡ S.maker m
  pub scope : (m : ℕ) → In (free m) ds → S'.scope m ≡ S.scope m
  pub old : (m : ℕ) → In (free m) ds → is_new (S.control (S.scope m)) ≡ false → is_new (S'.control (S.scope m)) ≡ false
  pub own_scope : {d : Do} → In d ds → S'.scope t ≡ S.scope t
  pub link_edge : (a b : ℕ) → In (link a b) ds → S.edge a b ≡ false → S'.edge a b ≡ false
  pub hand_edge : (h x : ℕ) → In (hand h) ds → S.edge h x ≡ false → S'.edge h x ≡ false
  pub forces : (a b : ℕ) → Forces S a b ds → Forces S' a b ds

-- then it fits
pub fits_kept : {S S' : State} {t : ℕ} {ds : List Do} → Fits S t ds → Same S S' t ds → Fits S' t ds
fits_kept {S} {S'} {t} {ds} f s =
    record {
      ordered = f.ordered;
      once = f.once;
      frees = λ m i. let ((c, h), by) = f.frees m i in ((c, s.fresh m i h), s.maker m i ∙ by);
      free_scope =
          λ m i.
          subst (λ (σ : ℕ). (is_new (S'.control σ) ≡ false) ⊎ Precedes (free σ) (free m) ds) (sym (s.scope m i))
          (⊎_elim (λ h. inl (s.old m i h)) (λ b. inr b) (f.free_scope m i));
      link_from = λ a b i. ⊎_elim (λ h. inl h) (λ h. inr (s.forces a b h)) (f.link_from a b i);
      link_to =
          λ a b i.
          ⊎_elim (λ h. inl h) (λ r. inr (⊎_elim (λ e. inl (e ∙ sym (s.own_scope i))) (λ y. inr y) r)) (f.link_to a b i);
      link_new = λ a b i. s.link_edge a b i (f.link_new a b i);
      hand_to = f.hand_to;
      hand_new = λ h x i. s.hand_edge h x i (f.hand_new h x i);
      hand_apart = f.hand_apart;
      hand_one = f.hand_one;
    }

-- an open future's first vertex is still one
forces_kept : {S S' : State} {v a b : ℕ} {ds : List Do} → Shape S → Step S S' v → Forces S a b ds → Forces S' a b ds
forces_kept {a = a} sh st f =
    record {
      there = omega (arith, f.there, st.counts);
      sitting = sits_kept st a f.there f.sitting;
      frees_it = f.frees_it;
      unhanded = hands_kept sh st a f.there f.sitting f.unhanded;
    }

-- so what others have left to do is fit to be done behind a move of v
fits_other : {S S' : State} {v : ℕ} → Shape S → Step S S' v → (t : ℕ) → (t ≡ v → ⊥) → Tasks S' t
fits_other {S} {S'} {v} sh st t ne = subst (λ ds. Fits S' t ds) (sym (tasks_kept sh st t ne)) (fits_kept fits same)
  where
    fits : Tasks S t
    fits = sh.todo_fits t

    lt : (m : ℕ) → In (free m) (tasks_of S t) → m < S.count
    lt m i = new_below sh m (fresh_new (fits.frees m i).0.1)

    same : Same S S' t (tasks_of S t)
    same =
        record {
          fresh = λ m i h. fresh_kept sh st m (λ e. ne (sym (fits.frees m i).1 ∙ e)) h;
          maker = λ m i. st.maker_same m (lt m i);
          scope = λ m i. st.scope_same m (lt m i);
          old = λ m i h. old_kept st (S.scope m) (sh.scope_within m (lt m i)) h;
          own_scope = λ i. st.scope_same t (doer_below sh t i);
          link_edge = λ a b i h. st.edge_same a b ∙ h;
          hand_edge = λ h x i k. st.edge_same h x ∙ k;
          forces = λ a b h. forces_kept sh st h;
        }

-- drafts that stay drafts, one by one
pub drafts_kept :
    {S S' : State} {v : ℕ} {all : List ℕ} (ms : List ℕ) (ks : List Kid)
    → ((m : ℕ) (k : Kid) → Draft S v all m k → Draft S' v all m k) → Drafts S v all ms ks → Drafts S' v all ms ks
unfolding Drafts
drafts_kept [] ks f h = h
drafts_kept (m ∷ ms) [] f h = h
drafts_kept (m ∷ ms) (k ∷ ks) f h = (f m k h.0, drafts_kept ms ks f h.1)

-- those of another vertex do
draft_other :
    {S S' : State} {v t : ℕ} {all : List ℕ} → Shape S → Step S S' v → (t ≡ v → ⊥) → t < S.count → (m : ℕ) (k : Kid)
    → Draft S t all m k → Draft S' t all m k
draft_other {S} {S'} {v} {t} {all} sh st ne lt m k d =
    record {
      is_draft = draft_kept sh st m (λ e. ne (sym d.made_by ∙ e)) d.is_draft;
      scope_is = st.scope_same m lm ∙ d.scope_is ∙ ap (λ σ. resolved t σ 0 all k.name) (sym (st.scope_same t lt));
      rank_is = st.rank_same m lm not_v ∙ d.rank_is;
      fin_is = st.fin_same m lm ∙ d.fin_is;
      made_by = st.maker_same m lm ∙ d.made_by;
      opens_are =
          st.opens_same m lm not_v
          ∙ d.opens_are
          ∙ sym (st.opens_same t lt ne);
    }
  where
    lm : m < S.count
    lm = new_below sh m (draft_new d.is_draft)

    not_v : m ≡ v → ⊥
    not_v = apart is_new S.control (draft_new d.is_draft) st.starts

-- a draft was one before, or is made now
draft_was :
    {S S' : State} {v : ℕ} {k : Code} → Step S S' v → (m : ℕ) → S'.control m ≡ draft k
    → (S.control m ≡ draft k) ⊎ ((m ≡ S.count) × (S'.maker m ≡ v))
draft_was {S} {S'} {v} {k} st m h = go (st.turn m)
  where
    go : Turn S S' v m → (S.control m ≡ draft k) ⊎ ((m ≡ S.count) × (S'.maker m ≡ v))
    go (itself e) = absurd (apart is_new S'.control (draft_new h) st.ends e)
    go (stays n b e) = inl (sym e ∙ h)
    go (wakes k by d f) = clash cc
    go (rises k by f r o) = clash cc
    go (born e c n by s) = inr (e, by)

-- a fresh vertex was one before, or v made it
fresh_was :
    {S S' : State} {v : ℕ} {k : Code} → Shape S → Step S S' v → (m : ℕ) → S'.control m ≡ fresh k
    → (S.control m ≡ fresh k) ⊎ (S'.maker m ≡ v)
fresh_was {S} {S'} {v} {k} sh st m h = go (st.turn m)
  where
    go : Turn S S' v m → (S.control m ≡ fresh k) ⊎ (S'.maker m ≡ v)
    go (itself e) = absurd (apart is_new S'.control (fresh_new h) st.ends e)
    go (stays n b e) = inl (sym e ∙ h)
    go (wakes k by d f) = inr (st.maker_same m (new_below sh m (draft_new d)) ∙ by)
    go (rises k by f r o) = clash cc
    go (born e c n by s) = inr by

-- the shape's parts, one by one: no vertex is beyond the count
step_beyond : {S S' : State} {v : ℕ} → Shape S → Step S S' v → (u : ℕ) → S'.count ≤ u → S'.control u ≡ over
step_beyond {S} {S'} {v} sh st u le = go (st.turn u)
  where
    was : S.control u ≡ over
    was = sh.beyond u (omega (arith, st.counts))

    go : Turn S S' v u → S'.control u ≡ over
    go (itself e) = absurd (omega (arith, st.there, st.counts))
    go (stays n b e) = e ∙ was
    go (wakes k by d f) = clash (cc was)
    go (rises k by f r o) = clash (cc was)
    go (born e c n by s) = absurd (omega arith)

-- scopes are below it
step_scope_within : {S S' : State} {v : ℕ} → Shape S → Step S S' v → (u : ℕ) → u < S'.count → S'.scope u < S'.count
step_scope_within {S} {S'} {v} sh st u lt = go (st.turn u)
  where
    was : u < S.count → S'.scope u < S'.count
    was l = omega (arith, st.counts, st.scope_same u l, sh.scope_within u l)

    go : Turn S S' v u → S'.scope u < S'.count
    go (itself e) = was (omega (arith, st.there))
    go (stays n b e) = was (b lt)
    go (wakes k by d f) = was (new_below sh u (draft_new d))
    go (rises k by f r o) = was (new_below sh u (fresh_new f))
    go (born e c n by s) = s

-- items under way have their drafts
step_under_way :
    {S S' : State} {v : ℕ} → Shape S → Step S S' v → (t : ℕ) (c : Code) (ms : List ℕ) → S'.control t ≡ busy c ms
    → Drafts S' t ms ms (kids S'.setting c) × Once ms
step_under_way {S} {S'} {v} sh st t c ms h = ⊎_elim own other (equal? t v)
  where
    own : t ≡ v → Drafts S' t ms ms (kids S'.setting c) × Once ms
    own e =
        subst (λ w. Drafts S' w ms ms (kids S'.setting c) × Once ms) (sym e)
        (st.own_item c ms (ap S'.control (sym e) ∙ h))

    other : (t ≡ v → ⊥) → Drafts S' t ms ms (kids S'.setting c) × Once ms
    other ne =
        let b : S.control t ≡ busy c ms = busy_was st t ne h in
        let (d, o) = sh.under_way t c ms b in
        subst (λ Γ. Drafts S' t ms ms (kids Γ c) × Once ms) (sym st.setting_same)
        (drafts_kept ms (kids S.setting c) (draft_other sh st ne (below sh t (λ o. clash cc))) d, o)

-- drafts have their items
step_drafts :
    {S S' : State} {v : ℕ} → Shape S → Step S S' v → (m : ℕ) (k : Code) → S'.control m ≡ draft k
    → (c : Code) × (ms : List ℕ) × (S'.control (S'.maker m) ≡ busy c ms) × In m ms
step_drafts {S} {S'} {v} sh st m k h = ⊎_elim own other (equal? (S'.maker m) v)
  where
    own : S'.maker m ≡ v → (c : Code) × (ms : List ℕ) × (S'.control (S'.maker m) ≡ busy c ms) × In m ms
    own e = let (c, ms, b, i) = st.own_drafts m k h e in (c, ms, ap S'.control e ∙ b, i)

    other : (S'.maker m ≡ v → ⊥) → (c : Code) × (ms : List ℕ) × (S'.control (S'.maker m) ≡ busy c ms) × In m ms
    other ne =
        ⊎_elim
        (λ d.
        let same : S'.maker m ≡ S.maker m = st.maker_same m (new_below sh m (draft_new d)) in
        let (c, ms, b, i) = sh.drafts m k d in
        (c, ms, ap S'.control same ∙ busy_kept sh st (S.maker m) (λ e. ne (same ∙ e)) b, i))
        (λ n. absurd (ne n.1))
        (draft_was st m h)

-- drafts have no edges
step_draft_bare :
    {S S' : State} {v : ℕ} → Shape S → Step S S' v → (m x : ℕ) (k : Code) → S'.control m ≡ draft k
    → (S'.edge x m ≡ false) × (S'.edge m x ≡ false)
step_draft_bare {S} {S'} {v} sh st m x k h = (st.edge_same x m ∙ bare.0, st.edge_same m x ∙ bare.1)
  where
    bare : (S.edge x m ≡ false) × (S.edge m x ≡ false)
    bare =
        ⊎_elim
        (λ d. sh.draft_bare m x k d)
        (λ n.
        let at : m ≡ S.count = n.0 in
        (not_so _ (λ e. absurd (omega (arith, (sh.within x m e).1))), not_so _ (λ e. absurd (omega (arith, (sh.within m x e).0)))))
        (draft_was st m h)

-- fresh vertices are still to be released
step_freshes :
    {S S' : State} {v : ℕ} → Shape S → Step S S' v → (m : ℕ) (k : Code) → S'.control m ≡ fresh k
    → In (free m) (tasks_of S' (S'.maker m))
step_freshes {S} {S'} {v} sh st m k h = ⊎_elim own other (equal? (S'.maker m) v)
  where
    own : S'.maker m ≡ v → In (free m) (tasks_of S' (S'.maker m))
    own e = subst (λ w. In (free m) (tasks_of S' w)) (sym e) (st.own_freshes m k h e)

    other : (S'.maker m ≡ v → ⊥) → In (free m) (tasks_of S' (S'.maker m))
    other ne =
        ⊎_elim
        (λ f.
        let same : S'.maker m ≡ S.maker m = st.maker_same m (new_below sh m (fresh_new f)) in
        subst (λ w. In (free m) (tasks_of S' w)) (sym same)
        (subst (λ ds. In (free m) ds) (sym (tasks_kept sh st (S.maker m) (λ e. ne (same ∙ e)))) (sh.freshes m k f)))
        (λ e. absurd (ne e))
        (fresh_was sh st m h)

-- and scopes of those that are not new are not new
step_scope_old :
    {S S' : State} {v : ℕ} → Shape S → Step S S' v → (u : ℕ) → u < S'.count → is_new (S'.control u) ≡ false
    → is_new (S'.control (S'.scope u)) ≡ false
step_scope_old {S} {S'} {v} sh st u lt h = go (st.turn u)
  where
    was : u < S.count → is_new (S.control (S.scope u)) ≡ false → is_new (S'.control (S'.scope u)) ≡ false
    was l o = ap (λ w. is_new (S'.control w)) (st.scope_same u l) ∙ old_kept st (S.scope u) (sh.scope_within u l) o

    go : Turn S S' v u → is_new (S'.control (S'.scope u)) ≡ false
    go (itself e) =
        let l : u < S.count = omega (arith, st.there) in
        was l (sh.scope_old u l (ap (λ w. is_new (S.control w)) e ∙ st.starts))
    go (stays n b e) = was (b lt) (sh.scope_old u (b lt) (ap is_new (sym e) ∙ h))
    go (wakes k by d f) = true-false (fresh_new f) h
    go (rises k by f r o) = was (new_below sh u (fresh_new f)) o
    go (born e c n by s) = true-false n h

-- A step keeps the shape.
pub shape_step : {S S' : State} {v : ℕ} → Shape S → Step S S' v → Shape S'
shape_step {S} {S'} {v} sh st =
    record {
      beyond = step_beyond sh st;
      within =
          λ a b h.
          let (p, q) = sh.within a b (sym (st.edge_same a b) ∙ h) in
          (omega (arith, p, st.counts), omega (arith, q, st.counts));
      scope_within = step_scope_within sh st;
      under_way = step_under_way sh st;
      drafts = step_drafts sh st;
      draft_bare = step_draft_bare sh st;
      freshes = step_freshes sh st;
      todo_fits = λ t. ⊎_elim (λ e. subst (λ w. Tasks S' w) (sym e) st.own_tasks) (λ ne. fits_other sh st t ne) (equal? t v);
      scope_old = step_scope_old sh st;
    }

-- the scope of a vertex that has something left to do is not new, nor is that vertex
pub joined_old :
    {S : State} {Y : Type 0} → Shape S → (t b : ℕ) {d : Do} → In d (tasks_of S t) → (b ≡ S.scope t) ⊎ ((b ≡ t) × Y)
    → is_new (S.control b) ≡ false
joined_old {S} sh t b i to =
    ⊎_elim
    (λ e. ap (λ w. is_new (S.control w)) e ∙ sh.scope_old t (doer_below sh t i) (doer_old (S.control t) i))
    (λ e. ap (λ w. is_new (S.control w)) e.0 ∙ doer_old (S.control t) i)
    to

-- no edge is still to be made by two
pub one_linker :
    {S : State} → Shape S → (a b t t' : ℕ) → In (link a b) (tasks_of S t) → In (link a b) (tasks_of S t') → t ≡ t'
one_linker {S} sh a b t t' i j =
    ⊎_elim
    (λ f. ⊎_elim (λ g. one_freer sh b t t' f g) (λ e. absurd (not_old t f (joined_old sh t' b j e))) ((sh.todo_fits t').link_to a b j))
    (λ e.
    let old = joined_old sh t b i e in
    ⊎_elim
    (λ f.
    ⊎_elim
    (λ g. one_freer sh a t t' f g)
    (λ g. absurd (not_old t' g.frees_it old))
    ((sh.todo_fits t').link_from a b j))
    (λ f. absurd (not_old t f.frees_it old))
    ((sh.todo_fits t).link_from a b i))
    ((sh.todo_fits t).link_to a b i)
  where
    -- a vertex that is still to be released is new
    not_old : (x : ℕ) → In (free b) (tasks_of S x) → is_new (S.control b) ≡ false → ⊥
    not_old x f old = true-false (fresh_new ((sh.todo_fits x).frees b f).0.1) old

-- An edge that can be added: neither end is a draft, and no item under way adds it or hands its own edges to its source.
pub record Fine (S : State) (a b : ℕ) : Type 0 where
  pub from_there : a < S.count
  pub to_there : b < S.count
  pub from_kept : is_draft (S.control a) ≡ false
  pub to_kept : is_draft (S.control b) ≡ false
  pub unlinked : (t : ℕ) → In (link a b) (tasks_of S t) → ⊥
  pub unhanded : (t : ℕ) → In (hand a) (tasks_of S t) → ⊥

-- a draft is one
is_draft_lem : {x : Control} {k : Code} → x ≡ draft k → is_draft x ≡ true
unfolding is_draft
is_draft_lem h = cc

-- Edges that go, and edges that can be added, keep the shape.
pub shape_edges :
    {S : State} (e : ℕ → ℕ → Bool) → Shape S → ((a b : ℕ) → e a b ≡ true → (S.edge a b ≡ true) ⊎ Fine S a b)
    → Shape (with_edges S e)
shape_edges {S} e sh f =
    record {
      beyond = sh.beyond;
      within = λ a b h. ⊎_elim (λ k. sh.within a b k) (λ n. (n.from_there, n.to_there)) (f a b h);
      scope_within = sh.scope_within;
      under_way = λ t c ms h. let (d, o) = sh.under_way t c ms h in (drafts_kept ms (kids S.setting c) same_draft d, o);
      drafts = sh.drafts;
      draft_bare =
          λ m x k h.
          let (i, o) = sh.draft_bare m x k h in
          (gone x m i (λ n. true-false (is_draft_lem h) n.to_kept), gone m x o (λ n. true-false (is_draft_lem h) n.from_kept));
      freshes = sh.freshes;
      todo_fits = λ t. fits_kept (sh.todo_fits t) (same t);
      scope_old = sh.scope_old;
    }
  where
    gone : (a b : ℕ) → S.edge a b ≡ false → (Fine S a b → ⊥) → e a b ≡ false
    gone a b h k = not_so (e a b) (λ p. ⊎_elim (λ q. true-false q h) k (f a b p))

    same_draft : {v : ℕ} {all : List ℕ} (m : ℕ) (k : Kid) → Draft S v all m k → Draft (with_edges S e) v all m k
    same_draft m k d =
        record {
          is_draft = d.is_draft;
          scope_is = d.scope_is;
          rank_is = d.rank_is;
          fin_is = d.fin_is;
          made_by = d.made_by;
          opens_are = d.opens_are;
        }

    same : (t : ℕ) → Same S (with_edges S e) t (tasks_of S t)
    same t =
        record {
          fresh = λ m i h. h;
          maker = λ m i. refl;
          scope = λ m i. refl;
          old = λ m i h. h;
          own_scope = λ i. refl;
          link_edge = λ a b i h. gone a b h (λ n. n.unlinked t i);
          hand_edge = λ h x i k. gone h x k (λ n. n.unhanded t i);
          forces =
              λ a b h.
              record { there = h.there; sitting = h.sitting; frees_it = h.frees_it; unhanded = h.unhanded };
        }
