-- Edges, held or planned, lead from lower ranks to higher ones, and every move leaves it so. A vertex that is made has the rank of its code,
-- which stands right inside that of its maker: behind what its siblings of lower rank do, and before the scope. A future's first vertex ranks
-- right behind the future's item, and so before every vertex that forces it. A rank only rises, and at a split alone: a vertex that has split
-- its item ranks where the rest starts, and so behind the branches of its fork, which lead to it in the second edition.
use Prim.Native.Nat.{ℕ, ◌<◌, ◌≤◌}
use mathlib.Core.Path.{◌≡◌, refl, sym, ◌∙◌, ap, subst}
use mathlib.Core.Bool.{Bool, true}
use mathlib.Core.Logic.{◌⊎◌, inl, inr, ⊎_elim}
use mathlib.Core.List.{List, [], ◌∷◌, ◌++◌}
use mathlib.Core.Option.{some, some-injective}
use native.Mathlib.Omega.{arith}
use Rattle.graph.proofs.TestLaws.{equal?, true-false}
use Rattle.program.specs.declared.Edition.{Edition}
use Rattle.program.specs.Located.{Code, end_byte_at, job_at, async_at, finish_at, fork_at, future_at, force_at, start_of, last}
use Rattle.program.proofs.LocatedLaws.{Laid, code_laid}
use Rattle.machine.proofs.GhostMachine.Ghost.{Do, link, hand, free, yield, Control, draft, fresh, busy, over, Setting, State, Kid, put, kids, fork_goes, goes, rest_of}
use Rattle.machine.proofs.GhostMachine.Ghost.{resolved, forced_by, live, with_control, with_edges, with_opens, with_ranks, grown, one_more, scope_for, todo_of}
use Rattle.machine.proofs.GhostMachine.Ghost.{behind_split, done, stirred, Event, Move, begins, performs, stops, makes, splits, acts}
use Rattle.machine.proofs.GhostMachine.Invariant.{In, here, tasks, tasks_of, code_of, is_item, Drafts, Shape, HasItem, Ranks, Coded, Opened}
use Rattle.machine.proofs.GhostMachine.GhostLaws.{put_same, put_other, draft_new, fresh_new, Makes, finish_1, fork_1, fork_2, future_1}
use Rattle.machine.proofs.GhostMachine.GhostLaws.{Splits, async_1, finish_2, fork_3, fork_yields, future_2, force_1, makes_at, splits_at, below, new_below}
use Rattle.machine.proofs.GhostMachine.GhostLaws.{doer_below, over_uncoded, coded_below, put_keeps, puts_keep, put_below, forced_open}
use Rattle.machine.proofs.GhostMachine.ShapeMakes.{makes_scope, splits_scope, makes_item, splits_item}
use Rattle.machine.proofs.GhostMachine.RoadLaws.{code_onward, code_resumed, linked_if_cases, handed_cases, dropped_edge, over_idle, busy_code, busy_below}
use Rattle.machine.proofs.GhostMachine.RoadLaws.{forced_below}
use Rattle.machine.proofs.GhostMachine.SettledLaws.{acts_did, acts_keeps, task_stood, plan_cases, source_below}
use Rattle.machine.proofs.GhostMachine.SplitLaws.{item_split, split_of, split_codes}
use Rattle.machine.proofs.GhostMachine.GhostLaws.{todo_async, todo_finish, todo_fork, todo_fork_yields, todo_future, todo_force}
use Rattle.machine.proofs.GhostMachine.SplitLaws.{async_links, async_hands, finish_links, finish_hands, fork_links, fork_hands, fork_yields_links}
use Rattle.machine.proofs.GhostMachine.SplitLaws.{fork_yields_hands, future_links, future_hands, force_links, force_hands}
use Rattle.machine.proofs.GhostMachine.CodedKept.{makes_le, splits_le}

-- u, which has an item now, had an item of a body that ends at the same place, at that place or before it
abbrev Had : State → ℕ → Code → Type 0
Had S u c = (c' : Code) × HasItem S u c' × (last c' ≡ last c) × (start_of c' ≤ start_of c)

-- no new vertex: edges by rank, nothing more to do, and items that end where they did
still :
    (S : State) (f : ℕ → Control) (e : ℕ → ℕ → Bool) → Ranks S → ((a b : ℕ) → e a b ≡ true → S.fin a < S.rank b)
    → ((t : ℕ) (d : Do) → In d (tasks (f t)) → In d (tasks_of S t))
    → ((u : ℕ) (c : Code) → code_of (f u) ≡ some c → is_item c ≡ true → Had S u c) → Ranks (with_edges (with_control S f) e)
still S f e rk edges less items =
    record {
      rank_le = rk.rank_le;
      edge_rank = edges;
      link_rank = λ t a b i. rk.link_rank t a b (less t (link a b) i);
      hand_rank = λ t h i. rk.hand_rank t h (less t (hand h) i);
      scope_rank = λ u c h. let (c', h', e, le) = items u c h.0 h.1 in rk.scope_rank u c' h';
      code_fin = λ u c h. let (c', h', e, le) = items u c h.0 h.1 in sym e ∙ rk.code_fin u c' h';
      rank_start = λ u c h. let (c', h', e, le) = items u c h.0 h.1 in omega (arith, rk.rank_start u c' h', le);
    }

-- the ends of what is to do are made
draft_below : {S : State} {c : Code} → Shape S → (m : ℕ) → S.control m ≡ draft c → m < S.count
draft_below sh m q = new_below sh m (draft_new q)

freed_below : {S : State} → Shape S → (t m : ℕ) → In (free m) (tasks_of S t) → m < S.count
freed_below sh t m i = new_below sh m (fresh_new ((sh.todo_fits t).frees m i).0.1)

pub link_below : {S : State} → Shape S → (t a b : ℕ) → In (link a b) (tasks_of S t) → (a < S.count) × (b < S.count)
link_below {S} sh t a b i = (
  source_below t sh i,
  ⊎_elim
      (λ j. freed_below sh t b j)
      (λ to.
      ⊎_elim
      (λ e. subst (λ (z : ℕ). z < S.count) (sym e) (sh.scope_within t (doer_below sh t i)))
      (λ e. subst (λ (z : ℕ). z < S.count) (sym e.0) (doer_below sh t i))
      to)
      ((sh.todo_fits t).link_to a b i),
)

-- what holds of old vertices holds with one more
le_old : (g h : ℕ → ℕ) (n x y a b : ℕ) → a < n → b < n → g a ≤ h b → put g n x a ≤ put h n y b
le_old g h n x y a b p q r = rw (put_below g n x a p, put_below h n y b q) r

-- ranks that have risen, but not above what ends there, where k is the new vertex
record Risen (S : State) (k : Kid) (ρ : ℕ → ℕ) : Type 0 where
  new : ρ S.count ≡ k.low
  rises : (u : ℕ) → u < S.count → S.rank u ≤ ρ u
  within : (u : ℕ) → u < S.count → ρ u ≤ S.fin u

-- the item c of u is the new vertex's, or u had one that ended there
abbrev Belongs : State → Kid → (ℕ → ℕ) → ℕ → Code → Type 0
Belongs S k ρ u c =
    ((u ≡ S.count) × (last c ≡ k.high) × (k.low ≤ start_of c))
    ⊎ ((c' : Code) × HasItem S u c' × (last c' ≡ last c) × (ρ u ≤ start_of c))

-- One new vertex k, with a scope σ behind it: what is to do goes by rank, and an item is of k and ends there, or ends where an item did.
grown_ranks :
    (S : State) (v : ℕ) (y : Control) (σ : ℕ) (k : Kid) (f : ℕ → Control) (fs : ℕ → List (ℕ × Code)) (ρ : ℕ → ℕ) → Shape S → Ranks S
    → Risen S k ρ → k.low ≤ k.high → σ < S.count → k.high < S.rank σ
    → ((t a b : ℕ) → In (link a b) (tasks (f t)) → In (link a b) (tasks_of S t) ⊎ (put S.fin S.count k.high a < ρ b))
    → ((t h : ℕ) → In (hand h) (tasks (f t))
    → In (hand h) (tasks_of S t) ⊎ (put S.fin S.count k.high h ≤ put S.fin S.count k.high t))
    → ((u : ℕ) (c : Code) → code_of (f u) ≡ some c → is_item c ≡ true → Belongs S k ρ u c)
    → Ranks (with_ranks (with_opens (with_control (grown S v y σ k.low k.high) f) fs) ρ)
grown_ranks S v y σ k f fs ρ sh rk up le below behind links hands items =
    record {
      rank_le =
          λ u h.
          ⊎_elim
          (λ e. rw e (rw (put_same S.fin n k.high) (omega (arith, up.new, le))))
          (λ ne. let lt : u < n = omega arith in rw (put_below S.fin n k.high u lt) (up.within u lt))
          (equal? u n);
      edge_rank = λ a b e. let (p, q) = sh.within a b e in old a b p q (rk.edge_rank a b e);
      link_rank =
          λ t a b i.
          ⊎_elim (λ j. let (p, q) = link_below sh t a b j in old a b p q (rk.link_rank t a b j)) (λ h. h) (links t a b i);
      hand_rank =
          λ t h i.
          ⊎_elim
          (λ j.
          let p = freed_below sh t h ((sh.todo_fits t).hand_to h j) in
          le_old S.fin S.fin n k.high k.high h t p (doer_below sh t j) (rk.hand_rank t h j))
          (λ h. h)
          (hands t h i);
      scope_rank =
          λ u c h.
          ⊎_elim
          (λ e.
          rw e.0 (rw (put_same S.fin n k.high, put_same S.scope n σ) (omega (arith, behind, up.rises σ below))))
          (λ had.
          let (c', h', e, le) = had in
          let lt = coded_below sh u h'.0 in
          rw (put_below S.scope n σ u lt) (old u (S.scope u) lt (sh.scope_within u lt) (rk.scope_rank u c' h')))
          (items u c h.0 h.1);
      code_fin =
          λ u c h.
          ⊎_elim
          (λ e. e.1 ∙ rw e.0 (sym (put_same S.fin n k.high)))
          (λ had.
          let (c', h', e, le) = had in
          sym e ∙ rk.code_fin u c' h' ∙ sym (put_below S.fin n k.high u (coded_below sh u h'.0)))
          (items u c h.0 h.1);
      rank_start =
          λ u c h.
          ⊎_elim
          (λ e. rw e.0 (omega (arith, up.new, e.2)))
          (λ had. had.3)
          (items u c h.0 h.1);
    }
  where
    n : ℕ
    n = S.count

    old : (a b : ℕ) → a < n → b < n → S.fin a < S.rank b → put S.fin n k.high a < ρ b
    old a b p q lt = rw (put_below S.fin n k.high a p) (omega (arith, lt, up.rises b q))

-- the item that v has under way
under_way_item :
    {x : Control} {c : Code} {ms : List ℕ} → x ≡ busy c ms → is_item c ≡ true → (code_of x ≡ some c) × (is_item c ≡ true)
under_way_item q m = (busy_code q, m)

-- The scope of a vertex that is made stands behind its code: it is the scope of its maker, or the vertex for the rest of a finish, or a
-- future's first vertex.
makes_behind :
    {Γ : Setting} {v : ℕ} {S : State} {c : Code} {ms : List ℕ} {k : Kid} → Ranks S → S.control v ≡ busy c ms → Laid c → Makes Γ c ms k
    → k.high < S.rank (scope_for S v ms k)
unfolding resolved Laid last is_item
makes_behind {v = v} rk q l finish_1 = omega (arith, rk.scope_rank v _ (under_way_item q refl), rk.code_fin v _ (under_way_item q refl))
makes_behind {v = v} rk q l fork_1 =
    let e = rk.code_fin v _ (under_way_item q refl) in
    omega (arith, rk.scope_rank v _ (under_way_item q refl), e, l.0.between, l.0.right, l.0.ends, l.0.rest)
makes_behind {v = v} rk q l (fork_2 _) =
    let e = rk.code_fin v _ (under_way_item q refl) in
    omega (arith, rk.scope_rank v _ (under_way_item q refl), e, l.0.ends, l.0.rest)
makes_behind {v = v} rk q l future_1 =
    let e = rk.code_fin v _ (under_way_item q refl) in omega (arith, rk.scope_rank v _ (under_way_item q refl), e, l.0.rest)

splits_behind :
    {ed : Edition} {S : State} {v : ℕ} {c : Code} {ms : List ℕ} {k : Kid} → Shape S → Ranks S → S.control v ≡ busy c ms → Laid c
    → Splits ed c ms k
    → k.high < S.rank (scope_for S v ms k)
unfolding resolved Laid last is_item Drafts kids
splits_behind {v = v} sh rk q l async_1 =
    let e = rk.code_fin v _ (under_way_item q refl) in
    omega (arith, rk.scope_rank v _ (under_way_item q refl), e, l.0.ends, l.0.rest)
splits_behind {v = v} sh rk q l finish_2 = let made = (sh.under_way v _ _ q).0.0 in omega (arith, made.rank_is, l.0.ends)
splits_behind {v = v} sh rk q l (fork_3 _) =
    omega (arith, rk.scope_rank v _ (under_way_item q refl), rk.code_fin v _ (under_way_item q refl))
splits_behind {v = v} sh rk q l (fork_yields _) =
    let e = rk.code_fin v _ (under_way_item q refl) in
    omega (arith, rk.scope_rank v _ (under_way_item q refl), e, l.0.ends, l.0.rest)
splits_behind {v = v} sh rk q l future_2 = let made = (sh.under_way v _ _ q).0.0 in omega (arith, made.rank_is, l.0.ends)
splits_behind {v = v} sh rk q l force_1 =
    omega (arith, rk.scope_rank v _ (under_way_item q refl), rk.code_fin v _ (under_way_item q refl))

-- a vertex that is made starts and ends where its code does, if it has an item
makes_spans :
    {Γ : Setting} {c d : Code} {ms : List ℕ} {k : Kid} → Makes Γ c ms k → d ≡ k.code → is_item d ≡ true
    → (last d ≡ k.high) × (k.low ≤ start_of d)
unfolding is_item
makes_spans finish_1 e i = (ap last e, omega (arith, ap start_of e))
makes_spans fork_1 e i = (ap last e, omega (arith, ap start_of e))
makes_spans (fork_2 _) e i = (ap last e, omega (arith, ap start_of e))
makes_spans future_1 e i = true-false i (ap is_item e)

splits_spans :
    {ed : Edition} {c d : Code} {ms : List ℕ} {k : Kid} → Splits ed c ms k → d ≡ k.code → (last d ≡ k.high) × (k.low ≤ start_of d)
splits_spans async_1 e = (ap last e, omega (arith, ap start_of e))
splits_spans finish_2 e = (ap last e, omega (arith, ap start_of e))
splits_spans (fork_3 _) e = (ap last e, omega (arith, ap start_of e))
splits_spans (fork_yields _) e = (ap last e, omega (arith, ap start_of e))
splits_spans future_2 e = (ap last e, omega (arith, ap start_of e))
splits_spans force_1 e = (ap last e, omega (arith, ap start_of e))

-- the rest behind an item starts behind the item's start, and not behind the body's end
rest_start : (c : Code) → Laid c → is_item c ≡ true → (start_of c ≤ start_of (rest_of c)) × (start_of (rest_of c) ≤ last c)
unfolding Laid is_item start_of rest_of last
rest_start (end_byte_at o) l i = true-false i refl
rest_start (job_at o n r) l i = (omega (arith, l.0.starts), l.0.rest)
rest_start (async_at o b r) l i = (omega (arith, l.0.starts, l.0.body, l.0.ends), l.0.rest)
rest_start (finish_at o b r) l i = (omega (arith, l.0.starts, l.0.body, l.0.ends), l.0.rest)
rest_start (fork_at o b c r) l i = (omega (arith, l.0.starts, l.0.left, l.0.between, l.0.right, l.0.ends), l.0.rest)
rest_start (future_at o b r) l i = (omega (arith, l.0.starts, l.0.body, l.0.ends), l.0.rest)
rest_start (force_at o n b r) l i = (omega (arith, l.0.starts), l.0.rest)

-- an edge from the new vertex to an old one, from an old one to the new one, and to the vertex that has made it
lt_from : (g h ρ : ℕ → ℕ) (n x a b s : ℕ) → a ≡ n → b ≡ s → h s ≤ ρ s → x < h s → put g n x a < ρ b
lt_from g h ρ n x a b s p q le lt = rw (p, q) (rw (put_same g n x) (omega arith))

lt_to : (g ρ : ℕ → ℕ) (n x y a b m : ℕ) → a ≡ m → b ≡ n → ρ n ≡ y → m < n → g m < y → put g n x a < ρ b
lt_to g ρ n x y a b m p q new below lt = rw (p, q) (rw (put_below g n x m below, new) lt)

lt_back : (g ρ : ℕ → ℕ) (n x y a b m v : ℕ) → a ≡ m → b ≡ v → ρ v ≡ y → put g n x m < y → put g n x a < ρ b
lt_back g ρ n x y a b m v p q at lt = rw (p, q) (rw at lt)

-- edges handed to an old vertex, and to the new one
le_of : (g : ℕ → ℕ) (n x a t m v : ℕ) → a ≡ m → t ≡ v → m < n → v < n → g m ≤ g v → put g n x a ≤ put g n x t
le_of g n x a t m v p q below below' le = rw (p, q) (le_old g g n x x m v below below' le)

le_from : (g : ℕ → ℕ) (n x a t v : ℕ) → a ≡ n → t ≡ v → v < n → x ≤ g v → put g n x a ≤ put g n x t
le_from g n x a t v p q below le = rw (p, q) (rw (put_same g n x, put_below g n x v below) le)

-- the code that v goes to at a split, if it has an item, is the rest, and ends where v's did
goes_rest :
    (Γ : Setting) {c c' : Code} {ms : List ℕ} {k : Kid} → Splits Γ.edition c ms k → goes Γ c ≡ c' → is_item c' ≡ true
    → (last c ≡ last c') × (start_of (rest_of c) ≤ start_of c')
unfolding goes fork_goes rest_of last is_item
goes_rest Γ async_1 e i = (ap last e, omega (arith, ap start_of e))
goes_rest Γ finish_2 e i = true-false i (ap is_item (sym e))
goes_rest Γ {c' = c'} (fork_3 {r = r} f) e i =
    let z : end_byte_at Γ.last_byte ≡ c' = subst (λ ed. fork_goes ed Γ.last_byte r ≡ c') f e in true-false i (ap is_item (sym z))
goes_rest Γ {c' = c'} (fork_yields {r = r} f) e i =
    let z : r ≡ c' = subst (λ ed. fork_goes ed Γ.last_byte r ≡ c') f e in (ap last z, omega (arith, ap start_of z))
goes_rest Γ future_2 e i = (ap last e, omega (arith, ap start_of e))
goes_rest Γ force_1 e i = true-false i (ap is_item (sym e))

-- the vertex that a force names ranks before the rest behind the force
forced_rank :
    {o i v : ℕ} {b r : Code} {S : State} → Opened S → S.control v ≡ busy (force_at o i b r) [] → Laid (force_at o i b r)
    → S.fin (forced_by (S.opens v) (force_at o i b r)) < start_of r
unfolding Laid is_item start_of
forced_rank {o} {i} {v} {b} {r} {S} op q l =
    let le = op.before v _ b (force_at o i b r) (forced_open op q) (under_way_item q refl) in
    omega (arith, le, l.0.starts)

-- what an item plans goes by rank, where v has come to rank behind it
plans_rank :
    {S : State} {v : ℕ} {c : Code} {ms : List ℕ} {k : Kid} (ρ : ℕ → ℕ) → Shape S → Opened S → Ranks S → S.control v ≡ busy c ms → Laid c
    → Splits S.setting.edition c ms k → scope_for S v ms k < S.count → k.high < S.rank (scope_for S v ms k) → Risen S k ρ
    → ρ v ≡ start_of (rest_of c)
    → ((x y : ℕ) → In (link x y) (todo_of S v (ms ++ (S.count ∷ [])) c) → put S.fin S.count k.high x < ρ y)
    × ((h : ℕ) → In (hand h) (todo_of S v (ms ++ (S.count ∷ [])) c)
    → put S.fin S.count k.high h ≤ put S.fin S.count k.high v)
unfolding Laid last resolved is_item Drafts kids rest_of
plans_rank {S} {v} ρ sh op rk q l (async_1 {o = o} {b = b} {r = r}) below lt up at_v =
    let e = todo_async _ o b r v (S.scope v) _ S.count in (
      λ x y i.
          let (p, q) = async_links (subst (λ ds. In (link x y) ds) e i) in
          lt_from S.fin S.rank ρ _ _ x y _ p q (up.rises _ below) lt,
      λ h i. absurd (async_hands (subst (λ ds. In (hand h) ds) e i)),
    )
plans_rank {S} {v} ρ sh op rk q l (finish_2 {o = o} {m = m} {b = b} {r = r}) below lt up at_v =
    let e = todo_finish _ o b r v (S.scope v) _ m S.count in
    let made = (sh.under_way v _ _ q).0.0 in
    let at : last r ≡ S.fin v = rk.code_fin v _ (under_way_item q refl) in
    let le : S.fin m ≤ S.fin v = omega (arith, made.fin_is) in (
      λ x y i.
          let (p, q) = finish_links (subst (λ ds. In (link x y) ds) e i) in
          lt_from S.fin S.rank ρ _ _ x y _ p q (up.rises _ below) lt,
      λ h i.
          let p = finish_hands (subst (λ ds. In (hand h) ds) e i) in
          le_of S.fin _ _ h v m v p refl below (busy_below sh v q) le,
    )
plans_rank {S} {v} ρ sh op rk q l (fork_3 {o = o} {m = m} {m' = m'} {b = b} {c = c} {r = r} first) below lt up at_v =
    let e = todo_fork first o b c r v (S.scope v) _ m m' S.count in
    let left = (sh.under_way v _ _ q).0.0 in
    let right = (sh.under_way v _ _ q).0.1.0 in
    let lt : S.fin m < start_of r = omega (arith, left.fin_is, l.0.between, l.0.right, l.0.ends) in
    let lt' : S.fin m' < start_of r = omega (arith, right.fin_is, l.0.ends) in
    let at : last r ≡ S.fin v = rk.code_fin v _ (under_way_item q refl) in
    let le : last r ≤ S.fin v = omega arith in (
      λ x y i.
          let (p, q) = fork_links (subst (λ ds. In (link x y) ds) e i) in
          ⊎_elim
          (λ p. lt_to S.fin ρ _ _ _ x y m p q up.new (draft_below sh m left.is_draft) lt)
          (λ p. lt_to S.fin ρ _ _ _ x y m' p q up.new (draft_below sh m' right.is_draft) lt')
          p,
      λ h i.
          let p = fork_hands (subst (λ ds. In (hand h) ds) e i) in
          le_from S.fin _ _ h v v p refl (busy_below sh v q) le,
    )
plans_rank {S} {v} ρ sh op rk q l (fork_yields {o = o} {m = m} {b = b} {c = c} {r = r} second) below lt up at_v =
    let e = todo_fork_yields second o b c r v (S.scope v) _ m S.count in
    let left = (sh.under_way v _ _ q).0.0 in
    let there = draft_below sh m left.is_draft in
    let lt : S.fin m < start_of r = omega (arith, left.fin_is, l.0.between, l.0.right, l.0.ends) in
    let lt' : last c < start_of r = omega (arith, l.0.ends) in (
      λ x y i.
          let (p, q) = fork_yields_links (subst (λ ds. In (link x y) ds) e i) in
          ⊎_elim
          (λ p. lt_back S.fin ρ S.count (last c) _ x y m v p q at_v (rw (put_below S.fin S.count (last c) m there) lt))
          (λ p. lt_back S.fin ρ S.count (last c) _ x y S.count v p q at_v (rw (put_same S.fin S.count (last c)) lt'))
          p,
      λ h i. absurd (fork_yields_hands (subst (λ ds. In (hand h) ds) e i)),
    )
plans_rank {S} {v} ρ sh op rk q l (future_2 {o = o} {m = m} {b = b} {r = r}) below lt up at_v =
    let e = todo_future _ o b r v (S.scope v) _ m S.count in (
      λ x y i.
          let (p, q) = future_links (subst (λ ds. In (link x y) ds) e i) in
          lt_from S.fin S.rank ρ _ _ x y _ p q (up.rises _ below) lt,
      λ h i. absurd (future_hands (subst (λ ds. In (hand h) ds) e i)),
    )
plans_rank {S} {v} ρ sh op rk q l (force_1 {o = o} {n = n} {b = b} {r = r}) below lt up at_v =
    let t = forced_by (S.opens v) (force_at o n b r) in
    let e = todo_force _ o n b r v (S.scope v) t S.count in
    let at : last r ≡ S.fin v = rk.code_fin v _ (under_way_item q refl) in
    let le : last r ≤ S.fin v = omega arith in (
      λ x y i.
          let (p, p') = force_links (subst (λ ds. In (link x y) ds) e i) in
          lt_to S.fin ρ _ _ _ x y t p p' up.new (forced_below sh op q) (forced_rank op q l),
      λ h i.
          let p = force_hands (subst (λ ds. In (hand h) ds) e i) in
          le_from S.fin _ _ h v v p refl (busy_below sh v q) le,
    )

-- one vertex more at n, and v comes to x: whose code it is
code_at_self :
    (g : ℕ → Control) (n v u : ℕ) (y x : Control) {c d : Code} → code_of x ≡ some c → u ≡ v
    → code_of (put (put g n y) v x u) ≡ some d → c ≡ d
code_at_self g n v u y x {c} {d} q e h =
    some-injective c d
    (sym q ∙ ap code_of (sym (put_same (put g n y) v x)) ∙ sym (ap (λ (z : ℕ). code_of (put (put g n y) v x z)) e) ∙ h)

code_at_new :
    (g : ℕ → Control) (n v u : ℕ) (y x : Control) {k d : Code} → code_of y ≡ some k → v < n → u ≡ n
    → code_of (put (put g n y) v x u) ≡ some d → d ≡ k
code_at_new g n v u y x {k} {d} q lt e h =
    let at : put (put g n y) v x n ≡ y = put_other (put g n y) v x n (λ e. absurd (omega arith)) ∙ put_same g n y in
    some-injective d k (sym h ∙ ap (λ (z : ℕ). code_of (put (put g n y) v x z)) e ∙ ap code_of at ∙ q)

-- the split of an item: v ranks where the rest starts
split_risen :
    {S : State} {v : ℕ} {c : Code} {ms : List ℕ} (k : Kid) → Shape S → Ranks S → S.control v ≡ busy c ms → Laid c → is_item c ≡ true
    → Risen S k (put (put S.rank S.count k.low) v (start_of (rest_of c)))
split_risen {S} {v} {c} k sh rk q l i =
    let ρ = put S.rank S.count k.low in
    let x = start_of (rest_of c) in
    let (le, le') = rest_start c l i in
    let start = rk.rank_start v c (under_way_item q i) in
    let fin = rk.code_fin v c (under_way_item q i) in
    let here : put ρ v x v ≡ x = put_same ρ v x in
    let there : (u : ℕ) → u < S.count → (u ≡ v → ⊥) → put ρ v x u ≡ S.rank u =
    λ u lt n. put_other ρ v x u n ∙ put_below S.rank S.count k.low u lt in
    record {
      new =
          put_other ρ v x S.count (λ e. let lt = busy_below sh v q in absurd (omega (arith, lt, e)))
          ∙ put_same S.rank S.count k.low;
      rises = λ u lt. ⊎_elim (λ e. rw e (omega (arith, start, le, here))) (λ n. omega (arith, there u lt n)) (equal? u v);
      within =
          λ u lt.
          ⊎_elim (λ e. rw e (omega (arith, fin, le', here))) (λ n. omega (arith, there u lt n, rk.rank_le u lt)) (equal? u v);
    }

splits_ranks :
    {S : State} {v : ℕ} {c : Code} {ms : List ℕ} {k : Kid} → Shape S → Opened S → Ranks S → S.control v ≡ busy c ms → Laid c
    → Splits S.setting.edition c ms k → Ranks (item_split S v c ms k)
unfolding code_of
splits_ranks {S} {v} {c} {ms} {k} sh op rk q l m =
    let f = stirred S.control ms in
    let n = S.count in
    let Γ = S.setting in
    let ds = todo_of S v (ms ++ (n ∷ [])) c in
    let x = behind_split S v (ms ++ (n ∷ [])) c in
    let plans = (split_of k ds sh q refl).plans in
    let below = splits_scope sh q m in
    let behind = splits_behind sh rk q l m in
    let item = splits_item m in
    let ρ = put (put S.rank n k.low) v (start_of (rest_of c)) in
    let up = split_risen k sh rk q l item in
    let at_v : ρ v ≡ start_of (rest_of c) = put_same (put S.rank n k.low) v (start_of (rest_of c)) in
    let (links, hands) = plans_rank ρ sh op rk q l m below behind up at_v in
    grown_ranks S v (fresh k.code) (scope_for S v ms k) k _ _ ρ sh rk up (splits_le l m) below behind
    (λ t x y i. plan_cases plans t i (λ e j. inr (links x y j)) (λ ne j. inl j))
    (λ t h i. plan_cases plans t i (λ e j. inr (rw e (hands h j))) (λ ne j. inl j))
    (λ u d h i.
    ⊎_elim
    (λ e.
    let (at, le) = splits_spans m (code_at_new f n v u (fresh k.code) x refl (busy_below sh v q) e h) in inl (e, at, le))
    (λ nc.
    ⊎_elim
    (λ e.
    let same = code_at_self f n v u (fresh k.code) x (code_onward (goes Γ c) ds) e h in
    let (at, le) = goes_rest Γ m same i in
    inr (rw e (c, under_way_item q item, at, omega (arith, at_v, le))))
    (λ nv.
    let had : HasItem S u d = (sym (split_codes S.control ms n v k.code x u nv nc) ∙ h, i) in
    let lt = coded_below sh u had.0 in
    let same = put_other (put S.rank n k.low) v (start_of (rest_of c)) u nv ∙ put_below S.rank n k.low u lt in
    inr (d, had, refl, omega (arith, same, rk.rank_start u d had)))
    (equal? u v))
    (equal? u n))

-- a make that does not split
makes_ranks :
    {Γ : Setting} {v : ℕ} {S : State} {c : Code} {ms : List ℕ} {k : Kid} (ms' : List ℕ) → Shape S → Ranks S → S.control v ≡ busy c ms
    → Laid c → Makes Γ c ms k → Ranks (one_more S v ms (busy c ms') k)
unfolding tasks code_of
makes_ranks {v = v} {S = S} {c = c} {ms = ms} {k = k} ms' sh rk q l m =
    let below = makes_scope sh q m in
    let behind = makes_behind rk q l m in
    let f = S.control in
    let n = S.count in
    let y = draft k.code in
    let ρ = put S.rank n k.low in
    let same : (u : ℕ) → u < n → ρ u ≡ S.rank u = put_below S.rank n k.low in
    let up : Risen S k ρ = record {
      new = put_same S.rank n k.low;
      rises = λ u lt. omega (arith, same u lt);
      within = λ u lt. omega (arith, same u lt, rk.rank_le u lt);
    } in
    let task = puts_keep tasks f n v y (busy c ms') (sym (over_idle (sh.beyond n (omega arith)))) (sym (ap tasks q)) in
    let starts : (u : ℕ) (d : Code) → HasItem S u d → ρ u ≤ start_of d =
    λ u d h. omega (arith, same u (coded_below sh u h.0), rk.rank_start u d h) in
    grown_ranks S v y (scope_for S v ms k) k _ _ ρ sh rk up (makes_le l m) below behind
    (λ t x y i. inl (subst (λ ds. In (link x y) ds) (task t) i))
    (λ t h i. inl (subst (λ ds. In (hand h) ds) (task t) i))
    (λ u d h i.
    ⊎_elim
    (λ e. let (at, le) = makes_spans m (code_at_new f n v u y (busy c ms') refl (busy_below sh v q) e h) i in inl (e, at, le))
    (λ nc.
    ⊎_elim
    (λ e.
    let is : c ≡ d = code_at_self f n v u y (busy c ms') refl e h in
    let had = under_way_item q (makes_item m) in
    inr (rw e (c, had, ap last is, omega (arith, starts v c had, ap start_of is))))
    (λ nv.
    let had : HasItem S u d = (sym (ap code_of (put_other (put f n y) v (busy c ms') u nv ∙ put_other f n y u nc)) ∙ h, i) in
    inr (d, had, refl, starts u d had))
    (equal? u v))
    (equal? u n))

-- a control changed at v: the code of the others
code_put : (f : ℕ → Control) (v u : ℕ) (x : Control) {d : Code} → (u ≡ v → ⊥) → code_of (put f v x u) ≡ some d → code_of (f u) ≡ some d
code_put f v u x ne h = sym (ap code_of (put_other f v x u ne)) ∙ h

-- every move leaves the ranks; p is the program
pub ranks_kept :
    {v : ℕ} {S S' : State} {e : Event} (p : Code) → Laid p → Shape S → Opened S → Ranks S → Coded p S → Move S v e S' → Ranks S'
unfolding tasks code_of is_item last start_of Laid done
ranks_kept {v = v} {S = S} p l sh op rk cd (begins {c = c} q f) =
    still S _ S.edge rk rk.edge_rank
    (λ t d. subst (λ ds. In d ds) (put_keeps tasks S.control v (busy c []) (sym (ap tasks q)) t))
    (λ u d h i. (d, (sym (put_keeps code_of S.control v (busy c []) (sym (ap code_of q)) u) ∙ h, i), refl, omega arith))
ranks_kept {v = v} {S = S} p l sh op rk cd (performs {o = o} {n = n} {r = r} q) =
    still S _ S.edge rk rk.edge_rank
    (λ t d. subst (λ ds. In d ds) (put_keeps tasks S.control v (busy r []) (sym (ap tasks q)) t))
    (λ u d h i.
    ⊎_elim
    (λ e.
    let same = sym (put_same S.control v (busy r [])) ∙ sym (ap (put S.control v (busy r [])) e) in
    let is : r ≡ d = some-injective r d (ap code_of same ∙ h) in
    let laid = code_laid p _ l (cd v (job_at o n r) (ap code_of q)) in
    rw e (job_at o n r, (ap code_of q, refl), ap last is, omega (arith, laid.0.starts, ap start_of is)))
    (λ ne. (d, (code_put S.control v u (busy r []) ne h, i), refl, omega arith))
    (equal? u v))
ranks_kept {v = v} {S = S} p l sh op rk cd (stops q) =
    still S _ _ rk (λ a b e. rk.edge_rank a b (dropped_edge S.edge v a b e))
    (λ t d. subst (λ ds. In d ds) (put_keeps tasks S.control v over (sym (ap tasks q)) t))
    (λ u d h i.
    ⊎_elim
    (λ e. absurd (over_uncoded (ap (put S.control v over) e ∙ put_same S.control v over) h))
    (λ ne. (d, (code_put S.control v u over ne h, i), refl, omega arith))
    (equal? u v))
ranks_kept {v = v} {S = S} p l sh op rk cd (makes {c = c} {ms = ms} q w) =
    makes_ranks _ sh rk q (code_laid p _ l (cd v c (ap code_of q))) (makes_at S.setting c ms w)
ranks_kept {v = v} {S = S} p l sh op rk cd (splits {c = c} {ms = ms} q w) =
    splits_ranks sh op rk q (code_laid p _ l (cd v c (ap code_of q))) (splits_at S.setting c ms w)
ranks_kept {v = v} {S = S} p l sh op rk cd (acts {c = c} {d = link a b} {ds = ds} q) =
    let D = acts_did {S = S} {v = v} sh q in
    still S _ _ rk
    (λ x y e.
    linked_if_cases (live (S.control a)) S.edge a b x y e (rk.edge_rank x y)
    (λ t i j. rw (i, j) (rk.link_rank v a b (subst (λ ds. In (link a b) ds) (sym (ap tasks q)) here))))
    (λ t d. task_stood D t)
    (λ u d h i. (d, (sym (acts_keeps S v code_of (λ c. refl) (code_resumed c _ ds) q u) ∙ h, i), refl, omega arith))
ranks_kept {v = v} {S = S} p l sh op rk cd (acts {c = c} {d = hand h} {ds = ds} q) =
    let D = acts_did {S = S} {v = v} sh q in
    let le = rk.hand_rank v h (subst (λ ds. In (hand h) ds) (sym (ap tasks q)) here) in
    still S _ _ rk
    (λ x y e.
    handed_cases S.edge v h x y e (λ e ne. rk.edge_rank x y e)
    (λ i e. rw i (omega (arith, le, rk.edge_rank v y e))))
    (λ t d. task_stood D t)
    (λ u d h i. (d, (sym (acts_keeps S v code_of (λ c. refl) (code_resumed c _ ds) q u) ∙ h, i), refl, omega arith))
ranks_kept {v = v} {S = S} p l sh op rk cd (acts {c = c} {d = free m} {ds = ds} q) =
    let D = acts_did {S = S} {v = v} sh q in
    still S _ S.edge rk rk.edge_rank
    (λ t d. task_stood D t)
    (λ u d h i. (d, (sym (acts_keeps S v code_of (λ c. refl) (code_resumed c _ ds) q u) ∙ h, i), refl, omega arith))
ranks_kept {v = v} {S = S} p l sh op rk cd (acts {c = c} {d = yield} {ds = ds} q) =
    let D = acts_did {S = S} {v = v} sh q in
    still S _ S.edge rk rk.edge_rank
    (λ t d. task_stood D t)
    (λ u d h i. (d, (sym (acts_keeps S v code_of (λ c. refl) (code_resumed c _ ds) q u) ∙ h, i), refl, omega arith))
