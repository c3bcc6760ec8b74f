-- Whatever is reached from a loading follows a run of the ghost machine: each accepted step is one of its moves, and the answers tell its
-- events. All counts of answers are then counts of events.
use Prim.Native.Nat.{ℕ, suc, ◌+◌, ◌-◌, ◌*◌, ◌/◌, ◌%◌, ◌<◌, ◌≤◌, min}
use mathlib.Core.Path.{◌≡◌, refl, sym, ◌∙◌, ap, subst}
use mathlib.Core.Bool.{Bool, true, false, cond}
use mathlib.Core.Logic.{◌⊎◌, inl, inr}
use mathlib.Core.List.{List, [], ◌∷◌, ◌++◌}
use native.Mathlib.Omega.{arith}
use lib.Dec.{ltb}
use lib.ListN.{length, length-append}
use Rattle.graph.specs.Tables.{Lent, usable_limit, vertex_words, edge_words, vertex_rows}
use Rattle.graph.specs.Tables as tables
use Rattle.graph.specs.Answers.{Outcome}
use Rattle.graph.specs.InCounts.{CountsTrue}
use Rattle.program.specs.Limits.{number_bytes, program_bytes, vertex_limit}
use Rattle.program.specs.Trees.{jobs, forces, Body, end, job, async, finish, fork, future, force, total, same, counts}
use Rattle.program.specs.declared.Edition.{Edition}
use Rattle.program.specs.declared.Edition.TheVariants.{First, Second}
use Rattle.program.specs.Encodings.{vertices_made, edge_rows_needed, steps_taken, fork_vertices, fork_steps}
use Rattle.program.specs.Reader.{reading, program}
use Rattle.program.specs.Bytes.{top_bit, encode_number, group_bytes, encode, size}
use Rattle.program.specs.Located.{located, start_of, job_at}
use Rattle.program.specs.Claims.{Loadable}
use Rattle.program.proofs.LocatedLaws.{laid_located}
use Rattle.program.proofs.OpenLaws.{Opens, opens_locate}
use Rattle.program.proofs.Formulas.{vertices_formula, steps_formula}
use Rattle.program.proofs.Exactness.{reading_sound}
use Rattle.machine.specs.Answers.{StepSaid, accepted, is_loaded}
use Rattle.machine.specs.Answers as said
use Rattle.machine.specs.Loading.{load}
use Rattle.machine.specs.Stepping.{step, step_limit}
use Rattle.machine.specs.Demand2.{Lends}
use Rattle.machine.specs.Reached.{Reached, begun, stepped}
use Rattle.machine.specs.Demand3.{accepted_in, answers_job, ran_in, Written, written, Answered, first, later, ByChoice}
use Rattle.machine.proofs.LoadLaws.{load_accepted}
use Rattle.machine.proofs.LookLaws.{step_true}
use Rattle.machine.proofs.GhostMachine.Ghost.{State, Event, a_new, an_edge, Move}
use Rattle.machine.proofs.GhostMachine.Invariant.{Coded, code_of}
use Rattle.machine.proofs.GhostMachine.GhostLaws.{clash}
use Rattle.machine.proofs.GhostMachine.Beginning.{beginning}
use Rattle.machine.proofs.GhostMachine.InvariantKept.{Inv, inv_beginning, inv_kept}
use Rattle.machine.proofs.Counting.Weights.{spent, news, links, job_count}
use Rattle.machine.proofs.Counting.Conservation.{Runs, no_move, and_then}
use Rattle.machine.proofs.Counting.CountLaws.{move_count, steps_bound, vertices_bound, edges_bound}
use Rattle.machine.proofs.TablesFollow.Follows.{setting_of, Follows, Refuses, absent, blocked, still_new, already_over, Answers, says_start, says_new}
use Rattle.machine.proofs.TablesFollow.Follows.{says_edge, says_release, says_transfer, says_job, says_stop, says_yield, Tallied, Followed}
use Rattle.machine.proofs.TablesFollow.Follows.{refused, moved}
use Rattle.machine.proofs.TablesFollow.StepFollows.{step_follows}
use Rattle.machine.proofs.TablesFollow.LoadFollows.{load_follows, last_byte}

-- one answer more
pub accepted_snoc : (answers : List StepSaid) (a : StepSaid) → accepted_in (answers ++ (a ∷ [])) ≡ accepted_in answers + cond (accepted a) 1 0
unfolding accepted_in
accepted_snoc [] a = omega arith
accepted_snoc (b ∷ answers) a = let h = accepted_snoc answers a in omega (arith, h)

pub ran_snoc : (o : ℕ) (answers : List StepSaid) (a : StepSaid) → ran_in o (answers ++ (a ∷ [])) ≡ ran_in o answers + answers_job o a
unfolding ran_in
ran_snoc o [] a = omega arith
ran_snoc o (b ∷ answers) a = let h = ran_snoc o answers a in omega (arith, h)

answered_snoc : {a b : StepSaid} (answers : List StepSaid) → Answered a (answers ++ (b ∷ [])) → Answered a answers ⊎ (a ≡ b)
answered_snoc {a = a} {b = b} [] (later i) = elim i [ ]
answered_snoc [] first = inr refl
answered_snoc (c ∷ answers) first = inl first
answered_snoc {a} {b} (c ∷ answers) (later i) = more (answered_snoc answers i)
  where
    more : Answered a answers ⊎ (a ≡ b) → Answered a (c ∷ answers) ⊎ (a ≡ b)
    more (inl j) = inl (later j)
    more (inr e) = inr e

-- The state and the events of the ghost machine that what was reached follows. The words that start reads are true there.
pub record Tracked (ed : Edition) (bytes : List ℕ) (t : Body) (s₀ : Lent) (answers : List StepSaid) (s : Lent) : Type 0 where
  pub state : State
  pub events : List Event
  pub runs : Runs (beginning (located t) (setting_of ed bytes)) events state
  pub inv : Inv (located t) state
  pub follows : Follows (located t) (setting_of ed bytes) s state
  pub counts_true : CountsTrue s
  pub steps_are : s.steps ≡ length events
  pub accepted_are : accepted_in answers ≡ length events
  pub jobs_are : (o : ℕ) → ran_in o answers ≡ spent (job_count o) events
  pub held_le : s.held ≤ 1 + spent links events
  pub vertex_length : length s.vertices ≡ length s₀.vertices
  pub edge_length : length s.edges ≡ length s₀.edges
  pub refusals : (n p : ℕ) → Answered (said.refused n p) answers → ByChoice n
  pub only_written : (n o : ℕ) → Answered (said.job n o) answers → Written t o n

-- each force of a program has its future
pub opens_located : (ed : Edition) (bytes : List ℕ) (t : Body) → reading ed bytes ≡ program t → Opens [] (located t)
unfolding located
opens_located ed bytes t r = opens_locate [] 0 t (reading_sound ed bytes t r).1.forced

-- After loading.
pub tracked_begun :
    (ed : Edition) (bytes : List ℕ) (t : Body) (s₀ : Lent) → reading ed bytes ≡ program t → is_loaded (load ed bytes s₀).answer ≡ true
    → Tracked ed bytes t s₀ [] (load ed bytes s₀).after
unfolding accepted_in ran_in spent
tracked_begun ed bytes t s₀ r h =
    let (f, b) = load_follows ed bytes s₀ t r h in
    record {
      state = beginning (located t) (setting_of ed bytes);
      events = [];
      runs = no_move;
      inv = inv_beginning t (setting_of ed bytes) (last_byte ed bytes t r) (opens_located ed bytes t r);
      follows = f;
      counts_true = b.counts_true;
      steps_are = b.steps_none;
      accepted_are = refl;
      jobs_are = λ o. refl;
      held_le = omega (arith, b.held_one);
      vertex_length = b.vertex_length;
      edge_length = b.edge_length;
      refusals = λ n p i. none i;
      only_written = λ n o i. none i;
    }
  where
    none : {A : Type 0} {a : StepSaid} → Answered a [] → A
    none = elim [ ]

-- What an answer tells of its event.
module _ {S : State} {v : ℕ} where
  pub answers_accepted : {e : Event} {a : StepSaid} → Answers S v e a → accepted a ≡ true
  answers_accepted says_start = refl
  answers_accepted says_new = refl
  answers_accepted (says_edge a b new) = refl
  answers_accepted (says_release m) = refl
  answers_accepted (says_transfer h) = refl
  answers_accepted (says_job at) = refl
  answers_accepted says_stop = refl
  answers_accepted says_yield = refl

  pub answers_jobs : {e : Event} {a : StepSaid} → Answers S v e a → (o : ℕ) → answers_job o a ≡ job_count o e
  unfolding answers_job job_count
  answers_jobs says_start o = refl
  answers_jobs says_new o = refl
  answers_jobs (says_edge a b new) o = refl
  answers_jobs (says_release m) o = refl
  answers_jobs (says_transfer h) o = refl
  answers_jobs (says_job at) o = refl
  answers_jobs says_stop o = refl
  answers_jobs says_yield o = refl

  answers_written : {t : Body} {e : Event} {a : StepSaid} {n o : ℕ} → Coded (located t) S → Answers S v e a → said.job n o ≡ a → Written t o n
  unfolding code_of start_of
  answers_written coded says_start h = clash cc
  answers_written coded says_new h = clash cc
  answers_written coded (says_edge a b new) h = clash cc
  answers_written coded (says_release m) h = clash cc
  answers_written coded (says_transfer x) h = clash cc
  answers_written {t} {n} {o} coded (says_job {o = o'} {n = n'} {r} at) h =
      let same : (n ≡ n') × (o ≡ o') = (cc, cc) in
      let found = coded v (job_at o' n' r) (ap code_of at) in
      subst (λ (x : ℕ). Written t o x) (sym same.0) (subst (λ (x : ℕ). Written t x n') (sym same.1) (written r found))
  answers_written coded says_stop h = clash cc
  answers_written coded says_yield h = clash cc

-- a refusal that the ghost machine knows is the host's choice
by_choice : {S : State} {v n : ℕ} → Refuses S v n → ByChoice n
by_choice (absent h) = inl refl
by_choice (blocked at u h) = inr (inl refl)
by_choice (still_new h) = inr (inr (inl refl))
by_choice (already_over lt h) = inr (inr (inr refl))

-- a number has a byte
group_some : (room n : ℕ) → 1 ≤ length (group_bytes (suc room) n)
unfolding group_bytes
group_some room n = go (ltb n top_bit)
  where
    go : (b : Bool) → 1 ≤ length (cond b (n ∷ []) ((top_bit + n % top_bit) ∷ group_bytes room (n / top_bit)))
    go true = omega arith
    go false = omega arith

number_some : (n : ℕ) → 1 ≤ length (encode_number n)
unfolding encode_number
number_some n = group_some (number_bytes - 1) n

-- each job and each force has two bytes at least
numbers_short : (b : Body) → 2 * (total (same jobs) b + total (same forces) b) < size b
unfolding total same size encode
numbers_short end = omega arith
numbers_short (job n r) = omega (arith, numbers_short r, number_some n, length-append (encode_number n) (encode r))
numbers_short (async b r) = omega (arith, numbers_short b, numbers_short r, length-append (encode b) (encode r))
numbers_short (finish b r) = omega (arith, numbers_short b, numbers_short r, length-append (encode b) (encode r))
numbers_short (fork b c r) =
    let parts = length-append (encode b) (encode c ++ encode r) in
    omega (arith, numbers_short b, numbers_short c, numbers_short r, parts, length-append (encode c) (encode r))
numbers_short (future b r) = omega (arith, numbers_short b, numbers_short r, length-append (encode b) (encode r))
numbers_short (force n r) = omega (arith, numbers_short r, number_some n, length-append (encode_number n) (encode r))

-- a program takes fewer steps than the tally may count: a fork's are at most six for each vertex that it makes
fork_few : (ed : Edition) (n : ℕ) → fork_steps ed * n ≤ 6 * (fork_vertices ed * n)
unfolding fork_steps fork_vertices
fork_few First n = omega arith
fork_few Second n = omega arith

few_steps : (ed : Edition) (t : Body) → Loadable ed t → steps_taken ed t < step_limit
unfolding counts
few_steps ed t h =
    let w = numbers_short t in
    let z : size t ≤ program_bytes = h.bytes in
    let v : vertices_made ed t ≤ vertex_limit = h.made in
    let f : fork_steps ed * (counts t).k ≤ 6 * (fork_vertices ed * (counts t).k) = fork_few ed (counts t).k in
    omega (arith, w, z, v, f, vertices_formula ed t, steps_formula ed t)

-- The rows lent at loading are lent still.
vertex_rows_are : (s s₀ : Lent) → length s.vertices ≡ length s₀.vertices → vertex_rows s.vertices ≡ vertex_rows s₀.vertices
vertex_rows_are s s₀ h = ap (λ (n : ℕ). min usable_limit (n / vertex_words)) h

edge_rows_are : (s s₀ : Lent) → length s.edges ≡ length s₀.edges → tables.edge_rows s.edges ≡ tables.edge_rows s₀.edges
edge_rows_are s s₀ h = ap (λ (n : ℕ). min usable_limit (n / edge_words)) h

-- One step more.
module _ (ed : Edition) (bytes : List ℕ) (t : Body) (s₀ : Lent) (r : reading ed bytes ≡ program t) (lends : Lends ed t s₀) where
  module _ {answers : List StepSaid} {s : Lent} (T : Tracked ed bytes t s₀ answers s) (v : ℕ) where
    -- a vertex row is free for a vertex that is due
    room_new : (S' : State) → Move T.state v a_new S' → s.made < vertex_rows s.vertices
    unfolding news
    room_new S' m =
        let a : S'.count ≤ vertices_made ed t = vertices_bound t (setting_of ed bytes) (and_then T.runs m) in
        let b : S'.count ≡ news a_new + T.state.count = move_count m in
        omega (arith, a, b, T.follows.made_is, lends.enough_vertex_rows, vertex_rows_are s s₀ T.vertex_length)

    -- an edge row is free for an edge that is due
    room_edge : (S' : State) → Move T.state v an_edge S' → s.held < tables.edge_rows s.edges
    unfolding spent links
    room_edge S' m =
        let a : 1 + spent links (an_edge ∷ T.events) ≤ edge_rows_needed ed t =
        edges_bound t (setting_of ed bytes) (and_then T.runs m)
        in
        omega (arith, a, T.held_le, lends.enough_edge_rows, edge_rows_are s s₀ T.edge_length)

    -- the tally is not used up
    pub room_steps : s.steps < step_limit
    room_steps =
        let a : length T.events ≤ steps_taken ed t = steps_bound t (setting_of ed bytes) T.runs in
        omega (arith, a, T.steps_are, few_steps ed t (reading_sound ed bytes t r).1)

    refused_tracked : (n : ℕ) → Refuses T.state v n → Tracked ed bytes t s₀ (answers ++ (said.refused n 0 ∷ [])) s
    unfolding answers_job
    refused_tracked n h =
        record {
          state = T.state;
          events = T.events;
          runs = T.runs;
          inv = T.inv;
          follows = T.follows;
          counts_true = T.counts_true;
          steps_are = T.steps_are;
          accepted_are = omega (arith, accepted_snoc answers (said.refused n 0), T.accepted_are);
          jobs_are = λ o. omega (arith, ran_snoc o answers (said.refused n 0), T.jobs_are o);
          held_le = T.held_le;
          vertex_length = T.vertex_length;
          edge_length = T.edge_length;
          refusals = λ k p i. chosen k p (answered_snoc answers i);
          only_written = λ k o i. old k o (answered_snoc answers i);
        }
      where
        chosen : (k p : ℕ) → Answered (said.refused k p) answers ⊎ (said.refused k p ≡ said.refused n 0) → ByChoice k
        chosen k p (inl i) = T.refusals k p i
        chosen k p (inr e) = let q : k ≡ n = cc in subst ByChoice (sym q) (by_choice h)

        old : (k o : ℕ) → Answered (said.job k o) answers ⊎ (said.job k o ≡ said.refused n 0) → Written t o k
        old k o (inl i) = T.only_written k o i
        old k o (inr e) = clash cc

    pub moved_tracked :
        {e : Event} {S' : State} {a : StepSaid} {s' : Lent} → Move T.state v e S'
        → Follows (located t) (setting_of ed bytes) s' S' → CountsTrue s' → Answers T.state v e a → Tallied e s s'
        → Tracked ed bytes t s₀ (answers ++ (a ∷ [])) s'
    unfolding spent
    moved_tracked {e} {S'} {a} {s'} m f true_after says tally =
        record {
          state = S';
          events = e ∷ T.events;
          runs = and_then T.runs m;
          inv = inv_kept (located t) (laid_located t) T.inv m;
          follows = f;
          counts_true = true_after;
          steps_are = omega (arith, tally.steps_are, T.steps_are);
          accepted_are = counted (accepted a) (answers_accepted says) (accepted_snoc answers a);
          jobs_are = λ o. omega (arith, ran_snoc o answers a, answers_jobs says o, T.jobs_are o);
          held_le = omega (arith, tally.held_le, T.held_le);
          vertex_length = tally.vertex_length ∙ T.vertex_length;
          edge_length = tally.edge_length ∙ T.edge_length;
          refusals = λ k p i. old k p (answered_snoc answers i);
          only_written = λ k o i. wrote k o (answered_snoc answers i);
        }
      where
        counted :
            (b : Bool) → b ≡ true → accepted_in (answers ++ (a ∷ [])) ≡ accepted_in answers + cond b 1 0
            → accepted_in (answers ++ (a ∷ [])) ≡ suc (length T.events)
        counted true p h = omega (arith, h, T.accepted_are)
        counted false p h = clash (sym p)

        old : (k p : ℕ) → Answered (said.refused k p) answers ⊎ (said.refused k p ≡ a) → ByChoice k
        old k p (inl i) = T.refusals k p i
        old k p (inr q) = clash (sym (answers_accepted says) ∙ ap accepted (sym q))

        wrote : (k o : ℕ) → Answered (said.job k o) answers ⊎ (said.job k o ≡ a) → Written t o k
        wrote k o (inl i) = T.only_written k o i
        wrote k o (inr q) = answers_written T.inv.coded says q

    pub moved_state :
        {e : Event} {S' : State} {a : StepSaid} {s' : Lent} (m : Move T.state v e S') (f : Follows (located t) (setting_of ed bytes) s' S')
        (true_after : CountsTrue s') (says : Answers T.state v e a) (tally : Tallied e s s')
        → (moved_tracked m f true_after says tally).state ≡ S'
    unfolding moved_tracked
    moved_state m f true_after says tally = refl

    -- what the step is of the ghost machine
    pub stepped_as : Followed (located t) (setting_of ed bytes) s T.state v (step ed bytes s v)
    stepped_as =
        let inv = T.inv in
        step_follows ed bytes t s T.state v r inv.shape inv.ranks inv.scopes inv.opened inv.coded inv.unsplit T.follows
        T.counts_true
        room_steps
        room_new room_edge

    pub tracked_stepped : Tracked ed bytes t s₀ (answers ++ ((step ed bytes s v).answer ∷ [])) (step ed bytes s v).after
    tracked_stepped = go (step ed bytes s v) (step_true ed bytes s v T.counts_true) stepped_as
      where
        go :
            (o : Outcome StepSaid) → CountsTrue o.after → Followed (located t) (setting_of ed bytes) s T.state v o
            → Tracked ed bytes t s₀ (answers ++ (o.answer ∷ [])) o.after
        go o true_after (refused n h e) = rw e (refused_tracked n h)
        go o true_after (moved e S' m f says tally) = moved_tracked m f true_after says tally

-- The rows that the program needs were lent.
pub rows_lent :
    (ed : Edition) (bytes : List ℕ) (t : Body) {s₀ : Lent} {answers : List StepSaid} {s : Lent} → reading ed bytes ≡ program t
    → Reached ed bytes s₀ answers s → Lends ed t s₀
rows_lent ed bytes t {s₀} r (begun h) = (load_accepted ed bytes s₀ t r h).0
rows_lent ed bytes t r (stepped q v) = rows_lent ed bytes t r q

-- Whatever is reached is tracked.
pub tracked :
    (ed : Edition) (bytes : List ℕ) (t : Body) {s₀ : Lent} {answers : List StepSaid} {s : Lent} → reading ed bytes ≡ program t
    → Reached ed bytes s₀ answers s → Tracked ed bytes t s₀ answers s
tracked ed bytes t {s₀} r (begun h) = tracked_begun ed bytes t s₀ r h
tracked ed bytes t {s₀} r (stepped q v) = tracked_stepped ed bytes t s₀ r (rows_lent ed bytes t r q) (tracked ed bytes t r q) v
