-- What is counted, as instances of the conservation law: vertices, edge rows, steps, and each job.
--
-- At the beginning a program's state weighs what the table of commands says of its items; so what has been done in a run never weighs more,
-- and weighs as much once every vertex is over. A job is weighed by its offset, which no other job of laid code has.
--
-- Of beginning (located t) Γ:
--     steps_total       total each ≡ steps_taken Γ.edition t
--     vertices_total    2 + total news ≡ vertices_made Γ.edition t
--     edges_total       1 + total links ≡ edge_rows_needed Γ.edition t
-- Of what Runs from there to S with the events es:
--     steps_run         length es + total each S ≡ steps_taken Γ.edition t
--     steps_bound       length es ≤ steps_taken Γ.edition t
--     vertices_bound    S .count ≤ vertices_made Γ.edition t
--     edges_bound       1 + spent links es ≤ edge_rows_needed Γ.edition t
-- and for any laid p, where spent (job_count q) es is how often the job at q was done:
--     job_once          it is at most 1
--     job_past          it is 1, if a job is written at q and total (job_count q) S ≡ 0
--     job_done          it is 1, if a job is written at q and total each S ≡ 0
--     job_gone          if it is 1, nothing of the job is left to any vertex
-- Of any state S:
--     all_over          total each S ≡ 0 → every vertex is over
--     over_all          every vertex is over → total ω S ≡ 0, for any ω
use Prim.Native.Nat.{ℕ, zero, suc, ◌+◌, ◌*◌, ◌<◌, ◌≤◌}
use mathlib.Core.Path.{◌≡◌, refl, sym, ◌∙◌, ap}
use mathlib.Core.Logic.{◌⊎◌, ⊎_elim}
use mathlib.Core.List.{List, [], ◌∷◌}
use native.Mathlib.Nat.{eq-or-lt_of_le, le_of_suc-le-suc}
use native.Mathlib.Omega.{arith}
use lib.ListN.{length}
use borrow.Author.Tests.{eq-eqb, ne_eqb}
use Rattle.graph.proofs.TestLaws.{equal?}
use Rattle.program.specs.Trees.{Kind, jobs, asyncs, finishes, forks, futures, forces, Body, end, job, async, finish, fork, future, force}
use Rattle.program.specs.Trees as trees
use Rattle.program.specs.declared.Edition.{Edition}
use Rattle.program.specs.declared.Edition.TheVariants.{First, Second}
use Rattle.program.specs.Encodings as table
use Rattle.program.specs.Encodings.{Command, perform, new_td, new_edge, transfer, release, fork_row, row_of, weight, items_weight, vertices_made}
use Rattle.program.specs.Encodings.{edge_rows_needed, steps_taken}
use Rattle.program.specs.Bytes.{number_size, size}
use Rattle.program.specs.Located.{Code, end_byte_at, job_at, async_at, finish_at, fork_at, future_at, force_at, locate, located, start_of, last}
use Rattle.program.proofs.LocatedLaws.{Laid}
use Rattle.machine.proofs.GhostMachine.Ghost.{Event, a_start, a_new, an_edge, a_release, a_transfer, a_job, a_stop, a_yield, event_of, Do, link}
use Rattle.machine.proofs.GhostMachine.Ghost.{hand, free, yield, over, Setting, State, Move, begins, performs, stops, makes, splits, acts}
use Rattle.machine.proofs.GhostMachine.Beginning.{beginning}
use Rattle.machine.proofs.GhostMachine.BeginningShape.{shape_beginning}
use Rattle.machine.proofs.Counting.Weights.{kid_weight, join_weight, joins_weight, fork_rest, body_weight, left, total_below, total, spent, each, news}
use Rattle.machine.proofs.Counting.Weights.{links, job_count}
use Rattle.machine.proofs.Counting.Conservation.{nothing_left, done_count, Runs, no_move, and_then, runs_pay}
use Rattle.machine.proofs.JobOrder.Order.{Job}

-- Code by its items.

-- what a command weighs, with j for a job
unfoldable command_weight : (Event → ℕ) → ℕ → Command → ℕ
command_weight ω j perform = j
command_weight ω j (new_td p a) = ω a_new
command_weight ω j (new_edge a b) = ω an_edge
command_weight ω j (transfer a) = ω a_transfer
command_weight ω j (release a) = ω a_release
command_weight ω j table.yield = ω a_yield + ω a_start

-- an item's commands, and a start and a stop for each vertex that it makes
unfoldable kind_weight : Edition → (Event → ℕ) → ℕ → Kind → ℕ
kind_weight ed ω j k =
    weight (command_weight ω j) (row_of ed k).commands + weight table.makes (row_of ed k).commands * (ω a_start + ω a_stop)

-- a fork whose branches and rest have so much to do besides one stop each
fork_weight :
    (ed : Edition) (ω : Event → ℕ) (j b c r : ℕ)
    → kid_weight ω (ω a_stop + b) + (kid_weight ω (ω a_stop + c) + (joins_weight ed ω forks + fork_rest ed ω (ω a_stop + r)))
    ≡ ω a_stop + (kind_weight ed ω j forks + (b + (c + r)))
unfolding joins_weight join_weight fork_rest kind_weight command_weight weight table.makes row_of fork_row
fork_weight First ω j b c r = omega arith
fork_weight Second ω j b c r = omega arith

-- where all jobs weigh the same, code weighs what its items do, and one stop
items_weight_lem :
    (ed : Edition) (ω : Event → ℕ) (j : ℕ) → ((o : ℕ) → ω (a_job o) ≡ j) → (opened : List Code) (o : ℕ) (b : Body)
    → body_weight ed ω (locate opened o b) ≡ ω a_stop + trees.total (kind_weight ed ω j) b
unfolding locate body_weight joins_weight join_weight trees.total kind_weight command_weight weight table.makes row_of
items_weight_lem ed ω j same fs o end = omega arith
items_weight_lem ed ω j same fs o (job n r) = omega (arith, same o, items_weight_lem ed ω j same fs (suc (o + number_size n)) r)
items_weight_lem ed ω j same fs o (async b r) =
    omega (arith, items_weight_lem ed ω j same fs (suc o) b, items_weight_lem ed ω j same fs (suc (o + size b)) r)
items_weight_lem ed ω j same fs o (finish b r) =
    omega (arith, items_weight_lem ed ω j same fs (suc o) b, items_weight_lem ed ω j same fs (suc (o + size b)) r)
items_weight_lem ed ω j same fs o (fork b c r) =
    let left = items_weight_lem ed ω j same fs (suc o) b in
    let right = items_weight_lem ed ω j same fs (suc (o + size b)) c in
    let past = items_weight_lem ed ω j same fs (suc (o + size b + size c)) r in
    rw (left, right, past) (fork_weight ed ω j _ _ _)
items_weight_lem ed ω j same fs o (future b r) =
    omega (arith, items_weight_lem ed ω j same fs (suc o) b, items_weight_lem ed ω j same (locate fs (suc o) b ∷ fs) (suc (o + size b)) r)
items_weight_lem ed ω j same fs o (force n r) = omega (arith, items_weight_lem ed ω j same fs (suc (o + number_size n)) r)

-- sums over the items of the same weights
total_same : (f g : Kind → ℕ) → ((k : Kind) → f k ≡ g k) → (b : Body) → trees.total f b ≡ trees.total g b
unfolding trees.total
total_same f g same end = refl
total_same f g same (job n r) = omega (arith, same jobs, total_same f g same r)
total_same f g same (async b r) = omega (arith, same asyncs, total_same f g same b, total_same f g same r)
total_same f g same (finish b r) = omega (arith, same finishes, total_same f g same b, total_same f g same r)
total_same f g same (fork b c r) =
    omega (arith, same forks, total_same f g same b, total_same f g same c, total_same f g same r)
total_same f g same (future b r) = omega (arith, same futures, total_same f g same b, total_same f g same r)
total_same f g same (force n r) = omega (arith, same forces, total_same f g same r)

-- with a second sum counted twice
total_plus : (f g : Kind → ℕ) (b : Body) → trees.total (λ k. f k + 2 * g k) b ≡ trees.total f b + 2 * trees.total g b
unfolding trees.total
total_plus f g end = omega arith
total_plus f g (job n r) = omega (arith, total_plus f g r)
total_plus f g (async b r) = omega (arith, total_plus f g b, total_plus f g r)
total_plus f g (finish b r) = omega (arith, total_plus f g b, total_plus f g r)
total_plus f g (fork b c r) = omega (arith, total_plus f g b, total_plus f g c, total_plus f g r)
total_plus f g (future b r) = omega (arith, total_plus f g b, total_plus f g r)
total_plus f g (force n r) = omega (arith, total_plus f g r)

-- each kind, by the weights of the table
each_kind :
    (ed : Edition) (k : Kind)
    → kind_weight ed each 1 k ≡ weight table.does (row_of ed k).commands + 2 * weight table.makes (row_of ed k).commands
unfolding kind_weight command_weight weight table.makes table.does row_of fork_row
each_kind ed jobs = omega arith
each_kind ed asyncs = omega arith
each_kind ed finishes = omega arith
each_kind First forks = omega arith
each_kind Second forks = omega arith
each_kind ed futures = omega arith
each_kind ed forces = omega arith

-- and so all items
each_items :
    (ed : Edition) (b : Body)
    → trees.total (kind_weight ed each 1) b ≡ items_weight ed table.does b + 2 * items_weight ed table.makes b
unfolding items_weight
each_items ed b = total_same _ _ (each_kind ed) b ∙ total_plus _ _ b

news_kind : (ed : Edition) (k : Kind) → kind_weight ed news 0 k ≡ weight table.makes (row_of ed k).commands
unfolding kind_weight command_weight weight news table.makes row_of fork_row
news_kind ed jobs = omega arith
news_kind ed asyncs = omega arith
news_kind ed finishes = omega arith
news_kind First forks = omega arith
news_kind Second forks = omega arith
news_kind ed futures = omega arith
news_kind ed forces = omega arith

links_kind : (ed : Edition) (k : Kind) → kind_weight ed links 0 k ≡ weight table.links (row_of ed k).commands
unfolding kind_weight command_weight weight links table.makes table.links row_of fork_row
links_kind ed jobs = omega arith
links_kind ed asyncs = omega arith
links_kind ed finishes = omega arith
links_kind First forks = omega arith
links_kind Second forks = omega arith
links_kind ed futures = omega arith
links_kind ed forces = omega arith

-- The beginning: two vertices are ready, one at the program's start and one at its last byte.

-- both start, and the second only stops
opening :
    (ω : Event → ℕ) (p : Code) (Γ : Setting) → total ω (beginning p Γ) ≡ 2 * ω a_start + ω a_stop + body_weight Γ.edition ω p
unfolding beginning total total_below left body_weight
opening ω p Γ = omega arith

-- what is counted at the beginning is what the program needs
pub steps_total : (Γ : Setting) (t : Body) → total each (beginning (located t) Γ) ≡ steps_taken Γ.edition t
unfolding located steps_taken vertices_made
steps_total Γ t =
    omega (arith, opening each (located t) Γ, items_weight_lem Γ.edition each 1 (λ o. refl) [] 0 t, each_items Γ.edition t)

pub vertices_total : (Γ : Setting) (t : Body) → 2 + total news (beginning (located t) Γ) ≡ vertices_made Γ.edition t
unfolding located vertices_made items_weight news
vertices_total Γ t =
    let items = items_weight_lem Γ.edition news 0 (λ o. refl) [] 0 t in
    omega (arith, opening news (located t) Γ, items, total_same _ _ (news_kind Γ.edition) t)

pub edges_total : (Γ : Setting) (t : Body) → 1 + total links (beginning (located t) Γ) ≡ edge_rows_needed Γ.edition t
unfolding located edge_rows_needed items_weight links
edges_total Γ t =
    let items = items_weight_lem Γ.edition links 0 (λ o. refl) [] 0 t in
    omega (arith, opening links (located t) Γ, items, total_same _ _ (links_kind Γ.edition) t)

-- Jobs.

-- the jobs at q, counted
abbrev pub jobs_at : Edition → ℕ → Code → ℕ
jobs_at ed q c = body_weight ed (job_count q) c

-- a job is counted at its own offset only
this_job : (o q : ℕ) → o ≡ q → job_count q (a_job o) ≡ 1
unfolding job_count
this_job o q e = rw (eq-eqb o q e) refl

pub other_job : (o q : ℕ) → (o ≡ q → ⊥) → job_count q (a_job o) ≡ 0
unfolding job_count
other_job o q ne = rw (ne_eqb o q ne) refl

-- and nothing else is counted: code has the jobs of its parts
pub jobs_end : (ed : Edition) (q o : ℕ) → jobs_at ed q (end_byte_at o) ≡ 0
unfolding body_weight job_count
jobs_end ed q o = refl

pub jobs_job : (ed : Edition) (q o n : ℕ) (r : Code) → jobs_at ed q (job_at o n r) ≡ job_count q (a_job o) + jobs_at ed q r
unfolding body_weight
jobs_job ed q o n r = refl

pub jobs_async : (ed : Edition) (q o : ℕ) (b r : Code) → jobs_at ed q (async_at o b r) ≡ jobs_at ed q b + jobs_at ed q r
unfolding body_weight joins_weight join_weight weight row_of job_count
jobs_async ed q o b r = omega arith

pub jobs_finish : (ed : Edition) (q o : ℕ) (b r : Code) → jobs_at ed q (finish_at o b r) ≡ jobs_at ed q b + jobs_at ed q r
unfolding body_weight joins_weight join_weight weight row_of job_count
jobs_finish ed q o b r = omega arith

pub jobs_fork :
    (ed : Edition) (q o : ℕ) (b c r : Code) → jobs_at ed q (fork_at o b c r) ≡ jobs_at ed q b + (jobs_at ed q c + jobs_at ed q r)
unfolding body_weight joins_weight join_weight fork_rest weight row_of fork_row job_count
jobs_fork First q o b c r = omega arith
jobs_fork Second q o b c r = omega arith

pub jobs_future : (ed : Edition) (q o : ℕ) (b r : Code) → jobs_at ed q (future_at o b r) ≡ jobs_at ed q b + jobs_at ed q r
unfolding body_weight joins_weight join_weight weight row_of job_count
jobs_future ed q o b r = omega arith

-- a force's own body is not counted: its jobs are those of its future
pub jobs_force : (ed : Edition) (q o n : ℕ) (b r : Code) → jobs_at ed q (force_at o n b r) ≡ jobs_at ed q r
unfolding body_weight joins_weight join_weight weight row_of job_count
jobs_force ed q o n b r = omega arith

-- Of jobs between lo and hi, w are at q: none, and J says that one is written there, or one.
data Told (q w : ℕ) (J : Type 0) (lo hi : ℕ) : Type 0 where
  none_there : w ≡ 0 → (J → ⊥) → Told q w J lo hi
  one_there : w ≡ 1 → lo ≤ q → q ≤ hi → Told q w J lo hi

-- of those in two ranges one behind the other
beside :
    {q w w' all lo hi lo' hi' from : ℕ} {J J' : Type 0} → Told q w J lo hi → Told q w' J' lo' hi' → all ≡ w + w' → hi < lo'
    → from ≤ lo → lo ≤ hi → lo' ≤ hi' → Told q all (J ⊎ J') from hi'
beside (none_there e f) (none_there e' f') sum apart s l l' = none_there (omega arith) (⊎_elim f f')
beside (none_there e f) (one_there e' s' i') sum apart s l l' = one_there (omega arith) (omega arith) (omega arith)
beside (one_there e s' i') (none_there e' f') sum apart s l l' = one_there (omega arith) (omega arith) (omega arith)
beside (one_there e s' i') (one_there e' s'' i'') sum apart s l l' = absurd (omega arith)

-- with a wider range, from an item that is no job on
told_from : {q w all lo hi from : ℕ} {J : Type 0} → Told q w J lo hi → all ≡ w → from ≤ lo → Told q all J from hi
told_from (none_there e f) sum s = none_there (omega arith) f
told_from (one_there e s' i) sum s = one_there (omega arith) (omega arith) (omega arith)

-- a job by itself
told_job : (q o : ℕ) → Told q (job_count q (a_job o)) (q ≡ o) o o
told_job q o =
    ⊎_elim (λ e. one_there (this_job o q e) (omega arith) (omega arith)) (λ ne. none_there (other_job o q ne) (λ h. ne (sym h)))
    (equal? o q)

-- the jobs of laid code
told : (ed : Edition) (q : ℕ) (c : Code) → Laid c → Told q (jobs_at ed q c) (Job c q) (start_of c) (last c)
unfolding Job Laid start_of last
told ed q (end_byte_at o) l = none_there (jobs_end ed q o) (λ h. h)
told ed q (job_at o m r) l =
    beside (told_job q o) (told ed q r l.1) (jobs_job ed q o m r) l.0.starts (omega arith) (omega arith) l.0.rest
told ed q (async_at o b r) l =
    beside (told ed q b l.1) (told ed q r l.2) (jobs_async ed q o b r) (omega (arith, l.0.ends)) (omega (arith, l.0.starts)) l.0.body
    l.0.rest
told ed q (finish_at o b r) l =
    beside (told ed q b l.1) (told ed q r l.2) (jobs_finish ed q o b r) (omega (arith, l.0.ends)) (omega (arith, l.0.starts)) l.0.body
    l.0.rest
told ed q (fork_at o b c r) l =
    beside (told ed q b l.1)
    (beside {from = start_of c} (told ed q c l.2) (told ed q r l.3) refl (omega (arith, l.0.ends)) (omega arith) l.0.right l.0.rest)
    (jobs_fork ed q o b c r) (omega (arith, l.0.between)) (omega (arith, l.0.starts)) l.0.left
    (omega (arith, l.0.right, l.0.ends, l.0.rest))
told ed q (future_at o b r) l =
    beside (told ed q b l.1) (told ed q r l.2) (jobs_future ed q o b r) (omega (arith, l.0.ends)) (omega (arith, l.0.starts)) l.0.body
    l.0.rest
told ed q (force_at o n b r) l = told_from (told ed q r l.1) (jobs_force ed q o n b r) (omega (arith, l.0.starts))

-- so no two are at the same offset
jobs_le : (ed : Edition) (q : ℕ) (c : Code) → Laid c → jobs_at ed q c ≤ 1
jobs_le ed q c l = go (told ed q c l)
  where
    go : Told q (jobs_at ed q c) (Job c q) (start_of c) (last c) → jobs_at ed q c ≤ 1
    go (none_there e f) = omega arith
    go (one_there e s i) = omega arith

-- and one is counted if it is written
pub jobs_one : (ed : Edition) (q : ℕ) (c : Code) → Laid c → Job c q → jobs_at ed q c ≡ 1
jobs_one ed q c l j = go (told ed q c l)
  where
    go : Told q (jobs_at ed q c) (Job c q) (start_of c) (last c) → jobs_at ed q c ≡ 1
    go (none_there e f) = absurd (f j)
    go (one_there e s i) = e

-- Nothing is left exactly if every vertex is over.

-- where a sum is 0, every summand is
sum_zero : (f : ℕ → ℕ) (n : ℕ) → total_below f n ≡ 0 → (u : ℕ) → u < n → f u ≡ 0
unfolding total_below
sum_zero f zero h u l = absurd (omega arith)
sum_zero f (suc n) h u l =
    ⊎_elim (λ (e : u ≡ n). ap f e ∙ omega arith) (λ k. sum_zero f n (omega arith) u k) (eq-or-lt_of_le (le_of_suc-le-suc l))

-- and the other way round
zero_sum : (f : ℕ → ℕ) (n : ℕ) → ((u : ℕ) → u < n → f u ≡ 0) → total_below f n ≡ 0
unfolding total_below
zero_sum f zero h = refl
zero_sum f (suc n) h = omega (arith, h n (omega arith), zero_sum f n (λ u l. h u (omega arith)))

pub all_over : (S : State) → total each S ≡ 0 → (v : ℕ) → v < S.count → S.control v ≡ over
unfolding total
all_over S h v l = nothing_left S.setting (S.control v) (sum_zero (λ v. left S.setting each (S.control v)) S.count h v l)

pub over_all : (ω : Event → ℕ) (S : State) → ((v : ℕ) → v < S.count → S.control v ≡ over) → total ω S ≡ 0
unfolding total left
over_all ω S h = zero_sum (λ v. left S.setting ω (S.control v)) S.count (λ v l. ap (left S.setting ω) (h v l))

-- Runs from the beginning.

-- what has been done and what is left is what a program's state weighs at the beginning
runs_on :
    (ω : Event → ℕ) (p : Code) (Γ : Setting) {es : List Event} {S : State} → Runs (beginning p Γ) es S
    → total ω (beginning p Γ) ≡ spent ω es + total ω S
runs_on ω p Γ r = runs_pay ω (shape_beginning p Γ).beyond r

-- Steps.

spent-each : (es : List Event) → spent each es ≡ length es
unfolding spent
spent-each [] = refl
spent-each (e ∷ es) = omega (arith, spent-each es)

pub steps_run :
    (t : Body) (Γ : Setting) {es : List Event} {S : State} → Runs (beginning (located t) Γ) es S
    → length es + total each S ≡ steps_taken Γ.edition t
steps_run t Γ {es} r = omega (arith, runs_on each (located t) Γ r, spent-each es, steps_total Γ t)

pub steps_bound :
    (t : Body) (Γ : Setting) {es : List Event} {S : State} → Runs (beginning (located t) Γ) es S
    → length es ≤ steps_taken Γ.edition t
steps_bound t Γ r = omega (arith, steps_run t Γ r)

-- Vertices: each new one is counted.

news_none : (d : Do) → news (event_of d) ≡ 0
unfolding news event_of
news_none (link a b) = refl
news_none (hand h) = refl
news_none (free m) = refl
news_none yield = refl

pub move_count : {v : ℕ} {S S' : State} {e : Event} → Move S v e S' → S'.count ≡ news e + S.count
unfolding news
move_count (begins q bare) = omega arith
move_count (performs q) = omega arith
move_count (stops q) = omega arith
move_count (makes q e) = omega arith
move_count (splits q e) = omega arith
move_count {v} {S} (acts {d = d} q) = omega (arith, done_count S v d, news_none d)

runs_count : {S S' : State} {es : List Event} → Runs S es S' → S'.count ≡ spent news es + S.count
unfolding spent
runs_count no_move = omega arith
runs_count (and_then r m) = omega (arith, runs_count r, move_count m)

pub vertices_bound :
    (t : Body) (Γ : Setting) {es : List Event} {S : State} → Runs (beginning (located t) Γ) es S → S.count ≤ vertices_made Γ.edition t
unfolding beginning
vertices_bound t Γ r = omega (arith, runs_on news (located t) Γ r, runs_count r, vertices_total Γ t)

-- Edge rows: the one that is held at the beginning, and each new one.

pub edges_bound :
    (t : Body) (Γ : Setting) {es : List Event} {S : State} → Runs (beginning (located t) Γ) es S
    → 1 + spent links es ≤ edge_rows_needed Γ.edition t
edges_bound t Γ r = omega (arith, runs_on links (located t) Γ r, edges_total Γ t)

-- Jobs.

-- at the beginning, those that are written
jobs_total : (q : ℕ) (p : Code) (Γ : Setting) → total (job_count q) (beginning p Γ) ≡ jobs_at Γ.edition q p
unfolding job_count
jobs_total q p Γ = omega (arith, opening (job_count q) p Γ)

-- a job is done once at most
pub job_once :
    (q : ℕ) (p : Code) (Γ : Setting) {es : List Event} {S : State} → Laid p → Runs (beginning p Γ) es S → spent (job_count q) es ≤ 1
job_once q p Γ l r = omega (arith, runs_on (job_count q) p Γ r, jobs_total q p Γ, jobs_le Γ.edition q p l)

-- exactly once, if it is written, when nothing of it is left
pub job_past :
    (q : ℕ) (p : Code) (Γ : Setting) {es : List Event} {S : State} → Laid p → Job p q → Runs (beginning p Γ) es S
    → total (job_count q) S ≡ 0 → spent (job_count q) es ≡ 1
job_past q p Γ l j r z = omega (arith, runs_on (job_count q) p Γ r, jobs_total q p Γ, jobs_one Γ.edition q p l j, z)

-- so it is when all is done
pub job_done :
    (q : ℕ) (p : Code) (Γ : Setting) {es : List Event} {S : State} → Laid p → Job p q → Runs (beginning p Γ) es S → total each S ≡ 0
    → spent (job_count q) es ≡ 1
job_done q p Γ {S = S} l j r z = job_past q p Γ l j r (over_all (job_count q) S (all_over S z))

-- and once it is done, nothing of it is left to any vertex
pub job_gone :
    (q : ℕ) (p : Code) (Γ : Setting) {es : List Event} {S : State} → Laid p → Runs (beginning p Γ) es S → spent (job_count q) es ≡ 1
    → (v : ℕ) → v < S.count → left S.setting (job_count q) (S.control v) ≡ 0
unfolding total
job_gone q p Γ {S = S} l r one v lt =
    sum_zero (λ v. left S.setting (job_count q) (S.control v)) S.count
    (omega (arith, one, runs_on (job_count q) p Γ r, jobs_total q p Γ, jobs_le Γ.edition q p l)) v lt
