-- The conservation law: a move with the event e takes ω e off what is left in all, for every weight ω of events.
--
-- A move changes what is left to one vertex, the one that moves, and it may append one vertex. At all others the weight stays: a vertex
-- that is released, and a draft that is one no more, have the same to do as before. The law needs of a state only that no vertex beyond
-- those made has anything to do, which every move keeps.
--
--     conserved      Beyond S → Move S v e S' → total ω S ≡ ω e + total ω S', where Beyond S is that
--     runs_pay       Beyond S → Runs S es S' → total ω S ≡ spent ω es + total ω S', where Runs is a row of moves with the events es
--     nothing_left   left Γ each x ≡ 0 → x ≡ over, where each event weighs 1
use Prim.Native.Nat.{ℕ, zero, suc, ◌+◌, ◌<◌, ◌≤◌}
use mathlib.Core.Path.{◌≡◌, refl, sym, ◌∙◌, ap}
use mathlib.Core.Bool.{Bool, true, false, cond}
use mathlib.Core.Logic.{⊎_elim}
use mathlib.Core.List.{List, [], ◌∷◌, ◌++◌}
use native.Mathlib.Nat.{eq-or-lt_of_le, le_of_suc-le-suc, lt_of_not-le}
use native.Mathlib.Omega.{arith}
use lib.ListN.{length, drop, length-append}
use Rattle.program.specs.Trees.{Kind, jobs, asyncs, finishes, forks, futures, forces}
use Rattle.program.specs.declared.Edition.{Edition}
use Rattle.program.specs.declared.Edition.TheVariants.{First, Second}
use Rattle.program.specs.Encodings.{fork_row, row_of, weight}
use Rattle.program.specs.Located.{Code, end_byte_at, job_at, async_at, finish_at, fork_at, future_at, force_at}
use Rattle.machine.proofs.GhostMachine.Ghost.{Do, link, hand, free, yield, Control, draft, fresh, ready, busy, joining, over, Setting, State}
use Rattle.machine.proofs.GhostMachine.Ghost.{put, Kid, fork_kids, fork_goes, kids, goes, kind_of, commands_of, forced_by, joins, todo, onward}
use Rattle.machine.proofs.GhostMachine.Ghost.{resumed, woken, freed, among, with_control, done, Event, a_start, a_new, a_job, a_stop, event_of}
use Rattle.machine.proofs.GhostMachine.Ghost.{Move, begins, performs, stops, makes, splits, acts, stirred}
use Rattle.machine.proofs.GhostMachine.GhostLaws.{put_same, put_other, put_cases, clash}
use Rattle.machine.proofs.GhostMachine.RoadLaws.{done_keeps}
use Rattle.machine.proofs.GhostMachine.SplitLaws.{stirred_keeps}
use Rattle.machine.proofs.Counting.Weights.{join_weight, joins_weight, fork_rest, body_weight, kids_weight, behind_weight, tasks_weight, left}
use Rattle.machine.proofs.Counting.Weights.{total_below, total, spent, each}

-- Sums.

-- functions that agree have the same sum
sum_same : (f g : ℕ → ℕ) (n : ℕ) → ((u : ℕ) → u < n → f u ≡ g u) → total_below f n ≡ total_below g n
unfolding total_below
sum_same f g zero same = refl
sum_same f g (suc n) same = omega (arith, same n (omega arith), sum_same f g n (λ u h. same u (omega arith)))

-- functions that agree but at v differ in their sums as they do there: with v as the last number,
sum_last :
    (f g : ℕ → ℕ) (n v : ℕ) → v ≡ n → ((u : ℕ) → u < suc n → (u ≡ v → ⊥) → f u ≡ g u)
    → f v + total_below g (suc n) ≡ g v + total_below f (suc n)
unfolding total_below
sum_last f g n v e same =
    omega (arith, ap f e, ap g e, sum_same f g n (λ u h. same u (omega arith) (λ q. absurd (omega arith))))

-- with v below it,
sum_below :
    (f g : ℕ → ℕ) (n v : ℕ) → f v + total_below g n ≡ g v + total_below f n → f n ≡ g n
    → f v + total_below g (suc n) ≡ g v + total_below f (suc n)
unfolding total_below
sum_below f g n v h e = omega arith

-- and anywhere
sum_but :
    (f g : ℕ → ℕ) (n v : ℕ) → v < n → ((u : ℕ) → u < n → (u ≡ v → ⊥) → f u ≡ g u)
    → f v + total_below g n ≡ g v + total_below f n
sum_but f g zero v h same = absurd (omega arith)
sum_but f g (suc n) v h same =
    ⊎_elim (λ e. sum_last f g n v e same)
    (λ l. sum_below f g n v (sum_but f g n v l (λ u h. same u (omega arith))) (same n (omega arith) (λ q. absurd (omega arith))))
    (eq-or-lt_of_le (le_of_suc-le-suc h))

-- What is left to a vertex.

-- the joining commands of an item weigh the same with their vertices filled in: a yield is the last of them
kind_weight :
    (ed : Edition) (ω : Event → ℕ) (v σ f : ℕ) (ms : List ℕ) (k : Kind)
    → tasks_weight ω (joins v σ f ms (row_of ed k).commands) ≡ joins_weight ed ω k
unfolding tasks_weight joins joins_weight weight join_weight row_of fork_row
kind_weight ed ω v σ f ms jobs = omega arith
kind_weight ed ω v σ f ms asyncs = omega arith
kind_weight ed ω v σ f ms finishes = omega arith
kind_weight First ω v σ f ms forks = omega arith
kind_weight Second ω v σ f ms forks = omega arith
kind_weight ed ω v σ f ms futures = omega arith
kind_weight ed ω v σ f ms forces = omega arith

-- a fork's rest weighs the same with another vertex or with the forking one
fork_rest_lem :
    (ed : Edition) (ω : Event → ℕ) (L : ℕ) (r : Code)
    → fork_rest ed ω (body_weight ed ω r) ≡ kids_weight ed ω (fork_kids ed r) + body_weight ed ω (fork_goes ed L r)
unfolding fork_rest fork_kids fork_goes kids_weight body_weight
fork_rest_lem First ω L r = omega arith
fork_rest_lem Second ω L r = omega arith

-- an item that has not made any vertex weighs as its code
busy_none : (Γ : Setting) (ω : Event → ℕ) (c : Code) → left Γ ω (busy c []) ≡ body_weight Γ.edition ω c
unfolding left kids_weight behind_weight body_weight kids
busy_none Γ ω (end_byte_at o) = omega arith
busy_none Γ ω (job_at o n r) = omega arith
busy_none Γ ω (async_at o b r) = omega arith
busy_none Γ ω (finish_at o b r) = omega arith
busy_none Γ ω (fork_at o b c r) = omega (arith, fork_rest_lem Γ.edition ω Γ.last_byte r)
busy_none Γ ω (future_at o b r) = omega arith
busy_none Γ ω (force_at o n b r) = omega arith

-- a vertex that goes on with these commands and then with this code
onward_weight :
    (Γ : Setting) (ω : Event → ℕ) (c : Code) (ds : List Do) → left Γ ω (onward c ds) ≡ tasks_weight ω ds + body_weight Γ.edition ω c
unfolding onward left tasks_weight
onward_weight Γ ω c [] = omega (arith, busy_none Γ ω c)
onward_weight Γ ω c (d ∷ ds) = refl

-- nothing is behind the first n of none
drop_some : {A : Type 0} (n : ℕ) (x : A) (xs : List A) → drop n [] ≡ x ∷ xs → ⊥
drop_some zero x xs e = absurd (omega (arith, ap length e))
drop_some (suc n) x xs e = absurd (omega (arith, ap length e))

-- and behind one more than the first n is the rest
drop_more : {A : Type 0} (n : ℕ) (l : List A) (x : A) (xs : List A) → drop n l ≡ x ∷ xs → drop (suc n) l ≡ xs
drop_more n [] x xs e = absurd (drop_some n x xs e)
drop_more zero (y ∷ l) x xs e = ap (drop 1) e
drop_more (suc n) (y ∷ l) x xs e = drop_more n l x xs e

-- behind its vertices, an item that makes some has its joining commands, and the code where its vertex goes
behind_weight_lem :
    (Γ : Setting) (ω : Event → ℕ) (v σ f : ℕ) (all : List ℕ) (c : Code) (n : ℕ) (k : Kid) (ks : List Kid) → drop n (kids Γ c) ≡ k ∷ ks
    → behind_weight Γ ω c ≡ tasks_weight ω (todo Γ.edition v σ f all c) + body_weight Γ.edition ω (goes Γ c)
unfolding kids goes kind_of commands_of todo behind_weight body_weight
behind_weight_lem Γ ω v σ f all (end_byte_at o) n k ks e = absurd (drop_some n k ks e)
behind_weight_lem Γ ω v σ f all (job_at o m r) n k ks e = absurd (drop_some n k ks e)
behind_weight_lem Γ ω v σ f all (async_at o b r) n k ks e = omega (arith, kind_weight Γ.edition ω v σ f all asyncs)
behind_weight_lem Γ ω v σ f all (finish_at o b r) n k ks e = omega (arith, kind_weight Γ.edition ω v σ f all finishes)
behind_weight_lem Γ ω v σ f all (fork_at o b c r) n k ks e = omega (arith, kind_weight Γ.edition ω v σ f all forks)
behind_weight_lem Γ ω v σ f all (future_at o b r) n k ks e = omega (arith, kind_weight Γ.edition ω v σ f all futures)
behind_weight_lem Γ ω v σ f all (force_at o m b r) n k ks e = omega (arith, kind_weight Γ.edition ω v σ f all forces)

-- What each move takes off the vertex that moves.

begins_weight : (Γ : Setting) (ω : Event → ℕ) (c : Code) → left Γ ω (ready c) ≡ ω a_start + left Γ ω (busy c [])
unfolding left
begins_weight Γ ω c = omega (arith, busy_none Γ ω c)

performs_weight :
    (Γ : Setting) (ω : Event → ℕ) (o n : ℕ) (r : Code) → left Γ ω (busy (job_at o n r) []) ≡ ω (a_job o) + left Γ ω (busy r [])
unfolding body_weight
performs_weight Γ ω o n r = omega (arith, busy_none Γ ω (job_at o n r), busy_none Γ ω r)

stops_weight : (Γ : Setting) (ω : Event → ℕ) (o : ℕ) → left Γ ω (busy (end_byte_at o) []) ≡ ω a_stop + left Γ ω over
unfolding body_weight left
stops_weight Γ ω o = omega (arith, busy_none Γ ω (end_byte_at o))

makes_weight :
    (Γ : Setting) (ω : Event → ℕ) (c : Code) (ms : List ℕ) (m : ℕ) (k : Kid) (ks : List Kid) → drop (length ms) (kids Γ c) ≡ k ∷ ks
    → left Γ ω (busy c ms) ≡ ω a_new + left Γ ω (draft k.code) + left Γ ω (busy c (ms ++ (m ∷ [])))
unfolding left kids_weight
makes_weight Γ ω c ms m k ks e =
    let one : length (ms ++ (m ∷ [])) ≡ suc (length ms) = omega (arith, length-append ms (m ∷ [])) in
    rw (one, e, drop_more (length ms) (kids Γ c) k ks e) (omega arith)

splits_weight :
    (Γ : Setting) (ω : Event → ℕ) (v σ f : ℕ) (c : Code) (ms all : List ℕ) (k : Kid) → drop (length ms) (kids Γ c) ≡ k ∷ []
    → left Γ ω (busy c ms) ≡ ω a_new + left Γ ω (fresh k.code) + left Γ ω (onward (goes Γ c) (todo Γ.edition v σ f all c))
unfolding left kids_weight
splits_weight Γ ω v σ f c ms all k e =
    rw e
    (omega
    (arith, onward_weight Γ ω (goes Γ c) (todo Γ.edition v σ f all c), behind_weight_lem Γ ω v σ f all c (length ms) k [] e))

acts_weight :
    (Γ : Setting) (ω : Event → ℕ) (c : Code) (d : Do) (ds : List Do)
    → left Γ ω (joining c d ds) ≡ ω (event_of d) + left Γ ω (resumed c d ds)
unfolding left tasks_weight event_of resumed
acts_weight Γ ω c (link a b) ds = omega (arith, onward_weight Γ ω c ds)
acts_weight Γ ω c (hand h) ds = omega (arith, onward_weight Γ ω c ds)
acts_weight Γ ω c (free m) ds = omega (arith, onward_weight Γ ω c ds)
acts_weight Γ ω c yield ds = omega arith

-- in every code there is something to do: it has an end byte
body_some : (ed : Edition) (c : Code) → 0 < body_weight ed each c
unfolding body_weight
body_some ed (end_byte_at o) = omega arith
body_some ed (job_at o n r) = omega arith
body_some ed (async_at o b r) = omega arith
body_some ed (finish_at o b r) = omega arith
body_some ed (fork_at o b c r) = omega arith
body_some ed (future_at o b r) = omega arith
body_some ed (force_at o n b r) = omega arith

-- so behind the vertices of its first item
behind_some : (Γ : Setting) (c : Code) → 0 < behind_weight Γ each c
unfolding behind_weight
behind_some Γ (end_byte_at o) = omega arith
behind_some Γ (job_at o n r) = omega arith
behind_some Γ (async_at o b r) = omega (arith, body_some Γ.edition r)
behind_some Γ (finish_at o b r) = omega arith
behind_some Γ (fork_at o b c r) = omega (arith, body_some Γ.edition (fork_goes Γ.edition Γ.last_byte r))
behind_some Γ (future_at o b r) = omega (arith, body_some Γ.edition r)
behind_some Γ (force_at o n b r) = omega arith

-- so only a vertex that is over has nothing to do
pub nothing_left : (Γ : Setting) (x : Control) → left Γ each x ≡ 0 → x ≡ over
unfolding left
nothing_left Γ (draft c) h = absurd (omega arith)
nothing_left Γ (fresh c) h = absurd (omega arith)
nothing_left Γ (ready c) h = absurd (omega arith)
nothing_left Γ (busy c ms) h = absurd (omega (arith, behind_some Γ c))
nothing_left Γ (joining c d ds) h = absurd (omega (arith, body_some Γ.edition c))
nothing_left Γ over h = refl

-- What is left in all.

-- a vertex v below n comes to have w less to do, and the others have the same as before
moved :
    (Γ : Setting) (ω : Event → ℕ) (f g : ℕ → Control) (n v w : ℕ) → v < n → ((u : ℕ) → u < n → (u ≡ v → ⊥) → left Γ ω (f u) ≡ left Γ ω (g u))
    → left Γ ω (f v) ≡ w + left Γ ω (g v) → total_below (λ u. left Γ ω (f u)) n ≡ w + total_below (λ u. left Γ ω (g u)) n
moved Γ ω f g n v w h same e = omega (arith, sum_but (λ u. left Γ ω (f u)) (λ u. left Γ ω (g u)) n v h same)

-- v comes to x
changed :
    (Γ : Setting) (ω : Event → ℕ) (f g : ℕ → Control) (n v w : ℕ) (x : Control) → v < n → ((u : ℕ) → left Γ ω (f u) ≡ left Γ ω (g u))
    → left Γ ω (f v) ≡ w + left Γ ω x → total_below (λ u. left Γ ω (f u)) n ≡ w + total_below (λ u. left Γ ω (put g v x u)) n
changed Γ ω f g n v w x h same e =
    moved Γ ω f (put g v x) n v w h (λ u l ne. same u ∙ ap (left Γ ω) (sym (put_other g v x u ne)))
    (e ∙ ap (λ y. w + left Γ ω y) (sym (put_same g v x)))

-- v comes to x, and one more vertex is at y
increased :
    (Γ : Setting) (ω : Event → ℕ) (f g : ℕ → Control) (n v w : ℕ) (x y : Control) → v < n → ((u : ℕ) → left Γ ω (f u) ≡ left Γ ω (g u))
    → left Γ ω (f v) ≡ w + left Γ ω y + left Γ ω x
    → total_below (λ u. left Γ ω (f u)) n ≡ w + total_below (λ u. left Γ ω (put (put g n y) v x u)) (suc n)
unfolding total_below
increased Γ ω f g n v w x y h same e =
    let past : (u : ℕ) → (u ≡ v → ⊥) → put (put g n y) v x u ≡ put g n y u = put_other (put g n y) v x in
    let old : (u : ℕ) → u < n → (u ≡ v → ⊥) → left Γ ω (f u) ≡ left Γ ω (put (put g n y) v x u)
    = λ u l ne. same u ∙ ap (left Γ ω) (sym (past u ne ∙ put_other g n y u (λ q. absurd (omega arith)))) in
    let new : left Γ ω (put (put g n y) v x n) ≡ left Γ ω y = ap (left Γ ω) (past n (λ q. absurd (omega arith)) ∙ put_same g n y) in
    let here : left Γ ω (put (put g n y) v x v) ≡ left Γ ω x = ap (left Γ ω) (put_same (put g n y) v x) in
    omega (arith, new, moved Γ ω f (put (put g n y) v x) n v (w + left Γ ω y) h old (omega arith))

-- where drafts become fresh, each vertex has the same to do
stirred_weight : (Γ : Setting) (ω : Event → ℕ) (f : ℕ → Control) (ms : List ℕ) (u : ℕ) → left Γ ω (f u) ≡ left Γ ω (stirred f ms u)
unfolding left
stirred_weight Γ ω f ms u = sym (stirred_keeps (left Γ ω) (λ c. refl) f ms u)

-- and so it has after a joining command
done_weight : (Γ : Setting) (ω : Event → ℕ) (S : State) (v : ℕ) (d : Do) (u : ℕ) → left Γ ω (S.control u) ≡ left Γ ω ((done S v d).control u)
unfolding left
done_weight Γ ω S v d u = sym (done_keeps (left Γ ω) (λ c. refl) S v d u)

-- and makes none
pub done_count : (S : State) (v : ℕ) (d : Do) → (done S v d).count ≡ S.count
unfolding done
done_count S v (link a b) = refl
done_count S v (hand h) = refl
done_count S v (free m) = refl
done_count S v yield = refl

-- so what is left in all is told by the controls as before
done-total :
    (ω : Event → ℕ) (S : State) (v : ℕ) (d : Do) (f : ℕ → Control)
    → total ω (with_control (done S v d) f) ≡ total_below (λ u. left S.setting ω (f u)) S.count
unfolding total done
done-total ω S v (link a b) f = refl
done-total ω S v (hand h) f = refl
done-total ω S v (free m) f = refl
done-total ω S v yield f = refl

-- Vertices beyond those made.

-- they are over
abbrev pub Beyond : State → Type 0
Beyond S = (u : ℕ) → S.count ≤ u → S.control u ≡ over

-- so a vertex that is not over has been made
below : (S : State) → Beyond S → (v : ℕ) → (S.control v ≡ over → ⊥) → v < S.count
below S beyond v live = lt_of_not-le (λ le. live (beyond v le))

-- one that is over stays so where another one changes, where drafts become fresh, and after a joining command
put-over : (f : ℕ → Control) (v : ℕ) (x : Control) (u : ℕ) → (f v ≡ over → ⊥) → f u ≡ over → put f v x u ≡ over
put-over f v x u live o = put_other f v x u (λ q. live (ap f (sym q) ∙ o)) ∙ o

stirred-over : (f : ℕ → Control) (ms : List ℕ) (u : ℕ) → f u ≡ over → stirred f ms u ≡ over
unfolding woken
stirred-over f ms u o = go (among u ms)
  where
    go : (b : Bool) → cond b (woken (f u)) (f u) ≡ over
    go true = ap woken o
    go false = o

done-over : (S : State) (v : ℕ) (d : Do) (u : ℕ) → S.control u ≡ over → (done S v d).control u ≡ over
unfolding done freed
done-over S v (link a b) u o = o
done-over S v (hand h) u o = o
done-over S v (free m) u o =
    put_cases (λ x. x ≡ over) S.control m (freed (S.control m)) u (λ q. ap (λ w. freed (S.control w)) (sym q) ∙ ap freed o) (λ n. o)
done-over S v yield u o = o

-- with one vertex more
new_over :
    (f : ℕ → Control) (n v : ℕ) (x y : Control) → ((u : ℕ) → n ≤ u → f u ≡ over) → v < n → (u : ℕ) → suc n ≤ u
    → put (put f n y) v x u ≡ over
new_over f n v x y beyond lt u le =
    put_other (put f n y) v x u (λ q. absurd (omega arith)) ∙ put_other f n y u (λ q. absurd (omega arith)) ∙ beyond u (omega arith)

beyond_kept : {S : State} {v : ℕ} {e : Event} {S' : State} → Beyond S → Move S v e S' → Beyond S'
beyond_kept {S} {v = v} h (begins q bare) u le = put-over S.control v _ u (λ o. clash cc) (h u le)
beyond_kept {S} {v = v} h (performs q) u le = put-over S.control v _ u (λ o. clash cc) (h u le)
beyond_kept {S} {v = v} h (stops q) u le = put-over S.control v _ u (λ o. clash cc) (h u le)
beyond_kept {S} {v = v} h (makes q e) u le = new_over S.control S.count v _ _ h (below S h v (λ o. clash cc)) u le
beyond_kept {S} {v = v} h (splits {ms = ms} q e) u le =
    new_over (stirred S.control ms) S.count v _ _ (λ u le. stirred-over S.control ms u (h u le)) (below S h v (λ o. clash cc)) u le
beyond_kept {S} {v = v} h (acts {d = d} q) u le =
    let kept = done-over S v d u (h u (omega (arith, le, done_count S v d))) in
    put_other (done S v d).control v _ u (λ z. absurd (omega (arith, z, le, done_count S v d, below S h v (λ o. clash cc)))) ∙ kept

-- The law.
pub conserved : (ω : Event → ℕ) {v : ℕ} {S S' : State} {e : Event} → Beyond S → Move S v e S' → total ω S ≡ ω e + total ω S'
unfolding total
conserved ω {v} {S} h (begins {c} q bare) =
    changed S.setting ω S.control S.control S.count v _ _ (below S h v (λ o. clash cc)) (λ u. refl)
    (ap (left S.setting ω) q ∙ begins_weight S.setting ω c)
conserved ω {v} {S} h (performs {o} {n} {r} q) =
    changed S.setting ω S.control S.control S.count v _ _ (below S h v (λ o. clash cc)) (λ u. refl)
    (ap (left S.setting ω) q ∙ performs_weight S.setting ω o n r)
conserved ω {v} {S} h (stops {o} q) =
    changed S.setting ω S.control S.control S.count v _ _ (below S h v (λ o. clash cc)) (λ u. refl)
    (ap (left S.setting ω) q ∙ stops_weight S.setting ω o)
conserved ω {v} {S} h (makes {c} {ms} {k} q e) =
    increased S.setting ω S.control S.control S.count v _ _ _ (below S h v (λ o. clash cc)) (λ u. refl)
    (ap (left S.setting ω) q ∙ makes_weight S.setting ω c ms S.count k _ e)
conserved ω {v} {S} h (splits {c} {ms} {k} q e) =
    increased S.setting ω S.control (stirred S.control ms) S.count v _ _ _ (below S h v (λ o. clash cc))
    (stirred_weight S.setting ω S.control ms)
    (ap (left S.setting ω) q
    ∙ splits_weight S.setting ω v (S.scope v) (forced_by (S.opens v) c) c ms (ms ++ (S.count ∷ [])) k e)
conserved ω {v} {S} h (acts {c} {d} {ds} q) =
    changed S.setting ω S.control (done S v d).control S.count v _ _ (below S h v (λ o. clash cc)) (done_weight S.setting ω S v d)
    (ap (left S.setting ω) q ∙ acts_weight S.setting ω c d ds)
    ∙ ap (λ n. ω (event_of d) + n) (sym (done-total ω S v d (put (done S v d).control v (resumed c d ds))))

-- Moves one after the other, with their events, the latest first.
pub data Runs (S : State) : List Event → State → Type 0 where
  no_move : Runs S [] S
  and_then : {v : ℕ} {e : Event} {es : List Event} {S1 S2 : State} → Runs S es S1 → Move S1 v e S2 → Runs S (e ∷ es) S2

-- all of them keep it that vertices beyond those made are over
runs_beyond : {S S' : State} {es : List Event} → Beyond S → Runs S es S' → Beyond S'
runs_beyond h no_move = h
runs_beyond h (and_then r m) = beyond_kept (runs_beyond h r) m

-- what was left is what has been done and what is left
pub runs_pay : (ω : Event → ℕ) {S S' : State} {es : List Event} → Beyond S → Runs S es S' → total ω S ≡ spent ω es + total ω S'
unfolding spent
runs_pay ω h no_move = omega arith
runs_pay ω h (and_then r m) = omega (arith, runs_pay ω h r, conserved ω (runs_beyond h r) m)
