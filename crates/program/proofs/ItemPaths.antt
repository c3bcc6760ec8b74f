-- Reading an item: what each path through its reader comes to.
use Prim.Native.Nat.{ℕ, zero, suc, ◌+◌, ◌-◌, ◌*◌, ◌<◌, ◌≤◌}
use mathlib.Core.Path.{◌≡◌, refl, sym, ◌∙◌, ap, subst}
use mathlib.Core.List.{List, [], ◌∷◌}
use native.Mathlib.Numerals.{add-one}
use native.Mathlib.Omega.{arith}
use lib.ListN.{length, get_or, drop, length-drop}
use lib.Seq.{drop-cons, drop-drop}
use mathlib.Core.Bool.{Bool, true, false, cond}
use mathlib.Core.Logic.{◌⊎◌, inl, inr}
use mathlib.Core.Option.{Option, none}
use lib.Dec.{eqb}
use borrow.Author.Tests.{lt-ltb, le-ltb, eq-eqb, ne_eqb}
use borrow.Author.Rules.{part_to_end}
use Rattle.program.specs.declared.ItemCounts.{ItemCounts}
use Rattle.program.specs.declared.Reader.{Reader}
use Rattle.std.specs.Prelude.{Result, Ok, Err}
use Rattle.refusal.specs.declared.Refusal.{Refusal}
use Rattle.refusal.specs.Reasons.{number as number_of}
use Rattle.program.specs.Limits.{level_limit}
use Rattle.program.specs.Claims.{HasNumber}
use Rattle.program.specs.Trees.{Kind, Body, Item, a_job, a_fork, a_force, with_first, Counts, counts, total, same}
use Rattle.program.specs.Bytes.{job_byte, async_byte, finish_byte, fork_byte, future_byte, force_byte, encode}
use Rattle.refusal.specs.Refusals.{byte_unknown, level_too_deep, bytes_run_out, no_such_future}
use Rattle.program.specs.Reader.{Read, took, refused, and_then, take_if, number, kind_of, job_of, force_of, item_of, item, body}
use Rattle.program.specs.Answers.{item_counts}
use Rattle.program.specs.Internal.Progress.{plus, Progress, past, reached, progress, counts_of, NumberProgress, value, reached_number}
use Rattle.program.specs.Internal.Progress.{number_progress, numbered_of, one_of, Few, Ready}
use Rattle.program.proofs.ReaderLaws.{item_job, item_force, OpensOneBody, of_async, of_finish, of_future, item_one, item_fork, Opener}
use Rattle.program.proofs.ReaderLaws.{holds_one, holds_two, opener_is, item_deep}
use Rattle.program.proofs.Soundness.{body_sound}
use Rattle.program.proofs.ProgressLaws.{slice, slice-length, plus_assoc, body_most, stopped_on, Moved, Taken, taken, past_taken}

-- what a reader comes to that counts so many items more
unfoldable grown : Counts → Progress → Progress
grown c (past p s) = past p (plus s c)
grown c (Progress.stopped n p) = Progress.stopped n p

-- ---- a job or a force

-- a number that was read, by what its reader came to
number_read : (len : ℕ) (s : Counts) (n p : ℕ) (t : Counts) (o : Read ℕ) → value n p t ≡ number_progress len s o
    → (rest : List ℕ) × (o ≡ took n rest) × (p ≡ len - length rest) × (t ≡ s)
unfolding number_progress
number_read len s n p t (took m rest) h = (rest, ap (λ (k : ℕ). took k rest) (sym (ap number_of h)), ap place_of h, ap seen_of h)
  where
    number_of : NumberProgress → ℕ
    number_of (value m q c) = m
    number_of (NumberProgress.stopped m q) = m

    place_of : NumberProgress → ℕ
    place_of (value m q c) = q
    place_of (NumberProgress.stopped m q) = q

    seen_of : NumberProgress → Counts
    seen_of (value m q c) = c
    seen_of (NumberProgress.stopped m q) = s
number_read len s n p t (refused m left) h = absurd (subst IsValue h tt)
  where
    IsValue : NumberProgress → Type 0
    IsValue (value m q c) = Unit {0}
    IsValue (NumberProgress.stopped m q) = ⊥

-- what its reader ensured
abbrev NumberEnsured : ℕ → Counts → List ℕ → Result (ℕ × Reader) Refusal → Type 0
NumberEnsured len s xs res = reached_number res ≡ number_progress len s (number xs)

-- its number is refused
number-stopped : (len : ℕ) (s : Counts) (xs : List ℕ) (next : ℕ → List ℕ → Read Item) {res : Result (ℕ × Reader) Refusal} (e : Refusal)
    → res ≡ Err e → NumberEnsured len s xs res
    → Progress.stopped (number_of e.reason) e.place ≡ progress counts_of len s (and_then (number xs) next)
unfolding number_progress progress and_then
number-stopped len s xs next e p q = go (number xs) (ap reached_number (sym p) ∙ q)
  where
    IsStopped : NumberProgress → Type 0
    IsStopped (value m q c) = ⊥
    IsStopped (NumberProgress.stopped m q) = Unit {0}

    as_item : NumberProgress → Progress
    as_item (value m q c) = past q c
    as_item (NumberProgress.stopped m q) = Progress.stopped m q

    go : (o : Read ℕ) → NumberProgress.stopped (number_of e.reason) e.place ≡ number_progress len s o
        → Progress.stopped (number_of e.reason) e.place ≡ progress counts_of len s (and_then o next)
    go (took m rest) h = absurd (subst IsStopped h tt)
    go (refused m left) h = ap as_item h

-- its number is read, and the item is
number_counted : (x : ℕ) (i : Item) (len : ℕ) (s : Counts) (xs : List ℕ) (next : ℕ → List ℕ → Read Item) {res : Result (ℕ × Reader) Refusal} (n : ℕ)
    (r r' : Reader)
    → counts_of i ≡ one_of x → ((rest : List ℕ) → next n rest ≡ took i rest) → res ≡ Ok (n, r) → NumberEnsured len s xs res
    → (r'.place ≡ r.place) × (item_counts r'.seen ≡ plus (item_counts r.seen) (one_of x))
    → past r'.place (item_counts r'.seen) ≡ progress counts_of len s (and_then (number xs) next)
unfolding progress and_then
number_counted x i len s xs next n r r' one taken_so p q h =
    let (rest, e, place, seen) = number_read len s n r.place (item_counts r.seen) (number xs) (ap reached_number (sym p) ∙ q) in
    (λ j. past ((h.0 ∙ place) j) ((h.1 ∙ (λ k. plus (seen k) (sym one k))) j))
    ∙ ap (progress counts_of len s) (sym (taken_so rest) ∙ ap (λ (o : Read ℕ). and_then o next) (sym e))

-- what a job counts
job_counts : (n : ℕ) → counts_of (a_job n) ≡ one_of job_byte
unfolding counts_of counts total same with_first one_of
job_counts n = refl

-- and a force
force_counts : (n : ℕ) → counts_of (a_force n) ≡ one_of force_byte
unfolding counts_of counts total same with_first one_of
force_counts n = refl

-- a job's number is refused
job_stopped : (len : ℕ) (s : Counts) (xs : List ℕ) {res : Result (ℕ × Reader) Refusal} (e : Refusal) → res ≡ Err e
    → NumberEnsured len s xs res → Progress.stopped (number_of e.reason) e.place ≡ progress counts_of len s (job_of xs)
unfolding job_of
job_stopped len s xs e p q = number-stopped len s xs _ e p q

-- or read
job_counted : (len : ℕ) (s : Counts) (xs : List ℕ) {res : Result (ℕ × Reader) Refusal} (n : ℕ) (r r' : Reader) → res ≡ Ok (n, r)
    → NumberEnsured len s xs res
    → (r'.place ≡ r.place) × (item_counts r'.seen ≡ plus (item_counts r.seen) (one_of job_byte))
    → past r'.place (item_counts r'.seen) ≡ progress counts_of len s (job_of xs)
unfolding job_of
job_counted len s xs n r r' p q h = number_counted job_byte (a_job n) len s xs _ n r r' (job_counts n) (λ rest. refl) p q h

-- a force's number is refused
force_stopped : (len : ℕ) (s : Counts) (opened : ℕ) (xs : List ℕ) {res : Result (ℕ × Reader) Refusal} (e : Refusal) → res ≡ Err e
    → NumberEnsured len s xs res → Progress.stopped (number_of e.reason) e.place ≡ progress counts_of len s (force_of opened xs)
unfolding force_of
force_stopped len s opened xs e p q = number-stopped len s xs _ e p q

-- or read, and names no open future
force_unopened : (place : ℕ) (s : Counts) (opened : ℕ) (xs : List ℕ) {res : Result (ℕ × Reader) Refusal} (n : ℕ) (r : Reader)
    → res ≡ Ok (n, r) → NumberEnsured (place + length xs) s xs res → opened ≤ n
    → Progress.stopped no_such_future place ≡ progress counts_of (place + length xs) s (force_of opened xs)
unfolding force_of progress and_then take_if
force_unopened place s opened xs n r p q le =
    let (rest, e, _, _) =
    number_read (place + length xs) s n r.place (item_counts r.seen) (number xs) (ap reached_number (sym p) ∙ q) in
    rw (e, le-ltb n opened le) (ap (Progress.stopped no_such_future) (omega arith))

-- or names one
force_counted : (len : ℕ) (s : Counts) (opened : ℕ) (xs : List ℕ) {res : Result (ℕ × Reader) Refusal} (n : ℕ) (r r' : Reader)
    → res ≡ Ok (n, r) → NumberEnsured len s xs res → n < opened
    → (r'.place ≡ r.place) × (item_counts r'.seen ≡ plus (item_counts r.seen) (one_of force_byte))
    → past r'.place (item_counts r'.seen) ≡ progress counts_of len s (force_of opened xs)
unfolding force_of take_if
force_counted len s opened xs n r r' p q lt h =
    number_counted force_byte (a_force n) len s xs _ n r r' (force_counts n) (λ rest. rw (lt-ltb n opened lt) refl) p q h

-- which of the two it is
numbered_job : (x opened : ℕ) (xs : List ℕ) → (x ≡ force_byte → ⊥) → numbered_of x opened xs ≡ job_of xs
unfolding numbered_of
numbered_job x opened xs ne = rw (ne_eqb x force_byte ne) refl

numbered_force : (x opened : ℕ) (xs : List ℕ) → x ≡ force_byte → numbered_of x opened xs ≡ force_of opened xs
unfolding numbered_of
numbered_force x opened xs is = rw (eq-eqb x force_byte is) refl

-- the number of either is refused
pub numbered_stopped : (len : ℕ) (s : Counts) (x opened : ℕ) (xs : List ℕ) {res : Result (ℕ × Reader) Refusal} (e : Refusal) → res ≡ Err e
    → NumberEnsured len s xs res → Progress.stopped (number_of e.reason) e.place ≡ progress counts_of len s (numbered_of x opened xs)
unfolding numbered_of
numbered_stopped len s x opened xs e p q = go (eqb x force_byte)
  where
    go : (t : Bool) → Progress.stopped (number_of e.reason) e.place ≡ progress counts_of len s (cond t (force_of opened xs) (job_of xs))
    go true = force_stopped len s opened xs e p q
    go false = job_stopped len s xs e p q

-- or read, and a force's names no open future
pub numbered_unopened : (place : ℕ) (s : Counts) (x opened : ℕ) (xs : List ℕ) {res : Result (ℕ × Reader) Refusal} (n : ℕ) (r : Reader)
    → res ≡ Ok (n, r) → NumberEnsured (place + length xs) s xs res → x ≡ force_byte → opened ≤ n
    → Progress.stopped no_such_future place ≡ progress counts_of (place + length xs) s (numbered_of x opened xs)
numbered_unopened place s x opened xs n r p q is le =
    force_unopened place s opened xs n r p q le ∙ ap (progress counts_of (place + length xs) s) (sym (numbered_force x opened xs is))

-- or names one
pub numbered_counted : (len : ℕ) (s : Counts) (x opened : ℕ) (xs : List ℕ) {res : Result (ℕ × Reader) Refusal} (n : ℕ) (r r' : Reader)
    → HasNumber x → res ≡ Ok (n, r) → NumberEnsured len s xs res → ((x ≡ force_byte) × (n < opened)) ⊎ (x ≡ force_byte → ⊥)
    → (r'.place ≡ r.place) × (item_counts r'.seen ≡ plus (item_counts r.seen) (one_of x))
    → past r'.place (item_counts r'.seen) ≡ progress counts_of len s (numbered_of x opened xs)
numbered_counted len s x opened xs n r r' has p q (inl (is, lt)) h =
    force_counted len s opened xs n r r' p q lt (h.0, h.1 ∙ ap (λ (y : ℕ). plus (item_counts r.seen) (one_of y)) is)
    ∙ ap (progress counts_of len s) (sym (numbered_force x opened xs is))
numbered_counted len s x opened xs n r r' (inl is) p q (inr other) h =
    job_counted len s xs n r r' p q (h.0, h.1 ∙ ap (λ (y : ℕ). plus (item_counts r.seen) (one_of y)) is)
    ∙ ap (progress counts_of len s) (sym (numbered_job x opened xs other))
numbered_counted len s x opened xs n r r' (inr is) p q (inr other) h = absurd (other is)

-- a reader that was ready has counted few items
few_of : (r : Reader) (xs : List ℕ) → Ready r xs → Few (item_counts r.seen)
few_of r xs h =
    record {
      w_few = omega arith;
      a_few = omega arith;
      f_few = omega arith;
      k_few = omega arith;
      u_few = omega arith;
      x_few = omega arith;
    }

-- so it has few behind a number
pub number_few : (len : ℕ) (r : Reader) (xs : List ℕ) {res : Result (ℕ × Reader) Refusal} (n : ℕ) (r' : Reader) → Ready r xs → res ≡ Ok (n, r')
    → NumberEnsured len (item_counts r.seen) xs res → Few (item_counts r'.seen)
number_few len r xs n r' h p q =
    let (_, _, _, seen) =
    number_read len (item_counts r.seen) n r'.place (item_counts r'.seen) (number xs) (ap reached_number (sym p) ∙ q) in
    subst Few (sym seen) (few_of r xs h)

-- ---- an item that holds bodies

-- what is read behind its first body
unfoldable following : ℕ → ℕ → {x : ℕ} → Opener x → Body → List ℕ → Read Item
following level opened (holds_one made one) b rest = took (made b) rest
following level opened (holds_two p) b rest = and_then (body (suc level) opened rest) (λ c rest'. took (a_fork b c) rest')

-- what is read of it
opens : (level opened x : ℕ) (left : List ℕ) (op : Opener x) → level < level_limit
    → item body level opened (x ∷ left) ≡ and_then (body (suc level) opened left) (following level opened op)
unfolding following
opens level opened x left (holds_one made one) lt = item_one level opened x made left one lt
opens level opened x left (holds_two p) lt = ap (λ (y : ℕ). item body level opened (y ∷ left)) p ∙ item_fork level opened left lt

-- counts that are equal kind by kind
equal_counts : (c d : Counts) → c.w ≡ d.w → c.a ≡ d.a → c.f ≡ d.f → c.k ≡ d.k → c.u ≡ d.u → c.x ≡ d.x → c ≡ d
equal_counts c d p q r s t v = λ i. record { w = p i; a = q i; f = r i; k = s i; u = t i; x = v i }

-- what an item counts that holds one body,
one_counts : (x : ℕ) (made : Body → Item) (b : Body) → OpensOneBody x made → plus (counts b) (one_of x) ≡ counts_of (made b)
unfolding plus counts counts_of one_of total same with_first
one_counts x made b of_async = equal_counts _ _ (omega arith) (omega arith) (omega arith) (omega arith) (omega arith) (omega arith)
one_counts x made b of_finish = equal_counts _ _ (omega arith) (omega arith) (omega arith) (omega arith) (omega arith) (omega arith)
one_counts x made b of_future = equal_counts _ _ (omega arith) (omega arith) (omega arith) (omega arith) (omega arith) (omega arith)

-- and a fork
fork_counts : (b c : Body) → plus (counts b) (plus (counts c) (one_of fork_byte)) ≡ counts_of (a_fork b c)
unfolding plus counts counts_of one_of total same with_first
fork_counts b c = equal_counts _ _ (omega arith) (omega arith) (omega arith) (omega arith) (omega arith) (omega arith)

-- an item that holds one body
one_body : (level opened len : ℕ) (s : Counts) (x : ℕ) (op : Opener x) (o : Read Body) → (x ≡ fork_byte → ⊥)
    → grown (one_of x) (progress counts len s o) ≡ progress counts_of len s (and_then o (following level opened op))
unfolding grown progress and_then following
one_body level opened len s x (holds_one made one) (took b rest) ne =
    ap (past (len - length rest)) (plus_assoc s (counts b) (one_of x) ∙ ap (plus s) (one_counts x made b one))
one_body level opened len s x (holds_two p) (took b rest) ne = absurd (ne p)
one_body level opened len s x op (refused n left) ne = refl

-- a fork, behind its first body
two_bodies : (len : ℕ) (s : Counts) (b : Body) (o : Read Body)
    → grown (one_of fork_byte) (progress counts len (plus s (counts b)) o)
    ≡ progress counts_of len s (and_then o (λ c rest. took (a_fork b c) rest))
unfolding grown progress and_then
two_bodies len s b (took c rest) =
    ap (past (len - length rest))
    (plus_assoc (plus s (counts b)) (counts c) (one_of fork_byte)
    ∙ plus_assoc s (counts b) (plus (counts c) (one_of fork_byte))
    ∙ ap (plus s) (fork_counts b c))
two_bodies len s b (refused n left) = refl

-- ---- the paths

-- an item where no bytes are left
pub path_out : (level opened : ℕ) (xs : List ℕ) (place : ℕ) (s : Counts) → length xs ≡ 0
    → Progress.stopped bytes_run_out place ≡ progress counts_of (place + length xs) s (item body level opened xs)
unfolding item progress
path_out level opened [] place s p = ap (Progress.stopped bytes_run_out) (omega arith)
path_out level opened (x ∷ left) place s p = absurd (omega arith)

-- a byte of no kind starts no item
item_none : (level opened x : ℕ) (left : List ℕ) → kind_of x ≡ none → item body level opened (x ∷ left) ≡ refused byte_unknown (x ∷ left)
unfolding item item_of
item_none level opened x left p = ap (λ (k : Option Kind). item_of body level opened (x ∷ left) k left) p

-- a refusal at the item
refused_here : (n place : ℕ) (s : Counts) (xs : List ℕ) (t : Read Item) → t ≡ refused n xs
    → Progress.stopped n place ≡ progress counts_of (place + length xs) s t
unfolding progress
refused_here n place s xs t p = ap (Progress.stopped n) (omega arith) ∙ ap (progress counts_of (place + length xs) s) (sym p)

-- an item whose bodies are too deep
pub path_deep :
    (level opened : ℕ) (xs : List ℕ) (r : Reader) → 0 < length xs → async_byte ≤ get_or xs 0 0 → get_or xs 0 0 ≤ future_byte → level_limit ≤ level
    → Progress.stopped level_too_deep r.place ≡ progress counts_of (r.place + length xs) (item_counts r.seen) (item body level opened xs)
path_deep level opened xs r some ge le deep =
    let split : xs ≡ get_or xs 0 0 ∷ drop 1 xs = drop-cons xs 0 0 some in
    refused_here level_too_deep r.place (item_counts r.seen) xs (item body level opened xs)
    (ap (item body level opened) split
    ∙ item_deep level opened (get_or xs 0 0) (drop 1 xs) ge le deep
    ∙ ap (refused level_too_deep) (sym split))

-- its bodies' reader is handed less than the whole
pub opened_falls : (xs : List ℕ) (k t : ℕ) → 0 < k → (length xs ≡ 0 → ⊥) → 2 * length xs ≡ t → 2 * length (slice xs k) + 1 < t
opened_falls xs k t lt ne p = omega (arith, slice-length xs k)

-- the reader r stands at an item of a body at this level, where so many futures are open, and o behind the item's first byte
pub record Opened (level opened : ℕ) (xs : List ℕ) (r o : Reader) : Type 0 where
  pub some : length xs ≡ 0 → ⊥
  pub ready : Ready r xs
  pub few : opened ≤ r.place
  pub moved : (o.place ≡ r.place + 1) × (o.seen ≡ r.seen)

-- other bytes start no item
pub of_no_kind :
    (x : ℕ) → (x ≡ job_byte → ⊥) → (x ≡ async_byte → ⊥) → (x ≡ finish_byte → ⊥) → (x ≡ fork_byte → ⊥) → (x ≡ future_byte → ⊥)
    → (x ≡ force_byte → ⊥) → kind_of x ≡ none
unfolding kind_of
of_no_kind zero j a f k u o = refl
of_no_kind (suc zero) j a f k u o = absurd (j refl)
of_no_kind (suc (suc zero)) j a f k u o = absurd (a refl)
of_no_kind (suc (suc (suc zero))) j a f k u o = absurd (f refl)
of_no_kind (suc (suc (suc (suc zero)))) j a f k u o = absurd (k refl)
of_no_kind (suc (suc (suc (suc (suc zero))))) j a f k u o = absurd (u refl)
of_no_kind (suc (suc (suc (suc (suc (suc zero)))))) j a f k u o = absurd (o refl)
of_no_kind (suc (suc (suc (suc (suc (suc (suc n))))))) j a f k u o = refl

module _ {level opened : ℕ} {xs : List ℕ} {r o : Reader} (at : Opened level opened xs r o) where
  -- what the item's reader is to come to
  abbrev Comes : Progress → Type 0
  Comes v = v ≡ progress counts_of (r.place + length xs) (item_counts r.seen) (item body level opened xs)

  -- the first byte and the others
  split : xs ≡ get_or xs 0 0 ∷ drop 1 xs
  split = drop-cons xs 0 0 (omega (arith, at.some))

  by_first : {t : Read Item} → item body level opened (get_or xs 0 0 ∷ drop 1 xs) ≡ t → item body level opened xs ≡ t
  by_first p = ap (item body level opened) split ∙ p

  stop_here : (n : ℕ) → item body level opened (get_or xs 0 0 ∷ drop 1 xs) ≡ refused n (get_or xs 0 0 ∷ drop 1 xs)
      → Comes (Progress.stopped n r.place)
  stop_here n p = refused_here n r.place (item_counts r.seen) xs (item body level opened xs) (by_first p ∙ ap (refused n) (sym split))

  -- a first byte that starts no item
  pub path_unknown : kind_of (get_or xs 0 0) ≡ none → Comes (Progress.stopped byte_unknown r.place)
  path_unknown p = stop_here byte_unknown (item_none level opened (get_or xs 0 0) (drop 1 xs) p)

  -- the reader behind the first byte is ready
  opened_left : Ready o (drop 1 xs)
  opened_left =
      let h = at.ready in
      let m = at.moved.0 in
      record {
        within = omega (arith, h.within, m, length-drop 1 xs, at.some);
        jobs = subst (λ (c : ItemCounts). c.jobs ≤ o.place) (sym at.moved.1) (omega (arith, h.jobs, m));
        asyncs = subst (λ (c : ItemCounts). c.asyncs ≤ o.place) (sym at.moved.1) (omega (arith, h.asyncs, m));
        finishes = subst (λ (c : ItemCounts). c.finishes ≤ o.place) (sym at.moved.1) (omega (arith, h.finishes, m));
        forks = subst (λ (c : ItemCounts). c.forks ≤ o.place) (sym at.moved.1) (omega (arith, h.forks, m));
        futures = subst (λ (c : ItemCounts). c.futures ≤ o.place) (sym at.moved.1) (omega (arith, h.futures, m));
        forces = subst (λ (c : ItemCounts). c.forces ≤ o.place) (sym at.moved.1) (omega (arith, h.forces, m));
      }

  pub opened_ready : Ready o (slice xs 1)
  opened_ready = subst (Ready o) (sym (part_to_end xs 1)) opened_left

  -- and has room for the futures that are open
  pub opened_few : opened ≤ o.place
  opened_few = omega (arith, at.few, at.moved.0)

  -- what was read behind it
  on_left : {A : Type 0} (count : A → Counts) (f : List ℕ → Read A) {v : Progress}
      → v ≡ progress count (o.place + length (slice xs 1)) (item_counts o.seen) (f (slice xs 1))
      → v ≡ progress count (o.place + length (drop 1 xs)) (item_counts o.seen) (f (drop 1 xs))
  on_left count f {v} q =
      subst (λ (ys : List ℕ). v ≡ progress count (o.place + length ys) (item_counts o.seen) (f ys)) (part_to_end xs 1) q

  from_left : {A : Type 0} (count : A → Counts) (f : List ℕ → Read A) {v : Progress}
      → v ≡ progress count (o.place + length (slice xs 1)) (item_counts o.seen) (f (slice xs 1))
      → v ≡ progress count (r.place + length xs) (item_counts r.seen) (f (drop 1 xs))
  from_left count f q = on_left count f q ∙ (λ i. progress count (len i) (item_counts (at.moved.1 i)) (f (drop 1 xs)))
    where
      len : o.place + length (drop 1 xs) ≡ r.place + length xs
      len = omega (arith, at.some, at.moved.0, length-drop 1 xs)

  -- a job
  path_job : {v : Progress} → get_or xs 0 0 ≡ job_byte
      → v ≡ progress counts_of (o.place + length (slice xs 1)) (item_counts o.seen) (job_of (slice xs 1)) → Comes v
  path_job p q =
      from_left counts_of job_of q
      ∙ ap (progress counts_of (r.place + length xs) (item_counts r.seen))
      (sym (by_first (ap (λ (y : ℕ). item body level opened (y ∷ drop 1 xs)) p ∙ item_job level opened (drop 1 xs))))

  -- a force
  path_force : {v : Progress} → get_or xs 0 0 ≡ force_byte
      → v ≡ progress counts_of (o.place + length (slice xs 1)) (item_counts o.seen) (force_of opened (slice xs 1)) → Comes v
  path_force p q =
      from_left counts_of (force_of opened) q
      ∙ ap (progress counts_of (r.place + length xs) (item_counts r.seen))
      (sym (by_first (ap (λ (y : ℕ). item body level opened (y ∷ drop 1 xs)) p ∙ item_force level opened (drop 1 xs))))

  -- either
  pub path_numbered : {v : Progress} → HasNumber (get_or xs 0 0)
      → v ≡ progress counts_of (o.place + length (slice xs 1)) (item_counts o.seen) (numbered_of (get_or xs 0 0) opened (slice xs 1))
      → Comes v
  path_numbered (inl p) q =
      path_job p
      (q
      ∙ ap (progress counts_of (o.place + length (slice xs 1)) (item_counts o.seen))
      (numbered_job (get_or xs 0 0) opened (slice xs 1) (λ f. absurd (omega arith))))
  path_numbered (inr p) q =
      path_force p
      (q ∙ ap (progress counts_of (o.place + length (slice xs 1)) (item_counts o.seen)) (numbered_force (get_or xs 0 0) opened (slice xs 1) p))

  -- an item that holds bodies
  holding : (op : Opener (get_or xs 0 0)) → level < level_limit
      → Comes (progress counts_of (r.place + length xs) (item_counts r.seen)
      (and_then (body (suc level) opened (drop 1 xs)) (following level opened op)))
  holding op lt =
      ap (progress counts_of (r.place + length xs) (item_counts r.seen)) (sym (by_first (opens level opened (get_or xs 0 0) (drop 1 xs) op lt)))

  -- what the reader of its first body ensured
  abbrev First : Progress → Type 0
  First v = v ≡ progress counts (o.place + length (slice xs 1)) (item_counts o.seen) (body (level + 1) opened (slice xs 1))

  first_body : {v : Progress} → First v → v ≡ progress counts (r.place + length xs) (item_counts r.seen) (body (suc level) opened (drop 1 xs))
  first_body q =
      from_left counts (body (level + 1) opened) q
      ∙ ap (λ (n : ℕ). progress counts (r.place + length xs) (item_counts r.seen) (body n opened (drop 1 xs))) (add-one level)

  -- its first body is refused
  pub path_stopped : {res : Result Reader Refusal} (e : Refusal) → async_byte ≤ get_or xs 0 0 → get_or xs 0 0 ≤ future_byte → level < level_limit
      → res ≡ Err e → First (reached res) → Comes (Progress.stopped (number_of e.reason) e.place)
  path_stopped e ge le lt p q =
      stopped_on counts counts_of (r.place + length xs) (item_counts r.seen) (item_counts r.seen) (number_of e.reason) e.place
      (body (suc level) opened (drop 1 xs)) (following level opened (opener_is (get_or xs 0 0) ge le)) (first_body (sym (ap reached p) ∙ q))
      ∙ holding (opener_is (get_or xs 0 0) ge le) lt

  -- an async, a finish or a future
  pub path_one : {res : Result Reader Refusal} {b c : Reader} → async_byte ≤ get_or xs 0 0 → get_or xs 0 0 ≤ future_byte
      → (get_or xs 0 0 ≡ fork_byte → ⊥) → level < level_limit → res ≡ Ok b → First (reached res)
      → (c.place ≡ b.place) × (item_counts c.seen ≡ plus (item_counts b.seen) (one_of (get_or xs 0 0)))
      → Comes (past c.place (item_counts c.seen))
  unfolding grown
  path_one {b = b} ge le other lt p q h =
      (λ i. past (h.0 i) (h.1 i))
      ∙ ap (grown (one_of (get_or xs 0 0))) (first_body (sym (ap reached p) ∙ q))
      ∙ one_body level opened (r.place + length xs) (item_counts r.seen) (get_or xs 0 0) (opener_is (get_or xs 0 0) ge le)
      (body (suc level) opened (drop 1 xs)) other
      ∙ holding (opener_is (get_or xs 0 0) ge le) lt

  -- its first body is read, and the reader b is behind it
  abbrev pub Held : Reader → Type 0
  Held b = Taken counts encode (body (suc level) opened (drop 1 xs)) o b (drop 1 xs)

  pub first_held : {res : Result Reader Refusal} (b : Reader) → res ≡ Ok b → First (reached res) → Held b
  first_held b p q =
      past_taken counts encode (body (suc level) opened (drop 1 xs)) o b (drop 1 xs) opened_left body_most (body_sound (suc level) opened (drop 1 xs))
      (on_left counts (body (level + 1) opened) (sym (ap reached p) ∙ q)
      ∙ ap (λ (n : ℕ). progress counts (o.place + length (drop 1 xs)) (item_counts o.seen) (body n opened (drop 1 xs))) (add-one level))

  -- what the reader of its second body ensured
  abbrev Second : Reader → Progress → Type 0
  Second b v =
      v
      ≡ progress counts (b.place + length (slice xs (b.place - r.place))) (item_counts b.seen)
      (body (level + 1) opened (slice xs (b.place - r.place)))

  -- a fork whose first body was read
  forking : (x : Body) (rest : List ℕ) → body (suc level) opened (drop 1 xs) ≡ took x rest → get_or xs 0 0 ≡ fork_byte → level < level_limit
      → Comes (progress counts_of (r.place + length xs) (item_counts r.seen)
      (and_then (body (suc level) opened rest) (λ c rest'. took (a_fork x c) rest')))
  unfolding and_then following
  forking x rest e p lt =
      ap (λ (t : Read Body). progress counts_of (r.place + length xs) (item_counts r.seen) (and_then t (following level opened (holds_two p))))
      (sym e)
      ∙ holding (holds_two p) lt

  module _ {b : Reader} where
    -- few items were counted
    pub first_few : Held b → Few (item_counts b.seen)
    first_few (taken x rest e now d) = few_of b rest d.ready

    -- where the second body of a fork starts
    pub second_at : Held b → (r.place < b.place) × (b.place - r.place ≤ length xs)
    second_at (taken x rest e now d) =
        (omega (arith, at.moved.0, d.further), omega (arith, at.some, at.moved.0, d.further, d.all, length-drop 1 xs))

    -- where there is room for the futures that are open
    pub second_open : Held b → opened ≤ b.place
    second_open (taken x rest e now d) = omega (arith, at.few, at.moved.0, d.further)

    -- which is what is left
    second_is : (x : Body) (rest : List ℕ) → Moved o b (drop 1 xs) (encode x) rest → slice xs (b.place - r.place) ≡ rest
    second_is x rest d =
        part_to_end xs (b.place - r.place)
        ∙ ap (λ (n : ℕ). drop n xs) from_is
        ∙ sym (drop-drop (length (encode x)) 1 xs)
        ∙ d.left
      where
        from_is : b.place - r.place ≡ 1 + length (encode x)
        from_is = omega (arith, at.moved.0, d.further)

    pub second_ready : Held b → Ready b (slice xs (b.place - r.place))
    second_ready (taken x rest e now d) = subst (Ready b) (sym (second_is x rest d)) d.ready

    -- what was read of its second body
    on_rest : (x : Body) (rest : List ℕ) → Moved o b (drop 1 xs) (encode x) rest → {v : Progress} → Second b v
        → v ≡ progress counts (b.place + length rest) (item_counts b.seen) (body (suc level) opened rest)
    on_rest x rest d {v} q =
        subst (λ (ys : List ℕ). v ≡ progress counts (b.place + length ys) (item_counts b.seen) (body (level + 1) opened ys))
        (second_is x rest d) q
        ∙ ap (λ (n : ℕ). progress counts (b.place + length rest) (item_counts b.seen) (body n opened rest)) (add-one level)

    from_rest : (x : Body) (rest : List ℕ) → item_counts b.seen ≡ plus (item_counts o.seen) (counts x)
        → Moved o b (drop 1 xs) (encode x) rest → {v : Progress} → Second b v
        → v ≡ progress counts (r.place + length xs) (plus (item_counts r.seen) (counts x)) (body (suc level) opened rest)
    from_rest x rest now d q =
        on_rest x rest d q
        ∙ ap (λ (n : ℕ). progress counts n (item_counts b.seen) (body (suc level) opened rest)) len
        ∙ ap (λ (c : Counts). progress counts (r.place + length xs) c (body (suc level) opened rest))
        (now ∙ ap (λ (c : ItemCounts). plus (item_counts c) (counts x)) at.moved.1)
      where
        len : b.place + length rest ≡ r.place + length xs
        len = omega (arith, at.some, at.moved.0, d.further, d.all, length-drop 1 xs)

    -- the second body of a fork is refused
    pub path_second_stopped : {res : Result Reader Refusal} (e : Refusal) → Held b → get_or xs 0 0 ≡ fork_byte → level < level_limit
        → res ≡ Err e → Second b (reached res) → Comes (Progress.stopped (number_of e.reason) e.place)
    path_second_stopped e (taken x rest t now d) p lt is q =
        stopped_on counts counts_of (r.place + length xs) (plus (item_counts r.seen) (counts x)) (item_counts r.seen) (number_of e.reason)
        e.place
        (body (suc level) opened rest) (λ c rest'. took (a_fork x c) rest') (from_rest x rest now d (sym (ap reached is) ∙ q))
        ∙ forking x rest t p lt

    -- the second body of a fork is read
    pub second_few : {res : Result Reader Refusal} {c : Reader} → Held b → res ≡ Ok c → Second b (reached res) → Few (item_counts c.seen)
    second_few {c = c} (taken x rest t now d) is q =
        few (past_taken counts encode (body (suc level) opened rest) b c rest d.ready body_most (body_sound (suc level) opened rest)
        (on_rest x rest d (sym (ap reached is) ∙ q)))
      where
        few : Taken counts encode (body (suc level) opened rest) b c rest → Few (item_counts c.seen)
        few (taken x' rest' t' now' d') = few_of c rest' d'.ready

    -- a fork
    pub path_two : {res : Result Reader Refusal} {c n : Reader} → Held b → get_or xs 0 0 ≡ fork_byte → level < level_limit → res ≡ Ok c
        → Second b (reached res) → (n.place ≡ c.place) × (item_counts n.seen ≡ plus (item_counts c.seen) (one_of fork_byte))
        → Comes (past n.place (item_counts n.seen))
    unfolding grown
    path_two (taken x rest t now d) p lt is q h =
        (λ i. past (h.0 i) (h.1 i))
        ∙ ap (grown (one_of fork_byte)) (from_rest x rest now d (sym (ap reached is) ∙ q))
        ∙ two_bodies (r.place + length xs) (item_counts r.seen) x (body (suc level) opened rest)
        ∙ forking x rest t p lt
