-- A reading under way: its counts add up, and a reader that was ready for some bytes is ready for those behind what it took.
use Prim.Native.Nat.{ℕ, ◌+◌, ◌-◌, ◌≤◌}
use mathlib.Core.Path.{◌≡◌, refl, ◌∙◌, ap, subst}
use mathlib.Core.List.{List, ◌++◌}
use native.Mathlib.Nat.{add_assoc, add-zero}
use native.Mathlib.Omega.{arith}
use lib.ListN.{length, take, drop, length-drop, length-append}
use lib.Seq.{drop-append_seam}
use borrow.Author.Rules.{part_to_end}
use Rattle.std.specs.Prelude.{Result, Ok, Err, IsErr, IsErrAnd}
use Rattle.refusal.specs.declared.Refusal.{Refusal}
use Rattle.program.specs.declared.Reader.{Reader}
use Rattle.program.specs.Trees.{Kind, jobs, asyncs, finishes, forks, futures, forces, Body, end, Item, a_job, an_async, a_finish, a_fork}
use Rattle.program.specs.Trees.{a_future, a_force, with_first, total, same, Counts, counts}
use Rattle.program.specs.Bytes.{encode, size}
use Rattle.program.specs.Reader.{Read, took, refused, and_then}
use Rattle.program.specs.Answers.{item_counts}
use Rattle.program.specs.Internal.Progress.{plus, Progress, past, stopped, progress, counts_of, Ready}
use Rattle.program.proofs.Formulas.{count_lt, count_le}
use Rattle.program.proofs.Soundness.{item_bytes, encode_ahead}

-- ---- slices

-- all of a list from a place on, as the code hands it over
abbrev pub slice : List ℕ → ℕ → List ℕ
slice xs k = take (length xs - k) (drop k xs)

-- its length
pub slice-length : (xs : List ℕ) (k : ℕ) → length (slice xs k) ≡ length xs - k
slice-length xs k = ap length (part_to_end xs k) ∙ length-drop k xs

-- ---- refusals

-- what `?` passes on is the refusal that came
pub passed_on : {A : Type 0} (r : Result A Refusal) (e : Refusal) → IsErr r × IsErrAnd r (λ y. y ≡ e) → r ≡ Err e
passed_on (Ok a) e h = absurd h.1
passed_on (Err y) e h = ap Err h.1

-- ---- counts

-- sums of counts
pub plus_assoc : (c d e : Counts) → plus (plus c d) e ≡ plus c (plus d e)
unfolding plus
plus_assoc c d e =
    λ i.
    record {
      w = add_assoc c.w d.w e.w i;
      a = add_assoc c.a d.a e.a i;
      f = add_assoc c.f d.f e.f i;
      k = add_assoc c.k d.k e.k i;
      u = add_assoc c.u d.u e.u i;
      x = add_assoc c.x d.x e.x i;
    }

-- an end byte counts nothing
pub plus-end : (c : Counts) → plus c (counts end) ≡ c
unfolding plus counts total
plus-end c =
    λ i.
    record {
      w = add-zero c.w i;
      a = add-zero c.a i;
      f = add-zero c.f i;
      k = add-zero c.k i;
      u = add-zero c.u i;
      x = add-zero c.x i;
    }

-- what a body weighs, by its first item
pub total_ahead : (g : Kind → ℕ) (i : Item) (b : Body) → total g (with_first i b) ≡ total g (with_first i end) + total g b
unfolding total with_first
total_ahead g (a_job n) b = omega arith
total_ahead g (an_async c) b = omega arith
total_ahead g (a_finish c) b = omega arith
total_ahead g (a_fork c d) b = omega arith
total_ahead g (a_future c) b = omega arith
total_ahead g (a_force n) b = omega arith

-- what it counts
pub counts_ahead : (i : Item) (b : Body) → counts (with_first i b) ≡ plus (counts_of i) (counts b)
unfolding counts counts_of plus
counts_ahead i b =
    λ j.
    record {
      w = total_ahead (same jobs) i b j;
      a = total_ahead (same asyncs) i b j;
      f = total_ahead (same finishes) i b j;
      k = total_ahead (same forks) i b j;
      u = total_ahead (same futures) i b j;
      x = total_ahead (same forces) i b j;
    }

-- no count is above this
pub record AtMost (n : ℕ) (c : Counts) : Type 0 where
  pub w_most : c.w ≤ n
  pub a_most : c.a ≤ n
  pub f_most : c.f ≤ n
  pub k_most : c.k ≤ n
  pub u_most : c.u ≤ n
  pub x_most : c.x ≤ n

-- a body has no more items of a kind than bytes
pub body_most : (b : Body) → AtMost (length (encode b)) (counts b)
unfolding counts size
body_most b =
    record {
      w_most = count_le jobs b;
      a_most = count_le asyncs b;
      f_most = count_le finishes b;
      k_most = count_le forks b;
      u_most = count_le futures b;
      x_most = count_le forces b;
    }

-- nor has an item
item_few : (k : Kind) (i : Item) → total (same k) (with_first i end) ≤ length (item_bytes i)
unfolding size encode
item_few k i =
    let h : length (encode (with_first i end)) ≡ length (item_bytes i ++ encode end) = ap length (encode_ahead i end) in
    omega (arith, count_lt k (with_first i end), length-append (item_bytes i) (encode end))

-- of no kind
pub item_most : (i : Item) → AtMost (length (item_bytes i)) (counts_of i)
unfolding counts counts_of
item_most i =
    record {
      w_most = item_few jobs i;
      a_most = item_few asyncs i;
      f_most = item_few finishes i;
      k_most = item_few forks i;
      u_most = item_few futures i;
      x_most = item_few forces i;
    }

-- the first refusal stands
pub stopped_on : {A B : Type 0} (count : A → Counts) (count' : B → Counts) (len : ℕ)
    (s s' : Counts) (n p : ℕ) (o : Read A) (next : A → List ℕ → Read B)
    → stopped n p ≡ progress count len s o → stopped n p ≡ progress count' len s' (and_then o next)
unfolding progress and_then
stopped_on count count' len s s' n p (took x rest) next h = absurd (subst IsStopped h tt)
  where
    IsStopped : Progress → Type 0
    IsStopped (past q t) = ⊥
    IsStopped (stopped m q) = Unit {0}
stopped_on count count' len s s' n p (refused m left) next h = h

-- ---- a reader that was ready, behind what it took

-- r' is the reader r behind these bytes of xs, with the rest of them left
pub record Moved (r r' : Reader) (xs bytes rest : List ℕ) : Type 0 where
  pub ready : Ready r' rest
  pub further : r'.place ≡ r.place + length bytes
  pub all : length xs ≡ length bytes + length rest
  pub left : drop (length bytes) xs ≡ rest

-- where such a reader is
pub behind : (r r' : Reader) (xs bytes rest : List ℕ) (c : Counts) → Ready r xs → xs ≡ bytes ++ rest → AtMost (length bytes) c
    → r'.place ≡ r.place + length xs - length rest → item_counts r'.seen ≡ plus (item_counts r.seen) c
    → Moved r r' xs bytes rest
unfolding plus
behind r r' xs bytes rest c h e few p s =
    let len : length xs ≡ length bytes + length rest = ap length e ∙ length-append bytes rest in
    let w : r'.seen.jobs ≡ r.seen.jobs + c.w = ap (λ (d : Counts). d.w) s in
    let a : r'.seen.asyncs ≡ r.seen.asyncs + c.a = ap (λ (d : Counts). d.a) s in
    let f : r'.seen.finishes ≡ r.seen.finishes + c.f = ap (λ (d : Counts). d.f) s in
    let k : r'.seen.forks ≡ r.seen.forks + c.k = ap (λ (d : Counts). d.k) s in
    let u : r'.seen.futures ≡ r.seen.futures + c.u = ap (λ (d : Counts). d.u) s in
    let x : r'.seen.forces ≡ r.seen.forces + c.x = ap (λ (d : Counts). d.x) s in
    record {
      ready =
          record {
            within = omega arith;
            jobs = omega arith;
            asyncs = omega arith;
            finishes = omega arith;
            forks = omega arith;
            futures = omega arith;
            forces = omega arith;
          };
      further = omega arith;
      all = len;
      left = ap (drop (length bytes)) e ∙ drop-append_seam bytes rest;
    }

-- what was read is a value, with its bytes, and r' is the reader behind them
pub data Taken {A : Type 0} (count : A → Counts) (bytes_of : A → List ℕ) (o : Read A) (r r' : Reader) (xs : List ℕ) : Type 0 where
  taken : (x : A) (rest : List ℕ) → o ≡ took x rest → item_counts r'.seen ≡ plus (item_counts r.seen) (count x)
      → Moved r r' xs (bytes_of x) rest
      → Taken count bytes_of o r r' xs

-- a reader that is past what it read has taken a value
pub past_taken : {A : Type 0} (count : A → Counts) (bytes_of : A → List ℕ) (o : Read A) (r r' : Reader) (xs : List ℕ) → Ready r xs
    → ((x : A) → AtMost (length (bytes_of x)) (count x)) → ((x : A) (rest : List ℕ) → o ≡ took x rest → xs ≡ bytes_of x ++ rest)
    → past r'.place (item_counts r'.seen) ≡ progress count (r.place + length xs) (item_counts r.seen) o
    → Taken count bytes_of o r r' xs
unfolding progress
past_taken count bytes_of (took x rest) r r' xs h most sound p =
    let place : r'.place ≡ r.place + length xs - length rest = ap place_of p in
    let seen : item_counts r'.seen ≡ plus (item_counts r.seen) (count x) = ap seen_of p in
    taken x rest refl seen (behind r r' xs (bytes_of x) rest (count x) h (sound x rest refl) (most x) place seen)
  where
    place_of : Progress → ℕ
    place_of (past q s) = q
    place_of (stopped n q) = q

    seen_of : Progress → Counts
    seen_of (past q s) = s
    seen_of (stopped n q) = item_counts r.seen
past_taken count bytes_of (refused n left) r r' xs h most sound p = absurd (subst IsPast p tt)
  where
    IsPast : Progress → Type 0
    IsPast (past q s) = Unit {0}
    IsPast (stopped m q) = ⊥
