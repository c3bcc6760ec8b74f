-- The code of an item and its rest in pieces, one law per kind of item: which of its jobs are the rest's, which are the kids', and what
-- comes ahead of the rest: of an async's and of a future's body nothing, of a finish's body all but futures, of a fork's branches what is
-- waited for by whoever waits for them, and of what a force waits for all but futures. A future's body is not in the scope of its item.
use Prim.Native.Nat.{ℕ}
use mathlib.Core.Path.{◌≡◌, refl}
use mathlib.Core.Logic.{inl, inr, ⊎_elim}
use native.Mathlib.Omega.{arith}
use Rattle.program.specs.Located.{Code, async_at, finish_at, fork_at, future_at, force_at}
use Rattle.program.proofs.LocatedLaws.{Laid}
use Rattle.machine.proofs.JobOrder.Order.{Job, InA, InS, Pre}
use Rattle.machine.proofs.JobOrder.OrderLaws.{ins_ina, async_before, finish_before, fork_before, future_before, left_before}
use Rattle.machine.proofs.JobOrder.OrderLaws.{right_before}
use Rattle.machine.proofs.JobOrder.OrderParts.{of, Awaited, led, scoped, Pieces}

-- nothing is forced
abbrev pub Nothing : ℕ → Type 0
Nothing p = ⊥

-- no kid, one, and two
abbrev pub NoKid : ℕ → Code → Type 0
NoKid n b = ⊥

pub data One (n : ℕ) (b : Code) : ℕ → Code → Type 0 where
  single : One n b n b

pub data Two (m n : ℕ) (b c : Code) : ℕ → Code → Type 0 where
  left : Two m n b c m b
  right : Two m n b c n c

-- an async: its kid neither leads to the rest's vertex nor has it for a scope
pub async_pieces :
    {T : Type 0} (o n h t : ℕ) (b r : Code) → T → Laid (async_at o b r) → (t ≡ h → ⊥)
    → Pieces (async_at o b r) r (One n b) (Awaited h t t) T Nothing
unfolding Job InA InS Pre
async_pieces {T} o n h t b r tied l out =
    record {
      alls = λ p j. ⊎_elim (λ j. inr (inr (tied, of n b single j))) inl j;
      all_rest = λ p j. inr j;
      all_kid = kid_all;
      sum_forced = λ p g. absurd g;
      pre_forced = λ p q g j. absurd g;
      job_rest = λ p j. inr j;
      job_kid = kid_job;
      sums = λ p i. inl i;
      sum_rest = λ p i. i;
      sum_kid = λ x p d k a. absurd (none a);
      pres = λ p q f. inr (⊎_elim (λ f. inr (of n b single f)) inl f);
      pre_first = λ x p q d k a j. absurd (none a);
      pre_rest = λ p q f. inr f;
      pre_kid = kid_pre;
      apart = kid_apart;
      alike = kid_alike;
    }
  where
    none : {d : Code} {p : ℕ} → Awaited h t t d p → ⊥
    none (led e i) = out e
    none (scoped e j) = out e

    kid_job : (x p : ℕ) (d : Code) → One n b x d → Job d p → Job (async_at o b r) p
    kid_job x p d single j = inl j

    kid_all : (x p : ℕ) (d : Code) → T → One n b x d → InA d p → InA (async_at o b r) p
    kid_all x p d tied single j = inl j

    kid_pre : (x p q : ℕ) (d : Code) → One n b x d → Pre d p q → Pre (async_at o b r) p q
    kid_pre x p q d single f = inl f

    kid_apart : (x p : ℕ) (d : Code) → One n b x d → Job d p → Job r p → ⊥
    kid_apart x p d single j j' = absurd (omega (arith, async_before o b r p p l j j'))

    kid_alike : (x y p : ℕ) (d e : Code) → One n b x d → One n b y e → Job d p → Job e p → (x ≡ y) × (d ≡ e)
    kid_alike x y p d e single single j j' = (refl, refl)

-- a finish: the rest's vertex is its kid's scope
pub finish_pieces :
    {T : Type 0} (o n h : ℕ) (b r : Code) → T → Laid (finish_at o b r)
    → Pieces (finish_at o b r) r (One n b) (Awaited h h h) T Nothing
unfolding Job InA InS Pre
finish_pieces {T} o n h b r tied l =
    record {
      alls = λ p j. ⊎_elim (λ j. inr (inr (tied, of n b single j))) inl j;
      all_rest = λ p j. inr j;
      all_kid = kid_all;
      sum_forced = λ p g. absurd g;
      pre_forced = λ p q g j. absurd g;
      job_rest = λ p j. inr j;
      job_kid = kid_job;
      sums = λ p i. ⊎_elim (λ j. inr (inr (of n b single (scoped refl j)))) inl i;
      sum_rest = λ p i. inr i;
      sum_kid = kid_sum;
      pres = λ p q f.
          ⊎_elim (λ f. inl (inr (of n b single (scoped refl f.0)), f.1)) (λ f. inr (⊎_elim (λ f. inr (of n b single f)) inl f)) f;
      pre_first = kid_first;
      pre_rest = λ p q f. inr (inr f);
      pre_kid = kid_pre;
      apart = kid_apart;
      alike = kid_alike;
    }
  where
    all : {d : Code} {p : ℕ} → Awaited h h h d p → InA d p
    all {d} {p} (led e i) = ins_ina d p i
    all (scoped e j) = j

    kid_job : (x p : ℕ) (d : Code) → One n b x d → Job d p → Job (finish_at o b r) p
    kid_job x p d single j = inl j

    kid_all : (x p : ℕ) (d : Code) → T → One n b x d → InA d p → InA (finish_at o b r) p
    kid_all x p d tied single j = inl j

    kid_sum : (x p : ℕ) (d : Code) → One n b x d → Awaited h h h d p → InS (finish_at o b r) p
    kid_sum x p d single a = inl (all a)

    kid_first : (x p q : ℕ) (d : Code) → One n b x d → Awaited h h h d p → Job r q → Pre (finish_at o b r) p q
    kid_first x p q d single a j = inl (all a, j)

    kid_pre : (x p q : ℕ) (d : Code) → One n b x d → Pre d p q → Pre (finish_at o b r) p q
    kid_pre x p q d single f = inr (inl f)

    kid_apart : (x p : ℕ) (d : Code) → One n b x d → Job d p → Job r p → ⊥
    kid_apart x p d single j j' = absurd (omega (arith, finish_before o b r p p l j j'))

    kid_alike : (x y p : ℕ) (d e : Code) → One n b x d → One n b y e → Job d p → Job e p → (x ≡ y) × (d ≡ e)
    kid_alike x y p d e single single j j' = (refl, refl)

-- a fork: its kids lead to the rest's vertex
pub fork_pieces :
    {T : Type 0} (o m n h s : ℕ) (b c r : Code) → T → Laid (fork_at o b c r) → (s ≡ h → ⊥)
    → Pieces (fork_at o b c r) r (Two m n b c) (Awaited h h s) T Nothing
unfolding Job InA InS Pre
fork_pieces {T} o m n h s b c r tied l out =
    record {
      alls = λ p j. ⊎_elim (λ j. inr (inr (tied, of m b left j))) (⊎_elim (λ j. inr (inr (tied, of n c right j))) inl) j;
      all_rest = λ p j. inr (inr j);
      all_kid = kid_all;
      sum_forced = λ p g. absurd g;
      pre_forced = λ p q g j. absurd g;
      job_rest = λ p j. inr (inr j);
      job_kid = kid_job;
      sums = λ p i. ⊎_elim (λ i. inr (inr (of m b left (led refl i)))) (⊎_elim (λ i. inr (inr (of n c right (led refl i)))) inl) i;
      sum_rest = λ p i. inr (inr i);
      sum_kid = kid_sum;
      pres = λ p q f.
          ⊎_elim
          (λ f. inl (inr (⊎_elim (λ i. of m b left (led refl i)) (λ i. of n c right (led refl i)) f.0), f.1))
          (λ f. inr (⊎_elim (λ f. inr (of m b left f)) (⊎_elim (λ f. inr (of n c right f)) inl) f))
          f;
      pre_first = kid_first;
      pre_rest = λ p q f. inr (inr (inr f));
      pre_kid = kid_pre;
      apart = kid_apart;
      alike = kid_alike;
    }
  where
    some_of : {d : Code} {p : ℕ} → Awaited h h s d p → InS d p
    some_of (led e i) = i
    some_of (scoped e j) = absurd (out e)

    kid_job : (x p : ℕ) (d : Code) → Two m n b c x d → Job d p → Job (fork_at o b c r) p
    kid_job x p d left j = inl j
    kid_job x p d right j = inr (inl j)

    kid_all : (x p : ℕ) (d : Code) → T → Two m n b c x d → InA d p → InA (fork_at o b c r) p
    kid_all x p d tied left j = inl j
    kid_all x p d tied right j = inr (inl j)

    kid_sum : (x p : ℕ) (d : Code) → Two m n b c x d → Awaited h h s d p → InS (fork_at o b c r) p
    kid_sum x p d left a = inl (some_of a)
    kid_sum x p d right a = inr (inl (some_of a))

    kid_first : (x p q : ℕ) (d : Code) → Two m n b c x d → Awaited h h s d p → Job r q → Pre (fork_at o b c r) p q
    kid_first x p q d left a j = inl (inl (some_of a), j)
    kid_first x p q d right a j = inl (inr (some_of a), j)

    kid_pre : (x p q : ℕ) (d : Code) → Two m n b c x d → Pre d p q → Pre (fork_at o b c r) p q
    kid_pre x p q d left f = inr (inl f)
    kid_pre x p q d right f = inr (inr (inl f))

    kid_apart : (x p : ℕ) (d : Code) → Two m n b c x d → Job d p → Job r p → ⊥
    kid_apart x p d left j j' = absurd (omega (arith, left_before o b c r p p l j j'))
    kid_apart x p d right j j' = absurd (omega (arith, right_before o b c r p p l j j'))

    branches : (p : ℕ) → Job b p → Job c p → ⊥
    branches p j j' = absurd (omega (arith, fork_before o b c r p p l j j'))

    kid_alike : (x y p : ℕ) (d e : Code) → Two m n b c x d → Two m n b c y e → Job d p → Job e p → (x ≡ y) × (d ≡ e)
    kid_alike x y p d e left left j j' = (refl, refl)
    kid_alike x y p d e left right j j' = absurd (branches p j j')
    kid_alike x y p d e right left j j' = absurd (branches p j' j)
    kid_alike x y p d e right right j j' = (refl, refl)

-- a future: its kid neither leads to the rest's vertex nor has it for a scope, and is not in the item's scope
pub future_pieces :
    {T : Type 0} (o n h t : ℕ) (b r : Code) → (T → ⊥) → Laid (future_at o b r) → (t ≡ h → ⊥)
    → Pieces (future_at o b r) r (One n b) (Awaited h t t) T Nothing
unfolding Job InA InS Pre
future_pieces {T} o n h t b r untied l out =
    record {
      alls = λ p j. inl j;
      all_rest = λ p j. j;
      all_kid = λ x p d tied k j. absurd (untied tied);
      sum_forced = λ p g. absurd g;
      pre_forced = λ p q g j. absurd g;
      job_rest = λ p j. inr j;
      job_kid = kid_job;
      sums = λ p i. inl i;
      sum_rest = λ p i. i;
      sum_kid = λ x p d k a. absurd (none a);
      pres = λ p q f. inr (⊎_elim (λ f. inr (of n b single f)) inl f);
      pre_first = λ x p q d k a j. absurd (none a);
      pre_rest = λ p q f. inr f;
      pre_kid = kid_pre;
      apart = kid_apart;
      alike = kid_alike;
    }
  where
    none : {d : Code} {p : ℕ} → Awaited h t t d p → ⊥
    none (led e i) = out e
    none (scoped e j) = out e

    kid_job : (x p : ℕ) (d : Code) → One n b x d → Job d p → Job (future_at o b r) p
    kid_job x p d single j = inl j

    kid_pre : (x p q : ℕ) (d : Code) → One n b x d → Pre d p q → Pre (future_at o b r) p q
    kid_pre x p q d single f = inl f

    kid_apart : (x p : ℕ) (d : Code) → One n b x d → Job d p → Job r p → ⊥
    kid_apart x p d single j j' = absurd (omega (arith, future_before o b r p p l j j'))

    kid_alike : (x y p : ℕ) (d e : Code) → One n b x d → One n b y e → Job d p → Job e p → (x ≡ y) × (d ≡ e)
    kid_alike x y p d e single single j j' = (refl, refl)

-- a force: it has no kid, and what a finish around its future's body would wait for is ahead of the rest
pub force_pieces : {T : Type 0} (o n h t s : ℕ) (b r : Code) → Pieces (force_at o n b r) r NoKid (Awaited h t s) T (InA b)
unfolding Job InA InS Pre
force_pieces o n h t s b r =
    record {
      alls = λ p j. ⊎_elim (λ g. inr (inl g)) inl j;
      all_rest = λ p j. inr j;
      all_kid = λ x p d tied k j. absurd k;
      sum_forced = λ p g. inl g;
      pre_forced = λ p q g j. inl (g, j);
      job_rest = λ p j. j;
      job_kid = λ x p d k j. absurd k;
      sums = λ p i. ⊎_elim (λ g. inr (inl g)) inl i;
      sum_rest = λ p i. inr i;
      sum_kid = λ x p d k a. absurd k;
      pres = λ p q f. ⊎_elim (λ f. inl (inl f.0, f.1)) (λ f. inr (inl f)) f;
      pre_first = λ x p q d k a j. absurd k;
      pre_rest = λ p q f. inr f;
      pre_kid = λ x p q d k f. absurd k;
      apart = λ x p d k j j'. k;
      alike = λ x y p d e k k' j j'. absurd k;
    }
