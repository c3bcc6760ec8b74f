-- The laws of `Job`, `InA`, `InS` and `Pre`, by induction on code, so that proofs above need not look into it:
--
--     ins_ina          InS c p → InA c p
--     pre_job          Pre c p q → Job c q; the job at p may stand elsewhere, in a future's body that is read at a force
--     job_item, ina_item, ins_item    code with a job, and code that waits for one, starts with an item
-- and in laid code
--     job_range        Job c p → start_of c ≤ p, p < last c
--     job_before       a job stands before the jobs behind it; async_before, finish_before, future_before, left_before, right_before: so do
--                      the jobs of a body before those behind its item; fork_before: and the jobs of a fork's left body before those of its
--                      right one
--     pre_not_first    Pre c p (start_of c) → ⊥
-- and in any code
--     code_job         Job c p → Job m p, where code_at m o ≡ some c
--     written_job      Written t p n → Job (located t) p; job_written: and the other way round
-- and where each force has the body of its future, `Opens env c`, and so have the forces in these bodies, `Nested env`
--     open_nth         the body of a force is one of env, and its own forces have bodies of those behind it
--     ina_job          InA c p → Job c p, or the job at p is in one of the bodies of env
use Prim.Native.Nat.{ℕ, zero, suc, ◌<◌, ◌≤◌}
use mathlib.Core.Path.{◌≡◌, refl, sym, subst}
use mathlib.Core.Bool.{true}
use mathlib.Core.Logic.{◌⊎◌, inl, inr, ⊎_elim}
use mathlib.Core.List.{List, [], ◌∷◌}
use mathlib.Core.Option.{some, some-injective, none-ne-some}
use native.Mathlib.Omega.{arith}
use Rattle.program.specs.Trees.{Body}
use Rattle.program.specs.Located.{Code, end_byte_at, job_at, async_at, finish_at, fork_at, future_at, force_at, located, start_of, last, code_at}
use Rattle.program.proofs.LocatedLaws.{Inner, job_rest, async_body, async_rest, finish_body, finish_rest, fork_left, fork_right, fork_rest}
use Rattle.program.proofs.LocatedLaws.{future_body, future_rest, force_rest, Part, itself, inside, Laid, laid_located, code_part, part_code}
use Rattle.program.proofs.OpenLaws.{nth_open, Opens}
use Rattle.machine.specs.Demand3.{Written, written}
use Rattle.machine.proofs.GhostMachine.Invariant.{is_item}
use Rattle.machine.proofs.JobOrder.Order.{Job, InA, InS, Pre}

-- whoever waits for some of the code is in a finish that waits for it
pub ins_ina : (c : Code) (p : ℕ) → InS c p → InA c p
unfolding InA InS
ins_ina (end_byte_at _) p i = elim i [ ]
ins_ina (job_at o n r) p (inl e) = inl e
ins_ina (job_at o n r) p (inr i) = inr (ins_ina r p i)
ins_ina (async_at o b r) p i = inr (ins_ina r p i)
ins_ina (finish_at o b r) p (inl j) = inl j
ins_ina (finish_at o b r) p (inr i) = inr (ins_ina r p i)
ins_ina (fork_at o b c r) p (inl i) = inl (ins_ina b p i)
ins_ina (fork_at o b c r) p (inr (inl i)) = inr (inl (ins_ina c p i))
ins_ina (fork_at o b c r) p (inr (inr i)) = inr (inr (ins_ina r p i))
ins_ina (future_at o b r) p i = ins_ina r p i
ins_ina (force_at o n b r) p (inl j) = inl j
ins_ina (force_at o n b r) p (inr i) = inr (ins_ina r p i)

-- the later one of two that are ordered is a job of the code
pub pre_job : (c : Code) (p q : ℕ) → Pre c p q → Job c q
unfolding Job Pre
pre_job (end_byte_at _) p q h = elim h [ ]
pre_job (job_at o n r) p q (inl (e, j)) = inr j
pre_job (job_at o n r) p q (inr h) = inr (pre_job r p q h)
pre_job (async_at o b r) p q (inl h) = inl (pre_job b p q h)
pre_job (async_at o b r) p q (inr h) = inr (pre_job r p q h)
pre_job (finish_at o b r) p q (inl (i, j)) = inr j
pre_job (finish_at o b r) p q (inr (inl h)) = inl (pre_job b p q h)
pre_job (finish_at o b r) p q (inr (inr h)) = inr (pre_job r p q h)
pre_job (fork_at o b c r) p q (inl (i, j)) = inr (inr j)
pre_job (fork_at o b c r) p q (inr (inl h)) = inl (pre_job b p q h)
pre_job (fork_at o b c r) p q (inr (inr (inl h))) = inr (inl (pre_job c p q h))
pre_job (fork_at o b c r) p q (inr (inr (inr h))) = inr (inr (pre_job r p q h))
pre_job (future_at o b r) p q (inl h) = inl (pre_job b p q h)
pre_job (future_at o b r) p q (inr h) = inr (pre_job r p q h)
pre_job (force_at o n b r) p q (inl (i, j)) = j
pre_job (force_at o n b r) p q (inr h) = pre_job r p q h

-- code with a job starts with an item
pub job_item : (c : Code) (p : ℕ) → Job c p → is_item c ≡ true
unfolding Job is_item
job_item (end_byte_at o) p h = absurd h
job_item (job_at o n r) p h = refl
job_item (async_at o b r) p h = refl
job_item (finish_at o b r) p h = refl
job_item (fork_at o b c r) p h = refl
job_item (future_at o b r) p h = refl
job_item (force_at o n b r) p h = refl

-- and so does code that waits for one
pub ina_item : (c : Code) (p : ℕ) → InA c p → is_item c ≡ true
unfolding InA is_item
ina_item (end_byte_at o) p h = absurd h
ina_item (job_at o n r) p h = refl
ina_item (async_at o b r) p h = refl
ina_item (finish_at o b r) p h = refl
ina_item (fork_at o b c r) p h = refl
ina_item (future_at o b r) p h = refl
ina_item (force_at o n b r) p h = refl

pub ins_item : (c : Code) (p : ℕ) → InS c p → is_item c ≡ true
ins_item c p i = ina_item c p (ins_ina c p i)

-- the jobs of laid code stand from its start on and before its end
pub job_range : (c : Code) (p : ℕ) → Laid c → Job c p → (start_of c ≤ p) × (p < last c)
unfolding Job Laid start_of last
job_range (end_byte_at _) p _ j = elim j [ ]
job_range (job_at o n r) p (l, k) (inl e) = (omega arith, omega (arith, l.starts, l.rest))
job_range (job_at o n r) p (l, k) (inr j) = let (s, e) = job_range r p k j in (omega (arith, l.starts, s), e)
job_range (async_at o b r) p (l, kb, kr) (inl j) =
    let (s, e) = job_range b p kb j in
    (omega (arith, l.starts, s), omega (arith, l.ends, l.rest, e))
job_range (async_at o b r) p (l, kb, kr) (inr j) =
    let (s, e) = job_range r p kr j in
    (omega (arith, l.starts, l.body, l.ends, s), e)
job_range (finish_at o b r) p (l, kb, kr) (inl j) =
    let (s, e) = job_range b p kb j in
    (omega (arith, l.starts, s), omega (arith, l.ends, l.rest, e))
job_range (finish_at o b r) p (l, kb, kr) (inr j) =
    let (s, e) = job_range r p kr j in
    (omega (arith, l.starts, l.body, l.ends, s), e)
job_range (fork_at o b c r) p (l, kb, kc, kr) (inl j) =
    let (s, e) = job_range b p kb j in
    (omega (arith, l.starts, s), omega (arith, l.between, l.right, l.ends, l.rest, e))
job_range (fork_at o b c r) p (l, kb, kc, kr) (inr (inl j)) =
    let (s, e) = job_range c p kc j in
    (omega (arith, l.starts, l.left, l.between, s), omega (arith, l.ends, l.rest, e))
job_range (fork_at o b c r) p (l, kb, kc, kr) (inr (inr j)) =
    let (s, e) = job_range r p kr j in
    (omega (arith, l.starts, l.left, l.between, l.right, l.ends, s), e)
job_range (future_at o b r) p (l, kb, kr) (inl j) =
    let (s, e) = job_range b p kb j in
    (omega (arith, l.starts, s), omega (arith, l.ends, l.rest, e))
job_range (future_at o b r) p (l, kb, kr) (inr j) =
    let (s, e) = job_range r p kr j in
    (omega (arith, l.starts, l.body, l.ends, s), e)
job_range (force_at o n b r) p (l, k) j = let (s, e) = job_range r p k j in (omega (arith, l.starts, s), e)

-- of two codes that stand one behind the other so do the jobs
codes_apart : (b r : Code) (p q : ℕ) → Laid b → Laid r → suc (last b) ≤ start_of r → Job b p → Job r q → p < q
codes_apart b r p q kb kr le i j = omega (arith, (job_range b p kb i).1, (job_range r q kr j).0)

-- a job stands before the jobs of the rest
pub job_before : (o n : ℕ) (r : Code) (q : ℕ) → Laid (job_at o n r) → Job r q → o < q
unfolding Laid
job_before o n r q (l, k) j = omega (arith, l.starts, (job_range r q k j).0)

-- the jobs of an async's body stand before those of the rest
pub async_before : (o : ℕ) (b r : Code) (p q : ℕ) → Laid (async_at o b r) → Job b p → Job r q → p < q
unfolding Laid
async_before o b r p q (l, kb, kr) i j = codes_apart b r p q kb kr (omega (arith, l.ends)) i j

-- so do those of a finish's body
pub finish_before : (o : ℕ) (b r : Code) (p q : ℕ) → Laid (finish_at o b r) → Job b p → Job r q → p < q
unfolding Laid
finish_before o b r p q (l, kb, kr) i j = codes_apart b r p q kb kr (omega (arith, l.ends)) i j

-- and those of a future's body
pub future_before : (o : ℕ) (b r : Code) (p q : ℕ) → Laid (future_at o b r) → Job b p → Job r q → p < q
unfolding Laid
future_before o b r p q (l, kb, kr) i j = codes_apart b r p q kb kr (omega (arith, l.ends)) i j

-- the jobs of a fork's left body stand before those of its right one
pub fork_before : (o : ℕ) (b c r : Code) (p q : ℕ) → Laid (fork_at o b c r) → Job b p → Job c q → p < q
unfolding Laid
fork_before o b c r p q (l, kb, kc, kr) i j = codes_apart b c p q kb kc (omega (arith, l.between)) i j

-- and before those of the rest
pub left_before : (o : ℕ) (b c r : Code) (p q : ℕ) → Laid (fork_at o b c r) → Job b p → Job r q → p < q
unfolding Laid
left_before o b c r p q (l, kb, kc, kr) i j = codes_apart b r p q kb kr (omega (arith, l.between, l.right, l.ends)) i j

-- and so do those of the right body
pub right_before : (o : ℕ) (b c r : Code) (p q : ℕ) → Laid (fork_at o b c r) → Job c p → Job r q → p < q
unfolding Laid
right_before o b c r p q (l, kb, kc, kr) i j = codes_apart c r p q kc kr (omega (arith, l.ends)) i j

-- a job that others are ahead of stands behind the start
pre_later : (c : Code) (p q : ℕ) → Laid c → Pre c p q → start_of c < q
unfolding Pre Laid start_of
pre_later (end_byte_at _) p q l h = elim h [ ]
pre_later (job_at o n r) p q l (inl (e, j)) = job_before o n r q l j
pre_later (job_at o n r) p q (l, k) (inr h) = omega (arith, l.starts, pre_later r p q k h)
pre_later (async_at o b r) p q (l, kb, kr) (inl h) = omega (arith, l.starts, pre_later b p q kb h)
pre_later (async_at o b r) p q (l, kb, kr) (inr h) = omega (arith, l.starts, l.body, l.ends, pre_later r p q kr h)
pre_later (finish_at o b r) p q (l, kb, kr) (inl (i, j)) = omega (arith, l.starts, l.body, l.ends, (job_range r q kr j).0)
pre_later (finish_at o b r) p q (l, kb, kr) (inr (inl h)) = omega (arith, l.starts, pre_later b p q kb h)
pre_later (finish_at o b r) p q (l, kb, kr) (inr (inr h)) = omega (arith, l.starts, l.body, l.ends, pre_later r p q kr h)
pre_later (fork_at o b c r) p q (l, kb, kc, kr) (inl (i, j)) =
    omega (arith, l.starts, l.left, l.between, l.right, l.ends, (job_range r q kr j).0)
pre_later (fork_at o b c r) p q (l, kb, kc, kr) (inr (inl h)) = omega (arith, l.starts, pre_later b p q kb h)
pre_later (fork_at o b c r) p q (l, kb, kc, kr) (inr (inr (inl h))) =
    omega (arith, l.starts, l.left, l.between, pre_later c p q kc h)
pre_later (fork_at o b c r) p q (l, kb, kc, kr) (inr (inr (inr h))) =
    omega (arith, l.starts, l.left, l.between, l.right, l.ends, pre_later r p q kr h)
pre_later (future_at o b r) p q (l, kb, kr) (inl h) = omega (arith, l.starts, pre_later b p q kb h)
pre_later (future_at o b r) p q (l, kb, kr) (inr h) = omega (arith, l.starts, l.body, l.ends, pre_later r p q kr h)
pre_later (force_at o n b r) p q (l, k) (inl (i, j)) = omega (arith, l.starts, (job_range r q k j).0)
pre_later (force_at o n b r) p q (l, k) (inr h) = omega (arith, l.starts, pre_later r p q k h)

-- so nothing is ahead of a job that stands first
pub pre_not_first : (c : Code) (p : ℕ) → Laid c → Pre c p (start_of c) → ⊥
pre_not_first c p l h = absurd (omega (arith, pre_later c p (start_of c) l h))

-- the jobs of what is right inside are jobs of the whole
inner_job : {m d : Code} (p : ℕ) → Inner m d → Job d p → Job m p
unfolding Job
inner_job p job_rest j = inr j
inner_job p async_body j = inl j
inner_job p async_rest j = inr j
inner_job p finish_body j = inl j
inner_job p finish_rest j = inr j
inner_job p fork_left j = inl j
inner_job p fork_right j = inr (inl j)
inner_job p fork_rest j = inr (inr j)
inner_job p future_body j = inl j
inner_job p future_rest j = inr j
inner_job p force_rest j = j

-- so are those of any part
part_job : {m c : Code} (p : ℕ) → Part m c → Job c p → Job m p
part_job p itself j = j
part_job p (inside i s) j = inner_job p i (part_job p s j)

-- the jobs of code that starts at a place are jobs of the whole
pub code_job : (m : Code) (o : ℕ) {c : Code} (p : ℕ) → code_at m o ≡ some c → Job c p → Job m p
code_job m o p h j = part_job p (code_part m o h) j

-- so a written job is one of the program's
pub written_job : (t : Body) (p n : ℕ) → Written t p n → Job (located t) p
unfolding Job
written_job t p n (written r h) = code_job (located t) p p h (inl refl)

-- in what is right inside, and so in the whole
in_part :
    {m c : Code} {p : ℕ} → Inner m c → (n : ℕ) × (r : Code) × Part c (job_at p n r) → (n : ℕ) × (r : Code) × Part m (job_at p n r)
in_part i (n, r, part) = (n, r, inside i part)

-- a job of code is a part of it
job_part : (c : Code) (p : ℕ) → Job c p → (n : ℕ) × (r : Code) × Part c (job_at p n r)
unfolding Job
job_part (end_byte_at _) p j = elim j [ ]
job_part (job_at o n r) p (inl e) = (n, r, subst (λ (x : ℕ). Part (job_at o n r) (job_at x n r)) (sym e) itself)
job_part (job_at o n r) p (inr j) = in_part job_rest (job_part r p j)
job_part (async_at o b r) p (inl j) = in_part async_body (job_part b p j)
job_part (async_at o b r) p (inr j) = in_part async_rest (job_part r p j)
job_part (finish_at o b r) p (inl j) = in_part finish_body (job_part b p j)
job_part (finish_at o b r) p (inr j) = in_part finish_rest (job_part r p j)
job_part (fork_at o b c r) p (inl j) = in_part fork_left (job_part b p j)
job_part (fork_at o b c r) p (inr (inl j)) = in_part fork_right (job_part c p j)
job_part (fork_at o b c r) p (inr (inr j)) = in_part fork_rest (job_part r p j)
job_part (future_at o b r) p (inl j) = in_part future_body (job_part b p j)
job_part (future_at o b r) p (inr j) = in_part future_rest (job_part r p j)
job_part (force_at o n b r) p j = in_part force_rest (job_part r p j)

-- so one of the program's is written
pub job_written : (t : Body) (p : ℕ) → Job (located t) p → (n : ℕ) × Written t p n
unfolding start_of
job_written t p j =
    let (n, r, part) = job_part (located t) p j in
    (n, written r (part_code part (laid_located t)))

-- the job at p is in one of these bodies
unfoldable pub JobIn : List Code → ℕ → Type 0
JobIn [] p = ⊥
JobIn (b ∷ env) p = Job b p ⊎ JobIn env p

-- each force in these bodies has the body of its future: where a body stands, those behind it are open
unfoldable pub Nested : List Code → Type 0
Nested [] = Unit {0}
Nested (b ∷ env) = Opens env b × Nested env

-- the body that a force has is one of those that are open, where fewer are
pub open_nth :
    {P : Type 0} (env : List Code) (n p : ℕ) {b : Code} → Nested env → nth_open env n ≡ some b
    → ((env' : List Code) → Opens env' b → Nested env' → (Job b p ⊎ JobIn env' p → JobIn env p) → P) → P
unfolding nth_open Nested JobIn
open_nth [] n p {b} h e f = absurd (none-ne-some b e)
open_nth (d ∷ env) zero p {b} h e f =
    let same : d ≡ b = some-injective d b e in
    f env (subst (λ (x : Code). Opens env x) same h.0) h.1
    (⊎_elim (λ j. inl (subst (λ (x : Code). Job x p) (sym same) j)) inr)
open_nth (d ∷ env) (suc n) p h e f = open_nth env n p h.1 e (λ env' o k g. f env' o k (λ j. inr (g j)))

-- what is waited for is a job of the code, or one of an open future's body
pub ina_job : (env : List Code) (c : Code) (p : ℕ) → Opens env c → Nested env → InA c p → Job c p ⊎ JobIn env p
unfolding Opens Job InA Nested JobIn
ina_job env (end_byte_at _) p h k i = elim i [ ]
ina_job env (job_at o n r) p h k (inl e) = inl (inl e)
ina_job env (job_at o n r) p h k (inr i) = ⊎_elim (λ j. inl (inr j)) inr (ina_job env r p h k i)
ina_job env (async_at o b r) p h k (inl i) = ⊎_elim (λ j. inl (inl j)) inr (ina_job env b p h.0 k i)
ina_job env (async_at o b r) p h k (inr i) = ⊎_elim (λ j. inl (inr j)) inr (ina_job env r p h.1 k i)
ina_job env (finish_at o b r) p h k (inl i) = ⊎_elim (λ j. inl (inl j)) inr (ina_job env b p h.0 k i)
ina_job env (finish_at o b r) p h k (inr i) = ⊎_elim (λ j. inl (inr j)) inr (ina_job env r p h.1 k i)
ina_job env (fork_at o b c r) p h k (inl i) = ⊎_elim (λ j. inl (inl j)) inr (ina_job env b p h.0 k i)
ina_job env (fork_at o b c r) p h k (inr (inl i)) = ⊎_elim (λ j. inl (inr (inl j))) inr (ina_job env c p h.1.0 k i)
ina_job env (fork_at o b c r) p h k (inr (inr i)) = ⊎_elim (λ j. inl (inr (inr j))) inr (ina_job env r p h.1.1 k i)
ina_job env (future_at o b r) p h k i =
    ⊎_elim (λ j. inl (inr j)) (⊎_elim (λ j. inl (inl j)) inr) (ina_job (b ∷ env) r p h.1 (h.0, k) i)
ina_job env (force_at o n b r) p h k (inl i) =
    open_nth env n p k h.0 (λ env' o k' f. inr (f (ina_job env' b p o k' i)))
ina_job env (force_at o n b r) p h k (inr i) = ina_job env r p h.1 k i
