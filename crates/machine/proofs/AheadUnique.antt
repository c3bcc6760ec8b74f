-- "Take the innermost body with both jobs in different items, p in the earlier": of two jobs at their own places there is one at most.
--
--     apart_once           two bodies with p and q in different items, p in the earlier, are the same from p's item on, and the ways down to
--                          p have the same kinds
--     apart_order          none has them in the other order
--     around_one           in a body around such a one both jobs are in one item, and so it is the innermost
--     jobs_stand           two written jobs are in such a body, in one order or the other, or in two branches of a fork, or they are one
-- of a job in a reading the outermost force takes the job's part:
--     apart_read           a body with p, at its own place or in a reading, and q in different items has p there at its own place, or has
--                          that force and q in different items
--     force_once           two bodies with the force and q in different items, the force in the earlier, are the same from the force's item on
--     force_around         in a body around such a one both are in one item
-- and where each force has the body of a future that is open there
--     ahead_apart          a job that is ahead of another, at its own place or in a reading, is in an earlier item of such a body at its own
--                          place; pre_jobs: so both are written
--     branches_unordered   "two branches of a fork aren't": neither job is ahead of the other
--
-- In laid code a job is in one place, and of two codes that have it one is within the other (`nested`).
use Prim.Native.Nat.{ℕ, ◌<◌, ◌≤◌}
use mathlib.Core.Path.{◌≡◌, refl, sym, ◌∙◌, ap, subst}
use mathlib.Core.Logic.{◌⊎◌, inl, inr, ⊎_elim}
use mathlib.Core.List.{List, [], ◌∷◌, ◌++◌}
use native.Mathlib.Omega.{arith}
use Rattle.program.specs.Trees.{Body, Kind, finishes}
use Rattle.program.specs.Located.{Code, job_at, async_at, finish_at, fork_at, future_at, force_at, located, start_of, last, end_byte_at}
use Rattle.program.proofs.LocatedLaws.{Laid, laid_located, laid_le, Inner, job_rest, async_body, async_rest, finish_body, finish_rest}
use Rattle.program.proofs.LocatedLaws.{fork_left, fork_right, fork_rest, future_body, future_rest, force_rest, Part, part_code, code_range}
use Rattle.program.proofs.OpenLaws.{Opens}
use Rattle.machine.specs.Ahead.{Behind, job_behind, async_behind, finish_behind, fork_behind, future_behind, force_behind, HoldsBody}
use Rattle.machine.specs.Ahead.{async_holds, finish_holds, fork_holds_left, fork_holds_right, future_holds, From, start, on, Way}
use Rattle.machine.specs.Ahead.{own, force_reads, ReadWay}
use Rattle.machine.specs.Ahead.{Within, whole, behind, inside, Apart, apart, Branches, branches, Stand, one_job, earlier, later}
use Rattle.machine.specs.Ahead.{left_right, right_left, Ahead}
use Rattle.machine.specs.Demand3.{Written}
use Rattle.machine.proofs.JobOrder.Order.{Job, Pre}
use Rattle.machine.proofs.JobOrder.OrderLaws.{job_before, async_before, finish_before, fork_before, future_before, left_before}
use Rattle.machine.proofs.JobOrder.OrderLaws.{right_before, written_job, ins_ina, pre_job, JobIn, Nested, open_nth, ina_job}
use Rattle.machine.proofs.AheadIsPre.{Ways, behind_job, held_job, from_job, way_job, job_way, ahead_pre}

-- what is behind a first item is laid, and so is a body that it holds
behind_laid : {c r : Code} → Behind c r → Laid c → Laid r
unfolding Laid
behind_laid job_behind l = l.1
behind_laid async_behind l = l.2
behind_laid finish_behind l = l.2
behind_laid fork_behind l = l.3
behind_laid future_behind l = l.2
behind_laid force_behind l = l.1

held_laid : {c b : Code} {k : Kind} → HoldsBody c k b → Laid c → Laid b
unfolding Laid
held_laid async_holds l = l.1
held_laid finish_holds l = l.1
held_laid fork_holds_left l = l.1
held_laid fork_holds_right l = l.2
held_laid future_holds l = l.1

from_laid : {b c : Code} → From b c → Laid b → Laid c
from_laid start l = l
from_laid (on e f) l = from_laid f (behind_laid e l)

-- the jobs of a body that the first item holds stand before those behind this item
held_less : {c b r : Code} {k : Kind} (p q : ℕ) → Laid c → HoldsBody c k b → Behind c r → Job b p → Job r q → p < q
held_less p q l async_holds async_behind i j = async_before _ _ _ p q l i j
held_less p q l finish_holds finish_behind i j = finish_before _ _ _ p q l i j
held_less p q l fork_holds_left fork_behind i j = left_before _ _ _ _ p q l i j
held_less p q l fork_holds_right fork_behind i j = right_before _ _ _ _ p q l i j
held_less p q l future_holds future_behind i j = future_before _ _ _ p q l i j

-- so do all jobs of the first item
way_less : {c r : Code} {p : ℕ} {ks : List Kind} (q : ℕ) → Laid c → Way c p ks → Behind c r → Job r q → p < q
way_less q l Way.job_itself job_behind j = job_before _ _ _ q l j
way_less q l (Way.down h f w) e j = held_less _ q l h e (from_job _ f (way_job w)) j

-- one code is behind a first item
behind_one : {c r r' : Code} → Behind c r → Behind c r' → r ≡ r'
behind_one job_behind job_behind = refl
behind_one async_behind async_behind = refl
behind_one finish_behind finish_behind = refl
behind_one fork_behind fork_behind = refl
behind_one future_behind future_behind = refl
behind_one force_behind force_behind = refl

-- a job is in one of the bodies that an item holds
held_one :
    {c b b' : Code} {k k' : Kind} (p : ℕ) → Laid c → HoldsBody c k b → HoldsBody c k' b' → Job b p → Job b' p → (k ≡ k') × (b ≡ b')
held_one p l async_holds async_holds i j = (refl, refl)
held_one p l finish_holds finish_holds i j = (refl, refl)
held_one p l fork_holds_left fork_holds_left i j = (refl, refl)
held_one p l fork_holds_left fork_holds_right i j = absurd (omega (arith, fork_before _ _ _ _ p p l i j))
held_one p l fork_holds_right fork_holds_left i j = absurd (omega (arith, fork_before _ _ _ _ p p l j i))
held_one p l fork_holds_right fork_holds_right i j = (refl, refl)
held_one p l future_holds future_holds i j = (refl, refl)

-- no body is held by a job
job_holds_none : {o n : ℕ} {r b : Code} {k : Kind} → HoldsBody (job_at o n r) k b → ⊥
job_holds_none = elim [ ]

-- a body has one item with the job at p
item_one : {b c d : Code} {p : ℕ} {ks ls : List Kind} → Laid b → From b c → From b d → Way c p ks → Way d p ls → c ≡ d
item_one l start start w w' = refl
item_one {p = p} l start (on e f) w w' = absurd (omega (arith, way_less p l w e (from_job p f (way_job w'))))
item_one {p = p} l (on e f) start w w' = absurd (omega (arith, way_less p l w' e (from_job p f (way_job w))))
item_one {d = d} l (on e f) (on e' f') w w' =
    item_one {d = d} (behind_laid e l) f (subst (λ (x : Code). From x d) (behind_one e' e) f') w w'

-- and from there one way leads to it
way_at : {c : Code} {p q : ℕ} {ks ls : List Kind} → Way c p ks → Laid c → Way c q ls → q ≡ p → ks ≡ ls
way_at Way.job_itself l Way.job_itself e = refl
way_at Way.job_itself l (Way.down h f w) e = absurd (job_holds_none h)
way_at (Way.down h f w) l Way.job_itself e = absurd (job_holds_none h)
way_at {p = p} (Way.down {k = k} {ks = ks} h f w) l (Way.down {b' = d} {k = k'} {ks = ls} h' f' w'') e =
    let w' : Way d p ls = subst (λ (x : ℕ). Way d x ls) e w'' in
    let (same_kind, same_body) = held_one p l h' h (from_job p f' (way_job w')) (from_job p f (way_job w)) in
    let lb = held_laid h l in
    let same_item = item_one lb (subst (λ (x : Code). From x d) same_body f') f w' w in
    let same_below : ks ≡ ls = way_at {ls = ls} w (from_laid f lb) (subst (λ (x : Code). Way x p ls) same_item w') refl in
    cc

way_one : {c : Code} {p : ℕ} {ks ls : List Kind} → Way c p ks → Laid c → Way c p ls → ks ≡ ls
way_one w l w' = way_at w l w' refl

-- a job that is anywhere within is a job
within_job : {m c : Code} (p : ℕ) → Within m c → Job c p → Job m p
within_job p whole j = j
within_job p (behind e i) j = behind_job p e (within_job p i j)
within_job p (inside h i) j = held_job p h (within_job p i j)

-- the first item of c has the job at p, by a way with these kinds, and the job at q is behind it
data First (c : Code) (p q : ℕ) (ks : List Kind) : Type 0 where
  first : (r : Code) → Way c p ks → Behind c r → Job r q → First c p q ks

-- so both are jobs of whatever c is within
earlier_in : {m c : Code} {p q : ℕ} {ks : List Kind} → Within m c → First c p q ks → Job m p
earlier_in {p = p} i (first r w e j) = within_job p i (way_job w)

later_in : {m c : Code} {p q : ℕ} {ks : List Kind} → Within m c → First c p q ks → Job m q
later_in {q = q} i (first r w e j) = within_job q i (behind_job q e j)

-- the earlier job is not behind that item, nor is the later one in it
not_behind : {c r : Code} {p q : ℕ} {ks : List Kind} → Laid c → First c p q ks → Behind c r → Job r p → ⊥
not_behind {p = p} l (first r w e j) e' i = absurd (omega (arith, way_less p l w e' i))

not_held : {c b : Code} {p q : ℕ} {k : Kind} {ks : List Kind} → Laid c → First c p q ks → HoldsBody c k b → Job b q → ⊥
not_held {q = q} l (first r w e j) h i = absurd (omega (arith, held_less q q l h e i j))

-- nor is a job in both
not_both : {c b r : Code} {k : Kind} (p : ℕ) → Laid c → HoldsBody c k b → Behind c r → Job b p → Job r p → ⊥
not_both p l h e i j = absurd (omega (arith, held_less p p l h e i j))

-- two codes with a job in common are one within the other
nested : {m c d : Code} (p : ℕ) → Laid m → Within m c → Within m d → Job c p → Job d p → Within c d ⊎ Within d c
nested p l whole i' j j' = inl i'
nested p l (behind e i) whole j j' = inr (behind e i)
nested p l (inside h i) whole j j' = inr (inside h i)
nested {d = d} p l (behind e i) (behind e' i') j j' =
    nested {d = d} p (behind_laid e l) i (subst (λ (b : Code). Within b d) (behind_one e' e) i') j j'
nested p l (behind e i) (inside h i') j j' = absurd (not_both p l h e (within_job p i' j') (within_job p i j))
nested p l (inside h i) (behind e i') j j' = absurd (not_both p l h e (within_job p i j) (within_job p i' j'))
nested {d = d} p l (inside h i) (inside h' i') j j' =
    let (_, same) = held_one p l h' h (within_job p i' j') (within_job p i j) in
    nested {d = d} p (held_laid h l) i (subst (λ (b : Code). Within b d) same i') j j'

within_laid : {m c : Code} → Within m c → Laid m → Laid c
within_laid whole l = l
within_laid (behind e i) l = within_laid i (behind_laid e l)
within_laid (inside h i) l = within_laid i (held_laid h l)

-- so there is one such item
first_same :
    {c d : Code} {p q : ℕ} {ks ls : List Kind} → Laid c → Within c d → First c p q ks → First d p q ls → (c ≡ d) × (ks ≡ ls)
first_same l whole (first r w e j) (first r' w' e' j') = (refl, way_one w l w')
first_same l (behind e i) x y = absurd (not_behind l x e (earlier_in i y))
first_same l (inside h i) x y = absurd (not_held l x h (later_in i y))

first_once :
    {m c d : Code} {p q : ℕ} {ks ls : List Kind} → Laid m → Within m c → Within m d → First c p q ks → First d p q ls
    → (c ≡ d) × (ks ≡ ls)
first_once {p = p} l i i' x y =
    ⊎_elim (λ n. first_same (within_laid i l) n x y)
    (λ n. let (same, same_kinds) = first_same (within_laid i' l) n y x in (sym same, sym same_kinds))
    (nested p l i i' (earlier_in whole x) (earlier_in whole y))

-- and none where the two jobs are in two branches of a fork
fork_first :
    {o : ℕ} {b c r d : Code} {p q : ℕ} {ks : List Kind} → Laid (fork_at o b c r) → Within (fork_at o b c r) d → Job b p → Job c q
    → First d p q ks → ⊥
fork_first l whole i j x = not_held l x fork_holds_right j
fork_first {p = p} l (behind fork_behind n) i j x = not_both p l fork_holds_left fork_behind i (earlier_in n x)
fork_first {q = q} l (inside fork_holds_left n) i j x = absurd (omega (arith, fork_before _ _ _ _ q q l (later_in n x) j))
fork_first {p = p} l (inside fork_holds_right n) i j x = absurd (omega (arith, fork_before _ _ _ _ p p l i (earlier_in n x)))

first_fork :
    {o : ℕ} {b c r d : Code} {p q : ℕ} {ks : List Kind} → Laid d → Within d (fork_at o b c r) → Job b p → Job c q → First d p q ks → ⊥
first_fork l whole i j x = not_held l x fork_holds_right j
first_fork {p = p} l (behind e n) i j x = not_behind l x e (within_job p n (held_job p fork_holds_left i))
first_fork {q = q} l (inside h n) i j x = not_held l x h (within_job q n (held_job q fork_holds_right j))

-- the earlier one stands before the later
first_less : {m c : Code} {p q : ℕ} {ks : List Kind} → Laid m → Within m c → First c p q ks → p < q
first_less {q = q} l whole (first r w e j) = way_less q l w e j
first_less l (behind e i) x = first_less (behind_laid e l) i x
first_less l (inside h i) x = first_less (held_laid h l) i x

apart_first : {m c : Code} {p q : ℕ} {ks : List Kind} → Apart Way m p q c ks → Within m c × First c p q ks
apart_first {q = q} (apart r c' ks' i w e f w') = (i, first r w e (from_job q f (way_job w')))

-- A program has one body at most, from p's item on, with p in this item and q in a later one, and one way down to p.
pub apart_once :
    (t : Body) (p q : ℕ) {c d : Code} {ks ls : List Kind} → Apart Way (located t) p q c ks → Apart Way (located t) p q d ls
    → (c ≡ d) × (ks ≡ ls)
apart_once t p q a b =
    let (i, x) = apart_first a in
    let (i', y) = apart_first b in
    first_once (laid_located t) i i' x y

-- None has q in the earlier item.
pub apart_order : (t : Body) (p q : ℕ) {c d : Code} {ks ls : List Kind} → Apart Way (located t) p q c ks → Apart Way (located t) q p d ls → ⊥
apart_order t p q a b =
    let (i, x) = apart_first a in
    let (i', y) = apart_first b in
    absurd (omega (arith, first_less (laid_located t) i x, first_less (laid_located t) i' y))

-- In a body around it, whose item d has it inside, both jobs are in this item.
pub around_one :
    {m b c d : Code} {k : Kind} {ks : List Kind} (p q : ℕ) → Apart Way m p q c ks → HoldsBody d k b → Within b c
    → ((ls : List Kind) × Way d p ls) × ((ls : List Kind) × Way d q ls)
around_one p q a h i =
    let (_, x) = apart_first a in
    (through h (job_way _ p (earlier_in i x)), through h (job_way _ q (later_in i x)))
  where
    through : {b d : Code} {k : Kind} {p : ℕ} → HoldsBody d k b → Ways b p → (ls : List Kind) × Way d p ls
    through {k = k} h (c', ks, f, w) = (k ∷ ks, Way.down h f w)

-- the fork, with a job in each of its branches
branch_jobs :
    {m : Code} {p q : ℕ} → Branches m p q
    → (o : ℕ) × (b : Code) × (c : Code) × (r : Code) × Within m (fork_at o b c r) × Job b p × Job c q
branch_jobs {p = p} {q} (branches o b c r b' c' ks ks' i f w f' w') =
    (o, b, c, r, i, from_job p f (way_job w), from_job q f' (way_job w'))

-- jobs in two branches of a fork are in no such body, neither in this order nor in the other
branches_apart : (t : Body) (p q : ℕ) {d : Code} {ks : List Kind} → Branches (located t) p q → Apart Way (located t) p q d ks → ⊥
branches_apart t p q br a =
    let l = laid_located t in
    let (o, b, c, r, i, jp, jq) = branch_jobs br in
    let (n, x) = apart_first a in
    ⊎_elim (λ k. fork_first (within_laid i l) k jp jq x) (λ k. first_fork (within_laid n l) k jp jq x)
    (nested p l i n (held_job p fork_holds_left jp) (earlier_in whole x))

branches_order : (t : Body) (p q : ℕ) {d : Code} {ks : List Kind} → Branches (located t) p q → Apart Way (located t) q p d ks → ⊥
branches_order t p q br a =
    let l = laid_located t in
    let (o, b, c, r, i, jp, jq) = branch_jobs br in
    let (n, x) = apart_first a in
    absurd (omega (arith, fork_before o b c r p q (within_laid i l) jp jq, first_less l n x))

-- what is apart, or in two branches, in a part is so in the whole
apart_in :
    {m b c : Code} {p q : ℕ} {ks : List Kind} → ((d : Code) → Within b d → Within m d) → Apart Way b p q c ks → Apart Way m p q c ks
apart_in up (apart r c' ks' i w e f w') = apart r c' ks' (up _ i) w e f w'

branches_in : {m b : Code} {p q : ℕ} → ((d : Code) → Within b d → Within m d) → Branches b p q → Branches m p q
branches_in up (branches o b c r b' c' ks ks' i f w f' w') = branches o b c r b' c' ks ks' (up _ i) f w f' w'

stand_in : {m b : Code} {p q : ℕ} → ((d : Code) → Within b d → Within m d) → Stand b p q → Stand m p q
stand_in up (one_job e) = one_job e
stand_in up (earlier c ks a) = earlier c ks (apart_in up a)
stand_in up (later c ks a) = later c ks (apart_in up a)
stand_in up (left_right br) = left_right (branches_in up br)
stand_in up (right_left br) = right_left (branches_in up br)

-- of a job in the first item and one behind it
first_apart : {m r : Code} {p : ℕ} {ks : List Kind} (q : ℕ) → Way m p ks → Behind m r → Job r q → Apart Way m p q m ks
first_apart q w e j = let (c', ks', f, w') = job_way _ q j in apart _ c' ks' whole w e f w'

held_apart :
    {m b r : Code} {k : Kind} (p q : ℕ) → HoldsBody m k b → Behind m r → Job b p → Job r q → (ks : List Kind) × Apart Way m p q m ks
held_apart {k = k} p q h e i j = let (b', ks, f, w) = job_way _ p i in (k ∷ ks, first_apart q (Way.down h f w) e j)

held_earlier : {m b r : Code} {k : Kind} {p q : ℕ} → HoldsBody m k b → Behind m r → Job b p → Job r q → Stand m p q
held_earlier {p = p} {q} h e i j = let (ks, a) = held_apart p q h e i j in earlier _ ks a

held_later : {m b r : Code} {k : Kind} {p q : ℕ} → HoldsBody m k b → Behind m r → Job r p → Job b q → Stand m p q
held_later {p = p} {q} h e i j = let (ks, a) = held_apart q p h e j i in later _ ks a

job_apart : (o n : ℕ) {r : Code} {p q : ℕ} → p ≡ o → Job r q → Apart Way (job_at o n r) p q (job_at o n r) []
job_apart o n {r} {q = q} e j = first_apart q (subst (λ (x : ℕ). Way (job_at o n r) x []) (sym e) Way.job_itself) job_behind j

-- of two in the bodies of a fork
fork_branches : (o : ℕ) {b c r : Code} {p q : ℕ} → Job b p → Job c q → Branches (fork_at o b c r) p q
fork_branches o {b} {c} {r} {p} {q} i j =
    let (b', ks, f, w) = job_way b p i in
    let (c', ks', f', w') = job_way c q j in
    branches o b c r b' c' ks ks' whole f w f' w'

stand_of : (m : Code) (p q : ℕ) → Job m p → Job m q → Stand m p q
unfolding Job
stand_of (end_byte_at _) p q i j = elim i [ ]
stand_of (job_at o n r) p q (inl i) (inl j) = one_job (i ∙ sym j)
stand_of (job_at o n r) p q (inl i) (inr j) = earlier _ [] (job_apart o n i j)
stand_of (job_at o n r) p q (inr i) (inl j) = later _ [] (job_apart o n j i)
stand_of (job_at o n r) p q (inr i) (inr j) = stand_in (λ d. behind job_behind) (stand_of r p q i j)
stand_of (async_at o b r) p q (inl i) (inl j) = stand_in (λ d. inside async_holds) (stand_of b p q i j)
stand_of (async_at o b r) p q (inl i) (inr j) = held_earlier async_holds async_behind i j
stand_of (async_at o b r) p q (inr i) (inl j) = held_later async_holds async_behind i j
stand_of (async_at o b r) p q (inr i) (inr j) = stand_in (λ d. behind async_behind) (stand_of r p q i j)
stand_of (finish_at o b r) p q (inl i) (inl j) = stand_in (λ d. inside finish_holds) (stand_of b p q i j)
stand_of (finish_at o b r) p q (inl i) (inr j) = held_earlier finish_holds finish_behind i j
stand_of (finish_at o b r) p q (inr i) (inl j) = held_later finish_holds finish_behind i j
stand_of (finish_at o b r) p q (inr i) (inr j) = stand_in (λ d. behind finish_behind) (stand_of r p q i j)
stand_of (fork_at o b c r) p q (inl i) (inl j) = stand_in (λ d. inside fork_holds_left) (stand_of b p q i j)
stand_of (fork_at o b c r) p q (inl i) (inr (inl j)) = left_right (fork_branches o i j)
stand_of (fork_at o b c r) p q (inl i) (inr (inr j)) = held_earlier fork_holds_left fork_behind i j
stand_of (fork_at o b c r) p q (inr (inl i)) (inl j) = right_left (fork_branches o j i)
stand_of (fork_at o b c r) p q (inr (inl i)) (inr (inl j)) = stand_in (λ d. inside fork_holds_right) (stand_of c p q i j)
stand_of (fork_at o b c r) p q (inr (inl i)) (inr (inr j)) = held_earlier fork_holds_right fork_behind i j
stand_of (fork_at o b c r) p q (inr (inr i)) (inl j) = held_later fork_holds_left fork_behind i j
stand_of (fork_at o b c r) p q (inr (inr i)) (inr (inl j)) = held_later fork_holds_right fork_behind i j
stand_of (fork_at o b c r) p q (inr (inr i)) (inr (inr j)) = stand_in (λ d. behind fork_behind) (stand_of r p q i j)
stand_of (future_at o b r) p q (inl i) (inl j) = stand_in (λ d. inside future_holds) (stand_of b p q i j)
stand_of (future_at o b r) p q (inl i) (inr j) = held_earlier future_holds future_behind i j
stand_of (future_at o b r) p q (inr i) (inl j) = held_later future_holds future_behind i j
stand_of (future_at o b r) p q (inr i) (inr j) = stand_in (λ d. behind future_behind) (stand_of r p q i j)
stand_of (force_at o n b r) p q i j = stand_in (λ d. behind force_behind) (stand_of r p q i j)

-- Two written jobs are in two items of one body, or in two branches of a fork, or they are one.
pub jobs_stand : (t : Body) (p q n n' : ℕ) → Written t p n → Written t q n' → Stand (located t) p q
jobs_stand t p q n n' i j = stand_of (located t) p q (written_job t p n i) (written_job t q n' j)

-- the two jobs are in two items of one body, p in the earlier
abbrev pub Earlier : Code → ℕ → ℕ → Type 0
Earlier m p q = (c : Code) × (ks : List Kind) × Apart Way m p q c ks

-- in a part they are so in the whole, or else
earlier_in_part : {O : Type 0} {m b : Code} {p q : ℕ} → ((d : Code) → Within b d → Within m d) → Earlier b p q ⊎ O → Earlier m p q ⊎ O
earlier_in_part up = ⊎_elim (λ (c, ks, a). inl (c, ks, apart_in up a)) inr

-- they are where p is in a body of the first item, and q is behind it
earlier_first :
    {O : Type 0} {m b r : Code} {k : Kind} {p q : ℕ} → HoldsBody m k b → Behind m r → Job r q → Job b p ⊎ O → Earlier m p q ⊎ O
earlier_first {p = p} {q} h e j = ⊎_elim (λ i. let (ks, a) = held_apart p q h e i j in inl (_, ks, a)) inr

-- Where each force has the body of a future that is open there, what is ahead is in an earlier item, or in the body of a future that is open
-- before.
pre_earlier : (env : List Code) (m : Code) (p q : ℕ) → Opens env m → Nested env → Pre m p q → Earlier m p q ⊎ JobIn env p
unfolding Opens Pre Nested JobIn
pre_earlier env (end_byte_at _) p q h k i = elim i [ ]
pre_earlier env (job_at o n r) p q h k (inl (e, j)) = inl (_, [], job_apart o n e j)
pre_earlier env (job_at o n r) p q h k (inr f) = earlier_in_part (λ d. behind job_behind) (pre_earlier env r p q h k f)
pre_earlier env (async_at o b r) p q h k (inl f) = earlier_in_part (λ d. inside async_holds) (pre_earlier env b p q h.0 k f)
pre_earlier env (async_at o b r) p q h k (inr f) = earlier_in_part (λ d. behind async_behind) (pre_earlier env r p q h.1 k f)
pre_earlier env (finish_at o b r) p q h k (inl (i, j)) = earlier_first finish_holds finish_behind j (ina_job env b p h.0 k i)
pre_earlier env (finish_at o b r) p q h k (inr (inl f)) = earlier_in_part (λ d. inside finish_holds) (pre_earlier env b p q h.0 k f)
pre_earlier env (finish_at o b r) p q h k (inr (inr f)) = earlier_in_part (λ d. behind finish_behind) (pre_earlier env r p q h.1 k f)
pre_earlier env (fork_at o b c r) p q h k (inl (inl i, j)) =
    earlier_first fork_holds_left fork_behind j (ina_job env b p h.0 k (ins_ina b p i))
pre_earlier env (fork_at o b c r) p q h k (inl (inr i, j)) =
    earlier_first fork_holds_right fork_behind j (ina_job env c p h.1.0 k (ins_ina c p i))
pre_earlier env (fork_at o b c r) p q h k (inr (inl f)) = earlier_in_part (λ d. inside fork_holds_left) (pre_earlier env b p q h.0 k f)
pre_earlier env (fork_at o b c r) p q h k (inr (inr (inl f))) =
    earlier_in_part (λ d. inside fork_holds_right) (pre_earlier env c p q h.1.0 k f)
pre_earlier env (fork_at o b c r) p q h k (inr (inr (inr f))) =
    earlier_in_part (λ d. behind fork_behind) (pre_earlier env r p q h.1.1 k f)
pre_earlier env (future_at o b r) p q h k (inl f) = earlier_in_part (λ d. inside future_holds) (pre_earlier env b p q h.0 k f)
pre_earlier env (future_at o b r) p q h k (inr f) =
    ⊎_elim
    (λ (c, ks, a). inl (c, ks, apart_in (λ d. behind future_behind) a))
    (earlier_first future_holds future_behind (pre_job r p q f))
    (pre_earlier (b ∷ env) r p q h.1 (h.0, k) f)
pre_earlier env (force_at o n b r) p q h k (inl (i, j)) =
    open_nth env n p k h.0 (λ env' o k' f. inr (f (ina_job env' b p o k' i)))
pre_earlier env (force_at o n b r) p q h k (inr f) = earlier_in_part (λ d. behind force_behind) (pre_earlier env r p q h.1 k f)

-- In a program, where no future is open before it, a job that is ahead of another is in an earlier item at its own place.
pub pre_apart : (m : Code) (p q : ℕ) → Opens [] m → Pre m p q → Earlier m p q
unfolding Nested JobIn
pre_apart m p q h f = ⊎_elim (λ a. a) (λ n. absurd n) (pre_earlier [] m p q h tt f)

pub ahead_apart : (m : Code) (p q : ℕ) → Opens [] m → Ahead m p q → Earlier m p q
ahead_apart m p q h a = pre_apart m p q h (ahead_pre m p q a)

-- so both are written
pub pre_jobs : (m : Code) (p q : ℕ) → Opens [] m → Pre m p q → Job m p × Job m q
pre_jobs m p q h f = let (c, ks, a) = pre_apart m p q h f in let (i, x) = apart_first a in (earlier_in i x, pre_job m p q f)

-- "two branches of a fork aren't"
pub branches_unordered :
    (t : Body) (p q : ℕ) → Opens [] (located t) → Branches (located t) p q → (Ahead (located t) p q → ⊥) × (Ahead (located t) q p → ⊥)
branches_unordered t p q h br = (left, right)
  where
    left : Ahead (located t) p q → ⊥
    left a = let (c, ks, x) = ahead_apart (located t) p q h a in branches_apart t p q br x

    right : Ahead (located t) q p → ⊥
    right a = let (c, ks, x) = ahead_apart (located t) q p h a in branches_order t p q br x

-- The way from a body's first item down to the force at o.
pub data ForceWay : Code → ℕ → List Kind → Type 0 where
  force_itself : {o n : ℕ} {b r : Code} → ForceWay (force_at o n b r) o []
  down : {c b b' : Code} {k : Kind} {o : ℕ} {ks : List Kind} → HoldsBody c k b → From b b' → ForceWay b' o ks → ForceWay c o (k ∷ ks)

-- a way leads to a job's own place, or it leads to a force, which is read as a finish, and on in the reading
way_read :
    {c : Code} {p : ℕ} {ks : List Kind} → ReadWay c p ks
    → Way c p ks ⊎ ((o : ℕ) × (above : List Kind) × (below : List Kind) × ForceWay c o above × (ks ≡ above ++ (finishes ∷ below)))
way_read ReadWay.job_itself = inl Way.job_itself
way_read (ReadWay.down {k = k} (own h) f w) =
    ⊎_elim
    (λ w'. inl (Way.down h f w'))
    (λ (o, above, below, w', e). inr (o, k ∷ above, below, ForceWay.down h f w', ap (λ (x : List Kind). k ∷ x) e))
    (way_read w)
way_read (ReadWay.down {ks = ks} force_reads f w) = inr (_, [], ks, force_itself, refl)

-- So p is apart from q at its own place, or a force is apart from q.
pub apart_read :
    {m c : Code} {p q : ℕ} {ks : List Kind} → Apart ReadWay m p q c ks
    → Apart Way m p q c ks
    ⊎ ((o : ℕ) × (above : List Kind) × (below : List Kind) × Apart ForceWay m o q c above × (ks ≡ above ++ (finishes ∷ below)))
apart_read (apart r c' ks' i w e f w') =
    ⊎_elim
    (λ y. inl (apart r c' ks' i y e f w'))
    (λ (o, above, below, y, same). inr (o, above, below, apart r c' ks' i y e f w', same))
    (way_read w)

-- what is anywhere within is a part, and stands in its range
behind_inner : {c r : Code} → Behind c r → Inner c r
behind_inner job_behind = job_rest
behind_inner async_behind = async_rest
behind_inner finish_behind = finish_rest
behind_inner fork_behind = fork_rest
behind_inner future_behind = future_rest
behind_inner force_behind = force_rest

held_inner : {c b : Code} {k : Kind} → HoldsBody c k b → Inner c b
held_inner async_holds = async_body
held_inner finish_holds = finish_body
held_inner fork_holds_left = fork_left
held_inner fork_holds_right = fork_right
held_inner future_holds = future_body

within_part : {m c : Code} → Within m c → Part m c
within_part whole = Part.itself
within_part (behind e i) = Part.inside (behind_inner e) (within_part i)
within_part (inside h i) = Part.inside (held_inner h) (within_part i)

within_range : {m c : Code} → Laid m → Within m c → (start_of m ≤ start_of c) × (last c ≤ last m)
within_range {m} {c} l i =
    let (low, _, high) = code_range m (start_of c) l (part_code (within_part i) l) in (low, high)

from_within : {b c : Code} → From b c → Within b c
from_within start = whole
from_within (on e f) = behind e (from_within f)

-- so does a force that a way leads to, and it stands before what is behind the first item
force_range : {c : Code} {o : ℕ} {ks : List Kind} → Laid c → ForceWay c o ks → (start_of c ≤ o) × (o ≤ last c)
unfolding start_of
force_range l force_itself = (omega arith, laid_le _ l)
force_range l (ForceWay.down h f w) =
    let i = inside h (from_within f) in
    let (low, high) = within_range l i in
    let (low', high') = force_range (within_laid i l) w in
    (omega (arith, low, low'), omega (arith, high, high'))

held_before : {c b r : Code} {k : Kind} → Laid c → HoldsBody c k b → Behind c r → last b < start_of r
unfolding Laid
held_before l async_holds async_behind = omega (arith, l.0.ends)
held_before l finish_holds finish_behind = omega (arith, l.0.ends)
held_before l fork_holds_left fork_behind = omega (arith, l.0.between, l.0.right, l.0.ends)
held_before l fork_holds_right fork_behind = omega (arith, l.0.ends)
held_before l future_holds future_behind = omega (arith, l.0.ends)

force_before : {c r : Code} {o : ℕ} {ks : List Kind} → Laid c → ForceWay c o ks → Behind c r → o < start_of r
unfolding Laid
force_before l force_itself force_behind = l.0.starts
force_before l (ForceWay.down h f w) e =
    let kb = held_laid h l in
    let (_, high) = within_range kb (from_within f) in
    let (_, high') = force_range (from_laid f kb) w in
    omega (arith, held_before l h e, high, high')

-- one such body within another is that one: the force is not behind its item, and q is not in it
force_same :
    {c d r : Code} {o : ℕ} {ks ls : List Kind} (q : ℕ) → Laid c → Within c d → ForceWay c o ks → Behind c r → Job r q → ForceWay d o ls → Job d q
    → c ≡ d
force_same q l whole w e j w' j' = refl
force_same q l (behind e' i) w e j w' j' =
    let kr = behind_laid e' l in
    let (low, _) = within_range kr i in
    let (low', _) = force_range (within_laid i kr) w' in
    absurd (omega (arith, force_before l w e', low, low'))
force_same q l (inside h i) w e j w' j' = absurd (not_both q l h e (within_job q i j') j)

-- A program has one body at most, from a force's item on, with the force in this item and q in a later one.
pub force_once :
    (t : Body) (o q : ℕ) {c d : Code} {ks ls : List Kind} → Apart ForceWay (located t) o q c ks → Apart ForceWay (located t) o q d ls → c ≡ d
force_once t o q (apart r c' ks' i w e f w') (apart r₂ c₂ ks₂ i₂ y e₂ f₂ y') =
    let l = laid_located t in
    let j = from_job q f (way_job w') in
    let j₂ = from_job q f₂ (way_job y') in
    let at = behind_job q e j in
    let at₂ = behind_job q e₂ j₂ in
    ⊎_elim
    (λ n. force_same q (within_laid i l) n w e j y at₂)
    (λ n. sym (force_same q (within_laid i₂ l) n y e₂ j₂ w at))
    (nested q l i i₂ at at₂)

-- a force that is anywhere within is in some item of the body
force_in :
    {b c : Code} {o : ℕ} {ks : List Kind} → Within b c → ForceWay c o ks → (c' : Code) × (ls : List Kind) × From b c' × ForceWay c' o ls
force_in {c = c} {ks = ks} whole w = (c, ks, start, w)
force_in (behind e i) w = let (c', ls, f, w') = force_in i w in (c', ls, on e f, w')
force_in {b = b} (inside {k = k} h i) w = let (c', ls, f, w') = force_in i w in (b, k ∷ ls, start, ForceWay.down h f w')

-- In a body around it, whose item d has it inside, the force and q are in this item.
pub force_around :
    {m b c d : Code} {k : Kind} {ks : List Kind} (o q : ℕ) → Apart ForceWay m o q c ks → HoldsBody d k b → Within b c
    → ((ls : List Kind) × ForceWay d o ls) × ((ls : List Kind) × Way d q ls)
force_around {k = k} o q (apart r c' ks' i w e f w') h n =
    let (b', ls, f', y) = force_in n w in
    let (b₂, ls₂, f₂, y₂) = job_way _ q (within_job q n (behind_job q e (from_job q f (way_job w')))) in
    ((k ∷ ls, ForceWay.down h f' y), (k ∷ ls₂, Way.down h f₂ y₂))
