-- Checking a program in one pass: what holds before each byte that starts something, and one law for each turn of the loop.
use Prim.Native.Nat.{ℕ, zero, suc, ◌+◌, ◌-◌, ◌*◌, ◌<◌, ◌≤◌}
use mathlib.Core.Path.{◌≡◌, refl, sym, ap, subst, ◌∙◌}
use mathlib.Core.Bool.{Bool, true, false, cond, ◌&&◌, true≢false}
use mathlib.Core.List.{List, [], ◌∷◌, ◌++◌}
use mathlib.Core.Logic.{◌⊎◌, inl, inr, ◌≢◌}
use native.Mathlib.Nat.{add-zero}
use native.Mathlib.Numerals.{add-one}
use native.Mathlib.Omega.{arith}
use lib.Dec.{eqb, ltb, leb}
use lib.ListN.{length, get_or, set, drop, replicate, length-set, length-drop, length-append, drop_of_length-le}
use lib.Seq.{drop-cons, drop-drop, drop-append_seam, get_or-drop, get_or-set_same, get_or-set_other}
use borrow.Author.Tests.{eqb-true, eqb-false, eq-eqb, ne_eqb, ltb-true, ltb-false, lt-ltb, le-ltb, le-leb, lt-leb}
use Rattle.std.specs.Prelude.{Option, Some, None}
use Rattle.program.specs.declared.Edition.{Edition}
use Rattle.program.specs.declared.Edition.TheVariants.{First, Second}
use Rattle.program.specs.Limits.{job_limit, level_limit, vertex_limit}
use Rattle.program.specs.Trees.{Counts, jobs, asyncs, finishes, forks, futures, forces, a_job, a_force, with_first, open_behind, total}
use Rattle.program.specs.Bytes.{end_byte, job_byte, async_byte, fork_byte, future_byte, force_byte, top_bit, encode_number}
use Rattle.program.specs.Encodings.{fork_row, row_of, weight, makes, fork_vertices}
use Rattle.program.specs.Reader.{Read, took, refused, and_then, take_if, number, job_of, force_of, item, body, reading}
use Rattle.program.specs.Internal.Progress.{is_read, ShortJob, past_number, opens_number, in_number, Outside, NumberProgress, value, number_progress}
use Rattle.refusal.specs.Refusals.{no_such_future}
use Rattle.program.proofs.ReadLaws.{Outcome, took_bytes, took_fits}
use Rattle.program.proofs.NumberLaws.{Small, one_byte, number_outcome, number_complete}
use Rattle.program.proofs.ReaderLaws.{item_job, item_force}
use Rattle.program.proofs.ReadingLaws.{Within, reading_outside}
use Rattle.program.proofs.ReadingLaws as whole
use Rattle.program.proofs.ProgressLaws.{slice}
use Rattle.program.proofs.StartLaws.{Groups, last_group, more_groups, number_groups}
use Rattle.program.proofs.MarkLaws.{Marked, marked_none, marked_more}
use Rattle.program.proofs.StackLaws.{vertices, Table, go_on, reads, opened_behind, reads_first, reads_out, reads_main_end}
use Rattle.program.proofs.StackLaws.{reads_first_end, reads_last_end, reads_item, reads_refused, reads_unknown, reads_deep, reads_opener}
use borrow.Author.Rules.{part_to_end}

-- ---- the vertices by first byte

-- what the code counts by, where a fork makes so many
abbrev pub by_first : ℕ → List ℕ
by_first f = 0 ∷ 0 ∷ 1 ∷ 2 ∷ f ∷ 2 ∷ 1 ∷ []

pub table_is : (ed : Edition) (f : ℕ) → f ≡ fork_vertices ed * 1 → Table ed (by_first f)
unfolding weight makes row_of fork_row fork_vertices
table_is ed f is jobs = refl
table_is ed f is asyncs = refl
table_is ed f is finishes = refl
table_is First f is forks = is
table_is Second f is forks = is
table_is ed f is futures = refl
table_is ed f is forces = refl

-- none makes more than three
pub table_small : (f : ℕ) → f ≤ 3 → (x : ℕ) → get_or (by_first f) x 0 ≤ 3
table_small f le zero = omega arith
table_small f le (suc zero) = omega arith
table_small f le (suc (suc zero)) = omega arith
table_small f le (suc (suc (suc zero))) = omega arith
table_small f le (suc (suc (suc (suc zero)))) = le
table_small f le (suc (suc (suc (suc (suc zero))))) = omega arith
table_small f le (suc (suc (suc (suc (suc (suc zero)))))) = omega arith
table_small f le (suc (suc (suc (suc (suc (suc (suc x))))))) = omega arith

-- ---- the place behind a number

-- a number of one byte: it is not below the bound,
short_number : (bytes : List ℕ) (from : ℕ) → from < length bytes → get_or bytes from 0 < top_bit
    → number (drop from bytes) ≡ took (get_or bytes from 0) (drop (suc from) bytes)
unfolding encode_number
short_number bytes from lt low =
    ap number (drop-cons bytes from 0 lt ∙ ap (λ (l : List ℕ). l ++ drop (suc from) bytes) (sym (one_byte _ (get_or bytes from 0) low)))
    ∙ number_complete (get_or bytes from 0) (drop (suc from) bytes) (omega arith)

pub short_over :
    (bytes : List ℕ) (from bound : ℕ) → from < length bytes → get_or bytes from 0 < top_bit → bound ≤ get_or bytes from 0
    → None ≡ past_number (length bytes) bound (number (drop from bytes))
unfolding past_number
short_over bytes from bound lt low le = rw (short_number bytes from lt low, le-ltb (get_or bytes from 0) bound le) refl

-- or it is
pub short_below :
    (bytes : List ℕ) (from bound : ℕ) → from < length bytes → get_or bytes from 0 < top_bit → get_or bytes from 0 < bound
    → Some (from + 1) ≡ past_number (length bytes) bound (number (drop from bytes))
unfolding past_number
short_below bytes from bound lt low below =
    rw (short_number bytes from lt low, lt-ltb (get_or bytes from 0) bound below) (ap Some (omega (arith, length-drop (suc from) bytes)))

-- any number: it is refused,
pub long_refused :
    (bytes : List ℕ) (from bound len : ℕ) (seen : Counts) (n p : ℕ)
    → NumberProgress.stopped n p ≡ number_progress len seen (number (slice bytes from))
    → None ≡ past_number (length bytes) bound (number (drop from bytes))
unfolding past_number number_progress
long_refused bytes from bound len seen n p is =
    go (number (slice bytes from)) is ∙ ap (λ (l : List ℕ). past_number (length bytes) bound (number l)) (part_to_end bytes from)
  where
    Stopped : NumberProgress → Type 0
    Stopped (value n p s) = ⊥
    Stopped (NumberProgress.stopped n p) = Unit {0}

    go : (o : Read ℕ) → NumberProgress.stopped n p ≡ number_progress len seen o → None ≡ past_number (length bytes) bound o
    go (took m rest) e = absurd (subst Stopped e tt)
    go (refused m left) e = refl

-- or read
pub long_read :
    (bytes : List ℕ) (from bound : ℕ) (seen seen' : Counts) (n p : ℕ) {len : ℕ} → len ≡ length bytes
    → value n p seen' ≡ number_progress len seen (number (slice bytes from))
    → cond (ltb n bound) (Some p) None ≡ past_number (length bytes) bound (number (drop from bytes))
unfolding past_number number_progress
long_read bytes from bound seen seen' n p {len} all is =
    go (number (slice bytes from)) is ∙ ap (λ (l : List ℕ). past_number (length bytes) bound (number l)) (part_to_end bytes from)
  where
    Value : NumberProgress → Type 0
    Value (value n p s) = Unit {0}
    Value (NumberProgress.stopped n p) = ⊥

    value_of : NumberProgress → ℕ
    value_of (value n p s) = n
    value_of (NumberProgress.stopped n p) = n

    place_of : NumberProgress → ℕ
    place_of (value n p s) = p
    place_of (NumberProgress.stopped n p) = p

    go : (o : Read ℕ) → value n p seen' ≡ number_progress len seen o → cond (ltb n bound) (Some p) None ≡ past_number (length bytes) bound o
    go (took m rest) e =
        (λ i. cond (ltb (ap value_of e i) bound) (Some (ap place_of e i)) None)
        ∙ ap (λ (l : ℕ). cond (ltb m bound) (Some (l - length rest)) None) all
    go (refused m left) e = absurd (subst Value e tt)

-- what the place behind a number tells: the number was read, and is below the bound, or it was refused or is not
data Behind (len bound : ℕ) (xs : List ℕ) : Option ℕ → Type 0 where
  number_read : (n : ℕ) (rest : List ℕ) → number xs ≡ took n rest → n < bound → Behind len bound xs (Some (len - length rest))
  number_not : ((n : ℕ) (rest : List ℕ) → number xs ≡ took n rest → bound ≤ n) → Behind len bound xs None

behind_is : (len bound : ℕ) (xs : List ℕ) → Behind len bound xs (past_number len bound (number xs))
unfolding past_number
behind_is len bound xs = go (number xs) refl
  where
    Took : Read ℕ → Type 0
    Took (took n rest) = Unit {0}
    Took (refused n left) = ⊥

    value_of : Read ℕ → ℕ
    value_of (took n rest) = n
    value_of (refused n left) = n

    second : (n : ℕ) (rest : List ℕ) → number xs ≡ took n rest → (t : Bool) → ltb n bound ≡ t
        → Behind len bound xs (cond t (Some (len - length rest)) None)
    second n rest e true t = number_read n rest e (ltb-true n bound t)
    second n rest e false t =
        number_not (λ m rest' e'. let q : n ≡ m = ap value_of (sym e ∙ e') in let le = ltb-false n bound t in omega arith)

    go : (o : Read ℕ) → number xs ≡ o → Behind len bound xs (past_number len bound o)
    go (took n rest) e = second n rest e (ltb n bound) refl
    go (refused n left) e = number_not (λ m rest e'. absurd (subst Took (sym e' ∙ e) tt))

-- ---- an item with a number

-- what its number has to be below
abbrev number_bound : ℕ → ℕ → ℕ
number_bound x opened = cond (eqb x job_byte) (suc job_limit) opened

opens_cases : (x : ℕ) → opens_number x ≡ true → (x ≡ job_byte) ⊎ (x ≡ force_byte)
unfolding opens_number
opens_cases x is = go (eqb x job_byte) refl is
  where
    go : (t : Bool) → eqb x job_byte ≡ t → cond t true (eqb x force_byte) ≡ true → (x ≡ job_byte) ⊎ (x ≡ force_byte)
    go true e h = inl (eqb-true x job_byte e)
    go false e h = inr (eqb-true x force_byte h)

-- it is read where its number is and is below
reads_number :
    (ed : Edition) (made : List ℕ) (level opened n x : ℕ) (left : List ℕ) (next : ℕ → List ℕ → Bool) (m : ℕ) (rest : List ℕ) → Table ed made
    → opens_number x ≡ true → number left ≡ took m rest → m < number_bound x opened
    → go_on ed n (body level opened (x ∷ left)) next ≡ go_on ed (n + get_or made x 0) (body level opened rest) next
unfolding and_then take_if job_of force_of with_first total open_behind
reads_number ed made level opened n x left next m rest table opens e below = go (opens_cases x opens)
  where
    weighs : (v w : ℕ) → v ≡ w → n + (w + 0) ≡ n + v
    weighs v w is = omega arith

    go : (x ≡ job_byte) ⊎ (x ≡ force_byte)
        → go_on ed n (body level opened (x ∷ left)) next ≡ go_on ed (n + get_or made x 0) (body level opened rest) next
    go (inl job) =
        reads_item ed level opened n x left next (a_job m) rest (omega arith)
        (ap (λ (y : ℕ). item body level opened (y ∷ left)) job ∙ item_job level opened left
        ∙ ap (λ (o : Read ℕ). and_then o (λ n rest. took (a_job n) rest)) e)
        ∙ ap (λ (k : ℕ). go_on ed k (body level opened rest) next)
        (weighs (get_or made x 0) (vertices ed jobs) (ap (λ (y : ℕ). get_or made y 0) job ∙ table jobs))
    go (inr force) =
        let low : m < opened = subst (λ (y : ℕ). m < number_bound y opened) force below in
        reads_item ed level opened n x left next (a_force m) rest (omega arith)
        (ap (λ (y : ℕ). item body level opened (y ∷ left)) force ∙ item_force level opened left
        ∙ ap (λ (o : Read ℕ). and_then o (λ n rest. take_if (ltb n opened) no_such_future left (took (a_force n) rest))) e
        ∙ ap (λ (t : Bool). take_if t no_such_future left (took (a_force m) rest)) (lt-ltb m opened low))
        ∙ ap (λ (k : ℕ). go_on ed k (body level opened rest) next)
        (weighs (get_or made x 0) (vertices ed forces) (ap (λ (y : ℕ). get_or made y 0) force ∙ table forces))

-- and refused where it is refused or is not
reads_no_number :
    (ed : Edition) (level opened n x : ℕ) (left : List ℕ) (next : ℕ → List ℕ → Bool) → opens_number x ≡ true
    → ((m : ℕ) (rest : List ℕ) → number left ≡ took m rest → number_bound x opened ≤ m)
    → go_on ed n (body level opened (x ∷ left)) next ≡ false
unfolding and_then take_if job_of force_of
reads_no_number ed level opened n x left next opens over = go (opens_cases x opens)
  where
    job_told : (o : Read ℕ) → number left ≡ o → x ≡ job_byte → go_on ed n (body level opened (x ∷ left)) next ≡ false
    job_told (took m rest) e job =
        let small : m ≤ job_limit = took_fits (subst (Outcome encode_number Small left) e (number_outcome left)) in
        let large : suc job_limit ≤ m = subst (λ (y : ℕ). number_bound y opened ≤ m) job (over m rest e) in
        absurd (omega arith)
    job_told (refused m place) e job =
        reads_refused ed level opened n x left next m place (omega arith)
        (ap (λ (y : ℕ). item body level opened (y ∷ left)) job ∙ item_job level opened left
        ∙ ap (λ (o : Read ℕ). and_then o (λ n rest. took (a_job n) rest)) e)

    force_is : x ≡ force_byte → item body level opened (x ∷ left) ≡ force_of opened left
    force_is force = ap (λ (y : ℕ). item body level opened (y ∷ left)) force ∙ item_force level opened left

    force_told : (o : Read ℕ) → number left ≡ o → x ≡ force_byte → go_on ed n (body level opened (x ∷ left)) next ≡ false
    force_told (took m rest) e force =
        let high : opened ≤ m = subst (λ (y : ℕ). number_bound y opened ≤ m) force (over m rest e) in
        reads_refused ed level opened n x left next no_such_future left (omega arith)
        (force_is force
        ∙ ap (λ (o : Read ℕ). and_then o (λ n rest. take_if (ltb n opened) no_such_future left (took (a_force n) rest))) e
        ∙ ap (λ (t : Bool). take_if t no_such_future left (took (a_force m) rest)) (le-ltb m opened high))
    force_told (refused m place) e force =
        reads_refused ed level opened n x left next m place (omega arith)
        (force_is force
        ∙ ap (λ (o : Read ℕ). and_then o (λ n rest. take_if (ltb n opened) no_such_future left (took (a_force n) rest))) e)

    go : (x ≡ job_byte) ⊎ (x ≡ force_byte) → go_on ed n (body level opened (x ∷ left)) next ≡ false
    go (inl job) = job_told (number left) refl job
    go (inr force) = force_told (number left) refl force

-- ---- inside a number

-- behind a byte of a number the top bit tells
inside_next : (xs : List ℕ) (i : ℕ) → in_number xs i ≡ true → in_number xs (suc i) ≡ leb top_bit (get_or xs i 0)
unfolding in_number
inside_next xs i h = rw h refl

-- outside, the first byte of an item does
outside_next : (xs : List ℕ) (i : ℕ) → in_number xs i ≡ false → in_number xs (suc i) ≡ opens_number (get_or xs i 0)
unfolding in_number
outside_next xs i h = rw h refl

-- a byte that starts these
first_there : (xs : List ℕ) (i x : ℕ) (rest : List ℕ) → drop i xs ≡ x ∷ rest → (get_or xs i 0 ≡ x) × (drop (suc i) xs ≡ rest)
first_there xs i x rest e = (
  ap (λ (k : ℕ). get_or xs k 0) (sym (add-zero i)) ∙ sym (get_or-drop i xs 0 0) ∙ ap (λ (l : List ℕ). get_or l 0 0) e,
  ap (λ (k : ℕ). drop k xs) (sym (add-one i)) ∙ sym (drop-drop 1 i xs) ∙ ap (λ (l : List ℕ). drop 1 l) e,
)

-- so one is inside up to a number's last byte, and behind it outside
groups_inside :
    {gs : List ℕ} → Groups gs → (xs rest : List ℕ) (i : ℕ) → drop i xs ≡ gs ++ rest → in_number xs i ≡ true
    → ((q : ℕ) → i ≤ q → q < i + length gs → in_number xs q ≡ true) × (in_number xs (i + length gs) ≡ false)
groups_inside (last_group {x} low) xs rest i e h = (
  λ q ge lt. let same : i ≡ q = omega arith in ap (in_number xs) (sym same) ∙ h,
  ap (in_number xs) (add-one i) ∙ inside_next xs i h ∙ ap (leb top_bit) (first_there xs i x rest e).0 ∙ lt-leb top_bit x low,
)
groups_inside (more_groups {x} {xs = gs} high g) xs rest i e h =
    let there = first_there xs i x (gs ++ rest) e in
    let next : in_number xs (suc i) ≡ true = inside_next xs i h ∙ ap (leb top_bit) there.0 ∙ le-leb top_bit x high in
    let (inner, behind) = groups_inside g xs rest (suc i) there.1 next in
    let long : suc i + length gs ≡ i + suc (length gs) = omega arith in (
      λ q ge lt. go q ge (omega arith) inner (eqb q i) refl,
      ap (in_number xs) (sym long) ∙ behind,
    )
  where
    go :
        (q : ℕ) → i ≤ q → q < suc i + length gs → ((q : ℕ) → suc i ≤ q → q < suc i + length gs → in_number xs q ≡ true) → (t : Bool)
        → eqb q i ≡ t → in_number xs q ≡ true
    go q ge lt inner true t = ap (in_number xs) (eqb-true q i t) ∙ h
    go q ge lt inner false t = let other : q ≢ i = eqb-false q i t in inner q (omega arith) lt

-- a number that was read: where it ends, what is behind it, and what of its bytes is inside it
record Passed (xs : List ℕ) (i past : ℕ) (rest : List ℕ) : Type 0 where
  further : i < past
  within : past ≤ length xs
  left : drop past xs ≡ rest
  inside : (q : ℕ) → i < q → q < past → in_number xs q ≡ true
  outside : in_number xs past ≡ false

number_passed :
    (xs : List ℕ) (i n : ℕ) (rest : List ℕ) → i < length xs → in_number xs i ≡ false → opens_number (get_or xs i 0) ≡ true
    → number (drop (suc i) xs) ≡ took n rest → Passed xs i (length xs - length rest) rest
number_passed xs i n rest lt out opens e =
    let outcome : Outcome encode_number Small (drop (suc i) xs) (took n rest)
    = subst (Outcome encode_number Small (drop (suc i) xs)) e (number_outcome (drop (suc i) xs)) in
    let bytes : drop (suc i) xs ≡ encode_number n ++ rest = took_bytes outcome in
    let long : length (drop (suc i) xs) ≡ length (encode_number n ++ rest) = ap length bytes in
    let past : length xs - length rest ≡ suc i + length (encode_number n)
    = omega (arith, length-drop (suc i) xs, length-append (encode_number n) rest) in
    let (inner, behind) = groups_inside (number_groups n (took_fits outcome)) xs rest (suc i) bytes (outside_next xs i out ∙ opens) in
    record {
      further = omega arith;
      within = omega arith;
      left =
          ap (λ (k : ℕ). drop k xs) past ∙ sym (drop-drop (length (encode_number n)) (suc i) xs)
          ∙ ap (drop (length (encode_number n))) bytes ∙ drop-append_seam (encode_number n) rest;
      inside = λ q gt below. inner q (omega arith) (omega arith);
      outside = ap (in_number xs) past ∙ behind;
    }

-- ---- the loop

-- a program whose length is outside the limits is not read
pub outside_refused : (ed : Edition) (bytes : List ℕ) → whole.Outside bytes → false ≡ is_read (reading ed bytes)
unfolding is_read
outside_refused ed bytes out = sym (ap is_read (reading_outside ed bytes out))

-- Before a byte that starts something, with `depth` items open around it: what was counted and marked, and that the program is read just where
-- reading from here on comes to that, whatever edition the vertices by first byte are of.
pub record Checking (bytes before made marks ops beh : List ℕ) (depth opened n place : ℕ) : Type 0 where
  pub within : place ≤ length bytes
  pub shallow : depth < level_limit
  pub ops_room : length ops ≡ level_limit
  pub beh_room : length beh ≡ level_limit
  pub long : length marks ≡ length before
  pub few : opened ≤ place
  pub beh_few : (k : ℕ) → get_or beh k 0 ≤ place
  pub small : (x : ℕ) → get_or made x 0 ≤ 3
  pub n_few : n ≤ 2 + 3 * place
  pub marked : Marked bytes marks place
  pub outside : in_number bytes place ≡ false
  pub comes : (ed : Edition) → Table ed made → is_read (reading ed bytes) ≡ reads ed ops beh depth opened n (drop place bytes)

-- no future is open behind an item before the first
none_behind : (n k : ℕ) → get_or (replicate n 0) k 0 ≤ 0
none_behind zero k = omega arith
none_behind (suc n) zero = omega arith
none_behind (suc n) (suc k) = none_behind n k

-- before the first byte
pub checking_first :
    (bytes marks made : List ℕ) → Within bytes → marks ≡ replicate (length marks) 0 → ((x : ℕ) → get_or made x 0 ≤ 3)
    → Checking bytes marks made marks (replicate level_limit 0) (replicate level_limit 0) 0 0 2 0
unfolding in_number
checking_first bytes marks made within zeros small =
    record {
      within = omega arith;
      shallow = omega arith;
      ops_room = refl;
      beh_room = refl;
      long = refl;
      few = omega arith;
      beh_few = none_behind level_limit;
      small = small;
      n_few = omega arith;
      marked = marked_none bytes marks zeros;
      outside = refl;
      comes = λ ed table. reads_first ed (replicate level_limit 0) (replicate level_limit 0) bytes within;
    }

-- an item's first byte that no number stands behind
opener_range : (x : ℕ) → (x ≡ end_byte → ⊥) → x ≤ force_byte → opens_number x ≡ false → (async_byte ≤ x) × (x ≤ future_byte)
unfolding opens_number
opener_range x other le holds = go (eqb x job_byte) refl (eqb x force_byte) refl holds
  where
    go :
        (s : Bool) → eqb x job_byte ≡ s → (t : Bool) → eqb x force_byte ≡ t → cond s true t ≡ false → (async_byte ≤ x) × (x ≤ future_byte)
    go true p t q h = absurd (true≢false h)
    go false p true q h = absurd (true≢false h)
    go false p false q h = let a = eqb-false x job_byte p in let b = eqb-false x force_byte q in (omega arith, omega arith)

module _
    {bytes before made marks ops beh : List ℕ} {depth opened n place : ℕ}
    (h : Checking bytes before made marks ops beh depth opened n place) where
  -- from the byte at hand on
  comes_here :
      place < length bytes → (ed : Edition) → Table ed made
      → is_read (reading ed bytes) ≡ reads ed ops beh depth opened n (get_or bytes place 0 ∷ drop (suc place) bytes)
  comes_here lt ed table = h.comes ed table ∙ ap (reads ed ops beh depth opened n) (drop-cons bytes place 0 lt)

  -- the bytes run out,
  pub checked_out : length bytes ≤ place → (ed : Edition) → Table ed made → false ≡ is_read (reading ed bytes)
  checked_out le ed table =
      sym
      (h.comes ed table
      ∙ ap (reads ed ops beh depth opened n) (drop_of_length-le bytes le)
      ∙ reads_out ed ops beh depth opened n)

  -- there stands what starts no item,
  pub checked_unknown : place < length bytes → force_byte < get_or bytes place 0 → (ed : Edition) → Table ed made → false ≡ is_read (reading ed bytes)
  checked_unknown lt gt ed table =
      sym (comes_here lt ed table ∙ reads_unknown ed (suc depth) opened n (get_or bytes place 0) (drop (suc place) bytes) _ gt)

  -- an item that holds bodies which are too deep,
  pub checked_deep :
      place < length bytes → (get_or bytes place 0 ≡ end_byte → ⊥) → get_or bytes place 0 ≤ force_byte → opens_number (get_or bytes place 0) ≡ false
      → level_limit ≤ depth + 1 → (ed : Edition) → Table ed made → false ≡ is_read (reading ed bytes)
  checked_deep lt other le holds deep ed table =
      let (low, high) = opener_range (get_or bytes place 0) other le holds in
      sym (comes_here lt ed table ∙ reads_deep ed (suc depth) opened n (get_or bytes place 0) (drop (suc place) bytes) _ low high (omega arith))

  -- the place behind a number, by the bytes behind its item's first
  past_here :
      (past : Option ℕ) (bound : ℕ) → past ≡ past_number (length bytes) bound (number (drop (place + 1) bytes))
      → past ≡ past_number (length bytes) bound (number (drop (suc place) bytes))
  past_here past bound is = is ∙ ap (λ (k : ℕ). past_number (length bytes) bound (number (drop k bytes))) (add-one place)

  -- a job or a force whose number is refused or too large,
  pub checked_number :
      (past : Option ℕ) (bound : ℕ) → place < length bytes → opens_number (get_or bytes place 0) ≡ true → bound ≡ number_bound (get_or bytes place 0) opened
      → past ≡ past_number (length bytes) bound (number (drop (place + 1) bytes)) → past ≡ None
      → (ed : Edition) → Table ed made → false ≡ is_read (reading ed bytes)
  checked_number past bound lt opens is behind none ed table =
      sym
      (comes_here lt ed table
      ∙ go past (subst (Behind (length bytes) bound (drop (suc place) bytes)) (sym (past_here past bound behind)) (behind_is _ bound _)) none)
    where
      go :
          (past : Option ℕ) → Behind (length bytes) bound (drop (suc place) bytes) past → past ≡ None
          → reads ed ops beh depth opened n (get_or bytes place 0 ∷ drop (suc place) bytes) ≡ false
      go past (number_read m rest e below) nowhere = cc
      go past (number_not over) nowhere =
          reads_no_number ed (suc depth) opened n (get_or bytes place 0) (drop (suc place) bytes) _ opens
          (λ m rest e. subst (λ (b : ℕ). b ≤ m) is (over m rest e))

  -- or the main body ends
  pub checked_main_end :
      (marks' : List ℕ) → place < length bytes → get_or bytes place 0 ≡ end_byte → depth ≡ 0 → marks' ≡ set marks place 1
      → (ed : Edition) → Table ed made
      → ((eqb (place + 1) (length bytes) && leb n vertex_limit) ≡ is_read (reading ed bytes))
      × (length marks' ≡ length before)
      × ((eqb (place + 1) (length bytes) && leb n vertex_limit) ≡ true → Outside bytes marks')
  checked_main_end marks' lt stop main set_one ed table = (
    ap (λ (t : Bool). t && leb n vertex_limit) (all_read (eqb (place + 1) (length bytes)) refl)
        ∙ sym
        (comes_here lt ed table
        ∙ ap (λ (k : ℕ). reads ed ops beh k opened n (get_or bytes place 0 ∷ drop (suc place) bytes)) main
        ∙ reads_main_end ed ops beh opened n (get_or bytes place 0) (drop (suc place) bytes) stop),
    ap length set_one ∙ length-set marks place 1 ∙ h.long,
    λ ends.
        let last : place + 1 ≡ length bytes = eqb-true (place + 1) (length bytes) (and_first (eqb (place + 1) (length bytes)) _ ends) in
        subst (λ (l : List ℕ). Marked bytes l (length bytes)) (sym set_one)
        (marked_more bytes marks place (length bytes) h.marked h.outside lt (λ q gt below. absurd (omega arith))),
  )
    where
      and_first : (s t : Bool) → (s && t) ≡ true → s ≡ true
      and_first true t e = refl
      and_first false t e = e

      all_read : (t : Bool) → eqb (place + 1) (length bytes) ≡ t → t ≡ eqb (length (drop (suc place) bytes)) 0
      all_read true e =
          let last : place + 1 ≡ length bytes = eqb-true (place + 1) (length bytes) e in
          sym (eq-eqb (length (drop (suc place) bytes)) 0 (omega (arith, length-drop (suc place) bytes)))
      all_read false e =
          let more : place + 1 ≡ length bytes → ⊥ = eqb-false (place + 1) (length bytes) e in
          sym (ne_eqb (length (drop (suc place) bytes)) 0 (λ none. more (omega (arith, length-drop (suc place) bytes))))

  -- The loop goes on: the marks,
  marks_on :
      (marks' : List ℕ) (past : ℕ) → marks' ≡ set marks place 1 → place < past → ((q : ℕ) → place < q → q < past → in_number bytes q ≡ true)
      → (length marks' ≡ length before) × Marked bytes marks' past
  marks_on marks' past set_one lt inside = (
    ap length set_one ∙ length-set marks place 1 ∙ h.long,
    subst (λ (l : List ℕ). Marked bytes l past) (sym set_one) (marked_more bytes marks place past h.marked h.outside lt inside),
  )

  -- and the next byte, behind one that no number stands behind
  outside_on : opens_number (get_or bytes place 0) ≡ false → in_number bytes (place + 1) ≡ false
  outside_on holds = ap (in_number bytes) (add-one place) ∙ outside_next bytes place h.outside ∙ holds

  end_outside : get_or bytes place 0 ≡ end_byte → in_number bytes (place + 1) ≡ false
  unfolding opens_number
  end_outside stop = outside_on (ap opens_number stop)

  -- an end byte of a fork's first body,
  pub checked_first_end :
      (marks' : List ℕ) → place < length bytes → get_or bytes place 0 ≡ end_byte → (depth ≡ 0 → ⊥) → get_or ops (depth - 1) 0 ≡ fork_byte
      → marks' ≡ set marks place 1
      → Checking bytes before made marks' (set ops (depth - 1) async_byte) beh depth (get_or beh (depth - 1) 0) n (place + 1)
  checked_first_end marks' lt stop inner fork set_one =
      let (long, marked) = marks_on marks' (place + 1) set_one (omega arith) (λ q gt below. absurd (omega arith)) in
      let deep : depth ≡ suc (depth - 1) = omega arith in
      record {
        within = omega arith;
        shallow = h.shallow;
        ops_room = length-set ops (depth - 1) async_byte ∙ h.ops_room;
        beh_room = h.beh_room;
        long = long;
        few = omega (arith, h.beh_few (depth - 1));
        beh_few = λ k. omega (arith, h.beh_few k);
        small = h.small;
        n_few = omega (arith, h.n_few);
        marked = marked;
        outside = end_outside stop;
        comes =
            λ ed table.
            comes_here lt ed table
            ∙ ap (λ (k : ℕ). reads ed ops beh k opened n (get_or bytes place 0 ∷ drop (suc place) bytes)) deep
            ∙ reads_first_end ed ops beh (depth - 1) opened n (get_or bytes place 0) (drop (suc place) bytes) stop fork
            (omega (arith, h.shallow, h.ops_room))
            ∙ (λ i. reads ed (set ops (depth - 1) async_byte) beh (sym deep i) (get_or beh (depth - 1) 0) n (drop (sym (add-one place) i) bytes));
      }

  -- of another one inside the program,
  pub checked_end :
      (marks' : List ℕ) → place < length bytes → get_or bytes place 0 ≡ end_byte → (depth ≡ 0 → ⊥) → (get_or ops (depth - 1) 0 ≡ fork_byte → ⊥)
      → marks' ≡ set marks place 1 → Checking bytes before made marks' ops beh (depth - 1) (get_or beh (depth - 1) 0) n (place + 1)
  checked_end marks' lt stop inner other set_one =
      let (long, marked) = marks_on marks' (place + 1) set_one (omega arith) (λ q gt below. absurd (omega arith)) in
      let deep : depth ≡ suc (depth - 1) = omega arith in
      record {
        within = omega arith;
        shallow = omega (arith, h.shallow);
        ops_room = h.ops_room;
        beh_room = h.beh_room;
        long = long;
        few = omega (arith, h.beh_few (depth - 1));
        beh_few = λ k. omega (arith, h.beh_few k);
        small = h.small;
        n_few = omega (arith, h.n_few);
        marked = marked;
        outside = end_outside stop;
        comes =
            λ ed table.
            comes_here lt ed table
            ∙ ap (λ (k : ℕ). reads ed ops beh k opened n (get_or bytes place 0 ∷ drop (suc place) bytes)) deep
            ∙ reads_last_end ed ops beh (depth - 1) opened n (get_or bytes place 0) (drop (suc place) bytes) stop other
            ∙ ap (λ (k : ℕ). reads ed ops beh (depth - 1) (get_or beh (depth - 1) 0) n (drop k bytes)) (sym (add-one place));
      }

  -- an item that holds bodies,
  pub checked_opener :
      (marks' : List ℕ) (y : ℕ) → place < length bytes → (get_or bytes place 0 ≡ end_byte → ⊥) → get_or bytes place 0 ≤ force_byte
      → opens_number (get_or bytes place 0) ≡ false → depth + 1 < level_limit → y ≡ opened_behind (get_or bytes place 0) opened
      → marks' ≡ set marks place 1
      → Checking bytes before made marks' (set ops depth (get_or bytes place 0)) (set beh depth y) (depth + 1) opened
      (n + get_or made (get_or bytes place 0) 0) (place + 1)
  checked_opener marks' y lt other le holds shallow is set_one =
      let (long, marked) = marks_on marks' (place + 1) set_one (omega arith) (λ q gt below. absurd (omega arith)) in
      let (low, high) = opener_range (get_or bytes place 0) other le holds in
      record {
        within = omega arith;
        shallow = shallow;
        ops_room = length-set ops depth (get_or bytes place 0) ∙ h.ops_room;
        beh_room = length-set beh depth y ∙ h.beh_room;
        long = long;
        few = omega (arith, h.few);
        beh_few = λ k. behind_few k (eqb k depth) refl;
        small = h.small;
        n_few = omega (arith, h.n_few, h.small (get_or bytes place 0));
        marked = marked;
        outside = outside_on holds;
        comes =
            λ ed table.
            comes_here lt ed table
            ∙ reads_opener ed made ops beh depth opened n (get_or bytes place 0) y (drop (suc place) bytes) table low high (omega arith)
            (omega (arith, h.ops_room)) (omega (arith, h.beh_room)) is
            ∙ (λ i. reads ed (set ops depth (get_or bytes place 0)) (set beh depth y) (sym (add-one depth) i) opened
            (n + get_or made (get_or bytes place 0) 0) (drop (sym (add-one place) i) bytes));
      }
    where
      at_most : (t : Bool) → cond t (suc opened) opened ≤ place + 1
      at_most true = omega (arith, h.few)
      at_most false = omega (arith, h.few)

      behind_few : (k : ℕ) (t : Bool) → eqb k depth ≡ t → get_or (set beh depth y) k 0 ≤ place + 1
      behind_few k true e =
          subst (λ (v : ℕ). v ≤ place + 1)
          (sym
          (ap (λ (j : ℕ). get_or (set beh depth y) j 0) (eqb-true k depth e)
          ∙ get_or-set_same beh depth y 0 (omega (arith, h.beh_room, h.shallow)) ∙ is))
          (at_most (eqb (get_or bytes place 0) future_byte))
      behind_few k false e =
          let apart : k ≢ depth = eqb-false k depth e in
          subst (λ (v : ℕ). v ≤ place + 1) (sym (get_or-set_other beh depth k y 0 apart)) (omega (arith, h.beh_few k))

  -- and a job or a force
  pub checked_past :
      (marks' : List ℕ) (past bound : ℕ) → place < length bytes → opens_number (get_or bytes place 0) ≡ true
      → bound ≡ number_bound (get_or bytes place 0) opened → Some past ≡ past_number (length bytes) bound (number (drop (place + 1) bytes))
      → marks' ≡ set marks place 1
      → Checking bytes before made marks' ops beh depth opened (n + get_or made (get_or bytes place 0) 0) past × (place < past)
  checked_past marks' past bound lt opens is behind set_one =
      go past (subst (Behind (length bytes) bound (drop (suc place) bytes)) (sym (past_here (Some past) bound behind)) (behind_is _ bound _))
    where
      go :
          (past : ℕ) → Behind (length bytes) bound (drop (suc place) bytes) (Some past)
          → Checking bytes before made marks' ops beh depth opened (n + get_or made (get_or bytes place 0) 0) past × (place < past)
      go _ (number_read m rest e below) =
          let p = number_passed bytes place m rest lt h.outside opens e in
          let (long, marked) = marks_on marks' (length bytes - length rest) set_one p.further p.inside in (
            record {
              within = p.within;
              shallow = h.shallow;
              ops_room = h.ops_room;
              beh_room = h.beh_room;
              long = long;
              few = omega (arith, h.few, p.further);
              beh_few = λ k. omega (arith, h.beh_few k, p.further);
              small = h.small;
              n_few = omega (arith, h.n_few, h.small (get_or bytes place 0), p.further);
              marked = marked;
              outside = p.outside;
              comes =
                  λ ed table.
                  comes_here lt ed table
                  ∙ reads_number ed made (suc depth) opened n (get_or bytes place 0) (drop (suc place) bytes) _ m rest table opens e
                  (subst (λ (b : ℕ). m < b) is below)
                  ∙ ap (reads ed ops beh depth opened (n + get_or made (get_or bytes place 0) 0)) (sym p.left);
            },
            p.further,
          )

  -- of which most are short
  pub checked_short :
      (marks' : List ℕ) (f : ℕ) → ShortJob bytes place → made ≡ by_first f → marks' ≡ set marks place 1
      → Checking bytes before made marks' ops beh depth opened n (place + 2)
  unfolding opens_number
  checked_short marks' f (job, more, low) is set_one =
      let past : Some (place + 2) ≡ past_number (length bytes) (suc job_limit) (number (drop (place + 1) bytes))
      = ap Some two ∙ short_below bytes (place + 1) (suc job_limit) more low (omega arith) in
      subst (λ (m : ℕ). Checking bytes before made marks' ops beh depth opened m (place + 2)) makes
      (checked_past marks' (place + 2) (suc job_limit) (omega arith) (ap opens_number job) (ap (λ (x : ℕ). number_bound x opened) (sym job)) past
      set_one).0
    where
      two : place + 2 ≡ place + 1 + 1
      two = omega arith

      makes : n + get_or made (get_or bytes place 0) 0 ≡ n
      makes = ap (λ (l : List ℕ). n + get_or l (get_or bytes place 0) 0) is ∙ ap (λ (x : ℕ). n + get_or (by_first f) x 0) job ∙ add-zero n
