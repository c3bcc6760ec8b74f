-- The search for a body's end. By its first byte a body is of one form, and so many of its bytes are its first item's.
use Prim.Native.Nat.{ℕ, ◌+◌, ◌-◌, ◌<◌, ◌≤◌}
use mathlib.Core.Path.{◌≡◌, refl, sym, ap, ◌∙◌}
use mathlib.Core.Bool.{Bool, true, false, true≢false}
use mathlib.Core.List.{List, ◌++◌, append_assoc}
use mathlib.Core.Logic.{inl, inr}
use native.Mathlib.Nat.{add-zero}
use native.Mathlib.Omega.{arith}
use lib.Dec.{eqb}
use lib.ListN.{length, get_or, take, drop, length-append, length-drop}
use lib.Seq.{drop-drop, drop-append_seam, take_all, get_or-drop}
use borrow.Author.Tests.{eqb-true, eqb-false}
use Rattle.program.specs.Limits.{job_limit}
use Rattle.program.specs.Trees.{Body, end, job, async, finish, fork, future, force, largest, depth}
use Rattle.program.specs.Bytes.{end_byte, job_byte, async_byte, finish_byte, fork_byte, future_byte, force_byte}
use Rattle.program.specs.Bytes.{encode_number, encode, number_size, size}
use Rattle.program.specs.Claims.{Fits, HasNumber}
use Rattle.program.specs.Internal.Progress.{BeginsWithBody, begins, Sized, number_end, opens_number}
use Rattle.program.proofs.ReadingLaws.{encode_positive}
use Rattle.program.proofs.NumberEnds.{number_end_lem}

-- the part of a slice from k on, as the code has it: what is behind its first k elements
abbrev pub part : ℕ → List ℕ → List ℕ
part k xs = take (length xs - k) (drop k xs)

pub part_is : (k : ℕ) (xs : List ℕ) → part k xs ≡ drop k xs
part_is k xs = let long : length (drop k xs) ≡ length xs - k = length-drop k xs in take_all (length xs - k) (drop k xs) (omega arith)

pub part_length : (k : ℕ) (xs : List ℕ) → length (part k xs) ≡ length xs - k
part_length k xs = ap length (part_is k xs) ∙ length-drop k xs

pub first_behind : (k : ℕ) (xs : List ℕ) → get_or (drop k xs) 0 0 ≡ get_or xs k 0
first_behind k xs = get_or-drop k xs 0 0 ∙ ap (λ (j : ℕ). get_or xs j 0) (add-zero k)

-- the number of bytes of a body, by its first item
size-end : size end ≡ 1
unfolding encode size
size-end = refl

size-job : (n : ℕ) (r : Body) → size (job n r) ≡ 1 + number_size n + size r
unfolding encode size number_size
size-job n r = omega (arith, length-append (encode_number n) (encode r))

size-async : (c r : Body) → size (async c r) ≡ 1 + size c + size r
unfolding encode size
size-async c r = omega (arith, length-append (encode c) (encode r))

size-finish : (c r : Body) → size (finish c r) ≡ 1 + size c + size r
unfolding encode size
size-finish c r = omega (arith, length-append (encode c) (encode r))

size-future : (c r : Body) → size (future c r) ≡ 1 + size c + size r
unfolding encode size
size-future c r = omega (arith, length-append (encode c) (encode r))

size-force : (n : ℕ) (r : Body) → size (force n r) ≡ 1 + number_size n + size r
unfolding encode size number_size
size-force n r = omega (arith, length-append (encode_number n) (encode r))

size-fork : (c d r : Body) → size (fork c d r) ≡ 1 + size c + size d + size r
unfolding encode size
size-fork c d r = omega (arith, length-append (encode c) (encode d ++ encode r), length-append (encode d) (encode r))

-- a body is not longer than the bytes that begin with it
pub size_within : (xs : List ℕ) (b : Body) (rest : List ℕ) → xs ≡ encode b ++ rest → (0 < length xs) × (size b ≤ length xs)
unfolding size
size_within xs b rest e =
    let long : length xs ≡ length (encode b) + length rest = ap length e ∙ length-append (encode b) rest in
    (omega (arith, encode_positive b), omega arith)

-- what a body within the limits holds is within them
within_job : (n : ℕ) (r : Body) → Fits (job n r) → (n ≤ job_limit) × Fits r
unfolding largest depth
within_job n r f = (omega (arith, f.numbers), record { numbers = omega (arith, f.numbers); levels = f.levels })

within_async : (c r : Body) → Fits (async c r) → Fits c × Fits r
unfolding largest depth
within_async c r f = (
  record { numbers = omega (arith, f.numbers); levels = omega (arith, f.levels) },
  record { numbers = omega (arith, f.numbers); levels = omega (arith, f.levels) },
)

within_finish : (c r : Body) → Fits (finish c r) → Fits c × Fits r
unfolding largest depth
within_finish c r f = (
  record { numbers = omega (arith, f.numbers); levels = omega (arith, f.levels) },
  record { numbers = omega (arith, f.numbers); levels = omega (arith, f.levels) },
)

within_future : (c r : Body) → Fits (future c r) → Fits c × Fits r
unfolding largest depth
within_future c r f = (
  record { numbers = omega (arith, f.numbers); levels = omega (arith, f.levels) },
  record { numbers = omega (arith, f.numbers); levels = omega (arith, f.levels) },
)

within_force : (n : ℕ) (r : Body) → Fits (force n r) → (n ≤ job_limit) × Fits r
unfolding largest depth
within_force n r f = (omega (arith, f.numbers), record { numbers = omega (arith, f.numbers); levels = f.levels })

within_fork : (c d r : Body) → Fits (fork c d r) → Fits c × Fits d × Fits r
unfolding largest depth
within_fork c d r f = (
  record { numbers = omega (arith, f.numbers); levels = omega (arith, f.levels) },
  record { numbers = omega (arith, f.numbers); levels = omega (arith, f.levels) },
  record { numbers = omega (arith, f.numbers); levels = omega (arith, f.levels) },
)

-- the byte that a body begins with
abbrev first_byte : Body → ℕ
first_byte end = end_byte
first_byte (job n r) = job_byte
first_byte (async c r) = async_byte
first_byte (finish c r) = finish_byte
first_byte (fork c d r) = fork_byte
first_byte (future c r) = future_byte
first_byte (force n r) = force_byte

first_of : (xs : List ℕ) (b : Body) (rest : List ℕ) → xs ≡ encode b ++ rest → get_or xs 0 0 ≡ first_byte b
unfolding encode
first_of xs end rest e = ap (λ l. get_or l 0 0) e
first_of xs (job n r) rest e = ap (λ l. get_or l 0 0) e
first_of xs (async c r) rest e = ap (λ l. get_or l 0 0) e
first_of xs (finish c r) rest e = ap (λ l. get_or l 0 0) e
first_of xs (fork c d r) rest e = ap (λ l. get_or l 0 0) e
first_of xs (future c r) rest e = ap (λ l. get_or l 0 0) e
first_of xs (force n r) rest e = ap (λ l. get_or l 0 0) e

first_most : (b : Body) → first_byte b ≤ force_byte
first_most end = omega arith
first_most (job n r) = omega arith
first_most (async c r) = omega arith
first_most (finish c r) = omega arith
first_most (fork c d r) = omega arith
first_most (future c r) = omega arith
first_most (force n r) = omega arith

-- A body that begins with such a byte is of this form: what holds of all of the form holds of it.
pub on_end : (P : Body → Type 0) (xs : List ℕ) (b : Body) (rest : List ℕ) → xs ≡ encode b ++ rest → get_or xs 0 0 ≡ end_byte → P end → P b
on_end P xs end rest e is h = h
on_end P xs (job n r) rest e is h = absurd (omega (arith, first_of xs (job n r) rest e))
on_end P xs (async c r) rest e is h = absurd (omega (arith, first_of xs (async c r) rest e))
on_end P xs (finish c r) rest e is h = absurd (omega (arith, first_of xs (finish c r) rest e))
on_end P xs (fork c d r) rest e is h = absurd (omega (arith, first_of xs (fork c d r) rest e))
on_end P xs (future c r) rest e is h = absurd (omega (arith, first_of xs (future c r) rest e))
on_end P xs (force n r) rest e is h = absurd (omega (arith, first_of xs (force n r) rest e))

-- a byte that has no number behind it is none of those that have
unnumbered : {P : Type 0} {x y : ℕ} → HasNumber x → x ≡ y → opens_number y ≡ false → P
unfolding opens_number
unnumbered (inl e) q other = absurd (true≢false (ap opens_number (sym e ∙ q) ∙ other))
unnumbered (inr e) q other = absurd (true≢false (ap opens_number (sym e ∙ q) ∙ other))

pub on_number :
    (P : Body → Type 0) (xs : List ℕ) (b : Body) (rest : List ℕ) → Fits b → xs ≡ encode b ++ rest → HasNumber (get_or xs 0 0)
    → ((n : ℕ) (r : Body) → get_or xs 0 0 ≡ job_byte → n ≤ job_limit → Fits r → drop 1 xs ≡ encode_number n ++ (encode r ++ rest) → P (job n r))
    → ((n : ℕ) (r : Body) → get_or xs 0 0 ≡ force_byte → n ≤ job_limit → Fits r → drop 1 xs ≡ encode_number n ++ (encode r ++ rest) → P (force n r))
    → P b
unfolding encode opens_number
on_number P xs end rest f e is h k = unnumbered is (first_of xs end rest e) refl
on_number P xs (job n r) rest f e is h k =
    let (low, fr) = within_job n r f in
    h n r (first_of xs (job n r) rest e) low fr (ap (λ l. drop 1 l) e ∙ append_assoc (encode_number n) (encode r) rest)
on_number P xs (async c r) rest f e is h k = unnumbered is (first_of xs (async c r) rest e) refl
on_number P xs (finish c r) rest f e is h k = unnumbered is (first_of xs (finish c r) rest e) refl
on_number P xs (fork c d r) rest f e is h k = unnumbered is (first_of xs (fork c d r) rest e) refl
on_number P xs (future c r) rest f e is h k = unnumbered is (first_of xs (future c r) rest e) refl
on_number P xs (force n r) rest f e is h k =
    let (low, fr) = within_force n r f in
    k n r (first_of xs (force n r) rest e) low fr (ap (λ l. drop 1 l) e ∙ append_assoc (encode_number n) (encode r) rest)

-- of the bytes that an item can begin with, those of an item with one body
abbrev pub HasOneBody : ℕ → Type 0
HasOneBody x = (async_byte ≤ x) × (x ≡ fork_byte → ⊥) × (x ≡ force_byte → ⊥)

pub on_one :
    (P : Body → Type 0) (xs : List ℕ) (b : Body) (rest : List ℕ) → Fits b → xs ≡ encode b ++ rest → HasOneBody (get_or xs 0 0)
    → ((c r : Body) → get_or xs 0 0 ≡ async_byte → Fits c → Fits r → drop 1 xs ≡ encode c ++ (encode r ++ rest) → P (async c r))
    → ((c r : Body) → get_or xs 0 0 ≡ finish_byte → Fits c → Fits r → drop 1 xs ≡ encode c ++ (encode r ++ rest) → P (finish c r))
    → ((c r : Body) → get_or xs 0 0 ≡ future_byte → Fits c → Fits r → drop 1 xs ≡ encode c ++ (encode r ++ rest) → P (future c r))
    → P b
unfolding encode
on_one P xs end rest f e is h k l = absurd (omega (arith, first_of xs end rest e))
on_one P xs (job n r) rest f e is h k l = absurd (omega (arith, first_of xs (job n r) rest e))
on_one P xs (async c r) rest f e is h k l =
    let (fc, fr) = within_async c r f in
    h c r (first_of xs (async c r) rest e) fc fr (ap (λ l. drop 1 l) e ∙ append_assoc (encode c) (encode r) rest)
on_one P xs (finish c r) rest f e is h k l =
    let (fc, fr) = within_finish c r f in
    k c r (first_of xs (finish c r) rest e) fc fr (ap (λ l. drop 1 l) e ∙ append_assoc (encode c) (encode r) rest)
on_one P xs (fork c d r) rest f e is h k l = absurd (is.1 (first_of xs (fork c d r) rest e))
on_one P xs (future c r) rest f e is h k l =
    let (fc, fr) = within_future c r f in
    l c r (first_of xs (future c r) rest e) fc fr (ap (λ l. drop 1 l) e ∙ append_assoc (encode c) (encode r) rest)
on_one P xs (force n r) rest f e is h k l = absurd (is.2 (first_of xs (force n r) rest e))

pub on_fork :
    (P : Body → Type 0) (xs : List ℕ) (b : Body) (rest : List ℕ) → Fits b → xs ≡ encode b ++ rest → get_or xs 0 0 ≡ fork_byte
    → ((c d r : Body) → Fits c → Fits d → Fits r → drop 1 xs ≡ encode c ++ (encode d ++ (encode r ++ rest)) → P (fork c d r)) → P b
unfolding encode
on_fork P xs end rest f e is h = absurd (omega (arith, first_of xs end rest e))
on_fork P xs (job n r) rest f e is h = absurd (omega (arith, first_of xs (job n r) rest e))
on_fork P xs (async c r) rest f e is h = absurd (omega (arith, first_of xs (async c r) rest e))
on_fork P xs (finish c r) rest f e is h = absurd (omega (arith, first_of xs (finish c r) rest e))
on_fork P xs (future c r) rest f e is h = absurd (omega (arith, first_of xs (future c r) rest e))
on_fork P xs (force n r) rest f e is h = absurd (omega (arith, first_of xs (force n r) rest e))
on_fork P xs (fork c d r) rest f e is h =
    let (fc, fd, fr) = within_fork c d r f in
    h c d r fc fd fr
    (ap (λ l. drop 1 l) e
    ∙ append_assoc (encode c) (encode d ++ encode r) rest
    ∙ ap (λ l. encode c ++ l) (append_assoc (encode d) (encode r) rest))

-- what stands behind a body
pub past_body :
    (xs : List ℕ) (k s : ℕ) (c : Body) (tail : List ℕ) → drop k xs ≡ encode c ++ tail → s ≡ size c → drop (k + s) xs ≡ tail
unfolding size
past_body xs k s c tail e is =
    sym (drop-drop s k xs) ∙ ap (λ l. drop s l) e ∙ ap (λ (m : ℕ). drop m (encode c ++ tail)) is ∙ drop-append_seam (encode c) tail

-- what stands behind a number
past_number :
    (xs : List ℕ) (k s n : ℕ) (tail : List ℕ) → drop k xs ≡ encode_number n ++ tail → s ≡ number_size n → drop (k + s) xs ≡ tail
unfolding number_size
past_number xs k s n tail e is =
    sym (drop-drop s k xs)
    ∙ ap (λ l. drop s l) e
    ∙ ap (λ (m : ℕ). drop m (encode_number n ++ tail)) is
    ∙ drop-append_seam (encode_number n) tail

-- behind the first k of these bytes, a body's, stands what is left of that body
pub data Remains (xs rest : List ℕ) (b : Body) (k : ℕ) : Type 0 where
  remains : (r : Body) → Fits r → drop k xs ≡ encode r ++ rest → k + size r ≡ size b → Remains xs rest b k

-- the first k of these bytes are items of the body that they begin with
abbrev pub Skips : List ℕ → ℕ → Type 0
Skips xs k = (b : Body) (rest : List ℕ) → Fits b → xs ≡ encode b ++ rest → Remains xs rest b k

-- The search has come to k: it has skipped items, and stands at one of the seven bytes that an item or an end can begin with.
abbrev pub Searched : List ℕ → ℕ → Type 0
Searched xs k = (k < length xs) × (get_or xs k 0 ≤ force_byte) × BeginsWithBody xs × Skips xs k

-- behind items that are skipped it stands at such a byte
searched : (xs : List ℕ) (k : ℕ) → BeginsWithBody xs → Skips xs k → Searched xs k
searched xs k (begins b f rest e) skips = go (skips b rest f e)
  where
    go : Remains xs rest b k → Searched xs k
    go (remains r fr tail total) = (
      omega (arith, size_within (drop k xs) r rest tail, length-drop k xs),
      omega (arith, first_of (drop k xs) r rest tail, first_behind k xs, first_most r),
      begins b f rest e,
      skips,
    )

-- no item
pub skip_none : (xs : List ℕ) → BeginsWithBody xs → Searched xs 0
skip_none xs held = searched xs 0 held (λ b rest f e. remains b f e (omega arith))

-- a job or a force
pub skip_number :
    (xs : List ℕ) (k s : ℕ) → Searched xs k → HasNumber (get_or xs k 0) → s ≡ number_end (part (k + 1) xs) → Searched xs (k + 1 + s)
skip_number xs k s (lt, most, held, skips) is ends = searched xs (k + 1 + s) held (λ b rest f e. go b rest (skips b rest f e))
  where
    over : (b q : Body) (n : ℕ) (rest : List ℕ) → n ≤ job_limit → Fits q → drop 1 (drop k xs) ≡ encode_number n ++ (encode q ++ rest)
        → k + (1 + number_size n + size q) ≡ size b → Remains xs rest b (k + 1 + s)
    over b q n rest low fq tail total =
        let next : drop (k + 1) xs ≡ encode_number n ++ (encode q ++ rest) = sym (drop-drop 1 k xs) ∙ tail in
        let long : s ≡ number_size n = ends ∙ ap number_end (part_is (k + 1) xs ∙ next) ∙ number_end_lem n (encode q ++ rest) low in
        remains q fq (past_number xs (k + 1) s n (encode q ++ rest) next long) (omega arith)

    go : (b : Body) (rest : List ℕ) → Remains xs rest b k → Remains xs rest b (k + 1 + s)
    go b rest (remains r fr tail total) =
        on_number (λ r. k + size r ≡ size b → Remains xs rest b (k + 1 + s)) (drop k xs) r rest fr tail (rw (first_behind k xs) is)
        (λ n q is low fq tail total. over b q n rest low fq tail (omega (arith, size-job n q)))
        (λ n q is low fq tail total. over b q n rest low fq tail (omega (arith, size-force n q)))
        total

-- an async, a finish or a future
pub skip_one :
    (xs : List ℕ) (k s : ℕ) → Searched xs k → HasOneBody (get_or xs k 0) → Sized (part (k + 1) xs) s → Searched xs (k + 1 + s)
skip_one xs k s (lt, most, held, skips) is sized = searched xs (k + 1 + s) held (λ b rest f e. go b rest (skips b rest f e))
  where
    over : (b c q : Body) (rest : List ℕ) → Fits c → Fits q → drop 1 (drop k xs) ≡ encode c ++ (encode q ++ rest)
        → k + (1 + size c + size q) ≡ size b → Remains xs rest b (k + 1 + s)
    over b c q rest fc fq tail total =
        let next : drop (k + 1) xs ≡ encode c ++ (encode q ++ rest) = sym (drop-drop 1 k xs) ∙ tail in
        let long : s ≡ size c = sized c (encode q ++ rest) fc (part_is (k + 1) xs ∙ next) in
        remains q fq (past_body xs (k + 1) s c (encode q ++ rest) next long) (omega arith)

    go : (b : Body) (rest : List ℕ) → Remains xs rest b k → Remains xs rest b (k + 1 + s)
    go b rest (remains r fr tail total) =
        on_one (λ r. k + size r ≡ size b → Remains xs rest b (k + 1 + s)) (drop k xs) r rest fr tail (rw (first_behind k xs) is)
        (λ c q is fc fq tail total. over b c q rest fc fq tail (omega (arith, size-async c q)))
        (λ c q is fc fq tail total. over b c q rest fc fq tail (omega (arith, size-finish c q)))
        (λ c q is fc fq tail total. over b c q rest fc fq tail (omega (arith, size-future c q)))
        total

-- a fork
pub skip_fork :
    (xs : List ℕ) (k s t : ℕ) → Searched xs k → get_or xs k 0 ≡ fork_byte → Sized (part (k + 1) xs) s → Sized (part (k + 1 + s) xs) t
    → Searched xs (k + 1 + s + t)
skip_fork xs k s t (lt, most, held, skips) is sized sized' = searched xs (k + 1 + s + t) held (λ b rest f e. go b rest (skips b rest f e))
  where
    go : (b : Body) (rest : List ℕ) → Remains xs rest b k → Remains xs rest b (k + 1 + s + t)
    go b rest (remains r fr tail total) =
        on_fork (λ r. k + size r ≡ size b → Remains xs rest b (k + 1 + s + t)) (drop k xs) r rest fr tail (first_behind k xs ∙ is)
        (λ c d q fc fd fq tail total.
        let next : drop (k + 1) xs ≡ encode c ++ (encode d ++ (encode q ++ rest)) = sym (drop-drop 1 k xs) ∙ tail in
        let long : s ≡ size c = sized c (encode d ++ (encode q ++ rest)) fc (part_is (k + 1) xs ∙ next) in
        let next' = past_body xs (k + 1) s c (encode d ++ (encode q ++ rest)) next long in
        let long' : t ≡ size d = sized' d (encode q ++ rest) fd (part_is (k + 1 + s) xs ∙ next') in
        remains q fq (past_body xs (k + 1 + s) t d (encode q ++ rest) next' long') (omega (arith, size-fork c d q)))
        total

-- an end byte behind items is the body's last
pub skip_end : (xs : List ℕ) (k : ℕ) → Searched xs k → get_or xs k 0 ≡ end_byte → Sized xs (k + 1)
skip_end xs k (lt, most, held, skips) is b rest f e = go (skips b rest f e)
  where
    go : Remains xs rest b k → k + 1 ≡ size b
    go (remains r fr tail total) =
        on_end (λ q. k + size q ≡ size b → k + 1 ≡ size b) (drop k xs) r rest tail (first_behind k xs ∙ is)
        (λ total. omega (arith, size-end)) total

-- the first body that an item holds
pub first_holds :
    (xs : List ℕ) (k : ℕ) → Searched xs k → async_byte ≤ get_or xs k 0 → (get_or xs k 0 ≡ force_byte → ⊥) → BeginsWithBody (part (k + 1) xs)
first_holds xs k (lt, most, begins b f rest e, skips) ge other = go (skips b rest f e) (eqb (get_or xs k 0) fork_byte) refl
  where
    here : (c : Body) (tail : List ℕ) → Fits c → drop 1 (drop k xs) ≡ encode c ++ tail → BeginsWithBody (part (k + 1) xs)
    here c tail fc e = begins c fc tail (part_is (k + 1) xs ∙ sym (drop-drop 1 k xs) ∙ e)

    go : Remains xs rest b k → (fork : Bool) → eqb (get_or xs k 0) fork_byte ≡ fork → BeginsWithBody (part (k + 1) xs)
    go (remains r fr tail total) true is =
        on_fork (λ r. BeginsWithBody (part (k + 1) xs)) (drop k xs) r rest fr tail
        (first_behind k xs ∙ eqb-true (get_or xs k 0) fork_byte is)
        (λ c d q fc fd fq tail. here c (encode d ++ (encode q ++ rest)) fc tail)
    go (remains r fr tail total) false is =
        on_one (λ r. BeginsWithBody (part (k + 1) xs)) (drop k xs) r rest fr tail
        (rw (first_behind k xs) (ge, eqb-false (get_or xs k 0) fork_byte is, other))
        (λ c q is fc fq tail. here c (encode q ++ rest) fc tail)
        (λ c q is fc fq tail. here c (encode q ++ rest) fc tail)
        (λ c q is fc fq tail. here c (encode q ++ rest) fc tail)

-- it ends within the bytes
pub first_within :
    (xs : List ℕ) (k s : ℕ) → Searched xs k → async_byte ≤ get_or xs k 0 → (get_or xs k 0 ≡ force_byte → ⊥) → Sized (part (k + 1) xs) s
    → k + 1 + s ≤ length xs
first_within xs k s at ge other sized = go (first_holds xs k at ge other)
  where
    go : BeginsWithBody (part (k + 1) xs) → k + 1 + s ≤ length xs
    go (begins c fc rest e) = omega (arith, at.0, sized c rest fc e, size_within (part (k + 1) xs) c rest e, part_length (k + 1) xs)

-- the second body of a fork
pub second_holds :
    (xs : List ℕ) (k s : ℕ) → Searched xs k → get_or xs k 0 ≡ fork_byte → Sized (part (k + 1) xs) s → BeginsWithBody (part (k + 1 + s) xs)
second_holds xs k s (lt, most, begins b f rest e, skips) is sized = go (skips b rest f e)
  where
    go : Remains xs rest b k → BeginsWithBody (part (k + 1 + s) xs)
    go (remains r fr tail total) =
        on_fork (λ r. BeginsWithBody (part (k + 1 + s) xs)) (drop k xs) r rest fr tail (first_behind k xs ∙ is)
        (λ c d q fc fd fq tail.
        let next : drop (k + 1) xs ≡ encode c ++ (encode d ++ (encode q ++ rest)) = sym (drop-drop 1 k xs) ∙ tail in
        let long : s ≡ size c = sized c (encode d ++ (encode q ++ rest)) fc (part_is (k + 1) xs ∙ next) in
        begins d fd (encode q ++ rest) (part_is (k + 1 + s) xs ∙ past_body xs (k + 1) s c (encode d ++ (encode q ++ rest)) next long))

-- the measure falls from a body to a body that an item of it holds
pub part_falls : (xs : List ℕ) (k j t : ℕ) → Searched xs k → 1 ≤ j → length xs ≡ t → length (part j xs) < t
part_falls xs k j t at le is = omega (arith, part_length j xs)
