-- What the item reader tells at its place, where a body's bytes start, and the reader that it hands back: one law for each path through
-- `item_here`, `item_ended` and `numbered_here`.
use Prim.Native.Nat.{ℕ, suc, ◌+◌, ◌≤◌}
use mathlib.Core.Path.{◌≡◌, refl, sym, ap, ap₂, ◌∙◌}
use mathlib.Core.List.{List, [], ◌++◌}
use mathlib.Core.Option.{some}
use native.Mathlib.Omega.{arith}
use lib.ListN.{length, get_or, length-append}
use borrow.Author.Tests.{eq-eqb, ne_eqb}
use Rattle.program.specs.declared.ItemCounts.{ItemCounts}
use Rattle.program.specs.declared.Reader.{Reader}
use Rattle.program.specs.Limits.{job_limit}
use Rattle.program.specs.Trees.{Counts, Body, job, async, finish, fork, future, force}
use Rattle.program.specs.Bytes.{end_byte, job_byte, async_byte, finish_byte, fork_byte, future_byte}
use Rattle.program.specs.Bytes.{encode_number, encode, number_size, size}
use Rattle.program.specs.Reader.{Read, took, refused, number}
use Rattle.program.specs.Answers.{item_counts, Stands}
use Rattle.program.specs.Located.{Code, locate, start_of, head}
use Rattle.program.specs.Internal.Progress.{NumberProgress, value, stopped, number_progress, Sized, Shows, ShowsNumbered, numbered_stands}
use Rattle.program.specs.Claims.{HasNumber}
use Rattle.program.proofs.CodeLaws.{cond_yes, cond_no}
use Rattle.program.proofs.NumberLaws.{number_complete}
use Rattle.program.proofs.LocatedLaws.{place_locate}
use Rattle.program.proofs.SkipLaws.{part, part_is, on_end, on_number, on_one, on_fork, past_body}

-- where a job or a force ends, and where an item's body starts and the item ends
ends_number : (opened : List Code) (p n : ℕ) (r : Body) → p + 1 + number_size n ≡ start_of (locate opened (suc (p + number_size n)) r)
ends_number opened p n r = omega (arith, place_locate opened (suc (p + number_size n)) r)

starts_body : (opened : List Code) (p : ℕ) (c : Body) → p + 1 ≡ start_of (locate opened (suc p) c)
starts_body opened p c = omega (arith, place_locate opened (suc p) c)

ends_body : (opened : List Code) (p s : ℕ) (c r : Body) → s ≡ size c → p + (1 + s) ≡ start_of (locate opened (suc (p + size c)) r)
ends_body opened p s c r is = omega (arith, place_locate opened (suc (p + size c)) r)

-- what stands first in a body, by its first item
head-job : (p n : ℕ) (r : Body) → Stands.job n (p + 1 + number_size n) ≡ head (locate [] p (job n r))
unfolding locate head
head-job p n r = ap (λ (o : ℕ). Stands.job n o) (ends_number [] p n r)

head-force : (p n : ℕ) (r : Body) → Stands.force n (p + 1 + number_size n) ≡ head (locate [] p (force n r))
unfolding locate head
head-force p n r = ap (λ (o : ℕ). Stands.force n o) (ends_number [] p n r)

head-async : (p s : ℕ) (c r : Body) → s ≡ size c → Stands.async (p + 1) (p + (1 + s)) ≡ head (locate [] p (async c r))
unfolding locate head
head-async p s c r is = ap₂ (λ (i j : ℕ). Stands.async i j) (starts_body [] p c) (ends_body [] p s c r is)

head-finish : (p s : ℕ) (c r : Body) → s ≡ size c → Stands.finish (p + 1) (p + (1 + s)) ≡ head (locate [] p (finish c r))
unfolding locate head
head-finish p s c r is = ap₂ (λ (i j : ℕ). Stands.finish i j) (starts_body [] p c) (ends_body [] p s c r is)

head-future : (p s : ℕ) (c r : Body) → s ≡ size c → Stands.future (p + 1) (p + (1 + s)) ≡ head (locate [] p (future c r))
unfolding locate head
head-future p s c r is = ap₂ (λ (i j : ℕ). Stands.future i j) (starts_body [] p c) (ends_body _ p s c r is)

head-fork :
    (p s t : ℕ) (c d r : Body) → s ≡ size c → t ≡ size d
    → Stands.fork (p + 1) (p + (1 + s)) (p + (1 + s) + t) ≡ head (locate [] p (fork c d r))
unfolding locate head
head-fork p s t c d r is is' =
    ap₂ (λ (i j : ℕ). Stands.fork i j (p + (1 + s) + t)) (starts_body [] p c) (ends_body [] p s c d is)
    ∙ ap (λ (o : ℕ). Stands.fork (start_of (locate [] (suc p) c)) (start_of (locate [] (suc (p + size c)) d)) o)
    (omega (arith, place_locate [] (suc (p + size c + size d)) r))

-- an end byte
pub shows_end : (xs : List ℕ) (p : ℕ) → get_or xs 0 0 ≡ end_byte → Shows xs p Stands.end
unfolding locate head
shows_end xs p is b rest f e = on_end (λ b. Stands.end ≡ head (locate [] p b)) xs b rest e is refl

-- what is told of a job, and of a force
told_job : (x n p : ℕ) → x ≡ job_byte → Stands.job n p ≡ numbered_stands x n p
told_job x n p is = cond_yes _ _ (eq-eqb x job_byte is)

told_force : (x n p : ℕ) → (x ≡ job_byte → ⊥) → Stands.force n p ≡ numbered_stands x n p
told_force x n p other = cond_no _ _ (ne_eqb x job_byte other)

-- a job or a force
pub shows_numbered :
    (xs : List ℕ) (p : ℕ) (s : Stands) → HasNumber (get_or xs 0 0) → ShowsNumbered (numbered_stands (get_or xs 0 0)) xs p s → Shows xs p s
shows_numbered xs p s has shown b rest f e =
    on_number (λ b. s ≡ head (locate [] p b)) xs b rest f e has
    (λ n r is low fr tail.
    shown n (encode r ++ rest) low tail ∙ sym (told_job (get_or xs 0 0) n (p + 1 + number_size n) is) ∙ head-job p n r)
    (λ n r is low fr tail.
    shown n (encode r ++ rest) low tail ∙ sym (told_force (get_or xs 0 0) n (p + 1 + number_size n) (λ j. absurd (omega arith)))
    ∙ head-force p n r)

-- an async
pub shows_async :
    (xs : List ℕ) (p s : ℕ) {past : ℕ} → get_or xs 0 0 ≡ async_byte → Sized (part 1 xs) s → past ≡ p + (1 + s)
    → Shows xs p (Stands.async (p + 1) past)
shows_async xs p s {past} is sized q b rest f e =
    on_one (λ b. Stands.async (p + 1) past ≡ head (locate [] p b)) xs b rest f e
    (omega arith, λ is'. absurd (omega arith), λ is'. absurd (omega arith))
    (λ c r is fc fr tail. rw q (head-async p s c r (sized c (encode r ++ rest) fc (part_is 1 xs ∙ tail))))
    (λ c r is' fc fr tail. absurd (omega arith))
    (λ c r is' fc fr tail. absurd (omega arith))

-- a finish
pub shows_finish :
    (xs : List ℕ) (p s : ℕ) {past : ℕ} → get_or xs 0 0 ≡ finish_byte → Sized (part 1 xs) s → past ≡ p + (1 + s)
    → Shows xs p (Stands.finish (p + 1) past)
shows_finish xs p s {past} is sized q b rest f e =
    on_one (λ b. Stands.finish (p + 1) past ≡ head (locate [] p b)) xs b rest f e
    (omega arith, λ is'. absurd (omega arith), λ is'. absurd (omega arith))
    (λ c r is' fc fr tail. absurd (omega arith))
    (λ c r is fc fr tail. rw q (head-finish p s c r (sized c (encode r ++ rest) fc (part_is 1 xs ∙ tail))))
    (λ c r is' fc fr tail. absurd (omega arith))

-- a future
pub shows_future :
    (xs : List ℕ) (p s : ℕ) {past : ℕ} → get_or xs 0 0 ≡ future_byte → Sized (part 1 xs) s → past ≡ p + (1 + s)
    → Shows xs p (Stands.future (p + 1) past)
shows_future xs p s {past} is sized q b rest f e =
    on_one (λ b. Stands.future (p + 1) past ≡ head (locate [] p b)) xs b rest f e
    (omega arith, λ is'. absurd (omega arith), λ is'. absurd (omega arith))
    (λ c r is' fc fr tail. absurd (omega arith))
    (λ c r is' fc fr tail. absurd (omega arith))
    (λ c r is fc fr tail. rw q (head-future p s c r (sized c (encode r ++ rest) fc (part_is 1 xs ∙ tail))))

-- a fork
pub shows_fork :
    (xs : List ℕ) (p s t : ℕ) {right past : ℕ} → get_or xs 0 0 ≡ fork_byte → Sized (part 1 xs) s → Sized (part (1 + s) xs) t
    → right ≡ p + (1 + s) → past ≡ right + t → Shows xs p (Stands.fork (p + 1) right past)
shows_fork xs p s t {right} {past} is sized sized' q q' b rest f e =
    on_fork (λ b. Stands.fork (p + 1) right past ≡ head (locate [] p b)) xs b rest f e is
    (λ c d r fc fd fr tail.
    let long = sized c (encode d ++ (encode r ++ rest)) fc (part_is 1 xs ∙ tail) in
    let next = past_body xs 1 s c (encode d ++ (encode r ++ rest)) tail long in
    rw (q', q) (head-fork p s t c d r long (sized' d (encode r ++ rest) fd (part_is (1 + s) xs ∙ next))))

-- a number within the limit is read
number_read :
    (xs : List ℕ) (p : ℕ) (seen : Counts) (n : ℕ) (rest : List ℕ) → n ≤ job_limit → xs ≡ encode_number n ++ rest
    → number_progress (p + length xs) seen (number xs) ≡ value n (p + number_size n) seen
unfolding number_progress number_size
number_read xs p seen n rest le e =
    let long : length xs ≡ length (encode_number n) + length rest = ap length e ∙ length-append (encode_number n) rest in
    ap (λ r. number_progress (p + length xs) seen r) (ap number e ∙ number_complete n rest le) ∙ ap (λ (o : ℕ). value n o seen) (omega arith)

-- what has a number that was read, or the refusal of it
abbrev numbered_or : (ℕ → ℕ → Stands) → NumberProgress → Stands
numbered_or said (value n past seen) = said n past
numbered_or said (stopped n place) = Stands.refused n place

-- the job or the force with the number
abbrev Numbered : List ℕ → ℕ → ℕ → Counts → NumberProgress → Type 0
Numbered xs p q seen g = (q ≡ p + 1) × (g ≡ number_progress (q + length (part 1 xs)) seen (number (part 1 xs)))

number_shown :
    (xs : List ℕ) (p q : ℕ) (seen : Counts) (g : NumberProgress) → Numbered xs p q seen g
    → ShowsNumbered (numbered_stands (get_or xs 0 0)) xs p (numbered_or (numbered_stands (get_or xs 0 0)) g)
number_shown xs p q seen g (at, is) n rest le e =
    ap (numbered_or (numbered_stands (get_or xs 0 0))) (is ∙ number_read (part 1 xs) q seen n rest le (part_is 1 xs ∙ e))
    ∙ ap (λ (o : ℕ). numbered_stands (get_or xs 0 0) n (o + number_size n)) at

pub job_shown :
    (xs : List ℕ) (p q : ℕ) (seen : Counts) (n past : ℕ) (after : Counts) → Numbered xs p q seen (value n past after) → get_or xs 0 0 ≡ job_byte
    → ShowsNumbered (numbered_stands (get_or xs 0 0)) xs p (Stands.job n past)
job_shown xs p q seen n past after is first m rest le e =
    told_job (get_or xs 0 0) n past first ∙ number_shown xs p q seen (value n past after) is m rest le e

pub force_shown :
    (xs : List ℕ) (p q : ℕ) (seen : Counts) (n past : ℕ) (after : Counts) → Numbered xs p q seen (value n past after)
    → (get_or xs 0 0 ≡ job_byte → ⊥) → ShowsNumbered (numbered_stands (get_or xs 0 0)) xs p (Stands.force n past)
force_shown xs p q seen n past after is other m rest le e =
    told_force (get_or xs 0 0) n past other ∙ number_shown xs p q seen (value n past after) is m rest le e

pub refusal_shown :
    (xs : List ℕ) (p q : ℕ) (seen : Counts) (n place : ℕ) → Numbered xs p q seen (stopped n place)
    → ShowsNumbered (numbered_stands (get_or xs 0 0)) xs p (Stands.refused n place)
refusal_shown xs p q seen n place is = number_shown xs p q seen (stopped n place) is

-- the reader handed back is at this place, and has seen what was seen before
pub handed : (r : Reader) {p : ℕ} {seen : ItemCounts} → r.place ≡ p → r.seen ≡ seen → some r ≡ some (record { place = p; seen = seen })
handed r e q = λ i. some (record { place = e i; seen = q i })

-- reading a number counts nothing
pub number_seen :
    (len : ℕ) (before : Counts) (x : Read ℕ) (n p : ℕ) (now : Counts) → value n p now ≡ number_progress len before x → now ≡ before
unfolding number_progress
number_seen len before (took m rest) n p now is = cc
number_seen len before (refused m left) n p now is = cc

pub same_seen : (a b : ItemCounts) → item_counts a ≡ item_counts b → a ≡ b
same_seen a b q =
    λ i. record { jobs = (q i).w; asyncs = (q i).a; finishes = (q i).f; forks = (q i).k; futures = (q i).u; forces = (q i).x }
