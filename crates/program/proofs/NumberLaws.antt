-- Reading a number: the groups that are read are the bytes of the number, with any room. The limit on numbers and the room for their
-- bytes meet in two closed computations, `limit_in_room` and `cut_in_limit`.
use Prim.Native.Nat.{ℕ, zero, suc, ◌+◌, ◌-◌, ◌*◌, ◌/◌, ◌%◌, ◌^◌, ◌<◌, ◌≤◌}
use mathlib.Core.Path.{◌≡◌, refl, sym, ap, ap₂, ◌∙◌}
use mathlib.Core.Bool.{Bool, true, false, cond, true≢false, false≢true}
use mathlib.Core.List.{List, [], ◌∷◌, ◌++◌, append_assoc}
use native.Mathlib.Nat.{pow-zero, pow-succ', one-le-pow}
use native.Mathlib.Omega.{arith}
use lib.Dec.{ltb, leb}
use lib.ListN.{length}
use borrow.Author.Tests.{ltb-true, ltb-false, lt-ltb, le-ltb, leb-true, le-leb, lt-leb}
use Rattle.program.specs.Limits.{number_bytes, job_limit}
use Rattle.program.specs.Bytes.{top_bit, group_bytes, encode_number}
use Rattle.refusal.specs.Refusals.{number_malformed, byte_unknown, bytes_run_out, job_too_large}
use Rattle.program.specs.Reader.{Read, took, refused, and_then, take_if, groups, number}
use Rattle.program.specs.Claims.{TopBits, BadNumber, too_long, not_shortest, too_large}
use Rattle.program.proofs.ReadLaws.{Outcome, was_took, was_refused, behind_shorter, guarded}

-- the largest number has room
limit_in_room : job_limit < top_bit ^ number_bytes
limit_in_room = omega arith

-- a number whose last group is 1 is within the limit
cut_in_limit : 2 * top_bit ^ number_bytes ≤ top_bit * suc job_limit
cut_in_limit = omega arith

cut_small : (n : ℕ) → top_bit * suc n ≤ 2 * top_bit ^ number_bytes → n ≤ job_limit
cut_small n h = let c = cut_in_limit in omega arith

-- a number's bytes, one at a time: its only or last group
pub one_byte : (room n : ℕ) → n < top_bit → group_bytes (suc room) n ≡ n ∷ []
unfolding group_bytes
one_byte room n lt = rw (lt-ltb n top_bit lt) refl

-- a group before others
pub more_bytes : (room n : ℕ) → top_bit ≤ n → group_bytes (suc room) n ≡ (top_bit + n % top_bit) ∷ group_bytes room (n / top_bit)
unfolding group_bytes
more_bytes room n le = rw (le-ltb n top_bit le) refl

-- what a group and those above it come to, taken apart again
pub apart : (b high : ℕ) → top_bit ≤ b → b < 2 * top_bit
    → (top_bit + ((b - top_bit) + top_bit * high) % top_bit ≡ b) × (((b - top_bit) + top_bit * high) / top_bit ≡ high)
apart b high le lt = (omega arith, omega arith)

-- reading one byte of a number: its last
pub groups_last : (start : List ℕ) (only : Bool) (room b : ℕ) (left : List ℕ) → b < top_bit
    → groups start only (suc room) (b ∷ left) ≡ take_if (cond only true (ltb 0 b)) number_malformed start (took b left)
unfolding groups
groups_last start only room b left lt = rw (lt-ltb b top_bit lt) refl

-- one before others
pub groups_more : (start : List ℕ) (only : Bool) (room b : ℕ) (left : List ℕ) → top_bit ≤ b → b < 2 * top_bit
    → groups start only (suc room) (b ∷ left)
    ≡ and_then (groups start false room left) (λ high rest. took ((b - top_bit) + top_bit * high) rest)
unfolding groups take_if
groups_more start only room b left le lt = rw (le-ltb b top_bit le, lt-ltb b (2 * top_bit) lt) refl

-- none at all
groups_none : (start : List ℕ) (only : Bool) (room b : ℕ) (left : List ℕ) → 2 * top_bit ≤ b
    → groups start only (suc room) (b ∷ left) ≡ refused byte_unknown (b ∷ left)
unfolding groups take_if
groups_none start only room b left le =
    let h : top_bit ≤ b = omega arith in
    rw (le-ltb b top_bit h, le-ltb b (2 * top_bit) le) refl

-- Why the groups of a number are refused, from these bytes on and with so much room: the bytes run out; there stands what is no byte; the
-- room is used up; or the last group is 0, and not the only one.
pub data Halt (start : List ℕ) (only : Bool) (room : ℕ) (xs : List ℕ) : ℕ → List ℕ → Type 0 where
  cut : length xs < room → TopBits xs → Halt start only room xs bytes_run_out []
  no_byte :
      (before : List ℕ) (x : ℕ) (rest : List ℕ) → length before < room → TopBits before → 2 * top_bit ≤ x → xs ≡ before ++ (x ∷ rest)
      → Halt start only room xs byte_unknown (x ∷ rest)
  long :
      (high rest : List ℕ) → length high ≡ room → TopBits high → xs ≡ high ++ rest → Halt start only room xs number_malformed start
  padded :
      (high rest : List ℕ) → (only ≡ true → 0 < length high) → TopBits high → xs ≡ high ++ (0 ∷ rest)
      → Halt start only room xs number_malformed start

-- What reading a number's groups comes to. A number that was taken has room, and is not 0 unless its group is the only one.
pub data Grouped (start : List ℕ) (only : Bool) (room : ℕ) (xs : List ℕ) : Read ℕ → Type 0 where
  grouped :
      {n : ℕ} {rest : List ℕ} → n < top_bit ^ room → (only ≡ false → 0 < n) → xs ≡ group_bytes room n ++ rest
      → Grouped start only room xs (took n rest)
  halted : {k : ℕ} {left : List ℕ} → Halt start only room xs k left → Grouped start only room xs (refused k left)

-- no bytes, and one more with its top bit set
top_nil : TopBits []
top_nil i lt = absurd (omega arith)

top_cons : (b : ℕ) (high : List ℕ) → top_bit ≤ b → b < 2 * top_bit → TopBits high → TopBits (b ∷ high)
top_cons b high le l h zero lt = (le, l)
top_cons b high le l h (suc i) lt = h i (omega arith)

-- a group before those of a number that is not 0
grow : (room b n : ℕ) → top_bit ≤ b → b < 2 * top_bit → 0 < n → group_bytes (suc room) ((b - top_bit) + top_bit * n) ≡ b ∷ group_bytes room n
grow room b n le lt p =
    let h : top_bit ≤ (b - top_bit) + top_bit * n = omega arith in
    let (low, high) = apart b n le lt in
    more_bytes room ((b - top_bit) + top_bit * n) h ∙ ap₂ (λ (d r : ℕ). d ∷ group_bytes room r) low high

-- it has room for one byte more
grow_room : (room b n : ℕ) → b < 2 * top_bit → n < top_bit ^ room → (b - top_bit) + top_bit * n < top_bit ^ suc room
grow_room room b n lt h = rw (pow-succ' top_bit room) (omega arith)

-- and where the largest group was 1, it still is
grow_cut : (room b n : ℕ) → b < 2 * top_bit → top_bit * suc n ≤ 2 * top_bit ^ room
    → top_bit * suc ((b - top_bit) + top_bit * n) ≤ 2 * top_bit ^ suc room
grow_cut room b n lt h = rw (pow-succ' top_bit room) (omega arith)

-- a refusal behind a byte
again : (start : List ℕ) (only : Bool) (room b : ℕ) (ys : List ℕ) (k : ℕ) (left : List ℕ) → top_bit ≤ b → b < 2 * top_bit
    → groups start false room ys ≡ refused k left → groups start only (suc room) (b ∷ ys) ≡ refused k left
unfolding and_then
again start only room b ys k left le lt e = groups_more start only room b ys le lt ∙ rw e refl

-- Bytes with their top bit set that leave room run out,
groups_cut : (start : List ℕ) (only : Bool) (room : ℕ) (high : List ℕ) → length high < room → TopBits high
    → groups start only room high ≡ refused bytes_run_out []
unfolding groups
groups_cut start only zero high l t = absurd (omega arith)
groups_cut start only (suc room) [] l t = refl
groups_cut start only (suc room) (b ∷ high) l t =
    let (le, lt) = t 0 (omega arith) in
    again start only room b _ _ _ le lt (groups_cut start false room high (omega arith) (λ i h. t (suc i) (omega arith)))

-- what is no byte is refused behind such bytes,
groups_no_byte : (start : List ℕ) (only : Bool) (room : ℕ) (high : List ℕ) (x : ℕ) (zs : List ℕ) → length high < room → TopBits high
    → 2 * top_bit ≤ x → groups start only room (high ++ (x ∷ zs)) ≡ refused byte_unknown (x ∷ zs)
groups_no_byte start only zero high x zs l t ge = absurd (omega arith)
groups_no_byte start only (suc room) [] x zs l t ge = groups_none start only room x zs ge
groups_no_byte start only (suc room) (b ∷ high) x zs l t ge =
    let (le, lt) = t 0 (omega arith) in
    again start only room b _ _ _ le lt (groups_no_byte start false room high x zs (omega arith) (λ i h. t (suc i) (omega arith)) ge)

-- such bytes that use up the room are refused whatever stands behind them,
groups_long : (start : List ℕ) (only : Bool) (room : ℕ) (high zs : List ℕ) → length high ≡ room → TopBits high
    → groups start only room (high ++ zs) ≡ refused number_malformed start
unfolding groups
groups_long start only zero high zs e t = refl
groups_long start only (suc room) [] zs e t = absurd (omega arith)
groups_long start only (suc room) (b ∷ high) zs e t =
    let (le, lt) = t 0 (omega arith) in
    again start only room b _ _ _ le lt (groups_long start false room high zs (omega arith) (λ i h. t (suc i) (omega arith)))

-- and so are such bytes before a last group 0
groups_padded : (start : List ℕ) (only : Bool) (room : ℕ) (high zs : List ℕ) → (only ≡ true → 0 < length high) → TopBits high
    → groups start only room (high ++ (0 ∷ zs)) ≡ refused number_malformed start
unfolding groups take_if
groups_padded start only zero high zs o t = refl
groups_padded start true (suc room) [] zs o t = absurd (let h = o refl in omega arith)
groups_padded start false (suc room) [] zs o t = refl
groups_padded start only (suc room) (b ∷ high) zs o t =
    let (le, lt) = t 0 (omega arith) in
    again start only room b _ _ _ le lt
    (groups_padded start false room high zs (λ e. absurd (false≢true e)) (λ i h. t (suc i) (omega arith)))

-- a byte before others, from what the others come to
step : (start : List ℕ) (only : Bool) (room b : ℕ) (left : List ℕ) → top_bit ≤ b → b < 2 * top_bit → (o : Read ℕ)
    → Grouped start false room left o
    → Grouped start only (suc room) (b ∷ left) (and_then o (λ high rest. took ((b - top_bit) + top_bit * high) rest))
unfolding and_then
step start only room b left le lt (took n rest) (grouped bound positive e) =
    let p : 0 < n = positive refl in
    grouped (grow_room room b n lt bound) (λ _. omega arith)
    (ap (λ (r : List ℕ). b ∷ r) e ∙ ap (λ (r : List ℕ). r ++ rest) (sym (grow room b n le lt p)))
step start only room b left le lt (refused k l) (halted (cut h t)) = halted (cut (omega arith) (top_cons b left le lt t))
step start only room b left le lt (refused k l) (halted (no_byte before x rest h t ge e)) =
    halted (no_byte (b ∷ before) x rest (omega arith) (top_cons b before le lt t) ge (ap (λ (r : List ℕ). b ∷ r) e))
step start only room b left le lt (refused k l) (halted (long high rest e t f)) =
    halted (long (b ∷ high) rest (ap suc e) (top_cons b high le lt t) (ap (λ (r : List ℕ). b ∷ r) f))
step start only room b left le lt (refused k l) (halted (padded high rest o t f)) =
    halted (padded (b ∷ high) rest (λ _. omega arith) (top_cons b high le lt t) (ap (λ (r : List ℕ). b ∷ r) f))

-- one group has room
in_room : (room b : ℕ) → b < top_bit → b < top_bit ^ suc room
in_room room b lt = rw (pow-succ' top_bit room) (omega (arith, one-le-pow room top_bit (omega arith)))

-- a group 1 where the bytes run out at once
first_cut : (room : ℕ) → top_bit * 2 ≤ 2 * top_bit ^ suc room
first_cut room = rw (pow-succ' top_bit room) (omega (arith, one-le-pow room top_bit (omega arith)))

-- Bytes with their top bit set that leave room are completed by a group 1.
completed : (room : ℕ) (high : List ℕ) → length high < room → TopBits high
    → (n : ℕ) × (0 < n) × (top_bit * suc n ≤ 2 * top_bit ^ room) × (group_bytes room n ≡ high ++ (1 ∷ []))
completed zero high l t = absurd (omega arith)
completed (suc room) [] l t = (1, omega arith, first_cut room, one_byte room 1 (omega arith))
completed (suc room) (b ∷ high) l t =
    let (le, lt) = t 0 (omega arith) in
    let (n, p, q, e) = completed room high (omega arith) (λ i h. t (suc i) (omega arith)) in (
      (b - top_bit) + top_bit * n,
      omega arith,
      grow_cut room b n lt q,
      grow room b n le lt p ∙ ap (λ (r : List ℕ). b ∷ r) e,
    )

-- a last byte
ends : (start : List ℕ) (only : Bool) (room b : ℕ) (left : List ℕ) → b < top_bit
    → Grouped start only (suc room) (b ∷ left) (take_if (cond only true (ltb 0 b)) number_malformed start (took b left))
unfolding take_if
ends start true room b left lt =
    grouped (in_room room b lt) (λ e. absurd (true≢false e)) (ap (λ (r : List ℕ). r ++ left) (sym (one_byte room b lt)))
ends start false room b left lt = go (ltb 0 b) refl
  where
    go : (t : Bool) → ltb 0 b ≡ t → Grouped start false (suc room) (b ∷ left) (take_if t number_malformed start (took b left))
    go true h =
        grouped (in_room room b lt) (λ _. ltb-true 0 b h) (ap (λ (r : List ℕ). r ++ left) (sym (one_byte room b lt)))
    go false h =
        let z : b ≡ 0 = (let l = ltb-false 0 b h in omega arith) in
        halted (padded [] left (λ e. absurd (false≢true e)) top_nil (ap (λ (d : ℕ). d ∷ left) z))

-- a byte, from what those behind it come to
byte : (start : List ℕ) (only : Bool) (room b : ℕ) (left : List ℕ) → Grouped start false room left (groups start false room left)
    → Grouped start only (suc room) (b ∷ left) (groups start only (suc room) (b ∷ left))
byte start only room b left h = first (ltb b top_bit) refl
  where
    second : top_bit ≤ b → (t : Bool) → ltb b (2 * top_bit) ≡ t
        → Grouped start only (suc room) (b ∷ left) (groups start only (suc room) (b ∷ left))
    second le true p =
        let lt = ltb-true b (2 * top_bit) p in
        rw (groups_more start only room b left le lt) (step start only room b left le lt _ h)
    second le false p =
        let ge = ltb-false b (2 * top_bit) p in
        rw (groups_none start only room b left ge) (halted (no_byte [] b left (omega arith) top_nil ge refl))

    first : (t : Bool) → ltb b top_bit ≡ t → Grouped start only (suc room) (b ∷ left) (groups start only (suc room) (b ∷ left))
    first true p = let lt = ltb-true b top_bit p in rw (groups_last start only room b left lt) (ends start only room b left lt)
    first false p = second (ltb-false b top_bit p) (ltb b (2 * top_bit)) refl

-- What reading a number's groups comes to, whatever the room.
pub groups_are : (start : List ℕ) (only : Bool) (room : ℕ) (xs : List ℕ) → Grouped start only room xs (groups start only room xs)
unfolding groups
groups_are start only zero xs = halted (long [] xs refl top_nil refl)
groups_are start only (suc room) [] = halted (cut (omega arith) top_nil)
groups_are start only (suc room) (b ∷ left) = byte start only room b left (groups_are start false room left)

-- a last group that may stand is taken
last_back : (start : List ℕ) (only : Bool) (room b : ℕ) (left : List ℕ) → b < top_bit → cond only true (ltb 0 b) ≡ true
    → groups start only (suc room) (b ∷ left) ≡ took b left
unfolding take_if
last_back start only room b left lt e = groups_last start only room b left lt ∙ rw e refl

-- a group and those above it are put together
more_back : (start : List ℕ) (only : Bool) (room n : ℕ) (ys rest : List ℕ) → groups start false room ys ≡ took (n / top_bit) rest
    → groups start only (suc room) ((top_bit + n % top_bit) ∷ ys) ≡ took n rest
unfolding and_then
more_back start only room n ys rest e =
    let le : top_bit ≤ top_bit + n % top_bit = omega arith in
    let lt : top_bit + n % top_bit < 2 * top_bit = omega arith in
    let whole : (top_bit + n % top_bit - top_bit) + top_bit * (n / top_bit) ≡ n = omega arith in
    groups_more start only room (top_bit + n % top_bit) ys le lt ∙ rw e (ap (λ (m : ℕ). took m rest) whole)

-- a last group that is not 0 may stand
only_positive : (only : Bool) (n : ℕ) → 0 < n → cond only true (ltb 0 n) ≡ true
only_positive true n p = refl
only_positive false n p = lt-ltb 0 n p

-- the bytes of a number that is not 0 and has room are read back
groups_back : (start : List ℕ) (only : Bool) (room n : ℕ) (rest : List ℕ) → 0 < n → n < top_bit ^ room
    → groups start only room (group_bytes room n ++ rest) ≡ took n rest
groups_back start only zero n rest p h = absurd (let e = pow-zero top_bit in omega arith)
groups_back start only (suc room) n rest p h = go (ltb n top_bit) refl (groups_back start false room (n / top_bit) rest)
  where
    go : (t : Bool) → ltb n top_bit ≡ t
        → (0 < n / top_bit → n / top_bit < top_bit ^ room
        → groups start false room (group_bytes room (n / top_bit) ++ rest) ≡ took (n / top_bit) rest)
        → groups start only (suc room) (group_bytes (suc room) n ++ rest) ≡ took n rest
    go true q back =
        let lt = ltb-true n top_bit q in
        rw (one_byte room n lt) (last_back start only room n rest lt (only_positive only n p))
    go false q back =
        let le = ltb-false n top_bit q in
        let e = pow-succ' top_bit room in
        rw (more_bytes room n le) (more_back start only room n _ rest (back (omega arith) (omega arith)))

-- and so are those of 0
zero_back : (start : List ℕ) (room : ℕ) (rest : List ℕ) → groups start true (suc room) (group_bytes (suc room) 0 ++ rest) ≡ took 0 rest
zero_back start room rest = rw (one_byte room 0 (omega arith)) (last_back start true room 0 rest (omega arith) refl)

-- the bytes of a number that has room are read back
encoded_back : (start : List ℕ) (n : ℕ) (rest : List ℕ) → n < top_bit ^ number_bytes
    → groups start true number_bytes (encode_number n ++ rest) ≡ took n rest
unfolding encode_number
encoded_back start zero rest h = zero_back start _ rest
encoded_back start (suc n) rest h = groups_back start true number_bytes (suc n) rest (omega arith) h

-- a number within the limit
abbrev pub Small : ℕ → Type 0
Small n = n ≤ job_limit

-- a refusal's place is in the bytes
halt_left : (only : Bool) (room : ℕ) (xs : List ℕ) {k : ℕ} {left : List ℕ} → Halt xs only room xs k left → length left ≤ length xs
halt_left only room xs (cut l t) = omega arith
halt_left only room xs (no_byte before x rest l t ge e) = behind_shorter before xs (x ∷ rest) e
halt_left only room xs (long high rest e t f) = omega arith
halt_left only room xs (padded high rest o t f) = omega arith

-- what the groups come to, held against the limit
within_limit : (xs : List ℕ) (o : Read ℕ) → Grouped xs true number_bytes xs o
    → Outcome encode_number Small xs (and_then o (λ n rest. take_if (leb n job_limit) job_too_large xs (took n rest)))
unfolding and_then encode_number
within_limit xs (took n rest) (grouped h p e) =
    guarded (leb n job_limit) job_too_large xs (took n rest) (λ q. was_took e (leb-true n job_limit q))
within_limit xs (refused k left) (halted h) = was_refused (halt_left true number_bytes xs h)

-- What reading a number comes to.
pub number_outcome : (xs : List ℕ) → Outcome encode_number Small xs (number xs)
unfolding number
number_outcome xs = within_limit xs (groups xs true number_bytes xs) (groups_are xs true number_bytes xs)

-- A number within the limit is read back from its bytes.
pub number_complete : (n : ℕ) (rest : List ℕ) → n ≤ job_limit → number (encode_number n ++ rest) ≡ took n rest
unfolding number and_then take_if
number_complete n rest h =
    let room : n < top_bit ^ number_bytes = (let l = limit_in_room in omega arith) in
    rw (encoded_back (encode_number n ++ rest) n rest room, le-leb n job_limit h) refl

-- A number whose groups are refused is.
number-refused : (xs : List ℕ) (k : ℕ) (left : List ℕ) → groups xs true number_bytes xs ≡ refused k left → number xs ≡ refused k left
unfolding number and_then
number-refused xs k left e = rw e refl

-- Fewer bytes than a number may have, all with their top bit set, are completed by one more,
pub number_completed : (high : List ℕ) → length high < number_bytes → TopBits high
    → (n : ℕ) × Small n × (encode_number n ≡ high ++ (1 ∷ []))
unfolding encode_number
number_completed high l t = let (n, p, q, e) = completed number_bytes high l t in (n, cut_small n q, e)

-- without it they run out,
pub number_cut : (high : List ℕ) → length high < number_bytes → TopBits high → number high ≡ refused bytes_run_out []
number_cut high l t = number-refused high _ _ (groups_cut high true number_bytes high l t)

-- and what is no byte is refused behind them.
pub number_no_byte : (high : List ℕ) (x : ℕ) (zs : List ℕ) → length high < number_bytes → TopBits high → 2 * top_bit ≤ x
    → number (high ++ (x ∷ zs)) ≡ refused byte_unknown (x ∷ zs)
number_no_byte high x zs l t ge = number-refused (high ++ (x ∷ zs)) _ _ (groups_no_byte _ true number_bytes high x zs l t ge)

-- A number that offends is refused, whatever stands behind it.
pub number_bad : (n : ℕ) (bad zs : List ℕ) → BadNumber n bad → number (bad ++ zs) ≡ refused n (bad ++ zs)
unfolding number and_then take_if
number_bad n bad zs (too_long number e t) = number-refused (number ++ zs) _ _ (groups_long _ true number_bytes number zs e t)
number_bad n bad zs (not_shortest b high t) =
    number-refused (b ∷ ((high ++ (0 ∷ [])) ++ zs)) _ _
    (ap (λ (l : List ℕ). groups (b ∷ ((high ++ (0 ∷ [])) ++ zs)) true number_bytes (b ∷ l)) (append_assoc high (0 ∷ []) zs)
    ∙ groups_padded _ true number_bytes (b ∷ high) zs (λ _. omega arith) t)
number_bad n bad zs (too_large m l r) = rw (encoded_back (encode_number m ++ zs) m zs r, lt-leb m job_limit l) refl
