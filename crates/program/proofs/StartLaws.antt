-- Where code starts in a program's bytes:
--     code_bytes     what starts at a place is a body's code, laid out from there, and the body's bytes stand there
--     starts         code starts at each byte of a program outside its numbers, and at none inside a number,
--     starts_within  and nowhere behind the last
--     starts_low     a byte outside the numbers has its top bit clear
-- The bytes are read one by one, as the definition's test does: the state tells whether the next byte stands inside a number.
use Prim.Native.Nat.{ℕ, zero, suc, pred, ◌+◌, ◌-◌, ◌*◌, ◌/◌, ◌%◌, ◌^◌, ◌<◌, ◌≤◌}
use mathlib.Core.Path.{◌≡◌, sym, refl, ◌∙◌, ap, subst}
use mathlib.Core.Bool.{Bool, true, false, not, cond, true≢false}
use mathlib.Core.List.{List, [], ◌∷◌, ◌++◌, append-nil, append_assoc}
use mathlib.Core.Option.{Option, none, some, none-ne-some}
use native.Mathlib.Nat.{le_of_suc-le-suc, lt_of_le_of_lt, pow-suc, add-zero}
use native.Mathlib.Omega.{arith}
use lib.Dec.{eqb, ltb, leb, lit<}
use lib.ListN.{length, get_or, take, drop, length-append}
use lib.Seq.{drop-append_seam, take-suc, take-append-le, take-append-add, get_or-drop}
use borrow.Author.Tests.{eqb-true, eq-eqb, lt-ltb, ltb-true, ltb-false, le-leb, lt-leb}
use Rattle.program.specs.Limits.{number_bytes, job_limit}
use Rattle.program.specs.Trees.{Body, end, job, async, finish, fork, future, force, depth, largest}
use Rattle.program.specs.Bytes.{job_byte, async_byte, finish_byte, fork_byte, future_byte, force_byte, top_bit}
use Rattle.program.specs.Bytes.{group_bytes, encode_number, encode, number_size, size}
use Rattle.program.specs.Located.{Code, locate, located, start_of, last, here, or_else, code_at, is_some}
use Rattle.program.specs.Internal.Progress.{opens_number, in_number}
use Rattle.program.proofs.LocatedLaws.{here_cases, or_else_cases, here_later, or_else-none}
use Rattle.program.proofs.LocatedLaws.{place_locate, last-locate, laid_locate, code_missing}

-- c is the code of a body b', laid out from p on with some futures open, whose bytes stand at p in the bytes of b
pub data Placed (b : Body) (p : ℕ) (c : Code) : Type 0 where
  placed :
      (opened : List Code) (b' : Body) (rest : List ℕ) → c ≡ locate opened p b' → drop p (encode b) ≡ encode b' ++ rest → depth b' ≤ depth b
      → largest b' ≤ largest b → Placed b p c

-- the same in a body b that is laid out from o on
data Sits (o : ℕ) (b : Body) (p : ℕ) (c : Code) : Type 0 where
  sits :
      (opened : List Code) (b' : Body) (before rest : List ℕ) → c ≡ locate opened p b' → encode b ≡ before ++ (encode b' ++ rest)
      → p ≡ o + length before → depth b' ≤ depth b → largest b' ≤ largest b → Sits o b p c

-- a body's own code
sits_here : (opened : List Code) (b : Body) (o p : ℕ) {c : Code} → eqb p o ≡ true → locate opened o b ≡ c → Sits o b p c
sits_here opened b o p t e =
    let q : p ≡ o = eqb-true p o t in
    sits opened b [] [] (sym e ∙ ap (λ (x : ℕ). locate opened x b) (sym q)) (sym (append-nil (encode b)))
    (omega arith) (omega arith) (omega arith)

-- what sits in a body sits in one that holds it
sits_in :
    {o' : ℕ} {d : Body} {p : ℕ} {c : Code} (o : ℕ) (b : Body) (front tail : List ℕ) → encode b ≡ front ++ (encode d ++ tail)
    → o' ≡ o + length front → depth d ≤ depth b → largest d ≤ largest b → Sits o' d p c → Sits o b p c
sits_in o b front tail e q deep large (sits opened b' before rest at is off deep' large') =
    sits opened b' (front ++ before) (rest ++ tail) at (rw (e, is) (simp append_assoc)) (rw (length-append front before) (omega arith))
    (omega arith) (omega arith)

-- what sits in the rest of a body
sits_behind :
    {o' : ℕ} {r : Body} {p : ℕ} {c : Code} (o : ℕ) (b : Body) (front : List ℕ) → encode b ≡ front ++ encode r
    → o' ≡ o + length front → depth r ≤ depth b → largest r ≤ largest b → Sits o' r p c → Sits o b p c
sits_behind {r = r} o b front e = sits_in o b front [] (rw (append-nil (encode r)) e)

-- the body that an item holds, and what is behind the item
sits_one :
    {x y : Option Code} {p : ℕ} {c : Code} (o : ℕ) (i b r : Body) (first : ℕ) → encode i ≡ first ∷ (encode b ++ encode r)
    → (depth b ≤ depth i) × (largest b ≤ largest i) → (depth r ≤ depth i) × (largest r ≤ largest i) → or_else x y ≡ some c
    → (x ≡ some c → Sits (suc o) b p c) → (y ≡ some c → Sits (suc (o + size b)) r p c) → Sits o i p c
unfolding size
sits_one o i b r first is (deep, large) (deep', large') q held behind =
    or_else_cases _ _ q
    (λ q. sits_in o i (first ∷ []) (encode r) is (omega arith) deep large (held q))
    (λ q. sits_behind o i (first ∷ encode b) is (omega arith) deep' large' (behind q))

-- what starts at a place sits there
code_sits : (opened : List Code) (b : Body) (o p : ℕ) {c : Code} → code_at (locate opened o b) p ≡ some c → Sits o b p c
unfolding locate code_at encode depth largest number_size size
code_sits opened end o p h = here_cases (eqb p o) _ none h (sits_here opened end o p) (λ q. absurd (none-ne-some _ q))
code_sits opened (job n r) o p h =
    here_cases (eqb p o) _ _ h (sits_here opened (job n r) o p)
    (λ q. sits_behind o (job n r) (job_byte ∷ encode_number n) refl (omega arith) (omega arith) (omega arith) (code_sits opened r _ p q))
code_sits opened (async b r) o p h =
    here_cases (eqb p o) _ _ h (sits_here opened (async b r) o p)
    (λ q. sits_one o (async b r) b r async_byte refl (omega arith, omega arith) (omega arith, omega arith) q
    (code_sits opened b _ p) (code_sits opened r _ p))
code_sits opened (finish b r) o p h =
    here_cases (eqb p o) _ _ h (sits_here opened (finish b r) o p)
    (λ q. sits_one o (finish b r) b r finish_byte refl (omega arith, omega arith) (omega arith, omega arith) q
    (code_sits opened b _ p) (code_sits opened r _ p))
code_sits opened (fork b c r) o p h =
    here_cases (eqb p o) _ _ h (sits_here opened (fork b c r) o p)
    (λ q. or_else_cases _ _ q
    (λ q. sits_in o (fork b c r) (fork_byte ∷ []) (encode c ++ encode r) refl (omega arith) (omega arith) (omega arith)
    (code_sits opened b _ p q))
    (λ q. or_else_cases _ _ q
    (λ q. sits_in o (fork b c r) (fork_byte ∷ encode b) (encode r) refl (omega arith) (omega arith) (omega arith)
    (code_sits opened c _ p q))
    (λ q. sits_behind o (fork b c r) (fork_byte ∷ (encode b ++ encode c))
    (ap (λ (l : List ℕ). fork_byte ∷ l) (sym (append_assoc (encode b) (encode c) (encode r))))
    (rw (length-append (encode b) (encode c)) (omega arith)) (omega arith) (omega arith) (code_sits opened r _ p q))))
code_sits opened (future b r) o p h =
    here_cases (eqb p o) _ _ h (sits_here opened (future b r) o p)
    (λ q. sits_one o (future b r) b r future_byte refl (omega arith, omega arith) (omega arith, omega arith) q
    (code_sits opened b _ p) (code_sits (locate opened (suc o) b ∷ opened) r _ p))
code_sits opened (force n r) o p h =
    here_cases (eqb p o) _ _ h (sits_here opened (force n r) o p)
    (λ q. sits_behind o (force n r) (force_byte ∷ encode_number n) refl (omega arith) (omega arith) (omega arith) (code_sits opened r _ p q))

-- the same in a program
pub code_bytes : (b : Body) (p : ℕ) (c : Code) → code_at (located b) p ≡ some c → Placed b p c
unfolding located
code_bytes b p c h = go (code_sits [] b 0 p h)
  where
    go : Sits 0 b p c → Placed b p c
    go (sits opened b' before rest at is off deep large) =
        let q : p ≡ length before = omega arith in
        placed opened b' rest at (rw (q, is) (drop-append_seam before (encode b' ++ rest))) deep large

-- nothing starts before a body's bytes, nor behind them
starts_past : (opened : List Code) (b : Body) (o p : ℕ) → o + size b ≤ p → code_at (locate opened o b) p ≡ none
starts_past opened b o p h =
    let ends : suc (last (locate opened o b)) ≡ o + size b = last-locate opened o b in
    code_missing (locate opened o b) p (laid_locate opened o b) (λ u v. absurd (omega arith))

starts_before : (opened : List Code) (b : Body) (o p : ℕ) → p < o → code_at (locate opened o b) p ≡ none
starts_before opened b o p h =
    let starts : start_of (locate opened o b) ≡ o = place_locate opened o b in
    code_missing (locate opened o b) p (laid_locate opened o b) (λ u v. absurd (omega arith))

-- nor in a program behind its last byte
pub starts_within : (b : Body) (p : ℕ) → size b ≤ p → code_at (located b) p ≡ none
unfolding located
starts_within b p h = starts_past [] b 0 p (omega arith)

-- the state behind these bytes, from a state on: inside a number or not
after : Bool → List ℕ → Bool
after s [] = s
after s (x ∷ xs) = after (cond s (leb top_bit x) (opens_number x)) xs

-- it goes on from one list to the next
after_append : (s : Bool) (xs ys : List ℕ) → after s (xs ++ ys) ≡ after (after s xs) ys
unfolding after
after_append s [] ys = refl
after_append s (x ∷ xs) ys = after_append (cond s (leb top_bit x) (opens_number x)) xs ys

-- the definition's test is the state behind the bytes before
in_number-after : (xs : List ℕ) (i : ℕ) → i ≤ length xs → in_number xs i ≡ after false (take i xs)
unfolding in_number after
in_number-after xs zero h = refl
in_number-after xs (suc i) h =
    ap (λ (s : Bool). cond s (leb top_bit (get_or xs i 0)) (opens_number (get_or xs i 0))) (in_number-after xs i (omega arith))
    ∙ sym (after_append false (take i xs) (get_or xs i 0 ∷ []))
    ∙ ap (after false) (sym (take-suc xs i 0 h))

-- the bytes of a number: the top bit is set on every byte but its last
pub data Groups : List ℕ → Type 0 where
  last_group : {x : ℕ} → x < top_bit → Groups (x ∷ [])
  more_groups : {x : ℕ} {xs : List ℕ} → top_bit ≤ x → Groups xs → Groups (x ∷ xs)

-- what is left of a number without its lowest group
higher : (n x : ℕ) → n < x * top_bit → n / top_bit < x
higher n x h = omega arith

-- so are those of a number that its bytes have room for
groups_number : (room n : ℕ) → n < top_bit ^ suc room → Groups (group_bytes (suc room) n)
unfolding group_bytes
groups_number zero n h =
    subst (λ (t : Bool). Groups (cond t (n ∷ []) ((top_bit + n % top_bit) ∷ []))) (sym (lt-ltb n top_bit h)) (last_group h)
groups_number (suc room) n h =
    go (ltb n top_bit) refl
    (groups_number room (n / top_bit) (higher n (top_bit ^ suc room) (subst (λ (x : ℕ). n < x) (pow-suc top_bit (suc room)) h)))
  where
    go :
        (t : Bool) → ltb n top_bit ≡ t → Groups (group_bytes (suc room) (n / top_bit))
        → Groups (cond t (n ∷ []) ((top_bit + n % top_bit) ∷ group_bytes (suc room) (n / top_bit)))
    go true e g = last_group (ltb-true n top_bit e)
    go false e g = more_groups {x = top_bit + n % top_bit} (omega arith) g

-- the one place where the limit on jobs and the bytes of a number meet
pub number_groups : (n : ℕ) → n ≤ job_limit → Groups (encode_number n)
unfolding encode_number
number_groups n h = groups_number (pred number_bytes) n (lt_of_le_of_lt h (lit< {m = job_limit} {n = top_bit ^ number_bytes} tt))

-- before a number's last byte one is inside it
groups_open : {xs : List ℕ} → Groups xs → (i : ℕ) → i < length xs → after true (take i xs) ≡ true
unfolding after
groups_open (last_group h) zero lt = refl
groups_open (last_group h) (suc i) lt = absurd (omega arith)
groups_open (more_groups h g) zero lt = refl
groups_open (more_groups {x} {xs} h g) (suc i) lt =
    ap (λ (s : Bool). after s (take i xs)) (le-leb top_bit x h) ∙ groups_open g i (le_of_suc-le-suc lt)

-- and behind it outside
groups_closed : {xs : List ℕ} → Groups xs → after true xs ≡ false
unfolding after
groups_closed (last_group {x} h) = lt-leb top_bit x h
groups_closed (more_groups {x} {xs} h g) = ap (λ (s : Bool). after s xs) (le-leb top_bit x h) ∙ groups_closed g

-- bytes that lead from outside to outside, one list behind another
closed_two : (xs ys : List ℕ) → after false xs ≡ false → after false ys ≡ false → after false (xs ++ ys) ≡ false
closed_two xs ys p q = after_append false xs ys ∙ ap (λ (s : Bool). after s ys) p ∙ q

-- so do a number's from inside it, with others behind it
closed_number : (n : ℕ) (ys : List ℕ) → n ≤ job_limit → after false ys ≡ false → after true (encode_number n ++ ys) ≡ false
closed_number n ys l q =
    after_append true (encode_number n) ys ∙ ap (λ (s : Bool). after s ys) (groups_closed (number_groups n l)) ∙ q

-- a body's bytes do
body_closed : (b : Body) → largest b ≤ job_limit → after false (encode b) ≡ false
unfolding encode largest after opens_number
body_closed end l = refl
body_closed (job n r) l = closed_number n (encode r) (omega arith) (body_closed r (omega arith))
body_closed (async b r) l = closed_two (encode b) (encode r) (body_closed b (omega arith)) (body_closed r (omega arith))
body_closed (finish b r) l = closed_two (encode b) (encode r) (body_closed b (omega arith)) (body_closed r (omega arith))
body_closed (fork b c r) l =
    closed_two (encode b) (encode c ++ encode r) (body_closed b (omega arith))
    (closed_two (encode c) (encode r) (body_closed c (omega arith)) (body_closed r (omega arith)))
body_closed (future b r) l = closed_two (encode b) (encode r) (body_closed b (omega arith)) (body_closed r (omega arith))
body_closed (force n r) l = closed_number n (encode r) (omega arith) (body_closed r (omega arith))

-- the state at an index of two lists, one behind the other
at_seam :
    (s : Bool) (xs ys : List ℕ) (j : ℕ) {v : Bool} → (j < length xs → after s (take j xs) ≡ v)
    → ((k : ℕ) → j ≡ length xs + k → after (after s xs) (take k ys) ≡ v) → after s (take j (xs ++ ys)) ≡ v
at_seam s xs ys j {v} left right = go (ltb j (length xs)) refl
  where
    go : (t : Bool) → ltb j (length xs) ≡ t → after s (take j (xs ++ ys)) ≡ v
    go true e =
        let lt : j < length xs = ltb-true j (length xs) e in
        ap (after s) (take-append-le j xs ys (omega arith)) ∙ left lt
    go false e =
        let le : length xs ≤ j = ltb-false j (length xs) e in
        let q : j ≡ length xs + (j - length xs) = omega arith in
        ap (λ (i : ℕ). after s (take i (xs ++ ys))) q
        ∙ ap (after s) (take-append-add xs ys (j - length xs))
        ∙ after_append s xs (take (j - length xs) ys)
        ∙ right (j - length xs) q

-- nothing starts there
missing : Option Code → Bool
missing none = true
missing (some c) = false

-- the same by the definition's test
missing-not : (x : Option Code) → not (missing x) ≡ is_some x
unfolding missing is_some
missing-not none = refl
missing-not (some c) = refl

-- code starts at its own place
missing-here : (o p : ℕ) (c : Code) (x : Option Code) → p ≡ o + 0 → false ≡ missing (here (eqb p o) c x)
unfolding missing here
missing-here o p c x q = rw (eq-eqb p o (omega arith)) refl

-- behind that place the others count, and of two, one where the other has nothing
missing_later : (o p : ℕ) (c : Code) (x : Option Code) → o < p → missing x ≡ missing (here (eqb p o) c x)
missing_later o p c x h = ap missing (sym (here_later o p c x h))

missing_left : (x : Option Code) {y : Option Code} → y ≡ none → missing x ≡ missing (or_else x y)
unfolding missing or_else
missing_left none q = sym (ap missing q)
missing_left (some c) q = refl

missing_right : {x : Option Code} (y : Option Code) → x ≡ none → missing y ≡ missing (or_else x y)
missing_right y q = ap missing (sym (or_else-none y q))

-- Inside the numbers of a body, and only there, nothing starts. The body is laid out from o on, with any futures open, and i bytes stand before
-- the place p.
abbrev Starts : Body → Type 0
Starts b =
    (opened : List Code) (o i p : ℕ) → largest b ≤ job_limit → p ≡ o + i → i < size b
    → after false (take i (encode b)) ≡ missing (code_at (locate opened o b) p)

-- a body, and bytes behind it, where y is what starts at p behind the body
starts_then :
    (opened : List Code) (b : Body) → Starts b → (ys : List ℕ) (y : Option Code) (o j p : ℕ) → largest b ≤ job_limit → p ≡ o + j
    → (p < o + size b → y ≡ none) → ((k : ℕ) → j ≡ size b + k → after false (take k ys) ≡ missing y)
    → after false (take j (encode b ++ ys)) ≡ missing (or_else (code_at (locate opened o b) p) y)
unfolding size
starts_then opened b first ys y o j p l q before behind =
    at_seam false (encode b) ys j
    (λ h. first opened o j p l q h ∙ missing_left (code_at (locate opened o b) p) (before (omega arith)))
    (λ k e. ap (λ (s : Bool). after s (take k ys)) (body_closed b l)
    ∙ behind k e
    ∙ missing_right y (starts_past opened b o p (omega arith)))

-- two bodies, one behind the other
starts_two :
    (opened opened' : List Code) (b r : Body) → Starts b → Starts r → (o o' j p : ℕ) → o' ≡ o + size b → largest b ≤ job_limit
    → largest r ≤ job_limit → p ≡ o + j → j < length (encode b ++ encode r)
    → after false (take j (encode b ++ encode r)) ≡ missing (or_else (code_at (locate opened o b) p) (code_at (locate opened' o' r) p))
unfolding size
starts_two opened opened' b r first others o o' j p e l l' q h =
    starts_then opened b first (encode r) (code_at (locate opened' o' r) p) o j p l q (λ lt. starts_before opened' r o' p (omega arith))
    (λ k eq. others opened' o' k p l' (omega arith) (omega (arith, length-append (encode b) (encode r))))

-- a number, and a body behind it
starts_behind :
    (opened : List Code) (n : ℕ) (r : Body) → Starts r → (o j p : ℕ) → n ≤ job_limit → largest r ≤ job_limit → p ≡ o + suc j
    → j < length (encode_number n ++ encode r)
    → after true (take j (encode_number n ++ encode r)) ≡ missing (code_at (locate opened (suc (o + number_size n)) r) p)
unfolding size number_size missing
starts_behind opened n r others o j p l l' q h =
    let number : Groups (encode_number n) = number_groups n l in
    at_seam true (encode_number n) (encode r) j
    (λ lt. groups_open number j lt ∙ sym (ap missing (starts_before opened r (suc (o + number_size n)) p (omega arith))))
    (λ k e. ap (λ (s : Bool). after s (take k (encode r))) (groups_closed number)
    ∙ others opened (suc (o + number_size n)) k p l' (omega arith) (omega (arith, length-append (encode_number n) (encode r))))

-- that holds of every body
starts_are : (b : Body) → Starts b
unfolding encode size number_size largest locate code_at after missing opens_number
starts_are end opened o zero p l q h = missing-here o p _ _ q
starts_are end opened o (suc j) p l q h = absurd (omega arith)
starts_are (job n r) opened o zero p l q h = missing-here o p _ _ q
starts_are (job n r) opened o (suc j) p l q h =
    starts_behind opened n r (starts_are r) o j p (omega arith) (omega arith) q (omega arith) ∙ missing_later o p _ _ (omega arith)
starts_are (async b r) opened o zero p l q h = missing-here o p _ _ q
starts_are (async b r) opened o (suc j) p l q h =
    starts_two opened _ b r (starts_are b) (starts_are r) (suc o) _ j p (omega arith) (omega arith) (omega arith) (omega arith) (omega arith)
    ∙ missing_later o p _ _ (omega arith)
starts_are (finish b r) opened o zero p l q h = missing-here o p _ _ q
starts_are (finish b r) opened o (suc j) p l q h =
    starts_two opened _ b r (starts_are b) (starts_are r) (suc o) _ j p (omega arith) (omega arith) (omega arith) (omega arith) (omega arith)
    ∙ missing_later o p _ _ (omega arith)
starts_are (fork b c r) opened o zero p l q h = missing-here o p _ _ q
starts_are (fork b c r) opened o (suc j) p l q h =
    starts_then opened b (starts_are b) (encode c ++ encode r) _ (suc o) j p (omega arith) (omega arith)
    (λ lt. or_else-none _ (starts_before opened c (suc (o + size b)) p (omega arith))
    ∙ starts_before opened r (suc (o + size b + size c)) p (omega arith))
    (λ k e. starts_two opened opened c r (starts_are c) (starts_are r) (suc (o + size b)) (suc (o + size b + size c)) k p
    (omega arith) (omega arith) (omega arith) (omega arith) (omega (arith, length-append (encode b) (encode c ++ encode r))))
    ∙ missing_later o p _ _ (omega arith)
starts_are (future b r) opened o zero p l q h = missing-here o p _ _ q
starts_are (future b r) opened o (suc j) p l q h =
    starts_two opened _ b r (starts_are b) (starts_are r) (suc o) _ j p (omega arith) (omega arith) (omega arith) (omega arith) (omega arith)
    ∙ missing_later o p _ _ (omega arith)
starts_are (force n r) opened o zero p l q h = missing-here o p _ _ q
starts_are (force n r) opened o (suc j) p l q h =
    starts_behind opened n r (starts_are r) o j p (omega arith) (omega arith) q (omega arith) ∙ missing_later o p _ _ (omega arith)

-- the definition's test, at a place of a program
in_number-missing :
    (b : Body) (p : ℕ) → largest b ≤ job_limit → p < size b → in_number (encode b) p ≡ missing (code_at (located b) p)
unfolding size located
in_number-missing b p l h = in_number-after (encode b) p (omega arith) ∙ starts_are b [] 0 p p l (omega arith) h

-- code starts where the test is false, and nothing where it is true
pub starts :
    (b : Body) (p : ℕ) → largest b ≤ job_limit → p < size b → not (in_number (encode b) p) ≡ is_some (code_at (located b) p)
starts b p l h = ap not (in_number-missing b p l h) ∙ missing-not (code_at (located b) p)

-- a body's first byte has its top bit clear
first_low : (b : Body) (rest : List ℕ) → get_or (encode b ++ rest) 0 0 < top_bit
unfolding encode
first_low end rest = omega arith
first_low (job n r) rest = omega arith
first_low (async b r) rest = omega arith
first_low (finish b r) rest = omega arith
first_low (fork b c r) rest = omega arith
first_low (future b r) rest = omega arith
first_low (force n r) rest = omega arith

-- so has every byte outside the numbers
pub starts_low :
    (b : Body) (p : ℕ) → largest b ≤ job_limit → p < size b → in_number (encode b) p ≡ false → get_or (encode b) p 0 < top_bit
unfolding missing
starts_low b p l h out = go (code_at (located b) p) refl (sym (in_number-missing b p l h) ∙ out)
  where
    low : (c : Code) → Placed b p c → get_or (encode b) p 0 < top_bit
    low c (placed opened b' rest at is deep large) =
        subst (λ (x : ℕ). x < top_bit)
        (sym (ap (λ (l : List ℕ). get_or l 0 0) is) ∙ get_or-drop p (encode b) 0 0 ∙ ap (λ (k : ℕ). get_or (encode b) k 0) (add-zero p))
        (first_low b' rest)

    go : (x : Option Code) → code_at (located b) p ≡ x → missing x ≡ false → get_or (encode b) p 0 < top_bit
    go none e m = absurd (true≢false m)
    go (some c) e m = low c (code_bytes b p c e)
