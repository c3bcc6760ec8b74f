-- Every tree within the limits in which every force has its future is read back from its bytes, and nothing of what stands behind them is read.
use Prim.Native.Nat.{ℕ, suc, ◌+◌, ◌<◌, ◌≤◌}
use mathlib.Core.Path.{◌≡◌, refl, ap, ◌∙◌}
use mathlib.Core.List.{List, ◌∷◌, ◌++◌, append_assoc}
use native.Mathlib.Omega.{arith}
use borrow.Author.Tests.{lt-ltb}
use Rattle.program.specs.Limits.{job_limit, level_limit}
use Rattle.program.specs.Trees.{Body, end, job, async, finish, fork, future, force, Item, a_job, an_async, a_finish, a_fork, a_future}
use Rattle.program.specs.Trees.{a_force, with_first, depth, largest, open_behind, HasFutures}
use Rattle.program.specs.Bytes.{job_byte, async_byte, finish_byte, fork_byte, future_byte, force_byte, encode_number, encode}
use Rattle.program.specs.Reader.{took, and_then, take_if, job_of, force_of, item, body}
use Rattle.program.proofs.NumberLaws.{number_complete}
use Rattle.program.proofs.Soundness.{item_bytes, encode_ahead, FitsAt, ItemFits, limits_fit}
use Rattle.program.proofs.ReaderLaws.{item_first, body_end, body-item, item_job, item_force, OpensOneBody, of_async, of_finish, of_future}
use Rattle.program.proofs.ReaderLaws.{item_one, item_fork}

-- an item's first byte is no end byte
pub item_begins : (level opened : ℕ) (i : Item) (ys : List ℕ)
    → body level opened (item_bytes i ++ ys) ≡ item_first body level opened (item body level opened (item_bytes i ++ ys))
unfolding item_bytes
item_begins level opened (a_job n) ys = body-item level opened job_byte _ (λ e. omega arith)
item_begins level opened (an_async b) ys = body-item level opened async_byte _ (λ e. omega arith)
item_begins level opened (a_finish b) ys = body-item level opened finish_byte _ (λ e. omega arith)
item_begins level opened (a_fork b c) ys = body-item level opened fork_byte _ (λ e. omega arith)
item_begins level opened (a_future b) ys = body-item level opened future_byte _ (λ e. omega arith)
item_begins level opened (a_force n) ys = body-item level opened force_byte _ (λ e. omega arith)

-- an item and the rest of a body
items_back : (level opened : ℕ) (i : Item) (r : Body) (rest : List ℕ)
    → item body level opened (item_bytes i ++ (encode r ++ rest)) ≡ took i (encode r ++ rest)
    → body level (open_behind i opened) (encode r ++ rest) ≡ took r rest
    → body level opened (encode (with_first i r) ++ rest) ≡ took (with_first i r) rest
unfolding and_then
items_back level opened i r rest p q =
    ap (λ (xs : List ℕ). body level opened (xs ++ rest)) (encode_ahead i r)
    ∙ ap (body level opened) (append_assoc (item_bytes i) (encode r) rest)
    ∙ item_begins level opened i (encode r ++ rest)
    ∙ rw (p, q) refl

job_back : (level opened n : ℕ) (rest : List ℕ) → n ≤ job_limit → item body level opened (item_bytes (a_job n) ++ rest) ≡ took (a_job n) rest
unfolding item_bytes and_then job_of
job_back level opened n rest h = item_job level opened (encode_number n ++ rest) ∙ rw (number_complete n rest h) refl

force_back : (level opened n : ℕ) (rest : List ℕ) → n ≤ job_limit → n < opened
    → item body level opened (item_bytes (a_force n) ++ rest) ≡ took (a_force n) rest
unfolding item_bytes and_then take_if force_of
force_back level opened n rest h lt =
    item_force level opened (encode_number n ++ rest) ∙ rw (number_complete n rest h, lt-ltb n opened lt) refl

one_bytes : (x : ℕ) (made : Body → Item) (b : Body) → OpensOneBody x made → item_bytes (made b) ≡ x ∷ encode b
unfolding item_bytes
one_bytes x made b of_async = refl
one_bytes x made b of_finish = refl
one_bytes x made b of_future = refl

one_back : (level opened x : ℕ) (made : Body → Item) (b : Body) (rest : List ℕ) → OpensOneBody x made → level < level_limit
    → body (suc level) opened (encode b ++ rest) ≡ took b rest
    → item body level opened (item_bytes (made b) ++ rest) ≡ took (made b) rest
unfolding and_then
one_back level opened x made b rest one lt h =
    ap (λ (xs : List ℕ). item body level opened (xs ++ rest)) (one_bytes x made b one)
    ∙ item_one level opened x made (encode b ++ rest) one lt
    ∙ rw h refl

fork_back : (level opened : ℕ) (b c : Body) (rest : List ℕ) → level < level_limit
    → body (suc level) opened (encode b ++ (encode c ++ rest)) ≡ took b (encode c ++ rest)
    → body (suc level) opened (encode c ++ rest) ≡ took c rest
    → item body level opened (item_bytes (a_fork b c) ++ rest) ≡ took (a_fork b c) rest
unfolding item_bytes and_then
fork_back level opened b c rest lt p q =
    ap (λ (xs : List ℕ). item body level opened (fork_byte ∷ xs)) (append_assoc (encode b) (encode c) rest)
    ∙ item_fork level opened (encode b ++ (encode c ++ rest)) lt
    ∙ rw (p, q) refl

-- A body that may stand at a level is read back there.
pub body_back : (level opened : ℕ) (b : Body) (rest : List ℕ) → FitsAt level opened b → body level opened (encode b ++ rest) ≡ took b rest
unfolding encode FitsAt with_first open_behind
body_back level opened end rest h = body_end level opened rest
body_back level opened (job n r) rest h =
    items_back level opened (a_job n) r rest (job_back level opened n (encode r ++ rest) h.0) (body_back level opened r rest h.1)
body_back level opened (async b r) rest h =
    items_back level opened (an_async b) r rest
    (one_back level opened async_byte an_async b (encode r ++ rest) of_async h.0 (body_back (suc level) opened b (encode r ++ rest) h.1))
    (body_back level opened r rest h.2)
body_back level opened (finish b r) rest h =
    items_back level opened (a_finish b) r rest
    (one_back level opened finish_byte a_finish b (encode r ++ rest) of_finish h.0 (body_back (suc level) opened b (encode r ++ rest) h.1))
    (body_back level opened r rest h.2)
body_back level opened (fork b c r) rest h =
    items_back level opened (a_fork b c) r rest
    (fork_back level opened b c (encode r ++ rest) h.0 (body_back (suc level) opened b (encode c ++ (encode r ++ rest)) h.1)
    (body_back (suc level) opened c (encode r ++ rest) h.2))
    (body_back level opened r rest h.3)
body_back level opened (future b r) rest h =
    items_back level opened (a_future b) r rest
    (one_back level opened future_byte a_future b (encode r ++ rest) of_future h.0 (body_back (suc level) opened b (encode r ++ rest) h.1))
    (body_back level (suc opened) r rest h.2)
body_back level opened (force n r) rest h =
    items_back level opened (a_force n) r rest (force_back level opened n (encode r ++ rest) h.0 h.1)
    (body_back level opened r rest h.2)

-- A body within the limits from its level on, in which every force has its future, is read back.
pub body_complete : (level opened : ℕ) (b : Body) (rest : List ℕ) → largest b ≤ job_limit → depth b + level ≤ suc level_limit → HasFutures opened b
    → body level opened (encode b ++ rest) ≡ took b rest
body_complete level opened b rest p q f = body_back level opened b rest (limits_fit level opened b p q f)

-- So is an item.
pub item_complete : (level opened : ℕ) (i : Item) (rest : List ℕ) → ItemFits level opened i
    → item body level opened (item_bytes i ++ rest) ≡ took i rest
unfolding ItemFits
item_complete level opened (a_job n) rest h = job_back level opened n rest h
item_complete level opened (an_async b) rest h =
    one_back level opened async_byte an_async b rest of_async h.0 (body_back (suc level) opened b rest h.1)
item_complete level opened (a_finish b) rest h =
    one_back level opened finish_byte a_finish b rest of_finish h.0 (body_back (suc level) opened b rest h.1)
item_complete level opened (a_fork b c) rest h =
    fork_back level opened b c rest h.0 (body_back (suc level) opened b (encode c ++ rest) h.1) (body_back (suc level) opened c rest h.2)
item_complete level opened (a_future b) rest h =
    one_back level opened future_byte a_future b rest of_future h.0 (body_back (suc level) opened b rest h.1)
item_complete level opened (a_force n) rest h = force_back level opened n rest h.0 h.1

-- Where more futures are open than the largest number that a force may have, every force has its future.
pub all_open : (opened : ℕ) (b : Body) → largest b ≤ job_limit → job_limit < opened → HasFutures opened b
unfolding HasFutures largest
all_open opened end h l = tt
all_open opened (job n r) h l = all_open opened r (omega arith) l
all_open opened (async b r) h l = (all_open opened b (omega arith) l, all_open opened r (omega arith) l)
all_open opened (finish b r) h l = (all_open opened b (omega arith) l, all_open opened r (omega arith) l)
all_open opened (fork b c r) h l =
    (all_open opened b (omega arith) l, (all_open opened c (omega arith) l, all_open opened r (omega arith) l))
all_open opened (future b r) h l = (all_open opened b (omega arith) l, all_open (suc opened) r (omega arith) (omega arith))
all_open opened (force n r) h l = (omega arith, all_open opened r (omega arith) l)
