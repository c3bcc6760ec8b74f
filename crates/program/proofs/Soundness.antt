-- What is read stands in the bytes: a body that the reader takes is the one whose bytes stand there, and it fits.
use Prim.Native.Nat.{ℕ, zero, suc, ◌+◌, ◌<◌, ◌≤◌}
use mathlib.Core.Path.{◌≡◌, refl, sym, ap, ◌∙◌}
use mathlib.Core.Bool.{Bool, true, false, cond}
use mathlib.Core.List.{List, [], ◌∷◌, ◌++◌, append_assoc}
use mathlib.Core.Option.{none, some}
use native.Mathlib.Omega.{arith}
use lib.Dec.{eqb, ltb}
use lib.ListN.{length, length-append}
use borrow.Author.Tests.{eqb-true, ltb-true}
use Rattle.program.specs.Limits.{job_limit, level_limit}
use Rattle.program.specs.Trees.{forks, Body, end, job, async, finish, fork, future, force, Item, a_job, an_async, a_finish}
use Rattle.program.specs.Trees.{a_fork, a_future, a_force, with_first, depth, largest, open_behind, HasFutures}
use Rattle.program.specs.Bytes.{end_byte, job_byte, async_byte, finish_byte, fork_byte, future_byte, force_byte, encode_number, encode}
use Rattle.refusal.specs.Refusals.{byte_unknown, level_too_deep, bytes_run_out, no_such_future}
use Rattle.program.specs.Reader.{Read, took, and_then, kind_of, deeper, number, job_of, force_of, item_of, item, body_of, body}
use Rattle.program.specs.Claims.{FitsFrom}
use Rattle.program.proofs.ReadLaws.{Outcome, was_took, refused_here, refused_end, took_bytes, took_fits, go_on, guarded, guarded_at}
use Rattle.program.proofs.NumberLaws.{number_outcome}

-- the bytes of an item
unfoldable pub item_bytes : Item → List ℕ
item_bytes (a_job n) = job_byte ∷ encode_number n
item_bytes (an_async b) = async_byte ∷ encode b
item_bytes (a_finish b) = finish_byte ∷ encode b
item_bytes (a_fork b c) = fork_byte ∷ (encode b ++ encode c)
item_bytes (a_future b) = future_byte ∷ encode b
item_bytes (a_force n) = force_byte ∷ encode_number n

-- an item has a byte at least
pub item_bytes_lem : (i : Item) → 0 < length (item_bytes i)
unfolding item_bytes
item_bytes_lem (a_job n) = omega arith
item_bytes_lem (an_async b) = omega arith
item_bytes_lem (a_finish b) = omega arith
item_bytes_lem (a_fork b c) = omega arith
item_bytes_lem (a_future b) = omega arith
item_bytes_lem (a_force n) = omega arith

-- a body's bytes are its first item's and those of the rest
pub encode_ahead : (i : Item) (r : Body) → encode (with_first i r) ≡ item_bytes i ++ encode r
unfolding encode with_first item_bytes
encode_ahead (a_job n) r = refl
encode_ahead (an_async b) r = refl
encode_ahead (a_finish b) r = refl
encode_ahead (a_fork b c) r = ap (λ (xs : List ℕ). fork_byte ∷ xs) (sym (append_assoc (encode b) (encode c) (encode r)))
encode_ahead (a_future b) r = refl
encode_ahead (a_force n) r = refl

-- A body that may stand at a level where so many futures are open: no number is above the limit, no body below it is too deep, and every force
-- has its future.
unfoldable pub FitsAt : ℕ → ℕ → Body → Type 0
FitsAt level opened end = Unit {0}
FitsAt level opened (job n r) = (n ≤ job_limit) × FitsAt level opened r
FitsAt level opened (async b r) = (level < level_limit) × FitsAt (suc level) opened b × FitsAt level opened r
FitsAt level opened (finish b r) = (level < level_limit) × FitsAt (suc level) opened b × FitsAt level opened r
FitsAt level opened (fork b c r) = (level < level_limit) × FitsAt (suc level) opened b × FitsAt (suc level) opened c × FitsAt level opened r
FitsAt level opened (future b r) = (level < level_limit) × FitsAt (suc level) opened b × FitsAt level (suc opened) r
FitsAt level opened (force n r) = (n ≤ job_limit) × (n < opened) × FitsAt level opened r

-- an item that may stand in a body at a level where so many futures are open
unfoldable pub ItemFits : ℕ → ℕ → Item → Type 0
ItemFits level opened (a_job n) = n ≤ job_limit
ItemFits level opened (an_async b) = (level < level_limit) × FitsAt (suc level) opened b
ItemFits level opened (a_finish b) = (level < level_limit) × FitsAt (suc level) opened b
ItemFits level opened (a_fork b c) = (level < level_limit) × FitsAt (suc level) opened b × FitsAt (suc level) opened c
ItemFits level opened (a_future b) = (level < level_limit) × FitsAt (suc level) opened b
ItemFits level opened (a_force n) = (n ≤ job_limit) × (n < opened)

-- an item that fits, before the rest of a body that fits
pub fits_ahead : (level opened : ℕ) (i : Item) (r : Body) → ItemFits level opened i → FitsAt level (open_behind i opened) r
    → FitsAt level opened (with_first i r)
unfolding FitsAt ItemFits with_first open_behind
fits_ahead level opened (a_job n) r h k = (h, k)
fits_ahead level opened (an_async b) r h k = (h.0, h.1, k)
fits_ahead level opened (a_finish b) r h k = (h.0, h.1, k)
fits_ahead level opened (a_fork b c) r h k = (h.0, h.1, h.2, k)
fits_ahead level opened (a_future b) r h k = (h.0, h.1, k)
fits_ahead level opened (a_force n) r h k = (h.0, h.1, k)

-- a body's own level counts
pub depth_positive : (b : Body) → 0 < depth b
unfolding depth
depth_positive end = omega arith
depth_positive (job n r) = depth_positive r
depth_positive (async b r) = let h = depth_positive r in omega arith
depth_positive (finish b r) = let h = depth_positive r in omega arith
depth_positive (fork b c r) = let h = depth_positive r in omega arith
depth_positive (future b r) = let h = depth_positive r in omega arith
depth_positive (force n r) = depth_positive r

-- a body that may stand at a level is within the limits from there on, and every force has its future
pub fits_limits : (level opened : ℕ) (b : Body) → FitsAt level opened b → level ≤ level_limit → FitsFrom level opened b
unfolding FitsAt HasFutures largest depth
fits_limits level opened end h l = (omega arith, omega arith, tt)
fits_limits level opened (job n r) h l = let (p, q, f) = fits_limits level opened r h.1 l in (omega arith, omega arith, f)
fits_limits level opened (async b r) h l =
    let lt = h.0 in
    let (p, q, f) = fits_limits (suc level) opened b h.1 lt in
    let (s, t, g) = fits_limits level opened r h.2 l in
    (omega arith, omega arith, (f, g))
fits_limits level opened (finish b r) h l =
    let lt = h.0 in
    let (p, q, f) = fits_limits (suc level) opened b h.1 lt in
    let (s, t, g) = fits_limits level opened r h.2 l in
    (omega arith, omega arith, (f, g))
fits_limits level opened (fork b c r) h l =
    let lt = h.0 in
    let (p, q, f) = fits_limits (suc level) opened b h.1 lt in
    let (u, v, e) = fits_limits (suc level) opened c h.2 lt in
    let (s, t, g) = fits_limits level opened r h.3 l in
    (omega arith, omega arith, (f, (e, g)))
fits_limits level opened (future b r) h l =
    let lt = h.0 in
    let (p, q, f) = fits_limits (suc level) opened b h.1 lt in
    let (s, t, g) = fits_limits level (suc opened) r h.2 l in
    (omega arith, omega arith, (f, g))
fits_limits level opened (force n r) h l =
    let (p, q, f) = fits_limits level opened r h.2 l in (omega arith, omega arith, (h.1, f))

-- and the other way round
pub limits_fit : (level opened : ℕ) (b : Body) → largest b ≤ job_limit → depth b + level ≤ suc level_limit → HasFutures opened b
    → FitsAt level opened b
unfolding FitsAt HasFutures largest depth
limits_fit level opened end h l f = tt
limits_fit level opened (job n r) h l f = (omega arith, limits_fit level opened r (omega arith) l f)
limits_fit level opened (async b r) h l f = (
  let d = depth_positive b in omega arith,
  limits_fit (suc level) opened b (omega arith) (omega arith) f.0,
  limits_fit level opened r (omega arith) (omega arith) f.1,
)
limits_fit level opened (finish b r) h l f = (
  let d = depth_positive b in omega arith,
  limits_fit (suc level) opened b (omega arith) (omega arith) f.0,
  limits_fit level opened r (omega arith) (omega arith) f.1,
)
limits_fit level opened (fork b c r) h l f = (
  let d = depth_positive b in omega arith,
  limits_fit (suc level) opened b (omega arith) (omega arith) f.0,
  limits_fit (suc level) opened c (omega arith) (omega arith) f.1.0,
  limits_fit level opened r (omega arith) (omega arith) f.1.1,
)
limits_fit level opened (future b r) h l f = (
  let d = depth_positive b in omega arith,
  limits_fit (suc level) opened b (omega arith) (omega arith) f.0,
  limits_fit level (suc opened) r (omega arith) (omega arith) f.1,
)
limits_fit level opened (force n r) h l f = (omega arith, f.0, limits_fit level opened r (omega arith) l f.1)

-- A reader of bodies, of which this is known at every level, for any number of open futures and for all bytes.
abbrev pub Sound : (ℕ → ℕ → List ℕ → Read Body) → Type 0
Sound read_body = (level opened : ℕ) (xs : List ℕ) → Outcome encode (FitsAt level opened) xs (read_body level opened xs)

-- a job
job_outcome : (level opened : ℕ) (left : List ℕ) → Outcome item_bytes (ItemFits level opened) (job_byte ∷ left) (job_of left)
unfolding job_of item_bytes ItemFits
job_outcome level opened left =
    go_on (job_byte ∷ []) refl (number left) _ (number_outcome left)
    (λ n rest e h. was_took (ap (λ (r : List ℕ). job_byte ∷ r) e) h)

-- a force
force_outcome : (level opened : ℕ) (left : List ℕ) → Outcome item_bytes (ItemFits level opened) (force_byte ∷ left) (force_of opened left)
unfolding force_of item_bytes ItemFits
force_outcome level opened left =
    go_on (force_byte ∷ []) refl (number left) _ (number_outcome left)
    (λ n rest e h. guarded_at (ltb n opened) no_such_future (force_byte ∷ left) left _ (omega arith)
    (λ t. was_took (ap (λ (r : List ℕ). force_byte ∷ r) e) (h, ltb-true n opened t)))

-- an item that holds one body: an async, a finish or a future
one_outcome : (read_body : ℕ → ℕ → List ℕ → Read Body) → Sound read_body → (level opened x : ℕ) (made : Body → Item)
    → ((b : Body) → item_bytes (made b) ≡ x ∷ encode b)
    → ((b : Body) → level < level_limit → FitsAt (suc level) opened b → ItemFits level opened (made b)) → (left : List ℕ)
    → Outcome item_bytes (ItemFits level opened) (x ∷ left)
    (deeper level (x ∷ left) (and_then (read_body (suc level) opened left) (λ b rest. took (made b) rest)))
unfolding deeper
one_outcome read_body sound level opened x made p q left =
    guarded (ltb level level_limit) level_too_deep (x ∷ left) _
    (λ t. go_on (x ∷ []) refl (read_body (suc level) opened left) _ (sound (suc level) opened left)
    (λ b rest e h. was_took
    (ap (λ (r : List ℕ). x ∷ r) e ∙ ap (λ (r : List ℕ). r ++ rest) (sym (p b)))
    (q b (ltb-true level level_limit t) h)))

-- two bodies in a row
two_bytes : (x : ℕ) (xs ys rest zs rest' : List ℕ) → xs ≡ ys ++ rest → rest ≡ zs ++ rest'
    → ◌≡◌ {A = List ℕ} (x ∷ xs) (x ∷ (ys ++ zs) ++ rest')
two_bytes x xs ys rest zs rest' p q = ap (λ (r : List ℕ). x ∷ r) (p ∙ ap (λ (r : List ℕ). ys ++ r) q ∙ sym (append_assoc ys zs rest'))

-- a fork
fork_outcome : (read_body : ℕ → ℕ → List ℕ → Read Body) → Sound read_body → (level opened : ℕ) (left : List ℕ)
    → Outcome item_bytes (ItemFits level opened) (fork_byte ∷ left) (item_of read_body level opened (fork_byte ∷ left) (some forks) left)
unfolding item_of deeper item_bytes ItemFits
fork_outcome read_body sound level opened left =
    guarded (ltb level level_limit) level_too_deep (fork_byte ∷ left) _
    (λ t. go_on (fork_byte ∷ []) refl (read_body (suc level) opened left) _ (sound (suc level) opened left)
    (λ b rest e h. go_on (fork_byte ∷ encode b) (ap (λ (r : List ℕ). fork_byte ∷ r) e) (read_body (suc level) opened rest) _
    (sound (suc level) opened rest)
    (λ c rest' e' h'. was_took (two_bytes fork_byte left (encode b) rest (encode c) rest' e e') (ltb-true level level_limit t, h, h'))))

-- no item
unknown_outcome : (read_body : ℕ → ℕ → List ℕ → Read Body) (level opened x : ℕ) (left : List ℕ)
    → Outcome item_bytes (ItemFits level opened) (x ∷ left) (item_of read_body level opened (x ∷ left) none left)
unfolding item_of
unknown_outcome read_body level opened x left = refused_here byte_unknown (x ∷ left)

-- What reading an item comes to, where the bodies that it holds are read soundly.
pub item_outcome : (read_body : ℕ → ℕ → List ℕ → Read Body) → Sound read_body → (level opened : ℕ) (xs : List ℕ)
    → Outcome item_bytes (ItemFits level opened) xs (item read_body level opened xs)
unfolding item item_of kind_of item_bytes ItemFits
item_outcome read_body sound level opened [] = refused_end bytes_run_out []
item_outcome read_body sound level opened (zero ∷ left) = unknown_outcome read_body level opened zero left
item_outcome read_body sound level opened (suc zero ∷ left) = job_outcome level opened left
item_outcome read_body sound level opened (suc (suc zero) ∷ left) =
    one_outcome read_body sound level opened async_byte an_async (λ b. refl) (λ b l h. (l, h)) left
item_outcome read_body sound level opened (suc (suc (suc zero)) ∷ left) =
    one_outcome read_body sound level opened finish_byte a_finish (λ b. refl) (λ b l h. (l, h)) left
item_outcome read_body sound level opened (suc (suc (suc (suc zero))) ∷ left) = fork_outcome read_body sound level opened left
item_outcome read_body sound level opened (suc (suc (suc (suc (suc zero)))) ∷ left) =
    one_outcome read_body sound level opened future_byte a_future (λ b. refl) (λ b l h. (l, h)) left
item_outcome read_body sound level opened (suc (suc (suc (suc (suc (suc zero))))) ∷ left) = force_outcome level opened left
item_outcome read_body sound level opened (suc (suc (suc (suc (suc (suc (suc n)))))) ∷ left) =
    unknown_outcome read_body level opened (suc (suc (suc (suc (suc (suc (suc n))))))) left

-- the bytes of an item, and those of the rest of a body behind it
ahead_bytes : (i : Item) (r : Body) (xs rest rest' : List ℕ) → xs ≡ item_bytes i ++ rest → rest ≡ encode r ++ rest'
    → xs ≡ encode (with_first i r) ++ rest'
ahead_bytes i r xs rest rest' p q =
    p ∙ ap (λ (ys : List ℕ). item_bytes i ++ ys) q ∙ sym (append_assoc (item_bytes i) (encode r) rest')
    ∙ ap (λ (ys : List ℕ). ys ++ rest') (sym (encode_ahead i r))

-- what stands behind an item is shorter than what the item was read from
pub behind_item_of : (level opened x : ℕ) (left : List ℕ) (read_body : ℕ → ℕ → List ℕ → Read Body) → Sound read_body → (i : Item)
    (rest : List ℕ)
    → item read_body level opened (x ∷ left) ≡ took i rest → length rest ≤ length left
behind_item_of level opened x left read_body sound i rest e =
    let h : (x ∷ left) ≡ item_bytes i ++ rest = took_bytes (rw e at (item_outcome read_body sound level opened (x ∷ left))) in
    let k : length (x ∷ left) ≡ length (item_bytes i ++ rest) = ap length h in
    omega (arith, length-append (item_bytes i) rest, item_bytes_lem i)

-- a body that begins with an item
items_outcome : (read_item : Read Item) (read_body : ℕ → ℕ → List ℕ → Read Body) → Sound read_body → (level opened : ℕ) (xs : List ℕ)
    → Outcome item_bytes (ItemFits level opened) xs read_item
    → Outcome encode (FitsAt level opened) xs
    (and_then read_item
    (λ first rest. and_then (read_body level (open_behind first opened) rest) (λ others rest'. took (with_first first others) rest')))
items_outcome read_item read_body sound level opened xs h =
    go_on [] refl read_item _ h
    (λ i rest e f. go_on (item_bytes i) e (read_body level (open_behind i opened) rest) _ (sound level (open_behind i opened) rest)
    (λ r rest' e' f'. was_took (ahead_bytes i r xs rest rest' e e') (fits_ahead level opened i r f f')))

-- a body that is at its end, or begins with an item
first_outcome : (level opened x : ℕ) (left : List ℕ) (others : Read Body) → Outcome encode (FitsAt level opened) (x ∷ left) others
    → Outcome encode (FitsAt level opened) (x ∷ left) (cond (eqb x end_byte) (took end left) others)
unfolding encode FitsAt
first_outcome level opened x left others h = go (eqb x end_byte) refl
  where
    go : (t : Bool) → eqb x end_byte ≡ t → Outcome encode (FitsAt level opened) (x ∷ left) (cond t (took end left) others)
    go true e = was_took (ap (λ (b : ℕ). b ∷ left) (eqb-true x end_byte e)) tt
    go false e = h

-- What reading a body comes to, whatever the bound on its bytes.
pub body_of_outcome : (n : ℕ) → Sound (body_of n)
unfolding body_of
body_of_outcome zero level opened xs = refused_end bytes_run_out xs
body_of_outcome (suc n) level opened [] = refused_end bytes_run_out []
body_of_outcome (suc n) level opened (x ∷ left) =
    first_outcome level opened x left _
    (items_outcome (item (body_of n) level opened (x ∷ left)) (body_of n) (body_of_outcome n) level opened (x ∷ left)
    (item_outcome (body_of n) (body_of_outcome n) level opened (x ∷ left)))

-- What reading a body comes to.
pub body_outcome : Sound body
unfolding body
body_outcome level opened xs = body_of_outcome (length xs) level opened xs

-- A body that is read stands at the start of the bytes.
pub body_sound : (level opened : ℕ) (xs : List ℕ) (b : Body) (rest : List ℕ) → body level opened xs ≡ took b rest → xs ≡ encode b ++ rest
body_sound level opened xs b rest e = took_bytes (rw e at (body_outcome level opened xs))

-- It fits there,
pub body_fits_at : (level opened : ℕ) (xs : List ℕ) (b : Body) (rest : List ℕ) → body level opened xs ≡ took b rest → FitsAt level opened b
body_fits_at level opened xs b rest e = took_fits (rw e at (body_outcome level opened xs))

-- which is to say that it is within the limits, and that every force has its future.
pub body_fits : (level opened : ℕ) (xs : List ℕ) (b : Body) (rest : List ℕ) → body level opened xs ≡ took b rest → level ≤ level_limit
    → FitsFrom level opened b
body_fits level opened xs b rest e l = fits_limits level opened b (body_fits_at level opened xs b rest e) l

-- An item that is read stands at the start of the bytes,
pub item_sound : (level opened : ℕ) (xs : List ℕ) (i : Item) (rest : List ℕ) → item body level opened xs ≡ took i rest
    → xs ≡ item_bytes i ++ rest
item_sound level opened xs i rest e = took_bytes (rw e at (item_outcome body body_outcome level opened xs))

-- it fits,
pub item_fits : (level opened : ℕ) (xs : List ℕ) (i : Item) (rest : List ℕ) → item body level opened xs ≡ took i rest
    → ItemFits level opened i
item_fits level opened xs i rest e = took_fits (rw e at (item_outcome body body_outcome level opened xs))

-- what stands behind it is shorter,
pub behind_item : (level opened x : ℕ) (left : List ℕ) (i : Item) (rest : List ℕ) → item body level opened (x ∷ left) ≡ took i rest
    → length rest ≤ length left
behind_item level opened x left i rest e = behind_item_of level opened x left body body_outcome i rest e
