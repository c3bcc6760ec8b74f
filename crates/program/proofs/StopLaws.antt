-- Where reading stops, and why. Some bytes lead to an item of a body, and reading that item stops: its bytes run out, or some of them offend.
-- What leads there can be completed, and a refusal there stands whatever stands behind it.
use Prim.Native.Nat.{ℕ, zero, suc, ◌<◌, ◌≤◌}
use mathlib.Core.Path.{◌≡◌, refl, sym, ap, ◌∙◌}
use mathlib.Core.Bool.{Bool, true, false}
use mathlib.Core.List.{List, [], ◌∷◌, ◌++◌, append-nil, append_assoc, append_cancel_right}
use mathlib.Core.Logic.{inl, inr}
use native.Mathlib.Omega.{arith}
use lib.Dec.{leb, ltb}
use lib.ListN.{length}
use borrow.Author.Tests.{leb-false, ltb-true, ltb-false, le-ltb}
use Rattle.program.specs.Limits.{number_bytes, job_limit, level_limit}
use Rattle.program.specs.Trees.{Body, end, job, async, finish, fork, future, Item, a_job, an_async, a_finish, a_fork, a_future, a_force}
use Rattle.program.specs.Trees.{with_first, open_behind}
use Rattle.program.specs.Bytes.{end_byte, job_byte, async_byte, finish_byte, fork_byte, future_byte, force_byte, encode_number, encode}
use Rattle.program.specs.Reader.{Read, took, refused, and_then, take_if, groups, number, deeper, job_of, force_of, item_of, kind_of, item, body}
use Rattle.refusal.specs.Refusals.{level_too_deep, bytes_run_out, job_too_large, no_such_future}
use Rattle.program.specs.Claims.{FitsFrom, LeadsTo, here, past, into, second, TopBits, too_long, not_shortest, too_large, HasNumber, Offends}
use Rattle.program.specs.Claims.{unknown, opener, misnumbered, no_byte, unopened}
use Rattle.program.proofs.Soundness.{item_bytes, encode_ahead, FitsAt, ItemFits, fits_ahead, fits_limits, limits_fit, body_sound}
use Rattle.program.proofs.Soundness.{body_fits_at, item_sound, item_fits, behind_item}
use Rattle.program.proofs.ReaderLaws.{body_empty, body_end, body-item, item_job, item_force, of_async, of_finish, of_future}
use Rattle.program.proofs.ReaderLaws.{item_one, item_fork, Opener, holds_one, holds_two, opener_is, item_deep, item_unknown}
use Rattle.program.proofs.Completeness.{item_begins, item_complete, body_back}
use Rattle.program.proofs.ReadLaws.{took_bytes, took_fits, behind_shorter}
use Rattle.program.proofs.NumberLaws.{Halt, cut, long, padded, Grouped, grouped, halted, groups_are, number_outcome, number_complete}
use Rattle.program.proofs.NumberLaws.{number_completed, number_cut, number_no_byte, number_bad}
use Rattle.program.proofs.NumberLaws.{no_byte as beyond}

-- an item that is refused stops its body
body_refused : (level opened x : ℕ) (left : List ℕ) (n : ℕ) (place : List ℕ) → 0 < x → item body level opened (x ∷ left) ≡ refused n place
    → body level opened (x ∷ left) ≡ refused n place
unfolding and_then
body_refused level opened x left n place p e = body-item level opened x left (λ q. omega arith) ∙ rw e refl

-- and a number that is refused stops its item
number_stops_item : (level opened x : ℕ) (left : List ℕ) (n : ℕ) (place : List ℕ) → HasNumber x → number left ≡ refused n place
    → body level opened (x ∷ left) ≡ refused n place
unfolding and_then job_of force_of
number_stops_item level opened x left n place (inl p) e =
    body_refused level opened x left n place (omega arith)
    (ap (λ (y : ℕ). item body level opened (y ∷ left)) p ∙ item_job level opened left ∙ rw e refl)
number_stops_item level opened x left n place (inr p) e =
    body_refused level opened x left n place (omega arith)
    (ap (λ (y : ℕ). item body level opened (y ∷ left)) p ∙ item_force level opened left ∙ rw e refl)

-- A refusal in a body that an opener opens stands in the body that the opener is in,
opener_passes : (level opened x : ℕ) (ys : List ℕ) (n : ℕ) (left : List ℕ) → Opener x → 0 < x → level < level_limit
    → body (suc level) opened ys ≡ refused n left → body level opened (x ∷ ys) ≡ refused n left
unfolding and_then
opener_passes level opened x ys n left (holds_one made one) p lt e =
    body_refused level opened x ys n left p (item_one level opened x made ys one lt ∙ rw e refl)
opener_passes level opened x ys n left (holds_two q) p lt e =
    body_refused level opened x ys n left p
    (ap (λ (y : ℕ). item body level opened (y ∷ ys)) q ∙ item_fork level opened ys lt ∙ rw e refl)

-- and a body there can be completed to one here.
opener_completes : (level opened x : ℕ) (b : Body) → Opener x → level < level_limit → FitsAt (suc level) opened b
    → (c : Body) × (tail : List ℕ) × FitsAt level opened c × (encode c ≡ x ∷ (encode b ++ tail))
unfolding encode FitsAt
opener_completes level opened x b (holds_one made of_async) lt f = (async b end, end_byte ∷ [], (lt, f, tt), refl)
opener_completes level opened x b (holds_one made of_finish) lt f = (finish b end, end_byte ∷ [], (lt, f, tt), refl)
opener_completes level opened x b (holds_one made of_future) lt f = (future b end, end_byte ∷ [], (lt, f, tt), refl)
opener_completes level opened x b (holds_two q) lt f =
    (fork b end end, end_byte ∷ end_byte ∷ [], (lt, f, tt, tt), ap (λ (y : ℕ). y ∷ (encode b ++ (end_byte ∷ end_byte ∷ []))) (sym q))

-- the first item of a body that fits
fits_first : (level opened : ℕ) (i : Item) (r : Body) → FitsAt level opened (with_first i r) → ItemFits level opened i
unfolding FitsAt ItemFits with_first
fits_first level opened (a_job n) r h = h.0
fits_first level opened (an_async b) r h = (h.0, h.1)
fits_first level opened (a_finish b) r h = (h.0, h.1)
fits_first level opened (a_fork b c) r h = (h.0, h.1, h.2)
fits_first level opened (a_future b) r h = (h.0, h.1)
fits_first level opened (a_force n) r h = (h.0, h.1)

-- A whole item's bytes are its own, and it fits.
past_item : (level opened : ℕ) (i : Item) (bytes : List ℕ) → FitsFrom level opened (with_first i end)
    → encode (with_first i end) ≡ bytes ++ (end_byte ∷ []) → (bytes ≡ item_bytes i) × ItemFits level opened i
unfolding encode
past_item level opened i bytes (p, q, f) e = (
  append_cancel_right bytes (item_bytes i) (end_byte ∷ []) (sym e ∙ encode_ahead i end),
  fits_first level opened i end (limits_fit level opened (with_first i end) p q f),
)

-- A refusal stands behind an item,
past_passes : (level opened : ℕ) (i : Item) (ys : List ℕ) (n : ℕ) (left : List ℕ) → ItemFits level opened i
    → body level (open_behind i opened) ys ≡ refused n left → body level opened (item_bytes i ++ ys) ≡ refused n left
unfolding and_then
past_passes level opened i ys n left f e = item_begins level opened i ys ∙ rw (item_complete level opened i ys f, e) refl

-- and behind a fork's first body.
second_passes : (level opened : ℕ) (b : Body) (ys : List ℕ) (n : ℕ) (left : List ℕ) → level < level_limit → FitsAt (suc level) opened b
    → body (suc level) opened ys ≡ refused n left → body level opened (fork_byte ∷ (encode b ++ ys)) ≡ refused n left
unfolding and_then
second_passes level opened b ys n left lt f e =
    body_refused level opened fork_byte (encode b ++ ys) n left (omega arith)
    (item_fork level opened (encode b ++ ys) lt ∙ rw (body_back (suc level) opened b ys f, e) refl)

-- A refusal stands behind the bytes that lead to where it is due.
pub leads_passes : (to there level opened : ℕ) (before ys : List ℕ) (n : ℕ) (left : List ℕ) → LeadsTo to there level opened before
    → body to there ys ≡ refused n left → body level opened (before ++ ys) ≡ refused n left
leads_passes to there level opened before ys n left here e = e
leads_passes to there level opened before ys n left (past {more = more} i bytes f q l) e =
    let (k, g) = past_item level opened i bytes f q in
    ap (body level opened) (append_assoc bytes more ys ∙ ap (λ (r : List ℕ). r ++ (more ++ ys)) k)
    ∙ past_passes level opened i (more ++ ys) n left g (leads_passes to there level (open_behind i opened) more ys n left l e)
leads_passes to there level opened before ys n left (into {more = more} x p q lt l) e =
    opener_passes level opened x (more ++ ys) n left (opener_is x p q) (omega arith) lt
    (leads_passes to there (suc level) opened more ys n left l e)
leads_passes to there level opened before ys n left (second {more = more} b (p, q, f) lt l) e =
    ap (λ (r : List ℕ). body level opened (fork_byte ∷ r)) (append_assoc (encode b) more ys)
    ∙ second_passes level opened b (more ++ ys) n left lt (limits_fit (suc level) opened b p q f)
    (leads_passes to there (suc level) opened more ys n left l e)

-- Bytes that lead to a body that fits can be completed.
pub leads_complete : (to there level opened : ℕ) (before : List ℕ) (b : Body) → LeadsTo to there level opened before → FitsAt to there b
    → (c : Body) × (tail : List ℕ) × FitsAt level opened c × (encode c ≡ before ++ (encode b ++ tail))
unfolding encode FitsAt
leads_complete to there level opened before b here f = (b, [], f, sym (append-nil (encode b)))
leads_complete to there level opened before b (past {more = more} i bytes g q l) f =
    let (k, h) = past_item level opened i bytes g q in
    let (c, tail, fc, e) = leads_complete to there level (open_behind i opened) more b l f in
    (with_first i c, tail, fits_ahead level opened i c h fc, encode_ahead i c ∙ rw (sym k, e) (simp append_assoc))
leads_complete to there level opened before b (into {more = more} x p q lt l) f =
    let (c, tail, fc, e) = leads_complete to there (suc level) opened more b l f in
    let (d, tail', fd, e') = opener_completes level opened x c (opener_is x p q) lt fc in
    (d, tail ++ tail', fd, e' ∙ rw e (simp append_assoc))
leads_complete to there level opened before b (second {more = more} d (p, q, g) lt l) f =
    let (c, tail, fc, e) = leads_complete to there (suc level) opened more b l f in
    (fork d c end, tail ++ (end_byte ∷ []), (lt, limits_fit (suc level) opened d p q g, fc, tt), rw e (simp append_assoc))

-- A future that is not open is refused at the force's number,
unopened_refused : (level opened n : ℕ) (zs : List ℕ) → opened ≤ n → n ≤ job_limit
    → body level opened (force_byte ∷ (encode_number n ++ zs)) ≡ refused no_such_future (encode_number n ++ zs)
unfolding and_then take_if force_of
unopened_refused level opened n zs le small =
    body_refused level opened force_byte (encode_number n ++ zs) no_such_future (encode_number n ++ zs) (omega arith)
    (item_force level opened (encode_number n ++ zs) ∙ rw (number_complete n zs small, le-ltb n opened le) refl)

-- and so is what offends, whatever stands behind it.
pub offends_refused : (level opened n : ℕ) (first bad zs : List ℕ) → Offends level opened n first bad
    → body level opened (first ++ (bad ++ zs)) ≡ refused n (bad ++ zs)
offends_refused level opened n first bad zs (unknown x l) =
    body_refused level opened x zs n (x ∷ zs) (omega arith) (item_unknown level opened x zs l)
offends_refused level opened n first bad zs (opener x p q l) =
    body_refused level opened x zs n (x ∷ zs) (omega arith) (item_deep level opened x zs p q (omega arith))
offends_refused level opened n first bad zs (misnumbered x h b) =
    number_stops_item level opened x (bad ++ zs) n (bad ++ zs) h (number_bad n bad zs b)
offends_refused level opened n first bad zs (no_byte y high x h l t ge) =
    number_stops_item level opened y (high ++ (x ∷ zs)) n (x ∷ zs) h (number_no_byte high x zs l t ge)
offends_refused level opened n first bad zs (unopened m le small) = unopened_refused level opened m zs le small

-- A force that ends inside its number runs out.
pub cut_refused : (level opened : ℕ) (high : List ℕ) → length high < number_bytes → TopBits high
    → body level opened (force_byte ∷ high) ≡ refused bytes_run_out []
cut_refused level opened high l t = number_stops_item level opened force_byte high bytes_run_out [] (inr refl) (number_cut high l t)

-- What a body at a level can begin with, and at least one byte is wanting; or a force that ends inside its number.
pub data Wanting (level opened : ℕ) (xs : List ℕ) : Type 0 where
  wanting : (b : Body) (x : ℕ) (more : List ℕ) → FitsAt level opened b → encode b ≡ xs ++ (x ∷ more) → Wanting level opened xs
  wanting_force : (high : List ℕ) → length high < number_bytes → TopBits high → xs ≡ force_byte ∷ high → Wanting level opened xs

-- An item that ends inside its number is one: a job that has fewer bytes of its number than it may have, all with their top bit set, can be
-- completed.
cut_wanting : (level opened x : ℕ) (high : List ℕ) → HasNumber x → length high < number_bytes → TopBits high → Wanting level opened (x ∷ high)
unfolding encode FitsAt
cut_wanting level opened x high (inl p) l t =
    let (n, small, e) = number_completed high l t in
    wanting (job n end) 1 (end_byte ∷ []) (small, tt)
    (ap (λ (r : List ℕ). job_byte ∷ (r ++ (end_byte ∷ []))) e ∙ ap (λ (r : List ℕ). job_byte ∷ r) (append_assoc high (1 ∷ []) (end_byte ∷ []))
    ∙ ap (λ (y : ℕ). y ∷ (high ++ (1 ∷ end_byte ∷ []))) (sym p))
cut_wanting level opened x high (inr p) l t = wanting_force high l t (ap (λ (y : ℕ). y ∷ high) p)

-- So is an item at its number,
at_number : (level opened x : ℕ) → HasNumber x → Wanting level opened (x ∷ [])
at_number level opened x h = cut_wanting level opened x [] h (omega arith) (λ i lt. absurd (omega arith))

-- and no byte of an item.
at_start : (level opened : ℕ) → Wanting level opened []
unfolding encode FitsAt
at_start level opened = wanting end end_byte [] tt refl

-- What stands before the bytes that offend, in their item, can be completed.
pub offends_complete : (level opened n : ℕ) (first bad : List ℕ) → Offends level opened n first bad → Wanting level opened first
offends_complete level opened n first bad (unknown x l) = at_start level opened
offends_complete level opened n first bad (opener x p q l) = at_start level opened
offends_complete level opened n first bad (misnumbered x h b) = at_number level opened x h
offends_complete level opened n first bad (no_byte y high x h l t ge) = cut_wanting level opened y high h l t
offends_complete level opened n first bad (unopened m le small) = at_number level opened force_byte (inr refl)

-- Why reading the first item of these bytes stops, in a body at a level: they run out, and at least one more is wanting, or some offend.
pub data ItemStop (level opened : ℕ) (xs : List ℕ) : ℕ → List ℕ → Type 0 where
  ran_out : Wanting level opened xs → ItemStop level opened xs bytes_run_out []
  offended :
      {n : ℕ} {left : List ℕ} (first bad rest : List ℕ) → Offends level opened n first bad → xs ≡ first ++ (bad ++ rest) → left ≡ bad ++ rest
      → ItemStop level opened xs n left

-- Why reading a body at a level stops: some bytes lead to an item, and it does.
pub data Stop (level opened : ℕ) (xs : List ℕ) (n : ℕ) (left : List ℕ) : Type 0 where
  stop :
      (to there : ℕ) (before ys : List ℕ) → LeadsTo to there level opened before → xs ≡ before ++ ys → ItemStop to there ys n left
      → Stop level opened xs n left

-- what a part of these bytes was read as: a value, or a reason to stop
data Stops {B : Type 0} (level opened : ℕ) (xs : List ℕ) : Read B → Type 0 where
  goes : {b : B} {rest : List ℕ} → Stops level opened xs (took b rest)
  stops : {n : ℕ} {left : List ℕ} → Stop level opened xs n left → Stops level opened xs (refused n left)

-- the reason, where there is one
stop_of : {B : Type 0} {level opened : ℕ} {xs : List ℕ} {n : ℕ} {left : List ℕ} → Stops {B = B} level opened xs (refused n left)
    → Stop level opened xs n left
stop_of (stops s) = s

-- going on
stops_then : {B C : Type 0} {level opened : ℕ} {xs : List ℕ} (o : Read B) (next : B → List ℕ → Read C) → Stops level opened xs o
    → ((b : B) (rest : List ℕ) → o ≡ took b rest → Stops level opened xs (next b rest)) → Stops level opened xs (and_then o next)
unfolding and_then
stops_then (took b rest) next s h = h b rest refl
stops_then (refused n left) next (stops s) h = stops s

-- a test
stops_unless : {B : Type 0} {level opened : ℕ} {xs : List ℕ} (t : Bool) (n : ℕ) (place : List ℕ) (next : Read B)
    → (t ≡ true → Stops level opened xs next) → (t ≡ false → Stop level opened xs n place) → Stops level opened xs (take_if t n place next)
unfolding take_if
stops_unless true n place next g h = g refl
stops_unless false n place next g h = stops (h refl)

-- the first item stops
stops_here : {level opened : ℕ} {xs : List ℕ} {n : ℕ} {left : List ℕ} → ItemStop level opened xs n left → Stop level opened xs n left
stops_here {level} {opened} {xs} h = stop level opened [] xs here refl h

-- some bytes lead from a body at one level on to another
abbrev Onward : ℕ → ℕ → List ℕ → ℕ → ℕ → Type 0
Onward level opened front level' opened' =
    (to there : ℕ) (more : List ℕ) → LeadsTo to there level' opened' more → LeadsTo to there level opened (front ++ more)

-- then the reason to stop is the same
stops_behind : {B : Type 0} {level opened level' opened' : ℕ} (front xs ys : List ℕ) → Onward level opened front level' opened'
    → xs ≡ front ++ ys → (o : Read B) → Stops level' opened' ys o → Stops level opened xs o
stops_behind front xs ys k e (took b rest) s = goes
stops_behind front xs ys k e (refused n left) (stops (stop to there before zs l q h)) =
    stops
    (stop to there (front ++ before) zs (k to there before l) (e ∙ ap (λ (r : List ℕ). front ++ r) q ∙ sym (append_assoc front before zs)) h)

-- an item's first byte, with offending bytes behind it
misnumbered_stop : (level opened x : ℕ) (left : List ℕ) {n : ℕ} (bad rest : List ℕ) → Offends level opened n (x ∷ []) bad
    → left ≡ bad ++ rest → ItemStop level opened (x ∷ left) n left
misnumbered_stop level opened x left bad rest o e = offended (x ∷ []) bad rest o (ap (λ (r : List ℕ). x ∷ r) e) e

-- why a job or a force stops whose number's groups are refused
halt_stop : (level opened x : ℕ) (left : List ℕ) {k : ℕ} {place : List ℕ} → HasNumber x → Halt left true number_bytes left k place
    → ItemStop level opened (x ∷ left) k place
halt_stop level opened x left g (cut l t) = ran_out (cut_wanting level opened x left g l t)
halt_stop level opened x left g (beyond high y rest l t ge e) =
    offended (x ∷ high) (y ∷ []) rest (no_byte x high y g l t ge) (ap (λ (r : List ℕ). x ∷ r) e) refl
halt_stop level opened x left g (long high rest e t f) = misnumbered_stop level opened x left high rest (misnumbered x g (too_long high e t)) f
halt_stop level opened x left g (padded [] rest o t f) = absurd (let h = o refl in omega arith)
halt_stop level opened x left g (padded (b ∷ high) rest o t f) =
    misnumbered_stop level opened x left (b ∷ (high ++ (0 ∷ []))) rest (misnumbered x g (not_shortest b high t))
    (f ∙ ap (λ (r : List ℕ). b ∷ r) (sym (append_assoc high (0 ∷ []) rest)))

-- or is held against the limit
limit_stops : (level opened x : ℕ) (left : List ℕ) (o : Read ℕ) → HasNumber x → Grouped left true number_bytes left o
    → Stops {B = ℕ} level opened (x ∷ left) (and_then o (λ n rest. take_if (leb n job_limit) job_too_large left (took n rest)))
unfolding and_then encode_number
limit_stops level opened x left (refused k place) g (halted h) = stops (stops_here (halt_stop level opened x left g h))
limit_stops level opened x left (took n rest) g (grouped r p e) =
    stops_unless (leb n job_limit) job_too_large left (took n rest) (λ _. goes)
    (λ h. stops_here
    (misnumbered_stop level opened x left (encode_number n) rest (misnumbered x g (too_large n (leb-false n job_limit h) r)) e))

-- the number of a job or a force
number_stops : (level opened x : ℕ) (left : List ℕ) → HasNumber x → Stops {B = ℕ} level opened (x ∷ left) (number left)
unfolding number
number_stops level opened x left g =
    limit_stops level opened x left (groups left true number_bytes left) g (groups_are left true number_bytes left)

-- a job
job_stops : (level opened : ℕ) (left : List ℕ) → Stops {B = Item} level opened (job_byte ∷ left) (job_of left)
unfolding job_of
job_stops level opened left = stops_then (number left) _ (number_stops level opened job_byte left (inl refl)) (λ n rest e. goes)

-- a force
force_stops : (level opened : ℕ) (left : List ℕ) → Stops {B = Item} level opened (force_byte ∷ left) (force_of opened left)
unfolding force_of
force_stops level opened left =
    stops_then (number left) _ (number_stops level opened force_byte left (inr refl))
    (λ n rest e. stops_unless (ltb n opened) no_such_future left _ (λ _. goes) (λ t. none n rest e (ltb-false n opened t)))
  where
    none : (n : ℕ) (rest : List ℕ) → number left ≡ took n rest → opened ≤ n → Stop level opened (force_byte ∷ left) no_such_future left
    none n rest e le =
        stops_here
        (misnumbered_stop level opened force_byte left (encode_number n) rest (unopened n le (took_fits (rw e at (number_outcome left))))
        (took_bytes (rw e at (number_outcome left))))

-- an opener too deep
opener_stop : (level opened x : ℕ) (left : List ℕ) → level ≤ level_limit → async_byte ≤ x → x ≤ future_byte → ltb level level_limit ≡ false
    → Stop level opened (x ∷ left) level_too_deep (x ∷ left)
opener_stop level opened x left l p q t =
    let g = ltb-false level level_limit t in
    stops_here (offended [] (x ∷ []) left (opener x p q (omega arith)) refl refl)

-- Why a shorter list stops.
abbrev Shorter : ℕ → Type 0
Shorter n = (level opened : ℕ) (ys : List ℕ) → level ≤ level_limit → length ys ≤ n → Stops {B = Body} level opened ys (body level opened ys)

-- the body that an opener opens
opened_stops : (level opened x : ℕ) (left : List ℕ) → async_byte ≤ x → x ≤ future_byte → level < level_limit → Shorter (length left)
    → Stops {B = Body} level opened (x ∷ left) (body (suc level) opened left)
opened_stops level opened x left p q lt short =
    stops_behind (x ∷ []) (x ∷ left) left (λ to there more l. into x p q lt l) refl (body (suc level) opened left)
    (short (suc level) opened left (omega arith) (omega arith))

-- an item that holds one body
one_stops : (level opened x : ℕ) (made : Body → Item) (left : List ℕ) → level ≤ level_limit → async_byte ≤ x → x ≤ future_byte
    → Shorter (length left)
    → Stops {B = Item} level opened (x ∷ left)
    (deeper level (x ∷ left) (and_then (body (suc level) opened left) (λ b rest. took (made b) rest)))
unfolding deeper
one_stops level opened x made left l p q short =
    stops_unless (ltb level level_limit) level_too_deep (x ∷ left) _
    (λ t. stops_then (body (suc level) opened left) _ (opened_stops level opened x left p q (ltb-true level level_limit t) short)
    (λ b rest e. goes))
    (opener_stop level opened x left l p q)

-- the second body of a fork
right_stops : (level opened : ℕ) (left : List ℕ) → level < level_limit → Shorter (length left) → (b : Body) (rest : List ℕ)
    → body (suc level) opened left ≡ took b rest
    → Stops {B = Item} level opened (fork_byte ∷ left) (and_then (body (suc level) opened rest) (λ c rest'. took (a_fork b c) rest'))
right_stops level opened left lt short b rest e =
    let h = body_sound (suc level) opened left b rest e in
    let f = fits_limits (suc level) opened b (body_fits_at (suc level) opened left b rest e) lt in
    stops_then (body (suc level) opened rest) _
    (stops_behind (fork_byte ∷ encode b) (fork_byte ∷ left) rest (λ to there more l. second b f lt l) (ap (λ (ys : List ℕ). fork_byte ∷ ys) h)
    (body (suc level) opened rest) (short (suc level) opened rest lt (behind_shorter (encode b) left rest h)))
    (λ c rest' e'. goes)

-- a fork
fork_stops : (level opened : ℕ) (left : List ℕ) → level ≤ level_limit → Shorter (length left)
    → Stops {B = Item} level opened (fork_byte ∷ left)
    (deeper level (fork_byte ∷ left)
    (and_then (body (suc level) opened left) (λ b rest. and_then (body (suc level) opened rest) (λ c rest'. took (a_fork b c) rest'))))
unfolding deeper
fork_stops level opened left l short =
    stops_unless (ltb level level_limit) level_too_deep (fork_byte ∷ left) _
    (λ t. let lt = ltb-true level level_limit t in
    stops_then (body (suc level) opened left) _ (opened_stops level opened fork_byte left (omega arith) (omega arith) lt short)
    (right_stops level opened left lt short))
    (opener_stop level opened fork_byte left l (omega arith) (omega arith))

-- an item
item_stops : (level opened x : ℕ) (left : List ℕ) → level ≤ level_limit → Shorter (length left)
    → Stops {B = Item} level opened (suc x ∷ left) (item body level opened (suc x ∷ left))
unfolding item item_of kind_of
item_stops level opened zero left l short = job_stops level opened left
item_stops level opened (suc zero) left l short = one_stops level opened async_byte an_async left l (omega arith) (omega arith) short
item_stops level opened (suc (suc zero)) left l short = one_stops level opened finish_byte a_finish left l (omega arith) (omega arith) short
item_stops level opened (suc (suc (suc zero))) left l short = fork_stops level opened left l short
item_stops level opened (suc (suc (suc (suc zero)))) left l short =
    one_stops level opened future_byte a_future left l (omega arith) (omega arith) short
item_stops level opened (suc (suc (suc (suc (suc zero))))) left l short = force_stops level opened left
item_stops level opened (suc (suc (suc (suc (suc (suc n)))))) left l short =
    let x = suc (suc (suc (suc (suc (suc (suc n)))))) in
    stops (stops_here (offended [] (x ∷ []) left (unknown x (omega arith)) refl refl))

-- past an item
past_onward : (level opened : ℕ) (i : Item) → level ≤ level_limit → ItemFits level opened i
    → Onward level opened (item_bytes i) level (open_behind i opened)
unfolding encode FitsAt
past_onward level opened i l f to there more h =
    past i (item_bytes i) (fits_limits level opened (with_first i end) (fits_ahead level opened i end f tt) l) (encode_ahead i end) h

-- the rest of a body behind an item
others_stop : (level opened x : ℕ) (left : List ℕ) → level ≤ level_limit → Shorter (length left) → (i : Item) (rest : List ℕ)
    → item body level opened (x ∷ left) ≡ took i rest
    → Stops {B = Body} level opened (x ∷ left)
    (and_then (body level (open_behind i opened) rest) (λ others rest'. took (with_first i others) rest'))
others_stop level opened x left l short i rest e =
    stops_then (body level (open_behind i opened) rest) _
    (stops_behind (item_bytes i) (x ∷ left) rest (past_onward level opened i l (item_fits level opened (x ∷ left) i rest e))
    (item_sound level opened (x ∷ left) i rest e) (body level (open_behind i opened) rest)
    (short level (open_behind i opened) rest l (behind_item level opened x left i rest e)))
    (λ r rest' e'. goes)

-- a body that begins with an item
items_stop : (level opened x : ℕ) (left : List ℕ) → level ≤ level_limit → Shorter (length left)
    → Stops {B = Body} level opened (suc x ∷ left) (body level opened (suc x ∷ left))
items_stop level opened x left l short =
    rw (body-item level opened (suc x) left (λ e. omega arith))
    (stops_then (item body level opened (suc x ∷ left)) _ (item_stops level opened x left l short)
    (others_stop level opened (suc x) left l short))

-- a body, from all shorter lists
first_stops : (level opened : ℕ) (xs : List ℕ) → level ≤ level_limit
    → ((m o : ℕ) (ys : List ℕ) → m ≤ level_limit → length ys < length xs → Stops {B = Body} m o ys (body m o ys))
    → Stops {B = Body} level opened xs (body level opened xs)
first_stops level opened [] l short = rw (body_empty level opened) (stops (stops_here (ran_out (at_start level opened))))
first_stops level opened (zero ∷ left) l short = rw (body_end level opened left) goes
first_stops level opened (suc x ∷ left) l short = items_stop level opened x left l (λ m o ys h q. short m o ys h (omega arith))

-- a body
body_stops : (n : ℕ) → Shorter n
body_stops zero level opened xs h l = first_stops level opened xs h (λ m o ys h' q. absurd (omega arith))
body_stops (suc n) level opened xs h l = first_stops level opened xs h (λ m o ys h' q. body_stops n m o ys h' (omega arith))

-- Why a main body is refused.
pub main_stop : (xs : List ℕ) (n : ℕ) (left : List ℕ) → body 1 0 xs ≡ refused n left → Stop 1 0 xs n left
main_stop xs n left e = stop_of (rw e at (body_stops (length xs) 1 0 xs (omega arith) (omega arith)))
