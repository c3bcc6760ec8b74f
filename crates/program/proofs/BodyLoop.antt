-- Reading a body item by item: what the loop has done before each item.
use Prim.Native.Nat.{ℕ, suc, ◌+◌, ◌-◌, ◌*◌, ◌^◌, ◌<◌, ◌≤◌}
use mathlib.Core.Path.{◌≡◌, refl, sym, ◌∙◌, ap, subst}
use mathlib.Core.List.{List, ◌∷◌, ◌++◌}
use mathlib.Core.Logic.{◌⊎◌, inl, inr}
use native.Mathlib.Numerals.{add-one}
use native.Mathlib.Omega.{arith}
use lib.ListN.{length, get_or, drop, length-drop, drop_of_length-le, get_or-append}
use lib.Seq.{drop-cons, drop-drop}
use borrow.Author.Rules.{part_to_end}
use Rattle.program.specs.declared.Reader.{Reader}
use Rattle.program.specs.declared.Inside.{Inside}
use Rattle.std.specs.Prelude.{Result, Ok, Err}
use Rattle.refusal.specs.declared.Refusal.{Refusal}
use Rattle.refusal.specs.Reasons.{number as number_of}
use Rattle.program.specs.Trees.{Body, Item, a_job, an_async, a_finish, a_fork, a_future, a_force, with_first, open_behind, Counts, counts}
use Rattle.program.specs.Bytes.{end_byte, future_byte}
use Rattle.refusal.specs.Refusals.{bytes_run_out}
use Rattle.program.specs.Reader.{Read, took, refused, and_then, item, body}
use Rattle.program.specs.Answers.{item_counts}
use Rattle.program.specs.Internal.Progress.{plus, past, stopped, reached, progress, counts_of, Ready}
use Rattle.program.proofs.ReaderLaws.{item_first, body_empty, body_end, body-item}
use Rattle.program.proofs.Soundness.{item_bytes, item_bytes_lem, item_sound}
use Rattle.program.proofs.ProgressLaws.{slice, slice-length, plus_assoc, plus-end, counts_ahead, item_most, stopped_on, Taken, taken}
use Rattle.program.proofs.ProgressLaws.{past_taken}

-- the body at a reader's level, where so many futures are open as it has counted
abbrev body_in : Inside → List ℕ → Read Body
body_in i xs = body i.level i.opened xs

-- and the item there
abbrev item_in : Inside → List ℕ → Read Item
item_in i xs = item body i.level i.opened xs

-- Before an item: where the reader is, how many futures are open there, each of which took a byte, and what the whole body comes to.
pub record Along (bytes : List ℕ) (entry : Inside) (start : ℕ) (seen : Counts) (r : Reader) (now : Inside) (from : ℕ) : Type 0 where
  pub here : r.place ≡ start + from
  pub inside : from ≤ length bytes
  pub ready : Ready r (drop from bytes)
  pub few : now.opened ≤ r.place
  pub comes :
      progress counts (start + length bytes) seen (body_in entry bytes)
      ≡ progress counts (start + length bytes) (item_counts r.seen) (body_in now (drop from bytes))

-- before the first item
pub along_none : (bytes : List ℕ) (entry : Inside) (r : Reader) → Ready r bytes → entry.opened ≤ r.place
    → Along bytes entry r.place (item_counts r.seen) r entry 0
along_none bytes entry r h le = record { here = omega arith; inside = omega arith; ready = h; few = le; comes = refl }

-- what is left has as many bytes as the place tells
left_length : (bytes : List ℕ) (entry : Inside) (start : ℕ) (seen : Counts) (r : Reader) (now : Inside) (from : ℕ)
    → Along bytes entry start seen r now from
    → r.place + length (drop from bytes) ≡ start + length bytes
left_length bytes entry start seen r now from h = omega (arith, h.here, h.inside, length-drop from bytes)

-- a body that begins with the end byte
at_end : (now : Inside) (len : ℕ) (s : Counts) (x : ℕ) (left : List ℕ) → x ≡ end_byte
    → past (len - length left) s ≡ progress counts len s (body_in now (x ∷ left))
unfolding progress
at_end now len s x left p =
    ap (past (len - length left)) (sym (plus-end s))
    ∙ ap (progress counts len s) (sym (body_end now.level now.opened left) ∙ ap (λ (y : ℕ). body_in now (y ∷ left)) (sym p))

-- the end byte is read
pub along_end : (bytes : List ℕ) (entry : Inside) (start : ℕ) (seen : Counts) (r : Reader) (now : Inside) (from : ℕ) (r' : Reader)
    → Along bytes entry start seen r now from
    → from < length bytes → get_or bytes from 0 ≡ end_byte → (r'.place ≡ r.place + 1) × (r'.seen ≡ r.seen)
    → past r'.place (item_counts r'.seen) ≡ progress counts (start + length bytes) seen (body_in entry bytes)
along_end bytes entry start seen r now from r' h lt p q =
    (λ i. past (place i) (item_counts (q.1 i)))
    ∙ at_end now (start + length bytes) (item_counts r.seen) (get_or bytes from 0) (drop (suc from) bytes) p
    ∙ ap (λ (xs : List ℕ). progress counts (start + length bytes) (item_counts r.seen) (body_in now xs)) (sym (drop-cons bytes from 0 lt))
    ∙ sym h.comes
  where
    place : r'.place ≡ start + length bytes - length (drop (suc from) bytes)
    place = omega (arith, q.0, h.here, length-drop (suc from) bytes)

-- the bytes run out
pub along_out : (bytes : List ℕ) (entry : Inside) (start : ℕ) (seen : Counts) (r : Reader) (now : Inside) (from : ℕ)
    → Along bytes entry start seen r now from
    → length bytes ≤ from
    → stopped bytes_run_out r.place ≡ progress counts (start + length bytes) seen (body_in entry bytes)
unfolding progress
along_out bytes entry start seen r now from h ge =
    ap (stopped bytes_run_out) place
    ∙ ap (progress counts (start + length bytes) (item_counts r.seen))
    (sym (body_empty now.level now.opened) ∙ ap (body_in now) (sym (drop_of_length-le bytes ge)))
    ∙ sym h.comes
  where
    place : r.place ≡ start + length bytes - 0
    place = omega (arith, h.here, h.inside)

-- a body from its first item
progress_ahead : (len : ℕ) (s : Counts) (i : Item) (o : Read Body)
    → progress counts len s (and_then o (λ others rest. took (with_first i others) rest)) ≡ progress counts len (plus s (counts_of i)) o
unfolding progress and_then
progress_ahead len s i (took b rest) = ap (past (len - length rest))
    (ap (plus s) (counts_ahead i b) ∙ sym (plus_assoc s (counts_of i) (counts b)))
progress_ahead len s i (refused n left) = refl

-- its first item is read
body_taken : (level opened len : ℕ) (s : Counts) (x : ℕ) (left : List ℕ) (i : Item) (rest : List ℕ) → (x ≡ end_byte → ⊥)
    → item body level opened (x ∷ left) ≡ took i rest
    → progress counts len s (body level opened (x ∷ left)) ≡ progress counts len (plus s (counts_of i)) (body level (open_behind i opened) rest)
unfolding and_then
body_taken level opened len s x left i rest ne p =
    ap (progress counts len s) (body-item level opened x left ne ∙ ap (item_first body level opened) p)
    ∙ progress_ahead len s i (body level (open_behind i opened) rest)

-- its first item is refused
body-stopped : (level opened len : ℕ) (s : Counts) (x : ℕ) (left : List ℕ) (n p : ℕ) → (x ≡ end_byte → ⊥)
    → stopped n p ≡ progress counts_of len s (item body level opened (x ∷ left))
    → stopped n p ≡ progress counts len s (body level opened (x ∷ left))
body-stopped level opened len s x left n p ne h =
    stopped_on counts_of counts len s s n p (item body level opened (x ∷ left)) _ h
    ∙ ap (progress counts len s) (sym (body-item level opened x left ne))

-- one more future is open behind a future's first byte, and as many behind another one
abbrev pub Counted : ℕ → Inside → Inside → Type 0
Counted x now next =
    ((x ≡ future_byte) × (next ≡ record { level = now.level; opened = now.opened + 1 })) ⊎ ((x ≡ future_byte → ⊥) × (next ≡ now))

-- the first byte tells a future from other items
opens_one : (i : Item) (opened : ℕ) → get_or (item_bytes i) 0 0 ≡ future_byte → open_behind i opened ≡ suc opened
unfolding item_bytes open_behind
opens_one (a_job n) opened e = absurd (omega arith)
opens_one (an_async b) opened e = absurd (omega arith)
opens_one (a_finish b) opened e = absurd (omega arith)
opens_one (a_fork b c) opened e = absurd (omega arith)
opens_one (a_future b) opened e = refl
opens_one (a_force n) opened e = absurd (omega arith)

opens_none : (i : Item) (opened : ℕ) → (get_or (item_bytes i) 0 0 ≡ future_byte → ⊥) → open_behind i opened ≡ opened
unfolding item_bytes open_behind
opens_none (a_job n) opened ne = refl
opens_none (an_async b) opened ne = refl
opens_none (a_finish b) opened ne = refl
opens_none (a_fork b c) opened ne = refl
opens_none (a_future b) opened ne = absurd (ne refl)
opens_none (a_force n) opened ne = refl

-- so what is counted is what is open behind the item
counted_open : (i : Item) (x : ℕ) (now next : Inside) → x ≡ get_or (item_bytes i) 0 0 → Counted x now next
    → (next.level ≡ now.level) × (next.opened ≡ open_behind i now.opened)
counted_open i x now next e (inl (p, q)) = (
  ap (λ (n : Inside). n.level) q,
  ap (λ (n : Inside). n.opened) q ∙ add-one now.opened ∙ sym (opens_one i now.opened (sym e ∙ p)),
)
counted_open i x now next e (inr (p, q)) = (
  ap (λ (n : Inside). n.level) q,
  ap (λ (n : Inside). n.opened) q ∙ sym (opens_none i now.opened (λ h. p (e ∙ h))),
)

-- and there is one more at most
counted_few : (x : ℕ) (now next : Inside) → Counted x now next → next.opened ≤ now.opened + 1
counted_few x now next (inl (p, q)) = let e : next.opened ≡ now.opened + 1 = ap (λ (n : Inside). n.opened) q in omega arith
counted_few x now next (inr (p, q)) = let e : next.opened ≡ now.opened = ap (λ (n : Inside). n.opened) q in omega arith

-- the item reader is handed what is left
pub along_ready : (bytes : List ℕ) (entry : Inside) (start : ℕ) (seen : Counts) (r : Reader) (now : Inside) (from : ℕ)
    → Along bytes entry start seen r now from
    → Ready r (slice bytes from)
along_ready bytes entry start seen r now from h = subst (Ready r) (sym (part_to_end bytes from)) h.ready

-- which is no longer than the whole
pub along_falls : (bytes : List ℕ) (from t : ℕ) → 2 * length bytes + 1 ≡ t → 2 * length (slice bytes from) < t
along_falls bytes from t p = omega (arith, slice-length bytes from)

-- what it says is said of what is left
item_here : (bytes : List ℕ) (now : Inside) (r : Reader) (from : ℕ) {res res' : Result Reader Refusal} → res ≡ res'
    → reached res
    ≡ progress counts_of (r.place + length (slice bytes from)) (item_counts r.seen)
    (item_in now (slice bytes from))
    → reached res' ≡ progress counts_of (r.place + length (drop from bytes)) (item_counts r.seen) (item_in now (drop from bytes))
item_here bytes now r from {res} {res'} p q =
    sym (ap reached p)
    ∙ subst (λ (xs : List ℕ). reached res ≡ progress counts_of (r.place + length xs) (item_counts r.seen) (item_in now xs))
    (part_to_end bytes from) q

-- an item is refused
pub along_stopped : (bytes : List ℕ) (entry : Inside) (start : ℕ) (seen : Counts) (r : Reader) (now : Inside) (from : ℕ)
    {res : Result Reader Refusal} (e : Refusal)
    → Along bytes entry start seen r now from → from < length bytes → (get_or bytes from 0 ≡ end_byte → ⊥) → res ≡ Err e
    → reached res
    ≡ progress counts_of (r.place + length (slice bytes from)) (item_counts r.seen)
    (item_in now (slice bytes from))
    → stopped (number_of e.reason) e.place ≡ progress counts (start + length bytes) seen (body_in entry bytes)
along_stopped bytes entry start seen r now from e h lt ne p q =
    body-stopped now.level now.opened (start + length bytes) (item_counts r.seen) (get_or bytes from 0) (drop (suc from) bytes)
    (number_of e.reason) e.place ne
    (item_here bytes now r from p q
    ∙ ap (λ (n : ℕ). progress counts_of n (item_counts r.seen) (item_in now (drop from bytes)))
    (left_length bytes entry start seen r now from h)
    ∙ ap (λ (xs : List ℕ). progress counts_of (start + length bytes) (item_counts r.seen) (item_in now xs))
    (drop-cons bytes from 0 lt))
    ∙ ap (λ (xs : List ℕ). progress counts (start + length bytes) (item_counts r.seen) (body_in now xs)) (sym (drop-cons bytes from 0 lt))
    ∙ sym h.comes

-- a future more has room
pub along_room : (bytes : List ℕ) (entry : Inside) (start : ℕ) (seen : Counts) (r : Reader) (now : Inside) (from : ℕ)
    → Along bytes entry start seen r now from → now.opened + 1 < 2 ^ 32
along_room bytes entry start seen r now from h = omega (arith, h.few, h.ready.within)

-- the first byte of what was read
first_is : (bytes : List ℕ) (from : ℕ) (i : Item) (rest : List ℕ) → from < length bytes → drop from bytes ≡ item_bytes i ++ rest
    → get_or bytes from 0 ≡ get_or (item_bytes i) 0 0
first_is bytes from i rest lt e =
    ap (λ (xs : List ℕ). get_or xs 0 0) (sym (drop-cons bytes from 0 lt) ∙ e) ∙ get_or-append (item_bytes i) rest 0 0 (item_bytes_lem i)

-- behind an item that was read
along_taken : (bytes : List ℕ) (entry : Inside) (start : ℕ) (seen : Counts) (r : Reader) (now : Inside) (from : ℕ) (r' : Reader) (next : Inside)
    → Along bytes entry start seen r now from → from < length bytes → (get_or bytes from 0 ≡ end_byte → ⊥)
    → Counted (get_or bytes from 0) now next
    → Taken counts_of item_bytes (item_in now (drop from bytes)) r r' (drop from bytes)
    → Along bytes entry start seen r' next (r'.place - start) × (from < r'.place - start)
along_taken bytes entry start seen r now from r' next h lt ne counted (taken i rest e seen_now m) = (
  record {
    here = omega (arith, h.here, m.further);
    inside = omega (arith, h.here, m.further, m.all, length-drop from bytes);
    ready = subst (Ready r') (sym rest_is) m.ready;
    few = omega (arith, h.few, m.further, item_bytes_lem i, counted_few (get_or bytes from 0) now next counted);
    comes =
        h.comes
        ∙ ap (λ (xs : List ℕ). progress counts (start + length bytes) (item_counts r.seen) (body_in now xs)) (drop-cons bytes from 0 lt)
        ∙ body_taken now.level now.opened (start + length bytes) (item_counts r.seen) (get_or bytes from 0) (drop (suc from) bytes) i rest
        ne (ap (item_in now) (sym (drop-cons bytes from 0 lt)) ∙ e)
        ∙ (λ j. progress counts (start + length bytes) (sym seen_now j) (body (sym told.0 j) (sym told.1 j) (sym rest_is j)));
  },
  omega (arith, h.here, m.further, item_bytes_lem i),
)
  where
    told : (next.level ≡ now.level) × (next.opened ≡ open_behind i now.opened)
    told =
        counted_open i (get_or bytes from 0) now next
        (first_is bytes from i rest lt (item_sound now.level now.opened (drop from bytes) i rest e)) counted

    from_is : r'.place - start ≡ from + length (item_bytes i)
    from_is = omega (arith, h.here, m.further)

    rest_is : drop (r'.place - start) bytes ≡ rest
    rest_is = ap (λ (n : ℕ). drop n bytes) from_is ∙ sym (drop-drop (length (item_bytes i)) from bytes) ∙ m.left

-- the turn of an item that is read
pub along_more : (bytes : List ℕ) (entry : Inside) (start : ℕ) (seen : Counts) (r : Reader) (now : Inside) (from : ℕ) {res : Result Reader Refusal}
    (r' : Reader) (next : Inside)
    → Along bytes entry start seen r now from → from < length bytes → (get_or bytes from 0 ≡ end_byte → ⊥) → res ≡ Ok r'
    → reached res
    ≡ progress counts_of (r.place + length (slice bytes from)) (item_counts r.seen)
    (item_in now (slice bytes from))
    → Counted (get_or bytes from 0) now next
    → Along bytes entry start seen r' next (r'.place - start) × (from < r'.place - start)
along_more bytes entry start seen r now from r' next h lt ne p q counted =
    along_taken bytes entry start seen r now from r' next h lt ne counted
    (past_taken counts_of item_bytes (item_in now (drop from bytes)) r r' (drop from bytes) h.ready item_most
    (item_sound now.level now.opened (drop from bytes))
    (item_here bytes now r from p q))
