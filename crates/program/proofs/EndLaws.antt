-- Where the body ends, from each place of a program on: one law for each turn of the loop that turns marks into ends, and what they tell then.
use Prim.Native.Nat.{ℕ, suc, ◌+◌, ◌<◌, ◌≤◌}
use mathlib.Core.Path.{◌≡◌, refl, sym, ap, subst, ◌∙◌}
use mathlib.Core.Bool.{Bool, true, false, not, cond, true≢false}
use mathlib.Core.List.{List, [], ◌++◌}
use mathlib.Core.Logic.{◌≢◌}
use mathlib.Core.Option.{Option, none, some, some-injective, none-ne-some}
use native.Mathlib.Omega.{arith}
use lib.Dec.{eqb, ltb}
use lib.ListN.{length, get_or, set, replicate, length-set, length-replicate}
use lib.Seq.{get_or-set_same, get_or-set_other}
use borrow.Author.Tests.{eqb-true, eqb-false, ne_eqb, ltb-true, ltb-false}
use Rattle.program.specs.declared.Edition.{Edition}
use Rattle.program.specs.Limits.{program_bytes}
use Rattle.program.specs.Trees.{Body, end, job, async, finish, fork, future, force}
use Rattle.program.specs.Bytes.{end_byte, job_byte, async_byte, finish_byte, fork_byte, future_byte, force_byte, encode, size}
use Rattle.program.specs.Reader.{Reading, program, refusal, reading}
use Rattle.program.specs.Located.{Code, end_byte_at, job_at, async_at, finish_at, fork_at, future_at, force_at, locate, located, start_of, last}
use Rattle.program.specs.Located.{code_at, is_some, starts_in, starts_at, end_of, end_in, end_at, MarksEnds}
use Rattle.program.specs.Claims.{Fits, Encoding, encoding}
use Rattle.program.specs.Internal.Progress.{is_read, opens_number, in_number, Outside, end_by, LooksWithin, Ended}
use Rattle.program.proofs.LocatedLaws.{here_later, Inner, job_rest, async_body, async_rest, finish_body, finish_rest, fork_left, fork_right}
use Rattle.program.proofs.LocatedLaws.{fork_rest, future_body, future_rest, force_rest, Laid, last-locate, laid_located, laid_le, laid_inner}
use Rattle.program.proofs.LocatedLaws.{code_place, code_laid, code_range, code_before, code_inner, code_same}
use Rattle.program.proofs.StartLaws.{Placed, placed, code_bytes, starts, starts_within}
use Rattle.program.proofs.PlaceLaws.{Loads, loaded, loads_read}
use Rattle.program.proofs.SkipLaws.{first_behind}
use Rattle.program.proofs.MarkLaws.{zero_at, byte_mark, mark_behind, mark_byte}

-- The places from `above` on have their ends in m, and those before still have what they had. `after` is the end from the lowest place on, of
-- the places that are done, where something starts.
pub record Filling (m : Code) (before ends : List ℕ) (above after : ℕ) : Type 0 where
  pub left : (p : ℕ) → p < above → get_or ends p 0 ≡ get_or before p 0
  pub done : (p : ℕ) → above ≤ p → p < length ends → get_or ends p 0 ≡ end_of (code_at m p)
  pub next :
      (p : ℕ) (c : Code) → above ≤ p → ((q : ℕ) → above ≤ q → q < p → code_at m q ≡ none) → code_at m p ≡ some c → after ≡ suc (last c)

-- what a mark tells of its place
mark_code :
    (b : Body) (bytes marks : List ℕ) (p : ℕ) → Fits b → bytes ≡ encode b → Outside bytes marks → p < length marks
    → get_or marks p 0 ≡ cond (is_some (code_at (located b) p)) 1 0
unfolding byte_mark is_some size
mark_code b bytes marks p fits same outside lt = outside p lt ∙ go (ltb p (length bytes)) refl
  where
    long : length bytes ≡ size b
    long = ap length same

    go : (t : Bool) → ltb p (length bytes) ≡ t → byte_mark bytes p ≡ cond (is_some (code_at (located b) p)) 1 0
    go true e =
        let lt : p < length bytes = ltb-true p (length bytes) e in
        sym (mark_byte bytes p _ lt (ap (λ l. in_number l p) (sym same)))
        ∙ ap (λ (t : Bool). cond t 1 0) (starts b p fits.numbers (omega (arith, long)))
    go false e =
        let le : length bytes ≤ p = ltb-false p (length bytes) e in
        sym (mark_behind bytes p le) ∙ ap (λ x. cond (is_some x) 1 0) (sym (starts_within b p (omega (arith, long))))

-- nothing starts where it is 0, and where it is not, something does
unmarked : (x : Option Code) {mark : ℕ} → mark ≡ cond (is_some x) 1 0 → mark ≡ 0 → x ≡ none
unfolding is_some
unmarked none is h = refl
unmarked (some c) is h = absurd (omega arith)

marked : (x : Option Code) {mark : ℕ} → mark ≡ cond (is_some x) 1 0 → (mark ≡ 0 → ⊥) → (c : Code) × (x ≡ some c)
unfolding is_some
marked none is h = absurd (h is)
marked (some c) is h = (c, refl)

-- before the first turn
pub filling_none :
    {bytes marks : List ℕ} (b : Body) → Fits b → bytes ≡ encode b → Outside bytes marks → Filling (located b) marks marks (length bytes) 0
unfolding end_of is_some size
filling_none {bytes} {marks} b fits same outside =
    record {
      left = λ p lt. refl;
      done = λ p le lt. go p le lt;
      next = λ p c le none' at. absurd (none-ne-some _ (sym (beyond p le) ∙ at));
    }
  where
    beyond : (p : ℕ) → length bytes ≤ p → code_at (located b) p ≡ none
    beyond p le = let long : length bytes ≡ size b = ap length same in starts_within b p (omega arith)

    go : (p : ℕ) → length bytes ≤ p → p < length marks → get_or marks p 0 ≡ end_of (code_at (located b) p)
    go p le lt = mark_code b bytes marks p fits same outside lt ∙ rw (beyond p le) refl

-- nothing starts at the next place
filling_past :
    {m : Code} {before ends : List ℕ} {after : ℕ} (o : ℕ) → Filling m before ends (suc o) after → code_at m o ≡ none → get_or ends o 0 ≡ 0
    → Filling m before ends o after
unfolding end_of
filling_past {m} {before} {ends} {after} o f nothing zero =
    record {
      left = λ p lt. f.left p (omega arith);
      done = λ p le lt. go p le lt (eqb p o) refl;
      next = λ p c le gap at. later p c le gap at (eqb p o) refl;
    }
  where
    go : (p : ℕ) → o ≤ p → p < length ends → (t : Bool) → eqb p o ≡ t → get_or ends p 0 ≡ end_of (code_at m p)
    go p le lt true e = rw (eqb-true p o e) (zero ∙ sym (ap end_of nothing))
    go p le lt false e = let other : p ≢ o = eqb-false p o e in f.done p (omega arith) lt

    later :
        (p : ℕ) (c : Code) → o ≤ p → ((q : ℕ) → o ≤ q → q < p → code_at m q ≡ none) → code_at m p ≡ some c → (t : Bool) → eqb p o ≡ t
        → after ≡ suc (last c)
    later p c le gap at true e = absurd (none-ne-some _ (sym nothing ∙ ap (code_at m) (sym (eqb-true p o e)) ∙ at))
    later p c le gap at false e =
        let other : p ≢ o = eqb-false p o e in
        f.next p c (omega arith) (λ q ge lt. gap q (omega arith) lt) at

-- code starts there, and its end is stored
filling_more :
    {m c : Code} {before ends : List ℕ} {after : ℕ} (o x : ℕ) → Filling m before ends (suc o) after → code_at m o ≡ some c → x ≡ suc (last c)
    → o < length ends → Filling m before (set ends o x) o x
unfolding end_of
filling_more {m} {c} {before} {ends} {after} o x f here ends_at within =
    record {
      left = λ p lt. get_or-set_other ends o p x 0 (omega arith) ∙ f.left p (omega arith);
      done = λ p le lt. go p le (omega (arith, length-set ends o x)) (eqb p o) refl;
      next = λ p d le gap at. later p d le gap at (eqb p o) refl;
    }
  where
    go : (p : ℕ) → o ≤ p → p < length ends → (t : Bool) → eqb p o ≡ t → get_or (set ends o x) p 0 ≡ end_of (code_at m p)
    go p le lt true e = rw (eqb-true p o e) (get_or-set_same ends o x 0 within ∙ ends_at ∙ sym (ap end_of here))
    go p le lt false e =
        let other : p ≢ o = eqb-false p o e in
        get_or-set_other ends o p x 0 other ∙ f.done p (omega arith) lt

    later :
        (p : ℕ) (d : Code) → o ≤ p → ((q : ℕ) → o ≤ q → q < p → code_at m q ≡ none) → code_at m p ≡ some d → (t : Bool) → eqb p o ≡ t
        → x ≡ suc (last d)
    later p d le gap at true e =
        ends_at ∙ ap (λ c. suc (last c)) (some-injective _ _ (sym here ∙ ap (code_at m) (sym (eqb-true p o e)) ∙ at))
    later p d le gap at false e =
        let other : p ≢ o = eqb-false p o e in
        absurd (none-ne-some _ (sym (gap o (omega arith) (omega arith)) ∙ here))

-- the byte that code begins with
first_byte_of : Code → ℕ
first_byte_of (end_byte_at o) = end_byte
first_byte_of (job_at o n r) = job_byte
first_byte_of (async_at o b r) = async_byte
first_byte_of (finish_at o b r) = finish_byte
first_byte_of (fork_at o b c r) = fork_byte
first_byte_of (future_at o b r) = future_byte
first_byte_of (force_at o n b r) = force_byte

first_locate : (opened : List Code) (o : ℕ) (b : Body) (rest : List ℕ) → get_or (encode b ++ rest) 0 0 ≡ first_byte_of (locate opened o b)
unfolding encode locate first_byte_of
first_locate opened o end rest = refl
first_locate opened o (job n r) rest = refl
first_locate opened o (async b r) rest = refl
first_locate opened o (finish b r) rest = refl
first_locate opened o (fork b c r) rest = refl
first_locate opened o (future b r) rest = refl
first_locate opened o (force n r) rest = refl

-- it stands in the program where the code starts
first_code : (b : Body) (p : ℕ) (c : Code) → code_at (located b) p ≡ some c → get_or (encode b) p 0 ≡ first_byte_of c
first_code b p c at = go (code_bytes b p c at)
  where
    go : Placed b p c → get_or (encode b) p 0 ≡ first_byte_of c
    go (placed opened b' rest is tail deep large) =
        sym (first_behind p (encode b)) ∙ ap (λ l. get_or l 0 0) tail ∙ first_locate opened p b' rest ∙ ap first_byte_of (sym is)

-- the code c starts at o in m, all places behind o have their ends, and there is room for those of m
record At (m : Code) (before ends : List ℕ) (o after : ℕ) (c : Code) : Type 0 where
  laid : Laid m
  room : last m < length ends
  there : code_at m o ≡ some c
  filling : Filling m before ends (suc o) after

-- what is right inside c starts within, and its end is there
inner_end :
    {m c d : Code} {before ends : List ℕ} {o after : ℕ} → At m before ends o after c → Inner c d
    → (start_of d < length ends) × (get_or ends (start_of d) 0 ≡ suc (last d))
unfolding end_of
inner_end {m} {c} {d} {ends = ends} {o = o} a i =
    let at : start_of c ≡ o = code_place m o a.there in
    let here : code_at m (start_of d) ≡ some d = code_inner m o a.laid a.there i in
    let (k, s, e) = laid_inner i (code_laid m o a.laid a.there) in
    let (s', i', e') = code_range m (start_of d) a.laid here in
    let within : start_of d < length ends = omega (arith, i', e', a.room) in
    (within, a.filling.done (start_of d) (omega (arith, s)) within ∙ ap end_of here)

-- `after` is the end of what is right inside c and starts first behind its first byte
after_end :
    {m c d : Code} {before ends : List ℕ} {o after : ℕ} → At m before ends o after c → Inner c d
    → ((q : ℕ) → start_of c < q → q < start_of d → code_at c q ≡ none) → after ≡ suc (last d)
after_end {m} {c} {d} {o = o} a i gap =
    let at : start_of c ≡ o = code_place m o a.there in
    let (k, s, e) = laid_inner i (code_laid m o a.laid a.there) in
    a.filling.next (start_of d) d (omega (arith, s))
    (λ q lt lt'. code_same m o q a.laid a.there (omega arith) (omega (arith, laid_le d k, e)) ∙ gap q (omega arith) lt')
    (code_inner m o a.laid a.there i)

-- that is the first body, where the item has one
after_body :
    {m c d : Code} {before ends : List ℕ} {o after : ℕ} → At m before ends o after c → Inner c d → start_of d ≡ suc (start_of c)
    → after ≡ suc (last d)
after_body a i is = after_end a i (λ q lt lt'. absurd (omega arith))

-- the end of what is right inside c, looked for where it starts
inner_told :
    {m c d : Code} {before ends : List ℕ} {o after p : ℕ} → At m before ends o after c → Inner c d → p ≡ start_of d → get_or ends p 0 ≡ suc (last d)
inner_told {ends = ends} a i is = ap (λ (k : ℕ). get_or ends k 0) is ∙ (inner_end a i).1

-- so the code's first byte tells its end
end_told : {m : Code} {before ends : List ℕ} {o after : ℕ} (c : Code) → At m before ends o after c → end_by (first_byte_of c) o after ends ≡ suc (last c)
unfolding end_by first_byte_of opens_number last start_of code_at Laid
end_told {m} {o = o} (end_byte_at x) a = let at : x ≡ o = code_place m o a.there in omega arith
end_told {m} {o = o} (job_at x n r) a =
    let l = code_laid m o a.laid a.there in
    after_end a job_rest (λ q lt lt'. here_later x q _ _ lt ∙ code_before r q l.1 lt')
end_told {m} {o = o} (async_at x b r) a =
    let l = code_laid m o a.laid a.there in
    inner_told a async_rest (after_body a async_body l.0.starts ∙ l.0.ends)
end_told {m} {o = o} (finish_at x b r) a =
    let l = code_laid m o a.laid a.there in
    inner_told a finish_rest (after_body a finish_body l.0.starts ∙ l.0.ends)
end_told {m} {o = o} (fork_at x b c r) a =
    let l = code_laid m o a.laid a.there in
    inner_told a fork_rest (inner_told a fork_right (after_body a fork_left l.0.starts ∙ l.0.between) ∙ l.0.ends)
end_told {m} {o = o} (future_at x b r) a =
    let l = code_laid m o a.laid a.there in
    inner_told a future_rest (after_body a future_body l.0.starts ∙ l.0.ends)
end_told {m} {o = o} (force_at x n b r) a =
    let l = code_laid m o a.laid a.there in
    after_end a force_rest (λ q lt lt'. here_later x q _ _ lt ∙ code_before r q l.1 lt')

-- and what is looked at for it has an end
looks_told : {m : Code} {before ends : List ℕ} {o after : ℕ} (c : Code) → At m before ends o after c → LooksWithin (first_byte_of c) after ends
unfolding first_byte_of opens_number start_of Laid
looks_told (end_byte_at x) a item other = absurd (item refl)
looks_told (job_at x n r) a item other = absurd (true≢false other)
looks_told {m} {o = o} (async_at x b r) a item other =
    let l = code_laid m o a.laid a.there in
    (omega (arith, after_body a async_body l.0.starts, l.0.ends, (inner_end a async_rest).0), λ e. absurd (omega arith))
looks_told {m} {o = o} (finish_at x b r) a item other =
    let l = code_laid m o a.laid a.there in
    (omega (arith, after_body a finish_body l.0.starts, l.0.ends, (inner_end a finish_rest).0), λ e. absurd (omega arith))
looks_told {m} {o = o} (fork_at x b c r) a item other =
    let l = code_laid m o a.laid a.there in
    let right = after_body a fork_left l.0.starts ∙ l.0.between in (
      omega (arith, right, (inner_end a fork_right).0),
      λ e. rw (inner_told a fork_right right) (omega (arith, l.0.ends, (inner_end a fork_rest).0)),
    )
looks_told {m} {o = o} (future_at x b r) a item other =
    let l = code_laid m o a.laid a.there in
    (omega (arith, after_body a future_body l.0.starts, l.0.ends, (inner_end a future_rest).0), λ e. absurd (omega arith))
looks_told (force_at x n b r) a item other = absurd (true≢false other)

-- ends in which the places of the program's tree from `above` on are done
abbrev pub Filled : List ℕ → List ℕ → List ℕ → ℕ → ℕ → Type 0
Filled bytes before ends above after = (b : Body) → Fits b → bytes ≡ encode b → Filling (located b) before ends above after

-- the turn at o, where all places behind it are done
pub record Turn (bytes before ends : List ℕ) (o after : ℕ) : Type 0 where
  pub few : length bytes ≤ program_bytes
  pub long : length ends ≡ program_bytes
  pub kept : length ends ≡ length before
  pub outside : Outside bytes before
  pub within : o < length bytes
  pub filled : Filled bytes before ends (suc o) after

-- no mark is there
pub filled_past : {bytes before ends : List ℕ} {o after : ℕ} → Turn bytes before ends o after → get_or ends o 0 ≡ 0 → Filled bytes before ends o after
filled_past {bytes} {before} {o = o} t zero b fits same =
    let f = t.filled b fits same in
    let lt : o < length before = omega (arith, t.few, t.long, t.kept, t.within) in
    filling_past o f (unmarked _ (mark_code b bytes before o fits same t.outside lt) (sym (f.left o (omega arith)) ∙ zero)) zero

-- a mark is there: code starts, with the byte that stands there
data Marked (bytes before ends : List ℕ) (o after : ℕ) (b : Body) : Type 0 where
  marked_at : (c : Code) → At (located b) before ends o after c → get_or bytes o 0 ≡ first_byte_of c → Marked bytes before ends o after b

marked_turn :
    {bytes before ends : List ℕ} {o after : ℕ} → Turn bytes before ends o after → (get_or ends o 0 ≡ 0 → ⊥) → (b : Body) → Fits b
    → bytes ≡ encode b → Marked bytes before ends o after b
unfolding located size
marked_turn {bytes} {before} {ends} {o} t there b fits same =
    let f = t.filled b fits same in
    let lt : o < length before = omega (arith, t.few, t.long, t.kept, t.within) in
    let (c, at) = marked _ (mark_code b bytes before o fits same t.outside lt) (λ zero. there (f.left o (omega arith) ∙ zero)) in
    let long : length bytes ≡ size b = ap length same in
    let fits_in : suc (last (located b)) ≡ 0 + size b = last-locate [] 0 b in
    marked_at c
    (record { laid = laid_located b; room = omega (arith, t.few, t.long); there = at; filling = f })
    (ap (λ l. get_or l o 0) same ∙ first_code b o c at)

-- what `end_from` asks
pub looks_within :
    {bytes before ends : List ℕ} {o after : ℕ} → Turn bytes before ends o after → (get_or ends o 0 ≡ 0 → ⊥) → Encoding bytes
    → LooksWithin (get_or bytes o 0) after ends
looks_within {bytes} {before} {ends} {o} {after} t there (encoding b fits futures same) = go (marked_turn t there b fits same)
  where
    go : Marked bytes before ends o after b → LooksWithin (get_or bytes o 0) after ends
    go (marked_at c a is) = subst (λ (x : ℕ). LooksWithin x after ends) (sym is) (looks_told c a)

-- what it tells is the end from there on
pub filled_more :
    {bytes before ends : List ℕ} {o after : ℕ} (x : ℕ) → Turn bytes before ends o after → (get_or ends o 0 ≡ 0 → ⊥)
    → x ≡ end_by (get_or bytes o 0) o after ends → Filled bytes before (set ends o x) o x
filled_more {bytes} {before} {ends} {o} {after} x t there is b fits same = go (marked_turn t there b fits same)
  where
    go : Marked bytes before ends o after b → Filling (located b) before (set ends o x) o x
    go (marked_at c a first) =
        filling_more o x (t.filled b fits same) a.there
        (is ∙ ap (λ (y : ℕ). end_by y o after ends) first ∙ end_told c a)
        (omega (arith, t.few, t.long, t.within))

-- ends that are all 0
pub all_zero : (ends : List ℕ) (n : ℕ) → ends ≡ replicate n 0 → (length ends ≡ n) × (ends ≡ replicate (length ends) 0)
all_zero ends n is = let long : length ends ≡ n = ap length is ∙ length-replicate n 0 in (long, is ∙ ap (λ (k : ℕ). replicate k 0) (sym long))

-- the program is refused: nothing starts, and all ends are 0
pub ends_refused :
    (ed : Edition) (bytes ends : List ℕ) → is_read (reading ed bytes) ≡ false → ends ≡ replicate (length ends) 0 → MarksEnds ed bytes ends
unfolding is_read end_at end_in
ends_refused ed bytes ends is zeros p lt = zero_at ends zeros p lt ∙ go (reading ed bytes) is
  where
    go : (r : Reading) → is_read r ≡ false → 0 ≡ end_in r p
    go (program b) is = absurd (true≢false is)
    go (refusal n p) is = refl

-- it is read: the ends are those in its tree
pub ends_read : (ed : Edition) (bytes ends : List ℕ) → is_read (reading ed bytes) ≡ true → Ended bytes ends → MarksEnds ed bytes ends
unfolding end_at end_in
ends_read ed bytes ends is ended p lt = go (loads_read ed bytes is)
  where
    go : Loads ed bytes → get_or ends p 0 ≡ end_at ed bytes p
    go (loaded b e same long fits) = ended b fits.fits same p lt ∙ sym (ap (λ r. end_in r p) e)

-- Something starts just where the end is not 0: where the body ends is past its end byte.
pub ends_tell_starts :
    (ed : Edition) (bytes ends : List ℕ) (p : ℕ) → MarksEnds ed bytes ends → p < length ends → not (eqb (get_or ends p 0) 0) ≡ starts_at ed bytes p
unfolding end_at end_in end_of starts_at starts_in is_some
ends_tell_starts ed bytes ends p marks lt = ap (λ (n : ℕ). not (eqb n 0)) (marks p lt) ∙ go (reading ed bytes)
  where
    told : (x : Option Code) → not (eqb (end_of x) 0) ≡ is_some x
    told none = refl
    told (some c) = ap not (ne_eqb (suc (last c)) 0 (omega arith))

    go : (r : Reading) → not (eqb (end_in r p) 0) ≡ starts_in r p
    go (program b) = told (code_at (located b) p)
    go (refusal n q) = refl

-- what each path through `end_from` tells: an end byte,
pub by_end : (first place after : ℕ) (ends : List ℕ) → first ≡ end_byte → place + 1 ≡ end_by first place after ends
unfolding end_by
by_end first place after ends is = rw is refl

-- a job or a force,
pub by_number :
    (first place after : ℕ) (ends : List ℕ) → (first ≡ end_byte → ⊥) → opens_number first ≡ true → after ≡ end_by first place after ends
unfolding end_by
by_number first place after ends item is = rw (ne_eqb first end_byte item, is) refl

-- a fork,
pub by_fork :
    (first place after : ℕ) (ends : List ℕ) → first ≡ fork_byte → get_or ends (get_or ends after 0) 0 ≡ end_by first place after ends
unfolding end_by opens_number
by_fork first place after ends is = rw is refl

-- and an item with one body
pub by_one :
    (first place after : ℕ) (ends : List ℕ) → (first ≡ end_byte → ⊥) → opens_number first ≡ false → (first ≡ fork_byte → ⊥)
    → get_or ends after 0 ≡ end_by first place after ends
unfolding end_by
by_one first place after ends item other one = rw (ne_eqb first end_byte item, other, ne_eqb first fork_byte one) refl
