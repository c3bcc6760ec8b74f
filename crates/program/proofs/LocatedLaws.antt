-- Located trees: the laws of code laid out in a program, and of what starts at a place of it, so that proofs above need not look at
-- bytes. They hold of any laid code m, and `laid_locate` says that a tree laid out from an offset is laid.
--
--     place_locate   start_of (locate opened o b) ≡ o
--     last-locate    suc (last (locate opened o b)) ≡ o + size b
--     laid_locate    Laid (locate opened o b), whatever futures are open; laid_located the same of a program
--     head-locate    head (locate opened o b) ≡ head (locate opened' o b)
--     laid_le        Laid m → start_of m ≤ last m
--
--     code_here      code_at m (start_of m) ≡ some m
--     code_end       code_at m (last m) ≡ some (end_byte_at (last m))
-- and with h : code_at m p ≡ some c, in laid code m
--     code_place     start_of c ≡ p (this needs no Laid m)
--     code_laid      Laid c
--     code_range     start_of m ≤ p, p ≤ last c, last c ≤ last m
--     code_inner     code_at m (start_of d) ≡ some d, where Inner c d: d is a body of c's first item (async_body, finish_body, fork_left,
--                    fork_right, future_body), or what is behind this item (job_rest, async_rest, finish_rest, fork_rest, future_rest,
--                    force_rest); a force's own body is not inside it
--     code_same      code_at m q ≡ code_at c q, where p ≤ q and q ≤ last c
--     code_missing   code_at m p ≡ none, where p is outside of m; code_before the same before its start
--     item_stands    item_at ed bytes p ≡ head c, where reading ed bytes ≡ program t and m is located t
--
-- `Part m c`, c is m or is anywhere inside, is what these have in common: a search finds parts (code_part), and in laid code it finds
-- each at its place (part_code).
use Prim.Native.Nat.{ℕ, suc, ◌+◌, ◌<◌, ◌≤◌}
use mathlib.Core.Path.{◌≡◌, refl, sym, ◌∙◌, ap, subst}
use mathlib.Core.Bool.{Bool, true, false}
use mathlib.Core.List.{List, [], ◌∷◌, ◌++◌}
use mathlib.Core.Option.{Option, none, some, some-injective, none-ne-some}
use native.Mathlib.Omega.{arith}
use lib.Dec.{eqb}
use lib.ListN.{length-append}
use borrow.Author.Tests.{eqb-true, eq-eqb, ne_eqb}
use Rattle.program.specs.declared.Edition.{Edition}
use Rattle.program.specs.Trees.{Body, end, job, async, finish, fork, future, force}
use Rattle.program.specs.Bytes.{encode_number, encode, number_size, size}
use Rattle.program.specs.Reader.{program, reading}
use Rattle.program.specs.Located.{Code, end_byte_at, job_at, async_at, finish_at, fork_at, future_at, force_at, locate, located}
use Rattle.program.specs.Located.{start_of, last, here, or_else, code_at, head, found, stands_in, item_at}

-- a search that finds code has it here, or among the others
pub here_cases :
    {P : Type 0} {c : Code} (t : Bool) (m : Code) (x : Option Code) → here t m x ≡ some c → (t ≡ true → m ≡ c → P)
    → (x ≡ some c → P) → P
unfolding here
here_cases true m x h f g = f refl (some-injective _ _ h)
here_cases false m x h f g = g h

-- and of two, in the first or in the second
pub or_else_cases : {P : Type 0} {c : Code} (x y : Option Code) → or_else x y ≡ some c → (x ≡ some c → P) → (y ≡ some c → P) → P
unfolding or_else
or_else_cases none y h f g = g h
or_else_cases (some c) y h f g = f h

-- it is here at its own place, and not here behind it
here_now : (o : ℕ) (c : Code) (x : Option Code) → here (eqb o o) c x ≡ some c
unfolding here
here_now o c x = rw (eq-eqb o o refl) refl

pub here_later : (o p : ℕ) (c : Code) (x : Option Code) → o < p → here (eqb p o) c x ≡ x
unfolding here
here_later o p c x h = rw (ne_eqb p o (λ q. absurd (omega arith))) refl

-- where the second has nothing, the first counts, and where the first has nothing, the second
or_else_first : (x : Option Code) {y : Option Code} → y ≡ none → or_else x y ≡ x
unfolding or_else
or_else_first none q = q
or_else_first (some c) q = refl

pub or_else-none : {x : Option Code} (y : Option Code) → x ≡ none → or_else x y ≡ y
unfolding or_else
or_else-none y q = rw q refl

-- code right inside another: what is behind its first item, or a body that this item holds
pub data Inner : Code → Code → Type 0 where
  job_rest : {o n : ℕ} {r : Code} → Inner (job_at o n r) r
  async_body : {o : ℕ} {b r : Code} → Inner (async_at o b r) b
  async_rest : {o : ℕ} {b r : Code} → Inner (async_at o b r) r
  finish_body : {o : ℕ} {b r : Code} → Inner (finish_at o b r) b
  finish_rest : {o : ℕ} {b r : Code} → Inner (finish_at o b r) r
  fork_left : {o : ℕ} {b c r : Code} → Inner (fork_at o b c r) b
  fork_right : {o : ℕ} {b c r : Code} → Inner (fork_at o b c r) c
  fork_rest : {o : ℕ} {b c r : Code} → Inner (fork_at o b c r) r
  future_body : {o : ℕ} {b r : Code} → Inner (future_at o b r) b
  future_rest : {o : ℕ} {b r : Code} → Inner (future_at o b r) r
  force_rest : {o n : ℕ} {b r : Code} → Inner (force_at o n b r) r

-- code anywhere inside another, or itself
pub data Part : Code → Code → Type 0 where
  itself : {m : Code} → Part m m
  inside : {m d c : Code} → Inner m d → Part d c → Part m c

-- a part of a part
join : {m d c : Code} → Part m d → Part d c → Part m c
join itself q = q
join (inside i p) q = inside i (join p q)

-- what a search finds
abbrev Hit : Code → ℕ → Code → Type 0
Hit m p c = Part m c × (start_of c ≡ p)

-- the code itself, and a part
hit_here : (m : Code) (o p : ℕ) {c : Code} → start_of m ≡ o → eqb p o ≡ true → m ≡ c → Hit m p c
hit_here m o p q t e = (subst (λ (x : Code). Part m x) e itself, ap start_of (sym e) ∙ q ∙ sym (eqb-true p o t))

hit_inside : {m d c : Code} {p : ℕ} → Inner m d → Hit d p c → Hit m p c
hit_inside i h = (inside i h.0, h.1)

-- a search finds parts, each at its place
code_hit : (m : Code) (p : ℕ) {c : Code} → code_at m p ≡ some c → Hit m p c
unfolding code_at start_of
code_hit (end_byte_at o) p h = here_cases (eqb p o) _ _ h (hit_here _ o p refl) (λ q. absurd (none-ne-some _ q))
code_hit (job_at o n r) p h = here_cases (eqb p o) _ _ h (hit_here _ o p refl) (λ q. hit_inside job_rest (code_hit r p q))
code_hit (async_at o b r) p h =
    here_cases (eqb p o) _ _ h (hit_here _ o p refl)
    (λ q. or_else_cases _ _ q (λ q. hit_inside async_body (code_hit b p q)) (λ q. hit_inside async_rest (code_hit r p q)))
code_hit (finish_at o b r) p h =
    here_cases (eqb p o) _ _ h (hit_here _ o p refl)
    (λ q. or_else_cases _ _ q (λ q. hit_inside finish_body (code_hit b p q)) (λ q. hit_inside finish_rest (code_hit r p q)))
code_hit (fork_at o b c r) p h =
    here_cases (eqb p o) _ _ h (hit_here _ o p refl)
    (λ q. or_else_cases _ _ q (λ q. hit_inside fork_left (code_hit b p q))
    (λ q. or_else_cases _ _ q (λ q. hit_inside fork_right (code_hit c p q)) (λ q. hit_inside fork_rest (code_hit r p q))))
code_hit (future_at o b r) p h =
    here_cases (eqb p o) _ _ h (hit_here _ o p refl)
    (λ q. or_else_cases _ _ q (λ q. hit_inside future_body (code_hit b p q)) (λ q. hit_inside future_rest (code_hit r p q)))
code_hit (force_at o n b r) p h = here_cases (eqb p o) _ _ h (hit_here _ o p refl) (λ q. hit_inside force_rest (code_hit r p q))

pub code_part : (m : Code) (p : ℕ) {c : Code} → code_at m p ≡ some c → Part m c
code_part m p h = (code_hit m p h).0

pub code_place : (m : Code) (p : ℕ) {c : Code} → code_at m p ≡ some c → start_of c ≡ p
code_place m p h = (code_hit m p h).1

-- the rest r of a body, behind a job or a force at o
pub record Behind (o : ℕ) (r : Code) : Type 0 where
  pub starts : o < start_of r
  pub rest : start_of r ≤ last r

-- the body b that an item at o holds, and the rest r
pub record OneBody (o : ℕ) (b r : Code) : Type 0 where
  pub starts : start_of b ≡ suc o
  pub body : start_of b ≤ last b
  pub ends : suc (last b) ≡ start_of r
  pub rest : start_of r ≤ last r

-- the bodies b and c that an item at o holds, and the rest r
pub record TwoBodies (o : ℕ) (b c r : Code) : Type 0 where
  pub starts : start_of b ≡ suc o
  pub left : start_of b ≤ last b
  pub between : suc (last b) ≡ start_of c
  pub right : start_of c ≤ last c
  pub ends : suc (last c) ≡ start_of r
  pub rest : start_of r ≤ last r

-- code whose parts stand one behind the other
unfoldable pub Laid : Code → Type 0
Laid (end_byte_at o) = Unit {0}
Laid (job_at o n r) = Behind o r × Laid r
Laid (async_at o b r) = OneBody o b r × Laid b × Laid r
Laid (finish_at o b r) = OneBody o b r × Laid b × Laid r
Laid (fork_at o b c r) = TwoBodies o b c r × Laid b × Laid c × Laid r
Laid (future_at o b r) = OneBody o b r × Laid b × Laid r
Laid (force_at o n b r) = Behind o r × Laid r

-- where a body that is laid out starts and ends, whatever futures are open
pub place_locate : (opened : List Code) (o : ℕ) (b : Body) → start_of (locate opened o b) ≡ o
unfolding locate start_of
place_locate opened o end = refl
place_locate opened o (job n r) = refl
place_locate opened o (async b r) = refl
place_locate opened o (finish b r) = refl
place_locate opened o (fork b c r) = refl
place_locate opened o (future b r) = refl
place_locate opened o (force n r) = refl

pub last-locate : (opened : List Code) (o : ℕ) (b : Body) → suc (last (locate opened o b)) ≡ o + size b
unfolding locate last size number_size encode
last-locate opened o end = omega arith
last-locate opened o (job n r) =
    omega (arith, last-locate opened (suc (o + number_size n)) r, length-append (encode_number n) (encode r))
last-locate opened o (async b r) = omega (arith, last-locate opened (suc (o + size b)) r, length-append (encode b) (encode r))
last-locate opened o (finish b r) = omega (arith, last-locate opened (suc (o + size b)) r, length-append (encode b) (encode r))
last-locate opened o (fork b c r) =
    let split = length-append (encode b) (encode c ++ encode r) in
    omega (arith, last-locate opened (suc (o + size b + size c)) r, split, length-append (encode c) (encode r))
last-locate opened o (future b r) =
    omega (arith, last-locate (locate opened (suc o) b ∷ opened) (suc (o + size b)) r, length-append (encode b) (encode r))
last-locate opened o (force n r) =
    omega (arith, last-locate opened (suc (o + number_size n)) r, length-append (encode_number n) (encode r))

-- a body has a byte
size_some : (b : Body) → 0 < size b
unfolding size encode
size_some end = omega arith
size_some (job n r) = omega arith
size_some (async b r) = omega arith
size_some (finish b r) = omega arith
size_some (fork b c r) = omega arith
size_some (future b r) = omega arith
size_some (force n r) = omega arith

-- so it ends where it starts, or behind
le_locate : (opened : List Code) (o : ℕ) (b : Body) → start_of (locate opened o b) ≤ last (locate opened o b)
le_locate opened o b = omega (arith, place_locate opened o b, last-locate opened o b, size_some b)

-- and what is laid out behind it starts there
next_locate :
    (opened opened' : List Code) (o o' : ℕ) (b r : Body) → o' ≡ o + size b
    → suc (last (locate opened o b)) ≡ start_of (locate opened' o' r)
next_locate opened opened' o o' b r e = last-locate opened o b ∙ sym e ∙ sym (place_locate opened' o' r)

-- the parts of an item
behind_locate : (opened : List Code) (o n : ℕ) (r : Body) → Behind o (locate opened (suc (o + n)) r)
behind_locate opened o n r =
    record { starts = omega (arith, place_locate opened (suc (o + n)) r); rest = le_locate opened (suc (o + n)) r }

one_locate :
    (opened opened' : List Code) (o o' : ℕ) (b r : Body) → o' ≡ suc o + size b
    → OneBody o (locate opened (suc o) b) (locate opened' o' r)
one_locate opened opened' o o' b r e =
    record {
      starts = place_locate opened (suc o) b;
      body = le_locate opened (suc o) b;
      ends = next_locate opened opened' (suc o) o' b r e;
      rest = le_locate opened' o' r;
    }

two_locate :
    (opened : List Code) (o o' o'' : ℕ) (b c r : Body) → o' ≡ suc o + size b → o'' ≡ o' + size c
    → TwoBodies o (locate opened (suc o) b) (locate opened o' c) (locate opened o'' r)
two_locate opened o o' o'' b c r e e' =
    record {
      starts = place_locate opened (suc o) b;
      left = le_locate opened (suc o) b;
      between = next_locate opened opened (suc o) o' b c e;
      right = le_locate opened o' c;
      ends = next_locate opened opened o' o'' c r e';
      rest = le_locate opened o'' r;
    }

-- a tree that is laid out is laid
pub laid_locate : (opened : List Code) (o : ℕ) (b : Body) → Laid (locate opened o b)
unfolding Laid locate
laid_locate opened o end = tt
laid_locate opened o (job n r) = (behind_locate opened o _ r, laid_locate opened (suc (o + number_size n)) r)
laid_locate opened o (async b r) =
    (one_locate opened _ o _ b r (omega arith), laid_locate opened (suc o) b, laid_locate opened (suc (o + size b)) r)
laid_locate opened o (finish b r) =
    (one_locate opened _ o _ b r (omega arith), laid_locate opened (suc o) b, laid_locate opened (suc (o + size b)) r)
laid_locate opened o (fork b c r) = (
  two_locate opened o _ _ b c r (omega arith) (omega arith),
  laid_locate opened (suc o) b,
  laid_locate opened (suc (o + size b)) c,
  laid_locate opened (suc (o + size b + size c)) r,
)
laid_locate opened o (future b r) = (
  one_locate opened _ o _ b r (omega arith),
  laid_locate opened (suc o) b,
  laid_locate (locate opened (suc o) b ∷ opened) (suc (o + size b)) r,
)
laid_locate opened o (force n r) = (behind_locate opened o _ r, laid_locate opened (suc (o + number_size n)) r)

-- so a program is laid
pub laid_located : (b : Body) → Laid (located b)
unfolding located
laid_located b = laid_locate [] 0 b

-- what stands first in a tree does not depend on what is open
pub head-locate : (opened opened' : List Code) (o : ℕ) (b : Body) → head (locate opened o b) ≡ head (locate opened' o b)
unfolding locate head
head-locate opened opened' o end = refl
head-locate opened opened' o (job n r) = rw (place_locate opened _ r, place_locate opened' _ r) refl
head-locate opened opened' o (async b r) =
    rw (place_locate opened _ b, place_locate opened _ r, place_locate opened' _ b, place_locate opened' _ r) refl
head-locate opened opened' o (finish b r) =
    rw (place_locate opened _ b, place_locate opened _ r, place_locate opened' _ b, place_locate opened' _ r) refl
head-locate opened opened' o (fork b c r) =
    rw (place_locate opened _ b, place_locate opened _ c, place_locate opened _ r)
    (rw (place_locate opened' _ b, place_locate opened' _ c, place_locate opened' _ r) refl)
head-locate opened opened' o (future b r) =
    rw (place_locate opened _ b, place_locate _ _ r, place_locate opened' _ b, place_locate _ _ r) refl
head-locate opened opened' o (force n r) = rw (place_locate opened _ r, place_locate opened' _ r) refl

-- laid code ends where it starts, or behind
pub laid_le : (m : Code) → Laid m → start_of m ≤ last m
unfolding Laid start_of last
laid_le (end_byte_at o) l = omega arith
laid_le (job_at o n r) l = omega (arith, l.0.starts, l.0.rest)
laid_le (async_at o b r) l = omega (arith, l.0.starts, l.0.body, l.0.ends, l.0.rest)
laid_le (finish_at o b r) l = omega (arith, l.0.starts, l.0.body, l.0.ends, l.0.rest)
laid_le (fork_at o b c r) l = omega (arith, l.0.starts, l.0.left, l.0.between, l.0.right, l.0.ends, l.0.rest)
laid_le (future_at o b r) l = omega (arith, l.0.starts, l.0.body, l.0.ends, l.0.rest)
laid_le (force_at o n b r) l = omega (arith, l.0.starts, l.0.rest)

-- what is inside laid code is laid, and stands behind its start and before its end
pub laid_inner : {m d : Code} → Inner m d → Laid m → Laid d × (start_of m < start_of d) × (last d ≤ last m)
unfolding Laid start_of last
laid_inner job_rest l = (l.1, l.0.starts, omega arith)
laid_inner async_body l = (l.1, omega (arith, l.0.starts), omega (arith, l.0.ends, l.0.rest))
laid_inner async_rest l = (l.2, omega (arith, l.0.starts, l.0.body, l.0.ends), omega arith)
laid_inner finish_body l = (l.1, omega (arith, l.0.starts), omega (arith, l.0.ends, l.0.rest))
laid_inner finish_rest l = (l.2, omega (arith, l.0.starts, l.0.body, l.0.ends), omega arith)
laid_inner fork_left l = (l.1, omega (arith, l.0.starts), omega (arith, l.0.between, l.0.right, l.0.ends, l.0.rest))
laid_inner fork_right l = (l.2, omega (arith, l.0.starts, l.0.left, l.0.between), omega (arith, l.0.ends, l.0.rest))
laid_inner fork_rest l = (l.3, omega (arith, l.0.starts, l.0.left, l.0.between, l.0.right, l.0.ends), omega arith)
laid_inner future_body l = (l.1, omega (arith, l.0.starts), omega (arith, l.0.ends, l.0.rest))
laid_inner future_rest l = (l.2, omega (arith, l.0.starts, l.0.body, l.0.ends), omega arith)
laid_inner force_rest l = (l.1, l.0.starts, omega arith)

-- the same of any part
laid_part : {m c : Code} → Part m c → Laid m → Laid c × (start_of m ≤ start_of c) × (last c ≤ last m)
laid_part itself l = (l, omega arith, omega arith)
laid_part (inside i p) l =
    let (k, s, e) = laid_inner i l in
    let (k', s', e') = laid_part p k in
    (k', omega (arith, s, s'), omega (arith, e, e'))

-- code starts at its own place
pub code_here : (m : Code) → code_at m (start_of m) ≡ some m
unfolding code_at start_of
code_here (end_byte_at o) = here_now o _ _
code_here (job_at o n r) = here_now o _ _
code_here (async_at o b r) = here_now o _ _
code_here (finish_at o b r) = here_now o _ _
code_here (fork_at o b c r) = here_now o _ _
code_here (future_at o b r) = here_now o _ _
code_here (force_at o n b r) = here_now o _ _

-- what starts at a place is laid, and stands within
pub code_laid : (m : Code) (p : ℕ) {c : Code} → Laid m → code_at m p ≡ some c → Laid c
code_laid m p l h = (laid_part (code_part m p h) l).0

pub code_range :
    (m : Code) (p : ℕ) {c : Code} → Laid m → code_at m p ≡ some c → (start_of m ≤ p) × (p ≤ last c) × (last c ≤ last m)
code_range m p {c} l h =
    let at : start_of c ≡ p = code_place m p h in
    let (k, s, e) = laid_part (code_part m p h) l in
    (omega (arith, s), omega (arith, laid_le c k), e)

-- nothing starts outside
pub code_missing : (m : Code) (p : ℕ) → Laid m → (start_of m ≤ p → p ≤ last m → ⊥) → code_at m p ≡ none
code_missing m p l out = go (code_at m p) refl
  where
    go : (x : Option Code) → code_at m p ≡ x → x ≡ none
    go none h = refl
    go (some c) h = let (s, i, e) = code_range m p l h in absurd (out s (omega (arith, i, e)))

-- in particular behind its end
code_behind : (m : Code) (p : ℕ) → Laid m → last m < p → code_at m p ≡ none
code_behind m p l h = code_missing m p l (λ u v. absurd (omega arith))

-- and before its start
pub code_before : (m : Code) (p : ℕ) → Laid m → p < start_of m → code_at m p ≡ none
code_before m p l h = code_missing m p l (λ u v. absurd (omega arith))

-- of an item with one body: where the body's places are, and where those of the rest are
body_same :
    {o : ℕ} {b r : Code} (x : Code) (p : ℕ) → OneBody o b r → Laid r → start_of b ≤ p → p ≤ last b
    → here (eqb p o) x (or_else (code_at b p) (code_at r p)) ≡ code_at b p
body_same {r = r} x p one l le ge =
    here_later _ p _ _ (omega (arith, one.starts)) ∙ or_else_first _ (code_before r p l (omega (arith, one.ends)))

rest_same :
    {o : ℕ} {b r : Code} (x : Code) (p : ℕ) → OneBody o b r → Laid b → start_of r ≤ p
    → here (eqb p o) x (or_else (code_at b p) (code_at r p)) ≡ code_at r p
rest_same {b = b} x p one l le =
    here_later _ p _ _ (omega (arith, one.starts, one.body, one.ends)) ∙ or_else-none _ (code_behind b p l (omega (arith, one.ends)))

-- where the places of what is right inside are, the whole has what that has
inner_same : {m d : Code} (p : ℕ) → Inner m d → Laid m → start_of d ≤ p → p ≤ last d → code_at m p ≡ code_at d p
unfolding Laid code_at start_of
inner_same p job_rest l le ge = here_later _ p _ _ (omega (arith, l.0.starts))
inner_same p async_body l le ge = body_same _ p l.0 l.2 le ge
inner_same p async_rest l le ge = rest_same _ p l.0 l.1 le
inner_same p finish_body l le ge = body_same _ p l.0 l.2 le ge
inner_same p finish_rest l le ge = rest_same _ p l.0 l.1 le
inner_same p (fork_left {c = c} {r = r}) l le ge =
    here_later _ p _ _ (omega (arith, l.0.starts))
    ∙ or_else_first _ (or_else-none _ (code_before c p l.2 (omega (arith, l.0.between)))
    ∙ code_before r p l.3 (omega (arith, l.0.between, l.0.right, l.0.ends)))
inner_same p (fork_right {b = b} {r = r}) l le ge =
    here_later _ p _ _ (omega (arith, l.0.starts, l.0.left, l.0.between))
    ∙ or_else-none _ (code_behind b p l.1 (omega (arith, l.0.between)))
    ∙ or_else_first _ (code_before r p l.3 (omega (arith, l.0.ends)))
inner_same p (fork_rest {b = b} {c = c}) l le ge =
    here_later _ p _ _ (omega (arith, l.0.starts, l.0.left, l.0.between, l.0.right, l.0.ends))
    ∙ or_else-none _ (code_behind b p l.1 (omega (arith, l.0.between, l.0.right, l.0.ends)))
    ∙ or_else-none _ (code_behind c p l.2 (omega (arith, l.0.ends)))
inner_same p future_body l le ge = body_same _ p l.0 l.2 le ge
inner_same p future_rest l le ge = rest_same _ p l.0 l.1 le
inner_same p force_rest l le ge = here_later _ p _ _ (omega (arith, l.0.starts))

-- so it is with any part
part_same : {m c : Code} (p : ℕ) → Part m c → Laid m → start_of c ≤ p → p ≤ last c → code_at m p ≡ code_at c p
part_same p itself l le ge = refl
part_same p (inside i q) l le ge =
    let (k, s, e) = laid_inner i l in
    let (k', s', e') = laid_part q k in
    inner_same p i l (omega (arith, s')) (omega (arith, e')) ∙ part_same p q k le ge

-- and with what starts at a place
pub code_same : (m : Code) (p q : ℕ) {c : Code} → Laid m → code_at m p ≡ some c → p ≤ q → q ≤ last c → code_at m q ≡ code_at c q
code_same m p q l h le ge = part_same q (code_part m p h) l (omega (arith, code_place m p h)) ge

-- each part starts at its place
pub part_code : {m c : Code} → Part m c → Laid m → code_at m (start_of c) ≡ some c
part_code {c = c} q l = part_same (start_of c) q l (omega arith) (laid_le c (laid_part q l).0) ∙ code_here c

-- what is right inside code that starts at a place starts at its own place
pub code_inner : (m : Code) (p : ℕ) {c d : Code} → Laid m → code_at m p ≡ some c → Inner c d → code_at m (start_of d) ≡ some d
code_inner m p l h i = part_code (join (code_part m p h) (inside i itself)) l

-- code ends with an end byte
last_part : (m : Code) → Part m (end_byte_at (last m))
unfolding last
last_part (end_byte_at o) = itself
last_part (job_at o n r) = inside job_rest (last_part r)
last_part (async_at o b r) = inside async_rest (last_part r)
last_part (finish_at o b r) = inside finish_rest (last_part r)
last_part (fork_at o b c r) = inside fork_rest (last_part r)
last_part (future_at o b r) = inside future_rest (last_part r)
last_part (force_at o n b r) = inside force_rest (last_part r)

-- so an end byte stands at its last place
pub code_end : (m : Code) → Laid m → code_at m (last m) ≡ some (end_byte_at (last m))
unfolding start_of
code_end m l = part_code (last_part m) l

-- what stands at a place of a program
pub item_stands :
    (ed : Edition) (bytes : List ℕ) (t : Body) (p : ℕ) {c : Code} → reading ed bytes ≡ program t → code_at (located t) p ≡ some c
    → item_at ed bytes p ≡ head c
unfolding item_at stands_in found
item_stands ed bytes t p r h = rw (r, h) refl
