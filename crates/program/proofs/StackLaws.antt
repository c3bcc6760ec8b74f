-- The body reader without recursion: whether a program is read, told from inside a body by the items that are open around it. One law for each
-- kind of byte.
use Prim.Native.Nat.{ℕ, zero, suc, ◌+◌, ◌<◌, ◌≤◌}
use mathlib.Core.Path.{◌≡◌, refl, sym, ap, ◌∙◌}
use mathlib.Core.Bool.{Bool, true, false, cond, ◌&&◌}
use mathlib.Core.List.{List, [], ◌∷◌}
use native.Mathlib.Nat.{add-zero, add_assoc}
use native.Mathlib.Omega.{arith}
use lib.Dec.{eqb, leb}
use lib.ListN.{length, get_or, set}
use lib.Seq.{get_or-set_same, get_or-set_other}
use borrow.Author.Tests.{eq-eqb, ne_eqb}
use Rattle.program.specs.declared.Edition.{Edition}
use Rattle.program.specs.Limits.{level_limit, vertex_limit}
use Rattle.program.specs.Trees.{Kind, jobs, asyncs, finishes, forks, futures, forces, Body, end, Item, a_fork, with_first, open_behind, total}
use Rattle.program.specs.Bytes.{end_byte, job_byte, async_byte, finish_byte, fork_byte, future_byte, force_byte}
use Rattle.program.specs.Encodings.{row_of, weight, makes, items_weight, vertices_made}
use Rattle.program.specs.Reader.{Read, took, refused, and_then, item, body, program, refusal, counted, whole, reading}
use Rattle.program.specs.Internal.Progress.{is_read}
use Rattle.program.proofs.ReaderLaws.{item_first, body_empty, body_end, body-item, OpensOneBody, of_async, of_finish, of_future, item_one}
use Rattle.program.proofs.ReaderLaws.{item_fork, item_deep, item_unknown, Opener, holds_one, holds_two, opener_is}
use Rattle.program.proofs.ReadingLaws.{Within, reading_within}
use Rattle.program.proofs.ProgressLaws.{total_ahead}

-- the vertices that an item of a kind makes
abbrev pub vertices : Edition → Kind → ℕ
vertices ed k = weight makes (row_of ed k).commands

-- the first byte of an item of a kind
abbrev pub first_byte : Kind → ℕ
first_byte jobs = job_byte
first_byte asyncs = async_byte
first_byte finishes = finish_byte
first_byte forks = fork_byte
first_byte futures = future_byte
first_byte forces = force_byte

-- these numbers tell it by the first byte
abbrev pub Table : Edition → List ℕ → Type 0
Table ed made = (k : Kind) → get_or made (first_byte k) 0 ≡ vertices ed k

-- what comes behind a body that is read, with its vertices counted; one that is refused makes the program refused
unfoldable pub go_on : Edition → ℕ → Read Body → (ℕ → List ℕ → Bool) → Bool
go_on ed n (took b rest) next = next (n + total (vertices ed) b) rest
go_on ed n (refused m left) next = false

-- Behind the end of a body that `depth` items are open around: whether the rest makes the program one that is read, where n vertices are made so
-- far. By depth, `openers` has an item's first byte, which is a fork's just where its second body is still to come, and `behind` how many
-- futures are open behind the item.
unfoldable pub closes : Edition → List ℕ → List ℕ → ℕ → ℕ → List ℕ → Bool
closes ed openers behind zero n rest = eqb (length rest) 0 && leb n vertex_limit
closes ed openers behind (suc d) n rest =
    cond (eqb (get_or openers d 0) fork_byte)
    (go_on ed n (body (suc (suc d)) (get_or behind d 0) rest)
    (λ m rest'. go_on ed m (body (suc d) (get_or behind d 0) rest') (λ m' left. closes ed openers behind d m' left)))
    (go_on ed n (body (suc d) (get_or behind d 0) rest) (λ m rest'. closes ed openers behind d m rest'))

-- the same from inside the body, where so many futures are open
abbrev pub reads : Edition → List ℕ → List ℕ → ℕ → ℕ → ℕ → List ℕ → Bool
reads ed openers behind depth opened n left =
    go_on ed n (body (suc depth) opened left) (λ m rest. closes ed openers behind depth m rest)

-- two ways to go on that are alike
go_on_same :
    (ed : Edition) (n : ℕ) (o : Read Body) (f g : ℕ → List ℕ → Bool) → ((m : ℕ) (rest : List ℕ) → f m rest ≡ g m rest)
    → go_on ed n o f ≡ go_on ed n o g
unfolding go_on
go_on_same ed n (took b rest) f g h = h (n + total (vertices ed) b) rest
go_on_same ed n (refused m left) f g h = refl

cond_same : (t : Bool) {a b c d : Bool} → a ≡ c → b ≡ d → cond t a b ≡ cond t c d
cond_same true p q = p
cond_same false p q = q

-- only the items that are open count
closes_same :
    (ed : Edition) (ops ops' beh beh' : List ℕ) (depth : ℕ) → ((k : ℕ) → k < depth → get_or ops k 0 ≡ get_or ops' k 0)
    → ((k : ℕ) → k < depth → get_or beh k 0 ≡ get_or beh' k 0) → (n : ℕ) (rest : List ℕ)
    → closes ed ops beh depth n rest ≡ closes ed ops' beh' depth n rest
unfolding closes
closes_same ed ops ops' beh beh' zero p q n rest = refl
closes_same ed ops ops' beh beh' (suc d) p q n rest =
    let same : (m : ℕ) (left : List ℕ) → closes ed ops beh d m left ≡ closes ed ops' beh' d m left
    = closes_same ed ops ops' beh beh' d (λ k lt. p k (omega arith)) (λ k lt. q k (omega arith)) in
    rw (p d (omega arith), q d (omega arith))
    (cond_same (eqb (get_or ops' d 0) fork_byte)
    (go_on_same ed n (body (suc (suc d)) (get_or beh' d 0) rest) _ _
    (λ m left. go_on_same ed m (body (suc d) (get_or beh' d 0) left) _ _ same))
    (go_on_same ed n (body (suc d) (get_or beh' d 0) rest) _ _ same))

-- before the first byte
pub reads_first :
    (ed : Edition) (ops beh bytes : List ℕ) → Within bytes → is_read (reading ed bytes) ≡ reads ed ops beh 0 0 2 bytes
unfolding is_read whole counted go_on closes vertices_made items_weight
reads_first ed ops beh bytes within = ap is_read (reading_within ed bytes within) ∙ go (body 1 0 bytes)
  where
    said : (t : Bool) (b : Body) (n : ℕ) → is_read (cond t (program b) (refusal n 0)) ≡ t
    said true b n = refl
    said false b n = refl

    go : (o : Read Body) → is_read (whole ed (length bytes) o) ≡ go_on ed 2 o (λ m rest. closes ed ops beh 0 m rest)
    go (took b []) = said (leb (2 + total (vertices ed) b) vertex_limit) b _
    go (took b (x ∷ left)) =
        sym (ap (λ (t : Bool). t && leb (2 + total (vertices ed) b) vertex_limit) (ne_eqb (suc (length left)) 0 (omega arith)))
    go (refused n left) = refl

-- no byte is left
pub reads_out : (ed : Edition) (ops beh : List ℕ) (depth opened n : ℕ) → reads ed ops beh depth opened n [] ≡ false
unfolding go_on
reads_out ed ops beh depth opened n = rw (body_empty (suc depth) opened) refl

-- an end byte,
body_closed :
    (ed : Edition) (level opened n x : ℕ) (left : List ℕ) (next : ℕ → List ℕ → Bool) → x ≡ end_byte
    → go_on ed n (body level opened (x ∷ left)) next ≡ next n left
unfolding go_on total
body_closed ed level opened n x left next is =
    ap (λ (y : ℕ). go_on ed n (body level opened (y ∷ left)) next) is
    ∙ ap (λ (o : Read Body). go_on ed n o next) (body_end level opened left)
    ∙ ap (λ (m : ℕ). next m left) (add-zero n)

-- of the main body,
pub reads_main_end :
    (ed : Edition) (ops beh : List ℕ) (opened n x : ℕ) (left : List ℕ) → x ≡ end_byte
    → reads ed ops beh 0 opened n (x ∷ left) ≡ (eqb (length left) 0 && leb n vertex_limit)
unfolding closes
reads_main_end ed ops beh opened n x left is = body_closed ed 1 opened n x left _ is

-- of a fork's first body,
pub reads_first_end :
    (ed : Edition) (ops beh : List ℕ) (d opened n x : ℕ) (left : List ℕ) → x ≡ end_byte → get_or ops d 0 ≡ fork_byte → d < length ops
    → reads ed ops beh (suc d) opened n (x ∷ left) ≡ reads ed (set ops d async_byte) beh (suc d) (get_or beh d 0) n left
unfolding closes
reads_first_end ed ops beh d opened n x left is fork room =
    body_closed ed (suc (suc d)) opened n x left _ is
    ∙ rw (eq-eqb (get_or ops d 0) fork_byte fork)
    (go_on_same ed n (body (suc (suc d)) (get_or beh d 0) left) _ _
    (λ m rest. rw (get_or-set_same ops d async_byte 0 room)
    (go_on_same ed m (body (suc d) (get_or beh d 0) rest) _ _
    (closes_same ed ops (set ops d async_byte) beh beh d (λ k lt. sym (get_or-set_other ops d k async_byte 0 (omega arith))) (λ k lt. refl)))))

-- and of another one
pub reads_last_end :
    (ed : Edition) (ops beh : List ℕ) (d opened n x : ℕ) (left : List ℕ) → x ≡ end_byte → (get_or ops d 0 ≡ fork_byte → ⊥)
    → reads ed ops beh (suc d) opened n (x ∷ left) ≡ reads ed ops beh d (get_or beh d 0) n left
unfolding closes
reads_last_end ed ops beh d opened n x left is other =
    body_closed ed (suc (suc d)) opened n x left _ is ∙ rw (ne_eqb (get_or ops d 0) fork_byte other) refl

-- an item's vertices are counted before the rest of its body
item_ahead :
    (ed : Edition) (n : ℕ) (i : Item) (o : Read Body) (next : ℕ → List ℕ → Bool)
    → go_on ed n (and_then o (λ others rest. took (with_first i others) rest)) next
    ≡ go_on ed (n + total (vertices ed) (with_first i end)) o next
unfolding go_on and_then
item_ahead ed n i (took b rest) next =
    ap (λ (m : ℕ). next m rest)
    (ap (λ (m : ℕ). n + m) (total_ahead (vertices ed) i b) ∙ sym (add_assoc n (total (vertices ed) (with_first i end)) (total (vertices ed) b)))
item_ahead ed n i (refused m left) next = refl

-- an item is read,
pub reads_item :
    (ed : Edition) (level opened n x : ℕ) (left : List ℕ) (next : ℕ → List ℕ → Bool) (i : Item) (rest : List ℕ) → (x ≡ end_byte → ⊥)
    → item body level opened (x ∷ left) ≡ took i rest
    → go_on ed n (body level opened (x ∷ left)) next
    ≡ go_on ed (n + total (vertices ed) (with_first i end)) (body level (open_behind i opened) rest) next
unfolding and_then
reads_item ed level opened n x left next i rest other e =
    ap (λ (o : Read Body). go_on ed n o next) (body-item level opened x left other ∙ ap (item_first body level opened) e)
    ∙ item_ahead ed n i (body level (open_behind i opened) rest) next

-- or refused
pub reads_refused :
    (ed : Edition) (level opened n x : ℕ) (left : List ℕ) (next : ℕ → List ℕ → Bool) (m : ℕ) (place : List ℕ) → (x ≡ end_byte → ⊥)
    → item body level opened (x ∷ left) ≡ refused m place → go_on ed n (body level opened (x ∷ left)) next ≡ false
unfolding and_then go_on
reads_refused ed level opened n x left next m place other e =
    ap (λ (o : Read Body). go_on ed n o next) (body-item level opened x left other ∙ ap (item_first body level opened) e)

-- so are a byte that starts no item,
pub reads_unknown :
    (ed : Edition) (level opened n x : ℕ) (left : List ℕ) (next : ℕ → List ℕ → Bool) → force_byte < x
    → go_on ed n (body level opened (x ∷ left)) next ≡ false
reads_unknown ed level opened n x left next lt =
    reads_refused ed level opened n x left next _ _ (omega arith) (item_unknown level opened x left lt)

-- and an item that holds bodies which are too deep
pub reads_deep :
    (ed : Edition) (level opened n x : ℕ) (left : List ℕ) (next : ℕ → List ℕ → Bool) → async_byte ≤ x → x ≤ future_byte → level_limit ≤ level
    → go_on ed n (body level opened (x ∷ left)) next ≡ false
reads_deep ed level opened n x left next ge le deep =
    reads_refused ed level opened n x left next _ _ (omega arith) (item_deep level opened x left ge le deep)

-- a body inside an item, with n vertices made before it, w by the item itself and m by the body
regroup : (n w m : ℕ) {v : ℕ} → v ≡ w + m → n + v ≡ n + w + m
regroup n w m is = omega arith

-- an item that holds one body, or a fork behind its first: its body, and then the rest of the body that it is in
one_left :
    (ed : Edition) (level opened n w opened' : ℕ) (made : Body → Item) (o : Read Body) (next : ℕ → List ℕ → Bool)
    → ((b : Body) → total (vertices ed) (with_first (made b) end) ≡ w + total (vertices ed) b) → ((b : Body) → open_behind (made b) opened ≡ opened')
    → go_on ed n (item_first body level opened (and_then o (λ b rest. took (made b) rest))) next
    ≡ go_on ed (n + w) o (λ m rest. go_on ed m (body level opened' rest) next)
unfolding and_then go_on
one_left ed level opened n w opened' made (took b rest) next weighs opens =
    item_ahead ed n (made b) (body level (open_behind (made b) opened) rest) next
    ∙ (λ i. go_on ed (regroup n w (total (vertices ed) b) (weighs b) i) (body level (opens b i) rest) next)
one_left ed level opened n w opened' made (refused m left) next weighs opens = refl

-- what a fork makes, and the futures that are open behind it
fork_weighs :
    (g : Kind → ℕ) (b c : Body) → total g (with_first (a_fork b c) end) ≡ g forks + total g b + total g c
unfolding total with_first
fork_weighs g b c = omega arith

fork_opens : (b c : Body) (opened : ℕ) → open_behind (a_fork b c) opened ≡ opened
unfolding open_behind
fork_opens b c opened = refl

-- a fork: its two bodies, and then the rest
two_left :
    (ed : Edition) (level opened n : ℕ) (o : Read Body) (next : ℕ → List ℕ → Bool)
    → go_on ed n
    (item_first body level opened
    (and_then o (λ b rest. and_then (body (suc level) opened rest) (λ c rest'. took (a_fork b c) rest'))))
    next
    ≡ go_on ed (n + vertices ed forks) o
    (λ m rest. go_on ed m (body (suc level) opened rest) (λ m' rest'. go_on ed m' (body level opened rest') next))
unfolding and_then go_on
two_left ed level opened n (took b rest) next =
    one_left ed level opened n (vertices ed forks + total (vertices ed) b) opened (a_fork b) (body (suc level) opened rest) next
    (λ c. fork_weighs (vertices ed) b c) (λ c. fork_opens b c opened)
    ∙ ap
    (λ (m : ℕ). go_on ed m (body (suc level) opened rest) (λ m' rest'. go_on ed m' (body level opened rest') next))
    (sym (add_assoc n (vertices ed forks) (total (vertices ed) b)))
two_left ed level opened n (refused m left) next = refl

-- how many futures are open behind an item with this first byte that holds bodies
abbrev pub opened_behind : ℕ → ℕ → ℕ
opened_behind x opened = cond (eqb x future_byte) (suc opened) opened

-- what an item with one body makes, and the futures that are open behind it
one_weighs :
    (ed : Edition) (made : List ℕ) (x : ℕ) (item : Body → Item) (b : Body) → Table ed made → OpensOneBody x item
    → total (vertices ed) (with_first (item b) end) ≡ get_or made x 0 + total (vertices ed) b
unfolding total with_first
one_weighs ed made x item b table of_async = let h : get_or made 2 0 ≡ vertices ed asyncs = table asyncs in omega arith
one_weighs ed made x item b table of_finish = let h : get_or made 3 0 ≡ vertices ed finishes = table finishes in omega arith
one_weighs ed made x item b table of_future = let h : get_or made 5 0 ≡ vertices ed futures = table futures in omega arith

one_opens : (x opened : ℕ) (item : Body → Item) (b : Body) → OpensOneBody x item → open_behind (item b) opened ≡ opened_behind x opened
unfolding open_behind
one_opens x opened item b of_async = refl
one_opens x opened item b of_finish = refl
one_opens x opened item b of_future = refl

one_other : (x : ℕ) (item : Body → Item) → OpensOneBody x item → x ≡ fork_byte → ⊥
one_other x item of_async e = omega arith
one_other x item of_finish e = omega arith
one_other x item of_future e = omega arith

-- an item that holds bodies opens, and is put on the stack
pub reads_opener :
    (ed : Edition) (made ops beh : List ℕ) (depth opened n x y : ℕ) (left : List ℕ) → Table ed made → async_byte ≤ x → x ≤ future_byte
    → suc depth < level_limit → depth < length ops → depth < length beh → y ≡ opened_behind x opened
    → reads ed ops beh depth opened n (x ∷ left)
    ≡ reads ed (set ops depth x) (set beh depth y) (suc depth) opened (n + get_or made x 0) left
unfolding closes
reads_opener ed made ops beh depth opened n x y left table ge le shallow room room' is =
    ap (λ (o : Read Body). go_on ed n o next) (body-item (suc depth) opened x left (omega arith)) ∙ go (opener_is x ge le)
  where
    next : ℕ → List ℕ → Bool
    next m rest = closes ed ops beh depth m rest

    second : ℕ → List ℕ → Bool
    second m rest = go_on ed m (body (suc (suc depth)) opened rest) (λ m' rest'. go_on ed m' (body (suc depth) opened rest') next)

    here : get_or (set beh depth y) depth 0 ≡ opened_behind x opened
    here = get_or-set_same beh depth y 0 room' ∙ is

    below : (m : ℕ) (rest : List ℕ) → next m rest ≡ closes ed (set ops depth x) (set beh depth y) depth m rest
    below =
        closes_same ed ops (set ops depth x) beh (set beh depth y) depth
        (λ k lt. sym (get_or-set_other ops depth k x 0 (omega arith))) (λ k lt. sym (get_or-set_other beh depth k y 0 (omega arith)))

    go :
        Opener x
        → go_on ed n (item_first body (suc depth) opened (item body (suc depth) opened (x ∷ left))) next
        ≡ reads ed (set ops depth x) (set beh depth y) (suc depth) opened (n + get_or made x 0) left
    go (holds_one made' o) =
        ap (λ (r : Read Item). go_on ed n (item_first body (suc depth) opened r) next) (item_one (suc depth) opened x made' left o shallow)
        ∙ one_left ed (suc depth) opened n (get_or made x 0) (opened_behind x opened) made' (body (suc (suc depth)) opened left) next
        (λ b. one_weighs ed made x made' b table o) (λ b. one_opens x opened made' b o)
        ∙ go_on_same ed (n + get_or made x 0) (body (suc (suc depth)) opened left) _ _
        (λ m rest. rw (get_or-set_same ops depth x 0 room, ne_eqb x fork_byte (one_other x made' o), here)
        (go_on_same ed m (body (suc depth) (opened_behind x opened) rest) _ _ below))
    go (holds_two fork) =
        ap (λ (z : ℕ). go_on ed n (item_first body (suc depth) opened (item body (suc depth) opened (z ∷ left))) next) fork
        ∙ ap (λ (r : Read Item). go_on ed n (item_first body (suc depth) opened r) next) (item_fork (suc depth) opened left shallow)
        ∙ two_left ed (suc depth) opened n (body (suc (suc depth)) opened left) next
        ∙ ap (λ (m : ℕ). go_on ed m (body (suc (suc depth)) opened left) second)
        (ap (λ (m : ℕ). n + m) (sym (ap (λ (z : ℕ). get_or made z 0) fork ∙ table forks)))
        ∙ go_on_same ed (n + get_or made x 0) (body (suc (suc depth)) opened left) second _
        (λ m rest. rw (get_or-set_same ops depth x 0 room, eq-eqb x fork_byte fork, here ∙ ap (λ (z : ℕ). opened_behind z opened) fork)
        (go_on_same ed m (body (suc (suc depth)) opened rest) _ _
        (λ m' rest'. go_on_same ed m' (body (suc depth) opened rest') _ _ below)))
