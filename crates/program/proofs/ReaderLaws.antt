-- The body reader unrolled: on no bytes, at an end byte, and at an item. Its bound on the number of bytes is gone here, since any bound
-- that is large enough gives the same.
use Prim.Native.Nat.{ℕ, zero, suc, ◌<◌, ◌≤◌}
use mathlib.Core.Path.{◌≡◌, refl, ap, ◌∙◌}
use mathlib.Core.Bool.{cond}
use mathlib.Core.List.{List, [], ◌∷◌}
use mathlib.Core.Option.{Option, none, some}
use native.Mathlib.Omega.{arith}
use lib.Dec.{eqb}
use lib.ListN.{length}
use borrow.Author.Tests.{ne_eqb, lt-ltb, le-ltb}
use Rattle.program.specs.Limits.{level_limit}
use Rattle.program.specs.Trees.{Kind, jobs, asyncs, finishes, forks, futures, forces, Body, end, Item, an_async, a_finish, a_fork, a_future}
use Rattle.program.specs.Trees.{with_first, open_behind}
use Rattle.program.specs.Bytes.{end_byte, job_byte, async_byte, finish_byte, fork_byte, future_byte, force_byte}
use Rattle.program.specs.Reader.{Read, took, refused, and_then, take_if, kind_of, deeper, job_of, force_of, item_of, item, body_of, body}
use Rattle.refusal.specs.Refusals.{byte_unknown, level_too_deep, bytes_run_out}
use Rattle.program.proofs.ReadLaws.{took_shorter, and_then_same}
use Rattle.program.proofs.Soundness.{Sound, body_of_outcome, behind_item_of}

-- f and g read all lists of at most n bytes alike
abbrev Alike : ℕ → (ℕ → ℕ → List ℕ → Read Body) → (ℕ → ℕ → List ℕ → Read Body) → Type 0
Alike n f g = (level opened : ℕ) (xs : List ℕ) → length xs ≤ n → f level opened xs ≡ g level opened xs

-- then they read what an item holds alike
held_alike : (f g : ℕ → ℕ → List ℕ → Read Body) → Sound f → (level opened : ℕ) (place : List ℕ) (k : Option Kind) (left : List ℕ)
    → Alike (length left) f g → item_of f level opened place k left ≡ item_of g level opened place k left
unfolding item_of
held_alike f g sound level opened place none left h = refl
held_alike f g sound level opened place (some jobs) left h = refl
held_alike f g sound level opened place (some asyncs) left h = rw (h (suc level) opened left (omega arith)) refl
held_alike f g sound level opened place (some finishes) left h = rw (h (suc level) opened left (omega arith)) refl
held_alike f g sound level opened place (some forks) left h =
    ap (λ (o : Read Item). deeper level place o)
    (and_then_same (f (suc level) opened left) _ _ (λ b rest e. second b rest (took_shorter (rw e at (sound (suc level) opened left))))
    ∙ rw (h (suc level) opened left (omega arith)) refl)
  where
    second : (b : Body) (rest : List ℕ) → length rest ≤ length left
        → and_then (f (suc level) opened rest) (λ c rest'. took (a_fork b c) rest')
        ≡ and_then (g (suc level) opened rest) (λ c rest'. took (a_fork b c) rest')
    second b rest l = rw (h (suc level) opened rest l) refl
held_alike f g sound level opened place (some futures) left h = rw (h (suc level) opened left (omega arith)) refl
held_alike f g sound level opened place (some forces) left h = refl

-- and an item
item_alike : (f g : ℕ → ℕ → List ℕ → Read Body) → Sound f → (level opened x : ℕ) (left : List ℕ) → Alike (length left) f g
    → item f level opened (x ∷ left) ≡ item g level opened (x ∷ left)
unfolding item
item_alike f g sound level opened x left h = held_alike f g sound level opened (x ∷ left) (kind_of x) left h

-- what a body comes to that begins with an item: the item, and the rest of the body behind it
abbrev pub item_first : (ℕ → ℕ → List ℕ → Read Body) → ℕ → ℕ → Read Item → Read Body
item_first read_body level opened o =
    and_then o (λ first rest. and_then (read_body level (open_behind first opened) rest) (λ others rest'. took (with_first first others) rest'))

-- an item and the rest of a body are read alike
items_alike : (f g : ℕ → ℕ → List ℕ → Read Body) → Sound f → (level opened x : ℕ) (left : List ℕ) → Alike (length left) f g
    → item_first f level opened (item f level opened (x ∷ left)) ≡ item_first g level opened (item g level opened (x ∷ left))
items_alike f g sound level opened x left h =
    and_then_same (item f level opened (x ∷ left)) _ _ (λ i rest e. others i rest (behind_item_of level opened x left f sound i rest e))
    ∙ rw (item_alike f g sound level opened x left h) refl
  where
    others : (i : Item) (rest : List ℕ) → length rest ≤ length left
        → and_then (f level (open_behind i opened) rest) (λ others rest'. took (with_first i others) rest')
        ≡ and_then (g level (open_behind i opened) rest) (λ others rest'. took (with_first i others) rest')
    others i rest l = rw (h level (open_behind i opened) rest l) refl

-- Any bound that is large enough gives the same.
pub bound_alike : (n m level opened : ℕ) (xs : List ℕ) → length xs ≤ n → length xs ≤ m → body_of n level opened xs ≡ body_of m level opened xs
unfolding body_of
bound_alike zero zero level opened xs p q = refl
bound_alike zero (suc m) level opened [] p q = refl
bound_alike zero (suc m) level opened (x ∷ left) p q = absurd (omega arith)
bound_alike (suc n) zero level opened [] p q = refl
bound_alike (suc n) zero level opened (x ∷ left) p q = absurd (omega arith)
bound_alike (suc n) (suc m) level opened [] p q = refl
bound_alike (suc n) (suc m) level opened (x ∷ left) p q =
    ap (λ (o : Read Body). cond (eqb x end_byte) (took end left) o)
    (items_alike (body_of n) (body_of m) (body_of_outcome n) level opened x left
    (λ l o ys r. bound_alike n m l o ys (omega arith) (omega arith)))

-- no bytes
pub body_empty : (level opened : ℕ) → body level opened [] ≡ refused bytes_run_out []
unfolding body body_of
body_empty level opened = refl

-- at its end
pub body_end : (level opened : ℕ) (left : List ℕ) → body level opened (end_byte ∷ left) ≡ took end left
unfolding body body_of
body_end level opened left = refl

-- at an item, which the rest of the body follows
pub body-item : (level opened x : ℕ) (left : List ℕ) → (x ≡ end_byte → ⊥)
    → body level opened (x ∷ left) ≡ item_first body level opened (item body level opened (x ∷ left))
unfolding body body_of
body-item level opened x left ne =
    rw (ne_eqb x end_byte ne)
    (items_alike (body_of (length left)) body (body_of_outcome (length left)) level opened x left
    (λ l o ys r. bound_alike (length left) (length ys) l o ys r (omega arith)))

-- An item unrolled, by its first byte: a job,
pub item_job : (level opened : ℕ) (left : List ℕ) → item body level opened (job_byte ∷ left) ≡ job_of left
unfolding item item_of kind_of
item_job level opened left = refl

-- a force,
pub item_force : (level opened : ℕ) (left : List ℕ) → item body level opened (force_byte ∷ left) ≡ force_of opened left
unfolding item item_of kind_of
item_force level opened left = refl

-- what an item holds is read where it is not too deep
deeper_open : (level : ℕ) (place : List ℕ) (held : Read Item) → level < level_limit → deeper level place held ≡ held
unfolding deeper take_if
deeper_open level place held lt = rw (lt-ltb level level_limit lt) refl

-- the items that hold one body, by their first byte
pub data OpensOneBody : ℕ → (Body → Item) → Type 0 where
  of_async : OpensOneBody async_byte an_async
  of_finish : OpensOneBody finish_byte a_finish
  of_future : OpensOneBody future_byte a_future

-- an async, a finish or a future,
pub item_one : (level opened x : ℕ) (made : Body → Item) (left : List ℕ) → OpensOneBody x made → level < level_limit
    → item body level opened (x ∷ left) ≡ and_then (body (suc level) opened left) (λ b rest. took (made b) rest)
unfolding item item_of kind_of
item_one level opened x made left of_async lt = deeper_open level (async_byte ∷ left) _ lt
item_one level opened x made left of_finish lt = deeper_open level (finish_byte ∷ left) _ lt
item_one level opened x made left of_future lt = deeper_open level (future_byte ∷ left) _ lt

-- a fork,
pub item_fork : (level opened : ℕ) (left : List ℕ) → level < level_limit
    → item body level opened (fork_byte ∷ left)
    ≡ and_then (body (suc level) opened left) (λ b rest. and_then (body (suc level) opened rest) (λ c rest'. took (a_fork b c) rest'))
unfolding item item_of kind_of
item_fork level opened left lt = deeper_open level (fork_byte ∷ left) _ lt

-- the first byte of an item that holds bodies
pub data Opener (x : ℕ) : Type 0 where
  holds_one : (made : Body → Item) → OpensOneBody x made → Opener x
  holds_two : x ≡ fork_byte → Opener x

-- is one of four
pub opener_is : (x : ℕ) → async_byte ≤ x → x ≤ future_byte → Opener x
opener_is zero ge le = absurd (omega arith)
opener_is (suc zero) ge le = absurd (omega arith)
opener_is (suc (suc zero)) ge le = holds_one an_async of_async
opener_is (suc (suc (suc zero))) ge le = holds_one a_finish of_finish
opener_is (suc (suc (suc (suc zero)))) ge le = holds_two refl
opener_is (suc (suc (suc (suc (suc zero))))) ge le = holds_one a_future of_future
opener_is (suc (suc (suc (suc (suc (suc n)))))) ge le = absurd (omega arith)

-- an item that holds bodies where they are too deep,
pub item_deep : (level opened x : ℕ) (left : List ℕ) → async_byte ≤ x → x ≤ future_byte → level_limit ≤ level
    → item body level opened (x ∷ left) ≡ refused level_too_deep (x ∷ left)
unfolding item item_of kind_of deeper take_if
item_deep level opened zero left p q le = absurd (omega arith)
item_deep level opened (suc zero) left p q le = absurd (omega arith)
item_deep level opened (suc (suc zero)) left p q le = rw (le-ltb level level_limit le) refl
item_deep level opened (suc (suc (suc zero))) left p q le = rw (le-ltb level level_limit le) refl
item_deep level opened (suc (suc (suc (suc zero)))) left p q le = rw (le-ltb level level_limit le) refl
item_deep level opened (suc (suc (suc (suc (suc zero))))) left p q le = rw (le-ltb level level_limit le) refl
item_deep level opened (suc (suc (suc (suc (suc (suc n)))))) left p q le = absurd (omega arith)

-- and no item
pub item_unknown : (level opened x : ℕ) (left : List ℕ) → force_byte < x → item body level opened (x ∷ left) ≡ refused byte_unknown (x ∷ left)
unfolding item item_of kind_of
item_unknown level opened zero left p = absurd (omega arith)
item_unknown level opened (suc zero) left p = absurd (omega arith)
item_unknown level opened (suc (suc zero)) left p = absurd (omega arith)
item_unknown level opened (suc (suc (suc zero))) left p = absurd (omega arith)
item_unknown level opened (suc (suc (suc (suc zero)))) left p = absurd (omega arith)
item_unknown level opened (suc (suc (suc (suc (suc zero))))) left p = absurd (omega arith)
item_unknown level opened (suc (suc (suc (suc (suc (suc zero)))))) left p = absurd (omega arith)
item_unknown level opened (suc (suc (suc (suc (suc (suc (suc n))))))) left p = refl
