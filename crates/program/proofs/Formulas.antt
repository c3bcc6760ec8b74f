-- What a program needs, by the formulas of docs/ENGINE.md's "Limits": they are what an edition's table of commands comes to.
use Prim.Native.Nat.{ℕ, ◌+◌, ◌*◌, ◌<◌, ◌≤◌}
use mathlib.Core.Path.{◌≡◌}
use mathlib.Core.List.{◌++◌}
use native.Mathlib.Nat.{mul-add}
use native.Mathlib.Omega.{arith}
use lib.ListN.{length-append}
use Rattle.program.specs.declared.Edition.{Edition}
use Rattle.program.specs.declared.Edition.TheVariants.{First, Second}
use Rattle.program.specs.Trees.{Kind, jobs, asyncs, finishes, forks, futures, forces, Body, end, job, async, finish, fork, future, force}
use Rattle.program.specs.Trees.{total, same, Counts, counts}
use Rattle.program.specs.Bytes.{encode_number, encode, size}
use Rattle.program.specs.Encodings.{fork_row, row_of, weight, makes, links, does, items_weight, vertices_made, edge_rows_needed, steps_taken}
use Rattle.program.specs.Encodings.{fork_vertices, fork_steps, vertex_formula, edge_row_formula, step_formula}
use Rattle.program.specs.Internal.Progress.{plus}

-- what so many items of each kind weigh
weigh : (Kind → ℕ) → Counts → ℕ
weigh g c = g jobs * c.w + g asyncs * c.a + g finishes * c.f + g forks * c.k + g futures * c.u + g forces * c.x

-- counts that are added weigh what they weigh together
weigh-plus : (g : Kind → ℕ) (c d : Counts) {x y : ℕ} → x ≡ weigh g c → y ≡ weigh g d → x + y ≡ weigh g (plus c d)
unfolding weigh plus
weigh-plus g c d p q =
    rw (mul-add (g jobs) c.w d.w, mul-add (g asyncs) c.a d.a)
    (rw (mul-add (g finishes) c.f d.f, mul-add (g forks) c.k d.k)
    (rw (mul-add (g futures) c.u d.u, mul-add (g forces) c.x d.x) (omega arith)))

-- one item of a kind
one : Kind → Counts
one k =
    record { w = same jobs k; a = same asyncs k; f = same finishes k; k = same forks k; u = same futures k; x = same forces k }

-- it weighs what its kind does
weigh-one : (g : Kind → ℕ) (k : Kind) → g k ≡ weigh g (one k)
unfolding weigh one same
weigh-one g jobs = omega arith
weigh-one g asyncs = omega arith
weigh-one g finishes = omega arith
weigh-one g forks = omega arith
weigh-one g futures = omega arith
weigh-one g forces = omega arith

-- an item that holds one body, and the rest of the body that it is in
one_held : (g : Kind → ℕ) (k : Kind) (b r : Body) → total g b ≡ weigh g (counts b) → total g r ≡ weigh g (counts r)
    → g k + (total g b + total g r) ≡ weigh g (plus (one k) (plus (counts b) (counts r)))
one_held g k b r p q = weigh-plus g (one k) (plus (counts b) (counts r)) (weigh-one g k) (weigh-plus g (counts b) (counts r) p q)

-- The sum over all items, by the counts of each kind.
total-counts : (g : Kind → ℕ) (b : Body) → total g b ≡ weigh g (counts b)
unfolding total counts plus one weigh
total-counts g end = omega arith
total-counts g (job n r) = weigh-plus g (one jobs) (counts r) (weigh-one g jobs) (total-counts g r)
total-counts g (async b r) = one_held g asyncs b r (total-counts g b) (total-counts g r)
total-counts g (finish b r) = one_held g finishes b r (total-counts g b) (total-counts g r)
total-counts g (fork b c r) =
    weigh-plus g (one forks) (plus (counts b) (plus (counts c) (counts r))) (weigh-one g forks)
    (weigh-plus g (counts b) (plus (counts c) (counts r)) (total-counts g b)
    (weigh-plus g (counts c) (counts r) (total-counts g c) (total-counts g r)))
total-counts g (future b r) = one_held g futures b r (total-counts g b) (total-counts g r)
total-counts g (force n r) = weigh-plus g (one forces) (counts r) (weigh-one g forces) (total-counts g r)

-- "V = 2 + a + 2f + 3k"; "A future adds 2 vertices, 1 edge and 9 steps; a force 1, 1 and 6." (note 5); a fork "makes 2 vertices and 2 edges
-- and costs 12 steps in place of 15" in the second edition (note 10)
pub vertices_formula : (ed : Edition) (b : Body) → vertices_made ed b ≡ vertex_formula ed (counts b)
unfolding vertices_made items_weight weight makes row_of fork_row fork_vertices weigh
vertices_formula First b = omega (arith, total-counts (λ k. weight makes (row_of First k).commands) b)
vertices_formula Second b = omega (arith, total-counts (λ k. weight makes (row_of Second k).commands) b)

-- "Edge rows needed: 1 + a + f + 2k."
pub edge_rows_formula : (ed : Edition) (b : Body) → edge_rows_needed ed b ≡ edge_row_formula (counts b)
unfolding edge_rows_needed items_weight weight links row_of fork_row weigh
edge_rows_formula First b = omega (arith, total-counts (λ k. weight links (row_of First k).commands) b)
edge_rows_formula Second b = omega (arith, total-counts (λ k. weight links (row_of Second k).commands) b)

-- demand 3's count, 4 + w + 5a + 10f + 15k
pub steps_formula : (ed : Edition) (b : Body) → steps_taken ed b ≡ step_formula ed (counts b)
unfolding steps_taken items_weight weight does row_of fork_row fork_vertices fork_steps weigh
steps_formula First b = omega (arith, vertices_formula First b, total-counts (λ k. weight does (row_of First k).commands) b)
steps_formula Second b = omega (arith, vertices_formula Second b, total-counts (λ k. weight does (row_of Second k).commands) b)

-- a kind is itself once at most
same_le : (k j : Kind) → same k j ≤ 1
unfolding same
same_le jobs jobs = omega arith
same_le jobs asyncs = omega arith
same_le jobs finishes = omega arith
same_le jobs forks = omega arith
same_le jobs futures = omega arith
same_le jobs forces = omega arith
same_le asyncs jobs = omega arith
same_le asyncs asyncs = omega arith
same_le asyncs finishes = omega arith
same_le asyncs forks = omega arith
same_le asyncs futures = omega arith
same_le asyncs forces = omega arith
same_le finishes jobs = omega arith
same_le finishes asyncs = omega arith
same_le finishes finishes = omega arith
same_le finishes forks = omega arith
same_le finishes futures = omega arith
same_le finishes forces = omega arith
same_le forks jobs = omega arith
same_le forks asyncs = omega arith
same_le forks finishes = omega arith
same_le forks forks = omega arith
same_le forks futures = omega arith
same_le forks forces = omega arith
same_le futures jobs = omega arith
same_le futures asyncs = omega arith
same_le futures finishes = omega arith
same_le futures forks = omega arith
same_le futures futures = omega arith
same_le futures forces = omega arith
same_le forces jobs = omega arith
same_le forces asyncs = omega arith
same_le forces finishes = omega arith
same_le forces forks = omega arith
same_le forces futures = omega arith
same_le forces forces = omega arith

-- each item has a byte of its own, and so has the end
pub count_lt : (k : Kind) (b : Body) → total (same k) b < size b
unfolding total size encode
count_lt k end = omega arith
count_lt k (job n r) = omega (arith, same_le k jobs, count_lt k r, length-append (encode_number n) (encode r))
count_lt k (async b r) = omega (arith, same_le k asyncs, count_lt k b, count_lt k r, length-append (encode b) (encode r))
count_lt k (finish b r) = omega (arith, same_le k finishes, count_lt k b, count_lt k r, length-append (encode b) (encode r))
count_lt k (fork b c r) =
    let split = length-append (encode b) (encode c ++ encode r) in
    omega (arith, same_le k forks, count_lt k b, count_lt k c, count_lt k r, split, length-append (encode c) (encode r))
count_lt k (future b r) = omega (arith, same_le k futures, count_lt k b, count_lt k r, length-append (encode b) (encode r))
count_lt k (force n r) = omega (arith, same_le k forces, count_lt k r, length-append (encode_number n) (encode r))

-- no more items of a kind than bytes
pub count_le : (k : Kind) (b : Body) → total (same k) b ≤ size b
count_le k b = omega (arith, count_lt k b)
