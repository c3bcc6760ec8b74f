-- The search, step by step, on lists. It starts at the vertex to be reached, which is looked at first and is not marked for that. Each
-- row that is followed finds its source marked (`seen`) or marks it and puts it into the queue (`found`). Where the rows of a vertex
-- are over, the next vertex of the queue is looked at (`turn`), and where there is none, the marked vertices are all from which a path
-- leads to the vertex to be reached (`answer_no`).
-- That a mark is the distance rests on `near_marked`: while a vertex d edges away is looked at, every vertex with a path of d edges or
-- fewer is marked already. So one that is marked only now, with d + 1, has no shorter path.
use Prim.Native.Nat.{ℕ, zero, suc, ◌+◌, ◌≤◌, ◌<◌}
use mathlib.Core.Path.{◌≡◌, refl, sym, ◌∙◌, ap, subst}
use mathlib.Core.Bool.{Bool, true, false}
use mathlib.Core.Logic.{◌⊎◌, inl, inr, ⊎_elim}
use mathlib.Core.List.{List, [], ◌∷◌}
use native.Mathlib.Nat.{eq-or-lt_of_le}
use native.Mathlib.Numerals.{add-one}
use native.Mathlib.Omega.{arith}
use lib.ListN.{length, get_or, set, replicate, length-set}
use lib.Seq.{get_or-set_same, get_or-set_other}
use Rattle.graph.specs.Tables.{target_word, source, target}
use Rattle.graph.specs.Paths.{holds, reaches}
use Rattle.graph.specs.Internal.Search.{search_limit, last_into, blank, zeros, Room, IsMarked, Hops, here, hop, Away, Covered, Frontier, Measured}
use Rattle.graph.proofs.TestLaws.{true-false, equal?, below_suc}
use Rattle.graph.proofs.PathLaws.{leads_hops, hops_leads, holds_at, held_row, reaches_is}
use Rattle.graph.proofs.RowLinks.{last_row, below_last, blank_long}

-- ---- marks, and the room in the queue
zeros_marked : (m : List ℕ) (w : ℕ) → 0 < w → zeros (w ∷ m) ≡ zeros m
unfolding zeros
zeros_marked m zero pos = absurd (omega arith)
zeros_marked m (suc w) pos = refl

zeros_fewer : (m : List ℕ) (s w : ℕ) → 0 < w → s < length m → get_or m s 0 ≡ 0 → zeros m ≡ suc (zeros (set m s w))
unfolding zeros
zeros_fewer [] s w pos lt h = absurd (omega arith)
zeros_fewer (zero ∷ m) zero w pos lt h = ap suc (sym (zeros_marked m w pos))
zeros_fewer (suc x ∷ m) zero w pos lt h = absurd (omega arith)
zeros_fewer (zero ∷ m) (suc s) w pos lt h = ap suc (zeros_fewer m s w pos (omega arith) h)
zeros_fewer (suc x ∷ m) (suc s) w pos lt h = zeros_fewer m s w pos (omega arith) h

zeros_blank : (n : ℕ) → zeros (replicate n 0) ≡ n
unfolding zeros
zeros_blank zero = refl
zeros_blank (suc n) = ap suc (zeros_blank n)

pub room_blank : {m q : List ℕ} → m ≡ blank → length q ≡ search_limit → Room m q 0
room_blank h long =
    record { marks = blank_long h; places = long; free = omega (arith, ap zeros h ∙ zeros_blank search_limit) }

-- a vertex that is not marked finds a place
pub room_left : {m q : List ℕ} {tail : ℕ} → Room m q tail → (s : ℕ) → s < length m → get_or m s 0 ≡ 0 → tail < length q
room_left {m} r s lt h = omega (arith, zeros_fewer m s 1 (omega arith) lt h)

pub room_taken :
    {m q : List ℕ} {tail : ℕ} → Room m q tail → (s w : ℕ) → 0 < w → s < length m → get_or m s 0 ≡ 0 → Room (set m s w) (set q tail s) (tail + 1)
room_taken {m} r s w pos lt h =
    record {
      marks = simp length-set r.marks;
      places = simp length-set r.places;
      free = omega (arith, zeros_fewer m s w pos lt h);
    }

blank_at : (n x : ℕ) → ◌≡◌ {A = ℕ} (get_or (replicate n 0) x 0) 0
blank_at zero x = refl
blank_at (suc n) zero = refl
blank_at (suc n) (suc x) = blank_at n x

no_mark : {m : List ℕ} → m ≡ blank → (x : ℕ) → get_or m x 0 ≡ 0
no_mark h x = ap (λ (l : List ℕ). get_or l x 0) h ∙ blank_at search_limit x

marked_below : (m : List ℕ) (x : ℕ) → IsMarked m x → x < length m
marked_below [] x h = absurd (omega arith)
marked_below (y ∷ m) zero h = omega arith
marked_below (y ∷ m) (suc x) h = omega (arith, marked_below m x h)

-- ---- the steps
pub start : {e : List ℕ} {n to c : ℕ} {m q : List ℕ} → m ≡ blank → c ≡ last_into e to n → Frontier e n to to 0 0 c m q 0
start {e} {n} {to} none h =
    record {
      ordered = omega arith;
      near = omega arith;
      queued = λ k lt. absurd (omega arith);
      rising = λ j k ge le lt. absurd (omega arith);
      farther = λ k ge lt. absurd (omega arith);
      marks = λ x. omega (arith, no_mark none x);
      leads = λ x p. absurd (omega (arith, no_mark none x));
      least = λ x k p r. absurd (omega (arith, no_mark none x));
      counts = inl (refl, refl);
      row = λ i p. last_row target_word e to n i (sym h ∙ p);
      closed =
          λ i k lt.
          ⊎_elim
          (λ p. inr (inl (p.0, omega (arith, below_last target_word e to n i lt p.0), p.1)))
          (λ p. absurd (omega (arith, no_mark none (target e i))));
    }

module _ {e : List ℕ} {n to v d head c : ℕ} {m q : List ℕ} {tail : ℕ} (f : Frontier e n to v d head c m q tail) where
  -- what stands in the queue is a vertex of the search
  pub queued_usable : Room m q tail → (k : ℕ) → k < tail → get_or q k 0 < search_limit
  queued_usable r k lt = omega (arith, marked_below m (get_or q k 0) (f.queued k lt))

  -- where each row with a target less than b edges away has a marked source, each path of up to b edges begins at a marked vertex
  module _ (b : ℕ) (all : (i k : ℕ) → i < n → k < b → Away to m (target e i) k → IsMarked m (source e i)) where
    edge_marked : (x y : ℕ) {k : ℕ} → Hops (holds e n) k y to → holds e n x y ≡ true → k < b → IsMarked m x
    edge_marked x y here h lt = let (i, l, from, into) = held_row e n x y h in rw from at (all i 0 l lt (inl (into, refl)))
    edge_marked x y (hop {k = k} {b = z} g p) h lt =
        let (i, l, from, into) = held_row e n x y h in
        let marked = edge_marked y z p g (omega arith) in
        rw from at (all i (get_or m y 0) l (omega (arith, f.least y k marked (hop g p))) (inr (marked, rw into refl)))

    path_marked : {k x : ℕ} → Hops (holds e n) (suc k) x to → suc k ≤ b → IsMarked m x
    path_marked (hop {a = x} {b = y} h p) le = edge_marked x y p h le

  -- so it is for d: rows with such targets are neither left nor wait
  near_marked : {k x : ℕ} → Hops (holds e n) (suc k) x to → suc k ≤ d → IsMarked m x
  near_marked =
      path_marked d (λ i k l lt r. ⊎_elim (λ a. a) (⊎_elim (λ a. absurd (omega arith)) (λ a. absurd (omega arith))) (f.closed i k l r))

  away_hops : (x k : ℕ) → Away to m x k → Hops (holds e n) k x to
  away_hops x k (inl (p, r)) = rw (p, r) here
  away_hops x k (inr (pos, p)) = rw p at (f.leads x (omega arith))

  -- a marked vertex is an answer
  pub answer_yes : (a : ℕ) → IsMarked m a → true ≡ reaches e n a to
  answer_yes a h = reaches_is e n a to true (λ r. hops_leads h (f.leads a h)) (λ p. refl)

  -- and the marks are what the search was for
  pub measured : Room m q tail → (from : ℕ) (found : Bool) → (found ≡ true → IsMarked m from) → Measured e n from to found m
  measured r from found h =
      record {
        long = r.marks;
        leads = f.leads;
        least = f.least;
        marked = h;
        nearer = λ p x k path lt. near_marked path (omega (arith, f.marks from));
      }

  -- row i is followed, and its source is marked
  pub seen : (i c' : ℕ) → c ≡ suc i → c' ≡ last_into e (target e i) i → IsMarked m (source e i) → Frontier e n to v d head c' m q tail
  seen i c' p h marked =
      let (held, into) = f.row i p in
      let h' : c' ≡ last_into e v i = h ∙ ap (λ (x : ℕ). last_into e x i) into in
      record {
        ordered = f.ordered;
        near = f.near;
        queued = f.queued;
        rising = f.rising;
        farther = f.farther;
        marks = f.marks;
        leads = f.leads;
        least = f.least;
        counts = f.counts;
        row = λ j r. let (lt, s) = last_row target_word e v i j (sym h' ∙ r) in (omega arith, s);
        closed =
            λ j k lt r.
            ⊎_elim
            (λ a. inl a)
            (⊎_elim
            (λ a.
            ⊎_elim
            (λ b. inl (subst (λ (x : ℕ). IsMarked m (source e x)) (sym b) marked))
            (λ b. inr (inl (a.0, omega (arith, below_last target_word e v i j b a.0), a.2)))
            (below_suc (subst (λ (x : ℕ). j < x) p a.1)))
            (λ a. inr (inr a)))
            (f.closed j k lt r);
      }

  -- row i's source s, not marked so far, gets the mark w, one more than v is away, and is put into the queue
  module _
      (i w : ℕ) (p : c ≡ suc i) (further : w ≡ suc d) (lt : source e i < length m) (room : tail < length q)
      (free : get_or m (source e i) 0 ≡ 0) where
    abbrev s : ℕ
    s = source e i

    abbrev m' : List ℕ
    m' = set m s w

    abbrev q' : List ℕ
    q' = set q tail s

    mark_new : get_or m' s 0 ≡ w
    mark_new = get_or-set_same m s w 0 lt

    -- a marked vertex is not s, and keeps its mark
    mark_kept : (x : ℕ) → IsMarked m x → get_or m' x 0 ≡ get_or m x 0
    mark_kept x h = get_or-set_other m s x w 0 (λ r. omega (arith, ap (λ (y : ℕ). get_or m y 0) r))

    mark_cases : (x : ℕ) → ((x ≡ s) × (get_or m' x 0 ≡ w)) ⊎ (get_or m' x 0 ≡ get_or m x 0)
    mark_cases x = ⊎_elim (λ r. inl (r, ap (λ (y : ℕ). get_or m' y 0) r ∙ mark_new)) (λ r. inr (get_or-set_other m s x w 0 r)) (equal? x s)

    put : get_or q' tail 0 ≡ s
    put = get_or-set_same q tail s 0 room

    stays : (k : ℕ) → k < tail → get_or q' k 0 ≡ get_or q k 0
    stays k l = get_or-set_other q tail k s 0 (λ r. omega arith)

    -- the marks along the queue: as before, and w at its end
    queue_cases :
        (k : ℕ) → k < tail + 1
        → ((k ≡ tail) × (get_or m' (get_or q' k 0) 0 ≡ w)) ⊎ ((k < tail) × (get_or m' (get_or q' k 0) 0 ≡ get_or m (get_or q k 0) 0))
    queue_cases k l =
        ⊎_elim
        (λ b. inl (b, ap (λ (j : ℕ). get_or m' (get_or q' j 0) 0) b ∙ (ap (λ (x : ℕ). get_or m' x 0) put ∙ mark_new)))
        (λ b. inr (b, ap (λ (x : ℕ). get_or m' x 0) (stays k b) ∙ mark_kept (get_or q k 0) (f.queued k b)))
        (below_suc {i = k} {n = tail} (rw add-one at l))

    -- s has a path by v, and none that is shorter
    path : Hops (holds e n) w s to
    path =
        let (held, into) = f.row i p in
        let edge : holds e n s v ≡ true = rw into at (holds_at e n i held) in
        rw further (hop edge (away_hops v d f.counts))

    wider : (j k : ℕ) → Covered e v d head c m q tail j k → Covered e v d head c m' q' (tail + 1) j k
    wider j k =
        ⊎_elim
        (λ a. inl (omega (arith, mark_kept (source e j) a)))
        (⊎_elim
        (λ a. inr (inl a))
        (λ a.
        let (pos, ge, waits) = a in
        let there : get_or q' waits.place 0 ≡ target e j = stays waits.place waits.below ∙ waits.there in
        inr (inr (pos, ge, record { place = waits.place; from = waits.from; below = omega arith; there = there }))))

    new_marks : (x : ℕ) → get_or m' x 0 ≤ suc d
    new_marks x = ⊎_elim (λ a. omega arith) (λ a. omega (arith, f.marks x)) (mark_cases x)

    grown : Frontier e n to v d head c m' q' (tail + 1)
    grown =
        record {
          ordered = omega (arith, f.ordered);
          near = f.near;
          queued = λ k l. ⊎_elim (λ a. omega arith) (λ a. omega (arith, f.queued k a.0)) (queue_cases k l);
          rising =
              λ j k ge le l.
              ⊎_elim
              (λ a. omega (arith, new_marks (get_or q' j 0)))
              (λ a. ⊎_elim (λ b. absurd (omega arith)) (λ b. omega (arith, f.rising j k ge le a.0)) (queue_cases j (omega arith)))
              (queue_cases k l);
          farther = λ k ge l. ⊎_elim (λ a. omega arith) (λ a. omega (arith, f.farther k ge a.0)) (queue_cases k l);
          marks = new_marks;
          leads = λ x h. ⊎_elim (λ a. rw (a.1, a.0) path) (λ a. rw a (f.leads x (omega arith))) (mark_cases x);
          least =
              λ x k h r.
              ⊎_elim
              (λ a.
              let far : (suc k ≤ d → ⊥) = λ le. omega (arith, near_marked r le, ap (λ (y : ℕ). get_or m y 0) a.0) in
              omega arith)
              (λ a. omega (arith, f.least x k (omega arith) r))
              (mark_cases x);
          counts = ⊎_elim (λ a. inl a) (λ a. inr (a.0, mark_kept v (omega arith) ∙ a.1)) f.counts;
          row = f.row;
          closed =
              λ j k l.
              ⊎_elim
              (λ a. wider j k (f.closed j k l (inl a)))
              (λ a.
              ⊎_elim
              (λ b. inr (inr (a.0, omega arith, record { place = tail; from = f.ordered; below = omega arith; there = put ∙ sym b.0 })))
              (λ b. wider j k (f.closed j k l (inr (a.0, sym b ∙ a.1))))
              (mark_cases (target e j)));
        }

-- row i is followed, and its source is marked now
pub found :
    {e : List ℕ} {n to v d head c : ℕ} {m q : List ℕ} {tail : ℕ} → Frontier e n to v d head c m q tail → (i c' w : ℕ) → c ≡ suc i
    → c' ≡ last_into e (target e i) i → w ≡ suc d → source e i < length m → tail < length q → get_or m (source e i) 0 ≡ 0
    → Frontier e n to v d head c' (set m (source e i) w) (set q tail (source e i)) (tail + 1)
found f i c' w p h further lt room free =
    seen (grown f i w p further lt room free) i c' p h (omega (arith, mark_new f i w p further lt room free))

-- where no row of v is left
module _ {e : List ℕ} {n to v d head : ℕ} {m q : List ℕ} {tail : ℕ} (f : Frontier e n to v d head 0 m q tail) where
  -- what is one edge away or more has its distance for a mark
  away_mark : (x k : ℕ) → 0 < k → Away to m x k → get_or m x 0 ≡ k
  away_mark x k pos (inl (p, none)) = absurd (omega arith)
  away_mark x k pos (inr (p, mark)) = mark

  -- the next vertex of the queue is looked at, from its row c on
  pub turn :
      (c : ℕ) → head < tail → c ≡ last_into e (get_or q head 0) n
      → Frontier e n to (get_or q head 0) (get_or m (get_or q head 0) 0) (head + 1) c m q tail
  turn c lt h =
      let nearest : d ≤ get_or m (get_or q head 0) 0 = f.farther head (omega arith) lt in
      record {
        ordered = omega arith;
        near = omega (arith, f.marks (get_or q head 0), f.near);
        queued = f.queued;
        rising = λ j k ge. f.rising j k (omega arith);
        farther = λ k ge l. f.rising head k (omega arith) (omega arith) l;
        marks = λ x. omega (arith, f.marks x);
        leads = f.leads;
        least = f.least;
        counts = inr (f.queued head lt, refl);
        row = λ i p. last_row target_word e _ n i (sym h ∙ p);
        closed =
            λ i k l r.
            ⊎_elim
            (λ a. inl a)
            (⊎_elim
            (λ a. absurd (omega arith))
            (λ a.
            let (pos, ge, waits) = a in
            let mark : get_or m (get_or q waits.place 0) 0 ≡ k = rw waits.there (away_mark (target e i) k pos r) in
            ⊎_elim
            (λ b.
            let into : target e i ≡ get_or q head 0 = sym waits.there ∙ ap (λ (k : ℕ). get_or q k 0) (sym b) in
            inr
            (inl (into, omega (arith, below_last target_word e (get_or q head 0) n i l into), sym mark ∙ ap (λ (j : ℕ). get_or m (get_or q j 0) 0) (sym b))))
            (λ b.
            let further : get_or m (get_or q head 0) 0 ≤ k = rw mark at (f.rising head waits.place (omega arith) waits.from waits.below) in
            inr (inr (pos, further, record { place = waits.place; from = omega arith; below = waits.below; there = waits.there })))
            (eq-or-lt_of_le waits.from)))
            (f.closed i k l r);
      }

  -- or the queue is at its end: each vertex is marked from which a path leads to the one to be reached
  pub answer_no : head ≡ tail → (a : ℕ) → get_or m a 0 ≡ 0 → false ≡ reaches e n a to
  answer_no done a h =
      reaches_is e n a to false
      (λ r. true-false r refl)
      (λ p. let (k, path) = leads_hops p in absurd (omega (arith, path_marked f (suc k) all path (omega arith))))
    where
      all : {b : ℕ} (i k : ℕ) → i < n → k < b → Away to m (target e i) k → IsMarked m (source e i)
      all i k l lt r = ⊎_elim (λ a. a) (⊎_elim (λ a. absurd (omega arith)) (λ a. absurd (omega arith))) (f.closed i k l r)
