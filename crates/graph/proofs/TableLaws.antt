-- Words of tables: what stands at a place after an update. Each law is of one word, of the row where the update stands or of any
-- other.
use Prim.Native.Nat.{ℕ, zero, suc, ◌+◌, ◌-◌, ◌*◌, ◌<◌, ◌≤◌}
use mathlib.Core.Path.{◌≡◌, refl, sym, ◌∙◌, ap}
use mathlib.Core.Logic.{⊎_elim}
use mathlib.Core.Bool.{Bool, true, false, cond}
use mathlib.Core.List.{List, [], ◌∷◌, ◌++◌, append-nil}
use native.Mathlib.Omega.{arith}
use lib.ListN.{length, get_or, set, drop, replicate, length-set, length-append, length-drop, length-replicate, get_or-append, get_or-eq_default}
use lib.Seq.{get_or-set_same, get_or-set_other, get_or-append-add, get_or-drop}
use lib.Dec.{eqb, ltb}
use borrow.Author.Tests.{eq-eqb, ne_eqb, ltb-true, ltb-false}
use Rattle.graph.specs.Tables.{NEW, vertex_words, edge_words, status_word, place_word, scope_word, future_word, in_count_word, source_word, target_word}
use Rattle.graph.specs.Tables.{vertex_rows, edge_rows, vertex_word, edge_word, status, in_count, set_status, set_vertex_word, set_edge_word}
use Rattle.graph.specs.Tables.{source, target, clear}
use Rattle.graph.specs.Commands.{new_row, appended, one_more, more_into, less_into, moved_row, moved, kept_rows, kept, without_edges_of}
use Rattle.graph.specs.Commands.{lowered_row, lowered}
use Rattle.graph.proofs.TestLaws.{decide, equal?}

-- a word of a usable row is a word of the table
pub vertex_in : (v : List ℕ) (k w : ℕ) → k < vertex_rows v → w < vertex_words → vertex_words * k + w < length v
vertex_in v k w lt lw = omega arith

pub edge_in : (e : List ℕ) (i w : ℕ) → i < edge_rows e → w < edge_words → edge_words * i + w < length e
edge_in e i w lt lw = omega arith

-- words of different rows are at different places, and so are different words
pub vertex_apart : (x k w u : ℕ) → w < vertex_words → u < vertex_words → (x ≡ k → ⊥) → vertex_words * x + w ≡ vertex_words * k + u → ⊥
vertex_apart x k w u lw lu ne q = ne (omega arith)

pub edge_apart : (x k w u : ℕ) → w < edge_words → u < edge_words → (x ≡ k → ⊥) → edge_words * x + w ≡ edge_words * k + u → ⊥
edge_apart x k w u lw lu ne q = ne (omega arith)

-- the status after a status was set
pub status_same : (v : List ℕ) (k x : ℕ) → k < vertex_rows v → status (set_status v k x) k ≡ x
status_same v k x lt = get_or-set_same v (vertex_words * k + status_word) x 0 (vertex_in v k status_word lt (omega arith))

pub status_other : (v : List ℕ) (k x y : ℕ) → (y ≡ k → ⊥) → status (set_status v k x) y ≡ status v y
status_other v k x y ne =
    get_or-set_other v (vertex_words * k + status_word) (vertex_words * y + status_word) x 0 (vertex_apart y k status_word status_word (omega arith) (omega arith) ne)

-- where a word of a row is set, the other words of every row stay
pub word_other :
    (v : List ℕ) (k u x y w : ℕ) → u < vertex_words → w < vertex_words → (w ≡ u → ⊥) → vertex_word (set_vertex_word v k u x) y w ≡ vertex_word v y w
word_other v k u x y w lu lw ne = get_or-set_other v (vertex_words * k + u) (vertex_words * y + w) x 0 (λ q. ne (omega arith))

-- clearing
pub length-clear : (l : List ℕ) (from n : ℕ) → length (clear l from n) ≡ length l
unfolding clear
length-clear l from zero = refl
length-clear l from (suc n) = length-set (clear l from n) (from + n) 0 ∙ length-clear l from n

set_zero : (l : List ℕ) (i : ℕ) → get_or (set l i 0) i 0 ≡ 0
set_zero l i =
    ⊎_elim
    (λ h. get_or-set_same l i 0 0 (ltb-true i (length l) h))
    (λ h. get_or-eq_default (set l i 0) 0 (rw length-set (ltb-false i (length l) h)))
    (decide (ltb i (length l)))

pub clear_in : (l : List ℕ) (from n i : ℕ) → from ≤ i → i < from + n → get_or (clear l from n) i 0 ≡ 0
unfolding clear
clear_in l from zero i le lt = absurd (omega arith)
clear_in l from (suc n) i le lt =
    ⊎_elim
    (λ q. rw q (set_zero (clear l from n) (from + n)))
    (λ ne. get_or-set_other (clear l from n) (from + n) i 0 0 ne ∙ clear_in l from n i le (omega arith))
    (equal? i (from + n))

pub clear_out : (l : List ℕ) (from n i : ℕ) → ((from ≤ i) × (i < from + n) → ⊥) → get_or (clear l from n) i 0 ≡ get_or l i 0
unfolding clear
clear_out l from zero i f = refl
clear_out l from (suc n) i f =
    get_or-set_other (clear l from n) (from + n) i 0 0 (λ q. f (omega arith))
    ∙ clear_out l from n i (λ q. f (q.0, omega arith))

-- the row that newTd makes: cleared, then new, then with its place, then with its scope, then with its future
abbrev cleared : List ℕ → ℕ → List ℕ
cleared v k = clear v (vertex_words * k) vertex_words

abbrev as_new : List ℕ → ℕ → List ℕ
as_new v k = set_status (cleared v k) k NEW

abbrev placed : List ℕ → ℕ → ℕ → List ℕ
placed v k place = set_vertex_word (as_new v k) k place_word place

abbrev scoped : List ℕ → ℕ → ℕ → ℕ → List ℕ
scoped v k place scope = set_vertex_word (placed v k place) k scope_word scope

module _ (v : List ℕ) (k place scope future : ℕ) where
  pub length-new_row : length (new_row v k place scope future) ≡ length v
  unfolding new_row
  length-new_row = simp (length-set, length-clear)

  -- a word of the row that is set by none of the four
  new_row_word :
      (i : ℕ) → (i ≡ vertex_words * k + status_word → ⊥) → (i ≡ vertex_words * k + place_word → ⊥) → (i ≡ vertex_words * k + scope_word → ⊥)
      → (i ≡ vertex_words * k + future_word → ⊥) → get_or (new_row v k place scope future) i 0 ≡ get_or (cleared v k) i 0
  unfolding new_row
  new_row_word i ns np nc nf =
      get_or-set_other (scoped v k place scope) (vertex_words * k + future_word) i future 0 nf
      ∙ get_or-set_other (placed v k place) (vertex_words * k + scope_word) i scope 0 nc
      ∙ get_or-set_other (as_new v k) (vertex_words * k + place_word) i place 0 np
      ∙ get_or-set_other (cleared v k) (vertex_words * k + status_word) i NEW 0 ns

  -- outside the row nothing changes
  pub new_row_out :
      (i : ℕ) → ((vertex_words * k ≤ i) × (i < vertex_words * k + vertex_words) → ⊥) → get_or (new_row v k place scope future) i 0 ≡ get_or v i 0
  new_row_out i f =
      new_row_word i (λ q. f (omega arith)) (λ q. f (omega arith)) (λ q. f (omega arith)) (λ q. f (omega arith))
      ∙ clear_out v (vertex_words * k) vertex_words i f

  pub new_row_other : (x w : ℕ) → w < vertex_words → (x ≡ k → ⊥) → vertex_word (new_row v k place scope future) x w ≡ vertex_word v x w
  new_row_other x w lw ne = new_row_out (vertex_words * x + w) (λ q. ne (omega arith))

  -- the words of the row
  pub new_row-status : k < vertex_rows v → status (new_row v k place scope future) k ≡ NEW
  unfolding new_row
  new_row-status lt =
      get_or-set_other (scoped v k place scope) (vertex_words * k + future_word) (vertex_words * k + status_word) future 0 (omega arith)
      ∙ get_or-set_other (placed v k place) (vertex_words * k + scope_word) (vertex_words * k + status_word) scope 0 (omega arith)
      ∙ get_or-set_other (as_new v k) (vertex_words * k + place_word) (vertex_words * k + status_word) place 0 (omega arith)
      ∙ get_or-set_same (cleared v k) (vertex_words * k + status_word) NEW 0 (rw length-clear (vertex_in v k status_word lt (omega arith)))

  pub new_row_place : k < vertex_rows v → vertex_word (new_row v k place scope future) k place_word ≡ place
  unfolding new_row
  new_row_place lt =
      get_or-set_other (scoped v k place scope) (vertex_words * k + future_word) (vertex_words * k + place_word) future 0 (omega arith)
      ∙ get_or-set_other (placed v k place) (vertex_words * k + scope_word) (vertex_words * k + place_word) scope 0 (omega arith)
      ∙ get_or-set_same (as_new v k) (vertex_words * k + place_word) place 0 (simp (length-set, length-clear) (vertex_in v k place_word lt (omega arith)))

  pub new_row_scope : k < vertex_rows v → vertex_word (new_row v k place scope future) k scope_word ≡ scope
  unfolding new_row
  new_row_scope lt =
      get_or-set_other (scoped v k place scope) (vertex_words * k + future_word) (vertex_words * k + scope_word) future 0 (omega arith)
      ∙ get_or-set_same (placed v k place) (vertex_words * k + scope_word) scope 0
      (simp (length-set, length-clear) (vertex_in v k scope_word lt (omega arith)))

  pub new_row_future : k < vertex_rows v → vertex_word (new_row v k place scope future) k future_word ≡ future
  unfolding new_row
  new_row_future lt =
      get_or-set_same (scoped v k place scope) (vertex_words * k + future_word) future 0
      (simp (length-set, length-clear) (vertex_in v k future_word lt (omega arith)))

  pub new_row_zero :
      (w : ℕ) → w < vertex_words → (w ≡ status_word → ⊥) → (w ≡ place_word → ⊥) → (w ≡ scope_word → ⊥) → (w ≡ future_word → ⊥)
      → vertex_word (new_row v k place scope future) k w ≡ 0
  new_row_zero w lw ns np nc nf =
      new_row_word (vertex_words * k + w) (λ q. ns (omega arith)) (λ q. np (omega arith)) (λ q. nc (omega arith)) (λ q. nf (omega arith))
      ∙ clear_in v (vertex_words * k) vertex_words (vertex_words * k + w) (omega arith) (omega arith)

-- the in-count of t set to x
module _ (v : List ℕ) (t x : ℕ) where
  count_same : vertex_words * t + vertex_words ≤ length v → in_count (set_vertex_word v t in_count_word x) t ≡ x
  count_same room = get_or-set_same v (vertex_words * t + in_count_word) x 0 (omega arith)

  count_other : (k : ℕ) → (k ≡ t → ⊥) → in_count (set_vertex_word v t in_count_word x) k ≡ in_count v k
  count_other k ne =
      get_or-set_other v (vertex_words * t + in_count_word) (vertex_words * k + in_count_word) x 0
      (vertex_apart k t in_count_word in_count_word (omega arith) (omega arith) ne)

-- one edge more into t
module _ (v : List ℕ) (t : ℕ) where
  pub length_more : length (more_into v t) ≡ length v
  unfolding more_into
  length_more = length-set v (vertex_words * t + in_count_word) (one_more (in_count v t))

  pub more_out : (i : ℕ) → (i ≡ vertex_words * t + in_count_word → ⊥) → get_or (more_into v t) i 0 ≡ get_or v i 0
  unfolding more_into
  more_out i ne = get_or-set_other v (vertex_words * t + in_count_word) i (one_more (in_count v t)) 0 ne

  pub more_word : (k w : ℕ) → w < vertex_words → (w ≡ in_count_word → ⊥) → vertex_word (more_into v t) k w ≡ vertex_word v k w
  unfolding more_into
  more_word k w lw ne = word_other v t in_count_word (one_more (in_count v t)) k w (omega arith) lw ne

  pub more_status : (k : ℕ) → status (more_into v t) k ≡ status v k
  more_status k = more_word k status_word (omega arith) (omega arith)

  pub more_same : vertex_words * t + vertex_words ≤ length v → in_count (more_into v t) t ≡ one_more (in_count v t)
  unfolding more_into
  more_same = count_same v t (one_more (in_count v t))

  pub more_other : (k : ℕ) → (k ≡ t → ⊥) → in_count (more_into v t) k ≡ in_count v k
  unfolding more_into
  more_other = count_other v t (one_more (in_count v t))

-- one edge less
module _ (v : List ℕ) (t : ℕ) where
  pub length_less : length (less_into v t) ≡ length v
  unfolding less_into
  length_less = length-set v (vertex_words * t + in_count_word) (in_count v t - 1)

  pub less_out : (i : ℕ) → (i ≡ vertex_words * t + in_count_word → ⊥) → get_or (less_into v t) i 0 ≡ get_or v i 0
  unfolding less_into
  less_out i ne = get_or-set_other v (vertex_words * t + in_count_word) i (in_count v t - 1) 0 ne

  pub less_same : vertex_words * t + vertex_words ≤ length v → in_count (less_into v t) t ≡ in_count v t - 1
  unfolding less_into
  less_same = count_same v t (in_count v t - 1)

  pub less_other : (k : ℕ) → (k ≡ t → ⊥) → in_count (less_into v t) k ≡ in_count v k
  unfolding less_into
  less_other = count_other v t (in_count v t - 1)

-- the row that newEdge appends
module _ (e : List ℕ) (n a b : ℕ) where
  pub length-appended : length (appended e n a b) ≡ length e
  unfolding appended
  length-appended = simp length-set

  pub appended_out : (i : ℕ) → ((edge_words * n ≤ i) × (i < edge_words * n + edge_words) → ⊥) → get_or (appended e n a b) i 0 ≡ get_or e i 0
  unfolding appended
  appended_out i f =
      get_or-set_other (set_edge_word e n source_word a) (edge_words * n + target_word) i b 0 (λ q. f (omega arith))
      ∙ get_or-set_other e (edge_words * n + source_word) i a 0 (λ q. f (omega arith))

  pub appended_other : (i w : ℕ) → w < edge_words → i < n → edge_word (appended e n a b) i w ≡ edge_word e i w
  appended_other i w lw lt = appended_out (edge_words * i + w) (λ q. omega arith)

  pub appended-source : n < edge_rows e → source (appended e n a b) n ≡ a
  unfolding appended
  appended-source lt =
      get_or-set_other (set_edge_word e n source_word a) (edge_words * n + target_word) (edge_words * n + source_word) b 0 (omega arith)
      ∙ get_or-set_same e (edge_words * n + source_word) a 0 (edge_in e n source_word lt (omega arith))

  pub appended-target : n < edge_rows e → target (appended e n a b) n ≡ b
  unfolding appended
  appended-target lt = get_or-set_same (set_edge_word e n source_word a) (edge_words * n + target_word) b 0 (simp length-set (edge_in e n target_word lt (omega arith)))

-- the rows whose source a transfer moves
module _ (t t' : ℕ) where
  length-moved_row : (e : List ℕ) (i : ℕ) → length (moved_row t t' e i) ≡ length e
  unfolding moved_row
  length-moved_row e i = go (eqb (source e i) t)
    where
      go : (b : Bool) → length (cond b (set_edge_word e i source_word t') e) ≡ length e
      go true = length-set e (edge_words * i + source_word) t'
      go false = refl

  moved_row_out : (e : List ℕ) (i j : ℕ) → (j ≡ edge_words * i + source_word → ⊥) → get_or (moved_row t t' e i) j 0 ≡ get_or e j 0
  unfolding moved_row
  moved_row_out e i j ne = go (eqb (source e i) t)
    where
      go : (b : Bool) → get_or (cond b (set_edge_word e i source_word t') e) j 0 ≡ get_or e j 0
      go true = get_or-set_other e (edge_words * i + source_word) j t' 0 ne
      go false = refl

  moved_row-source : (e : List ℕ) (i : ℕ) → i < edge_rows e → source (moved_row t t' e i) i ≡ cond (eqb (source e i) t) t' (source e i)
  unfolding moved_row
  moved_row-source e i lt = go (eqb (source e i) t)
    where
      go : (b : Bool) → source (cond b (set_edge_word e i source_word t') e) i ≡ cond b t' (source e i)
      go true = get_or-set_same e (edge_words * i + source_word) t' 0 (edge_in e i source_word lt (omega arith))
      go false = refl

  pub length_moved : (e : List ℕ) (n : ℕ) → length (moved t t' e n) ≡ length e
  unfolding moved
  length_moved e zero = refl
  length_moved e (suc n) = length-moved_row (moved t t' e n) n ∙ length_moved e n

  -- no word changes but the sources of the first n rows
  pub moved_out : (e : List ℕ) (n j : ℕ) → ((i : ℕ) × (i < n) × (j ≡ edge_words * i + source_word) → ⊥) → get_or (moved t t' e n) j 0 ≡ get_or e j 0
  unfolding moved
  moved_out e zero j f = refl
  moved_out e (suc n) j f =
      moved_row_out (moved t t' e n) n j (λ q. f (n, omega arith, q))
      ∙ moved_out e n j (λ q. f (q.0, omega arith, q.2))

  pub moved-target : (e : List ℕ) (n i : ℕ) → target (moved t t' e n) i ≡ target e i
  moved-target e n i = moved_out e n (edge_words * i + target_word) (λ q. let r = q.2 in omega arith)

  moved_later : (e : List ℕ) (n i : ℕ) → n ≤ i → source (moved t t' e n) i ≡ source e i
  moved_later e n i le = moved_out e n (edge_words * i + source_word) (λ q. let r = q.2 in omega arith)

  pub moved-source : (e : List ℕ) (n i : ℕ) → n ≤ edge_rows e → i < n → source (moved t t' e n) i ≡ cond (eqb (source e i) t) t' (source e i)
  unfolding moved
  moved-source e zero i le lt = absurd (omega arith)
  moved-source e (suc n) i le lt =
      ⊎_elim
      (λ q.
      rw q
      (moved_row-source (moved t t' e n) n (rw length_moved le)
      ∙ ap (λ (x : ℕ). cond (eqb x t) t' x) (moved_later e n n (omega arith))))
      (λ ne. moved_row_out (moved t t' e n) n (edge_words * i + source_word) (edge_apart i n source_word source_word (omega arith) (omega arith) ne)
      ∙ moved-source e n i (omega arith) (omega arith))
      (equal? i n)

  pub moved_from : (e : List ℕ) (n i : ℕ) → n ≤ edge_rows e → i < n → source e i ≡ t → source (moved t t' e n) i ≡ t'
  moved_from e n i le lt q = rw (eq-eqb (source e i) t q) at (moved-source e n i le lt)

  pub moved_rest : (e : List ℕ) (n i : ℕ) → n ≤ edge_rows e → i < n → (source e i ≡ t → ⊥) → source (moved t t' e n) i ≡ source e i
  moved_rest e n i le lt ne = rw (ne_eqb (source e i) t ne) at (moved-source e n i le lt)

-- rows of a table in two parts, where the first part has k rows
front_row : (l r : List ℕ) (k i w : ℕ) → length l ≡ edge_words * k → i < k → w < edge_words → edge_word (l ++ r) i w ≡ edge_word l i w
front_row l r k i w q lt lw = get_or-append l r 0 (edge_words * i + w) (omega arith)

next_row : (l r : List ℕ) (k w : ℕ) → length l ≡ edge_words * k → edge_word (l ++ r) k w ≡ get_or r w 0
next_row l r k w q = ap (λ (x : ℕ). get_or (l ++ r) (x + w) 0) (sym q) ∙ get_or-append-add l r w 0

back_part : (l r : List ℕ) (i k : ℕ) → length l + k ≡ i → get_or (l ++ r) i 0 ≡ get_or r k 0
back_part l r i k q = ap (λ (x : ℕ). get_or (l ++ r) x 0) (sym q) ∙ get_or-append-add l r k 0

-- the rows that a stop keeps
module _ (t : ℕ) (e : List ℕ) where
  -- a row out of t is dropped, any other is put behind those kept before
  pub kept_rows_drop : (n : ℕ) → source e n ≡ t → kept_rows t e (suc n) ≡ kept_rows t e n
  unfolding kept_rows
  kept_rows_drop n q = rw (eq-eqb (source e n) t q) (omega arith)

  pub kept_rows_keep : (n : ℕ) → (source e n ≡ t → ⊥) → kept_rows t e (suc n) ≡ suc (kept_rows t e n)
  unfolding kept_rows
  kept_rows_keep n ne = rw (ne_eqb (source e n) t ne) (omega arith)

  pub kept_drop : (n : ℕ) → source e n ≡ t → kept t e (suc n) ≡ kept t e n
  unfolding kept
  kept_drop n q = rw (eq-eqb (source e n) t q) (append-nil (kept t e n))

  pub kept_keep : (n : ℕ) → (source e n ≡ t → ⊥) → kept t e (suc n) ≡ kept t e n ++ (source e n ∷ target e n ∷ [])
  unfolding kept
  kept_keep n ne = rw (ne_eqb (source e n) t ne)

  pub kept_rows_le : (n : ℕ) → kept_rows t e n ≤ n
  kept_rows_le zero = unfold kept_rows in omega arith
  kept_rows_le (suc n) =
      let h = kept_rows_le n in
      ⊎_elim
      (λ q. omega (arith, kept_rows_drop n q))
      (λ ne. omega (arith, kept_rows_keep n ne))
      (equal? (source e n) t)

  length-kept : (n : ℕ) → length (kept t e n) ≡ edge_words * kept_rows t e n
  length-kept zero = unfold kept kept_rows in refl
  length-kept (suc n) =
      let h = length-kept n in
      ⊎_elim
      (λ q. rw (kept_drop n q, kept_rows_drop n q) h)
      (λ ne. rw (kept_keep n ne, kept_rows_keep n ne, length-append) (omega arith))
      (equal? (source e n) t)

  -- the rows kept before stay where they are, and the row kept now stands behind them
  pub kept_front : (n i w : ℕ) → w < edge_words → i < kept_rows t e n → edge_word (kept t e (suc n)) i w ≡ edge_word (kept t e n) i w
  kept_front n i w lw lt =
      ⊎_elim
      (λ q. ap (λ (l : List ℕ). edge_word l i w) (kept_drop n q))
      (λ ne.
      ap (λ (l : List ℕ). edge_word l i w) (kept_keep n ne)
      ∙ front_row (kept t e n) (source e n ∷ target e n ∷ []) (kept_rows t e n) i w (length-kept n) lt lw)
      (equal? (source e n) t)

  pub kept-source : (n : ℕ) → (source e n ≡ t → ⊥) → source (kept t e (suc n)) (kept_rows t e n) ≡ source e n
  kept-source n ne =
      ap (λ (l : List ℕ). source l (kept_rows t e n)) (kept_keep n ne)
      ∙ next_row (kept t e n) (source e n ∷ target e n ∷ []) (kept_rows t e n) source_word (length-kept n)

  pub kept_target : (n : ℕ) → (source e n ≡ t → ⊥) → target (kept t e (suc n)) (kept_rows t e n) ≡ target e n
  kept_target n ne =
      ap (λ (l : List ℕ). target l (kept_rows t e n)) (kept_keep n ne)
      ∙ next_row (kept t e n) (source e n ∷ target e n ∷ []) (kept_rows t e n) target_word (length-kept n)

  -- the table that a stop leaves: the rows kept, and from the rows held before on the words of before
  pub length_without : (n : ℕ) → n ≤ edge_rows e → length (without_edges_of t e n) ≡ length e
  unfolding without_edges_of
  length_without n le =
      let h = kept_rows_le n in
      simp (length-append, length-replicate, length-drop, length-kept) (omega arith)

  pub without_kept : (n i w : ℕ) → w < edge_words → i < kept_rows t e n → edge_word (without_edges_of t e n) i w ≡ edge_word (kept t e n) i w
  unfolding without_edges_of
  without_kept n i w lw lt = front_row (kept t e n) _ (kept_rows t e n) i w (length-kept n) lt lw

  pub without_later : (n i : ℕ) → edge_words * n ≤ i → get_or (without_edges_of t e n) i 0 ≡ get_or e i 0
  unfolding without_edges_of
  without_later n i le =
      let h = kept_rows_le n in
      back_part (kept t e n) (replicate (edge_words * n - edge_words * kept_rows t e n) 0 ++ drop (edge_words * n) e) i (i - edge_words * kept_rows t e n)
      (omega (arith, length-kept n))
      ∙ back_part (replicate (edge_words * n - edge_words * kept_rows t e n) 0) (drop (edge_words * n) e) (i - edge_words * kept_rows t e n)
      (i - edge_words * n) (rw length-replicate (omega arith))
      ∙ get_or-drop (edge_words * n) e (i - edge_words * n) 0
      ∙ ap (λ (x : ℕ). get_or e x 0) (omega arith)

-- the in-counts that a stop lowers
module _ (t : ℕ) (e v : List ℕ) where
  pub lowered_drop : (n : ℕ) → source e n ≡ t → lowered t e v (suc n) ≡ less_into (lowered t e v n) (target e n)
  unfolding lowered lowered_row
  lowered_drop n q = rw (eq-eqb (source e n) t q) refl

  pub lowered_keep : (n : ℕ) → (source e n ≡ t → ⊥) → lowered t e v (suc n) ≡ lowered t e v n
  unfolding lowered lowered_row
  lowered_keep n ne = rw (ne_eqb (source e n) t ne) refl

  pub length-lowered : (n : ℕ) → length (lowered t e v n) ≡ length v
  length-lowered zero = unfold lowered in refl
  length-lowered (suc n) =
      ⊎_elim
      (λ q. rw (lowered_drop n q) (length_less (lowered t e v n) (target e n) ∙ length-lowered n))
      (λ ne. rw (lowered_keep n ne) (length-lowered n))
      (equal? (source e n) t)

  -- no word changes but the in-counts of the targets of the dropped rows
  pub lowered_out :
      (n i : ℕ) → ((j : ℕ) × (j < n) × (source e j ≡ t) × (i ≡ vertex_words * target e j + in_count_word) → ⊥) → get_or (lowered t e v n) i 0 ≡ get_or v i 0
  lowered_out zero i f = unfold lowered in refl
  lowered_out (suc n) i f =
      let before = lowered_out n i (λ q. f (q.0, omega arith, q.2, q.3)) in
      ⊎_elim
      (λ q. rw (lowered_drop n q) (less_out (lowered t e v n) (target e n) i (λ r. f (n, omega arith, q, r)) ∙ before))
      (λ ne. rw (lowered_keep n ne) before)
      (equal? (source e n) t)

  pub lowered_word : (n k w : ℕ) → w < vertex_words → (w ≡ in_count_word → ⊥) → vertex_word (lowered t e v n) k w ≡ vertex_word v k w
  lowered_word n k w lw ne = lowered_out n (vertex_words * k + w) (λ q. let r = q.3 in ne (omega arith))

  pub lowered-status : (n k : ℕ) → status (lowered t e v n) k ≡ status v k
  lowered-status n k = lowered_word n k status_word (omega arith) (omega arith)
