-- The graph that tables hold: what it says of a vertex, and what it becomes when a status is set or a vertex is made.
use Prim.Native.Nat.{ℕ, ◌+◌, ◌<◌, ◌≤◌}
use mathlib.Core.Path.{◌≡◌, refl, sym, ◌∙◌, ap}
use mathlib.Core.Logic.{⊎_elim}
use mathlib.Core.Bool.{Bool, true, false, cond}
use mathlib.Core.Option.{Option, none, some}
use mathlib.Core.List.{List}
use native.Mathlib.Omega.{arith}
use lib.Dec.{ltb}
use borrow.Author.Tests.{lt-ltb, le-ltb, ltb-true, ltb-false, eq-eqb, ne_eqb}
use Rattle.graph.specs.Tables.{NEW, FINISHED, status_word, vertex_rows, status, set_status}
use Rattle.graph.specs.Rules.{N, put, is_some, is_finished}
use Rattle.graph.specs.Commands.{new_row, more_into, lowered}
use Rattle.graph.proofs.TestLaws.{decide, equal?, true-false}
use Rattle.graph.proofs.TableLaws.{status_same, status_other, new_row-status, new_row_other, more_status, lowered-status}

-- the status that the graph of a table with n vertices shows
abbrev pub shown : List ℕ → ℕ → ℕ → Option ℕ
shown v n x = cond (ltb x n) (some (status v x)) none

pub shown_made : (v : List ℕ) (n x : ℕ) → x < n → shown v n x ≡ some (status v x)
shown_made v n x lt = ap (λ (b : Bool). cond b (some (status v x)) none) (lt-ltb x n lt)

pub shown_not : (v : List ℕ) (n x : ℕ) → n ≤ x → shown v n x ≡ none
shown_not v n x le = ap (λ (b : Bool). cond b (some (status v x)) none) (le-ltb x n le)

-- a made vertex with that status
pub shown_as : (v : List ℕ) (n x y : ℕ) → x < n → status v x ≡ y → shown v n x ≡ some y
shown_as v n x y lt q = shown_made v n x lt ∙ ap some q

-- only a made vertex shows a status, its own
pub shown-some : (v : List ℕ) (n x y : ℕ) → shown v n x ≡ some y → (x < n) × (status v x ≡ y)
shown-some v n x y h =
    ⊎_elim
    (λ p. (ltb-true x n p, let q = shown_made v n x (ltb-true x n p) in cc))
    (λ p. let q = shown_not v n x (ltb-false x n p) in let z : ◌≡◌ {A = ℕ} 0 1 = cc in absurd (omega arith))
    (decide (ltb x n))

pub shown_domain : (v : List ℕ) (n x : ℕ) → x < n → is_some (shown v n x) ≡ true
shown_domain v n x lt = ap is_some (shown_made v n x lt)

pub domain_shown : (v : List ℕ) (n x : ℕ) → is_some (shown v n x) ≡ true → x < n
domain_shown v n x h =
    ⊎_elim
    (λ p. ltb-true x n p)
    (λ p. true-false h (ap is_some (shown_not v n x (ltb-false x n p))))
    (decide (ltb x n))

-- the rules' test "status = F" of a made vertex
pub shown_over : (v : List ℕ) (n x : ℕ) → x < n → status v x ≡ FINISHED → is_finished (shown v n x) ≡ true
shown_over v n x lt q = ap is_finished (shown_made v n x lt) ∙ eq-eqb (status v x) FINISHED q

pub shown_live : (v : List ℕ) (n x : ℕ) → x < n → (status v x ≡ FINISHED → ⊥) → is_finished (shown v n x) ≡ false
shown_live v n x lt ne = ap is_finished (shown_made v n x lt) ∙ ne_eqb (status v x) FINISHED ne

-- it does not follow the in-counts
pub shown_more : (v : List ℕ) (n t x : ℕ) → shown (more_into v t) n x ≡ shown v n x
shown_more v n t x = ap (λ (y : ℕ). cond (ltb x n) (some y) none) (more_status v t x)

pub shown-lowered : (v : List ℕ) (n t : ℕ) (e : List ℕ) (m x : ℕ) → shown (lowered t e v m) n x ≡ shown v n x
shown-lowered v n t e m x = ap (λ (y : ℕ). cond (ltb x n) (some y) none) (lowered-status t e v m x)

-- V[k ↦ o], at k and elsewhere
put_same : (σ : ℕ → Option ℕ) (o : Option ℕ) (k : ℕ) → put σ k o k ≡ o
put_same σ o k = ap (λ (b : Bool). cond b o (σ k)) (eq-eqb k k refl)

put_other : (σ : ℕ → Option ℕ) (o : Option ℕ) (k x : ℕ) → (x ≡ k → ⊥) → put σ k o x ≡ σ x
put_other σ o k x ne = ap (λ (b : Bool). cond b o (σ x)) (ne_eqb x k ne)

-- σ is τ[k ↦ o], if it has o at k and is τ elsewhere
put_is : (σ τ : ℕ → Option ℕ) (o : Option ℕ) (k : ℕ) → σ k ≡ o → ((x : ℕ) → (x ≡ k → ⊥) → σ x ≡ τ x) → (x : ℕ) → σ x ≡ put τ k o x
put_is σ τ o k p q x =
    ⊎_elim
    (λ z. rw z (p ∙ sym (put_same τ o k)))
    (λ ne. q x ne ∙ sym (put_other τ o k x ne))
    (equal? x k)

-- a status that is set
pub shown_set : (v : List ℕ) (n k y : ℕ) → k < n → n ≤ vertex_rows v → (x : ℕ) → shown (set_status v k y) n x ≡ put (shown v n) k (some y) x
shown_set v n k y lt le =
    put_is (shown (set_status v k y) n) (shown v n) (some y) k
    (shown_as (set_status v k y) n k y lt (status_same v k y (omega arith)))
    (λ x ne. ap (λ (z : ℕ). cond (ltb x n) (some z) none) (status_other v k y x ne))

-- a vertex that is made
pub shown_new :
    (v : List ℕ) (n place scope future : ℕ) → n < vertex_rows v → (x : ℕ) → shown (new_row v n place scope future) (n + 1) x ≡ put (shown v n) n N x
shown_new v n place scope future lt =
    put_is (shown (new_row v n place scope future) (n + 1)) (shown v n) N n
    (shown_as (new_row v n place scope future) (n + 1) n NEW (omega arith) (new_row-status v n place scope future lt))
    (λ x ne.
    ⊎_elim
    (λ h.
    let l : x < n = ltb-true x n h in
    shown_as (new_row v n place scope future) (n + 1) x (status v x) (omega arith) (new_row_other v n place scope future x status_word (omega arith) ne)
    ∙ sym (shown_made v n x l))
    (λ h.
    let g : n ≤ x = ltb-false x n h in
    shown_not (new_row v n place scope future) (n + 1) x (omega arith) ∙ sym (shown_not v n x g))
    (decide (ltb x n)))
