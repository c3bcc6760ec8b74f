-- The opening.
--
--     opening_comes        what it comes to, by whether a vertex row is lent
--     opening_is_refused   with 10 at 0, exactly where none is
--     opening_keeps        a refused opening changes nothing
--     opening_usable       no opening touches a word past the usable rows
use Prim.Native.Nat.{ℕ, ◌+◌, ◌*◌, ◌<◌}
use mathlib.Core.Path.{◌≡◌, refl, sym, ◌∙◌, ap, subst}
use mathlib.Core.Logic.{⊎_elim, ◌↔◌}
use mathlib.Core.List.{List}
use native.Mathlib.Omega.{arith}
use lib.ListN.{length-set}
use lib.Seq.{get_or-set_other}
use Rattle.graph.specs.Tables.{Lent, RELEASED, vertex_words, edge_words, status_word, vertex_rows, edge_rows, set_status, clear}
use Rattle.refusal.specs.Refusals.{too_few_vertex_rows}
use Rattle.graph.specs.Answers.{opened, opening_refused, Outcome, OpeningSaid}
use Rattle.graph.specs.Commands.{opened_tables, opening}
use Rattle.graph.specs.Demand2.{SameBut, UsableOnly}
use Rattle.graph.proofs.TestLaws.{equal?}
use Rattle.graph.proofs.TableLaws.{length-clear, clear_out}
use Rattle.graph.proofs.CallLaws.{opening_stops, opening_opens}

pub data Opens (s : Lent) : Outcome OpeningSaid → Type 0 where
  opens : 0 < vertex_rows s.vertices → Opens s (record { answer = opened; after = opened_tables s })
  stops : vertex_rows s.vertices ≡ 0 → Opens s (record { answer = opening_refused too_few_vertex_rows 0; after = s })

pub opening_comes : (s : Lent) → Opens s (opening s)
opening_comes s =
    ⊎_elim
    (λ none. subst (λ (o : Outcome OpeningSaid). Opens s o) (opening_stops s refl none) (stops none))
    (λ some. subst (λ (o : Outcome OpeningSaid). Opens s o) (opening_opens s refl some) (opens (omega arith)))
    (equal? (vertex_rows s.vertices) 0)

-- "Opening: 10", "bare machine: none"; its place is 0.
pub opening_is_refused :
    (s : Lent) (n p : ℕ)
    → ((opening s).answer ≡ opening_refused n p) ↔ ((n ≡ too_few_vertex_rows) × (p ≡ 0) × (vertex_rows s.vertices ≡ 0))
opening_is_refused s n p = (there (opening_comes s), back)
  where
    there :
        {o : Outcome OpeningSaid} → Opens s o → o.answer ≡ opening_refused n p
        → (n ≡ too_few_vertex_rows) × (p ≡ 0) × (vertex_rows s.vertices ≡ 0)
    there (opens lt) h = let z : ◌≡◌ {A = ℕ} 0 1 = cc in absurd (omega arith)
    there (stops none) h = (cc, cc, none)

    back : (n ≡ too_few_vertex_rows) × (p ≡ 0) × (vertex_rows s.vertices ≡ 0) → (opening s).answer ≡ opening_refused n p
    back (e, f, none) = ap (λ (o : Outcome OpeningSaid). o.answer) (sym (opening_stops s refl none)) ∙ sym (λ i. opening_refused (e i) (f i))

-- "A refusal gives its number and place, and every lent table and the tally hold what they held."
pub opening_keeps : (s : Lent) (n p : ℕ) → (opening s).answer ≡ opening_refused n p → (opening s).after ≡ s
opening_keeps s n p h = there (opening_comes s) h
  where
    there : {o : Outcome OpeningSaid} → Opens s o → o.answer ≡ opening_refused n p → o.after ≡ s
    there (opens lt) h = let z : ◌≡◌ {A = ℕ} 0 1 = cc in absurd (omega arith)
    there (stops none) h = refl

-- the words past the first n
pub cleared_past : (l : List ℕ) (n : ℕ) → SameBut (λ i. i < n) l (clear l 0 n)
cleared_past l n = (length-clear l 0 n, λ i f. clear_out l 0 n i (λ q. f (let lt = q.1 in omega arith)))

opened_past :
    (v : List ℕ) (n : ℕ) → status_word < n → SameBut (λ i. i < n) v (set_status (clear v 0 n) 0 RELEASED)
opened_past v n lt =
    let (len, words) = cleared_past v n in (
      length-set (clear v 0 n) (vertex_words * 0 + status_word) RELEASED ∙ len,
      λ i f. get_or-set_other (clear v 0 n) (vertex_words * 0 + status_word) i RELEASED 0 (λ q. f (omega arith)) ∙ words i f,
    )

opened_usable : (s : Lent) → 0 < vertex_rows s.vertices → UsableOnly s (opened_tables s)
unfolding opened_tables
opened_usable s lt =
    record {
      same_vertex_words = opened_past s.vertices (vertex_words * vertex_rows s.vertices) (omega arith);
      same_edge_words = cleared_past s.edges (edge_words * edge_rows s.edges);
    }

-- "Only full rows among the first 1,024 of each table are used; other words are never touched."
pub opening_usable : (s : Lent) → UsableOnly s (opening s).after
opening_usable s = there (opening_comes s)
  where
    there : {o : Outcome OpeningSaid} → Opens s o → UsableOnly s o.after
    there (opens lt) = opened_usable s lt
    there (stops none) = record { same_vertex_words = (refl, λ i f. refl); same_edge_words = (refl, λ i f. refl) }
