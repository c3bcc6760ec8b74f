-- Demand 2 of loading:
--
--     load_exact      it accepts exactly the encodings of trees within the limits for which the rows needed are lent
--     load_refused    why it is refused
--     load_keeps      a refused loading changes nothing
--     load_accepted   the tables that an accepted one leaves
--     load_usable     no word past the usable rows changes
--     load_place      a refusal has a place from 2 to 7 and for 43 only
use Prim.Native.Nat.{ℕ, ◌+◌, ◌-◌, ◌*◌, ◌<◌, ◌≤◌}
use mathlib.Core.Path.{◌≡◌, refl, sym, ◌∙◌, ap, subst}
use mathlib.Core.Bool.{true, false}
use mathlib.Core.Logic.{◌⊎◌, inl, inr, ⊎_elim, ◌↔◌}
use mathlib.Core.List.{List}
use native.Mathlib.Omega.{arith}
use lib.Dec.{ltb}
use lib.ListN.{length, set, length-set}
use lib.Seq.{get_or-set_other}
use borrow.Author.Tests.{le-ltb, lt-ltb, ltb-true, ltb-false}
use Rattle.graph.specs.Tables.{Lent, vertex_words, edge_words, status_word, place_word, scope_word, in_count_word, source_word, target_word}
use Rattle.graph.specs.Tables.{vertex_rows, edge_rows, clear}
use Rattle.graph.specs.Commands.{appended}
use Rattle.graph.specs.Demand2.{SameBut, UsableOnly}
use Rattle.graph.specs.Answers.{Outcome}
use Rattle.graph.proofs.TestLaws.{decide, true-false}
use Rattle.graph.proofs.TableLaws.{length-clear, clear_out}
use Rattle.program.specs.Trees.{Body}
use Rattle.program.specs.Bytes.{encode}
use Rattle.program.specs.Encodings as needs
use Rattle.program.specs.declared.Edition.{Edition}
use Rattle.program.specs.Reader.{Reading, program, refusal, reading}
use Rattle.program.specs.Claims.{Loadable, BadNumber, too_long, not_shortest, too_large, Offends, unknown, opener, misnumbered, no_byte, unopened}
use Rattle.program.proofs.CodeLaws.{cond_yes, cond_no}
use Rattle.program.proofs.Exactness.{reading_sound, reading_complete}
use Rattle.program.proofs.StopLaws.{ItemStop, ran_out, offended, Stop, stop, main_stop}
use Rattle.program.proofs.ReadingLaws as read
use Rattle.refusal.specs.Refusals.{too_few_vertex_rows, too_few_edge_rows}
use Rattle.machine.specs.Answers.{loaded, loading_refused, is_loaded, refuse_loading, LoadingSaid}
use Rattle.machine.specs.Loading.{placed, loaded_tables, load_read, load}
use Rattle.machine.specs.Demand2.{Lends, Unloaded, unread, few_vertex_rows, few_edge_rows, HasPlace}

-- a program for which the rows are lent is loaded
abbrev pub loaded_outcome : List ℕ → Lent → Outcome LoadingSaid
loaded_outcome bytes s = record { answer = loaded; after = loaded_tables bytes s }

-- the tests of the rows
module _ (ed : Edition) (bytes : List ℕ) (s : Lent) (b : Body) where
  enough_rows : Lends ed b s → load_read ed bytes s (program b) ≡ loaded_outcome bytes s
  unfolding load_read
  enough_rows h = sym (cond_no _ _ (le-ltb _ _ h.enough_vertex_rows)) ∙ sym (cond_no _ _ (le-ltb _ _ h.enough_edge_rows))

  vertex_rows_wanting :
      vertex_rows s.vertices < needs.vertices_made ed b → load_read ed bytes s (program b) ≡ refuse_loading s too_few_vertex_rows 0
  unfolding load_read
  vertex_rows_wanting lt = sym (cond_yes _ _ (lt-ltb _ _ lt))

  edge_rows_wanting :
      needs.vertices_made ed b ≤ vertex_rows s.vertices → edge_rows s.edges < needs.edge_rows_needed ed b
      → load_read ed bytes s (program b) ≡ refuse_loading s too_few_edge_rows 0
  unfolding load_read
  edge_rows_wanting le lt = sym (cond_no _ _ (le-ltb _ _ le)) ∙ sym (cond_yes _ _ (lt-ltb _ _ lt))

pub load_taken :
    (ed : Edition) (bytes : List ℕ) (s : Lent) (b : Body) → reading ed bytes ≡ program b → Lends ed b s
    → load ed bytes s ≡ loaded_outcome bytes s
unfolding load
load_taken ed bytes s b r h = rw r (enough_rows ed bytes s b h)

-- what loading comes to: loaded, or refused for one of its reasons
data Comes (ed : Edition) (bytes : List ℕ) (s : Lent) (o : Outcome LoadingSaid) : Type 0 where
  loads : (b : Body) → reading ed bytes ≡ program b → Lends ed b s → o ≡ loaded_outcome bytes s → Comes ed bytes s o
  refuses : (n p : ℕ) → Unloaded ed bytes s n p → o ≡ refuse_loading s n p → Comes ed bytes s o

-- bytes that are read as a program
comes_program :
    (ed : Edition) (bytes : List ℕ) (s : Lent) (b : Body) → reading ed bytes ≡ program b → Comes ed bytes s (load_read ed bytes s (program b))
comes_program ed bytes s b r =
    ⊎_elim
    (λ p. refuses _ 0 (few_vertex_rows b r (ltb-true _ _ p)) (vertex_rows_wanting ed bytes s b (ltb-true _ _ p)))
    (λ p.
    ⊎_elim
    (λ q.
    refuses _ 0 (few_edge_rows b r (ltb-false _ _ p) (ltb-true _ _ q)) (edge_rows_wanting ed bytes s b (ltb-false _ _ p) (ltb-true _ _ q)))
    (λ q.
    let l : Lends ed b s = record { enough_vertex_rows = ltb-false _ _ p; enough_edge_rows = ltb-false _ _ q } in
    loads b r l (enough_rows ed bytes s b l))
    (decide (ltb (edge_rows s.edges) (needs.edge_rows_needed ed b))))
    (decide (ltb (vertex_rows s.vertices) (needs.vertices_made ed b)))

-- any bytes
comes_of : (ed : Edition) (bytes : List ℕ) (s : Lent) (r : Reading) → reading ed bytes ≡ r → Comes ed bytes s (load_read ed bytes s r)
unfolding load_read
comes_of ed bytes s (program b) e = comes_program ed bytes s b e
comes_of ed bytes s (refusal n p) e = refuses n p (unread e) refl

load_comes : (ed : Edition) (bytes : List ℕ) (s : Lent) → Comes ed bytes s (load ed bytes s)
unfolding load
load_comes ed bytes s = comes_of ed bytes s (reading ed bytes) refl

-- Loading accepts exactly the encodings of trees within all limits for which the rows needed are lent.
pub load_exact :
    (ed : Edition) (bytes : List ℕ) (s : Lent)
    → (is_loaded (load ed bytes s).answer ≡ true) ↔ ((b : Body) × Loadable ed b × (bytes ≡ encode b) × Lends ed b s)
load_exact ed bytes s = (
  λ h. there (load_comes ed bytes s) h,
  λ (b, h, e, l).
      ap (λ (o : Outcome LoadingSaid). is_loaded o.answer) (load_taken ed bytes s b (ap (reading ed) e ∙ reading_complete ed b h) l),
)
  where
    there :
        {o : Outcome LoadingSaid} → Comes ed bytes s o → is_loaded o.answer ≡ true
        → (b : Body) × Loadable ed b × (bytes ≡ encode b) × Lends ed b s
    there (loads b r l e) h = let (p, q) = reading_sound ed bytes b r in (b, q, p, l)
    there (refuses n p u e) h = true-false h (ap (λ (o : Outcome LoadingSaid). is_loaded o.answer) e)

-- It is refused as reading is, or by 10 or 11 where rows are wanting.
load_refuses : (ed : Edition) (bytes : List ℕ) (s : Lent) {n p : ℕ} → Unloaded ed bytes s n p → load ed bytes s ≡ refuse_loading s n p
unfolding load load_read
load_refuses ed bytes s (unread r) = rw r refl
load_refuses ed bytes s (few_vertex_rows b r lt) = rw r (vertex_rows_wanting ed bytes s b lt)
load_refuses ed bytes s (few_edge_rows b r le lt) = rw r (edge_rows_wanting ed bytes s b le lt)

pub load_refused :
    (ed : Edition) (bytes : List ℕ) (s : Lent) (n p : ℕ) → ((load ed bytes s).answer ≡ loading_refused n p) ↔ Unloaded ed bytes s n p
load_refused ed bytes s n p = (
  λ h. there (load_comes ed bytes s) h,
  λ u. ap (λ (o : Outcome LoadingSaid). o.answer) (load_refuses ed bytes s u),
)
  where
    there : {o : Outcome LoadingSaid} → Comes ed bytes s o → o.answer ≡ loading_refused n p → Unloaded ed bytes s n p
    there (loads b r l e) h = true-false (ap (λ (o : Outcome LoadingSaid). is_loaded o.answer) e) (ap is_loaded h)
    there (refuses n' p' u e) h =
        let q : loading_refused n p ≡ loading_refused n' p' = sym h ∙ ap (λ (o : Outcome LoadingSaid). o.answer) e in
        let qn : n' ≡ n = cc in
        let qp : p' ≡ p = cc in
        subst (λ (x : ℕ). Unloaded ed bytes s x p) qn (subst (λ (x : ℕ). Unloaded ed bytes s n' x) qp u)

-- A refused loading changes nothing.
pub load_keeps : (ed : Edition) (bytes : List ℕ) (s : Lent) → is_loaded (load ed bytes s).answer ≡ false → (load ed bytes s).after ≡ s
load_keeps ed bytes s = keeps (load_comes ed bytes s)
  where
    keeps : {o : Outcome LoadingSaid} → Comes ed bytes s o → is_loaded o.answer ≡ false → o.after ≡ s
    keeps (loads b r l e) h = true-false (ap (λ (o : Outcome LoadingSaid). is_loaded o.answer) e) h
    keeps (refuses n p u e) h = ap (λ (o : Outcome LoadingSaid). o.after) e

-- The tables that an accepted loading leaves, and that the rows were lent.
pub load_accepted :
    (ed : Edition) (bytes : List ℕ) (s : Lent) (t : Body) → reading ed bytes ≡ program t → is_loaded (load ed bytes s).answer ≡ true
    → Lends ed t s × ((load ed bytes s).after ≡ loaded_tables bytes s)
load_accepted ed bytes s t r = there (load_comes ed bytes s)
  where
    there : {o : Outcome LoadingSaid} → Comes ed bytes s o → is_loaded o.answer ≡ true → Lends ed t s × (o.after ≡ loaded_tables bytes s)
    there (loads b q l e) h =
        let same : b ≡ t = cc in
        (subst (λ (x : Body). Lends ed x s) same l, ap (λ (o : Outcome LoadingSaid). o.after) e)
    there (refuses n p u e) h = true-false h (ap (λ (o : Outcome LoadingSaid). is_loaded o.answer) e)

-- a program needs two vertex rows and one edge row
pub two_rows : (ed : Edition) (t : Body) (s : Lent) → Lends ed t s → 2 ≤ vertex_rows s.vertices
unfolding needs.vertices_made
two_rows ed t s h = omega (arith, h.enough_vertex_rows)

pub one_edge_row : (ed : Edition) (t : Body) (s : Lent) → Lends ed t s → 0 < edge_rows s.edges
unfolding needs.edge_rows_needed
one_edge_row ed t s h = omega (arith, h.enough_edge_rows)

-- the words from n on are what they were
record Rest (l : List ℕ) (n : ℕ) (l' : List ℕ) : Type 0 where
  stays : SameBut (λ i. i < n) l l'

-- when the first n are cleared
rest_cleared : (l : List ℕ) (n : ℕ) → Rest l n (clear l 0 n)
rest_cleared l n = record { stays = (length-clear l 0 n, λ i out. clear_out l 0 n i (λ q. out (omega (arith, q.1)))) }

-- and when one of these is set
rest_set : {l l' : List ℕ} {n : ℕ} (i x : ℕ) → i < n → Rest l n l' → Rest l n (set l' i x)
rest_set {l' = l'} i x lt h =
    let (len, same) = h.stays in
    record { stays = (length-set l' i x ∙ len, λ j out. get_or-set_other l' i j x 0 (λ e. out (omega arith)) ∙ same j out) }

-- or a vertex is placed among them
rest_placed : {l l' : List ℕ} {n : ℕ} (k x : ℕ) → vertex_words * k + scope_word < n → Rest l n l' → Rest l n (placed l' k x)
rest_placed k x lt h =
    rest_set (vertex_words * k + scope_word) _ lt
    (rest_set (vertex_words * k + place_word) x (omega arith) (rest_set (vertex_words * k + status_word) _ (omega arith) h))

loaded_usable : (ed : Edition) (bytes : List ℕ) (s : Lent) (t : Body) → Lends ed t s → UsableOnly s (loaded_tables bytes s)
unfolding loaded_tables appended
loaded_usable ed bytes s t h =
    let two : 2 ≤ vertex_rows s.vertices = two_rows ed t s h in
    let one : 0 < edge_rows s.edges = one_edge_row ed t s h in
    record {
      same_vertex_words =
          (rest_set (vertex_words * 1 + in_count_word) _ (omega arith)
          (rest_placed 1 (length bytes - 1) (omega arith)
          (rest_placed 0 0 (omega arith) (rest_cleared s.vertices (vertex_words * vertex_rows s.vertices))))
          ).stays;
      same_edge_words =
          (rest_set (edge_words * 0 + target_word) _ (omega arith)
          (rest_set (edge_words * 0 + source_word) _ (omega arith) (rest_cleared s.edges (edge_words * edge_rows s.edges)))
          ).stays;
    }

-- Loading, accepted or refused, changes no word past the usable rows, and no table's length.
pub load_usable : (ed : Edition) (bytes : List ℕ) (s : Lent) → UsableOnly s (load ed bytes s).after
load_usable ed bytes s = there (load_comes ed bytes s)
  where
    there : {o : Outcome LoadingSaid} → Comes ed bytes s o → UsableOnly s o.after
    there (loads b r l e) = subst (λ (o : Outcome LoadingSaid). UsableOnly s o.after) (sym e) (loaded_usable ed bytes s b l)
    there (refuses n p u e) =
        subst (λ (o : Outcome LoadingSaid). UsableOnly s o.after) (sym e)
        (record { same_vertex_words = (refl, λ i out. refl); same_edge_words = (refl, λ i out. refl) })

-- bytes that offend have a place, and so have bytes that run out
number_place : {n : ℕ} {bad : List ℕ} → BadNumber n bad → HasPlace n
number_place (too_long number e t) = inl (omega arith)
number_place (not_shortest b groups t) = inl (omega arith)
number_place (too_large m l r) = inl (omega arith)

offends_place : {level opened n : ℕ} {first bad : List ℕ} → Offends level opened n first bad → HasPlace n
offends_place (unknown x l) = inl (omega arith)
offends_place (opener x p q h) = inl (omega arith)
offends_place (misnumbered x h bad) = number_place bad
offends_place (no_byte first groups x f l t h) = inl (omega arith)
offends_place (unopened n l h) = inr refl

item_place : {level opened n : ℕ} {xs left : List ℕ} → ItemStop level opened xs n left → HasPlace n
item_place (ran_out w) = inl (omega arith)
item_place (offended first bad rest o e q) = offends_place o

stop_place : {level opened n : ℕ} {xs left : List ℕ} → Stop level opened xs n left → HasPlace n
stop_place (stop to there before ys l e s) = item_place s

reading_place : {ed : Edition} {bytes : List ℕ} {n p : ℕ} → read.Comes ed bytes (refusal n p) → HasPlace n ⊎ (p ≡ 0)
reading_place (read.outside o) = inr refl
reading_place {bytes = bytes} (read.stopped n left w e) = inl (stop_place (main_stop bytes n left e))
reading_place (read.overran b x left w e) = inl (inl (omega arith))
reading_place (read.crowds b w e v) = inr refl

-- A refused loading has a place from 2 to 7 and for 43 only.
pub load_place : (ed : Edition) (bytes : List ℕ) (s : Lent) (n p : ℕ) → (load ed bytes s).answer ≡ loading_refused n p → HasPlace n ⊎ (p ≡ 0)
load_place ed bytes s n p h = there ((load_refused ed bytes s n p).0 h)
  where
    there : {n p : ℕ} → Unloaded ed bytes s n p → HasPlace n ⊎ (p ≡ 0)
    there (unread r) = reading_place (subst (λ (x : Reading). read.Comes ed bytes x) r (read.reading_comes ed bytes))
    there (few_vertex_rows b r lt) = inr refl
    there (few_edge_rows b r le lt) = inr refl
