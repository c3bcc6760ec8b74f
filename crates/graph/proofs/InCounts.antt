-- The in-count, "the number of edges into it, kept true by every command from loading or opening on" (note 6).
--
--     count_clear                       where it is true, it is 0 exactly if no edge leads in
--     same_counts                       it stays true where no edge and no in-count changes
--     stays_true                        every command keeps it true
--     commanded_sound, commanded_true   after an opening and any single commands tables are sound, and every in-count is true
--     start_searches                    start, which reads that word, answers as the full search would
--     commanded_start                   so too after an opening and any single commands
use Prim.Native.Nat.{ℕ, ◌+◌, ◌*◌, ◌<◌}
use mathlib.Core.Path.{◌≡◌, refl, sym, ◌∙◌, subst}
use mathlib.Core.Logic.{⊎_elim}
use mathlib.Core.Bool.{true, not}
use native.Mathlib.Omega.{arith}
use lib.ListN.{length-set}
use lib.Dec.{eqb}
use borrow.Author.Tests.{eq-eqb, eqb-true, ltb-true, not-true}
use Rattle.graph.specs.declared.Command.{Command}
use Rattle.graph.specs.declared.Command.TheVariants.{NewTd, NewEdge, Release, Transfer, Start, Stop, Yield}
use Rattle.graph.specs.Tables.{Lent, RELEASED, EXECUTING, FINISHED, vertex_words, status_word, in_count_word, largest_word, vertex_rows, edge_rows}
use Rattle.graph.specs.Tables.{set_status, in_count, clear}
use Rattle.graph.specs.Answers.{Outcome, OpeningSaid, opened, unless}
use Rattle.graph.specs.Sound.{status_known, statuses_known, sound}
use Rattle.graph.specs.Paths.{leads_into, edges_into}
use Rattle.graph.specs.Commands.{is_made, opened_tables, with_status, with_vertex, with_edge, with_moved, stopped, start_refusal, start, command}
use Rattle.graph.specs.InCounts.{CountTrue, CountsTrue, Commanded, opened_first, then_command, full_search}
use Rattle.graph.proofs.TestLaws.{decide, not_so, same, not_of_false, equal?, both_left, both_right, every_at}
use Rattle.graph.proofs.TableLaws.{word_other, status_same, length-clear, clear_in, new_row_other, new_row_zero}
use Rattle.graph.proofs.EdgeLaws.{none_into, into_counted, holds_none}
use Rattle.graph.proofs.CountLaws.{into_few, into_none, into_appended, into_moved, into_without, count_more, count_lowered}
use Rattle.graph.proofs.SoundLaws.{Fits, sound_tally, sound_fits, fits_sound}
use Rattle.graph.proofs.SoundChecks.{sound_rows}
use Rattle.graph.proofs.TakenLaws.{leaves, Taken, taken, after_either}
use Rattle.graph.proofs.EffectLaws.{leaves_all, leaves_edge}
use Rattle.graph.proofs.Demand2.{stays_sound}
use Rattle.graph.proofs.CallLaws.{row_room}
use Rattle.graph.proofs.OpeningLaws.{Opens, opens, stops, opening_comes}

pub count_clear : (s : Lent) (t : ℕ) → CountTrue s t → eqb (in_count s.vertices t) 0 ≡ not (leads_into s.edges s.held t)
count_clear s t h =
    rw h
    (same _ _
    (λ p. not_of_false ((into_counted s.edges s.held t).0 (eqb-true _ _ p)))
    (λ p. eq-eqb _ _ ((into_counted s.edges s.held t).1 (not-true _ p))))

-- THE WORD STAYS TRUE
pub same_counts :
    (s s' : Lent) → s'.edges ≡ s.edges → s'.held ≡ s.held → s'.made ≡ s.made
    → ((k : ℕ) → k < s.made → in_count s'.vertices k ≡ in_count s.vertices k) → CountsTrue s → CountsTrue s'
same_counts s s' edges held made words counts k lt =
    let lt' : k < s.made = omega arith in
    rw (edges, held) (words k lt' ∙ counts k lt')

with_status_true : (s : Lent) (t x : ℕ) → CountsTrue s → CountsTrue (with_status s t x)
with_status_true s t x =
    same_counts s (with_status s t x) refl refl refl (λ k lt. word_other s.vertices t status_word x k in_count_word (omega arith) (omega arith) (omega arith))

-- no edge leads into a vertex that is not made
none_into_new : (s : Lent) → sound s ≡ true → edges_into s.edges s.held s.made ≡ 0
none_into_new s known =
    (into_counted s.edges s.held s.made).1
    ((none_into s.edges s.held s.made).1 (λ a. not_so _ (λ h. let m = (sound_fits s known).ends_are_made a s.made h in omega arith)))

with_vertex-true : (s : Lent) (t place scope : ℕ) → sound s ≡ true → CountsTrue s → CountsTrue (with_vertex s t place scope)
unfolding with_vertex
with_vertex-true s t place scope known counts k lt =
    ⊎_elim
    (λ q.
    rw q
    (new_row_zero s.vertices s.made place scope _ in_count_word (omega arith) (omega arith) (omega arith) (omega arith) (omega arith)
    ∙ sym (none_into_new s known)))
    (λ ne. new_row_other s.vertices s.made place scope _ k in_count_word (omega arith) ne ∙ counts k (omega arith))
    (equal? k s.made)

-- a true in-count is far below the largest number
count_few : (s : Lent) (k : ℕ) → sound s ≡ true → CountTrue s k → in_count s.vertices k < largest_word
count_few s k known h = omega (arith, sound_rows s known, h, into_few s.edges s.held k)

with_edge-true : (s : Lent) (t1 t2 : ℕ) → s.held < edge_rows s.edges → sound s ≡ true → CountsTrue s → CountsTrue (with_edge s t1 t2)
unfolding with_edge
with_edge-true s t1 t2 free known counts k lt =
    rw (
      count_more t2 k s.vertices (row_room s k known lt) (count_few s k known (counts k lt)),
      counts k lt,
      into_appended s.edges s.held t1 t2 k free,
    )

with_moved_true : (s : Lent) (t t' : ℕ) → CountsTrue s → CountsTrue (with_moved s t t')
unfolding with_moved
with_moved_true s t t' counts k lt = counts k lt ∙ sym (into_moved t t' s.edges s.held k)

stopped-true : (s : Lent) (t : ℕ) → sound s ≡ true → CountsTrue s → CountsTrue (stopped s t)
unfolding stopped
stopped-true s t known counts k lt =
    let finished = with_status_true s t FINISHED counts k lt in
    count_lowered t s.edges (set_status s.vertices t FINISHED) s.held k (rw length-set (row_room s k known lt))
    ∙ omega (arith, finished, into_without t s.edges s.held k)

-- start is the only command that is taken on other tables than sound ones, and it sets a status alone
leaves_true : (c : Command) (s : Lent) → Taken c s → CountsTrue s → CountsTrue (leaves c s)
leaves_true (NewTd t place scope) s h counts = with_vertex-true s t place scope h.0.known counts
leaves_true (NewEdge t t1 t2) s h counts =
    ⊎_elim
    (λ p. subst CountsTrue (sym (leaves_all s t t1 t2 p)) counts)
    (λ p. subst CountsTrue (sym (leaves_edge s t t1 t2 p)) (with_edge-true s t1 t2 p.row_free h.0.known counts))
    h.1.adds
leaves_true (Release t t') s h counts = with_status_true s t' RELEASED counts
leaves_true (Transfer t t') s h counts = with_moved_true s t t' counts
leaves_true (Start t) s h counts = with_status_true s t EXECUTING counts
leaves_true (Stop t) s h counts = stopped-true s t h.known counts
leaves_true (Yield t) s h counts = with_status_true s t RELEASED counts

-- "kept true by every command", a refused one included, on any tables
pub stays_true : (c : Command) (s : Lent) → CountsTrue s → CountsTrue (command c s).after
stays_true c s counts = after_either CountsTrue c s counts (λ h. leaves_true c s ((taken c s).0 h) counts)

-- FROM AN OPENING ON
opened_fits : (s : Lent) → 0 < vertex_rows s.vertices → Fits (opened_tables s)
unfolding opened_tables
opened_fits s lt =
    record {
      vertices_fit = simp (length-set, length-clear) (omega arith);
      edges_fit = omega arith;
      statuses_are_known =
          λ k below.
          let first : k ≡ 0 = omega arith in
          rw first (omega (arith, status_same (clear s.vertices 0 (vertex_words * vertex_rows s.vertices)) 0 RELEASED (simp length-clear lt)));
      ends_are_made = λ a b h. absurd (holds_none _ a b h);
    }

opened_true : (s : Lent) → 0 < vertex_rows s.vertices → CountsTrue (opened_tables s)
unfolding opened_tables
opened_true s lt k below =
    word_other (clear s.vertices 0 (vertex_words * vertex_rows s.vertices)) 0 status_word RELEASED k in_count_word (omega arith) (omega arith) (omega arith)
    ∙ clear_in s.vertices 0 (vertex_words * vertex_rows s.vertices) (vertex_words * k + in_count_word) (omega arith) (omega arith)
    ∙ sym (into_none _ k)

commanded_both : {s₀ s : Lent} → Commanded s₀ s → (sound s ≡ true) × CountsTrue s
commanded_both {s₀} (opened_first h) = there (opening_comes s₀) h
  where
    there : {o : Outcome OpeningSaid} → Opens s₀ o → o.answer ≡ opened → (sound o.after ≡ true) × CountsTrue o.after
    there (opens lt) q = (fits_sound (opened_tables s₀) (opened_fits s₀ lt), opened_true s₀ lt)
    there (stops none) q = let z : ◌≡◌ {A = ℕ} 0 1 = cc in absurd (omega arith)
commanded_both (then_command {s} h c) =
    let (known, counts) = commanded_both h in
    (stays_sound c s known, stays_true c s counts)

pub commanded_sound : {s₀ s : Lent} → Commanded s₀ s → sound s ≡ true
commanded_sound h = (commanded_both h).0

pub commanded_true : {s₀ s : Lent} → Commanded s₀ s → CountsTrue s
commanded_true h = (commanded_both h).1

-- START READS THE WORD
-- sound tables pass what start's 12 looks at
sound_status : (s : Lent) (t : ℕ) → sound s ≡ true → t < s.made → status_known s.vertices t ≡ true
unfolding sound statuses_known
sound_status s t h lt = every_at _ _ (both_left _ _ (both_right _ _ h)) t lt

pub start_searches : (s : Lent) (t : ℕ) → sound s ≡ true → (t < s.made → CountTrue s t) → start s t ≡ full_search s t
unfolding start start_refusal full_search unless
start_searches s t known counted =
    rw (sound_tally s known, known)
    (⊎_elim
    (λ made.
    let lt : t < s.made = ltb-true t s.made made in
    rw (sound_status s t known lt, count_clear s t (counted lt)) refl)
    (λ other. rw other refl)
    (decide (is_made s t)))

pub commanded_start : {s₀ s : Lent} → Commanded s₀ s → (t : ℕ) → start s t ≡ full_search s t
commanded_start {s = s} h t = start_searches s t (commanded_sound h) (commanded_true h t)
