-- A step that says start, edge or job lets no other vertex step that could not before. What is due at another vertex is told by its own words, its
-- scope and the futures that are open, which stay; and no command that was refused there is accepted behind the step.
--
--     Narrower                         what a step leaves, where it lets no other vertex do more
--     can_before                       so who can step then could before
--     narrower_same, narrower_own      nothing is changed; a vertex's own words are stored, and the step is counted
--     narrower_start, narrower_edge    a vertex is started; an edge is added
--     Still, still_due                 the latest open future stays, where one of the three is due
--     keeps_shut, keeps_shut_lem            the three answers, and the law of them
use Prim.Native.Nat.{ℕ, zero, suc, ◌+◌, ◌*◌, ◌/◌, ◌-◌, ◌<◌, ◌≤◌, min}
use mathlib.Core.Path.{◌≡◌, refl, sym, ◌∙◌, ap, subst}
use mathlib.Core.Bool.{Bool, true, false, not, cond}
use mathlib.Core.Logic.{◌⊎◌, inl, inr, ⊎_elim}
use mathlib.Core.List.{List}
use mathlib.Core.Option.{Option, none, some}
use native.Mathlib.Omega.{arith}
use lib.Dec.{eqb, ltb}
use lib.ListN.{length, get_or, take, length-set}
use lib.Seq.{get_or-set_other}
use borrow.Author.Tests.{lt-ltb}
use Rattle.graph.specs.Tests.{both, either}
use Rattle.graph.specs.Tables.{Lent, NEW, RELEASED, EXECUTING, FINISHED, vertex_words, status_word, place_word, scope_word, phase_word, made_word}
use Rattle.graph.specs.Tables.{future_word, in_count_word, source_word, target_word, edge_words, largest_word, usable_limit, vertex_rows, edge_rows, vertex_word}
use Rattle.graph.specs.Tables.{status, set_status, in_count, source, target}
use Rattle.graph.specs.Sound.{sound, tally_fits}
use Rattle.graph.specs.Paths.{holds, leads_out_of, reaches}
use Rattle.graph.specs.Answers as of_graph
use Rattle.graph.specs.Answers.{Outcome}
use Rattle.graph.specs.Commands.{is_made, has_status, with_status, one_more, more_into, appended, with_edge, target_reaches, command}
use Rattle.graph.specs.Demand2.{AddsNothing}
use Rattle.graph.specs.declared.Command as single
use Rattle.graph.specs.declared.Command.TheVariants.{NewTd, NewEdge, Release, Transfer, Start, Stop, Yield}
use Rattle.graph.proofs.TestLaws.{true-false, not_so, equal?, both_true, both_left, both_right}
use Rattle.graph.proofs.TestLaws.{either_left, either_right, either_cases, any_found, any_at}
use Rattle.graph.proofs.TableLaws.{vertex_apart, status_same, status_other, word_other, length_more, more_word, more_status, more_same, more_other}
use Rattle.graph.proofs.TableLaws.{length-appended, appended_other}
use Rattle.graph.proofs.PathLaws.{wider, path_reaches, reaches_path}
use Rattle.graph.proofs.EdgeLaws.{OneMore, held_decides, appended_is}
use Rattle.graph.proofs.EffectLaws.{leaves_all, leaves_edge}
use Rattle.graph.proofs.SoundLaws.{sound_tally, sound_fits}
use Rattle.graph.proofs.TakenLaws.{refusal, says, leaves, Runs, Adds, Taken, taken, taken_is, not_refused, is_accepted}
use Rattle.refusal.specs.Refusals.{no_such_vertex, vertex_is_new, vertex_is_finished, unsound_tables, nothing_starts}
use Rattle.index.specs.Underway.{caller_of}
use Rattle.program.specs.declared.Edition.{Edition}
use Rattle.program.specs.declared.Edition.TheVariants.{First, Second}
use Rattle.program.specs.Trees.{jobs, asyncs, finishes, forks, futures, forces}
use Rattle.program.specs.Encodings.{Name, self, own_scope, made_1, made_2, made_3, forced, Spot, Row, row_of, fork_row, weight, makes}
use Rattle.program.specs.Encodings.{Command, perform, new_td, new_edge, transfer, release, yield}
use Rattle.program.specs.Answers as of_program
use Rattle.program.specs.Answers.{Stands}
use Rattle.program.specs.Located.{item_at}
use Rattle.machine.specs.Answers.{StepSaid, start, new, edge, job, stop, refused, accepted, said_as, one_step}
use Rattle.machine.specs.Stepping.{step_limit, steppable, start_due, place, phase, latest, open_future, further, followed, or_zero, named}
use Rattle.machine.specs.Stepping.{is_vertex, stands, all_stand, Task, item, ends, nothing, task, nth, Own, own, own_of, with_made, with_kept}
use Rattle.machine.specs.Stepping.{with_phase, own_past_item, moved_on, Due, refusal_due, job_due, command_due, due_if, filled_in, next_of, next_at, due}
use Rattle.machine.specs.Stepping.{with_own, do_due, step}
use Rattle.machine.specs.Running.{can_step}
use Rattle.machine.specs.Demand2.{OwnWord}
use Rattle.machine.proofs.LookLaws.{step-sound}
use Rattle.machine.proofs.StepDemand2.{said_accepted, can_ready}
use Rattle.machine.proofs.TablesFollow.OwnLaws.{own_adds, status_not_own, count_not_own}
use Rattle.machine.proofs.TablesFollow.StepLaws.{steppable_of, step_is}
use Rattle.walks.specs.Internal.Walking.{OpensNobody, keeps_shut}
use Rattle.looks.proofs.OwnDue.{OwnCommand, own_task}

-- WHAT A STEP OF t LEAVES
-- no other vertex can do on s' what it cannot on s
record Narrower (t : ℕ) (s s' : Lent) : Type 0 where
  known : sound s ≡ true
  later : s.steps ≤ s'.steps
  same_made : s'.made ≡ s.made
  same_length : length s'.vertices ≡ length s.vertices
  others : (u w : ℕ) → (u ≡ t → ⊥) → w < in_count_word → vertex_word s'.vertices u w ≡ vertex_word s.vertices u w
  latest_stays : (u : ℕ) → latest s' u ≡ latest s u
  statuses : (u x : ℕ) → (x ≡ EXECUTING → ⊥) → status s'.vertices u ≡ x → status s.vertices u ≡ x
  counts : (u : ℕ) → in_count s'.vertices u ≡ 0 → in_count s.vertices u ≡ 0
  adds : (a b : ℕ) → AddsNothing s' a b ⊎ Adds s' a b → AddsNothing s a b ⊎ Adds s a b
  outs : (a : ℕ) → leads_out_of s'.edges s'.held a ≡ false → leads_out_of s.edges s.held a ≡ false
  paths : (a b : ℕ) → target_reaches s'.edges s'.held a b ≡ false → target_reaches s.edges s.held a b ≡ false

further_same : (o : Option ℕ) (f g : ℕ → Option ℕ) → ((x : ℕ) → f x ≡ g x) → further o f ≡ further o g
unfolding further
further_same none f g h = refl
further_same (some x) f g h = h x

-- who does what is due
abbrev DoneBy : ℕ → Due → Type 0
DoneBy u (refusal_due n) = Unit {0}
DoneBy u (job_due n p w) = Unit {0}
DoneBy u (command_due c w) = caller_of c ≡ u

by_own : (u : ℕ) (d : Due) → OwnCommand u d → DoneBy u d
by_own u (refusal_due n) h = tt
by_own u (job_due n p w) h = tt
by_own u (command_due c w) h = h.0

by_if : (u : ℕ) (b : Bool) (n : ℕ) (d : Due) → DoneBy u d → DoneBy u (due_if b n d)
unfolding due_if
by_if u true n d h = h
by_if u false n d h = tt

by_cond : (u : ℕ) (b : Bool) (d d' : Due) → DoneBy u d → DoneBy u d' → DoneBy u (cond b d d')
by_cond u true d d' h h' = h
by_cond u false d d' h h' = h'

by_due : (ed : Edition) (bytes : List ℕ) (s : Lent) (u : ℕ) → DoneBy u (due ed bytes s u)
unfolding due caller_of
by_due ed bytes s u =
    let x : Task = task ed (length bytes - 1) (item_at ed bytes (place s u)) in
    by_cond u (start_due s u) _ _ refl
    (by_if u (steppable s) _ _
    (by_if u (is_made s u) _ _
    (by_if u (not (has_status s u NEW)) _ _
    (by_if u (not (has_status s u FINISHED)) _ _
    (by_own u (next_at s u x) (own_task s u x))))))

module _ (t : ℕ) (s s' : Lent) (h : Narrower t s s') where
  hop_same : (u : ℕ) → open_future s' (latest s' u) ≡ open_future s (latest s u)
  unfolding open_future
  hop_same u =
      λ i. let x = h.latest_stays u i in cond (both (ltb 0 x) (ltb x (h.same_made i))) (some x) none

  follow_same : (n u : ℕ) → followed s' u n ≡ followed s u n
  unfolding followed
  follow_same zero u = hop_same u
  follow_same (suc n) u =
      ap (λ (o : Option ℕ). further o (λ x. followed s' x n)) (hop_same u)
      ∙ further_same (open_future s (latest s u)) (λ x. followed s' x n) (λ x. followed s x n) (λ x. follow_same n x)

  module _ (u : ℕ) (other : u ≡ t → ⊥) where
    word : (w : ℕ) → w < in_count_word → vertex_word s'.vertices u w ≡ vertex_word s.vertices u w
    word w lt = h.others u w other lt

    -- What is due at another vertex is the same:
    own_same : own_of s' u ≡ own_of s u
    unfolding own_of
    own_same =
        λ i.
        own (word place_word (omega arith) i) (word phase_word (omega arith) i) (word made_word (omega arith) i) (word (made_word + 1) (omega arith) i)
        (word (made_word + 2) (omega arith) i)
        (word future_word (omega arith) i)

    named_same : (n : ℕ) (a : Name) → named s' u n a ≡ named s u n a
    unfolding named
    named_same n self = refl
    named_same n own_scope = word scope_word (omega arith)
    named_same n made_1 = word made_word (omega arith)
    named_same n made_2 = word (made_word + 1) (omega arith)
    named_same n made_3 = word (made_word + 2) (omega arith)
    named_same n forced = ap or_zero (follow_same n u)

    stands_same : (n : ℕ) (a : Name) → stands s' u n a ≡ stands s u n a
    unfolding stands
    stands_same n self = refl
    stands_same n own_scope = refl
    stands_same n made_1 = refl
    stands_same n made_2 = refl
    stands_same n made_3 = refl
    stands_same n forced = ap is_vertex (follow_same n u)

    all_same : (n : ℕ) (c : Command) → all_stand s' u n c ≡ all_stand s u n c
    unfolding all_stand
    all_same n perform = refl
    all_same n (new_td p a) = stands_same n a
    all_same n (new_edge a b) = λ i. both (stands_same n a i) (stands_same n b i)
    all_same n (transfer a) = stands_same n a
    all_same n (release a) = stands_same n a
    all_same n yield = refl

    filled_same : (n : ℕ) (spot : Spot → ℕ) (w : Own) (c : Command) → filled_in s' u n spot w c ≡ filled_in s u n spot w c
    unfolding filled_in
    filled_same n spot w perform = λ i. job_due n (word place_word (omega arith) i) w
    filled_same n spot w (new_td p a) = λ i. command_due (NewTd u (spot p) (named_same n a i)) w
    filled_same n spot w (new_edge a b) = λ i. command_due (NewEdge u (named_same n a i) (named_same n b i)) w
    filled_same n spot w (transfer a) = λ i. command_due (Transfer u (named_same n a i)) w
    filled_same n spot w (release a) = λ i. command_due (Release u (named_same n a i)) w
    filled_same n spot w yield = refl

    next_of_same : (row : Row) (n : ℕ) (spot : Spot → ℕ) (x : Option Command) → next_of s' u row n spot x ≡ next_of s u row n spot x
    unfolding next_of
    next_of_same row n spot none = refl
    next_of_same row n spot (some c) =
        (λ i.
        due_if (all_same n c i) nothing_starts
        (filled_in s' u n spot (moved_on row spot c (word phase_word (omega arith) i) (h.same_made i) (own_same i)) c))
        ∙ ap (due_if (all_stand s u n c) nothing_starts) (filled_same n spot (moved_on row spot c (phase s u) s.made (own_of s u)) c)

    next_same : (x : Task) → next_at s' u x ≡ next_at s u x
    unfolding next_at
    next_same (item row n spot) =
        ap (λ (φ : ℕ). next_of s' u row n spot (nth row.commands φ)) (word phase_word (omega arith))
        ∙ next_of_same row n spot (nth row.commands (phase s u))
    next_same ends = λ i. due_if (eqb (word phase_word (omega arith) i) 0) nothing_starts (command_due (Stop u) (own_same i))
    next_same nothing = refl

    module _ (known' : sound s' ≡ true) (few : s'.steps < step_limit) where
      before_few : s.steps < step_limit
      before_few = let le = h.later in omega arith

      start_same : start_due s' u ≡ start_due s u
      unfolding start_due
      start_same =
          let fits : both (tally_fits s'.vertices s'.edges s'.made s'.held) (ltb s'.steps step_limit)
          ≡ both (tally_fits s.vertices s.edges s.made s.held) (ltb s.steps step_limit) =
          both_true (sound_tally s' known') (lt-ltb s'.steps step_limit few)
          ∙ sym (both_true (sound_tally s h.known) (lt-ltb s.steps step_limit before_few)) in
          λ i. both (fits i) (both (ltb u (h.same_made i)) (eqb (word status_word (omega arith) i) RELEASED))

      due_same : (ed : Edition) (bytes : List ℕ) → due ed bytes s' u ≡ due ed bytes s u
      unfolding due
      due_same ed bytes =
          let next : next_at s' u (task ed (length bytes - 1) (item_at ed bytes (place s' u)))
          ≡ next_at s u (task ed (length bytes - 1) (item_at ed bytes (place s u))) =
          ap (λ (p : ℕ). next_at s' u (task ed (length bytes - 1) (item_at ed bytes p))) (word place_word (omega arith))
          ∙ next_same (task ed (length bytes - 1) (item_at ed bytes (place s u))) in
          let sound_same : steppable s' ≡ steppable s = steppable_of s' known' few ∙ sym (steppable_of s h.known before_few) in
          λ i.
          cond (start_same i) (command_due (Start u) (own_same i))
          (due_if (sound_same i) unsound_tables
          (due_if (ltb u (h.same_made i)) no_such_vertex
          (due_if (not (eqb (word status_word (omega arith) i) NEW)) vertex_is_new
          (due_if (not (eqb (word status_word (omega arith) i) FINISHED)) vertex_is_finished (next i)))))

    -- and a command of it that is taken was so before.
    runs_before : (x : ℕ) → x ≡ u → Runs s' x → Runs s x
    runs_before x is r =
        record {
          known = h.known;
          is_made = omega (arith, r.is_made, h.same_made);
          executing = sym (h.others x status_word (λ e. other (sym is ∙ e)) (omega arith)) ∙ r.executing;
        }

    rows_before : vertex_rows s'.vertices ≡ vertex_rows s.vertices
    rows_before = ap (λ (n : ℕ). min usable_limit (n / vertex_words)) h.same_length

    was : (x k : ℕ) → (k ≡ EXECUTING → ⊥) → status s'.vertices x ≡ k → status s.vertices x ≡ k
    was x k ne p = h.statuses x k ne p

    taken_before : (c : single.Command) → caller_of c ≡ u → Taken c s' → Taken c s
    unfolding caller_of
    taken_before (NewTd x p σ) is k = (runs_before x is k.0, omega (arith, k.1, rows_before, h.same_made))
    taken_before (NewEdge x a b) is k = (
      runs_before x is k.0,
      record {
        source_made = omega (arith, k.1.source_made, h.same_made);
        target_made = omega (arith, k.1.target_made, h.same_made);
        waits =
            ⊎_elim (λ p. inl (⊎_elim (λ q. inl (was b NEW (λ e. omega arith) q)) (λ q. inr (was b RELEASED (λ e. omega arith) q)) p)) (λ p. inr p)
            k.1.waits;
        adds = h.adds a b k.1.adds;
      },
    )
    taken_before (Release x y) is k = (
      runs_before x is k.0,
      omega (arith, k.1, h.same_made),
      was y NEW (λ e. omega arith) k.2,
    )
    taken_before (Transfer x y) is k = (
      runs_before x is k.0,
      record {
        is_made = omega (arith, k.1.is_made, h.same_made);
        is_new = was y NEW (λ e. omega arith) k.1.is_new;
        no_edge_out = h.outs y k.1.no_edge_out;
        no_path = h.paths x y k.1.no_path;
      },
    )
    taken_before (Start x) is k = (
      sound_tally s h.known,
      omega (arith, k.1, h.same_made),
      was x RELEASED (λ e. omega arith) k.2,
      h.counts x k.3,
    )
    taken_before (Stop x) is k = runs_before x is k
    taken_before (Yield x) is k = runs_before x is k

    does_before : (d : Due) → DoneBy u d → accepted (do_due s' u d).answer ≡ true → accepted (do_due s u d).answer ≡ true
    does_before (refusal_due n) by can = can
    does_before (job_due n p w) by can = refl
    does_before (command_due c w) by can =
        let was_taken : Taken c s =
        taken_before c by ((taken c s').0 (not_refused c s' (sym (said_accepted (command c s').answer) ∙ can))) in
        said_accepted (command c s).answer ∙ is_accepted c s ((taken c s).1 was_taken)

    -- So who can step could before.
    can_before : (ed : Edition) (bytes : List ℕ) → sound s' ≡ true → can_step ed bytes s' u ≡ true → can_step ed bytes s u ≡ true
    can_before ed bytes known' can =
        let few : s'.steps < step_limit = (can_ready ed bytes s' u can).1 in
        let here : step ed bytes s' u ≡ do_due s' u (due ed bytes s u) = step_is ed bytes s' u (due_same known' few ed bytes) in
        ap (λ (o : Outcome StepSaid). accepted o.answer) (step_is ed bytes s u refl)
        ∙ does_before (due ed bytes s u) (by_due ed bytes s u) (sym (ap (λ (o : Outcome StepSaid). accepted o.answer) here) ∙ can)

-- nothing is changed
narrower_same : (t : ℕ) (s : Lent) → sound s ≡ true → Narrower t s s
narrower_same t s known =
    record {
      known = known;
      later = omega arith;
      same_made = refl;
      same_length = refl;
      others = λ u w other lt. refl;
      latest_stays = λ u. refl;
      statuses = λ u x ne p. p;
      counts = λ u p. p;
      adds = λ a b p. p;
      outs = λ a p. p;
      paths = λ a b p. p;
    }

-- the latest open future among a vertex's own words
unfoldable latest_of : Own → ℕ
latest_of (own p φ a b c l) = l

-- the words of another vertex are not t's own
not_own : (u t w : ℕ) → (u ≡ t → ⊥) → w < vertex_words → OwnWord t (vertex_words * u + w) → ⊥
not_own u t w other lt = ⊎_elim (λ q. other (omega arith)) (⊎_elim (λ q. other (omega arith)) (λ (lo, hi). other (omega arith)))

-- t's own words are stored, and the step is counted
module _
    (t : ℕ) (s left : Lent) (w : Own) (h : Narrower t s left) (there : t < vertex_rows left.vertices) (same : latest_of w ≡ latest left t)
  where
    abbrev after : Lent
    after = one_step (with_own left t w)

    else : (i : ℕ) → (OwnWord t i → ⊥) → ◌≡◌ {A = ℕ} (get_or after.vertices i 0) (get_or left.vertices i 0)
    else i ne = (own_adds left t w there).same_vertex_words.1 i ne

    still_latest : (u : ℕ) → latest after u ≡ latest left u
    unfolding own_of latest_of
    still_latest u =
        ⊎_elim
        (λ (e : u ≡ t).
        subst (λ (x : ℕ). latest after x ≡ latest left x) (sym e) (ap latest_of (own_adds left t w there).own_words ∙ same))
        (λ ne. else (vertex_words * u + future_word) (not_own u t future_word ne (omega arith)))
        (equal? u t)

    status_left : (u : ℕ) → status after.vertices u ≡ status left.vertices u
    status_left u = else (vertex_words * u + status_word) (status_not_own t u)

    adds_left : (a b : ℕ) → AddsNothing after a b ⊎ Adds after a b → AddsNothing left a b ⊎ Adds left a b
    adds_left a b (inl (inl over)) = inl (inl (sym (status_left a) ∙ over))
    adds_left a b (inl (inr held)) = inl (inr held)
    adds_left a b (inr p) =
        inr (record {
          not_finished = λ q. p.not_finished (status_left a ∙ q);
          not_held = p.not_held;
          not_same = p.not_same;
          no_path = p.no_path;
          row_free = p.row_free;
        })

    narrower_own : Narrower t s after
    narrower_own =
        record {
          known = h.known;
          later = let le = h.later in omega arith;
          same_made = h.same_made;
          same_length = (own_adds left t w there).same_vertex_words.0 ∙ h.same_length;
          others = λ u k other lt. else (vertex_words * u + k) (not_own u t k other (omega arith)) ∙ h.others u k other lt;
          latest_stays = λ u. still_latest u ∙ h.latest_stays u;
          statuses = λ u x ne p. h.statuses u x ne (sym (status_left u) ∙ p);
          counts = λ u p. h.counts u (sym (else (vertex_words * u + in_count_word) (count_not_own t u)) ∙ p);
          adds = λ a b p. h.adds a b (adds_left a b p);
          outs = h.outs;
          paths = h.paths;
        }

-- WHAT STAYS
-- the latest open future stays where a start, an edge or a job is due
abbrev StillBy : single.Command → Type 0 → Type 0
StillBy (NewTd t p σ) P = Unit {0}
StillBy (NewEdge t a b) P = P
StillBy (Release t a) P = Unit {0}
StillBy (Transfer t a) P = Unit {0}
StillBy (Start t) P = P
StillBy (Stop t) P = Unit {0}
StillBy (Yield t) P = Unit {0}

abbrev Still : ℕ → Due → Type 0
Still l (refusal_due n) = Unit {0}
Still l (job_due n p w) = latest_of w ≡ l
Still l (command_due c w) = StillBy c (latest_of w ≡ l)

still_if : (l : ℕ) (b : Bool) (n : ℕ) (d : Due) → Still l d → Still l (due_if b n d)
unfolding due_if
still_if l true n d h = h
still_if l false n d h = tt

still_cond : (l : ℕ) (b : Bool) (d d' : Due) → Still l d → Still l d' → Still l (cond b d d')
still_cond l true d d' h h' = h
still_cond l false d d' h h' = h'

-- a command leaves it, unless it is the last one of an item that opens a future
still_past : (row : Row) (spot : Spot → ℕ) (w : Own) → row.opens ≡ false → latest_of (own_past_item row spot w) ≡ latest_of w
unfolding own_past_item latest_of
still_past row spot (own p φ a b c l) shut = rw shut refl

still_made : (k x : ℕ) (w : Own) → latest_of (with_made k x w) ≡ latest_of w
unfolding with_made latest_of
still_made zero x (own p φ a b c l) = refl
still_made (suc zero) x (own p φ a b c l) = refl
still_made (suc (suc k)) x (own p φ a b c l) = refl

still_kept : (c : Command) (k x : ℕ) (w : Own) → latest_of (with_kept c k x w) ≡ latest_of w
unfolding with_kept
still_kept perform k x w = refl
still_kept (new_td p a) k x w = still_made k x w
still_kept (new_edge a b) k x w = refl
still_kept (transfer a) k x w = refl
still_kept (release a) k x w = refl
still_kept yield k x w = refl

still_phase : (n : ℕ) (w : Own) → latest_of (with_phase n w) ≡ latest_of w
unfolding with_phase latest_of
still_phase n (own p φ a b c l) = refl

still_moved :
    (row : Row) (spot : Spot → ℕ) (c : Command) (φ x : ℕ) (w : Own) → (eqb (suc φ) (length row.commands) ≡ true → row.opens ≡ false)
    → latest_of (moved_on row spot c φ x w) ≡ latest_of w
unfolding moved_on
still_moved row spot c φ x w shut = go (eqb (suc φ) (length row.commands)) refl
  where
    go :
        (b : Bool) → eqb (suc φ) (length row.commands) ≡ b
        → latest_of (cond b (own_past_item row spot w) (with_phase (suc φ) (with_kept c (weight makes (take φ row.commands)) x w))) ≡ latest_of w
    go true p = still_past row spot w (shut p)
    go false p = still_phase (suc φ) _ ∙ still_kept c (weight makes (take φ row.commands)) x w

module _ (s : Lent) (t : ℕ) where
  still_filled :
      (n : ℕ) (spot : Spot → ℕ) (w : Own) (c : Command) → latest_of w ≡ latest s t → Still (latest s t) (filled_in s t n spot w c)
  unfolding filled_in
  still_filled n spot w perform h = h
  still_filled n spot w (new_td p a) h = tt
  still_filled n spot w (new_edge a b) h = h
  still_filled n spot w (transfer a) h = tt
  still_filled n spot w (release a) h = tt
  still_filled n spot w yield h = tt

  own_latest : latest_of (own_of s t) ≡ latest s t
  unfolding own_of latest_of
  own_latest = refl

  still_next :
      (row : Row) (n : ℕ) (spot : Spot → ℕ) (x : Option Command) → row.opens ≡ false → Still (latest s t) (next_of s t row n spot x)
  unfolding next_of
  still_next row n spot none shut = tt
  still_next row n spot (some c) shut =
      still_if _ (all_stand s t n c) _ _
      (still_filled n spot _ c (still_moved row spot c (phase s t) s.made (own_of s t) (λ p. shut) ∙ own_latest))

  -- a future's last command is none of them
  still_future :
      (ed : Edition) (n : ℕ) (spot : Spot → ℕ) (φ : ℕ) → phase s t ≡ φ
      → Still (latest s t) (next_of s t (row_of ed futures) n spot (nth (row_of ed futures).commands φ))
  unfolding next_of row_of nth filled_in
  still_future ed n spot zero is = still_if _ (all_stand s t n _) _ _ tt
  still_future ed n spot (suc zero) is = still_if _ (all_stand s t n _) _ _ tt
  still_future ed n spot (suc (suc zero)) is =
      still_if _ (all_stand s t n (new_edge made_2 made_1)) _ _
      (still_moved (row_of ed futures) spot (new_edge made_2 made_1) (phase s t) s.made (own_of s t)
      (λ q. true-false q (ap (λ (φ : ℕ). eqb (suc φ) 5) is))
      ∙ own_latest)
  still_future ed n spot (suc (suc (suc zero))) is = still_if _ (all_stand s t n _) _ _ tt
  still_future ed n spot (suc (suc (suc (suc zero)))) is = still_if _ (all_stand s t n _) _ _ tt
  still_future ed n spot (suc (suc (suc (suc (suc φ))))) is = tt

  fork_shut : (ed : Edition) → (fork_row ed).opens ≡ false
  unfolding fork_row
  fork_shut First = refl
  fork_shut Second = refl

  still_task : (ed : Edition) (last : ℕ) (x : Stands) → Still (latest s t) (next_at s t (task ed last x))
  unfolding task next_at row_of
  still_task ed last (of_program.job n past) = still_next (row_of ed jobs) n _ _ refl
  still_task ed last (of_program.async body past) = still_next (row_of ed asyncs) 0 _ _ refl
  still_task ed last (of_program.finish body past) = still_next (row_of ed finishes) 0 _ _ refl
  still_task ed last (of_program.fork l r past) = still_next (row_of ed forks) 0 _ _ (fork_shut ed)
  still_task ed last (of_program.future body past) = still_future ed 0 _ (phase s t) refl
  still_task ed last (of_program.force n past) = still_next (row_of ed forces) n _ _ refl
  still_task ed last of_program.end = still_if _ (eqb (phase s t) 0) _ _ tt
  still_task ed last (of_program.refused n p) = tt

  still_due : (ed : Edition) (bytes : List ℕ) → Still (latest s t) (due ed bytes s t)
  unfolding due
  still_due ed bytes =
      still_cond _ (start_due s t) _ _ own_latest
      (still_if _ (steppable s) _ _
      (still_if _ (is_made s t) _ _
      (still_if _ (not (has_status s t NEW)) _ _
      (still_if _ (not (has_status s t FINISHED)) _ _ (still_task ed (length bytes - 1) (item_at ed bytes (place s t)))))))

-- A START
-- the table is the same but for t, which was released and executes
module _ (s : Lent) (t : ℕ) (known : sound s ≡ true) (there : t < vertex_rows s.vertices) (was_released : status s.vertices t ≡ RELEASED) where
  abbrev v' : List ℕ
  v' = set_status s.vertices t EXECUTING

  started : (u : ℕ) → (status v' u ≡ status s.vertices u) ⊎ ((u ≡ t) × (status v' u ≡ EXECUTING))
  started u =
      ⊎_elim (λ (e : u ≡ t). inr (e, ap (λ (x : ℕ). status v' x) e ∙ status_same s.vertices t EXECUTING there))
      (λ ne. inl (status_other s.vertices t EXECUTING u ne))
      (equal? u t)

  started_was : (u x : ℕ) → (x ≡ EXECUTING → ⊥) → status v' u ≡ x → status s.vertices u ≡ x
  started_was u x ne p = ⊎_elim (λ q. sym q ∙ p) (λ q. absurd (ne (sym p ∙ q.1))) (started u)

  finished_still : (u : ℕ) → status s.vertices u ≡ FINISHED → status v' u ≡ FINISHED
  finished_still u p =
      ⊎_elim (λ q. q ∙ p)
      (λ q. let r : RELEASED ≡ FINISHED = sym was_released ∙ ap (λ (x : ℕ). status s.vertices x) (sym q.0) ∙ p in absurd (omega arith))
      (started u)

  abbrev begun : Lent
  begun = with_status s t EXECUTING

  started_adds : (a b : ℕ) → AddsNothing begun a b ⊎ Adds begun a b → AddsNothing s a b ⊎ Adds s a b
  started_adds a b (inl (inl over)) = inl (inl (started_was a FINISHED (λ e. omega arith) over))
  started_adds a b (inl (inr held)) = inl (inr held)
  started_adds a b (inr p) =
      inr (record {
        not_finished = λ q. p.not_finished (finished_still a q);
        not_held = p.not_held;
        not_same = p.not_same;
        no_path = p.no_path;
        row_free = p.row_free;
      })

  narrower_start : Narrower t s begun
  narrower_start =
      record {
        known = known;
        later = omega arith;
        same_made = refl;
        same_length = length-set s.vertices (vertex_words * t + status_word) EXECUTING;
        others =
            λ u w other lt.
            get_or-set_other s.vertices (vertex_words * t + status_word) (vertex_words * u + w) EXECUTING 0
            (vertex_apart u t w status_word (omega arith) (omega arith) other);
        latest_stays = λ u. word_other s.vertices t status_word EXECUTING u future_word (omega arith) (omega arith) (λ e. omega arith);
        statuses = started_was;
        counts = λ u p. sym (word_other s.vertices t status_word EXECUTING u in_count_word (omega arith) (omega arith) (λ e. omega arith)) ∙ p;
        adds = started_adds;
        outs = λ a p. p;
        paths = λ a b p. p;
      }

-- AN EDGE
none_before : (n : ℕ) → one_more n ≡ 0 → n ≡ 0
unfolding one_more
none_before n h = go (ltb n largest_word) h
  where
    go : (b : Bool) → cond b (n + 1) n ≡ 0 → n ≡ 0
    go true p = absurd (omega arith)
    go false p = p

-- an edge more is held, and the number of edges into its target rises
module _ (t : ℕ) (s : Lent) (a b : ℕ) (known : sound s ≡ true) (there : b < vertex_rows s.vertices) (added : Adds s a b) where
  abbrev e' : List ℕ
  e' = appended s.edges s.held a b

  wide : (x y : ℕ) → holds s.edges s.held x y ≡ true → holds e' (s.held + 1) x y ≡ true
  wide x y p = (appended_is s.edges s.held a b added.row_free x y).1 (inl p)

  reaches_wide : (x y : ℕ) → reaches s.edges s.held x y ≡ true → reaches e' (s.held + 1) x y ≡ true
  reaches_wide x y p = path_reaches e' (s.held + 1) x y (wider wide (reaches_path s.edges s.held x y p))

  source_same : (i : ℕ) → i < s.held → source e' i ≡ source s.edges i
  source_same i lt = appended_other s.edges s.held a b i source_word (omega arith) lt

  target_same : (i : ℕ) → i < s.held → target e' i ≡ target s.edges i
  target_same i lt = appended_other s.edges s.held a b i target_word (omega arith) lt

  outs_before : (x : ℕ) → leads_out_of e' (s.held + 1) x ≡ false → leads_out_of s.edges s.held x ≡ false
  unfolding leads_out_of
  outs_before x none_there =
      not_so _
      (λ p.
      let (i, lt, q) = any_found (λ j. eqb (source s.edges j) x) s.held p in
      true-false (any_at (λ j. eqb (source e' j) x) (s.held + 1) i (omega arith) (ap (λ (k : ℕ). eqb k x) (source_same i lt) ∙ q)) none_there)

  paths_before : (x y : ℕ) → target_reaches e' (s.held + 1) x y ≡ false → target_reaches s.edges s.held x y ≡ false
  unfolding target_reaches
  paths_before x y none_there =
      not_so _
      (λ p.
      let (i, lt, q) =
      any_found (λ j. both (eqb (source s.edges j) x) (either (eqb (target s.edges j) y) (reaches s.edges s.held (target s.edges j) y)))
      s.held
      p in
      let from : eqb (source e' i) x ≡ true = ap (λ (k : ℕ). eqb k x) (source_same i lt) ∙ both_left _ _ q in
      let onward : either (eqb (target e' i) y) (reaches e' (s.held + 1) (target e' i) y) ≡ true =
      rw (target_same i lt)
      (⊎_elim (λ r. either_left _ r) (λ r. either_right (eqb (target s.edges i) y) (reaches_wide (target s.edges i) y r))
      (either_cases _ _ (both_right (eqb (source s.edges i) x) _ q))) in
      true-false
      (any_at (λ j. both (eqb (source e' j) x) (either (eqb (target e' j) y) (reaches e' (s.held + 1) (target e' j) y))) (s.held + 1) i
      (omega arith)
      (both_true from onward))
      none_there)

  rows_same : edge_rows e' ≡ edge_rows s.edges
  rows_same = ap (λ (n : ℕ). min usable_limit (n / edge_words)) (length-appended s.edges s.held a b)

  counts_before : (u : ℕ) → in_count (more_into s.vertices b) u ≡ 0 → in_count s.vertices u ≡ 0
  counts_before u p =
      ⊎_elim
      (λ (e : u ≡ b).
      subst (λ (x : ℕ). in_count s.vertices x ≡ 0) (sym e)
      (none_before (in_count s.vertices b)
      (sym (more_same s.vertices b (omega arith)) ∙ subst (λ (x : ℕ). in_count (more_into s.vertices b) x ≡ 0) e p)))
      (λ ne. sym (more_other s.vertices b u ne) ∙ p)
      (equal? u b)

  held_before : (x y : ℕ) → OneMore (holds s.edges s.held) a b x y → AddsNothing s x y ⊎ Adds s x y
  held_before x y (inl p) = inl (inr ((held_decides s x y).0 p))
  held_before x y (inr (p, q)) = inr (subst (λ (k : ℕ). Adds s k y) (sym p) (subst (λ (k : ℕ). Adds s a k) (sym q) added))

  adds_before : (x y : ℕ) → AddsNothing (with_edge s a b) x y ⊎ Adds (with_edge s a b) x y → AddsNothing s x y ⊎ Adds s x y
  unfolding with_edge
  adds_before x y (inl (inl over)) = inl (inl (sym (more_status s.vertices b x) ∙ over))
  adds_before x y (inl (inr held)) =
      held_before x y ((appended_is s.edges s.held a b added.row_free x y).0 ((held_decides (with_edge s a b) x y).1 held))
  adds_before x y (inr p) =
      inr (record {
        not_finished = λ q. p.not_finished (more_status s.vertices b x ∙ q);
        not_held = not_so _ (λ q. true-false (wide x y q) p.not_held);
        not_same = p.not_same;
        no_path = not_so _ (λ q. true-false (reaches_wide y x q) p.no_path);
        row_free = omega (arith, p.row_free, rows_same);
      })

  narrower_edge : Narrower t s (with_edge s a b)
  unfolding with_edge
  narrower_edge =
      record {
        known = known;
        later = omega arith;
        same_made = refl;
        same_length = length_more s.vertices b;
        others = λ u w other lt. more_word s.vertices b u w (omega arith) (λ e. omega arith);
        latest_stays = λ u. more_word s.vertices b u future_word (omega arith) (λ e. omega arith);
        statuses = λ u x ne p. sym (more_status s.vertices b u) ∙ p;
        counts = counts_before;
        adds = adds_before;
        outs = outs_before;
        paths = paths_before;
      }

-- THE THREE ANSWERS
keeps_accepted : (a : of_graph.CommandSaid) → keeps_shut (said_as a) ≡ true → of_graph.accepted a ≡ true
keeps_accepted of_graph.start p = refl
keeps_accepted (of_graph.new v) p = refl
keeps_accepted (of_graph.edge a b) p = refl
keeps_accepted (of_graph.release v) p = refl
keeps_accepted (of_graph.transfer v) p = refl
keeps_accepted of_graph.stop p = refl
keeps_accepted of_graph.yield p = refl
keeps_accepted (of_graph.refused n q) p = p

-- what such a command leaves
module _ (s : Lent) (t : ℕ) (known : sound s ≡ true) where
  rows_there : (x : ℕ) → x < s.made → x < vertex_rows s.vertices
  rows_there x lt = let fits = (sound_fits s known).vertices_fit in omega arith

  edge_leaves : (x a b : ℕ) → b < s.made → AddsNothing s a b ⊎ Adds s a b → Narrower t s (leaves (NewEdge x a b) s)
  edge_leaves x a b lt (inl p) = subst (λ (r : Lent). Narrower t s r) (sym (leaves_all s x a b p)) (narrower_same t s known)
  edge_leaves x a b lt (inr p) = subst (λ (r : Lent). Narrower t s r) (sym (leaves_edge s x a b p)) (narrower_edge t s a b known (rows_there b lt) p)

  narrower_leaves : (c : single.Command) → caller_of c ≡ t → Taken c s → keeps_shut (said_as (says c s)) ≡ true → Narrower t s (leaves c s)
  unfolding caller_of
  narrower_leaves (NewTd x p σ) is k keeps = true-false keeps refl
  narrower_leaves (NewEdge x a b) is k keeps = edge_leaves x a b k.1.target_made k.1.adds
  narrower_leaves (Release x y) is k keeps = true-false keeps refl
  narrower_leaves (Transfer x y) is k keeps = true-false keeps refl
  narrower_leaves (Start x) is k keeps =
      subst (λ (y : ℕ). Narrower y s (with_status s x EXECUTING)) is (narrower_start s x known (rows_there x k.1) k.2)
  narrower_leaves (Stop x) is k keeps = true-false keeps refl
  narrower_leaves (Yield x) is k keeps = true-false keeps refl

  -- with the own words that come with it
  latest_kept : (c : single.Command) (w : Own) → StillBy c (latest_of w ≡ latest s t) → keeps_shut (said_as (says c s)) ≡ true → latest_of w ≡ latest s t
  latest_kept (NewTd x p σ) w h keeps = true-false keeps refl
  latest_kept (NewEdge x a b) w h keeps = h
  latest_kept (Release x y) w h keeps = true-false keeps refl
  latest_kept (Transfer x y) w h keeps = true-false keeps refl
  latest_kept (Start x) w h keeps = h
  latest_kept (Stop x) w h keeps = true-false keeps refl
  latest_kept (Yield x) w h keeps = true-false keeps refl

  command_left :
      (c : single.Command) (w : Own) → t < s.made → caller_of c ≡ t → StillBy c (latest_of w ≡ latest s t)
      → keeps_shut (said_as (command c s).answer) ≡ true → Narrower t s (do_due s t (command_due c w)).after
  command_left c w lt is still keeps =
      let yes : of_graph.accepted (command c s).answer ≡ true = keeps_accepted (command c s).answer keeps in
      let none_due : refusal c s ≡ 0 = not_refused c s yes in
      let is_done : command c s ≡ record { answer = says c s; after = leaves c s } = taken_is c s none_due in
      let keeps' : keeps_shut (said_as (says c s)) ≡ true =
      sym (ap (λ (o : Outcome of_graph.CommandSaid). keeps_shut (said_as o.answer)) is_done) ∙ keeps in
      let left : Narrower t s (leaves c s) = narrower_leaves c is ((taken c s).0 none_due) keeps' in
      let there : t < vertex_rows (leaves c s).vertices =
      subst (λ (n : ℕ). t < min usable_limit (n / vertex_words)) (sym left.same_length) (rows_there t lt) in
      rw (yes, ap (λ (o : Outcome of_graph.CommandSaid). o.after) is_done)
      (narrower_own t s (leaves c s) w left there (latest_kept c w still keeps' ∙ sym (left.latest_stays t)))

  -- and what a step leaves
  step_left :
      (d : Due) → t < s.made → DoneBy t d → Still (latest s t) d → keeps_shut (do_due s t d).answer ≡ true → Narrower t s (do_due s t d).after
  step_left (refusal_due n) lt by still keeps = true-false keeps refl
  step_left (job_due n p w) lt by still keeps = narrower_own t s s w (narrower_same t s known) (rows_there t lt) still
  step_left (command_due c w) lt by still keeps = command_left c w lt by still keeps

said_step : (a : StepSaid) → keeps_shut a ≡ true → accepted a ≡ true
said_step start p = refl
said_step (new v) p = refl
said_step (edge a b) p = refl
said_step (StepSaid.release v) p = refl
said_step (StepSaid.transfer v) p = refl
said_step (job n o) p = refl
said_step stop p = refl
said_step StepSaid.yield p = refl
said_step (refused n q) p = p

-- A step that says one of the three opens nobody.
pub keeps_shut_lem : (a : StepSaid) → keeps_shut a ≡ true → OpensNobody a
keeps_shut_lem a keeps ed bytes s t u known says other cannot =
    let is : step ed bytes s t ≡ do_due s t (due ed bytes s t) = step_is ed bytes s t refl in
    let lt : t < s.made = (can_ready ed bytes s t (ap accepted says ∙ said_step a keeps)).0 in
    let left : Narrower t s (step ed bytes s t).after =
    subst (λ (r : Outcome StepSaid). Narrower t s r.after) (sym is)
    (step_left s t known (due ed bytes s t) lt (by_due ed bytes s t) (still_due s t ed bytes)
    (ap keeps_shut (sym (ap (λ (r : Outcome StepSaid). r.answer) is) ∙ says) ∙ keeps)) in
    not_so _
    (λ can. true-false (can_before t s (step ed bytes s t).after left u other ed bytes (step-sound ed bytes s t known) can) cannot)
