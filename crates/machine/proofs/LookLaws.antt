-- A run turn by turn, on any bytes and tables: what its steps keep, which vertices cannot step, which one a look finds, and what a run is by
-- what it finds.
--
--     step-sound      a step leaves sound tables sound
--     step_true       and true in-counts true, on any tables
--     step_else       and the own words of every other vertex, on any tables
--     idle_cannot     a vertex that does not execute can step only if it is released, and its word says that no edge leads into it
--     lowest-none     a look finds none where none can step
--     finished_none   nor once all vertices are finished
--     run_turned      a run on tables that take no step is refused by 12
--     run_goes        another one looks
--     rests           it ends where it finds none
--     used_up         or where the budget is used
--     goes_on         and otherwise goes on behind the step of the vertex that it found
use Prim.Native.Nat.{ℕ, zero, suc, ◌+◌, ◌*◌, ◌<◌}
use mathlib.Core.Path.{◌≡◌, refl, sym, ◌∙◌, ap, subst}
use mathlib.Core.Bool.{Bool, true, false, cond}
use mathlib.Core.Logic.{◌⊎◌, ⊎_elim}
use mathlib.Core.List.{List}
use mathlib.Core.Option.{Option, none, some, none-ne-some}
use native.Mathlib.Omega.{arith}
use Rattle.graph.specs.Tables.{Lent, NEW, RELEASED, EXECUTING, FINISHED, vertex_words, status_word, in_count_word, status, in_count}
use Rattle.graph.specs.Sound.{sound}
use Rattle.graph.specs.Paths.{holds}
use Rattle.graph.specs.Commands.{command}
use Rattle.graph.specs.declared.Command.{Command}
use Rattle.graph.specs.InCounts.{CountsTrue}
use Rattle.graph.specs.Answers.{Outcome}
use Rattle.graph.proofs.TestLaws.{true-false, decide, not_so, equal?}
use Rattle.graph.proofs.LowestLaws.{none_is}
use Rattle.graph.proofs.SoundLaws.{Known, sound_tally, sound_fits, fits_sound}
use Rattle.graph.proofs.Demand2.{stays_sound}
use Rattle.graph.proofs.InCounts.{stays_true, same_counts}
use Rattle.graph.proofs.TakenLaws.{after_either}
use Rattle.program.specs.declared.Edition.{Edition}
use Rattle.refusal.specs.Refusals.{unsound_tables}
use Rattle.machine.specs.Answers.{StepSaid, accepted}
use Rattle.machine.specs.Stepping.{steppable, Own, own_of, Due, refusal_due, job_due, command_due, due, do_due, step}
use Rattle.machine.specs.Running.{can_step, lowest, all_finished, done, stuck, spent, refused, RunOutcome, ended, look, run_on, run}
use Rattle.machine.specs.Demand2.{Adds, Does}
use Rattle.machine.proofs.TablesFollow.OwnLaws.{status_not_own, count_not_own, leaves_own, leaves_made, adds_own}
use Rattle.machine.proofs.TablesFollow.AnswerLaws.{if_passed}
use Rattle.machine.proofs.TablesFollow.StepLaws.{step_is, due_other, due_new, due_over}
use Rattle.machine.proofs.StepDemand2.{can_ready, step_does, blocked_step}
use Rattle.machine.proofs.RunDemand2.{finished_all}

-- what a step adds leaves sound tables sound
adds_sound : (v : ℕ) (w : Own) (left after : Lent) → Adds v w left after → sound left ≡ true → sound after ≡ true
adds_sound v w left after a known =
    let fits = sound_fits left known in
    fits_sound after
    (record {
      vertices_fit = omega (arith, fits.vertices_fit, a.same_made, a.same_vertex_words.0);
      edges_fit = rw (a.same_held, a.same_edges) fits.edges_fit;
      statuses_are_known =
          λ k lt.
          subst (λ (x : ℕ). Known x) (sym (a.same_vertex_words.1 (vertex_words * k + status_word) (status_not_own v k)))
          (fits.statuses_are_known k (subst (λ (n : ℕ). k < n) a.same_made lt));
      ends_are_made =
          λ x y h.
          let held : holds left.edges left.held x y ≡ true =
          subst (λ (n : ℕ). holds left.edges n x y ≡ true) a.same_held
          (subst (λ (e : List ℕ). holds e after.held x y ≡ true) a.same_edges h)
          in
          subst (λ (n : ℕ). (x < n) × (y < n)) (sym a.same_made) (fits.ends_are_made x y held);
    })

-- and true in-counts true
adds_true : (v : ℕ) (w : Own) (left after : Lent) → Adds v w left after → CountsTrue left → CountsTrue after
adds_true v w left after a =
    same_counts left after a.same_edges a.same_held a.same_made
    (λ k lt. a.same_vertex_words.1 (vertex_words * k + in_count_word) (count_not_own v k))

-- what commands keep, and what a step adds keeps, is kept by what is due
does_keep :
    (P : Lent → Type 0) (s : Lent) (v : ℕ) (o : Outcome StepSaid) (d : Due) → Does s v o d → P s → ((c : Command) → P (command c s).after)
    → ((w : Own) (left after : Lent) → Adds v w left after → P left → P after) → P o.after
does_keep P s v o (refusal_due n) does p commands adds = subst (λ (o' : Outcome StepSaid). P o'.after) (sym does) p
does_keep P s v o (job_due n q w) does p commands adds = adds w s o.after does.1 p
does_keep P s v o (command_due c w) does p commands adds =
    ⊎_elim (λ h. adds w (command c s).after o.after (does.taken_adds h) (commands c))
    (λ h. subst P (sym (does.refused_keeps h)) p)
    (decide (accepted o.answer))

-- A step leaves sound tables sound,
pub step-sound : (ed : Edition) (bytes : List ℕ) (s : Lent) (v : ℕ) → sound s ≡ true → sound (step ed bytes s v).after ≡ true
step-sound ed bytes s v known =
    does_keep (λ s'. sound s' ≡ true) s v (step ed bytes s v) (due ed bytes s v) (step_does ed bytes s v) known (λ c. stays_sound c s known)
    (adds_sound v)

-- and true in-counts true, on any tables.
pub step_true : (ed : Edition) (bytes : List ℕ) (s : Lent) (v : ℕ) → CountsTrue s → CountsTrue (step ed bytes s v).after
step_true ed bytes s v true_before =
    does_keep (λ s'. CountsTrue s') s v (step ed bytes s v) (due ed bytes s v) (step_does ed bytes s v) true_before
    (λ c. stays_true c s true_before)
    (adds_true v)

-- A step of u leaves the own words of every other made vertex, on any tables.
pub step_else :
    (ed : Edition) (bytes : List ℕ) (s : Lent) (u v : ℕ) → (v ≡ u → ⊥) → v < s.made
    → (v < (step ed bytes s u).after.made) × (own_of (step ed bytes s u).after v ≡ own_of s v)
step_else ed bytes s u v other lt =
    does_keep (λ s'. (v < s'.made) × (own_of s' v ≡ own_of s v)) s u (step ed bytes s u) (due ed bytes s u) (step_does ed bytes s u) (lt, refl)
    (λ c.
    after_either (λ s'. (v < s'.made) × (own_of s' v ≡ own_of s v)) c s (lt, refl)
    (λ h. (omega (arith, lt, leaves_made c s), leaves_own c s v lt)))
    (λ w left after a (l, e). (subst (λ (n : ℕ). v < n) (sym a.same_made) l, adds_own v u w left after other a ∙ e))

-- where a vertex that is not released can step, 12 found nothing at all
can_steppable :
    (ed : Edition) (bytes : List ℕ) (s : Lent) (v : ℕ) → (status s.vertices v ≡ RELEASED → ⊥) → can_step ed bytes s v ≡ true
    → steppable s ≡ true
unfolding step
can_steppable ed bytes s v other h =
    (if_passed s v (steppable s) _ _
    (subst (λ (d : Due). accepted (do_due s v d).answer ≡ true) (due_other ed bytes s v (λ made. other)) h)
    ).0

-- a finished vertex cannot step
finished_cannot :
    (ed : Edition) (bytes : List ℕ) (s : Lent) (v : ℕ) → v < s.made → status s.vertices v ≡ FINISHED → can_step ed bytes s v ≡ false
finished_cannot ed bytes s v made over =
    not_so (can_step ed bytes s v)
    (λ h.
    true-false h
    (ap (λ (o : Outcome StepSaid). accepted o.answer)
    (step_is ed bytes s v (due_over ed bytes s v (can_steppable ed bytes s v (omega arith) h) made over))))

-- nor can a new one
new_cannot : (ed : Edition) (bytes : List ℕ) (s : Lent) (v : ℕ) → v < s.made → status s.vertices v ≡ NEW → can_step ed bytes s v ≡ false
new_cannot ed bytes s v made new =
    not_so (can_step ed bytes s v)
    (λ h.
    true-false h
    (ap (λ (o : Outcome StepSaid). accepted o.answer)
    (step_is ed bytes s v (due_new ed bytes s v (can_steppable ed bytes s v (omega arith) h) made new))))

-- nor, on sound tables, a released one whose word is not 0
blocked_cannot :
    (ed : Edition) (bytes : List ℕ) (s : Lent) (v : ℕ) → sound s ≡ true → v < s.made → status s.vertices v ≡ RELEASED
    → (in_count s.vertices v ≡ 0 → ⊥) → can_step ed bytes s v ≡ false
blocked_cannot ed bytes s v known made released into =
    not_so (can_step ed bytes s v)
    (λ h.
    true-false h
    (ap (λ (o : Outcome StepSaid). accepted o.answer)
    (blocked_step ed bytes s v (sound_tally s known) (can_ready ed bytes s v h).1 made released into)))

-- A vertex that does not execute can step only if it is released, and its word says that no edge leads into it.
pub idle_cannot :
    (ed : Edition) (bytes : List ℕ) (s : Lent) (v : ℕ) → sound s ≡ true → v < s.made → (status s.vertices v ≡ EXECUTING → ⊥)
    → ((status s.vertices v ≡ RELEASED → ⊥) ⊎ (in_count s.vertices v ≡ 0 → ⊥)) → can_step ed bytes s v ≡ false
idle_cannot ed bytes s v known made idle waits =
    ⊎_elim (λ new. new_cannot ed bytes s v made new)
    (λ not_new.
    ⊎_elim (λ over. finished_cannot ed bytes s v made over)
    (λ not_over.
    let released : status s.vertices v ≡ RELEASED = omega (arith, (sound_fits s known).statuses_are_known v made, idle, not_new, not_over) in
    ⊎_elim (λ not_released. absurd (not_released released)) (λ into. blocked_cannot ed bytes s v known made released into) waits)
    (equal? (status s.vertices v) FINISHED))
    (equal? (status s.vertices v) NEW)

-- A look finds none where none can step,
pub lowest-none : (ed : Edition) (bytes : List ℕ) (s : Lent) → ((u : ℕ) → u < s.made → can_step ed bytes s u ≡ false) → lowest ed bytes s ≡ none
unfolding lowest
lowest-none ed bytes s = none_is (can_step ed bytes s) s.made

-- and once all vertices are finished.
pub finished_none : (ed : Edition) (bytes : List ℕ) (s : Lent) → all_finished s ≡ true → lowest ed bytes s ≡ none
finished_none ed bytes s all = lowest-none ed bytes s (λ u lt. finished_cannot ed bytes s u lt (finished_all s all u lt))

-- A run on tables that take no step is refused by 12,
pub run_turned :
    (ed : Edition) (bytes : List ℕ) (s : Lent) (budget : ℕ) → steppable s ≡ false
    → run ed bytes s budget ≡ ended (refused unsound_tables 0) none 0 s
unfolding run
run_turned ed bytes s budget h = rw h refl

-- and another one looks.
pub run_goes :
    (ed : Edition) (bytes : List ℕ) (s : Lent) (budget : ℕ) → steppable s ≡ true → run ed bytes s budget ≡ run_on ed bytes budget s none 0
unfolding run
run_goes ed bytes s budget h = rw h refl

-- a look that finds none
look_none :
    (ed : Edition) (bytes : List ℕ) (again : Lent → Option StepSaid → ℕ → RunOutcome) (left : ℕ) (s : Lent) (last : Option StepSaid)
    (taken : ℕ) (all : Bool) → look ed bytes again left s last taken all none ≡ ended (cond all done stuck) last taken s
unfolding look
look_none ed bytes again left s last taken true = refl
look_none ed bytes again left s last taken false = refl

-- A run ends where it finds none: done or stuck.
pub rests :
    (ed : Edition) (bytes : List ℕ) (left : ℕ) (s : Lent) (last : Option StepSaid) (taken : ℕ) → lowest ed bytes s ≡ none
    → run_on ed bytes left s last taken ≡ ended (cond (all_finished s) done stuck) last taken s
unfolding run_on
rests ed bytes zero s last taken h = rw h (look_none ed bytes _ 0 s last taken (all_finished s))
rests ed bytes (suc left) s last taken h = rw h (look_none ed bytes (run_on ed bytes left) (suc left) s last taken (all_finished s))

-- not all vertices are finished where it finds one
found_live : (ed : Edition) (bytes : List ℕ) (s : Lent) (v : ℕ) → lowest ed bytes s ≡ some v → all_finished s ≡ false
found_live ed bytes s v h =
    not_so (all_finished s) (λ all. none-ne-some v (sym (finished_none ed bytes s all) ∙ h))

-- It ends where it finds a vertex and the budget is used,
pub used_up :
    (ed : Edition) (bytes : List ℕ) (s : Lent) (last : Option StepSaid) (taken v : ℕ) → lowest ed bytes s ≡ some v
    → run_on ed bytes 0 s last taken ≡ ended spent last taken s
unfolding run_on look
used_up ed bytes s last taken v h = rw (found_live ed bytes s v h, h) refl

-- and otherwise goes on behind the step of this vertex.
pub goes_on :
    (ed : Edition) (bytes : List ℕ) (left : ℕ) (s : Lent) (last : Option StepSaid) (taken v : ℕ) → lowest ed bytes s ≡ some v
    → run_on ed bytes (suc left) s last taken ≡ run_on ed bytes left (step ed bytes s v).after (some (step ed bytes s v).answer) (suc taken)
unfolding run_on look
goes_on ed bytes left s last taken v h = rw (found_live ed bytes s v h, h) refl
