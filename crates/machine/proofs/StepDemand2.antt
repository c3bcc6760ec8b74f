-- Demand 2 of a step, on any bytes and tables: it is what is due, a refusal, a job or a single command, taken where that command is; and
-- what it adds to what the command leaves are words of the stepping vertex's row, and one step.
--
--     step_does         a step is what is due: `Does`, which has all of this
--     step_keeps        a refused step changes nothing
--     step_counts       an accepted one is counted
--     job_step          a job's step names it, and leaves the graph
--     command-step      a command's step is taken where the command is
--     command-graph     and changes the graph as the command does
--     step_rule         so an accepted one is a step of the command's rule, where the word that it reads is true
--     step_acceptance   on a graph without a cycle: accepted exactly where the rule has a step and the row is free
--     step_refused      refused by 12, 20, 22, 23 or 13 before any command, or as its command is
--     released_step     a released vertex, whatever the other rows hold: started, or refused by 21, as its word says
--     blocked_step      refused where its word is not 0
--     can_ready         only a made vertex steps, and only below the limit of steps
--     step_place        a refusal has the place 0
--     step_never_34     and never the number 34
use Prim.Native.Nat.{ℕ, ◌+◌, ◌-◌, ◌<◌, ◌≤◌}
use mathlib.Core.Path.{◌≡◌, refl, sym, ◌∙◌, ap, subst}
use mathlib.Core.Bool.{Bool, true, false, not, cond}
use mathlib.Core.Logic.{inl, inr, ◌↔◌}
use mathlib.Core.List.{List}
use mathlib.Core.Option.{Option, none, some}
use native.Mathlib.Omega.{arith}
use lib.Dec.{eqb}
use lib.ListN.{length}
use borrow.Author.Tests.{ltb-true, lt-ltb, le-leb, leb-true, ne_eqb}
use Rattle.graph.specs.Tests.{either}
use Rattle.graph.specs.Tables.{Lent, NEW, RELEASED, FINISHED, EXECUTING, vertex_rows, status, in_count}
use Rattle.refusal.specs.Refusals.{edge_leads_in, nothing_starts}
use Rattle.graph.specs.Answers.{decided, Outcome}
use Rattle.graph.specs.Answers as of_graph
use Rattle.graph.specs.Sound.{tally_fits, status_known, sound}
use Rattle.graph.specs.Paths.{CycleFree}
use Rattle.graph.specs.Rules.{Graph, Printed, Unguarded}
use Rattle.graph.specs.Commands.{is_made, has_status, command}
use Rattle.graph.specs.Commands as g
use Rattle.graph.specs.InCounts.{ReadsTrue}
use Rattle.graph.specs.Demand2.{graph, RowFree}
use Rattle.graph.specs.declared.Command as single
use Rattle.graph.specs.declared.Command.TheVariants.{Start}
use Rattle.graph.specs.Internal.Checks.{is_start}
use Rattle.graph.proofs.TestLaws.{true-false, both_true, both_left, both_right, either_right, not_of_false}
use Rattle.graph.proofs.RefusalLaws.{unless_pass}
use Rattle.graph.proofs.SoundLaws.{sound_fits}
use Rattle.graph.proofs.Reasons.{refused_place, never_34}
use Rattle.graph.proofs.Demand2.{refused_keeps, words_stay, effect, acceptance}
use Rattle.program.specs.declared.Edition.{Edition}
use Rattle.program.specs.Encodings.{Spot, Command, perform, new_td, new_edge, transfer, release, yield, Row}
use Rattle.program.specs.Located.{item_at}
use Rattle.machine.specs.Answers.{StepSaid, accepted, refuse, said_as}
use Rattle.machine.specs.Stepping.{step_limit, steppable, start_due, place, phase, all_stand, Task, item, ends, nothing, task, Own, Due}
use Rattle.machine.specs.Stepping.{refusal_due, job_due, command_due, due_if, filled_in, next_of, next_at, due, do_due, step}
use Rattle.machine.specs.Demand2.{IsCommand, Does, Before, Refused, before, by_command}
use Rattle.machine.proofs.TablesFollow.OwnLaws.{own_adds}
use Rattle.machine.proofs.TablesFollow.StepLaws.{step_is, start_due_lem, due_start}

-- a step says that it is accepted where its command does
pub said_accepted : (a : of_graph.CommandSaid) → accepted (said_as a) ≡ of_graph.accepted a
said_accepted of_graph.start = refl
said_accepted (of_graph.new v) = refl
said_accepted (of_graph.edge a b) = refl
said_accepted (of_graph.release v) = refl
said_accepted (of_graph.transfer v) = refl
said_accepted of_graph.stop = refl
said_accepted of_graph.yield = refl
said_accepted (of_graph.refused n p) = refl

-- where no refusal is due before any command, the vertex's row is in the table, a step may be counted and b holds
abbrev pub Ready : Lent → ℕ → Bool → Type 0
Ready s v b = (v < vertex_rows s.vertices) × (s.steps < step_limit) × (b ≡ true) × (v < s.made)

-- that is that the tables are sound, but for a start, which looks for 12 itself
unfoldable pub ReadyFor : Lent → ℕ → Due → Type 0
ReadyFor s v (refusal_due n) = Unit {0}
ReadyFor s v (job_due n p w) = Ready s v (sound s)
ReadyFor s v (command_due c w) = Ready s v (either (is_start c) (sound s))

ready_any : (s : Lent) (v : ℕ) (d : Due) → Ready s v (sound s) → ReadyFor s v d
unfolding ReadyFor
ready_any s v (refusal_due n) h = tt
ready_any s v (job_due n p w) h = h
ready_any s v (command_due c w) h = (h.0, h.1, either_right (is_start c) h.2, h.3)

ready_if : (s : Lent) (v : ℕ) (b : Bool) (n : ℕ) (d : Due) → (b ≡ true → ReadyFor s v d) → ReadyFor s v (due_if b n d)
unfolding due_if ReadyFor
ready_if s v true n d f = f refl
ready_if s v false n d f = tt

ready_cond :
    (s : Lent) (v : ℕ) (b : Bool) (d d' : Due) → (b ≡ true → ReadyFor s v d) → ReadyFor s v d' → ReadyFor s v (cond b d d')
ready_cond s v true d d' f r = f refl
ready_cond s v false d d' f r = r

ready_of : (s : Lent) (v : ℕ) → steppable s ≡ true → is_made s v ≡ true → Ready s v (sound s)
unfolding steppable
ready_of s v p q =
    let lt : v < s.made = ltb-true v s.made q in
    let fits : s.made ≤ vertex_rows s.vertices = (sound_fits s (both_left _ _ p)).vertices_fit in
    (omega arith, ltb-true s.steps step_limit (both_right _ _ p), both_left _ _ p, lt)

ready_start : (s : Lent) (v : ℕ) (w : Own) → start_due s v ≡ true → ReadyFor s v (command_due (Start v) w)
unfolding ReadyFor start_due tally_fits is_start either
ready_start s v w h =
    let tally = both_left _ _ h in
    let lt : v < s.made = ltb-true v s.made (both_left _ _ (both_right _ _ h)) in
    let fits : s.made ≤ vertex_rows s.vertices = leb-true _ _ (both_left _ _ (both_left _ _ tally)) in
    (omega arith, ltb-true s.steps step_limit (both_right _ _ tally), refl, lt)

pub ready_due : (ed : Edition) (bytes : List ℕ) (s : Lent) (v : ℕ) → ReadyFor s v (due ed bytes s v)
unfolding due
ready_due ed bytes s v =
    ready_cond s v (start_due s v) _ _ (ready_start s v _)
    (ready_if s v (steppable s) _ _ (λ p. ready_if s v (is_made s v) _ _ (λ q. ready_any s v _ (ready_of s v p q))))

-- what is due and accepted is ready
taken_ready : (s : Lent) (v : ℕ) (d : Due) → ReadyFor s v d → accepted (do_due s v d).answer ≡ true → (v < s.made) × (s.steps < step_limit)
unfolding ReadyFor
taken_ready s v (refusal_due n) r h = true-false h refl
taken_ready s v (job_due n p w) r h = (r.3, r.1)
taken_ready s v (command_due c w) r h = (r.3, r.1)

-- Only a made vertex steps, and only where a step may be counted.
pub can_ready :
    (ed : Edition) (bytes : List ℕ) (s : Lent) (v : ℕ) → accepted (step ed bytes s v).answer ≡ true → (v < s.made) × (s.steps < step_limit)
unfolding step
can_ready ed bytes s v = taken_ready s v (due ed bytes s v) (ready_due ed bytes s v)

-- what is done is what is due
does_due : (s : Lent) (v : ℕ) (d : Due) → ReadyFor s v d → Does s v (do_due s v d) d
unfolding ReadyFor
does_due s v (refusal_due n) r = refl
does_due s v (job_due n p w) r = (refl, own_adds s v w r.0)
does_due s v (command_due c w) r =
    record {
      says = refl;
      refused_keeps = λ h. rw (sym (said_accepted (command c s).answer) ∙ h) refl;
      taken_adds =
          λ h.
          let ok : of_graph.accepted (command c s).answer ≡ true = sym (said_accepted (command c s).answer) ∙ h in
          rw ok (own_adds (command c s).after v w (rw (words_stay c s).0.0 r.0));
    }

-- A step is what is due.
pub step_does : (ed : Edition) (bytes : List ℕ) (s : Lent) (v : ℕ) → Does s v (step ed bytes s v) (due ed bytes s v)
unfolding step
step_does ed bytes s v = does_due s v (due ed bytes s v) (ready_due ed bytes s v)

-- A refused step changes nothing.
keeps_due : (s : Lent) (v : ℕ) (o : Outcome StepSaid) (d : Due) → Does s v o d → accepted o.answer ≡ false → o.after ≡ s
keeps_due s v o (refusal_due n) e h = ap (λ (o : Outcome StepSaid). o.after) e
keeps_due s v o (job_due n p w) e h = true-false (ap accepted e.0) h
keeps_due s v o (command_due c w) e h = e.refused_keeps h

pub step_keeps : (ed : Edition) (bytes : List ℕ) (s : Lent) (v : ℕ) → accepted (step ed bytes s v).answer ≡ false → (step ed bytes s v).after ≡ s
step_keeps ed bytes s v = keeps_due s v (step ed bytes s v) (due ed bytes s v) (step_does ed bytes s v)

-- An accepted step is one step more.
counts_due : (s : Lent) (v : ℕ) (o : Outcome StepSaid) (d : Due) → Does s v o d → accepted o.answer ≡ true → o.after.steps ≡ s.steps + 1
counts_due s v o (refusal_due n) e h = true-false h (ap (λ (o : Outcome StepSaid). accepted o.answer) e)
counts_due s v o (job_due n p w) e h = e.1.one_step
counts_due s v o (command_due c w) e h =
    (e.taken_adds h).one_step ∙ ap (λ (n : ℕ). n + 1) (words_stay c s).2

pub step_counts :
    (ed : Edition) (bytes : List ℕ) (s : Lent) (v : ℕ) → accepted (step ed bytes s v).answer ≡ true
    → (step ed bytes s v).after.steps ≡ s.steps + 1
step_counts ed bytes s v = counts_due s v (step ed bytes s v) (due ed bytes s v) (step_does ed bytes s v)

-- A step that is a job names it, and leaves the graph.
pub job_step :
    (ed : Edition) (bytes : List ℕ) (s : Lent) (v n p : ℕ) (w : Own) → due ed bytes s v ≡ job_due n p w
    → ((step ed bytes s v).answer ≡ StepSaid.job n p) × (graph (step ed bytes s v).after ≡ graph s)
job_step ed bytes s v n p w e =
    let d = subst (λ (d : Due). Does s v (step ed bytes s v) d) e (step_does ed bytes s v) in
    (d.0, d.1.same_graph)

-- a step that is a command
module _ (ed : Edition) (bytes : List ℕ) (s : Lent) (v : ℕ) (c : single.Command) (w : Own) (e : due ed bytes s v ≡ command_due c w) where
  is_this : IsCommand c w s v (step ed bytes s v)
  is_this = subst (λ (d : Due). Does s v (step ed bytes s v) d) e (step_does ed bytes s v)

  -- A step that is a command is taken where that command is,
  pub command-step : accepted (step ed bytes s v).answer ≡ of_graph.accepted (command c s).answer
  command-step = ap accepted is_this.says ∙ said_accepted (command c s).answer

  -- and changes the graph as that command does.
  pub command-graph : graph (step ed bytes s v).after ≡ graph (command c s).after
  command-graph = go (accepted (step ed bytes s v).answer) refl
    where
      go : (b : Bool) → accepted (step ed bytes s v).answer ≡ b → graph (step ed bytes s v).after ≡ graph (command c s).after
      go true h = (is_this.taken_adds h).same_graph
      go false h =
          ap (λ (s' : Lent). graph s') (is_this.refused_keeps h ∙ sym (refused_keeps c s (sym command-step ∙ h)))

  -- So it is a step of that command's published rule, where the word that the command reads is true,
  pub step_rule : ReadsTrue c s → accepted (step ed bytes s v).answer ≡ true → Unguarded c (graph s) (graph (step ed bytes s v).after)
  step_rule reads h = subst (λ (G : Graph). Unguarded c (graph s) G) (sym command-graph) (effect c s reads (sym command-step ∙ h)).rule

  -- and on sound tables that hold a graph without a cycle is accepted exactly where the rule has a step and any row that it needs is free.
  pub step_acceptance :
      sound s ≡ true → ReadsTrue c s → CycleFree (graph s).edge
      → (accepted (step ed bytes s v).answer ≡ true) ↔ (((G' : Graph) × Printed c (graph s) G') × RowFree c s)
  step_acceptance known reads free = rw command-step (acceptance c s known reads free)

-- the refusals before any command
abbrev OnlyBefore : Due → Type 0
OnlyBefore (refusal_due n) = Before n
OnlyBefore (job_due n p w) = Unit {0}
OnlyBefore (command_due c w) = Unit {0}

-- each test refuses by one of them
before_if : (b : Bool) (n : ℕ) (d : Due) → Before n → OnlyBefore d → OnlyBefore (due_if b n d)
unfolding due_if
before_if true n d p q = q
before_if false n d p q = p

before_cond : (b : Bool) (d d' : Due) → OnlyBefore d → OnlyBefore d' → OnlyBefore (cond b d d')
before_cond true d d' p q = p
before_cond false d d' p q = q

unreadable_before : Before nothing_starts
unreadable_before = inr (inr (inr (inr refl)))

before_command : (s : Lent) (v n : ℕ) (spot : Spot → ℕ) (w : Own) (c : Command) → OnlyBefore (filled_in s v n spot w c)
unfolding filled_in
before_command s v n spot w perform = tt
before_command s v n spot w (new_td p a) = tt
before_command s v n spot w (new_edge a b) = tt
before_command s v n spot w (transfer a) = tt
before_command s v n spot w (release a) = tt
before_command s v n spot w yield = tt

before_nth : (s : Lent) (v : ℕ) (row : Row) (n : ℕ) (spot : Spot → ℕ) (x : Option Command) → OnlyBefore (next_of s v row n spot x)
unfolding next_of
before_nth s v row n spot none = unreadable_before
before_nth s v row n spot (some c) = before_if (all_stand s v n c) _ _ unreadable_before (before_command s v n spot _ c)

before_task : (s : Lent) (v : ℕ) (x : Task) → OnlyBefore (next_at s v x)
unfolding next_at
before_task s v (item row n spot) = before_nth s v row n spot _
before_task s v ends = before_if (eqb (phase s v) 0) _ _ unreadable_before tt
before_task s v nothing = unreadable_before

before_due : (ed : Edition) (bytes : List ℕ) (s : Lent) (v : ℕ) → OnlyBefore (due ed bytes s v)
unfolding due
before_due ed bytes s v =
    before_cond (start_due s v) _ _ tt
    (before_if (steppable s) _ _ (inl refl)
    (before_if (is_made s v) _ _ (inr (inl refl))
    (before_if (not (has_status s v NEW)) _ _ (inr (inr (inl refl)))
    (before_if (not (has_status s v FINISHED)) _ _ (inr (inr (inr (inl refl))))
    (before_task s v (task ed (length bytes - 1) (item_at ed bytes (place s v))))))))

-- only a refused command is said to be refused
said_refused : (a : of_graph.CommandSaid) {n p : ℕ} → said_as a ≡ StepSaid.refused n p → a ≡ of_graph.refused n p
said_refused of_graph.start h = true-false refl (ap accepted h)
said_refused (of_graph.new v) h = true-false refl (ap accepted h)
said_refused (of_graph.edge a b) h = true-false refl (ap accepted h)
said_refused (of_graph.release v) h = true-false refl (ap accepted h)
said_refused (of_graph.transfer v) h = true-false refl (ap accepted h)
said_refused of_graph.stop h = true-false refl (ap accepted h)
said_refused of_graph.yield h = true-false refl (ap accepted h)
said_refused (of_graph.refused n p) h = cc

-- A step is refused by 12, 20, 22, 23 or 13, before any command, or exactly as its command is.
pub step_refused :
    (ed : Edition) (bytes : List ℕ) (s : Lent) (v n p : ℕ) → ((step ed bytes s v).answer ≡ StepSaid.refused n p) ↔ Refused ed bytes s v n p
step_refused ed bytes s v n p = (there (due ed bytes s v) refl (step_does ed bytes s v) (before_due ed bytes s v), back)
  where
    there :
        (d : Due) → due ed bytes s v ≡ d → Does s v (step ed bytes s v) d → OnlyBefore d → (step ed bytes s v).answer ≡ StepSaid.refused n p
        → Refused ed bytes s v n p
    there (refusal_due m) e does only h =
        let q : StepSaid.refused n p ≡ StepSaid.refused m 0 = sym h ∙ ap (λ (o : Outcome StepSaid). o.answer) does in
        let qn : m ≡ n = cc in
        let qp : 0 ≡ p = cc in
        subst (λ (y : ℕ). Refused ed bytes s v n y) qp (subst (λ (x : ℕ). Refused ed bytes s v x 0) qn (before e only))
    there (job_due m q w) e does only h = true-false (ap accepted does.0) (ap accepted h)
    there (command_due c w) e does only h = by_command c w e (said_refused (command c s).answer (sym does.says ∙ h))

    back : {n p : ℕ} → Refused ed bytes s v n p → (step ed bytes s v).answer ≡ StepSaid.refused n p
    back (before e b) = ap (λ (o : Outcome StepSaid). o.answer) (subst (λ (d : Due). Does s v (step ed bytes s v) d) e (step_does ed bytes s v))
    back (by_command c w e h) = (is_this ed bytes s v c w e).says ∙ ap said_as h

-- a released vertex, where the tally is as it must be, whatever the other rows hold
module _
    (ed : Edition) (bytes : List ℕ) (s : Lent) (v : ℕ) (fits : tally_fits s.vertices s.edges s.made s.held ≡ true)
    (early : s.steps < step_limit) (lt : v < s.made) (q : status s.vertices v ≡ RELEASED)
  where
    -- its status is a status, and none of the others
    is_status : status_known s.vertices v ≡ true
    unfolding status_known
    is_status = both_true (le-leb NEW (status s.vertices v) (omega arith)) (le-leb (status s.vertices v) FINISHED (omega arith))

    not_status : (x : ℕ) → (RELEASED ≡ x → ⊥) → not (has_status s v x) ≡ true
    not_status x ne = not_of_false (ne_eqb (status s.vertices v) x (λ e. ne (sym q ∙ e)))

    -- so of start's own tests only the last one is left
    start_refusal : g.start_refusal s v ≡ of_graph.unless (eqb (in_count s.vertices v) 0) edge_leads_in 0
    unfolding g.start_refusal
    start_refusal =
        unless_pass _ _ fits
        ∙ unless_pass _ _ (lt-ltb v s.made lt)
        ∙ unless_pass _ _ is_status
        ∙ unless_pass _ _ (not_status NEW (omega arith))
        ∙ unless_pass _ _ (not_status EXECUTING (omega arith))
        ∙ unless_pass _ _ (not_status FINISHED (omega arith))

    -- "A released one is started", or refused by 21 where its word is not 0: "on altered tables 21 follows the word" (note 6).
    pub released_step : (step ed bytes s v).answer ≡ cond (eqb (in_count s.vertices v) 0) StepSaid.start (StepSaid.refused edge_leads_in 0)
    unfolding command g.start decided of_graph.unless
    released_step =
        ap (λ (o : Outcome StepSaid). o.answer) (step_is ed bytes s v (due_start ed bytes s v (start_due_lem s v fits early lt q)))
        ∙ rw start_refusal (go (eqb (in_count s.vertices v) 0))
      where
        go :
            (b : Bool)
            → said_as (decided s (of_graph.unless b edge_leads_in 0) of_graph.start (g.with_status s v EXECUTING)).answer
            ≡ cond b StepSaid.start (StepSaid.refused edge_leads_in 0)
        go true = refl
        go false = refl

    pub blocked_step : (in_count s.vertices v ≡ 0 → ⊥) → step ed bytes s v ≡ refuse s edge_leads_in 0
    blocked_step h = λ i. record { answer = says i; after = step_keeps ed bytes s v (ap accepted says) i }
      where
        says : (step ed bytes s v).answer ≡ StepSaid.refused edge_leads_in 0
        says = released_step ∙ rw (ne_eqb (in_count s.vertices v) 0 h) refl

-- A refused step has no place.
pub step_place : (ed : Edition) (bytes : List ℕ) (s : Lent) (v n p : ℕ) → (step ed bytes s v).answer ≡ StepSaid.refused n p → p ≡ 0
step_place ed bytes s v n p h = there ((step_refused ed bytes s v n p).0 h)
  where
    there : {n p : ℕ} → Refused ed bytes s v n p → p ≡ 0
    there (before e b) = refl
    there {n} {p} (by_command c w e q) = refused_place c s n p q

-- "Refusal 34 is never given" (note 3), by a step either.
pub step_never_34 : (ed : Edition) (bytes : List ℕ) (s : Lent) (v p : ℕ) → (step ed bytes s v).answer ≡ StepSaid.refused 34 p → ⊥
step_never_34 ed bytes s v p h = there ((step_refused ed bytes s v 34 p).0 h) refl
  where
    not_before : {n : ℕ} → Before n → n ≡ 34 → ⊥
    not_before (inl z) q = omega arith
    not_before (inr (inl z)) q = omega arith
    not_before (inr (inr (inl z))) q = omega arith
    not_before (inr (inr (inr (inl z)))) q = omega arith
    not_before (inr (inr (inr (inr z)))) q = omega arith

    there : {n p : ℕ} → Refused ed bytes s v n p → n ≡ 34 → ⊥
    there (before e b) q = not_before b q
    there {p = p} (by_command c w e r) q = never_34 c s p (subst (λ (n : ℕ). (command c s).answer ≡ of_graph.refused n p) q r)
