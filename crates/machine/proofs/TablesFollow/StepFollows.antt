-- A step of the lent tables is a move of the ghost machine, or it is refused for one of the reasons of a step. What the vertex
-- is at decides which.
use Prim.Native.Nat.{ℕ, ◌<◌, ◌≤◌}
use mathlib.Core.Path.{◌≡◌, refl, sym, ◌∙◌, ap, subst}
use mathlib.Core.Bool.{true, not}
use mathlib.Core.Logic.{◌⊎◌, inl, inr, ⊎_elim}
use mathlib.Core.List.{List, [], ◌∷◌, ◌++◌}
use mathlib.Core.Option.{some}
use native.Mathlib.Omega.{arith}
use lib.Dec.{ltb}
use lib.ListN.{length, drop}
use borrow.Author.Tests.{ltb-true, ltb-false, eqb-true, eqb-false}
use Rattle.graph.specs.Tables.{Lent, NEW, RELEASED, EXECUTING, FINISHED, vertex_rows, edge_rows}
use Rattle.refusal.specs.Refusals.{no_such_vertex, edge_leads_in, vertex_is_new, vertex_is_finished}
use Rattle.graph.specs.Paths.{leads_into}
use Rattle.graph.specs.InCounts.{CountsTrue}
use Rattle.graph.specs.declared.Command.TheVariants.{NewTd, Start, Stop}
use Rattle.graph.specs.Answers.{Outcome}
use Rattle.graph.proofs.TestLaws.{decide, true-false}
use Rattle.graph.proofs.SoundLaws.{sound_tally, sound_fits}
use Rattle.graph.proofs.EdgeLaws.{none_into}
use Rattle.graph.proofs.TakenLaws.{leaves, Taken}
use Rattle.graph.proofs.InCounts.{count_clear}
use Rattle.program.specs.Trees.{Body}
use Rattle.program.specs.declared.Edition.{Edition}
use Rattle.program.specs.Encodings.{Command, perform, new_td}
use Rattle.program.specs.Reader.{program, reading}
use Rattle.program.specs.Located.{Code, end_byte_at, job_at, located, start_of, code_at}
use Rattle.machine.specs.Answers.{StepSaid, one_step}
use Rattle.machine.specs.Stepping.{step_limit, steppable, followed, Own, own_of, moved_on, filled_in, with_own, step}
use Rattle.machine.specs.Stepping as words
use Rattle.machine.proofs.GhostMachine.Ghost.{Do, link, hand, free, yield, Control, draft, fresh, ready, busy, joining, over, Setting, State}
use Rattle.machine.proofs.GhostMachine.Ghost.{put, Kid, kids, goes, forced_by, opens_behind, todo, onward, scope_for, a_start}
use Rattle.machine.proofs.GhostMachine.Ghost.{a_new, an_edge, a_job, a_stop, event_of, Move, begins, performs, stops, makes, splits, acts}
use Rattle.machine.proofs.GhostMachine.Invariant.{is_new, Shape, Ranks, Coded, Opened}
use Rattle.machine.proofs.GhostMachine.GhostLaws.{draft_new, fresh_new, put_same, put_other}
use Rattle.machine.proofs.GhostMachine.RoadLaws.{busy_code}
use Rattle.machine.proofs.GhostMachine.ScopesAsleep.{ScopesAsleep}
use Rattle.machine.proofs.GhostMachine.Unsplit.{MoreToMake, UnsplitAt, Unsplit}
use Rattle.machine.proofs.TablesFollow.Follows.{setting_of, Words, words_of, first_opened, Shows, shows_draft, shows_fresh, shows_busy, Follows}
use Rattle.machine.proofs.TablesFollow.Follows.{absent, blocked, still_new, already_over, Answers, says_start, says_new, says_job, says_stop}
use Rattle.machine.proofs.TablesFollow.Follows.{Followed, refused, moved}
use Rattle.machine.proofs.TablesFollow.OwnLaws.{length-stored, leaves_stored}
use Rattle.machine.proofs.TablesFollow.FollowLaws.{status_of, follows_status, woken_follows, ranks_follow, count_follows}
use Rattle.machine.proofs.TablesFollow.CommandLaws.{into_from, first_task, stands, runs, takes_start}
use Rattle.machine.proofs.TablesFollow.DoneLaws.{shown_as, start_done, stop_done, asked, Room, Joined, joined}
use Rattle.machine.proofs.TablesFollow.StepLaws.{row_for, steppable_of, step_is, start_due_lem, due_start, due_absent, due_new, due_over}
use Rattle.machine.proofs.TablesFollow.StepLaws.{row_place, row_latest, job_item, plain_names, names_stand, due_command, due_end}
use Rattle.machine.proofs.TablesFollow.FutureLaws.{followed_is}
use Rattle.machine.proofs.StepDemand2.{blocked_step}
use Rattle.machine.proofs.TablesFollow.ItemLaws.{ForcesOpen, Acting, acting, busy_row, Making, Busy, at_end, at_job, making, splitting}
use Rattle.machine.proofs.TablesFollow.ItemLaws.{busy_cases, job_next}
use Rattle.machine.proofs.TablesFollow.MoveLaws.{joins_due, new_due, by_command, acts_follows, performs_follows, makes_follows, new_held}
use Rattle.machine.proofs.TablesFollow.MoveLaws.{stop_held}

-- the row of a busy vertex
busy_row_lem :
    {p : Code} {Γ : Setting} {v σ : ℕ} {fs : List (ℕ × Code)} {w : Words} {c : Code} {ms : List ℕ} → Shows p Γ v w σ fs (busy c ms)
    → w ≡ busy_row c σ ms (first_opened fs)
busy_row_lem (shows_busy h) = h

-- statuses by what a vertex is at
new_is : (x : Control) → is_new x ≡ true → status_of x ≡ NEW
unfolding is_new status_of
new_is (draft c) h = refl
new_is (fresh c) h = refl
new_is (ready c) h = true-false h refl
new_is (busy c ms) h = true-false h refl
new_is (joining c d ds) h = true-false h refl
new_is over h = true-false h refl

ready_is : {x : Control} {c : Code} → x ≡ ready c → status_of x ≡ RELEASED
unfolding status_of
ready_is q = ap status_of q

busy_is : {x : Control} {c : Code} {ms : List ℕ} → x ≡ busy c ms → status_of x ≡ EXECUTING
unfolding status_of
busy_is q = ap status_of q

joining_is : {x : Control} {c : Code} {d : Do} {ds : List Do} → x ≡ joining c d ds → status_of x ≡ EXECUTING
unfolding status_of
joining_is q = ap status_of q

over_is : {x : Control} → x ≡ over → status_of x ≡ FINISHED
unfolding status_of
over_is q = ap status_of q

-- what is left of an item that is not split
busy_left : (Γ : Setting) {x : Control} {c : Code} {ms : List ℕ} → UnsplitAt Γ x → x ≡ busy c ms → MoreToMake Γ c ms
unfolding UnsplitAt
busy_left Γ h q = subst (λ (x : Control). UnsplitAt Γ x) q h

-- the row that a joining command needs
room_for :
    (s : Lent) {S : State} {v : ℕ} {c : Code} {ds : List Do} (d : Do) → S.control v ≡ joining c d ds
    → ((S' : State) → Move S v an_edge S' → s.held < edge_rows s.edges) → Room s d
unfolding Room event_of
room_for s (link a b) q edge_room = edge_room _ (acts q)
room_for s (hand h) q edge_room = tt
room_for s (free m) q edge_room = tt
room_for s yield q edge_room = tt

module _
    (ed : Edition) (bytes : List ℕ) (t : Body) (s : Lent) (S : State) (v : ℕ) (reads : reading ed bytes ≡ program t) (shape : Shape S)
    (ranks : Ranks S) (sleep : ScopesAsleep S) (opened : Opened S) (coded : Coded (located t) S) (unsplit : Unsplit S)
    (F : Follows (located t) (setting_of ed bytes) s S) (counted : CountsTrue s) (limit : s.steps < step_limit)
  where
    abbrev p : Code
    p = located t

    abbrev Γ : Setting
    Γ = setting_of ed bytes

    abbrev Result : Type 0
    Result = Followed p Γ s S v (step ed bytes s v)

    ok : steppable s ≡ true
    ok = steppable_of s F.sound_is limit

    is_made : v < S.count → v < s.made
    is_made lt = subst (λ (k : ℕ). v < k) (sym F.made_is) lt

    -- refusals
    refuses_absent : S.count ≤ v → Result
    refuses_absent le = refused no_such_vertex (absent le) (step_is ed bytes s v (due_absent ed bytes s v ok (rw F.made_is le)))

    refuses_new : is_new (S.control v) ≡ true → Result
    refuses_new q =
        let (made, new) = stands shape F v NEW (new_is (S.control v) q) (omega arith) in
        refused vertex_is_new (still_new q) (step_is ed bytes s v (due_new ed bytes s v ok made new))

    refuses_over : v < S.count → S.control v ≡ over → Result
    refuses_over lt q =
        refused vertex_is_finished (already_over lt q)
        (step_is ed bytes s v (due_over ed bytes s v ok (is_made lt) (follows_status s S v F lt ∙ over_is q)))

    -- a released vertex starts, unless an edge leads in, as its word says
    step_ready : (c : Code) → S.control v ≡ ready c → Result
    step_ready c q =
        let (made, released) = stands shape F v RELEASED (ready_is q) (omega arith) in
        let fits = sound_tally s F.sound_is in
        let word = count_clear s v (counted v made) in
        ⊎_elim
        (λ h.
        let (u, held) = into_from s.edges s.held v h in
        refused edge_leads_in (blocked q u (sym (F.edges_are u v) ∙ held))
        (blocked_step ed bytes s v fits limit made released (eqb-false _ _ (word ∙ ap not h))))
        (λ h.
        let taken = takes_start shape F v (ready_is q) (eqb-true _ _ (word ∙ ap not h)) in
        by_command (Start v) (own_of s v) a_start _ F (step_is ed bytes s v (due_start ed bytes s v (start_due_lem s v fits limit made released))) taken
        (begins q (λ u. sym (F.edges_are u v) ∙ (none_into s.edges s.held v).0 h u))
        (rw (leaves_stored (Start v) s v made) (start_done F v c q taken))
        says_start
        (omega arith))
        (decide (leads_into s.edges s.held v))

    -- the future that a command names, if it does, is the vertex that the words followed come to
    followed_to :
        (c : Command) (k : Code) (gs : List (ℕ × Code)) (n : ℕ) → v < S.count → words.latest s v ≡ first_opened gs
        → (plain_names c ≡ true) ⊎ ForcesOpen gs (S.opens v) k n → (plain_names c ≡ true) ⊎ (followed s v n ≡ some (forced_by gs k))
    followed_to c k gs n lt first (inl h) = inl h
    followed_to c k gs n lt first (inr h) =
        inr (followed_is F opened gs n v lt (sym h.still_open) first h.is_open ∙ ap some (sym h.vertex_is))

    -- a joining command
    step_acts :
        (c : Code) (d : Do) (ds : List Do) → S.control v ≡ joining c d ds → v < s.made
        → Acting p Γ v (S.scope v) (S.opens v) (words_of s v) d ds c → Joined p Γ s S v d → Result
    step_acts c d ds q made a j =
        by_command (asked v d) _ (event_of d) _ F
        (step_is ed bytes s v
        (due_command ed bytes t s v reads ok made a.k a.is_row a.stands a.item a.command a.next_is
        (names_stand s v a.item.number (forced_by a.gs a.k) a.command named)
        ∙ joins_due s v a.item.number (forced_by a.gs a.k) a.item.spot _ a.ms a.is_row named a.does))
        j.is_taken
        (acts q)
        (acts_follows F v c d ds a j made)
        j.answers
        j.held_le
      where
        named : (plain_names a.command ≡ true) ⊎ (followed s v a.item.number ≡ some (forced_by a.gs a.k))
        named =
            followed_to a.command a.k a.gs a.item.number (subst (λ (k : ℕ). v < k) F.made_is made)
            (row_latest s v a.is_row)
            a.names

    step_joining :
        (c : Code) (d : Do) (ds : List Do) → S.control v ≡ joining c d ds
        → ((S' : State) → Move S v an_edge S' → s.held < edge_rows s.edges) → Result
    step_joining c d ds q edge_room =
        let made = (stands shape F v EXECUTING (joining_is q) (omega arith)).0 in
        step_acts c d ds q made (acting (shown_as F v (joining c d ds) made q))
        (joined shape ranks sleep F v d (joining_is q) (first_task S v q) (room_for s d q edge_room))

    -- what a busy vertex shows
    module _ (c : Code) (ms : List ℕ) (q : S.control v ≡ busy c ms) where
      busy_made : v < s.made
      busy_made = (stands shape F v EXECUTING (busy_is q) (omega arith)).0

      busy_shown : words_of s v ≡ busy_row c (S.scope v) ms (first_opened (S.opens v))
      busy_shown = busy_row_lem (shown_as F v (busy c ms) busy_made q)

      busy_stands : code_at p (start_of c) ≡ some c
      busy_stands = coded v c (busy_code q)

      -- it makes a vertex: S' is what the tables follow then
      step_makes :
          (k : Kid) (m : Making Γ c ms k) (S' : State) → Move S v a_new S' → s.made < vertex_rows s.vertices
          → (Taken (NewTd v (start_of k.code) (scope_for S v ms k)) s
          → Follows p Γ
          (with_own (leaves (NewTd v (start_of k.code) (scope_for S v ms k)) s) v
          (moved_on (row_for m.item) m.item.spot (new_td m.spot_of k.name) (length ms) s.made (own_of s v)))
          S')
          → Result
      step_makes k m S' move room follows =
          by_command (NewTd v (start_of k.code) σ) _ a_new S' F
          (step_is ed bytes s v
          (due_command ed bytes t s v reads ok busy_made c busy_shown busy_stands m.item (new_td m.spot_of k.name) m.next_is
          (names_stand s v m.item.number 0 (new_td m.spot_of k.name) (inl (unfold plain_names in m.plain_scope)))
          ∙ new_due s v m.item.number m.item.spot _ ms m.spot_of k.name busy_shown m.plain_scope m.spot_is))
          taken
          move
          (follows taken)
          (subst (λ (n : ℕ). Answers S v a_new (StepSaid.new n)) (sym F.made_is) says_new)
          (new_held s v (start_of k.code) σ _)
        where
          σ : ℕ
          σ = scope_for S v ms k

          taken : Taken (NewTd v (start_of k.code) σ) s
          taken = (runs shape F v (busy_is q), room)

    -- an end byte
    step_stop : (o : ℕ) → S.control v ≡ busy (end_byte_at o) [] → Result
    step_stop o q =
        let taken = runs shape F v (busy_is q) in
        let made = busy_made (end_byte_at o) [] q in
        by_command (Stop v) (own_of s v) a_stop _ F
        (step_is ed bytes s v (due_end ed bytes t s v reads ok made o (busy_shown (end_byte_at o) [] q) (busy_stands (end_byte_at o) [] q)))
        taken
        (stops q)
        (rw (leaves_stored (Stop v) s v made) (stop_done F v o q taken))
        says_stop
        (stop_held s v _)

    -- a job
    step_job : (o n : ℕ) (r : Code) → S.control v ≡ busy (job_at o n r) [] → Result
    step_job o n r q =
        subst (λ (o : Outcome StepSaid). Followed p Γ s S v o) (sym is_step)
        (moved (a_job o) _ (performs q)
        (count_follows (performs_follows F v o n r shown within))
        (subst (λ (z : ℕ). Answers S v (a_job o) (StepSaid.job n z)) (sym at_o) (says_job q))
        (record { steps_are = refl; held_le = omega arith; vertex_length = length-stored s.vertices v after; edge_length = refl }))
      where
        made : v < s.made
        made = busy_made (job_at o n r) [] q

        shown : words_of s v ≡ busy_row (job_at o n r) (S.scope v) [] (first_opened (S.opens v))
        shown = busy_shown (job_at o n r) [] q

        within : v < vertex_rows s.vertices
        within = omega (arith, made, (sound_fits s F.sound_is).vertices_fit)

        at_o : words.place s v ≡ o
        at_o = unfold start_of in row_place s v shown

        after : Own
        after = moved_on (row_for (job_item Γ o n r)) (job_item Γ o n r).spot perform 0 s.made (own_of s v)

        is_step : step ed bytes s v ≡ record { answer = StepSaid.job n (words.place s v); after = one_step (with_own s v after) }
        is_step =
            unfold filled_in job_item in
            step_is ed bytes s v
            (due_command ed bytes t s v reads ok made (job_at o n r) shown (busy_stands (job_at o n r) [] q) (job_item Γ o n r) perform
            (job_next Γ o n r)
            (names_stand s v (job_item Γ o n r).number 0 perform (inl (unfold plain_names in refl))))

    -- the vertices that are left to an item, by the state's setting
    left_after :
        (c : Code) (ms : List ℕ) {ks : List Kid} → drop (length ms) (kids Γ c) ≡ ks → drop (length ms) (kids S.setting c) ≡ ks
    left_after c ms {ks} h = subst (λ (Δ : Setting). drop (length ms) (kids Δ c) ≡ ks) (sym F.setting_is) h

    not_count : v < s.made → v ≡ S.count → ⊥
    not_count lt q = absurd (omega (arith, lt, q, F.made_is))

    -- a busy vertex
    step_busy :
        (c : Code) (ms : List ℕ) → S.control v ≡ busy c ms → ((S' : State) → Move S v a_new S' → s.made < vertex_rows s.vertices)
        → Busy Γ c ms → Result
    step_busy c ms q room (at_end o) = step_stop o q
    step_busy c ms q room (at_job o n r) = step_job o n r q
    step_busy c ms q room (making k next more left m) =
        let move = makes q (left_after c ms left) in
        step_makes c ms q k m _ move (room _ move)
        (makes_follows F v c ms k m (busy c (ms ++ (S.count ∷ []))) (draft k.code) (scope_for S v ms k)
        (put S.opens S.count (S.opens v))
        (shows_draft refl)
        (λ u ne. refl)
        (λ w h. rw (put_other S.opens S.count (S.opens v) v (not_count (busy_made c ms q))) (shows_busy h))
        (busy_shown c ms q)
        (busy_made c ms q))
    step_busy c ms q room (splitting k left m behind) =
        let move = splits q (left_after c ms left) in
        let all : List ℕ = ms ++ (S.count ∷ []) in
        let fs : List (ℕ × Code) = opens_behind (S.opens v) all c in
        let opens = put S.opens S.count (S.opens v) in
        step_makes c ms q k m _ move (room _ move)
        (λ taken.
        ranks_follow _
        (makes_follows (woken_follows S ms F) v c ms k m _ (fresh k.code) (scope_for S v ms k) (put opens v fs)
        (shows_fresh refl)
        (λ u ne. put_other opens v fs u ne)
        (λ w h.
        rw (put_same opens v fs)
        (subst
        (λ (Δ : Setting).
        Shows p Γ v w (S.scope v) fs (onward (goes Δ c) (todo Δ.edition v (S.scope v) (forced_by (S.opens v) c) all c)))
        (sym F.setting_is)
        (behind p v (S.scope v) S.count (S.opens v) w h (busy_stands c ms q) (opened.scoped v c (busy_code q)))))
        (busy_shown c ms q)
        (busy_made c ms q)
        taken))

    -- by what v is at
    module _
        (new_room : (S' : State) → Move S v a_new S' → s.made < vertex_rows s.vertices)
        (edge_room : (S' : State) → Move S v an_edge S' → s.held < edge_rows s.edges)
      where
        step_at : (x : Control) → v < S.count → S.control v ≡ x → Result
        step_at (draft c) lt q = refuses_new (draft_new q)
        step_at (fresh c) lt q = refuses_new (fresh_new q)
        step_at (ready c) lt q = step_ready c q
        step_at (busy c ms) lt q =
            step_busy c ms q new_room
            (busy_cases Γ c ms (subst (λ (Δ : Setting). MoreToMake Δ c ms) F.setting_is (busy_left S.setting (unsplit v) q)))
        step_at (joining c d ds) lt q = step_joining c d ds q edge_room
        step_at over lt q = refuses_over lt q

        step_any : Result
        step_any =
            ⊎_elim
            (λ h. step_at (S.control v) (ltb-true v S.count h) refl)
            (λ h. refuses_absent (ltb-false v S.count h))
            (decide (ltb v S.count))

-- A step of the lent tables is a move of the ghost machine.
pub step_follows :
    (ed : Edition) (bytes : List ℕ) (t : Body) (s : Lent) (S : State) (v : ℕ) → reading ed bytes ≡ program t → Shape S → Ranks S
    → ScopesAsleep S → Opened S → Coded (located t) S → Unsplit S → Follows (located t) (setting_of ed bytes) s S → CountsTrue s
    → s.steps < step_limit
    → ((S' : State) → Move S v a_new S' → s.made < vertex_rows s.vertices)
    → ((S' : State) → Move S v an_edge S' → s.held < edge_rows s.edges)
    → Followed (located t) (setting_of ed bytes) s S v (step ed bytes s v)
step_follows = step_any
