-- What the tables follow after a command that is taken: the state after a start, a stop, a newTd and after each command that joins
-- vertices, before anything is done to the row of the vertex that steps.
use Prim.Native.Nat.{ℕ, ◌+◌, ◌<◌, ◌≤◌}
use mathlib.Core.Path.{◌≡◌, refl, sym, ◌∙◌, ap, subst}
use mathlib.Core.Bool.{Bool, true, false, not}
use mathlib.Core.Logic.{inl, inr, ⊎_elim}
use mathlib.Core.List.{List, []}
use native.Mathlib.Omega.{arith}
use lib.Dec.{eqb}
use borrow.Author.Tests.{eq-eqb, ne_eqb, eqb-true, eqb-false, not-true}
use Rattle.graph.specs.Tests.{both, either}
use Rattle.graph.specs.Tables.{Lent, NEW, RELEASED, EXECUTING, FINISHED, vertex_rows, edge_rows, status}
use Rattle.graph.specs.Sound.{sound}
use Rattle.graph.specs.Demand2.{AddsNothing}
use Rattle.graph.specs.Paths.{holds}
use Rattle.graph.specs.Commands.{with_status, with_edge, with_moved, stopped}
use Rattle.graph.specs.declared.Command.{Command}
use Rattle.graph.specs.declared.Command.TheVariants.{NewTd, NewEdge, Release, Transfer, Start, Stop, Yield}
use Rattle.graph.proofs.TestLaws.{decide, both_true, both_left, both_right, either_cases, either_left, either_right, not_of_false}
use Rattle.graph.proofs.EdgeLaws.{Is, OneMore, NotFrom, Moved, is_same, without_is}
use Rattle.graph.proofs.SoundLaws.{sound_fits}
use Rattle.graph.proofs.TakenLaws.{leaves, Adds, Taken}
use Rattle.graph.proofs.EffectLaws.{leaves_all, leaves_edge, with_edge_is, with_moved_is}
use Rattle.program.specs.Located.{Code, end_byte_at, start_of}
use Rattle.machine.specs.Stepping.{latest}
use Rattle.machine.proofs.GhostMachine.Ghost.{Do, link, hand, free, yield, Control, fresh, ready, busy, over, Setting, State, put, freed}
use Rattle.machine.proofs.GhostMachine.Ghost.{with_control, with_edges, grown, linked, handed, dropped, live, done, event_of}
use Rattle.machine.proofs.GhostMachine.Invariant.{In, tasks_of, Shape, Ranks}
use Rattle.machine.proofs.GhostMachine.ScopesAsleep.{ScopesAsleep}
use Rattle.machine.proofs.GhostMachine.RoadLaws.{linked_if}
use Rattle.machine.proofs.Counting.Weights.{links}
use Rattle.machine.proofs.TablesFollow.Follows.{Words, row, words_of, first_opened, Shows, shows_fresh, shows_ready, shows_busy, shows_over, Follows}
use Rattle.machine.proofs.TablesFollow.Follows.{Answers, says_edge, says_release, says_transfer, says_yield}
use Rattle.machine.proofs.TablesFollow.RowLaws.{set_at, Rowed, rowed_none, rowed_status, turned, edge_row, moved_row_lem, stopped_row}
use Rattle.machine.proofs.TablesFollow.FollowLaws.{status_of, row_follows, edges_follow, vertex_follows}
use Rattle.machine.proofs.TablesFollow.CommandLaws.{says, leaves-sound, runs, takes_release, takes_edge, takes_nothing, takes_transfer}

-- the sets of edges of the moves, told by their members
linked_is : (e : ℕ → ℕ → Bool) (a b : ℕ) → Is (linked e a b) (OneMore e a b)
linked_is e a b x y = (
  λ h. ⊎_elim inl (λ r. inr (eqb-true x a (both_left _ _ r), eqb-true y b (both_right _ _ r))) (either_cases _ _ h),
  λ h. ⊎_elim (λ r. either_left _ r) (λ r. either_right _ (both_true (eq-eqb x a r.0) (eq-eqb y b r.1))) h,
)

dropped_is : (e : ℕ → ℕ → Bool) (v : ℕ) → Is (dropped e v) (NotFrom e v)
dropped_is e v x y = (
  λ h. (both_left _ _ h, eqb-false x v (not-true _ (both_right _ _ h))),
  λ h. both_true h.0 (not_of_false (ne_eqb x v h.1)),
)

handed_is : (e : ℕ → ℕ → Bool) (v h : ℕ) → Is (handed e v h) (Moved e v h)
handed_is e v h x y = (
  λ q. ⊎_elim (λ r. inl ((dropped_is e v x y).0 r)) (λ r. inr (eqb-true x h (both_left _ _ r), both_right _ _ r)) (either_cases _ _ q),
  λ q. ⊎_elim (λ r. either_left _ ((dropped_is e v x y).1 r)) (λ r. either_right _ (both_true (eq-eqb x h r.0) r.1)) q,
)

-- the row of a vertex that waits or is busy
ready-row :
    {p : Code} {Γ : Setting} {v σ : ℕ} {fs : List (ℕ × Code)} {w : Words} {c : Code} → Shows p Γ v w σ fs (ready c)
    → w ≡ row RELEASED (start_of c) σ 0 0 0 0 (first_opened fs)
ready-row (shows_ready h) = h

fresh-row :
    {p : Code} {Γ : Setting} {v σ : ℕ} {fs : List (ℕ × Code)} {w : Words} {c : Code} → Shows p Γ v w σ fs (fresh c)
    → w ≡ row NEW (start_of c) σ 0 0 0 0 (first_opened fs)
fresh-row (shows_fresh h) = h

ending_row :
    {p : Code} {Γ : Setting} {v σ : ℕ} {fs : List (ℕ × Code)} {w : Words} {c : Code} → Shows p Γ v w σ fs (busy c [])
    → w ≡ row EXECUTING (start_of c) σ 0 0 0 0 (first_opened fs)
ending_row (shows_busy h) = h

-- a started, a released and a finished row
shows_started :
    {p : Code} {Γ : Setting} {v σ : ℕ} {fs : List (ℕ × Code)} {w : Words} {c : Code} → Shows p Γ v w σ fs (ready c)
    → Shows p Γ v (set_at 0 EXECUTING w) σ fs (busy c [])
shows_started h = shows_busy (ap (set_at 0 EXECUTING) (ready-row h))

shows_freed :
    {p : Code} {Γ : Setting} {v σ : ℕ} {fs : List (ℕ × Code)} {w : Words} {c : Code} → Shows p Γ v w σ fs (fresh c)
    → Shows p Γ v (set_at 0 RELEASED w) σ fs (freed (fresh c))
unfolding freed
shows_freed h = shows_ready (ap (set_at 0 RELEASED) (fresh-row h))

shows_finished :
    {p : Code} {Γ : Setting} {v σ : ℕ} {fs : List (ℕ × Code)} {w : Words} {c : Code} → Shows p Γ v w σ fs (busy c [])
    → Shows p Γ v (set_at 0 FINISHED w) σ fs over
shows_finished {σ} {c} h = shows_over (start_of c) σ 0 0 0 0 (ap (set_at 0 FINISHED) (ending_row h))

module _ {p : Code} {Γ : Setting} {s : Lent} {S : State} (F : Follows p Γ s S) where
  in_table : (v : ℕ) → v < s.made → v < vertex_rows s.vertices
  in_table v lt = omega (arith, (sound_fits s F.sound_is).vertices_fit)

  -- what v shows
  pub shown_as : (v : ℕ) (x : Control) → v < s.made → S.control v ≡ x → Shows p Γ v (words_of s v) (S.scope v) (S.opens v) x
  shown_as v x lt q =
      subst (λ (y : Control). Shows p Γ v (words_of s v) (S.scope v) (S.opens v) y) q (F.rows_are v (subst (λ (k : ℕ). v < k) F.made_is lt))

  -- start
  pub start_done :
      (v : ℕ) (c : Code) → S.control v ≡ ready c → Taken (Start v) s
      → Follows p Γ (leaves (Start v) s) (with_control S (put S.control v (busy c [])))
  start_done v c q h =
      row_follows S (busy c []) F (rowed_status s v EXECUTING (in_table v h.1)) (shows_started (shown_as v (ready c) h.1 q))

  -- stop
  pub stop_done :
      (v o : ℕ) → S.control v ≡ busy (end_byte_at o) [] → Taken (Stop v) s
      → Follows p Γ (leaves (Stop v) s) (with_edges (with_control S (put S.control v over)) (dropped S.edge v))
  unfolding stopped
  stop_done v o q h =
      edges_follow (with_control S (put S.control v over)) (dropped S.edge v)
      (row_follows S over F (rowed_status s v FINISHED (in_table v h.is_made)) (shows_finished (shown_as v (busy (end_byte_at o) []) h.is_made q)))
      (stopped_row s v)
      refl
      (λ a b.
      is_same (without_is v s.edges s.held) (dropped_is (holds s.edges s.held) v) a b
      ∙ ap (λ (z : Bool). both z (not (eqb a v))) (F.edges_are a b))
      (leaves-sound (Stop v) s F.sound_is h)

  -- newTd, of a vertex with this place, scope, rank and fin
  pub new_done :
      (v : ℕ) (x : Control) (place σ low high : ℕ) → Shows p Γ s.made (row NEW place σ 0 0 0 0 (latest s v)) σ (S.opens v) x
      → Taken (NewTd v place σ) s → Follows p Γ (leaves (NewTd v place σ) s) (grown S v x σ low high)
  new_done v x place σ low high shown h =
      vertex_follows s S v x place σ low high F h.1 (leaves-sound (NewTd v place σ) s F.sound_is h) shown

  -- newEdge, which appends its edge
  edge_follows :
      (a b : ℕ) → s.held < edge_rows s.edges → sound (with_edge s a b) ≡ true
      → Follows p Γ (with_edge s a b) (with_edges S (linked S.edge a b))
  unfolding with_edge
  edge_follows a b room known =
      edges_follow S (linked S.edge a b) F (edge_row s a b) refl
      (λ x y.
      is_same (with_edge_is s a b room) (linked_is (holds s.edges s.held) a b) x y
      ∙ ap (λ (z : Bool). either z (both (eqb x a) (eqb y b))) (F.edges_are x y))
      known

  edge_done :
      (v a b : ℕ) → live (S.control a) ≡ true → Taken (NewEdge v a b) s → Adds s a b
      → Follows p Γ (leaves (NewEdge v a b) s) (with_edges S (linked_if (live (S.control a)) S.edge a b))
  edge_done v a b unfinished h adds =
      subst (λ (t : Bool). Follows p Γ (leaves (NewEdge v a b) s) (with_edges S (linked_if t S.edge a b))) (sym unfinished)
      (rw (leaves_edge s v a b adds)
      (edge_follows a b adds.row_free (rw (leaves_edge s v a b adds) at (leaves-sound (NewEdge v a b) s F.sound_is h))))

  -- and one that adds nothing
  nothing_done :
      (v a b : ℕ) → live (S.control a) ≡ false → AddsNothing s a b
      → Follows p Γ (leaves (NewEdge v a b) s) (with_edges S (linked_if (live (S.control a)) S.edge a b))
  nothing_done v a b finished nothing =
      subst (λ (t : Bool). Follows p Γ (leaves (NewEdge v a b) s) (with_edges S (linked_if t S.edge a b))) (sym finished)
      (rw (leaves_all s v a b nothing) (edges_follow S S.edge F (λ u. refl) refl F.edges_are F.sound_is))

  -- transfer
  pub hand_done :
      (v h : ℕ) → Taken (Transfer v h) s → Follows p Γ (leaves (Transfer v h) s) (with_edges S (handed S.edge v h))
  unfolding with_moved
  hand_done v h t =
      edges_follow S (handed S.edge v h) F (moved_row_lem s v h) refl
      (λ a b.
      is_same (with_moved_is s v h (sound_fits s F.sound_is)) (handed_is (holds s.edges s.held) v h) a b
      ∙ ap (λ (z : Bool). either (both z (not (eqb a v))) (both (eqb a h) (holds s.edges s.held v b))) (F.edges_are a b)
      ∙ ap (λ (z : Bool). either (both (S.edge a b) (not (eqb a v))) (both (eqb a h) z)) (F.edges_are v b))
      (leaves-sound (Transfer v h) s F.sound_is t)

  -- release
  pub free_done :
      (v m : ℕ) (c : Code) → S.control m ≡ fresh c → Taken (Release v m) s
      → Follows p Γ (leaves (Release v m) s) (with_control S (put S.control m (freed (S.control m))))
  free_done v m c q h =
      row_follows S (freed (S.control m)) F (rowed_status s m RELEASED (in_table m h.1))
      (subst (λ (x : Control). Shows p Γ m (set_at 0 RELEASED (words_of s m)) (S.scope m) (S.opens m) (freed x)) (sym q)
      (shows_freed (shown_as m (fresh c) h.1 q)))

-- the single command of a vertex that joins vertices
unfoldable pub asked : ℕ → Do → Command
asked v (link a b) = NewEdge v a b
asked v (hand h) = Transfer v h
asked v (free m) = Release v m
asked v yield = Yield v

-- the row that it needs
unfoldable pub Room : Lent → Do → Type 0
Room s (link a b) = s.held < edge_rows s.edges
Room s (hand h) = Unit {0}
Room s (free m) = Unit {0}
Room s yield = Unit {0}

-- It is taken; but for the row of its vertex, which a yield turns, the tables follow what it does; it answers and needs rows as it should.
pub record Joined (p : Code) (Γ : Setting) (s : Lent) (S : State) (v : ℕ) (d : Do) : Type 0 where
  pub is_taken : Taken (asked v d) s
  -- the tables with the row of its vertex as before
  pub tables : Lent
  pub follows : Follows p Γ tables (done S v d)
  pub row_same : words_of tables v ≡ words_of s v
  pub turns : Rowed tables (leaves (asked v d) s) v (turned d)
  pub scope_same : (done S v d).scope v ≡ S.scope v
  pub opens_same : (done S v d).opens v ≡ S.opens v
  pub held_le : (leaves (asked v d) s).held ≤ s.held + links (event_of d)
  pub answers : Answers S v (event_of d) (says (asked v d) s)

-- a row beside the one that is set
row_beside : (s : Lent) (v m x : ℕ) → m < vertex_rows s.vertices → (v ≡ m → ⊥) → words_of (with_status s m x) v ≡ words_of s v
row_beside s v m x lt ne = (rowed_status s m x lt).others v ne

-- newEdge holds one edge more, or none
edge_held : (s : Lent) (v a b : ℕ) → Adds s a b → (leaves (NewEdge v a b) s).held ≤ s.held + 1
unfolding with_edge
edge_held s v a b adds = rw (leaves_edge s v a b adds) (omega arith)

nothing_held : (s : Lent) (v a b : ℕ) → AddsNothing s a b → (leaves (NewEdge v a b) s).held ≤ s.held + 1
nothing_held s v a b nothing = rw (leaves_all s v a b nothing) (omega arith)

moved_held : (s : Lent) (v h : ℕ) → (leaves (Transfer v h) s).held ≤ s.held + 0
unfolding with_moved
moved_held s v h = omega arith

-- each of the four commands
pub joined :
    {p : Code} {Γ : Setting} {s : Lent} {S : State} → Shape S → Ranks S → ScopesAsleep S → Follows p Γ s S → (v : ℕ) (d : Do)
    → status_of (S.control v) ≡ EXECUTING → In d (tasks_of S v) → Room s d → Joined p Γ s S v d
unfolding asked Room done event_of links
joined {p} {Γ} {s} {S} shape ranks sleep F v (link a b) q i room =
    ⊎_elim unfinished_source finished_source (decide (live (S.control a)))
  where
    unfinished_source : live (S.control a) ≡ true → Joined p Γ s S v (link a b)
    unfinished_source h =
        let (t, adds) = takes_edge shape F ranks sleep v a b q i h room in
        record {
          is_taken = t;
          tables = leaves (NewEdge v a b) s;
          follows = edge_done F v a b h t adds;
          row_same = rw (leaves_edge s v a b adds) (edge_row s a b v);
          turns = rowed_none (leaves (NewEdge v a b) s) v;
          scope_same = refl;
          opens_same = refl;
          held_le = edge_held s v a b adds;
          answers = says_edge a b ((shape.todo_fits v).link_new a b i);
        }

    finished_source : live (S.control a) ≡ false → Joined p Γ s S v (link a b)
    finished_source h =
        let (t, nothing) = takes_nothing shape F v a b q i h in
        record {
          is_taken = t;
          tables = leaves (NewEdge v a b) s;
          follows = nothing_done F v a b h nothing;
          row_same = rw (leaves_all s v a b nothing) refl;
          turns = rowed_none (leaves (NewEdge v a b) s) v;
          scope_same = refl;
          opens_same = refl;
          held_le = nothing_held s v a b nothing;
          answers = says_edge a b ((shape.todo_fits v).link_new a b i);
        }
joined {s = s} shape ranks sleep F v (hand h) q i room =
    let t = takes_transfer shape F ranks v h q i in
    record {
      is_taken = t;
      tables = leaves (Transfer v h) s;
      follows = hand_done F v h t;
      row_same = moved_row_lem s v h v;
      turns = rowed_none (leaves (Transfer v h) s) v;
      scope_same = refl;
      opens_same = refl;
      held_le = moved_held s v h;
      answers = says_transfer h;
    }
joined {s = s} {S = S} shape ranks sleep F v (free m) q i room =
    let t = takes_release shape F v m q i in
    let (c, fresh_is) = ((shape.todo_fits v).frees m i).0 in
    record {
      is_taken = t;
      tables = leaves (Release v m) s;
      follows = free_done F v m c fresh_is t;
      row_same = row_beside s v m RELEASED (in_table F m t.1) (λ z. apart z t.0.executing t.2);
      turns = rowed_none (leaves (Release v m) s) v;
      scope_same = refl;
      opens_same = refl;
      held_le = omega arith;
      answers = says_release m;
    }
  where
    apart : {v m : ℕ} → v ≡ m → status s.vertices v ≡ EXECUTING → status s.vertices m ≡ NEW → ⊥
    apart {m = m} z x y =
        let same : status s.vertices m ≡ EXECUTING = subst (λ (k : ℕ). status s.vertices k ≡ EXECUTING) z x in
        omega arith
joined {s = s} shape ranks sleep F v yield q i room =
    let t = runs shape F v q in
    record {
      is_taken = t;
      tables = s;
      follows = F;
      row_same = refl;
      turns = rowed_status s v RELEASED (in_table F v t.is_made);
      scope_same = refl;
      opens_same = refl;
      held_le = omega arith;
      answers = says_yield;
    }
