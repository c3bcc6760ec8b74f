-- What each move of a vertex does to the tables: they follow the state after it, and the tally is one step further. A step does a single
-- command, or a job, and then something to the row of its vertex.
use Prim.Native.Nat.{ℕ, ◌+◌, ◌<◌, ◌≤◌}
use mathlib.Core.Path.{◌≡◌, refl, sym, ◌∙◌, ap, subst}
use mathlib.Core.Bool.{true}
use mathlib.Core.Logic.{◌⊎◌, inl, inr, ⊎_elim}
use mathlib.Core.List.{List, [], ◌∷◌, ◌++◌}
use mathlib.Core.Option.{some}
use native.Mathlib.Omega.{arith}
use lib.ListN.{length, get_or}
use Rattle.graph.specs.Tables.{Lent, NEW, vertex_rows}
use Rattle.graph.specs.Sound.{sound}
use Rattle.graph.specs.Commands.{stopped, with_vertex}
use Rattle.graph.specs.declared.Command as single
use Rattle.graph.specs.declared.Command.TheVariants.{NewTd, Stop}
use Rattle.graph.specs.Answers.{Outcome}
use Rattle.graph.proofs.TestLaws.{both_left, both_right}
use Rattle.graph.proofs.SoundLaws.{sound_fits}
use Rattle.graph.proofs.TableLaws.{kept_rows_le}
use Rattle.graph.proofs.TakenLaws.{leaves, Taken}
use Rattle.graph.proofs.WordLaws.{vertex_words_of, edge_words_of, steps_kept_of}
use Rattle.program.specs.Encodings.{Name, Spot, Command, perform, new_td}
use Rattle.program.specs.Located.{Code, job_at, start_of}
use Rattle.machine.specs.Stepping.{followed, Own, own_of, moved_on, command_due, filled_in, with_own, do_due}
use Rattle.machine.proofs.GhostMachine.Ghost.{Do, Control, busy, Setting, State, put, Kid, resolved, resumed, done, with_control, with_opens}
use Rattle.machine.proofs.GhostMachine.Ghost.{grown, Event, Move}
use Rattle.machine.proofs.GhostMachine.GhostLaws.{put_other}
use Rattle.machine.proofs.Counting.Weights.{links}
use Rattle.machine.proofs.TablesFollow.Follows.{Words, row, words_of, first_opened, Shows, shows_busy, Follows, Answers, Followed, moved}
use Rattle.machine.proofs.TablesFollow.RowLaws.{rowed_then, own_in, own_is, put_own, rowed_own, advancing, new_others}
use Rattle.machine.proofs.TablesFollow.OwnLaws.{length-stored}
use Rattle.machine.proofs.TablesFollow.FollowLaws.{opens_follow, row_follows, count_follows}
use Rattle.machine.proofs.TablesFollow.CommandLaws.{says, called}
use Rattle.machine.proofs.TablesFollow.DoneLaws.{new_done, asked, Joined}
use Rattle.machine.proofs.TablesFollow.StepLaws.{row_latest, plain, plain_names, named_is, row_for, job_item}
use Rattle.machine.proofs.TablesFollow.ItemLaws.{Joins, joins_link, joins_hand, joins_free, joins_yield, Acting, busy_row, Making, job_row}
use Rattle.machine.specs.Answers.{StepSaid}

-- the command of the calculus that a joining command of an item is, with its names filled in
pub joins_due :
    (s : Lent) (v n f : ℕ) (spot : Spot → ℕ) (w : Own) {st pl σ ph l : ℕ} (ms : List ℕ) {c : Command} {d : Do}
    → words_of s v ≡ row st pl σ ph (get_or ms 0 0) (get_or ms 1 0) (get_or ms 2 0) l → (plain_names c ≡ true) ⊎ (followed s v n ≡ some f)
    → Joins v σ f ms c d → filled_in s v n spot w c ≡ command_due (asked v d) w
unfolding filled_in asked plain_names
joins_due s v n f spot w ms h u (joins_link a b) =
    rw (
      named_is s v n f ms h a (⊎_elim (λ p. inl (both_left _ _ p)) inr u),
      named_is s v n f ms h b (⊎_elim (λ p. inl (both_right _ _ p)) inr u),
    )
    refl
joins_due s v n f spot w ms h u (joins_hand a) = rw (named_is s v n f ms h a u) refl
joins_due s v n f spot w ms h u (joins_free a) = rw (named_is s v n f ms h a u) refl
joins_due s v n f spot w ms h u joins_yield = refl

-- and that of a newTd, whose scope is never a force's future
pub new_due :
    (s : Lent) (v n : ℕ) (spot : Spot → ℕ) (w : Own) {st pl σ ph l : ℕ} (ms : List ℕ) (b : Spot) (a : Name) {q : ℕ}
    → words_of s v ≡ row st pl σ ph (get_or ms 0 0) (get_or ms 1 0) (get_or ms 2 0) l → plain a ≡ true → spot b ≡ q
    → filled_in s v n spot w (new_td b a) ≡ command_due (NewTd v q (resolved v σ 0 ms a)) w
unfolding filled_in
new_due s v n spot w ms b a h u q = rw (named_is s v n 0 ms h a (inl u), q) refl

-- a vertex that is made has its row in the table, also after a command
pub row_within : (s : Lent) → sound s ≡ true → (c : single.Command) (v : ℕ) → v < s.made → v < vertex_rows (leaves c s).vertices
row_within s known c v lt = rw (vertex_words_of c s).0 (omega (arith, (sound_fits s known).vertices_fit))

-- a step by a command that is taken is a move
pub by_command :
    {p : Code} {Γ : Setting} {s : Lent} {S : State} {v : ℕ} {o : Outcome StepSaid} (c : single.Command) (w : Own) (e : Event) (S' : State)
    → Follows p Γ s S → o ≡ do_due s v (command_due c w) → Taken c s → Move S v e S' → Follows p Γ (with_own (leaves c s) v w) S'
    → Answers S v e (says c s) → (leaves c s).held ≤ s.held + links e → Followed p Γ s S v o
by_command {p} {Γ} {s} {S} {v} c w e S' F q taken move follows answers le =
    subst (λ (o : Outcome StepSaid). Followed p Γ s S v o) (sym (q ∙ called c s v w taken))
    (moved e S' move (count_follows follows) answers
    (record {
      steps_are = ap (λ (n : ℕ). n + 1) (steps_kept_of c s);
      held_le = le;
      vertex_length = length-stored (leaves c s).vertices v w ∙ (vertex_words_of c s).0;
      edge_length = (edge_words_of c s (sound_fits s F.sound_is).edges_fit).0;
    }))

module _ {p : Code} {Γ : Setting} {s : Lent} {S : State} (F : Follows p Γ s S) (v : ℕ) where
  -- own words are stored behind a command that left the row of its vertex; then these futures are open
  own_follows :
      {mid : Lent} (S' : State) (x : Control) (opens : ℕ → List (ℕ × Code)) (f : Own → Own) → Follows p Γ mid S'
      → v < vertex_rows mid.vertices → words_of mid v ≡ words_of s v → ((u : ℕ) → (u ≡ v → ⊥) → opens u ≡ S'.opens u)
      → Shows p Γ v (put_own (f (own_in (words_of s v))) (words_of s v)) (S'.scope v) (opens v) x
      → Follows p Γ (with_own mid v (f (own_of s v))) (with_opens (with_control S' (put S'.control v x)) opens)
  own_follows {mid} S' x opens f follows lt same others shown =
      opens_follow S' x opens follows (rowed_own mid v (f (own_of s v)) lt) others (rw (same, own_is s v) shown)

  -- a command that joins
  pub acts_follows :
      (c : Code) (d : Do) (ds : List Do) (a : Acting p Γ v (S.scope v) (S.opens v) (words_of s v) d ds c) (j : Joined p Γ s S v d)
      → v < s.made
      → Follows p Γ
      (with_own (leaves (asked v d) s) v (moved_on (row_for a.item) a.item.spot a.command a.φ s.made (own_of s v)))
      (with_control (done S v d) (put (done S v d).control v (resumed c d ds)))
  acts_follows c d ds a j lt =
      row_follows (done S v d) (resumed c d ds) j.follows
      (rowed_then j.turns (rowed_own (leaves (asked v d) s) v _ (row_within s F.sound_is (asked v d) v lt)))
      (rw (j.row_same, own_is s v, j.scope_same, j.opens_same) (a.shows s.made))

  -- the job's step
  pub performs_follows :
      (o n : ℕ) (r : Code) → words_of s v ≡ busy_row (job_at o n r) (S.scope v) [] (first_opened (S.opens v)) → v < vertex_rows s.vertices
      → Follows p Γ (with_own s v (moved_on (row_for (job_item Γ o n r)) (job_item Γ o n r).spot perform 0 s.made (own_of s v)))
      (with_control S (put S.control v (busy r [])))
  performs_follows o n r is_row lt =
      let i = job_item Γ o n r in
      own_follows S (busy r []) S.opens (moved_on (row_for i) i.spot perform 0 s.made) F lt refl (λ u ne. refl)
      (shows_busy
      (ap (advancing (row_for i) i.spot perform 0 s.made) is_row ∙ job_row Γ o n r (S.scope v) (first_opened (S.opens v)) s.made))

  -- a vertex more, with the scope σ and what the kid k says; then v is at x, and these futures are open
  pub makes_follows :
      (c : Code) (ms : List ℕ) (k : Kid) (m : Making Γ c ms k) (x made : Control) (σ : ℕ) (opens : ℕ → List (ℕ × Code))
      → Shows p Γ s.made (row NEW (start_of k.code) σ 0 0 0 0 (first_opened (S.opens v))) σ (S.opens v) made
      → ((u : ℕ) → (u ≡ v → ⊥) → opens u ≡ put S.opens S.count (S.opens v) u)
      → ((w : Words) → w ≡ busy_row c (S.scope v) (ms ++ (S.count ∷ [])) (first_opened (S.opens v)) → Shows p Γ v w (S.scope v) (opens v) x)
      → words_of s v ≡ busy_row c (S.scope v) ms (first_opened (S.opens v)) → v < s.made → Taken (NewTd v (start_of k.code) σ) s
      → Follows p Γ
      (with_own (leaves (NewTd v (start_of k.code) σ) s) v
      (moved_on (row_for m.item) m.item.spot (new_td m.spot_of k.name) (length ms) s.made (own_of s v)))
      (with_opens (with_control (grown S v made σ k.low k.high) (put (put S.control S.count made) v x)) opens)
  makes_follows c ms k m x made σ opens made_shown others shown is_row lt taken =
      own_follows (grown S v made σ k.low k.high) x opens on
      (new_done F v made (start_of k.code) σ k.low k.high
      (subst (λ (l : ℕ). Shows p Γ s.made (row NEW (start_of k.code) σ 0 0 0 0 l) σ (S.opens v) made) (sym (row_latest s v is_row)) made_shown)
      taken)
      (row_within s F.sound_is (NewTd v (start_of k.code) σ) v lt)
      (new_others s v (start_of k.code) σ v (omega arith))
      others
      (rw (put_other S.scope S.count σ v (omega (arith, lt, F.made_is)))
      (shown _
      (ap (λ (w : Words). put_own (on (own_in w)) w) is_row
      ∙ m.row_is (S.scope v) (first_opened (S.opens v)) s.made
      ∙ ap (λ (n : ℕ). busy_row c (S.scope v) (ms ++ (n ∷ [])) (first_opened (S.opens v))) F.made_is)))
    where
      on : Own → Own
      on = moved_on (row_for m.item) m.item.spot (new_td m.spot_of k.name) (length ms) s.made

-- newTd and stop hold no more edges than before
pub new_held : (s : Lent) (v q σ n : ℕ) → (leaves (NewTd v q σ) s).held ≤ s.held + n
unfolding with_vertex
new_held s v q σ n = omega arith

pub stop_held : (s : Lent) (v n : ℕ) → (leaves (Stop v) s).held ≤ s.held + n
unfolding stopped
stop_held s v n = omega (arith, kept_rows_le v s.edges s.held)
