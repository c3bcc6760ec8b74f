-- The scope of a vertex that is bound to it is new or released, so an edge may lead there: a vertex that yields waits too, but none that is
-- bound has it for its scope. A start keeps this because nothing settled leads to the vertex that starts; every other move is one of a vertex
-- that executes, and none that is bound has that one for its scope.
use Prim.Native.Nat.{ℕ}
use mathlib.Core.Path.{◌≡◌, refl, sym, ◌∙◌, ap, subst}
use mathlib.Core.Bool.{Bool, true, false}
use mathlib.Core.Logic.{⊎_elim}
use mathlib.Core.List.{List, [], ◌∷◌, ◌++◌}
use mathlib.Core.Option.{some, none-ne-some}
use native.Mathlib.Omega.{arith}
use Rattle.graph.proofs.TestLaws.{decide, equal?, true-false}
use Rattle.program.specs.Located.{Code, job_at}
use Rattle.machine.proofs.GhostMachine.Ghost.{Do, link, hand, free, yield, Control, draft, fresh, ready, busy, joining, over, Setting}
use Rattle.machine.proofs.GhostMachine.Ghost.{State, put, Kid, kids, resolved, resumed, among, with_control, with_edges, grown, dropped}
use Rattle.machine.proofs.GhostMachine.Ghost.{scope_for, todo_of, stirred, done, Event, Move, begins, performs, stops, makes, splits, acts}
use Rattle.machine.proofs.GhostMachine.Invariant.{In, tasks, tasks_of, code_of, is_item, is_draft, Settled, Drafts, Shape, Roads}
use Rattle.machine.proofs.GhostMachine.GhostLaws.{put_same, put_other, put_cases, put_keeps, clash, in_cases, in_none, in_empty, among_in}
use Rattle.machine.proofs.GhostMachine.GhostLaws.{Splits, async_1, finish_2, fork_3, fork_yields, future_2, force_1, makes_at, splits_at}
use Rattle.machine.proofs.GhostMachine.Beginning.{beginning}
use Rattle.machine.proofs.GhostMachine.RoadLaws.{busy_code, busy_draft, busy_below, code_resumed, draft_resumed, done_keeps}
use Rattle.machine.proofs.GhostMachine.SettledLaws.{task_stood, acts_keeps, acts_did}
use Rattle.machine.proofs.GhostMachine.SplitLaws.{item_split, Split, split_of, stirred_keeps}
use Rattle.machine.proofs.GhostMachine.ShapeMakes.{makes_item, splits_item}
use Rattle.machine.proofs.GhostMachine.Ways.{way_last, blocked, Bound, at_item, at_link, bound_way, bound_back, bound_same}

-- new or released
unfoldable pub asleep : Control → Bool
asleep (draft c) = true
asleep (fresh c) = true
asleep (ready c) = true
asleep (busy c ms) = false
asleep (joining c d ds) = false
asleep over = false

abbrev pub ScopesAsleep : State → Type 0
ScopesAsleep S = (u : ℕ) → Bound S u → asleep (S.control (S.scope u)) ≡ true

-- which vertices are awake
busy_awake : {x : Control} {c : Code} {ms : List ℕ} → x ≡ busy c ms → asleep x ≡ false
unfolding asleep
busy_awake q = ap asleep q

joining_awake : {x : Control} {c : Code} {d : Do} {ds : List Do} → x ≡ joining c d ds → asleep x ≡ false
unfolding asleep
joining_awake q = ap asleep q

-- v is awake, and the others are asleep as before: then it is enough that the scopes of those that are bound were asleep
kept :
    (S : State) {S' : State} (v : ℕ) → asleep (S.control v) ≡ false
    → ((w : ℕ) → (w ≡ v → ⊥) → asleep (S.control w) ≡ true → asleep (S'.control w) ≡ true)
    → ((u : ℕ) → Bound S' u → asleep (S.control (S'.scope u)) ≡ true) → ScopesAsleep S'
kept S {S'} v awake stays was u b =
    stays (S'.scope u) (λ e. true-false (was u b) (ap (λ (z : ℕ). asleep (S.control z)) e ∙ awake)) (was u b)

-- one that was bound, with the same scope
was_bound : {S : State} {u σ : ℕ} → ScopesAsleep S → σ ≡ S.scope u → Bound S u → asleep (S.control σ) ≡ true
was_bound {S} {u} h e b = ap (λ (z : ℕ). asleep (S.control z)) e ∙ h u b

-- one that is seen as before, and has no more to do
seen_bound :
    {S S' : State} {u : ℕ} → code_of (S'.control u) ≡ code_of (S.control u) → is_draft (S'.control u) ≡ is_draft (S.control u)
    → ((a b : ℕ) → In (link a b) (tasks_of S' u) → In (link a b) (tasks_of S u)) → S'.scope u ≡ S.scope u → Bound S' u → Bound S u
seen_bound code drafts less same = bound_back (λ k h i. at_item k (sym code ∙ h.0, h.1) (sym drafts ∙ i)) same less

-- one that is at an item
item_bound : {S : State} {v : ℕ} {c : Code} {ms : List ℕ} → S.control v ≡ busy c ms → is_item c ≡ true → Bound S v
item_bound {c = c} q item = at_item c (busy_code q, item) (busy_draft q)

-- a finished vertex and a draft are not bound
unbound :
    {S : State} {u : ℕ} {x : Control} → S.control u ≡ x → ((c : Code) → code_of x ≡ some c → is_draft x ≡ false → ⊥) → tasks x ≡ []
    → Bound S u → ⊥
unbound e none idle (at_item c h d) = none c (sym (ap code_of e) ∙ h.0) (sym (ap is_draft e) ∙ d)
unbound e none idle (at_link a i) = in_empty (ap tasks e ∙ idle) i

-- a start: a bound vertex with the scope v had a settled edge lead there
begins_kept :
    {S : State} {v : ℕ} {c : Code} → Shape S → Roads S → ScopesAsleep S → S.control v ≡ ready c → ((u : ℕ) → S.edge u v ≡ false)
    → ScopesAsleep (with_control S (put S.control v (busy c [])))
unfolding tasks code_of is_draft
begins_kept {S} {v} {c} sh rs h q none u b =
    ap asleep
    (put_other S.control v (busy c []) (S.scope u)
    (λ e.
    let (x, s, from) = way_last (bound_way rs was) in
    blocked sh rs v c q none x (subst (λ (z : ℕ). Settled S x z) e s)))
    ∙ h u was
  where
    same : {B : Type 0} (g : Control → B) → g (busy c []) ≡ g (ready c) → g (put S.control v (busy c []) u) ≡ g (S.control u)
    same g e = put_keeps g S.control v (busy c []) (e ∙ sym (ap g q)) u

    was : Bound S u
    was = seen_bound (same code_of refl) (same is_draft refl) (λ a b. subst (λ l. In (link a b) l) (same tasks refl)) refl b

-- a job: v had an item
performs_kept :
    {S : State} {v o n : ℕ} {r : Code} → ScopesAsleep S → S.control v ≡ busy (job_at o n r) []
    → ScopesAsleep (with_control S (put S.control v (busy r [])))
unfolding is_item
performs_kept {S} {v} {r = r} h q =
    kept S v (busy_awake q)
    (λ w ne l. ap asleep (put_other S.control v (busy r []) w ne) ∙ l)
    (λ u b.
    h u
    (⊎_elim
    (λ e. subst (λ (z : ℕ). Bound S z) (sym e) (item_bound q refl))
    (λ ne. bound_same (put_other S.control v (busy r []) u ne) refl b)
    (equal? u v)))

-- a stop
stops_kept :
    {S : State} {v : ℕ} {c : Code} {ms : List ℕ} → ScopesAsleep S → S.control v ≡ busy c ms
    → ScopesAsleep (with_edges (with_control S (put S.control v over)) (dropped S.edge v))
unfolding code_of tasks
stops_kept {S} {v} h q =
    kept S v (busy_awake q)
    (λ w ne l. ap asleep (put_other S.control v over w ne) ∙ l)
    (λ u b.
    h u
    (⊎_elim
    (λ e. absurd (unbound (ap (put S.control v over) e ∙ put_same S.control v over) (λ c h d. none-ne-some c h) refl b))
    (λ ne. bound_same (put_other S.control v over u ne) refl b)
    (equal? u v)))

-- a vertex that executes is no new one
not_new : {S : State} {v : ℕ} {c : Code} {ms : List ℕ} → Shape S → S.control v ≡ busy c ms → v ≡ S.count → ⊥
not_new {S} {v} sh q e = let lt = busy_below sh v q in absurd (omega arith)

-- a make that does not split: v is at an item, and the new vertex is a draft
makes_kept :
    {S : State} {v : ℕ} {c : Code} {ms : List ℕ} (k : Code) (ms' : List ℕ) (σ ρ φ : ℕ) → Shape S → ScopesAsleep S
    → S.control v ≡ busy c ms → is_item c ≡ true
    → ScopesAsleep (with_control (grown S v (draft k) σ ρ φ) (put (put S.control S.count (draft k)) v (busy c ms')))
unfolding asleep tasks is_draft
makes_kept {S} {v} {c} k ms' σ ρ φ sh h q item =
    kept S v (busy_awake q)
    (λ w ne l.
    ap asleep (put_other drafted v (busy c ms') w ne)
    ∙ put_cases (λ x. asleep x ≡ true) S.control S.count (draft k) w (λ e. refl) (λ n. l))
    (λ u b.
    ⊎_elim
    (λ e. was_bound h (old u (λ z. not_new sh q (sym e ∙ z))) (subst (λ (z : ℕ). Bound S z) (sym e) (item_bound q item)))
    (λ nv.
    let at = put_other drafted v (busy c ms') u nv in
    ⊎_elim
    (λ e. absurd (unbound (at ∙ ap drafted e ∙ put_same S.control S.count (draft k)) (λ c h d. clash d) refl b))
    (λ nc. was_bound h (old u nc) (bound_same (at ∙ put_other S.control S.count (draft k) u nc) (old u nc) b))
    (equal? u S.count))
    (equal? u v))
  where
    drafted : ℕ → Control
    drafted = put S.control S.count (draft k)

    old : (u : ℕ) → (u ≡ S.count → ⊥) → put S.scope S.count σ u ≡ S.scope u
    old = put_other S.scope S.count σ

-- at a split the new vertex has the scope of v, or the first that was made, a draft
new_scoped :
    (Γ : Setting) (S : State) (v : ℕ) {c : Code} {ms : List ℕ} {k : Kid} → Splits Γ.edition c ms k → Drafts S v ms ms (kids Γ c)
    → asleep (S.control (S.scope v)) ≡ true → asleep (S.control (scope_for S v ms k)) ≡ true
unfolding Drafts kids resolved asleep
new_scoped Γ S v async_1 d h = h
new_scoped Γ S v finish_2 d h = ap asleep d.0.is_draft
new_scoped Γ S v (fork_3 e) d h = h
new_scoped Γ S v (fork_yields e) d h = h
new_scoped Γ S v future_2 d h = ap asleep d.0.is_draft
new_scoped Γ S v force_1 d h = h

-- those that were made before have the scope of v
made_scoped :
    (Γ : Setting) (S : State) (v u : ℕ) {c : Code} {ms : List ℕ} {k : Kid} → Splits Γ.edition c ms k → Drafts S v ms ms (kids Γ c)
    → In u ms → S.scope u ≡ S.scope v
unfolding Drafts kids resolved
made_scoped Γ S v u async_1 d i = in_none i
made_scoped Γ S v u finish_2 d i = in_cases i (λ e. ap S.scope e ∙ d.0.scope_is) (λ j. in_none j)
made_scoped Γ S v u (fork_3 e) d i =
    in_cases i (λ e. ap S.scope e ∙ d.0.scope_is)
    (λ j. in_cases j (λ e. ap S.scope e ∙ d.1.0.scope_is) (λ l. in_none l))
made_scoped Γ S v u (fork_yields e) d i = in_cases i (λ e. ap S.scope e ∙ d.0.scope_is) (λ j. in_none j)
made_scoped Γ S v u future_2 d i = in_cases i (λ e. ap S.scope e ∙ d.0.scope_is) (λ j. in_none j)
made_scoped Γ S v u force_1 d i = in_none i

-- a split
splits_kept :
    {S : State} {v : ℕ} {c : Code} {ms : List ℕ} {k : Kid} → Shape S → ScopesAsleep S → S.control v ≡ busy c ms
    → Splits S.setting.edition c ms k → ScopesAsleep (item_split S v c ms k)
unfolding asleep
splits_kept {S} {v} {c} {ms} {k} sh h q item =
    kept S v (busy_awake q)
    (λ w ne l.
    ap asleep (put_other (put (stirred S.control ms) S.count (fresh k.code)) v _ w ne)
    ∙ put_cases (λ x. asleep x ≡ true) (stirred S.control ms) S.count (fresh k.code) w (λ e. refl)
    (λ n. stirred_keeps asleep (λ c. refl) S.control ms w ∙ l))
    (λ u b.
    ⊎_elim
    (λ e. was_bound h (old u (λ z. not_new sh q (sym e ∙ z))) (subst (λ (z : ℕ). Bound S z) (sym e) (item_bound q (splits_item item))))
    (λ nv.
    ⊎_elim
    (λ e.
    ap (λ (z : ℕ). asleep (S.control z)) (ap (item_split S v c ms k).scope e ∙ D.new_scope)
    ∙ new_scoped S.setting S v item drafts scoped)
    (λ nc.
    ⊎_elim
    (λ m.
    ap (λ (z : ℕ). asleep (S.control z)) (old u nc ∙ made_scoped S.setting S v u item drafts (among_in u ms m))
    ∙ scoped)
    (λ m. was_bound h (old u nc) (bound_same (D.same u nv nc m) (old u nc) b))
    (decide (among u ms)))
    (equal? u S.count))
    (equal? u v))
  where
    D : Split S (item_split S v c ms k) v c ms (todo_of S v (ms ++ (S.count ∷ [])) c) (scope_for S v ms k)
    D = split_of k (todo_of S v (ms ++ (S.count ∷ [])) c) sh q refl

    drafts : Drafts S v ms ms (kids S.setting c)
    drafts = (sh.under_way v c ms q).0

    scoped : asleep (S.control (S.scope v)) ≡ true
    scoped = h v (item_bound q (splits_item item))

    old : (u : ℕ) → (u ≡ S.count → ⊥) → (item_split S v c ms k).scope u ≡ S.scope u
    old u nc = D.same_scope u nc

-- a command that joins
acts_kept :
    {S : State} {v : ℕ} {c : Code} {d : Do} {ds : List Do} → Shape S → ScopesAsleep S → S.control v ≡ joining c d ds
    → ((u : ℕ) → (done S v d).scope u ≡ S.scope u)
    → ScopesAsleep (with_control (done S v d) (put (done S v d).control v (resumed c d ds)))
unfolding asleep code_of is_draft
acts_kept {S} {v} {c} {d} {ds} sh h q p =
    kept S v (joining_awake q)
    (λ w ne l.
    ap asleep (put_other (done S v d).control v (resumed c d ds) w ne) ∙ done_keeps asleep (λ c. refl) S v d w ∙ l)
    (λ u b.
    was_bound h (p u)
    (seen_bound (acts_keeps S v code_of (λ c. refl) (code_resumed c d ds) q u)
    (acts_keeps S v is_draft (λ c. refl) (draft_resumed c d ds) q u)
    (λ a b. task_stood (acts_did sh q) u)
    (p u)
    b))

done_scope : (S : State) (v : ℕ) (d : Do) (u : ℕ) → (done S v d).scope u ≡ S.scope u
unfolding done
done_scope S v (link a b) u = refl
done_scope S v (hand h) u = refl
done_scope S v (free m) u = refl
done_scope S v yield u = refl

-- Every move keeps it.
pub asleep_kept : {v : ℕ} {S S' : State} {e : Event} → Shape S → Roads S → ScopesAsleep S → Move S v e S' → ScopesAsleep S'
asleep_kept sh rs h (begins q none) = begins_kept sh rs h q none
asleep_kept sh rs h (performs q) = performs_kept h q
asleep_kept sh rs h (stops q) = stops_kept h q
asleep_kept {S = S} sh rs h (makes {c = c} {ms = ms} {k = k} q next) =
    makes_kept k.code (ms ++ (S.count ∷ [])) _ _ _ sh h q (makes_item (makes_at S.setting c ms next))
asleep_kept {S = S} sh rs h (splits {c = c} {ms = ms} q last) = splits_kept sh h q (splits_at S.setting c ms last)
asleep_kept {v = v} {S = S} sh rs h (acts {d = d} q) = acts_kept sh h q (done_scope S v d)

-- After loading, the scope is vertex 1, which is released.
pub asleep_beginning : (p : Code) (Γ : Setting) → ScopesAsleep (beginning p Γ)
unfolding asleep beginning
asleep_beginning p Γ u b = refl
