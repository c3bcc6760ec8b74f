-- Moves that make no vertex keep the shape: those that change v alone (a start, a job, a stop), and those that do what is left to do of an
-- item. A link and a transfer first take the command from v's list, and then change the edges, where a link from a finished vertex adds
-- none; a release also changes the vertex that is released; a vertex that yields has nothing left to do.
use Prim.Native.Nat.{ℕ, ◌<◌}
use mathlib.Core.Path.{◌≡◌, refl, sym, ◌∙◌, ap, subst}
use mathlib.Core.Bool.{Bool, true, false}
use mathlib.Core.Logic.{inl, inr, ⊎_elim}
use mathlib.Core.List.{List, [], ◌∷◌}
use native.Mathlib.Omega.{arith}
use borrow.Author.Tests.{eqb-true}
use Rattle.graph.proofs.TestLaws.{equal?, true-false, either_cases, both_left, both_right}
use Rattle.program.specs.Located.{Code, job_at}
use Rattle.machine.proofs.GhostMachine.Ghost.{Do, link, hand, free, yield, Control, draft, fresh, ready, busy, joining, over, State, put, onward, resumed}
use Rattle.machine.proofs.GhostMachine.Ghost.{freed, with_control, with_edges, handed, dropped, live, done}
use Rattle.machine.proofs.GhostMachine.Invariant.{In, here, later, Precedes, first, behind, Once, tasks, tasks_of, yields, is_new, is_draft, FreesOnly}
use Rattle.machine.proofs.GhostMachine.Invariant.{sits, is_item, Ordered, Forces, Fits, Shape}
use Rattle.machine.proofs.GhostMachine.GhostLaws.{put_same, put_other, put_cases, clash, apart, draft_new, fresh_new, ready_old, joining_old}
use Rattle.machine.proofs.GhostMachine.GhostLaws.{in_cases, in_none, in_empty, no_link, no_hand, tasks-onward, below, new_below, one_freer}
use Rattle.machine.proofs.GhostMachine.ShapeStep.{made_of, made_busy, none_made, onward_old, onward_made, Turn, itself, stays, rises, Same}
use Rattle.machine.proofs.GhostMachine.ShapeStep.{fits_none, fits_kept, shape_step, joined_old, one_linker, Fine, shape_edges}
use Rattle.machine.proofs.GhostMachine.RoadLaws.{joining-sits, linked_if, linked_if_cases}

-- a new vertex was the same before, where v does not come to be new
new_was :
    (f : ℕ → Control) (v : ℕ) (y : Control) (m : ℕ) {x : Control} → is_new y ≡ false → is_new x ≡ true → put f v y m ≡ x → f m ≡ x
new_was f v y m old new h =
    sym (put_other f v y m (λ e. true-false new (ap is_new (sym h ∙ ap (put f v y) e ∙ put_same f v y) ∙ old))) ∙ h

-- a vertex that has made none has no drafts
no_drafts :
    {S : State} {v m : ℕ} {k : Code} {A : Type 0} → Shape S → made_of (S.control v) ≡ [] → S.control m ≡ draft k → S.maker m ≡ v → A
no_drafts {S} {v} {m} {k} sh none h by =
    let (c, ms, b, i) = sh.drafts m k h in
    in_none (subst (λ ns. In m ns) (sym (made_busy b) ∙ ap (λ w. made_of (S.control w)) by ∙ none) i)

-- v alone moves, to y, and sits as before; no item of its own is under way before or afterwards, all that it had to release is still to be
-- released, and it hands its edges on as before
shape_turn :
    {S : State} {v : ℕ} (y : Control) → Shape S → v < S.count → is_new (S.control v) ≡ false → is_new y ≡ false
    → (sits (S.control v) ≡ true → sits y ≡ true) → made_of (S.control v) ≡ [] → made_of y ≡ []
    → ((m : ℕ) → In (free m) (tasks_of S v) → In (free m) (tasks y)) → ((h : ℕ) → In (hand h) (tasks y) → In (hand h) (tasks_of S v))
    → Fits S v (tasks y) → Shape (with_control S (put S.control v y))
shape_turn {S} {v} y sh lt old old' sat none none' frees hands fits =
    shape_step {v = v} sh
    (record {
      there = lt;
      starts = old;
      ends = ap is_new is_y ∙ old';
      counts = omega arith;
      turn = λ u. ⊎_elim (λ e. itself e) (λ n. stays n (λ h. h) (put_other S.control v y u n)) (equal? u v);
      edge_same = λ a b. refl;
      scope_same = λ u l. refl;
      maker_same = λ u l. refl;
      rank_same = λ u l n. refl;
      fin_same = λ u l. refl;
      opens_same = λ u l n. refl;
      setting_same = refl;
      own_sits = λ h. ap sits is_y ∙ sat h;
      own_hands = λ h i. inl (hands h (subst (λ x. In (hand h) (tasks x)) is_y i));
      own_item = λ c ms h. none_made S' v c (sym (made_busy (sym is_y ∙ h)) ∙ none');
      own_drafts = λ m k h by. no_drafts sh none (new_was S.control v y m old' (draft_new refl) h) by;
      own_freshes =
          λ m k h by.
          let i = subst (λ w. In (free m) (tasks_of S w)) by (sh.freshes m k (new_was S.control v y m old' (fresh_new refl) h)) in
          subst (λ x. In (free m) (tasks x)) (sym is_y) (frees m i);
      own_tasks = subst (λ x. Fits S' v (tasks x)) (sym is_y) (fits_kept fits same);
    })
  where
    S' : State
    S' = with_control S (put S.control v y)

    is_y : S'.control v ≡ y
    is_y = put_same S.control v y

    same : Same S S' v (tasks y)
    same =
        record {
          fresh = λ m i h. put_other S.control v y m (apart is_new S.control (fresh_new h) old) ∙ h;
          maker = λ m i. refl;
          scope = λ m i. refl;
          old = λ m i h. put_cases (λ x. is_new x ≡ false) S.control v y (S.scope m) (λ e. old') (λ n. h);
          own_scope = λ i. refl;
          link_edge = λ a b i h. h;
          hand_edge = λ h x i k. k;
          forces =
              λ a b f.
              record {
                there = f.there;
                sitting =
                    put_cases (λ x. sits x ≡ true) S.control v y a
                    (λ e. sat (ap (λ w. sits (S.control w)) (sym e) ∙ f.sitting))
                    (λ n. f.sitting);
                frees_it = f.frees_it;
                unhanded =
                    λ t.
                    put_cases (λ x. In (hand a) (tasks x) → ⊥) S.control v y t (λ e i. f.unhanded v (hands a i)) (λ n. f.unhanded t);
              };
        }

-- of two that stand one before the other, the first stands at the head, or both stand behind it
before_cases :
    {A P : Type 0} {x y z : A} {zs : List A} → Precedes x y (z ∷ zs) → (x ≡ z → In y zs → P) → (Precedes x y zs → P) → P
before_cases (first i) f g = f refl i
before_cases (behind b) f g = g b

-- a vertex at a command has all that the list says left to do
joining_fits : {S : State} {v : ℕ} {c : Code} {d : Do} {ds : List Do} → Shape S → S.control v ≡ joining c d ds → Fits S v (d ∷ ds)
unfolding tasks
joining_fits {S} {v} sh h = subst (λ x. Fits S v (tasks x)) h (sh.todo_fits v)

-- and nothing else
joining-tasks : {x : Control} {c : Code} {d : Do} {ds : List Do} → x ≡ joining c d ds → tasks x ≡ d ∷ ds
unfolding tasks
joining-tasks h = cc

-- its item is split
joining_made : {x : Control} {c : Code} {d : Do} {ds : List Do} → x ≡ joining c d ds → made_of x ≡ []
unfolding made_of
joining_made h = cc

-- and it is there
joining_below : {S : State} {v : ℕ} {c : Code} {d : Do} {ds : List Do} → Shape S → S.control v ≡ joining c d ds → v < S.count
joining_below {v = v} sh h = below sh v (λ o. clash cc)

-- behind a link or a transfer, what is left to do is in order
ordered_rest : (d : Do) (ds : List Do) → ((m : ℕ) → free m ≡ d → ⊥) → Ordered (d ∷ ds) → Ordered ds
unfolding Ordered
ordered_rest (link a b) ds no_free o = o
ordered_rest (hand h) ds no_free o = o
ordered_rest (free m) ds no_free o = absurd (no_free m refl)
ordered_rest yield ds no_free o = subst Ordered (sym o) tt

-- and can be done as before
fits_rest :
    {S : State} {t : ℕ} {d : Do} {ds : List Do} → ((m : ℕ) → free m ≡ d → ⊥) → yields (d ∷ ds) ≡ yields ds → Fits S t (d ∷ ds)
    → Fits S t ds
unfolding Once
fits_rest {S} {t} {d} {ds} no_free no_yield f =
    record {
      ordered = ordered_rest d ds no_free f.ordered;
      once = f.once.1;
      frees = λ m i. f.frees m (later i);
      free_scope =
          λ m i.
          ⊎_elim
          (λ h. inl h)
          (λ b. before_cases b (λ e k. absurd (no_free _ e)) (λ k. inr k))
          (f.free_scope m (later i));
      link_from = λ a b i. ⊎_elim (λ k. inl (rest k)) (λ k. inr (rest_forces k)) (f.link_from a b (later i));
      link_to =
          λ a b i.
          ⊎_elim (λ k. inl (rest k)) (λ r. inr (⊎_elim (λ e. inl e) (λ y. inr (y.0, sym no_yield ∙ y.1)) r)) (f.link_to a b (later i));
      link_new = λ a b i. f.link_new a b (later i);
      hand_to = λ h i. rest (f.hand_to h (later i));
      hand_new = λ h x i. f.hand_new h x (later i);
      hand_apart = λ h b i j. f.hand_apart h b (later i) (later j);
      hand_one = λ h h' i j. f.hand_one h h' (later i) (later j);
    }
  where
    rest : {m : ℕ} → In (free m) (d ∷ ds) → In (free m) ds
    rest {m} i = in_cases i (λ e. absurd (no_free m e)) (λ k. k)

    rest_forces : {a b : ℕ} → Forces S a b (d ∷ ds) → Forces S a b ds
    rest_forces k =
        record { there = k.there; sitting = k.sitting; frees_it = rest k.frees_it; unhanded = k.unhanded }

-- a link or a transfer is taken from v's list
shape_rest :
    {S : State} {v : ℕ} {c : Code} {d : Do} {ds : List Do} → ((m : ℕ) → free m ≡ d → ⊥) → yields (d ∷ ds) ≡ yields ds → Shape S
    → S.control v ≡ joining c d ds → Shape (with_control S (put S.control v (onward c ds)))
shape_rest {S} {v} {c} {d} {ds} no_free no_yield sh h =
    shape_turn (onward c ds) sh (joining_below sh h) (joining_old h) (onward_old c ds) (λ z. true-false z (joining-sits h))
    (joining_made h) (onward_made c ds)
    (λ m i.
    in_cases (subst (λ es. In (free m) es) (joining-tasks h) i)
    (λ e. absurd (no_free m e))
    (λ k. subst (λ es. In (free m) es) (sym (tasks-onward c ds)) k))
    (λ m i. subst (λ es. In (hand m) es) (sym (joining-tasks h)) (later (subst (λ es. In (hand m) es) (tasks-onward c ds) i)))
    (subst (λ es. Fits S v es) (sym (tasks-onward c ds)) (fits_rest no_free no_yield (joining_fits sh h)))

-- what each vertex has left to do then
tasks_rest :
    {P : Type 0} {e : Do} (f : ℕ → Control) (v : ℕ) (c : Code) (ds : List Do) (t : ℕ) → In e (tasks (put f v (onward c ds) t))
    → (t ≡ v → In e ds → P) → ((t ≡ v → ⊥) → In e (tasks (f t)) → P) → P
tasks_rest {P} {e} f v c ds t i own other =
    put_cases (λ x. In e (tasks x) → P) f v (onward c ds) t
    (λ q j. own q (subst (λ es. In e es) (tasks-onward c ds) j))
    (λ n j. other n j)
    i

-- a draft is new
old_no_draft : (x : Control) → is_new x ≡ false → is_draft x ≡ false
unfolding is_new is_draft
old_no_draft (draft c) h = h
old_no_draft (fresh c) h = refl
old_no_draft (ready c) h = refl
old_no_draft (busy c ms) h = refl
old_no_draft (joining c d ds) h = refl
old_no_draft over h = refl

-- and not fresh
fresh_no_draft : {x : Control} {c : Code} → x ≡ fresh c → is_draft x ≡ false
unfolding is_draft
fresh_no_draft h = cc

-- and no edge leads to one
target_no_draft : {S : State} → Shape S → (a b : ℕ) → S.edge a b ≡ true → is_draft (S.control b) ≡ false
unfolding is_draft
target_no_draft {S} sh a b h = go (S.control b) refl
  where
    go : (x : Control) → S.control b ≡ x → is_draft x ≡ false
    go (draft c) e = true-false h (sh.draft_bare b a c e).0
    go (fresh c) e = refl
    go (ready c) e = refl
    go (busy c ms) e = refl
    go (joining c d ds) e = refl
    go over e = refl

-- nor is one that sits
sits_no_draft : (x : Control) → sits x ≡ true → is_draft x ≡ false
unfolding sits is_draft
sits_no_draft (draft c) h = clash (sym h)
sits_no_draft (fresh c) h = refl
sits_no_draft (ready c) h = refl
sits_no_draft (busy c ms) h = refl
sits_no_draft (joining c d ds) h = refl
sits_no_draft over h = refl

-- v may add an edge that it does not add again, and no other vertex adds, where none hands its edges on to the source
fine_rest :
    (S : State) (v : ℕ) (c : Code) (ds : List Do) (a b : ℕ) → (a < S.count) × (is_draft (S.control a) ≡ false)
    → (b < S.count) × (is_draft (S.control b) ≡ false) → (In (link a b) ds → ⊥) → (In (hand a) ds → ⊥)
    → ((t : ℕ) → In (link a b) (tasks_of S t) → t ≡ v) → ((t : ℕ) → In (hand a) (tasks_of S t) → t ≡ v)
    → Fine (with_control S (put S.control v (onward c ds))) a b
fine_rest S v c ds a b from to unlinks unhands links hands =
    record {
      from_there = from.0;
      to_there = to.0;
      from_kept = still a from.1;
      to_kept = still b to.1;
      unlinked = λ t j. tasks_rest S.control v c ds t j (λ e k. unlinks k) (λ ne k. ne (links t k));
      unhanded = λ t j. tasks_rest S.control v c ds t j (λ e k. unhands k) (λ ne k. ne (hands t k));
    }
  where
    still : (u : ℕ) → is_draft (S.control u) ≡ false → is_draft (put S.control v (onward c ds) u) ≡ false
    still u k = put_cases (λ x. is_draft x ≡ false) S.control v (onward c ds) u (λ e. old_no_draft _ (onward_old c ds)) (λ n. k)

-- a vertex that v has yet to release is there, and is no draft
freed_there :
    {S : State} {v a : ℕ} {ds : List Do} → Shape S → Fits S v ds → In (free a) ds
    → (a < S.count) × (is_draft (S.control a) ≡ false)
freed_there {a = a} sh f i = let z = (f.frees a i).0.1 in (new_below sh a (fresh_new z), fresh_no_draft z)

-- what a vertex is still to be linked to is there, and is no draft
link_target :
    {S : State} {v : ℕ} {c : Code} {a b : ℕ} {ds : List Do} → Shape S → S.control v ≡ joining c (link a b) ds
    → (b < S.count) × (is_draft (S.control b) ≡ false)
link_target {S} {v} {a = a} {b = b} sh h =
    ⊎_elim
    (λ i. freed_there sh (joining_fits sh h) i)
    (λ to. (
      ⊎_elim
          (λ e. subst (λ w. w < S.count) (sym e) (sh.scope_within v (joining_below sh h)))
          (λ e. subst (λ w. w < S.count) (sym e.0) (joining_below sh h))
          to,
      old_no_draft _ (joined_old sh v b (subst (λ es. In (link a b) es) (sym (joining-tasks h)) here) to),
    ))
    ((joining_fits sh h).link_to _ b here)

-- nor is its source; and who hands edges on to the source is v itself
link_source :
    {S : State} {v : ℕ} {c : Code} {a b : ℕ} {ds : List Do} → Shape S → S.control v ≡ joining c (link a b) ds
    → ((a < S.count) × (is_draft (S.control a) ≡ false)) × ((t : ℕ) → In (hand a) (tasks_of S t) → t ≡ v)
link_source {S} {v} {a = a} {b} {ds} sh h =
    ⊎_elim
    (λ i. (
      freed_there sh (joining_fits sh h) i,
      λ t k. one_freer sh a t v ((sh.todo_fits t).hand_to a k) (subst (λ es. In (free a) es) (sym (joining-tasks h)) i),
    ))
    (λ f. ((f.there, sits_no_draft _ f.sitting), λ t k. absurd (f.unhanded t k)))
    ((joining_fits sh h).link_from a b here)

-- a link, which adds an edge or none
shape_link :
    {S : State} {v : ℕ} {c : Code} (a b : ℕ) {ds : List Do} (live : Bool) → Shape S → S.control v ≡ joining c (link a b) ds
    → Shape (with_edges (with_control S (put S.control v (onward c ds))) (linked_if live S.edge a b))
unfolding Once yields
shape_link {S} {v} {c} a b {ds} live sh h =
    shape_edges (linked_if live S.edge a b) (shape_rest (λ m e. clash cc) refl sh h)
    (λ x y p.
    linked_if_cases live S.edge a b x y p
    (λ q. inl q)
    (λ is at_a at_b. inr (subst (λ w. Fine S' w y) (sym at_a) (subst (λ w. Fine S' a w) (sym at_b) fine))))
  where
    S' : State
    S' = with_control S (put S.control v (onward c ds))

    fits : Fits S v (link a b ∷ ds)
    fits = joining_fits sh h

    fine : Fine S' a b
    fine =
        fine_rest S v c ds a b (link_source sh h).0 (link_target sh h)
        (λ i. fits.once.0 i)
        (λ i. fits.hand_apart a b (later i) here)
        (λ t k. one_linker sh a b t v k (subst (λ es. In (link a b) es) (sym (joining-tasks h)) here))
        (link_source sh h).1

-- a transfer
shape_hand :
    {S : State} {v : ℕ} {c : Code} (h : ℕ) {ds : List Do} → Shape S → S.control v ≡ joining c (hand h) ds
    → Shape (with_edges (with_control S (put S.control v (onward c ds))) (handed S.edge v h))
unfolding Once yields
shape_hand {S} {v} {c} h {ds} sh k =
    shape_edges (handed S.edge v h) (shape_rest (λ m e. clash cc) refl sh k)
    (λ x y p.
    ⊎_elim
    (λ q. inl (both_left _ _ q))
    (λ q. inr (subst (λ w. Fine S' w y) (sym (eqb-true x h (both_left _ _ q))) (fine y (both_right _ _ q))))
    (either_cases _ _ p))
  where
    S' : State
    S' = with_control S (put S.control v (onward c ds))

    fits : Fits S v (hand h ∷ ds)
    fits = joining_fits sh k

    at_v : {d : Do} → In d (hand h ∷ ds) → In d (tasks_of S v)
    at_v {d} i = subst (λ es. In d es) (sym (joining-tasks k)) i

    releases : (t : ℕ) → In (free h) (tasks_of S t) → t ≡ v
    releases t i = one_freer sh h t v i (at_v (fits.hand_to h here))

    fine : (y : ℕ) → S.edge v y ≡ true → Fine S' h y
    fine y e =
        fine_rest S v c ds h y (freed_there sh fits (fits.hand_to h here)) ((sh.within v y e).1, target_no_draft sh v y e)
        (λ i. fits.hand_apart h y here (later i))
        (λ i. fits.once.0 i)
        (λ t i. ⊎_elim (releases t) (λ f. absurd (f.unhanded v (at_v here))) ((sh.todo_fits t).link_from h y i))
        (λ t i. releases t ((sh.todo_fits t).hand_to h i))

-- the scope of a vertex that is released now is not new
release_scope :
    {S : State} {t m : ℕ} {ds : List Do} → Fits S t (free m ∷ ds) → is_new (S.control (S.scope m)) ≡ false
unfolding Once
release_scope {m = m} f =
    ⊎_elim
    (λ h. h)
    (λ b. before_cases b (λ e i. absurd (f.once.0 i)) (λ k. absurd (f.once.0 (before_last k))))
    (f.free_scope m here)
  where
    before_last : {A : Type 0} {x y : A} {xs : List A} → Precedes x y xs → In y xs
    before_last (first i) = later i
    before_last (behind b) = later (before_last b)

-- behind a release come releases only, and a yield at the end
ordered_free : (ds : List Do) → FreesOnly ds → Ordered ds
unfolding FreesOnly Ordered
ordered_free [] o = o
ordered_free (link a b ∷ ds) o = absurd o
ordered_free (hand h ∷ ds) o = absurd o
ordered_free (free m ∷ ds) o = o
ordered_free (yield ∷ ds) o = o

-- what is left behind a release
frees_only : {S : State} {t m : ℕ} {ds : List Do} → Fits S t (free m ∷ ds) → FreesOnly ds
unfolding Ordered
frees_only f = f.ordered

-- a release leaves the others to be done
fits_free :
    {S : State} (f : ℕ → Control) {t m : ℕ} {ds : List Do} → Fits S t (free m ∷ ds)
    → ((u : ℕ) (k : Code) → (u ≡ m → ⊥) → S.control u ≡ fresh k → f u ≡ fresh k)
    → ((u : ℕ) → is_new (S.control u) ≡ false → is_new (f u) ≡ false) → is_new (f m) ≡ false → Fits (with_control S f) t ds
unfolding Once
fits_free {S} f {t} {m} {ds} fits same old now =
    record {
      ordered = ordered_free ds only;
      once = fits.once.1;
      frees =
          λ u i.
          let ((k, h), by) = fits.frees u (later i) in
          ((k, same u k (λ e. fits.once.0 (subst (λ w. In (free w) ds) e i)) h), by);
      free_scope =
          λ u i.
          ⊎_elim
          (λ h. inl (old (S.scope u) h))
          (λ b.
          before_cases b
          (λ e k. let at : S.scope u ≡ m = cc in inl (ap (λ w. is_new (f w)) at ∙ now))
          (λ k. inr k))
          (fits.free_scope u (later i));
      link_from = λ a b i. absurd (no_link ds only i);
      link_to = λ a b i. absurd (no_link ds only i);
      link_new = λ a b i. absurd (no_link ds only i);
      hand_to = λ h i. absurd (no_hand ds only i);
      hand_new = λ h x i. absurd (no_hand ds only i);
      hand_apart = λ h b i j. absurd (no_hand ds only i);
      hand_one = λ h h' i j. absurd (no_hand ds only i);
    }
  where
    only : FreesOnly ds
    only = frees_only fits

-- a release of a vertex that has the code k
shape_release :
    {S : State} {v : ℕ} {c : Code} (m : ℕ) (k : Code) {ds : List Do} → Shape S → S.control v ≡ joining c (free m) ds
    → S.control m ≡ fresh k → Shape (with_control S (put (put S.control m (ready k)) v (onward c ds)))
shape_release {S} {v} {c} m k {ds} sh h is_fresh =
    shape_step {v = v} sh
    (record {
      there = joining_below sh h;
      starts = joining_old h;
      ends = ap is_new is_y ∙ onward_old c ds;
      counts = omega arith;
      turn =
          λ u.
          ⊎_elim
          (λ e. itself e)
          (λ n. ⊎_elim (λ e. released u e) (λ ne. stays n (λ l. l) (other u n ne)) (equal? u m))
          (equal? u v);
      edge_same = λ a b. refl;
      scope_same = λ u l. refl;
      maker_same = λ u l. refl;
      rank_same = λ u l n. refl;
      fin_same = λ u l. refl;
      opens_same = λ u l n. refl;
      setting_same = refl;
      own_sits = λ z. true-false z (joining-sits h);
      own_hands =
          λ u i.
          inl (subst (λ es. In (hand u) es) (sym (joining-tasks h)) (later (subst (λ es. In (hand u) es) rest_is i)));
      own_item = λ c' ms b. none_made S' v c' (sym (made_busy (sym is_y ∙ b)) ∙ onward_made c ds);
      own_drafts = λ u k' d by. no_drafts sh (joining_made h) (was u (draft_new refl) d) by;
      own_freshes =
          λ u k' f by.
          let i = subst (λ w. In (free u) (tasks_of S w)) by (sh.freshes u k' (was u (fresh_new refl) f)) in
          subst (λ es. In (free u) es) (sym rest_is)
          (in_cases (subst (λ es. In (free u) es) (joining-tasks h) i)
          (λ e. let at : u ≡ m = cc in clash (cc is_ready))
          (λ j. j));
      own_tasks = subst (λ es. Fits S' v es) (sym rest_is) (fits_free S'.control fits same old (ready_old is_ready));
    })
  where
    mid : ℕ → Control
    mid = put S.control m (ready k)

    S' : State
    S' = with_control S (put mid v (onward c ds))

    is_y : S'.control v ≡ onward c ds
    is_y = put_same mid v (onward c ds)

    rest_is : tasks_of S' v ≡ ds
    rest_is = ap tasks is_y ∙ tasks-onward c ds

    fits : Fits S v (free m ∷ ds)
    fits = joining_fits sh h

    not_v : {u : ℕ} {x : Code} → S.control u ≡ fresh x → u ≡ v → ⊥
    not_v f = apart is_new S.control (fresh_new f) (joining_old h)

    other : (u : ℕ) → (u ≡ v → ⊥) → (u ≡ m → ⊥) → S'.control u ≡ S.control u
    other u n ne = put_other mid v (onward c ds) u n ∙ put_other S.control m (ready k) u ne

    is_ready : S'.control m ≡ ready k
    is_ready = put_other mid v (onward c ds) m (not_v is_fresh) ∙ put_same S.control m (ready k)

    released : (u : ℕ) → u ≡ m → Turn S S' v u
    released u e =
        subst (λ w. Turn S S' v w) (sym e) (rises k (fits.frees m here).1 is_fresh is_ready (release_scope fits))

    was : (u : ℕ) {x : Control} → is_new x ≡ true → S'.control u ≡ x → S.control u ≡ x
    was u n e = new_was S.control m (ready k) u (ready_old refl) n (new_was mid v (onward c ds) u (onward_old c ds) n e)

    same : (u : ℕ) (x : Code) → (u ≡ m → ⊥) → S.control u ≡ fresh x → S'.control u ≡ fresh x
    same u x ne f = other u (not_v f) ne ∙ f

    old : (u : ℕ) → is_new (S.control u) ≡ false → is_new (S'.control u) ≡ false
    old u o =
        put_cases (λ x. is_new x ≡ false) mid v (onward c ds) u (λ e. onward_old c ds)
        (λ n. put_cases (λ x. is_new x ≡ false) S.control m (ready k) u (λ e. ready_old refl) (λ ne. o))

-- a release
shape_free :
    {S : State} {v : ℕ} {c : Code} (m : ℕ) {ds : List Do} → Shape S → S.control v ≡ joining c (free m) ds
    → Shape (with_control S (put (put S.control m (freed (S.control m))) v (onward c ds)))
unfolding freed
shape_free {S} {v} {c} m {ds} sh h =
    let (k, f) = ((joining_fits sh h).frees m here).0 in
    subst (λ x. Shape (with_control S (put (put S.control m (freed x)) v (onward c ds)))) (sym f) (shape_release m k sh h f)

-- a yield, which is the last
shape_yields :
    {S : State} {v : ℕ} {c : Code} {ds : List Do} → Shape S → S.control v ≡ joining c yield ds
    → Shape (with_control S (put S.control v (ready c)))
unfolding tasks made_of Ordered
shape_yields {S} {v} {c} {ds} sh h =
    shape_turn (ready c) sh (joining_below sh h) (joining_old h) (ready_old refl) (λ z. true-false z (joining-sits h)) (joining_made h) refl
    (λ m i. in_cases (subst (λ es. In (free m) es) (joining-tasks h) i) (λ e. clash cc) (λ k. in_empty (joining_fits sh h).ordered k))
    (λ m i. in_none i)
    (fits_none S v)

-- what is left to do of an item is done
pub shape_acts :
    {S : State} {v : ℕ} {c : Code} (d : Do) {ds : List Do} → Shape S → S.control v ≡ joining c d ds
    → Shape (with_control (done S v d) (put (done S v d).control v (resumed c d ds)))
unfolding done resumed
shape_acts {S} (link a b) sh h = shape_link a b (live (S.control a)) sh h
shape_acts (hand h) sh k = shape_hand h sh k
shape_acts (free m) sh h = shape_free m sh h
shape_acts yield sh h = shape_yields sh h

-- a vertex that has nothing left to do of an item, and goes on
shape_plain :
    {S : State} {v : ℕ} (y : Control) → Shape S → v < S.count → is_new (S.control v) ≡ false → is_new y ≡ false
    → (sits (S.control v) ≡ true → sits y ≡ true) → made_of (S.control v) ≡ [] → made_of y ≡ [] → tasks_of S v ≡ [] → tasks y ≡ []
    → Shape (with_control S (put S.control v y))
shape_plain {S} {v} y sh lt old old' sat none none' idle idle' =
    shape_turn y sh lt old old' sat none none'
    (λ m i. subst (λ es. In (free m) es) (idle ∙ sym idle') i)
    (λ m i. subst (λ es. In (hand m) es) (idle' ∙ sym idle) i)
    (subst (λ es. Fits S v es) (idle ∙ sym idle') (sh.todo_fits v))

-- a start
pub shape_begins :
    {S : State} {v : ℕ} {c : Code} → Shape S → S.control v ≡ ready c
    → Shape (with_control S (put S.control v (busy c [])))
unfolding made_of tasks is_new sits
shape_begins {v = v} {c} sh h =
    shape_plain (busy c []) sh (below sh v (λ o. clash cc)) (cc) refl (λ z. cc z) (cc) refl (cc) refl

-- a job
pub shape_performs :
    {S : State} {v o n : ℕ} (r : Code) → Shape S → S.control v ≡ busy (job_at o n r) []
    → Shape (with_control S (put S.control v (busy r [])))
unfolding made_of tasks is_new sits is_item
shape_performs {v = v} r sh h =
    shape_plain (busy r []) sh (below sh v (λ o. clash cc)) (cc) refl (λ z. clash (cc z)) (cc) refl (cc) refl

-- a stop
pub shape_stops :
    {S : State} {v : ℕ} {c : Code} → Shape S → S.control v ≡ busy c []
    → Shape (with_edges (with_control S (put S.control v over)) (dropped S.edge v))
unfolding made_of tasks is_new sits
shape_stops {S} {v} sh h =
    shape_edges (dropped S.edge v)
    (shape_plain over sh (below sh v (λ o. clash cc)) (cc) refl (λ z. refl) (cc) refl (cc) refl)
    (λ a b p. inl (both_left _ _ p))
