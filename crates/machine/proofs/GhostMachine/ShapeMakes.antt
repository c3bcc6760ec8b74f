-- Moves that make a vertex keep the shape. A vertex is made behind all others, so no edge and no task names it. Where it is not its item's
-- last one, it is a draft like those before. With the last one the item is split: all of its vertices are fresh from then on, and what is
-- left to do of the item is known. This list is looked at for each kind of item. What it names are the item's vertices and the scope, and in
-- the second edition the forking vertex; a force's edge comes from the first vertex of its future, which is open (`Opened`).
use Prim.Native.Nat.{ℕ, ◌<◌}
use mathlib.Core.Path.{◌≡◌, refl, sym, ◌∙◌, ap, subst}
use mathlib.Core.Bool.{true, false}
use mathlib.Core.Logic.{◌⊎◌, inl, inr, ⊎_elim}
use mathlib.Core.List.{List, [], ◌∷◌, ◌++◌}
use native.Mathlib.Omega.{arith}
use Rattle.graph.proofs.TestLaws.{decide, equal?, true-false, not_so}
use Rattle.program.specs.declared.Edition.{Edition}
use Rattle.program.specs.Encodings.{own_scope, made_1}
use Rattle.program.specs.Located.{Code, force_at}
use Rattle.machine.proofs.GhostMachine.Ghost.{Do, link, hand, free, yield, Control, draft, fresh, busy, Setting, State, Kid, kid, put, kids, onward, goes}
use Rattle.machine.proofs.GhostMachine.Ghost.{todo, resolved, forced_by, woken, among, grown, with_control, with_opens, with_ranks, one_more}
use Rattle.machine.proofs.GhostMachine.Ghost.{split, stirred, scope_for, todo_of, behind_split}
use Rattle.machine.proofs.GhostMachine.Invariant.{In, here, later, Precedes, first, behind, Once, tasks, tasks_of, yields, is_item, is_new, sits, Draft}
use Rattle.machine.proofs.GhostMachine.Invariant.{Drafts, FreesOnly, Ordered, Forces, Fits, Shape, Opened}
use Rattle.machine.proofs.GhostMachine.GhostLaws.{put_same, put_other, put_cases, clash, apart, draft_new, fresh_new, busy_old, in_cases}
use Rattle.machine.proofs.GhostMachine.GhostLaws.{in_none, in_left, in_last, in_snoc, once_snoc, among_in, in_among, among_out, EachLink}
use Rattle.machine.proofs.GhostMachine.GhostLaws.{EachHand, EachFree, each_link, each_hand, each_free, tasks-onward, Makes, finish_1, fork_1}
use Rattle.machine.proofs.GhostMachine.GhostLaws.{fork_2, future_1, Splits, async_1, finish_2, fork_3, fork_yields, future_2, force_1, below, new_below}
use Rattle.machine.proofs.GhostMachine.GhostLaws.{draft_of, put_below, forced_open, todo_async, todo_finish, todo_fork, todo_fork_yields, todo_future, todo_force}
use Rattle.machine.proofs.GhostMachine.ShapeStep.{made_busy, none_made, fits_none, onward_old, onward_made, Turn, itself, stays, wakes, born, shape_step}
use Rattle.machine.proofs.GhostMachine.RoadLaws.{busy_below, draft-sits, busy-sits, forced_below}

-- a vertex of an item that has just been split
record Made (S : State) (t m : ℕ) : Type 0 where
  code : Code
  is_fresh : S.control m ≡ fresh code
  made_by : S.maker m ≡ t
  bare : (x : ℕ) → S.edge m x ≡ false

-- what is found in the list that a split leaves: of a release, of a link and of a transfer
abbrev ScopeFirst : State → List Do → ℕ → Type 0
ScopeFirst S ds m = (is_new (S.control (S.scope m)) ≡ false) ⊎ Precedes (free (S.scope m)) (free m) ds

abbrev Planned : State → ℕ → List Do → ℕ → ℕ → Type 0
Planned S t ds a b =
    (In (free a) ds ⊎ Forces S a b ds) × (In (free b) ds ⊎ ((b ≡ S.scope t) ⊎ ((b ≡ t) × (yields ds ≡ true)))) × (S.edge a b ≡ false)

abbrev Given : List Do → ℕ → Type 0
Given ds h = In (free h) ds × ((b : ℕ) → In (link h b) ds → ⊥) × ((h' : ℕ) → In (hand h') ds → h ≡ h')

-- such a list fits
fits_new :
    (S : State) (t : ℕ) (ds : List Do) → Ordered ds → Once ds → EachFree (Made S t) ds → EachFree (ScopeFirst S ds) ds
    → EachLink (Planned S t ds) ds → EachHand (Given ds) ds → Fits S t ds
fits_new S t ds ordered once made scopes plans gifts =
    record {
      ordered = ordered;
      once = once;
      frees = λ m i. (((kid i).code, (kid i).is_fresh), (kid i).made_by);
      free_scope = λ m i. each_free (ScopeFirst S ds) ds scopes i;
      link_from = λ a b i. (plan i).0;
      link_to = λ a b i. (plan i).1;
      link_new = λ a b i. (plan i).2;
      hand_to = λ h i. (gift i).0;
      hand_new = λ h x i. (kid (gift i).0).bare x;
      hand_apart = λ h b i j. (gift i).1 b j;
      hand_one = λ h h' i j. (gift i).2 h' j;
    }
  where
    kid : {m : ℕ} → In (free m) ds → Made S t m
    kid i = each_free (Made S t) ds made i

    plan : {a b : ℕ} → In (link a b) ds → Planned S t ds a b
    plan i = each_link (Planned S t ds) ds plans i

    gift : {h : ℕ} → In (hand h) ds → Given ds h
    gift i = each_hand (Given ds) ds gifts i

-- what an async has left to do when its vertex n is made
fits_async :
    {S : State} {t n : ℕ} → Made S t n → S.scope n ≡ S.scope t → is_new (S.control (S.scope t)) ≡ false
    → Fits S t (link n (S.scope t) ∷ free n ∷ [])
unfolding Ordered FreesOnly Once EachLink EachHand EachFree
fits_async {S} {t} {n} kid same old =
    fits_new S t (link n (S.scope t) ∷ free n ∷ []) tt
    ((λ i. each_link (λ a b. ⊥) (free n ∷ []) tt i), ((λ i. in_none i), tt))
    (kid, tt)
    (inl (ap (λ w. is_new (S.control w)) same ∙ old), tt)
    ((inl (later here), inr (inl refl), kid.bare (S.scope t)), tt)
    tt

-- what a finish has left to do when its vertices m and n are made
fits_finish :
    {S : State} {t m n : ℕ} → Made S t m → Made S t n → (m ≡ n → ⊥) → S.scope m ≡ S.scope t → S.scope n ≡ m
    → is_new (S.control (S.scope t)) ≡ false → Fits S t (link n m ∷ hand m ∷ free m ∷ free n ∷ [])
unfolding Ordered FreesOnly Once EachLink EachHand EachFree
fits_finish {S} {t} {m} {n} kid kid' ne same same' old =
    fits_new S t ds tt (
      (λ i. each_link (λ a b. ⊥) (hand m ∷ free m ∷ free n ∷ []) tt i),
      (
        (λ i. each_hand (λ h. ⊥) (free m ∷ free n ∷ []) tt i),
        ((λ i. each_free (λ w. m ≡ w → ⊥) (free n ∷ []) (ne, tt) i refl), ((λ i. in_none i), tt)),
      ),
    )
    (kid, (kid', tt)) (
      inl (ap (λ w. is_new (S.control w)) same ∙ old),
      (inr (subst (λ w. Precedes (free w) (free n) ds) (sym same') (behind (behind (first here)))), tt),
    )
    ((inl (later (later (later here))), inl (later (later here)), kid'.bare m), tt) (
      (
        later (later here),
        (λ b i. each_link (λ x y. m ≡ x → ⊥) ds (ne, tt) i refl),
        (λ h i. each_hand (λ w. m ≡ w) ds (refl, tt) i),
      ),
      tt,
    )
  where
    ds : List Do
    ds = link n m ∷ hand m ∷ free m ∷ free n ∷ []

-- what a fork has left to do when its vertices m, m' and n are made
fits_fork :
    {S : State} {t m m' n : ℕ} → Made S t m → Made S t m' → Made S t n → (m ≡ m' → ⊥) → (m ≡ n → ⊥) → (m' ≡ n → ⊥)
    → S.scope m ≡ S.scope t → S.scope m' ≡ S.scope t → S.scope n ≡ S.scope t → is_new (S.control (S.scope t)) ≡ false
    → Fits S t (link m n ∷ link m' n ∷ hand n ∷ free n ∷ free m ∷ free m' ∷ [])
unfolding Ordered FreesOnly Once EachLink EachHand EachFree
fits_fork {S} {t} {m} {m'} {n} kid kid' kid'' ne ne' ne'' same same' same'' old =
    fits_new S t ds tt (
      (λ i. each_link (λ a b. m ≡ a → ⊥) (link m' n ∷ hand n ∷ free n ∷ free m ∷ free m' ∷ []) (ne, tt) i refl),
      (
        (λ i. each_link (λ a b. ⊥) (hand n ∷ free n ∷ free m ∷ free m' ∷ []) tt i),
        (
          (λ i. each_hand (λ h. ⊥) (free n ∷ free m ∷ free m' ∷ []) tt i),
          (
            (λ i.
                each_free (λ w. n ≡ w → ⊥) (free m ∷ free m' ∷ []) ((λ e. ne' (sym e)), ((λ e. ne'' (sym e)), tt)) i refl),
            ((λ i. each_free (λ w. m ≡ w → ⊥) (free m' ∷ []) (ne, tt) i refl), ((λ i. in_none i), tt)),
          ),
        ),
      ),
    )
    (kid'', (kid, (kid', tt)))
    (scoped same'', (scoped same, (scoped same', tt))) (
      (inl (later (later (later (later here)))), to_n, kid.bare n),
      ((inl (later (later (later (later (later here))))), to_n, kid'.bare n), tt),
    ) (
      (
        later (later (later here)),
        (λ b i. each_link (λ x y. n ≡ x → ⊥) ds ((λ e. ne' (sym e)), ((λ e. ne'' (sym e)), tt)) i refl),
        (λ h i. each_hand (λ w. n ≡ w) ds (refl, tt) i),
      ),
      tt,
    )
  where
    ds : List Do
    ds = link m n ∷ link m' n ∷ hand n ∷ free n ∷ free m ∷ free m' ∷ []

    scoped : {u : ℕ} → S.scope u ≡ S.scope t → ScopeFirst S ds u
    scoped e = inl (ap (λ w. is_new (S.control w)) e ∙ old)

    to_n : In (free n) ds ⊎ ((n ≡ S.scope t) ⊎ ((n ≡ t) × (yields ds ≡ true)))
    to_n = inl (later (later (later here)))

-- the same in the second edition, where its vertices are m and n
fits_fork_yields :
    {S : State} {t m n : ℕ} → Made S t m → Made S t n → (m ≡ n → ⊥) → S.scope m ≡ S.scope t → S.scope n ≡ S.scope t
    → is_new (S.control (S.scope t)) ≡ false → Fits S t (link m t ∷ link n t ∷ free m ∷ free n ∷ yield ∷ [])
unfolding Ordered FreesOnly Once EachLink EachHand EachFree yields
fits_fork_yields {S} {t} {m} {n} kid kid' ne same same' old =
    fits_new S t ds refl (
      (λ i. each_link (λ a b. m ≡ a → ⊥) (link n t ∷ free m ∷ free n ∷ yield ∷ []) (ne, tt) i refl),
      (
        (λ i. each_link (λ a b. ⊥) (free m ∷ free n ∷ yield ∷ []) tt i),
        (
          (λ i. each_free (λ w. m ≡ w → ⊥) (free n ∷ yield ∷ []) (ne, tt) i refl),
          ((λ i. in_cases i (λ e. clash cc) (λ i. in_none i)), ((λ i. in_none i), tt)),
        ),
      ),
    )
    (kid, (kid', tt))
    (scoped same, (scoped same', tt))
    ((inl (later (later here)), inr (inr (refl, refl)), kid.bare t), ((inl (later (later (later here))), inr (inr (refl, refl)), kid'.bare t), tt))
    tt
  where
    ds : List Do
    ds = link m t ∷ link n t ∷ free m ∷ free n ∷ yield ∷ []

    scoped : {u : ℕ} → S.scope u ≡ S.scope t → ScopeFirst S ds u
    scoped e = inl (ap (λ w. is_new (S.control w)) e ∙ old)

-- what a future has left to do when its vertices m and n are made
fits_future :
    {S : State} {t m n : ℕ} → Made S t m → Made S t n → (m ≡ n → ⊥) → S.scope m ≡ S.scope t → S.scope n ≡ m
    → is_new (S.control (S.scope t)) ≡ false → Fits S t (link n m ∷ free m ∷ free n ∷ [])
unfolding Ordered FreesOnly Once EachLink EachHand EachFree
fits_future {S} {t} {m} {n} kid kid' ne same same' old =
    fits_new S t ds tt (
      (λ i. each_link (λ a b. ⊥) (free m ∷ free n ∷ []) tt i),
      ((λ i. each_free (λ w. m ≡ w → ⊥) (free n ∷ []) (ne, tt) i refl), ((λ i. in_none i), tt)),
    )
    (kid, (kid', tt)) (
      inl (ap (λ w. is_new (S.control w)) same ∙ old),
      (inr (subst (λ w. Precedes (free w) (free n) ds) (sym same') (behind (first here))), tt),
    )
    ((inl (later (later here)), inl (later here), kid'.bare m), tt)
    tt
  where
    ds : List Do
    ds = link n m ∷ free m ∷ free n ∷ []

-- what a force has left to do when its vertex n is made, where f is the first vertex of its future
fits_force :
    {S : State} {t f n : ℕ} → Made S t n → (n ≡ f → ⊥) → S.edge f n ≡ false → Forces S f n (link f n ∷ hand n ∷ free n ∷ [])
    → S.scope n ≡ S.scope t → is_new (S.control (S.scope t)) ≡ false → Fits S t (link f n ∷ hand n ∷ free n ∷ [])
unfolding Ordered FreesOnly Once EachLink EachHand EachFree
fits_force {S} {t} {f} {n} kid ne bare forced same old =
    fits_new S t ds tt (
      (λ i. each_link (λ a b. ⊥) (hand n ∷ free n ∷ []) tt i),
      ((λ i. each_hand (λ h. ⊥) (free n ∷ []) tt i), ((λ i. in_none i), tt)),
    )
    (kid, tt)
    (inl (ap (λ w. is_new (S.control w)) same ∙ old), tt)
    ((inr forced, inl (later (later here)), bare), tt) (
      (
        later (later here),
        (λ b i. each_link (λ x y. n ≡ x → ⊥) ds (ne, tt) i refl),
        (λ h i. each_hand (λ w. n ≡ w) ds (refl, tt) i),
      ),
      tt,
    )
  where
    ds : List Do
    ds = link f n ∷ hand n ∷ free n ∷ []

-- what v comes to
pub with_own : (S : State) (v : ℕ) (base : ℕ → Control) (kid x : Control) → put (put base S.count kid) v x v ≡ x
with_own S v base kid x = put_same (put base S.count kid) v x

-- the vertex that is made
pub with_kid :
    (S : State) (v : ℕ) (base : ℕ → Control) (kid x : Control) → v < S.count → put (put base S.count kid) v x S.count ≡ kid
with_kid S v base kid x lt =
    put_other (put base S.count kid) v x S.count (λ e. absurd (omega arith)) ∙ put_same base S.count kid

-- and the others
pub with_other :
    (S : State) (v : ℕ) (base : ℕ → Control) (kid x : Control) (u : ℕ) → (u ≡ v → ⊥) → (u ≡ S.count → ⊥)
    → put (put base S.count kid) v x u ≡ base u
with_other S v base kid x u n ne = put_other (put base S.count kid) v x u n ∙ put_other base S.count kid u ne

-- others stay as they are, but for drafts of v that become fresh
abbrev Stays : State → ℕ → (ℕ → Control) → ℕ → Type 0
Stays S v base u =
    (base u ≡ S.control u) ⊎ ((k : Code) × (S.maker u ≡ v) × (S.control u ≡ draft k) × (base u ≡ fresh k))

-- One vertex more, made by v, which is executing and comes to x; the others come to what `base` says.
module _
    (S : State) (v : ℕ) (base : ℕ → Control) (kid x : Control) (σ r f : ℕ) (opened : ℕ → List (ℕ × Code)) (ranks : ℕ → ℕ) (sh : Shape S)
    (lt : v < S.count) (was : is_new (S.control v) ≡ false) (stands : sits (S.control v) ≡ false) (old : is_new x ≡ false)
    (new : is_new kid ≡ true) (scope : σ < S.count) (same : (u : ℕ) → u < S.count → (u ≡ v → ⊥) → opened u ≡ S.opens u)
    (ranked : (u : ℕ) → u < S.count → (u ≡ v → ⊥) → ranks u ≡ S.rank u) (stay : (u : ℕ) → Stays S v base u)
  where
    abbrev with_state : State
    with_state = with_ranks (with_opens (with_control (grown S v kid σ r f) (put (put base S.count kid) v x)) opened) ranks

    is_own : with_state.control v ≡ x
    is_own = with_own S v base kid x

    is_kid : with_state.control S.count ≡ kid
    is_kid = with_kid S v base kid x lt

    is_other : (u : ℕ) → (u ≡ v → ⊥) → (u ≡ S.count → ⊥) → with_state.control u ≡ base u
    is_other = with_other S v base kid x

    -- what becomes of a vertex
    with_turn : (u : ℕ) → Turn S with_state v u
    with_turn u = ⊎_elim (λ e. itself e) (λ n. ⊎_elim (λ e. is_born e) (λ ne. is_old n ne) (equal? u S.count)) (equal? u v)
      where
        is_born : u ≡ S.count → Turn S with_state v u
        is_born e =
            subst (λ w. Turn S with_state v w) (sym e)
            (born refl (omega arith) (ap is_new is_kid ∙ new) (put_same S.maker S.count v)
            (omega (arith, put_same S.scope S.count σ)))

        is_old : (u ≡ v → ⊥) → (u ≡ S.count → ⊥) → Turn S with_state v u
        is_old n ne =
            ⊎_elim
            (λ e. stays n (λ l. omega arith) (is_other u n ne ∙ e))
            (λ w. wakes w.0 w.1 w.2 (is_other u n ne ∙ w.3))
            (stay u)

    -- a new vertex that v made: it is made now, or it was before
    abbrev Own : ℕ → Control → Type 0
    Own m y = ((m ≡ S.count) × (kid ≡ y)) ⊎ ((base m ≡ y) × (S.maker m ≡ v))

    with_new : (m : ℕ) {y : Control} → is_new y ≡ true → with_state.control m ≡ y → with_state.maker m ≡ v → Own m y
    with_new m n h by =
        ⊎_elim
        (λ e. inl (e, sym is_kid ∙ ap with_state.control (sym e) ∙ h))
        (λ ne.
        inr (
          sym (is_other m (λ e. true-false n (ap is_new (sym h ∙ ap with_state.control e ∙ is_own) ∙ old)) ne) ∙ h,
          sym (put_other S.maker S.count v m ne) ∙ by,
        ))
        (equal? m S.count)

    -- the shape is kept if that of v's own item is
    shape_with :
        ((c : Code) (ms : List ℕ) → x ≡ busy c ms → Drafts with_state v ms ms (kids S.setting c) × Once ms)
        → ((m : ℕ) (k : Code) → Own m (draft k) → (c : Code) × (ms : List ℕ) × (x ≡ busy c ms) × In m ms)
        → ((m : ℕ) (k : Code) → Own m (fresh k) → In (free m) (tasks x))
        → ((h : ℕ) → In (hand h) (tasks x) → h < S.count → sits (S.control h) ≡ true → ⊥) → Fits with_state v (tasks x) → Shape with_state
    shape_with items drafts freshes hands fits =
        shape_step {v = v} sh
        (record {
          there = lt;
          starts = was;
          ends = ap is_new is_own ∙ old;
          counts = omega arith;
          turn = with_turn;
          edge_same = λ a b. refl;
          scope_same = put_below S.scope S.count σ;
          maker_same = put_below S.maker S.count v;
          rank_same = ranked;
          fin_same = put_below S.fin S.count f;
          opens_same = same;
          setting_same = refl;
          own_sits = λ h. true-false h stands;
          own_hands = λ h i. inr (hands h (subst (λ y. In (hand h) (tasks y)) is_own i));
          own_item = λ c ms h. items c ms (sym is_own ∙ h);
          own_drafts =
              λ m k h by. let (c, ms, b, i) = drafts m k (with_new m (draft_new refl) h by) in (c, ms, is_own ∙ b, i);
          own_freshes =
              λ m k h by. subst (λ y. In (free m) (tasks y)) (sym is_own) (freshes m k (with_new m (fresh_new refl) h by));
          own_tasks = subst (λ y. Fits with_state v (tasks y)) (sym is_own) fits;
        })

-- what is known of the vertices of an item under way
pub under_way_draft :
    {S : State} {v m : ℕ} {c : Code} {ms : List ℕ} → Shape S → S.control v ≡ busy c ms → In m ms
    → (k : Kid) × Draft S v ms m k
under_way_draft {S} {v = v} {c = c} {ms} sh h i = draft_of ms (kids S.setting c) (sh.under_way v c ms h).0 i

-- they are there
under_way_below : {S : State} {v m : ℕ} {c : Code} {ms : List ℕ} → Shape S → S.control v ≡ busy c ms → In m ms → m < S.count
under_way_below {m = m} sh h i = let (k, d) = under_way_draft sh h i in new_below sh m (draft_new d.is_draft)

-- a draft that v made is one of them
own_draft :
    {S : State} {v m : ℕ} {c k : Code} {ms : List ℕ} → Shape S → S.control v ≡ busy c ms → S.control m ≡ draft k → S.maker m ≡ v
    → In m ms
own_draft {S} {v} {m} {c} {k} {ms} sh h d by =
    let (c', ms', b, i) = sh.drafts m k d in
    let b' : S.control v ≡ busy c' ms' = ap S.control (sym by) ∙ b in
    let same : ms' ≡ ms = cc in
    subst (λ ns. In m ns) same i

-- v has no fresh vertices while its item is under way
own_fresh :
    {A : Type 0} {S : State} {v m : ℕ} {c k : Code} {ms : List ℕ} → Shape S → S.control v ≡ busy c ms → S.control m ≡ fresh k
    → S.maker m ≡ v → A
unfolding tasks
own_fresh {S = S} {v} {m} {c} {k} {ms} sh h f by =
    in_none (subst (λ x. In (free m) (tasks x)) h (subst (λ w. In (free m) (tasks_of S w)) by (sh.freshes m k f)))

-- an item that makes vertices is an item
pub makes_item : {Γ : Setting} {c : Code} {ms : List ℕ} {k : Kid} → Makes Γ c ms k → is_item c ≡ true
unfolding is_item
makes_item finish_1 = refl
makes_item fork_1 = refl
makes_item (fork_2 e) = refl
makes_item future_1 = refl

pub splits_item : {ed : Edition} {c : Code} {ms : List ℕ} {k : Kid} → Splits ed c ms k → is_item c ≡ true
unfolding is_item
splits_item async_1 = refl
splits_item finish_2 = refl
splits_item (fork_3 e) = refl
splits_item (fork_yields e) = refl
splits_item future_2 = refl
splits_item force_1 = refl

-- the scope of a vertex that is made is there, where it is not the last one
pub makes_scope :
    {Γ : Setting} {v : ℕ} {S : State} {c : Code} {ms : List ℕ} {k : Kid} → Shape S → S.control v ≡ busy c ms → Makes Γ c ms k
    → scope_for S v ms k < S.count
unfolding resolved
makes_scope {v = v} sh h finish_1 = sh.scope_within v (busy_below sh v h)
makes_scope {v = v} sh h fork_1 = sh.scope_within v (busy_below sh v h)
makes_scope {v = v} sh h (fork_2 e) = sh.scope_within v (busy_below sh v h)
makes_scope {v = v} sh h future_1 = sh.scope_within v (busy_below sh v h)

-- and where it is
pub splits_scope :
    {ed : Edition} {v : ℕ} {S : State} {c : Code} {ms : List ℕ} {k : Kid} → Shape S → S.control v ≡ busy c ms → Splits ed c ms k
    → scope_for S v ms k < S.count
unfolding resolved
splits_scope {v = v} sh h async_1 = sh.scope_within v (busy_below sh v h)
splits_scope {v = v} sh h finish_2 = under_way_below sh h here
splits_scope {v = v} sh h (fork_3 e) = sh.scope_within v (busy_below sh v h)
splits_scope {v = v} sh h (fork_yields e) = sh.scope_within v (busy_below sh v h)
splits_scope {v = v} sh h future_2 = under_way_below sh h here
splits_scope {v = v} sh h force_1 = sh.scope_within v (busy_below sh v h)

-- the vertices of an item under way with one more
module _
    {S : State} {v : ℕ} {c : Code} {ms : List ℕ} (k : Kid) (sh : Shape S) (h : S.control v ≡ busy c ms)
  where
    abbrev more_state : State
    more_state = one_more S v ms (busy c (ms ++ (S.count ∷ []))) k

    lt : v < S.count
    lt = below sh v (λ o. clash cc)

    -- the scope that v's names stand for
    own_is : (all : List ℕ) → resolved v (S.scope v) 0 ms own_scope ≡ resolved v (more_state.scope v) 0 all own_scope
    unfolding resolved
    own_is all = sym (put_below S.scope S.count (scope_for S v ms k) v lt)

    -- the futures that are open at v
    opens_is : more_state.opens v ≡ S.opens v
    opens_is = put_below S.opens S.count (S.opens v) v lt

    draft_more : (all : List ℕ) → k.name ≡ own_scope → Draft more_state v all S.count k
    draft_more all own =
        record {
          is_draft = with_kid S v S.control (draft k.code) (busy c (ms ++ (S.count ∷ []))) lt;
          scope_is =
              put_same S.scope S.count (scope_for S v ms k)
              ∙ ap (resolved v (S.scope v) 0 ms) own
              ∙ own_is all
              ∙ ap (resolved v (more_state.scope v) 0 all) (sym own);
          rank_is = put_same S.rank S.count k.low;
          fin_is = put_same S.fin S.count k.high;
          made_by = put_same S.maker S.count v;
          opens_are = put_same S.opens S.count (S.opens v) ∙ sym opens_is;
        }

    draft_before : (all : List ℕ) {m : ℕ} {k' : Kid} → k'.name ≡ own_scope → Draft S v ms m k' → Draft more_state v all m k'
    draft_before all {m} own d =
        record {
          is_draft =
              with_other S v S.control (draft k.code) (busy c (ms ++ (S.count ∷ []))) m
              (apart is_new S.control (draft_new d.is_draft) (busy_old h))
              (λ e. absurd (omega (arith, lm)))
              ∙ d.is_draft;
          scope_is =
              put_below S.scope S.count (scope_for S v ms k) m lm
              ∙ d.scope_is
              ∙ ap (resolved v (S.scope v) 0 ms) own
              ∙ own_is all
              ∙ ap (resolved v (more_state.scope v) 0 all) (sym own);
          rank_is = put_below S.rank S.count k.low m lm ∙ d.rank_is;
          fin_is = put_below S.fin S.count k.high m lm ∙ d.fin_is;
          made_by = put_below S.maker S.count v m lm ∙ d.made_by;
          opens_are = put_below S.opens S.count (S.opens v) m lm ∙ d.opens_are ∙ sym opens_is;
        }
      where
        lm : m < S.count
        lm = new_below sh m (draft_new d.is_draft)

-- so all that the item has made are its drafts
makes_drafts :
    {S : State} {v : ℕ} {c : Code} {ms : List ℕ} {k : Kid} (sh : Shape S) (h : S.control v ≡ busy c ms) → Makes S.setting c ms k
    → Drafts (one_more S v ms (busy c (ms ++ (S.count ∷ []))) k) v (ms ++ (S.count ∷ [])) (ms ++ (S.count ∷ [])) (kids S.setting c)
unfolding Drafts kids
makes_drafts sh h finish_1 = (draft_more _ sh h _ refl, tt)
makes_drafts sh h fork_1 = (draft_more _ sh h _ refl, tt)
makes_drafts {v = v} sh h (fork_2 e) = (draft_before _ sh h _ refl (sh.under_way v _ _ h).0.0, (draft_more _ sh h _ refl, tt))
makes_drafts sh h future_1 = (draft_more _ sh h _ refl, tt)

-- A vertex is made that is not its item's last one.
pub shape_makes :
    {S : State} {v : ℕ} {c : Code} {ms : List ℕ} {k : Kid} → Shape S → S.control v ≡ busy c ms → Makes S.setting c ms k
    → Shape (one_more S v ms (busy c (ms ++ (S.count ∷ []))) k)
unfolding tasks
shape_makes {S} {v} {c} {ms} {k} sh h mk =
    shape_with S v S.control (draft k.code) (busy c ms') (scope_for S v ms k) k.low k.high S'.opens S'.rank sh
    (below sh v (λ o. clash cc)) (busy_old h) (busy-sits h (makes_item mk)) (busy_old refl) (draft_new refl) (makes_scope sh h mk)
    (λ u l n. put_below S.opens S.count (S.opens v) u l) (λ u l n. put_below S.rank S.count k.low u l) (λ u. inl refl)
    (λ c' ns e.
    let (same, same') : (c ≡ c') × (ms' ≡ ns) = (cc, cc) in
    subst (λ d. Drafts S' v ns ns (kids S.setting d) × Once ns) same
    (subst (λ ns. Drafts S' v ns ns (kids S.setting c) × Once ns) same' (makes_drafts sh h mk, once)))
    (λ m k'.
    ⊎_elim
    (λ n. (c, ms', refl, subst (λ w. In w ms') (sym n.0) (in_last S.count ms)))
    (λ d. (c, ms', refl, in_left (S.count ∷ []) (own_draft sh h d.0 d.1))))
    (λ m k'. ⊎_elim (λ n. let e = n.1 in clash cc) (λ f. own_fresh sh h f.0 f.1))
    (λ h i. in_none i)
    (fits_none S' v)
  where
    ms' : List ℕ
    ms' = ms ++ (S.count ∷ [])

    S' : State
    S' = one_more S v ms (busy c ms') k

    once : Once ms'
    once = once_snoc S.count ms (sh.under_way v c ms h).1 (λ i. absurd (omega (arith, under_way_below sh h i)))

-- a split releases all of its item's vertices
splits_frees :
    {ed : Edition} {c : Code} {ms : List ℕ} {k : Kid} {m : ℕ} (v σ f n : ℕ) → Splits ed c ms k → In m (ms ++ (n ∷ []))
    → In (free m) (todo ed v σ f (ms ++ (n ∷ [])) c)
splits_frees v σ f n (async_1 {o = o} {b = b} {r = r}) i =
    rw (todo_async _ o b r v σ f n) (in_cases i (λ e. rw e (later here)) (λ i. in_none i))
splits_frees v σ f n (finish_2 {o = o} {m = m} {b = b} {r = r}) i =
    rw (todo_finish _ o b r v σ f m n)
    (in_cases i (λ e. rw e (later (later here)))
    (λ i. in_cases i (λ e. rw e (later (later (later here)))) (λ i. in_none i)))
splits_frees v σ f n (fork_3 {o = o} {m = m} {m' = m'} {b = b} {c = c} {r = r} e) i =
    rw (todo_fork e o b c r v σ f m m' n)
    (in_cases i (λ e. rw e (later (later (later (later here)))))
    (λ i.
    in_cases i (λ e. rw e (later (later (later (later (later here))))))
    (λ i. in_cases i (λ e. rw e (later (later (later here)))) (λ i. in_none i))))
splits_frees v σ f n (fork_yields {o = o} {m = m} {b = b} {c = c} {r = r} e) i =
    rw (todo_fork_yields e o b c r v σ f m n)
    (in_cases i (λ e. rw e (later (later here)))
    (λ i. in_cases i (λ e. rw e (later (later (later here)))) (λ i. in_none i)))
splits_frees v σ f n (future_2 {o = o} {m = m} {b = b} {r = r}) i =
    rw (todo_future _ o b r v σ f m n)
    (in_cases i (λ e. rw e (later here))
    (λ i. in_cases i (λ e. rw e (later (later here))) (λ i. in_none i)))
splits_frees v σ f n (force_1 {o = o} {n = m} {b = b} {r = r}) i =
    rw (todo_force _ o m b r v σ f n) (in_cases i (λ e. rw e (later (later here))) (λ i. in_none i))

-- and hands edges on to them only
splits_hands :
    {ed : Edition} {c : Code} {ms : List ℕ} {k : Kid} {h : ℕ} (v σ f n : ℕ) → Splits ed c ms k
    → In (hand h) (todo ed v σ f (ms ++ (n ∷ [])) c) → In h (ms ++ (n ∷ []))
unfolding EachHand
splits_hands {h = h} v σ f n (async_1 {o = o} {b = b} {r = r}) i =
    each_hand (λ h. In h (n ∷ [])) _ tt (subst (λ ds. In (hand h) ds) (todo_async _ o b r v σ f n) i)
splits_hands {h = h} v σ f n (finish_2 {o = o} {m = m} {b = b} {r = r}) i =
    each_hand (λ h. In h (m ∷ n ∷ [])) (link n m ∷ hand m ∷ free m ∷ free n ∷ []) (here, tt)
    (subst (λ ds. In (hand h) ds) (todo_finish _ o b r v σ f m n) i)
splits_hands {h = h} v σ f n (fork_3 {o = o} {m = m} {m' = m'} {b = b} {c = c} {r = r} e) i =
    each_hand (λ h. In h (m ∷ m' ∷ n ∷ [])) (link m n ∷ link m' n ∷ hand n ∷ free n ∷ free m ∷ free m' ∷ []) (later (later here), tt)
    (subst (λ ds. In (hand h) ds) (todo_fork e o b c r v σ f m m' n) i)
splits_hands {h = h} v σ f n (fork_yields {o = o} {m = m} {b = b} {c = c} {r = r} e) i =
    each_hand (λ h. In h (m ∷ n ∷ [])) (link m v ∷ link n v ∷ free m ∷ free n ∷ yield ∷ []) tt
    (subst (λ ds. In (hand h) ds) (todo_fork_yields e o b c r v σ f m n) i)
splits_hands {h = h} v σ f n (future_2 {o = o} {m = m} {b = b} {r = r}) i =
    each_hand (λ h. In h (m ∷ n ∷ [])) (link n m ∷ free m ∷ free n ∷ []) tt
    (subst (λ ds. In (hand h) ds) (todo_future _ o b r v σ f m n) i)
splits_hands {h = h} v σ f n (force_1 {o = o} {n = m} {b = b} {r = r}) i =
    each_hand (λ h. In h (n ∷ [])) (link f n ∷ hand n ∷ free n ∷ []) (here, tt)
    (subst (λ ds. In (hand h) ds) (todo_force _ o m b r v σ f n) i)

-- which do not sit
pub hands_stand :
    {S : State} {v : ℕ} {c : Code} {ms : List ℕ} {k : Kid} → Shape S → S.control v ≡ busy c ms → Splits S.setting.edition c ms k
    → (u : ℕ)
    → In (hand u) (todo_of S v (ms ++ (S.count ∷ [])) c) → u < S.count → sits (S.control u) ≡ true → ⊥
hands_stand {S} {ms = ms} sh h sp u i lt sat =
    ⊎_elim
    (λ j. true-false sat (draft-sits (under_way_draft sh h j).1.is_draft))
    (λ e. absurd (omega arith))
    (in_snoc ms (splits_hands _ _ _ S.count sp i))

-- what the vertices that are there come to at a split: one of the item's
pub woken_in : (S : State) {u : ℕ} {k : Code} {ms : List ℕ} → In u ms → S.control u ≡ draft k → stirred S.control ms u ≡ fresh k
unfolding woken
woken_in S i d = rw (in_among i, d) refl

-- another one
woken_out : (S : State) {u : ℕ} {ms : List ℕ} → (In u ms → ⊥) → stirred S.control ms u ≡ S.control u
woken_out S {u} {ms} out = rw (among_out u ms out) refl

-- one of a list, or not
in? : (u : ℕ) (ms : List ℕ) → In u ms ⊎ (In u ms → ⊥)
in? u ms = ⊎_elim (λ h. inl (among_in u ms h)) (λ h. inr (λ i. true-false (in_among i) h)) (decide (among u ms))

-- What is known of the item's vertices and of their scopes in the state S' behind a split.
record Halves (S S' : State) (v : ℕ) (ms : List ℕ) (σ : ℕ) : Type 0 where
  now : Made S' v S.count
  before : {m : ℕ} → In m ms → Made S' v m
  not_now : {m : ℕ} → In m ms → m ≡ S.count → ⊥
  own_scope_is : S'.scope v ≡ S.scope v
  own_scope_old : is_new (S'.control (S'.scope v)) ≡ false
  now_scope : S'.scope S.count ≡ σ
  before_scope : {m : ℕ} → In m ms → S'.scope m ≡ S.scope m

-- others stay as they are, but for the item's vertices
splits_stay :
    {S : State} {v : ℕ} {c : Code} {ms : List ℕ} → Shape S → S.control v ≡ busy c ms → (u : ℕ) → Stays S v (stirred S.control ms) u
splits_stay {S} {ms = ms} sh h u =
    ⊎_elim
    (λ i. let (k, d) = under_way_draft sh h i in inr (k.code, d.made_by, d.is_draft, woken_in S i d.is_draft))
    (λ out. inl (woken_out S out))
    (in? u ms)

-- a vertex that was not new is not new, where v comes to x
splits_old :
    {S : State} {v : ℕ} {c : Code} {ms : List ℕ} (x : Control) (k : Code) → Shape S → S.control v ≡ busy c ms → is_new x ≡ false
    → (u : ℕ) → u < S.count → is_new (S.control u) ≡ false
    → is_new (put (put (stirred S.control ms) S.count (fresh k)) v x u) ≡ false
splits_old {S} {v} {ms = ms} x k sh h old u lt was =
    put_cases (λ y. is_new y ≡ false) (put (stirred S.control ms) S.count (fresh k)) v x u
    (λ e. old)
    (λ n. ap is_new (put_below (stirred S.control ms) S.count (fresh k) u lt ∙ woken_out S out) ∙ was)
  where
    out : In u ms → ⊥
    out i = let (k, d) = under_way_draft sh h i in true-false (draft_new d.is_draft) was

-- so it is at a split
halves :
    {S : State} {v : ℕ} {c : Code} {ms : List ℕ} (x : Control) (fs : List (ℕ × Code)) (ρ : ℕ) (k : Kid) → Shape S
    → S.control v ≡ busy c ms → is_new x ≡ false → Halves S (split S v ms x fs ρ k) v ms (scope_for S v ms k)
halves {S} {v} {c} {ms} x fs ρ k sh h old =
    record {
      now =
          record {
            code = k.code;
            is_fresh = with_kid S v (stirred S.control ms) (fresh k.code) x there;
            made_by = put_same S.maker S.count v;
            bare = λ y. not_so _ (λ e. absurd (omega (arith, (sh.within S.count y e).0)));
          };
      before = λ i. old_kid i;
      not_now = λ i e. absurd (omega (arith, under_way_below sh h i));
      own_scope_is = own_is;
      own_scope_old =
          ap (λ w. is_new ((split S v ms x fs ρ k).control w)) own_is
          ∙ splits_old x k.code sh h old (S.scope v) (sh.scope_within v there) (sh.scope_old v there (busy_old h));
      now_scope = put_same S.scope S.count (scope_for S v ms k);
      before_scope = λ {m} i. put_below S.scope S.count (scope_for S v ms k) m (under_way_below sh h i);
    }
  where
    there : v < S.count
    there = below sh v (λ o. clash cc)

    own_is : (split S v ms x fs ρ k).scope v ≡ S.scope v
    own_is = put_below S.scope S.count (scope_for S v ms k) v there

    old_kid : {m : ℕ} → In m ms → Made (split S v ms x fs ρ k) v m
    old_kid {m} i =
        let (k', d) = under_way_draft sh h i in
        let lt = under_way_below sh h i in
        record {
          code = k'.code;
          is_fresh =
              with_other S v (stirred S.control ms) (fresh k.code) x m
              (apart is_new S.control (draft_new d.is_draft) (busy_old h))
              (λ e. absurd (omega (arith, lt)))
              ∙ woken_in S i d.is_draft;
          made_by = put_below S.maker S.count v m lt ∙ d.made_by;
          bare = λ y. (sh.draft_bare m y k'.code d.is_draft).1;
        }

-- the first vertex of an open future is forced by v, whose item is split
splits_forces :
    {S : State} {v t : ℕ} {b c : Code} (x : Control) (fs : List (ℕ × Code)) (ρ : ℕ) (k : Kid) (ds : List Do) → Shape S → Opened S
    → S.control v ≡ busy c [] → is_item c ≡ true → In (t, b) (S.opens v) → ((h : ℕ) → In (hand h) (tasks x) → h ≡ S.count)
    → In (free S.count) ds → Forces (split S v [] x fs ρ k) t S.count ds
unfolding among tasks
splits_forces {S} {v} {t} {b} x fs ρ k ds sh op h item i hands frees =
    record {
      there = omega (arith, at.1);
      sitting = ap sits (with_other S v (stirred S.control []) (fresh k.code) x t not_v not_new) ∙ at.2;
      frees_it = frees;
      unhanded =
          λ u.
          put_cases (λ y. In (hand t) (tasks y) → ⊥) (put (stirred S.control []) S.count (fresh k.code)) v x u
          (λ e j. not_new (hands t j))
          (λ n.
          put_cases (λ y. In (hand t) (tasks y) → ⊥) (stirred S.control []) S.count (fresh k.code) u
          (λ e j. in_none j)
          (λ ne j. op.unhanded v t u b there i j));
    }
  where
    there : v < S.count
    there = below sh v (λ o. clash cc)

    at : (0 < t) × (t < S.count) × (sits (S.control t) ≡ true)
    at = op.there v t b there i

    not_v : t ≡ v → ⊥
    not_v = apart sits S.control at.2 (busy-sits h item)

    not_new : t ≡ S.count → ⊥
    not_new e = absurd (omega (arith, at.1))

-- what is left to do of the item can be done
splits_fits :
    {S : State} {v : ℕ} {c : Code} {ms : List ℕ} (x : Control) (fs : List (ℕ × Code)) (ρ : ℕ) {k : Kid} → Shape S → Opened S
    → S.control v ≡ busy c ms → is_new x ≡ false → tasks x ≡ todo_of S v (ms ++ (S.count ∷ [])) c → Splits S.setting.edition c ms k
    → Fits (split S v ms x fs ρ k) v (todo_of S v (ms ++ (S.count ∷ [])) c)
unfolding resolved Drafts Once kids EachHand is_item
splits_fits {S} {v} x fs ρ sh op h old left (async_1 {o = o} {b = b} {r = r}) =
    let hs = halves x fs ρ (kid b own_scope) sh h old in
    subst (λ ds. Fits (split S v [] x fs ρ (kid b own_scope)) v ds) (sym (todo_async _ o b r v (S.scope v) _ S.count))
    (subst (λ σ. Fits (split S v [] x fs ρ (kid b own_scope)) v (link S.count σ ∷ free S.count ∷ [])) hs.own_scope_is
    (fits_async hs.now (hs.now_scope ∙ sym hs.own_scope_is) hs.own_scope_old))
splits_fits {S} {v} x fs ρ sh op h old left (finish_2 {o = o} {m = m} {b = b} {r = r}) =
    let hs = halves x fs ρ (kid b made_1) sh h old in
    let (d, _) = sh.under_way v _ _ h in
    subst (λ ds. Fits (split S v (m ∷ []) x fs ρ (kid b made_1)) v ds) (sym (todo_finish _ o b r v (S.scope v) _ m S.count))
    (fits_finish (hs.before here) hs.now (hs.not_now here)
    (hs.before_scope here ∙ d.0.scope_is ∙ sym hs.own_scope_is)
    hs.now_scope
    hs.own_scope_old)
splits_fits {S} {v} x fs ρ sh op h old left (fork_3 {o = o} {m = m} {m' = m'} {b = b} {c = c} {r = r} e) =
    let hs = halves x fs ρ (kid r own_scope) sh h old in
    let (d, once) = sh.under_way v _ _ h in
    subst (λ ds. Fits (split S v (m ∷ m' ∷ []) x fs ρ (kid r own_scope)) v ds) (sym (todo_fork e o b c r v (S.scope v) _ m m' S.count))
    (fits_fork (hs.before here) (hs.before (later here)) hs.now
    (λ e. once.0 (subst (λ w. In w (m' ∷ [])) (sym e) here))
    (hs.not_now here)
    (hs.not_now (later here))
    (hs.before_scope here ∙ d.0.scope_is ∙ sym hs.own_scope_is)
    (hs.before_scope (later here) ∙ d.1.0.scope_is ∙ sym hs.own_scope_is)
    (hs.now_scope ∙ sym hs.own_scope_is)
    hs.own_scope_old)
splits_fits {S} {v} x fs ρ sh op h old left (fork_yields {o = o} {m = m} {b = b} {c = c} {r = r} e) =
    let hs = halves x fs ρ (kid c own_scope) sh h old in
    let (d, _) = sh.under_way v _ _ h in
    subst (λ ds. Fits (split S v (m ∷ []) x fs ρ (kid c own_scope)) v ds) (sym (todo_fork_yields e o b c r v (S.scope v) _ m S.count))
    (fits_fork_yields (hs.before here) hs.now (hs.not_now here)
    (hs.before_scope here ∙ d.0.scope_is ∙ sym hs.own_scope_is)
    (hs.now_scope ∙ sym hs.own_scope_is)
    hs.own_scope_old)
splits_fits {S} {v} x fs ρ sh op h old left (future_2 {o = o} {m = m} {b = b} {r = r}) =
    let hs = halves x fs ρ (kid b made_1) sh h old in
    let (d, _) = sh.under_way v _ _ h in
    subst (λ ds. Fits (split S v (m ∷ []) x fs ρ (kid b made_1)) v ds) (sym (todo_future _ o b r v (S.scope v) _ m S.count))
    (fits_future (hs.before here) hs.now (hs.not_now here)
    (hs.before_scope here ∙ d.0.scope_is ∙ sym hs.own_scope_is)
    hs.now_scope
    hs.own_scope_old)
splits_fits {S} {v} x fs ρ sh op h old left (force_1 {o = o} {n = n} {b = b} {r = r}) =
    let hs = halves x fs ρ (kid r own_scope) sh h old in
    let i = forced_open op h in
    let lt = forced_below sh op h in
    let list = todo_force _ o n b r v (S.scope v) (forced_by (S.opens v) (force_at o n b r)) S.count in
    subst (λ ds. Fits (split S v [] x fs ρ (kid r own_scope)) v ds) (sym list)
    (fits_force hs.now (λ e. absurd (omega (arith, lt)))
    (not_so _ (λ e. absurd (omega (arith, (sh.within _ S.count e).1))))
    (splits_forces x fs ρ (kid r own_scope) _ sh op h refl i
    (λ w j. each_hand (λ w. w ≡ S.count) _ (refl, tt) (subst (λ es. In (hand w) es) (left ∙ list) j))
    (later (later here)))
    (hs.now_scope ∙ sym hs.own_scope_is)
    hs.own_scope_old)

-- A vertex is made that is its item's last one.
pub shape_splits :
    {S : State} {v : ℕ} {c : Code} {ms : List ℕ} {k : Kid} (fs : List (ℕ × Code)) (ρ : ℕ) → Shape S → Opened S → S.control v ≡ busy c ms
    → Splits S.setting.edition c ms k → Shape (split S v ms (behind_split S v (ms ++ (S.count ∷ [])) c) fs ρ k)
shape_splits {S} {v} {c} {ms} {k} fs ρ sh op h sp =
    shape_with S v (stirred S.control ms) (fresh k.code) x (scope_for S v ms k) k.low k.high S'.opens S'.rank sh
    (below sh v (λ o. clash cc)) (busy_old h) (busy-sits h (splits_item sp)) old (fresh_new refl) (splits_scope sh h sp)
    (λ u l n. put_other (put S.opens S.count (S.opens v)) v fs u n ∙ put_below S.opens S.count (S.opens v) u l)
    (λ u l n. put_other (put S.rank S.count k.low) v ρ u n ∙ put_below S.rank S.count k.low u l)
    (splits_stay sh h)
    (λ c' ns e. none_made S' v c' (sym (made_busy e) ∙ onward_made (goes S.setting c) ds))
    (λ m k'.
    ⊎_elim
    (λ n. let e = n.1 in clash cc)
    (λ d.
    ⊎_elim
    (λ i. let e = d.0 in clash (cc (woken_in S i (under_way_draft sh h i).1.is_draft)))
    (λ out. absurd (out (own_draft sh h (sym (woken_out S out) ∙ d.0) d.1)))
    (in? m ms)))
    (λ m k'.
    ⊎_elim
    (λ n. released (subst (λ w. In w ms') (sym n.0) (in_last S.count ms)))
    (λ f.
    ⊎_elim
    (λ i. released (in_left (S.count ∷ []) i))
    (λ out. own_fresh sh h (sym (woken_out S out) ∙ f.0) f.1)
    (in? m ms)))
    (λ u i. hands_stand sh h sp u (subst (λ es. In (hand u) es) left i))
    (subst (λ es. Fits S' v es) (sym left) (splits_fits x fs ρ sh op h old left sp))
  where
    ms' : List ℕ
    ms' = ms ++ (S.count ∷ [])

    ds : List Do
    ds = todo_of S v ms' c

    x : Control
    x = onward (goes S.setting c) ds

    S' : State
    S' = split S v ms x fs ρ k

    old : is_new x ≡ false
    old = onward_old (goes S.setting c) ds

    left : tasks x ≡ ds
    left = tasks-onward (goes S.setting c) ds

    released : {m : ℕ} → In m ms' → In (free m) (tasks x)
    released {m} i = subst (λ es. In (free m) es) (sym left) (splits_frees _ _ _ S.count sp i)
