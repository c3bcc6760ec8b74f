-- The order of jobs at the split of an item: who holds which part of the code (`Shared`), and how the settled edges change. Behind an async
-- and a future its vertex holds the rest itself, and behind a fork of the second edition too; behind a finish, a fork of the first edition and
-- a force, the vertex that gets its edges. A future's first vertex waits for its body; the rest behind a force waits for the first vertex of
-- the future, if that has something left to wait for.
use Prim.Native.Nat.{ℕ, ◌<◌, ◌≤◌}
use mathlib.Core.Path.{◌≡◌, refl, sym, ◌∙◌, ap, subst}
use mathlib.Core.Bool.{Bool, true, not, cond}
use mathlib.Core.Logic.{◌⊎◌, inl, inr, ⊎_elim}
use mathlib.Core.List.{List, [], ◌∷◌, ◌++◌}
use mathlib.Core.Option.{some, some-injective, none-ne-some}
use native.Mathlib.Omega.{arith}
use Rattle.graph.proofs.TestLaws.{equal?, true-false}
use Rattle.program.specs.declared.Edition.TheVariants.{First, Second}
use Rattle.program.specs.Encodings.{own_scope, made_1}
use Rattle.program.specs.Located.{Code, end_byte_at, async_at, finish_at, fork_at, future_at, force_at}
use Rattle.program.proofs.LocatedLaws.{Laid, laid_le}
use Rattle.machine.proofs.GhostMachine.Ghost.{Do, link, hand, free, yield, Control, draft, fresh, ready, busy, joining, over, State, Kid, kid}
use Rattle.machine.proofs.GhostMachine.Ghost.{awaiting, put, kids, fork_goes, goes, resolved, live, woken, behind_split, stirred, forced_by, opens_behind}
use Rattle.machine.proofs.GhostMachine.Invariant.{In, here, later, tasks_of, is_item, sits, Settled, held, given, planned, Way, one, more, Draft}
use Rattle.machine.proofs.GhostMachine.Invariant.{Drafts, Shape, HasItem, Ranks, Roads, Opened, Coded}
use Rattle.machine.proofs.GhostMachine.GhostLaws.{put_same, put_other, clash, in_cases, in_none, in_among, among_out, Splits}
use Rattle.machine.proofs.GhostMachine.GhostLaws.{async_1, finish_2, fork_3, fork_yields, future_2, force_1, in_empty, forced_open, todo_async, todo_finish, todo_fork}
use Rattle.machine.proofs.GhostMachine.GhostLaws.{todo_fork_yields, todo_future, todo_force}
use Rattle.machine.proofs.GhostMachine.RoadLaws.{busy_code, busy-waits, busy_draft, busy_source, busy_below, over-waits, waits-live, is_source}
use Rattle.machine.proofs.GhostMachine.RoadLaws.{draft-sits, busy-sits, forced_below}
use Rattle.machine.proofs.GhostMachine.RanksKept.{link_below}
use Rattle.machine.proofs.GhostMachine.SettledLaws.{Plans, split_cases, split_old, split_given, split_own, split_new, own_held}
use Rattle.machine.proofs.GhostMachine.SplitLaws.{item_split, Split, split_of, fork_yields_links, fork_yields_hands}
use Rattle.machine.proofs.GhostMachine.SplitLaws.{async_links, async_hands, finish_links, finish_hands, fork_links, fork_hands, future_links}
use Rattle.machine.proofs.GhostMachine.SplitLaws.{future_hands, force_links, force_hands}
use Rattle.machine.proofs.GhostMachine.Ways.{way_last, nothing_to, nothing_to_draft}
use Rattle.machine.proofs.JobOrder.Order.{InA, holds, Waits, Orders}
use Rattle.machine.proofs.JobOrder.WaitLaws.{holds_one, holds-onward, held_laid, busy-holds, scope_led, waits_led}
use Rattle.machine.proofs.JobOrder.OrderParts.{Origin, stood, the_rest, a_kid, stays, handed, made, forced, Edges, Sunk, Forced, Parts, Open}
use Rattle.machine.proofs.JobOrder.OrderParts.{was_open, opens_now, parts_orders}
use Rattle.machine.proofs.JobOrder.OrderPieces.{Nothing, NoKid, One, single, Two, left, right, async_pieces, finish_pieces, fork_pieces}
use Rattle.machine.proofs.JobOrder.OrderPieces.{future_pieces, force_pieces}

-- a vertex that no settled edge leads to or comes from
pub record Bare (S : State) (x : ℕ) : Type 0 where
  pub to : (y : ℕ) → Settled S y x → ⊥
  pub from : (y : ℕ) → Settled S x y → ⊥

-- a draft is, and so is a vertex that is not made yet
draft_bare : {S : State} {m : ℕ} {k : Code} → Shape S → S.control m ≡ draft k → Bare S m
unfolding is_source
draft_bare {m = m} {k = k} sh q =
    record {
      to = nothing_to_draft sh q;
      from = λ y e. true-false (own_held sh (ap is_source q) e) (sh.draft_bare m y k q).1;
    }

new_bare : {S : State} → Shape S → Roads S → Bare S S.count
unfolding is_source
new_bare {S} sh rs =
    let new : S.control S.count ≡ over = sh.beyond S.count (omega arith) in
    record {
      to = nothing_to rs (over-waits new);
      from = λ y e. let (lt, lt') = sh.within S.count y (own_held sh (ap is_source new) e) in absurd (omega (arith, lt));
    }

-- a vertex that holds code is not finished
holds-live : (x : Control) {k : Code} → holds x ≡ some k → live x ≡ true
unfolding holds live
holds-live (draft c) e = refl
holds-live (fresh c) e = refl
holds-live (ready c) e = refl
holds-live (busy c ms) e = refl
holds-live (joining c d ds) e = refl
holds-live over {k} e = absurd (none-ne-some k e)

-- a vertex that sits holds no item
sits-holds : (x : Control) {k : Code} → sits x ≡ true → holds x ≡ some k → is_item k ≡ true → ⊥
unfolding sits holds
sits-holds (draft c) s e i = clash (sym s)
sits-holds (fresh c) {k} s e i = true-false s (ap not (ap is_item (some-injective c k e) ∙ i))
sits-holds (ready c) {k} s e i = true-false s (ap not (ap is_item (some-injective c k e) ∙ i))
sits-holds (busy c ms) {k} s e i = true-false s (ap not (ap is_item (some-injective c k e) ∙ i))
sits-holds (joining c d ds) s e i = clash (sym s)
sits-holds over {k} s e i = absurd (none-ne-some k e)

-- an edge out of a vertex that executes is settled
edge_settled : {S : State} {v y : ℕ} → tasks_of S v ≡ [] → S.edge v y ≡ true → Settled S v y
edge_settled idle e = held e (λ h i. in_empty idle i)

-- the settled edges where v's are handed to h, and kids and what is forced are linked to it
handed_edges :
    {S S' : State} {v h : ℕ} {T : List Do} {c : Code} {ms : List ℕ} (Kid : ℕ → Code → Type 0) (F : ℕ → Type 0) → Shape S
    → S.control v ≡ busy c ms → is_item c ≡ true → Plans S S' v T → In (hand h) T → ((x : ℕ) → In (hand x) T → x ≡ h)
    → ((x y : ℕ) → In (link x y) T → ((b : Code) × Kid x b × (y ≡ h)) ⊎ (F x × (y ≡ h)))
    → ((x : ℕ) (b : Code) → Kid x b → In (link x h) T) → ((x : ℕ) (b : Code) → Kid x b → holds (S'.control x) ≡ some b) → Bare S h
    → ((x : ℕ) (b : Code) → Kid x b → Bare S x) → ((b : Code) → Kid h b → ⊥) → Edges S S' v h Kid F h
handed_edges {S} {S'} {v} {h} Kid F sh q item P i hands links kid_link kid_holds bare kid_bare apart =
    record {
      on = λ x y. split_old P;
      rest_on = λ y e. split_given P i (own_held sh (busy_source q item) e);
      kid_on = λ x b k. split_new P (kid_link x b k) (holds-live (S'.control x) (kid_holds x b k));
      back =
          λ x y e.
          split_cases P e stays (λ i e. handed (hands x i) (edge_settled P.idle e))
          (λ i. ⊎_elim (λ (b, k, q). made b k q) (λ (f, q). forced f q) (links x y i));
      rest_to = bare.to;
      rest_from = λ y e. absurd (bare.from y e);
      kid_to = λ x y b k. (kid_bare x b k).to y;
      kid_from = λ x y b k. (kid_bare x b k).from y;
      kid_rest = apart;
      kid_end = apart;
    }

-- and where v keeps its own, and kids are linked to t
own_edges :
    {S S' : State} {v t : ℕ} {T : List Do} {c : Code} {ms : List ℕ} (Kid : ℕ → Code → Type 0) → Shape S → Roads S → S.control v ≡ busy c ms
    → is_item c ≡ true → Plans S S' v T → ((x : ℕ) → In (hand x) T → ⊥)
    → ((x y : ℕ) → In (link x y) T → (b : Code) × Kid x b × (y ≡ t))
    → ((x : ℕ) (b : Code) → Kid x b → In (link x t) T) → ((x : ℕ) (b : Code) → Kid x b → holds (S'.control x) ≡ some b)
    → ((x : ℕ) (b : Code) → Kid x b → Bare S x) → ((b : Code) → Kid v b → ⊥) → ((b : Code) → Kid t b → ⊥) → Edges S S' v v Kid Nothing t
own_edges {S} {S'} {v} {t} Kid sh rs q item P hands links kid_link kid_holds kid_bare apart apart' =
    record {
      on = λ x y. split_old P;
      rest_on = λ y e. split_own P hands (own_held sh (busy_source q item) e);
      kid_on = λ x b k. split_new P (kid_link x b k) (holds-live (S'.control x) (kid_holds x b k));
      back = λ x y e. split_cases P e stays (λ i e. absurd (hands x i)) (λ i. let (b, k, q) = links x y i in made b k q);
      rest_to = nothing_to rs (busy-waits q);
      rest_from = λ y e. e;
      kid_to = λ x y b k. (kid_bare x b k).to y;
      kid_from = λ x y b k. (kid_bare x b k).from y;
      kid_rest = apart;
      kid_end = apart';
    }

-- where nothing is forced
unforced : (S S' : State) (v h : ℕ) (Kid : ℕ → Code → Type 0) (t : ℕ) → Forced S S' v h Kid Nothing Nothing t
unforced S S' v h Kid t =
    record {
      empty = λ x k f e i. f;
      off = λ x f w. f;
      not_rest = λ x f e. f;
      not_end = λ x f e. f;
      not_kid = λ x b f k. f;
      waits_for = λ u p k g. absurd g;
      waited = λ u p x k f w. absurd f;
    }

-- a future that is open behind the split is open where v goes to, or was open
open_cases :
    {P : Type 0} {S S' : State} {v : ℕ} {c : Code} {ms : List ℕ} {T : List Do} {σ : ℕ} → Shape S → Split S S' v c ms T σ → (w f : ℕ)
    (b : Code) → w < S'.count → In (f, b) (S'.opens w) → (In (f, b) (opens_behind (S.opens v) (ms ++ (S.count ∷ [])) c) → P)
    → ((x : ℕ) → x < S.count → In (f, b) (S.opens x) → P) → P
open_cases {S = S} {S' = S'} {v = v} sh D w f b l i now before =
    ⊎_elim
    (λ e. now (subst (λ fs. In (f, b) fs) (ap S'.opens e ∙ D.self_opens) i))
    (λ nv.
    ⊎_elim
    (λ e. before v (busy_below sh v D.self) (subst (λ fs. In (f, b) fs) (ap S'.opens e ∙ D.new_opens) i))
    (λ nn. before w (omega (arith, l, D.counts)) (subst (λ fs. In (f, b) fs) (D.same_opens w nv nn) i))
    (equal? w S.count))
    (equal? w v)

-- one that was open has a first vertex that was made and sits
still_open :
    {S S' : State} {h t s : ℕ} {Kid : ℕ → Code → Type 0} → Opened S → ((f : ℕ) → f < S.count → sits (S.control f) ≡ true → f ≡ h → ⊥)
    → ((f : ℕ) → f < S.count → sits (S.control f) ≡ true → Sunk S S' t s → t ≡ f → ⊥) → (f : ℕ) (b : Code) (x : ℕ) → x < S.count
    → In (f, b) (S.opens x) → Open S S' h Kid t s f b
still_open op not_rest not_sunk f b x l i =
    let (_, lt, s) = op.there x f b l i in was_open x l i (not_rest f lt s) (not_sunk f lt s)

-- who holds what behind the split: v, the new vertex, and the drafts
pub record Shared (S S' : State) (v : ℕ) (c : Code) (ms : List ℕ) (k : Code) : Type 0 where
  pub self_holds : holds (S'.control v) ≡ some (goes S.setting c)
  pub new_holds : holds (S'.control S.count) ≡ some k
  pub draft_holds : (u : ℕ) (d : Code) → In u ms → S.control u ≡ draft d → holds (S'.control u) ≡ some d

shared_of :
    {S : State} {v : ℕ} {c : Code} {ms : List ℕ} (k : Kid) → Shape S → S.control v ≡ busy c ms
    → Shared S (item_split S v c ms k) v c ms k.code
unfolding holds woken
shared_of {S} {v} {c} {ms} k sh q =
    record {
      self_holds = ap holds (put_same (put (stirred f ms) n y) v x) ∙ holds-onward _ _;
      new_holds =
          ap holds
          (put_other (put (stirred f ms) n y) v x n (λ e. let z = sym q ∙ sym (ap f e) ∙ new in clash cc)
          ∙ put_same (stirred f ms) n y);
      draft_holds =
          λ u d i p.
          ap holds
          (put_other (put (stirred f ms) n y) v x u (λ e. let z = sym q ∙ sym (ap f e) ∙ p in clash cc)
          ∙ put_other (stirred f ms) n y u (λ e. let z = sym p ∙ ap f e ∙ new in clash cc)
          ∙ ap (λ (t : Bool). cond t (woken (f u)) (f u)) (in_among i)
          ∙ ap woken p);
    }
  where
    f : ℕ → Control
    f = S.control

    n : ℕ
    n = S.count

    y : Control
    y = fresh k.code

    x : Control
    x = behind_split S v (ms ++ (n ∷ [])) c

    new : f n ≡ over
    new = sh.beyond n (omega arith)

-- a draft and a finished vertex hold nothing
draft-holds_none : {x : Control} {d k : Code} → x ≡ draft d → holds x ≡ some k → ⊥
unfolding holds
draft-holds_none {k = k} q e = none-ne-some k (sym (ap holds q) ∙ e)

over-holds_none : {x : Control} {k : Code} → x ≡ over → holds x ≡ some k → ⊥
unfolding holds
over-holds_none {k = k} q e = none-ne-some k (sym (ap holds q) ∙ e)

-- what another vertex holds it held, and its scope is as before
other_holds :
    {S S' : State} {v : ℕ} {c : Code} {ms : List ℕ} {T : List Do} {σ : ℕ} → Split S S' v c ms T σ → (u : ℕ) → (u ≡ v → ⊥)
    → (u ≡ S.count → ⊥) → (In u ms → ⊥) → (holds (S'.control u) ≡ holds (S.control u)) × (S'.scope u ≡ S.scope u)
other_holds {ms = ms} D u nv nn nm = (ap holds (D.same u nv nn (among_out u ms nm)), D.same_scope u nn)

-- the scope of a vertex that has an item is another
scope_other : {S : State} {v : ℕ} {c : Code} {ms : List ℕ} → Roads S → S.control v ≡ busy c ms → is_item c ≡ true → S.scope v ≡ v → ⊥
scope_other {S} {v} {c} rs q i e =
    let (x, l, from) = way_last (rs.way v c (busy_code q, i) (busy_draft q)) in
    nothing_to rs (busy-waits q) x (subst (λ (z : ℕ). Settled S x z) e l)

-- an async: v holds the rest, and the new vertex the body
async_orders :
    {m : Code} {o v : ℕ} {b r : Code} {S S' : State} → Laid (async_at o b r) → Shape S → Opened S → Roads S → Roads S'
    → Split S S' v (async_at o b r) [] (link S.count (S.scope v) ∷ free S.count ∷ []) (S.scope v)
    → Shared S S' v (async_at o b r) [] b → Orders m S → Orders m S'
unfolding goes is_item opens_behind
async_orders {o = o} {v = v} {b = b} {r = r} {S = S} {S' = S'} l sh op rs rs' D H os =
    parts_orders rs rs' parts (async_pieces o n v σ b r (inr refl) l (scope_other rs D.self refl)) os
    (λ w f d lt i.
    let still = still_open op (λ f lt s e. true-false s (busy-sits (ap S.control e ∙ D.self) refl)) (λ f lt s end e. scope_sunk end) f d in
    open_cases sh D w f d lt i (still v v_below) still)
  where
    n : ℕ
    n = S.count

    σ : ℕ
    σ = S.scope v

    new : S.control n ≡ over
    new = sh.beyond n (omega arith)

    scope_sunk : Sunk S S' σ σ → ⊥
    scope_sunk end = let (x, e) = scope_led v rs (busy-holds D.self) refl in end.to x e

    v_below : v < n
    v_below = busy_below sh v D.self

    v_old : v ≡ n → ⊥
    v_old e = absurd (omega (arith, v_below))

    σ_old : σ ≡ n → ⊥
    σ_old e = absurd (omega (arith, sh.scope_within v v_below))

    Kid : ℕ → Code → Type 0
    Kid = One n b

    kid_is : (x : ℕ) (d : Code) → Kid x d → x ≡ n
    kid_is x d single = refl

    bare : (x : ℕ) (d : Code) → Kid x d → Bare S x
    bare x d single = new_bare sh rs

    linked : (x : ℕ) (d : Code) → Kid x d → In (link x σ) (link n σ ∷ free n ∷ [])
    linked x d single = here

    kid_holds : (x : ℕ) (d : Code) → Kid x d → holds (S'.control x) ≡ some d
    kid_holds x d single = H.new_holds

    kid_scope : (x : ℕ) (d : Code) → Kid x d → S'.scope x ≡ σ
    kid_scope x d single = D.new_scope

    none : (x : ℕ) → In x [] → ⊥
    none x i = in_none i

    new_held : (u : ℕ) (k : Code) → holds (S.control u) ≡ some k → u ≡ n → ⊥
    new_held u k e q = over-holds_none (ap S.control q ∙ new) e

    origin : (u : ℕ) (k : Code) → holds (S'.control u) ≡ some k → is_item k ≡ true → Origin S S' v v r Kid u k
    origin u k e i =
        ⊎_elim
        (λ q. the_rest q (holds_one (S'.control u) e (ap (λ (z : ℕ). holds (S'.control z)) q ∙ H.self_holds)))
        (λ nv.
        ⊎_elim
        (λ q.
        let same : k ≡ b = holds_one (S'.control u) e (ap (λ (z : ℕ). holds (S'.control z)) q ∙ H.new_holds) in
        a_kid (subst (λ (z : ℕ). Kid z k) (sym q) (subst (λ (z : Code). Kid n z) (sym same) single)))
        (λ nn. let (same, σ_same) = other_holds D u nv nn (none u) in stood nv (sym same ∙ e) σ_same)
        (equal? u n))
        (equal? u v)

    parts : Parts S S' v (async_at o b r) v r Kid Nothing Nothing σ σ
    parts =
        record {
          self = busy-holds D.self;
          item = refl;
          executes = busy-waits D.self;
          rest = H.self_holds;
          rest_scope = D.same_scope v v_old;
          rest_held = λ k ne e. ne refl;
          kid = kid_holds;
          kid_scope = kid_scope;
          kid_held = λ x d k i e. new_held x k e (kid_is x d i);
          ends = inl (inr refl, inr refl);
          on =
              λ u k nv e.
              let (same, σ_same) = other_holds D u nv (new_held u k e) (none u) in (same ∙ e, σ_same);
          origin = origin;
          edges =
              own_edges Kid sh rs D.self refl D.plans (λ x i. async_hands i)
              (λ x y i. let (e, e') = async_links i in (b, subst (λ (z : ℕ). Kid z b) (sym e) single, e'))
              linked kid_holds bare (λ d k. v_old (kid_is v d k)) (λ d k. σ_old (kid_is σ d k));
          forces = unforced S S' v v Kid σ;
        }

-- a finish: the draft holds the rest, and the new vertex the body; v has come to an end
finish_orders :
    {p : Code} {o v m : ℕ} {b r : Code} {S S' : State} → Laid (finish_at o b r) → Shape S → Opened S → Roads S → Roads S'
    → Split S S' v (finish_at o b r) (m ∷ []) (link S.count m ∷ hand m ∷ free m ∷ free S.count ∷ []) m
    → Shared S S' v (finish_at o b r) (m ∷ []) b → Orders p S → Orders p S'
unfolding goes is_item Drafts kids resolved opens_behind
finish_orders {o = o} {v = v} {m = m} {b = b} {r = r} {S = S} {S' = S'} l sh op rs rs' D H os =
    parts_orders rs rs' parts (finish_pieces o n m b r (inl refl) l) os
    (λ w f d lt i.
    let still = still_open op (λ f lt s e. m_sits f s e) (λ f lt s end e. m_sits f s (sym e)) f d in
    open_cases sh D w f d lt i (still v (busy_below sh v D.self)) still)
  where
    L : ℕ
    L = S.setting.last_byte

    n : ℕ
    n = S.count

    new : S.control n ≡ over
    new = sh.beyond n (omega arith)

    made_m : Draft S v (m ∷ []) m (kid r own_scope)
    made_m = (sh.under_way v _ _ D.self).0.0

    m_draft : S.control m ≡ draft r
    m_draft = made_m.is_draft

    m_sits : (f : ℕ) → sits (S.control f) ≡ true → f ≡ m → ⊥
    m_sits f s e = true-false s (draft-sits (ap S.control e ∙ m_draft))

    m_old : m ≡ n → ⊥
    m_old e = let z = sym m_draft ∙ ap S.control e ∙ new in clash cc

    Kid : ℕ → Code → Type 0
    Kid = One n b

    kid_is : (x : ℕ) (d : Code) → Kid x d → x ≡ n
    kid_is x d single = refl

    bare : (x : ℕ) (d : Code) → Kid x d → Bare S x
    bare x d single = new_bare sh rs

    linked : (x : ℕ) (d : Code) → Kid x d → In (link x m) (link n m ∷ hand m ∷ free m ∷ free n ∷ [])
    linked x d single = here

    kid_holds : (x : ℕ) (d : Code) → Kid x d → holds (S'.control x) ≡ some d
    kid_holds x d single = H.new_holds

    kid_scope : (x : ℕ) (d : Code) → Kid x d → S'.scope x ≡ m
    kid_scope x d single = D.new_scope

    new_held : (u : ℕ) (k : Code) → holds (S.control u) ≡ some k → u ≡ n → ⊥
    new_held u k e q = over-holds_none (ap S.control q ∙ new) e

    m_held : (u : ℕ) (k : Code) → holds (S.control u) ≡ some k → u ≡ m → ⊥
    m_held u k e q = draft-holds_none (ap S.control q ∙ m_draft) e

    m_holds : holds (S'.control m) ≡ some r
    m_holds = H.draft_holds m r here m_draft

    only_m : (u : ℕ) → (u ≡ m → ⊥) → In u (m ∷ []) → ⊥
    only_m u ne i = in_cases i ne (λ i. in_none i)

    origin : (u : ℕ) (k : Code) → holds (S'.control u) ≡ some k → is_item k ≡ true → Origin S S' v m r Kid u k
    origin u k e i =
        ⊎_elim
        (λ q.
        let same : k ≡ end_byte_at L = holds_one (S'.control u) e (ap (λ (z : ℕ). holds (S'.control z)) q ∙ H.self_holds) in
        true-false i (ap is_item same))
        (λ nv.
        ⊎_elim
        (λ q.
        let same : k ≡ b = holds_one (S'.control u) e (ap (λ (z : ℕ). holds (S'.control z)) q ∙ H.new_holds) in
        a_kid (subst (λ (z : ℕ). Kid z k) (sym q) (subst (λ (z : Code). Kid n z) (sym same) single)))
        (λ nn.
        ⊎_elim
        (λ q. the_rest q (holds_one (S'.control u) e (ap (λ (z : ℕ). holds (S'.control z)) q ∙ m_holds)))
        (λ nm. let (same, σ_same) = other_holds D u nv nn (only_m u nm) in stood nv (sym same ∙ e) σ_same)
        (equal? u m))
        (equal? u n))
        (equal? u v)

    parts : Parts S S' v (finish_at o b r) m r Kid Nothing Nothing m m
    parts =
        record {
          self = busy-holds D.self;
          item = refl;
          executes = busy-waits D.self;
          rest = m_holds;
          rest_scope = D.same_scope m m_old ∙ made_m.scope_is;
          rest_held = λ k ne e. m_held m k e refl;
          kid = kid_holds;
          kid_scope = kid_scope;
          kid_held = λ x d k i e. new_held x k e (kid_is x d i);
          ends = inl (inl refl, inl refl);
          on =
              λ u k nv e.
              let (same, σ_same) = other_holds D u nv (new_held u k e) (only_m u (m_held u k e)) in (same ∙ e, σ_same);
          origin = origin;
          edges =
              handed_edges Kid Nothing sh D.self refl D.plans (later here) (λ x i. finish_hands i)
              (λ x y i. let (e, e') = finish_links i in inl (b, subst (λ (z : ℕ). Kid z b) (sym e) single, e'))
              linked kid_holds (draft_bare sh m_draft) bare (λ d k. m_old (kid_is m d k));
          forces = unforced S S' v m Kid m;
        }

-- a fork: the new vertex holds the rest, and the drafts the branches; v has come to an end
fork_orders :
    {p : Code} {o v m m' : ℕ} {b c r : Code} {S S' : State} → S.setting.edition ≡ First → Laid (fork_at o b c r) → Shape S → Opened S
    → Roads S → Roads S'
    → Split S S' v (fork_at o b c r) (m ∷ m' ∷ [])
    (link m S.count ∷ link m' S.count ∷ hand S.count ∷ free S.count ∷ free m ∷ free m' ∷ []) (S.scope v)
    → Shared S S' v (fork_at o b c r) (m ∷ m' ∷ []) r → Orders p S → Orders p S'
unfolding goes fork_goes is_item Drafts kids resolved opens_behind
fork_orders {o = o} {v = v} {m = m} {m' = m'} {b = b} {c = c} {r = r} {S = S} {S' = S'} first l sh op rs rs' D H os =
    parts_orders rs rs' parts (fork_pieces o m m' n σ b c r (inr refl) l σ_old) os
    (λ w f d lt i.
    let still =
    still_open op (λ f lt s e. absurd (omega (arith, lt, e))) (λ f lt s end e. absurd (omega (arith, lt, e))) f d in
    open_cases sh D w f d lt i (still v (busy_below sh v D.self)) still)
  where
    L : ℕ
    L = S.setting.last_byte

    n : ℕ
    n = S.count

    σ : ℕ
    σ = S.scope v

    new : S.control n ≡ over
    new = sh.beyond n (omega arith)

    self_holds : holds (S'.control v) ≡ some (end_byte_at L)
    self_holds = H.self_holds ∙ ap (λ ed. some (fork_goes ed L r)) first

    σ_old : σ ≡ n → ⊥
    σ_old e = absurd (omega (arith, sh.scope_within v (busy_below sh v D.self)))

    made_l : Draft S v (m ∷ m' ∷ []) m (kid b own_scope)
    made_l = (sh.under_way v _ _ D.self).0.0

    made_r : Draft S v (m ∷ m' ∷ []) m' (kid c own_scope)
    made_r = (sh.under_way v _ _ D.self).0.1.0

    draft_old : {x : ℕ} {k : Code} → S.control x ≡ draft k → x ≡ n → ⊥
    draft_old q e = let z = sym q ∙ ap S.control e ∙ new in clash cc

    T : List Do
    T = link m n ∷ link m' n ∷ hand n ∷ free n ∷ free m ∷ free m' ∷ []

    Kid : ℕ → Code → Type 0
    Kid = Two m m' b c

    kid_draft : (x : ℕ) (d : Code) → Kid x d → S.control x ≡ draft d
    kid_draft x d left = made_l.is_draft
    kid_draft x d right = made_r.is_draft

    linked : (x : ℕ) (d : Code) → Kid x d → In (link x n) T
    linked x d left = here
    linked x d right = later here

    kid_in : (x : ℕ) (d : Code) → Kid x d → In x (m ∷ m' ∷ [])
    kid_in x d left = here
    kid_in x d right = later here

    kid_scope : (x : ℕ) (d : Code) → Kid x d → S'.scope x ≡ σ
    kid_scope x d left = D.same_scope m (draft_old made_l.is_draft) ∙ made_l.scope_is
    kid_scope x d right = D.same_scope m' (draft_old made_r.is_draft) ∙ made_r.scope_is

    new_held : (u : ℕ) (k : Code) → holds (S.control u) ≡ some k → u ≡ n → ⊥
    new_held u k e q = over-holds_none (ap S.control q ∙ new) e

    kid_holds : (x : ℕ) (d : Code) → Kid x d → holds (S'.control x) ≡ some d
    kid_holds x d k = H.draft_holds x d (kid_in x d k) (kid_draft x d k)

    kid_held : (x : ℕ) (d k : Code) → Kid x d → holds (S.control x) ≡ some k → ⊥
    kid_held x d k i e = draft-holds_none (kid_draft x d i) e

    links : (x y : ℕ) → In (link x y) T → ((d : Code) × Kid x d × (y ≡ n)) ⊎ (Nothing x × (y ≡ n))
    links x y i =
        let (e, e') = fork_links i in
        ⊎_elim
        (λ e. inl (b, subst (λ (z : ℕ). Kid z b) (sym e) left, e'))
        (λ e. inl (c, subst (λ (z : ℕ). Kid z c) (sym e) right, e'))
        e

    -- a vertex is a kid, or is not one of the two
    kid_or : (u : ℕ) → ((d : Code) × Kid u d) ⊎ (In u (m ∷ m' ∷ []) → ⊥)
    kid_or u =
        ⊎_elim
        (λ e. inl (b, subst (λ (z : ℕ). Kid z b) (sym e) left))
        (λ ne.
        ⊎_elim
        (λ e. inl (c, subst (λ (z : ℕ). Kid z c) (sym e) right))
        (λ ne'. inr (λ i. in_cases i ne (λ i. in_cases i ne' (λ i. in_none i))))
        (equal? u m'))
        (equal? u m)

    origin : (u : ℕ) (k : Code) → holds (S'.control u) ≡ some k → is_item k ≡ true → Origin S S' v n r Kid u k
    origin u k e i =
        ⊎_elim
        (λ q.
        let same : k ≡ end_byte_at L = holds_one (S'.control u) e (ap (λ (z : ℕ). holds (S'.control z)) q ∙ self_holds) in
        true-false i (ap is_item same))
        (λ nv.
        ⊎_elim
        (λ q. the_rest q (holds_one (S'.control u) e (ap (λ (z : ℕ). holds (S'.control z)) q ∙ H.new_holds)))
        (λ nn.
        ⊎_elim
        (λ d.
        let same : d.0 ≡ k = holds_one (S'.control u) (kid_holds u d.0 d.1) e in
        a_kid (subst (λ (z : Code). Kid u z) same d.1))
        (λ ni. let (same, σ_same) = other_holds D u nv nn ni in stood nv (sym same ∙ e) σ_same)
        (kid_or u))
        (equal? u n))
        (equal? u v)

    parts : Parts S S' v (fork_at o b c r) n r Kid Nothing Nothing n σ
    parts =
        record {
          self = busy-holds D.self;
          item = refl;
          executes = busy-waits D.self;
          rest = H.new_holds;
          rest_scope = D.new_scope;
          rest_held = λ k ne e. new_held n k e refl;
          kid = kid_holds;
          kid_scope = kid_scope;
          kid_held = kid_held;
          ends = inl (inl refl, inr refl);
          on =
              λ u k nv e.
              let out : In u (m ∷ m' ∷ []) → ⊥ = λ i. ⊎_elim (λ d. kid_held u d.0 k d.1 e) (λ n. n i) (kid_or u) in
              let (same, σ_same) = other_holds D u nv (new_held u k e) out in
              (same ∙ e, σ_same);
          origin = origin;
          edges =
              handed_edges Kid Nothing sh D.self refl D.plans (later (later here)) (λ x i. fork_hands i) links linked kid_holds
              (new_bare sh rs) (λ x d k. draft_bare sh (kid_draft x d k)) (λ d k. draft_old (kid_draft n d k) refl);
          forces = unforced S S' v n Kid n;
        }

-- a fork of the second edition: v holds the rest and waits for the branches, which the draft and the new vertex hold
fork_yields_orders :
    {p : Code} {o v m : ℕ} {b c r : Code} {S S' : State} → S.setting.edition ≡ Second → Laid (fork_at o b c r) → Shape S → Opened S
    → Roads S → Roads S'
    → Split S S' v (fork_at o b c r) (m ∷ []) (link m v ∷ link S.count v ∷ free m ∷ free S.count ∷ yield ∷ []) (S.scope v)
    → Shared S S' v (fork_at o b c r) (m ∷ []) c → Orders p S → Orders p S'
unfolding goes fork_goes is_item Drafts kids resolved opens_behind
fork_yields_orders {o = o} {v = v} {m = m} {b = b} {c = c} {r = r} {S = S} {S' = S'} second l sh op rs rs' D H os =
    parts_orders rs rs' parts (fork_pieces o m n v σ b c r (inr refl) l (scope_other rs D.self refl)) os
    (λ w f d lt i.
    let still =
    still_open op (λ f lt s e. v_sits f s e) (λ f lt s end e. v_sits f s (sym e)) f d in
    open_cases sh D w f d lt i (still v v_below) still)
  where
    n : ℕ
    n = S.count

    σ : ℕ
    σ = S.scope v

    new : S.control n ≡ over
    new = sh.beyond n (omega arith)

    v_below : v < n
    v_below = busy_below sh v D.self

    v_old : v ≡ n → ⊥
    v_old e = absurd (omega (arith, v_below))

    v_sits : (f : ℕ) → sits (S.control f) ≡ true → f ≡ v → ⊥
    v_sits f s e = true-false s (busy-sits (ap S.control e ∙ D.self) refl)

    v_holds : holds (S'.control v) ≡ some r
    v_holds = H.self_holds ∙ ap (λ ed. some (fork_goes ed S.setting.last_byte r)) second

    made_m : Draft S v (m ∷ []) m (kid b own_scope)
    made_m = (sh.under_way v _ _ D.self).0.0

    m_draft : S.control m ≡ draft b
    m_draft = made_m.is_draft

    m_old : m ≡ n → ⊥
    m_old e = let z = sym m_draft ∙ ap S.control e ∙ new in clash cc

    m_other : m ≡ v → ⊥
    m_other e = let z = sym m_draft ∙ ap S.control e ∙ D.self in clash cc

    T : List Do
    T = link m v ∷ link n v ∷ free m ∷ free n ∷ yield ∷ []

    Kid : ℕ → Code → Type 0
    Kid = Two m n b c

    bare : (x : ℕ) (d : Code) → Kid x d → Bare S x
    bare x d left = draft_bare sh m_draft
    bare x d right = new_bare sh rs

    linked : (x : ℕ) (d : Code) → Kid x d → In (link x v) T
    linked x d left = here
    linked x d right = later here

    kid_holds : (x : ℕ) (d : Code) → Kid x d → holds (S'.control x) ≡ some d
    kid_holds x d left = H.draft_holds m b here m_draft
    kid_holds x d right = H.new_holds

    kid_scope : (x : ℕ) (d : Code) → Kid x d → S'.scope x ≡ σ
    kid_scope x d left = D.same_scope m m_old ∙ made_m.scope_is
    kid_scope x d right = D.new_scope

    kid_held : (x : ℕ) (d k : Code) → Kid x d → holds (S.control x) ≡ some k → ⊥
    kid_held x d k left e = draft-holds_none m_draft e
    kid_held x d k right e = over-holds_none new e

    kid_other : (x : ℕ) (d : Code) → Kid x d → x ≡ v → ⊥
    kid_other x d left e = m_other e
    kid_other x d right e = v_old (sym e)

    links : (x y : ℕ) → In (link x y) T → (d : Code) × Kid x d × (y ≡ v)
    links x y i =
        let (e, e') = fork_yields_links i in
        ⊎_elim
        (λ e. (b, subst (λ (z : ℕ). Kid z b) (sym e) left, e'))
        (λ e. (c, subst (λ (z : ℕ). Kid z c) (sym e) right, e'))
        e

    -- a vertex is a kid, or is neither of the two
    kid_or : (u : ℕ) → ((d : Code) × Kid u d) ⊎ ((u ≡ n → ⊥) × (In u (m ∷ []) → ⊥))
    kid_or u =
        ⊎_elim
        (λ e. inl (b, subst (λ (z : ℕ). Kid z b) (sym e) left))
        (λ ne.
        ⊎_elim
        (λ e. inl (c, subst (λ (z : ℕ). Kid z c) (sym e) right))
        (λ nn. inr (nn, λ i. in_cases i ne (λ i. in_none i)))
        (equal? u n))
        (equal? u m)

    origin : (u : ℕ) (k : Code) → holds (S'.control u) ≡ some k → is_item k ≡ true → Origin S S' v v r Kid u k
    origin u k e i =
        ⊎_elim
        (λ q. the_rest q (holds_one (S'.control u) e (ap (λ (z : ℕ). holds (S'.control z)) q ∙ v_holds)))
        (λ nv.
        ⊎_elim
        (λ d.
        let same : d.0 ≡ k = holds_one (S'.control u) (kid_holds u d.0 d.1) e in
        a_kid (subst (λ (z : Code). Kid u z) same d.1))
        (λ none. let (same, σ_same) = other_holds D u nv none.0 none.1 in stood nv (sym same ∙ e) σ_same)
        (kid_or u))
        (equal? u v)

    parts : Parts S S' v (fork_at o b c r) v r Kid Nothing Nothing v σ
    parts =
        record {
          self = busy-holds D.self;
          item = refl;
          executes = busy-waits D.self;
          rest = v_holds;
          rest_scope = D.same_scope v v_old;
          rest_held = λ k ne e. ne refl;
          kid = kid_holds;
          kid_scope = kid_scope;
          kid_held = kid_held;
          ends = inl (inl refl, inr refl);
          on =
              λ u k nv e.
              ⊎_elim
              (λ d. absurd (kid_held u d.0 k d.1 e))
              (λ none. let (same, σ_same) = other_holds D u nv none.0 none.1 in (same ∙ e, σ_same))
              (kid_or u);
          origin = origin;
          edges =
              own_edges Kid sh rs D.self refl D.plans (λ x i. fork_yields_hands i) links linked kid_holds bare
              (λ d k. kid_other v d k refl) (λ d k. kid_other v d k refl);
          forces = unforced S S' v v Kid v;
        }

-- a future: v holds the rest, and the new vertex the body; the draft waits for the body, and leads nowhere
future_orders :
    {p : Code} {o v m : ℕ} {b r : Code} {S S' : State} → Laid (future_at o b r) → Shape S → Opened S → Roads S → Roads S'
    → Split S S' v (future_at o b r) (m ∷ []) (link S.count m ∷ free m ∷ free S.count ∷ []) m
    → Shared S S' v (future_at o b r) (m ∷ []) b → Orders p S → Orders p S'
unfolding goes is_item Drafts kids resolved opens_behind
future_orders {o = o} {v = v} {m = m} {b = b} {r = r} {S = S} {S' = S'} l sh op rs rs' D H os =
    parts_orders rs rs' parts (future_pieces o n v m b r (⊎_elim m_other m_scope) l m_other) os
    (λ w f d lt i.
    let still =
    still_open op (λ f lt s e. true-false s (busy-sits (ap S.control e ∙ D.self) refl))
    (λ f lt s end e. true-false s (draft-sits (ap S.control (sym e) ∙ m_draft))) f d in
    open_cases sh D w f d lt i (λ i. in_cases i (opens f d) (still v v_below)) still)
  where
    n : ℕ
    n = S.count

    L : ℕ
    L = S.setting.last_byte

    new : S.control n ≡ over
    new = sh.beyond n (omega arith)

    v_below : v < n
    v_below = busy_below sh v D.self

    v_old : v ≡ n → ⊥
    v_old e = absurd (omega (arith, v_below))

    made_m : Draft S v (m ∷ []) m (awaiting L r)
    made_m = (sh.under_way v _ _ D.self).0.0

    m_draft : S.control m ≡ draft (end_byte_at L)
    m_draft = made_m.is_draft

    m_old : m ≡ n → ⊥
    m_old e = let z = sym m_draft ∙ ap S.control e ∙ new in clash cc

    m_other : m ≡ v → ⊥
    m_other e = let z = sym m_draft ∙ ap S.control e ∙ D.self in clash cc

    m_scope : m ≡ S.scope v → ⊥
    m_scope e =
        let (x, led) = scope_led v rs (busy-holds D.self) refl in
        (draft_bare sh m_draft).to x (subst (λ (z : ℕ). Settled S x z) (sym e) led)

    kid_is : (x : ℕ) (d : Code) → One n b x d → x ≡ n
    kid_is x d single = refl

    body_is : (x : ℕ) (d : Code) → One n b x d → d ≡ b
    body_is x d single = refl

    bare : (x : ℕ) (d : Code) → One n b x d → Bare S x
    bare x d single = new_bare sh rs

    linked : (x : ℕ) (d : Code) → One n b x d → In (link x m) (link n m ∷ free m ∷ free n ∷ [])
    linked x d single = here

    kid_holds : (x : ℕ) (d : Code) → One n b x d → holds (S'.control x) ≡ some d
    kid_holds x d single = H.new_holds

    kid_scope : (x : ℕ) (d : Code) → One n b x d → S'.scope x ≡ m
    kid_scope x d single = D.new_scope

    new_held : (u : ℕ) (k : Code) → holds (S.control u) ≡ some k → u ≡ n → ⊥
    new_held u k e q = over-holds_none (ap S.control q ∙ new) e

    m_held : (u : ℕ) (k : Code) → holds (S.control u) ≡ some k → u ≡ m → ⊥
    m_held u k e q = draft-holds_none (ap S.control q ∙ m_draft) e

    m_holds : holds (S'.control m) ≡ some (end_byte_at L)
    m_holds = H.draft_holds m (end_byte_at L) here m_draft

    only_m : (u : ℕ) → (u ≡ m → ⊥) → In u (m ∷ []) → ⊥
    only_m u ne i = in_cases i ne (λ i. in_none i)

    -- nothing led to the draft, and it leads nowhere
    sunk : Sunk S S' m m
    sunk =
        record {
          same = refl;
          to = (draft_bare sh m_draft).to;
          from =
              λ y e.
              split_cases D.plans e ((draft_bare sh m_draft).from y) (λ i e. future_hands i) (λ i. m_old (future_links i).0);
          unheld = λ k e. m_held m k e refl;
        }

    opens : (f : ℕ) (d : Code) → ◌≡◌ {A = ℕ × Code} (f, d) (m, b) → Open S S' v (One n b) m m f d
    opens f d e =
        let at : f ≡ m = ap (λ (z : ℕ × Code). z.0) e in
        let same : d ≡ b = ap (λ (z : ℕ × Code). z.1) e in
        opens_now sunk (sym at) (λ q. m_other (sym at ∙ q)) n (subst (λ (z : Code). One n b n z) (sym same) single)
        (λ y k i. body_is y k i ∙ sym same)

    origin : (u : ℕ) (k : Code) → holds (S'.control u) ≡ some k → is_item k ≡ true → Origin S S' v v r (One n b) u k
    origin u k e i =
        ⊎_elim
        (λ q. the_rest q (holds_one (S'.control u) e (ap (λ (z : ℕ). holds (S'.control z)) q ∙ H.self_holds)))
        (λ nv.
        ⊎_elim
        (λ q.
        let same : k ≡ b = holds_one (S'.control u) e (ap (λ (z : ℕ). holds (S'.control z)) q ∙ H.new_holds) in
        a_kid (subst (λ (z : ℕ). One n b z k) (sym q) (subst (λ (z : Code). One n b n z) (sym same) single)))
        (λ nn.
        ⊎_elim
        (λ q.
        let same : k ≡ end_byte_at L = holds_one (S'.control u) e (ap (λ (z : ℕ). holds (S'.control z)) q ∙ m_holds) in
        true-false i (ap is_item same))
        (λ nm. let (same, σ_same) = other_holds D u nv nn (only_m u nm) in stood nv (sym same ∙ e) σ_same)
        (equal? u m))
        (equal? u n))
        (equal? u v)

    parts : Parts S S' v (future_at o b r) v r (One n b) Nothing Nothing m m
    parts =
        record {
          self = busy-holds D.self;
          item = refl;
          executes = busy-waits D.self;
          rest = H.self_holds;
          rest_scope = D.same_scope v v_old;
          rest_held = λ k ne e. ne refl;
          kid = kid_holds;
          kid_scope = kid_scope;
          kid_held = λ x d k i e. new_held x k e (kid_is x d i);
          ends = inr sunk;
          on =
              λ u k nv e.
              let (same, σ_same) = other_holds D u nv (new_held u k e) (only_m u (m_held u k e)) in (same ∙ e, σ_same);
          origin = origin;
          edges =
              own_edges (One n b) sh rs D.self refl D.plans (λ x i. future_hands i)
              (λ x y i. let (e, e') = future_links i in (b, subst (λ (z : ℕ). One n b z b) (sym e) single, e'))
              linked kid_holds bare (λ d k. v_old (kid_is v d k)) (λ d k. m_old (kid_is m d k));
          forces = unforced S S' v v (One n b) m;
        }

-- settled edges lead from lower ranks to higher ones, and so do ways
settled_rises : {S : State} {a b : ℕ} → Shape S → Ranks S → Settled S a b → (S.fin a < S.rank b) × (S.rank b ≤ S.fin b)
settled_rises {a = a} {b = b} sh rk (held e n) = (rk.edge_rank a b e, rk.rank_le b (sh.within a b e).1)
settled_rises {a = h} {b = b} sh rk (given t i e) =
    (omega (arith, rk.hand_rank t h i, rk.edge_rank t b e), rk.rank_le b (sh.within t b e).1)
settled_rises {a = a} {b = b} sh rk (planned t i l) = (rk.link_rank t a b i, rk.rank_le b (link_below sh t a b i).1)

way_rises : {S : State} {a b : ℕ} → Shape S → Ranks S → Way (Settled S) a b → (S.fin a < S.rank b) × (S.rank b ≤ S.fin b)
way_rises sh rk (one e) = settled_rises sh rk e
way_rises sh rk (more e w) =
    let (lt, le) = settled_rises sh rk e in
    let (lt', le') = way_rises sh rk w in
    (omega (arith, lt, le, lt'), le')

-- a force: the new vertex holds the rest; v has come to an end
force_orders :
    {p : Code} {o i v : ℕ} {b r : Code} {S S' : State} → Laid (force_at o i b r) → Shape S → Opened S → Ranks S → Roads S → Roads S'
    → Split S S' v (force_at o i b r) []
    (link (forced_by (S.opens v) (force_at o i b r)) S.count ∷ hand S.count ∷ free S.count ∷ []) (S.scope v)
    → Shared S S' v (force_at o i b r) [] r → Orders p S → Orders p S'
unfolding goes is_item opens_behind
force_orders {o = o} {i = i} {v = v} {b = b} {r = r} {S = S} {S' = S'} l sh op rk rs rs' D H os =
    parts_orders rs rs' parts (force_pieces o i n n n b r) os
    (λ w f d lt i.
    let still =
    still_open op (λ f lt s e. absurd (omega (arith, lt, e))) (λ f lt s end e. absurd (omega (arith, lt, e))) f d in
    open_cases sh D w f d lt i (still v (busy_below sh v D.self)) still)
  where
    n : ℕ
    n = S.count

    L : ℕ
    L = S.setting.last_byte

    c : Code
    c = force_at o i b r

    -- the first vertex of the future
    t : ℕ
    t = forced_by (S.opens v) c

    new : S.control n ≡ over
    new = sh.beyond n (omega arith)

    v_below : v < n
    v_below = busy_below sh v D.self

    t_below : t < n
    t_below = forced_below sh op D.self

    t_open : In (t, b) (S.opens v)
    t_open = forced_open op D.self

    t_old : t ≡ n → ⊥
    t_old e = absurd (omega (arith, t_below))

    F : ℕ → Type 0
    F x = x ≡ t

    new_held : (u : ℕ) (k : Code) → holds (S.control u) ≡ some k → u ≡ n → ⊥
    new_held u k e q = over-holds_none (ap S.control q ∙ new) e

    none : (x : ℕ) → In x [] → ⊥
    none x i = in_none i

    -- it ranks before v, so v does not lead there
    t_off : Way (Settled S) v t → ⊥
    t_off w =
        let item : HasItem S v c = (busy_code D.self, refl) in
        let (lt, le) = way_rises sh rk w in
        absurd (omega (arith, lt, le, op.before v t b c t_open item, laid_le c l, rk.code_fin v c item))

    -- where it waits for something it is not finished, and so it leads to the rest's vertex
    t_leads : (p : ℕ) → Waits S t p → Settled S' t n
    t_leads p w =
        let (x, e) = waits_led rs w in
        split_new D.plans here (D.living t t_old ∙ waits-live (S.control t) (rs.into x t e))

    forces : Forced S S' v n NoKid F (InA b) n
    forces =
        record {
          empty =
              λ x k f e i.
              sits-holds (S.control t) (op.there v t b v_below t_open).2 (ap (λ (z : ℕ). holds (S.control z)) (sym f) ∙ e) i;
          off = λ x f w. t_off (subst (λ (z : ℕ). Way (Settled S) v z) f w);
          not_rest = λ x f e. t_old (sym f ∙ e);
          not_end = λ x f e. t_old (sym f ∙ sym e);
          not_kid = λ x d f k. k;
          waits_for = λ u p k g. let w = os.awaits v t b v_below t_open u p k g in (t, refl, w, t_leads p w);
          waited = λ u p x k f w. os.awaited v t b v_below t_open u p k (subst (λ (z : ℕ). Waits S z p) f w);
        }

    origin : (u : ℕ) (k : Code) → holds (S'.control u) ≡ some k → is_item k ≡ true → Origin S S' v n r NoKid u k
    origin u k e i =
        ⊎_elim
        (λ q.
        let same : k ≡ end_byte_at L = holds_one (S'.control u) e (ap (λ (z : ℕ). holds (S'.control z)) q ∙ H.self_holds) in
        true-false i (ap is_item same))
        (λ nv.
        ⊎_elim
        (λ q. the_rest q (holds_one (S'.control u) e (ap (λ (z : ℕ). holds (S'.control z)) q ∙ H.new_holds)))
        (λ nn. let (same, σ_same) = other_holds D u nv nn (none u) in stood nv (sym same ∙ e) σ_same)
        (equal? u n))
        (equal? u v)

    parts : Parts S S' v (force_at o i b r) n r NoKid F (InA b) n n
    parts =
        record {
          self = busy-holds D.self;
          item = refl;
          executes = busy-waits D.self;
          rest = H.new_holds;
          rest_scope = D.new_scope;
          rest_held = λ k ne e. new_held n k e refl;
          kid = λ x d k. absurd k;
          kid_scope = λ x d k. absurd k;
          kid_held = λ x d k i e. i;
          ends = inl (inl refl, inl refl);
          on =
              λ u k nv e.
              let (same, σ_same) = other_holds D u nv (new_held u k e) (none u) in (same ∙ e, σ_same);
          origin = origin;
          edges =
              handed_edges NoKid F sh D.self refl D.plans (later here) (λ x i. force_hands i)
              (λ x y i. inr (force_links i)) (λ x d k. absurd k) (λ x d k. absurd k) (new_bare sh rs) (λ x d k. absurd k) (λ d k. k);
          forces = forces;
        }

-- The split of an item keeps the order.
pub splits_orders :
    (p : Code) {S : State} {v : ℕ} {c : Code} {ms : List ℕ} {k : Kid} → Laid p → Coded p S → Shape S → Opened S → Ranks S → Roads S
    → Roads (item_split S v c ms k) → Orders p S → S.control v ≡ busy c ms → Splits S.setting.edition c ms k
    → Orders p (item_split S v c ms k)
unfolding resolved
splits_orders p {S} {v} lp cd sh op rk rs rs' os q (async_1 {o = o} {b = b} {r = r}) =
    async_orders (held_laid p S v lp cd (busy-holds q)) sh op rs rs'
    (split_of (kid b own_scope) _ sh q (todo_async _ o b r v (S.scope v) _ S.count)) (shared_of (kid b own_scope) sh q) os
splits_orders p {S} {v} lp cd sh op rk rs rs' os q (finish_2 {o = o} {m = m} {b = b} {r = r}) =
    finish_orders (held_laid p S v lp cd (busy-holds q)) sh op rs rs'
    (split_of (kid b made_1) _ sh q (todo_finish _ o b r v (S.scope v) _ m S.count)) (shared_of (kid b made_1) sh q) os
splits_orders p {S} {v} lp cd sh op rk rs rs' os q (fork_3 {o = o} {m = m} {m' = m'} {b = b} {c = c} {r = r} e) =
    fork_orders e (held_laid p S v lp cd (busy-holds q)) sh op rs rs'
    (split_of (kid r own_scope) _ sh q (todo_fork e o b c r v (S.scope v) _ m m' S.count)) (shared_of (kid r own_scope) sh q) os
splits_orders p {S} {v} lp cd sh op rk rs rs' os q (fork_yields {o = o} {m = m} {b = b} {c = c} {r = r} e) =
    fork_yields_orders e (held_laid p S v lp cd (busy-holds q)) sh op rs rs'
    (split_of (kid c own_scope) _ sh q (todo_fork_yields e o b c r v (S.scope v) _ m S.count)) (shared_of (kid c own_scope) sh q) os
splits_orders p {S} {v} lp cd sh op rk rs rs' os q (future_2 {o = o} {m = m} {b = b} {r = r}) =
    future_orders (held_laid p S v lp cd (busy-holds q)) sh op rs rs'
    (split_of (kid b made_1) _ sh q (todo_future _ o b r v (S.scope v) _ m S.count)) (shared_of (kid b made_1) sh q) os
splits_orders p {S} {v} lp cd sh op rk rs rs' os q (force_1 {o = o} {n = n} {b = b} {r = r}) =
    force_orders (held_laid p S v lp cd (busy-holds q)) sh op rk rs rs'
    (split_of (kid r own_scope) _ sh q (todo_force _ o n b r v (S.scope v) _ S.count)) (shared_of (kid r own_scope) sh q) os
