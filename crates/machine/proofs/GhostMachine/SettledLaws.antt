-- Settled edges as the moves change them. A link, a hand-over, a release and a yield leave them as they are: what was planned is held now, and an
-- edge from a finished vertex was not settled and is not held. A stop takes those out of the vertex that stops. A split adds what its item
-- plans, and gives the edges out of its vertex to another one if the item hands them over. No other move changes them.
use Prim.Native.Nat.{ℕ, ◌<◌}
use mathlib.Core.Path.{◌≡◌, refl, sym, ◌∙◌, ap, subst}
use mathlib.Core.Bool.{true, false}
use mathlib.Core.Logic.{⊎_elim}
use mathlib.Core.List.{List, [], ◌∷◌}
use Rattle.graph.proofs.TestLaws.{equal?, true-false}
use Rattle.program.specs.Located.{Code}
use Rattle.machine.proofs.GhostMachine.Ghost.{Do, link, hand, Control, fresh, ready, joining, State, put, resumed, done, with_control}
use Rattle.machine.proofs.GhostMachine.Ghost.{handed, dropped, live}
use Rattle.machine.proofs.GhostMachine.Invariant.{In, here, later, tasks, tasks_of, Ordered, Settled, held, given, planned, Shape}
use Rattle.machine.proofs.GhostMachine.GhostLaws.{put_same, put_other, clash, in_cases, tasks-resumed, put_keeps, in_empty}
use Rattle.machine.proofs.GhostMachine.GhostLaws.{fresh_new, new_below}
use Rattle.machine.proofs.GhostMachine.RoadLaws.{done_keeps, fresh_idle, sits_idle, is_source, fresh_source, sits_source, live-resumed, linked_if}
use Rattle.machine.proofs.GhostMachine.RoadLaws.{linked_if_cases, linked_if_old, linked_if_new, handed_cases, handed_old, handed_new}
use Rattle.machine.proofs.GhostMachine.RoadLaws.{dropped_edge, dropped_old}

-- a member of a list, in the same list
in_same : {A : Type 0} {x : A} {l l' : List A} → l ≡ l' → In x l → In x l'
in_same {x} e i = subst (λ l. In x l) e i

-- the sources of the edges that are still to be made are finished as before, or not
abbrev pub Lives : State → State → Type 0
Lives S S' = (t a b : ℕ) → In (link a b) (tasks_of S t) → live (S'.control a) ≡ live (S.control a)

-- v has done d, the first of what it had left to do, and ds is left; no vertex finishes
pub record Did (S S' : State) (v : ℕ) (d : Do) (ds : List Do) : Type 0 where
  pub before : tasks_of S v ≡ d ∷ ds
  pub after : tasks_of S' v ≡ ds
  pub others : (t : ℕ) → (t ≡ v → ⊥) → tasks_of S' t ≡ tasks_of S t
  pub lives : (u : ℕ) → live (S'.control u) ≡ live (S.control u)

-- v has done d: it is seen as before, but for what it has left to do
pub acts_keeps :
    {B : Type 0} (S : State) (v : ℕ) {c : Code} {d : Do} {ds : List Do} (g : Control → B) → ((c : Code) → g (ready c) ≡ g (fresh c))
    → g (resumed c d ds) ≡ g (joining c d ds) → S.control v ≡ joining c d ds → (u : ℕ)
    → g (put (done S v d).control v (resumed c d ds) u) ≡ g (S.control u)
acts_keeps S v {c} {d} {ds} g f e q u =
    put_keeps g (done S v d).control v (resumed c d ds) (e ∙ sym (done_keeps g f S v d v ∙ ap g q)) u ∙ done_keeps g f S v d u

-- and d is done
pub acts_did :
    {S : State} {v : ℕ} {c : Code} {d : Do} {ds : List Do} → Shape S → S.control v ≡ joining c d ds
    → Did S (with_control (done S v d) (put (done S v d).control v (resumed c d ds))) v d ds
unfolding tasks live
acts_did {S} {v} {c} {d} {ds} sh q =
    let ordered = subst (λ x. Ordered (tasks x)) q (sh.todo_fits v).ordered in
    record {
      before = ap tasks q;
      after = ap tasks (put_same (done S v d).control v (resumed c d ds)) ∙ tasks-resumed c d ds ordered;
      others = λ t n. ap tasks (put_other (done S v d).control v (resumed c d ds) t n) ∙ done_keeps tasks (λ c. refl) S v d t;
      lives = acts_keeps S v live (λ c. refl) (live-resumed c d ds) q;
    }

-- what is left was there before
pub task_stood :
    {S S' : State} {v : ℕ} {d x : Do} {ds : List Do} → Did S S' v d ds → (t : ℕ) → In x (tasks_of S' t) → In x (tasks_of S t)
task_stood {S} {S'} {v} D t i =
    ⊎_elim
    (λ e. in_same (sym (ap (tasks_of S) e ∙ D.before)) (later (in_same (ap (tasks_of S') e ∙ D.after) i)))
    (λ n. in_same (D.others t n) i)
    (equal? t v)

-- and what was there is left, but for d
pub left_on :
    {P : Type 0} {S S' : State} {v : ℕ} {d x : Do} {ds : List Do} → Did S S' v d ds → (t : ℕ) → In x (tasks_of S t)
    → (x ≡ d → t ≡ v → P) → (In x (tasks_of S' t) → P) → P
left_on {S = S} {S' = S'} {v = v} D t i f g =
    ⊎_elim
    (λ e.
    in_cases (in_same (ap (tasks_of S) e ∙ D.before) i)
    (λ q. f q e)
    (λ j. g (in_same (sym (ap (tasks_of S') e ∙ D.after)) j)))
    (λ n. g (in_same (sym (D.others t n)) i))
    (equal? t v)

did_first : {S S' : State} {v : ℕ} {d : Do} {ds : List Do} → Did S S' v d ds → In d (tasks_of S v)
did_first D = in_same (sym D.before) here

-- a settled edge between the same ends
settled_at : {S : State} {a b x y : ℕ} → x ≡ a → y ≡ b → Settled S a b → Settled S x y
settled_at {S} {a = a} {y = y} p q s = subst (λ (z : ℕ). Settled S z y) (sym p) (subst (λ (z : ℕ). Settled S a z) (sym q) s)

-- the source of an edge that is still to be made has nothing to do, and one that edges will be handed to
pub source_idle : {S : State} (t : ℕ) {a b : ℕ} → Shape S → In (link a b) (tasks_of S t) → tasks_of S a ≡ []
source_idle {S} t {a} {b} sh i =
    ⊎_elim
    (λ j. fresh_idle ((sh.todo_fits t).frees a j).0.1)
    (λ f. sits_idle (S.control a) f.sitting)
    ((sh.todo_fits t).link_from a b i)

pub hand_idle : {S : State} (t : ℕ) {h : ℕ} → Shape S → In (hand h) (tasks_of S t) → tasks_of S h ≡ []
hand_idle t {h} sh i = fresh_idle ((sh.todo_fits t).frees h ((sh.todo_fits t).hand_to h i)).0.1

-- such a source has been made
pub source_below : {S : State} (t : ℕ) {a b : ℕ} → Shape S → In (link a b) (tasks_of S t) → a < S.count
source_below {S} t {a} {b} sh i =
    ⊎_elim
    (λ j. new_below sh a (fresh_new ((sh.todo_fits t).frees a j).0.1))
    (λ f. f.there)
    ((sh.todo_fits t).link_from a b i)

-- the same edges and the same to do, from vertices that are finished as before, or not
pub settled_same :
    {S S' : State} {x y : ℕ} → ((a b : ℕ) → S'.edge a b ≡ S.edge a b) → ((t : ℕ) → tasks_of S' t ≡ tasks_of S t) → Lives S S'
    → Settled S x y → Settled S' x y
settled_same {x = x} {y = y} E T F (held e n) = held (E x y ∙ e) (λ h i. n h (in_same (T x) i))
settled_same {y = y} E T F (given t i e) = given t (in_same (sym (T t)) i) (E t y ∙ e)
settled_same {x = x} {y = y} E T F (planned t i l) = planned t (in_same (sym (T t)) i) (F t x y i ∙ l)

-- a link that is done
pub link_back :
    {S S' : State} {v a b x y : ℕ} {ds : List Do} → Shape S → Did S S' v (link a b) ds
    → ((x y : ℕ) → S'.edge x y ≡ linked_if (live (S.control a)) S.edge a b x y) → Settled S' x y → Settled S x y
link_back {S} {v = v} {a = a} {b = b} {x = x} {y = y} sh D E (held e n) =
    linked_if_cases (live (S.control a)) S.edge a b x y (sym (E x y) ∙ e)
    (λ q. held q (λ h i. left_on D x i (λ p t. clash cc) (n h)))
    (λ l p q. settled_at p q (planned v (did_first D) l))
link_back {S} {v = v} {a = a} {b = b} {y = y} sh D E (given t i e) =
    linked_if_cases (live (S.control a)) S.edge a b t y (sym (E t y) ∙ e)
    (λ q. given t (task_stood D t i) q)
    (λ l p q. in_empty (ap (tasks_of S) p ∙ source_idle v sh (did_first D)) (task_stood D t i))
link_back {x = x} sh D E (planned t i l) = planned t (task_stood D t i) (sym (D.lives x) ∙ l)

pub link_on :
    {S S' : State} {v a b x y : ℕ} {ds : List Do} → Shape S → Did S S' v (link a b) ds
    → ((x y : ℕ) → S'.edge x y ≡ linked_if (live (S.control a)) S.edge a b x y) → Settled S x y → Settled S' x y
link_on {S} {a = a} {b = b} {x = x} {y = y} sh D E (held e n) =
    held (E x y ∙ linked_if_old (live (S.control a)) S.edge a b x y e) (λ h i. n h (task_stood D x i))
link_on {S} {a = a} {b = b} {y = y} sh D E (given t i e) =
    left_on D t i (λ p q. clash cc) (λ j. given t j (E t y ∙ linked_if_old (live (S.control a)) S.edge a b t y e))
link_on {S} {v = v} {a = a} {b = b} {x = x} {y = y} sh D E (planned t i l) =
    left_on D t i
    (λ p q.
    let at : x ≡ a = cc in
    let new = E a b ∙ linked_if_new (live (S.control a)) S.edge a b (subst (λ (z : ℕ). live (S.control z) ≡ true) at l) in
    settled_at at (cc) (held new (λ h j. in_empty (source_idle v sh (did_first D)) (task_stood D a j))))
    (λ j. planned t j (D.lives x ∙ l))

-- edges that are handed on
pub hand_back :
    {S S' : State} {v h x y : ℕ} {ds : List Do} → Shape S → Did S S' v (hand h) ds
    → ((x y : ℕ) → S'.edge x y ≡ handed S.edge v h x y) → Settled S' x y → Settled S x y
hand_back {S} {v = v} {h = h} {x = x} {y = y} sh D E (held e n) =
    handed_cases S.edge v h x y (sym (E x y) ∙ e)
    (λ q f. held q (λ k i. left_on D x i (λ p t. absurd (f t)) (n k)))
    (λ p q. settled_at p refl (given v (did_first D) q))
hand_back {S} {v = v} {h = h} {y = y} sh D E (given t i e) =
    handed_cases S.edge v h t y (sym (E t y) ∙ e)
    (λ q f. given t (task_stood D t i) q)
    (λ p q. in_empty (ap (tasks_of S) p ∙ hand_idle v sh (did_first D)) (task_stood D t i))
hand_back {x = x} sh D E (planned t i l) = planned t (task_stood D t i) (sym (D.lives x) ∙ l)

pub hand_on :
    {S S' : State} {v h x y : ℕ} {ds : List Do} → Shape S → Did S S' v (hand h) ds
    → ((x y : ℕ) → S'.edge x y ≡ handed S.edge v h x y) → Settled S x y → Settled S' x y
hand_on {S} {v = v} {h = h} {x = x} {y = y} sh D E (held e n) =
    held (E x y ∙ handed_old S.edge v h x y e (λ p. n h (in_same (sym (ap (tasks_of S) p)) (did_first D))))
    (λ k i. n k (task_stood D x i))
hand_on {S} {v = v} {h = h} {x = k} {y = y} sh D E (given t i e) =
    ⊎_elim
    (λ p.
    let new = E h y ∙ handed_new S.edge v h y (subst (λ (z : ℕ). S.edge z y ≡ true) p e) in
    settled_at ((sh.todo_fits v).hand_one k h (in_same (ap (tasks_of S) p) i) (did_first D)) refl
    (held new (λ k j. in_empty (hand_idle v sh (did_first D)) (task_stood D h j))))
    (λ n. given t (in_same (sym (D.others t n)) i) (E t y ∙ handed_old S.edge v h t y e n))
    (equal? t v)
hand_on {x = x} sh D E (planned t i l) = left_on D t i (λ p q. clash cc) (λ j. planned t j (D.lives x ∙ l))

-- a command that changes no edge: a release or a yield
pub plain_back :
    {S S' : State} {v x y : ℕ} {d : Do} {ds : List Do} → ((h : ℕ) → hand h ≡ d → ⊥) → Did S S' v d ds
    → ((x y : ℕ) → S'.edge x y ≡ S.edge x y) → Settled S' x y → Settled S x y
plain_back {x = x} {y = y} no_hand D E (held e n) = held (sym (E x y) ∙ e) (λ k i. left_on D x i (λ p q. absurd (no_hand k p)) (n k))
plain_back {y = y} no_hand D E (given t i e) = given t (task_stood D t i) (sym (E t y) ∙ e)
plain_back {x = x} no_hand D E (planned t i l) = planned t (task_stood D t i) (sym (D.lives x) ∙ l)

pub plain_on :
    {S S' : State} {v x y : ℕ} {d : Do} {ds : List Do} → ((h : ℕ) → hand h ≡ d → ⊥) → ((a b : ℕ) → link a b ≡ d → ⊥) → Did S S' v d ds
    → ((x y : ℕ) → S'.edge x y ≡ S.edge x y) → Settled S x y → Settled S' x y
plain_on {x = x} {y = y} no_hand no_link D E (held e n) = held (E x y ∙ e) (λ k i. n k (task_stood D x i))
plain_on {x = x} {y = y} no_hand no_link D E (given t i e) = left_on D t i (λ p q. absurd (no_hand x p)) (λ j. given t j (E t y ∙ e))
plain_on {x = x} {y = y} no_hand no_link D E (planned t i l) =
    left_on D t i (λ p q. absurd (no_link x y p)) (λ j. planned t j (D.lives x ∙ l))

-- a vertex that stops: no other finishes
pub stop_back :
    {S S' : State} (v : ℕ) {x y : ℕ} → ((x y : ℕ) → S'.edge x y ≡ dropped S.edge v x y)
    → ((t : ℕ) → tasks_of S' t ≡ tasks_of S t) → ((u : ℕ) → live (S'.control u) ≡ true → live (S.control u) ≡ true)
    → Settled S' x y → Settled S x y
stop_back {S} v {x} {y} E T F (held e n) = held (dropped_edge S.edge v x y (sym (E x y) ∙ e)) (λ h i. n h (in_same (sym (T x)) i))
stop_back {S} v {y = y} E T F (given t i e) = given t (in_same (T t) i) (dropped_edge S.edge v t y (sym (E t y) ∙ e))
stop_back v {x} E T F (planned t i l) = planned t (in_same (T t) i) (F x l)

pub stop_on :
    {S S' : State} (v : ℕ) {x y : ℕ} → ((x y : ℕ) → S'.edge x y ≡ dropped S.edge v x y)
    → ((t : ℕ) → tasks_of S' t ≡ tasks_of S t) → ((u : ℕ) → (u ≡ v → ⊥) → live (S'.control u) ≡ live (S.control u))
    → tasks_of S v ≡ [] → (x ≡ v → ⊥) → Settled S x y → Settled S' x y
stop_on {S} v {x} {y} E T F idle f (held e n) =
    held (E x y ∙ dropped_old S.edge v x y e f) (λ h i. n h (in_same (T x) i))
stop_on {S} v {y = y} E T F idle f (given t i e) =
    given t (in_same (sym (T t)) i) (E t y ∙ dropped_old S.edge v t y e (λ p. in_empty (ap (tasks_of S) p ∙ idle) i))
stop_on v {x} E T F idle f (planned t i l) = planned t (in_same (sym (T t)) i) (F x f ∙ l)

-- v, which had nothing left to do, has T to do now
pub record Plans (S S' : State) (v : ℕ) (T : List Do) : Type 0 where
  pub idle : tasks_of S v ≡ []
  pub plan : tasks_of S' v ≡ T
  pub others : (t : ℕ) → (t ≡ v → ⊥) → tasks_of S' t ≡ tasks_of S t
  pub edges : (x y : ℕ) → S'.edge x y ≡ S.edge x y
  pub lives : Lives S S'

-- what is to do stood there before, or v has it to do
pub plan_cases :
    {P : Type 0} {S S' : State} {v : ℕ} {T : List Do} {d : Do} → Plans S S' v T → (t : ℕ) → In d (tasks_of S' t)
    → (t ≡ v → In d T → P) → ((t ≡ v → ⊥) → In d (tasks_of S t) → P) → P
plan_cases {S = S} {S' = S'} {v = v} D t i f g =
    ⊎_elim
    (λ e. f e (in_same (ap (tasks_of S') e ∙ D.plan) i))
    (λ n. g n (in_same (D.others t n) i))
    (equal? t v)

pub plan_old :
    {S S' : State} {v : ℕ} {T : List Do} {d : Do} → Plans S S' v T → (t : ℕ) → In d (tasks_of S t) → In d (tasks_of S' t)
plan_old {S} {v = v} D t i = in_same (sym (D.others t (λ e. in_empty (ap (tasks_of S) e ∙ D.idle) i))) i

-- a settled edge behind a split was one, or was an edge out of v and is given to another vertex, or is planned by the item
pub split_cases :
    {P : Type 0} {S S' : State} {v x y : ℕ} {T : List Do} → Plans S S' v T → Settled S' x y → (Settled S x y → P)
    → (In (hand x) T → S.edge v y ≡ true → P) → (In (link x y) T → P) → P
split_cases {S = S} {v = v} {x = x} {y = y} D (held e n) f g k =
    f (held (sym (D.edges x y) ∙ e) (λ h i. n h (plan_old D x i)))
split_cases {S = S} {v = v} {y = y} D (given t i e) f g k =
    plan_cases D t i
    (λ p j. g j (subst (λ (z : ℕ). S.edge z y ≡ true) p (sym (D.edges t y) ∙ e)))
    (λ n j. f (given t j (sym (D.edges t y) ∙ e)))
split_cases {x = x} {y = y} D (planned t i l) f g k =
    plan_cases D t i (λ p j. k j) (λ n j. f (planned t j (sym (D.lives t x y j) ∙ l)))

-- a settled edge out of another vertex than v stays
pub split_old : {S S' : State} {v x y : ℕ} {T : List Do} → Plans S S' v T → (x ≡ v → ⊥) → Settled S x y → Settled S' x y
split_old {x = x} {y = y} D f (held e n) = held (D.edges x y ∙ e) (λ h i. n h (in_same (D.others x f) i))
split_old {y = y} D f (given t i e) = given t (plan_old D t i) (D.edges t y ∙ e)
split_old {x = x} {y = y} D f (planned t i l) = planned t (plan_old D t i) (D.lives t x y i ∙ l)

-- an edge out of v is given on, or stays
pub split_given :
    {S S' : State} {v h y : ℕ} {T : List Do} → Plans S S' v T → In (hand h) T → S.edge v y ≡ true → Settled S' h y
split_given {v = v} {y = y} D i e = given v (in_same (sym D.plan) i) (D.edges v y ∙ e)

pub split_own :
    {S S' : State} {v y : ℕ} {T : List Do} → Plans S S' v T → ((h : ℕ) → In (hand h) T → ⊥) → S.edge v y ≡ true → Settled S' v y
split_own {v = v} {y = y} D n e = held (D.edges v y ∙ e) (λ h i. n h (in_same D.plan i))

-- and what the item plans is settled, if it leads from a vertex that is not finished
pub split_new :
    {S S' : State} {v x y : ℕ} {T : List Do} → Plans S S' v T → In (link x y) T → live (S'.control x) ≡ true → Settled S' x y
split_new {v = v} D i l = planned v (in_same (sym D.plan) i) l

-- the settled edges out of a vertex from which none is still to be made are held by it
pub own_held : {S : State} {v y : ℕ} → Shape S → is_source (S.control v) ≡ false → Settled S v y → S.edge v y ≡ true
own_held sh n (held e f) = e
own_held {v = v} sh n (given t i e) = true-false (fresh_source ((sh.todo_fits t).frees v ((sh.todo_fits t).hand_to v i)).0.1) n
own_held {S} {v} {y} sh n (planned t i l) =
    ⊎_elim
    (λ j. true-false (fresh_source ((sh.todo_fits t).frees v j).0.1) n)
    (λ f. true-false (sits_source (S.control v) f.sitting l) n)
    ((sh.todo_fits t).link_from v y i)
