-- The laws of the ghost machine's building blocks, so that proofs about moves need not open them.
--
-- A function changed in one place
--     put_same       put f v x v ≡ x
--     put_other      put f v x u ≡ f u, where u is not v; put_below: where u is below v
--     put_cases      P (put f v x u) from P x, where u is v, and P (f u), where it is not
--     put_all        P (put f v x u) from P x and P of every value of f
--     put_keeps      g (put f v x u) ≡ g (f u), where g x ≡ g (f v); puts_keep: the same of two changes
-- Controls
--     clash          anything, from `true ≡ false`; `clash (cc)` where the hypotheses give two controls, or two other constructors, to one
--                    thing. `cc` alone proves what equal constructors have in common: from x ≡ busy c ms and x ≡ busy d ns, ms ≡ ns
--     apart          u is not v, where a test on what f gives tells them apart
--     draft_new, fresh_new, ready_old, busy_old, joining_old, over_old    is_new of each
--     woken_cases    P x (woken x), from P x x and P (draft c) (fresh c); woken_keeps: g (woken x) ≡ g x, where g sees these two alike
--     freed_cases    P x (freed x), from P x x and P (fresh c) (ready c); freed_keeps: g (freed x) ≡ g x, where g sees these two alike
--     onward_cases   P (onward c ds), from P (busy c []) and P (joining c d ds)
--     resumed_cases  P (resumed c d ds), from these and P (ready c)
-- Lists
--     in_cases       In x (y ∷ ys): x is y, or In x ys
--     in_none        nothing is in the empty list; in_empty: nor in one that is equal to it
--     in_left        In x xs → In x (xs ++ ys); in_right: In x ys → In x (xs ++ ys); in_either: In x (xs ++ ys), which of them
--     in_last        In x (xs ++ (x ∷ []))
--     in_snoc        In x (xs ++ (y ∷ [])): In x xs, or x is y
--     once_snoc      Once (xs ++ (x ∷ [])), where x is not in xs
--     among_in, in_among, among_out    among u ms is In u ms
--     parts_are      lists that are equal have the same first element and the same rest
-- What is left to do
--     each_link, each_hand, each_free    what holds of each link, transfer, release in a list, holds of one that is in it. For a list that
--                            is written out, EachLink, EachHand and EachFree are tuples that skip the other commands
--     no_link, no_hand       there is none behind a release
--     tasks-onward           tasks (onward c ds) ≡ ds; tasks-resumed: tasks (resumed c d ds) ≡ ds, where d ∷ ds is in order
--     waits-onward           waits (onward c ds) ≡ yields ds; waits-resumed: waits (resumed c d ds) ≡ yields (d ∷ ds)
-- Where an item under way stands
--     makes_at       the vertex to be made is not the item's last one: Makes
--     splits_at      it is the last one: Splits
--     either_edition       what follows from either edition
--     todo_async and so on     what the item of each kind does behind its split
-- Vertices of a state with a shape
--     below          a vertex that is not over is below count
--     new_below      so is a new one
--     doer_below     so is one that has something left to do; doer_old: it is not new
--     coded_below    and one that has code; over_uncoded: one that is over has none
--     draft_of       what is known of a vertex of an item that is not split
--     one_freer      no vertex is released by two
-- Open futures
--     vertex_open    the vertex that a number names is the first of the future whose body the number names
--     forced_open    so the future of the force that a vertex is at is open there
use Prim.Native.Nat.{ℕ, zero, suc, ◌<◌}
use mathlib.Core.Path.{◌≡◌, refl, sym, ◌∙◌, ap, subst}
use mathlib.Core.Bool.{Bool, true, false}
use mathlib.Core.Logic.{◌⊎◌, inl, inr, ⊎_elim}
use mathlib.Core.List.{List, [], ◌∷◌, ◌++◌}
use mathlib.Core.Option.{some, some-injective, none-ne-some}
use native.Mathlib.Nat.{lt_of_not-le}
use native.Mathlib.Omega.{arith}
use lib.Dec.{eqb}
use lib.ListN.{length, drop}
use borrow.Author.Tests.{eq-eqb, ne_eqb, eqb-true}
use Rattle.graph.proofs.TestLaws.{equal?, either_left, either_right, either_cases, true-false, not_so}
use Rattle.program.specs.declared.Edition.{Edition}
use Rattle.program.specs.declared.Edition.TheVariants.{First, Second}
use Rattle.program.specs.Encodings.{own_scope, made_1, row_of, fork_row}
use Rattle.program.specs.Located.{Code, end_byte_at, job_at, async_at, finish_at, fork_at, future_at, force_at}
use Rattle.program.proofs.OpenLaws.{nth_open, Opens}
use Rattle.machine.proofs.GhostMachine.Ghost.{Do, link, hand, free, yield, Control, draft, fresh, ready, busy, joining, over, Setting, State, put, fork_kids}
use Rattle.machine.proofs.GhostMachine.Ghost.{kids, kind_of, commands_of, resolved, joins, todo, onward, resumed, woken, freed, among, Kid, kid, awaiting, vertex_at, forced_by}
use Rattle.machine.proofs.GhostMachine.Invariant.{In, here, later, Once, tasks, tasks_of, yields, waits, is_new, Draft, Drafts, FreesOnly}
use Rattle.machine.proofs.GhostMachine.Invariant.{Ordered, Shape, code_of, bodies, Opened}

-- a function is changed at v
pub put_same : {A : Type 0} (f : ℕ → A) (v : ℕ) (x : A) → put f v x v ≡ x
put_same f v x = rw (eq-eqb v v refl) refl

-- and nowhere else
pub put_other : {A : Type 0} (f : ℕ → A) (v : ℕ) (x : A) (u : ℕ) → (u ≡ v → ⊥) → put f v x u ≡ f u
put_other f v x u ne = rw (ne_eqb u v ne) refl

-- so it is as it was below v
pub put_below : {A : Type 0} (f : ℕ → A) (v : ℕ) (x : A) (u : ℕ) → u < v → put f v x u ≡ f u
put_below f v x u lt = put_other f v x u (λ e. absurd (omega arith))

-- what holds of the new value at v and of the old ones elsewhere holds of all
pub put_cases :
    {A : Type 0} (P : A → Type 0) (f : ℕ → A) (v : ℕ) (x : A) (u : ℕ) → (u ≡ v → P x) → ((u ≡ v → ⊥) → P (f u))
    → P (put f v x u)
put_cases P f v x u at off =
    ⊎_elim
    (λ e. subst (λ (w : ℕ). P (put f v x w)) (sym e) (subst P (sym (put_same f v x)) (at e)))
    (λ n. subst P (sym (put_other f v x u n)) (off n))
    (equal? u v)

-- what holds of its values and of the new one holds of all
pub put_all : {A : Type 0} (P : A → Type 0) (f : ℕ → A) (v : ℕ) (x : A) → ((u : ℕ) → P (f u)) → P x → (u : ℕ) → P (put f v x u)
put_all P f v x h p u = put_cases P f v x u (λ e. p) (λ n. h u)

-- what is seen of the new value as it was of the old one is seen everywhere as before
pub put_keeps :
    {A B : Type 0} (g : A → B) (f : ℕ → A) (v : ℕ) (x : A) → g x ≡ g (f v) → (u : ℕ) → g (put f v x u) ≡ g (f u)
put_keeps g f v x e u = put_cases (λ y. g y ≡ g (f u)) f v x u (λ q. e ∙ ap (λ (w : ℕ). g (f w)) (sym q)) (λ n. refl)

-- the same of two changes
pub puts_keep :
    {A B : Type 0} (g : A → B) (f : ℕ → A) (n v : ℕ) (y x : A) → g y ≡ g (f n) → g x ≡ g (f v) → (u : ℕ)
    → g (put (put f n y) v x u) ≡ g (f u)
puts_keep g f n v y x e d u =
    let inner = put_keeps g f n y e in put_keeps g (put f n y) v x (d ∙ sym (inner v)) u ∙ inner u

-- a constructor is not another one
pub clash : {A : Type 0} → ◌≡◌ {A = Bool} true false → A
clash e = true-false refl e

-- two vertices that a test tells apart
pub apart : {A : Type 0} (test : A → Bool) (f : ℕ → A) {u v : ℕ} → test (f u) ≡ true → test (f v) ≡ false → u ≡ v → ⊥
apart test f h k e = true-false h (ap (λ w. test (f w)) e ∙ k)

-- drafts and fresh vertices are new
pub draft_new : {x : Control} {c : Code} → x ≡ draft c → is_new x ≡ true
unfolding is_new
draft_new h = cc

pub fresh_new : {x : Control} {c : Code} → x ≡ fresh c → is_new x ≡ true
unfolding is_new
fresh_new h = cc

-- the others are not
pub ready_old : {x : Control} {c : Code} → x ≡ ready c → is_new x ≡ false
unfolding is_new
ready_old h = cc

pub busy_old : {x : Control} {c : Code} {ms : List ℕ} → x ≡ busy c ms → is_new x ≡ false
unfolding is_new
busy_old h = cc

pub joining_old : {x : Control} {c : Code} {d : Do} {ds : List Do} → x ≡ joining c d ds → is_new x ≡ false
unfolding is_new
joining_old h = cc

pub over_old : {x : Control} → x ≡ over → is_new x ≡ false
unfolding is_new
over_old h = cc

-- waking changes drafts only, and so whatever is seen of them
pub woken_cases :
    (P : Control → Control → Type 0) → ((x : Control) → P x x) → ((c : Code) → P (draft c) (fresh c)) → (x : Control) → P x (woken x)
unfolding woken
woken_cases P same wakes (draft c) = wakes c
woken_cases P same wakes (fresh c) = same (fresh c)
woken_cases P same wakes (ready c) = same (ready c)
woken_cases P same wakes (busy c ms) = same (busy c ms)
woken_cases P same wakes (joining c d ds) = same (joining c d ds)
woken_cases P same wakes over = same over

pub woken_keeps : {B : Type 0} (g : Control → B) → ((c : Code) → g (fresh c) ≡ g (draft c)) → (x : Control) → g (woken x) ≡ g x
woken_keeps g e = woken_cases (λ x y. g y ≡ g x) (λ x. refl) e

-- a release changes fresh vertices only
pub freed_cases :
    (P : Control → Control → Type 0) → ((x : Control) → P x x) → ((c : Code) → P (fresh c) (ready c)) → (x : Control) → P x (freed x)
unfolding freed
freed_cases P same rises (draft c) = same (draft c)
freed_cases P same rises (fresh c) = rises c
freed_cases P same rises (ready c) = same (ready c)
freed_cases P same rises (busy c ms) = same (busy c ms)
freed_cases P same rises (joining c d ds) = same (joining c d ds)
freed_cases P same rises over = same over

pub freed_keeps : {B : Type 0} (g : Control → B) → ((c : Code) → g (ready c) ≡ g (fresh c)) → (x : Control) → g (freed x) ≡ g x
freed_keeps g e = freed_cases (λ x y. g y ≡ g x) (λ x. refl) e

-- who goes on is executing: it is at an item, or has something left to do
pub onward_cases :
    (P : Control → Type 0) (c : Code) → P (busy c []) → ((d : Do) (ds : List Do) → P (joining c d ds)) → (ds : List Do) → P (onward c ds)
unfolding onward
onward_cases P c at left [] = at
onward_cases P c at left (d ∷ ds) = left d ds

-- who has done a command goes on, or is released
pub resumed_cases :
    (P : Control → Type 0) (c : Code) → P (busy c []) → ((d : Do) (ds : List Do) → P (joining c d ds)) → P (ready c) → (d : Do) (ds : List Do)
    → P (resumed c d ds)
unfolding resumed
resumed_cases P c at left again (link a b) ds = onward_cases P c at left ds
resumed_cases P c at left again (hand h) ds = onward_cases P c at left ds
resumed_cases P c at left again (free m) ds = onward_cases P c at left ds
resumed_cases P c at left again yield ds = again

-- an element is the first, or is behind it
pub in_cases : {A P : Type 0} {x y : A} {ys : List A} → In x (y ∷ ys) → (x ≡ y → P) → (In x ys → P) → P
in_cases here f g = f refl
in_cases (later i) f g = g i

-- nothing is in the empty list
pub in_none : {A P : Type 0} {x : A} → In x [] → P
in_none {P} i = go i refl
  where
    go : {A : Type 0} {x : A} {ys : List A} → In x ys → ys ≡ [] → P
    go here e = clash cc
    go (later i) e = clash cc

-- nothing is in a list that is empty
pub in_empty : {A B : Type 0} {x : A} {l : List A} → l ≡ [] → In x l → B
in_empty {x = x} e i = in_none (subst (λ l. In x l) e i)

-- what is in a list is in a longer one
pub in_left : {A : Type 0} {x : A} {xs : List A} (ys : List A) → In x xs → In x (xs ++ ys)
in_left ys here = here
in_left ys (later i) = later (in_left ys i)

pub in_right : {A : Type 0} {x : A} (xs : List A) {ys : List A} → In x ys → In x (xs ++ ys)
in_right [] i = i
in_right (y ∷ xs) i = later (in_right xs i)

-- and what is in a longer one is in one of its parts
pub in_either : {A : Type 0} {x : A} (xs : List A) {ys : List A} → In x (xs ++ ys) → In x xs ⊎ In x ys
in_either [] i = inr i
in_either {x = x} (y ∷ xs) i =
    in_cases i
    (λ e. inl (subst (λ z. In x (z ∷ xs)) e here))
    (λ k. ⊎_elim (λ l. inl (later l)) (λ r. inr r) (in_either xs k))

-- the last element
pub in_last : {A : Type 0} (x : A) (xs : List A) → In x (xs ++ (x ∷ []))
in_last x [] = here
in_last x (y ∷ ys) = later (in_last x ys)

-- an element is the last, or is before it
pub in_snoc : {A : Type 0} {x y : A} (xs : List A) → In x (xs ++ (y ∷ [])) → In x xs ⊎ (x ≡ y)
in_snoc [] i = in_cases i (λ e. inr e) (λ k. in_none k)
in_snoc (z ∷ zs) i =
    in_cases i
    (λ e. inl (subst (λ w. In w (z ∷ zs)) (sym e) here))
    (λ k. ⊎_elim (λ l. inl (later l)) (λ e. inr e) (in_snoc zs k))

-- no element stands twice, if the last does not
pub once_snoc : {A : Type 0} (x : A) (xs : List A) → Once xs → (In x xs → ⊥) → Once (xs ++ (x ∷ []))
unfolding Once
once_snoc x [] o out = ((λ i. in_none i), tt)
once_snoc x (y ∷ ys) o out =
    ((λ i. ⊎_elim o.0 (λ e. out (subst (λ w. In w (y ∷ ys)) e here)) (in_snoc ys i)), once_snoc x ys o.1 (λ i. out (later i)))

-- the test for being in a list
pub among_in : (u : ℕ) (ms : List ℕ) → among u ms ≡ true → In u ms
unfolding among
among_in u [] h = clash (sym h)
among_in u (m ∷ ms) h =
    ⊎_elim
    (λ e. subst (λ w. In w (m ∷ ms)) (sym (eqb-true u m e)) here)
    (λ k. later (among_in u ms k))
    (either_cases (eqb u m) (among u ms) h)

pub in_among : {u : ℕ} {ms : List ℕ} → In u ms → among u ms ≡ true
unfolding among
in_among {u} (here {xs}) = either_left (among u xs) (eq-eqb u u refl)
in_among {u} (later {y} i) = either_right (eqb u y) (in_among i)

pub among_out : (u : ℕ) (ms : List ℕ) → (In u ms → ⊥) → among u ms ≡ false
among_out u ms out = not_so (among u ms) (λ h. out (among_in u ms h))

-- what holds of each link, of each transfer, of each release in a list
unfoldable pub EachLink : (ℕ → ℕ → Type 0) → List Do → Type 0
EachLink P [] = Unit {0}
EachLink P (link a b ∷ ds) = P a b × EachLink P ds
EachLink P (hand h ∷ ds) = EachLink P ds
EachLink P (free m ∷ ds) = EachLink P ds
EachLink P (yield ∷ ds) = EachLink P ds

unfoldable pub EachHand : (ℕ → Type 0) → List Do → Type 0
EachHand P [] = Unit {0}
EachHand P (link a b ∷ ds) = EachHand P ds
EachHand P (hand h ∷ ds) = P h × EachHand P ds
EachHand P (free m ∷ ds) = EachHand P ds
EachHand P (yield ∷ ds) = EachHand P ds

unfoldable pub EachFree : (ℕ → Type 0) → List Do → Type 0
EachFree P [] = Unit {0}
EachFree P (link a b ∷ ds) = EachFree P ds
EachFree P (hand h ∷ ds) = EachFree P ds
EachFree P (free m ∷ ds) = P m × EachFree P ds
EachFree P (yield ∷ ds) = EachFree P ds

-- holds of one that is in it
pub each_link : {a b : ℕ} (P : ℕ → ℕ → Type 0) (ds : List Do) → EachLink P ds → In (link a b) ds → P a b
unfolding EachLink
each_link P [] h i = in_none i
each_link {a} {b} P (link x y ∷ ds) h i =
    in_cases i
    (λ e. let at : a ≡ x = cc in let at' : b ≡ y = cc in subst (λ w. P w b) (sym at) (subst (P x) (sym at') h.0))
    (λ k. each_link P ds h.1 k)
each_link P (hand x ∷ ds) h i = in_cases i (λ e. clash cc) (λ k. each_link P ds h k)
each_link P (free x ∷ ds) h i = in_cases i (λ e. clash cc) (λ k. each_link P ds h k)
each_link P (yield ∷ ds) h i = in_cases i (λ e. clash cc) (λ k. each_link P ds h k)

pub each_hand : {a : ℕ} (P : ℕ → Type 0) (ds : List Do) → EachHand P ds → In (hand a) ds → P a
unfolding EachHand
each_hand P [] h i = in_none i
each_hand P (link x y ∷ ds) h i = in_cases i (λ e. clash cc) (λ k. each_hand P ds h k)
each_hand {a} P (hand x ∷ ds) h i =
    in_cases i (λ e. let at : a ≡ x = cc in subst P (sym at) h.0) (λ k. each_hand P ds h.1 k)
each_hand P (free x ∷ ds) h i = in_cases i (λ e. clash cc) (λ k. each_hand P ds h k)
each_hand P (yield ∷ ds) h i = in_cases i (λ e. clash cc) (λ k. each_hand P ds h k)

pub each_free : {a : ℕ} (P : ℕ → Type 0) (ds : List Do) → EachFree P ds → In (free a) ds → P a
unfolding EachFree
each_free P [] h i = in_none i
each_free P (link x y ∷ ds) h i = in_cases i (λ e. clash cc) (λ k. each_free P ds h k)
each_free P (hand x ∷ ds) h i = in_cases i (λ e. clash cc) (λ k. each_free P ds h k)
each_free {a} P (free x ∷ ds) h i =
    in_cases i (λ e. let at : a ≡ x = cc in subst P (sym at) h.0) (λ k. each_free P ds h.1 k)
each_free P (yield ∷ ds) h i = in_cases i (λ e. clash cc) (λ k. each_free P ds h k)

-- behind a release: no link and no transfer
pub no_link : {a b : ℕ} (ds : List Do) → FreesOnly ds → In (link a b) ds → ⊥
unfolding FreesOnly
no_link [] o i = in_none i
no_link (link x y ∷ ds) o i = o
no_link (hand x ∷ ds) o i = o
no_link (free m ∷ ds) o i = in_cases i (λ e. clash cc) (λ k. no_link ds o k)
no_link (yield ∷ ds) o i = in_cases i (λ e. clash cc) (λ k. in_empty o k)

pub no_hand : {h : ℕ} (ds : List Do) → FreesOnly ds → In (hand h) ds → ⊥
unfolding FreesOnly
no_hand [] o i = in_none i
no_hand (link x y ∷ ds) o i = o
no_hand (hand x ∷ ds) o i = o
no_hand (free m ∷ ds) o i = in_cases i (λ e. clash cc) (λ k. no_hand ds o k)
no_hand (yield ∷ ds) o i = in_cases i (λ e. clash cc) (λ k. in_empty o k)

-- what a vertex has left to do after a command
pub tasks-onward : (c : Code) (ds : List Do) → tasks (onward c ds) ≡ ds
unfolding tasks onward
tasks-onward c [] = refl
tasks-onward c (d ∷ ds) = refl

pub tasks-resumed : (c : Code) (d : Do) (ds : List Do) → Ordered (d ∷ ds) → tasks (resumed c d ds) ≡ ds
unfolding tasks resumed Ordered
tasks-resumed c (link a b) ds o = tasks-onward c ds
tasks-resumed c (hand h) ds o = tasks-onward c ds
tasks-resumed c (free m) ds o = tasks-onward c ds
tasks-resumed c yield ds o = sym o

-- it waits where a yield is left, or was done
pub waits-onward : (c : Code) (ds : List Do) → waits (onward c ds) ≡ yields ds
unfolding waits onward yields
waits-onward c [] = refl
waits-onward c (d ∷ ds) = refl

pub waits-resumed : (c : Code) (d : Do) (ds : List Do) → waits (resumed c d ds) ≡ yields (d ∷ ds)
unfolding waits resumed yields
waits-resumed c (link a b) ds = waits-onward c ds
waits-resumed c (hand h) ds = waits-onward c ds
waits-resumed c (free m) ds = waits-onward c ds
waits-resumed c yield ds = refl

-- an item that has made ms makes this vertex next, and others behind it
pub data Makes (Γ : Setting) : Code → List ℕ → Kid → Type 0 where
  finish_1 : {o : ℕ} {b r : Code} → Makes Γ (finish_at o b r) [] (kid r own_scope)
  fork_1 : {o : ℕ} {b c r : Code} → Makes Γ (fork_at o b c r) [] (kid b own_scope)
  fork_2 : {o m : ℕ} {b c r : Code} → Γ.edition ≡ First → Makes Γ (fork_at o b c r) (m ∷ []) (kid c own_scope)
  future_1 : {o : ℕ} {b r : Code} → Makes Γ (future_at o b r) [] (awaiting Γ.last_byte r)

-- the same of its last vertex
pub data Splits (ed : Edition) : Code → List ℕ → Kid → Type 0 where
  async_1 : {o : ℕ} {b r : Code} → Splits ed (async_at o b r) [] (kid b own_scope)
  finish_2 : {o m : ℕ} {b r : Code} → Splits ed (finish_at o b r) (m ∷ []) (kid b made_1)
  fork_3 : {o m m' : ℕ} {b c r : Code} → ed ≡ First → Splits ed (fork_at o b c r) (m ∷ m' ∷ []) (kid r own_scope)
  fork_yields : {o m : ℕ} {b c r : Code} → ed ≡ Second → Splits ed (fork_at o b c r) (m ∷ []) (kid c own_scope)
  future_2 : {o m : ℕ} {b r : Code} → Splits ed (future_at o b r) (m ∷ []) (kid b made_1)
  force_1 : {o n : ℕ} {b r : Code} → Splits ed (force_at o n b r) [] (kid r own_scope)

-- an edition is the first or the second
pub either_edition : {P : Type 0} (ed : Edition) → (ed ≡ First → P) → (ed ≡ Second → P) → P
either_edition First f g = f refl
either_edition Second f g = g refl

-- nothing is left of a list behind its end
drop_none : {A : Type 0} (n : ℕ) → drop {A = A} n [] ≡ []
drop_none zero = refl
drop_none (suc n) = refl

-- lists that are equal have the same first element and the same rest
pub parts_are : {A : Type 0} {x y : A} {xs ys : List A} → x ∷ xs ≡ y ∷ ys → (x ≡ y) × (xs ≡ ys)
parts_are e = (cc, cc)

-- a fork makes at most three
fork_end : {P : Type 0} (Γ : Setting) (r : Code) (n : ℕ) {k : Kid} {ks : List Kid} → drop (suc n) (fork_kids Γ.edition r) ≡ k ∷ ks → P
unfolding fork_kids
fork_end Γ r n {k} {ks} h = go Γ.edition h
  where
    go : {P : Type 0} (ed : Edition) → drop (suc n) (fork_kids ed r) ≡ k ∷ ks → P
    go First h = clash (cc (drop_none {A = Kid} n))
    go Second h = clash cc

pub makes_at :
    (Γ : Setting) (c : Code) (ms : List ℕ) {k next : Kid} {more : List Kid} → drop (length ms) (kids Γ c) ≡ k ∷ (next ∷ more)
    → Makes Γ c ms k
unfolding kids fork_kids
makes_at Γ (end_byte_at o) ms h = clash (cc (drop_none {A = Kid} (length ms)))
makes_at Γ (job_at o n r) ms h = clash (cc (drop_none {A = Kid} (length ms)))
makes_at Γ (async_at o b r) [] h = clash cc
makes_at Γ (async_at o b r) (m ∷ ms) h = clash (cc (drop_none {A = Kid} (length ms)))
makes_at Γ (finish_at o b r) [] h = subst (λ (k : Kid). Makes Γ (finish_at o b r) [] k) (parts_are h).0 finish_1
makes_at Γ (finish_at o b r) (m ∷ []) h = clash cc
makes_at Γ (finish_at o b r) (m ∷ m' ∷ ms) h = clash (cc (drop_none {A = Kid} (length ms)))
makes_at Γ (fork_at o b c r) [] h = subst (λ (k : Kid). Makes Γ (fork_at o b c r) [] k) (parts_are h).0 fork_1
makes_at Γ (fork_at o b c r) (m ∷ []) {k} {next} {more} h =
    either_edition Γ.edition
    (λ e. subst (λ (k : Kid). Makes Γ (fork_at o b c r) (m ∷ []) k) (parts_are h).0 (fork_2 e))
    (λ e. let z : [] ≡ next ∷ more = subst (λ (ed : Edition). fork_kids ed r ≡ next ∷ more) e (parts_are h).1 in clash cc)
makes_at Γ (fork_at o b c r) (m ∷ m' ∷ []) {k} {next} {more} h =
    either_edition Γ.edition
    (λ e. let z : kid r own_scope ∷ [] ≡ k ∷ (next ∷ more) = subst (λ (ed : Edition). fork_kids ed r ≡ k ∷ (next ∷ more)) e h in clash cc)
    (λ e. let z : [] ≡ k ∷ (next ∷ more) = subst (λ (ed : Edition). fork_kids ed r ≡ k ∷ (next ∷ more)) e h in clash cc)
makes_at Γ (fork_at o b c r) (m ∷ m' ∷ m'' ∷ ms) h = fork_end Γ r (length ms) h
makes_at Γ (future_at o b r) [] h = subst (λ (k : Kid). Makes Γ (future_at o b r) [] k) (parts_are h).0 future_1
makes_at Γ (future_at o b r) (m ∷ []) h = clash cc
makes_at Γ (future_at o b r) (m ∷ m' ∷ ms) h = clash (cc (drop_none {A = Kid} (length ms)))
makes_at Γ (force_at o n b r) [] h = clash cc
makes_at Γ (force_at o n b r) (m ∷ ms) h = clash (cc (drop_none {A = Kid} (length ms)))

pub splits_at : (Γ : Setting) (c : Code) (ms : List ℕ) {k : Kid} → drop (length ms) (kids Γ c) ≡ k ∷ [] → Splits Γ.edition c ms k
unfolding kids fork_kids
splits_at Γ (end_byte_at o) ms h = clash (cc (drop_none {A = Kid} (length ms)))
splits_at Γ (job_at o n r) ms h = clash (cc (drop_none {A = Kid} (length ms)))
splits_at Γ (async_at o b r) [] h = subst (λ (k : Kid). Splits Γ.edition (async_at o b r) [] k) (parts_are h).0 async_1
splits_at Γ (async_at o b r) (m ∷ ms) h = clash (cc (drop_none {A = Kid} (length ms)))
splits_at Γ (finish_at o b r) [] h = clash cc
splits_at Γ (finish_at o b r) (m ∷ []) h = subst (λ (k : Kid). Splits Γ.edition (finish_at o b r) (m ∷ []) k) (parts_are h).0 finish_2
splits_at Γ (finish_at o b r) (m ∷ m' ∷ ms) h = clash (cc (drop_none {A = Kid} (length ms)))
splits_at Γ (fork_at o b c r) [] h = clash cc
splits_at Γ (fork_at o b c r) (m ∷ []) {k} h =
    either_edition Γ.edition
    (λ e. let z : kid r own_scope ∷ [] ≡ [] = subst (λ (ed : Edition). fork_kids ed r ≡ []) e (parts_are h).1 in clash cc)
    (λ e. subst (λ (k : Kid). Splits Γ.edition (fork_at o b c r) (m ∷ []) k) (parts_are h).0 (fork_yields e))
splits_at Γ (fork_at o b c r) (m ∷ m' ∷ []) {k} h =
    either_edition Γ.edition
    (λ e.
    let z : kid r own_scope ∷ [] ≡ k ∷ [] = subst (λ (ed : Edition). fork_kids ed r ≡ k ∷ []) e h in
    subst (λ (k : Kid). Splits Γ.edition (fork_at o b c r) (m ∷ m' ∷ []) k) (parts_are z).0 (fork_3 e))
    (λ e. let z : [] ≡ k ∷ [] = subst (λ (ed : Edition). fork_kids ed r ≡ k ∷ []) e h in clash cc)
splits_at Γ (fork_at o b c r) (m ∷ m' ∷ m'' ∷ ms) h = fork_end Γ r (length ms) h
splits_at Γ (future_at o b r) [] h = clash cc
splits_at Γ (future_at o b r) (m ∷ []) h = subst (λ (k : Kid). Splits Γ.edition (future_at o b r) (m ∷ []) k) (parts_are h).0 future_2
splits_at Γ (future_at o b r) (m ∷ m' ∷ ms) h = clash (cc (drop_none {A = Kid} (length ms)))
splits_at Γ (force_at o n b r) [] h = subst (λ (k : Kid). Splits Γ.edition (force_at o n b r) [] k) (parts_are h).0 force_1
splits_at Γ (force_at o n b r) (m ∷ ms) h = clash (cc (drop_none {A = Kid} (length ms)))

-- What the item of each kind does behind its split; the edition's own is the fork's.
pub todo_async : (ed : Edition) (o : ℕ) (b r : Code) (v σ f n : ℕ) → todo ed v σ f (n ∷ []) (async_at o b r) ≡ link n σ ∷ free n ∷ []
unfolding todo joins commands_of kind_of resolved row_of
todo_async ed o b r v σ f n = refl

pub todo_finish :
    (ed : Edition) (o : ℕ) (b r : Code) (v σ f m n : ℕ)
    → todo ed v σ f (m ∷ n ∷ []) (finish_at o b r) ≡ link n m ∷ hand m ∷ free m ∷ free n ∷ []
unfolding todo joins commands_of kind_of resolved row_of
todo_finish ed o b r v σ f m n = refl

pub todo_fork :
    {ed : Edition} → ed ≡ First → (o : ℕ) (b c r : Code) (v σ f m m' n : ℕ)
    → todo ed v σ f (m ∷ m' ∷ n ∷ []) (fork_at o b c r) ≡ link m n ∷ link m' n ∷ hand n ∷ free n ∷ free m ∷ free m' ∷ []
unfolding todo joins commands_of kind_of resolved row_of fork_row
todo_fork e o b c r v σ f m m' n = ap (λ ed. todo ed v σ f (m ∷ m' ∷ n ∷ []) (fork_at o b c r)) e

pub todo_fork_yields :
    {ed : Edition} → ed ≡ Second → (o : ℕ) (b c r : Code) (v σ f m n : ℕ)
    → todo ed v σ f (m ∷ n ∷ []) (fork_at o b c r) ≡ link m v ∷ link n v ∷ free m ∷ free n ∷ yield ∷ []
unfolding todo joins commands_of kind_of resolved row_of fork_row
todo_fork_yields e o b c r v σ f m n = ap (λ ed. todo ed v σ f (m ∷ n ∷ []) (fork_at o b c r)) e

pub todo_future :
    (ed : Edition) (o : ℕ) (b r : Code) (v σ f m n : ℕ)
    → todo ed v σ f (m ∷ n ∷ []) (future_at o b r) ≡ link n m ∷ free m ∷ free n ∷ []
unfolding todo joins commands_of kind_of resolved row_of
todo_future ed o b r v σ f m n = refl

-- a force: f is the vertex that its future made first
pub todo_force :
    (ed : Edition) (o i : ℕ) (b r : Code) (v σ f n : ℕ) → todo ed v σ f (n ∷ []) (force_at o i b r) ≡ link f n ∷ hand n ∷ free n ∷ []
unfolding todo joins commands_of kind_of resolved row_of
todo_force ed o i b r v σ f n = refl

-- a vertex that is not over has been made
pub below : {S : State} → Shape S → (u : ℕ) → (S.control u ≡ over → ⊥) → u < S.count
below sh u there = lt_of_not-le (λ le. there (sh.beyond u le))

pub new_below : {S : State} → Shape S → (u : ℕ) → is_new (S.control u) ≡ true → u < S.count
new_below sh u h = below sh u (λ o. true-false h (over_old o))

-- who has something left to do is not new
pub doer_old : (x : Control) {d : Do} → In d (tasks x) → is_new x ≡ false
unfolding is_new tasks
doer_old (draft c) i = in_none i
doer_old (fresh c) i = in_none i
doer_old (ready c) i = refl
doer_old (busy c ms) i = refl
doer_old (joining c d ds) i = refl
doer_old over i = refl

-- and has been made
pub doer_below : {S : State} {d : Do} → Shape S → (t : ℕ) → In d (tasks_of S t) → t < S.count
unfolding tasks
doer_below {d = d} sh t i = below sh t (λ o. in_none (subst (λ x. In d (tasks x)) o i))

-- who is over has no code
pub over_uncoded : {x : Control} {c : Code} → x ≡ over → code_of x ≡ some c → ⊥
unfolding code_of
over_uncoded {c = c} o h = none-ne-some c (sym (ap code_of o) ∙ h)

-- so one that has code has been made
pub coded_below : {S : State} {c : Code} → Shape S → (u : ℕ) → code_of (S.control u) ≡ some c → u < S.count
coded_below sh u h = below sh u (λ o. over_uncoded o h)

-- what is known of a vertex that an item under way has made
pub draft_of :
    {S : State} {v m : ℕ} {all : List ℕ} (ms : List ℕ) (ks : List Kid) → Drafts S v all ms ks → In m ms
    → (k : Kid) × Draft S v all m k
unfolding Drafts
draft_of [] ks h i = in_none i
draft_of (x ∷ ms) [] h i = absurd h
draft_of {S} {v} {all = all} (x ∷ ms) (k ∷ ks) h i =
    in_cases i
    (λ e. (k, subst (λ w. Draft S v all w k) (sym e) h.0))
    (λ j. draft_of ms ks h.1 j)

-- no vertex is released by two
pub one_freer : {S : State} → Shape S → (m t t' : ℕ) → In (free m) (tasks_of S t) → In (free m) (tasks_of S t') → t ≡ t'
one_freer sh m t t' i j = sym ((sh.todo_fits t).frees m i).1 ∙ ((sh.todo_fits t').frees m j).1

-- the vertex of an open future, by its number
pub vertex_open : (fs : List (ℕ × Code)) (n : ℕ) {b : Code} → nth_open (bodies fs) n ≡ some b → In (vertex_at fs n, b) fs
unfolding nth_open bodies vertex_at
vertex_open [] n {b} h = absurd (none-ne-some b h)
vertex_open (f ∷ fs) zero {b} h =
    subst (λ (d : Code). In (f.0, d) (f ∷ fs)) (some-injective f.1 b h) here
vertex_open (f ∷ fs) (suc n) h = later (vertex_open fs n h)

-- the future of a force that a vertex is at is open there
pub forced_open :
    {S : State} {v o n : ℕ} {b r : Code} {ms : List ℕ} → Opened S → S.control v ≡ busy (force_at o n b r) ms
    → In (forced_by (S.opens v) (force_at o n b r), b) (S.opens v)
unfolding Opens code_of forced_by
forced_open {S} {v} {o} {n} {b} {r} op h =
    vertex_open (S.opens v) n (op.scoped v (force_at o n b r) (ap code_of h)).0
