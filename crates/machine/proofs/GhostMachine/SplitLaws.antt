-- What a split does: its item's vertices are drafts no more, a new one comes, and the vertex that splits has all that the item does behind
-- the split to do. A future is open behind it.
use Prim.Native.Nat.{ℕ, suc}
use mathlib.Core.Path.{◌≡◌, refl, sym, ◌∙◌, ap}
use mathlib.Core.Bool.{Bool, true, false, cond}
use mathlib.Core.Logic.{◌⊎◌, inl, inr, ⊎_elim}
use mathlib.Core.List.{List, [], ◌∷◌, ◌++◌}
use mathlib.Core.Option.{some}
use native.Mathlib.Omega.{arith}
use Rattle.graph.proofs.TestLaws.{equal?, true-false}
use Rattle.program.specs.Located.{Code, start_of}
use Rattle.machine.proofs.GhostMachine.Ghost.{Do, link, hand, free, yield, Control, draft, fresh, busy, over, State, put, goes, rest_of, Kid, woken, among, live}
use Rattle.machine.proofs.GhostMachine.Ghost.{split, stirred, opens_behind, scope_for, todo_of}
use Rattle.machine.proofs.GhostMachine.Ghost.{behind_split}
use Rattle.machine.proofs.GhostMachine.Invariant.{In, tasks, code_of, yields, waits, Shape}
use Rattle.machine.proofs.GhostMachine.GhostLaws.{put_same, put_other, clash, EachLink, EachHand, each_link, each_hand, put_keeps, woken_keeps}
use Rattle.machine.proofs.GhostMachine.GhostLaws.{EachFree, each_free, tasks-onward, waits-onward}
use Rattle.machine.proofs.GhostMachine.RoadLaws.{code_onward, live-onward}
use Rattle.machine.proofs.GhostMachine.SettledLaws.{Plans, source_below}

-- the item of code c that v has under way is split: k is the new vertex, and ms are those that were made before
abbrev pub item_split : State → ℕ → Code → List ℕ → Kid → State
item_split S v c ms k =
    split S v ms (behind_split S v (ms ++ (S.count ∷ [])) c) (opens_behind (S.opens v) (ms ++ (S.count ∷ [])) c) (start_of (rest_of c)) k

-- v has an item of code c, and its split with the vertices ms that were made before and a new one, whose scope is σ, leaves v with T to do
pub record Split (S S' : State) (v : ℕ) (c : Code) (ms : List ℕ) (T : List Do) (σ : ℕ) : Type 0 where
  pub self : S.control v ≡ busy c ms
  pub plans : Plans S S' v T
  pub counts : S'.count ≡ suc S.count
  pub self_code : code_of (S'.control v) ≡ some (goes S.setting c)
  pub self_waits : waits (S'.control v) ≡ yields T
  pub waiting : (u : ℕ) → waits (S.control u) ≡ true → waits (S'.control u) ≡ true
  pub new_waits : waits (S'.control S.count) ≡ true
  pub living : (u : ℕ) → (u ≡ S.count → ⊥) → live (S'.control u) ≡ live (S.control u)
  pub same : (u : ℕ) → (u ≡ v → ⊥) → (u ≡ S.count → ⊥) → among u ms ≡ false → S'.control u ≡ S.control u
  pub same_code : (u : ℕ) → (u ≡ v → ⊥) → (u ≡ S.count → ⊥) → code_of (S'.control u) ≡ code_of (S.control u)
  pub same_scope : (u : ℕ) → (u ≡ S.count → ⊥) → S'.scope u ≡ S.scope u
  pub new_scope : S'.scope S.count ≡ σ
  pub same_opens : (u : ℕ) → (u ≡ v → ⊥) → (u ≡ S.count → ⊥) → S'.opens u ≡ S.opens u
  pub new_opens : S'.opens S.count ≡ S.opens v
  pub self_opens : S'.opens v ≡ opens_behind (S.opens v) (ms ++ (S.count ∷ [])) c

-- the edges that the item of each kind plans, and the vertex that it hands over to
pub async_links : {n σ a b : ℕ} → In (link a b) (link n σ ∷ free n ∷ []) → (a ≡ n) × (b ≡ σ)
unfolding EachLink
async_links {n} {σ} i = each_link (λ a b. (a ≡ n) × (b ≡ σ)) _ ((refl, refl), tt) i

pub async_hands : {n σ h : ℕ} → In (hand h) (link n σ ∷ free n ∷ []) → ⊥
unfolding EachHand
async_hands i = each_hand (λ h. ⊥) _ tt i

pub finish_links : {n m a b : ℕ} → In (link a b) (link n m ∷ hand m ∷ free m ∷ free n ∷ []) → (a ≡ n) × (b ≡ m)
unfolding EachLink
finish_links {n} {m} i = each_link (λ a b. (a ≡ n) × (b ≡ m)) _ ((refl, refl), tt) i

pub finish_hands : {n m h : ℕ} → In (hand h) (link n m ∷ hand m ∷ free m ∷ free n ∷ []) → h ≡ m
unfolding EachHand
finish_hands {m = m} i = each_hand (λ h. h ≡ m) _ (refl, tt) i

pub fork_links :
    {n m m' a b : ℕ} → In (link a b) (link m n ∷ link m' n ∷ hand n ∷ free n ∷ free m ∷ free m' ∷ [])
    → ((a ≡ m) ⊎ (a ≡ m')) × (b ≡ n)
unfolding EachLink
fork_links {n} {m} {m'} i = each_link (λ a b. ((a ≡ m) ⊎ (a ≡ m')) × (b ≡ n)) _ ((inl refl, refl), ((inr refl, refl), tt)) i

pub fork_hands : {n m m' h : ℕ} → In (hand h) (link m n ∷ link m' n ∷ hand n ∷ free n ∷ free m ∷ free m' ∷ []) → h ≡ n
unfolding EachHand
fork_hands {n} i = each_hand (λ h. h ≡ n) _ (refl, tt) i

pub fork_yields_links :
    {v m n a b : ℕ} → In (link a b) (link m v ∷ link n v ∷ free m ∷ free n ∷ yield ∷ []) → ((a ≡ m) ⊎ (a ≡ n)) × (b ≡ v)
unfolding EachLink
fork_yields_links {v} {m} {n} i = each_link (λ a b. ((a ≡ m) ⊎ (a ≡ n)) × (b ≡ v)) _ ((inl refl, refl), ((inr refl, refl), tt)) i

pub fork_yields_hands : {v m n h : ℕ} → In (hand h) (link m v ∷ link n v ∷ free m ∷ free n ∷ yield ∷ []) → ⊥
unfolding EachHand
fork_yields_hands i = each_hand (λ h. ⊥) _ tt i

pub future_links : {n m a b : ℕ} → In (link a b) (link n m ∷ free m ∷ free n ∷ []) → (a ≡ n) × (b ≡ m)
unfolding EachLink
future_links {n} {m} i = each_link (λ a b. (a ≡ n) × (b ≡ m)) _ ((refl, refl), tt) i

pub future_hands : {n m h : ℕ} → In (hand h) (link n m ∷ free m ∷ free n ∷ []) → ⊥
unfolding EachHand
future_hands i = each_hand (λ h. ⊥) _ tt i

pub force_links : {n f a b : ℕ} → In (link a b) (link f n ∷ hand n ∷ free n ∷ []) → (a ≡ f) × (b ≡ n)
unfolding EachLink
force_links {n} {f} i = each_link (λ a b. (a ≡ f) × (b ≡ n)) _ ((refl, refl), tt) i

pub force_hands : {n f h : ℕ} → In (hand h) (link f n ∷ hand n ∷ free n ∷ []) → h ≡ n
unfolding EachHand
force_hands {n} i = each_hand (λ h. h ≡ n) _ (refl, tt) i

pub force_frees : {n f m : ℕ} → In (free m) (link f n ∷ hand n ∷ free n ∷ []) → m ≡ n
unfolding EachFree
force_frees {n} i = each_free (λ m. m ≡ n) _ (refl, tt) i

-- where drafts become fresh, a control is seen as before, if these two are seen alike
pub stirred_keeps :
    {B : Type 0} (g : Control → B) → ((c : Code) → g (fresh c) ≡ g (draft c)) → (f : ℕ → Control) (ms : List ℕ) (u : ℕ)
    → g (stirred f ms u) ≡ g (f u)
stirred_keeps g e f ms u = go (among u ms)
  where
    go : (b : Bool) → g (cond b (woken (f u)) (f u)) ≡ g (f u)
    go true = woken_keeps g e (f u)
    go false = refl

-- the vertices that wait do so behind the split
split_waits :
    (f : ℕ → Control) (ms : List ℕ) (n v : ℕ) (k : Code) (x : Control) → waits (f v) ≡ false → (u : ℕ) → waits (f u) ≡ true
    → waits (put (put (stirred f ms) n (fresh k)) v x u) ≡ true
unfolding waits
split_waits f ms n v k x w u h =
    let ne : u ≡ v → ⊥ = λ e. true-false (ap (λ (z : ℕ). waits (f z)) (sym e) ∙ h) w in
    ap waits (put_other (put (stirred f ms) n (fresh k)) v x u ne)
    ∙ ⊎_elim
    (λ e. ap (λ (z : ℕ). waits (put (stirred f ms) n (fresh k) z)) e ∙ ap waits (put_same (stirred f ms) n (fresh k)))
    (λ nn. ap waits (put_other (stirred f ms) n (fresh k) u nn) ∙ stirred_keeps waits (λ c. refl) f ms u ∙ h)
    (equal? u n)

-- what is to do stands as before, but for v
split_tasks :
    (f : ℕ → Control) (ms : List ℕ) (n v : ℕ) (k : Code) (x : Control) → tasks (f n) ≡ [] → (u : ℕ) → (u ≡ v → ⊥)
    → tasks (put (put (stirred f ms) n (fresh k)) v x u) ≡ tasks (f u)
unfolding tasks
split_tasks f ms n v k x e u ne =
    let kept = stirred_keeps tasks (λ c. refl) f ms in
    ap tasks (put_other (put (stirred f ms) n (fresh k)) v x u ne)
    ∙ put_keeps tasks (stirred f ms) n (fresh k) (sym (kept n ∙ e)) u
    ∙ kept u

-- no vertex that was there finishes
split_lives :
    (f : ℕ → Control) (ms : List ℕ) (n v : ℕ) (k : Code) (x : Control) → live x ≡ live (f v) → (v ≡ n → ⊥) → (u : ℕ) → (u ≡ n → ⊥)
    → live (put (put (stirred f ms) n (fresh k)) v x u) ≡ live (f u)
unfolding live
split_lives f ms n v k x e nv u nn =
    let kept = stirred_keeps live (λ c. refl) f ms in
    let at : live x ≡ live (put (stirred f ms) n (fresh k) v) =
    e ∙ sym (kept v) ∙ ap live (sym (put_other (stirred f ms) n (fresh k) v nv)) in
    put_keeps live (put (stirred f ms) n (fresh k)) v x at u ∙ ap live (put_other (stirred f ms) n (fresh k) u nn) ∙ kept u

-- the code is as before, but for v and the new one
pub split_codes :
    (f : ℕ → Control) (ms : List ℕ) (n v : ℕ) (k : Code) (x : Control) (u : ℕ) → (u ≡ v → ⊥) → (u ≡ n → ⊥)
    → code_of (put (put (stirred f ms) n (fresh k)) v x u) ≡ code_of (f u)
unfolding code_of
split_codes f ms n v k x u nv nn =
    ap code_of (put_other (put (stirred f ms) n (fresh k)) v x u nv ∙ put_other (stirred f ms) n (fresh k) u nn)
    ∙ stirred_keeps code_of (λ c. refl) f ms u

-- the others are as before
split_same :
    (f : ℕ → Control) (ms : List ℕ) (n v : ℕ) (k : Code) (x : Control) (u : ℕ) → (u ≡ v → ⊥) → (u ≡ n → ⊥) → among u ms ≡ false
    → put (put (stirred f ms) n (fresh k)) v x u ≡ f u
split_same f ms n v k x u nv nn na =
    put_other (put (stirred f ms) n (fresh k)) v x u nv
    ∙ put_other (stirred f ms) n (fresh k) u nn
    ∙ ap (λ (t : Bool). cond t (woken (f u)) (f u)) na

-- the new one is fresh
split_new_waits :
    (f : ℕ → Control) (ms : List ℕ) (n v : ℕ) (k : Code) (x : Control) → (n ≡ v → ⊥)
    → waits (put (put (stirred f ms) n (fresh k)) v x n) ≡ true
unfolding waits
split_new_waits f ms n v k x ne =
    ap waits (put_other (put (stirred f ms) n (fresh k)) v x n ne ∙ put_same (stirred f ms) n (fresh k))

-- the move splits the item
pub split_of :
    {S : State} {v : ℕ} {c : Code} {ms : List ℕ} (k : Kid) (T : List Do) → Shape S → S.control v ≡ busy c ms
    → todo_of S v (ms ++ (S.count ∷ [])) c ≡ T → Split S (item_split S v c ms k) v c ms T (scope_for S v ms k)
unfolding tasks waits live
split_of {S} {v} {c} {ms} k T sh q e =
    let f = S.control in
    let n = S.count in
    let ds = todo_of S v (ms ++ (n ∷ [])) c in
    let x = behind_split S v (ms ++ (n ∷ [])) c in
    let fs = opens_behind (S.opens v) (ms ++ (n ∷ [])) c in
    let new : f n ≡ over = sh.beyond n (omega arith) in
    let nv : v ≡ n → ⊥ = λ e. let z = sym q ∙ ap f e ∙ new in clash cc in
    let at_v = put_same (put (stirred f ms) n (fresh k.code)) v x in
    let lives = split_lives f ms n v k.code x (live-onward (goes S.setting c) ds ∙ sym (ap live q)) nv in
    record {
      self = q;
      plans =
          record {
            idle = ap tasks q;
            plan = ap tasks at_v ∙ tasks-onward (goes S.setting c) ds ∙ e;
            others = split_tasks f ms n v k.code x (ap tasks new);
            edges = λ a b. refl;
            lives = λ t a b i. let lt = source_below t sh i in lives a (λ e. absurd (omega (arith, lt)));
          };
      counts = refl;
      self_code = ap code_of at_v ∙ code_onward (goes S.setting c) ds;
      self_waits = ap waits at_v ∙ waits-onward (goes S.setting c) ds ∙ ap yields e;
      waiting = split_waits f ms n v k.code x (ap waits q);
      new_waits = split_new_waits f ms n v k.code x (λ e. nv (sym e));
      living = lives;
      same = split_same f ms n v k.code x;
      same_code = split_codes f ms n v k.code x;
      same_scope = λ u nc. put_other S.scope n (scope_for S v ms k) u nc;
      new_scope = put_same S.scope n (scope_for S v ms k);
      same_opens = λ u nu nc. put_other (put S.opens n (S.opens v)) v fs u nu ∙ put_other S.opens n (S.opens v) u nc;
      new_opens = put_other (put S.opens n (S.opens v)) v fs n (λ e. nv (sym e)) ∙ put_same S.opens n (S.opens v);
      self_opens = put_same (put S.opens n (S.opens v)) v fs;
    }
