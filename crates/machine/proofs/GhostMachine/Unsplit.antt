-- An item that is under way, and not split, has more vertices to make than it has made: with the last one it splits. Every move keeps
-- this, and leaves the setting as it is.
use Prim.Native.Nat.{ℕ, suc, ◌<◌}
use mathlib.Core.Path.{◌≡◌, refl, sym, ap, subst}
use mathlib.Core.Bool.{Bool, true, false, cond}
use mathlib.Core.List.{List, [], ◌∷◌, ◌++◌}
use native.Mathlib.Omega.{arith}
use lib.ListN.{length, drop, length-append, length-drop}
use Rattle.program.specs.Located.{Code}
use Rattle.machine.proofs.GhostMachine.Ghost.{Do, link, hand, free, yield, Control, draft, fresh, ready, busy, joining, over, Setting, State, put, Kid, kids}
use Rattle.machine.proofs.GhostMachine.Ghost.{onward, resumed, woken, freed, among, done, Event, Move, begins, performs, stops, makes, splits, acts}
use Rattle.machine.proofs.GhostMachine.GhostLaws.{put_all, woken_cases, freed_cases, onward_cases, resumed_cases}
use Rattle.machine.proofs.GhostMachine.Beginning.{beginning, beginning_control}

-- fewer than all of the item's vertices are made, where one is
unfoldable pub MoreToMake : Setting → Code → List ℕ → Type 0
MoreToMake Γ c [] = Unit {0}
MoreToMake Γ c (m ∷ ms) = suc (length ms) < length (kids Γ c)

-- the same of what a vertex is at
unfoldable pub UnsplitAt : Setting → Control → Type 0
UnsplitAt Γ (draft c) = Unit {0}
UnsplitAt Γ (fresh c) = Unit {0}
UnsplitAt Γ (ready c) = Unit {0}
UnsplitAt Γ (busy c ms) = MoreToMake Γ c ms
UnsplitAt Γ (joining c d ds) = Unit {0}
UnsplitAt Γ over = Unit {0}

-- and of all vertices
abbrev pub Unsplit : State → Type 0
Unsplit S = (v : ℕ) → UnsplitAt S.setting (S.control v)

-- what the moves put there has made nothing, or is what was there
onward_unsplit : (Γ : Setting) (c : Code) (ds : List Do) → UnsplitAt Γ (onward c ds)
unfolding UnsplitAt MoreToMake
onward_unsplit Γ c = onward_cases (UnsplitAt Γ) c tt (λ d ds. tt)

resumed_unsplit : (Γ : Setting) (c : Code) (d : Do) (ds : List Do) → UnsplitAt Γ (resumed c d ds)
unfolding UnsplitAt MoreToMake
resumed_unsplit Γ c = resumed_cases (UnsplitAt Γ) c tt (λ d ds. tt) tt

woken_unsplit : (Γ : Setting) (x : Control) → UnsplitAt Γ x → UnsplitAt Γ (woken x)
unfolding UnsplitAt
woken_unsplit Γ = woken_cases (λ x y. UnsplitAt Γ x → UnsplitAt Γ y) (λ x h. h) (λ c h. tt)

freed_unsplit : (Γ : Setting) (x : Control) → UnsplitAt Γ x → UnsplitAt Γ (freed x)
unfolding UnsplitAt
freed_unsplit Γ = freed_cases (λ x y. UnsplitAt Γ x → UnsplitAt Γ y) (λ x h. h) (λ c h. tt)

cond_unsplit : (Γ : Setting) (b : Bool) (x y : Control) → UnsplitAt Γ x → UnsplitAt Γ y → UnsplitAt Γ (cond b x y)
cond_unsplit Γ true x y p q = p
cond_unsplit Γ false x y p q = q

done_unsplit : (S : State) (v : ℕ) (d : Do) → Unsplit S → (u : ℕ) → UnsplitAt S.setting ((done S v d).control u)
unfolding done
done_unsplit S v (link a b) h = h
done_unsplit S v (hand k) h = h
done_unsplit S v yield h = h
done_unsplit S v (free m) h =
    put_all (UnsplitAt S.setting) S.control m _ h (freed_unsplit S.setting (S.control m) (h m))

-- a joining command leaves the setting
pub setting_done : (S : State) (v : ℕ) (d : Do) → (done S v d).setting ≡ S.setting
unfolding done
setting_done S v (link a b) = refl
setting_done S v (hand h) = refl
setting_done S v (free m) = refl
setting_done S v yield = refl

-- and so does every move
pub setting_kept : {S : State} {v : ℕ} {e : Event} {S' : State} → Move S v e S' → S'.setting ≡ S.setting
setting_kept (begins q none) = refl
setting_kept (performs q) = refl
setting_kept (stops q) = refl
setting_kept (makes q next) = refl
setting_kept (splits q last) = refl
setting_kept {S} {v} (acts {d = d} q) = setting_done S v d

-- one more of at least two that were to be made
more_left :
    (Γ : Setting) (c : Code) (ms : List ℕ) (n : ℕ) {k next : Kid} {more : List Kid} → drop (length ms) (kids Γ c) ≡ k ∷ (next ∷ more)
    → MoreToMake Γ c (ms ++ (n ∷ []))
more_left Γ c ms n q = shaped ms (omega (arith, ap (λ l. length l) q, length-drop (length ms) (kids Γ c)))
  where
    shaped : (ms : List ℕ) → suc (length ms) < length (kids Γ c) → MoreToMake Γ c (ms ++ (n ∷ []))
    shaped [] lt = unfold MoreToMake in lt
    shaped (m ∷ ms) lt = unfold MoreToMake in omega (arith, lt, length-append ms (n ∷ []))

-- every move keeps it
pub unsplit_kept : {S : State} {v : ℕ} {e : Event} {S' : State} → Move S v e S' → Unsplit S → Unsplit S'
unfolding UnsplitAt MoreToMake
unsplit_kept {S} {v} (begins {c = c} q none) h = put_all (UnsplitAt S.setting) S.control v (busy c []) h tt
unsplit_kept {S} {v} (performs {r = r} q) h = put_all (UnsplitAt S.setting) S.control v (busy r []) h tt
unsplit_kept {S} {v} (stops q) h = put_all (UnsplitAt S.setting) S.control v over h tt
unsplit_kept {S} {v} (makes {c = c} {ms = ms} {k = k} q next) h =
    let at = UnsplitAt S.setting in
    put_all at (put S.control S.count (draft k.code)) v _ (put_all at S.control S.count (draft k.code) h tt)
    (more_left S.setting c ms S.count next)
unsplit_kept {S} {v} (splits {ms = ms} {k = k} q last) h =
    let Γ = S.setting in
    put_all (UnsplitAt Γ) (put _ S.count (fresh k.code)) v _
    (put_all (UnsplitAt Γ) _ S.count (fresh k.code)
    (λ u. cond_unsplit Γ (among u ms) (woken (S.control u)) (S.control u) (woken_unsplit Γ (S.control u) (h u)) (h u))
    tt)
    (onward_unsplit Γ _ _)
unsplit_kept {S} {v} (acts {c = c} {d = d} {ds = ds} q) h =
    subst (λ Γ. (u : ℕ) → UnsplitAt Γ (put (done S v d).control v (resumed c d ds) u)) (sym (setting_done S v d))
    (put_all (UnsplitAt S.setting) (done S v d).control v (resumed c d ds) (done_unsplit S v d h) (resumed_unsplit S.setting c d ds))

-- and it holds at the beginning
pub unsplit_beginning : (p : Code) (Γ : Setting) → Unsplit (beginning p Γ)
unfolding UnsplitAt beginning
unsplit_beginning p Γ v = beginning_control p Γ (UnsplitAt Γ) v (λ e. tt) (λ e. tt) (λ n n'. tt)
