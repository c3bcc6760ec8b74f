-- The code of every vertex stands in the program, and a move leaves it so: a vertex goes on to code that is right inside the code that it
-- had or to the program's last byte, and what is made starts with code that is right inside too, or with that byte.
use Prim.Native.Nat.{ℕ, ◌≤◌}
use mathlib.Core.Path.{◌≡◌, refl, sym, ◌∙◌, ap, subst}
use mathlib.Core.Logic.{◌⊎◌, inl, inr, ⊎_elim}
use mathlib.Core.List.{List, [], ◌∷◌, ◌++◌}
use mathlib.Core.Option.{some, some-injective, none-ne-some}
use native.Mathlib.Omega.{arith}
use Rattle.program.specs.declared.Edition.{Edition}
use Rattle.program.specs.Located.{Code, end_byte_at, start_of, last, code_at}
use Rattle.program.proofs.LocatedLaws.{Laid, Inner, job_rest, async_body, async_rest, finish_body, finish_rest, fork_left, fork_right}
use Rattle.program.proofs.LocatedLaws.{fork_rest, future_body, future_rest, force_rest, code_inner, code_end}
use Rattle.machine.proofs.GhostMachine.Ghost.{Do, Control, draft, fresh, busy, over, Setting, State, Kid, put, fork_goes, goes, onward, resumed, Event, Move, begins}
use Rattle.machine.proofs.GhostMachine.Ghost.{performs, stops, makes, splits, acts, done, stirred}
use Rattle.machine.proofs.GhostMachine.Invariant.{code_of, Coded}
use Rattle.machine.proofs.GhostMachine.GhostLaws.{Makes, finish_1, fork_1, fork_2, future_1, Splits, async_1, finish_2, fork_3, fork_yields, future_2}
use Rattle.machine.proofs.GhostMachine.GhostLaws.{force_1, makes_at, splits_at, put_all}
use Rattle.machine.proofs.GhostMachine.RoadLaws.{code_onward, code_resumed, done_keeps}
use Rattle.machine.proofs.GhostMachine.SplitLaws.{stirred_keeps}

-- the code of this control, if it has code, stands in p
abbrev Stands : Code → Control → Type 0
Stands p x = (c : Code) → code_of x ≡ some c → code_at p (start_of c) ≡ some c

-- of one with the same code
stands_same : (p : Code) (x y : Control) → code_of y ≡ code_of x → Stands p x → Stands p y
stands_same p x y e h c q = h c (sym e ∙ q)

-- of one with this code
stands_code : (p : Code) (x : Control) {c : Code} → code_of x ≡ some c → code_at p (start_of c) ≡ some c → Stands p x
stands_code p x {c} e h d q = subst (λ (c : Code). code_at p (start_of c) ≡ some c) (some-injective c d (sym e ∙ q)) h

stands_onward : (p c : Code) (ds : List Do) → code_at p (start_of c) ≡ some c → Stands p (onward c ds)
stands_onward p c ds = stands_code p (onward c ds) (code_onward c ds)

-- what an item makes is right inside it, or has the program's last byte
pub makes_inner :
    {Γ : Setting} {c : Code} {ms : List ℕ} {k : Kid} → Makes Γ c ms k → Inner c k.code ⊎ (k.code ≡ end_byte_at Γ.last_byte)
makes_inner finish_1 = inl finish_rest
makes_inner fork_1 = inl fork_left
makes_inner (fork_2 e) = inl fork_right
makes_inner future_1 = inr refl

-- its last vertex is right inside it
pub splits_inner : {ed : Edition} {c : Code} {ms : List ℕ} {k : Kid} → Splits ed c ms k → Inner c k.code
splits_inner async_1 = async_body
splits_inner finish_2 = finish_body
splits_inner (fork_3 e) = fork_rest
splits_inner (fork_yields e) = fork_right
splits_inner future_2 = future_body
splits_inner force_1 = force_rest

-- what an item makes does not rank behind its end
pub makes_le : {Γ : Setting} {c : Code} {ms : List ℕ} {k : Kid} → Laid c → Makes Γ c ms k → k.low ≤ k.high
unfolding Laid
makes_le l finish_1 = l.0.rest
makes_le l fork_1 = l.0.left
makes_le l (fork_2 e) = l.0.right
makes_le l future_1 = omega arith

pub splits_le : {ed : Edition} {c : Code} {ms : List ℕ} {k : Kid} → Laid c → Splits ed c ms k → k.low ≤ k.high
unfolding Laid
splits_le l async_1 = l.0.body
splits_le l finish_2 = l.0.body
splits_le l (fork_3 e) = l.0.rest
splits_le l (fork_yields e) = l.0.right
splits_le l future_2 = l.0.body
splits_le l force_1 = l.0.rest

-- the program's last byte stands in it
end_stands : (p : Code) {L : ℕ} → Laid p → last p ≡ L → code_at p (start_of (end_byte_at L)) ≡ some (end_byte_at L)
unfolding start_of
end_stands p l e = rw (← e) (code_end p l)

-- so what an item makes stands in the program
makes_stands :
    (p : Code) {c : Code} {Γ : Setting} {ms : List ℕ} {k : Kid} → Laid p → last p ≡ Γ.last_byte → Makes Γ c ms k
    → code_at p (start_of c) ≡ some c
    → code_at p (start_of k.code) ≡ some k.code
makes_stands p {k = k} l e m h =
    ⊎_elim
    (λ i. code_inner p _ l h i)
    (λ q. subst (λ (d : Code). code_at p (start_of d) ≡ some d) (sym q) (end_stands p l e))
    (makes_inner m)

-- and so does where its vertex goes
goes_stands :
    (p : Code) (Γ : Setting) {c : Code} {ms : List ℕ} {k : Kid} → Laid p → last p ≡ Γ.last_byte → Splits Γ.edition c ms k
    → code_at p (start_of c) ≡ some c → code_at p (start_of (goes Γ c)) ≡ some (goes Γ c)
unfolding goes fork_goes
goes_stands p Γ l e async_1 h = code_inner p _ l h async_rest
goes_stands p Γ l e finish_2 h = end_stands p l e
goes_stands p Γ l e (fork_3 f) h = rw f (end_stands p l e)
goes_stands p Γ l e (fork_yields f) h = rw f (code_inner p _ l h fork_rest)
goes_stands p Γ l e future_2 h = code_inner p _ l h future_rest
goes_stands p Γ l e force_1 h = end_stands p l e

-- one more vertex, whose maker has come to x
stands_made :
    (p : Code) (f : ℕ → Control) (n v : ℕ) (y x : Control) → ((u : ℕ) → Stands p (f u)) → Stands p y → Stands p x
    → (u : ℕ) → Stands p (put (put f n y) v x u)
stands_made p f n v y x h i j u = put_all (λ z. Stands p z) (put f n y) v x (put_all (λ z. Stands p z) f n y h i) j u

-- drafts that become fresh
stands_woken :
    (p : Code) (f : ℕ → Control) (ms : List ℕ) → ((u : ℕ) → Stands p (f u))
    → (u : ℕ) → Stands p (stirred f ms u)
unfolding code_of
stands_woken p f ms h u = stands_same p (f u) (stirred f ms u) (stirred_keeps code_of (λ c. refl) f ms u) (h u)

-- every move leaves the codes
pub coded_kept :
    {v : ℕ} {S S' : State} {e : Event} (p : Code) → Laid p → last p ≡ S.setting.last_byte → Coded p S → Move S v e S' → Coded p S'
unfolding code_of
coded_kept {v = v} {S = S} p l e h (begins {c = c} q f) =
    put_all (λ x. Stands p x) S.control v _ h (stands_code p (busy c []) refl (h v c (ap code_of q)))
coded_kept {v = v} {S = S} p l e h (performs {r = r} q) =
    put_all (λ x. Stands p x) S.control v _ h (stands_code p (busy r []) refl (code_inner p _ l (h v _ (ap code_of q)) job_rest))
coded_kept {v = v} {S = S} p l e h (stops q) =
    put_all (λ x. Stands p x) S.control v over h (λ c q. absurd (none-ne-some c q))
coded_kept {v = v} {S = S} p l e h (makes {c = c} {ms = ms} {k = k} q w) =
    let at = h v c (ap code_of q) in
    stands_made p S.control S.count v _ _ h
    (stands_code p (draft k.code) refl (makes_stands p l e (makes_at S.setting c ms w) at))
    (stands_code p (busy c (ms ++ (S.count ∷ []))) refl at)
coded_kept {v = v} {S = S} p l e h (splits {c = c} {ms = ms} {k = k} q w) =
    let at = h v c (ap code_of q) in
    let item = splits_at S.setting c ms w in
    stands_made p _ S.count v _ _ (stands_woken p S.control ms h)
    (stands_code p (fresh k.code) refl (code_inner p _ l at (splits_inner item)))
    (stands_onward p _ _ (goes_stands p S.setting l e item at))
coded_kept {v = v} {S = S} p l e h (acts {c = c} {d = d} {ds = ds} q) =
    put_all (λ x. Stands p x) (done S v d).control v _
    (λ u. stands_same p (S.control u) ((done S v d).control u) (done_keeps code_of (λ c. refl) S v d u) (h u))
    (stands_code p (resumed c d ds) (code_resumed c d ds) (h v c (ap code_of q)))
