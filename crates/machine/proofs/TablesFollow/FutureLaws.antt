-- The words that a force follows: its vertex's latest open future, and from there on "the word of a future's t names the next future out".
-- They come to the vertex of the future that it names, so no step of a loaded program is refused for want of one.
use Prim.Native.Nat.{ℕ, zero, suc, ◌<◌}
use mathlib.Core.Path.{◌≡◌, refl, sym, ◌∙◌, ap, subst}
use mathlib.Core.Bool.{true}
use mathlib.Core.List.{List, [], ◌∷◌}
use mathlib.Core.Option.{some, none-ne-some}
use borrow.Author.Tests.{lt-ltb}
use Rattle.graph.specs.Tables.{Lent}
use Rattle.graph.proofs.TestLaws.{true-false, both_true}
use Rattle.program.specs.Located.{Code}
use Rattle.program.proofs.OpenLaws.{nth_open}
use Rattle.machine.specs.Stepping.{latest, open_future, further, followed}
use Rattle.machine.proofs.GhostMachine.Ghost.{Control, Setting, State, vertex_at}
use Rattle.machine.proofs.GhostMachine.Invariant.{In, here, sits, bodies, Opened}
use Rattle.machine.proofs.TablesFollow.Follows.{Words, row, words_of, first_opened, Shows, shows_draft, shows_fresh, shows_ready, shows_busy}
use Rattle.machine.proofs.TablesFollow.Follows.{shows_joining, shows_over, Follows}

-- the latest open future in a row
abbrev latest_in : Words → ℕ
latest_in (row st pl sc ph a b c l) = l

-- is the nearest one that is open at a vertex that sits
sitting_latest :
    {p : Code} {Γ : Setting} {v σ : ℕ} {fs : List (ℕ × Code)} {w : Words} {x : Control} → Shows p Γ v w σ fs x → sits x ≡ true
    → latest_in w ≡ first_opened fs
unfolding sits
sitting_latest (shows_draft h) q = true-false q refl
sitting_latest (shows_fresh h) q = ap latest_in h
sitting_latest (shows_ready h) q = ap latest_in h
sitting_latest (shows_busy h) q = ap latest_in h
sitting_latest (shows_joining k φ ms gs h at goes le rest behind opens) q = true-false q refl
sitting_latest (shows_over pl sc ph a b c h) q = ap latest_in h

-- a word that names a made vertex
pub future_named : (s : Lent) (t : ℕ) → 0 < t → t < s.made → open_future s t ≡ some t
unfolding open_future
future_named s t some_vertex made = rw (both_true (lt-ltb 0 t some_vertex) (lt-ltb t s.made made)) refl

module _ {p : Code} {Γ : Setting} {s : Lent} {S : State} (F : Follows p Γ s S) (opened : Opened S) where
  latest_is : (t : ℕ) → t < S.count → sits (S.control t) ≡ true → latest s t ≡ first_opened (S.opens t)
  unfolding words_of
  latest_is t lt q = sitting_latest (F.rows_are t lt) q

  -- the vertex of the nearest of the futures that are open at v
  there_of :
      (v t : ℕ) (c : Code) (fs : List (ℕ × Code)) → v < S.count → S.opens v ≡ (t, c) ∷ fs
      → (0 < t) × (t < S.count) × (sits (S.control t) ≡ true)
  there_of v t c fs lt h = opened.there v t c lt (subst (λ (l : List (ℕ × Code)). In (t, c) l) (sym h) here)

  nearest :
      (v t : ℕ) (c : Code) (fs : List (ℕ × Code)) → v < S.count → S.opens v ≡ (t, c) ∷ fs → latest s v ≡ t
      → open_future s (latest s v) ≡ some t
  nearest v t c fs lt h q =
      let (some_vertex, made, sitting) = there_of v t c fs lt h in
      ap (open_future s) q ∙ future_named s t some_vertex (subst (λ (k : ℕ). t < k) (sym F.made_is) made)

  -- The words that v follows, where the futures fs are open and its word names the nearest.
  pub followed_is :
      (fs : List (ℕ × Code)) (n v : ℕ) {b : Code} → v < S.count → S.opens v ≡ fs → latest s v ≡ first_opened fs
      → nth_open (bodies fs) n ≡ some b → followed s v n ≡ some (vertex_at fs n)
  unfolding followed further vertex_at nth_open bodies
  followed_is [] n v lt h q found = absurd (none-ne-some _ found)
  followed_is ((t, c) ∷ fs) zero v lt h q found = nearest v t c fs lt h q
  followed_is ((t, c) ∷ fs) (suc n) v lt h q found =
      let (some_vertex, made, sitting) = there_of v t c fs lt h in
      let next = opened.next_out v t c fs lt h in
      rw (nearest v t c fs lt h q)
      (followed_is fs n t made next (latest_is t made sitting ∙ ap (λ (gs : List (ℕ × Code)). first_opened gs) next) found)
