-- Tables that follow a state: what the rows tell of it, and how they follow it further. There are six effects, and each move is made of
-- them: a row and its control change, and what is open there; the edges change, a vertex is made, drafts are drafts no more, ranks change, a
-- step is counted.
use Prim.Native.Nat.{ℕ, suc, ◌+◌, ◌<◌}
use mathlib.Core.Path.{◌≡◌, refl, sym, ◌∙◌, ap, subst}
use mathlib.Core.Bool.{Bool, true, false, cond}
use mathlib.Core.Logic.{⊎_elim}
use mathlib.Core.List.{List}
use native.Mathlib.Omega.{arith}
use Rattle.graph.specs.Tables.{Lent, NEW, RELEASED, EXECUTING, FINISHED, vertex_rows, status}
use Rattle.graph.specs.Sound.{sound}
use Rattle.graph.specs.Paths.{holds}
use Rattle.graph.specs.Commands.{with_vertex}
use Rattle.graph.proofs.TestLaws.{equal?}
use Rattle.graph.proofs.SoundLaws.{Known, Fits, sound_fits, fits_sound}
use Rattle.program.specs.Located.{Code}
use Rattle.machine.specs.Answers.{one_step}
use Rattle.machine.specs.Stepping.{latest}
use Rattle.machine.proofs.GhostMachine.Ghost.{Control, draft, fresh, ready, busy, joining, over, Setting, State, put, woken, among}
use Rattle.machine.proofs.GhostMachine.Ghost.{with_control, with_edges, with_opens, with_ranks, grown, stirred}
use Rattle.machine.proofs.GhostMachine.GhostLaws.{put_same, put_other}
use Rattle.machine.proofs.TablesFollow.Follows.{Words, row, words_of, Shows, shows_draft, shows_fresh, shows_ready, shows_busy, shows_joining}
use Rattle.machine.proofs.TablesFollow.Follows.{shows_over, Follows, status_in}
use Rattle.machine.proofs.TablesFollow.RowLaws.{Rowed, new_row, new_others}

-- the status that a row has while it shows a control
unfoldable pub status_of : Control → ℕ
status_of (draft c) = NEW
status_of (fresh c) = NEW
status_of (ready c) = RELEASED
status_of (busy c ms) = EXECUTING
status_of (joining c d ds) = EXECUTING
status_of over = FINISHED

-- these are statuses
status_known : (x : Control) → Known (status_of x)
unfolding status_of
status_known (draft c) = (omega arith, omega arith)
status_known (fresh c) = (omega arith, omega arith)
status_known (ready c) = (omega arith, omega arith)
status_known (busy c ms) = (omega arith, omega arith)
status_known (joining c d ds) = (omega arith, omega arith)
status_known over = (omega arith, omega arith)

-- a row has the status of what it shows
status_shown :
    {p : Code} {Γ : Setting} {v σ : ℕ} {fs : List (ℕ × Code)} {w : Words} {x : Control} → Shows p Γ v w σ fs x → status_in w ≡ status_of x
unfolding status_of
status_shown (shows_draft h) = ap status_in h
status_shown (shows_fresh h) = ap status_in h
status_shown (shows_ready h) = ap status_in h
status_shown (shows_busy h) = ap status_in h
status_shown (shows_joining k φ ms gs h at goes le rest behind opens) = ap status_in h
status_shown (shows_over pl sc ph a b c h) = ap status_in h

shown_status :
    {p : Code} {Γ : Setting} {σ : ℕ} {fs : List (ℕ × Code)} (s : Lent) (v : ℕ) {x : Control} → Shows p Γ v (words_of s v) σ fs x
    → status s.vertices v ≡ status_of x
unfolding words_of
shown_status s v h = status_shown h

-- what is shown by the row of a vertex that is made
pub follows_status :
    {p : Code} {Γ : Setting} (s : Lent) (S : State) (v : ℕ) → Follows p Γ s S → v < S.count → status s.vertices v ≡ status_of (S.control v)
follows_status s S v F lt = shown_status s v (F.rows_are v lt)

-- a row and its control change, and other futures are open there
pub opens_follow :
    {p : Code} {Γ : Setting} {s s' : Lent} {v : ℕ} {f : Words → Words} (S : State) (x : Control) (opens : ℕ → List (ℕ × Code)) → Follows p Γ s S
    → Rowed s s' v f → ((u : ℕ) → (u ≡ v → ⊥) → opens u ≡ S.opens u) → Shows p Γ v (f (words_of s v)) (S.scope v) (opens v) x
    → Follows p Γ s' (with_opens (with_control S (put S.control v x)) opens)
opens_follow {p} {Γ} {s} {s'} {v} S x opens F R same shown =
    record {
      setting_is = F.setting_is;
      made_is = R.made_same ∙ F.made_is;
      edges_are = edges;
      rows_are = rows;
      sound_is =
          fits_sound s'
          (record {
            vertices_fit = rw (R.made_same, R.length_same) fits.vertices_fit;
            edges_fit = rw (R.held_same, R.edges_same) fits.edges_fit;
            statuses_are_known =
                λ k lt.
                let shows = rows k (omega (arith, R.made_same, F.made_is)) in
                subst (λ (z : ℕ). Known z) (sym (shown_status s' k shows)) (status_known _);
            ends_are_made = rw (R.made_same, R.held_same, R.edges_same) fits.ends_are_made;
          });
    }
  where
    fits : Fits s
    fits = sound_fits s F.sound_is

    edges : (a b : ℕ) → holds s'.edges s'.held a b ≡ S.edge a b
    edges a b = rw (R.held_same, R.edges_same) (F.edges_are a b)

    rows : (u : ℕ) → u < S.count → Shows p Γ u (words_of s' u) (S.scope u) (opens u) (put S.control v x u)
    rows u lt =
        ⊎_elim
        (λ q.
        subst (λ (z : ℕ). Shows p Γ z (words_of s' z) (S.scope z) (opens z) (put S.control v x z)) (sym q)
        (rw (R.here, put_same S.control v x) shown))
        (λ ne. rw (R.others u ne, put_other S.control v x u ne, same u ne) (F.rows_are u lt))
        (equal? u v)

-- a row and its control change
pub row_follows :
    {p : Code} {Γ : Setting} {s s' : Lent} {v : ℕ} {f : Words → Words} (S : State) (x : Control) → Follows p Γ s S → Rowed s s' v f
    → Shows p Γ v (f (words_of s v)) (S.scope v) (S.opens v) x → Follows p Γ s' (with_control S (put S.control v x))
row_follows S x F R shown = opens_follow S x S.opens F R (λ u ne. refl) shown

-- the edges change, and no row does
pub edges_follow :
    {p : Code} {Γ : Setting} {s s' : Lent} (S : State) (e : ℕ → ℕ → Bool) → Follows p Γ s S → ((u : ℕ) → words_of s' u ≡ words_of s u)
    → s'.made ≡ s.made → ((a b : ℕ) → holds s'.edges s'.held a b ≡ e a b) → sound s' ≡ true → Follows p Γ s' (with_edges S e)
edges_follow S e F same m h known =
    record {
      setting_is = F.setting_is;
      made_is = m ∙ F.made_is;
      edges_are = h;
      rows_are = λ u lt. rw (same u) (F.rows_are u lt);
      sound_is = known;
    }

-- a vertex is made by t, with this place, scope, rank and fin
pub vertex_follows :
    {p : Code} {Γ : Setting} (s : Lent) (S : State) (t : ℕ) (x : Control) (place σ low high : ℕ) → Follows p Γ s S
    → s.made < vertex_rows s.vertices → sound (with_vertex s t place σ) ≡ true
    → Shows p Γ s.made (row NEW place σ 0 0 0 0 (latest s t)) σ (S.opens t) x → Follows p Γ (with_vertex s t place σ) (grown S t x σ low high)
unfolding with_vertex
vertex_follows {p} {Γ} s S t x place σ low high F room known shown =
    record {
      setting_is = F.setting_is;
      made_is = counted s S F.made_is;
      edges_are = F.edges_are;
      rows_are = rows;
      sound_is = known;
    }
  where
    counted : (s : Lent) (S : State) → s.made ≡ S.count → s.made + 1 ≡ suc S.count
    counted s S q = omega arith

    Row : ℕ → Type 0
    Row u =
        Shows p Γ u (words_of (with_vertex s t place σ) u) (put S.scope S.count σ u) (put S.opens S.count (S.opens t) u)
        (put S.control S.count x u)

    rows : (u : ℕ) → u < suc S.count → Row u
    rows u lt =
        ⊎_elim
        (λ q.
        subst (λ (z : ℕ). Row z) (sym q)
        (rw (put_same S.scope S.count σ, put_same S.opens S.count (S.opens t), put_same S.control S.count x)
        (rw (sym F.made_is, new_row s t place σ room) shown)))
        (λ ne.
        rw
        (put_other S.scope S.count σ u ne, put_other S.opens S.count (S.opens t) u ne, put_other S.control S.count x u ne)
        (rw (new_others s t place σ u (λ q. ne (q ∙ F.made_is))) (F.rows_are u (omega arith))))
        (equal? u S.count)

-- a draft and a fresh vertex have the same row
shows_woken :
    {p : Code} {Γ : Setting} {v σ : ℕ} {fs : List (ℕ × Code)} {w : Words} {x : Control} → Shows p Γ v w σ fs x → Shows p Γ v w σ fs (woken x)
unfolding woken
shows_woken (shows_draft h) = shows_fresh h
shows_woken (shows_fresh h) = shows_fresh h
shows_woken (shows_ready h) = shows_ready h
shows_woken (shows_busy h) = shows_busy h
shows_woken (shows_joining k φ ms gs h at goes le rest behind opens) = shows_joining k φ ms gs h at goes le rest behind opens
shows_woken (shows_over pl sc ph a b c h) = shows_over pl sc ph a b c h

-- drafts are drafts no more
pub woken_follows :
    {p : Code} {Γ : Setting} {s : Lent} (S : State) (ms : List ℕ) → Follows p Γ s S
    → Follows p Γ s (with_control S (stirred S.control ms))
woken_follows {p} {Γ} {s} S ms F =
    record {
      setting_is = F.setting_is;
      made_is = F.made_is;
      edges_are = F.edges_are;
      rows_are = λ u lt. go (among u ms) (F.rows_are u lt);
      sound_is = F.sound_is;
    }
  where
    go :
        (b : Bool) {v : ℕ} {w : Words} {σ : ℕ} {fs : List (ℕ × Code)} {x : Control} → Shows p Γ v w σ fs x
        → Shows p Γ v w σ fs (cond b (woken x) x)
    go true h = shows_woken h
    go false h = h

-- ranks do not stand in the tables
pub ranks_follow : {p : Code} {Γ : Setting} {s : Lent} {S : State} (f : ℕ → ℕ) → Follows p Γ s S → Follows p Γ s (with_ranks S f)
ranks_follow f F =
    record {
      setting_is = F.setting_is;
      made_is = F.made_is;
      edges_are = F.edges_are;
      rows_are = F.rows_are;
      sound_is = F.sound_is;
    }

-- a step is counted
pub count_follows : {p : Code} {Γ : Setting} {s : Lent} {S : State} → Follows p Γ s S → Follows p Γ (one_step s) S
unfolding words_of sound
count_follows F =
    record {
      setting_is = F.setting_is;
      made_is = F.made_is;
      edges_are = F.edges_are;
      rows_are = F.rows_are;
      sound_is = F.sound_is;
    }
