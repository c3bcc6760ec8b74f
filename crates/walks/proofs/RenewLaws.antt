-- A walk whose index is used up goes on with a new one: the edges that are left are handed back, and taken in anew.
use Prim.Native.Nat.{ℕ, ◌+◌, ◌*◌, ◌<◌, ◌≤◌}
use mathlib.Core.Path.{◌≡◌, sym, ◌∙◌, ap, subst}
use mathlib.Core.Bool.{true}
use mathlib.Core.List.{List, ◌++◌, append-nil}
use native.Mathlib.Omega.{arith}
use lib.ListN.{length, drop, replicate}
use lib.Seq.{drop-length}
use borrow.Author.Tests.{lt-ltb}
use Rattle.graph.specs.Tables.{Lent, lent, usable_limit, edge_words, edge_rows, source, target, clear}
use Rattle.graph.specs.Sound.{sound, ends_made, edges_made}
use Rattle.graph.proofs.ClearLaws.{clear_is}
use Rattle.graph.proofs.PathLaws.{holds_at}
use Rattle.graph.proofs.SoundLaws.{sound_fits}
use Rattle.graph.proofs.SoundChecks.{sound_rows}
use Rattle.graph.proofs.TestLaws.{both_true, every_all}
use Rattle.index.specs.declared.Course.{Course}
use Rattle.index.specs.Layout.{row_limit, Indexed, SameRows}
use Rattle.index.specs.Table.{live_rows, table_of}
use Rattle.index.specs.Underway.{state_of, Ready}
use Rattle.index.proofs.StandsFor.{edge_rows-table_of}
use Rattle.index.proofs.TakenIn.{begun, taken_in, stands_for_lent}

-- a table whose words are all cleared
pub all_cleared : (x : List ℕ) (n : ℕ) → length x ≡ n → clear x 0 n ≡ replicate n 0
all_cleared x n long =
    clear_is x 0 n (omega arith)
    ∙ ap (λ (k : ℕ). replicate n 0 ++ drop k x) (let z : 0 + n ≡ length x = omega arith in z)
    ∙ ap (λ (l : List ℕ). replicate n 0 ++ l) (drop-length x)
    ∙ append-nil (replicate n 0)

-- the held edges of sound tables have usable vertices for their ends
pub usable_ends : (s : Lent) → sound s ≡ true → edges_made s.edges usable_limit s.held ≡ true
unfolding edges_made ends_made
usable_ends s h =
    every_all _ s.held
    (λ i lt.
    let few = sound_rows s h in
    let m : (source s.edges i < s.made) × (target s.edges i < s.made) = (sound_fits s h).ends_are_made _ _ (holds_at s.edges s.held i lt) in
    both_true (lt-ltb (source s.edges i) usable_limit (omega arith)) (lt-ltb (target s.edges i) usable_limit (omega arith)))

module _ (v x : List ℕ) (k : Course) (limit : ℕ) (e : List ℕ) (ready : Ready v x k limit) (rows : limit ≡ edge_rows e) where
  -- the edges can be handed back
  pub room_back : (edge_words * k.peak ≤ length e) × (live_rows x k.used ≤ k.peak)
  room_back =
      let live = ready.live in
      let below = ready.below_peak in
      let within = ready.within in
      omega arith

  module _ (e' : List ℕ) (back : e' ≡ table_of x k.used k.peak e) where
    sound_back : sound (lent v e' k.tally) ≡ true
    sound_back = subst (λ (l : List ℕ). sound (lent v l k.tally) ≡ true) (sym back) (ready.sound e (sym rows))

    -- and then taken in
    pub ready_to_take :
        (edge_words * k.tally.held ≤ length e') × (k.tally.held ≤ usable_limit) × (edges_made e' usable_limit k.tally.held ≡ true)
    ready_to_take =
        let few = sound_rows (lent v e' k.tally) sound_back in
        (few.1.0, few.1.1.1, usable_ends (lent v e' k.tally) sound_back)

    same_rows : limit ≡ edge_rows e'
    same_rows = rows ∙ sym (edge_rows-table_of x k.used k.peak e room_back.1 room_back.0) ∙ ap (λ (l : List ℕ). edge_rows l) (sym back)

    -- the walk is where it was
    pub taken_anew :
        (x' : List ℕ) → Indexed x' k.tally.held × SameRows k.tally.held x' e'
        → Ready v x' (begun k.tally) limit × (k.tally.held < row_limit) × (limit ≡ edge_rows e')
        × (state_of v x' (begun k.tally) e' ≡ state_of v x k e)
    taken_anew x' (indexed, same) = (
      subst (λ (n : ℕ). Ready v x' (begun k.tally) n) (sym same_rows) (taken_in v x' e' k.tally sound_back same indexed),
      let few = ready_to_take in omega arith,
      same_rows,
      stands_for_lent v x' e' k.tally sound_back same ∙ ap (λ (l : List ℕ). lent v l k.tally) back,
    )
