-- Sound tables, refusal 12: the test `sound` in words of numbers, both ways.
use Prim.Native.Nat.{ℕ, ◌<◌, ◌≤◌}
use mathlib.Core.Path.{◌≡◌, subst}
use mathlib.Core.Bool.{true}
use borrow.Author.Tests.{lt-ltb, ltb-true, le-leb, leb-true}
use Rattle.graph.specs.Tables.{Lent, NEW, FINISHED, vertex_rows, edge_rows, status}
use Rattle.graph.specs.Sound.{tally_fits, status_known, statuses_known, ends_made, edges_made, sound}
use Rattle.graph.specs.Paths.{holds}
use Rattle.graph.proofs.TestLaws.{both_true, both_left, both_right, every_at, every_all}
use Rattle.graph.proofs.PathLaws.{holds_at, held_row}

abbrev pub Known : ℕ → Type 0
Known x = (NEW ≤ x) × (x ≤ FINISHED)

pub record Fits (s : Lent) : Type 0 where
  pub vertices_fit : s.made ≤ vertex_rows s.vertices
  pub edges_fit : s.held ≤ edge_rows s.edges
  pub statuses_are_known : (k : ℕ) → k < s.made → Known (status s.vertices k)
  pub ends_are_made : (a b : ℕ) → holds s.edges s.held a b ≡ true → (a < s.made) × (b < s.made)

-- the part of it that start looks at
pub sound_tally : (s : Lent) → sound s ≡ true → tally_fits s.vertices s.edges s.made s.held ≡ true
unfolding sound
sound_tally s h = both_left _ _ h

pub sound_fits : (s : Lent) → sound s ≡ true → Fits s
unfolding sound tally_fits status_known statuses_known ends_made edges_made
sound_fits s h =
    let tally = both_left _ _ h in
    let statuses = both_left _ _ (both_right _ _ h) in
    let ends = both_right _ _ (both_right _ _ h) in
    record {
      vertices_fit = leb-true _ _ (both_left _ _ tally);
      edges_fit = leb-true _ _ (both_right _ _ tally);
      statuses_are_known =
          λ k lt. let known = every_at _ _ statuses k lt in (leb-true _ _ (both_left _ _ known), leb-true _ _ (both_right _ _ known));
      ends_are_made =
          λ a b q.
          let (i, lt, p, r) = held_row s.edges s.held a b q in
          let made = every_at _ _ ends i lt in (
            subst (λ (x : ℕ). x < s.made) p (ltb-true _ _ (both_left _ _ made)),
            subst (λ (x : ℕ). x < s.made) r (ltb-true _ _ (both_right _ _ made)),
          );
    }

pub fits_sound : (s : Lent) → Fits s → sound s ≡ true
unfolding sound tally_fits status_known statuses_known ends_made edges_made
fits_sound s f =
    both_true (both_true (le-leb _ _ f.vertices_fit) (le-leb _ _ f.edges_fit))
    (both_true
    (every_all _ _
    (λ k lt. let known = f.statuses_are_known k lt in both_true (le-leb _ _ known.0) (le-leb _ _ known.1)))
    (every_all _ _
    (λ i lt.
    let made = f.ends_are_made _ _ (holds_at s.edges s.held i lt) in
    both_true (lt-ltb _ _ made.0) (lt-ltb _ _ made.1))))
