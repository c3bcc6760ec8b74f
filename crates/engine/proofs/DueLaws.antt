-- What is due at a step, in the order of the code's tests: a chain of refusals, or what the item at the vertex's place asks for.
use Prim.Native.Nat.{ℕ, ◌+◌, ◌-◌, ◌<◌, ◌≤◌}
use mathlib.Core.Path.{◌≡◌, refl, sym, ◌∙◌, ap, subst}
use mathlib.Core.Bool.{Bool, true, false, cond}
use mathlib.Core.List.{List}
use mathlib.Core.Option.{some, none-ne-some}
use lib.ListN.{length}
use borrow.Author.Tests.{lt-ltb, le-ltb, eq-eqb, ne_eqb, ltb-true}
use Rattle.graph.specs.Tests.{both}
use Rattle.graph.specs.declared.Tally.{Tally}
use Rattle.graph.specs.Tables.{Lent, lent, vertex_rows, edge_rows, NEW, EXECUTING, FINISHED, place_word, scope_word, phase_word, made_word, future_word, vertex_word, status}
use Rattle.graph.specs.Sound.{sound}
use Rattle.graph.proofs.TestLaws.{both_true, both_left, both_right, both-false_left, both-false_right, not_of_true, not_of_false}
use Rattle.graph.proofs.SoundLaws.{sound_fits}
use Rattle.graph.proofs.CallLaws.{answered, answered_yes, answered_no}
use Rattle.refusal.specs.declared.Refusal.{Refusal}
use Rattle.refusal.specs.Refusals.{nothing_starts}
use Rattle.program.specs.declared.Edition.{Edition}
use Rattle.program.specs.declared.ItemRead.{ItemRead}
use Rattle.program.specs.declared.ItemRead.TheVariants as of_item
use Rattle.program.specs.declared.Reader.{Reader}
use Rattle.program.specs.Limits.{program_bytes}
use Rattle.program.specs.Answers.{Stands, stands, moved_past, reader_at}
use Rattle.program.specs.Located.{item_at, starts_at}
use Rattle.program.proofs.PlaceLaws.{starts_length, not_starting}
use Rattle.machine.specs.Stepping as machine
use Rattle.machine.specs.Stepping.{step_limit, steppable, start_due, place, task, own_of, Due, refusal_due, due_if, next_at, due}
use Rattle.machine.proofs.TablesFollow.StepLaws.{steppable_of, due_executing}
use Rattle.engine.specs.declared.Own.{Own}
use Rattle.engine.specs.Answers.{own_words}
use Rattle.engine.specs.Internal.Underway.{OwnIn, DueThere, Next, NextAt, NextIn}

own_place : (s : Lent) (v : ℕ) (w : Own) → own_of s v ≡ own_words w → place s v ≡ w.place
unfolding own_of
own_place s v w h = cc

-- what is due at an item is due at the place where it stands
next_item :
    (ed : Edition) (bytes t : List ℕ) (v σ : ℕ) (w : Own) (made : ℕ) {item : Stands} {d : Due} → item ≡ item_at ed bytes w.place
    → NextIn ed t (length bytes - 1) v σ (own_words w) made item d → Next ed bytes t v σ (own_words w) made d
next_item ed bytes t v σ w made {item} {d} e h s k p q r =
    h s k p q r ∙ ap (λ (x : Stands). next_at s v (task ed (length bytes - 1) x)) (e ∙ ap (item_at ed bytes) (sym (own_place s v w p)))

-- what is read there decides
pub next_read :
    (ed : Edition) (bytes t : List ℕ) (v σ : ℕ) (w : Own) (made : ℕ) {item read : ItemRead} {d : Due} → stands item ≡ item_at ed bytes w.place
    → item ≡ read → NextIn ed t (length bytes - 1) v σ (own_words w) made (stands read) d → Next ed bytes t v σ (own_words w) made d
next_read ed bytes t v σ w made e is = next_item ed bytes t v σ w made (ap stands (sym is) ∙ e)

-- a fork's is due in the edition at hand, whichever it is
pub of_edition :
    {ed ed' : Edition} (t : List ℕ) (L v σ : ℕ) (w : machine.Own) (made : ℕ) (item : Stands) {d : Due} → ed ≡ ed'
    → NextAt ed' L v σ w made item d → NextIn ed t L v σ w made item d
of_edition t L v σ w made item is h s k p q r = h s p q r ∙ ap (λ (x : Edition). next_at s v (task x L item)) (sym is)

-- where nothing starts
pub next_nothing :
    (ed : Edition) (bytes t : List ℕ) (v σ : ℕ) (w : Own) (made : ℕ) {item : ItemRead} {r : Refusal} → stands item ≡ item_at ed bytes w.place
    → item ≡ of_item.Refused r → Next ed bytes t v σ (own_words w) made (refusal_due 13)
unfolding task next_at
next_nothing ed bytes t v σ w made e is = next_read ed bytes t v σ w made e is (λ s k p q r. refl)

-- where an item or an end byte stands, the program has bytes, and not too many
pub item_length :
    (ed : Edition) (bytes : List ℕ) (p : ℕ) {item read : ItemRead} {past : Reader} → stands item ≡ item_at ed bytes p → item ≡ read
    → moved_past (reader_at p) (stands read) ≡ some past → (1 ≤ length bytes) × (length bytes ≤ program_bytes)
item_length ed bytes p {read = read} e is moved = go (starts_at ed bytes p) refl
  where
    go : (b : Bool) → starts_at ed bytes p ≡ b → (1 ≤ length bytes) × (length bytes ≤ program_bytes)
    go true h = let (some_bytes, few, lt) = starts_length ed bytes p h in (some_bytes, few)
    go false h =
        let none_there : stands read ≡ Stands.refused nothing_starts 0 = ap stands (sym is) ∙ e ∙ not_starting ed bytes p h in
        absurd (none-ne-some _ (sym (ap (moved_past (reader_at p)) none_there) ∙ moved))

-- a test that holds leaves the other one
pub both_skip : {a : Bool} (b : Bool) → a ≡ true → b ≡ both a b
unfolding both
both_skip b p = subst (λ (x : Bool). b ≡ both x b) (sym p) refl

pub both_first : (a : Bool) {b : Bool} → b ≡ true → a ≡ both a b
unfolding both
both_first true p = sym p
both_first false p = refl

-- an answer no
pub answers_no : {b : Bool} → b ≡ false → false ≡ b
answers_no p = sym p

-- The chain, test by test: one that passes hands over to the rest, one that does not answers its number. No start is due there.
pub passed : {b : Bool} (n : ℕ) {d rest : Due} → b ≡ true → d ≡ rest → d ≡ due_if b n rest
unfolding due_if
passed n {d} {rest} p q = q ∙ ap (λ (x : Bool). due_if x n rest) (sym p)

pub halted : {b : Bool} (n : ℕ) (rest : Due) → b ≡ false → refusal_due n ≡ due_if b n rest
unfolding due_if
halted n rest p = ap (λ (x : Bool). due_if x n rest) (sym p)

pub other_of : {b : Bool} (first : Due) {d rest : Due} → b ≡ false → d ≡ rest → d ≡ cond b first rest
other_of first {rest = rest} p q = q ∙ ap (λ (x : Bool). cond x first rest) (sym p)

pub ruleset dues = (
  passed,
  halted,
  both_skip,
  both_first,
  other_of,
  answers_no,
  both_true,
  both-false_left,
  both-false_right,
  not_of_true,
  not_of_false,
  lt-ltb,
  le-ltb,
  eq-eqb,
  ne_eqb,
  answered,
  answered_yes,
  answered_no,
  refl,
)

-- a vertex's own words, word by word
pub own_there :
    (t : List ℕ) (k : ℕ)
    → OwnIn t k
    (machine.own (vertex_word t k place_word) (vertex_word t k phase_word) (vertex_word t k made_word) (vertex_word t k (made_word + 1))
    (vertex_word t k (made_word + 2))
    (vertex_word t k future_word))
unfolding own_of
own_there t k s e = cc

-- what is due at the step of a vertex that executes, by its words
pub there_next :
    (ed : Edition) (bytes t : List ℕ) (made k : ℕ) (w : Own) {d : Due} → OwnIn t k (own_words w)
    → Next ed bytes t k (vertex_word t k scope_word) (own_words w) made d → DueThere ed bytes t made k d
there_next ed bytes t made k w own next s e m = next s e (sym (own s e)) (ap (λ (x : List ℕ). vertex_word x k scope_word) e) m

-- so that is due where steps are taken
pub due_there :
    (ed : Edition) (bytes : List ℕ) (s : Lent) (k : ℕ) {d : Due} → sound s ≡ true → s.steps < step_limit → k < s.made
    → status s.vertices k ≡ EXECUTING → DueThere ed bytes s.vertices s.made k d → d ≡ due ed bytes s k
due_there ed bytes s k known few lt is h = h s refl refl ∙ sym (due_executing ed bytes s k (steppable_of s known few) lt is)

-- the rows that are used are there
pub rows_there : (v e : List ℕ) (t : Tally) → sound (lent v e t) ≡ true → (t.made ≤ vertex_rows v) × (t.held ≤ edge_rows e)
rows_there v e t h = let fits = sound_fits (lent v e t) h in (fits.vertices_fit, fits.edges_fit)

-- tables that take steps are sound
pub steppable-sound : (s : Lent) → steppable s ≡ true → sound s ≡ true
unfolding steppable
steppable-sound s h = both_left _ _ h

-- and steps are left to take
pub steppable_few : (s : Lent) → steppable s ≡ true → s.steps < step_limit
unfolding steppable
steppable_few s h = ltb-true _ _ (both_right _ _ h)

-- what the item asks for is due behind all tests
pub due_item :
    (ed : Edition) (bytes : List ℕ) (s : Lent) (k : ℕ) (w : Own) {d : Due} → start_due s k ≡ false → steppable s ≡ true → k < s.made
    → (status s.vertices k ≡ NEW → ⊥) → (status s.vertices k ≡ FINISHED → ⊥) → OwnIn s.vertices k (own_words w)
    → Next ed bytes s.vertices k (vertex_word s.vertices k scope_word) (own_words w) s.made d → d ≡ due ed bytes s k
unfolding due
due_item ed bytes s k w off ok lt a b own next =
    other_of _ off
    (passed _ ok
    (passed _ (lt-ltb _ _ lt)
    (passed _ (not_of_false (ne_eqb _ _ a)) (passed _ (not_of_false (ne_eqb _ _ b)) (next s refl (sym (own s refl)) refl refl)))))
