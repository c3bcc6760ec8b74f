-- `write_shortest` meets its contract: what the search measured is the distance (`Measures`), and the walk is the chain.
use Rattle.std.proofs.Common.{◌≡◌, Bool, true, ℕ, ◌+◌, ◌<◌, List, ◌++◌, length, drop, get_or, sym, ap, ◌∙◌, subst, arith}
use Rattle.graph.specs.Tables.{Lent, lent}
use Rattle.graph.specs.Sound.{sound}
use Rattle.graph.specs.Internal.Search.{Measured}
use Rattle.graph.proofs.SoundChecks.{searchable}
use Rattle.chains.specs.Chains.{first_chain}
use Rattle.chains.proofs.Measures.{GotBack, none_found, chain_found, chain_long, mark_usable, walk_is, walkable}
use Rattle.chains.proofs.ReturnLaws.{shown-none, shown_short, shown_written}
use Rattle.chains.proofs.showing.write_shortest.Goals as goal

-- the search found the target, and left these marks
marked :
    {s : Lent} {target source : ℕ} {b : Bool} {marks : List ℕ} → sound s ≡ true → (target < s.made) × (source ≡ target → ⊥) → b ≡ true
    → Measured s.edges s.held target source b marks → GotBack s target source marks
marked {s} {target} {source} {b} {marks} known made found measured =
    record {
      known = known;
      made = made.0;
      apart = made.1;
      measured = subst (λ (b : Bool). Measured s.edges s.held target source b marks) found measured;
    }

abbrev chain : Lent → ℕ → ℕ → List ℕ → List ℕ
chain s target source marks = first_chain s (get_or marks target 0) target source

long : {s : Lent} {target source : ℕ} {marks : List ℕ} → GotBack s target source marks → length (chain s target source marks) ≡ get_or marks target 0 + 1
long got = let l = chain_long got in omega arith

pub measure-requires-clause-searchable : goal.measure-requires-clause-searchable
measure-requires-clause-searchable c =
    searchable (lent c.args.vertices.now c.args.edges.now c.args.tally) _ _ c.requires.tally_value c.requires.source_lt_made.1
    c.requires.source_lt_made.0

pub returns-then-not-measure : goal.returns-then-not-measure
returns-then-not-measure c =
    shown-none _
    (none_found (lent c.args.vertices.now c.args.edges.now c.args.tally) c.args.target c.args.source c.requires.tally_value
    c.requires.source_lt_made.2
    (sym c.measure.ensures.0 ∙ c.if-not-measure.true))

pub returns-then-list-links : goal.returns-then-list-links
returns-then-list-links c =
    let given : Lent = lent c.args.vertices.now c.args.edges.now c.args.tally in
    let got : GotBack given c.args.target c.args.source c.measure.new.distances =
    marked c.requires.tally_value (c.requires.source_lt_made.1, c.requires.source_lt_made.2) c.if-not-measure.false c.measure.ensures.1
    in
    shown_short c.args.list.now (chain given c.args.target c.args.source c.measure.new.distances)
    (chain_found got)
    (omega (arith, long got, c.if-list-links.true))

pub find_nearest-requires-clause-rows : goal.find_nearest-requires-clause-rows
find_nearest-requires-clause-rows c =
    (searchable (lent c.args.vertices.now c.args.edges.now c.args.tally) c.args.target c.args.source c.requires.tally_value
    c.requires.source_lt_made.1
    c.requires.source_lt_made.0).rows

pub write_walk-requires-clause-nearest_len : goal.write_walk-requires-clause-nearest_len
write_walk-requires-clause-nearest_len c =
    let given : Lent = lent c.args.vertices.now c.args.edges.now c.args.tally in
    let got : GotBack given c.args.target c.args.source c.measure.new.distances =
    marked c.requires.tally_value (c.requires.source_lt_made.1, c.requires.source_lt_made.2) c.if-not-measure.false c.measure.ensures.1
    in
    (c.find_nearest.ensures.long, walkable got c.find_nearest.new.nearest c.find_nearest.ensures)

pub overflow_add-result : goal.overflow_add-result
overflow_add-result c =
    let given : Lent = lent c.args.vertices.now c.args.edges.now c.args.tally in
    let got : GotBack given c.args.target c.args.source c.measure.new.distances =
    marked c.requires.tally_value (c.requires.source_lt_made.1, c.requires.source_lt_made.2) c.if-not-measure.false c.measure.ensures.1
    in
    omega (arith, mark_usable got)

pub returns : goal.returns
returns c =
    let given : Lent = lent c.args.vertices.now c.args.edges.now c.args.tally in
    let got : GotBack given c.args.target c.args.source c.measure.new.distances =
    marked c.requires.tally_value (c.requires.source_lt_made.1, c.requires.source_lt_made.2) c.if-not-measure.false c.measure.ensures.1
    in
    let links : ℕ = get_or c.measure.new.distances c.args.target 0 in
    shown_written (links + 1) c.args.list.now c.write_walk.new.list (chain given c.args.target c.args.source c.measure.new.distances)
    (chain_found got)
    (sym (long got))
    (omega (arith, long got, c.if-list-links.false))
    (c.write_walk.ensures
    ∙ ap (λ (l : List ℕ). l ++ drop (links + 1) c.args.list.now) (walk_is got c.find_nearest.new.nearest c.find_nearest.ensures))
