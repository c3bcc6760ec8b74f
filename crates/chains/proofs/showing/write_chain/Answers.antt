-- `write_chain` meets its contract: one law for each return.
use Rattle.std.proofs.Common.{List, ℕ, sym, ap, ◌∙◌}
use Rattle.std.proofs.Math.Option.{Option}
use Rattle.chains.specs.Showing.{shown}
use Rattle.chains.proofs.Measures.{alone_found}
use Rattle.chains.proofs.ReturnLaws.{shown_unsound, shown_no_source, shown_no_target, shown_of_made}
use Rattle.chains.proofs.showing.write_chain.Goals as goal

pub returns-then-not-is_sound : goal.returns-then-not-is_sound
returns-then-not-is_sound c = shown_unsound _ _ _ _ (sym c.if-not-is_sound.ensures)

pub returns-then-made-source : goal.returns-then-made-source
returns-then-made-source c =
    elim c.then-made-source.branch [
      | goal.then-made-source-via-then-made-source w ↦ shown_no_source _ _ _ _ (sym c.if-not-is_sound.ensures) w.if-made-source.true
      | goal.then-made-source-via-else-made-source+then-made-target w ↦
          shown_no_target _ _ _ _ (sym c.if-not-is_sound.ensures) w.if-made-target.true
    ]

pub returns-then-source-target : goal.returns-then-source-target
returns-then-source-target c =
    shown_of_made _ _ _ _ (sym c.if-not-is_sound.ensures) _ c.if-made-source.false c.if-made-target.false
    (c.write_alone.ensures
    ∙ ap (λ (o : Option (List ℕ)). shown o c.args.list.now)
    (sym (alone_found _ _ _ (sym c.if-not-is_sound.ensures) c.if-made-target.false c.if-source-target.true)))

pub returns : goal.returns
returns c =
    shown_of_made _ _ _ _ (sym c.if-not-is_sound.ensures) _ c.if-made-source.false c.if-made-target.false c.write_shortest.ensures
