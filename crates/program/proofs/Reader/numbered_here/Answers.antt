-- What the number comes to is what is told, and reading it counts nothing.
use Rattle.std.proofs.Common.{refl, sym, ap, ◌∙◌}
use Rattle.program.specs.Internal.Progress.{reached_number}
use Rattle.program.proofs.ItemLaws.{job_shown, force_shown, refusal_shown, handed, number_seen, same_seen}
use Rattle.program.proofs.Reader.numbered_here.Goals as goal

pub returns-in-Err : goal.returns-in-Err
returns-in-Err c =
    (refusal_shown c.args.bytes.now _ _ _ _ _ (c.moved.ensures.0, ap reached_number (sym c.in-Err.is) ∙ c.number.ensures), refl)

pub returns-in-Ok : goal.returns-in-Ok
returns-in-Ok c =
    let read = ap reached_number (sym c.in-Ok.is) ∙ c.number.ensures in (
      job_shown c.args.bytes.now _ _ _ _ _ _ (c.moved.ensures.0, read) c.if-bytes-eq-JOB.true,
      handed _ refl (same_seen _ _ (number_seen _ _ _ _ _ _ read) ∙ c.moved.ensures.1),
    )

pub returns-in-Ok-2 : goal.returns-in-Ok-2
returns-in-Ok-2 c =
    let read = ap reached_number (sym c.in-Ok.is) ∙ c.number.ensures in (
      force_shown c.args.bytes.now _ _ _ _ _ _ (c.moved.ensures.0, read) c.if-bytes-eq-JOB.false,
      handed _ refl (same_seen _ _ (number_seen _ _ _ _ _ _ read) ∙ c.moved.ensures.1),
    )
