-- The number is refused, or a job's is counted, or a force's names no open future, or it is counted.
use Rattle.std.proofs.Common.{ℕ, ◌≡◌, arith}
use mathlib.Core.Logic.{inl, inr}
use Rattle.program.specs.Bytes.{job_byte, force_byte}
use Rattle.program.specs.Claims.{HasNumber}
use Rattle.program.specs.Answers.{item_counts}
use Rattle.program.proofs.ProgressLaws.{passed_on}
use Rattle.program.proofs.ItemPaths.{numbered_stopped, numbered_unopened, numbered_counted, number_few}
use Rattle.program.proofs.Reader.numbered.Goals as goal

-- what has a number and is no job is a force
is_force : (x : ℕ) → HasNumber x → (x ≡ job_byte → ⊥) → x ≡ force_byte
is_force x (inl job) other = absurd (other job)
is_force x (inr force) other = force

pub returns-in_err-value : goal.returns-in_err-value
returns-in_err-value c =
    rw (passed_on _ _ c.from_residual.ensures) (numbered_stopped _ _ _ _ _ c.in_err-value.field-0.0 c.in_err-value.was c.number.ensures)

pub counting-requires : goal.counting-requires
counting-requires c = number_few _ _ _ _ _ c.requires.0 c.in_ok-value.was c.number.ensures

pub returns-then-first-eq-JOB : goal.returns-then-first-eq-JOB
returns-then-first-eq-JOB c =
    numbered_counted _ _ _ _ _ _ _ _ c.requires.1 c.in_ok-value.was c.number.ensures (inr (λ e. absurd (omega arith)))
    (rw c.if-first-eq-JOB.true c.counting.ensures)

pub returns-then-opened-value : goal.returns-then-opened-value
returns-then-opened-value c =
    rw c.refused.ensures
    (numbered_unopened c.args.self.place (item_counts c.args.self.seen) _ _ c.args.bytes.now _ _ c.in_ok-value.was c.number.ensures
    (is_force _ c.requires.1 c.if-first-eq-JOB.false) (omega (arith, c.if-opened-value.true)))

pub counting-requires-2 : goal.counting-requires-2
counting-requires-2 c = number_few _ _ _ _ _ c.requires.0 c.in_ok-value.was c.number.ensures

pub returns : goal.returns
returns c =
    let is = is_force _ c.requires.1 c.if-first-eq-JOB.false in
    numbered_counted _ _ _ _ _ _ _ _ c.requires.1 c.in_ok-value.was c.number.ensures (inl (is, c.if-opened-value.false))
    (rw is c.counting-2.ensures)
