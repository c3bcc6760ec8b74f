-- The count of the byte's kind is one more, and the others are the same.
use Rattle.std.proofs.Common.{refl, arith}
use native.Mathlib.Nat.{add-zero}
use borrow.Author.Tests.{ne_eqb}
use Rattle.program.specs.Bytes.{job_byte, async_byte, finish_byte, fork_byte, future_byte, force_byte}
use Rattle.program.specs.Internal.Progress.{plus, one_of}
use Rattle.program.proofs.Reader.counting.Goals as goal

pub returns-in-1 : goal.returns-in-1
unfolding plus one_of
returns-in-1 c = (refl, rw c.in-1.is (simp add-zero))

pub returns-in-2 : goal.returns-in-2
unfolding plus one_of
returns-in-2 c = (refl, rw c.in-2.is (simp add-zero))

pub returns-in-3 : goal.returns-in-3
unfolding plus one_of
returns-in-3 c = (refl, rw c.in-3.is (simp add-zero))

pub returns-in-4 : goal.returns-in-4
unfolding plus one_of
returns-in-4 c = (refl, rw c.in-4.is (simp add-zero))

pub returns-in-5 : goal.returns-in-5
unfolding plus one_of
returns-in-5 c = (refl, rw c.in-5.is (simp add-zero))

pub returns-in-6 : goal.returns-in-6
unfolding plus one_of
returns-in-6 c = (refl, rw c.in-6.is (simp add-zero))

-- a byte of no kind
pub returns-in_default : goal.returns-in_default
unfolding plus one_of
returns-in_default c =
    let other = ne_eqb c.args.first in (
      refl,
      simp (
        other job_byte (omega arith),
        other async_byte (omega arith),
        other finish_byte (omega arith),
        other fork_byte (omega arith),
        other future_byte (omega arith),
        other force_byte (omega arith),
        add-zero,
      ),
    )
