-- "`04 01 01 00 01 02 00 01 03 00`: .. job 3 last": in every list of steps of either edition, as an instance of demand 3. (That the jobs
-- of `02 01 01 00 01 02 00` come in either order stands in the table of specs/Examples.antt, as two lists of steps.) And of `05 01 01 00 06 00
-- 01 02 00`, a future of job 1 and a force before job 2: job 2 last. And of a program without jobs, that it has one fair order, the empty one (note
-- 7).
use Prim.Native.Nat.{ℕ}
use mathlib.Core.Path.{◌≡◌, refl, sym, subst}
use mathlib.Core.Logic.{◌↔◌}
use mathlib.Core.List.{List, [], ◌∷◌, ◌++◌}
use Rattle.graph.specs.Tables.{Lent}
use native.Mathlib.Omega.{arith}
use Rattle.program.specs.Trees.{end, with_first, open_behind, total}
use Rattle.program.specs.declared.Edition.{Edition}
use Rattle.program.specs.declared.Edition.TheVariants.{First, Second}
use Rattle.program.specs.Encodings.{vertices_made, items_weight, row_of, fork_row, weight, makes}
use Rattle.program.specs.Reader as reader
use Rattle.program.specs.Reader.{reading, program}
use Rattle.machine.specs.Answers.{StepSaid, job}
use Rattle.machine.specs.Reached.{Reached}
use Rattle.program.specs.Located.{locate, located}
use Rattle.machine.specs.Demand3.{ran_in, Written}
use Rattle.machine.specs.FairOrders.{Fair}
use Rattle.machine.proofs.AheadExamples.{forked, left_ahead, right_ahead, awaited, future_ahead}
use Rattle.machine.proofs.Demand3.{demand3}
use Rattle.machine.proofs.JobsAnswered.{times_here, none_in}
use Rattle.machine.proofs.GhostMachine.GhostLaws.{clash}
use Rattle.machine.proofs.JobOrder.OrderLaws.{written_job}
use Rattle.machine.proofs.JobOrder.WaitLaws.{end_job}

abbrev bytes : List ℕ
bytes = 0x04 ∷ 0x01 ∷ 0x01 ∷ 0x00 ∷ 0x01 ∷ 0x02 ∷ 0x00 ∷ 0x01 ∷ 0x03 ∷ 0x00 ∷ []

-- the bytes are this program's, in either edition
reads : (ed : Edition) → reading ed bytes ≡ program forked
unfolding reading reader.whole reader.body reader.body_of reader.item reader.item_of reader.deeper reader.kind_of reader.number
    reader.groups reader.take_if reader.and_then reader.job_of reader.counted vertices_made items_weight row_of fork_row weight makes total with_first
    open_behind
reads First = refl
reads Second = refl

-- Before job 3, at offset 7, is answered, jobs 1 and 2, at offsets 1 and 4, were answered once.
pub job_3_last :
    {ed : Edition} {s₀ : Lent} {answers : List StepSaid} {s : Lent} → Reached ed bytes s₀ answers s → (before after : List StepSaid) (n : ℕ)
    → answers ≡ before ++ (job n 7 ∷ after) → (ran_in 1 before ≡ 1) × (ran_in 4 before ≡ 1)
job_3_last {ed} q before after n e =
    let d = demand3 ed bytes forked (reads ed) q in
    (d.in_order before after n 7 1 e left_ahead, d.in_order before after n 7 4 e right_ahead)

abbrev awaited_bytes : List ℕ
awaited_bytes = 0x05 ∷ 0x01 ∷ 0x01 ∷ 0x00 ∷ 0x06 ∷ 0x00 ∷ 0x01 ∷ 0x02 ∷ 0x00 ∷ []

-- the bytes are this program's
awaited_reads : (ed : Edition) → reading ed awaited_bytes ≡ program awaited
unfolding reading reader.whole reader.body reader.body_of reader.item reader.item_of reader.deeper reader.kind_of reader.number
    reader.groups reader.take_if reader.and_then reader.job_of reader.force_of reader.counted vertices_made items_weight row_of weight makes total
    with_first open_behind
awaited_reads ed = refl

-- Before job 2, at offset 6, is answered, job 1, at offset 1, was answered once: the force waits for the future's body.
pub forced_job_last :
    {ed : Edition} {s₀ : Lent} {answers : List StepSaid} {s : Lent} → Reached ed awaited_bytes s₀ answers s → (before after : List StepSaid)
    (n : ℕ) → answers ≡ before ++ (job n 6 ∷ after) → ran_in 1 before ≡ 1
forced_job_last {ed} q before after n e = (demand3 ed awaited_bytes awaited (awaited_reads ed) q).in_order before after n 6 1 e future_ahead

-- FAIR ORDERS

-- a program without jobs has one order, the empty one
pub no_jobs : (order : List ℕ) → Fair end order ↔ (order ≡ [])
unfolding located locate
no_jobs order = (only order, λ e. subst (Fair end) (sym e) empty)
  where
    unwritten : {n o : ℕ} → Written end o n → ⊥
    unwritten {n} {o} w = end_job 0 o (written_job end o n w)

    only : (order : List ℕ) → Fair end order → order ≡ []
    only [] fair = refl
    only (o ∷ order) fair = let (n, w) = fair.only_jobs o (omega (arith, times_here o order)) in absurd (unwritten w)

    none_split : (before behind : List ℕ) (q : ℕ) → [] ≡ before ++ (q ∷ behind) → ⊥
    none_split [] behind q e = clash cc
    none_split (x ∷ before) behind q e = clash cc

    empty : Fair end []
    empty =
        record {
          only_jobs = λ o lt. absurd (omega (arith, lt, none_in o));
          each_once = λ n o w. absurd (unwritten w);
          none_early = λ before behind p q e h. absurd (none_split before behind q e);
        }
