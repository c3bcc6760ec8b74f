-- How a walk ends: by what is found where it stops.
use Rattle.std.specs.Prelude.{ℕ, Bool, true, false, cond, List}
use Rattle.graph.specs.Tables.{Lent}
use Rattle.program.specs.declared.Edition.{Edition}
use Rattle.machine.specs.Running.{lowest, all_finished, Ending, done, stuck, spent}
use Rattle.machine.specs.Dispatching.{lowest_free}
use Rattle.machine.specs.Dispatching as of_dispatch
use Rattle.looks.specs.Looking.{found}

-- how a run ends where no step would be accepted: all vertices are finished, or not
abbrev pub at_rest : Bool → Ending
at_rest finished = cond finished done stuck

-- how it ends where it stops, by whether some vertex can step there, and whether all are finished
unfoldable pub run_end : (can finished : Bool) → Ending
run_end true finished = spent
run_end false finished = at_rest finished

-- how a dispatch ends where it stops, by what is found there: whether all vertices are finished, whether one can step, whether one that is not busy
-- can, and whether its list has a row left
unfoldable pub dispatch_ends : (finished any free row : Bool) → of_dispatch.Ending
dispatch_ends true any free row = of_dispatch.done
dispatch_ends false any true row = cond row of_dispatch.spent of_dispatch.full
dispatch_ends false true false row = of_dispatch.waiting
dispatch_ends false false false row = of_dispatch.stuck

abbrev pub dispatch_rests : Edition → List ℕ → Lent → List ℕ → Bool → of_dispatch.Ending
dispatch_rests ed bytes s marks row =
    dispatch_ends (all_finished s) (found (lowest ed bytes s)) (found (lowest_free ed bytes s marks)) row
