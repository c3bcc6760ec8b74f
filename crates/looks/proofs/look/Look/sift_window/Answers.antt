-- Nobody hinges on anything there; or those are shut of whom what is told means that their step is refused.
use native.Mathlib.Omega.{arith}
use borrow.Author.Tests.{leb-true}
use Rattle.looks.proofs.SiftLaws.{shuts_told}
use Rattle.looks.proofs.look.Look.sift_window.Goals as goal

pub returns : goal.returns
returns c =
    shuts_told _ _ _ _ _ _ _ _ _ _ _ _ c.ask_window.ensures c.tell_pairs.ensures (leb-true _ _) _
    (omega (arith, c.requires.early.1, c.requires.leaps.2))
    c.shut_told.ensures
