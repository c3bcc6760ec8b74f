-- `write_alone` meets its contract: 42 for an empty list, else one word is written.
use Rattle.std.proofs.Common.{refl, [], ◌∷◌, ◌<◌, length, arith}
use Rattle.std.proofs.lemmas.Grind.{common_steps}
use Rattle.std.proofs.Math.Seq.{set_split}
use Rattle.std.proofs.Math.ListN.{set}
use Rattle.chains.proofs.ReturnLaws.{shown_short, shown_written}
use Rattle.chains.proofs.showing.write_alone.Goals as goal

pub returns-then-is_empty : goal.returns-then-is_empty
returns-then-is_empty c = shown_short _ _ refl (grind (arith, common_steps))

pub returns : goal.returns
returns c =
    let list = c.args.list.now in
    let vertex = c.args.vertex in
    let room : 0 < length list = grind (arith, common_steps) in
    shown_written 1 list (set list 0 vertex) (vertex ∷ []) refl refl room (set_split list 0 vertex room)
