-- The labels are marked at the starts before they are spread.
use Rattle.reachability.proofs.MarkLaws.{told_so}
use Rattle.reachability.proofs.pairs.tell_pairs.Goals as goal

pub returns : goal.returns
returns c =
    let tell_each = c.tell_each in
    let spread = c.spread in
    let held_pairs = c.held_pairs-held in
    let goals_marked = c.mark_ends-2 in
    let starts_marked = c.mark_ends in
    told_so
    c.args.index.now
    c.args.starts.now
    c.args.goals.now
    starts_marked.new.marks
    goals_marked.new.marks
    spread.new.labels
    tell_each.new.told
    c.args.used
    held_pairs.result
    c.requires.starts_len_bound.1
    tell_each.ensures.0
    starts_marked.ensures
    goals_marked.ensures
    held_pairs.ensures
    spread.ensures
    tell_each.ensures.1
