-- What reading a program and reading an item answer. "Where an answer is an enum, a definition gives this paper's number and values for
-- each of its cases."
use Rattle.std.specs.Prelude.{ℕ, ◌+◌, Result, Ok, Err}
use Rattle.std.proofs.Math.Option.{Option, none, some}
use Rattle.program.specs.declared.ItemCounts.{ItemCounts}
use Rattle.program.specs.declared.Reader.{Reader}
use Rattle.program.specs.declared.ItemRead.{ItemRead}
use Rattle.program.specs.declared.ItemRead.TheVariants as of_item
use Rattle.refusal.specs.declared.Refusal.{Refusal}
use Rattle.refusal.specs.Reasons.{number as number_of}
use Rattle.program.specs.Trees.{Counts, counts}
use Rattle.program.specs.Reader.{Reading, program, refusal}

-- reading a program: the counts of its items, or a refusal's number and place
pub data ProgramSaid : Type 0 where
  loads : Counts → ProgramSaid
  refused : ℕ → ℕ → ProgramSaid

unfoldable pub told : Reading → ProgramSaid
told (program b) = loads (counts b)
told (refusal n p) = refused n p

abbrev pub item_counts : ItemCounts → Counts
item_counts c = record { w = c.jobs; a = c.asyncs; f = c.finishes; k = c.forks; u = c.futures; x = c.forces }

abbrev pub said : Result ItemCounts Refusal → ProgramSaid
said (Ok c) = loads (item_counts c)
said (Err r) = ProgramSaid.refused (number_of r.reason) r.place

-- What stands at a place: a job or a force with its number, an async, a finish or a future with where its body starts, a fork with where its
-- two bodies start, each with where it ends, the end byte of a body, or a refusal.
pub data Stands : Type 0 where
  job : ℕ → ℕ → Stands
  async : ℕ → ℕ → Stands
  finish : ℕ → ℕ → Stands
  fork : ℕ → ℕ → ℕ → Stands
  future : ℕ → ℕ → Stands
  force : ℕ → ℕ → Stands
  end : Stands
  refused : ℕ → ℕ → Stands

abbrev pub stands : ItemRead → Stands
stands (of_item.Job number past) = job number past.place
stands (of_item.Async body past) = async body past.place
stands (of_item.Finish body past) = finish body past.place
stands (of_item.Fork left right past) = fork left right past.place
stands (of_item.Future body past) = future body past.place
stands (of_item.Force number past) = force number past.place
stands (of_item.End past) = end
stands (of_item.Refused r) = Stands.refused (number_of r.reason) r.place

-- "with a reader handed back moved past it": the reader that an item reader hands back
abbrev pub handed_back : ItemRead → Option Reader
handed_back (of_item.Job number past) = some past
handed_back (of_item.Async body past) = some past
handed_back (of_item.Finish body past) = some past
handed_back (of_item.Fork left right past) = some past
handed_back (of_item.Future body past) = some past
handed_back (of_item.Force number past) = some past
handed_back (of_item.End past) = some past
handed_back (of_item.Refused r) = none

-- a reader moved past what stands at its place, an item or an end byte; what it has seen stays
abbrev pub moved_past : Reader → Stands → Option Reader
moved_past r (job number past) = some (record { place = past; seen = r.seen })
moved_past r (async body past) = some (record { place = past; seen = r.seen })
moved_past r (finish body past) = some (record { place = past; seen = r.seen })
moved_past r (fork left right past) = some (record { place = past; seen = r.seen })
moved_past r (future body past) = some (record { place = past; seen = r.seen })
moved_past r (force number past) = some (record { place = past; seen = r.seen })
moved_past r end = some (record { place = r.place + 1; seen = r.seen })
moved_past r (refused number place) = none

-- a reader at a place, which has seen nothing
abbrev pub reader_at : ℕ → Reader
reader_at p = record { place = p; seen = record { jobs = 0; asyncs = 0; finishes = 0; forks = 0; futures = 0; forces = 0 } }
