-- The desk and the tables of a walk, as they are handed on: what they lend is the same.
use Rattle.std.specs.Prelude.{◌≡◌, length}
use Rattle.walks.specs.declared.desk.Desk.{Desk}
use Rattle.walks.specs.declared.onindex.WalkTables.{WalkTables}

-- jobs are handed out or not, as before, and the tables are the same ones, as long as before
abbrev pub SameDesk : Desk → Desk → Type 0
SameDesk d d' =
    (d'.hands ≡ d.hands) × (length d'.busy.now ≡ length d.busy.now) × (length d'.jobs.now ≡ length d.jobs.now) × (d'.busy.ghost_name ≡ d.busy.ghost_name)
    × (d'.jobs.ghost_name ≡ d.jobs.ghost_name)

-- the index is for as many rows, and the table of vertices is the same one, as long as before
abbrev pub SameTables : WalkTables → WalkTables → Type 0
SameTables t t' = (t'.limit ≡ t.limit) × (length t'.vertices.now ≡ length t.vertices.now) × (t'.vertices.ghost_name ≡ t.vertices.ghost_name)
