-- What sound tables (src/sound.rt) lend, as one.
use Rattle.graph.specs.declared.sound.SoundTables.{SoundTables}
use Rattle.graph.specs.Tables.{Lent, lent}

abbrev pub lent_of : SoundTables → Lent
lent_of t = lent t.vertices.now t.edges.now t.tally
