-- docs/ENGINE.md's "Refusals by who causes them", with the customer's words in quotation marks: the one list of their numbers and names.
-- The cases of the code's `Reason` (src/lib.rt), the header and the wrappers in Rust and Python have the same names; `number` in Reasons holds the
-- code's to these, and the hosts' tests compare the others with them.
use Rattle.std.specs.Prelude.{ℕ}

-- THE PROGRAM'S WRITER
-- "1 length 0 or over 4,096"
abbrev pub length_outside : ℕ
length_outside = 1

-- 2, of a number: "longer than five bytes or not shortest" (note 1)
abbrev pub number_malformed : ℕ
number_malformed = 2

-- "3 first byte above" 6: "Refusal 3 begins above 6" (note 5)
abbrev pub byte_unknown : ℕ
byte_unknown = 3

-- "4 a body at level 33 (place: its opener)"
abbrev pub level_too_deep : ℕ
level_too_deep = 4

-- "5 bytes run out, in a number before the last byte that it may have (place: the length)"
abbrev pub bytes_run_out : ℕ
bytes_run_out = 5

-- "6 bytes after the end"
abbrev pub bytes_after_end : ℕ
bytes_after_end = 6

-- 7, of a job: "above 4,294,967,295" (note 1); of a force's number too (note 5)
abbrev pub job_too_large : ℕ
job_too_large = 7

-- "8 V above 1,024"
abbrev pub too_many_vertices : ℕ
too_many_vertices = 8

-- "43 a force with no such future open, at its number's first byte" (note 5)
abbrev pub no_such_future : ℕ
no_such_future = 43

-- THE LENDER
-- "10 fewer than V vertex rows (bare machine: none)"
abbrev pub too_few_vertex_rows : ℕ
too_few_vertex_rows = 10

-- "11 too few edge rows"
abbrev pub too_few_edge_rows : ℕ
too_few_edge_rows = 11

-- "12 tally over the used rows, steps 8,192 or more (at a step or run only), a made vertex's status outside 1 to 4, or a held edge's end
-- not a made vertex"
abbrev pub unsound_tables : ℕ
unsound_tables = 12

-- "13 at an executing vertex's step, bytes that loading refuses by 1 to 8, a place where no item or end byte starts, or a phase not below
-- that item's commands"; "13 counts 43 as it does 1 to 8, and is also given at a force's newEdge where the words followed come to 0 or to
-- no made vertex" (note 5)
abbrev pub nothing_starts : ℕ
nothing_starts = 13

-- THE HOST, CHOOSING
-- "20 no such vertex"
abbrev pub no_such_vertex : ℕ
no_such_vertex = 20

-- "21 released but an edge leads in"
abbrev pub edge_leads_in : ℕ
edge_leads_in = 21

-- "22 new"
abbrev pub vertex_is_new : ℕ
vertex_is_new = 22

-- "23 finished"
abbrev pub vertex_is_finished : ℕ
vertex_is_finished = 23

-- "39 start of an executing vertex"
abbrev pub vertex_is_executing : ℕ
vertex_is_executing = 39

-- THE CALLER OF SINGLE COMMANDS
-- "30 caller not executing"
abbrev pub caller_not_executing : ℕ
caller_not_executing = 30

-- "31 no vertex row"
abbrev pub no_vertex_row : ℕ
no_vertex_row = 31

-- "32 no edge row"
abbrev pub no_edge_row : ℕ
no_edge_row = 32

-- "33 target executing or finished"; "33 spares the caller" (note 10)
abbrev pub target_not_waiting : ℕ
target_not_waiting = 33

-- "35 cycle"
abbrev pub closes_cycle : ℕ
closes_cycle = 35

-- "36 release of a vertex not new"
abbrev pub release_not_new : ℕ
release_not_new = 36

-- "37 transfer to a vertex not new"
abbrev pub transfer_not_new : ℕ
transfer_not_new = 37

-- "38 that vertex has an edge out"
abbrev pub transfer_has_edge_out : ℕ
transfer_has_edge_out = 38

-- WHOEVER ASKS FOR A CHAIN (note 2)
-- "41 no chain"
abbrev pub no_chain : ℕ
no_chain = 41

-- "42 list too short"
abbrev pub list_too_short : ℕ
list_too_short = 42

-- A HOST THAT HAS JOBS HANDED OUT
-- the table of marks has fewer words than the vertex table has usable rows
abbrev pub busy_table_too_short : ℕ
busy_table_too_short = 44

-- A HOST THAT ASKS FOR A COMMAND OR AN EDITION BY NUMBER
-- no edition has this number
abbrev pub no_such_edition : ℕ
no_such_edition = 98

-- no command has this number
abbrev pub no_such_command : ℕ
no_such_command = 99
