-- The number of each reason, and of the refusal that is due.
use Rattle.std.specs.Prelude.{ℕ, ◌≡◌, Result, Ok, Err}
use Rattle.refusal.specs.declared.Reason.{Reason}
use Rattle.refusal.specs.declared.Reason.TheVariants.{LengthOutside, NumberMalformed, ByteUnknown, LevelTooDeep, BytesRunOut, BytesAfterEnd, JobTooLarge, TooManyVertices, NoSuchFuture, TooFewVertexRows, TooFewEdgeRows, UnsoundTables, NothingStarts, NoSuchVertex, EdgeLeadsIn, VertexIsNew, VertexIsFinished, VertexIsExecuting, CallerNotExecuting, NoVertexRow, NoEdgeRow, TargetNotWaiting, ClosesCycle, ReleaseNotNew, TransferNotNew, TransferHasEdgeOut, NoChain, ListTooShort, BusyTableTooShort, NoSuchEdition, NoSuchCommand}
use Rattle.refusal.specs.declared.Refusal.{Refusal}
use Rattle.refusal.specs.Refusals.{length_outside, number_malformed, byte_unknown, level_too_deep, bytes_run_out, bytes_after_end, job_too_large, too_many_vertices, no_such_future, too_few_vertex_rows, too_few_edge_rows, unsound_tables, nothing_starts, no_such_vertex, edge_leads_in, vertex_is_new, vertex_is_finished, vertex_is_executing, caller_not_executing, no_vertex_row, no_edge_row, target_not_waiting, closes_cycle, release_not_new, transfer_not_new, transfer_has_edge_out, no_chain, list_too_short, busy_table_too_short, no_such_edition, no_such_command}

abbrev pub number : Reason → ℕ
number LengthOutside = length_outside
number NumberMalformed = number_malformed
number ByteUnknown = byte_unknown
number LevelTooDeep = level_too_deep
number BytesRunOut = bytes_run_out
number BytesAfterEnd = bytes_after_end
number JobTooLarge = job_too_large
number TooManyVertices = too_many_vertices
number NoSuchFuture = no_such_future
number TooFewVertexRows = too_few_vertex_rows
number TooFewEdgeRows = too_few_edge_rows
number UnsoundTables = unsound_tables
number NothingStarts = nothing_starts
number NoSuchVertex = no_such_vertex
number EdgeLeadsIn = edge_leads_in
number VertexIsNew = vertex_is_new
number VertexIsFinished = vertex_is_finished
number VertexIsExecuting = vertex_is_executing
number CallerNotExecuting = caller_not_executing
number NoVertexRow = no_vertex_row
number NoEdgeRow = no_edge_row
number TargetNotWaiting = target_not_waiting
number ClosesCycle = closes_cycle
number ReleaseNotNew = release_not_new
number TransferNotNew = transfer_not_new
number TransferHasEdgeOut = transfer_has_edge_out
number NoChain = no_chain
number ListTooShort = list_too_short
number BusyTableTooShort = busy_table_too_short
number NoSuchEdition = no_such_edition
number NoSuchCommand = no_such_command

-- the number of the refusal that is due, 0 where none is
abbrev pub due_number : {A : Type 0} → Result A Reason → ℕ
due_number (Ok a) = 0
due_number (Err r) = number r

-- a refusal that has no place in the program
abbrev pub at_no_place : Reason → Refusal → Type 0
at_no_place reason given = given ≡ record { reason = reason; place = 0 }
