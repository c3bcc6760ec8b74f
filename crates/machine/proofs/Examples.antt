-- The examples of the table hold: each is evaluated, by unfolding the definitions of the calls.
use mathlib.Core.Path.{refl}
use Rattle.graph.specs.Tables.{clear}
use Rattle.graph.specs.Tests.{both, either, every, any, lowest_below, or_this}
use Rattle.graph.specs.Sound.{sound, tally_fits, status_known, statuses_known, ends_made, edges_made}
use Rattle.graph.specs.Paths.{holds, leads_out_of, reaches}
use Rattle.graph.specs.Answers as a
use Rattle.graph.specs.Commands as g
use Rattle.program.specs.Trees.{total, with_first, open_behind}
use Rattle.program.specs.Bytes.{encode, group_bytes, encode_number, size, number_size}
use Rattle.program.specs.Encodings.{vertices_made, edge_rows_needed, row_of, fork_row, weight, makes, links, items_weight}
use Rattle.program.specs.Reader as r
use Rattle.program.specs.Located as l
use Rattle.machine.specs.Loading.{load, load_read, loaded_tables}
use Rattle.machine.specs.Stepping.{steppable, start_due, open_future, further, followed, or_zero, named, is_vertex, stands, all_stand, spots, task, nth}
use Rattle.machine.specs.Stepping.{own_of, with_made, with_kept, with_phase, own_past_item, moved_on, due_if, filled_in, next_of, next_at, due, stored, step}
use Rattle.machine.specs.Running.{run, run_on, look, lowest, all_finished}
use Rattle.machine.specs.Demand3.{answers_job}
use Rattle.machine.specs.FairOrders.{job_named, lowest_with, is_no_job, is_job_at, naming, naming_job, schedule}
use Rattle.machine.specs.Examples.{anything, cycle_lent, said_by, left_by, edge_written, word_written, said_bare, left_bare, runs}
use Rattle.machine.specs.Examples.{takes_steps, names_in_turn, commands, commands_on, table, Each, none, ◌&◌}

-- Every example of the table holds.
pub examples : Each table
unfolding anything cycle_lent runs takes_steps names_in_turn schedule naming naming_job lowest_with is_no_job is_job_at job_named answers_job edge_written word_written commands commands_on said_by left_by said_bare left_bare run run_on look lowest
    lowest_below or_this all_finished step stored due next_at next_of filled_in due_if moved_on own_past_item with_phase with_kept with_made own_of nth
    task spots named all_stand stands is_vertex or_zero followed further open_future start_due steppable load load_read loaded_tables r.reading r.whole
    r.body r.body_of r.item r.item_of r.deeper r.kind_of r.number r.groups r.and_then r.take_if r.job_of r.force_of r.counted vertices_made
    edge_rows_needed items_weight row_of fork_row weight makes links total with_first open_behind l.item_at l.stands_in l.found l.head l.code_at
    l.here l.or_else l.located l.locate l.open_at l.start_of size encode encode_number group_bytes number_size g.opened_tables g.opening
    g.command g.new_td g.new_edge g.release g.transfer g.start g.stop g.yield g.caller_refusal g.new_td_refusal g.ends_refusal g.adds_nothing
    g.append_refusal g.new_edge_refusal g.release_refusal g.transfer_refusal g.start_refusal g.stop_refusal g.yield_refusal g.new_row g.with_vertex g.with_edge
    g.one_more g.more_into g.less_into g.lowered_row g.lowered
    g.appended g.target_reaches g.moved_row g.moved g.with_moved g.kept_rows g.kept g.without_edges_of g.stopped clear sound tally_fits
    status_known statuses_known ends_made edges_made both either every any holds leads_out_of reaches a.decided a.unless
examples =
    refl
    & refl
    & refl
    & refl
    & refl
    & refl
    & refl
    & refl
    & refl
    & refl
    & refl
    & refl
    & refl
    & refl
    & refl
    & refl
    & refl
    & refl
    & refl
    & refl
    & refl
    & refl
    & refl
    & refl
    & refl
    & refl
    & refl
    & refl
    & refl
    & refl
    & refl
    & refl
    & refl
    & refl
    & refl
    & refl
    & refl
    & refl
    & refl
    & refl
    & refl
    & refl
    & refl
    & refl
    & refl
    & refl
    & refl
    & refl
    & refl
    & none
