-- The opening and the seven commands: for each the refusals in their order, and what an accepted call leaves (docs/ENGINE.md, "The seven
-- commands" and "Order of refusals").
use Rattle.std.specs.Prelude.{ℕ, zero, suc, ◌+◌, ◌-◌, ◌*◌, Bool, not, cond, List, [], ◌∷◌, ◌++◌, drop, replicate, eqb, ltb}
use Rattle.graph.specs.declared.Command.{Command}
use Rattle.graph.specs.declared.Command.TheVariants.{NewTd, NewEdge, Release, Transfer, Start, Stop, Yield}
use Rattle.graph.specs.Tests.{both, either, any}
use Rattle.graph.specs.Tables.{Lent, NEW, RELEASED, EXECUTING, FINISHED, vertex_words, edge_words, place_word, scope_word, future_word}
use Rattle.graph.specs.Tables.{source_word, target_word, vertex_rows, edge_rows, vertex_word, status, set_status, set_vertex_word, set_edge_word}
use Rattle.graph.specs.Tables.{source, target, in_count_word, largest_word, in_count, clear}
use Rattle.refusal.specs.Refusals.{too_few_vertex_rows, unsound_tables, no_such_vertex, edge_leads_in, vertex_is_new, vertex_is_finished}
use Rattle.refusal.specs.Refusals.{vertex_is_executing, caller_not_executing}
use Rattle.refusal.specs.Refusals.{no_vertex_row, no_edge_row, target_not_waiting, closes_cycle, release_not_new}
use Rattle.refusal.specs.Refusals.{transfer_not_new, transfer_has_edge_out}
use Rattle.graph.specs.Answers.{CommandSaid, Outcome, opened, opening_refused, unless, decided, OpeningSaid}
use Rattle.graph.specs.Sound.{tally_fits, status_known, sound}
use Rattle.graph.specs.Paths.{holds, leads_out_of, reaches}

abbrev pub is_made : Lent → ℕ → Bool
is_made s t = ltb t s.made

abbrev pub has_status : Lent → ℕ → ℕ → Bool
has_status s t x = eqb (status s.vertices t) x

abbrev pub with_status : Lent → ℕ → ℕ → Lent
with_status s t x =
    record { vertices = set_status s.vertices t x; edges = s.edges; made = s.made; held = s.held; steps = s.steps }

-- "Opening the bare machine clears the used rows and tally and makes vertex 0, released, other words 0."
unfoldable pub opened_tables : Lent → Lent
opened_tables s =
    record {
      vertices = set_status (clear s.vertices 0 (vertex_words * vertex_rows s.vertices)) 0 RELEASED;
      edges = clear s.edges 0 (edge_words * edge_rows s.edges);
      made = 1;
      held = 0;
      steps = 0;
    }

unfoldable pub opening : Lent → Outcome OpeningSaid
opening s =
    cond (ltb 0 (vertex_rows s.vertices))
    (record { answer = opened; after = opened_tables s })
    (record { answer = opening_refused too_few_vertex_rows 0; after = s })

-- "The caller t must be executing, except in start." "Commands: 12, 20, then .. 30": of a command of t that names a and b
-- besides; its own refusals follow.
unfoldable pub caller_refusal : Lent → ℕ → ℕ → ℕ → ℕ → ℕ
caller_refusal s t a b own =
    unless (sound s) unsound_tables
    (unless (both (is_made s t) (both (is_made s a) (is_made s b))) no_such_vertex
    (unless (has_status s t EXECUTING) caller_not_executing own))

-- "newTd makes the next vertex, new, with the place and scope handed in and its other words 0."
unfoldable pub new_td_refusal : Lent → ℕ → ℕ
new_td_refusal s t = caller_refusal s t t t (unless (ltb s.made (vertex_rows s.vertices)) no_vertex_row 0)

unfoldable pub new_row : List ℕ → ℕ → ℕ → ℕ → ℕ → List ℕ
new_row v k place scope future =
    set_vertex_word
    (set_vertex_word (set_vertex_word (set_status (clear v (vertex_words * k) vertex_words) k NEW) k place_word place) k scope_word scope)
    k
    future_word
    future

-- "the latest open future, copied from the maker by newTd" (note 5): t, the caller, is the maker
unfoldable pub with_vertex : Lent → ℕ → ℕ → ℕ → Lent
with_vertex s t place scope =
    record {
      vertices = new_row s.vertices s.made place scope (vertex_word s.vertices t future_word);
      edges = s.edges;
      made = s.made + 1;
      held = s.held;
      steps = s.steps;
    }

unfoldable pub new_td : Lent → ℕ → ℕ → ℕ → Outcome CommandSaid
new_td s t place scope = decided s (new_td_refusal s t) (CommandSaid.new s.made) (with_vertex s t place scope)

-- "newEdge t1 to t2: t2 is new or released", or the caller: "let newEdge also take the caller as its target"; "Edges may now lead into an
-- executing vertex, so 33 spares the caller" (note 10). What else can be due follows.
unfoldable pub ends_refusal : Lent → ℕ → ℕ → ℕ → ℕ → ℕ
ends_refusal s t t1 t2 own =
    caller_refusal s t t1 t2
    (unless (either (eqb t2 t) (either (has_status s t2 NEW) (has_status s t2 RELEASED))) target_not_waiting own)

-- "A finished t1 adds nothing and is accepted." "An edge held already is now accepted and changes nothing, tested before 35."
-- (note 3)
unfoldable pub adds_nothing : Lent → ℕ → ℕ → Bool
adds_nothing s t1 t2 = either (has_status s t1 FINISHED) (holds s.edges s.held t1 t2)

-- Any other edge is appended. "Cycle for newEdge: t1 is t2 or t2 reaches t1."
unfoldable pub append_refusal : List ℕ → ℕ → ℕ → ℕ → ℕ
append_refusal e n t1 t2 =
    unless (not (either (eqb t1 t2) (reaches e n t2 t1))) closes_cycle
    (unless (ltb n (edge_rows e)) no_edge_row 0)

unfoldable pub new_edge_refusal : Lent → ℕ → ℕ → ℕ → ℕ
new_edge_refusal s t t1 t2 =
    ends_refusal s t t1 t2 (cond (adds_nothing s t1 t2) 0 (append_refusal s.edges s.held t1 t2))

unfoldable pub appended : List ℕ → ℕ → ℕ → ℕ → List ℕ
appended e n t1 t2 = set_edge_word (set_edge_word e n source_word t1) n target_word t2

-- "the number of edges into it, kept true by every command": one edge more into t, or one less. "The word stops at 0 and at its largest
-- number." (note 6)
unfoldable pub one_more : ℕ → ℕ
one_more n = cond (ltb n largest_word) (n + 1) n

unfoldable pub more_into : List ℕ → ℕ → List ℕ
more_into v t = set_vertex_word v t in_count_word (one_more (in_count v t))

unfoldable pub less_into : List ℕ → ℕ → List ℕ
less_into v t = set_vertex_word v t in_count_word (in_count v t - 1)

unfoldable pub with_edge : Lent → ℕ → ℕ → Lent
with_edge s t1 t2 =
    record {
      vertices = more_into s.vertices t2;
      edges = appended s.edges s.held t1 t2;
      made = s.made;
      held = s.held + 1;
      steps = s.steps;
    }

unfoldable pub new_edge : Lent → ℕ → ℕ → ℕ → Outcome CommandSaid
new_edge s t t1 t2 =
    decided s (new_edge_refusal s t t1 t2) (CommandSaid.edge t1 t2) (cond (adds_nothing s t1 t2) s (with_edge s t1 t2))

-- "release turns a new vertex released."
unfoldable pub release_refusal : Lent → ℕ → ℕ → ℕ
release_refusal s t t' = caller_refusal s t t' t' (unless (has_status s t' NEW) release_not_new 0)

unfoldable pub release : Lent → ℕ → ℕ → Outcome CommandSaid
release s t t' = decided s (release_refusal s t t') (CommandSaid.release t') (with_status s t' RELEASED)

-- "Cycle for transfer: some target of t is t' or reaches t'."
unfoldable pub target_reaches : List ℕ → ℕ → ℕ → ℕ → Bool
target_reaches e n t t' =
    any (λ i. both (eqb (source e i) t) (either (eqb (target e i) t') (reaches e n (target e i) t'))) n

-- "transfer to t': t' is new with no edge out; each edge out of t gets t' as its source, in its row."
unfoldable pub transfer_refusal : Lent → ℕ → ℕ → ℕ
transfer_refusal s t t' =
    caller_refusal s t t' t'
    (unless (has_status s t' NEW) transfer_not_new
    (unless (not (leads_out_of s.edges s.held t')) transfer_has_edge_out
    (unless (not (target_reaches s.edges s.held t t')) closes_cycle 0)))

-- row i, with t' as its source where that was t
unfoldable pub moved_row : ℕ → ℕ → List ℕ → ℕ → List ℕ
moved_row t t' e i = cond (eqb (source e i) t) (set_edge_word e i source_word t') e

unfoldable pub moved : ℕ → ℕ → List ℕ → ℕ → List ℕ
moved t t' e zero = e
moved t t' e (suc n) = moved_row t t' (moved t t' e n) n

unfoldable pub with_moved : Lent → ℕ → ℕ → Lent
with_moved s t t' =
    record {
      vertices = s.vertices;
      edges = moved t t' s.edges s.held;
      made = s.made;
      held = s.held;
      steps = s.steps;
    }

unfoldable pub transfer : Lent → ℕ → ℕ → Outcome CommandSaid
transfer s t t' = decided s (transfer_refusal s t t') (CommandSaid.transfer t') (with_moved s t t')

-- "start turns a released vertex with no edge into it executing." "Start reads that word"; "For start .. 12 then looks at the tally and that
-- vertex's row only" (note 6)
unfoldable pub start_refusal : Lent → ℕ → ℕ
start_refusal s t =
    unless (tally_fits s.vertices s.edges s.made s.held) unsound_tables
    (unless (is_made s t) no_such_vertex
    (unless (status_known s.vertices t) unsound_tables
    (unless (not (has_status s t NEW)) vertex_is_new
    (unless (not (has_status s t EXECUTING)) vertex_is_executing
    (unless (not (has_status s t FINISHED)) vertex_is_finished
    (unless (eqb (in_count s.vertices t) 0) edge_leads_in 0))))))

unfoldable pub start : Lent → ℕ → Outcome CommandSaid
start s t = decided s (start_refusal s t) CommandSaid.start (with_status s t EXECUTING)

-- "stop finishes t and drops its edges out."
unfoldable pub stop_refusal : Lent → ℕ → ℕ
stop_refusal s t = caller_refusal s t t t 0

-- how many of the first n rows have another source than t, and their words, in order
unfoldable pub kept_rows : ℕ → List ℕ → ℕ → ℕ
kept_rows t e zero = 0
kept_rows t e (suc n) = kept_rows t e n + cond (eqb (source e n) t) 0 1

unfoldable pub kept : ℕ → List ℕ → ℕ → List ℕ
kept t e zero = []
kept t e (suc n) = kept t e n ++ cond (eqb (source e n) t) [] (source e n ∷ target e n ∷ [])

-- "a stop closes the gaps, keeps the order and zeroes freed rows"
unfoldable pub without_edges_of : ℕ → List ℕ → ℕ → List ℕ
without_edges_of t e n =
    kept t e n ++ (replicate (edge_words * n - edge_words * kept_rows t e n) 0 ++ drop (edge_words * n) e)

-- one edge less into the target of row i, where that row is dropped, and of each of the first n rows (note 6)
unfoldable pub lowered_row : ℕ → List ℕ → List ℕ → ℕ → List ℕ
lowered_row t e v i = cond (eqb (source e i) t) (less_into v (target e i)) v

unfoldable pub lowered : ℕ → List ℕ → List ℕ → ℕ → List ℕ
lowered t e v zero = v
lowered t e v (suc n) = lowered_row t e (lowered t e v n) n

unfoldable pub stopped : Lent → ℕ → Lent
stopped s t =
    record {
      vertices = lowered t s.edges (set_status s.vertices t FINISHED) s.held;
      edges = without_edges_of t s.edges s.held;
      made = s.made;
      held = kept_rows t s.edges s.held;
      steps = s.steps;
    }

unfoldable pub stop : Lent → ℕ → Outcome CommandSaid
stop s t = decided s (stop_refusal s t) CommandSaid.stop (stopped s t)

-- "the command yield, which turns the executing caller released"; "yield meets 12, 20 and 30 only" (note 10)
unfoldable pub yield_refusal : Lent → ℕ → ℕ
yield_refusal s t = caller_refusal s t t t 0

unfoldable pub yield : Lent → ℕ → Outcome CommandSaid
yield s t = decided s (yield_refusal s t) CommandSaid.yield (with_status s t RELEASED)

-- the seven commands as one
unfoldable pub command : Command → Lent → Outcome CommandSaid
command (NewTd t place scope) s = new_td s t place scope
command (NewEdge t t1 t2) s = new_edge s t t1 t2
command (Release t t') s = release s t t'
command (Transfer t t') s = transfer s t t'
command (Start t) s = start s t
command (Stop t) s = stop s t
command (Yield t) s = yield s t
