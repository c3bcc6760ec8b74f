-- Loading: what it answers, by the four returns of `load_refusal`, that is the program is refused, too few vertex rows, too few edge rows, or loaded;
-- and what it leaves.
use Prim.Native.Nat.{ℕ, zero, suc, ◌+◌, ◌-◌, ◌*◌, ◌<◌, ◌≤◌}
use mathlib.Core.Path.{◌≡◌, refl, sym, ◌∙◌, ap}
use mathlib.Core.Bool.{Bool, true, false}
use mathlib.Core.List.{List, [], ◌∷◌}
use Rattle.std.specs.Prelude.{Result, Ok, Err, is_err, ⊤}
use Rattle.refusal.specs.declared.Refusal.{Refusal}
use native.Mathlib.Omega.{arith}
use lib.ListN.{length, set, length-set}
use Rattle.graph.specs.declared.Tally.{Tally}
use Rattle.graph.specs.declared.OpenDone.{OpenDone}
use Rattle.graph.specs.Tables.{Lent, lent, RELEASED, vertex_words, status_word, place_word, scope_word, in_count_word, edge_words, vertex_rows, edge_rows}
use Rattle.graph.specs.Tables.{set_vertex_word, set_status, clear}
use Rattle.graph.specs.Answers.{opening_outcome, Outcome, OpeningSaid}
use Rattle.graph.specs.Commands.{opened_tables, opening, appended}
use Rattle.graph.proofs.CallLaws.{opening_opens}
use Rattle.program.specs.declared.Edition.{Edition}
use Rattle.program.specs.declared.ItemCounts.{ItemCounts}
use Rattle.program.specs.Limits.{program_bytes}
use Rattle.program.specs.Trees.{Counts, counts, Body}
use Rattle.program.specs.Bytes.{encode, size}
use Rattle.program.specs.Encodings.{vertex_formula, edge_row_formula}
use Rattle.program.specs.Encodings as needs
use Rattle.program.specs.Reader.{Reading, program, refusal, reading}
use Rattle.program.specs.Answers.{loads, told, item_counts}
use Rattle.program.specs.Answers as of_program
use Rattle.program.proofs.Formulas.{vertices_formula, edge_rows_formula}
use Rattle.program.proofs.ReadingLaws.{encode_positive}
use Rattle.program.specs.Claims.{Loadable}
use Rattle.program.proofs.Exactness.{reading_complete}
use Rattle.machine.specs.Answers.{LoadingSaid, loaded, loading_refused, is_loaded}
use Rattle.machine.specs.Loading.{placed, loaded_tables, load}
use Rattle.machine.specs.Demand2.{Lends, Unloaded, unread, few_vertex_rows, few_edge_rows}
use Rattle.machine.specs.Traces.{Loaded}
use Rattle.machine.proofs.LoadLaws.{load_exact, load_taken, load_refused, load_keeps}
use Rattle.engine.specs.Answers.{loading_said}

-- words stored twice, and the length of a table that was cleared
set-set : (l : List ℕ) (i x y : ℕ) → set (set l i x) i y ≡ set l i y
set-set [] i x y = refl
set-set (z ∷ l) zero x y = refl
set-set (z ∷ l) (suc i) x y = ap (λ (r : List ℕ). z ∷ r) (set-set l i x y)

clear-length : (l : List ℕ) (from n : ℕ) → length (clear l from n) ≡ length l
unfolding clear
clear-length l from zero = refl
clear-length l from (suc n) = length-set (clear l from n) (from + n) 0 ∙ clear-length l from n

-- WHAT IT ANSWERS
-- what reading told
pub unread_is : (r : Reading) {n p : ℕ} → of_program.ProgramSaid.refused n p ≡ told r → r ≡ refusal n p
unfolding told
unread_is (program b) h = absurd (let z : ◌≡◌ {A = ℕ} 0 1 = cc in omega arith)
unread_is (refusal n p) h = cc

pub record Read (ed : Edition) (bytes : List ℕ) (c : Counts) : Type 0 where
  pub tree : Body
  pub is_read : reading ed bytes ≡ program tree
  pub counted : c ≡ counts tree

pub read_is : (ed : Edition) (bytes : List ℕ) (r : Reading) {c : Counts} → reading ed bytes ≡ r → loads c ≡ told r → Read ed bytes c
unfolding told
read_is ed bytes (program b) e h = record { tree = b; is_read = e; counted = cc }
read_is ed bytes (refusal n p) e h = absurd (let z : ◌≡◌ {A = ℕ} 0 1 = cc in omega arith)

-- a refusal
refusing :
    (ed : Edition) (bytes : List ℕ) (s : Lent) {n p : ℕ} → Unloaded ed bytes s n p → loading_refused n p ≡ (load ed bytes s).answer
refusing ed bytes s u = sym ((load_refused ed bytes s _ _).1 u)

pub load_unread :
    (ed : Edition) (bytes v e : List ℕ) {n p : ℕ} → of_program.ProgramSaid.refused n p ≡ told (reading ed bytes) → (t : Tally)
    → loading_refused n p ≡ (load ed bytes (lent v e t)).answer
load_unread ed bytes v e is t = refusing ed bytes (lent v e t) (unread (unread_is (reading ed bytes) is))

-- the rows that a program needs, as the code counts them
needs_vertices : (ed : Edition) (b : Body) {c : Counts} {n : ℕ} → c ≡ counts b → n ≡ vertex_formula ed c → n ≡ needs.vertices_made ed b
needs_vertices ed b p q = q ∙ ap (vertex_formula ed) p ∙ sym (vertices_formula ed b)

needs_edges : (ed : Edition) (b : Body) {c : Counts} {n : ℕ} → c ≡ counts b → n ≡ edge_row_formula c → n ≡ needs.edge_rows_needed ed b
needs_edges ed b p q = q ∙ ap edge_row_formula p ∙ sym (edge_rows_formula ed b)

below : {r r' n n' : ℕ} → r ≡ r' → n ≡ n' → r < n → r' < n'
below p q h = omega arith

enough : {r r' n n' : ℕ} → r ≡ r' → n ≡ n' → n ≤ r → n' ≤ r'
enough p q h = omega arith

module _ (ed : Edition) (bytes v e : List ℕ) (c : ItemCounts) (is : loads (item_counts c) ≡ told (reading ed bytes)) {vr vn : ℕ}
    (rows : vr ≡ vertex_rows v) (need : vn ≡ vertex_formula ed (item_counts c)) where
  found : Read ed bytes (item_counts c)
  found = read_is ed bytes (reading ed bytes) refl is

  pub load_few_vertices : vr < vn → (t : Tally) → loading_refused 10 0 ≡ (load ed bytes (lent v e t)).answer
  load_few_vertices lt t =
      refusing ed bytes (lent v e t) (few_vertex_rows found.tree found.is_read (below rows (needs_vertices ed found.tree found.counted need) lt))

  there : vn ≤ vr → needs.vertices_made ed found.tree ≤ vertex_rows v
  there le = enough rows (needs_vertices ed found.tree found.counted need) le

  module _ (le : vn ≤ vr) {er en : ℕ} (erows : er ≡ edge_rows e) (eneed : en ≡ edge_row_formula (item_counts c)) where
    pub load_few_edges : er < en → (t : Tally) → loading_refused 11 0 ≡ (load ed bytes (lent v e t)).answer
    load_few_edges lt t =
        refusing ed bytes (lent v e t)
        (few_edge_rows found.tree found.is_read (there le) (below erows (needs_edges ed found.tree found.counted eneed) lt))

    pub load_enough : en ≤ er → (t : Tally) → loaded ≡ (load ed bytes (lent v e t)).answer
    load_enough enough_edges t =
        ap (λ (x : Outcome LoadingSaid). x.answer)
        (sym
        (load_taken ed bytes (lent v e t) found.tree found.is_read
        (record { enough_vertex_rows = there le; enough_edge_rows = enough erows (needs_edges ed found.tree found.counted eneed) enough_edges })))

-- WHAT IT LEAVES
-- one that is refused leaves what was lent
pub not_loaded : (r : Result ⊤ Refusal) {b : Bool} → b ≡ is_err r → b ≡ true → is_loaded (loading_said r) ≡ false
not_loaded (Ok d) p q = cc
not_loaded (Err f) p q = refl

pub is_loaded_lem : (r : Result ⊤ Refusal) {b : Bool} → b ≡ is_err r → b ≡ false → is_loaded (loading_said r) ≡ true
is_loaded_lem (Ok d) p q = refl
is_loaded_lem (Err f) p q = cc

pub load_turned :
    (ed : Edition) (bytes : List ℕ) (s : Lent) (r : Result ⊤ Refusal) {b : Bool} → loading_said r ≡ (load ed bytes s).answer → b ≡ is_err r
    → b ≡ true → Loaded ed bytes s (loading_said r) s
load_turned ed bytes s r says told h =
    record { says = says; leaves = sym (load_keeps ed bytes s (sym (ap is_loaded says) ∙ not_loaded r told h)) }

-- what opening leaves, where there are rows
opened :
    (v e : List ℕ) (t : Tally) (r : OpenDone) (v' e' : List ℕ) → opening_outcome r v' e' ≡ opening (lent v e t) → 2 ≤ vertex_rows v
    → (v' ≡ set_status (clear v 0 (vertex_words * vertex_rows v)) 0 RELEASED) × (e' ≡ clear e 0 (edge_words * edge_rows e))
unfolding opening opened_tables
opened v e t r v' e' h two =
    let s : Lent = lent v e t in
    let some_rows : vertex_rows v ≡ 0 → ⊥ = omega arith in
    let o = h ∙ sym (opening_opens s refl some_rows) in
    (ap (λ (x : Outcome OpeningSaid). x.after.vertices) o, ap (λ (x : Outcome OpeningSaid). x.after.edges) o)

placed_again : (x : List ℕ) (k p : ℕ) → placed (set_status x k RELEASED) k p ≡ placed x k p
placed_again x k p =
    ap (λ (y : List ℕ). set_vertex_word (set_vertex_word y k place_word p) k scope_word 1) (set-set x (vertex_words * k + status_word) RELEASED RELEASED)

-- another one leaves two vertices and an edge
module _ (ed : Edition) (bytes v e : List ℕ) (t : Tally) (r : Result ⊤ Refusal) {b : Bool}
    (says : loading_said r ≡ (load ed bytes (lent v e t)).answer) (told_err : b ≡ is_err r) (h : b ≡ false) where
  fits : (b : Body) × Loadable ed b × (bytes ≡ encode b) × Lends ed b (lent v e t)
  fits = (load_exact ed bytes (lent v e t)).0 (sym (ap is_loaded says) ∙ is_loaded_lem r told_err h)

  two_rows : 2 ≤ vertex_rows v
  two_rows =
      let (b, loadable, code, lends) = fits in
      let formula : needs.vertices_made ed b ≡ vertex_formula ed (counts b) = vertices_formula ed b in
      let some_rows : needs.vertices_made ed b ≤ vertex_rows v = lends.enough_vertex_rows in
      omega arith

  one_row : 1 ≤ edge_rows e
  one_row =
      let (b, loadable, code, lends) = fits in
      let formula : needs.edge_rows_needed ed b ≡ edge_row_formula (counts b) = edge_rows_formula ed b in
      let some_rows : needs.edge_rows_needed ed b ≤ edge_rows e = lends.enough_edge_rows in
      omega arith

  loaded_length : (1 ≤ length bytes) × (length bytes ≤ program_bytes)
  unfolding size
  loaded_length = let (b, loadable, code, lends) = fits in rw code (encode_positive b, loadable.bytes)

  module _ (o : OpenDone) (v' e' : List ℕ) (left : opening_outcome o v' e' ≡ opening (lent v e t)) where
    as_opened : (v' ≡ set_status (clear v 0 (vertex_words * vertex_rows v)) 0 RELEASED) × (e' ≡ clear e 0 (edge_words * edge_rows e))
    as_opened = opened v e t o v' e' left two_rows

    -- what placing the first two vertices asks for
    pub first_two : (2 ≤ vertex_rows v') × (1 ≤ length bytes) × (length bytes ≤ program_bytes)
    first_two =
        let same : length v' ≡ length v =
        ap length as_opened.0 ∙ length-set (clear v 0 (vertex_words * vertex_rows v)) 0 RELEASED ∙ clear-length v 0 (vertex_words * vertex_rows v) in
        let two : 2 ≤ vertex_rows v = two_rows in
        let rows_there : 2 ≤ vertex_rows v' = omega arith in
        (rows_there, loaded_length.0, loaded_length.1)

    pub edge_there : 1 < length e'
    edge_there =
        let same : length e' ≡ length e = ap length as_opened.1 ∙ clear-length e 0 (edge_words * edge_rows e) in
        let one : 1 ≤ edge_rows e = one_row in
        omega arith

    tables :
        {v'' : List ℕ} → v'' ≡ set_vertex_word (placed (placed v' 0 0) 1 (length bytes - 1)) 1 in_count_word 1
        → ◌≡◌ {A = Lent} (record { vertices = v''; edges = set (set e' 0 0) 1 1; made = 2; held = 1; steps = 0 }) (loaded_tables bytes (lent v e t))
    unfolding loaded_tables appended
    tables placing =
        λ i. record {
          vertices =
              (placing ∙ ap (λ (x : List ℕ). set_vertex_word (placed (placed x 0 0) 1 (length bytes - 1)) 1 in_count_word 1) as_opened.0
              ∙ ap (λ (x : List ℕ). set_vertex_word (placed x 1 (length bytes - 1)) 1 in_count_word 1)
              (placed_again (clear v 0 (vertex_words * vertex_rows v)) 0 0))
              i;
          edges = ap (λ (x : List ℕ). set (set x 0 0) 1 1) as_opened.1 i;
          made = 2;
          held = 1;
          steps = 0;
        }

    pub load_accepted :
        {v'' : List ℕ} → v'' ≡ set_vertex_word (placed (placed v' 0 0) 1 (length bytes - 1)) 1 in_count_word 1
        → Loaded ed bytes (lent v e t) (loading_said r) (record { vertices = v''; edges = set (set e' 0 0) 1 1; made = 2; held = 1; steps = 0 })
    load_accepted placing =
        let (b, loadable, code, lends) = fits in
        let o = load_taken ed bytes (lent v e t) b (ap (reading ed) code ∙ reading_complete ed b loadable) lends in
        record { says = says; leaves = tables placing ∙ ap (λ (x : Outcome LoadingSaid). x.after) (sym o) }
