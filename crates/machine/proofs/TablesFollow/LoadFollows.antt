-- The tables that an accepted loading leaves follow the ghost machine as it begins: vertices 0 and 1 are released, each with its place and
-- with scope 1, all other words of the used rows are 0, and the edge from 0 to 1 is held.
use Prim.Native.Nat.{ℕ, zero, suc, ◌+◌, ◌-◌, ◌*◌, ◌<◌, ◌≤◌}
use mathlib.Core.Path.{◌≡◌, refl, sym, ◌∙◌, ap}
use mathlib.Core.Bool.{true, false, cond}
use mathlib.Core.Logic.{inr, ⊎_elim}
use mathlib.Core.List.{List, []}
use native.Mathlib.Omega.{arith}
use lib.Dec.{eqb}
use lib.ListN.{length, get_or, length-set}
use lib.Seq.{get_or-set_same, get_or-set_other}
use Rattle.graph.specs.Tables.{Lent, RELEASED, vertex_words, edge_words, status_word, place_word, scope_word, in_count_word, vertex_rows}
use Rattle.graph.specs.Tables.{edge_rows, vertex_word, status, in_count, set_status, set_vertex_word, clear}
use Rattle.graph.specs.Tests.{how_many}
use Rattle.graph.specs.Sound.{sound}
use Rattle.graph.specs.Paths.{holds, edges_into}
use Rattle.graph.specs.Commands.{appended}
use Rattle.graph.specs.InCounts.{CountsTrue}
use Rattle.graph.proofs.TableLaws.{vertex_in, word_other, length-clear, clear_in, length-appended, appended-target}
use Rattle.graph.proofs.EdgeLaws.{Is, is_same, holds_none, appended_is}
use Rattle.graph.proofs.SoundLaws.{fits_sound}
use Rattle.program.specs.Trees.{Body}
use Rattle.program.specs.declared.Edition.{Edition}
use Rattle.program.specs.Bytes.{encode, size}
use Rattle.program.specs.Reader.{program, reading}
use Rattle.program.specs.Located.{Code, end_byte_at, located}
use Rattle.program.specs.Located as code
use Rattle.program.proofs.LocatedLaws.{place_locate, last-locate}
use Rattle.program.proofs.Exactness.{reading_sound}
use Rattle.machine.specs.Answers.{is_loaded}
use Rattle.machine.specs.Loading.{placed, loaded_tables, load}
use Rattle.machine.specs.Demand2.{Lends}
use Rattle.machine.proofs.LoadLaws.{two_rows, one_edge_row, load_accepted}
use Rattle.machine.proofs.GhostMachine.Ghost.{ready, Setting, vertex_at}
use Rattle.machine.proofs.GhostMachine.RoadLaws.{linked_new}
use Rattle.machine.proofs.GhostMachine.Beginning.{beginning, beginning_edge}
use Rattle.machine.proofs.TablesFollow.Follows.{setting_of, row, words_of, Shows, shows_ready, Follows, status_in}
use Rattle.machine.proofs.TablesFollow.RowLaws.{same_row, row_in, same_words}

-- a vertex as loading sets it, in a table where its row is cleared
module _ (l : List ℕ) (k x : ℕ) where
  length-placed : length (placed l k x) ≡ length l
  length-placed = simp length-set

  -- outside its first three words nothing changes
  placed_out :
      (i : ℕ) → (i ≡ vertex_words * k + status_word → ⊥) → (i ≡ vertex_words * k + place_word → ⊥)
      → (i ≡ vertex_words * k + scope_word → ⊥) → get_or (placed l k x) i 0 ≡ get_or l i 0
  placed_out i ns np nc =
      get_or-set_other (set_vertex_word (set_status l k RELEASED) k place_word x) (vertex_words * k + scope_word) i _ 0 nc
      ∙ get_or-set_other (set_status l k RELEASED) (vertex_words * k + place_word) i x 0 np
      ∙ get_or-set_other l (vertex_words * k + status_word) i RELEASED 0 ns

  -- these three
  placed_status : k < vertex_rows l → vertex_word (placed l k x) k status_word ≡ RELEASED
  placed_status lt =
      get_or-set_other (set_vertex_word (set_status l k RELEASED) k place_word x) (vertex_words * k + scope_word) (vertex_words * k + status_word) _ 0
      (omega arith)
      ∙ get_or-set_other (set_status l k RELEASED) (vertex_words * k + place_word) (vertex_words * k + status_word) x 0 (omega arith)
      ∙ get_or-set_same l (vertex_words * k + status_word) RELEASED 0 (vertex_in l k status_word lt (omega arith))

  placed_place : k < vertex_rows l → vertex_word (placed l k x) k place_word ≡ x
  placed_place lt =
      get_or-set_other (set_vertex_word (set_status l k RELEASED) k place_word x) (vertex_words * k + scope_word) (vertex_words * k + place_word) _ 0
      (omega arith)
      ∙ get_or-set_same (set_status l k RELEASED) (vertex_words * k + place_word) x 0
      (simp length-set (vertex_in l k place_word lt (omega arith)))

  placed_scope : k < vertex_rows l → vertex_word (placed l k x) k scope_word ≡ 1
  placed_scope lt =
      get_or-set_same (set_vertex_word (set_status l k RELEASED) k place_word x) (vertex_words * k + scope_word) _ 0
      (simp length-set (vertex_in l k scope_word lt (omega arith)))

  -- its whole row
  placed_row : k < vertex_rows l → ((w : ℕ) → w < vertex_words → vertex_word l k w ≡ 0) → row_in (placed l k x) k ≡ row RELEASED x 1 0 0 0 0 0
  placed_row lt z =
      same_row (placed_status lt) (placed_place lt) (placed_scope lt) (rest 3 (omega arith) (omega arith))
      (rest 4 (omega arith) (omega arith)) (rest 5 (omega arith) (omega arith)) (rest 6 (omega arith) (omega arith))
      (rest 7 (omega arith) (omega arith))
    where
      rest : (w : ℕ) → 2 < w → w < vertex_words → vertex_word (placed l k x) k w ≡ 0
      rest w gt lw = placed_out (vertex_words * k + w) (omega arith) (omega arith) (omega arith) ∙ z w lw

  -- the rows of others
  placed_word : (u w : ℕ) → w < vertex_words → (u ≡ k → ⊥) → vertex_word (placed l k x) u w ≡ vertex_word l u w
  placed_word u w lw ne = placed_out (vertex_words * u + w) (λ q. ne (omega arith)) (λ q. ne (omega arith)) (λ q. ne (omega arith))

  placed_other : (u : ℕ) → (u ≡ k → ⊥) → row_in (placed l k x) u ≡ row_in l u
  placed_other u ne = same_words l (placed l k x) u (λ w lw. placed_word u w (omega arith) ne)

-- the used rows, cleared
abbrev blank : List ℕ → List ℕ
blank l = clear l 0 (vertex_words * vertex_rows l)

blank_word : (l : List ℕ) (k w : ℕ) → k < vertex_rows l → w < vertex_words → vertex_word (blank l) k w ≡ 0
blank_word l k w lt lw = clear_in l 0 (vertex_words * vertex_rows l) (vertex_words * k + w) (omega arith) (omega arith)

-- the vertex table that loading leaves, but for the number of edges into vertex 1, and with this number
abbrev both_placed : List ℕ → ℕ → List ℕ
both_placed l L = placed (placed (blank l) 0 0) 1 L

abbrev loaded_rows : List ℕ → ℕ → ℕ → List ℕ
loaded_rows l L x = set_vertex_word (both_placed l L) 1 in_count_word x

-- its length, and its first two rows
length_both : (l : List ℕ) (L : ℕ) → length (both_placed l L) ≡ length l
length_both l L = length-placed (placed (blank l) 0 0) 1 L ∙ length-placed (blank l) 0 0 ∙ length-clear l 0 (vertex_words * vertex_rows l)

length_loaded : (l : List ℕ) (L x : ℕ) → length (loaded_rows l L x) ≡ length l
length_loaded l L x = length-set (both_placed l L) (vertex_words * 1 + in_count_word) x ∙ length_both l L

loaded_row : (l : List ℕ) (L x k : ℕ) → row_in (loaded_rows l L x) k ≡ row_in (both_placed l L) k
loaded_row l L x k =
    same_words (both_placed l L) (loaded_rows l L x) k
    (λ w lw. word_other (both_placed l L) 1 in_count_word x k w (omega arith) (omega arith) (omega arith))

first_row : (l : List ℕ) (L x : ℕ) → 2 ≤ vertex_rows l → row_in (loaded_rows l L x) 0 ≡ row RELEASED 0 1 0 0 0 0 0
first_row l L x le =
    loaded_row l L x 0
    ∙ placed_other (placed (blank l) 0 0) 1 L 0 (omega arith)
    ∙ placed_row (blank l) 0 0 (rw length-clear (omega arith)) (λ w lw. blank_word l 0 w (omega arith) lw)

second_row : (l : List ℕ) (L x : ℕ) → 2 ≤ vertex_rows l → row_in (loaded_rows l L x) 1 ≡ row RELEASED L 1 0 0 0 0 0
second_row l L x le =
    loaded_row l L x 1
    ∙ placed_row (placed (blank l) 0 0) 1 L (rw (length-placed (blank l) 0 0, length-clear) (omega arith))
    (λ w lw. placed_word (blank l) 0 0 1 w lw (omega arith) ∙ blank_word l 1 w (omega arith) lw)

-- its numbers of edges: none into vertex 0, this one into vertex 1
first_count : (l : List ℕ) (L x : ℕ) → 2 ≤ vertex_rows l → in_count (loaded_rows l L x) 0 ≡ 0
first_count l L x le =
    get_or-set_other (both_placed l L) (vertex_words * 1 + in_count_word) (vertex_words * 0 + in_count_word) x 0 (omega arith)
    ∙ placed_word (placed (blank l) 0 0) 1 L 0 in_count_word (omega arith) (omega arith)
    ∙ placed_out (blank l) 0 0 (vertex_words * 0 + in_count_word) (omega arith) (omega arith) (omega arith)
    ∙ blank_word l 0 in_count_word (omega arith) (omega arith)

second_count : (l : List ℕ) (L x : ℕ) → 2 ≤ vertex_rows l → in_count (loaded_rows l L x) 1 ≡ x
second_count l L x le = get_or-set_same (both_placed l L) (vertex_words * 1 + in_count_word) x 0 (rw (length_both l L) (omega arith))

-- the edge table that it leaves holds one edge
loaded_edge :
    (e : List ℕ) (n : ℕ) → 0 < edge_rows e → Is (holds (appended (clear e 0 n) 0 0 1) 1) (λ a b. (a ≡ 0) × (b ≡ 1))
loaded_edge e n lt a b =
    let (f, g) = appended_is (clear e 0 n) 0 0 1 (rw length-clear lt) a b in
    (λ h. ⊎_elim (λ q. absurd (holds_none (clear e 0 n) a b q)) (λ q. q) (f h), λ q. g (inr q))

loaded_into : (e : List ℕ) (n k : ℕ) → 0 < edge_rows e → edges_into (appended (clear e 0 n) 0 0 1) 1 k ≡ cond (eqb 1 k) 1 0
unfolding edges_into how_many
loaded_into e n k lt = rw (appended-target (clear e 0 n) 0 0 1 (rw length-clear lt)) (omega arith)

-- and so does the ghost machine
begin_edge : (p : Code) (Γ : Setting) → Is (beginning p Γ).edge (λ a b. (a ≡ 0) × (b ≡ 1))
unfolding beginning
begin_edge p Γ a b = (beginning_edge p Γ a b, λ q. rw (q.0, q.1) (linked_new (λ a b. false) 0 1))

module _ (ed : Edition) (bytes : List ℕ) (s : Lent) (t : Body) (h : Lends ed t s) where
  abbrev Γ : Setting
  Γ = setting_of ed bytes

  -- the offset of the last byte
  abbrev L : ℕ
  L = Γ.last_byte

  -- each part of the claim
  edges_follow : (a b : ℕ) → holds (loaded_tables bytes s).edges (loaded_tables bytes s).held a b ≡ (beginning (located t) Γ).edge a b
  unfolding loaded_tables
  edges_follow = is_same (loaded_edge s.edges (edge_words * edge_rows s.edges) (one_edge_row ed t s h)) (begin_edge (located t) Γ)

  first_shows : Shows (located t) Γ 0 (words_of (loaded_tables bytes s) 0) 1 [] (ready (located t))
  unfolding loaded_tables words_of vertex_at located
  first_shows =
      shows_ready
      (first_row s.vertices L _ (two_rows ed t s h) ∙ ap (λ (x : ℕ). row RELEASED x 1 0 0 0 0 0) (sym (place_locate [] 0 t)))

  second_shows : Shows (located t) Γ 1 (words_of (loaded_tables bytes s) 1) 1 [] (ready (end_byte_at L))
  unfolding loaded_tables words_of vertex_at code.start_of
  second_shows = shows_ready (second_row s.vertices L _ (two_rows ed t s h))

  rows_follow : (v : ℕ) → v < 2 → Shows (located t) Γ v (words_of (loaded_tables bytes s) v) 1 [] ((beginning (located t) Γ).control v)
  unfolding beginning
  rows_follow zero lt = first_shows
  rows_follow (suc zero) lt = second_shows
  rows_follow (suc (suc v)) lt = absurd (omega arith)

  statuses_follow : (k : ℕ) → k < 2 → status (loaded_tables bytes s).vertices k ≡ RELEASED
  unfolding loaded_tables
  statuses_follow zero lt = ap status_in (first_row s.vertices L _ (two_rows ed t s h))
  statuses_follow (suc zero) lt = ap status_in (second_row s.vertices L _ (two_rows ed t s h))
  statuses_follow (suc (suc v)) lt = absurd (omega arith)

  sound_follows : sound (loaded_tables bytes s) ≡ true
  unfolding loaded_tables
  sound_follows =
      fits_sound (loaded_tables bytes s)
      (record {
        vertices_fit = rw (length_loaded s.vertices L _) (two_rows ed t s h);
        edges_fit = rw (length-appended (clear s.edges 0 (edge_words * edge_rows s.edges)) 0 0 1, length-clear) (one_edge_row ed t s h);
        statuses_are_known = λ k lt. let q = statuses_follow k lt in (omega (arith, q), omega (arith, q));
        ends_are_made =
            λ a b q.
            let (x, y) = (loaded_edge s.edges (edge_words * edge_rows s.edges) (one_edge_row ed t s h) a b).0 q in
            (omega (arith, x), omega (arith, y));
      })

  loaded_true : CountsTrue (loaded_tables bytes s)
  unfolding loaded_tables
  loaded_true zero lt = first_count s.vertices L _ (two_rows ed t s h) ∙ sym (loaded_into s.edges _ 0 (one_edge_row ed t s h))
  loaded_true (suc zero) lt = second_count s.vertices L _ (two_rows ed t s h) ∙ sym (loaded_into s.edges _ 1 (one_edge_row ed t s h))
  loaded_true (suc (suc v)) lt = absurd (omega arith)

  loaded_follows : Follows (located t) Γ (loaded_tables bytes s) (beginning (located t) Γ)
  unfolding loaded_tables beginning
  loaded_follows =
      record {
        setting_is = refl;
        made_is = refl;
        edges_are = edges_follow;
        rows_are = rows_follow;
        sound_is = sound_follows;
      }

-- what else loading leaves: true numbers of edges, the tally's other numbers, and the tables' lengths
pub record Begun (s s' : Lent) : Type 0 where
  pub counts_true : CountsTrue s'
  pub steps_none : s'.steps ≡ 0
  pub held_one : s'.held ≡ 1
  pub vertex_length : length s'.vertices ≡ length s.vertices
  pub edge_length : length s'.edges ≡ length s.edges

loaded_begun : (ed : Edition) (bytes : List ℕ) (s : Lent) (t : Body) → Lends ed t s → Begun s (loaded_tables bytes s)
unfolding loaded_tables
loaded_begun ed bytes s t h =
    record {
      counts_true = loaded_true ed bytes s t h;
      steps_none = refl;
      held_one = refl;
      vertex_length = length_loaded s.vertices (length bytes - 1) _;
      edge_length = rw (length-appended (clear s.edges 0 (edge_words * edge_rows s.edges)) 0 0 1, length-clear);
    }

-- After an accepted loading the tables follow the ghost machine as it begins.
pub load_follows :
    (ed : Edition) (bytes : List ℕ) (s : Lent) (t : Body) → reading ed bytes ≡ program t → is_loaded (load ed bytes s).answer ≡ true
    → Follows (located t) (setting_of ed bytes) (load ed bytes s).after (beginning (located t) (setting_of ed bytes))
    × Begun s (load ed bytes s).after
load_follows ed bytes s t r h =
    let (l, e) = load_accepted ed bytes s t r h in
    rw e (loaded_follows ed bytes s t l, loaded_begun ed bytes s t l)

-- The number that the two are told is the offset of the program's end byte.
pub last_byte : (ed : Edition) (bytes : List ℕ) (t : Body) → reading ed bytes ≡ program t → code.last (located t) ≡ (setting_of ed bytes).last_byte
unfolding size located
last_byte ed bytes t r =
    let same : length bytes ≡ length (encode t) = ap length (reading_sound ed bytes t r).0 in
    let ends : suc (code.last (located t)) ≡ 0 + size t = last-locate [] 0 t in
    omega arith
