-- The encodings: what each item does, as a table of commands in two editions (docs/ENGINE.md, "Loading and stepping"). All rows are the slides',
-- but for the fork's in the second edition, which is the article's. What is counted of a program, its vertices, edge rows and steps, is
-- counted from the table.
use Rattle.std.specs.Prelude.{ℕ, ◌+◌, ◌*◌, Bool, true, false, List, [], ◌∷◌}
use Rattle.program.specs.declared.Edition.{Edition}
use Rattle.program.specs.declared.Edition.TheVariants.{First, Second}
use Rattle.program.specs.Trees.{Kind, jobs, asyncs, finishes, forks, futures, forces, Body, total, Counts}

-- the vertices that an item's command names: the vertex that does it, that one's scope, the first, second and third that this item made, and
-- the one that a force's future made first
pub data Name : Type 0 where
  self : Name
  own_scope : Name
  made_1 : Name
  made_2 : Name
  made_3 : Name
  forced : Name

-- the places that an item names: the start of its first and of its second body, past the item, and the program's last byte
pub data Spot : Type 0 where
  first_body : Spot
  second_body : Spot
  past_item : Spot
  last_byte : Spot

pub data Command : Type 0 where
  -- the job's one step, "that names the job"
  perform : Command
  -- a new vertex with a place and a scope
  new_td : Spot → Name → Command
  new_edge : Name → Name → Command
  transfer : Name → Command
  release : Name → Command
  yield : Command

-- An item's commands in their order, where its vertex goes with the last of them, and whether the first vertex that the item made is then its
-- latest open future.
pub record Row : Type 0 where
  pub commands : List Command
  pub next : Spot
  pub opens : Bool

-- "fork: newTd t1 (left), t2 (right), t (past the item), all with own scope; newEdge t1 to t; newEdge t2 to t; transfer to t;
-- release t, t1, t2; then the last byte". "In the new edition a fork is newTd t1, newTd t2, newEdge of each to the forking vertex, release t1,
-- release t2, yield, and then past the item" (note 10).
unfoldable pub fork_row : Edition → Row
fork_row First =
    record {
      commands =
          new_td first_body own_scope
          ∷ new_td second_body own_scope
          ∷ new_td past_item own_scope
          ∷ new_edge made_1 made_3
          ∷ new_edge made_2 made_3
          ∷ transfer made_3
          ∷ release made_3
          ∷ release made_1
          ∷ release made_2
          ∷ [];
      next = last_byte;
      opens = false;
    }
fork_row Second =
    record {
      commands =
          new_td first_body own_scope
          ∷ new_td second_body own_scope
          ∷ new_edge made_1 self
          ∷ new_edge made_2 self
          ∷ release made_1
          ∷ release made_2
          ∷ yield
          ∷ [];
      next = past_item;
      opens = false;
    }

-- The table: "Loading and stepping". A finish makes t2 first and t1 second, a fork t1, t2 and, in the first edition, t.
unfoldable pub row_of : Edition → Kind → Row
-- "job: one step that names the job; then past the item"
row_of ed jobs = record { commands = perform ∷ []; next = past_item; opens = false }
-- "async: newTd t' (its body, own scope); newEdge t' to own scope; release t'; then past the item"
row_of ed asyncs =
    record {
      commands = new_td first_body own_scope ∷ new_edge made_1 own_scope ∷ release made_1 ∷ [];
      next = past_item;
      opens = false;
    }
-- "finish: newTd t2 (past the item, own scope); newTd t1 (its body, scope t2); newEdge t1 to t2; transfer to t2; release t2;
-- release t1; then the last byte"
row_of ed finishes =
    record {
      commands =
          new_td past_item own_scope
          ∷ new_td first_body made_1
          ∷ new_edge made_2 made_1
          ∷ transfer made_1
          ∷ release made_1
          ∷ release made_2
          ∷ [];
      next = last_byte;
      opens = false;
    }
row_of ed forks = fork_row ed
-- "newTd t (last byte, own scope), newTd t' (the future's body, scope t), newEdge t' to t, release t, release t'"; "set to t in the vertex
-- that did the future, at that item's last command" (note 5)
row_of ed futures =
    record {
      commands =
          new_td last_byte own_scope
          ∷ new_td first_body made_1
          ∷ new_edge made_2 made_1
          ∷ release made_1
          ∷ release made_2
          ∷ [];
      next = past_item;
      opens = true;
    }
-- "newTd (past the item, own scope), newEdge from t to it, transfer to it, release it; the forcing vertex goes to the last byte" (note 5)
row_of ed forces =
    record {
      commands =
          new_td past_item own_scope
          ∷ new_edge forced made_1
          ∷ transfer made_1
          ∷ release made_1
          ∷ [];
      next = last_byte;
      opens = false;
    }

-- the sum over commands of what each weighs
unfoldable pub weight : (Command → ℕ) → List Command → ℕ
weight ω [] = 0
weight ω (c ∷ cs) = ω c + weight ω cs

-- 1 for a command that makes a vertex
unfoldable pub makes : Command → ℕ
makes perform = 0
makes (new_td p s) = 1
makes (new_edge a b) = 0
makes (transfer v) = 0
makes (release v) = 0
makes yield = 0

-- 1 for a command that adds an edge; a force's is counted where its future is finished too, and it adds none
unfoldable pub links : Command → ℕ
links perform = 0
links (new_td p s) = 0
links (new_edge a b) = 1
links (transfer v) = 0
links (release v) = 0
links yield = 0

-- the steps that a command comes to: itself, and "the vertex starts again" behind a yield (note 10)
unfoldable pub does : Command → ℕ
does perform = 1
does (new_td p s) = 1
does (new_edge a b) = 1
does (transfer v) = 1
does (release v) = 1
does yield = 2

-- what a program's items weigh together
unfoldable pub items_weight : Edition → (Command → ℕ) → Body → ℕ
items_weight ed ω b = total (λ k. weight ω (row_of ed k).commands) b

-- "Vertices made in all": the two that loading sets, and those of the items
unfoldable pub vertices_made : Edition → Body → ℕ
vertices_made ed b = 2 + items_weight ed makes b

-- "Edge rows needed": the one that loading sets, and those of the items
unfoldable pub edge_rows_needed : Edition → Body → ℕ
edge_rows_needed ed b = 1 + items_weight ed links b

-- the number of steps: each vertex starts and stops once, and each command of an item is a step; one that yields starts once more
unfoldable pub steps_taken : Edition → Body → ℕ
steps_taken ed b = 2 * vertices_made ed b + items_weight ed does b

-- "It makes 2 vertices and 2 edges and costs 12 steps in place of 15" (note 10): a fork's vertices and steps
unfoldable pub fork_vertices : Edition → ℕ
fork_vertices First = 3
fork_vertices Second = 2

unfoldable pub fork_steps : Edition → ℕ
fork_steps First = 15
fork_steps Second = 12

-- The formulas of docs/ENGINE.md's "Limits"; proofs/Formulas.antt shows that they are what an edition's table comes to.
-- "A future adds 2 vertices, 1 edge and 9 steps; a force 1, 1 and 6." (note 5)
-- "V = 2 + a + 2f + 3k"; "V and the commands of a fork are counted by the edition" (note 10)
abbrev pub vertex_formula : Edition → Counts → ℕ
vertex_formula ed c = 2 + c.a + 2 * c.f + fork_vertices ed * c.k + 2 * c.u + c.x

-- "Edge rows needed: 1 + a + f + 2k."
abbrev pub edge_row_formula : Counts → ℕ
edge_row_formula c = 1 + c.a + c.f + 2 * c.k + c.u + c.x

-- demand 3's count, 4 + w + 5a + 10f + 15k
abbrev pub step_formula : Edition → Counts → ℕ
step_formula ed c = 4 + c.w + 5 * c.a + 10 * c.f + fork_steps ed * c.k + 9 * c.u + 6 * c.x
