-- The machine as the proofs see it. Each vertex has the code that it has left and, while an item is under way, what is left of the item
-- with the vertices filled in. Statuses, places, phases, made words and latest open futures of the tables follow from this; who made a vertex
-- and its rank do not stand in the tables at all.
--
-- An item first makes its vertices, then it joins them: edges, a transfer, releases, a yield. Once the last one is made, all that the item will
-- do is known: this is where the item splits its code among the vertices. What comes behind only catches up with it. The edition decides
-- which vertices an item makes, what it does with them and where its own vertex goes, and nothing else.
use Prim.Native.Nat.{ℕ, zero, suc}
use mathlib.Core.Path.{◌≡◌}
use mathlib.Core.Bool.{Bool, true, false, not, cond}
use mathlib.Core.List.{List, [], ◌∷◌, ◌++◌}
use mathlib.Core.Option.{Option, none, some}
use lib.Dec.{eqb}
use lib.ListN.{length, drop, get_or}
use Rattle.graph.specs.Tests.{both, either}
use Rattle.program.specs.Trees.{Kind, jobs, asyncs, finishes, forks, futures, forces}
use Rattle.program.specs.declared.Edition.{Edition}
use Rattle.program.specs.declared.Edition.TheVariants.{First, Second}
use Rattle.program.specs.Encodings.{Name, self, own_scope, made_1, made_2, made_3, forced, Command, perform, new_td, new_edge, transfer, release}
use Rattle.program.specs.Encodings as table
use Rattle.program.specs.Encodings.{row_of}
use Rattle.program.specs.Located.{Code, end_byte_at, job_at, async_at, finish_at, fork_at, future_at, force_at, start_of, last}

-- A command that joins vertices.
pub data Do : Type 0 where
  link : ℕ → ℕ → Do
  hand : ℕ → Do
  free : ℕ → Do
  yield : Do

-- What a vertex is at.
pub data Control : Type 0 where
  -- new, made in an item that has more vertices to make
  draft : Code → Control
  -- new, behind the split of the item that made it
  fresh : Code → Control
  ready : Code → Control
  -- executing; the first item of the code has made these vertices, and has more to make
  busy : Code → List ℕ → Control
  -- executing, behind the split of its item: what the item does next and after that; then the vertex goes to this code
  joining : Code → Do → List Do → Control
  over : Control

-- What stays as it is while a program runs: its edition, and the offset of its last byte.
pub record Setting : Type 0 where
  pub edition : Edition
  pub last_byte : ℕ

pub record State : Type 0 where
  pub count : ℕ
  pub control : ℕ → Control
  pub scope : ℕ → ℕ
  pub edge : ℕ → ℕ → Bool
  -- who made a vertex
  pub maker : ℕ → ℕ
  -- where a vertex's code starts and ends when it is made, and behind the split of an item of its own where the rest starts; edges lead from lower
  -- to higher ones
  pub rank : ℕ → ℕ
  pub fin : ℕ → ℕ
  -- the futures that are open where a vertex has come to, and behind the split of an item where it goes to, the nearest first: the vertex that
  -- each made first, and its body
  pub opens : ℕ → List (ℕ × Code)
  pub setting : Setting

-- a function changed in one place
abbrev pub put : {A : Type 0} → (ℕ → A) → ℕ → A → ℕ → A
put f v x u = cond (eqb u v) x (f u)

-- A vertex that an item makes: its code, its scope's name, its rank and its fin.
pub record Kid : Type 0 where
  pub code : Code
  pub name : Name
  pub low : ℕ
  pub high : ℕ

-- one that ranks as its code stands
abbrev pub kid : Code → Name → Kid
kid c a = record { code = c; name = a; low = start_of c; high = last c }

-- a future's first: it has no code but the program's last byte, and ranks right behind the future's item, where r starts
abbrev pub awaiting : ℕ → Code → Kid
awaiting L r = record { code = end_byte_at L; name = own_scope; low = start_of r; high = start_of r }

-- behind a fork's branches: in the first edition another vertex has the rest r, in the second the forking one keeps it
unfoldable pub fork_kids : Edition → Code → List Kid
fork_kids First r = kid r own_scope ∷ []
fork_kids Second r = []

unfoldable pub fork_goes : Edition → ℕ → Code → Code
fork_goes First L r = end_byte_at L
fork_goes Second L r = r

-- the vertices that an item makes, in order
unfoldable pub kids : Setting → Code → List Kid
kids Γ (end_byte_at o) = []
kids Γ (job_at o n r) = []
kids Γ (async_at o b r) = kid b own_scope ∷ []
kids Γ (finish_at o b r) = kid r own_scope ∷ kid b made_1 ∷ []
kids Γ (fork_at o b c r) = kid b own_scope ∷ kid c own_scope ∷ fork_kids Γ.edition r
kids Γ (future_at o b r) = awaiting Γ.last_byte r ∷ kid b made_1 ∷ []
kids Γ (force_at o n b r) = kid r own_scope ∷ []

-- where an item's vertex goes with the item's last command
unfoldable pub goes : Setting → Code → Code
goes Γ (end_byte_at o) = end_byte_at o
goes Γ (job_at o n r) = r
goes Γ (async_at o b r) = r
goes Γ (finish_at o b r) = end_byte_at Γ.last_byte
goes Γ (fork_at o b c r) = fork_goes Γ.edition Γ.last_byte r
goes Γ (future_at o b r) = r
goes Γ (force_at o n b r) = end_byte_at Γ.last_byte

-- what a body has behind its first item
unfoldable pub rest_of : Code → Code
rest_of (end_byte_at o) = end_byte_at o
rest_of (job_at o n r) = r
rest_of (async_at o b r) = r
rest_of (finish_at o b r) = r
rest_of (fork_at o b c r) = r
rest_of (future_at o b r) = r
rest_of (force_at o n b r) = r

unfoldable pub kind_of : Code → Option Kind
kind_of (end_byte_at o) = none
kind_of (job_at o n r) = some jobs
kind_of (async_at o b r) = some asyncs
kind_of (finish_at o b r) = some finishes
kind_of (fork_at o b c r) = some forks
kind_of (future_at o b r) = some futures
kind_of (force_at o n b r) = some forces

unfoldable pub commands_of : Edition → Option Kind → List Command
commands_of ed none = []
commands_of ed (some k) = (row_of ed k).commands

-- the vertex of open future number n, and that of the future that an item forces
unfoldable pub vertex_at : List (ℕ × Code) → ℕ → ℕ
vertex_at [] n = 0
vertex_at (f ∷ fs) zero = f.0
vertex_at (f ∷ fs) (suc n) = vertex_at fs n

unfoldable pub forced_by : List (ℕ × Code) → Code → ℕ
forced_by fs (end_byte_at o) = 0
forced_by fs (job_at o n r) = 0
forced_by fs (async_at o b r) = 0
forced_by fs (finish_at o b r) = 0
forced_by fs (fork_at o b c r) = 0
forced_by fs (future_at o b r) = 0
forced_by fs (force_at o n b r) = vertex_at fs n

-- the futures that are open behind an item that has made these vertices
unfoldable pub opens_behind : List (ℕ × Code) → List ℕ → Code → List (ℕ × Code)
opens_behind fs ms (end_byte_at o) = fs
opens_behind fs ms (job_at o n r) = fs
opens_behind fs ms (async_at o b r) = fs
opens_behind fs ms (finish_at o b r) = fs
opens_behind fs ms (fork_at o b c r) = fs
opens_behind fs ms (future_at o b r) = (get_or ms 0 0, b) ∷ fs
opens_behind fs ms (force_at o n b r) = fs

-- what a name stands for in an item of v, which has the scope σ and has made these vertices, where f is forced
unfoldable pub resolved : ℕ → ℕ → ℕ → List ℕ → Name → ℕ
resolved v σ f ms self = v
resolved v σ f ms own_scope = σ
resolved v σ f ms made_1 = get_or ms 0 0
resolved v σ f ms made_2 = get_or ms 1 0
resolved v σ f ms made_3 = get_or ms 2 0
resolved v σ f ms forced = f

-- the joining commands of a list of commands
unfoldable pub joins : ℕ → ℕ → ℕ → List ℕ → List Command → List Do
joins v σ f ms [] = []
joins v σ f ms (perform ∷ cs) = joins v σ f ms cs
joins v σ f ms (new_td p a ∷ cs) = joins v σ f ms cs
joins v σ f ms (new_edge a b ∷ cs) = link (resolved v σ f ms a) (resolved v σ f ms b) ∷ joins v σ f ms cs
joins v σ f ms (transfer a ∷ cs) = hand (resolved v σ f ms a) ∷ joins v σ f ms cs
joins v σ f ms (release a ∷ cs) = free (resolved v σ f ms a) ∷ joins v σ f ms cs
joins v σ f ms (table.yield ∷ cs) = yield ∷ joins v σ f ms cs

-- all that an item does behind its split
unfoldable pub todo : Edition → ℕ → ℕ → ℕ → List ℕ → Code → List Do
todo ed v σ f ms c = joins v σ f ms (commands_of ed (kind_of c))

-- executing with these commands left, and with this code behind them
unfoldable pub onward : Code → List Do → Control
onward c [] = busy c []
onward c (d ∷ ds) = joining c d ds

-- the same behind the command d: a vertex that yields is released
unfoldable pub resumed : Code → Do → List Do → Control
resumed c (link a b) ds = onward c ds
resumed c (hand h) ds = onward c ds
resumed c (free m) ds = onward c ds
resumed c yield ds = ready c

unfoldable pub woken : Control → Control
woken (draft c) = fresh c
woken (fresh c) = fresh c
woken (ready c) = ready c
woken (busy c ms) = busy c ms
woken (joining c d ds) = joining c d ds
woken over = over

unfoldable pub freed : Control → Control
freed (draft c) = draft c
freed (fresh c) = ready c
freed (ready c) = ready c
freed (busy c ms) = busy c ms
freed (joining c d ds) = joining c d ds
freed over = over

unfoldable pub among : ℕ → List ℕ → Bool
among u [] = false
among u (m ∷ ms) = either (eqb u m) (among u ms)

abbrev pub with_control : State → (ℕ → Control) → State
with_control S f =
    record {
      count = S.count;
      control = f;
      scope = S.scope;
      edge = S.edge;
      maker = S.maker;
      rank = S.rank;
      fin = S.fin;
      opens = S.opens;
      setting = S.setting;
    }

abbrev pub with_edges : State → (ℕ → ℕ → Bool) → State
with_edges S e =
    record {
      count = S.count;
      control = S.control;
      scope = S.scope;
      edge = e;
      maker = S.maker;
      rank = S.rank;
      fin = S.fin;
      opens = S.opens;
      setting = S.setting;
    }

abbrev pub with_opens : State → (ℕ → List (ℕ × Code)) → State
with_opens S f =
    record {
      count = S.count;
      control = S.control;
      scope = S.scope;
      edge = S.edge;
      maker = S.maker;
      rank = S.rank;
      fin = S.fin;
      opens = f;
      setting = S.setting;
    }

abbrev pub with_ranks : State → (ℕ → ℕ) → State
with_ranks S f =
    record {
      count = S.count;
      control = S.control;
      scope = S.scope;
      edge = S.edge;
      maker = S.maker;
      rank = f;
      fin = S.fin;
      opens = S.opens;
      setting = S.setting;
    }

-- one more vertex, made by t, with this control, scope, rank and fin; the futures that are open at t are open there
abbrev pub grown : State → ℕ → Control → ℕ → ℕ → ℕ → State
grown S t x σ r f =
    record {
      count = suc S.count;
      control = put S.control S.count x;
      scope = put S.scope S.count σ;
      edge = S.edge;
      maker = put S.maker S.count t;
      rank = put S.rank S.count r;
      fin = put S.fin S.count f;
      opens = put S.opens S.count (S.opens t);
      setting = S.setting;
    }

-- the edges with one more, with those out of v given to h, and without those out of v
abbrev pub linked : (ℕ → ℕ → Bool) → ℕ → ℕ → ℕ → ℕ → Bool
linked e a b x y = either (e x y) (both (eqb x a) (eqb y b))

abbrev pub handed : (ℕ → ℕ → Bool) → ℕ → ℕ → ℕ → ℕ → Bool
handed e v h x y = either (both (e x y) (not (eqb x v))) (both (eqb x h) (e v y))

abbrev pub dropped : (ℕ → ℕ → Bool) → ℕ → ℕ → ℕ → Bool
dropped e v x y = both (e x y) (not (eqb x v))

-- not finished
unfoldable pub live : Control → Bool
live (draft c) = true
live (fresh c) = true
live (ready c) = true
live (busy c ms) = true
live (joining c d ds) = true
live over = false

-- what a joining command does; an edge from a finished vertex adds nothing
unfoldable pub done : State → ℕ → Do → State
done S v (link a b) = with_edges S (λ x y. cond (live (S.control a)) (linked S.edge a b x y) (S.edge x y))
done S v (hand h) = with_edges S (handed S.edge v h)
done S v (free m) = with_control S (put S.control m (freed (S.control m)))
done S v yield = S

-- What a step is counted as; a job by its offset.
pub data Event : Type 0 where
  a_start : Event
  a_new : Event
  an_edge : Event
  a_release : Event
  a_transfer : Event
  a_job : ℕ → Event
  a_stop : Event
  a_yield : Event

unfoldable pub event_of : Do → Event
event_of (link a b) = an_edge
event_of (hand h) = a_transfer
event_of (free m) = a_release
event_of yield = a_yield

-- the scope of a vertex that is made; it is never the one that is forced
abbrev pub scope_for : State → ℕ → List ℕ → Kid → ℕ
scope_for S v ms k = resolved v (S.scope v) 0 ms k.name

-- the vertices of an item under way and one more, which is a draft, made by v, which has come to x
abbrev pub one_more : State → ℕ → List ℕ → Control → Kid → State
one_more S v ms x k =
    with_control (grown S v (draft k.code) (scope_for S v ms k) k.low k.high)
    (put (put S.control S.count (draft k.code)) v x)

-- with these vertices drafts no more
abbrev pub stirred : (ℕ → Control) → List ℕ → ℕ → Control
stirred f ms u = cond (among u ms) (woken (f u)) (f u)

-- the same at the split: the new one is fresh, those that were made before are drafts no more, these futures are open where v goes to, and v
-- ranks from ρ on
abbrev pub split : State → ℕ → List ℕ → Control → List (ℕ × Code) → ℕ → Kid → State
split S v ms x fs ρ k =
    with_ranks
    (with_opens
    (with_control (grown S v (fresh k.code) (scope_for S v ms k) k.low k.high)
    (put (put (stirred S.control ms) S.count (fresh k.code)) v x))
    (put (put S.opens S.count (S.opens v)) v fs))
    (put (put S.rank S.count k.low) v ρ)

-- what the item of code c that v has does behind its split, where it has made these vertices, and what v is at then
abbrev pub todo_of : State → ℕ → List ℕ → Code → List Do
todo_of S v ms c = todo S.setting.edition v (S.scope v) (forced_by (S.opens v) c) ms c

abbrev pub behind_split : State → ℕ → List ℕ → Code → Control
behind_split S v ms c = onward (goes S.setting c) (todo_of S v ms c)

-- The steps of a vertex v.
pub data Move (S : State) (v : ℕ) : Event → State → Type 0 where
  begins :
      {c : Code} → S.control v ≡ ready c → ((u : ℕ) → S.edge u v ≡ false)
      → Move S v a_start (with_control S (put S.control v (busy c [])))
  performs :
      {o n : ℕ} {r : Code} → S.control v ≡ busy (job_at o n r) []
      → Move S v (a_job o) (with_control S (put S.control v (busy r [])))
  stops :
      {o : ℕ} → S.control v ≡ busy (end_byte_at o) []
      → Move S v a_stop (with_edges (with_control S (put S.control v over)) (dropped S.edge v))
  makes :
      {c : Code} {ms : List ℕ} {k next : Kid} {more : List Kid} → S.control v ≡ busy c ms
      → drop (length ms) (kids S.setting c) ≡ k ∷ (next ∷ more)
      → Move S v a_new (one_more S v ms (busy c (ms ++ (S.count ∷ []))) k)
  splits :
      {c : Code} {ms : List ℕ} {k : Kid} → S.control v ≡ busy c ms → drop (length ms) (kids S.setting c) ≡ k ∷ []
      → Move S v a_new
      (split S v ms (behind_split S v (ms ++ (S.count ∷ [])) c) (opens_behind (S.opens v) (ms ++ (S.count ∷ [])) c) (start_of (rest_of c)) k)
  acts :
      {c : Code} {d : Do} {ds : List Do} → S.control v ≡ joining c d ds
      → Move S v (event_of d) (with_control (done S v d) (put (done S v d).control v (resumed c d ds)))
