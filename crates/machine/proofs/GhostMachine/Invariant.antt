-- What holds of every state that is reached from a loading, in five parts:
--     Shape    the vertices of items under way, and what is left to do of each item
--     Ranks    edges, held and settled, lead from lower ranks to higher ones, so no path closes
--     Roads    settled edges lead to waiting vertices only, and from a vertex that has an item to its scope
--     Coded    a vertex's code stands in the program
--     Opened   the futures that are open at a vertex are those of its place, in order
-- Settled edges are the edges as they will be once each item that is split has done what it has to do.
use Prim.Native.Nat.{ℕ, ◌<◌, ◌≤◌}
use mathlib.Core.Path.{◌≡◌}
use mathlib.Core.Bool.{Bool, true, false, not}
use mathlib.Core.Logic.{◌⊎◌}
use mathlib.Core.List.{List, [], ◌∷◌, map}
use mathlib.Core.Option.{Option, none, some}
use Rattle.program.specs.Located.{Code, end_byte_at, job_at, async_at, finish_at, fork_at, future_at, force_at, start_of, last, code_at}
use Rattle.program.proofs.OpenLaws.{Opens}
use Rattle.machine.proofs.GhostMachine.Ghost.{Do, link, hand, free, yield, Control, draft, fresh, ready, busy, joining, over, State, Kid, kids}
use Rattle.machine.proofs.GhostMachine.Ghost.{scope_for, live}
pub use Rattle.machine.specs.HandedOut.{In, here, later}

-- x stands before y in a list
pub data Precedes {A : Type 0} (x y : A) : List A → Type 0 where
  first : {xs : List A} → In y xs → Precedes x y (x ∷ xs)
  behind : {z : A} {xs : List A} → Precedes x y xs → Precedes x y (z ∷ xs)

-- no element stands twice
unfoldable pub Once : {A : Type 0} → List A → Type 0
Once [] = Unit {0}
Once (x ∷ xs) = (In x xs → ⊥) × Once xs

-- what is left to do of a split item
unfoldable pub tasks : Control → List Do
tasks (draft c) = []
tasks (fresh c) = []
tasks (ready c) = []
tasks (busy c ms) = []
tasks (joining c d ds) = d ∷ ds
tasks over = []

-- the code that a vertex has left; of a split item, what is behind it
unfoldable pub code_of : Control → Option Code
code_of (draft c) = some c
code_of (fresh c) = some c
code_of (ready c) = some c
code_of (busy c ms) = some c
code_of (joining c d ds) = some c
code_of over = none

-- code that begins with an item, and not with an end byte
unfoldable pub is_item : Code → Bool
is_item (end_byte_at o) = false
is_item (job_at o n r) = true
is_item (async_at o b r) = true
is_item (finish_at o b r) = true
is_item (fork_at o b c r) = true
is_item (future_at o b r) = true
is_item (force_at o n b r) = true

-- a yield is among them
unfoldable pub yields : List Do → Bool
yields [] = false
yields (link a b ∷ ds) = yields ds
yields (hand h ∷ ds) = yields ds
yields (free m ∷ ds) = yields ds
yields (yield ∷ ds) = true

-- new or released, or to be released again before it does anything else
unfoldable pub waits : Control → Bool
waits (draft c) = true
waits (fresh c) = true
waits (ready c) = true
waits (busy c ms) = false
waits (joining c d ds) = yields (d ∷ ds)
waits over = false

unfoldable pub is_new : Control → Bool
is_new (draft c) = true
is_new (fresh c) = true
is_new (ready c) = false
is_new (busy c ms) = false
is_new (joining c d ds) = false
is_new over = false

unfoldable pub is_draft : Control → Bool
is_draft (draft c) = true
is_draft (fresh c) = false
is_draft (ready c) = false
is_draft (busy c ms) = false
is_draft (joining c d ds) = false
is_draft over = false

-- no draft, and at an end byte with nothing left to do of an item, or finished: so is the vertex that an open future made first
unfoldable pub sits : Control → Bool
sits (draft c) = false
sits (fresh c) = not (is_item c)
sits (ready c) = not (is_item c)
sits (busy c ms) = not (is_item c)
sits (joining c d ds) = false
sits over = true

abbrev pub tasks_of : State → ℕ → List Do
tasks_of S t = tasks (S.control t)

-- an edge as it will be: held, and not to be handed on; to be handed on to h; or still to be made, from a vertex that is not finished
pub data Settled (S : State) : ℕ → ℕ → Type 0 where
  held : {a b : ℕ} → S.edge a b ≡ true → ((h : ℕ) → In (hand h) (tasks_of S a) → ⊥) → Settled S a b
  given : (t : ℕ) {h b : ℕ} → In (hand h) (tasks_of S t) → S.edge t b ≡ true → Settled S h b
  planned : (t : ℕ) {a b : ℕ} → In (link a b) (tasks_of S t) → live (S.control a) ≡ true → Settled S a b

-- one or more of them in a row
pub data Way (R : ℕ → ℕ → Type 0) : ℕ → ℕ → Type 0 where
  one : {a b : ℕ} → R a b → Way R a b
  more : {a b c : ℕ} → R a b → Way R b c → Way R a c

-- m is the vertex k of an item of v that is not split and has made `all`
pub record Draft (S : State) (v : ℕ) (all : List ℕ) (m : ℕ) (k : Kid) : Type 0 where
  pub is_draft : S.control m ≡ draft k.code
  pub scope_is : S.scope m ≡ scope_for S v all k
  pub rank_is : S.rank m ≡ k.low
  pub fin_is : S.fin m ≡ k.high
  pub made_by : S.maker m ≡ v
  pub opens_are : S.opens m ≡ S.opens v

-- the vertices made so far are the first of the item's
unfoldable pub Drafts : State → ℕ → List ℕ → List ℕ → List Kid → Type 0
Drafts S v all [] ks = Unit {0}
Drafts S v all (m ∷ ms) [] = ⊥
Drafts S v all (m ∷ ms) (k ∷ ks) = Draft S v all m k × Drafts S v all ms ks

-- behind a release come releases only, and a yield at the end
unfoldable pub FreesOnly : List Do → Type 0
FreesOnly [] = Unit {0}
FreesOnly (link a b ∷ ds) = ⊥
FreesOnly (hand h ∷ ds) = ⊥
FreesOnly (free m ∷ ds) = FreesOnly ds
FreesOnly (yield ∷ ds) = ds ≡ []

unfoldable pub Ordered : List Do → Type 0
Ordered [] = Unit {0}
Ordered (link a b ∷ ds) = Ordered ds
Ordered (hand h ∷ ds) = Ordered ds
Ordered (free m ∷ ds) = FreesOnly ds
Ordered (yield ∷ ds) = ds ≡ []

-- an open future's first vertex, as the source of an edge to b, which is still to be released
pub record Forces (S : State) (a b : ℕ) (ds : List Do) : Type 0 where
  pub there : a < S.count
  pub sitting : sits (S.control a) ≡ true
  pub frees_it : In (free b) ds
  -- no edges are handed on to it
  pub unhanded : (t : ℕ) → In (hand a) (tasks_of S t) → ⊥

-- what is left to do of t's item, the list ds, can be done
pub record Fits (S : State) (t : ℕ) (ds : List Do) : Type 0 where
  pub ordered : Ordered ds
  pub once : Once ds
  pub frees : (m : ℕ) → In (free m) ds → ((c : Code) × (S.control m ≡ fresh c)) × (S.maker m ≡ t)
  -- a vertex is released behind its scope
  pub free_scope : (m : ℕ) → In (free m) ds → (is_new (S.control (S.scope m)) ≡ false) ⊎ Precedes (free (S.scope m)) (free m) ds
  pub link_from : (a b : ℕ) → In (link a b) ds → In (free a) ds ⊎ Forces S a b ds
  pub link_to : (a b : ℕ) → In (link a b) ds → In (free b) ds ⊎ ((b ≡ S.scope t) ⊎ ((b ≡ t) × (yields ds ≡ true)))
  pub link_new : (a b : ℕ) → In (link a b) ds → S.edge a b ≡ false
  pub hand_to : (h : ℕ) → In (hand h) ds → In (free h) ds
  pub hand_new : (h x : ℕ) → In (hand h) ds → S.edge h x ≡ false
  pub hand_apart : (h b : ℕ) → In (hand h) ds → In (link h b) ds → ⊥
  pub hand_one : (h h' : ℕ) → In (hand h) ds → In (hand h') ds → h ≡ h'

abbrev pub Tasks : State → ℕ → Type 0
Tasks S t = Fits S t (tasks_of S t)

pub record Shape (S : State) : Type 0 where
  pub beyond : (u : ℕ) → S.count ≤ u → S.control u ≡ over
  pub within : (a b : ℕ) → S.edge a b ≡ true → (a < S.count) × (b < S.count)
  pub scope_within : (v : ℕ) → v < S.count → S.scope v < S.count
  pub under_way : (v : ℕ) (c : Code) (ms : List ℕ) → S.control v ≡ busy c ms → Drafts S v ms ms (kids S.setting c) × Once ms
  pub drafts : (m : ℕ) (k : Code) → S.control m ≡ draft k → (c : Code) × (ms : List ℕ) × (S.control (S.maker m) ≡ busy c ms) × In m ms
  pub draft_bare : (m x : ℕ) (k : Code) → S.control m ≡ draft k → (S.edge x m ≡ false) × (S.edge m x ≡ false)
  pub freshes : (m : ℕ) (k : Code) → S.control m ≡ fresh k → In (free m) (tasks_of S (S.maker m))
  pub todo_fits : (t : ℕ) → Tasks S t
  pub scope_old : (v : ℕ) → v < S.count → is_new (S.control v) ≡ false → is_new (S.control (S.scope v)) ≡ false

-- v has an item to do: it stands at the head of the code c that v has left
abbrev pub HasItem : State → ℕ → Code → Type 0
HasItem S v c = (code_of (S.control v) ≡ some c) × (is_item c ≡ true)

pub record Ranks (S : State) : Type 0 where
  pub rank_le : (v : ℕ) → v < S.count → S.rank v ≤ S.fin v
  pub edge_rank : (a b : ℕ) → S.edge a b ≡ true → S.fin a < S.rank b
  pub link_rank : (t a b : ℕ) → In (link a b) (tasks_of S t) → S.fin a < S.rank b
  pub hand_rank : (t h : ℕ) → In (hand h) (tasks_of S t) → S.fin h ≤ S.fin t
  pub scope_rank : (v : ℕ) (c : Code) → HasItem S v c → S.fin v < S.rank (S.scope v)
  pub code_fin : (v : ℕ) (c : Code) → HasItem S v c → last c ≡ S.fin v
  pub rank_start : (v : ℕ) (c : Code) → HasItem S v c → S.rank v ≤ start_of c

pub record Roads (S : State) : Type 0 where
  pub into : (a b : ℕ) → Settled S a b → waits (S.control b) ≡ true
  pub way : (v : ℕ) (c : Code) → HasItem S v c → is_draft (S.control v) ≡ false → Way (Settled S) v (S.scope v)
  -- the same while an edge to the scope is still to be made, whatever code is left behind the item
  pub plan : (t a : ℕ) → In (link a (S.scope t)) (tasks_of S t) → Way (Settled S) t (S.scope t)
  -- nothing leads to the source of an edge that is still to be made, if the item made it
  pub bare : (t a b x : ℕ) → In (link a b) (tasks_of S t) → In (free a) (tasks_of S t) → Settled S x a → ⊥

-- the bodies of open futures
unfoldable pub bodies : List (ℕ × Code) → List Code
bodies fs = map (λ f. f.1) fs

pub record Opened (S : State) : Type 0 where
  -- vertex 0 is not new
  pub root : is_new (S.control 0) ≡ false
  -- the first vertex of an open future is there, is not vertex 0, and sits
  pub there : (v t : ℕ) (b : Code) → v < S.count → In (t, b) (S.opens v) → (0 < t) × (t < S.count) × (sits (S.control t) ≡ true)
  -- no edges are handed on to it
  pub unhanded : (v t u : ℕ) (b : Code) → v < S.count → In (t, b) (S.opens v) → In (hand t) (tasks_of S u) → ⊥
  -- "The word of a future's t names the next future out"
  pub next_out : (v t : ℕ) (b : Code) (fs : List (ℕ × Code)) → v < S.count → S.opens v ≡ (t, b) ∷ fs → S.opens t ≡ fs
  -- each force that a vertex has left to do has its future among them
  pub scoped : (v : ℕ) (c : Code) → code_of (S.control v) ≡ some c → Opens (bodies (S.opens v)) c
  -- an open future ranks before what is left to do
  pub before : (v t : ℕ) (b c : Code) → In (t, b) (S.opens v) → HasItem S v c → S.fin t ≤ start_of c

-- the code of each vertex stands in the program p
abbrev pub Coded : Code → State → Type 0
Coded p S = (v : ℕ) (c : Code) → code_of (S.control v) ≡ some c → code_at p (start_of c) ≡ some c
