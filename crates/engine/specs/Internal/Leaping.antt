-- Tables of leaps: where many hops from future to future lead.
use Rattle.std.specs.Prelude.{ℕ, zero, suc, ◌+◌, ◌*◌, ◌<◌, ◌≤◌, ◌≡◌, cond, List, ltb, length, get_or}
use Rattle.std.proofs.Math.Option.{Option}
use Rattle.graph.specs.Tables.{usable_limit, future_word, vertex_word}
use Rattle.engine.specs.Internal.Underway.{FollowsTo}

-- the future that a vertex's word names, where t are the vertex rows and so many are made; 0 is none, and leads to none
unfoldable pub hop : List ℕ → ℕ → ℕ → ℕ
hop t made zero = 0
hop t made (suc v) = cond (ltb (vertex_word t (suc v) future_word) made) (vertex_word t (suc v) future_word) 0

unfoldable pub hops : List ℕ → ℕ → ℕ → ℕ → ℕ
hops t made zero v = v
hops t made (suc n) v = hops t made n (hop t made v)

-- a list tells from a place on, for each of the first k vertices, where n hops lead
abbrev pub HopsAt : List ℕ → ℕ → List ℕ → ℕ → ℕ → ℕ → Type 0
HopsAt t made l at n k = (v : ℕ) → v < k → get_or l (at + v) 0 ≡ hops t made n v

-- three tables one behind the other: one hop, eight, and sixty-four
pub record Leaps (t : List ℕ) (made : ℕ) (l : List ℕ) : Type 0 where
  pub few : made ≤ usable_limit
  pub long : length l ≡ 3 * usable_limit
  pub ones : HopsAt t made l 0 1 made
  pub eights : HopsAt t made l usable_limit 8 made
  pub sixty_fours : HopsAt t made l (2 * usable_limit) 64 made

-- from a place on, a list has a made vertex for each made vertex
abbrev pub Within : ℕ → List ℕ → ℕ → Type 0
Within made l at = (at + made ≤ length l) × ((v : ℕ) → v < made → get_or l (at + v) 0 < made)

-- r tells where so many turns of the table from a place on lead, however many hops each of them is
abbrev pub LeadsTo : ℕ → List ℕ → ℕ → ℕ → ℕ → ℕ → Type 0
LeadsTo made l at v n r = (t : List ℕ) (h : ℕ) → HopsAt t made l at h made → r ≡ hops t made (n * h) v

-- o is what a force follows, whatever vertex rows these are the leaps of
abbrev pub LeapsTo : ℕ → List ℕ → ℕ → ℕ → Option ℕ → Type 0
LeapsTo made l word n o = (t : List ℕ) → Leaps t made l → FollowsTo t made word n o

-- the words before a place are as they were
abbrev pub SameBelow : ℕ → List ℕ → List ℕ → Type 0
SameBelow n l l' = (u : ℕ) → u < n → get_or l' u 0 ≡ get_or l u 0

-- the next table tells, for each of the first k vertices, where eight turns of the one from a place on lead
abbrev pub EightTold : ℕ → ℕ → List ℕ → List ℕ → ℕ → Type 0
EightTold made at l l' k = (t : List ℕ) (h : ℕ) → HopsAt t made l at h made → HopsAt t made l' (at + usable_limit) (8 * h) k
