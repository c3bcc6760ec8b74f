-- What the functions of the path search promise one another, and the crates `chains` and `index`. This serves the proofs of the code, and
-- nobody has to believe it: `reaches` of src/paths.rt is held to `reaches` of Paths, and so is that of `index`, and `chains` to definitions of
-- its own.
--
-- The search goes backwards from the vertex to be reached, breadth first. A vertex is marked once a path of one or more edges is
-- known to lead from it to that vertex, and is put into the queue at the same time. Its mark is its distance, the number of edges of the
-- shortest such path. The vertices of the queue are looked at in turn: the rows that lead into one are followed, from the last to the
-- first.
use Rattle.std.specs.Prelude.{ℕ, zero, suc, ◌+◌, ◌*◌, ◌≤◌, ◌<◌, ◌≡◌, Bool, true, cond, ◌⊎◌, List, [], ◌∷◌, length, get_or, replicate, eqb}
use Rattle.graph.specs.Tables.{edge_words, target_word, usable_limit, edge_word, source, target}
use Rattle.graph.specs.Sound.{edges_made}
use Rattle.graph.specs.Paths.{holds}

-- The vertices of a search are below this: a run's own index gives a dropped row one vertex more for its source, which nothing leads into.
abbrev pub search_limit : ℕ
search_limit = usable_limit + 1

-- The most rows of a search: a run's own index keeps its dropped rows until it is taken anew.
abbrev pub search_rows : ℕ
search_rows = 2 * usable_limit

-- the first n rows can be read, and their ends are vertices of a search
pub record Rows (e : List ℕ) (n : ℕ) : Type 0 where
  pub full : edge_words * n ≤ length e
  pub few : n ≤ search_rows
  pub ends : edges_made e search_limit n ≡ true

-- they are no more than an edge table can hold, and the two vertices are vertices of a search
pub record Searchable (e : List ℕ) (n from to : ℕ) : Type 0 where
  pub rows : Rows e n
  pub held : n ≤ usable_limit
  pub from_usable : from < search_limit
  pub to_usable : to < search_limit

-- Of the rows below n the last whose word w is v, counted from 1, or 0 where there is none.
unfoldable pub last_with : ℕ → List ℕ → ℕ → ℕ → ℕ
last_with w e v zero = zero
last_with w e v (suc n) = cond (eqb (edge_word e n w) v) (suc n) (last_with w e v n)

-- the last that leads into v
abbrev pub last_into : List ℕ → ℕ → ℕ → ℕ
last_into e v n = last_with target_word e v n

-- The first n rows are linked by their targets: `first` has the last row into each vertex, and `next` has for each row the one
-- before it that leads into the same vertex.
abbrev pub Links : List ℕ → ℕ → List ℕ → Type 0
Links e n next = (i : ℕ) → i < n → get_or next i 0 ≡ last_into e (target e i) i

pub record Linked (e : List ℕ) (n : ℕ) (first next : List ℕ) : Type 0 where
  pub long : length first ≡ search_limit
  pub starts : (v : ℕ) → v < search_limit → get_or first v 0 ≡ last_into e v n
  pub links : Links e n next

-- an array of which nothing is written
abbrev pub blank : List ℕ
blank = replicate search_limit 0

unfoldable pub zeros : List ℕ → ℕ
zeros [] = zero
zeros (zero ∷ l) = suc (zeros l)
zeros (suc x ∷ l) = zeros l

-- the queue, filled up to `tail`, has a place left for each vertex that is not marked
pub record Room (m q : List ℕ) (tail : ℕ) : Type 0 where
  pub marks : length m ≡ search_limit
  pub places : length q ≡ search_limit
  pub free : tail + zeros m ≡ search_limit

abbrev pub IsMarked : List ℕ → ℕ → Type 0
IsMarked m x = 0 < get_or m x 0

-- x stands in the queue, and was not yet looked at
pub record Waits (q : List ℕ) (head tail x : ℕ) : Type 0 where
  pub place : ℕ
  pub from : head ≤ place
  pub below : place < tail
  pub there : get_or q place 0 ≡ x

-- a path of exactly k edges of E
pub data Hops (E : ℕ → ℕ → Bool) : ℕ → ℕ → ℕ → Type 0 where
  here : {a : ℕ} → Hops E 0 a a
  hop : {k a b c : ℕ} → E a b ≡ true → Hops E k b c → Hops E (suc k) a c

-- x is k edges away: it is the vertex to be reached and k is 0, or it is marked with k. (The vertex to be reached may be both.)
abbrev pub Away : ℕ → List ℕ → ℕ → ℕ → Type 0
Away to m x k = ((x ≡ to) × (k ≡ 0)) ⊎ ((0 < k) × (get_or m x 0 ≡ k))

-- row i, whose target is k edges away, has a marked source, or it is one of those of v, which is d edges away, that are left, or its
-- target still waits
abbrev pub Covered : List ℕ → ℕ → ℕ → ℕ → ℕ → List ℕ → List ℕ → ℕ → ℕ → ℕ → Type 0
Covered e v d head c m q tail i k =
    IsMarked m (source e i) ⊎ (((target e i ≡ v) × (i < c) × (k ≡ d)) ⊎ ((0 < k) × (d ≤ k) × Waits q head tail (target e i)))

-- The search over the first n rows of e, with the marks m and the queue q, while it looks at v, which is d edges away. Of the rows into
-- v the one with the number c, counted from 1, is the next to be followed; those after it were.
pub record Frontier (e : List ℕ) (n to v d head c : ℕ) (m q : List ℕ) (tail : ℕ) : Type 0 where
  pub ordered : head ≤ tail
  pub near : d ≤ head
  pub queued : (k : ℕ) → k < tail → IsMarked m (get_or q k 0)
  pub rising : (j k : ℕ) → head ≤ j → j ≤ k → k < tail → get_or m (get_or q j 0) 0 ≤ get_or m (get_or q k 0) 0
  pub farther : (k : ℕ) → head ≤ k → k < tail → d ≤ get_or m (get_or q k 0) 0
  pub marks : (x : ℕ) → get_or m x 0 ≤ suc d
  pub leads : (x : ℕ) → IsMarked m x → Hops (holds e n) (get_or m x 0) x to
  pub least : (x k : ℕ) → IsMarked m x → Hops (holds e n) (suc k) x to → get_or m x 0 ≤ suc k
  pub counts : Away to m v d
  pub row : (i : ℕ) → c ≡ suc i → (i < n) × (target e i ≡ v)
  pub closed : (i k : ℕ) → i < n → Away to m (target e i) k → Covered e v d head c m q tail i k

-- what is lent to look at a vertex: its rows, linked, from row c on
pub record RowsFrom (e next : List ℕ) (c : ℕ) : Type 0 where
  pub rows : Rows e c
  pub long : c ≤ length next
  pub links : Links e c next

-- what looking at a vertex leaves when its rows were followed from row c to row c' and their sources got the mark `distance`, whatever
-- the search is for
pub record Scanned (e : List ℕ) (c distance : ℕ) (m q : List ℕ) (tail c' : ℕ) (m' q' : List ℕ) (tail' : ℕ) : Type 0 where
  pub room : Room m' q' tail'
  pub frontier :
      (n to v d head : ℕ) → distance ≡ suc d → Frontier e n to v d head c m q tail → Frontier e n to v d head c' m' q' tail'

-- What a search over the first n rows of e leaves: a mark is the distance of its vertex, and where the search gets to `from`, each vertex
-- that is less far away has its mark.
pub record Measured (e : List ℕ) (n from to : ℕ) (found : Bool) (m : List ℕ) : Type 0 where
  pub long : length m ≡ search_limit
  pub leads : (x : ℕ) → IsMarked m x → Hops (holds e n) (get_or m x 0) x to
  pub least : (x k : ℕ) → IsMarked m x → Hops (holds e n) (suc k) x to → get_or m x 0 ≤ suc k
  pub marked : found ≡ true → IsMarked m from
  pub nearer : found ≡ true → (x k : ℕ) → Hops (holds e n) (suc k) x to → suc k < get_or m from 0 → IsMarked m x
