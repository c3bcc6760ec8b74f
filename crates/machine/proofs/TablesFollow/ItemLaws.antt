-- The table of commands, read from where an item has come to: first the vertices that it makes, one for each of `kids`, then what
-- joins them.
use Prim.Native.Nat.{ℕ, zero, suc, ◌+◌, ◌≤◌}
use mathlib.Core.Path.{◌≡◌, refl, sym, ◌∙◌, ap, subst}
use mathlib.Core.Bool.{Bool, true}
use mathlib.Core.Logic.{◌⊎◌, inl, inr}
use mathlib.Core.List.{List, [], ◌∷◌, ◌++◌}
use mathlib.Core.Option.{some, some-injective, none-ne-some}
use native.Mathlib.Omega.{arith}
use lib.ListN.{length, drop, take, get_or}
use borrow.Author.Tests.{eq-eqb, ne_eqb}
use Rattle.graph.specs.Tests.{both}
use Rattle.graph.specs.Tables.{RELEASED, EXECUTING}
use Rattle.graph.proofs.TestLaws.{both_left, both_right}
use Rattle.program.specs.declared.Edition.{Edition}
use Rattle.program.specs.declared.Edition.TheVariants.{First, Second}
use Rattle.program.specs.Encodings.{Name, own_scope, made_1, Spot, first_body, second_body, past_item, last_byte, Command, perform, new_td, new_edge}
use Rattle.program.specs.Encodings.{transfer, release, fork_row, row_of, weight}
use Rattle.program.specs.Encodings as table
use Rattle.program.specs.Located.{Code, end_byte_at, job_at, async_at, finish_at, fork_at, future_at, force_at, start_of, code_at}
use Rattle.program.proofs.OpenLaws.{nth_open, Opens}
use Rattle.machine.specs.Stepping.{nth, Own, with_made, with_kept, with_phase, own_past_item, moved_on}
use Rattle.machine.proofs.GhostMachine.Ghost.{Do, link, hand, free, yield, ready, joining, Setting, Kid, kid, awaiting, fork_kids, kids, goes}
use Rattle.machine.proofs.GhostMachine.Ghost.{kind_of, commands_of, vertex_at, forced_by, opens_behind, resolved, joins, todo, onward, resumed}
use Rattle.machine.proofs.GhostMachine.Invariant.{is_item, bodies}
use Rattle.machine.proofs.GhostMachine.Unsplit.{MoreToMake}
use Rattle.machine.proofs.TablesFollow.Follows.{Words, row, first_opened, Shows, shows_ready, shows_busy, shows_joining}
use Rattle.machine.proofs.TablesFollow.RowLaws.{own_in, put_own, advancing, turned}
use Rattle.machine.proofs.TablesFollow.StepLaws.{plain, plain_names, ItemOf, row_for, job_item, item_of}

-- no list is empty and not
not_nil : {A P : Type 0} {x : A} {xs : List A} → [] ≡ x ∷ xs → P
not_nil {A} {P} q = absurd (subst (λ (l : List A). Empty l) q tt)
  where
    Empty : List A → Type 0
    Empty [] = Unit {0}
    Empty (x ∷ xs) = ⊥

-- what is left of a list begins with its next element
next_left :
    (cs : List Command) (n : ℕ) {c : Command} {rest : List Command} → drop n cs ≡ c ∷ rest
    → (nth cs n ≡ some c) × (drop (suc n) cs ≡ rest) × (suc n + length rest ≡ length cs)
unfolding nth
next_left [] zero h = not_nil h
next_left [] (suc n) h = not_nil h
next_left (x ∷ xs) zero {c} {rest} h =
    let z : xs ≡ rest = cc in
    (cc, z, omega (arith, ap (λ (l : List Command). length l) z))
next_left (x ∷ xs) (suc n) h = let (p, q, r) = next_left xs n h in (p, q, omega (arith, r))

-- commands that join vertices, a yield at the end only
unfoldable Joining : List Command → Type 0
Joining [] = Unit {0}
Joining (perform ∷ cs) = ⊥
Joining (new_td p a ∷ cs) = ⊥
Joining (new_edge a b ∷ cs) = Joining cs
Joining (transfer a ∷ cs) = Joining cs
Joining (release a ∷ cs) = Joining cs
Joining (table.yield ∷ cs) = cs ≡ []

-- and what is left of such
joining_drop : (cs : List Command) (n : ℕ) → Joining cs → Joining (drop n cs)
unfolding Joining
joining_drop cs zero h = h
joining_drop [] (suc n) h = h
joining_drop (perform ∷ cs) (suc n) h = absurd h
joining_drop (new_td p a ∷ cs) (suc n) h = absurd h
joining_drop (new_edge a b ∷ cs) (suc n) h = joining_drop cs n h
joining_drop (transfer a ∷ cs) (suc n) h = joining_drop cs n h
joining_drop (release a ∷ cs) (suc n) h = joining_drop cs n h
joining_drop (table.yield ∷ cs) (suc n) h = subst (λ (l : List Command). Joining (drop n l)) (sym h) (joining_drop [] n tt)

-- behind the vertices that it makes, an item has nothing else to do
joining_fork :
    (ed : Edition) (r : Code) (φ : ℕ) → 2 + length (fork_kids ed r) ≤ φ → Joining (drop φ (fork_row ed).commands)
unfolding fork_kids fork_row Joining
joining_fork ed r zero le = absurd (omega arith)
joining_fork ed r (suc zero) le = absurd (omega arith)
joining_fork First r (suc (suc zero)) le = absurd (omega arith)
joining_fork First r (suc (suc (suc φ))) le = joining_drop _ φ tt
joining_fork Second r (suc (suc φ)) le = joining_drop _ φ refl

joining_left :
    (Γ : Setting) (c : Code) (φ v σ f : ℕ) (ms : List ℕ) {d : Do} {ds : List Do} → length (kids Γ c) ≤ φ
    → joins v σ f ms (drop φ (commands_of Γ.edition (kind_of c))) ≡ d ∷ ds → Joining (drop φ (commands_of Γ.edition (kind_of c)))
unfolding kids kind_of commands_of row_of joins Joining
joining_left Γ (end_byte_at o) zero v σ f ms le h = tt
joining_left Γ (end_byte_at o) (suc φ) v σ f ms le h = tt
joining_left Γ (job_at o n r) zero v σ f ms le h = not_nil h
joining_left Γ (job_at o n r) (suc φ) v σ f ms le h = joining_drop [] φ tt
joining_left Γ (async_at o b r) zero v σ f ms le h = absurd (omega arith)
joining_left Γ (async_at o b r) (suc φ) v σ f ms le h = joining_drop _ φ tt
joining_left Γ (finish_at o b r) zero v σ f ms le h = absurd (omega arith)
joining_left Γ (finish_at o b r) (suc zero) v σ f ms le h = absurd (omega arith)
joining_left Γ (finish_at o b r) (suc (suc φ)) v σ f ms le h = joining_drop _ φ tt
joining_left Γ (fork_at o b c r) φ v σ f ms le h = joining_fork Γ.edition r φ (omega (arith, le))
joining_left Γ (future_at o b r) zero v σ f ms le h = absurd (omega arith)
joining_left Γ (future_at o b r) (suc zero) v σ f ms le h = absurd (omega arith)
joining_left Γ (future_at o b r) (suc (suc φ)) v σ f ms le h = joining_drop _ φ tt
joining_left Γ (force_at o n b r) zero v σ f ms le h = absurd (omega arith)
joining_left Γ (force_at o n b r) (suc φ) v σ f ms le h = joining_drop _ φ tt

-- a command and what it does, with its names filled in
pub data Joins (v σ f : ℕ) (ms : List ℕ) : Command → Do → Type 0 where
  joins_link : (a b : Name) → Joins v σ f ms (new_edge a b) (link (resolved v σ f ms a) (resolved v σ f ms b))
  joins_hand : (a : Name) → Joins v σ f ms (transfer a) (hand (resolved v σ f ms a))
  joins_free : (a : Name) → Joins v σ f ms (release a) (free (resolved v σ f ms a))
  joins_yield : Joins v σ f ms table.yield yield

-- the next one of commands that join
record Next (v σ f : ℕ) (ms : List ℕ) (cs : List Command) (d : Do) (ds : List Do) : Type 0 where
  pub command : Command
  pub rest : List Command
  pub list_is : cs ≡ command ∷ rest
  pub does : Joins v σ f ms command d
  pub then_does : joins v σ f ms rest ≡ ds

-- one that is found
next_by :
    {v σ f : ℕ} {ms : List ℕ} {c : Command} {cs : List Command} {d d' : Do} {ds ds' : List Do} → Joins v σ f ms c d' → d' ∷ ds' ≡ d ∷ ds
    → joins v σ f ms cs ≡ ds' → Next v σ f ms (c ∷ cs) d ds
next_by {v} {σ} {f} {ms} {c} {cs} {d} {d'} {ds} does q h =
    let first : d' ≡ d = cc in
    record {
      command = c;
      rest = cs;
      list_is = refl;
      does = subst (λ (x : Do). Joins v σ f ms c x) first does;
      then_does = cc;
    }

next_of :
    (v σ f : ℕ) (ms : List ℕ) (cs : List Command) (d : Do) (ds : List Do) → Joining cs → joins v σ f ms cs ≡ d ∷ ds
    → Next v σ f ms cs d ds
unfolding Joining joins
next_of v σ f ms [] d ds j h = not_nil h
next_of v σ f ms (perform ∷ cs) d ds j h = absurd j
next_of v σ f ms (new_td p a ∷ cs) d ds j h = absurd j
next_of v σ f ms (new_edge a b ∷ cs) d ds j h = next_by (joins_link a b) h refl
next_of v σ f ms (transfer a ∷ cs) d ds j h = next_by (joins_hand a) h refl
next_of v σ f ms (release a ∷ cs) d ds j h = next_by (joins_free a) h refl
next_of v σ f ms (table.yield ∷ cs) d ds j h = next_by joins_yield h refl

-- a command that joins keeps no vertex in the row
joins_kept : {v σ f : ℕ} {ms : List ℕ} {c : Command} {d : Do} (k x : ℕ) (w : Own) → Joins v σ f ms c d → with_kept c k x w ≡ w
unfolding with_kept
joins_kept k x w (joins_link a b) = refl
joins_kept k x w (joins_hand a) = refl
joins_kept k x w (joins_free a) = refl
joins_kept k x w joins_yield = refl

-- the kind's commands are the code's
commands_are : {Γ : Setting} {c : Code} (i : ItemOf Γ c) → commands_of Γ.edition (kind_of c) ≡ (row_for i).commands
unfolding commands_of
commands_are {Γ} i = ap (commands_of Γ.edition) i.is_kind

-- commands that join do something
joins_some : (v σ f : ℕ) (ms : List ℕ) (c : Command) (cs : List Command) → Joining (c ∷ cs) → joins v σ f ms (c ∷ cs) ≡ [] → ⊥
unfolding Joining joins
joins_some v σ f ms perform cs j h = j
joins_some v σ f ms (new_td p a) cs j h = j
joins_some v σ f ms (new_edge a b) cs j h = not_nil (sym h)
joins_some v σ f ms (transfer a) cs j h = not_nil (sym h)
joins_some v σ f ms (release a) cs j h = not_nil (sym h)
joins_some v σ f ms table.yield cs j h = not_nil (sym h)

-- the row of a vertex that is at phase φ of the first item of c, and of one whose item has made ms; l is the latest open future
abbrev item_row : Code → ℕ → ℕ → List ℕ → ℕ → Words
item_row c σ φ ms l = row EXECUTING (start_of c) σ φ (get_or ms 0 0) (get_or ms 1 0) (get_or ms 2 0) l

abbrev pub busy_row : Code → ℕ → List ℕ → ℕ → Words
busy_row c σ ms l = row EXECUTING (start_of c) σ (length ms) (get_or ms 0 0) (get_or ms 1 0) (get_or ms 2 0) l

module _
    (p : Code) {Γ : Setting} (v σ : ℕ) (w : Words) (k : Code) (φ : ℕ) (ms : List ℕ) (gs : List (ℕ × Code)) (i : ItemOf Γ k)
    (is_row : w ≡ item_row k σ φ ms (first_opened gs)) (opens : Opens (bodies gs) k)
  where
    -- the own words past the item, and what is left of it
    abbrev past : Own
    past = own_past_item (row_for i) i.spot (own_in w)

    abbrev left : List Command → List Do
    left cs = joins v σ (forced_by gs k) ms cs

    -- the row after an item's last command, and after one that yields
    shows_last : Shows p Γ v (put_own past w) σ (opens_behind gs ms k) (onward (goes Γ k) [])
    unfolding onward own_past_item
    shows_last =
        shows_busy
        (ap (λ (y : Words). put_own (own_past_item (row_for i) i.spot (own_in y)) y) is_row
        ∙ (λ j. row EXECUTING (i.goes_on j) σ 0 0 0 0 (i.opens_as gs ms j)))

    shows_yielded : Shows p Γ v (put_own past (turned yield w)) σ (opens_behind gs ms k) (ready (goes Γ k))
    unfolding own_past_item
    shows_yielded =
        shows_ready
        (ap (λ (y : Words). put_own (own_past_item (row_for i) i.spot (own_in y)) (turned yield y)) is_row
        ∙ (λ j. row RELEASED (i.goes_on j) σ 0 0 0 0 (i.opens_as gs ms j)))

    -- and after another one of those that join
    shows_next :
        (ds : List Do) → code_at p (start_of k) ≡ some k → length (kids Γ k) ≤ φ
        → left (drop (suc φ) (commands_of Γ.edition (kind_of k))) ≡ ds → (ds ≡ [] → ⊥)
        → Shows p Γ v (put_own (with_phase (suc φ) (own_in w)) w) σ (opens_behind gs ms k) (onward (goes Γ k) ds)
    unfolding onward with_phase
    shows_next [] at le h full = absurd (full refl)
    shows_next (d ∷ ds) at le h full =
        shows_joining k (suc φ) ms gs (ap (λ (y : Words). put_own (with_phase (suc φ) (own_in y)) y) is_row) at refl (omega arith) h refl opens

    -- by what is left
    module _ (at : code_at p (start_of k) ≡ some k) (le : length (kids Γ k) ≤ φ) where
      all_commands : length (commands_of Γ.edition (kind_of k)) ≡ length (row_for i).commands
      all_commands = ap (λ (l : List Command). length l) (commands_are i)

      shows_onward :
          (x : ℕ) {c : Command} (rest : List Command) {d : Do} (ds : List Do) → drop (suc φ) (commands_of Γ.edition (kind_of k)) ≡ rest
          → suc φ + length rest ≡ length (commands_of Γ.edition (kind_of k)) → Joining rest → Joins v σ (forced_by gs k) ms c d
          → left rest ≡ ds
          → Shows p Γ v (advancing (row_for i) i.spot c φ x w) σ (opens_behind gs ms k) (onward (goes Γ k) ds)
      unfolding joins moved_on
      shows_onward x [] ds from count j does h =
          rw (eq-eqb (suc φ) (length (row_for i).commands) (omega (arith, count, all_commands)), sym h) shows_last
      shows_onward x (c' ∷ rest) ds from count j does h =
          rw (ne_eqb (suc φ) (length (row_for i).commands) (λ q. omega (arith, q, count, all_commands)))
          (rw (joins_kept (weight table.makes (take φ (row_for i).commands)) x (own_in w) does)
          (shows_next ds at le (ap (λ (l : List Command). left l) from ∙ h)
          (λ q. joins_some v σ (forced_by gs k) ms c' rest j (h ∙ q))))

      shows_resumed :
          (x : ℕ) {c : Command} (rest : List Command) {d : Do} (ds : List Do) → drop (suc φ) (commands_of Γ.edition (kind_of k)) ≡ rest
          → suc φ + length rest ≡ length (commands_of Γ.edition (kind_of k)) → Joining (c ∷ rest) → Joins v σ (forced_by gs k) ms c d
          → left rest ≡ ds
          → Shows p Γ v (put_own (moved_on (row_for i) i.spot c φ x (own_in w)) (turned d w)) σ (opens_behind gs ms k)
          (resumed (goes Γ k) d ds)
      unfolding resumed moved_on Joining
      shows_resumed x rest ds from count j (joins_link a b) h = shows_onward x rest ds from count j (joins_link a b) h
      shows_resumed x rest ds from count j (joins_hand a) h = shows_onward x rest ds from count j (joins_hand a) h
      shows_resumed x rest ds from count j (joins_free a) h = shows_onward x rest ds from count j (joins_free a) h
      shows_resumed x [] ds from count j joins_yield h =
          rw (eq-eqb (suc φ) (length (row_for i).commands) (omega (arith, count, all_commands))) shows_yielded
      shows_resumed x (c' ∷ rest) ds from count j joins_yield h = not_nil (sym j)

-- k begins with a force of the future number n, which is open among gs; behind the item the same futures fs are
pub record ForcesOpen (gs fs : List (ℕ × Code)) (k : Code) (n : ℕ) : Type 0 where
  pub body : Code
  pub is_open : nth_open (bodies gs) n ≡ some body
  pub vertex_is : forced_by gs k ≡ vertex_at gs n
  pub still_open : gs ≡ fs

-- A row w whose vertex v does d next and then ds, and goes to the code `to`, where the futures fs are open: it has come to phase φ of the
-- first item of k, and the command there does d. If that command names a future, the item is a force of one that is open.
pub record Acting (p : Code) (Γ : Setting) (v σ : ℕ) (fs : List (ℕ × Code)) (w : Words) (d : Do) (ds : List Do) (to : Code) : Type 0 where
  pub k : Code
  pub φ : ℕ
  pub ms : List ℕ
  pub gs : List (ℕ × Code)
  pub item : ItemOf Γ k
  pub is_row : w ≡ item_row k σ φ ms (first_opened gs)
  pub stands : code_at p (start_of k) ≡ some k
  pub command : Command
  pub next_is : nth (row_for item).commands φ ≡ some command
  pub names : (plain_names command ≡ true) ⊎ ForcesOpen gs fs k item.number
  pub does : Joins v σ (forced_by gs k) ms command d
  pub shows : (x : ℕ) → Shows p Γ v (put_own (moved_on (row_for item) item.spot command φ x (own_in w)) (turned d w)) σ fs (resumed to d ds)

-- an end byte has no commands
left_item : (ed : Edition) (k : Code) (φ : ℕ) {c : Command} {rest : List Command} → drop φ (commands_of ed (kind_of k)) ≡ c ∷ rest → is_item k ≡ true
unfolding kind_of commands_of is_item
left_item ed (end_byte_at o) zero h = not_nil h
left_item ed (end_byte_at o) (suc φ) h = not_nil h
left_item ed (job_at o n r) φ h = refl
left_item ed (async_at o b r) φ h = refl
left_item ed (finish_at o b r) φ h = refl
left_item ed (fork_at o b c r) φ h = refl
left_item ed (future_at o b r) φ h = refl
left_item ed (force_at o n b r) φ h = refl

-- commands none of which names a force's future
unfoldable all_plain : List Command → Bool
all_plain [] = true
all_plain (c ∷ cs) = both (plain_names c) (all_plain cs)

plain_nth : (cs : List Command) (n : ℕ) {c : Command} → all_plain cs ≡ true → nth cs n ≡ some c → plain_names c ≡ true
unfolding all_plain nth
plain_nth [] n all h = absurd (none-ne-some _ h)
plain_nth (c ∷ cs) zero all h = let same = some-injective _ _ h in ap plain_names (sym same) ∙ both_left _ _ all
plain_nth (c ∷ cs) (suc n) all h = plain_nth cs n (both_right _ _ all) h

-- such are those of a fork, and of every item but a force
fork_plain : (ed : Edition) → all_plain (fork_row ed).commands ≡ true
unfolding fork_row all_plain plain_names plain both
fork_plain First = refl
fork_plain Second = refl

names_of :
    (Γ : Setting) (k : Code) (item : is_item k ≡ true) (gs fs : List (ℕ × Code)) (ms : List ℕ) (φ : ℕ) {c : Command}
    → nth (commands_of Γ.edition (kind_of k)) φ ≡ some c → Opens (bodies gs) k → opens_behind gs ms k ≡ fs
    → (plain_names c ≡ true) ⊎ ForcesOpen gs fs k (item_of Γ k item).number
unfolding kind_of commands_of row_of all_plain plain_names plain both Opens opens_behind forced_by item_of is_item
names_of Γ (end_byte_at o) item gs fs ms φ h opens q = inl (plain_nth [] φ refl h)
names_of Γ (job_at o n r) item gs fs ms φ h opens q = inl (plain_nth _ φ refl h)
names_of Γ (async_at o b r) item gs fs ms φ h opens q = inl (plain_nth _ φ refl h)
names_of Γ (finish_at o b r) item gs fs ms φ h opens q = inl (plain_nth _ φ refl h)
names_of Γ (fork_at o b c r) item gs fs ms φ h opens q = inl (plain_nth _ φ (fork_plain Γ.edition) h)
names_of Γ (future_at o b r) item gs fs ms φ h opens q = inl (plain_nth _ φ refl h)
names_of Γ (force_at o n b r) item gs fs ms φ h opens q =
    inr (record { body = b; is_open = opens.0; vertex_is = refl; still_open = q })

-- it is so of each row that shows a joining control
pub acting :
    {p : Code} {Γ : Setting} {v σ : ℕ} {fs : List (ℕ × Code)} {w : Words} {c : Code} {d : Do} {ds : List Do}
    → Shows p Γ v w σ fs (joining c d ds) → Acting p Γ v σ fs w d ds c
acting {p} {Γ} {v} {σ} {fs} {w} {c} {d} {ds} (shows_joining k φ ms gs is_row at to le left behind opens) =
    let f : ℕ = forced_by gs k in
    let cs : List Command = commands_of Γ.edition (kind_of k) in
    let order : Joining (drop φ cs) = joining_left Γ k φ v σ f ms le left in
    let n : Next v σ f ms (drop φ cs) d ds = next_of v σ f ms _ d ds order left in
    let is_an_item = left_item Γ.edition k φ n.list_is in
    let i : ItemOf Γ k = item_of Γ k is_an_item in
    let (at_φ, further, count) = next_left cs φ n.list_is in
    let after : ℕ → Words = λ x. put_own (moved_on (row_for i) i.spot n.command φ x (own_in w)) (turned d w) in
    let shown : (x : ℕ) → Shows p Γ v (after x) σ (opens_behind gs ms k) (resumed (goes Γ k) d ds) =
    λ x.
    shows_resumed p v σ w k φ ms gs i is_row opens at le x n.rest ds further count (subst Joining n.list_is order) n.does
    n.then_does
    in
    record {
      k = k;
      φ = φ;
      ms = ms;
      gs = gs;
      item = i;
      is_row = is_row;
      stands = at;
      command = n.command;
      next_is = ap (λ (l : List Command). nth l φ) (sym (commands_are i)) ∙ at_φ;
      names = names_of Γ k is_an_item gs fs ms φ at_φ opens behind;
      does = n.does;
      shows =
          λ x.
          subst (λ (z : Code). Shows p Γ v (after x) σ fs (resumed z d ds)) to
          (subst (λ (z : List (ℕ × Code)). Shows p Γ v (after x) σ z (resumed (goes Γ k) d ds)) behind (shown x));
    }

-- an item that has made ms next makes the vertex k
pub record Making (Γ : Setting) (c : Code) (ms : List ℕ) (k : Kid) : Type 0 where
  pub item : ItemOf Γ c
  pub spot_of : Spot
  pub next_is : nth (row_for item).commands (length ms) ≡ some (new_td spot_of k.name)
  pub plain_scope : plain k.name ≡ true
  pub spot_is : item.spot spot_of ≡ start_of k.code
  pub row_is :
      (σ l x : ℕ)
      → advancing (row_for item) item.spot (new_td spot_of k.name) (length ms) x (busy_row c σ ms l) ≡ busy_row c σ (ms ++ (x ∷ [])) l

-- this one is the last: the row shows what the item does behind its split
abbrev pub Splitting : Setting → Code → List ℕ → Type 0
Splitting Γ c ms =
    (p : Code) (v σ x : ℕ) (gs : List (ℕ × Code)) (w : Words) → w ≡ busy_row c σ (ms ++ (x ∷ [])) (first_opened gs)
    → code_at p (start_of c) ≡ some c → Opens (bodies gs) c
    → Shows p Γ v w σ (opens_behind gs (ms ++ (x ∷ [])) c) (onward (goes Γ c) (todo Γ.edition v σ (forced_by gs c) (ms ++ (x ∷ [])) c))

-- what an item does that has made ms and is not split
pub data Busy (Γ : Setting) : Code → List ℕ → Type 0 where
  at_end : (o : ℕ) → Busy Γ (end_byte_at o) []
  at_job : (o n : ℕ) (r : Code) → Busy Γ (job_at o n r) []
  making :
      {c : Code} {ms : List ℕ} (k next : Kid) (more : List Kid) → drop (length ms) (kids Γ c) ≡ k ∷ (next ∷ more) → Making Γ c ms k
      → Busy Γ c ms
  splitting :
      {c : Code} {ms : List ℕ} (k : Kid) → drop (length ms) (kids Γ c) ≡ k ∷ [] → Making Γ c ms k → Splitting Γ c ms → Busy Γ c ms

-- the items' vertices
async_makes : (Γ : Setting) (o : ℕ) (b r : Code) → Making Γ (async_at o b r) [] (kid b own_scope)
unfolding nth weight table.makes item_of moved_on with_phase with_kept with_made plain
async_makes Γ o b r =
    record {
      item = item_of Γ (async_at o b r) refl;
      spot_of = first_body;
      next_is = refl;
      plain_scope = refl;
      spot_is = refl;
      row_is = λ σ l x. refl;
    }

finish_makes_1 : (Γ : Setting) (o : ℕ) (b r : Code) → Making Γ (finish_at o b r) [] (kid r own_scope)
unfolding nth weight table.makes item_of moved_on with_phase with_kept with_made plain
finish_makes_1 Γ o b r =
    record {
      item = item_of Γ (finish_at o b r) refl;
      spot_of = past_item;
      next_is = refl;
      plain_scope = refl;
      spot_is = refl;
      row_is = λ σ l x. refl;
    }

finish_makes_2 : (Γ : Setting) (o : ℕ) (b r : Code) (m : ℕ) → Making Γ (finish_at o b r) (m ∷ []) (kid b made_1)
unfolding nth weight table.makes item_of moved_on with_phase with_kept with_made plain
finish_makes_2 Γ o b r m =
    record {
      item = item_of Γ (finish_at o b r) refl;
      spot_of = first_body;
      next_is = refl;
      plain_scope = refl;
      spot_is = refl;
      row_is = λ σ l x. refl;
    }

-- a fork's, by its edition
abbrev in_edition : Edition → ℕ → Setting
in_edition ed L = record { edition = ed; last_byte = L }

fork_makes_1 : (ed : Edition) (L o : ℕ) (b c r : Code) → Making (in_edition ed L) (fork_at o b c r) [] (kid b own_scope)
unfolding nth weight table.makes item_of moved_on with_phase with_kept with_made plain fork_row
fork_makes_1 First L o b c r =
    record {
      item = item_of (in_edition First L) (fork_at o b c r) refl;
      spot_of = first_body;
      next_is = refl;
      plain_scope = refl;
      spot_is = refl;
      row_is = λ σ l x. refl;
    }
fork_makes_1 Second L o b c r =
    record {
      item = item_of (in_edition Second L) (fork_at o b c r) refl;
      spot_of = first_body;
      next_is = refl;
      plain_scope = refl;
      spot_is = refl;
      row_is = λ σ l x. refl;
    }

fork_makes_2 : (ed : Edition) (L o : ℕ) (b c r : Code) (m : ℕ) → Making (in_edition ed L) (fork_at o b c r) (m ∷ []) (kid c own_scope)
unfolding nth weight table.makes item_of moved_on with_phase with_kept with_made plain fork_row
fork_makes_2 First L o b c r m =
    record {
      item = item_of (in_edition First L) (fork_at o b c r) refl;
      spot_of = second_body;
      next_is = refl;
      plain_scope = refl;
      spot_is = refl;
      row_is = λ σ l x. refl;
    }
fork_makes_2 Second L o b c r m =
    record {
      item = item_of (in_edition Second L) (fork_at o b c r) refl;
      spot_of = second_body;
      next_is = refl;
      plain_scope = refl;
      spot_is = refl;
      row_is = λ σ l x. refl;
    }

fork_makes_3 : (L o : ℕ) (b c r : Code) (m m' : ℕ) → Making (in_edition First L) (fork_at o b c r) (m ∷ (m' ∷ [])) (kid r own_scope)
unfolding nth weight table.makes item_of moved_on with_phase with_kept with_made plain fork_row
fork_makes_3 L o b c r m m' =
    record {
      item = item_of (in_edition First L) (fork_at o b c r) refl;
      spot_of = past_item;
      next_is = refl;
      plain_scope = refl;
      spot_is = refl;
      row_is = λ σ l x. refl;
    }

future_makes_1 : (Γ : Setting) (o : ℕ) (b r : Code) → Making Γ (future_at o b r) [] (awaiting Γ.last_byte r)
unfolding nth weight table.makes item_of moved_on with_phase with_kept with_made plain start_of
future_makes_1 Γ o b r =
    record {
      item = item_of Γ (future_at o b r) refl;
      spot_of = last_byte;
      next_is = refl;
      plain_scope = refl;
      spot_is = refl;
      row_is = λ σ l x. refl;
    }

future_makes_2 : (Γ : Setting) (o : ℕ) (b r : Code) (m : ℕ) → Making Γ (future_at o b r) (m ∷ []) (kid b made_1)
unfolding nth weight table.makes item_of moved_on with_phase with_kept with_made plain
future_makes_2 Γ o b r m =
    record {
      item = item_of Γ (future_at o b r) refl;
      spot_of = first_body;
      next_is = refl;
      plain_scope = refl;
      spot_is = refl;
      row_is = λ σ l x. refl;
    }

force_makes : (Γ : Setting) (o n : ℕ) (b r : Code) → Making Γ (force_at o n b r) [] (kid r own_scope)
unfolding nth weight table.makes item_of moved_on with_phase with_kept with_made plain
force_makes Γ o n b r =
    record {
      item = item_of Γ (force_at o n b r) refl;
      spot_of = past_item;
      next_is = refl;
      plain_scope = refl;
      spot_is = refl;
      row_is = λ σ l x. refl;
    }

-- and what is behind each split
async_splits : (Γ : Setting) (o : ℕ) (b r : Code) → Splitting Γ (async_at o b r) []
unfolding kids kind_of row_of commands_of joins todo onward
async_splits Γ o b r p v σ x gs w q at opens = shows_joining (async_at o b r) 1 (x ∷ []) gs q at refl (omega arith) refl refl opens

finish_splits : (Γ : Setting) (o : ℕ) (b r : Code) (m : ℕ) → Splitting Γ (finish_at o b r) (m ∷ [])
unfolding kids kind_of row_of commands_of joins todo onward
finish_splits Γ o b r m p v σ x gs w q at opens =
    shows_joining (finish_at o b r) 2 (m ∷ (x ∷ [])) gs q at refl (omega arith) refl refl opens

fork_splits : (L o : ℕ) (b c r : Code) (m m' : ℕ) → Splitting (in_edition First L) (fork_at o b c r) (m ∷ (m' ∷ []))
unfolding kids fork_kids kind_of row_of fork_row commands_of joins todo onward
fork_splits L o b c r m m' p v σ x gs w q at opens =
    shows_joining (fork_at o b c r) 3 (m ∷ (m' ∷ (x ∷ []))) gs q at refl (omega arith) refl refl opens

fork_yields : (L o : ℕ) (b c r : Code) (m : ℕ) → Splitting (in_edition Second L) (fork_at o b c r) (m ∷ [])
unfolding kids fork_kids kind_of row_of fork_row commands_of joins todo onward
fork_yields L o b c r m p v σ x gs w q at opens =
    shows_joining (fork_at o b c r) 2 (m ∷ (x ∷ [])) gs q at refl (omega arith) refl refl opens

future_splits : (Γ : Setting) (o : ℕ) (b r : Code) (m : ℕ) → Splitting Γ (future_at o b r) (m ∷ [])
unfolding kids kind_of row_of commands_of joins todo onward
future_splits Γ o b r m p v σ x gs w q at opens =
    shows_joining (future_at o b r) 2 (m ∷ (x ∷ [])) gs q at refl (omega arith) refl refl opens

force_splits : (Γ : Setting) (o n : ℕ) (b r : Code) → Splitting Γ (force_at o n b r) []
unfolding kids kind_of row_of commands_of joins todo onward
force_splits Γ o n b r p v σ x gs w q at opens = shows_joining (force_at o n b r) 1 (x ∷ []) gs q at refl (omega arith) refl refl opens

-- a fork, by the edition and by how many are made
fork_cases :
    (ed : Edition) (L o : ℕ) (b c r : Code) (ms : List ℕ) → MoreToMake (in_edition ed L) (fork_at o b c r) ms
    → Busy (in_edition ed L) (fork_at o b c r) ms
unfolding MoreToMake kids fork_kids
fork_cases First L o b c r [] h = making _ _ (kid r own_scope ∷ []) refl (fork_makes_1 First L o b c r)
fork_cases First L o b c r (m ∷ []) h = making _ _ [] refl (fork_makes_2 First L o b c r m)
fork_cases First L o b c r (m ∷ (m' ∷ [])) h = splitting _ refl (fork_makes_3 L o b c r m m') (fork_splits L o b c r m m')
fork_cases First L o b c r (m ∷ (m' ∷ (m'' ∷ ms))) h = absurd (omega arith)
fork_cases Second L o b c r [] h = making _ _ [] refl (fork_makes_1 Second L o b c r)
fork_cases Second L o b c r (m ∷ []) h = splitting _ refl (fork_makes_2 Second L o b c r m) (fork_yields L o b c r m)
fork_cases Second L o b c r (m ∷ (m' ∷ ms)) h = absurd (omega arith)

-- any item, by how many are made
pub busy_cases : (Γ : Setting) (c : Code) (ms : List ℕ) → MoreToMake Γ c ms → Busy Γ c ms
unfolding MoreToMake kids
busy_cases Γ (end_byte_at o) [] h = at_end o
busy_cases Γ (end_byte_at o) (m ∷ ms) h = absurd (omega arith)
busy_cases Γ (job_at o n r) [] h = at_job o n r
busy_cases Γ (job_at o n r) (m ∷ ms) h = absurd (omega arith)
busy_cases Γ (async_at o b r) [] h = splitting _ refl (async_makes Γ o b r) (async_splits Γ o b r)
busy_cases Γ (async_at o b r) (m ∷ ms) h = absurd (omega arith)
busy_cases Γ (finish_at o b r) [] h = making _ _ [] refl (finish_makes_1 Γ o b r)
busy_cases Γ (finish_at o b r) (m ∷ []) h = splitting _ refl (finish_makes_2 Γ o b r m) (finish_splits Γ o b r m)
busy_cases Γ (finish_at o b r) (m ∷ (m' ∷ ms)) h = absurd (omega arith)
busy_cases Γ (fork_at o b c r) ms h = fork_cases Γ.edition Γ.last_byte o b c r ms h
busy_cases Γ (future_at o b r) [] h = making _ _ [] refl (future_makes_1 Γ o b r)
busy_cases Γ (future_at o b r) (m ∷ []) h = splitting _ refl (future_makes_2 Γ o b r m) (future_splits Γ o b r m)
busy_cases Γ (future_at o b r) (m ∷ (m' ∷ ms)) h = absurd (omega arith)
busy_cases Γ (force_at o n b r) [] h = splitting _ refl (force_makes Γ o n b r) (force_splits Γ o n b r)
busy_cases Γ (force_at o n b r) (m ∷ ms) h = absurd (omega arith)

-- a job's one command
pub job_next : (Γ : Setting) (o n : ℕ) (r : Code) → nth (row_for (job_item Γ o n r)).commands 0 ≡ some perform
unfolding job_item nth
job_next Γ o n r = refl

pub job_row :
    (Γ : Setting) (o n : ℕ) (r : Code) (σ l x : ℕ)
    → advancing (row_for (job_item Γ o n r)) (job_item Γ o n r).spot perform 0 x (busy_row (job_at o n r) σ [] l) ≡ busy_row r σ [] l
unfolding job_item moved_on own_past_item
job_row Γ o n r σ l x = refl
