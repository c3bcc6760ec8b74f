-- "A program is one body; a body is items and an item may hold bodies."
use Rattle.std.specs.Prelude.{ℕ, suc, ◌+◌, ◌<◌, max}

-- the kinds of items
pub data Kind : Type 0 where
  jobs : Kind
  asyncs : Kind
  finishes : Kind
  forks : Kind
  futures : Kind
  forces : Kind

-- A body: at its end, or its first item and the rest of it. A job has its number, a force that of the future that it forces, the others have
-- the bodies that they hold.
pub data Body : Type 0 where
  end : Body
  job : ℕ → Body → Body
  async : Body → Body → Body
  finish : Body → Body → Body
  fork : Body → Body → Body → Body
  future : Body → Body → Body
  force : ℕ → Body → Body

-- an item by itself
pub data Item : Type 0 where
  a_job : ℕ → Item
  an_async : Body → Item
  a_finish : Body → Item
  a_fork : Body → Body → Item
  a_future : Body → Item
  a_force : ℕ → Item

-- the body that begins with this item
unfoldable pub with_first : Item → Body → Body
with_first (a_job n) r = job n r
with_first (an_async b) r = async b r
with_first (a_finish b) r = finish b r
with_first (a_fork b c) r = fork b c r
with_first (a_future b) r = future b r
with_first (a_force n) r = force n r

-- "The main body is level 1. A body inside a body counts one level deeper": how many levels a body has, its own counted
unfoldable pub depth : Body → ℕ
depth end = 1
depth (job n r) = depth r
depth (async b r) = max (suc (depth b)) (depth r)
depth (finish b r) = max (suc (depth b)) (depth r)
depth (fork b c r) = max (max (suc (depth b)) (suc (depth c))) (depth r)
depth (future b r) = max (suc (depth b)) (depth r)
depth (force n r) = depth r

-- the largest number in it, of a job or a force, 0 where there is none
unfoldable pub largest : Body → ℕ
largest end = 0
largest (job n r) = max n (largest r)
largest (async b r) = max (largest b) (largest r)
largest (finish b r) = max (largest b) (largest r)
largest (fork b c r) = max (max (largest b) (largest c)) (largest r)
largest (future b r) = max (largest b) (largest r)
largest (force n r) = max n (largest r)

-- how many futures are open behind an item, where so many are before it: "A future is open after its item"
unfoldable pub open_behind : Item → ℕ → ℕ
open_behind (a_job n) opened = opened
open_behind (an_async b) opened = opened
open_behind (a_finish b) opened = opened
open_behind (a_fork b c) opened = opened
open_behind (a_future b) opened = suc opened
open_behind (a_force n) opened = opened

-- Each force has its future, in a body where so many futures are open at the start. "A future is open after its item, to the end of its body
-- and in bodies inside later items." "0 for the nearest future open there".
unfoldable pub HasFutures : ℕ → Body → Type 0
HasFutures opened end = Unit {0}
HasFutures opened (job n r) = HasFutures opened r
HasFutures opened (async b r) = HasFutures opened b × HasFutures opened r
HasFutures opened (finish b r) = HasFutures opened b × HasFutures opened r
HasFutures opened (fork b c r) = HasFutures opened b × (HasFutures opened c × HasFutures opened r)
HasFutures opened (future b r) = HasFutures opened b × HasFutures (suc opened) r
HasFutures opened (force n r) = (n < opened) × HasFutures opened r

-- the sum over all items of a program of what an item of its kind weighs
unfoldable pub total : (Kind → ℕ) → Body → ℕ
total g end = 0
total g (job n r) = g jobs + total g r
total g (async b r) = g asyncs + (total g b + total g r)
total g (finish b r) = g finishes + (total g b + total g r)
total g (fork b c r) = g forks + (total g b + (total g c + total g r))
total g (future b r) = g futures + (total g b + total g r)
total g (force n r) = g forces + total g r

-- 1 for a kind itself and 0 for the others
unfoldable pub same : Kind → Kind → ℕ
same jobs jobs = 1
same jobs asyncs = 0
same jobs finishes = 0
same jobs forks = 0
same jobs futures = 0
same jobs forces = 0
same asyncs jobs = 0
same asyncs asyncs = 1
same asyncs finishes = 0
same asyncs forks = 0
same asyncs futures = 0
same asyncs forces = 0
same finishes jobs = 0
same finishes asyncs = 0
same finishes finishes = 1
same finishes forks = 0
same finishes futures = 0
same finishes forces = 0
same forks jobs = 0
same forks asyncs = 0
same forks finishes = 0
same forks forks = 1
same forks futures = 0
same forks forces = 0
same futures jobs = 0
same futures asyncs = 0
same futures finishes = 0
same futures forks = 0
same futures futures = 1
same futures forces = 0
same forces jobs = 0
same forces asyncs = 0
same forces finishes = 0
same forces forks = 0
same forces futures = 0
same forces forces = 1

-- "The letters w, a, f and k count items in the bytes."
pub record Counts : Type 0 where
  pub w : ℕ
  pub a : ℕ
  pub f : ℕ
  pub k : ℕ
  -- futures and forces (note 5)
  pub u : ℕ
  pub x : ℕ

unfoldable pub counts : Body → Counts
counts b =
    record {
      w = total (same jobs) b;
      a = total (same asyncs) b;
      f = total (same finishes) b;
      k = total (same forks) b;
      u = total (same futures) b;
      x = total (same forces) b;
    }
