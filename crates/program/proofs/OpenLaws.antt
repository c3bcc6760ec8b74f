-- Each force in code has the body of the future that it names: "0 for the nearest future open there".
--
--     nth_open        the body that a number names, where these are the bodies of the open futures, nearest first
--     Opens env c    each force in c has the body that it names in env
--     opens_locate   Opens env (locate env o b), where HasFutures (length env) b
use Prim.Native.Nat.{ℕ, zero, suc, ◌<◌}
use mathlib.Core.Path.{◌≡◌, refl}
use mathlib.Core.List.{List, [], ◌∷◌}
use mathlib.Core.Option.{Option, none, some}
use native.Mathlib.Omega.{arith}
use lib.ListN.{length}
use Rattle.program.specs.Trees.{Body, end, job, async, finish, fork, future, force, HasFutures}
use Rattle.program.specs.Located.{Code, end_byte_at, job_at, async_at, finish_at, fork_at, future_at, force_at, open_at, locate}

-- the body of an open future, by its number
unfoldable pub nth_open : List Code → ℕ → Option Code
nth_open [] n = none
nth_open (b ∷ env) zero = some b
nth_open (b ∷ env) (suc n) = nth_open env n

-- each force of the code has the body of the future that it names, where these are the bodies of the open futures, nearest first
unfoldable pub Opens : List Code → Code → Type 0
Opens env (end_byte_at o) = Unit {0}
Opens env (job_at o n r) = Opens env r
Opens env (async_at o b r) = Opens env b × Opens env r
Opens env (finish_at o b r) = Opens env b × Opens env r
Opens env (fork_at o b c r) = Opens env b × (Opens env c × Opens env r)
Opens env (future_at o b r) = Opens env b × Opens (b ∷ env) r
Opens env (force_at o n b r) = (nth_open env n ≡ some b) × Opens env r

-- a number below that of the open futures names one
open_there : (env : List Code) (n o : ℕ) → n < length env → nth_open env n ≡ some (open_at env n o)
unfolding nth_open open_at
open_there [] n o lt = absurd (omega arith)
open_there (b ∷ env) zero o lt = refl
open_there (b ∷ env) (suc n) o lt = open_there env n o (omega arith)

-- so each force of a tree that is laid out has the body of its future, where there is one for each
pub opens_locate : (env : List Code) (o : ℕ) (b : Body) → HasFutures (length env) b → Opens env (locate env o b)
unfolding Opens locate HasFutures
opens_locate env o end h = tt
opens_locate env o (job n r) h = opens_locate env _ r h
opens_locate env o (async b r) h = (opens_locate env _ b h.0, opens_locate env _ r h.1)
opens_locate env o (finish b r) h = (opens_locate env _ b h.0, opens_locate env _ r h.1)
opens_locate env o (fork b c r) h =
    (opens_locate env _ b h.0, (opens_locate env _ c h.1.0, opens_locate env _ r h.1.1))
opens_locate env o (future b r) h = (opens_locate env _ b h.0, opens_locate (locate env (suc o) b ∷ env) _ r h.1)
opens_locate env o (force n r) h = (open_there env n o h.0, opens_locate env _ r h.1)
