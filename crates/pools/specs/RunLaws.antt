-- The law over runs: what holds of every list of calls, refused ones among them.
use Rattle.std.specs.Prelude.{◌≡◌, ℕ, ◌+◌, Bool, not, List, ◌∷◌, ◌++◌, map, length, take, Some, None, Option, slice_get, filter, Contains}
use Rattle.std.specs.List.{filter_map, list_any, zip}
use Rattle.std.specs.List.Sorted.{IsStrictlyIncreasing}
use Rattle.pools.specs.declared.grant.Grant.{Grant}
use Rattle.pools.specs.declared.ledger.PoolCall.{PoolCall}
use Rattle.pools.specs.declared.ledger.PoolCall.TheVariants.{Reserve, Settle}
use Rattle.pools.specs.declared.ledger.PoolReply.{PoolReply}
use Rattle.pools.specs.declared.ledger.PoolReply.TheVariants.{Given, Settled, NotOut, Refused}
use Rattle.pools.specs.Grants.{number_of, total, has_number}
use Rattle.pools.specs.Runs.{Ledger, after}

-- a call with its answer
abbrev pub Turn : Type 0
Turn = PoolCall × PoolReply

-- the grant that a turn gave
abbrev pub grant_given : Turn → Option Grant
grant_given (Reserve amount, Given n) = Some (record { number = n; amount = amount })
grant_given (Reserve amount, Settled) = None
grant_given (Reserve amount, NotOut) = None
grant_given (Reserve amount, Refused fault) = None
grant_given (Settle n, r) = None

-- the number of the grant that a turn settled
abbrev pub number_settled : Turn → Option ℕ
number_settled (Settle n, Settled) = Some n
number_settled (Settle n, Given m) = None
number_settled (Settle n, NotOut) = None
number_settled (Settle n, Refused fault) = None
number_settled (Reserve amount, r) = None

-- whether turns settled a grant
abbrev pub is_settled : List Turn → Grant → Bool
is_settled turns g = list_any (λ n. has_number n g) (filter_map number_settled turns)

-- the grants given, those before the turns and those by them, that the turns have not settled
abbrev pub unsettled : List Grant → List Turn → List Grant
unsettled before turns = filter (λ g. not (is_settled turns g)) (before ++ filter_map grant_given turns)

abbrev pub numbers : List Grant → List ℕ
numbers = map number_of

-- calls that begin at one ledger, with their answers, and the ledger that they lead to
pub record Lawful (l : Ledger) (calls : List PoolCall) (answers : List PoolReply) (m : Ledger) : Type 0 where
  pub answered : length answers ≡ length calls
  -- the size less what is free is the sum of the amounts of the grants given and not yet settled
  pub balanced : m.pool.free + total (unsettled l.out (zip calls answers)) ≡ m.pool.size
  -- so it is after any number of the calls
  pub throughout : (k : ℕ) → (after l (take k calls)).pool.free + total (unsettled l.out (take k (zip calls answers))) ≡ l.pool.size
  -- a grant that is not yet settled is settled whenever that is asked
  pub settled : (k n : ℕ) → slice_get calls k ≡ Some (Settle n) → Contains (numbers (unsettled l.out (take k (zip calls answers)))) n → slice_get answers k ≡ Some Settled
  -- each grant has a number above all that were given before
  pub increasing : IsStrictlyIncreasing (l.pool.last ∷ numbers (filter_map grant_given (zip calls answers)))
  -- the pool has its size
  pub size : m.pool.size ≡ l.pool.size
