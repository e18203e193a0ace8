-- What a slot for a grant holds.
use Rattle.std.specs.Prelude.{ℕ, Option, Some, None}
use Rattle.pools.specs.declared.grant.Grant.{Grant}
use Rattle.pools.specs.Grants.{amount_of}

-- the steps of its grant; none, if it is empty
abbrev pub amount_in : Option Grant → ℕ
amount_in (Some g) = amount_of g
amount_in None = 0
