-- Grants, by number and amount.
use Rattle.std.specs.Prelude.{ℕ, Bool, not, List, ◌==◌, sum_by, filter}
use Rattle.pools.specs.declared.grant.Grant.{Grant}

abbrev pub number_of : Grant → ℕ
number_of g = g.number

abbrev pub amount_of : Grant → ℕ
amount_of g = g.amount

-- how many steps they hold together
abbrev pub total : List Grant → ℕ
total gs = sum_by amount_of gs

-- whether a grant has this number
abbrev pub has_number : ℕ → Grant → Bool
has_number n g = number_of g == n

-- those of other numbers
abbrev pub others : ℕ → List Grant → List Grant
others n gs = filter (λ g. not (has_number n g)) gs
