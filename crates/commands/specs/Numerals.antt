-- Numbers in decimal, of digits alone.
use Rattle.std.specs.Prelude.{◌≡◌, ℕ, ◌+◌, ◌-◌, ◌*◌, ◌^◌, ◌<◌, Bool, true, cond, ◌&&◌, nat_lt, List, [], ◌∷◌, length, Some, None, Option}
use Rattle.std.specs.Char.{is_ascii_digit}
use Rattle.std.specs.List.{list_all}
use Rattle.commands.specs.Words.{Word}

-- the number that digits give behind the digits of n
abbrev pub value_behind : ℕ → List ℕ → ℕ
value_behind n [] = n
value_behind n (c ∷ cs) = value_behind (n * 10 + (c - 48)) cs

abbrev pub value : List ℕ → ℕ
value cs = value_behind 0 cs

abbrev pub numeric : Word → Bool
numeric w = nat_lt 0 (length w) && list_all is_ascii_digit w

-- the number that a word is, if it is one below 2 to the width
unfoldable pub numeral : ℕ → Word → Option ℕ
numeral width w = cond (numeric w && nat_lt (value w) (2 ^ width)) (Some (value w)) None

-- a word says n in that width: digits, at least one, of which n is the value
pub record Numeral (width : ℕ) (w : Word) (n : ℕ) : Type 0 where
  pub some : 0 < length w
  pub digits : list_all is_ascii_digit w ≡ true
  pub says : value w ≡ n
  pub fits : n < 2 ^ width
