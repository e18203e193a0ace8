-- The limits of what is handed in or held. Derivations and laws are over terms of any size.
use Rattle.std.specs.Prelude.{ℕ}

abbrev pub most_symbols : ℕ
most_symbols = 32

abbrev pub most_arguments : ℕ
most_arguments = 4

-- variables are numbered from 0, below this
abbrev pub variables : ℕ
variables = 8

abbrev pub most_rules : ℕ
most_rules = 32

-- codes of a rule's side
abbrev pub most_side : ℕ
most_side = 32

-- codes of a term
abbrev pub most_term : ℕ
most_term = 1024
