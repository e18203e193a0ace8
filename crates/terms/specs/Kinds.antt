-- What a code stands for.
use Rattle.std.specs.Prelude.{ℕ, ◌-◌, cond, nat_lt}
use Rattle.terms.specs.declared.code.Code.{Code}
use Rattle.terms.specs.declared.code.Code.TheVariants.{Symbol, Variable}

-- below 32,768 a symbol's number, from there on a variable's
abbrev pub code_kind : ℕ → Code
code_kind c = cond (nat_lt c 32768) (Symbol c) (Variable (c - 32768))
