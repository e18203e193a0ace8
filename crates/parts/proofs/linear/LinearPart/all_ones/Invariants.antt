use Rattle.std.proofs.Common.{eqb, get_or, min}
use Rattle.interpretations.specs.Numbers.{every}
use Rattle.parts.proofs.linear.LinearPart.all_ones.Given as goal

abbrev pub ghost-all_symbols : goal.ghost-all_symbols
ghost-all_symbols a = λ symbol arity. every (min arity 4) (λ k. eqb (get_or symbol.factors k 0) 1)
