use Rattle.std.proofs.Common.{ltb, get_or, min}
use Rattle.interpretations.specs.Numbers.{every}
use Rattle.parts.proofs.linear.LinearPart.new.Given as goal

abbrev pub ghost-all_symbols : goal.ghost-all_symbols
ghost-all_symbols a = λ symbol arity. every (min arity 4) (λ k. ltb 0 (get_or symbol.factors k 0))
