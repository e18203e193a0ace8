use Rattle.std.proofs.Common.{[], eqb, get_or, ◌∙◌, arith}
use Rattle.parts.specs.MakingLemmas.{each_argument}
use Rattle.parts.proofs.linear.LinearPart.all_ones.Goals as goal

pub returns : goal.returns
returns c = c.all_symbols.ensures ∙ each_argument c.args.self.now.signature c.args.self.now.symbols record { constant = 0; factors = [] } (λ symbol k. eqb (get_or symbol.factors k 0) 1) (omega arith)
