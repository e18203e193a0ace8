use Rattle.std.proofs.Common.{rules, arith}
use Rattle.std.proofs.lemmas.Grind.{common_steps}
use Rattle.std.proofs.lemmas.Option.{gets}
use Rattle.bounded.specs.Items.{items}
use Rattle.vocabulary.proofs.Calls.{settles, settles_as}
use Rattle.vocabulary.proofs.vocabulary.Vocabulary.settle.Goals as goal

pub invariant_of-self : goal.invariant_of-self
invariant_of-self c = record { consistent = (settles c.args.self.now (items c.set.new.self) c.args.symbol c.args.count c.in_ok-known.known (grind (arith, common_steps, gets)) (search rules) (search rules) (omega arith)).0 }

pub returns-clause-after : goal.returns-clause-after
returns-clause-after c = settles_as c.args.self.now (items c.set.new.self) c.args.symbol c.args.count c.in_ok-known.known (grind (arith, common_steps, gets)) (search rules) (search rules) (omega arith)

pub returns-clause-keeps : goal.returns-clause-keeps
returns-clause-keeps c = (settles c.args.self.now (items c.set.new.self) c.args.symbol c.args.count c.in_ok-known.known (grind (arith, common_steps, gets)) (search rules) (search rules) (omega arith)).1
