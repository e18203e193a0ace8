use Rattle.std.proofs.Common.{rules}
use Rattle.bounded.specs.Items.{items}
use Rattle.vocabulary.proofs.Calls.{is_none, declares}
use Rattle.vocabulary.proofs.vocabulary.Vocabulary.declare.Goals as goal

pub invariant_of-self : goal.invariant_of-self
invariant_of-self c = record { consistent = (declares c.args.self.now (items c.push.new.self) c.args.name.now (search rules) (is_none _ (search rules))).0 }

pub returns-clause-keeps : goal.returns-clause-keeps
returns-clause-keeps c = (declares c.args.self.now (items c.push.new.self) c.args.name.now (search rules) (is_none _ (search rules))).1
