use Rattle.std.proofs.Common.{rules}
use Rattle.bounded.specs.Items.{items}
use Rattle.vocabulary.proofs.Calls.{numbers}
use Rattle.vocabulary.proofs.vocabulary.Vocabulary.number.Goals as goal

pub invariant_of-self : goal.invariant_of-self
invariant_of-self c = record { consistent = (numbers c.args.self.now (items c.push.new.self) c.args.name.now _ c.push.ensures.items (search rules)).0 }

pub returns-clause-keeps : goal.returns-clause-keeps
returns-clause-keeps c = (numbers c.args.self.now (items c.push.new.self) c.args.name.now _ c.push.ensures.items (search rules)).1
