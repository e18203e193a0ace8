use Rattle.std.proofs.Common.{rules, arith}
use Rattle.tokens.proofs.Names.{names_all}
use Rattle.tokens.proofs.name.Name.new.Goals as goal

pub invariant_of-result : goal.invariant_of-result
invariant_of-result c = record { spelled = names_all c.in_ok-bytes.bytes c.args.bytes.now (omega arith) (search rules) (search rules) (search rules) }
