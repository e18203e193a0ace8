use Rattle.std.proofs.Common.{rules}
use Rattle.commands.proofs.Exactly.{exactly}
use Rattle.commands.proofs.reading.read_command.Goals as goal

pub returns-in_err-verb-clause-means : goal.returns-in_err-verb-clause-means
returns-in_err-verb-clause-means c = exactly c.args.line.now _ (search rules)

pub returns-in_err-command-clause-means : goal.returns-in_err-command-clause-means
returns-in_err-command-clause-means c = exactly c.args.line.now _ (search rules)

pub returns-in-None-clause-means : goal.returns-in-None-clause-means
returns-in-None-clause-means c = exactly c.args.line.now _ (search rules)

pub returns-in-Some-clause-means : goal.returns-in-Some-clause-means
returns-in-Some-clause-means c = exactly c.args.line.now _ (search rules)
