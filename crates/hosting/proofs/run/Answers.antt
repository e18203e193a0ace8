use Rattle.std.proofs.Common.{rules}
use Rattle.hosting.proofs.Ending.{sweep_ends}
use Rattle.hosting.proofs.run.Goals as goal

pub returns-clause-told : goal.returns-clause-told
returns-clause-told g c =
    sweep_ends (g.A.Algebra.means c.args.pile.now) c.args.system c.args.codes.now c.args.grant.now _ c.in_ok-job.job c.sweep.new.self c.in_ok-sweep.sweep (search rules) (search rules)
