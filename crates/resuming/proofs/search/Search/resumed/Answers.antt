use Rattle.std.proofs.Common.{arith, rules, ap, length}
use Rattle.resuming.proofs.Passing.{resumes}
use Rattle.resuming.proofs.search.Search.resumed.Goals as goal

pub returns : goal.returns
returns c =
    resumes c.args.self.now.subject c.in-Some.levels (search rules) c.args.place c.args.self.now.from c.min.result c.back_up.result c.min-2.result c.args.self.now.passed (λ h. (let e = ap length c.codes-codes.ensures in omega (arith, c.min.ensures))) (search rules) (omega (arith, c.min-2.ensures)) (omega (arith, c.min-2.ensures))
