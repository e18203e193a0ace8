use Rattle.std.proofs.Common.{◌≡◌, ◌<◌, length, map, take, ◌∙◌, arith}
use Rattle.std.proofs.lemmas.List.{length-set, length-take}
use Rattle.jobs.specs.Asking.{asked}
use Rattle.jobs.specs.Fulls.{state_in}
use Rattle.jobs.proofs.Replaying.{one_more, behind_it, all_done}
use Rattle.jobs.proofs.Lawful.{run_lawful}
use Rattle.jobs.proofs.full.Full.replay.Goals as goal

pub loop-at-preserved : goal.loop-at-preserved
loop-at-preserved c =
    let room : c.loop-at.at < length c.loop-at.answers = omega (arith, c.loop-at-test.true, c.loop-at.auto.answers, c.min-count.ensures, length-take c.min-count.result c.args.calls.now) in (
      one_more (state_in c.args.self.now) c.args.memory.now (take c.min-count.result c.args.calls.now) c.loop-at.at _ c.loop-at.answers c.loop-at.memory (state_in c.loop-at.self) c.perform.result c.perform.new.memory (state_in c.perform.new.self)
          c.loop-at-test.true room c.loop-at.invariant.0 c.perform.ensures.value,
      behind_it c.loop-at.at c.loop-at.answers c.args.answers.now c.perform.result c.loop-at.invariant.1,
      length-set c.loop-at.answers c.loop-at.at c.perform.result ∙ c.loop-at.invariant.2,
    )

pub returns-clause-law : goal.returns-clause-law
returns-clause-law c =
    let calls = take c.min-count.result c.args.calls.now in
    let all : length calls ≡ c.min-count.result = omega (arith, c.min-count.ensures, length-take c.min-count.result c.args.calls.now) in
    let end : c.loop-at.at ≡ c.min-count.result = omega (arith, c.loop-at-test.false, c.loop-at.auto.at-end, all) in
    run_lawful c.args.self.now.job c.args.self.now.lasts c.args.memory.now (map asked calls) _
    (all_done (state_in c.args.self.now) c.args.memory.now calls c.loop-at.at c.min-count.result c.loop-at.answers c.loop-at.memory (state_in c.loop-at.self) end all c.loop-at.invariant.0)
