use Rattle.std.proofs.Common.{◌≡◌, Ok, Err, Result}
use Rattle.std.specs.Result.{IfOk}
use Rattle.vocabulary.specs.Naming.{naming_of}
use Rattle.bounded.specs.Items.{items}
use Rattle.sessions.specs.declared.fault.CommandFault.{CommandFault}
use Rattle.sessions.specs.declared.reply.Reply.{Reply}
use Rattle.sessions.specs.Settings.{setting_of}
use Rattle.sessions.specs.Sessions.{session_of}
use Rattle.sessions.specs.Commands.{performing}
use Rattle.sessions.specs.Laws.{LawfulCommand}
use Rattle.sessions.proofs.Lawful.{balanced, keeps, lawful_command}
use Rattle.sessions.proofs.session.Session.perform.Goals as goal

pub returns-clause-law : goal.returns-clause-law
returns-clause-law g c = by c.answer.result c.answer.ensures.value
  where
    by : {E : Type 0} (r : Result (Result Reply CommandFault) E)
        → IfOk r (λ x. record { reply = x; memory = c.answer.new.memory; session = session_of c.answer.new.self } ≡ performing (setting_of g.A.Algebra.means c.args.setting.now) (session_of c.args.self.now) c.args.memory.now c.args.command)
        → IfOk r (λ x. LawfulCommand (setting_of g.A.Algebra.means c.args.setting.now) (session_of c.args.self.now) c.args.memory.now c.args.command record { reply = x; memory = c.answer.new.memory; session = session_of c.answer.new.self })
    by (Ok x) e =
        let s = c.args.setting.now in
        lawful_command (naming_of s.names) s.system (g.A.Algebra.means s.pile) (g.met.A.Algebra.lawful s.pile) (items s.start) (session_of c.args.self.now) c.args.memory.now c.args.command _ e (balanced c.answer.new.self) (keeps c.args.self.now)
    by (Err x) e = tt
