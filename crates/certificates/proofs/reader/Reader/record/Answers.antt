use Rattle.std.proofs.Common.{Err, ap, ◌∙◌, arith}
use Rattle.certificates.proofs.Places.{cut_head, cut_body, whole_record, body_bytes}
use Rattle.certificates.proofs.reader.Reader.record.Goals as goal

pub returns-then-left-lt4-clause-value : goal.returns-then-left-lt4-clause-value
returns-then-left-lt4-clause-value c = ap Err c.at-cut.ensures ∙ cut_head c.args.self.now.bytes.now c.args.self.now.at c.args.self.now.within c.if-left-lt4.true

pub returns-then-left-length-clause-value : goal.returns-then-left-length-clause-value
returns-then-left-length-clause-value c = ap Err c.at-cut.ensures ∙ cut_body c.args.self.now.bytes.now c.args.self.now.at c.args.self.now.within _ c.word-length.ensures c.if-left-lt4.false c.if-left-length.true

pub returns-clause-value : goal.returns-clause-value
returns-clause-value c = whole_record c.args.self.now.bytes.now c.args.self.now.at c.args.self.now.within _ _ c.word-length.ensures c.word-kind.ensures c.if-left-lt4.false c.if-left-length.false

pub returns-clause-proper : goal.returns-clause-proper
returns-clause-proper c = record { behind = omega arith; bytes = body_bytes c.args.self.now.bytes.now c.args.self.now.at c.args.self.now.within c.word-length.result c.args.self.now.small }
