use Rattle.std.proofs.Common.{◌≡◌, Err, true, sym, ap, ◌∙◌, rules}
use Rattle.terms.specs.Replies.{viewed}
use Rattle.certificates.specs.Certificates.{parts_of}
use Rattle.certificates.specs.Readers.{is_open, awaited_of, progress_of}
use Rattle.certificates.proofs.Reading.{goes_on, stops}
use Rattle.certificates.proofs.reader.Reader.read_all.Goals as goal

pub loop-self-preserved : goal.loop-self-preserved
loop-self-preserved c =
    let open_now : is_open (awaited_of c.loop-self.self.awaits) ≡ true = cc in
    record {
      same = sym (goes_on (progress_of c.loop-self.self) (progress_of c.step.new.self) open_now c.in_ok-step.ensures.value) ∙ c.loop-self.invariant.same;
      room = c.in_ok-step.ensures.room;
    }

pub returns-in_err-step : goal.returns-in_err-step
returns-in_err-step c =
    let open_now : is_open (awaited_of c.loop-self.self.awaits) ≡ true = cc in
    let e = c.in_err-step.field-0.0 in
    let same : c.from_residual.result ≡ Err e = search rules in
    ap (viewed parts_of) same ∙ stops (progress_of c.loop-self.self) e open_now c.in_err-step.ensures.value ∙ c.loop-self.invariant.same
