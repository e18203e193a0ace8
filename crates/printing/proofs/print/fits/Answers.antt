use Rattle.std.proofs.Common.{rules, tests, ◌∙◌}
use Rattle.printing.proofs.Measuring.{measured}
use Rattle.printing.proofs.print.fits.Goals as goal

pub returns : goal.returns
returns c = c.is_some.ensures ∙ measured _ _ (λ f q left x v call. search (rules, tests)) c.args.speller c.try_fold.new.self _ c.args.room c.try_fold.result c.try_fold.ensures.ran
