use Rattle.interpretations.proofs.Forms.{form_applied}
use Rattle.interpretations.proofs.Exact.{weak_exactly, strict_exactly}
use Rattle.interpretations.proofs.forms_order_rules.Goals as goal

pub returns : goal.returns
returns c = record { formed = form_applied; weak = weak_exactly; strict = strict_exactly }
