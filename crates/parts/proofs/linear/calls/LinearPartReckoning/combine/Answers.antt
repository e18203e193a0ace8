use Rattle.std.proofs.Common.{◌≡◌, ◌+◌, Bool, true, false, cond, leb, Some, None, sym, refl, ap, ap₂, ◌∙◌}
use Rattle.std.specs.Bool.{then_some}
use Rattle.terms.specs.Models.{arities_of}
use Rattle.algebras.specs.Meanings.{reach}
use Rattle.evaluation.specs.Structures.{tested}
use Rattle.parts.proofs.Weighing.{linear-dotted}
use Rattle.parts.proofs.linear.calls.LinearPartReckoning.combine.Goals as goal

then_some-cond : {X : Type 0} (b : Bool) (x : X) → then_some b x ≡ cond b (Some x) None
then_some-cond true x = refl
then_some-cond false x = refl

pub returns : goal.returns
returns c =
    let p = c.args.self.now in
    let sum = ap₂ (λ x y. x + y) c.base.ensures (c.dot.ensures.sum ∙ sym (linear-dotted (arities_of p.signature) p.symbols c.args.symbol c.args.args.now)) in
    c.then_some.ensures ∙ then_some-cond (leb (c.base.result + c.dot.result) reach) (c.base.result + c.dot.result) ∙ ap (tested (λ n. leb n reach)) sum
