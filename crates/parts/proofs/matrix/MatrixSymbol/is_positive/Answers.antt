use Rattle.std.proofs.Common.{◌≡◌, Bool, ltb, [], length, get_or, min, ap, ◌∙◌, arith, rules, tests}
use Rattle.std.proofs.lemmas.Iterator.{YieldsList-from_slice, YieldsList-from_take}
use Rattle.std.proofs.lemmas.Iterator.Search.{all_from_yields_List}
use Rattle.interpretations.specs.Numbers.{every}
use Rattle.interpretations.proofs.Tests.{list_all-take}
use Rattle.parts.specs.declared.matrix.Matrix.{Matrix}
use Rattle.parts.proofs.matrix.MatrixSymbol.is_positive.Goals as goal

pub returns : goal.returns
returns c =
    let test : Matrix → Bool = λ matrix. ltb 0 (get_or (get_or matrix.rows 0 []) 0 0) in
    let matrices = c.args.self.now.matrices in
    let long : length matrices ≡ 4 = omega arith in
    all_from_yields_List test _ _ _ c.all.ensures.ran (YieldsList-from_take c.args.arity (YieldsList-from_slice matrices (cc)) (cc)) (λ x b q k. search (rules, tests))
    ∙ list_all-take test record { rows = [] } c.args.arity matrices ∙ ap (λ n. every (min c.args.arity n) (λ k. test (get_or matrices k record { rows = [] }))) long
