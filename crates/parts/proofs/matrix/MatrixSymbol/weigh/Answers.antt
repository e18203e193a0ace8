use Rattle.std.proofs.Common.{◌≡◌, ℕ, ◌+◌, List, [], ◌∷◌, ◌++◌, get_or, length, take, sum_by, length-append, sym, ap, ap₂, ◌∙◌, arith, rules}
use Rattle.std.specs.List.{zip}
use Rattle.std.proofs.lemmas.Slice.Zip.{zip_turn, zip_end}
use Rattle.parts.specs.declared.matrix.Matrix.{Matrix}
use Rattle.parts.specs.Vectors.{dotted}
use Rattle.parts.proofs.Weighing.{zipped_more, zipped_all}
use Rattle.parts.proofs.matrix.MatrixSymbol.weigh.Goals as goal

-- what a matrix's row makes of a vector's first entries
abbrev product : ℕ → ℕ → Matrix × List ℕ → ℕ
product row n p = dotted (get_or p.0.rows row []) (take n p.1)

pub loop-matrix-preserved : goal.loop-matrix-preserved
loop-matrix-preserved c =
    let ms = c.args.self.now.matrices in
    let vs = c.args.args.now in
    let n = length c.loop-matrix.yielded in
    let turn = zip_turn ms vs c.loop-matrix.yielded c.into_iter-matrix-iterator.result c.loop-matrix.matrix-iterator c.next.new.self _ (search rules) (search rules) c.loop-matrix.yielded_by _ c.in-Some.is c.next.ensures.steps in
    let matrix = c.in-Some.matrix.now in
    let arg = c.in-Some.arg.now in
    let more = zipped_more (product c.args.row c.args.dimension) ms vs n matrix arg turn.0 turn.1 (turn.2 matrix) (turn.3 arg) in
    let long : length (c.loop-matrix.yielded ++ (c.in-Some.matrix, c.in-Some.arg) ∷ []) ≡ n + 1 = omega (arith, length-append c.loop-matrix.yielded ((c.in-Some.matrix, c.in-Some.arg) ∷ [])) in
    let h : Matrix × List ℕ → ℕ = product c.args.row c.args.dimension in (
      ap₂ (λ a b. a + b) c.loop-matrix.invariant.0 c.dot-sum.ensures.sum ∙ sym more ∙ sym (ap (λ k. sum_by h (take k (zip ms vs))) long),
      rw long (omega arith),
    )

pub returns-clause-sum : goal.returns-clause-sum
returns-clause-sum c =
    let ms = c.args.self.now.matrices in
    let vs = c.args.args.now in
    let end = zip_end ms vs c.loop-matrix.yielded c.into_iter-matrix-iterator.result c.loop-matrix.matrix-iterator c.next.new.self _ (search rules) (search rules) c.loop-matrix.yielded_by c.in-None.is c.next.ensures.steps in
    c.loop-matrix.invariant.0 ∙ zipped_all (product c.args.row c.args.dimension) ms vs (length c.loop-matrix.yielded) end
