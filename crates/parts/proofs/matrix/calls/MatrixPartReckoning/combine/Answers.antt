use Rattle.std.proofs.Common.{◌≡◌, ℕ, ◌+◌, ◌<◌, ◌≤◌, map, length, get_or, set, sym, ap₂, subst, ◌∙◌, arith}
use Rattle.std.proofs.lemmas.List.{length-set}
use Rattle.std.proofs.lemmas.List.Edits.{fill_by_more}
use Rattle.std.proofs.lemmas.List.Elements.{AllWithin-more_set}
use Rattle.terms.specs.Models.{arities_of}
use Rattle.algebras.specs.Meanings.{reach}
use Rattle.interpretations.specs.Parts.{Part}
use Rattle.forms.specs.Faithful.{combined_entry}
use Rattle.parts.specs.Vectors.{vector}
use Rattle.parts.specs.Views.{matrix_of}
use Rattle.parts.specs.Columned.{made_vector, refused_vector}
use Rattle.parts.proofs.Weighing.{matrix-dotted, vectors_near}
use Rattle.parts.proofs.matrix.calls.MatrixPartReckoning.combine.Goals as goal

pub weigh-requires-clause-small : goal.weigh-requires-clause-small
weigh-requires-clause-small c = vectors_near (matrix_of c.args.self.now) c.args.args.now c.requires.tested

pub returns-then-entry-gt-REACH : goal.returns-then-entry-gt-REACH
returns-then-entry-gt-REACH c =
    let p = c.args.self.now in
    let P : Part = matrix_of p in
    let f : ℕ → ℕ = combined_entry P c.args.constant c.args.symbol (map vector c.args.args.now) in
    let row = c.loop-row.row in
    let is : c.base.result + c.weigh.result ≡ f row =
    ap₂ (λ a b. a + b) c.base.ensures (c.weigh.ensures.sum ∙ sym (matrix-dotted (arities_of p.signature) p.dimension p.symbols c.args.symbol row c.args.args.now)) in
    refused_vector P f row p.narrow (omega arith) (omega arith)

pub loop-row-preserved : goal.loop-row-preserved
loop-row-preserved c =
    let p = c.args.self.now in
    let P : Part = matrix_of p in
    let f : ℕ → ℕ = combined_entry P c.args.constant c.args.symbol (map vector c.args.args.now) in
    let xs = c.loop-row.entry-items in
    let row = c.loop-row.row in
    let within : row < length xs = omega arith in
    let is : c.base.result + c.weigh.result ≡ f row =
    ap₂ (λ a b. a + b) c.base.ensures (c.weigh.ensures.sum ∙ sym (matrix-dotted (arities_of p.signature) p.dimension p.symbols c.args.symbol row c.args.args.now)) in (
      length-set xs row _ ∙ c.loop-row.invariant.0,
      subst (λ v. (k : ℕ) → k < row + 1 → get_or (set xs row v) k 0 ≡ f k) (sym is) (fill_by_more f xs row 0 within c.loop-row.invariant.1),
      AllWithin-more_set xs row _ within (λ entry. entry ≤ reach) c.loop-row.invariant.2 (omega arith),
    )

pub returns : goal.returns
returns c =
    let p = c.args.self.now in
    let P : Part = matrix_of p in
    let f : ℕ → ℕ = combined_entry P c.args.constant c.args.symbol (map vector c.args.args.now) in
    made_vector P f c.loop-row.entry-items p.narrow c.loop-row.invariant.0 (λ k h. c.loop-row.invariant.1 k (omega arith)) (λ k h. c.loop-row.invariant.2 k 0 (omega arith) (omega arith))
