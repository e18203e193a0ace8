use Rattle.std.proofs.Common.{◌≡◌, ℕ, eqb, length, take, None, sym, ap, ◌∙◌, subst, arith}
use Rattle.evaluation.specs.Structures.{tested, Every}
use Rattle.forms.specs.Columns.{column}
use Rattle.forms.proofs.Made.{tested_none, made, refused, column_within}
use Rattle.forms.proofs.readers.FormsInterpretation.apply.Goals as goal

pub combine-requires-clause-tested : goal.combine-requires-clause-tested
combine-requires-clause-tested g c =
    let part = c.args.self.now.part.now in
    let m = g.P.Reckoning.columns part in
    let is : take (length c.args.args.now) c.gather-gathered.result ≡ column m.zero c.loop-k.k c.args.args.now = cc in
    subst (λ l. Every m.within l) (sym is) (column_within m.within m.zero c.loop-k.k c.args.args.now (g.met.P.Reckoning.zeros part) c.requires.tested)

pub returns-in_err-column : goal.returns-in_err-column
returns-in_err-column g c =
    let m = g.P.Reckoning.columns c.args.self.now.part.now in
    let f : ℕ → g.row.P-Vector.Denot = λ k. m.combined (eqb k 0) c.args.symbol (column m.zero k c.args.args.now) in
    let k = c.loop-k.k in
    let none : c.from_residual.result ≡ None = cc in
    let is : take (length c.args.args.now) c.gather-gathered.result ≡ column m.zero k c.args.args.now = cc in
    let far : None ≡ tested m.within (f k) = sym c.in_err-column.was ∙ c.combine.ensures ∙ ap (λ l. tested m.within (m.combined (eqb k 0) c.args.symbol l)) is in
    none ∙ refused m.within f k c.loop-k-test.true (tested_none m.within (f k) far)

pub returns : goal.returns
returns g c =
    let m = g.P.Reckoning.columns c.args.self.now.part.now in
    made m.within (λ k. m.combined (eqb k 0) c.args.symbol (column m.zero k c.args.args.now)) c.loop-k.column-items m.zero
    c.loop-k.invariant.0 (λ k d h. c.loop-k.invariant.1 k d (omega arith)) (λ k h. c.loop-k.invariant.2 k (omega arith))
