use Rattle.std.proofs.Common.{◌≡◌, ℕ, ◌<◌, true, eqb, length, get_or}
use Rattle.forms.specs.Columns.{column}
use Rattle.forms.proofs.readers.FormsInterpretation.apply.Given as goal

abbrev pub invariant-loop-k : goal.invariant-loop-k
invariant-loop-k g l =
    let m = g.P.Reckoning.columns l.self.part.now in
    (length l.column-items ≡ 33)
    × ((k : ℕ) (d : g.row.P-Vector.Denot) → k < l.k → get_or l.column-items k d ≡ m.combined (eqb k 0) l.symbol (column m.zero k l.args))
    × ((k : ℕ) → k < l.k → m.within (m.combined (eqb k 0) l.symbol (column m.zero k l.args)) ≡ true)
