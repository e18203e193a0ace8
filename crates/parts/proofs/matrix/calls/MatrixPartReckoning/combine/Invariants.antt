use Rattle.std.proofs.Common.{◌≡◌, ℕ, ◌<◌, ◌≤◌, map, length, get_or}
use Rattle.std.specs.List.{AllWithin}
use Rattle.algebras.specs.Meanings.{reach}
use Rattle.forms.specs.Faithful.{combined_entry}
use Rattle.parts.specs.Vectors.{vector}
use Rattle.parts.specs.Views.{matrix_of}
use Rattle.parts.proofs.matrix.calls.MatrixPartReckoning.combine.Given as goal

abbrev pub invariant-loop-row : goal.invariant-loop-row
invariant-loop-row l =
    (length l.entry-items ≡ l.self.dimension)
    × ((k : ℕ) → k < l.row → get_or l.entry-items k 0 ≡ combined_entry (matrix_of l.self) l.constant l.symbol-2 (map vector l.args) k)
    × AllWithin (λ entry. entry ≤ reach) l.entry-items 0 l.row
