-- When a part is made.
use Rattle.std.specs.Prelude.{◌≡◌, ◌≤◌, Some, None, Option}
use Rattle.interpretations.specs.Parts.{Part}
use Rattle.interpretations.specs.Laws.{Monotone}

-- a part is made exactly if it is monotone, of dimension at most 4
abbrev pub Made : {X : Type 0} → (X → Part) → Part → Option X → Type 0
Made view P (Some p) = (view p ≡ P) × Monotone P × (P.dim ≤ 4)
Made view P None = Monotone P → P.dim ≤ 4 → ⊥
