-- Linear forms as rows of 33 columns: the constant vector, and one column for each of the four coordinates of each of
-- the eight variables. A symbol is applied column by column, with its constant in the first alone.
use Rattle.std.specs.Prelude.{ℕ, Bool, true, List, map, ◌==◌, slice_index_or}
use Rattle.std.specs.List.{range_with_len, list_all}
use Rattle.evaluation.specs.Structures.{Structure}

-- what columns are made by
pub record Columns (C : Type 0) : Type 0 where
  pub zero : C
  -- column k of a variable's form
  pub unit : ℕ → ℕ → C
  -- what a symbol makes of its arguments' columns, with its constant or without
  pub combined : Bool → ℕ → List C → C
  -- whether every entry is within reach
  pub within : C → Bool

-- how many columns a form has
abbrev pub width : ℕ
width = 33

-- column k of each form
abbrev pub column : {C : Type 0} → C → ℕ → List (List C) → List C
column z k forms = map (λ form. slice_index_or form k z) forms

-- the form whose column k is f k
unfoldable pub spread : {C : Type 0} → (ℕ → C) → List C
spread f = map f (range_with_len 0 width)

-- values that are single columns: those of terms whose variables are zero
abbrev pub single : {C : Type 0} → Columns C → Structure C
single m = record { assigned = λ v. m.zero; result = m.combined true; within = m.within }

-- values that are forms
abbrev pub forms : {C : Type 0} → Columns C → Structure (List C)
forms m = record {
  assigned = λ v. spread (m.unit v);
  result = λ f args. spread (λ k. m.combined (k == 0) f (column m.zero k args));
  within = list_all m.within;
}
