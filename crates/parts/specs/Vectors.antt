-- Vectors of four entries, of which the first are used, and numbers in the place of vectors of one.
use Rattle.std.specs.Prelude.{ℕ, ◌+◌, ◌*◌, cond, List, [], ◌∷◌, map, ◌==◌, nat_le, nat_lt, slice_index, sum_by}
use Rattle.std.specs.List.{range_with_len, zip}
use Rattle.algebras.specs.Meanings.{reach}
use Rattle.interpretations.specs.Parts.{Part}
use Rattle.forms.specs.Columns.{Columns}
use Rattle.forms.specs.Faithful.{combined_entry, vector_near}

-- the entries of a vector, and of a number
abbrev pub vector : List ℕ → ℕ → ℕ
vector v i = slice_index v i

abbrev pub number : ℕ → ℕ → ℕ
number n i = n

-- how a part makes vectors: zeros past its dimension
abbrev pub vector_columns : Part → Columns (List ℕ)
vector_columns P = record {
  zero = 0 ∷ (0 ∷ (0 ∷ (0 ∷ [])));
  unit = λ v k. map (λ i. cond (k == 4 * v + 1 + i) 1 0) (range_with_len 0 4);
  combined = λ b f vs. map (λ i. cond (nat_lt i P.dim) (combined_entry P b f (map vector vs) i) 0) (range_with_len 0 4);
  within = λ c. vector_near P (vector c);
}

-- how a part of dimension 1 makes numbers
abbrev pub number_columns : Part → Columns ℕ
number_columns P = record {
  zero = 0;
  unit = λ v k. cond (k == 4 * v + 1) 1 0;
  combined = λ b f vs. combined_entry P b f (map number vs) 0;
  within = λ c. nat_le c reach;
}

-- entries times values, place by place, added up
abbrev pub dotted : List ℕ → List ℕ → ℕ
dotted es vs = sum_by (λ p. p.0 * p.1) (zip es vs)
