-- Columns that are the vectors of a part.
use Rattle.std.specs.Prelude.{◌≡◌, ℕ, suc, ◌+◌, ◌*◌, ◌<◌, ◌≤◌, Bool, cond, List, [], ◌∷◌, map, ◌==◌, nat_le, slice_index}
use Rattle.algebras.specs.Meanings.{reach}
use Rattle.interpretations.specs.Numbers.{total, every}
use Rattle.interpretations.specs.Parts.{Part}
use Rattle.forms.specs.Columns.{Columns}

-- the sum of a symbol's matrices, from the k-th on, times vectors
abbrev pub weighed : Part → ℕ → ℕ → List (ℕ → ℕ) → ℕ → ℕ
weighed P f k [] i = 0
weighed P f k (x ∷ xs) i = total P.dim (λ j. P.entry f k i j * x j) + weighed P f (suc k) xs i

-- and its constant, or not
abbrev pub combined_entry : Part → Bool → ℕ → List (ℕ → ℕ) → ℕ → ℕ
combined_entry P b f xs i = cond b (P.constant f i) 0 + weighed P f 0 xs i

-- whether every entry of a vector is within reach
abbrev pub vector_near : Part → (ℕ → ℕ) → Bool
vector_near P x = every P.dim (λ i. nat_le (x i) reach)

-- whether no entry of the second vector is greater than that of the first
abbrev pub covers : Part → (ℕ → ℕ) → (ℕ → ℕ) → Bool
covers P x y = every P.dim (λ i. nat_le (y i) (x i))

-- columns are made as the part says, entry by entry
pub record Faithful {C : Type 0} (m : Columns C) (entry : C → ℕ → ℕ) (P : Part) : Type 0 where
  pub zeros : (i : ℕ) → entry m.zero i ≡ 0
  pub units : (v k i : ℕ) → i < P.dim → entry (m.unit v k) i ≡ cond (k == 4 * v + 1 + i) 1 0
  pub combines : (b : Bool) (f : ℕ) (vs : List C) (i : ℕ) → i < P.dim → entry (m.combined b f vs) i ≡ combined_entry P b f (map entry vs) i
  pub tests : (c : C) → m.within c ≡ vector_near P (entry c)

-- the sizes that a form of 33 columns has room for
pub record Limited (P : Part) : Type 0 where
  pub some : 0 < P.dim
  pub narrow : P.dim ≤ 4
  pub arities : (f : ℕ) → slice_index P.sig f ≤ 4
