-- What is shown of every part, whatever its dimension.
use Rattle.std.specs.Prelude.{◌≡◌, ℕ, ◌+◌, ◌^◌, ◌<◌, ◌≤◌, T, ◌↔◌, length, Option, slice_index}
use Rattle.terms.specs.Limits.{variables}
use Rattle.terms.specs.Terms.{Term, Terms, Term.app, Terms.none, Terms.more, count, size, over}
use Rattle.terms.specs.Rules.{Rule, rule_over}
use Rattle.algebras.specs.Meanings.{Lawful, Within, reach}
use Rattle.evaluation.specs.Subterms.{OfSubterms}
use Rattle.interpretations.specs.Parts.{Part, Assignment, value, zeros, height, constant_of, matrix_of, row_applied}
use Rattle.interpretations.specs.Orders.{weak, strict, given, readable, part_means, linear_ceiling}

-- there is a dimension, and the top left entry of each matrix is positive: so the part is strictly monotone
pub record Monotone (P : Part) : Type 0 where
  pub some : 0 < P.dim
  pub tops : (f k : ℕ) → f < length P.sig → k < slice_index P.sig f → 0 < P.entry f k 0 0

-- a dimension of at most 4, and numbers of a byte
pub record Small (P : Part) : Type 0 where
  pub dims : P.dim ≤ 4
  pub constants : (f i : ℕ) → P.constant f i ≤ 255
  pub entries : (f k i j : ℕ) → P.entry f k i j ≤ 255

-- the value under an assignment is the form's constant and its matrices applied to the assignment
abbrev pub Formed : Type 0
Formed =
    (P : Part) (α : Assignment) (t : Term) (i : ℕ) → T (over P.sig t) → i < P.dim
    → value P α t i ≡ constant_of P t i + row_applied variables P.dim (λ v j. matrix_of P t v i j) α

-- under every assignment no entry of the right side's value is greater, and the first entry of the left side's is
abbrev pub NoneGreater : Part → Rule → Type 0
NoneGreater P r = (α : Assignment) (i : ℕ) → i < P.dim → value P α r.right i ≤ value P α r.left i

abbrev pub FirstLess : Part → Rule → Type 0
FirstLess P r = (α : Assignment) → value P α r.right 0 < value P α r.left 0

-- a rule is weak exactly if no assignment makes an entry of the right side's value the greater one
abbrev pub WeakExactly : Type 0
WeakExactly = (P : Part) (r : Rule) → T (rule_over P.sig r) → T (weak P r) ↔ NoneGreater P r

-- and strict exactly if moreover every assignment makes the first entry of the left side's the greater one
abbrev pub StrictExactly : Type 0
StrictExactly = (P : Part) → 0 < P.dim → (r : Rule) → T (rule_over P.sig r) → T (strict P r) ↔ (NoneGreater P r × FirstLess P r)

-- every entry of a value, and of a form, is within reach
abbrev pub ValueNear : Part → Term → Type 0
ValueNear P t = (i : ℕ) → i < P.dim → value P zeros t i ≤ reach

pub record FormNear (P : Part) (t : Term) : Type 0 where
  pub constants : (i : ℕ) → i < P.dim → constant_of P t i ≤ reach
  pub matrices : (v i j : ℕ) → v < variables → i < P.dim → j < P.dim → matrix_of P t v i j ≤ reach

-- given and readable are facts of the subterms
abbrev pub GivenExactly : Type 0
GivenExactly = (P : Part) (t : Term) → T (given P t) ↔ OfSubterms (ValueNear P) t

abbrev pub ReadableExactly : Type 0
ReadableExactly = (P : Part) (r : Rule) → T (readable P r) ↔ (OfSubterms (FormNear P) r.left × OfSubterms (FormNear P) r.right)

-- the values of the arguments are within reach
abbrev pub ArgumentsNear : Part → Assignment → Terms → Type 0
ArgumentsNear P α none = Unit {0}
ArgumentsNear P α (more t ts) = ((i : ℕ) → i < P.dim → value P α t i ≤ reach) × ArgumentsNear P α ts

-- then an entry that is not yet tested is far below what a machine word holds
abbrev pub UntestedFits : Type 0
UntestedFits = (P : Part) → Small P → (α : Assignment) (f : ℕ) (ts : Terms) (i : ℕ) → count ts ≤ 4 → ArgumentsNear P α ts → value P α (app f ts) i < 2 ^ 52

-- heights are at most a ceiling at the size
abbrev pub Ceiled : Part → (ℕ → Option ℕ) → Type 0
Ceiled P ceiling = (t : Term) → T (over P.sig t) → Within (height P t) (ceiling (size t))

abbrev pub LinearCeiled : Type 0
LinearCeiled = (P : Part) → P.dim ≡ 1 → Ceiled P (linear_ceiling P)

-- the five laws
abbrev pub PartsLawful : Type 0
PartsLawful = (P : Part) → Monotone P → (ceiling : ℕ → Option ℕ) → Ceiled P ceiling → Lawful (part_means P ceiling)
