-- Weak and strict rules, given terms and readable rules of a part, its ceiling, and what it means as an algebra.
use Rattle.std.specs.Prelude.{ℕ, ◌*◌, Bool, cond, ◌&&◌, length, Some, None, Option, nat_eq, nat_le, nat_lt, slice_index}
use Rattle.terms.specs.Limits.{variables}
use Rattle.terms.specs.Terms.{Term}
use Rattle.terms.specs.Rules.{Rule}
use Rattle.algebras.specs.Meanings.{Meaning, reach}
use Rattle.evaluation.specs.Subterms.{throughout}
use Rattle.interpretations.specs.Numbers.{every, largest, same_list}
use Rattle.interpretations.specs.Parts.{Part, value, zeros, height, constant_of, matrix_of}

-- a test of every entry of a form: of its constant vector, and of its matrix for each variable
abbrev pub each_constant : Part → (ℕ → Bool) → Bool
each_constant P p = every P.dim p

abbrev pub each_entry : Part → (ℕ → ℕ → ℕ → Bool) → Bool
each_entry P p = every P.dim (λ i. every variables (λ v. every P.dim (λ j. p v i j)))

-- a rule is weak if no entry of the right side's form is greater than that of the left side's
abbrev pub weak : Part → Rule → Bool
weak P r =
    each_constant P (λ i. nat_le (constant_of P r.right i) (constant_of P r.left i))
    && each_entry P (λ v i j. nat_le (matrix_of P r.right v i j) (matrix_of P r.left v i j))

-- and strict if moreover the first entry of the constant is less
abbrev pub strict : Part → Rule → Bool
strict P r = weak P r && nat_lt (constant_of P r.right 0) (constant_of P r.left 0)

-- whether every entry of a value, and of a form, is within reach
abbrev pub value_near : Part → Term → Bool
value_near P t = every P.dim (λ i. nat_le (value P zeros t i) reach)

abbrev pub form_near : Part → Term → Bool
form_near P t = each_constant P (λ i. nat_le (constant_of P t i) reach) && each_entry P (λ v i j. nat_le (matrix_of P t v i j) reach)

-- a term is given if the value of each of its subterms is within reach
abbrev pub given : Part → Term → Bool
given P t = throughout (value_near P) t

-- a rule is readable if the form of each subterm of its sides is
abbrev pub readable : Part → Rule → Bool
readable P r = throughout (form_near P) r.left && throughout (form_near P) r.right

-- whether every factor of a linear part is 1
abbrev pub all_ones : Part → Bool
all_ones P = every (length P.sig) (λ f. every (slice_index P.sig f) (λ k. nat_eq (P.entry f k 0 0) 1))

abbrev pub largest_constant : Part → ℕ
largest_constant P = largest (length P.sig) (λ f. P.constant f 0)

-- the ceiling of a linear part whose factors are all 1: the size times the largest constant
abbrev pub linear_ceiling : Part → ℕ → Option ℕ
linear_ceiling P n = cond (all_ones P) (Some (n * largest_constant P)) None

abbrev pub no_ceiling : ℕ → Option ℕ
no_ceiling n = None

-- what a part means as an algebra, with a ceiling
abbrev pub part_means : Part → (ℕ → Option ℕ) → Meaning
part_means P ceiling = record {
  fits = λ sig. same_list sig P.sig;
  height = height P;
  given = given P;
  readable = readable P;
  weak = weak P;
  strict = strict P;
  ceiling = ceiling;
}
