-- Linear and matrix parts as one: terms have vectors of natural numbers as values, and a symbol adds a constant vector
-- to its arguments' vectors, each times a matrix. A linear part has dimension 1.
use Rattle.std.specs.Prelude.{ℕ, suc, ◌+◌, ◌*◌, cond, ◌&&◌, List, ◌==◌}
use Rattle.terms.specs.Terms.{Term, Terms, Term.var, Term.app, Terms.none, Terms.more}
use Rattle.interpretations.specs.Numbers.{total}

pub record Part : Type 0 where
  -- the signature whose symbols it interprets
  pub sig : List ℕ
  -- the dimension of the vectors
  pub dim : ℕ
  -- of a symbol, at a row
  pub constant : ℕ → ℕ → ℕ
  -- of a symbol and one of its arguments, at a row and a column
  pub entry : ℕ → ℕ → ℕ → ℕ → ℕ

-- an assignment gives each variable a vector
abbrev pub Assignment : Type 0
Assignment = ℕ → ℕ → ℕ

-- entry i of the value of a term under an assignment
abbrev mutual
  pub value : Part → Assignment → Term → ℕ → ℕ
  value P α (var v) i = α v i
  value P α (app f ts) i = P.constant f i + products P α f 0 ts i

  -- the arguments from the k-th on, each times its matrix
  pub products : Part → Assignment → ℕ → ℕ → Terms → ℕ → ℕ
  products P α f k none i = 0
  products P α f k (more t ts) i = total P.dim (λ j. P.entry f k i j * value P α t j) + products P α f (suc k) ts i

-- every variable is the zero vector
abbrev pub zeros : Assignment
zeros v i = 0

-- entry j of variable v is 1, and every other is 0
abbrev pub unit : ℕ → ℕ → Assignment
unit v j w i = cond (v == w && j == i) 1 0

-- the height of a term: the first entry of its value with zeros for its variables
abbrev pub height : Part → Term → ℕ
height P t = value P zeros t 0

-- the part without its constants
abbrev pub bare : Part → Part
bare P = record { sig = P.sig; dim = P.dim; constant = λ f i. 0; entry = P.entry }

-- the linear form of a term: a constant vector, and for each variable a matrix. Both are values, so that a form is
-- evaluated like any other value.
abbrev pub constant_of : Part → Term → ℕ → ℕ
constant_of P t i = value P zeros t i

abbrev pub matrix_of : Part → Term → ℕ → ℕ → ℕ → ℕ
matrix_of P t v i j = value (bare P) (unit v j) t i

-- one row of a form's matrices, applied to the first n variables
abbrev pub row_applied : ℕ → ℕ → (ℕ → ℕ → ℕ) → Assignment → ℕ
row_applied n d row α = total n (λ v. total d (λ j. row v j * α v j))
