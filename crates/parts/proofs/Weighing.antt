-- Sums of products: what a part makes of its arguments, and that it fits a machine word.
use Rattle.std.proofs.Common.{◌≡◌, ℕ, zero, suc, ◌+◌, ◌*◌, ◌<◌, ◌≤◌, All, List, [], ◌∷◌, length, map, get_or, take, sum_by, min, mul-le-mul, add-zero, true, leb, leb→le, sym, refl, ap, ◌∙◌, subst, ap₂, arith}
use Rattle.std.specs.List.{zip}
use Rattle.std.proofs.lemmas.List.Sums.{sum_by-cons, sum_by_more}
use Rattle.std.proofs.ByRecursion.{All-get_or}
use Rattle.std.proofs.lemmas.List.{take_all, length-take, get_or-take, get_or_default}
use Rattle.std.proofs.lemmas.List.Elements.{All-head, All-tail}
use Rattle.std.proofs.lemmas.Slice.Zip.{length-zip, get_or-zip}
use Rattle.terms.proofs.Booleans.{held}
use Rattle.algebras.specs.Meanings.{reach}
use Rattle.interpretations.specs.Numbers.{total}
use Rattle.interpretations.specs.Parts.{Part}
use Rattle.interpretations.proofs.Tests.{every-at}
use Rattle.interpretations.proofs.Totals.{total_same, total_zero}
use Rattle.evaluation.specs.Structures.{Every}
use Rattle.forms.specs.Faithful.{weighed, vector_near}
use Rattle.parts.specs.declared.linear.LinearSymbol.{LinearSymbol}
use Rattle.parts.specs.declared.matrix.Matrix.{Matrix}
use Rattle.parts.specs.declared.matrix.MatrixSymbol.{MatrixSymbol}
use Rattle.parts.specs.Kinds.{linear_symbol, linear_part, matrix_symbol, matrix_part}
use Rattle.parts.specs.Vectors.{number, vector, vector_columns, dotted}

-- a sum over pairs: one pair more, and the last
module _ {X Y : Type 0} (h : X × Y → ℕ) (xs : List X) (ys : List Y) (n : ℕ) where
  pub zipped_more : (x : X) (y : Y) → n < length xs → n < length ys → x ≡ get_or xs n x → y ≡ get_or ys n y → sum_by h (take (n + 1) (zip xs ys)) ≡ sum_by h (take n (zip xs ys)) + h (x, y)
  zipped_more x y k l e f =
      sum_by_more h (zip xs ys) n (x, y) (omega (arith, length-zip xs ys))
      ∙ ap (λ p. sum_by h (take n (zip xs ys)) + h p) (get_or-zip xs ys n (x, y) k l ∙ sym (ap₂ (λ a b. (a, b)) e f))

  pub zipped_all : n ≡ min (length xs) (length ys) → sum_by h (take n (zip xs ys)) ≡ sum_by h (zip xs ys)
  zipped_all e = ap (sum_by h) (take_all n (zip xs ys) (omega (arith, length-zip xs ys)))

-- as many terms as there are pairs, where nothing is added past the end
module _ {X V : Type 0} (P : Part) (f i : ℕ) (e : V → ℕ → ℕ) (h : X × V → ℕ) (d : X) (none : (v : V) → h (d, v) ≡ 0) where
  abbrev term : ℕ → V → ℕ
  term k v = total P.dim (λ j. P.entry f k i j * e v j)

  abbrev Each : ℕ → List X → Type 0
  Each n xs = (k : ℕ) (v : V) → term (n + k) v ≡ h (get_or xs k d, v)

  here : (n : ℕ) (xs : List X) → Each n xs → (v : V) → term n v ≡ h (get_or xs 0 d, v)
  here n xs each v = let z : n + 0 ≡ n = omega arith in subst (λ k. term k v ≡ h (get_or xs 0 d, v)) z (each 0 v)

  pub weighed-zip : (n : ℕ) (xs : List X) (vs : List V) → Each n xs → weighed P f n (map e vs) i ≡ sum_by h (zip xs vs)
  weighed-zip n [] [] each = refl
  weighed-zip n (x ∷ xs) [] each = refl
  weighed-zip n [] (v ∷ vs) each =
      let rest = weighed-zip (suc n) [] vs (λ k w. let z : n + suc k ≡ suc n + k = omega arith in subst (λ m. term m w ≡ h (d, w)) z (each (suc k) w)) in
      ap₂ (λ a b. a + b) (here n [] each v ∙ none v) (rest ∙ nothing vs)
    where
      nothing : (vs : List V) → sum_by h (zip [] vs) ≡ 0
      nothing [] = refl
      nothing (v ∷ vs) = refl
  weighed-zip n (x ∷ xs) (v ∷ vs) each =
      ap₂ (λ a b. a + b) (here n (x ∷ xs) each v)
      (weighed-zip (suc n) xs vs (λ k w. let z : n + suc k ≡ suc n + k = omega arith in subst (λ m. term m w ≡ h (get_or xs k d, w)) z (each (suc k) w)))
      ∙ sym (sum_by-cons h (x, v) (zip xs vs))

dotted-cons : (x v : ℕ) (es vs : List ℕ) → dotted (x ∷ es) (v ∷ vs) ≡ x * v + dotted es vs
dotted-cons x v es vs = sum_by-cons (λ (p : ℕ × ℕ). p.0 * p.1) (x, v) (zip es vs)

no_entries : (n : ℕ) (vs : List ℕ) → total n (λ j. get_or [] j 0 * get_or vs j 0) ≡ 0
no_entries n vs = total_same n (λ j. get_or [] j 0 * get_or vs j 0) (λ j. 0) (λ j l. omega arith) ∙ total_zero n

no_values : (n : ℕ) (es : List ℕ) → total n (λ j. get_or es j 0 * get_or [] j 0) ≡ 0
no_values n es = total_same n (λ j. get_or es j 0 * get_or [] j 0) (λ j. 0) (λ j l. omega arith) ∙ total_zero n

pub total-dotted : (n : ℕ) (es vs : List ℕ) → total n (λ j. get_or es j 0 * get_or vs j 0) ≡ dotted es (take n vs)
total-dotted zero [] vs = refl
total-dotted zero (x ∷ es) vs = refl
total-dotted (suc n) [] [] = no_entries (suc n) []
total-dotted (suc n) [] (v ∷ vs) = no_entries (suc n) (v ∷ vs)
total-dotted (suc n) (x ∷ es) [] = no_values (suc n) (x ∷ es)
total-dotted (suc n) (x ∷ es) (v ∷ vs) = ap (λ t. x * v + t) (total-dotted n es vs) ∙ sym (dotted-cons x v es (take n vs))

-- at most 255 × reach for each pair
pub product_small : (e v : ℕ) → e ≤ 255 → v ≤ reach → e * v ≤ 255 * reach
product_small e v h k = mul-le-mul h k

pub dotted-le : (es vs : List ℕ) → ((k : ℕ) → get_or es k 0 ≤ 255) → All (λ v. v ≤ reach) vs → dotted es vs ≤ length es * (255 * reach)
dotted-le [] [] small near = omega arith
dotted-le [] (v ∷ vs) small near = omega arith
dotted-le (x ∷ es) [] small near = omega arith
dotted-le (x ∷ es) (v ∷ vs) small near =
    let first = product_small x v (small 0) (All-head (λ v. v ≤ reach) v vs near) in
    let rest = dotted-le es vs (λ k. small (suc k)) (All-tail (λ v. v ≤ reach) v vs near) in
    omega (arith, dotted-cons x v es vs)

-- what a linear part and a matrix part make of their arguments
pub linear-dotted : (sig : List ℕ) (symbols : List LinearSymbol) (f : ℕ) (vs : List ℕ) → weighed (linear_part sig symbols) f 0 (map number vs) 0 ≡ dotted (linear_symbol symbols f).factors vs
linear-dotted sig symbols f vs =
    let factors = (linear_symbol symbols f).factors in
    weighed-zip (linear_part sig symbols) f 0 number (λ p. p.0 * p.1) 0 (λ v. omega arith) 0 factors vs
    (λ k v. let z : 0 + k ≡ k = omega arith in rw z (add-zero (get_or factors k 0 * v)))

pub matrix-dotted : (sig : List ℕ) (dimension : ℕ) (symbols : List MatrixSymbol) (f i : ℕ) (vs : List (List ℕ))
    → weighed (matrix_part sig dimension symbols) f 0 (map vector vs) i ≡ sum_by (λ p. dotted (get_or p.0.rows i []) (take dimension p.1)) (zip (matrix_symbol symbols f).matrices vs)
matrix-dotted sig dimension symbols f i vs =
    let h : Matrix × List ℕ → ℕ = λ p. dotted (get_or p.0.rows i []) (take dimension p.1) in
    let matrices = (matrix_symbol symbols f).matrices in
    weighed-zip (matrix_part sig dimension symbols) f i vector h record { rows = [] } (λ v. sym (total-dotted dimension [] v) ∙ no_entries dimension v) 0 matrices vs
    (λ k v. let z : 0 + k ≡ k = omega arith in rw z (total-dotted dimension (get_or (get_or matrices k record { rows = [] }).rows i []) v))

-- the first entries of vectors within reach
pub vectors_near : (P : Part) (vs : List (List ℕ)) → Every (vector_columns P).within vs → All (λ v. All (λ x. x ≤ reach) (take P.dim v)) vs
vectors_near P vs h k d l j e m =
    let v = get_or vs k d in
    let near : vector_near P (vector v) ≡ true = All-get_or (λ v. vector_near P (vector v) ≡ true) vs k d l h in
    let short : j < P.dim = omega (arith, length-take P.dim v) in
    let within : j < length v = omega (arith, length-take P.dim v) in
    let same : get_or (take P.dim v) j e ≡ get_or v j 0 = get_or-take P.dim v j e short ∙ get_or_default v j e 0 within in
    rw same (leb→le (get_or v j 0) reach (every-at P.dim (λ i. leb (get_or v i 0) reach) (held _ near) j short))
