-- Parts mean what the numbers that they keep mean: zeros behind them count for nothing.
use Rattle.std.proofs.Common.{◌≡◌, ℕ, zero, suc, List, [], ◌∷◌, ◌++◌, map, length, drop, get_or, replicate, Ok, Err, Result, sym, refl, ap, ap₂, ◌∙◌, map-id}
use mathlib.Core.Path.{fun_ext}
use Rattle.std.proofs.Math.Seq.{drop-nil}
use Rattle.terms.specs.Models.{arities_of}
use Rattle.terms.specs.Replies.{viewed}
use Rattle.interpretations.specs.Orders.{part_means, linear_ceiling, no_ceiling}
use Rattle.parts.specs.declared.linear.LinearSymbol.{LinearSymbol}
use Rattle.parts.specs.declared.matrix.Matrix.{Matrix}
use Rattle.parts.specs.declared.matrix.MatrixSymbol.{MatrixSymbol}
use Rattle.parts.specs.Kinds.{linear_part, matrix_part}
use Rattle.piles.specs.declared.part.Part.{Part}
use Rattle.piles.specs.declared.part.Part.TheVariants as kinds
use Rattle.piles.specs.Parts.{part_algebra}
use Rattle.encodings.specs.Numbers.{Numbers, Numbers.linear, Numbers.matrix}
use Rattle.certificates.specs.Tables.{in_four, linear_table, rows_table, matrix_table, matrices_table, symbol_table, linear_tables, symbol_tables, no_linear, no_symbols}
use Rattle.certificates.specs.Parts.{Kept, kept_part, kept, all_kept}
use Rattle.certificates.specs.declared.certificate.Certificate.{Certificate}
use Rattle.certificates.specs.Certificates.{parts_of}
use Rattle.certificates.specs.Meanings.{numbers_algebra, all_algebras, algebras_of}
use Rattle.encodings.specs.declared.fault.CertificateFault.{CertificateFault}
use Rattle.bounded.specs.Items.{items}

-- what is read of values that were placed in front of others: a value, or what stands behind
placed_read : {X Y Z : Type 0} (keep : X → Y) (d : X) (e : Y) (see : Y → Z) (look : X → Z) (more : List Y) (xs : List X) (k : ℕ) → ((x : X) → see (keep x) ≡ look x) → ((i : ℕ) → see (get_or more i e) ≡ look d) → see (get_or (map keep xs ++ drop (length (map keep xs)) more) k e) ≡ look (get_or xs k d)
placed_read keep d e see look more [] k same none = none k
placed_read keep d e see look [] (x ∷ xs) zero same none = same x
placed_read keep d e see look (m ∷ more) (x ∷ xs) zero same none = same x
placed_read keep d e see look [] (x ∷ xs) (suc k) same none = ap (λ l. see (get_or (map keep xs ++ l) k e)) (sym (drop-nil (length (map keep xs)))) ∙ placed_read keep d e see look [] xs k same none
placed_read keep d e see look (m ∷ more) (x ∷ xs) (suc k) same none = placed_read keep d e see look more xs k same (λ i. none (suc i))

-- copies are all alike
alike : {Y Z : Type 0} (see : Y → Z) (y e : Y) (z : Z) (n i : ℕ) → see y ≡ z → see e ≡ z → see (get_or (replicate n y) i e) ≡ z
alike see y e z zero i p q = q
alike see y e z (suc n) zero p q = p
alike see y e z (suc n) (suc i) p q = alike see y e z n i p q

zero_of_four : (k : ℕ) → ◌≡◌ {A = ℕ} (get_or (replicate 4 0) k 0) 0
zero_of_four k = alike (λ y. y) 0 0 0 4 k refl refl

number_in_four : (xs : List ℕ) (k : ℕ) → get_or (in_four xs) k 0 ≡ get_or xs k 0
number_in_four xs k = ap (λ l. get_or (l ++ drop (length l) (replicate 4 0)) k 0) (sym (map-id xs)) ∙ placed_read (λ x. x) 0 0 (λ y. y) (λ x. x) (replicate 4 0) xs k (λ x. refl) zero_of_four

abbrev no_factors : LinearSymbol
no_factors = record { constant = 0; factors = [] }

linear_constant : (ss : List LinearSymbol) (f : ℕ) → (get_or (linear_tables ss) f no_factors).constant ≡ (get_or ss f no_factors).constant
unfolding no_linear
linear_constant ss f =
    placed_read linear_table no_factors no_factors (λ s. s.constant) (λ s. s.constant) no_linear ss f (λ s. refl) (λ i. alike (λ s. s.constant) record { constant = 0; factors = replicate 4 0 } no_factors 0 32 i refl refl)

linear_factor : (ss : List LinearSymbol) (f k : ℕ) → get_or (get_or (linear_tables ss) f no_factors).factors k 0 ≡ get_or (get_or ss f no_factors).factors k 0
unfolding no_linear
linear_factor ss f k =
    placed_read linear_table no_factors no_factors (λ s. get_or s.factors k 0) (λ s. get_or s.factors k 0) no_linear ss f (λ s. number_in_four s.factors k)
    (λ i. alike (λ s. get_or s.factors k 0) record { constant = 0; factors = replicate 4 0 } no_factors 0 32 i (zero_of_four k) refl)

linear_same : (sig : List ℕ) (ss : List LinearSymbol) → linear_part sig (linear_tables ss) ≡ linear_part sig ss
linear_same sig ss =
    ap₂ (λ c e. record { sig = sig; dim = 1; constant = c; entry = e })
    (fun_ext (λ f. fun_ext (λ i. linear_constant ss f)))
    (fun_ext (λ f. fun_ext (λ k. fun_ext (λ i. fun_ext (λ j. linear_factor ss f k)))))

module _ (i j : ℕ) where
  abbrev in_rows : List (List ℕ) → ℕ
  in_rows rows = get_or (get_or rows i []) j 0

  rows_same : (rows : List (List ℕ)) → in_rows (rows_table rows) ≡ in_rows rows
  rows_same rows =
      placed_read in_four [] [] (λ r. get_or r j 0) (λ r. get_or r j 0) (replicate 4 (replicate 4 0)) rows i (λ r. number_in_four r j) (λ n. alike (λ r. get_or r j 0) (replicate 4 0) [] 0 4 n (zero_of_four j) refl)

  no_row : in_rows (replicate 4 (replicate 4 0)) ≡ 0
  no_row = alike (λ r. get_or r j 0) (replicate 4 0) [] 0 4 i (zero_of_four j) refl

  module _ (k : ℕ) where
    abbrev in_matrices : List Matrix → ℕ
    in_matrices ms = in_rows (get_or ms k record { rows = [] }).rows

    matrices_same : (ms : List Matrix) → in_matrices (matrices_table ms) ≡ in_matrices ms
    matrices_same ms =
        placed_read matrix_table record { rows = [] } record { rows = [] } (λ m. in_rows m.rows) (λ m. in_rows m.rows) (replicate 4 record { rows = replicate 4 (replicate 4 0) }) ms k (λ m. rows_same m.rows)
        (λ n. alike {Y = Matrix} (λ m. in_rows m.rows) record { rows = replicate 4 (replicate 4 0) } record { rows = [] } 0 4 n no_row refl)

    no_matrix : in_matrices (replicate 4 record { rows = replicate 4 (replicate 4 0) }) ≡ 0
    no_matrix = alike {Y = Matrix} (λ m. in_rows m.rows) record { rows = replicate 4 (replicate 4 0) } record { rows = [] } 0 4 k no_row refl

abbrev no_matrices : MatrixSymbol
no_matrices = record { constant = []; matrices = [] }

matrix_constant : (ss : List MatrixSymbol) (f i : ℕ) → get_or (get_or (symbol_tables ss) f no_matrices).constant i 0 ≡ get_or (get_or ss f no_matrices).constant i 0
unfolding no_symbols
matrix_constant ss f i =
    placed_read symbol_table no_matrices no_matrices (λ s. get_or s.constant i 0) (λ s. get_or s.constant i 0) no_symbols ss f (λ s. number_in_four s.constant i)
    (λ n. alike (λ s. get_or s.constant i 0) record { constant = replicate 4 0; matrices = replicate 4 record { rows = replicate 4 (replicate 4 0) } } no_matrices 0 32 n (zero_of_four i) refl)

matrix_entry : (ss : List MatrixSymbol) (f k i j : ℕ) → in_matrices i j k (get_or (symbol_tables ss) f no_matrices).matrices ≡ in_matrices i j k (get_or ss f no_matrices).matrices
unfolding no_symbols
matrix_entry ss f k i j =
    placed_read symbol_table no_matrices no_matrices (λ s. in_matrices i j k s.matrices) (λ s. in_matrices i j k s.matrices) no_symbols ss f (λ s. matrices_same i j k s.matrices)
    (λ n. alike (λ s. in_matrices i j k s.matrices) record { constant = replicate 4 0; matrices = replicate 4 record { rows = replicate 4 (replicate 4 0) } } no_matrices 0 32 n (no_matrix i j k) refl)

matrix_same : (sig : List ℕ) (d : ℕ) (ss : List MatrixSymbol) → matrix_part sig d (symbol_tables ss) ≡ matrix_part sig d ss
matrix_same sig d ss =
    ap₂ (λ c e. record { sig = sig; dim = d; constant = c; entry = e })
    (fun_ext (λ f. fun_ext (λ i. matrix_constant ss f i)))
    (fun_ext (λ f. fun_ext (λ k. fun_ext (λ i. fun_ext (λ j. matrix_entry ss f k i j)))))

-- a part that keeps numbers means what they mean
one_means : (sig : List ℕ) (p : Part) (n : Numbers) → kept_part p ≡ kept sig n → part_algebra p ≡ numbers_algebra sig n
one_means sig (kinds.Linear p) (linear ss) e =
    let r : ◌≡◌ {A = Kept} record { arities = arities_of p.signature; numbers = linear p.symbols } record { arities = sig; numbers = linear (linear_tables ss) } = cc in
    let n = ap (λ k. k.numbers) r in
    let s : p.symbols ≡ linear_tables ss = cc in
    ap (λ P. part_means P (linear_ceiling P)) (ap₂ linear_part (ap (λ k. k.arities) r) s ∙ linear_same sig ss)
one_means sig (kinds.Matrix p) (matrix d ss) e =
    let r : ◌≡◌ {A = Kept} record { arities = arities_of p.signature; numbers = matrix p.dimension p.symbols } record { arities = sig; numbers = matrix d (symbol_tables ss) } = cc in
    let n = ap (λ k. k.numbers) r in
    let m : p.dimension ≡ d = cc in
    let s : p.symbols ≡ symbol_tables ss = cc in
    ap (λ P. part_means P no_ceiling) (ap (λ l. matrix_part l p.dimension p.symbols) (ap (λ k. k.arities) r) ∙ ap₂ (matrix_part sig) m s ∙ matrix_same sig d ss)
one_means sig (kinds.Linear p) (matrix d ss) e =
    let r : ◌≡◌ {A = Kept} record { arities = arities_of p.signature; numbers = linear p.symbols } record { arities = sig; numbers = matrix d (symbol_tables ss) } = cc in
    let n = ap (λ k. k.numbers) r in
    absurd cc
one_means sig (kinds.Matrix p) (linear ss) e =
    let r : ◌≡◌ {A = Kept} record { arities = arities_of p.signature; numbers = matrix p.dimension p.symbols } record { arities = sig; numbers = linear (linear_tables ss) } = cc in
    let n = ap (λ k. k.numbers) r in
    absurd cc
one_means sig (kinds.Missing p) n e = absurd cc

pub all_mean : (sig : List ℕ) (ps : List Part) (ns : List Numbers) → map kept_part ps ≡ all_kept sig ns → map part_algebra ps ≡ all_algebras sig ns
all_mean sig [] [] e = refl
all_mean sig [] (n ∷ ns) e = absurd cc
all_mean sig (p ∷ ps) [] e = absurd cc
all_mean sig (p ∷ ps) (n ∷ ns) e =
    let h : kept_part p ≡ kept sig n = cc in
    let t : map kept_part ps ≡ all_kept sig ns = cc in
    ap₂ (λ x xs. x ∷ xs) (one_means sig p n h) (all_mean sig ps ns t)

pub reply_means : (sig : List ℕ) (r : Result Certificate CertificateFault) (s : Result (List Numbers) CertificateFault) → viewed parts_of r ≡ viewed (all_kept sig) s → viewed algebras_of r ≡ viewed (all_algebras sig) s
reply_means sig (Ok c) (Ok ns) e = let h : parts_of c ≡ all_kept sig ns = cc in ap Ok (all_mean sig (items c.parts) ns h)
reply_means sig (Ok c) (Err f) e = absurd cc
reply_means sig (Err f) (Ok ns) e = absurd cc
reply_means sig (Err f) (Err g) e = let h : f ≡ g = cc in ap Err h
