-- Parts that were read are monotone: a factor or a top left entry 0 was refused where it stood.
use Rattle.std.proofs.Common.{◌≡◌, ℕ, zero, suc, ◌<◌, ◌≤◌, List, [], ◌∷◌, ◌++◌, length, map, drop, get_or, replicate, flat_map, All, Ok, sym, refl, subst, arith}
use Rattle.std.specs.List.{AllZip}
use Rattle.std.proofs.lemmas.List.{get_or_append_left}
use Rattle.interpretations.specs.Laws.{Monotone}
use Rattle.parts.specs.declared.linear.LinearSymbol.{LinearSymbol}
use Rattle.parts.specs.declared.matrix.Matrix.{Matrix}
use Rattle.parts.specs.declared.matrix.MatrixSymbol.{MatrixSymbol}
use Rattle.parts.specs.Kinds.{linear_part, matrix_part}
use Rattle.encodings.specs.Numbers.{IsLinearSymbol, IsMatrixSymbol, IsMatrix, IsVector}
use Rattle.encodings.specs.Encoding.{linear_bytes, symbol_bytes}
use Rattle.encodings.specs.Bodies.{Body, Proper, mapped, ranged, each, linear_symbol, matrix_symbol}
use Rattle.encodings.proofs.Exact.{Fits, Within, ranged_exact, proper_behind, each_exact, All-head}
use Rattle.encodings.proofs.Bodies.{linear_exact, symbol_exact}
use Rattle.certificates.specs.Tables.{in_four, linear_table, matrix_table, symbol_table, linear_tables, symbol_tables, no_linear, no_symbols}
use Rattle.certificates.proofs.Filling.{kept_from}

factor_positive : (sig : List ℕ) (ss : List LinearSymbol) (rest : List LinearSymbol) (d : LinearSymbol) (f k : ℕ) → AllZip IsLinearSymbol sig ss → f < length sig → k < get_or sig f 0 → 0 < get_or (get_or (map linear_table ss ++ rest) f d).factors k 0
factor_positive [] ss rest d f k h a b = absurd (omega arith)
factor_positive (n ∷ sig) [] rest d f k h a b = absurd h
factor_positive (n ∷ sig) (s ∷ ss) rest d zero k h a b =
    let e = h.0.1 in
    let inside : k < length s.factors = omega arith in
    let p = (h.0.2 k 0 inside).0 in
    let q = get_or_append_left s.factors (drop (length s.factors) (replicate 4 0)) 0 k inside in
    omega arith
factor_positive (n ∷ sig) (s ∷ ss) rest d (suc f) k h a b = factor_positive sig ss rest d f k h.1 (omega arith) b

-- a first entry stays the first when zeros are put behind
first_entry : (d : ℕ) (rows : List (List ℕ)) (more : List (List ℕ)) → 1 ≤ d → length rows ≡ d → All (IsVector d) rows → get_or (get_or (map in_four rows ++ more) 0 []) 0 0 ≡ get_or (get_or rows 0 []) 0 0
first_entry d [] more h e a = absurd (omega arith)
first_entry d ([] ∷ rows) more h e a = let k = (All-head (IsVector d) [] rows a).0 in absurd (omega arith)
first_entry d ((x ∷ row) ∷ rows) more h e a = refl

matrix_positive : (d : ℕ) (ms : List Matrix) (more : List Matrix) (k : ℕ) → 1 ≤ d → All (IsMatrix d) ms → k < length ms → 0 < get_or (get_or (get_or (map matrix_table ms ++ more) k record { rows = [] }).rows 0 []) 0 0
matrix_positive d [] more k h a b = absurd (omega arith)
matrix_positive d (m ∷ ms) more zero h a b =
    let i = All-head (IsMatrix d) m ms a in
    let e = first_entry d m.rows (drop (length (map in_four m.rows)) (replicate 4 (replicate 4 0))) h i.0 i.1 in
    let t = i.2 in
    omega arith
matrix_positive d (m ∷ ms) more (suc k) h a b = matrix_positive d ms more k h (λ i x l. a (suc i) x (omega arith)) (omega arith)

entry_positive : (d : ℕ) (sig : List ℕ) (ss : List MatrixSymbol) (rest : List MatrixSymbol) (none : MatrixSymbol) (f k : ℕ) → 1 ≤ d → AllZip (IsMatrixSymbol d) sig ss → f < length sig → k < get_or sig f 0
    → 0 < get_or (get_or (get_or (get_or (map symbol_table ss ++ rest) f none).matrices k record { rows = [] }).rows 0 []) 0 0
entry_positive d [] ss rest none f k i h a b = absurd (omega arith)
entry_positive d (n ∷ sig) [] rest none f k i h a b = absurd h
entry_positive d (n ∷ sig) (s ∷ ss) rest none zero k i h a b =
    let e = h.0.1 in
    matrix_positive d s.matrices (drop (length (map matrix_table s.matrices)) (replicate 4 record { rows = replicate 4 (replicate 4 0) })) k i h.0.2 (omega arith)
entry_positive d (n ∷ sig) (s ∷ ss) rest none (suc f) k i h a b = entry_positive d sig ss rest none f k i h.1 (omega arith) b

formed_linear : (sig : List ℕ) (b : Body) (ss : List LinearSymbol) (c : Body) → Proper b → each linear_symbol sig b ≡ Ok (ss, c) → AllZip IsLinearSymbol sig ss
formed_linear sig b ss c p e = (subst (Fits (flat_map linear_bytes) (AllZip IsLinearSymbol sig) b) e ((each_exact linear_exact sig).fits b p)).formed

pub linear_monotone : (sig : List ℕ) (b : Body) (symbols : List LinearSymbol) (c : Body) → Proper b → Ok (symbols, c) ≡ mapped linear_tables (each linear_symbol sig b) → Monotone (linear_part sig symbols)
linear_monotone sig b symbols c p e =
    let x = kept_from linear_tables (each linear_symbol sig b) symbols c e in
    let h = formed_linear sig b x.value c p x.was in
    subst (λ ss. Monotone (linear_part sig ss)) (sym x.is)
    record {
      some = omega arith;
      tops = λ f k i j. factor_positive sig x.value (drop (length (map linear_table x.value)) no_linear) record { constant = 0; factors = [] } f k h i j;
    }

formed_matrix : (d : ℕ) (sig : List ℕ) (b : Body) (ss : List MatrixSymbol) (c : Body) → 1 ≤ d → Proper b → each (matrix_symbol d) sig b ≡ Ok (ss, c) → AllZip (IsMatrixSymbol d) sig ss
formed_matrix d sig b ss c some p e = (subst (Fits (flat_map symbol_bytes) (AllZip (IsMatrixSymbol d) sig) b) e ((each_exact (symbol_exact d some) sig).fits b p)).formed

pub matrix_monotone : (d : ℕ) (sig : List ℕ) (b : Body) (symbols : List MatrixSymbol) (c : Body) → 1 ≤ d → Proper b → Ok (symbols, c) ≡ mapped symbol_tables (each (matrix_symbol d) sig b) → Monotone (matrix_part sig d symbols)
matrix_monotone d sig b symbols c some p e =
    let x = kept_from symbol_tables (each (matrix_symbol d) sig b) symbols c e in
    let h = formed_matrix d sig b x.value c some p x.was in
    subst (λ ss. Monotone (matrix_part sig d ss)) (sym x.is)
    record {
      some = some;
      tops = λ f k i j. entry_positive d sig x.value (drop (length (map symbol_table x.value)) no_symbols) record { constant = []; matrices = [] } f k some h i j;
    }

-- what is known of a value from a range, and of the body behind it
pub ranged_taken : (low high : ℕ) (b : Body) (v : ℕ) (c : Body) → Proper b → Ok (v, c) ≡ ranged low high b → Within low high v × Proper c
ranged_taken low high b v c p e =
    let t = subst (Fits (λ v. v ∷ []) (Within low high) b) (sym e) ((ranged_exact low high).fits b p) in
    (t.formed, proper_behind p t)
