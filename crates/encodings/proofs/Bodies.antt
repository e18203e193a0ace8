-- The bodies of records are read exactly.
use Rattle.std.proofs.Common.{◌≡◌, ℕ, suc, ◌+◌, ◌*◌, ◌≤◌, Bool, true, false, cond, List, [], ◌∷◌, ◌++◌, length, flat_map, sum_by, All, Ok, Err, Result, get_or, sym, refl, ap, ◌∙◌, subst, arith, length-append, append-nil, map-id, eqb, suc-mul, zero-mul}
use Rattle.std.specs.List.{AllZip}
use Rattle.std.proofs.lemmas.List.Concat.{flat_map_single}
use Rattle.std.proofs.lemmas.Bool.{cond-true, eq-eqb, eqb-true}
use Rattle.std.proofs.lemmas.List.Sums.{sum_by-cons}
use mathlib.Core.Path.{fun_ext}
use Rattle.parts.specs.declared.linear.LinearSymbol.{LinearSymbol}
use Rattle.parts.specs.declared.matrix.Matrix.{Matrix}
use Rattle.parts.specs.declared.matrix.MatrixSymbol.{MatrixSymbol}
use Rattle.encodings.specs.declared.flaw.RecordFlaw.TheVariants.{WrongLength}
use Rattle.encodings.specs.declared.fault.CertificateFault.{CertificateFault}
use Rattle.encodings.specs.Numbers.{IsByte, IsLinearSymbol, IsVector, IsMatrix, IsMatrixSymbol, top_left}
use Rattle.encodings.specs.Encoding.{linear_bytes, matrix_bytes, symbol_bytes}
use Rattle.encodings.specs.Bodies.{Body, Proper, Reply, then, flawed, byte, positive, times, linear_symbol, row, square, matrix_symbol, sized}
use Rattle.encodings.proofs.Exact.{body, Taken, Fits, Exact, byte_exact, Within, ranged_exact, both_fit, both_whole, Many, times_exact, All-head}

-- single values, one behind the other
singles : (xs : List ℕ) → flat_map (λ x. x ∷ []) xs ≡ xs
singles xs = flat_map_single (λ x. x) xs ∙ map-id xs

rewritten : {X : Type 0} {read : Body → Reply X} {v : X → List ℕ} {P : X → Type 0} (w : X → List ℕ) → ((x : X) → v x ≡ w x) → Exact read v P → Exact read w P
rewritten {read = read} {P = P} w e f = subst (λ w. Exact read w P) (fun_ext e) f

bytes_exact : (n : ℕ) → Exact (times byte n) (λ xs. xs) (Many IsByte n)
bytes_exact n = rewritten (λ xs. xs) singles (times_exact byte_exact n)

factors_exact : (n : ℕ) → Exact (times positive n) (λ xs. xs) (Many (Within 1 255) n)
factors_exact n = rewritten (λ xs. xs) singles (times_exact (ranged_exact 1 255) n)

linear_whole : (arity : ℕ) (x : LinearSymbol) → IsLinearSymbol arity x → (s at : ℕ) (rest : List ℕ)
    → linear_symbol arity (body s at (linear_bytes x ++ rest)) ≡ Ok (x, body s (at + length (linear_bytes x)) rest)
linear_whole arity x h s at rest =
    both_whole byte_exact (factors_exact arity) (λ c fs. record { constant = c; factors = fs }) linear_bytes (IsLinearSymbol arity) (λ c fs h k. (h, k.0, k.1)) (λ c fs. refl) x.constant x.factors h.0 (h.1, h.2) s at rest

pub linear_exact : (arity : ℕ) → Exact (linear_symbol arity) linear_bytes (IsLinearSymbol arity)
linear_exact arity = record {
  fits = both_fit byte_exact (factors_exact arity) (λ c fs. record { constant = c; factors = fs }) linear_bytes (IsLinearSymbol arity) (λ c fs h k. (h, k.0, k.1)) (λ c fs. refl);
  whole = linear_whole arity;
}

-- the first byte of a matrix is its top left entry
first_is : (d v : ℕ) (rows : List (List ℕ)) (l m : List ℕ) → 1 ≤ d → Many (IsVector d) d rows → flat_map (λ row. row) rows ++ l ≡ v ∷ m → get_or (get_or rows 0 []) 0 0 ≡ v
first_is d v [] l m some h e = let n = h.0 in absurd (omega arith)
first_is d v ([] ∷ rows) l m some h e = let n = (All-head (IsVector d) [] rows h.1).0 in absurd (omega arith)
first_is d v ((w ∷ r) ∷ rows) l m some h e = ap (λ l. get_or l 0 0) e

-- so it stands in front of others
starts_with : (d : ℕ) (m : Matrix) (l : List ℕ) → 1 ≤ d → IsMatrix d m → (rest : List ℕ) × (matrix_bytes m ++ l ≡ top_left m ∷ rest)
starts_with d m l some h = go m.rows l h.0 h.1
  where
    go : (rows : List (List ℕ)) (l : List ℕ) → length rows ≡ d → All (IsVector d) rows → (rest : List ℕ) × (flat_map (λ row. row) rows ++ l ≡ get_or (get_or rows 0 []) 0 0 ∷ rest)
    go [] l n a = absurd (omega arith)
    go ([] ∷ rows) l n a = let k = (All-head (IsVector d) [] rows a).0 in absurd (omega arith)
    go ((w ∷ r) ∷ rows) l n a = ((r ++ flat_map (λ row. row) rows) ++ l, refl)

module _ (d : ℕ) (some : 1 ≤ d) where
  rows_exact : Exact (times (row d) d) (flat_map (λ row. row)) (Many (IsVector d) d)
  rows_exact = times_exact (bytes_exact d) d

  abbrev of_rows : Reply (List (List ℕ)) → Reply Matrix
  of_rows a = then a (λ rows. Ok (record { rows = rows.0 }, rows.1))

  rows_fit : (b : Body) (v : ℕ) (c : Body) → Taken (λ v. v ∷ []) (Within 1 255) b v c → (a : Reply (List (List ℕ))) → Fits (flat_map (λ row. row)) (Many (IsVector d) d) b a → Fits matrix_bytes (IsMatrix d) b (of_rows a)
  rows_fit b v c t (Ok rows) u =
      let e = first_is d v rows.0 rows.1.left c.left some u.formed (sym u.bytes ∙ t.bytes) in
      record { formed = (u.formed.0, u.formed.1, subst (λ n. 1 ≤ n) (sym e) t.formed.0); bytes = u.bytes; start = u.start; at = u.at }
  rows_fit b v c t (Err e) u = u

  top_fit : (b : Body) → Proper b → (a : Reply ℕ) → Fits (λ v. v ∷ []) (Within 1 255) b a → Fits matrix_bytes (IsMatrix d) b (then a (λ first. of_rows (times (row d) d b)))
  top_fit b p (Ok r) t = rows_fit b r.0 r.1 t (times (row d) d b) (rows_exact.fits b p)
  top_fit b p (Err e) t = t

  square_whole : (m : Matrix) → IsMatrix d m → (s at : ℕ) (rest : List ℕ) → square d (body s at (matrix_bytes m ++ rest)) ≡ Ok (m, body s (at + length (matrix_bytes m)) rest)
  square_whole m h s at rest =
      let f = starts_with d m rest some h in
      let small : top_left m ≤ 255 = at_most m.rows h.0 h.1 in
      ap (λ a. then a (λ first. of_rows (times (row d) d (body s at (matrix_bytes m ++ rest)))))
      (ap (λ l. positive (body s at l)) f.1 ∙ (ranged_exact 1 255).whole (top_left m) (h.2, small) s at f.0)
      ∙ ap of_rows (rows_exact.whole m.rows (h.0, h.1) s at rest)
    where
      at_most : (rows : List (List ℕ)) → length rows ≡ d → All (IsVector d) rows → get_or (get_or rows 0 []) 0 0 ≤ 255
      at_most [] n a = absurd (omega arith)
      at_most ([] ∷ rows) n a = let k = (All-head (IsVector d) [] rows a).0 in absurd (omega arith)
      at_most ((w ∷ r) ∷ rows) n a = All-head IsByte w r (All-head (IsVector d) (w ∷ r) rows a).1

  pub square_exact : Exact (square d) matrix_bytes (IsMatrix d)
  square_exact = record { fits = λ b p. top_fit b p (positive b) ((ranged_exact 1 255).fits b p); whole = square_whole }

  symbol_whole : (arity : ℕ) (x : MatrixSymbol) → IsMatrixSymbol d arity x → (s at : ℕ) (rest : List ℕ)
      → matrix_symbol d arity (body s at (symbol_bytes x ++ rest)) ≡ Ok (x, body s (at + length (symbol_bytes x)) rest)
  symbol_whole arity x h s at rest =
      both_whole (bytes_exact d) (times_exact square_exact arity) (λ c ms. record { constant = c; matrices = ms }) symbol_bytes (IsMatrixSymbol d arity) (λ c ms h k. (h, k.0, k.1)) (λ c ms. refl) x.constant x.matrices h.0 (h.1, h.2) s at rest

  pub symbol_exact : (arity : ℕ) → Exact (matrix_symbol d arity) symbol_bytes (IsMatrixSymbol d arity)
  symbol_exact arity = record {
    fits = both_fit (bytes_exact d) (times_exact square_exact arity) (λ c ms. record { constant = c; matrices = ms }) symbol_bytes (IsMatrixSymbol d arity) (λ c ms h k. (h, k.0, k.1)) (λ c ms. refl);
    whole = symbol_whole arity;
  }

-- how many bytes values take
pub zipped_size : {A X : Type 0} (P : A → X → Type 0) (write : X → List ℕ) (size : A → ℕ) → ((a : A) (x : X) → P a x → length (write x) ≡ size a) → (items : List A) (xs : List X) → AllZip P items xs → length (flat_map write xs) ≡ sum_by size items
zipped_size P write size sizes [] [] h = refl
zipped_size P write size sizes [] (x ∷ xs) h = absurd h
zipped_size P write size sizes (a ∷ items) [] h = absurd h
zipped_size P write size sizes (a ∷ items) (x ∷ xs) h =
    let l = length-append (write x) (flat_map write xs) in
    let e = sizes a x h.0 in
    let r = zipped_size P write size sizes items xs h.1 in
    let m = sum_by-cons size a items in
    omega arith

many_size : {X : Type 0} (P : X → Type 0) (write : X → List ℕ) (k : ℕ) → ((x : X) → P x → length (write x) ≡ k) → (xs : List X) → All P xs → length (flat_map write xs) ≡ length xs * k
many_size P write k sizes [] h = sym (zero-mul k)
many_size P write k sizes (x ∷ xs) h =
    let l = length-append (write x) (flat_map write xs) in
    let e = sizes x (All-head P x xs h) in
    let r = many_size P write k sizes xs (λ i d l. h (suc i) d (omega arith)) in
    let m = suc-mul (length xs) k in
    omega arith

pub linear_long : (arity : ℕ) (x : LinearSymbol) → IsLinearSymbol arity x → length (linear_bytes x) ≡ 1 + arity
linear_long arity x h = let e = h.1 in omega arith

matrix_long : (d : ℕ) (m : Matrix) → IsMatrix d m → length (matrix_bytes m) ≡ d * d
matrix_long d m h = many_size (IsVector d) (λ row. row) d (λ row h. h.0) m.rows h.1 ∙ ap (λ n. n * d) h.0

pub symbol_long : (d arity : ℕ) (x : MatrixSymbol) → IsMatrixSymbol d arity x → length (symbol_bytes x) ≡ d + arity * (d * d)
symbol_long d arity x h =
    let l = length-append x.constant (flat_map matrix_bytes x.matrices) in
    let m = many_size (IsMatrix d) matrix_bytes (d * d) (matrix_long d) x.matrices h.2 ∙ ap (λ n. n * (d * d)) h.1 in
    let e = h.0.0 in
    omega arith

-- a whole body: nothing is left behind its values
abbrev pub Ends : {X : Type 0} → (X → List ℕ) → (X → Type 0) → Body → Result X CertificateFault → Type 0
Ends write P b (Ok x) = P x × (b.left ≡ write x)
Ends write P b (Err e) = e.offset ≤ b.at + length b.left

module _ {X Z : Type 0} {read : Body → Reply X} {v : X → List ℕ} {P : X → Type 0} (f : Exact read v P) (n : ℕ) (long : (x : X) → P x → length (v x) ≡ n)
    (made : X → Z) (write : Z → List ℕ) (R : Z → Type 0) (forms : (x : X) → P x → R (made x)) (writes : (x : X) → write (made x) ≡ v x) where
  abbrev finished : Reply X → Result Z CertificateFault
  finished a = then a (λ x. Ok (made x.0))

  no_rest : (xs ys : List ℕ) → length (xs ++ ys) ≡ length xs → xs ++ ys ≡ xs
  no_rest xs [] e = append-nil xs
  no_rest xs (y ∷ ys) e = let l = length-append xs (y ∷ ys) in absurd (omega arith)

  read_fits : (b : Body) → length b.left ≡ n → (a : Reply X) → Fits v P b a → Ends write R b (finished a)
  read_fits b e (Ok x) t =
      let l = long x.0 t.formed in
      let m = ap length t.bytes in
      (forms x.0 t.formed, t.bytes ∙ no_rest (v x.0) x.1.left (omega arith) ∙ sym (writes x.0))
  read_fits b e (Err fault) t = t

  by_size : (b : Body) → Proper b → (t : Bool) → eqb (length b.left) n ≡ t → Ends write R b (then (cond t (Ok b) (flawed WrongLength b.start)) (λ b. finished (read b)))
  by_size b p true e = read_fits b (eqb-true (length b.left) n e) (read b) (f.fits b p)
  by_size b p false e = let h = p.behind in omega arith

  pub sized_fits : (b : Body) → Proper b → Ends write R b (then (sized n b) (λ b. finished (read b)))
  sized_fits b p = by_size b p (eqb (length b.left) n) refl

  pub sized_whole : (x : X) → P x → (s at : ℕ) → then (sized n (body s at (v x))) (λ b. finished (read b)) ≡ Ok (made x)
  sized_whole x h s at =
      ap (λ a. then a (λ b. finished (read b))) (cond-true (eqb (length (v x)) n) _ _ (eq-eqb (length (v x)) n (long x h)))
      ∙ ap (λ l. finished (read (body s at l))) (sym (append-nil (v x)))
      ∙ ap finished (f.whole x h s at [])
