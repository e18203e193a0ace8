-- The records of each kind are read exactly.
use Rattle.std.proofs.Common.{◌≡◌, ℕ, ◌+◌, ◌*◌, ◌≤◌, Bool, true, false, cond, ◌&&◌, List, [], ◌∷◌, length, drop, flat_map, Ok, Err, Result, sym, refl, ap, ◌∙◌, arith, eqb, leb}
use Rattle.std.proofs.lemmas.Bool.{cond-true, eq-eqb, eqb-true, and_parts, and_from, leb-true, le-leb}
use Rattle.parts.specs.declared.linear.LinearSymbol.{LinearSymbol}
use Rattle.parts.specs.declared.matrix.MatrixSymbol.{MatrixSymbol}
use Rattle.encodings.specs.declared.flaw.RecordFlaw.TheVariants.{WrongLength, OutOfRange, WrongSymbols}
use Rattle.encodings.specs.declared.fault.CertificateFault.{CertificateFault}
use Rattle.encodings.specs.Numbers.{Numbers, Numbers.linear, Numbers.matrix, IsLinearSymbol, IsMatrixSymbol, Formed}
use Rattle.encodings.specs.Encoding.{linear_bytes, symbol_bytes, body_bytes, kind_of}
use Rattle.encodings.specs.Bodies.{Body, Proper, Reply, then, flawed, byte, ranged, each, matrix_symbol, linear_size, matrix_size, sized, header_reply, linear_reply, matrix_reply}
use Rattle.encodings.proofs.Exact.{body, Taken, Fits, proper_behind, Within, ranged_exact, each_exact}
use Rattle.encodings.proofs.Bodies.{linear_exact, symbol_exact, zipped_size, linear_long, symbol_long, Ends, sized_fits, sized_whole}

module _ (sig : List ℕ) where
  -- the header
  abbrev counts : ℕ → List ℕ
  counts n = n ∷ (length sig ∷ [])

  abbrev symbols_judged : ℕ × Body → Result ℕ CertificateFault
  symbols_judged parts = then (byte parts.1) (λ symbols. cond (eqb symbols.0 (length sig)) (Ok parts.0) (flawed WrongSymbols parts.1.at))

  same_symbols : (s at x y : ℕ) (t : Bool) → eqb y (length sig) ≡ t → Within 1 4 x → Ends counts (Within 1 4) (body s at (x ∷ (y ∷ []))) (cond t (Ok x) (flawed WrongSymbols (at + 1)))
  same_symbols s at x y true e h = (h, ap (λ n. x ∷ (n ∷ [])) (eqb-true y (length sig) e))
  same_symbols s at x y false e h = omega arith

  in_range : (s at x y : ℕ) (t : Bool) → (leb 1 x && leb x 4) ≡ t → Ends counts (Within 1 4) (body s at (x ∷ (y ∷ []))) (then (cond t (Ok (x, body s (at + 1) (y ∷ []))) (flawed OutOfRange at)) symbols_judged)
  in_range s at x y true e = let p = and_parts (leb 1 x) (leb x 4) e in same_symbols s at x y (eqb y (length sig)) refl (leb-true 1 x p.0, leb-true x 4 p.1)
  in_range s at x y false e = omega arith

  two_bytes : (s at : ℕ) (l : List ℕ) → s ≤ at → (t : Bool) → eqb (length l) 2 ≡ t → Ends counts (Within 1 4) (body s at l) (then (cond t (Ok (body s at l)) (flawed WrongLength s)) (λ b. then (ranged 1 4 b) symbols_judged))
  two_bytes s at [] h true e = let k = eqb-true 0 2 e in absurd (omega arith)
  two_bytes s at (x ∷ []) h true e = let k = eqb-true 1 2 e in absurd (omega arith)
  two_bytes s at (x ∷ (y ∷ [])) h true e = in_range s at x y (leb 1 x && leb x 4) refl
  two_bytes s at (x ∷ (y ∷ (z ∷ l))) h true e = let k = eqb-true (length (x ∷ (y ∷ (z ∷ l)))) 2 e in absurd (omega arith)
  two_bytes s at l h false e = omega arith

  pub header_fits : (b : Body) → Proper b → Ends counts (Within 1 4) b (header_reply sig b)
  header_fits b p = two_bytes b.start b.at b.left p.behind (eqb (length b.left) 2) refl

  pub header_whole : (n : ℕ) → Within 1 4 n → (s at : ℕ) → header_reply sig (body s at (n ∷ (length sig ∷ []))) ≡ Ok n
  header_whole n h s at =
      ap (λ a. then a symbols_judged) (cond-true (leb 1 n && leb n 4) _ _ (and_from (leb 1 n) (leb n 4) (le-leb 1 n h.0) (le-leb n 4 h.1)))
      ∙ cond-true (eqb (length sig) (length sig)) _ _ (eq-eqb (length sig) (length sig) refl)

  -- parts of either kind
  abbrev pub Of : ℕ → Numbers → Type 0
  Of kind p = Formed sig p × (kind_of p ≡ kind)

  pub linear_fits : (b : Body) → Proper b → Ends body_bytes (Of 16) b (linear_reply sig b)
  linear_fits b p = sized_fits (each_exact linear_exact sig) (linear_size sig) (zipped_size IsLinearSymbol linear_bytes (λ arity. 1 + arity) linear_long sig) linear body_bytes (Of 16) (λ x h. (h, refl)) (λ x. refl) b p

  pub linear_whole : (symbols : List LinearSymbol) → Formed sig (linear symbols) → (s at : ℕ) → linear_reply sig (body s at (body_bytes (linear symbols))) ≡ Ok (linear symbols)
  linear_whole symbols h s at = sized_whole (each_exact linear_exact sig) (linear_size sig) (zipped_size IsLinearSymbol linear_bytes (λ arity. 1 + arity) linear_long sig) linear body_bytes (Of 16) (λ x h. (h, refl)) (λ x. refl) symbols h s at

  abbrev rest_judged : ℕ × Body → Result Numbers CertificateFault
  rest_judged d = then (sized (matrix_size d.0 sig) d.1) (λ b. then (each (matrix_symbol d.0) sig b) (λ symbols. Ok (matrix d.0 symbols.0)))

  -- behind the dimension
  abbrev Behind : ℕ → Numbers → Type 0
  Behind d p = Of 17 p × (body_bytes p ≡ d ∷ drop 1 (body_bytes p))

  behind_dimension : (b : Body) (d : ℕ) (c : Body) → Taken (λ v. v ∷ []) (Within 1 4) b d c → (a : Result Numbers CertificateFault) → Ends (λ p. drop 1 (body_bytes p)) (Behind d) c a → Ends body_bytes (Of 17) b a
  behind_dimension b d c t (Ok p) e = (e.0.0, t.bytes ∙ ap (λ l. d ∷ l) e.1 ∙ sym e.0.1)
  behind_dimension b d c t (Err f) e =
      let n = t.at in
      let m = ap length t.bytes in
      omega arith

  by_dimension : (b : Body) → Proper b → (a : Reply ℕ) → Fits (λ v. v ∷ []) (Within 1 4) b a → Ends body_bytes (Of 17) b (then a rest_judged)
  by_dimension b p (Ok d) t =
      let h = t.formed in
      behind_dimension b d.0 d.1 t (rest_judged d)
      (sized_fits (each_exact (symbol_exact d.0 h.0) sig) (matrix_size d.0 sig) (zipped_size (IsMatrixSymbol d.0) symbol_bytes (λ arity. d.0 + arity * (d.0 * d.0)) (symbol_long d.0) sig) (matrix d.0) (λ p. drop 1 (body_bytes p)) (Behind d.0) (λ x k. (((h.0, h.1, k), refl), refl)) (λ x. refl) d.1 (proper_behind p t))
  by_dimension b p (Err e) t = t

  pub matrix_fits : (b : Body) → Proper b → Ends body_bytes (Of 17) b (matrix_reply sig b)
  matrix_fits b p = by_dimension b p (ranged 1 4 b) ((ranged_exact 1 4).fits b p)

  pub matrix_whole : (d : ℕ) (symbols : List MatrixSymbol) → Formed sig (matrix d symbols) → (s at : ℕ) → matrix_reply sig (body s at (body_bytes (matrix d symbols))) ≡ Ok (matrix d symbols)
  matrix_whole d symbols h s at =
      ap (λ a. then a rest_judged) ((ranged_exact 1 4).whole d (h.0, h.1) s at (flat_map symbol_bytes symbols))
      ∙ sized_whole (each_exact (symbol_exact d h.0) sig) (matrix_size d sig) (zipped_size (IsMatrixSymbol d) symbol_bytes (λ arity. d + arity * (d * d)) (symbol_long d) sig) (matrix d) (λ p. drop 1 (body_bytes p)) (Behind d) (λ x k. (((h.0, h.1, k), refl), refl)) (λ x. refl) symbols h.2 s (at + 1)
