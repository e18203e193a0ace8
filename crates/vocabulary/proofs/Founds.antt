-- Names found by number.
use Rattle.std.proofs.Common.{◌≡◌, ℕ, suc, ◌+◌, ◌<◌, Bool, true, false, cond, ◌⊎◌, List, [], ◌∷◌, ◌++◌, length, get_or, Some, None, Option, sym, refl, ap, ◌∙◌, inl, inr, arith}
use Rattle.std.specs.Str.{bytes_eq}
use Rattle.std.proofs.lemmas.Slice.Eq.{bytes_eq-Decides}
use Rattle.std.proofs.lemmas.Bool.{cond-true, cond-false}
use Rattle.terms.proofs.Booleans.{clash}
use Rattle.vocabulary.specs.Vocabularies.{Vocabulary, found, var_or, code_of}

pub record Found (k c : ℕ) (xs : List (List ℕ)) (n : List ℕ) : Type 0 where
  pub index : ℕ
  pub is : c ≡ k + index
  pub inside : index < length xs
  pub named : get_or xs index [] ≡ n

-- a number that is found has the name
pub found_is : (k c : ℕ) (xs : List (List ℕ)) (n : List ℕ) → found k xs n ≡ Some c → Found k c xs n
found_is k c [] n e = clash (cc)
found_is k c (x ∷ xs) n e = go (found_is (suc k) c xs n) (bytes_eq x n) refl e
  where
    go : (found (suc k) xs n ≡ Some c → Found (suc k) c xs n) → (b : Bool) → bytes_eq x n ≡ b → cond b (Some k) (found (suc k) xs n) ≡ Some c → Found k c (x ∷ xs) n
    go ih true s f = record { index = 0; is = (let z : k ≡ c = cc in omega arith); inside = omega arith; named = (bytes_eq-Decides x n).0 s }
    go ih false s f = let h = ih f in let a = h.is in let b = h.inside in record { index = suc h.index; is = omega arith; inside = omega arith; named = h.named }

-- what is found stays found where more names come behind
pub found_more : (k c : ℕ) (xs ys : List (List ℕ)) (n : List ℕ) → found k xs n ≡ Some c → found k (xs ++ ys) n ≡ Some c
found_more k c [] ys n e = clash (cc)
found_more k c (x ∷ xs) ys n e = go (found_more (suc k) c xs ys n) (bytes_eq x n) refl e
  where
    go : (found (suc k) xs n ≡ Some c → found (suc k) (xs ++ ys) n ≡ Some c) → (b : Bool) → bytes_eq x n ≡ b → cond b (Some k) (found (suc k) xs n) ≡ Some c → cond (bytes_eq x n) (Some k) (found (suc k) (xs ++ ys) n) ≡ Some c
    go ih true s f = cond-true _ _ _ s ∙ f
    go ih false s f = cond-false _ _ _ s ∙ ih f

-- a new name behind others is found at their number
pub found_new : (k : ℕ) (xs : List (List ℕ)) (n : List ℕ) → found k xs n ≡ None → found k (xs ++ n ∷ []) n ≡ Some (k + length xs)
found_new k [] n e = cond-true _ _ _ ((bytes_eq-Decides n n).1 refl) ∙ (let z : k ≡ k + 0 = omega arith in ap Some z)
found_new k (x ∷ xs) n e = go (found_new (suc k) xs n) (bytes_eq x n) refl e
  where
    go : (found (suc k) xs n ≡ None → found (suc k) (xs ++ n ∷ []) n ≡ Some (suc k + length xs)) → (b : Bool) → bytes_eq x n ≡ b → cond b (Some k) (found (suc k) xs n) ≡ None → cond (bytes_eq x n) (Some k) (found (suc k) (xs ++ n ∷ []) n) ≡ Some (k + suc (length xs))
    go ih true s f = clash (cc)
    go ih false s f = cond-false _ _ _ s ∙ ih f ∙ (let z : suc k + length xs ≡ k + suc (length xs) = omega arith in ap Some z)

module _ (v : Vocabulary) where
  pub record IsVariable (n : List ℕ) (c : ℕ) : Type 0 where
    pub number : ℕ
    pub is : c ≡ 32768 + number
    pub inside : number < length v.variables
    pub named : get_or v.variables number [] ≡ n

  pub record IsSymbol (n : List ℕ) (c : ℕ) : Type 0 where
    pub inside : c < length v.symbols
    pub named : get_or v.symbols c [] ≡ n

  -- a code stands for a variable or a symbol of the name
  pub code_is : (n : List ℕ) (c : ℕ) → code_of v n ≡ Some c → IsVariable n c ⊎ IsSymbol n c
  code_is n c e = go (found 0 v.variables n) refl e
    where
      go : (o : Option ℕ) → found 0 v.variables n ≡ o → var_or o (found 0 v.symbols n) ≡ Some c → IsVariable n c ⊎ IsSymbol n c
      go (Some x) f q =
          let h = found_is 0 x v.variables n f in
          let i = h.inside in
          let a : h.index ≡ x = let a = h.is in omega arith in
          inl (record { number = x; is = (let b : c ≡ 32768 + x = cc in b); inside = omega arith; named = ap (λ j. get_or v.variables j []) (sym a) ∙ h.named })
      go None f q =
          let h = found_is 0 c v.symbols n q in
          let i = h.inside in
          let a : h.index ≡ c = let a = h.is in omega arith in
          inr (record { inside = omega arith; named = ap (λ j. get_or v.symbols j []) (sym a) ∙ h.named })
