-- The first terms of codes: where they end, and when they are all there is.
use Rattle.std.proofs.Common.{◌≡◌, ℕ, zero, suc, ◌+◌, ◌≤◌, ◌&&◌, eqb, List, [], ◌∷◌, length, Some, None, Option, unwrap_or, sym, refl, ap, ◌∙◌, arith}
use Rattle.std.specs.List.{list_all}
use Rattle.std.specs.Prelude.{nat_eq}
use Rattle.std.specs.Option.{option_eq, option_map}
use Rattle.std.proofs.Math.Dec.{eqb-suc-suc, eqb-zero-suc}
use Rattle.std.proofs.lemmas.Bool.{le-leb}
use Rattle.std.proofs.Math.Bool.{and_assoc, and-false}
use Rattle.terms.specs.Codes.{arity, known, counts, is_term, span, first_terms}

module _ (sig : List ℕ) where
  whole : (o : Option ℕ) (n : ℕ) → option_eq nat_eq o (Some n) ≡ option_eq nat_eq (option_map (λ k. 1 + k) o) (Some (suc n))
  whole None n = refl
  whole (Some k) n = let e : 1 + k ≡ suc k = omega arith in sym (ap (λ m. eqb m (suc n)) e ∙ eqb-suc-suc k n)

  -- codes count as terms if every one is known and the terms take them all
  pub counts_whole : (need : ℕ) (cs : List ℕ) → counts sig need cs ≡ (list_all (known sig) cs && option_eq nat_eq (first_terms sig need cs) (Some (length cs)))
  counts_whole zero [] = refl
  counts_whole zero (c ∷ cs) = sym (ap (λ b. (known sig c && list_all (known sig) cs) && b) (eqb-zero-suc (length cs)) ∙ and-false (known sig c && list_all (known sig) cs))
  counts_whole (suc k) [] = refl
  counts_whole (suc k) (c ∷ cs) =
      let rest = first_terms sig (k + arity sig c) cs in
      ap (λ b. known sig c && b) (counts_whole (k + arity sig c) cs ∙ ap (λ b. list_all (known sig) cs && b) (whole rest (length cs)))
      ∙ sym (and_assoc (known sig c) (list_all (known sig) cs) (option_eq nat_eq (option_map (λ n. 1 + n) rest) (Some (suc (length cs)))))

  longer : (o : Option ℕ) (n : ℕ) → 1 + unwrap_or o n ≡ unwrap_or (option_map (λ k. 1 + k) o) (suc n)
  longer None n = omega arith
  longer (Some k) n = refl

  -- where they are not complete they take all codes
  pub span_first : (need : ℕ) (cs : List ℕ) → span sig need cs ≡ unwrap_or (first_terms sig need cs) (length cs)
  span_first zero cs = refl
  span_first (suc k) [] = refl
  span_first (suc k) (c ∷ cs) =
      ap (λ n. 1 + n) (span_first (k + arity sig c) cs) ∙ longer (first_terms sig (k + arity sig c) cs) (length cs)

  pub span_few : (need : ℕ) (cs : List ℕ) → span sig need cs ≤ length cs
  span_few zero cs = omega arith
  span_few (suc k) [] = omega arith
  span_few (suc k) (c ∷ cs) = let ih = span_few (k + arity sig c) cs in omega arith

  -- the counting test of a call within the limit
  pub term_whole : (cs : List ℕ) → length cs ≤ 1024 → (list_all (known sig) cs && option_eq nat_eq (first_terms sig 1 cs) (Some (length cs))) ≡ is_term sig cs
  term_whole cs h = sym (counts_whole 1 cs) ∙ sym (ap (λ b. b && counts sig 1 cs) (le-leb (length cs) 1024 h))
