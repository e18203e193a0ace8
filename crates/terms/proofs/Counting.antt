-- The counting test, code by code.
use Rattle.std.proofs.Common.{◌≡◌, ℕ, zero, suc, ◌+◌, ◌-◌, ◌<◌, ◌≤◌, Bool, true, false, Some, None, cond, ◌&&◌, eqb, ltb, List, [], ◌∷◌, length, get_or, sym, refl, ap, ◌∙◌, arith}
use lib.Dec.{eqb-suc-zero}
use Rattle.std.proofs.lemmas.Bool.{lt-ltb, le-ltb}
use Rattle.terms.specs.Codes.{counts, known, arity}

-- what an answer about a known code says
pub of_some : (b : Bool) (a n : ℕ) → Some n ≡ cond b (Some a) None → (b ≡ true) × (n ≡ a)
of_some true a n e = (refl, cc)
of_some false a n e = cc

pub of_none : (b : Bool) (a : ℕ) → None ≡ cond b (Some a) None → b ≡ false
of_none false a e = refl
of_none true a e = cc

module _ (sig : List ℕ) where
  pub counts_nil : (need : ℕ) → counts sig need [] ≡ eqb need 0
  counts_nil zero = refl
  counts_nil (suc k) = sym (eqb-suc-zero k)

  pub known_variable : (c : ℕ) → 32768 ≤ c → known sig c ≡ ltb c 32776
  known_variable c h = ap (λ b. cond b (ltb c (length sig)) (ltb c 32776)) (le-ltb c 32768 h)

  pub known_symbol : (c : ℕ) → c < 32768 → known sig c ≡ ltb c (length sig)
  known_symbol c h = ap (λ b. cond b (ltb c (length sig)) (ltb c 32776)) (lt-ltb c 32768 h)

  pub arity_variable : (c : ℕ) → 32768 ≤ c → arity sig c ≡ 0
  arity_variable c h = ap (λ b. cond b (get_or sig c 0) 0) (le-ltb c 32768 h)

  pub arity_symbol : (c : ℕ) → c < 32768 → arity sig c ≡ get_or sig c 0
  arity_symbol c h = ap (λ b. cond b (get_or sig c 0) 0) (lt-ltb c 32768 h)

  pub counts_next : (need c : ℕ) (cs : List ℕ) (n : ℕ) → (need ≡ 0 → ⊥) → known sig c ≡ true → n ≡ need - 1 + arity sig c → counts sig need (c ∷ cs) ≡ counts sig n cs
  counts_next zero c cs n h k e = absurd (h refl)
  counts_next (suc m) c cs n h k e =
      let same : m + arity sig c ≡ n = omega arith in
      ap (λ b. b && counts sig (m + arity sig c) cs) k ∙ ap (λ x. counts sig x cs) same

  pub counts_unknown : (need c : ℕ) (cs : List ℕ) → known sig c ≡ false → counts sig need (c ∷ cs) ≡ false
  counts_unknown zero c cs k = refl
  counts_unknown (suc m) c cs k = ap (λ b. b && counts sig (m + arity sig c) cs) k
