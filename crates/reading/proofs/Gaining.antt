-- What words add to a vocabulary: at most the names that they are.
use Rattle.std.proofs.Common.{◌≡◌, ℕ, ◌<◌, ◌≤◌, Bool, true, false, cond, List, [], ◌∷◌, ◌++◌, length, is_some, Some, None, Option, refl, ◌∙◌, ap₂, arith, length-append}
use Rattle.tokens.specs.Tokens.{Word, Word.lpar, Word.rpar, Word.comma, Word.arrow, Word.named, Word.long, Word.illegal}
use Rattle.terms.specs.Limits.{most_symbols, most_arguments}
use Rattle.vocabulary.specs.Vocabularies.{Vocabulary, found, var_or, code_of, arity_of, with_symbol, with_arity, Consistent}
use Rattle.vocabulary.specs.Growth.{Grows}
use Rattle.vocabulary.proofs.Growing.{grows_refl, grows_trans, grows_symbol, grows_arity}
use Rattle.vocabulary.proofs.Consistency.{consistent_symbol, consistent_arity}
use Rattle.reading.specs.Spelling.{numbered}
use Rattle.reading.specs.Sides.{Role, Role.left, Role.right, Role.start}

-- a start term brings no new names
abbrev pub Allows : Role → Vocabulary → Vocabulary → Type 0
Allows left w v = Unit {0}
Allows (right ls) w v = Unit {0}
Allows start w v = v.symbols ≡ w.symbols

pub allows_same : (p : Role) (w v : Vocabulary) → v.symbols ≡ w.symbols → Allows p w v
allows_same left w v e = tt
allows_same (right ls) w v e = tt
allows_same start w v e = e

pub allows_more : (p : Role) (u v w : Vocabulary) → Allows p u v → Allows p v w → Allows p u w
allows_more left u v w a b = tt
allows_more (right ls) u v w a b = tt
allows_more start u v w a b = b ∙ a

-- names are apart, arities small, and symbols few
pub record Proper (v : Vocabulary) : Type 0 where
  pub names : Consistent v
  pub few : length v.symbols ≤ most_symbols

-- what words add to a vocabulary
pub record Adds (v : Vocabulary) (ws : List Word) (v1 : Vocabulary) : Type 0 where
  pub grows : Grows v v1
  pub numbers : v1.symbols ≡ numbered v.variables v.symbols ws
  pub keeps : Proper v → Proper v1

pub adds_none : (v : Vocabulary) (ws : List Word) → v.symbols ≡ numbered v.variables v.symbols ws → Adds v ws v
adds_none v ws e = record { grows = grows_refl v; numbers = e; keeps = λ h. h }

-- names are numbered one word after the other
pub numbered-append : (vars syms : List (List ℕ)) (xs ys : List Word) → numbered vars (numbered vars syms xs) ys ≡ numbered vars syms (xs ++ ys)
numbered-append vars syms [] ys = refl
numbered-append vars syms (lpar ∷ xs) ys = numbered-append vars syms xs ys
numbered-append vars syms (rpar ∷ xs) ys = numbered-append vars syms xs ys
numbered-append vars syms (comma ∷ xs) ys = numbered-append vars syms xs ys
numbered-append vars syms (arrow ∷ xs) ys = numbered-append vars syms xs ys
numbered-append vars syms (long ∷ xs) ys = numbered-append vars syms xs ys
numbered-append vars syms (illegal ∷ xs) ys = numbered-append vars syms xs ys
numbered-append vars syms (named n ∷ xs) ys = by (λ l. numbered-append vars l xs ys) (is_some (found 0 vars n)) (is_some (found 0 syms n))
  where
    by : ((l : List (List ℕ)) → numbered vars (numbered vars l xs) ys ≡ numbered vars l (xs ++ ys)) → (a b : Bool)
        → numbered vars (cond a (numbered vars syms xs) (cond b (numbered vars syms xs) (numbered vars (syms ++ n ∷ []) xs))) ys ≡ cond a (numbered vars syms (xs ++ ys)) (cond b (numbered vars syms (xs ++ ys)) (numbered vars (syms ++ n ∷ []) (xs ++ ys)))
    by ih true b = ih syms
    by ih false true = ih syms
    by ih false false = ih (syms ++ n ∷ [])

pub adds_then : {v v1 v2 : Vocabulary} (xs ys : List Word) → Adds v xs v1 → Adds v1 ys v2 → Adds v (xs ++ ys) v2
adds_then {v} xs ys a b = record {
  grows = grows_trans a.grows b.grows;
  numbers = b.numbers ∙ ap₂ (λ vars syms. numbered vars syms ys) a.grows.variables a.numbers ∙ numbered-append v.variables v.symbols xs ys;
  keeps = λ h. b.keeps (a.keeps h);
}

pub record Gains (p : Role) (v : Vocabulary) (x : Word) (v1 : Vocabulary) : Type 0 where
  pub adds : Adds v (x ∷ []) v1
  pub allows : Allows p v v1

module _ (p : Role) (v : Vocabulary) where
  pub gains_nothing : (x : Word) → v.symbols ≡ numbered v.variables v.symbols (x ∷ []) → Gains p v x v
  gains_nothing x e = record { adds = adds_none v (x ∷ []) e; allows = allows_same p v v refl }

  pub gains_known : (n : List ℕ) (c : ℕ) → code_of v n ≡ Some c → Gains p v (named n) v
  gains_known n c e = gains_nothing (named n) (by (found 0 v.variables n) (found 0 v.symbols n) e)
    where
      by : (x y : Option ℕ) → var_or x y ≡ Some c → v.symbols ≡ cond (is_some x) v.symbols (cond (is_some y) v.symbols (v.symbols ++ n ∷ []))
      by (Some i) y q = refl
      by None (Some j) q = refl
      by None None q = cc

  pub gains_new : (n : List ℕ) → code_of v n ≡ None → length v.symbols < most_symbols → Allows p v (with_symbol v n) → Gains p v (named n) (with_symbol v n)
  gains_new n e lt a = record {
    adds = record {
      grows = grows_symbol v n;
      numbers = by (found 0 v.variables n) (found 0 v.symbols n) e;
      keeps = λ h. record { names = consistent_symbol v n e h.names; few = (let l = length-append v.symbols (n ∷ []) in omega arith) };
    };
    allows = a;
  }
    where
      by : (x y : Option ℕ) → var_or x y ≡ None → v.symbols ++ n ∷ [] ≡ cond (is_some x) v.symbols (cond (is_some y) v.symbols (v.symbols ++ n ∷ []))
      by (Some i) y q = cc
      by None (Some j) q = cc
      by None None q = refl

  pub gains_arity : (x : Word) (v0 : Vocabulary) (f k : ℕ) → Gains p v x v0 → arity_of v0 f ≡ None → k ≤ most_arguments → Gains p v x (with_arity v0 f k)
  gains_arity x v0 f k g e l = record {
    adds = record {
      grows = grows_trans g.adds.grows (grows_arity v0 f k e);
      numbers = g.adds.numbers;
      keeps = λ h. let q = g.adds.keeps h in record { names = consistent_arity v0 f k e l q.names; few = q.few };
    };
    allows = allows_more p v v0 (with_arity v0 f k) g.allows (allows_same p v0 (with_arity v0 f k) refl);
  }
