-- Growth of a vocabulary: reflexive, transitive, and what each change keeps.
use Rattle.std.proofs.Common.{◌≡◌, ℕ, ◌<◌, List, [], ◌∷◌, ◌++◌, length, get_or, Some, None, Option, sym, refl, ap, ◌∙◌, inl, inr, append_assoc, append-nil, arith, length-append, length-set}
use Rattle.std.proofs.lemmas.List.{get_or_append_left, get_or_past, get_or-set_same, get_or-set_other}
use Rattle.std.proofs.lemmas.Bool.{cases_eq, cases_lt}
use Rattle.terms.proofs.Booleans.{clash}
use Rattle.vocabulary.specs.Vocabularies.{Vocabulary, found, var_or, code_of, arity_of, with_symbol, with_arity}
use Rattle.vocabulary.specs.Growth.{Grows}
use Rattle.vocabulary.proofs.Founds.{found_more}

pub grows_refl : (v : Vocabulary) → Grows v v
grows_refl v = record { variables = refl; added = []; symbols = sym (append-nil v.symbols); arities = λ f a e. e }

pub grows_trans : {u v w : Vocabulary} → Grows u v → Grows v w → Grows u w
grows_trans {u} {v} {w} g h = record {
  variables = h.variables ∙ g.variables;
  added = g.added ++ h.added;
  symbols = h.symbols ∙ ap (λ l. l ++ h.added) g.symbols ∙ append_assoc u.symbols g.added h.added;
  arities = λ f a e. h.arities f a (g.arities f a e);
}

-- an arity that is fixed is one of a symbol that there is
fixed_inside : (xs : List (Option ℕ)) (f a : ℕ) → get_or xs f None ≡ Some a → f < length xs
fixed_inside xs f a e = elim (cases_lt f (length xs)) [
  | inl l ↦ l
  | inr g ↦ (let z = get_or_past xs f None g in clash (cc))
]

pub grows_symbol : (v : Vocabulary) (n : List ℕ) → Grows v (with_symbol v n)
grows_symbol v n = record {
  variables = refl;
  added = n ∷ [];
  symbols = refl;
  arities = λ f a e. get_or_append_left v.arities (None ∷ []) None f (fixed_inside v.arities f a e) ∙ e;
}

pub grows_arity : (v : Vocabulary) (g k : ℕ) → arity_of v g ≡ None → Grows v (with_arity v g k)
grows_arity v g k none = record {
  variables = refl;
  added = [];
  symbols = sym (append-nil v.symbols);
  arities = λ f a e. elim (cases_eq f g) [
    | inl s ↦ (let z : arity_of v f ≡ None = ap (arity_of v) s ∙ none in clash (cc))
    | inr o ↦ get_or-set_other v.arities g f (Some k) None o ∙ e
  ];
}

-- a name keeps its code
pub same_code : {v w : Vocabulary} → Grows v w → (n : List ℕ) (c : ℕ) → code_of v n ≡ Some c → code_of w n ≡ Some c
same_code {v} {w} g n c e = go (found 0 v.variables n) refl e
  where
    go : (o : Option ℕ) → found 0 v.variables n ≡ o → var_or o (found 0 v.symbols n) ≡ Some c → var_or (found 0 w.variables n) (found 0 w.symbols n) ≡ Some c
    go (Some x) f q = ap (λ o. var_or o (found 0 w.symbols n)) (ap (λ l. found 0 l n) g.variables ∙ f) ∙ q
    go None f q = ap (λ o. var_or o (found 0 w.symbols n)) (ap (λ l. found 0 l n) g.variables ∙ f) ∙ ap (λ l. found 0 l n) g.symbols ∙ found_more 0 c v.symbols g.added n q

-- as many arities as symbols
abbrev pub Even : Vocabulary → Type 0
Even v = length v.arities ≡ length v.symbols

pub even_symbol : (v : Vocabulary) (n : List ℕ) → Even v → Even (with_symbol v n)
even_symbol v n e = let a = length-append v.arities (None ∷ []) in let b = length-append v.symbols (n ∷ []) in omega arith

pub even_arity : (v : Vocabulary) (f k : ℕ) → Even v → Even (with_arity v f k)
even_arity v f k e = length-set v.arities f (Some k) ∙ e

pub fixed_now : (v : Vocabulary) (f k : ℕ) → f < length v.arities → arity_of (with_arity v f k) f ≡ Some k
fixed_now v f k h = get_or-set_same v.arities f (Some k) None h
