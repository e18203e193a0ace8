-- Names, looked for one by one.
use Rattle.std.proofs.Common.{◌≡◌, ℕ, suc, ◌+◌, ◌-◌, ltb, Bool, true, false, cond, List, [], ◌∷◌, map, Some, None, Option, sym, refl, ap, ◌∙◌, arith}
use Rattle.std.specs.List.{position, position_from, slice_get}
use Rattle.std.specs.Option.{option_map}
use Rattle.std.proofs.lemmas.Option.{slice_get-map}
use Rattle.std.specs.Str.{bytes_eq}
use Rattle.std.proofs.lemmas.Iterator.Adapters.{position_from-zero}
use Rattle.std.proofs.lemmas.Simd.{map-map}
use Rattle.tokens.specs.declared.name.Name.{Name}
use Rattle.tokens.specs.Names.{name_bytes}
use Rattle.vocabulary.specs.declared.symbol.Symbol as kept
use Rattle.terms.specs.declared.code.Code.TheVariants.{Symbol, Variable}
use Rattle.terms.specs.Kinds.{code_kind}
use Rattle.vocabulary.specs.Replies.{name_at}
use Rattle.vocabulary.specs.Vocabularies.{names, symbol_names, vocabulary, found, var_or, code_of}

module _ {X : Type 0} (bytes : X → List ℕ) (n : List ℕ) where
  found_from : (k : ℕ) (xs : List X) → found k (map bytes xs) n ≡ position_from (λ x. bytes_eq (bytes x) n) k xs
  found_from k [] = refl
  found_from k (x ∷ xs) =
      let e : suc k ≡ k + 1 = omega arith in
      ap (cond (bytes_eq (bytes x) n) (Some k)) (found_from (suc k) xs ∙ ap (λ j. position_from (λ x. bytes_eq (bytes x) n) j xs) e)

  pub found_is_position : (xs : List X) → found 0 (map bytes xs) n ≡ position (λ x. bytes_eq (bytes x) n) xs
  found_is_position xs = found_from 0 xs ∙ sym (position_from-zero _ xs)

-- a name that is a variable's, and one that can only be a symbol's
module _ (ss : List kept.Symbol) (ns : List Name) (n : List ℕ) where
  pub codes_variable : (x : ℕ) → Some x ≡ position (λ y. bytes_eq (name_bytes y) n) ns → Some (32768 + x) ≡ code_of (vocabulary ss ns) n
  codes_variable x e = ap (λ o. var_or o (found 0 (names (symbol_names ss)) n)) (e ∙ sym (found_is_position name_bytes n ns))

  pub codes_symbol : None ≡ position (λ y. bytes_eq (name_bytes y) n) ns → (o : Option ℕ) → o ≡ position (λ (s : kept.Symbol). bytes_eq (name_bytes s.name) n) ss → o ≡ code_of (vocabulary ss ns) n
  codes_symbol none o e =
      e ∙ sym (found_is_position (λ (s : kept.Symbol). name_bytes s.name) n ss) ∙ ap (λ l. found 0 l n) (sym (map-map _ _ ss))
      ∙ ap (λ o. var_or o (found 0 (names (symbol_names ss)) n)) (none ∙ sym (found_is_position name_bytes n ns))

-- names by number
module _ (ss : List kept.Symbol) (ns : List Name) (c i : ℕ) where
  pub symbol_named : Symbol i ≡ code_kind c → option_map (λ (s : kept.Symbol). name_bytes s.name) (slice_get ss i) ≡ name_at (vocabulary ss ns) c
  symbol_named e = by (ltb c 32768) e
    where
      by : (b : Bool) → Symbol i ≡ cond b (Symbol c) (Variable (c - 32768))
          → option_map (λ (s : kept.Symbol). name_bytes s.name) (slice_get ss i) ≡ cond b (slice_get (names (symbol_names ss)) c) (slice_get (names ns) (c - 32768))
      by true q = let same : i ≡ c = cc in sym (ap (λ l. slice_get l c) (map-map name_bytes (λ (s : kept.Symbol). s.name) ss) ∙ slice_get-map (λ (s : kept.Symbol). name_bytes s.name) ss c ∙ ap (λ k. option_map (λ (s : kept.Symbol). name_bytes s.name) (slice_get ss k)) (sym same))
      by false q = cc

  pub variable_named : Variable i ≡ code_kind c → option_map name_bytes (slice_get ns i) ≡ name_at (vocabulary ss ns) c
  variable_named e = by (ltb c 32768) e
    where
      by : (b : Bool) → Variable i ≡ cond b (Symbol c) (Variable (c - 32768)) → option_map name_bytes (slice_get ns i) ≡ cond b (slice_get (names (symbol_names ss)) c) (slice_get (names ns) (c - 32768))
      by true q = cc
      by false q = let same : i ≡ c - 32768 = cc in ap (λ k. option_map name_bytes (slice_get ns k)) same ∙ sym (slice_get-map name_bytes ns _)
