-- What the calls come to.
use Rattle.std.proofs.Common.{◌≡◌, ℕ, ◌<◌, ◌≤◌, Bool, true, false, List, [], ◌∷◌, ◌++◌, length, set, is_some, Some, None, Option, sym, refl, ap, ◌∙◌, subst, ap₂, arith}
use Rattle.std.specs.List.{slice_get}
use Rattle.std.proofs.lemmas.Bool.{cond-true, lt-ltb, le-leb}
use Rattle.std.proofs.lemmas.List.{map-append, map-set, length-map, get_or-map}
use Rattle.std.proofs.lemmas.Option.{get_or_from_slice_get, slice_get_within}
use Rattle.std.proofs.Math.Seq.{map-set_same}
use Rattle.terms.proofs.Booleans.{clash}
use Rattle.bounded.specs.Items.{items, grown}
use Rattle.bounded.proofs.Lengths.{items_few}
use Rattle.tokens.specs.declared.name.Name.{Name}
use Rattle.tokens.specs.Names.{name_bytes}
use Rattle.vocabulary.specs.declared.symbol.Symbol.{Symbol}
use Rattle.vocabulary.specs.declared.vocabulary.Vocabulary as kept
use Rattle.vocabulary.specs.Vocabularies.{Vocabulary, names, symbol_names, symbol_arities, vocabulary, code_of, arity_of, with_symbol, with_arity, with_variable, Consistent}
use Rattle.vocabulary.specs.Models.{vocabulary_of}
use Rattle.vocabulary.specs.Laws.{Keeps}
use Rattle.vocabulary.proofs.Consistency.{consistent_symbol, consistent_variable, consistent_arity, keeps_refl, keeps_symbol, keeps_variable, keeps_arity}
use Rattle.vocabulary.specs.Replies.{settle_by, settle_reply, settled_by, settled}

pub consistent : (v : kept.Vocabulary) → Consistent (vocabulary_of v)
consistent v = v.consistent

pub few_symbols : (v : kept.Vocabulary) → length (vocabulary_of v).symbols ≤ 32
few_symbols v = let b = items_few v.symbols in simp length-map (omega arith)

pub few_variables : (v : kept.Vocabulary) → length (vocabulary_of v).variables ≤ 8
few_variables v = let b = items_few v.variables in simp length-map (omega arith)

pub is_none : (o : Option ℕ) → is_some o ≡ false → o ≡ None
is_none None e = refl
is_none (Some x) e = clash (cc)

pub settled_at : (v : Vocabulary) (f k : ℕ) → f < length v.symbols → (o : Option ℕ) → o ≡ arity_of v f → (settle_by k o ≡ settle_reply v f k) × (settled_by v f k o ≡ settled v f k)
settled_at v f k h o e =
    (ap (settle_by k) e ∙ sym (cond-true _ _ _ (lt-ltb f _ h)), ap (settled_by v f k) e ∙ sym (cond-true _ _ _ (lt-ltb f _ h)))

-- what may come after a vocabulary
abbrev pub Follows : Vocabulary → Vocabulary → Type 0
Follows v w = Consistent w × Keeps v w

moved : {v w u : Vocabulary} → w ≡ u → Consistent u → Keeps v u → Follows v w
moved {v} e c k = (subst Consistent (sym e) c, subst (Keeps v) (sym e) k)

-- one variable more, one symbol more, one arity fixed
module _ (s : kept.Vocabulary) where
  pub declares : (ms : List Name) (name : Name) → ms ≡ items s.variables ++ name ∷ [] → code_of (vocabulary_of s) (name_bytes name) ≡ None → Follows (vocabulary_of s) (vocabulary (items s.symbols) ms)
  declares ms name e none = moved is (consistent_variable _ (name_bytes name) none s.consistent) (keeps_variable _ (name_bytes name) none)
    where
      is : vocabulary (items s.symbols) ms ≡ with_variable (vocabulary_of s) (name_bytes name)
      is =
          ap (λ l. record { symbols = names (symbol_names (items s.symbols)); arities = symbol_arities (items s.symbols); variables = l })
          (ap names e ∙ map-append name_bytes (items s.variables) (name ∷ []))

  pub numbers : (ts : List Symbol) (name : Name) (fits : Bool) → ts ≡ grown fits (items s.symbols) (record { name = name; arity = None } ∷ []) → code_of (vocabulary_of s) (name_bytes name) ≡ None
      → Follows (vocabulary_of s) (vocabulary ts (items s.variables))
  numbers ts name false e none = moved (ap (λ l. vocabulary l (items s.variables)) e) s.consistent (keeps_refl (vocabulary_of s))
  numbers ts name true e none = moved is (consistent_symbol _ (name_bytes name) none s.consistent) (keeps_symbol _ (name_bytes name))
    where
      is : vocabulary ts (items s.variables) ≡ with_symbol (vocabulary_of s) (name_bytes name)
      is =
          ap₂ (λ xs ys. record { symbols = xs; arities = ys; variables = names (items s.variables) })
          (ap (λ l. names (symbol_names l)) e ∙ ap names (map-append (λ (x : Symbol). x.name) (items s.symbols) _) ∙ map-append name_bytes (symbol_names (items s.symbols)) (name ∷ []))
          (ap symbol_arities e ∙ map-append (λ (x : Symbol). x.arity) (items s.symbols) _)

  module _ (ts : List Symbol) (f k : ℕ) (x : Symbol) (at : slice_get (items s.symbols) f ≡ Some x) (e : ts ≡ set (items s.symbols) f (record { name = x.name; arity = Some k })) (new : x.arity ≡ None) (small : k ≤ 4) where
    inside : f < length (items s.symbols)
    inside = slice_get_within (items s.symbols) f x at

    none : arity_of (vocabulary_of s) f ≡ None
    none = get_or-map (λ (y : Symbol). y.arity) (items s.symbols) f x None inside ∙ ap (λ (y : Symbol). y.arity) (get_or_from_slice_get (items s.symbols) f x x at) ∙ new

    is : vocabulary ts (items s.variables) ≡ with_arity (vocabulary_of s) f k
    is =
        ap₂ (λ xs ys. record { symbols = xs; arities = ys; variables = names (items s.variables) })
        (ap (λ l. names (symbol_names l)) e ∙ ap names (map-set_same (λ (y : Symbol). y.name) (items s.symbols) f _ x (ap (λ (y : Symbol). y.name) (sym (get_or_from_slice_get (items s.symbols) f x x at)))))
        (ap symbol_arities e ∙ map-set (λ (y : Symbol). y.arity) (items s.symbols) f _)

    pub settles : Follows (vocabulary_of s) (vocabulary ts (items s.variables))
    settles = moved is (consistent_arity _ f k none small s.consistent) (keeps_arity _ f k none)

    pub settles_as : vocabulary ts (items s.variables) ≡ settled (vocabulary_of s) f k
    settles_as = let i = inside in is ∙ sym (cond-true _ _ _ (le-leb k 4 small)) ∙ (settled_at (vocabulary_of s) f k (simp length-map (omega arith)) None (sym none)).1
