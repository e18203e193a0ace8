-- Names whose arities are all fixed: a term over them is one over the signature that they make.
use Rattle.std.proofs.Common.{◌≡◌, ℕ, zero, suc, ◌<◌, ◌≤◌, Bool, true, false, ◌&&◌, T, eqb, ltb, List, [], ◌∷◌, length, get_or, is_some, Some, None, Option, sym, refl, ap, ◌∙◌, subst, ap₂, arith, eqb→eq, ltb→lt, lt→ltb}
use Rattle.std.specs.Option.{option_map}
use Rattle.tokens.specs.Tokens.{Word}
use Rattle.terms.specs.Limits.{most_symbols, variables}
use Rattle.terms.specs.Terms.{Term, Terms, Term.var, Term.app, Terms.none, Terms.more, count, codes}
use Rattle.terms.specs.Terms as signed
use Rattle.terms.specs.Shapes.{is_rule, starts_with_symbol, covers}
use Rattle.terms.specs.Codes.{is_term}
use Rattle.terms.specs.Models.{Sides, all_rules}
use Rattle.terms.proofs.Booleans.{both, fst_of, snd_of, held}
use Rattle.terms.proofs.Exactly.{is_term_of, is_rule_of}
use Rattle.terms.proofs.RuleCodes.{headed_codes, bound_codes}
use Rattle.terms.proofs.Places.{length_codes}
use Rattle.vocabulary.specs.declared.names.Names.{Names}
use Rattle.vocabulary.specs.Vocabularies.{Vocabulary, arity_of, is_number, Consistent, fixed_arities}
use Rattle.vocabulary.specs.Naming.{Naming, naming_of}
use Rattle.vocabulary.proofs.Calls.{consistent, few_symbols, few_variables}
use Rattle.vocabulary.proofs.Fixing.{somes, fixed_as, somes-length}
use Rattle.reading.specs.Spelling.{over, over_all}
use Rattle.reading.specs.Sides.{Role.left, Role.right, Role.start}
use Rattle.reading.specs.Laws.{Settled, Spells}
use Rattle.reading.specs.Grammar.{RulesSpelled, RulesSpelled.no_rules, RulesSpelled.one_more}

pub record Complete (n : Naming) : Type 0 where
  pub consistent : Consistent n.vocabulary
  pub fixed : n.vocabulary.arities ≡ somes n.signature
  pub few_symbols : length n.vocabulary.symbols ≤ most_symbols
  pub few_variables : length n.vocabulary.variables ≤ variables

pub complete_names : (x : Names) → Complete (naming_of x)
complete_names x = record {
  consistent = consistent x.vocabulary;
  fixed = fixed_as _ _ x.fixed;
  few_symbols = few_symbols x.vocabulary;
  few_variables = few_variables x.vocabulary;
}

-- if each is fixed, all are
pub settled_fixed : (xs : List (Option ℕ)) → ((f : ℕ) → f < length xs → is_some (get_or xs f None) ≡ true) → (ns : List ℕ) × (fixed_arities xs ≡ Some ns)
settled_fixed [] h = ([], refl)
settled_fixed (None ∷ xs) h = let z = h 0 (omega arith) in cc
settled_fixed (Some k ∷ xs) h = let ih = settled_fixed xs (λ f l. h (suc f) (omega arith)) in (k ∷ ih.0, ap (option_map (λ (ks : List ℕ). k ∷ ks)) ih.1)

somes-at : (ns : List ℕ) (f : ℕ) → f < length ns → get_or (somes ns) f None ≡ Some (get_or ns f 0)
somes-at [] f h = let z : ⊥ = omega arith in absurd z
somes-at (n ∷ ns) zero h = refl
somes-at (n ∷ ns) (suc f) h = somes-at ns f (omega arith)

module _ (n : Naming) (s : Complete n) where
  abbrev v : Vocabulary
  v = n.vocabulary

  abbrev sig : List ℕ
  sig = n.signature

  pub as_many : length v.symbols ≡ length sig
  as_many = sym s.consistent.even ∙ ap length s.fixed ∙ somes-length sig

  pub arity_fixed : (f : ℕ) → f < length sig → arity_of v f ≡ Some (get_or sig f 0)
  arity_fixed f h = ap (λ l. get_or l f None) s.fixed ∙ somes-at sig f h

  pub settled : Settled v
  settled f h = ap is_some (arity_fixed f (let e = as_many in omega arith))

  -- what a symbol with arguments asks, by the names and by the signature
  pub same_head : (f k : ℕ) → (ltb f (length v.symbols) && is_number (arity_of v f) k) ≡ (ltb f (length sig) && eqb k (get_or sig f 0))
  same_head f k = ap (λ l. ltb f l && is_number (arity_of v f) k) as_many ∙ by (ltb f (length sig)) refl
    where
      by : (b : Bool) → ltb f (length sig) ≡ b → (b && is_number (arity_of v f) k) ≡ (b && eqb k (get_or sig f 0))
      by true e = ap (λ o. is_number o k) (arity_fixed f (ltb→lt f _ (held _ e)))
      by false e = refl

  -- the parts of what is asked of a symbol with arguments
  pub record Head (f : ℕ) (ts : Terms) : Type 0 where
    pub inside : f < length v.symbols
    pub many : count ts ≡ get_or sig f 0
    pub asked : T (ltb f (length sig) && eqb (count ts) (get_or sig f 0))
    pub arguments : T (over_all v ts)

  pub head_of : (f : ℕ) (ts : Terms) → T (over v (app f ts)) → Head f ts
  head_of f ts g =
      let head = ltb f (length v.symbols) && is_number (arity_of v f) (count ts) in
      let h = fst_of head (over_all v ts) g in
      let k = subst T (same_head f (count ts)) h in
      record {
        inside = ltb→lt f _ (fst_of (ltb f (length v.symbols)) _ h);
        many = eqb→eq (count ts) _ (snd_of (ltb f (length sig)) _ k);
        asked = k;
        arguments = snd_of head (over_all v ts) g;
      }

  mutual
    pub over_signature : (t : Term) → T (over v t) → T (signed.over sig t)
    over_signature (var x) g = let h = ltb→lt x _ g in let l = s.few_variables in lt→ltb x 8 (omega arith)
    over_signature (app f ts) g = let h = head_of f ts g in both _ _ h.asked (all_over_signature ts h.arguments)

    all_over_signature : (ts : Terms) → T (over_all v ts) → T (signed.over_all sig ts)
    all_over_signature none g = tt
    all_over_signature (more t ts) g = both _ _ (over_signature t (fst_of (over v t) _ g)) (all_over_signature ts (snd_of (over v t) _ g))

  few_here : length sig ≤ most_symbols
  few_here = let a = as_many in let b = s.few_symbols in omega arith

  -- a start term that is spelled is a term over the signature
  pub spelled_term : {ws : List Word} {cs : List ℕ} → Spells start v ws cs → T (is_term sig cs)
  spelled_term {ws} {cs} k =
      let a = length_codes k.term in
      let b = ap length k.coded in
      let c = k.short in
      is_term_of sig few_here k.term cs (over_signature k.term k.named) (omega arith) k.coded

  -- a rule that is spelled is one over the signature
  spelled-rule : {ls rs : List Word} {l r : List ℕ} → Spells left v ls l → starts_with_symbol l ≡ true → Spells (right l) v rs r → T (is_rule sig l r)
  spelled-rule {ls} {rs} {l} {r} a h b =
      let wide : length sig ≤ 32768 = let f = few_here in omega arith in
      let ol = over_signature a.term a.named in
      let o-r = over_signature b.term b.named in
      let hd = held _ (headed_codes sig wide a.term ol ∙ ap starts_with_symbol a.coded ∙ h) in
      let bd = held _ (bound_codes sig wide b.term a.term ol o-r ∙ ap₂ covers a.coded b.coded ∙ b.fine) in
      let la = length_codes a.term in
      let lb = length_codes b.term in
      let ea = ap length a.coded in
      let eb = ap length b.coded in
      let sa = a.short in
      let sb = b.short in
      let x = is_rule_of sig few_here (record { left = a.term; right = b.term }) (both _ _ (both _ _ ol o-r) (both _ _ hd bd)) (record { left = omega arith; right = omega arith }) in
      subst (λ q. T (is_rule sig l q)) b.coded (subst (λ q. T (is_rule sig q (codes b.term))) a.coded x)

  pub spelled_rules : {ws : List Word} {ss : List Sides} → RulesSpelled v ws ss → T (all_rules sig ss)
  spelled_rules no_rules = tt
  spelled_rules (one_more a h b m) = both _ _ (spelled-rule a h b) (spelled_rules m)
