-- What holds of all names: each is a name of its own; and a term over the names is one over the signature whose codes
-- have names.
use Rattle.std.proofs.Common.{◌≡◌, ℕ, zero, suc, ◌+◌, ◌<◌, ◌≤◌, ◌&&◌, T, eqb, ltb, List, [], ◌∷◌, length, get_or, is_some, Some, None, Option, sym, refl, subst, arith, ltb→lt, lt→ltb}
use Rattle.std.proofs.lemmas.List.Folds.{list_all-append}
use Rattle.bounded.specs.Items.{items}
use Rattle.tokens.specs.Bytes.{is_name}
use Rattle.tokens.specs.declared.name.Name.{Name}
use Rattle.terms.specs.Terms.{Term, Terms, Term.var, Term.app, Terms.none, Terms.more, count, codes, codes_all}
use Rattle.terms.specs.Terms as signed
use Rattle.terms.proofs.Booleans.{both, fst_of, snd_of}
use Rattle.vocabulary.specs.declared.names.Names.{Names}
use Rattle.vocabulary.specs.Vocabularies.{Vocabulary, names, symbol_names}
use Rattle.vocabulary.specs.Naming.{Naming, naming_of}
use Rattle.vocabulary.specs.Replies.{name_at}
use Rattle.vocabulary.specs.Laws as law
use Rattle.vocabulary.specs.Laws.{Names.variable, Names.symbol}
use Rattle.vocabulary.proofs.Consistency.{name_exactly}
use Rattle.reading.specs.Spelling.{over, over_all}
use Rattle.reading.proofs.Complete.{Complete, complete_names, same_head, head_of}
use Rattle.printing.specs.Showing.{all_named}

-- each is spelled as a name
abbrev pub Plain : List (List ℕ) → Type 0
Plain ns = (i : ℕ) → i < length ns → T (is_name (get_or ns i []))

plain_names : (ns : List Name) → Plain (names ns)
plain_names [] i h = let z : ⊥ = omega arith in absurd z
plain_names (n ∷ ns) zero h = n.spelled
plain_names (n ∷ ns) (suc i) h = plain_names ns i (omega arith)

pub record Sound (n : Naming) : Type 0 where
  pub complete : Complete n
  pub plain_symbols : Plain n.vocabulary.symbols
  pub plain_variables : Plain n.vocabulary.variables

pub sound : (x : Names) → Sound (naming_of x)
sound x = record { complete = complete_names x; plain_symbols = plain_names (symbol_names (items x.vocabulary.symbols)); plain_variables = plain_names (items x.vocabulary.variables) }

named_below : (v : Vocabulary) (m : List ℕ) (c : ℕ) → length v.symbols ≤ 32 → law.Names v m c → c < 32768 + length v.variables
named_below v m _ few (variable x h e) = omega arith
named_below v m _ few (symbol f h e) = omega arith

module _ (n : Naming) (s : Complete n) where
  abbrev v : Vocabulary
  v = n.vocabulary

  abbrev sig : List ℕ
  sig = n.signature

  pub few : length v.symbols ≤ 32768
  few = let h = s.few_symbols in omega arith

  pub variable_name : (x : ℕ) → x < length v.variables → name_at v (32768 + x) ≡ Some (get_or v.variables x [])
  variable_name x h = (name_exactly v few (32768 + x) _ refl _).1 (variable x h refl)

  pub symbol_name : (f : ℕ) → f < length v.symbols → name_at v f ≡ Some (get_or v.symbols f [])
  symbol_name f h = (name_exactly v few f _ refl _).1 (symbol f h refl)

  name_below : (c : ℕ) → T (is_some (name_at v c)) → c < 32768 + length v.variables
  name_below c h = by (name_at v c) refl h
    where
      by : (o : Option (List ℕ)) → name_at v c ≡ o → T (is_some o) → c < 32768 + length v.variables
      by None e k = absurd k
      by (Some m) e k = named_below v m c s.few_symbols ((name_exactly v few c _ refl m).0 e)

  -- a term over the signature whose codes are named is one over the names
  mutual
    pub over_names : (t : Term) → T (signed.over sig t) → T (all_named v (codes t)) → T (over v t)
    over_names (var x) g h = let b = name_below (32768 + x) (fst_of (is_some (name_at v (32768 + x))) _ h) in lt→ltb x _ (omega arith)
    over_names (app f ts) g h =
        let head = ltb f (length sig) && eqb (count ts) (get_or sig f 0) in
        both _ _ (subst T (sym (same_head n s f (count ts))) (fst_of head (signed.over_all sig ts) g))
        (all_over_names ts (snd_of head (signed.over_all sig ts) g) (snd_of (is_some (name_at v f)) _ h))

    all_over_names : (ts : Terms) → T (signed.over_all sig ts) → T (all_named v (codes_all ts)) → T (over_all v ts)
    all_over_names none g h = tt
    all_over_names (more t ts) g h =
        let k = subst T (list_all-append (λ c. is_some (name_at v c)) (codes t) (codes_all ts)) h in
        both _ _ (over_names t (fst_of (signed.over sig t) _ g) (fst_of (all_named v (codes t)) _ k))
        (all_over_names ts (snd_of (signed.over sig t) _ g) (snd_of (all_named v (codes t)) _ k))

  some_T : (o : Option (List ℕ)) (m : List ℕ) → o ≡ Some m → T (is_some o)
  some_T o m e = subst (λ x. T (is_some x)) (sym e) tt

  mutual
    pub codes_named : (t : Term) → T (over v t) → T (all_named v (codes t))
    codes_named (var x) g = both _ _ (some_T _ _ (variable_name x (ltb→lt x _ g))) tt
    codes_named (app f ts) g = let h = head_of n s f ts g in both _ _ (some_T _ _ (symbol_name f h.inside)) (all_codes_named ts h.arguments)

    all_codes_named : (ts : Terms) → T (over_all v ts) → T (all_named v (codes_all ts))
    all_codes_named none g = tt
    all_codes_named (more t ts) g =
        subst T (sym (list_all-append (λ c. is_some (name_at v c)) (codes t) (codes_all ts))) (both _ _ (codes_named t (fst_of (over v t) _ g)) (all_codes_named ts (snd_of (over v t) _ g)))
