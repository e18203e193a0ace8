-- In a consistent vocabulary each name has one code and each code one name, and growth keeps it consistent.
use Rattle.std.proofs.Common.{◌≡◌, ℕ, zero, suc, ◌+◌, ◌-◌, ◌<◌, ◌≤◌, Bool, true, false, cond, T, ltb, leb, List, [], ◌∷◌, ◌++◌, length, get_or, set, Some, None, Option, sym, refl, ap, ◌∙◌, subst, inl, inr, arith, eqb→eq, leb→le}
use Rattle.std.specs.Str.{bytes_eq}
use Rattle.std.proofs.lemmas.Slice.Eq.{bytes_eq-Decides}
use Rattle.std.proofs.lemmas.Bool.{cond-true, cond-false, lt-ltb, le-ltb, ltb-false, eq-eqb, le-leb}
use Rattle.std.specs.List.{slice_get}
use Rattle.std.proofs.lemmas.Option.{slice_get_within, get_or_from_slice_get, slice_get-get_or}
use Rattle.terms.proofs.Booleans.{clash, both, held, fst_of, snd_of}
use Rattle.vocabulary.specs.Vocabularies.{Vocabulary, found, var_or, code_of, arity_of, with_symbol, with_arity, with_variable, is_number, all_coded, all_small, Consistent}
use Rattle.vocabulary.specs.Replies.{name_at}
use Rattle.vocabulary.specs.Laws.{Names, Names.variable, Names.symbol, CodeExactly, NameExactly, Keeps}
use Rattle.vocabulary.proofs.Founds.{found_more, found_new, code_is}
use Rattle.vocabulary.proofs.Growing.{grows_symbol, grows_arity, same_code, even_symbol, even_arity}

number_is : (o : Option ℕ) (k : ℕ) → T (is_number o k) → o ≡ Some k
number_is None k h = absurd h
number_is (Some a) k h = ap Some (sym (eqb→eq k a h))

is_number_T : (o : Option ℕ) (k : ℕ) → o ≡ Some k → T (is_number o k)
is_number_T o k e = subst (λ x. T (is_number x k)) (sym e) (held _ (eq-eqb k k refl))

module _ (v : Vocabulary) where
  -- each name stands for its number
  pub coded_at : (k : ℕ) (ns : List (List ℕ)) → T (all_coded v k ns) → (i : ℕ) → i < length ns → code_of v (get_or ns i []) ≡ Some (k + i)
  coded_at k [] h i lt = let z : ⊥ = omega arith in absurd z
  coded_at k (n ∷ ns) h zero lt = number_is (code_of v n) k (fst_of (is_number (code_of v n) k) _ h) ∙ ap Some (let e : k ≡ k + 0 = omega arith in e)
  coded_at k (n ∷ ns) h (suc i) lt =
      coded_at (suc k) ns (snd_of (is_number (code_of v n) k) _ h) i (omega arith) ∙ ap Some (let e : suc k + i ≡ k + suc i = omega arith in e)

  named_code : Consistent v → (n : List ℕ) (c : ℕ) → Names v n c → code_of v n ≡ Some c
  named_code s n _ (variable x h e) = ap (code_of v) (sym e) ∙ coded_at 32768 v.variables s.variables_apart x h
  named_code s n _ (symbol f h e) = ap (code_of v) (sym e) ∙ coded_at 0 v.symbols s.symbols_apart f h ∙ ap Some (let z : 0 + f ≡ f = omega arith in z)

  code_named : (n : List ℕ) (c : ℕ) → code_of v n ≡ Some c → Names v n c
  code_named n c e = elim (code_is v n c e) [
    | inl x ↦ subst (Names v n) (sym x.is) (variable x.number x.inside x.named)
    | inr f ↦ symbol c f.inside f.named
  ]

  pub code_exactly : Consistent v → (n : List ℕ) (r : Option ℕ) → r ≡ code_of v n → CodeExactly v n r
  code_exactly s n r e c = (λ q. code_named n c (sym e ∙ q), λ h. e ∙ named_code s n c h)

entry_is : (xs : List (List ℕ)) (i : ℕ) (n : List ℕ) → slice_get xs i ≡ Some n → (i < length xs) × (get_or xs i [] ≡ n)
entry_is xs i n e = (slice_get_within xs i n e, get_or_from_slice_get xs i n [] e)

entry_at : (xs : List (List ℕ)) (i : ℕ) (n : List ℕ) → i < length xs → get_or xs i [] ≡ n → slice_get xs i ≡ Some n
entry_at xs i n h e = slice_get-get_or xs i [] h ∙ ap Some e

module _ (v : Vocabulary) (few : length v.symbols ≤ 32768) where
  name_names : (c : ℕ) (n : List ℕ) → name_at v c ≡ Some n → Names v n c
  name_names c n e = by (ltb c 32768) refl e
    where
      by : (b : Bool) → ltb c 32768 ≡ b → cond b (slice_get v.symbols c) (slice_get v.variables (c - 32768)) ≡ Some n → Names v n c
      by true q h = let p = entry_is v.symbols c n h in symbol c p.0 p.1
      by false q h =
          let p = entry_is v.variables (c - 32768) n h in
          let hi : 32768 ≤ c = ltb-false c 32768 q in
          let z : 32768 + (c - 32768) ≡ c = omega arith in
          subst (Names v n) z (variable (c - 32768) p.0 p.1)

  names_name : (c : ℕ) (n : List ℕ) → Names v n c → name_at v c ≡ Some n
  names_name _ n (variable x h e) =
      let z : 32768 + x - 32768 ≡ x = omega arith in
      cond-false _ _ _ (le-ltb (32768 + x) 32768 (omega arith)) ∙ ap (slice_get v.variables) z ∙ entry_at v.variables x n h e
  names_name _ n (symbol f h e) = cond-true _ _ _ (lt-ltb f 32768 (omega arith)) ∙ entry_at v.symbols f n h e

  pub name_exactly : (c : ℕ) (r : Option (List ℕ)) → r ≡ name_at v c → NameExactly v c r
  name_exactly c r e n = (λ q. name_names c n (sym e ∙ q), λ h. e ∙ names_name c n h)

-- growth

pub keeps_refl : (v : Vocabulary) → Keeps v v
keeps_refl v = record { codes = λ n c e. e; arities = λ f a e. e }

pub keeps_symbol : (v : Vocabulary) (n : List ℕ) → Keeps v (with_symbol v n)
keeps_symbol v n = let g = grows_symbol v n in record { codes = λ m c e. same_code g m c e; arities = g.arities }

pub keeps_arity : (v : Vocabulary) (f k : ℕ) → arity_of v f ≡ None → Keeps v (with_arity v f k)
keeps_arity v f k e = let g = grows_arity v f k e in record { codes = λ m c q. q; arities = g.arities }

found_other : (k : ℕ) (xs : List (List ℕ)) (n m : List ℕ) → found k xs m ≡ None → bytes_eq n m ≡ false → found k (xs ++ n ∷ []) m ≡ None
found_other k [] n m e o = cond-false _ _ _ o
found_other k (x ∷ xs) n m e o = by (found_other (suc k) xs n m) (bytes_eq x m) refl e
  where
    by : (found (suc k) xs m ≡ None → bytes_eq n m ≡ false → found (suc k) (xs ++ n ∷ []) m ≡ None) → (b : Bool) → bytes_eq x m ≡ b → cond b (Some k) (found (suc k) xs m) ≡ None → cond (bytes_eq x m) (Some k) (found (suc k) (xs ++ n ∷ []) m) ≡ None
    by ih true s f = clash (cc)
    by ih false s f = cond-false _ _ _ s ∙ ih f o

pub keeps_variable : (v : Vocabulary) (n : List ℕ) → code_of v n ≡ None → Keeps v (with_variable v n)
keeps_variable v n new = record { codes = λ m c e. by m c (found 0 v.variables m) refl e; arities = λ f a e. e }
  where
    other : (m : List ℕ) (c : ℕ) → code_of v m ≡ Some c → (b : Bool) → bytes_eq n m ≡ b → bytes_eq n m ≡ false
    other m c e false s = s
    other m c e true s = let z = ap (code_of v) ((bytes_eq-Decides n m).0 s) in clash (cc)

    by : (m : List ℕ) (c : ℕ) (o : Option ℕ) → found 0 v.variables m ≡ o → var_or o (found 0 v.symbols m) ≡ Some c → code_of (with_variable v n) m ≡ Some c
    by m c (Some x) f e = ap (λ o. var_or o (found 0 v.symbols m)) (found_more 0 x v.variables (n ∷ []) m f) ∙ e
    by m c None f e =
        let code : code_of v m ≡ Some c = ap (λ o. var_or o (found 0 v.symbols m)) f ∙ e in
        ap (λ o. var_or o (found 0 v.symbols m)) (found_other 0 v.variables n m f (other m c code (bytes_eq n m) refl)) ∙ e

kept_coded : (v w : Vocabulary) → Keeps v w → (k : ℕ) (ns : List (List ℕ)) → T (all_coded v k ns) → T (all_coded w k ns)
kept_coded v w g k [] h = tt
kept_coded v w g k (n ∷ ns) h =
    both _ _ (is_number_T (code_of w n) k (g.codes n k (number_is (code_of v n) k (fst_of (is_number (code_of v n) k) _ h))))
    (kept_coded v w g (suc k) ns (snd_of (is_number (code_of v n) k) _ h))

coded_append : (v : Vocabulary) (k : ℕ) (ns : List (List ℕ)) (n : List ℕ) → T (all_coded v k ns) → code_of v n ≡ Some (k + length ns) → T (all_coded v k (ns ++ n ∷ []))
coded_append v k [] n h e = both _ _ (is_number_T (code_of v n) k (e ∙ ap Some (let z : k + 0 ≡ k = omega arith in z))) tt
coded_append v k (m ∷ ns) n h e =
    both _ _ (fst_of (is_number (code_of v m) k) _ h)
    (coded_append v (suc k) ns n (snd_of (is_number (code_of v m) k) _ h) (e ∙ ap Some (let z : k + suc (length ns) ≡ suc k + length ns = omega arith in z)))

small_none : (xs : List (Option ℕ)) → T (all_small xs) → T (all_small (xs ++ None ∷ []))
small_none [] h = tt
small_none (None ∷ xs) h = small_none xs h
small_none (Some k ∷ xs) h = both _ _ (fst_of (leb k 4) _ h) (small_none xs (snd_of (leb k 4) _ h))

small_set : (xs : List (Option ℕ)) (f k : ℕ) → k ≤ 4 → T (all_small xs) → T (all_small (set xs f (Some k)))
small_set [] f k l h = h
small_set (None ∷ xs) zero k l h = both _ _ (held _ (le-leb k 4 l)) h
small_set (Some a ∷ xs) zero k l h = both _ _ (held _ (le-leb k 4 l)) (snd_of (leb a 4) _ h)
small_set (None ∷ xs) (suc f) k l h = small_set xs f k l h
small_set (Some a ∷ xs) (suc f) k l h = both _ _ (fst_of (leb a 4) _ h) (small_set xs f k l (snd_of (leb a 4) _ h))

pub small_at : (xs : List (Option ℕ)) → T (all_small xs) → (f a : ℕ) → get_or xs f None ≡ Some a → a ≤ 4
small_at [] h f a e = clash (cc)
small_at (None ∷ xs) h zero a e = clash (cc)
small_at (Some k ∷ xs) h zero a e = let z : k ≡ a = cc in let l = leb→le k 4 (fst_of (leb k 4) _ h) in omega arith
small_at (None ∷ xs) h (suc f) a e = small_at xs h f a e
small_at (Some k ∷ xs) h (suc f) a e = small_at xs (snd_of (leb k 4) _ h) f a e

none_parts : (v : Vocabulary) (n : List ℕ) → code_of v n ≡ None → (found 0 v.variables n ≡ None) × (found 0 v.symbols n ≡ None)
none_parts v n e = by (found 0 v.variables n) refl e
  where
    by : (o : Option ℕ) → found 0 v.variables n ≡ o → var_or o (found 0 v.symbols n) ≡ None → (found 0 v.variables n ≡ None) × (found 0 v.symbols n ≡ None)
    by (Some x) f q = clash (cc)
    by None f q = (f, q)

pub consistent_symbol : (v : Vocabulary) (n : List ℕ) → code_of v n ≡ None → Consistent v → Consistent (with_symbol v n)
consistent_symbol v n e s =
    let w = with_symbol v n in
    let g = keeps_symbol v n in
    let p = none_parts v n e in
    let code : code_of w n ≡ Some (0 + length v.symbols) = ap (λ o. var_or o (found 0 w.symbols n)) p.0 ∙ found_new 0 v.symbols n p.1 in
    record {
      even = even_symbol v n s.even;
      small = small_none v.arities s.small;
      symbols_apart = coded_append w 0 v.symbols n (kept_coded v w g 0 v.symbols s.symbols_apart) code;
      variables_apart = kept_coded v w g 32768 v.variables s.variables_apart;
    }

pub consistent_variable : (v : Vocabulary) (n : List ℕ) → code_of v n ≡ None → Consistent v → Consistent (with_variable v n)
consistent_variable v n e s =
    let w = with_variable v n in
    let g = keeps_variable v n e in
    let p = none_parts v n e in
    let code : code_of w n ≡ Some (32768 + length v.variables) =
    ap (λ o. var_or o (found 0 w.symbols n)) (found_new 0 v.variables n p.0) ∙ ap Some (let z : 32768 + (0 + length v.variables) ≡ 32768 + length v.variables = omega arith in z) in
    record {
      even = s.even;
      small = s.small;
      symbols_apart = kept_coded v w g 0 v.symbols s.symbols_apart;
      variables_apart = coded_append w 32768 v.variables n (kept_coded v w g 32768 v.variables s.variables_apart) code;
    }

pub consistent_arity : (v : Vocabulary) (f k : ℕ) → arity_of v f ≡ None → k ≤ 4 → Consistent v → Consistent (with_arity v f k)
consistent_arity v f k e l s =
    let w = with_arity v f k in
    let g = keeps_arity v f k e in
    record {
      even = even_arity v f k s.even;
      small = small_set v.arities f k l s.small;
      symbols_apart = kept_coded v w g 0 v.symbols s.symbols_apart;
      variables_apart = kept_coded v w g 32768 v.variables s.variables_apart;
    }
