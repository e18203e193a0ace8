-- Arities that are all fixed.
use Rattle.std.proofs.Common.{◌≡◌, ℕ, ◌+◌, ◌<◌, ◌≤◌, Bool, true, false, cond, T, eqb, leb, List, [], ◌∷◌, ◌++◌, map, length, get_or, take, drop, Some, None, Ok, Err, Option, Result, sym, refl, ap, ◌∙◌, subst, ap₂, arith, le→leb, eqb→eq, length-take}
use lib.Dec.{eqb_refl}
use Rattle.std.proofs.lemmas.List.{take_more, drop_more, take_all, take-append-drop, length-map, map-append, get_or-map}
use Rattle.std.specs.Option.{option_map}
use Rattle.std.specs.Result.{IsOk}
use Rattle.terms.specs.Replies.{viewed}
use Rattle.terms.specs.Shapes.{all_within, is_signature}
use Rattle.terms.proofs.Booleans.{both, fst_of, snd_of, clash}
use Rattle.vocabulary.specs.declared.symbol.Symbol.{Symbol}
use Rattle.vocabulary.specs.Vocabularies.{symbol_arities, all_small, fixed_arities, are_fixed}

-- numbers, each as an arity that is fixed
abbrev pub somes : List ℕ → List (Option ℕ)
somes = map Some

pub fixed_as : (xs : List (Option ℕ)) (ns : List ℕ) → T (are_fixed xs ns) → xs ≡ somes ns
fixed_as [] [] h = refl
fixed_as [] (n ∷ ns) h = absurd h
fixed_as (None ∷ xs) ns h = absurd h
fixed_as (Some k ∷ xs) [] h = absurd h
fixed_as (Some k ∷ xs) (n ∷ ns) h = ap₂ (λ a l. Some a ∷ l) (eqb→eq k n (fst_of (eqb k n) _ h)) (fixed_as xs ns (snd_of (eqb k n) _ h))

pub are_somes : (ns : List ℕ) → T (are_fixed (somes ns) ns)
are_somes [] = tt
are_somes (n ∷ ns) = both _ _ (eqb_refl n) (are_somes ns)

pub somes_fixed : (ns : List ℕ) → fixed_arities (somes ns) ≡ Some ns
somes_fixed [] = refl
somes_fixed (n ∷ ns) = ap (option_map (λ (ks : List ℕ). n ∷ ks)) (somes_fixed ns)

-- all are fixed exactly as the numbers that are told
pub told_somes : (xs : List (Option ℕ)) (ns : List ℕ) → fixed_arities xs ≡ Some ns → xs ≡ somes ns
told_somes [] ns e = let is : ns ≡ [] = cc in ap somes (sym is)
told_somes (None ∷ xs) ns e = clash (cc)
told_somes (Some k ∷ xs) ns e = by (fixed_arities xs) (told_somes xs) e
  where
    by : (o : Option (List ℕ)) → ((ms : List ℕ) → o ≡ Some ms → xs ≡ somes ms) → option_map (λ (ks : List ℕ). k ∷ ks) o ≡ Some ns → Some k ∷ xs ≡ somes ns
    by None ih h = clash (cc)
    by (Some ms) ih h = let is : k ∷ ms ≡ ns = cc in ap (λ l. Some k ∷ l) (ih ms refl) ∙ ap somes is

pub told_fixed : (xs : List (Option ℕ)) (ns : List ℕ) → fixed_arities xs ≡ Some ns → T (are_fixed xs ns)
told_fixed xs ns e = subst (λ l. T (are_fixed l ns)) (sym (told_somes xs ns e)) (are_somes ns)

pub somes-length : (ns : List ℕ) → length (somes ns) ≡ length ns
somes-length ns = length-map ns Some

pub somes_small : (ns : List ℕ) → T (all_small (somes ns)) → T (all_within 4 ns)
somes_small [] h = tt
somes_small (n ∷ ns) h = both _ _ (fst_of (leb n 4) _ h) (somes_small ns (snd_of (leb n 4) _ h))

-- one that is not fixed
pub unfixed : (ns : List ℕ) (xs : List (Option ℕ)) → fixed_arities (somes ns ++ None ∷ xs) ≡ None
unfixed [] xs = refl
unfixed (n ∷ ns) xs = ap (option_map (λ (ks : List ℕ). n ∷ ks)) (unfixed ns xs)

-- a loop over the symbols
module _ (ss : List Symbol) (i : ℕ) (ns : List ℕ) (inv : take i (symbol_arities ss) ≡ somes ns) where
  module _ (x : Symbol) (inside : i < length ss) (is : x ≡ get_or ss i x) where
    within : i < length (symbol_arities ss)
    within = simp length-map inside

    here : get_or (symbol_arities ss) i None ≡ x.arity
    here = get_or-map (λ (s : Symbol). s.arity) ss i x None inside ∙ ap (λ (s : Symbol). s.arity) (sym is)

    pub one_more : (ms : List ℕ) (n : ℕ) → x.arity ≡ Some n → ms ≡ ns ++ n ∷ [] → take (i + 1) (symbol_arities ss) ≡ somes ms
    one_more ms n e push = take_more (symbol_arities ss) i None within ∙ ap₂ (λ l o. l ++ o ∷ []) inv (here ∙ e) ∙ sym (map-append Some ns (n ∷ [])) ∙ ap somes (sym push)

    pub one_open : x.arity ≡ None → None ≡ fixed_arities (symbol_arities ss)
    one_open e =
        let rest = drop (i + 1) (symbol_arities ss) in
        let whole : somes ns ++ None ∷ rest ≡ symbol_arities ss =
        ap₂ (λ l o. l ++ o ∷ rest) (sym inv) (sym (here ∙ e)) ∙ ap (λ l. take i (symbol_arities ss) ++ l) (sym (drop_more (symbol_arities ss) i None within)) ∙ take-append-drop i (symbol_arities ss) in
        sym (unfixed ns rest) ∙ ap fixed_arities whole

    pub one_fits : length ss ≤ 32 → length ns + 1 ≤ 32
    one_fits few = let a = ap length inv in let b = somes-length ns in let c = length-take i (symbol_arities ss) in let d = within in omega arith

  pub all_closed : length ss ≤ i → Some ns ≡ fixed_arities (symbol_arities ss)
  all_closed h = sym (somes_fixed ns) ∙ ap fixed_arities (sym inv ∙ take_all i (symbol_arities ss) (simp length-map h))

-- arities that are fixed, few and small are a signature
pub fixed_signature : (xs : List (Option ℕ)) (ns : List ℕ) → length xs ≤ 32 → T (all_small xs) → fixed_arities xs ≡ Some ns → T (is_signature ns)
fixed_signature xs ns few small e =
    let is = told_somes xs ns e in
    let l : length xs ≡ length ns = ap length is ∙ somes-length ns in
    both _ _ (le→leb (length ns) 32 (omega arith)) (somes_small ns (subst (λ l. T (all_small l)) is small))

pub accepted : {X Y E : Type 0} (f : X → Y) (r : Result X E) (b : Bool) (y : Y) (e : E) → viewed f r ≡ cond b (Ok y) (Err e) → T b → IsOk r
accepted f (Ok x) b y e h t = refl
accepted f (Err x) true y e h t = cc
accepted f (Err x) false y e h t = absurd t
