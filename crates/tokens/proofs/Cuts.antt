-- Every text has one cut into tokens: the one that the definition gives.
use Rattle.std.proofs.Common.{◌≡◌, ℕ, zero, suc, ◌+◌, ◌≤◌, Bool, true, false, cond, eqb, leb, ◌⊎◌, List, [], ◌∷◌, ◌++◌, length, get_or, take, drop, sym, refl, ap, ◌∙◌, subst, ap₂, inl, inr, append-nil, arith, length-drop}
use Rattle.std.proofs.lemmas.List.{take-append-drop, drop_at, take_at}
use Rattle.std.proofs.lemmas.Bool.{cond-true, cond-false, and_from, and_parts, eq-eqb, ne_eqb, cases_Bool, cases_eq, le-leb, lt-leb, leb-true, leb-false, or_cases, eqb-true, and_left, and_right, false≢true}
use Rattle.tokens.specs.Bytes.{blank, letter, all_letters, run}
use Rattle.tokens.specs.Tokens.{Word, Word.arrow, Word.named, Word.long, Tok, name_or_long, is_arrow, mark, token, extra, lex}
use Rattle.tokens.specs.Cuts.{all_blank, Stops, Spelled, Spelled.open_bracket, Spelled.close_bracket, Spelled.a_comma, Spelled.an_arrow, Spelled.a_name, Spelled.a_long_name, Spelled.a_stray, Cut, Cut.at_end, Cut.token_next, Tokenized}
use Rattle.tokens.proofs.Lexes.{lex_skip, run_letters, solid_run}

-- blanks are passed
lex_gap : (at : ℕ) (gap bs : List ℕ) → all_blank gap → lex at 0 (gap ++ bs) ≡ lex (at + length gap) 0 bs
lex_gap at [] bs h = let e : at ≡ at + 0 = omega arith in ap (λ n. lex n 0 bs) e
lex_gap at (b ∷ gap) bs h =
    let e : suc at + length gap ≡ at + suc (length gap) = omega arith in
    cond-true (blank b) _ _ h.0 ∙ lex_gap (suc at) gap bs h.1 ∙ ap (λ n. lex n 0 bs) e

lex_over : (at : ℕ) (gap : List ℕ) → all_blank gap → lex at 0 gap ≡ []
lex_over at gap h = ap (lex at 0) (sym (append-nil gap)) ∙ lex_gap at gap [] h

-- a run of letters ends where the letters do
run_all : (n rest : List ℕ) → all_letters n ≡ true → Stops rest → run letter (n ++ rest) ≡ length n
run_all [] [] a s = refl
run_all [] (b ∷ rest) a s = cond-false (letter b) _ _ s
run_all (b ∷ n) rest a s =
    let p = and_parts (letter b) (all_letters n) a in
    cond-true (letter b) _ _ p.0 ∙ ap suc (run_all n rest p.1 s)

-- what a token's bytes say of the definition
record Found (w : Word) (u rest : List ℕ) : Type 0 where
  first : ℕ
  others : List ℕ
  whole : u ≡ first ∷ others
  solid : blank first ≡ false
  word : token first (others ++ rest) ≡ w
  length_is : extra first (others ++ rest) ≡ length others

-- a blank is no letter, and none of the other bytes that begin a token
blank_cases : (b : ℕ) → blank b ≡ true → (b ≡ 32) ⊎ ((b ≡ 9) ⊎ ((b ≡ 13) ⊎ (b ≡ 10)))
blank_cases b e = elim (or_cases (eqb b 32) _ e) [
  | inl x ↦ inl (eqb-true b 32 x)
  | inr f ↦ elim (or_cases (eqb b 9) _ f) [
    | inl x ↦ inr (inl (eqb-true b 9 x))
    | inr g ↦ elim (or_cases (eqb b 13) _ g) [ inl x ↦ inr (inr (inl (eqb-true b 13 x))) | inr x ↦ inr (inr (inr (eqb-true b 10 x))) ]
  ]
]

letter-solid : (b : ℕ) → letter b ≡ true → blank b ≡ false
letter-solid b e = elim (cases_Bool (blank b)) [
  | inr f ↦ f
  | inl t ↦ absurd (elim (blank_cases b t) [
    | inl x ↦ clash (sym (ap letter x) ∙ e)
    | inr y ↦ elim y [
      | inl x ↦ clash (sym (ap letter x) ∙ e)
      | inr z ↦ elim z [ inl x ↦ clash (sym (ap letter x) ∙ e) | inr x ↦ clash (sym (ap letter x) ∙ e) ]
    ]
  ])
]
  where
    clash : false ≡ true → ⊥
    clash q = false≢true q

found_name : (b : ℕ) (n rest : List ℕ) → letter b ≡ true → all_letters n ≡ true → Stops rest → (w : Word) → name_or_long (b ∷ n) ≡ w → Found w (b ∷ n) rest
found_name b n rest l a s w e =
    let r = run_all n rest a s in
    record {
      first = b;
      others = n;
      whole = refl;
      solid = letter-solid b l;
      word = cond-true (letter b) _ _ l ∙ ap (λ k. name_or_long (b ∷ take k (n ++ rest))) r ∙ ap (λ x. name_or_long (b ∷ x)) (take_at n rest (length n) refl) ∙ e;
      length_is = cond-true (letter b) _ _ l ∙ r;
    }

found : {w : Word} {u rest : List ℕ} → Spelled w u rest → Found w u rest
found open_bracket = record { first = 40; others = []; whole = refl; solid = refl; word = refl; length_is = refl }
found close_bracket = record { first = 41; others = []; whole = refl; solid = refl; word = refl; length_is = refl }
found a_comma = record { first = 44; others = []; whole = refl; solid = refl; word = refl; length_is = refl }
found an_arrow = record { first = 45; others = 62 ∷ []; whole = refl; solid = refl; word = refl; length_is = refl }
found (a_name {b} {n} {rest} l a h s) = found_name b n rest l a s (named (b ∷ n)) (cond-true _ _ _ (le-leb (suc (length n)) 16 (omega arith)))
found (a_long_name {b} {n} {rest} l a h s) = found_name b n rest l a s long (cond-false _ _ _ (lt-leb (suc (length n)) 16 (omega arith)))
found (a_stray {b} {rest} y) =
    let arrow' : is_arrow b rest ≡ false = no_arrow_test b rest y.no_arrow in
    record {
      first = b;
      others = [];
      whole = refl;
      solid = y.no_blank;
      word = cond-false (letter b) _ _ y.no_letter ∙ cond-false _ _ _ arrow' ∙ cond-false _ _ _ (ne_eqb b 40 y.no_open) ∙ cond-false _ _ _ (ne_eqb b 41 y.no_close) ∙ cond-false _ _ _ (ne_eqb b 44 y.no_comma);
      length_is = cond-false (letter b) _ _ y.no_letter ∙ cond-false _ _ _ arrow';
    }
  where
    no_arrow_test : (b : ℕ) (rest : List ℕ) → (b ≡ 45 → get_or rest 0 0 ≡ 62 → ⊥) → is_arrow b rest ≡ false
    no_arrow_test b rest n = elim (cases_eq b 45) [
      | inr m ↦ and_left _ _ (ne_eqb b 45 m)
      | inl e ↦ and_right (eqb b 45) _ (ne_eqb (get_or rest 0 0) 62 (n e))
    ]

-- a cut is the definition's
lexed : {at : ℕ} {bs : List ℕ} {ts : List Tok} → Cut at bs ts → ts ≡ lex at 0 bs
lexed (at_end {at} {gap} h) = sym (lex_over at gap h)
lexed (token_next {at} gap {u} {rest} {w} {ts} h y c) =
    let f = found y in
    let here = at + length gap in
    let tok : Tok = record { at = here; word = w } in
    let e : suc here + length f.others ≡ here + length u = let l = ap length f.whole in omega arith in
    let after : lex (suc here) (extra f.first (f.others ++ rest)) (f.others ++ rest) ≡ lex (here + length u) 0 rest =
    ap (λ k. lex (suc here) k (f.others ++ rest)) f.length_is ∙ lex_skip (suc here) (length f.others) (f.others ++ rest)
    ∙ ap₂ (λ n l. lex n 0 l) e (drop_at f.others rest (length f.others) refl) in
    sym (lex_gap at gap (u ++ rest) h ∙ ap (λ l. lex here 0 (l ++ rest)) f.whole ∙ cond-false (blank f.first) _ _ f.solid
    ∙ ap₂ (λ x l. record { at = here; word = x } ∷ l) f.word (after ∙ sym (lexed c)))

-- the definition's tokens are a cut
spelled_name : (b : ℕ) (rs n rest : List ℕ) → letter b ≡ true → all_letters n ≡ true → Stops rest → (t : Bool) → leb (length (b ∷ n)) 16 ≡ t → Spelled (cond t (named (b ∷ n)) long) (b ∷ n) rest
spelled_name b rs n rest l a s true e = a_name l a (let h = leb-true (suc (length n)) 16 e in omega arith) s
spelled_name b rs n rest l a s false e = a_long_name l a (let h = leb-false (suc (length n)) 16 e in omega arith) s

stops_run : (bs : List ℕ) → Stops (drop (run letter bs) bs)
stops_run [] = tt
stops_run (b ∷ bs) = go (stops_run bs) (letter b) refl
  where
    go : Stops (drop (run letter bs) bs) → (t : Bool) → letter b ≡ t → Stops (drop (cond t (suc (run letter bs)) 0) (b ∷ bs))
    go ih true e = ih
    go ih false e = e

spelled-mark : (b : ℕ) (rs : List ℕ) → blank b ≡ false → letter b ≡ false → is_arrow b rs ≡ false → Spelled (mark b) (b ∷ []) rs
spelled-mark b rs nb nl na = elim (cases_eq b 40) [
  | inl e ↦ subst (λ x. Spelled (mark x) (x ∷ []) rs) (sym e) open_bracket
  | inr n40 ↦ elim (cases_eq b 41) [
    | inl e ↦ subst (λ x. Spelled (mark x) (x ∷ []) rs) (sym e) close_bracket
    | inr n41 ↦ elim (cases_eq b 44) [
      | inl e ↦ subst (λ x. Spelled (mark x) (x ∷ []) rs) (sym e) a_comma
      | inr n44 ↦ subst (λ w. Spelled w (b ∷ []) rs)
          (sym (cond-false _ _ _ (ne_eqb b 40 n40) ∙ cond-false _ _ _ (ne_eqb b 41 n41) ∙ cond-false _ _ _ (ne_eqb b 44 n44)))
          (a_stray (record {
            no_blank = nb;
            no_letter = nl;
            no_open = n40;
            no_close = n41;
            no_comma = n44;
            no_arrow = λ e f. false≢true (sym na ∙ and_from _ _ (eq-eqb b 45 e) (eq-eqb (get_or rs 0 0) 62 f));
          }))
    ]
  ]
]

spelled_arrow : (b : ℕ) (rs : List ℕ) → b ≡ 45 → get_or rs 0 0 ≡ 62 → Spelled arrow (b ∷ take 1 rs) (drop 1 rs)
spelled_arrow b [] e f = let z : ⊥ = omega arith in absurd z
spelled_arrow b (c ∷ rs) e f = subst (λ x. Spelled arrow (x ∷ c ∷ []) rs) (sym e) (subst (λ x. Spelled arrow (45 ∷ x ∷ []) rs) (sym f) an_arrow)

spelled : (b : ℕ) (rs : List ℕ) → blank b ≡ false → Spelled (token b rs) (b ∷ take (extra b rs) rs) (drop (extra b rs) rs)
spelled b rs nb = go (letter b) (is_arrow b rs) refl refl
  where
    go : (l a : Bool) → letter b ≡ l → is_arrow b rs ≡ a
        → Spelled (cond l (name_or_long (b ∷ take (run letter rs) rs)) (cond a arrow (mark b))) (b ∷ take (cond l (run letter rs) (cond a 1 0)) rs) (drop (cond l (run letter rs) (cond a 1 0)) rs)
    go true a e f = spelled_name b rs (take (run letter rs) rs) (drop (run letter rs) rs) e (run_letters rs) (stops_run rs) (leb (length (b ∷ take (run letter rs) rs)) 16) refl
    go false true e f = let p = and_parts (eqb b 45) (eqb (get_or rs 0 0) 62) f in spelled_arrow b rs (eqb-true b 45 p.0) (eqb-true (get_or rs 0 0) 62 p.1)
    go false false e f = spelled-mark b rs nb e f

blanks_run : (bs : List ℕ) → all_blank (take (run blank bs) bs)
blanks_run [] = tt
blanks_run (b ∷ bs) = go (blanks_run bs) (blank b) refl
  where
    go : all_blank (take (run blank bs) bs) → (t : Bool) → blank b ≡ t → all_blank (take (cond t (suc (run blank bs)) 0) (b ∷ bs))
    go ih true e = (e, ih)
    go ih false e = tt

cut_from : (n at : ℕ) (bs : List ℕ) → length bs ≤ n → (ts : List Tok) × Cut at bs ts
cut_from zero at [] h = ([], at_end tt)
cut_from zero at (b ∷ bs) h = let z : ⊥ = omega arith in absurd z
cut_from (suc n) at bs h = go (λ k l f. cut_from n k l f) (drop (run blank bs) bs) refl
  where
    go : ((k : ℕ) (l : List ℕ) → length l ≤ n → (ts : List Tok) × Cut k l ts) → (r : List ℕ) → drop (run blank bs) bs ≡ r → (ts : List Tok) × Cut at bs ts
    go rec [] e =
        let whole : take (run blank bs) bs ≡ bs = sym (append-nil _) ∙ ap (λ l. take (run blank bs) bs ++ l) (sym e) ∙ take-append-drop (run blank bs) bs in
        ([], subst (λ l. Cut at l []) whole (at_end (blanks_run bs)))
    go rec (b ∷ rs) e =
        let k = extra b rs in
        let u = b ∷ take k rs in
        let rest = drop k rs in
        let g = take (run blank bs) bs in
        let joined : u ++ rest ≡ b ∷ rs = ap (λ l. b ∷ l) (take-append-drop k rs) in
        let whole : g ++ (u ++ rest) ≡ bs = ap (λ l. g ++ l) (joined ∙ sym e) ∙ take-append-drop (run blank bs) bs in
        let l1 = ap length e in
        let l2 = length-drop (run blank bs) bs in
        let l3 = length-drop k rs in
        let ih = rec (at + length g + length u) rest (omega arith) in
        let ts : List Tok = record { at = at + length g; word = token b rs } ∷ ih.0 in
        (ts, subst (λ l. Cut at l ts) whole (token_next g (blanks_run bs) (spelled b rs (solid_run bs b rs e)) ih.1))

pub tokenized : (text : List ℕ) → Tokenized text
tokenized text =
    let c = cut_from (length text) 0 text (omega arith) in
    record { cut = subst (Cut 0 text) (lexed c.1) c.1; only = λ ts k. lexed k }
