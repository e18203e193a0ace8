-- Runs of bytes, and the tokens of a text one by one.
use Rattle.std.proofs.Common.{◌≡◌, ℕ, zero, suc, ◌+◌, ◌<◌, ◌≤◌, Bool, true, false, T, cond, List, [], ◌∷◌, length, take, drop, Some, sym, refl, ap, ◌∙◌, subst, ap₂, add-zero, arith, length-drop, drop-drop}
use Rattle.std.specs.List.{prefix_len}
use Rattle.std.proofs.lemmas.List.Sums.{prefix_len-le-length}
use Rattle.std.proofs.lemmas.Bool.{cond-true, cond-false, and_from}
use Rattle.tokens.specs.Bytes.{blank, letter, all_letters, run}
use Rattle.tokens.specs.Tokens.{name_or_long, token, extra, Tok, lex, tokens_from}
use Rattle.tokens.specs.Lexing.{first_word, first_length, Taken}

-- a run is what std counts
pub run_is : (p : ℕ → Bool) (bs : List ℕ) → prefix_len p bs ≡ run p bs
run_is p [] = refl
run_is p (b ∷ bs) = ap (λ n. cond (p b) n 0) (let ih = run_is p bs in omega arith)

-- what belongs to the token before is passed
pub lex_skip : (at k : ℕ) (bs : List ℕ) → lex at k bs ≡ lex (at + k) 0 (drop k bs)
lex_skip at zero [] = refl
lex_skip at (suc k) [] = refl
lex_skip at zero (b ∷ bs) = ap (λ n. lex n 0 (b ∷ bs)) (sym (add-zero at))
lex_skip at (suc k) (b ∷ bs) = lex_skip (suc at) k bs ∙ (let e : suc at + k ≡ at + suc k = omega arith in ap (λ n. lex n 0 (drop k bs)) e)

blanks' : (at b : ℕ) (bs : List ℕ) (t : Bool) → blank b ≡ t → (lex (suc at) 0 bs ≡ lex (suc at + run blank bs) 0 (drop (run blank bs) bs))
    → lex at 0 (b ∷ bs) ≡ lex (at + cond t (suc (run blank bs)) 0) 0 (drop (cond t (suc (run blank bs)) 0) (b ∷ bs))
blanks' at b bs true e ih = cond-true (blank b) _ _ e ∙ ih ∙ (let s : suc at + run blank bs ≡ at + suc (run blank bs) = omega arith in ap (λ n. lex n 0 (drop (run blank bs) bs)) s)
blanks' at b bs false e ih = ap (λ n. lex n 0 (b ∷ bs)) (sym (add-zero at))

pub lex_blanks : (at : ℕ) (bs : List ℕ) → lex at 0 bs ≡ lex (at + run blank bs) 0 (drop (run blank bs) bs)
lex_blanks at [] = refl
lex_blanks at (b ∷ bs) = blanks' at b bs (blank b) refl (lex_blanks (suc at) bs)

-- behind a run of blanks stands no blank
pub solid_run : (bs : List ℕ) (b : ℕ) (rs : List ℕ) → drop (run blank bs) bs ≡ b ∷ rs → blank b ≡ false
solid_run [] b rs e = cc
solid_run (c ∷ bs) b rs e = go (solid_run bs b rs) (blank c) refl e
  where
    go : (drop (run blank bs) bs ≡ b ∷ rs → blank b ≡ false) → (t : Bool) → blank c ≡ t → drop (cond t (suc (run blank bs)) 0) (c ∷ bs) ≡ b ∷ rs → blank b ≡ false
    go ih true f q = ih q
    go ih false f q = let x : c ≡ b = cc in ap blank (sym x) ∙ f

-- what is found behind the blanks is the next token, or the end
pub popped : (text : List ℕ) (pos at end : ℕ) → pos ≤ length text → at ≡ pos + prefix_len blank (drop pos text) → end ≡ at + first_length (drop at text)
    → Taken (tokens_from text pos) (length text) (tokens_from text end) at (first_word (drop at text))
popped text pos at end within ea ee = go (drop at text) refl ee
  where
    n : ℕ
    n = run blank (drop pos text)

    is : at ≡ pos + n
    is = let r = run_is blank (drop pos text) in omega arith

    left : tokens_from text pos ≡ lex at 0 (drop at text)
    left = lex_blanks pos (drop pos text) ∙ ap₂ (λ n l. lex n 0 l) (sym is) (drop-drop n pos text ∙ ap (λ n. drop n text) (sym is))

    go : (r : List ℕ) → drop at text ≡ r → end ≡ at + first_length r → Taken (tokens_from text pos) (length text) (tokens_from text end) at (first_word r)
    go [] e f =
        let l = length-drop at text in
        let z = ap length e in
        let most = prefix_len-le-length blank (drop pos text) in
        let m = length-drop pos text in
        let same : end ≡ at = omega arith in
        (left ∙ ap (lex at 0) e, ap (tokens_from text) same ∙ ap (lex at 0) e, omega arith)
    go (b ∷ bs) e f =
        let k = extra b bs in
        let tok : Tok = record { at = at; word = token b bs } in
        let solid = solid_run (drop pos text) b bs (drop-drop n pos text ∙ ap (λ n. drop n text) (sym is) ∙ e) in
        let rest : drop k bs ≡ drop end text = sym (ap (drop (suc k)) e) ∙ drop-drop (suc k) at text ∙ ap (λ n. drop n text) (sym f) in
        let s : suc at + k ≡ end = omega arith in
        left ∙ ap (lex at 0) e ∙ cond-false (blank b) _ _ solid ∙ ap (λ (l : List Tok). tok ∷ l) (lex_skip (suc at) k bs ∙ ap₂ (λ n l. lex n 0 l) s rest)

all_run : (b : ℕ) (bs : List ℕ) (t : Bool) → letter b ≡ t → all_letters (take (run letter bs) bs) ≡ true → all_letters (take (cond t (suc (run letter bs)) 0) (b ∷ bs)) ≡ true
all_run b bs true e ih = and_from _ _ e ih
all_run b bs false e ih = refl

-- a run of letters is all letters
pub run_letters : (bs : List ℕ) → all_letters (take (run letter bs) bs) ≡ true
run_letters [] = refl
run_letters (b ∷ bs) = all_run b bs (letter b) refl (run_letters bs)

pub letters_all : (text : List ℕ) (n : ℕ) → n ≡ prefix_len letter text → T (all_letters (take n text))
letters_all text n e = subst (λ b. T b) (sym (ap (λ k. all_letters (take k text)) (e ∙ run_is letter text) ∙ run_letters text)) tt

-- where letters stand first, they are the first token
pub first_named : (text : List ℕ) (n : ℕ) → n ≡ prefix_len letter text → 0 < n → (Some (name_or_long (take n text)) ≡ first_word text) × (n ≡ first_length text)
first_named [] n e h = absurd (omega arith)
first_named (b ∷ bs) n e h = go (letter b) refl e
  where
    go : (t : Bool) → letter b ≡ t → n ≡ cond t (1 + prefix_len letter bs) 0 → (Some (name_or_long (take n (b ∷ bs))) ≡ first_word (b ∷ bs)) × (n ≡ first_length (b ∷ bs))
    go false f q = absurd (omega arith)
    go true f q =
        let r = run_is letter bs in
        let m : n ≡ suc (run letter bs) = omega arith in
        (ap (λ k. Some (name_or_long (take k (b ∷ bs)))) m ∙ ap Some (sym (cond-true (letter b) _ _ f)), m ∙ ap suc (sym (cond-true (letter b) _ _ f)))
