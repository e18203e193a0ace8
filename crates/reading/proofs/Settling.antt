-- In rules that are spelled over names, every symbol has its arity: it was numbered where it stands.
use Rattle.std.proofs.Common.{◌≡◌, ℕ, zero, suc, ◌+◌, ◌<◌, ◌≤◌, Bool, true, false, cond, ◌&&◌, T, ltb, List, [], ◌∷◌, ◌++◌, length, get_or, is_some as option_is_some, Some, None, Option, sym, refl, ap, ◌∙◌, subst, arith, ltb→lt}
use Rattle.tokens.specs.Tokens.{Word, Word.lpar, Word.rpar, Word.comma, Word.arrow, Word.named, Word.long, Word.illegal}
use Rattle.terms.specs.Terms.{Term, Terms, Term.var, Term.app, Terms.none, Terms.more, count}
use Rattle.terms.specs.Limits.{most_symbols}
use Rattle.terms.specs.Models.{Sides}
use Rattle.terms.proofs.Booleans.{fst_of, snd_of}
use Rattle.vocabulary.specs.Vocabularies.{Vocabulary, found, code_of, arity_of, is_number, Consistent}
use Rattle.vocabulary.proofs.Consistency.{coded_at}
use Rattle.reading.specs.Spelling.{over, over_all, words, arguments, others, numbered}
use Rattle.reading.specs.Sides.{Role}
use Rattle.reading.specs.Laws.{Spells, Settled}
use Rattle.reading.specs.Grammar.{RulesSpelled, RulesSpelled.no_rules, RulesSpelled.one_more}

is_some : (o : Option ℕ) (k : ℕ) → T (is_number o k) → option_is_some o ≡ true
is_some None k h = absurd h
is_some (Some a) k h = refl

module _ (v : Vocabulary) (names : Consistent v) (few : length v.symbols ≤ most_symbols) where
  -- if the name stands for a symbol, then that has its arity
  abbrev Fixed : List ℕ → Type 0
  Fixed n = (c : ℕ) → code_of v n ≡ Some c → c < 32768 → option_is_some (arity_of v c) ≡ true

  abbrev AllFixed : List (List ℕ) → Type 0
  AllFixed [] = Unit {0}
  AllFixed (n ∷ ns) = Fixed n × AllFixed ns

  abbrev FixedWord : Word → Type 0
  FixedWord lpar = Unit {0}
  FixedWord rpar = Unit {0}
  FixedWord comma = Unit {0}
  FixedWord arrow = Unit {0}
  FixedWord (named n) = Fixed n
  FixedWord long = Unit {0}
  FixedWord illegal = Unit {0}

  abbrev WordsFixed : List Word → Type 0
  WordsFixed [] = Unit {0}
  WordsFixed (w ∷ ws) = FixedWord w × WordsFixed ws

  both_fixed : (xs ys : List Word) → WordsFixed xs → WordsFixed ys → WordsFixed (xs ++ ys)
  both_fixed [] ys a b = b
  both_fixed (x ∷ xs) ys a b = (a.0, both_fixed xs ys a.1 b)

  symbol_code : (f : ℕ) → f < length v.symbols → code_of v (get_or v.symbols f []) ≡ Some f
  symbol_code f lt = coded_at v 0 v.symbols names.symbols_apart f lt ∙ ap Some (let z : 0 + f ≡ f = omega arith in z)

  mutual
    term_fixed : (t : Term) → T (over v t) → WordsFixed (words v t)
    term_fixed (var x) g = (
      λ c e lt.
          let q = coded_at v 32768 v.variables names.variables_apart x (ltb→lt x _ g) in
          let is : c ≡ 32768 + x = cc in
          let z : ⊥ = omega arith in
          absurd z,
      tt,
    )
    term_fixed (app f ts) g =
        let head = ltb f (length v.symbols) && is_number (arity_of v f) (count ts) in
        let h = fst_of head (over_all v ts) g in (
          λ c e lt.
              let q = symbol_code f (ltb→lt f _ (fst_of (ltb f (length v.symbols)) _ h)) in
              let is : f ≡ c = cc in
              ap (λ k. option_is_some (arity_of v k)) (sym is) ∙ is_some (arity_of v f) (count ts) (snd_of (ltb f (length v.symbols)) _ h),
          arguments_fixed ts (snd_of head (over_all v ts) g),
        )

    arguments_fixed : (ts : Terms) → T (over_all v ts) → WordsFixed (arguments v ts)
    arguments_fixed none g = tt
    arguments_fixed (more t ts) g = (tt, both_fixed (words v t) (others v ts) (term_fixed t (fst_of (over v t) _ g)) (others_fixed ts (snd_of (over v t) _ g)))

    others_fixed : (ts : Terms) → T (over_all v ts) → WordsFixed (others v ts)
    others_fixed none g = (tt, tt)
    others_fixed (more t ts) g = (tt, both_fixed (words v t) (others v ts) (term_fixed t (fst_of (over v t) _ g)) (others_fixed ts (snd_of (over v t) _ g)))

  side_fixed : {p : Role} {ws : List Word} {cs : List ℕ} → Spells p v ws cs → WordsFixed ws
  side_fixed s = subst WordsFixed (sym s.spelled) (term_fixed s.term s.named)

  rules_fixed : {ws : List Word} {ss : List Sides} → RulesSpelled v ws ss → WordsFixed ws
  rules_fixed no_rules = tt
  rules_fixed (one_more {ls = ls} {rs = rs} {ws = ws} l i r m) = both_fixed ls (arrow ∷ (rs ++ ws)) (side_fixed l) (tt, both_fixed rs ws (side_fixed r) (rules_fixed m))

  push_fixed : (ns : List (List ℕ)) (n : List ℕ) → AllFixed ns → Fixed n → AllFixed (ns ++ n ∷ [])
  push_fixed [] n a f = (f, tt)
  push_fixed (m ∷ ns) n a f = (a.0, push_fixed ns n a.1 f)

  -- numbering takes names from the words
  numbered_fixed : (vars syms : List (List ℕ)) (ws : List Word) → AllFixed syms → WordsFixed ws → AllFixed (numbered vars syms ws)
  numbered_fixed vars syms [] a b = a
  numbered_fixed vars syms (lpar ∷ ws) a b = numbered_fixed vars syms ws a b.1
  numbered_fixed vars syms (rpar ∷ ws) a b = numbered_fixed vars syms ws a b.1
  numbered_fixed vars syms (comma ∷ ws) a b = numbered_fixed vars syms ws a b.1
  numbered_fixed vars syms (arrow ∷ ws) a b = numbered_fixed vars syms ws a b.1
  numbered_fixed vars syms (long ∷ ws) a b = numbered_fixed vars syms ws a b.1
  numbered_fixed vars syms (illegal ∷ ws) a b = numbered_fixed vars syms ws a b.1
  numbered_fixed vars syms (named n ∷ ws) a b =
      by (numbered_fixed vars syms ws a b.1) (numbered_fixed vars (syms ++ n ∷ []) ws (push_fixed syms n a b.0) b.1) (option_is_some (found 0 vars n)) (option_is_some (found 0 syms n))
    where
      by : AllFixed (numbered vars syms ws) → AllFixed (numbered vars (syms ++ n ∷ []) ws) → (s t : Bool) → AllFixed (cond s (numbered vars syms ws) (cond t (numbered vars syms ws) (numbered vars (syms ++ n ∷ []) ws)))
      by x y true t = x
      by x y false true = x
      by x y false false = y

  fixed_at : (ns : List (List ℕ)) → AllFixed ns → (f : ℕ) → f < length ns → Fixed (get_or ns f [])
  fixed_at [] a f lt = let z : ⊥ = omega arith in absurd z
  fixed_at (n ∷ ns) a zero lt = a.0
  fixed_at (n ∷ ns) a (suc f) lt = fixed_at ns a.1 f (omega arith)

  pub rules_settled : {ws : List Word} {ss : List Sides} → RulesSpelled v ws ss → v.symbols ≡ numbered v.variables [] ws → Settled v
  rules_settled {ws} r e f lt =
      fixed_at v.symbols (subst AllFixed (sym e) (numbered_fixed v.variables [] ws tt (rules_fixed r))) f lt f (symbol_code f lt) (omega arith)
