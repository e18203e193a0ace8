-- The walk over the codes of a term shows the term's words.
use Rattle.std.proofs.Common.{◌≡◌, ℕ, suc, ◌+◌, T, eqb, List, [], ◌∷◌, ◌++◌, get_or, Some, sym, refl, ap, ◌∙◌, ap₂, append_assoc, append-nil, arith, ltb→lt}
use Rattle.std.proofs.lemmas.Bool.{cond-true, cond-false, eq-eqb, ne_eqb}
use Rattle.tokens.specs.Tokens.{Word, Word.lpar, Word.comma, Word.named}
use Rattle.terms.specs.Terms.{Term, Terms, Term.var, Term.app, Terms.none, Terms.more, count, codes, codes_all}
use Rattle.terms.specs.Codes.{arity}
use Rattle.terms.proofs.Booleans.{fst_of, snd_of}
use Rattle.terms.proofs.Counting.{arity_variable, arity_symbol}
use Rattle.vocabulary.specs.Vocabularies.{Vocabulary}
use Rattle.vocabulary.specs.Naming.{Naming}
use Rattle.vocabulary.specs.Replies.{name_at}
use Rattle.reading.specs.Spelling.{over, over_all, words, arguments, others}
use Rattle.printing.specs.Showing.{followed, led, shown}
use Rattle.reading.proofs.Complete.{Complete, head_of}
use Rattle.printing.proofs.Sound.{few, variable_name, symbol_name}

-- a code that has a name, without arguments or with some
module _ (n : Naming) (ps : List ℕ) (c : ℕ) (cs m : List ℕ) (e : name_at n.vocabulary c ≡ Some m) where
  shows_leaf : arity n.signature c ≡ 0 → shown n ps (c ∷ cs) ≡ named m ∷ followed ps (λ qs. shown n qs cs)
  shows_leaf z = ap₂ led e (cond-true (eqb (arity n.signature c) 0) _ _ (eq-eqb _ 0 z))

  shows_node : (arity n.signature c ≡ 0 → ⊥) → shown n ps (c ∷ cs) ≡ named m ∷ lpar ∷ shown n (arity n.signature c ∷ ps) cs
  shows_node z = ap₂ led e (cond-false (eqb (arity n.signature c) 0) _ _ (ne_eqb _ 0 z))

module _ (n : Naming) (s : Complete n) where
  abbrev v : Vocabulary
  v = n.vocabulary

  abbrev then : List ℕ → List ℕ → List Word
  then ps cs = followed ps (λ qs. shown n qs cs)

  -- an argument, and the others behind it
  row : (t : Term) (ts : Terms) (ps cs : List ℕ)
      → shown n (suc (count ts) ∷ ps) (codes t ++ (codes_all ts ++ cs)) ≡ words v t ++ then (suc (count ts) ∷ ps) (codes_all ts ++ cs)
      → then (suc (count ts) ∷ ps) (codes_all ts ++ cs) ≡ others v ts ++ then ps cs
      → shown n (suc (count ts) ∷ ps) ((codes t ++ codes_all ts) ++ cs) ≡ (words v t ++ others v ts) ++ then ps cs
  row t ts ps cs first rest =
      ap (shown n (suc (count ts) ∷ ps)) (append_assoc (codes t) (codes_all ts) cs) ∙ first ∙ ap (λ l. words v t ++ l) rest
      ∙ sym (append_assoc (words v t) (others v ts) (then ps cs))

  mutual
    shows : (t : Term) (ps cs : List ℕ) → T (over v t) → shown n ps (codes t ++ cs) ≡ words v t ++ then ps cs
    shows (var x) ps cs g = shows_leaf n ps (32768 + x) cs _ (variable_name n s x (ltb→lt x _ g)) (arity_variable n.signature (32768 + x) (omega arith))
    shows (app f ts) ps cs g =
        let h = head_of n s f ts g in
        let lt = h.inside in
        let le = few n s in
        shows_app ts f (get_or v.symbols f []) ps cs (symbol_name n s f lt) (arity_symbol n.signature f (omega arith) ∙ sym h.many) h.arguments

    shows_app : (ts : Terms) (f : ℕ) (m : List ℕ) (ps cs : List ℕ) → name_at v f ≡ Some m → arity n.signature f ≡ count ts → T (over_all v ts)
        → shown n ps (f ∷ codes_all ts ++ cs) ≡ named m ∷ arguments v ts ++ then ps cs
    shows_app none f m ps cs e z g = shows_leaf n ps f cs m e z
    shows_app (more t ts) f m ps cs e z g =
        let many : arity n.signature f ≡ suc (count ts) = omega arith in
        shows_node n ps f (codes_all (more t ts) ++ cs) m e (λ q. let bad : ⊥ = omega arith in bad)
        ∙ ap (λ k. named m ∷ lpar ∷ shown n (k ∷ ps) (codes_all (more t ts) ++ cs)) many
        ∙ ap (λ l. named m ∷ lpar ∷ l)
        (row t ts ps cs (shows t (suc (count ts) ∷ ps) (codes_all ts ++ cs) (fst_of (over v t) _ g)) (shows_others ts ps cs (snd_of (over v t) _ g)))

    shows_others : (ts : Terms) (ps cs : List ℕ) → T (over_all v ts) → then (suc (count ts) ∷ ps) (codes_all ts ++ cs) ≡ others v ts ++ then ps cs
    shows_others none ps cs g = refl
    shows_others (more t ts) ps cs g =
        let a : 1 + count ts ≡ suc (count ts) = omega arith in
        ap (λ k. then (suc k ∷ ps) ((codes t ++ codes_all ts) ++ cs)) a ∙ ap (λ l. comma ∷ l)
        (row t ts ps cs (shows t (suc (count ts) ∷ ps) (codes_all ts ++ cs) (fst_of (over v t) _ g)) (shows_others ts ps cs (snd_of (over v t) _ g)))

  pub shows_term : (t : Term) → T (over v t) → shown n [] (codes t) ≡ words v t
  shows_term t g = ap (shown n []) (sym (append-nil (codes t))) ∙ shows t [] [] g ∙ append-nil (words v t)
