-- Start terms: read exactly if spelled.
use Rattle.std.proofs.lemmas.List.{ext_get_or}
use Rattle.std.proofs.Common.{◌≡◌, ℕ, ◌+◌, true, cond, ◌&&◌, T, ltb, List, [], ◌∷◌, ◌++◌, length, get_or, is_some, Some, None, Option, sym, refl, ap, ◌∙◌, subst, ap₂, append_assoc, arith, ltb→lt}
use Rattle.tokens.specs.Tokens.{Word, Word.named}
use Rattle.terms.specs.Terms.{Term, Terms, Term.var, Term.app, Terms.none, Terms.more, count}
use Rattle.terms.proofs.Booleans.{fst_of, snd_of}
use Rattle.vocabulary.specs.Vocabularies.{Vocabulary, found, var_or, code_of, arity_of, is_number, Consistent}
use Rattle.vocabulary.specs.Growth.{Grows}
use Rattle.vocabulary.proofs.Growing.{grows_refl, Even}
use Rattle.vocabulary.proofs.Consistency.{coded_at}
use Rattle.reading.specs.Spelling.{over, over_all, words, arguments, others, numbered}
use Rattle.reading.specs.Sides.{Role.start}
use Rattle.reading.specs.Laws.{Spells, Read, Settled, StartExactly}
use Rattle.reading.proofs.Completes.{Ahead}
use Rattle.reading.proofs.Whole.{whole_sound, whole_complete}

known_skip : (v : Vocabulary) (n : List ℕ) (c : ℕ) (after : List Word) → code_of v n ≡ Some c → numbered v.variables v.symbols (named n ∷ after) ≡ numbered v.variables v.symbols after
known_skip v n c after e = by (found 0 v.variables n) (found 0 v.symbols n) e
  where
    rest : List (List ℕ) → List (List ℕ)
    rest syms = numbered v.variables syms after

    by : (x y : Option ℕ) → var_or x y ≡ Some c → cond (is_some x) (rest v.symbols) (cond (is_some y) (rest v.symbols) (rest (v.symbols ++ n ∷ []))) ≡ rest v.symbols
    by (Some i) y q = refl
    by None (Some j) q = refl
    by None None q = cc

module _ (v : Vocabulary) (names : Consistent v) where
  abbrev AddsNone : List Word → Type 0
  AddsNone ws = (after : List Word) → numbered v.variables v.symbols (ws ++ after) ≡ numbered v.variables v.symbols after

  both_none : (xs ys : List Word) → AddsNone xs → AddsNone ys → AddsNone (xs ++ ys)
  both_none xs ys a b after = ap (numbered v.variables v.symbols) (append_assoc xs ys after) ∙ a (ys ++ after) ∙ b after

  -- a term over the names brings none
  mutual
    term_none : (t : Term) → T (over v t) → AddsNone (words v t)
    term_none (var x) g after = known_skip v (get_or v.variables x []) (32768 + x) after (coded_at v 32768 v.variables names.variables_apart x (ltb→lt x _ g))
    term_none (app f ts) g after =
        let head = ltb f (length v.symbols) && is_number (arity_of v f) (count ts) in
        let lt = ltb→lt f _ (fst_of (ltb f (length v.symbols)) _ (fst_of head (over_all v ts) g)) in
        known_skip v (get_or v.symbols f []) (0 + f) (arguments v ts ++ after) (coded_at v 0 v.symbols names.symbols_apart f lt) ∙ arguments_none ts (snd_of head (over_all v ts) g) after

    arguments_none : (ts : Terms) → T (over_all v ts) → AddsNone (arguments v ts)
    arguments_none none g after = refl
    arguments_none (more t ts) g after = both_none (words v t) (others v ts) (term_none t (fst_of (over v t) _ g)) (others_none ts (snd_of (over v t) _ g)) after

    others_none : (ts : Terms) → T (over_all v ts) → AddsNone (others v ts)
    others_none none g after = refl
    others_none (more t ts) g after = both_none (words v t) (others v ts) (term_none t (fst_of (over v t) _ g)) (others_none ts (snd_of (over v t) _ g)) after

  spelled_ahead : (ws : List Word) (cs : List ℕ) → Spells start v ws cs → Ahead v v (ws ++ [])
  spelled_ahead ws cs s = record {
    variables = refl;
    symbols = sym (ap (λ l. numbered v.variables v.symbols (l ++ [])) s.spelled ∙ term_none s.term s.named []);
    arities = λ f a e. e;
  }

kept-arity : (o q : Option ℕ) → is_some o ≡ true → ((a : ℕ) → o ≡ Some a → q ≡ Some a) → q ≡ o
kept-arity (Some a) q e h = h a refl
kept-arity None q e h = cc

abbrev of_parts : List (List ℕ) → List (Option ℕ) → List (List ℕ) → Vocabulary
of_parts xs os ys = record { symbols = xs; arities = os; variables = ys }

parts_same : (v w : Vocabulary) → w.symbols ≡ v.symbols → w.arities ≡ v.arities → w.variables ≡ v.variables → w ≡ v
parts_same v w a b c = ap₂ (λ xs os. of_parts xs os w.variables) a b ∙ ap (of_parts v.symbols v.arities) c

-- where every arity is fixed and no symbol is added, growth adds nothing
pub grown_same : (v w : Vocabulary) → Even v → Even w → Settled v → Grows v w → w.symbols ≡ v.symbols → w ≡ v
grown_same v w even-v even-w settled g e =
    let long : length w.arities ≡ length v.arities = let z = ap length e in omega arith in
    let same = ext_get_or None w.arities v.arities long (λ i l. kept-arity (arity_of v i) (arity_of w i) (settled i (omega arith)) (g.arities i)) in
    parts_same v w e same g.variables

-- a start term leaves the vocabulary as it is
pub start_stays : (v : Vocabulary) → Consistent v → Settled v → (ws : List Word) (cs : List ℕ) (w : Vocabulary) → Read start v ws [] cs w → w ≡ v
start_stays v names settled ws cs w r = let b = whole_sound start v ws [] cs w names.even r in grown_same v w names.even b.even settled b.adds.grows b.allows

pub start_exactly : StartExactly
start_exactly v names settled few ws cs = (
  λ w r.
      let e = start_stays v names settled ws cs w r in
      (e, (whole_sound start v ws [] cs w names.even r).spells v (omega arith) (subst (Grows w) e (grows_refl w))),
  λ s.
      let r = whole_complete v few names start v ws [] cs refl s refl (spelled_ahead v names ws cs s) in
      subst (Read start v ws [] cs) (start_stays v names settled ws cs r.grown r.read) r.read,
)
