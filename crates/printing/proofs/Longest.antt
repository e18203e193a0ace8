-- No text is longer than eighteen bytes a code: a name of sixteen, and fewer than two brackets or commas.
use Rattle.std.proofs.Common.{◌≡◌, ℕ, suc, ◌+◌, ◌*◌, ◌≤◌, T, ltb, List, [], ◌∷◌, ◌++◌, length, get_or, ap, ◌∙◌, arith, ltb→lt, leb→le}
use Rattle.std.proofs.lemmas.Grind.{flat_map-append}
use Rattle.std.proofs.lemmas.List.{length-append}
use Rattle.tokens.specs.Bytes.{all_letters, is_name}
use Rattle.tokens.specs.Tokens.{Word, Word.lpar, Word.named}
use Rattle.terms.specs.Terms.{Term, Terms, Term.var, Term.app, Terms.none, Terms.more, codes, codes_all}
use Rattle.terms.proofs.Booleans.{fst_of, snd_of}
use Rattle.vocabulary.specs.Vocabularies.{Vocabulary}
use Rattle.vocabulary.specs.Naming.{Naming}
use Rattle.reading.specs.Spelling.{over, over_all, words, arguments, others}
use Rattle.reading.proofs.Complete.{head_of}
use Rattle.printing.specs.Texts.{word_bytes, text}
use Rattle.printing.proofs.Sound.{Sound}

abbrev size : List Word → ℕ
size ws = length (text ws)

size-append : (us ws : List Word) → size (us ++ ws) ≡ size us + size ws
size-append us ws = ap length (flat_map-append word_bytes us ws) ∙ length-append (text us) (text ws)

name_few : (m : List ℕ) → T (is_name m) → length m ≤ 16
name_few m h = leb→le (length m) 16 (snd_of (all_letters m) _ (snd_of (ltb 0 (length m)) _ h))

name_alone : (m : List ℕ) → T (is_name m) → size (named m ∷ []) ≤ 16
name_alone m h = let e = length-append m [] in let few = name_few m h in omega arith

module _ (n : Naming) (sd : Sound n) where
  abbrev v : Vocabulary
  v = n.vocabulary

  mutual
    pub few : (t : Term) → T (over v t) → size (words v t) + 2 ≤ 18 * length (codes t)
    few (var x) g = let h = name_alone (get_or v.variables x []) (sd.plain_variables x (ltb→lt x _ g)) in omega arith
    few (app f ts) g = let k = head_of n sd.complete f ts g in few_arguments ts (get_or v.symbols f []) (sd.plain_symbols f k.inside) k.arguments

    few_arguments : (ts : Terms) (m : List ℕ) → T (is_name m) → T (over_all v ts) → size (named m ∷ arguments v ts) + 2 ≤ 18 * suc (length (codes_all ts))
    few_arguments none m p g = let h = name_alone m p in omega arith
    few_arguments (more t ts) m p g =
        let name = name_few m p in
        let whole = length-append m (text (lpar ∷ words v t ++ others v ts)) in
        let cut = size-append (words v t) (others v ts) in
        let counted = length-append (codes t) (codes_all ts) in
        let first = few t (fst_of (over v t) _ g) in
        let rest = few_others ts (snd_of (over v t) _ g) in
        omega arith

    few_others : (ts : Terms) → T (over_all v ts) → size (others v ts) ≤ 18 * length (codes_all ts) + 1
    few_others none g = omega arith
    few_others (more t ts) g =
        let cut = size-append (words v t) (others v ts) in
        let counted = length-append (codes t) (codes_all ts) in
        let first = few t (fst_of (over v t) _ g) in
        let rest = few_others ts (snd_of (over v t) _ g) in
        omega arith
