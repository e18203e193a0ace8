-- The text of a term is cut into the term's words again.
use Rattle.std.proofs.Common.{◌≡◌, ℕ, suc, ◌+◌, T, ltb, List, [], ◌∷◌, ◌++◌, map, length, sym, refl, ap, ◌∙◌, subst, append_assoc, append-nil, arith, ltb→lt, leb→le}
use Rattle.tokens.specs.Bytes.{letter, all_letters, is_name}
use Rattle.tokens.specs.Tokens.{Word, Word.named, Tok, tokens}
use Rattle.tokens.specs.Cuts.{Stops, Spelled, Spelled.open_bracket, Spelled.close_bracket, Spelled.a_comma, Spelled.a_name, Cut, Cut.at_end, Cut.token_next}
use Rattle.tokens.proofs.Cuts.{tokenized}
use Rattle.terms.specs.Terms.{Term, Terms, Term.var, Term.app, Terms.none, Terms.more}
use Rattle.terms.proofs.Booleans.{fst_of, snd_of, holds}
use Rattle.vocabulary.specs.Vocabularies.{Vocabulary}
use Rattle.vocabulary.specs.Naming.{Naming}
use Rattle.reading.specs.Spelling.{over, over_all, words, arguments, others}
use Rattle.printing.specs.Texts.{word_bytes, text, spelled}
use Rattle.reading.specs.Outcomes.{spell}
use Rattle.reading.proofs.Complete.{head_of}
use Rattle.printing.proofs.Sound.{Sound}

-- each word stands in the text as a token of its own
abbrev Neat : List Word → Type 0
Neat [] = Unit {0}
Neat (w ∷ ws) = Spelled w (word_bytes w) (text ws) × Neat ws

record CutAs (at : ℕ) (bytes : List ℕ) (ws : List Word) : Type 0 where
  toks : List Tok
  cut : Cut at bytes toks
  same : map (λ (k : Tok). k.word) toks ≡ ws

cut_as : (ws : List Word) (at : ℕ) → Neat ws → CutAs at (text ws) ws
cut_as [] at h = record { toks = []; cut = at_end tt; same = refl }
cut_as (w ∷ ws) at h =
    let k = cut_as ws (at + 0 + length (word_bytes w)) h.1 in
    record {
      toks = record { at = at + 0; word = w } ∷ k.toks;
      cut = token_next [] tt h.0 k.cut;
      same = ap (λ l. w ∷ l) k.same;
    }

name_spelled : (n rest : List ℕ) → T (is_name n) → Stops rest → Spelled (named n) n rest
name_spelled [] rest h s = absurd h
name_spelled (b ∷ n) rest h s =
    let k = snd_of (ltb 0 (suc (length n))) _ h in
    let l = fst_of (all_letters (b ∷ n)) _ k in
    let few = leb→le (suc (length n)) 16 (snd_of (all_letters (b ∷ n)) _ k) in
    a_name (holds _ (fst_of (letter b) _ l)) (holds _ (snd_of (letter b) _ l)) (omega arith) s

module _ (n : Naming) (sd : Sound n) where
  abbrev v : Vocabulary
  v = n.vocabulary

  others_stop : (ts : Terms) (ws : List Word) → Stops (text (others v ts ++ ws))
  others_stop none ws = refl
  others_stop (more t ts) ws = refl

  -- an argument, and the others behind it
  row : (t : Term) (ts : Terms) (ws : List Word) → Neat (words v t ++ (others v ts ++ ws)) → Neat ((words v t ++ others v ts) ++ ws)
  row t ts ws h = subst Neat (sym (append_assoc (words v t) (others v ts) ws)) h

  mutual
    neat : (t : Term) (ws : List Word) → T (over v t) → Stops (text ws) → Neat ws → Neat (words v t ++ ws)
    neat (var x) ws g s h = (name_spelled _ _ (sd.plain_variables x (ltb→lt x _ g)) s, h)
    neat (app f ts) ws g s h = let k = head_of n sd.complete f ts g in neat_arguments ts ws _ (sd.plain_symbols f k.inside) k.arguments s h

    neat_arguments : (ts : Terms) (ws : List Word) (m : List ℕ) → T (is_name m) → T (over_all v ts) → Stops (text ws) → Neat ws → Neat (named m ∷ arguments v ts ++ ws)
    neat_arguments none ws m p g s h = (name_spelled _ _ p s, h)
    neat_arguments (more t ts) ws m p g s h = (name_spelled _ _ p refl, (open_bracket, row t ts ws (neat t (others v ts ++ ws) (fst_of (over v t) _ g) (others_stop ts ws) (neat_others ts ws (snd_of (over v t) _ g) s h))))

    neat_others : (ts : Terms) (ws : List Word) → T (over_all v ts) → Stops (text ws) → Neat ws → Neat (others v ts ++ ws)
    neat_others none ws g s h = (close_bracket, h)
    neat_others (more t ts) ws g s h = (a_comma, row t ts ws (neat t (others v ts ++ ws) (fst_of (over v t) _ g) (others_stop ts ws) (neat_others ts ws (snd_of (over v t) _ g) s h)))

  pub words_back : (t : Term) → T (over v t) → spell (tokens (spelled v t)) ≡ words v t
  words_back t g =
      let c = cut_as (words v t) 0 (subst Neat (append-nil (words v t)) (neat t [] g tt tt)) in
      ap (map (λ (k : Tok). k.word)) (sym ((tokenized (spelled v t)).only c.toks c.cut)) ∙ c.same
