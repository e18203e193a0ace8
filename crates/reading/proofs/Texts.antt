-- Whole texts: a rule text or a start term is accepted exactly if it is spelled.
use Rattle.std.proofs.Common.{◌≡◌, ℕ, ◌≤◌, List, [], ◌∷◌, ◌++◌, length, sym, refl, ap, ◌∙◌, subst, append-nil, arith}
use Rattle.tokens.specs.Tokens.{Word, Word.lpar, Word.rpar, Word.named, tokens}
use Rattle.terms.specs.Limits.{variables}
use Rattle.terms.specs.Models.{Sides}
use Rattle.vocabulary.specs.Vocabularies.{Vocabulary, empty, Consistent}
use Rattle.reading.specs.declared.state.Block.TheVariants.{Variables, Rules}
use Rattle.reading.specs.Spelling.{numbered}
use Rattle.reading.specs.Sides.{Role.start, fresh}
use Rattle.reading.specs.Laws.{Spells, Read, Settled}
use Rattle.reading.specs.Documents.{Document, document, Phase.closed, Phase.ended, word_for, rule_text, start_term}
use Rattle.reading.specs.Outcomes.{spell}
use Rattle.reading.specs.Grammar.{names as name-words, blocks, TextSpelled}
use Rattle.reading.specs.Exactly.{TextExactly, TermTextExactly}
use Rattle.reading.proofs.Accepting.{Accepts, run_accepts, accepts_run, term_first, first_read}
use Rattle.reading.proofs.Blocks.{headed, head_accepted, declared, declares, declared_accepted}
use Rattle.reading.proofs.Completes.{Ahead, ahead_grows}
use Rattle.reading.proofs.Gaining.{Proper, numbered-append}
use Rattle.reading.proofs.Ruling.{ends_here, RulesRead, rules_read, spelled_accepted, rules_accepted}
use Rattle.reading.proofs.Settling.{rules_settled}
use Rattle.reading.proofs.Starting.{grown_same, start_exactly}

-- the two blocks, one behind the other
blocks-joined : {ws after second rules : List Word} (vars : List (List ℕ)) (words : List Word) → ws ≡ lpar ∷ named (word_for Variables) ∷ after → after ≡ name-words vars ++ (rpar ∷ second)
    → second ≡ lpar ∷ named (word_for Rules) ∷ rules → rules ≡ words ++ rpar ∷ [] → ws ≡ blocks vars words
blocks-joined vars words a b c d =
    a ∙ ap (λ x. lpar ∷ named (word_for Variables) ∷ x) (b ∙ ap (λ x. name-words vars ++ (rpar ∷ x)) (c ∙ ap (λ x. lpar ∷ named (word_for Rules) ∷ x) d))

-- what is read of the rules, with the variables, makes a system
text_made : (vars : List (List ℕ)) {ws rules : List Word} (e : Document) → Proper (declared vars) → length vars ≤ variables → (r : RulesRead (declared vars) [] rules e) → ws ≡ blocks vars r.rule_words → (e.phase ≡ closed) × TextSpelled ws e.names e.rules
text_made vars {ws} e proper few r is =
    let same = r.adds.grows.variables in
    let final = r.adds.keeps proper in
    subst (λ (d : Document). (d.phase ≡ closed) × TextSpelled ws d.names d.rules) r.ends (
      refl,
      record {
        rule_words = r.rule_words;
        spelled = is ∙ ap (λ x. blocks x r.rule_words) (sym same);
        rules = r.spells;
        numbers = r.adds.numbers ∙ ap (λ x. numbered x [] r.rule_words) (sym same);
        names = final.names;
        few_variables = subst (λ (x : List (List ℕ)). length x ≤ variables) (sym same) few;
        few_symbols = final.few;
        few_rules = r.few;
      },
    )

-- what is accepted spells a system
text_sound : (ws : List Word) (e : Document) → Accepts rule_text ws e → (e.phase ≡ closed) × TextSpelled ws e.names e.rules
text_sound ws e h =
    let a = headed empty [] Variables e ws h in
    let b = declares a.rest [] e (record { even = refl; small = tt; symbols_apart = tt; variables_apart = tt }) (omega arith) a.goes in
    let c = headed (declared b.more) [] Rules e b.rest b.goes in
    let proper : Proper (declared b.more) = record { names = b.names; few = omega arith } in
    let r = rules_read (length c.rest) e (declared b.more) [] c.rest (omega arith) proper (omega arith) c.goes in
    text_made b.more e proper b.few r (blocks-joined b.more r.rule_words a.split b.split c.split r.split)

spelled-settled : {ws : List Word} {v : Vocabulary} {ss : List Sides} → TextSpelled ws v ss → Settled v
spelled-settled {v = v} s = rules_settled v s.names s.few_symbols s.rules s.numbers

-- a system that is spelled is accepted
text_complete : (ws : List Word) (v : Vocabulary) (ss : List Sides) → TextSpelled ws v ss → Accepts rule_text ws (document v ss closed)
text_complete ws v ss s =
    let vars = v.variables in
    let words = s.rule_words in
    let ahead : Ahead v (declared vars) (words ++ rpar ∷ []) = record { variables = refl; symbols = s.numbers ∙ numbered-append vars [] words (rpar ∷ []); arities = λ f a e. cc } in
    let r = rules_accepted v s.few_symbols s.names s.rules (declared vars) [] ahead s.few_rules in
    let u = r.reached in
    let e = document u ss closed in
    let rules = head_accepted (declared vars) [] Rules e (words ++ rpar ∷ []) r.accepts in
    let all = head_accepted empty [] Variables e _ (declared_accepted v s.names s.few_variables vars [] _ e refl rules) in
    let accepts : Accepts rule_text ws e = subst (λ x. Accepts rule_text x e) (sym s.spelled) all in
    let t = (text_sound ws e accepts).1 in
    let same = grown_same u v t.names.even s.names.even (spelled-settled t) (ahead_grows r.ahead) r.ahead.symbols in
    subst (λ x. Accepts rule_text ws (document x ss closed)) (sym same) accepts

pub text_exactly : (bytes : List ℕ) → TextExactly bytes
text_exactly bytes =
    let ts = tokens bytes in
    let sound = λ (d : Document) (h : _). text_sound (spell ts) d (run_accepts (length bytes) rule_text ts d h) in
    record {
      sound = sound;
      settled = λ d h. spelled-settled (sound d h).1;
      complete = λ v ss s. accepts_run (length bytes) rule_text ts (document v ss closed) (text_complete (spell ts) v ss s);
    }

module _ (v : Vocabulary) (names : Consistent v) (settled : Settled v) (few : length v.symbols ≤ 32) where
  term_sound : (ws : List Word) (e : Document) → Accepts (start_term v) ws e → (cs : List ℕ) × (e ≡ document v [] (ended cs)) × Spells start v ws cs
  term_sound ws e h =
      let t = term_first start [] v fresh ws e h in
      let cs = t.state.codes in
      let (none, last) = ends_here (document t.grown [] (ended cs)) (λ w b. refl) t.after e t.goes in
      let all : t.front ≡ ws = sym (t.split ∙ ap (λ l. t.front ++ l) none ∙ append-nil t.front) in
      let read = subst (λ l. Read start v l [] cs t.grown) all (subst (λ l. Read start v t.front l cs t.grown) none (first_read start [] t)) in
      let (same, spells) = (start_exactly v names settled few ws cs).0 t.grown read in
      (cs, sym last ∙ ap (λ x. document x [] (ended cs)) same, spells)

  term_complete : (ws : List Word) (cs : List ℕ) → Spells start v ws cs → Accepts (start_term v) ws (document v [] (ended cs))
  term_complete ws cs s =
      let e = document v [] (ended cs) in
      subst (λ l. Accepts (start_term v) l e) (append-nil ws) (spelled_accepted [] [] e s ((start_exactly v names settled few ws cs).1 s) (refl, refl))

pub term_text_exactly : (v : Vocabulary) → Consistent v → Settled v → length v.symbols ≤ 32 → (bytes : List ℕ) → TermTextExactly v bytes
term_text_exactly v names settled few bytes =
    let ts = tokens bytes in
    record {
      sound = λ d h. term_sound v names settled few (spell ts) d (run_accepts (length bytes) (start_term v) ts d h);
      complete = λ cs s. accepts_run (length bytes) (start_term v) ts (document v [] (ended cs)) (term_complete v names settled few (spell ts) cs s);
    }
