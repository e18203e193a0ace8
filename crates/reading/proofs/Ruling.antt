-- The block of the rules: what is accepted spells rules, and rules that are spelled are accepted.
use Rattle.std.proofs.Common.{◌≡◌, ℕ, zero, suc, ◌<◌, ◌≤◌, Bool, true, false, cond, leb, List, [], ◌∷◌, ◌++◌, length, get_or, sym, refl, ap, ◌∙◌, subst, append_assoc, append-nil, arith, length-append}
use Rattle.std.proofs.lemmas.Bool.{cond-true, cond-false, leb-false, lt-leb}
use Rattle.tokens.specs.Tokens.{Word, Word.lpar, Word.rpar, Word.comma, Word.arrow, Word.named, Word.long, Word.illegal}
use Rattle.terms.specs.Limits.{most_symbols, most_rules}
use Rattle.terms.specs.Models.{Sides}
use Rattle.terms.specs.Shapes.{starts_with_symbol}
use Rattle.terms.specs.Terms.{Term, Term.var, Term.app}
use Rattle.vocabulary.specs.declared.flaw.Flaw.TheVariants.{Misplaced, TooMany, LeftVariable}
use Rattle.vocabulary.specs.Vocabularies.{Vocabulary, Consistent}
use Rattle.vocabulary.proofs.Growing.{grows_trans}
use Rattle.reading.specs.Spelling.{words, arguments}
use Rattle.reading.specs.Sides.{Role, Role.left, Role.right, fresh, Reads}
use Rattle.reading.specs.Flags.{bare_words, flagged}
use Rattle.reading.specs.Laws.{Spells, Read}
use Rattle.reading.specs.Documents.{Document, document, Phase.rule, Phase.arrow_behind, Phase.inside, Phase.closed, Move.to, Move.flawed, behind, term_move, move}
use Rattle.reading.specs.Grammar.{RulesSpelled, RulesSpelled.no_rules, RulesSpelled.one_more}
use Rattle.reading.proofs.Accepting.{Accepts, arrives, term_first, first_read, term_accepted}
use Rattle.reading.proofs.Completes.{Ahead}
use Rattle.reading.proofs.Gaining.{Proper, Adds, adds_none, adds_then}
use Rattle.reading.proofs.Whole.{LeftBehind, whole_sound, whole_complete}

-- where no word may follow, the text ends
pub ends_here : (d : Document) → ((w : Word) (b : Bool) → move d w b ≡ flawed Misplaced) → (ws : List Word) (e : Document) → Accepts d ws e → (ws ≡ []) × (d ≡ e)
ends_here d stops [] e h = (refl, h.1)
ends_here d stops (w ∷ ws) e (d1, m, h) = cc (stops w (bare_words ws))

-- an arrow comes first, behind a side that is no variable
record Arrowed (v : Vocabulary) (rs : List Sides) (l : List ℕ) (ws : List Word) (e : Document) : Type 0 where
  rest : List Word
  split : ws ≡ arrow ∷ rest
  head : starts_with_symbol l ≡ true
  goes : Accepts (document v rs (inside (right l) fresh)) rest e

arrowed : (v : Vocabulary) (rs : List Sides) (l : List ℕ) (ws : List Word) (e : Document) → Accepts (document v rs (arrow_behind l)) ws e → Arrowed v rs l ws e
arrowed v rs l [] e h = cc
arrowed v rs l (lpar ∷ ws) e (d, m, h) = cc
arrowed v rs l (rpar ∷ ws) e (d, m, h) = cc
arrowed v rs l (comma ∷ ws) e (d, m, h) = cc
arrowed v rs l (arrow ∷ ws) e (d, m, h) = by (starts_with_symbol l) refl m
  where
    by : (b : Bool) → starts_with_symbol l ≡ b → cond b (to (document v rs (inside (right l) fresh))) (flawed LeftVariable) ≡ to d → Arrowed v rs l (arrow ∷ ws) e
    by true q i = record { rest = ws; split = refl; head = q; goes = arrives ws e i h }
    by false q i = cc
arrowed v rs l (named n ∷ ws) e (d, m, h) = cc
arrowed v rs l (long ∷ ws) e (d, m, h) = cc
arrowed v rs l (illegal ∷ ws) e (d, m, h) = cc

rule_split : (ls rs ws more : List Word) → (ls ++ (arrow ∷ (rs ++ ws))) ++ more ≡ ls ++ (arrow ∷ (rs ++ (ws ++ more)))
rule_split ls rs ws more = simp append_assoc

-- the words of a rule, and of the rules behind it
rule-joined : {ws after rest behind : List Word} (ls rs more : List Word) → ws ≡ ls ++ after → after ≡ arrow ∷ rest → rest ≡ rs ++ behind → behind ≡ more ++ rpar ∷ [] → ws ≡ (ls ++ (arrow ∷ (rs ++ more))) ++ rpar ∷ []
rule-joined ls rs more a b c d = a ∙ ap (λ x. ls ++ x) (b ∙ ap (λ x. arrow ∷ x) (c ∙ ap (λ x. rs ++ x) d)) ∙ sym (rule_split ls rs more (rpar ∷ []))

-- rules are read up to the bracket that ends their block
pub record RulesRead (v : Vocabulary) (rs : List Sides) (ws : List Word) (e : Document) : Type 0 where
  pub rule_words : List Word
  pub added : List Sides
  pub final : Vocabulary
  pub split : ws ≡ rule_words ++ rpar ∷ []
  pub ends : document final (rs ++ added) closed ≡ e
  pub adds : Adds v rule_words final
  pub spells : RulesSpelled final rule_words added
  pub few : length (rs ++ added) ≤ most_rules

-- at most n words of rules are read
abbrev ReadsRules : ℕ → Document → Type 0
ReadsRules n e = (v : Vocabulary) (rs : List Sides) (ws : List Word) → length ws ≤ n → Proper v → length rs ≤ most_rules → Accepts (document v rs rule) ws e → RulesRead v rs ws e

-- a rule, and the rules behind it
rule_more : (v v1 v2 : Vocabulary) (rs : List Sides) (ls xs : List Word) (l r : List ℕ) {ws after rest behind : List Word} (e : Document) → LeftBehind left v ls l v1 → starts_with_symbol l ≡ true → LeftBehind (right l) v1 xs r v2 → Proper v2
    → RulesRead v2 (rs ++ record { left = l; right = r } ∷ []) behind e → ws ≡ ls ++ after → after ≡ arrow ∷ rest → rest ≡ xs ++ behind → RulesRead v rs ws e
rule_more v v1 v2 rs ls xs l r e one head two proper i a b c =
    let s : Sides = record { left = l; right = r } in
    let few : length i.final.symbols ≤ 32768 = let f = (i.adds.keeps proper).few in omega arith in
    let is : (rs ++ s ∷ []) ++ i.added ≡ rs ++ s ∷ i.added = append_assoc rs (s ∷ []) i.added in
    record {
      rule_words = ls ++ (arrow ∷ (xs ++ i.rule_words));
      added = s ∷ i.added;
      final = i.final;
      split = rule-joined ls xs i.rule_words a b c i.split;
      ends = ap (λ x. document i.final x closed) (sym is) ∙ i.ends;
      adds = adds_then ls (arrow ∷ (xs ++ i.rule_words)) one.adds (adds_then (arrow ∷ []) (xs ++ i.rule_words) (adds_none v1 (arrow ∷ []) refl) (adds_then xs i.rule_words two.adds i.adds));
      spells = one_more (one.spells i.final few (grows_trans two.adds.grows i.adds.grows)) head (two.spells i.final few i.adds.grows) i.spells;
      few = subst (λ (x : List Sides). length x ≤ most_rules) is i.few;
    }

one-rule : (n : ℕ) (e : Document) → ReadsRules n e → (v : Vocabulary) (rs : List Sides) (ws : List Word) → length ws ≤ suc n → Proper v → length rs < most_rules → Accepts (document v rs (inside left fresh)) ws e → RulesRead v rs ws e
one-rule n e ih v rs ws size proper room h =
    let a = term_first left rs v fresh ws e h in
    let l = a.state.codes in
    let one = whole_sound left v a.front a.after l a.grown proper.names.even (first_read left rs a) in
    let b = arrowed a.grown rs l a.after e a.goes in
    let c = term_first (right l) rs a.grown fresh b.rest e b.goes in
    let r = c.state.codes in
    let two = whole_sound (right l) a.grown c.front c.after r c.grown one.even (first_read (right l) rs c) in
    let s : Sides = record { left = l; right = r } in
    let kept = two.adds.keeps (one.adds.keeps proper) in
    let shorter : length c.after ≤ n =
    let x = ap length a.split in let y = length-append a.front a.after in let z = ap length b.split in let p = ap length c.split in let q = length-append c.front c.after in omega arith in
    let few : length (rs ++ s ∷ []) ≤ most_rules = let k = length-append rs (s ∷ []) in omega arith in
    rule_more v a.grown c.grown rs a.front c.front l r e one b.head two kept (ih c.grown (rs ++ s ∷ []) c.after shorter kept few c.goes) a.split b.split c.split

pub rules_read : (n : ℕ) (e : Document) → ReadsRules n e
rules_read n e v rs [] size proper few h = cc
rules_read zero e v rs (w ∷ ws) size proper few h = let z : ⊥ = omega arith in absurd z
rules_read (suc n) e v rs (lpar ∷ ws) size proper few (d, m, h) = cc
rules_read (suc n) e v rs (rpar ∷ ws) size proper few (d, m, h) =
    let (none, last) = ends_here (document v rs closed) (λ w b. refl) ws e (arrives ws e m h) in
    let is : rs ++ [] ≡ rs = append-nil rs in
    record {
      rule_words = [];
      added = [];
      final = v;
      split = ap (λ l. rpar ∷ l) none;
      ends = ap (λ l. document v l closed) is ∙ last;
      adds = adds_none v [] refl;
      spells = no_rules;
      few = subst (λ (l : List Sides). length l ≤ most_rules) (sym is) few;
    }
rules_read (suc n) e v rs (comma ∷ ws) size proper few (d, m, h) = cc
rules_read (suc n) e v rs (arrow ∷ ws) size proper few (d, m, h) = cc
rules_read (suc n) e v rs (named x ∷ ws) size proper few (d, m, h) = by (rules_read n e) (leb most_rules (length rs)) refl m
  where
    by : ReadsRules n e → (b : Bool) → leb most_rules (length rs) ≡ b → cond b (flawed TooMany) (term_move v rs left fresh (named x) (bare_words ws)) ≡ to d → RulesRead v rs (named x ∷ ws) e
    by ih true q k = cc
    by ih false q k = one-rule n e ih v rs (named x ∷ ws) size proper (leb-false most_rules (length rs) q) (d, k, h)
rules_read (suc n) e v rs (long ∷ ws) size proper few (d, m, h) = cc
rules_read (suc n) e v rs (illegal ∷ ws) size proper few (d, m, h) = cc

-- a term begins with a name
pub record NamedFirst (ws : List Word) : Type 0 where
  pub name : List ℕ
  pub rest : List Word
  pub is : ws ≡ named name ∷ rest

named_first : (w : Vocabulary) (t : Term) → NamedFirst (words w t)
named_first w (var x) = record { name = get_or w.variables x []; rest = []; is = refl }
named_first w (app f ts) = record { name = get_or w.symbols f []; rest = arguments w ts; is = refl }

spelled_first : {p : Role} {w : Vocabulary} {ws : List Word} {cs : List ℕ} → Spells p w ws cs → NamedFirst ws
spelled_first {w = w} s = subst NamedFirst (sym s.spelled) (named_first w s.term)

-- a term that is spelled is accepted with what is accepted behind it
pub spelled_accepted : {p : Role} {w v v1 : Vocabulary} {ws : List Word} {cs : List ℕ} (rs : List Sides) (after : List Word) (e : Document) → Spells p w ws cs → Read p v ws after cs v1
    → Accepts (behind p v1 rs cs) after e → Accepts (document v rs (inside p fresh)) (ws ++ after) e
spelled_accepted {p} {w} {v} {v1} {ws} {cs} rs after e s r h =
    let f = spelled_first s in
    subst (λ l. Accepts (document v rs (inside p fresh)) (l ++ after) e) (sym f.is)
    (term_accepted p rs (named f.name) f.rest after v v1 fresh r.state e (subst (λ l. Reads p v fresh (flagged l after) v1 r.state) f.is r.reads) r.whole
    (subst (λ c. Accepts (behind p v1 rs c) after e) (sym r.coded) h))

-- a rule begins as a left side
rule_begins : {ws : List Word} (v : Vocabulary) (rs : List Sides) (after : List Word) (e : Document) → NamedFirst ws → length rs < most_rules → Accepts (document v rs (inside left fresh)) (ws ++ after) e → Accepts (document v rs rule) (ws ++ after) e
rule_begins v rs after e f room h =
    let (d, m, g) = subst (λ l. Accepts (document v rs (inside left fresh)) (l ++ after) e) f.is h in
    subst (λ l. Accepts (document v rs rule) (l ++ after) e) (sym f.is) (d, cond-false _ _ _ (lt-leb most_rules (length rs) room) ∙ m, g)

module _ (w : Vocabulary) (few : length w.symbols ≤ most_symbols) (names : Consistent w) where
  bare_rules : {ws : List Word} {ss : List Sides} → RulesSpelled w ws ss → bare_words (ws ++ rpar ∷ []) ≡ true
  bare_rules no_rules = refl
  bare_rules (one_more {ls = ls} {rs = rs} {ws = ws} l i r m) = ap (λ x. bare_words ((x ++ (arrow ∷ (rs ++ ws))) ++ rpar ∷ [])) (spelled_first l).is

  pub record RulesAccepted (v : Vocabulary) (rs : List Sides) (ws : List Word) (ss : List Sides) : Type 0 where
    pub reached : Vocabulary
    pub ahead : Ahead w reached []
    pub accepts : Accepts (document v rs rule) (ws ++ rpar ∷ []) (document reached (rs ++ ss) closed)

  pub rules_accepted : {ws : List Word} {ss : List Sides} → RulesSpelled w ws ss → (v : Vocabulary) (rs : List Sides) → Ahead w v (ws ++ rpar ∷ []) → length (rs ++ ss) ≤ most_rules → RulesAccepted v rs ws ss
  rules_accepted no_rules v rs a size = record {
    reached = v;
    ahead = record { variables = a.variables; symbols = a.symbols; arities = a.arities };
    accepts = (document v rs closed, refl, (refl, ap (λ l. document v l closed) (sym (append-nil rs))));
  }
  rules_accepted (one_more {ls = ls} {rs = xs} {ws = ws} {l = l} {r = r} {ss = ss} sl i sr m) v rs a size =
      let s : Sides = record { left = l; right = r } in
      let tail = ws ++ rpar ∷ [] in
      let is = rule_split ls xs ws (rpar ∷ []) in
      let same : (rs ++ s ∷ []) ++ ss ≡ rs ++ s ∷ ss = append_assoc rs (s ∷ []) ss in
      let one = whole_complete w few names left v ls (arrow ∷ (xs ++ tail)) l refl sl tt (subst (Ahead w v) is a) in
      let o = one.ahead in
      let two = whole_complete w few names (right l) one.grown xs tail r (bare_rules m) sr tt (record { variables = o.variables; symbols = o.symbols; arities = o.arities }) in
      let ih = rules_accepted m two.grown (rs ++ s ∷ []) two.ahead (subst (λ (x : List Sides). length x ≤ most_rules) (sym same) size) in
      let e = document ih.reached (rs ++ s ∷ ss) closed in
      let behind-rule = subst (λ x. Accepts (document two.grown (rs ++ s ∷ []) rule) tail (document ih.reached x closed)) same ih.accepts in
      let on-right = spelled_accepted rs tail e sr two.read behind-rule in
      let on-left = spelled_accepted rs (arrow ∷ (xs ++ tail)) e sl one.read (document one.grown rs (inside (right l) fresh), cond-true _ _ _ i, on-right) in
      let room : length rs < most_rules = let k = length-append rs (s ∷ ss) in omega arith in
      record {
        reached = ih.reached;
        ahead = ih.ahead;
        accepts = subst (λ x. Accepts (document v rs rule) x e) (sym is) (rule_begins v rs (arrow ∷ (xs ++ tail)) e (spelled_first sl) room on-left);
      }
