-- The blocks of a text: their heads, and the block of the variables.
use Rattle.std.proofs.Common.{◌≡◌, ℕ, ◌+◌, ◌-◌, ◌<◌, ◌≤◌, Bool, true, false, cond, leb, List, [], ◌∷◌, ◌++◌, length, get_or, is_some, Some, None, Option, sym, refl, ap, ◌∙◌, subst, append_assoc, append-nil, arith, length-append}
use Rattle.std.specs.Str.{bytes_eq}
use Rattle.std.proofs.lemmas.Slice.Eq.{bytes_eq-Decides}
use Rattle.std.proofs.lemmas.List.{get_or-append_right}
use Rattle.std.proofs.lemmas.Bool.{cond-true, cond-false, leb-false, lt-leb}
use Rattle.tokens.specs.Tokens.{Word, Word.lpar, Word.rpar, Word.comma, Word.arrow, Word.named, Word.long, Word.illegal}
use Rattle.terms.specs.Limits.{variables}
use Rattle.terms.specs.Models.{Sides}
use Rattle.vocabulary.specs.declared.flaw.Flaw.TheVariants.{Misplaced, TooMany, DeclaredTwice}
use Rattle.vocabulary.specs.Vocabularies.{Vocabulary, found, var_or, code_of, Consistent}
use Rattle.vocabulary.proofs.Calls.{is_none}
use Rattle.vocabulary.proofs.Consistency.{coded_at, consistent_variable}
use Rattle.vocabulary.proofs.Founds.{found_is, found_more}
use Rattle.reading.specs.declared.state.Block.{Block}
use Rattle.reading.specs.declared.state.Block.TheVariants.{Rules}
use Rattle.reading.specs.Documents.{Document, document, Phase.bracket, Phase.keyword, Phase.variable, Move.to, Move.flawed, word_for, behind_keyword}
use Rattle.reading.specs.Grammar.{names as name-words}
use Rattle.reading.proofs.Accepting.{Accepts, arrives}

-- a block's bracket and the word that names it, with what follows
pub record Headed (v : Vocabulary) (rs : List Sides) (k : Block) (ws : List Word) (e : Document) : Type 0 where
  pub rest : List Word
  pub split : ws ≡ lpar ∷ named (word_for k) ∷ rest
  pub goes : Accepts (document v rs (behind_keyword k)) rest e

module _ (v : Vocabulary) (rs : List Sides) (k : Block) (e : Document) where
  keyed : (ws : List Word) → Accepts (document v rs (keyword k)) ws e → Headed v rs k (lpar ∷ ws) e
  keyed [] h = cc
  keyed (lpar ∷ ws) (d, m, h) = cc
  keyed (rpar ∷ ws) (d, m, h) = cc
  keyed (comma ∷ ws) (d, m, h) = cc
  keyed (arrow ∷ ws) (d, m, h) = cc
  keyed (named n ∷ ws) (d, m, h) = by (bytes_eq n (word_for k)) refl m
    where
      by : (b : Bool) → bytes_eq n (word_for k) ≡ b → cond b (to (document v rs (behind_keyword k))) (flawed Misplaced) ≡ to d → Headed v rs k (lpar ∷ named n ∷ ws) e
      by true q i = record { rest = ws; split = ap (λ l. lpar ∷ named l ∷ ws) ((bytes_eq-Decides n (word_for k)).0 q); goes = arrives ws e i h }
      by false q i = cc
  keyed (long ∷ ws) (d, m, h) = cc
  keyed (illegal ∷ ws) (d, m, h) = cc

  pub headed : (ws : List Word) → Accepts (document v rs (bracket k)) ws e → Headed v rs k ws e
  headed [] h = cc
  headed (lpar ∷ ws) (d, m, h) = keyed ws (arrives ws e m h)
  headed (rpar ∷ ws) (d, m, h) = cc
  headed (comma ∷ ws) (d, m, h) = cc
  headed (arrow ∷ ws) (d, m, h) = cc
  headed (named n ∷ ws) (d, m, h) = cc
  headed (long ∷ ws) (d, m, h) = cc
  headed (illegal ∷ ws) (d, m, h) = cc

  pub head_accepted : (rest : List Word) → Accepts (document v rs (behind_keyword k)) rest e → Accepts (document v rs (bracket k)) (lpar ∷ named (word_for k) ∷ rest) e
  head_accepted rest h = (document v rs (keyword k), refl, (document v rs (behind_keyword k), cond-true _ _ _ ((bytes_eq-Decides (word_for k) (word_for k)).1 refl), h))

-- variables only
abbrev pub declared : List (List ℕ) → Vocabulary
declared ks = record { symbols = []; arities = []; variables = ks }

-- names are declared up to the bracket that ends their block
pub record Declares (ks : List (List ℕ)) (ws : List Word) (e : Document) : Type 0 where
  pub more : List (List ℕ)
  pub rest : List Word
  pub split : ws ≡ name-words more ++ (rpar ∷ rest)
  pub names : Consistent (declared (ks ++ more))
  pub few : length (ks ++ more) ≤ variables
  pub goes : Accepts (document (declared (ks ++ more)) [] (bracket Rules)) rest e

pub declares : (ws : List Word) (ks : List (List ℕ)) (e : Document) → Consistent (declared ks) → length ks ≤ variables → Accepts (document (declared ks) [] variable) ws e → Declares ks ws e
declares [] ks e c few h = cc
declares (lpar ∷ ws) ks e c few (d, m, h) = cc
declares (rpar ∷ ws) ks e c few (d, m, h) =
    let is : ks ≡ ks ++ [] = sym (append-nil ks) in
    record {
      more = [];
      rest = ws;
      split = refl;
      names = subst (λ l. Consistent (declared l)) is c;
      few = subst (λ (l : List (List ℕ)). length l ≤ variables) is few;
      goes = subst (λ l. Accepts (document (declared l) [] (bracket Rules)) ws e) is (arrives ws e m h);
    }
declares (comma ∷ ws) ks e c few (d, m, h) = cc
declares (arrow ∷ ws) ks e c few (d, m, h) = cc
declares (named n ∷ ws) ks e c few (d, m, h) = by (declares ws (ks ++ n ∷ []) e) (leb variables (length ks)) (is_some (code_of (declared ks) n)) refl refl m
  where
    by : (Consistent (declared (ks ++ n ∷ [])) → length (ks ++ n ∷ []) ≤ variables → Accepts (document (declared (ks ++ n ∷ [])) [] variable) ws e → Declares (ks ++ n ∷ []) ws e) → (s t : Bool)
        → leb variables (length ks) ≡ s → is_some (code_of (declared ks) n) ≡ t → cond s (flawed TooMany) (cond t (flawed DeclaredTwice) (to (document (declared (ks ++ n ∷ [])) [] variable))) ≡ to d → Declares ks (named n ∷ ws) e
    by ih true t p q i = cc
    by ih false true p q i = cc
    by ih false false p q i =
        let new = consistent_variable (declared ks) n (is_none (code_of (declared ks) n) q) c in
        let room : length (ks ++ n ∷ []) ≤ variables = let l = leb-false variables (length ks) p in let a = length-append ks (n ∷ []) in omega arith in
        let r = ih new room (arrives ws e i h) in
        let is : (ks ++ n ∷ []) ++ r.more ≡ ks ++ n ∷ r.more = append_assoc ks (n ∷ []) r.more in
        record {
          more = n ∷ r.more;
          rest = r.rest;
          split = ap (λ l. named n ∷ l) r.split;
          names = subst (λ l. Consistent (declared l)) is r.names;
          few = subst (λ (l : List (List ℕ)). length l ≤ variables) is r.few;
          goes = subst (λ l. Accepts (document (declared l) [] (bracket Rules)) r.rest e) is r.goes;
        }
declares (long ∷ ws) ks e c few (d, m, h) = cc
declares (illegal ∷ ws) ks e c few (d, m, h) = cc

module _ (w : Vocabulary) (names : Consistent w) (few : length w.variables ≤ variables) where
  -- a name that is still to be declared stands for nothing
  undeclared : (ks : List (List ℕ)) (n : List ℕ) (ns : List (List ℕ)) → w.variables ≡ ks ++ n ∷ ns → code_of (declared ks) n ≡ None
  undeclared ks n ns e = by (found 0 ks n) refl
    where
      by : (o : Option ℕ) → found 0 ks n ≡ o → var_or o None ≡ None
      by None f = refl
      by (Some i) f =
          let q = found_is 0 i ks n f in
          let l = ap length e in
          let a = length-append ks (n ∷ ns) in
          let at : get_or w.variables (length ks) [] ≡ n = ap (λ l. get_or l (length ks) []) e ∙ get_or-append_right ks (n ∷ ns) (length ks) (length ks) [] refl (omega arith) ∙ ap (λ j. get_or (n ∷ ns) j []) (let z : length ks - length ks ≡ 0 = omega arith in z) in
          let once : code_of w n ≡ Some (32768 + length ks) = ap (code_of w) (sym at) ∙ coded_at w 32768 w.variables names.variables_apart (length ks) (omega arith) in
          let twice : code_of w n ≡ Some (32768 + i) = ap (λ o. var_or o (found 0 w.symbols n)) (ap (λ l. found 0 l n) e ∙ found_more 0 i ks (n ∷ ns) n f) in
          let is : 32768 + length ks ≡ 32768 + i = cc in
          let z : ⊥ = let b = q.is in let c = q.inside in omega arith in
          absurd z

  pub declared_accepted : (ns ks : List (List ℕ)) (rest : List Word) (e : Document) → w.variables ≡ ks ++ ns → Accepts (document (declared w.variables) [] (bracket Rules)) rest e
      → Accepts (document (declared ks) [] variable) (name-words ns ++ (rpar ∷ rest)) e
  declared_accepted [] ks rest e is h = (document (declared ks) [] (bracket Rules), refl, subst (λ l. Accepts (document (declared l) [] (bracket Rules)) rest e) (is ∙ append-nil ks) h)
  declared_accepted (n ∷ ns) ks rest e is h =
      let room : length ks < variables = let l = ap length is in let a = length-append ks (n ∷ ns) in omega arith in (
        document (declared (ks ++ n ∷ [])) [] variable,
        cond-false _ _ _ (lt-leb variables (length ks) room) ∙ cond-false _ _ _ (ap is_some (undeclared ks n ns is)),
        declared_accepted ns (ks ++ n ∷ []) rest e (is ∙ sym (append_assoc ks (n ∷ []) ns)) h,
      )
