-- A whole term: what is read spells it, and what spells it is read.
use Rattle.std.proofs.Common.{◌≡◌, ℕ, ◌+◌, ◌<◌, ◌≤◌, true, List, [], ◌∷◌, ◌++◌, map, length, Some, sym, refl, ap, ◌∙◌, subst, append-nil, arith}
use Rattle.tokens.specs.Tokens.{Word}
use Rattle.terms.specs.Terms.{codes}
use Rattle.vocabulary.specs.Vocabularies.{Vocabulary, Consistent}
use Rattle.vocabulary.specs.Growth.{Grows}
use Rattle.vocabulary.proofs.Growing.{Even}
use Rattle.vocabulary.proofs.Consistency.{coded_at, small_at}
use Rattle.reading.specs.declared.state.Use.{Use}
use Rattle.reading.specs.declared.state.Await.{Await}
use Rattle.reading.specs.declared.state.Await.TheVariants.{Term as WantsTerm, Bracket, NoBracket, After}
use Rattle.reading.specs.Spelling.{words}
use Rattle.reading.specs.Sides.{Role, limit, fresh, whole, Flagged, Reads}
use Rattle.reading.specs.Flags.{bare_words, flagged}
use Rattle.reading.specs.Laws.{Fine, Spells, Read}
use Rattle.reading.proofs.Bound.{fine_none}
use Rattle.reading.proofs.Gaining.{Allows, Adds}
use Rattle.reading.proofs.Sounds.{Sound, Says, sounded}
use Rattle.reading.proofs.Completes.{Ahead, complete}

unflagged : (ws after : List Word) → map (λ (f : Flagged). f.word) (flagged ws after) ≡ ws
unflagged [] after = refl
unflagged (x ∷ ws) after = ap (λ l. x ∷ l) (unflagged ws after)

whole_says : (w : Vocabulary) (us : List Use) (a : Await) → whole us a ≡ true → Says w a us [] []
whole_says w [] WantsTerm e = cc
whole_says w [] Bracket e = cc
whole_says w [] NoBracket e = cc
whole_says w [] After e = (refl, refl)
whole_says w (u ∷ us) a e = cc

-- what a whole term leaves
pub record LeftBehind (p : Role) (v : Vocabulary) (ws : List Word) (cs : List ℕ) (v1 : Vocabulary) : Type 0 where
  pub adds : Adds v ws v1
  pub even : Even v1
  pub allows : Allows p v v1
  pub spells : (w : Vocabulary) → length w.symbols ≤ 32768 → Grows v1 w → Spells p w ws cs

pub whole_sound : (p : Role) (v : Vocabulary) (ws after : List Word) (cs : List ℕ) (v1 : Vocabulary) → Even v → Read p v ws after cs v1 → LeftBehind p v ws cs v1
whole_sound p v ws after cs v1 even r =
    let s = r.state in
    let b = sounded p (omega arith) (record { even = even; known = tt }) r.reads in
    let is = unflagged ws after in
    record {
      adds = subst (λ l. Adds v l v1) is b.adds;
      even = b.fit.even;
      allows = b.allows;
      spells = λ w few g.
          let end : Sound w s [] s.codes = record { ds = []; all = sym (append-nil s.codes); says = whole_says w s.uses s.awaits r.whole } in
          let k = b.sound w few g s.codes end in
          let (t, w1, d1, e1, f1, o, (w0, d2)) = k.says in
          record {
            term = t;
            named = o;
            spelled = sym is ∙ e1 ∙ ap (λ l. words w t ++ l) w0 ∙ append-nil (words w t);
            coded = sym (append-nil (codes t)) ∙ ap (λ l. codes t ++ l) (sym d2) ∙ sym f1 ∙ sym k.all ∙ r.coded;
            short = subst (λ (l : List ℕ). length l ≤ limit p) r.coded b.short;
            fine = subst (Fine p) r.coded (b.fine (fine_none p));
          };
    }

-- a term on the way to the vocabulary that the text ends with
pub record ReadAhead (p : Role) (w v : Vocabulary) (ws after : List Word) (cs : List ℕ) : Type 0 where
  pub grown : Vocabulary
  pub ahead : Ahead w grown after
  pub allows : Allows p w grown
  pub read : Read p v ws after cs grown

module _ (w : Vocabulary) (few : length w.symbols ≤ 32) (names : Consistent w) where
  pub whole_complete : (p : Role) (v : Vocabulary) (ws after : List Word) (cs : List ℕ) → bare_words after ≡ true → Spells p w ws cs → Allows p w v → Ahead w v (ws ++ after) → ReadAhead p w v ws after cs
  whole_complete p v ws after cs bare s al a =
      let t = s.term in
      let syms = λ (f : ℕ) (h : f < length w.symbols). coded_at w 0 w.symbols names.symbols_apart f h ∙ ap Some (let z : 0 + f ≡ f = omega arith in z) in
      let g = complete w few p (coded_at w 32768 w.variables names.variables_apart) syms (small_at w.arities names.small) t [] [] after s.named bare
      (subst (λ (l : List ℕ). length l ≤ limit p) (sym s.coded) s.short) (subst (Fine p) (sym s.coded) s.fine) v al (subst (λ l. Ahead w v (l ++ after)) s.spelled a) in
      record {
        grown = g.grown;
        ahead = g.ahead;
        allows = g.allows;
        read = record {
          state = record { codes = codes t; uses = []; awaits = After };
          reads = subst (λ l. Reads p v fresh (flagged l after) g.grown (record { codes = codes t; uses = []; awaits = After })) (sym s.spelled) g.reads;
          whole = refl;
          coded = s.coded;
        };
      }
