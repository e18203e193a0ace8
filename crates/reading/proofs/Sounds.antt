-- What is read spells a term: backwards, token by token, under the vocabulary that the text ends with.
use Rattle.std.proofs.Common.{◌≡◌, ℕ, ◌+◌, ◌<◌, ◌≤◌, Bool, true, false, cond, T, eqb, ltb, leb, List, [], ◌∷◌, ◌++◌, map, length, Some, None, Option, sym, refl, ap, ◌∙◌, subst, ap₂, inl, inr, append_assoc, arith, lt→ltb, length-append}
use lib.Dec.{eqb_refl}
use Rattle.std.proofs.lemmas.Bool.{ltb-true, ltb-false, leb-false, eqb-true, cond-true, cond-false, lt-ltb, le-ltb}
use Rattle.tokens.specs.Tokens.{Word, Word.lpar, Word.rpar, Word.comma, Word.arrow, Word.named, Word.long, Word.illegal}
use Rattle.terms.specs.Terms.{Term, Terms, Term.var, Term.app, Terms.none, Terms.more, count, codes, codes_all}
use Rattle.terms.proofs.Booleans.{both}
use Rattle.vocabulary.specs.declared.flaw.Flaw.TheVariants.{TooMany, Arguments, AbsentVariable, TooLong}
use Rattle.reading.specs.declared.state.Use.{Use}
use Rattle.reading.specs.declared.state.Await.{Await}
use Rattle.reading.specs.declared.state.Await.TheVariants.{Term as WantsTerm, Bracket, NoBracket, After}
use Rattle.vocabulary.specs.Vocabularies.{Vocabulary, is_number, found, var_or, code_of, arity_of, with_symbol, with_arity}
use Rattle.reading.specs.Spelling.{over, over_all, words, others}
use Rattle.vocabulary.specs.Growth.{Grows}
use Rattle.reading.specs.Sides.{Role, Role.left, Role.right, Role.start, limit, State, Reply.go, Reply.stop, pushed, opened, entered, is_full, admitted, settled, use_symbol, is_absent, use_variable, use_new, use_code, at_open, at_comma, at_close, step_by, step, Flagged, Reads, Reads.ended, Reads.next}
use Rattle.vocabulary.proofs.Founds.{IsVariable, IsSymbol, code_is, found_new}
use Rattle.vocabulary.proofs.Growing.{grows_trans, grows_arity, same_code, even_symbol, even_arity, fixed_now}
use Rattle.reading.specs.Laws.{Fine}
use Rattle.reading.specs.Fits.{Known, Fit}
use Rattle.reading.proofs.Bound.{fine_join, fine_symbol, fine_variable}
use Rattle.reading.proofs.Gaining.{Allows, allows_same, allows_more, Adds, adds_none, adds_then, Gains, gains_nothing, gains_known, gains_new, gains_arity}

known_more : (n m : ℕ) (us : List Use) → n ≤ m → Known n us → Known m us
known_more n m [] h k = tt
known_more n m (u ∷ us) h (a, b, k) = (omega arith, b, known_more n m us h k)

-- what the words to come are, under a vocabulary
module _ (w : Vocabulary) where
  abbrev pub Closes : List Use → List Word → List ℕ → Type 0
  Closes [] ws cs = (ws ≡ []) × (cs ≡ [])
  Closes (u ∷ us) ws cs =
      (ts : Terms) × (ws' : List Word) × (cs' : List ℕ) × (ws ≡ others w ts ++ ws') × (cs ≡ codes_all ts ++ cs')
      × (arity_of w u.symbol ≡ Some (u.begun + count ts)) × T (over_all w ts) × Closes us ws' cs'

  abbrev pub Awaits : List Use → List Word → List ℕ → Type 0
  Awaits us ws cs = (t : Term) × (ws' : List Word) × (cs' : List ℕ) × (ws ≡ words w t ++ ws') × (cs ≡ codes t ++ cs') × T (over w t) × Closes us ws' cs'

  abbrev pub Opens : List Use → List Word → List ℕ → Type 0
  Opens [] ws cs = ⊥
  Opens (u ∷ us) ws cs = (ws' : List Word) × (ws ≡ lpar ∷ ws') × Awaits (record { symbol = u.symbol; begun = 1 } ∷ us) ws' cs

  abbrev pub Says : Await → List Use → List Word → List ℕ → Type 0
  Says WantsTerm us ws cs = Awaits us ws cs
  Says Bracket us ws cs = Opens us ws cs
  Says NoBracket us ws cs = ⊥
  Says After us ws cs = Closes us ws cs

  pub record Sound (s : State) (ws : List Word) (cs : List ℕ) : Type 0 where
    pub ds : List ℕ
    pub all : cs ≡ s.codes ++ ds
    pub says : Says s.awaits s.uses ws ds

  abbrev state : List ℕ → List Use → Await → State
  state c0 us a = record { codes = c0; uses = us; awaits = a }

  tail : (c0 : List ℕ) (c : ℕ) (ds cs : List ℕ) → cs ≡ (c0 ++ c ∷ []) ++ ds → cs ≡ c0 ++ c ∷ ds
  tail c0 c ds cs e = e ∙ append_assoc c0 (c ∷ []) ds

  fixed_as : (f k : ℕ) → arity_of w f ≡ Some k → T (is_number (arity_of w f) k)
  fixed_as f k e = subst (λ o. T (is_number o k)) (sym e) (eqb_refl k)

  alone_variable : (c0 : List ℕ) (us : List Use) (n : List ℕ) (c : ℕ) (ws : List Word) (cs : List ℕ) → IsVariable w n c
      → Sound (state (c0 ++ c ∷ []) us After) ws cs → Sound (state c0 us WantsTerm) (named n ∷ ws) cs
  alone_variable c0 us n c ws cs i h = record {
    ds = c ∷ h.ds;
    all = tail c0 c h.ds cs h.all;
    says = (var i.number, ws, h.ds, ap (λ k. named k ∷ ws) (sym i.named), ap (λ k. k ∷ h.ds) i.is, lt→ltb i.number _ i.inside, h.says);
  }

  alone_symbol : (c0 : List ℕ) (us : List Use) (n : List ℕ) (c : ℕ) (ws : List Word) (cs : List ℕ) → IsSymbol w n c → arity_of w c ≡ Some 0
      → Sound (state (c0 ++ c ∷ []) us After) ws cs → Sound (state c0 us WantsTerm) (named n ∷ ws) cs
  alone_symbol c0 us n c ws cs i a h = record {
    ds = c ∷ h.ds;
    all = tail c0 c h.ds cs h.all;
    says = (app c none, ws, h.ds, ap (λ k. named k ∷ ws) (sym i.named), refl, both _ _ (both _ _ (lt→ltb c _ i.inside) (fixed_as c 0 a)) tt, h.says);
  }

  bracketed : (c0 : List ℕ) (us : List Use) (n : List ℕ) (c : ℕ) (ws : List Word) (cs : List ℕ) → IsSymbol w n c
      → Sound (state (c0 ++ c ∷ []) (record { symbol = c; begun = 0 } ∷ us) Bracket) ws cs → Sound (state c0 us WantsTerm) (named n ∷ ws) cs
  bracketed c0 us n c ws cs i h =
      let (w1, e1, (t, w2, d2, e2, f2, g2, (ts, w3, d3, e3, f3, k, g3, rest))) = h.says in
      record {
        ds = c ∷ h.ds;
        all = tail c0 c h.ds cs h.all;
        says = (
          app c (more t ts),
          w3,
          d3,
          ap₂ (λ k l. named k ∷ l) (sym i.named) (e1 ∙ ap (λ l. lpar ∷ l) (e2 ∙ ap (λ l. words w t ++ l) e3 ∙ sym (append_assoc (words w t) (others w ts) w3))),
          ap (λ l. c ∷ l) (f2 ∙ ap (λ l. codes t ++ l) f3 ∙ sym (append_assoc (codes t) (codes_all ts) d3)),
          both _ _ (both _ _ (lt→ltb c _ i.inside) (fixed_as c (1 + count ts) k)) (both _ _ g2 g3),
          rest,
        );
      }

  closed : (c0 : List ℕ) (u : Use) (us : List Use) (ws : List Word) (cs : List ℕ) → arity_of w u.symbol ≡ Some u.begun
      → Sound (state c0 us After) ws cs → Sound (state c0 (u ∷ us) After) (rpar ∷ ws) cs
  closed c0 u us ws cs e r =
      record { ds = r.ds; all = r.all; says = (none, ws, r.ds, refl, refl, (let a : u.begun ≡ u.begun + 0 = omega arith in e ∙ ap Some a), tt, r.says) }

  followed : (c0 : List ℕ) (u : Use) (us : List Use) (ws : List Word) (cs : List ℕ)
      → Sound (state c0 (record { symbol = u.symbol; begun = u.begun + 1 } ∷ us) WantsTerm) ws cs → Sound (state c0 (u ∷ us) After) (comma ∷ ws) cs
  followed c0 u us ws cs r =
      let (t, w2, d2, e2, f2, g2, (ts, w3, d3, e3, f3, k, g3, rest)) = r.says in
      record {
        ds = r.ds;
        all = r.all;
        says = (
          more t ts,
          w3,
          d3,
          ap (λ l. comma ∷ l) (e2 ∙ ap (λ l. words w t ++ l) e3 ∙ sym (append_assoc (words w t) (others w ts) w3)),
          f2 ∙ ap (λ l. codes t ++ l) f3 ∙ sym (append_assoc (codes t) (codes_all ts) d3),
          (let a : (u.begun + 1) + count ts ≡ u.begun + (1 + count ts) = omega arith in k ∙ ap Some a),
          both _ _ g2 g3,
          rest,
        );
      }

-- a step, seen from behind
pub record Back (p : Role) (v : Vocabulary) (s : State) (x : Word) (v1 : Vocabulary) (s1 : State) : Type 0 where
  pub gains : Gains p v x v1
  pub fit : Fit v1 s1.uses
  pub short : length s1.codes ≤ limit p
  pub fine : Fine p s.codes → Fine p s1.codes
  pub sound : (w : Vocabulary) → length w.symbols ≤ 32768 → Grows v1 w → (ws : List Word) (cs : List ℕ) → Sound w s1 ws cs → Sound w s (x ∷ ws) cs

record Admitted (p : Role) (v : Vocabulary) (s : State) (b : Bool) (c : ℕ) (v1 : Vocabulary) (s1 : State) : Type 0 where
  same : v1 ≡ v
  after : s1 ≡ entered s b c
  room : length s.codes < limit p

admits : (p : Role) (v : Vocabulary) (s : State) (b : Bool) (c : ℕ) (v1 : Vocabulary) (s1 : State) → admitted p v s b c ≡ go v1 s1 → Admitted p v s b c v1 s1
admits p v s b c v1 s1 e = by (is_full p s) refl e
  where
    by : (f : Bool) → is_full p s ≡ f → cond f (stop TooLong) (go v (entered s b c)) ≡ go v1 s1 → Admitted p v s b c v1 s1
    by true q h = cc
    by false q h = record { same = (cc); after = (cc); room = leb-false (limit p) (length s.codes) q }

pub symbol_of : (w : Vocabulary) (n : List ℕ) (c : ℕ) → code_of w n ≡ Some c → c < 32768 → IsSymbol w n c
symbol_of w n c e lt = elim (code_is w n c e) [
  | inl i ↦ (let a = i.is in let z : ⊥ = omega arith in absurd z)
  | inr i ↦ i
]

variable_of : (w : Vocabulary) (n : List ℕ) (c : ℕ) → length w.symbols ≤ 32768 → code_of w n ≡ Some c → 32768 ≤ c → IsVariable w n c
variable_of w n c few e le = elim (code_is w n c e) [
  | inl i ↦ i
  | inr i ↦ (let a = i.inside in let z : ⊥ = omega arith in absurd z)
]

pushed-length : (c0 : List ℕ) (c n : ℕ) → length c0 < n → length (c0 ++ c ∷ []) ≤ n
pushed-length c0 c n h = let l = length-append c0 (c ∷ []) in omega arith

-- a new name has the next number
pub new_code : (v : Vocabulary) (n : List ℕ) → code_of v n ≡ None → code_of (with_symbol v n) n ≡ Some (length v.symbols)
new_code v n e = go (found 0 v.variables n) refl e
  where
    go : (o : Option ℕ) → found 0 v.variables n ≡ o → var_or o (found 0 v.symbols n) ≡ None → var_or (found 0 v.variables n) (found 0 (v.symbols ++ n ∷ []) n) ≡ Some (length v.symbols)
    go (Some x) f q = cc
    go None f q = ap (λ o. var_or o (found 0 (v.symbols ++ n ∷ []) n)) f ∙ found_new 0 v.symbols n q ∙ (let z : 0 + length v.symbols ≡ length v.symbols = omega arith in ap Some z)

abbrev term_at : List ℕ → List Use → State
term_at c0 us = record { codes = c0; uses = us; awaits = WantsTerm }

module _ (p : Role) (c0 : List ℕ) (us : List Use) (n : List ℕ) where
  -- a symbol without a bracket, whose arity is now 0
  bare_symbol : (v v0 v1 : Vocabulary) (c : ℕ) (s1 : State) → Gains p v (named n) v0 → Fit v0 us → code_of v0 n ≡ Some c → c < 32768 → arity_of v0 c ≡ Some 0
      → admitted p v0 (term_at c0 us) true c ≡ go v1 s1 → Back p v (term_at c0 us) (named n) v1 s1
  bare_symbol v v0 v1 c s1 g f e lt z h =
      let a = admits p v0 (term_at c0 us) true c v1 s1 h in
      subst (λ x. Back p v (term_at c0 us) (named n) x s1) (sym a.same) (subst (Back p v (term_at c0 us) (named n) v0) (sym a.after) record {
        gains = g;
        fit = f;
        short = pushed-length c0 c (limit p) a.room;
        fine = λ h. fine_join p c0 (c ∷ []) h (fine_symbol p c lt);
        sound = λ w few gw ws cs r. alone_symbol w c0 us n c ws cs (symbol_of w n c (same_code gw n c e) lt) (gw.arities c 0 z) r;
      })

  -- a symbol whose bracket follows
  open_symbol : (v v0 v1 : Vocabulary) (c : ℕ) (s1 : State) → Gains p v (named n) v0 → Fit v0 us → code_of v0 n ≡ Some c → c < 32768
      → admitted p v0 (term_at c0 us) false c ≡ go v1 s1 → Back p v (term_at c0 us) (named n) v1 s1
  open_symbol v v0 v1 c s1 g f e lt h =
      let a = admits p v0 (term_at c0 us) false c v1 s1 h in
      let is = symbol_of v0 n c e lt in
      let after : s1 ≡ opened (term_at c0 us) c = a.after ∙ cond-true (ltb c 32768) _ _ (lt-ltb c 32768 lt) in
      subst (λ x. Back p v (term_at c0 us) (named n) x s1) (sym a.same) (subst (Back p v (term_at c0 us) (named n) v0) (sym after) record {
        gains = g;
        fit = record { even = f.even; known = (is.inside, omega arith, f.known) };
        short = pushed-length c0 c (limit p) a.room;
        fine = λ h. fine_join p c0 (c ∷ []) h (fine_symbol p c lt);
        sound = λ w few gw ws cs r. bracketed w c0 us n c ws cs (symbol_of w n c (same_code gw n c e) lt) r;
      })

  use_settled : (v v0 v1 : Vocabulary) (c : ℕ) (s1 : State) → Gains p v (named n) v0 → Fit v0 us → code_of v0 n ≡ Some c → c < 32768
      → (o : Option ℕ) → arity_of v0 c ≡ o → settled v0 c 0 o (λ w. admitted p w (term_at c0 us) true c) ≡ go v1 s1 → Back p v (term_at c0 us) (named n) v1 s1
  use_settled v v0 v1 c s1 g f e lt None z h =
      let is = symbol_of v0 n c e lt in
      let inside : c < length v0.arities = let a = is.inside in let b = f.even in omega arith in
      let up = grows_arity v0 c 0 z in
      bare_symbol v (with_arity v0 c 0) v1 c s1 (gains_arity p v (named n) v0 c 0 g z (omega arith)) (record { even = even_arity v0 c 0 f.even; known = f.known }) (same_code up n c e) lt (fixed_now v0 c 0 inside) h
  use_settled v v0 v1 c s1 g f e lt (Some a) z h = by (eqb 0 a) refl h
    where
      by : (b : Bool) → eqb 0 a ≡ b → cond b (admitted p v0 (term_at c0 us) true c) (stop Arguments) ≡ go v1 s1 → Back p v (term_at c0 us) (named n) v1 s1
      by true q k = bare_symbol v v0 v1 c s1 g f e lt (z ∙ ap Some (sym (eqb-true 0 a q))) k
      by false q k = cc

  symbol_back : (v v0 v1 : Vocabulary) (c : ℕ) (b : Bool) (s1 : State) → Gains p v (named n) v0 → Fit v0 us → code_of v0 n ≡ Some c → c < 32768
      → use_symbol p v0 (term_at c0 us) b c ≡ go v1 s1 → Back p v (term_at c0 us) (named n) v1 s1
  symbol_back v v0 v1 c true s1 g f e lt h = use_settled v v0 v1 c s1 g f e lt (arity_of v0 c) refl h
  symbol_back v v0 v1 c false s1 g f e lt h = open_symbol v v0 v1 c s1 g f e lt h

  variable_back : (v v1 : Vocabulary) (c : ℕ) (b : Bool) (s1 : State) → Fit v us → code_of v n ≡ Some c → 32768 ≤ c
      → use_variable p v (term_at c0 us) b c ≡ go v1 s1 → Back p v (term_at c0 us) (named n) v1 s1
  variable_back v v1 c b s1 f e le h = by (is_absent p c) refl h
    where
      entered_so : is_absent p c ≡ false → (b : Bool) → Admitted p v (term_at c0 us) b c v1 s1 → Back p v (term_at c0 us) (named n) v1 s1
      entered_so present true a = subst (λ x. Back p v (term_at c0 us) (named n) x s1) (sym a.same) (subst (Back p v (term_at c0 us) (named n) v) (sym a.after) record {
        gains = gains_known p v n c e;
        fit = f;
        short = pushed-length c0 c (limit p) a.room;
        fine = λ h. fine_join p c0 (c ∷ []) h (fine_variable p c present);
        sound = λ w few gw ws cs r. alone_variable w c0 us n c ws cs (variable_of w n c few (same_code gw n c e) le) r;
      })
      entered_so present false a =
          let after : s1 ≡ pushed (term_at c0 us) c NoBracket = a.after ∙ cond-false (ltb c 32768) _ _ (le-ltb c 32768 le) in
          subst (λ x. Back p v (term_at c0 us) (named n) x s1) (sym a.same) (subst (Back p v (term_at c0 us) (named n) v) (sym after) record {
            gains = gains_known p v n c e;
            fit = f;
            short = pushed-length c0 c (limit p) a.room;
            fine = λ h. fine_join p c0 (c ∷ []) h (fine_variable p c present);
            sound = λ w few gw ws cs r. absurd r.says;
          })

      by : (t : Bool) → is_absent p c ≡ t → cond t (stop AbsentVariable) (admitted p v (term_at c0 us) b c) ≡ go v1 s1 → Back p v (term_at c0 us) (named n) v1 s1
      by true q k = cc
      by false q k = entered_so q b (admits p v (term_at c0 us) b c v1 s1 k)

  -- a new name
  new_back : (v v1 : Vocabulary) (b : Bool) (s1 : State) → Allows p v (with_symbol v n) → Fit v us → code_of v n ≡ None → (t : Bool) → leb 32 (length v.symbols) ≡ t
      → cond t (stop TooMany) (use_symbol p (with_symbol v n) (term_at c0 us) b (length v.symbols)) ≡ go v1 s1 → Back p v (term_at c0 us) (named n) v1 s1
  new_back v v1 b s1 al f e true q h = cc
  new_back v v1 b s1 al f e false q h =
      let lt = leb-false 32 (length v.symbols) q in
      let l = length-append v.symbols (n ∷ []) in
      symbol_back v (with_symbol v n) v1 (length v.symbols) b s1 (gains_new p v n e lt al)
      (record { even = even_symbol v n f.even; known = known_more (length v.symbols) _ us (omega arith) f.known }) (new_code v n e) (omega arith) h

new_name : (p : Role) (c0 : List ℕ) (us : List Use) (n : List ℕ) (v v1 : Vocabulary) (b : Bool) (s1 : State) → Fit v us → code_of v n ≡ None → use_new p v (term_at c0 us) b n ≡ go v1 s1 → Back p v (term_at c0 us) (named n) v1 s1
new_name left c0 us n v v1 b s1 f e h = new_back left c0 us n v v1 b s1 tt f e (leb 32 (length v.symbols)) refl h
new_name (right ls) c0 us n v v1 b s1 f e h = new_back (right ls) c0 us n v v1 b s1 tt f e (leb 32 (length v.symbols)) refl h
new_name start c0 us n v v1 b s1 f e h = cc

code_back : (p : Role) (c0 : List ℕ) (us : List Use) (n : List ℕ) (v v1 : Vocabulary) (b : Bool) (s1 : State) → Fit v us → (o : Option ℕ) → code_of v n ≡ o
    → use_code p v (term_at c0 us) b n o ≡ go v1 s1 → Back p v (term_at c0 us) (named n) v1 s1
code_back p c0 us n v v1 b s1 f None e h = new_name p c0 us n v v1 b s1 f e h
code_back p c0 us n v v1 b s1 f (Some c) e h = by (ltb c 32768) refl h
  where
    by : (t : Bool) → ltb c 32768 ≡ t → cond t (use_symbol p v (term_at c0 us) b c) (use_variable p v (term_at c0 us) b c) ≡ go v1 s1 → Back p v (term_at c0 us) (named n) v1 s1
    by true q k = symbol_back p c0 us n v v v1 c b s1 (gains_known p v n c e) f e (ltb-true c 32768 q) k
    by false q k = variable_back p c0 us n v v1 c b s1 f e (ltb-false c 32768 q) k

module _ (p : Role) (c0 : List ℕ) (short : length c0 ≤ limit p) where
  abbrev at_state : List Use → Await → State
  at_state us a = record { codes = c0; uses = us; awaits = a }

  open_back : (v v1 : Vocabulary) (us : List Use) (s1 : State) → Fit v us → at_open v c0 us ≡ go v1 s1 → Back p v (at_state us Bracket) lpar v1 s1
  open_back v v1 [] s1 f h = cc
  open_back v v1 (u ∷ us) s1 f h =
      let after : at_state (record { symbol = u.symbol; begun = 1 } ∷ us) WantsTerm ≡ s1 = cc in
      let same : v ≡ v1 = cc in
      subst (λ x. Back p v (at_state (u ∷ us) Bracket) lpar x s1) same (subst (Back p v (at_state (u ∷ us) Bracket) lpar v) after record {
        gains = gains_nothing p v lpar refl;
        fit = record { even = f.even; known = (f.known.0, omega arith, f.known.2) };
        short = short;
        fine = λ h. h;
        sound = λ w few gw ws cs r. record { ds = r.ds; all = r.all; says = (ws, refl, r.says) };
      })

  comma_back : (v v1 : Vocabulary) (us : List Use) (s1 : State) → Fit v us → at_comma v c0 us ≡ go v1 s1 → Back p v (at_state us After) comma v1 s1
  comma_back v v1 [] s1 f h = cc
  comma_back v v1 (u ∷ us) s1 f h = by (ltb u.begun 4) refl h
    where
      by : (t : Bool) → ltb u.begun 4 ≡ t → cond t (go v (record { codes = c0; uses = record { symbol = u.symbol; begun = u.begun + 1 } ∷ us; awaits = WantsTerm })) (stop Arguments) ≡ go v1 s1 → Back p v (at_state (u ∷ us) After) comma v1 s1
      by false q k = cc
      by true q k =
          let lt = ltb-true u.begun 4 q in
          let after : at_state (record { symbol = u.symbol; begun = u.begun + 1 } ∷ us) WantsTerm ≡ s1 = cc in
          let same : v ≡ v1 = cc in
          subst (λ x. Back p v (at_state (u ∷ us) After) comma x s1) same (subst (Back p v (at_state (u ∷ us) After) comma v) after record {
            gains = gains_nothing p v comma refl;
            fit = record { even = f.even; known = (f.known.0, omega arith, f.known.2) };
            short = short;
            fine = λ h. h;
            sound = λ w few gw ws cs r. followed w c0 u us ws cs r;
          })

  close_settled : (v v0 v1 : Vocabulary) (u : Use) (us : List Use) (s1 : State) → Gains p v rpar v0 → Fit v0 us → arity_of v0 u.symbol ≡ Some u.begun
      → go v0 (at_state us After) ≡ go v1 s1 → Back p v (at_state (u ∷ us) After) rpar v1 s1
  close_settled v v0 v1 u us s1 g f z h =
      let after : at_state us After ≡ s1 = cc in
      let same : v0 ≡ v1 = cc in
      subst (λ x. Back p v (at_state (u ∷ us) After) rpar x s1) same (subst (Back p v (at_state (u ∷ us) After) rpar v0) after record {
        gains = g;
        fit = f;
        short = short;
        fine = λ h. h;
        sound = λ w few gw ws cs r. closed w c0 u us ws cs (gw.arities u.symbol u.begun z) r;
      })

  close_by : (v v1 : Vocabulary) (u : Use) (us : List Use) (s1 : State) → Fit v (u ∷ us) → (o : Option ℕ) → arity_of v u.symbol ≡ o
      → settled v u.symbol u.begun o (λ w. go w (at_state us After)) ≡ go v1 s1 → Back p v (at_state (u ∷ us) After) rpar v1 s1
  close_by v v1 u us s1 f None z h =
      let k = f.known.0 in
      let inside : u.symbol < length v.arities = let b = f.even in omega arith in
      close_settled v (with_arity v u.symbol u.begun) v1 u us s1 (gains_arity p v rpar v u.symbol u.begun (gains_nothing p v rpar refl) z f.known.1)
      (record { even = even_arity v u.symbol u.begun f.even; known = f.known.2 }) (fixed_now v u.symbol u.begun inside) h
  close_by v v1 u us s1 f (Some a) z h = by (eqb u.begun a) refl h
    where
      by : (t : Bool) → eqb u.begun a ≡ t → cond t (go v (at_state us After)) (stop Arguments) ≡ go v1 s1 → Back p v (at_state (u ∷ us) After) rpar v1 s1
      by true q k = close_settled v v v1 u us s1 (gains_nothing p v rpar refl) (record { even = f.even; known = f.known.2 }) (z ∙ ap Some (sym (eqb-true u.begun a q))) k
      by false q k = cc

  close_back : (v v1 : Vocabulary) (us : List Use) (s1 : State) → Fit v us → at_close v c0 us ≡ go v1 s1 → Back p v (at_state us After) rpar v1 s1
  close_back v v1 [] s1 f h = cc
  close_back v v1 (u ∷ us) s1 f h = close_by v v1 u us s1 f (arity_of v u.symbol) refl h

  back_by : (v v1 : Vocabulary) (us : List Use) (a : Await) (x : Word) (b : Bool) (s1 : State) → Fit v us → step_by p v (at_state us a) b x a ≡ go v1 s1 → Back p v (at_state us a) x v1 s1
  back_by v v1 us WantsTerm lpar b s1 f h = cc
  back_by v v1 us WantsTerm rpar b s1 f h = cc
  back_by v v1 us WantsTerm comma b s1 f h = cc
  back_by v v1 us WantsTerm arrow b s1 f h = cc
  back_by v v1 us WantsTerm (named n) b s1 f h = code_back p c0 us n v v1 b s1 f (code_of v n) refl h
  back_by v v1 us WantsTerm long b s1 f h = cc
  back_by v v1 us WantsTerm illegal b s1 f h = cc
  back_by v v1 us Bracket lpar b s1 f h = open_back v v1 us s1 f h
  back_by v v1 us Bracket rpar b s1 f h = cc
  back_by v v1 us Bracket comma b s1 f h = cc
  back_by v v1 us Bracket arrow b s1 f h = cc
  back_by v v1 us Bracket (named n) b s1 f h = cc
  back_by v v1 us Bracket long b s1 f h = cc
  back_by v v1 us Bracket illegal b s1 f h = cc
  back_by v v1 us NoBracket x b s1 f h = cc
  back_by v v1 us After lpar b s1 f h = cc
  back_by v v1 us After rpar b s1 f h = close_back v v1 us s1 f h
  back_by v v1 us After comma b s1 f h = comma_back v v1 us s1 f h
  back_by v v1 us After arrow b s1 f h = cc
  back_by v v1 us After (named n) b s1 f h = cc
  back_by v v1 us After long b s1 f h = cc
  back_by v v1 us After illegal b s1 f h = cc

pub back : (p : Role) (v v1 : Vocabulary) (s s1 : State) (x : Word) (b : Bool) → length s.codes ≤ limit p → Fit v s.uses → step p v s x b ≡ go v1 s1 → Back p v s x v1 s1
back p v v1 s s1 x b l f h = back_by p s.codes l v v1 s.uses s.awaits x b s1 f h

-- a whole reading
pub record Sounded (p : Role) (v : Vocabulary) (s : State) (fs : List Flagged) (v2 : Vocabulary) (s2 : State) : Type 0 where
  pub adds : Adds v (map (λ (f : Flagged). f.word) fs) v2
  pub allows : Allows p v v2
  pub fit : Fit v2 s2.uses
  pub short : length s2.codes ≤ limit p
  pub fine : Fine p s.codes → Fine p s2.codes
  pub sound : (w : Vocabulary) → length w.symbols ≤ 32768 → Grows v2 w → (cs : List ℕ) → Sound w s2 [] cs → Sound w s (map (λ (f : Flagged). f.word) fs) cs

pub sounded : (p : Role) {v v2 : Vocabulary} {s s2 : State} {fs : List Flagged} → length s.codes ≤ limit p → Fit v s.uses → Reads p v s fs v2 s2 → Sounded p v s fs v2 s2
sounded p {v} {v2} {s} {s2} l f ended = record { adds = adds_none v [] refl; allows = allows_same p v v refl; fit = f; short = l; fine = λ h. h; sound = λ w few g cs r. r }
sounded p {v} {v2} {s} {s2} l f (next {v1 = v1} {s1 = s1} x {fs = fs} h r) =
    let b = back p v v1 s s1 x.word x.bare l f h in
    let ih = sounded p b.short b.fit r in
    record {
      adds = adds_then (x.word ∷ []) (map (λ (f : Flagged). f.word) fs) b.gains.adds ih.adds;
      allows = allows_more p v v1 v2 b.gains.allows ih.allows;
      fit = ih.fit;
      short = ih.short;
      fine = λ k. ih.fine (b.fine k);
      sound = λ w few g cs k. b.sound w few (grows_trans ih.adds.grows g) _ cs (ih.sound w few g cs k);
    }
