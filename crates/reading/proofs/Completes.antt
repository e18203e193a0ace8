-- A term that is spelled is read: forwards, token by token, towards the vocabulary that the text ends with.
use Rattle.std.proofs.Common.{◌≡◌, ℕ, zero, suc, ◌+◌, ◌-◌, ◌<◌, ◌≤◌, Bool, true, false, cond, ◌&&◌, T, ltb, ◌⊎◌, List, [], ◌∷◌, ◌++◌, length, get_or, set, is_some, Some, None, Option, sym, refl, ap, ◌∙◌, subst, ap₂, inl, inr, append_assoc, append-nil, arith, eqb→eq, ltb→lt, length-append}
use Rattle.std.proofs.lemmas.List.{get_or_append_left, get_or-append_right, get_or-set_same, get_or-set_other, set_past}
use Rattle.std.proofs.lemmas.Bool.{lt-ltb, le-ltb, lt-leb, eq-eqb, cond-true, cond-false, cases_eq, cases_lt}
use Rattle.tokens.specs.Tokens.{Word, Word.lpar, Word.rpar, Word.comma, Word.arrow, Word.named, Word.long, Word.illegal}
use Rattle.terms.specs.Terms.{Term, Terms, Term.var, Term.app, Terms.none, Terms.more, count, codes, codes_all}
use Rattle.terms.proofs.Booleans.{fst_of, snd_of}
use Rattle.reading.specs.declared.state.Use.{Use}
use Rattle.reading.specs.declared.state.Await.{Await}
use Rattle.reading.specs.declared.state.Await.TheVariants.{Term as WantsTerm, Bracket, After}
use Rattle.vocabulary.specs.Vocabularies.{Vocabulary, is_number, found, var_or, code_of, arity_of, with_symbol, with_arity}
use Rattle.reading.specs.Spelling.{over, over_all, words, others, numbered}
use Rattle.vocabulary.specs.Growth.{Grows}
use Rattle.reading.specs.Sides.{Role, Role.left, Role.right, Role.start, limit, State, Reply, Reply.go, entered, admitted, settled, use_symbol, use_variable, use_new, use_code, step, Flagged, Reads, Reads.ended, Reads.next}
use Rattle.reading.specs.Flags.{bare_words, flagged}
use Rattle.vocabulary.proofs.Founds.{found_new, found_more}
use Rattle.vocabulary.proofs.Growing.{same_code}
use Rattle.reading.proofs.Gaining.{Allows}
use Rattle.reading.specs.Laws.{Fine}
use Rattle.reading.proofs.Bound.{fine_parts, fine_present}

-- numbering only adds names
numbered_prefix : (vars syms : List (List ℕ)) (ws : List Word) → (more : List (List ℕ)) × (numbered vars syms ws ≡ syms ++ more)
numbered_prefix vars syms [] = ([], sym (append-nil syms))
numbered_prefix vars syms (lpar ∷ ws) = numbered_prefix vars syms ws
numbered_prefix vars syms (rpar ∷ ws) = numbered_prefix vars syms ws
numbered_prefix vars syms (comma ∷ ws) = numbered_prefix vars syms ws
numbered_prefix vars syms (arrow ∷ ws) = numbered_prefix vars syms ws
numbered_prefix vars syms (long ∷ ws) = numbered_prefix vars syms ws
numbered_prefix vars syms (illegal ∷ ws) = numbered_prefix vars syms ws
numbered_prefix vars syms (named n ∷ ws) = by (numbered_prefix vars syms ws) (numbered_prefix vars (syms ++ n ∷ []) ws) (is_some (found 0 vars n)) (is_some (found 0 syms n))
  where
    by : ((more : List (List ℕ)) × (numbered vars syms ws ≡ syms ++ more)) → ((more : List (List ℕ)) × (numbered vars (syms ++ n ∷ []) ws ≡ (syms ++ n ∷ []) ++ more)) → (a b : Bool)
        → (more : List (List ℕ)) × (cond a (numbered vars syms ws) (cond b (numbered vars syms ws) (numbered vars (syms ++ n ∷ []) ws)) ≡ syms ++ more)
    by x y true b = x
    by x y false true = x
    by x y false false = (n ∷ y.0, y.1 ∙ append_assoc syms (n ∷ []) y.0)

-- v is on its way to w, with these words to come
pub record Ahead (w v : Vocabulary) (ws : List Word) : Type 0 where
  pub variables : w.variables ≡ v.variables
  pub symbols : w.symbols ≡ numbered v.variables v.symbols ws
  pub arities : (f a : ℕ) → arity_of v f ≡ Some a → arity_of w f ≡ Some a

pub ahead_grows : {w v : Vocabulary} {ws : List Word} → Ahead w v ws → Grows v w
ahead_grows {w} {v} {ws} a =
    let m = numbered_prefix v.variables v.symbols ws in
    record { variables = a.variables; added = m.0; symbols = a.symbols ∙ m.1; arities = a.arities }

-- what a name does to the vocabulary
record Numbers (p : Role) (w v : Vocabulary) (n : List ℕ) (c : ℕ) (after : List Word) : Type 0 where
  grown : Vocabulary
  ahead : Ahead w grown after
  allows : Allows p w grown
  steps : (s : State) (b : Bool) → use_code p v s b n (code_of v n) ≡ cond (ltb c 32768) (use_symbol p grown s b c) (use_variable p grown s b c)

allows_symbol : (p : Role) (w v : Vocabulary) (n : List ℕ) → Allows p w v → (found 0 v.symbols n ≡ None) → (c : ℕ) → found 0 w.symbols n ≡ Some c → Allows p w (with_symbol v n)
allows_symbol left w v n a e c f = tt
allows_symbol (right ls) w v n a e c f = tt
allows_symbol start w v n a e c f = let z = ap (λ l. found 0 l n) a in cc

no_arity : (j : ℕ) → get_or {A = Option ℕ} (None ∷ []) j None ≡ None
no_arity zero = refl
no_arity (suc j) = refl

arity_before : (xs : List (Option ℕ)) (k x : ℕ) → get_or (xs ++ None ∷ []) k None ≡ Some x → get_or xs k None ≡ Some x
arity_before xs k x q = elim (cases_lt k (length xs)) [
  | inl l ↦ sym (get_or_append_left xs (None ∷ []) None k l) ∙ q
  | inr g ↦ (let z : get_or (xs ++ None ∷ []) k None ≡ None = get_or-append_right xs (None ∷ []) (length xs) k None refl g ∙ no_arity (k - length xs) in cc)
]

-- an arity that is fixed now is the one that it will have
arity_after : (xs : List (Option ℕ)) (f k g x : ℕ) → get_or xs f None ≡ None → get_or (set xs f (Some k)) g None ≡ Some x → (get_or xs g None ≡ Some x) ⊎ ((g ≡ f) × (x ≡ k))
arity_after xs f k g x unset q = elim (cases_eq g f) [
  | inr o ↦ inl (sym (get_or-set_other xs f g (Some k) None o) ∙ q)
  | inl e ↦ elim (cases_lt f (length xs)) [
    | inl l ↦ (let z = get_or-set_same xs f (Some k) None l in let y = ap (λ j. get_or (set xs f (Some k)) j None) e in let is : x ≡ k = cc in inr (e, is))
    | inr past ↦ (let z = ap (λ l. get_or l g None) (set_past xs f (Some k) past) in let y = ap (λ j. get_or xs j None) e in cc)
  ]
]

module _ (w : Vocabulary) (few : length w.symbols ≤ 32) where
  new_steps : (p : Role) (v : Vocabulary) (n : List ℕ) (c : ℕ) → Allows p w v → found 0 v.symbols n ≡ None → found 0 w.symbols n ≡ Some c → length v.symbols < 32 → c ≡ length v.symbols
      → (s : State) (b : Bool) → use_new p v s b n ≡ cond (ltb c 32768) (use_symbol p (with_symbol v n) s b c) (use_variable p (with_symbol v n) s b c)
  new_steps left v n c a e f lt is s b =
      cond-false _ _ _ (lt-leb 32 (length v.symbols) lt) ∙ ap (use_symbol left (with_symbol v n) s b) (sym is) ∙ sym (cond-true _ _ _ (lt-ltb c 32768 (omega arith)))
  new_steps (right ls) v n c a e f lt is s b =
      cond-false _ _ _ (lt-leb 32 (length v.symbols) lt) ∙ ap (use_symbol (right ls) (with_symbol v n) s b) (sym is) ∙ sym (cond-true _ _ _ (lt-ltb c 32768 (omega arith)))
  new_steps start v n c a e f lt is s b = let z = ap (λ l. found 0 l n) a in cc

  numbers : (p : Role) (v : Vocabulary) (n : List ℕ) (c : ℕ) (after : List Word) → Allows p w v → code_of w n ≡ Some c → Ahead w v (named n ∷ after) → Numbers p w v n c after
  numbers p v n c after al e a = by (found 0 v.variables n) (found 0 v.symbols n) refl refl
    where
      by : (x y : Option ℕ) → found 0 v.variables n ≡ x → found 0 v.symbols n ≡ y → Numbers p w v n c after
      by (Some i) y f g =
          let code : code_of v n ≡ Some (32768 + i) = ap (λ o. var_or o (found 0 v.symbols n)) f in
          let same = same_code (ahead_grows a) n (32768 + i) code in
          let is : c ≡ 32768 + i = cc in
          record {
            grown = v;
            ahead = record { variables = a.variables; symbols = a.symbols ∙ cond-true _ _ _ (ap is_some f); arities = a.arities };
            allows = al;
            steps = λ s b. ap (use_code p v s b n) (code ∙ ap Some (sym is));
          }
      by None (Some j) f g =
          let code : code_of v n ≡ Some j = ap (λ o. var_or o (found 0 v.symbols n)) f ∙ g in
          let same = same_code (ahead_grows a) n j code in
          let is : c ≡ j = cc in
          record {
            grown = v;
            ahead = record { variables = a.variables; symbols = a.symbols ∙ cond-false _ _ _ (ap is_some f) ∙ cond-true _ _ _ (ap is_some g); arities = a.arities };
            allows = al;
            steps = λ s b. ap (use_code p v s b n) (code ∙ ap Some (sym is));
          }
      by None None f g =
          let code : code_of v n ≡ None = ap (λ o. var_or o (found 0 v.symbols n)) f ∙ g in
          let grows : w.symbols ≡ numbered v.variables (v.symbols ++ n ∷ []) after = a.symbols ∙ cond-false _ _ _ (ap is_some f) ∙ cond-false _ _ _ (ap is_some g) in
          let m = numbered_prefix v.variables (v.symbols ++ n ∷ []) after in
          let in-w : found 0 w.symbols n ≡ Some (0 + length v.symbols) = ap (λ l. found 0 l n) (grows ∙ m.1) ∙ found_more 0 (0 + length v.symbols) (v.symbols ++ n ∷ []) m.0 n (found_new 0 v.symbols n g) in
          let code-w : code_of w n ≡ Some (0 + length v.symbols) = ap (λ o. var_or o (found 0 w.symbols n)) (ap (λ l. found 0 l n) a.variables ∙ f) ∙ in-w in
          let is0 : c ≡ 0 + length v.symbols = cc in
          let is : c ≡ length v.symbols = omega arith in
          let l1 = ap length (grows ∙ m.1) in
          let l2 = length-append (v.symbols ++ n ∷ []) m.0 in
          let l3 = length-append v.symbols (n ∷ []) in
          record {
            grown = with_symbol v n;
            ahead = record { variables = a.variables; symbols = grows; arities = λ k x q. a.arities k x (arity_before v.arities k x q) };
            allows = allows_symbol p w v n al g (0 + length v.symbols) in-w;
            steps = λ s b. ap (use_code p v s b n) code ∙ new_steps p v n c al g (in-w ∙ ap Some (sym is0)) (omega arith) is s b;
          }

  module _ (p : Role) where
    -- reading words from a state comes to another, whatever was read before
    pub record Goes (v : Vocabulary) (s : State) (xs after : List Word) (s1 : State) : Type 0 where
      pub grown : Vocabulary
      pub ahead : Ahead w grown after
      pub allows : Allows p w grown
      pub reads : Reads p v s (flagged xs after) grown s1

    abbrev pub Runs : State → List Word → List Word → State → Type 0
    Runs s xs after s1 = (v : Vocabulary) → Allows p w v → Ahead w v (xs ++ after) → Goes v s xs after s1

    joins : {v v1 v2 : Vocabulary} {s s1 s2 : State} {fs gs : List Flagged} → Reads p v s fs v1 s1 → Reads p v1 s1 gs v2 s2 → Reads p v s (fs ++ gs) v2 s2
    joins ended r = r
    joins (next f h q) r = next f h (joins q r)

    flagged-append : (xs ys after : List Word) → flagged (xs ++ ys) after ≡ flagged xs (ys ++ after) ++ flagged ys after
    flagged-append [] ys after = refl
    flagged-append (x ∷ xs) ys after =
        ap₂ (λ b l. record { word = x; bare = b } ∷ l) (ap bare_words (append_assoc xs ys after)) (flagged-append xs ys after)

    then : (s s1 s2 : State) (xs ys after : List Word) → Runs s xs (ys ++ after) s1 → Runs s1 ys after s2 → Runs s (xs ++ ys) after s2
    then s s1 s2 xs ys after f g v al a =
        let one = f v al (subst (Ahead w v) (append_assoc xs ys after) a) in
        let two = g one.grown one.allows one.ahead in
        record {
          grown = two.grown;
          ahead = two.ahead;
          allows = two.allows;
          reads = subst (λ l. Reads p v s l two.grown s2) (sym (flagged-append xs ys after)) (joins one.reads two.reads);
        }

    -- a token that leaves the vocabulary as it is
    plain : (s s1 : State) (x : Word) (after : List Word) → ((v : Vocabulary) → step p v s x (bare_words after) ≡ go v s1) → ((v : Vocabulary) → Ahead w v (x ∷ after) → Ahead w v after) → Runs s (x ∷ []) after s1
    plain s s1 x after h skip v al a = record { grown = v; ahead = skip v a; allows = al; reads = next (record { word = x; bare = bare_words after }) (h v) ended }

    skipped : (x : Word) (after : List Word) → ((vars syms : List (List ℕ)) → numbered vars syms (x ∷ after) ≡ numbered vars syms after) → (v : Vocabulary) → Ahead w v (x ∷ after) → Ahead w v after
    skipped x after e v a = record { variables = a.variables; symbols = a.symbols ∙ e v.variables v.symbols; arities = a.arities }

    abbrev at : List ℕ → List Use → Await → State
    at c0 us a = record { codes = c0; uses = us; awaits = a }

    admit : (v : Vocabulary) (s : State) (b : Bool) (c : ℕ) → length s.codes < limit p → admitted p v s b c ≡ go v (entered s b c)
    admit v s b c h = cond-false _ _ _ (lt-leb (limit p) (length s.codes) h)

    -- a vocabulary in which an arity is fixed
    record Settled (v : Vocabulary) (f k : ℕ) (after : List Word) : Type 0 where
      grown : Vocabulary
      ahead : Ahead w grown after
      allows : Allows p w grown
      steps : (on : Vocabulary → Reply) → settled v f k (arity_of v f) on ≡ on grown

    allows_arity : (q : Role) (v : Vocabulary) (f k : ℕ) → Allows q w v → Allows q w (with_arity v f k)
    allows_arity left v f k a = tt
    allows_arity (right ls) v f k a = tt
    allows_arity start v f k a = a

    settles : (v : Vocabulary) (f k : ℕ) (after : List Word) → Allows p w v → Ahead w v after → arity_of w f ≡ Some k → Settled v f k after
    settles v f k after al a e = by (arity_of v f) refl
      where
        kept : arity_of v f ≡ None → (g x : ℕ) → arity_of (with_arity v f k) g ≡ Some x → arity_of w g ≡ Some x
        kept unset g x q = elim (arity_after v.arities f k g x unset q) [
          | inl h ↦ a.arities g x h
          | inr h ↦ ap (arity_of w) h.0 ∙ e ∙ ap Some (sym h.1)
        ]

        by : (o : Option ℕ) → arity_of v f ≡ o → Settled v f k after
        by None z = record {
          grown = with_arity v f k;
          ahead = record { variables = a.variables; symbols = a.symbols; arities = kept z };
          allows = allows_arity p v f k al;
          steps = λ on. ap (λ o. settled v f k o on) z;
        }
        by (Some x) z =
            let same = a.arities f x z in
            let is : k ≡ x = cc in
            record { grown = v; ahead = a; allows = al; steps = λ on. ap (λ o. settled v f k o on) z ∙ cond-true _ _ _ (eq-eqb k x is) }

    name_step : (v : Vocabulary) (c0 : List ℕ) (us : List Use) (n : List ℕ) (c : ℕ) (b : Bool) (after : List Word) (q : Numbers p w v n c after) → step p v (at c0 us WantsTerm) (named n) b ≡ cond (ltb c 32768) (use_symbol p q.grown (at c0 us WantsTerm) b c) (use_variable p q.grown (at c0 us WantsTerm) b c)
    name_step v c0 us n c b after q = q.steps (at c0 us WantsTerm) b

    -- a variable
    run_variable : (x : ℕ) (n : List ℕ) (c0 : List ℕ) (us : List Use) (after : List Word) → code_of w n ≡ Some (32768 + x) → Fine p ((32768 + x) ∷ []) → length c0 < limit p → bare_words after ≡ true
        → Runs (at c0 us WantsTerm) (named n ∷ []) after (at (c0 ++ (32768 + x) ∷ []) us After)
    run_variable x n c0 us after e f h b v al a =
        let q = numbers p v n (32768 + x) after al e a in
        let s = at c0 us WantsTerm in
        let hi : ltb (32768 + x) 32768 ≡ false = le-ltb (32768 + x) 32768 (omega arith) in
        let step_is : step p v s (named n) (bare_words after) ≡ go q.grown (at (c0 ++ (32768 + x) ∷ []) us After) =
        ap (step p v s (named n)) b ∙ q.steps s true ∙ cond-false _ _ _ hi ∙ cond-false _ _ _ (fine_present p x f) ∙ admit q.grown s true (32768 + x) h in
        record { grown = q.grown; ahead = q.ahead; allows = q.allows; reads = next (record { word = named n; bare = bare_words after }) step_is ended }

    -- a symbol without arguments
    run_constant : (f : ℕ) (n : List ℕ) (c0 : List ℕ) (us : List Use) (after : List Word) → code_of w n ≡ Some f → f < 32768 → arity_of w f ≡ Some 0 → length c0 < limit p → bare_words after ≡ true
        → Runs (at c0 us WantsTerm) (named n ∷ []) after (at (c0 ++ f ∷ []) us After)
    run_constant f n c0 us after e lt z h b v al a =
        let q = numbers p v n f after al e a in
        let s = at c0 us WantsTerm in
        let t = settles q.grown f 0 after q.allows q.ahead z in
        let step_is : step p v s (named n) (bare_words after) ≡ go t.grown (at (c0 ++ f ∷ []) us After) =
        ap (step p v s (named n)) b ∙ q.steps s true ∙ cond-true _ _ _ (lt-ltb f 32768 lt) ∙ t.steps (λ x. admitted p x s true f) ∙ admit t.grown s true f h in
        record { grown = t.grown; ahead = t.ahead; allows = t.allows; reads = next (record { word = named n; bare = bare_words after }) step_is ended }

    -- a symbol whose bracket follows
    run_open : (f : ℕ) (n : List ℕ) (c0 : List ℕ) (us : List Use) (after : List Word) → code_of w n ≡ Some f → f < 32768 → length c0 < limit p
        → Runs (at c0 us WantsTerm) (named n ∷ lpar ∷ []) after (at (c0 ++ f ∷ []) (record { symbol = f; begun = 1 } ∷ us) WantsTerm)
    run_open f n c0 us after e lt h =
        then (at c0 us WantsTerm) (at (c0 ++ f ∷ []) (record { symbol = f; begun = 0 } ∷ us) Bracket) (at (c0 ++ f ∷ []) (record { symbol = f; begun = 1 } ∷ us) WantsTerm) (named n ∷ []) (lpar ∷ []) after
        (λ v al a.
        let q = numbers p v n f (lpar ∷ after) al e a in
        let s = at c0 us WantsTerm in
        let step_is : step p v s (named n) false ≡ go q.grown (at (c0 ++ f ∷ []) (record { symbol = f; begun = 0 } ∷ us) Bracket) =
        q.steps s false ∙ cond-true _ _ _ (lt-ltb f 32768 lt) ∙ admit q.grown s false f h ∙ ap (go q.grown) (cond-true _ _ _ (lt-ltb f 32768 lt)) in
        record { grown = q.grown; ahead = q.ahead; allows = q.allows; reads = next (record { word = named n; bare = false }) step_is ended })
        (plain _ _ lpar after (λ v. refl) (skipped lpar after (λ x y. refl)))

    run_comma : (u : Use) (c0 : List ℕ) (us : List Use) (after : List Word) → u.begun < 4
        → Runs (at c0 (u ∷ us) After) (comma ∷ []) after (at c0 (record { symbol = u.symbol; begun = u.begun + 1 } ∷ us) WantsTerm)
    run_comma u c0 us after h = plain _ _ comma after (λ v. cond-true _ _ _ (lt-ltb u.begun 4 h)) (skipped comma after (λ x y. refl))

    run_close : (u : Use) (c0 : List ℕ) (us : List Use) (after : List Word) → arity_of w u.symbol ≡ Some u.begun
        → Runs (at c0 (u ∷ us) After) (rpar ∷ []) after (at c0 us After)
    run_close u c0 us after e v al a =
        let b = skipped rpar after (λ x y. refl) v a in
        let t = settles v u.symbol u.begun after al b e in
        record { grown = t.grown; ahead = t.ahead; allows = t.allows; reads = next (record { word = rpar; bare = bare_words after }) (t.steps (λ x. go x (at c0 us After))) ended }

    -- what each number of w stands for is read back from its name
    module _ (vars : (x : ℕ) → x < length w.variables → code_of w (get_or w.variables x []) ≡ Some (32768 + x))
        (syms : (f : ℕ) → f < length w.symbols → code_of w (get_or w.symbols f []) ≡ Some f)
        (most : (f k : ℕ) → arity_of w f ≡ Some k → k ≤ 4) where
      bare_others : (ts : Terms) (after : List Word) → bare_words (others w ts ++ after) ≡ true
      bare_others none after = refl
      bare_others (more t ts) after = refl

      fits_now : (c0 later : List ℕ) (c : ℕ) → length (c0 ++ c ∷ later) ≤ limit p → length c0 < limit p
      fits_now c0 later c h = let l = length-append c0 (c ∷ later) in omega arith

      arity_is : (f k : ℕ) (o : Option ℕ) → arity_of w f ≡ o → T (is_number o k) → arity_of w f ≡ Some k
      arity_is f k None e h = absurd h
      arity_is f k (Some a) e h = e ∙ ap Some (sym (eqb→eq k a h))

      mutual
        pub complete : (t : Term) (c0 : List ℕ) (us : List Use) (after : List Word) → T (over w t) → bare_words after ≡ true → length (c0 ++ codes t) ≤ limit p → Fine p (codes t)
            → Runs (at c0 us WantsTerm) (words w t) after (at (c0 ++ codes t) us After)
        complete (var x) c0 us after g b h f = run_variable x (get_or w.variables x []) c0 us after (vars x (ltb→lt x _ g)) f (fits_now c0 [] (32768 + x) h) b
        complete (app f ts) c0 us after g b h fine = complete_app ts f c0 us after g b h fine

        complete_app : (ts : Terms) (f : ℕ) (c0 : List ℕ) (us : List Use) (after : List Word) → T (over w (app f ts)) → bare_words after ≡ true → length (c0 ++ codes (app f ts)) ≤ limit p → Fine p (codes (app f ts))
            → Runs (at c0 us WantsTerm) (words w (app f ts)) after (at (c0 ++ codes (app f ts)) us After)
        complete_app none f c0 us after g b h fine =
            let g1 = fst_of _ true g in
            let lt = ltb→lt f _ (fst_of _ _ g1) in
            let z = arity_is f 0 (arity_of w f) refl (snd_of (ltb f (length w.symbols)) _ g1) in
            run_constant f (get_or w.symbols f []) c0 us after (syms f lt) (omega arith) z (fits_now c0 [] f h) b
        complete_app (more t ts) f c0 us after g b h fine =
            let head = ltb f (length w.symbols) && is_number (arity_of w f) (1 + count ts) in
            let gs = snd_of head (over_all w (more t ts)) g in
            let g1 = fst_of head (over_all w (more t ts)) g in
            let lt = ltb→lt f _ (fst_of _ _ g1) in
            let k = arity_is f (1 + count ts) (arity_of w f) refl (snd_of (ltb f (length w.symbols)) _ g1) in
            let c1 = c0 ++ f ∷ [] in
            let u1 : Use = record { symbol = f; begun = 1 } in
            let whole : (c1 ++ codes t) ++ codes_all ts ≡ c0 ++ codes (app f (more t ts)) = append_assoc c1 (codes t) (codes_all ts) ∙ append_assoc c0 (f ∷ []) (codes t ++ codes_all ts) in
            let size : length ((c1 ++ codes t) ++ codes_all ts) ≤ limit p = subst (λ (l : List ℕ). length l ≤ limit p) (sym whole) h in
            let part : length (c1 ++ codes t) ≤ limit p = let l = length-append (c1 ++ codes t) (codes_all ts) in omega arith in
            let fine-args = fine_parts p (codes t) (codes_all ts) (fine_parts p (f ∷ []) (codes t ++ codes_all ts) fine).1 in
            let s1 = at c1 (u1 ∷ us) WantsTerm in
            let s2 = at (c1 ++ codes t) (u1 ∷ us) After in
            let first = run_open f (get_or w.symbols f []) c0 us ((words w t ++ others w ts) ++ after) (syms f lt) (omega arith) (fits_now c0 (codes t ++ codes_all ts) f h) in
            let second = complete t c1 (u1 ∷ us) (others w ts ++ after) (fst_of (over w t) _ gs) (bare_others ts after) part fine-args.0 in
            let third = subst (λ (l : List ℕ). Runs s2 (others w ts) after (at l us After)) whole
            (completes ts (c1 ++ codes t) us u1 after k (snd_of (over w t) _ gs) size fine-args.1) in
            then _ s1 _ (named (get_or w.symbols f []) ∷ lpar ∷ []) (words w t ++ others w ts) after first (then s1 s2 _ (words w t) (others w ts) after second third)

        completes : (ts : Terms) (c0 : List ℕ) (us : List Use) (u : Use) (after : List Word) → arity_of w u.symbol ≡ Some (u.begun + count ts) → T (over_all w ts) → length (c0 ++ codes_all ts) ≤ limit p → Fine p (codes_all ts)
            → Runs (at c0 (u ∷ us) After) (others w ts) after (at (c0 ++ codes_all ts) us After)
        completes none c0 us u after k g h fine =
            subst (λ (l : List ℕ). Runs (at c0 (u ∷ us) After) (rpar ∷ []) after (at l us After)) (sym (append-nil c0))
            (run_close u c0 us after (k ∙ ap Some (let e : u.begun + 0 ≡ u.begun = omega arith in e)))
        completes (more t ts) c0 us u after k g h fine =
            let few-args = most u.symbol (u.begun + (1 + count ts)) k in
            let u1 : Use = record { symbol = u.symbol; begun = u.begun + 1 } in
            let whole : (c0 ++ codes t) ++ codes_all ts ≡ c0 ++ codes_all (more t ts) = append_assoc c0 (codes t) (codes_all ts) in
            let size : length ((c0 ++ codes t) ++ codes_all ts) ≤ limit p = subst (λ (l : List ℕ). length l ≤ limit p) (sym whole) h in
            let part : length (c0 ++ codes t) ≤ limit p = let l = length-append (c0 ++ codes t) (codes_all ts) in omega arith in
            let fine-args = fine_parts p (codes t) (codes_all ts) fine in
            let s0 = at c0 (u ∷ us) After in
            let s1 = at c0 (u1 ∷ us) WantsTerm in
            let s2 = at (c0 ++ codes t) (u1 ∷ us) After in
            let first = run_comma u c0 us ((words w t ++ others w ts) ++ after) (omega arith) in
            let second = complete t c0 (u1 ∷ us) (others w ts ++ after) (fst_of (over w t) _ g) (bare_others ts after) part fine-args.0 in
            let third = subst (λ (l : List ℕ). Runs s2 (others w ts) after (at l us After)) whole
            (completes ts (c0 ++ codes t) us u1 after (k ∙ ap Some (let e : u.begun + (1 + count ts) ≡ u.begun + 1 + count ts = omega arith in e)) (snd_of (over w t) _ g) size fine-args.1) in
            then s0 s1 _ (comma ∷ []) (words w t ++ others w ts) after first (then s1 s2 _ (words w t) (others w ts) after second third)
