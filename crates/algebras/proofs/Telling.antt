-- The laws of the answers, from what they are: one lemma for each call, of any lawful meaning.
use Rattle.std.proofs.Common.{◌≡◌, ℕ, ◌≤◌, Bool, true, false, cond, ◌&&◌, T, leb, List, length, Some, None, Ok, Err, Option, Result, sym, refl, ap, ◌∙◌, subst, ap₂, leb→le}
use Rattle.std.proofs.lemmas.Bool.{le-leb, leb-true, leb-false}
use Rattle.terms.specs.declared.signature.Signature.{Signature}
use Rattle.terms.specs.Terms.{Term, codes, size, over}
use Rattle.terms.specs.Rules.{Rule, rule_over, headed, bound}
use Rattle.terms.specs.Codes.{is_term, term_of}
use Rattle.terms.specs.Shapes.{is_rule, rule_of}
use Rattle.terms.specs.Models.{arities_of}
use Rattle.terms.specs.Laws.{RuleReading, Short, coded_rule}
use Rattle.terms.proofs.Booleans.{both, fst_of, snd_of, held, never, cond_on}
use Rattle.terms.proofs.Exactly.{few', reading, rule_reading, is_term_of, is_rule_of}
use Rattle.terms.proofs.Readings.{term_of_codes}
use Rattle.terms.proofs.Scans.{few_symbols}
use Rattle.algebras.specs.declared.fault.AlgebraFault.{AlgebraFault}
use Rattle.algebras.specs.declared.fault.AlgebraFault.TheVariants as fault
use Rattle.algebras.specs.declared.order.Order.{Order}
use Rattle.algebras.specs.Meanings.{Meaning, Lawful, Within, reach}
use Rattle.algebras.specs.Replies.{measured, order, order_of, compared, is_size, ceiling_told, ceiling_reply}
use Rattle.algebras.specs.Laws.{HeightTold, MeasuredExactly, OrderTold, ComparedExactly, Sized, CeilingTold, CeilingExactly}

module _ (A : Meaning) (law : Lawful A) (sig : List ℕ) (few : length sig ≤ 32) where
  module _ (cs : List ℕ) where
    height_told : (fits term given : Bool) → A.fits sig ≡ fits → is_term sig cs ≡ term → A.given (term_of sig cs) ≡ given
        → HeightTold A sig cs (cond (fits && term) (cond given (Ok (A.height (term_of sig cs))) (Err fault.HeightOutOfReach)) (Err fault.Unfit))
    unfolding reading
    height_told false term given f t g = λ fits x. never (A.fits sig) fits f
    height_told true false given f t g = λ fits x. never (is_term sig cs) (is_term_of sig few x.term cs x.over_signature x.short x.coded) t
    height_told true true true f t g =
        let x = reading sig few cs (held _ t) in
        (record { fits = held _ f; read = x; given_is = g }, refl, law.reached sig (held _ f) (term_of sig cs) x.over_signature (held _ g))
    height_told true true false f t g = record { fits = held _ f; read = reading sig few cs (held _ t); given_is = g }

    measured-at : T (A.fits sig) → (t : Term) → T (over sig t) → size t ≤ 1024 → codes t ≡ cs → T (A.given t) → measured A sig cs ≡ Ok (A.height t)
    measured-at f t o s e g =
        let is : term_of sig cs ≡ t = ap (term_of sig) (sym e) ∙ term_of_codes sig (few' sig few) t o in
        cond_on _ _ _ (both _ _ f (is_term_of sig few t cs o s e))
        ∙ ap (λ x. cond (A.given x) (Ok (A.height x)) (Err fault.HeightOutOfReach)) is ∙ cond_on _ _ _ g

    pub measured_exactly : MeasuredExactly A sig cs (measured A sig cs)
    measured_exactly = record {
      told = height_told (A.fits sig) (is_term sig cs) (A.given (term_of sig cs)) refl refl refl;
      complete = measured-at;
    }

  -- two sides are those of a rule over the signature
  sides_rule : (l r : List ℕ) → RuleReading sig l r → T (is_rule sig l r)
  sides_rule l r x = subst (λ y. T (is_rule sig y.left y.right)) x.coded (is_rule_of sig few x.rule x.over_signature x.short)

  -- the rule of its own codes
  rule_of_codes : (x : Rule) → T (rule_over sig x) → rule_of sig (codes x.left) (codes x.right) ≡ x
  rule_of_codes x h =
      let terms = fst_of (over sig x.left && over sig x.right) (headed x.left && bound x.left x.right) h in
      ap₂ (λ a b. record { left = a; right = b }) (term_of_codes sig (few' sig few) x.left (fst_of (over sig x.left) _ terms)) (term_of_codes sig (few' sig few) x.right (snd_of (over sig x.left) _ terms))

  module _ (l r : List ℕ) where
    order_told : (fits rule readable strict weak : Bool) → A.fits sig ≡ fits → is_rule sig l r ≡ rule → A.readable (rule_of sig l r) ≡ readable
        → A.strict (rule_of sig l r) ≡ strict → A.weak (rule_of sig l r) ≡ weak
        → OrderTold A sig l r (cond (fits && rule) (cond readable (Ok (order strict weak)) (Err fault.RuleOutOfReach)) (Err fault.Unfit))
    unfolding rule_reading reading
    order_told false rule readable strict weak f i a s w = λ fits x. never (A.fits sig) fits f
    order_told true false readable strict weak f i a s w = λ fits x. never (is_rule sig l r) (sides_rule l r x) i
    order_told true true false strict weak f i a s w = (held _ f, (rule_reading sig few l r (held _ i), a))
    order_told true true true true true f i a s w =
        record { fits = held _ f; read = rule_reading sig few l r (held _ i); readable = held _ a; strict_is = s; weak_is = w }
    order_told true true true true false f i a s w =
        let o = (rule_reading sig few l r (held _ i)).over_signature in
        absurd (never (A.weak (rule_of sig l r)) (law.strict_weak sig (held _ f) (rule_of sig l r) o (held _ s)) w)
    order_told true true true false true f i a s w =
        record { fits = held _ f; read = rule_reading sig few l r (held _ i); readable = held _ a; strict_is = s; weak_is = w }
    order_told true true true false false f i a s w =
        record { fits = held _ f; read = rule_reading sig few l r (held _ i); readable = held _ a; strict_is = s; weak_is = w }

    compared_at : T (A.fits sig) → (x : Rule) → T (rule_over sig x) → Short x → coded_rule x ≡ record { left = l; right = r } → T (A.readable x) → compared A sig l r ≡ Ok (order_of A x)
    compared_at f x o s e a =
        let is : rule_of sig l r ≡ x = ap (λ y. rule_of sig y.left y.right) (sym e) ∙ rule_of_codes x o in
        cond_on _ _ _ (both _ _ f (sides_rule l r record { rule = x; over_signature = o; coded = e; short = s }))
        ∙ ap (λ y. cond (A.readable y) (Ok (order_of A y)) (Err fault.RuleOutOfReach)) is ∙ cond_on _ _ _ a

    pub compared_exactly : ComparedExactly A sig l r (compared A sig l r)
    compared_exactly = record {
      told = order_told (A.fits sig) (is_rule sig l r) (A.readable (rule_of sig l r)) (A.strict (rule_of sig l r)) (A.weak (rule_of sig l r)) refl refl refl refl refl;
      complete = compared_at;
    }

size_in : (n : ℕ) → T (is_size n) → Sized n
size_in n h = (leb→le 1 n (fst_of (leb 1 n) _ h), leb→le n 1024 (snd_of (leb 1 n) _ h))

in_size : (n : ℕ) → Sized n → T (is_size n)
in_size n h = both _ _ (held _ (le-leb 1 n h.0)) (held _ (le-leb n 1024 h.1))

module _ (A : Meaning) (law : Lawful A) (n : ℕ) where
  number_told : (c : ℕ) (b : Bool) → leb c reach ≡ b → Sized n → A.ceiling n ≡ Some c → CeilingTold A n (cond b (Ok (Some c)) (Err fault.CeilingOutOfReach))
  number_told c true e s x = (s, x, leb-true c reach e)
  number_told c false e s x = (c, s, x, leb-false c reach e)

  ceiling_says : (ok : Bool) (c : Option ℕ) → is_size n ≡ ok → A.ceiling n ≡ c → CeilingTold A n (cond ok (ceiling_told c) (Err fault.SizeOutOfRange))
  ceiling_says false c p e = λ s. never (is_size n) (in_size n s) p
  ceiling_says true None p e = (size_in n (held _ p), e)
  ceiling_says true (Some c) p e = number_told c (leb c reach) refl (size_in n (held _ p)) e

  ceiling_bounds : (c : ℕ) → ceiling_reply A n ≡ Ok (Some c) → (sig : List ℕ) → T (A.fits sig) → (t : Term) → T (over sig t) → size t ≡ n → A.height t ≤ c
  ceiling_bounds c e sig f t o s =
      let told : CeilingTold A n (Ok (Some c)) = subst (CeilingTold A n) e (ceiling_says (is_size n) (A.ceiling n) refl refl) in
      subst (Within (A.height t)) (ap A.ceiling s ∙ told.1) (law.ceiled sig f t o)

  pub ceiling_exactly : CeilingExactly A n (ceiling_reply A n)
  ceiling_exactly = record {
    told = ceiling_says (is_size n) (A.ceiling n) refl refl;
    none = λ s e. cond_on _ _ _ (in_size n s) ∙ ap ceiling_told e;
    complete = λ s c h e. cond_on _ _ _ (in_size n s) ∙ ap ceiling_told e ∙ cond_on _ _ _ (held _ (le-leb c reach h));
    bounds = ceiling_bounds;
  }

-- the same of what a call answers
module _ (A : Meaning) (law : Lawful A) where
  pub measured_law : (s : Signature) (cs : List ℕ) (r : Result ℕ AlgebraFault) → r ≡ measured A (arities_of s) cs → MeasuredExactly A (arities_of s) cs r
  measured_law s cs r e = subst (MeasuredExactly A (arities_of s) cs) (sym e) (measured_exactly A law (arities_of s) (few_symbols (arities_of s) s.limited) cs)

  pub compared_law : (s : Signature) (l r : List ℕ) (o : Result Order AlgebraFault) → o ≡ compared A (arities_of s) l r → ComparedExactly A (arities_of s) l r o
  compared_law s l r o e = subst (ComparedExactly A (arities_of s) l r) (sym e) (compared_exactly A law (arities_of s) (few_symbols (arities_of s) s.limited) l r)

  pub ceiling_law : (n : ℕ) (r : Result (Option ℕ) AlgebraFault) → r ≡ ceiling_reply A n → CeilingExactly A n r
  ceiling_law n r e = subst (CeilingExactly A n) (sym e) (ceiling_exactly A law n)
