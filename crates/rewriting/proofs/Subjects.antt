-- What a rewrite of a subject comes to, test by test.
use Rattle.std.proofs.Common.{◌≡◌, ℕ, ◌<◌, ◌≤◌, Bool, true, false, cond, not, T, ltb, leb, List, length, get_or, is_some, Some, None, Ok, Err, Decides, Option, Result, sym, refl, ap, ◌∙◌, subst, ap₂, subst₂, arith, ltb-true}
use Rattle.std.specs.Option.{ok_or}
use Rattle.std.specs.Result.{IsErrAnd}
use Rattle.std.proofs.lemmas.Bool.{lt-ltb, le-ltb}
use Rattle.rewriting.specs.declared.fault.RewriteFault.{RewriteFault}
use Rattle.rewriting.specs.declared.fault.RewriteFault.TheVariants as fault
use Rattle.rewriting.specs.declared.subject.Subject.{Subject}
use Rattle.terms.specs.declared.rule.Rule as kept
use Rattle.terms.specs.Terms.{Term}
use Rattle.terms.specs.Rules.{Rule}
use Rattle.rewriting.specs.Matching.{matches}
use Rattle.rewriting.specs.Filling.{next_codes}
use Rattle.terms.specs.Steps.{Normal, FirstRedex}
use Rattle.terms.specs.Codes.{is_term, term_of, sub_at}
use Rattle.terms.specs.Shapes.{is_rule, rule_of}
use Rattle.terms.specs.Models.{sides_of, all_sides, all_rules}
use Rattle.terms.specs.Systems.{listed_rules, rules_from}
use Rattle.rewriting.specs.declared.place.Place.{Place}
use Rattle.rewriting.specs.Places.{Placed}
use Rattle.rewriting.specs.Replies.{rule_at, stepped, rewritten, redex_of, answer, codes_after}
use Rattle.rewriting.specs.Subjects.{arities_in, rules_in, codes_in, term_in}
use Rattle.rewriting.specs.Laws.{RedexTold, Rewrites}
use Rattle.rewriting.proofs.Systems.{few_in, rules_fine, length_rules, rule-here, is_rule-here}
use Rattle.rewriting.proofs.Telling.{rewrite_law, rewrite_term}

-- the fault of `ok_or` where there is none
pub none_fault : {X : Type 0} (o : Option X) (e f : RewriteFault) → Err e ≡ ok_or o f → false ≡ is_some o → e ≡ f
none_fault None e f h k = cc
none_fault (Some x) e f h k = cc

-- codes without a place of that number
pub none_placed : (sig cs : List ℕ) (at : ℕ) (o : Option Place) → Placed sig cs at o → false ≡ is_some o → length cs ≤ at
none_placed sig cs at None h k = h
none_placed sig cs at (Some p) h k = cc

module _ (s : Subject) (n at : ℕ) where
  abbrev Reply : Result (List ℕ) RewriteFault
  Reply = rewritten (arities_in s) (rules_in s) (codes_in s) n at

  reply : Bool → Bool → Result (List ℕ) RewriteFault
  reply a b = cond a (cond b (stepped (arities_in s) (codes_in s) at (rule_at (rules_in s) n)) (Err fault.NoPlace)) (Err fault.NoRule)

  reply_is : (a b : Bool) → a ≡ ltb n (length (rules_in s)) → b ≡ ltb at (length (codes_in s)) → reply a b ≡ Reply
  unfolding reply
  reply_is a b p q = ap₂ reply p q

  -- what the call ensures, at its answer and the codes that it leaves
  pub record Done (r : Result (Unit {0}) RewriteFault) (u : List ℕ) : Type 0 where
    pub value : r ≡ answer Reply
    pub after : u ≡ codes_after (codes_in s) Reply
    pub means : Rewrites (rules_in s) (term_in s) n at r (term_of (arities_in s) u)
    pub term : T (is_term (arities_in s) u)

  done : (r : Result (Unit {0}) RewriteFault) (u : List ℕ) → r ≡ answer Reply → u ≡ codes_after (codes_in s) Reply → Done r u
  done r u e f =
      let fine = rules_fine s.system in
      record {
        value = e;
        after = f;
        means = subst₂ (λ a b. Rewrites (rules_in s) (term_in s) n at a (term_of (arities_in s) b)) (sym e) (sym f)
            (rewrite_law (arities_in s) (few_in s.system) (codes_in s) at (rules_in s) fine s.over n);
        term = subst (λ b. T (is_term (arities_in s) b)) (sym f) (rewrite_term (arities_in s) (few_in s.system) (codes_in s) at (rules_in s) fine s.over n);
      }

  -- a refusal leaves the codes
  pub refused : {e g : RewriteFault} (r : Result (Unit {0}) RewriteFault) → IsErrAnd r (λ f. f ≡ e) → e ≡ g → Err g ≡ Reply → Done r (codes_in s)
  refused (Ok x) h same k = absurd h
  refused (Err f) h same k = done (Err f) (codes_in s) (ap (λ x. Err x) (h ∙ same) ∙ ap answer k) (ap (codes_after (codes_in s)) k)

  pub made : (u : List ℕ) → Ok u ≡ Reply → Done (Ok tt) u
  made u k = done (Ok tt) u (ap answer k) (ap (codes_after (codes_in s)) k)

  -- a redex as the rewrite would tell it
  told_redex : (r : Result (List ℕ) RewriteFault) → Rewrites (rules_in s) (term_in s) n at (answer r) (term_of (arities_in s) (codes_after (codes_in s) r)) → RedexTold (rules_in s) (term_in s) n at (redex_of r)
  told_redex (Ok cs) w = (term_of (arities_in s) cs, w.told)
  told_redex (Err fault.Malformed) w = absurd w.told
  told_redex (Err fault.NoRule) w = w.told.1
  told_redex (Err fault.NoPlace) w = w.told.1
  told_redex (Err fault.NoMatch) w = w.told.1
  told_redex (Err fault.TooLong) w = (w.told.1.0, w.told.1.1)

  pub record Checked (r : Result (Unit {0}) RewriteFault) : Type 0 where
    pub value : r ≡ redex_of Reply
    pub means : RedexTold (rules_in s) (term_in s) n at r

  pub checked : (r : Result (Unit {0}) RewriteFault) → r ≡ redex_of Reply → Checked r
  checked r e = record {
    value = e;
    means = subst (RedexTold (rules_in s) (term_in s) n at) (sym e) (told_redex Reply (rewrite_law (arities_in s) (few_in s.system) (codes_in s) at (rules_in s) (rules_fine s.system) s.over n));
  }

  -- a refusal that the rewrite would give too
  pub unchecked : {e g : RewriteFault} (r : Result (Unit {0}) RewriteFault) → IsErrAnd r (λ f. f ≡ e) → e ≡ g → Err g ≡ redex_of Reply → Checked r
  unchecked (Ok x) h same k = absurd h
  unchecked (Err f) h same k = checked (Err f) (ap (λ x. Err x) (h ∙ same) ∙ k)

  pub redex_stepped : (sig cs : List ℕ) (r : Rule) (b : Bool) → matches r.left (sub_at sig cs at) ≡ b → cond b (Ok tt) (Err fault.NoMatch) ≡ redex_of (stepped sig cs at r)
  redex_stepped sig cs r b e = go b (leb (length (next_codes sig cs at r)) 1024) ∙ ap (λ m. redex_of (cond m (cond (leb (length (next_codes sig cs at r)) 1024) (Ok (next_codes sig cs at r)) (Err fault.TooLong)) (Err fault.NoMatch))) (sym e)
    where
      go : (b f : Bool) → cond b (Ok tt) (Err fault.NoMatch) ≡ redex_of (cond b (cond f (Ok (next_codes sig cs at r)) (Err fault.TooLong)) (Err fault.NoMatch))
      go true true = refl
      go true false = refl
      go false f = refl

  module _ {rs : List kept.Rule} (er : rs ≡ listed_rules s.system) where
    in_rules : (b : Bool) → b ≡ ltb n (length rs) → b ≡ ltb n (length (rules_in s))
    in_rules b e = e ∙ ap (ltb n) (ap length er ∙ sym (length_rules (arities_in s) (listed_rules s.system)))

    pub no_rule : false ≡ ltb n (length rs) → Err fault.NoRule ≡ Reply
    unfolding reply
    no_rule e = reply_is false _ (in_rules false e) refl

    module _ (listed : true ≡ ltb n (length rs)) {cs : List ℕ} (ec : cs ≡ codes_in s) where
      pub no_place : length cs ≤ at → Err fault.NoPlace ≡ Reply
      unfolding reply
      no_place h = reply_is true false (in_rules true listed) (sym (le-ltb at _ (let a = ap length ec in omega arith)))

      module _ (sig : List ℕ) (es : sig ≡ arities_in s) (x : kept.Rule) (is : x ≡ get_or rs n x) where
        pub applies : T (is_rule sig (sides_of x).left (sides_of x).right)
        applies =
            let all = subst (λ l. T (all_rules (arities_in s) (all_sides l))) (sym er) s.system.over in
            subst (λ a. T (is_rule a (sides_of x).left (sides_of x).right)) (sym es) (is_rule-here (arities_in s) rs n x all (ltb-true n _ (sym listed)) is)

        pub by_rule : at < length cs → stepped sig cs at (rule_of sig (sides_of x).left (sides_of x).right) ≡ Reply
        unfolding reply
        by_rule inside =
            ap₂ (λ a b. stepped a b at (rule_of a (sides_of x).left (sides_of x).right)) es ec
            ∙ ap (stepped (arities_in s) (codes_in s) at) (sym (ap (λ l. rule_at (rules_from (arities_in s) (all_sides l)) n) (sym er) ∙ rule-here (arities_in s) rs n x (ltb-true n _ (sym listed)) is))
            ∙ reply_is true true (in_rules true listed) (sym (lt-ltb at _ (let a = ap length ec in omega arith)))

-- none exactly at a normal form
pub normal_law : (rules : List Rule) (t : Term) (o : Option (ℕ × ℕ)) (r : Bool) → FirstRedex rules t o → is_some o ≡ not r → Decides r (Normal rules t)
normal_law rules t None true f e = (λ h. f, λ h. refl)
normal_law rules t None false f e = cc
normal_law rules t (Some m) true f e = cc
normal_law rules t (Some m) false f e = (λ h. cc, λ h. absurd (h m.1 m.0 f.next f.step))
