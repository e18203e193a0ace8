-- What bindings that solve a left side are: the matcher, on its variables; and a right side under them.
use Rattle.std.proofs.Common.{◌≡◌, ℕ, ◌+◌, ◌-◌, ◌<◌, ◌≤◌, cond, ◌&&◌, T, eqb, ltb, List, [], ◌∷◌, ◌++◌, length, get_or, is_some, Some, None, Option, sym, refl, ap, ◌∙◌, subst, ap₂, inl, inr, append-nil, arith, ltb→lt}
use Rattle.std.specs.Option.{unwrap_or}
use Rattle.std.proofs.lemmas.Bool.{lt-ltb, le-ltb, eq-eqb, ne_eqb, cases_eq}
use Rattle.std.proofs.lemmas.Grind.{flat_map-append}
use Rattle.rewriting.specs.declared.bindings.Bindings.{Bindings}
use Rattle.rewriting.specs.declared.place.Place.{Place}
use Rattle.terms.specs.declared.code.Code.TheVariants.{Symbol, Variable}
use Rattle.terms.specs.Terms.{Term, Terms, Term.var, Term.app, Terms.none, Terms.more, count, codes, codes_all, over, over_all, under, under_all}
use Rattle.terms.specs.Rules.{occurs, bound, bound_all}
use Rattle.terms.specs.Codes.{is_term, term_of, sub_at}
use Rattle.terms.specs.Kinds.{code_kind}
use Rattle.rewriting.specs.Matching.{matcher, matches}
use Rattle.rewriting.specs.Bindings.{bound_to, Means, Agrees, IsPart, Solved, Answered}
use Rattle.rewriting.specs.Filling.{piece, filled}
use Rattle.rewriting.specs.Places.{arities_at, subterm}
use Rattle.terms.proofs.Booleans.{fst_of, snd_of, holds}
use Rattle.terms.proofs.Readings.{term_of_codes}
use Rattle.terms.proofs.Scans.{few_symbols}
use Rattle.terms.proofs.Subterms.{part_at}
use Rattle.rewriting.proofs.Images.{under_same, under_bound, matcher_is, matches_all, unmatched}

chosen : List ℕ → Option (List ℕ) → Term
chosen sig None = var 0
chosen sig (Some part) = term_of sig part

chosen_means : (sig : List ℕ) (o : Option (List ℕ)) → Means sig (chosen sig o) o
unfolding chosen
chosen_means sig None = tt
chosen_means sig (Some part) = refl

changed : (ℕ → Term) → ℕ → ℕ → Term
changed σ v u = cond (eqb v u) (app 0 none) (σ u)

module _ (sig : List ℕ) (few : length sig ≤ 32) (left cs : List ℕ) (ok : T (is_term sig cs)) (at : ℕ) (bs : ℕ → Option (List ℕ)) (s : Solved sig left cs at bs) where
  few' : length sig ≤ 32768
  few' = omega arith

  meaning : ℕ → Term
  meaning v = chosen sig (bs v)

  agrees : Agrees sig meaning bs
  unfolding meaning
  agrees v = chosen_means sig (bs v)

  solves : under meaning (term_of sig left) ≡ sub_at sig cs at
  solves = s.from meaning agrees

  -- a variable that is not bound could stand for anything
  changed_agrees : (v : ℕ) → bs v ≡ None → Agrees sig (changed meaning v) bs
  unfolding changed
  changed_agrees v e u = elim (cases_eq v u) [
    | inl p ↦ subst (Means sig (changed meaning v u)) (sym (ap bs (sym p) ∙ e)) tt
    | inr n ↦ subst (λ x. Means sig x (bs u)) (ap (λ b. cond b (app 0 none) (meaning u)) (sym (ne_eqb v u n))) (agrees u)
  ]

  unbound : (v : ℕ) → T (occurs v (term_of sig left)) → bs v ≡ None → ⊥
  unfolding meaning changed chosen
  unbound v o e =
      let both : under meaning (term_of sig left) ≡ under (changed meaning v) (term_of sig left) = solves ∙ sym (s.from (changed meaning v) (changed_agrees v e)) in
      let x : meaning v ≡ changed meaning v v = under_same meaning (changed meaning v) (term_of sig left) v both o in
      let y : meaning v ≡ var 0 = ap (chosen sig) e in
      let z : changed meaning v v ≡ app 0 none = ap (λ b. cond b (app 0 none) (meaning v)) (eq-eqb v v refl) in
      let a : var 0 ≡ app 0 none = sym y ∙ x ∙ z in
      cc

  -- a part is the codes of what it stands for
  part_codes : (o : Option (List ℕ)) → IsPart sig cs o → (o ≡ None → ⊥) → unwrap_or o [] ≡ codes (chosen sig o)
  unfolding chosen
  part_codes None x some = absurd (some refl)
  part_codes (Some part) x some =
      let t = sub_at sig cs x.0 in
      x.2 ∙ ap codes (sym (ap (term_of sig) x.2 ∙ term_of_codes sig few' t (part_at sig few' cs ok x.0 x.1).fine))

  bound_is : (v : ℕ) → T (occurs v (term_of sig left)) → unwrap_or (bs v) [] ≡ codes (meaning v)
  unfolding meaning
  bound_is v o = part_codes (bs v) (s.parts v) (unbound v o)

  filled_var : (w : ℕ) → T (occurs w (term_of sig left)) → filled bs (codes (var w)) ≡ codes (meaning w)
  filled_var w o =
      let e : 32768 + w - 32768 ≡ w = omega arith in
      append-nil _
      ∙ ap (λ b. piece bs (cond b (Symbol (32768 + w)) (Variable (32768 + w - 32768)))) (le-ltb (32768 + w) 32768 (omega arith))
      ∙ ap (λ x. unwrap_or (bs x) []) e ∙ bound_is w o

  symbol : (f : ℕ) (ts : Terms) → T (over sig (app f ts)) → f < 32768
  symbol f ts h =
      let head = ltb f (length sig) && eqb (count ts) (get_or sig f 0) in
      let lt = ltb→lt f (length sig) (fst_of (ltb f (length sig)) _ (fst_of head (over_all sig ts) h)) in
      omega arith

  mutual
    filled_codes : (r : Term) → T (over sig r) → T (bound (term_of sig left) r) → filled bs (codes r) ≡ codes (under meaning r)
    filled_codes (var w) h b = filled_var w b
    filled_codes (app f ts) h b =
        ap (λ x. piece bs (cond x (Symbol f) (Variable (f - 32768))) ++ filled bs (codes_all ts)) (lt-ltb f 32768 (symbol f ts h))
        ∙ ap (λ l. f ∷ l) (filled_codes_all ts (snd_of (ltb f (length sig) && eqb (count ts) (get_or sig f 0)) (over_all sig ts) h) b)

    filled_codes_all : (rs : Terms) → T (over_all sig rs) → T (bound_all (term_of sig left) rs) → filled bs (codes_all rs) ≡ codes_all (under_all meaning rs)
    filled_codes_all none h b = refl
    filled_codes_all (more r rs) h b =
        flat_map-append (λ c. piece bs (code_kind c)) (codes r) (codes_all rs)
        ∙ ap₂ (λ x y. x ++ y) (filled_codes r (fst_of (over sig r) _ h) (fst_of (bound (term_of sig left) r) _ b)) (filled_codes_all rs (snd_of (over sig r) _ h) (snd_of (bound (term_of sig left) r) _ b))

  pub solved_matches : T (matches (term_of sig left) (sub_at sig cs at))
  solved_matches = matches_all (term_of sig left) (sub_at sig cs at) meaning solves

  pub filled_is : (r : Term) → T (over sig r) → T (bound (term_of sig left) r) → filled bs (codes r) ≡ codes (under (matcher (term_of sig left) (sub_at sig cs at)) r)
  filled_is r h b =
      filled_codes r h b
      ∙ ap codes (under_bound meaning (matcher (term_of sig left) (sub_at sig cs at)) (term_of sig left) r b (λ v o. sym (matcher_is (term_of sig left) (sub_at sig cs at) meaning solves v o)))

-- the answer of a match, by what it means
pub record Told (p : Place) (left : List ℕ) (r : Option Bindings) : Type 0 where
  pub value : is_some r ≡ matches (term_of (arities_at p) left) (subterm p)
  pub means : Answered r (arities_at p) left p.codes.now p.at

module _ (p : Place) (left : List ℕ) where
  pub told_some : (b : Bindings) → Solved (arities_at p) left p.codes.now p.at (bound_to b) → Told p left (Some b)
  told_some b s = record { value = sym (holds _ (solved_matches (arities_at p) (few_symbols (arities_at p) p.signature.now.limited) left p.codes.now p.term p.at _ s)); means = s }

  pub told_none : {r : Option Bindings} → r ≡ None → ((σ : ℕ → Term) → under σ (term_of (arities_at p) left) ≡ subterm p → ⊥) → Told p left r
  told_none {r} e n = subst (Told p left) (sym e) record { value = sym (unmatched (term_of (arities_at p) left) (subterm p) n); means = n }
