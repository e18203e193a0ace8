-- The codes after a rewrite are those of the term after the step.
use Rattle.std.proofs.Common.{◌≡◌, ℕ, zero, suc, ◌<◌, ◌≤◌, ◌&&◌, T, List, [], ◌∷◌, length, refl, sym, ap, ◌∙◌, subst, ap₂, arith}
use Rattle.std.proofs.lemmas.Bool.{le-leb}
use Rattle.terms.specs.Terms.{Term, codes, size, over, under}
use Rattle.terms.specs.Contexts.{plug, Occurrence}
use Rattle.terms.specs.Rules.{Rule, Numbered, rules_over, rule_over, headed, bound, occurs}
use Rattle.terms.specs.Steps.{Step}
use Rattle.terms.specs.Codes.{counts, is_term, term_of, sub_at}
use Rattle.terms.proofs.Booleans.{both, fst_of, snd_of, held}
use Rattle.terms.proofs.Overs.{over_plug, over_under, rule-numbered}
use Rattle.terms.proofs.Readings.{term_of_codes, counted_codes, term_counts}
use Rattle.terms.proofs.Places.{length_codes, located}
use Rattle.terms.proofs.Views.{counted}
use Rattle.terms.proofs.Splices.{over_plugged, over_part, part_is, replaced}
use Rattle.terms.proofs.Unique.{same_place, place_below}
use Rattle.rewriting.specs.Matching.{matcher, matches}
use Rattle.rewriting.specs.Filling.{next_codes}
use Rattle.rewriting.specs.Replies.{rule_at}
use Rattle.rewriting.proofs.Images.{under_bound, under_same, matches_all, matches_sound}

pub numbered_same : (rules : List Rule) (n : ℕ) (r s : Rule) → Numbered rules n r → Numbered rules n s → r ≡ s
numbered_same [] n r s a b = absurd a
numbered_same (x ∷ xs) zero r s a b = sym a ∙ b
numbered_same (x ∷ xs) (suc n) r s a b = numbered_same xs n r s a b

pub numbered_below : (rules : List Rule) (n : ℕ) (r : Rule) → Numbered rules n r → n < length rules
numbered_below [] n r h = absurd h
numbered_below (x ∷ rules) zero r h = omega arith
numbered_below (x ∷ rules) (suc n) r h = let z = numbered_below rules n r h in omega arith

pub listed_at : (rules : List Rule) (n : ℕ) → n < length rules → Numbered rules n (rule_at rules n)
listed_at [] n h = absurd (omega arith)
listed_at (x ∷ rules) zero h = refl
listed_at (x ∷ rules) (suc n) h = listed_at rules n (omega arith)

pub rule_listed : (rules : List Rule) (n : ℕ) (r : Rule) → Numbered rules n r → r ≡ rule_at rules n
rule_listed rules n r listed = numbered_same rules n r (rule_at rules n) listed (listed_at rules n (numbered_below rules n r listed))

bound_of : (sig : List ℕ) (r : Rule) → T (rule_over sig r) → T (bound r.left r.right)
bound_of sig r h = snd_of (headed r.left) _ (snd_of (over sig r.left && over sig r.right) (headed r.left && bound r.left r.right) h)

-- a step by a rule number at a place has one result
pub step_once : (sig : List ℕ) (rules : List Rule) → T (rules_over sig rules) → (n p : ℕ) (t u v : Term) → Step rules n p t u → Step rules n p t v → u ≡ v
step_once sig rules fine n p t u v a b =
    let r = a.rule in
    let same-rule : b.rule ≡ r = numbered_same rules n b.rule r b.listed a.listed in
    let from : t ≡ plug b.context (under b.σ r.left) = b.from ∙ ap (λ x. plug b.context (under b.σ x.left)) same-rule in
    let to : v ≡ plug b.context (under b.σ r.right) = b.to ∙ ap (λ x. plug b.context (under b.σ x.right)) same-rule in
    let one = same_place a.context b.context (under a.σ r.left) (under b.σ r.left) (sym a.from ∙ from) (a.placed ∙ sym b.placed) in
    let agree : (w : ℕ) → T (occurs w r.left) → a.σ w ≡ b.σ w = λ w o. under_same a.σ b.σ r.left w one.parts o in
    let rights = under_bound a.σ b.σ r.left r.right (bound_of sig r (rule-numbered sig rules n r fine a.listed)) agree in
    a.to ∙ ap₂ plug one.contexts rights ∙ sym to

-- the place of a step lies within the term
pub step_inside : (rules : List Rule) (n p : ℕ) (t u : Term) → Step rules n p t u → p < size t
step_inside rules n p t u s =
    let a = place_below s.context (under s.σ s.rule.left) in
    let b = s.placed in
    let c = ap size s.from in
    omega arith

module _ (sig : List ℕ) (few : length sig ≤ 32) (cs : List ℕ) (ok : T (is_term sig cs)) (p : ℕ) where
  few' : length sig ≤ 32768
  few' = omega arith

  pub size_of : size (term_of sig cs) ≡ length cs
  size_of = sym (length_codes (term_of sig cs)) ∙ ap length (counted_codes sig cs (counted sig cs ok))

  module _ (rules : List Rule) (fine : T (rules_over sig rules)) (inside : p < length cs) (n : ℕ) (r : Rule) (listed : Numbered rules n r) where
    rule_fine : T (rule_over sig r)
    rule_fine = rule-numbered sig rules n r fine listed

    over_right : T (over sig r.right)
    over_right = snd_of (over sig r.left) _ (fst_of (over sig r.left && over sig r.right) (headed r.left && bound r.left r.right) rule_fine)

    here : Occurrence (term_of sig cs) p
    here = located (term_of sig cs) p (let a = size_of in omega arith)

    -- the term after the step, by its context
    module _ (h : T (matches r.left (sub_at sig cs p))) where
      σ : ℕ → Term
      σ = matcher r.left (sub_at sig cs p)

      after : Term
      after = plug here.context (under σ r.right)

      after_over : T (over sig after)
      unfolding after σ
      after_over =
          let x = here.part in
          let e = part_is sig few cs ok p here.context x here.whole here.placed in
          let o = over_plugged sig few cs ok p here.context x here.whole here.placed in
          over_plug sig here.context x (under σ r.right) o
          (over_under sig r.right r.left σ
          (subst (λ y. T (over sig y)) (e ∙ sym (matches_sound r.left (sub_at sig cs p) h)) (over_part sig few cs ok p here.context x here.whole here.placed))
          (bound_of sig r rule_fine) over_right)

      after_codes : codes after ≡ next_codes sig cs p r
      unfolding after σ
      after_codes = replaced sig few cs ok p here.context here.part here.whole here.placed (under σ r.right)

      after_is : term_of sig (next_codes sig cs p r) ≡ after
      after_is = ap (term_of sig) (sym after_codes) ∙ term_of_codes sig few' after after_over

      pub step_sound : Step rules n p (term_of sig cs) (term_of sig (next_codes sig cs p r))
      unfolding after σ
      step_sound =
          record {
            rule = r;
            listed = listed;
            context = here.context;
            placed = here.placed;
            σ = σ;
            from = sym here.whole ∙ ap (plug here.context) (part_is sig few cs ok p here.context here.part here.whole here.placed ∙ sym (matches_sound r.left (sub_at sig cs p) h));
            to = after_is;
          }

      pub next_size : size (term_of sig (next_codes sig cs p r)) ≡ length (next_codes sig cs p r)
      next_size = ap size after_is ∙ sym (length_codes after) ∙ ap length after_codes

      -- and it is a term again, if it is short enough
      pub next_term : length (next_codes sig cs p r) ≤ 1024 → T (is_term sig (next_codes sig cs p r))
      next_term l =
          both _ _ (held _ (le-leb (length (next_codes sig cs p r)) 1024 l))
          (held _ (ap (counts sig 1) (sym after_codes) ∙ term_counts sig few' after after_over))

    pub step-matches : (u : Term) → Step rules n p (term_of sig cs) u → T (matches r.left (sub_at sig cs p))
    step-matches u s =
        let same : s.rule ≡ r = numbered_same rules n s.rule r s.listed listed in
        let c = s.context in
        let t = s.σ in
        let w : plug c (under t r.left) ≡ term_of sig cs = ap (λ x. plug c (under t x.left)) (sym same) ∙ sym s.from in
        matches_all r.left (sub_at sig cs p) t (part_is sig few cs ok p c (under t r.left) w s.placed)
