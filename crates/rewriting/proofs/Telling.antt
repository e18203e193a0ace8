-- The laws of matching and of one rewrite, from what they answer.
use Rattle.std.proofs.Common.{◌≡◌, ℕ, ◌<◌, ◌≤◌, Bool, true, false, cond, ◌&&◌, T, ltb, leb, List, length, Ok, Err, Result, sym, refl, ap, ◌∙◌, subst, ap₂, arith}
use Rattle.std.proofs.lemmas.Bool.{ltb-true, ltb-false, leb-true, leb-false, lt-ltb}
use Rattle.rewriting.specs.declared.fault.RewriteFault.{RewriteFault}
use Rattle.rewriting.specs.declared.fault.RewriteFault.TheVariants as fault
use Rattle.terms.specs.Terms.{Term, size}
use Rattle.terms.specs.Rules.{Rule, rules_over}
use Rattle.terms.specs.Steps.{Step}
use Rattle.terms.specs.Codes.{is_term, term_of, sub_at}
use Rattle.terms.specs.Laws.{Reading}
use Rattle.terms.proofs.Booleans.{both, fst_of, snd_of, held, holds, never}
use Rattle.terms.proofs.Exactly.{reading, is_term_of}
use Rattle.terms.proofs.Places.{located}
use Rattle.terms.proofs.Splices.{part_is}
use Rattle.rewriting.specs.Matching.{matcher, matches}
use Rattle.rewriting.specs.Filling.{next_codes}
use Rattle.rewriting.specs.Replies.{match_reply, rule_at, stepped, rewritten, answer, codes_after}
use Rattle.rewriting.specs.Laws.{MatchExactly, Matched, Told, Rewrites}
use Rattle.rewriting.proofs.Images.{matches_sound, matches_all}
use Rattle.rewriting.proofs.Stepwise.{listed_at, numbered_below, step_once, step_inside, size_of, step_sound, step-matches, next_size, next_term}

found : Bool → Result Bool RewriteFault
found b = Ok b

pub matched_value : (sig pattern cs : List ℕ) (at : ℕ) (r : Bool) → is_term sig pattern ≡ true → is_term sig cs ≡ true → at < length cs → matches (term_of sig pattern) (sub_at sig cs at) ≡ r → Ok r ≡ match_reply sig pattern cs at
unfolding found
matched_value sig pattern cs at r p t h m =
    sym (ap (λ b. cond b (cond (ltb at (length cs)) (found (matches (term_of sig pattern) (sub_at sig cs at))) (Err fault.NoPlace)) (Err fault.Malformed)) (ap₂ (λ x y. x && y) p t)
    ∙ ap (λ b. cond b (found (matches (term_of sig pattern) (sub_at sig cs at))) (Err fault.NoPlace)) (lt-ltb at (length cs) h) ∙ ap found m)

module _ (sig : List ℕ) (few : length sig ≤ 32) (cs : List ℕ) (at : ℕ) where
  module _ (pattern : List ℕ) where
    match_exactly : T (is_term sig pattern) → T (is_term sig cs) → at < length cs → MatchExactly sig pattern cs at (matches (term_of sig pattern) (sub_at sig cs at))
    unfolding reading
    match_exactly p ok h =
        let here = located (term_of sig cs) at (let e = size_of sig few cs ok at in omega arith) in
        let part = part_is sig few cs ok at here.context here.part here.whole here.placed in
        record {
          left = reading sig few pattern p;
          subject = reading sig few cs ok;
          here = here;
          decides = (
            λ e. (matcher (term_of sig pattern) (sub_at sig cs at), matches_sound (term_of sig pattern) (sub_at sig cs at) (held _ e) ∙ sym part),
            λ m. holds _ (matches_all (term_of sig pattern) (sub_at sig cs at) m.0 (m.1 ∙ part)),
          );
        }

    no_place : (ok : T (is_term sig cs)) → size (term_of sig cs) ≤ at → (t : Reading sig cs) × (size t.term ≤ at)
    unfolding reading
    no_place ok h = (reading sig few cs ok, h)

    matched_reply : Matched sig pattern cs at (match_reply sig pattern cs at)
    matched_reply = go (is_term sig pattern && is_term sig cs) (ltb at (length cs)) refl refl
      where
        go : (a b : Bool) → (is_term sig pattern && is_term sig cs) ≡ a → ltb at (length cs) ≡ b
            → Matched sig pattern cs at (cond a (cond b (Ok (matches (term_of sig pattern) (sub_at sig cs at))) (Err fault.NoPlace)) (Err fault.Malformed))
        go true true p q = match_exactly (fst_of (is_term sig pattern) _ (held _ p)) (snd_of (is_term sig pattern) _ (held _ p)) (ltb-true at (length cs) q)
        go true false p q =
            let ok = snd_of (is_term sig pattern) _ (held _ p) in
            no_place ok (let a = ltb-false at (length cs) q in let e = size_of sig few cs ok at in omega arith)
        go false b p q = λ x y.
            never _ (both _ _ (is_term_of sig few x.term pattern x.over_signature x.short x.coded) (is_term_of sig few y.term cs y.over_signature y.short y.coded)) p

    pub match_law : (r : Result Bool RewriteFault) → r ≡ match_reply sig pattern cs at → Matched sig pattern cs at r
    match_law r e = subst (Matched sig pattern cs at) (sym e) matched_reply

  module _ (rules : List Rule) (fine : T (rules_over sig rules)) (ok : T (is_term sig cs)) (n : ℕ) where
    Outcome : Result (List ℕ) RewriteFault → Type 0
    Outcome x = Rewrites rules (term_of sig cs) n at (answer x) (term_of sig (codes_after cs x)) × T (is_term sig (codes_after cs x))

    -- a refusal for which there is no step that fits
    refused : (e : RewriteFault) → Told rules (term_of sig cs) n at (Err e) (term_of sig cs) → ((v : Term) → Step rules n at (term_of sig cs) v → size v ≤ 1024 → ⊥) → Outcome (Err e)
    unfolding Outcome
    refused e told unmade = (record { told = told; made = λ v s h. absurd (unmade v s h) }, ok)

    module _ (below : n < length rules) (inside : at < length cs) where
      outcome : (a b : Bool) → matches (rule_at rules n).left (sub_at sig cs at) ≡ a → leb (length (next_codes sig cs at (rule_at rules n))) 1024 ≡ b
          → Outcome (cond a (cond b (Ok (next_codes sig cs at (rule_at rules n))) (Err fault.TooLong)) (Err fault.NoMatch))
      unfolding Outcome
      outcome false b p q =
          let none' : (v : Term) → Step rules n at (term_of sig cs) v → ⊥ = λ v s. never _ (step-matches sig few cs ok at rules fine inside n (rule_at rules n) (listed_at rules n below) v s) p in
          refused fault.NoMatch (refl, none') (λ v s h. none' v s)
      outcome true false p q =
          let l = listed_at rules n below in
          let s = step_sound sig few cs ok at rules fine inside n (rule_at rules n) l (held _ p) in
          let e = next_size sig few cs ok at rules fine inside n (rule_at rules n) l (held _ p) in
          let long = leb-false (length (next_codes sig cs at (rule_at rules n))) 1024 q in
          let u = term_of sig (next_codes sig cs at (rule_at rules n)) in
          refused fault.TooLong (refl, (u, s, omega arith)) (λ v x h. (let k = ap size (step_once sig rules fine n at (term_of sig cs) v u x s) in omega arith))
      outcome true true p q =
          let l = listed_at rules n below in
          let s = step_sound sig few cs ok at rules fine inside n (rule_at rules n) l (held _ p) in
          let fits = leb-true (length (next_codes sig cs at (rule_at rules n))) 1024 q in (
            record { told = s; made = λ v x h. (refl, step_once sig rules fine n at (term_of sig cs) (term_of sig (next_codes sig cs at (rule_at rules n))) v s x) },
            next_term sig few cs ok at rules fine inside n (rule_at rules n) l (held _ p) fits,
          )

    outcomes : (a b : Bool) → ltb n (length rules) ≡ a → ltb at (length cs) ≡ b → Outcome (cond a (cond b (stepped sig cs at (rule_at rules n)) (Err fault.NoPlace)) (Err fault.NoRule))
    outcomes false b p q =
        let le = ltb-false n (length rules) p in
        refused fault.NoRule (refl, le) (λ v s h. (let k = numbered_below rules n s.rule s.listed in omega arith))
    outcomes true false p q =
        let le = ltb-false at (length cs) q in
        let e = size_of sig few cs ok at in
        refused fault.NoPlace (refl, omega arith) (λ v s h. (let k = step_inside rules n at (term_of sig cs) v s in omega arith))
    outcomes true true p q =
        outcome (ltb-true n (length rules) p) (ltb-true at (length cs) q) (matches (rule_at rules n).left (sub_at sig cs at)) (leb (length (next_codes sig cs at (rule_at rules n))) 1024) refl refl

    pub rewrite_law : Rewrites rules (term_of sig cs) n at (answer (rewritten sig rules cs n at)) (term_of sig (codes_after cs (rewritten sig rules cs n at)))
    unfolding Outcome
    rewrite_law = (outcomes (ltb n (length rules)) (ltb at (length cs)) refl refl).0

    pub rewrite_term : T (is_term sig (codes_after cs (rewritten sig rules cs n at)))
    unfolding Outcome
    rewrite_term = (outcomes (ltb n (length rules)) (ltb at (length cs)) refl refl).1
