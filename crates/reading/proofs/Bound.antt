-- The variables of a right side are those of the left.
use Rattle.std.proofs.Common.{◌≡◌, ℕ, ◌+◌, ◌<◌, true, false, not, ◌&&◌, ◌||◌, ltb, List, [], ◌∷◌, ◌++◌, sym, refl, ap, ◌∙◌, arith}
use Rattle.std.proofs.lemmas.Bool.{lt-ltb, le-ltb, and_parts, and_from, or_right, not-false}
use Rattle.terms.specs.Shapes.{has, covers}
use Rattle.terms.proofs.RuleCodes.{covers-append}
use Rattle.reading.specs.Sides.{Role, Role.left, Role.right, Role.start, is_absent}
use Rattle.reading.specs.Laws.{Fine}

pub fine_parts : (p : Role) (xs ys : List ℕ) → Fine p (xs ++ ys) → Fine p xs × Fine p ys
fine_parts left xs ys h = (tt, tt)
fine_parts (right ls) xs ys h = and_parts (covers ls xs) (covers ls ys) (sym (covers-append ls xs ys) ∙ h)
fine_parts start xs ys h = (tt, tt)

pub fine_present : (p : Role) (x : ℕ) → Fine p ((32768 + x) ∷ []) → is_absent p (32768 + x) ≡ false
fine_present left x h = refl
fine_present (right ls) x h =
    let a = (and_parts (ltb (32768 + x) 32768 || has ls (32768 + x)) true h).0 in
    let lo : ltb (32768 + x) 32768 ≡ false = le-ltb (32768 + x) 32768 (omega arith) in
    let b : has ls (32768 + x) ≡ true = sym (ap (λ t. t || has ls (32768 + x)) lo) ∙ a in
    ap not b
fine_present start x h = refl

pub fine_none : (p : Role) → Fine p []
fine_none left = tt
fine_none (right ls) = refl
fine_none start = tt

pub fine_join : (p : Role) (xs ys : List ℕ) → Fine p xs → Fine p ys → Fine p (xs ++ ys)
fine_join left xs ys a b = tt
fine_join (right ls) xs ys a b = covers-append ls xs ys ∙ and_from (covers ls xs) (covers ls ys) a b
fine_join start xs ys a b = tt

pub fine_symbol : (p : Role) (c : ℕ) → c < 32768 → Fine p (c ∷ [])
fine_symbol left c h = tt
fine_symbol (right ls) c h = ap (λ b. (b || has ls c) && true) (lt-ltb c 32768 h)
fine_symbol start c h = tt

pub fine_variable : (p : Role) (c : ℕ) → is_absent p c ≡ false → Fine p (c ∷ [])
fine_variable left c h = tt
fine_variable (right ls) c h = and_from (ltb c 32768 || has ls c) true (or_right (ltb c 32768) (has ls c) (not-false (has ls c) h)) refl
fine_variable start c h = tt
