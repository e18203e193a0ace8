-- A verb's word is found exactly under it, and an opening's word under that.
use Rattle.std.proofs.Common.{◌≡◌, Bool, true, false, cond, List, [], ◌∷◌, Some, Option, refl, sym, ap, ◌∙◌}
use Rattle.std.specs.List.{find}
use Rattle.std.specs.Str.{bytes_eq}
use Rattle.std.proofs.lemmas.Slice.Eq.{bytes_eq-Decides}
use Rattle.commands.specs.declared.command.Opening.{Opening}
use Rattle.commands.specs.declared.command.Opening.TheVariants.{Full, Short}
use Rattle.commands.specs.declared.verb.Verb.{Verb}
use Rattle.commands.specs.declared.verb.Verb.TheVariants.{Measure, Compare, Ceiling, Pool, Reserve, Settle, Free, Open, Step, Sweep, Look, Copy, Term, Help}
use Rattle.commands.specs.Words.{Word}
use Rattle.commands.specs.Verbs.{verb_word, verbs, verb_of, opening_word, opening_of}

cond_passes : {A : Type 0} (p : A → Bool) (b : Bool) (y x : A) (rest : Option A) → p y ≡ b
    → (rest ≡ Some x → p x ≡ true) → cond b (Some y) rest ≡ Some x → p x ≡ true
cond_passes p true y x rest e more h = let same : y ≡ x = cc in ap p (sym same) ∙ e
cond_passes p false y x rest e more h = more h

passes : {A : Type 0} (p : A → Bool) (xs : List A) (x : A) → find p xs ≡ Some x → p x ≡ true
passes p [] x h = cc
passes p (y ∷ ys) x h = cond_passes p (p y) y x (find p ys) refl (passes p ys x) h

pub verb_told : (w : Word) (v : Verb) → verb_of w ≡ Some v → verb_word v ≡ w
unfolding verb_of
verb_told w v h = (bytes_eq-Decides (verb_word v) w).0 (passes (λ v. bytes_eq (verb_word v) w) verbs v h)

pub verb_found : (v : Verb) → verb_of (verb_word v) ≡ Some v
unfolding verb_of
verb_found Measure = refl
verb_found Compare = refl
verb_found Ceiling = refl
verb_found Pool = refl
verb_found Reserve = refl
verb_found Settle = refl
verb_found Free = refl
verb_found Open = refl
verb_found Step = refl
verb_found Sweep = refl
verb_found Look = refl
verb_found Copy = refl
verb_found Term = refl
verb_found Help = refl

pub opening_told : (w : Word) (o : Opening) → opening_of w ≡ Some o → opening_word o ≡ w
unfolding opening_of
opening_told w o h = (bytes_eq-Decides (opening_word o) w).0 (passes (λ o. bytes_eq (opening_word o) w) (Full ∷ Short ∷ []) o h)

pub opening_found : (o : Opening) → opening_of (opening_word o) ≡ Some o
unfolding opening_of
opening_found Full = refl
opening_found Short = refl
