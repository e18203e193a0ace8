-- Arrays that `from_fn` makes by a closure that its calls leave as it is.
use Rattle.std.proofs.Common.{◌≡◌, ℕ, zero, suc, ◌+◌, ◌<◌, ◌≤◌, List, map, get_or, refl, ◌∙◌, subst, inl, inr, arith}
use Rattle.std.specs.Array.{IsFromFnResult, IsFromFnResultFrom}
use Rattle.std.specs.Fn.{Called}
use Rattle.std.specs.List.{range_with_len}
use Rattle.std.proofs.lemmas.Bool.{cases_eq}
use Rattle.std.proofs.lemmas.List.FromFn.{fill_by_all}
use denote.Param.Members.{Mut}

-- each call gives h of the index
abbrev pub Gives : {F B : Type 0} → Mut F (ℕ × Unit {0}) B → F → (ℕ → B) → Type 0
Gives {F} {B} g f h = (i : ℕ) (y : B) (q : F) → Called g f (i, tt) y q → (y ≡ h i) × (q ≡ f)

made_at : {F B : Type 0} (g : Mut F (ℕ × Unit {0}) B) (f : F) (h : ℕ → B) → Gives g f h → (n i : ℕ) (p : F) (ys : List B) → p ≡ f → IsFromFnResultFrom g p ys i n
    → (k : ℕ) (d : B) → i ≤ k → k < i + n → get_or ys k d ≡ h k
made_at g f h gives zero i p ys same r k d l m = absurd (omega arith)
made_at g f h gives (suc n) i p ys same (q, y, at, call, rest) k d l m =
    let given = gives i y q (subst (λ x. Called g x (i, tt) y q) same call) in
    elim (cases_eq i k) [
      | inl here ↦ subst (λ j. get_or ys j d ≡ h j) here (at.1 d ∙ given.0)
      | inr later ↦ made_at g f h gives n (i + 1) q ys given.1 rest k d (omega arith) (omega arith)
    ]

pub filled_by : {F B : Type 0} {g : Mut F (ℕ × Unit {0}) B} {f : F} {ys : List B} {n : ℕ} (h : ℕ → B) (d : B) → IsFromFnResult g f ys n → Gives g f h
    → ys ≡ map h (range_with_len 0 n)
filled_by {F} {B} {g} {f} {ys} {n} h d made gives =
    fill_by_all h ys n d made.long (λ k l. made_at g f h gives n 0 f ys refl made.each k d (omega arith) (omega arith))
