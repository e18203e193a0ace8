-- A line is cut at its first blank, or is one word.
use Rattle.std.proofs.Common.{◌≡◌, ℕ, ◌+◌, ◌-◌, ◌==◌, Bool, true, false, cond, List, [], ◌∷◌, length, take, drop, Some, None, ltb, refl, subst, arith}
use Rattle.std.specs.List.{position, position_or_len}
use Rattle.std.proofs.lemmas.List.{take_rest}
use Rattle.std.proofs.lemmas.List.Splits.{slice_split_first, slice_split_none}
use Rattle.std.proofs.lemmas.List.Sums.{fails_before_first}
use Rattle.std.proofs.lemmas.Option.{cond_some}
use borrow.Author.Tests.{ltb-true, ltb-false}
use Rattle.commands.specs.Words.{parts}

abbrev pub blank : ℕ → Bool
blank b = b == 32

none_false : {A : Type 0} (b : Bool) (x : A) → cond b (Some x) None ≡ None → b ≡ false
none_false true x e = cc
none_false false x e = refl

pub cut : (line : List ℕ) (end : ℕ) → position blank line ≡ Some end
    → parts line ≡ take end line ∷ parts (take (length line - (end + 1)) (drop (end + 1) line))
cut line end e =
    let h : (ltb (position_or_len blank line) (length line) ≡ true) × (position_or_len blank line ≡ end) = cond_some _ _ _ e in
    rw take_rest (subst (λ n. parts line ≡ take n line ∷ parts (drop (n + 1) line)) h.1 (slice_split_first blank line 0 (ltb-true _ _ h.0)))

pub uncut : (line : List ℕ) → position blank line ≡ None → parts line ≡ line ∷ []
uncut line e =
    let h : ltb (position_or_len blank line) (length line) ≡ false = none_false _ _ e in
    slice_split_none blank line (λ k d below. fails_before_first blank line k d (omega (arith, ltb-false _ _ h)))
