-- Numbers, as they are read digit by digit, and what is said by them.
use Rattle.std.proofs.Common.{◌≡◌, ℕ, suc, ◌+◌, ◌-◌, ◌*◌, ◌<◌, ◌≤◌, ◌^◌, ◌==◌, ◌∙◌, Bool, true, false, cond, ◌&&◌, nat_lt, List, [], ◌∷◌, length, drop, drop-cons, get_or, Some, None, refl, ap, subst, arith}
use Rattle.std.proofs.lemmas.Bool.Decides.{nat_tests}
use Rattle.std.proofs.lemmas.Option.{cond_some}
use Rattle.std.proofs.Math.Seq.{drop-length}
use Rattle.std.specs.Char.{is_ascii_digit}
use Rattle.std.specs.List.{list_all}
use borrow.Author.Tests.{ltb-true, lt-ltb, le-ltb, eqb-true, eqb-false}
use Rattle.commands.specs.Words.{Word}
use Rattle.commands.specs.Numerals.{value, value_behind, numeric, numeral, Numeral}

-- digits behind a number make it no less
pub grows : (n : ℕ) (cs : List ℕ) → n ≤ value_behind n cs
grows n [] = omega arith
grows n (c ∷ cs) = let h : n * 10 + (c - 48) ≤ value_behind (n * 10 + (c - 48)) cs = grows (n * 10 + (c - 48)) cs in omega arith

and_false : (b : Bool) → (b && false) ≡ false
and_false true = refl
and_false false = refl

both_true : (a b : Bool) → (a && b) ≡ true → (a ≡ true) × (b ≡ true)
both_true true b e = (refl, e)
both_true false b e = cc

unsaid : (width : ℕ) (w : Word) → numeric w ≡ false → numeral width w ≡ None
unfolding numeral
unsaid width w e = rw e

unfit : (width : ℕ) (w : Word) → 2 ^ width ≤ value w → numeral width w ≡ None
unfolding numeral
unfit width w h = rw (le-ltb (value w) (2 ^ width) h, and_false (numeric w))

said : (width : ℕ) (w : Word) → numeric w ≡ true → value w < 2 ^ width → numeral width w ≡ Some (value w)
unfolding numeral
said width w e h = rw (e, lt-ltb (value w) (2 ^ width) h)

-- the empty word is no number
pub empty : (width : ℕ) (w : Word) → (length w == 0) ≡ true → numeral width w ≡ None
empty width w e = unsaid width w (rw (le-ltb 0 (length w) (omega (arith, eqb-true (length w) 0 e))))

-- nor is one with a byte that is no digit
pub broken : (width : ℕ) (w : Word) (i : ℕ) → list_all is_ascii_digit w ≡ list_all is_ascii_digit (drop i w)
    → i < length w → is_ascii_digit (get_or w i 0) ≡ false → numeral width w ≡ None
broken width w i e below odd =
    let none : list_all is_ascii_digit w ≡ false = e ∙ rw (drop-cons w i 0, odd) in
    unsaid width w (rw (none, and_false (nat_lt 0 (length w))))

-- nor is one that is out of the width at some digit
pub too_long : (width : ℕ) (w : Word) (i n : ℕ) → value w ≡ value_behind n (drop i w) → i < length w
    → 2 ^ width ≤ n * 10 + (get_or w i 0 - 48) → numeral width w ≡ None
too_long width w i n e below over =
    let m = n * 10 + (get_or w i 0 - 48) in
    let at : value w ≡ value_behind m (drop (suc i) w) = e ∙ rw (drop-cons w i 0) in
    unfit width w (omega (arith, at, grows m (drop (suc i) w), over))

-- digits to the end, with a value in the width, are a number
pub whole : (width : ℕ) (w : Word) (i n : ℕ) → value w ≡ value_behind n (drop i w)
    → list_all is_ascii_digit w ≡ list_all is_ascii_digit (drop i w) → i ≡ length w → (length w == 0) ≡ false
    → n < 2 ^ width → numeral width w ≡ Some n
whole width w i n e digits at some fits =
    let end : drop i w ≡ [] = rw (at, drop-length w) in
    let is : value w ≡ n = e ∙ rw end in
    let all : list_all is_ascii_digit w ≡ true = digits ∙ rw end in
    let one : 0 < length w = omega (arith, eqb-false (length w) 0 some) in
    said width w (rw (lt-ltb 0 (length w) one) all) (rw is fits) ∙ ap Some is

-- a number that gets no further digit would be out of the width
pub over : (a b : ℕ) → cond (nat_lt a b) (Some a) None ≡ None → b ≤ a
over a b e = grind (arith, nat_tests)

-- what is a number in a width is one in a smaller width where it fits
pub narrow : (w : Word) (n : ℕ) → numeral 64 w ≡ Some n → numeral 32 w ≡ cond (nat_lt n (2 ^ 32)) (Some n) None
unfolding numeral
narrow w n e = grind (arith, nat_tests)

pub narrow_none : (w : Word) → numeral 64 w ≡ None → numeral 32 w ≡ None
unfolding numeral
narrow_none w e = grind (arith, nat_tests)

-- exactly the numbers of a width are read
pub told : (width : ℕ) (w : Word) (n : ℕ) → numeral width w ≡ Some n → Numeral width w n
unfolding numeral
told width w n e =
    let h : (numeric w && nat_lt (value w) (2 ^ width) ≡ true) × (value w ≡ n) = cond_some _ _ _ e in
    let k = both_true (numeric w) _ h.0 in
    let j = both_true (nat_lt 0 (length w)) _ k.0 in
    record { some = ltb-true 0 (length w) j.0; digits = j.1; says = h.1; fits = subst (λ m. m < 2 ^ width) h.1 (ltb-true (value w) (2 ^ width) k.1) }

pub found : (width : ℕ) (w : Word) (n : ℕ) → Numeral width w n → numeral width w ≡ Some n
found width w n h = said width w (rw (lt-ltb 0 (length w) h.some) h.digits) (rw h.says h.fits) ∙ ap Some h.says
