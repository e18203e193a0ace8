-- A line is cut at its blanks, which no number and no layer's word has.
use Rattle.std.proofs.Common.{◌≡◌, ℕ, ◌+◌, ◌%◌, ◌^◌, ◌<◌, Bool, true, cond, not, ◌&&◌, eqb, List, [], ◌∷◌, ◌++◌, get_or, codes, decimal, sym, refl, ap, ◌∙◌, ap₂, arith}
use Rattle.std.proofs.lemmas.Bool.{ne_eqb, eq-eqb, and_from, and_parts, not_from_false}
use Rattle.std.proofs.lemmas.List.{append_cancel_left}
use Rattle.std.proofs.lemmas.Fmt.{decimal_by_steps, decimal_injective}
use Rattle.refusals.specs.declared.Layer.{Layer}
use Rattle.refusals.specs.declared.Layer.TheVariants.{Rules, Certificate, Term, Review, Job, Pool}
use Rattle.refusals.specs.declared.Refusal.{Refusal}
use Rattle.refusals.specs.Lines.{layer_name, LinesTell}

-- whether there is no blank among bytes
abbrev solid : List ℕ → Bool
solid [] = true
solid (x ∷ xs) = not (eqb x 32) && solid xs

other : (x : ℕ) → (x ≡ 32 → ⊥) → not (eqb x 32) ≡ true
other x n = not_from_false (eqb x 32) (ne_eqb x 32 n)

solid_push : (xs : List ℕ) (x : ℕ) → (x ≡ 32 → ⊥) → solid xs ≡ true → solid (xs ++ (x ∷ [])) ≡ true
solid_push [] x n s = and_from _ _ (other x n) refl
solid_push (y ∷ xs) x n s = let p = and_parts (not (eqb y 32)) (solid xs) s in and_from _ _ p.0 (solid_push xs x n p.1)

solid_decimal : (n : ℕ) → n < 2 ^ 64 → solid (decimal n) ≡ true
solid_decimal n h =
    decimal_by_steps (λ m ds. solid ds ≡ true) (λ m k. and_from _ _ (other (48 + m) (λ e. omega arith)) refl) (λ m ds k s. solid_push ds (48 + m % 10) (λ e. omega arith) s) n h

solid_name : (l : Layer) → solid (layer_name l) ≡ true
solid_name Rules = refl
solid_name Certificate = refl
solid_name Term = refl
solid_name Review = refl
solid_name Job = refl
solid_name Pool = refl

blank : {X : Type 0} (x : ℕ) → x ≡ 32 → not (eqb x 32) ≡ true → X
blank x e h = let t = eq-eqb x 32 e in let z : ◌≡◌ {A = ℕ} 0 1 = cc in absurd (omega arith)

record Cut (a b us ws : List ℕ) : Type 0 where
  front : a ≡ b
  back : us ≡ ws

-- bytes up to the first blank, and those behind it
cut : (a b us ws : List ℕ) → solid a ≡ true → solid b ≡ true → a ++ (32 ∷ us) ≡ b ++ (32 ∷ ws) → Cut a b us ws
cut [] [] us ws s t e = record { front = refl; back = (cc) }
cut [] (y ∷ b) us ws s t e = let f : y ≡ 32 = cc in blank y f (and_parts (not (eqb y 32)) (solid b) t).0
cut (x ∷ a) [] us ws s t e = let f : x ≡ 32 = cc in blank x f (and_parts (not (eqb x 32)) (solid a) s).0
cut (x ∷ a) (y ∷ b) us ws s t e =
    let f : x ≡ y = cc in
    let g : a ++ (32 ∷ us) ≡ b ++ (32 ∷ ws) = cc in
    let c = cut a b us ws (and_parts (not (eqb x 32)) (solid a) s).1 (and_parts (not (eqb y 32)) (solid b) t).1 g in
    record { front = ap₂ (λ v vs. v ∷ vs) f c.front; back = c.back }

-- a layer is told by the first two bytes of its word
named : List ℕ → Layer
named w =
    cond (eqb (get_or w 0 0) 99) Certificate (cond (eqb (get_or w 0 0) 116) Term (cond (eqb (get_or w 0 0) 106) Job (cond (eqb (get_or w 0 0) 112) Pool (cond (eqb (get_or w 1 0) 117) Rules Review))))

named_name : (l : Layer) → named (layer_name l) ≡ l
unfolding named
named_name Rules = refl
named_name Certificate = refl
named_name Term = refl
named_name Review = refl
named_name Job = refl
named_name Pool = refl

refusal : ℕ → Layer → ℕ → Refusal
refusal n l p = record { number = n; layer = l; place = p }

pub lines_tell : LinesTell
unfolding refusal
lines_tell a b na nb pa pb e =
    let rest = append_cancel_left (codes "refused ") _ _ e in
    let n64 : a.number < 2 ^ 64 = omega arith in
    let m64 : b.number < 2 ^ 64 = omega arith in
    let one = cut (decimal a.number) (decimal b.number) _ _ (solid_decimal a.number n64) (solid_decimal b.number m64) rest in
    let two = cut (layer_name a.layer) (layer_name b.layer) _ _ (solid_name a.layer) (solid_name b.layer) one.back in
    let number = decimal_injective a.number b.number n64 m64 one.front in
    let place = decimal_injective a.place b.place pa pb two.back in
    let layer : a.layer ≡ b.layer = sym (named_name a.layer) ∙ ap named two.front ∙ named_name b.layer in
    ap (λ n. refusal n a.layer a.place) number ∙ ap (λ l. refusal b.number l a.place) layer ∙ ap (refusal b.number b.layer) place
