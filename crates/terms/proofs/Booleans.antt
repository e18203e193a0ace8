-- Tests that hold: conjunctions and disjunctions taken apart and put together.
use Rattle.std.proofs.Common.{◌≡◌, ℕ, Bool, true, false, cond, ◌&&◌, ◌||◌, T, ◌⊎◌, Ok, Err, sym, refl, subst, inl, inr, arith}

pub both : (a b : Bool) → T a → T b → T (a && b)
both true b x y = y
both false b x y = x

pub fst_of : (a b : Bool) → T (a && b) → T a
fst_of true b h = tt
fst_of false b h = h

pub snd_of : (a b : Bool) → T (a && b) → T b
snd_of true b h = h
snd_of false b h = absurd h

pub one_of : (a b : Bool) → T (a || b) → T a ⊎ T b
one_of true b h = inl tt
one_of false b h = inr h

pub or_l : (a b : Bool) → T a → T (a || b)
or_l true b h = tt
or_l false b h = absurd h

pub or_r : (a b : Bool) → T b → T (a || b)
or_r true b h = tt
or_r false b h = h

pub holds : (b : Bool) → T b → b ≡ true
holds true h = refl
holds false h = absurd h

pub held : (b : Bool) → b ≡ true → T b
held b e = subst (λ x. T x) (sym e) tt

pub clash : {X : Type 0} → ◌≡◌ {A = ℕ} 0 1 → X
clash e = let z : ⊥ = omega arith in absurd z

pub never : (b : Bool) → T b → b ≡ false → ⊥
never true h e = clash (cc)
never false h e = h

pub cond_on : {A : Type 0} (b : Bool) (x y : A) → T b → cond b x y ≡ x
cond_on true x y h = refl
cond_on false x y h = absurd h

-- what an answer that goes by a test tells
pub told_ok : {X E : Type 0} (b : Bool) (x y : X) (e : E) → Ok y ≡ cond b (Ok x) (Err e) → y ≡ x
told_ok true x y e h = cc
told_ok false x y e h = clash (cc)

pub told_err : {X E : Type 0} (b : Bool) (x : X) (e f : E) → T b → Err f ≡ cond b (Ok x) (Err e) → ⊥
told_err true x e f t h = clash (cc)
told_err false x e f t h = absurd t
