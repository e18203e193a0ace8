-- What holds between a vocabulary and the uses whose last token is to come.
use Rattle.std.specs.Prelude.{◌≡◌, ℕ, ◌<◌, ◌≤◌, List, [], ◌∷◌, length}
use Rattle.std.specs.Coded.{Unit-prop}
use Rattle.std.proofs.Props.{props}
use Rattle.vocabulary.specs.Vocabularies.{Vocabulary}
use Rattle.reading.specs.declared.state.Use.{Use}

-- the pending uses are of symbols that there are, with at most 4 arguments
abbrev pub Known : ℕ → List Use → Type 0
Known n [] = Unit {0}
Known n (u ∷ us) = (u.symbol < n) × (u.begun ≤ 4) × Known n us

pub record Fit (v : Vocabulary) (us : List Use) : Type 0 where
  pub even : length v.arities ≡ length v.symbols
  pub known : Known (length v.symbols) us

-- each is so in one way
Known-prop : (n : ℕ) (us : List Use) → IsProp (Known n us)
Known-prop n [] = Unit-prop
Known-prop n (u ∷ us) = let k = Known-prop n us in hlevel (props, k)

pub Fit-prop : (v : Vocabulary) (us : List Use) → IsProp (Fit v us)
Fit-prop v us = let known = Known-prop (length v.symbols) us in hlevel (props, known)
