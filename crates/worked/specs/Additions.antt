-- Addition, by the codes of its rules.
use Rattle.std.specs.Prelude.{[], ◌∷◌}
use Rattle.terms.specs.Systems.{System}
use Rattle.worked.specs.Cases.{addition as arities}

-- add(z, b) -> b and add(s(a), b) -> s(add(a, b))
abbrev pub addition : System
addition = record {
  arities = arities;
  rules =
      record { left = 0 ∷ 1 ∷ 32769 ∷ []; right = 32769 ∷ [] }
      ∷ record { left = 0 ∷ 2 ∷ 32768 ∷ 32769 ∷ []; right = 2 ∷ 0 ∷ 32768 ∷ 32769 ∷ [] }
      ∷ [];
}
