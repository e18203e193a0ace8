-- How codes are printed.
use Rattle.std.specs.Prelude.{ℕ, List, ◌++◌, codes, decimal}
use Rattle.std.specs.List.{flat_map}

-- each as a decimal number behind a blank
abbrev pub codes_text : List ℕ → List ℕ
codes_text cs = flat_map (λ c. codes " " ++ decimal c) cs
