-- The line that a refusal is printed as.
use Rattle.std.specs.Prelude.{◌≡◌, ℕ, ◌^◌, ◌<◌, List, ◌++◌, codes, decimal}
use Rattle.refusals.specs.declared.Layer.{Layer}
use Rattle.refusals.specs.declared.Layer.TheVariants.{Rules, Certificate, Term, Review, Job, Pool}
use Rattle.refusals.specs.declared.Refusal.{Refusal}

-- the word for a layer
abbrev pub layer_name : Layer → List ℕ
layer_name Rules = codes "rules"
layer_name Certificate = codes "certificate"
layer_name Term = codes "term"
layer_name Review = codes "review"
layer_name Job = codes "job"
layer_name Pool = codes "pool"

-- the number, the layer and the place, separated by single blanks
abbrev pub line : Refusal → List ℕ
line r = codes "refused " ++ (decimal r.number ++ (codes " " ++ (layer_name r.layer ++ (codes " " ++ decimal r.place))))

-- two refusals that are printed alike are one, where number and place are those of the machine
abbrev pub LinesTell : Type 0
LinesTell = (a b : Refusal) → a.number < 2 ^ 16 → b.number < 2 ^ 16 → a.place < 2 ^ 64 → b.place < 2 ^ 64 → line a ≡ line b → a ≡ b
