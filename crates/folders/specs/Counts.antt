-- The line that tells how many rules, symbols and parts there are.
use Rattle.std.specs.Prelude.{ℕ, List, ◌++◌, length, codes, decimal}
use Rattle.jobs.specs.Reads.{Read}

abbrev pub counts_text : Read → List ℕ
counts_text r = codes "rules " ++ (decimal (length r.system.rules) ++ (codes " symbols " ++ (decimal (length r.system.arities) ++ (codes " parts " ++ decimal (length r.parts)))))
