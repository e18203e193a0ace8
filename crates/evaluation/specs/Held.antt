-- What a stack holds, the newest entry first, and how many entries more it has memory for.
use Rattle.std.specs.Prelude.{ℕ, List, drop}
use Rattle.evaluation.specs.declared.stack.Stack.{Stack}

-- the entries
abbrev pub held : {T : Type 0} → Stack T → List T
held s = drop s.at s.slots.now

-- for how many more there is memory
abbrev pub room : {T : Type 0} → Stack T → ℕ
room s = s.at
