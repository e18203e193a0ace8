-- What is asked, with terms as they are written.
use Rattle.std.specs.Prelude.{ℕ, Option, option_copied}
use Rattle.commands.specs.declared.command.Opening.{Opening}
use Rattle.commands.specs.declared.command.Command.{Command}
use Rattle.commands.specs.declared.command.Command.TheVariants as command
use Rattle.commands.specs.Words.{Word}

pub data Request : Type 0 where
  measure : Option Word → Request
  compare : ℕ → Request
  ceiling : ℕ → Request
  pool : ℕ → ℕ → Request
  reserve : ℕ → Request
  settle : ℕ → Request
  free : Request
  opening : Opening → ℕ → Option Word → Request
  step : ℕ → ℕ → ℕ → Request
  sweep : ℕ → ℕ → Request
  look : Request
  copy : ℕ → Request
  term : Request
  help : Request

-- what a command asks
abbrev pub asked : Command → Request
asked (command.Measure t) = Request.measure (option_copied t)
asked (command.Compare i) = Request.compare i
asked (command.Ceiling n) = Request.ceiling n
asked (command.Pool size number) = Request.pool size number
asked (command.Reserve amount) = Request.reserve amount
asked (command.Settle number) = Request.settle number
asked command.Free = Request.free
asked (command.Open kind number t) = Request.opening kind number (option_copied t)
asked (command.Step number rule place) = Request.step number rule place
asked (command.Sweep number n) = Request.sweep number n
asked command.Look = Request.look
asked (command.Copy n) = Request.copy n
asked command.Term = Request.term
asked command.Help = Request.help
