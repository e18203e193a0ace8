-- The command that a line is.
use Rattle.std.specs.Prelude.{ℕ, nat_lt, cond, List, [], ◌∷◌, length, Some, None, Option, option_map}
use Rattle.commands.specs.declared.verb.Verb.{Verb}
use Rattle.commands.specs.declared.verb.Verb.TheVariants as verb
use Rattle.commands.specs.declared.command.Opening.{Opening}
use Rattle.commands.specs.Words.{Word, parts, passed, first}
use Rattle.commands.specs.Numerals.{numeral}
use Rattle.commands.specs.Verbs.{verb_of, opening_of}
use Rattle.commands.specs.Requests.{Request, Request.measure, Request.compare, Request.ceiling, Request.pool, Request.reserve, Request.settle, Request.free, Request.opening, Request.step, Request.sweep, Request.look, Request.copy, Request.term, Request.help}

-- a term is any word; an empty part is no word
abbrev pub term_of : Word → Option Word
term_of w = cond (nat_lt 0 (length w)) (Some w) None

-- a term, or none where no word is left
abbrev pub optional_term : List Word → Option (Option Word × List Word)
optional_term [] = Some (None, [])
optional_term (w ∷ ws) = passed (option_map Some (term_of w)) ws

-- what is read is followed by more
abbrev pub then : {A B : Type 0} → Option (A × List Word) → (A → List Word → Option B) → Option B
then None more = None
then (Some p) more = more p.0 p.1

-- no further word
abbrev pub done : Request → List Word → Option Request
done r [] = Some r
done r (_ ∷ _) = None

abbrev pub number : ℕ → (ℕ → List Word → Option Request) → List Word → Option Request
number width more ws = then (first (numeral width) ws) more

abbrev pub kind : (Opening → List Word → Option Request) → List Word → Option Request
kind more ws = then (first opening_of ws) more

-- a term may follow, and ends the line
abbrev pub last_term : (Option Word → Request) → List Word → Option Request
last_term asks ws = then (optional_term ws) (λ t ws. done (asks t) ws)

-- what stands behind a verb
abbrev pub behind : Verb → List Word → Option Request
behind verb.Measure = last_term measure
behind verb.Compare = number 64 (λ i. done (compare i))
behind verb.Ceiling = number 64 (λ n. done (ceiling n))
behind verb.Pool = number 64 (λ size. number 32 (λ first. done (pool size first)))
behind verb.Reserve = number 64 (λ amount. done (reserve amount))
behind verb.Settle = number 32 (λ grant. done (settle grant))
behind verb.Free = done free
behind verb.Open = kind (λ o. number 32 (λ grant. last_term (opening o grant)))
behind verb.Step = number 32 (λ grant. number 64 (λ rule. number 64 (λ place. done (step grant rule place))))
behind verb.Sweep = number 32 (λ grant. number 64 (λ n. done (sweep grant n)))
behind verb.Look = done look
behind verb.Copy = number 64 (λ n. done (copy n))
behind verb.Term = done term
behind verb.Help = done help

abbrev pub command_of : List ℕ → Option Request
command_of line = then (first verb_of (parts line)) behind
