-- What a subject holds: its system and the codes of its term.
use Rattle.std.specs.Prelude.{ℕ, cond, List, Ok, Err, Result}
use Rattle.bounded.specs.Items.{items}
use Rattle.terms.specs.declared.malformed.Malformed.{Malformed}
use Rattle.terms.specs.declared.malformed.Malformed.TheVariants as malformed
use Rattle.terms.specs.declared.system.System as held
use Rattle.terms.specs.Terms.{Term}
use Rattle.terms.specs.Rules.{Rule}
use Rattle.terms.specs.Codes.{is_term, term_of}
use Rattle.terms.specs.Systems.{signature_of, rules_of}
use Rattle.rewriting.specs.declared.subject.Subject.{Subject}

abbrev pub arities_in : Subject → List ℕ
arities_in s = signature_of s.system

abbrev pub rules_in : Subject → List Rule
rules_in s = rules_of s.system

abbrev pub codes_in : Subject → List ℕ
codes_in s = items s.term

abbrev pub term_in : Subject → Term
term_in s = term_of (arities_in s) (codes_in s)

-- a system with the codes of a term over its signature
pub record Opened : Type 0 where
  pub system : held.System
  pub codes : List ℕ

abbrev pub opened : Subject → Opened
opened s = record { system = s.system; codes = codes_in s }

abbrev pub subject_reply : held.System → List ℕ → Result Opened Malformed
subject_reply system cs = cond (is_term (signature_of system) cs) (Ok record { system = system; codes = cs }) (Err malformed.Term)
