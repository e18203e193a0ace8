-- What rule texts and start terms are read as.
use Rattle.std.specs.Prelude.{◌≡◌, ℕ, T, List, [], Some, Ok, Err, Result}
use Rattle.terms.specs.Codes.{is_term}
use Rattle.terms.specs.Models.{Sides, all_rules}
use Rattle.terms.specs.Systems.{system_of}
use Rattle.vocabulary.specs.Vocabularies.{Vocabulary, fixed_arities}
use Rattle.vocabulary.specs.Naming.{naming_of}
use Rattle.reading.specs.Documents.{Document, Phase, Phase.bracket, Phase.keyword, Phase.variable, Phase.rule, Phase.arrow_behind, Phase.inside, Phase.closed, Phase.ended, rule_text, start_term}
use Rattle.reading.specs.Outcomes.{Outcome, Outcome.accepted, Outcome.refused, outcome}
use Rattle.reading.specs.Exactly.{RefusalStands}
use Rattle.texts.specs.declared.fault.Source.TheVariants as sources
use Rattle.texts.specs.declared.fault.TextFault.{TextFault}
use Rattle.texts.specs.declared.named_system.NamedSystem.{NamedSystem}

-- every arity is fixed, and the rules are rules over the signature so made
pub record Assembles (d : Document) : Type 0 where
  pub signature : List ℕ
  pub fixed : fixed_arities d.names.arities ≡ Some signature
  pub over : T (all_rules signature d.rules)

-- a system by its names and the codes of its rules
pub record Said : Type 0 where
  pub names : Vocabulary
  pub rules : List Sides

abbrev pub said_of : NamedSystem → Said
said_of s = record { names = (naming_of s.names).vocabulary; rules = (system_of s.system).rules }

abbrev pub rules_by : Outcome → Result Said TextFault
rules_by (accepted d) = Ok record { names = d.names; rules = d.rules }
rules_by (refused f at) = Err record { source = sources.Rules; flaw = f; at = at }

-- what a rule text says
abbrev pub rules_reply : List ℕ → Result Said TextFault
rules_reply bytes = rules_by (outcome rule_text bytes)

-- the codes of a start term that was read
abbrev pub codes_in : Phase → List ℕ
codes_in (bracket k) = []
codes_in (keyword k) = []
codes_in variable = []
codes_in rule = []
codes_in (arrow_behind l) = []
codes_in (inside p s) = []
codes_in closed = []
codes_in (ended cs) = cs

abbrev pub term_by : Outcome → Result (List ℕ) TextFault
term_by (accepted d) = Ok (codes_in d.phase)
term_by (refused f at) = Err record { source = sources.Term; flaw = f; at = at }

-- what a start term says
abbrev pub term_reply : Vocabulary → List ℕ → Result (List ℕ) TextFault
term_reply v bytes = term_by (outcome (start_term v) bytes)

-- a refusal has its place, and is certain
abbrev pub Stands : {X : Type 0} → Document → List ℕ → Result X TextFault → Type 0
Stands d bytes (Ok x) = Unit {0}
Stands d bytes (Err e) = RefusalStands d bytes e.flaw e.at

-- what is read is a term over the signature
abbrev pub TermCodes : List ℕ → Result (List ℕ) TextFault → Type 0
TermCodes sig (Ok cs) = T (is_term sig cs)
TermCodes sig (Err e) = Unit {0}
