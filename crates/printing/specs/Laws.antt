-- What printing means, in the words of terms: what is printed is the text of the term, and it is read back.
use Rattle.std.specs.Prelude.{◌≡◌, ℕ, ◌<◌, ◌≤◌, Bool, true, false, T, List, [], length, take, drop, Ok, Err, Result, ◌≢◌}
use Rattle.refusals.specs.Lines.{line}
use Rattle.tokens.specs.Tokens.{tokens}
use Rattle.terms.specs.Limits.{most_term}
use Rattle.terms.specs.Terms.{Term, codes}
use Rattle.vocabulary.specs.Vocabularies.{Vocabulary}
use Rattle.vocabulary.specs.Naming.{Naming}
use Rattle.reading.specs.Spelling.{over, words}
use Rattle.reading.specs.Documents.{document, Phase.ended, start_term}
use Rattle.reading.specs.Outcomes.{Outcome.accepted, outcome, spell}
use Rattle.printing.specs.declared.fault.PrintFault.{PrintFault}
use Rattle.printing.specs.declared.fault.PrintFault.TheVariants.{NoTerm, TooShort}
use Rattle.printing.specs.Texts.{spelled}
use Rattle.printing.specs.Replies.{print_refusal, is_printable, displayed}

-- codes are those of a term over the names, within the limit
pub record Coded (v : Vocabulary) (cs : List ℕ) : Type 0 where
  pub term : Term
  pub named : T (over v term)
  pub coded : codes term ≡ cs
  pub short : length cs ≤ most_term

-- the term's text stands in front, of the length that is told, the rest is as before, and read as a start term the text
-- gives the same codes
pub record Printed (v : Vocabulary) (cs before : List ℕ) (n : ℕ) (after : List ℕ) : Type 0 where
  pub of : Coded v cs
  pub told : n ≡ length (spelled v of.term)
  pub front : take n after ≡ spelled v of.term
  pub rest : drop n after ≡ drop n before
  pub tokens_back : spell (tokens (spelled v of.term)) ≡ words v of.term
  pub reads_back : outcome (start_term v) (spelled v of.term) ≡ accepted (document v [] (ended cs))

-- no term over the names within the limit has these codes, and nothing is written
pub record Termless (v : Vocabulary) (cs before after : List ℕ) : Type 0 where
  pub none : (t : Term) → T (over v t) → length (codes t) ≤ most_term → codes t ≢ cs
  pub same : after ≡ before

-- the term's text is longer than the memory, and nothing is written
pub record Cramped (v : Vocabulary) (cs before after : List ℕ) : Type 0 where
  pub of : Coded v cs
  pub long : length before < length (spelled v of.term)
  pub same : after ≡ before

abbrev pub PrintedExactly : Vocabulary → List ℕ → List ℕ → Result ℕ PrintFault → List ℕ → Type 0
PrintedExactly v cs before (Ok n) after = Printed v cs before n after
PrintedExactly v cs before (Err NoTerm) after = Termless v cs before after
PrintedExactly v cs before (Err TooShort) after = Cramped v cs before after

-- memory of so many bytes is never too short
abbrev pub Suffices : ℕ → List ℕ → Result ℕ PrintFault → Type 0
Suffices most before (Ok n) = Unit {0}
Suffices most before (Err NoTerm) = Unit {0}
Suffices most before (Err TooShort) = length before < most

-- what is shown is the term's text, and read as a start term it gives the same codes
pub record Readable (v : Vocabulary) (cs shown : List ℕ) : Type 0 where
  pub of : Coded v cs
  pub is : shown ≡ spelled v of.term
  pub tokens_back : spell (tokens (spelled v of.term)) ≡ words v of.term
  pub reads_back : outcome (start_term v) shown ≡ accepted (document v [] (ended cs))

-- no term over the names within the limit has these codes, and the line of that refusal is shown
pub record Unreadable (v : Vocabulary) (cs shown : List ℕ) : Type 0 where
  pub none : (t : Term) → T (over v t) → length (codes t) ≤ most_term → codes t ≢ cs
  pub is : shown ≡ line (print_refusal NoTerm)

abbrev pub ShownBy : Bool → Vocabulary → List ℕ → List ℕ → Type 0
ShownBy true v cs shown = Readable v cs shown
ShownBy false v cs shown = Unreadable v cs shown

-- what a term with its names is displayed as means
abbrev pub DisplayedExactly : Naming → List ℕ → Type 0
DisplayedExactly n cs = ShownBy (is_printable n cs) n.vocabulary cs (displayed n cs)
