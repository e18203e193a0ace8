-- What the readers answer is what the text comes to.
use Rattle.std.proofs.Common.{◌≡◌, ℕ, T, List, Ok, sym, ap, ◌∙◌, subst, arith}
use Rattle.bounded.specs.Items.{items}
use Rattle.terms.specs.Codes.{is_term}
use Rattle.vocabulary.specs.declared.names.Names.{Names}
use Rattle.vocabulary.specs.Vocabularies.{Vocabulary}
use Rattle.vocabulary.specs.Naming.{Naming, naming_of}
use Rattle.vocabulary.proofs.Fixing.{told_somes}
use Rattle.reading.specs.Documents.{Document, Phase.ended, rule_text, start_term}
use Rattle.reading.specs.Outcomes.{Outcome.accepted, outcome}
use Rattle.reading.specs.Exactly.{TermTextExactly}
use Rattle.reading.proofs.Complete.{Complete, complete_names, settled_fixed, settled, spelled_term, spelled_rules}
use Rattle.reading.proofs.Texts.{text_exactly, term_text_exactly}
use Rattle.reading.specs.declared.side.Side.{Side}
use Rattle.texts.specs.declared.parts.Phase as held
use Rattle.texts.specs.declared.parts.Phase.TheVariants as phases
use Rattle.texts.specs.Parts.{phase_of}
use Rattle.texts.specs.Systems.{Assembles, codes_in, term_by, term_reply}

-- a text that was accepted can be put together
pub assembles : (bytes : List ℕ) (d : Document) → accepted d ≡ outcome rule_text bytes → Assembles d
assembles bytes d e =
    let x = text_exactly bytes in
    let t = (x.sound d (sym e)).1 in
    let s = x.settled d (sym e) in
    let f = settled_fixed d.names.arities (λ f l. s f (let h = t.names.even in omega arith)) in
    let n : Naming = record { vocabulary = d.names; signature = f.0 } in
    let c : Complete n = record { consistent = t.names; fixed = told_somes _ _ f.1; few_symbols = t.few_symbols; few_variables = t.few_variables } in
    record { signature = f.0; fixed = f.1; over = spelled_rules n c t.rules }

ended_codes : (p : held.Phase) (s : Side) (cs : List ℕ) → phase_of p s ≡ ended cs → items s.codes ≡ cs
ended_codes (phases.Bracket k) s cs e = cc
ended_codes (phases.Keyword k) s cs e = cc
ended_codes phases.Variable s cs e = cc
ended_codes phases.Rule s cs e = cc
ended_codes (phases.Arrow l) s cs e = cc
ended_codes (phases.Inside p) s cs e = cc
ended_codes phases.Closed s cs e = cc
ended_codes phases.Ended s cs e = cc

module _ (x : Names) (bytes : List ℕ) where
  abbrev v : Vocabulary
  v = (naming_of x).vocabulary

  pub term_law : TermTextExactly v bytes
  term_law = let c = complete_names x in term_text_exactly v c.consistent (settled (naming_of x) c) c.few_symbols bytes

  pub record TermRead (cs : List ℕ) : Type 0 where
    pub value : Ok cs ≡ term_reply v bytes
    pub over : T (is_term (naming_of x).signature cs)

  pub term_read : (d : Document) (p : held.Phase) (s : Side) → d.phase ≡ phase_of p s → accepted d ≡ outcome (start_term v) bytes → TermRead (items s.codes)
  term_read d p s q e =
      let (cs, is, sp) = term_law.sound d (sym e) in
      let there = ended_codes p s cs (sym q ∙ ap (λ (y : Document). y.phase) is) in
      record {
        value = ap Ok there ∙ ap (λ (y : Document). Ok (codes_in y.phase)) (sym is) ∙ ap term_by e;
        over = subst (λ l. T (is_term (naming_of x).signature l)) (sym there) (spelled_term (naming_of x) (complete_names x) sp);
      }
