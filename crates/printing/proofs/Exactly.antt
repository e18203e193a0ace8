-- The law of printing: what is answered and written is what the trees say.
use Rattle.std.proofs.Common.{◌≡◌, ℕ, ◌<◌, ◌≤◌, Bool, true, false, cond, leb, T, Some, None, List, [], ◌++◌, length, drop, sym, refl, ap, ◌∙◌, subst, subst₂, arith}
use Rattle.std.proofs.lemmas.List.{take_at, drop_at}
use Rattle.std.proofs.lemmas.Bool.{leb-false}
use Rattle.tokens.specs.Tokens.{Word}
use Rattle.terms.specs.Terms.{Term, codes}
use Rattle.terms.specs.Codes.{is_term, term_of}
use Rattle.terms.proofs.Booleans.{both, fst_of, snd_of, held, never}
use Rattle.terms.proofs.Readings.{counted_over, counted_codes}
use Rattle.terms.proofs.Places.{length_codes}
use Rattle.terms.proofs.Views.{counted, short}
use Rattle.terms.proofs.Exactly.{is_term_of}
use Rattle.vocabulary.specs.Vocabularies.{Vocabulary}
use Rattle.vocabulary.specs.declared.names.Names.{Names}
use Rattle.vocabulary.specs.Naming.{Naming, naming_of}
use Rattle.reading.specs.Spelling.{over}
use Rattle.reading.specs.Documents.{document, Phase.ended, start_term}
use Rattle.reading.specs.Outcomes.{Outcome.accepted, outcome}
use Rattle.reading.proofs.Texts.{term_text_exactly}
use Rattle.printing.specs.Texts.{text, spelled}
use Rattle.printing.specs.Showing.{all_named}
use Rattle.refusals.specs.Lines.{line}
use Rattle.printing.specs.declared.fault.PrintFault.TheVariants.{NoTerm}
use Rattle.printing.specs.Replies.{print_refusal, is_printable, words_reply, text_of}
use Rattle.printing.specs.Laws.{Coded, Printed, Termless, Cramped, Readable, ShownBy, DisplayedExactly}
use Rattle.reading.proofs.Complete.{as_many, settled, over_signature}
use Rattle.printing.proofs.Sound.{Sound, sound, over_names, codes_named}
use Rattle.printing.proofs.Shows.{shows_term}
use Rattle.printing.proofs.Neat.{words_back}
use Rattle.printing.proofs.Longest.{few}

module _ (n : Naming) (s : Sound n) where
  abbrev v : Vocabulary
  v = n.vocabulary

  abbrev sig : List ℕ
  sig = n.signature

  -- what is printable is the codes of a term over the names
  coded_of : (cs : List ℕ) → T (is_printable n cs) → Coded v cs
  coded_of cs ok =
      let is = fst_of (is_term sig cs) _ ok in
      let e = counted_codes sig cs (counted sig cs is) in
      record {
        term = term_of sig cs;
        named = over_names n s.complete (term_of sig cs) (counted_over sig cs (counted sig cs is)) (subst (λ l. T (all_named v l)) (sym e) (snd_of (is_term sig cs) _ ok));
        coded = e;
        short = short sig cs is;
      }

  printable_of : (t : Term) (cs : List ℕ) → T (over v t) → length (codes t) ≤ 1024 → codes t ≡ cs → T (is_printable n cs)
  printable_of t cs g h e =
      let few : length sig ≤ 32 = let a = as_many n s.complete in let b = s.complete.few_symbols in omega arith in
      let size = length_codes t in
      both _ _ (is_term_of sig few t cs (over_signature n s.complete t g) (omega arith) e) (subst (λ l. T (all_named v l)) e (codes_named n s.complete t g))

  text-spelled : (cs : List ℕ) (x : Coded v cs) → text_of n cs ≡ spelled v x.term
  text-spelled cs x = ap (text_of n) (sym x.coded) ∙ ap text (shows_term n s.complete x.term x.named)

  read_back : (cs : List ℕ) (x : Coded v cs) → outcome (start_term v) (spelled v x.term) ≡ accepted (document v [] (ended cs))
  read_back cs x =
      (term_text_exactly v s.complete.consistent (settled n s.complete) s.complete.few_symbols (spelled v x.term)).complete cs
      record { term = x.term; named = x.named; spelled = words_back n s x.term x.named; coded = x.coded; short = x.short; fine = tt }

  printed : (cs out : List ℕ) → Coded v cs → Printed v cs out (length (text_of n cs)) (text_of n cs ++ drop (length (text_of n cs)) out)
  printed cs out x =
      let bytes = text_of n cs in
      let e = text-spelled cs x in
      record {
        of = x;
        told = ap length e;
        front = take_at bytes (drop (length bytes) out) (length bytes) refl ∙ e;
        rest = drop_at bytes (drop (length bytes) out) (length bytes) refl;
        tokens_back = words_back n s x.term x.named;
        reads_back = read_back cs x;
      }

  readable : (cs : List ℕ) → Coded v cs → Readable v cs (text_of n cs)
  readable cs x =
      let e = text-spelled cs x in
      record { of = x; is = e; tokens_back = words_back n s x.term x.named; reads_back = ap (outcome (start_term v)) e ∙ read_back cs x }

  shown_by : (cs : List ℕ) (b : Bool) → is_printable n cs ≡ b → ShownBy b v cs (cond b (text_of n cs) (line (print_refusal NoTerm)))
  shown_by cs true e = readable cs (coded_of cs (held _ e))
  shown_by cs false e = record { none = λ t g h c. never _ (printable_of t cs g h c) e; is = refl }

pub displayed_exactly : (x : Names) (cs : List ℕ) → DisplayedExactly (naming_of x) cs
displayed_exactly x cs = shown_by (naming_of x) (sound x) cs (is_printable (naming_of x) cs) refl

-- at each end of the call, under the names of the code
module _ (x : Names) (cs out : List ℕ) where
  abbrev names : Vocabulary
  names = (naming_of x).vocabulary

  unworded : (b : Bool) (ws : List Word) → None ≡ cond b (Some ws) None → b ≡ false
  unworded false ws e = refl
  unworded true ws e = cc

  pub no_term : None ≡ words_reply (naming_of x) cs → Termless names cs out out
  no_term e = record { none = λ t g h c. never _ (printable_of (naming_of x) (sound x) t cs g h c) (unworded _ _ e); same = refl }

  coded : true ≡ is_printable (naming_of x) cs → Coded names cs
  coded e = coded_of (naming_of x) (sound x) cs (held _ (sym e))

  pub too_short : true ≡ is_printable (naming_of x) cs → false ≡ leb (length (text_of (naming_of x) cs)) (length out) → Cramped names cs out out
  too_short e f =
      record { of = coded e; long = subst (λ (l : List ℕ). length out < length l) (text-spelled (naming_of x) (sound x) cs (coded e)) (leb-false _ _ (sym f)); same = refl }

  pub scarce : true ≡ is_printable (naming_of x) cs → false ≡ leb (length (text_of (naming_of x) cs)) (length out) → length out < 18432
  scarce e f =
      let c = coded e in
      let short = leb-false _ _ (sym f) in
      let same = ap length (text-spelled (naming_of x) (sound x) cs c) in
      let most = few (naming_of x) (sound x) c.term c.named in
      let counted = ap length c.coded in
      let limit = c.short in
      omega arith

  pub written : true ≡ is_printable (naming_of x) cs → (k : ℕ) (after : List ℕ) → k ≡ length (text_of (naming_of x) cs) → after ≡ text_of (naming_of x) cs ++ drop k out → Printed names cs out k after
  written e k after len is =
      let there = is ∙ ap (λ j. text_of (naming_of x) cs ++ drop j out) len in
      subst₂ (Printed names cs out) (sym len) (sym there) (printed (naming_of x) (sound x) cs out (coded e))
