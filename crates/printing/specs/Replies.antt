-- What the calls answer, and what they write.
use Rattle.std.specs.Prelude.{ℕ, Bool, cond, ◌&&◌, List, [], ◌++◌, length, drop, is_ok, Some, None, Ok, Err, Option, Result, nat_le}
use Rattle.refusals.specs.declared.Refusal.{Refusal}
use Rattle.refusals.specs.declared.Layer.TheVariants.{Term}
use Rattle.refusals.specs.Lines.{line}
use Rattle.tokens.specs.Tokens.{Word}
use Rattle.terms.specs.Codes.{is_term}
use Rattle.vocabulary.specs.Naming.{Naming}
use Rattle.printing.specs.declared.fault.PrintFault.{PrintFault}
use Rattle.printing.specs.declared.fault.PrintFault.TheVariants.{NoTerm, TooShort}
use Rattle.printing.specs.Texts.{text}
use Rattle.printing.specs.Showing.{shown, all_named}

-- each fault's number, layer and place
abbrev pub print_refusal : PrintFault → Refusal
print_refusal NoTerm = record { number = 36; layer = Term; place = 0 }
print_refusal TooShort = record { number = 23; layer = Term; place = 0 }

-- whether codes are a term over the signature whose variables are declared
abbrev pub is_printable : Naming → List ℕ → Bool
is_printable n cs = is_term n.signature cs && all_named n.vocabulary cs

-- the words of what is printable
abbrev pub words_reply : Naming → List ℕ → Option (List Word)
words_reply n cs = cond (is_printable n cs) (Some (shown n [] cs)) None

-- the text of codes
abbrev pub text_of : Naming → List ℕ → List ℕ
text_of n cs = text (shown n [] cs)

abbrev pub fits : Naming → List ℕ → List ℕ → Bool
fits n cs out = nat_le (length (text_of n cs)) (length out)

-- no term is refused first, then too little memory; else the text's length is answered
abbrev pub print_reply : Naming → List ℕ → List ℕ → Result ℕ PrintFault
print_reply n cs out = cond (is_printable n cs) (cond (fits n cs out) (Ok (length (text_of n cs))) (Err TooShort)) (Err NoTerm)

-- the memory afterwards: the text in front of what was there, or what was there
abbrev pub printed_memory : Naming → List ℕ → List ℕ → List ℕ
printed_memory n cs out = cond (is_ok (print_reply n cs out)) (text_of n cs ++ drop (length (text_of n cs)) out) out

-- what a term with its names is displayed as
abbrev pub displayed : Naming → List ℕ → List ℕ
displayed n cs = cond (is_printable n cs) (text_of n cs) (line (print_refusal NoTerm))
