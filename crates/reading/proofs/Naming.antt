-- Names where a term begins.
use Rattle.std.proofs.Common.{◌≡◌, ℕ, ◌<◌, Bool, true, false, cond, ltb, leb, List, length, Some, None, Ok, Err, Option, Result, sym, refl, ◌∙◌, subst, ap₂, arith}
use Rattle.std.proofs.lemmas.Bool.{cond-true, cond-false, lt-ltb, ltb-true, leb-false}
use Rattle.terms.specs.declared.code.Code.TheVariants.{Symbol}
use Rattle.terms.specs.Kinds.{code_kind}
use Rattle.vocabulary.specs.declared.flaw.Flaw.{Flaw}
use Rattle.vocabulary.specs.declared.flaw.Flaw.TheVariants.{TooMany}
use Rattle.vocabulary.specs.Vocabularies.{Vocabulary, code_of, with_symbol}
use Rattle.vocabulary.specs.Replies.{number_by, number_reply, numbered_by, numbered}
use Rattle.reading.specs.Sides.{State, Reply.stop, use_symbol, use_new, use_code}
use Rattle.reading.proofs.Sounds.{new_code, symbol_of}
use Rattle.reading.specs.declared.role.Role as kept
use Rattle.reading.specs.declared.role.Role.TheVariants as roles
use Rattle.reading.specs.Models.{role_of, numbered_reply, Numbers, Stands}

-- on a side, a new name becomes the next symbol
adds : (role : kept.Role) → (role ≡ roles.Start → ⊥) → (v : Vocabulary) (s : State) (b : Bool) (n : List ℕ)
    → use_new (role_of role) v s b n ≡ cond (leb 32 (length v.symbols)) (stop TooMany) (use_symbol (role_of role) (with_symbol v n) s b (length v.symbols))
adds roles.Left side v s b n = refl
adds (roles.Right ls) side v s b n = refl
adds roles.Start side v s b n = absurd (side refl)

module _ (role : kept.Role) (side : role ≡ roles.Start → ⊥) (v : Vocabulary) (s : State) (n : List ℕ) where
  full_by : (b t : Bool) → leb 32 (length v.symbols) ≡ t
      → numbered_reply (role_of role) (cond t v (with_symbol v n)) s b (cond t (Err TooMany) (Ok (length v.symbols))) ≡ cond t (stop TooMany) (use_symbol (role_of role) (with_symbol v n) s b (length v.symbols))
  full_by b true e = refl
  full_by b false e = let lt = leb-false 32 (length v.symbols) e in cond-true _ _ _ (lt-ltb (length v.symbols) 32768 (omega arith))

  numbers_by : (b : Bool) (o : Option ℕ) → numbered_reply (role_of role) (numbered_by v n o) s b (number_by v o) ≡ use_code (role_of role) v s b n o
  numbers_by b (Some c) = refl
  numbers_by b None = full_by b (leb 32 (length v.symbols)) refl ∙ sym (adds role side v s b n)

  pub side_numbers : (r : Result ℕ Flaw) (w : Vocabulary) → r ≡ number_reply v n → w ≡ numbered v n → Numbers (role_of role) v s n r w
  side_numbers r w e h b = ap₂ (λ x y. numbered_reply (role_of role) x s b y) h e ∙ numbers_by b (code_of v n)

module _ (v : Vocabulary) (n : List ℕ) where
  stands_full : (t : Bool) → code_of v n ≡ None → Stands (cond t v (with_symbol v n)) n (cond t (Err TooMany) (Ok (length v.symbols)))
  stands_full true e = tt
  stands_full false e = new_code v n e

  stands_by : (o : Option ℕ) → code_of v n ≡ o → Stands (numbered_by v n o) n (number_by v o)
  stands_by (Some c) e = e
  stands_by None e = stands_full (leb 32 (length v.symbols)) e

  pub number_stands : (r : Result ℕ Flaw) (w : Vocabulary) → r ≡ number_reply v n → w ≡ numbered v n → Stands w n r
  number_stands r w e h = subst (λ x. Stands x n r) (sym h) (subst (Stands (numbered v n) n) (sym e) (stands_by (code_of v n) refl))

-- a name whose code is a symbol's is the name of one that there is
pub symbol_inside : (w : Vocabulary) (n : List ℕ) (c k : ℕ) → code_of w n ≡ Some c → Symbol k ≡ code_kind c → k < length w.symbols
symbol_inside w n c k e q = by (ltb c 32768) refl
  where
    by : (t : Bool) → ltb c 32768 ≡ t → k < length w.symbols
    by true t =
        let inside = (symbol_of w n c e (ltb-true c 32768 t)).inside in
        let same : k ≡ c = cc (q ∙ cond-true _ _ _ t) in
        omega arith
    by false t = cc (q ∙ cond-false _ _ _ t)
