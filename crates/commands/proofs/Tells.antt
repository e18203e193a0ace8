-- What is read from words is what they spell.
use Rattle.std.proofs.Common.{◌≡◌, ℕ, List, [], ◌∷◌, length, Some, None, Option, option_map, refl, sym, lit<, subst, nat_lt}
use Rattle.std.specs.List.{AllByRecursion}
use Rattle.std.proofs.lemmas.Option.{cond_some}
use borrow.Author.Tests.{ltb-true}
use Rattle.commands.specs.declared.command.Opening.{Opening}
use Rattle.commands.specs.declared.command.Opening.TheVariants.{Full, Short}
use Rattle.commands.specs.declared.verb.Verb.{Verb}
use Rattle.commands.specs.declared.verb.Verb.TheVariants.{Measure, Compare, Ceiling, Pool, Reserve, Settle, Free, Open, Step, Sweep, Look, Copy, Term, Help}
use Rattle.commands.specs.Words.{Word, first, passed}
use Rattle.commands.specs.Numerals.{Numeral, numeral}
use Rattle.commands.specs.Verbs.{verb_word, verb_of, opening_word, opening_of}
use Rattle.commands.specs.Requests.{Request, Request.opening}
use Rattle.commands.specs.Table.{term_of, then, done, number, kind, last_term, behind}
use Rattle.commands.specs.Laws.{Spells, Spells.measure_start, Spells.measure_term, Spells.compare_at, Spells.ceiling_of, Spells.pool_of, Spells.reserve_of, Spells.settle_of, Spells.free_all, Spells.open_full, Spells.open_full_term, Spells.open_short, Spells.open_short_term, Spells.step_at, Spells.sweep_for, Spells.look_on, Spells.copy_to, Spells.term_now, Spells.help_us}
use Rattle.commands.proofs.Lines.{NotEmpty}
use Rattle.commands.proofs.Numbers.{told}
use Rattle.commands.proofs.Verbs.{verb_told, opening_told}

read_word : {A : Type 0} (P : List Word → Type 0) (read : Word → Option A) (more : A → List Word → Option Request) (w : Word) (vs : List Word) (r : Request) (o : Option A)
    → read w ≡ o → then (passed o vs) more ≡ Some r
    → ((w : Word) (vs : List Word) (a : A) → read w ≡ Some a → more a vs ≡ Some r → P (w ∷ vs)) → P (w ∷ vs)
read_word P read more w vs r None h e k = cc
read_word P read more w vs r (Some a) h e k = k w vs a h e

-- a first word is read, and what is behind it
read_on : {A : Type 0} (P : List Word → Type 0) (read : Word → Option A) (more : A → List Word → Option Request) (ws : List Word) (r : Request)
    → then (first read ws) more ≡ Some r
    → ((w : Word) (vs : List Word) (a : A) → read w ≡ Some a → more a vs ≡ Some r → P (w ∷ vs)) → P ws
read_on P read more [] r e k = cc
read_on P read more (w ∷ vs) r e k = read_word P read more w vs r (read w) refl e k

-- the words ws spell r behind those in front, and none of them is empty
pub record Behind (front : List Word → List Word) (ws : List Word) (r : Request) : Type 0 where
  pub spells : Spells r (front ws)
  pub full : AllByRecursion NotEmpty ws

at_end : (front : List Word → List Word) (q : Request) (ws : List Word) (r : Request) → done q ws ≡ Some r
    → Spells q (front []) → Behind front ws r
at_end front q [] r e s = let same : q ≡ r = cc in record { spells = subst (λ r. Spells r (front [])) same s; full = tt }
at_end front q (w ∷ ws) r e s = cc

at_number : (front : List Word → List Word) (width : ℕ) (more : ℕ → List Word → Option Request) (ws : List Word) (r : Request)
    → number width more ws ≡ Some r
    → ((w : Word) (n : ℕ) (vs : List Word) → Numeral width w n → more n vs ≡ Some r → Behind (λ vs. front (w ∷ vs)) vs r)
    → Behind front ws r
at_number front width more ws r e k =
    read_on (λ ws. Behind front ws r) (numeral width) more ws r e
    (λ w vs n h f. let s : Numeral width w n = told width w n h in let b = k w n vs s f in record { spells = b.spells; full = (s.some, b.full) })

opening_full : (o : Opening) → NotEmpty (opening_word o)
opening_full Full = lit< tt
opening_full Short = lit< tt

open_none : (o : Opening) (w : Word) (n : ℕ) → Numeral 32 w n
    → Spells (opening o n None) (verb_word Open ∷ opening_word o ∷ w ∷ [])
open_none Full w n h = open_full h
open_none Short w n h = open_short h

open_some : (o : Opening) (w : Word) (n : ℕ) → Numeral 32 w n → (t : Word)
    → Spells (opening o n (Some t)) (verb_word Open ∷ opening_word o ∷ w ∷ t ∷ [])
open_some Full w n h t = open_full_term h
open_some Short w n h t = open_short_term h

at_kind : (front : List Word → List Word) (more : Opening → List Word → Option Request) (ws : List Word) (r : Request)
    → kind more ws ≡ Some r
    → ((o : Opening) (vs : List Word) → more o vs ≡ Some r → Behind (λ vs. front (opening_word o ∷ vs)) vs r)
    → Behind front ws r
at_kind front more ws r e k =
    read_on (λ ws. Behind front ws r) opening_of more ws r e
    (λ w vs o h f. let b = k o vs f in let is : opening_word o ≡ w = opening_told w o h in
    record { spells = subst (λ w. Spells r (front (w ∷ vs))) is b.spells; full = (subst NotEmpty is (opening_full o), b.full) })

some_term : (w t : Word) → term_of w ≡ Some t → (t ≡ w) × NotEmpty w
some_term w t e = let h = cond_some (nat_lt 0 (length w)) w t e in (sym h.1, ltb-true 0 (length w) h.0)

term_word : (front : List Word → List Word) (asks : Option Word → Request) (w : Word) (ws : List Word) (r : Request) (o : Option Word)
    → term_of w ≡ o → then (passed (option_map Some o) ws) (λ t ws. done (asks t) ws) ≡ Some r
    → ((t : Word) → Spells (asks (Some t)) (front (t ∷ []))) → Behind front (w ∷ ws) r
term_word front asks w ws r None is e some = cc
term_word front asks w ws r (Some t) is e some =
    let h = some_term w t is in
    let b = at_end (λ ws. front (w ∷ ws)) (asks (Some t)) ws r e (subst (λ w. Spells (asks (Some t)) (front (w ∷ []))) h.0 (some t)) in
    record { spells = b.spells; full = (h.1, b.full) }

at_term : (front : List Word → List Word) (asks : Option Word → Request) (ws : List Word) (r : Request)
    → last_term asks ws ≡ Some r → Spells (asks None) (front [])
    → ((t : Word) → Spells (asks (Some t)) (front (t ∷ []))) → Behind front ws r
at_term front asks [] r e none some = at_end front (asks None) [] r e none
at_term front asks (w ∷ ws) r e none some = term_word front asks w ws r (term_of w) refl e some

-- the words behind a verb
spelled : (v : Verb) (ws : List Word) (r : Request) → behind v ws ≡ Some r → Behind (λ ws. verb_word v ∷ ws) ws r
spelled Measure ws r e = at_term _ _ ws r e measure_start (λ t. measure_term)
spelled Compare ws r e = at_number _ 64 _ ws r e (λ w n vs h f. at_end _ _ vs r f (compare_at h))
spelled Ceiling ws r e = at_number _ 64 _ ws r e (λ w n vs h f. at_end _ _ vs r f (ceiling_of h))
spelled Pool ws r e = at_number _ 64 _ ws r e (λ w n vs h f. at_number _ 32 _ vs r f (λ v m us g d. at_end _ _ us r d (pool_of h g)))
spelled Reserve ws r e = at_number _ 64 _ ws r e (λ w n vs h f. at_end _ _ vs r f (reserve_of h))
spelled Settle ws r e = at_number _ 32 _ ws r e (λ w n vs h f. at_end _ _ vs r f (settle_of h))
spelled Free ws r e = at_end _ _ ws r e free_all
spelled Open ws r e = at_kind _ _ ws r e (λ o vs f. at_number _ 32 _ vs r f (λ w n us h g. at_term _ _ us r g (open_none o w n h) (open_some o w n h)))
spelled Step ws r e = at_number _ 32 _ ws r e (λ w n vs h f. at_number _ 64 _ vs r f (λ v m us g d. at_number _ 64 _ us r d (λ u l ts i b. at_end _ _ ts r b (step_at h g i))))
spelled Sweep ws r e = at_number _ 32 _ ws r e (λ w n vs h f. at_number _ 64 _ vs r f (λ v m us g d. at_end _ _ us r d (sweep_for h g)))
spelled Look ws r e = at_end _ _ ws r e look_on
spelled Copy ws r e = at_number _ 64 _ ws r e (λ w n vs h f. at_end _ _ vs r f (copy_to h))
spelled Term ws r e = at_end _ _ ws r e term_now
spelled Help ws r e = at_end _ _ ws r e help_us

verb_full : (v : Verb) → NotEmpty (verb_word v)
verb_full Measure = lit< tt
verb_full Compare = lit< tt
verb_full Ceiling = lit< tt
verb_full Pool = lit< tt
verb_full Reserve = lit< tt
verb_full Settle = lit< tt
verb_full Free = lit< tt
verb_full Open = lit< tt
verb_full Step = lit< tt
verb_full Sweep = lit< tt
verb_full Look = lit< tt
verb_full Copy = lit< tt
verb_full Term = lit< tt
verb_full Help = lit< tt

-- words of which a request is read spell it, and none of them is empty
pub spelled_all : (ws : List Word) (r : Request) → then (first verb_of ws) behind ≡ Some r → Behind (λ ws. ws) ws r
spelled_all ws r e =
    read_on (λ ws. Behind (λ ws. ws) ws r) verb_of behind ws r e
    (λ w vs v h f. let b = spelled v vs r f in let is : verb_word v ≡ w = verb_told w v h in
    record { spells = subst (λ w. Spells r (w ∷ vs)) is b.spells; full = (subst NotEmpty is (verb_full v), b.full) })
