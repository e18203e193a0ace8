-- A left side against a subject, code by code: the substitutions that solve it stay the same.
use Rattle.std.proofs.Common.{◌≡◌, ℕ, ◌+◌, ◌-◌, ◌<◌, ◌≤◌, T, List, ◌∷◌, cond, length, get_or, take, drop, ◌≢◌, Some, None, Option, MatchOption, sym, refl, ap, ◌∙◌, subst, ap₂, inl, inr, arith, length-drop}
use Rattle.std.proofs.lemmas.Bool.{cases_lt, cases_eq, lt-ltb, le-ltb, le-leb}
use Rattle.std.proofs.lemmas.List.{at_drop_all, drop_more, drop-drop, take_at}
use Rattle.rewriting.specs.declared.place.Place.{Place}
use Rattle.terms.specs.declared.code.Code.TheVariants.{Symbol, Variable}
use Rattle.terms.specs.Kinds.{code_kind}
use Rattle.terms.specs.Terms.{Term, Terms, Term.var, Term.app, Terms.none, Terms.more, count, codes, size, under, under_all}
use Rattle.terms.specs.Contexts.{joined}
use Rattle.terms.specs.Codes.{is_term, span, stack, term_of, rest_at, sub_at}
use Rattle.terms.specs.Replies.{span_reply}
use Rattle.terms.proofs.Places.{length_codes}
use Rattle.terms.proofs.Readings.{reads, term_of_codes}
use Rattle.terms.proofs.Scans.{few_symbols}
use Rattle.terms.proofs.Spans.{span-at}
use Rattle.terms.proofs.Views.{short, symbol_at, variable_at, none_past, some_at, counted, count-joined_all, low_at}
use Rattle.terms.proofs.Subterms.{part_at, first_of, lone_of}
use Rattle.rewriting.specs.Bindings.{Bound, Means, Agrees, IsPart, AreParts, Solved}
use Rattle.rewriting.specs.Places.{arities_at}

abbrev pub Meets : (ℕ → Term) → Terms → Terms → Type 0
Meets σ none ts = Unit {0}
Meets σ (more l ls) none = ⊥
Meets σ (more l ls) (more t ts) = (under σ l ≡ t) × Meets σ ls ts

module _ (σ : ℕ → Term) where
  meets_at : {ls ms ts us : Terms} → ls ≡ ms → ts ≡ us → Meets σ ls ts → Meets σ ms us
  meets_at {ls} {ms} {ts} {us} p q m = subst (λ x. Meets σ ms x) q (subst (λ x. Meets σ x ts) p m)

  meets_split : (us vs ls ts : Terms) → count us ≡ count vs → Meets σ (joined us ls) (joined vs ts) → (under_all σ us ≡ vs) × Meets σ ls ts
  meets_split none none ls ts e m = (refl, m)
  meets_split none (more v vs) ls ts e m = absurd (omega arith)
  meets_split (more u us) none ls ts e m = absurd (omega arith)
  meets_split (more u us) (more v vs) ls ts e m = let r = meets_split us vs ls ts (omega arith) m.1 in (ap₂ more m.0 r.0, r.1)

  meets_join : (us ls ts : Terms) → Meets σ ls ts → Meets σ (joined us ls) (joined (under_all σ us) ts)
  meets_join none ls ts m = m
  meets_join (more u us) ls ts m = (refl, meets_join us ls ts m)

symbol_code : (c s : ℕ) → Symbol s ≡ code_kind c → c < 32768
symbol_code c s e = elim (cases_lt c 32768) [
  | inl lt ↦ lt
  | inr le ↦ (let k = e ∙ ap (λ b. cond b (Symbol c) (Variable (c - 32768))) (le-ltb c 32768 le) in cc)
]

variable_code : (c v : ℕ) → Variable v ≡ code_kind c → (32768 ≤ c) × (v ≡ c - 32768)
variable_code c v e = elim (cases_lt c 32768) [
  | inl lt ↦ (let k = e ∙ ap (λ b. cond b (Symbol c) (Variable (c - 32768))) (lt-ltb c 32768 lt) in cc)
  | inr le ↦ (le, let k = e ∙ ap (λ b. cond b (Symbol c) (Variable (c - 32768))) (le-ltb c 32768 le) in cc)
]

-- what is agreed with after a variable is bound
module _ (sig : List ℕ) {before after : ℕ → Option (List ℕ)} {v : ℕ} {part : List ℕ} (b : Bound before v part after) where
  agrees_after : (σ : ℕ → Term) → Agrees sig σ before → σ v ≡ term_of sig part → Agrees sig σ after
  agrees_after σ a x u = elim (cases_eq u v) [
    | inl same ↦ subst (λ w. Means sig (σ w) (after w)) (sym same) (subst (Means sig (σ v)) (sym b.here) x)
    | inr other ↦ subst (Means sig (σ u)) (sym (b.others u other)) (a u)
  ]

  was_meant : (t : Term) → t ≡ term_of sig part → (o : Option (List ℕ)) → MatchOption o (Unit {0}) (λ old. old ≡ part) → Means sig t o
  was_meant t x None h = tt
  was_meant t x (Some old) h = x ∙ ap (term_of sig) (sym h)

  agreed_before : (σ : ℕ → Term) → Agrees sig σ after → Agrees sig σ before × (σ v ≡ term_of sig part)
  agreed_before σ a =
      let here = subst (Means sig (σ v)) b.here (a v) in (
        λ u. elim (cases_eq u v) [
          | inl same ↦ subst (λ w. Means sig (σ w) (before w)) (sym same) (was_meant (σ v) here (before v) b.held)
          | inr other ↦ subst (Means sig (σ u)) (b.others u other) (a u)
        ],
        here,
      )

  parts_after : (cs : List ℕ) → AreParts sig cs before → IsPart sig cs (Some part) → AreParts sig cs after
  parts_after cs a x u = elim (cases_eq u v) [
    | inl same ↦ subst (λ w. IsPart sig cs (after w)) (sym same) (subst (IsPart sig cs) (sym b.here) x)
    | inr other ↦ subst (IsPart sig cs) (sym (b.others u other)) (a u)
  ]

-- how far a match is: i codes of the left side are met, and these are the codes of the subject that are left
pub record Going (sig left cs : List ℕ) (at i : ℕ) (rest : List ℕ) (bs : ℕ → Option (List ℕ)) : Type 0 where
  pub few : length sig ≤ 32
  pub side : T (is_term sig left)
  pub ok : T (is_term sig cs)
  pub place : ℕ
  pub is : rest ≡ drop place cs
  pub enough : count (rest_at sig left i) ≤ count (rest_at sig cs place)
  pub parts : AreParts sig cs bs
  pub to : (σ : ℕ → Term) → under σ (term_of sig left) ≡ sub_at sig cs at → Agrees sig σ bs × Meets σ (rest_at sig left i) (rest_at sig cs place)
  pub from : (σ : ℕ → Term) → Agrees sig σ bs → Meets σ (rest_at sig left i) (rest_at sig cs place) → under σ (term_of sig left) ≡ sub_at sig cs at

pub going_starts : (p : Place) (left : List ℕ) → T (is_term (arities_at p) left) → {rest : List ℕ} {bs : ℕ → Option (List ℕ)} → rest ≡ drop p.at p.codes.now → ((v : ℕ) → bs v ≡ None) → Going (arities_at p) left p.codes.now p.at 0 rest bs
going_starts p left side {rest} {bs} e empty =
    let sig = arities_at p in
    let one : count (stack sig left) ≡ 1 = (reads sig left 1 (counted sig left side)).many in
    let el = lone_of (stack sig left) one in
    let some = some_at sig p.codes.now p.term p.at p.inside in
    let et = first_of (rest_at sig p.codes.now p.at) some in
    record {
      few = few_symbols sig p.signature.now.limited;
      side = side;
      ok = p.term;
      place = p.at;
      is = e;
      enough = omega arith;
      parts = λ v. subst (IsPart sig p.codes.now) (sym (empty v)) tt;
      to = λ σ q. (λ v. subst (Means sig (σ v)) (sym (empty v)) tt, meets_at σ (sym el) (sym et.1) (q, tt));
      from = λ σ a q. (meets_at σ el et.1 q).0;
    }

module _ {sig left cs : List ℕ} {at i : ℕ} {rest : List ℕ} {bs : ℕ → Option (List ℕ)} (g : Going sig left cs at i rest bs) where
  few' : length sig ≤ 32768
  few' = let a = g.few in omega arith

  pub going_done : length left ≤ i → Solved sig left cs at bs
  going_done h =
      let e = at_drop_all (stack sig) left i h in
      record {
        parts = g.parts;
        to = λ σ q. (g.to σ q).0;
        from = λ σ a. g.from σ a (meets_at σ (sym e) refl tt);
      }

  module _ (h : i < length left) where
    here : g.place < length cs
    here = none_past sig cs g.place (let a = g.enough in let b = some_at sig left g.side i h in omega arith)

    -- the subject has a code for each of the left side
    pub going_some : 0 < length rest
    going_some = let a = here in let b = ap length g.is in let d = length-drop g.place cs in omega arith

    cut : rest ≡ get_or cs g.place 0 ∷ drop (g.place + 1) cs
    cut = g.is ∙ drop_more cs g.place 0 here

    pub going_symbol : (s first : ℕ) (others : List ℕ) → Symbol s ≡ code_kind (get_or left i 0) → rest ≡ first ∷ others → first ≡ get_or left i 0 → Going sig left cs at (i + 1) others bs
    going_symbol symbol first others kind split same_code =
        let lt : get_or left i 0 < 32768 = symbol_code _ symbol kind in
        let e : get_or cs g.place 0 ≡ get_or left i 0 = cc (cut) in
        let tail : others ≡ drop (g.place + 1) cs = cc (cut) in
        let s = symbol_at sig left g.side i h lt in
        let t = symbol_at sig cs g.ok g.place here (omega arith) in
        let n1 = s.many in
        let n2 = t.many in
        let n3 = ap (λ x. get_or sig x 0) e in
        let same : count s.args ≡ count t.args = omega arith in
        let a1 = ap count s.here in
        let a2 = ap count t.here in
        let a3 = ap count s.later ∙ count-joined_all s.args s.rest in
        let a4 = ap count t.later ∙ count-joined_all t.args t.rest in
        let a5 = g.enough in
        record {
          few = g.few;
          side = g.side;
          ok = g.ok;
          place = g.place + 1;
          is = tail;
          enough = omega arith;
          parts = g.parts;
          to = λ σ q.
              let p = g.to σ q in
              let m = meets_at σ s.here t.here p.1 in
              let m0 = m.0 in
              let x : under_all σ s.args ≡ t.args = cc in
              (p.0, meets_at σ (sym s.later) (ap (λ us. joined us t.rest) x ∙ sym t.later) (meets_join σ s.args s.rest t.rest m.1));
          from = λ σ a m.
              let q = meets_split σ s.args t.args s.rest t.rest same (meets_at σ s.later t.later m) in
              g.from σ a (meets_at σ (sym s.here) (sym t.here) (ap₂ app (sym e) q.0, q.1));
        }

    pub going_apart : (s first : ℕ) (others : List ℕ) → Symbol s ≡ code_kind (get_or left i 0) → rest ≡ first ∷ others → (first ≡ get_or left i 0 → ⊥) → (σ : ℕ → Term) → under σ (term_of sig left) ≡ sub_at sig cs at → ⊥
    going_apart symbol first others kind split apart σ q =
        let lt : get_or left i 0 < 32768 = symbol_code _ symbol kind in
        let e : first ≡ get_or cs g.place 0 = cc (cut) in
        let s = symbol_at sig left g.side i h lt in
        let p = g.to σ q in
        elim (cases_lt (get_or cs g.place 0) 32768) [
          | inl l ↦ (let t = symbol_at sig cs g.ok g.place here l in
              let m = meets_at σ s.here t.here p.1 in
              let m0 = m.0 in
              apart (cc))
          | inr k ↦ (let t = variable_at sig cs g.place here k in
              let m = meets_at σ s.here t p.1 in
              let m0 = m.0 in
              cc)
        ]

    -- a variable meets a whole subterm
    pub going_low : (w : ℕ) → Variable w ≡ code_kind (get_or left i 0) → w < 8
    going_low w kind = let a = low_at sig left g.side g.few i h in let v = variable_code _ w kind in omega arith

    module _ (n : ℕ) (counts : n ≡ span_reply sig rest 0) where
      going_span : n ≡ size (sub_at sig cs g.place)
      going_span =
          let a = short sig cs g.ok in
          let b = length-drop g.place cs in
          let few_codes : length (drop g.place cs) ≤ 1024 = omega arith in
          counts
          ∙ ap (λ l. span_reply sig l 0) g.is
          ∙ ap (λ b. cond b (span sig 1 (drop g.place cs)) 0) (le-leb (length (drop g.place cs)) 1024 few_codes)
          ∙ span-at sig cs g.ok g.place here

      module _ (w : ℕ) (kind : Variable w ≡ code_kind (get_or left i 0)) {part : List ℕ} (front : part ≡ take n rest) where
        opened : rest_at sig left i ≡ more (var w) (rest_at sig left (i + 1))
        opened = let v = variable_code _ w kind in variable_at sig left i h v.0 ∙ ap (λ x. more (var x) (rest_at sig left (i + 1))) (sym v.1)

        end : ℕ
        end = g.place + size (sub_at sig cs g.place)

        passed : rest_at sig cs g.place ≡ more (sub_at sig cs g.place) (rest_at sig cs end)
        unfolding end
        passed = (part_at sig few' cs g.ok g.place here).here

        part_is : part ≡ codes (sub_at sig cs g.place)
        part_is =
            front
            ∙ ap₂ take going_span g.is
            ∙ ap (take (size (sub_at sig cs g.place))) (part_at sig few' cs g.ok g.place here).split
            ∙ take_at (codes (sub_at sig cs g.place)) _ (size (sub_at sig cs g.place)) (length_codes (sub_at sig cs g.place))

        part_means : sub_at sig cs g.place ≡ term_of sig part
        part_means = sym (term_of_codes sig few' (sub_at sig cs g.place) (part_at sig few' cs g.ok g.place here).fine) ∙ ap (term_of sig) (sym part_is)

        pub going_binds : {others : List ℕ} {after : ℕ → Option (List ℕ)} → others ≡ drop n rest → Bound bs w part after → Going sig left cs at (i + 1) others after
        unfolding end
        going_binds {others} {after} back b = record {
          few = g.few;
          side = g.side;
          ok = g.ok;
          place = end;
          is = back ∙ ap₂ drop going_span g.is ∙ drop-drop (size (sub_at sig cs g.place)) g.place cs;
          enough = let a = ap count opened in let b = ap count passed in let c = g.enough in omega arith;
          parts = parts_after sig b cs g.parts (g.place, here, part_is);
          to = λ σ q. (let p = g.to σ q in let x = meets_at σ opened passed p.1 in (agrees_after sig b σ p.0 (x.0 ∙ part_means), x.1));
          from = λ σ a x. (let p = agreed_before sig b σ a in g.from σ p.0 (meets_at σ (sym opened) (sym passed) (p.1 ∙ sym part_means, x)));
        }

        same_part : (o : Option (List ℕ)) → IsPart sig cs o → Means sig (sub_at sig cs g.place) o → MatchOption o ⊥ (λ old. old ≢ part) → ⊥
        same_part None a x clashes = clashes
        same_part (Some old) a x clashes =
            let t = sub_at sig cs a.0 in
            let old_means : term_of sig old ≡ t = ap (term_of sig) a.2 ∙ term_of_codes sig few' t (part_at sig few' cs g.ok a.0 a.1).fine in
            clashes (a.2 ∙ ap codes (sym old_means ∙ sym x) ∙ sym part_is)

        pub going_clashes : MatchOption (bs w) ⊥ (λ old. old ≢ part) → (σ : ℕ → Term) → under σ (term_of sig left) ≡ sub_at sig cs at → ⊥
        going_clashes clashes σ q =
            let p = g.to σ q in
            let x = meets_at σ opened passed p.1 in
            same_part (bs w) (g.parts w) (subst (λ t. Means sig t (bs w)) x.0 (p.0 w)) clashes
