-- A monotone part is a lawful algebra.
use Rattle.std.proofs.Common.{◌≡◌, ℕ, suc, ◌+◌, ◌*◌, ◌<◌, ◌≤◌, ◌&&◌, T, eqb, ltb, leb, length, get_or, Option, sym, refl, ap, subst, ap₂, subst₂, mul-le-mul_right, mul-le-mul_left, mul-add, arith, eqb→eq, ltb→lt, leb→le}
use Rattle.terms.specs.Terms.{Term, Terms, Term.var, Term.app, Terms.none, Terms.more, count, over, over_all, under, under_all}
use Rattle.terms.specs.Contexts.{Context, Context.hole, Context.inside, plug, joined}
use Rattle.terms.specs.Rules.{Rule, rule_over}
use Rattle.terms.proofs.Booleans.{fst_of, snd_of}
use Rattle.terms.proofs.Overs.{over_mid}
use Rattle.algebras.specs.Meanings.{Lawful, reach}
use Rattle.evaluation.proofs.Throughout.{throughout_top}
use Rattle.interpretations.specs.Parts.{Part, Assignment, value, products, zeros, height}
use Rattle.interpretations.specs.Orders.{weak, strict, value_near, part_means}
use Rattle.interpretations.specs.Laws.{Monotone, Ceiled}
use Rattle.interpretations.proofs.Totals.{total_mono, total_same, total_lift}
use Rattle.interpretations.proofs.Tests.{every-at, same_list_eq}
use Rattle.interpretations.proofs.Exact.{weak_exactly, strict_exactly}

scaled : (w k x y : ℕ) → 0 < w → k + x ≤ y → k + w * x ≤ w * y
scaled w k x y p h =
    let a = mul-le-mul_left w h in
    let b = mul-add w k x in
    let c : 1 * k ≤ w * k = mul-le-mul_right k p in
    omega arith

module _ (P : Part) where
  -- the value of an instance is that of the term, under the values of what is put in
  mutual
    value_under : (t : Term) (σ : ℕ → Term) (α : Assignment) (i : ℕ) → value P α (under σ t) i ≡ value P (λ v. value P α (σ v)) t i
    value_under (var v) σ α i = refl
    value_under (app f ts) σ α i = ap (λ x. P.constant f i + x) (products_under f 0 ts σ α i)

    products_under : (f k : ℕ) (ts : Terms) (σ : ℕ → Term) (α : Assignment) (i : ℕ) → products P α f k (under_all σ ts) i ≡ products P (λ v. value P α (σ v)) f k ts i
    products_under f k none σ α i = refl
    products_under f k (more t ts) σ α i =
        ap₂ (λ x y. x + y) (total_same P.dim _ _ (λ j l. ap (λ x. P.entry f k i j * x) (value_under t σ α j))) (products_under f (suc k) ts σ α i)

  -- no entry smaller, and the first greater by k
  abbrev pub Above : ℕ → (ℕ → ℕ) → (ℕ → ℕ) → Type 0
  Above k x y = ((i : ℕ) → i < P.dim → x i ≤ y i) × (k + x 0 ≤ y 0)

  module _ (ok : Monotone P) where
    products_above : (f a k : ℕ) (before : Terms) (x y : Term) (after : Terms)
        → ((m : ℕ) → m < a + count (joined before (more x after)) → 0 < P.entry f m 0 0) → Above k (value P zeros x) (value P zeros y)
        → Above k (products P zeros f a (joined before (more x after))) (products P zeros f a (joined before (more y after)))
    products_above f a k none x y after tops h = (
      λ i l.
          let m = total_mono P.dim (λ j. P.entry f a i j * value P zeros x j) (λ j. P.entry f a i j * value P zeros y j) (λ j o. mul-le-mul_left (P.entry f a i j) (h.0 j o)) in
          omega arith,
      let m =
          total_lift P.dim k (λ j. P.entry f a 0 j * value P zeros x j) (λ j. P.entry f a 0 j * value P zeros y j) ok.some
          (λ j o. mul-le-mul_left (P.entry f a 0 j) (h.0 j o)) (scaled (P.entry f a 0 0) k (value P zeros x 0) (value P zeros y 0) (tops a (omega arith)) h.1) in
          omega arith,
    )
    products_above f a k (more t before) x y after tops h =
        let rest = products_above f (suc a) k before x y after (λ m l. tops m (omega arith)) h in
        (λ i l. let m = rest.0 i l in omega arith, let m = rest.1 in omega arith)

    -- a context keeps the margin of the first entry
    plug_above : (c : Context) (k : ℕ) (x y : Term) → T (over P.sig (plug c x)) → Above k (value P zeros x) (value P zeros y) → Above k (value P zeros (plug c x)) (value P zeros (plug c y))
    plug_above hole k x y o h = h
    plug_above (inside f before c after) k x y o h =
        let row = joined before (more (plug c x) after) in
        let head = ltb f (length P.sig) && eqb (count row) (get_or P.sig f 0) in
        let known = ltb→lt f (length P.sig) (fst_of (ltb f (length P.sig)) _ (fst_of head (over_all P.sig row) o)) in
        let arity = eqb→eq (count row) (get_or P.sig f 0) (snd_of (ltb f (length P.sig)) _ (fst_of head (over_all P.sig row) o)) in
        let inner = plug_above c k x y (over_mid P.sig before (plug c x) after (snd_of head (over_all P.sig row) o)) h in
        let m = products_above f 0 k before (plug c x) (plug c y) after (λ m l. ok.tops f m known (omega arith)) inner in
        (λ i l. let e = m.0 i l in omega arith, let e = m.1 in omega arith)

    module _ (r : Rule) (rule : T (rule_over P.sig r)) (c : Context) (σ : ℕ → Term) (o : T (over P.sig (plug c (under σ r.right)))) where
      instances : T (weak P r) → (i : ℕ) → i < P.dim → value P zeros (under σ r.right) i ≤ value P zeros (under σ r.left) i
      instances w i l =
          subst₂ (λ x y. x ≤ y) (sym (value_under r.right σ zeros i)) (sym (value_under r.left σ zeros i)) ((weak_exactly P r rule).0 w (λ v. value P zeros (σ v)) i l)

      keeps : T (weak P r) → height P (plug c (under σ r.right)) ≤ height P (plug c (under σ r.left))
      keeps w =
          let h = instances w in
          let first = h 0 ok.some in
          let m = plug_above c 0 (under σ r.right) (under σ r.left) o (h, omega arith) in
          let e = m.1 in
          omega arith

      lowers : T (strict P r) → height P (plug c (under σ r.right)) < height P (plug c (under σ r.left))
      lowers s =
          let first = ((strict_exactly P ok.some r rule).0 s).1 (λ v. value P zeros (σ v)) in
          let a = value_under r.right σ zeros 0 in
          let b = value_under r.left σ zeros 0 in
          let m = plug_above c 1 (under σ r.right) (under σ r.left) o (instances (fst_of (weak P r) _ s), omega arith) in
          let e = m.1 in
          omega arith

    pub part_lawful : (ceiling : ℕ → Option ℕ) → Ceiled P ceiling → Lawful (part_means P ceiling)
    part_lawful ceiling c = record {
      reached = λ sig f t o g. leb→le (height P t) reach (every-at P.dim (λ i. leb (value P zeros t i) reach) (throughout_top (value_near P) t g) 0 ok.some);
      strict_weak = λ sig f r o s. fst_of (weak P r) _ s;
      keeps = λ sig f r o w x σ a b. let e = same_list_eq sig P.sig f in keeps r (subst (λ s. T (rule_over s r)) e o) x σ (subst (λ s. T (over s (plug x (under σ r.right)))) e b) w;
      lowers = λ sig f r o w x σ a b. let e = same_list_eq sig P.sig f in lowers r (subst (λ s. T (rule_over s r)) e o) x σ (subst (λ s. T (over s (plug x (under σ r.right)))) e b) w;
      ceiled = λ sig f t o. c t (subst (λ s. T (over s t)) (same_list_eq sig P.sig f) o);
    }
