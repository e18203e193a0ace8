use Rattle.std.proofs.Common.{◌≡◌, ℕ, ◌≤◌, Bool, leb, List, length, get_or, take, min, ap, ◌∙◌, arith, rules, tests}
use Rattle.std.specs.List.{list_all, zip}
use Rattle.std.proofs.lemmas.Iterator.{YieldsList-from_slice, YieldsList-from_take, YieldsList-from_zip}
use Rattle.std.proofs.lemmas.Iterator.Search.{all_from_yields_List}
use Rattle.std.proofs.lemmas.Slice.Zip.{length-zip, get_or-zip}
use Rattle.interpretations.specs.Numbers.{every}
use Rattle.interpretations.proofs.Tests.{every_same, list_all-take}
use Rattle.parts.proofs.matrix.calls.MatrixPartReckoning.covers.Goals as goal

-- the first pairs of two lists, by their places
pairs : (test : ℕ × ℕ → Bool) (n : ℕ) (xs ys : List ℕ) → n ≤ length xs → n ≤ length ys → list_all test (take n (zip xs ys)) ≡ every n (λ k. test (get_or xs k 0, get_or ys k 0))
pairs test n xs ys h l =
    let all : min n (length (zip xs ys)) ≡ n = omega (arith, length-zip xs ys) in
    list_all-take test (0, 0) n (zip xs ys) ∙ ap (λ m. every m (λ k. test (get_or (zip xs ys) k (0, 0)))) all
    ∙ every_same n _ _ (λ k m. ap test (get_or-zip xs ys k (0, 0) (omega arith) (omega arith)))

pub returns : goal.returns
returns c =
    let test : ℕ × ℕ → Bool = λ p. leb p.1 p.0 in
    let n = c.args.self.now.dimension in
    let narrow = c.args.self.now.narrow in
    all_from_yields_List {s = c.take.result} test c.all.new.self _ c.all.result c.all.ensures.ran
    (YieldsList-from_take n (YieldsList-from_zip (YieldsList-from_slice c.args.left (cc)) (YieldsList-from_slice c.args.right (search rules))) (cc)) (λ x b q k. search (rules, tests))
    ∙ pairs test n c.args.left c.args.right (omega arith) (omega arith)
