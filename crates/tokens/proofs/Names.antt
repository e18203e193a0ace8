-- What makes bytes a name.
use Rattle.std.proofs.Common.{◌≡◌, ℕ, ◌<◌, ◌≤◌, true, T, List, length, sym, refl, ap, ◌∙◌, subst, arith}
use Rattle.std.proofs.lemmas.Bool.{and_from, lt-ltb, le-leb}
use Rattle.bounded.specs.Items.{items}
use Rattle.bounded.proofs.Lengths.{items_few}
use Rattle.bounded.specs.declared.array_vec.ArrayVec.{ArrayVec}
use Rattle.std.specs.Str.{bytes_eq}
use Rattle.tokens.specs.declared.name.Name.{Name}
use Rattle.tokens.specs.contracts.name.NamePartialEq.TheImpl as names
use Rattle.tokens.specs.Names.{name_bytes}
use Rattle.tokens.specs.Bytes.{all_letters, is_name}

pub names_all : {n : ℕ} (v : ArrayVec ℕ n) (bs : List ℕ) → n ≤ 16 → items v ≡ bs → 0 < length bs → all_letters bs ≡ true → T (is_name (items v))
names_all v bs most e some pure =
    let few = items_few v in
    let same = ap length e in
    subst (λ b. T b) (sym (and_from _ _ (lt-ltb 0 _ (omega arith)) (and_from _ _ (ap all_letters e ∙ pure) (le-leb _ 16 (omega arith))))) tt

-- `==` of names is that of their bytes
pub same_bytes : (a b : Name) → (names.ghosts).eq a b ≡ bytes_eq (name_bytes a) (name_bytes b)
same_bytes a b = refl
