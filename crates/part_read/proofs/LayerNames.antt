-- The names of copper layers: there are 32, and the first byte tells most other names.
use Rattle.std.proofs.Common.{◌≡◌, ◌⊎◌, inl, inr, ℕ, ◌==◌, true, false, List, [], ◌∷◌, refl, ◌∙◌, ap, drop, slice_get, Option, Some, None, arith}
use Rattle.std.specs.Prelude.{codes}
use Rattle.std.specs.List.{position_from}
use Rattle.std.proofs.lemmas.Bool.{cases_eq}
use Rattle.std.proofs.lemmas.Bool.Decides.{nat_tests}
use Rattle.sexpr_read.specs.Tree.{Tree, leaf, branch, content, value, unescaped}
use Rattle.list_read.specs.ListHeads.{is_text, is_value}
use Rattle.copper_layers.specs.Layers.{layer_names}
use Rattle.part_read.specs.BoardLayers.{layer_number}

-- the name of the back is the last of the 32
pub back_is : (atom : Tree) → value atom ≡ Some (codes "B.Cu") → layer_number atom ≡ Some 31
unfolding layer_number layer_names
back_is atom e = rw e refl

-- the name of the front is the first
pub front_is : (atom : Tree) → value atom ≡ Some (codes "F.Cu") → layer_number atom ≡ Some 0
unfolding layer_number layer_names
front_is atom e = rw e refl

-- ---- the first byte

-- the content begins with this byte, or with an escape
abbrev pub MayBegin : Option (List ℕ) → ℕ → Type 0
MayBegin content byte = (first : ℕ) × (rest : List ℕ) × (content ≡ Some (first ∷ rest)) × ((first ≡ byte) ⊎ (first ≡ 0x5C))

begins : (b : ℕ) (bs : List ℕ) (byte : ℕ) (rest : List ℕ) → unescaped (b ∷ bs) ≡ byte ∷ rest → MayBegin (Some (b ∷ bs)) byte
unfolding unescaped
begins b [] byte rest e = (b, [], refl, inl (grind (arith, e)))
begins b (d ∷ bs) byte rest e = elim (cases_eq b 0x5C) [
  | inl escape ↦ (b, d ∷ bs, refl, inr escape)
  | inr other ↦
      let no : (b == 0x5C) ≡ false = grind (arith, nat_tests, other) in
      let same : b ∷ unescaped (d ∷ bs) ≡ byte ∷ rest = rw no at e in
      (b, d ∷ bs, refl, inl (grind (arith, same)))
]

pub value_begins : (atom : Tree) (byte : ℕ) (rest : List ℕ) → value atom ≡ Some (byte ∷ rest) → MayBegin (content atom) byte
unfolding unescaped
value_begins (leaf s true []) byte rest e = absurd cc
value_begins (leaf s true (b ∷ bs)) byte rest e = begins b bs byte rest (grind (arith, e))
value_begins (leaf s false []) byte rest e = absurd cc
value_begins (leaf s false (b ∷ bs)) byte rest e = (b, bs, refl, inl (grind (arith, e)))
value_begins (branch s inside) byte rest e = absurd cc

pub never_empty : (atom : Tree) (bytes : List ℕ) (byte : ℕ) (rest : List ℕ) → Some bytes ≡ content atom → None ≡ slice_get bytes 0 → value atom ≡ Some (byte ∷ rest) → ⊥
never_empty atom [] byte rest e none v =
    let m = value_begins atom byte rest v in
    let k : Some [] ≡ Some (m.0 ∷ m.1) = e ∙ m.2 in
    cc
never_empty atom (x ∷ xs) byte rest e none v = cc

pub other_first : (atom : Tree) (bytes : List ℕ) (first byte : ℕ) (rest : List ℕ) → Some bytes ≡ content atom → Some first ≡ slice_get bytes 0 → (first ≡ byte → ⊥)
    → value atom ≡ Some (byte ∷ rest) → (first == 0x5C) ≡ true
other_first atom [] first byte rest e some differs v = cc
other_first atom (x ∷ xs) first byte rest e some differs v = by m.3
  where
    m : MayBegin (content atom) byte
    m = value_begins atom byte rest v

    is : first ≡ m.0
    is = let k : Some (x ∷ xs) ≡ Some (m.0 ∷ m.1) = e ∙ m.2 in grind (arith, k, some)

    by : (m.0 ≡ byte) ⊎ (m.0 ≡ 0x5C) → (first == 0x5C) ≡ true
    by (inl same) = absurd (differs (is ∙ same))
    by (inr escape) = let k : first ≡ 0x5C = is ∙ escape in grind (arith, nat_tests, k)

-- what is not the name of the front or the back, and does not begin as the others do, is none
not_among : (v : Option (List ℕ)) → ((rest : List ℕ) → v ≡ Some (0x49 ∷ rest) → ⊥) → is_value v (codes "F.Cu") ≡ false → is_value v (codes "B.Cu") ≡ false
    → position_from (is_value v) 0 layer_names ≡ None
unfolding layer_names
not_among None other front back = refl
not_among (Some []) other front back = refl
not_among (Some (x ∷ xs)) other front back = elim (cases_eq x 0x49) [
  | inl e ↦ absurd (other xs (ap (λ (y : ℕ). Some (y ∷ xs)) e))
  | inr e ↦ (let no : (x == 0x49) ≡ false = grind (arith, nat_tests, e) in rw (front, back, no) (refl {a = None}))
]

pub no_layer : (atom : Tree) → ((rest : List ℕ) → value atom ≡ Some (0x49 ∷ rest) → ⊥) → is_text atom (codes "F.Cu") ≡ false → is_text atom (codes "B.Cu") ≡ false
    → layer_number atom ≡ None
unfolding layer_number
no_layer atom other front back = not_among (value atom) other front back
