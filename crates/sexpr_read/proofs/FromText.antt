-- What the text spells is what its cells say.
use Rattle.std.proofs.Common.{◌≡◌, sym, ◌∙◌, ℕ, suc, ◌+◌, ◌≤◌, ◌<◌, true, false, List, [], ◌∷◌, ◌++◌, length, refl, ap, arith}
use Rattle.sexpr_read.specs.declared.arena.TreeKind.TheVariants.{Word, String, List as Nested}
use Rattle.sexpr_read.specs.declared.arena.Cell.{Cell}
use Rattle.sexpr_read.specs.declared.bytes.ByteClass.{ByteClass}
use Rattle.sexpr_read.specs.declared.bytes.ByteClass.TheVariants.{Space, Open, Close, Quote, Backslash, Plain}
use Rattle.sexpr_read.specs.ByteClasses.{sign_of, is_word}
use Rattle.sexpr_read.specs.TreeKinds.{kind_of}
use Rattle.sexpr_read.specs.Tree.{Forest, none, atom, list}
use Rattle.sexpr_read.specs.Spelling.{IsWord, IsString, SpellsForest}
use Rattle.sexpr_read.specs.ForestCells.{cells_of, forest_of, kind_at, ArePlaced}
use Rattle.sexpr_read.proofs.CellLemmas.{IsOfText, forest_of-cells_of}
use Rattle.sexpr_read.proofs.Unique.{IsHead, word_head, word_first, string_ordered, forest_ordered}

word_kind : (c : ByteClass) → is_word c ≡ true → kind_of c ≡ Word
word_kind Plain e = refl
word_kind Backslash e = refl
word_kind Space e = cc
word_kind Open e = cc
word_kind Close e = cc
word_kind Quote e = cc

are_placed-append : (text : List ℕ) (xs ys : List Cell) → ArePlaced text xs → ArePlaced text ys → ArePlaced text (xs ++ ys)
are_placed-append text [] ys h k = k
are_placed-append text (c ∷ xs) ys h k = (h.0, h.1, are_placed-append text xs ys h.2 k)

-- `sign` is what stands in the text, but where it has space
module _ (text : List ℕ) (sign : ℕ → ByteClass) (same : (p : ℕ) → (sign p ≡ Space → ⊥) → sign_of text p ≡ sign p) where
  kind_from : (p : ℕ) (c : ByteClass) → IsHead c → sign p ≡ c → kind_at text p ≡ kind_of c
  kind_from p c head e = ap kind_of (same p (λ s. head.no_space (sym e ∙ s)) ∙ e)

  word_at : (a b : ℕ) → IsWord sign a b → kind_at text a ≡ Word
  word_at a b w =
      let e = word_first sign text a b w in kind_from a (sign a) (word_head (sign a) e) refl ∙ word_kind (sign a) e

  string_at : (a b : ℕ) → IsString sign a b → kind_at text a ≡ String
  string_at a b s = kind_from a Quote (record { no_space = λ h. cc; no_close = λ h. cc }) s.opens

  list_at : (a : ℕ) → sign a ≡ Open → kind_at text a ≡ Nested
  list_at a e = kind_from a Open (record { no_space = λ h. cc; no_close = λ h. cc }) e

  pub of_text-spelled : (f : Forest) (a b : ℕ) → SpellsForest sign text a b f → IsOfText text f
  of_text-spelled none a b h = tt
  of_text-spelled (atom s false x others) a b h = (word_at s.at s.end h.1.0, h.1.1, of_text-spelled others s.end b h.2)
  of_text-spelled (atom s true x others) a b h = (string_at s.at s.end h.1.0, h.1.1, of_text-spelled others s.end b h.2)
  of_text-spelled (list s inside others) a b h =
      (list_at s.at h.1, of_text-spelled inside (suc s.at) h.2.0 h.2.2, of_text-spelled others s.end b h.3)

  pub are_placed-spelled : (f : Forest) (a b : ℕ) → b ≤ length text → SpellsForest sign text a b f → ArePlaced text (cells_of f)
  are_placed-spelled none a b w h = tt
  are_placed-spelled (atom s false x others) a b w h =
      let last : s.end ≤ b = forest_ordered sign text others s.end b h.2 in
      let kind : kind_at text s.at ≡ Word = word_at s.at s.end h.1.0 in
      (h.1.0.ordered, record { wide = rw kind (omega (arith, h.1.0.ordered)); within = omega arith }, are_placed-spelled others s.end b w h.2)
  are_placed-spelled (atom s true x others) a b w h =
      let last : s.end ≤ b = forest_ordered sign text others s.end b h.2 in
      let kind : kind_at text s.at ≡ String = string_at s.at s.end h.1.0 in
      let two : s.at + 2 ≤ s.end = string_ordered sign text s.at s.end h.1.0 in
      (omega arith, record { wide = rw kind two; within = omega arith }, are_placed-spelled others s.end b w h.2)
  are_placed-spelled (list s inside others) a b w h =
      let last : s.end ≤ b = forest_ordered sign text others s.end b h.3 in
      let inner : suc s.at ≤ h.2.0 = forest_ordered sign text inside (suc s.at) h.2.0 h.2.2 in
      let kind : kind_at text s.at ≡ Nested = list_at s.at h.1 in
      let fore : s.at < s.end = omega (arith, h.2.1) in (
        fore,
        record { wide = rw kind (omega arith); within = omega arith },
        are_placed-append text (cells_of inside) (cells_of others)
            (are_placed-spelled inside (suc s.at) h.2.0 (omega (arith, h.2.1)) h.2.2) (are_placed-spelled others s.end b w h.3),
      )

  pub forest_of-spelled : (f : Forest) (a b : ℕ) → SpellsForest sign text a b f → forest_of text (cells_of f) ≡ f
  forest_of-spelled f a b h = forest_of-cells_of text f (of_text-spelled f a b h)
