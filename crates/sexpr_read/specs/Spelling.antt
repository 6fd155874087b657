-- Which trees a text spells, by cases on its bytes. The rules are those of the S-expressions of KiCad's files.
use Rattle.std.specs.Prelude.{ℕ, suc, ◌≡◌, ◌+◌, ◌-◌, ◌<◌, ◌≤◌, Bool, true, false, List, length, slice_range, IsUtf8}
use Rattle.sexpr_read.specs.declared.place.Span.{Span}
use Rattle.sexpr_read.specs.declared.bytes.ByteClass.{ByteClass}
use Rattle.sexpr_read.specs.declared.bytes.ByteClass.TheVariants.{Space, Open, Close, Quote, Backslash}
use Rattle.sexpr_read.specs.ByteClasses.{sign_of, is_word, is_itself}
use Rattle.sexpr_read.specs.Comments.{shown}
use Rattle.sexpr_read.specs.Tree.{Forest, none, atom, list, Tree, leaf, branch}

-- there is only space from one place to another
pub record IsSpaceBetween (sign : ℕ → ByteClass) (from to : ℕ) : Type 0 where
  pub ordered : from ≤ to
  pub blank : (i : ℕ) → from ≤ i → i < to → sign i ≡ Space

-- a word: a longest run of bytes other than space, brackets and quotes
pub record IsWord (sign : ℕ → ByteClass) (from to : ℕ) : Type 0 where
  pub ordered : from < to
  pub each : (i : ℕ) → from ≤ i → i < to → is_word (sign i) ≡ true
  pub longest : is_word (sign to) ≡ false

-- what may stand between two quotes: bytes that stand for themselves, and a backslash with any byte after it
pub data IsContent (sign : ℕ → ByteClass) : ℕ → ℕ → Type 0 where
  empty : {to : ℕ} → IsContent sign to to
  itself : {from to : ℕ} → is_itself (sign from) ≡ true → IsContent sign (suc from) to → IsContent sign from to
  escape : {from to : ℕ} → sign from ≡ Backslash → IsContent sign (suc (suc from)) to → IsContent sign from to

-- a string: a quote, its content, and the quote that ends it
pub record IsString (sign : ℕ → ByteClass) (from to : ℕ) : Type 0 where
  pub opens : sign from ≡ Quote
  pub close : ℕ
  pub ends : to ≡ suc close
  pub inside : IsContent sign (suc from) close
  pub closes : sign close ≡ Quote

-- an atom, and the part of the text that is its content
abbrev pub IsAtom : (ℕ → ByteClass) → List ℕ → Span → Bool → List ℕ → Type 0
IsAtom sign text s false bytes = IsWord sign s.at s.end × (bytes ≡ slice_range text s.at s.end)
IsAtom sign text s true bytes = IsString sign s.at s.end × (bytes ≡ slice_range text (s.at + 1) (s.end - 1))

-- the part of a text from one place to another spells these trees, with space before, between and after them
abbrev pub SpellsForest : (ℕ → ByteClass) → List ℕ → ℕ → ℕ → Forest → Type 0
SpellsForest sign text from to none = IsSpaceBetween sign from to
SpellsForest sign text from to (atom s q bytes others) =
    IsSpaceBetween sign from s.at × IsAtom sign text s q bytes × SpellsForest sign text s.end to others
SpellsForest sign text from to (list s inside others) =
    IsSpaceBetween sign from s.at × (sign s.at ≡ Open)
    × ((close : ℕ) × (s.end ≡ suc close) × SpellsForest sign text (suc s.at) close inside × (sign close ≡ Close))
    × SpellsForest sign text s.end to others

-- the text is one list, with only space around it
unfoldable pub Spells : List ℕ → Tree → Type 0
Spells text (leaf s q bytes) = ⊥
Spells text (branch s inside) = IsUtf8 text × SpellsForest (sign_of text) text 0 (length text) (list s inside none)

-- the text is any number of forms, with space and comment lines around them; the tree is the list of them all
unfoldable pub SpellsAll : List ℕ → Tree → Type 0
SpellsAll text (leaf s q bytes) = ⊥
SpellsAll text (branch s inside) =
    IsUtf8 text × (s ≡ record { at = 0; end = length text }) × SpellsForest (shown text) text 0 (length text) inside
