-- That the strings and names of cells stand for text.
use Rattle.std.specs.Prelude.{ℕ, List, [], ◌∷◌, IsUtf8, ⊤}
use Rattle.std.specs.Coded.{Unit-prop}
use Rattle.std.proofs.Props.{props}
use Rattle.json_exact.specs.JsonCells.{characters_of}
use Rattle.json_exact.specs.declared.cells.Kind.{Kind}
use Rattle.json_exact.specs.declared.cells.Kind.TheVariants.{Null, True, False, Number, String, List as AList, Object}
use Rattle.json_exact.specs.declared.cells.Cell.{Cell}

-- what stands between quotes is UTF-8 when its escapes are read
abbrev pub IsText : Kind → List ℕ → Cell → Type 0
IsText String text c = IsUtf8 (characters_of text c)
IsText Null text c = ⊤
IsText True text c = ⊤
IsText False text c = ⊤
IsText Number text c = ⊤
IsText AList text c = ⊤
IsText Object text c = ⊤

-- in each of the cells
abbrev pub AreTexts : List ℕ → List Cell → Type 0
AreTexts text [] = ⊤
AreTexts text (c ∷ cells) = IsText c.kind text c × AreTexts text cells

IsText-prop : (k : Kind) (text : List ℕ) (c : Cell) → IsProp (IsText k text c)
IsText-prop String text c = hlevel props
IsText-prop Null text c = Unit-prop
IsText-prop True text c = Unit-prop
IsText-prop False text c = Unit-prop
IsText-prop Number text c = Unit-prop
IsText-prop AList text c = Unit-prop
IsText-prop Object text c = Unit-prop

pub AreTexts-prop : (text : List ℕ) (cells : List Cell) → IsProp (AreTexts text cells)
AreTexts-prop text [] = Unit-prop
AreTexts-prop text (c ∷ cells) = hlevel (IsText-prop c.kind text c, AreTexts-prop text cells)
