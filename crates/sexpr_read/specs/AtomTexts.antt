-- That the atoms of trees stand for text.
use Rattle.std.specs.Prelude.{[], IsUtf8, unwrap_or, ⊤}
use Rattle.std.specs.Coded.{Unit-prop}
use Rattle.std.proofs.Props.{props}
use Rattle.sexpr_read.specs.Tree.{Forest, none, atom, list, Tree, leaf, branch, value}

-- what an atom stands for is UTF-8; a list stands for nothing
abbrev pub IsText : Tree → Type 0
IsText t = IsUtf8 (unwrap_or (value t) [])

-- so does each atom of a forest, at every depth
abbrev pub AreTexts : Forest → Type 0
AreTexts none = ⊤
AreTexts (atom s q c others) = IsText (leaf s q c) × AreTexts others
AreTexts (list s inside others) = AreTexts inside × AreTexts others

-- and each atom of a tree
abbrev pub HasTexts : Tree → Type 0
HasTexts (leaf s q c) = IsText (leaf s q c)
HasTexts (branch s inside) = AreTexts inside

IsText-prop : (t : Tree) → IsProp (IsText t)
IsText-prop t = hlevel props

pub AreTexts-prop : (f : Forest) → IsProp (AreTexts f)
AreTexts-prop none = Unit-prop
AreTexts-prop (atom s q c others) = hlevel (IsText-prop (leaf s q c), AreTexts-prop others)
AreTexts-prop (list s inside others) = hlevel (AreTexts-prop inside, AreTexts-prop others)

pub HasTexts-prop : (t : Tree) → IsProp (HasTexts t)
HasTexts-prop (leaf s q c) = IsText-prop (leaf s q c)
HasTexts-prop (branch s inside) = AreTexts-prop inside
