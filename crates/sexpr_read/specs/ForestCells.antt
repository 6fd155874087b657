-- How a forest is kept: a row of cells in reading order, a list before what stands in it.
use Rattle.std.specs.Prelude.{ℕ, zero, suc, ◌+◌, ◌-◌, ◌<◌, ◌≤◌, true, false, List, [], ◌∷◌, ◌++◌, length, slice_range, ⊤}
use Rattle.std.specs.Coded.{Unit-prop, le_prop}
use Rattle.sexpr_read.specs.declared.place.Span.{Span}
use Rattle.sexpr_read.specs.declared.arena.TreeKind.{TreeKind}
use Rattle.sexpr_read.specs.declared.arena.TreeKind.TheVariants.{Word, String, List as Nested}
use Rattle.sexpr_read.specs.declared.arena.Cell.{Cell}
use Rattle.sexpr_read.specs.ByteClasses.{sign_of}
use Rattle.sexpr_read.specs.TreeKinds.{kind_of}
use Rattle.sexpr_read.specs.Tree.{Forest, none, atom, list, Tree, leaf, branch}

-- the cells of a forest. That of a list says how many cells stand in it
abbrev pub cells_of : Forest → List Cell
cells_of none = []
cells_of (atom s q c others) = record { at = s.at; end = s.end; inside = 0 } ∷ cells_of others
cells_of (list s inside others) =
    record { at = s.at; end = s.end; inside = length (cells_of inside) } ∷ cells_of inside ++ cells_of others

abbrev pub kind_at : List ℕ → ℕ → TreeKind
kind_at text place = kind_of (sign_of text place)

-- the trees of the first k cells
unfoldable pub prefix : ℕ → Forest → Forest
prefix zero f = none
prefix (suc k) none = none
prefix (suc k) (atom s q c others) = atom s q c (prefix k others)
prefix (suc k) (list s inside others) = list s inside (prefix (k - length (cells_of inside)) others)

-- the trees behind them
unfoldable pub back : ℕ → Forest → Forest
back zero f = f
back (suc k) none = none
back (suc k) (atom s q c others) = back k others
back (suc k) (list s inside others) = back (k - length (cells_of inside)) others

-- a cell before a forest
abbrev pub grown : List ℕ → TreeKind → Cell → Forest → Forest
grown text Word c f = atom (record { at = c.at; end = c.end }) false (slice_range text c.at c.end) f
grown text String c f = atom (record { at = c.at; end = c.end }) true (slice_range text (c.at + 1) (c.end - 1)) f
grown text Nested c f = list (record { at = c.at; end = c.end }) (prefix c.inside f) (back c.inside f)

-- the forest of a row of cells
unfoldable pub forest_of : List ℕ → List Cell → Forest
forest_of text [] = none
forest_of text (c ∷ cells) = grown text (kind_at text c.at) c (forest_of text cells)

-- the tree at a place, where these cells stand in it
abbrev pub tree_at : List ℕ → TreeKind → Span → List Cell → Tree
tree_at text Word s cells = leaf s false (slice_range text s.at s.end)
tree_at text String s cells = leaf s true (slice_range text (s.at + 1) (s.end - 1))
tree_at text Nested s cells = branch s (forest_of text cells)

-- how many bytes a tree of this kind has at least
abbrev pub least_length : TreeKind → ℕ
least_length Word = 1
least_length String = 2
least_length Nested = 0

-- the span lies in the text
pub record LiesInText (text : List ℕ) (k : TreeKind) (at end : ℕ) : Type 0 where
  pub wide : at + least_length k ≤ end
  pub within : end ≤ length text

pub LiesInText-prop : (text : List ℕ) (k : TreeKind) (at end : ℕ) → IsProp (LiesInText text k at end)
LiesInText-prop text k at end = hlevel le_prop

-- each of the cells lies in the text
abbrev pub ArePlaced : List ℕ → List Cell → Type 0
ArePlaced text [] = ⊤
ArePlaced text (c ∷ cells) = (c.at < c.end) × LiesInText text (kind_at text c.at) c.at c.end × ArePlaced text cells

pub ArePlaced-prop : (text : List ℕ) (cells : List Cell) → IsProp (ArePlaced text cells)
ArePlaced-prop text [] = Unit-prop
ArePlaced-prop text (c ∷ cells) = hlevel (le_prop, LiesInText-prop text (kind_at text c.at) c.at c.end, ArePlaced-prop text cells)
