-- How far the reader has come.
use Rattle.std.specs.Prelude.{slice_index_or, ℕ, suc, ◌+◌, ◌<◌, ◌≤◌, ◌≡◌, ◌≢◌, ◌⊎◌, Bool, true, false, List, length, None}
use Rattle.sexpr_read.specs.declared.arena.Cell.{Cell}
use Rattle.sexpr_read.specs.declared.bytes.ByteClass.{ByteClass}
use Rattle.sexpr_read.specs.declared.bytes.ByteClass.TheVariants.{Space, Backslash, Close}
use Rattle.sexpr_read.specs.ByteClasses.{sign_of}
use Rattle.sexpr_read.specs.Comments.{Line, fresh, begun, line_at, is_passed, signs}
use Rattle.sexpr_read.specs.Tree.{Forest, levels_in}
use Rattle.sexpr_read.specs.Spelling.{IsContent, SpellsForest}
use Rattle.sexpr_read.specs.TreeRefusals.{Where, outside, where_at, first_fault}
use Rattle.sexpr_read.specs.ForestCells.{cells_of}

-- from here to the end there is content of a string, perhaps with a last backslash that nothing follows
abbrev pub IsUnclosed : (ℕ → ByteClass) → ℕ → ℕ → Type 0
IsUnclosed sign from n =
    IsContent sign from n ⊎ ((last : ℕ) × (n ≡ suc last) × IsContent sign from last × (sign last ≡ Backslash))

-- before the place there is no fault, and there the text stands so
pub record Stands (one : Bool) (sign : ℕ → ByteClass) (place : ℕ) (w : Where) : Type 0 where
  pub where_is : where_at sign place ≡ w
  pub clean : first_fault one sign place ≡ None

-- how many lists are open where the trees begin that are read into cells: a text that is to be one list is in it
abbrev pub outer_levels : Bool → ℕ
outer_levels true = 1
outer_levels false = 0

-- the trees from one place to another were read into these cells; there a list ends that opened before, or the text
pub record TreesAreRead (one : Bool) (text : List ℕ) (from stop : ℕ) (cells : List Cell) : Type 0 where
  pub forest : Forest
  pub spelled : SpellsForest (signs one text) text from stop forest
  pub kept : cells ≡ cells_of forest
  pub shallow : outer_levels one + levels_in forest ≤ 64
  pub within : stop ≤ length text
  pub ends : stop < length text → signs one text stop ≡ Close
  pub stands : Stands one (signs one text) stop (outside (outer_levels one))

-- the line so far has nothing but space and tab, or another sign
abbrev pub line_of : Bool → Line
line_of true = fresh
line_of false = begun

-- where comments count, the text stands so in its line
abbrev pub IsInLine : Bool → List ℕ → ℕ → Bool → Type 0
IsInLine one text place blank = one ≡ false → place < length text → line_at text place ≡ line_of blank

-- no comment begins at the place
pub record IsPlain (text : List ℕ) (place : ℕ) : Type 0 where
  pub line : (line_at text place ≡ begun) ⊎ ((line_at text place ≡ fresh) × (sign_of text place ≢ Space))
  pub stays : is_passed (slice_index_or text place 0x20) (line_at text place) ≡ false

-- where comments count, none begins at the place
abbrev pub IsSettled : Bool → List ℕ → ℕ → Type 0
IsSettled one text place = one ≡ false → place < length text → IsPlain text place
