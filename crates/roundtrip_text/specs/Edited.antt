-- What an edited text spells.
use Rattle.std.specs.Prelude.{◌≡◌, ℕ, suc, ◌≤◌, Bool, List}
use Rattle.sexpr_read.specs.declared.place.Span.{Span}
use Rattle.sexpr_read.specs.Tree.{Forest, atom, branch, levels_in}
use Rattle.sexpr_read.specs.Spelling.{Spells}
use Rattle.roundtrip_text.specs.Pieces.{WritesForest, SameTrees}
use Rattle.roundtrip_text.specs.RewrittenText.{Disposition, AreFit, FirstIsThere, AreAtoms, insides}
use Rattle.roundtrip_text.specs.Utf8.{AreUtf8, BecomeUtf8}

-- the text is one list of at most 64 levels, with a head
pub record Root (text : List ℕ) : Type 0 where
  pub span : Span
  pub head_span : Span
  pub quoted : Bool
  pub head : List ℕ
  pub others : Forest
  pub spelled : Spells text (branch span (atom head_span quoted head others))
  pub shallow : suc (levels_in others) ≤ 64

abbrev pub inside_root : {text : List ℕ} → Root text → Forest
inside_root root = atom root.head_span root.quoted root.head root.others

-- the dispositions are ones of what follows a head, of which the first tree is still there
pub record FitBehindHead (dispositions : List Disposition) (others : Forest) : Type 0 where
  pub fit : AreFit dispositions others
  pub first : FirstIsThere dispositions others

-- and they write nothing but UTF-8
pub record FitInRoot (dispositions : List Disposition) (others : Forest) : Type 0 where
  pub behind_head : FitBehindHead dispositions others
  pub utf8 : BecomeUtf8 dispositions others

-- the trees may stand last in a text of at most 64 levels
pub record MayBeAdded (added : Forest) : Type 0 where
  pub atoms : AreAtoms added
  pub utf8 : AreUtf8 added
  pub shallow : suc (levels_in added) ≤ 64

-- the bytes spell this head, with these lists behind it; what else they spell are atoms
abbrev pub WritesEdited : List ℕ → Span → Bool → List ℕ → List Forest → Type 0
WritesEdited bytes s quoted content lists = (others : Forest) × WritesForest bytes (atom s quoted content others) × (insides others ≡ lists)

-- the text is one list of at most 64 levels with this head and these lists; what else stands in it are atoms
pub record SpellsEdited (text : List ℕ) (quoted : Bool) (content : List ℕ) (lists : List Forest) : Type 0 where
  pub where_it_is : Span
  pub head_is : Span
  pub forest : Forest
  pub spelled : Spells text (branch where_it_is forest)
  pub shallow : suc (levels_in forest) ≤ 64
  pub kept : Forest
  pub same : SameTrees (atom head_is quoted content kept) forest
  pub are : insides kept ≡ lists
