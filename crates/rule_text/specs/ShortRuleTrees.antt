-- Trees that stand in a text of at most 33,554,432 bytes: no place is beyond, no atom stands for more, and no list has more
-- parts.
use Rattle.std.specs.Prelude.{List, [], ◌∷◌, length}
use Rattle.plain_types.specs.Limits.{IsInText, IsReadable}
use Rattle.sexpr_read.specs.Tree.{Forest, none, atom, list, Tree, leaf, branch, trees}
use Rattle.list_read.specs.ListHeads.{text_of}

abbrev pub AreShort : Forest → Type 0
AreShort none = Unit {0}
AreShort (atom s q c others) = (IsInText s.at × IsReadable (text_of (leaf s q c))) × AreShort others
AreShort (list s inside others) = (IsInText s.at × (IsInText (length (trees inside)) × AreShort inside)) × AreShort others

abbrev pub IsShort : Tree → Type 0
IsShort (leaf s q c) = IsInText s.at × IsReadable (text_of (leaf s q c))
IsShort (branch s inside) = IsInText s.at × (IsInText (length (trees inside)) × AreShort inside)

abbrev pub AllShort : List Tree → Type 0
AllShort [] = Unit {0}
AllShort (t ∷ ts) = IsShort t × AllShort ts
