-- Trees that stand in a text of at most 33,554,432 bytes: no place is beyond.
use Rattle.std.specs.Prelude.{List, [], ◌∷◌}
use Rattle.plain_types.specs.Limits.{IsInText}
use Rattle.sexpr_read.specs.Tree.{Forest, none, atom, list, Tree, leaf, branch}

abbrev pub AreShort : Forest → Type 0
AreShort none = Unit {0}
AreShort (atom s q c others) = IsInText s.at × AreShort others
AreShort (list s inside others) = IsInText s.at × AreShort inside × AreShort others

abbrev pub IsShort : Tree → Type 0
IsShort (leaf s q c) = IsInText s.at
IsShort (branch s inside) = IsInText s.at × AreShort inside

abbrev pub AllShort : List Tree → Type 0
AllShort [] = Unit {0}
AllShort (t ∷ ts) = IsShort t × AllShort ts
