-- Trees whose atoms are UTF-8.
use Rattle.std.specs.Prelude.{IsUtf8, ⊤, List}
use Rattle.sexpr_read.specs.Tree.{Forest, none, atom, list}
use Rattle.roundtrip_text.specs.RewrittenText.{Disposition, stays, leaves, becomes, first_disposition, later}

-- the content of each atom, as it stands in the text
abbrev pub AreUtf8 : Forest → Type 0
AreUtf8 none = ⊤
AreUtf8 (atom s q c others) = IsUtf8 c × AreUtf8 others
AreUtf8 (list s inside others) = AreUtf8 inside × AreUtf8 others

abbrev pub BecomesUtf8 : Disposition → Type 0
BecomesUtf8 stays = ⊤
BecomesUtf8 leaves = ⊤
BecomesUtf8 (becomes other) = AreUtf8 other

abbrev pub BecomeUtf8 : List Disposition → Forest → Type 0
BecomeUtf8 dispositions none = ⊤
BecomeUtf8 dispositions (atom s q c others) = BecomeUtf8 dispositions others
BecomeUtf8 dispositions (list s inside others) = BecomesUtf8 (first_disposition dispositions) × BecomeUtf8 (later dispositions) others
