-- One step of the walk over the parts of a list.
use Rattle.std.specs.Prelude.{ℕ, Bool, true, false, not, ◌&&◌, ◌||◌, List, [], ◌∷◌, codes, bytes_eq, Option, None, Some, if◌then◌else◌}
use Rattle.std.specs.List.{list_any}
use Rattle.sexpr_read.specs.Tree.{Tree}
use Rattle.list_read.specs.declared.elements.Wanted.{Wanted}
use Rattle.list_read.specs.declared.elements.Wanted.TheVariants.{Head, Name}
use Rattle.list_read.specs.ListHeads.{is_text}

-- whether a list that begins with this part is the one
abbrev pub is_wanted_first : Wanted → Tree → Bool
is_wanted_first (Head word) first = is_text first word.now
is_wanted_first Name first = is_text first (codes "tstamp") || is_text first (codes "uuid")

-- whether it is, and none was found before
abbrev pub is_new : Option Tree → Wanted → Tree → Bool
is_new (Some found) wanted first = false
is_new None wanted first = is_wanted_first wanted first

-- what was found first stays
abbrev pub noted_one : Tree → Tree → Wanted → Option Tree → Option Tree
noted_one part first wanted found = if is_new found wanted first then Some part else found

abbrev pub noted : Tree → Tree → List Wanted → List (Option Tree) → List (Option Tree)
noted part first (w ∷ ws) (f ∷ fs) = noted_one part first w f ∷ noted part first ws fs
noted part first ws fs = []

-- ---- no head is wanted twice

-- with what the lists begin that are the one
abbrev pub heads_of : Wanted → List (List ℕ)
heads_of (Head word) = word.now ∷ []
heads_of Name = codes "tstamp" ∷ codes "uuid" ∷ []

-- whether a list may be both
abbrev pub share : Wanted → Wanted → Bool
share v w = list_any (λ head. list_any (bytes_eq head) (heads_of w)) (heads_of v)

abbrev pub are_distinct : List Wanted → Bool
are_distinct [] = true
are_distinct (w ∷ ws) = not (list_any (share w) ws) && are_distinct ws
