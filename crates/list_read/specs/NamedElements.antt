-- The elements of a list: its parts, by name. Of each name the first counts.
use Rattle.std.specs.Prelude.{ℕ, List, Bool, ◌||◌, codes, Option, find}
use Rattle.sexpr_read.specs.Tree.{Tree, parts}
use Rattle.list_read.specs.ListHeads.{has_head}

-- the first list in the list that has this head
unfoldable pub element : List ℕ → Tree → Option Tree
element head tree = find (has_head head) (parts tree)

-- a list that gives its item a name: (tstamp NAME), or (uuid NAME) as KiCad 8 writes it
unfoldable pub is_naming : Tree → Bool
is_naming tree = has_head (codes "tstamp") tree || has_head (codes "uuid") tree

-- the first such list in the list
unfoldable pub naming : Tree → Option Tree
naming tree = find is_naming (parts tree)
