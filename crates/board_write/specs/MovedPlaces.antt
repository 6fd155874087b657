-- The place of a list, as the code takes it apart.
use Rattle.std.specs.Prelude.{◌≡◌, ◌≤◌, ℕ, ℤ, List, [], Option, None, unsigned_abs}
use Rattle.exact_dec.specs.Computed.{mm_cut_answer}
use Rattle.exact_dec.specs.MillimetreText.{mm_text}
use Rattle.sexpr_read.specs.Tree.{Forest, atom, Tree, leaf, branch, span, quoted}
use Rattle.sexpr_read.specs.TreeViews.{tree_of, trees_left}
use Rattle.roundtrip_lists.specs.Translated.{moved_by}
use Rattle.board_write.specs.declared.places.Place.{Place}
use Rattle.board_write.specs.Settings.{grove}

-- the number of an atom, moved; a list has none
abbrev pub atom_moved : ℤ → Tree → Option ℤ
atom_moved by (leaf s q content) = moved_by by (mm_cut_answer content)
atom_moved by (branch s inside) = None

abbrev pub list_numbers : Place → ℤ × ℤ
list_numbers place = (place.x.nm, place.y.nm)

-- the bytes of an atom; a list has none of its own
abbrev pub content_of : Tree → List ℕ
content_of (leaf s q content) = content
content_of (branch s inside) = []

-- an atom before other trees, and a number in its place
abbrev pub as_atom : Tree → Forest → Forest
as_atom tree others = atom (span tree) (quoted tree) (content_of tree) others

abbrev pub as_number : Tree → ℤ → Forest → Forest
as_number tree nm others = atom (span tree) (quoted tree) (mm_text nm) others

-- the list begins with this place, and both its new numbers can be written
pub record StandsIn (inside : Forest) (place : Place) : Type 0 where
  pub is : inside ≡ as_atom (tree_of place.head) (as_atom (tree_of place.x.atom) (as_atom (tree_of place.y.atom) (grove (trees_left place.rest))))
  pub near_x : unsigned_abs place.x.nm ≤ 1000000000000
  pub near_y : unsigned_abs place.y.nm ≤ 1000000000000
