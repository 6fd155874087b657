-- The beginning of a list that is written: its opening bracket, with the place of the list where that is moved.
use Rattle.std.specs.Prelude.{◌≡◌, ◌≤◌, ℕ, ◌+◌, true, List, ◌∷◌, ◌++◌}
use Rattle.sexpr_read.specs.Tree.{Forest, Tree, span, quoted, levels_in}
use Rattle.sexpr_read.specs.TreeViews.{tree_of, trees_left}
use Rattle.roundtrip_text.specs.Pieces.{written}
use Rattle.board_write.specs.declared.setting.Setting.{Setting}
use Rattle.board_write.specs.declared.setting.Left.{Left}
use Rattle.board_write.specs.declared.places.Place.{Place}
use Rattle.board_write.specs.declared.places.Moving.{Moving}
use Rattle.board_write.specs.Settings.{grove, inside, set_down, updated, within, updated_inside}
use Rattle.board_write.specs.MovedPlaces.{as_atom, as_number, content_of}

-- an atom as it stands in its text
abbrev pub atom_down : Tree → List ℕ
atom_down tree = written (quoted tree) (content_of tree)

-- the place of a list before others, with its new numbers
abbrev pub placed : Place → Forest → Forest
placed place others = as_atom (tree_of place.head) (as_number (tree_of place.x.atom) place.x.nm (as_number (tree_of place.y.atom) place.y.nm others))

-- what was written of a list goes on with the rest of it: whatever else stands there, up to any place
abbrev pub IsPlaced : Setting → ℕ → Place → List ℕ → List ℕ → Left → Type 0
IsPlaced setting from place old new left =
    (left.parts ≡ place.rest) × ((to : ℕ) (others : Forest) → new ++ set_down setting left.from to left.is_first others ≡ old ++ set_down setting from to true (placed place others))

-- the beginning of a list was written, and what is left is less deep
pub record IsListOpened (setting : Setting) (moving : Moving) (tree : Tree) (old new : List ℕ) (left : Left) : Type 0 where
  pub text : (to : ℕ) → new ++ set_down setting left.from to left.is_first (updated (within moving) (grove (trees_left left.parts)))
      ≡ old ++ (40 ∷ set_down setting ((span tree).at + 1) to true (updated_inside moving (inside tree)))
  pub less : levels_in (grove (trees_left left.parts)) ≤ levels_in (inside tree)
