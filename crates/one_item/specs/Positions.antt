-- Where items may stand: at most 500 mm from 0 in x and in y, in nanometres.
use Rattle.std.specs.Prelude.{ℤ, neg_ℤ, Bool, ◌&&◌}
use Rattle.std.specs.Int.Signed.{le_z}
use Rattle.plain_types.specs.Lengths.{greatest}
use Rattle.one_item.specs.declared.item.Item.{Item}

-- at most 500 mm from 0, in nanometres
abbrev pub is_near : ℤ → Bool
is_near z = le_z (neg_ℤ greatest) z && le_z z greatest

-- the position lies on the board; the points of all shapes do so by their type
abbrev pub is_on_board : Item → Bool
is_on_board item = is_near item.x && is_near item.y
