-- The lengths that the kind of an item has, in nanometres.
use Rattle.std.specs.Prelude.{◌≡◌, ℤ, Bool}
use Rattle.plain_types.specs.Lengths.{IsLength}
use Rattle.one_item.specs.declared.item.What.{What}
use Rattle.one_item.specs.declared.item.What.TheVariants.{Track, Via}

-- the width of a track, and the size and the drill of a via, are 0 to 500 mm
pub record HasLengths (what : What) : Type 0 where
  pub width : (width : ℤ) → what ≡ Track width → IsLength width
  pub size : (size drill : ℤ) (micro blind : Bool) → what ≡ Via size drill micro blind → IsLength size
  pub drill : (size drill : ℤ) (micro blind : Bool) → what ≡ Via size drill micro blind → IsLength drill
