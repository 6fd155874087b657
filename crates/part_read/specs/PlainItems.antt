-- Items without a hole, a clearance of their own, or lengths.
use Rattle.std.specs.Prelude.{◌≡◌, ℕ, Bool, true, false, List, None}
use Rattle.std.proofs.Common.{ap}
use Rattle.plain_types.specs.Lengths.{IsLengthIfSome}
use Rattle.one_item.specs.declared.parts.Part.{Part}
use Rattle.one_item.specs.declared.item.What.{What}
use Rattle.one_item.specs.declared.item.What.TheVariants.{Track, Via}
use Rattle.one_item.specs.declared.item.Item.{Item}
use Rattle.one_item.specs.Measures.{HasLengths}
use Rattle.part_read.specs.declared.numbers.RawPoint.{RawPoint}

-- the kinds that have lengths
abbrev pub is_measured : What → Bool
is_measured (Track width) = true
is_measured (Via size drill micro blind) = true
is_measured what = false

-- what has no lengths has them all in range
pub unmeasured : (what : What) → is_measured what ≡ false → HasLengths what
unmeasured what h = record {
  width = λ w e. let k : is_measured what ≡ true = ap is_measured e in absurd cc;
  size = λ s d m b e. let k : is_measured what ≡ true = ap is_measured e in absurd cc;
  drill = λ s d m b e. let k : is_measured what ≡ true = ap is_measured e in absurd cc;
}

-- and so has a clearance that is missing
pub none_in_range : IsLengthIfSome None
none_in_range = λ n e. absurd cc

-- the item with this name, unit, net, position and copper, which is this
abbrev pub plain_item : List ℕ → ℕ → ℕ → RawPoint → List Part → (what : What) → is_measured what ≡ false → Item
plain_item name unit net at copper what h = record {
  name = name;
  unit = unit;
  net = net;
  x = at.x;
  y = at.y;
  copper = copper;
  hole = None;
  local = None;
  what = what;
  local_in_range = none_in_range;
  what_in_range = unmeasured what h;
}
