-- Pieces of copper: between two of them no edge, no area and no footprint is asked.
use Rattle.std.specs.Prelude.{Bool, true, false, ◌&&◌}
use Rattle.one_item.specs.declared.item.What.{What}
use Rattle.one_item.specs.declared.item.What.TheVariants.{Track, Via, Pad, Graphic, Fill, Edge, Area, Body, Note}
use Rattle.one_item.specs.declared.item.Item.{Item}

-- copper: no edge, no area, no footprint and no note
abbrev pub is_copper : What → Bool
is_copper (Track width) = true
is_copper (Via size drill micro blind) = true
is_copper (Pad number reference) = true
is_copper Graphic = true
is_copper Fill = true
is_copper (Edge lines) = false
is_copper (Area title bans shape) = false
is_copper (Body reference front back on_back) = false
is_copper (Note about layer) = false

abbrev pub are_copper : Item → Item → Bool
are_copper a b = is_copper a.what && is_copper b.what
