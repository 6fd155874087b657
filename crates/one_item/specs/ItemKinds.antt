-- Whether the kind of an item is a note, a body or a mark.
use Rattle.std.specs.Prelude.{Bool, true, false}
use Rattle.one_item.specs.declared.item.What.{What}
use Rattle.one_item.specs.declared.item.What.TheVariants.{Area, Body, Note}

-- what is read but not checked
abbrev pub is_note : What → Bool
is_note (Note about layer) = true
is_note _ = false

-- a footprint as a whole
abbrev pub is_body : What → Bool
is_body (Body reference front back on_back) = true
is_body _ = false

-- the kinds that facts of other items speak of: areas and bodies
abbrev pub is_mark : What → Bool
is_mark (Area title bans shape) = true
is_mark (Body reference front back on_back) = true
is_mark _ = false
