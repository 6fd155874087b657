-- The JSON values that handles stand for.
use Rattle.std.specs.Prelude.{List}
use Rattle.json_exact.specs.Json.{square, Json as Value', values}
use Rattle.json_exact.specs.JsonCells.{first_value, all_parts}
use Rattle.json_exact.specs.declared.handles.Value.{Value}
use Rattle.json_exact.specs.declared.handles.Items.{Items}
use Rattle.json_exact.specs.declared.handles.Json.{Json}

-- the JSON value of a handle, of a whole text, and those that an iterator has still to give
abbrev pub json_of : Value → Value'
json_of v = first_value v.text.now v.cells.now

abbrev pub value_of : Json → Value'
value_of j = first_value j.text.now j.cells.items

abbrev pub items_left : Items → List Value'
items_left i = values (all_parts i.text.now square i.cells.now)
