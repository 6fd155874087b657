-- The classes of a project, as KiCad 7 writes it (KiCad developer documentation, project files):
--   {"net_settings": {"classes": [{"name": TEXT, "clearance": NUMBER}, ..],
--                     "netclass_patterns": [{"netclass": TEXT, "pattern": TEXT}, ..]},
--    "board": {"design_settings": {"rules": {"min_clearance": NUMBER, ..}}}}
-- Each member may be missing, and others are passed over. They are looked at in this order, and what is wrong first is the
-- refusal. A project that is no object has none of them.
use Rattle.std.specs.Prelude.{ℕ, ℤ, List, [], ◌∷◌, map, filter, find, codes, bytes_eq, Bool, not, Option, None, Some, unwrap_or, option_map, option_and_then, Result, Ok}
use Rattle.json_exact.specs.Json.{Json}
use Rattle.net_class.specs.declared.error.ProjectError.{ProjectError}
use Rattle.net_class.specs.NetClasses.{PlainClass, PlainPattern, PlainMins, PlainClasses, plain_default, plain_mins}
use Rattle.net_class.specs.ProjectMembers.{◌>>=◌, object_in, list_in, entries, each_in, entry_of, text_in, length_in, length_or_none_in}

-- a class as it is written
pub record Written : Type 0 where
  pub name : List ℕ
  pub clearance : Option ℤ

abbrev pub is_named : List ℕ → Written → Bool
is_named name w = bytes_eq w.name name

-- an entry of the list of classes; one without a name gives none
unfoldable pub class_in : Json → Result (Option Written) ProjectError
class_in v = do
  object ← entry_of v
  name ← text_in (codes "name") object
  clearance ← length_in (codes "clearance") object
  Ok (option_map (λ n. record { name = n; clearance = clearance }) name)

-- of each name the first
abbrev pub firsts : List Written → List Written
firsts [] = []
firsts (w ∷ ws) = w ∷ filter (λ x. not (is_named x.name w)) (firsts ws)

abbrev pub clearance_of : Option Written → Option ℤ
clearance_of None = None
clearance_of (Some w) = w.clearance

-- that of the class Default, if it says one
unfoldable pub default_clearance : List Written → ℤ
default_clearance written = unwrap_or (clearance_of (find (is_named plain_default.name) written)) plain_default.clearance

abbrev pub class_from : ℤ → Written → PlainClass
class_from default w = record { name = w.name; clearance = unwrap_or w.clearance default }

-- ---- patterns

-- an entry of the list of patterns; one that lacks a text gives none
unfoldable pub pattern_in : Json → Result (Option PlainPattern) ProjectError
pattern_in v = do
  object ← entry_of v
  class ← text_in (codes "netclass") object
  pattern ← text_in (codes "pattern") object
  Ok (option_and_then (λ c. option_map (λ p. record { class = c; pattern = p }) pattern) class)

-- ---- least sizes

abbrev pub or_plain : Result (Option ℤ) ProjectError → ℤ → Result ℤ ProjectError
or_plain answer plain = answer >>= λ n. Ok (unwrap_or n plain)

-- from copper to copper, to the edge, from a hole to copper, from hole to hole
pub record Distances : Type 0 where
  pub clearance : ℤ
  pub edge : ℤ
  pub hole : ℤ
  pub holes : ℤ

-- a negative distance from the edge counts as not there
unfoldable pub distances_in : Option Json → Result Distances ProjectError
distances_in rules = do
  clearance ← or_plain (length_in (codes "min_clearance") rules) plain_mins.min_clearance
  edge ← or_plain (length_or_none_in (codes "min_copper_edge_clearance") rules) plain_mins.min_copper_edge_clearance
  hole ← or_plain (length_in (codes "min_hole_clearance") rules) plain_mins.min_hole_clearance
  holes ← or_plain (length_in (codes "min_hole_to_hole") rules) plain_mins.min_hole_to_hole
  Ok (record { clearance = clearance; edge = edge; hole = hole; holes = holes })

pub record Sizes : Type 0 where
  pub drill : ℤ
  pub track : ℤ
  pub ring : ℤ
  pub via : ℤ

unfoldable pub sizes_in : Option Json → Result Sizes ProjectError
sizes_in rules = do
  drill ← or_plain (length_in (codes "min_through_hole_diameter") rules) plain_mins.min_through_hole_diameter
  track ← or_plain (length_in (codes "min_track_width") rules) plain_mins.min_track_width
  ring ← or_plain (length_in (codes "min_via_annular_width") rules) plain_mins.min_via_annular_width
  via ← or_plain (length_in (codes "min_via_diameter") rules) plain_mins.min_via_diameter
  Ok (record { drill = drill; track = track; ring = ring; via = via })

unfoldable pub mins_in : Option Json → Result PlainMins ProjectError
mins_in rules = do
  distances ← distances_in rules
  sizes ← sizes_in rules
  Ok (record {
    min_clearance = distances.clearance;
    min_copper_edge_clearance = distances.edge;
    min_hole_clearance = distances.hole;
    min_hole_to_hole = distances.holes;
    min_through_hole_diameter = sizes.drill;
    min_track_width = sizes.track;
    min_via_annular_width = sizes.ring;
    min_via_diameter = sizes.via;
  })

-- ---- the whole

-- the classes in their order
unfoldable pub written_in : Option Json → Result (List Written) ProjectError
written_in settings = do
  list ← list_in (codes "classes") settings
  classes ← each_in class_in (entries list)
  Ok (firsts classes)

-- the patterns in their order
unfoldable pub patterns_in : Option Json → Result (List PlainPattern) ProjectError
patterns_in settings = do
  list ← list_in (codes "netclass_patterns") settings
  each_in pattern_in (entries list)

unfoldable pub rules_in : Option Json → Result PlainMins ProjectError
rules_in root = do
  board ← object_in (codes "board") root
  settings ← object_in (codes "design_settings") board
  rules ← object_in (codes "rules") settings
  mins_in rules

unfoldable pub classes_from : List Written → List PlainPattern → PlainMins → PlainClasses
classes_from written patterns mins = record {
  default = record { name = plain_default.name; clearance = default_clearance written };
  named = map (class_from (default_clearance written)) written;
  patterns = patterns;
  mins = mins;
}

-- behind the classes that are written: the patterns, and the least sizes
abbrev pub with_rest : List Written → Option Json → Json → Result PlainClasses ProjectError
with_rest written settings root = do
  patterns ← patterns_in settings
  mins ← rules_in (Some root)
  Ok (classes_from written patterns mins)

unfoldable pub classes_of : Json → Result PlainClasses ProjectError
classes_of root = do
  settings ← object_in (codes "net_settings") (Some root)
  written ← written_in settings
  with_rest written settings root
