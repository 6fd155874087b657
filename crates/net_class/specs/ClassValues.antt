-- What the reader's values stand for.
use Rattle.std.specs.Prelude.{◌≡◌, ◌⊎◌, ℕ, ℤ, List, find, is_some, map, Option, Result, Ok, Err, String, Vec}
use Rattle.std.specs.declared.alloc.Global.{Global}
use Rattle.std.specs.HashSet.{HashSet, contains_text}
use Rattle.std.specs.Option.{option_map}
use Rattle.json_exact.specs.Json.{Json}
use Rattle.json_exact.specs.Handles.{json_of}
use Rattle.json_exact.specs.declared.handles.Value.{Value}
use Rattle.net_class.specs.declared.error.ProjectError.{ProjectError}
use Rattle.net_class.specs.declared.error.ProjectError.TheVariants.{OutOfMemory}
use Rattle.net_class.specs.declared.lengths.Class.{Class}
use Rattle.net_class.specs.declared.lengths.Mins.{Mins}
use Rattle.net_class.specs.declared.lengths.Draft.{Draft}
use Rattle.net_class.specs.declared.lengths.Pattern.{Pattern}
use Rattle.net_class.specs.NetClasses.{PlainClass, PlainMins, PlainPattern}
use Rattle.net_class.specs.ClassesOf.{Written, is_named, Distances as PlainDistances, Sizes as PlainSizes}
use Rattle.plain_types.specs.declared.lengths.Length.{Length}
use Rattle.net_class.specs.declared.mins.Distances.{Distances}
use Rattle.net_class.specs.declared.mins.Sizes.{Sizes}

abbrev pub plain_class : Class → PlainClass
plain_class c = record { name = c.name; clearance = c.clearance }

abbrev pub written_class : Draft → Written
written_class d = record { name = d.name; clearance = d.clearance }

abbrev pub plain_pattern : Pattern → PlainPattern
plain_pattern p = record { class = p.class; pattern = p.pattern }

abbrev pub mins_of : Mins → PlainMins
mins_of m = record {
  min_clearance = m.min_clearance;
  min_copper_edge_clearance = m.min_copper_edge_clearance;
  min_hole_clearance = m.min_hole_clearance;
  min_hole_to_hole = m.min_hole_to_hole;
  min_through_hole_diameter = m.min_through_hole_diameter;
  min_track_width = m.min_track_width;
  min_via_annular_width = m.min_via_annular_width;
  min_via_diameter = m.min_via_diameter;
}

-- the texts are the names of the classes
abbrev pub HasNames : {S : Type 0} → HashSet (String Global) S → List Written → Type 0
HasNames names written = (name : List ℕ) → contains_text names name ≡ is_some (find (is_named name) written)

-- the values that were found
abbrev pub json_if : Option Value → Option Json
json_if v = option_map json_of v

abbrev pub json_in : Result (Option Value) ProjectError → Result (Option Json) ProjectError
json_in (Ok v) = Ok (json_if v)
json_in (Err e) = Err e

-- the call gives this answer, unless memory ran out
abbrev pub Gives : {A : Type 0} → Result A ProjectError → Result A ProjectError → Type 0
Gives (Ok x) answer = answer ≡ Ok x
Gives (Err e) answer = (e ≡ OutOfMemory) ⊎ (answer ≡ Err e)

-- the call leaves what the answer is, or gives its refusal, unless memory ran out
abbrev pub Leaves : {A T : Type 0} → Result T ProjectError → A → Result A ProjectError → Type 0
Leaves (Ok _) new answer = answer ≡ Ok new
Leaves (Err e) new answer = (e ≡ OutOfMemory) ⊎ (answer ≡ Err e)

-- the call gives patterns that stand for this answer, unless memory ran out
abbrev pub GivesPatterns : Result (Vec Pattern Global) ProjectError → Result (List PlainPattern) ProjectError → Type 0
GivesPatterns (Ok v) answer = answer ≡ Ok (map plain_pattern v.items)
GivesPatterns (Err e) answer = (e ≡ OutOfMemory) ⊎ (answer ≡ Err e)

abbrev pub mins_read : Result Mins ProjectError → Result PlainMins ProjectError
mins_read (Ok m) = Ok (mins_of m)
mins_read (Err e) = Err e

-- the length that was read, and the four distances and the four sizes
abbrev pub length_read : Result Length ProjectError → Result ℤ ProjectError
length_read (Ok l) = Ok l.nm
length_read (Err e) = Err e

abbrev pub distances_read : Result Distances ProjectError → Result PlainDistances ProjectError
distances_read (Ok d) = Ok (record { clearance = d.clearance.nm; edge = d.edge.nm; hole = d.hole.nm; holes = d.holes.nm })
distances_read (Err e) = Err e

abbrev pub sizes_read : Result Sizes ProjectError → Result PlainSizes ProjectError
sizes_read (Ok s) = Ok (record { drill = s.drill.nm; track = s.track.nm; ring = s.ring.nm; via = s.via.nm })
sizes_read (Err e) = Err e
