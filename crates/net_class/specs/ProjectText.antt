-- What the text of a project says: the classes of its JSON value, or why there are none.
use Rattle.std.specs.Prelude.{◌≡◌, ◌≢◌, ◌⊎◌, ℕ, List, Result, Err}
use Rattle.json_exact.specs.Json.{Json as Value}
use Rattle.json_exact.specs.JsonText.{SpelledWithin}
use Rattle.json_exact.specs.JsonRefusals.{IsRefused, depth_limit}
use Rattle.json_exact.specs.declared.error.JsonError.{JsonError}
use Rattle.json_exact.specs.declared.error.JsonError.TheVariants.{OutOfMemory as NoMemoryForText}
use Rattle.net_class.specs.declared.error.ProjectError.{ProjectError}
use Rattle.net_class.specs.declared.error.ProjectError.TheVariants.{Json, OutOfMemory}
use Rattle.net_class.specs.NetClasses.{PlainClasses}
use Rattle.net_class.specs.ClassesOf.{classes_of}

-- a text that spells a value says what the value says
abbrev pub SaysValue : List ℕ → Result PlainClasses ProjectError → Type 0
SaysValue text answer = (v : Value) × SpelledWithin depth_limit text v × (answer ≡ classes_of v)

-- any other is refused as such
abbrev pub SaysRefusal : List ℕ → Result PlainClasses ProjectError → Type 0
SaysRefusal text answer = (e : JsonError) × IsRefused text e × (e ≢ NoMemoryForText) × (answer ≡ Err (Json e))

abbrev pub ProjectSays : List ℕ → Result PlainClasses ProjectError → Type 0
ProjectSays text answer = SaysValue text answer ⊎ SaysRefusal text answer

-- the refusal of a text that is no JSON
abbrev pub refusal_of : JsonError → ProjectError
refusal_of NoMemoryForText = OutOfMemory
refusal_of e = Json e
