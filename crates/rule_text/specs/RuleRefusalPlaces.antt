-- Places of a text of at most 33,554,432 bytes.
use Rattle.std.specs.Prelude.{Result, Ok, Err}
use Rattle.plain_types.specs.Limits.{IsInText}
use Rattle.list_read.specs.RefusalPlaces.{IsNearText}
use Rattle.rule_text.specs.declared.error.RuleError.{RuleError}
use Rattle.rule_text.specs.declared.error.RuleError.TheVariants.{Text, Version, Bad, Cond, BadNumber, OutOfMemory}

-- the refusal has such a place, or none
abbrev pub IsPlaceInText : RuleError → Type 0
IsPlaceInText (Text e) = IsNearText e
IsPlaceInText (Version at) = IsInText at
IsPlaceInText (Bad at) = IsInText at
IsPlaceInText (Cond at inner) = IsInText at
IsPlaceInText (BadNumber at) = IsInText at
IsPlaceInText OutOfMemory = Unit {0}

abbrev pub NearIfErr : {A : Type 0} → Result A RuleError → Type 0
NearIfErr (Ok x) = Unit {0}
NearIfErr (Err e) = IsPlaceInText e
