-- The pieces of the line of a refusal.
use Rattle.std.specs.Prelude.{ℕ, List, [], ◌++◌, codes, decimal, Option, None, Some}
use Rattle.plain_types.specs.declared.reason.Cause.{Cause}
use Rattle.plain_types.specs.Reasons.{PlainReason, listed_causes}
use Rattle.run_texts.specs.NamedTexts.{reason_text}
use Rattle.run_output.specs.declared.lines.Told.{Told}

-- the piece before the place of a refusal
abbrev pub at_text : Option ℕ → List ℕ
at_text None = []
at_text (Some at) = codes " at "

-- the place in a condition counts where there is a place
abbrev pub inner_behind : Option ℕ → Option ℕ → Option ℕ
inner_behind None inner = None
inner_behind (Some at) inner = inner

-- the piece before a cause that is behind another
abbrev pub point_text : Option Cause → List ℕ
point_text None = []
point_text (Some cause) = codes "."

abbrev pub name_text : Option Cause → List ℕ
name_text None = []
name_text (Some cause) = cause.name.now

abbrev pub number_text : Option Cause → List ℕ
number_text None = []
number_text (Some cause) = decimal cause.number

-- why something is refused, as it is held for its line
abbrev pub reason_told : Told → PlainReason
reason_told told = record { causes = listed_causes told.causes; place = told.place; inner_place = told.inner }

-- the line of three texts and of why something is refused
unfoldable pub reason_line : List ℕ → List ℕ → List ℕ → PlainReason → List ℕ
reason_line prefix middle behind why = prefix ++ middle ++ behind ++ reason_text why ++ codes "\n"
