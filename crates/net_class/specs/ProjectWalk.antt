-- The walk over the entries of a project, as the reader makes it: what was kept so far, and one entry more. What a project says is
-- defined by all its entries, in `ClassesOf`; both are the same.
use Rattle.std.specs.Prelude.{ℕ, ℤ, List, [], ◌∷◌, ◌++◌, find, codes, Option, None, Some, is_some, Result, Ok, if◌then◌else◌}
use Rattle.json_exact.specs.Json.{Json}
use Rattle.net_class.specs.declared.error.ProjectError.{ProjectError}
use Rattle.net_class.specs.NetClasses.{PlainPattern}
use Rattle.net_class.specs.ClassesOf.{Written, is_named}
use Rattle.net_class.specs.ProjectMembers.{◌>>=◌, entry_of, text_in, length_in}

-- A class is kept where it has a name that none before it has.
unfoldable pub with_written : List Written → Option (List ℕ) → Option ℤ → List Written
with_written before None clearance = before
with_written before (Some name) clearance =
    if is_some (find (is_named name) before) then before else before ++ record { name = name; clearance = clearance } ∷ []

unfoldable pub with_class : List Written → Json → Result (List Written) ProjectError
with_class before v = do
  object ← entry_of v
  name ← text_in (codes "name") object
  clearance ← length_in (codes "clearance") object
  Ok (with_written before name clearance)

abbrev pub with_classes : List Written → List Json → Result (List Written) ProjectError
with_classes before [] = Ok before
with_classes before (v ∷ vs) = with_class before v >>= λ more. with_classes more vs

-- A pattern is kept where it has both its texts.
abbrev pub with_texts : List PlainPattern → Option (List ℕ) → Option (List ℕ) → List PlainPattern
with_texts before None pattern = before
with_texts before (Some class) None = before
with_texts before (Some class) (Some pattern) = before ++ record { class = class; pattern = pattern } ∷ []

unfoldable pub with_pattern : List PlainPattern → Json → Result (List PlainPattern) ProjectError
with_pattern before v = do
  object ← entry_of v
  class ← text_in (codes "netclass") object
  pattern ← text_in (codes "pattern") object
  Ok (with_texts before class pattern)

abbrev pub with_patterns : List PlainPattern → List Json → Result (List PlainPattern) ProjectError
with_patterns before [] = Ok before
with_patterns before (v ∷ vs) = with_pattern before v >>= λ more. with_patterns more vs
