-- The members of the objects in a project, by their names. A member that is null counts as not there, and of two of one name
-- the first counts. One of another kind than is wanted is refused as Shape, and a number that is invalid or too great or below 0 as
-- BadNumber, each at the place where the member's value begins.
use Rattle.std.specs.Prelude.{ℕ, ℤ, pos, int_lt, List, [], ◌∷◌, Bool, Option, None, Some, Result, Ok, Err, if◌then◌else◌}
use Rattle.std.specs.List.{cons_option}
use Rattle.plain_types.specs.Lengths.{is_length}
use Rattle.json_exact.specs.Json.{Json, begins_at, items, member, number_of, text_of, is_null, is_list, is_object}
use Rattle.json_exact.specs.ByteComparisons.{same_bytes}
use Rattle.exact_dec.specs.Computed.{mm_near_answer}
use Rattle.exact_dec.specs.declared.DecError.{DecError}
use Rattle.net_class.specs.declared.error.ProjectError.{ProjectError}
use Rattle.net_class.specs.declared.error.ProjectError.TheVariants.{Shape, BadNumber}

infixl 10 ◌>>=◌
abbrev pub ◌>>=◌ : {A B : Type 0} → Result A ProjectError → (A → Result B ProjectError) → Result B ProjectError
(Err e) >>= f = Err e
(Ok x) >>= f = f x

abbrev pub needed : {A : Type 0} → ProjectError → Option A → Result A ProjectError
needed e None = Err e
needed e (Some x) = Ok x

abbrev pub read_as : {A : Type 0} → ProjectError → Result A DecError → Result A ProjectError
read_as e (Ok n) = Ok n
read_as e (Err _) = Err e

-- what is there and not null
abbrev pub unless_null : Option Json → Option Json
unless_null None = None
unless_null (Some v) = if is_null v then None else Some v

-- the member of an object, where there is an object, and such a member
unfoldable pub member_in : List ℕ → Option Json → Option Json
member_in name None = None
member_in name (Some v) = unless_null (member (λ text. same_bytes text name) v)

-- what is read of a value, if there is one
abbrev pub read_if : {A : Type 0} → (Json → Result A ProjectError) → Option Json → Result (Option A) ProjectError
read_if read None = Ok None
read_if read (Some v) = read v >>= λ x. Ok (Some x)

-- the value, if it is of this kind
abbrev pub of_kind : (Json → Bool) → Json → Result Json ProjectError
of_kind is_kind v = if is_kind v then Ok v else Err (Shape (begins_at v))

unfoldable pub object_in : List ℕ → Option Json → Result (Option Json) ProjectError
object_in name v = read_if (of_kind is_object) (member_in name v)

unfoldable pub list_in : List ℕ → Option Json → Result (Option Json) ProjectError
list_in name v = read_if (of_kind is_list) (member_in name v)

-- the values in a list
abbrev pub entries : Option Json → List Json
entries None = []
entries (Some v) = items v

-- what the values give, in their order, where they give something
abbrev pub each_in : {A : Type 0} → (Json → Result (Option A) ProjectError) → List Json → Result (List A) ProjectError
each_in read [] = Ok []
each_in read (v ∷ vs) = do
  x ← read v
  xs ← each_in read vs
  Ok (cons_option x xs)

-- an entry of a list of objects
unfoldable pub entry_of : Json → Result (Option Json) ProjectError
entry_of v = read_if (of_kind is_object) (unless_null (Some v))

-- ---- texts and lengths

abbrev pub text_at : Json → Result (List ℕ) ProjectError
text_at v = needed (Shape (begins_at v)) (text_of v)

unfoldable pub text_in : List ℕ → Option Json → Result (Option (List ℕ)) ProjectError
text_in name v = read_if text_at (member_in name v)

-- a number in millimetres, to the nearest nanometre
unfoldable pub nanometres_at : Json → Result ℤ ProjectError
nanometres_at v = do
  digits ← needed (Shape (begins_at v)) (number_of v)
  read_as (BadNumber (begins_at v)) (mm_near_answer digits)

-- a length from 0 to 500 mm
unfoldable pub length_at : Json → Result ℤ ProjectError
length_at v = do
  n ← nanometres_at v
  if is_length n then Ok n else Err (BadNumber (begins_at v))

-- the length of a member
unfoldable pub length_in : List ℕ → Option Json → Result (Option ℤ) ProjectError
length_in name v = read_if length_at (member_in name v)

-- a length from 0 to 500 mm, or none for a number below 0
unfoldable pub length_or_none_at : Json → Result (Option ℤ) ProjectError
length_or_none_at v = do
  n ← nanometres_at v
  if int_lt n (pos 0) then Ok None else if is_length n then Ok (Some n) else Err (BadNumber (begins_at v))

abbrev pub read_if_not_negative : Option Json → Result (Option ℤ) ProjectError
read_if_not_negative None = Ok None
read_if_not_negative (Some v) = length_or_none_at v

unfoldable pub length_or_none_in : List ℕ → Option Json → Result (Option ℤ) ProjectError
length_or_none_in name v = read_if_not_negative (member_in name v)
