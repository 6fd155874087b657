-- A JSON value (RFC 8259, section 3), with the places of the text at which it and its names begin and end.
use Rattle.std.specs.Prelude.{ℕ, List, [], ◌∷◌, Bool, true, false, cond, Option, Some, None}

pub data Word : Type 0 where
  null_word : Word
  true_word : Word
  false_word : Word

-- what stands alone: a word, a number by its digits as they are written, a string by its characters in UTF-8
pub data Leaf : Type 0 where
  word : Word → Leaf
  number : List ℕ → Leaf
  string : List ℕ → Leaf

-- the brackets of a list, and those of an object
pub data Bracket : Type 0 where
  square : Bracket
  curly : Bracket

pub record Name : Type 0 where
  pub from : ℕ
  pub to : ℕ
  pub text : List ℕ

-- The two numbers are the places at which the value begins and ends. The values in a list have no
-- name, those in an object have one each.
mutual
  pub data Json : Type 0 where
    leaf : Leaf → ℕ → ℕ → Json
    nest : Bracket → ℕ → ℕ → Parts → Json

  pub data Parts : Type 0 where
    no_parts : Parts
    part : Option Name → Json → Parts → Parts

-- where a value begins and ends
abbrev pub begins_at : Json → ℕ
begins_at (leaf l from to) = from
begins_at (nest b from to ps) = from

abbrev pub ends_at : Json → ℕ
ends_at (leaf l from to) = to
ends_at (nest b from to ps) = to

abbrev pub values : Parts → List Json
values no_parts = []
values (part name v ps) = v ∷ values ps

-- the values in a list, and none elsewhere
abbrev pub items : Json → List Json
items (leaf l from to) = []
items (nest square from to ps) = values ps
items (nest curly from to ps) = []

abbrev pub is_named : (List ℕ → Bool) → Option Name → Bool
is_named test None = false
is_named test (Some n) = test n.text

-- the first value whose name passes the test
abbrev pub first_named : (List ℕ → Bool) → Parts → Option Json
first_named test no_parts = None
first_named test (part name v ps) = cond (is_named test name) (Some v) (first_named test ps)

-- the first member of an object whose name passes the test, and none elsewhere
abbrev pub member : (List ℕ → Bool) → Json → Option Json
member test (leaf l from to) = None
member test (nest square from to ps) = None
member test (nest curly from to ps) = first_named test ps

abbrev pub number_of : Json → Option (List ℕ)
number_of (leaf (word w) from to) = None
number_of (leaf (number digits) from to) = Some digits
number_of (leaf (string text) from to) = None
number_of (nest b from to ps) = None

abbrev pub text_of : Json → Option (List ℕ)
text_of (leaf (word w) from to) = None
text_of (leaf (number digits) from to) = None
text_of (leaf (string text) from to) = Some text
text_of (nest b from to ps) = None

abbrev pub is_null : Json → Bool
is_null (leaf (word null_word) from to) = true
is_null (leaf (word true_word) from to) = false
is_null (leaf (word false_word) from to) = false
is_null (leaf (number digits) from to) = false
is_null (leaf (string text) from to) = false
is_null (nest b from to ps) = false

abbrev pub is_list : Json → Bool
is_list (leaf l from to) = false
is_list (nest square from to ps) = true
is_list (nest curly from to ps) = false

abbrev pub is_object : Json → Bool
is_object (leaf l from to) = false
is_object (nest square from to ps) = false
is_object (nest curly from to ps) = true
