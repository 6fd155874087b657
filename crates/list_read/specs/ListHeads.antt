-- Lists by their heads, and what stands in them. An atom stands for its decoded value.
use Rattle.std.specs.Prelude.{ℕ, List, [], ◌∷◌, Bool, false, ◌&&◌, not, bytes_eq, Option, None, Some, unwrap_or}
use Rattle.std.specs.List.{list_any}
use Rattle.sexpr_read.specs.Tree.{Tree, span, parts, value, quoted}

-- where the tree begins
abbrev pub place : Tree → ℕ
place tree = (span tree).at

-- what an atom stands for
abbrev pub text_of : Tree → List ℕ
text_of tree = unwrap_or (value tree) []

abbrev pub is_value : Option (List ℕ) → List ℕ → Bool
is_value None text = false
is_value (Some v) text = bytes_eq v text

-- an atom that stands for the text
abbrev pub is_text : Tree → List ℕ → Bool
is_text tree text = is_value (value tree) text

-- ---- heads

abbrev pub first_is : List Tree → List ℕ → Bool
first_is [] head = false
first_is (t ∷ ts) head = is_text t head

-- a list whose first part stands for this text
unfoldable pub has_head : List ℕ → Tree → Bool
has_head head tree = first_is (parts tree) head

abbrev pub first_is_word : List Tree → List ℕ → Bool
first_is_word [] head = false
first_is_word (t ∷ ts) head = not (quoted t) && is_text t head

-- the same, where the first part does not stand in quotes
unfoldable pub has_word_head : List ℕ → Tree → Bool
has_word_head head tree = first_is_word (parts tree) head

-- ---- what stands in a list

abbrev pub behind_one : List Tree → List Tree
behind_one [] = []
behind_one (t ∷ ts) = ts

-- what stands behind the head
unfoldable pub behind_head : Tree → List Tree
behind_head tree = behind_one (parts tree)

-- the word stands in the list
unfoldable pub has_word : List ℕ → Tree → Bool
has_word word tree = list_any (λ t. is_text t word) (parts tree)
