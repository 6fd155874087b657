-- What is read in the elements of a list. Each is looked at in its order, and what is wrong first is the refusal.
use Rattle.std.specs.Prelude.{ℕ, List, [], Option, None, Some, slice_get, Result, Ok, Err, if◌then◌else◌}
use Rattle.sexpr_read.specs.Tree.{Tree, parts, is_list}
use Rattle.list_read.specs.FirstRefusals.{◌>>=◌, needed}
use Rattle.list_read.specs.ListHeads.{place, text_of}
use Rattle.list_read.specs.NamedElements.{naming}
use Rattle.board_errors.specs.declared.errors.BoardError.{BoardError}
use Rattle.board_errors.specs.declared.errors.BoardError.TheVariants.{Missing}

-- what is read in an element that the list must have
abbrev pub in_needed : {A : Type 0} → (Tree → Result A BoardError) → Tree → Option Tree → Result A BoardError
in_needed read tree found = needed (Missing (place tree)) found >>= read

-- what is read in an element that may be missing
abbrev pub given_or : {A : Type 0} → A → (Tree → Result A BoardError) → Option Tree → Result A BoardError
given_or otherwise read None = Ok otherwise
given_or otherwise read (Some list) = read list

-- what is read in an element that may be missing, where it is there
abbrev pub in_given : {A : Type 0} → (Tree → Result A BoardError) → Option Tree → Result (Option A) BoardError
in_given read found = given_or None (λ list. read list >>= λ x. Ok (Some x)) found

-- ---- atoms

-- the atom that is there; a list, or nothing, is refused
abbrev pub atom_among : BoardError → Option Tree → Result Tree BoardError
atom_among e None = Err e
atom_among e (Some t) = if is_list t then Err e else Ok t

-- the atom at a place of the list, where the head stands at 0; a list there counts as missing
unfoldable pub atom_of : ℕ → Tree → Result Tree BoardError
atom_of k tree = atom_among (Missing (place tree)) (slice_get (parts tree) k)

-- what is read of an atom that may be missing; a list there counts as missing
abbrev pub atom_or : {A : Type 0} → A → (Tree → Result A BoardError) → Option Tree → Result A BoardError
atom_or otherwise read found = given_or otherwise (λ t. if is_list t then Ok otherwise else read t) found

-- ---- names

-- the text of an atom that was found, or the empty one
abbrev pub text_in : Result Tree BoardError → List ℕ
text_in (Ok atom) = text_of atom
text_in (Err e) = []

-- the name in a list that gives one, or the empty one
abbrev pub name_among : Option Tree → List ℕ
name_among None = []
name_among (Some list) = text_in (atom_of 1 list)

-- the name that a list gives its item, or the empty one
abbrev pub name_in : Tree → List ℕ
name_in tree = name_among (naming tree)
