-- The numbers of a board, read from atoms as they stand in the text. Lengths are whole nanometres, what is finer cut off.
use Rattle.std.specs.Prelude.{ℕ, ℤ, pos, int_le, List, Result, Ok, Err, if◌then◌else◌}
use Rattle.sexpr_read.specs.Tree.{Tree, content}
use Rattle.exact_dec.specs.Computed.{mm_cut_answer, count_answer}
use Rattle.exact_dec.specs.declared.DecError.{DecError}
use Rattle.board_errors.specs.declared.errors.BoardError.{BoardError}
use Rattle.board_errors.specs.declared.errors.BoardError.TheVariants.{BadNumber}
use Rattle.part_read.specs.declared.numbers.RawPoint.{RawPoint}
use Rattle.list_read.specs.FirstRefusals.{◌>>=◌, needed}
use Rattle.list_read.specs.ListHeads.{place}
use Rattle.list_read.specs.NamedElements.{element}
use Rattle.part_read.specs.ElementResults.{atom_of, in_needed}

-- what a decimal was read as, or this refusal
abbrev pub read_as : {A : Type 0} → BoardError → Result A DecError → Result A BoardError
read_as e (Ok n) = Ok n
read_as e (Err _) = Err e

-- a length
unfoldable pub length_in : Tree → Result ℤ BoardError
length_in atom = do
  text ← needed (BadNumber (place atom)) (content atom)
  read_as (BadNumber (place atom)) (mm_cut_answer text)

-- a size: a length that is not negative
unfoldable pub size_in : Tree → Result ℤ BoardError
size_in atom = do
  n ← length_in atom
  if int_le (pos 0) n then Ok n else Err (BadNumber (place atom))

-- a whole number
unfoldable pub number_in : Tree → Result ℕ BoardError
number_in atom = do
  text ← needed (BadNumber (place atom)) (content atom)
  read_as (BadNumber (place atom)) (count_answer text)

-- ---- in elements

-- the raw point of (HEAD X Y)
unfoldable pub raw_point_at : Tree → Result RawPoint BoardError
raw_point_at list = do
  first ← atom_of 1 list
  x ← length_in first
  second ← atom_of 2 list
  y ← length_in second
  Ok (record { x = x; y = y })

-- the raw point in the element with this head, which must be there
abbrev pub raw_point_of : List ℕ → Tree → Result RawPoint BoardError
raw_point_of head tree = in_needed raw_point_at tree (element head tree)

-- the size of (HEAD SIZE)
unfoldable pub size_at : Tree → Result ℤ BoardError
size_at list = atom_of 1 list >>= size_in

-- the size in the element with this head, which must be there
abbrev pub size_of : List ℕ → Tree → Result ℤ BoardError
size_of head tree = in_needed size_at tree (element head tree)
