-- Comment lines of rule files and scripts. Where a line begins outside a string with #, blanks and tabs before it
-- aside, nothing of it is read. A line goes on until a line feed and ends at nothing else.
use Rattle.std.specs.Prelude.{ℕ, zero, suc, Bool, true, false, ◌==◌, if◌then◌else◌, List, slice_index_or}
use Rattle.sexpr_read.specs.declared.bytes.ByteClass.{ByteClass}
use Rattle.sexpr_read.specs.declared.bytes.ByteClass.TheVariants.{Space, Open, Close, Quote, Backslash, Plain}
use Rattle.sexpr_read.specs.ByteClasses.{sign_of}

-- where a prefix of a text ends: behind nothing but space and tab of its line, behind another sign of it,
-- in a string, in one after a backslash, or in a comment
pub data Line : Type 0 where
  fresh : Line
  begun : Line
  quoting : Line
  escaping : Line
  comment : Line

-- one byte on
abbrev pub line_beyond : ℕ → ByteClass → Line → Line
line_beyond b Space fresh = if b == 0x0D then begun else fresh
line_beyond b Plain fresh = if b == 0x23 then comment else begun
line_beyond b Quote fresh = quoting
line_beyond b Open fresh = begun
line_beyond b Close fresh = begun
line_beyond b Backslash fresh = begun
line_beyond b Space begun = if b == 0x0A then fresh else begun
line_beyond b Quote begun = quoting
line_beyond b Plain begun = begun
line_beyond b Open begun = begun
line_beyond b Close begun = begun
line_beyond b Backslash begun = begun
line_beyond b Quote quoting = begun
line_beyond b Backslash quoting = escaping
line_beyond b Space quoting = quoting
line_beyond b Plain quoting = quoting
line_beyond b Open quoting = quoting
line_beyond b Close quoting = quoting
line_beyond b _ escaping = quoting
line_beyond b Space comment = if b == 0x0A then fresh else comment
line_beyond b Quote comment = comment
line_beyond b Plain comment = comment
line_beyond b Open comment = comment
line_beyond b Close comment = comment
line_beyond b Backslash comment = comment

-- where the prefix of this length ends
unfoldable pub line_at : List ℕ → ℕ → Line
line_at text zero = fresh
line_at text (suc place) = line_beyond (slice_index_or text place 0x20) (sign_of text place) (line_at text place)

-- whether a byte that stands there belongs to a comment
abbrev pub is_passed : ℕ → Line → Bool
is_passed b fresh = b == 0x23
is_passed b begun = false
is_passed b quoting = false
is_passed b escaping = false
is_passed b comment = true

-- what stands at a place of a text, its comments seen as space
unfoldable pub shown : List ℕ → ℕ → ByteClass
shown text place = if is_passed (slice_index_or text place 0x20) (line_at text place) then Space else sign_of text place

-- what stands at a place of a text that is to be one list, or of forms with comments
abbrev pub signs : Bool → List ℕ → ℕ → ByteClass
signs true text = sign_of text
signs false text = shown text
