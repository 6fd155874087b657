-- What each byte of a text is to an S-expression.
use Rattle.std.specs.Prelude.{ℕ, Bool, true, false, ◌||◌, ◌==◌, if◌then◌else◌, List, slice_index_or}
use Rattle.sexpr_read.specs.declared.bytes.ByteClass.{ByteClass}
use Rattle.sexpr_read.specs.declared.bytes.ByteClass.TheVariants.{Space, Open, Close, Quote, Backslash, Plain}

-- space is the space, the tab, the line feed and the carriage return; then come ( ) " and the backslash
unfoldable pub class_of : ℕ → ByteClass
class_of b =
    if b == 0x20 || b == 0x09 || b == 0x0A || b == 0x0D then Space
    else (if b == 0x28 then Open
    else (if b == 0x29 then Close
    else (if b == 0x22 then Quote
    else (if b == 0x5C then Backslash else Plain))))

-- what stands at a place of a text; past its end there is space
unfoldable pub sign_of : List ℕ → ℕ → ByteClass
sign_of text place = class_of (slice_index_or text place 0x20)

-- a word is made of everything but space, brackets and quotes
abbrev pub is_word : ByteClass → Bool
is_word Backslash = true
is_word Plain = true
is_word Space = false
is_word Open = false
is_word Close = false
is_word Quote = false

-- what stands for itself in a string: everything but the quote and the backslash
abbrev pub is_itself : ByteClass → Bool
is_itself Quote = false
is_itself Backslash = false
is_itself Space = true
is_itself Open = true
is_itself Close = true
is_itself Plain = true
