-- What a tree is.
use Rattle.sexpr_read.specs.declared.bytes.ByteClass.{ByteClass}
use Rattle.sexpr_read.specs.declared.bytes.ByteClass.TheVariants.{Space, Open, Close, Quote, Backslash, Plain}
use Rattle.sexpr_read.specs.declared.arena.Cell.{Cell}
use Rattle.sexpr_read.specs.declared.arena.TreeKind.{TreeKind}
use Rattle.sexpr_read.specs.declared.arena.TreeKind.TheVariants.{Word, String, List as Nested}

-- the first byte of a tree says what it is
abbrev pub kind_of : ByteClass → TreeKind
kind_of Open = Nested
kind_of Quote = String
kind_of Space = Word
kind_of Close = Word
kind_of Backslash = Word
kind_of Plain = Word

-- a cell of nothing
abbrev pub no_cell : Cell
no_cell = record { at = 0; end = 0; inside = 0 }
