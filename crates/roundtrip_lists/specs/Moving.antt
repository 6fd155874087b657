-- The lists of a unit that is moved, with their places rewritten.
use Rattle.std.specs.Prelude.{ℤ, Option, None, Some}
use Rattle.exact_dec.specs.MillimetreText.{mm_text}
use Rattle.sexpr_read.specs.Tree.{Forest, none, atom, list}
use Rattle.roundtrip_lists.specs.Translated.{Shift, place_moved}

-- a number in the place of an atom's content
abbrev pub put_second : ℤ × ℤ → Forest → Forest
put_second n none = none
put_second n (atom s q content others) = atom s q (mm_text n.1) others
put_second n (list s inside others) = list s inside others

abbrev pub put_first : ℤ × ℤ → Forest → Forest
put_first n none = none
put_first n (atom s q content others) = atom s q (mm_text n.0) (put_second n others)
put_first n (list s inside others) = list s inside others

-- the two numbers behind the head of a list
abbrev pub put_numbers : ℤ × ℤ → Forest → Forest
put_numbers n none = none
put_numbers n (atom s q head others) = atom s q head (put_first n others)
put_numbers n (list s inside others) = list s inside others

abbrev pub put_if : Option (ℤ × ℤ) → Forest → Forest
put_if None inside = inside
put_if (Some n) inside = put_numbers n inside

-- the lists at any depth that have a place, each with it moved, unless one of its numbers is none or would go too far
abbrev pub moved : Shift → Forest → Forest
moved d none = none
moved d (atom s q content others) = atom s q content (moved d others)
moved d (list s inside others) = list s (put_if (place_moved d inside) (moved d inside)) (moved d others)
