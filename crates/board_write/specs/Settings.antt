-- Trees that are set down, with places in them moved.
use Rattle.std.specs.Prelude.{ℕ, ◌+◌, ◌-◌, ℤ, Bool, true, false, List, [], ◌∷◌, ◌++◌, codes, Option, None, slice_range, if◌then◌else◌}
use Rattle.sexpr_read.specs.declared.place.Span.{Span}
use Rattle.sexpr_read.specs.Tree.{Forest, none, atom, list, Tree, leaf, branch, trees}
use Rattle.list_read.specs.ListHeads.{first_is}
use Rattle.roundtrip_text.specs.Pieces.{written}
use Rattle.roundtrip_text.specs.RewrittenText.{space_before}
use Rattle.roundtrip_lists.specs.Translated.{place_moved}
use Rattle.roundtrip_lists.specs.Moving.{put_if, moved}
use Rattle.roundtrip_boards.specs.WrittenBoard.{first_at}
use Rattle.board_write.specs.declared.distance.Distance.{Distance}
use Rattle.board_write.specs.declared.marks.Mark.{Mark}
use Rattle.board_write.specs.declared.marks.Mark.TheVariants.{Stays, Gone, Moved}
use Rattle.board_write.specs.declared.setting.Setting.{Setting}
use Rattle.board_write.specs.declared.setting.Setting.TheVariants.{AsInText, Spaced}
use Rattle.board_write.specs.declared.places.Moving.{Moving}
use Rattle.board_write.specs.declared.places.Moving.TheVariants.{Nothing, First, All}
use Rattle.board_write.specs.Marks.{plain_shift}

-- trees side by side, as a forest
abbrev pub grove : List Tree → Forest
grove [] = none
grove (leaf s q content ∷ others) = atom s q content (grove others)
grove (branch s inside ∷ others) = list s inside (grove others)

-- what stands in a list; in an atom nothing
abbrev pub inside : Tree → Forest
inside (leaf s q content) = none
inside (branch s forest) = forest

-- ---- what stands between trees

abbrev pub gap : Setting → ℕ → ℕ → Bool → List ℕ
gap (AsInText text) from at first = slice_range text.now from at
gap Spaced from at first = space_before first

abbrev pub rest_of : Setting → ℕ → ℕ → List ℕ
rest_of (AsInText text) from to = slice_range text.now from to
rest_of Spaced from to = []

-- the trees from one place to another: as they stand in their text, with what lies between them, or with one space between them
abbrev pub set_down : Setting → ℕ → ℕ → Bool → Forest → List ℕ
set_down setting from to first none = rest_of setting from to
set_down setting from to first (atom s q content others) = gap setting from s.at first ++ (written q content ++ set_down setting s.end to false others)
set_down setting from to first (list s inside others) =
    gap setting from s.at first ++ (40 ∷ (set_down setting (s.at + 1) (s.end - 1) true inside ++ (41 ∷ set_down setting s.end to false others)))

-- ---- which places are moved

-- the trees with no place moved, that of the first list with the head `at`, or all
abbrev pub updated : Moving → Forest → Forest
updated Nothing f = f
updated (First by) f = first_at (plain_shift by) f
updated (All by) f = moved (plain_shift by) f

-- the place of a list that is moved
abbrev pub own_place : Moving → Forest → Option (ℤ × ℤ)
own_place Nothing f = None
own_place (First by) f = if first_is (trees f) (codes "at") then place_moved (plain_shift by) f else None
own_place (All by) f = place_moved (plain_shift by) f

-- what is moved in a list, its own place aside
abbrev pub within : Moving → Moving
within Nothing = Nothing
within (First by) = Nothing
within (All by) = All by

-- what is moved behind a list
abbrev pub behind : Moving → Forest → Moving
behind Nothing f = Nothing
behind (First by) f = if first_is (trees f) (codes "at") then Nothing else First by
behind (All by) f = All by

-- what stands in a list, as it then is
abbrev pub updated_inside : Moving → Forest → Forest
updated_inside moving f = put_if (own_place moving f) (updated (within moving) f)

-- a list by itself, with what stands in it
abbrev pub list_down : Setting → Span → Forest → List ℕ
list_down setting s f = 40 ∷ (set_down setting (s.at + 1) (s.end - 1) true f ++ 41 ∷ [])

-- ---- units

-- in a footprint its own first place is moved, in another unit all are
abbrev pub unit_moving : Distance → Forest → Moving
unit_moving by f = if first_is (trees f) (codes "footprint") then First by else All by

-- a unit's list by what became of it: an added list, with its disposition
abbrev pub moving_by : Mark → Forest → Moving
moving_by Stays f = Nothing
moving_by Gone f = Nothing
moving_by (Moved by) f = unit_moving by f
