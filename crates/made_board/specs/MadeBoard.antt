-- The text of the generated board of N, where N is from 1 to 90,000: 1,000 nets, and for each number below N a via and a segment that
-- begins there. They stand 3 mm apart, 300 in a row, and every seventh segment is longer.
use Rattle.std.specs.Prelude.{ℕ, ◌+◌, ◌*◌, ◌/◌, ◌%◌, ◌==◌, ℤ, pos, ◌+ℤ◌, ◌*ℤ◌, ◌-ℤ◌, List, ◌++◌, codes, decimal, if◌then◌else◌}
use Rattle.std.specs.Fmt.{signed_decimal}
use Rattle.std.specs.List.{flat_map, range_with_len}
use Rattle.exact_dec.specs.MillimetreText.{mm_text}

-- where number k stands, in millimetres
abbrev pub x_of : ℕ → ℤ
x_of k = pos (3 * (k % 300)) -ℤ pos 450

abbrev pub y_of : ℕ → ℤ
y_of k = pos (3 * (k / 300)) -ℤ pos 450

-- how far its segment goes, in nanometres
abbrev pub length_of : ℕ → ℕ
length_of k = if k % 7 == 3 then 2300000 else 1200000

-- where its segment ends, in nanometres
abbrev pub end_of : ℕ → ℤ
end_of k = (pos 1000000 *ℤ x_of k) +ℤ pos (length_of k)

-- its net
abbrev pub net_of : ℕ → ℕ
net_of k = 1 + k % 1000

unfoldable pub site_text : ℕ → List ℕ
site_text k = signed_decimal (x_of k) ++ codes " " ++ signed_decimal (y_of k)

unfoldable pub end_text : ℕ → List ℕ
end_text k = mm_text (end_of k) ++ codes " " ++ signed_decimal (y_of k)

-- the net and the stamp of a via or a segment, and the end of its line
unfoldable pub net_and_stamp : List ℕ → ℕ → List ℕ
net_and_stamp letter k = codes " (net " ++ decimal (net_of k) ++ codes ") (tstamp " ++ letter ++ decimal k ++ codes "))\n"

unfoldable pub via_line : ℕ → List ℕ
via_line k = codes "(via (at " ++ site_text k ++ codes ") (size 0.8) (drill 0.4) (layers \"F.Cu\" \"B.Cu\")" ++ net_and_stamp (codes "v") k

unfoldable pub segment_line : ℕ → List ℕ
segment_line k =
    codes "(segment (start " ++ site_text k ++ codes ") (end " ++ end_text k ++ codes ") (width 0.25) (layer \"F.Cu\")" ++ net_and_stamp (codes "s") k

abbrev pub two_lines : ℕ → List ℕ
two_lines k = via_line k ++ segment_line k

unfoldable pub net_line : ℕ → List ℕ
net_line m = codes "(net " ++ decimal m ++ codes " \"N" ++ decimal m ++ codes "\")\n"

-- the nets from 1 on, so many
unfoldable pub net_lines : ℕ → List ℕ
net_lines n = flat_map net_line (range_with_len 1 n)

-- the vias and segments of so many numbers from one on
unfoldable pub item_lines : ℕ → ℕ → List ℕ
item_lines first n = flat_map two_lines (range_with_len first n)

unfoldable pub made_text : ℕ → List ℕ
made_text n = codes "(kicad_pcb (version 20221018) (generator pcbnew)\n(layers (0 \"F.Cu\" signal) (31 \"B.Cu\" signal))\n(net 0 \"\")\n" ++ net_lines 1000 ++ item_lines 0 n ++ codes ")\n"
