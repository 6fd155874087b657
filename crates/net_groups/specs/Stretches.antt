-- Private words of the search: item boxes that are moved and stretched.
use Rattle.std.specs.Prelude.{ℤ, pos, neg_ℤ, ◌-ℤ◌, ◌*ℤ◌}
use Rattle.std.specs.Int.{int_max, int_min}
use Rattle.geo_seg.specs.declared.boxes.Bounds.{Bounds}
use Rattle.net_groups.specs.declared.stretch.Stretch.{Stretch}

-- a coordinate, moved and stretched, and kept within the edges
abbrev pub stretched_line : ℤ → ℤ → ℤ → ℤ
stretched_line from times z = int_max (int_min (times *ℤ (z -ℤ from)) (pos 1500000000)) (neg_ℤ (pos 1500000000))

abbrev pub stretched : Stretch → Bounds → Bounds
stretched s item_box = record {
  left = stretched_line s.x s.times item_box.left;
  top = stretched_line s.y s.times item_box.top;
  right = stretched_line s.x s.times item_box.right;
  bottom = stretched_line s.y s.times item_box.bottom;
}
