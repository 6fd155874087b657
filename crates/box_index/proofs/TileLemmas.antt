-- Columns and rows grow with the coordinates, and the tile that answers for a near pair has both.
use Rattle.std.proofs.Common.{◌≡◌, ◌∙◌, ap, sym, subst, ℕ, ℤ, pos, negsuc, neg_ℤ, ◌+ℤ◌, ◌-ℤ◌, ◌≤ℤ◌, ◌≤◌, ◌+◌, ◌*◌, ◌/◌, ◌%◌, min, true, ◌&&◌, nat_le, int_le, arith}
use Rattle.std.proofs.lemmas.Int.{ints, clamps}
use Rattle.std.proofs.lemmas.Bool.Decides.{nat_tests}
use Rattle.std.specs.Int.{int_max}
use Rattle.int_algebra.proofs.Scalars.{passed}
use Rattle.geo_seg.specs.declared.boxes.Bounds.{Bounds}
use Rattle.geo_seg.specs.Boxes.{widened, are_near, do_boxes_meet, BoxesMeet, FitsWithin}
use Rattle.box_index.specs.Tiles.{or_zero, lane, tile_of, meets_tile, owner_of, OwnsBoth}

-- ---- the number, or 0
pub or_zero-mono : (a b : ℤ) → a ≤ℤ b → or_zero a ≤ or_zero b
or_zero-mono (pos a) (pos b) h = omega (arith, ints)
or_zero-mono (pos a) (negsuc b) h = omega (arith, ints)
or_zero-mono (negsuc a) b h = omega arith

div-mono : (a b : ℕ) → a ≤ b → a / 16000000 ≤ b / 16000000
div-mono a b h = omega arith

lane-cut : (a b : ℕ) → a ≤ b → min 124 (a / 16000000) ≤ min 124 (b / 16000000)
lane-cut a b h = let s = div-mono a b h in omega arith

pub lane-mono : (a b : ℤ) → a ≤ℤ b → lane a ≤ lane b
lane-mono a b h = lane-cut (or_zero (a +ℤ pos 1000000000)) (or_zero (b +ℤ pos 1000000000)) (or_zero-mono (a +ℤ pos 1000000000) (b +ℤ pos 1000000000) (omega (arith, ints)))

pub lane-within : (z : ℤ) → lane z ≤ 124
lane-within z = omega arith

-- ---- coordinates as they are passed, and their sums with a reach
pub less_is : (u r : ℤ) → neg_ℤ (pos 2000000000) ≤ℤ u → u ≤ℤ pos 2000000000 → pos 0 ≤ℤ r → r ≤ℤ pos 1000000000 → passed (passed u -ℤ passed r) ≡ u -ℤ r
less_is u r h h' k l = omega (arith, ints)

pub more_is : (u r : ℤ) → neg_ℤ (pos 2000000000) ≤ℤ u → u ≤ℤ pos 2000000000 → pos 0 ≤ℤ r → r ≤ℤ pos 1000000000 → passed (passed u +ℤ passed r) ≡ u +ℤ r
more_is u r h h' k l = omega (arith, ints)

pub passed_is : (u : ℤ) → neg_ℤ (pos 3000000000) ≤ℤ u → u ≤ℤ pos 3000000000 → passed u ≡ u
passed_is u h k = omega (arith, ints)

pub widened_passed : (w b : Bounds) (reach : ℤ) → pos 0 ≤ℤ reach → reach ≤ℤ pos 1000000000 → w ≡ widened b (passed reach) → w ≡ widened b reach
widened_passed w b reach f t e = e ∙ ap (widened b) (passed_is reach (omega (arith, ints)) (omega (arith, ints)))

passed_left : (w : Bounds) → FitsWithin (pos 3000000000) w → passed w.left ≡ w.left
passed_left w f = passed_is w.left f.left (omega (arith, ints))

passed_top : (w : Bounds) → FitsWithin (pos 3000000000) w → passed w.top ≡ w.top
passed_top w f = passed_is w.top f.top (omega (arith, ints))

passed_right : (w : Bounds) → FitsWithin (pos 3000000000) w → passed w.right ≡ w.right
passed_right w f = passed_is w.right (omega (arith, ints)) f.right

passed_bottom : (w : Bounds) → FitsWithin (pos 3000000000) w → passed w.bottom ≡ w.bottom
passed_bottom w f = passed_is w.bottom (omega (arith, ints)) f.bottom

-- ---- the tiles of an area
tests : (l t r b l' t' r' b' column row : ℕ) → l ≡ l' → t ≡ t' → r ≡ r' → b ≡ b' → (nat_le l column && nat_le column r && nat_le t row && nat_le row b) ≡ (nat_le l' column && nat_le column r' && nat_le t' row && nat_le row b')
tests l t r b l' t' r' b' column row e f g h = cc

-- the lanes of a box make an area
pub record AreLanesOf (w : Bounds) (l t r b : ℕ) : Type 0 where
  pub left : l ≡ lane (passed w.left)
  pub top : t ≡ lane (passed w.top)
  pub right : r ≡ lane (passed w.right)
  pub bottom : b ≡ lane (passed w.bottom)

pub same_tiles : (w box : Bounds) (reach : ℤ) (l t r b : ℕ) → w ≡ widened box reach → FitsWithin (pos 3000000000) w → AreLanesOf w l t r b → (tile : ℕ) → (nat_le l (tile % 125) && nat_le (tile % 125) r && nat_le t (tile / 125) && nat_le (tile / 125) b) ≡ meets_tile (widened box reach) tile
same_tiles w box reach l t r b e f h tile =
    tests _ _ _ _ _ _ _ _ (tile % 125) (tile / 125) (h.left ∙ ap lane (passed_left w f)) (h.top ∙ ap lane (passed_top w f)) (h.right ∙ ap lane (passed_right w f)) (h.bottom ∙ ap lane (passed_bottom w f))
    ∙ ap (λ (v : Bounds). meets_tile v tile) e

pub wide_lanes : (w : Bounds) (l r : ℕ) → FitsWithin (pos 3000000000) w → l ≡ lane (passed w.left) → r ≡ lane (passed w.right) → l ≤ r
wide_lanes w l r f e g =
    let low = e ∙ ap lane (passed_left w f) in let high = g ∙ ap lane (passed_right w f) in
    let m = lane-mono w.left w.right f.wide in
    subst (λ (n : ℕ). n ≤ r) (sym low) (subst (λ (n : ℕ). lane w.left ≤ n) (sym high) m)

pub high_lanes : (w : Bounds) (t b : ℕ) → FitsWithin (pos 3000000000) w → t ≡ lane (passed w.top) → b ≡ lane (passed w.bottom) → t ≤ b
high_lanes w t b f e g =
    let low = e ∙ ap lane (passed_top w f) in let high = g ∙ ap lane (passed_bottom w f) in
    let m = lane-mono w.top w.bottom f.high in
    subst (λ (n : ℕ). n ≤ b) (sym low) (subst (λ (n : ℕ). lane w.top ≤ n) (sym high) m)

-- ---- the tile that answers for a pair
pub record IsFar (z : ℤ) : Type 0 where
  pub from : neg_ℤ (pos 3000000000) ≤ℤ z
  pub to : z ≤ℤ pos 3000000000

max_passed : (a b m : ℤ) → IsFar a → IsFar b → m ≡ int_max a b → passed m ≡ m
max_passed a b m f g e = omega (arith, ints, clamps)

max_is : (a b m : ℤ) → IsFar a → IsFar b → m ≡ int_max (passed a) (passed b) → m ≡ int_max a b
max_is a b m f g e = e ∙ ap (λ z. int_max z (passed b)) (passed_is a f.from f.to) ∙ ap (int_max a) (passed_is b g.from g.to)

pub max_to : (a b m : ℤ) → IsFar a → IsFar b → m ≡ int_max (passed a) (passed b) → passed m ≤ℤ pos 3000000000
max_to a b m f g e = let s = max_is a b m f g e in let p = max_passed a b m f g s in omega (arith, ints, clamps)

pub far_left : (w : Bounds) → FitsWithin (pos 3000000000) w → IsFar w.left
far_left w f = record { from = f.left; to = omega (arith, ints) }

pub far_top : (w : Bounds) → FitsWithin (pos 3000000000) w → IsFar w.top
far_top w f = record { from = f.top; to = omega (arith, ints) }

pub looser : (b : Bounds) → FitsWithin (pos 2000000000) b → FitsWithin (pos 3000000000) b
looser b f = record { wide = f.wide; high = f.high; left = omega (arith, ints); top = omega (arith, ints); right = omega (arith, ints); bottom = omega (arith, ints) }

pub max_lane : (a b m : ℤ) (n : ℕ) → IsFar a → IsFar b → m ≡ int_max (passed a) (passed b) → n ≡ lane (passed m) → n ≡ lane (int_max a b)
max_lane a b m n f g e h = let s = max_is a b m f g e in h ∙ ap lane (max_passed a b m f g s ∙ s)

pub owner_is : (w first second : Bounds) (reach : ℤ) (row column : ℕ) → w ≡ widened first reach → row ≡ lane (int_max w.top second.top) → column ≡ lane (int_max w.left second.left) → row * 125 + column ≡ owner_of reach first second
owner_is w first second reach row column e r c = ap (λ n. n * 125 + column) r ∙ ap (λ n. lane (int_max w.top second.top) * 125 + n) c ∙ ap (λ (v : Bounds). lane (int_max v.top second.top) * 125 + lane (int_max v.left second.left)) e

between : (l c r t w b : ℕ) → l ≤ c → c ≤ r → t ≤ w → w ≤ b → (nat_le l c && nat_le c r && nat_le t w && nat_le w b) ≡ true
between l c r t w b e f g h = grind (arith, nat_tests)

column_of_tile : (row column : ℕ) → column ≤ 124 → (row * 125 + column) % 125 ≡ column
column_of_tile row column h = omega arith

row_of_tile : (row column : ℕ) → column ≤ 124 → (row * 125 + column) / 125 ≡ row
row_of_tile row column h = omega arith

-- a box meets the tile of each point of it
pub meets_at : (b : Bounds) (x y : ℤ) → b.left ≤ℤ x → x ≤ℤ b.right → b.top ≤ℤ y → y ≤ℤ b.bottom → meets_tile b (tile_of x y) ≡ true
meets_at b x y l r t u =
    let column = column_of_tile (lane y) (lane x) (lane-within x) in
    let row = row_of_tile (lane y) (lane x) (lane-within x) in
    subst (λ (n : ℕ). (nat_le (lane b.left) n && nat_le n (lane b.right) && nat_le (lane b.top) (tile_of x y / 125) && nat_le (tile_of x y / 125) (lane b.bottom)) ≡ true) (sym column)
    (subst (λ (n : ℕ). (nat_le (lane b.left) (lane x) && nat_le (lane x) (lane b.right) && nat_le (lane b.top) n && nat_le n (lane b.bottom)) ≡ true) (sym row)
    (between (lane b.left) (lane x) (lane b.right) (lane b.top) (lane y) (lane b.bottom) (lane-mono _ _ l) (lane-mono _ _ r) (lane-mono _ _ t) (lane-mono _ _ u)))

max_from : (a b : ℤ) → a ≤ℤ int_max a b
max_from a b = omega (arith, ints, clamps)

max_second : (a b : ℤ) → b ≤ℤ int_max a b
max_second a b = omega (arith, ints, clamps)

max_below : (a b c : ℤ) → a ≤ℤ c → b ≤ℤ c → int_max a b ≤ℤ c
max_below a b c h k = omega (arith, ints, clamps)

pub four_le : (a b c d e f g h : ℤ) → ((int_le a b && int_le c d) && (int_le e f && int_le g h)) ≡ true → (a ≤ℤ b) × (c ≤ℤ d) × (e ≤ℤ f) × (g ≤ℤ h)
four_le a b c d e f g h t = grind (arith, ints)

pub near_sides : (margin : ℤ) (a b : Bounds) → are_near margin a b ≡ true → BoxesMeet (widened a margin) b
near_sides m a b h = let s = four_le (a.left -ℤ m) b.right b.left (a.right +ℤ m) (a.top -ℤ m) b.bottom b.top (a.bottom +ℤ m) h in record { left = s.0; right = s.1; top = s.2; bottom = s.3 }

pub near_is : (w first second : Bounds) (margin : ℤ) → w ≡ widened first margin → do_boxes_meet w second ≡ are_near margin first second
near_is w first second margin e = ap (λ (v : Bounds). do_boxes_meet v second) e

-- the tile that answers for a near pair is met by both
pub owner_first : (reach : ℤ) (a b : Bounds) → pos 0 ≤ℤ reach → a.left ≤ℤ a.right → a.top ≤ℤ a.bottom → BoxesMeet (widened a reach) b → meets_tile (widened a reach) (owner_of reach a b) ≡ true
owner_first reach a b r w h n =
    meets_at (widened a reach) (int_max (a.left -ℤ reach) b.left) (int_max (a.top -ℤ reach) b.top) (max_from _ _) (max_below _ _ _ (omega (arith, ints)) n.right) (max_from _ _) (max_below _ _ _ (omega (arith, ints)) n.bottom)

pub owner_second : (reach : ℤ) (a b : Bounds) → pos 0 ≤ℤ reach → b.left ≤ℤ b.right → b.top ≤ℤ b.bottom → BoxesMeet (widened a reach) b → meets_tile (widened b reach) (owner_of reach a b) ≡ true
owner_second reach a b r w h n =
    let x : b.left ≤ℤ int_max (a.left -ℤ reach) b.left = max_second (a.left -ℤ reach) b.left in
    let y : b.top ≤ℤ int_max (a.top -ℤ reach) b.top = max_second (a.top -ℤ reach) b.top in
    let x' : int_max (a.left -ℤ reach) b.left ≤ℤ b.right = max_below (a.left -ℤ reach) b.left b.right n.left w in
    let y' : int_max (a.top -ℤ reach) b.top ≤ℤ b.bottom = max_below (a.top -ℤ reach) b.top b.bottom n.top h in
    meets_at (widened b reach) (int_max (a.left -ℤ reach) b.left) (int_max (a.top -ℤ reach) b.top) (omega (arith, ints)) (omega (arith, ints)) (omega (arith, ints)) (omega (arith, ints))

pub owns_both : (margin : ℤ) (a b : Bounds) → pos 0 ≤ℤ margin → FitsWithin (pos 2000000000) a → FitsWithin (pos 2000000000) b → OwnsBoth margin a b (owner_of margin a b)
owns_both margin a b r f g near =
    let n = near_sides margin a b near in (owner_first margin a b r f.wide f.high n, owner_second margin a b r g.wide g.high n)
