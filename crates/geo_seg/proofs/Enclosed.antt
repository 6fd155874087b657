-- The box of a polygon's corners holds all of its points: a rational point to the left of all corners is passed by every edge that
-- crosses its height, and a closed path crosses each height an even number of times.
use Rattle.std.proofs.Common.{◌≡◌, ℤ, pos, neg_ℤ, ◌+ℤ◌, ◌-ℤ◌, ◌*ℤ◌, ◌≤ℤ◌, ◌<ℤ◌, ◌⊎◌, Bool, true, false, List, [], ◌∷◌, refl, sym, ap, ◌∙◌, inl, inr, arith}
use Rattle.std.proofs.lemmas.Int.{ints, by_lt_z}
use Rattle.std.specs.Int.Signed.{le_z, lt_z}
use Rattle.int_algebra.proofs.Ring.{var, num, ◌⊕◌, ◌⊖◌, ◌⊗◌, minus, ring}
use Rattle.int_algebra.proofs.Order.{product-pos, product-nonneg, sum-pos, lt-le, lt_gap, le_gap, lt_by, scale_le, unscale_lt, le_trans, lt_le_trans}
use Rattle.geo_seg.specs.declared.points.Point.{Point}
use Rattle.geo_seg.specs.declared.points.Seg.{Seg}
use Rattle.geo_seg.specs.declared.boxes.Bounds.{Bounds}
use Rattle.geo_seg.specs.Points.{RationalPoint, IsOn, rational_point_of}
use Rattle.geo_seg.specs.Inside.{edge, path, last_of, outline, SomeEdge, EachEdge, is_low, side, passing, passes, IsInside}
use Rattle.geo_seg.specs.Boxes.{IsInBox, IsLeastBox}
use Rattle.geo_seg.specs.PolygonCorners.{EachCorner, IsHeld, IsCornerBox}
use Rattle.geo_seg.specs.RunBoxes.{AreEndsHeld}
use Rattle.geo_seg.proofs.BoxLemmas.{on_in_box, held_of_in_box, end_on}
use Rattle.geo_seg.proofs.CornerBoxes.{each_corner, box_part}
use Rattle.geo_seg.proofs.Parity.{differ, is_odd, is_odd_of, some_passes}

-- ---- edges between corners that the box holds
pub path_held : (b : Bounds) (a : Point) (cs : List Point) → IsHeld b a → EachCorner (IsHeld b) cs → EachEdge (AreEndsHeld b) (path a cs)
path_held b a [] h k = tt
path_held b a (c ∷ cs) h k = ((h, k.0), path_held b c cs k.0 k.1)

last_held : (b : Bounds) (a : Point) (cs : List Point) → IsHeld b a → EachCorner (IsHeld b) cs → IsHeld b (last_of a cs)
last_held b a [] h k = h
last_held b a (c ∷ cs) h k = last_held b c cs k.0 k.1

outline_held : (b : Bounds) (cs : List Point) → EachCorner (IsHeld b) cs → EachEdge (AreEndsHeld b) (outline cs)
outline_held b [] h = tt
outline_held b (c ∷ cs) h = path_held b (last_of c cs) (c ∷ cs) (last_held b c cs h.0 h.1) h

-- an edge of which one thing holds, among edges of which another does
pub edge_with : {P Q : Seg → Type 0} {R : Type 0} → ((e : Seg) → P e → Q e → R) → (es : List Seg) → EachEdge P es → SomeEdge Q es → R
edge_with f [] h k = absurd k
edge_with f (e ∷ es) h (inl k) = f e h.0 k
edge_with f (e ∷ es) h (inr k) = edge_with f es h.1 k

-- ---- the side on which a rational point lies of an edge that rises past it and has its ends to the right of it
rising : (w x y ax ay cx cy : ℤ) → pos 0 <ℤ w → (w *ℤ ay) ≤ℤ y → y <ℤ (w *ℤ cy) → x <ℤ (w *ℤ ax) → x <ℤ (w *ℤ cx) → pos 0 <ℤ ((cx -ℤ ax) *ℤ (y -ℤ w *ℤ ay) -ℤ (cy -ℤ ay) *ℤ (x -ℤ w *ℤ ax))
rising w x y ax ay cx cy hw ha hc hx hz =
    let W = var 0 in let X = var 1 in let Y = var 2 in let AX = var 3 in let AY = var 4 in let CX = var 5 in let CY = var 6 in
    let u = (cx -ℤ ax) *ℤ (y -ℤ w *ℤ ay) -ℤ (cy -ℤ ay) *ℤ (x -ℤ w *ℤ ax) in
    let s = (w *ℤ cy -ℤ y) *ℤ (w *ℤ ax -ℤ x) +ℤ (w *ℤ cx -ℤ x) *ℤ (y -ℤ w *ℤ ay) in
    unscale_lt w (pos 0) u (lt-le (pos 0) w hw)
    (lt_by (w *ℤ pos 0) (w *ℤ u) s
    (ring (w ∷ x ∷ y ∷ ax ∷ ay ∷ cx ∷ cy ∷ []) (W ⊗ ((CX ⊖ AX) ⊗ (Y ⊖ W ⊗ AY) ⊖ (CY ⊖ AY) ⊗ (X ⊖ W ⊗ AX)) ⊖ W ⊗ num (pos 0)) ((W ⊗ CY ⊖ Y) ⊗ (W ⊗ AX ⊖ X) ⊕ (W ⊗ CX ⊖ X) ⊗ (Y ⊖ W ⊗ AY)) tt)
    (sum-pos ((w *ℤ cy -ℤ y) *ℤ (w *ℤ ax -ℤ x)) ((w *ℤ cx -ℤ x) *ℤ (y -ℤ w *ℤ ay))
    (product-pos (w *ℤ cy -ℤ y) (w *ℤ ax -ℤ x) (lt_gap y (w *ℤ cy) hc) (lt_gap x (w *ℤ ax) hx))
    (product-nonneg (w *ℤ cx -ℤ x) (y -ℤ w *ℤ ay) (lt-le (pos 0) (w *ℤ cx -ℤ x) (lt_gap x (w *ℤ cx) hz)) (le_gap (w *ℤ ay) y ha))))

-- seen from its other end the side is the opposite one
turned : (w x y ax ay cx cy : ℤ) → (cx -ℤ ax) *ℤ (y -ℤ w *ℤ ay) -ℤ (cy -ℤ ay) *ℤ (x -ℤ w *ℤ ax) ≡ neg_ℤ ((ax -ℤ cx) *ℤ (y -ℤ w *ℤ cy) -ℤ (ay -ℤ cy) *ℤ (x -ℤ w *ℤ cx))
turned w x y ax ay cx cy =
    let W = var 0 in let X = var 1 in let Y = var 2 in let AX = var 3 in let AY = var 4 in let CX = var 5 in let CY = var 6 in
    ring (w ∷ x ∷ y ∷ ax ∷ ay ∷ cx ∷ cy ∷ []) ((CX ⊖ AX) ⊗ (Y ⊖ W ⊗ AY) ⊖ (CY ⊖ AY) ⊗ (X ⊖ W ⊗ AX)) (minus ((AX ⊖ CX) ⊗ (Y ⊖ W ⊗ CY) ⊖ (AY ⊖ CY) ⊗ (X ⊖ W ⊗ CX))) tt

-- and so it is in a mirror
mirrored : (w x y ax ay cx cy : ℤ) → (neg_ℤ cx -ℤ neg_ℤ ax) *ℤ (y -ℤ w *ℤ ay) -ℤ (cy -ℤ ay) *ℤ (neg_ℤ x -ℤ w *ℤ neg_ℤ ax) ≡ neg_ℤ ((cx -ℤ ax) *ℤ (y -ℤ w *ℤ ay) -ℤ (cy -ℤ ay) *ℤ (x -ℤ w *ℤ ax))
mirrored w x y ax ay cx cy =
    let W = var 0 in let X = var 1 in let Y = var 2 in let AX = var 3 in let AY = var 4 in let CX = var 5 in let CY = var 6 in
    ring (w ∷ x ∷ y ∷ ax ∷ ay ∷ cx ∷ cy ∷ []) ((minus CX ⊖ minus AX) ⊗ (Y ⊖ W ⊗ AY) ⊖ (CY ⊖ AY) ⊗ (minus X ⊖ W ⊗ minus AX)) (minus ((CX ⊖ AX) ⊗ (Y ⊖ W ⊗ AY) ⊖ (CY ⊖ AY) ⊗ (X ⊖ W ⊗ AX))) tt

below_neg : (u v : ℤ) → u ≡ neg_ℤ v → pos 0 <ℤ v → u <ℤ pos 0
below_neg u v e h = omega (arith, ints)

pushed : (w x l a : ℤ) → pos 0 <ℤ w → x <ℤ (w *ℤ l) → l ≤ℤ a → x <ℤ (w *ℤ a)
pushed w x l a hw h k = lt_le_trans x (w *ℤ l) (w *ℤ a) h (scale_le w l a (lt-le (pos 0) w hw) k)

-- x beyond w r, seen in the mirror
pushed_back : (w x r a : ℤ) → pos 0 <ℤ w → (w *ℤ r) <ℤ x → a ≤ℤ r → neg_ℤ x <ℤ (w *ℤ neg_ℤ a)
pushed_back w x r a hw h k = step x (w *ℤ r) (w *ℤ a) (w *ℤ neg_ℤ a) h (scale_le w a r (lt-le (pos 0) w hw) k) (ring (w ∷ a ∷ []) (var 0 ⊗ minus (var 1)) (minus (var 0 ⊗ var 1)) tt)
  where
    step : (x b c n : ℤ) → b <ℤ x → c ≤ℤ b → n ≡ neg_ℤ c → neg_ℤ x <ℤ n
    step x b c n h k e = omega (arith, ints)

-- ---- an edge that passes
low_out : (a b : ℤ) → le_z a b ≡ true → a ≤ℤ b
low_out a b h = omega (arith, ints)

high_out : (a b : ℤ) → le_z a b ≡ false → b <ℤ a
high_out a b h = omega (arith, ints)

lt_out : (a b : ℤ) → lt_z a b ≡ true → a <ℤ b
lt_out a b h = omega (arith, ints)

lt_in : (a b : ℤ) → a <ℤ b → lt_z a b ≡ true
lt_in a b h = let e : true ≡ lt_z a b = omega (arith, ints) in sym e

pub record Rises (p : RationalPoint) (e : Seg) : Type 0 where
  pub start : (p.w *ℤ e.a.y) ≤ℤ p.y
  pub end : p.y <ℤ (p.w *ℤ e.b.y)
  pub left : pos 0 <ℤ side e p

pub record Falls (p : RationalPoint) (e : Seg) : Type 0 where
  pub start : p.y <ℤ (p.w *ℤ e.a.y)
  pub end : (p.w *ℤ e.b.y) ≤ℤ p.y
  pub right : side e p <ℤ pos 0

pub how_passes : (p : RationalPoint) (e : Seg) → passes p e ≡ true → Rises p e ⊎ Falls p e
how_passes p e h = cases (is_low p e.a) (is_low p e.b) refl refl h
  where
    cases : (l m : Bool) → is_low p e.a ≡ l → is_low p e.b ≡ m → passing l m (side e p) ≡ true → Rises p e ⊎ Falls p e
    cases true true i j k = cc
    cases true false i j k = inl (record { start = low_out (p.w *ℤ e.a.y) p.y i; end = high_out (p.w *ℤ e.b.y) p.y j; left = lt_out (pos 0) (side e p) k })
    cases false true i j k = inr (record { start = high_out (p.w *ℤ e.a.y) p.y i; end = low_out (p.w *ℤ e.b.y) p.y j; right = lt_out (side e p) (pos 0) k })
    cases false false i j k = cc

to_height : (w u v y : ℤ) → pos 0 <ℤ w → u ≤ℤ v → (w *ℤ v) ≤ℤ y → (w *ℤ u) ≤ℤ y
to_height w u v y hw h k = le_trans (w *ℤ u) (w *ℤ v) y (scale_le w u v (lt-le (pos 0) w hw) h) k

to_depth : (w u v y : ℤ) → pos 0 <ℤ w → v ≤ℤ u → y <ℤ (w *ℤ v) → y ≤ℤ (w *ℤ u)
to_depth w u v y hw h k = lt-le y (w *ℤ u) (lt_le_trans y (w *ℤ v) (w *ℤ u) k (scale_le w v u (lt-le (pos 0) w hw) h))

clash : (u : ℤ) → pos 0 <ℤ u → u <ℤ pos 0 → ⊥
clash u h k = omega (arith, ints)

-- an edge that passes is not to the left of the rational point
not_beyond : (p : RationalPoint) (e : Seg) (r : ℤ) → e.a.x ≤ℤ r → e.b.x ≤ℤ r → Rises p e ⊎ Falls p e → (p.w *ℤ r) <ℤ p.x → ⊥
not_beyond p e r ha hc (inl h) k =
    clash (side e p) h.left
    (flip (side e p) ((neg_ℤ e.b.x -ℤ neg_ℤ e.a.x) *ℤ (p.y -ℤ p.w *ℤ e.a.y) -ℤ (e.b.y -ℤ e.a.y) *ℤ (neg_ℤ p.x -ℤ p.w *ℤ neg_ℤ e.a.x)) (mirrored p.w p.x p.y e.a.x e.a.y e.b.x e.b.y)
    (rising p.w (neg_ℤ p.x) p.y (neg_ℤ e.a.x) e.a.y (neg_ℤ e.b.x) e.b.y p.positive h.start h.end (pushed_back p.w p.x r e.a.x p.positive k ha) (pushed_back p.w p.x r e.b.x p.positive k hc)))
  where
    flip : (u v : ℤ) → v ≡ neg_ℤ u → pos 0 <ℤ v → u <ℤ pos 0
    flip u v e h = omega (arith, ints)
not_beyond p e r ha hc (inr h) k =
    let back = (e.a.x -ℤ e.b.x) *ℤ (p.y -ℤ p.w *ℤ e.b.y) -ℤ (e.a.y -ℤ e.b.y) *ℤ (p.x -ℤ p.w *ℤ e.b.x) in
    clash (side e p)
    (flip (side e p) back ((neg_ℤ e.a.x -ℤ neg_ℤ e.b.x) *ℤ (p.y -ℤ p.w *ℤ e.b.y) -ℤ (e.a.y -ℤ e.b.y) *ℤ (neg_ℤ p.x -ℤ p.w *ℤ neg_ℤ e.b.x)) (turned p.w p.x p.y e.a.x e.a.y e.b.x e.b.y) (mirrored p.w p.x p.y e.b.x e.b.y e.a.x e.a.y)
    (rising p.w (neg_ℤ p.x) p.y (neg_ℤ e.b.x) e.b.y (neg_ℤ e.a.x) e.a.y p.positive h.end h.start (pushed_back p.w p.x r e.b.x p.positive k hc) (pushed_back p.w p.x r e.a.x p.positive k ha)))
    h.right
  where
    flip : (u t v : ℤ) → u ≡ neg_ℤ t → v ≡ neg_ℤ t → pos 0 <ℤ v → pos 0 <ℤ u
    flip u t v e f h = omega (arith, ints)

-- the heights between which an edge passes, and how far right it must reach
pub record Between (b : Bounds) (p : RationalPoint) : Type 0 where
  pub top : (p.w *ℤ b.top) ≤ℤ p.y
  pub right : p.x ≤ℤ (p.w *ℤ b.right)
  pub bottom : p.y ≤ℤ (p.w *ℤ b.bottom)

pub in_between : (b : Bounds) (p : RationalPoint) (e : Seg) → AreEndsHeld b e → Rises p e ⊎ Falls p e → Between b p
in_between b p e h k = record {
  top = top_by k;
  right = by_lt_z (p.w *ℤ b.right) p.x (λ l. absurd (not_beyond p e b.right h.0.right h.1.right k l)) (λ l. l);
  bottom = bottom_by k;
}
  where
    top_by : Rises p e ⊎ Falls p e → (p.w *ℤ b.top) ≤ℤ p.y
    top_by (inl r) = to_height p.w b.top e.a.y p.y p.positive h.0.top r.start
    top_by (inr r) = to_height p.w b.top e.b.y p.y p.positive h.1.top r.end

    bottom_by : Rises p e ⊎ Falls p e → p.y ≤ℤ (p.w *ℤ b.bottom)
    bottom_by (inl r) = to_depth p.w b.bottom e.b.y p.y p.positive h.1.bottom r.end
    bottom_by (inr r) = to_depth p.w b.bottom e.a.y p.y p.positive h.0.bottom r.start

-- ---- a rational point to the left of all corners
-- every edge between a corner at the rational point's height or below and a higher one passes
all_pass : (b : Bounds) (p : RationalPoint) (e : Seg) → AreEndsHeld b e → p.x <ℤ (p.w *ℤ b.left) → passes p e ≡ differ (is_low p e.a) (is_low p e.b)
all_pass b p e h k = cases (is_low p e.a) (is_low p e.b) refl refl
  where
    ax : p.x <ℤ (p.w *ℤ e.a.x)
    ax = pushed p.w p.x b.left e.a.x p.positive k h.0.left

    bx : p.x <ℤ (p.w *ℤ e.b.x)
    bx = pushed p.w p.x b.left e.b.x p.positive k h.1.left

    cases : (l m : Bool) → is_low p e.a ≡ l → is_low p e.b ≡ m → passing l m (side e p) ≡ differ l m
    cases true true i j = refl
    cases true false i j = lt_in (pos 0) (side e p) (rising p.w p.x p.y e.a.x e.a.y e.b.x e.b.y p.positive (low_out (p.w *ℤ e.a.y) p.y i) (high_out (p.w *ℤ e.b.y) p.y j) ax bx)
    cases false true i j = lt_in (side e p) (pos 0)
        (below_neg (side e p) ((e.a.x -ℤ e.b.x) *ℤ (p.y -ℤ p.w *ℤ e.b.y) -ℤ (e.a.y -ℤ e.b.y) *ℤ (p.x -ℤ p.w *ℤ e.b.x)) (turned p.w p.x p.y e.a.x e.a.y e.b.x e.b.y)
        (rising p.w p.x p.y e.b.x e.b.y e.a.x e.a.y p.positive (low_out (p.w *ℤ e.b.y) p.y j) (high_out (p.w *ℤ e.a.y) p.y i) bx ax))
    cases false false i j = refl

joined : (x y z : Bool) → differ (differ x y) (differ y z) ≡ differ x z
joined true true true = refl
joined true true false = refl
joined true false true = refl
joined true false false = refl
joined false true true = refl
joined false true false = refl
joined false false true = refl
joined false false false = refl

-- so the parity of a path is that of its two ends
pub path_parity : (b : Bounds) (p : RationalPoint) (a : Point) (cs : List Point) → p.x <ℤ (p.w *ℤ b.left) → EachEdge (AreEndsHeld b) (path a cs) → is_odd p (path a cs) ≡ differ (is_low p a) (is_low p (last_of a cs))
path_parity b p a [] k h = none (is_low p a)
  where
    none : (l : Bool) → false ≡ differ l l
    none true = refl
    none false = refl
path_parity b p a (c ∷ cs) k h =
    ap (λ l. differ l (is_odd p (path c cs))) (all_pass b p (edge a c) h.0 k)
    ∙ ap (λ l. differ (differ (is_low p a) (is_low p c)) l) (path_parity b p c cs k h.1)
    ∙ joined (is_low p a) (is_low p c) (is_low p (last_of c cs))

even_left : (b : Bounds) (cs : List Point) (p : RationalPoint) → EachCorner (IsHeld b) cs → p.x <ℤ (p.w *ℤ b.left) → is_odd p (outline cs) ≡ true → ⊥
even_left b [] p h k e = cc
even_left b (c ∷ cs) p h k e = even (is_low p (last_of c cs)) (sym e ∙ path_parity b p (last_of c cs) (c ∷ cs) k (outline_held b (c ∷ cs) h))
  where
    even : (l : Bool) → true ≡ differ l l → ⊥
    even true h = cc
    even false h = cc

-- ---- the box of a polygon
pub inside_in_box : (b : Bounds) (cs : List Point) (p : RationalPoint) → EachCorner (IsHeld b) cs → IsInside cs p → IsInBox b p
inside_in_box b cs p h (inl o) = edge_with (λ e k on. on_in_box b e p k.0 k.1 on) (outline cs) (outline_held b cs h) o
inside_in_box b cs p h (inr o) =
    let odd = is_odd_of p (outline cs) o in
    let k = edge_with (λ e i j. in_between b p e i (how_passes p e j)) (outline cs) (outline_held b cs h) (some_passes p (outline cs) odd) in
    record { left = by_lt_z p.x (p.w *ℤ b.left) (λ l. absurd (even_left b cs p h l odd)) (λ l. l); top = k.top; right = k.right; bottom = k.bottom }

-- each corner ends an edge
path_ends : (a : Point) (cs : List Point) → EachCorner (λ k. SomeEdge (λ e. IsOn e (rational_point_of k)) (path a cs)) cs
path_ends a [] = tt
path_ends a (c ∷ cs) = (inl (end_on (edge a c)), each_corner (λ k h. inr h) cs (path_ends c cs))

corners_inside : (cs : List Point) → EachCorner (λ k. IsInside cs (rational_point_of k)) cs
corners_inside [] = tt
corners_inside (c ∷ cs) = each_corner (λ k h. inl h) (c ∷ cs) (path_ends (last_of c cs) (c ∷ cs))

pub poly_box : (cs : List Point) (b : Bounds) → IsCornerBox cs b → IsLeastBox (IsInside cs) b
poly_box cs b h = record {
  holds = λ p o. inside_in_box b cs p h.holds o;
  least = λ c k. box_part cs b c h (each_corner (λ q o. held_of_in_box c q (k (rational_point_of q) o)) cs (corners_inside cs));
}
