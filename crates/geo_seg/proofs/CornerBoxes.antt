-- The box of some corners, and the least boxes of points and segments.
use Rattle.std.proofs.Common.{◌≡◌, ◌≤◌, ◌++◌, ℤ, pos, neg_ℤ, ◌≤ℤ◌, ◌⊎◌, List, [], ◌∷◌, unsigned_abs, sym, subst, inl, inr, arith}
use Rattle.std.proofs.lemmas.Int.{ints}
use Rattle.int_algebra.proofs.Order.{le_trans}
use Rattle.geo_seg.specs.declared.points.Point.{Point}
use Rattle.geo_seg.specs.declared.points.Seg.{Seg}
use Rattle.geo_seg.specs.declared.boxes.Bounds.{Bounds}
use Rattle.geo_seg.specs.Points.{IsAt, IsOn, rational_point_of}
use Rattle.geo_seg.specs.Boxes.{IsPartOf, IsUnion, IsLeastBox, FitsWithin}
use Rattle.geo_seg.specs.PolygonCorners.{EachCorner, SomeCorner, IsHeld, IsCornerBox}
use Rattle.geo_seg.proofs.BoxLemmas.{at_in_box, on_in_box, held_of_in_box, start_on, end_on}
use Rattle.geo_seg.proofs.PointReach.{rational_point_of-IsAt}
use Rattle.geo_seg.proofs.Unions.{sides_of_union}

pub each_corner : {P Q : Point → Type 0} → ((k : Point) → P k → Q k) → (cs : List Point) → EachCorner P cs → EachCorner Q cs
each_corner f [] h = tt
each_corner f (c ∷ cs) h = (f c h.0, each_corner f cs h.1)

-- a corner of which one thing holds, among corners of which another does
pub corner_with : {P Q : Point → Type 0} {R : Type 0} → ((k : Point) → P k → Q k → R) → (cs : List Point) → EachCorner P cs → SomeCorner Q cs → R
corner_with f [] h k = absurd k
corner_with f (c ∷ cs) h (inl k) = f c h.0 k
corner_with f (c ∷ cs) h (inr k) = corner_with f cs h.1 k

each_append : (P : Point → Type 0) (cs ks : List Point) → EachCorner P cs → EachCorner P ks → EachCorner P (cs ++ ks)
each_append P [] ks h k = k
each_append P (c ∷ cs) ks h k = (h.0, each_append P cs ks h.1 k)

some_prefix : (P : Point → Type 0) (cs ks : List Point) → SomeCorner P cs → SomeCorner P (cs ++ ks)
some_prefix P [] ks h = absurd h
some_prefix P (c ∷ cs) ks (inl h) = inl h
some_prefix P (c ∷ cs) ks (inr h) = inr (some_prefix P cs ks h)

some_back : (P : Point → Type 0) (cs ks : List Point) → SomeCorner P ks → SomeCorner P (cs ++ ks)
some_back P [] ks h = h
some_back P (c ∷ cs) ks h = inr (some_back P cs ks h)

-- ---- the box of two lists of corners
reached : (f : Point → ℤ) (cs ks : List Point) (u v r : ℤ) → SomeCorner (λ c. f c ≡ u) cs → SomeCorner (λ c. f c ≡ v) ks → (r ≡ u) ⊎ (r ≡ v) → SomeCorner (λ c. f c ≡ r) (cs ++ ks)
reached f cs ks u v r h k (inl e) = subst (λ (z : ℤ). SomeCorner (λ c. f c ≡ z) (cs ++ ks)) (sym e) (some_prefix (λ c. f c ≡ u) cs ks h)
reached f cs ks u v r h k (inr e) = subst (λ (z : ℤ). SomeCorner (λ c. f c ≡ z) (cs ++ ks)) (sym e) (some_back (λ c. f c ≡ v) cs ks k)

wider : (b r : Bounds) → IsPartOf b r → (cs : List Point) → EachCorner (IsHeld b) cs → EachCorner (IsHeld r) cs
wider b r h cs k = each_corner (λ c o. record {
  left = le_trans r.left b.left c.x h.left o.left;
  top = le_trans r.top b.top c.y h.top o.top;
  right = le_trans c.x b.right r.right o.right h.right;
  bottom = le_trans c.y b.bottom r.bottom o.bottom h.bottom;
}) cs k

pub union_box : (cs ks : List Point) (b c r : Bounds) → IsCornerBox cs b → IsCornerBox ks c → IsUnion b c r → IsCornerBox (cs ++ ks) r
union_box cs ks b c r h k u =
    let s = sides_of_union b c r u in
    record {
      holds = each_append (IsHeld r) cs ks (wider b r u.first cs h.holds) (wider c r u.second ks k.holds);
      left = reached (λ p. p.x) cs ks b.left c.left r.left h.left k.left s.left.either;
      top = reached (λ p. p.y) cs ks b.top c.top r.top h.top k.top s.top.either;
      right = reached (λ p. p.x) cs ks b.right c.right r.right h.right k.right s.right.either;
      bottom = reached (λ p. p.y) cs ks b.bottom c.bottom r.bottom h.bottom k.bottom s.bottom.either;
    }

-- ---- least boxes
pub box_part : (cs : List Point) (b c : Bounds) → IsCornerBox cs b → EachCorner (IsHeld c) cs → IsPartOf b c
box_part cs b c h k = record {
  left = corner_with (λ p o e. subst (λ (z : ℤ). c.left ≤ℤ z) e o.left) cs k h.left;
  top = corner_with (λ p o e. subst (λ (z : ℤ). c.top ≤ℤ z) e o.top) cs k h.top;
  right = corner_with (λ p o e. subst (λ (z : ℤ). z ≤ℤ c.right) e o.right) cs k h.right;
  bottom = corner_with (λ p o e. subst (λ (z : ℤ). z ≤ℤ c.bottom) e o.bottom) cs k h.bottom;
}

pub point_box : (p : Point) (b : Bounds) → IsCornerBox (p ∷ []) b → IsLeastBox (IsAt p) b
point_box p b h = record {
  holds = λ q o. at_in_box b p q h.holds.0 o;
  least = λ c k. box_part (p ∷ []) b c h (held_of_in_box c p (k (rational_point_of p) (rational_point_of-IsAt p)), tt);
}

pub seg_box : (s : Seg) (b : Bounds) → IsCornerBox (s.a ∷ s.b ∷ []) b → IsLeastBox (IsOn s) b
seg_box s b h = record {
  holds = λ q o. on_in_box b s q h.holds.0 h.holds.1.0 o;
  least = λ c k. box_part (s.a ∷ s.b ∷ []) b c h (held_of_in_box c s.a (k (rational_point_of s.a) (start_on s)), (held_of_in_box c s.b (k (rational_point_of s.b) (end_on s)), tt));
}

-- ---- its sides are within the range of corners
pub box_fits : (cs : List Point) (b : Bounds) → IsCornerBox cs b → FitsWithin (pos 1000000000) b
box_fits cs b h = record {
  wide = corner_with (λ p o e. subst (λ (z : ℤ). z ≤ℤ b.right) e o.right) cs h.holds h.left;
  high = corner_with (λ p o e. subst (λ (z : ℤ). z ≤ℤ b.bottom) e o.bottom) cs h.holds h.top;
  left = corner_with (λ p o e. low p.x b.left p.x_in_range e) cs h.holds h.left;
  top = corner_with (λ p o e. low p.y b.top p.y_in_range e) cs h.holds h.top;
  right = corner_with (λ p o e. high p.x b.right p.x_in_range e) cs h.holds h.right;
  bottom = corner_with (λ p o e. high p.y b.bottom p.y_in_range e) cs h.holds h.bottom;
}
  where
    low : (x u : ℤ) → unsigned_abs x ≤ 1000000000 → x ≡ u → neg_ℤ (pos 1000000000) ≤ℤ u
    low x u h e = omega (arith, ints)

    high : (x u : ℤ) → unsigned_abs x ≤ 1000000000 → x ≡ u → u ≤ℤ pos 1000000000
    high x u h e = omega (arith, ints)
