-- Runs of edges of an outline: what a walk knows of those behind it, and what boxes tell of them.
use Rattle.std.proofs.Common.{◌≡◌, ℕ, ◌+◌, ◌-◌, ◌<◌, ◌≤◌, ◌⊎◌, ◌↔◌, ℤ, pos, ◌+ℤ◌, ◌-ℤ◌, ◌*ℤ◌, ◌≤ℤ◌, ◌<ℤ◌, unsigned_abs, Bool, true, false, not, IsTrue, List, [], ◌∷◌, ◌++◌, length, take, drop, get_or, refl, sym, ap, ◌∙◌, subst, inl, inr, arith, drop-drop, length-drop}
use Rattle.std.proofs.lemmas.Int.{ints}
use Rattle.std.proofs.lemmas.List.{take_all, get_or-take, length-take-le}
use Rattle.std.proofs.Math.Seq.{take-add}
use Rattle.std.specs.Int.Signed.{le_z, lt_z}
use mathlib.Core.Bool.{beq}
use Rattle.geo_seg.specs.declared.points.Point.{Point}
use Rattle.geo_seg.specs.declared.points.Seg.{Seg}
use Rattle.geo_seg.specs.declared.boxes.Bounds.{Bounds}
use Rattle.geo_seg.specs.Points.{RationalPoint, IsOn, rational_point_of}
use Rattle.geo_seg.specs.Boxes.{IsInBox, AreClear, IsLeastBox, FitsWithin}
use Rattle.geo_seg.specs.Nearer.{IsUpTo}
use Rattle.geo_seg.specs.Inside.{path, last_of, outline, EachEdge, SomeEdge, is_low, passes, IsInside}
use Rattle.geo_seg.specs.RunBoxes.{AreEndsHeld, IsRunBox}
use Rattle.geo_seg.proofs.Parity.{differ, is_odd, is_odd_of, odd_of_is_odd, some_passes}
use Rattle.geo_seg.proofs.Enclosed.{path_parity, edge_with, how_passes, in_between, Between}
use Rattle.geo_seg.proofs.Choices.{fails_by, either_way}
use Rattle.geo_seg.proofs.BoxLemmas.{held_of_in_box, start_on, end_on}
use Rattle.geo_seg.proofs.Passed.{passed, left_in_range, right_in_range, top_in_range, bottom_in_range}
use Rattle.geo_seg.proofs.RunBoxes.{last_is, path_take, path_drop, path_length}
use Rattle.geo_poly.specs.OutlineEdges.{IsApart, IsReached, EachApart, SomeReached}
use Rattle.geo_poly.specs.declared.runs.Part.{Part}
use Rattle.geo_poly.specs.EdgeRuns.{between, LiesClear, PassOdd, IsMissed, IsBeside}
use Rattle.geo_poly.specs.OutlineParts.{edges_of}
use Rattle.geo_seg.proofs.Distances.{apart_not_within}
use Rattle.geo_poly.proofs.Covers.{Covers, covers_ends, covers_outline, edge_clear, both_clear, none_both_clear}
use Rattle.geo_poly.proofs.Outline.{low_at, low_kept}
use Rattle.geo_poly.proofs.Answers.{each_append, apart_append, some_in, some_left, some_right, reached_in, reached_left, reached_right, each_nothing, reached_nothing}

-- ---- the edges between two places
pub between_cut : (low mid high : ℕ) (es : List Seg) → low ≤ mid → mid ≤ high → between low high es ≡ between low mid es ++ between mid high es
between_cut low mid high es h k =
    let n = mid - low in let m = high - mid in
    let s : high - low ≡ n + m = omega arith in
    let t : low + n ≡ mid = omega arith in
    ap (λ z. take z (drop low es)) s ∙ take-add n m (drop low es) ∙ ap (λ us. take n (drop low es) ++ take m us) (drop-drop n low es ∙ ap (λ z. drop z es) t)

pub between_none : (low high : ℕ) (es : List Seg) → high ≤ low → between low high es ≡ []
between_none low high es h = let s : high - low ≡ 0 = omega arith in ap (λ z. take z (drop low es)) s

pub between_all : (n : ℕ) (es : List Seg) → length es ≤ n → between 0 n es ≡ es
between_all n es h = let l : length es ≤ n - 0 = omega arith in take_all (n - 0) es l

pub outline_length : (cs : List Point) → length (outline cs) ≡ length cs
outline_length [] = refl
outline_length (c ∷ cs) = path_length (last_of c cs) (c ∷ cs)

pub before_is : (cs : List Point) (low : ℕ) (x : Point) → 0 < low → low < length cs → x ≡ get_or cs (low - 1) x → drop low (outline cs) ≡ path x (drop low cs)
before_is [] low x h k e = absurd (omega arith)
before_is (c ∷ cs) low x h k e =
    let X = c ∷ cs in let l = last_of c cs in
    let n : low ≤ length X = omega arith in
    let t : length (take low X) ≡ low = length-take-le low X n in
    let i : low - 1 < low = omega arith in
    let at : x ≡ get_or (take low X) (length (take low X) - 1) x = e ∙ sym (get_or-take low X (low - 1) x i) ∙ ap (λ z. get_or (take low X) (z - 1) x) (sym t) in
    path_drop l X low n ∙ ap (λ z. path z (drop low X)) (sym (last_is l x (take low X) (subst (λ z. 0 < z) (sym t) h) at))

-- the edges between two places as a path
pub part_path : (a : Point) (cs : List Point) (low high : ℕ) → drop low (outline cs) ≡ path a (drop low cs) → between low high (outline cs) ≡ path a (take (high - low) (drop low cs))
part_path a cs low high e = ap (take (high - low)) e ∙ path_take a (drop low cs) (high - low)

-- ---- each edge, and some edge
pub each_weaker : {P Q : Seg → Type 0} → ((e : Seg) → P e → Q e) → (es : List Seg) → EachEdge P es → EachEdge Q es
each_weaker f [] h = tt
each_weaker f (e ∷ es) h = (f e h.0, each_weaker f es h.1)

-- a walk goes on: what holds of the edges behind it and of those that it passes holds of all of them
abbrev pub Joins : (List Seg → Type 0) → Type 0
Joins Q = (X Y : List Seg) → Q X → Q Y → Q (X ++ Y)

pub joined_on : (Q : List Seg → Type 0) → Joins Q → (low mid high : ℕ) (es : List Seg) → low ≤ mid → mid ≤ high → Q (between low mid es) → Q (between mid high es) → Q (between low high es)
joined_on Q j low mid high es h k x y = subst Q (sym (between_cut low mid high es h k)) (j (between low mid es) (between mid high es) x y)

pub each_joins : (P : Seg → Type 0) → Joins (EachEdge P)
each_joins P X Y x y = (each_append P X Y).1 (x, y)

pub none_joins : (P : Seg → Type 0) → Joins (λ es. ¬ (SomeEdge P es))
none_joins P X Y x y z = either_way x y (some_in P X Y z)

pub each_on : (P : Seg → Type 0) (low mid high : ℕ) (es : List Seg) → low ≤ mid → mid ≤ high → EachEdge P (between low mid es) → EachEdge P (between mid high es) → EachEdge P (between low high es)
each_on P low mid high es h k x y = joined_on (EachEdge P) (each_joins P) low mid high es h k x y

pub none_on : (P : Seg → Type 0) (low mid high : ℕ) (es : List Seg) → low ≤ mid → mid ≤ high → ¬ (SomeEdge P (between low mid es)) → ¬ (SomeEdge P (between mid high es)) → ¬ (SomeEdge P (between low high es))
none_on P low mid high es h k x y = joined_on (λ us. ¬ (SomeEdge P us)) (none_joins P) low mid high es h k x y

-- what holds of each edge holds of each of a part
pub each_part : (P : Seg → Type 0) (from low high to : ℕ) (es : List Seg) → from ≤ low → low ≤ high → high ≤ to → EachEdge P (between from to es) → EachEdge P (between low high es)
each_part P from low high to es h k l x =
    let f : low ≤ to = omega arith in
    let y = ((each_append P (between from low es) (between low to es)).0 (subst (EachEdge P) (between_cut from low to es h f) x)).1 in
    ((each_append P (between low high es) (between high to es)).0 (subst (EachEdge P) (between_cut low high to es k l) y)).0

pub some_part : (P : Seg → Type 0) (from low high to : ℕ) (es : List Seg) → from ≤ low → low ≤ high → high ≤ to → SomeEdge P (between low high es) → SomeEdge P (between from to es)
some_part P from low high to es h k l x =
    let f : low ≤ to = omega arith in
    let y = subst (SomeEdge P) (sym (between_cut low high to es k l)) (some_left P (between low high es) (between high to es) x) in
    subst (SomeEdge P) (sym (between_cut from low to es h f)) (some_right P (between from low es) (between low to es) y)

-- the same of a second outline
pub apart_on : (d : ℤ) (us : List Seg) (low mid high : ℕ) (es : List Seg) → low ≤ mid → mid ≤ high → EachApart d us (between low mid es) → EachApart d us (between mid high es) → EachApart d us (between low high es)
apart_on d us low mid high es h k x y = joined_on (EachApart d us) (λ X Y u v. (apart_append d us X Y).1 (u, v)) low mid high es h k x y

pub apart_part : (d : ℤ) (us : List Seg) (from low high to : ℕ) (es : List Seg) → from ≤ low → low ≤ high → high ≤ to → EachApart d us (between from to es) → EachApart d us (between low high es)
apart_part d us from low high to es h k l x =
    let f : low ≤ to = omega arith in
    let y = ((apart_append d us (between from low es) (between low to es)).0 (subst (EachApart d us) (between_cut from low to es h f) x)).1 in
    ((apart_append d us (between low high es) (between high to es)).0 (subst (EachApart d us) (between_cut low high to es k l) y)).0

pub beyond_on : (d : ℤ) (us : List Seg) (low mid high : ℕ) (es : List Seg) → low ≤ mid → mid ≤ high → ¬ (SomeReached d us (between low mid es)) → ¬ (SomeReached d us (between mid high es)) → ¬ (SomeReached d us (between low high es))
beyond_on d us low mid high es h k x y = joined_on (λ vs. ¬ (SomeReached d us vs)) (λ X Y u v z. either_way u v (reached_in d us X Y z)) low mid high es h k x y

pub reached_part : (d : ℤ) (us : List Seg) (from low high to : ℕ) (es : List Seg) → from ≤ low → low ≤ high → high ≤ to → SomeReached d us (between low high es) → SomeReached d us (between from to es)
reached_part d us from low high to es h k l x =
    let f : low ≤ to = omega arith in
    let y = subst (SomeReached d us) (sym (between_cut low high to es k l)) (reached_left d us (between low high es) (between high to es) x) in
    subst (SomeReached d us) (sym (between_cut from low to es h f)) (reached_right d us (between from low es) (between low to es) y)

-- ---- what lies clear of a box
pub clear_held : (b near : Bounds) (d : ℤ) (es : List Seg) → AreClear b near d → EachEdge (AreEndsHeld b) es → EachEdge (LiesClear near d) es
clear_held b near d es k h = each_weaker (λ e o. record { hull = b; held = o; clear = k }) es h

apart_of_clear : (near : Bounds) (d : ℤ) (s e : Seg) → pos 0 ≤ℤ d → Covers near s → LiesClear near d e → IsApart e s d
apart_of_clear near d s e hd hs c = edge_clear c.hull near e s d hd (covers_ends c.hull e c.held) hs c.clear

pub each_apart : (near : Bounds) (d : ℤ) (s : Seg) (es : List Seg) → pos 0 ≤ℤ d → Covers near s → EachEdge (LiesClear near d) es → EachEdge (λ e. IsApart e s d) es
each_apart near d s es hd hs h = each_weaker (λ e c. apart_of_clear near d s e hd hs c) es h

pub none_reached : (near : Bounds) (d : ℤ) (s : Seg) (es : List Seg) → pos 0 ≤ℤ d → Covers near s → EachEdge (LiesClear near (d +ℤ pos 1)) es → ¬ (SomeEdge (λ e. IsReached e s d) es)
none_reached near d s es hd hs h x =
    edge_with (λ e c r. apart_not_within (IsOn e) (IsOn s) d (d +ℤ pos 1) hd (more d) (apart_of_clear near (d +ℤ pos 1) s e (up d hd) hs c) r) es h x
  where
    more : (d : ℤ) → d <ℤ (d +ℤ pos 1)
    more d = omega (arith, ints)

    up : (d : ℤ) → pos 0 ≤ℤ d → pos 0 ≤ℤ (d +ℤ pos 1)
    up d h = omega (arith, ints)

pub run_covers : (b : Bounds) (es : List Seg) → IsRunBox es b → EachEdge (Covers b) es
run_covers b es h = each_weaker (covers_ends b) es h.holds

-- ---- parities
pub odd_by : (p : RationalPoint) (es : List Seg) (b : Bool) → is_odd p es ≡ b → (IsTrue b ↔ PassOdd p es)
odd_by p es b e = (λ t. odd_of_is_odd p es (e ∙ t), λ h. sym e ∙ is_odd_of p es h)

pub odd_is : (p : RationalPoint) (es : List Seg) (b : Bool) → (IsTrue b ↔ PassOdd p es) → is_odd p es ≡ b
odd_is p es true f = is_odd_of p es (f.0 refl)
odd_is p es false f = by (is_odd p es) refl
  where
    by : (b : Bool) → is_odd p es ≡ b → b ≡ false
    by true e = absurd (no (f.1 (odd_of_is_odd p es e)))
      where
        no : false ≡ true → ⊥
        no h = cc
    by false e = refl

differ_assoc : (x y z : Bool) → differ x (differ y z) ≡ differ (differ x y) z
differ_assoc true true z = not_not z
  where
    not_not : (z : Bool) → not (not z) ≡ z
    not_not true = refl
    not_not false = refl
differ_assoc true false z = refl
differ_assoc false y z = refl

odd_append : (p : RationalPoint) (X Y : List Seg) → is_odd p (X ++ Y) ≡ differ (is_odd p X) (is_odd p Y)
odd_append p [] Y = refl
odd_append p (e ∷ X) Y = ap (differ (passes p e)) (odd_append p X Y) ∙ differ_assoc (passes p e) (is_odd p X) (is_odd p Y)

pub odd_on : (p : RationalPoint) (low mid high : ℕ) (es : List Seg) → low ≤ mid → mid ≤ high → is_odd p (between low high es) ≡ differ (is_odd p (between low mid es)) (is_odd p (between mid high es))
odd_on p low mid high es h k = ap (is_odd p) (between_cut low mid high es h k) ∙ odd_append p (between low mid es) (between mid high es)

-- a box that the ray misses has no edge that passes
pub missed_even : (b : Bounds) (p : Point) (es : List Seg) → IsMissed b p → EachEdge (AreEndsHeld b) es → is_odd (rational_point_of p) es ≡ true → ⊥
unfolding rational_point_of
missed_even b p es m h e = clash m (edge_with (λ x i j. in_between b (rational_point_of p) x i (how_passes (rational_point_of p) x j)) es h (some_passes (rational_point_of p) es e))
  where
    clash : IsMissed b p → Between b (rational_point_of p) → ⊥
    clash (inl m) k = above b.top p.y m k.top
      where
        above : (t y : ℤ) → y <ℤ t → (pos 1 *ℤ t) ≤ℤ y → ⊥
        above t y m k = omega (arith, ints)
    clash (inr (inl m)) k = below b.bottom p.y m k.bottom
      where
        below : (t y : ℤ) → t <ℤ y → y ≤ℤ (pos 1 *ℤ t) → ⊥
        below t y m k = omega (arith, ints)
    clash (inr (inr m)) k = below b.right p.x m k.right
      where
        below : (t y : ℤ) → t <ℤ y → y ≤ℤ (pos 1 *ℤ t) → ⊥
        below t y m k = omega (arith, ints)

-- a box beside one that holds p is missed by the ray
pub missed_beside : (b near : Bounds) (d : ℤ) (p : Point) → pos 0 <ℤ d → IsInBox near (rational_point_of p) → IsBeside b near d → IsMissed b p
unfolding rational_point_of
missed_beside b near d p hd i (inl h) = inr (inr (after b.right near.left d p.x hd i.left h))
  where
    after : (u v d x : ℤ) → pos 0 <ℤ d → (pos 1 *ℤ v) ≤ℤ x → (u +ℤ d) ≤ℤ v → u <ℤ x
    after u v d x hd i h = omega (arith, ints)
missed_beside b near d p hd i (inr (inl h)) = inr (inl (after b.bottom near.top d p.y hd i.top h))
  where
    after : (u v d x : ℤ) → pos 0 <ℤ d → (pos 1 *ℤ v) ≤ℤ x → (u +ℤ d) ≤ℤ v → u <ℤ x
    after u v d x hd i h = omega (arith, ints)
missed_beside b near d p hd i (inr (inr h)) = inl (ahead near.bottom b.top d p.y hd i.bottom h)
  where
    ahead : (u v d x : ℤ) → pos 0 <ℤ d → x ≤ℤ (pos 1 *ℤ u) → (u +ℤ d) ≤ℤ v → x <ℤ v
    ahead u v d x hd i h = omega (arith, ints)

-- and one ahead lies to its right
pub right_ahead : (b near : Bounds) (d : ℤ) (p : Point) → pos 0 <ℤ d → IsInBox near (rational_point_of p) → (near.right +ℤ d) ≤ℤ b.left → p.x <ℤ b.left
unfolding rational_point_of
right_ahead b near d p hd i h = ahead near.right b.left d p.x hd i.right h
  where
    ahead : (u v d x : ℤ) → pos 0 <ℤ d → x ≤ℤ (pos 1 *ℤ u) → (u +ℤ d) ≤ℤ v → x <ℤ v
    ahead u v d x hd i h = omega (arith, ints)

pub clear_beside : (b near : Bounds) (d : ℤ) → IsBeside b near d → AreClear b near d
clear_beside b near d (inl h) = inl (inl h)
clear_beside b near d (inr h) = inr h

-- the two ends of a path to the right of p
pub ends_parity : (b : Bounds) (p a x : Point) (part : List Point) → p.x <ℤ b.left → 0 < length part → x ≡ get_or part (length part - 1) x → EachEdge (AreEndsHeld b) (path a part) → is_odd (rational_point_of p) (path a part) ≡ differ (is_low (rational_point_of p) a) (is_low (rational_point_of p) x)
unfolding rational_point_of
ends_parity b p a x part k l e h =
    path_parity b (rational_point_of p) a part (beyond k) h ∙ ap (λ z. differ (is_low (rational_point_of p) a) (is_low (rational_point_of p) z)) (sym (last_is a x part l e))
  where
    beyond : p.x <ℤ b.left → (rational_point_of p).x <ℤ ((rational_point_of p).w *ℤ b.left)
    beyond k = omega (arith, ints)

-- ---- as the code has them
pub d_reach : (d : ℤ) → pos 0 ≤ℤ d → d ≤ℤ pos 2000000001 → passed d ≡ d
d_reach d h k = omega (arith, ints)

pub d_more : (d : ℤ) → pos 0 ≤ℤ d → d ≤ℤ pos 2000000000 → passed (passed d +ℤ pos 1) ≡ d +ℤ pos 1
d_more d h k = omega (arith, ints)

-- tests of a side against one that is moved by d
before_less : (x y d : ℤ) → unsigned_abs x ≤ 1000000000 → unsigned_abs y ≤ 1000000000 → pos 0 ≤ℤ d → d ≤ℤ pos 2000000001 → (IsTrue (le_z (passed x) (passed (passed y -ℤ passed d))) ↔ (x +ℤ d) ≤ℤ y)
before_less x y d h k l m = (λ t. omega (arith, ints), λ t. let e : true ≡ le_z (passed x) (passed (passed y -ℤ passed d)) = omega (arith, ints) in sym e)

before_more : (x y d : ℤ) → unsigned_abs x ≤ 1000000000 → unsigned_abs y ≤ 1000000000 → pos 0 ≤ℤ d → d ≤ℤ pos 2000000001 → (IsTrue (le_z (passed (passed x +ℤ passed d)) (passed y)) ↔ (x +ℤ d) ≤ℤ y)
before_more x y d h k l m = (λ t. omega (arith, ints), λ t. let e : true ≡ le_z (passed (passed x +ℤ passed d)) (passed y) = omega (arith, ints) in sym e)

module _ (b near : Bounds) (d : ℤ) (first : FitsWithin (pos 1000000000) b) (second : FitsWithin (pos 1000000000) near) (range : IsUpTo (pos 2000000001) d) where
  pub is_left_of : IsTrue (le_z (passed b.right) (passed (passed near.left -ℤ passed d))) ↔ (b.right +ℤ d) ≤ℤ near.left
  is_left_of = before_less b.right near.left d (right_in_range 1000000000 b first) (left_in_range 1000000000 near second) range.from range.to

  pub is_above : IsTrue (le_z (passed b.bottom) (passed (passed near.top -ℤ passed d))) ↔ (b.bottom +ℤ d) ≤ℤ near.top
  is_above = before_less b.bottom near.top d (bottom_in_range 1000000000 b first) (top_in_range 1000000000 near second) range.from range.to

  pub is_below : IsTrue (le_z (passed (passed near.bottom +ℤ passed d)) (passed b.top)) ↔ (near.bottom +ℤ d) ≤ℤ b.top
  is_below = before_more near.bottom b.top d (bottom_in_range 1000000000 near second) (top_in_range 1000000000 b first) range.from range.to

  pub is_right_of : IsTrue (le_z (passed (passed near.right +ℤ passed d)) (passed b.left)) ↔ (near.right +ℤ d) ≤ℤ b.left
  is_right_of = before_more near.right b.left d (right_in_range 1000000000 near second) (left_in_range 1000000000 b first) range.from range.to

-- a part of the corners that the polygon gave
pub piece : (a : Point) (cs ks : List Point) (low high : ℕ) → cs ≡ ks → drop low (outline cs) ≡ path a (drop low cs) → between low high (outline ks) ≡ path a (take (high - low) (drop low cs))
piece a cs ks low high same e = ap (λ z. between low high (outline z)) (sym same) ∙ part_path a cs low high e

pub run_clear : (near : Bounds) (d : ℤ) (cs ks : List Point) (low size high : ℕ) → cs ≡ ks → ((es : List Seg) → length es ≡ length cs → take size (drop low es) ≡ between low high es) → pos 0 ≤ℤ d → d ≤ℤ pos 2000000001 → EachEdge (LiesClear near (passed d)) (take size (drop low (outline ks))) → EachEdge (LiesClear near d) (between low high (outline ks))
run_clear near d cs ks low size high same run h k x =
    subst (EachEdge (LiesClear near d)) (run (outline ks) (outline_length ks ∙ ap length (sym same)))
    (subst (λ (z : ℤ). EachEdge (LiesClear near z) (take size (drop low (outline ks)))) (d_reach d h k) x)

pub none_of_none : (P : Seg → Type 0) (low high : ℕ) (es : List Seg) → high ≤ low → ¬ (SomeEdge P (between low high es))
none_of_none P low high es h x = subst (SomeEdge P) (between_none low high es h) x

pub each_of_none : (P : Seg → Type 0) (low high : ℕ) (es : List Seg) → high ≤ low → EachEdge P (between low high es)
each_of_none P low high es h = subst (EachEdge P) (sym (between_none low high es h)) tt

-- all edges are those from the first on
pub all_edges : (cs ks : List Point) (n : ℕ) → cs ≡ ks → length cs ≤ n → between 0 n (outline ks) ≡ outline ks
all_edges cs ks n same h = between_all n (outline ks) (subst (λ z. z ≤ n) (sym (outline_length ks ∙ ap length (sym same))) h)

-- ---- parities, as the code has them
pub differ_beq : (x y : Bool) → differ x y ≡ not (beq x y)
differ_beq true true = refl
differ_beq true false = refl
differ_beq false true = refl
differ_beq false false = refl

not_true : (b : Bool) → (b ≡ true → ⊥) → b ≡ false
not_true true n = absurd (n refl)
not_true false n = refl

-- what a walk answers that saw no edge near
pub not_and_known : {P Q : Type 0} (b : Bool) → (IsTrue b ↔ P) → Q → (IsTrue (not b) ↔ ((¬ P) × Q))
not_and_known true e q = (λ t. absurd (no t), λ x. absurd (x.0 (e.0 refl)))
  where
    no : false ≡ true → ⊥
    no h = cc
not_and_known false e q = (λ t. (fails_by false e refl, q), λ x. refl)

pub or_known : {P Q : Type 0} (b : Bool) → (IsTrue b ↔ P) → ¬ Q → (IsTrue b ↔ (P ⊎ Q))
or_known b e n = (λ t. inl (e.0 t), either_way e.1 (λ q. absurd (n q)))

pub missed_odd : (b : Bounds) (p : Point) (es : List Seg) → IsMissed b p → IsRunBox es b → (IsTrue false ↔ PassOdd (rational_point_of p) es)
missed_odd b p es m h = odd_by (rational_point_of p) es false (not_true (is_odd (rational_point_of p) es) (missed_even b p es m h.holds))

pub ends_code : (b : Bounds) (p a x : Point) (part : List Point) (es : List Seg) → es ≡ path a part → p.x <ℤ b.left → 0 < length part → x ≡ get_or part (length part - 1) x → IsRunBox es b → (IsTrue (not (beq (le_z (passed a.y) (passed p.y)) (le_z (passed x.y) (passed p.y)))) ↔ PassOdd (rational_point_of p) es)
ends_code b p a x part es q k l e h =
    odd_by (rational_point_of p) es _
    (ap (is_odd (rational_point_of p)) q ∙ ends_parity b p a x part k l e (subst (EachEdge (AreEndsHeld b)) q h.holds)
    ∙ ap (λ z. differ z (is_low (rational_point_of p) x)) (low_at p a ∙ low_kept a.y p.y _ a.y_in_range p.y_in_range refl)
    ∙ ap (λ z. differ (le_z (passed a.y) (passed p.y)) z) (low_at p x ∙ low_kept x.y p.y _ x.y_in_range p.y_in_range refl)
    ∙ differ_beq (le_z (passed a.y) (passed p.y)) (le_z (passed x.y) (passed p.y)))

pub lt_kept : (u v : ℤ) → unsigned_abs u ≤ 1000000000 → unsigned_abs v ≤ 1000000000 → lt_z (passed u) (passed v) ≡ true → u <ℤ v
lt_kept u v h k e = omega (arith, ints)

pub part_length : (cs : List Point) (low high : ℕ) → low < high → high ≤ length cs → 0 < length (take (high - low) (drop low cs))
part_length cs low high h k =
    let m : high - low ≤ length (drop low cs) = rw length-drop (omega arith) in
    subst (λ z. 0 < z) (sym (length-take-le (high - low) (drop low cs) m)) (omega arith)

-- ---- parts of an outline
pub shorter_run : (n size : ℕ) (es : List Seg) (b : Bounds) → n ≤ size → IsRunBox (take size es) b → IsRunBox (take n es) b
shorter_run n size es b h r =
    let s : size ≡ n + (size - n) = omega arith in
    record {
      holds = ((each_append (AreEndsHeld b) (take n es) (take (size - n) (drop n es))).0 (subst (EachEdge (AreEndsHeld b)) (ap (λ z. take z es) s ∙ take-add n (size - n) es) r.holds)).0;
      fits = r.fits;
    }

ends_of_covered : (b : Bounds) (e : Seg) → Covers b e → AreEndsHeld b e
ends_of_covered b e h = (held_of_in_box b e.a (h (rational_point_of e.a) (start_on e)), held_of_in_box b e.b (h (rational_point_of e.b) (end_on e)))

pub outline_box : (b : Bounds) (cs : List Point) → IsLeastBox (IsInside cs) b → FitsWithin (pos 1000000000) b → IsRunBox (outline cs) b
outline_box b cs h f = record { holds = each_weaker (ends_of_covered b) (outline cs) (covers_outline b cs h); fits = f }

pub both_apart : (b c : Bounds) (d : ℤ) (fs es : List Seg) → pos 0 ≤ℤ d → AreClear b c d → IsRunBox fs c → IsRunBox es b → EachApart d fs es
both_apart b c d fs es hd h hf he = both_clear b c d hd h fs es (run_covers c fs hf) (run_covers b es he)

pub none_both : (b c : Bounds) (d : ℤ) (fs es : List Seg) → pos 0 ≤ℤ d → AreClear b c (d +ℤ pos 1) → IsRunBox fs c → IsRunBox es b → ¬ (SomeReached d fs es)
none_both b c d fs es hd h hf he = none_both_clear b c d hd h fs es (run_covers c fs hf) (run_covers b es he)

pub edges_are : (cs : List Point) (x : Part) (low high : ℕ) → x.low ≡ low → x.high ≡ high → edges_of cs x ≡ between low high (outline cs)
edges_are cs x low high e f = ap (λ z. between z x.high (outline cs)) e ∙ ap (λ z. between low z (outline cs)) f

pub apart_of_none : (d : ℤ) (us : List Seg) (low high : ℕ) (es : List Seg) → high ≤ low → EachApart d us (between low high es)
apart_of_none d us low high es h = subst (EachApart d us) (sym (between_none low high es h)) (each_nothing d us)

pub beyond_of_none : (d : ℤ) (us : List Seg) (low high : ℕ) (es : List Seg) → high ≤ low → ¬ (SomeReached d us (between low high es))
beyond_of_none d us low high es h x = reached_nothing d us (subst (SomeReached d us) (between_none low high es h) x)
