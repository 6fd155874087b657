-- Corners, edges and the boxes of runs that are moved.
use Rattle.std.proofs.Common.{◌≡◌, ℕ, zero, suc, ◌≤◌, ℤ, pos, neg_ℤ, ◌+ℤ◌, ◌≤ℤ◌, unsigned_abs, Bool, true, false, cond, ◌&&◌, ◌<◌, length, get_or, Vec, ◌∙◌, List, [], ◌∷◌, take, drop, All, refl, sym, subst, arith}
use Rattle.std.proofs.lemmas.Int.{ints}
use Rattle.std.proofs.lemmas.Bool.{and_parts}
use Rattle.int_algebra.proofs.Scalars.{passed}
use Rattle.std.proofs.lemmas.List.Elements.{All-nil, All-cons}
use Rattle.std.specs.Int.Signed.{lt_z, le_z}
use Rattle.std.proofs.lemmas.List.{with_items_is}
use Rattle.std.specs.Vec.{with_items}
use Rattle.std.specs.declared.alloc.Global.{Global}
use Rattle.std.specs.List.{AllZip, list_all}
use Rattle.geo_seg.specs.declared.points.Point.{Point}
use Rattle.geo_seg.specs.declared.points.Seg.{Seg}
use Rattle.geo_seg.specs.declared.boxes.Bounds.{Bounds}
use Rattle.geo_seg.specs.declared.frames.Frame.{Frame}
use Rattle.geo_seg.specs.Boxes.{FitsWithin}
use Rattle.geo_seg.specs.PolygonCorners.{IsHeld}
use Rattle.geo_seg.specs.Inside.{path, last_of, outline, EachEdge}
use Rattle.geo_seg.specs.RunBoxes.{sides_of, AreEndsHeld, AreRuns}
use Rattle.geo_seg.specs.Shifts.{IsShiftedPoint, is_coordinate, point_stays}
use Rattle.geo_seg.specs.ShiftedRuns.{in_range_of, IsShiftedFrame}

-- ---- numbers brought into range
range_cases : (z : ℤ) (P : ℤ → Type 0) → (z ≤ℤ neg_ℤ (pos 1000000001) → P (neg_ℤ (pos 1000000000))) → (pos 1000000001 ≤ℤ z → P (pos 1000000000))
    → (neg_ℤ (pos 1000000000) ≤ℤ z → z ≤ℤ pos 1000000000 → P z) → P (in_range_of z)
unfolding in_range_of
range_cases z P low high middle = by (lt_z z (neg_ℤ (pos 1000000000))) (lt_z (pos 1000000000) z) refl refl
  where
    by : (a b : Bool) → lt_z z (neg_ℤ (pos 1000000000)) ≡ a → lt_z (pos 1000000000) z ≡ b → P (cond a (neg_ℤ (pos 1000000000)) (cond b (pos 1000000000) z))
    by true b e f = low (omega (arith, ints, e))
    by false true e f = high (omega (arith, ints, f))
    by false false e f = middle (omega (arith, ints, e)) (omega (arith, ints, f))

pub range_from : (z : ℤ) → neg_ℤ (pos 1000000000) ≤ℤ in_range_of z
range_from z = range_cases z (λ n. neg_ℤ (pos 1000000000) ≤ℤ n) (λ h. omega (arith, ints)) (λ h. omega (arith, ints)) (λ h k. h)

pub range_to : (z : ℤ) → in_range_of z ≤ℤ pos 1000000000
range_to z = range_cases z (λ n. n ≤ℤ pos 1000000000) (λ h. omega (arith, ints)) (λ h. omega (arith, ints)) (λ h k. k)

pub range_mono : (a b : ℤ) → a ≤ℤ b → in_range_of a ≤ℤ in_range_of b
range_mono a b le = range_cases a (λ n. n ≤ℤ in_range_of b)
    (λ h. range_from b)
    (λ h. range_cases b (λ n. pos 1000000000 ≤ℤ n) (λ k. omega (arith, ints)) (λ k. omega (arith, ints)) (λ k l. omega (arith, ints)))
    (λ h k. range_cases b (λ n. a ≤ℤ n) (λ l. omega (arith, ints)) (λ l. omega (arith, ints)) (λ l m. le))

pub range_below : (z c : ℤ) → unsigned_abs c ≤ 1000000000 → z ≤ℤ c → in_range_of z ≤ℤ c
range_below z c r le = range_cases z (λ n. n ≤ℤ c) (λ h. omega (arith, ints)) (λ h. omega (arith, ints)) (λ h k. le)

pub range_above : (z c : ℤ) → unsigned_abs c ≤ 1000000000 → c ≤ℤ z → c ≤ℤ in_range_of z
range_above z c r le = range_cases z (λ n. c ≤ℤ n) (λ h. omega (arith, ints)) (λ h. omega (arith, ints)) (λ h k. le)

-- ---- points that stay in range
pub coordinate_in : (z : ℤ) → is_coordinate z ≡ true → unsigned_abs z ≤ 1000000000
coordinate_in z h = by (le_z (neg_ℤ (pos 1000000000)) z) (le_z z (pos 1000000000)) refl refl h
  where
    by : (a b : Bool) → le_z (neg_ℤ (pos 1000000000)) z ≡ a → le_z z (pos 1000000000) ≡ b → a && b ≡ true → unsigned_abs z ≤ 1000000000
    by true true k l e = omega (arith, ints, k, l)
    by true false k l e = absurd cc
    by false b k l e = absurd cc

pub stays_x : (dx dy : ℤ) (p : Point) → point_stays dx dy p ≡ true → unsigned_abs (p.x +ℤ dx) ≤ 1000000000
stays_x dx dy p h = coordinate_in (p.x +ℤ dx) (and_parts (is_coordinate (p.x +ℤ dx)) (is_coordinate (p.y +ℤ dy)) h).0

pub stays_y : (dx dy : ℤ) (p : Point) → point_stays dx dy p ≡ true → unsigned_abs (p.y +ℤ dy) ≤ 1000000000
stays_y dx dy p h = coordinate_in (p.y +ℤ dy) (and_parts (is_coordinate (p.x +ℤ dx)) (is_coordinate (p.y +ℤ dy)) h).1

sum_is : (z d : ℤ) → unsigned_abs z ≤ 1000000000 → unsigned_abs (z +ℤ d) ≤ 1000000000 → passed (passed z +ℤ passed d) ≡ z +ℤ d
sum_is z d h k = omega (arith, ints)

pub point_shifted : (dx dy : ℤ) (p q : Point) → point_stays dx dy p ≡ true → q.x ≡ passed (passed p.x +ℤ passed dx) → q.y ≡ passed (passed p.y +ℤ passed dy) → IsShiftedPoint dx dy p q
point_shifted dx dy p q h e k = record { x = e ∙ sum_is p.x dx p.x_in_range (stays_x dx dy p h); y = k ∙ sum_is p.y dy p.y_in_range (stays_y dx dy p h) }

pub fits_x : (dx dy : ℤ) (p : Point) → point_stays dx dy p ≡ true → unsigned_abs (passed (passed p.x +ℤ passed dx)) ≤ 1000000000
fits_x dx dy p h = let P : ℤ → Type 0 = λ z. unsigned_abs z ≤ 1000000000 in subst P (sym (sum_is p.x dx p.x_in_range (stays_x dx dy p h))) (stays_x dx dy p h)

pub fits_y : (dx dy : ℤ) (p : Point) → point_stays dx dy p ≡ true → unsigned_abs (passed (passed p.y +ℤ passed dy)) ≤ 1000000000
fits_y dx dy p h = let P : ℤ → Type 0 = λ z. unsigned_abs z ≤ 1000000000 in subst P (sym (sum_is p.y dy p.y_in_range (stays_y dx dy p h))) (stays_y dx dy p h)

-- a corner that stays tells how far it moves at most
pub some_stays : (dx dy : ℤ) (cs : List Point) → 0 < length cs → list_all (point_stays dx dy) cs ≡ true → (unsigned_abs dx ≤ 2000000000) × (unsigned_abs dy ≤ 2000000000)
some_stays dx dy [] lt h = absurd (omega arith)
some_stays dx dy (c ∷ cs) lt h =
    let own = (and_parts (point_stays dx dy c) (list_all (point_stays dx dy) cs) h).0 in
    (near c.x dx c.x_in_range (stays_x dx dy c own), near c.y dy c.y_in_range (stays_y dx dy c own))
  where
    near : (z d : ℤ) → unsigned_abs z ≤ 1000000000 → unsigned_abs (z +ℤ d) ≤ 1000000000 → unsigned_abs d ≤ 2000000000
    near z d h k = omega (arith, ints)

-- ---- frames
-- the sides of a box that was brought into range
pub range_passed : (r z : ℤ) → r ≡ in_range_of z → passed r ≡ in_range_of z
range_passed r z e =
    let from : neg_ℤ (pos 1000000000) ≤ℤ r = subst (λ (n : ℤ). neg_ℤ (pos 1000000000) ≤ℤ n) (sym e) (range_from z) in
    let to : r ≤ℤ pos 1000000000 = subst (λ (n : ℤ). n ≤ℤ pos 1000000000) (sym e) (range_to z) in
    let same : passed r ≡ r = omega (arith, ints) in
    same ∙ e

pub side_is : (r z a d : ℤ) → r ≡ in_range_of z → z ≡ a +ℤ d → passed r ≡ in_range_of (a +ℤ d)
side_is r z a d e f = subst (λ n. passed r ≡ in_range_of n) f (range_passed r z e)

pub bounds_fit : (dx dy : ℤ) (a b : Bounds) → FitsWithin (pos 1000000000) a
    → b.left ≡ in_range_of (a.left +ℤ dx) → b.top ≡ in_range_of (a.top +ℤ dy) → b.right ≡ in_range_of (a.right +ℤ dx) → b.bottom ≡ in_range_of (a.bottom +ℤ dy)
    → FitsWithin (pos 1000000000) b
bounds_fit dx dy a b fits l t r m = record {
  wide = between b.left b.right _ _ l r (range_mono (a.left +ℤ dx) (a.right +ℤ dx) (both a.left a.right dx fits.wide));
  high = between b.top b.bottom _ _ t m (range_mono (a.top +ℤ dy) (a.bottom +ℤ dy) (both a.top a.bottom dy fits.high));
  left = subst (λ (z : ℤ). neg_ℤ (pos 1000000000) ≤ℤ z) (sym l) (range_from (a.left +ℤ dx));
  top = subst (λ (z : ℤ). neg_ℤ (pos 1000000000) ≤ℤ z) (sym t) (range_from (a.top +ℤ dy));
  right = subst (λ (z : ℤ). z ≤ℤ pos 1000000000) (sym r) (range_to (a.right +ℤ dx));
  bottom = subst (λ (z : ℤ). z ≤ℤ pos 1000000000) (sym m) (range_to (a.bottom +ℤ dy));
}
  where
    both : (x y d : ℤ) → x ≤ℤ y → (x +ℤ d) ≤ℤ (y +ℤ d)
    both x y d h = omega (arith, ints)

    between : (x y x' y' : ℤ) → x ≡ x' → y ≡ y' → x' ≤ℤ y' → x ≤ℤ y
    between x y x' y' e k h = omega (arith, ints)

pub frame_shifted : (dx dy : ℤ) (f g : Frame) (b : Bounds) → FitsWithin (pos 1000000000) (sides_of f) → sides_of g ≡ b
    → b.left ≡ in_range_of (f.left +ℤ dx) → b.top ≡ in_range_of (f.top +ℤ dy) → b.right ≡ in_range_of (f.right +ℤ dx) → b.bottom ≡ in_range_of (f.bottom +ℤ dy)
    → IsShiftedFrame dx dy f g
frame_shifted dx dy f g b fits same l t r m = record {
  holds = λ p q is held. subst (λ (x : Bounds). IsHeld x q) (sym same) (record {
    left = subst (λ (z : ℤ). z ≤ℤ q.x) (sym l) (range_below (f.left +ℤ dx) q.x q.x_in_range (moved f.left p.x dx q.x is.x held.left));
    top = subst (λ (z : ℤ). z ≤ℤ q.y) (sym t) (range_below (f.top +ℤ dy) q.y q.y_in_range (moved f.top p.y dy q.y is.y held.top));
    right = subst (λ (z : ℤ). q.x ≤ℤ z) (sym r) (range_above (f.right +ℤ dx) q.x q.x_in_range (moved_up p.x f.right dx q.x is.x held.right));
    bottom = subst (λ (z : ℤ). q.y ≤ℤ z) (sym m) (range_above (f.bottom +ℤ dy) q.y q.y_in_range (moved_up p.y f.bottom dy q.y is.y held.bottom));
  });
  fits = subst (FitsWithin (pos 1000000000)) (sym same) (bounds_fit dx dy (sides_of f) b fits l t r m);
}
  where
    moved : (side at d to : ℤ) → to ≡ at +ℤ d → side ≤ℤ at → (side +ℤ d) ≤ℤ to
    moved side at d to e h = omega (arith, ints)

    moved_up : (at side d to : ℤ) → to ≡ at +ℤ d → at ≤ℤ side → to ≤ℤ (side +ℤ d)
    moved_up at side d to e h = omega (arith, ints)

-- ---- edges
pub record IsShiftedEdge (dx dy : ℤ) (e f : Seg) : Type 0 where
  pub from : IsShiftedPoint dx dy e.a f.a
  pub to : IsShiftedPoint dx dy e.b f.b

path_shifted : (dx dy : ℤ) (a b : Point) (cs ds : List Point) → IsShiftedPoint dx dy a b → AllZip (IsShiftedPoint dx dy) cs ds → AllZip (IsShiftedEdge dx dy) (path a cs) (path b ds)
path_shifted dx dy a b [] [] is zip = tt
path_shifted dx dy a b [] (d ∷ ds) is zip = absurd zip
path_shifted dx dy a b (c ∷ cs) [] is zip = absurd zip
path_shifted dx dy a b (c ∷ cs) (d ∷ ds) is zip = (record { from = is; to = zip.0 }, path_shifted dx dy c d cs ds zip.0 zip.1)

last_shifted : (dx dy : ℤ) (a b : Point) (cs ds : List Point) → IsShiftedPoint dx dy a b → AllZip (IsShiftedPoint dx dy) cs ds → IsShiftedPoint dx dy (last_of a cs) (last_of b ds)
last_shifted dx dy a b [] [] is zip = is
last_shifted dx dy a b [] (d ∷ ds) is zip = absurd zip
last_shifted dx dy a b (c ∷ cs) [] is zip = absurd zip
last_shifted dx dy a b (c ∷ cs) (d ∷ ds) is zip = last_shifted dx dy c d cs ds zip.0 zip.1

pub outline_shifted : (dx dy : ℤ) (cs ds : List Point) → AllZip (IsShiftedPoint dx dy) cs ds → AllZip (IsShiftedEdge dx dy) (outline cs) (outline ds)
outline_shifted dx dy [] [] zip = tt
outline_shifted dx dy [] (d ∷ ds) zip = absurd zip
outline_shifted dx dy (c ∷ cs) [] zip = absurd zip
outline_shifted dx dy (c ∷ cs) (d ∷ ds) zip = path_shifted dx dy (last_of c cs) (last_of d ds) (c ∷ cs) (d ∷ ds) (last_shifted dx dy c d cs ds zip.0 zip.1) zip

zip_take : {X : Type 0} (R : X → X → Type 0) (n : ℕ) (xs ys : List X) → AllZip R xs ys → AllZip R (take n xs) (take n ys)
zip_take R zero xs ys zip = tt
zip_take R (suc n) [] [] zip = tt
zip_take R (suc n) [] (y ∷ ys) zip = absurd zip
zip_take R (suc n) (x ∷ xs) [] zip = absurd zip
zip_take R (suc n) (x ∷ xs) (y ∷ ys) zip = (zip.0, zip_take R n xs ys zip.1)

zip_drop : {X : Type 0} (R : X → X → Type 0) (n : ℕ) (xs ys : List X) → AllZip R xs ys → AllZip R (drop n xs) (drop n ys)
zip_drop R zero xs ys zip = zip
zip_drop R (suc n) [] [] zip = tt
zip_drop R (suc n) [] (y ∷ ys) zip = absurd zip
zip_drop R (suc n) (x ∷ xs) [] zip = absurd zip
zip_drop R (suc n) (x ∷ xs) (y ∷ ys) zip = zip_drop R n xs ys zip.1

-- ---- runs
edges_held : (dx dy : ℤ) (f g : Frame) (es fs : List Seg) → IsShiftedFrame dx dy f g → AllZip (IsShiftedEdge dx dy) es fs → EachEdge (AreEndsHeld (sides_of f)) es → EachEdge (AreEndsHeld (sides_of g)) fs
edges_held dx dy f g [] [] is zip h = tt
edges_held dx dy f g [] (k ∷ ks) is zip h = absurd zip
edges_held dx dy f g (e ∷ es) [] is zip h = absurd zip
edges_held dx dy f g (e ∷ es) (k ∷ ks) is zip h = ((is.holds e.a k.a zip.0.from h.0.0, is.holds e.b k.b zip.0.to h.0.1), edges_held dx dy f g es ks is zip.1 h.1)

pub runs_shifted : (dx dy : ℤ) (size : ℕ) (fs gs : List Frame) (es ks : List Seg) → AllZip (IsShiftedFrame dx dy) fs gs → AllZip (IsShiftedEdge dx dy) es ks → AreRuns size fs es → AreRuns size gs ks
runs_shifted dx dy size [] [] es ks frames zip runs = tt
runs_shifted dx dy size [] (g ∷ gs) es ks frames zip runs = absurd frames
runs_shifted dx dy size (f ∷ fs) [] es ks frames zip runs = absurd frames
runs_shifted dx dy size (f ∷ fs) (g ∷ gs) es ks frames zip runs = (
  record { holds = edges_held dx dy f g (take size es) (take size ks) frames.0 (zip_take (IsShiftedEdge dx dy) size es ks zip) runs.0.holds; fits = frames.0.fits },
  runs_shifted dx dy size fs gs (drop size es) (drop size ks) frames.1 (zip_drop (IsShiftedEdge dx dy) size es ks zip) runs.1,
)

-- the frames of runs are in range
pub runs_fit : (size : ℕ) (fs : List Frame) (es : List Seg) → AreRuns size fs es → All (λ frame. FitsWithin (pos 1000000000) (sides_of frame)) fs
runs_fit size [] es runs = All-nil (λ frame. FitsWithin (pos 1000000000) (sides_of frame))
runs_fit size (f ∷ fs) es runs = All-cons (λ frame. FitsWithin (pos 1000000000) (sides_of frame)) f fs runs.0.fits (runs_fit size fs (drop size es) runs.1)

-- ---- what is written behind a vector
module _ {X : Type 0} (R : X → X → Type 0) (v : Vec X Global) (from ws : List X) (is : from ≡ v.items) (long : length ws ≡ v.len) where
  pub vec_written : AllZip R from ws → AllZip R v.items (with_items v ws).items
  vec_written zip = subst (λ (ys : List X). AllZip R v.items ys) (sym (with_items_is v ws long)) (subst (λ (xs : List X). AllZip R xs ws) is zip)

-- each of many that pass a test
pub all_at : {X : Type 0} (test : X → Bool) (xs : List X) (i : ℕ) (d : X) → i < length xs → list_all test xs ≡ true → test (get_or xs i d) ≡ true
all_at test [] i d lt h = absurd (omega arith)
all_at test (x ∷ xs) zero d lt h = (and_parts (test x) (list_all test xs) h).0
all_at test (x ∷ xs) (suc i) d lt h = all_at test xs i d (omega arith) (and_parts (test x) (list_all test xs) h).1

-- ---- all that is kept beside the corners
pub runs_of_shifted : (dx dy : ℤ) (size : ℕ) (fs gs : List Frame) (cs ds : List Point) → AllZip (IsShiftedFrame dx dy) fs gs → AllZip (IsShiftedPoint dx dy) cs ds → AreRuns size fs (outline cs) → AreRuns size gs (outline ds)
runs_of_shifted dx dy size fs gs cs ds frames points runs = runs_shifted dx dy size fs gs (outline cs) (outline ds) frames (outline_shifted dx dy cs ds points) runs
