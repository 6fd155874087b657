-- What is drawn elsewhere is what was drawn, moved.
use Rattle.std.proofs.Common.{◌≡◌, ◌∙◌, refl, sym, ap, subst, ℕ, ◌+◌, ◌≤◌, ℤ, pos, ◌+ℤ◌, ◌-ℤ◌, ◌*ℤ◌, ◌≤ℤ◌, unsigned_abs, Bool, true, false, cond, List, [], ◌∷◌, Option, None, Some, inl, inr, arith}
use Rattle.std.specs.List.{AllZip}
use Rattle.std.proofs.lemmas.Int.{ints}
use Rattle.int_algebra.proofs.Tested.{back, le_by_test}
use Rattle.exact_dec.specs.DecimalAnswers.{is_far}
use Rattle.geo_seg.specs.declared.points.Point.{Point}
use Rattle.geo_seg.specs.declared.shapes.Core.{Core}
use Rattle.geo_seg.specs.declared.shapes.Core.TheVariants.{Line as LineCore, Area}
use Rattle.copper_layers.specs.declared.set.LayerSet.{LayerSet}
use Rattle.one_item.specs.declared.parts.Part.{Part}
use Rattle.one_item.specs.Positions.{is_near}
use Rattle.one_item.specs.ItemMoves.{AreShifted}
use Rattle.part_read.specs.declared.numbers.RawPoint.{RawPoint}
use Rattle.part_read.specs.declared.placements.Placement.{Placement}
use Rattle.part_read.specs.declared.radii.Radius.{Radius}
use Rattle.part_read.specs.declared.figures.Figure.{Figure}
use Rattle.part_read.specs.declared.figures.Figure.TheVariants.{Line, Rect, Circle, Outline}
use Rattle.part_read.specs.declared.figures.Drawing.{Drawing}
use Rattle.part_read.specs.Circles.{squared, square_between, root, radius_between}
use Rattle.plain_types.specs.Lengths.{is_length}
use Rattle.part_read.specs.OnBoard.{fits_board, point_at}
use Rattle.part_read.specs.There.{both}
use Rattle.part_read.specs.Placements.{stood, point_stood}
use Rattle.part_read.specs.Figures.{line_between, cores_of, radius_at, radius_of, parts_around, radius_with, drawn, drawn_edge}
use Rattle.part_read.proofs.There.{some_same, both_some}
use Rattle.roundtrip_lists.specs.Translated.{Shift}
use Rattle.roundtrip_lists.specs.Carried.{shift_of}
use Rattle.roundtrip_lists.specs.Moved.{moved_raw_point, IsMovedRawPoint}
use Rattle.roundtrip_lists.specs.FigurePositions.{StandsMoved}
use Rattle.roundtrip_lists.proofs.Circles.{end_within}
use Rattle.roundtrip_lists.proofs.Figures.{moved_point, moved_core, line_carried, filled_carried, parts_carried, tested_some}
use Rattle.roundtrip_lists.proofs.Shapes.{near_within, half_near, settled}
use Rattle.roundtrip_lists.specs.Drawn.{FigureRead}
use Rattle.roundtrip_lists.proofs.Cores.{box_carried, open_carried}

-- ---- radii

same_gap : (a e d : ℤ) → (e +ℤ d) -ℤ (a +ℤ d) ≡ e -ℤ a
same_gap a e d = omega (arith, ints)

far_end : (a e dx : ℤ) → is_far (e +ℤ dx) ≡ true → unsigned_abs (a +ℤ dx) ≤ 500000000 → unsigned_abs (e -ℤ a) ≤ 250000000 + 1 → ⊥
far_end a e dx far near within = grind (arith, ints)

abbrev end_of : RawPoint → RawPoint → ℕ
end_of center end = root (square_between center end)

-- the radius of a circle that is moved is the same, where its centre stays on a board and it is not too wide
pub radius_moved : (o : Option Shift) (a c e f : RawPoint) → IsMovedRawPoint o a c → IsMovedRawPoint o e f → is_near (a.x +ℤ (shift_of o).dx) ≡ true → is_near (a.y +ℤ (shift_of o).dy) ≡ true
    → radius_between a e ≤ℤ pos 250000000 → radius_between c f ≡ radius_between a e
unfolding radius_between
radius_moved None a c e f h k x y most = ap (λ (s : RawPoint). pos (root (square_between s f))) h ∙ ap (λ (s : RawPoint). pos (root (square_between a s))) k
radius_moved (Some d) a c e f h k x y most =
    let low : end_of a e ≤ 250000000 = omega (arith, ints, most) in
    let within = end_within a e 250000000 low in
    let center : c ≡ moved_raw_point d a = settled (Some d) a c h x y in
    ap (λ (s : RawPoint). pos (root (square_between s f))) center ∙ ap (λ (s : RawPoint). pos (root (square_between (moved_raw_point d a) s))) (by_end k within) ∙ ap (λ n. pos (root n)) same
  where
    same : square_between (moved_raw_point d a) (moved_raw_point d e) ≡ square_between a e
    same = ap (λ (z : ℤ). squared z + squared ((e.y +ℤ d.dy) -ℤ (a.y +ℤ d.dy))) (same_gap a.x e.x d.dx) ∙ ap (λ (z : ℤ). squared (e.x -ℤ a.x) + squared z) (same_gap a.y e.y d.dy)

    by_end : IsMovedRawPoint (Some d) e f → (unsigned_abs (e.x -ℤ a.x) ≤ 250000000 + 1) × (unsigned_abs (e.y -ℤ a.y) ≤ 250000000 + 1) → f ≡ moved_raw_point d e
    by_end (inl is) within = is
    by_end (inr (stays, inl far)) within = absurd (far_end a.x e.x d.dx far (near_within (a.x +ℤ d.dx) x) within.0)
    by_end (inr (stays, inr far)) within = absurd (far_end a.y e.y d.dy far (near_within (a.y +ℤ d.dy) y) within.1)

half_of : (q w : ℤ) → ((pos 2 *ℤ q) +ℤ w) ≤ℤ pos 500000000 → pos 0 ≤ℤ w → q ≤ℤ pos 250000000
half_of q w h k = omega (arith, ints, h, k)

-- ---- how points that were read so stand on the boards

pub record Placements (o : Option Shift) (d : Shift) (placement new : Placement) : Type 0 where
  pub stands : (s t : RawPoint) → IsMovedRawPoint o s t → StandsMoved d placement new s t
  pub radii : (a c e f : RawPoint) → IsMovedRawPoint o a c → IsMovedRawPoint o e f → is_near ((stood placement a).x +ℤ d.dx) ≡ true → is_near ((stood placement a).y +ℤ d.dy) ≡ true
      → radius_between a e ≤ℤ pos 250000000 → radius_between c f ≡ radius_between a e

module _ (o : Option Shift) (d : Shift) (placement new : Placement) (placements : Placements o d placement new) where
  abbrev AreMoved : List Core → List Core → Type 0
  AreMoved cores others = AllZip (moved_core d placement new) cores others

  all_stand : (ss ts : List RawPoint) → AllZip (IsMovedRawPoint o) ss ts → AllZip (StandsMoved d placement new) ss ts
  all_stand [] [] h = tt
  all_stand [] (t ∷ ts) h = absurd h
  all_stand (s ∷ ss) [] h = absurd h
  all_stand (s ∷ ss) (t ∷ ts) h = (placements.stands s t h.0, all_stand ss ts h.1)

  cores_carried : (filled : Bool) (figure other : Figure) (cores others : List Core) → FigureRead o figure other → cores_of placement filled figure ≡ Some cores → AreMoved cores others → cores_of new filled other ≡ Some others
  cores_carried filled (Line a b) (Line c e) cores others h some m = line_carried d placement new a b c e cores others (placements.stands a c h.0) (placements.stands b e h.1) some m
  cores_carried filled (Rect a b) (Rect c e) cores others h some m = box_carried d placement new filled a b c e cores others (placements.stands a c h.0) (placements.stands b e h.1) some m
  cores_carried filled (Circle a q) (Circle c r) cores others h some m = line_carried d placement new a a c c cores others (placements.stands a c h.centers) (placements.stands a c h.centers) some m
  cores_carried true (Outline ss) (Outline ts) cores others h some m = filled_carried d placement new ss ts cores others (all_stand ss ts h.each) some m
  cores_carried false (Outline ss) (Outline ts) cores others h some m = open_carried d placement new ss ts cores others (all_stand ss ts h.each) some m
  cores_carried filled (Line a b) (Rect c e) cores others h some m = absurd h
  cores_carried filled (Line a b) (Circle c r) cores others h some m = absurd h
  cores_carried filled (Line a b) (Outline ts) cores others h some m = absurd h
  cores_carried filled (Rect a b) (Line c e) cores others h some m = absurd h
  cores_carried filled (Rect a b) (Circle c r) cores others h some m = absurd h
  cores_carried filled (Rect a b) (Outline ts) cores others h some m = absurd h
  cores_carried filled (Circle a q) (Line c e) cores others h some m = absurd h
  cores_carried filled (Circle a q) (Rect c e) cores others h some m = absurd h
  cores_carried filled (Circle a q) (Outline ts) cores others h some m = absurd h
  cores_carried filled (Outline ss) (Line c e) cores others h some m = absurd h
  cores_carried filled (Outline ss) (Rect c e) cores others h some m = absurd h
  cores_carried filled (Outline ss) (Circle c r) cores others h some m = absurd h

  -- ---- with a radius around them

  length_of : (w : ℤ) (r : Radius) → radius_of w ≡ Some r → w ≤ℤ pos 500000000
  length_of w r e = let k = tested_some (is_length w) (radius_at w) r e in le_by_test w (pos 500000000) (back _ _ k.0)

  -- the centre of a circle whose moved core is a core is on the board
  near_center : (a : RawPoint) (cores others : List Core) → both line_between (point_stood placement a) (point_stood placement a) ≡ Some cores → AreMoved cores others
      → (is_near ((stood placement a).x +ℤ d.dx) ≡ true) × (is_near ((stood placement a).y +ℤ d.dy) ≡ true)
  near_center a cores others some m = by_point (point_stood placement a) refl some
    where
      near_point : (p q : Point) → point_stood placement a ≡ Some p → moved_point d placement new p q → (is_near ((stood placement a).x +ℤ d.dx) ≡ true) × (is_near ((stood placement a).y +ℤ d.dy) ≡ true)
      near_point p q e h =
          let k = tested_some (fits_board (stood placement a)) (point_at (stood placement a)) p e in
          let x : p.x ≡ pos 2 *ℤ (stood placement a).x = ap (λ (z : Point). z.x) (sym k.1) in
          let y : p.y ≡ pos 2 *ℤ (stood placement a).y = ap (λ (z : Point). z.y) (sym k.1) in (
            half_near q.x (stood placement a).x d.dx q.x_in_range (h.x ∙ ap (λ (z : ℤ). z +ℤ (pos 2 *ℤ d.dx)) x),
            half_near q.y (stood placement a).y d.dy q.y_in_range (h.y ∙ ap (λ (z : ℤ). z +ℤ (pos 2 *ℤ d.dy)) y),
          )

      by_core : (p : Point) → point_stood placement a ≡ Some p → (others : List Core) → AreMoved (line_between p p) others → (is_near ((stood placement a).x +ℤ d.dx) ≡ true) × (is_near ((stood placement a).y +ℤ d.dy) ≡ true)
      by_core p e [] h = absurd h
      by_core p e (x ∷ y ∷ others) h = absurd h.1
      by_core p e (Area corners ∷ []) h = absurd h.0
      by_core p e (LineCore s ∷ []) h = near_point p s.a e h.0.0

      by_point : (p : Option Point) → point_stood placement a ≡ p → both line_between p p ≡ Some cores → (is_near ((stood placement a).x +ℤ d.dx) ≡ true) × (is_near ((stood placement a).y +ℤ d.dy) ≡ true)
      by_point None e k = absurd cc
      by_point (Some p) e k = by_core p e others (subst (λ (l : List Core). AreMoved l others) (sym (some_same k)) m)

  radius_same : (figure other : Figure) (w : ℤ) (filled : Bool) (r : Radius) (cores others : List Core) → FigureRead o figure other → pos 0 ≤ℤ w → radius_of (radius_with w figure) ≡ Some r
      → cores_of placement filled figure ≡ Some cores → AreMoved cores others → radius_with w other ≡ radius_with w figure
  radius_same (Line a b) (Line c e) w filled r cores others h from some are m = refl
  radius_same (Rect a b) (Rect c e) w filled r cores others h from some are m = refl
  radius_same (Outline ss) (Outline ts) w filled r cores others h from some are m = refl
  radius_same (Circle a q) (Circle c p) w filled r cores others h from some are m =
      let near = near_center a cores others are m in
      let most = half_of q w (length_of ((pos 2 *ℤ q) +ℤ w) r some) from in
      let same : radius_between c h.new_end ≡ radius_between a h.end =
      placements.radii a c h.end h.new_end h.centers h.ends near.0 near.1 (subst (λ (z : ℤ). z ≤ℤ pos 250000000) h.is most) in
      ap (λ (z : ℤ). (pos 2 *ℤ z) +ℤ w) (h.new_is ∙ same ∙ sym h.is)
  radius_same (Line a b) (Rect c e) w filled r cores others h from some are m = absurd h
  radius_same (Line a b) (Circle c q) w filled r cores others h from some are m = absurd h
  radius_same (Line a b) (Outline ts) w filled r cores others h from some are m = absurd h
  radius_same (Rect a b) (Line c e) w filled r cores others h from some are m = absurd h
  radius_same (Rect a b) (Circle c q) w filled r cores others h from some are m = absurd h
  radius_same (Rect a b) (Outline ts) w filled r cores others h from some are m = absurd h
  radius_same (Circle a q) (Line c e) w filled r cores others h from some are m = absurd h
  radius_same (Circle a q) (Rect c e) w filled r cores others h from some are m = absurd h
  radius_same (Circle a q) (Outline ts) w filled r cores others h from some are m = absurd h
  radius_same (Outline ss) (Line c e) w filled r cores others h from some are m = absurd h
  radius_same (Outline ss) (Rect c e) w filled r cores others h from some are m = absurd h
  radius_same (Outline ss) (Circle c q) w filled r cores others h from some are m = absurd h

  pub drawn_carried : (layers : LayerSet) (x : Drawing) (figure : Figure) (parts others : List Part) → FigureRead o x.figure figure → pos 0 ≤ℤ x.width → drawn layers placement x ≡ Some parts
      → AreShifted (pos 2 *ℤ d.dx) (pos 2 *ℤ d.dy) parts others → drawn layers new (record x { figure = figure }) ≡ Some others
  drawn_carried layers x figure parts others h from some m =
      let k = both_some (parts_around layers) (radius_of (radius_with x.width x.figure)) (cores_of placement x.filled x.figure) parts some in
      let c = parts_carried (pos 2 *ℤ d.dx) (pos 2 *ℤ d.dy) layers k.0 k.1 others (subst (λ (l : List Part). AreShifted (pos 2 *ℤ d.dx) (pos 2 *ℤ d.dy) l others) k.4 m) in
      let width : radius_with x.width figure ≡ radius_with x.width x.figure = radius_same x.figure figure x.width x.filled k.0 k.1 c.0 h from k.2 k.3 c.1 in
      ap (λ (z : ℤ). both (parts_around layers) (radius_of z) (cores_of new x.filled figure)) width
      ∙ ap (λ (z : Option Radius). both (parts_around layers) z (cores_of new x.filled figure)) k.2
      ∙ ap (λ (z : Option (List Core)). both (parts_around layers) (Some k.0) z) (cores_carried x.filled x.figure figure k.1 c.0 h k.3 c.1)
      ∙ ap (λ (l : List Part). let z : Option (List Part) = Some l in z) (sym c.2)

  pub edge_carried : (x : Drawing) (figure : Figure) (parts others : List Part) → FigureRead o x.figure figure → drawn_edge placement x ≡ Some parts
      → AreShifted (pos 2 *ℤ d.dx) (pos 2 *ℤ d.dy) parts others → drawn_edge new (record x { figure = figure }) ≡ Some others
  edge_carried x figure parts others h some m = by_width (is_length x.width) some
    where
      by_width : (b : Bool) → cond b (drawn (record { bits = 0 }) placement (record { figure = x.figure; width = pos 0; filled = false })) None ≡ Some parts
          → cond b (drawn (record { bits = 0 }) new (record { figure = figure; width = pos 0; filled = false })) None ≡ Some others
      by_width true e = drawn_carried (record { bits = 0 }) (record { figure = x.figure; width = pos 0; filled = false }) figure parts others h (le_by_test (pos 0) (pos 0) refl) e m
      by_width false e = absurd cc
