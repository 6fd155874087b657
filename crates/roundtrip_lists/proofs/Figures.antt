-- The cores and the parts of a figure that stands elsewhere are those of the figure, moved.
use Rattle.std.proofs.Common.{◌≡◌, ◌∙◌, refl, sym, ap, subst, ℤ, pos, ◌+ℤ◌, ◌*ℤ◌, Bool, true, false, List, [], ◌∷◌, Option, Some, option_map, arith}
use Rattle.std.specs.List.{AllZip}
use Rattle.std.proofs.lemmas.Int.{ints}
use Rattle.geo_seg.specs.declared.points.Point.{Point}
use Rattle.geo_seg.specs.declared.shapes.Core.{Core}
use Rattle.geo_seg.specs.declared.shapes.Core.TheVariants.{Line as LineCore, Area}
use Rattle.geo_seg.specs.declared.shapes.Shape.{Shape}
use Rattle.geo_seg.specs.Shifts.{IsShiftedPoint, IsShiftedCore}
use Rattle.copper_layers.specs.declared.set.LayerSet.{LayerSet}
use Rattle.one_item.specs.declared.parts.Part.{Part}
use Rattle.one_item.specs.ItemMoves.{AreShifted}
use Rattle.part_read.specs.declared.numbers.RawPoint.{RawPoint}
use Rattle.part_read.specs.declared.placements.Placement.{Placement}
use Rattle.part_read.specs.declared.radii.Radius.{Radius}
use Rattle.part_read.specs.There.{both, after}
use Rattle.part_read.specs.OnBoard.{tested, fits_board, point_at}
use Rattle.part_read.specs.Placements.{stood, point_stood, points_stood}
use Rattle.part_read.specs.Figures.{line_between, cores_around, around, parts_around}
use Rattle.part_read.proofs.There.{some_same, map_some, both_some}
use Rattle.part_read.proofs.Shapes.{one_point, one_shape, is_tested}
use Rattle.roundtrip_lists.specs.Translated.{Shift}
use Rattle.roundtrip_lists.specs.Moved.{moved_raw_point}
use Rattle.roundtrip_lists.specs.FigurePositions.{StandsMoved}
use Rattle.roundtrip_lists.proofs.Shapes.{half_near, fits_moved}

-- ---- points

pub tested_some : {A : Type 0} (test : Bool) (make : test ≡ true → A) (x : A) → tested test make ≡ Some x → (h : test ≡ true) × (make h ≡ x)
tested_some true make x e = (refl, some_same e)
tested_some false make x e = absurd cc

twice : (p z w : ℤ) → p ≡ (pos 2 *ℤ z) +ℤ (pos 2 *ℤ w) → p ≡ pos 2 *ℤ (z +ℤ w)
twice p z w e = omega (arith, ints, e)

module _ (d : Shift) (placement new : Placement) where
  abbrev pub moved_point : Point → Point → Type 0
  moved_point p q = IsShiftedPoint (pos 2 *ℤ d.dx) (pos 2 *ℤ d.dy) p q

  abbrev pub moved_core : Core → Core → Type 0
  moved_core c e = IsShiftedCore (pos 2 *ℤ d.dx) (pos 2 *ℤ d.dy) c e

  pub point_carried : (s t : RawPoint) (p q : Point) → StandsMoved d placement new s t → point_stood placement s ≡ Some p → moved_point p q → point_stood new t ≡ Some q
  point_carried s t p q stands some h =
      let k = tested_some (fits_board (stood placement s)) (point_at (stood placement s)) p some in
      let x : p.x ≡ pos 2 *ℤ (stood placement s).x = ap (λ (o : Point). o.x) (sym k.1) in
      let y : p.y ≡ pos 2 *ℤ (stood placement s).y = ap (λ (o : Point). o.y) (sym k.1) in
      let qx : q.x ≡ (pos 2 *ℤ (stood placement s).x) +ℤ (pos 2 *ℤ d.dx) = h.x ∙ ap (λ (z : ℤ). z +ℤ (pos 2 *ℤ d.dx)) x in
      let qy : q.y ≡ (pos 2 *ℤ (stood placement s).y) +ℤ (pos 2 *ℤ d.dy) = h.y ∙ ap (λ (z : ℤ). z +ℤ (pos 2 *ℤ d.dy)) y in
      let near_x = half_near q.x (stood placement s).x d.dx q.x_in_range qx in
      let near_y = half_near q.y (stood placement s).y d.dy q.y_in_range qy in
      let there : stood new t ≡ moved_raw_point d (stood placement s) = stands near_x near_y in
      ap (λ (r : RawPoint). tested (fits_board r) (point_at r)) there
      ∙ sym (is_tested (fits_board (moved_raw_point d (stood placement s))) (point_at (moved_raw_point d (stood placement s))) q
      (λ fits. one_point q (point_at (moved_raw_point d (stood placement s)) fits) (twice q.x (stood placement s).x d.dx qx) (twice q.y (stood placement s).y d.dy qy))
      (fits_moved (moved_raw_point d (stood placement s)) near_x near_y))

  pub points_carried : (ss ts : List RawPoint) (ps qs : List Point) → AllZip (StandsMoved d placement new) ss ts → points_stood placement ss ≡ Some ps → AllZip moved_point ps qs → points_stood new ts ≡ Some qs
  points_carried [] [] ps qs stands e h = by_nothing ps qs (some_same e) h
    where
      by_nothing : (ps qs : List Point) → [] ≡ ps → AllZip moved_point ps qs → (let o : Option (List Point) = Some [] in o) ≡ Some qs
      by_nothing [] [] e h = refl
      by_nothing [] (q ∷ qs) e h = absurd h
      by_nothing (p ∷ ps) qs e h = absurd cc
  points_carried [] (t ∷ ts) ps qs stands e h = absurd stands
  points_carried (s ∷ ss) [] ps qs stands e h = absurd stands
  points_carried (s ∷ ss) (t ∷ ts) ps qs stands e h =
      let k = both_some (λ (y : Point) (ys : List Point). y ∷ ys) (point_stood placement s) (points_stood placement ss) ps e in
      by_first k.0 k.1 qs (subst (λ (l : List Point). AllZip moved_point l qs) k.4 h) (λ q rest a b. ap (λ (o : Option Point). both (λ (y : Point) (ys : List Point). y ∷ ys) o (points_stood new ts)) (point_carried s t k.0 q stands.0 k.2 a)
      ∙ ap (after (q ∷ [])) (points_carried ss ts k.1 rest stands.1 k.3 b))
    where
      by_first : (p : Point) (rest qs : List Point) → AllZip moved_point (p ∷ rest) qs → ((q : Point) (others : List Point) → moved_point p q → AllZip moved_point rest others → points_stood new (t ∷ ts) ≡ Some (q ∷ others))
          → points_stood new (t ∷ ts) ≡ Some qs
      by_first p rest [] h f = absurd h
      by_first p rest (q ∷ qs) h f = f q qs h.0 h.1

  -- ---- lines and circles

  pub one_same : (p q r : Point) → moved_point p q → moved_point p r → q ≡ r
  one_same p q r h k = one_point q r (h.x ∙ sym k.x) (h.y ∙ sym k.y)

  pub line_carried : (a b c e : RawPoint) (cores others : List Core) → StandsMoved d placement new a c → StandsMoved d placement new b e → both line_between (point_stood placement a) (point_stood placement b) ≡ Some cores
      → AllZip moved_core cores others → both line_between (point_stood new c) (point_stood new e) ≡ Some others
  line_carried a b c e cores others sa sb some h =
      let k = both_some line_between (point_stood placement a) (point_stood placement b) cores some in
      by_core k.0 k.1 k.2 k.3 others (subst (λ (l : List Core). AllZip moved_core l others) k.4 h)
    where
      by_core : (p q : Point) → point_stood placement a ≡ Some p → point_stood placement b ≡ Some q → (others : List Core) → AllZip moved_core (line_between p q) others → both line_between (point_stood new c) (point_stood new e) ≡ Some others
      by_core p q ep eq [] h = absurd h
      by_core p q ep eq (x ∷ y ∷ others) h = absurd h.1
      by_core p q ep eq (Area corners ∷ []) h = absurd h.0
      by_core p q ep eq (LineCore s ∷ []) h =
          ap (λ (o : Option Point). both line_between o (point_stood new e)) (point_carried a c p s.a sa ep h.0.0)
          ∙ ap (λ (o : Option Point). both line_between (Some s.a) o) (point_carried b e q s.b sb eq h.0.1)

  -- ---- filled outlines

  pub filled_carried : (ss ts : List RawPoint) (cores others : List Core) → AllZip (StandsMoved d placement new) ss ts → option_map (cores_around true) (points_stood placement ss) ≡ Some cores → AllZip moved_core cores others
      → option_map (cores_around true) (points_stood new ts) ≡ Some others
  filled_carried ss ts cores others stands some h =
      let k = map_some (cores_around true) (points_stood placement ss) cores some in by_core k.0 k.1 others (subst (λ (l : List Core). AllZip moved_core l others) k.2 h)
    where
      by_core : (ps : List Point) → points_stood placement ss ≡ Some ps → (others : List Core) → AllZip moved_core (Area ps ∷ []) others → option_map (cores_around true) (points_stood new ts) ≡ Some others
      by_core ps e [] h = absurd h
      by_core ps e (x ∷ y ∷ others) h = absurd h.1
      by_core ps e (LineCore s ∷ []) h = absurd h.0
      by_core ps e (Area qs ∷ []) h = ap (option_map (cores_around true)) (points_carried ss ts ps qs stands e h.0)

-- ---- parts

-- the parts of cores with a radius around them, moved, are those of the moved cores
pub parts_carried : (dx dy : ℤ) (layers : LayerSet) (r : Radius) (cores : List Core) (parts : List Part) → AreShifted dx dy (parts_around layers r cores) parts
    → (others : List Core) × AllZip (IsShiftedCore dx dy) cores others × (parts ≡ parts_around layers r others)
parts_carried dx dy layers r [] [] h = ([], tt, refl)
parts_carried dx dy layers r [] (p ∷ parts) h = absurd h
parts_carried dx dy layers r (c ∷ cores) [] h = absurd h
parts_carried dx dy layers r (c ∷ cores) (p ∷ parts) h =
    let k = parts_carried dx dy layers r cores parts h.1 in
    let shape : p.shape ≡ around r p.shape.core = one_shape p.shape (around r p.shape.core) refl h.0.shape.radius in
    let same : p ≡ record { layers = layers; shape = around r p.shape.core } =
    ap (λ (l : LayerSet). let q : Part = record { layers = l; shape = p.shape } in q) h.0.layers ∙ ap (λ (s : Shape). let q : Part = record { layers = layers; shape = s } in q) shape in
    (p.shape.core ∷ k.0, (h.0.shape.core, k.1), ap (λ (q : Part). q ∷ parts) same ∙ ap (λ (l : List Part). record { layers = layers; shape = around r p.shape.core } ∷ l) k.2)
