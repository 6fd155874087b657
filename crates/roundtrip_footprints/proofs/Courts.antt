-- The courtyard of a footprint that is moved is the courtyard, moved.
use Rattle.std.proofs.Common.{◌≡◌, ◌∙◌, refl, sym, ap, subst, ℕ, suc, ℤ, pos, ◌+◌, ◌+ℤ◌, ◌*ℤ◌, Bool, true, false, ◌&&◌, ◌||◌, ◌==◌, not, cond, List, [], ◌∷◌, ◌++◌, map, inl, inr, Option, Some, arith}
use Rattle.std.specs.List.{AllZip, list_all, slice_get}
use Rattle.std.specs.Ordering.{int_eq}
use Rattle.std.proofs.lemmas.Int.{ints}
use Rattle.geo_seg.specs.declared.points.Point.{Point}
use Rattle.geo_seg.specs.declared.points.Seg.{Seg}
use Rattle.geo_seg.specs.declared.shapes.Core.{Core}
use Rattle.geo_seg.specs.declared.shapes.Core.TheVariants.{Line as LineCore, Area}
use Rattle.geo_seg.specs.declared.shapes.Shape.{Shape}
use Rattle.geo_seg.specs.Shifts.{IsShiftedPoint, IsShiftedCore}
use Rattle.copper_layers.specs.declared.set.LayerSet.{LayerSet}
use Rattle.one_item.specs.declared.parts.Part.{Part}
use Rattle.one_item.specs.ItemMoves.{AreShifted, IsShiftedPart}
use Rattle.part_read.specs.declared.numbers.RawPoint.{RawPoint}
use Rattle.part_read.specs.declared.placements.Placement.{Placement}
use Rattle.part_read.specs.declared.radii.Radius.{Radius}
use Rattle.part_read.specs.declared.figures.Figure.{Figure}
use Rattle.part_read.specs.declared.figures.Figure.TheVariants.{Line, Rect, Circle, Outline}
use Rattle.part_read.specs.declared.figures.Drawing.{Drawing}
use Rattle.part_read.specs.There.{both, after}
use Rattle.part_read.specs.OnBoard.{tested, fits_board, point_at}
use Rattle.part_read.specs.Figures.{no_radius, radius_of, radius_with, around, parts_around, cores_of, drawn}
use Rattle.part_read.proofs.There.{some_same, both_some}
use Rattle.part_read.proofs.Shapes.{one_point, one_shape, is_tested}
use Rattle.courtyard.specs.Ends.{place as raw_point_of_point, is_same, is_short}
use Rattle.roundtrip_lists.specs.ListMoves.{IsShiftedSeg, AreShiftedSegs, HasPoint, HasCorner}
use Rattle.roundtrip_lists.proofs.CourtMoving.{beyond, same_moved, chained_moved}
use Rattle.roundtrip_lists.proofs.Cornering.{has_corner}
use Rattle.footprint_read.specs.declared.sides.CourtSide.{CourtSide}
use Rattle.footprint_read.specs.declared.sides.RawSegment.{RawSegment}
use Rattle.footprint_read.specs.declared.courts.Court.{Court}
use Rattle.footprint_read.specs.declared.courts.Court.TheVariants.{Unchecked, Parts, Off}
use Rattle.footprint_read.specs.Courtyards.{at, is_long, ends_at, many_at, is_met, is_closed, line_to, seg_of, segs_of, figure_parts, outline_part, HasParts, IsCourt, parts_in, lies_on_board}
use Rattle.roundtrip_lists.specs.Translated.{Shift}
use Rattle.roundtrip_lists.specs.Moved.{moved_raw_point}
use Rattle.roundtrip_lists.specs.FigurePositions.{StandsMoved}
use Rattle.roundtrip_lists.proofs.Figures.{tested_some, line_carried, filled_carried, parts_carried}
use Rattle.roundtrip_lists.proofs.Shapes.{half_near, fits_moved}
use Rattle.roundtrip_lists.proofs.Cores.{box_carried, open_carried}
use Rattle.roundtrip_footprints.specs.MovedHeads.{moved_placement}
use Rattle.roundtrip_footprints.proofs.Placing.{split}
use Rattle.roundtrip_footprints.proofs.Standing.{moved_placements}
use Rattle.roundtrip_footprints.proofs.Siding.{moved_course, moved_side}

abbrev no_layers : LayerSet
no_layers = record { bits = 0 }

-- ---- lines that are closed

module _ (d : Shift) where
  long_moved : (line : RawSegment) → is_long (moved_course d line) ≡ is_long line
  long_moved line = ap not (same_moved d.dx d.dy (at line.a) (at line.b))

  ends_moved : (k : ℤ × ℤ) (line : RawSegment) → ends_at (beyond d.dx d.dy k) (moved_course d line) ≡ ends_at k line
  ends_moved k line =
      ap (λ (b : Bool). by_ends b (is_same (at (moved_raw_point d line.a)) (beyond d.dx d.dy k)) (is_same (at (moved_raw_point d line.b)) (beyond d.dx d.dy k))) (long_moved line)
      ∙ ap (λ (b : Bool). by_ends (is_long line) b (is_same (at (moved_raw_point d line.b)) (beyond d.dx d.dy k))) (same_moved d.dx d.dy (at line.a) k)
      ∙ ap (λ (b : Bool). by_ends (is_long line) (is_same (at line.a) k) b) (same_moved d.dx d.dy (at line.b) k)
    where
      by_ends : Bool → Bool → Bool → ℕ
      by_ends long first second = cond long (cond first 1 0 + cond second 1 0) 0

  many_moved : (k : ℤ × ℤ) (lines : List RawSegment) → many_at (beyond d.dx d.dy k) (map (moved_course d) lines) ≡ many_at k lines
  many_moved k [] = refl
  many_moved k (line ∷ lines) =
      ap (λ (n : ℕ). n + many_at (beyond d.dx d.dy k) (map (moved_course d) lines)) (ends_moved k line) ∙ ap (λ (n : ℕ). ends_at k line + n) (many_moved k lines)

  met_moved : (lines : List RawSegment) (line : RawSegment) → is_met (map (moved_course d) lines) (moved_course d line) ≡ is_met lines line
  met_moved lines line =
      ap (λ (b : Bool). not b || (many_at (at (moved_raw_point d line.a)) (map (moved_course d) lines) == 2 && many_at (at (moved_raw_point d line.b)) (map (moved_course d) lines) == 2)) (long_moved line)
      ∙ ap (λ (n : ℕ). not (is_long line) || (n == 2 && many_at (at (moved_raw_point d line.b)) (map (moved_course d) lines) == 2)) (many_moved (at line.a) lines)
      ∙ ap (λ (n : ℕ). not (is_long line) || (many_at (at line.a) lines == 2 && n == 2)) (many_moved (at line.b) lines)

  all_met : (lines some : List RawSegment) → list_all (is_met (map (moved_course d) lines)) (map (moved_course d) some) ≡ list_all (is_met lines) some
  all_met lines [] = refl
  all_met lines (line ∷ some) =
      ap (λ (b : Bool). b && list_all (is_met (map (moved_course d) lines)) (map (moved_course d) some)) (met_moved lines line) ∙ ap (λ (b : Bool). is_met lines line && b) (all_met lines some)

  closed_same : (lines : List RawSegment) → is_closed (map (moved_course d) lines) ≡ is_closed lines
  closed_same lines = all_met lines lines

  -- ---- figures

  abbrev ddx : ℤ
  ddx = pos 2 *ℤ d.dx

  abbrev ddy : ℤ
  ddy = pos 2 *ℤ d.dy

  module _ (placement : Placement) where
    abbrev new : Placement
    new = moved_placement d placement

    stands : (s : RawPoint) → StandsMoved d placement new s s
    stands s = (moved_placements d placement).stands s s refl

    all_stand : (raw_points : List RawPoint) → AllZip (StandsMoved d placement new) raw_points raw_points
    all_stand [] = tt
    all_stand (s ∷ raw_points) = (stands s, all_stand raw_points)

    cores_again : (filled : Bool) (figure : Figure) (cores others : List Core) → cores_of placement filled figure ≡ Some cores → AllZip (IsShiftedCore ddx ddy) cores others → cores_of new filled figure ≡ Some others
    cores_again filled (Line a b) cores others some h = line_carried d placement new a b a b cores others (stands a) (stands b) some h
    cores_again filled (Rect a b) cores others some h = box_carried d placement new filled a b a b cores others (stands a) (stands b) some h
    cores_again filled (Circle c r) cores others some h = line_carried d placement new c c c c cores others (stands c) (stands c) some h
    cores_again true (Outline raw_points) cores others some h = filled_carried d placement new raw_points raw_points cores others (all_stand raw_points) some h
    cores_again false (Outline raw_points) cores others some h = open_carried d placement new raw_points raw_points cores others (all_stand raw_points) some h

    drawn_again : (x : Drawing) (parts others : List Part) → drawn no_layers placement x ≡ Some parts → AreShifted ddx ddy parts others → drawn no_layers new x ≡ Some others
    drawn_again x parts others some h =
        let k = both_some (parts_around no_layers) (radius_of (radius_with x.width x.figure)) (cores_of placement x.filled x.figure) parts some in
        let c = parts_carried ddx ddy no_layers k.0 k.1 others (subst (λ (l : List Part). AreShifted ddx ddy l others) k.4 h) in
        ap (λ (r : Option Radius). both (parts_around no_layers) r (cores_of new x.filled x.figure)) k.2
        ∙ ap (λ (o : Option (List Core)). both (parts_around no_layers) (Some k.0) o) (cores_again x.filled x.figure k.1 c.0 k.3 c.1)
        ∙ ap (λ (l : List Part). let o : Option (List Part) = Some l in o) (sym c.2)

    nothing_more : (parts others : List Part) → [] ≡ parts → AreShifted ddx ddy parts others → (let o : Option (List Part) = Some [] in o) ≡ Some others
    nothing_more [] [] e h = refl
    nothing_more [] (o ∷ others) e h = absurd h
    nothing_more (p ∷ parts) others e h = absurd cc

    figures_again : (drawings : List Drawing) (parts others : List Part) → figure_parts placement drawings ≡ Some parts → AreShifted ddx ddy parts others → figure_parts new drawings ≡ Some others
    figures_again [] parts others some h = nothing_more parts others (some_same some) h
    figures_again (x ∷ drawings) parts others some h =
        let k = both_some (λ (ps qs : List Part). ps ++ qs) (drawn no_layers placement x) (figure_parts placement drawings) parts some in
        let m = split d k.0 k.1 others (subst (λ (l : List Part). AreShifted ddx ddy l others) k.4 h) in
        ap (λ (o : Option (List Part)). both (λ (ps qs : List Part). ps ++ qs) o (figure_parts new drawings)) (drawn_again x k.0 m.us k.2 m.first)
        ∙ ap (after m.us) (figures_again drawings k.1 m.vs k.3 m.rest)
        ∙ ap (λ (l : List Part). let o : Option (List Part) = Some l in o) (sym m.are)

  -- ---- outlines

  record Outlines (polys : List (List Point)) (others : List Part) : Type 0 where
    moved : List (List Point)
    zip : AllZip (AllZip (IsShiftedPoint ddx ddy)) polys moved
    are : map outline_part moved ≡ others

  outline_of : (ps : List Point) (other : Part) → IsShiftedPart ddx ddy (outline_part ps) other → (qs : List Point) × AllZip (IsShiftedPoint ddx ddy) ps qs × (outline_part qs ≡ other)
  outline_of ps other h = by_core other.shape.core refl h.shape.core
    where
      by_core : (core : Core) → other.shape.core ≡ core → IsShiftedCore ddx ddy (Area ps) core → (qs : List Point) × AllZip (IsShiftedPoint ddx ddy) ps qs × (outline_part qs ≡ other)
      by_core (LineCore s) e k = absurd k
      by_core (Area qs) e k =
          let same : around no_radius (Area qs) ≡ other.shape = one_shape (around no_radius (Area qs)) other.shape (sym e) (sym h.shape.radius) in
          (qs, k, ap (λ (z : Shape). let p : Part = record { layers = no_layers; shape = z } in p) same ∙ ap (λ (l : LayerSet). let p : Part = record { layers = l; shape = other.shape } in p) (sym h.layers))

  outlines_of : (polys : List (List Point)) (others : List Part) → AreShifted ddx ddy (map outline_part polys) others → Outlines polys others
  outlines_of [] [] h = record { moved = []; zip = tt; are = refl }
  outlines_of [] (o ∷ others) h = absurd h
  outlines_of (ps ∷ polys) [] h = absurd h
  outlines_of (ps ∷ polys) (o ∷ others) h =
      let k = outline_of ps o h.0 in
      let m = outlines_of polys others h.1 in
      record { moved = k.0 ∷ m.moved; zip = (k.1, m.zip); are = ap (λ (p : Part). p ∷ map outline_part m.moved) k.2 ∙ ap (λ (l : List Part). o ∷ l) m.are }

  -- ---- lines of which each end is a corner

  -- the moved point is one of a board
  record StaysThere (k : ℤ × ℤ) : Type 0 where
    point : Point
    x : point.x ≡ k.0 +ℤ ddx
    y : point.y ≡ k.1 +ℤ ddy

  point_stays : (ps qs : List Point) (k : ℤ × ℤ) → AllZip (IsShiftedPoint ddx ddy) ps qs → HasPoint ps k → StaysThere k
  point_stays [] qs k zip h = absurd h
  point_stays (p ∷ ps) [] k zip h = absurd zip
  point_stays (p ∷ ps) (q ∷ qs) k zip (inl e) =
      record { point = q; x = zip.0.x ∙ ap (λ (z : ℤ × ℤ). z.0 +ℤ ddx) e; y = zip.0.y ∙ ap (λ (z : ℤ × ℤ). z.1 +ℤ ddy) e }
  point_stays (p ∷ ps) (q ∷ qs) k zip (inr h) = point_stays ps qs k zip.1 h

  corner_stays : (polys moved : List (List Point)) (k : ℤ × ℤ) → AllZip (AllZip (IsShiftedPoint ddx ddy)) polys moved → HasCorner polys k → StaysThere k
  corner_stays [] moved k zip h = absurd h
  corner_stays (ps ∷ polys) [] k zip h = absurd zip
  corner_stays (ps ∷ polys) (qs ∷ moved) k zip (inl h) = point_stays ps qs k zip.0 h
  corner_stays (ps ∷ polys) (qs ∷ moved) k zip (inr h) = corner_stays polys moved k zip.1 h

  -- both ends of each of the lines stay
  abbrev EndsStay : List Seg → Type 0
  EndsStay [] = Unit {0}
  EndsStay (l ∷ ls) = (is_short l ≡ false → StaysThere (raw_point_of_point l.a) × StaysThere (raw_point_of_point l.b)) × EndsStay ls

  each_end : (segs : List Seg) → ((i : ℕ) (l : Seg) → slice_get segs i ≡ Some l → is_short l ≡ false → StaysThere (raw_point_of_point l.a) × StaysThere (raw_point_of_point l.b)) → EndsStay segs
  each_end [] h = tt
  each_end (l ∷ segs) h = (h 0 l refl, each_end segs (λ i m e. h (suc i) m e))

  twice_same : (a b : ℤ) → int_eq (pos 2 *ℤ a) (pos 2 *ℤ b) ≡ int_eq a b
  twice_same a b = grind (arith, ints)

  not_short : (line : RawSegment) (fa : fits_board line.a ≡ true) (fb : fits_board line.b ≡ true) → is_long line ≡ true → is_short (record { a = point_at line.a fa; b = point_at line.b fb }) ≡ false
  not_short line fa fb long =
      ap (λ (b : Bool). b && int_eq (pos 2 *ℤ line.a.y) (pos 2 *ℤ line.b.y)) (twice_same line.a.x line.b.x) ∙ ap (λ (b : Bool). int_eq line.a.x line.b.x && b) (twice_same line.a.y line.b.y)
      ∙ is_false (is_same (at line.a) (at line.b)) long
    where
      is_false : (b : Bool) → not b ≡ true → b ≡ false
      is_false true e = absurd cc
      is_false false e = refl

  -- the point of a place of which the moved one stays
  record PointAgain (s : RawPoint) (p : Point) : Type 0 where
    point : Point
    there : tested (fits_board (moved_raw_point d s)) (point_at (moved_raw_point d s)) ≡ Some point
    shifted : IsShiftedPoint ddx ddy p point

  twice : (p z w : ℤ) → p ≡ (pos 2 *ℤ z) +ℤ (pos 2 *ℤ w) → p ≡ pos 2 *ℤ (z +ℤ w)
  twice p z w e = omega (arith, ints, e)

  point_again : (s : RawPoint) (fits : fits_board s ≡ true) → StaysThere (raw_point_of_point (point_at s fits)) → PointAgain s (point_at s fits)
  point_again s fits k =
      let near_x = half_near k.point.x s.x d.dx k.point.x_in_range k.x in
      let near_y = half_near k.point.y s.y d.dy k.point.y_in_range k.y in
      record {
        point = k.point;
        there = sym (is_tested (fits_board (moved_raw_point d s)) (point_at (moved_raw_point d s)) k.point (λ fit. one_point k.point (point_at (moved_raw_point d s) fit) (twice k.point.x s.x d.dx k.x) (twice k.point.y s.y d.dy k.y)) (fits_moved (moved_raw_point d s) near_x near_y));
        shifted = record { x = k.x; y = k.y };
      }

  record SegMade (line : RawSegment) (seg : Seg) : Type 0 where
    fits_a : fits_board line.a ≡ true
    fits_b : fits_board line.b ≡ true
    is : record { a = point_at line.a fits_a; b = point_at line.b fits_b } ≡ seg

  seg_made : (line : RawSegment) (seg : Seg) → seg_of line ≡ Some seg → SegMade line seg
  seg_made line seg h =
      let k = both_some line_to (tested (fits_board line.a) (point_at line.a)) (tested (fits_board line.b) (point_at line.b)) seg h in
      let a = tested_some (fits_board line.a) (point_at line.a) k.0 k.2 in
      let b = tested_some (fits_board line.b) (point_at line.b) k.1 k.3 in
      record {
        fits_a = a.0;
        fits_b = b.0;
        is = ap (λ (p : Point). let s : Seg = record { a = p; b = point_at line.b b.0 } in s) a.1 ∙ ap (λ (p : Point). let s : Seg = record { a = k.0; b = p } in s) b.1 ∙ sym k.4;
      }

  seg_again : (line : RawSegment) (seg : Seg) → is_long line ≡ true → seg_of line ≡ Some seg → (is_short seg ≡ false → StaysThere (raw_point_of_point seg.a) × StaysThere (raw_point_of_point seg.b)) → (other : Seg) × (seg_of (moved_course d line) ≡ Some other) × IsShiftedSeg ddx ddy seg other
  seg_again line seg long some stays =
      let k = seg_made line seg some in
      by_made k.fits_a k.fits_b k.is
    where
      by_made : (fa : fits_board line.a ≡ true) (fb : fits_board line.b ≡ true) → record { a = point_at line.a fa; b = point_at line.b fb } ≡ seg → (other : Seg) × (seg_of (moved_course d line) ≡ Some other) × IsShiftedSeg ddx ddy seg other
      by_made fa fb is =
          let here : StaysThere (raw_point_of_point (point_at line.a fa)) × StaysThere (raw_point_of_point (point_at line.b fb)) =
          subst (λ (s : Seg). is_short s ≡ false → StaysThere (raw_point_of_point s.a) × StaysThere (raw_point_of_point s.b)) (sym is) stays (not_short line fa fb long) in
          let a = point_again line.a fa here.0 in
          let b = point_again line.b fb here.1 in (
            record { a = a.point; b = b.point },
            ap (λ (o : Option Point). both line_to o (tested (fits_board (moved_raw_point d line.b)) (point_at (moved_raw_point d line.b)))) a.there ∙ ap (λ (o : Option Point). both line_to (Some a.point) o) b.there,
            subst (λ (s : Seg). IsShiftedSeg ddx ddy s (record { a = a.point; b = b.point })) is (a.shifted, b.shifted),
          )

  record SegsAgain (lines : List RawSegment) (segs : List Seg) : Type 0 where
    others : List Seg
    there : segs_of (map (moved_course d) lines) ≡ Some others
    shifted : AreShiftedSegs ddx ddy segs others

  abbrev put : Seg → List Seg → List Seg
  put seg segs = seg ∷ segs

  segs_again : (lines : List RawSegment) (segs : List Seg) → segs_of lines ≡ Some segs → EndsStay segs → SegsAgain lines segs
  segs_again [] segs some stays = subst (SegsAgain []) (some_same some) (record { others = []; there = refl; shifted = tt })
  segs_again (line ∷ lines) segs some stays = by_long (is_long line) refl some (λ rest e s. segs_again lines rest e s)
    where
      by_long : (b : Bool) → is_long line ≡ b → cond b (both put (seg_of line) (segs_of lines)) (segs_of lines) ≡ Some segs → ((rest : List Seg) → segs_of lines ≡ Some rest → EndsStay rest → SegsAgain lines rest) → SegsAgain (line ∷ lines) segs
      by_long false e h more =
          let m = more segs h stays in
          record { others = m.others; there = ap (λ (b : Bool). cond b (both put (seg_of (moved_course d line)) (segs_of (map (moved_course d) lines))) (segs_of (map (moved_course d) lines))) (long_moved line ∙ e) ∙ m.there; shifted = m.shifted }
      by_long true e h more =
          let k = both_some put (seg_of line) (segs_of lines) segs h in
          let stay : EndsStay (k.0 ∷ k.1) = subst EndsStay k.4 stays in
          let one = seg_again line k.0 e k.2 stay.0 in
          let m = more k.1 k.3 stay.1 in
          subst (SegsAgain (line ∷ lines)) (sym k.4)
          (record {
            others = one.0 ∷ m.others;
            there =
                ap (λ (b : Bool). cond b (both put (seg_of (moved_course d line)) (segs_of (map (moved_course d) lines))) (segs_of (map (moved_course d) lines))) (long_moved line ∙ e)
                ∙ ap (λ (o : Option Seg). both put o (segs_of (map (moved_course d) lines))) one.1
                ∙ ap (after (one.0 ∷ [])) m.there;
            shifted = (one.2, m.shifted);
          })

  -- ---- courtyards

  parts_again : (placement : Placement) (side : CourtSide) (parts others : List Part) → HasParts placement side parts → AreShifted ddx ddy parts others → HasParts (moved_placement d placement) (moved_side d side) others
  parts_again placement side parts others has h =
      let k = split d has.drawn (map outline_part has.polys) others (subst (λ (l : List Part). AreShifted ddx ddy l others) has.all h) in
      let m = outlines_of has.polys k.vs k.rest in
      let stays = each_end has.segs (λ i l there long. (corner_stays has.polys m.moved (raw_point_of_point l.a) m.zip (has_corner has.segs has.polys has.chained i l there long false), corner_stays has.polys m.moved (raw_point_of_point l.b) m.zip (has_corner has.segs has.polys has.chained i l there long true))) in
      let s = segs_again side.lines has.segs has.of_lines stays in
      record {
        drawn = k.us;
        segs = s.others;
        polys = m.moved;
        of_figures = figures_again placement side.drawings has.drawn k.us has.of_figures k.first;
        of_lines = s.there;
        chained = chained_moved ddx ddy has.segs s.others has.polys m.moved s.shifted has.chained m.zip;
        all = k.are ∙ ap (λ (l : List Part). k.us ++ l) (sym m.are);
      }

  -- the courtyard with these parts
  abbrev pub court_with : Court → List Part → Court
  court_with Unchecked others = Unchecked
  court_with (Parts parts) others = Parts others
  court_with Off others = Off

  pub record CourtAgain (placement : Placement) (side : CourtSide) (court : Court) (others : List Part) : Type 0 where
    pub is : IsCourt (moved_placement d placement) (moved_side d side) (court_with court others)
    pub parts : parts_in (court_with court others) ≡ others
    pub lies : lies_on_board (court_with court others) ≡ true

  none_left : (others : List Part) → AreShifted ddx ddy [] others → [] ≡ others
  none_left [] h = refl
  none_left (o ∷ others) h = absurd h

  pub court_again : (placement : Placement) (side : CourtSide) (court : Court) (others : List Part) → IsCourt placement side court → lies_on_board court ≡ true → AreShifted ddx ddy (parts_in court) others → CourtAgain placement side court others
  court_again placement side Unchecked others (inl curved) lies h = record { is = inl curved; parts = none_left others h; lies = refl }
  court_again placement side Unchecked others (inr loose) lies h = record { is = inr (closed_same side.lines ∙ loose); parts = none_left others h; lies = refl }
  court_again placement side (Parts parts) others (checked, has) lies h = record { is = ((checked.0, closed_same side.lines ∙ checked.1), parts_again placement side parts others has h); parts = refl; lies = refl }
  court_again placement side Off others is lies h = absurd cc
