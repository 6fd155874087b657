-- The cores of a figure that stands elsewhere are those of the figure, moved.
use Rattle.std.proofs.Common.{◌≡◌, ◌∙◌, refl, sym, ap, subst, ℤ, pos, ◌+ℤ◌, ◌*ℤ◌, Bool, true, false, ◌||◌, cond, List, [], ◌∷◌, Option, Some, option_map, arith}
use Rattle.std.specs.List.{AllZip}
use Rattle.std.specs.Ordering.{int_eq}
use Rattle.std.proofs.lemmas.Int.{ints}
use Rattle.geo_seg.specs.declared.points.Point.{Point}
use Rattle.geo_seg.specs.declared.points.Seg.{Seg}
use Rattle.geo_seg.specs.declared.shapes.Core.{Core}
use Rattle.geo_seg.specs.declared.shapes.Core.TheVariants.{Line as LineCore, Area}
use Rattle.part_read.specs.declared.numbers.RawPoint.{RawPoint}
use Rattle.part_read.specs.declared.placements.Placement.{Placement}
use Rattle.part_read.specs.There.{both}
use Rattle.part_read.specs.Placements.{point_stood, points_stood}
use Rattle.part_read.specs.Figures.{sides_from, sides, box_corners, line_cores, box_between, cores_around}
use Rattle.part_read.proofs.There.{map_some, both_some}
use Rattle.part_read.proofs.Shapes.{one_point}
use Rattle.roundtrip_lists.specs.Translated.{Shift}
use Rattle.roundtrip_lists.specs.FigurePositions.{StandsMoved}
use Rattle.roundtrip_lists.proofs.Figures.{moved_point, moved_core, point_carried, points_carried, one_same}

-- numbers that are moved alike are equal where they were
eq_moved : (a b d : ℤ) → int_eq (a +ℤ d) (b +ℤ d) ≡ int_eq a b
eq_moved a b d = grind (arith, ints)

eq_after : (a b c e d : ℤ) → c ≡ a +ℤ d → e ≡ b +ℤ d → int_eq c e ≡ int_eq a b
eq_after a b c e d h k = ap (λ (z : ℤ). int_eq z e) h ∙ ap (λ (z : ℤ). int_eq (a +ℤ d) z) k ∙ eq_moved a b d

module _ (d : Shift) (placement new : Placement) where
  abbrev pub Moved : Point → Point → Type 0
  Moved p q = moved_point d placement new p q

  abbrev pub AreMoved : List Core → List Core → Type 0
  AreMoved cores others = AllZip (moved_core d placement new) cores others

  -- ---- the sides of an outline

  record SidesMoved (first q : Point) (ps : List Point) (p : Point) (others : List Core) : Type 0 where
    corner : Point
    corners : List Point
    is : Moved p corner
    are : AllZip Moved ps corners
    sides_are : others ≡ line_cores (sides_from first corner corners)

  from_moved : (first other p : Point) (ps : List Point) (others : List Core) → Moved first other → AreMoved (line_cores (sides_from first p ps)) others → SidesMoved other p ps p others
  from_moved first other p [] [] m h = absurd h
  from_moved first other p [] (x ∷ y ∷ others) m h = absurd h.1
  from_moved first other p [] (Area corners ∷ []) m h = absurd h.0
  from_moved first other p [] (LineCore s ∷ []) m h =
      let end : s.b ≡ other = one_same d placement new first s.b other h.0.1 m in
      record {
        corner = s.a;
        corners = [];
        is = h.0.0;
        are = tt;
        sides_are = ap (λ (b : Point). LineCore (let l : Seg = record { a = s.a; b = b } in l) ∷ []) end;
      }
  from_moved first other p (q ∷ ps) [] m h = absurd h
  from_moved first other p (q ∷ ps) (Area corners ∷ others) m h = absurd h.0
  from_moved first other p (q ∷ ps) (LineCore s ∷ others) m h =
      let k = from_moved first other q ps others m h.1 in
      let end : s.b ≡ k.corner = one_same d placement new q s.b k.corner h.0.1 k.is in
      record {
        corner = s.a;
        corners = k.corner ∷ k.corners;
        is = h.0.0;
        are = (k.is, k.are);
        sides_are =
            ap (λ (b : Point). LineCore (let l : Seg = record { a = s.a; b = b } in l) ∷ others) end
            ∙ ap (λ (l : List Core). LineCore (let l : Seg = record { a = s.a; b = k.corner } in l) ∷ l) k.sides_are;
      }

  -- the first corner is where the first side begins
  start_of : (p q : Point) (ps : List Point) (others : List Core) → AreMoved (line_cores (sides_from q p ps)) others → (other : Point) × Moved p other
  start_of p q [] [] h = absurd h
  start_of p q (r ∷ ps) [] h = absurd h
  start_of p q [] (Area corners ∷ others) h = absurd h.0
  start_of p q (r ∷ ps) (Area corners ∷ others) h = absurd h.0
  start_of p q [] (LineCore s ∷ others) h = (s.a, h.0.0)
  start_of p q (r ∷ ps) (LineCore s ∷ others) h = (s.a, h.0.0)

  pub sides_moved : (ps : List Point) (others : List Core) → AreMoved (line_cores (sides ps)) others → (qs : List Point) × AllZip Moved ps qs × (others ≡ line_cores (sides qs))
  sides_moved [] [] h = ([], tt, refl)
  sides_moved [] (x ∷ others) h = absurd h
  sides_moved (p ∷ ps) others h =
      let start = start_of p p ps others h in
      let k = from_moved p start.0 p ps others start.1 h in
      let same : k.corner ≡ start.0 = one_same d placement new p k.corner start.0 k.is start.1 in
      (k.corner ∷ k.corners, (k.is, k.are), k.sides_are ∙ ap (λ (f : Point). line_cores (sides_from f k.corner k.corners)) (sym same))

  -- ---- boxes

  record CornersMoved (p q : Point) (qs : List Point) : Type 0 where
    one : Point
    two : Point
    is_one : Moved p one
    is_two : Moved q two
    are : qs ≡ box_corners one two

  corners_moved : (p q : Point) (qs : List Point) → AllZip Moved (box_corners p q) qs → CornersMoved p q qs
  corners_moved p q [] h = absurd h
  corners_moved p q (a ∷ []) h = absurd h.1
  corners_moved p q (a ∷ b ∷ []) h = absurd h.1.1
  corners_moved p q (a ∷ b ∷ c ∷ []) h = absurd h.1.1.1
  corners_moved p q (a ∷ b ∷ c ∷ e ∷ f ∷ qs) h = absurd h.1.1.1.1
  corners_moved p q (a ∷ b ∷ c ∷ e ∷ []) h =
      let second : b ≡ record { x = c.x; y = a.y; x_in_range = c.x_in_range; y_in_range = a.y_in_range } = one_point b _ (h.1.0.x ∙ sym h.1.1.0.x) (h.1.0.y ∙ sym h.0.y) in
      let fourth : e ≡ record { x = a.x; y = c.y; x_in_range = a.x_in_range; y_in_range = c.y_in_range } = one_point e _ (h.1.1.1.0.x ∙ sym h.0.x) (h.1.1.1.0.y ∙ sym h.1.1.0.y) in
      record {
        one = a;
        two = c;
        is_one = h.0;
        is_two = h.1.1.0;
        are =
            ap (λ (z : Point). a ∷ z ∷ c ∷ e ∷ []) second
            ∙ ap (λ (z : Point). a ∷ record { x = c.x; y = a.y; x_in_range = c.x_in_range; y_in_range = a.y_in_range } ∷ c ∷ z ∷ []) fourth;
      }

  abbrev is_flat : Point → Point → Bool
  is_flat p q = int_eq p.x q.x || int_eq p.y q.y

  flat_moved : (p q a b : Point) → Moved p a → Moved q b → is_flat a b ≡ is_flat p q
  flat_moved p q a b h k =
      ap (λ (t : Bool). t || int_eq a.y b.y) (eq_after p.x q.x a.x b.x (pos 2 *ℤ d.dx) h.x k.x) ∙ ap (λ (t : Bool). int_eq p.x q.x || t) (eq_after p.y q.y a.y b.y (pos 2 *ℤ d.dy) h.y k.y)

  pub record BoxMoved (filled : Bool) (p q : Point) (others : List Core) : Type 0 where
    pub one : Point
    pub two : Point
    pub is_one : Moved p one
    pub is_two : Moved q two
    pub are : others ≡ box_between filled one two

  abbrev core_by : Bool → Point → Point → Core
  core_by flat p q = cond flat (LineCore (record { a = p; b = q })) (Area (box_corners p q))

  solid_moved : (p q : Point) (flat : Bool) (core : Core) → is_flat p q ≡ flat → moved_core d placement new (core_by flat p q) core → BoxMoved true p q (core ∷ [])
  solid_moved p q true (LineCore s) e h = record {
    one = s.a;
    two = s.b;
    is_one = h.0;
    is_two = h.1;
    are = ap (λ (b : Bool). core_by b s.a s.b ∷ []) (sym (flat_moved p q s.a s.b h.0 h.1 ∙ e));
  }
  solid_moved p q true (Area qs) e h = absurd h
  solid_moved p q false (LineCore s) e h = absurd h
  solid_moved p q false (Area qs) e h =
      let k = corners_moved p q qs h in
      record {
        one = k.one;
        two = k.two;
        is_one = k.is_one;
        is_two = k.is_two;
        are = ap (λ (l : List Point). Area l ∷ []) k.are ∙ ap (λ (b : Bool). core_by b k.one k.two ∷ []) (sym (flat_moved p q k.one k.two k.is_one k.is_two ∙ e));
      }

  pub box_moved : (filled : Bool) (p q : Point) (others : List Core) → AreMoved (box_between filled p q) others → BoxMoved filled p q others
  box_moved true p q [] h = absurd h
  box_moved true p q (x ∷ y ∷ others) h = absurd h.1
  box_moved true p q (x ∷ []) h = solid_moved p q (is_flat p q) x refl h.0
  box_moved false p q others h =
      let k = sides_moved (box_corners p q) others h in
      let m = corners_moved p q k.0 k.1 in
      record { one = m.one; two = m.two; is_one = m.is_one; is_two = m.is_two; are = k.2 ∙ ap (λ (l : List Point). line_cores (sides l)) m.are }

  pub box_carried : (filled : Bool) (a b c e : RawPoint) (cores others : List Core) → StandsMoved d placement new a c → StandsMoved d placement new b e
      → both (box_between filled) (point_stood placement a) (point_stood placement b) ≡ Some cores → AreMoved cores others → both (box_between filled) (point_stood new c) (point_stood new e) ≡ Some others
  box_carried filled a b c e cores others sa sb some h =
      let k = both_some (box_between filled) (point_stood placement a) (point_stood placement b) cores some in
      let m = box_moved filled k.0 k.1 others (subst (λ (l : List Core). AreMoved l others) k.4 h) in
      ap (λ (o : Option Point). both (box_between filled) o (point_stood new e)) (point_carried d placement new a c k.0 m.one sa k.2 m.is_one)
      ∙ ap (λ (o : Option Point). both (box_between filled) (Some m.one) o) (point_carried d placement new b e k.1 m.two sb k.3 m.is_two)
      ∙ ap (λ (l : List Core). let o : Option (List Core) = Some l in o) (sym m.are)

  -- ---- outlines that are not filled

  pub open_carried : (ss ts : List RawPoint) (cores others : List Core) → AllZip (StandsMoved d placement new) ss ts → option_map (cores_around false) (points_stood placement ss) ≡ Some cores → AreMoved cores others
      → option_map (cores_around false) (points_stood new ts) ≡ Some others
  open_carried ss ts cores others stands some h =
      let k = map_some (cores_around false) (points_stood placement ss) cores some in
      let m = sides_moved k.0 others (subst (λ (l : List Core). AreMoved l others) k.2 h) in
      ap (option_map (cores_around false)) (points_carried d placement new ss ts k.0 m.0 stands k.1 m.1) ∙ ap (λ (l : List Core). let o : Option (List Core) = Some l in o) (sym m.2)
