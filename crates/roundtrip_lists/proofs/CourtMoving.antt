-- The outlines of lines that are moved are theirs, moved.
use Rattle.std.proofs.Common.{◌≡◌, ◌∙◌, refl, sym, ap, subst, ℕ, zero, suc, ℤ, ◌+ℤ◌, Bool, true, false, ◌&&◌, List, [], ◌∷◌, ◌++◌, map, Option, None, Some, arith}
use Rattle.std.specs.List.{AllZip, slice_get}
use Rattle.std.specs.Ordering.{int_eq}
use Rattle.std.proofs.lemmas.Int.{ints}
use Rattle.geo_seg.specs.declared.points.Point.{Point}
use Rattle.geo_seg.specs.declared.points.Seg.{Seg}
use Rattle.geo_seg.specs.Shifts.{IsShiftedPoint}
use Rattle.courtyard.specs.declared.ends.LineEnd.{LineEnd}
use Rattle.courtyard.specs.Ends.{place, is_same, is_short, point_of, opposite, IsEndAt}
use Rattle.courtyard.specs.ClosedOutlines.{LineLeadsTo, first_or, LeadTo, IsOutline, EachOutline, AreOutlines, point_left, points_left, closed, corners, AreChained}
use Rattle.part_read.proofs.Shapes.{one_point}
use Rattle.roundtrip_lists.specs.ListMoves.{IsShiftedSeg, AreShiftedSegs}

-- numbers that are moved alike are equal where they were
pub eq_moved : (a b d : ℤ) → int_eq (a +ℤ d) (b +ℤ d) ≡ int_eq a b
eq_moved a b d = grind (arith, ints)

module _ (dx dy : ℤ) where
  abbrev pub beyond : ℤ × ℤ → ℤ × ℤ
  beyond k = (k.0 +ℤ dx, k.1 +ℤ dy)

  point_moved : (p q : Point) → IsShiftedPoint dx dy p q → place q ≡ beyond (place p)
  point_moved p q h = ap (λ (x : ℤ). (x, q.y)) h.x ∙ ap (λ (y : ℤ). (p.x +ℤ dx, y)) h.y

  pub same_moved : (k m : ℤ × ℤ) → is_same (beyond k) (beyond m) ≡ is_same k m
  same_moved k m = ap (λ b. b && int_eq (k.1 +ℤ dy) (m.1 +ℤ dy)) (eq_moved k.0 m.0 dx) ∙ ap (λ b. int_eq k.0 m.0 && b) (eq_moved k.1 m.1 dy)

  short_moved : (l m : Seg) → IsShiftedSeg dx dy l m → is_short m ≡ is_short l
  short_moved l m h =
      ap (λ (k : ℤ × ℤ). is_same k (place m.b)) (point_moved l.a m.a h.0) ∙ ap (λ (k : ℤ × ℤ). is_same (beyond (place l.a)) k) (point_moved l.b m.b h.1) ∙ same_moved (place l.a) (place l.b)

  end_moved : (l m : Seg) (far : Bool) → IsShiftedSeg dx dy l m → IsShiftedPoint dx dy (point_of l far) (point_of m far)
  end_moved l m false h = h.0
  end_moved l m true h = h.1

  -- the line of a number, moved
  get_moved : (lines others : List Seg) (i : ℕ) (l : Seg) → AreShiftedSegs dx dy lines others → slice_get lines i ≡ Some l → (m : Seg) × (slice_get others i ≡ Some m) × IsShiftedSeg dx dy l m
  get_moved [] others i l h e = absurd cc
  get_moved (x ∷ lines) [] i l h e = absurd h
  get_moved (x ∷ lines) (y ∷ others) zero l h e = let same : x ≡ l = cc in (y, refl, subst (λ (s : Seg). IsShiftedSeg dx dy s y) same h.0)
  get_moved (x ∷ lines) (y ∷ others) (suc i) l h e = get_moved lines others i l h.1 e

  get_back : (lines others : List Seg) (i : ℕ) (m : Seg) → AreShiftedSegs dx dy lines others → slice_get others i ≡ Some m → (l : Seg) × (slice_get lines i ≡ Some l) × IsShiftedSeg dx dy l m
  get_back lines [] i m h e = absurd cc
  get_back [] (y ∷ others) i m h e = absurd h
  get_back (x ∷ lines) (y ∷ others) zero m h e = let same : y ≡ m = cc in (x, refl, subst (λ (s : Seg). IsShiftedSeg dx dy x s) same h.0)
  get_back (x ∷ lines) (y ∷ others) (suc i) m h e = get_back lines others i m h.1 e

  module _ (lines others : List Seg) (shifted : AreShiftedSegs dx dy lines others) where
    stands_moved : (e : LineEnd) (k : ℤ × ℤ) → IsEndAt lines e k → IsEndAt others e (beyond k)
    stands_moved e k h =
        let m = get_moved lines others e.line h.line shifted h.there in
        record {
          line = m.0;
          there = m.1;
          long = short_moved h.line m.0 m.2 ∙ h.long;
          at = point_moved (point_of h.line e.far) (point_of m.0 e.far) (end_moved h.line m.0 e.far m.2) ∙ ap beyond h.at;
        }

    leads_moved : (e f : LineEnd) → LineLeadsTo lines e f → LineLeadsTo others e f
    leads_moved e f h = record { raw_point = beyond h.raw_point; arrives = stands_moved (opposite e) h.raw_point h.arrives; leaves = stands_moved f h.raw_point h.leaves }

    lead_moved : (es : List LineEnd) (t : LineEnd) → LeadTo lines es t → LeadTo others es t
    lead_moved [] t h = tt
    lead_moved (e ∷ es) t h = (leads_moved e (first_or t es) h.0, lead_moved es t h.1)

    outline_moved : (o : List LineEnd) → IsOutline lines o → IsOutline others o
    outline_moved [] h = absurd h
    outline_moved (e ∷ es) h = (h.0, h.1, lead_moved (e ∷ es) e h.2)

    each_moved : (os : List (List LineEnd)) → EachOutline lines os → EachOutline others os
    each_moved [] h = tt
    each_moved (o ∷ os) h = (outline_moved o h.0, each_moved os h.1)

    outlines_moved : (os : List (List LineEnd)) → AreOutlines lines os → AreOutlines others os
    outlines_moved os h = record {
      each = each_moved os h.each;
      once = λ i m there long. (let l = get_back lines others i m shifted there in h.once i l.0 l.1 (sym (short_moved l.0 m l.2) ∙ long));
      in_order = h.in_order;
    }

    left_moved : (i : ℕ) (far : Bool) (o : Option Seg) → slice_get lines i ≡ o → AllZip (IsShiftedPoint dx dy) (point_left o far) (point_left (slice_get others i) far)
    left_moved i far (Some l) e =
        let m = get_moved lines others i l shifted e in
        subst (λ (o : Option Seg). AllZip (IsShiftedPoint dx dy) (point_left (Some l) far) (point_left o far)) (sym m.1) (end_moved l m.0 far m.2, tt)
    left_moved i far None e = by_other (slice_get others i) refl
      where
        by_other : (o : Option Seg) → slice_get others i ≡ o → AllZip (IsShiftedPoint dx dy) (point_left None far) (point_left o far)
        by_other None k = tt
        by_other (Some m) k = absurd (let l = get_back lines others i m shifted k in let c : None ≡ Some l.0 = sym e ∙ l.1 in cc)

    zip_append : (xs ys us vs : List Point) → AllZip (IsShiftedPoint dx dy) xs ys → AllZip (IsShiftedPoint dx dy) us vs → AllZip (IsShiftedPoint dx dy) (xs ++ us) (ys ++ vs)
    zip_append [] [] us vs h k = k
    zip_append [] (y ∷ ys) us vs h k = absurd h
    zip_append (x ∷ xs) [] us vs h k = absurd h
    zip_append (x ∷ xs) (y ∷ ys) us vs h k = (h.0, zip_append xs ys us vs h.1 k)

    points_moved : (es : List LineEnd) → AllZip (IsShiftedPoint dx dy) (points_left lines es) (points_left others es)
    points_moved [] = tt
    points_moved (e ∷ es) = zip_append (point_left (slice_get lines e.line) e.far) (point_left (slice_get others e.line) e.far) (points_left lines es) (points_left others es) (left_moved e.line e.far (slice_get lines e.line) refl) (points_moved es)

    closed_moved : (ps qs : List Point) → AllZip (IsShiftedPoint dx dy) ps qs → AllZip (IsShiftedPoint dx dy) (closed ps) (closed qs)
    closed_moved [] [] h = tt
    closed_moved [] (q ∷ qs) h = absurd h
    closed_moved (p ∷ ps) [] h = absurd h
    closed_moved (p ∷ []) (q ∷ []) h = h
    closed_moved (p ∷ []) (q ∷ r ∷ qs) h = absurd h.1
    closed_moved (p ∷ o ∷ ps) (q ∷ []) h = absurd h.1
    closed_moved (p ∷ o ∷ []) (q ∷ r ∷ []) h = (h.0, (h.1.0, (h.0, tt)))
    closed_moved (p ∷ o ∷ []) (q ∷ r ∷ s ∷ qs) h = absurd h.1.1
    closed_moved (p ∷ o ∷ n ∷ ps) (q ∷ r ∷ []) h = absurd h.1.1
    closed_moved (p ∷ o ∷ n ∷ ps) (q ∷ r ∷ s ∷ qs) h = h

    all_corners : (os : List (List LineEnd)) → AllZip (AllZip (IsShiftedPoint dx dy)) (map (corners lines) os) (map (corners others) os)
    all_corners [] = tt
    all_corners (o ∷ os) = (closed_moved (points_left lines o) (points_left others o) (points_moved o), all_corners os)

  -- what is moved is known by what it was
  one_moved : (ps qs rs : List Point) → AllZip (IsShiftedPoint dx dy) ps qs → AllZip (IsShiftedPoint dx dy) ps rs → qs ≡ rs
  one_moved [] [] [] h k = refl
  one_moved [] [] (r ∷ rs) h k = absurd k
  one_moved [] (q ∷ qs) rs h k = absurd h
  one_moved (p ∷ ps) [] rs h k = absurd h
  one_moved (p ∷ ps) (q ∷ qs) [] h k = absurd k
  one_moved (p ∷ ps) (q ∷ qs) (r ∷ rs) h k =
      ap (λ (x : Point). x ∷ qs) (one_point q r (h.0.x ∙ sym k.0.x) (h.0.y ∙ sym k.0.y)) ∙ ap (λ (l : List Point). r ∷ l) (one_moved ps qs rs h.1 k.1)

  all_one : (ps qs rs : List (List Point)) → AllZip (AllZip (IsShiftedPoint dx dy)) ps qs → AllZip (AllZip (IsShiftedPoint dx dy)) ps rs → qs ≡ rs
  all_one [] [] [] h k = refl
  all_one [] [] (r ∷ rs) h k = absurd k
  all_one [] (q ∷ qs) rs h k = absurd h
  all_one (p ∷ ps) [] rs h k = absurd h
  all_one (p ∷ ps) (q ∷ qs) [] h k = absurd k
  all_one (p ∷ ps) (q ∷ qs) (r ∷ rs) h k = ap (λ (x : List Point). x ∷ qs) (one_moved p q r h.0 k.0) ∙ ap (λ (l : List (List Point)). r ∷ l) (all_one ps qs rs h.1 k.1)

pub chained_moved : (dx dy : ℤ) (lines others : List Seg) (polys moved : List (List Point)) → AreShiftedSegs dx dy lines others → AreChained lines polys → AllZip (AllZip (IsShiftedPoint dx dy)) polys moved → AreChained others moved
chained_moved dx dy lines others polys moved shifted chained h = record {
  all = chained.all;
  outlines = outlines_moved dx dy lines others shifted chained.all chained.outlines;
  polygons = all_one dx dy polys moved (map (corners others) chained.all) h
      (subst (λ (ps : List (List Point)). AllZip (AllZip (IsShiftedPoint dx dy)) ps (map (corners others) chained.all)) (sym chained.polygons) (all_corners dx dy lines others shifted chained.all));
}
