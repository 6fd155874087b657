-- Each end of a line that has a length is a corner of the outline in which the line stands.
use Rattle.std.proofs.Common.{◌≡◌, ◌∙◌, refl, sym, ap, subst, ℕ, zero, suc, ◌<◌, ℤ, Bool, true, false, not, ◌==◌, List, [], ◌∷◌, ◌++◌, map, Option, Some, inl, inr, arith}
use Rattle.std.specs.List.{slice_get}
use Rattle.std.proofs.lemmas.Bool.{eqb-true}
use Rattle.geo_seg.specs.declared.points.Point.{Point}
use Rattle.geo_seg.specs.declared.points.Seg.{Seg}
use Rattle.courtyard.specs.declared.ends.LineEnd.{LineEnd}
use Rattle.courtyard.specs.Ends.{place, is_short, point_of, opposite, IsEndAt}
use Rattle.courtyard.specs.ClosedOutlines.{LineLeadsTo, first_or, LeadTo, IsOutline, EachOutline, times, times_in_all, point_left, points_left, closed, corners, AreChained}
use Rattle.roundtrip_lists.specs.ListMoves.{HasPoint, HasCorner}

has_front : (ps qs : List Point) (k : ℤ × ℤ) → HasPoint ps k → HasPoint (ps ++ qs) k
has_front [] qs k h = absurd h
has_front (p ∷ ps) qs k (inl h) = inl h
has_front (p ∷ ps) qs k (inr h) = inr (has_front ps qs k h)

has_back : (ps qs : List Point) (k : ℤ × ℤ) → HasPoint qs k → HasPoint (ps ++ qs) k
has_back [] qs k h = h
has_back (p ∷ ps) qs k h = inr (has_back ps qs k h)

has_closed : (ps : List Point) (k : ℤ × ℤ) → HasPoint ps k → HasPoint (closed ps) k
has_closed [] k h = h
has_closed (p ∷ []) k h = h
has_closed (p ∷ q ∷ []) k (inl h) = inl h
has_closed (p ∷ q ∷ []) k (inr (inl h)) = inr (inl h)
has_closed (p ∷ q ∷ []) k (inr (inr h)) = absurd h
has_closed (p ∷ q ∷ r ∷ ps) k h = h

module _ (lines : List Seg) where
  -- the place at which an end stands is that of the point left from there
  left_at : (e : LineEnd) (k : ℤ × ℤ) → IsEndAt lines e k → HasPoint (point_left (slice_get lines e.line) e.far) k
  left_at e k h = subst (λ (o : Option Seg). HasPoint (point_left o e.far) k) (sym h.there) (inl h.at)

  -- each of the ends stands somewhere: where it leaves, and where it leads
  first_left : (e : LineEnd) (es : List LineEnd) (k : ℤ × ℤ) → IsEndAt lines e k → HasPoint (points_left lines (e ∷ es)) k
  first_left e es k h = has_front (point_left (slice_get lines e.line) e.far) (points_left lines es) k (left_at e k h)

  -- the end t, at which all ends, is left from too
  record IsLeft (t : LineEnd) (all : List Point) : Type 0 where
    has : (k : ℤ × ℤ) → IsEndAt lines t k → HasPoint all k

  end_place : (i : ℕ) (l : Seg) (e : LineEnd) (k : ℤ × ℤ) → slice_get lines i ≡ Some l → e.line ≡ i → IsEndAt lines e k → place (point_of l e.far) ≡ k
  end_place i l e k there at h =
      let same : h.line ≡ l = (let c : Some h.line ≡ Some l = sym h.there ∙ (ap (slice_get lines) at ∙ there) in cc) in
      ap (λ (s : Seg). place (point_of s e.far)) (sym same) ∙ h.at

  stands_there : (i : ℕ) (l : Seg) (e : LineEnd) → slice_get lines i ≡ Some l → is_short l ≡ false → e.line ≡ i → IsEndAt lines e (place (point_of l e.far))
  stands_there i l e there long at = record { line = l; there = ap (slice_get lines) at ∙ there; long = long; at = refl }

  -- both ends of the line i are among the points left, where the line stands among the ends
  module _ (i : ℕ) (l : Seg) (there : slice_get lines i ≡ Some l) (long : is_short l ≡ false) where
    -- where the ends lead, one by one: what is left from at the next is where this one arrives
    arrives : (e : LineEnd) (es : List LineEnd) (t : LineEnd) (all : List Point) → e.line ≡ i → LineLeadsTo lines e (first_or t es) → IsLeft t all → ((k : ℤ × ℤ) → HasPoint (points_left lines es) k → HasPoint all k)
        → HasPoint all (place (point_of l (not e.far)))
    arrives e [] t all at lead left more =
        let raw_point : place (point_of l (not e.far)) ≡ lead.raw_point = end_place i l (opposite e) lead.raw_point there at lead.arrives in
        subst (HasPoint all) (sym raw_point) (left.has lead.raw_point lead.leaves)
    arrives e (f ∷ es) t all at lead left more =
        let raw_point : place (point_of l (not e.far)) ≡ lead.raw_point = end_place i l (opposite e) lead.raw_point there at lead.arrives in
        subst (HasPoint all) (sym raw_point) (more lead.raw_point (first_left f es lead.raw_point lead.leaves))

    both_ends : (a : Bool) (far : Bool) (all : List Point) → HasPoint all (place (point_of l a)) → HasPoint all (place (point_of l (not a))) → HasPoint all (place (point_of l far))
    both_ends true true all h k = h
    both_ends true false all h k = k
    both_ends false true all h k = k
    both_ends false false all h k = h

    walk : (es : List LineEnd) (t : LineEnd) (all : List Point) → LeadTo lines es t → 0 < times i es → IsLeft t all → ((k : ℤ × ℤ) → HasPoint (points_left lines es) k → HasPoint all k)
        → (far : Bool) → HasPoint all (place (point_of l far))
    walk [] t all leads some left more far = absurd (omega arith)
    walk (e ∷ es) t all leads some left more far =
        by_line (e.line == i) refl (λ none. walk es t all leads.1 none left (λ k h. more k (has_back (point_left (slice_get lines e.line) e.far) (points_left lines es) k h)) far)
      where
        by_line : (b : Bool) → (e.line == i) ≡ b → (0 < times i es → HasPoint all (place (point_of l far))) → HasPoint all (place (point_of l far))
        by_line true at later =
            let same : e.line ≡ i = eqb-true e.line i at in
            both_ends e.far far all (more _ (first_left e es (place (point_of l e.far)) (stands_there i l e there long same)))
            (arrives e es t all same leads.0 left (λ k h. more k (has_back (point_left (slice_get lines e.line) e.far) (points_left lines es) k h)))
        by_line false at later = later (rw at at some)

    in_outline : (o : List LineEnd) → IsOutline lines o → 0 < times i o → (far : Bool) → HasPoint (corners lines o) (place (point_of l far))
    in_outline [] h some far = absurd h
    in_outline (e ∷ es) h some far =
        has_closed (points_left lines (e ∷ es)) (place (point_of l far))
        (walk (e ∷ es) e (points_left lines (e ∷ es)) h.2 some (record { has = λ k stands. first_left e es k stands }) (λ k p. p) far)

    in_all : (os : List (List LineEnd)) → EachOutline lines os → 0 < times_in_all i os → (far : Bool) → HasCorner (map (corners lines) os) (place (point_of l far))
    in_all [] h some far = absurd (omega arith)
    in_all (o ∷ os) h some far = by_times (times i o) refl (λ more. in_all os h.1 more far)
      where
        by_times : (n : ℕ) → times i o ≡ n → (0 < times_in_all i os → HasCorner (map (corners lines) os) (place (point_of l far))) → HasCorner (map (corners lines) (o ∷ os)) (place (point_of l far))
        by_times zero e later = inr (later (omega arith))
        by_times (suc n) e later = inl (in_outline o h.0 (omega arith) far)

pub has_corner : (lines : List Seg) (polys : List (List Point)) → AreChained lines polys → (i : ℕ) (l : Seg) → slice_get lines i ≡ Some l → is_short l ≡ false → (far : Bool) → HasCorner polys (place (point_of l far))
has_corner lines polys chained i l there long far =
    subst (λ (ps : List (List Point)). HasCorner ps (place (point_of l far))) (sym chained.polygons)
    (in_all lines i l there long chained.all chained.outlines.each (let once = chained.outlines.once i l there long in omega (arith, once)) far)
