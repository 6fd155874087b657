-- Lines that are closed, as lines of points: each end equals exactly one other.
use Rattle.std.proofs.Common.{◌≡◌, ◌∙◌, refl, ap, sym, subst, ℕ, zero, suc, ◌+◌, ℤ, pos, ◌*ℤ◌, Bool, true, false, not, ◌&&◌, ◌||◌, ◌==◌, cond, List, [], ◌∷◌, ◌++◌, length, length-append, Some, arith}
use Rattle.std.specs.List.{slice_get, list_all}
use Rattle.std.specs.Ordering.{int_eq}
use Rattle.std.proofs.lemmas.Int.{ints}
use Rattle.std.proofs.lemmas.Bool.{and_parts, eqb-true}
use Rattle.std.proofs.lemmas.Bool.Decides.{Decides-int_eq}
use Rattle.geo_seg.specs.declared.points.Point.{Point}
use Rattle.geo_seg.specs.declared.points.Seg.{Seg}
use Rattle.part_read.specs.declared.numbers.RawPoint.{RawPoint}
use Rattle.part_read.specs.There.{both}
use Rattle.part_read.proofs.There.{both_some}
use Rattle.part_read.specs.OnBoard.{tested, fits_board, point_at}
use Rattle.courtyard.specs.declared.ends.LineEnd.{LineEnd}
use Rattle.courtyard.specs.Ends.{place, point_of, is_same, is_short, ends_of, ends_from, IsJoined, AreAllMatched}
use Rattle.courtyard.specs.Ends.{ends_at as seg_ends_at}
use Rattle.courtyard.proofs.Matching.{all_matched}
use Rattle.footprint_read.specs.declared.sides.RawSegment.{RawSegment}
use Rattle.footprint_read.specs.Courtyards.{at, is_long, ends_at, many_at, is_met, is_closed, line_to, seg_of, segs_of}

-- ---- places of points are those of raw points, doubled

abbrev double : ℤ × ℤ → ℤ × ℤ
double k = (pos 2 *ℤ k.0, pos 2 *ℤ k.1)

number_double : (a b : ℤ) → int_eq (pos 2 *ℤ a) (pos 2 *ℤ b) ≡ int_eq a b
number_double a b = by (int_eq (pos 2 *ℤ a) (pos 2 *ℤ b)) (int_eq a b) refl refl
  where
    by : (x y : Bool) → int_eq (pos 2 *ℤ a) (pos 2 *ℤ b) ≡ x → int_eq a b ≡ y → x ≡ y
    by true true h k = refl
    by false false h k = refl
    by true false h k =
        let e : pos 2 *ℤ a ≡ pos 2 *ℤ b = (Decides-int_eq (pos 2 *ℤ a) (pos 2 *ℤ b)).0 h in
        let same : a ≡ b = omega (arith, ints, e) in
        sym ((Decides-int_eq a b).1 same) ∙ k
    by false true h k =
        let same : a ≡ b = (Decides-int_eq a b).0 k in
        sym h ∙ (Decides-int_eq (pos 2 *ℤ a) (pos 2 *ℤ b)).1 (ap (λ (z : ℤ). pos 2 *ℤ z) same)

same_double : (p q : ℤ × ℤ) → is_same (double p) (double q) ≡ is_same p q
same_double p q = rw (number_double p.0 q.0, number_double p.1 q.1) refl

-- ---- a line as one of points

tested_point : (s : RawPoint) (p : Point) → tested (fits_board s) (point_at s) ≡ Some p → place p ≡ double (at s)
tested_point s p h = by (fits_board s) (point_at s) (λ k. refl) p h
  where
    by : (t : Bool) (make : t ≡ true → Point) → ((k : t ≡ true) → place (make k) ≡ double (at s)) → (p : Point) → tested t make ≡ Some p → place p ≡ double (at s)
    by true make e p h = let same : make refl ≡ p = cc in subst (λ (x : Point). place x ≡ double (at s)) same (e refl)
    by false make e p h = absurd cc

record IsOf (line : RawSegment) (seg : Seg) : Type 0 where
  a : place seg.a ≡ double (at line.a)
  b : place seg.b ≡ double (at line.b)

of_line : (line : RawSegment) (seg : Seg) → seg_of line ≡ Some seg → IsOf line seg
of_line line seg h =
    let k = both_some line_to (tested (fits_board line.a) (point_at line.a)) (tested (fits_board line.b) (point_at line.b)) seg h in
    subst (λ (x : Seg). IsOf line x) (sym k.4) (record { a = tested_point line.a k.0 k.2; b = tested_point line.b k.1 k.3 })

not_true : (b : Bool) → not b ≡ true → b ≡ false
not_true true h = absurd cc
not_true false h = refl

short_of : (line : RawSegment) (seg : Seg) → IsOf line seg → is_long line ≡ true → is_short seg ≡ false
short_of line seg h long =
    ap (λ (p : ℤ × ℤ). is_same p (place seg.b)) h.a ∙ ap (λ (p : ℤ × ℤ). is_same (double (at line.a)) p) h.b
    ∙ same_double (at line.a) (at line.b) ∙ not_true (is_same (at line.a) (at line.b)) long

record IsSplit (line : RawSegment) (lines : List RawSegment) (segs : List Seg) : Type 0 where
  seg : Seg
  rest : List Seg
  one : seg_of line ≡ Some seg
  others : segs_of lines ≡ Some rest
  all : segs ≡ seg ∷ rest

split : (line : RawSegment) (lines : List RawSegment) (segs : List Seg) → both (λ (s : Seg) (ss : List Seg). s ∷ ss) (seg_of line) (segs_of lines) ≡ Some segs → IsSplit line lines segs
split line lines segs h =
    let k = both_some (λ (s : Seg) (ss : List Seg). s ∷ ss) (seg_of line) (segs_of lines) segs h in
    record { seg = k.0; rest = k.1; one = k.2; others = k.3; all = k.4 }

-- ---- as many ends stand at a place

abbrev shape : ℕ → Bool → Bool → Bool → List LineEnd
shape i s a b = cond s [] (cond a (record { line = i; far = false } ∷ []) [] ++ cond b (record { line = i; far = true } ∷ []) [])

two_ends : (i : ℕ) (a b : Bool) → length (shape i false a b) ≡ cond a 1 0 + cond b 1 0
two_ends i true true = refl
two_ends i true false = refl
two_ends i false true = refl
two_ends i false false = refl

shape_many : (i : ℕ) (s l a b c d : Bool) → s ≡ false → l ≡ true → c ≡ a → d ≡ b → length (shape i s c d) ≡ cond l (cond a 1 0 + cond b 1 0) 0
shape_many i s l a b c d h k m n = rw (h, k, m, n) (two_ends i a b)

ends_many : (i : ℕ) (line : RawSegment) (seg : Seg) (k : ℤ × ℤ) → IsOf line seg → is_long line ≡ true → length (ends_of i seg (double k)) ≡ ends_at k line
ends_many i line seg k h long =
    shape_many i (is_short seg) (is_long line) (is_same (at line.a) k) (is_same (at line.b) k) (is_same (place seg.a) (double k)) (is_same (place seg.b) (double k))
    (short_of line seg h long) long
    (ap (λ (p : ℤ × ℤ). is_same p (double k)) h.a ∙ same_double (at line.a) k) (ap (λ (p : ℤ × ℤ). is_same p (double k)) h.b ∙ same_double (at line.b) k)

abbrev Many : ℤ × ℤ → List RawSegment → Type 0
Many k lines = (i : ℕ) (segs : List Seg) → segs_of lines ≡ Some segs → length (ends_from i segs (double k)) ≡ many_at k lines

many_more : (k : ℤ × ℤ) (line : RawSegment) (lines : List RawSegment) → Many k lines → Many k (line ∷ lines)
many_more k line lines rest i segs h = by (is_long line) refl h
  where
    by : (b : Bool) → is_long line ≡ b → cond b (both (λ (s : Seg) (ss : List Seg). s ∷ ss) (seg_of line) (segs_of lines)) (segs_of lines) ≡ Some segs → length (ends_from i segs (double k)) ≡ many_at k (line ∷ lines)
    by false l e =
        let none : ends_at k line ≡ 0 = ap (λ (b : Bool). cond b (cond (is_same (at line.a) k) 1 0 + cond (is_same (at line.b) k) 1 0) 0) l in
        let others = rest i segs e in
        omega (arith, none, others)
    by true l e =
        let s = split line lines segs e in
        let others = rest (suc i) s.rest s.others in
        let first = ends_many i line s.seg k (of_line line s.seg s.one) l in
        let both = length-append (ends_of i s.seg (double k)) (ends_from (suc i) s.rest (double k)) in
        subst (λ (x : List Seg). length (ends_from i x (double k)) ≡ many_at k (line ∷ lines)) (sym s.all) (omega (arith, others, first, both))

many : (k : ℤ × ℤ) (lines : List RawSegment) → Many k lines
many k [] i segs h = let e : [] ≡ segs = cc in subst (λ (x : List Seg). length (ends_from i x (double k)) ≡ 0) e refl
many k (line ∷ lines) i segs h = many_more k line lines (many k lines) i segs h

-- ---- each end of closed lines equals exactly one other

record IsTwo (all : List RawSegment) (p : ℤ × ℤ) : Type 0 where
  k : ℤ × ℤ
  at_place : p ≡ double k
  two : many_at k all ≡ 2

both_two : (all : List RawSegment) (line : RawSegment) → is_long line ≡ true → is_met all line ≡ true → (many_at (at line.a) all ≡ 2) × (many_at (at line.b) all ≡ 2)
both_two all line long met = by (is_long line) long met
  where
    by : (b : Bool) → b ≡ true → not b || (many_at (at line.a) all == 2 && many_at (at line.b) all == 2) ≡ true → (many_at (at line.a) all ≡ 2) × (many_at (at line.b) all ≡ 2)
    by true l h =
        let both = and_parts (many_at (at line.a) all == 2) (many_at (at line.b) all == 2) h in
        (eqb-true (many_at (at line.a) all) 2 both.0, eqb-true (many_at (at line.b) all) 2 both.1)
    by false l h = absurd cc

two_at : (all : List RawSegment) (line : RawSegment) (seg : Seg) (far : Bool) → IsOf line seg → is_long line ≡ true → is_met all line ≡ true → IsTwo all (place (point_of seg far))
two_at all line seg false h long met = record { k = at line.a; at_place = h.a; two = (both_two all line long met).0 }
two_at all line seg true h long met = record { k = at line.b; at_place = h.b; two = (both_two all line long met).1 }

abbrev EachTwo : List RawSegment → List RawSegment → Type 0
EachTwo all lines = (segs : List Seg) (j : ℕ) (seg : Seg) (far : Bool) → segs_of lines ≡ Some segs → slice_get segs j ≡ Some seg → IsTwo all (place (point_of seg far))

each_more : (all : List RawSegment) (line : RawSegment) (lines : List RawSegment) → is_met all line ≡ true → EachTwo all lines → EachTwo all (line ∷ lines)
each_more all line lines met rest segs j seg far h there = by (is_long line) refl h
  where
    at_index : (s : Seg) (others : List Seg) (n : ℕ) → IsOf line s → is_long line ≡ true → segs_of lines ≡ Some others → slice_get (s ∷ others) n ≡ Some seg → IsTwo all (place (point_of seg far))
    at_index s others zero of l k e = let same : s ≡ seg = cc in subst (λ (x : Seg). IsTwo all (place (point_of x far))) same (two_at all line s far of l met)
    at_index s others (suc n) of l k e = rest others n seg far k e

    by : (b : Bool) → is_long line ≡ b → cond b (both (λ (s : Seg) (ss : List Seg). s ∷ ss) (seg_of line) (segs_of lines)) (segs_of lines) ≡ Some segs → IsTwo all (place (point_of seg far))
    by false l e = rest segs j seg far e there
    by true l e =
        let s = split line lines segs e in
        at_index s.seg s.rest j (of_line line s.seg s.one) l s.others (subst (λ (x : List Seg). slice_get x j ≡ Some seg) s.all there)

each_two : (all lines : List RawSegment) → list_all (is_met all) lines ≡ true → EachTwo all lines
each_two all [] met segs j seg far h there =
    let e : segs ≡ [] = cc in
    let none : slice_get [] j ≡ Some seg = subst (λ (x : List Seg). slice_get x j ≡ Some seg) e there in
    absurd cc
each_two all (line ∷ lines) met segs j seg far h there =
    let parts = and_parts (is_met all line) (list_all (is_met all) lines) met in
    each_more all line lines parts.0 (each_two all lines parts.1) segs j seg far h there

pub closed_joined : (lines : List RawSegment) (segs : List Seg) → is_closed lines ≡ true → segs_of lines ≡ Some segs → (e : LineEnd) → IsJoined segs e
closed_joined lines segs closed h e k s =
    let t = each_two lines lines closed segs e.line s.line e.far h s.there in
    let here : double t.k ≡ k = sym t.at_place ∙ s.at in
    subst (λ (p : ℤ × ℤ). length (seg_ends_at segs p) ≡ 2) here (many t.k lines 0 segs h ∙ t.two)

pub closed_matched : (lines : List RawSegment) (segs : List Seg) → is_closed lines ≡ true → segs_of lines ≡ Some segs → AreAllMatched segs
closed_matched lines segs closed h = all_matched segs (closed_joined lines segs closed h)
