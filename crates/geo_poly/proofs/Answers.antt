-- What the functions answer, from what they test.
use Rattle.std.proofs.Common.{◌≡◌, ◌<◌, ◌-◌, ℤ, pos, ◌+ℤ◌, ◌-ℤ◌, ◌*ℤ◌, ◌≤ℤ◌, ◌<ℤ◌, ◌↔◌, ◌⊎◌, Bool, IsTrue, List, [], ◌∷◌, length, get_or, ◌++◌, ap, ◌∙◌, subst, inl, inr, arith}
use Rattle.std.proofs.lemmas.Int.{ints}
use Rattle.int_algebra.proofs.Ring.{var, num, ◌⊕◌, ◌⊖◌, ◌⊗◌, sq, fact, ring, ring_by}
use Rattle.int_algebra.proofs.Order.{square-nonneg, sum-nonneg, same_by_scale}
use Rattle.geo_seg.specs.declared.points.Point.{Point}
use Rattle.geo_seg.specs.declared.points.Seg.{Seg}
use Rattle.geo_seg.specs.Points.{RationalPoint, IsAt, IsOn, rational_point_of}
use Rattle.geo_seg.specs.Nearer.{square, squared_limit, IsNearer, AreApart, AreWithin}
use Rattle.geo_seg.specs.Inside.{edge, outline, SomeEdge, EachEdge, IsInside}
use Rattle.geo_seg.proofs.BoxLemmas.{start_on}
use Rattle.geo_seg.proofs.PointReach.{rational_point_of-IsAt}
use Rattle.geo_seg.proofs.SegAnswers.{met_of_reached}
use Rattle.geo_poly.specs.OutlineEdges.{IsApart, IsReached, EachApart, SomeReached, IsEnclosed, EndsInside}
use Rattle.geo_poly.proofs.Insides.{enclosed_where, enters_where, poly_seg_apart_same, poly_seg_within_same, poly_apart_same, poly_within_same}
use Rattle.geo_poly.proofs.Ways.{SomeEdge-weaker}
use Rattle.geo_poly.proofs.Reach.{touches_within, seg_reached_where, seg_apart_where}
use Rattle.geo_poly.proofs.PolyReach.{poly_reached_where, poly_apart_where}
use Rattle.geo_seg.proofs.RunBoxes.{last_at}

pub iff_at : {A B : Type 0} (P : A → Type 0) (x y : A) → x ≡ y → (B ↔ P x) → (B ↔ P y)
iff_at {B = B} P x y e h = subst (λ z. B ↔ P z) e h

-- ---- nothing is nearer than 0
pub not_nearer_zero : (p q : RationalPoint) → ¬ (IsNearer (pos 0) p q)
not_nearer_zero p q n =
    let gx = p.x *ℤ q.w -ℤ q.x *ℤ p.w in let gy = p.y *ℤ q.w -ℤ q.y *ℤ p.w in
    bad (square gx +ℤ square gy) (squared_limit (pos 0) p q) (sum-nonneg (square gx) (square gy) (square-nonneg gx) (square-nonneg gy)) (ring (p.w ∷ q.w ∷ []) (sq (num (pos 0) ⊗ var 0 ⊗ var 1)) (num (pos 0)) tt) n
  where
    bad : (s u : ℤ) → pos 0 ≤ℤ s → u ≡ pos 0 → s <ℤ u → ⊥
    bad s u h e l = omega (arith, ints)

pub apart_zero : (P Q : RationalPoint → Type 0) → AreApart P Q (pos 0)
apart_zero P Q = record { apart = λ p q o u n. not_nearer_zero p q n }

-- ---- a point on an edge
on_point : (m i rx rw z n j a b : ℤ) → pos 0 <ℤ m → pos 0 <ℤ rw → m *ℤ rx ≡ rw *ℤ ((m -ℤ i) *ℤ z +ℤ i *ℤ z) → n *ℤ rx ≡ rw *ℤ ((n -ℤ j) *ℤ a +ℤ j *ℤ b) → n *ℤ z ≡ pos 1 *ℤ ((n -ℤ j) *ℤ a +ℤ j *ℤ b)
on_point m i rx rw z n j a b hm hw e f =
    let M = var 0 in let I = var 1 in let Rx = var 2 in let Rw = var 3 in let Z = var 4 in let N = var 5 in let J = var 6 in let A = var 7 in let B = var 8 in
    same_by_scale m (n *ℤ z) (pos 1 *ℤ ((n -ℤ j) *ℤ a +ℤ j *ℤ b)) hm
    (same_by_scale rw (m *ℤ (n *ℤ z)) (m *ℤ (pos 1 *ℤ ((n -ℤ j) *ℤ a +ℤ j *ℤ b))) hw
    (ring_by (m ∷ i ∷ rx ∷ rw ∷ z ∷ n ∷ j ∷ a ∷ b ∷ [])
    (fact (num (pos 0) ⊖ N) (M ⊗ Rx) (Rw ⊗ ((M ⊖ I) ⊗ Z ⊕ I ⊗ Z)) ∷ fact M (N ⊗ Rx) (Rw ⊗ ((N ⊖ J) ⊗ A ⊕ J ⊗ B)) ∷ []) (e, (f, tt))
    (Rw ⊗ (M ⊗ (N ⊗ Z))) (Rw ⊗ (M ⊗ (num (pos 1) ⊗ ((N ⊖ J) ⊗ A ⊕ J ⊗ B)))) tt))

on_of_reached : (e : Seg) (p : Point) → IsReached e (edge p p) (pos 0) → IsOn e (rational_point_of p)
unfolding rational_point_of
on_of_reached e p h =
    let m = met_of_reached e (edge p p) h in let r = m.rational_point in let o = m.of_first in let u = m.of_second in
    record {
      part = o.part;
      whole = o.whole;
      starts = o.starts;
      ends = o.ends;
      positive = o.positive;
      along_x = on_point u.whole u.part r.x r.w p.x o.whole o.part e.a.x e.b.x u.positive r.positive u.along_x o.along_x;
      along_y = on_point u.whole u.part r.y r.w p.y o.whole o.part e.a.y e.b.y u.positive r.positive u.along_y o.along_y;
    }

reached_of_on : (e : Seg) (p : Point) → IsOn e (rational_point_of p) → IsReached e (edge p p) (pos 0)
reached_of_on e p o = record { from = rational_point_of p; to = rational_point_of p; of_first = o; of_second = start_on (edge p p); within = touches_within (pos 0) (rational_point_of p) }

pub on_where : (cs : List Point) (p : Point) → SomeEdge (λ e. IsReached e (edge p p) (pos 0)) (outline cs) ↔ SomeEdge (λ e. IsOn e (rational_point_of p)) (outline cs)
on_where cs p = (SomeEdge-weaker (λ e. on_of_reached e p) (outline cs), SomeEdge-weaker (λ e. reached_of_on e p) (outline cs))

-- ---- the theorems in the form of the code
pub both : {A B C : Type 0} → (A ↔ B) → (B ↔ C) → (A ↔ C)
both e f = (λ a. f.0 (e.0 a), λ c. e.1 (f.1 c))

either : {A B C D : Type 0} → (A → C) → (B → D) → A ⊎ B → C ⊎ D
either f g (inl a) = inl (f a)
either f g (inr b) = inr (g b)

crossed : {A B C D : Type 0} → (A → D) → (B → C) → A ⊎ B → C ⊎ D
crossed f g (inl a) = inr (f a)
crossed f g (inr b) = inl (g b)

pub seg_within_code : (d : ℤ) (cs : List Point) (s : Seg) → AreWithin (IsInside cs) (IsOn s) d ↔ (IsEnclosed cs (rational_point_of s.a) ⊎ SomeEdge (λ e. IsReached e s d) (outline cs))
seg_within_code d cs s =
    let e = enclosed_where cs (rational_point_of s.a) in
    both (poly_seg_within_same cs s d) (both (seg_reached_where d cs s) (crossed (λ x. x) e.1, crossed e.0 (λ x. x)))

pub seg_apart_code : (d : ℤ) → pos 0 <ℤ d → (cs : List Point) (s : Seg) → AreApart (IsInside cs) (IsOn s) d ↔ ((¬ (IsEnclosed cs (rational_point_of s.a))) × EachEdge (λ e. IsApart e s d) (outline cs))
seg_apart_code d hd cs s =
    let e = enclosed_where cs (rational_point_of s.a) in
    both (poly_seg_apart_same cs s d) (both (seg_apart_where d hd cs s) (λ x. (λ k. x.1 (e.0 k), x.0), λ x. (x.1, λ k. x.0 (e.1 k))))

no_either : {A B : Type 0} → (A → ⊥) → (B → ⊥) → A ⊎ B → ⊥
no_either f g (inl a) = f a
no_either f g (inr b) = g b

pub poly_within_code : (d : ℤ) (cs ks : List Point) → AreWithin (IsInside cs) (IsInside ks) d ↔ ((EndsInside cs ks ⊎ EndsInside ks cs) ⊎ SomeReached d (outline cs) (outline ks))
poly_within_code d cs ks =
    let e = enters_where cs ks in let f = enters_where ks cs in
    both (poly_within_same cs ks d) (both (poly_reached_where d cs ks) (crossed (λ x. x) (either e.1 f.1), crossed (either e.0 f.0) (λ x. x)))

pub poly_apart_code : (d : ℤ) → pos 0 <ℤ d → (cs ks : List Point) → AreApart (IsInside cs) (IsInside ks) d ↔ ((¬ (EndsInside cs ks ⊎ EndsInside ks cs)) × EachApart d (outline cs) (outline ks))
poly_apart_code d hd cs ks =
    let e = enters_where cs ks in let f = enters_where ks cs in
    both (poly_apart_same cs ks d) (both (poly_apart_where d hd cs ks)
    (λ x. (no_either (λ k. x.1 (e.0 k)) (λ k. x.2 (f.0 k)), x.0), λ x. (x.1, (λ k. x.0 (inl (e.1 k))), (λ k. x.0 (inr (f.1 k))))))

pub inside_code : (cs : List Point) (p : Point) → IsInside cs (rational_point_of p) ↔ (IsEnclosed cs (rational_point_of p) ⊎ SomeEdge (λ e. IsReached e (edge p p) (pos 0)) (outline cs))
inside_code cs p = let e = on_where cs p in (crossed e.1 (λ x. x), crossed (λ x. x) e.0)

-- a point of the polygon is within 0 of it
pub within_of_inside : (cs : List Point) (p : Point) → IsInside cs (rational_point_of p) → AreWithin (IsAt p) (IsInside cs) (pos 0)
within_of_inside cs p h = record { from = rational_point_of p; to = rational_point_of p; of_first = rational_point_of-IsAt p; of_second = h; within = touches_within (pos 0) (rational_point_of p) }

-- ---- the last corner
pub ends_inside_is : (cs ks : List Point) (x : Point) (b : Bool) → 0 < length cs → x ≡ get_or cs (length cs - 1) x → (IsTrue b ↔ IsEnclosed ks (rational_point_of x)) → (IsTrue b ↔ EndsInside cs ks)
ends_inside_is [] ks x b h e q = absurd (omega arith)
ends_inside_is (c ∷ cs) ks x b h e q =
    let i : length (c ∷ cs) - 1 ≡ length cs = omega arith in
    subst (λ z. IsTrue b ↔ IsEnclosed ks (rational_point_of z)) (e ∙ ap (λ k. get_or (c ∷ cs) k x) i ∙ last_at c x cs) q

-- ---- a list of edges in two parts
pub each_append : (P : Seg → Type 0) (X Y : List Seg) → EachEdge P (X ++ Y) ↔ (EachEdge P X × EachEdge P Y)
each_append P [] Y = (λ h. (tt, h), λ h. h.1)
each_append P (e ∷ X) Y = let r = each_append P X Y in (λ h. let x = r.0 h.1 in ((h.0, x.0), x.1), λ h. (h.0.0, r.1 (h.0.1, h.1)))

pub apart_append : (d : ℤ) (O X Y : List Seg) → EachApart d O (X ++ Y) ↔ (EachApart d O X × EachApart d O Y)
apart_append d [] X Y = (λ h. (tt, tt), λ h. tt)
apart_append d (e ∷ O) X Y =
    let r = apart_append d O X Y in let q = each_append (λ f. IsApart f e d) X Y in
    (λ h. let x = q.0 h.0 in let y = r.0 h.1 in ((x.0, y.0), (x.1, y.1)), λ h. (q.1 (h.0.0, h.1.0), r.1 (h.0.1, h.1.1)))

pub each_nothing : (d : ℤ) (O : List Seg) → EachApart d O []
each_nothing d [] = tt
each_nothing d (e ∷ O) = (tt, each_nothing d O)

some_later : {A B C : Type 0} → A ⊎ B → (C ⊎ A) ⊎ B
some_later (inl h) = inl (inr h)
some_later (inr h) = inr h

pub some_in : (P : Seg → Type 0) (X Y : List Seg) → SomeEdge P (X ++ Y) → SomeEdge P X ⊎ SomeEdge P Y
some_in P [] Y h = inr h
some_in P (e ∷ X) Y (inl h) = inl (inl h)
some_in P (e ∷ X) Y (inr h) = some_later (some_in P X Y h)

pub some_left : (P : Seg → Type 0) (X Y : List Seg) → SomeEdge P X → SomeEdge P (X ++ Y)
some_left P [] Y h = absurd h
some_left P (e ∷ X) Y (inl h) = inl h
some_left P (e ∷ X) Y (inr h) = inr (some_left P X Y h)

pub some_right : (P : Seg → Type 0) (X Y : List Seg) → SomeEdge P Y → SomeEdge P (X ++ Y)
some_right P [] Y h = h
some_right P (e ∷ X) Y h = inr (some_right P X Y h)

pub reached_in : (d : ℤ) (O X Y : List Seg) → SomeReached d O (X ++ Y) → SomeReached d O X ⊎ SomeReached d O Y
reached_in d O X Y h = split O h
  where
    here : (e : Seg) (O : List Seg) → SomeEdge (λ f. IsReached f e d) X ⊎ SomeEdge (λ f. IsReached f e d) Y → SomeReached d (e ∷ O) X ⊎ SomeReached d (e ∷ O) Y
    here e O (inl h) = inl (inl h)
    here e O (inr h) = inr (inl h)

    later : (e : Seg) (O : List Seg) → SomeReached d O X ⊎ SomeReached d O Y → SomeReached d (e ∷ O) X ⊎ SomeReached d (e ∷ O) Y
    later e O (inl h) = inl (inr h)
    later e O (inr h) = inr (inr h)

    split : (O : List Seg) → SomeReached d O (X ++ Y) → SomeReached d O X ⊎ SomeReached d O Y
    split [] h = absurd h
    split (e ∷ O) (inl h) = here e O (some_in (λ f. IsReached f e d) X Y h)
    split (e ∷ O) (inr h) = later e O (split O h)

pub reached_left : (d : ℤ) (O X Y : List Seg) → SomeReached d O X → SomeReached d O (X ++ Y)
reached_left d O X Y h = SomeEdge-weaker (λ e k. some_left (λ f. IsReached f e d) X Y k) O h

pub reached_right : (d : ℤ) (O X Y : List Seg) → SomeReached d O Y → SomeReached d O (X ++ Y)
reached_right d O X Y h = SomeEdge-weaker (λ e k. some_right (λ f. IsReached f e d) X Y k) O h

pub reached_nothing : (d : ℤ) (O : List Seg) → SomeReached d O [] → ⊥
reached_nothing d [] h = h
reached_nothing d (e ∷ O) (inl h) = h
reached_nothing d (e ∷ O) (inr h) = reached_nothing d O h
