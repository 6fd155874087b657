-- What the loops over an outline's edges take, and what its tests say.
use Rattle.std.proofs.Common.{◌≡◌, ℕ, suc, ◌+◌, ◌<◌, ◌≤◌, ℤ, pos, unsigned_abs, ◌*ℤ◌, ◌↔◌, Bool, List, [], ◌∷◌, length, get_or, drop, sym, ap, ◌∙◌, subst, inl, inr, arith, add-one, drop-cons}
use Rattle.std.proofs.lemmas.Int.{ints}
use Rattle.geo_seg.proofs.Passed.{passed}
use Rattle.std.proofs.lemmas.List.{drop_all}
use Rattle.std.specs.Int.Signed.{le_z}
use Rattle.int_algebra.proofs.Ring.{var, num, ◌⊖◌, ◌⊗◌, ring}
use Rattle.geo_seg.specs.declared.points.Point.{Point}
use Rattle.geo_seg.specs.declared.points.Seg.{Seg}
use Rattle.geo_seg.specs.Points.{rational_point_of}
use Rattle.geo_seg.specs.Gap.{cross_of}
use Rattle.geo_seg.specs.Inside.{edge, path, EachEdge, SomeEdge, is_low, side, passing, passes}

pub path_next : (a c : Point) (cs : List Point) (i : ℕ) → i < length cs → c ≡ get_or cs i c → path a (drop i cs) ≡ edge a c ∷ path c (drop (i + 1) cs)
path_next a c cs i h e =
    ap (path a) (drop-cons cs i c h) ∙ ap (λ z. path a (z ∷ drop (suc i) cs)) (sym e) ∙ ap (λ k. edge a c ∷ path c (drop k cs)) (sym (add-one i))

pub path_end : (a : Point) (cs : List Point) (i : ℕ) → length cs ≤ i → path a (drop i cs) ≡ []
path_end a cs i h = ap (path a) (drop_all i cs h)

-- ---- the tests at a point
one_mul : (z : ℤ) → pos 1 *ℤ z ≡ z
one_mul z = omega (arith, ints)

pub low_at : (p c : Point) → is_low (rational_point_of p) c ≡ le_z c.y p.y
unfolding rational_point_of
low_at p c = ap (λ z. le_z z p.y) (one_mul c.y)

side_at : (p : Point) (e : Seg) → side e (rational_point_of p) ≡ cross_of p e
unfolding rational_point_of
side_at p e =
    let Px = var 0 in let Py = var 1 in let Ax = var 2 in let Ay = var 3 in let Bx = var 4 in let By = var 5 in
    ring (p.x ∷ p.y ∷ e.a.x ∷ e.a.y ∷ e.b.x ∷ e.b.y ∷ []) ((Bx ⊖ Ax) ⊗ (Py ⊖ num (pos 1) ⊗ Ay) ⊖ (By ⊖ Ay) ⊗ (Px ⊖ num (pos 1) ⊗ Ax)) ((Bx ⊖ Ax) ⊗ (Py ⊖ Ay) ⊖ (By ⊖ Ay) ⊗ (Px ⊖ Ax)) tt

pub passes_at : (p : Point) (e : Seg) (la lb : Bool) (u : ℤ) → u ≡ cross_of p e → le_z e.a.y p.y ≡ la → le_z e.b.y p.y ≡ lb → passing la lb u ≡ passes (rational_point_of p) e
passes_at p e la lb u h ha hb =
    let fa = low_at p e.a ∙ ha in let fb = low_at p e.b ∙ hb in
    ap (passing la lb) (h ∙ sym (side_at p e)) ∙ ap (λ z. passing z lb (side e (rational_point_of p))) (sym fa) ∙ ap (λ z. passing (is_low (rational_point_of p) e.a) z (side e (rational_point_of p))) (sym fb)

-- ---- the loops: O is the outline, X what is left of it
pub each_step : (P : Seg → Type 0) (O X : List Seg) (e : Seg) (Y : List Seg) → (EachEdge P O ↔ EachEdge P X) → X ≡ e ∷ Y → P e → (EachEdge P O ↔ EachEdge P Y)
each_step P O X e Y inv q h = (λ o. (subst (EachEdge P) q (inv.0 o)).1, λ y. inv.1 (subst (EachEdge P) (sym q) (h, y)))

pub each_fails : (P : Seg → Type 0) (O X : List Seg) (e : Seg) (Y : List Seg) → (EachEdge P O ↔ EachEdge P X) → X ≡ e ∷ Y → (P e → ⊥) → EachEdge P O → ⊥
each_fails P O X e Y inv q n o = n (subst (EachEdge P) q (inv.0 o)).0

pub each_done : (P : Seg → Type 0) (O X : List Seg) → (EachEdge P O ↔ EachEdge P X) → X ≡ [] → EachEdge P O
each_done P O X inv q = inv.1 (subst (EachEdge P) (sym q) tt)

some_rest : (P : Seg → Type 0) (e : Seg) (Y : List Seg) → (P e → ⊥) → SomeEdge P (e ∷ Y) → SomeEdge P Y
some_rest P e Y n (inl h) = absurd (n h)
some_rest P e Y n (inr h) = h

pub some_step : (P : Seg → Type 0) (O X : List Seg) (e : Seg) (Y : List Seg) → (SomeEdge P O ↔ SomeEdge P X) → X ≡ e ∷ Y → (P e → ⊥) → (SomeEdge P O ↔ SomeEdge P Y)
some_step P O X e Y inv q n = (λ o. some_rest P e Y n (subst (SomeEdge P) q (inv.0 o)), λ y. inv.1 (subst (SomeEdge P) (sym q) (inr y)))

pub some_found : (P : Seg → Type 0) (O X : List Seg) (e : Seg) (Y : List Seg) → (SomeEdge P O ↔ SomeEdge P X) → X ≡ e ∷ Y → P e → SomeEdge P O
some_found P O X e Y inv q h = inv.1 (subst (SomeEdge P) (sym q) (inl h))

pub some_none : (P : Seg → Type 0) (O X : List Seg) → (SomeEdge P O ↔ SomeEdge P X) → X ≡ [] → SomeEdge P O → ⊥
some_none P O X inv q o = subst (SomeEdge P) q (inv.0 o)

-- ---- numbers that were passed
kept_small : (z : ℤ) → unsigned_abs z ≤ 1000000000 → passed z ≡ z
kept_small z h = omega (arith, ints)

pub low_kept : (a y : ℤ) (b : Bool) → unsigned_abs a ≤ 1000000000 → unsigned_abs y ≤ 1000000000 → le_z (passed a) (passed y) ≡ b → le_z a y ≡ b
low_kept a y b h k e = ap (λ z. le_z z y) (sym (kept_small a h)) ∙ ap (λ z. le_z (passed a) z) (sym (kept_small y k)) ∙ e
