-- One edge and one segment that goes from P up to Q, given by numbers: the heights of P, Q and of the edge's ends A and B,
-- the sides sP and sQ of the edge's line on which P and Q lie, and the sides tA and tB of the segment's line on which A and
-- B lie. The edge passes to the right of just one of P and Q where just one of its ends is marked, or the two meet.
use Rattle.std.proofs.Common.{◌≡◌, ℤ, pos, negsuc, ◌+ℤ◌, ◌-ℤ◌, ◌*ℤ◌, neg_ℤ, ◌≤ℤ◌, ◌<ℤ◌, ◌⊎◌, Bool, true, false, [], ◌∷◌, refl, sym, ◌∙◌, inl, inr, arith}
use Rattle.std.proofs.lemmas.Int.{ints, by_lt_z}
use Rattle.std.specs.Int.Signed.{le_z, lt_z}
use Rattle.int_algebra.proofs.Ring.{var, num, ◌⊕◌, ◌⊖◌, ◌⊗◌, minus, fact, ring, ring_by}
use Rattle.int_algebra.proofs.Order.{product-nonneg, product-pos}
use Rattle.geo_seg.specs.Inside.{passing}
use Rattle.geo_seg.proofs.Parity.{differ}

-- ---- what a test says
abbrev pub ReadsLe : Bool → ℤ → ℤ → Type 0
ReadsLe true x y = x ≤ℤ y
ReadsLe false x y = y <ℤ x

abbrev pub ReadsLt : Bool → ℤ → ℤ → Type 0
ReadsLt true x y = x <ℤ y
ReadsLt false x y = y ≤ℤ x

reads_le_at : (x y : ℤ) (b : Bool) → le_z x y ≡ b → ReadsLe b x y
reads_le_at x y true h = omega (arith, ints)
reads_le_at x y false h = omega (arith, ints)

pub reads_le : (x y : ℤ) → ReadsLe (le_z x y) x y
reads_le x y = reads_le_at x y (le_z x y) refl

reads_lt_at : (x y : ℤ) (b : Bool) → lt_z x y ≡ b → ReadsLt b x y
reads_lt_at x y true h = omega (arith, ints)
reads_lt_at x y false h = omega (arith, ints)

pub reads_lt : (x y : ℤ) → ReadsLt (lt_z x y) x y
reads_lt x y = reads_lt_at x y (lt_z x y) refl

ReadsLt-neg : (b : Bool) (x : ℤ) → ReadsLt b x (pos 0) → ReadsLt b (pos 0) (neg_ℤ x)
ReadsLt-neg true x h = omega (arith, ints)
ReadsLt-neg false x h = omega (arith, ints)

-- ---- signs of products
product_np : (a b : ℤ) → pos 0 ≤ℤ a → b ≤ℤ pos 0 → (a *ℤ b) ≤ℤ pos 0
product_np a b h k = flip (a *ℤ b) (a *ℤ neg_ℤ b) (ring (a ∷ b ∷ []) (var 0 ⊗ minus (var 1)) (minus (var 0 ⊗ var 1)) tt) (product-nonneg a (neg_ℤ b) h (omega (arith, ints)))
  where
    flip : (x y : ℤ) → y ≡ neg_ℤ x → pos 0 ≤ℤ y → x ≤ℤ pos 0
    flip x y e h = omega (arith, ints)

product_comm : (a b : ℤ) → a *ℤ b ≡ b *ℤ a
product_comm a b = ring (a ∷ b ∷ []) (var 0 ⊗ var 1) (var 1 ⊗ var 0) tt

product_pn : (a b : ℤ) → a ≤ℤ pos 0 → pos 0 ≤ℤ b → (a *ℤ b) ≤ℤ pos 0
product_pn a b h k = along (b *ℤ a) (a *ℤ b) (product_comm b a) (product_np b a k h)
  where
    along : (x y : ℤ) → x ≡ y → x ≤ℤ pos 0 → y ≤ℤ pos 0
    along x y e h = omega (arith, ints)

product_pos_neg : (a b : ℤ) → a <ℤ pos 0 → pos 0 <ℤ b → (a *ℤ b) <ℤ pos 0
product_pos_neg a b h k = flip (a *ℤ b) (neg_ℤ a *ℤ b) (ring (a ∷ b ∷ []) (minus (var 0) ⊗ var 1) (minus (var 0 ⊗ var 1)) tt) (product-pos (neg_ℤ a) b (omega (arith, ints)) k)
  where
    flip : (x y : ℤ) → y ≡ neg_ℤ x → pos 0 <ℤ y → x <ℤ pos 0
    flip x y e h = omega (arith, ints)

-- a factor's sign from the product's, where the other factor is above 0
factor_le : (t e : ℤ) → pos 0 <ℤ e → (t *ℤ e) ≤ℤ pos 0 → t ≤ℤ pos 0
factor_le t e h k = by_lt_z (pos 0) t (λ l. absurd (clash (t *ℤ e) k (product-pos t e l h))) (λ l. l)
  where
    clash : (x : ℤ) → x ≤ℤ pos 0 → pos 0 <ℤ x → ⊥
    clash x h k = omega (arith, ints)

factor_ge : (t e : ℤ) → pos 0 <ℤ e → pos 0 ≤ℤ (t *ℤ e) → pos 0 ≤ℤ t
factor_ge t e h k = by_lt_z t (pos 0) (λ l. absurd (clash (t *ℤ e) k (product_pos_neg t e l h))) (λ l. l)
  where
    clash : (x : ℤ) → pos 0 ≤ℤ x → x <ℤ pos 0 → ⊥
    clash x h k = omega (arith, ints)

-- k m = t e + s v
t_le : (k m t e s v : ℤ) → k *ℤ m ≡ t *ℤ e +ℤ s *ℤ v → pos 0 <ℤ e → (k *ℤ m) ≤ℤ pos 0 → pos 0 ≤ℤ (s *ℤ v) → t ≤ℤ pos 0
t_le k m t e s v q h a b = factor_le t e h (part (k *ℤ m) (t *ℤ e) (s *ℤ v) q a b)
  where
    part : (x y z : ℤ) → x ≡ y +ℤ z → x ≤ℤ pos 0 → pos 0 ≤ℤ z → y ≤ℤ pos 0
    part x y z e h k = omega (arith, ints)

t_ge : (k m t e s v : ℤ) → k *ℤ m ≡ t *ℤ e +ℤ s *ℤ v → pos 0 <ℤ e → pos 0 ≤ℤ (k *ℤ m) → (s *ℤ v) ≤ℤ pos 0 → pos 0 ≤ℤ t
t_ge k m t e s v q h a b = factor_ge t e h (part (k *ℤ m) (t *ℤ e) (s *ℤ v) q a b)
  where
    part : (x y z : ℤ) → x ≡ y +ℤ z → pos 0 ≤ℤ x → z ≤ℤ pos 0 → pos 0 ≤ℤ y
    part x y z e h k = omega (arith, ints)

s_le : (k m t e s v : ℤ) → k *ℤ m ≡ t *ℤ e +ℤ s *ℤ v → pos 0 <ℤ v → (k *ℤ m) ≤ℤ pos 0 → pos 0 ≤ℤ (t *ℤ e) → s ≤ℤ pos 0
s_le k m t e s v q h a b = factor_le s v h (part (k *ℤ m) (t *ℤ e) (s *ℤ v) q a b)
  where
    part : (x y z : ℤ) → x ≡ y +ℤ z → x ≤ℤ pos 0 → pos 0 ≤ℤ y → z ≤ℤ pos 0
    part x y z e h k = omega (arith, ints)

s_ge : (k m t e s v : ℤ) → k *ℤ m ≡ t *ℤ e +ℤ s *ℤ v → pos 0 <ℤ v → pos 0 ≤ℤ (k *ℤ m) → (t *ℤ e) ≤ℤ pos 0 → pos 0 ≤ℤ s
s_ge k m t e s v q h a b = factor_ge s v h (part (k *ℤ m) (t *ℤ e) (s *ℤ v) q a b)
  where
    part : (x y z : ℤ) → x ≡ y +ℤ z → pos 0 ≤ℤ x → y ≤ℤ pos 0 → pos 0 ≤ℤ z
    part x y z e h k = omega (arith, ints)

-- ---- the numbers
pub record Lines (pY qY aY bY sP sQ tA tB : ℤ) : Type 0 where
  pub rises : pY ≤ℤ qY
  pub turns : sP -ℤ sQ ≡ tB -ℤ tA
  pub at_ap : (sP -ℤ sQ) *ℤ (aY -ℤ pY) ≡ tA *ℤ (bY -ℤ aY) +ℤ sP *ℤ (qY -ℤ pY)
  pub at_aq : (sP -ℤ sQ) *ℤ (aY -ℤ qY) ≡ tA *ℤ (bY -ℤ aY) +ℤ sQ *ℤ (qY -ℤ pY)
  pub at_bp : (sP -ℤ sQ) *ℤ (bY -ℤ pY) ≡ tB *ℤ (bY -ℤ aY) +ℤ sP *ℤ (qY -ℤ pY)
  pub at_bq : (sP -ℤ sQ) *ℤ (bY -ℤ qY) ≡ tB *ℤ (bY -ℤ aY) +ℤ sQ *ℤ (qY -ℤ pY)

-- the segment crosses the edge's line between P and Q, and the edge the segment's line between A and B
pub data Cut (sP sQ tA tB : ℤ) : Type 0 where
  falls : pos 0 ≤ℤ sP → sQ ≤ℤ pos 0 → tA ≤ℤ pos 0 → pos 0 ≤ℤ tB → pos 0 <ℤ (sP -ℤ sQ) → Cut sP sQ tA tB
  climbs : sP ≤ℤ pos 0 → pos 0 ≤ℤ sQ → pos 0 ≤ℤ tA → tB ≤ℤ pos 0 → pos 0 <ℤ (sQ -ℤ sP) → Cut sP sQ tA tB

-- seen in a mirror
mirror_at : (m e v s s' t c : ℤ) → (s -ℤ s') *ℤ m ≡ t *ℤ e +ℤ c *ℤ v → (neg_ℤ s -ℤ neg_ℤ s') *ℤ m ≡ neg_ℤ t *ℤ e +ℤ neg_ℤ c *ℤ v
mirror_at m e v s s' t c h =
    let M = var 0 in let E = var 1 in let V = var 2 in let S = var 3 in let S' = var 4 in let T' = var 5 in let C = var 6 in
    ring_by (m ∷ e ∷ v ∷ s ∷ s' ∷ t ∷ c ∷ []) (fact (num (negsuc 0)) ((S ⊖ S') ⊗ M) (T' ⊗ E ⊕ C ⊗ V) ∷ []) (h, tt)
    ((minus S ⊖ minus S') ⊗ M) (minus T' ⊗ E ⊕ minus C ⊗ V) tt

mirror : (pY qY aY bY sP sQ tA tB : ℤ) → Lines pY qY aY bY sP sQ tA tB → Lines pY qY aY bY (neg_ℤ sP) (neg_ℤ sQ) (neg_ℤ tA) (neg_ℤ tB)
mirror pY qY aY bY sP sQ tA tB l = record {
  rises = l.rises;
  turns = let h = l.turns in omega (arith, ints);
  at_ap = mirror_at (aY -ℤ pY) (bY -ℤ aY) (qY -ℤ pY) sP sQ tA sP l.at_ap;
  at_aq = mirror_at (aY -ℤ qY) (bY -ℤ aY) (qY -ℤ pY) sP sQ tA sQ l.at_aq;
  at_bp = mirror_at (bY -ℤ pY) (bY -ℤ aY) (qY -ℤ pY) sP sQ tB sP l.at_bp;
  at_bq = mirror_at (bY -ℤ qY) (bY -ℤ aY) (qY -ℤ pY) sP sQ tB sQ l.at_bq;
}

unmirror : (sP sQ tA tB : ℤ) → Cut (neg_ℤ sP) (neg_ℤ sQ) (neg_ℤ tA) (neg_ℤ tB) → Cut sP sQ tA tB
unmirror sP sQ tA tB (falls a b c d k) = climbs (omega (arith, ints)) (omega (arith, ints)) (omega (arith, ints)) (omega (arith, ints)) (omega (arith, ints))
unmirror sP sQ tA tB (climbs a b c d k) = falls (omega (arith, ints)) (omega (arith, ints)) (omega (arith, ints)) (omega (arith, ints)) (omega (arith, ints))

-- with the edge the other way round
turned_at : (m aY bY v s s' t c : ℤ) → (s -ℤ s') *ℤ m ≡ t *ℤ (bY -ℤ aY) +ℤ c *ℤ v → (neg_ℤ s -ℤ neg_ℤ s') *ℤ m ≡ t *ℤ (aY -ℤ bY) +ℤ neg_ℤ c *ℤ v
turned_at m aY bY v s s' t c h =
    let M = var 0 in let A = var 1 in let B = var 2 in let V = var 3 in let S = var 4 in let S' = var 5 in let T' = var 6 in let C = var 7 in
    ring_by (m ∷ aY ∷ bY ∷ v ∷ s ∷ s' ∷ t ∷ c ∷ []) (fact (num (negsuc 0)) ((S ⊖ S') ⊗ M) (T' ⊗ (B ⊖ A) ⊕ C ⊗ V) ∷ []) (h, tt)
    ((minus S ⊖ minus S') ⊗ M) (T' ⊗ (A ⊖ B) ⊕ minus C ⊗ V) tt

turned : (pY qY aY bY sP sQ tA tB : ℤ) → Lines pY qY aY bY sP sQ tA tB → Lines pY qY bY aY (neg_ℤ sP) (neg_ℤ sQ) tB tA
turned pY qY aY bY sP sQ tA tB l = record {
  rises = l.rises;
  turns = let h = l.turns in omega (arith, ints);
  at_ap = turned_at (bY -ℤ pY) aY bY (qY -ℤ pY) sP sQ tB sP l.at_bp;
  at_aq = turned_at (bY -ℤ qY) aY bY (qY -ℤ pY) sP sQ tB sQ l.at_bq;
  at_bp = turned_at (aY -ℤ pY) aY bY (qY -ℤ pY) sP sQ tA sP l.at_ap;
  at_bq = turned_at (aY -ℤ qY) aY bY (qY -ℤ pY) sP sQ tA sQ l.at_aq;
}

unturn : (sP sQ tA tB : ℤ) → Cut (neg_ℤ sP) (neg_ℤ sQ) tB tA → Cut sP sQ tA tB
unturn sP sQ tA tB (falls a b c d k) = climbs (omega (arith, ints)) (omega (arith, ints)) d c (omega (arith, ints))
unturn sP sQ tA tB (climbs a b c d k) = falls (omega (arith, ints)) (omega (arith, ints)) d c (omega (arith, ints))

gap_le : (x y : ℤ) → x ≤ℤ y → pos 0 ≤ℤ (y -ℤ x)
gap_le x y h = omega (arith, ints)

gap_ge : (x y : ℤ) → y ≤ℤ x → (y -ℤ x) ≤ℤ pos 0
gap_ge x y h = omega (arith, ints)

gap_lt : (x y : ℤ) → x <ℤ y → pos 0 <ℤ (y -ℤ x)
gap_lt x y h = omega (arith, ints)

weak : (x y : ℤ) → x <ℤ y → x ≤ℤ y
weak x y h = omega (arith, ints)

trans_le_lt : (x y z : ℤ) → x ≤ℤ y → y <ℤ z → x <ℤ z
trans_le_lt x y z h k = omega (arith, ints)

trans_lt_le : (x y z : ℤ) → x <ℤ y → y ≤ℤ z → x <ℤ z
trans_lt_le x y z h k = omega (arith, ints)

-- ---- the four places of an edge that goes up
-- aY ≤ pY ≤ qY < bY
cut_across : (pY qY aY bY sP sQ tA tB : ℤ) → Lines pY qY aY bY sP sQ tA tB → aY ≤ℤ pY → qY <ℤ bY → pos 0 ≤ℤ sP → sQ ≤ℤ pos 0 → pos 0 <ℤ (sP -ℤ sQ) → Cut sP sQ tA tB
cut_across pY qY aY bY sP sQ tA tB l ha hb hp hq hk =
    let E = bY -ℤ aY in let V = qY -ℤ pY in let K = sP -ℤ sQ in
    let e = gap_lt aY bY (trans_le_lt aY pY bY ha (trans_le_lt pY qY bY l.rises hb)) in
    let v = gap_le pY qY l.rises in
    let k = weak (pos 0) K hk in
    falls hp hq
    (t_le K (aY -ℤ pY) tA E sP V l.at_ap e (product_np K (aY -ℤ pY) k (gap_ge pY aY ha)) (product-nonneg sP V hp v))
    (t_ge K (bY -ℤ qY) tB E sQ V l.at_bq e (product-nonneg K (bY -ℤ qY) k (gap_le qY bY (weak qY bY hb))) (product_pn sQ V hq v))
    hk

-- aY ≤ pY < bY ≤ qY
cut_below : (pY qY aY bY sP sQ tA tB : ℤ) → Lines pY qY aY bY sP sQ tA tB → aY ≤ℤ pY → pY <ℤ bY → bY ≤ℤ qY → pos 0 ≤ℤ sP → pos 0 ≤ℤ tB → pos 0 <ℤ (sP -ℤ sQ) → Cut sP sQ tA tB
cut_below pY qY aY bY sP sQ tA tB l ha hp hb hs ht hk =
    let E = bY -ℤ aY in let V = qY -ℤ pY in let K = sP -ℤ sQ in
    let e = gap_lt aY bY (trans_le_lt aY pY bY ha hp) in
    let v = gap_lt pY qY (trans_lt_le pY bY qY hp hb) in
    let k = weak (pos 0) K hk in
    falls hs
    (s_le K (bY -ℤ qY) tB E sQ V l.at_bq v (product_np K (bY -ℤ qY) k (gap_ge qY bY hb)) (product-nonneg tB E ht (weak (pos 0) E e)))
    (t_le K (aY -ℤ pY) tA E sP V l.at_ap e (product_np K (aY -ℤ pY) k (gap_ge pY aY ha)) (product-nonneg sP V hs (weak (pos 0) V v)))
    ht hk

-- pY < aY ≤ qY < bY
cut_above : (pY qY aY bY sP sQ tA tB : ℤ) → Lines pY qY aY bY sP sQ tA tB → pY <ℤ aY → aY ≤ℤ qY → qY <ℤ bY → sQ ≤ℤ pos 0 → tA ≤ℤ pos 0 → pos 0 <ℤ (sP -ℤ sQ) → Cut sP sQ tA tB
cut_above pY qY aY bY sP sQ tA tB l hp ha hb hs ht hk =
    let E = bY -ℤ aY in let V = qY -ℤ pY in let K = sP -ℤ sQ in
    let e = gap_lt aY bY (trans_le_lt aY qY bY ha hb) in
    let v = gap_lt pY qY (trans_lt_le pY aY qY hp ha) in
    let k = weak (pos 0) K hk in
    falls
    (s_ge K (aY -ℤ pY) tA E sP V l.at_ap v (product-nonneg K (aY -ℤ pY) k (gap_le pY aY (weak pY aY hp))) (product_pn tA E ht (weak (pos 0) E e)))
    hs ht
    (t_ge K (bY -ℤ qY) tB E sQ V l.at_bq e (product-nonneg K (bY -ℤ qY) k (gap_le qY bY (weak qY bY hb))) (product_pn sQ V hs (weak (pos 0) V v)))
    hk

-- both ends between, pY < aY ≤ bY ≤ qY
cut_within : (pY qY aY bY sP sQ tA tB : ℤ) → Lines pY qY aY bY sP sQ tA tB → pY <ℤ aY → aY ≤ℤ bY → bY ≤ℤ qY → tA ≤ℤ pos 0 → pos 0 ≤ℤ tB → pos 0 <ℤ (sP -ℤ sQ) → Cut sP sQ tA tB
cut_within pY qY aY bY sP sQ tA tB l hp ha hb hs ht hk =
    let E = bY -ℤ aY in let V = qY -ℤ pY in let K = sP -ℤ sQ in
    let e = gap_le aY bY ha in
    let v = gap_lt pY qY (trans_lt_le pY aY qY hp (trans_le aY bY qY ha hb)) in
    let k = weak (pos 0) K hk in
    falls
    (s_ge K (aY -ℤ pY) tA E sP V l.at_ap v (product-nonneg K (aY -ℤ pY) k (gap_le pY aY (weak pY aY hp))) (product_pn tA E hs e))
    (s_le K (bY -ℤ qY) tB E sQ V l.at_bq v (product_np K (bY -ℤ qY) k (gap_ge qY bY hb)) (product-nonneg tB E ht e))
    hs ht hk
  where
    trans_le : (x y z : ℤ) → x ≤ℤ y → y ≤ℤ z → x ≤ℤ z
    trans_le x y z h k = omega (arith, ints)

-- ---- the sign of sP - sQ
quotient_pos : (k m : ℤ) → pos 0 ≤ℤ m → pos 0 <ℤ (k *ℤ m) → pos 0 <ℤ k
quotient_pos k m h p = by_lt_z (pos 0) k (λ l. l) (λ l. absurd (clash (k *ℤ m) p (product_pn k m l h)))
  where
    clash : (x : ℤ) → pos 0 <ℤ x → x ≤ℤ pos 0 → ⊥
    clash x h k = omega (arith, ints)

quotient_neg : (k m : ℤ) → m ≤ℤ pos 0 → (k *ℤ m) <ℤ pos 0 → pos 0 <ℤ k
quotient_neg k m h p = by_lt_z (pos 0) k (λ l. l) (λ l. absurd (clash (k *ℤ m) (neg_ℤ k *ℤ neg_ℤ m) p (ring (k ∷ m ∷ []) (minus (var 0) ⊗ minus (var 1)) (var 0 ⊗ var 1) tt) (product-nonneg (neg_ℤ k) (neg_ℤ m) (over k l) (over m h))))
  where
    over : (x : ℤ) → x ≤ℤ pos 0 → pos 0 ≤ℤ neg_ℤ x
    over x h = omega (arith, ints)

    clash : (x y : ℤ) → x <ℤ pos 0 → y ≡ x → pos 0 ≤ℤ y → ⊥
    clash x y h e k = omega (arith, ints)

sum_pos_nonneg : (x y z : ℤ) → x ≡ y +ℤ z → pos 0 ≤ℤ y → pos 0 <ℤ z → pos 0 <ℤ x
sum_pos_nonneg x y z e h k = omega (arith, ints)

sum_nonneg_pos : (x y z : ℤ) → x ≡ y +ℤ z → pos 0 <ℤ y → pos 0 ≤ℤ z → pos 0 <ℤ x
sum_nonneg_pos x y z e h k = omega (arith, ints)

sum_neg_nonpos : (x y z : ℤ) → x ≡ y +ℤ z → y <ℤ pos 0 → z ≤ℤ pos 0 → x <ℤ pos 0
sum_neg_nonpos x y z e h k = omega (arith, ints)

sum_nonpos_neg : (x y z : ℤ) → x ≡ y +ℤ z → y ≤ℤ pos 0 → z <ℤ pos 0 → x <ℤ pos 0
sum_nonpos_neg x y z e h k = omega (arith, ints)

-- ---- what the tests of the four places say
case_across : (pY qY aY bY sP sQ tA tB : ℤ) → Lines pY qY aY bY sP sQ tA tB → aY ≤ℤ pY → qY <ℤ bY → (b c : Bool) → ReadsLt b (pos 0) sP → ReadsLt c (pos 0) sQ → (b ≡ c) ⊎ Cut sP sQ tA tB
case_across pY qY aY bY sP sQ tA tB l ha hb true true h k = inl refl
case_across pY qY aY bY sP sQ tA tB l ha hb false false h k = inl refl
case_across pY qY aY bY sP sQ tA tB l ha hb true false h k = inr (cut_across pY qY aY bY sP sQ tA tB l ha hb (weak (pos 0) sP h) k (omega (arith, ints)))
case_across pY qY aY bY sP sQ tA tB l ha hb false true h k = inr (unmirror sP sQ tA tB (cut_across pY qY aY bY (neg_ℤ sP) (neg_ℤ sQ) (neg_ℤ tA) (neg_ℤ tB) (mirror pY qY aY bY sP sQ tA tB l) ha hb (omega (arith, ints)) (omega (arith, ints)) (omega (arith, ints))))

below_k : (pY qY aY bY sP sQ tA tB : ℤ) → Lines pY qY aY bY sP sQ tA tB → aY ≤ℤ pY → pY <ℤ bY → bY ≤ℤ qY → ((pos 0 <ℤ sP) × (pos 0 ≤ℤ tB)) ⊎ ((pos 0 ≤ℤ sP) × (pos 0 <ℤ tB)) → pos 0 <ℤ (sP -ℤ sQ)
below_k pY qY aY bY sP sQ tA tB l ha hp hb (inl h) =
    quotient_pos (sP -ℤ sQ) (bY -ℤ pY) (gap_le pY bY (weak pY bY hp)) (sum_pos_nonneg ((sP -ℤ sQ) *ℤ (bY -ℤ pY)) (tB *ℤ (bY -ℤ aY)) (sP *ℤ (qY -ℤ pY)) l.at_bp
    (product-nonneg tB (bY -ℤ aY) h.1 (gap_le aY bY (weak aY bY (trans_le_lt aY pY bY ha hp)))) (product-pos sP (qY -ℤ pY) h.0 (gap_lt pY qY (trans_lt_le pY bY qY hp hb))))
below_k pY qY aY bY sP sQ tA tB l ha hp hb (inr h) =
    quotient_pos (sP -ℤ sQ) (bY -ℤ pY) (gap_le pY bY (weak pY bY hp)) (sum_nonneg_pos ((sP -ℤ sQ) *ℤ (bY -ℤ pY)) (tB *ℤ (bY -ℤ aY)) (sP *ℤ (qY -ℤ pY)) l.at_bp
    (product-pos tB (bY -ℤ aY) h.1 (gap_lt aY bY (trans_le_lt aY pY bY ha hp))) (product-nonneg sP (qY -ℤ pY) h.0 (gap_le pY qY l.rises)))

case_below : (pY qY aY bY sP sQ tA tB : ℤ) → Lines pY qY aY bY sP sQ tA tB → aY ≤ℤ pY → pY <ℤ bY → bY ≤ℤ qY → (b c : Bool) → ReadsLt b (pos 0) sP → ReadsLt c tB (pos 0) → (b ≡ c) ⊎ Cut sP sQ tA tB
case_below pY qY aY bY sP sQ tA tB l ha hp hb true true h k = inl refl
case_below pY qY aY bY sP sQ tA tB l ha hp hb false false h k = inl refl
case_below pY qY aY bY sP sQ tA tB l ha hp hb true false h k = inr (cut_below pY qY aY bY sP sQ tA tB l ha hp hb (weak (pos 0) sP h) k (below_k pY qY aY bY sP sQ tA tB l ha hp hb (inl (h, k))))
case_below pY qY aY bY sP sQ tA tB l ha hp hb false true h k =
    let m = mirror pY qY aY bY sP sQ tA tB l in
    let s : pos 0 ≤ℤ neg_ℤ sP = omega (arith, ints) in
    let t : pos 0 <ℤ neg_ℤ tB = omega (arith, ints) in
    inr (unmirror sP sQ tA tB (cut_below pY qY aY bY (neg_ℤ sP) (neg_ℤ sQ) (neg_ℤ tA) (neg_ℤ tB) m ha hp hb s (weak (pos 0) (neg_ℤ tB) t) (below_k pY qY aY bY (neg_ℤ sP) (neg_ℤ sQ) (neg_ℤ tA) (neg_ℤ tB) m ha hp hb (inr (s, t)))))

above_k : (pY qY aY bY sP sQ tA tB : ℤ) → Lines pY qY aY bY sP sQ tA tB → pY <ℤ aY → aY ≤ℤ qY → qY <ℤ bY → ((sQ <ℤ pos 0) × (tA ≤ℤ pos 0)) ⊎ ((sQ ≤ℤ pos 0) × (tA <ℤ pos 0)) → pos 0 <ℤ (sP -ℤ sQ)
above_k pY qY aY bY sP sQ tA tB l hp ha hb (inl h) =
    quotient_neg (sP -ℤ sQ) (aY -ℤ qY) (gap_ge qY aY ha) (sum_nonpos_neg ((sP -ℤ sQ) *ℤ (aY -ℤ qY)) (tA *ℤ (bY -ℤ aY)) (sQ *ℤ (qY -ℤ pY)) l.at_aq
    (product_pn tA (bY -ℤ aY) h.1 (gap_le aY bY (weak aY bY (trans_le_lt aY qY bY ha hb)))) (product_pos_neg sQ (qY -ℤ pY) h.0 (gap_lt pY qY (trans_lt_le pY aY qY hp ha))))
above_k pY qY aY bY sP sQ tA tB l hp ha hb (inr h) =
    quotient_neg (sP -ℤ sQ) (aY -ℤ qY) (gap_ge qY aY ha) (sum_neg_nonpos ((sP -ℤ sQ) *ℤ (aY -ℤ qY)) (tA *ℤ (bY -ℤ aY)) (sQ *ℤ (qY -ℤ pY)) l.at_aq
    (product_pos_neg tA (bY -ℤ aY) h.1 (gap_lt aY bY (trans_le_lt aY qY bY ha hb))) (product_pn sQ (qY -ℤ pY) h.0 (gap_le pY qY l.rises)))

case_above : (pY qY aY bY sP sQ tA tB : ℤ) → Lines pY qY aY bY sP sQ tA tB → pY <ℤ aY → aY ≤ℤ qY → qY <ℤ bY → (b c : Bool) → ReadsLt b (pos 0) sQ → ReadsLt c tA (pos 0) → (b ≡ c) ⊎ Cut sP sQ tA tB
case_above pY qY aY bY sP sQ tA tB l hp ha hb true true h k = inl refl
case_above pY qY aY bY sP sQ tA tB l hp ha hb false false h k = inl refl
case_above pY qY aY bY sP sQ tA tB l hp ha hb true false h k =
    let m = mirror pY qY aY bY sP sQ tA tB l in
    let s : neg_ℤ sQ <ℤ pos 0 = omega (arith, ints) in
    let t : neg_ℤ tA ≤ℤ pos 0 = omega (arith, ints) in
    inr (unmirror sP sQ tA tB (cut_above pY qY aY bY (neg_ℤ sP) (neg_ℤ sQ) (neg_ℤ tA) (neg_ℤ tB) m hp ha hb (weak (neg_ℤ sQ) (pos 0) s) t (above_k pY qY aY bY (neg_ℤ sP) (neg_ℤ sQ) (neg_ℤ tA) (neg_ℤ tB) m hp ha hb (inl (s, t)))))
case_above pY qY aY bY sP sQ tA tB l hp ha hb false true h k = inr (cut_above pY qY aY bY sP sQ tA tB l hp ha hb h (weak tA (pos 0) k) (above_k pY qY aY bY sP sQ tA tB l hp ha hb (inr (h, k))))

within_up : (pY qY aY bY sP sQ tA tB : ℤ) → Lines pY qY aY bY sP sQ tA tB → pY <ℤ aY → aY ≤ℤ bY → bY ≤ℤ qY → (b c : Bool) → ReadsLt b tA (pos 0) → ReadsLt c tB (pos 0) → (b ≡ c) ⊎ Cut sP sQ tA tB
within_up pY qY aY bY sP sQ tA tB l hp ha hb true true h k = inl refl
within_up pY qY aY bY sP sQ tA tB l hp ha hb false false h k = inl refl
within_up pY qY aY bY sP sQ tA tB l hp ha hb true false h k =
    let q = l.turns in inr (cut_within pY qY aY bY sP sQ tA tB l hp ha hb (weak tA (pos 0) h) k (omega (arith, ints)))
within_up pY qY aY bY sP sQ tA tB l hp ha hb false true h k =
    let q = l.turns in
    inr (unmirror sP sQ tA tB (cut_within pY qY aY bY (neg_ℤ sP) (neg_ℤ sQ) (neg_ℤ tA) (neg_ℤ tB) (mirror pY qY aY bY sP sQ tA tB l) hp ha hb (omega (arith, ints)) (omega (arith, ints)) (omega (arith, ints))))

pub on_left : {A B C : Type 0} → (A → C) → A ⊎ B → C ⊎ B
on_left f (inl a) = inl (f a)
on_left f (inr b) = inr b

pub on_both : {A B C D : Type 0} → (A → C) → (B → D) → A ⊎ B → C ⊎ D
on_both f g (inl a) = inl (f a)
on_both f g (inr b) = inr (g b)

case_within : (pY qY aY bY sP sQ tA tB : ℤ) → Lines pY qY aY bY sP sQ tA tB → pY <ℤ aY → pY <ℤ bY → aY ≤ℤ qY → bY ≤ℤ qY → (b c : Bool) → ReadsLt b tA (pos 0) → ReadsLt c tB (pos 0) → (b ≡ c) ⊎ Cut sP sQ tA tB
case_within pY qY aY bY sP sQ tA tB l hp hp' ha hb b c h k = by_lt_z bY aY
    (λ o. on_both sym (unturn sP sQ tA tB) (within_up pY qY bY aY (neg_ℤ sP) (neg_ℤ sQ) tB tA (turned pY qY aY bY sP sQ tA tB l) hp' (weak bY aY o) ha c b k h))
    (λ o. within_up pY qY aY bY sP sQ tA tB l hp o hb b c h k)

-- ---- all places
-- marked are the corners to the right of the segment whose height is above that of P and at most that of Q
abbrev pub marking : Bool → Bool → ℤ → Bool
marking true k t = false
marking false true t = lt_z t (pos 0)
marking false false t = false

pub same_differ : (b c : Bool) → b ≡ c → differ b c ≡ false
same_differ true true e = refl
same_differ false false e = refl
same_differ true false e = e
same_differ false true e = sym e

pub differ_false : (b : Bool) → differ b false ≡ b
differ_false true = refl
differ_false false = refl

clash_up : (x y z : ℤ) → x ≤ℤ y → y ≤ℤ z → z <ℤ x → ⊥
clash_up x y z h k l = omega (arith, ints)

pub core : (la lb ka kb : Bool) (pY qY aY bY sP sQ tA tB : ℤ) → Lines pY qY aY bY sP sQ tA tB → ReadsLe la aY pY → ReadsLe lb bY pY → ReadsLe ka aY qY → ReadsLe kb bY qY → (differ (passing la lb sP) (passing ka kb sQ) ≡ differ (marking la ka tA) (marking lb kb tB)) ⊎ Cut sP sQ tA tB
core true lb false kb pY qY aY bY sP sQ tA tB l h1 h2 h3 h4 = absurd (clash_up aY pY qY h1 l.rises h3)
core la true ka false pY qY aY bY sP sQ tA tB l h1 h2 h3 h4 = absurd (clash_up bY pY qY h2 l.rises h4)
core true true true true pY qY aY bY sP sQ tA tB l h1 h2 h3 h4 = inl refl
core true false true false pY qY aY bY sP sQ tA tB l h1 h2 h3 h4 =
    on_left (same_differ (lt_z (pos 0) sP) (lt_z (pos 0) sQ)) (case_across pY qY aY bY sP sQ tA tB l h1 h4 (lt_z (pos 0) sP) (lt_z (pos 0) sQ) (reads_lt (pos 0) sP) (reads_lt (pos 0) sQ))
core true false true true pY qY aY bY sP sQ tA tB l h1 h2 h3 h4 =
    on_left (λ e. differ_false (lt_z (pos 0) sP) ∙ e) (case_below pY qY aY bY sP sQ tA tB l h1 h2 h4 (lt_z (pos 0) sP) (lt_z tB (pos 0)) (reads_lt (pos 0) sP) (reads_lt tB (pos 0)))
core false true false true pY qY aY bY sP sQ tA tB l h1 h2 h3 h4 =
    on_both (same_differ (lt_z sP (pos 0)) (lt_z sQ (pos 0))) (unturn sP sQ tA tB)
    (case_across pY qY bY aY (neg_ℤ sP) (neg_ℤ sQ) tB tA (turned pY qY aY bY sP sQ tA tB l) h2 h3 (lt_z sP (pos 0)) (lt_z sQ (pos 0)) (ReadsLt-neg (lt_z sP (pos 0)) sP (reads_lt sP (pos 0))) (ReadsLt-neg (lt_z sQ (pos 0)) sQ (reads_lt sQ (pos 0))))
core false true true true pY qY aY bY sP sQ tA tB l h1 h2 h3 h4 =
    on_both (λ e. differ_false (lt_z sP (pos 0)) ∙ e ∙ sym (differ_false (lt_z tA (pos 0)))) (unturn sP sQ tA tB)
    (case_below pY qY bY aY (neg_ℤ sP) (neg_ℤ sQ) tB tA (turned pY qY aY bY sP sQ tA tB l) h2 h1 h3 (lt_z sP (pos 0)) (lt_z tA (pos 0)) (ReadsLt-neg (lt_z sP (pos 0)) sP (reads_lt sP (pos 0))) (reads_lt tA (pos 0)))
core false false true true pY qY aY bY sP sQ tA tB l h1 h2 h3 h4 =
    on_left (λ e. sym (same_differ (lt_z tA (pos 0)) (lt_z tB (pos 0)) e)) (case_within pY qY aY bY sP sQ tA tB l h1 h2 h3 h4 (lt_z tA (pos 0)) (lt_z tB (pos 0)) (reads_lt tA (pos 0)) (reads_lt tB (pos 0)))
core false false true false pY qY aY bY sP sQ tA tB l h1 h2 h3 h4 =
    on_left (λ e. e ∙ sym (differ_false (lt_z tA (pos 0)))) (case_above pY qY aY bY sP sQ tA tB l h1 h3 h4 (lt_z (pos 0) sQ) (lt_z tA (pos 0)) (reads_lt (pos 0) sQ) (reads_lt tA (pos 0)))
core false false false true pY qY aY bY sP sQ tA tB l h1 h2 h3 h4 =
    on_both (λ e. e) (unturn sP sQ tA tB)
    (case_above pY qY bY aY (neg_ℤ sP) (neg_ℤ sQ) tB tA (turned pY qY aY bY sP sQ tA tB l) h2 h4 h3 (lt_z sQ (pos 0)) (lt_z tB (pos 0)) (ReadsLt-neg (lt_z sQ (pos 0)) sQ (reads_lt sQ (pos 0))) (reads_lt tB (pos 0)))
core false false false false pY qY aY bY sP sQ tA tB l h1 h2 h3 h4 = inl refl
