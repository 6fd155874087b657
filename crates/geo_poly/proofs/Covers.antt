-- Edges that lie in boxes: where the boxes are d apart, so are the edges.
use Rattle.std.proofs.Common.{ℤ, pos, ◌+ℤ◌, ◌≤ℤ◌, ◌<ℤ◌, List, [], ◌∷◌, inl, inr, arith}
use Rattle.std.proofs.lemmas.Int.{ints}
use Rattle.geo_seg.specs.declared.points.Point.{Point}
use Rattle.geo_seg.specs.declared.points.Seg.{Seg}
use Rattle.geo_seg.specs.declared.boxes.Bounds.{Bounds}
use Rattle.geo_seg.specs.Points.{RationalPoint, IsOn}
use Rattle.geo_seg.specs.Boxes.{IsInBox, IsLeastBox, AreClear}
use Rattle.geo_seg.specs.RunBoxes.{AreEndsHeld}
use Rattle.geo_seg.specs.Inside.{outline, EachEdge, SomeEdge, IsInside}
use Rattle.geo_seg.proofs.BoxLemmas.{on_in_box, clear_not_nearer}
use Rattle.geo_poly.specs.OutlineEdges.{IsApart, IsReached, EachApart, SomeReached}
use Rattle.geo_seg.proofs.Distances.{apart_not_within}
use Rattle.geo_poly.proofs.Reach.{each_by}

-- the box holds the edge
abbrev pub Covers : Bounds → Seg → Type 0
Covers b e = (p : RationalPoint) → IsOn e p → IsInBox b p

pub covers_ends : (b : Bounds) (e : Seg) → AreEndsHeld b e → Covers b e
covers_ends b e h p o = on_in_box b e p h.0 h.1 o

pub covers_outline : (b : Bounds) (cs : List Point) → IsLeastBox (IsInside cs) b → EachEdge (Covers b) (outline cs)
covers_outline b cs h = each_by (outline cs) (outline cs) (λ e member p o. h.holds p (inl (member (λ x. IsOn x p) o))) (λ Q x. x)

-- ---- boxes that are clear of each other
pub edge_clear : (b c : Bounds) (e s : Seg) (d : ℤ) → pos 0 ≤ℤ d → Covers b e → Covers c s → AreClear b c d → IsApart e s d
edge_clear b c e s d hd he hs h = record { apart = λ p q o u n. clear_not_nearer b c p q d hd (he p o) (hs q u) h n }

pub each_clear : (b c : Bounds) (s : Seg) (d : ℤ) → pos 0 ≤ℤ d → Covers c s → AreClear b c d → (es : List Seg) → EachEdge (Covers b) es → EachEdge (λ e. IsApart e s d) es
each_clear b c s d hd hs h [] k = tt
each_clear b c s d hd hs h (e ∷ es) k = (edge_clear b c e s d hd k.0 hs h, each_clear b c s d hd hs h es k.1)

pub none_clear : (b c : Bounds) (s : Seg) (d : ℤ) → pos 0 ≤ℤ d → Covers c s → AreClear b c (d +ℤ pos 1) → (es : List Seg) → EachEdge (Covers b) es → SomeEdge (λ e. IsReached e s d) es → ⊥
none_clear b c s d hd hs h [] k x = x
none_clear b c s d hd hs h (e ∷ es) k (inl x) = apart_not_within (IsOn e) (IsOn s) d (d +ℤ pos 1) hd (more d) (edge_clear b c e s (d +ℤ pos 1) (up d hd) k.0 hs h) x
  where
    more : (d : ℤ) → d <ℤ (d +ℤ pos 1)
    more d = omega (arith, ints)

    up : (d : ℤ) → pos 0 ≤ℤ d → pos 0 ≤ℤ (d +ℤ pos 1)
    up d h = omega (arith, ints)
none_clear b c s d hd hs h (e ∷ es) k (inr x) = none_clear b c s d hd hs h es k.1 x

pub both_clear : (b c : Bounds) (d : ℤ) → pos 0 ≤ℤ d → AreClear b c d → (fs es : List Seg) → EachEdge (Covers c) fs → EachEdge (Covers b) es → EachApart d fs es
both_clear b c d hd h [] es hf he = tt
both_clear b c d hd h (f ∷ fs) es hf he = (each_clear b c f d hd hf.0 h es he, both_clear b c d hd h fs es hf.1 he)

pub none_both_clear : (b c : Bounds) (d : ℤ) → pos 0 ≤ℤ d → AreClear b c (d +ℤ pos 1) → (fs es : List Seg) → EachEdge (Covers c) fs → EachEdge (Covers b) es → SomeReached d fs es → ⊥
none_both_clear b c d hd h [] es hf he x = x
none_both_clear b c d hd h (f ∷ fs) es hf he (inl x) = none_clear b c f d hd hf.0 h es he x
none_both_clear b c d hd h (f ∷ fs) es hf he (inr x) = none_both_clear b c d hd h fs es hf.1 he x
