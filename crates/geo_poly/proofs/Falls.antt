-- The greatest distance that edges keep, one after another. What is apart at a distance is apart at each lesser one.
use Rattle.std.proofs.Common.{◌≡◌, ◌≤◌, ℕ, ℤ, pos, ◌≤ℤ◌, List, [], ◌∷◌, refl, sym, subst, arith}
use Rattle.geo_seg.specs.declared.points.Seg.{Seg}
use Rattle.geo_seg.specs.Points.{IsOn}
use Rattle.geo_seg.specs.Distances.{IsGap}
use Rattle.geo_seg.specs.Inside.{EachEdge}
use Rattle.geo_seg.proofs.Distances.{apart_less}
use Rattle.geo_seg.proofs.GapLemmas.{Falls, gap_same, gap_whole, gap_along, gap_both}
use Rattle.geo_poly.specs.OutlineEdges.{IsApart, EachApart}
use Rattle.geo_poly.specs.EdgeRuns.{between}
use Rattle.geo_poly.proofs.RunLemmas.{each_on, each_part, apart_on, apart_part}

pub edge_falls : (s e : Seg) → Falls (λ d. IsApart e s d)
edge_falls s e = record { lesser = λ g h from to far. apart_less (IsOn e) (IsOn s) g h from to far }

pub each_falls : (K : Seg → ℤ → Type 0) → ((e : Seg) → Falls (K e)) → (es : List Seg) → Falls (λ d. EachEdge (λ e. K e d) es)
each_falls K falls [] = record { lesser = λ g h from to far. tt }
each_falls K falls (e ∷ es) = record { lesser = λ g h from to far. ((falls e).lesser g h from to far.0, (each_falls K falls es).lesser g h from to far.1) }

pub edges_fall : (s : Seg) (es : List Seg) → Falls (λ d. EachEdge (λ e. IsApart e s d) es)
edges_fall s es = each_falls (λ e d. IsApart e s d) (edge_falls s) es

pub outlines_fall : (us es : List Seg) → Falls (λ d. EachApart d us es)
outlines_fall us es = each_falls (λ e d. EachEdge (λ f. IsApart f e d) es) (λ e. edges_fall e es) us

-- ---- edge by edge
module _ (K : Seg → ℤ → Type 0) (falls : (e : Seg) → Falls (K e)) where
  -- what is the greatest for the edges that are left, up to the best so far, is so for all
  abbrev pub IsRest : List Seg → ℤ → List Seg → ℤ → Type 0
  IsRest rest best all most = (r : ℤ) → IsGap (λ d. EachEdge (λ e. K e d) rest) best r → IsGap (λ d. EachEdge (λ e. K e d) all) most r

  pub rest_step : (all es rest : List Seg) (e : Seg) (most best next kept : ℤ) → es ≡ e ∷ rest → kept ≡ next → IsGap (K e) best next → IsRest es best all most → IsRest rest kept all most
  rest_step all es rest e most best next kept is same own so_far = λ r h.
      so_far r (subst (λ (us : List Seg). IsGap (λ d. EachEdge (λ e. K e d) us) best r) (sym is)
      (gap_both (K e) (λ d. EachEdge (λ e. K e d) rest) best next r (falls e) own (gap_same same refl h)))

  pub rest_end : (all es : List Seg) (most best : ℤ) → es ≡ [] → pos 0 ≤ℤ best → IsRest es best all most → IsGap (λ d. EachEdge (λ e. K e d) all) most best
  rest_end all es most best is from so_far = so_far best (subst (λ (us : List Seg). IsGap (λ d. EachEdge (λ e. K e d) us) best best) (sym is) (gap_whole (λ d. EachEdge (λ e. K e d) []) best from tt))

  -- ---- run by run
  pub run_step : (low mid high : ℕ) (es : List Seg) (most best next : ℤ) → low ≤ mid → mid ≤ high → IsGap (λ d. EachEdge (λ e. K e d) (between low mid es)) most best → IsGap (λ d. EachEdge (λ e. K e d) (between mid high es)) best next → IsGap (λ d. EachEdge (λ e. K e d) (between low high es)) most next
  run_step low mid high es most best next h k so_far own =
      let first : low ≤ low = omega arith in let last : high ≤ high = omega arith in
      gap_along (λ d. EachEdge (λ e. K e d) (between low mid es) × EachEdge (λ e. K e d) (between mid high es)) (λ d. EachEdge (λ e. K e d) (between low high es)) most next
      (λ g some. (λ x. (each_part (λ e. K e g) low low mid high es first h k x, each_part (λ e. K e g) low mid high high es h k last x), λ x. each_on (λ e. K e g) low mid high es h k x.0 x.1))
      (gap_both (λ d. EachEdge (λ e. K e d) (between low mid es)) (λ d. EachEdge (λ e. K e d) (between mid high es)) most best next (each_falls K falls (between low mid es)) so_far own)

-- the same where the other outline is taken run by run
pub other_step : (us : List Seg) (low mid high : ℕ) (es : List Seg) (most best next : ℤ) → low ≤ mid → mid ≤ high → IsGap (λ d. EachApart d us (between low mid es)) most best → IsGap (λ d. EachApart d us (between mid high es)) best next → IsGap (λ d. EachApart d us (between low high es)) most next
other_step us low mid high es most best next h k so_far own =
    let first : low ≤ low = omega arith in let last : high ≤ high = omega arith in
    gap_along (λ d. EachApart d us (between low mid es) × EachApart d us (between mid high es)) (λ d. EachApart d us (between low high es)) most next
    (λ g some. (λ x. (apart_part g us low low mid high es first h k x, apart_part g us low mid high high es h k last x), λ x. apart_on g us low mid high es h k x.0 x.1))
    (gap_both (λ d. EachApart d us (between low mid es)) (λ d. EachApart d us (between mid high es)) most best next (outlines_fall us (between low mid es)) so_far own)
