-- Steps along an outline, past edges of which Q holds, as it does where each is apart from a segment or none is near it.
use Rattle.std.proofs.Common.{◌≡◌, ℕ, ◌-◌, ◌<◌, ◌≤◌, ◌↔◌, ℤ, Bool, not, IsTrue, List, length, take, drop, sym, ap, ◌∙◌, subst, arith}
use mathlib.Core.Bool.{beq}
use Rattle.geo_seg.specs.declared.points.Point.{Point}
use Rattle.geo_seg.specs.declared.points.Seg.{Seg}
use Rattle.geo_seg.specs.Points.{RationalPoint}
use Rattle.geo_seg.specs.Nearer.{IsDistance}
use Rattle.geo_seg.specs.Inside.{path, outline, EachEdge, SomeEdge}
use Rattle.geo_seg.proofs.Parity.{differ, is_odd}
use Rattle.geo_seg.proofs.Passed.{passed, d_kept}
use Rattle.geo_poly.specs.declared.parity.Step.{Step}
use Rattle.geo_poly.specs.OutlineEdges.{IsApart, IsReached}
use Rattle.geo_poly.specs.EdgeRuns.{between, PassOdd}
use Rattle.geo_poly.specs.OutlineSteps.{IsParityStep, IsPast}
use Rattle.geo_poly.proofs.RunLemmas.{Joins, joined_on, each_part, some_part, odd_on, odd_is, odd_by, differ_beq, all_edges, piece}

abbrev pub AllApart : Seg → ℤ → List Seg → Type 0
AllApart s d es = EachEdge (λ e. IsApart e s d) es

abbrev pub NoneReached : Seg → ℤ → List Seg → Type 0
NoneReached s d es = ¬ (SomeEdge (λ e. IsReached e s d) es)

-- what a call says at the d that it was passed
pub kept : (P : ℤ → Type 0) (d : ℤ) → IsDistance d → P (passed d) → P d
kept P d r x = subst P (d_kept d r.from r.to) x

pub past_by : (Q R : List Seg → Type 0) (ks : List Point) (p : RationalPoint) (low : ℕ) (step : Step) → ((es : List Seg) → Q es → R es) → IsPast Q ks p low step → IsPast R ks p low step
past_by Q R ks p low step f h = record { counted = h.counted; past = f (between low step.high (outline ks)) h.past }

-- ---- a step by edges that were looked at, which are a path of the corners that the polygon gave
pub step_of : (p : RationalPoint) (a : Point) (cs ks : List Point) (low : ℕ) (step : Step) → cs ≡ ks → drop low (outline cs) ≡ path a (drop low cs) → low < step.high → step.high ≤ length cs
    → (IsTrue step.odd ↔ PassOdd p (path a (take (step.high - low) (drop low cs)))) → IsParityStep ks p low step
step_of p a cs ks low step same starts after within odd = record {
  after = after;
  within = subst (λ (z : List Point). step.high ≤ length z) same within;
  odd = subst (λ (es : List Seg). IsTrue step.odd ↔ PassOdd p es) (sym (piece a cs ks low step.high same starts)) odd;
}

-- what holds of each edge holds of those, and what holds of some of those holds of some edge
pub each_there : (P : Seg → Type 0) (a : Point) (cs ks : List Point) (low high : ℕ) → cs ≡ ks → drop low (outline cs) ≡ path a (drop low cs) → low < high → high ≤ length cs
    → EachEdge P (outline ks) → EachEdge P (path a (take (high - low) (drop low cs)))
each_there P a cs ks low high same starts after within h =
    subst (EachEdge P) (piece a cs ks low high same starts)
    (each_part P 0 low high (length cs) (outline ks) (omega arith) (omega arith) within (subst (EachEdge P) (sym (all_edges cs ks (length cs) same (omega arith))) h))

pub some_there : (P : Seg → Type 0) (a : Point) (cs ks : List Point) (low high : ℕ) → cs ≡ ks → drop low (outline cs) ≡ path a (drop low cs) → low < high → high ≤ length cs
    → SomeEdge P (path a (take (high - low) (drop low cs))) → SomeEdge P (outline ks)
some_there P a cs ks low high same starts after within h =
    subst (SomeEdge P) (all_edges cs ks (length cs) same (omega arith))
    (some_part P 0 low high (length cs) (outline ks) (omega arith) (omega arith) within (subst (SomeEdge P) (sym (piece a cs ks low high same starts)) h))

-- ---- a walk: the edges behind it, and their parity
abbrev pub IsOddBehind : List Point → RationalPoint → ℕ → Bool → Type 0
IsOddBehind ks p low odd = is_odd p (between 0 low (outline ks)) ≡ odd

pub odd_after : (ks : List Point) (p : RationalPoint) (low : ℕ) (odd : Bool) (step : Step) → IsOddBehind ks p low odd → IsParityStep ks p low step → IsOddBehind ks p step.high (not (beq odd step.odd))
odd_after ks p low odd step e h =
    odd_on p 0 low step.high (outline ks) (omega arith) (omega (arith, h.after))
    ∙ ap (λ z. differ z (is_odd p (between low step.high (outline ks)))) e
    ∙ ap (differ odd) (odd_is p (between low step.high (outline ks)) step.odd h.odd)
    ∙ differ_beq odd step.odd

abbrev pub IsBehind : (List Seg → Type 0) → List Point → RationalPoint → ℕ → ℕ → Bool → Type 0
IsBehind Q ks p all low odd = (low ≤ all) × IsOddBehind ks p low odd × Q (between 0 low (outline ks))

pub step_on : (Q : List Seg → Type 0) → Joins Q → (cs ks : List Point) (p : RationalPoint) (low : ℕ) (odd : Bool) (step : Step) → cs ≡ ks → IsBehind Q ks p (length cs) low odd → IsPast Q ks p low step → IsBehind Q ks p (length cs) step.high (not (beq odd step.odd))
step_on Q j cs ks p low odd step same h k = (
  subst (λ (z : List Point). step.high ≤ length z) (sym same) k.counted.within,
  odd_after ks p low odd step h.1 k.counted,
  joined_on Q j 0 low step.high (outline ks) (omega arith) (omega (arith, k.counted.after)) h.2 k.past,
)

-- and where it ends
pub odd_in_all : (cs ks : List Point) (p : RationalPoint) (low : ℕ) (odd : Bool) → cs ≡ ks → length cs ≤ low → IsOddBehind ks p low odd → (IsTrue odd ↔ PassOdd p (outline ks))
odd_in_all cs ks p low odd same all e = odd_by p (outline ks) odd (ap (is_odd p) (sym (all_edges cs ks low same all)) ∙ e)

pub past_all : (Q : List Seg → Type 0) (cs ks : List Point) (low : ℕ) → cs ≡ ks → length cs ≤ low → Q (between 0 low (outline ks)) → Q (outline ks)
past_all Q cs ks low same all h = subst Q (all_edges cs ks low same all) h
