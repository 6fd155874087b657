-- The greatest distance that is kept, up to a limit: of one thing, and of one after another.
use Rattle.std.proofs.Common.{◌≡◌, ◌⊎◌, ◌↔◌, zero, suc, ℤ, pos, negsuc, ◌≤ℤ◌, ◌<ℤ◌, inl, inr, refl, subst, arith}
use Rattle.std.proofs.lemmas.Int.{ints}
use Rattle.int_algebra.proofs.Scalars.{passed}
use Rattle.geo_seg.specs.Nearer.{IsDistance}
use Rattle.geo_seg.specs.Distances.{IsGap}
use Rattle.geo_seg.proofs.Passed.{d_kept}

pub int_cases : (g : ℤ) → (pos 1 ≤ℤ g) ⊎ (g ≤ℤ pos 0)
int_cases (pos zero) = inr (omega (arith, ints))
int_cases (pos (suc n)) = inl (omega (arith, ints))
int_cases (negsuc n) = inr (omega (arith, ints))

-- what keeps a distance keeps each lesser one
pub record Falls (K : ℤ → Type 0) : Type 0 where
  pub lesser : (g h : ℤ) → pos 0 ≤ℤ g → g ≤ℤ h → K h → K g

pub gap_same : {K : ℤ → Type 0} {v w gap h : ℤ} → v ≡ w → gap ≡ h → IsGap K v gap → IsGap K w h
gap_same {K} {v} {w} {gap} {h} e f is = subst (λ (z : ℤ). IsGap K z h) e (subst (λ (z : ℤ). IsGap K v z) f is)

-- the limit is kept
pub gap_whole : (K : ℤ → Type 0) (most : ℤ) → pos 0 ≤ℤ most → K most → IsGap K most most
gap_whole K most h k = record { from = h; to = omega (arith, ints); kept = inr k; greatest = λ g some to is. to }

-- nothing is kept
pub gap_none : (K : ℤ → Type 0) (most : ℤ) → pos 0 ≤ℤ most → ((g : ℤ) → pos 1 ≤ℤ g → g ≤ℤ most → K g → ⊥) → IsGap K most (pos 0)
gap_none K most h refuse = record { from = omega (arith, ints); to = h; kept = inl refl; greatest = λ g some to is. absurd (refuse g some to is) }

-- a gap stays where what is kept means the same above 0
pub gap_along : (K L : ℤ → Type 0) (most gap : ℤ) → ((g : ℤ) → pos 1 ≤ℤ g → (L g ↔ K g)) → IsGap K most gap → IsGap L most gap
gap_along K L most gap means is = record {
  from = is.from;
  to = is.to;
  kept = by_size is.kept (int_cases gap);
  greatest = λ g some to h. is.greatest g some to ((means g some).0 h);
}
  where
    none : pos 0 ≤ℤ gap → gap ≤ℤ pos 0 → gap ≡ pos 0
    none h k = omega (arith, ints)

    by_size : (gap ≡ pos 0) ⊎ K gap → (pos 1 ≤ℤ gap) ⊎ (gap ≤ℤ pos 0) → (gap ≡ pos 0) ⊎ L gap
    by_size (inl e) size = inl e
    by_size (inr k) (inl some) = inr ((means gap some).1 k)
    by_size (inr k) (inr le) = inl (none is.from le)

-- the gap of two things, where that of the first limits that of the second
pub gap_both : (K L : ℤ → Type 0) (most low gap : ℤ) → Falls K → IsGap K most low → IsGap L low gap → IsGap (λ g. K g × L g) most gap
gap_both K L most low gap falls is own = record {
  from = own.from;
  to = along gap low most own.to is.to;
  kept = by own.kept is.kept;
  greatest = λ g some to h. own.greatest g some (is.greatest g some to h.0) h.1;
}
  where
    along : (a b c : ℤ) → a ≤ℤ b → b ≤ℤ c → a ≤ℤ c
    along a b c h k = omega (arith, ints)

    none : low ≡ pos 0 → pos 0 ≤ℤ gap → gap ≤ℤ low → gap ≡ pos 0
    none e h k = omega (arith, ints)

    by : (gap ≡ pos 0) ⊎ L gap → (low ≡ pos 0) ⊎ K low → (gap ≡ pos 0) ⊎ (K gap × L gap)
    by (inl e) k = inl e
    by (inr l) (inl e) = inl (none e own.from own.to)
    by (inr l) (inr k) = inr (falls.lesser gap low own.from own.to k, l)

pub above : (g : ℤ) → pos 1 ≤ℤ g → pos 0 <ℤ g
above g h = omega (arith, ints)

-- a limit and a gap that were passed from call to call
pub gap_passed : {K : ℤ → Type 0} (most gap : ℤ) → IsDistance most → IsGap K (passed most) gap → IsGap K most (passed gap)
gap_passed most gap range is = gap_same (d_kept most range.from range.to) (same most gap range.from range.to is.from is.to) is
  where
    same : (m g : ℤ) → pos 0 ≤ℤ m → m ≤ℤ pos 2000000000 → pos 0 ≤ℤ g → g ≤ℤ passed m → g ≡ passed g
    same m g h k l n = omega (arith, ints)
