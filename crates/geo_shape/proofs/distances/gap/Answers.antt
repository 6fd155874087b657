use Rattle.std.proofs.Common.{◌≡◌, ◌⊎◌, ◌∙◌, ℤ, pos, ◌+ℤ◌, ◌*ℤ◌, ◌≤ℤ◌, refl, ap, subst, arith}
use Rattle.std.proofs.lemmas.Int.{ints}
use Rattle.int_algebra.proofs.Scalars.{passed}
use Rattle.geo_seg.proofs.Passed.{d_kept}
use Rattle.geo_seg.proofs.GapLemmas.{gap_same}
use Rattle.geo_shape.proofs.Numbers.{doubled, gap_of_cores, sum_kept, below_kept}
use Rattle.geo_shape.proofs.distances.gap.Goals as goal

pub returns : goal.returns
returns c =
    let a = c.args.a.now in let b = c.args.b.now in let below = c.args.below in let r = a.radius +ℤ b.radius in
    let is = c.cores_gap-kept.ensures in let kept = c.cores_gap-kept.result in let gap = c.half_beyond.result in
    let most = d_kept c.reach.result c.reach.ensures.range.from c.reach.ensures.range.to ∙ (c.reach.ensures.value ∙ ap (λ (z : ℤ). r +ℤ z) (doubled below c.requires.from c.requires.to)) in
    let radii = passed (passed a.radius +ℤ passed b.radius) in let same_radii : radii ≡ r = sum_kept a.radius b.radius a.radius_from a.radius_to b.radius_from b.radius_to in
    let same_kept : passed kept ≡ kept = below_kept c.reach.result kept c.reach.ensures.range.from c.reach.ensures.range.to is.from is.to in
    let half =
    subst (λ (z : ℤ). ((gap ≡ pos 0) ⊎ (z +ℤ pos 2 *ℤ gap) ≤ℤ kept)) same_radii
    (subst (λ (z : ℤ). ((gap ≡ pos 0) ⊎ (radii +ℤ pos 2 *ℤ gap) ≤ℤ z)) same_kept c.half_beyond.ensures.kept) in
    let greatest =
    subst (λ (z : ℤ). (g : ℤ) → pos 1 ≤ℤ g → (z +ℤ pos 2 *ℤ g) ≤ℤ kept → g ≤ℤ gap) same_radii
    (subst (λ (z : ℤ). (g : ℤ) → pos 1 ≤ℤ g → (radii +ℤ pos 2 *ℤ g) ≤ℤ z → g ≤ℤ gap) same_kept c.half_beyond.ensures.greatest) in
    let found = gap_of_cores a b below _ kept gap c.requires.from most is c.half_beyond.ensures.from half greatest in
    let same_gap : gap ≡ passed gap = omega (arith, ints, found.from, found.to, c.requires.from, c.requires.to) in
    gap_same refl same_gap found
