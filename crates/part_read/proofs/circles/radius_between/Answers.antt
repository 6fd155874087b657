use Rattle.std.proofs.Common.{◌≡◌, ◌∙◌, ap, ℕ, pos, ◌≤◌, w64, to_z, arith}
use Rattle.std.proofs.lemmas.Int.{ints}
use Rattle.part_read.specs.Circles.{root, radius_between}
use Rattle.part_read.proofs.circles.radius_between.Goals as goal

small : (n : ℕ) → n ≤ 3000000000000 → to_z w64 n ≡ pos n
small n h = omega (arith, ints)

pub returns-clause-value : goal.returns-clause-value
unfolding radius_between
returns-clause-value c =
    small c.root.result c.root.ensures.most ∙ ap (λ (n : ℕ). pos n) (c.root.ensures.value ∙ ap root c.square_between.ensures.value)
