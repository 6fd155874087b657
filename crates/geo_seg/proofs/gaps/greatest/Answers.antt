use Rattle.std.proofs.Common.{◌≡◌, true, arith}
use Rattle.std.proofs.lemmas.Int.{ints, by_lt_z}
use Rattle.int_algebra.proofs.Scalars.{passed}
use Rattle.geo_seg.proofs.gaps.greatest.Goals as goal

pub halves-preserved : goal.halves-preserved
halves-preserved c =
    let so_far = c.halves.invariant in
    record {
      ordered = omega arith;
      within = omega arith;
      kept = so_far.kept;
      none_above = λ g some to far.
          by_lt_z g (passed c.from.result) (λ less. omega (arith, ints)) (λ more. let kept : c.keeps.result ≡ true = c.keeps.ensures.greater g more far in absurd cc);
    }
