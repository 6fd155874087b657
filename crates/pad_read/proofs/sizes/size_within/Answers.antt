use Rattle.std.proofs.Common.{◌≡◌, sym, subst, ℤ, pos, ◌≤ℤ◌, arith}
use Rattle.std.proofs.lemmas.Int.{ints}
use Rattle.sexpr_read.specs.TreeViews.{tree_of}
use Rattle.int_algebra.proofs.Scalars.{passed}
use Rattle.part_read.proofs.Reach.{size_in_range}
use Rattle.pad_read.proofs.sizes.size_within.Goals as goal

clean : (z : ℤ) → pos 0 ≤ℤ z → z ≤ℤ pos 1000000000000 → passed z ≡ z
clean z h k = omega (arith, ints)

pub returns-clause-from : goal.returns-clause-from
returns-clause-from c =
    let range = size_in_range (tree_of c.args.atom) c.in_ok-size.size (sym c.in_ok-size.ensures) in
    subst (λ (z : ℤ). pos 0 ≤ℤ z) (sym (clean c.in_ok-size.size range.0 range.1)) range.0

pub returns-clause-to : goal.returns-clause-to
returns-clause-to c =
    let range = size_in_range (tree_of c.args.atom) c.in_ok-size.size (sym c.in_ok-size.ensures) in
    subst (λ (z : ℤ). z ≤ℤ pos 1000000000000) (sym (clean c.in_ok-size.size range.0 range.1)) range.1
