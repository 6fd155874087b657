use Rattle.std.proofs.Common.{◌≡◌, sym, subst, ℤ, pos, ◌≤ℤ◌}
use Rattle.sexpr_read.specs.TreeViews.{tree_of}
use Rattle.int_algebra.proofs.Scalars.{passed}
use Rattle.part_read.proofs.Reach.{size_within}
use Rattle.std.proofs.Common.{arith}
use Rattle.std.proofs.lemmas.Int.{ints}
use Rattle.part_read.proofs.drawings.width_among.Goals as goal

clean : (z : ℤ) → pos 0 ≤ℤ z → z ≤ℤ pos 1000000000000 → passed z ≡ z
clean z h k = omega (arith, ints)

pub returns-in_ok-width-in-Some-clause-from : goal.returns-in_ok-width-in-Some-clause-from
returns-in_ok-width-in-Some-clause-from c =
    let range = size_within (tree_of c.in-Some.list) c.in_ok-width-in-Some.width (sym c.in_ok-width-in-Some.ensures) in
    subst (λ (z : ℤ). pos 0 ≤ℤ z) (sym (clean c.in_ok-width-in-Some.width range.0 range.1)) range.0

pub returns-in_ok-width-in-Some-clause-to : goal.returns-in_ok-width-in-Some-clause-to
returns-in_ok-width-in-Some-clause-to c =
    let range = size_within (tree_of c.in-Some.list) c.in_ok-width-in-Some.width (sym c.in_ok-width-in-Some.ensures) in
    subst (λ (z : ℤ). z ≤ℤ pos 1000000000000) (sym (clean c.in_ok-width-in-Some.width range.0 range.1)) range.1
