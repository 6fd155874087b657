use Rattle.std.proofs.Common.{refl, arith}
use Rattle.std.proofs.lemmas.Int.{ints}
use Rattle.geo_seg.proofs.Choices.{or_first, or_second}
use Rattle.geo_poly.proofs.RunLemmas.{is_left_of, is_above, is_below}
use Rattle.geo_poly.proofs.besides.is_beside.Goals as goal

pub overflow_sub-near-else-b-near : goal.overflow_sub-near-else-b-near
overflow_sub-near-else-b-near c = omega (arith, ints, c.requires.second.top, c.requires.second.high, c.requires.second.bottom, c.requires.range.from, c.requires.range.to)

pub returns-then-b-near : goal.returns-then-b-near
returns-then-b-near c = or_first _ _ (is_left_of c.args.b c.args.near c.args.d c.requires.first c.requires.second c.requires.range) c.if-b-near.true refl

pub returns-then-b-near-2 : goal.returns-then-b-near-2
returns-then-b-near-2 c =
    or_second _ _ _ (is_left_of c.args.b c.args.near c.args.d c.requires.first c.requires.second c.requires.range)
    (or_first _ _ (is_above c.args.b c.args.near c.args.d c.requires.first c.requires.second c.requires.range) c.if-b-near-2.true refl) c.if-b-near.false refl

pub returns-else-b-near-2 : goal.returns-else-b-near-2
returns-else-b-near-2 c =
    or_second _ _ _ (is_left_of c.args.b c.args.near c.args.d c.requires.first c.requires.second c.requires.range)
    (or_second _ _ _ (is_above c.args.b c.args.near c.args.d c.requires.first c.requires.second c.requires.range)
    (is_below c.args.b c.args.near c.args.d c.requires.first c.requires.second c.requires.range) c.if-b-near-2.false refl) c.if-b-near.false refl
