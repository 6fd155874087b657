use Rattle.std.proofs.Common.{refl, arith}
use Rattle.std.proofs.lemmas.Simd.{length-chunk, zip2_splat}
use lib.Lanes.{chunk}
use Rattle.sexpr_read.specs.ByteClasses.{class_of, is_word}
use Rattle.sexpr_read.proofs.LaneRuns.{at_most, each_passes}
use Rattle.sexpr_read.proofs.byte_lanes.word_bytes.Goals as goal

pub returns-clause-within : goal.returns-clause-within
returns-clause-within c =
    let v = chunk c.args.at 16 c.args.text.now in
    let long = length-chunk c.args.at 16 c.args.text.now c.requires in
    at_most is_word c.args.text.now c.args.at 16 _ _ c.requires (omega arith) c.type_inv.text c.before_first.ensures _ (zip2_splat _ v 16 41 long)

pub returns-clause-each : goal.returns-clause-each
unfolding class_of
returns-clause-each c =
    let v = chunk c.args.at 16 c.args.text.now in
    let long = length-chunk c.args.at 16 c.args.text.now c.requires in
    each_passes is_word c.args.text.now c.args.at 16 _ _ c.requires (omega arith) c.type_inv.text c.before_first.ensures _ (zip2_splat _ v 16 41 long) refl
