use Rattle.std.proofs.Common.{◌∙◌, ap}
use Rattle.std.proofs.lemmas.List.{get_or_default}
use Rattle.sexpr_read.specs.ByteClasses.{class_of, sign_of}
use Rattle.sexpr_read.proofs.bytes.sign_at.Goals as goal

pub returns : goal.returns
unfolding sign_of
returns c = c.class_of.ensures ∙ ap class_of (get_or_default c.args.text.now c.args.at 0 32 c.requires)
