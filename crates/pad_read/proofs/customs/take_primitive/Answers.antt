use Rattle.std.proofs.Common.{◌≡◌, subst, Ok, Option}
use Rattle.sexpr_read.specs.TreeViews.{tree_of}
use Rattle.part_read.specs.declared.drawings.GraphicKind.{GraphicKind}
use Rattle.pad_read.specs.CustomPads.{primitive_by, primitive_kind}
use Rattle.pad_read.proofs.Gathering.{taken}
use Rattle.pad_read.proofs.customs.take_primitive.Goals as goal

pub returns-clause-taken : goal.returns-clause-taken
returns-clause-taken c rest =
    let pad = tree_of c.args.pad in
    let t = tree_of c.args.part in
    let made : primitive_by pad t (primitive_kind t) ≡ Ok c.in_ok-more.more.items =
    subst (λ (k : Option GraphicKind). primitive_by pad t k ≡ Ok c.in_ok-more.more.items) c.primitive_kind.ensures c.in_ok-more.ensures.drawings in
    taken pad t rest c.args.drawings.now.items c.in_ok-more.more.items _ made c.in_ok-append_all.ensures
