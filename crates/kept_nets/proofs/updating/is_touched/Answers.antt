use Rattle.std.proofs.Common.{ap, ◌∙◌}
use Rattle.net_groups.specs.NetParts.{PlainNetPart}
use Rattle.board_laws.specs.Edits.{is_one_of}
use Rattle.kept_nets.proofs.Searched.{found_is}
use Rattle.kept_nets.proofs.updating.is_touched.Goals as goal

pub returns : goal.returns
returns c =
    c.is_ok.ensures.value ∙ (found_is c.args.nets.now c.part.inside.net c.binary_search.result c.binary_search.ensures.position c.requires
    ∙ ap (λ (part : PlainNetPart). is_one_of c.args.nets.now part.net) c.part.view_is)
