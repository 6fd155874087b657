use Rattle.std.proofs.Common.{cond, nat_eq, take, get_or, Some, ◌∙◌, ap, arith}
use Rattle.std.proofs.lemmas.List.{take_more, length-set}
use Rattle.net_groups.specs.Numbering.{number_of}
use Rattle.net_groups.proofs.Beside.{number_set}
use Rattle.net_groups.proofs.Numbers.{entered_next}
use Rattle.net_groups.proofs.numbering.enter.Goals as goal

pub loop-id-preserved : goal.loop-id-preserved
loop-id-preserved c =
    let ids = c.args.ids.now in
    let members = c.args.members.now in
    let k = c.loop-id.id-index in
    let numbers = c.loop-id.numbers in
    let place = c.place_of-place.result in
    record {
      many = length-set numbers place (Some c.args.number) ∙ c.loop-id.invariant.many;
      entered = entered_next (take k members) _ c.args.number _ (number_of ids numbers) (number_of ids _) (get_or members k 0) (take_more members k 0 (omega arith)) c.loop-id.invariant.entered
          (λ id. number_set ids c.requires.rises numbers c.loop-id.invariant.many place c.place_of-place.ensures.within (Some c.args.number) id
          ∙ ap (λ own. cond (nat_eq own id) (Some c.args.number) (number_of ids numbers id)) c.place_of-place.ensures.is);
    }
