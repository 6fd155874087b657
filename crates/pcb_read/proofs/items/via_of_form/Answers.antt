use Rattle.std.proofs.Common.{◌∙◌, w64, rules}
use mir.Val.{SFits}
use Rattle.part_read.proofs.Shapes.{clean}
use Rattle.pcb_read.specs.Tracks.{no_length}
use Rattle.pcb_read.proofs.Making.{via_from, via_ranges, via_admitted}
use Rattle.pcb_read.proofs.items.via_of_form.Goals as goal

pub invariant_of-result : goal.invariant_of-result
invariant_of-result c =
    let form = c.args.form.now in
    let fit_size : SFits w64 form.size = search rules in
    let fit_drill : SFits w64 c.unwrap_or.result = search rules in
    let some = rw (clean form.size fit_size) at c.in_ok-shape.ensures in
    record {
      local_in_range = no_length;
      what_in_range = via_ranges form c.args.origin.layers c.in_ok-shape.shape c.in_ok-hole.hole _ _ (clean form.size fit_size)
          (clean c.unwrap_or.result fit_drill ∙ c.unwrap_or.ensures) some c.in_ok-hole.ensures;
    }

pub returns-clause-item : goal.returns-clause-item
returns-clause-item c =
    let form = c.args.form.now in
    let fit_x : SFits w64 form.at.x = search rules in
    let fit_y : SFits w64 form.at.y = search rules in
    let fit_size : SFits w64 form.size = search rules in
    let fit_drill : SFits w64 c.unwrap_or.result = search rules in
    let some = rw (clean form.size fit_size) at c.in_ok-shape.ensures in
    via_from form c.args.origin c.in_ok-shape.shape _ _ _ _ _ c.in_ok-hole.hole _ _ (clean form.at.x fit_x) (clean form.at.y fit_y) (clean form.size fit_size)
    (clean c.unwrap_or.result fit_drill ∙ c.unwrap_or.ensures) c.one_part.ensures some c.in_ok-hole.ensures

pub returns-clause-admitted : goal.returns-clause-admitted
returns-clause-admitted c board declared on =
    let form = c.args.form.now in
    let fit_x : SFits w64 form.at.x = search rules in
    let fit_y : SFits w64 form.at.y = search rules in
    let fit_size : SFits w64 form.size = search rules in
    let some = rw (clean form.size fit_size) at c.in_ok-shape.ensures in
    via_admitted board form c.args.origin.net c.args.origin.layers c.in_ok-shape.shape c.in_ok-hole.hole _ _ _
    (clean form.at.x fit_x) (clean form.at.y fit_y) c.one_part.ensures some c.in_ok-hole.ensures declared on
