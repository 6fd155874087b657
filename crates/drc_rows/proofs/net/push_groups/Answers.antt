use Rattle.std.proofs.Common.{◌∙◌, ◌<◌, ℕ, List, length, All, sym, ap, subst, arith}
use Rattle.std.proofs.lemmas.Result.{err_from_is_err_and}
use Rattle.net_groups.specs.NetGroups.{HasItem}
use Rattle.drc_rows.specs.NetBlock.{group_line}
use Rattle.drc_rows.proofs.Lines.{flat_more_at, flat_rest_at, Puts-then, Puts-cut, Puts-text}
use Rattle.drc_rows.proofs.net.push_groups.Goals as goal

pub push_group-requires-clause-filled : goal.push_group-requires-clause-filled
push_group-requires-clause-filled g c =
    subst (λ (l : List ℕ). 0 < length l) (sym (c.members.ensures ∙ c.group-item.is)) (c.requires.filled c.loop-group.group-index c.group-item.result (omega arith))

pub push_group-requires-clause-placed : goal.push_group-requires-clause-placed
push_group-requires-clause-placed g c =
    subst (All (HasItem c.args.board.now)) (sym (c.members.ensures ∙ c.group-item.is)) (c.requires.placed c.loop-group.group-index c.group-item.result (omega arith))

pub returns-in_err-push_group : goal.returns-in_err-push_group
returns-in_err-push_group g c =
    let p = err_from_is_err_and c.from_residual.result c.from_residual.ensures.1 in
    let line = ap (group_line c.args.board.now) c.members.ensures in
    Puts-cut _ _ _ _ _ _ _ _ _ _ _ _ _ p.1 (flat_rest_at (group_line c.args.board.now) c.args.groups.now c.loop-group.group-index c.group-item.result (omega arith) c.group-item.is)
    (Puts-then _ _ _ _ _ _ _ _ _ _ _ _ _ c.loop-group.invariant (Puts-text _ _ _ _ _ _ _ _ _ line c.in_err-push_group.ensures))

pub loop-group-preserved : goal.loop-group-preserved
loop-group-preserved g c =
    let line = ap (group_line c.args.board.now) c.members.ensures in
    Puts-text _ _ _ _ _ _ _ _ _ (sym (flat_more_at (group_line c.args.board.now) c.args.groups.now c.loop-group.group-index c.group-item.result (omega arith) c.group-item.is))
    (Puts-then _ _ _ _ _ _ _ _ _ _ _ _ _ c.loop-group.invariant (Puts-text _ _ _ _ _ _ _ _ _ line c.in_ok-push_group.ensures))
