use Rattle.std.proofs.Common.{◌≡◌, ◌∙◌, ap, sym, refl, ℕ, List, [], ◌++◌, length, append_assoc, Option, Some, unwrap_or}
use Rattle.std.specs.Option.{option_copied}
use Rattle.std.specs.List.{flat_map}
use Rattle.std.proofs.lemmas.Result.{err_from_is_err_and}
use denote.Ref.{Bor}
use Rattle.board_items.specs.Boards.{name_of}
use Rattle.drc_rows.specs.NetBlock.{net_line, group_line, link_line, net_block}
use Rattle.drc_rows.proofs.Lines.{Puts-then, Puts-cut, Puts-text}
use Rattle.drc_rows.proofs.net.push_net.Goals as goal

named_so : (found : Option (Bor (List ℕ))) (name : Bor (List ℕ)) (o : Option (List ℕ)) → found ≡ Some name → option_copied found ≡ o → name.now ≡ unwrap_or o []
named_so found name o is of =
    let some : o ≡ Some name.now = sym of ∙ ap option_copied is in
    sym (ap (λ (n : Option (List ℕ)). unwrap_or n []) some)

pub returns-in_err-push_head : goal.returns-in_err-push_head
unfolding net_block
returns-in_err-push_head g c =
    let p = err_from_is_err_and c.from_residual.result c.from_residual.ensures.1 in
    let board = c.args.board.now in
    let head = net_line (unwrap_or (name_of board c.args.net) []) (length c.args.groups.now) in
    let groups = flat_map (group_line board) c.args.groups.now in
    let links = flat_map (link_line board c.args.anchors.now) c.args.nest.now.links in
    let name = c.bytes.ensures.value ∙ named_so c.net_name.result c.unwrap-name.result _ c.unwrap-name.ensures c.net_name.ensures in
    let same : net_line c.bytes.result.now (length c.args.groups.now) ≡ head = ap (λ (n : List ℕ). net_line n (length c.args.groups.now)) name in
    Puts-cut _ _ _ _ _ head (groups ++ links) _ _ _ _ _ _ p.1 (append_assoc head groups links) (Puts-text _ _ _ _ _ _ _ _ _ same c.in_err-push_head.ensures)

pub returns-in_err-push_groups : goal.returns-in_err-push_groups
unfolding net_block
returns-in_err-push_groups g c =
    let p = err_from_is_err_and c.from_residual-in_err-push_groups.result c.from_residual-in_err-push_groups.ensures.1 in
    let board = c.args.board.now in
    let head = net_line (unwrap_or (name_of board c.args.net) []) (length c.args.groups.now) in
    let groups = flat_map (group_line board) c.args.groups.now in
    let links = flat_map (link_line board c.args.anchors.now) c.args.nest.now.links in
    let name = c.bytes.ensures.value ∙ named_so c.net_name.result c.unwrap-name.result _ c.unwrap-name.ensures c.net_name.ensures in
    let same : net_line c.bytes.result.now (length c.args.groups.now) ≡ head = ap (λ (n : List ℕ). net_line n (length c.args.groups.now)) name in
    Puts-cut _ _ _ _ _ (head ++ groups) links _ _ _ _ _ _ p.1 refl (Puts-then _ _ _ _ _ _ _ _ _ _ _ _ _ (Puts-text _ _ _ _ _ _ _ _ _ same c.in_ok-push_head.ensures) c.in_err-push_groups.ensures)

pub returns : goal.returns
unfolding net_block
returns g c =
    let board = c.args.board.now in
    let head = net_line (unwrap_or (name_of board c.args.net) []) (length c.args.groups.now) in
    let name = c.bytes.ensures.value ∙ named_so c.net_name.result c.unwrap-name.result _ c.unwrap-name.ensures c.net_name.ensures in
    let same : net_line c.bytes.result.now (length c.args.groups.now) ≡ head = ap (λ (n : List ℕ). net_line n (length c.args.groups.now)) name in
    let links = ap (flat_map (link_line board c.args.anchors.now)) c.as_slice.ensures in
    Puts-then _ _ _ _ _ _ _ _ _ _ _ _ _ (Puts-then _ _ _ _ _ _ _ _ _ _ _ _ _ (Puts-text _ _ _ _ _ _ _ _ _ same c.in_ok-push_head.ensures) c.in_ok-push_groups.ensures)
    (Puts-text _ _ _ _ _ _ _ _ _ links c.push_links.ensures)
