use Rattle.std.proofs.Common.{◌≡◌, ◌∙◌, ap, sym, subst, refl, ◌++◌, append_assoc, codes, decimal}
use Rattle.std.proofs.lemmas.Result.{err_from_is_err_and}
use Rattle.ratsnest.specs.declared.anchor.Anchor.{Anchor}
use Rattle.ratsnest.specs.NestOf.{nowhere, anchor_at}
use Rattle.net_groups.specs.NetGroups.{HasItem}
use Rattle.drc_rows.specs.NetBlock.{ends_text, link_line}
use Rattle.drc_rows.proofs.Lines.{Puts-then, Puts-cut, Puts-text}
use Rattle.drc_rows.proofs.net.push_link.Goals as goal

pub push_ends-requires-clause-first : goal.push_ends-requires-clause-first
push_ends-requires-clause-first g c =
    subst (λ (a : Anchor). HasItem c.args.board.now a.id) (sym c.anchor_at-first.ensures) (c.requires.anchors c.args.link.first nowhere c.requires.places.0)

pub push_ends-requires-clause-second : goal.push_ends-requires-clause-second
push_ends-requires-clause-second g c =
    subst (λ (a : Anchor). HasItem c.args.board.now a.id) (sym c.anchor_at-second.ensures) (c.requires.anchors c.args.link.second nowhere c.requires.places.1)

pub returns-in_err-push_number : goal.returns-in_err-push_number
unfolding link_line
returns-in_err-push_number g c =
    let p = err_from_is_err_and c.from_residual.result c.from_residual.ensures.1 in
    let anchors = c.args.anchors.now in
    let square = codes "link " ++ decimal c.args.link.square ++ codes ": " in
    let ends = ends_text c.args.board.now (anchor_at anchors c.args.link.first) (anchor_at anchors c.args.link.second) in
    Puts-cut _ _ _ _ _ square (ends ++ codes "\n") _ _ _ _ _ _ p.1 (append_assoc square ends (codes "\n")) c.in_err-push_number.ensures

pub returns-in_err-push_ends : goal.returns-in_err-push_ends
unfolding link_line
returns-in_err-push_ends g c =
    let p = err_from_is_err_and c.from_residual-in_err-push_ends.result c.from_residual-in_err-push_ends.ensures.1 in
    let board = c.args.board.now in
    let anchors = c.args.anchors.now in
    let square = codes "link " ++ decimal c.args.link.square ++ codes ": " in
    let ends = ends_text board (anchor_at anchors c.args.link.first) (anchor_at anchors c.args.link.second) in
    let same : ends_text board c.anchor_at-first.result c.anchor_at-second.result ≡ ends =
    ap (λ (a : Anchor). ends_text board a c.anchor_at-second.result) c.anchor_at-first.ensures ∙ ap (ends_text board (anchor_at anchors c.args.link.first)) c.anchor_at-second.ensures in
    Puts-cut _ _ _ _ _ (square ++ ends) (codes "\n") _ _ _ _ _ _ p.1 refl
    (Puts-then _ _ _ _ _ _ _ _ _ _ _ _ _ c.in_ok-push_number.ensures (Puts-text _ _ _ _ _ _ _ _ _ same c.in_err-push_ends.ensures))

pub returns : goal.returns
unfolding link_line
returns g c =
    let board = c.args.board.now in
    let anchors = c.args.anchors.now in
    let same : ends_text board c.anchor_at-first.result c.anchor_at-second.result ≡ ends_text board (anchor_at anchors c.args.link.first) (anchor_at anchors c.args.link.second) =
    ap (λ (a : Anchor). ends_text board a c.anchor_at-second.result) c.anchor_at-first.ensures ∙ ap (ends_text board (anchor_at anchors c.args.link.first)) c.anchor_at-second.ensures in
    Puts-then _ _ _ _ _ _ _ _ _ _ _ _ _ (Puts-then _ _ _ _ _ _ _ _ _ _ _ _ _ c.in_ok-push_number.ensures (Puts-text _ _ _ _ _ _ _ _ _ same c.in_ok-push_ends.ensures)) c.push.ensures
