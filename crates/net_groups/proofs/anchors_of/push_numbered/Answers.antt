use Rattle.std.proofs.Common.{inl, inr, refl, sym, ◌∙◌}
use Rattle.std.proofs.lemmas.Result.{on_ok_weaker}
use Rattle.net_groups.proofs.Anchoring.{added_own, added_none}
use Rattle.net_groups.proofs.anchors_of.push_numbered.Goals as goal

pub returns-in-Some-Some : goal.returns-in-Some-Some
returns-in-Some-Some c =
    on_ok_weaker c.push_own.result
    (λ added numbers is. added_own c.args.board.now.items numbers c.args.id c.in-Some-Some.group c.in-Some-Some.item.now (sym c.in-Some-Some.ensures.found) (is ∙ c.in-Some-Some.is-0) c.args.anchors.now.items _ added)
    c.push_own.ensures

pub returns-in_default : goal.returns-in_default
returns-in_default c = λ numbers is. added_none c.args.board.now.items numbers c.args.id c.args.anchors.now.items c.args.anchors.now.items refl (inr (sym c.in_default.ensures.found))

pub returns-in_default-2 : goal.returns-in_default-2
returns-in_default-2 c = λ numbers is. added_none c.args.board.now.items numbers c.args.id c.args.anchors.now.items c.args.anchors.now.items refl (inl (is ∙ c.in_default.is-0))
