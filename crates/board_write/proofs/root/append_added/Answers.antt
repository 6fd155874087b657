use Rattle.std.proofs.Common.{◌≡◌, ◌∙◌, ◌+◌, sym, ap, subst, List, ◌∷◌, drop}
use Rattle.std.proofs.lemmas.List.{drop_more}
use Rattle.board_write.specs.declared.edit_state.AddedList.{AddedList}
use Rattle.board_write.specs.Dispositions.{IsAlone}
use Rattle.board_write.proofs.Editing.{past_added}
use Rattle.board_write.proofs.root.append_added.Goals as goal

pub append_one-requires : goal.append_one-requires
append_one-requires c = subst IsAlone (sym c.one-item.is) (c.requires c.loop-one.one-index c.one-item.result c.loop-one-test.true)

pub loop-one-preserved : goal.loop-one-preserved
loop-one-preserved c =
    let i = c.loop-one.one-index in
    let later : List AddedList = drop (i + 1) c.args.added.now in
    let steps : drop i c.args.added.now ≡ c.one-item.result ∷ later = drop_more c.args.added.now i c.one-item.result c.loop-one-test.true ∙ ap (λ (x : AddedList). x ∷ later) (sym c.one-item.is) in
    past_added c.args.marks.now c.one-item.result (drop i c.args.added.now) later _ _ _ steps c.loop-one.invariant c.in_ok-append_one.ensures
