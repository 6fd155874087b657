use Rattle.std.proofs.Common.{◌∙◌, sym, subst, refl, ◌∷◌, All, List}
use Rattle.std.proofs.lemmas.List.Elements.{All-head, All-tail}
use Rattle.box_index.specs.declared.entry.Entry.{Entry}
use Rattle.row_check.proofs.BlockLists.{boxes_end, as_widened, block_less, behind_block}
use Rattle.row_check.proofs.TileEnds.{Fits, one_less, end_all}
use Rattle.row_check.proofs.tile.owned_from.Goals as goal

pub walk-preserved-then-is_far : goal.walk-preserved-then-is_far
walk-preserved-then-is_far c =
    let a = c.args in
    let i = c.walk.invariant in
    block_less 32 a.at.now.index.now a.at.now.tile a.first.now a.at.now.boxes.long.now a.others.now c.walk.left.now _ (behind_block 32 _ c.walk.left.now refl)
    (boxes_end a.at.now.boxes a.others.now i.prefix c.walk.left.now i.split c.requires.blocks).long (as_widened a.first.now a.at.now.index.now _ 32 _ _ c.widened-wide.ensures (c.is_far.ensures c.if-is_far.true)) i

pub walk-preserved-then-is_far-2 : goal.walk-preserved-then-is_far-2
walk-preserved-then-is_far-2 c =
    let a = c.args in
    let i = c.walk.invariant in
    block_less 4 a.at.now.index.now a.at.now.tile a.first.now a.at.now.boxes.short.now a.others.now c.walk.left.now _ (behind_block 4 _ c.walk.left.now refl)
    (boxes_end a.at.now.boxes a.others.now i.prefix c.walk.left.now i.split c.requires.blocks).short (as_widened a.first.now a.at.now.index.now _ 4 _ _ c.widened-wide.ensures (c.is_far-then-begins-2.ensures c.if-is_far-2.true)) i

pub is_owned-requires-clause-second : goal.is_owned-requires-clause-second
is_owned-requires-clause-second c =
    All-head Fits c.in-Some.second.now c.in-Some.rest.now
    (All-tail Fits c.args.first.now (c.in-Some.second.now ∷ c.in-Some.rest.now)
    (subst (λ (ys : List Entry). All Fits (c.args.first.now ∷ ys)) c.in-Some.ensures.cases.0
    (end_all c.args.at.now.index.now c.args.at.now.tile c.args.first.now c.args.others.now c.walk.left.now c.walk.invariant Fits c.requires.fits)))

pub walk-preserved : goal.walk-preserved
walk-preserved c =
    one_less c.args.at.now.index.now c.args.at.now.tile c.args.first.now c.args.others.now c.walk.left.now c.in-Some.rest.now c.in-Some.second.now c.in-Some.ensures.cases.0 (sym c.is_owned.ensures ∙ c.if-is_owned.false) c.walk.invariant
