use Rattle.std.proofs.Common.{◌≡◌, ap, sym, subst, ◌∙◌, ℕ, suc, ◌+◌, ◌<◌, ◌≤◌, List, ◌∷◌, drop, length, get_or, arith}
use Rattle.std.proofs.Math.Seq.{drop-cons}
use Rattle.std.proofs.Math.ListN.{drop_of_length-le}
use Rattle.box_index.specs.Tiles.{PlainIndex}
use Rattle.one_item.specs.declared.item.Item.{Item}
use Rattle.board_items.specs.Boards.{marks_of}
use Rattle.item_facts.proofs.Marked.{AreMarked, none_marked, is_absent, none_there, more_marked, all_marked}
use Rattle.item_facts.proofs.near.index_marks.Goals as goal
use Rattle.item_facts.proofs.near.index_marks.Goals.{in-Some+in_ok-put_mark, in_default}

-- the id that is asked, and those behind it
here : (ids marks : List ℕ) (i : ℕ) → ids ≡ marks → i < length ids → drop i marks ≡ get_or ids i 0 ∷ drop (i + 1) marks
here ids marks i same lt =
    ap (drop i) (sym same) ∙ drop-cons ids i 0 lt ∙ ap (λ (j : ℕ). get_or ids i 0 ∷ drop j ids) (plus-one i) ∙ ap (λ (l : List ℕ). get_or ids i 0 ∷ drop (i + 1) l) same
  where
    plus-one : (n : ℕ) → suc n ≡ n + 1
    plus-one n = omega arith

at_id : (items : List (ℕ × Item)) (ids : List ℕ) (i : ℕ) (index : PlainIndex) → ids ≡ marks_of items → i < length ids
    → AreMarked items (drop i (marks_of items)) index → AreMarked items (get_or ids i 0 ∷ drop (i + 1) (marks_of items)) index
at_id items ids i index same lt h = subst (λ (left : List ℕ). AreMarked items left index) (here ids (marks_of items) i same lt) h

pub loop-id-init : goal.loop-id-init
loop-id-init c = none_marked c.args.board.now.next_id c.args.board.now.items c.in_ok-index.index c.soundness.ensures.sound.ids (ap (λ (i : PlainIndex). i.entries) c.in_ok-index.ensures)

pub put_mark-requires : goal.put_mark-requires
put_mark-requires c =
    let items = c.args.board.now.items in
    let ids = c.marks-id-items.result.now in
    is_absent items (get_or ids c.loop-id.id-index 0) (drop (c.loop-id.id-index + 1) (marks_of items)) c.loop-id.index
    (at_id items ids c.loop-id.id-index c.loop-id.index c.marks-id-items.ensures c.loop-id-test.true c.loop-id.invariant)

pub loop-id-preserved : goal.loop-id-preserved
loop-id-preserved c =
    let items = c.args.board.now.items in
    let ids = c.marks-id-items.result.now in
    let id = get_or ids c.loop-id.id-index 0 in
    let left = drop (c.loop-id.id-index + 1) (marks_of items) in
    let so_far = at_id items ids c.loop-id.id-index c.loop-id.index c.marks-id-items.ensures c.loop-id-test.true c.loop-id.invariant in
    elim c.match-get.branch [
      | in-Some+in_ok-put_mark w ↦ subst (λ (index : PlainIndex). AreMarked items left index) (sym w.index-is) (more_marked items id left c.loop-id.index so_far w.in-Some.item.now (sym w.in-Some.ensures.found) w.put_mark.new.index w.in_ok-put_mark.ensures)
      | in_default w ↦ subst (λ (index : PlainIndex). AreMarked items left index) (sym w.index-is) (none_there items id left c.loop-id.index so_far (sym w.in_default.ensures.found))
    ]

pub returns : goal.returns
returns c =
    let items = c.args.board.now.items in
    all_marked items c.loop-id.index
    (subst (λ (left : List ℕ). AreMarked items left c.loop-id.index) (drop_of_length-le (marks_of items) {i = c.loop-id.id-index} (subst (λ (ids : List ℕ). length ids ≤ c.loop-id.id-index) c.marks-id-items.ensures c.loop-id-test.false)) c.loop-id.invariant)
