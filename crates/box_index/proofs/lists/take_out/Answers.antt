use Rattle.std.proofs.Common.{◌∙◌, ◌<◌, length, ap, arith}
use Rattle.std.proofs.lemmas.List.{get_or_read}
use Rattle.box_index.specs.declared.entry.Entry.{Entry}
use Rattle.box_index.proofs.EntryLists.{removed_at, absent_at, none_at, same_place}
use Rattle.box_index.proofs.lists.take_out.Goals as goal
use Rattle.box_index.proofs.lists.take_out.Goals.{else-place-len-via-then-place-len+else-index-id, else-place-len-via-else-place-len}

pub returns-then-index-id : goal.returns-then-index-id
returns-then-index-id c =
    let same = c.deref.ensures.value in
    let l : c.place_of-place.result < length c.args.entries.now.items = omega (arith, c.deref.ensures.len, ap length same) in
    c.remove.ensures.items
    ∙ removed_at c.args.id c.args.entries.now.items c.place_of-place.result c.remove.result
    (record { below = rw same at c.place_of-place.ensures.below; from = rw same at c.place_of-place.ensures.from })
    c.requires l c.remove.ensures.value (same_place c.args.entries.now.items c.place_of-place.result _ _ l c.remove.ensures.value c.index.ensures ∙ c.if-index-id.true)

pub returns-else-place-len : goal.returns-else-place-len
returns-else-place-len c =
    let same = c.deref.ensures.value in
    none_at c.args.id c.args.entries.now.items (absent_at c.args.id c.args.entries.now.items c.place_of-place.result
    (record { below = rw same at c.place_of-place.ensures.below; from = rw same at c.place_of-place.ensures.from })
    c.requires
    (elim c.else-place-len.branch [ else-place-len-via-then-place-len+else-index-id w ↦ λ d l e. w.if-index-id.false (ap (λ (v : Entry). v.id) (get_or_read c.args.entries.now.items c.place_of-place.result _ l w.index.ensures d) ∙ e) | else-place-len-via-else-place-len w ↦ λ d l e. absurd (omega (arith, c.deref.ensures.len, ap length same)) ]))
