use Rattle.std.proofs.Common.{◌≡◌, ◌∙◌, ap}
use Rattle.board_items.proofs.Copies.{whole_copied, lists_of}
use Rattle.board_items.proofs.board.Board.copy.Goals as goal

pub invariant_of-result : goal.invariant_of-result
invariant_of-result c =
    let en : c.in_ok-names.names.entries ≡ c.self.inside.names.entries = c.in_ok-names.ensures ∙ c.as_slice-list.ensures.entries in
    let es : c.in_ok-slots.slots.items ≡ c.self.inside.slots.items = c.in_ok-slots.ensures ∙ c.deref-6.ensures.value in
    let em : c.in_ok-marks.marks.items ≡ c.self.inside.marks.items = c.in_ok-marks.ensures.items ∙ c.deref-3.ensures.value in
    let eo : c.in_ok-notes.notes.items ≡ c.self.inside.notes.items = c.in_ok-notes.ensures.items ∙ c.deref-4.ensures.value in
    let et : c.in_ok-tags.tags.items ≡ c.self.inside.tags.items = c.in_ok-tags.ensures.items ∙ c.deref.ensures.value in
    let eu : c.in_ok-units.units.items ≡ c.self.inside.units.items = c.in_ok-units.ensures.items ∙ c.deref-2.ensures.value in
    let el : lists_of c.in_ok-of_nets.of_nets.items ≡ lists_of c.self.inside.of_nets.items = c.in_ok-of_nets.ensures ∙ ap lists_of c.deref-5.ensures.value in
    whole_copied c.self.inside.copper c.self.inside.next_unit c.self.inside.live c.self.inside.in_order c.self.inside.names.entries _ c.self.inside.slots.items _ c.self.inside.marks.items _ c.self.inside.notes.items _ c.self.inside.tags.items _ c.self.inside.units.items _
    c.self.inside.of_nets.items _ c.self.invariant en es em eo et eu el
