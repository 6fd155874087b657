use Rattle.std.proofs.Common.{◌≡◌, ◌∙◌, ◌++◌, ap, subst, List, length, arith}
use Rattle.std.specs.Prelude.{Option, IfSome}
use Rattle.box_index.specs.declared.entry.Entry.{Entry}
use Rattle.box_index.specs.declared.kept.Sides.{Sides}
use Rattle.box_index.specs.Tiles.{without}
use Rattle.box_index.specs.Cuts.{IsCut}
use Rattle.box_index.specs.BoxSlots.{entries_of, far_entries, all_entries}
use Rattle.box_index.proofs.Buckets.{refilled}
use Rattle.box_index.proofs.FarLemmas.{near_without, behind_without, found_back, without_far}
use Rattle.box_index.proofs.kept.KeptBoxes.take_out.Goals as goal

pub invariant_of-self-else-id-len : goal.invariant_of-self-else-id-len
invariant_of-self-else-id-len c = (c.self.invariant.0, without_far _ c.args.id c.self.inside.far.entries c.take_far.new.far.entries c.take_far.ensures.entries c.self.invariant.1)

pub returns-then-id-len-clause-entries : goal.returns-then-id-len-clause-entries
returns-then-id-len-clause-entries c =
    let slots = c.self.inside.slots.items in
    let far = c.self.inside.far.entries in
    refilled (λ (now : List (Option Sides)). entries_of now ++ far_entries far ≡ without c.args.id c.args.self.now) c.self.inside.slots.len c.take.new.slots _ (c.take.auto.slots ∙ c.deref_mut.ensures.len)
    (ap (λ (es : List Entry). es ++ far_entries far) (c.take.ensures.entries ∙ ap (λ (row : List (Option Sides)). without c.args.id (entries_of row)) c.deref_mut.ensures.value)
    ∙ near_without c.args.id (length slots) (entries_of slots) far (omega (arith, c.if-id-len.true, c.len.ensures, c.self.inside.slots.ok.0)) c.self.invariant.1
    ∙ ap (without c.args.id) c.self.view_is)

pub returns-else-id-len-clause-entries : goal.returns-else-id-len-clause-entries
returns-else-id-len-clause-entries c =
    let slots = c.self.inside.slots.items in
    ap (λ (es : List Entry). entries_of slots ++ es) c.take_far.ensures.entries
    ∙ behind_without c.args.id slots (far_entries c.self.inside.far.entries) (omega (arith, c.if-id-len.false, c.len.ensures, c.self.inside.slots.ok.0))
    ∙ ap (without c.args.id) c.self.view_is

pub returns-else-id-len-clause-found : goal.returns-else-id-len-clause-found
returns-else-id-len-clause-found c =
    let slots = c.self.inside.slots.items in
    subst (λ (old : List Entry). IfSome c.take_far.result (λ e. IsCut old e (all_entries slots c.take_far.new.far.entries))) c.self.view_is
    (found_back c.take_far.result (entries_of slots) (far_entries c.self.inside.far.entries) (far_entries c.take_far.new.far.entries) c.take_far.ensures.found)
