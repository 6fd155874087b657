use Rattle.std.proofs.Common.{◌∙◌, ap, sym, subst, set, Option}
use Rattle.geo_seg.specs.declared.boxes.Bounds.{Bounds}
use Rattle.box_index.specs.declared.kept.Sides.{Sides}
use Rattle.box_index.specs.Cuts.{IsCut}
use Rattle.box_index.specs.BoxSlots.{entry_of, entries_of}
use Rattle.box_index.proofs.KeptLemmas.{take_slot, cut_slot, none_slot}
use Rattle.box_index.proofs.kept.take.Goals as goal

pub returns-in-Some-clause-entries : goal.returns-in-Some-clause-entries
returns-in-Some-clause-entries c = ap (λ (slot : Option Sides). entries_of (set c.args.slots.now c.args.id slot)) c.take.ensures.after ∙ take_slot c.args.id c.args.slots.now

pub returns-in-Some-clause-found : goal.returns-in-Some-clause-found
returns-in-Some-clause-found c =
    let slots = c.args.slots.now in
    let id = c.args.id in
    subst (λ (b : Bounds). IsCut (entries_of slots) (record { id = id; bounds = b }) (entries_of (set slots id c.take.new.self))) (sym c.bounds.ensures)
    (subst (λ (slot : Option Sides). IsCut (entries_of slots) (entry_of id c.in-Some.sides) (entries_of (set slots id slot))) (sym c.take.ensures.after)
    (cut_slot id c.in-Some.sides slots _ c.requires (sym c.in-Some.ensures.value)))

pub returns-in-None-clause-entries : goal.returns-in-None-clause-entries
returns-in-None-clause-entries c = ap (λ (slot : Option Sides). entries_of (set c.args.slots.now c.args.id slot)) c.take.ensures.after ∙ take_slot c.args.id c.args.slots.now

pub returns-in-None-clause-none : goal.returns-in-None-clause-none
returns-in-None-clause-none c =
    ap (λ (slot : Option Sides). entries_of (set c.args.slots.now c.args.id slot)) c.take.ensures.after ∙ none_slot c.args.id c.args.slots.now _ (sym c.in-None.ensures.value)
