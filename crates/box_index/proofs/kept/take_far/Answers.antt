use Rattle.std.proofs.Common.{◌∙◌, ap, sym, subst, ℕ, List}
use Rattle.geo_seg.specs.declared.boxes.Bounds.{Bounds}
use Rattle.box_index.specs.declared.kept.Sides.{Sides}
use Rattle.box_index.specs.Cuts.{IsCut}
use Rattle.box_index.specs.BoxSlots.{entry_of, far_entries}
use Rattle.box_index.proofs.FarLemmas.{far_without, far_cut}
use Rattle.box_index.proofs.kept.take_far.Goals as goal

pub returns-in-Some-clause-entries : goal.returns-in-Some-clause-entries
returns-in-Some-clause-entries c = ap far_entries c.remove.ensures.entries ∙ far_without c.args.id c.args.far.now.entries c.requires

pub returns-in-Some-clause-found : goal.returns-in-Some-clause-found
returns-in-Some-clause-found c =
    let far = c.args.far.now.entries in
    let id = c.args.id in
    subst (λ (b : Bounds). IsCut (far_entries far) (record { id = id; bounds = b }) (far_entries c.remove.new.self.entries)) (sym c.bounds.ensures)
    (subst (λ (now : List (ℕ × Sides)). IsCut (far_entries far) (entry_of id c.in-Some.sides) (far_entries now)) (sym c.remove.ensures.entries) (far_cut id c.in-Some.sides far (sym c.in-Some.ensures.value)))

pub returns-in-None-clause-entries : goal.returns-in-None-clause-entries
returns-in-None-clause-entries c = ap far_entries c.remove.ensures.entries ∙ far_without c.args.id c.args.far.now.entries c.requires
