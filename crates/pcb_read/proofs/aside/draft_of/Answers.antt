use Rattle.std.proofs.Common.{◌∙◌, ap, sym, subst, Option, Some, IfSome}
use Rattle.sexpr_read.specs.TreeViews.{tree_of}
use Rattle.pcb_read.specs.declared.drafts.Draft.{Draft}
use Rattle.pcb_read.specs.declared.sorts.Sort.{Sort}
use Rattle.pcb_read.specs.Drafts.{IsDraft}
use Rattle.pcb_read.proofs.Drafting.{track_found, via_found}
use Rattle.pcb_read.proofs.aside.draft_of.Goals as goal

pub returns-in-Some-Track : goal.returns-in-Some-Track
returns-in-Some-Track c =
    let tree = tree_of c.args.node in
    subst (λ (found : Option Draft). IfSome found (IsDraft c.args.copper tree)) (sym c.ok.ensures.value)
    (track_found tree c.args.copper c.track_draft.result (sym c.sort_of.ensures ∙ c.in-Some-Track.is ∙ ap (λ (s : Sort). Some s) c.in-Some-Track.field-0-is) c.track_draft.ensures.read c.track_draft.ensures.on)

pub returns-in-Some-Via : goal.returns-in-Some-Via
returns-in-Some-Via c =
    let tree = tree_of c.args.node in
    subst (λ (found : Option Draft). IfSome found (IsDraft c.args.copper tree)) (sym c.ok-in-Some-Via.ensures.value)
    (via_found tree c.args.copper c.via_draft.result (sym c.sort_of.ensures ∙ c.in-Some-Via.is ∙ ap (λ (s : Sort). Some s) c.in-Some-Via.field-0-is) c.via_draft.ensures.read c.via_draft.ensures.on)
