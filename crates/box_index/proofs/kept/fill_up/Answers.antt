use Rattle.std.proofs.Common.{◌∙◌, ap, length, Option, arith}
use Rattle.std.proofs.lemmas.List.{length-append}
use Rattle.box_index.specs.declared.kept.Sides.{Sides}
use Rattle.box_index.specs.BoxSlots.{entries_of}
use Rattle.box_index.proofs.KeptLemmas.{still}
use Rattle.box_index.proofs.kept.fill_up.Goals as goal

pub fill-preserved : goal.fill-preserved
fill-preserved c = (
  ap entries_of c.in_ok-push.ensures.items ∙ still c.fill.slots.items ∙ c.fill.invariant.0,
  λ bound l m. let long = ap length c.in_ok-push.ensures.items in omega (arith, long, length-append {A = Option Sides}),
)
