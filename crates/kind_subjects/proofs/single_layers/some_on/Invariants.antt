use Rattle.std.proofs.Common.{ℕ, ◌<◌, ◌≡◌, false, get_or}
use Rattle.one_item.specs.declared.parts.Part.{Part}
use Rattle.copper_layers.specs.Layers.{has_layer}
use Rattle.kind_subjects.proofs.single_layers.some_on.Given as goal

abbrev pub invariant-loop-part : goal.invariant-loop-part
invariant-loop-part l = (k : ℕ) (d : Part) → k < l.part-index → has_layer (get_or l.parts k d).layers l.layer ≡ false
