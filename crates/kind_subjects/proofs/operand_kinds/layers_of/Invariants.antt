use Rattle.std.proofs.Common.{ℕ, IsTrue, ◌⊎◌, drop}
use Rattle.copper_layers.specs.Layers.{has_layer}
use Rattle.rule_pick.specs.FactsOf.{SomeOn}
use Rattle.kind_subjects.proofs.operand_kinds.layers_of.Given as goal

abbrev pub invariant-loop-part : goal.invariant-loop-part
invariant-loop-part l = (layer : ℕ) → SomeOn layer l.parts → IsTrue (has_layer l.layers layer) ⊎ SomeOn layer (drop l.part-index l.parts)
