use Rattle.std.proofs.Common.{length, ◌≡◌}
use Rattle.json_exact.specs.Json.{curly, member, first_named}
use Rattle.json_exact.specs.ByteComparisons.{same_bytes}
use Rattle.json_exact.specs.Handles.{json_of}
use Rattle.json_exact.specs.JsonCells.{all_parts}
use Rattle.json_exact.specs.CellTexts.{AreTexts}
use Rattle.json_exact.proofs.handles.Value.get.Given as goal

abbrev pub invariant-members : goal.invariant-members
invariant-members l = record {
  left : member (λ text. same_bytes text l.name) (json_of l.self) ≡ first_named (λ text. same_bytes text l.name) (all_parts l.self.text.now curly l.rest);
  texts : AreTexts l.self.text.now l.rest;
}

abbrev pub decreases-members : goal.decreases-members
decreases-members l = length l.rest
