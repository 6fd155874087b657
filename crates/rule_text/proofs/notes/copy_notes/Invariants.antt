use Rattle.std.proofs.Common.{◌≡◌, map, drop, ◌++◌}
use Rattle.rule_text.specs.RuleValues.{plain_note}
use Rattle.rule_text.proofs.notes.copy_notes.Given as goal

abbrev pub invariant-loop-note : goal.invariant-loop-note
invariant-loop-note l = map plain_note l.notes ≡ map plain_note l.list.items ++ map plain_note (drop l.note-index l.note-items)
