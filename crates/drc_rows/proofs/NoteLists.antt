-- Notes of rules, one by one.
use Rattle.std.proofs.Common.{◌≡◌, ℕ, List, ap}
use Rattle.std.specs.List.{flat_map, slice_get}
use Rattle.std.specs.Option.{option_map}
use Rattle.std.proofs.lemmas.List.Folds.{flat_map-map}
use Rattle.std.proofs.lemmas.Option.{slice_get-map}
use Rattle.cond_lang.specs.Rules.{plain_rule}
use Rattle.rule_text.specs.declared.notes.RuleNote.{RuleNote}
use Rattle.rule_text.specs.declared.rules.Rules.{Rules}
use Rattle.rule_text.specs.RuleValues.{plain_note, plain_rules}
use Rattle.drc_rows.specs.NoteLines.{name_in, rule_name, constraint_line, constraint_lines}

-- the line of a note of a rule file
abbrev pub line_of : Rules → RuleNote → List ℕ
line_of rules note = constraint_line (plain_rules rules) (plain_note note)

pub lines_are : (rules : Rules) → constraint_lines (plain_rules rules) ≡ flat_map (line_of rules) rules.notes
lines_are rules = flat_map-map (constraint_line (plain_rules rules)) plain_note rules.notes

-- the name of a rule, where there is one
pub name_at : (rules : Rules) (number : ℕ) → rule_name (plain_rules rules) number ≡ name_in (option_map plain_rule (slice_get rules.rules number))
name_at rules number = ap name_in (slice_get-map plain_rule rules.rules number)
