use Rattle.std.proofs.Common.{◌≡◌, refl, ◌++◌, append_assoc, codes}
use Rattle.std.proofs.lemmas.Result.{err_from_is_err_and}
use Rattle.rule_text.specs.RuleValues.{plain_rules}
use Rattle.drc_rows.specs.Buffer.{named}
use Rattle.drc_rows.specs.NoteLines.{rule_name}
use Rattle.drc_rows.proofs.Lines.{Puts-then, Puts-cut, Puts-text}
use Rattle.drc_rows.proofs.notes.push_constraint.Goals as goal

pub returns-in_err-push : goal.returns-in_err-push
returns-in_err-push g c =
    let p = err_from_is_err_and c.from_residual.result c.from_residual.ensures.1 in
    let head = codes "not checked: constraint " in
    let words = c.args.note.now.constraint ++ named (codes " of rule") (rule_name (plain_rules c.args.rules.now) c.args.note.now.rule) in
    Puts-cut _ _ _ _ _ head (words ++ codes "\n") _ _ _ _ _ _ p.1 (append_assoc head words (codes "\n")) c.in_err-push.ensures

pub returns-in_err-push_words : goal.returns-in_err-push_words
returns-in_err-push_words g c =
    let p = err_from_is_err_and c.from_residual-in_err-push_words.result c.from_residual-in_err-push_words.ensures.1 in
    let head = codes "not checked: constraint " in
    let words = c.args.note.now.constraint ++ named (codes " of rule") (rule_name (plain_rules c.args.rules.now) c.args.note.now.rule) in
    let same : c.bytes.result.now ++ named (codes " of rule") c.rule_name-rule.result.now ≡ words = rw (c.bytes.ensures.value, c.rule_name-rule.ensures) refl in
    Puts-cut _ _ _ _ _ (head ++ words) (codes "\n") _ _ _ _ _ _ p.1 refl
    (Puts-then _ _ _ _ _ _ _ _ _ _ _ _ _ c.in_ok-push.ensures (Puts-text _ _ _ _ _ _ _ _ _ same c.in_err-push_words.ensures))

pub returns : goal.returns
returns g c =
    let words = c.args.note.now.constraint ++ named (codes " of rule") (rule_name (plain_rules c.args.rules.now) c.args.note.now.rule) in
    let same : c.bytes.result.now ++ named (codes " of rule") c.rule_name-rule.result.now ≡ words = rw (c.bytes.ensures.value, c.rule_name-rule.ensures) refl in
    Puts-then _ _ _ _ _ _ _ _ _ _ _ _ _ (Puts-then _ _ _ _ _ _ _ _ _ _ _ _ _ c.in_ok-push.ensures (Puts-text _ _ _ _ _ _ _ _ _ same c.in_ok-push_words.ensures)) c.push-2.ensures
