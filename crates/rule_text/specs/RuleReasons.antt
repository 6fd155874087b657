-- Why a rule file is refused: what each refusal is called, its number, and its places. A report writes `NAME (CODE) at PLACE`,
-- and for a condition `NAME (CODE) at PLACE + INNER`.
use Rattle.std.specs.Prelude.{codes}
use Rattle.plain_types.specs.Reasons.{PlainReason, refused_at, refused_nowhere, carried, with_inner_place}
use Rattle.sexpr_read.specs.TreeReasons.{text_reason}
use Rattle.cond_lang.specs.ConditionReasons.{cond_reason}
use Rattle.rule_text.specs.declared.error.RuleError.{RuleError}
use Rattle.rule_text.specs.declared.error.RuleError.TheVariants.{Text, Version, Bad, Cond, BadNumber, OutOfMemory}

-- a condition is refused where its text begins; running out of memory has no number, which is written 0, and no place
abbrev pub rules_reason : RuleError → PlainReason
rules_reason (Text e) = carried (codes "Text") 1 (text_reason e)
rules_reason (Version at) = refused_at (codes "Version") 2 at
rules_reason (Bad at) = refused_at (codes "Bad") 3 at
rules_reason (Cond at inner) = with_inner_place (carried (codes "Cond") 4 (cond_reason inner)) at
rules_reason (BadNumber at) = refused_at (codes "BadNumber") 5 at
rules_reason OutOfMemory = refused_nowhere (codes "OutOfMemory") 0
