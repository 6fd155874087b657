-- What the reader's values stand for.
use Rattle.std.specs.Prelude.{◌≡◌, ◌⊎◌, ℤ, map, Option, Some, None, Result, Ok, Err}
use Rattle.std.specs.Option.{option_map}
use Rattle.list_read.specs.FoundNodes.{GivesUnless}
use Rattle.plain_types.specs.declared.lengths.Length.{Length}
use Rattle.cond_lang.specs.Rules.{plain_rule, plain_constraint}
use Rattle.cond_lang.specs.Trees.{cond_tree_of}
use Rattle.rule_text.specs.declared.error.RuleError.{RuleError}
use Rattle.rule_text.specs.declared.error.RuleError.TheVariants.{OutOfMemory}
use Rattle.rule_text.specs.declared.limits.Limits.{Limits}
use Rattle.rule_text.specs.declared.draft.Draft.{Draft}
use Rattle.rule_text.specs.declared.rules.Rules.{Rules}
use Rattle.rule_text.specs.declared.lists.Lists.{Lists}
use Rattle.rule_text.specs.declared.notes.RuleNote.{RuleNote}
use Rattle.rule_text.specs.RuleLimits.{PlainLimits}
use Rattle.rule_text.specs.RulesOf.{PlainNote, PlainRules}
use Rattle.rule_text.specs.RuleWalk.{PlainDraft}

abbrev pub plain_note : RuleNote → PlainNote
plain_note n = record { rule = n.rule; constraint = n.constraint }

abbrev pub plain_rules : Rules → PlainRules
plain_rules r = record { rules = map plain_rule r.rules; notes = map plain_note r.notes }

abbrev pub plain_lists : Lists → PlainRules
plain_lists l = record { rules = map plain_rule l.rules.items; notes = map plain_note l.notes.items }

abbrev pub nm_if : Option Length → Option ℤ
nm_if None = None
nm_if (Some length) = Some length.nm

abbrev pub nm_in : Result Length RuleError → Result ℤ RuleError
nm_in (Ok length) = Ok length.nm
nm_in (Err e) = Err e

abbrev pub plain_limits : Limits → PlainLimits
plain_limits l = record { least = nm_if l.least; wished = l.wished; most = nm_if l.most }

abbrev pub plain_draft : Draft → PlainDraft
plain_draft d = record { number = d.number; layer = d.layer; severity = d.severity; cond = option_map cond_tree_of d.cond; constraints = map plain_constraint d.constraints.items; notes = map plain_note d.notes.items }

-- the call gives a value that stands for this answer, unless memory ran out
abbrev pub Gives : {T A : Type 0} → (T → A) → Result T RuleError → Result A RuleError → Type 0
Gives view result answer = GivesUnless OutOfMemory view result answer

-- the call leaves what the answer is, or gives its refusal, unless memory ran out
abbrev pub Leaves : {A T : Type 0} → Result T RuleError → A → Result A RuleError → Type 0
Leaves (Ok _) new answer = answer ≡ Ok new
Leaves (Err e) new answer = (e ≡ OutOfMemory) ⊎ (answer ≡ Err e)
