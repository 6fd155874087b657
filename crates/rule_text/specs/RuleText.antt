-- What the text of a rule file says: the rules of its tree, or why there are none.
use Rattle.std.specs.Prelude.{◌≡◌, ℕ, List, length, Result}
use Rattle.list_read.specs.TextResults.{OfForms}
use Rattle.rule_text.specs.declared.error.RuleError.{RuleError}
use Rattle.rule_text.specs.declared.error.RuleError.TheVariants.{Text}
use Rattle.rule_text.specs.RulesOf.{PlainRules, file_of}

-- the text says this: rules, or a refusal
abbrev pub RulesSays : List ℕ → Result PlainRules RuleError → Type 0
RulesSays text answer = OfForms Text (λ tree told. told ≡ file_of (length text) tree) text answer
