-- What a list of rules says by the places of the text that it stands in.
use Rattle.std.proofs.Common.{◌≡◌, ◌⊎◌, inl, inr, ℕ, List, ◌∙◌, ap}
use Rattle.std.specs.Prelude.{Result, Err}
use Rattle.rule_text.specs.declared.error.RuleError.{RuleError}
use Rattle.rule_text.specs.declared.error.RuleError.TheVariants.{OutOfMemory}
use Rattle.rule_text.specs.RulesOf.{PlainRules}
use Rattle.rule_text.specs.ListText.{moved_error, Here, SaysList}

abbrev pub OneAnswer : List ℕ → ℕ → Type 0
OneAnswer text by = (a b : Result PlainRules RuleError) → SaysList text by a → SaysList text by b → a ≡ b

pub only_moved : (text : List ℕ) (by : ℕ) (e m : RuleError) → m ≡ moved_error by e → (e ≡ OutOfMemory) ⊎ Here text (Err e) → OneAnswer text by
    → (answer : Result PlainRules RuleError) → SaysList text by answer → (m ≡ OutOfMemory) ⊎ (answer ≡ Err m)
only_moved text by e m is (inl memory) law answer says = inl (is ∙ ap (moved_error by) memory)
only_moved text by e m is (inr here) law answer says = inr (law answer (Err m) says (Err e, here, ap (λ (x : RuleError). Err x) is))
