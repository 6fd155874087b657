-- What a list (rules FORM ..) says that stands in another text: its head is a word and not in quotes, and what follows the head is
-- as the forms of a file.
use Rattle.std.specs.Prelude.{◌≡◌, ℕ, ◌+◌, List, [], ◌∷◌, codes, length, Result, Ok, Err}
use Rattle.sexpr_read.specs.declared.place.TextError.{TextError}
use Rattle.sexpr_read.specs.declared.place.TextError.TheVariants.{NotUtf8, CloseWithoutOpen, EndInside, TooDeep, ExtraText, EmptyText, OutOfMemory as NoMemory}
use Rattle.sexpr_read.specs.Tree.{Tree, parts}
use Rattle.rule_text.specs.declared.error.RuleError.{RuleError}
use Rattle.rule_text.specs.declared.error.RuleError.TheVariants.{Text, Version, Bad, Cond, BadNumber, OutOfMemory}
use Rattle.list_read.specs.FirstRefusals.{◌>>=◌, check}
use Rattle.list_read.specs.ListHeads.{place, has_word_head, behind_head}
use Rattle.list_read.specs.TextResults.{OfForms}
use Rattle.rule_text.specs.RuleForms.{bad}
use Rattle.rule_text.specs.RulesOf.{PlainRules, rules_of}

-- the refusal where the list has no form: what stands behind the list comes before the end of the text
abbrev pub no_form : ℕ → List Tree → RuleError
no_form size [] = Version size
no_form size (t ∷ ts) = Bad (place t)

-- nothing stands behind the list
abbrev pub nothing_more : List Tree → Result (Unit {0}) RuleError
nothing_more [] = Ok tt
nothing_more (t ∷ ts) = bad t

abbrev pub list_among : ℕ → List Tree → Result PlainRules RuleError
list_among size [] = Err (Bad 0)
list_among size (t ∷ ts) = do
  named ← check (Bad 0) (has_word_head (codes "rules") t)
  rules ← rules_of (no_form size ts) (behind_head t)
  alone ← nothing_more ts
  Ok rules

-- the rules of a text of this length that is one such list
unfoldable pub list_of : ℕ → Tree → Result PlainRules RuleError
list_of size root = list_among size (parts root)

-- ---- places in the text that the list stands in

abbrev pub moved_text : ℕ → TextError → TextError
moved_text by (NotUtf8 at) = NotUtf8 (by + at)
moved_text by (CloseWithoutOpen at) = CloseWithoutOpen (by + at)
moved_text by (EndInside at) = EndInside (by + at)
moved_text by (TooDeep at) = TooDeep (by + at)
moved_text by (ExtraText at) = ExtraText (by + at)
moved_text by EmptyText = EmptyText
moved_text by NoMemory = NoMemory

-- a place in a condition stays
abbrev pub moved_error : ℕ → RuleError → RuleError
moved_error by (Text e) = Text (moved_text by e)
moved_error by (Version at) = Version (by + at)
moved_error by (Bad at) = Bad (by + at)
moved_error by (Cond at inner) = Cond (by + at) inner
moved_error by (BadNumber at) = BadNumber (by + at)
moved_error by OutOfMemory = OutOfMemory

abbrev pub moved : ℕ → Result PlainRules RuleError → Result PlainRules RuleError
moved by (Ok rules) = Ok rules
moved by (Err e) = Err (moved_error by e)

-- ---- what the text says

-- by places of the list's own text
abbrev pub Here : List ℕ → Result PlainRules RuleError → Type 0
Here text answer = OfForms Text (λ tree told. told ≡ list_of (length text) tree) text answer

-- by places of the text in which it begins at `by`
abbrev pub SaysList : List ℕ → ℕ → Result PlainRules RuleError → Type 0
SaysList text by answer = (here : Result PlainRules RuleError) × Here text here × (answer ≡ moved by here)
