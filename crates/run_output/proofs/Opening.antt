-- From the values of the texts to what they open, and to the output.
use Rattle.std.proofs.Common.{◌≡◌, ℕ, List, [], ◌++◌, Option, Some, None, refl, sym}
use Rattle.net_class.specs.NetClasses.{PlainClasses, plain_classes}
use Rattle.rule_text.specs.RulesOf.{PlainRules, no_rules}
use Rattle.edit_script.specs.Commands.{PlainCommand}
use Rattle.drc_state.specs.States.{State}
use Rattle.run_words.specs.Calls.{Reading, PlainCall}
use Rattle.run_texts.specs.declared.texts.Which.TheVariants.{Project, Rules, Script}
use Rattle.run_texts.specs.declared.texts.Stop.{Stop}
use Rattle.run_texts.specs.declared.texts.Stop.TheVariants.{Refused, Unread, OutOfMemory}
use Rattle.run_texts.specs.NamedTexts.{Value, a_project, a_rules, a_script}
use Rattle.run_texts.specs.RunFindings.{why_of, StopsTexts, Gives, AreOpened}
use Rattle.run_texts.proofs.Accepting.{given, values_of}
use Rattle.run_output.specs.Output.{Output, classes_among, rules_among, commands_among, IsOpenedBy, IsOutputFor, stopped}
use Rattle.run_output.specs.RefusalLines.{IsLineOf}

module _ (told : Option (List (List ℕ × List ℕ))) where
  pub same_classes : (a b : PlainClasses) → a_project a ≡ a_project b → a ≡ b
  same_classes a b e = cc

  pub same_rules : (a b : PlainRules) → a_rules a ≡ a_rules b → a ≡ b
  same_rules a b e = cc

  same_commands : (a b : List PlainCommand) → a_script a ≡ a_script b → a ≡ b
  same_commands a b e = cc

  module _ (classes : PlainClasses) (rules : PlainRules) (commands : List PlainCommand) where
    abbrev behind : (project list script : Option (List ℕ)) → List Value
    behind project list script = given told project (a_project classes) ++ (given told list (a_rules rules) ++ given told script (a_script commands))

    its_classes : (project list script : Option (List ℕ)) → Gives told Project project (a_project plain_classes) (a_project classes) → classes ≡ classes_among (behind project list script)
    its_classes None None None g = same_classes classes plain_classes g
    its_classes None None (Some s) g = same_classes classes plain_classes g
    its_classes None (Some l) None g = same_classes classes plain_classes g
    its_classes None (Some l) (Some s) g = same_classes classes plain_classes g
    its_classes (Some p) list script g = refl

    its_rules : (project list script : Option (List ℕ)) → Gives told Rules list (a_rules no_rules) (a_rules rules) → rules ≡ rules_among (behind project list script)
    its_rules None None None g = same_rules rules no_rules g
    its_rules None None (Some s) g = same_rules rules no_rules g
    its_rules (Some p) None None g = same_rules rules no_rules g
    its_rules (Some p) None (Some s) g = same_rules rules no_rules g
    its_rules None (Some l) script g = refl
    its_rules (Some p) (Some l) script g = refl

    its_commands : (project list script : Option (List ℕ)) → Gives told Script script (a_script []) (a_script commands) → commands_among (behind project list script) ≡ commands
    its_commands None None None g = sym (same_commands commands [] g)
    its_commands None (Some l) None g = sym (same_commands commands [] g)
    its_commands (Some p) None None g = sym (same_commands commands [] g)
    its_commands (Some p) (Some l) None g = sym (same_commands commands [] g)
    its_commands None None (Some s) g = refl
    its_commands None (Some l) (Some s) g = refl
    its_commands (Some p) None (Some s) g = refl
    its_commands (Some p) (Some l) (Some s) g = refl

  -- what they open
  pub opened_by : (reading : Reading) (opened : State) (commands : List PlainCommand) → AreOpened told reading opened → IsOpenedBy (values_of told reading opened commands) opened
  opened_by reading opened commands are = record {
    board = refl;
    classes = its_classes opened.classes opened.rules commands reading.project reading.rules reading.script are.classes;
    rules = its_rules opened.classes opened.rules commands reading.project reading.rules reading.script are.rules;
  }

  pub commands_are : (reading : Reading) (opened : State) (commands : List PlainCommand) → Gives told Script reading.script (a_script []) (a_script commands) → commands_among (values_of told reading opened commands) ≡ commands
  commands_are reading opened commands gives = its_commands opened.classes opened.rules commands reading.project reading.rules reading.script gives

  -- ---- the output

  module _ (before now : List ℕ → ℕ) where
    pub line_is_output : (call : PlainCall) (stop : Stop) (out : Output) → StopsTexts told call before now stop → IsLineOf stop out → IsOutputFor call told out
    line_is_output call (Refused r) out s line = stopped (record { which = r.which; source = s.0 }) (why_of r) s.1 s.2 line
    line_is_output call (Unread which) out s line = absurd line
    line_is_output call OutOfMemory out s line = absurd line
