-- A script has no more commands than bytes.
use Rattle.std.proofs.Common.{◌≡◌, ◌↔◌, ℕ, ◌≤◌, List, length, Option, Some, None, Ok, sym, arith}
use Rattle.std.specs.List.{AllZip}
use Rattle.std.proofs.lemmas.Slice.Zip.{AllZip-long}
use Rattle.sexpr_read.specs.declared.place.TextError.{TextError}
use Rattle.sexpr_read.specs.Tree.{Tree, parts}
use Rattle.sexpr_read.specs.Spelling.{SpellsAll}
use Rattle.sexpr_read.specs.TreeRefusals.{refusal_of_all}
use Rattle.sexpr_read.specs.TreePlaces.{PartsStandBetween}
use Rattle.list_read.specs.TextResults.{IsBehindText}
use Rattle.edit_script.specs.declared.error.ScriptError.TheVariants.{Text}
use Rattle.edit_script.specs.Commands.{PlainCommand}
use Rattle.edit_script.specs.CommandsOf.{commands_of}
use Rattle.edit_script.specs.CommandGrammar.{IsCommand}
use Rattle.edit_script.specs.ScriptText.{ScriptSays}
use Rattle.rule_text.proofs.Shortness.{forms_few}

module _ (in_order : (text : List ℕ) (t : Tree) → SpellsAll text t → PartsStandBetween text 0 (length text) t)
    (forms : (script : List ℕ) (root : Tree) (commands : List PlainCommand) → (commands_of script root ≡ Ok commands) ↔ AllZip (IsCommand script) (parts root) commands) where
  after : (text : List ℕ) (e : Option TextError) (commands : List PlainCommand) → length text ≤ 33554432 → IsBehindText Text (SpellsAll text) (λ tree told. told ≡ commands_of text tree) e (Ok commands) → length commands ≤ 33554432
  after text (Some e) commands short says = absurd (cc)
  after text None commands short says =
      let few = forms_few text says.0 (in_order text says.0 says.1) short in
      let zip : AllZip (IsCommand text) (parts says.0) commands = (forms text says.0 commands).0 (sym says.2) in
      let same = AllZip-long (IsCommand text) (parts says.0) commands zip in
      omega (arith, few, same)

  pub few_commands : (text : List ℕ) (commands : List PlainCommand) → length text ≤ 33554432 → ScriptSays text (Ok commands) → length commands ≤ 33554432
  few_commands text commands short says = after text (refusal_of_all text) commands short says
