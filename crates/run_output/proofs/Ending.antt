-- From what was written to the end of a run.
use Rattle.std.proofs.Common.{◌≡◌, ℕ, Bool, List, [], Option, refl, sym, subst}
use Rattle.edit_script.specs.Commands.{PlainCommand}
use Rattle.drc_state.specs.States.{State}
use Rattle.run_words.specs.Calls.{Reading, PlainCall, check}
use Rattle.run_texts.specs.declared.texts.Stop.{Stop}
use Rattle.run_texts.specs.declared.texts.Stop.TheVariants.{Unread}
use Rattle.run_texts.specs.declared.texts.Which.TheVariants.{Script}
use Rattle.run_texts.specs.NamedTexts.{texts_of, Value, a_script, AreAccepted, ReadFails}
use Rattle.run_texts.specs.RunFindings.{StopsTexts, Gives, AreOpened}
use Rattle.run_texts.proofs.Accepting.{values_of, all_accepted, unread_has_fault}
use Rattle.run_output.specs.declared.status.Status.{Status}
use Rattle.run_output.specs.Output.{Output, commands_among, is_short, IsTold, IsToldSoFar, IsOutputFor, given, IsBegunFor, whole, begun_by}
use Rattle.run_output.specs.RefusalLines.{IsLineOf}
use Rattle.run_output.specs.RunEndings.{Ends, EndsFor, IsTextOfOne}
use Rattle.run_output.proofs.Written.{ends_as}
use Rattle.run_output.proofs.Opening.{opened_by, commands_are, line_is_output}

module _ (call : PlainCall) (told : Option (List (List ℕ × List ℕ))) where
  -- an output begins with its text
  pub begun_whole : (out : Output) → IsOutputFor call told out → IsBegunFor call told out.text
  begun_whole out is = whole out is refl

  module _ (before now : List ℕ → ℕ) (old new : Option (List ℕ)) (stop : Stop) (stops : StopsTexts told call before now stop) where
    as_output : (out : Output) → IsLineOf stop out → IsOutputFor call told out
    as_output out is = line_is_output told before now call stop out stops is

    as_begun : (text : List ℕ) → IsTextOfOne (IsLineOf stop) text → IsBegunFor call told text
    as_begun text is = whole is.0 (as_output is.0 is.1) is.2

    -- why there is no report was written
    pub line_ends : (s : Status) → Ends (IsLineOf stop) (IsTextOfOne (IsLineOf stop)) (λ which. stop ≡ Unread which) old new s → EndsFor call told before now old new s
    line_ends s ends =
        ends_as (IsLineOf stop) (IsOutputFor call told) (IsTextOfOne (IsLineOf stop)) (IsBegunFor call told) (λ which. stop ≡ Unread which) (ReadFails call told before now) old new as_output as_begun
        (λ which e. unread_has_fault told before now call stop which stops e) s ends

-- what the texts of a check give was told, whole or in part
module _ (told : Option (List (List ℕ × List ℕ))) (reading : Reading) (opening : State) (commands : List PlainCommand) (are : AreOpened told reading opening)
    (gives : Gives told Script reading.script (a_script []) (a_script commands)) (short : Bool) (is : short ≡ is_short reading.board) where
  abbrev values : List Value
  values = values_of told reading opening commands

  accepted : AreAccepted told (texts_of (check reading)) values
  accepted = all_accepted told reading opening commands are gives

  as_told : (out : Output) → IsTold short opening commands out → IsOutputFor (check reading) told out
  as_told out it = given values accepted (
    opening,
    opened_by told reading opening commands are,
    subst (λ (s : Bool). IsTold s opening (commands_among values) out) is (subst (λ (cs : List PlainCommand). IsTold short opening cs out) (sym (commands_are told reading opening commands gives)) it),
  )

  as_told_so_far : (text : List ℕ) → IsToldSoFar short opening commands text → IsBegunFor (check reading) told text
  as_told_so_far text it = begun_by values accepted (
    opening,
    opened_by told reading opening commands are,
    subst (λ (s : Bool). IsToldSoFar s opening (commands_among values) text) is (subst (λ (cs : List PlainCommand). IsToldSoFar short opening cs text) (sym (commands_are told reading opening commands gives)) it),
  )

  pub told_ends : (before now : List ℕ → ℕ) (old new : Option (List ℕ)) (s : Status) → Ends (IsTold short opening commands) (IsToldSoFar short opening commands) (λ _. ⊥) old new s
      → EndsFor (check reading) told before now old new s
  told_ends before now old new s ends =
      ends_as (IsTold short opening commands) (IsOutputFor (check reading) told) (IsToldSoFar short opening commands) (IsBegunFor (check reading) told) (λ _. ⊥) (ReadFails (check reading) told before now) old new as_told as_told_so_far
      (λ which none. absurd none) s ends
