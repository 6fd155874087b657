-- From what was written of a board and a script to the end of a run.
use Rattle.std.proofs.Common.{ℕ, List, [], ◌∷◌, Option, refl}
use Rattle.net_class.specs.NetClasses.{plain_classes}
use Rattle.rule_text.specs.RulesOf.{no_rules}
use Rattle.edit_script.specs.Commands.{PlainCommand, PlainStep}
use Rattle.drc_state.specs.States.{State}
use Rattle.run_words.specs.Calls.{undo, try}
use Rattle.run_texts.specs.declared.texts.Which.TheVariants.{Steps, Trials}
use Rattle.run_texts.specs.NamedTexts.{named, texts_of, Value, a_board, a_script, some_steps, accepted, SourceSays, AreAccepted, ReadFails}
use Rattle.run_texts.specs.RunFindings.{AreOpened, only_board}
use Rattle.run_output.specs.declared.status.Status.{Status}
use Rattle.run_output.specs.Output.{Output, IsOpenedBy, AreStepsTold, AreStepsToldSoFar, AreTrialsTold, IsOutputFor, given, IsBegunFor, whole, begun_by}
use Rattle.run_output.specs.RunResults.{AreTrialsToldSoFar, first_of_them, all_of_them}
use Rattle.run_output.specs.RunEndings.{Ends, EndsFor}
use Rattle.run_output.proofs.Written.{ends_as}
use Rattle.run_output.proofs.Opening.{same_classes, same_rules}

module _ (told : Option (List (List ℕ × List ℕ))) (board script : List ℕ) (opening : State) (are : AreOpened told (only_board board) opening) where
  module _ (steps : List PlainStep) (says : SourceSays told (named Steps script) (accepted (some_steps steps))) where
    abbrev values : List Value
    values = a_board opening.board ∷ some_steps steps ∷ []

    all_accepted : AreAccepted told (texts_of (undo board script)) values
    all_accepted = (are.board, (says, tt))

    opened_by : IsOpenedBy values opening
    opened_by = record {
      board = refl;
      classes = same_classes told opening.classes plain_classes are.classes;
      rules = same_rules told opening.rules no_rules are.rules;
    }

    as_told : (out : Output) → AreStepsTold opening steps out → IsOutputFor (undo board script) told out
    as_told out it = given values all_accepted (opening, opened_by, it)

    as_told_so_far : (text : List ℕ) → AreStepsToldSoFar opening steps text → IsBegunFor (undo board script) told text
    as_told_so_far text it = begun_by values all_accepted (opening, opened_by, it)

    -- what the steps write was told, whole or in part
    pub steps_end : (before now : List ℕ → ℕ) (old new : Option (List ℕ)) (s : Status) → Ends (AreStepsTold opening steps) (AreStepsToldSoFar opening steps) (λ _. ⊥) old new s
        → EndsFor (undo board script) told before now old new s
    steps_end before now old new s ends =
        ends_as (AreStepsTold opening steps) (IsOutputFor (undo board script) told) (AreStepsToldSoFar opening steps) (IsBegunFor (undo board script) told) (λ _. ⊥) (ReadFails (undo board script) told before now) old new as_told as_told_so_far
        (λ which none. absurd none) s ends

  module _ (commands : List PlainCommand) (says : SourceSays told (named Trials script) (accepted (a_script commands))) (workers : ℕ) where
    abbrev values_tried : List Value
    values_tried = a_board opening.board ∷ a_script commands ∷ []

    all_accepted_tried : AreAccepted told (texts_of (try board script workers)) values_tried
    all_accepted_tried = (are.board, (says, tt))

    opened_tried : IsOpenedBy values_tried opening
    opened_tried = record {
      board = refl;
      classes = same_classes told opening.classes plain_classes are.classes;
      rules = same_rules told opening.rules no_rules are.rules;
    }

    as_tried : (out : Output) → AreTrialsTold opening commands out → IsOutputFor (try board script workers) told out
    as_tried out it = given values_tried all_accepted_tried (opening, opened_tried, it)

    as_tried_so_far : (text : List ℕ) → AreTrialsToldSoFar opening commands text → IsBegunFor (try board script workers) told text
    as_tried_so_far text (first_of_them it) = begun_by values_tried all_accepted_tried (opening, opened_tried, it)
    as_tried_so_far text (all_of_them out it e) = whole out (as_tried out it) e

    -- what the trials write was told, whole or in part
    pub trials_end : (before now : List ℕ → ℕ) (old new : Option (List ℕ)) (s : Status) → Ends (AreTrialsTold opening commands) (AreTrialsToldSoFar opening commands) (λ _. ⊥) old new s
        → EndsFor (try board script workers) told before now old new s
    trials_end before now old new s ends =
        ends_as (AreTrialsTold opening commands) (IsOutputFor (try board script workers) told) (AreTrialsToldSoFar opening commands) (IsBegunFor (try board script workers) told) (λ _. ⊥)
        (ReadFails (try board script workers) told before now) old new as_tried as_tried_so_far (λ which none. absurd none) s ends
