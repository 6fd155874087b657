-- From the rows that were written to the end of a run.
use Rattle.std.proofs.Common.{◌≡◌, ◌∙◌, ap, sym, ℕ, List, [], ◌∷◌, Option, Result, Ok, Err, MatchResult, refl, arith}
use Rattle.net_class.specs.NetClasses.{plain_classes}
use Rattle.rule_text.specs.RulesOf.{no_rules}
use Rattle.drc_state.specs.States.{State}
use Rattle.drc_io.specs.FaultCounts.{Rose}
use Rattle.drc_io.specs.Sinks.{Writes}
use Rattle.drc_io.specs.declared.Failed.{Failed}
use Rattle.pair_check.specs.PlainRow.{PlainRow}
use Rattle.run_words.specs.Calls.{steal}
use Rattle.run_texts.specs.NamedTexts.{texts_of, Value, a_board, AreAccepted, ReadFails}
use Rattle.run_texts.specs.RunFindings.{AreOpened, only_board}
use Rattle.run_output.specs.declared.status.Status.{Status}
use Rattle.run_output.specs.declared.status.Status.TheVariants.{WriteFault}
use Rattle.run_output.specs.Output.{Output, IsOpenedBy, AreRowsTold, status_of, IsOutputFor, given, IsBegunFor, whole}
use Rattle.run_output.specs.RunEndings.{Ends, EndsFor, IsTextOfOne, number_of}
use Rattle.run_output.proofs.Written.{ends_as}
use Rattle.run_output.proofs.Opening.{same_classes, same_rules}

module _ (told : Option (List (List ℕ × List ℕ))) (board : List ℕ) (workers : ℕ) (opening : State) (are : AreOpened told (only_board board) opening) where
  abbrev values : List Value
  values = a_board opening.board ∷ []

  all_accepted : AreAccepted told (texts_of (steal board workers)) values
  all_accepted = (are.board, tt)

  opened_by : IsOpenedBy values opening
  opened_by = record {
    board = refl;
    classes = same_classes told opening.classes plain_classes are.classes;
    rules = same_rules told opening.rules no_rules are.rules;
  }

  as_told : (out : Output) → AreRowsTold opening out → IsOutputFor (steal board workers) told out
  as_told out it = given values all_accepted (opening, opened_by, it)

  as_begun : (text : List ℕ) → IsTextOfOne (AreRowsTold opening) text → IsBegunFor (steal board workers) told text
  as_begun text it = whole it.0 (as_told it.0 it.1) it.2

  -- the rows were told, whole or in part
  pub rows_end : (before now : List ℕ → ℕ) (old new : Option (List ℕ)) (s : Status) → Ends (AreRowsTold opening) (IsTextOfOne (AreRowsTold opening)) (λ _. ⊥) old new s
      → EndsFor (steal board workers) told before now old new s
  rows_end before now old new s ends =
      ends_as (AreRowsTold opening) (IsOutputFor (steal board workers) told) (IsTextOfOne (AreRowsTold opening)) (IsBegunFor (steal board workers) told) (λ _. ⊥) (ReadFails (steal board workers) told before now) old new as_told as_begun
      (λ which none. absurd none) s ends

-- where the last write failed, its fault rose: the status of rows is no fault of writing
pub no_write_fault : (rows : List PlainRow) (good : Status) → number_of good ≡ status_of rows → (r : Result (Unit {0}) Failed) (s : Status) → MatchResult r (λ _. s ≡ good) (λ _. s ≡ WriteFault) → (m n : ℕ) → {old new : Option (List ℕ)} {text : List ℕ}
    → Writes {T = Unit {0}} {E = Failed} old new m n text r → s ≡ WriteFault → Rose m n
no_write_fault rows good e (Ok u) s is m n w f = absurd (by_rows rows (sym (ap number_of (sym is ∙ f)) ∙ e))
  where
    by_rows : (rows : List PlainRow) → 5 ≡ status_of rows → ⊥
    by_rows [] h = omega (arith, h)
    by_rows (row ∷ rows) h = omega (arith, h)
no_write_fault rows good e (Err x) s is m n w f = w.failed
