-- Scripts of commands that are tried, as they are refused.
use Rattle.std.proofs.Common.{◌≡◌, ◌∙◌, ◌⊎◌, inl, inr, refl, ap, subst, ℕ, ◌≤◌, List, length, map, slice_get, Some, Ok, Err, arith}
use Rattle.std.proofs.lemmas.List.{length-map}
use Rattle.edit_script.specs.declared.error.ScriptError.{ScriptError}
use Rattle.edit_script.specs.declared.error.ScriptError.TheVariants.{OutOfMemory}
use Rattle.edit_script.specs.declared.command.Command.{Command}
use Rattle.edit_script.specs.Commands.{PlainCommand, plain_command, place_of}
use Rattle.edit_script.specs.ScriptReasons.{script_reason}
use Rattle.edit_script.specs.ScriptText.{ScriptSays}
use Rattle.run_texts.specs.declared.texts.Refusal.{Refusal}
use Rattle.run_texts.specs.declared.texts.Stop.{Stop}
use Rattle.run_texts.specs.declared.texts.Which.TheVariants.{Trials}
use Rattle.run_texts.specs.NamedTexts.{reason_text, too_many, a_script, accepted, ReaderSays, RefusesTrials}
use Rattle.run_texts.specs.RunFindings.{reason_in, why_of, IsStopOf, StopsReading}
use Rattle.run_texts.proofs.Refusals.{refuses_so, stops_so}

-- by the reader of scripts
pub by_reader : (bytes : List ℕ) (e : ScriptError) (stop : Stop) → (e ≡ OutOfMemory) ⊎ ScriptSays bytes (Err e) → IsStopOf Trials (script_reason e) stop → StopsReading Trials bytes stop
by_reader bytes e stop says is = stops_so Trials bytes (script_reason e) stop is (λ r same. inl (refuses_so script_reason OutOfMemory refl (ScriptSays bytes) e r says same))

-- the commands as the code has them, lent as a slice
module _ (bytes : List ℕ) (commands lent : List Command) (same : lent ≡ commands) (says : ScriptSays bytes (Ok (map plain_command commands))) where
  many : (at : ℕ) (r : Refusal) → (command : PlainCommand) × (slice_get (map plain_command lent) 15625 ≡ Some command) × (at ≡ place_of command) → reason_in r ≡ too_many at → RefusesTrials bytes (why_of r)
  many at r found is = (
    map plain_command commands,
    says,
    record {
      command = found.0;
      stands = subst (λ (xs : List Command). slice_get (map plain_command xs) 15625 ≡ Some found.0) same found.1;
      why_is = ap reason_text is ∙ ap (λ (n : ℕ). reason_text (too_many n)) found.2;
    },
  )

  -- there are too many
  pub by_number : (at : ℕ) (stop : Stop) → (command : PlainCommand) × (slice_get (map plain_command lent) 15625 ≡ Some command) × (at ≡ place_of command) → IsStopOf Trials (too_many at) stop → StopsReading Trials bytes stop
  by_number at stop found is = stops_so Trials bytes (too_many at) stop is (λ r why. inr (many at r found why))

  -- there are few enough
  pub few_enough : length lent ≤ 15625 → ReaderSays Trials bytes (accepted (a_script (map plain_command commands)))
  few_enough few = (says, omega (arith, few, ap length same, length-map commands plain_command))
