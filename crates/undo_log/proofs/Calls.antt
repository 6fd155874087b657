-- Calls of a history, one after another.
use Rattle.std.proofs.Common.{◌≡◌, ◌⊎◌, inl, inr, refl, sym, subst, true, false, List, [], ◌∷◌, Result, Ok, Err}
use Rattle.edit_script.specs.Commands.{PlainStep}
use Rattle.undo_log.specs.declared.error.HistoryError.{HistoryError}
use Rattle.undo_log.specs.declared.error.HistoryError.TheVariants.{Edit, NothingToUndo, NothingToRedo, Stopped, OutOfMemory}
use Rattle.undo_log.specs.Past.{Past, StepAnswers, left_by, AreStepsTo}
use Rattle.undo_log.specs.Ways.{PlainHistory, IsPastOf}
use Rattle.undo_log.specs.HistoryCalls.{IsStepRefused, IsCall, AreCalls}

-- a stopped history stays so
stopped_by : (old new : PlainHistory) (step : PlainStep) (why : HistoryError) → old.stopped ≡ true → IsStepRefused old new step why → new.stopped ≡ true
stopped_by old new step (Edit e) stopped h = absurd (cc)
stopped_by old new step NothingToUndo stopped h = absurd (cc)
stopped_by old new step NothingToRedo stopped h = absurd (cc)
stopped_by old new step Stopped stopped h = subst (λ (x : PlainHistory). x.stopped ≡ true) (sym h.1) stopped
stopped_by old new step OutOfMemory stopped h = h.1

stays_stopped : (old new : PlainHistory) (step : PlainStep) → old.stopped ≡ true → IsCall old new step → new.stopped ≡ true
stays_stopped old new step stopped (inl taken) = absurd (cc)
stays_stopped old new step stopped (inr refused) = stopped_by old new step refused.0 stopped refused.1

all_stopped : (old new : PlainHistory) (steps : List PlainStep) → old.stopped ≡ true → AreCalls old steps new → new.stopped ≡ true
all_stopped old new [] stopped calls = subst (λ (x : PlainHistory). x.stopped ≡ true) (sym calls) stopped
all_stopped old new (step ∷ steps) stopped calls = all_stopped calls.0 new steps (stays_stopped old calls.0 step stopped calls.1) calls.2

-- a refusal of a history that goes on leaves it as it was
refused_step : (old new : PlainHistory) (step : PlainStep) (why : HistoryError) (past : Past) → IsStepRefused old new step why → IsPastOf old past → (new.stopped ≡ true) ⊎ (StepAnswers past step (Err why) × (new ≡ old))
refused_step old new step (Edit e) past h ways = inr (h.1 past ways, h.2)
refused_step old new step NothingToUndo past h ways = inr (h.1 past ways, h.2)
refused_step old new step NothingToRedo past h ways = inr (h.1 past ways, h.2)
refused_step old new step Stopped past h ways = inl (subst (λ (x : PlainHistory). x.stopped ≡ true) (sym h.1) h.0)
refused_step old new step OutOfMemory past h ways = inl h.1

-- one call leads from a past to one that the history then has
one_call : (old new : PlainHistory) (step : PlainStep) (past : Past) → IsCall old new step → IsPastOf old past
    → (new.stopped ≡ true) ⊎ ((answer : Result Past HistoryError) × StepAnswers past step answer × IsPastOf new (left_by past answer))
one_call old new step past (inl taken) ways = let from = taken.1.steps past ways in inr (Ok from.next, from.answer, from.is_past)
one_call old new step past (inr refused) ways = by (refused_step old new step refused.0 past refused.1 ways)
  where
    by : (new.stopped ≡ true) ⊎ (StepAnswers past step (Err refused.0) × (new ≡ old)) → (new.stopped ≡ true) ⊎ ((answer : Result Past HistoryError) × StepAnswers past step answer × IsPastOf new (left_by past answer))
    by (inl stopped) = inl stopped
    by (inr h) = inr (Err refused.0, h.0, subst (λ (x : PlainHistory). IsPastOf x past) (sym h.1) ways)

pub all_calls : (old new : PlainHistory) (steps : List PlainStep) (past : Past) → IsPastOf old past → AreCalls old steps new → new.stopped ≡ false → (last : Past) × AreStepsTo past steps last × IsPastOf new last
all_calls old new [] past ways calls runs = (past, refl, subst (λ (x : PlainHistory). IsPastOf x past) (sym calls) ways)
all_calls old new (step ∷ steps) past ways calls runs =
    by (one_call old calls.0 step past calls.1 ways) (λ (answer : Result Past HistoryError) (now : IsPastOf calls.0 (left_by past answer)). all_calls calls.0 new steps (left_by past answer) now calls.2 runs)
  where
    by : (calls.0.stopped ≡ true) ⊎ ((answer : Result Past HistoryError) × StepAnswers past step answer × IsPastOf calls.0 (left_by past answer))
        → ((answer : Result Past HistoryError) → IsPastOf calls.0 (left_by past answer) → (last : Past) × AreStepsTo (left_by past answer) steps last × IsPastOf new last)
        → (last : Past) × AreStepsTo past (step ∷ steps) last × IsPastOf new last
    by (inl stopped) others = absurd (let never = all_stopped calls.0 new steps stopped calls.2 in cc)
    by (inr h) others = let rest = others h.0 h.2 in (rest.0, (h.0, h.1, rest.1), rest.2)
