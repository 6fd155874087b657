-- Steps as they are taken, from whatever past the history may be said to have.
use Rattle.std.proofs.Common.{◌≡◌, ◌∙◌, inl, inr, refl, sym, ap, subst, ℕ, ◌+◌, ◌<◌, ◌≤◌, true, false, List, [], ◌∷◌, ◌++◌, length, map, take, get_or, Option, Result, Ok, Err, IfOk, IfErr, MatchResult, arith}
use Rattle.drc_io.specs.Sinks.{Writes}
use Rattle.drc_io.specs.declared.Failed.{Failed}
use Rattle.edit_script.specs.Commands.{PlainStep}
use Rattle.drc_state.specs.States.{State}
use Rattle.drc_session.specs.declared.applied.Applied.{Applied}
use Rattle.drc_session.specs.Sessions.{PlainSession, IsApplied}
use Rattle.undo_log.specs.declared.error.HistoryError.{HistoryError}
use Rattle.undo_log.specs.declared.error.HistoryError.TheVariants.{Edit, NothingToUndo, NothingToRedo, Stopped, OutOfMemory as NoMemory}
use Rattle.undo_log.specs.Past.{Past, StepAnswers, does_replace}
use Rattle.undo_log.specs.HistoryCalls.{IsStepRefused}
use Rattle.undo_log.specs.Ways.{PlainHistory, IsPastOf}
use Rattle.run_output.specs.declared.breaks.Break.{Break}
use Rattle.run_output.specs.declared.breaks.Break.TheVariants.{Unwritten}
use Rattle.run_output.specs.Reports.{AreFindings, report_text, refused_line, why_step}
use Rattle.run_output.specs.CommandOutputs.{IsStepTurn, unstepped, stepped}
use Rattle.run_output.specs.RunResults.{found_of, IsStepTaken, IsStepBroken, AreTaken, AreBroken, IsStepAnswered, memory_ran_out, line, AreStepsSoFar}
use Rattle.run_output.proofs.Turning.{none_taken, more_taken, stopped_at, all_taken, one_longer}

-- ---- one step

-- the report of a session is that of the past's present
pub step_turn : (number : ℕ) (past next : Past) (step : PlainStep) (applied : Applied) (session : PlainSession) (held done : ℕ) → next.now ≡ session.state → StepAnswers past step (Ok next)
    → IsApplied past.now next.now (does_replace past step) applied → AreFindings session.state (found_of session held) → done ≡ length applied.tiles.items
    → IsStepTurn number past step next (report_text false number session.state (found_of session held) done)
step_turn number past next step applied session held done same answer is found count =
    let state = sym same in
    stepped answer applied.tiles.items is.tiles
    (record {
      found = found_of session held;
      are_findings = subst (λ (s : State). AreFindings s (found_of session held)) state found;
      text_is = ap (λ (s : State). report_text false number s (found_of session held) done) state ∙ ap (λ (n : ℕ). report_text false number next.now (found_of session held) n) count;
    })

-- what a step from a past leads to and writes
pub record Takes (number : ℕ) (past : Past) (step : PlainStep) (is : PlainHistory) (text : List ℕ) : Type 0 where
  pub next : Past
  pub is_past : IsPastOf is next
  pub turn : IsStepTurn number past step next text

module _ (number : ℕ) (was : PlainHistory) (step : PlainStep) (is : PlainHistory) (old new : Option (List ℕ)) (m n : ℕ) (text : List ℕ) (takes : (past : Past) → IsPastOf was past → Takes number past step is text) where
  pub taken_by : (r : Result (Unit {0}) Failed) (b : Result (Unit {0}) Break) → MatchResult r (λ u. b ≡ Ok u) (λ _. b ≡ Err Unwritten) → Writes {T = Unit {0}} {E = Failed} old new m n text r
      → IfOk b (λ _. IsStepTaken number was step is old new)
  taken_by (Ok u) b e w =
      subst (λ (x : Result (Unit {0}) Break). IfOk x (λ _. IsStepTaken number was step is old new)) (sym e)
      (λ past are. (let t = takes past are in (t.next, t.is_past, record { text = text; turn = t.turn; written = w.bytes })))
  taken_by (Err f) b e w = subst (λ (x : Result (Unit {0}) Break). IfOk x (λ _. IsStepTaken number was step is old new)) (sym e) tt

  pub broken_by : (r : Result (Unit {0}) Failed) (b : Result (Unit {0}) Break) → MatchResult r (λ u. b ≡ Ok u) (λ _. b ≡ Err Unwritten) → Writes {T = Unit {0}} {E = Failed} old new m n text r
      → IfErr b (λ _. IsStepBroken number was step old new)
  broken_by (Ok u) b e w = subst (λ (x : Result (Unit {0}) Break). IfErr x (λ _. IsStepBroken number was step old new)) (sym e) tt
  broken_by (Err f) b e w =
      subst (λ (x : Result (Unit {0}) Break). IfErr x (λ _. IsStepBroken number was step old new)) (sym e)
      (inr (λ past are. (let t = takes past are in record { next = t.next; text = text; turn = t.turn; written = w.bytes })))

-- what is refused but for running out of memory
refused_is : (was is : PlainHistory) (step : PlainStep) (why : HistoryError) → was.stopped ≡ false → (why ≡ NoMemory → ⊥) → IsStepRefused was is step why
    → ((past : Past) → IsPastOf was past → StepAnswers past step (Err why)) × (is ≡ was)
refused_is was is step (Edit e) runs n h = (h.1, h.2)
refused_is was is step NothingToUndo runs n h = (h.1, h.2)
refused_is was is step NothingToRedo runs n h = (h.1, h.2)
refused_is was is step Stopped runs n h = let both : true ≡ false = sym h.0 ∙ runs in absurd (cc)
refused_is was is step NoMemory runs n h = absurd (n refl)

module _ (number : ℕ) (was is : PlainHistory) (step : PlainStep) (why : HistoryError) (old new : Option (List ℕ)) (m n : ℕ) (b : Result (Unit {0}) Break)
    (runs : was.stopped ≡ false) (by : IsStepRefused was is step why) where
  takes_none : (why ≡ NoMemory → ⊥) → (past : Past) → IsPastOf was past → Takes number past step is (refused_line number (why_step why))
  takes_none other past are =
      let h = refused_is was is step why runs other by in
      record { next = past; is_past = subst (λ (x : PlainHistory). IsPastOf x past) (sym h.1) are; turn = unstepped why (h.0 past are) refl refl }

  pub refused_taken : IsStepAnswered number why old new m n b → IfOk b (λ _. IsStepTaken number was step is old new)
  refused_taken (memory_ran_out w e k f) = subst (λ (x : Result (Unit {0}) Break). IfOk x (λ _. IsStepTaken number was step is old new)) (sym e) tt
  refused_taken (line other r w e) = taken_by number was step is old new m n (refused_line number (why_step why)) (takes_none other) r b e w

  pub refused_runs : IsStepAnswered number why old new m n b → IfOk b (λ _. is.stopped ≡ false)
  refused_runs (memory_ran_out w e k f) = subst (λ (x : Result (Unit {0}) Break). IfOk x (λ _. is.stopped ≡ false)) (sym e) tt
  refused_runs (line other r w e) = always b (ap (λ (x : PlainHistory). x.stopped) (refused_is was is step why runs other by).1 ∙ runs)
    where
      always : (x : Result (Unit {0}) Break) → is.stopped ≡ false → IfOk x (λ _. is.stopped ≡ false)
      always (Ok u) h = h
      always (Err e) h = tt

  pub refused_broken : IsStepAnswered number why old new m n b → IfErr b (λ _. IsStepBroken number was step old new)
  refused_broken (memory_ran_out w e k f) = subst (λ (x : Result (Unit {0}) Break). IfErr x (λ _. IsStepBroken number was step old new)) (sym e) (inl k)
  refused_broken (line other r w e) = broken_by number was step is old new m n (refused_line number (why_step why)) (takes_none other) r b e w

-- of two things that hold where a call gave something, the first
pub only_first : {T E : Type 0} (P Q : T → Type 0) (r : Result T E) → IfOk r (λ x. P x × Q x) → IfOk r P
only_first P Q (Ok x) h = h.0
only_first P Q (Err e) h = tt

-- ---- one step after another

module _ (was : PlainHistory) (done : List PlainStep) (k number : ℕ) (now : PlainHistory) (old mid new : Option (List ℕ)) (before faults : ℕ) (so : AreStepsSoFar was done k number now old mid before faults) where
  pub more_steps : (next : PlainHistory) (later : ℕ) (step : PlainStep) → IsStepTaken (number + 1) now step next mid new → next.stopped ≡ false → faults ≤ later
      → AreStepsSoFar was (done ++ step ∷ []) (k + 1) (number + 1) next old new before later
  more_steps next later step taken runs up =
      let long = one_longer done step k so.reached in
      record {
        running = runs;
        counted = (let a = so.counted in omega (arith, a));
        reached = long;
        later = (let a = so.later in omega (arith, a));
        taken = λ past are. (
            let at = so.taken past are in
            let one = taken at.0 at.1 in
            (one.0, one.1, more_taken IsStepTurn past done k number at.0 old mid new before faults at.2 one.0 (number + 1) later step refl one.2 up long)
            );
      }

module _ {X : Type 0} (f : X → PlainStep) (xs : List X) (k : ℕ) (x : X) (within : k < length xs) (is : x ≡ get_or xs k x)
    (was : PlainHistory) (number : ℕ) (now : PlainHistory) (old mid new : Option (List ℕ)) (before faults : ℕ) (so : AreStepsSoFar was (map f (take k xs)) k number now old mid before faults) where
  -- a step broke off, or nothing of it was written
  pub stopped_steps : IsStepBroken (number + 1) now (f x) mid new → (past : Past) → IsPastOf was past → AreBroken IsStepTurn past (map f xs) old new
  stopped_steps (inl keeps) past are =
      let at = so.taken past are in
      stopped_at IsStepTurn past f xs k x within is number at.0 old mid new before faults at.2 (inl keeps)
  stopped_steps (inr broken) past are =
      let at = so.taken past are in
      stopped_at IsStepTurn past f xs k x within is number at.0 old mid new before faults at.2 (inr (broken at.0 at.1))

pub none_stepped : (was : PlainHistory) (old : Option (List ℕ)) (n : ℕ) → was.stopped ≡ false → AreStepsSoFar was [] 0 0 was old old n n
none_stepped was old n runs = record { running = runs; counted = refl; reached = refl; later = omega arith; taken = λ past are. (past, are, none_taken IsStepTurn past past old n refl) }

pub all_stepped : (was : PlainHistory) (done steps : List PlainStep) (k number : ℕ) (now : PlainHistory) (old new : Option (List ℕ)) (before faults : ℕ) → AreStepsSoFar was done k number now old new before faults → done ≡ steps
    → (past : Past) → IsPastOf was past → (last : Past) × IsPastOf now last × AreTaken IsStepTurn past steps last old new
all_stepped was done steps k number now old new before faults so same past are =
    let at = so.taken past are in
    (at.0, at.1, all_taken IsStepTurn past done steps k number at.0 old new before faults at.2 same)
