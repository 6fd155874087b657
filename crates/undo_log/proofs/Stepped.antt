-- The calls of a history, by what was kept of them.
use Rattle.std.proofs.Common.{◌≡◌, refl, sym, subst, ℕ, Bool, true, false, List, [], ◌∷◌, Ok, if◌then◌else◌}
use Rattle.edit_script.specs.Commands.{PlainCommand, edit, undo, redo}
use Rattle.drc_state.specs.States.{State}
use Rattle.drc_state.specs.CommandSteps.{is_rules, Answers}
use Rattle.drc_state.specs.StateChanges.{PlainChange, is_replace, Makes}
use Rattle.drc_session.specs.declared.applied.Applied.{Applied}
use Rattle.drc_session.specs.Sessions.{IsApplied, IsCarriedOut}
use Rattle.undo_log.specs.Past.{Past, Passed, is_again, edited, undone, redone, nearest_replaced}
use Rattle.undo_log.specs.Ways.{PlainHistory, ChangeLeadsTo, DoLead, AreWays, IsPastOf, HasPast}
use Rattle.undo_log.specs.Keeping.{IsNoted, IsSwitched}
use Rattle.undo_log.specs.HistoryCalls.{IsStepFrom, IsHistoryStepTaken}
use Rattle.undo_log.proofs.Answers.{more_answered, one_again}
use Rattle.undo_log.proofs.Ways.{one_edit}

ways_on : (s t : State) (back back_now on on_now : List PlainChange) (past : Past) → t ≡ s → back_now ≡ back → on_now ≡ on → AreWays s back on past → AreWays t back_now on_now past
ways_on s t back back_now on on_now past same b o ways =
    subst (λ (x : State). AreWays x back_now on_now past) (sym same)
    (subst (λ (cs : List PlainChange). AreWays s cs on_now past) (sym b)
    (subst (λ (cs : List PlainChange). AreWays s back cs past) (sym o) ways))

applied_on : (s t was is : State) (replaced does : Bool) (applied : Applied) → was ≡ s → is ≡ t → does ≡ replaced → IsApplied s t replaced applied → IsApplied was is does applied
applied_on s t was is replaced does applied w i d h =
    subst (λ (x : State). IsApplied x is does applied) (sym w)
    (subst (λ (x : State). IsApplied s x does applied) (sym i)
    (subst (λ (b : Bool). IsApplied s t b applied) (sym d) h))

-- ---- edits

module _ (old new : PlainHistory) (command : PlainCommand) (applied : Applied) (carried : IsCarriedOut old.session new.session command applied)
    (noted : IsNoted old.session.state new.session.state command old.back new.back old.on new.on) where
  abbrev s : State
  s = old.session.state

  abbrev t : State
  t = new.session.state

  ways_edited : (past : Past) → IsPastOf old past → Answers s command (Ok t) → (b : Bool) → is_again command ≡ b → AreWays t new.back new.on (edited past command t)
  ways_edited past ways says true is =
      let same = noted.again is in
      subst (λ (b : Bool). AreWays t new.back new.on (if b then past else record { earlier = record { state = past.now; replaced = is_rules command } ∷ past.earlier; now = t; later = [] })) (sym is)
      (ways_on s t old.back new.back old.on new.on past (one_again s t command is says) same.0 same.1 ways)
  ways_edited past ways says false is =
      let kept = noted.other is in
      let more = more_answered s t command says in
      ways_on t t (kept.0 ∷ old.back) new.back [] new.on (edited past command t) refl kept.2 kept.3
      (one_edit s t command kept.0 old.back old.on past ways is more.ids more.units kept.1)

  step_edited : (past : Past) → IsPastOf old past → IsStepFrom past new (edit command) applied
  step_edited past ways =
      let after = ways_edited past ways carried.answer (is_again command) refl in
      record {
        next = edited past command t;
        answer = (Ok t, subst (λ (x : State). Answers x command (Ok t)) (sym ways.present) carried.answer, refl);
        is_past = after;
        applied_is = applied_on s t past.now (edited past command t).now (is_rules command) (is_rules command) applied ways.present after.present refl carried.applied_is;
      }

  pub edit_taken : old.stopped ≡ false → new.stopped ≡ false → HasPast old → IsHistoryStepTaken old new (edit command) applied
  edit_taken was runs past = record { running = (was, runs); past = past; steps = step_edited }

-- ---- steps back and on

-- the nearest change replaces the rules exactly where they were replaced before the nearest state
nearest_kind : (now : State) (change : PlainChange) (others : List PlainChange) (passed : List Passed) → DoLead now (change ∷ others) passed → nearest_replaced passed ≡ is_replace change
nearest_kind now change others [] h = absurd h
nearest_kind now change others (one ∷ far) h = sym h.0.kind

module _ (old new : PlainHistory) (applied : Applied) where
  abbrev was : State
  was = old.session.state

  abbrev is : State
  is = new.session.state

  module _ (one_undo : (s t : State) (change other : PlainChange) (back on : List PlainChange) (past : Past) → AreWays s (change ∷ back) on past → Makes change s t → ChangeLeadsTo other t (record { state = s; replaced = is_replace change })
      → (next : Past) × (undone past ≡ Ok next) × AreWays t back (other ∷ on) next)
      (switched : IsSwitched old.session new.session old.back new.back old.on new.on applied) where
    step_undone : (at : ℕ) (past : Past) → IsPastOf old past → IsStepFrom past new (undo at) applied
    step_undone at past ways =
        let here = ways_on was was old.back (switched.change ∷ new.back) old.on old.on past refl (sym switched.from_is) refl ways in
        let found = one_undo was is switched.change switched.back new.back old.on past here switched.turned.makes switched.leads in
        record {
          next = found.0;
          answer = sym found.1;
          is_past = ways_on is is new.back new.back (switched.back ∷ old.on) new.on found.0 refl refl switched.to_is found.2;
          applied_is = applied_on was is past.now found.0.now (is_replace switched.change) (nearest_replaced past.earlier) applied ways.present found.2.present (nearest_kind was switched.change new.back past.earlier here.earlier) switched.turned.applied_is;
        }

    pub undo_taken : old.stopped ≡ false → new.stopped ≡ false → HasPast old → (at : ℕ) → IsHistoryStepTaken old new (undo at) applied
    undo_taken w r past at = record { running = (w, r); past = past; steps = step_undone at }

  module _ (one_redo : (s t : State) (change other : PlainChange) (back on : List PlainChange) (past : Past) → AreWays s back (change ∷ on) past → Makes change s t → ChangeLeadsTo other t (record { state = s; replaced = is_replace change })
      → (next : Past) × (redone past ≡ Ok next) × AreWays t (other ∷ back) on next)
      (switched : IsSwitched old.session new.session old.on new.on old.back new.back applied) where
    step_redone : (at : ℕ) (past : Past) → IsPastOf old past → IsStepFrom past new (redo at) applied
    step_redone at past ways =
        let here = ways_on was was old.back old.back old.on (switched.change ∷ new.on) past refl refl (sym switched.from_is) ways in
        let found = one_redo was is switched.change switched.back old.back new.on past here switched.turned.makes switched.leads in
        record {
          next = found.0;
          answer = sym found.1;
          is_past = ways_on is is (switched.back ∷ old.back) new.back new.on new.on found.0 refl switched.to_is refl found.2;
          applied_is = applied_on was is past.now found.0.now (is_replace switched.change) (nearest_replaced past.later) applied ways.present found.2.present (nearest_kind was switched.change new.on past.later here.later) switched.turned.applied_is;
        }

    pub redo_taken : old.stopped ≡ false → new.stopped ≡ false → HasPast old → (at : ℕ) → IsHistoryStepTaken old new (redo at) applied
    redo_taken w r past at = record { running = (w, r); past = past; steps = step_redone at }
