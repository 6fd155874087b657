-- The turn of a command leads to one state and writes one text, and so does that of a step.
use Rattle.std.proofs.Common.{◌≡◌, ◌∙◌, ap, sym, subst, ℕ, Bool, false, List, length, Result, Ok, Err}
use Rattle.board_items.specs.Boards.{PlainBoard}
use Rattle.pair_check.specs.PlainRow.{PlainRow}
use Rattle.pair_check.specs.Rows.{Checked, AreRows}
use Rattle.net_groups.specs.NetParts.{PlainNetPart, AreParts}
use Rattle.drc_rows.specs.ReportOf.{Found}
use Rattle.edit_script.specs.Commands.{PlainCommand, PlainStep}
use Rattle.drc_state.specs.declared.error.EditError.{EditError}
use Rattle.drc_state.specs.States.{State, checked_in}
use Rattle.drc_state.specs.CommandSteps.{is_rules, Answers}
use Rattle.drc_state.specs.Recheck.{AreHeld, AreRechecked, IsHeldCount}
use Rattle.undo_log.specs.declared.error.HistoryError.{HistoryError}
use Rattle.undo_log.specs.Past.{Past, StepAnswers, does_replace}
use Rattle.run_output.specs.Reports.{AreFindings, IsReport, IsOpening, report_text, refused_line, why_edit, why_step}
use Rattle.run_output.specs.CommandOutputs.{IsTurn, refused, made, IsStepTurn, unstepped, stepped}
use Rattle.run_output.proofs.TurnLists.{IsOne}

module _ (one_list : (c : Checked) (a b : List PlainRow) → AreRows c a → AreRows c b → a ≡ b)
    (one_parts : (board : PlainBoard) (a b : List PlainNetPart) → AreParts board a → AreParts board b → a ≡ b)
    (one_held : (c : Checked) (a b : List ℕ) → AreHeld c a → AreHeld c b → a ≡ b) where
  one_count : (c : Checked) (m n : ℕ) → IsHeldCount c m → IsHeldCount c n → m ≡ n
  one_count c m n h k = h.count_is ∙ (ap length (one_held c h.tiles k.tiles h.are_held k.are_held) ∙ sym k.count_is)

  one_finding : (s : State) (a b : Found) → AreFindings s a → AreFindings s b → a ≡ b
  one_finding s a b h k =
      ap (λ (x : List PlainRow). record a { rows = x }) (one_list (checked_in s) a.rows b.rows h.rows k.rows)
      ∙ (ap (λ (x : List PlainNetPart). record a { rows = b.rows; parts = x }) (one_parts s.board a.parts b.parts h.parts k.parts)
      ∙ ap (λ (x : ℕ). record b { held = x }) (one_count (checked_in s) a.held b.held h.held k.held))

  one_report : (short : Bool) (n : ℕ) (s : State) (done : ℕ) (xs ys : List ℕ) → IsReport short n s done xs → IsReport short n s done ys → xs ≡ ys
  one_report short n s done xs ys h k = h.text_is ∙ (ap (λ (f : Found). report_text short n s f done) (one_finding s h.found k.found h.are_findings k.are_findings) ∙ sym k.text_is)

  pub one_opening : (short : Bool) (s : State) (xs ys : List ℕ) → IsOpening short s xs → IsOpening short s ys → xs ≡ ys
  one_opening short s xs ys h k = h.text_is ∙ (ap (λ (f : Found). report_text short 0 s f f.held) (one_finding s h.found k.found h.are_findings k.are_findings) ∙ sym k.text_is)

  abbrev err : EditError → Result State EditError
  err e = Err e

  abbrev ok : State → Result State EditError
  ok s = Ok s

  whys : (a b : EditError) → err a ≡ err b → a ≡ b
  whys a b e = cc

  states : (a b : State) → ok a ≡ ok b → a ≡ b
  states a b e = cc

  not_both : (a : EditError) (b : State) → err a ≡ ok b → ⊥
  not_both a b e = cc

  module _ (one_answer : (s : State) (command : PlainCommand) (a b : Result State EditError) → Answers s command a → Answers s command b → a ≡ b)
      (one_recheck : (old new : Checked) (replaced : Bool) (tiles others : List ℕ) → AreRechecked old new replaced tiles → AreRechecked old new replaced others → tiles ≡ others)
      (short : Bool) where
    pub one_turn : IsOne (IsTurn short)
    one_turn n s command a b xs ys (refused why h e t) (refused other k f u) =
        (e ∙ sym f, t ∙ (ap (λ (w : EditError). refused_line n (why_edit w)) (whys why other (one_answer s command (Err why) (Err other) h k)) ∙ sym u))
    one_turn n s command a b xs ys (refused why h e t) (made k tiles r u) = absurd (not_both why b (one_answer s command (Err why) (Ok b) h k))
    one_turn n s command a b xs ys (made h tiles r t) (refused why k f u) = absurd (not_both why a (one_answer s command (Err why) (Ok a) k h))
    one_turn n s command a b xs ys (made h tiles r t) (made k others q u) =
        let same = states a b (one_answer s command (Ok a) (Ok b) h k) in
        let r_b = subst (λ (x : State). AreRechecked (checked_in s) (checked_in x) (is_rules command) tiles) same r in
        let tiles_same = one_recheck (checked_in s) (checked_in b) (is_rules command) tiles others r_b q in
        let t_b = subst (λ (x : State). IsReport short n x (length tiles) xs) same t in
        (same, one_report short n b (length others) xs ys (subst (λ (ts : List ℕ). IsReport short n b (length ts) xs) tiles_same t_b) u)

  -- the same of a step
  module _ (one_step : (past : Past) (step : PlainStep) (a b : Result Past HistoryError) → StepAnswers past step a → StepAnswers past step b → a ≡ b)
      (one_recheck : (old new : Checked) (replaced : Bool) (tiles others : List ℕ) → AreRechecked old new replaced tiles → AreRechecked old new replaced others → tiles ≡ others) where
    abbrev no_step : HistoryError → Result Past HistoryError
    no_step e = Err e

    abbrev step_to : Past → Result Past HistoryError
    step_to past = Ok past

    step_whys : (a b : HistoryError) → no_step a ≡ no_step b → a ≡ b
    step_whys a b e = cc

    pasts : (a b : Past) → step_to a ≡ step_to b → a ≡ b
    pasts a b e = cc

    not_both_steps : (a : HistoryError) (b : Past) → no_step a ≡ step_to b → ⊥
    not_both_steps a b e = cc

    pub one_step_turn : IsOne IsStepTurn
    one_step_turn n past step a b xs ys (unstepped why h e t) (unstepped other k f u) =
        (e ∙ sym f, t ∙ (ap (λ (w : HistoryError). refused_line n (why_step w)) (step_whys why other (one_step past step (Err why) (Err other) h k)) ∙ sym u))
    one_step_turn n past step a b xs ys (unstepped why h e t) (stepped k tiles r u) = absurd (not_both_steps why b (one_step past step (Err why) (Ok b) h k))
    one_step_turn n past step a b xs ys (stepped h tiles r t) (unstepped why k f u) = absurd (not_both_steps why a (one_step past step (Err why) (Ok a) k h))
    one_step_turn n past step a b xs ys (stepped h tiles r t) (stepped k others q u) =
        let same = pasts a b (one_step past step (Ok a) (Ok b) h k) in
        let replaced = does_replace past step in
        let r_b = subst (λ (x : Past). AreRechecked (checked_in past.now) (checked_in x.now) replaced tiles) same r in
        let tiles_same = one_recheck (checked_in past.now) (checked_in b.now) replaced tiles others r_b q in
        let t_b = subst (λ (x : Past). IsReport false n x.now (length tiles) xs) same t in
        (same, one_report false n b.now (length others) xs ys (subst (λ (ts : List ℕ). IsReport false n b.now (length ts) xs) tiles_same t_b) u)
