-- The trial of a command writes one text, and so do the trials of commands with the line behind them.
use Rattle.std.proofs.Common.{◌≡◌, ◌∙◌, ap, sym, subst, ℕ, ◌+◌, false, List, [], ◌++◌, length, codes, decimal, append_assoc, Option, Some, None, Result, Ok, Err}
use Rattle.pair_check.specs.PlainRow.{PlainRow}
use Rattle.pair_check.specs.Rows.{Checked, AreRows}
use Rattle.drc_rows.specs.Report.{number_line}
use Rattle.edit_script.specs.Commands.{PlainCommand}
use Rattle.drc_state.specs.declared.error.EditError.{EditError}
use Rattle.drc_state.specs.States.{State, checked_in}
use Rattle.drc_state.specs.CommandSteps.{Answers}
use Rattle.what_if.specs.Trials.{IsDifference, IsSurvey}
use Rattle.run_output.specs.Reports.{refused_trial, why_edit}
use Rattle.run_output.specs.CommandOutputs.{marked_lines, IsTrialText, or_some, IsTrial, untried, tried}
use Rattle.run_output.specs.Output.{Output, IsLeastLine, status_if, AreTrialsTold, AreFirstTrials}
use Rattle.run_output.proofs.TurnLists.{IsOne, one_text, prefix_of_all}

-- the last line
some_once : (m n : ℕ) → Some (Some m) ≡ Some (Some n) → m ≡ n
some_once m n e = cc

one_line : (counts : List (Option ℕ)) (least : Option ℕ) (xs ys : List ℕ) → IsLeastLine counts least xs → IsLeastLine counts least ys → xs ≡ ys
one_line counts None xs ys h k = h ∙ sym k
one_line counts (Some place) xs ys h k =
    let count : h.0 ≡ k.0 = some_once h.0 k.0 (sym h.1 ∙ k.1) in
    h.2 ∙ (ap (λ (n : ℕ). codes "least " ++ decimal (place + 1) ++ codes " with " ++ decimal n ++ codes " rows\n") count ∙ sym k.2)

module _ (one_answer : (s : State) (command : PlainCommand) (a b : Result State EditError) → Answers s command a → Answers s command b → a ≡ b)
    (one_list : (c : Checked) (a b : List PlainRow) → AreRows c a → AreRows c b → a ≡ b)
    (one_difference : (before after : State) (come others gone lost : List PlainRow) → IsDifference before after come gone → IsDifference before after others lost → (come ≡ others) × (gone ≡ lost)) where
  same_why : (s : State) (command : PlainCommand) (a b : EditError) → Answers s command (Err a) → Answers s command (Err b) → a ≡ b
  same_why s command a b h k = let e = one_answer s command (Err a) (Err b) h k in cc

  same_after : (s : State) (command : PlainCommand) (a b : State) → Answers s command (Ok a) → Answers s command (Ok b) → a ≡ b
  same_after s command a b h k = let e = one_answer s command (Ok a) (Ok b) h k in cc

  not_both : (s : State) (command : PlainCommand) (a : EditError) (b : State) → Answers s command (Err a) → Answers s command (Ok b) → ⊥
  not_both s command a b h k = let e = one_answer s command (Err a) (Ok b) h k in absurd cc

  abbrev all_lines : ℕ → State → State → List PlainRow → List PlainRow → List PlainRow → List ℕ
  all_lines n s after gone come rows =
      number_line (codes "trial ") n [] ++ marked_lines (codes "- ") s gone ++ marked_lines (codes "+ ") after come ++ number_line (codes "rows ") (length rows) []

  one_trial_text : (n : ℕ) (s after : State) (come others : List PlainRow) (xs ys : List ℕ) → IsTrialText n s after come xs → IsTrialText n s after others ys → (come ≡ others) × (xs ≡ ys)
  one_trial_text n s after come others xs ys h k =
      let rows = one_list (checked_in after) h.rows k.rows h.are_rows k.are_rows in
      let differ = one_difference s after come others h.gone k.gone h.differ k.differ in (
        differ.0,
        h.text_is
            ∙ (ap (λ (l : List PlainRow). all_lines n s after l come h.rows) differ.1
            ∙ (ap (λ (l : List PlainRow). all_lines n s after k.gone l h.rows) differ.0 ∙ (ap (λ (l : List PlainRow). all_lines n s after k.gone others l) rows ∙ sym k.text_is))),
      )

  module _ (s : State) where
    one_trial : IsOne (IsTrial s)
    one_trial n comes command a b xs ys (untried why h e t) (untried other k f u) = (e ∙ sym f, t ∙ (ap (λ (w : EditError). refused_trial n (why_edit w)) (same_why s command why other h k) ∙ sym u))
    one_trial n comes command a b xs ys (untried why h e t) (tried after k come u f) = absurd (not_both s command why after h k)
    one_trial n comes command a b xs ys (tried after h come t e) (untried why k f u) = absurd (not_both s command why after k h)
    one_trial n comes command a b xs ys (tried after h come t e) (tried then k others u f) =
        let same = same_after s command after then h k in
        let text = one_trial_text n s then come others xs ys (subst (λ (x : State). IsTrialText n s x come xs) same t) u in
        (e ∙ (ap (or_some comes) text.0 ∙ sym f), text.1)

    module _ (one_survey : (commands : List PlainCommand) (counts others : List (Option ℕ)) (least other : Option ℕ) → IsSurvey s commands counts least → IsSurvey s commands others other → (counts ≡ others) × (least ≡ other)) where
      pub one_tried : (commands : List PlainCommand) (a b : Output) → AreTrialsTold s commands a → AreTrialsTold s commands b → a ≡ b
      one_tried commands a b h k =
          let turns = one_text (IsTrial s) one_trial 1 false commands h.comes k.comes h.rest k.rest h.trials k.trials in
          let survey = one_survey commands h.counts k.counts h.least k.least h.survey k.survey in
          let h_last = subst (λ (l : Option ℕ). IsLeastLine k.counts l h.last) survey.1 (subst (λ (cs : List (Option ℕ)). IsLeastLine cs h.least h.last) survey.0 h.last_is) in
          let last = one_line k.counts k.least h.last k.last h_last k.last_is in
          let text : a.text ≡ b.text = h.text_is ∙ (ap (λ (zs : List ℕ). zs ++ h.last) turns.1 ∙ (ap (λ (zs : List ℕ). k.rest ++ zs) last ∙ sym k.text_is)) in
          let status : a.status ≡ b.status = h.status ∙ (ap status_if turns.0 ∙ sym k.status) in
          ap (λ t. record { text = t; status = a.status }) text ∙ ap (λ n. record { text = b.text; status = n }) status

    pub prefix_of_tried : (commands : List PlainCommand) (text : List ℕ) (out : Output) → AreFirstTrials s commands text → AreTrialsTold s commands out → (rest : List ℕ) × (out.text ≡ text ++ rest)
    prefix_of_tried commands text out f k =
        let more = prefix_of_all (IsTrial s) one_trial false commands k.comes text k.rest f k.trials in
        (more.0 ++ k.last, k.text_is ∙ (ap (λ (zs : List ℕ). zs ++ k.last) more.1 ∙ append_assoc text more.0 k.last))
