-- What commands give that begin with one thing is one output, and what is written after some of the commands is a prefix of it.
use Rattle.std.proofs.Common.{◌≡◌, ◌∙◌, ap, sym, subst, ℕ, Bool, List, ◌++◌}
use Rattle.std.proofs.lemmas.List.{append_assoc}
use Rattle.pair_check.specs.PlainRow.{PlainRow}
use Rattle.pair_check.specs.Rows.{Checked, AreRows}
use Rattle.drc_rows.specs.Report.{rows_text}
use Rattle.drc_rows.specs.ReportOf.{first_line}
use Rattle.drc_state.specs.States.{State, checked_in}
use Rattle.run_output.specs.Reports.{IsOpening}
use Rattle.run_output.specs.Output.{Output, IsStatusOf, status_of, IsToldBy, IsToldSoFarBy, AreRowsTold}
use Rattle.run_output.proofs.TurnLists.{IsOne, one_text, prefix_of_all}

module _ (one_list : (c : Checked) (a b : List PlainRow) → AreRows c a → AreRows c b → a ≡ b)
    (one_opening : (short : Bool) (s : State) (xs ys : List ℕ) → IsOpening short s xs → IsOpening short s ys → xs ≡ ys)
    {S C : Type 0} (Turn : ℕ → S → C → S → List ℕ → Type 0) (one_turn : IsOne Turn) (present : S → State) (short : Bool) where
  one_status : (s : State) (m n : ℕ) → IsStatusOf s m → IsStatusOf s n → m ≡ n
  one_status s m n h k = h.status_is ∙ (ap status_of (one_list (checked_in s) h.rows k.rows h.are_rows k.are_rows) ∙ sym k.status_is)

  pub one_told : (start : S) (commands : List C) (a b : Output) → IsToldBy Turn present short start commands a → IsToldBy Turn present short start commands b → a ≡ b
  one_told start commands a b h k =
      let first = one_opening short (present start) h.first k.first h.first_is k.first_is in
      let rest = one_text Turn one_turn 1 start commands h.last k.last h.rest k.rest h.turns k.turns in
      let text : a.text ≡ b.text = h.text_is ∙ (ap (λ (xs : List ℕ). xs ++ h.rest) first ∙ (ap (λ (xs : List ℕ). k.first ++ xs) rest.1 ∙ sym k.text_is)) in
      let status : a.status ≡ b.status = one_status (present k.last) a.status b.status (subst (λ (s : S). IsStatusOf (present s) a.status) rest.0 h.status) k.status in
      ap (λ t. record { text = t; status = a.status }) text ∙ ap (λ s. record { text = b.text; status = s }) status

  pub prefix_of_told : (start : S) (commands : List C) (text : List ℕ) (out : Output) → IsToldSoFarBy Turn present short start commands text → IsToldBy Turn present short start commands out → (rest : List ℕ) × (out.text ≡ text ++ rest)
  prefix_of_told start commands text out h k =
      let first = one_opening short (present start) h.first k.first h.first_is k.first_is in
      let more = prefix_of_all Turn one_turn start commands k.last h.rest k.rest h.turns k.turns in (
        more.0,
        k.text_is
            ∙ (ap (λ (zs : List ℕ). zs ++ k.rest) (sym first)
            ∙ (ap (λ (zs : List ℕ). h.first ++ zs) more.1 ∙ (sym (append_assoc h.first h.rest more.0) ∙ ap (λ (zs : List ℕ). zs ++ more.0) (sym h.text_is)))),
      )

-- rows alone are told in one way
pub one_stolen : ((c : Checked) (a b : List PlainRow) → AreRows c a → AreRows c b → a ≡ b) → (opening : State) (a b : Output) → AreRowsTold opening a → AreRowsTold opening b → a ≡ b
one_stolen one_list opening a b h k =
    let same = one_list (checked_in opening) h.rows k.rows h.are_rows k.are_rows in
    let text : a.text ≡ b.text = h.text_is ∙ (ap (λ (rows : List PlainRow). first_line 0 ++ rows_text opening.board opening.rules.rules rows) same ∙ sym k.text_is) in
    let status : a.status ≡ b.status = h.status_is ∙ (ap status_of same ∙ sym k.status_is) in
    ap (λ t. record { text = t; status = a.status }) text ∙ ap (λ s. record { text = b.text; status = s }) status
