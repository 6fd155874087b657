-- A text and commands give one output.
use Rattle.std.proofs.Common.{◌≡◌, ◌∙◌, ap, sym, ℕ, List}
use Rattle.edit_script.specs.Commands.{PlainCommand}
use Rattle.board_write.specs.WriteResults.{Outcome}
use Rattle.run_output.specs.Output.{Output, status_after, IsBoardWritten}

module _ (one_outcome : (text : List ℕ) (commands : List PlainCommand) (m n : ℕ) (a : Outcome text commands m) (b : Outcome text commands n) → (m ≡ n) × (a.out ≡ b.out)) where
  pub one_written : (text : List ℕ) (commands : List PlainCommand) (a b : Output) → IsBoardWritten text commands a → IsBoardWritten text commands b → a ≡ b
  one_written text commands a b h k =
      let same = one_outcome text commands h.refusals k.refusals h.outcome k.outcome in
      let text : a.text ≡ b.text = h.text_is ∙ (same.1 ∙ sym k.text_is) in
      let status : a.status ≡ b.status = h.status_is ∙ (ap status_after same.0 ∙ sym k.status_is) in
      ap (λ t. record { text = t; status = a.status }) text ∙ ap (λ s. record { text = b.text; status = s }) status
