-- Boards that come back, with the numbers of the present.
use Rattle.std.proofs.Common.{◌≡◌, ◌∙◌, ap, ℕ}
use Rattle.board_items.specs.Boards.{PlainBoard}
use Rattle.board_edits.specs.Fitting.{returned_board}

pub returned_same : (old new : PlainBoard) → new.next_id ≡ old.next_id → new.next_unit ≡ old.next_unit → returned_board old new ≡ old
returned_same old new i u = ap (λ (n : ℕ). record old { next_id = n; next_unit = new.next_unit }) i ∙ ap (λ (n : ℕ). record old { next_unit = n }) u
