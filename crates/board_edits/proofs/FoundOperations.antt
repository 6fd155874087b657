-- What a command does is one thing, and so is what an operation makes.
use Rattle.std.proofs.Common.{◌≡◌, ◌⊎◌, inl, inr, ◌∙◌, ap, sym, subst, refl, ℕ, ℤ, List, Result, Ok, Err, MatchResult}
use Rattle.board_errors.specs.declared.errors.BoardError.{BoardError}
use Rattle.board_errors.specs.declared.errors.BoardError.TheVariants.{OutOfMemory as NoMemory}
use Rattle.one_item.specs.declared.item.Item.{Item}
use Rattle.board_items.specs.Boards.{PlainBoard}
use Rattle.board_items.specs.UnitMoves.{IsMoved}
use Rattle.pcb_read.specs.ItemText.{SaysItem}
use Rattle.edit_script.specs.Commands.{PlainCommand, add, delete, move, rules, again}
use Rattle.board_edits.specs.declared.operation.Operation.{Operation}
use Rattle.board_edits.specs.declared.refusal.Refusal.{Refusal}
use Rattle.board_edits.specs.declared.refusal.Refusal.TheVariants.{OutOfMemory}
use Rattle.board_edits.specs.Operations.{PlainOperation, nothing, append, put_back, take_out, shift, appended, Does, After}
use Rattle.board_edits.specs.Fitting.{plain_operation}
use Rattle.board_edits.specs.Planning.{IsFound, refusal_in}
use Rattle.board_edits.proofs.PutItems.{put_once}

module _ (one_list : (board : PlainBoard) (unit : ℕ) (text : List ℕ) (at : ℕ) (a b : Result (List Item) BoardError) → SaysItem board unit text at a → SaysItem board unit text at b → a ≡ b) where
  pub one_operation : (board : PlainBoard) (command : PlainCommand) (a b : Result PlainOperation Refusal) → Does board command a → Does board command b → a ≡ b
  one_operation board (add text at) a b h k = h.2 ∙ (ap appended (one_list board board.next_unit text at h.0 k.0 h.1 k.1) ∙ sym k.2)
  one_operation board (delete name at) a b h k = h ∙ sym k
  one_operation board (move name dx dy at) a b h k = h ∙ sym k
  one_operation board (rules text at) a b h k = h ∙ sym k
  one_operation board (again at) a b h k = h ∙ sym k

module _ (one_move : (unit : ℕ) (dx dy : ℤ) (old a b : PlainBoard) → IsMoved unit dx dy old a → IsMoved unit dx dy old b → a ≡ b) where
  pub one_board : (old : PlainBoard) (operation : PlainOperation) (a b : PlainBoard) → After old operation a → After old operation b → a ≡ b
  one_board old nothing a b h k = h ∙ sym k
  one_board old (append items) a b h k = h ∙ sym k
  one_board old (put_back items) a b h k = put_once old a b items h k
  one_board old (take_out unit) a b h k = h ∙ sym k
  one_board old (shift unit dx dy) a b h k = one_move unit dx dy old a b h k

-- an added list that is refused
pub found_refusal : (board : PlainBoard) (text : List ℕ) (at unit : ℕ) (why : BoardError) (refusal : Refusal) → unit ≡ board.next_unit → (why ≡ NoMemory) ⊎ SaysItem board unit text at (Err why) → refusal ≡ refusal_in why → IsFound board (add text at) (Err refusal)
found_refusal board text at unit why refusal u says e = subst (λ (r : Refusal). IsFound board (add text at) (Err r)) (sym e) (by why (subst (λ (n : ℕ). (why ≡ NoMemory) ⊎ SaysItem board n text at (Err why)) u says))
  where
    refused : (w : BoardError) → SaysItem board board.next_unit text at (Err w) → IsFound board (add text at) (Err (refusal_in w))
    refused NoMemory s = inl refl
    refused w s = inr (Err w, s, refl)

    by : (w : BoardError) → (w ≡ NoMemory) ⊎ SaysItem board board.next_unit text at (Err w) → IsFound board (add text at) (Err (refusal_in w))
    by w (inl q) = inl (ap refusal_in q)
    by w (inr s) = refused w s

-- what was found is the one thing that the command does
pub only_one : ((board : PlainBoard) (command : PlainCommand) (a b : Result PlainOperation Refusal) → Does board command a → Does board command b → a ≡ b)
    → (board : PlainBoard) (command : PlainCommand) (found : Result Operation Refusal) → IsFound board command found → (answer : Result PlainOperation Refusal) → Does board command answer
    → MatchResult found (λ operation. answer ≡ Ok (plain_operation operation)) (λ why. (why ≡ OutOfMemory) ⊎ (answer ≡ Err why))
only_one one board command (Ok operation) f answer d = one board command answer (Ok (plain_operation operation)) d f
only_one one board command (Err why) (inl e) answer d = inl e
only_one one board command (Err why) (inr f) answer d = inr (one board command answer (Err why) d f)
