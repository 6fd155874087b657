-- Why no board is read of a text, from its tree.
use Rattle.std.proofs.Common.{◌≡◌, ◌∙◌, refl, sym, ap, subst, ◌⊎◌, inl, inr, ℕ, List, None, Result, Ok, Err}
use Rattle.sexpr_read.specs.Tree.{Tree}
use Rattle.sexpr_read.specs.Spelling.{Spells}
use Rattle.sexpr_read.specs.TreeRefusals.{refusal_of_one}
use Rattle.board_errors.specs.declared.errors.BoardError.{BoardError}
use Rattle.board_errors.specs.declared.errors.BoardError.TheVariants.{Text, NotABoard, Version, Missing, BadNumber, OutOfBoard, Arc, Turned, PadShape, Ring, UnknownNet, UnknownLayer, ThickFill, TooMany, OutOfMemory as NoMemory}
use Rattle.board_items.specs.Boards.{PlainBoard}
use Rattle.pcb_read.specs.BoardOf.{SaysBoard}
use Rattle.pcb_read.specs.BoardText.{BoardSays}
use Rattle.pcb_read.proofs.Parting.{says_tree}
use Rattle.board_write.specs.declared.error.WriteError.{WriteError}
use Rattle.board_write.specs.declared.error.WriteError.TheVariants.{Board, OutOfMemory}
use Rattle.board_write.specs.WriteResults.{IsCauseBefore}
use Rattle.board_write.specs.WriteErrors.{write_error}

one_of_two : (e : BoardError) → (write_error e ≡ OutOfMemory) ⊎ (write_error e ≡ Board e)
one_of_two (Text x) = inr refl
one_of_two (NotABoard x) = inr refl
one_of_two (Version x) = inr refl
one_of_two (Missing x) = inr refl
one_of_two (BadNumber x) = inr refl
one_of_two (OutOfBoard x) = inr refl
one_of_two (Arc x) = inr refl
one_of_two (Turned x) = inr refl
one_of_two (PadShape x) = inr refl
one_of_two (Ring x) = inr refl
one_of_two (UnknownNet x) = inr refl
one_of_two (UnknownLayer x) = inr refl
one_of_two (ThickFill x) = inr refl
one_of_two (TooMany x) = inr refl
one_of_two NoMemory = inl refl

module _ (text : List ℕ) (tree : Tree) (e : BoardError) (none : refusal_of_one text ≡ None) (spelled : Spells text tree) (given : (e ≡ NoMemory) ⊎ SaysBoard tree (Err e)) where
  pub tree_cause : IsCauseBefore text (write_error e)
  tree_cause = by given (one_of_two e)
    where
      by : (e ≡ NoMemory) ⊎ SaysBoard tree (Err e) → (write_error e ≡ OutOfMemory) ⊎ (write_error e ≡ Board e) → IsCauseBefore text (write_error e)
      by (inl gone) w = subst (λ (x : BoardError). IsCauseBefore text (write_error x)) (sym gone) tt
      by (inr says) (inl w) = subst (IsCauseBefore text) (sym w) tt
      by (inr says) (inr w) = subst (IsCauseBefore text) (sym w) (says_tree text tree (Err e) none spelled says)

  -- and where the text is refused, this is its refusal
  pub tree_refused : ((a b : Result PlainBoard BoardError) → BoardSays text a → BoardSays text b → a ≡ b) → (why : BoardError) → BoardSays text (Err why) → (write_error e ≡ Board why) ⊎ (write_error e ≡ OutOfMemory)
  tree_refused one why told = by given (one_of_two e)
    where
      by : (e ≡ NoMemory) ⊎ SaysBoard tree (Err e) → (write_error e ≡ OutOfMemory) ⊎ (write_error e ≡ Board e) → (write_error e ≡ Board why) ⊎ (write_error e ≡ OutOfMemory)
      by (inl gone) w = inr (ap write_error gone)
      by (inr says) (inl w) = inr w
      by (inr says) (inr w) =
          let both : (let r : Result PlainBoard BoardError = Err e in r) ≡ Err why = one (Err e) (Err why) (says_tree text tree (Err e) none spelled says) told in
          let same : e ≡ why = cc in
          inl (w ∙ ap Board same)

-- a text of which a board is read is not refused
pub read_not_refused : (text : List ℕ) (tree : Tree) (board : PlainBoard) (why : BoardError) → refusal_of_one text ≡ None → Spells text tree → SaysBoard tree (Ok board)
    → ((a b : Result PlainBoard BoardError) → BoardSays text a → BoardSays text b → a ≡ b) → BoardSays text (Err why) → ⊥
read_not_refused text tree board why none spelled says one told =
    let both : (let r : Result PlainBoard BoardError = Ok board in r) ≡ Err why = one (Ok board) (Err why) (says_tree text tree (Ok board) none spelled says) told in
    cc

-- the refusal with which the call ends
pub exit_refused : {T : Type 0} → (r : Result T WriteError) (y : WriteError) (e why : BoardError) → r ≡ Err y → y ≡ write_error e → (write_error e ≡ Board why) ⊎ (write_error e ≡ OutOfMemory)
    → (r ≡ Err (Board why)) ⊎ (r ≡ Err OutOfMemory)
exit_refused r y e why is same (inl k) = inl (is ∙ ap (λ (x : WriteError). Err x) (same ∙ k))
exit_refused r y e why is same (inr k) = inr (is ∙ ap (λ (x : WriteError). Err x) (same ∙ k))
