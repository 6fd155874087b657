-- A text and commands have one outcome.
use Rattle.std.proofs.Common.{◌≡◌, ◌∙◌, ap, sym, subst, refl, ℕ, List, [], ◌∷◌, Result, Ok, Err}
use Rattle.sexpr_read.specs.Tree.{Tree, parts}
use Rattle.sexpr_read.specs.Spelling.{Spells, SpellsAll}
use Rattle.board_errors.specs.declared.errors.BoardError.{BoardError}
use Rattle.board_items.specs.Boards.{PlainBoard}
use Rattle.roundtrip_text.specs.RewrittenText.{Disposition}
use Rattle.pcb_read.specs.Sorts.{sort_of}
use Rattle.pcb_read.specs.BoardOf.{Reading, unread}
use Rattle.pcb_read.specs.BoardText.{BoardSays}
use Rattle.pcb_read.proofs.OneReading.{one_part}
use Rattle.pcb_read.proofs.Parting.{says_tree}
use Rattle.edit_script.specs.Commands.{PlainCommand, add, delete, move, rules, again}
use Rattle.board_edits.specs.declared.refusal.Refusal.{Refusal}
use Rattle.board_edits.specs.Operations.{PlainOperation, nothing, append, put_back, take_out, shift, Does, After, IsLeft, DoAll}
use Rattle.roundtrip_boards.specs.TextChanges.{Change, appends, IsListOf, IsChangeBy, IsChange, AreChanges}
use Rattle.roundtrip_boards.specs.WrittenBoard.{Draft, untouched, with_changes, with_disposition, DispositionsAre, written_by, IsWritten}
use Rattle.board_write.specs.WriteResults.{Outcome, refused_in}

same_ok : {A B : Type 0} {x y : A} → (let p : Result A B = Ok x in p) ≡ Ok y → x ≡ y
same_ok h = cc

-- the dispositions of lists are one
one_dispositions : (draft : Draft) (ts : List Tree) (reading : Reading) (f g : List Disposition) → DispositionsAre draft reading ts f → DispositionsAre draft reading ts g → f ≡ g
one_dispositions draft [] reading f g h k = h ∙ sym k
one_dispositions draft (t ∷ ts) reading f g h k =
    let next : h.0 ≡ k.0 = same_ok (one_part reading t (sort_of t) (Ok h.0) (Ok k.0) h.2 k.2) in
    let others : h.1 ≡ k.1 = one_dispositions draft ts k.0 h.1 k.1 (subst (λ (r : Reading). DispositionsAre draft r ts h.1) next h.3) k.3 in
    h.4 ∙ (ap (λ (r : Reading). with_disposition draft reading r t h.1) next ∙ (ap (λ (fs : List Disposition). with_disposition draft reading k.0 t fs) others ∙ sym k.4))

-- ---- what commands change

module _ (one_forms : (text : List ℕ) (s t : Tree) → SpellsAll text s → SpellsAll text t → s ≡ t) where
  only : {s t : Tree} → s ∷ [] ≡ t ∷ [] → s ≡ t
  only e = cc

  one_list : (command : PlainCommand) (s t : Tree) → IsListOf command s → IsListOf command t → s ≡ t
  one_list (add text at) s t h k = only (sym h.2 ∙ (ap parts (one_forms text h.0 k.0 h.1 k.1) ∙ k.2))
  one_list (delete name at) s t h k = absurd h
  one_list (move name dx dy at) s t h k = absurd h
  one_list (rules text at) s t h k = absurd h
  one_list (again at) s t h k = absurd h

  one_change_by : (command : PlainCommand) (operation : PlainOperation) (x y : Change) → IsChangeBy command operation x → IsChangeBy command operation y → x ≡ y
  one_change_by command nothing x y h k = h ∙ sym k
  one_change_by command (append items) x y h k = h.2 ∙ (ap (λ (t : Tree). appends t items) (one_list command h.0 k.0 h.1 k.1) ∙ sym k.2)
  one_change_by command (put_back items) x y h k = absurd h
  one_change_by command (take_out unit) x y h k = h ∙ sym k
  one_change_by command (shift unit dx dy) x y h k = h ∙ sym k

  one_change : (command : PlainCommand) (answer : Result PlainOperation Refusal) (x y : Change) → IsChange command answer x → IsChange command answer y → x ≡ y
  one_change command (Ok operation) x y h k = one_change_by command operation x y h k
  one_change command (Err why) x y h k = h ∙ sym k

  one_changes : (commands : List PlainCommand) (answers : List (Result PlainOperation Refusal)) (xs ys : List Change) → AreChanges commands answers xs → AreChanges commands answers ys → xs ≡ ys
  one_changes [] [] xs ys h k = h ∙ sym k
  one_changes [] (a ∷ answers) xs ys h k = absurd h
  one_changes (c ∷ commands) [] xs ys h k = absurd h
  one_changes (c ∷ commands) (a ∷ answers) [] ys h k = absurd h
  one_changes (c ∷ commands) (a ∷ answers) (x ∷ xs) [] h k = absurd k
  one_changes (c ∷ commands) (a ∷ answers) (x ∷ xs) (y ∷ ys) h k =
      ap (λ (z : Change). z ∷ xs) (one_change c a x y h.0 k.0) ∙ ap (λ (zs : List Change). y ∷ zs) (one_changes commands answers xs ys h.1 k.1)

-- ---- what commands do

module _ (one_operation : (board : PlainBoard) (command : PlainCommand) (a b : Result PlainOperation Refusal) → Does board command a → Does board command b → a ≡ b)
    (one_board : (old : PlainBoard) (operation : PlainOperation) (a b : PlainBoard) → After old operation a → After old operation b → a ≡ b) where
  one_left : (board : PlainBoard) (answer : Result PlainOperation Refusal) (x y : PlainBoard) → IsLeft board answer x → IsLeft board answer y → x ≡ y
  one_left board (Ok operation) x y h k = one_board board operation x y h k
  one_left board (Err why) x y h k = h ∙ sym k

  one_answers : (commands : List PlainCommand) (board : PlainBoard) (xs ys : List (Result PlainOperation Refusal)) (x y : PlainBoard) → DoAll board commands xs x → DoAll board commands ys y → xs ≡ ys
  one_answers [] board [] [] x y h k = refl
  one_answers [] board [] (b ∷ ys) x y h k = absurd k
  one_answers [] board (a ∷ xs) ys x y h k = absurd h
  one_answers (c ∷ commands) board [] ys x y h k = absurd h
  one_answers (c ∷ commands) board (a ∷ xs) [] x y h k = absurd k
  one_answers (c ∷ commands) board (a ∷ xs) (b ∷ ys) x y h k =
      let same : a ≡ b = one_operation board c a b h.1 k.1 in
      let next : h.0 ≡ k.0 = one_left board b h.0 k.0 (subst (λ (r : Result PlainOperation Refusal). IsLeft board r h.0) same h.2) k.2 in
      let rest : xs ≡ ys = one_answers commands k.0 xs ys x y (subst (λ (n : PlainBoard). DoAll n commands xs x) next h.3) k.3 in
      ap (λ (r : Result PlainOperation Refusal). r ∷ xs) same ∙ ap (λ (rs : List (Result PlainOperation Refusal)). b ∷ rs) rest

-- ---- the text

module _ (one_tree : (text : List ℕ) (s t : Tree) → Spells text s → Spells text t → s ≡ t)
    (one_forms : (text : List ℕ) (s t : Tree) → SpellsAll text s → SpellsAll text t → s ≡ t)
    (one_reading : (text : List ℕ) (a b : Result PlainBoard BoardError) → BoardSays text a → BoardSays text b → a ≡ b)
    (one_operation : (board : PlainBoard) (command : PlainCommand) (a b : Result PlainOperation Refusal) → Does board command a → Does board command b → a ≡ b)
    (one_board : (old : PlainBoard) (operation : PlainOperation) (a b : PlainBoard) → After old operation a → After old operation b → a ≡ b) where
  one_text : (text : List ℕ) (commands : List PlainCommand) (o p : List ℕ) (x y : PlainBoard) (v : IsWritten text commands o x) (w : IsWritten text commands p y) → (v.answers ≡ w.answers) × (o ≡ p)
  one_text text commands o p x y v w =
      let root : v.root ≡ w.root = one_tree text v.root w.root v.spelled w.spelled in
      let board : v.board ≡ w.board = same_ok (one_reading text (Ok v.board) (Ok w.board) (says_tree text v.root (Ok v.board) v.accepted v.spelled v.says) (says_tree text w.root (Ok w.board) w.accepted w.spelled w.says)) in
      let answers : v.answers ≡ w.answers = one_answers one_operation one_board commands w.board v.answers w.answers x y (subst (λ (b : PlainBoard). DoAll b commands v.answers x) board v.done) w.done in
      let changes : v.changes ≡ w.changes =
      one_changes one_forms commands w.answers v.changes w.changes (subst (λ (found : List (Result PlainOperation Refusal)). AreChanges commands found v.changes) answers v.are_changes) w.are_changes in
      let first = subst (λ (t : Tree). DispositionsAre (with_changes (untouched v.board.next_unit) v.changes) unread (parts t) v.dispositions) root v.are_dispositions in
      let second = subst (λ (b : PlainBoard). DispositionsAre (with_changes (untouched b.next_unit) v.changes) unread (parts w.root) v.dispositions) board first in
      let third = subst (λ (cs : List Change). DispositionsAre (with_changes (untouched w.board.next_unit) cs) unread (parts w.root) v.dispositions) changes second in
      let dispositions : v.dispositions ≡ w.dispositions = one_dispositions (with_changes (untouched w.board.next_unit) w.changes) (parts w.root) unread v.dispositions w.dispositions third w.are_dispositions in (
        answers,
        v.written
            ∙ (ap (λ (t : Tree). written_by text t v.dispositions (with_changes (untouched v.board.next_unit) v.changes)) root
            ∙ (ap (λ (fs : List Disposition). written_by text w.root fs (with_changes (untouched v.board.next_unit) v.changes)) dispositions
            ∙ (ap (λ (b : PlainBoard). written_by text w.root w.dispositions (with_changes (untouched b.next_unit) v.changes)) board
            ∙ (ap (λ (cs : List Change). written_by text w.root w.dispositions (with_changes (untouched w.board.next_unit) cs)) changes ∙ sym w.written)))),
      )

  pub one_outcome : (text : List ℕ) (commands : List PlainCommand) (m n : ℕ) (a : Outcome text commands m) (b : Outcome text commands n) → (m ≡ n) × (a.out ≡ b.out)
  one_outcome text commands m n a b =
      let same = one_text text commands a.out b.out a.last b.last a.written b.written in (a.counted ∙ (ap refused_in same.0 ∙ sym b.counted), same.1)
