-- The root of a board's text: what it is read as, and that its trees may be written.
use Rattle.std.proofs.Common.{◌≡◌, ◌∙◌, refl, sym, ap, subst, ℕ, suc, ◌≤◌, arith, Bool, true, List, length, codes, IsUtf8, None, Result, Ok, Err}
use Rattle.std.specs.Prelude.{slice_range}
use Rattle.sexpr_read.specs.declared.place.Span.{Span}
use Rattle.sexpr_read.specs.Tree.{Forest, none, atom, list, Tree, leaf, branch, trees, parts, levels_in}
use Rattle.sexpr_read.specs.Spelling.{Spells}
use Rattle.sexpr_read.specs.TreeRefusals.{refusal_of_one}
use Rattle.sexpr_read.proofs.Accepted.{accepted, refusal_of_utf8}
use Rattle.board_errors.specs.declared.errors.BoardError.{BoardError}
use Rattle.board_errors.specs.declared.errors.BoardError.TheVariants.{NotABoard, Missing}
use Rattle.board_items.specs.Boards.{PlainBoard}
use Rattle.list_read.specs.FirstRefusals.{◌>>=◌, check}
use Rattle.list_read.specs.ListHeads.{place, has_head}
use Rattle.roundtrip_text.specs.Pieces.{WritesForest}
use Rattle.roundtrip_text.specs.RewrittenText.{AreAtoms}
use Rattle.roundtrip_text.specs.Utf8.{AreUtf8}
use Rattle.roundtrip_text.proofs.Cutting.{cut_forest}
use Rattle.roundtrip_text.proofs.Utf8.{utf8_apart}
use Rattle.roundtrip_text.proofs.Whole.{take_all_of}
use Rattle.pcb_read.specs.BoardOf.{Reading, unread, header_in, SaysParts, board_in, SaysAfter, SaysBoard}
use Rattle.pcb_read.specs.BoardText.{BoardSays}
use Rattle.pcb_read.proofs.Parting.{says_tree}
use Rattle.roundtrip_boards.proofs.Heading.{holds}

-- ---- what a root that is accepted says

pub record RootSays (root : Tree) (board : PlainBoard) : Type 0 where
  pub span : Span
  pub head_span : Span
  pub quoted : Bool
  pub head : List ℕ
  pub others : Forest
  pub is : root ≡ branch span (atom head_span quoted head others)
  pub accepted : header_in (branch span (atom head_span quoted head others)) ≡ Ok tt
  pub reading : Reading
  pub says : SaysParts unread (trees (atom head_span quoted head others)) (Ok reading)
  pub board_is : board ≡ reading.board
  pub layered : reading.layered ≡ true

same_ok : {A : Type 0} {x y : A} → (let r : Result A BoardError = Ok x in r) ≡ Ok y → x ≡ y
same_ok h = cc

no_board : {e : BoardError} {board : PlainBoard} → (let r : Result PlainBoard BoardError = Ok board in r) ≡ Err e → ⊥
no_board h = let c = h in cc

record ReadSays (root : Tree) (board : PlainBoard) : Type 0 where
  reading : Reading
  says : SaysParts unread (parts root) (Ok reading)
  board_is : board ≡ reading.board
  layered : reading.layered ≡ true

read_says : (root : Tree) (board : PlainBoard) (answer : Result Reading BoardError) → SaysParts unread (parts root) answer → Ok board ≡ board_in root answer → ReadSays root board
read_says root board (Err e) says is = absurd (no_board is)
read_says root board (Ok reading) says is =
    let k = holds (Missing (place root)) reading.layered _ board (sym is) in
    record { reading = reading; says = says; board_is = sym (same_ok k.1); layered = k.0 }

headed : (root : Tree) → header_in root ≡ Ok tt → has_head (codes "kicad_pcb") root ≡ true
unfolding header_in
headed root h = (holds (NotABoard (place root)) (has_head (codes "kicad_pcb") root) _ tt h).0

by_tree : (root : Tree) (board : PlainBoard) → has_head (codes "kicad_pcb") root ≡ true → header_in root ≡ Ok tt → ReadSays root board → RootSays root board
unfolding has_head
by_tree (leaf s q c) board e h k = absurd cc
by_tree (branch s none) board e h k = absurd cc
by_tree (branch s (list t inside others)) board e h k = absurd cc
by_tree (branch s (atom t q c others)) board e h k =
    record { span = s; head_span = t; quoted = q; head = c; others = others; is = refl; accepted = h; reading = k.reading; says = k.says; board_is = k.board_is; layered = k.layered }

root_says : (root : Tree) (board : PlainBoard) (answer : Result (Unit {0}) BoardError) → header_in root ≡ answer → SaysAfter root answer (Ok board) → RootSays root board
root_says root board (Err e) h says = absurd (no_board says)
root_says root board (Ok tt) h (answer, says, is) = by_tree root board (headed root h) h (read_says root board answer says is)

pub board_root : (root : Tree) (board : PlainBoard) → SaysBoard root (Ok board) → RootSays root board
board_root root board says = root_says root board (header_in root) refl says

-- ---- its trees may be written

writes_atoms : (f : Forest) (bytes : List ℕ) → WritesForest bytes f → AreAtoms f
writes_atoms none bytes h = tt
writes_atoms (atom s q c others) bytes (gap, rest, joined, blank, is, follow, more) = (is, writes_atoms others rest more)
writes_atoms (list s inside others) bytes (gap, within, rest, joined, blank, inner, more) = (writes_atoms inside within inner, writes_atoms others rest more)

pub spelled_stands : (text : List ℕ) (s : Span) (f : Forest) → Spells text (branch s f) → AreAtoms f × AreUtf8 f
unfolding Spells
spelled_stands text s f (utf8, spells) =
    let writes : WritesForest (slice_range text 0 (length text)) (list s f none) = cut_forest text 0 (length text) (list s f none) (omega arith) spells in
    let texts = utf8_apart (slice_range text 0 (length text)) (list s f none) writes (subst IsUtf8 (sym (take_all_of text)) utf8) in
    ((writes_atoms (list s f none) (slice_range text 0 (length text)) writes).0, texts.0)

-- ---- a text that spells a root is accepted

pub text_accepted : (text : List ℕ) (s : Span) (f : Forest) → Spells text (branch s f) → suc (levels_in f) ≤ 64 → refusal_of_one text ≡ None
unfolding Spells
text_accepted text s f spelled low = refusal_of_utf8 text spelled.0 ∙ accepted text (branch s f) spelled low

-- and says the board of it
pub text_says : (text : List ℕ) (s : Span) (f : Forest) (reading : Reading) → Spells text (branch s f) → suc (levels_in f) ≤ 64 → header_in (branch s f) ≡ Ok tt → SaysParts unread (trees f) (Ok reading) → reading.layered ≡ true
    → BoardSays text (Ok reading.board)
text_says text s f reading spelled low header says layered =
    says_tree text (branch s f) (Ok reading.board) (text_accepted text s f spelled low) spelled
    (subst (λ (a : Result (Unit {0}) BoardError). SaysAfter (branch s f) a (Ok reading.board)) (sym header) (Ok reading, says, board_says))
  where
    board_says : Ok reading.board ≡ board_in (branch s f) (Ok reading)
    board_says = ap (λ (b : Bool). check (Missing (place (branch s f))) b >>= λ layered. Ok reading.board) (sym layered)
