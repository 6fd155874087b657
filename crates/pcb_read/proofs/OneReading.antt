-- No tree says two things.
use Rattle.std.proofs.Common.{◌≡◌, ◌∙◌, ap, sym, subst, ℕ, List, [], ◌∷◌, ◌⊎◌, inl, inr, Option, None, Some, Result, Ok, Err}
use Rattle.sexpr_read.specs.Tree.{Tree, parts}
use Rattle.sexpr_read.specs.Spelling.{Spells, SpellsAll}
use Rattle.sexpr_read.specs.TreeRefusals.{refusal_of_one, refusal_of_all}
use Rattle.board_errors.specs.declared.errors.BoardError.{BoardError}
use Rattle.board_errors.specs.declared.errors.BoardError.TheVariants.{Text as TextRefused, OutOfMemory}
use Rattle.one_item.specs.declared.item.Item.{Item}
use Rattle.board_items.specs.Boards.{PlainBoard}
use Rattle.list_read.specs.FirstRefusals.{◌>>=◌}
use Rattle.list_read.proofs.Texts as texts
use Rattle.footprint_read.proofs.OneAnswer.{one_answer}
use Rattle.pcb_read.specs.declared.sorts.Sort.{Sort}
use Rattle.pcb_read.specs.declared.sorts.Sort.TheVariants.{Track, Via, Arc, Graphic, Curve, Text, Zone, Footprint}
use Rattle.pcb_read.specs.Sorts.{sort_of}
use Rattle.pcb_read.specs.ItemsOf.{SaysItems}
use Rattle.pcb_read.specs.BoardOf.{Reading, with_items, with_board, SaysWith, SaysPartBy, SaysParts, header_in, unread, board_in, SaysAfter, SaysBoard}
use Rattle.pcb_read.specs.BoardText.{BoardSays}
use Rattle.pcb_read.specs.ItemText.{further, alone, SaysBy, SaysAlone, SaysForms, SaysText, SaysItem}

one_items : (board : PlainBoard) (unit : ℕ) (tree : Tree) (sort : Sort) (a b : Result (List Item) BoardError) → SaysItems board unit tree sort a → SaysItems board unit tree sort b → a ≡ b
one_items board unit tree Track a b h k = h ∙ sym k
one_items board unit tree Via a b h k = h ∙ sym k
one_items board unit tree Arc a b h k = h ∙ sym k
one_items board unit tree (Graphic kind) a b h k = h ∙ sym k
one_items board unit tree Curve a b h k = h ∙ sym k
one_items board unit tree (Text about) a b h k = h ∙ sym k
one_items board unit tree Zone a b h k = h ∙ sym k
one_items board unit tree Footprint a b h k = one_answer board unit tree a b h k

-- ---- boards

one_with : (board : PlainBoard) (tree : Tree) (sort : Sort) (a b : Result PlainBoard BoardError) → SaysWith board tree sort a → SaysWith board tree sort b → a ≡ b
one_with board tree sort a b h k =
    h.2
    ∙ ap (λ (items : Result (List Item) BoardError). items >>= λ found. Ok (with_items board found)) (one_items board board.next_unit tree sort h.0 k.0 h.1 k.1)
    ∙ sym k.2

pub one_part : (reading : Reading) (tree : Tree) (sort : Option Sort) (a b : Result Reading BoardError) → SaysPartBy reading tree sort a → SaysPartBy reading tree sort b → a ≡ b
one_part reading tree None a b h k = h ∙ sym k
one_part reading tree (Some sort) a b h k = h.2 ∙ ap (λ (board : Result PlainBoard BoardError). with_board reading board) (one_with reading.board tree sort h.0 k.0 h.1 k.1) ∙ sym k.2

-- what is given is one
pub same_ok : {A B : Type 0} {x y : A} → (let p : Result A B = Ok x in p) ≡ Ok y → x ≡ y
same_ok h = cc

same_err : {A B : Type 0} {x y : B} → (let p : Result A B = Err x in p) ≡ Err y → x ≡ y
same_err h = cc

one_parts : (ts : List Tree) (reading : Reading) (a b : Result Reading BoardError) → SaysParts reading ts a → SaysParts reading ts b → a ≡ b
one_parts [] reading a b h k = h ∙ sym k
one_parts (t ∷ ts) reading a b (inl h) (inl k) =
    let same : h.0 ≡ k.0 = same_ok (one_part reading t (sort_of t) (Ok h.0) (Ok k.0) h.1 k.1) in
    one_parts ts k.0 a b (subst (λ (next : Reading). SaysParts next ts a) same h.2) k.2
one_parts (t ∷ ts) reading a b (inl h) (inr k) = let no = one_part reading t (sort_of t) (Ok h.0) (Err k.0) h.1 k.1 in absurd cc
one_parts (t ∷ ts) reading a b (inr h) (inl k) = let no = one_part reading t (sort_of t) (Err h.0) (Ok k.0) h.1 k.1 in absurd cc
one_parts (t ∷ ts) reading a b (inr h) (inr k) =
    let same : h.0 ≡ k.0 = same_err (one_part reading t (sort_of t) (Err h.0) (Err k.0) h.1 k.1) in
    h.2 ∙ ap (λ (e : BoardError). Err e) same ∙ sym k.2

one_after : (root : Tree) (header : Result (Unit {0}) BoardError) (a b : Result PlainBoard BoardError) → SaysAfter root header a → SaysAfter root header b → a ≡ b
one_after root (Err e) a b h k = h ∙ sym k
one_after root (Ok x) a b h k = h.2 ∙ ap (λ (reading : Result Reading BoardError). board_in root reading) (one_parts (parts root) unread h.0 k.0 h.1 k.1) ∙ sym k.2

-- one tree a text, so one board
pub one_board : ((text : List ℕ) (s t : Tree) → Spells text s → Spells text t → s ≡ t) → (text : List ℕ) (a b : Result PlainBoard BoardError) → BoardSays text a → BoardSays text b → a ≡ b
one_board one text a b h k = texts.one_answer TextRefused (Spells text) SaysBoard (one text) (λ tree. one_after tree (header_in tree)) (refusal_of_one text) a b h k

-- ---- lists that are added

one_by : (board : PlainBoard) (unit : ℕ) (tree : Tree) (sort : Option Sort) (a b : Result (List Item) BoardError) → SaysBy board unit tree sort a → SaysBy board unit tree sort b → a ≡ b
one_by board unit tree None a b h k = h ∙ sym k
one_by board unit tree (Some sort) a b h k = one_items board unit tree sort a b h k

one_alone : (board : PlainBoard) (unit : ℕ) (form : Result Tree BoardError) (a b : Result (List Item) BoardError) → SaysAlone board unit form a → SaysAlone board unit form b → a ≡ b
one_alone board unit (Err e) a b h k = h ∙ sym k
one_alone board unit (Ok tree) a b h k = one_by board unit tree (sort_of tree) a b h k

-- one list of forms a text, so one answer
pub one_added : ((text : List ℕ) (s t : Tree) → SpellsAll text s → SpellsAll text t → s ≡ t) → (board : PlainBoard) (unit : ℕ) (text : List ℕ) (a b : Result (List Item) BoardError)
    → SaysText board unit text a → SaysText board unit text b → a ≡ b
one_added one board unit text a b h k = texts.one_answer TextRefused (SpellsAll text) (SaysForms board unit) (one text) (λ forms. one_alone board unit (alone (parts forms))) (refusal_of_all text) a b h k

-- a refusal that is so much further on is the one that the text says there
pub only_refused : (board : PlainBoard) (unit : ℕ) (text : List ℕ) (at : ℕ) (error result : BoardError) (answer : Result (List Item) BoardError)
    → ((a b : Result (List Item) BoardError) → SaysItem board unit text at a → SaysItem board unit text at b → a ≡ b)
    → (result ≡ OutOfMemory) ⊎ (result ≡ further at error) → (error ≡ OutOfMemory) ⊎ SaysText board unit text (Err error) → SaysItem board unit text at answer
    → (result ≡ OutOfMemory) ⊎ (answer ≡ Err result)
only_refused board unit text at error result answer one (inl none) said h = inl none
only_refused board unit text at error result answer one (inr same) (inl none) h = inl (same ∙ ap (λ (e : BoardError). further at e) none)
only_refused board unit text at error result answer one (inr same) (inr said) h = inr (one answer (Err result) h (Err error, said, ap (λ (e : BoardError). Err e) same))
