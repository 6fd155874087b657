-- One part of the root that gives items; and the whole root.
use Rattle.std.proofs.Common.{◌≡◌, refl, sym, subst, ℕ, ◌==◌, true, false, List, [], ◌∷◌, ◌++◌, ◌⊎◌, inl, inr, Option, None, Some, Result, Ok, Err, MatchResult}
use Rattle.std.proofs.lemmas.List.{append_assoc}
use Rattle.sexpr_read.specs.declared.place.Span.{Span}
use Rattle.sexpr_read.specs.Tree.{Tree, span}
use Rattle.sexpr_read.specs.Spelling.{Spells}
use Rattle.sexpr_read.specs.TreeRefusals.{refusal_of_one}
use Rattle.board_errors.specs.declared.errors.BoardError.{BoardError}
use Rattle.board_errors.specs.declared.errors.BoardError.TheVariants.{Text, OutOfMemory}
use Rattle.board_items.specs.Boards.{PlainBoard}
use Rattle.list_read.proofs.Texts.{tree_says}
use Rattle.pcb_read.specs.declared.sorts.Sort.{Sort}
use Rattle.pcb_read.specs.Sorts.{sort_of}
use Rattle.pcb_read.specs.RelatedResults.{LeavesSome}
use Rattle.pcb_read.specs.BoardOf.{Reading, SaysWith, SaysPartBy, SaysPart, SaysBoard}
use Rattle.pcb_read.specs.BoardText.{BoardSays}
use Rattle.pcb_read.specs.UnitSpans.{with_span, SaysSpans, GivesBoardWith}

pub part_says : (reading : Reading) (tree : Tree) (sort : Sort) (new : PlainBoard) (answer : Result (Unit {0}) BoardError) → sort_of tree ≡ Some sort
    → LeavesSome answer new (SaysWith reading.board tree sort) → LeavesSome answer (record { board = new; layered = reading.layered }) (SaysPart reading tree)
part_says reading tree sort new (Ok x) is h = subst (λ (s : Option Sort). SaysPartBy reading tree s (Ok (record { board = new; layered = reading.layered }))) (sym is) (Ok new, h, refl)
part_says reading tree sort new (Err e) is (inl none) = inl none
part_says reading tree sort new (Err e) is (inr h) = inr (subst (λ (s : Option Sort). SaysPartBy reading tree s (Err e)) (sym is) (Err e, h, refl))

-- ---- whole boards: what the tree of a text says, the text says

pub says_tree : (text : List ℕ) (tree : Tree) (answer : Result PlainBoard BoardError) → refusal_of_one text ≡ None → Spells text tree → SaysBoard tree answer → BoardSays text answer
says_tree text tree answer none spelled h = tree_says Text (Spells text) SaysBoard (refusal_of_one text) tree answer none spelled h

-- what the tree of a text gives is all that the text says
pub only_board : {A : Type 0} → (text : List ℕ) (tree : Tree) (result : Result (PlainBoard × A) BoardError) (answer : Result PlainBoard BoardError) → ((a b : Result PlainBoard BoardError) → BoardSays text a → BoardSays text b → a ≡ b)
    → refusal_of_one text ≡ None → Spells text tree → GivesBoardWith result (SaysBoard tree) → BoardSays text answer
    → MatchResult result (λ read. answer ≡ Ok read.0) (λ e. (e ≡ OutOfMemory) ⊎ (answer ≡ Err e))
only_board text tree (Ok read) answer one none spelled given h = one answer (Ok read.0) h (says_tree text tree (Ok read.0) none spelled given)
only_board text tree (Err e) answer one none spelled (inl gone) h = inl gone
only_board text tree (Err e) answer one none spelled (inr given) h = inr (one answer (Err e) h (says_tree text tree (Err e) none spelled given))

-- so of a board without spans
pub only_board_alone : (text : List ℕ) (tree : Tree) (result : Result PlainBoard BoardError) (answer : Result PlainBoard BoardError) → ((a b : Result PlainBoard BoardError) → BoardSays text a → BoardSays text b → a ≡ b)
    → refusal_of_one text ≡ None → Spells text tree → MatchResult result (λ board. SaysBoard tree (Ok board)) (λ e. (e ≡ OutOfMemory) ⊎ SaysBoard tree (Err e)) → BoardSays text answer
    → MatchResult result (λ board. answer ≡ Ok board) (λ e. (e ≡ OutOfMemory) ⊎ (answer ≡ Err e))
only_board_alone text tree (Ok board) answer one none spelled given h = one answer (Ok board) h (says_tree text tree (Ok board) none spelled given)
only_board_alone text tree (Err e) answer one none spelled (inl gone) h = inl gone
only_board_alone text tree (Err e) answer one none spelled (inr given) h = inr (one answer (Err e) h (says_tree text tree (Err e) none spelled given))

-- ---- spans of the parts that give items

pub span_noted : (before after : Reading) (tree : Tree) (old others : List Span) → before.board.next_unit == after.board.next_unit ≡ false → old ++ with_span before after tree others ≡ (old ++ span tree ∷ []) ++ others
span_noted before after tree old others h = rw h (sym (append_assoc old (span tree ∷ []) others))

pub span_left : (before after : Reading) (tree : Tree) (old others : List Span) → before.board.next_unit == after.board.next_unit ≡ true → old ++ with_span before after tree others ≡ old ++ others
span_left before after tree old others h = rw h refl

-- the spans so far and those of what is left are all
pub more_spans : (start now next : Reading) (all : List Tree) (t : Tree) (ts : List Tree) (old new : List Span) → ((others : List Span) → SaysSpans now (t ∷ ts) others → SaysSpans start all (old ++ others))
    → SaysPart now t (Ok next) → ((others : List Span) → old ++ with_span now next t others ≡ new ++ others) → (others : List Span) → SaysSpans next ts others → SaysSpans start all (new ++ others)
more_spans start now next all t ts old new h part same others says =
    subst (λ (spans : List Span). SaysSpans start all spans) (same others) (h (with_span now next t others) (next, others, part, says, refl))
