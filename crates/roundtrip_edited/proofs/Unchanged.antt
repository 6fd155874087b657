-- Without commands the text is unchanged.
use Rattle.std.proofs.Common.{◌≡◌, ◌∙◌, refl, sym, ap, subst, ℕ, Bool, true, false, cond, List, [], ◌∷◌, Some, Result}
use Rattle.std.specs.Prelude.{nat_eq}
use Rattle.sexpr_read.specs.Tree.{Forest, none, atom, list, Tree, leaf, branch, trees, parts}
use Rattle.sexpr_read.specs.Spelling.{Spells}
use Rattle.board_items.specs.Boards.{PlainBoard}
use Rattle.roundtrip_text.specs.RewrittenText.{Disposition, stays, AllStay}
use Rattle.roundtrip_text.proofs.Staying.{whole_stays}
use Rattle.pcb_read.specs.BoardOf.{Reading, unread}
use Rattle.board_edits.specs.declared.refusal.Refusal.{Refusal}
use Rattle.board_edits.specs.Operations.{PlainOperation}
use Rattle.roundtrip_boards.specs.TextChanges.{Change, AreChanges}
use Rattle.roundtrip_boards.specs.WrittenBoard.{Draft, untouched, with_changes, unit_disposition, list_disposition, DispositionsAre, IsWritten, written_by}

no_change : (answers : List (Result PlainOperation Refusal)) (changes : List Change) → AreChanges [] answers changes → changes ≡ []
no_change [] changes h = h
no_change (answer ∷ answers) changes h = absurd h

list_stays : (n : ℕ) (before after : Reading) (inside : Forest) → list_disposition (untouched n) before after inside ≡ stays
list_stays n before after inside = by_unit (nat_eq before.board.next_unit after.board.next_unit)
  where
    by_unit : (b : Bool) → cond b stays (unit_disposition (untouched n) inside (Some before.board.next_unit)) ≡ stays
    by_unit true = refl
    by_unit false = refl

all_stay : (n : ℕ) (f : Forest) (a : Reading) (dispositions : List Disposition) → DispositionsAre (untouched n) a (trees f) dispositions → AllStay dispositions
all_stay n none a dispositions is = subst AllStay (sym is) tt
all_stay n (atom s q c others) a dispositions (next, more, says, rest, is) = subst AllStay (sym is) (all_stay n others next more rest)
all_stay n (list s inside others) a dispositions (next, more, says, rest, is) = subst AllStay (sym is) (list_stays n a next inside, all_stay n others next more rest)

root_stays : (text : List ℕ) (root : Tree) (n : ℕ) (dispositions : List Disposition) → Spells text root → DispositionsAre (untouched n) unread (parts root) dispositions → written_by text root dispositions (untouched n) ≡ text
unfolding Spells
root_stays text (leaf s q c) n dispositions spelled are = absurd spelled
root_stays text (branch s inside) n dispositions spelled are = whole_stays text s dispositions inside spelled (all_stay n inside unread dispositions are)

pub unchanged : (text out : List ℕ) (last : PlainBoard) → IsWritten text [] out last → out ≡ text
unchanged text out last w =
    let draft : with_changes (untouched w.board.next_unit) w.changes ≡ untouched w.board.next_unit = ap (with_changes (untouched w.board.next_unit)) (no_change w.answers w.changes w.are_changes) in
    w.written ∙ ap (λ (d : Draft). written_by text w.root w.dispositions d) draft
    ∙ root_stays text w.root w.board.next_unit w.dispositions w.spelled (subst (λ (d : Draft). DispositionsAre d unread (parts w.root) w.dispositions) draft w.are_dispositions)
