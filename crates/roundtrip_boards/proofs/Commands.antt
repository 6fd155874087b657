-- The ledger after all commands.
use Rattle.std.proofs.Common.{◌≡◌, ◌∙◌, refl, sym, ap, subst, ℕ, ◌<◌, Bool, true, false, cond, List, [], ◌∷◌, ◌++◌, Option, None, Some, Ok}
use Rattle.sexpr_read.specs.Tree.{Tree}
use Rattle.board_items.specs.declared.found.Found.TheVariants.{Shared, Inside, Unit as Of}
use Rattle.one_item.specs.declared.item.Item.{Item}
use Rattle.board_items.specs.Boards.{PlainBoard}
use Rattle.board_items.specs.Units.{first_named, is_shared, is_footprint_named_otherwise, found_by, found_of}
use Rattle.roundtrip_lists.specs.Carried.{ItemsOf}
use Rattle.pcb_read.specs.ItemText.{SaysList}
use Rattle.roundtrip_boards.specs.TextChanges.{Change, unchanged, takes_out, shifts, appends, IsNamed, Changes, ChangeAll}
use Rattle.roundtrip_boards.specs.WrittenBoard.{Draft, with_change, with_changes}
use Rattle.roundtrip_boards.specs.Ledger.{Entry, all_now, IsLedger, SameReads}
use Rattle.roundtrip_boards.proofs.Ledger.{taken_out, moved_unit, appended, entries_with, kept_low, named_low}

-- the entries begin with ones of which the same was read
abbrev pub ReadsFrom : List Entry → List Entry → Type 0
ReadsFrom [] fs = Unit {0}
ReadsFrom (e ∷ es) [] = ⊥
ReadsFrom (e ∷ es) (f ∷ fs) = (f.read ≡ e.read) × ReadsFrom es fs

reads_itself : (es : List Entry) → ReadsFrom es es
reads_itself [] = tt
reads_itself (e ∷ es) = (refl, reads_itself es)

reads_on : (es fs gs : List Entry) → ReadsFrom es fs → ReadsFrom fs gs → ReadsFrom es gs
reads_on [] fs gs h k = tt
reads_on (e ∷ es) [] gs h k = absurd h
reads_on (e ∷ es) (f ∷ fs) [] h k = absurd k
reads_on (e ∷ es) (f ∷ fs) (g ∷ gs) h k = (k.0 ∙ h.0, reads_on es fs gs h.1 k.1)

pub reads_same : (es fs : List Entry) → SameReads es fs → ReadsFrom es fs
reads_same [] fs h = tt
reads_same (e ∷ es) [] h = absurd h
reads_same (e ∷ es) (f ∷ fs) h = (h.0, reads_same es fs h.1)

reads_more : (es : List Entry) (last : Entry) → ReadsFrom es (es ++ last ∷ [])
reads_more [] last = tt
reads_more (e ∷ es) last = (refl, reads_more es last)

reads_with : (es : List Entry) (board : PlainBoard) (items : List Item) → ReadsFrom es (entries_with es board items)
unfolding entries_with
reads_with es board [] = reads_itself es
reads_with es board (item ∷ items) = reads_more es _

-- the unit that is found is one of some item
named_by : (o : Option ℕ) (name : List ℕ) (items : List (ℕ × Item)) (u : ℕ) → found_by o name items ≡ Of u → o ≡ Some u
named_by None name items u e = absurd cc
named_by (Some v) name items u e = by_tests (is_shared v name items) (is_footprint_named_otherwise v name items) e
  where
    by_tests : (a b : Bool) → cond a Shared (cond b Inside (Of v)) ≡ Of u → Some v ≡ Some u
    by_tests true b e = absurd cc
    by_tests false true e = absurd cc
    by_tests false false e = let same : v ≡ u = cc in ap (λ n. Some n) same

found_named : (name : List ℕ) (items : List (ℕ × Item)) (u : ℕ) → found_of name items ≡ Of u → (word : List ℕ) × (first_named word items ≡ Some u)
found_named [] items u e = absurd cc
found_named (b ∷ bytes) items u e = (b ∷ bytes, named_by (first_named (b ∷ bytes) items) (b ∷ bytes) items u e)

-- the entries after a change, by what was read
abbrev pub after_change : List Entry → PlainBoard → Change → List Entry
after_change es board unchanged = es
after_change es board (takes_out unit) = es
after_change es board (shifts unit by) = es
after_change es board (appends list items) = entries_with es board items

pub same_itself : (es : List Entry) → SameReads es es
same_itself [] = tt
same_itself (e ∷ es) = (refl, same_itself es)

reads_change : (es : List Entry) (board : PlainBoard) (change : Change) → ReadsFrom es (after_change es board change)
reads_change es board unchanged = reads_itself es
reads_change es board (takes_out unit) = reads_itself es
reads_change es board (shifts unit by) = reads_itself es
reads_change es board (appends list items) = reads_with es board items

module _ (ready : (board : PlainBoard) (list : Tree) (items : List Item) → SaysList board board.next_unit list (Ok items) → ItemsOf board.next_unit items) where
  module _ (draft : Draft) (es : List Entry) (board : PlainBoard) (h : IsLedger draft es board) where
    abbrev pub Kept : Change → PlainBoard → Type 0
    Kept change last = (fs : List Entry) × IsLedger (with_change draft change) fs last × SameReads (after_change es board change) fs

    found_low : (u : ℕ) → IsNamed board u → u < draft.next_unit
    found_low u (name, e) =
        let k = found_named name board.items u e in
        named_low draft.next_unit k.0 (all_now es) u (kept_low draft 0 es h.kept).1 (subst (λ (l : List (ℕ × Item)). first_named k.0 l ≡ Some u) h.items k.1)

    pub change_keeps : (change : Change) (new : PlainBoard) → Changes board change new → Kept change new
    change_keeps unchanged new e = (es, subst (IsLedger draft es) (sym e) h, same_itself es)
    change_keeps (takes_out u) new (named, e) =
        let k = taken_out draft u es board h (found_low u named) in (k.0, subst (IsLedger (with_change draft (takes_out u)) k.0) (sym e) k.1, k.2)
    change_keeps (shifts u by) new (named, stay, m) = moved_unit draft u by es board new h (found_low u named) stay m
    change_keeps (appends list items) new ((text, is, says), e) = (
      entries_with es board items,
      subst (IsLedger (with_change draft (appends list items)) (entries_with es board items)) (sym e) (appended draft es board list items h (ready board list items says)),
      same_itself (entries_with es board items),
    )

  -- after all commands
  pub changes_keep : (changes : List Change) (draft : Draft) (es : List Entry) (board last : PlainBoard) → IsLedger draft es board → ChangeAll board changes last
      → (fs : List Entry) × IsLedger (with_changes draft changes) fs last × ReadsFrom es fs
  changes_keep [] draft es board last h same = (es, subst (IsLedger draft es) (sym same) h, reads_itself es)
  changes_keep (change ∷ changes) draft es board last h (new, one, more) =
      let k = change_keeps draft es board h change new one in
      let rest = changes_keep changes (with_change draft change) k.0 new last k.1 more in
      (rest.0, rest.1, reads_on es k.0 rest.0 (reads_on es (after_change es board change) k.0 (reads_change es board change) (reads_same (after_change es board change) k.0 k.2)) rest.2)
