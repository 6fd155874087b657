-- A board after an item was added in a slot of its own.
use Rattle.std.proofs.Common.{◌≡◌, ℕ, ◌+◌, ◌<◌, max, true, List, [], ◌∷◌, ◌++◌, length, get_or, set, Option, Some, Vec, sym, ◌∙◌, ap, subst, arith, length-append}
use Rattle.std.specs.declared.alloc.Global.{Global}
use Rattle.one_item.specs.declared.item.Item.{Item}
use Rattle.board_items.specs.Boards.{PlainBoard, with_item, is_admitted, marks_of}
use Rattle.one_item.specs.ItemKinds.{is_note}
use Rattle.board_items.specs.ItemNotes.{notes_of}
use Rattle.board_items.specs.BoardCaches.{IsNetAt, IsKept}
use Rattle.board_items.specs.ItemRefusals.{capacity_of}
use Rattle.board_items.specs.ItemSlots.{present}
use Rattle.board_items.proofs.Growing.{sound_added}
use Rattle.board_items.proofs.Rising.{ids_where-append}
use Rattle.board_items.proofs.NetIds.{added_lists}
use Rattle.board_items.proofs.SlotLists.{added}

module _ (b : PlainBoard) (item : Item) (slots more : List (Option Item)) (items : b.items ≡ present 0 slots) (next : b.next_id ≡ length slots) (pushed : more ≡ slots ++ Some item ∷ []) where
  now : present 0 more ≡ b.items ++ (b.next_id, item) ∷ []
  now = added slots more item pushed ∙ ap (λ es. es ++ (length slots, item) ∷ []) (sym items) ∙ ap (λ (n : ℕ). b.items ++ (n, item) ∷ []) (sym next)

  longer : length more ≡ b.next_id + 1
  longer = let n = ap length pushed ∙ length-append slots (Some item ∷ []) in omega (arith, n, next)

  added_board : (unit : ℕ) → unit ≡ max b.next_unit (item.unit + 1) → record b { items = present 0 more; next_id = length more; next_unit = unit } ≡ with_item b item
  added_board unit u =
      ap (λ (es : List (ℕ × Item)). record b { items = es; next_id = length more; next_unit = unit }) now
      ∙ ap (λ (n : ℕ). record b { items = b.items ++ (b.next_id, item) ∷ []; next_id = n; next_unit = unit }) longer
      ∙ ap (λ (n : ℕ). record b { items = b.items ++ (b.next_id, item) ∷ []; next_id = b.next_id + 1; next_unit = n }) u

pub board_added : (b : PlainBoard) (item : Item) (slots more : List (Option Item)) (unit : ℕ) → b.items ≡ present 0 slots → b.next_id ≡ length slots → more ≡ slots ++ Some item ∷ [] → unit ≡ max b.next_unit (item.unit + 1)
    → record b { items = present 0 more; next_id = length more; next_unit = unit } ≡ with_item b item
board_added b item slots more unit items next pushed u = added_board b item slots more items next pushed unit u

pub kept_added : (b : PlainBoard) (item : Item) (id next_unit : ℕ) (marks more : List ℕ) (lists : List (Vec ℕ Global)) (place : ℕ) (d old v : Vec ℕ Global) (live many : ℕ) (slots others : List (Option Item)) → IsKept b marks lists live
    → is_admitted b item ≡ true → 0 < capacity_of b → item.unit < 4294967295 → b.items ≡ present 0 slots → b.next_id ≡ length slots → id ≡ b.next_id → others ≡ slots ++ Some item ∷ []
    → more ≡ marks ++ marks_of ((id, item) ∷ []) → next_unit ≡ max b.next_unit (item.unit + 1) → IsNetAt item.net b.nets place → old ≡ get_or lists place d → v.items ≡ old.items ++ id ∷ []
    → many ≡ live + 1
    → IsKept (record b { items = present 0 others; next_id = length others; next_unit = next_unit }) more (set lists place v) many
kept_added b item id next_unit marks more lists place d old v live many slots others k may spare_capacity unit items next same pushed m u at o f l =
    let e : present 0 others ≡ b.items ++ (b.next_id, item) ∷ [] = now b item slots others items next pushed in
    let both = sound_added b item (present 0 others) marks more next_unit k.sound k.marks may spare_capacity unit e (m ∙ ap (λ (n : ℕ). marks ++ marks_of ((n, item) ∷ [])) same) u in
    subst (λ (n : ℕ). IsKept (record b { items = present 0 others; next_id = n; next_unit = next_unit }) more (set lists place v) many) (sym (longer b item slots others items next pushed)) (record {
      sound = both.0;
      marks = both.1;
      of_nets = added_lists b b.next_id item (present 0 others) lists place d old v k.sound.distinct k.of_nets at o (f ∙ ap (λ (n : ℕ). old.items ++ n ∷ []) same) e;
      count = let n = ap length e ∙ length-append b.items ((b.next_id, item) ∷ []) in let c = k.count in omega (arith, n, c, l);
    })

pub notes_added : (b : PlainBoard) (item : Item) (id : ℕ) (slots others : List (Option Item)) (notes more : List ℕ) → b.items ≡ present 0 slots → b.next_id ≡ length slots → id ≡ b.next_id → others ≡ slots ++ Some item ∷ []
    → notes ≡ notes_of b.items → more ≡ notes ++ notes_of ((id, item) ∷ []) → more ≡ notes_of (present 0 others)
notes_added b item id slots others notes more items next same pushed h m =
    m ∙ ap (λ (ns : List ℕ). ns ++ notes_of ((id, item) ∷ [])) h ∙ ap (λ (n : ℕ). notes_of b.items ++ notes_of ((n, item) ∷ [])) same
    ∙ sym (ids_where-append (λ i. is_note i.what) b.items ((b.next_id, item) ∷ [])) ∙ ap notes_of (sym (now b item slots others items next pushed))
