-- The boxes that an edit's ids had, and those that all changed ids have now, are those of all that differs.
use Rattle.std.proofs.Common.{◌≡◌, ◌≢◌, ◌⊎◌, inl, inr, refl, sym, ap, ◌∙◌, ℕ, List, [], ◌++◌, Contains, Option, None, Some, IsSome, true≢false}
use Rattle.std.proofs.lemmas.List.Elements.{Contains-append_left, Contains-append_right, Contains-append_cases}
use Rattle.geo_seg.specs.declared.boxes.Bounds.{Bounds}
use Rattle.one_item.specs.declared.item.Item.{Item}
use Rattle.board_items.specs.Boards.{PlainBoard, item_at}
use Rattle.one_item.specs.ItemParts.{parts_of}
use Rattle.net_class.specs.NetClasses.{PlainClasses}
use Rattle.cond_lang.specs.Rules.{PlainRule}
use Rattle.rule_pick.specs.declared.facts.Facts.{Facts}
use Rattle.rule_pick.specs.ById.{facts_at}
use Rattle.rule_pick.specs.AllFacts.{HasFacts}
use Rattle.rule_pick.proofs.OneFacts.{one_facts_at}
use Rattle.box_index.specs.declared.entry.Entry.{Entry}
use Rattle.board_index.specs.IndexedItems.{IsEntryOf}
use Rattle.board_index.proofs.Bounds.{has_parts}
use Rattle.board_laws.specs.Edits.{WasOrIs}
use Rattle.pair_check.specs.Rows.{Checked, Stands}
use Rattle.kept_facts.specs.FactUpdates.{AreChanged}
use Rattle.board_edits.specs.TouchedItems.{ItemDiffers, added, removed, reshaped, AreEdited}
use Rattle.drc_state.specs.Recheck.{Differs, itself, told}
use Rattle.drc_state.specs.DirtyBoxes.{AreBoxesOf}
use Rattle.drc_session.specs.Looks.{AreBoxesIn}
use Rattle.drc_session.proofs.Entries.{among}

found : {X : Type 0} (x : Option X) → IsSome x → (y : X) × (x ≡ Some y)
found (Some y) h = (y, refl)
found None h = absurd (true≢false (sym h))

missing : (item : Item) → None ≡ Some item → ⊥
missing item e = cc

same_item : (a b : Item) → Some a ≡ Some b → a ≡ b
same_item a b e = cc

module _ (old new : PlainBoard) (classes : PlainClasses) (rules : List PlainRule) (ids changed : List ℕ) (kept now : List (Option Facts)) (edited : AreEdited old new ids) (had : HasFacts old classes kept) (has : HasFacts new classes now)
    (noted : AreChanged old new classes ids kept now changed) where
  abbrev before : Checked
  before = record { board = old; classes = classes; rules = rules }

  abbrev after : Checked
  after = record { board = new; classes = classes; rules = rules }

  -- what differs is noted
  is_noted : (id : ℕ) → Differs before after id → Contains changed id
  is_noted id d = by (among changed id) d
    where
      same_at : ¬ (Contains changed id) → item_at new.items id ≡ item_at old.items id
      same_at out = edited.edit.rest id (λ c. out (noted.own id c))

      by_item : ¬ (Contains changed id) → ItemDiffers old new id → ⊥
      by_item out (added none item e) = missing item (sym none ∙ (sym (same_at out) ∙ e))
      by_item out (removed item e none) = missing item (sym none ∙ (same_at out ∙ e))
      by_item out (reshaped was is e g other) = other (ap parts_of (same_item was is (sym e ∙ (sym (same_at out) ∙ g))))

      by_case : ¬ (Contains changed id) → Differs before after id → ⊥
      by_case out (itself other) = by_item out other
      by_case out (told was is f g other) =
          let stands : Stands before id f.item was = record { item_is = f.stands; facts_are = f.facts_of } in
          let here = (noted.step rules).stays id out f.item was stands in
          other (one_facts_at new classes id was is (record { item = f.item; stands = here.item_is; facts_of = here.facts_are }) g)

      by : Contains changed id ⊎ ¬ (Contains changed id) → Differs before after id → Contains changed id
      by (inl c) d = c
      by (inr out) d = absurd (by_case out d)

  module _ (was_boxes is_boxes : List Bounds) (was : AreBoxesIn old ids was_boxes) (is : AreBoxesIn new changed is_boxes) where
    -- an item of the edit that has bounds differs
    effects : (entry : Entry) (item : Item) → Contains ids entry.id → WasOrIs old new entry.id item → parts_of item ≢ [] → Differs before after entry.id
    effects entry item c stood some = itself (edited.differ entry.id item c stood some)

    was_there : (entry : Entry) → Contains ids entry.id → IsEntryOf old entry → Differs before after entry.id
    was_there entry c own = effects entry own.item c (inl own.stands) (has_parts (parts_of own.item) entry.bounds own.own)

    is_there : (entry : Entry) → Contains ids entry.id → IsEntryOf new entry → Differs before after entry.id
    is_there entry c own = effects entry own.item c (inr own.stands) (has_parts (parts_of own.item) entry.bounds own.own)

    -- an item of a noted id that is none of the edit's has other facts
    is_told : (id : ℕ) (item : Item) → item_at new.items id ≡ Some item → ¬ (Contains ids id) → facts_at now id ≢ facts_at kept id → Differs before after id
    is_told id item e other differ =
        let here = sym (edited.edit.rest id other) ∙ e in
        let f = found (facts_at kept id) (had.all id item here) in
        let g = found (facts_at now id) (has.all id item e) in
        told f.0 g.0 (had.right id f.0 f.1) (has.right id g.0 g.1) (λ same. differ (g.1 ∙ (ap (λ (x : Facts). Some x) (sym same) ∙ sym f.1)))

    differs : (entry : Entry) → Contains changed entry.id → IsEntryOf new entry → Differs before after entry.id
    differs entry c own = by (among ids entry.id) (noted.only entry.id c)
      where
        by : Contains ids entry.id ⊎ ¬ (Contains ids entry.id) → Contains ids entry.id ⊎ (facts_at now entry.id ≢ facts_at kept entry.id) → Differs before after entry.id
        by (inl k) n = is_there entry k own
        by (inr out) (inl k) = absurd (out k)
        by (inr out) (inr n) = is_told entry.id own.item own.stands out n

    -- an item of no id of the edit is where it was
    still : (entry : Entry) → ¬ (Contains ids entry.id) → IsEntryOf old entry → IsEntryOf new entry
    still entry other own = record { item = own.item; stands = edited.edit.rest entry.id other ∙ own.stands; own = own.own }

    pub boxes_of : AreBoxesOf before after (was_boxes ++ is_boxes)
    boxes_of = record { only = λ box c. by_side box (Contains-append_cases was_boxes is_boxes box c); all = λ entry d own. held entry (is_noted entry.id d) own }
      where
        by_side : (box : Bounds) → Contains was_boxes box ⊎ Contains is_boxes box → (entry : Entry) × (entry.bounds ≡ box) × Differs before after entry.id × (IsEntryOf old entry ⊎ IsEntryOf new entry)
        by_side box (inl c) = let h = was.only box c in (h.0, h.1, was_there h.0 h.2 h.3, inl h.3)
        by_side box (inr c) = let h = is.only box c in (h.0, h.1, differs h.0 h.2 h.3, inr h.3)

        by_id : (entry : Entry) → Contains changed entry.id → Contains ids entry.id ⊎ ¬ (Contains ids entry.id) → IsEntryOf old entry → Contains (was_boxes ++ is_boxes) entry.bounds
        by_id entry c (inl k) own = Contains-append_left was_boxes is_boxes entry.bounds (was.all entry k own)
        by_id entry c (inr out) own = Contains-append_right was_boxes is_boxes entry.bounds (is.all entry c (still entry out own))

        held : (entry : Entry) → Contains changed entry.id → IsEntryOf old entry ⊎ IsEntryOf new entry → Contains (was_boxes ++ is_boxes) entry.bounds
        held entry c (inl own) = by_id entry c (among ids entry.id) own
        held entry c (inr own) = Contains-append_right was_boxes is_boxes entry.bounds (is.all entry c own)
