-- What is looked up of the items that an edit touches serves for all its ids: the old board has no item of any other.
use Rattle.std.proofs.Common.{◌≡◌, inl, inr, refl, sym, subst, ◌∙◌, ℕ, ℤ, List, [], get_or, Contains, Option, None, Some}
use Rattle.std.proofs.lemmas.List.Elements.{All-contains, Contains-get_or}
use Rattle.board_index.proofs.OneList.{nothing}
use Rattle.one_item.specs.declared.item.Item.{Item}
use Rattle.board_items.specs.Boards.{PlainBoard, item_at}
use Rattle.board_laws.specs.Edits.{WasOrIs}
use Rattle.kept_facts.specs.FactUpdates.{mark_of, mark_at, mark_if}
use Rattle.kept_nets.specs.TouchedNets.{AreTouched}
use Rattle.board_edits.specs.TouchedItems.{AreKnown, touched_before, brought}
use Rattle.drc_session.specs.declared.editing.Look.{Look}
use Rattle.drc_session.specs.Looks.{HasNetsOf}
use Rattle.drc_session.specs.EditSteps.{IsLook}

missing : (item : Item) → None ≡ Some item → ⊥
missing item e = cc

-- an empty list has nothing
no_id : (ids : List ℕ) (id : ℕ) → ids ≡ [] → Contains ids id → ⊥
no_id ids id e c = nothing id (subst (λ (k : List ℕ). Contains k id) e c)

no_mark : (marks : List (Option Item)) (place : ℕ) → marks ≡ [] → mark_of marks place ≡ None
no_mark marks place e = subst (λ (m : List (Option Item)). mark_of m place ≡ None) (sym e) refl

pub known_look : (old : PlainBoard) (touched ids : List ℕ) (reach : ℤ) (look : Look) → AreKnown old touched ids → IsLook old touched reach look → IsLook old ids reach look
known_look old touched ids reach look (touched_before e) l = subst (λ (k : List ℕ). IsLook old k reach look) (sym e) l
known_look old touched ids reach look (brought e gone) l =
    record {
      boxes = record { only = λ box c. let h = l.boxes.only box c in absurd (no_id touched h.0.id e h.2); all = λ entry c own. absurd (missing own.item (sym (absent entry.id c) ∙ own.stands)) };
      fit = l.fit;
      nets = record { all = λ id item c there. absurd (missing item (sym (absent id c) ∙ there)) };
      marks = record { each = λ place within. no_mark look.marks.items place (l.none e) ∙ sym (unmarked (get_or ids place 0) (Contains-get_or ids place 0 within)) };
      none = λ _. l.none e;
      asks = λ f. record { none = λ id item c there. absurd (missing item (sym (absent id c) ∙ there)) };
    }
  where
    absent : (id : ℕ) → Contains ids id → item_at old.items id ≡ None
    absent id c = All-contains (λ id. item_at old.items id ≡ None) ids id gone c

    unmarked : (id : ℕ) → Contains ids id → mark_at old id ≡ None
    unmarked id c = subst (λ (x : Option Item). mark_if x ≡ None) (sym (absent id c)) refl

-- the nets of the items of the ids, as they were and as they are
pub are_touched : (old new : PlainBoard) (ids before now sorted : List ℕ) → HasNetsOf old ids before → HasNetsOf new ids now → ((net : ℕ) → Contains before net → Contains now net) → ((net : ℕ) → Contains now net → Contains sorted net) → AreTouched old new ids sorted
are_touched old new ids before now sorted was is kept same = record { all = λ id item c either. by id item c either }
  where
    by : (id : ℕ) (item : Item) → Contains ids id → WasOrIs old new id item → Contains sorted item.net
    by id item c (inl e) = same item.net (kept item.net (was.all id item c e))
    by id item c (inr e) = same item.net (is.all id item c e)
