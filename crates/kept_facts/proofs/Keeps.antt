-- Facts after an edit, and what did not change.
use Rattle.std.proofs.Common.{◌≡◌, ◌⊎◌, inl, inr, refl, sym, ap, subst, ◌∙◌, ℕ, List, Option, None, Some, IsSome, true≢false}
use Rattle.std.specs.List.{Contains}
use Rattle.copper_layers.specs.declared.set.LayerSet.{LayerSet}
use Rattle.one_item.specs.declared.item.Item.{Item}
use Rattle.board_items.specs.Boards.{PlainBoard, item_at}
use Rattle.net_class.specs.NetClasses.{PlainClasses}
use Rattle.cond_lang.specs.Rules.{PlainRule}
use Rattle.rule_pick.specs.declared.facts.Facts.{Facts}
use Rattle.rule_pick.specs.ById.{facts_at}
use Rattle.rule_pick.specs.FactsOf.{AreFactsOf, AreFacts}
use Rattle.rule_pick.specs.AllFacts.{HasFacts}
use Rattle.rule_pick.specs.AllFacts.{HasFacts}
use Rattle.rule_pick.proofs.OneFacts.{one_facts}
use Rattle.pair_check.specs.Rows.{Checked, Stands}
use Rattle.board_laws.specs.Edits.{IsEdit}
use Rattle.kept_rows.specs.CheckChanges.{IsCheckChange}
use Rattle.kept_facts.specs.FactUpdates.{AreSuspects, AreRefreshed, AreNoted}
use Rattle.kept_facts.proofs.Stays.{among, facts_stay}

some_not_none : (f : Facts) (x : Option Facts) → x ≡ Some f → x ≡ None → ⊥
some_not_none f x e g = let h = sym e ∙ g in cc

same_facts : (f g : Facts) → Some f ≡ Some g → f ≡ g
same_facts f g e = cc

same_item : (a b : Item) → Some a ≡ Some b → a ≡ b
same_item a b e = cc

found : {X : Type 0} (x : Option X) → IsSome x → (y : X) × (x ≡ Some y)
found (Some y) h = (y, refl)
found None h = absurd (true≢false (sym h))

there_by : {X : Type 0} (x : Option X) (y : X) → x ≡ Some y → IsSome x
there_by x y e = subst IsSome (sym e) refl

module _ (old new : PlainBoard) (classes : PlainClasses) (ids suspects : List ℕ) (edit : IsEdit old new ids) (near : AreSuspects old new ids suspects) (kept now : List (Option Facts)) (had : HasFacts old classes kept)
    (r : AreRefreshed new classes ids suspects kept now) where
  -- an item that is no suspect is none of the ids
  not_own : (id : ℕ) (item : Item) → item_at new.items id ≡ Some item → ¬ (Contains suspects id) → ¬ (Contains ids id)
  not_own id item e out c = out (near.own id item c e)

  -- the facts that it had are those that it has
  stay : (id : ℕ) (item : Item) (f : Facts) → item_at new.items id ≡ Some item → ¬ (Contains suspects id) → AreFactsOf old classes item f → AreFactsOf new classes item f
  stay id item f e out h = facts_stay old new ids edit item (near.far id item out e) classes f h

  right : (id : ℕ) (f : Facts) → facts_at now id ≡ Some f → AreFacts new classes id f
  right id f e = by_suspect (among suspects id)
    where
      by_own : ¬ (Contains suspects id) → Contains ids id ⊎ ¬ (Contains ids id) → AreFacts new classes id f
      by_own out (inl c) = absurd (some_not_none f (facts_at now id) e (r.gone id c out))
      by_own out (inr other) =
          let was = had.right id f (sym (r.others id other out) ∙ e) in
          let here = edit.rest id other ∙ was.stands in
          record { item = was.item; stands = here; facts_of = stay id was.item f here out was.facts_of }

      by_suspect : Contains suspects id ⊎ ¬ (Contains suspects id) → AreFacts new classes id f
      by_suspect (inl c) = r.right id f c e
      by_suspect (inr out) = by_own out (among ids id)

  all : (id : ℕ) (item : Item) → item_at new.items id ≡ Some item → IsSome (facts_at now id)
  all id item e = by_suspect (among suspects id)
    where
      by_suspect : Contains suspects id ⊎ ¬ (Contains suspects id) → IsSome (facts_at now id)
      by_suspect (inl c) = r.there id c
      by_suspect (inr out) =
          let other = not_own id item e out in
          subst IsSome (sym (r.others id other out)) (had.all id item (sym (edit.rest id other) ∙ e))

  -- what is kept now are the facts of all items
  pub facts_are_kept : HasFacts new classes now
  facts_are_kept = record { right = right; all = all }

  -- ---- what did not change
  module _ (rules : List PlainRule) (changed : List ℕ) (noted : AreNoted ids suspects kept now changed) where
    abbrev before : Checked
    before = record { board = old; classes = classes; rules = rules }

    abbrev after : Checked
    after = record { board = new; classes = classes; rules = rules }

    outside : (id : ℕ) → ¬ (Contains changed id) → ¬ (Contains ids id)
    outside id out c = out (noted.own id c)

    -- the facts of a suspect that is not noted are the same before and after
    quiet : (id : ℕ) (item : Item) → ¬ (Contains changed id) → Contains suspects id → item_at old.items id ≡ Some item → item_at new.items id ≡ Some item → (f : Facts) × AreFactsOf old classes item f × AreFactsOf new classes item f
    quiet id item out c e g = by_noted (noted.noted id c)
      where
        by_noted : Contains changed id ⊎ (facts_at now id ≡ facts_at kept id) → (f : Facts) × AreFactsOf old classes item f × AreFactsOf new classes item f
        by_noted (inl k) = absurd (out k)
        by_noted (inr same) =
            let f = found (facts_at now id) (r.there id c) in
            let is = r.right id f.0 c f.1 in
            let was = had.right id f.0 (sym same ∙ f.1) in (
              f.0,
              subst (λ (i : Item). AreFactsOf old classes i f.0) (same_item was.item item (sym was.stands ∙ e)) was.facts_of,
              subst (λ (i : Item). AreFactsOf new classes i f.0) (same_item is.item item (sym is.stands ∙ g)) is.facts_of,
            )

    stays : (id : ℕ) → ¬ (Contains changed id) → (item : Item) (facts : Facts) → Stands before id item facts → Stands after id item facts
    stays id out item facts s = record { item_is = here; facts_are = by_suspect (among suspects id) }
      where
        here : item_at new.items id ≡ Some item
        here = edit.rest id (outside id out) ∙ s.item_is

        by_suspect : Contains suspects id ⊎ ¬ (Contains suspects id) → AreFactsOf new classes item facts
        by_suspect (inl c) =
            let q = quiet id item out c s.item_is here in
            subst (λ (f : Facts). AreFactsOf new classes item f) (one_facts old classes item q.0 facts q.1 s.facts_are) q.2
        by_suspect (inr free) = stay id item facts here free s.facts_are

    stayed : (id : ℕ) → ¬ (Contains changed id) → (item : Item) (facts : Facts) → Stands after id item facts → Stands before id item facts
    stayed id out item facts s = record { item_is = here; facts_are = by_suspect (among suspects id) }
      where
        here : item_at old.items id ≡ Some item
        here = sym (edit.rest id (outside id out)) ∙ s.item_is

        by_suspect : Contains suspects id ⊎ ¬ (Contains suspects id) → AreFactsOf old classes item facts
        by_suspect (inl c) =
            let q = quiet id item out c here s.item_is in
            subst (λ (f : Facts). AreFactsOf old classes item f) (one_facts new classes item q.0 facts q.2 s.facts_are) q.1
        by_suspect (inr free) =
            let f = found (facts_at kept id) (had.all id item here) in
            let was = had.right id f.0 f.1 in
            let its = subst (λ (i : Item). AreFactsOf old classes i f.0) (same_item was.item item (sym was.stands ∙ here)) was.facts_of in
            subst (λ (g : Facts). AreFactsOf old classes item g) (one_facts new classes item f.0 facts (stay id item f.0 s.item_is free its) s.facts_are) its

    -- the edit is a step of what is checked
    pub is_step : IsCheckChange before after changed
    is_step = record { same = ap (λ (copper : LayerSet). record { copper = copper; mins = classes.mins; rules = rules }) edit.copper; stays = stays; stayed = stayed }
