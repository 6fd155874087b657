-- Slots that are filled side by side.
use Rattle.std.proofs.Common.{◌≡◌, ◌∙◌, sym, ap, subst, ◌⊎◌, inl, inr, ℕ, ◌<◌, List, [], ◌∷◌, ◌++◌, length, take, drop, append-nil, Option, None, Some, IsSome, IfSome, arith}
use Rattle.std.proofs.lemmas.List.{take_all, drop_all}
use Rattle.std.proofs.lemmas.Bool.{cases_lt}
use Rattle.one_item.specs.declared.item.Item.{Item}
use Rattle.board_items.specs.Boards.{PlainBoard, item_at}
use Rattle.net_class.specs.NetClasses.{PlainClasses}
use Rattle.rule_pick.specs.declared.facts.Facts.{Facts}
use Rattle.rule_pick.specs.ById.{facts_at}
use Rattle.rule_pick.specs.FactsOf.{AreFacts}
use Rattle.rule_pick.specs.AllFacts.{HasFacts}
use Rattle.rule_pick.proofs.Slots.{within, past}
use Rattle.item_facts.specs.Known.{AreLeft}
use Rattle.item_facts.proofs.LeftItems.{next_left, head_or_left}
use Rattle.item_facts.specs.FactSlots.{AreFilled}

-- what stands in a slot are facts of its item, and with some for each item they are all
pub all_found : (board : PlainBoard) (classes : PlainClasses) (old new : List (Option Facts)) → AreFilled board classes old new
    → ((id : ℕ) (item : Item) → item_at board.items id ≡ Some item → IsSome (facts_at new id)) → HasFacts board classes new
all_found board classes old new h all = record { right = right; all = all }
  where
    there : (id : ℕ) → id < length new → IfSome (facts_at new id) (AreFacts board classes id)
    there id lt =
        let long = h.long in
        subst (λ (slot : Option Facts). IfSome slot (AreFacts board classes id)) (within new id None lt) (h.each id None (omega (arith, long)))

    given : (found : Option Facts) (id : ℕ) (f : Facts) → IfSome found (AreFacts board classes id) → found ≡ Some f → AreFacts board classes id f
    given found id f is e = subst (λ (slot : Option Facts). IfSome slot (AreFacts board classes id)) e is

    right : (id : ℕ) (f : Facts) → facts_at new id ≡ Some f → AreFacts board classes id f
    right id f e = elim (cases_lt id (length new)) [
      | inl lt ↦ given (facts_at new id) id f (there id lt) e
      | inr le ↦ let none = past new id (omega arith) in absurd cc
    ]

-- slots that were filled as a whole
pub whole : {X : Type 0} (n : ℕ) (xs ys : List X) → length ys ≡ length xs → n ≡ length xs → take n (ys ++ drop (length ys) xs) ≡ ys
whole n xs ys long count =
    let none : drop (length ys) xs ≡ [] = drop_all (length ys) xs (omega (arith, long)) in
    ap (λ zs. take n (ys ++ zs)) none ∙ (ap (take n) (append-nil ys) ∙ take_all n ys (omega (arith, long, count)))

-- ---- whether each item has facts

abbrev pub HaveSoFar : PlainBoard → List (Option Facts) → List (ℕ × Item) → Type 0
HaveSoFar board facts left = AreLeft board.items left × ((id : ℕ) (item : Item) → item_at board.items id ≡ Some item → (item_at left id ≡ Some item) ⊎ IsSome (facts_at facts id))

pub one_more : (board : PlainBoard) (facts : List (Option Facts)) (entry : ℕ × Item) (left : List (ℕ × Item)) → HaveSoFar board facts (entry ∷ left) → IsSome (facts_at facts entry.0) → HaveSoFar board facts left
one_more board facts entry left h some = (next_left board.items entry left h.0, all)
  where
    all : (id : ℕ) (item : Item) → item_at board.items id ≡ Some item → (item_at left id ≡ Some item) ⊎ IsSome (facts_at facts id)
    all id item found = elim (h.1 id item found) [
      | inl next ↦ elim (head_or_left board.items entry left h.0 id item next) [
        | inl head ↦ inr (subst (λ (k : ℕ). IsSome (facts_at facts k)) (sym head.0) some)
        | inr later ↦ inl later
      ]
      | inr there ↦ inr there
    ]
