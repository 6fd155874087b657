-- What an edit leaves of the facts of an item that it does not concern.
use Rattle.std.proofs.Common.{◌≡◌, ◌⊎◌, ◌↔◌, inl, inr, refl, sym, ap, subst, ◌∙◌, ℕ, Bool, true, false, cond, List, [], Contains, Option, None, Some, unwrap_or, true≢false}
use Rattle.std.specs.List.{AllPairs}
use Rattle.one_item.specs.declared.item.Item.{Item}
use Rattle.one_item.specs.declared.item.What.{What}
use Rattle.one_item.specs.ItemKinds.{is_mark}
use Rattle.board_items.specs.Boards.{PlainBoard, item_at, name_of}
use Rattle.board_laws.specs.Edits.{IsEdit, is_one_of}
use Rattle.board_laws.proofs.Rest.{Under, rises, found_at, in_list, one_of, is_there}
use Rattle.net_class.specs.NetClasses.{PlainClasses}
use Rattle.rule_pick.specs.declared.facts.Facts.{Facts}
use Rattle.rule_pick.specs.FactsOf.{MeetsArea, MeetsCourtyard, AreNamesOf, AreFactsOf, class_of_net}
use Rattle.item_facts.proofs.MarkBoxes.{near_area, near_courtyard}
use Rattle.kept_facts.specs.FactUpdates.{mark_if, mark_at, GivesIf, IsUnconcerned}
use Rattle.kept_facts.proofs.Names.{IsGiven, GivesAll, same_names}

-- an id is among them or not
pub among : (ids : List ℕ) (id : ℕ) → Contains ids id ⊎ ¬ (Contains ids id)
among ids id = by (is_one_of ids id) refl
  where
    by : (b : Bool) → is_one_of ids id ≡ b → Contains ids id ⊎ ¬ (Contains ids id)
    by true e = inl (one_of ids id e)
    by false e = inr (λ c. true≢false (sym (is_there ids id c) ∙ e))

-- ---- areas and bodies

marked : (x : Option Item) (mark : Item) → x ≡ Some mark → is_mark mark.what ≡ true → mark_if x ≡ Some mark
marked x mark e m = ap mark_if e ∙ ap (λ (b : Bool). cond b (Some mark) None) m

-- the item that stands there and gives the name
pub record IsGiver (Gives : What → List ℕ → Type 0) (x : Option Item) (name : List ℕ) : Type 0 where
  pub item : Item
  pub stands : x ≡ Some item
  pub gives : Gives item.what name

pub giver : (Gives : What → List ℕ → Type 0) (x : Option Item) (name : List ℕ) → GivesIf Gives x name → IsGiver Gives x name
giver Gives None name g = absurd g
giver Gives (Some item) name g = record { item = item; stands = refl; gives = g }

unmarked : (x : Option Item) (mark : Item) → mark_if x ≡ Some mark → x ≡ Some mark
unmarked None mark e = e
unmarked (Some item) mark e = by (is_mark item.what) e
  where
    by : (b : Bool) → cond b (Some item) None ≡ Some mark → Some item ≡ Some mark
    by true h = h
    by false h = absurd cc

module _ (Gives : What → List ℕ → Type 0) (mark : (item : Item) (name : List ℕ) → Gives item.what name → is_mark item.what ≡ true) where
  -- an item gives the name as an area or a body
  giving : (x : Option Item) (item : Item) (name : List ℕ) → x ≡ Some item → Gives item.what name → GivesIf Gives (mark_if x) name
  giving x item name e g = subst (λ (y : Option Item). GivesIf Gives y name) (sym (marked x item e (mark item name g))) g

  given : (x : Option Item) (name : List ℕ) → GivesIf Gives (mark_if x) name → IsGiver Gives x name
  given x name g = let k = giver Gives (mark_if x) name g in record { item = k.item; stands = unmarked x k.item k.stands; gives = k.gives }

  -- from one board to the other
  carried : (xs ys : List (ℕ × Item)) (ids : List ℕ) → AllPairs Under xs → ((id : ℕ) → ¬ (Contains ids id) → item_at ys id ≡ item_at xs id)
      → ((id : ℕ) → Contains ids id → (name : List ℕ) → GivesIf Gives (mark_if (item_at xs id)) name → GivesIf Gives (mark_if (item_at ys id)) name) → GivesAll Gives xs ys
  carried xs ys ids rise rest same id name g = by (among ids id)
    where
      at : item_at xs id ≡ Some g.item
      at = found_at xs (id, g.item) rise g.among

      by : Contains ids id ⊎ ¬ (Contains ids id) → IsGiven Gives ys id name
      by (inl c) = let k = given (item_at ys id) name (same id c name (giving (item_at xs id) g.item name at g.gives)) in record { item = k.item; among = in_list ys id k.item k.stands; gives = k.gives }
      by (inr out) = record { item = g.item; among = in_list ys id g.item (rest id out ∙ at); gives = g.gives }

-- ---- facts

module _ (old new : PlainBoard) (ids : List ℕ) (edit : IsEdit old new ids) where
  names_stay : (Gives : What → List ℕ → Type 0) → ((item : Item) (name : List ℕ) → Gives item.what name → is_mark item.what ≡ true)
      → ((id : ℕ) → Contains ids id → (name : List ℕ) → (GivesIf Gives (mark_at old id) name ↔ GivesIf Gives (mark_at new id) name))
      → (names : List (List ℕ)) → AreNamesOf Gives old.items names → AreNamesOf Gives new.items names
  names_stay Gives mark same names h =
      let before = rises 0 old.next_id old.items edit.rises_before in
      let after = rises 0 new.next_id new.items edit.rises_now in
      same_names Gives old.items new.items before after (carried Gives mark old.items new.items ids before edit.rest (λ id c name. (same id c name).0)) (carried Gives mark new.items old.items ids after (λ id out. sym (edit.rest id out)) (λ id c name. (same id c name).1)) names h

  name_stays : (net : ℕ) → name_of new net ≡ name_of old net
  name_stays net = ap (λ nets. name_of (record old { nets = nets }) net) edit.nets

  class_stays : (classes : PlainClasses) (net : ℕ) → class_of_net classes new net ≡ class_of_net classes old net
  unfolding class_of_net
  class_stays classes net = ap (λ nets. class_of_net classes (record old { nets = nets }) net) edit.nets

  -- an item that the edit does not concern keeps its facts
  pub facts_stay : (item : Item) → IsUnconcerned old new ids item → (classes : PlainClasses) (facts : Facts) → AreFactsOf old classes item facts → AreFactsOf new classes item facts
  facts_stay item far classes facts h = record {
    kind = h.kind;
    class = h.class ∙ ap (λ c. c.name) (sym (class_stays classes item.net));
    net_name = h.net_name ∙ ap (λ n. unwrap_or n []) (sym (name_stays item.net));
    width = h.width;
    diameter = h.diameter;
    hole = h.hole;
    layers = h.layers;
    on_edge = h.on_edge;
    plated = h.plated;
    micro = h.micro;
    blind = h.blind;
    local = h.local;
    class_clearance = h.class_clearance ∙ ap (λ c. c.clearance) (sym (class_stays classes item.net));
    areas = names_stay (MeetsArea item) (λ other name m. (near_area item other name m).mark) (λ id c name. (far.each id c).areas name) facts.areas h.areas;
    courtyards = names_stay (MeetsCourtyard item) (λ other name m. (near_courtyard item other name m).mark) (λ id c name. (far.each id c).courtyards name) facts.courtyards h.courtyards;
  }
