-- Facts depend on what is near alone.
use Rattle.std.proofs.Common.{◌≡◌, ◌⊎◌, ◌∙◌, refl, sym, ap, subst, inl, inr, ℕ, suc, Bool, true, false, cond, List, [], ◌∷◌, filter, Contains, unwrap_or, arith}
use Rattle.one_item.specs.declared.item.Item.{Item}
use Rattle.one_item.specs.declared.item.What.{What}
use Rattle.board_items.specs.Boards.{PlainBoard, name_of}
use Rattle.net_class.specs.NetClasses.{PlainClasses}
use Rattle.rule_pick.specs.declared.facts.Facts.{Facts}
use Rattle.rule_pick.specs.FactsOf.{MeetsArea, MeetsCourtyard, AreNamesOf, class_of_net, AreFactsOf}
use Rattle.item_facts.specs.NearItems.{MayMeetItem}
use Rattle.item_facts.proofs.MarkBoxes.{near_area, near_courtyard}
use Rattle.item_facts.proofs.NearIds.{both_ways}
use Rattle.item_facts.proofs.Picked.{skipped, head_kept}

pub met_is_near : (item other : Item) (name : List ℕ) → MeetsArea item other.what name ⊎ MeetsCourtyard item other.what name → MayMeetItem item other
met_is_near item other name (inl m) = near_area item other name m
met_is_near item other name (inr m) = near_courtyard item other name m

-- ---- names of the items that pass a test, where the others give none

module _ (Gives : What → List ℕ → Type 0) (test : ℕ × Item → Bool) where
  abbrev Silent : List (ℕ × Item) → Type 0
  Silent items = (e : ℕ × Item) → Contains items e → test e ≡ false → (name : List ℕ) → ¬ (Gives e.1.what name)

  behind : (e : ℕ × Item) (es : List (ℕ × Item)) → Silent (e ∷ es) → Silent es
  behind e es h x c = let lt = c.1 in h x (suc c.0, omega arith, c.2)

  head : (e : ℕ × Item) (es : List (ℕ × Item)) → Silent (e ∷ es) → test e ≡ false → (name : List ℕ) → ¬ (Gives e.1.what name)
  head e es h t = h e (0, omega arith, refl) t

  passed : (e : ℕ × Item) (es : List (ℕ × Item)) (names : List (List ℕ)) → ((name : List ℕ) → ¬ (Gives e.1.what name)) → AreNamesOf Gives (e ∷ es) names → AreNamesOf Gives es names
  passed e es [] none a = a.1
  passed e es (name ∷ names) none (inl a) = absurd (none name a.0)
  passed e es (name ∷ names) none (inr a) = a.1

  narrowed : (items : List (ℕ × Item)) (names : List (List ℕ)) → Silent items → AreNamesOf Gives items names → AreNamesOf Gives (filter test items) names
  narrowed [] names h a = a
  narrowed (e ∷ es) names h a = by (λ rest r. narrowed es rest (behind e es h) r) (test e) refl
    where
      by : ((rest : List (List ℕ)) → AreNamesOf Gives es rest → AreNamesOf Gives (filter test es) rest) → (b : Bool) → test e ≡ b → AreNamesOf Gives (cond b (e ∷ filter test es) (filter test es)) names
      by on true t = head_kept Gives e es (filter test es) names on a
      by on false t = on names (passed e es names (head e es h t) a)

  widened : (items : List (ℕ × Item)) (names : List (List ℕ)) → Silent items → AreNamesOf Gives (filter test items) names → AreNamesOf Gives items names
  widened [] names h a = a
  widened (e ∷ es) names h a = by (λ rest r. widened es rest (behind e es h) r) (test e) refl a
    where
      by : ((rest : List (List ℕ)) → AreNamesOf Gives (filter test es) rest → AreNamesOf Gives es rest) → (b : Bool) → test e ≡ b → AreNamesOf Gives (cond b (e ∷ filter test es) (filter test es)) names → AreNamesOf Gives (e ∷ es) names
      by on true t b = head_kept Gives e (filter test es) es names on b
      by on false t b = skipped Gives e es names (head e es h t) (on names b)

-- ---- facts

module _ (old new : PlainBoard) (classes : PlainClasses) (item : Item) (facts : Facts) (test : ℕ × Item → Bool) (nets : new.nets ≡ old.nets) (same : filter test new.items ≡ filter test old.items)
    (passes : (entry : ℕ × Item) → Contains old.items entry ⊎ Contains new.items entry → MayMeetItem item entry.1 → test entry ≡ true) (h : AreFactsOf old classes item facts) where
  names_stay : (Gives : What → List ℕ → Type 0) → ((other : Item) (name : List ℕ) → Gives other.what name → MayMeetItem item other) → (names : List (List ℕ)) → AreNamesOf Gives old.items names → AreNamesOf Gives new.items names
  names_stay Gives near names a =
      widened Gives test new.items names (λ e c t name g. both_ways (test e) (passes e (inr c) (near e.1 name g)) t)
      (subst (λ (es : List (ℕ × Item)). AreNamesOf Gives es names) (sym same) (narrowed Gives test old.items names (λ e c t name g. both_ways (test e) (passes e (inl c) (near e.1 name g)) t) a))

  name_stays : (net : ℕ) → name_of new net ≡ name_of old net
  name_stays net = ap (λ nets. name_of (record old { nets = nets }) net) nets

  class_stays : (net : ℕ) → class_of_net classes new net ≡ class_of_net classes old net
  unfolding class_of_net
  class_stays net = ap (λ nets. class_of_net classes (record old { nets = nets }) net) nets

  pub facts_by_near : AreFactsOf new classes item facts
  facts_by_near = record {
    kind = h.kind;
    class = h.class ∙ ap (λ c. c.name) (sym (class_stays item.net));
    net_name = h.net_name ∙ ap (λ n. unwrap_or n []) (sym (name_stays item.net));
    width = h.width;
    diameter = h.diameter;
    hole = h.hole;
    layers = h.layers;
    on_edge = h.on_edge;
    plated = h.plated;
    micro = h.micro;
    blind = h.blind;
    local = h.local;
    class_clearance = h.class_clearance ∙ ap (λ c. c.clearance) (sym (class_stays item.net));
    areas = names_stay (MeetsArea item) (λ other name m. near_area item other name m) facts.areas h.areas;
    courtyards = names_stay (MeetsCourtyard item) (λ other name m. near_courtyard item other name m) facts.courtyards h.courtyards;
  }
