-- An item has one record of facts.
use Rattle.std.proofs.Common.{◌≡◌, refl, sym, ap, subst, ◌∙◌, ◌⊎◌, inl, inr, ℕ, ℤ, Bool, List, [], ◌∷◌, IsTrue, ◌↔◌, Option, Some, ◌==◌, arith, rules}
use Rattle.std.proofs.Props.{props}
use Rattle.std.proofs.lemmas.Bool.{cases_eq}
use Rattle.std.proofs.lemmas.Nat.Bits.{bit_at-lt, same_from_bits}
use Rattle.std.specs.Int.{bit_at}
use Rattle.plain_types.specs.Lengths.{IsLength}
use Rattle.copper_layers.specs.declared.set.LayerSet.{LayerSet}
use Rattle.one_item.specs.declared.item.Item.{Item}
use Rattle.one_item.specs.declared.item.What.{What}
use Rattle.one_item.specs.declared.item.What.TheVariants as what
use Rattle.board_items.specs.Boards.{PlainBoard, item_at}
use Rattle.copper_layers.specs.Layers.{has_layer}
use Rattle.net_class.specs.NetClasses.{PlainClasses}
use Rattle.rule_pick.specs.declared.kinds.ItemKind.{ItemKind}
use Rattle.rule_pick.specs.declared.facts.Facts.{Facts}
use Rattle.rule_pick.specs.FactsOf.{AreLayersOf, AreNamesOf, MeetsArea, MeetsCourtyard, AreFactsOf, AreFacts}

-- ---- layers

test_of : (n layer : ℕ) → IsTrue (bit_at n layer == 1) → bit_at n layer ≡ 1
test_of n layer h = search (rules, h)

test_by : (n layer : ℕ) → bit_at n layer ≡ 1 → IsTrue (bit_at n layer == 1)
test_by n layer h = search (rules, h)

same_bit : (n m layer : ℕ) → (bit_at n layer ≡ 1 → bit_at m layer ≡ 1) → (bit_at m layer ≡ 1 → bit_at n layer ≡ 1) → bit_at n layer ≡ bit_at m layer
same_bit n m layer to from = by (cases_eq (bit_at n layer) 1) (cases_eq (bit_at m layer) 1)
  where
    by : (bit_at n layer ≡ 1) ⊎ (bit_at n layer ≡ 1 → ⊥) → (bit_at m layer ≡ 1) ⊎ (bit_at m layer ≡ 1 → ⊥) → bit_at n layer ≡ bit_at m layer
    by (inl e) k = e ∙ sym (to e)
    by (inr none) (inl e) = absurd (none (from e))
    by (inr none) (inr other) = omega (arith, bit_at-lt n layer, bit_at-lt m layer, none, other)

-- two sets with the same layers are the same
pub one_set : (s t : LayerSet) → ((layer : ℕ) → (IsTrue (has_layer s layer) ↔ IsTrue (has_layer t layer))) → s ≡ t
one_set s t h =
    ap (λ (bits : ℕ). let set : LayerSet = record { bits = bits } in set)
    (same_from_bits s.bits t.bits (λ layer. same_bit s.bits t.bits layer (λ e. test_of t.bits layer ((h layer).0 (test_by s.bits layer e))) (λ e. test_of s.bits layer ((h layer).1 (test_by t.bits layer e)))))

pub layers_once : (item : Item) (s t : LayerSet) → AreLayersOf item s → AreLayersOf item t → s ≡ t
layers_once item s t h k = one_set s t (λ layer. (λ e. (k.each layer).1 ((h.each layer).0 e), λ e. (h.each layer).1 ((k.each layer).0 e)))

-- ---- names

-- where each thing gives one name at most, there is one list of the names
pub names_once : (Gives : What → List ℕ → Type 0) → ((w : What) (n m : List ℕ) → Gives w n → Gives w m → n ≡ m) → (items : List (ℕ × Item)) (xs ys : List (List ℕ))
    → AreNamesOf Gives items xs → AreNamesOf Gives items ys → xs ≡ ys
names_once Gives one [] xs ys p q = p ∙ sym q
names_once Gives one (entry ∷ items) [] [] p q = refl
names_once Gives one (entry ∷ items) [] (y ∷ ys) p (inl q) = absurd (p.0 y q.0)
names_once Gives one (entry ∷ items) [] (y ∷ ys) p (inr q) = names_once Gives one items [] (y ∷ ys) p.1 q.1
names_once Gives one (entry ∷ items) (x ∷ xs) [] (inl p) q = absurd (q.0 x p.0)
names_once Gives one (entry ∷ items) (x ∷ xs) [] (inr p) q = names_once Gives one items (x ∷ xs) [] p.1 q.1
names_once Gives one (entry ∷ items) (x ∷ xs) (y ∷ ys) (inl p) (inl q) =
    ap (λ (n : List ℕ). n ∷ xs) (one entry.1.what x y p.0 q.0) ∙ ap (λ (l : List (List ℕ)). y ∷ l) (names_once Gives one items xs ys p.1 q.1)
names_once Gives one (entry ∷ items) (x ∷ xs) (y ∷ ys) (inl p) (inr q) = absurd (q.0 x p.0)
names_once Gives one (entry ∷ items) (x ∷ xs) (y ∷ ys) (inr p) (inl q) = absurd (p.0 y q.0)
names_once Gives one (entry ∷ items) (x ∷ xs) (y ∷ ys) (inr p) (inr q) = names_once Gives one items (x ∷ xs) (y ∷ ys) p.1 q.1

area_once : (item : Item) (w : What) (n m : List ℕ) → MeetsArea item w n → MeetsArea item w m → n ≡ m
area_once item (what.Area title bans shape) n m p q = p.0 ∙ sym q.0
area_once item _ n m p q = absurd p

courtyard_once : (item : Item) (w : What) (n m : List ℕ) → MeetsCourtyard item w n → MeetsCourtyard item w m → n ≡ m
courtyard_once item (what.Body reference front back on_back) n m p q = p.0 ∙ sym q.0
courtyard_once item _ n m p q = absurd p

-- ---- the whole

-- the facts without what bounds them
record Plain : Type 0 where
  kind : ItemKind
  class : List ℕ
  net_name : List ℕ
  width : Option ℤ
  diameter : Option ℤ
  hole : Option ℤ
  layers : LayerSet
  on_edge : Bool
  plated : Bool
  micro : Bool
  blind : Bool
  local : Option ℤ
  class_clearance : ℤ
  areas : List (List ℕ)
  courtyards : List (List ℕ)

record InRange (p : Plain) : Type 0 where
  class_clearance : IsLength p.class_clearance

in_range-prop : (p : Plain) → IsProp (InRange p)
in_range-prop p = hlevel props

abbrev plain : Facts → Plain
plain f = record {
  kind = f.kind;
  class = f.class;
  net_name = f.net_name;
  width = f.width;
  diameter = f.diameter;
  hole = f.hole;
  layers = f.layers;
  on_edge = f.on_edge;
  plated = f.plated;
  micro = f.micro;
  blind = f.blind;
  local = f.local;
  class_clearance = f.class_clearance;
  areas = f.areas;
  courtyards = f.courtyards;
}

abbrev range : (f : Facts) → InRange (plain f)
range f = record { class_clearance = f.class_clearance_in_range }

abbrev made : (p : Plain) → InRange p → Facts
made p k = record {
  kind = p.kind;
  class = p.class;
  net_name = p.net_name;
  width = p.width;
  diameter = p.diameter;
  hole = p.hole;
  layers = p.layers;
  on_edge = p.on_edge;
  plated = p.plated;
  micro = p.micro;
  blind = p.blind;
  local = p.local;
  class_clearance = p.class_clearance;
  areas = p.areas;
  courtyards = p.courtyards;
  class_clearance_in_range = k.class_clearance;
}

-- facts whose values are the same are the same: what bounds a length has one proof
made_once : (p q : Plain) → p ≡ q → (k : InRange p) (l : InRange q) → made p k ≡ made q l
made_once p q e k l = subst (λ (r : Plain). (l : InRange r) → made p k ≡ made r l) e (λ l. ap (made p) (in_range-prop p k l)) l

-- facts with the same values are the same
pub from_values : (f g : Facts) → f.kind ≡ g.kind → f.class ≡ g.class → f.net_name ≡ g.net_name → f.width ≡ g.width → f.diameter ≡ g.diameter → f.hole ≡ g.hole → f.layers ≡ g.layers → f.on_edge ≡ g.on_edge
    → f.plated ≡ g.plated → f.micro ≡ g.micro → f.blind ≡ g.blind → f.local ≡ g.local → f.class_clearance ≡ g.class_clearance → f.areas ≡ g.areas → f.courtyards ≡ g.courtyards → f ≡ g
from_values f g kind class net_name width diameter hole layers on_edge plated micro blind local class_clearance areas courtyards = made_once (plain f) (plain g) same (range f) (range g)
  where
    same : plain f ≡ plain g
    same = λ i. record {
      kind = kind i;
      class = class i;
      net_name = net_name i;
      width = width i;
      diameter = diameter i;
      hole = hole i;
      layers = layers i;
      on_edge = on_edge i;
      plated = plated i;
      micro = micro i;
      blind = blind i;
      local = local i;
      class_clearance = class_clearance i;
      areas = areas i;
      courtyards = courtyards i;
    }

pub one_facts : (board : PlainBoard) (classes : PlainClasses) (item : Item) (f g : Facts) → AreFactsOf board classes item f → AreFactsOf board classes item g → f ≡ g
one_facts board classes item f g p q =
    from_values f g (p.kind ∙ sym q.kind) (p.class ∙ sym q.class) (p.net_name ∙ sym q.net_name) (p.width ∙ sym q.width) (p.diameter ∙ sym q.diameter) (p.hole ∙ sym q.hole)
    (layers_once item f.layers g.layers p.layers q.layers) (p.on_edge ∙ sym q.on_edge) (p.plated ∙ sym q.plated) (p.micro ∙ sym q.micro) (p.blind ∙ sym q.blind) (p.local ∙ sym q.local)
    (p.class_clearance ∙ sym q.class_clearance)
    (names_once (MeetsArea item) (area_once item) board.items f.areas g.areas p.areas q.areas)
    (names_once (MeetsCourtyard item) (courtyard_once item) board.items f.courtyards g.courtyards p.courtyards q.courtyards)

item_once : (found : Option Item) (item other : Item) → found ≡ Some item → found ≡ Some other → item ≡ other
item_once found item other e f = cc

pub one_facts_at : (board : PlainBoard) (classes : PlainClasses) (id : ℕ) (f g : Facts) → AreFacts board classes id f → AreFacts board classes id g → f ≡ g
one_facts_at board classes id f g p q =
    one_facts board classes q.item f g (subst (λ (item : Item). AreFactsOf board classes item f) (item_once (item_at board.items id) p.item q.item p.stands q.stands) p.facts_of) q.facts_of
