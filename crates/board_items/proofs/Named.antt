-- Names of items: what is asked of the items of a unit, or of a name, may be asked of them alone.
use Rattle.std.proofs.Common.{◌≡◌, ◌∙◌, ap, sym, refl, ℕ, Bool, true, false, cond, ◌&&◌, ◌||◌, not, nat_eq, bytes_eq, List, [], ◌∷◌, length, filter, None as Nothing, Some, eq-eqb}
use Rattle.std.specs.Prelude.{◌==◌}
use Rattle.one_item.specs.declared.item.Item.{Item}
use Rattle.board_items.specs.declared.found.Found.TheVariants.{None, Shared, Inside, Unit as One}
use Rattle.board_items.specs.Tags.{all_named}
use Rattle.one_item.specs.ItemKinds.{is_body}
use Rattle.board_items.specs.Units.{first_named, is_shared, has_other_unit, has_body_named_otherwise, is_footprint_named_otherwise, found_by, found_of}
use Rattle.board_items.proofs.Walking.{named_here, not_named}

module _ (unit : ℕ) (name : List ℕ) where
  abbrev own : ℕ × Item → Bool
  own entry = nat_eq entry.1.unit unit

  abbrev otherwise : ℕ × Item → Bool
  otherwise entry = is_body entry.1.what && not (bytes_eq entry.1.name name)

  pub body_of_unit : (items : List (ℕ × Item)) → has_body_named_otherwise name (filter own items) ≡ is_footprint_named_otherwise unit name items
  body_of_unit [] = refl
  body_of_unit (x ∷ xs) = by (own x) (body_of_unit xs)
    where
      by : (t : Bool) → has_body_named_otherwise name (filter own xs) ≡ is_footprint_named_otherwise unit name xs
          → has_body_named_otherwise name (cond t (x ∷ filter own xs) (filter own xs)) ≡ (((t && is_body x.1.what) && not (bytes_eq x.1.name name)) || is_footprint_named_otherwise unit name xs)
      by true ih = ap (λ b. otherwise x || b) ih
      by false ih = ih

-- ---- the items of a name
pub first_of : (name : List ℕ) (items : List (ℕ × Item)) (e : ℕ × Item) (es : List (ℕ × Item)) → all_named name items ≡ e ∷ es → first_named name items ≡ Some e.1.unit
first_of name [] e es h = absurd cc
first_of name (x ∷ xs) e es h = by (first_of name xs e es) (bytes_eq x.1.name name) refl h
  where
    by : (all_named name xs ≡ e ∷ es → first_named name xs ≡ Some e.1.unit) → (b : Bool) → bytes_eq x.1.name name ≡ b → cond b (x ∷ all_named name xs) (all_named name xs) ≡ e ∷ es → first_named name (x ∷ xs) ≡ Some e.1.unit
    by again true k g = let same : x ≡ e = cc in named_here name x xs k ∙ ap (λ (y : ℕ × Item). Some y.1.unit) same
    by again false k g = not_named name x xs k ∙ again g

pub none_of : (name : List ℕ) (items : List (ℕ × Item)) → all_named name items ≡ [] → first_named name items ≡ Nothing
none_of name [] h = refl
none_of name (x ∷ xs) h = by (none_of name xs) (bytes_eq x.1.name name) refl h
  where
    by : (all_named name xs ≡ [] → first_named name xs ≡ Nothing) → (b : Bool) → bytes_eq x.1.name name ≡ b → cond b (x ∷ all_named name xs) (all_named name xs) ≡ [] → first_named name (x ∷ xs) ≡ Nothing
    by again true k g = absurd cc
    by again false k g = not_named name x xs k ∙ again g

shared_of : (unit : ℕ) (name : List ℕ) (items : List (ℕ × Item)) → has_other_unit unit (all_named name items) ≡ is_shared unit name items
shared_of unit name [] = refl
shared_of unit name (x ∷ xs) = by (bytes_eq x.1.name name) (shared_of unit name xs)
  where
    by : (b : Bool) → has_other_unit unit (all_named name xs) ≡ is_shared unit name xs
        → has_other_unit unit (cond b (x ∷ all_named name xs) (all_named name xs)) ≡ ((b && not (nat_eq x.1.unit unit)) || is_shared unit name xs)
    by true ih = ap (λ b. not (nat_eq x.1.unit unit) || b) ih
    by false ih = ih

-- the first item of the name is of its own unit
pub shared_behind : (name : List ℕ) (items : List (ℕ × Item)) (e : ℕ × Item) (es : List (ℕ × Item)) → all_named name items ≡ e ∷ es → has_other_unit e.1.unit es ≡ is_shared e.1.unit name items
shared_behind name items e es h =
    ap (λ b. not b || has_other_unit e.1.unit es) (sym (eq-eqb e.1.unit e.1.unit refl)) ∙ ap (has_other_unit e.1.unit) (sym h) ∙ shared_of e.1.unit name items

-- ---- what a name stands for
module _ (name shown : List ℕ) (items : List (ℕ × Item)) (bytes : shown ≡ name) (some : false ≡ (length shown == 0)) where
  not_empty : found_of name items ≡ found_by (first_named name items) name items
  not_empty = by name (some ∙ ap (λ ns. length ns == 0) bytes)
    where
      by : (ns : List ℕ) → false ≡ (length ns == 0) → found_of ns items ≡ found_by (first_named ns items) ns items
      by [] e = absurd cc
      by (n ∷ ns) e = refl

  pub found_none : all_named name items ≡ [] → None ≡ found_of name items
  found_none h = sym (not_empty ∙ ap (λ o. found_by o name items) (none_of name items h))

  module _ (e : ℕ × Item) (es : List (ℕ × Item)) (named : all_named name items ≡ e ∷ es) where
    found_is : found_of name items ≡ cond (has_other_unit e.1.unit es) Shared (cond (is_footprint_named_otherwise e.1.unit name items) Inside (One e.1.unit))
    found_is =
        not_empty ∙ ap (λ o. found_by o name items) (first_of name items e es named)
        ∙ ap (λ b. cond b Shared (cond (is_footprint_named_otherwise e.1.unit name items) Inside (One e.1.unit))) (sym (shared_behind name items e es named))

    pub found_shared : has_other_unit e.1.unit es ≡ true → Shared ≡ found_of name items
    found_shared h = sym (found_is ∙ ap (λ b. cond b Shared (cond (is_footprint_named_otherwise e.1.unit name items) Inside (One e.1.unit))) h)

    own_unit : has_other_unit e.1.unit es ≡ false → found_of name items ≡ cond (is_footprint_named_otherwise e.1.unit name items) Inside (One e.1.unit)
    own_unit h = found_is ∙ ap (λ b. cond b Shared (cond (is_footprint_named_otherwise e.1.unit name items) Inside (One e.1.unit))) h

    pub found_inside : has_other_unit e.1.unit es ≡ false → is_footprint_named_otherwise e.1.unit name items ≡ true → Inside ≡ found_of name items
    found_inside h i = sym (own_unit h ∙ ap (λ b. cond b Inside (One e.1.unit)) i)

    pub found_unit : has_other_unit e.1.unit es ≡ false → is_footprint_named_otherwise e.1.unit name items ≡ false → One e.1.unit ≡ found_of name items
    found_unit h i = sym (own_unit h ∙ ap (λ b. cond b Inside (One e.1.unit)) i)
