-- Lists that are gone through from the first element on.
use Rattle.std.proofs.Common.{◌≡◌, ℕ, zero, suc, ◌<◌, ◌≤◌, true, false, cond, List, [], ◌∷◌, length, get_or, drop, Some, option_map, find, bytes_eq, refl, ap, arith}
use Rattle.one_item.specs.declared.item.Item.{Item}
use Rattle.board_items.specs.Units.{first_named}

-- what is left begins with the next one
pub left_at : {X : Type 0} (xs : List X) (i : ℕ) (d : X) → i < length xs → drop i xs ≡ get_or xs i d ∷ drop (suc i) xs
left_at [] i d lt = absurd (omega arith)
left_at (x ∷ xs) zero d lt = refl
left_at (x ∷ xs) (suc i) d lt = left_at xs i d (omega arith)

pub none_left : {X : Type 0} (xs : List X) (i : ℕ) → length xs ≤ i → drop i xs ≡ []
none_left [] zero le = refl
none_left [] (suc i) le = refl
none_left (x ∷ xs) zero le = absurd (omega arith)
none_left (x ∷ xs) (suc i) le = none_left xs i (omega arith)

-- ---- the first item of a name
pub named_here : (name : List ℕ) (e : ℕ × Item) (es : List (ℕ × Item)) → bytes_eq e.1.name name ≡ true → first_named name (e ∷ es) ≡ Some e.1.unit
named_here name e es h = ap (λ b. option_map (λ x. x.1.unit) (cond b (Some e) (find (λ x. bytes_eq x.1.name name) es))) h

pub not_named : (name : List ℕ) (e : ℕ × Item) (es : List (ℕ × Item)) → bytes_eq e.1.name name ≡ false → first_named name (e ∷ es) ≡ first_named name es
not_named name e es h = ap (λ b. option_map (λ x. x.1.unit) (cond b (Some e) (find (λ x. bytes_eq x.1.name name) es))) h
