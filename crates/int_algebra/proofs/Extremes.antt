-- The lesser and the greater of two numbers, as `min` and `max` give them.
use Rattle.std.proofs.Common.{◌≡◌, ◌≤◌, unsigned_abs, ℤ, ◌≤ℤ◌, ◌⊎◌, Bool, true, false, cond, FitsSigned, refl, sym, ◌∙◌, ap, subst, inl, inr, arith}
use Rattle.std.proofs.lemmas.Int.{ints, to_z-of_z}
use Rattle.std.specs.Prelude.{int_lt}
use Rattle.std.specs.Int.{int_min, int_max}
use mir.Syntax.{w64}
use Rattle.int_algebra.proofs.Order.{le_refl}
use Rattle.int_algebra.proofs.Scalars.{passed, passed_is}

-- r is the lesser, or the greater, of u and v
pub record IsLesser (u v r : ℤ) : Type 0 where
  pub first : r ≤ℤ u
  pub second : r ≤ℤ v
  pub either : (r ≡ u) ⊎ (r ≡ v)

pub record IsGreater (u v r : ℤ) : Type 0 where
  pub first : u ≤ℤ r
  pub second : v ≤ℤ r
  pub either : (r ≡ u) ⊎ (r ≡ v)

pub lesser_least : (u v r m : ℤ) → IsLesser u v r → m ≤ℤ u → m ≤ℤ v → m ≤ℤ r
lesser_least u v r m l h k = by l.either
  where
    by : (r ≡ u) ⊎ (r ≡ v) → m ≤ℤ r
    by (inl e) = subst (λ (z : ℤ). m ≤ℤ z) (sym e) h
    by (inr e) = subst (λ (z : ℤ). m ≤ℤ z) (sym e) k

pub greater_most : (u v r m : ℤ) → IsGreater u v r → u ≤ℤ m → v ≤ℤ m → r ≤ℤ m
greater_most u v r m g h k = by g.either
  where
    by : (r ≡ u) ⊎ (r ≡ v) → r ≤ℤ m
    by (inl e) = subst (λ (z : ℤ). z ≤ℤ m) (sym e) h
    by (inr e) = subst (λ (z : ℤ). z ≤ℤ m) (sym e) k

lesser_by : (u v : ℤ) (t : Bool) → int_lt v u ≡ t → IsLesser u v (cond t v u)
lesser_by u v true e = record { first = omega (arith, ints, e); second = le_refl v; either = inr refl }
lesser_by u v false e = record { first = le_refl u; second = omega (arith, ints, e); either = inl refl }

greater_by : (u v : ℤ) (t : Bool) → int_lt v u ≡ t → IsGreater u v (cond t u v)
greater_by u v true e = record { first = le_refl u; second = omega (arith, ints, e); either = inl refl }
greater_by u v false e = record { first = omega (arith, ints, e); second = le_refl v; either = inr refl }

pub lesser_is : (u v r : ℤ) → unsigned_abs u ≤ 8000000000000000000 → unsigned_abs v ≤ 8000000000000000000 → FitsSigned w64 r → r ≡ int_min (passed u) (passed v) → IsLesser u v (passed r)
lesser_is u v r h k fits e =
    subst (λ (z : ℤ). IsLesser u v z) (sym (to_z-of_z w64 r fits ∙ e ∙ ap (λ z. int_min z (passed v)) (passed_is u h) ∙ ap (λ z. int_min u z) (passed_is v k))) (lesser_by u v (int_lt v u) refl)

pub greater_is : (u v r : ℤ) → unsigned_abs u ≤ 8000000000000000000 → unsigned_abs v ≤ 8000000000000000000 → FitsSigned w64 r → r ≡ int_max (passed u) (passed v) → IsGreater u v (passed r)
greater_is u v r h k fits e =
    subst (λ (z : ℤ). IsGreater u v z) (sym (to_z-of_z w64 r fits ∙ e ∙ ap (λ z. int_max z (passed v)) (passed_is u h) ∙ ap (λ z. int_max u z) (passed_is v k))) (greater_by u v (int_lt v u) refl)
