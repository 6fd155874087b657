-- The greatest of some lists of lengths, list by list.
use Rattle.std.proofs.Common.{◌≡◌, refl, sym, ap, subst, ◌∙◌, ◌⊎◌, inl, inr, ℕ, suc, ◌<◌, ◌≤◌, ℤ, ◌≤ℤ◌, FitsSigned, w64, Bool, true, false, cond, List, [], ◌∷◌, ◌++◌, length, get_or, map, drop, ◌+◌, All, Contains, arith}
use Rattle.std.specs.Prelude.{int_lt}
use Rattle.std.specs.Int.{int_max}
use Rattle.std.specs.List.{flat_map}
use Rattle.std.proofs.Math.Seq.{drop-cons}
use Rattle.std.proofs.Math.ListN.{drop_of_length-le}
use Rattle.std.proofs.lemmas.Int.{ints}
use Rattle.std.proofs.lemmas.List.Elements.{All-nil, All-cons, All-head, All-tail, All-append, Contains-append_left, Contains-append_right}
use Rattle.int_algebra.proofs.Order.{le_refl, le_trans}
use Rattle.int_algebra.proofs.Scalars.{clean, cleaned, passed}
use Rattle.plain_types.specs.Lengths.{IsLength}
use Rattle.net_class.specs.NetClasses.{PlainClass, PlainClasses, greatest_of, greatest_clearance}
use Rattle.rule_pick.specs.Reach.{clearances_of, IsGreatestOf}
use Rattle.rule_pick.specs.Raised.{IsRaised, IsRaisedSoFar}

plus-one : (n : ℕ) → suc n ≡ n + 1
plus-one n = omega arith

weaker : (r s : ℤ) (xs : List ℤ) → r ≤ℤ s → All (λ v. v ≤ℤ r) xs → All (λ v. v ≤ℤ s) xs
weaker r s [] l a = All-nil (λ v. v ≤ℤ s)
weaker r s (x ∷ xs) l a = All-cons (λ v. v ≤ℤ s) x xs (le_trans x r s (All-head (λ v. v ≤ℤ r) x xs a) l) (weaker r s xs l (All-tail (λ v. v ≤ℤ r) x xs a))

-- by nothing
pub by_none : (n : ℤ) → IsRaised n [] n
by_none n = record { from = le_refl n; most = All-nil (λ v. v ≤ℤ n); one = inl refl }

head_in : (x : ℤ) (xs : List ℤ) → Contains (x ∷ xs) x
head_in x xs = (0, omega arith, refl)

tail_in : (x y : ℤ) (xs : List ℤ) → Contains xs y → Contains (x ∷ xs) y
tail_in x y xs c = let lt = c.1 in (suc c.0, omega arith, c.2)

-- by one
pub by_one : (x n : ℤ) (t : Bool) → int_lt n x ≡ t → IsRaised n (x ∷ []) (cond t x n)
by_one x n true e = record { from = omega (arith, ints, e); most = All-cons (λ v. v ≤ℤ x) x [] (le_refl x) (All-nil (λ v. v ≤ℤ x)); one = inr (head_in x []) }
by_one x n false e = record { from = le_refl n; most = All-cons (λ v. v ≤ℤ n) x [] (omega (arith, ints, e)) (All-nil (λ v. v ≤ℤ n)); one = inl refl }

pub by_greater : (x n : ℤ) → IsRaised n (x ∷ []) (int_max x n)
by_greater x n = by_one x n (int_lt n x) refl

-- by one list and then by another
pub joined : (n r s : ℤ) (xs ys : List ℤ) → IsRaised n xs r → IsRaised r ys s → IsRaised n (xs ++ ys) s
joined n r s xs ys h k = record {
  from = le_trans n r s h.from k.from;
  most = All-append (λ v. v ≤ℤ s) xs ys (weaker r s xs k.from h.most) k.most;
  one = by k.one h.one;
}
  where
    by : (s ≡ r) ⊎ Contains ys s → (r ≡ n) ⊎ Contains xs r → (s ≡ n) ⊎ Contains (xs ++ ys) s
    by (inr c) o = inr (Contains-append_right xs ys s c)
    by (inl e) (inl f) = inl (e ∙ f)
    by (inl e) (inr c) = inr (Contains-append_left xs ys s (subst (Contains xs) (sym e) c))

-- ---- loops

pub at_start : (n : ℤ) (values : List ℤ) → IsRaisedSoFar n values values n
at_start n values = record { with_rest = λ s h. h }

pub step : (n r s : ℤ) (values here left : List ℤ) → IsRaisedSoFar n values (here ++ left) r → IsRaised r here s → IsRaisedSoFar n values left s
step n r s values here left h k = record { with_rest = λ t m. h.with_rest t (joined r s t here left k m) }

pub at_end : (n r : ℤ) (values : List ℤ) → IsRaisedSoFar n values [] r → IsRaised n values r
at_end n r values h = h.with_rest r (by_none r)

-- the element at the place gives its values
module _ {X Y : Type 0} (plain : X → Y) (f : Y → List ℤ) (n : ℤ) (values : List ℤ) (xs : List X) (i : ℕ) where
  pub at_item : (r s : ℤ) (x : X) → i < length xs → x ≡ get_or xs i x → IsRaisedSoFar n values (flat_map f (map plain (drop i xs))) r → IsRaised r (f (plain x)) s → IsRaisedSoFar n values (flat_map f (map plain (drop (i + 1) xs))) s
  at_item r s x lt e h k =
      step n r s values (f (plain x)) (flat_map f (map plain (drop (i + 1) xs))) (subst (λ (l : List X). IsRaisedSoFar n values (flat_map f (map plain l)) r) split h) k
    where
      split : drop i xs ≡ x ∷ drop (i + 1) xs
      split = drop-cons xs i x lt ∙ ap (λ (y : X). y ∷ drop (suc i) xs) (sym e) ∙ ap (λ (j : ℕ). x ∷ drop j xs) (plus-one i)

  pub past_items : (r : ℤ) → length xs ≤ i → IsRaisedSoFar n values (flat_map f (map plain (drop i xs))) r → IsRaised n values r
  past_items r l h = at_end n r values (subst (λ (ys : List X). IsRaisedSoFar n values (flat_map f (map plain ys)) r) (drop_of_length-le xs {i = i} l) h)

-- ---- classes

classes_raise : (least : ℤ) (named : List PlainClass) → IsRaised least (map (λ c. c.clearance) named) (greatest_of least named)
classes_raise least [] = by_none least
classes_raise least (c ∷ named) =
    joined least (int_max c.clearance least) (greatest_of (int_max c.clearance least) named) (c.clearance ∷ []) (map (λ c. c.clearance) named)
    (by_greater c.clearance least) (classes_raise (int_max c.clearance least) named)

-- from a value on
from_value : (n r : ℤ) (values : List ℤ) → IsRaised n values r → IsGreatestOf (n ∷ values) r
from_value n r values h = record { most = All-cons (λ v. v ≤ℤ r) n values h.from h.most; one = by h.one }
  where
    by : (r ≡ n) ⊎ Contains values r → Contains (n ∷ values) r
    by (inl e) = subst (Contains (n ∷ values)) (sym e) (head_in n values)
    by (inr c) = tail_in n r values c

pub of_classes : (classes : PlainClasses) → IsGreatestOf (clearances_of classes) (greatest_clearance classes)
unfolding greatest_clearance
of_classes classes = from_value classes.default.clearance (greatest_of classes.default.clearance classes.named) (map (λ c. c.clearance) classes.named) (classes_raise classes.default.clearance classes.named)

-- values behind those that there are, and before them
pub behind : (n r : ℤ) (xs ys : List ℤ) → IsGreatestOf xs n → IsRaised n ys r → IsGreatestOf (xs ++ ys) r
behind n r xs ys h k = record { most = All-append (λ v. v ≤ℤ r) xs ys (weaker n r xs k.from h.most) k.most; one = by k.one }
  where
    by : (r ≡ n) ⊎ Contains ys r → Contains (xs ++ ys) r
    by (inl e) = Contains-append_left xs ys r (subst (Contains xs) (sym e) h.one)
    by (inr c) = Contains-append_right xs ys r c

pub before : (n r : ℤ) (xs ys : List ℤ) → IsGreatestOf xs n → IsRaised n ys r → IsGreatestOf (ys ++ xs) r
before n r xs ys h k = record { most = All-append (λ v. v ≤ℤ r) ys xs k.most (weaker n r xs k.from h.most); one = by k.one }
  where
    by : (r ≡ n) ⊎ Contains ys r → Contains (ys ++ xs) r
    by (inl e) = Contains-append_right ys xs r (subst (Contains xs) (sym e) h.one)
    by (inr c) = Contains-append_left ys xs r c

-- ---- lengths that the code passes on

fits : (z : ℤ) → IsLength z → FitsSigned w64 z
fits z h = let from = h.from in let to = h.to in omega (arith, ints)

pub raised_by_passed : (n r z : ℤ) → IsLength z → IsRaised n (passed z ∷ []) r → IsRaised n (z ∷ []) r
raised_by_passed n r z h raised = cleaned (λ x. IsRaised n (x ∷ []) r) z (fits z h) raised

pub greatest_passed : (values : List ℤ) (z : ℤ) → IsLength z → IsGreatestOf values z → IsGreatestOf values (passed z)
greatest_passed values z h greatest = subst (λ (x : ℤ). IsGreatestOf values x) (sym (clean z (fits z h))) greatest
