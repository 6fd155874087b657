-- Names sought in a list of names: what the call `is` answers, and how the search goes on.
use Rattle.std.proofs.Common.{◌≡◌, ℕ, zero, suc, ◌+◌, refl, List, [], ◌∷◌, drop, slice_get, Option, Some, None, Bool, IsTrue, ◌↔◌, true, false, sym, ap, ◌∙◌, bytes_eq, arith, cond}
use Rattle.std.proofs.lemmas.Slice.Eq.{bytes_eq-Decides}
use Rattle.std.specs.List.{position_from}
use Rattle.sexpr_read.specs.Tree.{Tree, value}
use Rattle.list_read.specs.ListHeads.{is_text, is_value}

same_truth : (a b : Bool) → (IsTrue a → IsTrue b) → (IsTrue b → IsTrue a) → a ≡ b
same_truth true true f g = refl
same_truth true false f g = sym (f refl)
same_truth false true f g = g refl
same_truth false false f g = refl

value_is : (v : Option (List ℕ)) (name : List ℕ) (b : Bool) → (IsTrue b ↔ (v ≡ Some name)) → is_value v name ≡ b
value_is None name b h = same_truth false b (λ k. absurd cc) (λ k. let e : None ≡ Some name = h.0 k in absurd cc)
value_is (Some v) name b h =
    let same = bytes_eq-Decides v name in
    same_truth (bytes_eq v name) b (λ k. h.1 (ap (λ (w : List ℕ). Some w) (same.0 k))) (λ k. let e : Some v ≡ Some name = h.0 k in same.1 cc)

-- what the call `is` answers
pub text_is : (t : Tree) (name : List ℕ) (b : Bool) → (IsTrue b ↔ (value t ≡ Some name)) → is_text t name ≡ b
text_is t name b h = value_is (value t) name b h

-- the search goes on behind the names that were passed
name_step : (n k : ℕ) (names : List (List ℕ)) (atom : Tree) (name : List ℕ) → slice_get names k ≡ Some name
    → position_from (is_text atom) n (drop k names) ≡ cond (is_text atom name) (Some n) (position_from (is_text atom) (n + 1) (drop (k + 1) names))
name_step n k [] atom name h = absurd cc
name_step n zero (x ∷ xs) atom name h = cc
name_step n (suc k) (x ∷ xs) atom name h = let e : suc k + 1 ≡ suc (k + 1) = omega arith in rw e (name_step n k xs atom name h)

-- it ends at the name that the text is
pub name_found : (n : ℕ) (names : List (List ℕ)) (atom : Tree) (name : List ℕ) (b : Bool) → slice_get names n ≡ Some name → (IsTrue b ↔ (value atom ≡ Some name)) → b ≡ true
    → position_from (is_text atom) n (drop n names) ≡ Some n
name_found n names atom name b at is same =
    name_step n n names atom name at ∙ ap (λ (t : Bool). cond t (Some n) (position_from (is_text atom) (n + 1) (drop (n + 1) names))) (text_is atom name b is ∙ same)

-- and passes each other
pub name_passed : (n : ℕ) (names : List (List ℕ)) (atom : Tree) (name : List ℕ) (b : Bool) → slice_get names n ≡ Some name → (IsTrue b ↔ (value atom ≡ Some name)) → b ≡ false
    → position_from (is_text atom) n (drop n names) ≡ position_from (is_text atom) (n + 1) (drop (n + 1) names)
name_passed n names atom name b at is other =
    name_step n n names atom name at ∙ ap (λ (t : Bool). cond t (Some n) (position_from (is_text atom) (n + 1) (drop (n + 1) names))) (text_is atom name b is ∙ other)
