-- The list of nets after one more was declared.
use Rattle.std.proofs.Common.{◌≡◌, ℕ, Bool, true, false, cond, List, [], ◌∷◌, ◌++◌, None, Some, slice_get, nat_eq, refl, ◌∙◌, ap}
use Rattle.std.proofs.lemmas.Cmp.{nat_eq_equiv}
use Rattle.std.specs.Map.{lookup}
use Rattle.board_items.specs.Boards.{AreDistinct}

pub still_first : (net : ℕ × List ℕ) (more nets : List (ℕ × List ℕ)) → slice_get nets 0 ≡ Some net → slice_get (nets ++ more) 0 ≡ Some net
still_first net more [] h = absurd cc
still_first net more (e ∷ es) h = h

-- a number that no net has is not that of the first
pub absent_parts : (net : ℕ) (e : ℕ × List ℕ) (es : List (ℕ × List ℕ)) → lookup (nat_eq net) (e ∷ es) ≡ None → (nat_eq net e.0 ≡ false) × (lookup (nat_eq net) es ≡ None)
absent_parts net e es h = by (nat_eq net e.0) h
  where
    by : (t : Bool) → cond t (Some e.1) (lookup (nat_eq net) es) ≡ None → (t ≡ false) × (lookup (nat_eq net) es ≡ None)
    by true k = absurd cc
    by false k = (refl, k)

absent_added : (number net : ℕ) (name : List ℕ) (es : List (ℕ × List ℕ)) → nat_eq number net ≡ false → lookup (nat_eq number) es ≡ None
    → lookup (nat_eq number) (es ++ (net, name) ∷ []) ≡ None
absent_added number net name [] differ h = ap (λ t. cond t (Some name) None) differ
absent_added number net name (e ∷ es) differ h =
    let parts = absent_parts number e es h in
    ap (λ t. cond t (Some e.1) (lookup (nat_eq number) (es ++ (net, name) ∷ []))) parts.0 ∙ absent_added number net name es differ parts.1

pub distinct_added : (net : ℕ) (name : List ℕ) (nets : List (ℕ × List ℕ)) → lookup (nat_eq net) nets ≡ None → AreDistinct nets → AreDistinct (nets ++ (net, name) ∷ [])
distinct_added net name [] absent h = (refl, tt)
distinct_added net name (e ∷ es) absent h =
    let parts = absent_parts net e es absent in
    let differ : nat_eq e.0 net ≡ false = nat_eq_equiv.symm e.0 net ∙ parts.0 in
    (absent_added e.0 net name es differ h.0, distinct_added net name es parts.1 h.1)
