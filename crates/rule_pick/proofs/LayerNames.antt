-- Layers whose names pass a test, one after the other.
use Rattle.std.proofs.Common.{◌≡◌, refl, sym, ap, subst, ◌∙◌, ℕ, zero, suc, ◌+◌, ◌<◌, ◌≤◌, Bool, true, false, ◌&&◌, ◌||◌, List, [], ◌∷◌, length, get_or, drop, Some, slice_get, arith}
use Rattle.std.proofs.Math.Seq.{drop-cons}
use Rattle.std.proofs.Math.ListN.{drop_of_length-le}
use Rattle.std.proofs.lemmas.Option.{slice_get_within, get_or_from_slice_get}
use Rattle.copper_layers.specs.declared.set.LayerSet.{LayerSet}
use Rattle.copper_layers.specs.Layers.{has_layer, layer_names}
use Rattle.rule_pick.specs.Meaning.{some_layer}

plus-one : (n : ℕ) → n + 1 ≡ suc n
plus-one n = omega arith

-- the layer here, or one after it
step : (test : List ℕ → Bool) (layers : LayerSet) (n : ℕ) (names : List (List ℕ)) (name : List ℕ) → n < length names → get_or names n name ≡ name → some_layer test layers n (drop n names) ≡ ((has_layer layers n && test name) || some_layer test layers (n + 1) (drop (n + 1) names))
unfolding some_layer
step test layers n names name h e =
    ap (some_layer test layers n) (drop-cons names n name h)
    ∙ ap (λ (x : List ℕ). (has_layer layers n && test x) || some_layer test layers (n + 1) (drop (suc n) names)) e
    ∙ ap (λ (k : ℕ). (has_layer layers n && test name) || some_layer test layers (n + 1) (drop k names)) (sym (plus-one n))

pub found : (test : List ℕ → Bool) (layers : LayerSet) (n : ℕ) (names : List (List ℕ)) (name : List ℕ) → slice_get names n ≡ Some name → has_layer layers n ≡ true → test name ≡ true → some_layer test layers n (drop n names) ≡ true
found test layers n names name s h t =
    step test layers n names name (slice_get_within names n name s) (get_or_from_slice_get names n name name s)
    ∙ ap (λ (b : Bool). (b && test name) || some_layer test layers (n + 1) (drop (n + 1) names)) h
    ∙ ap (λ (b : Bool). b || some_layer test layers (n + 1) (drop (n + 1) names)) t

pub other_name : (test : List ℕ → Bool) (layers : LayerSet) (n : ℕ) (names : List (List ℕ)) (name : List ℕ) → slice_get names n ≡ Some name → has_layer layers n ≡ true → test name ≡ false → some_layer test layers n (drop n names) ≡ some_layer test layers (n + 1) (drop (n + 1) names)
other_name test layers n names name s h t =
    step test layers n names name (slice_get_within names n name s) (get_or_from_slice_get names n name name s)
    ∙ ap (λ (b : Bool). (b && test name) || some_layer test layers (n + 1) (drop (n + 1) names)) h
    ∙ ap (λ (b : Bool). b || some_layer test layers (n + 1) (drop (n + 1) names)) t

pub not_there : (test : List ℕ → Bool) (layers : LayerSet) (n : ℕ) (names : List (List ℕ)) → n < length names → has_layer layers n ≡ false → some_layer test layers n (drop n names) ≡ some_layer test layers (n + 1) (drop (n + 1) names)
not_there test layers n names l h =
    step test layers n names (get_or names n []) l (same_default n names)
    ∙ ap (λ (b : Bool). (b && test (get_or names n [])) || some_layer test layers (n + 1) (drop (n + 1) names)) h
  where
    same_default : (k : ℕ) (xs : List (List ℕ)) → get_or xs k (get_or xs k []) ≡ get_or xs k []
    same_default k [] = refl
    same_default zero (x ∷ xs) = refl
    same_default (suc k) (x ∷ xs) = same_default k xs

pub count : length layer_names ≡ 32
unfolding layer_names
count = refl

pub at_end : (test : List ℕ → Bool) (layers : LayerSet) (n : ℕ) → 32 ≤ n → some_layer test layers n (drop n layer_names) ≡ false
unfolding some_layer
at_end test layers n h = ap (some_layer test layers n) (drop_of_length-le layer_names {i = n} (subst (λ (k : ℕ). k ≤ n) (sym count) h))
