-- Bad stands at the first byte with which no text goes on.
use Rattle.std.proofs.Common.{◌≡◌, ◌⊎◌, inl, inr, ℕ, ◌+◌, ◌≤◌, List, [], ◌∷◌, ◌++◌, length, refl, sym, ◌∙◌, ap, subst, arith}
use Rattle.std.proofs.lemmas.List.{length-append}
use Rattle.std.specs.Str.Lossy.{utf8_valid_len}
use Rattle.cond_lang.specs.declared.error.CondError.TheVariants.{Bad, TypeClash, TooDeep}
use Rattle.cond_lang.specs.Found.{Found, read, fault, and_then, place}
use Rattle.cond_lang.specs.Signs.{prefix_text}
use Rattle.cond_lang.specs.Trees.{CondTree}
use Rattle.cond_lang.specs.Conditions.{reading}
use Rattle.cond_lang.specs.ConditionPrefixes.{Passes, GoesOn, IsRefusedLength, IsFirstOfLength, StandsFirst}
use Rattle.cond_lang.proofs.Follows.{Anything, Begins}
use Rattle.cond_lang.proofs.Steady.{Misfit, OnwardFrom}
use Rattle.cond_lang.proofs.SteadyNumbers.{measure_barred}
use Rattle.cond_lang.proofs.SteadyValues.{Spoilt}
use Rattle.cond_lang.proofs.SteadyConditions.{Ends, whole, whole_steady}

types_come : (k : ℕ) → Passes (fault (TypeClash k))
types_come k = tt

levels_come : (k : ℕ) → Passes (fault (TooDeep k))
levels_come k = tt

then_read_same : (x : Found CondTree) → and_then x read ≡ x
then_read_same (read t r) = refl
then_read_same (fault e) = refl

-- what is left has the place of what stands before it
place_behind : (w v : List ℕ) → place (length (w ++ v)) v ≡ length w
place_behind w v = let e = length-append w v in omega (arith, e)

whole_is_reading : (text kept : List ℕ) → whole (length text, kept) text ≡ reading text
unfolding reading
whole_is_reading text kept = refl

goes_on : (text w : List ℕ) → OnwardFrom Passes Spoilt whole Anything Ends (Begins 39) text w → GoesOn w
goes_on text w on =
    let o = on (λ e t r. read t r) (λ t q. ([], refl, λ e. tt)) in
    (o.0, subst Passes (then_read_same (whole (length (w ++ o.0), []) (w ++ o.0)) ∙ whole_is_reading (w ++ o.0) []) (o.2 (length (w ++ o.0), [])))

by_cause : (text : List ℕ) (k : ℕ) (w v : List ℕ) → text ≡ w ++ v → Misfit Passes Spoilt whole w v (length text) k ⊎ Spoilt (length text) v k → GoesOn w → StandsFirst text k
by_cause text k w v eq (inl m) on =
    inl (
      w,
      v,
      eq,
      sym at,
      on,
      λ c cs e more.
          sym (whole_is_reading (w ++ (c ∷ more)) []) ∙ m.1 c cs e (length (w ++ (c ∷ more)), []) more ∙ ap (λ y. fault (Bad y)) (place_behind w (c ∷ more) ∙ sym at),
    )
  where
    at : k ≡ length w
    at = m.0 ∙ ap (λ y. place (length y) v) eq ∙ place_behind w v
by_cause text k w v eq (inr (inl m)) on = inr (inl (w, v, eq, on, by (measure_barred (length text) v k short m)))
  where
    short : length v ≤ length text
    short = let a : length text ≡ length (w ++ v) = ap length eq in let b = length-append w v in omega (arith, a, b)

    at : place (length text) v ≡ length w
    at = ap (λ y. place (length y) v) eq ∙ place_behind w v

    by : ((k ≡ place (length text) v) × IsRefusedLength v) ⊎ ((j : ℕ) × (k ≡ place (length text) v + j) × IsFirstOfLength v j)
        → ((k ≡ length w) × IsRefusedLength v) ⊎ ((j : ℕ) × (k ≡ length w + j) × IsFirstOfLength v j)
    by (inl h) = inl (h.0 ∙ at, h.1)
    by (inr (j, e, h)) = inr (j, e ∙ ap (λ y. y + j) at, h)
by_cause text k w v eq (inr (inr (ill, e))) on =
    inr (inr (w, v, eq, on, ill, e ∙ ap (λ y. y + utf8_valid_len (prefix_text v)) (ap (λ y. place (length y) v) eq ∙ place_behind w v)))

pub stands_first : (text : List ℕ) (k : ℕ) → reading text ≡ fault (Bad k) → StandsFirst text k
stands_first text k h =
    let b = (whole_steady Passes types_come levels_come).barred (length text, []) text k (whole_is_reading text [] ∙ h) in
    by_cause text k b.0 b.1 b.2 b.3 (goes_on text b.0 b.4)
