-- A text has one refusal at most, and none where it has a value.
use Rattle.std.proofs.Common.{◌≡◌, ◌≢◌, ℕ, suc, ◌+◌, ◌<◌, ◌≤◌, List, ◌++◌, length, take, drop, refl, sym, ◌∙◌, ap, subst, arith, ◌⊎◌, inl, inr}
use Rattle.std.proofs.lemmas.Bool.{both_ways, cases_lt, cases_order}
use Rattle.std.proofs.lemmas.List.{take-append-drop}
use Rattle.std.specs.Prelude.{slice_range}
use Rattle.json_exact.specs.Json.{Json}
use Rattle.json_exact.specs.JsonText.{SpelledWithin}
use Rattle.json_exact.specs.JsonRefusals.{depth_limit, CanGoOn, Stops, IsAlone, EndsDigits, CountsAt, IsBad, IsTooDeep, IsRefused}
use Rattle.json_exact.specs.declared.error.JsonError.{JsonError}
use Rattle.json_exact.specs.declared.error.JsonError.TheVariants.{Bad, TooDeep, OutOfMemory}
use Rattle.json_exact.proofs.Ranges.{up_to_with}

-- what goes on from a place goes on from each before it
earlier : (levels : ℕ) (text : List ℕ) (a b : ℕ) → a ≤ b → b ≤ length text → CanGoOn levels (take b text) → CanGoOn levels (take a text)
earlier levels text a b h k can =
    (slice_range text a b ++ can.0, can.1, subst (λ (q : List ℕ). SpelledWithin levels q can.1) (up_to_with text can.0 a b h k) can.2)

spelled_goes_on : (levels : ℕ) (text : List ℕ) (v : Json) (a : ℕ) → SpelledWithin levels text v → CanGoOn levels (take a text)
spelled_goes_on levels text v a sp = (drop a text, v, subst (λ (q : List ℕ). SpelledWithin levels q v) (sym (take-append-drop a text)) sp)

bad_not_spelled : (text : List ℕ) (k : ℕ) (v : Json) → Stops text k → SpelledWithin depth_limit text v → ((k < length text) ⊎ (length text ≤ k)) → ⊥
bad_not_spelled text k v s sp (inl lt) = s.byte lt 0 (spelled_goes_on depth_limit text v (suc k) sp)
bad_not_spelled text k v s sp (inr le) = (let f : k ≤ length text = s.in_text in s.whole (omega arith) 0 v sp)

-- a text that has a value is refused for running out of memory alone
pub only_memory : (text : List ℕ) (v : Json) (e : JsonError) → SpelledWithin depth_limit text v → IsRefused text e → e ≡ OutOfMemory
only_memory text v (Bad at) sp h = absurd (bad_not_spelled text h.0 v h.1 sp (cases_lt h.0 (length text)))
only_memory text v (TooDeep at) sp h = absurd (h.too_deep (spelled_goes_on depth_limit text v (suc at) sp))
only_memory text v OutOfMemory sp h = refl

-- ---- one place

no_earlier : (text : List ℕ) (k l : ℕ) → Stops text k → l ≤ length text → CanGoOn depth_limit (take l text) → k < l → ⊥
no_earlier text k l s h can lt = s.byte (omega arith) 0 (earlier depth_limit text (suc k) l (omega arith) h can)

same_stop : (text : List ℕ) (k l : ℕ) → Stops text k → Stops text l → ((k ≡ l) ⊎ ((k < l) ⊎ (l < k))) → k ≡ l
same_stop text k l s t (inl e) = e
same_stop text k l s t (inr (inl lt)) = absurd (no_earlier text k l s t.in_text t.before lt)
same_stop text k l s t (inr (inr lt)) = absurd (no_earlier text l k t s.in_text s.before lt)

same_alone : (text : List ℕ) (s t k : ℕ) → IsAlone text s k → IsAlone text t k → ((s ≡ t) ⊎ ((s < t) ⊎ (t < s))) → s ≡ t
same_alone text s t k a b (inl e) = e
same_alone text s t k a b (inr (inl lt)) = absurd (a.no_letter t lt b.order b.letter)
same_alone text s t k a b (inr (inr lt)) = absurd (b.no_letter s lt a.order a.letter)

-- the digits of an escape end once
no_further : (text : List ℕ) (s a b : ℕ) → EndsDigits text s a → EndsDigits text s b → a < b → ⊥
no_further text s a b x y lt =
    let few : b ≤ s + 6 = y.few in
    let in_text : b ≤ length text = y.in_text in
    both_ways _ (x.next (omega arith) (omega arith)) (y.digits a x.forward lt)

same_digits : (text : List ℕ) (s a b : ℕ) → EndsDigits text s a → EndsDigits text s b → ((a ≡ b) ⊎ ((a < b) ⊎ (b < a))) → a ≡ b
same_digits text s a b x y (inl e) = e
same_digits text s a b x y (inr (inl lt)) = absurd (no_further text s a b x y lt)
same_digits text s a b x y (inr (inr lt)) = absurd (no_further text s b a y x lt)

same_place : (s m n a b : ℕ) → m ≡ n → ((m ≡ s + 6) × (a ≡ s)) ⊎ ((m < s + 6) × (a ≡ m)) → ((n ≡ s + 6) × (b ≡ s)) ⊎ ((n < s + 6) × (b ≡ n)) → a ≡ b
same_place s m n a b e (inl x) (inl y) = x.1 ∙ sym y.1
same_place s m n a b e (inl x) (inr y) = absurd (omega (arith, x.0, y.0))
same_place s m n a b e (inr x) (inl y) = absurd (omega (arith, x.0, y.0))
same_place s m n a b e (inr x) (inr y) = x.1 ∙ e ∙ sym y.1

same_counts_at : (text : List ℕ) (s a b : ℕ) → CountsAt text s a → CountsAt text s b → a ≡ b
same_counts_at text s a b x y = same_place s x.0 y.0 a b (same_digits text s x.0 y.0 x.1 y.1 (cases_order x.0 y.0)) x.2 y.2

abbrev Counted : List ℕ → ℕ → ℕ → Type 0
Counted text k at = ((s : ℕ) × IsAlone text s k × CountsAt text s at) ⊎ (((s : ℕ) → IsAlone text s k → ⊥) × (at ≡ k))

same_counted : (text : List ℕ) (k a b : ℕ) → Counted text k a → Counted text k b → a ≡ b
same_counted text k a b (inl x) (inl y) =
    let e : y.0 ≡ x.0 = same_alone text y.0 x.0 k y.1 x.1 (cases_order y.0 x.0) in
    same_counts_at text x.0 a b x.2 (subst (λ (s : ℕ). CountsAt text s b) e y.2)
same_counted text k a b (inl x) (inr y) = absurd (y.0 x.0 x.1)
same_counted text k a b (inr x) (inl y) = absurd (x.0 y.0 y.1)
same_counted text k a b (inr x) (inr y) = x.1 ∙ sym y.1

pub same_bad : (text : List ℕ) (a b : ℕ) → IsBad text a → IsBad text b → a ≡ b
same_bad text a b x y =
    let e : y.0 ≡ x.0 = same_stop text y.0 x.0 y.1 x.1 (cases_order y.0 x.0) in
    same_counted text x.0 a b x.2 (subst (λ (k : ℕ). Counted text k b) e y.2)

bad_or_deep : (text : List ℕ) (k b : ℕ) → Stops text k → IsTooDeep text b → ((k ≡ b) ⊎ ((k < b) ⊎ (b < k))) → ⊥
bad_or_deep text k b s d (inl e) = s.byte (subst (λ (m : ℕ). m < length text) (sym e) d.in_text) 1 (subst (λ (m : ℕ). CanGoOn 65 (take (suc m) text)) (sym e) d.deeper)
bad_or_deep text k b s d (inr (inl lt)) = (let h : b < length text = d.in_text in no_earlier text k b s (omega arith) d.before lt)
bad_or_deep text k b s d (inr (inr lt)) = d.too_deep (earlier depth_limit text (suc b) k lt s.in_text s.before)

same_deep : (text : List ℕ) (a b : ℕ) → IsTooDeep text a → IsTooDeep text b → ((a ≡ b) ⊎ ((a < b) ⊎ (b < a))) → a ≡ b
same_deep text a b x y (inl e) = e
same_deep text a b x y (inr (inl lt)) = (let h : b < length text = y.in_text in absurd (x.too_deep (earlier depth_limit text (suc a) b lt (omega arith) y.before)))
same_deep text a b x y (inr (inr lt)) = (let h : a < length text = x.in_text in absurd (y.too_deep (earlier depth_limit text (suc b) a lt (omega arith) x.before)))

-- two refusals of a text are one, but for running out of memory
pub one_refusal : (text : List ℕ) (e f : JsonError) → IsRefused text e → IsRefused text f → e ≢ OutOfMemory → (f ≡ e) ⊎ (f ≡ OutOfMemory)
one_refusal text (Bad a) (Bad b) x y n = inl (ap (λ (m : ℕ). Bad m) (same_bad text b a y x))
one_refusal text (Bad a) (TooDeep b) x y n = absurd (bad_or_deep text x.0 b x.1 y (cases_order x.0 b))
one_refusal text (Bad a) OutOfMemory x y n = inr refl
one_refusal text (TooDeep a) (Bad b) x y n = absurd (bad_or_deep text y.0 a y.1 x (cases_order y.0 a))
one_refusal text (TooDeep a) (TooDeep b) x y n = inl (ap (λ (m : ℕ). TooDeep m) (same_deep text b a y x (cases_order b a)))
one_refusal text (TooDeep a) OutOfMemory x y n = inr refl
one_refusal text OutOfMemory (Bad b) x y n = absurd (n refl)
one_refusal text OutOfMemory (TooDeep b) x y n = absurd (n refl)
one_refusal text OutOfMemory OutOfMemory x y n = inr refl
