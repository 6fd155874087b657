-- How matching sign by sign agrees with the definition of a match.
use Rattle.std.proofs.Common.{◌≡◌, ◌⊎◌, inl, inr, ℕ, zero, suc, ◌+◌, ◌<◌, ◌≤◌, refl, sym, ◌∙◌, ap, subst, List, [], ◌∷◌, length, drop, get_or, Bool, true, false, ◌&&◌, Option, Some, None, arith, cond, add-one}
use Rattle.std.proofs.lemmas.Bool.{eqb-true, ne_eqb, cases_eq}
use Rattle.std.specs.Prelude.{◌==◌}
use Rattle.net_class.specs.Wild.{Sign, any, one, letter, sign_of, continues, next_character, is_same, stands, matches}
use Rattle.net_class.specs.PatternRuns.{behind, Rests, and_then, run_of, rests_match}

-- ---- up to the next `*`

pub run_here : (fold : Bool) (p t : List ℕ) (i : ℕ) → i < length p → get_or p i 0 ≡ 42 → run_of fold (drop i p) t ≡ Some (record { pattern = drop i p; text = t })
unfolding run_of
run_here fold [] t i h k = absurd (omega arith)
run_here fold (c ∷ p) t zero h k = rw k refl
run_here fold (c ∷ p) t (suc i) h k = run_here fold p t i (omega arith) k

pub run_past : (fold : Bool) (p t : List ℕ) (i : ℕ) → i < length p → (get_or p i 0 ≡ 42 → ⊥)
    → run_of fold (drop i p) t ≡ and_then (behind fold (sign_of (get_or p i 0)) t) (run_of fold (drop (suc i) p))
unfolding run_of
run_past fold [] t i h k = absurd (omega arith)
run_past fold (c ∷ p) t zero h k = rw (ne_eqb c 42 k) refl
run_past fold (c ∷ p) t (suc i) h k = run_past fold p t i (omega arith) k

pub run_none : (fold : Bool) (p t : List ℕ) (i : ℕ) → i < length p → (get_or p i 0 ≡ 42 → ⊥) → behind fold (sign_of (get_or p i 0)) t ≡ None → run_of fold (drop i p) t ≡ None
run_none fold p t i h k e = run_past fold p t i h k ∙ ap (λ (o : Option (List ℕ)). and_then o (run_of fold (drop (suc i) p))) e

pub run_some : (fold : Bool) (p t m : List ℕ) (i : ℕ) → i < length p → (get_or p i 0 ≡ 42 → ⊥) → behind fold (sign_of (get_or p i 0)) t ≡ Some m
    → run_of fold (drop (i + 1) p) m ≡ run_of fold (drop i p) t
run_some fold p t m i h k e = rw add-one (sym (run_past fold p t i h k ∙ ap (λ (o : Option (List ℕ)). and_then o (run_of fold (drop (suc i) p))) e))

pub run_end : (fold : Bool) (p t : List ℕ) (i : ℕ) → length p ≤ i → run_of fold (drop i p) t ≡ Some (record { pattern = drop (length p) p; text = t })
unfolding run_of
run_end fold [] t zero h = refl
run_end fold [] t (suc i) h = refl
run_end fold (c ∷ p) t zero h = absurd (omega arith)
run_end fold (c ∷ p) t (suc i) h = run_end fold p t i (omega arith)

-- ---- a match goes on where the run stops

abbrev pub maybe : (List ℕ → Bool) → Option (List ℕ) → Bool
maybe test None = false
maybe test (Some t) = test t

sign_not_any : (c : ℕ) → (c ≡ 42 → ⊥) → sign_of c ≡ any → ⊥
sign_not_any c h = by (c == 42) (c == 63) refl refl
  where
    by : (a b : Bool) → (c == 42) ≡ a → (c == 63) ≡ b → cond a any (cond b one (letter c)) ≡ any → ⊥
    by true b e f g = h (eqb-true c 42 e)
    by false true e f g = absurd cc
    by false false e f g = absurd cc

behind_same : (fold : Bool) (a b : ℕ) (test : List ℕ → Bool) (t : List ℕ) (same : Bool) → (same && test t) ≡ maybe test (cond same (Some t) None)
behind_same fold a b test t true = refl
behind_same fold a b test t false = refl

behind_by : (fold : Bool) (s : Sign) (test : List ℕ → Bool) (t : List ℕ) → (s ≡ any → ⊥) → stands fold s test t ≡ maybe test (behind fold s t)
behind_by fold any test t h = absurd (h refl)
behind_by fold one test [] h = refl
behind_by fold one test (b ∷ t) h = refl
behind_by fold (letter a) test [] h = refl
behind_by fold (letter a) test (b ∷ t) h = behind_same fold a b test t (is_same fold a b)

behind_is : (fold : Bool) (c : ℕ) (test : List ℕ → Bool) (t : List ℕ) → (c ≡ 42 → ⊥) → stands fold (sign_of c) test t ≡ maybe test (behind fold (sign_of c) t)
behind_is fold c test t h = behind_by fold (sign_of c) test t (sign_not_any c h)

run_cons : (fold : Bool) (c : ℕ) (p t : List ℕ) → (c ≡ 42 → ⊥) → run_of fold (c ∷ p) t ≡ and_then (behind fold (sign_of c) t) (run_of fold p)
unfolding run_of
run_cons fold c p t h = rw (ne_eqb c 42 h) refl

goes_on : (fold : Bool) (p : List ℕ) → ((m : List ℕ) → matches fold p m ≡ rests_match fold (run_of fold p m)) → (o : Option (List ℕ)) → maybe (matches fold p) o ≡ rests_match fold (and_then o (run_of fold p))
goes_on fold p h None = refl
goes_on fold p h (Some m) = h m

pub run_matches : (fold : Bool) (p t : List ℕ) → matches fold p t ≡ rests_match fold (run_of fold p t)
unfolding run_of matches
run_matches fold [] t = refl
run_matches fold (c ∷ p) t = by (cases_eq c 42) (goes_on fold p (λ m. run_matches fold p m))
  where
    by : (c ≡ 42) ⊎ (c ≡ 42 → ⊥) → ((o : Option (List ℕ)) → maybe (matches fold p) o ≡ rests_match fold (and_then o (run_of fold p)))
        → matches fold (c ∷ p) t ≡ rests_match fold (run_of fold (c ∷ p) t)
    by (inl e) go = rw e refl
    by (inr n) go = behind_is fold c (matches fold p) t n ∙ go (behind fold (sign_of c) t) ∙ ap (λ (o : Option Rests). rests_match fold o) (sym (run_cons fold c p t n))

-- ---- ends of a text

abbrev pub IsEnd : List ℕ → List ℕ → Type 0
IsEnd s [] = s ≡ []
IsEnd s (b ∷ t) = (s ≡ b ∷ t) ⊎ IsEnd s t

pub end_same : (s : List ℕ) → IsEnd s s
end_same [] = refl
end_same (b ∷ s) = inl refl

pub end_is : (s t : List ℕ) → s ≡ t → IsEnd s t
end_is s t e = subst (λ (u : List ℕ). IsEnd s u) e (end_same s)

end_tail : (x : ℕ) (s t : List ℕ) → IsEnd (x ∷ s) t → IsEnd s t
end_tail x s [] e = absurd cc
end_tail x s (b ∷ t) (inl e) = let tails : s ≡ t = cc in inr (end_is s t tails)
end_tail x s (b ∷ t) (inr h) = inr (end_tail x s t h)

pub end_tails : (x b : ℕ) (s t : List ℕ) → IsEnd (x ∷ s) (b ∷ t) → IsEnd s t
end_tails x b s t (inl e) = let tails : s ≡ t = cc in end_is s t tails
end_tails x b s t (inr h) = end_tail x s t h

pub end_end : (a b t : List ℕ) → IsEnd a b → IsEnd b t → IsEnd a t
end_end a b [] h e = subst (λ (u : List ℕ). IsEnd a u) e h
end_end a b (c ∷ t) h (inl e) = subst (λ (u : List ℕ). IsEnd a u) e h
end_end a b (c ∷ t) h (inr k) = inr (end_end a b t h k)

next_is_end : (s : List ℕ) → IsEnd (next_character s) s
next_is_end [] = refl
next_is_end (b ∷ s) = by (continues b) (next_is_end s)
  where
    by : (k : Bool) → IsEnd (next_character s) s → IsEnd (cond k (next_character s) (b ∷ s)) (b ∷ s)
    by true more = inr more
    by false more = inl refl

next_of_end : (s t : List ℕ) → IsEnd s t → IsEnd (next_character s) (next_character t)
next_of_end s [] e = subst (λ (u : List ℕ). IsEnd (next_character u) []) (sym e) refl
next_of_end s (b ∷ t) (inl e) = subst (λ (u : List ℕ). IsEnd (next_character s) (next_character u)) e (end_same (next_character s))
next_of_end s (b ∷ t) (inr h) = by (continues b) (next_of_end s t h)
  where
    by : (k : Bool) → IsEnd (next_character s) (next_character t) → IsEnd (next_character s) (cond k (next_character t) (b ∷ t))
    by true more = more
    by false more = inr (end_end (next_character s) s t (next_is_end s) h)

-- ---- the later a run begins, the later it stops

taken : (same : Bool) (t m : List ℕ) → cond same (Some t) None ≡ Some m → m ≡ t
taken true t m e = cc
taken false t m e = absurd cc

behind_later : (fold : Bool) (sign : Sign) (s t r m : List ℕ) → IsEnd s t → behind fold sign t ≡ Some m → behind fold sign s ≡ Some r → IsEnd r m
behind_later fold any s t r m h e f = absurd cc
behind_later fold one s [] r m h e f = absurd cc
behind_later fold one [] (b ∷ t) r m h e f = absurd cc
behind_later fold one (x ∷ s) (b ∷ t) r m h e f =
    let to : next_character t ≡ m = cc in
    let from : next_character s ≡ r = cc in
    subst (λ (u : List ℕ). IsEnd r u) to (subst (λ (u : List ℕ). IsEnd u (next_character t)) from (next_of_end s t (end_tails x b s t h)))
behind_later fold (letter a) s [] r m h e f = absurd cc
behind_later fold (letter a) [] (b ∷ t) r m h e f = absurd cc
behind_later fold (letter a) (x ∷ s) (b ∷ t) r m h e f =
    let to : m ≡ t = taken (is_same fold a b) t m e in
    let from : r ≡ s = taken (is_same fold a x) s r f in
    subst (λ (u : List ℕ). IsEnd r u) (sym to) (subst (λ (u : List ℕ). IsEnd u t) (sym from) (end_tails x b s t h))

-- where a run stops at a `*`, and the pattern matches an end of the text, what is left matches an end of what is left
abbrev pub EndMatches : Bool → List ℕ → List ℕ → Type 0
EndMatches fold q u = (v : List ℕ) × IsEnd v u × (matches fold q v ≡ true)

later_by : (fold : Bool) (c : ℕ) (p q s t u : List ℕ) (o o' : Option (List ℕ))
    → ((x y : List ℕ) → IsEnd y x → run_of fold p x ≡ Some (record { pattern = q; text = u }) → matches fold p y ≡ true → EndMatches fold q u)
    → IsEnd s t → behind fold (sign_of c) t ≡ o → behind fold (sign_of c) s ≡ o'
    → and_then o (run_of fold p) ≡ Some (record { pattern = q; text = u }) → maybe (matches fold p) o' ≡ true → EndMatches fold q u
later_by fold c p q s t u None o' go h a b k l = absurd cc
later_by fold c p q s t u (Some x) None go h a b k l = absurd cc
later_by fold c p q s t u (Some x) (Some y) go h a b k l = go x y (behind_later fold (sign_of c) s t y x h a b) k l

run_star : (fold : Bool) (c : ℕ) (p t : List ℕ) → c ≡ 42 → run_of fold (c ∷ p) t ≡ Some (record { pattern = c ∷ p; text = t })
unfolding run_of
run_star fold c p t e = rw e refl

abbrev pattern_in : Option Rests → List ℕ
pattern_in None = []
pattern_in (Some r) = r.pattern

abbrev text_in : Option Rests → List ℕ
text_in None = []
text_in (Some r) = r.text

no_sign : (q t u : List ℕ) → 0 < length q → ◌≡◌ {A = Option Rests} (Some (record { pattern = []; text = t })) (Some (record { pattern = q; text = u })) → ⊥
no_sign [] t u some e = omega arith
no_sign (c ∷ q) t u some e = let wrong : [] ≡ c ∷ q = ap pattern_in e in absurd cc

pub later : (fold : Bool) (p q s t u : List ℕ) → 0 < length q → IsEnd s t → run_of fold p t ≡ Some (record { pattern = q; text = u }) → matches fold p s ≡ true → EndMatches fold q u
unfolding run_of matches
later fold [] q s t u some h e m = absurd (no_sign q t u some e)
later fold (c ∷ p) q s t u some h e m = by (cases_eq c 42) (λ x y k l n. later fold p q y x u some k l n)
  where
    by : (c ≡ 42) ⊎ (c ≡ 42 → ⊥)
        → ((x y : List ℕ) → IsEnd y x → run_of fold p x ≡ Some (record { pattern = q; text = u }) → matches fold p y ≡ true → EndMatches fold q u) → EndMatches fold q u
    by (inl i) go =
        let here = sym (run_star fold c p t i) ∙ e in
        let pattern : c ∷ p ≡ q = ap pattern_in here in
        let text : t ≡ u = ap text_in here in
        (s, subst (λ (x : List ℕ). IsEnd s x) text h, subst (λ (x : List ℕ). matches fold x s ≡ true) pattern m)
    by (inr n) go =
        later_by fold c p q s t u (behind fold (sign_of c) t) (behind fold (sign_of c) s) go h refl refl (sym (run_cons fold c p t n) ∙ e) (sym (behind_is fold c (matches fold p) s n) ∙ m)
