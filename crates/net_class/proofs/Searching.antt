-- The first place from which a pattern goes on up to its next `*` is good enough, and the test of a match is the relation.
use Rattle.std.proofs.Common.{◌≡◌, ◌⊎◌, inl, inr, ℕ, suc, ◌<◌, refl, sym, ◌∙◌, ap, subst, List, [], ◌∷◌, ◌++◌, length, drop, get_or, Bool, true, false, ◌||◌, IsTrue, ◌↔◌, Option, Some, None, arith}
use Rattle.std.proofs.lemmas.Bool.{or_cases, ne_eqb, and_parts, and_from}
use Rattle.std.specs.Prelude.{◌==◌}
use Rattle.net_class.specs.Wild.{Sign, any, one, letter, sign_of, next_character, is_same, MatchesSign, Matches, stands, matches}
use Rattle.net_class.specs.PatternRuns.{Rests, run_of, rests_match, matches_an_end}
use Rattle.net_class.proofs.Matching.{IsEnd, end_same, end_is, end_end, later, run_matches}

-- ---- a `*` stands for a prefix, so that its pattern matches an end

pub any_end : (fold : Bool) (test : List ℕ → Bool) (t : List ℕ) → stands fold any test t ≡ true → (s : List ℕ) × IsEnd s t × (test s ≡ true)
any_end fold test [] h = ([], refl, h)
any_end fold test (b ∷ t) h = by (or_cases (test (b ∷ t)) (stands fold any test t) h) (λ k. any_end fold test t k)
  where
    by : (test (b ∷ t) ≡ true) ⊎ (stands fold any test t ≡ true) → (stands fold any test t ≡ true → (s : List ℕ) × IsEnd s t × (test s ≡ true)) → (s : List ℕ) × IsEnd s (b ∷ t) × (test s ≡ true)
    by (inl k) go = (b ∷ t, inl refl, k)
    by (inr k) go = let found = go k in (found.0, inr found.1, found.2)

or_true : (a b : Bool) → b ≡ true → (a || b) ≡ true
or_true true b h = refl
or_true false b h = h

or_left : (a b : Bool) → a ≡ true → (a || b) ≡ true
or_left true b h = refl
or_left false b h = absurd cc

pub end_any : (fold : Bool) (test : List ℕ → Bool) (s t : List ℕ) → IsEnd s t → test s ≡ true → stands fold any test t ≡ true
end_any fold test s [] e h = subst (λ (u : List ℕ). test u ≡ true) e h
end_any fold test s (b ∷ t) (inl e) h = or_left (test (b ∷ t)) (stands fold any test t) (subst (λ (u : List ℕ). test u ≡ true) e h)
end_any fold test s (b ∷ t) (inr k) h = or_true (test (b ∷ t)) (stands fold any test t) (end_any fold test s t k h)

same_truth : (a b : Bool) → (a ≡ true → b ≡ true) → (b ≡ true → a ≡ true) → a ≡ b
same_truth true true f g = refl
same_truth true false f g = sym (f refl)
same_truth false true f g = g refl
same_truth false false f g = refl

-- ---- the search

pub star_is : (fold : Bool) (p t : List ℕ) → 0 < length p → get_or p 0 0 ≡ 42 → matches fold p t ≡ matches_an_end fold (drop 1 p) t
unfolding matches
star_is fold [] t h k = absurd (omega arith)
star_is fold (c ∷ p) t h k = rw k refl

pub end_is_match : (fold : Bool) (p t : List ℕ) → length p ≡ 0 → matches fold p t ≡ (length t == 0)
unfolding matches
end_is_match fold [] [] h = refl
end_is_match fold [] (b ∷ t) h = sym (ne_eqb (suc (length t)) 0 (λ e. omega arith))
end_is_match fold (c ∷ p) t h = absurd (omega arith)

pub run_true : (fold : Bool) (p q t u : List ℕ) → run_of fold p t ≡ Some (record { pattern = q; text = u }) → matches fold p t ≡ matches fold q u
run_true fold p q t u e = run_matches fold p t ∙ ap (λ (o : Option Rests). rests_match fold o) e

pub run_false : (fold : Bool) (p t : List ℕ) → run_of fold p t ≡ None → matches fold p t ≡ false
run_false fold p t e = run_matches fold p t ∙ ap (λ (o : Option Rests). rests_match fold o) e

pub run_short : (fold : Bool) (p q t u : List ℕ) → run_of fold p t ≡ Some (record { pattern = q; text = u }) → length q ≡ 0 → 0 < length u → matches fold p t ≡ false
run_short fold p q t u e h k = run_true fold p q t u e ∙ end_is_match fold q u h ∙ not_empty u k
  where
    not_empty : (u : List ℕ) → 0 < length u → (length u == 0) ≡ false
    not_empty [] k = absurd (omega arith)
    not_empty (b ∷ u) k = ne_eqb (suc (length u)) 0 (λ e. omega arith)

-- up to a `*`
pub found_star : (fold : Bool) (p q t u : List ℕ) → run_of fold p t ≡ Some (record { pattern = q; text = u }) → 0 < length q → get_or q 0 0 ≡ 42 → matches_an_end fold p t ≡ matches fold q u
found_star fold p q t u e some star = same_truth (matches_an_end fold p t) (matches fold q u) to from
  where
    ends : (v : List ℕ) → IsEnd v u → matches fold q v ≡ true → matches fold q u ≡ true
    ends v k m =
        let found = any_end fold (matches fold (drop 1 q)) v (sym (star_is fold q v some star) ∙ m) in
        star_is fold q u some star ∙ end_any fold (matches fold (drop 1 q)) found.0 u (end_end found.0 v u found.1 k) found.2

    to : matches_an_end fold p t ≡ true → matches fold q u ≡ true
    to h = let here = any_end fold (matches fold p) t h in
        let more = later fold p q here.0 t u some here.1 e here.2 in
        ends more.0 more.1 more.2

    from : matches fold q u ≡ true → matches_an_end fold p t ≡ true
    from h = end_any fold (matches fold p) t t (end_same t) (run_true fold p q t u e ∙ h)

-- up to the end of both
pub found_end : (fold : Bool) (p q t u : List ℕ) → run_of fold p t ≡ Some (record { pattern = q; text = u }) → length q ≡ 0 → length u ≡ 0 → matches_an_end fold p t ≡ matches fold q u
found_end fold p q t u e h k =
    let yes : matches fold q u ≡ true = end_is_match fold q u h ∙ empty u k in
    end_any fold (matches fold p) t t (end_same t) (run_true fold p q t u e ∙ yes) ∙ sym yes
  where
    empty : (u : List ℕ) → length u ≡ 0 → (length u == 0) ≡ true
    empty [] k = refl
    empty (b ∷ u) k = absurd (omega arith)

pub passed : (fold : Bool) (p t : List ℕ) → matches fold p t ≡ false → 0 < length t → matches_an_end fold p (drop 1 t) ≡ matches_an_end fold p t
passed fold p [] h k = absurd (omega arith)
passed fold p (b ∷ t) h k = ap (λ (x : Bool). x || matches_an_end fold p t) (sym h)

pub none_left : (fold : Bool) (p t : List ℕ) → matches fold p t ≡ false → length t ≡ 0 → matches_an_end fold p t ≡ false
none_left fold p [] h k = h
none_left fold p (b ∷ t) h k = absurd (omega arith)

-- ---- the relation

end_prefix : (s t : List ℕ) → IsEnd s t → (prefix : List ℕ) × (t ≡ prefix ++ s)
end_prefix s [] e = ([], sym e)
end_prefix s (b ∷ t) (inl e) = ([], sym e)
end_prefix s (b ∷ t) (inr h) = let more = end_prefix s t h in (b ∷ more.0, ap (λ (u : List ℕ). b ∷ u) more.1)

prefix_end : (prefix s t : List ℕ) → t ≡ prefix ++ s → IsEnd s t
prefix_end [] s t e = end_is s t (sym e)
prefix_end (b ∷ prefix) s [] e = absurd cc
prefix_end (b ∷ prefix) s (c ∷ t) e = let tails : t ≡ prefix ++ s = cc in inr (prefix_end prefix s t tails)

stands_means : (fold : Bool) (sign : Sign) (test : List ℕ → Bool) (P : List ℕ → Type 0) (t : List ℕ) → ((s : List ℕ) → (test s ≡ true) ↔ P s) → (stands fold sign test t ≡ true) ↔ MatchesSign fold sign P t
stands_means fold any test P t h = (
  λ k. let found = any_end fold test t k in let prefix = end_prefix found.0 t found.1 in (prefix.0, found.0, prefix.1, (h found.0).0 found.2),
  λ k. end_any fold test k.1 t (prefix_end k.0 k.1 t k.2) ((h k.1).1 k.3),
)
stands_means fold one test P [] h = (λ k. absurd cc, λ k. absurd k)
stands_means fold one test P (b ∷ t) h = h (next_character t)
stands_means fold (letter a) test P [] h = (λ k. absurd cc, λ k. absurd k)
stands_means fold (letter a) test P (b ∷ t) h =
    (λ k. let both = and_parts (is_same fold a b) (test t) k in (both.0, (h t).0 both.1), λ k. and_from (is_same fold a b) (test t) k.0 ((h t).1 k.1))

pub matches_means : (fold : Bool) (p t : List ℕ) → (matches fold p t ≡ true) ↔ Matches fold p t
unfolding matches
matches_means fold [] [] = (λ k. refl, λ k. refl)
matches_means fold [] (b ∷ t) = (λ k. absurd cc, λ k. absurd cc)
matches_means fold (c ∷ p) t = stands_means fold (sign_of c) (matches fold p) (Matches fold p) t (λ s. matches_means fold p s)

pub answer_means : (fold : Bool) (p t : List ℕ) (b : Bool) → b ≡ matches fold p t → IsTrue b ↔ Matches fold p t
answer_means fold p t b e = subst (λ (x : Bool). IsTrue x ↔ Matches fold p t) (sym e) (matches_means fold p t)
