-- Of rules whose values for copper are at most so much, each asks at most so much of copper.
use Rattle.std.proofs.Common.{ℤ, ◌≤ℤ◌, List, [], ◌∷◌, ◌++◌, All, subst}
use Rattle.std.specs.Prelude.{Bool, if◌then◌else◌}
use Rattle.std.specs.List.{flat_map}
use Rattle.std.proofs.lemmas.List.Elements.{All-nil, All-cons, All-head, All-tail}
use Rattle.cond_lang.specs.Rules.{PlainConstraint, PlainRule}
use Rattle.rule_pick.specs.declared.asking.Between.TheVariants.{Coppers}
use Rattle.rule_pick.specs.CopperDemands.{AsksAtMost, EachAsksAtMost}
use Rattle.rule_pick.specs.Deciding.{asked_least}
use Rattle.rule_pick.specs.Reach.{asked_between, distances_between}

front : (P : ℤ → Type 0) (xs ys : List ℤ) → All P (xs ++ ys) → All P xs
front P [] ys h = All-nil P
front P (x ∷ xs) ys h = All-cons P x xs (All-head P x (xs ++ ys) h) (front P xs ys (All-tail P x (xs ++ ys) h))

end : (P : ℤ → Type 0) (xs ys : List ℤ) → All P (xs ++ ys) → All P ys
end P [] ys h = h
end P (x ∷ xs) ys h = end P xs ys (All-tail P x (xs ++ ys) h)

of_constraint : (n : ℤ) (c : PlainConstraint) → All (λ v. v ≤ℤ n) (asked_between Coppers c) → AsksAtMost n c
of_constraint n c h = λ of. All-head (λ v. v ≤ℤ n) (asked_least c) [] (subst (λ (b : Bool). All (λ v. v ≤ℤ n) (if b then asked_least c ∷ [] else [])) of h)

of_constraints : (n : ℤ) (cs : List PlainConstraint) → All (λ v. v ≤ℤ n) (flat_map (asked_between Coppers) cs) → All (AsksAtMost n) cs
of_constraints n [] h = All-nil (AsksAtMost n)
of_constraints n (c ∷ cs) h =
    All-cons (AsksAtMost n) c cs (of_constraint n c (front (λ v. v ≤ℤ n) (asked_between Coppers c) (flat_map (asked_between Coppers) cs) h))
    (of_constraints n cs (end (λ v. v ≤ℤ n) (asked_between Coppers c) (flat_map (asked_between Coppers) cs) h))

pub of_rules : (n : ℤ) (rules : List PlainRule) → All (λ v. v ≤ℤ n) (flat_map (distances_between Coppers) rules) → All (EachAsksAtMost n) rules
of_rules n [] h = All-nil (EachAsksAtMost n)
of_rules n (r ∷ rules) h =
    All-cons (EachAsksAtMost n) r rules (of_constraints n r.constraints (front (λ v. v ≤ℤ n) (distances_between Coppers r) (flat_map (distances_between Coppers) rules) h))
    (of_rules n rules (end (λ v. v ≤ℤ n) (distances_between Coppers r) (flat_map (distances_between Coppers) rules) h))
