-- Negations, alternatives and whole conditions are steady.
use Rattle.std.proofs.Common.{◌≡◌, ◌⊎◌, inl, ℕ, zero, suc, Bool, true, false, ◌==◌, if◌then◌else◌, List, [], ◌∷◌, refl, sym, ◌∙◌, ap, subst}
use Rattle.cond_lang.specs.declared.error.CondError.TheVariants.{TypeClash, TooDeep}
use Rattle.cond_lang.specs.Found.{Found, read, fault, and_then}
use Rattle.cond_lang.specs.Signs.{after_blanks}
use Rattle.cond_lang.specs.Trees.{CondTree, any, all, negated}
use Rattle.cond_lang.specs.Values.{atom}
use Rattle.cond_lang.specs.Conditions.{chain, alternatives, bang, bracket, plain, shallow, nested, shallow_at, nested_at, negation, disjunction, ended}
use Rattle.cond_lang.proofs.Follows.{EndsValue, Closes, Begins, Anything}
use Rattle.cond_lang.proofs.Steady.{Reader, both, past, OpensTo, Steady}
use Rattle.cond_lang.proofs.SteadyForms.{Eating, map_eating, both_eating, each_eating, Chosen, StuckWith, chosen_as, choice_eating}
use Rattle.cond_lang.proofs.SteadySigns.{begins_stays, closing, past_steady, past_eating, closing_eating, chosen_behind}
use Rattle.cond_lang.proofs.SteadyValues.{Spoilt}
use Rattle.cond_lang.proofs.SteadyCalls.{too_deep_eating, atom_eating}
use Rattle.cond_lang.proofs.SteadyChains.{chain_eating, ended_steady}

closes_ends : (z : List ℕ) → Closes z → EndsValue z
closes_ends [] h = refl
closes_ends (c ∷ cs) h = subst (λ y. EndsValue (y ∷ cs)) (sym h) refl

-- ---- the readers

abbrev negations : ℕ → Reader CondTree
negations levels e u = negation e.0 levels u

-- a chain of `&&`
abbrev ands : ℕ → Reader CondTree
ands levels e u = chain e.0 38 all (negation e.0 levels) u

-- a chain of `||`
abbrev ors : ℕ → Reader CondTree
ors levels e u = alternatives e.0 (negation e.0 levels) u

-- behind a `!`
abbrev denied : ℕ → Reader CondTree
denied levels = both (negations levels) (λ t e u. read (negated t) u)

-- behind an opening bracket
abbrev bracketed : ℕ → Reader CondTree
bracketed levels = both (ors levels) closing

-- a negation behind space where no level is left, and where some are
abbrev lowest : Reader CondTree
lowest e u = shallow_at e.0 u

abbrev higher : ℕ → Reader CondTree
higher k e u = nested_at e.0 (suc k) (negation e.0 k) u

abbrev nothing_more : CondTree → Reader CondTree
nothing_more t = past (λ e u. ended e.0 t u)

abbrev pub whole : Reader CondTree
whole e u = and_then (disjunction e.0 64 u) (λ t rest. ended e.0 t (after_blanks rest))

abbrev pub Ends : List ℕ → Type 0
Ends z = z ≡ []

module _ (P : Found CondTree → Type 0) (clashes : (k : ℕ) → P (fault (TypeClash k))) (deep : (k : ℕ) → P (fault (TooDeep k))) where
  -- ---- no level left

  lowest_choice : (c : ℕ) → Chosen P Spoilt lowest Anything EndsValue c ⊎ StuckWith P Spoilt lowest c
  lowest_choice c = inl (by (c == 33) refl (c == 40) refl)
    where
      at : (e : ℕ × List ℕ) (cs : List ℕ) → Bool → Bool → Found CondTree
      at e cs x y = shallow e.0 (c ∷ cs) (if x then bang else (if y then bracket else plain))

      by : (x : Bool) → (c == 33) ≡ x → (y : Bool) → (c == 40) ≡ y → Chosen P Spoilt lowest Anything EndsValue c
      by true f y g = chosen_as P Spoilt (too_deep_eating P clashes deep) (λ z h. h) (λ e cs. ap (λ x. at e cs x (c == 40)) f)
      by false f true g = chosen_as P Spoilt (too_deep_eating P clashes deep) (λ z h. h) (λ e cs. ap (λ x. at e cs x (c == 40)) f ∙ ap (at e cs false) g)
      by false f false g = chosen_as P Spoilt (atom_eating P clashes deep 0) (λ z h. h) (λ e cs. ap (λ x. at e cs x (c == 40)) f ∙ ap (at e cs false) g)

  lowest_eating : Eating P Spoilt lowest Anything EndsValue (Begins 39)
  lowest_eating = choice_eating P Spoilt (λ e. refl) lowest_choice opens
    where
      opens : OpensTo P Spoilt lowest Anything EndsValue (Begins 39)
      opens K ends =
          let o = (atom_eating P clashes deep 0).steady.opens K ends in
          (o.0, o.1, λ e. subst (λ y. P (and_then (shallow_at e.0 y) (K e))) (sym o.1.1) (subst (λ y. P (and_then (atom e.0 0 y) (K e))) o.1.1 (o.2 e)))

  -- ---- levels left

  module _ (k : ℕ) (inner : Eating P Spoilt (negations k) Anything EndsValue (Begins 39)) where
    denied_eating : Eating P Spoilt (denied k) Anything EndsValue (Begins 39)
    denied_eating = map_eating P Spoilt negated inner (λ t q. tt)

    and_eating : Eating P Spoilt (ands k) Anything Closes (Begins 39)
    and_eating = chain_eating P Spoilt 38 all (negations k) EndsValue (Begins 39) refl closes_ends inner

    or_eating : Eating P Spoilt (ors k) Anything Closes (Begins 39)
    or_eating = chain_eating P Spoilt 124 any (ands k) Closes (Begins 39) refl (λ z h. h) and_eating

    bracketed_eating : Eating P Spoilt (bracketed k) Anything Anything (Begins 39)
    bracketed_eating = each_eating P Spoilt or_eating (closing_eating P Spoilt) (λ z b. subst Closes (sym b.1) refl)

    higher_choice : (c : ℕ) → Chosen P Spoilt (higher k) Anything EndsValue c ⊎ StuckWith P Spoilt (higher k) c
    higher_choice c = inl (by (c == 33) refl (c == 40) refl)
      where
        at : (e : ℕ × List ℕ) (cs : List ℕ) → Bool → Bool → Found CondTree
        at e cs x y = nested e.0 (suc k) (negation e.0 k) (c ∷ cs) cs (if x then bang else (if y then bracket else plain))

        by : (x : Bool) → (c == 33) ≡ x → (y : Bool) → (c == 40) ≡ y → Chosen P Spoilt (higher k) Anything EndsValue c
        by true f y g = chosen_behind P Spoilt 33 f denied_eating.steady (λ z h. h) (λ e cs. ap (λ x. at e cs x (c == 40)) f)
        by false f true g = chosen_behind P Spoilt 40 g bracketed_eating.steady (λ z h. tt) (λ e cs. ap (λ x. at e cs x (c == 40)) f ∙ ap (at e cs false) g)
        by false f false g = chosen_as P Spoilt (atom_eating P clashes deep (suc k)) (λ z h. h) (λ e cs. ap (λ x. at e cs x (c == 40)) f ∙ ap (at e cs false) g)

    higher_eating : Eating P Spoilt (higher k) Anything EndsValue (Begins 39)
    higher_eating = choice_eating P Spoilt (λ e. refl) higher_choice opens
      where
        opens : OpensTo P Spoilt (higher k) Anything EndsValue (Begins 39)
        opens K ends =
            let o = (atom_eating P clashes deep (suc k)).steady.opens K ends in
            (o.0, o.1, λ e. subst (λ y. P (and_then (higher k e y) (K e))) (sym o.1.1) (subst (λ y. P (and_then (atom e.0 (suc k) y) (K e))) o.1.1 (o.2 e)))

  negation_eating : (levels : ℕ) → Eating P Spoilt (negations levels) Anything EndsValue (Begins 39)
  unfolding negation
  negation_eating zero = past_eating P Spoilt (begins_stays 39 refl) lowest_eating
  negation_eating (suc k) = past_eating P Spoilt (begins_stays 39 refl) (higher_eating k (negation_eating k))

  -- ---- whole texts

  nothing_more_steady : (t : CondTree) → Steady P Spoilt (nothing_more t) Anything Ends Ends
  nothing_more_steady t = past_steady P Spoilt (λ z e. ap after_blanks e ∙ sym e) (λ e u a same z e2. ap after_blanks e2 ∙ sym e2) (ended_steady P Spoilt t)

  pub whole_steady : Steady P Spoilt whole Anything Ends (Begins 39)
  unfolding disjunction
  whole_steady = in_full.steady
    where
      in_full : Eating P Spoilt whole Anything Ends (Begins 39)
      in_full = both_eating P Spoilt (or_eating 64 (negation_eating 64)) (λ t q. nothing_more_steady t) (λ z e. subst Closes (sym e) tt) (λ z e. subst Closes (sym e) tt)
