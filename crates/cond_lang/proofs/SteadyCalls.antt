-- Calls and comparisons are steady.
use Rattle.std.proofs.Common.{◌≡◌, ◌⊎◌, inl, inr, ℕ, zero, suc, Bool, true, false, ◌==◌, if◌then◌else◌, List, [], ◌∷◌, refl, sym, ◌∙◌, ap, subst, arith}
use Rattle.cond_lang.specs.declared.error.CondError.{CondError}
use Rattle.cond_lang.specs.declared.error.CondError.TheVariants.{Bad, TypeClash, TooDeep}
use Rattle.cond_lang.specs.declared.terms.Side.{Side}
use Rattle.cond_lang.specs.declared.terms.Func.{Func}
use Rattle.cond_lang.specs.declared.terms.Func.TheVariants.{ExistsOnLayer, IsPlated, IntersectsArea, IntersectsCourtyard}
use Rattle.cond_lang.specs.declared.terms.Op.{Op}
use Rattle.cond_lang.specs.declared.terms.Term.{Term}
use Rattle.cond_lang.specs.declared.values.Head.{Head}
use Rattle.cond_lang.specs.declared.values.Head.TheVariants.{Value, Asked}
use Rattle.cond_lang.specs.Found.{Found, read, fault, and_then, place, stuck}
use Rattle.cond_lang.specs.Signs.{after_blanks}
use Rattle.cond_lang.specs.Trees.{CondTree, call, compare}
use Rattle.cond_lang.specs.Values.{head, argument, opened, called, operator, clash, compared, comparison_at, comparison, atom_of, atom}
use Rattle.cond_lang.specs.Conditions.{closed}
use Rattle.cond_lang.proofs.Follows.{EndsValue, Begins, Anything}
use Rattle.cond_lang.proofs.Steady.{Reader, Stays, both, past, OpensTo, Steady}
use Rattle.cond_lang.proofs.SteadyForms.{Alike, then_alike, Eating, wider, pure_steady, refused_eating, both_eating, each_eating, Chosen, StuckWith, chosen_as, choice_eating, alike_eating}
use Rattle.cond_lang.proofs.SteadySigns.{begins_stays, sign, closing, past_eating, sign_eating, closing_eating}
use Rattle.cond_lang.proofs.SteadyValues.{NoEquals, Spoilt, Fits, texts, quoted_eating}
use Rattle.cond_lang.proofs.SteadyAtoms.{heads, operators, head_eating, operator_eating}

abbrev Clash : CondError → Type 0
Clash e = (k : ℕ) × (e ≡ TypeClash k)

not_clash : (at k : ℕ) → TypeClash at ≡ Bad k → ⊥
not_clash at k e = grind (arith, e)

not_deep : (at k : ℕ) → TooDeep at ≡ Bad k → ⊥
not_deep at k e = grind (arith, e)

some_level : (k : ℕ) → (suc k == 0) ≡ false
some_level k = by (suc k == 0) refl
  where
    by : (b : Bool) → (suc k == 0) ≡ b → (suc k == 0) ≡ false
    by true e = absurd (grind (arith, e))
    by false e = e

-- ---- the readers

-- where no level is left
abbrev pub too_deep : {A : Type 0} → Reader A
too_deep e u = fault (TooDeep (place e.0 u))

abbrev brackets : ℕ → Reader (Unit {0})
brackets levels e u = opened e.0 levels u

-- a text in quotes
abbrev quotes : Reader (List ℕ)
quotes = both (sign 39) (λ _. texts)

-- what stands in the brackets of a function, and the closing one
abbrev arguments : Side → Func → Reader CondTree
arguments s f e u = and_then (argument e.0 f (after_blanks u)) (λ arg behind. closed e.0 (call s f arg) behind)

abbrev calls : ℕ → Side → Func → Reader CondTree
calls levels s f e u = called e.0 levels s f u

-- the end of a comparison whose types clash
abbrev judged_by : Bool → CondTree → Reader CondTree
judged_by clashing t e u = if clashing then fault (TypeClash (place e.0 [])) else read t u

-- the end of a comparison whose operator stands nowhere
abbrev judged : Term → Op → Head → Reader CondTree
judged left op h e u = compared e.0 [] left op h u

-- the other side
abbrev other_sides : Term → Op → Reader CondTree
other_sides left op = both (past (heads false)) (judged left op)

abbrev unplaced : Term → Reader CondTree
unplaced left = both operators (other_sides left)

abbrev placed : Term → Reader CondTree
placed left e u = comparison_at e.0 left u

abbrev comparisons : Term → Reader CondTree
comparisons left e u = comparison e.0 left u

abbrev pub atoms : ℕ → Reader CondTree
atoms levels e u = atom e.0 levels u

-- ---- where the operator stands tells only where types clash

compared_alike : (n : ℕ) (x y : List ℕ) (left : Term) (op : Op) (h : Head) (r : List ℕ) → Alike Clash (compared n x left op h r) (compared n y left op h r)
compared_alike n x y left op (Asked s f) r = inl refl
compared_alike n x y left op (Value right) r = by (clash left op right) refl
  where
    at : List ℕ → Bool → Found CondTree
    at v b = if b then fault (TypeClash (place n v)) else read (compare left op right) r

    by : (b : Bool) → clash left op right ≡ b → Alike Clash (compared n x left op (Value right) r) (compared n y left op (Value right) r)
    by true f = inr ((TypeClash (place n x), ap (at x) f, (place n x, refl)), (TypeClash (place n y), ap (at y) f, (place n y, refl)))
    by false f = inl (ap (at x) f ∙ sym (ap (at y) f))

placed_alike : (left : Term) (e : ℕ × List ℕ) (u : List ℕ) → Alike Clash (unplaced left e u) (placed left e u)
placed_alike left e u =
    then_alike Clash (operator e.0 u) (λ op r. other_sides left op e r) (λ op r. and_then (head e.0 false (after_blanks r)) (compared e.0 u left op)) (λ op r.
    then_alike Clash (head e.0 false (after_blanks r)) (λ h q. compared e.0 [] left op h q) (compared e.0 u left op) (λ h q. compared_alike e.0 [] u left op h q))

module _ {X : Type 0} (P : Found X → Type 0) (clashes : (k : ℕ) → P (fault (TypeClash k))) (deep : (k : ℕ) → P (fault (TooDeep k))) where
  -- ---- calls

  pub too_deep_eating : {A : Type 0} {Q : A → Type 0} {S : List ℕ → Type 0} → Eating P Spoilt (too_deep {A = A}) Q S Anything
  too_deep_eating = refused_eating P Spoilt TooDeep (λ e u. place e.0 u) not_deep deep [] tt

  bracket_choice : (levels c : ℕ) → Chosen P Spoilt (brackets levels) Anything Anything c ⊎ StuckWith P Spoilt (brackets levels) c
  bracket_choice levels c = by levels (c == 40) refl
    where
      left : (e : ℕ × List ℕ) (cs : List ℕ) → Bool → Found (Unit {0})
      left e cs x = if x then fault (TooDeep (place e.0 (c ∷ cs))) else read tt cs

      at : ℕ → (e : ℕ × List ℕ) (cs : List ℕ) → Bool → Found (Unit {0})
      at levels e cs x = if x then left e cs (levels == 0) else stuck e.0 (c ∷ cs)

      by : (levels : ℕ) (x : Bool) → (c == 40) ≡ x → Chosen P Spoilt (brackets levels) Anything Anything c ⊎ StuckWith P Spoilt (brackets levels) c
      by zero true f = inl (chosen_as P Spoilt too_deep_eating (λ z h. h) (λ e cs. ap (at zero e cs) f))
      by (suc k) true f = inl (chosen_as P Spoilt (sign_eating P Spoilt 40) (λ z h. h) (λ e cs.
          ap (at (suc k) e cs) f ∙ ap (left e cs) (some_level k) ∙ sym (ap (λ x. if x then read tt cs else stuck e.0 (c ∷ cs)) f)))
      by levels false f = inr (λ e cs. ap (at levels e cs) f)

  bracket_eating : (levels : ℕ) → Eating P Spoilt (brackets levels) Anything Anything (Begins 40)
  bracket_eating levels = choice_eating P Spoilt (λ e. refl) (bracket_choice levels) (opens levels)
    where
      opens : (levels : ℕ) → OpensTo P Spoilt (brackets levels) Anything Anything (Begins 40)
      opens zero K ends = (40 ∷ [], ([], refl), λ e. deep (place e.0 (40 ∷ [])))
      opens (suc k) K ends =
          let o = ends tt tt in
          (40 ∷ o.0, (o.0, refl), λ e. subst (λ x. P (and_then (if x then fault (TooDeep (place e.0 (40 ∷ o.0))) else read tt o.0) (K e))) (sym (some_level k)) (o.2 e))

  quote_eating : Eating P Spoilt quotes Anything Anything (Begins 39)
  quote_eating = each_eating P Spoilt (sign_eating P Spoilt 39) (λ _. quoted_eating P) (λ z h. tt)

  text_steady : (make : List ℕ → CondTree) → Steady P Spoilt (past (both quotes (λ text. closing (make text)))) Anything Anything Stays
  text_steady make = wider P Spoilt (λ z h. h) (begins_stays 39 refl) text_eating.steady
    where
      text_eating : Eating P Spoilt (past (both quotes (λ text. closing (make text)))) Anything Anything (Begins 39)
      text_eating = past_eating P Spoilt (begins_stays 39 refl) (each_eating P Spoilt quote_eating (λ text. closing_eating P Spoilt (make text)) (λ z h. tt))

  empty_steady : (t : CondTree) → Steady P Spoilt (past (closing t)) Anything Anything Stays
  empty_steady t = wider P Spoilt (λ z h. h) (begins_stays 41 refl) empty_eating.steady
    where
      empty_eating : Eating P Spoilt (past (closing t)) Anything Anything (Begins 41)
      empty_eating = past_eating P Spoilt (begins_stays 41 refl) (closing_eating P Spoilt t)

  argument_steady : (s : Side) (f : Func) → Steady P Spoilt (arguments s f) Anything Anything Stays
  argument_steady s IsPlated = empty_steady (call s IsPlated [])
  argument_steady s ExistsOnLayer = text_steady (call s ExistsOnLayer)
  argument_steady s IntersectsArea = text_steady (call s IntersectsArea)
  argument_steady s IntersectsCourtyard = text_steady (call s IntersectsCourtyard)

  called_eating : (levels : ℕ) (s : Side) (f : Func) → Eating P Spoilt (calls levels s f) Anything Anything (Begins 40)
  unfolding called
  called_eating levels s f = both_eating P Spoilt (past_eating P Spoilt (begins_stays 40 refl) (bracket_eating levels)) (λ _ q. argument_steady s f) (λ z h. tt) (λ z h. tt)

  -- ---- comparisons

  judged_by_steady : (clashing : Bool) (t : CondTree) → Steady P Spoilt (judged_by clashing t) Anything EndsValue EndsValue
  judged_by_steady false t = pure_steady P Spoilt tt
  judged_by_steady true t = refusing.steady
    where
      refusing : Eating P Spoilt (judged_by true t) Anything EndsValue EndsValue
      refusing = refused_eating P Spoilt TypeClash (λ e u. place e.0 []) not_clash clashes [] refl

  judged_steady : (left : Term) (op : Op) (h : Head) → Fits false h → Steady P Spoilt (judged left op h) Anything EndsValue EndsValue
  judged_steady left op (Asked s f) fits = absurd (grind (arith, fits))
  judged_steady left op (Value right) fits = judged_by_steady (clash left op right) (compare left op right)

  other_eating : (left : Term) (op : Op) → Eating P Spoilt (other_sides left op) Anything EndsValue (Begins 39)
  other_eating left op = both_eating P Spoilt (past_eating P Spoilt (begins_stays 39 refl) (head_eating P false)) (λ h q. judged_steady left op h q) (λ z h. h) (λ z h. h)

  unplaced_eating : (left : Term) → Eating P Spoilt (unplaced left) Anything EndsValue (Begins 61)
  unplaced_eating left = each_eating P Spoilt (operator_eating P) (other_eating left) (λ z b. subst NoEquals (sym b.1) refl)

  placed_eating : (left : Term) → Eating P Spoilt (placed left) Anything EndsValue (Begins 61)
  placed_eating left =
      alike_eating P Spoilt Clash (unplaced left) (placed left) (λ k c. not_clash c.0 k (sym c.1)) (λ e c. subst (λ y. P (fault y)) (sym c.1) (clashes c.0)) (placed_alike left) (unplaced_eating left)

  comparison_eating : (left : Term) → Eating P Spoilt (comparisons left) Anything EndsValue (Begins 61)
  unfolding comparison
  comparison_eating left = past_eating P Spoilt (begins_stays 61 refl) (placed_eating left)

  -- ---- both

  behind_head_steady : (levels : ℕ) (h : Head) → Steady P Spoilt (λ e u. atom_of e.0 levels h u) Anything EndsValue EndsValue
  behind_head_steady levels (Value left) = wider P Spoilt (λ z h. h) (λ z b. subst EndsValue (sym b.1) refl) (comparison_eating left).steady
  behind_head_steady levels (Asked s f) = wider P Spoilt (λ z h. tt) (λ z b. subst EndsValue (sym b.1) refl) (called_eating levels s f).steady

  pub atom_eating : (levels : ℕ) → Eating P Spoilt (atoms levels) Anything EndsValue (Begins 39)
  unfolding atom
  atom_eating levels = both_eating P Spoilt (head_eating P true) (λ h q. behind_head_steady levels h) (λ z h. h) (λ z h. h)
