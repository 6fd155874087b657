-- The set of names says which classes were read.
use Rattle.std.proofs.Common.{◌≡◌, ℕ, refl, sym, ◌∙◌, ap, subst, List, [], ◌∷◌, ◌++◌, Bool, true, false, not, cond, Option, Some, None, is_some, bytes_eq, ℤ}
use Rattle.std.specs.Prelude.{find, String}
use Rattle.std.specs.declared.alloc.Global.{Global}
use Rattle.std.specs.HashSet.{HashSet, contains_text}
use Rattle.std.proofs.lemmas.Slice.Eq.{bytes_eq-Decides}
use Rattle.net_class.specs.ClassesOf.{Written, is_named}
use Rattle.net_class.specs.ProjectWalk.{with_written}
use Rattle.net_class.specs.ClassValues.{HasNames}

pub find_last : (p : Written → Bool) (ws : List Written) (w : Written) → is_some (find p (ws ++ w ∷ [])) ≡ cond (p w) true (is_some (find p ws))
find_last p [] w = by (p w)
  where
    by : (b : Bool) → is_some (cond b (Some w) None) ≡ cond b true false
    by true = refl
    by false = refl
find_last p (x ∷ ws) w = by (p x) (p w) (find_last p ws w)
  where
    by : (b d : Bool) → is_some (find p (ws ++ w ∷ [])) ≡ cond d true (is_some (find p ws))
        → is_some (cond b (Some x) (find p (ws ++ w ∷ []))) ≡ cond d true (is_some (cond b (Some x) (find p ws)))
    by true true h = refl
    by true false h = refl
    by false d h = h

module _ {S : Type 0} (old new : HashSet (String Global) S) (ws : List Written) (name : List ℕ) (has : HasNames old ws)
    (grown : (q : List ℕ) → contains_text new q ≡ cond (bytes_eq name q) true (contains_text old q)) where
  pub known : contains_text old name ≡ true → HasNames new ws
  known h q = grown q ∙ by (bytes_eq name q) refl ∙ has q
    where
      by : (b : Bool) → bytes_eq name q ≡ b → cond b true (contains_text old q) ≡ contains_text old q
      by true e = sym (subst (λ (x : List ℕ). contains_text old x ≡ true) ((bytes_eq-Decides name q).0 e) h)
      by false e = refl

  pub one_more : (w : Written) → w.name ≡ name → HasNames new (ws ++ w ∷ [])
  one_more w e q =
      grown q ∙ ap (λ (b : Bool). cond (bytes_eq name q) true b) (has q) ∙ ap (λ (x : List ℕ). cond (bytes_eq x q) true (is_some (find (is_named q) ws))) (sym e)
      ∙ sym (find_last (is_named q) ws w)

module _ {S : Type 0} (old : HashSet (String Global) S) (ws : List Written) (name : List ℕ) (clearance : Option ℤ) (has : HasNames old ws) where
  pub stays : contains_text old name ≡ true → ws ≡ with_written ws (Some name) clearance
  unfolding with_written
  stays h = ap (λ (b : Bool). cond b ws (ws ++ record { name = name; clearance = clearance } ∷ [])) (sym h ∙ has name)

  pub grows : contains_text old name ≡ false → ws ++ record { name = name; clearance = clearance } ∷ [] ≡ with_written ws (Some name) clearance
  unfolding with_written
  grows h = ap (λ (b : Bool). cond b ws (ws ++ record { name = name; clearance = clearance } ∷ [])) (sym h ∙ has name)

pub not_false : (a b : Bool) → a ≡ not b → a ≡ false → b ≡ true
not_false a true e h = refl
not_false a false e h = sym (sym e ∙ h)

pub not_true : (a b : Bool) → a ≡ not b → a ≡ true → b ≡ false
not_true a true e h = sym h ∙ e
not_true a false e h = refl
