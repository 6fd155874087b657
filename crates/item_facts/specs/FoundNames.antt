-- Names that were found so far.
use Rattle.std.specs.Prelude.{ℕ, List, [], ◌∷◌, ◌++◌, Option, None, Some}
use Rattle.one_item.specs.declared.item.Item.{Item}
use Rattle.one_item.specs.declared.item.What.{What}
use Rattle.rule_pick.specs.FactsOf.{AreNamesOf}

abbrev pub name_if : Option (List ℕ) → List (List ℕ)
name_if None = []
name_if (Some name) = name ∷ []

-- with the names that the items give which are left, they are the names of all
pub record ArePrefix (Gives : What → List ℕ → Type 0) (items left : List (ℕ × Item)) (found : List (List ℕ)) : Type 0 where
  pub with_rest : (names : List (List ℕ)) → AreNamesOf Gives left names → AreNamesOf Gives items (found ++ names)
