-- A length that is raised to the greatest of some more.
use Rattle.std.specs.Prelude.{◌≡◌, ◌⊎◌, ℤ, ◌≤ℤ◌, List, All, Contains}

-- r is n or one of the values, and neither n nor one of them is greater
pub record IsRaised (n : ℤ) (values : List ℤ) (r : ℤ) : Type 0 where
  pub from : n ≤ℤ r
  pub most : All (λ v. v ≤ℤ r) values
  pub one : (r ≡ n) ⊎ Contains values r

-- what r is raised to by the values that are left, n is raised to by all
pub record IsRaisedSoFar (n : ℤ) (values left : List ℤ) (r : ℤ) : Type 0 where
  pub with_rest : (s : ℤ) → IsRaised r left s → IsRaised n values s
