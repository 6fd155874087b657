-- Why something is refused: the causes from the outermost to the innermost, each with its name and its number, and where it is.
-- It is written with points between the names and between the numbers, as `EmptyText (6)` and `Text.EmptyText (1.6)`.
use Rattle.std.specs.Prelude.{ℕ, List, [], ◌∷◌, ◌++◌, Option, Some, None, map, codes, decimal}
use Rattle.plain_types.specs.declared.reason.Cause.{Cause}
use Rattle.plain_types.specs.declared.reason.Causes.{Causes}
use Rattle.plain_types.specs.declared.reason.Path.{Path}
use Rattle.plain_types.specs.declared.reason.Path.TheVariants.{One, Two, Three, Four}

pub record PlainCause : Type 0 where
  pub name : List ℕ
  pub number : ℕ

-- the causes; the byte of the text where it is; and the byte in what stands there, as in the condition of a rule
pub record PlainReason : Type 0 where
  pub causes : List PlainCause
  pub place : Option ℕ
  pub inner_place : Option ℕ

abbrev pub plain_cause : Cause → PlainCause
plain_cause c = record { name = c.name.now; number = c.number }

abbrev pub causes_of : Path → List PlainCause
causes_of (One a) = plain_cause a ∷ []
causes_of (Two a b) = plain_cause a ∷ plain_cause b ∷ []
causes_of (Three a b c) = plain_cause a ∷ plain_cause b ∷ plain_cause c ∷ []
causes_of (Four a b c d) = plain_cause a ∷ plain_cause b ∷ plain_cause c ∷ plain_cause d ∷ []

-- the cause, if there is one, and those behind it
abbrev pub cause_before : Option Cause → List PlainCause → List PlainCause
cause_before None rest = rest
cause_before (Some c) rest = plain_cause c ∷ rest

abbrev pub listed_causes : Causes → List PlainCause
listed_causes c = plain_cause c.first ∷ cause_before c.second (cause_before c.third (cause_before c.fourth []))

-- a refusal that carries no other
abbrev pub refused : List ℕ → ℕ → Option ℕ → PlainReason
refused name number place = record { causes = record { name = name; number = number } ∷ []; place = place; inner_place = None }

-- one that stands at a byte of the text
abbrev pub refused_at : List ℕ → ℕ → ℕ → PlainReason
refused_at name number at = refused name number (Some at)

-- one that has no place
abbrev pub refused_nowhere : List ℕ → ℕ → PlainReason
refused_nowhere name number = refused name number None

-- a refusal that carries another, and has its places
abbrev pub carried : List ℕ → ℕ → PlainReason → PlainReason
carried name number of_other = record { causes = record { name = name; number = number } ∷ of_other.causes; place = of_other.place; inner_place = of_other.inner_place }

-- a refusal of what stands at a byte of the text: its place is in there
abbrev pub with_inner_place : PlainReason → ℕ → PlainReason
with_inner_place why at = record { causes = why.causes; place = Some at; inner_place = why.place }

-- texts with points between them
abbrev pub pointed : List (List ℕ) → List ℕ
pointed [] = []
pointed (text ∷ []) = text
pointed (text ∷ next ∷ rest) = text ++ codes "." ++ pointed (next ∷ rest)

abbrev pub names_of : List PlainCause → List ℕ
names_of causes = pointed (map (λ (c : PlainCause). c.name) causes)

abbrev pub numbers_of : List PlainCause → List ℕ
numbers_of causes = pointed (map (λ (c : PlainCause). decimal c.number) causes)

-- how a reason is written, but for its places
abbrev pub written : PlainReason → List ℕ
written why = names_of why.causes ++ codes " (" ++ numbers_of why.causes ++ codes ")"
