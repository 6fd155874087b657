-- Reading step by step: each step has an answer or a refusal, and the first refusal counts. What refusals there are is each reader's
-- own.
use Rattle.std.specs.Prelude.{List, [], ◌∷◌, Bool, true, false, Option, None, Some, Result, Ok, Err}

infixl 10 ◌>>=◌
abbrev pub ◌>>=◌ : {E A B : Type 0} → Result A E → (A → Result B E) → Result B E
(Err e) >>= f = Err e
(Ok x) >>= f = f x

-- what is there, or the refusal
abbrev pub needed : {E A : Type 0} → E → Option A → Result A E
needed e None = Err e
needed e (Some x) = Ok x

-- the refusal, unless the test holds
abbrev pub check : {E : Type 0} → E → Bool → Result (Unit {0}) E
check e true = Ok tt
check e false = Err e

-- what each gives, in their order, or the first refusal
unfoldable pub each_of : {E A B : Type 0} → (A → Result B E) → List A → Result (List B) E
each_of read [] = Ok []
each_of read (t ∷ ts) = do
  x ← read t
  xs ← each_of read ts
  Ok (x ∷ xs)
