-- Values that may be missing.
use Rattle.std.specs.Prelude.{List, [], ◌∷◌, ◌++◌, Option, Some, option_map, option_and_then}

-- what is made of two, if both are there
abbrev pub both : {A B C : Type 0} → (A → B → C) → Option A → Option B → Option C
both make one other = option_and_then (λ x. option_map (make x) other) one

-- all of them, if each is there
abbrev pub all_there : {A : Type 0} → List (Option A) → Option (List A)
all_there [] = Some []
all_there (x ∷ xs) = both (λ y ys. y ∷ ys) x (all_there xs)

-- the list with these at its end, if they are there
abbrev pub after : {A : Type 0} → List A → Option (List A) → Option (List A)
after xs more = option_map (λ ys. xs ++ ys) more
