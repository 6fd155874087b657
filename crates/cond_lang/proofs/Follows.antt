-- What may stand behind a value, a chain or a sign.
use Rattle.std.proofs.Common.{◌≡◌, ℕ, Bool, true, false, ◌==◌, ◌||◌, if◌then◌else◌, List, [], ◌∷◌}
use Rattle.cond_lang.specs.Signs.{is_in_name}

-- neither a name nor a number goes on here
abbrev pub ends_value : List ℕ → Bool
ends_value [] = true
ends_value (c ∷ cs) = if (is_in_name c || (c == 46)) then false else true

abbrev pub EndsValue : List ℕ → Type 0
EndsValue z = ends_value z ≡ true

-- the end, or a closing bracket (41)
abbrev pub Closes : List ℕ → Type 0
Closes [] = Unit {0}
Closes (c ∷ cs) = c ≡ 41

-- this byte comes first
abbrev pub Begins : ℕ → List ℕ → Type 0
Begins b z = (cs : List ℕ) × (z ≡ b ∷ cs)

abbrev pub Anything : {A : Type 0} → A → Type 0
Anything a = Unit {0}
