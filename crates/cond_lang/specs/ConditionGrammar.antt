-- Which conditions a text spells, as a relation that knows no faults and no order of reading:
--   cond = and ("||" and)*     and = not ("&&" not)*     not = "!" not | "(" cond ")" | call | value op value
use Rattle.std.specs.Prelude.{◌≡◌, ◌⊎◌, ℕ, zero, suc, List, [], ◌∷◌, length}
use Rattle.cond_lang.specs.Trees.{CondTree, Trees, any, all, negated}
use Rattle.cond_lang.specs.Atoms.{Blanks, Atom}
use Rattle.cond_lang.specs.Conditions.{joined}

-- one member or more, with the sign twice between them; Part says of a tree that it stands between two places
abbrev pub Members : ℕ → (CondTree → List ℕ → List ℕ → Type 0) → List CondTree → List ℕ → List ℕ → Type 0
Members sign Part [] text rest = ⊥
Members sign Part (t ∷ []) text rest = Part t text rest
Members sign Part (t ∷ u ∷ ts) text rest =
    (s v : List ℕ) × Part t text s × Blanks s (sign ∷ sign ∷ v) × Members sign Part (u ∷ ts) v rest

-- one member stands for itself, more are a chain; and space may follow
abbrev pub Chain : ℕ → (Trees → CondTree) → (CondTree → List ℕ → List ℕ → Type 0) → CondTree → List ℕ → List ℕ → Type 0
Chain sign make Part t text rest =
    (ts : List CondTree) × (s : List ℕ) × Members sign Part ts text s × Blanks s rest × (t ≡ joined make ts)

abbrev pub Alternatives : (CondTree → List ℕ → List ℕ → Type 0) → CondTree → List ℕ → List ℕ → Type 0
Alternatives Part = Chain 124 any (Chain 38 all Part)

-- a `!` and a negation
abbrev pub Negated : (CondTree → List ℕ → List ℕ → Type 0) → CondTree → List ℕ → List ℕ → Type 0
Negated Part t text rest = (u : CondTree) × (s : List ℕ) × (text ≡ 33 ∷ s) × (t ≡ negated u) × Part u s rest

-- a condition in brackets, which is itself
abbrev pub Bracketed : (CondTree → List ℕ → List ℕ → Type 0) → CondTree → List ℕ → List ℕ → Type 0
Bracketed Part t text rest = (s v : List ℕ) × (text ≡ 40 ∷ s) × Alternatives Part t s v × Blanks v (41 ∷ rest)

-- with so many levels
unfoldable pub Negation : ℕ → ℕ → CondTree → List ℕ → List ℕ → Type 0
Negation n zero t text rest = (s : List ℕ) × Blanks text s × Atom n 0 t s rest
Negation n (suc levels) t text rest =
    (s : List ℕ) × Blanks text s
    × (Negated (Negation n levels) t s rest ⊎ (Bracketed (Negation n levels) t s rest ⊎ Atom n (suc levels) t s rest))

-- the whole text is the condition
unfoldable pub Spells : List ℕ → CondTree → Type 0
Spells text t = Alternatives (Negation (length text) 64) t text []
