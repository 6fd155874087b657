-- Which condition a text spells, or where it is refused:
--   cond = and ("||" and)*     and = not ("&&" not)*     not = "!" not | "(" cond ")" | call | value op value
-- Between two signs there may be space. A fault is the first that a reader meets.
use Rattle.std.specs.Prelude.{ℕ, zero, suc, Bool, true, false, ◌==◌, if◌then◌else◌, List, [], ◌∷◌, ◌++◌, length}
use Rattle.cond_lang.specs.declared.error.CondError.TheVariants.{TooDeep}
use Rattle.cond_lang.specs.Found.{Found, read, fault, and_then, place, stuck, byte}
use Rattle.cond_lang.specs.Signs.{after_blanks}
use Rattle.cond_lang.specs.Values.{atom}
use Rattle.cond_lang.specs.Trees.{CondTree, Trees, any, all, negated, trees_of}

-- one condition stands for itself, and more are a chain
abbrev pub joined : (Trees → CondTree) → List CondTree → CondTree
joined make [] = make (trees_of [])
joined make (t ∷ []) = t
joined make (t ∷ u ∷ ts) = make (trees_of (t ∷ u ∷ ts))

abbrev pub begins_with : ℕ → List ℕ → Bool
begins_with sign [] = false
begins_with sign (c ∷ cs) = c == sign

-- behind a first byte that is the sign: the sign once more
abbrev pub twice : ℕ → ℕ → List ℕ → Found (Unit {0})
twice n sign [] = stuck n []
twice n sign (c ∷ cs) = byte n sign cs

-- behind the members so far: where the sign stands, it stands twice and a further member follows, and then `next`
abbrev pub link : ℕ → ℕ → (Trees → CondTree) → (List ℕ → Found CondTree) → (List CondTree → List ℕ → Found CondTree) → List CondTree → List ℕ → Bool → Found CondTree
link n sign make part next ts text false = read (joined make ts) text
link n sign make part next ts text true =
    and_then (twice n sign text) (λ _ rest. and_then (part rest) (λ t behind. next (ts ++ (t ∷ [])) (after_blanks behind)))

-- so many further members at most
unfoldable pub links : ℕ → ℕ → (Trees → CondTree) → (List ℕ → Found CondTree) → ℕ → List CondTree → List ℕ → Found CondTree
links n sign make part zero ts text = read (joined make ts) text
links n sign make part (suc more) ts text = link n sign make part (links n sign make part more) ts text (begins_with sign text)

-- a chain; no text has more members than bytes
unfoldable pub chain : ℕ → ℕ → (Trees → CondTree) → (List ℕ → Found CondTree) → List ℕ → Found CondTree
chain n sign make part text =
    and_then (part text) (λ t rest. links n sign make part (length text) (t ∷ []) (after_blanks rest))

-- a chain of `||` (124) of chains of `&&` (38)
abbrev pub alternatives : ℕ → (List ℕ → Found CondTree) → List ℕ → Found CondTree
alternatives n part = chain n 124 any (chain n 38 all part)

-- behind a bracket: the closing one (41)
abbrev pub closed : ℕ → CondTree → List ℕ → Found CondTree
closed n t text = and_then (byte n 41 (after_blanks text)) (λ _ rest. read t rest)

-- what a negation may begin with: a `!` (33), a bracket (40), or a call or a comparison
pub data Begin : Type 0 where
  bang : Begin
  bracket : Begin
  plain : Begin

abbrev pub begin_of : ℕ → Begin
begin_of c = if c == 33 then bang else (if c == 40 then bracket else plain)

-- where no level is left
abbrev pub shallow : ℕ → List ℕ → Begin → Found CondTree
shallow n text bang = fault (TooDeep (place n text))
shallow n text bracket = fault (TooDeep (place n text))
shallow n text plain = atom n 0 text

-- where levels are left; `inner` is a negation with one level less, and cs is the text behind its first byte
abbrev pub nested : ℕ → ℕ → (List ℕ → Found CondTree) → List ℕ → List ℕ → Begin → Found CondTree
nested n levels inner text cs bang = and_then (inner cs) (λ t rest. read (negated t) rest)
nested n levels inner text cs bracket = and_then (alternatives n inner cs) (closed n)
nested n levels inner text cs plain = atom n levels text

abbrev pub shallow_at : ℕ → List ℕ → Found CondTree
shallow_at n [] = stuck n []
shallow_at n (c ∷ cs) = shallow n (c ∷ cs) (begin_of c)

abbrev pub nested_at : ℕ → ℕ → (List ℕ → Found CondTree) → List ℕ → Found CondTree
nested_at n levels inner [] = stuck n []
nested_at n levels inner (c ∷ cs) = nested n levels inner (c ∷ cs) cs (begin_of c)

-- One negation behind space, with so many levels left: a `!` and a bracket take one.
unfoldable pub negation : ℕ → ℕ → List ℕ → Found CondTree
negation n zero text = shallow_at n (after_blanks text)
negation n (suc levels) text = nested_at n (suc levels) (negation n levels) (after_blanks text)

unfoldable pub disjunction : ℕ → ℕ → List ℕ → Found CondTree
disjunction n levels = alternatives n (negation n levels)

-- nothing but space is left
abbrev pub ended : ℕ → CondTree → List ℕ → Found CondTree
ended n t [] = read t []
ended n t (c ∷ cs) = stuck n (c ∷ cs)

-- the whole text, with brackets and `!` of 64 levels at most
unfoldable pub reading : List ℕ → Found CondTree
reading text = and_then (disjunction (length text) 64 text) (λ t rest. ended (length text) t (after_blanks rest))
