-- Values, calls and comparisons.
use Rattle.std.specs.Prelude.{ℕ, Bool, true, false, ◌||◌, not, ◌==◌, if◌then◌else◌, List, [], ◌∷◌}
use Rattle.cond_lang.specs.declared.error.CondError.TheVariants.{UnknownName, TypeClash, TooDeep}
use Rattle.cond_lang.specs.declared.terms.Side.{Side}
use Rattle.cond_lang.specs.declared.terms.Func.{Func}
use Rattle.cond_lang.specs.declared.terms.Func.TheVariants.{ExistsOnLayer, IsPlated, IntersectsArea, IntersectsCourtyard}
use Rattle.cond_lang.specs.declared.terms.Prop.{Prop}
use Rattle.cond_lang.specs.declared.terms.Prop.TheVariants.{ItemType, NetClass, NetName, Width, Diameter, Hole}
use Rattle.cond_lang.specs.declared.terms.Op.{Op}
use Rattle.cond_lang.specs.declared.terms.Op.TheVariants.{Same, Differs, Less, AtMost, More, AtLeast}
use Rattle.cond_lang.specs.declared.terms.Term.{Term}
use Rattle.cond_lang.specs.declared.terms.Term.TheVariants.{Of, Text, Length}
use Rattle.cond_lang.specs.declared.scan.Word.{Word}
use Rattle.cond_lang.specs.declared.scan.Word.TheVariants.{Property, Function, Unknown}
use Rattle.cond_lang.specs.declared.values.Head.{Head}
use Rattle.cond_lang.specs.declared.values.Head.TheVariants.{Value, Asked}
use Rattle.cond_lang.specs.Found.{Found, read, fault, and_then, place, stuck, byte}
use Rattle.cond_lang.specs.Signs.{is_digit, after_blanks, name, word_of, side, quoted}
use Rattle.cond_lang.specs.UnitNumbers.{measure}
use Rattle.cond_lang.specs.Trees.{CondTree, call, compare}

-- The name behind a side and a dot. Where a value is wanted, a function is no name.
abbrev pub meant : ℕ → Bool → Side → List ℕ → List ℕ → Word → Found Head
meant n calls s text rest (Property p) = read (Value (Of s p)) rest
meant n calls s text rest (Function f) = if calls then read (Asked s f) rest else fault (UnknownName (place n text))
meant n calls s text rest Unknown = fault (UnknownName (place n text))

abbrev pub selected : ℕ → Bool → Side → List ℕ → Found Head
selected n calls s text = and_then (name n text) (λ word rest. meant n calls s text rest (word_of word))

-- a side, a dot (46) and a name, with space round the dot
unfoldable pub member : ℕ → Bool → List ℕ → Found Head
member n calls text =
    and_then (side n text) (λ s rest.
    and_then (byte n 46 (after_blanks rest)) (λ _ behind. selected n calls s (after_blanks behind)))

-- a digit, a plus (43), a minus (45) or a point
abbrev pub begins_number : ℕ → Bool
begins_number c = is_digit c || ((c == 43) || ((c == 45) || (c == 46)))

-- a text, a number, or what stands behind a side
unfoldable pub head : ℕ → Bool → List ℕ → Found Head
head n calls [] = stuck n []
head n calls (c ∷ cs) =
    if c == 39 then and_then (quoted n cs) (λ text rest. read (Value (Text text)) rest)
    else (if begins_number c then and_then (measure n (c ∷ cs)) (λ nm rest. read (Value (Length nm)) rest)
    else member n calls (c ∷ cs))

-- ---- calls

-- no text for isPlated, one for the others
abbrev pub argument : ℕ → Func → List ℕ → Found (List ℕ)
argument n IsPlated text = read [] text
argument n ExistsOnLayer text = and_then (byte n 39 text) (λ _ rest. quoted n rest)
argument n IntersectsArea text = and_then (byte n 39 text) (λ _ rest. quoted n rest)
argument n IntersectsCourtyard text = and_then (byte n 39 text) (λ _ rest. quoted n rest)

-- the opening bracket (40), if a level is left
abbrev pub opened : ℕ → ℕ → List ℕ → Found (Unit {0})
opened n levels [] = stuck n []
opened n levels (c ∷ cs) =
    if c == 40 then (if levels == 0 then fault (TooDeep (place n (c ∷ cs))) else read tt cs) else stuck n (c ∷ cs)

-- behind a function: its text in brackets, with space between
unfoldable pub called : ℕ → ℕ → Side → Func → List ℕ → Found CondTree
called n levels s f text =
    and_then (opened n levels (after_blanks text)) (λ _ rest.
    and_then (argument n f (after_blanks rest)) (λ arg behind.
    and_then (byte n 41 (after_blanks behind)) (λ _ end. read (call s f arg) end)))

-- ---- comparisons

-- this operator, or with a `=` (61) behind it the other
abbrev pub with_equals : Op → Op → List ℕ → Found Op
with_equals short long [] = read short []
with_equals short long (c ∷ cs) = if c == 61 then read long cs else read short (c ∷ cs)

-- == != < <= > >=
unfoldable pub operator : ℕ → List ℕ → Found Op
operator n [] = stuck n []
operator n (c ∷ cs) =
    if c == 61 then and_then (byte n 61 cs) (λ _ rest. read Same rest)
    else (if c == 33 then and_then (byte n 61 cs) (λ _ rest. read Differs rest)
    else (if c == 60 then with_equals Less AtMost cs
    else (if c == 62 then with_equals More AtLeast cs
    else stuck n (c ∷ cs))))

abbrev pub is_text_prop : Prop → Bool
is_text_prop ItemType = true
is_text_prop NetClass = true
is_text_prop NetName = true
is_text_prop Width = false
is_text_prop Diameter = false
is_text_prop Hole = false

abbrev pub is_text : Term → Bool
is_text (Of s p) = is_text_prop p
is_text (Text text) = true
is_text (Length nm) = false

abbrev pub is_order : Op → Bool
is_order Same = false
is_order Differs = false
is_order Less = true
is_order AtMost = true
is_order More = true
is_order AtLeast = true

-- a text meets a length, or is compared by order
abbrev pub clash : Term → Op → Term → Bool
clash left op right = if is_text left then (not (is_text right) || is_order op) else is_text right

-- at is where the operator stands
abbrev pub compared : ℕ → List ℕ → Term → Op → Head → List ℕ → Found CondTree
compared n at left op (Value right) rest = if clash left op right then fault (TypeClash (place n at)) else read (compare left op right) rest
compared n at left op (Asked s f) rest = stuck n rest

abbrev pub comparison_at : ℕ → Term → List ℕ → Found CondTree
comparison_at n left at = and_then (operator n at) (λ op rest. and_then (head n false (after_blanks rest)) (compared n at left op))

-- behind a value: the operator and the other value
unfoldable pub comparison : ℕ → Term → List ℕ → Found CondTree
comparison n left text = comparison_at n left (after_blanks text)

abbrev pub atom_of : ℕ → ℕ → Head → List ℕ → Found CondTree
atom_of n levels (Value left) rest = comparison n left rest
atom_of n levels (Asked s f) rest = called n levels s f rest

-- a call or a comparison
unfoldable pub atom : ℕ → ℕ → List ℕ → Found CondTree
atom n levels text = and_then (head n true text) (atom_of n levels)
