-- Which call or comparison stands between two places of a text: text is what is left before it, and rest what is left behind
-- it. Faults and the order of reading are unknown here. A name and an operator are as long as they can be.
--   call = side "." function "(" [text] ")"     value = side "." property | text | number     side = "A" | "B"
use Rattle.std.specs.Prelude.{◌≡◌, ℕ, ◌<◌, Bool, true, false, IsTrue, List, [], ◌∷◌, ◌++◌, ℤ, ◌==◌, if◌then◌else◌}
use Rattle.std.specs.Str.{is_utf8}
use Rattle.cond_lang.specs.declared.terms.Side.{Side}
use Rattle.cond_lang.specs.declared.terms.Side.TheVariants.{A, B}
use Rattle.cond_lang.specs.declared.terms.Func.{Func}
use Rattle.cond_lang.specs.declared.terms.Func.TheVariants.{ExistsOnLayer, IsPlated, IntersectsArea, IntersectsCourtyard}
use Rattle.cond_lang.specs.declared.terms.Op.{Op}
use Rattle.cond_lang.specs.declared.terms.Op.TheVariants.{Same, Differs, Less, AtMost, More, AtLeast}
use Rattle.cond_lang.specs.declared.terms.Term.{Term}
use Rattle.cond_lang.specs.declared.terms.Term.TheVariants.{Of, Text, Length}
use Rattle.cond_lang.specs.declared.scan.Word.{Word}
use Rattle.cond_lang.specs.declared.scan.Word.TheVariants.{Property, Function}
use Rattle.cond_lang.specs.Found.{read}
use Rattle.cond_lang.specs.Signs.{is_blank, is_in_name, begins_name, word_of}
use Rattle.cond_lang.specs.UnitNumbers.{measure}
use Rattle.cond_lang.specs.Trees.{CondTree, any, all, negated, call, compare}
use Rattle.cond_lang.specs.Values.{begins_number, clash}

-- ---- space

abbrev pub AreBlanks : List ℕ → Type 0
AreBlanks [] = Unit {0}
AreBlanks (b ∷ bs) = IsTrue (is_blank b) × AreBlanks bs

-- text is space, and then rest
abbrev pub Blanks : List ℕ → List ℕ → Type 0
Blanks text rest = (bs : List ℕ) × AreBlanks bs × (text ≡ bs ++ rest)

-- ---- names

abbrev pub AreInName : List ℕ → Type 0
AreInName [] = Unit {0}
AreInName (c ∷ cs) = IsTrue (is_in_name c) × AreInName cs

-- a name goes on here
abbrev pub goes_on : List ℕ → Bool
goes_on [] = false
goes_on (c ∷ cs) = is_in_name c

-- a longest run of letters, digits and `_` that begins with no digit
abbrev pub Named : List ℕ → List ℕ → List ℕ → Type 0
Named name text rest = (text ≡ name ++ rest) × AreInName name × IsTrue (begins_name name) × (goes_on rest ≡ false)

-- the letter of a side
abbrev pub side_letter : Side → List ℕ
side_letter A = 65 ∷ []
side_letter B = 66 ∷ []

-- a side, a dot (46) and a name that means this
abbrev pub Selected : Side → Word → List ℕ → List ℕ → Type 0
Selected s word text rest =
    (u v x name : List ℕ) × Named (side_letter s) text u × Blanks u (46 ∷ v) × Blanks v x × Named name x rest × (word_of name ≡ word)

-- ---- values

abbrev pub HasNoQuote : List ℕ → Type 0
HasNoQuote [] = Unit {0}
HasNoQuote (c ∷ cs) = (c ≡ 39 → ⊥) × HasNoQuote cs

-- signs between two single quotes (39)
abbrev pub Quoted : List ℕ → List ℕ → List ℕ → Type 0
Quoted signs text rest = (text ≡ 39 ∷ (signs ++ (39 ∷ rest))) × HasNoQuote signs × (is_utf8 signs ≡ true)

-- a length, which begins with a digit, a sign or a point
abbrev pub Measured : ℕ → ℤ → List ℕ → List ℕ → Type 0
Measured n nm text rest = (c : ℕ) × (cs : List ℕ) × (text ≡ c ∷ cs) × IsTrue (begins_number c) × (measure n text ≡ read nm rest)

abbrev pub Valued : ℕ → Term → List ℕ → List ℕ → Type 0
Valued n (Of s p) text rest = Selected s (Property p) text rest
Valued n (Text signs) text rest = Quoted signs text rest
Valued n (Length nm) text rest = Measured n nm text rest

-- ---- calls

-- no text for isPlated, one for the others
abbrev pub Argued : Func → List ℕ → List ℕ → List ℕ → Type 0
Argued IsPlated signs text rest = (signs ≡ []) × (text ≡ rest)
Argued ExistsOnLayer signs text rest = Quoted signs text rest
Argued IntersectsArea signs text rest = Quoted signs text rest
Argued IntersectsCourtyard signs text rest = Quoted signs text rest

-- its bracket (40, 41) takes a level
abbrev pub Called : ℕ → Side → Func → List ℕ → List ℕ → List ℕ → Type 0
Called levels s f signs text rest =
    (0 < levels) × ((u v x y : List ℕ) × Selected s (Function f) text u × Blanks u (40 ∷ v) × Blanks v x × Argued f signs x y × Blanks y (41 ∷ rest))

-- ---- comparisons

-- no `=` (61) follows
abbrev pub no_equals : List ℕ → Bool
no_equals [] = true
no_equals (c ∷ cs) = if c == 61 then false else true

abbrev pub Operates : Op → List ℕ → List ℕ → Type 0
Operates Same text rest = text ≡ 61 ∷ 61 ∷ rest
Operates Differs text rest = text ≡ 33 ∷ 61 ∷ rest
Operates Less text rest = (text ≡ 60 ∷ rest) × (no_equals rest ≡ true)
Operates AtMost text rest = text ≡ 60 ∷ 61 ∷ rest
Operates More text rest = (text ≡ 62 ∷ rest) × (no_equals rest ≡ true)
Operates AtLeast text rest = text ≡ 62 ∷ 61 ∷ rest

abbrev pub Compared : ℕ → Term → Op → Term → List ℕ → List ℕ → Type 0
Compared n left op right text rest =
    (u v x y : List ℕ) × Valued n left text u × Blanks u v × Operates op v x × Blanks x y × Valued n right y rest × (clash left op right ≡ false)

-- one of the two
abbrev pub Atom : ℕ → ℕ → CondTree → List ℕ → List ℕ → Type 0
Atom n levels (call s f signs) text rest = Called levels s f signs text rest
Atom n levels (compare left op right) text rest = Compared n left op right text rest
Atom n levels (any ts) text rest = ⊥
Atom n levels (all ts) text rest = ⊥
Atom n levels (negated t) text rest = ⊥
