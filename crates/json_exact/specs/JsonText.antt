-- Which JSON value a text spells (RFC 8259, section 2). `text` is what stands at some place, `rest` what
-- stands behind the value there, and n is the length of the whole text: what is left to its end tells the place.
-- `levels` is how deep brackets may nest.
use Rattle.std.specs.Prelude.{◌≡◌, ℕ, suc, ◌+◌, List, [], ◌∷◌, ◌++◌, length, Bool, ◌||◌, ◌==◌, IsTrue, Option, Some, None}
use Rattle.json_exact.specs.Json.{Word, null_word, true_word, false_word, Leaf, word, number, string, Bracket, square, curly, Name, Json, leaf, nest, Parts, no_parts, part}
use Rattle.json_exact.specs.Characters.{AreCharacters, decoded}
use Rattle.json_exact.specs.JsonNumbers.{IsNumber}

-- space, tab, line feed, carriage return
abbrev pub is_blank : ℕ → Bool
is_blank b = (b == 32) || ((b == 9) || ((b == 10) || (b == 13)))

abbrev pub AreBlanks : List ℕ → Type 0
AreBlanks [] = Unit {0}
AreBlanks (b ∷ bs) = IsTrue (is_blank b) × AreBlanks bs

-- text is blanks, and then rest
abbrev pub Blanks : List ℕ → List ℕ → Type 0
Blanks text rest = (bs : List ℕ) × AreBlanks bs × (text ≡ bs ++ rest)

abbrev pub letters : Word → List ℕ
letters null_word = 110 ∷ 117 ∷ 108 ∷ 108 ∷ []
letters true_word = 116 ∷ 114 ∷ 117 ∷ 101 ∷ []
letters false_word = 102 ∷ 97 ∷ 108 ∷ 115 ∷ 101 ∷ []

-- the bytes are this word, these digits, or these characters between quotes
abbrev pub IsLeaf : Leaf → List ℕ → Type 0
IsLeaf (word w) bytes = bytes ≡ letters w
IsLeaf (number digits) bytes = IsNumber bytes × (digits ≡ bytes)
IsLeaf (string text) bytes = (raw : List ℕ) × AreCharacters raw × (bytes ≡ 34 ∷ raw ++ 34 ∷ []) × (text ≡ decoded raw)

abbrev pub SpellsLeaf : ℕ → Leaf → ℕ → ℕ → List ℕ → List ℕ → Type 0
SpellsLeaf n l from to text rest =
    (bytes : List ℕ) × IsLeaf l bytes × (text ≡ bytes ++ rest) × (from + length text ≡ n) × (to + length rest ≡ n)

abbrev pub opening : Bracket → ℕ
opening square = 91
opening curly = 123

abbrev pub closing : Bracket → ℕ
closing square = 93
closing curly = 125

-- In a list a value stands alone, in an object behind its name and a colon. `spells` is how the value is spelled.
abbrev pub SpellsPart : ℕ → Bracket → Option Name → (List ℕ → List ℕ → Type 0) → List ℕ → List ℕ → Type 0
SpellsPart n square None spells text rest = (s : List ℕ) × Blanks text s × spells s rest
SpellsPart n square (Some name) spells text rest = ⊥
SpellsPart n curly None spells text rest = ⊥
SpellsPart n curly (Some name) spells text rest =
    (s t : List ℕ) × Blanks text s × SpellsLeaf n (string name.text) name.from name.to s t
    × ((u : List ℕ) × Blanks t (58 ∷ u) × ((w : List ℕ) × Blanks u w × spells w rest))

abbrev mutual
  pub Spells : ℕ → ℕ → Json → List ℕ → List ℕ → Type 0
  Spells n levels (leaf l from to) text rest = SpellsLeaf n l from to text rest
  Spells n levels (nest b from to ps) text rest =
      (inner : ℕ) × (levels ≡ suc inner) × (from + length text ≡ n)
      × ((s : List ℕ) × (text ≡ opening b ∷ s) × SpellsFirst n inner b ps to s rest)

  -- behind the opening bracket: the closing one, or a first part
  pub SpellsFirst : ℕ → ℕ → Bracket → Parts → ℕ → List ℕ → List ℕ → Type 0
  SpellsFirst n levels b no_parts to text rest = Blanks text (closing b ∷ rest) × (to + length rest ≡ n)
  SpellsFirst n levels b (part name v ps) to text rest =
      (s : List ℕ) × SpellsPart n b name (Spells n levels v) text s × SpellsMore n levels b ps to s rest

  -- behind a part: the closing bracket, or a comma and a further part
  pub SpellsMore : ℕ → ℕ → Bracket → Parts → ℕ → List ℕ → List ℕ → Type 0
  SpellsMore n levels b no_parts to text rest = Blanks text (closing b ∷ rest) × (to + length rest ≡ n)
  SpellsMore n levels b (part name v ps) to text rest =
      (s t : List ℕ) × Blanks text (44 ∷ s) × SpellsPart n b name (Spells n levels v) s t × SpellsMore n levels b ps to t rest

-- the whole text is the value, with blanks before and behind it
abbrev pub SpelledWithin : ℕ → List ℕ → Json → Type 0
SpelledWithin levels text v =
    (s t : List ℕ) × Blanks text s × Spells (length text) levels v s t × Blanks t []
