-- Which trees a piece of text spells, by its bytes alone: places play no part in it.
use Rattle.std.specs.Prelude.{◌≡◌, ◌≤◌, ℕ, Bool, true, false, List, [], ◌∷◌, ◌++◌, length, ⊤}
use Rattle.sexpr_read.specs.declared.bytes.ByteClass.TheVariants.{Space, Backslash}
use Rattle.sexpr_read.specs.ByteClasses.{class_of, sign_of, is_word, is_itself}
use Rattle.sexpr_read.specs.Tree.{Forest, none, atom, list}
use Rattle.sexpr_read.specs.Spelling.{SpellsForest}

-- nothing but space
abbrev pub IsBlank : List ℕ → Type 0
IsBlank [] = ⊤
IsBlank (b ∷ bytes) = (class_of b ≡ Space) × IsBlank bytes

-- nothing but what words are made of
abbrev pub AreOfWord : List ℕ → Type 0
AreOfWord [] = ⊤
AreOfWord (b ∷ bytes) = (is_word (class_of b) ≡ true) × AreOfWord bytes

-- what may stand between two quotes
pub data IsQuotedContent : List ℕ → Type 0 where
  empty : IsQuotedContent []
  itself : {b : ℕ} {bytes : List ℕ} → is_itself (class_of b) ≡ true → IsQuotedContent bytes → IsQuotedContent (b ∷ bytes)
  escape : {b c : ℕ} {bytes : List ℕ} → class_of b ≡ Backslash → IsQuotedContent bytes → IsQuotedContent (b ∷ c ∷ bytes)

-- an atom's content is that of some word, or of some string
abbrev pub IsContentOf : Bool → List ℕ → Type 0
IsContentOf false [] = ⊥
IsContentOf false (b ∷ bytes) = AreOfWord (b ∷ bytes)
IsContentOf true bytes = IsQuotedContent bytes

-- the atom as it stands in a text: a string has its quotes
abbrev pub written : Bool → List ℕ → List ℕ
written false content = content
written true content = 34 ∷ (content ++ 34 ∷ [])

-- what follows a word is no further byte of it
abbrev pub IsWordEnd : List ℕ → Type 0
IsWordEnd [] = ⊤
IsWordEnd (b ∷ bytes) = is_word (class_of b) ≡ false

abbrev pub MayFollow : Bool → List ℕ → Type 0
MayFollow false rest = IsWordEnd rest
MayFollow true rest = ⊤

-- the bytes spell these trees, whatever spans these have
abbrev pub WritesForest : List ℕ → Forest → Type 0
WritesForest bytes none = IsBlank bytes
WritesForest bytes (atom s q content others) =
    (gap : List ℕ) × (rest : List ℕ) × (bytes ≡ gap ++ (written q content ++ rest)) × IsBlank gap × IsContentOf q content × MayFollow q rest × WritesForest rest others
WritesForest bytes (list s inside others) =
    (gap : List ℕ) × (within : List ℕ) × (rest : List ℕ) × (bytes ≡ gap ++ (40 ∷ (within ++ (41 ∷ rest)))) × IsBlank gap × WritesForest within inside × WritesForest rest others

-- the text has this part, and it spells these trees
pub record SpellsPart (text : List ℕ) (from to : ℕ) (f : Forest) : Type 0 where
  pub within : to ≤ length text
  pub spelled : SpellsForest (sign_of text) text from to f

-- the same trees, but for their spans
abbrev pub SameTrees : Forest → Forest → Type 0
SameTrees none none = ⊤
SameTrees none (atom t r d rest) = ⊥
SameTrees none (list t within rest) = ⊥
SameTrees (atom s q c others) none = ⊥
SameTrees (atom s q c others) (atom t r d rest) = (q ≡ r) × (c ≡ d) × SameTrees others rest
SameTrees (atom s q c others) (list t within rest) = ⊥
SameTrees (list s inside others) none = ⊥
SameTrees (list s inside others) (atom t r d rest) = ⊥
SameTrees (list s inside others) (list t within rest) = SameTrees inside within × SameTrees others rest
