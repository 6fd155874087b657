-- The tree of an S-expression: a list of trees, or an atom with its content. Each has its place in the text.
use Rattle.std.specs.Prelude.{ℕ, suc, max, Bool, true, false, ◌==◌, if◌then◌else◌, List, [], ◌∷◌, Option, Some, None}
use Rattle.sexpr_read.specs.declared.place.Span.{Span}

-- Trees side by side, in the order of the text: none, or an atom or a list, and then the others.
-- The mark says whether the atom stands in quotes; its content is what stands between them.
pub data Forest : Type 0 where
  none : Forest
  atom : Span → Bool → List ℕ → Forest → Forest
  list : Span → Forest → Forest → Forest

-- a single tree
pub data Tree : Type 0 where
  leaf : Span → Bool → List ℕ → Tree
  branch : Span → Forest → Tree

-- the trees of a forest
abbrev pub trees : Forest → List Tree
trees none = []
trees (atom s q c others) = leaf s q c ∷ trees others
trees (list s inside others) = branch s inside ∷ trees others

-- where the tree begins and ends, its quotes or brackets with it
abbrev pub span : Tree → Span
span (leaf s q c) = s
span (branch s inside) = s

abbrev pub is_list : Tree → Bool
is_list (leaf s q c) = false
is_list (branch s inside) = true

-- whether it is an atom in quotes
abbrev pub quoted : Tree → Bool
quoted (leaf s q c) = q
quoted (branch s inside) = false

-- the bytes of an atom as they stand in the text, without quotes
abbrev pub content : Tree → Option (List ℕ)
content (leaf s q c) = Some c
content (branch s inside) = None

-- the trees in a list; an atom has none
abbrev pub parts : Tree → List Tree
parts (leaf s q c) = []
parts (branch s inside) = trees inside

-- what a byte after a backslash stands for: n for a line feed, r for a carriage return, any other for itself
abbrev pub meant : ℕ → ℕ
meant b = if b == 0x6E then 0x0A else (if b == 0x72 then 0x0D else b)

-- the content of a string with its escapes read
unfoldable pub unescaped : List ℕ → List ℕ
unescaped [] = []
unescaped (b ∷ []) = b ∷ []
unescaped (b ∷ c ∷ bytes) = if b == 0x5C then meant c ∷ unescaped bytes else b ∷ unescaped (c ∷ bytes)

-- what an atom stands for: a word for itself, a string for its content with its escapes read
abbrev pub value : Tree → Option (List ℕ)
value (leaf s true c) = Some (unescaped c)
value (leaf s false c) = Some c
value (branch s inside) = None

-- the bytes of a word; a string and a list are none
abbrev pub word_of : Tree → Option (List ℕ)
word_of (leaf s true c) = None
word_of (leaf s false c) = Some c
word_of (branch s inside) = None

-- how deep lists stand in one another
abbrev pub levels_in : Forest → ℕ
levels_in none = 0
levels_in (atom s q c others) = levels_in others
levels_in (list s inside others) = max (suc (levels_in inside)) (levels_in others)

abbrev pub levels : Tree → ℕ
levels (leaf s q c) = 0
levels (branch s inside) = suc (levels_in inside)
