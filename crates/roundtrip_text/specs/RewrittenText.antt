-- Texts that are rewritten from their trees.
use Rattle.std.specs.Prelude.{◌≡◌, ℕ, suc, ◌+◌, ◌-◌, Bool, true, false, List, [], ◌∷◌, ◌++◌, ⊤, slice_range, length, max}
use Rattle.sexpr_read.specs.declared.place.Span.{Span}
use Rattle.sexpr_read.specs.Tree.{Forest, none, atom, list, levels_in}
use Rattle.roundtrip_text.specs.Pieces.{IsContentOf, written}

-- ---- a text with other contents of its atoms: what stands between the trees stays

-- the part of the text from one place to another, its atoms with the contents that these trees have
abbrev pub text_rewritten : List ℕ → ℕ → ℕ → Forest → List ℕ
text_rewritten text from to none = slice_range text from to
text_rewritten text from to (atom s q content others) = slice_range text from s.at ++ (written q content ++ text_rewritten text s.end to others)
text_rewritten text from to (list s inside others) =
    slice_range text from s.at ++ (40 ∷ (text_rewritten text (s.at + 1) (s.end - 1) inside ++ (41 ∷ text_rewritten text s.end to others)))

-- the same trees at the same spans, some atoms with other contents
abbrev pub IsRespelled : Forest → Forest → Type 0
IsRespelled none none = ⊤
IsRespelled none (atom t r d rest) = ⊥
IsRespelled none (list t within rest) = ⊥
IsRespelled (atom s q c others) none = ⊥
IsRespelled (atom s q c others) (atom t r d rest) = (s ≡ t) × (q ≡ r) × IsContentOf r d × IsRespelled others rest
IsRespelled (atom s q c others) (list t within rest) = ⊥
IsRespelled (list s inside others) none = ⊥
IsRespelled (list s inside others) (atom t r d rest) = ⊥
IsRespelled (list s inside others) (list t within rest) = (s ≡ t) × IsRespelled inside within × IsRespelled others rest

-- ---- a text of which lists are left out, or rewritten

-- what becomes of a list: it stays as it is, it is left out, or it is written with other contents
pub data Disposition : Type 0 where
  stays : Disposition
  leaves : Disposition
  becomes : Forest → Disposition

abbrev pub list_by : List ℕ → Span → Disposition → List ℕ
list_by text s stays = slice_range text s.at s.end
list_by text s leaves = []
list_by text s (becomes inside) = 40 ∷ (text_rewritten text (s.at + 1) (s.end - 1) inside ++ 41 ∷ [])

-- the disposition of the first of the lists that are still to come, and those of the others; where there is none left, lists stay
abbrev pub first_disposition : List Disposition → Disposition
first_disposition [] = stays
first_disposition (disposition ∷ dispositions) = disposition

abbrev pub later : List Disposition → List Disposition
later [] = []
later (disposition ∷ dispositions) = dispositions

-- the part of the text from one place to another, each list of these trees with its disposition, in order
abbrev pub edited : List ℕ → ℕ → ℕ → List Disposition → Forest → List ℕ
edited text from to dispositions none = slice_range text from to
edited text from to dispositions (atom s q content others) = slice_range text from s.at ++ (written q content ++ edited text s.end to dispositions others)
edited text from to dispositions (list s inside others) = slice_range text from s.at ++ (list_by text s (first_disposition dispositions) ++ edited text s.end to (later dispositions) others)

abbrev pub AllStay : List Disposition → Type 0
AllStay [] = ⊤
AllStay (disposition ∷ dispositions) = (disposition ≡ stays) × AllStay dispositions

-- ---- a tree by itself

-- one space before each tree but the first
abbrev pub space_before : Bool → List ℕ
space_before true = []
space_before false = 32 ∷ []

-- the trees, one space between them
abbrev pub spaced : Bool → Forest → List ℕ
spaced first none = []
spaced first (atom s q content others) = space_before first ++ (written q content ++ spaced false others)
spaced first (list s inside others) = space_before first ++ (40 ∷ (spaced true inside ++ (41 ∷ spaced false others)))

-- each atom is one that a text may have
abbrev pub AreAtoms : Forest → Type 0
AreAtoms none = ⊤
AreAtoms (atom s q c others) = IsContentOf q c × AreAtoms others
AreAtoms (list s inside others) = AreAtoms inside × AreAtoms others

-- ---- lists alone

-- what stands in the lists, one after another; atoms between them are passed over
abbrev pub insides : Forest → List Forest
insides none = []
insides (atom s q c others) = insides others
insides (list s inside others) = inside ∷ insides others

abbrev pub inside_by : Forest → Disposition → List Forest
inside_by inside stays = inside ∷ []
inside_by inside leaves = []
inside_by inside (becomes other) = other ∷ []

-- the same after each list's disposition
abbrev pub insides_after : List Disposition → Forest → List Forest
insides_after dispositions none = []
insides_after dispositions (atom s q c others) = insides_after dispositions others
insides_after dispositions (list s inside others) = inside_by inside (first_disposition dispositions) ++ insides_after (later dispositions) others

-- a list's new contents stand at the spans of the old ones
abbrev pub IsFit : Forest → Disposition → Type 0
IsFit inside stays = ⊤
IsFit inside leaves = ⊤
IsFit inside (becomes other) = IsRespelled inside other

abbrev pub AreFit : List Disposition → Forest → Type 0
AreFit dispositions none = ⊤
AreFit dispositions (atom s q c others) = AreFit dispositions others
AreFit dispositions (list s inside others) = IsFit inside (first_disposition dispositions) × AreFit (later dispositions) others

abbrev pub IsThere : Disposition → Type 0
IsThere stays = ⊤
IsThere leaves = ⊥
IsThere (becomes other) = ⊤

-- the first tree is no list that is left out
abbrev pub FirstIsThere : List Disposition → Forest → Type 0
FirstIsThere dispositions none = ⊤
FirstIsThere dispositions (atom s q c others) = ⊤
FirstIsThere dispositions (list s inside others) = IsThere (first_disposition dispositions)

-- the text of one list, of which the parts have their dispositions, and these trees stand last in it
abbrev pub edited_whole : List ℕ → Span → List Disposition → Forest → Forest → List ℕ
edited_whole text s dispositions inside added =
    slice_range text 0 (s.at + 1) ++ (edited text (s.at + 1) (s.end - 1) dispositions inside ++ (spaced false added ++ slice_range text (s.end - 1) (length text)))

-- how deep lists stand in one another, in lists by what stands in them
abbrev pub deepest : List Forest → ℕ
deepest [] = 0
deepest (inside ∷ others) = max (suc (levels_in inside)) (deepest others)
