-- Answers that agree.
use Rattle.std.specs.Prelude.{◌≡◌, Bool, true, Option, None, Some, Result, Ok, Err, ⊤}
use Rattle.sexpr_read.specs.Tree.{Forest, none, Tree, leaf, branch}
use Rattle.board_errors.specs.declared.errors.BoardError.{BoardError}
use Rattle.roundtrip_lists.specs.Translated.{Shift, Translated, TranslatedTrees}

-- where the one is accepted, so is the other, and what they give is so related
abbrev pub Agrees : {A B : Type 0} → (A → B → Type 0) → Result A BoardError → Result B BoardError → Type 0
Agrees R (Ok x) (Ok y) = R x y
Agrees R (Ok x) (Err e) = ⊥
Agrees R (Err e) answer = ⊤

-- both are accepted, or both refused
abbrev pub BothAgree : {A B : Type 0} → (A → B → Type 0) → Result A BoardError → Result B BoardError → Type 0
BothAgree R (Ok x) (Ok y) = R x y
BothAgree R (Ok x) (Err e) = ⊥
BothAgree R (Err e) (Ok y) = ⊥
BothAgree R (Err e) (Err g) = ⊤

abbrev pub OptionsAgree : {A B : Type 0} → (A → B → Type 0) → Option A → Option B → Type 0
OptionsAgree R None None = ⊤
OptionsAgree R None (Some y) = ⊥
OptionsAgree R (Some x) None = ⊥
OptionsAgree R (Some x) (Some y) = R x y

abbrev pub Same : {A : Type 0} → A → A → Type 0
Same x y = y ≡ x

-- ---- trees that are found

-- the same atom, wherever it stands
abbrev pub SameAtom : Tree → Tree → Type 0
SameAtom (leaf s q c) (leaf t r e) = (q ≡ r) × (c ≡ e)
SameAtom (leaf s q c) (branch t within) = ⊥
SameAtom (branch s inside) u = ⊥

abbrev pub forest_in : Tree → Forest
forest_in (leaf s q c) = none
forest_in (branch s inside) = inside

-- what stands in the two lists is equal up to translation
abbrev pub TranslatedParts : Option Shift → Tree → Tree → Type 0
TranslatedParts d t u = Translated d (forest_in t) (forest_in u)

-- found by this test in both, and equal up to translation
abbrev pub FoundTranslated : Option Shift → (Tree → Bool) → Option Tree → Option Tree → Type 0
FoundTranslated d test found other = OptionsAgree (λ t u. TranslatedTrees d t u × (test t ≡ true)) found other
