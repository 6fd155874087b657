-- Single steps of chains of answers.
use Rattle.std.proofs.Common.{◌≡◌, refl, sym, subst, ℕ, Bool, true, false, List, Option, None, Some, option_and_then, Result, Ok, Err}
use Rattle.sexpr_read.specs.Tree.{none, Tree, leaf, branch, trees, parts}
use Rattle.board_errors.specs.declared.errors.BoardError.{BoardError}
use Rattle.list_read.specs.FirstRefusals.{◌>>=◌, needed, check}
use Rattle.list_read.specs.ListHeads.{has_head}
use Rattle.list_read.specs.NamedElements.{element}
use Rattle.roundtrip_lists.specs.Translated.{Shift, is_place_word}
use Rattle.roundtrip_lists.specs.Agreeing.{Agrees, Same, TranslatedParts, FoundTranslated, forest_in}
use Rattle.roundtrip_lists.specs.Carried.{IfAccepted}
use Rattle.roundtrip_lists.proofs.Elements.{heads_translated, find_translated, inside_by_head}

-- what is known of the first answer too
pub agrees_with : {A B : Type 0} (R : A → B → Type 0) (P : A → Type 0) (a : Result A BoardError) (b : Result B BoardError) → ((x : A) → a ≡ Ok x → P x) → Agrees R a b → Agrees (λ x y. R x y × P x) a b
agrees_with R P (Ok x) (Ok y) known h = (h, known x refl)
agrees_with R P (Ok x) (Err e) known h = absurd h
agrees_with R P (Err e) b known h = tt

-- a test that has the same answer in both
pub agrees_check : {A B : Type 0} (R : A → B → Type 0) (a b : Bool) (d e : BoardError) (f : Unit {0} → Result A BoardError) (g : Unit {0} → Result B BoardError) → b ≡ a → (a ≡ true → Agrees R (f tt) (g tt))
    → Agrees R (check d a >>= f) (check e b >>= g)
agrees_check R true true d e f g same h = h refl
agrees_check R true false d e f g same h = absurd cc
agrees_check R false b d e f g same h = tt

pub leads_check : {A B : Type 0} (Q : A → Result B BoardError → Type 0) (a b : Bool) (d e : BoardError) (f : Unit {0} → Result A BoardError) (g : Unit {0} → Result B BoardError) → b ≡ a → (a ≡ true → IfAccepted Q (f tt) (g tt))
    → IfAccepted Q (check d a >>= f) (check e b >>= g)
leads_check Q true true d e f g same h = h refl
leads_check Q true false d e f g same h = absurd cc
leads_check Q false b d e f g same h = tt

pub leads_needed : {A B C : Type 0} (Q : C → Result B BoardError → Type 0) (e : BoardError) (o : Option A) (f : A → Result C BoardError) (answer : Result B BoardError) → ((x : A) → o ≡ Some x → IfAccepted Q (f x) answer)
    → IfAccepted Q (needed e o >>= f) answer
leads_needed Q e None f answer h = tt
leads_needed Q e (Some x) f answer h = h x refl

-- the same answer in both
pub same_bind : {A C D : Type 0} (S : C → D → Type 0) (a b : Result A BoardError) (f : A → Result C BoardError) (g : A → Result D BoardError) → Agrees Same a b → ((x : A) → Agrees S (f x) (g x)) → Agrees S (a >>= f) (b >>= g)
same_bind S (Ok x) (Ok y) f g h k = subst (λ (z : _). Agrees S (f x) (g z)) (sym h) (k x)
same_bind S (Ok x) (Err e) f g h k = absurd h
same_bind S (Err e) (Ok y) f g h k = tt
same_bind S (Err e) (Err d) f g h k = tt

pub leads_same : {A C D : Type 0} (Q : C → Result D BoardError → Type 0) (a b : Result A BoardError) (f : A → Result C BoardError) (g : A → Result D BoardError) → Agrees Same a b → ((x : A) → IfAccepted Q (f x) (g x)) → IfAccepted Q (a >>= f) (b >>= g)
leads_same Q (Ok x) (Ok y) f g h k = subst (λ (z : _). IfAccepted Q (f x) (g z)) (sym h) (k x)
leads_same Q (Ok x) (Err e) f g h k = absurd h
leads_same Q (Err e) b f g h k = tt

pub needed_same : {A : Type 0} (d e : BoardError) (o p : Option A) → p ≡ o → Agrees Same (needed d o) (needed e p)
needed_same d e None p h = tt
needed_same d e (Some x) p h = subst (λ (z : _). Agrees Same (let r : Result _ BoardError = Ok x in r) (needed e z)) (sym h) refl

-- ---- elements of lists whose parts are equal up to translation

pub parts_are : (t : Tree) → parts t ≡ trees (forest_in t)
parts_are (leaf s q c) = refl
parts_are (branch s inside) = refl

pub element_in : (d : Option Shift) (word : List ℕ) (t u : Tree) → TranslatedParts d t u → FoundTranslated d (has_head word) (element word t) (element word u)
unfolding element
element_in d word (leaf s q c) (leaf r p e) h = tt
element_in d word (leaf s q c) (branch r j) h = find_translated d (has_head word) (λ t u k. heads_translated d t u word k) none j h
element_in d word (branch s i) (leaf r p e) h = find_translated d (has_head word) (λ t u k. heads_translated d t u word k) i none h
element_in d word (branch s i) (branch r j) h = find_translated d (has_head word) (λ t u k. heads_translated d t u word k) i j h

-- the element of an element, where both may be missing
pub inner_found : (d : Option Shift) (word inner : List ℕ) (o p : Option Tree) → is_place_word word ≡ false → FoundTranslated d (has_head word) o p
    → FoundTranslated d (has_head inner) (option_and_then (element inner) o) (option_and_then (element inner) p)
inner_found d word inner None None plain h = tt
inner_found d word inner None (Some u) plain h = absurd h
inner_found d word inner (Some t) None plain h = absurd h
inner_found d word inner (Some t) (Some u) plain h = element_in d inner t u (inside_by_head d t u word h.0 h.1 plain)
