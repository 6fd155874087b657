-- The header of an edited board's root is accepted, because its first list, the version, stays.
use Rattle.std.proofs.Common.{◌≡◌, ◌∙◌, refl, sym, ap, subst, ℕ, Bool, true, false, ◌||◌, List, ◌∷◌, codes, find, Option, None, Some, Result, Ok, Err}
use Rattle.std.specs.Prelude.{⊤}
use Rattle.sexpr_read.specs.declared.place.Span.{Span}
use Rattle.sexpr_read.specs.Tree.{Forest, none, atom, list, Tree, leaf, branch, trees, is_list}
use Rattle.board_errors.specs.declared.errors.BoardError.{BoardError}
use Rattle.board_errors.specs.declared.errors.BoardError.TheVariants.{NotABoard, Version, Missing}
use Rattle.list_read.specs.FirstRefusals.{◌>>=◌, needed, check}
use Rattle.list_read.specs.ListHeads.{place, is_value, is_text, has_head}
use Rattle.part_read.specs.ElementResults.{atom_of}
use Rattle.roundtrip_text.specs.Pieces.{SameTrees}
use Rattle.roundtrip_text.specs.RewrittenText.{insides}
use Rattle.pcb_read.specs.BoardOf.{is_version, version_in, header_in}
use Rattle.roundtrip_lists.specs.Translated.{Translated}
use Rattle.roundtrip_lists.specs.Agreeing.{Agrees, SameAtom}
use Rattle.roundtrip_lists.proofs.Elements.{agrees_bind, agrees_both, heads_translated, same_value, atom_translated}
use Rattle.roundtrip_lists.proofs.Moving.{translated_itself, translated_same}

abbrev Any : Unit {0} → Unit {0} → Type 0
Any x y = ⊤

agrees_test : (a b : Bool) (d e : BoardError) → b ≡ a → Agrees Any (check d a) (check e b)
agrees_test true true d e same = tt
agrees_test true false d e same = absurd cc
agrees_test false b d e same = tt

-- ---- versions

abbrev version_at : BoardError → Tree → Result (Unit {0}) BoardError
version_at e tree = check e (has_head (codes "version") tree) >>= λ named. (atom_of 1 tree >>= λ atom. check (Version (place atom)) (is_version atom))

version_same : (t u : Tree) → SameAtom t u → is_version u ≡ is_version t
version_same t u h = ap (λ (v : Option (List ℕ)). is_value v (codes "20221018") || is_value v (codes "20240108")) (sym (same_value t u h))

version_translated : (d e : BoardError) (s r : Span) (i j : Forest) → Translated None i j → Agrees Any (version_at d (branch s i)) (version_at e (branch r j))
version_translated d e s r i j h =
    agrees_bind Any Any (check d (has_head (codes "version") (branch s i))) (check e (has_head (codes "version") (branch r j))) _ _
    (agrees_test (has_head (codes "version") (branch s i)) (has_head (codes "version") (branch r j)) d e (sym (heads_translated None (branch s i) (branch r j) (codes "version") h)))
    (λ x y k. agrees_bind SameAtom Any (atom_of 1 (branch s i)) (atom_of 1 (branch r j)) _ _ (agrees_both SameAtom (atom_of 1 (branch s i)) (atom_of 1 (branch r j)) (atom_translated None 1 (branch s i) (branch r j) h))
    (λ a b m. agrees_test (is_version a) (is_version b) (Version (place a)) (Version (place b)) (version_same a b m)))

-- ---- the first list

abbrev first_list : Forest → Option Tree
first_list f = find is_list (trees f)

-- the first of the lists stands first in the forest
list_there : (g : Forest) (i : Forest) (others : List Forest) → insides g ≡ i ∷ others → (r : Span) × (first_list g ≡ Some (branch r i))
list_there none i others h = absurd cc
list_there (atom s q c back) i others h = list_there back i others h
list_there (list s inside back) i others h = let same : inside ≡ i = cc in (s, ap (λ (f : Forest). let o : Option Tree = Some (branch s f) in o) same)

list_same : (f g : Forest) → SameTrees f g → (r : Span) (i : Forest) → first_list f ≡ Some (branch r i) → (p : Span) × (j : Forest) × (first_list g ≡ Some (branch p j)) × SameTrees i j
list_same none none h r i e = absurd cc
list_same none (atom t p c rest) h r i e = absurd h
list_same none (list t within rest) h r i e = absurd h
list_same (atom s q c back) none h r i e = absurd h
list_same (atom s q c back) (atom t p x rest) h r i e = list_same back rest h.2 r i e
list_same (atom s q c back) (list t within rest) h r i e = absurd h
list_same (list s inside back) none h r i e = absurd h
list_same (list s inside back) (atom t p c rest) h r i e = absurd h
list_same (list s inside back) (list t within rest) h r i e = let same : inside ≡ i = cc in (t, within, refl, subst (λ (f : Forest). SameTrees f within) same h.0)

-- the head is the same word
head_same : (s p h t : Span) (q : Bool) (c word : List ℕ) (f forest : Forest) → SameTrees (atom h q c f) forest → has_head word (branch p forest) ≡ has_head word (branch s (atom t q c f))
unfolding has_head
head_same s p h t q c word f none same = absurd same
head_same s p h t q c word f (list v within rest) same = absurd same
head_same s p h t q c word f (atom v x e rest) same = ap (λ (b : Bool). is_text (leaf v b e) word) (sym same.0) ∙ ap (λ (z : List ℕ). is_text (leaf v q z) word) (sym same.1) ∙ by_quotes q
  where
    by_quotes : (b : Bool) → is_text (leaf v b c) word ≡ is_text (leaf t b c) word
    by_quotes true = refl
    by_quotes false = refl

-- what follows the head plays no part
same_first : (s t : Span) (q : Bool) (c word : List ℕ) (f g : Forest) → has_head word (branch s (atom t q c f)) ≡ has_head word (branch s (atom t q c g))
unfolding has_head
same_first s t q c word f g = refl

checked : (e : BoardError) (b : Bool) (f : Unit {0} → Result (Unit {0}) BoardError) (u : Unit {0}) → (check e b >>= f) ≡ Ok u → (b ≡ true) × (f tt ≡ Ok u)
checked e true f u h = (refl, h)
checked e false f u h = absurd cc

-- a root with the same head, of which the first list has the same contents, has an accepted header too
pub header_again : (s p h t r : Span) (q : Bool) (c : List ℕ) (f kept forest i : Forest) (others : List Forest) (u : Unit {0}) → header_in (branch s (atom t q c f)) ≡ Ok u → first_list f ≡ Some (branch r i)
    → SameTrees (atom h q c kept) forest → insides kept ≡ i ∷ others → header_in (branch p forest) ≡ Ok tt
unfolding header_in version_in
header_again s p h t r q c f kept forest i others u ok first same lists =
    let was = checked (NotABoard (place (branch s (atom t q c f)))) (has_head (codes "kicad_pcb") (branch s (atom t q c f))) _ u ok in
    let named : has_head (codes "kicad_pcb") (branch p forest) ≡ true = renamed same ∙ was.0 in
    let there = list_there kept i others lists in
    let now = list_same (atom h q c kept) forest same there.0 i there.1 in
    let version : version_at (Missing (place (branch s (atom t q c f)))) (branch r i) ≡ Ok u =
    subst (λ (o : Option Tree). (needed (Missing (place (branch s (atom t q c f)))) o >>= version_at (Missing (place (branch s (atom t q c f))))) ≡ Ok u) first was.1 in
    let translated : Translated None i now.1 = translated_same None i i now.1 (translated_itself i) now.3 in
    let again : version_at (Missing (place (branch p forest))) (branch now.0 now.1) ≡ Ok tt =
    by_agrees (version_at (Missing (place (branch s (atom t q c f)))) (branch r i)) (version_at (Missing (place (branch p forest))) (branch now.0 now.1)) version
    (version_translated (Missing (place (branch s (atom t q c f)))) (Missing (place (branch p forest))) r now.0 i now.1 translated) in
    ap (λ (b : Bool). check (NotABoard (place (branch p forest))) b >>= λ x. (needed (Missing (place (branch p forest))) (first_list forest) >>= version_at (Missing (place (branch p forest))))) named
    ∙ ap (λ (o : Option Tree). needed (Missing (place (branch p forest))) o >>= version_at (Missing (place (branch p forest)))) now.2
    ∙ again
  where
    by_agrees : (a b : Result (Unit {0}) BoardError) → a ≡ Ok u → Agrees Any a b → b ≡ Ok tt
    by_agrees (Ok x) (Ok y) e k = refl
    by_agrees (Ok x) (Err d) e k = absurd k
    by_agrees (Err d) b e k = absurd cc

    renamed : SameTrees (atom h q c kept) forest → has_head (codes "kicad_pcb") (branch p forest) ≡ has_head (codes "kicad_pcb") (branch s (atom t q c f))
    renamed same = head_same s p h t q c (codes "kicad_pcb") kept forest same ∙ same_first s t q c (codes "kicad_pcb") kept f
