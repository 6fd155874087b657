-- The cells of a forest give the forest back, and so do the cells of each tree in it.
use Rattle.std.proofs.Common.{◌≡◌, ℕ, zero, suc, ◌+◌, ◌-◌, true, false, List, [], ◌∷◌, ◌++◌, length, refl, sym, ◌∙◌, ap, arith, length-append, append_assoc, append-nil}
use Rattle.std.specs.Prelude.{slice_range}
use Rattle.sexpr_read.specs.declared.arena.TreeKind.{TreeKind}
use Rattle.sexpr_read.specs.declared.arena.TreeKind.TheVariants.{Word, String, List as Nested}
use Rattle.sexpr_read.specs.declared.arena.Cell.{Cell}
use Rattle.sexpr_read.specs.Tree.{Forest, none, atom, list}
use Rattle.sexpr_read.specs.ForestCells.{cells_of, kind_at, prefix, back, grown, forest_of}

-- one forest before another
abbrev pub join : Forest → Forest → Forest
join none g = g
join (atom s q c others) g = atom s q c (join others g)
join (list s inside others) g = list s inside (join others g)

pub join-none : (f : Forest) → join f none ≡ f
join-none none = refl
join-none (atom s q c others) = ap (λ x. atom s q c x) (join-none others)
join-none (list s inside others) = ap (λ x. list s inside x) (join-none others)

pub cells_of-join : (f g : Forest) → cells_of (join f g) ≡ cells_of f ++ cells_of g
cells_of-join none g = refl
cells_of-join (atom s q c others) g = ap (λ x. record { at = s.at; end = s.end; inside = 0 } ∷ x) (cells_of-join others g)
cells_of-join (list s inside others) g =
    ap (λ x. record { at = s.at; end = s.end; inside = length (cells_of inside) } ∷ x)
    (ap (λ x. cells_of inside ++ x) (cells_of-join others g) ∙ sym (append_assoc (cells_of inside) (cells_of others) (cells_of g)))

-- the atoms of the forest are parts of the text, and each tree is of the kind that the text says
abbrev pub IsOfText : List ℕ → Forest → Type 0
IsOfText text none = Unit {0}
IsOfText text (atom s false c others) = (kind_at text s.at ≡ Word) × (c ≡ slice_range text s.at s.end) × IsOfText text others
IsOfText text (atom s true c others) = (kind_at text s.at ≡ String) × (c ≡ slice_range text (s.at + 1) (s.end - 1)) × IsOfText text others
IsOfText text (list s inside others) = (kind_at text s.at ≡ Nested) × IsOfText text inside × IsOfText text others

pub of_text-prefix : (text : List ℕ) (k : ℕ) (f : Forest) → IsOfText text f → IsOfText text (prefix k f)
unfolding prefix
of_text-prefix text zero f h = tt
of_text-prefix text (suc k) none h = tt
of_text-prefix text (suc k) (atom s false c others) h = (h.0, h.1, of_text-prefix text k others h.2)
of_text-prefix text (suc k) (atom s true c others) h = (h.0, h.1, of_text-prefix text k others h.2)
of_text-prefix text (suc k) (list s inside others) h = (h.0, h.1, of_text-prefix text (k - length (cells_of inside)) others h.2)

pub of_text-back : (text : List ℕ) (k : ℕ) (f : Forest) → IsOfText text f → IsOfText text (back k f)
unfolding back
of_text-back text zero f h = h
of_text-back text (suc k) none h = tt
of_text-back text (suc k) (atom s false c others) h = of_text-back text k others h.2
of_text-back text (suc k) (atom s true c others) h = of_text-back text k others h.2
of_text-back text (suc k) (list s inside others) h = of_text-back text (k - length (cells_of inside)) others h.2

of_text-grown : (text : List ℕ) (k : TreeKind) (c : Cell) (f : Forest) → kind_at text c.at ≡ k → IsOfText text f → IsOfText text (grown text k c f)
of_text-grown text Word c f e h = (e, refl, h)
of_text-grown text String c f e h = (e, refl, h)
of_text-grown text Nested c f e h = (e, of_text-prefix text c.inside f h, of_text-back text c.inside f h)

pub of_text-forest_of : (text : List ℕ) (cells : List Cell) → IsOfText text (forest_of text cells)
unfolding forest_of
of_text-forest_of text [] = tt
of_text-forest_of text (c ∷ cells) = of_text-grown text (kind_at text c.at) c (forest_of text cells) refl (of_text-forest_of text cells)

-- the rest of a list's cells, behind those of its first list
rest_length : (a b n : ℕ) → n ≡ a + b → n - a ≡ b
rest_length a b n e = omega arith

prefix-join : (f g : Forest) → prefix (length (cells_of f)) (join f g) ≡ f
unfolding prefix
prefix-join none g = refl
prefix-join (atom s q c others) g = ap (λ x. atom s q c x) (prefix-join others g)
prefix-join (list s inside others) g =
    let n : length (cells_of inside ++ cells_of others) - length (cells_of inside) ≡ length (cells_of others) =
    rest_length _ _ _ (length-append (cells_of inside) (cells_of others)) in
    ap (λ x. list s inside x) (ap (λ k. prefix k (join others g)) n ∙ prefix-join others g)

back-join : (f g : Forest) → back (length (cells_of f)) (join f g) ≡ g
unfolding back
back-join none g = refl
back-join (atom s q c others) g = back-join others g
back-join (list s inside others) g =
    let n : length (cells_of inside ++ cells_of others) - length (cells_of inside) ≡ length (cells_of others) =
    rest_length _ _ _ (length-append (cells_of inside) (cells_of others)) in
    ap (λ k. back k (join others g)) n ∙ back-join others g

pub forest_of-cells_of-append : (text : List ℕ) (f : Forest) (cells : List Cell) → IsOfText text f
    → forest_of text (cells_of f ++ cells) ≡ join f (forest_of text cells)
unfolding forest_of
forest_of-cells_of-append text none cells h = refl
forest_of-cells_of-append text (atom s false c others) cells h =
    rw h.0 (ap (λ x. atom s false (slice_range text s.at s.end) x) (forest_of-cells_of-append text others cells h.2)
    ∙ ap (λ x. atom s false x (join others (forest_of text cells))) (sym h.1))
forest_of-cells_of-append text (atom s true c others) cells h =
    rw h.0 (ap (λ x. atom s true (slice_range text (s.at + 1) (s.end - 1)) x) (forest_of-cells_of-append text others cells h.2)
    ∙ ap (λ x. atom s true x (join others (forest_of text cells))) (sym h.1))
forest_of-cells_of-append text (list s inside others) cells h =
    let split : forest_of text ((cells_of inside ++ cells_of others) ++ cells) ≡ join inside (join others (forest_of text cells)) =
    ap (forest_of text) (append_assoc (cells_of inside) (cells_of others) cells)
    ∙ forest_of-cells_of-append text inside (cells_of others ++ cells) h.1
    ∙ ap (join inside) (forest_of-cells_of-append text others cells h.2) in
    rw (h.0, split) (ap (λ x. list s x (back (length (cells_of inside)) (join inside (join others (forest_of text cells))))) (prefix-join inside (join others (forest_of text cells)))
    ∙ ap (λ x. list s inside x) (back-join inside (join others (forest_of text cells))))

pub forest_of-cells_of : (text : List ℕ) (f : Forest) → IsOfText text f → forest_of text (cells_of f) ≡ f
unfolding forest_of
forest_of-cells_of text f h =
    ap (forest_of text) (sym (append-nil (cells_of f))) ∙ forest_of-cells_of-append text f [] h ∙ join-none f
