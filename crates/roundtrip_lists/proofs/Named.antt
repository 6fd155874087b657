-- Layers that are named in lists equal up to translation are the same.
use Rattle.std.proofs.Common.{◌∙◌, refl, sym, ap, subst, Bool, true, false, cond, List, [], ◌∷◌, ◌++◌, codes, Option, Result, Ok}
use Rattle.sexpr_read.specs.declared.place.Span.{Span}
use Rattle.sexpr_read.specs.Tree.{Forest, none, atom, list, Tree, leaf, branch, trees, parts}
use Rattle.board_errors.specs.declared.errors.BoardError.{BoardError}
use Rattle.copper_layers.specs.declared.set.LayerSet.{LayerSet}
use Rattle.list_read.specs.FirstRefusals.{◌>>=◌}
use Rattle.part_read.specs.LayersWhere.{layers_of_any}
use Rattle.part_read.specs.BoardLayers.{is_all_copper, is_outer, outer_of, layer_set, layer_in, layers_named, each_set, named}
use Rattle.roundtrip_lists.specs.Translated.{Shift, Translated}
use Rattle.roundtrip_lists.specs.Agreeing.{Agrees, Same, SameAtom, TranslatedParts, forest_in}
use Rattle.roundtrip_lists.proofs.Elements.{agrees_bind}
use Rattle.roundtrip_lists.proofs.Numbers.{layer_in_translated}
use Rattle.roundtrip_lists.proofs.Graphics.{text_same}
use Rattle.roundtrip_lists.proofs.Steps.{parts_are}

-- ---- layers that are named

pub named_atom : (copper : LayerSet) (t u : Tree) → SameAtom t u → Agrees Same (named copper t) (named copper u)
unfolding named
named_atom copper (branch s i) u h = absurd h
named_atom copper (leaf s q c) (branch r j) h = absurd h
named_atom copper (leaf s q c) (leaf r p e) h =
    subst (λ (b : Bool). Agrees Same (by_tests (is_all_copper one) (is_outer one) one) (by_tests b (is_outer two) two)) (sym (text_same one two (codes "*.Cu") h))
    (subst (λ (b : Bool). Agrees Same (by_tests (is_all_copper one) (is_outer one) one) (by_tests (is_all_copper one) b two)) (sym (text_same one two (codes "F&B.Cu") h)) (by_both (is_all_copper one) (is_outer one)))
  where
    one : Tree
    one = leaf s q c

    two : Tree
    two = leaf r p e

    by_tests : Bool → Bool → Tree → Result (List LayerSet) BoardError
    by_tests all outer t = cond all (Ok (copper ∷ [])) (cond outer (Ok (outer_of copper)) (layer_in copper t >>= λ layer. Ok (layer_set layer)))

    by_both : (a b : Bool) → Agrees Same (by_tests a b one) (by_tests a b two)
    by_both true b = refl
    by_both false true = refl
    by_both false false = agrees_bind Same Same (layer_in copper one) (layer_in copper two) _ _ (layer_in_translated copper one two h) (λ v w k. ap layer_set k)

named_list : (copper : LayerSet) (s r : Span) (i j : Forest) → Agrees Same (named copper (branch s i)) (named copper (branch r j))
unfolding named
named_list copper s r i j = refl

each_translated : (d : Option Shift) (copper : LayerSet) (f g : Forest) → Translated d f g → Agrees Same (each_set (named copper) (trees f)) (each_set (named copper) (trees g))
each_translated d copper none none h = refl
each_translated d copper none (atom t r e rest) h = absurd h
each_translated d copper none (list t within rest) h = absurd h
each_translated d copper (atom s q c others) none h = absurd h
each_translated d copper (atom s q c others) (list t within rest) h = absurd h
each_translated d copper (list s inside others) none h = absurd h
each_translated d copper (list s inside others) (atom t r e rest) h = absurd h
each_translated d copper (atom s q c others) (atom t r e rest) h =
    agrees_bind Same Same (named copper (leaf s q c)) (named copper (leaf t r e)) _ _ (named_atom copper (leaf s q c) (leaf t r e) (h.0, h.1))
    (λ x y k. agrees_bind Same Same (each_set (named copper) (trees others)) (each_set (named copper) (trees rest)) _ _ (each_translated d copper others rest h.2)
    (λ z w l. ap (λ (m : List LayerSet). m ++ w) k ∙ ap (λ (m : List LayerSet). x ++ m) l))
each_translated d copper (list s inside others) (list t within rest) h =
    agrees_bind Same Same (named copper (branch s inside)) (named copper (branch t within)) _ _ (named_list copper s t inside within)
    (λ x y k. agrees_bind Same Same (each_set (named copper) (trees others)) (each_set (named copper) (trees rest)) _ _ (each_translated d copper others rest h.1)
    (λ z w l. ap (λ (m : List LayerSet). m ++ w) k ∙ ap (λ (m : List LayerSet). x ++ m) l))

pub named_translated : (d : Option Shift) (copper : LayerSet) (t u : Tree) → TranslatedParts d t u → Agrees Same (layers_named copper t) (layers_named copper u)
unfolding layers_named
named_translated d copper t u h =
    agrees_bind Same Same (each_set (named copper) (parts t)) (each_set (named copper) (parts u)) _ _
    (subst (λ (l : List Tree). Agrees Same (each_set (named copper) l) (each_set (named copper) (parts u))) (sym (parts_are t))
    (subst (λ (l : List Tree). Agrees Same (each_set (named copper) (trees (forest_in t))) (each_set (named copper) l)) (sym (parts_are u)) (each_translated d copper (forest_in t) (forest_in u) h)))
    (λ x y k. ap layers_of_any k)
