-- The cells of a forest are those of its first tree and those of the others.
use Rattle.std.proofs.Common.{◌≡◌, ℕ, zero, suc, ◌+◌, ◌-◌, ◌≤◌, List, [], ◌∷◌, ◌++◌, length, true, false, take, drop, refl, sym, ◌∙◌, ap, arith, length-append}
use Rattle.std.specs.Prelude.{slice_range}
use Rattle.std.proofs.Math.Seq.{take-append_seam, drop-append_seam}
use Rattle.sexpr_read.specs.declared.arena.TreeKind.{TreeKind}
use Rattle.sexpr_read.specs.declared.arena.TreeKind.TheVariants.{Word, String, List as Nested}
use Rattle.sexpr_read.specs.declared.arena.Cell.{Cell}
use Rattle.sexpr_read.specs.Tree.{Forest, none, atom, list, Tree, leaf, branch, trees}
use Rattle.sexpr_read.specs.ForestCells.{cells_of, kind_at, prefix, back, grown, forest_of, tree_at, ArePlaced}
use Rattle.sexpr_read.proofs.CellLemmas.{IsOfText, of_text-prefix, of_text-back, of_text-forest_of, forest_of-cells_of}

pub record Splits (text : List ℕ) (c : Cell) (cells : List Cell) : Type 0 where
  pub fits : c.inside ≤ length cells
  pub inner : cells_of (forest_of text (take c.inside cells)) ≡ take c.inside cells
  pub outer : cells_of (forest_of text (drop c.inside cells)) ≡ drop c.inside cells
  pub given : trees (forest_of text (c ∷ cells))
      ≡ tree_at text (kind_at text c.at) (record { at = c.at; end = c.end }) (take c.inside cells) ∷ trees (forest_of text (drop c.inside cells))

-- an atom's cell has none inside
atom_splits : (text : List ℕ) (c d : Cell) (cells : List Cell) (t : Tree) → d.inside ≡ 0 → d ∷ cells_of (forest_of text cells) ≡ c ∷ cells
    → tree_at text (kind_at text c.at) (record { at = c.at; end = c.end }) [] ≡ t
    → trees (forest_of text (c ∷ cells)) ≡ t ∷ trees (forest_of text cells) → Splits text c cells
unfolding forest_of
atom_splits text c d cells t z e is whole =
    let same : d ≡ c = cc in
    let none_inside : c.inside ≡ 0 = ap (λ (x : Cell). x.inside) (sym same) ∙ z in
    let rest : cells_of (forest_of text cells) ≡ cells = cc in
    record {
      fits = omega arith;
      inner = rw none_inside refl;
      outer = rw none_inside rest;
      given = whole ∙ ap (λ x. x ∷ trees (forest_of text cells)) (sym is)
          ∙ ap (λ n. tree_at text (kind_at text c.at) (record { at = c.at; end = c.end }) (take n cells) ∷ trees (forest_of text (drop n cells)))
          (sym none_inside);
    }

-- a list's has those of its trees
list_splits : (text : List ℕ) (c : Cell) (cells : List Cell) (inside others : Forest) → IsOfText text inside → IsOfText text others
    → length (cells_of inside) ≡ c.inside → cells_of inside ++ cells_of others ≡ cells → kind_at text c.at ≡ Nested
    → trees (forest_of text (c ∷ cells)) ≡ branch (record { at = c.at; end = c.end }) inside ∷ trees others → Splits text c cells
list_splits text c cells inside others hi ho n e k whole =
    let first : take c.inside cells ≡ cells_of inside =
    rw (← e, ← n) (take-append_seam (cells_of inside) (cells_of others)) in
    let second : drop c.inside cells ≡ cells_of others =
    rw (← e, ← n) (drop-append_seam (cells_of inside) (cells_of others)) in
    let inner_forest : forest_of text (take c.inside cells) ≡ inside = ap (forest_of text) first ∙ forest_of-cells_of text inside hi in
    let outer_forest : forest_of text (drop c.inside cells) ≡ others = ap (forest_of text) second ∙ forest_of-cells_of text others ho in
    record {
      fits = omega (arith, length-append (cells_of inside) (cells_of others), ap length e);
      inner = ap cells_of inner_forest ∙ sym first;
      outer = ap cells_of outer_forest ∙ sym second;
      given = rw (k, inner_forest, outer_forest) whole;
    }

splits_by : (text : List ℕ) (c : Cell) (cells : List Cell) (k : TreeKind) → kind_at text c.at ≡ k
    → cells_of (grown text k c (forest_of text cells)) ≡ c ∷ cells → Splits text c cells
unfolding forest_of
splits_by text c cells Word k e =
    atom_splits text c (record { at = c.at; end = c.end; inside = 0 }) cells
    (leaf (record { at = c.at; end = c.end }) false (slice_range text c.at c.end)) refl e (rw k refl) (rw k refl)
splits_by text c cells String k e =
    atom_splits text c (record { at = c.at; end = c.end; inside = 0 }) cells
    (leaf (record { at = c.at; end = c.end }) true (slice_range text (c.at + 1) (c.end - 1))) refl e (rw k refl) (rw k refl)
splits_by text c cells Nested k e =
    let f : Forest = forest_of text cells in
    let d : Cell = record { at = c.at; end = c.end; inside = length (cells_of (prefix c.inside f)) } in
    let same : d ≡ c = cc in
    let rest : cells_of (prefix c.inside f) ++ cells_of (back c.inside f) ≡ cells = cc in
    list_splits text c cells (prefix c.inside f) (back c.inside f) (of_text-prefix text c.inside f (of_text-forest_of text cells))
    (of_text-back text c.inside f (of_text-forest_of text cells)) (ap (λ (x : Cell). x.inside) same) rest k (rw k refl)

pub splits : (text : List ℕ) (c : Cell) (cells : List Cell) → cells_of (forest_of text (c ∷ cells)) ≡ c ∷ cells → Splits text c cells
unfolding forest_of
splits text c cells e = splits_by text c cells (kind_at text c.at) refl e

pub placed-take : (text : List ℕ) (n : ℕ) (cells : List Cell) → ArePlaced text cells → ArePlaced text (take n cells)
placed-take text zero cells h = tt
placed-take text (suc n) [] h = tt
placed-take text (suc n) (c ∷ cells) h = (h.0, h.1, placed-take text n cells h.2)

pub placed-drop : (text : List ℕ) (n : ℕ) (cells : List Cell) → ArePlaced text cells → ArePlaced text (drop n cells)
placed-drop text zero cells h = h
placed-drop text (suc n) [] h = tt
placed-drop text (suc n) (c ∷ cells) h = placed-drop text n cells h.2

pub splits_at : (text : List ℕ) (all : List Cell) (c : Cell) (cells : List Cell) → all ≡ c ∷ cells → cells_of (forest_of text all) ≡ all
    → Splits text c cells
splits_at text all c cells e h = splits text c cells (rw e at h)

pub placed_at : (text : List ℕ) (all : List Cell) (c : Cell) (cells : List Cell) → all ≡ c ∷ cells → ArePlaced text all
    → ArePlaced text (c ∷ cells)
placed_at text all c cells e h = rw e at h

pub no_trees : (text : List ℕ) (cells : List Cell) → length cells ≡ 0 → trees (forest_of text cells) ≡ []
unfolding forest_of
no_trees text [] e = refl
no_trees text (c ∷ cells) e = absurd (omega (arith, e))

trees-cells_of : (f : Forest) → length (trees f) ≤ length (cells_of f)
trees-cells_of none = omega arith
trees-cells_of (atom s q c others) = omega (arith, trees-cells_of others)
trees-cells_of (list s inside others) = omega (arith, trees-cells_of others, length-append (cells_of inside) (cells_of others))

-- there are no more trees than cells
pub trees_fit : (text : List ℕ) (cells : List Cell) → cells_of (forest_of text cells) ≡ cells → length (trees (forest_of text cells)) ≤ length cells
trees_fit text cells h = omega (arith, trees-cells_of (forest_of text cells), ap length h)
