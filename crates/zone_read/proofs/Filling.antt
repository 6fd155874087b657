-- One fill more among those of a zone.
use Rattle.std.proofs.Common.{◌≡◌, ◌∙◌, refl, ap, sym, ℕ, suc, List, [], ◌∷◌, ◌++◌, length, append_assoc, length-append, arith, Some, Result, Ok, Err, true, codes}
use Rattle.sexpr_read.specs.Tree.{Tree}
use Rattle.board_errors.specs.declared.errors.BoardError.{BoardError}
use Rattle.one_item.specs.declared.item.Item.{Item}
use Rattle.board_items.specs.Boards.{PlainBoard}
use Rattle.list_read.specs.FirstRefusals.{◌>>=◌}
use Rattle.list_read.specs.ListHeads.{has_head}
use Rattle.part_read.specs.Lists.{before}
use Rattle.geo_seg.specs.declared.shapes.Shape.{Shape}
use Rattle.copper_layers.specs.declared.set.LayerSet.{LayerSet}
use Rattle.one_item.specs.declared.item.Bans.{Bans}
use Rattle.one_item.specs.declared.item.What.TheVariants.{Area}
use Rattle.part_read.specs.declared.numbers.RawPoint.{RawPoint}
use Rattle.part_read.specs.ElementResults.{name_in}
use Rattle.part_read.specs.Figures.{first_of}
use Rattle.part_read.specs.PlainItems.{plain_item}
use Rattle.zone_read.specs.ZoneOf.{fill_layer, fill_in_capacity, fills_after, bans_in, polygon_of, area_in_capacity, rule_area}

before_one : (old : List Item) (fill : Item) (r : Result (List Item) BoardError) → before old (r >>= λ fills. Ok (fill ∷ fills)) ≡ before (old ++ fill ∷ []) r
before_one old fill (Ok fills) = ap (λ (items : List Item). Ok items) (sym (append_assoc old (fill ∷ []) fills))
before_one old fill (Err e) = refl

one_more : (old : List Item) (fill : Item) → suc (length old) ≡ length (old ++ fill ∷ [])
one_more old fill = let h = length-append old (fill ∷ []) in omega (arith, h)

module _ (board : PlainBoard) (unit net : ℕ) (tree t : Tree) (rest : List Tree) (old : List Item) (head : has_head (codes "filled_polygon") t ≡ true) where
  pub filled : (layer : ℕ) (fill : Item) → fill_layer board.copper t ≡ Ok (Some layer) → fill_in_capacity (length old) board unit net tree t layer ≡ Ok fill
      → before old (fills_after (length old) board unit net tree (t ∷ rest)) ≡ before (old ++ fill ∷ []) (fills_after (length (old ++ fill ∷ [])) board unit net tree rest)
  filled layer fill on made =
      rw (head, on, made)
      (before_one old fill (fills_after (suc (length old)) board unit net tree rest)
      ∙ ap (λ (n : ℕ). before (old ++ fill ∷ []) (fills_after n board unit net tree rest)) (one_more old fill))

  pub refused : (layer : ℕ) (e : BoardError) → fill_layer board.copper t ≡ Ok (Some layer) → fill_in_capacity (length old) board unit net tree t layer ≡ Err e
      → fills_after (length old) board unit net tree (t ∷ rest) ≡ Err e
  refused layer e on made = rw (head, on, made) refl

-- the rule area of what was read
pub area_is : (board : PlainBoard) (unit : ℕ) (tree : Tree) (net : ℕ) (layers : LayerSet) (title : List ℕ) (keepout : Tree) (bans : Bans) (corners : List RawPoint) (shape : Shape) (item : Item)
    → bans_in keepout ≡ Ok bans → polygon_of tree ≡ Ok corners → area_in_capacity board unit tree corners ≡ Ok shape
    → item ≡ plain_item (name_in tree) unit net (first_of corners) [] (Area title bans (record { layers = layers; shape = shape })) refl
    → rule_area board unit tree net layers title keepout ≡ Ok item
unfolding rule_area
area_is board unit tree net layers title keepout bans corners shape item h k m e = rw (h, k, m) (ap (λ (i : Item). Ok i) (sym e))
