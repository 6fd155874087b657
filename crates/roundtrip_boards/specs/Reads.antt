-- The units that a board's text gives, one entry for each, in order.
use Rattle.std.specs.Prelude.{◌≡◌, ◌⊎◌, List, [], ◌∷◌, None, Some, Ok}
use Rattle.sexpr_read.specs.Tree.{Tree}
use Rattle.one_item.specs.declared.item.Item.{Item}
use Rattle.pcb_read.specs.declared.sorts.Sort.{Sort}
use Rattle.pcb_read.specs.Sorts.{sort_of}
use Rattle.pcb_read.specs.ItemsOf.{SaysItems}
use Rattle.pcb_read.specs.BoardOf.{Reading, with_items, SaysPart}
use Rattle.roundtrip_boards.specs.Ledger.{Entry}

-- items take an entry, and none take none
abbrev pub Takes : List Item → List Entry → (List Entry → Type 0) → Type 0
Takes [] es Rest = Rest es
Takes (i ∷ items) [] Rest = ⊥
Takes (i ∷ items) (e ∷ es) Rest = (e.read ≡ i ∷ items) × Rest es

pub record IsUnit (a next : Reading) (t : Tree) (items : List Item) : Type 0 where
  pub sort : Sort
  pub is_sort : sort_of t ≡ Some sort
  pub says : SaysItems a.board a.board.next_unit t sort (Ok items)
  pub after : next ≡ record a { board = with_items a.board items }

abbrev pub TextReads : Reading → List Tree → Reading → List Entry → Type 0
TextReads a [] z es = (z ≡ a) × (es ≡ [])
TextReads a (t ∷ ts) z es =
    ((next : Reading) × (sort_of t ≡ None) × SaysPart a t (Ok next) × (next.board.next_unit ≡ a.board.next_unit) × TextReads next ts z es)
    ⊎ ((next : Reading) × (items : List Item) × IsUnit a next t items × SaysPart a t (Ok next) × Takes items es (λ rest. TextReads next ts z rest))
