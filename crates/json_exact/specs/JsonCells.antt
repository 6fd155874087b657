-- The JSON value that the cells of a text stand for. They stand in the order in which their values begin, and a cell
-- counts the cells of what its brackets hold; in an object the cell of each name stands before that of its value.
use Rattle.std.specs.Prelude.{ℕ, zero, suc, ◌+◌, ◌-◌, List, [], ◌∷◌, length, take, drop, slice_range, Some, None}
use Rattle.json_exact.specs.Json.{null_word, true_word, false_word, word, number, string, Bracket, square, curly, Name, Json as Value', leaf, nest, Parts, no_parts, part}
use Rattle.json_exact.specs.Characters.{decoded}
use Rattle.json_exact.specs.declared.cells.Kind.{Kind}
use Rattle.json_exact.specs.declared.cells.Kind.TheVariants.{Null, True, False, Number, String, List as AList, Object}
use Rattle.json_exact.specs.declared.cells.Cell.{Cell}

-- the bytes between the quotes
abbrev pub characters_of : List ℕ → Cell → List ℕ
characters_of text c = decoded (slice_range text (c.at + 1) (c.end - 1))

-- the value of a cell, where `inside` is what its brackets would hold
abbrev pub node_of : Kind → List ℕ → Cell → (Bracket → Parts) → Value'
node_of Null text c inside = leaf (word null_word) c.at c.end
node_of True text c inside = leaf (word true_word) c.at c.end
node_of False text c inside = leaf (word false_word) c.at c.end
node_of Number text c inside = leaf (number (slice_range text c.at c.end)) c.at c.end
node_of String text c inside = leaf (string (characters_of text c)) c.at c.end
node_of AList text c inside = nest square c.at c.end (inside square)
node_of Object text c inside = nest curly c.at c.end (inside curly)

abbrev pub node : List ℕ → Cell → (Bracket → Parts) → Value'
node text c inside = node_of c.kind text c inside

abbrev pub name_of : List ℕ → Cell → Name
name_of text c = record { from = c.at; to = c.end; text = characters_of text c }

-- The parts that the cells stand for, of which there are at most as many as the number says.
unfoldable pub parts_of : ℕ → List ℕ → Bracket → List Cell → Parts
parts_of zero text b cells = no_parts
parts_of (suc n) text b [] = no_parts
parts_of (suc n) text square (c ∷ cells) =
    part None (node text c (λ k. parts_of n text k (take c.inside cells))) (parts_of n text square (drop c.inside cells))
parts_of (suc n) text curly (name ∷ []) = no_parts
parts_of (suc n) text curly (name ∷ c ∷ cells) =
    part (Some (name_of text name)) (node text c (λ k. parts_of n text k (take c.inside cells))) (parts_of n text curly (drop c.inside cells))

abbrev pub all_parts : List ℕ → Bracket → List Cell → Parts
all_parts text b cells = parts_of (length cells) text b cells

-- the value of the first cell
abbrev pub first_value : List ℕ → List Cell → Value'
first_value text [] = leaf (word null_word) 0 0
first_value text (c ∷ cells) = node text c (λ b. all_parts text b (take c.inside cells))

-- ---- the first cell

abbrev pub first_kind : List Cell → Kind
first_kind [] = Null
first_kind (c ∷ cells) = c.kind

abbrev pub first_inside : List Cell → List Cell
first_inside [] = []
first_inside (c ∷ cells) = take c.inside cells

-- the first cell with those within it, and the cells behind them
abbrev pub own_cells : List Cell → List Cell
own_cells [] = []
own_cells (c ∷ cells) = c ∷ take c.inside cells

abbrev pub other_cells : List Cell → List Cell
other_cells [] = []
other_cells (c ∷ cells) = drop c.inside cells
