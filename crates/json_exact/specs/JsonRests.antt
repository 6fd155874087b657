-- What is left to be read at each point of a text: which rests complete it, and to which value.
-- This is what the reader keeps, and no caller needs it.
use Rattle.std.specs.Prelude.{◌≡◌, ◌≢◌, ℕ, suc, ◌+◌, ◌-◌, ◌<◌, ◌≤◌, ◌⊎◌, List, [], ◌∷◌, ◌++◌, length, take, slice_index, slice_range, Bool, true, false, Option, Some, None, Result, Ok, Err, slice_index_or, slice_set, ◌==◌}
use Rattle.json_exact.specs.Json.{Leaf, word, number, string, Word, null_word, true_word, false_word, Bracket, square, curly, Name, Json, leaf, nest, Parts, no_parts, part}
use Rattle.json_exact.specs.JsonNumbers.{is_digit}
use Rattle.json_exact.specs.Scans.{is_in_number, StopsWord, StopsNumber, CountsString, EndsString}
use Rattle.json_exact.specs.declared.reader.Reader.{Reader}
use Rattle.json_exact.specs.declared.reader.Next.{Next}
use Rattle.json_exact.specs.declared.reader.Next.TheVariants.{Value, First, After}
use Rattle.json_exact.specs.JsonText.{is_blank, letters, IsLeaf, Blanks, closing, Spells, SpellsLeaf, SpellsFirst, SpellsMore, SpelledWithin}
use Rattle.json_exact.specs.JsonRefusals.{depth_limit, CanGoOn}
use Rattle.json_exact.specs.declared.error.JsonError.{JsonError}
use Rattle.json_exact.specs.declared.error.JsonError.TheVariants.{TooDeep, OutOfMemory}
use Rattle.json_exact.specs.declared.cells.Kind.{Kind}
use Rattle.json_exact.specs.declared.cells.Kind.TheVariants.{Null, True, False, Number, String, List as AList, Object}
use Rattle.json_exact.specs.declared.cells.Cell.{Cell}

-- Open brackets: where they opened, the parts within them so far, the last one first, and the name
-- that was read for the next.
pub record Frame : Type 0 where
  pub kind : Bracket
  pub from : ℕ
  pub done : List (Option Name × Json)
  pub name : Option Name

-- the parts of a list, the last one first, before others
abbrev pub onto : List (Option Name × Json) → Parts → Parts
onto [] ps = ps
onto (d ∷ ds) ps = onto ds (part d.0 d.1 ps)

abbrev pub levels_left : ℕ → List Frame → ℕ
levels_left levels fs = levels - length fs

-- the brackets of the frame, closed behind the parts
abbrev pub closed : Frame → ℕ → Parts → Json
closed f to ps = nest f.kind f.from to (onto f.done ps)

-- A rest completes the open brackets around a whole value w to the value v of a whole text.
abbrev pub Behind : ℕ → ℕ → List Frame → Json → List ℕ → Json → Type 0
Behind levels n [] w rest v = Blanks rest [] × (v ≡ w)
Behind levels n (f ∷ fs) w rest v =
    (ps : Parts) × (to : ℕ) × (s : List ℕ) × SpellsMore n (levels_left levels (f ∷ fs)) f.kind ps to rest s
    × Behind levels n fs (closed f to (part f.name w ps)) s v

-- the same, where a value comes first
abbrev pub Before : ℕ → ℕ → List Frame → List ℕ → Json → Type 0
Before levels n fs rest v =
    (w : Json) × (s t : List ℕ) × Blanks rest s × Spells n (levels_left levels fs) w s t × Behind levels n fs w t v

-- the same, behind an opening bracket
abbrev pub Opened : ℕ → ℕ → Frame → List Frame → List ℕ → Json → Type 0
Opened levels n f fs rest v =
    (ps : Parts) × (to : ℕ) × (s : List ℕ) × SpellsFirst n (levels_left levels (f ∷ fs)) f.kind ps to rest s
    × Behind levels n fs (closed f to ps) s v

-- the same, where a name comes first, and where the colon behind it does
abbrev pub BeforeName : ℕ → ℕ → Frame → List Frame → List ℕ → Json → Type 0
BeforeName levels n f fs rest v =
    (name : Name) × (s t u : List ℕ) × Blanks rest s × SpellsLeaf n (string name.text) name.from name.to s t
    × Blanks t (58 ∷ u) × Before levels n (record f { name = Some name } ∷ fs) u v

abbrev pub BeforeColon : ℕ → ℕ → List Frame → List ℕ → Json → Type 0
BeforeColon levels n fs rest v = (u : List ℕ) × Blanks rest (58 ∷ u) × Before levels n fs u v

-- Which rests are looked at: any; behind a number only those that do not write it on; behind an opening
-- bracket, once no closing one was found, only those that do not close it.
pub data Limit : Type 0 where
  any : Limit
  no_number : Limit
  no_closing : Bracket → Limit

abbrev pub Counts : Limit → List ℕ → Type 0
Counts any rest = Unit {0}
Counts no_number [] = Unit {0}
Counts no_number (b ∷ rest) = is_in_number b ≡ false
Counts (no_closing b) rest = (s : List ℕ) → Blanks rest (closing b ∷ s) → ⊥

-- The texts that begin as this one does up to `at` are those whose rest is one of `Rest`, with the same value.
pub record Agrees (text : List ℕ) (at : ℕ) (limit : Limit) (Rest : ℕ → ℕ → List ℕ → Json → Type 0) : Type 0 where
  pub in_text : at ≤ length text
  pub into : (more : ℕ) (rest : List ℕ) (v : Json) → Counts limit rest → SpelledWithin (depth_limit + more) (take at text ++ rest) v → Rest (depth_limit + more) (at + length rest) rest v
  pub back : (more : ℕ) (rest : List ℕ) (v : Json) → Counts limit rest → Rest (depth_limit + more) (at + length rest) rest v → SpelledWithin (depth_limit + more) (take at text ++ rest) v
  pub letters : (s : ℕ) → s < at → slice_index text s ≡ 92 → CanGoOn depth_limit (take s text ++ 120 ∷ [])
      → (j : ℕ) × (s < j) × (j ≤ at) × CanGoOn depth_limit (take j text ++ 120 ∷ [])

-- ---- the cells of a value, and of open brackets

abbrev pub kind_of : Leaf → Kind
kind_of (word null_word) = Null
kind_of (word true_word) = True
kind_of (word false_word) = False
kind_of (number digits) = Number
kind_of (string text) = String

abbrev pub kind_of_bracket : Bracket → Kind
kind_of_bracket square = AList
kind_of_bracket curly = Object

abbrev pub cell : Kind → ℕ → ℕ → ℕ → Cell
cell k from to inside = record { kind = k; at = from; end = to; inside = inside }

abbrev pub name_cells : Option Name → List Cell
name_cells None = []
name_cells (Some name) = cell String name.from name.to 0 ∷ []

abbrev mutual
  pub cells_of : Json → List Cell
  cells_of (leaf l from to) = cell (kind_of l) from to 0 ∷ []
  cells_of (nest b from to ps) = cell (kind_of_bracket b) from to (length (cells_in ps)) ∷ cells_in ps

  pub cells_in : Parts → List Cell
  cells_in no_parts = []
  cells_in (part name v ps) = name_cells name ++ (cells_of v ++ cells_in ps)

abbrev pub cells_done : List (Option Name × Json) → List Cell
cells_done [] = []
cells_done (d ∷ ds) = cells_done ds ++ (name_cells d.0 ++ cells_of d.1)

-- Until its bracket closes, a cell has as its end the place, among the cells, of the bracket around it.
abbrev mutual
  pub top_of : List Frame → ℕ
  top_of [] = 0
  top_of (f ∷ fs) = length (open_cells fs)

  pub open_cells : List Frame → List Cell
  open_cells [] = []
  open_cells (f ∷ fs) = open_cells fs ++ (cell (kind_of_bracket f.kind) f.from (top_of fs) 0 ∷ (cells_done f.done ++ name_cells f.name))

-- What the reader has at a place: the cells of the open brackets and then `tail`, and what is left to be read.
pub record Holds (text : List ℕ) (r : Reader) (limit : Limit) (fs : List Frame) (tail : List Cell) (Rest : ℕ → ℕ → List ℕ → Json → Type 0) : Type 0 where
  pub agrees : Agrees text r.at limit Rest
  pub laid : r.cells.items ≡ open_cells fs ++ tail
  pub top_is : r.top ≡ top_of fs
  pub depth_is : r.depth ≡ length fs
  pub shallow : length fs ≤ depth_limit
  pub few : length r.cells.items ≤ r.at

-- the next byte does not close brackets that are to hold a part
abbrev pub IsOpenFor : Limit → ℕ → Type 0
IsOpenFor any c = Unit {0}
IsOpenFor no_number c = ⊥
IsOpenFor (no_closing b) c = c ≢ closing b

-- a token stands at the place
pub record IsHere (text : List ℕ) (at : ℕ) (limit : Limit) : Type 0 where
  pub in_text : at < length text
  pub firm : is_blank (slice_index text at) ≡ false
  pub allowed : IsOpenFor limit (slice_index text at)

abbrev pub ReadsValue : List ℕ → Reader → Type 0
ReadsValue text r = (fs : List Frame) × Holds text r any fs [] (λ levels n. Before levels n fs)

abbrev pub ReadsValueHere : List ℕ → Reader → Type 0
ReadsValueHere text r = (fs : List Frame) × (limit : Limit) × Holds text r limit fs [] (λ levels n. Before levels n fs) × IsHere text r.at limit

abbrev pub ReadsName : List ℕ → Reader → Type 0
ReadsName text r =
    (from : ℕ) × (done : List (Option Name × Json)) × (fs : List Frame)
    × Holds text r any (record { kind = curly; from = from; done = done; name = None } ∷ fs) []
    (λ levels n. BeforeName levels n (record { kind = curly; from = from; done = done; name = None }) fs)

abbrev pub ReadsNameHere : List ℕ → Reader → Type 0
ReadsNameHere text r =
    (from : ℕ) × (done : List (Option Name × Json)) × (fs : List Frame) × (limit : Limit)
    × Holds text r limit (record { kind = curly; from = from; done = done; name = None } ∷ fs) []
    (λ levels n. BeforeName levels n (record { kind = curly; from = from; done = done; name = None }) fs)
    × IsHere text r.at limit

abbrev pub ReadsFirst : List ℕ → Reader → Type 0
ReadsFirst text r =
    (kind : Bracket) × (from : ℕ) × (fs : List Frame)
    × Holds text r any (record { kind = kind; from = from; done = []; name = None } ∷ fs) []
    (λ levels n. Opened levels n (record { kind = kind; from = from; done = []; name = None }) fs)

-- behind a number no byte of a number stands
abbrev pub IsClear : Limit → List ℕ → ℕ → Type 0
IsClear any text at = Unit {0}
IsClear no_number text at = at < length text → is_in_number (slice_index text at) ≡ false
IsClear (no_closing b) text at = ⊥

abbrev pub ReadsBehind : List ℕ → Reader → Type 0
ReadsBehind text r =
    (fs : List Frame) × (w : Json) × (limit : Limit) × Holds text r limit fs (cells_of w) (λ levels n. Behind levels n fs w) × IsClear limit text r.at

abbrev pub Reads : List ℕ → Reader → Next → Type 0
Reads text r Value = ReadsValue text r
Reads text r First = ReadsFirst text r
Reads text r After = ReadsBehind text r

-- ---- a word, a number or a string at a place

abbrev pub limit_of_kind : Kind → Limit
limit_of_kind Null = any
limit_of_kind True = any
limit_of_kind False = any
limit_of_kind Number = no_number
limit_of_kind String = any
limit_of_kind AList = any
limit_of_kind Object = any

abbrev pub EndsLeaf : List ℕ → ℕ → Kind → ℕ → Type 0
EndsLeaf text at kind end =
    (l : Leaf) × IsLeaf l (slice_range text at end) × (kind ≡ kind_of l) × (at < end) × (end ≤ length text) × IsClear (limit_of_kind kind) text end
    × (((s : ℕ) → at ≤ s → s < end → slice_index text s ≢ 92) ⊎ ((slice_index text at ≡ 34) × EndsString text (suc at) end))

pub data StopsLeaf (text : List ℕ) (at : ℕ) (k : ℕ) : Type 0 where
  no_leaf : k ≡ at → slice_index text at ≢ 110 → slice_index text at ≢ 116 → slice_index text at ≢ 102 → slice_index text at ≢ 45
      → is_digit (slice_index text at) ≡ false → slice_index text at ≢ 34 → StopsLeaf text at k
  in_word : (w : Word) → slice_index text at ≡ slice_index (letters w) 0 → StopsWord text at (letters w) k → StopsLeaf text at k
  in_number : (slice_index text at ≡ 45) ⊎ (is_digit (slice_index text at) ≡ true) → StopsNumber text at k → StopsLeaf text at k
  in_string : slice_index text at ≡ 34 → CountsString text (suc at) k → StopsLeaf text at k

-- ---- the kind of a leaf beside its end
abbrev pub with_kind : Kind → Result ℕ ℕ → Result (Kind × ℕ) ℕ
with_kind k (Ok end) = Ok (k, end)
with_kind k (Err stop) = Err stop

-- what the reader's own steps do to it

abbrev pub ReadsColon : List ℕ → Reader → Type 0
ReadsColon text r = (fs : List Frame) × Holds text r any fs [] (λ levels n. BeforeColon levels n fs)

-- the cell of a leaf is put behind the others
abbrev pub Puts : Reader → Kind → ℕ → Reader → Result (Unit {0}) JsonError → Type 0
Puts r kind end new (Ok u) = (new.cells.items ≡ r.cells.items ++ cell kind r.at end 0 ∷ []) × (new.at ≡ end) × (new.top ≡ r.top) × (new.depth ≡ r.depth)
Puts r kind end new (Err e) = e ≡ OutOfMemory

-- the cell of an opening bracket is put behind the others, or the brackets are too deep
abbrev pub Opens : Reader → Kind → Reader → Result Next JsonError → Type 0
Opens r kind new (Ok next) =
    (next ≡ First) × (r.depth < 64) × (new.cells.items ≡ r.cells.items ++ cell kind r.at r.top 0 ∷ []) × (new.at ≡ r.at + 1)
    × (new.top ≡ length r.cells.items) × (new.depth ≡ r.depth + 1)
Opens r kind new (Err e) = ((r.depth ≡ 64) × (e ≡ TooDeep r.at)) ⊎ (e ≡ OutOfMemory)

-- some bracket is open
pub record HasOpen (r : Reader) : Type 0 where
  pub cell : r.top < length r.cells.items
  pub level : 0 < r.depth

-- the cell of the innermost bracket has its end and how many cells stand behind it, and the bracket around it is the innermost
abbrev pub Closes : Reader → Reader → Type 0
Closes r new =
    (open' : Cell) × (open' ≡ slice_index_or r.cells.items r.top open')
    × (new.cells.items ≡ slice_set r.cells.items r.top (cell open'.kind open'.at (r.at + 1) (length r.cells.items - r.top - 1)))
    × (new.at ≡ r.at + 1) × (new.top ≡ open'.end) × (new.depth + 1 ≡ r.depth)

abbrev pub closing_of : Kind → ℕ
closing_of Null = 93
closing_of True = 93
closing_of False = 93
closing_of Number = 93
closing_of String = 93
closing_of AList = 93
closing_of Object = 125

abbrev pub finished : Next → ℕ → Bool
finished Value depth = false
finished First depth = false
finished After depth = depth == 0

-- the cells are those of the one value of the text
abbrev pub IsRead : List ℕ → List Cell → Type 0
IsRead text cells =
    (w : Json) × (cells ≡ cells_of w) × SpelledWithin depth_limit text w × ((v : Json) → SpelledWithin depth_limit text v → v ≡ w)
