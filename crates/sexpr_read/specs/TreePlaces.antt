-- Where the trees of a text stand in it.
use Rattle.std.specs.Prelude.{ℕ, ◌≡◌, ◌+◌, ◌-◌, ◌<◌, ◌≤◌, Bool, true, false, List, slice_range}
use Rattle.sexpr_read.specs.declared.place.Span.{Span}
use Rattle.sexpr_read.specs.Tree.{Forest, none, atom, list, Tree, leaf, branch}

-- an atom's content is what the text has at its span; the quotes of a string are no part of it
abbrev pub IsSlice : List ℕ → Span → Bool → List ℕ → Type 0
IsSlice text s false bytes = bytes ≡ slice_range text s.at s.end
IsSlice text s true bytes = (s.at + 2 ≤ s.end) × (bytes ≡ slice_range text (s.at + 1) (s.end - 1))

-- the spans of trees side by side are in order and between these places, and those of the parts of a list between
-- its brackets; each atom is a slice of the text
abbrev pub StandBetween : List ℕ → ℕ → ℕ → Forest → Type 0
StandBetween text from to none = from ≤ to
StandBetween text from to (atom s q bytes others) =
    (from ≤ s.at) × (s.at < s.end) × IsSlice text s q bytes × StandBetween text s.end to others
StandBetween text from to (list s inside others) =
    (from ≤ s.at) × (s.at < s.end) × StandBetween text (s.at + 1) (s.end - 1) inside × StandBetween text s.end to others

-- the parts of the tree so, from one place to another
abbrev pub PartsStandBetween : List ℕ → ℕ → ℕ → Tree → Type 0
PartsStandBetween text from to (leaf s q bytes) = from ≤ to
PartsStandBetween text from to (branch s inside) = StandBetween text from to inside
