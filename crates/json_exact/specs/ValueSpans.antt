-- The spans of what stands in brackets are in order and inside those of the brackets, and a number is the slice of its span.
use Rattle.std.specs.Prelude.{◌≡◌, ℕ, suc, ◌<◌, ◌≤◌, List, Option, Some, None, slice_range}
use Rattle.json_exact.specs.Json.{Leaf, word, number, string, Name, Json, leaf, nest, Parts, no_parts, part, ends_at}

abbrev pub IsSlice : List ℕ → Leaf → ℕ → ℕ → Type 0
IsSlice text (word w) from to = Unit {0}
IsSlice text (number digits) from to = digits ≡ slice_range text from to
IsSlice text (string s) from to = Unit {0}

-- the place from which a value may stand, behind its name
abbrev pub behind_name : ℕ → Option Name → ℕ
behind_name low None = low
behind_name low (Some name) = name.to

abbrev pub IsNamePlaced : ℕ → Option Name → Type 0
IsNamePlaced low None = Unit {0}
IsNamePlaced low (Some name) = (low ≤ name.from) × (name.from < name.to)

abbrev mutual
  -- the value stands between the two places
  pub IsPlaced : List ℕ → ℕ → Json → ℕ → Type 0
  IsPlaced text low (leaf l from to) high = (low ≤ from) × (from < to) × (to ≤ high) × IsSlice text l from to
  IsPlaced text low (nest b from to ps) high = (low ≤ from) × (from < to) × (to ≤ high) × ArePlaced text (suc from) ps to

  -- the parts stand one behind the other from the first place on, before what ends at the second
  pub ArePlaced : List ℕ → ℕ → Parts → ℕ → Type 0
  ArePlaced text low no_parts high = low < high
  ArePlaced text low (part name v ps) high = IsNamePlaced low name × IsPlaced text (behind_name low name) v high × ArePlaced text (ends_at v) ps high
