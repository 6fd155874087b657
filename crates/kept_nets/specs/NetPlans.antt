-- Parts of nets of which some are found again: a work for each, and when each part is that of its net.
use Rattle.std.specs.Prelude.{◌≡◌, ◌⊎◌, ℕ, ◌<◌, true, List, length, slice_index_or, All, IfSome}
use Rattle.std.specs.List.{Any}
use Rattle.board_items.specs.Boards.{PlainBoard}
use Rattle.board_laws.specs.Edits.{is_one_of}
use Rattle.net_groups.specs.declared.works.Work.{Work}
use Rattle.net_groups.specs.NetParts.{PlainNetPart, IsNetPart}

-- one of the works is that of the place
abbrev pub IsDue : List Work → ℕ → Type 0
IsDue works place = Any (λ work. work.place ≡ place) works

-- a work for each of the first nets that is touched, and for no other
pub record AreWorksUpTo (nets touched : List ℕ) (count : ℕ) (works : List Work) : Type 0 where
  pub only : All (λ work. (work.place < count) × (work.net ≡ slice_index_or nets work.place 0) × (is_one_of touched work.net ≡ true)) works
  pub all : (k : ℕ) → k < count → is_one_of touched (slice_index_or nets k 0) ≡ true → IsDue works k

-- each part is that of its net, or one of the works brings it
pub record IsPlan (board : PlainBoard) (nets : List ℕ) (parts : List PlainNetPart) (works : List Work) : Type 0 where
  pub long : length parts ≡ length nets
  pub right : All (λ work. (work.place < length nets) × IfSome work.part (IsNetPart board (slice_index_or nets work.place 0))) works
  pub due : (k : ℕ) (d : PlainNetPart) → k < length nets → IsNetPart board (slice_index_or nets k 0) (slice_index_or parts k d) ⊎ IsDue works k

-- each part is that of its net, place by place
abbrev pub AreAt : PlainBoard → List ℕ → List PlainNetPart → Type 0
AreAt board nets parts = (k : ℕ) (d : PlainNetPart) → k < length nets → IsNetPart board (slice_index_or nets k 0) (slice_index_or parts k d)
