-- Nets whose parts are found side by side, each with its place among all.
use Rattle.std.specs.Prelude.{◌≡◌, ℕ, ◌<◌, ◌≤◌, List, length, map, slice_index_or, IfSome}
use Rattle.board_items.specs.Boards.{PlainBoard}
use Rattle.net_groups.specs.declared.works.Work.{Work}
use Rattle.net_groups.specs.NetParts.{IsNetPart}

-- the same works, of which each has found its part or ran out of memory
pub record AreFound (board : PlainBoard) (works after : List Work) : Type 0 where
  pub long : length after ≡ length works
  pub each : (j : ℕ) (d : Work) → j < length works → ((slice_index_or after j d).place ≡ (slice_index_or works j d).place) × ((slice_index_or after j d).net ≡ (slice_index_or works j d).net) × IfSome (slice_index_or after j d).part (IsNetPart board (slice_index_or works j d).net)

-- the same works, of which the first so many have found theirs
pub record AreFoundUpTo (board : PlainBoard) (count : ℕ) (works after : List Work) : Type 0 where
  pub long : length after ≡ length works
  pub found : (j : ℕ) (d : Work) → j < count → j < length works → ((slice_index_or after j d).place ≡ (slice_index_or works j d).place) × ((slice_index_or after j d).net ≡ (slice_index_or works j d).net) × IfSome (slice_index_or after j d).part (IsNetPart board (slice_index_or works j d).net)
  pub rest : (j : ℕ) (d : Work) → count ≤ j → slice_index_or after j d ≡ slice_index_or works j d

-- a work for each net, in their order
abbrev pub AreAllWorks : List ℕ → List Work → Type 0
AreAllWorks nets works = map (λ work. work.net) works ≡ nets
