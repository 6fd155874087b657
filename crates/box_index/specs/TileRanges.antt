-- Runs of tiles.
use Rattle.std.specs.Prelude.{◌≡◌, ℕ, ◌<◌, ◌≤◌, Bool, false}
use Rattle.box_index.specs.declared.spans.Span.{Span}
use Rattle.box_index.specs.Tiles.{tile_count}

-- each tile that passes is one of them
pub record HasAll (passes : ℕ → Bool) (span : Span) : Type 0 where
  pub first : span.first ≤ tile_count
  pub end : span.end ≤ tile_count
  pub before : (tile : ℕ) → tile < span.first → passes tile ≡ false
  pub past : (tile : ℕ) → span.end ≤ tile → tile < tile_count → passes tile ≡ false
