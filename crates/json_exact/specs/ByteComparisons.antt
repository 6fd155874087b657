-- Bytes compared, and the bytes of a piece of up to four.
use Rattle.std.specs.Prelude.{◌≡◌, ℕ, ◌<◌, ◌≤◌, List, [], ◌∷◌, ◌++◌, length, take, drop, Bool, true, false, ◌&&◌, ◌==◌}
use Rattle.json_exact.specs.Characters.{decoded}
use Rattle.json_exact.specs.declared.decode.Piece.{Piece}

-- whether two texts are the same, byte by byte
abbrev pub same_bytes : List ℕ → List ℕ → Bool
same_bytes [] [] = true
same_bytes [] (y ∷ ys) = false
same_bytes (x ∷ xs) [] = false
same_bytes (x ∷ xs) (y ∷ ys) = (x == y) && same_bytes xs ys

-- whether the second begins with the first
abbrev pub begins_with : List ℕ → List ℕ → Bool
begins_with [] ys = true
begins_with (x ∷ xs) [] = false
begins_with (x ∷ xs) (y ∷ ys) = (x == y) && begins_with xs ys

abbrev pub piece_bytes : Piece → List ℕ
piece_bytes p = take p.len p.bytes

-- the characters' bytes are those of the piece and then those of what stands behind `used` bytes
pub record Prefixes (raw : List ℕ) (p : Piece) : Type 0 where
  pub some : 0 < p.used
  pub in_raw : p.used ≤ length raw
  pub fits : p.len ≤ 4
  pub size : length (piece_bytes p) ≡ p.len
  pub bytes : decoded raw ≡ piece_bytes p ++ decoded (drop p.used raw)
