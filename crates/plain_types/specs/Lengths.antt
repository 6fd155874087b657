-- The range of every length that an item, a fact, a class or a rule keeps, in nanometres. It stands in a ghost field of
-- the struct that holds the length, as
--   pub ghost width_in_range: { IsLength width },
--   pub ghost clearance_in_range: { IsLengthIfSome clearance },
-- and a variant of an enum that holds one is put into a struct for it. A function that makes such a struct from plain
-- numbers has the same fact in its `requires`.
use Rattle.std.specs.Prelude.{ℤ, pos, ◌≤ℤ◌, Bool, ◌&&◌, Option}
use Rattle.std.specs.Int.Signed.{le_z}
use Rattle.std.specs.Option.{ForSome}

-- 500 mm
abbrev pub greatest : ℤ
greatest = pos 500000000

-- 0 to 500 mm
pub record IsLength (n : ℤ) : Type 0 where
  pub from : pos 0 ≤ℤ n
  pub to : n ≤ℤ greatest

-- a length that may be missing; it has one proof at most, as a ghost field needs
abbrev pub IsLengthIfSome : Option ℤ → Type 0
IsLengthIfSome n = ForSome n IsLength

-- the same as a test
abbrev pub is_length : ℤ → Bool
is_length n = le_z (pos 0) n && le_z n greatest
