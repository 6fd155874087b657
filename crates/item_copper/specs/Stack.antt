-- The numbers of copper layers.
use Rattle.std.specs.Prelude.{ℕ, ◌<◌, Option}
use Rattle.std.specs.Option.{ForSome}

-- a layer that may be missing is one of the 32 that there can be
abbrev pub IsLayerIfSome : Option ℕ → Type 0
IsLayerIfSome layer = ForSome layer (λ number. number < 32)
