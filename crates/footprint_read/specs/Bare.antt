-- Parts on no copper layer.
use Rattle.std.specs.Prelude.{◌≡◌, List, All}
use Rattle.one_item.specs.declared.parts.Part.{Part}

-- none of the parts lies on a copper layer
abbrev pub AreBare : List Part → Type 0
AreBare parts = All (λ part. part.layers.bits ≡ 0) parts
