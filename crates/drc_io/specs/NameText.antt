-- The bytes of a name, by how it keeps them.
use Rattle.std.specs.Prelude.{ℕ, ◌<◌, List, take, vec_len}
use Rattle.drc_io.specs.declared.text.Text.{Text}
use Rattle.drc_io.specs.declared.text.Text.TheVariants.{Short, Long}

abbrev pub text_bytes : Text → List ℕ
text_bytes (Short held) = take held.len held.bytes
text_bytes (Long bytes) = bytes.items

-- only bytes that have no room inside take memory
abbrev pub IsThrifty : Text → Type 0
IsThrifty (Short held) = Unit {0}
IsThrifty (Long bytes) = 30 < vec_len bytes
