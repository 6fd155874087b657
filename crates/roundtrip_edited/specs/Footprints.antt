-- Lists of footprints, of which the laws stand apart.
use Rattle.std.specs.Prelude.{Bool, true, false}
use Rattle.pcb_read.specs.declared.sorts.Sort.{Sort}
use Rattle.pcb_read.specs.declared.sorts.Sort.TheVariants.{Footprint}

abbrev pub is_footprint : Sort → Bool
is_footprint Footprint = true
is_footprint sort = false
