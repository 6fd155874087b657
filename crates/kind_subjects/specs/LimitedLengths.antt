-- The lengths of a single item that kinds limit, in nanometres.
use Rattle.std.specs.Prelude.{ℤ, pos, neg_ℤ, ◌+ℤ◌, ◌-ℤ◌, ◌*ℤ◌, ◌≤ℤ◌, ◌<ℤ◌, Option, None, Some}
use Rattle.std.specs.Option.{option_map}
use Rattle.plain_types.specs.Lengths.{greatest}
use Rattle.one_item.specs.declared.item.Hole.{Hole}
use Rattle.one_item.specs.declared.item.What.{What}
use Rattle.one_item.specs.declared.item.What.TheVariants.{Track, Via}
use Rattle.one_item.specs.declared.item.Item.{Item}
use Rattle.cond_lang.specs.declared.kind.Kind.{Kind}
use Rattle.kind_subjects.specs.declared.subject.Measure.{Measure}
use Rattle.kind_subjects.specs.declared.subject.Measure.TheVariants.{Width, Diameter, Bore, Ring}
use Rattle.kind_subjects.specs.declared.subject.Subject.{Subject}
use Rattle.kind_subjects.specs.declared.subject.Subject.TheVariants.{Sides, Length, Whole}
use Rattle.kind_subjects.specs.Subjects.{subject_of}

-- within 500 mm of 0: the copper round a hole is narrower than nothing where the drill is wider than the via
pub record IsNearZero (n : ℤ) : Type 0 where
  pub from : neg_ℤ greatest ≤ℤ n
  pub to : n ≤ℤ greatest

-- the copper round the hole of a via, on both sides of it together
abbrev pub ring_of : What → Option Hole → Option ℤ
ring_of (Via size drill micro blind) (Some hole) = Some (size -ℤ drill)
ring_of _ _ = None

abbrev pub track_width : What → Option ℤ
track_width (Track width) = Some width
track_width _ = None

abbrev pub via_size : What → Option ℤ
via_size (Via size drill micro blind) = Some size
via_size _ = None

-- what is measured: the width of a track, the size of a via, the smaller size of a hole, and twice the width of the copper round the
-- hole of a via
abbrev pub length_by : Measure → Item → Option ℤ
length_by Width item = track_width item.what
length_by Diameter item = via_size item.what
length_by Bore item = option_map (λ hole. hole.least) item.hole
length_by Ring item = ring_of item.what item.hole

abbrev pub length_in : Subject → Item → Option ℤ
length_in (Sides operand_kinds) item = None
length_in (Length measure) item = length_by measure item
length_in Whole item = None

abbrev pub length_of : Kind → Item → Option ℤ
length_of kind item = length_in (subject_of kind) item

-- how many times the length that is limited is measured
abbrev pub times_by : Measure → ℤ
times_by Width = pos 1
times_by Diameter = pos 1
times_by Bore = pos 1
times_by Ring = pos 2

abbrev pub times_in : Subject → ℤ
times_in (Sides operand_kinds) = pos 1
times_in (Length measure) = times_by measure
times_in Whole = pos 1

abbrev pub times : Kind → ℤ
times kind = times_in (subject_of kind)

-- the length that there is, rounded down
pub record IsQuotient (whole : ℤ) (count part : ℤ) : Type 0 where
  pub from : (count *ℤ part) ≤ℤ whole
  pub to : whole <ℤ (count *ℤ (part +ℤ pos 1))
