-- What is given behind what was gathered.
use Rattle.std.proofs.Common.{◌≡◌, refl, append_assoc, Bool, true, false, ◌||◌, Result, Ok, Err}
use Rattle.std.proofs.lemmas.List.{append-nil}
use Rattle.board_errors.specs.declared.errors.BoardError.{BoardError}
use Rattle.list_read.specs.FirstRefusals.{◌>>=◌}
use Rattle.footprint_read.specs.declared.sides.CourtSide.{CourtSide}
use Rattle.footprint_read.specs.declared.contents.Contents.{Contents}
use Rattle.footprint_read.specs.Courtyards.{empty_side, side_then, curve_side}
use Rattle.footprint_read.specs.FootprintOf.{empty, at_front, at_back, contents_then}
use Rattle.footprint_read.specs.Appending.{onto_side, onto}

pub or_false : (b : Bool) → b || false ≡ b
or_false true = refl
or_false false = refl

or_true : (b : Bool) → b || true ≡ true
or_true true = refl
or_true false = refl

or_both : (a b c : Bool) → (a || b) || c ≡ a || (b || c)
or_both true b c = refl
or_both false b c = refl

-- ---- sides

side_alone : (s : CourtSide) → side_then s empty_side ≡ s
side_alone s = rw (or_false s.curved, append-nil s.drawings, append-nil s.lines) refl

pub side_curved : (s : CourtSide) → record s { curved = true } ≡ side_then s curve_side
side_curved s = rw (or_true s.curved, append-nil s.drawings, append-nil s.lines) refl

side_both : (a b c : CourtSide) → side_then (side_then a b) c ≡ side_then a (side_then b c)
side_both a b c = rw (or_both a.curved b.curved c.curved, append_assoc a.drawings b.drawings c.drawings, append_assoc a.lines b.lines c.lines) refl

-- ---- contents

pub then_nothing : (c : Contents) → contents_then c empty ≡ c
then_nothing c = rw (append-nil c.given, side_alone c.front, side_alone c.back) refl

pub front_onto : (c : Contents) (answer : Result CourtSide BoardError) → onto c (at_front answer) ≡ (onto_side c.front answer >>= λ side. Ok (record c { front = side }))
front_onto c (Err e) = refl
front_onto c (Ok side) = rw (append-nil c.given, side_alone c.back) refl

pub back_onto : (c : Contents) (answer : Result CourtSide BoardError) → onto c (at_back answer) ≡ (onto_side c.back answer >>= λ side. Ok (record c { back = side }))
back_onto c (Err e) = refl
back_onto c (Ok side) = rw (append-nil c.given, side_alone c.front) refl

-- one list, and then those after it
pub onto_both : (c : Contents) (answer rest : Result Contents BoardError) → onto c (answer >>= λ first. rest >>= λ more. Ok (contents_then first more)) ≡ (onto c answer >>= λ new. onto new rest)
onto_both c (Err e) rest = refl
onto_both c (Ok first) (Err e) = refl
onto_both c (Ok first) (Ok more) = rw (append_assoc c.given first.given more.given, side_both c.front first.front more.front, side_both c.back first.back more.back) refl
