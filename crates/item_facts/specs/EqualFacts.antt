-- Facts of which some are the same.
use Rattle.std.specs.Prelude.{◌≡◌}
use Rattle.rule_pick.specs.declared.facts.Facts.{Facts}

pub record HaveSameKind (f g : Facts) : Type 0 where
  pub kind : f.kind ≡ g.kind
  pub layers : f.layers ≡ g.layers

pub record HaveSameMarks (f g : Facts) : Type 0 where
  pub on_edge : f.on_edge ≡ g.on_edge
  pub plated : f.plated ≡ g.plated
  pub micro : f.micro ≡ g.micro
  pub blind : f.blind ≡ g.blind

pub record HaveSameLengths (f g : Facts) : Type 0 where
  pub width : f.width ≡ g.width
  pub diameter : f.diameter ≡ g.diameter
  pub hole : f.hole ≡ g.hole
  pub local : f.local ≡ g.local
  pub class_clearance : f.class_clearance ≡ g.class_clearance

pub record HaveSameNames (f g : Facts) : Type 0 where
  pub class : f.class ≡ g.class
  pub net_name : f.net_name ≡ g.net_name

pub record HaveSameMeetings (f g : Facts) : Type 0 where
  pub areas : f.areas ≡ g.areas
  pub courtyards : f.courtyards ≡ g.courtyards
