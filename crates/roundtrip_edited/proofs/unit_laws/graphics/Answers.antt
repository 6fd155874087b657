use Rattle.roundtrip_edited.proofs.Units.{graphics_carried, curves_carried, texts_carried}
use Rattle.roundtrip_edited.proofs.unit_laws.graphics.Goals as goal

pub returns : goal.returns
returns c = record {
  graphics = λ o board other unit own i j s r ground translated kind items now become. graphics_carried o board other unit own i j s r items now ground translated become kind;
  curves = λ o board other unit own i j s r ground translated items now become. curves_carried o board other unit own i j s r items now ground translated become;
  texts = λ o board other unit own i j s r ground translated about items now become. texts_carried o board other unit own i j s r items now ground translated become about;
}
