use Rattle.std.proofs.Common.{refl, ◌++◌, length}
use Rattle.roundtrip_text.proofs.Cutting.{cut_forest}
use Rattle.roundtrip_text.proofs.Setting.{set_forest}
use Rattle.roundtrip_text.proofs.laws.pieces.Goals as goal

pub returns : goal.returns
returns c = record {
  cut = λ text from to f part. cut_forest text from to f part.within part.spelled;
  set = λ prefix bytes behind f apart w.
      let k = set_forest f (prefix ++ (bytes ++ behind)) bytes behind (length prefix) (record { prefix = prefix; long = refl; joined = refl }) apart w in
      (k.forest, k.same, k.spelled);
}
