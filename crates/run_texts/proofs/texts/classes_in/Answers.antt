use Rattle.std.proofs.Common.{refl}
use Rattle.net_class.specs.declared.error.ProjectError.TheVariants.{OutOfMemory}
use Rattle.net_class.specs.ProjectText.{ProjectSays}
use Rattle.net_class.specs.ProjectReasons.{class_reason}
use Rattle.run_texts.specs.declared.texts.Which.TheVariants.{Project}
use Rattle.run_texts.proofs.Refusals.{refuses_so, stops_so}
use Rattle.run_texts.proofs.texts.classes_in.Goals as goal

pub returns-in-Err : goal.returns-in-Err
returns-in-Err c =
    let bytes = c.args.text.now in
    let e = c.in-Err.e in
    stops_so Project bytes (class_reason e) c.refused.result c.refused.ensures (λ r same. refuses_so class_reason OutOfMemory refl (ProjectSays bytes) e r c.in-Err.ensures.says same)
