use Rattle.std.proofs.Common.{inl, inr, sym, ◌∙◌, ap}
use Rattle.net_class.specs.ClassesOf.{classes_of}
use Rattle.net_class.proofs.Whole.{said, refused_says, refused_only}
use Rattle.net_class.proofs.read_project.Goals as goal

pub returns-in-Ok-clause-only : goal.returns-in-Ok-clause-only
returns-in-Ok-clause-only c = λ answer says. elim says [
  | inl h ↦ said c.classes_of.result answer (classes_of _) (h.2 ∙ ap classes_of (sym (c.in-Ok.ensures.only h.0 h.1) ∙ sym c.root.ensures)) c.classes_of.ensures
  | inr h ↦ absurd (c.in-Ok.ensures.refused h.0 h.1 h.2)
]

pub returns-in-Err : goal.returns-in-Err
returns-in-Err c = record {
  says = refused_says c.args.text.now c.in-Err.error c.refused.result c.refused.ensures c.in-Err.ensures.refusal;
  only = refused_only c.args.text.now c.in-Err.error c.refused.result c.refused.ensures c.in-Err.ensures.only c.in-Err.ensures.refused;
}
