-- The text of a project says one thing.
use Rattle.std.proofs.Common.{◌≡◌, ◌⊎◌, ℕ, List, Result, Err, inl, inr, sym, ap, ◌∙◌}
use Rattle.json_exact.specs.JsonRefusals.{depth_limit}
use Rattle.json_exact.specs.declared.error.JsonError.{JsonError}
use Rattle.json_exact.specs.declared.error.JsonError.TheVariants.{OutOfMemory as NoMemoryForText}
use Rattle.json_exact.proofs.OneValue.{one_value}
use Rattle.json_exact.proofs.Unique.{only_memory, one_refusal}
use Rattle.net_class.specs.declared.error.ProjectError.{ProjectError}
use Rattle.net_class.specs.declared.error.ProjectError.TheVariants.{Json}
use Rattle.net_class.specs.NetClasses.{PlainClasses}
use Rattle.net_class.specs.ClassesOf.{classes_of}
use Rattle.net_class.specs.ProjectText.{ProjectSays}

same_error : (e f : JsonError) → (f ≡ NoMemoryForText → ⊥) → (f ≡ e) ⊎ (f ≡ NoMemoryForText) → f ≡ e
same_error e f n (inl h) = h
same_error e f n (inr h) = absurd (n h)

pub one_project : (text : List ℕ) (a b : Result PlainClasses ProjectError) → ProjectSays text a → ProjectSays text b → a ≡ b
one_project text a b (inl p) (inl q) = p.2 ∙ (ap classes_of (one_value depth_limit depth_limit text p.0 q.0 p.1 q.1) ∙ sym q.2)
one_project text a b (inl p) (inr q) = absurd (q.2 (only_memory text p.0 q.0 p.1 q.1))
one_project text a b (inr p) (inl q) = absurd (p.2 (only_memory text q.0 p.0 q.1 p.1))
one_project text a b (inr p) (inr q) =
    p.3 ∙ (ap (λ (e : JsonError). Err (Json e)) (sym (same_error p.0 q.0 q.2 (one_refusal text p.0 q.0 p.1 q.1 p.2))) ∙ sym q.3)
