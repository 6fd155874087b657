-- Rows that are the same.
use Rattle.std.proofs.Common.{◌≡◌, refl, subst, ℕ, ℤ, Bool, true, false, ◌&&◌, IsTrue, ◌↔◌, ◌==◌, rules}
use Rattle.std.specs.Bool.{Decides, beq}
use Rattle.std.specs.Ordering.{int_eq}
use Rattle.std.proofs.lemmas.Bool.{and_from}
use Rattle.pair_check.specs.PlainRow.{PlainRow}
use Rattle.cond_lang.specs.declared.kind.Kind.{Kind}
use Rattle.cond_lang.specs.declared.rule.Severity.{Severity}
use Rattle.rule_pick.specs.declared.kinds.Source.{Source}
use Rattle.kind_subjects.specs.declared.layer.RowLayer.{RowLayer}
use Rattle.pair_check.specs.SameRows.{same_kinds, same_layers, same_sources, same_severities, same_places, same_lengths, same_causes, same_rows}

numbers : (a b : ℕ) → Decides (a == b) (a ≡ b)
numbers a b = search rules

lengths : (a b : ℤ) → Decides (int_eq a b) (a ≡ b)
lengths a b = search rules

sides : (a b : Bool) → Decides (beq a b) (a ≡ b)
sides a b = search rules

kinds : (a b : Kind) → Decides (same_kinds a b) (a ≡ b)
kinds a b = search rules

layers : (a b : RowLayer) → Decides (same_layers a b) (a ≡ b)
layers a b = search rules

sources : (a b : Source) → Decides (same_sources a b) (a ≡ b)
sources a b = search rules

severities : (a b : Severity) → Decides (same_severities a b) (a ≡ b)
severities a b = search rules

split : (a b : Bool) → (a && b) ≡ true → (a ≡ true) × (b ≡ true)
split true b e = (refl, e)
split false b e = absurd cc

truth : (b : Bool) → IsTrue b → b ≡ true
truth b h = search (rules, h)

told : (b : Bool) → b ≡ true → IsTrue b
told b e = rw e

module _ (p q : PlainRow) where
  -- all fields are the same
  to : same_rows p q ≡ true → p ≡ q
  to e =
      let whole = split (same_places p q) (same_lengths p q && same_causes p q) e in
      let rest = split (same_lengths p q) (same_causes p q) whole.1 in
      let a = split (p.first == q.first) ((p.second == q.second) && (same_kinds p.kind q.kind && same_layers p.layer q.layer)) whole.0 in
      let b = split (p.second == q.second) (same_kinds p.kind q.kind && same_layers p.layer q.layer) a.1 in
      let c = split (same_kinds p.kind q.kind) (same_layers p.layer q.layer) b.1 in
      let d = split (int_eq p.value q.value) (int_eq p.gap q.gap && beq p.over q.over) rest.0 in
      let f = split (int_eq p.gap q.gap) (beq p.over q.over) d.1 in
      let g = split (same_sources p.source q.source) (same_severities p.severity q.severity) rest.1 in
      λ i. record {
        first = (numbers p.first q.first).0 a.0 i;
        second = (numbers p.second q.second).0 b.0 i;
        kind = (kinds p.kind q.kind).0 c.0 i;
        layer = (layers p.layer q.layer).0 c.1 i;
        value = (lengths p.value q.value).0 d.0 i;
        gap = (lengths p.gap q.gap).0 f.0 i;
        over = (sides p.over q.over).0 f.1 i;
        source = (sources p.source q.source).0 g.0 i;
        severity = (severities p.severity q.severity).0 g.1 i;
      }

itself : (p : PlainRow) → same_rows p p ≡ true
itself p =
    and_from (same_places p p) (same_lengths p p && same_causes p p)
    (and_from (p.first == p.first) ((p.second == p.second) && (same_kinds p.kind p.kind && same_layers p.layer p.layer)) ((numbers p.first p.first).1 refl)
    (and_from (p.second == p.second) (same_kinds p.kind p.kind && same_layers p.layer p.layer) ((numbers p.second p.second).1 refl)
    (and_from (same_kinds p.kind p.kind) (same_layers p.layer p.layer) ((kinds p.kind p.kind).1 refl) ((layers p.layer p.layer).1 refl))))
    (and_from (same_lengths p p) (same_causes p p)
    (and_from (int_eq p.value p.value) (int_eq p.gap p.gap && beq p.over p.over) ((lengths p.value p.value).1 refl)
    (and_from (int_eq p.gap p.gap) (beq p.over p.over) ((lengths p.gap p.gap).1 refl) ((sides p.over p.over).1 refl)))
    (and_from (same_sources p.source p.source) (same_severities p.severity p.severity) ((sources p.source p.source).1 refl) ((severities p.severity p.severity).1 refl)))

-- the test says so exactly where the rows are the same
pub same_is : (p q : PlainRow) → (IsTrue (same_rows p q) ↔ (p ≡ q))
same_is p q = (λ h. to p q (truth (same_rows p q) h), λ e. told (same_rows p q) (subst (λ (r : PlainRow). same_rows p r ≡ true) e (itself p)))
