-- Rows that are the same.
use Rattle.std.specs.Prelude.{◌==◌, Bool}
use Rattle.std.specs.Bool.{beq}
use Rattle.std.specs.Ordering.{on, eq_of_both, int_eq}
use Rattle.std.specs.Cmp.{IsPartialEquivalence, on_per, and_per, partial_equiv_from_equiv, nat_eq_equiv, int_eq_equiv, bool_eq_equiv}
use Rattle.cond_lang.specs.declared.kind.Kind.{Kind}
use Rattle.cond_lang.specs.declared.rule.Severity.{Severity}
use Rattle.cond_lang.specs.contracts.kind.KindPartialEq.TheImpl as kinds
use Rattle.cond_lang.specs.contracts.kind.KindPartialEq.TheImpl.Laws as kind_laws
use Rattle.cond_lang.specs.contracts.rule.SeverityPartialEq.TheImpl as severities
use Rattle.cond_lang.specs.contracts.rule.SeverityPartialEq.TheImpl.Laws as severity_laws
use Rattle.rule_pick.specs.declared.kinds.Source.{Source}
use Rattle.rule_pick.specs.contracts.kinds.SourcePartialEq.TheImpl as sources
use Rattle.rule_pick.specs.contracts.kinds.SourcePartialEq.TheImpl.Laws as source_laws
use Rattle.kind_subjects.specs.declared.layer.RowLayer.{RowLayer}
use Rattle.kind_subjects.specs.contracts.layer.RowLayerPartialEq.TheImpl as layers
use Rattle.kind_subjects.specs.contracts.layer.RowLayerPartialEq.TheImpl.Laws as layer_laws
use Rattle.pair_check.specs.PlainRow.{PlainRow}

-- what `==` says of kinds, layers, sources and severities
abbrev pub same_kinds : Kind → Kind → Bool
same_kinds = (kinds.ghosts).eq

abbrev pub same_layers : RowLayer → RowLayer → Bool
same_layers = (layers.ghosts).eq

abbrev pub same_sources : Source → Source → Bool
same_sources = (sources.ghosts).eq

abbrev pub same_severities : Severity → Severity → Bool
same_severities = (severities.ghosts).eq

-- the same items, kind and layer
abbrev pub same_places : PlainRow → PlainRow → Bool
same_places = eq_of_both (on (λ r. r.first) ◌==◌) (eq_of_both (on (λ r. r.second) ◌==◌) (eq_of_both (on (λ r. r.kind) same_kinds) (on (λ r. r.layer) same_layers)))

abbrev pub same_lengths : PlainRow → PlainRow → Bool
same_lengths = eq_of_both (on (λ r. r.value) int_eq) (eq_of_both (on (λ r. r.gap) int_eq) (on (λ r. r.over) beq))

abbrev pub same_causes : PlainRow → PlainRow → Bool
same_causes = eq_of_both (on (λ r. r.source) same_sources) (on (λ r. r.severity) same_severities)

-- all that their readers give is the same
abbrev pub same_rows : PlainRow → PlainRow → Bool
same_rows = eq_of_both same_places (eq_of_both same_lengths same_causes)

-- ---- it is symmetric, and holds along chains

abbrev places_laws : IsPartialEquivalence same_places
places_laws =
    and_per (on_per (λ (r : PlainRow). r.first) (partial_equiv_from_equiv nat_eq_equiv))
    (and_per (on_per (λ (r : PlainRow). r.second) (partial_equiv_from_equiv nat_eq_equiv))
    (and_per (on_per (λ (r : PlainRow). r.kind) kind_laws.laws-law) (on_per (λ (r : PlainRow). r.layer) layer_laws.laws-law)))

abbrev lengths_laws : IsPartialEquivalence same_lengths
lengths_laws =
    and_per (on_per (λ (r : PlainRow). r.value) (partial_equiv_from_equiv int_eq_equiv))
    (and_per (on_per (λ (r : PlainRow). r.gap) (partial_equiv_from_equiv int_eq_equiv)) (on_per (λ (r : PlainRow). r.over) (partial_equiv_from_equiv bool_eq_equiv)))

abbrev causes_laws : IsPartialEquivalence same_causes
causes_laws = and_per (on_per (λ (r : PlainRow). r.source) source_laws.laws-law) (on_per (λ (r : PlainRow). r.severity) severity_laws.laws-law)

abbrev pub same_rows_laws : IsPartialEquivalence same_rows
same_rows_laws = and_per places_laws (and_per lengths_laws causes_laws)
