use Rattle.std.proofs.Common.{◌≡◌, Bool, true, false, not, sym, ◌∙◌, ap, refl}
use Rattle.json_exact.proofs.Decoding.{items_none, none_left}
use Rattle.json_exact.specs.declared.cells.Kind.{Kind}
use Rattle.json_exact.specs.declared.cells.Kind.TheVariants.{List as AList}
use denote.Enum.Bare.{sameb}
use Rattle.json_exact.specs.contracts.cells.Kind.{the_type}
use Rattle.json_exact.proofs.handles.Value.items.Goals as goal

not_so : (x : Bool) → not x ≡ true → x ≡ false
not_so true e = cc
not_so false e = refl

pub returns-then-ne : goal.returns-then-ne
returns-then-ne c =
    none_left c.args.self.text.now
    ∙ sym (items_none c.args.self.text.now c.args.self.cells.now (ap (λ (k : Kind). sameb the_type k AList) (sym c.kind.ensures) ∙ not_so _ (sym c.ne.ensures ∙ c.if-ne.true)))
