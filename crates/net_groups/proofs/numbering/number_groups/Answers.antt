use Rattle.std.proofs.Common.{rules, List, ℕ, ◌≡◌, [], All, Contains, Option, None, replicate, length, get_or, ap, subst, sym, ◌∙◌, arith}
use Rattle.std.proofs.lemmas.List.{get_or_default, length-replicate, with_items_is}
use Rattle.net_groups.specs.Numbering.{number_of, IsEntered}
use Rattle.net_groups.proofs.Beside.{number_none}
use Rattle.net_groups.proofs.Numbers.{numbered_none, numbered_more, numbered_all}
use Rattle.net_groups.proofs.numbering.number_groups.Goals as goal

pub loop-number-init : goal.loop-number-init
loop-number-init c =
    let ids = c.args.ids.now in
    let none : c.in_ok-numbers.numbers.items ≡ replicate (length ids) None = search rules in
    record {
      many = ap length none ∙ length-replicate {A = Option ℕ} (length ids) None;
      numbered = numbered_none c.args.groups.now (number_of ids c.in_ok-numbers.numbers.items) (λ id. ap (λ (numbers : List (Option ℕ)). number_of ids numbers id) none ∙ number_none ids (length ids) id);
    }

pub enter-next-requires-clause-listed : goal.enter-next-requires-clause-listed
enter-next-requires-clause-listed c =
    let groups = c.args.groups.now in
    let k = c.loop-number.number in
    let group : c.members.result.now ≡ get_or groups k [] = c.members.ensures ∙ (c.index-groups-number.is ∙ get_or_default groups k _ [] c.loop-number-test.true) in
    subst (All (Contains c.args.ids.now)) (sym group) (c.requires.listed k [] c.loop-number-test.true)

pub loop-number-preserved : goal.loop-number-preserved
loop-number-preserved c =
    let ids = c.args.ids.now in
    let groups = c.args.groups.now in
    let k = c.loop-number.number in
    let group : c.members.result.now ≡ get_or groups k [] = c.members.ensures ∙ (c.index-groups-number.is ∙ get_or_default groups k _ [] c.loop-number-test.true) in
    let same = with_items_is c.loop-number.numbers c.enter-next.new.numbers (c.enter-next.auto.numbers ∙ c.deref_mut.ensures.len) in
    rw same (record {
      many = c.enter-next.auto.numbers ∙ (ap length c.deref_mut.ensures.value ∙ c.loop-number.invariant.many);
      numbered = numbered_more groups c.requires.disjoint k c.loop-number-test.true (number_of ids c.loop-number.numbers.items) (number_of ids c.enter-next.new.numbers) c.loop-number.invariant.numbered
          (subst (λ (g : List ℕ). IsEntered g k (number_of ids c.loop-number.numbers.items) (number_of ids c.enter-next.new.numbers)) group (rw c.deref_mut.ensures.value at c.enter-next.ensures));
    })

pub returns-clause-numbers : goal.returns-clause-numbers
returns-clause-numbers c = numbered_all c.args.groups.now c.loop-number.number (omega arith) (number_of c.args.ids.now c.loop-number.numbers.items) c.loop-number.invariant.numbered
