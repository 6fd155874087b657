use Rattle.std.proofs.Common.{◌≡◌, ◌∙◌, ◌++◌, ◌<◌, List, ℕ, Vec, Global, length, get_or, set, ap, ap₂, sym, arith}
use Rattle.std.proofs.lemmas.List.{get_or_default, get_or-set_other}
use Rattle.ratsnest.specs.declared.joins.Members.{Members}
use Rattle.ratsnest.proofs.Kept.{moved_fits, relabeled, kept_after}
use Rattle.ratsnest.proofs.joins.merge.Goals as goal

pub relabel-requires : goal.relabel-requires
relabel-requires c =
    let is : (get_or c.args.members.now c.args.from c.index-members-from.result).groups.items ≡ c.deref.result.now = cc (c.deref.ensures.value, c.replace-moved.ensures.value) in
    moved_fits c.args.labels.now c.args.members.now c.requires.kept c.args.from c.args.to c.requires.from c.requires.to c.requires.apart c.index-members-from.result c.deref.result.now is

pub returns-clause-relabeled : goal.returns-clause-relabeled
returns-clause-relabeled c =
    let is : (get_or c.args.members.now c.args.from c.index-members-from.result).groups.items ≡ c.deref.result.now = cc (c.deref.ensures.value, c.replace-moved.ensures.value) in
    relabeled c.args.labels.now c.args.members.now c.requires.kept c.args.from c.args.to c.requires.from c.requires.to c.requires.apart c.index-members-from.result c.deref.result.now is
    c.relabel.new.labels c.relabel.auto.labels c.relabel.ensures.given c.relabel.ensures.others

pub returns-clause-kept : goal.returns-clause-kept
returns-clause-kept c =
    let is : (get_or c.args.members.now c.args.from c.index-members-from.result).groups.items ≡ c.deref.result.now = cc (c.deref.ensures.value, c.replace-moved.ensures.value) in
    let m : Members = record { groups = c.replace-moved.new.dest } in
    let to_fits : c.args.to < length c.args.members.now = omega (arith, c.requires.to, c.requires.kept.len) in
    let home : get_or (set c.args.members.now c.args.from m) c.args.to c.index-members-to.result ≡ get_or c.args.members.now c.args.to c.index-members-from.result =
    get_or-set_other c.args.members.now c.args.from c.args.to m c.index-members-to.result (λ q. c.requires.apart (sym q))
    ∙ get_or_default c.args.members.now c.args.to c.index-members-to.result c.index-members-from.result to_fits in
    let more : c.append.new.self.items ≡ (get_or c.args.members.now c.args.to c.index-members-from.result).groups.items ++ c.deref.result.now =
    c.in_ok-append.ensures.items ∙ ap₂ (λ (x y : List ℕ). x ++ y) (ap (λ (n : Members). n.groups.items) home) (sym c.deref.ensures.value) in
    kept_after c.args.labels.now c.args.members.now c.requires.kept c.args.from c.args.to c.requires.from c.requires.to c.requires.apart c.index-members-from.result c.deref.result.now is
    c.relabel.new.labels c.relabel.auto.labels
    (relabeled c.args.labels.now c.args.members.now c.requires.kept c.args.from c.args.to c.requires.from c.requires.to c.requires.apart c.index-members-from.result c.deref.result.now is
    c.relabel.new.labels c.relabel.auto.labels c.relabel.ensures.given c.relabel.ensures.others)
    (record { groups = c.replace-moved.new.dest }) (record { groups = c.append.new.self }) (ap (λ (v : Vec ℕ Global). v.items) c.replace-moved.ensures.after ∙ c.new.ensures.items) more
