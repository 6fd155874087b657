use Rattle.std.proofs.Common.{◌≡◌, ◌-◌, ◌++◌, length, take, drop, All, sym, ap, ◌∙◌, subst}
use Rattle.steal_pool.specs.Seats.{AreOwners, AreUnused, AreGiven, PutAlike}
use Rattle.steal_pool.proofs.Related.{written_back}
use Rattle.steal_pool.proofs.Turns.{given_alike}
use Rattle.steal_pool.proofs.deal.deal_out.Goals as goal

pub give_out-requires-clause-owners : goal.give_out-requires-clause-owners
give_out-requires-clause-owners c =
    let owners = c.in_ok-others.owners.items in
    subst (λ ss. AreOwners 0 1024 ss c.as_mut_slice.result.now) (sym c.as_slice.ensures.value)
    (subst (AreOwners 0 1024 c.in_ok-others.others.items) (sym c.as_mut_slice.ensures.value) c.in_ok-others.ensures.owners.0)

pub all_lines-requires-clause-owners : goal.all_lines-requires-clause-owners
all_lines-requires-clause-owners c =
    let tiles = c.args.tiles in
    let others = c.in_ok-others.others.items in
    let vec = c.in_ok-others.owners in
    let given = c.give_out.new.owners in
    let long : length given ≡ length vec.items = c.give_out.auto.owners ∙ ap length c.as_mut_slice.ensures.value in
    let back : take vec.len (given ++ drop (length given) vec.items) ≡ given = written_back vec.len given vec.items (long ∙ sym vec.ok.0) in
    subst (λ ss. AreOwners tiles 1024 ss c.as_mut_slice-2.result.now) (sym c.as_slice-2.ensures.value)
    (subst (AreOwners tiles 1024 others) (sym (c.as_mut_slice-2.ensures.value ∙ back)) (subst (λ ss. AreOwners tiles 1024 ss given) c.as_slice.ensures.value c.in_ok-give_out.ensures.owners))

pub returns-clause-owners : goal.returns-clause-owners
returns-clause-owners c =
    let tiles = c.args.tiles in
    let workers = c.args.workers in
    let others = c.in_ok-others.others.items in
    let vec = c.in_ok-others.owners in
    let given = c.give_out.new.owners in
    let later = c.all_lines.new.owners in
    let written = take vec.len (given ++ drop (length given) vec.items) in
    let long : length given ≡ length vec.items = c.give_out.auto.owners ∙ ap length c.as_mut_slice.ensures.value in
    let back : written ≡ given = written_back vec.len given vec.items (long ∙ sym vec.ok.0) in
    let as_long : length later ≡ length vec.items = c.all_lines.auto.owners ∙ ap length (c.as_mut_slice-2.ensures.value ∙ back) ∙ long in
    let whole : take vec.len (later ++ drop (length later) written) ≡ later = written_back vec.len later written (as_long ∙ sym vec.ok.0) in (
      subst (AreOwners tiles (1024 - workers) others) (sym whole) (subst (λ ss. AreOwners tiles (1024 - workers) ss later) c.as_slice-2.ensures.value c.in_ok-all.ensures.owners),
      ap length whole ∙ as_long ∙ c.in_ok-others.ensures.owners.0.0 ∙ c.in_ok-others.ensures.owners.1,
    )

pub returns-clause-given : goal.returns-clause-given
returns-clause-given c =
    let tiles = c.args.tiles in
    let vec = c.in_ok-others.owners in
    let given = c.give_out.new.owners in
    let later = c.all_lines.new.owners in
    let written = take vec.len (given ++ drop (length given) vec.items) in
    let long : length given ≡ length vec.items = c.give_out.auto.owners ∙ ap length c.as_mut_slice.ensures.value in
    let back : written ≡ given = written_back vec.len given vec.items (long ∙ sym vec.ok.0) in
    let lent : c.as_mut_slice-2.result.now ≡ given = c.as_mut_slice-2.ensures.value ∙ back in
    let as_long : length later ≡ length given = c.all_lines.auto.owners ∙ ap length lent in
    let whole : take vec.len (later ++ drop (length later) written) ≡ later = written_back vec.len later written (as_long ∙ long ∙ sym vec.ok.0) in
    subst (AreGiven tiles) (sym whole) (given_alike tiles given later as_long c.in_ok-give_out.ensures.given (subst (λ os. PutAlike os later) lent c.in_ok-all.ensures.alike))

pub returns-clause-lines : goal.returns-clause-lines
returns-clause-lines c =
    let of = c.in_ok-all.ensures.lines in
    (of.0, subst (λ ss. All (λ v. AreUnused c.args.tiles ss v.items) c.in_ok-all.all.items) c.as_slice-2.ensures.value of.1)
