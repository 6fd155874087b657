use Rattle.std.proofs.Common.{◌≡◌, ◌+◌, ◌-◌, ◌++◌, length, take, drop, sum_by, vec_len, sym, ap, ◌∙◌, subst}
use Rattle.steal_pool.specs.Seats.{AreOwners, pushed_by, taken_by, taken_with}
use Rattle.steal_pool.proofs.Related.{written_back}
use Rattle.steal_pool.proofs.rest.whole.Goals as goal

pub all_back-requires-clause-owners : goal.all_back-requires-clause-owners
all_back-requires-clause-owners c = subst (AreOwners c.args.tiles (1024 - vec_len c.args.all) c.args.others.now) (sym c.as_mut_slice.ensures.value) c.requires.owners

pub returns-clause-owners : goal.returns-clause-owners
returns-clause-owners c =
    let owners = c.args.owners in
    let later = c.all_back.new.owners in
    let long : length later ≡ length owners.items = c.all_back.auto.owners ∙ ap length c.as_mut_slice.ensures.value in
    let back : take owners.len (later ++ drop (length later) owners.items) ≡ later = written_back owners.len later owners.items (long ∙ sym owners.ok.0) in
    subst (AreOwners c.args.tiles 1024 c.args.others.now) (sym back) c.all_back.ensures.owners

pub returns-clause-same : goal.returns-clause-same
returns-clause-same c h =
    let owners = c.args.owners in
    let later = c.all_back.new.owners in
    let long : length later ≡ length owners.items = c.all_back.auto.owners ∙ ap length c.as_mut_slice.ensures.value in
    let back : take owners.len (later ++ drop (length later) owners.items) ≡ later = written_back owners.len later owners.items (long ∙ sym owners.ok.0) in
    ap (pushed_by h) back ∙ c.all_back.ensures.same h ∙ ap (pushed_by h) c.as_mut_slice.ensures.value

pub returns-clause-taken : goal.returns-clause-taken
returns-clause-taken c h =
    let owners = c.args.owners in
    let later = c.all_back.new.owners in
    let long : length later ≡ length owners.items = c.all_back.auto.owners ∙ ap length c.as_mut_slice.ensures.value in
    let back : take owners.len (later ++ drop (length later) owners.items) ≡ later = written_back owners.len later owners.items (long ∙ sym owners.ok.0) in
    ap (taken_by h) back ∙ c.all_back.ensures.taken h ∙ ap (λ os. taken_by h os + sum_by (λ v. taken_with h v.items) c.args.all.items) c.as_mut_slice.ensures.value
