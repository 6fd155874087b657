use Rattle.what_if.proofs.Missing.{only_in}
use Rattle.what_if.proofs.trying.difference.Goals as goal

pub returns : goal.returns
returns c = λ before are.
    let after = c.args.after.now.state in
    record {
      come_are = only_in after before c.rows.result.now c.args.before.now c.in_ok-come.come.items c.rows.ensures.rows are c.in_ok-come.ensures;
      gone_are = only_in before after c.args.before.now c.rows-2.result.now c.in_ok-gone.gone.items are c.rows-2.ensures.rows c.in_ok-gone.ensures;
    }
