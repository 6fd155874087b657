use Rattle.std.proofs.Common.{sym, ◌∙◌, true≢false}
use Rattle.kept_facts.proofs.Again.{kept_again, put_again}
use Rattle.kept_facts.proofs.updating.find_again.Goals as goal

pub returns-then-are_kept-clause-found : goal.returns-then-are_kept-clause-found
returns-then-are_kept-clause-found c =
    kept_again c.args.sources.now.board.now c.args.sources.now.classes.now c.args.id c.in-Some.item.now c.in_ok-now-in-Some.now (sym c.in-Some.ensures.found) c.in_ok-now-in-Some.ensures.facts c.args.facts.now
    (sym c.get-in-Some.ensures ∙ c.are_kept.ensures.0 c.if-are_kept.true)

pub returns-in_ok-insert-in-Some-clause-found : goal.returns-in_ok-insert-in-Some-clause-found
returns-in_ok-insert-in-Some-clause-found c =
    put_again c.args.sources.now.board.now c.args.sources.now.classes.now c.args.id c.in-Some.item.now c.in_ok-now-in-Some.now (sym c.in-Some.ensures.found) c.in_ok-now-in-Some.ensures.facts c.args.facts.now c.insert.new.self c.in_ok-insert-in-Some.ensures.put
    (λ e. true≢false (sym (c.are_kept.ensures.1 (c.get-in-Some.ensures ∙ e)) ∙ c.if-are_kept.false))
