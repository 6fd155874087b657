use Rattle.std.proofs.Common.{sym, subst, Option, Result, Ok, Err, IfOk, IfSome}
use Rattle.std.specs.Result.{result_ok}
use Rattle.rule_pick.specs.declared.facts.Facts.{Facts}
use Rattle.rule_pick.specs.FactsOf.{AreFacts}
use Rattle.item_facts.proofs.threads.facts_of_id.Goals as goal

-- what is found of an answer, where there is one
found : {E A : Type 0} {P Q : A → Type 0} (answer : Result A E) → IfOk answer P → ((x : A) → P x → Q x) → IfSome (result_ok answer) Q
found (Ok x) is more = more x is
found (Err e) is more = tt

pub returns-in-Some : goal.returns-in-Some
returns-in-Some c =
    let board = c.args.sources.now.board.now in
    let classes = c.args.sources.now.classes.now in
    subst (λ (facts : Option Facts). IfSome facts (AreFacts board classes c.args.id)) (sym c.ok.ensures.value)
    (found c.facts_of.result c.facts_of.ensures (λ f is. record { item = c.in-Some.item.now; stands = sym c.in-Some.ensures.found; facts_of = is }))
