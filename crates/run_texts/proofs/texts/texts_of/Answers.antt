use Rattle.std.proofs.Common.{◌∙◌, ◌≤◌, ℕ, List, subst, arith}
use Rattle.net_class.specs.NetClasses.{plain_classes}
use Rattle.rule_text.specs.RulesOf.{no_rules}
use Rattle.rule_text.specs.RuleValues.{plain_rules}
use Rattle.run_words.specs.CallValues.{reading_in}
use Rattle.run_texts.specs.declared.texts.Which.TheVariants.{Project, Rules}
use Rattle.run_texts.specs.NamedTexts.{a_project, a_rules}
use Rattle.run_texts.specs.RunFindings.{Gives, StopsOption}
use Rattle.run_texts.proofs.Accepting.{board_stops, project_stops, rules_stop}
use Rattle.run_texts.proofs.texts.texts_of.Goals as goal

pub returns-in-Err-clause-stop : goal.returns-in-Err-clause-stop
returns-in-Err-clause-stop g c = board_stops _ _ _ (reading_in c.args.request) c.in-Err.stop c.in-Err.ensures.stop

pub returns-in-Ok-rules_of-clause-ok : goal.returns-in-Ok-rules_of-clause-ok
returns-in-Ok-rules_of-clause-ok g c =
    let reading = reading_in c.args.request in
    let classes = c.in-Ok-classes_of.classes in
    let r = plain_rules c.in-Ok-rules_of.rules in
    record {
      board = c.in-Ok.ensures.ok;
      classes = subst (λ t. Gives t Project reading.project (a_project plain_classes) (a_project classes)) c.in-Ok.ensures.same c.in-Ok-classes_of.ensures.ok;
      rules = subst (λ t. Gives t Rules reading.rules (a_rules no_rules) (a_rules r)) (c.in-Ok-classes_of.ensures.same ∙ c.in-Ok.ensures.same) c.in-Ok-rules_of.ensures.ok;
    }

pub returns-in-Err-classes_of-clause-stop : goal.returns-in-Err-classes_of-clause-stop
returns-in-Err-classes_of-clause-stop g c =
    let told = g.F.Shelf.files c.args.shelf.now in
    let before = g.F.Shelf.faults c.args.shelf.now in
    let middle = g.F.Shelf.faults c.board_of.new.shelf in
    let now = g.F.Shelf.faults c.classes_of.new.shelf in
    let reading = reading_in c.args.request in
    let stop = c.in-Err-classes_of.stop in
    project_stops told before now reading middle stop c.in-Ok.ensures.counts (record { board = c.in-Ok.board; classes = plain_classes; rules = no_rules }) c.in-Ok.ensures.ok
    (subst (λ t. StopsOption t middle now Project reading.project stop) c.in-Ok.ensures.same c.in-Err-classes_of.ensures.stop)

pub returns-in-Err-rules_of-clause-stop : goal.returns-in-Err-rules_of-clause-stop
returns-in-Err-rules_of-clause-stop g c =
    let told = g.F.Shelf.files c.args.shelf.now in
    let before = g.F.Shelf.faults c.args.shelf.now in
    let middle = g.F.Shelf.faults c.classes_of.new.shelf in
    let now = g.F.Shelf.faults c.rules_of.new.shelf in
    let reading = reading_in c.args.request in
    let classes = c.in-Ok-classes_of.classes in
    let stop = c.in-Err-rules_of.stop in
    let rises : (other : List ℕ) → before other ≤ middle other = λ other. (let a = c.in-Ok.ensures.counts other in let b = c.in-Ok-classes_of.ensures.counts other in omega (arith, a, b)) in
    rules_stop told before now reading middle stop rises (record { board = c.in-Ok.board; classes = classes; rules = no_rules }) c.in-Ok.ensures.ok
    (subst (λ t. Gives t Project reading.project (a_project plain_classes) (a_project classes)) c.in-Ok.ensures.same c.in-Ok-classes_of.ensures.ok)
    (subst (λ t. StopsOption t middle now Rules reading.rules stop) (c.in-Ok-classes_of.ensures.same ∙ c.in-Ok.ensures.same) c.in-Err-rules_of.ensures.stop)
