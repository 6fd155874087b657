use Rattle.std.proofs.Common.{◌≡◌, ◌⊎◌, ap, sym, subst, ◌∙◌}
use Rattle.clap.specs.Words.{App, IsAmong, kind_of, app_of, fault_of, is_simple, is_simple_and_free, first_of, matches_of, rows_of, found_of, first_value}
use Rattle.clap.specs.declared.error.kind.ErrorKind.TheVariants.{OutOfMemory}
use Rattle.clap.proofs.WalkLemmas.{first_value-rows}
use Rattle.run_words.specs.Calls.{drc_app, words_of}
use Rattle.run_words.proofs.Read.{free, simple, reading_is, no_reading, same_values}
use Rattle.run_words.proofs.words.request_of.Goals as goal

pub returns-in-Ok-clause-reading : goal.returns-in-Ok-clause-reading
returns-in-Ok-clause-reading c =
    let words = words_of c.args.words.now in
    let app : app_of c.in_ok-command.command ≡ drc_app = c.in_ok-command.ensures in
    let found = found_of c.in-Ok.matches in
    let kinds = ap (λ (a : App). fault_of a words) (sym app) ∙ c.in-Ok.ensures.kinds (ap is_simple_and_free app ∙ free) in
    let rows = (c.in-Ok.ensures.matches (ap is_simple app ∙ simple)).0 ∙ ap (λ (a : App). matches_of a words) app in
    c.request_in.ensures.reading
    ∙ same_values (λ name. first_value found name) (λ name. first_of name (rows_of found)) (λ name. first_value-rows found name)
    ∙ reading_is words (rows_of found) kinds rows

pub returns-clause-reading : goal.returns-clause-reading
returns-clause-reading c =
    let words = words_of c.args.words.now in
    let app : app_of c.in_ok-command.command ≡ drc_app = c.in_ok-command.ensures in
    let kind = kind_of c.in-Err.error in
    let has = subst (λ (a : App). (kind ≡ OutOfMemory) ⊎ IsAmong kind (fault_of a words)) app (c.in-Err.ensures.kinds (ap is_simple_and_free app ∙ free)) in
    no_reading words kind (λ h. c.in_default.not-OutOfMemory (c.kind.ensures ∙ h)) has
