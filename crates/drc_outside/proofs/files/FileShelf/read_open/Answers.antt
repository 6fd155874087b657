use Rattle.std.proofs.Common.{List, ℕ, IfSome, sym, subst}
use Rattle.drc_outside.specs.FilePositions.{Told, IsFileAt}
use Rattle.drc_outside.proofs.Passing.{kept_behind}
use Rattle.drc_outside.proofs.files.FileShelf.read_open.Goals as goal

pub keep-requires : goal.keep-requires
keep-requires g c =
    subst (λ (seen : Told). IfSome {T = List ℕ} c.in_ok-opened.opened.name (λ name. IsFileAt seen.files name c.in-Some.behind (g.O.File.Read.remaining c.fill.new.file))) (sym c.in_ok-opened.ensures.same)
    (kept_behind _ _ _ _ _ _ _ _ _ c.in_ok-opened.ensures.named c.in_ok-opened.ensures.stands c.in_ok-n.ensures.within c.in_ok-n.ensures.bytes c.in-Some.ensures.1)
