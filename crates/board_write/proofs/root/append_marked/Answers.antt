use Rattle.std.proofs.Common.{◌≡◌, ◌∙◌, sym, ap, subst, List, ℕ, ◌++◌}
use Rattle.sexpr_read.specs.Tree.{Forest, span}
use Rattle.sexpr_read.specs.TreeViews.{tree_of}
use Rattle.roundtrip_text.specs.RewrittenText.{list_by}
use Rattle.board_write.specs.declared.marks.Mark.{Mark}
use Rattle.board_write.specs.declared.places.Moving.{Moving}
use Rattle.board_write.specs.declared.setting.Setting.TheVariants.{AsInText}
use Rattle.board_write.specs.Settings.{inside, updated, list_down, unit_moving}
use Rattle.board_write.specs.Dispositions.{mark_disposition}
use Rattle.board_write.proofs.Prefixes.{on_ok}
use Rattle.board_write.proofs.Editing.{moved_text}
use Rattle.board_write.proofs.root.append_marked.Goals as goal

pub returns-in-Moved : goal.returns-in-Moved
returns-in-Moved c =
    let f : Forest = inside (tree_of c.args.list) in
    let s = span (tree_of c.args.list) in
    let old : List ℕ = c.args.out.now.items in
    on_ok c.append_list.result
    (λ e.
    subst (λ (m : Mark). c.append_list.new.out.items ≡ old ++ list_by c.args.text.now s (mark_disposition m f)) (sym c.in-Moved.is)
    (e ∙ ap (λ (m : Moving). old ++ list_down (AsInText c.args.text) s (updated m f)) c.of_unit-moving.ensures ∙ ap (λ (l : List ℕ). old ++ l) (moved_text c.args.text s (updated (unit_moving c.in-Moved.by f) f))))
    c.append_list.ensures
