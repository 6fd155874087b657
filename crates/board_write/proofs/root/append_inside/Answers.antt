use Rattle.std.proofs.Common.{◌≡◌, ◌∙◌, ◌+◌, ◌-◌, sym, ap, subst, ℕ, List, ◌++◌}
use Rattle.sexpr_read.specs.Tree.{Tree, span, parts}
use Rattle.sexpr_read.specs.TreeViews.{tree_of, trees_left}
use Rattle.roundtrip_text.specs.RewrittenText.{edited}
use Rattle.board_write.specs.declared.root.Units.{Units}
use Rattle.board_write.specs.Settings.{grove, inside}
use Rattle.board_write.specs.Dispositions.{dispositions_by}
use Rattle.board_write.proofs.Editing.{begun_all, past_atom, past_list}
use Rattle.board_write.proofs.root.append_inside.Goals as goal
use Rattle.board_write.proofs.root.append_inside.Goals.{then-is_list+in_ok-append_marked, else-is_list+in_ok-append_atom}

pub loop-part-init : goal.loop-part-init
loop-part-init c =
    begun_all c.args.text.now (tree_of c.args.root) c.span-whole.result c.args.units.marks.now c.args.units.spans.now (trees_left c.into_iter-part-iterator.result) c.args.out.now.items c.span-whole.ensures
    (ap trees_left c.into_iter-part-iterator.ensures.into_iter_gives ∙ c.children-part-items.ensures.given)

pub loop-part-preserved : goal.loop-part-preserved
loop-part-preserved c =
    let text : List ℕ = c.args.text.now in
    let to : ℕ = (span (tree_of c.args.root)).end - 1 in
    let at = c.loop-part in
    let all : List ℕ = c.args.out.now.items ++ edited text ((span (tree_of c.args.root)).at + 1) to (dispositions_by c.args.units.marks.now c.args.units.spans.now (parts (tree_of c.args.root))) (inside (tree_of c.args.root)) in
    let t : Tree = tree_of c.in-Some.part in
    let ts : List Tree = trees_left c.next.new.self in
    let s = c.span-span.result in
    let gapped = c.in_ok-append.ensures ∙ ap (λ (l : List ℕ). at.out.items ++ l) c.piece.ensures in
    elim c.if-is_list.branch [
      | then-is_list+in_ok-append_marked w ↦ past_list text at.from to at.units.marks.now at.units.spans.now t (trees_left at.part-iterator) ts at.out.items all s c.in-Some.ensures.steps c.span-span.ensures at.invariant
          c.append.new.out.items c.if-is_list.out.items w.mark_here.result c.if-is_list.units.marks.now c.if-is_list.units.spans.now (sym c.is_list.ensures ∙ w.if-is_list.true) gapped w.mark_here.ensures
          (ap (λ v. v.items) w.out-is ∙ w.in_ok-append_marked.ensures) (ap (λ (u : Units). u.marks.now) w.units-is ∙ w.behind-units.ensures.marks) (ap (λ (u : Units). u.spans.now) w.units-is ∙ w.behind-units.ensures.spans)
      | else-is_list+in_ok-append_atom w ↦ subst (λ (u : Units). c.if-is_list.out.items ++ edited text s.end to (dispositions_by u.marks.now u.spans.now ts) (grove ts) ≡ all) (sym w.units-is)
          (past_atom text at.from to at.units.marks.now at.units.spans.now t (trees_left at.part-iterator) ts at.out.items all s c.in-Some.ensures.steps c.span-span.ensures at.invariant
          c.append.new.out.items c.if-is_list.out.items (sym c.is_list.ensures ∙ w.if-is_list.false) gapped (ap (λ v. v.items) w.out-is ∙ w.in_ok-append_atom.ensures))
    ]
