use Rattle.std.proofs.Common.{inl, inr, map, sym, ◌∙◌, arith}
use Rattle.std.proofs.lemmas.Result.{err_from_is_err_and}
use Rattle.cond_lang.specs.Trees.{any, all, cond_tree_of}
use Rattle.cond_lang.specs.Conditions.{chain, alternatives, negation as negation_of}
use Rattle.cond_lang.proofs.Turns.{bang_read, plain_same}
use Rattle.cond_lang.proofs.Links.{linked_alone, linked_lost, linked_push, linked_whole, linked_sign, linked_part, two_after, two_at_end}
use Rattle.cond_lang.proofs.reader.+parser.Goals as goal

pub all_of-returns-in_err-first-clause-found : goal.all_of-returns-in_err-first-clause-found
all_of-returns-in_err-first-clause-found t c =
    let p = err_from_is_err_and c.from_residual.result c.from_residual.ensures.1 in rw (p.1, p.2) (linked_lost c.args.whole 38 all (negation_of c.args.whole c.args.levels) c.args.text.now _ c.in_err-first.ensures.found)

pub all_of-returns-then-not-begins_with-clause-found : goal.all_of-returns-then-not-begins_with-clause-found
all_of-returns-then-not-begins_with-clause-found t c =
    linked_alone c.args.whole 38 all (negation_of c.args.whole c.args.levels) c.args.text.now (cond_tree_of c.in_ok-first.first) c.in_ok-first.behind.now c.skip_blanks-rest.result.now c.in_ok-first.ensures.found c.in_ok-first.ensures.left c.skip_blanks-rest.ensures.value (grind (arith, c.begins_with.ensures, c.if-not-begins_with.true))

pub all_of-returns-in_err-part-clause-found : goal.all_of-returns-in_err-part-clause-found
all_of-returns-in_err-part-clause-found t c =
    let p = err_from_is_err_and c.from_residual-in_err-part.result c.from_residual-in_err-part.ensures.1 in rw (p.1, p.2) (inr (linked_sign c.args.whole 38 all (negation_of c.args.whole c.args.levels) (chain c.args.whole 38 all (negation_of c.args.whole c.args.levels) c.args.text.now) (map cond_tree_of c.members.list.items) c.members.rest.now _ c.members.invariant.linked (sym c.begins_with-in-members.ensures ∙ c.members-test.true) c.in_err-part.ensures.found))

pub all_of-returns-in_err-next-clause-found : goal.all_of-returns-in_err-next-clause-found
all_of-returns-in_err-next-clause-found t c =
    let p = err_from_is_err_and c.from_residual-in_err-next.result c.from_residual-in_err-next.ensures.1 in rw (p.1, p.2) (linked_part c.args.whole 38 all (negation_of c.args.whole c.args.levels) (chain c.args.whole 38 all (negation_of c.args.whole c.args.levels) c.args.text.now) (map cond_tree_of c.members.list.items) c.members.rest.now c.in_ok-part.part.now _ c.members.invariant.linked (sym c.begins_with-in-members.ensures ∙ c.members-test.true) c.in_ok-part.ensures.found c.in_err-next.ensures.found)

pub all_of-members-preserved : goal.all_of-members-preserved
all_of-members-preserved t c =
    record {
      linked = linked_push c.args.whole 38 all (negation_of c.args.whole c.args.levels) (chain c.args.whole 38 all (negation_of c.args.whole c.args.levels) c.args.text.now) c.members.list.items c.push-in-members.new.self.items c.in_ok-next.next c.members.rest.now c.in_ok-part.part.now c.in_ok-next.left.now c.skip_blanks-rest-in-members.result.now c.members.invariant.linked (sym c.begins_with-in-members.ensures ∙ c.members-test.true) c.in_ok-part.ensures.found c.in_ok-next.ensures.found c.in_ok-part.ensures.left c.in_ok-next.ensures.left c.in_ok-push-2.ensures.items c.skip_blanks-rest-in-members.ensures.value;
      some = let h = two_after c.members.list.items c.push-in-members.new.self.items c.in_ok-next.next c.members.invariant.some c.in_ok-push-2.ensures.items in omega (arith, h);
      two = inl (two_after c.members.list.items c.push-in-members.new.self.items c.in_ok-next.next c.members.invariant.some c.in_ok-push-2.ensures.items);
      left = omega (arith, c.skip_blanks-rest-in-members.ensures.left, c.in_ok-next.ensures.left, c.in_ok-part.ensures.left, c.members.invariant.left);
    }

pub all_of-returns-clause-found : goal.all_of-returns-clause-found
all_of-returns-clause-found t c =
    rw c.chain_of_all.ensures (linked_whole c.args.whole 38 all (negation_of c.args.whole c.args.levels) (chain c.args.whole 38 all (negation_of c.args.whole c.args.levels) c.args.text.now) c.members.list.items c.members.rest.now c.members.invariant.linked (sym c.begins_with-in-members.ensures ∙ c.members-test.false) (two_at_end 38 c.members.list.items c.members.rest.now c.members.invariant.two (sym c.begins_with-in-members.ensures ∙ c.members-test.false)))

pub any_of-returns-in_err-first-clause-found : goal.any_of-returns-in_err-first-clause-found
any_of-returns-in_err-first-clause-found t c =
    let p = err_from_is_err_and c.from_residual.result c.from_residual.ensures.1 in rw (p.1, p.2) (linked_lost c.args.whole 124 any (chain c.args.whole 38 all (negation_of c.args.whole c.args.levels)) c.args.text.now _ c.in_err-first.ensures.found)

pub any_of-returns-then-not-begins_with-clause-found : goal.any_of-returns-then-not-begins_with-clause-found
any_of-returns-then-not-begins_with-clause-found t c =
    linked_alone c.args.whole 124 any (chain c.args.whole 38 all (negation_of c.args.whole c.args.levels)) c.args.text.now (cond_tree_of c.in_ok-first.first) c.in_ok-first.behind.now c.skip_blanks-rest.result.now c.in_ok-first.ensures.found c.in_ok-first.ensures.left c.skip_blanks-rest.ensures.value (grind (arith, c.begins_with.ensures, c.if-not-begins_with.true))

pub any_of-returns-in_err-part-clause-found : goal.any_of-returns-in_err-part-clause-found
any_of-returns-in_err-part-clause-found t c =
    let p = err_from_is_err_and c.from_residual-in_err-part.result c.from_residual-in_err-part.ensures.1 in rw (p.1, p.2) (inr (linked_sign c.args.whole 124 any (chain c.args.whole 38 all (negation_of c.args.whole c.args.levels)) (alternatives c.args.whole (negation_of c.args.whole c.args.levels) c.args.text.now) (map cond_tree_of c.members.list.items) c.members.rest.now _ c.members.invariant.linked (sym c.begins_with-in-members.ensures ∙ c.members-test.true) c.in_err-part.ensures.found))

pub any_of-returns-in_err-next-clause-found : goal.any_of-returns-in_err-next-clause-found
any_of-returns-in_err-next-clause-found t c =
    let p = err_from_is_err_and c.from_residual-in_err-next.result c.from_residual-in_err-next.ensures.1 in rw (p.1, p.2) (linked_part c.args.whole 124 any (chain c.args.whole 38 all (negation_of c.args.whole c.args.levels)) (alternatives c.args.whole (negation_of c.args.whole c.args.levels) c.args.text.now) (map cond_tree_of c.members.list.items) c.members.rest.now c.in_ok-part.part.now _ c.members.invariant.linked (sym c.begins_with-in-members.ensures ∙ c.members-test.true) c.in_ok-part.ensures.found c.in_err-next.ensures.found)

pub any_of-members-preserved : goal.any_of-members-preserved
any_of-members-preserved t c =
    record {
      linked = linked_push c.args.whole 124 any (chain c.args.whole 38 all (negation_of c.args.whole c.args.levels)) (alternatives c.args.whole (negation_of c.args.whole c.args.levels) c.args.text.now) c.members.list.items c.push-in-members.new.self.items c.in_ok-next.next c.members.rest.now c.in_ok-part.part.now c.in_ok-next.left.now c.skip_blanks-rest-in-members.result.now c.members.invariant.linked (sym c.begins_with-in-members.ensures ∙ c.members-test.true) c.in_ok-part.ensures.found c.in_ok-next.ensures.found c.in_ok-part.ensures.left c.in_ok-next.ensures.left c.in_ok-push-2.ensures.items c.skip_blanks-rest-in-members.ensures.value;
      some = let h = two_after c.members.list.items c.push-in-members.new.self.items c.in_ok-next.next c.members.invariant.some c.in_ok-push-2.ensures.items in omega (arith, h);
      two = inl (two_after c.members.list.items c.push-in-members.new.self.items c.in_ok-next.next c.members.invariant.some c.in_ok-push-2.ensures.items);
      left = omega (arith, c.skip_blanks-rest-in-members.ensures.left, c.in_ok-next.ensures.left, c.in_ok-part.ensures.left, c.members.invariant.left);
    }

pub any_of-returns-clause-found : goal.any_of-returns-clause-found
any_of-returns-clause-found t c =
    rw c.chain_of_any.ensures (linked_whole c.args.whole 124 any (chain c.args.whole 38 all (negation_of c.args.whole c.args.levels)) (alternatives c.args.whole (negation_of c.args.whole c.args.levels) c.args.text.now) c.members.list.items c.members.rest.now c.members.invariant.linked (sym c.begins_with-in-members.ensures ∙ c.members-test.false) (two_at_end 124 c.members.list.items c.members.rest.now c.members.invariant.two (sym c.begins_with-in-members.ensures ∙ c.members-test.false)))

pub negation-returns-then-is_bang-clause-found : goal.negation-returns-then-is_bang-clause-found
negation-returns-then-is_bang-clause-found t c =
    rw c.in_ok-whole_cond.ensures (bang_read c.args.whole c.args.levels c.args.text.now c.skip_blanks-at.result.now c.behind_first.result.now (grind (arith, c.if-levels-eq0.false)) c.skip_blanks-at.ensures.value c.behind_first.ensures.value (cond_tree_of c.in_ok-inner.inner) c.in_ok-inner.rest.now (grind (arith, c.begins_with-is_bang.ensures, c.if-is_bang.true)) c.in_ok-inner.ensures.found)

pub negation-returns-clause-found : goal.negation-returns-clause-found
negation-returns-clause-found t c =
    rw (plain_same c.args.whole c.args.levels c.args.text.now c.skip_blanks-at.result.now (grind (arith, c.if-levels-eq0.false)) c.skip_blanks-at.ensures.value (grind (arith, c.begins_with-is_bang.ensures, c.if-is_bang.false)) (grind (arith, c.begins_with-is_bracket.ensures, c.if-is_bracket.false))) c.atom.ensures.found
