use Rattle.std.proofs.Common.{sym, ◌∙◌, inl, inr, ◌⊎◌, ◌≡◌, true, get_or}
use Rattle.json_exact.specs.Json.{null_word, true_word, false_word}
use Rattle.json_exact.specs.JsonNumbers.{is_digit}
use Rattle.json_exact.proofs.Turns.{leaf_string, leaf_number, leaf_word}
use Rattle.json_exact.proofs.reader.leaf_end.Goals as goal
use Rattle.json_exact.proofs.reader.leaf_end.Goals.{then-b-eq45, else-b-eq45}

pub returns-then-b-eq34-clause-leaf : goal.returns-then-b-eq34-clause-leaf
returns-then-b-eq34-clause-leaf c = leaf_string c.args.text.now c.args.at c.string_end.result c.with_kind.result c.with_kind.ensures c.if-b-eq34.true c.string_end.ensures.string

pub returns-then-is_digit-clause-leaf : goal.returns-then-is_digit-clause-leaf
returns-then-is_digit-clause-leaf c =
    let b = get_or c.args.text.now c.args.at 0 in
    let first : (b ≡ 45) ⊎ (is_digit b ≡ true) = elim c.if-b-eq45.branch
    [ then-b-eq45 w ↦ inl w.if-b-eq45.true | else-b-eq45 w ↦ inr (sym w.is_digit.ensures ∙ sym w.value-is ∙ c.if-is_digit.true) ] in
    leaf_number c.args.text.now c.args.at c.number_end.result c.with_kind-then-is_digit.result c.with_kind-then-is_digit.ensures first c.number_end.ensures

pub returns-then-b-eq110-clause-leaf : goal.returns-then-b-eq110-clause-leaf
returns-then-b-eq110-clause-leaf c =
    leaf_word null_word c.args.text.now c.args.at c.word_end.result c.with_kind-then-b-eq110.result c.with_kind-then-b-eq110.ensures c.if-b-eq110.true c.word_end.ensures

pub returns-then-b-eq116-clause-leaf : goal.returns-then-b-eq116-clause-leaf
returns-then-b-eq116-clause-leaf c =
    leaf_word true_word c.args.text.now c.args.at c.word_end-then-b-eq116.result c.with_kind-then-b-eq116.result c.with_kind-then-b-eq116.ensures c.if-b-eq116.true c.word_end-then-b-eq116.ensures

pub returns-then-b-eq102-clause-leaf : goal.returns-then-b-eq102-clause-leaf
returns-then-b-eq102-clause-leaf c =
    leaf_word false_word c.args.text.now c.args.at c.word_end-then-b-eq102.result c.with_kind-then-b-eq102.result c.with_kind-then-b-eq102.ensures c.if-b-eq102.true c.word_end-then-b-eq102.ensures
