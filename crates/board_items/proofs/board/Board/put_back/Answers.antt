use Rattle.std.proofs.Common.{◌≡◌, ◌∙◌, ap, sym, subst, List, [], ◌∷◌, ◌++◌, map, length, arith, append_assoc, length-append}
use Rattle.std.proofs.lemmas.List.{map-append}
use Rattle.board_items.specs.declared.back.Kept.{Kept}
use Rattle.board_items.specs.Boards.{PlainBoard}
use Rattle.board_items.specs.Units.{without_unit}
use Rattle.board_items.specs.Back.{kept_entry, all_placed, entries_of, FitsOne, IsPutBack}
use Rattle.board_items.proofs.AllPlaced.{one_fits, rest_taken, rest_left, same_kept, as_many, empty_of, put_back}
use Rattle.board_items.proofs.board.Board.put_back.Goals as goal

pub put_one-requires : goal.put_one-requires
put_one-requires c =
    let rest : List Kept = c.items.invariant.0 in
    let cut : c.args.items.now.items ≡ c.pop.new.self.items ++ c.in-Some.kept ∷ rest = c.items.invariant.1 ∙ ap (λ (xs : List Kept). xs ++ rest) c.in-Some.ensures.items ∙ append_assoc c.pop.new.self.items (c.in-Some.kept ∷ []) rest in
    subst (λ (b : PlainBoard). FitsOne b (kept_entry c.in-Some.kept)) (sym c.items.invariant.2) (one_fits c.args.self.now c.args.items.now.items c.pop.new.self.items rest c.in-Some.kept cut c.requires.fits)

pub take_into-requires : goal.take_into-requires
take_into-requires c =
    let rest : List Kept = c.items.invariant.0 in
    let cut : c.args.items.now.items ≡ c.pop.new.self.items ++ c.in-Some.kept ∷ rest = c.items.invariant.1 ∙ ap (λ (xs : List Kept). xs ++ rest) c.in-Some.ensures.items ∙ append_assoc c.pop.new.self.items (c.in-Some.kept ∷ []) rest in
    let same : c.put_one.new.self ≡ record c.args.self.now { items = all_placed (map kept_entry rest) c.args.self.now.items } = c.in-Err.ensures.unchanged ∙ c.items.invariant.2 in
    let own : entries_of c.in-Some.kept.item.unit c.put_one.new.self.items ≡ map kept_entry rest =
    ap (λ (b : PlainBoard). entries_of c.in-Some.kept.item.unit b.items) same ∙ rest_taken c.args.self.now c.args.items.now.items c.pop.new.self.items rest c.in-Some.kept cut c.requires.fits in
    let long = ap length own ∙ as_many rest in
    let all = ap length cut ∙ length-append c.pop.new.self.items (c.in-Some.kept ∷ rest) in
    let whole = c.args.items.now.ok.0 in
    let left = c.pop.new.self.ok.0 in
    omega (arith, long, all, whole, left)

pub returns-in-Err-clause-unchanged : goal.returns-in-Err-clause-unchanged
returns-in-Err-clause-unchanged c =
    let rest : List Kept = c.items.invariant.0 in
    let cut : c.args.items.now.items ≡ c.pop.new.self.items ++ c.in-Some.kept ∷ rest = c.items.invariant.1 ∙ ap (λ (xs : List Kept). xs ++ rest) c.in-Some.ensures.items ∙ append_assoc c.pop.new.self.items (c.in-Some.kept ∷ []) rest in
    let same : c.put_one.new.self ≡ record c.args.self.now { items = all_placed (map kept_entry rest) c.args.self.now.items } = c.in-Err.ensures.unchanged ∙ c.items.invariant.2 in
    let own : entries_of c.in-Some.kept.item.unit c.put_one.new.self.items ≡ map kept_entry rest =
    ap (λ (b : PlainBoard). entries_of c.in-Some.kept.item.unit b.items) same ∙ rest_taken c.args.self.now c.args.items.now.items c.pop.new.self.items rest c.in-Some.kept cut c.requires.fits in
    c.take_into.ensures.taken ∙ ap (λ (b : PlainBoard). without_unit b c.in-Some.kept.item.unit) same ∙ rest_left c.args.self.now c.args.items.now.items c.pop.new.self.items rest c.in-Some.kept cut c.requires.fits

pub returns-in-Err-clause-kept : goal.returns-in-Err-clause-kept
returns-in-Err-clause-kept c =
    let rest : List Kept = c.items.invariant.0 in
    let cut : c.args.items.now.items ≡ c.pop.new.self.items ++ c.in-Some.kept ∷ rest = c.items.invariant.1 ∙ ap (λ (xs : List Kept). xs ++ rest) c.in-Some.ensures.items ∙ append_assoc c.pop.new.self.items (c.in-Some.kept ∷ []) rest in
    let same : c.put_one.new.self ≡ record c.args.self.now { items = all_placed (map kept_entry rest) c.args.self.now.items } = c.in-Err.ensures.unchanged ∙ c.items.invariant.2 in
    let own : entries_of c.in-Some.kept.item.unit c.put_one.new.self.items ≡ map kept_entry rest =
    ap (λ (b : PlainBoard). entries_of c.in-Some.kept.item.unit b.items) same ∙ rest_taken c.args.self.now c.args.items.now.items c.pop.new.self.items rest c.in-Some.kept cut c.requires.fits in
    same_kept c.take_into.new.items.items c.args.items.now.items
    (c.take_into.ensures.items ∙ ap (λ ys. map kept_entry c.push_reserved.new.self.items ++ ys) own
    ∙ ap (λ (xs : List Kept). map kept_entry xs ++ map kept_entry rest) (c.push_reserved.ensures.items ∙ ap (λ (k : Kept). c.pop.new.self.items ++ k ∷ []) c.in-Err.ensures.same)
    ∙ sym (map-append kept_entry (c.pop.new.self.items ++ c.in-Some.kept ∷ []) rest)
    ∙ ap (map kept_entry) (append_assoc c.pop.new.self.items (c.in-Some.kept ∷ []) rest ∙ sym cut))

pub returns-clause-back : goal.returns-clause-back
returns-clause-back c =
    let rest : List Kept = c.items.invariant.0 in
    let len = c.in_default.ensures.cases.0 in
    let ok = c.items.items.ok.0 in
    let none : c.items.items.items ≡ [] = empty_of c.items.items.items (omega (arith, len, ok)) in
    let all : c.args.items.now.items ≡ rest = c.items.invariant.1 ∙ ap (λ (xs : List Kept). xs ++ rest) none in
    subst (λ (b : PlainBoard). IsPutBack (map kept_entry c.args.items.now.items) c.args.self.now b)
    (sym (c.items.invariant.2 ∙ ap (λ (xs : List Kept). record c.args.self.now { items = all_placed (map kept_entry xs) c.args.self.now.items }) (sym all)))
    (put_back c.args.self.now (map kept_entry c.args.items.now.items) c.next_id-count.ensures.sound.ids c.requires.fits)
