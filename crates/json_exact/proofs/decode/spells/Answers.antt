use Rattle.std.proofs.Common.{arith, ◌∙◌, sym, ap, subst, ◌≡◌, ℕ, List, drop, true, false, length, ◌≤◌}
use Rattle.std.proofs.lemmas.List.{length-drop}
use Rattle.json_exact.specs.ByteComparisons.{Prefixes, begins_with, piece_bytes}
use Rattle.json_exact.proofs.Prefixes.{spelled_on, not_spelled, all_spelled}
use Rattle.json_exact.proofs.decode.spells.Goals as goal

pub returns-then-not-begins_with : goal.returns-then-not-begins_with
returns-then-not-begins_with c =
    let f : Prefixes (drop c.characters.i c.args.raw.now) c.prefix-piece.result = subst (λ (x : List ℕ). Prefixes x c.prefix-piece.result) c.behind.ensures c.prefix-piece.ensures in
    let b : begins_with (piece_bytes c.prefix-piece.result) (drop c.characters.j c.args.name.now) ≡ false =
    ap (λ (x : List ℕ). begins_with x (drop c.characters.j c.args.name.now)) (sym c.bytes.ensures) ∙ ap (λ (x : List ℕ). begins_with c.bytes.result.now x) (sym c.behind-in-characters.ensures)
    ∙ sym c.begins_with.ensures.value ∙ c.if-not-begins_with.true in
    not_spelled c.args.raw.now c.args.name.now c.characters.i c.characters.j c.prefix-piece.result f b c.characters.invariant.2

pub characters-preserved : goal.characters-preserved
characters-preserved c =
    let f : Prefixes (drop c.characters.i c.args.raw.now) c.prefix-piece.result = subst (λ (x : List ℕ). Prefixes x c.prefix-piece.result) c.behind.ensures c.prefix-piece.ensures in
    let b : begins_with (piece_bytes c.prefix-piece.result) (drop c.characters.j c.args.name.now) ≡ true =
    ap (λ (x : List ℕ). begins_with x (drop c.characters.j c.args.name.now)) (sym c.bytes.ensures) ∙ ap (λ (x : List ℕ). begins_with c.bytes.result.now x) (sym c.behind-in-characters.ensures)
    ∙ sym c.begins_with.ensures.value ∙ c.if-not-begins_with.false in
    let fit : length c.bytes.result.now ≤ length c.behind-in-characters.result.now = c.begins_with.ensures.fits c.if-not-begins_with.false in (
      omega (arith, f.in_raw, length-drop c.characters.i c.args.raw.now),
      omega (arith, fit, f.size, ap length c.bytes.ensures, ap length c.behind-in-characters.ensures, length-drop c.characters.j c.args.name.now),
      spelled_on c.args.raw.now c.args.name.now c.characters.i c.characters.j c.prefix-piece.result f b c.characters.invariant.2,
    )

pub returns : goal.returns
returns c = all_spelled c.args.raw.now c.args.name.now c.characters.i c.characters.j c.characters.invariant.0 c.characters-test.false c.characters.invariant.1 c.characters.invariant.2
