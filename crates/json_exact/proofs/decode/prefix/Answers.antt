use Rattle.std.proofs.Common.{arith, ◌∙◌, sym, ap, refl, ◌++◌, ◌∷◌, [], ℕ, drop, false, ◌≡◌, get_or}
use Rattle.std.specs.Char.{encode_utf8}
use Rattle.json_exact.specs.Characters.{decoded, code_unit, is_high_surrogate, surrogate_pair}
use Rattle.json_exact.proofs.Prefixes.{prefixes_of, prefix_plain, prefix_cut, prefix_short, prefix_u_cut, prefix_unit, prefix_half_cut, prefix_pair, low_unit, high_unit, is_high, pair_is}
use Rattle.json_exact.proofs.decode.prefix.Goals as goal
use Rattle.json_exact.proofs.decode.prefix.Goals.{then-unit-lt55296-via-then-unit-lt55296, then-unit-lt55296-via-else-unit-lt55296+then-unit-gt56319}

pub returns-then-first-ne92 : goal.returns-then-first-ne92
returns-then-first-ne92 c =
    record { some = omega arith; in_raw = omega arith; fits = omega arith; size = refl; bytes = prefix_plain c.args.raw.now c.requires c.if-first-ne92.true }

pub returns-then-raw-lt2 : goal.returns-then-raw-lt2
returns-then-raw-lt2 c =
    record { some = omega arith; in_raw = omega arith; fits = omega arith; size = refl; bytes = prefix_cut c.args.raw.now c.requires c.if-first-ne92.false c.if-raw-lt2.true }

pub returns-then-second-ne117 : goal.returns-then-second-ne117
returns-then-second-ne117 c =
    record {
      some = omega arith;
      in_raw = omega arith;
      fits = omega arith;
      size = refl;
      bytes = prefix_short c.args.raw.now c.if-raw-lt2.false c.if-first-ne92.false c.if-second-ne117.true ∙ ap (λ (x : ℕ). (x ∷ []) ++ decoded (drop 2 c.args.raw.now)) (sym c.short_value.ensures);
    }

pub returns-then-raw-lt6 : goal.returns-then-raw-lt6
returns-then-raw-lt6 c =
    record {
      some = omega arith;
      in_raw = omega arith;
      fits = omega arith;
      size = refl;
      bytes = prefix_u_cut c.args.raw.now c.if-raw-lt2.false c.if-first-ne92.false c.if-second-ne117.false c.if-raw-lt6.true;
    }

pub returns-then-unit-lt55296 : goal.returns-then-unit-lt55296
returns-then-unit-lt55296 c =
    let low : is_high_surrogate c.code_unit-unit.result ≡ false = elim c.then-unit-lt55296.branch [
      | then-unit-lt55296-via-then-unit-lt55296 w ↦ low_unit _ w.if-unit-lt55296.true
      | then-unit-lt55296-via-else-unit-lt55296+then-unit-gt56319 w ↦ high_unit _ w.if-unit-gt56319.true
    ] in
    prefixes_of c.args.raw.now c.encoded.result 6 _ c.encoded.ensures.used (c.encoded.ensures.bytes ∙ ap encode_utf8 c.code_unit-unit.ensures.value) c.encoded.ensures.fits c.encoded.ensures.size (omega arith) c.if-raw-lt6.false
    (prefix_unit c.args.raw.now c.if-raw-lt6.false c.if-first-ne92.false c.if-second-ne117.false (sym (ap is_high_surrogate c.code_unit-unit.ensures.value) ∙ low))

pub returns-then-raw-lt12 : goal.returns-then-raw-lt12
returns-then-raw-lt12 c =
    record {
      some = omega arith;
      in_raw = omega arith;
      fits = omega arith;
      size = refl;
      bytes = prefix_half_cut c.args.raw.now c.if-raw-lt6.false c.if-first-ne92.false c.if-second-ne117.false
          (sym (ap is_high_surrogate c.code_unit-unit.ensures.value) ∙ is_high _ c.if-unit-lt55296.false c.if-unit-gt56319.false) c.if-raw-lt12.true;
    }

pub returns : goal.returns
returns c =
    prefixes_of c.args.raw.now c.encoded-2.result 12 _ c.encoded-2.ensures.used
    (c.encoded-2.ensures.bytes ∙ pair_is _ _ _ c.saturating_sub.ensures ∙ ap (λ (x : ℕ). encode_utf8 (surrogate_pair x c.code_unit-low.result)) c.code_unit-unit.ensures.value
    ∙ ap (λ (x : ℕ). encode_utf8 (surrogate_pair (code_unit (get_or c.args.raw.now 2 0) (get_or c.args.raw.now 3 0) (get_or c.args.raw.now 4 0) (get_or c.args.raw.now 5 0)) x)) c.code_unit-low.ensures.value)
    c.encoded-2.ensures.fits c.encoded-2.ensures.size (omega arith) c.if-raw-lt12.false
    (prefix_pair c.args.raw.now c.if-raw-lt12.false c.if-first-ne92.false c.if-second-ne117.false
    (sym (ap is_high_surrogate c.code_unit-unit.ensures.value) ∙ is_high _ c.if-unit-lt55296.false c.if-unit-gt56319.false))
