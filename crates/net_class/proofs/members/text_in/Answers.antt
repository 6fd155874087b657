use Rattle.std.proofs.Common.{sym, ◌∙◌, ap, subst, Option, Some, None, List, [], ℕ, ◌≡◌, ◌++◌, true, false, Bool, unwrap_or}
use Rattle.std.specs.Prelude.{IsUtf8, MatchOption}
use Rattle.json_exact.specs.Json.{text_of}
use Rattle.json_exact.specs.Handles.{json_of}
use Rattle.net_class.proofs.members.text_in.Goals as goal

-- what was appended to nothing is the text
appended : (text : Option (List ℕ)) (said : Bool) (before after : List ℕ) → before ≡ [] → said ≡ true
    → MatchOption text ((said ≡ false) × (after ≡ before)) (λ t. (said ≡ true) × (after ≡ before ++ t)) → IsUtf8 (unwrap_or text []) → IsUtf8 after
appended None said before after e k h u = absurd cc
appended (Some t) said before after e k h u =
    let same : after ≡ before ++ t = h.1 in
    let whole : after ≡ t = same ∙ ap (λ (x : List ℕ). x ++ t) e in
    subst (λ (x : List ℕ). IsUtf8 x) (sym whole) u

pub of-requires : goal.of-requires
of-requires c = appended (text_of (json_of c.in-Some.member)) c.in_ok-text.field-0 c.new-bytes.result.items c.text.new.out.items c.new-bytes.ensures.items c.if-branch.true c.in_ok-text.ensures.ok c.text.ensures.utf8
