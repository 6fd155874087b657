-- What a constraint says of its kind: lengths, or words of what is banned, or a condition.
use Rattle.std.specs.Prelude.{ℕ, ℤ, List, [], ◌∷◌, codes, find, Bool, true, false, is_some, Option, None, Some, Result, Ok, Err, if◌then◌else◌}
use Rattle.plain_types.specs.Lengths.{is_length}
use Rattle.sexpr_read.specs.Tree.{Tree, content}
use Rattle.exact_dec.specs.declared.DecError.{DecError}
use Rattle.exact_dec.specs.Computed.{with_unit_answer}
use Rattle.cond_lang.specs.declared.kind.Kind.{Kind}
use Rattle.cond_lang.specs.declared.kind.Kind.TheVariants.{Clearance, HoleClearance, HoleToHole, EdgeClearance, CourtyardClearance, TrackWidth, ViaDiameter, HoleSize, AnnularWidth, Disallow as Banning, PhysicalClearance, PhysicalHoleClearance, Assertion}
use Rattle.cond_lang.specs.declared.rule.Disallow.{Disallow}
use Rattle.cond_lang.specs.Found.{Found, read, fault}
use Rattle.cond_lang.specs.CheckKinds.{kind_name}
use Rattle.cond_lang.specs.Trees.{CondTree}
use Rattle.cond_lang.specs.Conditions.{reading}
use Rattle.rule_text.specs.declared.error.RuleError.{RuleError}
use Rattle.rule_text.specs.declared.error.RuleError.TheVariants.{Cond, BadNumber}
use Rattle.list_read.specs.FirstRefusals.{◌>>=◌, needed}
use Rattle.list_read.specs.ListHeads.{place, text_of, is_text, has_head}
use Rattle.rule_text.specs.RuleForms.{bad, atom_at}

-- ---- kinds

-- the kinds that a constraint may name
abbrev pub constrained_kinds : List Kind
constrained_kinds =
    Clearance ∷ HoleClearance ∷ HoleToHole ∷ EdgeClearance ∷ CourtyardClearance ∷ TrackWidth ∷ ViaDiameter ∷ HoleSize ∷ AnnularWidth ∷ Banning ∷ PhysicalClearance ∷ PhysicalHoleClearance ∷ Assertion ∷ []

abbrev pub is_name_of : Tree → Kind → Bool
is_name_of atom kind = is_text atom (kind_name kind)

-- the one of them that an atom names; None where the name is that of another constraint
unfoldable pub kind_named : Tree → Option Kind
kind_named atom = find (is_name_of atom) constrained_kinds

-- ---- lengths

abbrev pub length_from : RuleError → Result ℤ DecError → Result ℤ RuleError
length_from e (Ok n) = if is_length n then Ok n else Err e
length_from e (Err _) = Err e

-- a length with its unit
unfoldable pub length_in : Tree → Result ℤ RuleError
length_in atom = do
  text ← needed (BadNumber (place atom)) (content atom)
  length_from (BadNumber (place atom)) (with_unit_answer text)

-- what is known so far: the least and the most length, and whether the one between was given
pub record PlainLimits : Type 0 where
  pub least : Option ℤ
  pub wished : Bool
  pub most : Option ℤ

-- (min V), (opt V) or (max V). Of two of one name the first counts, and the others are passed over
unfoldable pub with_least : PlainLimits → Tree → Result PlainLimits RuleError
with_least limits part =
    if is_some limits.least then Ok limits
    else (atom_at part >>= λ atom. length_in atom >>= λ n. Ok (record limits { least = Some n }))

unfoldable pub with_wished : PlainLimits → Tree → Result PlainLimits RuleError
with_wished limits part =
    if limits.wished then Ok limits
    else (atom_at part >>= λ atom. length_in atom >>= λ n. Ok (record limits { wished = true }))

unfoldable pub with_most : PlainLimits → Tree → Result PlainLimits RuleError
with_most limits part =
    if is_some limits.most then Ok limits
    else (atom_at part >>= λ atom. length_in atom >>= λ n. Ok (record limits { most = Some n }))

unfoldable pub with_limit : PlainLimits → Tree → Result PlainLimits RuleError
with_limit limits part =
    if has_head (codes "min") part then with_least limits part
    else if has_head (codes "opt") part then with_wished limits part
    else if has_head (codes "max") part then with_most limits part
    else bad part

unfoldable pub with_limits : PlainLimits → List Tree → Result PlainLimits RuleError
with_limits limits [] = Ok limits
with_limits limits (t ∷ ts) = with_limit limits t >>= λ more. with_limits more ts

abbrev pub unlimited : PlainLimits
unlimited = record { least = None; wished = false; most = None }

-- ---- bans

-- what a word bans beside
unfoldable pub with_ban : Disallow → Tree → Result Disallow RuleError
with_ban bans word =
    if is_text word (codes "track") then Ok (record bans { tracks = true })
    else if is_text word (codes "via") then Ok (record bans { vias = true })
    else if is_text word (codes "micro_via") then Ok (record bans { micro_vias = true })
    else if is_text word (codes "buried_via") then Ok (record bans { buried_vias = true })
    else if is_text word (codes "pad") then Ok (record bans { pads = true })
    else if is_text word (codes "zone") then Ok (record bans { zones = true })
    else if is_text word (codes "graphic") then Ok (record bans { graphics = true })
    else if is_text word (codes "hole") then Ok (record bans { holes = true })
    else if is_text word (codes "footprint") then Ok (record bans { footprints = true })
    else if is_text word (codes "text") then Ok (record bans { texts = true })
    else bad word

unfoldable pub with_bans : Disallow → List Tree → Result Disallow RuleError
with_bans bans [] = Ok bans
with_bans bans (t ∷ ts) = with_ban bans t >>= λ more. with_bans more ts

-- ---- conditions

abbrev pub cond_from : ℕ → Found CondTree → Result CondTree RuleError
cond_from at (read tree rest) = Ok tree
cond_from at (fault e) = Err (Cond at e)

-- the condition that an atom stands for
unfoldable pub cond_in : Tree → Result CondTree RuleError
cond_in atom = cond_from (place atom) (reading (text_of atom))
