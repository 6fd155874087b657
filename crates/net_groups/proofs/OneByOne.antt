-- Works whose parts are found one after the other.
use Rattle.std.proofs.Common.{◌≡◌, ◌∙◌, refl, sym, subst, ℕ, ◌+◌, ◌<◌, ◌≤◌, ◌⊎◌, inl, inr, List, length, set, slice_index_or, arith}
use Rattle.std.specs.Prelude.{IfSome}
use Rattle.std.proofs.lemmas.Bool.{cases_eq}
use Rattle.std.proofs.lemmas.List.{length-set, get_or_default, get_or-set_same, get_or-set_other}
use Rattle.board_items.specs.Boards.{PlainBoard}
use Rattle.net_groups.specs.NetParts.{IsNetPart}
use Rattle.net_groups.specs.declared.works.Work.{Work}
use Rattle.net_groups.specs.Works.{AreFound, AreFoundUpTo}

pub none_yet : (board : PlainBoard) (works : List Work) → AreFoundUpTo board 0 works works
none_yet board works = record { long = refl; found = λ j d l m. absurd (omega arith); rest = λ j d l. refl }

-- the next work has found its part
pub one_more : (board : PlainBoard) (count : ℕ) (works after : List Work) (was now : Work) → AreFoundUpTo board count works after → count < length after → was ≡ slice_index_or after count was
    → now.place ≡ was.place → now.net ≡ was.net → IfSome now.part (IsNetPart board was.net) → AreFoundUpTo board (count + 1) works (set after count now)
one_more board count works after was now h l at place net part = record {
  long = length-set after count now ∙ h.long;
  found = λ j d below within. by j d below within (cases_eq j count);
  rest = λ j d past. get_or-set_other after count j now d (λ e. omega (arith, e)) ∙ h.rest j d (omega arith);
}
  where
    IsFoundAt : Work → Work → Type 0
    IsFoundAt to from = (to.place ≡ from.place) × (to.net ≡ from.net) × IfSome to.part (IsNetPart board from.net)

    own : (d : Work) → IsFoundAt (slice_index_or (set after count now) count d) (slice_index_or works count d)
    own d =
        let same : was ≡ slice_index_or works count d = at ∙ get_or_default after count was d l ∙ h.rest count d (omega arith) in
        subst (λ (to : Work). IsFoundAt to (slice_index_or works count d)) (sym (get_or-set_same after count now d l))
        (subst (λ (from : Work). IsFoundAt now from) same (place, net, part))

    by : (j : ℕ) (d : Work) → j < count + 1 → j < length works → (j ≡ count) ⊎ (j ≡ count → ⊥) → IsFoundAt (slice_index_or (set after count now) j d) (slice_index_or works j d)
    by j d below within (inl e) = subst (λ k. IsFoundAt (slice_index_or (set after count now) k d) (slice_index_or works k d)) (sym e) (own d)
    by j d below within (inr n) = subst (λ (to : Work). IsFoundAt to (slice_index_or works j d)) (sym (get_or-set_other after count j now d n)) (h.found j d (omega (arith, n)) within)

pub all_found : (board : PlainBoard) (works after : List Work) (count : ℕ) → AreFoundUpTo board count works after → length works ≤ count → AreFound board works after
all_found board works after count h l = record { long = h.long; each = λ j d m. h.found j d (omega arith) m }
