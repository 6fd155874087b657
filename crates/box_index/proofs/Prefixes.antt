-- Lists that begin with what was there.
use Rattle.std.proofs.Common.{◌≡◌, ◌∙◌, ap, sym, subst, ℕ, List, ◌++◌, length, take, drop, append_assoc}
use Rattle.std.proofs.Math.Seq.{take-length, take-append_seam}
use Rattle.std.proofs.lemmas.List.{take-append-drop}
use Rattle.box_index.specs.Reached.{BeginsWith}

pub prefix_itself : (old : List ℕ) → BeginsWith old old
prefix_itself old = take-length old

split : (old new : List ℕ) → BeginsWith old new → new ≡ old ++ drop (length old) new
split old new h = sym (take-append-drop (length old) new) ∙ ap (λ (l : List ℕ). l ++ drop (length old) new) h

pub prefix_append : (old now more : List ℕ) → BeginsWith old now → BeginsWith old (now ++ more)
prefix_append old now more h =
    subst (λ (l : List ℕ). BeginsWith old (l ++ more)) (sym (split old now h))
    (ap (take (length old)) (append_assoc old (drop (length old) now) more) ∙ take-append_seam old (drop (length old) now ++ more))

pub prefix_then : (old now then : List ℕ) → BeginsWith old now → BeginsWith now then → BeginsWith old then
prefix_then old now then h k = subst (BeginsWith old) (sym (split now then k)) (prefix_append old now (drop (length now) then) h)
