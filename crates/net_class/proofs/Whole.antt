-- What is read part by part is the whole.
use Rattle.std.proofs.Common.{◌≡◌, ◌⊎◌, inl, inr, ℕ, refl, sym, ◌∙◌, ap, ℤ, List, map, Option, Some, Result, Ok, Err, codes}
use Rattle.std.specs.Prelude.{MatchResult}
use Rattle.json_exact.specs.Json.{Json as Json'}
use Rattle.json_exact.specs.JsonText.{SpelledWithin}
use Rattle.json_exact.specs.JsonRefusals.{IsRefused, depth_limit}
use Rattle.json_exact.specs.declared.error.JsonError.{JsonError}
use Rattle.json_exact.specs.declared.error.JsonError.TheVariants.{Bad, TooDeep, OutOfMemory as NoMemoryForText}
use Rattle.net_class.specs.declared.error.ProjectError.{ProjectError}
use Rattle.net_class.specs.declared.error.ProjectError.TheVariants.{Json, OutOfMemory}
use Rattle.net_class.specs.ProjectText.{ProjectSays, refusal_of}
use Rattle.net_class.specs.NetClasses.{PlainClass, PlainPattern, PlainMins, PlainClasses, plain_mins, plain_default}
use Rattle.net_class.specs.ProjectMembers.{object_in, length_in}
use Rattle.net_class.specs.ClassesOf.{Written, or_plain, sizes_in, written_in, patterns_in, rules_in, default_clearance, class_from, classes_from, with_rest, classes_of}
use Rattle.net_class.specs.ClassValues.{Gives}

pub sizes_are : (rules : Option Json') (drill track ring via : ℤ)
    → Ok drill ≡ or_plain (length_in (codes "min_through_hole_diameter") rules) plain_mins.min_through_hole_diameter
    → Ok track ≡ or_plain (length_in (codes "min_track_width") rules) plain_mins.min_track_width
    → Ok ring ≡ or_plain (length_in (codes "min_via_annular_width") rules) plain_mins.min_via_annular_width
    → Ok via ≡ or_plain (length_in (codes "min_via_diameter") rules) plain_mins.min_via_diameter
    → Ok (record { drill = drill; track = track; ring = ring; via = via }) ≡ sizes_in rules
unfolding sizes_in
sizes_are rules drill track ring via a b c d = rw (← a, ← b, ← c, ← d) refl

pub rest_is : (root : Json') (settings : Option Json') (written : List Written) (patterns : List PlainPattern) (mins : PlainMins)
    → patterns_in settings ≡ Ok patterns → Ok mins ≡ rules_in (Some root)
    → (default : PlainClass) (named : List PlainClass) (clearance : ℤ)
    → clearance ≡ default_clearance written → default ≡ record { name = plain_default.name; clearance = clearance } → named ≡ map (class_from clearance) written
    → with_rest written settings root ≡ Ok (record { default = default; named = named; patterns = patterns; mins = mins })
unfolding classes_from
rest_is root settings written patterns mins c d default named clearance e f g = rw (c, ← d, f, g, e) refl

pub classes_are : (root : Json') (settings : Option Json') (written : List Written) (r : Result PlainClasses ProjectError)
    → Ok settings ≡ object_in (codes "net_settings") (Some root) → written_in settings ≡ Ok written → Gives r (with_rest written settings root) → Gives r (classes_of root)
unfolding classes_of
classes_are root settings written r a b h = rw (← a, b) h

-- the answer of the value that was read
pub said : (r : Result PlainClasses ProjectError) (answer says : Result PlainClasses ProjectError) → answer ≡ says → Gives r says
    → MatchResult r (λ classes. answer ≡ Ok classes) (λ e. (e ≡ OutOfMemory) ⊎ (answer ≡ Err e))
said (Ok classes) answer says e h = e ∙ h
said (Err f) answer says e (inl h) = inl h
said (Err f) answer says e (inr h) = inr (e ∙ h)

-- ---- a text that is no JSON

is_json : (e : JsonError) → (e ≡ NoMemoryForText → ⊥) → refusal_of e ≡ Json e
is_json (Bad at) h = refl
is_json (TooDeep at) h = refl
is_json NoMemoryForText h = absurd (h refl)

pub refused_says : (text : List ℕ) (e : JsonError) (p : ProjectError) → p ≡ refusal_of e → IsRefused text e → (p ≡ OutOfMemory) ⊎ ProjectSays text (Err p)
refused_says text (Bad at) p h r = inr (inr (Bad at, r, (λ k. absurd cc), ap (λ (x : ProjectError). Err x) h))
refused_says text (TooDeep at) p h r = inr (inr (TooDeep at, r, (λ k. absurd cc), ap (λ (x : ProjectError). Err x) h))
refused_says text NoMemoryForText p h r = inl h

pub refused_only : (text : List ℕ) (e : JsonError) (p : ProjectError) → p ≡ refusal_of e
    → ((v : Json') → SpelledWithin depth_limit text v → e ≡ NoMemoryForText)
    → ((f : JsonError) → IsRefused text f → (f ≡ NoMemoryForText → ⊥) → (e ≡ f) ⊎ (e ≡ NoMemoryForText))
    → (answer : Result PlainClasses ProjectError) → ProjectSays text answer → (p ≡ OutOfMemory) ⊎ (answer ≡ Err p)
refused_only text e p h only refused answer (inl k) = inl (h ∙ ap refusal_of (only k.0 k.1))
refused_only text e p h only refused answer (inr k) = by (refused k.0 k.1 k.2)
  where
    by : (e ≡ k.0) ⊎ (e ≡ NoMemoryForText) → (p ≡ OutOfMemory) ⊎ (answer ≡ Err p)
    by (inl same) = inr (k.3 ∙ ap (λ (x : ProjectError). Err x) (sym (h ∙ ap refusal_of same ∙ is_json k.0 k.2)))
    by (inr none) = inl (h ∙ ap refusal_of none)
