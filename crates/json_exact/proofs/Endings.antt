-- Each begun text can be ended.
use Rattle.std.proofs.Common.{◌≡◌, ◌≢◌, ℕ, suc, ◌+◌, List, [], ◌∷◌, ◌++◌, length, take, drop, true, refl, sym, ◌∙◌, ap, subst, arith, Some, append_assoc, length-append}
use Rattle.std.proofs.lemmas.List.{take-append-drop}
use Rattle.json_exact.specs.Json.{Word, Leaf, word, number, string, Json, leaf, no_parts, part}
use Rattle.json_exact.specs.Characters.{refused, whole, steps, AreCharacters, decoded}
use Rattle.json_exact.specs.Scans.{written, may_end}
use Rattle.json_exact.specs.JsonText.{letters, IsLeaf, closing}
use Rattle.json_exact.specs.JsonRests.{Frame, Behind, Before, Opened, BeforeName, BeforeColon, closed, no_number, Counts}
use Rattle.json_exact.specs.declared.scan.Last.TheVariants.{Nothing, Misplaced}
use Rattle.json_exact.proofs.Walks.{steps-append}
use Rattle.json_exact.proofs.Digits.{is_number, written-append, has_digits}
use Rattle.json_exact.proofs.Blanks.{no_blanks}
use Rattle.json_exact.proofs.Steps.{leaf_back, closing_clear}
use Rattle.json_exact.proofs.Ways.{tidy_steps, has_end}
use Rattle.json_exact.proofs.Steps.{close_back, first_close_back, colon_back}
use Rattle.json_exact.proofs.Leaves.{name_back}

-- such a rest, where the text goes on at a place, with at most `d` levels
pub record Ends (d at : ℕ) (Rest : ℕ → ℕ → List ℕ → Json → Type 0) : Type 0 where
  pub rest : List ℕ
  pub value : Json
  pub clear : Counts no_number rest
  pub ends : Rest d (at + length rest) rest value

pub behind_ends : (d at : ℕ) (fs : List Frame) (w : Json) → Ends d at (λ e n. Behind e n fs w)
behind_ends d at [] w = record { rest = []; value = w; clear = tt; ends = (no_blanks [], refl) }
behind_ends d at (f ∷ fs) w =
    let i = behind_ends d (suc at) fs (closed f (suc at) (part f.name w no_parts)) in
    let len : suc at + length i.rest ≡ at + length (closing f.kind ∷ i.rest) = omega arith in
    record {
      rest = closing f.kind ∷ i.rest;
      value = i.value;
      clear = closing_clear f.kind;
      ends = close_back d (at + length (closing f.kind ∷ i.rest)) f fs w (suc at) i.rest i.value len
          (subst (λ (n : ℕ). Behind d n fs (closed f (suc at) (part f.name w no_parts)) i.rest i.value) len i.ends);
    }

pub opened_ends : (d at : ℕ) (f : Frame) (fs : List Frame) → Ends d at (λ e n. Opened e n f fs)
opened_ends d at f fs =
    let i = behind_ends d (suc at) fs (closed f (suc at) no_parts) in
    let len : suc at + length i.rest ≡ at + length (closing f.kind ∷ i.rest) = omega arith in
    record {
      rest = closing f.kind ∷ i.rest;
      value = i.value;
      clear = closing_clear f.kind;
      ends = first_close_back d (at + length (closing f.kind ∷ i.rest)) f fs (suc at) i.rest i.value len
          (subst (λ (n : ℕ). Behind d n fs (closed f (suc at) no_parts) i.rest i.value) len i.ends);
    }

-- behind a prefix that is begun
pub record EndsBehind (d at : ℕ) (prefix : List ℕ) (Rest : ℕ → ℕ → List ℕ → Json → Type 0) : Type 0 where
  pub rest : List ℕ
  pub value : Json
  pub ends : Rest d (at + length (prefix ++ rest)) (prefix ++ rest) value

-- a whole leaf
leaf_ends : (d at : ℕ) (fs : List Frame) (l : Leaf) (bytes : List ℕ) → IsLeaf l bytes → EndsBehind d at bytes (λ e n. Before e n fs)
leaf_ends d at fs l bytes h =
    let i = behind_ends d (at + length bytes) fs (leaf l at (at + length bytes)) in
    let len : at + length bytes + length i.rest ≡ at + length (bytes ++ i.rest) = omega (arith, length-append bytes i.rest) in
    record {
      rest = i.rest;
      value = i.value;
      ends = leaf_back d (at + length (bytes ++ i.rest)) fs l bytes at (at + length bytes) i.rest i.value h refl len
          (subst (λ (n : ℕ). Behind d n fs (leaf l at (at + length bytes)) i.rest i.value) len i.ends);
    }

pub shifted : (d at : ℕ) (prefix more : List ℕ) (Rest : ℕ → ℕ → List ℕ → Json → Type 0) → EndsBehind d at (prefix ++ more) Rest → EndsBehind d at prefix Rest
shifted d at prefix more Rest i =
    let e : (prefix ++ more) ++ i.rest ≡ prefix ++ (more ++ i.rest) = append_assoc prefix more i.rest in
    record { rest = more ++ i.rest; value = i.value; ends = subst (λ (q : List ℕ). Rest d (at + length q) q i.value) e i.ends }

pub same_prefix : (d at : ℕ) (prefix other : List ℕ) (Rest : ℕ → ℕ → List ℕ → Json → Type 0) → prefix ≡ other → EndsBehind d at prefix Rest → EndsBehind d at other Rest
same_prefix d at prefix other Rest e i = record { rest = i.rest; value = i.value; ends = subst (λ (q : List ℕ). Rest d (at + length (q ++ i.rest)) (q ++ i.rest) i.value) e i.ends }

pub word_ends : (d at : ℕ) (fs : List Frame) (w : Word) (i : ℕ) → EndsBehind d at (take i (letters w)) (λ e n. Before e n fs)
word_ends d at fs w i =
    shifted d at (take i (letters w)) (drop i (letters w)) (λ e n. Before e n fs)
    (same_prefix d at (letters w) (take i (letters w) ++ drop i (letters w)) (λ e n. Before e n fs) (sym (take-append-drop i (letters w))) (leaf_ends d at fs (word w) (letters w) refl))

pub number_ends_so : (d at : ℕ) (fs : List Frame) (p : List ℕ) → written Nothing p ≢ Misplaced → EndsBehind d at p (λ e n. Before e n fs)
number_ends_so d at fs p alive =
    let q = has_digits (written Nothing p) alive in
    let whole' : may_end (written Nothing (p ++ q.0)) ≡ true = ap may_end (written-append Nothing p q.0) ∙ q.1 in
    shifted d at p q.0 (λ e n. Before e n fs) (leaf_ends d at fs (number (p ++ q.0)) (p ++ q.0) (is_number (p ++ q.0) whole', refl))

pub before_ends : (d at : ℕ) (fs : List Frame) → EndsBehind d at [] (λ e n. Before e n fs)
before_ends d at fs = shifted d at [] (48 ∷ []) (λ e n. Before e n fs) (leaf_ends d at fs (number (48 ∷ [])) (48 ∷ []) (is_number (48 ∷ []) refl, refl))

-- the same, with a rest that begins with a digit
pub digit_ends : (d at : ℕ) (fs : List Frame) → EndsBehind d at (48 ∷ []) (λ e n. Before e n fs)
digit_ends d at fs = leaf_ends d at fs (number (48 ∷ [])) (48 ∷ []) (is_number (48 ∷ []) refl, refl)

pub colon_ends : (d at : ℕ) (fs : List Frame) → EndsBehind d at [] (λ e n. BeforeColon e n fs)
colon_ends d at fs =
    let i = before_ends d (suc at) fs in
    let len : suc at + length i.rest ≡ at + length (58 ∷ i.rest) = omega arith in
    record { rest = 58 ∷ i.rest; value = i.value; ends = colon_back d (at + length (58 ∷ i.rest)) fs i.rest i.value (subst (λ (n : ℕ). Before d n fs i.rest i.value) len i.ends) }

characters_end : (p : List ℕ) → steps whole p ≢ refused → (q : List ℕ) × AreCharacters (p ++ q)
characters_end p alive =
    let q = has_end (steps whole p) (tidy_steps whole p tt) alive in
    (q.0, steps-append whole p q.0 ∙ q.1)

quoted : (p q : List ℕ) → 34 ∷ (p ++ q) ++ 34 ∷ [] ≡ (34 ∷ p) ++ (q ++ 34 ∷ [])
quoted p q = append_assoc (34 ∷ p) q (34 ∷ [])

pub string_ends : (d at : ℕ) (fs : List Frame) (p : List ℕ) → steps whole p ≢ refused → EndsBehind d at (34 ∷ p) (λ e n. Before e n fs)
string_ends d at fs p alive =
    let q = characters_end p alive in
    let l = leaf_ends d at fs (string (decoded (p ++ q.0))) (34 ∷ (p ++ q.0) ++ 34 ∷ []) (p ++ q.0, q.1, refl, refl) in
    shifted d at (34 ∷ p) (q.0 ++ 34 ∷ []) (λ e n. Before e n fs) (same_prefix d at (34 ∷ (p ++ q.0) ++ 34 ∷ []) ((34 ∷ p) ++ (q.0 ++ 34 ∷ [])) (λ e n. Before e n fs) (quoted p q.0) l)

pub name_ends : (d at : ℕ) (f : Frame) (fs : List Frame) (p : List ℕ) → steps whole p ≢ refused → EndsBehind d at (34 ∷ p) (λ e n. BeforeName e n f fs)
name_ends d at f fs p alive =
    let q = characters_end p alive in
    let raw : List ℕ = p ++ q.0 in
    let bytes : List ℕ = 34 ∷ raw ++ 34 ∷ [] in
    let to : ℕ = at + length bytes in
    let i = colon_ends d to (record f { name = Some (record { from = at; to = to; text = decoded raw }) } ∷ fs) in
    let len : to + length i.rest ≡ at + length (bytes ++ i.rest) = omega (arith, length-append bytes i.rest) in
    let b : EndsBehind d at bytes (λ e n. BeforeName e n f fs) = record {
      rest = i.rest;
      value = i.value;
      ends = name_back d (at + length (bytes ++ i.rest)) f fs raw at to i.rest i.value q.1 refl len
          (subst (λ (n : ℕ). BeforeColon d n (record f { name = Some (record { from = at; to = to; text = decoded raw }) } ∷ fs) i.rest i.value) len i.ends);
    } in
    shifted d at (34 ∷ p) (q.0 ++ 34 ∷ []) (λ e n. BeforeName e n f fs) (same_prefix d at bytes ((34 ∷ p) ++ (q.0 ++ 34 ∷ [])) (λ e n. BeforeName e n f fs) (quoted p q.0) b)
