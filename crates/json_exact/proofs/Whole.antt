-- What parsing answers, of the cells that were read.
use Rattle.std.proofs.Common.{◌≡◌, ◌≢◌, ℕ, List, length, sym, ◌∙◌, ap, subst}
use Rattle.json_exact.specs.Json.{Json}
use Rattle.json_exact.specs.JsonText.{SpelledWithin}
use Rattle.json_exact.specs.JsonRefusals.{depth_limit, IsRefused}
use Rattle.json_exact.specs.JsonRests.{IsRead}
use Rattle.json_exact.specs.JsonCells.{first_value}
use Rattle.json_exact.specs.declared.cells.Cell.{Cell}
use Rattle.json_exact.specs.declared.error.JsonError.{JsonError}
use Rattle.json_exact.specs.declared.error.JsonError.TheVariants.{OutOfMemory}
use Rattle.json_exact.proofs.Decoding.{decoded_value}
use Rattle.json_exact.specs.CellTexts.{AreTexts}
use Rattle.json_exact.proofs.TextCells.{are_texts}
use Rattle.json_exact.specs.ValueSpans.{IsPlaced}
use Rattle.json_exact.proofs.Placed.{spelled_placed}
use Rattle.json_exact.proofs.Unique.{only_memory}

value_read : (text : List ℕ) (cells : List Cell) (r : IsRead text cells) → first_value text cells ≡ r.0
value_read text cells r = ap (first_value text) r.1 ∙ decoded_value text depth_limit r.0 r.2

pub read_spelled : (text : List ℕ) (cells : List Cell) → IsRead text cells → SpelledWithin depth_limit text (first_value text cells)
read_spelled text cells r = subst (λ (v : Json). SpelledWithin depth_limit text v) (sym (value_read text cells r)) r.2

pub read_only : (text : List ℕ) (cells : List Cell) → IsRead text cells → (v : Json) → SpelledWithin depth_limit text v → first_value text cells ≡ v
read_only text cells r v sp = value_read text cells r ∙ sym (r.3 v sp)

pub read_not_refused : (text : List ℕ) (cells : List Cell) → IsRead text cells → (e : JsonError) → IsRefused text e → e ≢ OutOfMemory → ⊥
read_not_refused text cells r e h n = n (only_memory text r.0 e r.2 h)

pub read_placed : (text : List ℕ) (cells : List Cell) → IsRead text cells → IsPlaced text 0 (first_value text cells) (length text)
read_placed text cells r = spelled_placed text depth_limit (first_value text cells) (read_spelled text cells r)

pub read_texts : (text : List ℕ) (cells : List Cell) → IsRead text cells → AreTexts text cells
read_texts text cells h = subst (AreTexts text) (sym h.1) (are_texts text depth_limit h.0 h.2)
