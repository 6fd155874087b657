-- What becomes of lists may be written.
use Rattle.std.proofs.Common.{◌≡◌, refl, sym, subst, Bool, true, false, cond, ℤ, List, codes, Option, None, Some}
use Rattle.std.specs.Prelude.{nat_eq}
use Rattle.sexpr_read.specs.Tree.{Forest, none, atom, list, trees}
use Rattle.list_read.specs.ListHeads.{first_is}
use Rattle.roundtrip_text.specs.RewrittenText.{Disposition, stays, leaves, IsRespelled, AreAtoms, IsFit, AreFit}
use Rattle.roundtrip_text.specs.Utf8.{AreUtf8, BecomesUtf8, BecomeUtf8}
use Rattle.roundtrip_lists.specs.Translated.{Shift, place_moved}
use Rattle.roundtrip_lists.specs.Moving.{put_if, moved}
use Rattle.roundtrip_lists.proofs.Moving.{put_respelled, numbers_near, put_utf8, moved_respelled, moved_utf8}
use Rattle.pcb_read.specs.BoardOf.{Reading}
use Rattle.roundtrip_boards.specs.WrittenBoard.{Draft, is_gone, shift_of_unit, first_at, moved_unit, disposition_by, list_disposition, DispositionsAre}

respelled_itself : (f : Forest) → AreAtoms f → IsRespelled f f
respelled_itself none h = tt
respelled_itself (atom s q c others) h = (refl, refl, h.0, respelled_itself others h.1)
respelled_itself (list s inside others) h = (refl, respelled_itself inside h.0, respelled_itself others h.1)

put_fits : (d : Shift) (i : Forest) (o : Option (ℤ × ℤ)) → place_moved d i ≡ o → AreAtoms i → IsRespelled i (put_if o i)
put_fits d i None e h = respelled_itself i h
put_fits d i (Some n) e h = let k = numbers_near d i n e in put_respelled n i i k.0 k.1 (respelled_itself i h)

put_text : (d : Shift) (i : Forest) (o : Option (ℤ × ℤ)) → place_moved d i ≡ o → AreUtf8 i → AreUtf8 (put_if o i)
put_text d i None e h = h
put_text d i (Some n) e h = let k = numbers_near d i n e in put_utf8 n i k.0 k.1 h

first_fits : (d : Shift) (f : Forest) → AreAtoms f → IsRespelled f (first_at d f)
first_fits d none h = tt
first_fits d (atom s q c others) h = (refl, refl, h.0, first_fits d others h.1)
first_fits d (list s inside others) h = by_head (first_is (trees inside) (codes "at")) (first_fits d others h.1)
  where
    by_head : (b : Bool) → IsRespelled others (first_at d others) → IsRespelled (list s inside others) (cond b (list s (put_if (place_moved d inside) inside) others) (list s inside (first_at d others)))
    by_head true rest = (refl, put_fits d inside (place_moved d inside) refl h.0, respelled_itself others h.1)
    by_head false rest = (refl, respelled_itself inside h.0, rest)

first_text : (d : Shift) (f : Forest) → AreUtf8 f → AreUtf8 (first_at d f)
first_text d none h = tt
first_text d (atom s q c others) h = (h.0, first_text d others h.1)
first_text d (list s inside others) h = by_head (first_is (trees inside) (codes "at")) (first_text d others h.1)
  where
    by_head : (b : Bool) → AreUtf8 (first_at d others) → AreUtf8 (cond b (list s (put_if (place_moved d inside) inside) others) (list s inside (first_at d others)))
    by_head true rest = (put_text d inside (place_moved d inside) refl h.0, h.1)
    by_head false rest = (h.0, rest)

pub unit_fits : (d : Shift) (i : Forest) → AreAtoms i → IsRespelled i (moved_unit d i)
unit_fits d i h = by_head (first_is (trees i) (codes "footprint"))
  where
    by_head : (b : Bool) → IsRespelled i (cond b (first_at d i) (moved d i))
    by_head true = first_fits d i h
    by_head false = moved_respelled d i h

pub unit_text : (d : Shift) (i : Forest) → AreUtf8 i → AreUtf8 (moved_unit d i)
unit_text d i h = by_head (first_is (trees i) (codes "footprint"))
  where
    by_head : (b : Bool) → AreUtf8 (cond b (first_at d i) (moved d i))
    by_head true = first_text d i h
    by_head false = moved_utf8 d i h

disposition_fits : (o : Option Shift) (i : Forest) → AreAtoms i → AreUtf8 i → IsFit i (disposition_by o i) × BecomesUtf8 (disposition_by o i)
disposition_fits None i a u = (tt, tt)
disposition_fits (Some d) i a u = (unit_fits d i a, unit_text d i u)

list_fits : (draft : Draft) (before after : Reading) (i : Forest) → AreAtoms i → AreUtf8 i → IsFit i (list_disposition draft before after i) × BecomesUtf8 (list_disposition draft before after i)
list_fits draft before after i a u = by_unit (nat_eq before.board.next_unit after.board.next_unit) (is_gone draft before.board.next_unit)
  where
    by_unit : (b g : Bool) → let disposition : Disposition = cond b stays (cond g leaves (disposition_by (shift_of_unit draft before.board.next_unit) i)) in IsFit i disposition × BecomesUtf8 disposition
    by_unit true g = (tt, tt)
    by_unit false true = (tt, tt)
    by_unit false false = disposition_fits (shift_of_unit draft before.board.next_unit) i a u

-- the dispositions of all lists
pub dispositions_fit : (draft : Draft) (f : Forest) (a : Reading) (dispositions : List Disposition) → DispositionsAre draft a (trees f) dispositions → AreAtoms f → AreUtf8 f → AreFit dispositions f × BecomeUtf8 dispositions f
dispositions_fit draft none a dispositions h atoms texts = (tt, tt)
dispositions_fit draft (atom s q c others) a dispositions (next, more, says, rest, are) atoms texts =
    subst (λ (l : List Disposition). AreFit l others × BecomeUtf8 l others) (sym are) (dispositions_fit draft others next more rest atoms.1 texts.1)
dispositions_fit draft (list s inside others) a dispositions (next, more, says, rest, are) atoms texts =
    let k = list_fits draft a next inside atoms.0 texts.0 in
    let r = dispositions_fit draft others next more rest atoms.1 texts.1 in
    subst (λ (l : List Disposition). AreFit l (list s inside others) × BecomeUtf8 l (list s inside others)) (sym are) ((k.0, r.0), (k.1, r.1))
