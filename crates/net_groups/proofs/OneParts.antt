-- A board has one list of parts.
use Rattle.std.proofs.Common.{◌≡◌, sym, ap, subst, refl, ◌∙◌, ℕ, List, [], ◌∷◌}
use Rattle.std.specs.List.{AllZip}
use Rattle.board_items.specs.Boards.{PlainBoard}
use Rattle.net_groups.specs.StepChains.{Chain}
use Rattle.net_groups.specs.Anchors.{AreAnchorsOf}
use Rattle.net_groups.specs.NetGroups.{HasCopper, Touch, items_of}
use Rattle.net_groups.specs.NetParts.{PlainNetPart, IsNetPart, AreParts, real_nets}
use Rattle.net_groups.proofs.Once.{classes_once}
use Rattle.net_groups.proofs.AnchorsOf.{anchors_once}
use Rattle.ratsnest.specs.declared.anchor.Anchor.{Anchor}
use Rattle.ratsnest.specs.declared.link.Link.{Link}
use Rattle.ratsnest.specs.NestOf.{IsNest}
use Rattle.net_groups.proofs.OneNest.{one_nest}

built : (p q : PlainNetPart) → p.net ≡ q.net → p.groups ≡ q.groups → p.anchors ≡ q.anchors → p.links ≡ q.links → p ≡ q
built p q n g a l =
    ap (λ (x : ℕ). record p { net = x }) n
    ∙ (ap (λ (x : List (List ℕ)). record p { net = q.net; groups = x }) g
    ∙ (ap (λ (x : List Anchor). record p { net = q.net; groups = q.groups; anchors = x }) a ∙ ap (λ (x : List Link). record q { links = x }) l))

one_part : (board : PlainBoard) (net : ℕ) (p q : PlainNetPart) → IsNetPart board net p → IsNetPart board net q → p ≡ q
one_part board net p q h k =
    let items = items_of net board.items in
    let groups = classes_once (HasCopper items) (Chain (Touch items)) p.groups q.groups h.groups k.groups in
    let anchors = anchors_once items q.groups p.anchors q.anchors (subst (λ g. AreAnchorsOf items g p.anchors) groups h.anchors) k.anchors in
    let links = one_nest q.anchors p.links q.links (subst (λ a. IsNest a p.links) anchors h.links) k.links in
    built p q (h.number ∙ sym k.number) groups anchors links

lists_once : (board : PlainBoard) (nets : List ℕ) (ps qs : List PlainNetPart) → AllZip (IsNetPart board) nets ps → AllZip (IsNetPart board) nets qs → ps ≡ qs
lists_once board [] [] [] h k = refl
lists_once board [] [] (q ∷ qs) h k = absurd k
lists_once board [] (p ∷ ps) qs h k = absurd h
lists_once board (net ∷ nets) [] qs h k = absurd h
lists_once board (net ∷ nets) (p ∷ ps) [] h k = absurd k
lists_once board (net ∷ nets) (p ∷ ps) (q ∷ qs) h k =
    ap (λ x. x ∷ ps) (one_part board net p q h.0 k.0) ∙ ap (λ xs. q ∷ xs) (lists_once board nets ps qs h.1 k.1)

pub one_list_of_parts : (board : PlainBoard) (parts others : List PlainNetPart) → AreParts board parts → AreParts board others → parts ≡ others
one_list_of_parts board parts others h k = lists_once board (real_nets board) parts others h k
