-- Parts of nets that an edit does not touch.
use Rattle.std.proofs.Common.{◌≡◌, refl, sym, ap, subst, ◌∙◌, ℕ, suc, zero, ◌<◌, Bool, true, false, nat_eq, List, [], ◌∷◌, length, get_or, map, Contains, arith, true≢false}
use Rattle.std.specs.List.{AllZip}
use Rattle.std.proofs.lemmas.Bool.{eqb-true}
use Rattle.one_item.specs.declared.item.Item.{Item}
use Rattle.board_items.specs.Boards.{PlainBoard}
use Rattle.board_laws.specs.Edits.{is_one_of}
use Rattle.board_laws.proofs.Rest.{is_there}
use Rattle.net_groups.specs.NetParts.{PlainNetPart}
use Rattle.net_groups.specs.NetGroups.{is_of_net}
use Rattle.board_laws.specs.Edits.{IsEdit, WasOrIs}
use Rattle.net_groups.specs.NetParts.{IsNetPart, AreParts, real_nets}
use Rattle.kept_nets.specs.TouchedNets.{AreTouched}
use Rattle.kept_nets.specs.NetPlans.{AreAt}
use Rattle.net_groups.proofs.Parts.{part_stays}
use Rattle.kept_nets.proofs.Stays.{net_stays}
use Rattle.net_groups.proofs.Gathered.{zip_of}

-- the numbers of parts
abbrev pub numbers : List PlainNetPart → List ℕ
numbers parts = map (λ part. part.net) parts

pub long_numbers : (parts : List PlainNetPart) → length parts ≡ length (numbers parts)
long_numbers [] = refl
long_numbers (p ∷ ps) = ap suc (long_numbers ps)

pub number_at : (parts : List PlainNetPart) (k : ℕ) (d : PlainNetPart) → k < length parts → get_or (numbers parts) k 0 ≡ (get_or parts k d).net
number_at [] k d lt = absurd (omega arith)
number_at (p ∷ ps) zero d lt = refl
number_at (p ∷ ps) (suc k) d lt = number_at ps k d (omega arith)

numbers_of : (board : PlainBoard) (nets : List ℕ) (parts : List PlainNetPart) → AllZip (IsNetPart board) nets parts → nets ≡ numbers parts
numbers_of board [] [] h = refl
numbers_of board [] (p ∷ ps) h = absurd h
numbers_of board (n ∷ ns) [] h = absurd h
numbers_of board (n ∷ ns) (p ∷ ps) h = ap (λ x. x ∷ ns) (sym h.0.number) ∙ ap (λ xs. p.net ∷ xs) (numbers_of board ns ps h.1)

at_place : (board : PlainBoard) (nets : List ℕ) (parts : List PlainNetPart) → AllZip (IsNetPart board) nets parts → AreAt board nets parts
at_place board [] [] h k d lt = absurd (omega arith)
at_place board [] (p ∷ ps) h k d lt = absurd h
at_place board (n ∷ ns) [] h k d lt = absurd h
at_place board (n ∷ ns) (p ∷ ps) h zero d lt = h.0
at_place board (n ∷ ns) (p ∷ ps) h (suc k) d lt = at_place board ns ps h.1 k d (omega arith)

number_any : (nets : List ℕ) (k d : ℕ) → k < length nets → get_or nets k d ≡ get_or nets k 0
number_any [] k d lt = absurd (omega arith)
number_any (n ∷ ns) zero d lt = refl
number_any (n ∷ ns) (suc k) d lt = number_any ns k d (omega arith)

-- parts at their places are the parts of the board
pub are_parts : (board : PlainBoard) (nets : List ℕ) (parts : List PlainNetPart) → length parts ≡ length nets → AreAt board nets parts → AllZip (IsNetPart board) nets parts
are_parts board nets parts long h = zip_of (IsNetPart board) nets parts long (λ j d e lt. subst (λ (n : ℕ). IsNetPart board n (get_or parts j e)) (sym (number_any nets j d lt)) (h j e lt))

module _ (old new : PlainBoard) (ids touched : List ℕ) (edit : IsEdit old new ids) (t : AreTouched old new ids touched) where
  free : (net : ℕ) → is_one_of touched net ≡ false → (id : ℕ) (item : Item) → Contains ids id → WasOrIs old new id item → is_of_net net item ≡ false
  free net out id item c was = by (nat_eq item.net net) refl
    where
      by : (b : Bool) → nat_eq item.net net ≡ b → is_of_net net item ≡ false
      by false e = rw e refl
      by true e = absurd (true≢false (sym (is_there touched net (subst (Contains touched) (eqb-true item.net net e) (t.all id item c was))) ∙ out))

  pub same_nets : real_nets new ≡ real_nets old
  same_nets = ap (λ nets. real_nets (record old { nets = nets })) edit.nets

  module _ (parts : List PlainNetPart) (are : AreParts old parts) where
    pub own_numbers : real_nets new ≡ numbers parts
    own_numbers = same_nets ∙ numbers_of old (real_nets old) parts are

    pub others_stay : (k : ℕ) (d : PlainNetPart) → k < length (numbers parts) → is_one_of touched (get_or (numbers parts) k 0) ≡ false → IsNetPart new (get_or (numbers parts) k 0) (get_or parts k d)
    others_stay k d lt out =
        let net = get_or (numbers parts) k 0 in
        let was : IsNetPart old net (get_or parts k d) = at_place old (numbers parts) parts (subst (λ ns. AllZip (IsNetPart old) ns parts) (numbers_of old (real_nets old) parts are) are) k d lt in
        part_stays old new net (net_stays old new ids edit net (free net out)) (get_or parts k d) was
