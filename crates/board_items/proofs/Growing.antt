-- What a board is after a net or an item was added, or its layers were set.
use Rattle.std.proofs.Common.{◌≡◌, ℕ, ◌+◌, ◌-◌, ◌<◌, min, max, true, false, cond, List, [], ◌∷◌, ◌++◌, length, Option, None, Some, is_some, nat_eq, refl, sym, ◌∙◌, ap, subst, arith, length-append}
use Rattle.one_item.specs.declared.item.Item.{Item}
use Rattle.board_items.specs.Boards.{PlainBoard, IsSound, Rise, UnitsBelow, AllAdmitted, name_of, with_net, is_admitted, marks_of}
use Rattle.copper_layers.specs.declared.set.LayerSet.{LayerSet}
use Rattle.board_items.specs.ItemRefusals.{capacity_of}
use Rattle.board_items.proofs.Rising.{rise_added, units_added, marks-append}
use Rattle.board_items.proofs.Nets.{still_first, distinct_added}
use Rattle.board_items.proofs.Admitted.{all_kept, all_added, still_declared, admitted_declared, admitted_layered}

pub no_value : {X : Type 0} (o : Option X) → is_some o ≡ false → o ≡ None
no_value None h = refl
no_value (Some x) h = cc

-- a net that was not there goes last
pub new_net : (board : PlainBoard) (net : ℕ) (name : List ℕ) (nets : List (ℕ × List ℕ)) → is_some (name_of board net) ≡ false
    → nets ≡ board.nets ++ (net, name) ∷ [] → record board { nets = nets } ≡ with_net board net name
new_net board net name nets absent e =
    ap (λ ns. record board { nets = ns }) e ∙ sym (ap (λ b. cond b board (record board { nets = board.nets ++ (net, name) ∷ [] })) absent)

pub sound_declared : (b : PlainBoard) (net : ℕ) (name : List ℕ) (nets : List (ℕ × List ℕ)) → IsSound b → name_of b net ≡ None → nets ≡ b.nets ++ (net, name) ∷ []
    → IsSound (record b { nets = nets })
sound_declared b net name nets s absent e = subst (λ (ns : List (ℕ × List ℕ)). IsSound (record b { nets = ns })) (sym e) (record {
  ids = s.ids;
  units = s.units;
  last_id = s.last_id;
  last_unit = s.last_unit;
  few = s.few;
  first_net = still_first (0, []) ((net, name) ∷ []) b.nets s.first_net;
  distinct = distinct_added net name b.nets absent s.distinct;
  no_net = still_declared (nat_eq 0) ((net, name) ∷ []) b.nets s.no_net;
  admitted = all_kept b (record b { nets = b.nets ++ (net, name) ∷ [] }) (admitted_declared b ((net, name) ∷ [])) b.items s.admitted;
})

pub sound_layered : (b : PlainBoard) (copper : LayerSet) → IsSound b → b.copper.bits ≡ 0 → IsSound (record b { copper = copper })
sound_layered b copper s e = record {
  ids = s.ids;
  units = s.units;
  last_id = s.last_id;
  last_unit = s.last_unit;
  few = s.few;
  first_net = s.first_net;
  distinct = s.distinct;
  no_net = s.no_net;
  admitted = all_kept b (record b { copper = copper }) (admitted_layered b copper e) b.items s.admitted;
}

capacity_left : (n k : ℕ) → 0 < min (200000 - n) (4294967295 - k) → (n < 200000) × (k < 4294967295)
capacity_left n k h = (grind arith, grind arith)

pub sound_added : (b : PlainBoard) (item : Item) (items : List (ℕ × Item)) (marks more : List ℕ) (next_unit : ℕ)
    → IsSound b → marks ≡ marks_of b.items → is_admitted b item ≡ true → 0 < capacity_of b → item.unit < 4294967295
    → items ≡ b.items ++ (b.next_id, item) ∷ [] → more ≡ marks ++ marks_of ((b.next_id, item) ∷ []) → next_unit ≡ max b.next_unit (item.unit + 1)
    → IsSound (record { copper = b.copper; nets = b.nets; items = items; next_id = b.next_id + 1; next_unit = next_unit }) × (more ≡ marks_of items)
sound_added b item items marks more next_unit s m may spare_capacity unit e f u =
    let left = capacity_left (length b.items) b.next_id spare_capacity in (
      record {
        ids = subst (λ (xs : List (ℕ × Item)). Rise 0 (b.next_id + 1) xs) (sym e) (rise_added 0 b.next_id b.items item s.ids);
        units = subst (λ (xs : List (ℕ × Item)). UnitsBelow next_unit xs) (sym e)
            (units_added b.next_unit next_unit b.next_id b.items item s.units (grind (arith, u)) (grind (arith, u)));
        last_id = omega (arith, left.1);
        last_unit = grind (arith, u, unit, s.last_unit);
        few = let n = ap length e ∙ length-append b.items ((b.next_id, item) ∷ []) in omega (arith, n, left.0);
        first_net = s.first_net;
        distinct = s.distinct;
        no_net = s.no_net;
        admitted = all_kept b (record { copper = b.copper; nets = b.nets; items = items; next_id = b.next_id + 1; next_unit = next_unit }) (λ i h. h) items
            (subst (λ (xs : List (ℕ × Item)). AllAdmitted b xs) (sym e) (all_added b b.next_id item may b.items s.admitted));
      },
      f ∙ ap (λ ms. ms ++ marks_of ((b.next_id, item) ∷ [])) m ∙ sym (marks-append b.items ((b.next_id, item) ∷ [])) ∙ ap marks_of (sym e),
    )
