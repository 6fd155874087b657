use Rattle.std.proofs.Common.{rules, ◌≡◌, ◌≢◌, ◌<◌, ◌++◌, ◌∷◌, [], List, ap, ◌∙◌, subst, sym, arith}
use Rattle.std.proofs.lemmas.List.{get_or_read}
use Rattle.std.specs.List.Sorted.{IsPermutation}
use Rattle.std.proofs.lemmas.List.Elements.{All-push}
use Rattle.std.proofs.lemmas.List.Sorted.{IsPermutation-pop_more, IsPermutation-swap_remove}
use Rattle.ratsnest.specs.declared.waiting.Waiting.{Waiting}
use Rattle.ratsnest.proofs.waiting.take_out.Goals as goal

pub loop-k-preserved-in-Continue-1 : goal.loop-k-preserved-in-Continue-1
loop-k-preserved-in-Continue-1 c =
    let x : Waiting = c.swap_remove.result in
    let within : c.loop-k.k < c.loop-k.waiting.len = omega arith in
    let grown : c.push.new.self.items ≡ c.loop-k.joined.items ++ x ∷ [] = c.in_ok-push.ensures.items in
    let taken : IsPermutation c.loop-k.waiting.items (x ∷ c.swap_remove.new.self.items) =
    subst (λ (z : List Waiting). IsPermutation c.loop-k.waiting.items (x ∷ z)) (sym c.swap_remove.ensures.items)
    (IsPermutation-swap_remove c.loop-k.waiting.items c.loop-k.k x (search rules) c.swap_remove.ensures.value) in
    let same : x ≡ c.index.result.now =
    get_or_read c.loop-k.waiting.items c.loop-k.k x (search rules) c.swap_remove.ensures.value c.index.result.now ∙ sym c.index.ensures in
    record {
      within = omega (arith, c.swap_remove.ensures.len);
      all = rw grown (IsPermutation-pop_more c.args.waiting.now.items c.loop-k.joined.items c.loop-k.waiting.items c.swap_remove.new.self.items x c.loop-k.invariant.all taken);
      joined = rw grown (All-push (λ (w : Waiting). w.anchor.group ≡ c.args.group) c.loop-k.joined.items x c.loop-k.invariant.joined (ap (λ (w : Waiting). w.anchor.group) same ∙ c.if-index-group.true));
      before = λ k d h.
          subst (λ (w : Waiting). w.anchor.group ≢ c.args.group) (sym (c.swap_remove.ensures.by_index.1 k d (omega arith) (omega arith))) (c.loop-k.invariant.before k d h);
    }
