use Rattle.std.proofs.Common.{◌≡◌, subst}
use Rattle.std.proofs.lemmas.List.{get_or_read}
use Rattle.ratsnest.specs.declared.anchor.Anchor.{Anchor}
use Rattle.ratsnest.specs.NestOf.{nowhere, anchor_at}
use Rattle.ratsnest.specs.Grow.{IsLed}
use Rattle.ratsnest.proofs.Stands.{first_led, first_more}
use Rattle.ratsnest.proofs.waiting.all_waiting.Goals as goal
use Rattle.ratsnest.proofs.waiting.all_waiting.Goals.{then-not-is_led+in_ok-push, else-not-is_led}

pub loop-j-preserved : goal.loop-j-preserved
loop-j-preserved c = elim c.if-not-is_led.branch [
  | then-not-is_led+in_ok-push w ↦
      rw (w.waiting-is, w.in_ok-push.ensures.items)
      (first_more c.args.anchors.now c.loop-j.j c.loop-j.waiting.items c.loop-j.invariant w.first_of.result w.first_of.ensures)
  | else-not-is_led w ↦
      let at : c.index-anchors-j.result ≡ anchor_at c.args.anchors.now c.loop-j.j =
      get_or_read c.args.anchors.now c.loop-j.j c.index-anchors-j.result c.loop-j-test.true c.index-anchors-j.is nowhere in
      let led : IsLed c.loop-j.waiting.items c.index-anchors-j.result = rw c.deref.ensures.value at c.is_led.ensures w.if-not-is_led.false in
      rw w.waiting-is
      (first_led c.args.anchors.now c.loop-j.j c.loop-j.waiting.items c.loop-j.invariant (subst (λ (a : Anchor). IsLed c.loop-j.waiting.items a) at led))
]
