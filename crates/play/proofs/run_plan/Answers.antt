-- What was printed and what is still to be printed make up the whole, and a write that failed had a byte of it.
use Rattle.play.proofs.Printing.{begun, filled-part, goes, fewer-left, none-left, stopped, whole-few}
use Rattle.play.proofs.Moved.{wrote_next, wrote_part, wrote_whole}
use Rattle.std.proofs.KnownBytes.{Appends-nil}
use Rattle.runner.proofs.RunWhole.{output-carried}
use Rattle.messages.proofs.Flight.{flight_all}
use borrow.Author.Rules.{rules}
use mathlib.Core.Bool.{not}
use lib.Seq.{length-take-le}
use lib.ListN.{length, length-replicate}
use mathlib.Core.Path.{◌≡◌, refl, sym, ap, ◌∙◌}
use native.Mathlib.Omega.{arith}
use Prim.Native.Nat.{ℕ}
use Rattle.play.proofs.run_plan.Goals as goal

pub fills-init : goal.fills-init
fills-init g c =
    let all : length c.first_messages-messages.result ≡ 64 = search rules in
    record {
      within = omega arith;
      place = rw (← flight_all c.first_messages-messages.result all, c.first_messages-messages.ensures) (begun _ _ _ (omega (arith, length-replicate {A = ℕ} 31264 0)) c.first-r.ensures);
      wrote = Appends-nil _;
      out = refl;
    }

pub slice_bounds-out-end : goal.slice_bounds-out-end
slice_bounds-out-end g c = (filled-part _ _ _ _ _ c.fills.invariant.place _ c.fill-step.ensures.fill).written

pub slice_bounds-hand_on-end : goal.slice_bounds-hand_on-end
slice_bounds-hand_on-end g c = sym (length-take-le _ _ (filled-part _ _ _ _ _ c.fills.invariant.place _ c.fill-step.ensures.fill).written)

pub hand_on-requires : goal.hand_on-requires
hand_on-requires g c = rw (output-carried c.args.plan.now c.requires) (filled-part _ _ _ _ _ c.fills.invariant.place _ c.fill-step.ensures.fill).bytes

pub returns-then-not-hand_on-clause-handed : goal.returns-then-not-hand_on-clause-handed
returns-then-not-hand_on-clause-handed g c =
    stopped _ _ _ _ (filled-part _ _ _ _ _ c.fills.invariant.place _ c.fill-step.ensures.fill) _ c.if-not-hand_on.true c.hand_on.ensures.some

pub returns-then-not-hand_on-clause-wrote : goal.returns-then-not-hand_on-clause-wrote
returns-then-not-hand_on-clause-wrote g c =
    let t = filled-part _ _ _ _ _ c.fills.invariant.place _ c.fill-step.ensures.fill in
    wrote_part _ _ _ _ _ _ t.bytes (omega (arith, t.fits, length-take-le _ _ t.written)) c.fills.invariant.wrote c.hand_on.ensures.part

pub overflow_add-printed : goal.overflow_add-printed
overflow_add-printed g c =
    let t = filled-part _ _ _ _ _ c.fills.invariant.place _ c.fill-step.ensures.fill in
    record { fits = omega (arith, t.fits, whole-few c.args.plan.now c.requires) }

pub returns-then-is_some-clause-handed : goal.returns-then-is_some-clause-handed
returns-then-is_some-clause-handed g c =
    none-left (filled-part _ _ _ _ _ c.fills.invariant.place _ c.fill-step.ensures.fill) (ap not (sym c.is_some.ensures ∙ c.if-is_some.true))

pub returns-then-is_some-clause-wrote : goal.returns-then-is_some-clause-wrote
returns-then-is_some-clause-wrote g c =
    let t = filled-part _ _ _ _ _ c.fills.invariant.place _ c.fill-step.ensures.fill in
    wrote_whole _ _ _ _ (none-left t (ap not (sym c.is_some.ensures ∙ c.if-is_some.true)))
    (wrote_next _ _ _ _ _ _ _ (length-take-le _ _ t.written) t.bytes c.fills.invariant.wrote (c.hand_on.ensures.all c.if-not-hand_on.false))

pub overflow_add-at : goal.overflow_add-at
overflow_add-at g c =
    let t = filled-part _ _ _ _ _ c.fills.invariant.place _ c.fill-step.ensures.fill in
    record { fits = omega (arith, t.place.within, c.requires) }

pub fills-smaller : goal.fills-smaller
fills-smaller g c =
    fewer-left (filled-part _ _ _ _ _ c.fills.invariant.place _ c.fill-step.ensures.fill) (ap not (sym c.is_some.ensures ∙ c.if-is_some.false))

pub fills-preserved : goal.fills-preserved
fills-preserved g c =
    let t = filled-part _ _ _ _ _ c.fills.invariant.place _ c.fill-step.ensures.fill in
    record {
      within = t.place.within;
      place = goes t (ap not (sym c.is_some.ensures ∙ c.if-is_some.false));
      wrote = wrote_next _ _ _ _ _ _ _ (length-take-le _ _ t.written) t.bytes c.fills.invariant.wrote (c.hand_on.ensures.all c.if-not-hand_on.false);
      out = omega (arith, c.fill-step.auto.out, c.fills.invariant.out);
    }
