-- `calls::update_bridge` meets its contract where the bridge goes to another view: no check applies, and its number rises. Assumes nothing.
use Prim.Native.Nat.{ℕ, suc, ◌+◌}
use native.Mathlib.Numerals.{add-one}
use mathlib.Core.Path.{◌≡◌, sym, ap, ◌∙◌}
use Rattle.std.specs.Prelude.{Some}
use Rattle.agreement.specs.Call.{says}
use borrow.Author.Tests.{lt-ltb, ne_eqb}
use Rattle.distances.specs.Refusal.{refusal}
use Rattle.agreement.specs.Update.{bridge_update_checks, bridge_updated, bridge_update_outcome}
use Rattle.agreement.proofs.calls.update_bridge.Goals as goal

pub returns : goal.returns
unfolding bridge_update_outcome bridge_update_checks bridge_updated refusal
returns c =
    let next : c.args.number + 1 ≡ suc c.args.number = add-one c.args.number in
    rw (
      sym c.is_view.ensures ∙ c.if-not-is_view.false,
      lt-ltb _ _ c.if-views-view.false,
      sym c.numbers_used_up.ensures ∙ c.if-numbers_used_up.false,
      ne_eqb _ _ c.if-present-view.false,
    ) (ap (λ (n : ℕ). says (Some n)) next)
