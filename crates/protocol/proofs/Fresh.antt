-- The invariant of a fresh network. Assumes nothing.
use mathlib.Core.Path.{refl}
use native.Mathlib.Omega.{arith}
use Rattle.agreement.proofs.Directions.{fresh-direction}
use Rattle.protocol.specs.Net.{Plan, PlanInRange, fresh}
use Rattle.protocol.proofs.Invariant.{Invariant}

pub invariant-fresh : (p : Plan) → PlanInRange p → Invariant (fresh p)
unfolding fresh
invariant-fresh p in_range = (
  λ b m. 0,
  record {
    plan = in_range;
    numbered = λ b. omega arith;
    present = λ b low. refl;
    is_view = λ b m low. in_range.least;
    direction = λ e low. fresh-direction refl (λ m least most d. omega arith);
    link_of_message = λ q low. absurd (omega arith);
    side_of_message = λ q low. absurd (omega arith);
    in_flight = λ q low. absurd (omega arith);
  },
)
