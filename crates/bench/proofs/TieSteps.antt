-- The network that a call makes stands in what it leaves. Assumes nothing.
use Prim.Native.Nat.{ℕ}
use mathlib.Core.Bool.{Bool, true, false, cond}
use Rattle.protocol.specs.Net.{Network}
use Rattle.protocol.specs.Calls.{Call, Change, change, update, cut, restore, send, deliver, repeat, lose, port, verdict, report, path, accepted, act, step}
use Rattle.bench.specs.State.{State}
use Rattle.bench.proofs.Represents.{Represents}
use Rattle.bench.specs.Private.ListSteps.{step_by}
use Rattle.bench.proofs.TieCuts.{cut-represents, restore-represents}
use Rattle.bench.proofs.TieMoved.{update-represents}
use Rattle.bench.proofs.TieSends.{send-represents, lose-represents}
use Rattle.bench.proofs.TieDeliveries.{deliver-represents, repeat-represents}

module _ (s : State) (n : Network) (r : Represents s n) where
  pub change-represents : (x : Change) → Represents (step_by s (change x)) (step n (change x))
  change-represents (update y t) = update-represents s n r y t
  change-represents (cut y l) = cut-represents s n r y l
  change-represents (restore y l) = restore-represents s n r y l

  -- accepted or not
  either : (c : Bool) → Represents s (cond c n n)
  either true = r
  either false = r

  pub port-represents : (y d : ℕ) → Represents (step_by s (port y d)) (step n (port y d))
  unfolding step_by step act
  port-represents y d = either (accepted n (port y d))

  pub verdict-represents : (y d : ℕ) → Represents (step_by s (verdict y d)) (step n (verdict y d))
  unfolding step_by step act
  verdict-represents y d = either (accepted n (verdict y d))

  pub report-represents : (d : ℕ) → Represents (step_by s (report d)) (step n (report d))
  unfolding step_by step act
  report-represents d = either (accepted n (report d))

  pub path-represents : (y d : ℕ) → Represents (step_by s (path y d)) (step n (path y d))
  unfolding step_by step act
  path-represents y d = either (accepted n (path y d))

pub step-represents : (s : State) (n : Network) (c : Call) → Represents s n → Represents (step_by s c) (step n c)
step-represents s n (change x) r = change-represents s n r x
step-represents s n (send y l) r = send-represents s n r y l
step-represents s n (deliver p) r = deliver-represents s n r p
step-represents s n (repeat p) r = repeat-represents s n r p
step-represents s n (lose p) r = lose-represents s n r p
step-represents s n (port y d) r = port-represents s n r y d
step-represents s n (verdict y d) r = verdict-represents s n r y d
step-represents s n (report d) r = report-represents s n r d
step-represents s n (path y d) r = path-represents s n r y d
