-- Every claim of the repository beyond the functions' contracts, one field each; `claims` (proofs/Proved.antt) is a value of this record, so that
-- a claim without a proof fails the check. What they come to in worked cases: specs/Worked.antt. Assumes nothing.
use Rattle.distances.specs.Theorem.{DistIsDistance, NothingElseIs, NoneIsApart, GreatestDistance}
use Rattle.agreement.specs.Rule.{PortFollowsRule}
use Rattle.agreement.specs.Reasons.{VerdictIsSo, NoOtherVerdict, VerdictFollowsRule}
use Rattle.agreement.specs.Choice.{ChoiceIsVerdict}
use Rattle.agreement.specs.Call.{LentOffersAreOffers, LentVerdictIsVerdict}
use Rattle.agreement.specs.Ends.{PlainEndsAreEnds}
use Rattle.protocol.specs.Demand2.{Demand2}
use Rattle.protocol.specs.Demand3.{Demand3}
use Rattle.protocol.specs.Paths.{HopsAreLinks}
use Rattle.protocol.specs.Examples.{ExamplesHold}
use Rattle.protocol.specs.SettlingMet.{SettlingCanBeMet}
use Rattle.bench.specs.Outcomes.{RefusedChangesNothing, AskingChangesNothing}
use Rattle.bench.specs.Demand2.{StatesTell}
use Rattle.bench.specs.Whole.{WholeLists}
use Rattle.bench.specs.Batches.{BatchesAreRuns}
use Rattle.messages.specs.SliceLists.{WholeSlices, SlicesLead}
use Rattle.text.specs.Decimal.{DecimalTells}
use Rattle.runner.specs.Fills.{FillPrints}
use Rattle.runner.specs.Whole.{ReadingEnds, PlanFilled, EveryLine}

pub record Claims : Type 0 where
  -- layer 1: the computed distance is the least sum of costs of any path, nothing else is, where it is NONE, and how great it can be
  pub distances : DistIsDistance
  pub no_other : NothingElseIs
  pub none : NoneIsApart
  pub greatest : GreatestDistance
  -- layer 2: the port follows the forwarding rule; the verdict is so, no other is, and it forwards where the rule does; it is that of the choice by one end
  -- after another; what is lent or plain comes to the same
  pub rule : PortFollowsRule
  pub verdict : VerdictIsSo
  pub no_other_verdict : NoOtherVerdict
  pub verdict_rule : VerdictFollowsRule
  pub choice : ChoiceIsVerdict
  pub lent_offers : LentOffersAreOffers
  pub lent_verdict : LentVerdictIsVerdict
  pub plain_ends : PlainEndsAreEnds
  -- networks: demands 2 and 3, the limits among them; a path's hops are the links that it crosses; the protocol's examples E1 to E8, two of links with one end down and those of verdicts
  pub demand2 : Demand2
  pub demand3 : Demand3
  pub hops : HopsAreLinks
  pub examples : ExamplesHold
  -- layer 3: what the calls tell, what they leave alone, and demand 3 for whoever makes them one by one, as a list, or over a slice of messages
  pub states : StatesTell
  pub refused : RefusedChangesNothing
  pub asking : AskingChangesNothing
  pub lists : WholeLists
  pub batches : BatchesAreRuns
  pub slices : WholeSlices
  -- the program: a plan is read to its end, what is filled from it is `output` (runner/specs/Program.antt), demands 2 and 3 are about each line of
  -- that, and numbers are in decimal
  pub reading : ReadingEnds
  pub fills : FillPrints
  pub filled : PlanFilled
  pub lines : EveryLine
  pub decimal : DecimalTells
  -- premises that can be met: those of the settling statement, and those of lists of calls over a slice
  pub settling_met : SettlingCanBeMet
  pub slices_lead : SlicesLead
