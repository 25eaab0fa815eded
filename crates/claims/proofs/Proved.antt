-- Every claim is proved, and applied to the worked cases. Assumes nothing.
use Rattle.distances.proofs.Laws.{dist-is-distance, nothing-else-is, none-iff}
use Rattle.distances.proofs.Greatest.{greatest-distance}
use Rattle.distances.proofs.Known.{distances-apply}
use Rattle.agreement.proofs.Forwards.{verdict-is-so, no-other-verdict, verdict-follows-rule, port-follows-rule}
use Rattle.agreement.proofs.ChoiceLaws.{choice-is-verdict}
use Rattle.agreement.proofs.Offers.{offer-is}
use Rattle.agreement.proofs.PortCong.{lent-verdict}
use Rattle.agreement.proofs.BetweenLaws.{plain-ends}
use Rattle.protocol.proofs.Rules.{demand2}
use Rattle.protocol.proofs.Theorem.{demand3}
use Rattle.protocol.proofs.PathEnds.{hops-are-links}
use Rattle.protocol.proofs.Known.{examples-hold}
use Rattle.protocol.proofs.Example.{settling-can-be-met}
use Rattle.protocol.proofs.Applied.{demands-apply}
use Rattle.bench.proofs.OutcomeLaws.{refused-changes-nothing, asking-changes-nothing}
use Rattle.bench.proofs.StateTells.{states-tell}
use Rattle.bench.proofs.TieWhole.{whole-lists}
use Rattle.bench.proofs.BatchRuns.{batches-are-runs}
use Rattle.messages.proofs.SliceWhole.{whole-slices}
use Rattle.messages.proofs.SliceLeads.{slices-lead}
use Rattle.text.proofs.Laws.{decimal-tells}
use Rattle.runner.proofs.ReadLaws.{reading-ends}
use Rattle.runner.proofs.FillLaws.{fill-prints}
use Rattle.runner.proofs.RunWhole.{plan-filled, every-line}
use Rattle.claims.specs.Claims.{Claims}
use Rattle.claims.specs.Worked.{WorkedCases, ClaimsApply}
use Rattle.claims.proofs.WorkedEnds.{worked-ends}
use Rattle.claims.proofs.WorkedCalls.{worked-calls}
use Rattle.claims.proofs.WorkedProgram.{worked-program}

pub claims : Claims
claims =
    record {
      distances = dist-is-distance;
      no_other = nothing-else-is;
      none = none-iff;
      greatest = greatest-distance;
      rule = port-follows-rule;
      verdict = verdict-is-so;
      no_other_verdict = no-other-verdict;
      verdict_rule = verdict-follows-rule;
      choice = choice-is-verdict;
      lent_offers = offer-is;
      lent_verdict = lent-verdict;
      plain_ends = plain-ends;
      demand2 = demand2;
      demand3 = demand3;
      hops = hops-are-links;
      examples = examples-hold;
      states = states-tell;
      refused = refused-changes-nothing;
      asking = asking-changes-nothing;
      lists = whole-lists;
      batches = batches-are-runs;
      slices = whole-slices;
      reading = reading-ends;
      fills = fill-prints;
      filled = plan-filled;
      lines = every-line;
      decimal = decimal-tells;
      settling_met = settling-can-be-met;
      slices_lead = slices-lead;
    }

-- and each of them tells what it should of the worked cases
claims-apply : ClaimsApply
claims-apply c =
    record {
      distances = distances-apply c.distances;
      demand2 = demands-apply.demand2 c.demand2 c.settling_met;
      demand3 = demands-apply.demand3 c.demand3 c.settling_met;
      ends = worked-ends c;
      calls = worked-calls c;
      program = worked-program c;
    }

pub worked-cases : WorkedCases
worked-cases = claims-apply claims
