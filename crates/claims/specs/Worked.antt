-- Worked cases to which each claim is applied. Their proofs go by the record of claims, so that a premise which nobody can meet, or a conclusion that
-- says nothing, breaks them. Assumes nothing.
use Rattle.distances.specs.Examples.{MeaningAtE1}
use Rattle.protocol.specs.Applied.{RuleAtExamples, ListsAtExamples}
use Rattle.claims.specs.Claims.{Claims}
use Rattle.claims.specs.WorkedEnds.{WorkedEnds}
use Rattle.claims.specs.WorkedCalls.{WorkedCalls}
use Rattle.claims.specs.WorkedProgram.{WorkedProgram}

pub record WorkedCases : Type 0 where
  -- E1 by the meaning of a distance; demand 2 at E2, E3, E4 and E6; demand 3 at E4 and E7; both where a frame dies on a link; demand 2 where a bridge's own end of its chosen link is cut; and the settling statement at a list of calls with stale,
  -- lost and repeated messages
  pub distances : MeaningAtE1
  pub demand2 : RuleAtExamples
  pub demand3 : ListsAtExamples
  -- layers 1 and 2, layer 3, the program
  pub ends : WorkedEnds
  pub calls : WorkedCalls
  pub program : WorkedProgram

abbrev pub ClaimsApply : Type 0
ClaimsApply = Claims → WorkedCases
