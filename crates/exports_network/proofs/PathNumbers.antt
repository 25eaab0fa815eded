-- The numbers of a path's reply have 32 bits. Assumes nothing.
use Prim.Native.Nat.{ℕ}
use mathlib.Core.Path.{◌≡◌, refl, sym, ap, ◌∙◌}
use mathlib.Core.List.{[], ◌∷◌}
use Rattle.std.specs.Prelude.{Ok}
use Rattle.agreement.specs.Call.{Response, says}
use Rattle.protocol.specs.Calls.{path, refuse, checks}
use Rattle.protocol.specs.Paths as paths
use Rattle.bench.specs.State.{State, network}
use Rattle.bench.specs.Ranges.{network_in_range}
use Rattle.bench.specs.Outcomes.{refused_by, path_told, ready_for, refusal_of, reply_to, outcome_of}
use Rattle.bench.specs.Private.Answers.{PathFits}
use Rattle.bench.specs.declared.Path.{Path}
use Rattle.bench.proofs.Represents.{Typed}
use Rattle.bench.proofs.EntryOutcomes.{reply-is}
use Rattle.bench.proofs.QueueCalls.{refusal-none}
use Rattle.bench.proofs.QueueRanges.{network-told}
use Rattle.bench.proofs.PathSteps.{bridges-listed}
use Rattle.bench.proofs.Quiet.{path-is}
use Rattle.bench.proofs.AnswerRanges.{path-fits}

module _ (s : State) (typed : Typed s.bench) (y d : ℕ) where
  pub fits : (w : Path) → says (path_told w) ≡ (outcome_of s (path y d) (λ n. paths.path n y d)).reply → PathFits (Ok w)
  unfolding outcome_of reply_to ready_for refuse checks
  fits w e =
      let k : ℕ = refusal_of (network_in_range s) (network s) (path y d) in
      let way : Response paths.PathResult = says (paths.path (network s) y d) in
      let none : k ≡ 0 = sym (reply-is (λ (o : Response paths.PathResult). o.number) k refused_by way (λ j. refl) (λ z. refl)) ∙ sym (ap (λ (o : Response paths.PathResult). o.number) e) in
      let passed = refusal-none (network_in_range s) (network s) (path y d) none in
      let listed = bridges-listed (network s) y d _ passed.1 in
      let found : says (path_told w) ≡ way = rw none at e in
      let same : (path_told w ∷ []) ≡ (paths.path (network s) y d ∷ []) = ap (λ (o : Response paths.PathResult). o.value) found in
      let told : path_told w ≡ paths.path (network s) y d = cc in
      path-fits s (network-told _ _ _ _ passed.0) y d listed.0 w (told ∙ sym (path-is s passed.0 typed y d listed.0 listed.1))
