-- The lines of an accepted event are those that the page has of the network which stands in the state. Assumes nothing.
use Prim.Native.Nat.{ℕ, ◌<◌}
use mathlib.Core.Path.{◌≡◌, refl, sym, ◌∙◌, ap}
use Rattle.encoding.specs.Numbers.{link_number}
use Rattle.protocol.specs.Net.{Network, Plan}
use Rattle.protocol.specs.Calls.{refuse}
use Rattle.protocol.specs.Ports.{own_distance, forwarding_port}
use Rattle.protocol.specs.Paths as paths
use Rattle.bench.specs.State.{State, network}
use Rattle.bench.specs.Outcomes.{path_numbers}
use Rattle.bench.specs.Batches.{call_of, reply_of, answers_of}
use Rattle.bench.specs.declared.Event.{Event}
use Rattle.bench.specs.declared.Event.TheVariants.{Update, Send, Deliver, Repeat, Lose, Cut, Restore, Report, Path}
use Rattle.bench.proofs.Represents.{Represents}
use Rattle.bench.proofs.TieChecks.{refusal-same}
use Rattle.bench.proofs.TieWhole.{replies}
use Rattle.bench.proofs.StateTells.{report-at}
use Rattle.text.specs.Lines.{report_lines}
use Rattle.text.proofs.Laws.{report-by}
use Rattle.runner.specs.Events.{path_text, event_text, text_of}
use Rattle.runner.specs.Program.{path_line, lines_of}
use Rattle.runner.proofs.FillTexts.{report-listed, path-listed}

path-line : (y d : ℕ) (w : paths.PathResult) → path_text y d (path_numbers w) ≡ path_line y d w
unfolding path_text
path-line y d (paths.delivered h) = refl
path-line y d (paths.stops b h) = refl

module _ (s : State) (n : Network) (r : Represents s n) where
  bridges-same : n.plan.graph.bridges ≡ s.bench.bridges
  bridges-same = ap (λ (p : Plan). p.graph.bridges) r.plan

  pub text-is : (e : Event) → reply_of s e ≡ 0 → text_of s e ≡ lines_of n (call_of e)
  unfolding event_text answers_of lines_of
  text-is (Update b t) none = refl
  text-is (Send b l) none = refl
  text-is (Deliver p) none = refl
  text-is (Repeat p) none = refl
  text-is (Lose p) none = refl
  text-is (Cut y l) none = refl
  text-is (Restore y l) none = refl
  text-is (Report d) none =
      let b : ℕ = s.bench.bridges in
      let listed : d < n.plan.graph.bridges = rw bridges-same (report-listed s d none) in
      let told = replies s n r in
      report-by d b _ (λ y. own_distance n y d) (λ y. link_number (forwarding_port n y d))
      (λ y h. (report-at (network s) d b y h).0 ∙ told.distances y d (rw bridges-same h) listed)
      (λ y h. (report-at (network s) d b y h).1 ∙ ap link_number (told.ports y d (rw bridges-same h) listed))
      ∙ ap (λ (k : ℕ). report_lines d k (λ y. own_distance n y d) (λ y. link_number (forwarding_port n y d))) (sym bridges-same)
  text-is (Path y d) none =
      let listed = path-listed s y d none in
      path-line y d (paths.path (network s) y d)
      ∙ ap (path_line y d) ((replies s n r).paths y d (rw bridges-same listed.0) (rw bridges-same listed.1))

  pub reply-is : (e : Event) → reply_of s e ≡ refuse n (call_of e)
  unfolding reply_of
  reply-is e = refusal-same s n r _ (call_of e) r.in_range
