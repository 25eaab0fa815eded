-- Demand 2 for whoever makes the calls. Assumes nothing.
use Prim.Native.Nat.{ℕ, zero, suc, ◌+◌, ◌*◌, ◌<◌}
use native.Mathlib.Omega.{arith}
use mathlib.Core.Path.{◌≡◌, refl, ap, ◌∙◌}
use mathlib.Core.Bool.{Bool, true, false}
use mathlib.Core.List.{List, [], ◌∷◌, ◌++◌}
use borrow.Author.Tests.{eqb-true, eqb-false, lt-ltb, le-leb}
use lib.ListN.{length, get_or, get_or-append}
use lib.Seq.{get_or-append-add}
use lib.Dec.{eqb}
use Rattle.distances.proofs.Booleans.{true-both}
use Rattle.agreement.specs.Call.{says}
use Rattle.encoding.specs.Numbers.{link_number}
use Rattle.protocol.specs.Net.{Network}
use Rattle.protocol.specs.Calls.{Call, port, verdict, report, path, refusal, no_such_bridge, checks, refuse}
use Rattle.protocol.specs.Ports.{own_distance, forwarding_verdict, forwarding_port}
use Rattle.protocol.specs.Paths as paths
use Rattle.protocol.specs.Demand2.{NetworkInRange}
use Rattle.protocol.proofs.Rules.{demand2}
use Rattle.bench.specs.State.{State, network}
use Rattle.bench.specs.Ranges.{network_in_range}
use Rattle.bench.specs.Outcomes.{ready_for, reply_to, outcome_of, report_numbers, report_of}
use Rattle.bench.specs.Demand2.{RowsTell, Tells, StatesTell}
use Rattle.bench.proofs.TieRanges.{plan-in-range}
use Rattle.bench.proofs.TieRefusals.{refusal-ready}
use Rattle.bench.proofs.QueueRanges.{network-told}
use Rattle.bench.proofs.ChoiceSteps.{lasting}
use Rattle.bench.proofs.OutcomeLaws.{asking-changes-nothing}
use Rattle.bench.proofs.ReportRows.{report-length}

-- two numbers behind others
pub last-two : (l : List ℕ) (n a b : ℕ) → length l ≡ n → (get_or (l ++ (a ∷ b ∷ [])) n 0 ≡ a) × (get_or (l ++ (a ∷ b ∷ [])) (n + 1) 0 ≡ b)
last-two l n a b e =
    let same : n ≡ n + 0 = omega arith in
    (ap (λ (i : ℕ). get_or (l ++ (a ∷ b ∷ [])) i 0) same ∙ behind 0, behind 1)
  where
    behind : (i : ℕ) → get_or (l ++ (a ∷ b ∷ [])) (n + i) 0 ≡ get_or (a ∷ b ∷ []) i 0
    behind i = rw e at (get_or-append-add l (a ∷ b ∷ []) i 0)

-- the numbers of bridge y in a report
pub report-at :
    (n : Network) (d k y : ℕ) → y < k →
    (get_or (report_numbers n d k) (2 * y) 0 ≡ own_distance n y d) × (get_or (report_numbers n d k) (2 * y + 1) 0 ≡ link_number (forwarding_port n y d))
unfolding report_numbers
report-at n d zero y h = absurd (omega arith)
report-at n d (suc k) y h = go (eqb y k) refl (report-at n d k y)
  where
    old : List ℕ
    old = report_numbers n d k

    new : List ℕ
    new = own_distance n k d ∷ link_number (forwarding_port n k d) ∷ []

    go : (b : Bool) → eqb y k ≡ b →
        (y < k → (get_or old (2 * y) 0 ≡ own_distance n y d) × (get_or old (2 * y + 1) 0 ≡ link_number (forwarding_port n y d))) →
        (get_or (old ++ new) (2 * y) 0 ≡ own_distance n y d) × (get_or (old ++ new) (2 * y + 1) 0 ≡ link_number (forwarding_port n y d))
    go true e before = rw (eqb-true y k e) (last-two old (2 * k) _ _ (report-length n d k))
    go false e before =
        let low : y < k = omega (arith, eqb-false y k e) in
        let was = before low in
        (get_or-append old new 0 (2 * y) (omega (arith, report-length n d k)) ∙ was.0, get_or-append old new 0 (2 * y + 1) (omega (arith, report-length n d k)) ∙ was.1)

module _ (s : State) (ok : network_in_range s ≡ true) where
  in-range : NetworkInRange (network s)
  in-range =
      record {
        plan = plan-in-range s.bench s.costs (lasting s.bench s.costs (length s.sent) (length s.held) ok);
        views = (network-told s.bench s.costs (length s.sent) (length s.held) ok).are_views;
      }

  -- two bridges that there are
  asked : (y d : ℕ) → y < s.bench.bridges → d < s.bench.bridges → (refuse (network s) (port y d) ≡ 0) × (refuse (network s) (verdict y d) ≡ 0) × (refuse (network s) (path y d) ≡ 0) × (refuse (network s) (report d) ≡ 0)
  unfolding refuse checks refusal no_such_bridge
  asked y d hy hd = rw (lt-ltb y s.bench.bridges hy, lt-ltb d s.bench.bridges hd) (refl, refl, refl, refl)

  -- the value
  told : {A : Type 0} (ready : Bool) (c : Call) (value : A) → ready ≡ true → refuse (network s) c ≡ 0 → reply_to ready (network s) c value ≡ says value
  unfolding reply_to
  told ready c value is none = rw (refusal-ready ready (network s) c is, none)

  rows_tell : (d : ℕ) (rows : List ℕ) → RowsTell s d (report_numbers (network s) d s.bench.bridges ++ rows)
  rows_tell d rows =
      let b : ℕ = s.bench.bridges in
      let numbers : List ℕ = report_numbers (network s) d b in
      record {
        distances = λ y h. get_or-append numbers rows 0 (2 * y) (omega (arith, report-length (network s) d b)) ∙ (report-at (network s) d b y h).0;
        ports = λ y h. get_or-append numbers rows 0 (2 * y + 1) (omega (arith, report-length (network s) d b)) ∙ (report-at (network s) d b y h).1;
      }

  state-tells : Tells s
  unfolding outcome_of report_of ready_for
  state-tells =
      record {
        rule = demand2.rule (network s) in-range;
        ports = λ y d hy hd.
            rw (told (network_in_range s) (port y d) (forwarding_port (network s) y d) ok (asked y d hy hd).0, (asking-changes-nothing s y d).0);
        verdicts = λ y d hy hd.
            rw (told (network_in_range s) (verdict y d) (forwarding_verdict (network s) y d) ok (asked y d hy hd).1, (asking-changes-nothing s y d).1);
        paths = λ y d hy hd.
            rw (told (network_in_range s) (path y d) (paths.path (network s) y d) ok (asked y d hy hd).2, (asking-changes-nothing s y d).3);
        reports = λ d rows hd long.
            let ready = true-both ok (le-leb 32 (length rows) long) in
            let none = (asked d d hd hd).3 in
            rw (refusal-ready _ (network s) (report d) ready, none) (told _ (report d) tt ready none, rows_tell d _);
      }

pub states-tell : StatesTell
states-tell = state-tells
