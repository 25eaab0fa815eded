-- The rows of a report, as they are written and as the network has them. Assumes nothing.
use Prim.Native.Nat.{ℕ, zero, suc, ◌+◌, ◌*◌, ◌≤◌, ◌<◌}
use native.Mathlib.Numerals.{add-one}
use native.Mathlib.Omega.{arith}
use mathlib.Core.Path.{◌≡◌, refl, sym, ◌∙◌}
use mathlib.Core.Bool.{true, false, ◌&&◌}
use mathlib.Core.List.{List, [], ◌∷◌, ◌++◌}
use borrow.Author.Tests.{ne_eqb, le-leb}
use lib.ListN.{length, set, drop, length-append, length-drop}
use lib.Seq.{sets-eq, take_at, drop_at, drop-drop}
use lib.Dec.{leb}
use Rattle.distances.specs.declared.refusals.Refusal.{Refusal}
use Rattle.distances.specs.Refusal.{number}
use Rattle.agreement.specs.Call.{says}
use Rattle.agreement.specs.Choice.{port_by}
use Rattle.agreement.specs.declared.Choice.{Choice}
use Rattle.encoding.specs.Numbers.{link_number}
use Rattle.protocol.specs.Net.{Network}
use Rattle.protocol.specs.Ports.{own_distance, forwarding_port}
use Rattle.protocol.specs.Calls.{report, refuse}
use Rattle.bench.specs.State.{State, network}
use Rattle.bench.specs.Ranges.{network_in_range}
use Rattle.bench.specs.Outcomes.{refused_by, ready_for, reply_to, report_numbers, report_outcome, report_of}
use Rattle.bench.specs.Private.Steps.{choice_in, with_report, report_into}
use Rattle.bench.proofs.Represents.{Typed}
use Rattle.bench.proofs.Replies.{some_number}
use Rattle.bench.proofs.TieRefusals.{refusal-out, refusal-ready}
use Rattle.bench.proofs.ChoiceSteps.{choice-own, choice-verdict}
use Rattle.bench.proofs.Quiet.{port-is, distance_is}

pub report-length : (n : Network) (d k : ℕ) → length (report_numbers n d k) ≡ 2 * k
unfolding report_numbers
report-length n d zero = refl
report-length n d (suc y) = length-append (report_numbers n d y) _ ∙ omega (arith, report-length n d y)

numbers-more : (n : Network) (d y : ℕ) → report_numbers n d (suc y) ≡ report_numbers n d y ++ (own_distance n y d ∷ link_number (forwarding_port n y d) ∷ [])
unfolding report_numbers
numbers-more n d y = refl

two-more :
    (l rows : List ℕ) (n a b : ℕ) →
    length l ≡ n →
    n + 2 ≤ length rows →
    set (set (l ++ drop n rows) n a) (n + 1) b ≡ (l ++ (a ∷ b ∷ [])) ++ drop (n + 2) rows
two-more l rows n a b long room =
    let whole : List ℕ = l ++ drop n rows in
    let next : n + 1 ≡ suc n = omega arith in
    rw next
    (sets-eq (a ∷ b ∷ []) whole n (rw (length-append l (drop n rows), length-drop n rows) (omega arith))
    ∙ rw (take_at l (drop n rows) n long, sym (drop-drop 2 n whole), drop_at l (drop n rows) n long, drop-drop 2 n rows))

-- one bridge more, by its choice after all ends
module _ (s : State) (ok : network_in_range s ≡ true) (typed : Typed s.bench) (d y : ℕ) (hd : d < s.bench.bridges) (hy : y < s.bench.bridges) where
  pub row_more :
      (rows : List ℕ) (c : Choice) →
      2 * s.bench.bridges ≤ length rows →
      c ≡ choice_in s d y (2 * s.bench.links) →
      set (set (with_report (network s) d y rows) (2 * y) c.distance) (2 * y + 1) (link_number (port_by c)) ≡ with_report (network s) d (y + 1) rows
  row_more rows c room so =
      let n : Network = network s in
      let past : 2 * suc y ≡ 2 * y + 2 = omega arith in
      rw (so, choice-verdict s ok d y hy hd, choice-own, distance_is s ok typed y d hy hd, port-is s ok typed y d hy hd)
      (rw (add-one y, report-length n d (suc y), report-length n d y, past, numbers-more n d y)
      (two-more (report_numbers n d y) rows (2 * y) _ _ (report-length n d y) (omega arith)))

-- ---- what the call comes to

module _ (s : State) (d : ℕ) (rows : List ℕ) where
  pub report-out : (network_in_range s && leb 32 (length rows)) ≡ false → report_outcome (refused_by 17) rows ≡ report_of s d rows
  unfolding report_of ready_for reply_to
  report-out out = rw (sym (refusal-out _ (network s) (report d) out))

  -- in range
  module _ (ok : network_in_range s ≡ true) where
    pub report-turned : (r : Refusal) → number r ≡ refuse (network s) (report d) → report_outcome (refused_by (number r)) rows ≡ report_into s d rows
    unfolding reply_to
    report-turned r is = rw (refusal-ready (network_in_range s) (network s) (report d) ok, ← is, ne_eqb (number r) 0 (some_number r))

    pub report-written : refuse (network s) (report d) ≡ 0 → report_outcome (says tt) (with_report (network s) d s.bench.bridges rows) ≡ report_into s d rows
    unfolding reply_to
    report-written none = rw (refusal-ready (network_in_range s) (network s) (report d) ok, none)

    -- with room for 16 bridges
    pub report-whole : 32 ≤ length rows → report_into s d rows ≡ report_of s d rows
    unfolding report_of ready_for reply_to
    report-whole room = rw (ok, le-leb 32 (length rows) room)
