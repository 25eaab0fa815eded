-- What a call comes to by its contract: out of range, turned down by the table, or accepted. Assumes nothing.
use Prim.Native.Nat.{ℕ}
use mathlib.Core.Path.{◌≡◌, refl, sym, ◌∙◌, ap}
use mathlib.Core.Bool.{Bool, true, false, cond}
use borrow.Author.Tests.{ne_eqb}
use lib.Dec.{eqb}
use Rattle.agreement.specs.Forwarding.{port_of}
use Rattle.agreement.specs.Call.{mapped, says}
use Rattle.agreement.specs.declared.Verdict.{Verdict}
use Rattle.protocol.specs.Net.{Network}
use Rattle.protocol.specs.Calls.{Call, port, verdict, report, path, checks, refuse, accepted, act, step}
use Rattle.protocol.specs.Ports.{forwarding_verdict, forwarding_port}
use Rattle.bench.specs.State.{State, network}
use Rattle.bench.specs.Standing.{standing, step_in}
use Rattle.bench.specs.Ranges.{network_in_range}
use Rattle.bench.specs.Outcomes.{refused_by, RefusedChangesNothing, AskingChangesNothing, ready_for, refusal_of, reply_to, left_by, Outcome, outcome, outcome_of}
use Rattle.bench.proofs.TieRefusals.{refusal-out, refusal-ready}
use Rattle.bench.proofs.Beside.{stands-itself}

module _ {A : Type 0} (s : State) (c : Call) (value : Network → A) where
  pub range-refused : ready_for s c ≡ false → outcome (refused_by 17) s ≡ outcome_of s c value
  unfolding outcome_of reply_to left_by
  range-refused out = rw (sym (refusal-out (ready_for s c) (network s) c out), out)

  module _ (ok : ready_for s c ≡ true) where
    pub table-refused : (k : ℕ) → k ≡ refuse (network s) c → (k ≡ 0 → ⊥) → outcome (refused_by k) s ≡ outcome_of s c value
    unfolding outcome_of reply_to left_by step_in step accepted
    table-refused k is some = rw (refusal-ready (ready_for s c) (network s) c ok, ok, ← is, ne_eqb k 0 some, stands-itself s)

    pub call-done : refuse (network s) c ≡ 0 → {a : State} {v : A} → a ≡ step_in s c → v ≡ value (network s) → outcome (says v) a ≡ outcome_of s c value
    unfolding outcome_of reply_to left_by
    call-done none left is = rw (refusal-ready (ready_for s c) (network s) c ok, ok, none, left, is)

    -- the reply alone
    pub reply-refused : (k : ℕ) → k ≡ refuse (network s) c → (k ≡ 0 → ⊥) → refused_by k ≡ (outcome_of s c value).reply
    reply-refused k is some = ap (λ (o : Outcome A). o.reply) (table-refused k is some)

    pub reply-done : refuse (network s) c ≡ 0 → {v : A} → v ≡ value (network s) → says v ≡ (outcome_of s c value).reply
    unfolding outcome_of reply_to
    reply-done none is = rw (refusal-ready (ready_for s c) (network s) c ok, none, is)

  pub reply-out : ready_for s c ≡ false → refused_by 17 ≡ (outcome_of s c value).reply
  reply-out out = ap (λ (o : Outcome A). o.reply) (range-refused out)

pub refused-changes-nothing : RefusedChangesNothing
unfolding left_by step_in step accepted
refused-changes-nothing s c some = go (ready_for s c) refl
  where
    go : (b : Bool) → ready_for s c ≡ b → cond b (standing (cond (eqb (refuse (network s) c) 0) (act (network s) c) (network s)) s) s ≡ s
    go true ok = rw (ne_eqb (refuse (network s) c) 0 (λ none. some (refusal-ready (ready_for s c) (network s) c ok ∙ none)), stands-itself s)
    go false out = refl

pub asking-changes-nothing : AskingChangesNothing
unfolding left_by step_in step act
asking-changes-nothing s b d = (stays (port b d) _ refl, stays (verdict b d) _ refl, stays (report d) _ refl, stays (path b d) _ refl)
  where
    stays : (c : Call) (x : State) → x ≡ cond (ready_for s c) (standing (cond (accepted (network s) c) (network s) (network s)) s) s → x ≡ s
    stays c x is = is ∙ go (ready_for s c) (accepted (network s) c)
      where
        go : (p q : Bool) → cond p (standing (cond q (network s) (network s)) s) s ≡ s
        go true true = stands-itself s
        go true false = stands-itself s
        go false q = refl

-- a port's reply is that of the verdict, which is checked alike
pub port-reply :
    (s : State) (y d : ℕ) →
    (outcome_of s (port y d) (λ n. forwarding_port n y d)).reply ≡ mapped port_of (outcome_of s (verdict y d) (λ n. forwarding_verdict n y d)).reply
unfolding outcome_of reply_to ready_for refusal_of checks forwarding_port
port-reply s y d = go (forwarding_verdict (network s) y d) (refusal_of (network_in_range s) (network s) (verdict y d)) (eqb (refusal_of (network_in_range s) (network s) (verdict y d)) 0)
  where
    go : (v : Verdict) (k : ℕ) (b : Bool) → cond b (says (port_of v)) (refused_by k) ≡ mapped port_of (cond b (says v) (refused_by k))
    go v k true = refl
    go v k false = refl
