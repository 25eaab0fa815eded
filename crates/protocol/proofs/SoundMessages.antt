-- The invariant with other messages in flight: a send, and a message taken out. Assumes nothing.
use Prim.Native.Nat.{ℕ, ◌<◌}
use mathlib.Core.Path.{◌≡◌}
use mathlib.Core.List.{List}
use native.Mathlib.Omega.{arith}
use Rattle.agreement.specs.Record.{carried}
use Rattle.agreement.proofs.Direction.{InFlight}
use Rattle.protocol.specs.Net.{Network, Message, sender}
use Rattle.protocol.specs.Calls.{with_messages, without, end_of, message_of, sent_over}
use Rattle.protocol.proofs.Invariant.{InvariantBy}
use Rattle.protocol.proofs.Accepted.{SendFacts}
use Rattle.protocol.proofs.Links.{end-of-link}
use Rattle.protocol.proofs.Places.{Each, each-appended, each-without}

-- what the invariant says of one message
pub record Sound (n : Network) (h : ℕ → ℕ → ℕ) (m : Message) : Type 0 where
  pub link : m.link < n.plan.graph.links
  pub side : m.direction < 2
  pub flight : InFlight (h (n.plan.graph.bridge_at (sender m))) (n.number (n.plan.graph.bridge_at (sender m))) (n.records.ends (sender m)) m.agreement

module _ (n : Network) {h : ℕ → ℕ → ℕ} (inv : InvariantBy n h) where
  pub each-sound : Each (Sound n h) n.messages
  each-sound p low = record { link = inv.link_of_message p low; side = inv.side_of_message p low; flight = inv.in_flight p low }

  with-sound : (ms : List Message) → Each (Sound n h) ms → InvariantBy (with_messages n ms) h
  with-sound ms each =
      record {
        plan = inv.plan;
        numbered = inv.numbered;
        present = inv.present;
        is_view = inv.is_view;
        direction = inv.direction;
        link_of_message = λ p low. (each p low).link;
        side_of_message = λ p low. (each p low).side;
        in_flight = λ p low. (each p low).flight;
      }

  pub kept-without : (p : ℕ) → InvariantBy (with_messages n (without p n.messages)) h
  kept-without p = with-sound (without p n.messages) (each-without (Sound n h) p n.messages each-sound)

  -- what bridge b sends from its end e
  flight-sent : (b e : ℕ) → b < n.plan.graph.bridges → n.plan.graph.bridge_at e ≡ b → InFlight (h (n.plan.graph.bridge_at e)) (n.number (n.plan.graph.bridge_at e)) (n.records.ends e) (carried (n.view b) (n.number b) (n.records.ends e))
  flight-sent b e low at =
      rw at
      (record {
        least = inv.numbered b;
        most = omega arith;
        view = inv.present b low;
        discarded = omega arith;
      })

  pub kept-sent : (b l : ℕ) → SendFacts n b l → InvariantBy (sent_over n b l) h
  unfolding sent_over message_of
  kept-sent b l sent =
      with-sound _
      (each-appended (Sound n h) n.messages (message_of n b l) each-sound
      (record {
        link = sent.link;
        side = omega arith;
        flight =
            rw (end-of-link n.plan.graph b l)
            (flight-sent b (end_of n.plan.graph b l) sent.bridge sent.at_bridge);
      }))
