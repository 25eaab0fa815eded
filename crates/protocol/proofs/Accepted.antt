-- What the table of refusals tells of an accepted call. Assumes nothing.
use Prim.Native.Nat.{ℕ, ◌<◌}
use native.Mathlib.Omega.{arith}
use mathlib.Core.Path.{◌≡◌}
use mathlib.Core.Bool.{true, false, ◌&&◌, not}
use mathlib.Core.List.{List, ◌∷◌}
use lib.ListN.{length}
use lib.Dec.{eqb}
use borrow.Author.Tests.{eqb-true, leb-false, not-false}
use Rattle.distances.proofs.Booleans.{below}
use Rattle.distances.proofs.Checks.{passed}
use Rattle.protocol.specs.Net.{Network}
use Rattle.protocol.specs.Calls.{Call, Check, change, send, update, refusal, no_such_bridge, no_such_view, no_number_left, no_such_link, not_on_link, end_down, no_room, no_message, change_checks, checks, refuse, accepted, end_of}
use Rattle.protocol.proofs.Links.{end-at-bridge}

-- no check of an accepted call applies
pub accepted-checks : (n : Network) (c : Call) → accepted n c ≡ true → refusal (checks n c) ≡ 0
unfolding accepted refuse
accepted-checks n c e = eqb-true (refuse n c) 0 e

-- an accepted send
pub record SendFacts (n : Network) (b l : ℕ) : Type 0 where
  pub bridge : b < n.plan.graph.bridges
  pub link : l < n.plan.graph.links
  pub at_bridge : n.plan.graph.bridge_at (end_of n.plan.graph b l) ≡ b
  pub room : length n.messages < 64

-- an accepted update
pub record UpdateExists (n : Network) (b t : ℕ) : Type 0 where
  pub bridge : b < n.plan.graph.bridges
  pub view : t < n.plan.views
  pub number_left : (eqb (n.number b) 65535 && not (eqb (n.view b) t)) ≡ false

module _ (n : Network) where
  pub send-listed : (b l : ℕ) → accepted n (send b l) ≡ true → SendFacts n b l
  unfolding checks no_such_bridge no_such_link not_on_link end_down no_room
  send-listed b l a =
      let one = passed (no_such_bridge n b) _ (omega arith) (accepted-checks n (send b l) a) in
      let two = passed (no_such_link n l) _ (omega arith) one.1 in
      let three = passed (not_on_link n b l) _ (omega arith) two.1 in
      let four = passed (end_down n (end_of n.plan.graph b l)) _ (omega arith) three.1 in
      let five = passed (no_room n) _ (omega arith) four.1 in
      record {
        bridge = below b n.plan.graph.bridges one.0;
        link = below l n.plan.graph.links two.0;
        at_bridge = end-at-bridge n.plan.graph b l (not-false _ three.0);
        room = leb-false 64 (length n.messages) five.0;
      }

  pub update-listed : (b t : ℕ) → accepted n (change (update b t)) ≡ true → UpdateExists n b t
  unfolding checks change_checks no_such_bridge no_such_view no_number_left
  update-listed b t a =
      let one = passed (no_such_bridge n b) _ (omega arith) (accepted-checks n (change (update b t)) a) in
      let two = passed (no_such_view n t) _ (omega arith) one.1 in
      let three = passed (no_number_left n b t) _ (omega arith) two.1 in
      record {
        bridge = below b n.plan.graph.bridges one.0;
        view = below t n.plan.views two.0;
        number_left = three.0;
      }

  -- an accepted place
  pub place-listed : (p : ℕ) (cs : List Check) → refusal (no_message n p ∷ cs) ≡ 0 → p < length n.messages
  unfolding no_message
  place-listed p cs e = below p (length n.messages) (passed (no_message n p) cs (omega arith) e).0
