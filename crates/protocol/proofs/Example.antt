-- The worked list of calls meets the premises of the settling statement, by computation. Assumes nothing.
use Prim.Native.Nat.{ℕ, zero, suc, ◌<◌, ◌≤◌}
use native.Mathlib.Omega.{arith}
use mathlib.Core.Path.{◌≡◌, refl}
use mathlib.Core.Logic.{◌⊎◌, inl, inr}
use mathlib.Core.Bool.{Bool, true, false≢true}
use Rattle.distances.specs.View.{CostsInRange, max_cost}
use Rattle.distances.specs.Distance.{present, joins, crossing, unjoined, joined_below, relaxed, relaxed_below, dist}
use Rattle.distances.specs.Call.{every, all_below}
use Rattle.distances.specs.Examples.{triangle, view0}
use Rattle.distances.proofs.Known.{below-three, triangle-in-range, view1-in-range}
use Rattle.agreement.specs.Tests.{first_below}
use Rattle.agreement.specs.Offer.{offer}
use Rattle.agreement.specs.Record.{updated, sent_updated, held_updated, is_stale, is_agreed, answer, recorded, is_clearing, sent_delivered, held_delivered}
use Rattle.agreement.specs.Forwarding.{reaches, chosen_end, is_up, has_no_link, holds_nothing, bars, barring_end, is_barred, first_of, verdict_from, verdict}
use Rattle.protocol.specs.Net.{PlanInRange, fresh}
use Rattle.protocol.specs.Calls.{refusal, no_such_bridge, no_such_view, no_such_link, no_number_left, not_on_link, end_down, no_room, no_message, already, change_checks, checks, refuse, accepted, moved, updated_to, with_end, end_of, message_of, sent_over, without, received_at, after_delivery, after_change, act, step, run}
use Rattle.protocol.specs.Ports.{own_distance, forwarding_verdict, forwarding_port, across, is_live, hop_by, hop}
use Rattle.protocol.specs.Paths.{follow, onward, path, follow_links, onward_links, links_crossed}
use Rattle.protocol.specs.LimitViews.{update_effect, delivery_effect, accepted_effect, end_effect, views_after, views_run, least_over, offer_held}
use Rattle.protocol.specs.Rounds.{moved_up, message_status, status_by, or_later, is_delivered, is_send_from, is_sent_and_delivered, has_round, is_change, has_no_change}
use Rattle.protocol.specs.Demand3.{Uncut, Cut, Settling}
use Rattle.protocol.specs.Examples.{costs_in, plan}
use Rattle.protocol.specs.SettlingMet.{before, opening, closing, first, second, start, SettlingCanBeMet}

-- all that computes below
unfoldable pub computing : Bool
unfolding costs_in before opening closing first second start present joins crossing unjoined joined_below relaxed relaxed_below dist every all_below first_below offer updated sent_updated held_updated is_stale is_agreed answer recorded is_clearing sent_delivered held_delivered reaches chosen_end is_up has_no_link holds_nothing bars barring_end is_barred first_of verdict_from verdict fresh refusal no_such_bridge no_such_view no_such_link no_number_left not_on_link end_down no_room no_message already change_checks checks refuse accepted moved updated_to with_end end_of message_of sent_over without received_at after_delivery after_change act step run own_distance forwarding_verdict forwarding_port across is_live hop_by hop follow onward path follow_links onward_links links_crossed update_effect delivery_effect accepted_effect end_effect views_after views_run least_over offer_held moved_up message_status status_by or_later is_delivered is_send_from is_sent_and_delivered has_round is_change has_no_change
computing = true

-- the plan is in the ranges
in-range : PlanInRange plan
unfolding computing
in-range =
    record {
      graph = triangle-in-range;
      least = omega arith;
      most = omega arith;
      costs = each;
    }
  where
    each : (t : ℕ) → t < 2 → CostsInRange triangle (costs_in t)
    each zero h = record { most = below-three (λ l. view0 l ≤ max_cost) (omega arith) (omega arith) (omega arith) }
    each (suc t) h = view1-in-range

premises : Settling start 1 first second
unfolding computing
premises =
    record {
      on_view = below-three (λ b. start.view b ≡ 1) refl refl refl;
      uncut_or_cut = below-three (λ l. Uncut start l ⊎ Cut start l) (inr (refl, refl)) (inl (refl, refl)) (inl (refl, refl));
      cut_absent = below-three (λ l. Cut start l → costs_in 1 l ≡ 0) (λ q. refl) (λ q. absurd (false≢true q.0)) (λ q. absurd (false≢true q.0));
      no_change = refl;
      first_round = refl;
      second_round = refl;
    }

pub settling-can-be-met : SettlingCanBeMet
unfolding computing
settling-can-be-met =
    record { in_range = in-range; premises = premises; distances = (refl, refl); stale = refl }
