-- Document 01's known examples E1 to E8, and last cases of ours for the sentences of document 02's Changes 1 and 2, one table: what is computed
-- and what the documents state. Assumes nothing.
use Rattle.std.specs.Prelude.{ℕ, zero, suc, List, [], ◌∷◌, ◌++◌, get_or, None, Some}
use Rattle.distances.specs.View.{Costs, NONE, graph_of, costs_of}
use Rattle.distances.specs.Examples.{Example, AllHold, examples, triangle, view0, view1}
use Rattle.agreement.specs.Forwarding.{Port}
use Rattle.agreement.specs.Record.{held_limit}
use Rattle.agreement.specs.Reasons.{verdict_numbers}
use Rattle.agreement.specs.declared.Answer.{Answer}
use Rattle.agreement.specs.declared.Answer.TheVariants.{Stale, Agreed, Noted}
use Rattle.protocol.specs.Net.{Network, Plan, fresh}
use Rattle.protocol.specs.Calls.{Call, change, update, cut, send, deliver, refuse, run, message_at, answer_at}
use Rattle.protocol.specs.Ports.{forwarding_verdict, forwarding_port, own_distance}
use Rattle.protocol.specs.Paths.{PathResult, delivered, stops, path}

-- the triangle with its two views
unfoldable pub costs_in : ℕ → Costs
costs_in zero = view0
costs_in (suc t) = view1

abbrev pub plan : Plan
plan = record { graph = triangle; views = 2; costs = costs_in }

abbrev pub after : List Call → Network
after cs = run (fresh plan) cs

-- a round: every bridge sends over each of its links, and all those messages are delivered
abbrev pub round : List Call
round =
    send 0 0 ∷ send 0 2 ∷ send 1 0 ∷ send 1 1 ∷ send 2 1 ∷ send 2 2
    ∷ deliver 0 ∷ deliver 0 ∷ deliver 0 ∷ deliver 0 ∷ deliver 0 ∷ deliver 0 ∷ []

-- two rounds in view 0; a message of bridge 1 then stays in flight until E8
abbrev pub calls_e3 : List Call
calls_e3 = round ++ round ++ (send 1 1 ∷ [])

-- of link 0 bridge 0's end alone is cut (Change 1)
abbrev pub calls_one_end : List Call
calls_one_end = calls_e3 ++ (change (cut 0 0) ∷ [])

-- of its chosen link 0 bridge 1's own end is cut (Change 2)
abbrev pub calls_own_end : List Call
calls_own_end = calls_e3 ++ (change (cut 1 0) ∷ [])

-- bridge 0's message to bridge 1 over link 0
abbrev pub sent_before : List Call
sent_before = send 0 0 ∷ []

-- "Known example E4 cuts both ends"
abbrev pub calls_e4 : List Call
calls_e4 = calls_e3 ++ (change (cut 0 0) ∷ change (cut 1 0) ∷ change (update 1 1) ∷ [])

abbrev pub calls_e5 : List Call
calls_e5 = calls_e4 ++ (change (update 2 1) ∷ [])

abbrev pub calls_e6 : List Call
calls_e6 = calls_e5 ++ (send 2 1 ∷ deliver 1 ∷ [])

abbrev pub calls_e7 : List Call
calls_e7 = calls_e6 ++ (send 1 1 ∷ deliver 1 ∷ send 2 1 ∷ deliver 1 ∷ [])

-- ports that point at each other (ours): links 0 (0–1), 1 (0–2), 2 and 3 (1–2); view 0 costs 1, 9, 1, 0; view 1 costs 0, 5, 0, 1. Bridge 1 holds an
-- offer of bridge 2 over link 3; then bridge 2 goes by link 2, bridge 1's end of it is cut, and bridge 1 goes by link 3
abbrev pub doubled : Plan
doubled =
    record {
      graph = graph_of 3 4 (0 ∷ 1 ∷ 0 ∷ 2 ∷ 1 ∷ 2 ∷ 1 ∷ 2 ∷ []);
      views = 2;
      costs = λ t. costs_of (get_or ((1 ∷ 9 ∷ 1 ∷ 0 ∷ []) ∷ (0 ∷ 5 ∷ 0 ∷ 1 ∷ []) ∷ []) t []);
    }

abbrev pub pointing : Network
pointing =
    run (fresh doubled)
    (change (update 2 1) ∷ send 2 3 ∷ deliver 0 ∷ change (update 2 0) ∷ send 0 0 ∷ deliver 0 ∷ send 1 2 ∷ deliver 0
    ∷ change (cut 1 2) ∷ change (update 1 1) ∷ [])

-- the same links with link 3 in both views
abbrev pub doubled_in_both : Plan
doubled_in_both =
    record {
      graph = doubled.graph;
      views = 2;
      costs = λ t. costs_of (get_or ((1 ∷ 9 ∷ 1 ∷ 1 ∷ []) ∷ (0 ∷ 5 ∷ 0 ∷ 1 ∷ []) ∷ []) t []);
    }

-- over these links: bridges 1 and 2 go to view 1, and bridge 2's agreement over link 3 reaches bridge 1, whose sent limit on link 2 is still view 0's
abbrev pub calls_barred : List Call
calls_barred = change (update 2 1) ∷ change (update 1 1) ∷ send 2 3 ∷ deliver 0 ∷ []

-- two bridges that no link joins
abbrev pub unlinked : Plan
unlinked = record { graph = graph_of 2 0 []; views = 1; costs = λ t. costs_of [] }

-- numbers for the table: a port's link (NONE: no port), a path (0 delivered, 1 stops), a delivery's answer (0 stale, 1 agreed, 2 noted)
abbrev pub link_used : Port → ℕ
link_used None = NONE
link_used (Some l) = l

abbrev pub example_numbers : PathResult → List ℕ
example_numbers (delivered h) = 0 ∷ h ∷ []
example_numbers (stops b h) = 1 ∷ b ∷ h ∷ []

abbrev pub answer_number : Answer → ℕ
answer_number Stale = 0
answer_number (Agreed number view) = 1
answer_number (Noted number view) = 2

-- for destination 0
abbrev pub uses : List Call → ℕ → ℕ
uses cs y = link_used (forwarding_port (after cs) y 0)

abbrev pub way : List Call → ℕ → List ℕ
way cs y = example_numbers (path (after cs) y 0)

abbrev pub why : List Call → ℕ → List ℕ
why cs y = verdict_numbers (forwarding_verdict (after cs) y 0)

-- of bridge 1 in a plan of these links
abbrev pub why_barred : Plan → List Call → List ℕ
why_barred p cs = verdict_numbers (forwarding_verdict (run (fresh p) (calls_barred ++ cs)) 1 0)

abbrev pub answered : List Call → ℕ → ℕ
answered cs p = answer_number (answer_at (after cs) p)

-- E1 is layer 1's; end 2 is bridge 1's end of link 1. E8: a message over link 1 from end 2 (direction 0), of number 1; its delivery is
-- accepted (0) and stale. Then ours: bridge 0's end of link 0 alone is down. Bridge 1's port stays on link 0 and the path stops there; bridge 0's send
-- is refused with 13, bridge 1's is not; a delivery over link 0 is accepted where the sender's end is down, and refused with 13 where the
-- receiver's is. Next (`pointing`): for destination 0 bridge 1's port is on link 3, to bridge 2, and bridge 2's on link 2, to bridge 1; the path from 1
-- stops at 2 after 1 hop, for the frame dies on link 2.
-- Then the verdicts for destination 0 of E2 to E7, bridges 0, 1, 2 in E2 and 1, 2 after it: the destination, nothing held over the chosen link, what is
-- held too great, the sent limit not above the distance, forwards. Next bridge 1's own end of its chosen link is cut: after E3; in the fresh network,
-- where nothing is held either; and after E4, where what is held is too great. Fresh it goes to view 1, where nothing is held and a sent limit bars too. Then
-- the only sent limit that bars is on another link than the chosen one; cut at bridge 1's end, it does not bar; with the chosen link cut there, that comes
-- first. Then two bar, and the lower is named; cut at bridge 1's end, the other is. Last, no path
abbrev pub all_examples : List Example
all_examples =
    examples
    ++ (record { found = uses [] 0 ∷ uses [] 1 ∷ uses [] 2 ∷ []; stated = NONE ∷ NONE ∷ NONE ∷ [] }
    ∷ record { found = uses calls_e3 1 ∷ uses calls_e3 2 ∷ way calls_e3 2; stated = 0 ∷ 1 ∷ 0 ∷ 2 ∷ [] }
    ∷ record { found = own_distance (after calls_e4) 1 0 ∷ uses calls_e4 1 ∷ way calls_e4 2; stated = 4 ∷ NONE ∷ 1 ∷ 1 ∷ 1 ∷ [] }
    ∷ record { found = uses calls_e5 2 ∷ []; stated = 2 ∷ [] }
    ∷ record {
      found =
          held_limit ((after calls_e6).records.ends 2) ((after calls_e6).records.held 2) 0
          ∷ (after calls_e6).records.sent 2 0
          ∷ uses calls_e6 1
          ∷ [];
      stated = 4 ∷ 2 ∷ NONE ∷ [];
    }
    ∷ record { found = uses calls_e7 1 ∷ []; stated = 1 ∷ [] }
    ∷ record {
      found =
          (message_at (after calls_e7) 0).link
          ∷ (message_at (after calls_e7) 0).direction
          ∷ (message_at (after calls_e7) 0).agreement.number
          ∷ refuse (after calls_e7) (deliver 0)
          ∷ answered calls_e7 0
          ∷ [];
      stated = 1 ∷ 0 ∷ 1 ∷ 0 ∷ 0 ∷ [];
    }
    ∷ record {
      found =
          uses calls_one_end 1 ∷ way calls_one_end 2
          ++ (refuse (after calls_one_end) (send 0 0)
          ∷ refuse (after calls_one_end) (send 1 0)
          ∷ refuse (after (sent_before ++ (change (cut 0 0) ∷ []))) (deliver 0)
          ∷ refuse (after (sent_before ++ (change (cut 1 0) ∷ []))) (deliver 0)
          ∷ []);
      stated = 0 ∷ 1 ∷ 1 ∷ 1 ∷ 13 ∷ 0 ∷ 0 ∷ 13 ∷ [];
    }
    ∷ record {
      found = link_used (forwarding_port pointing 1 0) ∷ link_used (forwarding_port pointing 2 0) ∷ example_numbers (path pointing 1 0);
      stated = 3 ∷ 2 ∷ 1 ∷ 2 ∷ 1 ∷ [];
    }
    ∷ record { found = why [] 0 ++ why [] 1 ++ why [] 2; stated = 1 ∷ NONE ∷ 4 ∷ 0 ∷ 4 ∷ 1 ∷ [] }
    ∷ record { found = why calls_e3 1 ++ why calls_e3 2 ++ why calls_e4 1 ++ why calls_e4 2; stated = 0 ∷ 0 ∷ 0 ∷ 1 ∷ 5 ∷ 1 ∷ 0 ∷ 1 ∷ [] }
    ∷ record { found = why calls_e5 1 ++ why calls_e5 2 ++ why calls_e6 1 ++ why calls_e6 2; stated = 5 ∷ 1 ∷ 0 ∷ 2 ∷ 6 ∷ 1 ∷ 0 ∷ 2 ∷ [] }
    ∷ record { found = why calls_e7 1 ++ why calls_e7 2; stated = 0 ∷ 1 ∷ 0 ∷ 2 ∷ [] }
    ∷ record {
      found = why calls_own_end 1 ++ why (change (cut 1 0) ∷ []) 1 ++ why (calls_e4 ++ (change (cut 1 1) ∷ [])) 1;
      stated = 3 ∷ 0 ∷ 3 ∷ 0 ∷ 3 ∷ 1 ∷ [];
    }
    ∷ record { found = why (change (update 1 1) ∷ []) 1; stated = 4 ∷ 1 ∷ [] }
    ∷ record {
      found = why_barred doubled [] ++ why_barred doubled (change (cut 1 2) ∷ []) ++ why_barred doubled (change (cut 1 3) ∷ []);
      stated = 6 ∷ 2 ∷ 0 ∷ 3 ∷ 3 ∷ 3 ∷ [];
    }
    ∷ record { found = why_barred doubled_in_both [] ++ why_barred doubled_in_both (change (cut 1 2) ∷ []); stated = 6 ∷ 2 ∷ 6 ∷ 3 ∷ [] }
    ∷ record { found = verdict_numbers (forwarding_verdict (fresh unlinked) 1 0); stated = 2 ∷ NONE ∷ [] }
    ∷ [])

-- they hold
abbrev pub ExamplesHold : Type 0
ExamplesHold = AllHold all_examples
