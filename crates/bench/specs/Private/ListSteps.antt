-- One call and one event, by what the private functions make of the lists. Assumes nothing.
use Rattle.std.specs.Prelude.{ℕ, true, false, List, [], ◌∷◌}
use Rattle.protocol.specs.Calls.{Call, change, update, cut, restore, send, deliver, repeat, lose, port, verdict, report, path}
use Rattle.bench.specs.State.{State, state}
use Rattle.bench.specs.Private.Changes.{switch_of, update_of}
use Rattle.bench.specs.Private.Queue.{send_of, lose_of}
use Rattle.bench.specs.Private.Deliveries.{deliver_of, repeat_of}

-- the state that a call leaves
unfoldable pub step_by : State → Call → State
step_by s (change (update y t)) =
    let o = update_of s y t in state o.bench s.costs o.sent o.held s.messages
step_by s (change (cut y l)) = state (switch_of s.bench y l true).bench s.costs s.sent s.held s.messages
step_by s (change (restore y l)) = state (switch_of s.bench y l false).bench s.costs s.sent s.held s.messages
step_by s (send y l) =
    let o = send_of s.bench s.messages y l in state o.bench s.costs s.sent s.held o.messages
step_by s (deliver p) =
    let o = deliver_of s p in state o.bench s.costs o.sent o.held o.messages
step_by s (repeat p) =
    let o = repeat_of s p in state o.bench s.costs o.sent o.held o.messages
step_by s (lose p) =
    let o = lose_of s.bench s.messages p in state o.bench s.costs s.sent s.held o.messages
step_by s (port y d) = s
step_by s (verdict y d) = s
step_by s (report d) = s
step_by s (path y d) = s

-- the numbers of a value, where there is one
unfoldable pub value_numbers : {A : Type 0} → (A → List ℕ) → List A → List ℕ
value_numbers numbers [] = []
value_numbers numbers (x ∷ xs) = numbers x
