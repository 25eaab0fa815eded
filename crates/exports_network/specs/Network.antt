-- A bench as numbers in a list, and what each exported call of layer 3 does, for every input: its reply and every list that it may
-- write. Each is the call of the same name in `bench`; a list too short for the bench or for the answer, and a number that does not
-- fit its field, are refused first. Assumes nothing.
use Rattle.std.specs.Prelude.{ℕ, ◌+◌, ◌/◌, ◌%◌, ◌-◌, ◌≡◌, ◌≤◌, Bool, true, false, cond, ◌&&◌, List, [], ◌∷◌, length, get_or, take, drop, eqb, leb, ltb}
use Rattle.distances.specs.Table.{rewritten}
use Rattle.distances.specs.Call.{all_below}
use Rattle.agreement.specs.Record.{fresh_record, answer_numbers}
use Rattle.agreement.specs.Reasons.{verdict_numbers}
use Rattle.protocol.specs.Net.{Network}
use Rattle.protocol.specs.Calls.{Call, change, update, cut, restore, send, deliver, repeat, lose, port, verdict, path, answer_at}
use Rattle.protocol.specs.Ports.{forwarding_verdict, forwarding_port}
use Rattle.protocol.specs.Paths as paths
use Rattle.bench.specs.declared.Bench.{Bench}
use Rattle.bench.specs.State.{State, state}
use Rattle.bench.specs.Outcomes.{refused_by, Outcome, outcome, outcome_of, path_numbers, ReportOutcome, report_of, fresh_of}
use Rattle.encoding.specs.Numbers.{is_set, tabulated, records_in, holds_records, record_numbers, port_numbers}
use Rattle.encoding.specs.Replies.{CallOutcome, call_outcome, if_long, with_value, value_reply}

-- ---- a bench in 420 numbers: four counts, 64 ends, 16 views, 16 agreement numbers, four for each of 64 records, a flag for each of 64 ends

abbrev pub bench_numbers : ℕ
bench_numbers = 420

-- f of each of the n numbers from place k on
abbrev pub each : {A : Type 0} → ℕ → ℕ → (ℕ → A) → List ℕ → List A
each n k f xs = tabulated n (λ i. f (get_or xs (k + i) 0))

unfoldable pub bench_in : List ℕ → Bench
bench_in xs =
    record {
      bridges = get_or xs 0 0;
      links = get_or xs 1 0;
      views = get_or xs 2 0;
      messages = get_or xs 3 0;
      ends = each 64 4 (λ x. x % 256) xs;
      view = each 16 68 (λ x. x % 256) xs;
      number = each 16 84 (λ x. x % 65536) xs;
      records = records_in (take 256 (drop 100 xs));
      down = each 64 356 is_set xs;
    }

-- each of the n numbers from place k on is below the limit
abbrev pub each_below : ℕ → ℕ → ℕ → List ℕ → Bool
each_below n k limit xs = all_below n (λ i. ltb (get_or xs (k + i) 0) limit)

-- there are 420 numbers, and each fits its field: ends and views have 8 bits, agreement numbers 16; any number fits a count or a flag
abbrev pub holds_bench : List ℕ → Bool
holds_bench xs =
    leb bench_numbers (length xs) && (each_below 80 4 256 xs && (each_below 16 84 65536 xs && holds_records (take 256 (drop 100 xs))))

-- for private functions: the list holds this bench
pub record Holds (xs : List ℕ) (b : Bench) : Type 0 where
  pub test : holds_bench xs ≡ true
  pub room : bench_numbers ≤ length xs
  pub bench : b ≡ bench_in xs

-- a count as a number of 32 bits
abbrev pub low : ℕ → ℕ
low x = x % 4294967296

abbrev pub count_at : Bench → ℕ → ℕ
count_at b k = cond (eqb k 0) (low b.bridges) (cond (eqb k 1) (low b.links) (cond (eqb k 2) (low b.views) (low b.messages)))

-- the number at place k
unfoldable pub number_at : Bench → ℕ → ℕ
number_at b k =
    cond (ltb k 4) (count_at b k)
    (cond (ltb k 68) (get_or b.ends (k - 4) 0)
    (cond (ltb k 84) (get_or b.view (k - 68) 0)
    (cond (ltb k 100) (get_or b.number (k - 84) 0)
    (cond (ltb k 356) (get_or (record_numbers (get_or b.records ((k - 100) / 4) fresh_record)) (k % 4) 0)
    (cond (get_or b.down (k - 356) false) 1 0)))))

-- the list with the bench in its first 420 numbers
unfoldable pub stored : Bench → List ℕ → List ℕ
stored b xs = rewritten (λ k. ltb k bench_numbers) (number_at b) xs

-- ---- the calls: a list that a call is not lent is [] in the state

-- the new bench where the call was not refused
abbrev pub with_bench : ℕ → Bench → List ℕ → List ℕ
with_bench reply b xs = cond (eqb reply 0) (stored b xs) xs

-- a call that may change the network in s, by its outcome: the reply, the bench's numbers xs, and the other lists that it may write.
-- Where the test fails it is refused with 17 first
abbrev pub change_reply : {A : Type 0} → Bool → List ℕ → State → (State → Outcome A) → (Outcome A → List (List ℕ)) → CallOutcome
change_reply {A} test xs s call others =
    let o : Outcome A = cond test (call s) (outcome (refused_by 17) s) in
    call_outcome o.reply.number (with_bench o.reply.number o.state.bench xs ∷ others o)

-- a call with nothing to tell
abbrev pub done : Call → State → Outcome (Unit {0})
done c s = outcome_of s c (λ n. tt)

abbrev pub net_cut_reply : List ℕ → ℕ → ℕ → CallOutcome
net_cut_reply xs y l = change_reply (holds_bench xs) xs (state (bench_in xs) [] [] [] []) (done (change (cut y l))) (λ o. [])

abbrev pub net_restore_reply : List ℕ → ℕ → ℕ → CallOutcome
net_restore_reply xs y l = change_reply (holds_bench xs) xs (state (bench_in xs) [] [] [] []) (done (change (restore y l))) (λ o. [])

abbrev pub net_fresh_reply : List ℕ → List ℕ → List ℕ → List ℕ → CallOutcome
net_fresh_reply xs costs sent held =
    change_reply (holds_bench xs) xs (state (bench_in xs) costs sent held []) fresh_of (λ o. o.state.sent ∷ o.state.held ∷ [])

abbrev pub net_update_reply : List ℕ → List ℕ → List ℕ → List ℕ → ℕ → ℕ → CallOutcome
net_update_reply xs costs sent held y t =
    change_reply (holds_bench xs) xs (state (bench_in xs) costs sent held []) (done (change (update y t)))
    (λ o. o.state.sent ∷ o.state.held ∷ [])

abbrev pub net_send_reply : List ℕ → List ℕ → ℕ → ℕ → CallOutcome
net_send_reply xs messages y l =
    change_reply (holds_bench xs) xs (state (bench_in xs) [] [] [] messages) (done (send y l)) (λ o. o.state.messages ∷ [])

abbrev pub net_lose_reply : List ℕ → List ℕ → ℕ → CallOutcome
net_lose_reply xs messages p =
    change_reply (holds_bench xs) xs (state (bench_in xs) [] [] [] messages) (done (lose p)) (λ o. o.state.messages ∷ [])

-- deliver and repeat, at place p: the answer's numbers go to `out`
abbrev pub delivery_reply : Call → ℕ → List ℕ → State → List ℕ → CallOutcome
delivery_reply c p xs s out =
    change_reply (holds_bench xs && leb 3 (length out)) xs s (λ s. outcome_of s c (λ n. answer_at n p))
    (λ o. with_value answer_numbers out o.reply.value ∷ o.state.sent ∷ o.state.held ∷ o.state.messages ∷ [])

abbrev pub net_deliver_reply : List ℕ → List ℕ → List ℕ → List ℕ → List ℕ → List ℕ → ℕ → CallOutcome
net_deliver_reply xs costs sent held messages out p = delivery_reply (deliver p) p xs (state (bench_in xs) costs sent held messages) out

abbrev pub net_repeat_reply : List ℕ → List ℕ → List ℕ → List ℕ → List ℕ → List ℕ → ℕ → CallOutcome
net_repeat_reply xs costs sent held messages out p = delivery_reply (repeat p) p xs (state (bench_in xs) costs sent held messages) out

-- a call that only asks: its value's numbers, `size` of them, go to `out`; 17 first where the list holds no bench or `out` is shorter
abbrev pub ask_reply : {A : Type 0} → ℕ → (A → List ℕ) → Call → (Network → A) → List ℕ → State → List ℕ → CallOutcome
ask_reply size numbers c value xs s out =
    if_long (holds_bench xs && leb size (length out)) (out ∷ []) (value_reply numbers out (outcome_of s c value).reply)

abbrev pub net_port_reply : List ℕ → List ℕ → List ℕ → List ℕ → ℕ → ℕ → List ℕ → CallOutcome
net_port_reply xs costs sent held y d out =
    ask_reply 1 port_numbers (port y d) (λ n. forwarding_port n y d) xs (state (bench_in xs) costs sent held []) out

abbrev pub net_verdict_reply : List ℕ → List ℕ → List ℕ → List ℕ → ℕ → ℕ → List ℕ → CallOutcome
net_verdict_reply xs costs sent held y d out =
    ask_reply 2 verdict_numbers (verdict y d) (λ n. forwarding_verdict n y d) xs (state (bench_in xs) costs sent held []) out

abbrev pub net_path_reply : List ℕ → List ℕ → List ℕ → List ℕ → ℕ → ℕ → List ℕ → CallOutcome
net_path_reply xs costs sent held y d out =
    ask_reply 3 path_numbers (path y d) (λ n. paths.path n y d) xs (state (bench_in xs) costs sent held []) out

abbrev pub net_report_reply : List ℕ → List ℕ → List ℕ → List ℕ → ℕ → List ℕ → CallOutcome
net_report_reply xs costs sent held d rows =
    let o : ReportOutcome = report_of (state (bench_in xs) costs sent held []) d rows in
    if_long (holds_bench xs) (rows ∷ []) (call_outcome o.reply.number (o.rows ∷ []))
