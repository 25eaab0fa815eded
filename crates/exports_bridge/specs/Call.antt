-- What each exported call of layer 2 does, for every input: its reply and every list that it may write. Each is the call of the same
-- name in `agreement`, with its values as numbers; the port is `port_of` of the verdict, as it is there. Lists too short for these, and
-- numbers that do not fit their field, are refused first. Assumes nothing.
use Rattle.std.specs.Prelude.{ℕ, cond, ◌&&◌, List, [], ◌∷◌, length, leb}
use Rattle.agreement.specs.Record.{answer_numbers}
use Rattle.agreement.specs.Reasons.{verdict_numbers}
use Rattle.agreement.specs.Update.{bridge_update_numbers, bridge_update_outcome}
use Rattle.agreement.specs.Call.{
  Response,
  refused,
  mapped,
  Outcome,
  ViewData,
  offer_outcome,
  fresh_outcome,
  update_outcome,
  carry_outcome,
  deliver_outcome,
  verdict_outcome,
}
use Rattle.agreement.specs.Forwarding.{port_of}
use Rattle.agreement.specs.declared.Answer.{Answer}
use Rattle.agreement.specs.declared.Verdict.{Verdict}
use Rattle.encoding.specs.Numbers.{
  record_at,
  agreement_in,
  records_in,
  flags_in,
  holds_record,
  holds_agreement,
  holds_records,
  record_numbers,
  agreement_numbers,
  port_numbers,
}
use Rattle.encoding.specs.Replies.{CallOutcome, call_outcome, with_value, value_reply, with_numbers, if_long}

abbrev pub end_reply : List ℕ → Outcome ℕ → CallOutcome
end_reply fields o = call_outcome o.reply (with_numbers o.reply fields (record_numbers o.end) ∷ o.sent ∷ o.held ∷ [])

abbrev pub delivery_reply : List ℕ → List ℕ → Outcome (Response Answer) → CallOutcome
delivery_reply fields out o =
    call_outcome
    o.reply.number
    (with_numbers o.reply.number fields (record_numbers o.end)
    ∷ with_value answer_numbers out o.reply.value
    ∷ o.sent
    ∷ o.held
    ∷ [])

unfoldable pub offer_reply : ViewData → ℕ → ℕ → List ℕ → CallOutcome
offer_reply v e d out = if_long (leb 1 (length out)) (out ∷ []) (value_reply (λ x. x ∷ []) out (offer_outcome v e d))

unfoldable pub fresh_reply : ViewData → ℕ → List ℕ → List ℕ → List ℕ → CallOutcome
fresh_reply v e fields sent held =
    if_long (leb 4 (length fields)) (fields ∷ sent ∷ held ∷ []) (end_reply fields (fresh_outcome v e sent held))

unfoldable pub bridge_update_reply : ℕ → ℕ → ℕ → ℕ → List ℕ → CallOutcome
bridge_update_reply views present number t out =
    if_long (leb 2 (length out)) (out ∷ []) (value_reply bridge_update_numbers out (bridge_update_outcome views present number t))

unfoldable pub update_reply : ViewData → ℕ → ℕ → ℕ → List ℕ → List ℕ → List ℕ → CallOutcome
update_reply v views t e fields sent held =
    if_long
    (holds_record fields)
    (fields ∷ sent ∷ held ∷ [])
    (end_reply fields (update_outcome v views t e (record_at fields 0) sent held))

unfoldable pub carry_reply : ℕ → ℕ → ℕ → List ℕ → List ℕ → CallOutcome
carry_reply views t n fields out =
    if_long
    (holds_record fields && leb 3 (length out))
    (out ∷ [])
    (value_reply agreement_numbers out (carry_outcome views t n (record_at fields 0)))

unfoldable pub deliver_reply : ViewData → ℕ → ℕ → ℕ → ℕ → List ℕ → List ℕ → List ℕ → List ℕ → List ℕ → CallOutcome
deliver_reply v views t n e fields message sent held out =
    if_long
    (holds_record fields && (holds_agreement message && leb 3 (length out)))
    (fields ∷ out ∷ sent ∷ held ∷ [])
    (delivery_reply fields out (deliver_outcome v views t n e (record_at fields 0) (agreement_in message) sent held))

-- the verdict by flags and records as they are lent: refused where these are too few or do not fit their fields
unfoldable pub lent_verdict : ViewData → ℕ → List ℕ → List ℕ → List ℕ → List ℕ → ℕ → ℕ → Response Verdict
lent_verdict v views down records sent held y d =
    cond (leb 64 (length down) && holds_records records) (verdict_outcome v views (flags_in down) (records_in records) sent held y d) refused

unfoldable pub port_reply : ViewData → ℕ → List ℕ → List ℕ → List ℕ → List ℕ → ℕ → ℕ → List ℕ → CallOutcome
port_reply v views down records sent held y d out =
    if_long (leb 1 (length out)) (out ∷ []) (value_reply port_numbers out (mapped port_of (lent_verdict v views down records sent held y d)))

unfoldable pub verdict_reply : ViewData → ℕ → List ℕ → List ℕ → List ℕ → List ℕ → ℕ → ℕ → List ℕ → CallOutcome
verdict_reply v views down records sent held y d out =
    if_long (leb 2 (length out)) (out ∷ []) (value_reply verdict_numbers out (lent_verdict v views down records sent held y d))
