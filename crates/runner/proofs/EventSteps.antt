-- A line that a call of the text has written, and the events that write none. Assumes nothing.
use Prim.Native.Nat.{ℕ, ◌≤◌}
use native.Mathlib.Omega.{arith}
use mathlib.Core.Path.{◌≡◌, refl, sym, ap, ◌∙◌}
use mathlib.Core.Bool.{Bool, true}
use mathlib.Core.List.{List}
use lib.ListN.{length}
use Rattle.text.specs.Writing.{Outcome, outcome, writing}
use Rattle.std.specs.Prelude.{Option, None, Some, unwrap_or}
use Rattle.text.proofs.Puts.{written}
use Rattle.bench.specs.declared.Event.{Event}
use Rattle.bench.specs.declared.Event.TheVariants.{Update, Send, Deliver, Repeat, Lose, Cut, Restore, Report, Path}
use Rattle.runner.specs.Events.{event_text, NoText, line, line_of}

-- the count and the bytes of a text that was let pass
pub counted :
    (w : Option ℕ) (m : List ℕ) (ready : Bool) (text out : List ℕ) →
    ready ≡ true →
    544 ≤ length out →
    outcome w m ≡ writing ready text out →
    line (unwrap_or w 0) m ≡ line_of text out
counted w m ready text out ok long e =
    told w
    ∙ ap (λ (o : Outcome). line o.count o.bytes) (e ∙ sym (written ready ok long (record { bytes = refl; next = omega arith })))
  where
    told : (v : Option ℕ) → line (unwrap_or v 0) m ≡ line (outcome v m).count (outcome v m).bytes
    told None = refl
    told (Some k) = refl

-- all but a report and a path
pub no_text : (e : Event) → ((d : ℕ) → e ≡ Report d → ⊥) → ((y d : ℕ) → e ≡ Path y d → ⊥) → NoText e
unfolding event_text
no_text (Update b t) reports goes bridges answers = refl
no_text (Send b l) reports goes bridges answers = refl
no_text (Deliver p) reports goes bridges answers = refl
no_text (Repeat p) reports goes bridges answers = refl
no_text (Lose p) reports goes bridges answers = refl
no_text (Cut y l) reports goes bridges answers = refl
no_text (Restore y l) reports goes bridges answers = refl
no_text (Report d) reports goes bridges answers = absurd (reports d refl)
no_text (Path y d) reports goes bridges answers = absurd (goes y d refl)
