-- The numbers of a field: that of the bytes stands behind them, and the first is the tag that was read. Assumes nothing.
use Prim.Native.Nat.{ℕ, ◌≤◌, ◌<◌}
use native.Mathlib.Omega.{arith}
use mathlib.Core.Path.{◌≡◌, refl, sym, ◌∙◌}
use mathlib.Core.Bool.{Bool, true, false, cond}
use mathlib.Core.List.{List, [], ◌∷◌, ◌++◌}
use borrow.Author.Tests.{eqb-true, eqb-false}
use lib.ListN.{get_or, set}
use lib.Seq.{sets}
use lib.Dec.{eqb}
use Rattle.bench.specs.declared.Event.{Event}
use Rattle.bench.specs.declared.Event.TheVariants.{Update, Send, Deliver, Repeat, Lose, Cut, Restore, Report, Path}
use Rattle.plan.specs.Tags.{known}
use Rattle.plan.specs.Fields.{byte, tag, value, event_by, field_of}
use Rattle.plan.specs.declared.Field.{Field}
use Rattle.plan.proofs.TagTable.{in-range}
use Rattle.exports_network.specs.Reading.{event_numbers, field_numbers}

-- three numbers put in front, and a fourth behind them
event-joined : (out : List ℕ) (event : Event) (x : ℕ) → set (sets out 0 (event_numbers event)) 3 x ≡ sets out 0 (event_numbers event ++ (x ∷ []))
event-joined out (Update a b) x = refl
event-joined out (Send a b) x = refl
event-joined out (Deliver a) x = refl
event-joined out (Repeat a) x = refl
event-joined out (Lose a) x = refl
event-joined out (Cut a b) x = refl
event-joined out (Restore a b) x = refl
event-joined out (Report a) x = refl
event-joined out (Path a b) x = refl

pub field-joined : (out : List ℕ) (f : Field) (x : ℕ) → set (sets out 0 (field_numbers f)) 3 x ≡ sets out 0 (field_numbers f ++ (x ∷ []))
field-joined out (Field.Bridges a) x = refl
field-joined out (Field.Link a b) x = refl
field-joined out Field.View x = refl
field-joined out (Field.Event event) x = event-joined out event x

-- one step of a choice by the tag, which is no lower: it is this one, or higher
chosen : {A : Type 0} (first : A → ℕ) (t k : ℕ) (x y : A) → first x ≡ k → k ≤ t → (k < t → first y ≡ t) → first (cond (eqb t k) x y) ≡ t
chosen first t k x y told least other = go (eqb t k) refl
  where
    go : (b : Bool) → eqb t k ≡ b → first (cond b x y) ≡ t
    go true h = told ∙ sym (eqb-true t k h)
    go false h = other (omega (arith, eqb-false t k h))

event_tag : Event → ℕ
event_tag event = get_or (event_numbers event) 0 0

event-tag : (t a b : ℕ) → 4 ≤ t → t ≤ 12 → event_tag (event_by t a b) ≡ t
unfolding event_by event_tag
event-tag t a b least most =
    chosen event_tag t 4 _ _ refl least (λ h.
    chosen event_tag t 5 _ _ refl h (λ h.
    chosen event_tag t 6 _ _ refl h (λ h.
    chosen event_tag t 7 _ _ refl h (λ h.
    chosen event_tag t 8 _ _ refl h (λ h.
    chosen event_tag t 9 _ _ refl h (λ h.
    chosen event_tag t 10 _ _ refl h (λ h.
    chosen event_tag t 11 _ _ refl h (λ h. omega arith))))))))

field_tag : Field → ℕ
field_tag f = get_or (field_numbers f) 0 0

-- the first number of a field with a known tag is its first byte
pub tag-told : (rest : List ℕ) → known (tag rest) ≡ true → get_or (field_numbers (field_of rest)) 0 0 ≡ byte rest 0
unfolding field_of field_tag event_tag
tag-told rest named =
    let t = tag rest in
    let inside = in-range t named in
    chosen field_tag t 1 _ _ refl inside.0 (λ h.
    chosen field_tag t 2 _ _ refl h (λ h.
    chosen field_tag t 3 _ _ refl h (λ h. event-tag t (value rest 0) (value rest 1) h inside.1)))
