-- Filling and printing, again and again, prints what a plan prints. Assumes nothing.
use Prim.Native.Nat.{ℕ, zero, suc, ◌+◌, ◌-◌, ◌*◌, ◌≤◌, ◌<◌}
use native.Mathlib.Nat.{not-suc-le-zero}
use native.Mathlib.Omega.{arith}
use mathlib.Core.Path.{◌≡◌, refl, sym, ap, ◌∙◌}
use mathlib.Core.Bool.{Bool, true, false, cond}
use mathlib.Core.List.{List, [], ◌++◌, append-nil, append_assoc}
use borrow.Author.Tests.{leb-true}
use lib.ListN.{length, take, drop, replicate, length-append, length-take, length-drop, length-replicate}
use lib.Seq.{sets, length-sets, take-append-add, length-take-le, drop-drop}
use Rattle.distances.proofs.Booleans.{both_true}
use Rattle.runner.specs.Buffers.{Buffers}
use Rattle.runner.specs.Steps.{StepOutcome, step_of}
use Rattle.runner.specs.Plans.{first_runner, first_buffers, prints}
use Rattle.runner.specs.Fills.{buffers_with_out, step_on, steps_on, fills, fields_at_once, fill_of, prints_after, FillPrints, prints_filled}
use Rattle.runner.specs.declared.Runner.{Runner}
use Rattle.runner.proofs.RunFuel.{prints-next, prints-last}
use Rattle.runner.proofs.FillTexts.{taken-text, step-texts, step-within}
use Rattle.runner.proofs.FillSteps.{buffers_behind, rest_behind, next, on-within, step-written, fill-within}

-- what stands in the bytes to be printed does not matter
pub out-unread :
    (fuel : ℕ) (r : Runner) (k : Buffers) (rest a b : List ℕ) → 544 ≤ length a → 544 ≤ length b →
    prints fuel r (buffers_with_out a k) rest ≡ prints fuel r (buffers_with_out b k) rest
unfolding prints
out-unread zero r k rest a b ha hb = refl
out-unread (suc fuel) r k rest a b ha hb =
    let x = step-texts r k rest in
    let ta = taken-text a x.text (omega (arith, x.short, ha)) in
    let tb = taken-text b x.text (omega (arith, x.short, hb)) in
    let later = out-unread fuel x.runner x.after (drop x.used rest) (sets a 0 x.text) (sets b 0 x.text) (omega (arith, ha, length-sets a 0 x.text)) (omega (arith, hb, length-sets b 0 x.text)) in
    rw (x.is a ha, x.is b hb, ta, tb, later)

-- the first step
step-prints : (r : Runner) (k : Buffers) (rest : List ℕ) → prints (suc (length rest)) r k rest ≡ prints_after (step_of r k rest) rest
step-prints r k rest = go (step_of r k rest).going refl
  where
    go :
        (b : Bool) → (step_of r k rest).going ≡ b →
        prints (suc (length rest)) r k rest
        ≡ take (step_of r k rest).written (step_of r k rest).buffers.out
        ++ cond b (prints (suc (length (drop (step_of r k rest).used rest))) (step_of r k rest).runner (step_of r k rest).buffers (drop (step_of r k rest).used rest)) []
    go true e = prints-next r k rest e
    go false e = prints-last r k rest e ∙ sym (append-nil (take (step_of r k rest).written (step_of r k rest).buffers.out))

-- two texts, one behind the other
taken-both : (w n : ℕ) (out more : List ℕ) → w ≤ length out → take (w + n) (take w out ++ more) ≡ take w out ++ take n more
taken-both w n out more low =
    ap (λ (z : ℕ). take (z + n) (take w out ++ more)) (sym (length-take-le w out low)) ∙ take-append-add (take w out) more n

module _ (rest : List ℕ) (t : StepOutcome) where
  abbrev out : List ℕ
  out = t.buffers.out

  abbrev u : StepOutcome
  u = next rest t

  -- a step on prints what would be printed
  on-prints : steps_on t ≡ true → t.written ≤ length out → prints_after t rest ≡ prints_after (step_on t rest) rest
  unfolding step_on steps_on
  on-prints on low =
      let room = leb-true 544 (length out - t.written) (both_true t.going _ on).1 in
      let part : 544 ≤ length (drop t.written out) = omega (arith, room, length-drop t.written out) in
      let long : 544 ≤ length u.buffers.out = omega (arith, part, (step-within t.runner (buffers_behind rest t) (rest_behind rest t)).kept) in
      let longer : 544 ≤ length (take t.written out ++ u.buffers.out) = omega (arith, long, length-append (take t.written out) u.buffers.out) in
      let behind = drop u.used (rest_behind rest t) in
      ap (λ (b : Bool). take t.written out ++ cond b (prints (suc (length (rest_behind rest t))) t.runner t.buffers (rest_behind rest t)) []) (both_true t.going _ on).0
      ∙ ap (λ (l : List ℕ). take t.written out ++ l)
      (out-unread (suc (length (rest_behind rest t))) t.runner t.buffers (rest_behind rest t) out (drop t.written out) (omega (arith, room)) part
      ∙ step-prints t.runner (buffers_behind rest t) (rest_behind rest t))
      ∙ sym (append_assoc (take t.written out) (take u.written u.buffers.out) (cond u.going (prints (suc (length behind)) u.runner u.buffers behind) []))
      ∙ ap (λ (l : List ℕ). l ++ cond u.going (prints (suc (length behind)) u.runner u.buffers behind) []) (sym (taken-both t.written u.written out u.buffers.out low))
      ∙ ap (λ (l : List ℕ). take (t.written + u.written) (take t.written out ++ u.buffers.out) ++ cond u.going l [])
      (out-unread (suc (length behind)) u.runner u.buffers behind u.buffers.out (take t.written out ++ u.buffers.out) long longer
      ∙ ap (λ (l : List ℕ). prints (suc (length l)) u.runner (buffers_with_out (take t.written out ++ u.buffers.out) u.buffers) l) (drop-drop u.used t.used rest))

fills-prints : (fuel : ℕ) (rest : List ℕ) (t : StepOutcome) → t.written ≤ length t.buffers.out → prints_after t rest ≡ prints_after (fills fuel t rest) rest
unfolding fills
fills-prints zero rest t low = refl
fills-prints (suc fuel) rest t low = go (fills-prints fuel rest (step_on t rest) (on-within rest t low)) (steps_on t) refl
  where
    go :
        prints_after (step_on t rest) rest ≡ prints_after (fills fuel (step_on t rest) rest) rest →
        (b : Bool) → steps_on t ≡ b → prints_after t rest ≡ prints_after (cond b (fills fuel (step_on t rest) rest) t) rest
    go later true on = on-prints rest t on low ∙ later
    go later false off = refl

pub fill-prints : FillPrints
unfolding fill_of
fill-prints r k rest = step-prints r k rest ∙ fills-prints (fields_at_once r k rest - 1) rest (step_of r k rest) (step-written r k rest)

again : (fuel : ℕ) (r : Runner) (k : Buffers) (rest : List ℕ) → length rest < fuel → prints_filled fuel r k rest ≡ prints (suc (length rest)) r k rest
unfolding prints_filled
again zero r k rest h = absurd (not-suc-le-zero h)
again (suc fuel) r k rest h = go (again fuel t.runner t.buffers (drop t.used rest)) t.going refl ∙ sym (fill-prints r k rest)
  where
    t : StepOutcome
    t = fill_of r k rest

    go :
        (length (drop t.used rest) < fuel → prints_filled fuel t.runner t.buffers (drop t.used rest) ≡ prints (suc (length (drop t.used rest))) t.runner t.buffers (drop t.used rest)) →
        (b : Bool) → t.going ≡ b →
        take t.written t.buffers.out ++ cond b (prints_filled fuel t.runner t.buffers (drop t.used rest)) []
        ≡ take t.written t.buffers.out ++ cond b (prints (suc (length (drop t.used rest))) t.runner t.buffers (drop t.used rest)) []
    go later true e =
        let w = fill-within r k rest in
        ap (λ (l : List ℕ). take t.written t.buffers.out ++ l) (later (omega (arith, h, w.used, w.goes e, length-drop t.used rest)))
    go later false e = refl

-- whatever bytes are lent first
pub first_out :
    (plan out : List ℕ) → 544 ≤ length out →
    prints (suc (length plan)) first_runner (buffers_with_out out first_buffers) plan ≡ prints (suc (length plan)) first_runner first_buffers plan
first_out plan out long =
    out-unread (suc (length plan)) first_runner first_buffers plan out (replicate 544 0) long (omega (arith, length-replicate {A = ℕ} 544 0))

-- filled and printed again and again
pub filled-prints :
    (plan out : List ℕ) → 544 ≤ length out →
    prints_filled (suc (length plan)) first_runner (buffers_with_out out first_buffers) plan ≡ prints (suc (length plan)) first_runner first_buffers plan
filled-prints plan out long =
    again (suc (length plan)) first_runner (buffers_with_out out first_buffers) plan (omega arith) ∙ first_out plan out long

-- at most 544 bytes a field
pub prints-most : (fuel : ℕ) (r : Runner) (k : Buffers) (rest : List ℕ) → length (prints fuel r k rest) ≤ 544 * fuel
unfolding prints
prints-most zero r k rest = omega arith
prints-most (suc fuel) r k rest = go t.going (prints-most fuel t.runner t.buffers (drop t.used rest))
  where
    t : StepOutcome
    t = step_of r k rest

    go :
        (b : Bool) → length (prints fuel t.runner t.buffers (drop t.used rest)) ≤ 544 * fuel →
        length (take t.written t.buffers.out ++ cond b (prints fuel t.runner t.buffers (drop t.used rest)) []) ≤ 544 * suc fuel
    go true later =
        omega (
          arith,
          later,
          (step-within r k rest).few,
          length-take t.written t.buffers.out,
          length-append (take t.written t.buffers.out) (prints fuel t.runner t.buffers (drop t.used rest)),
        )
    go false later =
        omega (
          arith,
          later,
          (step-within r k rest).few,
          length-take t.written t.buffers.out,
          length-append (take t.written t.buffers.out) [],
        )
