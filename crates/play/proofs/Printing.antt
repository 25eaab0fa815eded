-- What is printed and what is still to be printed, from filling to filling. Assumes nothing.
use Prim.Native.Nat.{ℕ, suc, ◌+◌, ◌-◌, ◌≤◌, ◌<◌}
use native.Mathlib.Omega.{arith}
use mathlib.Core.Path.{◌≡◌, refl, sym, ap, subst, ◌∙◌}
use mathlib.Core.Bool.{Bool, true, false, cond}
use mathlib.Core.List.{List, [], ◌++◌}
use lib.ListN.{length, take, drop, length-append, length-drop}
use lib.Seq.{take_all, length-take-le, drop-drop, drop_at, take-append_seam}
use Rattle.runner.specs.Buffers.{Buffers}
use Rattle.runner.specs.Steps.{StepOutcome}
use Rattle.runner.specs.Plans.{first_runner, first_buffers, prints}
use Rattle.runner.specs.Fills.{buffers_with_out, fill_of}
use Rattle.runner.specs.declared.Runner.{Runner}
use Rattle.runner.proofs.FillSteps.{fill-within}
use Rattle.runner.proofs.FillLaws.{fill-prints, first_out, prints-most}

-- what a plan prints, and how many bytes that is
abbrev pub text : List ℕ → List ℕ
text plan = prints (suc (length plan)) first_runner first_buffers plan

abbrev pub whole : List ℕ → ℕ
whole plan = length (text plan)

-- what is still to be printed where a plan stands
abbrev pub text_left : Bool → List ℕ → Runner → Buffers → List ℕ
text_left going rest r k = cond going (prints (suc (length rest)) r k rest) []

-- and how many bytes that is
abbrev pub to_print : Bool → List ℕ → Runner → Buffers → ℕ
to_print going rest r k = cond going (length (prints (suc (length rest)) r k rest)) 0

-- the bytes that are left, and one more while the plan goes on
abbrev pub left : Bool → List ℕ → ℕ → ℕ
left going plan at = cond going (suc (length plan - at)) 0

pub record Place (plan : List ℕ) (going : Bool) (at printed : ℕ) (r : Runner) (k : Buffers) : Type 0 where
  pub within : at ≤ length plan
  pub counted : printed + to_print going (drop at plan) r k ≡ whole plan
  pub next : drop printed (text plan) ≡ text_left going (drop at plan) r k

pub begun : (plan out : List ℕ) (r : Runner) → 544 ≤ length out → r ≡ first_runner → Place plan true 0 0 r (buffers_with_out out first_buffers)
begun plan out r long e =
    record {
      within = omega arith;
      counted = rw e (omega (arith, ap length (first_out plan out long)));
      next = rw e (sym (first_out plan out long));
    }

ended : (plan : List ℕ) (going : Bool) (at printed : ℕ) (r : Runner) (k : Buffers) → going ≡ false → Place plan going at printed r k → printed ≡ whole plan
ended plan going at printed r k e p = omega (arith, rw e at p.counted)

cond-length : (b : Bool) (l : List ℕ) → length (cond b l []) ≡ cond b (length l) 0
cond-length true l = refl
cond-length false l = refl

-- a filling, from a place of a plan that goes on
pub record LoopStep (plan : List ℕ) (at printed : ℕ) (t : StepOutcome) : Type 0 where
  pub written : t.written ≤ length t.buffers.out
  pub fits : printed + t.written ≤ whole plan
  pub bytes : take (length (take t.written t.buffers.out)) (drop printed (text plan)) ≡ take t.written t.buffers.out
  pub place : Place plan t.going (at + t.used) (printed + t.written) t.runner t.buffers
  pub fewer : left t.going plan (at + t.used) < suc (length plan - at)

module _ (plan : List ℕ) (at printed : ℕ) (r : Runner) (k : Buffers) (p : Place plan true at printed r k) where
  abbrev rest : List ℕ
  rest = drop at plan

  abbrev t : StepOutcome
  t = fill_of r k rest

  -- what was to be printed: what was filled, and what is to be printed from there
  split : length (prints (suc (length rest)) r k rest) ≡ t.written + to_print t.going (drop t.used rest) t.runner t.buffers
  split =
      let later : List ℕ = prints (suc (length (drop t.used rest))) t.runner t.buffers (drop t.used rest) in
      omega (
        arith,
        ap length (fill-prints r k rest),
        length-append (take t.written t.buffers.out) (cond t.going later []),
        length-take-le t.written t.buffers.out (fill-within r k rest).written,
        cond-length t.going later,
      )

  abbrev later : List ℕ
  later = text_left t.going (drop t.used rest) t.runner t.buffers

  comes-next : drop printed (text plan) ≡ take t.written t.buffers.out ++ later
  comes-next = p.next ∙ fill-prints r k rest

  behind : drop (printed + t.written) (text plan) ≡ later
  behind =
      sym (drop-drop t.written printed (text plan))
      ∙ ap (drop t.written) comes-next
      ∙ drop_at (take t.written t.buffers.out) later t.written (length-take-le t.written t.buffers.out (fill-within r k rest).written)

  used-some : (b : Bool) → t.going ≡ b → left b plan (at + t.used) < suc (length plan - at)
  used-some true e = omega (arith, (fill-within r k rest).goes e, (fill-within r k rest).used, length-drop at plan)
  used-some false e = omega arith

  filled : LoopStep plan at printed t
  filled =
      record {
        written = (fill-within r k rest).written;
        fits = omega (arith, split, p.counted);
        bytes = ap (take (length (take t.written t.buffers.out))) comes-next ∙ take-append_seam (take t.written t.buffers.out) later;
        place =
            record {
              within = omega (arith, p.within, (fill-within r k rest).used, length-drop at plan);
              counted = rw (← drop-drop t.used at plan) (omega (arith, split, p.counted));
              next = rw (← drop-drop t.used at plan) behind;
            };
        fewer = used-some t.going refl;
      }

  -- the part of the plan that is handed on
  pub filled-part : (u : StepOutcome) → u ≡ fill_of r k (take (length plan - at) (drop at plan)) → LoopStep plan at printed u
  filled-part u e =
      let part = take_all (length plan - at) (drop at plan) (omega (arith, length-drop at plan)) in
      subst (LoopStep plan at printed) (sym (e ∙ ap (fill_of r k) part)) filled

-- a plan that goes on is where it goes on from, with fewer bytes left
pub goes : {plan : List ℕ} {at printed : ℕ} {u : StepOutcome} → LoopStep plan at printed u → u.going ≡ true → Place plan true (at + u.used) (printed + u.written) u.runner u.buffers
goes {plan} {at} {printed} {u} t on = subst (λ (b : Bool). Place plan b (at + u.used) (printed + u.written) u.runner u.buffers) on t.place

pub fewer-left : {plan : List ℕ} {at printed : ℕ} {u : StepOutcome} → LoopStep plan at printed u → u.going ≡ true → length plan - (at + u.used) < length plan - at
fewer-left t on = let less = rw on at t.fewer in omega (arith, less)

-- and an end is the whole
pub none-left : {plan : List ℕ} {at printed : ℕ} {u : StepOutcome} → LoopStep plan at printed u → u.going ≡ false → printed + u.written ≡ whole plan
none-left t off = ended _ _ _ _ _ _ off t.place

-- a write that failed had a byte to write
pub stopped :
    (plan : List ℕ) (at printed : ℕ) (u : StepOutcome) → LoopStep plan at printed u →
    (taken : Bool) → taken ≡ false → (taken ≡ false → 0 < length (take u.written u.buffers.out)) → printed < whole plan
stopped plan at printed u t taken e some = omega (arith, some e, t.fits, length-take-le u.written u.buffers.out t.written)

-- a plan prints no more than can be counted
pub whole-few : (plan : List ℕ) → length plan ≤ 61440 → whole plan ≤ 33423904
whole-few plan few = omega (arith, prints-most (suc (length plan)) first_runner first_buffers plan)
