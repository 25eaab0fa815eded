-- The text has room, and is handed on whole or not at all.
use Rattle.runner.proofs.EventSteps.{counted}
use Rattle.runner.proofs.RunWhole.{output-refused}
use Rattle.play.specs.Output.{StandsAt}
use Rattle.play.proofs.Moved.{wrote_same}
use Rattle.runner.specs.Events.{Line, line, line_of}
use Rattle.std.specs.Io.KnownBytes.{Appends}
use Rattle.text.proofs.Laws.{length-refused_text}
use Rattle.std.specs.Prelude.{Option, unwrap_or}
use Rattle.text.specs.Writing.{outcome, writing}
use Rattle.text.specs.Lines.{refused_text}
use lib.Seq.{sets-eq, length-sets, length-take-le, take-append_seam, take-length}
use lib.ListN.{length, take, drop, replicate, length-replicate, length-append}
use Prim.Native.Nat.{ℕ, ◌+◌, ◌≤◌, ◌<◌}
use mathlib.Core.List.{List}
use mathlib.Core.Bool.{true}
use mathlib.Core.Path.{◌≡◌, refl, sym, ap, ◌∙◌, subst}
use native.Mathlib.Omega.{arith}
use Rattle.play.proofs.too_long.Goals as goal

abbrev text : List ℕ
text = refused_text 18 61440

some : 0 < length text
unfolding refused_text
some = simp length-append (omega arith)

-- the bytes that are lent
abbrev lent : List ℕ
lent = replicate 544 0

-- the count of what the text's call has answered
told : (w : Option ℕ) (n : ℕ) (m : List ℕ) → n ≡ unwrap_or w 0 → outcome w m ≡ writing true text lent → line n m ≡ line_of text lent
told w n m is e = ap (λ (k : ℕ). line k m) is ∙ counted w m true text lent refl (omega (arith, length-replicate {A = ℕ} 544 0)) e

counts : (n : ℕ) (m : List ℕ) → line n m ≡ line_of text lent → n ≡ length text
counts n m e = ap (λ (l : Line). l.count) e

-- the line lies within the bytes that are lent
within : (n : ℕ) (m : List ℕ) → line n m ≡ line_of text lent → n ≤ length m
within n m e =
    omega (arith, counts n m e, ap (λ (l : Line). length l.out) e, length-sets lent 0 text, length-refused_text 18 61440, length-replicate {A = ℕ} 544 0)

-- it is the text
is-text : (n : ℕ) (m : List ℕ) → line n m ≡ line_of text lent → take n m ≡ text
is-text n m e =
    let room : 0 + length text ≤ length lent = omega (arith, length-refused_text 18 61440, length-replicate {A = ℕ} 544 0) in
    ap (λ (l : Line). take l.count l.out) e ∙ ap (take (length text)) (sets-eq text lent 0 room) ∙ take-append_seam text (drop (0 + length text) lent)

-- it is all that such a plan prints
is-next : (plan : List ℕ) (n : ℕ) (m : List ℕ) → 61440 < length plan → line n m ≡ line_of text lent → StandsAt plan 0 (take n m)
is-next plan n m many e = rw (output-refused plan many, is-text n m e) (take-length text)

pub slice_bounds-out-end : goal.slice_bounds-out-end
slice_bounds-out-end g c = within _ _ (told _ _ _ c.unwrap_or-written.ensures (rw c.number-number.ensures at c.refused.ensures))

pub slice_bounds-hand_on-end : goal.slice_bounds-hand_on-end
slice_bounds-hand_on-end g c = sym (length-take-le _ _ (within _ _ (told _ _ _ c.unwrap_or-written.ensures (rw c.number-number.ensures at c.refused.ensures))))

pub hand_on-requires : goal.hand_on-requires
hand_on-requires g c = is-next _ _ _ c.requires (told _ _ _ c.unwrap_or-written.ensures (rw c.number-number.ensures at c.refused.ensures))

pub returns-then-not-hand_on-clause-handed : goal.returns-then-not-hand_on-clause-handed
returns-then-not-hand_on-clause-handed g c = some

pub returns-then-not-hand_on-clause-wrote : goal.returns-then-not-hand_on-clause-wrote
returns-then-not-hand_on-clause-wrote g c =
    wrote_same _ _ _ _ _ (is-text _ _ (told _ _ _ c.unwrap_or-written.ensures (rw c.number-number.ensures at c.refused.ensures))) c.hand_on.ensures.part

pub returns-clause-handed : goal.returns-clause-handed
returns-clause-handed g c = counts _ _ (told _ _ _ c.unwrap_or-written.ensures (rw c.number-number.ensures at c.refused.ensures))

pub returns-clause-wrote : goal.returns-clause-wrote
returns-clause-wrote g c =
    subst (Appends _ _) (is-text _ _ (told _ _ _ c.unwrap_or-written.ensures (rw c.number-number.ensures at c.refused.ensures))) (c.hand_on.ensures.all c.if-not-hand_on.false)
