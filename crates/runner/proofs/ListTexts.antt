-- The lines of the events of a list, written one behind the other. Assumes nothing.
use Prim.Native.Nat.{ℕ, zero, suc, ◌+◌, ◌-◌, ◌≤◌, ◌<◌}
use native.Mathlib.Numerals.{add-one}
use native.Mathlib.Omega.{arith}
use mathlib.Core.Path.{◌≡◌, refl, sym, ap, ◌∙◌}
use mathlib.Core.Bool.{false}
use mathlib.Core.List.{List, [], ◌∷◌, ◌++◌, append-nil, append_assoc}
use borrow.Author.Tests.{ne_eqb}
use lib.ListN.{length, get_or, take, drop, length-append, length-drop, drop_of_length-le}
use lib.Seq.{sets, length-sets, take_all, take-append-le, drop-drop, drop-cons}
use Rattle.bench.specs.Batches.{answer_size, answer_sizes, ending_of, refusal_in}
use Rattle.std.specs.Prelude.{Some, None}
use Rattle.bench.specs.declared.Disposition.{Disposition}
use Rattle.distances.specs.Refusal.{number}
use Rattle.distances.specs.declared.refusals.Refusal.{Refusal}
use Rattle.bench.specs.declared.Event.{Event}
use Rattle.text.specs.Lines.{refused_text}
use Rattle.text.specs.Writing.{Put}
use Rattle.text.proofs.Laws.{length-refused_text}
use Rattle.text.proofs.Puts.{joined}
use Rattle.runner.specs.Events.{event_text, NoText, Line, line, line_of}
use Rattle.runner.specs.Steps.{StepOutcome, step_outcome, last_text}
use Rattle.runner.specs.Fills.{buffers_with_out}
use Rattle.runner.specs.Lists.{texts_of, with_refusal, with_ending}
use Rattle.runner.proofs.ListSteps.{behind-is}

-- the part of a list from `at` to its end, as the code lends it
pub rest-lent : {A : Type 0} (l : List A) (at : ℕ) → take (length l - at) (drop at l) ≡ drop at l
rest-lent l at = take_all (length l - at) (drop at l) (omega (arith, length-drop at l))

module _ (bridges written : ℕ) (es : List Event) (answers out₀ : List ℕ) where
  -- after k events: what is written, and what is still to be
  pub record Telling (out : List ℕ) (end at k : ℕ) : Type 0 where
    pub text : List ℕ
    pub put : Put out₀ written text out end
    pub whole : texts_of bridges es answers ≡ text ++ texts_of bridges (drop k es) (drop at answers)
    pub few : k ≤ length es
    pub numbers : at + answer_sizes bridges (drop k es) ≤ length answers
    pub room : end + length (texts_of bridges (drop k es) (drop at answers)) + 544 ≤ length out

  module _ (out : List ℕ) (end at k : ℕ) (t : Telling out end at k) (none e : Event) (is : e ≡ get_or es k none) (more : k < length es) where
    abbrev size : ℕ
    size = answer_size bridges e

    -- the line that comes next
    abbrev here : List ℕ
    here = event_text bridges e (take size (drop at answers))

    ahead : drop k es ≡ e ∷ drop (suc k) es
    ahead = drop-cons es k none more ∙ rw is

    texts-ahead : texts_of bridges (drop k es) (drop at answers) ≡ here ++ texts_of bridges (drop (suc k) es) (drop (at + size) answers)
    unfolding texts_of
    texts-ahead = rw (ahead, drop-drop)

    sizes-ahead : answer_sizes bridges (drop k es) ≡ size + answer_sizes bridges (drop (suc k) es)
    unfolding answer_sizes
    sizes-ahead = rw ahead

    long-ahead : length (texts_of bridges (drop k es) (drop at answers)) ≡ length here + length (texts_of bridges (drop (suc k) es) (drop (at + size) answers))
    long-ahead = ap (λ (l : List ℕ). length l) texts-ahead ∙ length-append here _

    pub telling-fits : {width : ℕ} → width ≡ size → (at + width ≤ length answers) × (end + 544 ≤ length out)
    telling-fits same = (omega (arith, t.numbers, sizes-ahead), omega (arith, t.room))

    telling-more : (count : ℕ) (after : List ℕ) → line count after ≡ line_of here (drop end out) → Telling (take end out ++ after) (end + count) (at + size) (k + 1)
    telling-more count after tells =
        let counted : count ≡ length here = ap (λ (l : Line). l.count) tells in
        let bytes : after ≡ sets (drop end out) 0 here = ap (λ (l : Line). l.out) tells in
        let joint : take end out ++ after ≡ sets out end here = ap (λ (l : List ℕ). take end out ++ l) bytes ∙ behind-is out here end (omega (arith, t.room, long-ahead)) in
        let behind : List ℕ = texts_of bridges (drop (suc k) es) (drop (at + size) answers) in
        rw (add-one k)
        (record {
          text = t.text ++ here;
          put = joined t.put (record { bytes = joint; next = omega (arith, counted) });
          whole = t.whole ∙ rw texts-ahead (sym (append_assoc t.text here behind));
          few = omega arith;
          numbers = omega (arith, t.numbers, sizes-ahead);
          room = rw joint (omega (arith, t.room, counted, long-ahead, length-sets out end here));
        })

    -- an event that has none is passed over
    pub telling-skip : (width : ℕ) → width ≡ size → NoText e → Telling out end (at + width) (k + 1)
    telling-skip width same none =
        let text : here ≡ [] = none bridges (take size (drop at answers)) in
        let behind : List ℕ = texts_of bridges (drop (suc k) es) (drop (at + size) answers) in
        let ahead : texts_of bridges (drop k es) (drop at answers) ≡ behind = texts-ahead ∙ ap (λ (l : List ℕ). l ++ behind) text in
        rw (add-one k, same)
        (record {
          text = t.text;
          put = t.put;
          whole = t.whole ∙ ap (λ (l : List ℕ). t.text ++ l) ahead;
          few = omega arith;
          numbers = omega (arith, t.numbers, sizes-ahead);
          room = rw (sym ahead) t.room;
        })

    -- as the code lends it, and has it back
    pub telling-next :
        (width count : ℕ) (after : List ℕ) → width ≡ size →
        line count after ≡ line_of (event_text bridges e (take (at + width - at) (drop at answers))) (take (length out - end) (drop end out)) →
        Telling (take end out ++ (after ++ drop (length out - end) (drop end out))) (end + count) (at + width) (k + 1)
    telling-next width count after same tells =
        let none = drop_of_length-le (drop end out) {i = length out - end} (omega (arith, length-drop end out)) in
        let all : at + width - at ≡ size = omega arith in
        rw (none, append-nil, same) (telling-more count after (rw (all, rest-lent out end) at tells))

  pub telling-all : (out : List ℕ) (end at k : ℕ) → Telling out end at k → length es ≤ k → Put out₀ written (texts_of bridges es answers) out end
  unfolding texts_of
  telling-all out end at k t past =
      let none : drop k es ≡ [] = drop_of_length-le es past in
      rw (t.whole, none, append-nil) t.put

-- numbers behind those that the events answered with are not read
pub texts-head : (bridges : ℕ) (es : List Event) (a b : List ℕ) → answer_sizes bridges es ≤ length a → texts_of bridges es (a ++ b) ≡ texts_of bridges es a
unfolding texts_of answer_sizes
texts-head bridges [] a b few = refl
texts-head bridges (e ∷ es) a b few =
    let size : ℕ = answer_size bridges e in
    let later = texts-head bridges es (drop size a) b (omega (arith, length-drop size a)) in
    rw (take-append-le size a b (omega arith), drop-append size a b (omega arith), later)
  where
    drop-append : (n : ℕ) (x y : List ℕ) → n ≤ length x → drop n (x ++ y) ≡ drop n x ++ y
    drop-append zero x y low = refl
    drop-append (suc n) [] y low = absurd (omega arith)
    drop-append (suc n) (z ∷ x) y low = drop-append n x y (omega arith)

-- ---- the refusal of the next event, behind what is written

module _ (t : StepOutcome) (k : ℕ) (some : k ≡ 0 → ⊥) (room : t.written + 544 ≤ length t.buffers.out) where
  abbrev out : List ℕ
  out = t.buffers.out

  module _
      {count : ℕ}
      {after : List ℕ}
      (put : line count after ≡ line_of (last_text k t.runner.events t.runner.offset) (take (length out - t.written) (drop t.written out))) where
    -- the text is the refusal's
    abbrev text : List ℕ
    text = refused_text k t.runner.offset

    put-text : line count after ≡ line_of text (drop t.written out)
    unfolding last_text
    put-text = rw (ne_eqb k 0 some, rest-lent out t.written) at put

    pub refused-few : count ≤ 544
    refused-few = omega (arith, ap (λ (l : Line). l.count) put-text, length-refused_text k t.runner.offset)

    pub refused-behind :
        step_outcome k false t.used (t.written + count) t.runner
        (buffers_with_out (take t.written out ++ (after ++ drop (length out - t.written) (drop t.written out))) t.buffers)
        ≡ with_refusal k t
    unfolding with_refusal
    refused-behind =
        let none = drop_of_length-le (drop t.written out) {i = length out - t.written} (omega (arith, length-drop t.written out)) in
        let counted : count ≡ length text = ap (λ (l : Line). l.count) put-text in
        let bytes : after ≡ sets (drop t.written out) 0 text = ap (λ (l : Line). l.out) put-text in
        rw (none, append-nil, counted, bytes, behind-is out text t.written (omega (arith, room, length-refused_text k t.runner.offset)))

-- ---- why a list ended

pub ended-none : (how : Disposition) → refusal_in how ≡ None → (t : StepOutcome) → with_ending (ending_of how) t ≡ t
unfolding with_ending
ended-none Disposition.Complete none t = refl
ended-none (Disposition.Refused r) none t = cc
ended-none Disposition.Full none t = refl

pub ended-refused : (how : Disposition) {r : Refusal} → refusal_in how ≡ Some r → (t : StepOutcome) → with_ending (ending_of how) t ≡ with_refusal (number r) t
unfolding with_ending
ended-refused Disposition.Complete some t = cc
ended-refused (Disposition.Refused q) {r} some t = let same : q ≡ r = cc in rw same
ended-refused Disposition.Full some t = cc
