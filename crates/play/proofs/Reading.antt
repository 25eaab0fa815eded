-- A plan begins with what was read first. Assumes nothing.
use Prim.Native.Nat.{ℕ, suc, ◌+◌, ◌-◌, ◌≤◌}
use native.Mathlib.Omega.{arith}
use mathlib.Core.Path.{◌≡◌, refl, sym, ap, subst, ◌∙◌}
use mathlib.Core.List.{List, [], ◌++◌}
use lib.ListN.{length, take, drop, length-take}
use lib.Seq.{take_all, take-add, take-take, take-append_seam}
use borrow.Rule.Slice.PartMut.{put_mid, post_of}
use Rattle.runner.specs.Plans.{first_runner, first_buffers, prints}
use Rattle.runner.specs.Program.{output}
use Rattle.runner.proofs.RunWhole.{output-carried}
use Rattle.play.specs.Output.{Reply, Handed, Played, Carried}
use Rattle.play.specs.declared.PlayError.{PlayError}
use Rattle.std.specs.Prelude.{Option, Err}
use Rattle.std.specs.Io.KnownBytes.{Keeps}

-- a plan that could not be read
pub unread-told : (begun : List ℕ) (e : PlayError) → e ≡ PlayError.Unread → Played begun (Err e)
unread-told begun e is = rw is Played.unread

pub unread-carried : (given old new : Option (List ℕ)) (e : PlayError) → e ≡ PlayError.Unread → Keeps old new → Carried given (Err e) old new
unread-carried given old new e is kept = rw is (Carried.unread kept)

-- what stands before a place stands before a later one
pub kept-first : (from n : ℕ) (a b c : List ℕ) → from ≤ n → take n c ≡ take n b → take from b ≡ take from a → take from c ≡ take from a
kept-first from n a b c low later old =
    sym (take-take from n c low) ∙ ap (take from) later ∙ take-take from n b low ∙ old

-- bytes that were copied to the front
pub copied-first : (begun bytes rest : List ℕ) (n : ℕ) → n ≡ length begun → bytes ≡ take (length begun) begun ++ rest → take n bytes ≡ begun
copied-first begun bytes rest n all copied =
    let whole : bytes ≡ begun ++ rest = copied ∙ ap (λ (l : List ℕ). l ++ rest) (take_all (length begun) begun (omega arith)) in
    ap (take n) whole ∙ rw all (take-append_seam begun rest)

-- and of what was read into the bytes behind them, the front is as it was
pub put_first :
    (begun xs ys bytes : List ℕ) (k : ℕ) → take (length begun) bytes ≡ take (length begun) (put_mid 0 k xs ys) → ys ≡ begun → take (length begun) bytes ≡ begun
put_first begun xs ys bytes k kept same =
    let all : ys ≡ take (length begun) begun = same ∙ sym (take_all (length begun) begun (omega arith)) in
    kept ∙ copied-first begun (put_mid 0 k xs ys) (post_of 0 k xs) (length begun) refl (ap (λ (l : List ℕ). l ++ post_of 0 k xs) all)

-- a plan is carried out of which these bytes were read first
pub read-on-told :
    (begun bytes : List ℕ) (n end : ℕ) (r : Reply) → n ≤ end → take n bytes ≡ begun → length bytes ≡ 61441 →
    Handed r (output (take end bytes)) → Played begun r
read-on-told begun bytes n end r low front long handed =
    let sum : n + (end - n) ≡ end = omega (arith, low) in
    let more : List ℕ = take (end - n) (drop n bytes) in
    let parts : take end bytes ≡ begun ++ more = ap (λ (k : ℕ). take k bytes) (sym sum) ∙ take-add n (end - n) bytes ∙ ap (λ (l : List ℕ). l ++ more) front in
    Played.read more (omega (arith, ap (λ (l : List ℕ). length l) parts, length-take end bytes)) (subst (λ (l : List ℕ). Handed r (output l)) parts handed)

-- a plan that was read whole
pub carried-told : (plan : List ℕ) (r : Reply) → length plan ≤ 4096 → Handed r (prints (suc (length plan)) first_runner first_buffers plan) → Played [] r
carried-told plan r few handed =
    Played.read plan (omega (arith, few)) (subst (λ (l : List ℕ). Handed r l) (sym (output-carried plan (omega (arith, few)))) handed)

-- what was read before is read, too
pub from_nothing : (begun : List ℕ) (r : Reply) → Played begun r → Played [] r
from_nothing begun r Played.unread = Played.unread
from_nothing begun r (Played.read more few handed) = Played.read (begun ++ more) few handed
