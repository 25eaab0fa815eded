-- Texts put into lent bytes: two puts in a row are one put of the joined text, and what a public call then answers.
-- Assumes nothing.
use Prim.Native.Nat.{ℕ, suc, ◌+◌, ◌≤◌}
use native.Mathlib.Nat.{add-zero}
use native.Mathlib.Omega.{arith}
use mathlib.Core.Bool.{Bool, true}
use mathlib.Core.List.{List, [], ◌∷◌, ◌++◌}
use mathlib.Core.Path.{◌≡◌, refl, ap, sym, ◌∙◌}
use Rattle.std.proofs.Common.{Some}
use lib.ListN.{length, set, length-append}
use lib.Seq.{sets, length-sets}
use borrow.Rule.Slice.PartMut.{put_mid}
use Rattle.std.proofs.Common.{append_assoc}
use Rattle.std.proofs.lemmas.List.{drop-drop}
use Rattle.std.proofs.lemmas.List.Edits.{sets-eq}
use borrow.Author.Tests.{le-leb}
use Rattle.text.specs.declared.writer.Writer.{Writer}
use Rattle.text.specs.Writing.{Put, Writes, outcome, writing}

sets-joined : (l : List ℕ) (a : ℕ) (s t : List ℕ) → sets (sets l a s) (a + length s) t ≡ sets l a (s ++ t)
sets-joined l a [] t = rw add-zero
sets-joined l a (x ∷ s) t = let e : a + suc (length s) ≡ suc a + length s = omega arith in rw e (sets-joined (set l a x) (suc a) s t)

module _ {l m : List ℕ} {a r : ℕ} {s : List ℕ} (p : Put l a s m r) where
  pub joined : {t k : List ℕ} {q : ℕ} → Put m r t k q → Put l a (s ++ t) k q
  joined {t} {k} {q} h =
      record {
        bytes = h.bytes ∙ rw (p.bytes, p.next) (sets-joined l a s t);
        next = simp length-append (omega arith);
      }

  pub same_length : length m ≡ length l
  same_length = ap length p.bytes ∙ length-sets l a s

-- one store
pub stored : (l : List ℕ) (a b : ℕ) → Put l a (b ∷ []) (set l a b) (a + 1)
stored l a b = record { bytes = refl; next = refl }

-- nothing yet
pub nothing : (l : List ℕ) (a : ℕ) → Put l a [] l a
nothing l a = record { bytes = refl; next = omega arith }

-- a writer's text: a piece behind what stands, and one piece behind the other
pub piece : {w after : Writer} {s : List ℕ} → after.out.now ≡ sets w.out.now w.len s → after.len ≡ w.len + length s → after.out.ghost_name ≡ w.out.ghost_name → Writes w s after
piece {w} {after} {s} e n g = record { put = record { bytes = e; next = n }; same_length = ap length e ∙ length-sets w.out.now w.len s; same_reference = g }

pub then : {w v u : Writer} {s t : List ℕ} → Writes w s v → Writes v t u → Writes w (s ++ t) u
then p q =
    record {
      put = joined p.put q.put;
      same_length = q.same_length ∙ p.same_length;
      same_reference = q.same_reference ∙ p.same_reference;
    }

pub no_piece : (w : Writer) → Writes w [] w
no_piece w = record { put = nothing w.out.now w.len; same_length = refl; same_reference = refl }

-- a word copied into its place
pub copied :
    (l w v : List ℕ) (a k : ℕ) → k ≡ length w → v ≡ w → a + length w ≤ length l → put_mid a k l v ≡ sets l a w
copied l w v a k n e h = rw (n, e, sets-eq w l a h, ← drop-drop (length w) a l, append_assoc)

-- the answer after the text
pub written :
    {text out m : List ℕ} {r : ℕ} (ready : Bool) → ready ≡ true → 544 ≤ length out → Put out 0 text m r →
    outcome (Some r) m ≡ writing ready text out
unfolding writing
written {text} {out} {r = r} ready e h p =
    let n : r ≡ length text = omega arith in
    rw (e, le-leb 544 (length out) h, n, p.bytes)

-- the same of a writer's text, where the lent bytes are what it wrote in them
pub answered :
    {w after : Writer} {text k : List ℕ} (ready : Bool) → ready ≡ true → 544 ≤ length w.out.now → w.len ≡ 0 → Writes w text after →
    (w.out.ghost_name ≡ after.out.ghost_name → k ≡ after.out.now) → outcome (Some after.len) k ≡ writing ready text w.out.now
answered ready e h z p is =
    let same = is (sym p.same_reference) in
    rw same (written ready e h (rw z at p.put))
