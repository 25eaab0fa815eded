-- What writes and reads do to the known bytes of a writer and of a reader. Assumes nothing.
use Prim.Native.Nat.{ℕ, suc, ◌+◌, ◌-◌, ◌≤◌, ◌<◌}
use native.Mathlib.Omega.{arith}
use mathlib.Core.Path.{◌≡◌, refl, sym, ap, subst, ◌∙◌}
use mathlib.Core.Bool.{Bool, true, false}
use lib.Dec.{ltb}
use borrow.Author.Tests.{ltb-true, ltb-false}
use mathlib.Core.List.{List, ◌++◌, append-nil, append_assoc}
use lib.ListN.{length, take, drop, length-drop, length-take}
use lib.Seq.{take_all, take-add, take-take, take-append-le, drop_at, length-take-le, drop-append-le, take_at}
use borrow.Rule.Slice.PartMut.{put_mid, mid_of, post_of, same_len_mid}
use Rattle.std.proofs.lemmas.List.{drop-take, take-append-drop}
use Rattle.std.specs.Prelude.{Option, None, Some, Ok}
use Rattle.std.specs.Io.KnownBytes.{Appends, Consumes, Keeps, IsAtEnd, prepend_known}
use Rattle.play.specs.Output.{Reply, WrotePart, Wrote, IsReadOf, Gave, Carried, Handed}
use Rattle.runner.specs.Plans.{first_runner, first_buffers, prints}
use Rattle.runner.specs.Program.{output}
use Rattle.runner.proofs.RunWhole.{output-carried}
use Rattle.runner.specs.Sizes.{longest_plan}
use Rattle.std.proofs.KnownBytes.{Appends-trans, Consumes-trans}

-- a writer that kept what it had
pub Appends-kept : (a b c : Option (List ℕ)) (bs : List ℕ) → Appends a b bs → Keeps b c → Appends a c bs
Appends-kept None b c bs p q = tt
Appends-kept (Some x) None c bs p q = absurd p
Appends-kept (Some x) (Some y) None bs p q = absurd q
Appends-kept (Some x) (Some y) (Some z) bs p q = q ∙ p

-- a write took the next n of the bytes
pub wrote_more :
    (a b c : Option (List ℕ)) (bytes : List ℕ) (done n : ℕ) → Appends a b (take done bytes) →
    Appends b c (take n (take (length bytes - done) (drop done bytes))) → Appends a c (take (done + n) bytes)
wrote_more a b c bytes done n p q =
    let rest = take_all (length bytes - done) (drop done bytes) (omega (arith, length-drop done bytes)) in
    subst (Appends a c) (ap (λ (l : List ℕ). take done bytes ++ take n l) rest ∙ sym (take-add done n bytes)) (Appends-trans a b c _ _ p q)

-- a read gave n bytes, into what is lent behind the first `from` of the bytes
pub gave_piece :
    (a b : Option (List ℕ)) (from k n : ℕ) (xs ys : List ℕ) → from ≤ length xs → n ≤ length ys →
    Consumes a b (take n ys) → Consumes a b (drop from (take (from + n) (put_mid from k xs ys)))
gave_piece a b from k n xs ys low fits p =
    let lent : drop from (put_mid from k xs ys) ≡ ys ++ post_of from k xs = drop_at (take from xs) (ys ++ post_of from k xs) from (length-take-le from xs low) in
    let piece : drop from (take (from + n) (put_mid from k xs ys)) ≡ take n ys =
    drop-take from n (put_mid from k xs ys) ∙ ap (take n) lent ∙ take-append-le n ys (post_of from k xs) fits in
    subst (Consumes a b) (sym piece) p

-- a reader that kept what it had, and then gave
pub Consumes-from : (a b c : Option (List ℕ)) (bs : List ℕ) → Keeps a b → Consumes b c bs → Consumes a c bs
Consumes-from None b c bs p q = tt
Consumes-from (Some x) None c bs p q = absurd p
Consumes-from (Some x) (Some y) None bs p q = absurd q
Consumes-from (Some x) (Some y) (Some z) bs p q = sym p ∙ q

-- the bytes behind the first `from` are those that were lent
pub lent_some :
    (from : ℕ) (xs ys : List ℕ) → from ≤ length xs → length ys ≡ length (mid_of from (length xs - from) xs) →
    (length (put_mid from (length xs - from) xs ys) ≡ length xs) × (length ys ≡ length xs - from)
lent_some from xs ys low same =
    (same_len_mid from (length xs - from) xs ys same, omega (arith, same, length-take (length xs - from) (drop from xs), length-drop from xs))

-- one read and the next, behind the first `from` of the bytes
pub read_more :
    (a b c : Option (List ℕ)) (from n end : ℕ) (before after : List ℕ) → from ≤ n → n ≤ end → end ≤ length after → take n after ≡ take n before →
    Consumes a b (drop from (take n before)) → Consumes b c (drop n (take end after)) → Consumes a c (drop from (take end after))
read_more a b c from n end before after low on fits kept p q =
    let all : List ℕ = take end after in
    let first : take n before ≡ take n all = sym kept ∙ sym (take-take n end after on) in
    let long : from ≤ length (take n all) = omega (arith, low, on, fits, length-take n all, length-take end after) in
    let both : drop from (take n before) ++ drop n all ≡ drop from all =
    ap (λ (l : List ℕ). drop from l ++ drop n all) first ∙ sym (drop-append-le from (take n all) (drop n all) long) ∙ ap (drop from) (take-append-drop n all) in
    subst (Consumes a c) both (Consumes-trans a b c _ _ p q)

-- a read that gave nothing
pub read_same : (a c : Option (List ℕ)) (from n end : ℕ) (after : List ℕ) → end ≡ n → Consumes a c (drop from (take end after)) → Consumes a c (drop from (take n after))
read_same a c from n end after e p = subst (λ (k : ℕ). Consumes a c (drop from (take k after))) e p

-- bytes that come next in a text were written whole, and in part
pub wrote_next :
    (a b c : Option (List ℕ)) (text bytes : List ℕ) (from n : ℕ) → length bytes ≡ n → take (length bytes) (drop from text) ≡ bytes →
    Appends a b (take from text) → Appends b c bytes → Appends a c (take (from + n) text)
wrote_next a b c text bytes from n many next p q =
    let both : take from text ++ bytes ≡ take (from + n) text =
    ap (λ (l : List ℕ). take from text ++ l) (sym next) ∙ sym (take-add from (length bytes) text) ∙ ap (λ (k : ℕ). take (from + k) text) many in
    subst (Appends a c) both (Appends-trans a b c _ _ p q)

pub wrote_whole : (a b : Option (List ℕ)) (text : List ℕ) (n : ℕ) → n ≡ length text → Appends a b (take n text) → Appends a b text
wrote_whole a b text n all p = subst (Appends a b) (take_all n text (omega (arith, all))) p

pub wrote_part :
    (a b c : Option (List ℕ)) (text bytes : List ℕ) (from : ℕ) → take (length bytes) (drop from text) ≡ bytes → from + length bytes ≤ length text →
    Appends a b (take from text) → WrotePart 0 bytes b c → WrotePart from text a c
wrote_part a b c text bytes from next fits p (n, some, part, q) =
    let first : take n bytes ≡ take n (drop from text) = ap (take n) (sym next) ∙ take-take n (length bytes) (drop from text) part in (
      from + n,
      omega arith,
      omega (arith, part, fits),
      subst (Appends a c) (ap (λ (l : List ℕ). take from text ++ l) first ∙ sym (take-add from n text)) (Appends-trans a b c _ _ p q),
    )

-- the same bytes under another name
pub wrote_same : (a b : Option (List ℕ)) (least : ℕ) (bytes text : List ℕ) → bytes ≡ text → WrotePart least bytes a b → WrotePart least text a b
wrote_same a b least bytes text e p = subst (λ (l : List ℕ). WrotePart least l a b) e p

pub of_same : (r : Reply) (a b : Option (List ℕ)) (text other : List ℕ) → text ≡ other → Wrote r text a b → Wrote r other a b
of_same r a b text other e p = subst (λ (l : List ℕ). Wrote r l a b) e p

-- ---- what a plan is of the bytes that a reader had

-- all of them, where it has no more
pub all_read : (given left : Option (List ℕ)) (plan : List ℕ) → length plan ≤ suc longest_plan → Consumes given left plan → IsAtEnd left → IsReadOf given plan
all_read None left plan few p end = tt
all_read (Some xs) None plan few p end = absurd p
all_read (Some xs) (Some ys) plan few p end =
    let same : xs ≡ plan = p ∙ ap (λ (l : List ℕ). plan ++ l) end ∙ append-nil plan in
    sym (ap (take (suc longest_plan)) same ∙ take_all (suc longest_plan) plan few)

-- as many as show that it is too long
pub enough_read : (given left : Option (List ℕ)) (plan : List ℕ) → length plan ≡ suc longest_plan → Consumes given left plan → IsReadOf given plan
enough_read None left plan many p = tt
enough_read (Some xs) None plan many p = absurd p
enough_read (Some xs) (Some ys) plan many p = sym (ap (take (suc longest_plan)) p ∙ take_at plan ys (suc longest_plan) many)

-- the bytes that were read before stand before those that a reader still gives
pub read_before : (given left : Option (List ℕ)) (begun plan : List ℕ) → Consumes given left begun → IsReadOf (prepend_known begun left) plan → IsReadOf given plan
read_before None left begun plan p e = tt
read_before (Some xs) None begun plan p e = absurd p
read_before (Some xs) (Some ys) begun plan p e = e ∙ ap (take (suc longest_plan)) (sym p)

pub carried_before :
    (given left a b : Option (List ℕ)) (begun : List ℕ) (r : Reply) → Consumes given left begun → Carried (prepend_known begun left) r a b → Carried given r a b
carried_before given left a b begun r p (Carried.unread kept) = Carried.unread kept
carried_before given left a b begun r p (Carried.read plan e handed wrote) = Carried.read plan (read_before given left begun plan p e) handed wrote

Consumes-prepended : (given left : Option (List ℕ)) (begun bytes : List ℕ) → Consumes given left bytes → Consumes (prepend_known begun given) left (begun ++ bytes)
Consumes-prepended None left begun bytes p = tt
Consumes-prepended (Some xs) None begun bytes p = absurd p
Consumes-prepended (Some xs) (Some ys) begun bytes p = ap (λ (l : List ℕ). begun ++ l) p ∙ sym (append_assoc begun bytes ys)

-- a plan that was read on, where there is room for one byte more than the longest has
pub rest_read :
    (given left : Option (List ℕ)) (begun bytes : List ℕ) (from end : ℕ) → from ≤ 4096 → from ≤ end → end ≤ length bytes → length bytes ≡ suc longest_plan →
    take from bytes ≡ begun → Gave from (length bytes) (Ok end) bytes given left → IsReadOf (prepend_known begun given) (take end bytes)
rest_read given left begun bytes from end low on fits long front (p, none) = go (ltb end (length bytes)) refl
  where
    plan : List ℕ
    plan = take end bytes

    parts : begun ++ drop from plan ≡ plan
    parts = ap (λ (l : List ℕ). l ++ drop from plan) (sym front ∙ sym (take-take from end bytes on)) ∙ take-append-drop from plan

    all : Consumes (prepend_known begun given) left plan
    all = subst (Consumes (prepend_known begun given) left) parts (Consumes-prepended given left begun (drop from plan) p)

    go : (b : Bool) → ltb end (length bytes) ≡ b → IsReadOf (prepend_known begun given) plan
    go true e =
        let short : end < length bytes = ltb-true end (length bytes) e in
        all_read (prepend_known begun given) left plan (omega (arith, short, long, length-take end bytes)) all (none short (omega (arith, low, long)))
    go false e =
        enough_read (prepend_known begun given) left plan (omega (arith, ltb-false end (length bytes) e, fits, long, length-take-le end bytes fits)) all

-- a plan that ended with nothing more, while there was room
pub short_read :
    (given left : Option (List ℕ)) (bytes : List ℕ) (n : ℕ) → n ≤ 4096 → Consumes given left (drop 0 (take n bytes)) → IsAtEnd left → IsReadOf given (take n bytes)
short_read given left bytes n few p end = all_read given left (take n bytes) (omega (arith, few, length-take n bytes)) p end

-- a plan that was carried out where it was read
pub carried_short :
    (given left a b : Option (List ℕ)) (bytes : List ℕ) (n : ℕ) (r : Reply) → n ≤ 4096 → Consumes given left (drop 0 (take n bytes)) → IsAtEnd left →
    Handed r (prints (suc (length (take n bytes))) first_runner first_buffers (take n bytes)) →
    Wrote r (prints (suc (length (take n bytes))) first_runner first_buffers (take n bytes)) a b → Carried given r a b
carried_short given left a b bytes n r few p end handed wrote =
    let plan : List ℕ = take n bytes in
    let same : prints (suc (length plan)) first_runner first_buffers plan ≡ output plan =
    sym (output-carried plan (omega (arith, few, length-take n bytes))) in
    Carried.read plan (short_read given left bytes n few p end) (subst (Handed r) same handed) (of_same r a b _ _ same wrote)
