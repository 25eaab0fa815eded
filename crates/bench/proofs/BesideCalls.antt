-- Every call leaves the state as it was but for what there is. Assumes nothing.
use Prim.Native.Nat.{ℕ, zero, suc, ◌+◌, ◌*◌, ◌-◌, ◌/◌, ◌%◌, ◌≤◌, ◌<◌}
use native.Mathlib.Omega.{arith}
use mathlib.Core.Path.{◌≡◌, refl, ◌∙◌}
use mathlib.Core.Bool.{Bool, true, false, cond, ◌&&◌}
use mathlib.Core.List.{List}
use lib.ListN.{length, get_or}
use lib.Seq.{sets, length-sets}
use lib.Dec.{eqb, ltb, leb}
use borrow.Author.Tests.{ltb-false, lt-ltb, eqb-true}
use Rattle.distances.specs.Table.{cell, is_in_row}
use Rattle.distances.proofs.Booleans.{not-both}
use Rattle.distances.proofs.Tables.{rewritten-length, rewritten-at, is_in_row-is}
use Rattle.agreement.specs.Offer.{opposite}
use Rattle.agreement.specs.Record.{fresh_record, updated, sent_updated, held_updated, answer, recorded, sent_delivered, held_delivered}
use Rattle.agreement.specs.Limits.{with_limits}
use Rattle.agreement.specs.Ranges.{is_view, record_in_range, delivery_in_range}
use Rattle.agreement.specs.Call.{ViewData, Outcome, outcome, update_outcome, deliver_outcome, lent_offer, lent_end_in_range, says, refused}
use Rattle.agreement.specs.declared.Agreement.{Agreement}
use Rattle.agreement.specs.declared.EndRecord.{EndRecord}
use Rattle.agreement.proofs.LimitLaws.{with_limits-length}
use Rattle.bench.specs.Private.Changes.{Ends, Ended, ended, moved_end, moved_ends}
use Rattle.bench.specs.Private.Queue.{taken_out}
use Rattle.bench.proofs.TieQueue.{sets-after}
use Rattle.bench.proofs.StandingLaws.{Part, below, in_rows, part_same, part-set, part-twice}

-- ---- places that stay

-- in a limit table of which an end's row is rewritten
limits-part : (links bridges e : ℕ) (f : ℕ → ℕ) (t : List ℕ) → e < 2 * links → Part (in_rows (2 * links) bridges) 0 t (with_limits bridges e f t)
unfolding with_limits
limits-part links bridges e f t low =
    record {
      long = with_limits-length bridges e f t;
      same = λ p h out. rewritten-at (is_in_row bridges e) (λ q. f (q % 16)) t p h ∙ rw (is_in_row-is bridges e p) (go p out (eqb (p / 16) e) refl);
    }
  where
    go : (p : ℕ) → in_rows (2 * links) bridges p ≡ false → (b : Bool) → eqb (p / 16) e ≡ b → cond (b && ltb (p % 16) bridges) (f (p % 16)) (get_or t p 0) ≡ get_or t p 0
    go p out true q = rw (rw (lt-ltb (p / 16) (2 * links) (omega (arith, eqb-true (p / 16) e q))) at out)
    go p out false q = refl

-- in the messages' numbers, where one message is taken out, or some numbers are stored
pub taken-part : (count p : ℕ) (m : List ℕ) → Part (below (5 * (count - 1))) 0 m (taken_out count p m)
unfolding taken_out
taken-part count p m =
    record {
      long = rewritten-length _ _ m;
      same = λ q h out. rewritten-at (λ k. leb (5 * p) k && ltb k (5 * (count - 1))) (λ k. get_or m (k + 5) 0) m q h ∙ rw (not-both (leb (5 * p) q) (ltb q (5 * (count - 1))) out);
    }

pub sets-part : (vs l : List ℕ) (i n : ℕ) → i + length vs ≤ n → Part (below n) 0 l (sets l i vs)
sets-part vs l i n room =
    record { long = length-sets l i vs; same = λ p h out. sets-after 0 vs l i p (omega (arith, ltb-false p n out, room)) }

-- ---- what layer 2 leaves of the limit tables

-- two tables afterwards
abbrev pub BothParts : ℕ → ℕ → List ℕ → List ℕ → List ℕ → List ℕ → Type 0
BothParts links bridges sent held after then = Part (in_rows (2 * links) bridges) 0 sent after × Part (in_rows (2 * links) bridges) 0 held then

pub both-same : (links bridges : ℕ) (sent held : List ℕ) → BothParts links bridges sent held sent held
both-same links bridges sent held = (part_same _ 0 sent, part_same _ 0 held)

pub both-twice : (links bridges : ℕ) (a b c x y z : List ℕ) → BothParts links bridges a x b y → BothParts links bridges b y c z → BothParts links bridges a x c z
both-twice links bridges a b c x y z first then = (part-twice _ 0 a b c first.0 then.0, part-twice _ 0 x y z first.1 then.1)

-- an outcome of layer 2 that rewrites the rows of end e, or nothing
pub kept_either :
    {A : Type 0} (links bridges e : ℕ) (f g : ℕ → ℕ) (x y : A) (r q : EndRecord) (sent held : List ℕ) (ok : Bool) →
    e < 2 * links →
    (let o : Outcome A = cond ok (outcome x r (with_limits bridges e f sent) (with_limits bridges e g held)) (outcome y q sent held) in
    BothParts links bridges sent held o.sent o.held)
kept_either links bridges e f g x y r q sent held true low = (limits-part links bridges e f sent low, limits-part links bridges e g held low)
kept_either links bridges e f g x y r q sent held false low = both-same links bridges sent held

module _ (v : ViewData) (views t : ℕ) (sent held : List ℕ) (e : ℕ) (low : e < 2 * v.links) where
  pub kept-delivered :
      (n : ℕ) (r : EndRecord) (m : Agreement) →
      (let o = deliver_outcome v views t n e r m sent held in BothParts v.links v.bridges sent held o.sent o.held)
  unfolding deliver_outcome
  kept-delivered n r m =
      kept_either v.links v.bridges e (sent_delivered n r m (lent_offer v e) (cell sent e)) (held_delivered t r m (lent_offer v (opposite e)) (cell held e))
      (says (answer t r m)) refused (recorded r (answer t r m)) r sent held (lent_end_in_range v sent held e && delivery_in_range views t r m.view) low

  pub kept-updated :
      (r : EndRecord) →
      (let o = update_outcome v views t e r sent held in BothParts v.links v.bridges sent held o.sent o.held)
  unfolding update_outcome
  kept-updated r =
      kept_either v.links v.bridges e (sent_updated (lent_offer v e) (cell sent e)) (held_updated t r (lent_offer v (opposite e)) (cell held e))
      0 17 (updated t r) r sent held (lent_end_in_range v sent held e && (is_view views t && record_in_range views r)) low

  kept-moved :
      (y : ℕ) (r : EndRecord) →
      (let o = moved_end v views t y e r sent held in BothParts v.links v.bridges sent held o.sent o.held)
  unfolding moved_end
  kept-moved y r = go (eqb (get_or v.ends e 0) y)
    where
      go :
          (b : Bool) →
          (let o = update_outcome v views t e r sent held in
          let z : Ended = cond b (ended o.end o.sent o.held) (ended r sent held) in
          BothParts v.links v.bridges sent held z.sent z.held)
      go true = kept-updated r
      go false = both-same v.links v.bridges sent held

-- the ends after k turns
pub record EndsKept (v : ViewData) (x z : Ends) : Type 0 where
  pub records : Part (below (2 * v.links)) fresh_record x.records z.records
  pub limits : BothParts v.links v.bridges x.sent x.held z.sent z.held

pub ends-kept : (v : ViewData) (views y t : ℕ) (x : Ends) (k : ℕ) → k ≤ 2 * v.links → EndsKept v x (moved_ends v views y t k x)
unfolding moved_ends
ends-kept v views y t x zero h = record { records = part_same _ fresh_record x.records; limits = both-same v.links v.bridges x.sent x.held }
ends-kept v views y t x (suc k) h =
    let z : Ends = moved_ends v views y t k x in
    let ih : EndsKept v x z = ends-kept v views y t x k (omega arith) in
    let now = kept-moved v views t z.sent z.held k h y (get_or z.records k fresh_record) in
    record {
      records = part-twice _ fresh_record x.records z.records _ ih.records (part-set _ fresh_record z.records k _ (lt-ltb k (2 * v.links) h));
      limits = both-twice v.links v.bridges _ _ _ _ _ _ ih.limits now;
    }
