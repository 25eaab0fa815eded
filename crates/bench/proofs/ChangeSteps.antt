-- One turn of each loop that rewrites a bench: the next end moved, the next end started, the next view filled. Assumes nothing.
use Prim.Native.Nat.{ℕ, ◌+◌, ◌<◌}
use native.Mathlib.Numerals.{add-one}
use mathlib.Core.List.{List, map}
use mathlib.Core.Path.{◌≡◌, ◌∙◌, sym}
use lib.ListN.{length, length-map, get_or, set}
use Rattle.agreement.specs.Call.{ViewData, outcome, fresh_outcome}
use Rattle.agreement.specs.Record.{fresh_record}
use Rattle.agreement.specs.declared.EndRecord.{EndRecord}
use Rattle.agreement.proofs.Basics.{get_d_default}
use Rattle.bench.specs.Private.Changes.{Ends, ends, ended, moved_end, moved_ends, LimitTables, limit_tables, started_ends}

-- a record is read with the array's own default
pub moved_more :
    (v : ViewData) (views y t e : ℕ) (start : Ends) (d : EndRecord)
    {records : List EndRecord} {sent held sent' held' : List ℕ} {r : EndRecord} →
    ends records sent held ≡ moved_ends v views y t e start →
    e < length records →
    ended r sent' held' ≡ moved_end v views t y e (get_or records e d) sent held →
    ends (set records e r) sent' held' ≡ moved_ends v views y t (e + 1) start
unfolding moved_ends
moved_more v views y t e start d {records} i h m = rw (add-one, ← i, get_d_default records e fresh_record d h, ← m)

pub started-more :
    (v : ViewData) (e : ℕ) (start : LimitTables) {sent held sent' held' : List ℕ} {k : ℕ} {r : EndRecord} →
    limit_tables sent held ≡ started_ends v e start →
    outcome k r sent' held' ≡ fresh_outcome v e sent held →
    limit_tables sent' held' ≡ started_ends v (e + 1) start
unfolding started_ends
started-more v e start i m = rw (add-one, ← i, ← m)

-- an array of structs in a struct is as long as its type says
pub length-mapped : (X Y : Type 0) (f : X → Y) (l : List X) (n : ℕ) → length (map f l) ≡ n → length l ≡ n
length-mapped X Y f l n e = sym (length-map l f) ∙ e
