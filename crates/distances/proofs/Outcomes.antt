-- What the call comes to where its input is in range and where it is not. Assumes nothing.
use Prim.Native.Nat.{ℕ}
use mathlib.Core.Path.{◌≡◌, refl}
use mathlib.Core.Bool.{Bool, true, false}
use mathlib.Core.List.{List}
use lib.ListN.{length}
use Rattle.distances.specs.View.{graph_of, costs_of}
use Rattle.distances.specs.Distance.{dist}
use Rattle.distances.specs.Table.{with_pairs}
use Rattle.distances.specs.Call.{in_range, outcome, distances_of}
use Rattle.distances.proofs.Tables.{with_pairs-length}

module _ (bridges links : ℕ) (ends costs table : List ℕ) where
  pub distances-accepted :
      in_range bridges links ends costs (length table) ≡ true →
      distances_of bridges links ends costs table ≡ outcome 0 (with_pairs bridges (dist (graph_of bridges links ends) (costs_of costs)) table)
  unfolding distances_of
  distances-accepted ok = rw ok

  pub distances-refused : in_range bridges links ends costs (length table) ≡ false → distances_of bridges links ends costs table ≡ outcome 17 table
  unfolding distances_of
  distances-refused ok = rw ok

  -- as long as it was, refused or not
  pub distances-length : length (distances_of bridges links ends costs table).table ≡ length table
  distances-length = go (in_range bridges links ends costs (length table)) refl
    where
      go : (ok : Bool) → in_range bridges links ends costs (length table) ≡ ok → length (distances_of bridges links ends costs table).table ≡ length table
      go true q = rw (distances-accepted q) (with_pairs-length bridges table _)
      go false q = rw (distances-refused q)
