-- What a call of this layer is handed, in the protocol's ranges and with lent buffers that are long enough. Assumes nothing.
use Rattle.std.specs.Prelude.{ℕ, ◌*◌, Bool, ◌&&◌, ◌||◌, List, length, get_or, eqb, leb, ltb}
use Rattle.distances.specs.Call.{in_range, all_below}
use Rattle.agreement.specs.Record.{no_view, fresh_record}
use Rattle.agreement.specs.declared.EndRecord.{EndRecord}
use Rattle.agreement.specs.Sizes.{limit_numbers}

-- the graph, the view's costs and the lent table of its distances
abbrev pub view_in_range : ℕ → ℕ → List ℕ → List ℕ → List ℕ → Bool
view_in_range bridges links ends costs table = in_range bridges links ends costs (length table)

-- the number of views, and one of them
unfoldable pub is_view : ℕ → ℕ → Bool
is_view views t = leb 1 views && (leb views 32 && ltb t views)

-- a record's received view is none or one of the views
unfoldable pub record_in_range : ℕ → EndRecord → Bool
record_in_range views r = eqb r.view no_view || ltb r.view views

-- those of the ends of up to 32 links
unfoldable pub records_in_range : ℕ → ℕ → List EndRecord → Bool
records_in_range views links records = leb links 32 && all_below (2 * links) (λ e. record_in_range views (get_or records e fresh_record))

-- what a call on one end is handed: the view, two limit tables of 64 rows of 16, by their lengths, and an end
unfoldable pub end_in_range : ℕ → ℕ → List ℕ → List ℕ → List ℕ → ℕ → ℕ → ℕ → Bool
end_in_range bridges links ends costs table sent held e =
    view_in_range bridges links ends costs table && (leb limit_numbers sent && (leb limit_numbers held && ltb e (2 * links)))

-- what a delivery is handed besides: the receiver's view, its record, the message's view
unfoldable pub delivery_in_range : ℕ → ℕ → EndRecord → ℕ → Bool
delivery_in_range views t r received = is_view views t && (record_in_range views r && ltb received views)

-- what the forwarding choice is handed
unfoldable pub port_in_range : ℕ → ℕ → List ℕ → List ℕ → List ℕ → ℕ → List EndRecord → ℕ → ℕ → ℕ → ℕ → Bool
port_in_range bridges links ends costs table views records sent held y d =
    view_in_range bridges links ends costs table
    && (leb limit_numbers sent && leb limit_numbers held
    && (leb 1 views && leb views 32 && (records_in_range views links records && (ltb y bridges && ltb d bridges))))
