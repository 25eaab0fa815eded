-- `messages::flight_in_range` meets its contract. Assumes nothing.
use mathlib.Core.Path.{sym, ◌∙◌}
use Rattle.bench.proofs.QueueRanges.{bench-told}
use Rattle.bench.proofs.messages.flight_in_range.Goals as goal

pub messages_in_range-requires : goal.messages_in_range-requires
messages_in_range-requires c = (bench-told c.args.bench.now (sym c.bench_in_range.ensures ∙ c.if-bench_in_range.true)).messages
