-- A plan carried out step by step, on the buffers of the code. What it prints is `output` (specs/Program.antt), by the law `output-carried`.
-- Assumes nothing.
use Rattle.std.specs.Prelude.{ℕ, zero, suc, false, cond, List, [], ◌++◌, take, drop, replicate}
use Rattle.agreement.specs.Record.{fresh_record}
use Rattle.runner.specs.Buffers.{Buffers, buffers}
use Rattle.runner.specs.Steps.{StepOutcome, step_of}
use Rattle.runner.specs.declared.Runner.{Runner}
use Rattle.agreement.specs.Sizes.{limit_numbers}
use Rattle.bench.specs.Sizes.{cost_numbers, flight_numbers}
use Rattle.text.specs.Writing.{longest_text}

-- before the first field
abbrev pub first_runner : Runner
first_runner =
    record {
      bench =
          record {
            bridges = 0;
            links = 0;
            views = 0;
            messages = 0;
            ends = replicate 64 0;
            view = replicate 16 0;
            number = replicate 16 1;
            records = replicate 64 fresh_record;
            down = replicate 64 false;
          };
      stage = 0;
      events = 0;
      offset = 0;
    }

abbrev pub first_buffers : Buffers
first_buffers =
    buffers (replicate cost_numbers 0) (replicate limit_numbers 0) (replicate limit_numbers 0) (replicate flight_numbers 0) (replicate longest_text 0)

-- field after field, with fuel for so many
unfoldable pub prints : ℕ → Runner → Buffers → List ℕ → List ℕ
prints zero r k rest = []
prints (suc fuel) r k rest =
    let t : StepOutcome = step_of r k rest in
    take t.written t.buffers.out ++ cond t.going (prints fuel t.runner t.buffers (drop t.used rest)) []
