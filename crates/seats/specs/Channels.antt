-- One channel's record in a tracker's arrays.
use Rattle.std.specs.Prelude.{ℕ, ◌*◌, Bool, cond, eqb, length, get_or, set}
use Rattle.std.proofs.lemmas.List.Edits.{sets}
use Rattle.gaps.specs.Limits.{run_limit}
use Rattle.gaps.specs.Channel.{Channel}
use Rattle.gaps.specs.Built.{firsts, lasts, padded}
use Rattle.seats.specs.Arrays.{Arrays}
use Rattle.seats.specs.Places.{span}

-- T2: an ended mark in its place: 1 where it is set, else 0
abbrev pub mark : Bool → ℕ
mark e = cond e 1 0

-- T2: the record of the channel at place i
abbrev pub channel_in : Arrays → ℕ → Channel
channel_in a i =
    record {
      from = get_or a.from i 0;
      highest = get_or a.highest i 0;
      ended = eqb (get_or a.ended i 0) 1;
      runs = span a.first a.last (i * run_limit) (get_or a.counts i 0);
    }

-- T4, T5: the arrays with this record's highest, mark and runs at place i, zero in the places behind the runs; nothing else changes
abbrev pub put_in : Arrays → ℕ → Channel → Arrays
put_in a i c =
    record {
      count = a.count;
      numbers = a.numbers;
      from = a.from;
      highest = set a.highest i c.highest;
      ended = set a.ended i (mark c.ended);
      counts = set a.counts i (length c.runs);
      first = sets a.first (i * run_limit) (padded run_limit (firsts c.runs));
      last = sets a.last (i * run_limit) (padded run_limit (lasts c.runs));
    }
