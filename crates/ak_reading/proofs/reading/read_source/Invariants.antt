use Rattle.std.proofs.Common.{◌≡◌, ◌≤◌, ◌+◌, ◌-◌, vec_len}
use Rattle.ak_base.specs.Streams.{with_front}
use Rattle.ak_reading.proofs.reading.read_source.Given as goal

-- the bytes so far and what is left are what the source had
abbrev pub invariant-loop-room : goal.invariant-loop-room
invariant-loop-room g l = record {
  told : with_front l.bytes.items (g.S.Source.left l.source) ≡ g.S.Source.left l.fn.source;
  few : vec_len l.bytes ≤ l.fn.limit + 1;
  never_falls : g.S.Source.faults l.fn.source ≤ g.S.Source.faults l.source;
}

abbrev pub decreases-loop-room : goal.decreases-loop-room
decreases-loop-room g l = (l.fn.limit + 1) - vec_len l.bytes
